use Rattle.snippet_strokes.proofs.Common.{◌≡◌, ◌++◌, take, bars_apart}
use Rattle.snippet_strokes.proofs.bars.add_bars_apart.Given as goal

-- those of the bars so far that stand apart were added
abbrev pub invariant-loop-bar : goal.invariant-loop-bar
invariant-loop-bar l = l.list.items ≡ l.initial.list.items ++ bars_apart (take l.bar-index l.bars) l.others
