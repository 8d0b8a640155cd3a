use Rattle.std.proofs.Common.{arith}
use Rattle.std.proofs.lemmas.Grind.{common_steps}
use Rattle.snippet_strokes.proofs.Common.{◌≡◌, ◌∙◌, ◌++◌, List, ap, append-nil, option_to_list, OpenBar, bar_of}
use Rattle.snippet_strokes.proofs.OpenLemmas.{ends_more}
use Rattle.snippet_strokes.proofs.bars.ends_on.Goals as goal
use Rattle.snippet_strokes.proofs.bars.ends_on.Goals.{in-Some+in_ok-push, in_default}

pub loop-entry-preserved : goal.loop-entry-preserved
loop-entry-preserved c =
    let before : List OpenBar = c.loop-entry.bars.items in
    let pushed : c.match-bar_of.bars.items ≡ before ++ option_to_list c.bar_of.result =
    grind (arith, common_steps, in-Some+in_ok-push, before, in_default, append-nil, c.match-bar_of.branch) in
    ends_more c.args.entries.now c.loop-entry.entry-index c.entry-item.result before c.match-bar_of.bars.items c.bar_of.result c.loop-entry-test.true
    c.loop-entry.invariant (c.bar_of.ensures.value ∙ ap bar_of c.entry-item.is) pushed
