-- The characters so far are shown as whitespace: what is asked of the line is asked of so much of the rest.
use Rattle.snippet_strokes.proofs.Common.{◌≡◌, length, drop, take, is_whitespace, list_all, norm}
use Rattle.std.specs.Str.{chars}
use Rattle.snippet_strokes.proofs.whole_line.begins_blank.Given as goal

abbrev pub invariant-loop-c : goal.invariant-loop-c
invariant-loop-c l =
    list_all is_whitespace (take l.left (norm (drop (length l.yielded) (chars l.line)))) ≡ list_all is_whitespace (take l.count (norm (chars l.line)))
