use Rattle.std.proofs.Common.{◌≡◌, ◌==◌, drop, length}
use Rattle.std.specs.List.{slice_split}
use Rattle.redraw_read.specs.Extract.{are_lines}
use Rattle.redraw_read.proofs.lines.starts_lines.Given as goal

-- whether the lines that are left are those that start there is what is asked
abbrev pub invariant-loop-line : goal.invariant-loop-line
invariant-loop-line l =
    are_lines l.text l.starts (drop (length l.yielded) (slice_split (λ b. b == 10) l.lines))
    ≡ are_lines l.text l.initial.starts (slice_split (λ b. b == 10) l.lines)
