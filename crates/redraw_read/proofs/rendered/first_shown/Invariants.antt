use Rattle.std.proofs.Common.{◌≡◌, ◌==◌, drop, length}
use Rattle.std.specs.List.{slice_split}
use Rattle.redraw_read.specs.Rendered.{first_shown}
use Rattle.redraw_read.proofs.rendered.first_shown.Given as goal

-- what the lines that are left show is what is asked
abbrev pub invariant-loop-line : goal.invariant-loop-line
invariant-loop-line l =
    first_shown l.place l.message (drop (length l.yielded) (slice_split (λ b. b == 10) l.text))
    ≡ first_shown l.place l.message (slice_split (λ b. b == 10) l.text)
