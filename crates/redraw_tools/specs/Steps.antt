-- Which steps of a code flow are shown, and what is said of them.
use Rattle.std.specs.Prelude.{codes, ℕ, ◌-◌, nat_le, List, ◌++◌, Option, Some, None, ◌==◌, if◌then◌else◌}
use Rattle.std.specs.Borrow.{Bor}
use Rattle.std.specs.Fmt.{decimal}
use Rattle.std.specs.List.{range_with_len}

-- the indexes of the steps that are shown of so many: of all where they are at most twelve, else of the first four and the last eight
abbrev pub shown_steps : ℕ → List ℕ
shown_steps count =
    if nat_le count 12 then range_with_len 0 count else range_with_len 0 4 ++ range_with_len (count - 8) 8

-- what is said at a step: its number, and its message where it has one
abbrev pub step_label : ℕ → Option (Bor (List ℕ)) → List ℕ
step_label number None = decimal number
step_label number (Some message) = decimal number ++ (codes ": " ++ message.now)

-- what is said of the steps that aren't shown
abbrev pub steps_left_out : ℕ → ℕ → List ℕ
steps_left_out hidden count =
    decimal hidden
    ++ (codes " of " ++ (decimal count ++ (if hidden == 1 then codes " steps is left out" else codes " steps are left out")))
