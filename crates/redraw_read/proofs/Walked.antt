-- How the lines of a text are walked along.
use Rattle.std.proofs.lemmas.Grind.{common_steps}
use Rattle.std.proofs.Common.{◌≡◌, ℕ, ◌+◌, ◌<◌, List, Option, false, drop, get_or, length, arith}
use Rattle.std.specs.Option.{option_map_or, option_or}
use Rattle.std.proofs.lemmas.List.{at_drop_more}
use Rattle.redraw_read.specs.Extract.{after_line, are_lines}
use Rattle.redraw_read.specs.Rendered.{first_shown, shown_in}
use Rattle.redraw_read.specs.declared.rendered.Stand.{Stand}

-- whether the lines that are left are those that start there, by the first of them
pub are-next : (text starts : List ℕ) (lines : List (List ℕ)) (n : ℕ) (line : List ℕ) (o : Option (List ℕ))
    → (n < length lines) × (line ≡ get_or lines n line) → o ≡ after_line text starts line
    → are_lines text starts (drop n lines) ≡ option_map_or (λ rest. are_lines text rest (drop (n + 1) lines)) o false
are-next text starts lines n line o at e = grind (arith, common_steps, at_drop_more)

-- what the lines that are left show, by the first of them
pub shown-next : (place : Stand) (message : List ℕ) (lines : List (List ℕ)) (n : ℕ) (line : List ℕ) (o : Option (List ℕ))
    → (n < length lines) × (line ≡ get_or lines n line) → o ≡ shown_in place message line
    → first_shown place message (drop n lines) ≡ option_or o (first_shown place message (drop (n + 1) lines))
shown-next place message lines n line o at e = grind (arith, common_steps, at_drop_more)
