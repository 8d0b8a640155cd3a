-- The lines in which a part of a file is shown: those of the file, or those that the input has of it.
use Rattle.std.specs.Prelude.{ℕ, ◌-◌, ◌==◌, ◌&&◌, ◌||◌, Bool, true, false, not, nat_lt, List, [], ◌∷◌, Option, Some, None, drop, string_bytes, if◌then◌else◌}
use Rattle.std.specs.List.{find, slice_split}
use Rattle.std.specs.Option.{option_and_then, option_map, option_map_or}
use Rattle.std.specs.Str.{bytes_eq}
use Rattle.redraw_report.specs.Region.{before_line_end, start_bytes}
use Rattle.redraw_report.specs.declared.diagnostic.Carried.{Carried}
use Rattle.redraw_read.specs.declared.hand.Extract as extract_type
use Rattle.redraw_read.specs.declared.hand.Extract.TheVariants.{Whole, Part}
use Rattle.redraw_read.specs.declared.source.Source.{Source}
use Rattle.redraw_read.specs.declared.sources.File.{File}

-- lines that are shown: a text, and the number of its first line
pub record Extract : Type 0 where
  pub text : List ℕ
  pub first_line : ℕ

-- all of a file
abbrev pub whole : List ℕ → Extract
whole text = record { text = text; first_line = 1 }

-- lines that the input has of a file
abbrev pub carried_lines : Carried → Extract
carried_lines c = record { text = string_bytes c.text; first_line = c.first_line }

-- where the lines of a text start that come after the first of those that start at these bytes, if that is this line
abbrev pub after_line : List ℕ → List ℕ → List ℕ → Option (List ℕ)
after_line text [] line = None
after_line text (start ∷ starts) line = if bytes_eq (before_line_end (drop start text)) line then Some starts else None

-- whether these are the lines of a text that start at these bytes of it
abbrev pub are_lines : List ℕ → List ℕ → List (List ℕ) → Bool
are_lines text starts [] = true
are_lines text starts (line ∷ lines) = option_map_or (λ rest. are_lines text rest lines) (after_line text starts line) false

-- whether a text has these lines, from the one of this number on
abbrev pub has_lines : List ℕ → ℕ → List ℕ → Bool
has_lines text number lines =
    nat_lt 0 number && are_lines text (drop (number - 1) (start_bytes text)) (slice_split (λ b. b == 10) lines)

-- the lines in which a part of a file is shown: those of the file, or those that the input has, where the file isn't at hand or has
-- others there; parts of lines only where the file isn't at hand
abbrev pub lines_for : Option (List ℕ) → Option Carried → Option Extract
lines_for None None = None
lines_for None (Some c) = Some (carried_lines c)
lines_for (Some text) None = Some (whole text)
lines_for (Some text) (Some c) =
    Some (if not c.is_whole || has_lines text c.first_line (string_bytes c.text) then whole text else carried_lines c)

-- whether a file was asked for by this name, in a project with this file
abbrev pub is_named : List ℕ → List ℕ → File → Bool
is_named name home f = bytes_eq (string_bytes f.name) name && bytes_eq (string_bytes f.home) home

-- what a file holds, where it was read
abbrev pub held : File → Option (List ℕ)
held f = option_map (λ (s : Source). s.lines) f.source

-- what the file of this name holds, where it was read
abbrev pub held_by_file : List File → List ℕ → List ℕ → Option (List ℕ)
held_by_file files name home = option_and_then held (find (is_named name home) files)

-- the lines that were chosen for a part of a file
abbrev pub chosen : extract_type.Extract → Extract
chosen (Whole source) = whole source.now.lines
chosen (Part lines) = carried_lines lines.now
