-- The single line between two lines.
use Rattle.std.specs.Prelude.{ℕ, ◌+◌, ◌==◌, false, Option, Some, None, List, [], if◌then◌else◌}
use Rattle.std.specs.Option.{option_map, option_to_list}
use Rattle.snippet_parts.specs.Annotated.{KeptLine}
use Rattle.snippet_lines.specs.Lines.{line_at, Source}

-- the single line between two lines of these numbers, if there is one, as it is seen: without entries
abbrev pub line_between : Source → ℕ → ℕ → Option KeptLine
line_between s before after =
    if after == before + 2 then option_map (λ text. record { number = before + 1; text = text; parts = []; keep = false }) (line_at s (before + 1))
    else None

-- the same as a list, where there may be no line before
abbrev pub lines_between : Source → Option ℕ → ℕ → List KeptLine
lines_between s None after = []
lines_between s (Some before) after = option_to_list (line_between s before after)
