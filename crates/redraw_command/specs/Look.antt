-- In which markup all is written, and when colours and links are.
use Rattle.std.specs.Prelude.{ℕ, Bool, true, false, ◌&&◌, ◌||◌, List, [], ◌∷◌, Option, Some, None, bytes_eq, codes, not, zero, suc}
use Rattle.std.specs.Option.{option_and_then}
use Rattle.program.specs.Numbers.{number_after_plus}
use Rattle.redraw_command.specs.declared.terminal.Look.{Look}
use Rattle.redraw_command.specs.declared.terminal.Markup.{Markup}
use Rattle.redraw_command.specs.declared.terminal.Markup.TheVariants.{Bare, Html, Markdown}
use Rattle.redraw_command.specs.declared.terminal.Surroundings.{Surroundings}
use Rattle.redraw_command.specs.declared.terminal.When.{When}
use Rattle.redraw_command.specs.declared.terminal.When.TheVariants.{Auto, Always, Never}

-- whether a markup is that of HTML
abbrev pub is_html : Markup → Bool
is_html Bare = false
is_html Html = true
is_html Markdown = false

-- whether codes are written, by when they are to be: always, never, or on a terminal that shows them
abbrev pub are_written : When → Surroundings → Bool
are_written Auto around = around.is_terminal && not around.is_colorless
are_written Always around = true
are_written Never around = false

-- whether codes are written in these surroundings
abbrev pub has_colors : Look → Surroundings → Bool
has_colors look around = are_written look.colors around

-- whether links are written where codes are: where they are asked for, anywhere or on a terminal
abbrev pub has_links : Look → Surroundings → Bool
has_links look around = look.links || (look.links_auto && around.is_terminal)

-- whether a variable is set to anything but nothing
abbrev pub is_set : Option (List ℕ) → Bool
is_set None = false
is_set (Some []) = false
is_set (Some (b ∷ value)) = true

-- whether a terminal of this name shows no colours
abbrev pub is_dumb : Option (List ℕ) → Bool
is_dumb None = false
is_dumb (Some name) = bytes_eq name (codes "dumb")

-- whether colours aren't wanted, or the terminal shows none, by what `NO_COLOR` and `TERM` are set to
abbrev pub is_colorless : (no_color term : Option (List ℕ)) → Bool
is_colorless no_color term = is_set no_color || is_dumb term

-- a width that is at least one column
abbrev pub some_columns : ℕ → Option ℕ
some_columns zero = None
some_columns (suc n) = Some (suc n)

-- the width of the terminal, by what `COLUMNS` is set to
abbrev pub columns_of : Option (List ℕ) → Option ℕ
columns_of value = option_and_then some_columns (option_and_then number_after_plus value)
