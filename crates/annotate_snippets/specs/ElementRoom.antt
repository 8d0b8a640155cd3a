-- What drawing an element asks of its place, and which rows it leaves.
use Rattle.std.specs.Prelude.{◌≡◌, Bool, true, false, ℕ, ◌+◌, ◌==◌, ◌≤◌, if◌then◌else◌, List, [], ◌∷◌, not, ◌++◌, Some}
use Rattle.std.specs.Option.{is_some, option_map, option_to_list}
use Rattle.snippet_model.specs.declared.snippet.Element.{Element}
use Rattle.snippet_model.specs.declared.snippet.Element.TheVariants.{Suggestion}
use Rattle.snippet_model.specs.declared.snippet.Patch.{Patch}
use Rattle.snippet_model.specs.declared.snippet.Snippet.{Snippet}
use Rattle.snippet_suggest.specs.declared.SuggestionStart.{SuggestionStart}
use Rattle.annotate_snippets.specs.declared.renderer.element_context.ElementContext.{ElementContext}
use Rattle.annotate_snippets.specs.ElementContext.{path_bytes, is_end}
use Rattle.snippet_style.specs.Cell.{Cell}
use Rattle.annotate_snippets.specs.declared.renderer.Renderer.{Renderer}
use Rattle.snippet_grid.specs.Layout.{Layout}
use Rattle.annotate_snippets.specs.Gutter.{depth_of_element, width_wanted}
use Rattle.annotate_snippets.specs.DrawnReport.{last_row}
use Rattle.annotate_snippets.specs.Page.{cells_of}
use Rattle.annotate_snippets.specs.GraphicForm.{element_rows}
use Rattle.std.specs.Cow.{cow_str_bytes}
use Rattle.std.specs.List.{flat_map}
use Rattle.snippet_style.specs.Separators.{separator_row}
use Rattle.annotate_snippets.specs.RowsWithoutSource.{path_row}
use Rattle.snippet_suggest.specs.declared.SuggestionStart.TheVariants as start

-- whether a suggestion that begins so begins in the last row of the element before it
abbrev pub is_next_start : SuggestionStart → Bool
is_next_start start.Next = true
is_next_start begin = false

-- the same, of what stands around an element
abbrev pub begins_in_row_above : ElementContext → Bool
begins_in_row_above around = is_next_start around.start

-- a suggestion that begins below its path has one
abbrev pub HasPathFor : SuggestionStart → Snippet Patch → Type 0
HasPathFor at s = at ≡ start.Path → is_some (path_bytes s.path) ≡ true

-- what stands around an element is such that it can be drawn there: no element but a suggestion begins in the row above it, or has
-- the next one begin in its last row
abbrev pub CanStandIn : ElementContext → Element → Type 0
CanStandIn around (Suggestion s) = HasPathFor around.start s
CanStandIn around other = (begins_in_row_above around ≡ false) × (around.shared ≡ false)

-- the row that an element shares with the next one, if it does
abbrev pub shared_row : Bool → List Cell → List (List Cell)
shared_row shares row = if shares then row ∷ [] else []

-- the cell at which code begins: three after the gutter, and where bars stand between, as many more, and one
abbrev pub code_after : ℕ → ℕ → ℕ
code_after gutter depth = if depth == 0 then gutter + 3 else gutter + 3 + depth + 1

-- the layout has room for an element: its gutter for the number that it counts, and the part after the gutter for its bars
pub record HasRoomFor (r : Renderer) (layout : Layout) (e : Element) : Type 0 where
  pub small : layout.gutter ≤ 20
  pub anonymized : r.anonymized_snippet_line_numbers ≡ true → 2 ≤ layout.gutter
  pub numbers : r.anonymized_snippet_line_numbers ≡ false → width_wanted e ≤ layout.gutter
  pub bars : code_after layout.gutter (depth_of_element e) ≤ layout.code

-- the rows that drawing an element leaves: its own, and the row in which the next one begins, where it shares that
abbrev pub drawn_rows : Renderer → Layout → ElementContext → List Cell → Element → List (List Cell)
drawn_rows r layout around found e =
    cells_of (element_rows r layout around found e) ++ shared_row around.shared (last_row r layout (not (is_end around.next)) (Some e))

-- the row of a suggestion's path, and the separator row below it
abbrev pub path_head : Renderer → Layout → Bool → Snippet Patch → List (List Cell)
path_head r layout first s =
    flat_map (λ path. path_row r layout first s (Some path) ++ separator_row layout.decor layout.gutter ∷ [])
    (option_to_list (option_map cow_str_bytes s.path))
