-- What stands around an element of a report, as far as its rows depend on it.
use Rattle.std.specs.Prelude.{ℕ, ◌+◌, ◌-◌, ◌==◌, ◌&&◌, Bool, true, false, not, List, [], ◌∷◌, ◌++◌, Option, None, Some, drop, filter, length, take}
use Rattle.std.specs.Prelude.{if◌then◌else◌}
use Rattle.std.specs.Cow.{cow_str_bytes}
use Rattle.std.specs.List.{filter_map, list_any, slice_get}
use Rattle.std.specs.Option.{is_some, option_eq, option_flatten, option_map, option_or}
use Rattle.std.specs.Str.{bytes_eq}
use Rattle.std.specs.declared.alloc.Global.{Global}
use Rattle.std.specs.declared.borrow.CowStr.{CowStr}
use Rattle.snippet_model.specs.declared.snippet.Group.{Group}
use Rattle.snippet_model.specs.declared.snippet.Element.{Element}
use Rattle.snippet_model.specs.declared.snippet.Element.TheVariants.{Message, Cause, Suggestion, Origin}
use Rattle.snippet_model.specs.declared.snippet.Patch.{Patch}
use Rattle.snippet_model.specs.declared.snippet.Snippet.{Snippet}
use Rattle.snippet_suggest.specs.declared.SuggestionStart.{SuggestionStart}
use Rattle.snippet_suggest.specs.declared.SuggestionStart.TheVariants as start
use Rattle.snippet_suggest.specs.RowOrder.{Ends, SuggestionRow, rows_of_suggestion}
use Rattle.annotate_snippets.specs.declared.renderer.element_context.GroupPosition.{GroupPosition}
use Rattle.annotate_snippets.specs.declared.renderer.element_context.GroupPosition.TheVariants as place
use Rattle.annotate_snippets.specs.declared.renderer.element_context.Next.{Next}
use Rattle.annotate_snippets.specs.declared.renderer.element_context.Next.TheVariants as next
use Rattle.annotate_snippets.specs.declared.renderer.element_context.ElementContext.{ElementContext}

-- the elements of a group that are drawn, in order: a snippet of patches without patches is left out, as if it weren't there
abbrev pub drawn_elements : Group → List Element
drawn_elements g = filter (λ e. elim e [ Suggestion s ↦ not (length s.markers.items == 0) | other ↦ true ]) g.elements.items

-- whether two paths are the same, as they are given; so are two that are missing
abbrev pub is_same_file : Option (List ℕ) → Option (List ℕ) → Bool
is_same_file path other = option_eq bytes_eq path other

-- the file that an element is of: that of an annotated snippet, which may have no path, or of an origin; other elements are of
-- none
abbrev pub file_of_element : Element → Option (Option (List ℕ))
file_of_element (Cause snippet) = Some (option_map cow_str_bytes snippet.path)
file_of_element (Origin origin) = Some (Some (cow_str_bytes origin.path))
file_of_element other = None

-- the path of a group's primary file: that of the first element that is of a file, if it has one
abbrev pub primary_path : Group → Option (List ℕ)
primary_path g = option_flatten (slice_get (filter_map file_of_element g.elements.items) 0)

-- the file that a group's suggestions are for where they name no other: its primary file, or else the report's, which is the first that a
-- group has
abbrev pub file_of_group : List Group → Group → Option (List ℕ)
file_of_group groups g = option_or (primary_path g) (slice_get (filter_map primary_path groups) 0)

-- whether two elements are suggestions for one file
abbrev pub share_file : Element → Element → Bool
share_file (Suggestion s) (Suggestion t) = is_same_file (option_map cow_str_bytes s.path) (option_map cow_str_bytes t.path)
share_file e other = false

-- whether the first two of some elements are such
abbrev pub first_two_share : List Element → Bool
first_two_share (e ∷ d ∷ es) = share_file e d
first_two_share es = false

-- how a suggestion begins: in the last row of a suggestion for the same file right before it, or below its path where it has one that is
-- another than the group's file, or else in a row of its own, as any other element
abbrev pub suggestion_start : Option (List ℕ) → Bool → Element → SuggestionStart
suggestion_start file shares (Suggestion s) =
    let path = option_map cow_str_bytes s.path in
    if shares then start.Next else (if is_some path && not (is_same_file file path) then start.Path else start.Opening)
suggestion_start file shares other = start.Opening

-- what follows, given the elements after it: nothing, a message, or another element
abbrev pub next_of : List Element → Next
next_of [] = next.Nothing
next_of (Message message ∷ es) = next.Message
next_of (e ∷ es) = next.Other

-- what stands around an element that is drawn, element i of these, in a group that stands there and whose file this is
abbrev pub context_at : GroupPosition → Option (List ℕ) → List Element → ℕ → Element → ElementContext
context_at place file es i e =
    record {
      place = place;
      first = i == 0;
      primary = not (list_any (λ d. is_some (file_of_element d)) (take i es));
      start = suggestion_start file (not (i == 0) && first_two_share (drop (i - 1) es)) e;
      shared = first_two_share (drop i es);
      next = next_of (drop (i + 1) es);
    }

-- where group i of so many stands
abbrev pub position_of_group : ℕ → ℕ → GroupPosition
position_of_group count i = if count == 1 then place.Only else (if i == 0 then place.First else place.Later)

-- whether a group is the first of several
abbrev pub is_first_of_several : GroupPosition → Bool
is_first_of_several place.First = true
is_first_of_several position = false

-- whether nothing follows, and whether a message does
abbrev pub is_end : Next → Bool
is_end next.Nothing = true
is_end follows = false

abbrev pub is_before_message : Next → Bool
is_before_message next.Message = true
is_before_message follows = false

-- whether the group's window closes with the last row of an element's lines; and whether it closes after its rows, since
-- another group follows, below which it doesn't go on
abbrev pub closes_with : ElementContext → Bool
closes_with around = is_end around.next && not (is_first_of_several around.place)

abbrev pub closes_after : ElementContext → Bool
closes_after around = is_end around.next && is_first_of_several around.place

-- what the rows of a suggestion show, from top to bottom, and as the last what it ends with, before a further element or not; but
-- that row is the next one's, where the next suggestion begins in it
abbrev pub suggestion_rows : ElementContext → Snippet Patch → List SuggestionRow
suggestion_rows around s =
    rows_of_suggestion around.start s ++ (if around.shared then [] else Ends (not (is_end around.next)) ∷ [])

-- the bytes of a path, if there is one
abbrev pub path_bytes : Option (CowStr Global) → Option (List ℕ)
path_bytes path = option_map cow_str_bytes path
