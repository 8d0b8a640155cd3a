-- What the code knows of a report's groups and elements while it goes over them.
use Rattle.std.specs.Prelude.{◌==◌, ◌&&◌, ◌-◌, Bool, true, false, not, drop, length, take, Option, ℕ, List, [], ◌∷◌, is_some, if◌then◌else◌}
use Rattle.std.specs.Prelude.{◌≡◌, Some}
use Rattle.snippet_model.specs.declared.snippet.Element.{Element}
use Rattle.snippet_model.specs.declared.snippet.Element.TheVariants.{Suggestion}
use Rattle.annotate_snippets.specs.declared.renderer.element_context.GroupPosition.{GroupPosition}
use Rattle.std.specs.Option.{option_copied, option_map}
use Rattle.annotate_snippets.specs.ElementContext.{file_of_element, first_two_share}
use Rattle.annotate_snippets.specs.TextForm.{PreviousSuggestion}
use Rattle.annotate_snippets.specs.declared.renderer.error.RenderError.{RenderError}
use Rattle.annotate_snippets.specs.declared.renderer.error.RenderError.TheVariants.{LineNumberTooLarge}
use Rattle.std.specs.List.{list_any, slice_get}
use Rattle.snippet_model.specs.declared.snippet.Group.{Group}
use Rattle.annotate_snippets.specs.declared.renderer.Renderer.{Renderer}
use Rattle.snippet_model.specs.declared.snippet.Title.{Title}
use Rattle.annotate_snippets.specs.ShortForm.{short_form}
use Rattle.annotate_snippets.specs.declared.renderer.short.ShortForm.{ShortForm}
use Rattle.annotate_snippets.specs.declared.renderer.element_context.ContextWalk.{ContextWalk}
use Rattle.annotate_snippets.specs.declared.renderer.element_context.GroupPosition.TheVariants as place
use Rattle.annotate_snippets.specs.declared.renderer.text_form.PreviousSuggestion as code

-- whether an element is drawn
abbrev pub is_drawn : Element → Bool
is_drawn (Suggestion snippet) = not (length snippet.markers.items == 0)
is_drawn other = true

-- whether a group is its report's first
abbrev pub is_first_group : GroupPosition → Bool
is_first_group place.Later = false
is_first_group position = true

-- a walk over these elements of a group has come to element i
pub record IsWalkAt (es : List Element) (i : ℕ) (walk : ContextWalk) : Type 0 where
  pub first_is : walk.first ≡ (i == 0)
  pub primary_is : walk.primary ≡ not (list_any (λ e. is_some (file_of_element e)) (take i es))
  pub shares_is : walk.shares ≡ (not (i == 0) && first_two_share (drop (i - 1) es))

-- what the code knows of the suggestion right before an element
abbrev pub before_seen : Option code.PreviousSuggestion → Option PreviousSuggestion
before_seen before = option_map (λ (b : code.PreviousSuggestion). record { path = option_copied b.path; number = b.number }) before

-- the faults of an element with this number after its last line: one where the number is missing, as it doesn't fit
abbrev pub end_faults : ℕ → ℕ → Option ℕ → List RenderError
end_faults group element end = if is_some end then [] else LineNumberTooLarge group element ∷ []

-- the short form is that of the first group, which has a title
pub record IsShortForm (r : Renderer) (groups : List Group) (form : ShortForm) : Type 0 where
  pub group : Group
  pub title : Title
  pub first : slice_get groups 0 ≡ Some group
  pub titled : group.title ≡ Some title
  pub level : form.level ≡ group.level
  pub rows : form.rows ≡ short_form r group title
