-- The report that is shown in place of one, as a renderer is set.
use Rattle.std.specs.Prelude.{◌≡◌, ◌==◌, ◌&&◌, Bool, true, false, not, List}
use Rattle.std.specs.List.{AllZip}
use Rattle.snippet_shown.specs.WithContext.{IsGroupWithContext}
use Rattle.snippet_model.specs.declared.snippet.Group.{Group}
use Rattle.snippet_shown.specs.AsMasked.{IsGroupMasked}
use Rattle.snippet_shown.specs.AsSet.{IsGroupAsSet}
use Rattle.snippet_shown.specs.AsWrapped.{IsGroupWrapped}
use Rattle.annotate_snippets.specs.Gutter.{gutter_of_report}
use Rattle.annotate_snippets.specs.declared.renderer.Renderer.{Renderer}
use Rattle.annotate_snippets.specs.declared.renderer.form.Form.{Form}
use Rattle.annotate_snippets.specs.declared.renderer.form.Form.TheVariants.{Graphic, Short, Text}

-- whether lines around those that are kept are shown too: in the graphic form, where a number of them is set
abbrev pub adds_context : Form → Renderer → Bool
adds_context Graphic r = not (r.context_before == 0 && r.context_after == 0)
adds_context Short r = false
adds_context Text r = false

-- whether titles and messages are wrapped: in the graphic form, where that is set
abbrev pub wraps : Form → Renderer → Bool
wraps Graphic r = r.wrap
wraps Short r = false
wraps Text r = false

-- whether a report is shown in a form just as it is given: nothing is set that makes another of it
abbrev pub shows_as_given : Form → Renderer → Bool
shows_as_given form r = not r.show_line_feeds && not r.mask_controls && not (adds_context form r) && not (wraps form r)

-- the second report is made of the first, each group of the group in its place, if that is asked for; else it is the same
abbrev pub IsStep : Bool → (Group → Group → Type 0) → List Group → List Group → Type 0
IsStep true Made groups shown = AllZip Made groups shown
IsStep false Made groups shown = shown ≡ groups

-- the second report is made of the first, step by step: with the line feeds of its texts as they are set, then with the controls of its texts
-- masked, where they are, then with the lines around those that it keeps, where they are shown, and then with its titles and messages wrapped
-- for the terminal, beside the gutter that it has then, where they are
pub record IsRemade (form : Form) (r : Renderer) (groups shown : List Group) : Type 0 where
  pub fed : List Group
  pub masked : List Group
  pub around : List Group
  pub feeds : AllZip (IsGroupAsSet r.show_line_feeds) groups fed
  pub mask : IsStep r.mask_controls IsGroupMasked fed masked
  pub context : IsStep (adds_context form r) (IsGroupWithContext r.context_before r.context_after) masked around
  pub wrap : IsStep (wraps form r) (IsGroupWrapped r.term_width (gutter_of_report r around)) around shown

-- a report with its line feeds as they are set, and then with its controls masked
pub record IsMaskedFed (r : Renderer) (groups masked : List Group) : Type 0 where
  pub fed : List Group
  pub feeds : AllZip (IsGroupAsSet r.show_line_feeds) groups fed
  pub mask : AllZip IsGroupMasked fed masked

-- the second report is the one whose lines and words are shown: the first with its controls masked, where they are, else the first
abbrev pub IsMaskedFor : Bool → Renderer → List Group → List Group → Type 0
IsMaskedFor true r groups masked = IsMaskedFed r groups masked
IsMaskedFor false r groups masked = masked ≡ groups

-- the same report, or one that is made of it
abbrev pub IsShownFor : Bool → Form → Renderer → List Group → List Group → Type 0
IsShownFor true form r groups shown = shown ≡ groups
IsShownFor false form r groups shown = IsRemade form r groups shown

-- the second report is shown in a form in place of the first: where nothing is set that makes another of it, the same
abbrev pub IsAsSet : Form → Renderer → List Group → List Group → Type 0
IsAsSet form r groups shown = IsShownFor (shows_as_given form r) form r groups shown
