-- Which reports and groups aren't refused.
use Rattle.std.specs.Prelude.{◌≡◌, All, List, None, ℕ, []}
use Rattle.snippet_model.specs.declared.snippet.Group.{Group}
use Rattle.annotate_snippets.specs.Fault.{missing_title, group_faults}
use Rattle.annotate_snippets.specs.PreparedReport.{IsGroupDrawable}
use Rattle.annotate_snippets.specs.declared.renderer.Renderer.{Renderer}
use Rattle.annotate_snippets.specs.declared.renderer.form.Form.{Form}
use Rattle.annotate_snippets.specs.AsSet.{IsAsSet}
use Rattle.snippet_model.specs.Fits.{GroupFits}

-- a report is shown in a form in place of another, and it can be drawn: it isn't refused, and each of its texts fits
pub record IsDrawableAsSet (form : Form) (r : Renderer) (groups shown : List Group) : Type 0 where
  pub set : IsAsSet form r groups shown
  pub drawable : All IsGroupDrawable shown
  pub titled : missing_title form shown ≡ None

-- a group that is within bounds wherever it stands: none of its elements has a fault, and each of its texts fits
pub record IsGroupWithinBounds (g : Group) : Type 0 where
  pub faultless : (n : ℕ) → group_faults n g ≡ []
  pub fits : GroupFits g
