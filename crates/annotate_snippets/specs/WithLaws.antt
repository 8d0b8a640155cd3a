-- Texts that show a report, each with the laws of its form.
use Rattle.std.specs.Prelude.{ℕ, List, [], ◌∷◌}
use Rattle.std.specs.List.{AllZip}
use Rattle.snippet_model.specs.declared.snippet.Group.{Group}
use Rattle.snippet_style.specs.declared.stylesheet.Stylesheet.{Stylesheet}
use Rattle.annotate_snippets.specs.Forms.{ShowsForm, TextsShown}
use Rattle.annotate_snippets.specs.declared.renderer.Renderer.{Renderer}
use Rattle.annotate_snippets.specs.declared.renderer.form.Form.{Form}
use Rattle.annotate_snippets.specs.Laws.Forms.{LawsIn, HasLaws}

-- a text shows a report in a form under a sheet, and has the laws of that form
pub record IsTextUnder (form : Form) (r : Renderer) (groups : List Group) (sheet : Stylesheet) (text : List ℕ) : Type 0 where
  pub shows : ShowsForm form r groups (sheet ∷ []) (text ∷ [])
  pub laws : LawsIn form r groups sheet text

-- texts show a report, one under each of these sheets, and each has its laws: what `render_sheets` says of them
pub record TextsWithLaws (r : Renderer) (groups : List Group) (sheets : List Stylesheet) (texts : List (List ℕ)) : Type 0 where
  pub shows : TextsShown r groups sheets texts
  pub laws : AllZip (HasLaws r groups) sheets texts
