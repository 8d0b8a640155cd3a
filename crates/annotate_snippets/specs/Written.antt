-- What a writer holds once a report was to be written to it.
use Rattle.std.specs.Prelude.{◌≡◌, ◌⊎◌, ℕ, Bool, true, false, List, [], ◌∷◌, ◌++◌, Option, Result, Ok, Err, alloc_error, if◌then◌else◌, string_bytes}
use Rattle.std.specs.Io.KnownBytes.{Appends}
use Rattle.snippet_grid.specs.Woven.{Prints}
use Rattle.snippet_model.specs.declared.snippet.Group.{Group}
use Rattle.snippet_style.specs.Cell.{Cell}
use Rattle.snippet_style.specs.declared.role.LevelInner.{LevelInner}
use Rattle.snippet_style.specs.declared.stylesheet.Stylesheet.{Stylesheet}
use Rattle.output_stream.specs.Part.{AppendsPart}
use Rattle.annotate_snippets.specs.WithLaws.{IsTextUnder}
use Rattle.annotate_snippets.specs.Forms.{ShowsForm}
use Rattle.annotate_snippets.specs.Lent.{held}
use Rattle.annotate_snippets.specs.Page.{GroupPage, group_rows}
use Rattle.annotate_snippets.specs.declared.renderer.Renderer.{Renderer}
use Rattle.annotate_snippets.specs.declared.renderer.form.Form.{Form}
use Rattle.annotate_snippets.specs.declared.renderer.page.SheetPage.{SheetPage}
use Rattle.annotate_snippets.specs.declared.renderer.report_writer.ReportWriter.{ReportWriter}
use Rattle.annotate_snippets.specs.declared.renderer.error.RenderError.TheVariants.{Memory}
use Rattle.annotate_snippets.specs.declared.renderer.to_writer.RenderToError.{RenderToError}
use Rattle.annotate_snippets.specs.declared.renderer.to_writer.RenderToError.TheVariants.{Refused, Write}

-- known bytes grow by a text of this kind
pub record WritesText (Is : List ℕ → Type 0) (old new : Option (List ℕ)) : Type 0 where
  pub text : List ℕ
  pub is : Is text
  pub appended : Appends old new text

-- known bytes grow by a first part of a text of this kind, which may be nothing and isn't all
pub record WritesPart (Is : List ℕ → Type 0) (old new : Option (List ℕ)) : Type 0 where
  pub text : List ℕ
  pub is : Is text
  pub part : AppendsPart old new text

-- what may keep a report within bounds from being written: that a growth of memory is refused, or that the writer fails
abbrev pub IsStop : RenderToError → Type 0
IsStop (Refused refusal) = refusal ≡ Memory alloc_error
IsStop (Write error) = Unit {0}

-- whether an error says that the writer failed
abbrev pub is_write : RenderToError → Bool
is_write (Refused refusal) = false
is_write (Write error) = true

-- whether an answer does
abbrev pub blames_writer : {A : Type 0} → Result A RenderToError → Bool
blames_writer (Ok value) = false
blames_writer (Err error) = is_write error

-- a text prints the rows of a group in its level, after a line feed unless the group is the first
pub record PrintsGroup (sheet : Stylesheet) (first : Bool) (level : LevelInner) (rows : List (List Cell)) (text : List ℕ) : Type 0 where
  pub part : List ℕ
  pub prints : Prints sheet level rows part
  pub text_is : text ≡ (if first then part else 10 ∷ part)

-- a text shows a report in a form under the renderer's own sheet
abbrev pub ShowsIn : Form → Renderer → List Group → List ℕ → Type 0
ShowsIn form r groups text = ShowsForm form r groups (r.stylesheet ∷ []) (text ∷ [])

-- and it has the laws of that form
abbrev pub IsTextIn : Form → Renderer → List Group → List ℕ → Type 0
IsTextIn form r groups text = IsTextUnder form r groups r.stylesheet text

-- a text grew by one that prints the rows of a group in its level
pub record AddsGroup (sheet : Stylesheet) (first : Bool) (level : LevelInner) (rows : List (List Cell)) (old new : List ℕ) : Type 0 where
  pub text : List ℕ
  pub prints : PrintsGroup sheet first level rows text
  pub added : new ≡ old ++ text

-- a page is under this sheet, and nothing is printed on it yet
pub record IsEmptyPage (sheet : Stylesheet) (page : SheetPage) : Type 0 where
  pub under : page.codes ≡ sheet
  pub empty : string_bytes page.text ≡ []

-- a page grew by the rows of a group in its level, under the page's sheet
pub record AddsToPage (first : Bool) (level : LevelInner) (rows : List (List Cell)) (old new : SheetPage) : Type 0 where
  pub under : new.codes ≡ old.codes
  pub added : AddsGroup old.codes first level rows (string_bytes old.text) (string_bytes new.text)

-- what a writer holds, of which `contents` says the bytes, grew by a text that prints a group under the writer's sheet. No write failed
pub record WritesGroup {W : Type 0} (contents : W → Option (List ℕ)) (first : Bool) (g : GroupPage) (old new : ReportWriter W) : Type 0 where
  pub same_reference : new.target.ghost_name ≡ old.target.ghost_name
  pub sheet : new.codes.now ≡ old.codes.now
  pub sound : new.has_failed ≡ old.has_failed
  pub written : WritesText (PrintsGroup old.codes.now first g.level (group_rows g)) (held contents old) (held contents new)

-- the group isn't written whole: memory is refused, or a write failed and is told as one; what the writer holds grew by a first part of
-- such a text, or is as it was
pub record StopsAtGroup {W : Type 0} (contents : W → Option (List ℕ)) (first : Bool) (g : GroupPage) (error : RenderToError)
    (old new : ReportWriter W) : Type 0 where
  pub same_reference : new.target.ghost_name ≡ old.target.ghost_name
  pub told : old.has_failed ≡ false → new.has_failed ≡ is_write error
  pub stop : IsStop error
  pub part : (new ≡ old) ⊎ WritesPart (PrintsGroup old.codes.now first g.level (group_rows g)) (held contents old) (held contents new)
