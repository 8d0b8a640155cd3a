-- The case that a value of JSON describes: its settings, its sheets and its groups, by the fields of the value.
use Rattle.std.specs.Prelude.{◌≡◌, ℕ, List, Bool, false, Option, Some, None, codes, if◌then◌else◌}
use Rattle.annotate_snippets.specs.Settings.{plain_settings}
use Rattle.annotate_snippets.specs.declared.renderer.DecorStyle.{DecorStyle}
use Rattle.annotate_snippets.specs.declared.renderer.DecorStyle.TheVariants.{Ascii, Unicode}
use Rattle.annotate_snippets.specs.declared.renderer.Renderer.{Renderer}
use Rattle.serde_json.specs.Data.{Data}
use Rattle.serde_json.specs.Find.{as_bool}
use Rattle.json_lines.specs.Field.{SaysAt, ListSays, as_whole, given, given_or, text_field}
use Rattle.replay_read.specs.Report.{AreSourcesOf, IsGroupOf}
use Rattle.replay_read.specs.Sheet.{AreSheetsOf}
use Rattle.replay_read.specs.Shape.{HasShape}
use Rattle.replay_read.specs.declared.shape.Shape.TheVariants as shape
use Rattle.replay_answer.specs.declared.case.Case.{Case}

-- the strokes, by whether the Unicode ones are asked for
abbrev pub decor_of : Bool → DecorStyle
decor_of unicode = if unicode then Unicode else Ascii

-- the renderer of an object of settings: what the plain one has, but for the fields that are there
pub record HasSettingsOf (d : Data) (renderer : Renderer) : Type 0 where
  pub only : HasShape shape.Settings d
  pub no_graphics : given_or as_bool false (codes "no_graphics") d ≡ Some renderer.no_graphics
  pub short_message : given_or as_bool false (codes "short_message") d ≡ Some renderer.short_message
  pub term_width : given_or as_whole 140 (codes "term_width") d ≡ Some renderer.term_width
  pub unicode : (unicode : Bool) × (given_or as_bool false (codes "unicode") d ≡ Some unicode) × (renderer.decor_style ≡ decor_of unicode)
  pub snippet : given_or as_bool false (codes "anonymized_snippet") d ≡ Some renderer.anonymized_snippet_line_numbers
  pub origin : given_or as_bool false (codes "anonymized_origin") d ≡ Some renderer.anonymized_origin_line_numbers
  pub hyperlink : given_or as_bool false (codes "hyperlink") d ≡ Some renderer.hyperlink
  pub show_line_feeds : given_or as_bool false (codes "show_line_feeds") d ≡ Some renderer.show_line_feeds
  pub context_before : given_or as_whole 0 (codes "context_before") d ≡ Some renderer.context_before
  pub context_after : given_or as_whole 0 (codes "context_after") d ≡ Some renderer.context_after
  pub wrap : given_or as_bool false (codes "wrap") d ≡ Some renderer.wrap
  pub mask_controls : given_or as_bool false (codes "mask_controls") d ≡ Some renderer.mask_controls
  pub label_lines : given_or as_bool false (codes "label_lines") d ≡ Some renderer.label_lines
  pub stylesheet : renderer.stylesheet ≡ plain_settings.stylesheet

-- the same where the settings may be missing: then it is the plain one
abbrev pub MayHaveSettings : Option Data → Renderer → Type 0
MayHaveSettings None renderer = renderer ≡ plain_settings
MayHaveSettings (Some d) renderer = HasSettingsOf d renderer

-- the case that is described
pub record IsCaseOf (d : Data) (case : Case) : Type 0 where
  pub only : HasShape shape.Case d
  pub id : text_field (codes "id") d ≡ Some case.id.now
  pub renderer : MayHaveSettings (given (codes "settings") d) case.renderer
  pub sheets : AreSheetsOf (given (codes "sheets") d) case.sheets.items
  pub html : given_or as_bool false (codes "html") d ≡ Some case.html
  pub html_page : given_or as_bool false (codes "html_page") d ≡ Some case.html_page
  pub markdown : given_or as_bool false (codes "markdown") d ≡ Some case.markdown
  pub sources : List (List ℕ)
  pub sources_are : AreSourcesOf (given (codes "sources") d) sources
  pub groups : SaysAt (ListSays (IsGroupOf sources)) (codes "groups") d case.groups.items
