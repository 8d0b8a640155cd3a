-- The report of a linter's findings.
use Rattle.std.specs.Prelude.{◌≡◌, ℕ, Bool, true, false, List, [], ◌∷◌, Some, None, codes, map}
use Rattle.std.specs.Cow.{cow_str_bytes}
use Rattle.std.specs.List.{AllZip}
use Rattle.std.specs.Option.{option_map}
use Rattle.annotate_snippets.specs.declared.level.Level.{Level}
use Rattle.annotate_snippets.specs.Levels.{help_level, warning_level}
use Rattle.annotate_snippets.specs.declared.snippet.Annotation.{Annotation}
use Rattle.annotate_snippets.specs.declared.snippet.AnnotationKind.TheVariants.{Primary}
use Rattle.annotate_snippets.specs.declared.snippet.Element.{Element}
use Rattle.annotate_snippets.specs.declared.snippet.Element.TheVariants.{Cause, Suggestion}
use Rattle.annotate_snippets.specs.declared.snippet.Group.{Group}
use Rattle.annotate_snippets.specs.declared.snippet.Patch.{Patch}
use Rattle.annotate_snippets.specs.declared.snippet.Snippet.{Snippet}
use Rattle.annotate_snippets.specs.declared.snippet.Title.{Title}
use Rattle.annotate_snippets.specs.Edits.{edit_of, patched}
use Rattle.annotate_snippets.specs.Settings.{plain_settings}
use Rattle.annotate_snippets.specs.declared.renderer.Renderer.{Renderer}
use Rattle.tidy_run.specs.Findings.{Finding}
use Rattle.tidy_run.specs.Mended.{mended}

-- how a report is drawn: plainly, but that line feeds of the file's name are shown
abbrev pub tidy_settings : Renderer
tidy_settings = record plain_settings { show_line_feeds = true }

-- the mark of a finding: a primary one of its bytes, without a label
abbrev pub annotation_of : Finding → Annotation
annotation_of f =
    record { span = record { start = f.start; end = f.end }; label = None; kind = Primary; highlight_source = false }

-- the finding that a patch mends: the bytes that it replaces, and by what
abbrev pub mended_by : Patch → Finding
mended_by p = record { start = p.span.start; end = p.span.end; text = cow_str_bytes p.replacement }

-- a snippet of a file: its path and all of its source, from line 1, with line numbers, and folded
pub record IsOfFile {T : Type 0} (path source : List ℕ) (snippet : Snippet T) : Type 0 where
  pub path_is : option_map cow_str_bytes snippet.path ≡ Some path
  pub source_is : cow_str_bytes snippet.source.text ≡ source
  pub line_start : snippet.line_start ≡ 1
  pub line_numbering : snippet.line_numbering ≡ true
  pub fold : snippet.fold ≡ true

-- a group has a title of this level and text, trusted or not and without an id, and below it this element alone
pub record IsGroupOf (level : Level) (text : List ℕ) (trusted : Bool) (element : Element) (group : Group) : Type 0 where
  pub title : Title
  pub titled : group.title ≡ Some title
  pub level_is : title.level ≡ level
  pub text_is : cow_str_bytes title.text ≡ text
  pub id : title.id ≡ None
  pub trusted_is : title.allows_styling ≡ trusted
  pub kind : group.level ≡ level.kind
  pub elements : group.elements.items ≡ element ∷ []

-- a warning: the primary title of a rule, and the file with a mark at each finding
pub record IsWarning (path source title : List ℕ) (found : List Finding) (group : Group) : Type 0 where
  pub snippet : Snippet Annotation
  pub of_file : IsOfFile path source snippet
  pub marks : snippet.markers.items ≡ map annotation_of found
  pub is : IsGroupOf warning_level title false (Cause snippet) group

-- the help to it: a secondary title, and the file with a patch for each finding; so the patched source, whose lines are offered, is
-- the file with all of the findings mended
pub record IsHelp (path source : List ℕ) (found : List Finding) (group : Group) : Type 0 where
  pub snippet : Snippet Patch
  pub of_file : IsOfFile path source snippet
  pub patches : map mended_by snippet.markers.items ≡ found
  pub mends : patched source (map edit_of snippet.markers.items) ≡ mended source 0 found
  pub is : IsGroupOf help_level (codes "apply this") true (Suggestion snippet) group

-- what a report tells: of a rule's findings, or how to mend them
pub data Told : Type 0 where
  Warning : (title : List ℕ) (found : List Finding) → Told
  Help : (found : List Finding) → Told

-- what is told of a rule: of one that found nothing, nothing
abbrev pub told_of : List ℕ → List Finding → List Told
told_of title [] = []
told_of title (f ∷ fs) = Warning title (f ∷ fs) ∷ Help (f ∷ fs) ∷ []

-- a group tells it, of a file
abbrev pub Tells : List ℕ → List ℕ → Told → Group → Type 0
Tells path source (Warning title found) group = IsWarning path source title found group
Tells path source (Help found) group = IsHelp path source found group

-- a report tells all of it, in order, one group each
abbrev pub IsReportOf : List ℕ → List ℕ → List Told → List Group → Type 0
IsReportOf path source told groups = AllZip (Tells path source) told groups
