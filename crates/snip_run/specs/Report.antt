-- The report that a command asks for.
use Rattle.std.specs.Prelude.{◌≡◌, ℕ, true, false, List, [], ◌∷◌, Some, None}
use Rattle.std.specs.Borrow.{Bor}
use Rattle.std.specs.Cow.{cow_str_bytes}
use Rattle.std.specs.Option.{option_map}
use Rattle.annotate_snippets.specs.declared.renderer.RenderError.{RenderError}
use Rattle.annotate_snippets.specs.declared.snippet.Annotation.{Annotation}
use Rattle.annotate_snippets.specs.declared.snippet.AnnotationKind.TheVariants.{Primary}
use Rattle.annotate_snippets.specs.declared.snippet.Element.TheVariants.{Cause}
use Rattle.annotate_snippets.specs.declared.snippet.Group.{Group}
use Rattle.annotate_snippets.specs.declared.snippet.Snippet.{Snippet}
use Rattle.annotate_snippets.specs.declared.snippet.Title.{Title}
use Rattle.annotate_snippets.specs.Levels.{error_level}
use Rattle.annotate_snippets.specs.Fault.{first_refusal}
use Rattle.annotate_snippets.specs.Laws.Forms.{HasLaws}
use Rattle.annotate_snippets.specs.Forms.{ShowsReport}
use Rattle.program.specs.OptionSettings.{settings_of}
use Rattle.snip_run.specs.declared.arguments.SnipCommand.{SnipCommand}

-- the title of a command's report: an error with the text that the command gives
pub record IsTitleFor (command : SnipCommand) (title : Title) : Type 0 where
  pub level_is : title.level ≡ error_level
  pub text : cow_str_bytes title.text ≡ command.title.now
  pub id : title.id ≡ None
  pub untrusted : title.allows_styling ≡ false

-- the annotation: a primary one of the bytes that the command gives, with its label
pub record IsMarkFor (command : SnipCommand) (mark : Annotation) : Type 0 where
  pub kind : mark.kind ≡ Primary
  pub start : mark.span.start ≡ command.start
  pub end : mark.span.end ≡ command.end
  pub label : option_map cow_str_bytes mark.label ≡ option_map (λ (t : Bor (List ℕ)). t.now) command.label

-- the snippet: the whole source, from line 1, with the one annotation
pub record IsSnippetFor (command : SnipCommand) (source : List ℕ) (snippet : Snippet Annotation) : Type 0 where
  pub mark : Annotation
  pub mark_is : IsMarkFor command mark
  pub markers : snippet.markers.items ≡ mark ∷ []
  pub source_is : cow_str_bytes snippet.source.text ≡ source
  pub path : snippet.path ≡ None
  pub line_start : snippet.line_start ≡ 1
  pub line_numbering : snippet.line_numbering ≡ true
  pub fold : snippet.fold ≡ true

-- the report that a command asks for over a source: one group, of the title and the snippet, in the styles of an error
pub record IsReportFor (command : SnipCommand) (source : List ℕ) (groups : List Group) : Type 0 where
  pub title : Title
  pub title_is : IsTitleFor command title
  pub snippet : Snippet Annotation
  pub snippet_is : IsSnippetFor command source snippet
  pub group : Group
  pub groups_are : groups ≡ group ∷ []
  pub titled : group.title ≡ Some title
  pub elements : group.elements.items ≡ Cause snippet ∷ []
  pub kind : group.level ≡ error_level.kind

-- the text shows the command's report over the source, in the settings that its options ask for, and has its laws; it isn't refused in
-- these
pub record ShowsCommand (command : SnipCommand) (source text : List ℕ) : Type 0 where
  pub groups : List Group
  pub report : IsReportFor command source groups
  pub allowed : first_refusal (settings_of command.options) groups ≡ None
  pub shows : ShowsReport (settings_of command.options) groups (settings_of command.options).stylesheet text
  pub laws : HasLaws (settings_of command.options) groups (settings_of command.options).stylesheet text

-- the command's report over the source is refused, in these settings, and this is the first reason
pub record RefusesCommand (command : SnipCommand) (source : List ℕ) (refusal : RenderError) : Type 0 where
  pub groups : List Group
  pub report : IsReportFor command source groups
  pub refused : first_refusal (settings_of command.options) groups ≡ Some refusal
