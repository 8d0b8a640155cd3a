use Rattle.std.proofs.Common.{◌≡◌, ◌∷◌, ◌++◌, [], ℕ, List, Some, IfOk, refl, ap, ◌∙◌}
use Rattle.std.specs.Cow.{cow_str_bytes}
use Rattle.std.specs.Option.{option_map}
use Rattle.annotate_snippets.specs.declared.snippet.Annotation.{Annotation}
use Rattle.annotate_snippets.specs.declared.snippet.Element.{Element}
use Rattle.annotate_snippets.specs.declared.snippet.Group.{Group}
use Rattle.annotate_snippets.specs.declared.snippet.Snippet.{Snippet}
use Rattle.annotate_snippets.specs.declared.snippet.Title.{Title}
use Rattle.snippet_model.specs.Source.{SourceSeen}
use Rattle.snip_run.specs.declared.arguments.SnipCommand.{SnipCommand}
use Rattle.annotate_snippets.specs.KeptSettings.{KeepsSettings}
use Rattle.snip_run.specs.Report.{IsMarkFor, IsSnippetFor, IsTitleFor}
use Rattle.snip_run.proofs.Reporting.{ok_had}
use Rattle.snip_run.proofs.run.report_of.Goals as goal

pub returns-clause-report : goal.returns-clause-report
returns-clause-report c =
    let command : SnipCommand = c.args.command.now in
    let source : List ℕ = c.args.source.now in
    let mark : Annotation = c.label-mark.result in
    let snippet : Snippet Annotation = c.in_ok-snippet.snippet in
    let title : Title = c.primary_title.result in
    let group : Group = c.in_ok-group.group in
    let begun : Snippet Annotation = c.source.result in
    let added : (P : Snippet Annotation → Type 0) → IfOk c.annotation.result P → P snippet = λ P holds.
    ok_had P c.annotation.result snippet c.in_ok-snippet.was holds in
    let kept : KeepsSettings begun snippet = added (KeepsSettings begun) c.annotation.ensures.settings in
    let grouped : (P : Group → Type 0) → IfOk c.element.result P → P group = λ P holds. ok_had P c.element.result group c.in_ok-group.was holds in
    let mark_is : IsMarkFor command mark =
    record {
      kind = ap (λ (a : Annotation). a.kind) c.label-mark.ensures.changed ∙ c.span.ensures.kind;
      start = ap (λ (a : Annotation). a.span.start) c.label-mark.ensures.changed ∙ ap (λ s. s.start) c.span.ensures.span;
      end = ap (λ (a : Annotation). a.span.end) c.label-mark.ensures.changed ∙ ap (λ s. s.end) c.span.ensures.span;
      label = ap (λ (a : Annotation). option_map cow_str_bytes a.label) c.label-mark.ensures.changed ∙ c.from.ensures;
    } in
    let snippet_is : IsSnippetFor command source snippet =
    record {
      mark = mark;
      mark_is = mark_is;
      markers = added (λ s. s.markers.items ≡ begun.markers.items ++ mark ∷ []) c.annotation.ensures.annotations
          ∙ ap (λ (ms : List Annotation). ms ++ mark ∷ []) c.source.ensures.markers;
      source_is = ap (λ (s : SourceSeen). cow_str_bytes s.text) (kept.source ∙ c.source.ensures.source);
      path = kept.path ∙ c.source.ensures.path;
      line_start = kept.line_start ∙ c.source.ensures.line_start;
      line_numbering = kept.line_numbering ∙ c.source.ensures.line_numbering;
      fold = kept.fold ∙ c.source.ensures.fold;
    } in
    let title_is : IsTitleFor command title =
    record {
      level_is = c.primary_title.ensures.level;
      text = ap cow_str_bytes c.primary_title.ensures.text;
      id = c.primary_title.ensures.id;
      untrusted = c.primary_title.ensures.untrusted;
    } in
    record {
      title = title;
      title_is = title_is;
      snippet = snippet;
      snippet_is = snippet_is;
      group = group;
      groups_are = refl;
      titled = grouped (λ g. g.title ≡ Some title) c.element.ensures.title;
      elements = grouped (λ g. g.elements.items ≡ c.from-2.result ∷ []) c.element.ensures.elements ∙ ap (λ (e : Element). e ∷ []) c.from-2.ensures;
      kind = grouped (λ g. g.level ≡ title.level.kind) c.element.ensures.level ∙ ap (λ l. l.kind) c.primary_title.ensures.level;
    }
