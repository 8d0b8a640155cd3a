use Rattle.std.proofs.Common.{arith}
use Rattle.annotate_snippets.proofs.Common.{◌≡◌, ◌∙◌, ◌+◌, ◌-◌, ◌<◌, ◌≤◌, ◌^◌, ◌++◌, IfSome, [], All, Bool, List, ap, length, map, refl, subst, sym}
use Rattle.annotate_snippets.proofs.Common.{on_ok_weaker, cow_str_bytes, Annotation, Source, shown_number, IsSpan, LineNumbers, AnnotatedLineInfo, infos_of}
use Rattle.annotate_snippets.proofs.Common.{kept_of, infos_all, annotated_lines, kept_line, seen_kept, shown_lines, LineAnnotation, Layout, IsDrawableLine}
use Rattle.annotate_snippets.proofs.Common.{LineView, margin_in, rows_of_lines, cells_of, infos_rows, Cell, numbered_source, IsCausePrepared, PreparedCause}
use Rattle.annotate_snippets.proofs.GutterLemmas.{numbers_fit}
use Rattle.annotate_snippets.proofs.LineValue.{lines_value}
use Rattle.annotate_snippets.proofs.PartsFacts.{lines_entries, lines_labels, lines_texts, shown_clear}
use Rattle.annotate_snippets.proofs.renderer.cause.draw_cause_lines.Goals as goal
use Rattle.annotate_snippets.proofs.renderer.cause.draw_cause_lines.Goals.{After-deref, After-deref-2}

-- those that are shown
shown_of : (cause : PreparedCause) → IsCausePrepared cause → (source : Source) → source ≡ cause.map → (shown infos : List AnnotatedLineInfo)
    → infos ≡ shown → ((fold : Bool) (marks : List Annotation) → All (λ a. IsSpan source.text a.span.start
    a.span.end) marks → map seen_kept cause.kept.items ≡ annotated_lines fold source marks
    → map seen_kept shown ≡ map (kept_line source marks) (shown_lines fold source.text marks))
    → map seen_kept infos ≡ map (kept_line (numbered_source cause.snippet.now) cause.snippet.now.markers.items)
    (shown_lines cause.snippet.now.fold (cow_str_bytes cause.snippet.now.source.text) cause.snippet.now.markers.items)
shown_of cause prepared source is shown infos same between =
    let s = cause.snippet.now in
    let marks : List Annotation = s.markers.items in
    let Spans : Source → Type 0 = λ x. All (λ a. IsSpan x.text a.span.start a.span.end) marks in
    let source_is : source ≡ numbered_source s = is ∙ prepared.map_is in
    ap (map seen_kept) same ∙ between s.fold marks (subst Spans (sym source_is) prepared.drawable.spans)
    (prepared.kept_are ∙ ap (λ (x : Source). annotated_lines s.fold x marks) (sym source_is))
    ∙ ap (λ (x : Source). map (kept_line x marks) (shown_lines s.fold x.text marks)) source_is

shown_first : (c : After-deref) → map seen_kept (infos_of c.deref.result.now)
    ≡ map (kept_line (numbered_source c.args.cause.snippet.now) c.args.cause.snippet.now.markers.items)
    (shown_lines c.args.cause.snippet.now.fold (cow_str_bytes c.args.cause.snippet.now.source.text) c.args.cause.snippet.now.markers.items)
shown_first c = shown_of _ c.requires.prepared _ refl _ _ (ap infos_of c.deref.ensures.value) c.in_ok-lines.ensures.value

shown_is : (c : After-deref-2) → map seen_kept (infos_of c.deref-2.result.now)
    ≡ map (kept_line (numbered_source c.args.cause.snippet.now) c.args.cause.snippet.now.markers.items)
    (shown_lines c.args.cause.snippet.now.fold (cow_str_bytes c.args.cause.snippet.now.source.text) c.args.cause.snippet.now.markers.items)
shown_is c = shown_of _ c.requires.prepared _ refl _ _ (ap infos_of c.deref-2.ensures.value) c.in_ok-lines.ensures.value

-- a line's text fits, and its labels do
abbrev TextFits : AnnotatedLineInfo → Type 0
TextFits info = length info.line.now < 2 ^ 56

abbrev LabelsFit : AnnotatedLineInfo → Type 0
LabelsFit info = All (λ (e : LineAnnotation). IfSome e.label (λ t. length t < 2 ^ 56)) info.annotations.items

pub with_lines_between-requires-clause-texts : goal.with_lines_between-requires-clause-texts
with_lines_between-requires-clause-texts c =
    grind (arith, lines_texts, c.args.cause.snippet.now, c.requires.prepared.drawable, c.args.cause.kept.items, c.requires.prepared.kept_are)

pub margin_for-margin-requires : goal.margin_for-margin-requires
margin_for-margin-requires c =
    let s = c.args.cause.snippet.now in
    let drawable = c.requires.prepared.drawable in
    let ks = shown_lines s.fold (cow_str_bytes s.source.text) s.markers.items in
    let ls = c.deref.result.now in
    record {
      texts = infos_all TextFits ls (lines_texts (numbered_source s) s.markers.items drawable.spans ks (infos_of ls) (shown_first c) drawable.source);
      labels = infos_all LabelsFit ls (lines_labels (numbered_source s) s.markers.items drawable.spans ks (infos_of ls) (shown_first c) drawable.labels);
    }

-- the lines that are kept, as the margin sees them
kept_is : (c : After-deref-2)
    → map seen_kept (kept_of c.deref.result.now) ≡ annotated_lines c.args.cause.snippet.now.fold
    (numbered_source c.args.cause.snippet.now) c.args.cause.snippet.now.markers.items
kept_is c = ap (map seen_kept) (ap kept_of c.deref.ensures.value ∙ c.in_ok-lines.ensures.kept_are) ∙ c.requires.prepared.kept_are

-- each line can be drawn
pub draw_snippet-requires : goal.draw_snippet-requires
draw_snippet-requires c =
    let s = c.args.cause.snippet.now in
    let source = numbered_source s in
    let marks : List Annotation = s.markers.items in
    let drawable = c.requires.prepared.drawable in
    let lines = c.deref-2.result.now in
    let infos : List AnnotatedLineInfo = infos_of lines in
    let layout : Layout = c.args.layout in
    let margin = c.margin_for-margin.result in
    let ks = shown_lines s.fold (cow_str_bytes s.source.text) marks in
    let Fits : LineNumbers → AnnotatedLineInfo → Type 0 = λ numbers info.
    length (shown_number numbers layout.gutter info.line_index) ≤ layout.gutter + 1 in
    let number : All (Fits c.line_numbers-numbers.result) infos = subst (λ (numbers : LineNumbers). All (Fits numbers) infos)
    (sym c.line_numbers-numbers.ensures.value) (numbers_fit c.args.renderer.now layout s infos c.requires.room drawable (shown_is c)) in
    let text = lines_texts source marks drawable.spans ks infos (shown_is c) drawable.source in
    let entries = lines_entries source marks drawable.spans ks infos (shown_is c) layout c.requires.room.bars drawable.source drawable.labels in
    let clear = shown_clear source marks drawable.spans s.fold (kept_of c.deref.result.now) infos margin (kept_is c) (shown_is c)
    c.margin_for-margin.ensures.clear in
    record {
      drawable = infos_all (IsDrawableLine layout margin c.line_numbers-numbers.result) lines (λ k d within. record {
        number = number k d within;
        text = text k d within;
        entries = entries k d within;
        clear = clear k d within;
      });
    }

-- what is added, in other words
joined : (old new more rows : List (List Cell)) → new ≡ old ++ more → more ≡ rows → new ≡ old ++ rows
joined old new more rows adds same = adds ∙ ap (λ rs. old ++ rs) same

pub returns : goal.returns
returns c =
    let s = c.args.cause.snippet.now in
    let prepared = c.requires.prepared in
    let layout = c.args.layout in
    let lines = infos_of c.deref-2.result.now in
    let kept : map seen_kept (kept_of c.deref.result.now) ≡ annotated_lines s.fold (numbered_source s) s.markers.items = ap (map seen_kept)
    (ap kept_of c.deref.ensures.value ∙ c.in_ok-lines.ensures.kept_are) ∙ prepared.kept_are in
    let room : c.saturating_sub-room.result ≡ c.args.renderer.now.term_width - layout.code = c.saturating_sub-room.ensures
    ∙ ap (λ (l : Layout). c.args.renderer.now.term_width - l.code) c.layout.view_is in
    let view : LineView = record { margin = c.margin_for-margin.result; numbers = c.line_numbers-numbers.result; closes = c.args.closes } in
    let margin : view.margin ≡ margin_in c.args.renderer.now layout s = cc (c.margin_for-margin.ensures.bounds, kept, room) in
    let shown = shown_of c.args.cause prepared c.args.cause.map refl (infos_of c.in_ok-lines.lines.items) lines (ap infos_of c.deref-2.ensures.value)
    c.in_ok-lines.ensures.value in
    let value = lines_value c.args.renderer.now layout s view margin c.line_numbers-numbers.ensures.value []
    (shown_lines s.fold (cow_str_bytes s.source.text) s.markers.items) lines shown in
    let own : List (List Cell) = cells_of (rows_of_lines c.args.renderer.now layout c.args.closes s []
    (shown_lines s.fold (cow_str_bytes s.source.text) s.markers.items)) in
    record {
      rows = on_ok_weaker c.draw_snippet.result (λ adds. joined c.args.buffer.now c.draw_snippet.new.buffer (infos_rows layout view [] lines) own adds value)
          c.draw_snippet.ensures.added;
    }
