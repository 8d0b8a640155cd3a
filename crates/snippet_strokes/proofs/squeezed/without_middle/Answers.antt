use Rattle.std.proofs.Common.{ap, sym, subst}
use Rattle.snippet_strokes.proofs.Common.{◌≡◌, ◌∙◌, ◌++◌, ◌∷◌, [], ℕ, true, List, Some, LineAnnotation, Layout, AreDrawable, IfOk-weaker, map, past_middle}
use Rattle.snippet_strokes.proofs.Common.{◌+◌, ◌-◌, code_cell, fold-append, placeholder_of, Cell}
use Rattle.std.specs.List.{slice_get}
use Rattle.std.proofs.lemmas.Option.{slice_get-get_or}
use Rattle.snippet_strokes.specs.Cuts.{end_columns, middle_replaced}
use Rattle.snippet_strokes.specs.Squeezed.{gives_way, middles_replaced}
use Rattle.snippet_strokes.proofs.SqueezedLemmas.{Line, drawable_past, on_ok_from, row_without, without_gives}
use Rattle.snippet_strokes.proofs.squeezed.without_middle.Goals as goal

-- the entry gives way
gives : (c : goal.After-drop-entries-2) → gives_way c.args.layout.decor c.args.room c.args.entries.items c.index-entry.result.now ≡ true
gives c =
    let e = c.index-entry.result.now in
    let told : c.gives_way.result ≡ true = cc in
    ap (λ (l : Layout). gives_way l.decor c.args.room c.args.entries.items e) (sym c.layout.view_is)
    ∙ ap (λ (es : List LineAnnotation). gives_way c.layout.inside.decor c.args.room es e) (sym c.deref.ensures.value) ∙ sym c.gives_way.ensures.value ∙ told

-- so all are moved past its middle
past : (c : goal.After-drop-entries-2) → map (past_middle c.layout-2.inside.decor c.args.room c.index-entry.result.now) c.deref-2.result.now
    ≡ map (past_middle c.args.layout.decor c.args.room c.index-entry.result.now) c.args.entries.items
past c =
    let e = c.index-entry.result.now in
    ap (λ (es : List LineAnnotation). map (past_middle c.layout-2.inside.decor c.args.room e) es) c.deref-2.ensures.value
    ∙ ap (λ (l : Layout). map (past_middle l.decor c.args.room e) c.args.entries.items) c.layout-2.view_is

there : (c : goal.After-drop-entries-2) → slice_get c.args.entries.items c.args.k ≡ Some c.index-entry.result.now
there c = slice_get-get_or c.args.entries.items c.args.k c.index-entry.result.now c.requires.there ∙ ap Some (sym c.index-entry.ensures)

pub returns-clause-drawable : goal.returns-clause-drawable
returns-clause-drawable c =
    let e = c.index-entry.result.now in
    let layout = c.args.layout in
    IfOk-weaker c.past_middle.result _ (λ line. AreDrawable layout line.items) (λ line is. subst (AreDrawable layout) (sym (is ∙ past c))
    (drawable_past layout c.args.room c.args.entries.items e (gives c) c.requires.entries)) c.past_middle.ensures.value

pub returns-clause-value : goal.returns-clause-value
returns-clause-value c =
    IfOk-weaker c.past_middle.result _ _ (λ line is cut. is ∙ past c ∙ sym (ap (λ (l : Line). l.0)
    (without_gives c.args.layout c.args.room (c.args.entries.items, cut) c.args.k c.index-entry.result.now (there c) (gives c)))) c.past_middle.ensures.value

pub returns-clause-row : goal.returns-clause-row
returns-clause-row c =
    let e = c.index-entry.result.now in
    let layout = c.args.layout in
    let room = c.args.room in
    let kept : ℕ = c.end_columns-kept.result in
    let from : c.code_cell.result + kept ≡ code_cell layout e.start.display + end_columns room = ap (λ n. n + kept) c.code_cell.ensures.value
    ∙ ap (λ n. code_cell layout e.start.display + n) c.end_columns-kept.ensures.value in
    let to : c.code_cell-2.result - kept ≡ code_cell layout e.end.display - end_columns room = ap (λ n. n - kept) c.code_cell-2.ensures.value
    ∙ ap (λ n. code_cell layout e.end.display - n) c.end_columns-kept.ensures.value in
    on_ok_from c.past_middle.result (λ cut above source old_is.
    let row_of : List LineAnnotation → List Cell = λ es. middles_replaced layout room es source in
    row_without layout room e above (row_of cut) c.args.row (c.code_cell.result + kept) (c.code_cell-2.result - kept) _ c.args.buffer.now
    c.replace.new.self c.requires.last old_is from to
    (c.placeholder.ensures.value ∙ ap (λ (l : Layout). placeholder_of l.decor) c.layout-2.view_is) c.in_ok-replace.ensures.ok
    ∙ ap (λ cells. above ++ cells ∷ []) (sym (fold-append (λ cells x. middle_replaced layout room x cells) source cut (e ∷ [])))
    ∙ sym (ap (λ (l : Line). above ++ row_of l.1 ∷ []) (without_gives layout room (c.args.entries.items, cut) c.args.k e (there c) (gives c))))
