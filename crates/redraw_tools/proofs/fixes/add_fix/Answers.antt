use Rattle.std.proofs.Common.{◌≡◌, ◌-◌, ◌<◌, ◌∙◌, ◌∷◌, ◌++◌, [], List, ap, arith, false, get_or, length, map, refl, set, string_bytes, sym, true}
use Rattle.std.proofs.lemmas.Bool.{cond-false, cond-true}
use Rattle.std.proofs.lemmas.List.{map-append}
use Rattle.redraw_report.specs.declared.diagnostic.Child.{Child}
use Rattle.redraw_tools.specs.Fixes.{remarks, says_last, with_way}
use Rattle.redraw_tools.specs.Found.{Change, Remark, changes_view, help, remark_view}
use Rattle.redraw_tools.specs.Told.{change_last}
use Rattle.redraw_tools.proofs.LastChanged.{last-changed}
use Rattle.redraw_tools.proofs.fixes.add_fix.Goals as goal

pub returns-in_ok-push : goal.returns-in_ok-push
returns-in_ok-push c =
    let children = c.args.children.now in
    let last = c.index_mut.result.now in
    let text = string_bytes c.args.message in
    let changes = changes_view c.args.edits in
    let some : 0 < length children.items = omega (arith, c.if-says_last.ensures.some refl, ap length c.deref.ensures.value) in
    let at : c.len-last.result - 1 ≡ length children.items - 1 = omega (arith, c.len-last.ensures, children.ok.0) in
    let now : Child = record last { alternatives = c.push.new.self } in
    let says : true ≡ says_last text (remarks children) = c.if-says_last.ensures.value
    ∙ ap (λ t. says_last t (map remark_view c.deref.result.now)) c.as_str.ensures.value
    ∙ ap (λ cs. says_last text (map remark_view cs)) c.deref.ensures.value in
    record {
      added = ap (λ n. map remark_view (set children.items n now)) at
          ∙ last-changed remark_view (with_way changes) children.items now last some
          (ap (λ (ways : List (List Change)). record (remark_view last) { alternatives = ways })
          (ap (map changes_view) c.in_ok-push.ensures.items ∙ map-append changes_view last.alternatives.items (c.args.edits ∷ []))
          ∙ ap (λ r. with_way changes (remark_view r)) (c.index_mut.ensures.value ∙ ap (λ n. get_or children.items n last) at))
          ∙ sym (cond-true (says_last text (remarks children)) (change_last (with_way changes) (remarks children))
          (remarks children ++ help text changes ∷ []) (sym says));
    }

pub returns-in_ok-push-2 : goal.returns-in_ok-push-2
returns-in_ok-push-2 c =
    let children = c.args.children.now in
    let text = string_bytes c.args.message in
    let changes = changes_view c.args.edits in
    let says : false ≡ says_last text (remarks children) = c.if-says_last.ensures.value
    ∙ ap (λ t. says_last t (map remark_view c.deref.result.now)) c.as_str.ensures.value
    ∙ ap (λ cs. says_last text (map remark_view cs)) c.deref.ensures.value in
    record {
      added = ap (map remark_view) c.in_ok-push-2.ensures.items ∙ map-append remark_view children.items (c.in_ok-help_of.field-0 ∷ [])
          ∙ ap (λ (r : Remark). remarks children ++ r ∷ []) c.in_ok-help_of.ensures.value
          ∙ sym (cond-false (says_last text (remarks children)) (change_last (with_way changes) (remarks children))
          (remarks children ++ help text changes ∷ []) (sym says));
    }
