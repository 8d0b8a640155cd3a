use Rattle.std.proofs.Common.{◌≡◌, ◌∙◌, ◌-◌, ◌<◌, List, ap, arith, get_or, length, map, refl, set, sym}
use Rattle.std.proofs.lemmas.List.{length-map}
use Rattle.redraw_report.specs.declared.diagnostic.Child.{Child}
use Rattle.redraw_tools.specs.Found.{Place, Remark, found_view, remark_view}
use Rattle.redraw_tools.specs.Told.{widen, widen_remark}
use Rattle.redraw_tools.proofs.LastChanged.{last-changed, widens-remark}
use Rattle.redraw_tools.proofs.lines.widen.Goals as goal

pub returns-in-Some-last_mut : goal.returns-in-Some-last_mut
returns-in-Some-last_mut c =
    let finding = c.args.finding.now in
    let children = finding.children in
    let note = c.in-Some-last_mut.note.now in
    let width = c.in-Some.width in
    let some : 0 < length children.items = omega (arith, c.in-Some-last_mut.ensures.variant.0 refl, children.ok.0) in
    let last : children.len - 1 ≡ length children.items - 1 = omega (arith, children.ok.0) in
    let now : Child = record note { spans = c.widen_last.new.spans } in
    let seen : 0 < length (map remark_view children.items) = omega (arith, some, length-map children.items remark_view) in
    record {
      value = ap (λ (rs : List Remark). record (found_view finding) { remarks = rs })
          (ap (λ n. map remark_view (set children.items n now)) last
          ∙ last-changed remark_view (widen_remark width) children.items now note some
          (ap (λ (ps : List Place). record (remark_view note) { places = ps }) c.widen_last.ensures.value
          ∙ ap (λ r. widen_remark width (remark_view r)) (c.in-Some-last_mut.ensures.value ∙ ap (λ n. get_or children.items n note) last)))
          ∙ sym (widens-remark (found_view finding) (map remark_view children.items) width seen)
          ∙ ap (widen (found_view finding)) (sym c.in-Some.is);
    }
