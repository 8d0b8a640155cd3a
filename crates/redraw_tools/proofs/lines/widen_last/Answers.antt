use Rattle.std.proofs.Common.{◌≡◌, ◌∙◌, ◌-◌, ◌<◌, ap, arith, get_or, length, map, refl, set}
use Rattle.redraw_report.specs.declared.diagnostic.FileSpan.{FileSpan}
use Rattle.redraw_report.specs.declared.diagnostic.Region.{Region}
use Rattle.redraw_tools.specs.Found.{place_view}
use Rattle.redraw_tools.specs.Told.{widen_place}
use Rattle.redraw_tools.proofs.LastChanged.{last-changed}
use Rattle.redraw_tools.proofs.lines.widen_last.Goals as goal

pub returns-in-Some : goal.returns-in-Some
returns-in-Some c =
    let spans = c.args.spans.now in
    let span = c.in-Some.span.now in
    let some : 0 < length spans.items = omega (arith, c.in-Some.ensures.variant.0 refl, spans.ok.0) in
    let last : spans.len - 1 ≡ length spans.items - 1 = omega (arith, spans.ok.0) in
    let now : FileSpan = record span { region = c.widened-span.result } in
    record {
      value = ap (λ n. map place_view (set spans.items n now)) last
          ∙ last-changed place_view (widen_place c.args.width) spans.items now span some
          (ap (λ (r : Region). record (place_view span) { region = r }) c.widened-span.ensures.value
          ∙ ap (λ s. widen_place c.args.width (place_view s)) (c.in-Some.ensures.value ∙ ap (λ n. get_or spans.items n span) last));
    }
