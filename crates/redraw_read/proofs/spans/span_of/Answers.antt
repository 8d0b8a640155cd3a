use Rattle.std.proofs.Common.{◌≡◌, ◌∙◌, Some, ap, subst, sym}
use Rattle.json_lines.specs.Field.{lent_text}
use Rattle.serde_json.specs.View.{view}
use Rattle.redraw_read.specs.Places.{HasLines, shown_place}
use Rattle.redraw_read.specs.Spans.{SaysPlace}
use Rattle.redraw_read.proofs.spans.span_of.Goals as goal

pub returns : goal.returns
returns c =
    let span = c.in_ok-span.span in
    let here : view c.at_value-place.result.value.now ≡ shown_place c.args.named.now (view c.args.node.now.value.now) =
    ap view c.at_value-place.ensures.value ∙ c.shown_place.ensures.value in
    record {
      is =
          record {
            place = subst (λ d. SaysPlace d span) here c.in_ok-span.ensures.place;
            lines = subst (λ d. HasLines span.region d span.carried) here c.in_ok-span.ensures.lines;
            said = lent_text c.in_ok-label.label;
            says = c.in_ok-label.ensures.value;
            label = c.in_ok-span.ensures.label;
            primary = c.in_ok-is_primary.ensures.value ∙ ap Some (sym c.in_ok-span.ensures.primary);
          };
    }
