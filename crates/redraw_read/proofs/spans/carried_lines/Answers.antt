use Rattle.std.proofs.Common.{◌∙◌, refl, string_bytes, sym}
use Rattle.redraw_read.proofs.Listed.{carries_none, carries_some, ended_as}
use Rattle.redraw_read.proofs.spans.carried_lines.Goals as goal

pub returns-then-is_empty : goal.returns-then-is_empty
returns-then-is_empty c = record { are = carries_none c.args.region c.args.lines.now (sym c.if-is_empty.true ∙ c.is_empty.ensures) }

pub returns : goal.returns
returns c =
    let said = c.in_ok-text_of_lines.ensures.are in
    record {
      are =
          carries_some c.args.region c.args.lines.now said.0 _ (sym c.if-is_empty.false ∙ c.is_empty.ensures) said.1
          record {
            first = refl;
            text = ended_as (string_bytes c.in_ok-text_of_lines.field-0) (string_bytes c.in_ok-text.text) _ said.2 c.in_ok-text.ensures.is;
            whole = refl;
          };
    }
