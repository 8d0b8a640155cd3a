use Rattle.std.proofs.Common.{◌∙◌, ◌-◌, ◌+◌, ap, arith, string_bytes}
use Rattle.serde_json.specs.View.{view}
use Rattle.json_lines.specs.Field.{lent_text}
use Rattle.redraw_tools.specs.Path.{after_base}
use Rattle.redraw_tools.proofs.Bases.{next_base, no_base, none_left}
use Rattle.redraw_tools.proofs.uri.add_bases.Goals as goal

pub loop-count-preserved : goal.loop-count-preserved
loop-count-preserved c =
    next_base (16 - c.loop-count._count) (16 - (c.loop-count._count + 1)) (view c.args.run.now) (view c.in-Some.location.now)
    (lent_text c.loop-count.base) _ (string_bytes c.loop-count.whole) _ (omega (arith, c.loop-count-test.true)) c.in-Some.ensures.value
    c.text_field-base.ensures.value
    (c.in_ok-whole.ensures.value ∙ ap (after_base (view c.in-Some.location.now)) c.as_str.ensures.value)
    ∙ c.loop-count.invariant

pub returns-in_default : goal.returns-in_default
returns-in_default c =
    record {
      value = no_base (16 - c.loop-count._count) (view c.args.run.now) (lent_text c.loop-count.base) (string_bytes c.loop-count.whole)
          c.in_default.ensures.value
          ∙ c.loop-count.invariant;
    }

pub returns : goal.returns
returns c =
    record {
      value = none_left (16 - c.loop-count._count) (view c.args.run.now) (lent_text c.loop-count.base) (string_bytes c.loop-count.whole)
          (omega (arith, c.loop-count-test.false))
          ∙ c.loop-count.invariant;
    }
