use Rattle.snippet_lines.proofs.Common.{◌∙◌, ap, arith, length, sym, YieldsList-from_chars, YieldsList-end, map-id, width_of}
use Rattle.snippet_lines.proofs.place.walked.Goals as goal

pub returns : goal.returns
returns c =
    let all = YieldsList-end (YieldsList-from_chars c.args.text.now c.utf8.text cc) c.loop-c.yielded _ c.loop-c.yielded_by _ _ c.in-None.is
    c.next.ensures.steps in
    let whole = sym (map-id _) ∙ all.0 in
    record {
      characters = c.loop-c.invariant.characters ∙ ap length whole;
      columns = c.loop-c.invariant.columns ∙ ap width_of whole;
      bound = omega (arith, c.loop-c.invariant.space);
    }
