use Rattle.snippet_grid.proofs.Common.{common_steps, ◌-◌, arith, refl, string_bytes}
use Rattle.snippet_grid.proofs.ReplaceLemmas.{more_spaces}
use Rattle.snippet_grid.proofs.RunLemmas.{BeginsWith-added, BeginsWith-trans}
use Rattle.snippet_grid.proofs.spaces.push_spaces.Goals as goal

pub loop-left-preserved : goal.loop-left-preserved
loop-left-preserved c =
    record {
      low = omega arith;
      text = more_spaces (string_bytes c.args.out.now) (string_bytes c.loop-left.out) (string_bytes c.push_part.new.out) (c.args.count - c.loop-left.left) 64
          (c.args.count - (c.loop-left.left - 64)) (omega (arith, c.loop-left.invariant.low)) c.loop-left.invariant.text c.in_ok-push_part.ensures.text;
    }

pub returns-clause-text : goal.returns-clause-text
returns-clause-text c =
    more_spaces (string_bytes c.args.out.now) (string_bytes c.loop-left.out) (string_bytes c.push_part-2.new.out)
    (c.args.count - c.loop-left.left) c.loop-left.left c.args.count
    (omega (arith, c.loop-left.invariant.low)) c.loop-left.invariant.text c.in_ok-push_part-2.ensures.text

pub returns-clause-grows : goal.returns-clause-grows
returns-clause-grows c =
    grind (arith, common_steps, BeginsWith-trans, c.loop-left.out, BeginsWith-added, c.loop-left.invariant.text, c.in_ok-push_part-2.ensures.grows)

pub push_part-requires-clause-spaces : goal.push_part-requires-clause-spaces
push_part-requires-clause-spaces c = refl

pub push_part-requires-2-clause-spaces : goal.push_part-requires-2-clause-spaces
push_part-requires-2-clause-spaces c = refl

pub returns-in_err-push_part-clause-grows : goal.returns-in_err-push_part-clause-grows
returns-in_err-push_part-clause-grows c =
    BeginsWith-trans (string_bytes c.args.out.now) (string_bytes c.loop-left.out) (string_bytes c.push_part.new.out)
    (BeginsWith-added (string_bytes c.args.out.now) _ (string_bytes c.loop-left.out) c.loop-left.invariant.text) c.in_err-push_part.ensures.grows

pub returns-in_err-push_part-2-clause-grows : goal.returns-in_err-push_part-2-clause-grows
returns-in_err-push_part-2-clause-grows c =
    BeginsWith-trans (string_bytes c.args.out.now) (string_bytes c.loop-left.out) (string_bytes c.push_part-2.new.out)
    (BeginsWith-added (string_bytes c.args.out.now) _ (string_bytes c.loop-left.out) c.loop-left.invariant.text) c.in_err-push_part-2.ensures.grows
