use Rattle.snippet_grid.proofs.Common.{common_steps, arith, ◌≡◌, ◌∙◌, ◌++◌, ◌∷◌, [], ℕ, List, ap, sym, encode_utf8_all, string_bytes, map-id, flat_map-append}
use Rattle.snippet_grid.proofs.Common.{encodes-append, YieldsList-from_chars, YieldsList-end, escape, escaped}
use Rattle.std.proofs.Common.{append-nil}
use Rattle.snippet_grid.proofs.html.push_escaped.Goals as goal

-- a text that has the characters so far escaped, and one more, has them all escaped
step : (before now after : List ℕ) (yielded : List ℕ) (ch : ℕ) → now ≡ before ++ encode_utf8_all (escaped yielded)
    → after ≡ now ++ encode_utf8_all (escape ch) → after ≡ before ++ encode_utf8_all (escaped (yielded ++ ch ∷ []))
step before now after yielded ch so_far added = grind (arith, common_steps, flat_map-append, encodes-append)

pub loop-ch-init : goal.loop-ch-init
loop-ch-init c = sym (append-nil _)

pub loop-ch-preserved : goal.loop-ch-preserved
loop-ch-preserved c =
    grind (arith, common_steps, step, c.loop-ch.out, c.loop-ch.yielded, c.in-Some.ch, c.loop-ch.invariant, c.in_ok-push_character.ensures.added)

pub returns : goal.returns
returns c =
    let all = YieldsList-end (YieldsList-from_chars c.args.text.now c.utf8.text cc) c.loop-ch.yielded _ c.loop-ch.yielded_by _ _ c.in-None.is
    c.next.ensures.steps in
    record {
      added =
          c.loop-ch.invariant ∙ ap (λ y. string_bytes c.args.out.now ++ encode_utf8_all (escaped y)) (sym (map-id c.loop-ch.yielded) ∙ all.0);
    }
