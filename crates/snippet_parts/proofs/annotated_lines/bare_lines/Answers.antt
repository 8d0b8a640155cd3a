use Rattle.snippet_parts.proofs.Common.{common_steps, ◌≡◌, ◌+◌, ◌<◌, ◌++◌, ℕ, List, [], ◌∷◌, map, length, take, get_or, arith, map_more, map_push, KeptLine}
use Rattle.snippet_parts.proofs.Common.{seen_kept, AnnotatedLineInfo}
use Rattle.snippet_parts.proofs.annotated_lines.bare_lines.Goals as goal

-- one more line
more : (f : ℕ → KeptLine) (ks : List ℕ) (i : ℕ) (now new : List AnnotatedLineInfo) (info : AnnotatedLineInfo) → i < length ks → new ≡ now ++ info ∷ []
    → seen_kept info ≡ f (get_or ks i 0) → map seen_kept now ≡ map f (take i ks) → map seen_kept new ≡ map f (take (i + 1) ks)
more f ks i now new info within pushed is before = grind (arith, common_steps, map_push, map_more)

pub loop-line-preserved : goal.loop-line-preserved
loop-line-preserved c =
    grind (arith, common_steps, more, c.loop-line.line-index, c.loop-line-test.true, c.bare_line.ensures.value, c.is_among.ensures.value, c.loop-line.invariant)

pub returns : goal.returns
returns c = grind (arith, common_steps, c.loop-line.invariant, c.loop-line.line-index, c.loop-line-test.false)
