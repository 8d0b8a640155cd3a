use Rattle.std.proofs.Common.{◌≡◌, ◌∙◌, ◌++◌, ◌∷◌, ◌+◌, ◌≤◌, [], ℕ, List, ap, arith, refl, rules, sym, append-nil, encode_utf8_all, length, length-append, map}
use Rattle.std.specs.Prelude.{encode_utf8}
use Rattle.std.proofs.lemmas.List.{map-id}
use Rattle.std.proofs.lemmas.Str.{encodes-append, encodes-chars}
use Rattle.std.proofs.lemmas.Iterator.{YieldsList-from_chars}
use Rattle.std.proofs.lemmas.Iterator.Consumers.{YieldsList-end}
use Rattle.serde_json.specs.Data.{Data}
use Rattle.serde_json.specs.View.{view}
use Rattle.redraw_tools.specs.Filling.{Way, settled, start, taken, taken_all}
use Rattle.redraw_tools.proofs.placeholders.filled.Goals as goal

-- what grew by no more than the characters so far, and then by no more than the next one, grew by no more than all of them
step : (first before after : ℕ) (yielded : List ℕ) (c : ℕ) → before ≤ first + length (encode_utf8_all yielded)
    → after ≤ before + length (encode_utf8 c) → after ≤ first + length (encode_utf8_all (yielded ++ c ∷ []))
step first before after yielded c so_far more =
    let all : length (encode_utf8_all (yielded ++ c ∷ [])) ≡ length (encode_utf8_all yielded) + length (encode_utf8 c) =
    ap length (encodes-append yielded (c ∷ [])) ∙ length-append (encode_utf8_all yielded) (encode_utf8_all (c ∷ []))
    ∙ ap (λ bs. length (encode_utf8_all yielded) + length bs) (append-nil (encode_utf8 c)) in
    omega (arith, all)

-- one more character
taken-more : (arguments : List Data) (w : Way) (cs : List ℕ) (c : ℕ)
    → taken_all arguments w (cs ++ c ∷ []) ≡ taken arguments (taken_all arguments w cs) c
taken-more arguments w [] c = refl
taken-more arguments w (d ∷ ds) c = taken-more arguments (taken arguments w d) ds c

pub loop-c-init : goal.loop-c-init
loop-c-init c = (omega arith, search rules)

pub loop-c-preserved : goal.loop-c-preserved
loop-c-preserved c =
    let arguments = map view c.args.arguments.now in (
      step _ _ _ c.loop-c.yielded c.in-Some.c c.loop-c.invariant.0 c.in_ok-take.ensures.bounded,
      c.in_ok-take.ensures.taken ∙ ap (λ (w : Way). taken arguments w c.in-Some.c) c.loop-c.invariant.1
          ∙ sym (taken-more arguments start c.loop-c.yielded c.in-Some.c),
    )

pub returns-clause-bounded : goal.returns-clause-bounded
returns-clause-bounded c =
    let all = YieldsList-end (YieldsList-from_chars c.args.text.now c.utf8.text cc) c.loop-c.yielded _ c.loop-c.yielded_by _ _ c.in-None.is
    c.next.ensures.steps in
    let read : length (encode_utf8_all c.loop-c.yielded) ≡ length c.args.text.now =
    ap (λ cs. length (encode_utf8_all cs)) (sym (map-id c.loop-c.yielded) ∙ all.0) ∙ ap length (encodes-chars c.args.text.now c.utf8.text) in
    let so_far = c.loop-c.invariant.0 in
    omega (arith, read, so_far, c.in_ok-settle.ensures.bounded)

pub returns-clause-value : goal.returns-clause-value
returns-clause-value c =
    let all = YieldsList-end (YieldsList-from_chars c.args.text.now c.utf8.text cc) c.loop-c.yielded _ c.loop-c.yielded_by _ _ c.in-None.is
    c.next.ensures.steps in
    ap (λ (w : Way). w.text)
    (c.in_ok-settle.ensures.settled
    ∙ ap settled (c.loop-c.invariant.1 ∙ ap (taken_all (map view c.args.arguments.now) start) (sym (map-id c.loop-c.yielded) ∙ all.0)))
