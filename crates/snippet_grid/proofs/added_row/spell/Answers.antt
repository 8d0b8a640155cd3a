use Rattle.snippet_grid.proofs.Common.{◌≡◌, ◌∙◌, ◌+◌, ◌-◌, ◌<◌, ◌≤◌, ◌++◌, ◌∷◌, [], List, ap, arith, drop, encode_utf8}
use Rattle.snippet_grid.proofs.Common.{encode_utf8_all, get_or, inl, inr, length, map, rules, string_bytes, sym, take, ℕ, cases_eq, append-nil, append_assoc}
use Rattle.snippet_grid.proofs.Common.{get_or-drop, get_or_default, length-drop, map-append, take_more, encodes-append, ch_of, StyledChar}
use Rattle.snippet_grid.proofs.AddedRows.{FIRST}
use Rattle.snippet_grid.proofs.added_row.spell.Goals as goal

-- one character more of some cells
spelt_more : (old mid new : List ℕ) (cells : List StyledChar) (from to : ℕ) → from ≤ to → to < length cells
    → mid ≡ old ++ encode_utf8_all (map ch_of (take (to - from) (drop from cells))) → new ≡ mid ++ encode_utf8 (ch_of (get_or cells to FIRST))
    → new ≡ old ++ encode_utf8_all (map ch_of (take (to + 1 - from) (drop from cells)))
spelt_more old mid new cells from to low within so_far pushed =
    let rest : List StyledChar = drop from cells in
    let so_much : List ℕ = map ch_of (take (to - from) rest) in
    let next : StyledChar = get_or cells to FIRST in
    let read : get_or rest (to - from) FIRST ≡ next = get_or-drop from cells (to - from) FIRST
    ∙ ap (λ i. get_or cells i FIRST) (let same : from + (to - from) ≡ to = omega (arith, low) in same) in
    let longer : take (to + 1 - from) rest ≡ take (to - from) rest ++ next ∷ [] =
    ap (λ n. take n rest) (let same : to + 1 - from ≡ to - from + 1 = omega (arith, low) in same)
    ∙ take_more rest (to - from) FIRST (omega (arith, low, within, length-drop from cells)) ∙ ap (λ x. take (to - from) rest ++ x ∷ []) read in
    pushed ∙ ap (λ bs. bs ++ encode_utf8 (ch_of next)) so_far ∙ append_assoc old (encode_utf8_all so_much) (encode_utf8 (ch_of next))
    ∙ ap (λ bs. old ++ (encode_utf8_all so_much ++ bs)) (sym (append-nil (encode_utf8 (ch_of next))))
    ∙ ap (λ bs. old ++ bs) (sym (encodes-append so_much (ch_of next ∷ []))
    ∙ sym (ap encode_utf8_all (ap (map ch_of) longer ∙ map-append ch_of (take (to - from) rest) (next ∷ []))))

pub loop-to-preserved : goal.loop-to-preserved
loop-to-preserved c =
    let cells = c.args.cells.now in
    let so_far = c.loop-to.invariant in
    record {
      from = omega (arith, so_far.from);
      within = omega (arith, c.loop-to-test.true);
      role = λ k d low high. elim (cases_eq k c.loop-to.to) [
        | inl here ↦ ap (λ (x : StyledChar). x.role) (ap (λ i. get_or cells i d) here ∙ get_or_default cells c.loop-to.to d FIRST c.loop-to-test.true)
            ∙ search (rules, c.if-eq.ensures)
        | inr before ↦ so_far.role k d low (omega (arith, high, before))
      ];
      spelt = spelt_more (string_bytes c.args.text.now) (string_bytes c.loop-to.text) (string_bytes c.push.new.self) cells c.args.from c.loop-to.to
          so_far.from c.loop-to-test.true so_far.spelt c.in_ok-push.ensures.bytes;
    }
