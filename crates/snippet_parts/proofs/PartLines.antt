-- The lines of a part of a source that begins and ends where lines do.
use Rattle.snippet_parts.proofs.Common.{common_steps, ◌≡◌, ℕ, zero, suc, ◌+◌, ◌-◌, ◌<◌, ◌≤◌, List, [], ◌∷◌, inl, inr, length, take, drop, sym, ap, ◌∙◌, ⊎_elim}
use Rattle.snippet_parts.proofs.Common.{arith, length-drop, length-take, flat_map-append, Line, line_bytes, joined, source_lines, start_of, AreLines}
use Rattle.snippet_parts.proofs.Common.{AreLinesOf, AreLinesOf-source_lines, joined-source_lines, source_lines-only}
use Rattle.snippet_parts.proofs.TableLemmas.{start_of-drop}

AreLines-drop : (n : ℕ) (ls : List Line) → AreLines ls → AreLines (drop n ls)
AreLines-drop zero ls are = are
AreLines-drop (suc n) [] are = are
AreLines-drop (suc n) (l ∷ ls) are = AreLines-drop n ls are.2

take-none : (n : ℕ) (ls : List Line) → ls ≡ [] → take n ls ≡ []
take-none x y z = grind (arith)

AreLines-take : (n : ℕ) (ls : List Line) → AreLines ls → AreLines (take n ls)
AreLines-take zero ls are = tt
AreLines-take (suc n) [] are = tt
AreLines-take (suc n) (l ∷ ls) are = (are.0, λ eof. ((are.1 eof).0, take-none n ls (are.1 eof).1), AreLines-take n ls are.2)

-- what stands from where line k starts on are the lines from it on
part_lines : (ls : List Line) (k : ℕ) → drop (start_of ls k) (joined ls) ≡ joined (drop k ls)
unfolding start_of
part_lines ls k = grind (arith, common_steps, flat_map-append line_bytes (take k ls) (drop k ls))

-- what stands up to where line n starts are the lines before it
take-lines : (ls : List Line) (n : ℕ) → take (start_of ls n) (joined ls) ≡ joined (take n ls)
unfolding start_of
take-lines ls n = grind (arith, common_steps, flat_map-append line_bytes (take n ls) (drop n ls))

-- the lines of the part from where line k starts to where the n-th line after it does
pub lines-of-part : (source part : List ℕ) (k n start end : ℕ) → 0 < n → k + n ≤ length (source_lines source) → start ≡ start_of (source_lines source) k
    → end ≡ start_of (source_lines source) (k + n) → part ≡ take (end - start) (drop start source)
    → source_lines part ≡ take n (drop k (source_lines source))
lines-of-part source part k n start end some within start_is end_is is =
    let ls : List Line = source_lines source in
    let lines : List Line = take n (drop k ls) in
    let size : end - start ≡ start_of (drop k ls) n = omega (arith, start_is, end_is, start_of-drop ls k n) in
    let bytes : part ≡ joined lines = is ∙ ap (λ m. take m (drop start source)) size
    ∙ ap (λ m. take (start_of (drop k ls) n) (drop m source)) start_is
    ∙ ap (λ bs. take (start_of (drop k ls) n) (drop (start_of ls k) bs)) (sym (joined-source_lines source))
    ∙ ap (take (start_of (drop k ls) n)) (part_lines ls k) ∙ take-lines (drop k ls) n in
    let are : AreLinesOf source ls = AreLinesOf-source_lines source in
    let filled : 0 < length lines = omega (arith, length-take n (drop k ls), length-drop k ls) in
    let mine : AreLinesOf part lines = record {
      whole = sym bytes;
      lines = ⊎_elim
          (λ one.
          let k_is : k ≡ 0 = omega (arith, ap length one) in
          let n_is : n ≡ 1 = omega (arith, ap length one) in
          inl (ap (λ m. take n (drop m ls)) k_is ∙ ap (λ m. take m ls) n_is ∙ ap (take 1) one))
          (λ (more, all). inr (filled, AreLines-take n (drop k ls) (AreLines-drop k ls all)))
          are.lines;
    } in
    sym (source_lines-only part lines mine)
