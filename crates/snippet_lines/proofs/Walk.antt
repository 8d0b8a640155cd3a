-- How a line is walked along, byte by byte.
use Rattle.snippet_lines.proofs.Common.{◌≡◌, ◌⊎◌, ℕ, suc, arith, ◌+◌, ◌<◌, ◌≤◌, Bool, false, List, ◌∷◌, drop, drop-cons}
use Rattle.snippet_lines.proofs.Common.{get_or, length, sym, ap, ◌∙◌, subst, inl, inr, if◌then◌else◌, IsTrue, IsCharBoundary, IsUtf8, cases_lt}
use Rattle.snippet_lines.proofs.Common.{false≢true, IsCharBoundary-start, ends_line, line_length}

-- where the line doesn't end, it is one byte longer than what comes after this byte
pub line-next : (bytes : List ℕ) (at : ℕ) → at < length bytes → ends_line (drop at bytes) ≡ false
    → line_length (drop at bytes) ≡ suc (line_length (drop (at + 1) bytes))
line-next bytes at within continues =
    let cons : drop at bytes ≡ get_or bytes at 0 ∷ drop (suc at) bytes = drop-cons bytes at 0 within in
    let count : at + 1 ≡ suc at = omega arith in
    ap line_length cons
    ∙ ap (λ t. if t then 0 else suc (line_length (drop (suc at) bytes))) (sym (ap ends_line cons) ∙ continues)
    ∙ ap (λ n. suc (line_length (drop n bytes))) (sym count)

-- a byte that is no border isn't the first
pub no-border : (text : List ℕ) (at : ℕ) (test : Bool) → IsUtf8 text → (IsCharBoundary text at → IsTrue test) → test ≡ false → 1 ≤ at
no-border text at test utf8 tests fails = by_cases (cases_lt 0 at)
  where
    by_cases : (0 < at) ⊎ (at ≤ 0) → 1 ≤ at
    by_cases (inl after) = omega (arith, after)
    by_cases (inr first) =
        let zero_at : 0 ≡ at = omega (arith, first) in
        absurd (false≢true (subst IsTrue fails (tests (subst (IsCharBoundary text) zero_at (IsCharBoundary-start text utf8)))))
