-- What a search for an LF and a look at a line's end say of the lines of a text.
use Rattle.snippet_lines.proofs.Common.{common_steps, ◌≡◌, ◌≢◌, ℕ, suc, ◌+◌, ◌-◌, ◌<◌, ◌⊎◌, Bool, true, false, List, [], ◌∷◌, ◌++◌, All, count_by, length}
use Rattle.snippet_lines.proofs.Common.{take, get_or, refl, sym, ap, subst, ◌∙◌, arith, length-append, take_at, length-take-le, get_or-take, get_or_default}
use Rattle.snippet_lines.proofs.Common.{All-nil, All-push, All-take, sum_by-cons, cond-false, false_from_ne_true, EndLine, Eof, line_bytes, last_byte, lines_of}
use Rattle.snippet_lines.proofs.Common.{IsLine, IsLineWithEnd}
use Rattle.snippet_lines.proofs.LinesLemmas.{split_last, lines_of-line}

-- a text cut after its first LF
pub IsOneLine-cut : (text : List ℕ) (at : ℕ) → at < length text → ((k : ℕ) → k < at → get_or text k 0 ≢ 10) → IsLineWithEnd (take (at + 1) text)
IsOneLine-cut text at inside none = λ k d within is.
    let n : length (take (at + 1) text) ≡ at + 1 = length-take-le (at + 1) text (omega arith) in
    let m : length (take (length (take (at + 1) text) - 1) (take (at + 1) text))
    ≡ length (take (at + 1) text) - 1 = length-take-le (length (take (at + 1) text) - 1) (take (at + 1) text) (omega arith) in
    let before : k < at = omega arith in
    let read : get_or (take (length (take (at + 1) text) - 1) (take (at + 1) text)) k d
    ≡ get_or text k d = get_or-take (length (take (at + 1) text) - 1) (take (at + 1) text) k d (omega arith)
    ∙ get_or-take (at + 1) text k d (omega arith) in
    none k before (get_or_default text k 0 d (omega arith) ∙ sym read ∙ is)

-- a text that doesn't end with a byte
pub last_byte-not : (text : List ℕ) (b : ℕ) → 0 < b → ((front : List ℕ) → text ≢ front ++ b ∷ []) → last_byte text ≢ b
last_byte-not [] b some open_end = λ is. absurd (omega arith)
last_byte-not (c ∷ text) b some open_end = λ is.
    open_end (take (length (c ∷ text) - 1) (c ∷ text)) (split_last (c ∷ text) (omega arith) ∙ ap (λ d. take (length (c ∷ text) - 1) (c ∷ text) ++ d ∷ []) is)

-- one line that doesn't end with an LF has none
pub no_lf-open : (line : List ℕ) → IsLineWithEnd line → last_byte line ≢ 10 → All (λ b. b ≢ 10) line
no_lf-open [] one last = All-nil (λ b. b ≢ 10)
no_lf-open (c ∷ line) one last =
    subst (All (λ b. b ≢ 10)) (sym (split_last (c ∷ line) (omega arith)))
    (All-push (λ b. b ≢ 10) (take (length (c ∷ line) - 1) (c ∷ line)) (last_byte (c ∷ line)) one last)

-- nor has what stands before an LF that ends it
pub no_lf-closed : (line text : List ℕ) (b : ℕ) → line ≡ text ++ b ∷ [] → IsLineWithEnd line → All (λ b. b ≢ 10) text
no_lf-closed line text b is one =
    let n : length line - 1 ≡ length text = omega (arith, ap length is, length-append text (b ∷ [])) in
    let front : take (length line - 1) line ≡ text = ap (λ m. take m line) n ∙ ap (take (length text)) is ∙ take_at text (b ∷ []) (length text) refl in
    subst (All (λ b. b ≢ 10)) front one

-- the front of a text without line feeds has none
pub no_lf-front : (text front : List ℕ) (b : ℕ) → text ≡ front ++ b ∷ [] → All (λ b. b ≢ 10) text → All (λ b. b ≢ 10) front
no_lf-front text front b is none =
    let cut : take (length front) text ≡ front = ap (take (length front)) is ∙ take_at front (b ∷ []) (length front) refl in
    subst (All (λ b. b ≢ 10)) cut (All-take (λ b. b ≢ 10) (length front) text none)

-- the first line of a text, its end told from its text, and the lines of what follows are the lines of the text
pub lines_of-first : (whole line rest text : List ℕ) (ending : EndLine) → whole ≡ line ++ rest → 0 < length line → (last_byte line ≡ 10) ⊎ (rest ≡ [])
    → line ≡ line_bytes (text, ending) → IsLine (text, ending) → (ending ≡ Eof → last_byte line ≢ 10) → lines_of whole ≡ (text, ending) ∷ lines_of rest
lines_of-first whole line rest text ending is some ends line_is fits no_end = grind (arith, common_steps, lines_of-line, fits.no_lf, fits.no_cr)

-- ---- counting from find to find

-- an element that fails isn't counted
counted : (p : ℕ → Bool) (x : ℕ) (xs : List ℕ) → p x ≡ false → count_by p (x ∷ xs) ≡ count_by p xs
counted p x xs fails = grind (arith, cond-false, sum_by-cons)

-- a list where none passes
pub count_by-none : (p : ℕ → Bool) (xs : List ℕ) → ((k : ℕ) → k < length xs → p (get_or xs k 0) ≡ true → ⊥) → count_by p xs ≡ 0
count_by-none p [] none = refl
count_by-none p (x ∷ xs) none =
    counted p x xs (false_from_ne_true (p x) (none 0 (omega arith))) ∙ count_by-none p xs (λ k l. none (suc k) (omega arith))
