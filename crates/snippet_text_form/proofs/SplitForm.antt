-- The lines of a heading's text, and what they add to a form.
use Rattle.std.proofs.lemmas.Grind.{common_steps}
use Rattle.snippet_text_form.proofs.Common.{◌≡◌, ◌≢◌, ℕ, zero, suc, ◌+◌, ◌<◌, ◌==◌, Bool, true, false, List, [], ◌∷◌, ◌++◌, length, map, replicate}
use Rattle.snippet_text_form.proofs.Common.{if◌then◌else◌, All, Result, refl, subst, sym, ap, ◌∙◌, arith, Bor, enumerate_from, onto_first, OnOk, IsUtf8}
use Rattle.snippet_text_form.proofs.Common.{nat_tests, flat_map-append, append-nil, append_assoc, length-map, map-append, list_any, All-weaker, chars-IsAscii}
use Rattle.snippet_text_form.proofs.Common.{slice_split-cons_no, slice_split-cons_yes, length-slice_split, ElementStyle, norm, shown, IsPlain, lines_at-plain}
use Rattle.snippet_text_form.proofs.Common.{lines_at, lines_at-after, lines_at-chars, FormPiece, bare, styled, lines_form, before_line}
use Rattle.std.proofs.Common.{chars}
use Rattle.snippet_model.proofs.RowLemmas.{each_fails as All-from_none}
use Rattle.snippet_titles.proofs.LineLemmas.{line_of}

-- ---- normalising and cutting at line feeds commute

-- what is shown for a character that is no line feed holds none
list_any-shown_feed : (c : ℕ) → (c == 10) ≡ false → list_any (λ b. b == 10) (shown c) ≡ false
list_any-shown_feed c other = grind (arith, nat_tests)

norm-onto : (c : ℕ) (rest : List ℕ) (parts : List (List ℕ)) → (c == 10) ≡ false → lines_at (norm rest) ≡ map norm parts → 0 < length parts
    → lines_at (shown c ++ norm rest) ≡ map norm (onto_first c parts)
unfolding norm
norm-onto c rest [] other is some = absurd (omega (arith, some))
norm-onto c rest (part ∷ parts) other is some =
    lines_at-after (shown c) (norm rest) (norm part) (map norm parts) (All-from_none (λ b. b == 10) (shown c) (list_any-shown_feed c other)) is

norm-step : (c : ℕ) (cs : List ℕ) (feed : Bool) → (c == 10) ≡ feed → lines_at (norm cs) ≡ map norm (lines_at cs)
    → lines_at (shown c ++ norm cs) ≡ map norm (lines_at (c ∷ cs))
unfolding norm
norm-step c cs true is same = grind (arith, nat_tests, slice_split-cons_yes)
norm-step c cs false is same = grind (arith, norm-onto, length-slice_split, slice_split-cons_no)

pub lines_at-norm : (cs : List ℕ) → lines_at (norm cs) ≡ map norm (lines_at cs)
unfolding norm
lines_at-norm [] = refl
lines_at-norm (c ∷ cs) = norm-step c cs (c == 10) refl (lines_at-norm cs)

-- a line as it is shown: a trusted one as it is, any other normalised
abbrev pub line_shown : Bool → List ℕ → List ℕ
line_shown trusted line = if trusted then line else norm line

map-trusted : (lines : List (List ℕ)) → map (line_shown true) lines ≡ lines
map-trusted [] = refl
map-trusted (line ∷ lines) = ap (λ (ls : List (List ℕ)). line ∷ ls) (map-trusted lines)

shown_lines-of : (trusted : Bool) (cs : List ℕ) → map (line_shown trusted) (lines_at cs) ≡ lines_at (if trusted then cs else norm cs)
shown_lines-of true cs = map-trusted (lines_at cs)
shown_lines-of false cs = sym (lines_at-norm cs)

-- ---- the lines so far

abbrev pub lines_so_far : Bool → List (ℕ × Bor (List ℕ)) → List (List ℕ)
lines_so_far trusted numbered = map (λ p. line_shown trusted (line_of p)) numbered

-- all lines
shown_lines-seen : (trusted : Bool) (numbered : List (ℕ × Bor (List ℕ)))
    → lines_so_far trusted numbered ≡ map (λ (p : ℕ × List ℕ). line_shown trusted (chars p.1)) (map (λ (p : ℕ × Bor (List ℕ)). (p.0, p.1.now)) numbered)
shown_lines-seen trusted [] = refl
shown_lines-seen trusted (p ∷ ps) =
    ap (λ (ls : List (List ℕ)). line_shown trusted (line_of p) ∷ ls) (shown_lines-seen trusted ps)

shown_lines-numbered : (trusted : Bool) (n : ℕ) (lines : List (List ℕ))
    → map (λ (p : ℕ × List ℕ). line_shown trusted (chars p.1)) (enumerate_from n lines) ≡ map (line_shown trusted) (map chars lines)
shown_lines-numbered trusted n [] = refl
shown_lines-numbered trusted n (line ∷ lines) =
    ap (λ (ls : List (List ℕ)). line_shown trusted (chars line) ∷ ls) (shown_lines-numbered trusted (n + 1) lines)

-- the lines that are shown are those of the heading's text
pub shown_lines-all : (styling trusted : Bool) (own text : List ℕ) (numbered : List (ℕ × Bor (List ℕ))) → trusted ≡ styling → IsUtf8 text → text ≡ own
    → map (λ (p : ℕ × Bor (List ℕ)). (p.0, p.1.now)) numbered ≡ enumerate_from 0 (lines_at text)
    → lines_so_far trusted numbered ≡ lines_at (if styling then chars own else norm (chars own))
shown_lines-all styling trusted own text numbered trusts utf8 is all = grind (arith, shown_lines-seen, shown_lines-numbered, lines_at-chars, shown_lines-of)

-- one line more
lines_form-push : (role : ElementStyle) (width : ℕ) (lines : List (List ℕ)) (line : List ℕ)
    → lines_form role width (lines ++ line ∷ []) ≡ lines_form role width lines ++ (bare (before_line width (length lines)) ++ styled role line)
lines_form-push role width [] line = refl
lines_form-push role width (first ∷ lines) line = grind (arith, flat_map-append, append-nil)

-- the form after these lines
abbrev pub with_lines : List FormPiece → ElementStyle → ℕ → Bool → List (ℕ × Bor (List ℕ)) → List FormPiece
with_lines old role width trusted numbered = old ++ lines_form role width (lines_so_far trusted numbered)

-- once all lines are added the form is that of them all
pub all_added : (old form : List FormPiece) (role : ElementStyle) (width : ℕ) (trusted : Bool) (numbered : List (ℕ × Bor (List ℕ))) (lines : List (List ℕ))
    → form ≡ with_lines old role width trusted numbered → lines_so_far trusted numbered ≡ lines → form ≡ old ++ lines_form role width lines
all_added old form role width trusted numbered lines so_far all =
    so_far ∙ ap (λ (ls : List (List ℕ)). old ++ lines_form role width ls) all

-- with one more line added the lines so far are added
pub line_added : (old form one new : List FormPiece) (role : ElementStyle) (width index : ℕ) (trusted : Bool) (numbered : List (ℕ × Bor (List ℕ)))
    (line : Bor (List ℕ)) (text : List ℕ) → index ≡ length numbered → form ≡ with_lines old role width trusted numbered
    → one ≡ form ++ bare (before_line width index) → new ≡ one ++ styled role text → text ≡ line_shown trusted (chars line.now)
    → new ≡ with_lines old role width trusted (numbered ++ (index, line) ∷ [])
line_added old form one new role width index trusted numbered line text at is first second shows =
    grind (arith, length-map, map-append, append_assoc, lines_form-push, line.now)

-- what stands before a further line
pub before_line-later : (width index : ℕ) → index ≢ 0 → 10 ∷ replicate width 32 ≡ before_line width index
before_line-later width zero other = absurd (other refl)
before_line-later width (suc index) other = refl

-- a text of printable ASCII that is shown as it is is one line
pub plain_lines : (text shown : List ℕ) → All IsPlain text → chars text ≡ shown → lines_at shown ≡ chars text ∷ []
plain_lines text shown plain is = grind (arith, common_steps, All-weaker, chars-IsAscii, lines_at-plain)

-- one line that is added is all of them
pub one_added-on_ok : {T E : Type 0} (r : Result T E) (old new : List FormPiece) (role : ElementStyle) (width : ℕ) (line : List ℕ) (lines : List (List ℕ))
    → lines ≡ line ∷ [] → OnOk r (new ≡ old ++ styled role line) → OnOk r (new ≡ old ++ lines_form role width lines)
one_added-on_ok r old new role width line lines one added =
    subst (λ (ls : List (List ℕ)). OnOk r (new ≡ old ++ lines_form role width ls)) (sym one) added
