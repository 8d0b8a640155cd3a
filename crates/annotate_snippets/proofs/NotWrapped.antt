-- Texts that aren't shown in place of others where titles and messages are wrapped: a word is lost, a word that has room is broken, a line has
-- none, a row is empty, or a code is torn apart.
use Rattle.annotate_snippets.proofs.Common.{◌≡◌, ◌≤◌, ℕ, Bool, true, false, List, [], ◌∷◌, Option, Some, length, ap, codes, refl, subst}
use Rattle.annotate_snippets.proofs.Common.{arith, cow_str_bytes, CowStr, All-head, SameOption, Group, Title, Stylesheet, unicode_width, char_width, Letter}
use Rattle.annotate_snippets.proofs.Common.{letters_of, AreWithin, IsRewrapped, columns_of, lines_in, words_of, IsMaskedFor, wraps, form_of, HasLaws}
use Rattle.annotate_snippets.proofs.Common.{AreRewrapped, IsTextRewrapped, IsTitleRewrapped, Renderer}
use Rattle.std.proofs.Common.{Global}
use Rattle.std.specs.Str.{chars}

-- the title that is given
abbrev pub given : List ℕ
given = codes "the borrow checker"

-- two texts of which one is shown in place of the other, by their bytes
by_bytes : (room : ℕ) (trusted : Bool) (a b : CowStr Global) (xs ys : List ℕ) → cow_str_bytes a ≡ xs → cow_str_bytes b ≡ ys
    → IsTextRewrapped room trusted a b → IsRewrapped room (letters_of trusted (chars xs)) (letters_of trusted (chars ys))
by_bytes room trusted a b xs ys first second is = grind arith

-- a text that has lost a word isn't shown in place of it, whatever the room
lost : (room : ℕ) (trusted : Bool) → IsRewrapped room (letters_of trusted (chars given)) (letters_of trusted (chars (codes "the\nchecker"))) → ⊥
unfolding chars
lost room true is = grind (arith, is.kept)
lost room false is = grind (arith, is.kept)

-- nor is one in which a word is broken that has room
broken : (room : ℕ) (trusted : Bool) → IsRewrapped room (letters_of trusted (chars given)) (letters_of trusted (chars (codes "the borrow che\ncker")))
    → AreWithin room (words_of (letters_of trusted (chars given))) → ⊥
unfolding chars
broken room true is within = let more : ◌≡◌ {A = ℕ} 4 3 = ap (λ (ws : List (List Letter)). length ws) (is.words within) in absurd (omega (arith, more))
broken room false is within =
    let more : ◌≡◌ {A = ℕ} 4 3 = ap (λ (ws : List (List Letter)). length ws) (is.words within) in
    absurd (omega (arith, more))

pub word_broken : (room : ℕ) (trusted : Bool) (a b : CowStr Global) → cow_str_bytes a ≡ given → cow_str_bytes b ≡ codes "the borrow che\ncker"
    → AreWithin room (words_of (letters_of trusted (chars given))) → IsTextRewrapped room trusted a b → ⊥
word_broken room trusted a b is shown within texts = broken room trusted (by_bytes room trusted a b given (codes "the borrow che\ncker") is shown texts) within

-- nor the text itself, where it is wider than the room
wide : (trusted : Bool) → columns_of (letters_of trusted (chars given)) ≡ 18
unfolding chars char_width unicode_width
wide true = refl
wide false = refl

one_line : (trusted : Bool) → lines_in (letters_of trusted (chars given)) ≡ letters_of trusted (chars given) ∷ []
unfolding chars
one_line true = refl
one_line false = refl

pub line_too_wide : (trusted : Bool) (a b : CowStr Global) → cow_str_bytes a ≡ given → cow_str_bytes b ≡ given → IsTextRewrapped 11 trusted a b → ⊥
line_too_wide trusted a b is shown texts =
    let same = by_bytes 11 trusted a b given given is shown texts in
    let within : AreWithin 11 (letters_of trusted (chars given) ∷ []) = subst (AreWithin 11) (one_line trusted) (same.rows (omega arith)) in
    let narrow = All-head (λ (part : List Letter). columns_of part ≤ 11) (letters_of trusted (chars given)) [] within in
    absurd (omega (arith, narrow, wide trusted))

-- nor one with a row for the blank that it ends with
ends_empty : (room : ℕ) (trusted : Bool)
    → IsRewrapped room (letters_of trusted (chars (codes "the borrow "))) (letters_of trusted (chars (codes "the borrow\n")))
    → ⊥
unfolding chars
ends_empty room true is = grind (arith, is.empty)
ends_empty room false is = grind (arith, is.empty)

pub empty_row : (room : ℕ) (trusted : Bool) (a b : CowStr Global) → cow_str_bytes a ≡ codes "the borrow " → cow_str_bytes b ≡ codes "the borrow\n"
    → IsTextRewrapped room trusted a b → ⊥
empty_row room trusted a b is shown texts = ends_empty room trusted (by_bytes room trusted a b (codes "the borrow ") (codes "the borrow\n") is shown texts)

-- nor one in which the code `ESC [ 0 m` of a trusted text is torn apart
abbrev pub coded : List ℕ
coded = 97 ∷ 27 ∷ 91 ∷ 48 ∷ 109 ∷ []

abbrev pub torn : List ℕ
torn = 97 ∷ 27 ∷ 91 ∷ 48 ∷ 10 ∷ 109 ∷ []

tears : (room : ℕ) → IsRewrapped room (letters_of true (chars coded)) (letters_of true (chars torn)) → ⊥
unfolding chars
tears room is = grind (arith, is.kept)

pub code_torn : (room : ℕ) (a b : CowStr Global) → cow_str_bytes a ≡ coded → cow_str_bytes b ≡ torn → IsTextRewrapped room true a b → ⊥
code_torn room a b is shown texts = tears room (by_bytes room true a b coded torn is shown texts)

-- so no text of a report with that title has the laws of one that is wrapped, if the title that is shown has lost a word
pub word_lost : (r : Renderer) (g s : Group) (sheet : Stylesheet) (text : List ℕ) (a b : Title) → r.mask_controls ≡ false
    → wraps (form_of r) r ≡ true
    → (has : HasLaws r (g ∷ []) sheet text) → has.shown ≡ s ∷ [] → g.title ≡ Some a → s.title ≡ Some b → cow_str_bytes a.text ≡ given
    → cow_str_bytes b.text ≡ codes "the\nchecker" → ⊥
word_lost r g s sheet text a b plain asked has one titled entitled is shown =
    let pairs : AreRewrapped r (g ∷ []) (s ∷ []) = subst (AreRewrapped r (g ∷ [])) one
    (subst (λ (gs : List Group). AreRewrapped r gs has.shown) (subst (λ (masks : Bool). IsMaskedFor masks r (g ∷ []) has.masked) plain has.masks)
    (has.wrapped asked)) in
    let first : SameOption (IsTitleRewrapped r.term_width) (Some a) (Some b) =
    subst (λ (t : Option Title). SameOption (IsTitleRewrapped r.term_width) (Some a) t) entitled
    (subst (λ (t : Option Title). SameOption (IsTitleRewrapped r.term_width) t s.title) titled pairs.0.0) in
    lost _ b.allows_styling (by_bytes _ b.allows_styling a.text b.text given (codes "the\nchecker") is shown first.0)
