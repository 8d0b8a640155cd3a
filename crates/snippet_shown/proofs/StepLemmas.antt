-- What is ahead in a line, and what is shown, found character by character.
use Rattle.snippet_shown.proofs.Common.{common_steps, ◌≡◌, ℕ, ◌+◌, ◌-◌, ◌<◌, ◌≤◌, ◌==◌, ◌&&◌, nat_le, Bool, true, false, List, [], ◌∷◌, ◌++◌, Option, None}
use Rattle.snippet_shown.proofs.Common.{Some, length, map, refl, sym, ap, ◌∙◌, arith, chars, encode_utf8_all, unwrap_or, option_map, IsUtf8, eqb-true}
use Rattle.snippet_shown.proofs.Common.{false≢true, nat_tests, nil_from_length, chars-nil, chars_from_encodes, encodes-append, char_width, Letter}
use Rattle.snippet_shown.proofs.Common.{is_before_word, is_feed, letter, letter_width, letters, place_after, columns_ahead, ends_ahead, inside_after}
use Rattle.snippet_shown.proofs.Common.{next_width, rows, shown_at, step, lines_fit, Place, Row, Step}

-- a character that is no line feed
like_either : (c : ℕ) (feed : Bool) → (c == 10) ≡ feed → (c ≡ 10 → ⊥) → (c == 10) ≡ false
like_either c true is other = absurd (other (eqb-true c 10 is))
like_either c false is other = is

pub no_feed : (c : ℕ) → (c ≡ 10 → ⊥) → (c == 10) ≡ false
no_feed c other = like_either c (c == 10) refl other

pub a_feed : (c : ℕ) → c ≡ 10 → (c == 10) ≡ true
a_feed c is = ap (λ (d : ℕ). d == 10) is

-- ---- the next word

pub next-feed : (place : Place) (c : ℕ) (cs : List ℕ) → c ≡ 10 → next_width (letters place (c ∷ cs)) ≡ None
next-feed place c cs is = let e = a_feed c is in rw e refl

pub next-word : (place : Place) (c : ℕ) (cs : List ℕ) → (c ≡ 10 → ⊥) → is_before_word (letter place c) ≡ false
    → next_width (letters place (c ∷ cs)) ≡ Some (char_width c)
next-word place c cs other word = let e = no_feed c other in rw (e, word) refl

pub next-on : (place : Place) (c : ℕ) (cs : List ℕ) → (c ≡ 10 → ⊥) → is_before_word (letter place c) ≡ true
    → next_width (letters place (c ∷ cs)) ≡ next_width (letters (place_after place c) cs)
next-on place c cs other before = let e = no_feed c other in rw (e, before) refl

-- ---- the columns ahead

pub ahead-end : (inside : Bool) (place : Place) (left c : ℕ) (cs : List ℕ) → ends_ahead inside (letter place c) ≡ true
    → nat_le (columns_ahead inside (letters place (c ∷ cs))) left ≡ true
ahead-end inside place left c cs ends = rw ends (grind (arith, nat_tests))

ahead-more : (inside : Bool) (place : Place) (c : ℕ) (cs : List ℕ) → ends_ahead inside (letter place c) ≡ false
    → columns_ahead inside (letters place (c ∷ cs))
    ≡ letter_width (letter place c) + columns_ahead (inside_after inside (letter place c)) (letters (place_after place c) cs)
ahead-more inside place c cs on = rw on refl

pub ahead-wide : (inside : Bool) (place : Place) (left c w : ℕ) (cs : List ℕ) → ends_ahead inside (letter place c) ≡ false
    → w ≡ letter_width (letter place c) → left < w → nat_le (columns_ahead inside (letters place (c ∷ cs))) left ≡ false
ahead-wide inside place left c w cs on is wide = grind (arith, ahead-more)

le_less : (w more left : ℕ) → w ≤ left → nat_le (w + more) left ≡ nat_le more (left - w)
le_less w more left fits = grind (arith, nat_tests, fits)

pub ahead-next : (inside : Bool) (place : Place) (left c w : ℕ) (cs : List ℕ) → ends_ahead inside (letter place c) ≡ false
    → w ≡ letter_width (letter place c) → w ≤ left
    → nat_le (columns_ahead (inside_after inside (letter place c)) (letters (place_after place c) cs)) (left - w)
    ≡ nat_le (columns_ahead inside (letters place (c ∷ cs))) left
ahead-next inside place left c w cs on is fits = grind (arith, ahead-more, le_less)

-- ---- lines that fit

pub lines_fit-feed : (room left : ℕ) (l : Letter) (ls : List Letter) → is_feed l ≡ true → lines_fit room left (l ∷ ls) ≡ lines_fit room room ls
lines_fit-feed room left l ls feed = rw feed refl

pub lines_fit-next : (room left : ℕ) (l : Letter) (ls : List Letter) → is_feed l ≡ false → letter_width l ≤ left
    → lines_fit room left (l ∷ ls) ≡ lines_fit room (left - letter_width l) ls
lines_fit-next room left l ls other fits = grind arith

fit_parts : (wide rest : Bool) → (wide && rest) ≡ true → (wide ≡ true) × (rest ≡ true)
fit_parts true rest is = (refl, is)
fit_parts false rest is = absurd (false≢true is)

-- where a line fits, so does its first character, and the others beside it
pub fit-rest : (room left : ℕ) (l : Letter) (ls : List Letter) → is_feed l ≡ false → lines_fit room left (l ∷ ls) ≡ true
    → (letter_width l ≤ left) × (lines_fit room (left - letter_width l) ls ≡ true)
fit-rest room left l ls other all = grind (arith, fit_parts)

-- ---- what is shown

abbrev pub spelled : List Letter → List ℕ
spelled ls = map (λ l. l.char) ls

pub spelled-append : (xs ys : List Letter) → spelled (xs ++ ys) ≡ spelled xs ++ spelled ys
spelled-append [] ys = refl
spelled-append (x ∷ xs) ys = ap (λ (t : List ℕ). x.char ∷ t) (spelled-append xs ys)

-- what is written so far, with what is shown of the rest, is all
pub record Writes (room : ℕ) (row : Row) (place : Place) (written rest all : List ℕ) : Type 0 where
  pub is : written ++ encode_utf8_all (spelled (rows room row (letters place (chars rest)))) ≡ encode_utf8_all all

-- one character more
abbrev Goes : ℕ → Place → Letter → List ℕ → Step → List ℕ
Goes room after l cs s = encode_utf8_all (spelled (shown_at s l)) ++ encode_utf8_all (spelled (rows room s.row (letters after cs)))

pub Writes-next : (room : ℕ) (row : Row) (place after : Place) (s : Step) (written new rest later text all : List ℕ) (c : ℕ) → chars rest ≡ c ∷ chars later
    → text ≡ later → s ≡ step room row (letter place c) (letters (place_after place c) (chars text)) → after ≡ place_after place c
    → new ≡ written ++ encode_utf8_all (spelled (shown_at s (letter place c))) → Writes room row place written rest all
    → Writes room s.row after new later all
Writes-next room row place after s written new rest later text all c cons same is p more so_far =
    grind (arith, common_steps, s.row, spelled-append, encodes-append, so_far.is)

-- and no more
pub Writes-all : (room : ℕ) (row : Row) (place : Place) (written rest all : List ℕ) → length rest ≡ 0 → IsUtf8 written
    → Writes room row place written rest all → chars written ≡ all
Writes-all room row place written rest all none utf8 so_far = grind (arith, common_steps, nil_from_length, chars-nil, so_far.is, chars_from_encodes)

-- ---- one character more, found in a text

pub next-found : (place : Place) (all rest : List ℕ) (c : ℕ) (whole : Option ℕ) → all ≡ c ∷ rest → (c ≡ 10 → ⊥) → is_before_word (letter place c) ≡ false
    → next_width (letters place all) ≡ whole → Some (char_width c) ≡ whole
next-found place all rest c whole cons other word same =
    sym (next-word place c rest other word) ∙ ap (λ (cs : List ℕ). next_width (letters place cs)) (sym cons) ∙ same

pub next-none : (place : Place) (all rest : List ℕ) (c : ℕ) (whole : Option ℕ) → all ≡ c ∷ rest → c ≡ 10 → next_width (letters place all) ≡ whole
    → None ≡ whole
next-none place all rest c whole cons feed same =
    sym (next-feed place c rest feed) ∙ ap (λ (cs : List ℕ). next_width (letters place cs)) (sym cons) ∙ same

pub next-more : (place after : Place) (all rest : List ℕ) (c : ℕ) (whole : Option ℕ) → all ≡ c ∷ rest → (c ≡ 10 → ⊥)
    → is_before_word (letter place c) ≡ true → after ≡ place_after place c → next_width (letters place all) ≡ whole
    → next_width (letters after rest) ≡ whole
next-more place after all rest c whole cons other before is same = grind (arith, next-on)

pub next-end : (place : Place) (rest : List ℕ) (whole : Option ℕ) → length rest ≡ 0 → next_width (letters place (chars rest)) ≡ whole → None ≡ whole
next-end place rest whole none same =
    ap (λ (cs : List ℕ). next_width (letters place cs)) (sym (ap chars (nil_from_length rest none) ∙ chars-nil)) ∙ same

abbrev Has : Bool → Place → ℕ → List ℕ → Bool
Has inside place left cs = nat_le (columns_ahead inside (letters place cs)) left

pub ahead-ends : (inside : Bool) (place : Place) (left c : ℕ) (all rest : List ℕ) (whole : Bool) → all ≡ c ∷ rest
    → ends_ahead inside (letter place c) ≡ true → Has inside place left all ≡ whole → true ≡ whole
ahead-ends inside place left c all rest whole cons ends same =
    sym (ahead-end inside place left c rest ends) ∙ ap (λ (cs : List ℕ). Has inside place left cs) (sym cons) ∙ same

pub ahead-none : (inside : Bool) (place : Place) (left c w : ℕ) (all rest : List ℕ) (whole : Bool) → all ≡ c ∷ rest
    → ends_ahead inside (letter place c) ≡ false → w ≡ letter_width (letter place c) → left < w → Has inside place left all ≡ whole → false ≡ whole
ahead-none inside place left c w all rest whole cons on is wide same =
    sym (ahead-wide inside place left c w rest on is wide) ∙ ap (λ (cs : List ℕ). Has inside place left cs) (sym cons) ∙ same

pub ahead-goes : (inside more : Bool) (place after : Place) (left c w : ℕ) (all rest : List ℕ) (whole : Bool) → all ≡ c ∷ rest
    → ends_ahead inside (letter place c) ≡ false → w ≡ letter_width (letter place c) → w ≤ left → more ≡ inside_after inside (letter place c)
    → after ≡ place_after place c → Has inside place left all ≡ whole → Has more after (left - w) rest ≡ whole
ahead-goes inside more place after left c w all rest whole cons on is fits m p same = grind (arith, ahead-next)

pub ahead-all : (inside : Bool) (place : Place) (left : ℕ) (rest : List ℕ) (whole : Bool) → length rest ≡ 0
    → Has inside place left (chars rest) ≡ whole → true ≡ whole
ahead-all inside place left rest whole none same = grind (arith, nil_from_length, chars-nil)

abbrev After : ℕ → Place → List ℕ → Option ℕ → Bool
After room place cs found = unwrap_or (option_map (λ n. lines_fit room n (letters place cs)) found) false

-- lines that fit
pub fit-more : (room left later c : ℕ) (place after : Place) (all rest : List ℕ) (whole : Bool) → all ≡ c ∷ rest → (result : Option ℕ)
    → result ≡ Some later
    → ((ls : List Letter) → lines_fit room left (letter place c ∷ ls) ≡ unwrap_or (option_map (λ n. lines_fit room n ls) result) false)
    → after ≡ place_after place c → lines_fit room left (letters place all) ≡ whole → lines_fit room later (letters after rest) ≡ whole
fit-more room left later c place after all rest whole cons result is decides p same = grind arith

pub fit-none : (room left c : ℕ) (place : Place) (all rest : List ℕ) (whole : Bool) → all ≡ c ∷ rest → (result : Option ℕ) → result ≡ None
    → ((ls : List Letter) → lines_fit room left (letter place c ∷ ls) ≡ unwrap_or (option_map (λ n. lines_fit room n ls) result) false)
    → lines_fit room left (letters place all) ≡ whole → false ≡ whole
fit-none room left c place all rest whole cons result is decides same = grind arith

pub fit-end : (room left : ℕ) (place : Place) (rest : List ℕ) (whole : Bool) → length rest ≡ 0 → lines_fit room left (letters place (chars rest)) ≡ whole
    → true ≡ whole
fit-end room left place rest whole none same =
    ap (λ (cs : List ℕ). lines_fit room left (letters place cs)) (sym (ap chars (nil_from_length rest none) ∙ chars-nil)) ∙ same
