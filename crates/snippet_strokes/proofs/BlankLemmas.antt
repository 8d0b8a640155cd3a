-- The whitespace that a line begins with as it is shown, and the entries that it leaves beside the line.
use Rattle.snippet_strokes.proofs.Common.{◌≡◌, ℕ, ◌+◌, ◌-◌, ◌<◌, ◌≤◌, ◌&&◌, Bool, true, false, zero, suc, List, [], ◌∷◌}
use Rattle.snippet_strokes.proofs.Common.{◌++◌, drop, get_or, length, max, take, refl, sym, ap, ◌∙◌, arith, is_whitespace, list_all, ord_max}
use Rattle.snippet_strokes.proofs.Common.{nat_tests, false≢true, at_drop_all, at_drop_more, LineAnnotation, MultilineStart, MultilineLine, norm, shown}
use Rattle.snippet_strokes.proofs.Common.{is_beside, common_steps, rules}
use Rattle.std.specs.Ordering.{nat_cmp}

-- whether a text begins with so much whitespace
abbrev begins_blank : List ℕ → ℕ → Bool
begins_blank text n = list_all is_whitespace (take n text)

after_true : (a b c d : Bool) → (a && b) ≡ true → (b ≡ true → c ≡ d) → (a && c) ≡ d
after_true true b c d both rest = rest both
after_true false b c d both rest = absurd (false≢true both)

false_after : (a b c : Bool) → (a && b) ≡ false → (b ≡ false → c ≡ false) → (a && c) ≡ false
false_after true b c none rest = rest none
false_after false b c none rest = refl

past_blank : (n : ℕ) (xs ys : List ℕ) → list_all is_whitespace xs ≡ true → begins_blank (xs ++ ys) n ≡ begins_blank ys (n - length xs)
past_blank n [] ys blank = search rules
past_blank zero (x ∷ xs) ys blank = search rules
past_blank (suc n) (x ∷ xs) ys blank =
    let less : n - length xs ≡ suc n - length (x ∷ xs) = omega arith in
    after_true (is_whitespace x) (list_all is_whitespace xs) _ _ blank (λ more. past_blank n xs ys more ∙ ap (begins_blank ys) less)

up_to_visible : (n : ℕ) (xs ys : List ℕ) → length xs ≤ n → list_all is_whitespace xs ≡ false → begins_blank (xs ++ ys) n ≡ false
up_to_visible n [] ys few visible = absurd (false≢true (sym visible))
up_to_visible zero (x ∷ xs) ys few visible = absurd (omega arith)
up_to_visible (suc n) (x ∷ xs) ys few visible =
    let fewer : length xs ≤ n = omega arith in
    false_after (is_whitespace x) (list_all is_whitespace xs) (begins_blank (xs ++ ys) n) visible (up_to_visible n xs ys fewer)

-- a character that is shown by another than whitespace is shown by one
visible_one : (c : ℕ) → list_all is_whitespace (shown c) ≡ false → length (shown c) ≤ 1
visible_one c visible = grind (arith, nat_tests)

-- what is shown from a character on
norm-drop : (cs : List ℕ) (n c : ℕ) → (n < length cs) × (c ≡ get_or cs n c) → norm (drop n cs) ≡ shown c ++ norm (drop (n + 1) cs)
unfolding norm
norm-drop cs n c at =
    at_drop_more norm cs n c at.0 ∙ ap (λ x. shown x ++ norm (drop (n + 1) cs)) (sym at.1)

-- after a character that is shown by whitespace, less is asked of the rest
pub blank_more : (cs : List ℕ) (n c left : ℕ) (asked : Bool) → (n < length cs) × (c ≡ get_or cs n c) → list_all is_whitespace (shown c) ≡ true
    → list_all is_whitespace (take left (norm (drop n cs))) ≡ asked
    → list_all is_whitespace (take (left - length (shown c)) (norm (drop (n + 1) cs))) ≡ asked
blank_more cs n c left asked at blank before =
    sym (past_blank left (shown c) (norm (drop (n + 1) cs)) blank) ∙ ap (λ t. begins_blank t left) (sym (norm-drop cs n c at)) ∙ before

-- a character that is shown by another ends it
pub blank_ends : (cs : List ℕ) (n c left : ℕ) (asked : Bool) → (n < length cs) × (c ≡ get_or cs n c) → 0 < left
    → list_all is_whitespace (shown c) ≡ false → list_all is_whitespace (take left (norm (drop n cs))) ≡ asked → false ≡ asked
blank_ends cs n c left asked at some visible before =
    let few : length (shown c) ≤ left = omega (arith, visible_one c visible) in
    sym (up_to_visible left (shown c) (norm (drop (n + 1) cs)) few visible) ∙ ap (λ t. begins_blank t left) (sym (norm-drop cs n c at)) ∙ before

nothing_blank : (n : ℕ) → begins_blank [] n ≡ true
nothing_blank zero = refl
nothing_blank (suc n) = refl

-- a line that is read to its end holds nothing else
pub blank_whole : (cs : List ℕ) (n left : ℕ) (asked : Bool) → length cs ≤ n → list_all is_whitespace (take left (norm (drop n cs))) ≡ asked → true ≡ asked
unfolding norm
blank_whole cs n left asked all before =
    sym (at_drop_all (λ rest. begins_blank (norm rest) left) cs n all ∙ nothing_blank left) ∙ before

both_ahead : (a b c : Bool) → (a && (b && c)) ≡ (a && b) && (a && c)
both_ahead true b c = refl
both_ahead false b c = refl

true_last : (a : Bool) → a ≡ (a && true)
true_last true = refl
true_last false = refl

both_later : (a b c : Bool) → (a && (b && c)) ≡ ((a && b) && c)
both_later true b c = refl
both_later false b c = refl

-- a text begins with two amounts of whitespace where it begins with the greater
blank_both : (text : List ℕ) (a b : ℕ) → begins_blank text (max a b) ≡ (begins_blank text a && begins_blank text b)
blank_both text zero b = search rules
blank_both text (suc a) zero = search rules
blank_both [] (suc a) (suc b) = nothing_blank (max (suc a) (suc b))
blank_both (x ∷ xs) (suc a) (suc b) =
    let greater : max (suc a) (suc b) ≡ suc (max a b) = omega arith in
    ap (begins_blank (x ∷ xs)) greater ∙ ap (λ rest. is_whitespace x && rest) (blank_both xs a b)
    ∙ both_ahead (is_whitespace x) (begins_blank xs a) (begins_blank xs b)

-- of some entries of a line those before this one stand beside it where it begins with so much whitespace
abbrev pub PassedTo : List ℕ → List LineAnnotation → ℕ → ℕ → Type 0
PassedTo text es i last =
    list_all (is_beside text) es ≡ (list_all is_whitespace (take last text) && list_all (is_beside text) (drop i es))

-- a bar more
pub bar_passed : (text : List ℕ) (es : List LineAnnotation) (i last next depth : ℕ) (d : LineAnnotation) → i < length es
    → (get_or es i d).annotation_type ≡ MultilineLine depth → next ≡ last → PassedTo text es i last → PassedTo text es (i + 1) next
bar_passed text es i last next depth d within bar is = grind (arith, common_steps, nat_tests, true_last)

-- the greater of two numbers, as it is computed
greater_is : (a b : ℕ) → ord_max nat_cmp a b ≡ max a b
greater_is a b = grind (arith, nat_tests)

-- a start more
pub start_passed : (text : List ℕ) (es : List LineAnnotation) (i last next depth : ℕ) (d : LineAnnotation) → i < length es
    → (get_or es i d).annotation_type ≡ MultilineStart depth → next ≡ ord_max nat_cmp last (get_or es i d).start.display
    → PassedTo text es i last → PassedTo text es (i + 1) next
start_passed text es i last next depth d within starts is = grind (arith, common_steps, nat_tests, greater_is, blank_both)
