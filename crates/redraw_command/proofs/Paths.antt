-- What of a path is left, and where it leads.
use Rattle.std.proofs.Common.{◌≡◌, ◌≢◌, ◌==◌, ℕ, ◌-◌, Bool, true, false, List, [], ◌∷◌, ◌++◌, Bor, Option, Some, None, MatchOption, IfSome}
use Rattle.std.proofs.Common.{ap, arith, drop, length, take, refl, sym, ◌∙◌}
use Rattle.std.specs.Str.Pattern.{CutsSuffixes, FindsCharSuffix, FindsTextPrefix, IsTrimEndMatches, StripsPrefix}
use Rattle.std.proofs.lemmas.Bool.{eqb-true}
use Rattle.std.proofs.lemmas.List.{drop_all, take-append-drop}
use Rattle.std.proofs.lemmas.Str.Pattern.{drop_at_char}
use Rattle.redraw_command.specs.Files.{IsBelow, before_rest, without_slashes}

-- one more slash at the end makes no difference
slash_after : (r : List ℕ) → without_slashes (r ++ 47 ∷ []) ≡ without_slashes r
slash_after [] = refl
slash_after (b ∷ r) = ap (before_rest b) (slash_after r)

-- a path is what is left of it, where it doesn't end with a slash
whole : (r : List ℕ) → ((front : List ℕ) → r ≢ front ++ 47 ∷ []) → without_slashes r ≡ r
whole [] ends = refl
whole (b ∷ []) ends = alone (b == 47) refl
  where
    alone : (is : Bool) → (b == 47) ≡ is → before_rest b [] ≡ b ∷ []
    alone true same = absurd (ends [] (ap (λ (x : ℕ). x ∷ []) (eqb-true b 47 same)))
    alone false same = rw same refl
whole (b ∷ c ∷ r) ends = ap (before_rest b) (whole (c ∷ r) (λ front is. ends (b ∷ front) (ap (λ (l : List ℕ). b ∷ l) is)))

-- what ends with a slash that is cut off
one_cut : (m : List ℕ) (n : ℕ) → FindsCharSuffix 47 m (Some n) → m ≡ take (length m - n) m ++ 47 ∷ []
one_cut m n finds =
    sym (take-append-drop (length m - n) m)
    ∙ ap (λ l. take (length m - n) m ++ l)
    (drop_at_char 47 m (length m - n) (length m) finds.1 (omega arith) ∙ ap (λ l. 47 ∷ l) (drop_all (length m) m (omega arith)))

cut : (s ns r : List ℕ) → CutsSuffixes (FindsCharSuffix 47) s ns r → without_slashes s ≡ without_slashes r
cut s [] r is = ap without_slashes (sym is)
cut s (n ∷ ns) r (m, before, finds, is) =
    cut s ns m before ∙ ap without_slashes (one_cut m n finds ∙ ap (λ l. l ++ 47 ∷ []) (sym is)) ∙ slash_after r

ended : (r : List ℕ) (o : Option ℕ) → FindsCharSuffix 47 r o → IfSome o (λ n. n ≡ 0) → (front : List ℕ) → r ≢ front ++ 47 ∷ []
unfolding lib.Utf8.encode
ended r None finds zero = finds
ended r (Some n) finds zero = absurd (omega (arith, finds.0, zero))

-- what is left where all slashes are cut off
pub trimmed : (s r : List ℕ) → IsTrimEndMatches (FindsCharSuffix 47) s r → r ≡ without_slashes s
trimmed s r ((ns, cuts), (o, finds, zero)) = sym (cut s ns r cuts ∙ whole r (ended r o finds zero))

-- a text without another at its start
pub strip_text : (n s : List ℕ) (r : Option (Bor (List ℕ))) → MatchOption r (FindsTextPrefix n s None) (λ x. StripsPrefix (FindsTextPrefix n) s x.now)
    → MatchOption r ((rest : List ℕ) → s ≢ n ++ rest) (λ x. s ≡ n ++ x.now)
strip_text n s None lacks = lacks
strip_text n s (Some x) strips = strips.1.1 ∙ ap (λ l. n ++ l) (sym strips.2)

rest_of : List ℕ → List ℕ
rest_of [] = []
rest_of (b ∷ bs) = bs

same_rest : (start one other : List ℕ) → start ++ one ≡ start ++ other → one ≡ other
unfolding rest_of
same_rest [] one other same = same
same_rest (b ∷ start) one other same = same_rest start one other (ap rest_of same)

-- a path that is a folder and something after it leads to a file below it where that is a slash and a path
pub below_as : (folder path rest : List ℕ) (r : Option (Bor (List ℕ))) → path ≡ folder ++ rest
    → MatchOption r ((file : List ℕ) → rest ≡ 47 ∷ file → file ≡ []) (λ file. (rest ≡ 47 ∷ file.now) × (file.now ≢ []))
    → MatchOption r ((file : List ℕ) → IsBelow folder path file → ⊥) (λ file. IsBelow folder path file.now)
below_as folder path rest None is none = λ file below. below.some (none file (same_rest folder rest (47 ∷ file) (sym is ∙ below.split)))
below_as folder path rest (Some file) is found = record { split = is ∙ ap (λ l. folder ++ l) found.0; some = found.1 }

-- what stands after a slash and isn't empty
pub file_as : (rest path : List ℕ) (r : Option (Bor (List ℕ))) → rest ≡ 47 ∷ path
    → MatchOption r (path ≡ []) (λ same. (same.now ≡ path) × (same.now ≢ []))
    → MatchOption r ((file : List ℕ) → rest ≡ 47 ∷ file → file ≡ []) (λ file. (rest ≡ 47 ∷ file.now) × (file.now ≢ []))
unfolding rest_of
file_as rest path None is none = λ file same. ap rest_of (sym same ∙ is) ∙ none
file_as rest path (Some file) is found = (is ∙ ap (λ l. 47 ∷ l) (sym found.0), found.1)
