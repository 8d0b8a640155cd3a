-- The names of an object's fields.
use Rattle.std.proofs.Common.{◌≡◌, ℕ, zero, suc, ◌<◌, List, [], ◌∷◌, ◌++◌, get_or, length, Option, Some, None, Ordering, Less, Equal, Greater, String, Global}
use Rattle.std.proofs.Common.{Bor, true, inl, inr, sym, subst, refl, arith, string_bytes, nat_cmp, ap, ◌∙◌}
use Rattle.std.specs.Prelude.{IfSome, is_some, option_map}
use Rattle.std.specs.Cmp.Lexicographic.{slice_cmp}
use Rattle.std.specs.Map.{keys_of}
use Rattle.std.specs.Ordering.{match_ordering}
use Rattle.std.proofs.lemmas.Map.Lookups.{exact_bytes}
use Rattle.std.proofs.lemmas.Bool.{false≢true}
use Rattle.std.proofs.lemmas.Option.{none-some, same_Some}
use Rattle.serde_json.specs.Data.{Data, null, boolean, number, string, array, object, Members, member, no_members}
use Rattle.serde_json.specs.Find.{as_object, get, get_member}
use Rattle.serde_json.specs.View.{members_view, view}
use Rattle.serde_json.proofs.Views.{Entry}
use Rattle.json_lines.specs.Field.{HasOneField, HasOnly, IsOneOf, lent_texts}

-- the name at an index is one of the names
pub one_of_at : (refs : List (Bor (List ℕ))) (i : ℕ) (d : Bor (List ℕ)) (name : List ℕ) → i < length refs → name ≡ (get_or refs i d).now
    → IsOneOf (lent_texts refs) name
one_of_at [] i d name h e = absurd (omega (arith, h))
one_of_at (r ∷ refs) zero d name h e = inl e
one_of_at (r ∷ refs) (suc i) d name h e = inr (one_of_at refs i d name (omega (arith, h)) e)

-- each of these keys is one of the names
abbrev pub AllNamed : List (List ℕ) → List (String Global) → Type 0
AllNamed names [] = Unit {0}
AllNamed names (k ∷ ks) = IsOneOf names (string_bytes k) × AllNamed names ks

pub named_more : (names : List (List ℕ)) (done : List (String Global)) (k : String Global) → AllNamed names done → IsOneOf names (string_bytes k)
    → AllNamed names (done ++ k ∷ [])
named_more names [] k all is = (is, tt)
named_more names (x ∷ done) k all is = (all.0, named_more names done k all.1 is)

named_at : (names : List (List ℕ)) (name key : List ℕ) (d : Data) (rest : Option Data) (o : Ordering) → slice_cmp nat_cmp name key ≡ o → IsOneOf names key
    → (is_some rest ≡ true → IsOneOf names name) → is_some (match_ordering o rest (Some d) rest) ≡ true → IsOneOf names name
named_at names name key d rest Less at here later is = later is
named_at names name key d rest Equal at here later is = subst (IsOneOf names) (sym (exact_bytes name key at)) here
named_at names name key d rest Greater at here later is = later is

-- a member that is found stands under one of the names
pub named : (names : List (List ℕ)) (es : List Entry) → AllNamed names (keys_of es) → (name : List ℕ) → is_some (get_member name (members_view es)) ≡ true
    → IsOneOf names name
named names [] all name is = absurd (false≢true is)
named names (e ∷ es) all name is =
    named_at names name (string_bytes e.0) (view e.1) (get_member name (members_view es)) (slice_cmp nat_cmp name (string_bytes e.0)) refl all.0
    (named names es all.1 name) is

-- an object of these members
pub object_of : (d : Data) (ms : Members) → Some ms ≡ as_object d → d ≡ object ms
object_of null ms is = absurd (none-some ms (sym is))
object_of (boolean b) ms is = absurd (none-some ms (sym is))
object_of (number n) ms is = absurd (none-some ms (sym is))
object_of (string s) ms is = absurd (none-some ms (sym is))
object_of (array ds) ms is = absurd (none-some ms (sym is))
object_of (object ds) ms is = ap object (sym (same_Some ms ds is))

-- an object of these members has only fields of the names, where each of the members has
pub only_named : (names : List (List ℕ)) (d : Data) (ms : Members) → Some ms ≡ as_object d
    → ((name : List ℕ) → is_some (get_member name ms) ≡ true → IsOneOf names name) → HasOnly names d
only_named names d ms is named =
    let same : object ms ≡ d = sym (object_of d ms is) in
    subst (HasOnly names) same (refl, named)

one_member : (es : List Entry) → length es ≡ 1 → (name : List ℕ) × (e : Data) × (members_view es ≡ member name e no_members)
one_member [] one = absurd (omega (arith, one))
one_member (e ∷ []) one = (string_bytes e.0, view e.1, refl)
one_member (e ∷ f ∷ es) one = absurd (omega (arith, one))

-- an object of one member has one field
pub one_field : (d : Data) (es : List Entry) → Some (members_view es) ≡ as_object d → length es ≡ 1 → HasOneField d
one_field d es is one =
    let m = one_member es one in
    (m.0, m.1, object_of d (members_view es) is ∙ ap object m.2)

-- of one member, the one that is found is that
found_at : (name key : List ℕ) (d e : Data) (o : Ordering) → slice_cmp nat_cmp name key ≡ o → match_ordering o None (Some d) None ≡ Some e
    → (key ≡ name) × (d ≡ e)
found_at name key d e Less at is = absurd (none-some e is)
found_at name key d e Equal at is = (sym (exact_bytes name key at), same_Some d e is)
found_at name key d e Greater at is = absurd (none-some e is)

-- an object with one field, in which something is found under a name, is of that field
pub only_found : (d : Data) (name : List ℕ) (e : Data) → HasOneField d → Some e ≡ get name d → d ≡ object (member name e no_members)
only_found d name e one is =
    let at : get name (object (member one.0 one.1 no_members)) ≡ Some e = sym (ap (get name) one.2) ∙ sym is in
    let same = found_at name one.0 one.1 e (slice_cmp nat_cmp name one.0) refl at in
    one.2 ∙ ap (λ key. object (member key one.1 no_members)) same.0 ∙ ap (λ v. object (member name v no_members)) same.1

-- the same of what a look-up gives
pub found_only : {X : Type 0} (found : Option X) (shows : X → Data) (d : Data) (name : List ℕ) → HasOneField d → option_map shows found ≡ get name d
    → IfSome found (λ x. d ≡ object (member name (shows x) no_members))
found_only None shows d name one is = tt
found_only (Some x) shows d name one is = only_found d name (shows x) one is
