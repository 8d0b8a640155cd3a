-- What fields of JSON hold, and lists of JSON, item by item.
use Rattle.std.proofs.Common.{◌≡◌, ℕ, ◌+◌, ◌<◌, List, [], ◌∷◌, ◌++◌, Option, Some, None, append_assoc, get_or, length, map, take, refl, sym, ap, ◌∙◌}
use Rattle.std.specs.Prelude.{option_and_then}
use Rattle.std.specs.List.{filter_map, flat_map}
use Rattle.std.proofs.lemmas.List.{map_more}
use Rattle.std.proofs.lemmas.List.Elements.{filter_map-append}
use Rattle.std.proofs.lemmas.Grind.{flat_map-append}
use Rattle.serde_json.specs.Data.{Data, null, boolean, number, string, array, object}
use Rattle.serde_json.specs.Find.{as_array, get}
use Rattle.serde_json.specs.View.{view}
use Rattle.serde_json.specs.declared.value.Value.{Value}
use Rattle.json_lines.specs.Field.{as_whole, but_null}
use Rattle.json_lines.specs.Lenient.{but_zero, from_one, values}

-- `null` is no number and no list
whole_but_null : (d : Data) → option_and_then as_whole (but_null (Some d)) ≡ as_whole d
whole_but_null null = refl
whole_but_null (boolean b) = refl
whole_but_null (number n) = refl
whole_but_null (string s) = refl
whole_but_null (array ds) = refl
whole_but_null (object ms) = refl

list_but_null : (d : Data) → option_and_then as_array (but_null (Some d)) ≡ as_array d
list_but_null null = refl
list_but_null (boolean b) = refl
list_but_null (number n) = refl
list_but_null (string s) = refl
list_but_null (array ds) = refl
list_but_null (object ms) = refl

-- the line or column that stands there, and the values of the list
pub from-found : (name : List ℕ) (d e : Data) → Some e ≡ get name d → from_one name d ≡ option_and_then but_zero (as_whole e)
from-found name d e is =
    ap (λ (o : Option Data). option_and_then but_zero (option_and_then as_whole (but_null o))) (sym is)
    ∙ ap (option_and_then but_zero) (whole_but_null e)

pub from-none : (name : List ℕ) (d : Data) → None ≡ get name d → from_one name d ≡ None
from-none name d is = ap (λ (o : Option Data). option_and_then but_zero (option_and_then as_whole (but_null o))) (sym is)

pub listed : (o : Option Data) → values (option_and_then as_array (but_null o)) ≡ values (option_and_then as_array o)
listed None = refl
listed (Some d) = ap values (list_but_null d)

-- one value more
pub seen_more : (vs : List Value) (i : ℕ) (v : Value) → i < length vs → v ≡ get_or vs i v → map view (take (i + 1) vs) ≡ map view (take i vs) ++ view v ∷ []
seen_more vs i v within is = map_more view vs i v within ∙ ap (λ w. map view (take i vs) ++ view w ∷ []) (sym is)

pub kept_more : {Y : Type 0} (f : Data → Option Y) (vs : List Value) (i : ℕ) (v : Value) → i < length vs → v ≡ get_or vs i v
    → filter_map f (map view (take (i + 1) vs)) ≡ filter_map f (map view (take i vs)) ++ filter_map f (view v ∷ [])
kept_more f vs i v within is = ap (filter_map f) (seen_more vs i v within is) ∙ filter_map-append f (map view (take i vs)) (view v ∷ [])

pub mapped_more : {Y : Type 0} (f : Data → List Y) (vs : List Value) (i : ℕ) (v : Value) → i < length vs → v ≡ get_or vs i v
    → flat_map f (map view (take (i + 1) vs)) ≡ flat_map f (map view (take i vs)) ++ flat_map f (view v ∷ [])
mapped_more f vs i v within is = ap (flat_map f) (seen_more vs i v within is) ∙ flat_map-append f (map view (take i vs)) (view v ∷ [])

-- what was there, what was kept of the values before, and what is kept of one more
pub keeps_more : {Y : Type 0} (f : Data → Option Y) (vs : List Value) (i : ℕ) (v w : Value) (old now new : List Y) → i < length vs
    → v ≡ get_or vs i v → w ≡ v → now ≡ old ++ filter_map f (map view (take i vs)) → new ≡ now ++ filter_map f (view w ∷ [])
    → new ≡ old ++ filter_map f (map view (take (i + 1) vs))
keeps_more f vs i v w old now new within is same before added =
    let rest = filter_map f (map view (take i vs)) in
    added ∙ ap (λ u. now ++ filter_map f (view u ∷ [])) same ∙ ap (λ ys. ys ++ filter_map f (view v ∷ [])) before
    ∙ append_assoc old rest (filter_map f (view v ∷ [])) ∙ ap (λ ys. old ++ ys) (sym (kept_more f vs i v within is))
