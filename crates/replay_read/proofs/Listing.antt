-- Lists of JSON, item by item.
use Rattle.std.proofs.Common.{◌≡◌, ℕ, ◌+◌, ◌<◌, List, [], ◌∷◌, ◌++◌, get_or, length, map, take, sym, ap, ◌∙◌, subst}
use Rattle.std.specs.List.{AllZip}
use Rattle.std.proofs.lemmas.List.{map_more}
use Rattle.std.proofs.lemmas.Slice.Zip.{all_zipped_more}
use Rattle.serde_json.specs.Data.{Data}
use Rattle.serde_json.specs.View.{view}
use Rattle.serde_json.specs.declared.value.Value.{Value}
use Rattle.json_lines.specs.Field.{ListSays}

-- one item more says one more
pub items_more : {X : Type 0} (Says : Data → X → Type 0) (values : List Value) (i : ℕ) (v : Value) (xs : List X) (x : X) → i < length values
    → v ≡ get_or values i v → AllZip Says (map view (take i values)) xs → Says (view v) x → AllZip Says (map view (take (i + 1) values)) (xs ++ x ∷ [])
items_more Says values i v xs x within is all says =
    let more = map_more view values i v within ∙ ap (λ w. map view (take i values) ++ view w ∷ []) (sym is) in
    subst (λ ds. AllZip Says ds (xs ++ x ∷ [])) (sym more) (all_zipped_more Says (map view (take i values)) xs (view v) x all says)

-- what the items of a list are said to be, their texts are
zipped : {X Y : Type 0} (R : Data → Y → Type 0) (text : X → Y) (ds : List Data) (xs : List X) → AllZip (λ d x. R d (text x)) ds xs
    → AllZip R ds (map text xs)
zipped R text [] [] all = all
zipped R text [] (x ∷ xs) all = all
zipped R text (d ∷ ds) [] all = all
zipped R text (d ∷ ds) (x ∷ xs) (first, rest) = (first, zipped R text ds xs rest)

pub texts-said : {X Y : Type 0} (R : Data → Y → Type 0) (text : X → Y) (d : Data) (xs : List X) → ListSays (λ e x. R e (text x)) d xs
    → ListSays R d (map text xs)
texts-said R text d xs (items, is, all) = (items, is, zipped R text items xs all)
