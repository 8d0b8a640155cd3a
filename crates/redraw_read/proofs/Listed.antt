-- Values of a list, one after another.
use Rattle.std.proofs.Common.{◌≡◌, ℕ, suc, ◌+◌, ◌<◌, List, [], ◌∷◌, ◌++◌, Option, Bool, ap, append_assoc, append-nil, arith, get_or, length, map}
use Rattle.std.proofs.Common.{◌∙◌, ◌⊎◌, ◌≤◌, ◌==◌, None, Some, codes, false, inl, inr, refl, subst, sym, take, true}
use Rattle.std.specs.List.{All, AllZip, Contains, filter, filter_map, flat_map}
use Rattle.std.proofs.lemmas.Bool.{eqb-true}
use Rattle.std.proofs.lemmas.Grind.{flat_map-append}
use Rattle.std.proofs.lemmas.List.{get_or-map, length-map, length-take-le, map_more}
use Rattle.std.proofs.lemmas.List.Elements.{All-append, filter-append, filter_map-append}
use Rattle.std.proofs.lemmas.Slice.Zip.{all_zipped_more}
use Rattle.serde_json.specs.Data.{Data}
use Rattle.serde_json.specs.View.{view}
use Rattle.serde_json.specs.declared.value.Value.{Value}
use Rattle.redraw_read.specs.AsShown.{settled}
use Rattle.redraw_read.specs.Places.{AreLinesOf, AreListed, AreOrdered, ArePlacesIn, ArePlacesOf, CarriesItems, IsCallBeside, SaysLine, joined, shown_of}
use Rattle.redraw_read.specs.Rustc.{ArePlacesBeside}
use Rattle.redraw_read.specs.declared.named_files.NamedFiles.{NamedFiles}
use Rattle.redraw_read.specs.declared.reading.Reader.{Reader}
use Rattle.redraw_report.specs.declared.diagnostic.FileSpan.{FileSpan}
use Rattle.redraw_report.specs.declared.diagnostic.SuggestedEdit.{SuggestedEdit}
use Rattle.redraw_report.specs.declared.diagnostic.Carried.{Carried}
use Rattle.redraw_report.specs.declared.diagnostic.LineRegion.{LineRegion}

-- one value more says one more
pub items_next : {X : Type 0} (Says : Data → X → Type 0) (values : List Value) (i : ℕ) (v : Value) (xs : List X) (x : X) → i < length values
    → v ≡ get_or values i v → AllZip Says (map view (take i values)) xs → Says (view v) x → AllZip Says (map view (take (i + 1) values)) (xs ++ x ∷ [])
items_next Says values i v xs x within is all says =
    let more = map_more view values i v within ∙ ap (λ w. map view (take i values) ++ view w ∷ []) (sym is) in
    subst (λ ds. AllZip Says ds (xs ++ x ∷ [])) (sym more) (all_zipped_more Says (map view (take i values)) xs (view v) x all says)

-- what is kept of one more
pub kept_next : {X : Type 0} (p : X → Bool) (all : List X) (x : X) (old new : List X) → old ≡ filter p all → new ≡ old ++ filter p (x ∷ [])
    → new ≡ filter p (all ++ x ∷ [])
kept_next p all x old new before grown =
    grown ∙ ap (λ xs. xs ++ filter p (x ∷ [])) before ∙ sym (filter-append p all (x ∷ []))

-- what is found of one more
pub found_next : {X : Type 0} (each : List (Option X)) (found : Option X) (old new : List X) → old ≡ filter_map (λ e. e) each
    → new ≡ old ++ filter_map (λ e. e) (found ∷ []) → new ≡ filter_map (λ e. e) (each ++ found ∷ [])
found_next {X} each found old new before grown =
    grown
    ∙ ap (λ (xs : List X). xs ++ filter_map (λ (e : Option X). e) (found ∷ [])) before
    ∙ sym (filter_map-append (λ (e : Option X). e) each (found ∷ []))

-- what all are that were added, after more
pub added_next : {X : Type 0} (P : X → Type 0) (first old new : List X) → (xs : List X) × All P xs × (old ≡ first ++ xs)
    → (ys : List X) × All P ys × (new ≡ old ++ ys) → (zs : List X) × All P zs × (new ≡ first ++ zs)
added_next P first old new before more = (
  before.0 ++ more.0,
  All-append P before.0 more.0 before.1 more.1,
  more.2 ∙ ap (λ xs. xs ++ more.0) before.2 ∙ append_assoc first before.0 more.0,
)

-- a value of a list is one of them
pub is_listed : (values : List Value) (i : ℕ) (v : Value) → i < length values → v ≡ get_or values i v → Contains (map view values) (view v)
is_listed values i v within is = (
  i,
  subst (λ n. i < n) (sym (length-map values view)) within,
  get_or-map view values i v (view v) within ∙ ap view (sym is),
)

-- as many things are said as there are values
same_length : {X : Type 0} (R : Data → X → Type 0) (ds : List Data) (xs : List X) → AllZip R ds xs → length xs ≡ length ds
same_length R [] [] h = refl
same_length R [] (x ∷ xs) h = absurd h
same_length R (d ∷ ds) [] h = absurd h
same_length R (d ∷ ds) (x ∷ xs) h = ap suc (same_length R ds xs h.1)

pub as_many : {X : Type 0} (R : Data → X → Type 0) (values : List Value) (i : ℕ) (xs : List X) → i < length values → AllZip R (map view (take i values)) xs
    → length xs ≡ i
as_many R values i xs within h =
    let fits : i ≤ length values = omega arith in
    same_length R (map view (take i values)) xs h ∙ length-map (take i values) view ∙ length-take-le i values fits

-- the text of lines, and of one more
pub joined_next : (said : List (List ℕ)) (i : ℕ) (line old new : List ℕ) → length said ≡ i → old ≡ joined said → (i ≡ 0 → new ≡ old ++ line)
    → (0 < i → new ≡ old ++ 10 ∷ line) → new ≡ joined (said ++ line ∷ [])
joined_next [] i line old new len before first further = first (sym len) ∙ ap (λ t. t ++ line) before ∙ sym (append-nil line)
joined_next (l ∷ ls) i line old new len before first further =
    let feed = λ (t : List ℕ). 10 ∷ t in
    further (omega (arith, len))
    ∙ ap (λ t. t ++ 10 ∷ line) before
    ∙ append_assoc l (flat_map feed ls) (10 ∷ line)
    ∙ ap (λ t. l ++ t) (sym (flat_map-append feed ls (line ∷ []) ∙ ap (λ t. flat_map feed ls ++ t) (append-nil (10 ∷ line))))

-- no lines come with a place whose list is empty, and else those that its values say
pub carries_none : (r : LineRegion) (values : List Value) → true ≡ (length values == 0) → CarriesItems r (map view values) None
carries_none r [] e = refl
carries_none r (v ∷ vs) e = absurd (omega (arith, eqb-true (length (v ∷ vs)) 0 (sym e)))

pub carries_some : (r : LineRegion) (values : List Value) (lines : List (List ℕ)) (c : Carried) → false ≡ (length values == 0)
    → AllZip SaysLine (map view values) lines → AreLinesOf r lines c → CarriesItems r (map view values) (Some c)
carries_some r [] lines c more all are = absurd (cc more)
carries_some r (v ∷ vs) lines c more all are = (lines, all, (c, refl, are))

-- a text that a line feed may end, and one that is the same
pub ended_as : (a b t : List ℕ) → a ≡ t → (b ≡ a) ⊎ (b ≡ a ++ 10 ∷ []) → (b ≡ t) ⊎ (b ≡ t ++ 10 ∷ [])
ended_as a b t same (inl e) = inl (e ∙ same)
ended_as a b t same (inr e) = inr (e ∙ ap (λ x. x ++ 10 ∷ []) same)

-- a child has places where it has no edits
pub beside_none : (reader : Reader) (d : Data) (edits : List SuggestedEdit) (spans : List FileSpan) → true ≡ (length edits == 0)
    → ArePlacesOf reader.named_by_children reader.puts_labels_first d spans → ArePlacesBeside reader d edits spans
beside_none reader d [] spans none are = are
beside_none reader d (e ∷ es) spans none are = absurd (omega (arith, eqb-true (length (e ∷ es)) 0 (sym none)))

pub beside_some : (reader : Reader) (d : Data) (edits : List SuggestedEdit) (spans : List FileSpan) → false ≡ (length edits == 0)
    → spans ≡ [] → ArePlacesBeside reader d edits spans
beside_some reader d [] spans some none = absurd (cc some)
beside_some reader d (e ∷ es) spans some none = none

-- the places of a diagnostic, by those of its list and the calls beside them, settled and ordered
pub places_of : (named : Option NamedFiles) (keeps : Bool) (d : Data) (items : List Data) (own calls all settled_all ordered spans : List FileSpan)
    → AreListed (codes "spans") d items → ArePlacesIn named keeps items own → All (IsCallBeside items) calls → all ≡ own ++ calls
    → settled_all ≡ settled all → AreOrdered settled_all ordered → spans ≡ shown_of ordered → ArePlacesOf named keeps d spans
places_of named keeps d items own calls all settled_all ordered spans listed are beside added settles orders shown =
    record {
      items = items;
      listed = listed;
      own = own;
      are = are;
      calls = calls;
      beside = beside;
      ordered = ordered;
      in_order = subst (λ xs. AreOrdered xs ordered) (settles ∙ ap settled added) orders;
      shown = shown;
    }
