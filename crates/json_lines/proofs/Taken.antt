-- A value, an item or a member more is taken.
use Rattle.std.proofs.Common.{◌≡◌, ℕ, zero, suc, ◌<◌, Bool, List, [], ◌∷◌, length, Option, Some, None, option_map, IfSome}
use Rattle.std.proofs.Common.{String, string_bytes, refl, ap, rules, arith}
use Rattle.std.specs.declared.alloc.Global.{Global}
use Rattle.json.specs.Token as token
use Rattle.json.specs.Token.{Token}
use Rattle.json.specs.Lex.{tokens}
use Rattle.json.specs.Json as json
use Rattle.json.specs.Json.{Parse, after_end_array, read_key}
use Rattle.serde_json.specs.Data.{Num, Data, null, boolean, number, string, array, object, Items, no_items, item, Members, no_members, put}
use Rattle.serde_json.specs.Read.{number_of, converted, of_json, of_items, of_members, max_depth, read}
use Rattle.serde_json.specs.View.{view}
use Rattle.serde_json.specs.declared.value.Value as value
use Rattle.serde_json.specs.declared.value.Value.{Value, Null, the_lemmas}
use Rattle.json_lines.specs.Quick.{Takes, TakesItems, TakesMembers}
use Rattle.json_lines.proofs.Fuel.{more_items, more_members}

-- ---- what was read, under f

Source : {A B : Type 0} → (A → Option B) → Option (A × List Token) → B → List Token → Type 0
Source {A} f x b ts = (a : A) × (x ≡ Some (a, ts)) × (f a ≡ Some b)

within : {A : Type 0} (p q : A) → Some p ≡ Some q → p ≡ q
within p q e = (cc)

parts : {B : Type 0} (o : Option B) (t ts : List Token) (b : B) → option_map {U = B × List Token} (λ x. (x, t)) o ≡ Some (b, ts) → (o ≡ Some b) × (t ≡ ts)
parts None t ts b e = absurd (cc)
parts (Some x) t ts b e = let p = within (x, t) (b, ts) e in (ap (λ q. Some q.0) p, ap (λ q. q.1) p)

source : {A B : Type 0} (f : A → Option B) (x : Option (A × List Token)) (b : B) (ts : List Token) → converted f x ≡ Some (b, ts) → Source f x b ts
unfolding Source
source f None b ts e = absurd (cc)
source f (Some p) b ts e = let h = parts (f p.0) p.1 ts b e in (p.0, ap (λ t. Some (p.0, t)) h.1, h.0)

-- ---- a value

view-Null : view Null ≡ null
view-Null = search (rules, the_lemmas)

view-Bool : (b : Bool) → view (value.Bool b) ≡ boolean b
view-Bool b = search (rules, the_lemmas)

view-String : (t : String Global) → view (value.String t) ≡ string (string_bytes t)
view-String t = search (rules, the_lemmas)

pub takes-null : (depth : ℕ) (old new : List Token) → old ≡ token.null ∷ new → Takes depth old new null
unfolding json.value
takes-null zero old new e = rw e (record { value = refl; shorter = omega arith })
takes-null (suc depth) old new e = rw e (record { value = refl; shorter = omega arith })

pub takes-boolean : (depth : ℕ) (old new : List Token) (b : Bool) → old ≡ token.boolean b ∷ new → Takes depth old new (boolean b)
unfolding json.value
takes-boolean zero old new b e = rw e (record { value = refl; shorter = omega arith })
takes-boolean (suc depth) old new b e = rw e (record { value = refl; shorter = omega arith })

pub takes-string : (depth : ℕ) (old new : List Token) (s : List ℕ) → old ≡ token.string s ∷ new → Takes depth old new (string s)
unfolding json.value
takes-string zero old new s e = rw e (record { value = refl; shorter = omega arith })
takes-string (suc depth) old new s e = rw e (record { value = refl; shorter = omega arith })

pub takes-number : (depth : ℕ) (old new : List Token) (s : List ℕ) (n : Num) → old ≡ token.number s ∷ new → number_of s ≡ Some n
    → Takes depth old new (number n)
unfolding json.value
takes-number zero old new s n e is = rw e (record { value = rw is refl; shorter = omega arith })
takes-number (suc depth) old new s n e is = rw e (record { value = rw is refl; shorter = omega arith })

taken-array : (depth : ℕ) (mid new : List Token) (ds : Items) → TakesItems depth mid new ds → Takes (suc depth) (token.begin_array ∷ mid) new (array ds)
unfolding json.value Source
taken-array depth mid new ds t =
    let h = source of_items (json.items (json.value depth) (length mid) mid) ds new t.items in
    record { value = rw h.1 (rw h.2 refl); shorter = omega arith }

pub takes-array : (depth less : ℕ) (old mid new : List Token) (ds : Items) → depth ≡ suc less → old ≡ token.begin_array ∷ mid → TakesItems less mid new ds
    → Takes depth old new (array ds)
takes-array depth less old mid new ds is e t = rw (is, e) (taken-array less mid new ds t)

taken-object : (depth : ℕ) (mid new : List Token) (ms : Members) → TakesMembers depth no_members mid new ms
    → Takes (suc depth) (token.begin_object ∷ mid) new (object ms)
unfolding json.value Source
taken-object depth mid new ms t =
    let h = source (λ js. of_members js no_members) (json.members (json.value depth) (length mid) mid) ms new t.members in
    record { value = rw h.1 (rw h.2 refl); shorter = omega arith }

pub takes-object : (depth less : ℕ) (old mid new : List Token) (ms : Members) → depth ≡ suc less → old ≡ token.begin_object ∷ mid
    → TakesMembers less no_members mid new ms → Takes depth old new (object ms)
takes-object depth less old mid new ms is e t = rw (is, e) (taken-object less mid new ms t)

-- ---- items

end-shorter : (old new : List Token) → after_end_array old ≡ Some new → length new < length old
end-shorter [] new e = absurd (cc)
end-shorter (token.begin_object ∷ ts) new e = absurd (cc)
end-shorter (token.end_object ∷ ts) new e = absurd (cc)
end-shorter (token.begin_array ∷ ts) new e = absurd (cc)
end-shorter (token.end_array ∷ ts) new e = let same : ts ≡ new = within ts new e in omega (arith, ap length same)
end-shorter (token.key s ∷ ts) new e = absurd (cc)
end-shorter (token.string s ∷ ts) new e = absurd (cc)
end-shorter (token.number s ∷ ts) new e = absurd (cc)
end-shorter (token.boolean b ∷ ts) new e = absurd (cc)
end-shorter (token.null ∷ ts) new e = absurd (cc)
end-shorter (token.bad ∷ ts) new e = absurd (cc)

items-end : (v : Parse json.Json) (n : ℕ) (old new : List Token) → after_end_array old ≡ Some new
    → converted of_items (json.items v (suc n) old) ≡ Some (no_items, new)
unfolding json.items
items-end v n old new e = rw e refl

pub takes-no_items : (depth : ℕ) (old new : List Token) → after_end_array old ≡ Some new → TakesItems depth old new no_items
takes-no_items depth [] new e = absurd (cc)
takes-no_items depth (t ∷ ts) new e = record { items = items-end (json.value depth) (length ts) (t ∷ ts) new e; shorter = end-shorter (t ∷ ts) new e }

items-step : (v : Parse json.Json) (n : ℕ) (old mid new : List Token) (j : json.Json) (js : json.Items)
    → after_end_array old ≡ None → v old ≡ Some (j, mid) → json.items v n mid ≡ Some (js, new)
    → json.items v (suc n) old ≡ Some (json.item j js, new)
unfolding json.items
items-step v n old mid new j js e here later = rw (e, here) (rw later refl)

pub takes-item : (depth : ℕ) (old mid new : List Token) (d : Data) (ds : Items) → after_end_array old ≡ None → Takes depth old mid d
    → TakesItems depth mid new ds → TakesItems depth old new (item d ds)
unfolding Source
takes-item depth [] mid new d ds e here later = absurd (omega (arith, here.shorter))
takes-item depth (t ∷ ts) mid new d ds e here later =
    let a = source of_json (json.value depth (t ∷ ts)) d mid here.value in
    let b = source of_items (json.items (json.value depth) (length mid) mid) ds new later.items in
    let more = more_items (json.value depth) (length mid) (length ts) (omega (arith, here.shorter)) mid (b.0, new) b.1 in
    let all = items-step (json.value depth) (length ts) (t ∷ ts) mid new a.0 b.0 e a.1 more in
    record { items = rw all (rw (a.2, b.2) refl); shorter = omega (arith, here.shorter, later.shorter) }

-- ---- members

key-shorter : (old new : List Token) (k : Option (List ℕ)) → read_key old ≡ Some (k, new) → length new < length old
key-shorter [] new k e = absurd (cc)
key-shorter (token.begin_object ∷ ts) new k e = absurd (cc)
key-shorter (token.end_object ∷ ts) new k e = let same = within (None, ts) (k, new) e in omega (arith, ap (λ q. length q.1) same)
key-shorter (token.begin_array ∷ ts) new k e = absurd (cc)
key-shorter (token.end_array ∷ ts) new k e = absurd (cc)
key-shorter (token.key s ∷ ts) new k e = let same = within (Some s, ts) (k, new) e in omega (arith, ap (λ q. length q.1) same)
key-shorter (token.string s ∷ ts) new k e = absurd (cc)
key-shorter (token.number s ∷ ts) new k e = absurd (cc)
key-shorter (token.boolean b ∷ ts) new k e = absurd (cc)
key-shorter (token.null ∷ ts) new k e = absurd (cc)
key-shorter (token.bad ∷ ts) new k e = absurd (cc)

members-end : (v : Parse json.Json) (n : ℕ) (found : Members) (old new : List Token) → read_key old ≡ Some (None, new)
    → converted (λ js. of_members js found) (json.members v (suc n) old) ≡ Some (found, new)
unfolding json.members
members-end v n found old new e = rw e refl

pub takes-no_members : (depth : ℕ) (found : Members) (old new : List Token) → read_key old ≡ Some (None, new) → TakesMembers depth found old new found
takes-no_members depth found [] new e = absurd (cc)
takes-no_members depth found (t ∷ ts) new e =
    record { members = members-end (json.value depth) (length ts) found (t ∷ ts) new e; shorter = key-shorter (t ∷ ts) new None e }

members-step : (v : Parse json.Json) (n : ℕ) (old rest mid new : List Token) (k : List ℕ) (j : json.Json) (js : json.Members)
    → read_key old ≡ Some (Some k, rest) → v rest ≡ Some (j, mid) → json.members v n mid ≡ Some (js, new)
    → json.members v (suc n) old ≡ Some (json.member k j js, new)
unfolding json.members
members-step v n old rest mid new k j js e here later = rw (e, here) (rw later refl)

pub takes-member : (depth : ℕ) (found : Members) (old rest mid new : List Token) (k : List ℕ) (d : Data) (ms : Members)
    → read_key old ≡ Some (Some k, rest) → Takes depth rest mid d → TakesMembers depth (put k d found) mid new ms
    → TakesMembers depth found old new ms
unfolding Source
takes-member depth found [] rest mid new k d ms e here later = absurd (cc)
takes-member depth found (t ∷ ts) rest mid new k d ms e here later =
    let a = source of_json (json.value depth rest) d mid here.value in
    let b = source (λ js. of_members js (put k d found)) (json.members (json.value depth) (length mid) mid) ms new later.members in
    let less = key-shorter (t ∷ ts) rest (Some k) e in
    let more = more_members (json.value depth) (length mid) (length ts) (omega (arith, less, here.shorter)) mid (b.0, new) b.1 in
    let all = members-step (json.value depth) (length ts) (t ∷ ts) rest mid new k a.0 b.0 e a.1 more in
    record { members = rw all (rw (a.2, b.2) refl); shorter = omega (arith, less, here.shorter, later.shorter) }

-- ---- what a function found

pub found-null : (depth : ℕ) (old new : List Token) → old ≡ token.null ∷ new → Takes depth old new (view Null)
found-null depth old new e = rw view-Null (takes-null depth old new e)

pub found-bool : (depth : ℕ) (old new : List Token) (b : Bool) → old ≡ token.boolean b ∷ new → Takes depth old new (view (value.Bool b))
found-bool depth old new b e = rw (view-Bool b) (takes-boolean depth old new b e)

pub found-string : (depth : ℕ) (old new : List Token) (s : List ℕ) (t : String Global) → old ≡ token.string s ∷ new → string_bytes t ≡ s
    → Takes depth old new (view (value.String t))
found-string depth old new s t e is = rw (view-String t, is) (takes-string depth old new s e)

pub found-number : (depth : ℕ) (old new : List Token) (s : List ℕ) (found : Option Value) → old ≡ token.number s ∷ new
    → IfSome found (λ value. (n : Num) × (view value ≡ number n) × (number_of s ≡ Some n))
    → IfSome found (λ value. Takes depth old new (view value))
found-number depth old new s None e h = tt
found-number depth old new s (Some value) e h = rw h.1 (takes-number depth old new s h.0 e h.2)

pub found-array : (depth less : ℕ) (old mid new : List Token) (found : Option Value) → depth ≡ suc less → old ≡ token.begin_array ∷ mid
    → IfSome found (λ value. (items : Items) × (view value ≡ array items) × TakesItems less mid new items)
    → IfSome found (λ value. Takes depth old new (view value))
found-array depth less old mid new None is e h = tt
found-array depth less old mid new (Some value) is e h = rw h.1 (takes-array depth less old mid new h.0 is e h.2)

pub found-object : (depth less : ℕ) (old mid new : List Token) (found : Option Value) → depth ≡ suc less → old ≡ token.begin_object ∷ mid
    → IfSome found (λ value. (members : Members) × (view value ≡ object members) × TakesMembers less no_members mid new members)
    → IfSome found (λ value. Takes depth old new (view value))
found-object depth less old mid new None is e h = tt
found-object depth less old mid new (Some value) is e h = rw h.1 (takes-object depth less old mid new h.0 is e h.2)

-- ---- a text

pub read-taken : (text : List ℕ) (d : Data) → Takes max_depth (tokens text) [] d → read text ≡ Some d
unfolding Source
read-taken text d t = let a = source of_json (json.value max_depth (tokens text)) d [] t.value in rw a.1 a.2

pub found-text : (text : List ℕ) (old left : List Token) (found : Option Value) → old ≡ tokens text → left ≡ []
    → IfSome found (λ value. Takes max_depth old left (view value)) → IfSome found (λ value. read text ≡ Some (view value))
found-text text old left None begins ends h = tt
found-text text old left (Some value) begins ends h = read-taken text (view value) (rw (begins, ends) at h)
