-- The grammar of lists and objects counts its turns down. What it reads in some turns it reads in more.
use Rattle.std.proofs.Common.{◌≡◌, ℕ, zero, suc, ◌≤◌, List, Option, Some, None, option_map, option_and_then, refl, arith}
use Rattle.json.specs.Token.{Token}
use Rattle.json.specs.Json as json
use Rattle.json.specs.Json.{Parse, Json, after_end_array, read_key}

-- the second reads what the first reads
abbrev pub Extends : {A : Type 0} → Parse A → Parse A → Type 0
Extends {A} f g = (ts : List Token) (r : A × List Token) → f ts ≡ Some r → g ts ≡ Some r

map-more : {A B : Type 0} (k : A → B) (x y : Option A) (r : B) → ((a : A) → x ≡ Some a → y ≡ Some a) → option_map k x ≡ Some r → option_map k y ≡ Some r
map-more k None y r h e = absurd (cc)
map-more k (Some a) y r h e = rw (h a refl) e

then-more : {A B : Type 0} (f g : A → Option B) (x : Option A) (r : B) → ((a : A) (r : B) → f a ≡ Some r → g a ≡ Some r)
    → option_and_then f x ≡ Some r → option_and_then g x ≡ Some r
then-more f g None r h e = e
then-more f g (Some a) r h e = h a r e

items_step-more : (v : Parse Json) (f g : Parse json.Items) → Extends f g → (ts : List Token) (o : Option (List Token)) (r : json.Items × List Token)
    → json.items_step v f ts o ≡ Some r → json.items_step v g ts o ≡ Some r
items_step-more v f g h ts (Some rest) r e = e
items_step-more v f g h ts None r e = then-more _ _ (v ts) r (λ p q i. map-more _ (f p.1) (g p.1) q (h p.1) i) e

pub more_items : (v : Parse Json) (m n : ℕ) → m ≤ n → Extends (json.items v m) (json.items v n)
unfolding json.items
more_items v zero n le ts r e = absurd (cc)
more_items v (suc m) zero le ts r e = absurd (omega arith)
more_items v (suc m) (suc n) le ts r e = items_step-more v (json.items v m) (json.items v n) (more_items v m n (omega arith)) ts (after_end_array ts) r e

members_step-more : (v : Parse Json) (f g : Parse json.Members) → Extends f g → (key : Option (List ℕ)) (ts : List Token) (r : json.Members × List Token)
    → json.members_step v f key ts ≡ Some r → json.members_step v g key ts ≡ Some r
members_step-more v f g h None ts r e = e
members_step-more v f g h (Some k) ts r e = then-more _ _ (v ts) r (λ p q i. map-more _ (f p.1) (g p.1) q (h p.1) i) e

pub more_members : (v : Parse Json) (m n : ℕ) → m ≤ n → Extends (json.members v m) (json.members v n)
unfolding json.members
more_members v zero n le ts r e = absurd (cc)
more_members v (suc m) zero le ts r e = absurd (omega arith)
more_members v (suc m) (suc n) le ts r e =
    then-more _ _ (read_key ts) r (λ p q i. members_step-more v (json.members v m) (json.members v n) (more_members v m n (omega arith)) p.0 p.1 q i) e
