-- What was taken of a list or an object so far: whatever follows, all of it is taken from where it began.
use Rattle.std.proofs.Common.{◌≡◌, ℕ, List, [], ◌∷◌, ◌++◌, map, Some, None, append_assoc}
use Rattle.std.proofs.lemmas.List.{append-nil, map-append}
use Rattle.json.specs.Token.{Token}
use Rattle.json.specs.Json.{after_end_array, read_key}
use Rattle.serde_json.specs.Data.{Data, Members, no_members, put}
use Rattle.serde_json.specs.View.{items_of, items_view, view}
use Rattle.serde_json.specs.declared.value.Value.{Value}
use Rattle.json_lines.specs.Quick.{Takes, TakesItems, TakesMembers}
use Rattle.json_lines.proofs.Taken.{takes-item, takes-member, takes-no_items, takes-no_members}

pub record ItemsSoFar (depth : ℕ) (start tokens : List Token) (found : List Value) : Type 0 where
  pub so_far : (left : List Token) (more : List Data) → TakesItems depth tokens left (items_of more)
      → TakesItems depth start left (items_of (map view found ++ more))

pub items-next : (depth : ℕ) (start tokens mid : List Token) (found : List Value) (value : Value) → ItemsSoFar depth start tokens found
    → after_end_array tokens ≡ None → Takes depth tokens mid (view value) → ItemsSoFar depth start mid (found ++ value ∷ [])
items-next depth start tokens mid found value so e here = record {
  so_far = λ left more t. rw (map-append view found (value ∷ []), append_assoc)
      (so.so_far left (view value ∷ more) (takes-item depth tokens mid left (view value) (items_of more) e here t));
}

pub items-done : (depth : ℕ) (start tokens left : List Token) (found : List Value) → ItemsSoFar depth start tokens found
    → after_end_array tokens ≡ Some left → TakesItems depth start left (items_view found)
items-done depth start tokens left found so e = rw (append-nil (map view found)) at (so.so_far left [] (takes-no_items depth tokens left e))

pub record MembersSoFar (depth : ℕ) (start tokens : List Token) (found : Members) : Type 0 where
  pub so_far : (left : List Token) (ms : Members) → TakesMembers depth found tokens left ms → TakesMembers depth no_members start left ms

pub members-next : (depth : ℕ) (start tokens rest mid : List Token) (found : Members) (k : List ℕ) (d : Data) → MembersSoFar depth start tokens found
    → read_key tokens ≡ Some (Some k, rest) → Takes depth rest mid d → MembersSoFar depth start mid (put k d found)
members-next depth start tokens rest mid found k d so e here =
    record { so_far = λ left ms t. so.so_far left ms (takes-member depth found tokens rest mid left k d ms e here t) }

pub members-done : (depth : ℕ) (start tokens left : List Token) (found : Members) → MembersSoFar depth start tokens found
    → read_key tokens ≡ Some (None, left) → TakesMembers depth no_members start left found
members-done depth start tokens left found so e = so.so_far left found (takes-no_members depth found tokens left e)
