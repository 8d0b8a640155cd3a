-- What is taken from the front of the tokens that a reader has yet to hand out.
use Rattle.std.specs.Prelude.{◌≡◌, ℕ, ◌<◌, List, length, Some}
use Rattle.json.specs.Token.{Token}
use Rattle.json.specs.Json as json
use Rattle.serde_json.specs.Data.{Data, Items, Members}
use Rattle.serde_json.specs.Read.{converted, of_json, of_items, of_members}

-- the first of these tokens are a value, in which lists and objects nest no deeper than this, and the others are left
pub record Takes (depth : ℕ) (tokens left : List Token) (d : Data) : Type 0 where
  pub value : converted of_json (json.value depth tokens) ≡ Some (d, left)
  pub shorter : length left < length tokens

-- the same of what follows a list's opening bracket: its items and the closing bracket
pub record TakesItems (depth : ℕ) (tokens left : List Token) (ds : Items) : Type 0 where
  pub items : converted of_items (json.items (json.value depth) (length tokens) tokens) ≡ Some (ds, left)
  pub shorter : length left < length tokens

-- the same of what follows an object's opening brace, or some of its members: they are put to those that were found
pub record TakesMembers (depth : ℕ) (found : Members) (tokens left : List Token) (ms : Members) : Type 0 where
  pub members : converted (λ js. of_members js found) (json.members (json.value depth) (length tokens) tokens) ≡ Some (ms, left)
  pub shorter : length left < length tokens
