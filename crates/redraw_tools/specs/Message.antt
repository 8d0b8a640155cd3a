-- What the message of a part of a SARIF log says: a text of its own, or one of the rule's that it names, with the text of each link in the
-- link's place, and with the message's arguments in the place of placeholders.
use Rattle.std.specs.Prelude.{◌≡◌, ◌⊎◌, ℕ, Bool, MatchOption, true, false, List, [], ◌∷◌, Option, Some, None, chars, codes, encode_utf8_all, if◌then◌else◌}
use Rattle.std.specs.Prelude.{map, option_and_then, option_map, unwrap_or}
use Rattle.serde_json.specs.Data.{Data}
use Rattle.serde_json.specs.View.{view}
use Rattle.json_lines.specs.Lenient.{field_in, list_at, text_at, text_in}
use Rattle.redraw_tools.specs.Filling.{filled}
use Rattle.redraw_tools.specs.Links.{without_links}
use Rattle.redraw_tools.specs.Rule.{message_string}
use Rattle.redraw_tools.specs.declared.message.MessageText.{MessageText}

-- a text that a message has, and its arguments; and whether the text stands for itself: it is the message's own, and there are no arguments
pub record Text : Type 0 where
  pub text : List ℕ
  pub arguments : List Data
  pub is_alone : Bool

abbrev pub seen_text : MessageText → Text
seen_text t = record { text = t.text.now; arguments = map view t.arguments.now; is_alone = t.is_alone }

abbrev pub are_none : List Data → Bool
are_none [] = true
are_none (argument ∷ arguments) = false

abbrev pub text_by : List Data → (own named : Option (List ℕ)) → Option Text
text_by arguments (Some text) named = Some (record { text = text; arguments = arguments; is_alone = are_none arguments })
text_by arguments None named = option_map (λ text. record { text = text; arguments = arguments; is_alone = false }) named

-- the text that a message has: its own, else the one of the rule, or of the part of the tool, that it names
abbrev pub named_text : Option Data → Option Data → Data → Option (List ℕ)
named_text part rule message = option_and_then (message_string part rule) (text_at (codes "id") message)

abbrev pub text_of : Option Data → Option Data → Data → Option Text
text_of part rule message =
    text_by (list_at (codes "arguments") message) (text_at (codes "text") message) (named_text part rule message)

-- a text as it is shown
abbrev pub shown : List ℕ → List ℕ
shown text = encode_utf8_all (without_links 0 (chars text))

-- what is said by a text; where it stands for itself, braces are no placeholders
abbrev pub said_by : Text → List ℕ
said_by t = if t.is_alone then shown t.text else filled t.arguments (shown t.text)

-- what is said by a message of a result with this rule, of this part of the tool, if there is a message
abbrev pub said : Option Data → Option Data → Option Data → Option (List ℕ)
said part rule message = option_map said_by (option_and_then (text_of part rule) message)

-- the same of a message of a part of a result: one that doesn't stand for itself may be left out, where others took the room for it
abbrev pub MayTell : Text → Option (List ℕ) → Type 0
MayTell t found = (found ≡ Some (said_by t)) ⊎ ((found ≡ None) × (t.is_alone ≡ false))

abbrev pub MaySay : Option Data → Option Data → Option Data → Option (List ℕ) → Type 0
MaySay part rule message found = MatchOption (option_and_then (text_of part rule) message) (found ≡ None) (λ t. MayTell t found)

-- what stands where a result says nothing: what its rule says of itself in short
abbrev pub description : Option Data → List ℕ
description rule = unwrap_or (text_in (codes "text") (field_in (codes "shortDescription") rule)) (codes "the log has no message")

-- the message that a report of a result has
abbrev pub message_of : Option Data → Option Data → Option Data → List ℕ
message_of part rule message = unwrap_or (said part rule message) (description rule)
