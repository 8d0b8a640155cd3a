use Rattle.std.proofs.Common.{◌≡◌, ◌∙◌, ◌++◌, ◌∷◌, [], ℕ, List, ap, sym, refl, append_assoc, append-nil, encode_utf8_all, string_bytes}
use Rattle.std.specs.List.{flat_map}
use Rattle.std.proofs.lemmas.List.{map-id}
use Rattle.std.proofs.lemmas.Grind.{flat_map-append}
use Rattle.std.proofs.lemmas.Str.{encodes-append}
use Rattle.std.proofs.lemmas.Iterator.{YieldsList-from_chars}
use Rattle.std.proofs.lemmas.Iterator.Consumers.{YieldsList-end}
use Rattle.redraw_command.specs.Workflow.{escape, escaped}
use Rattle.redraw_command.specs.declared.workflow.CommandPart.{CommandPart}
use Rattle.redraw_command.proofs.workflow.add_escaped.Goals as goal

-- a text that has the characters so far escaped, and one more, has them all escaped
step : (part : CommandPart) (before now after : List ℕ) (yielded : List ℕ) (character : ℕ) → now ≡ before ++ encode_utf8_all (escaped part yielded)
    → after ≡ now ++ encode_utf8_all (escape part character) → after ≡ before ++ encode_utf8_all (escaped part (yielded ++ character ∷ []))
step part before now after yielded character so_far added =
    let more : escaped part (yielded ++ character ∷ []) ≡ escaped part yielded ++ escape part character =
    flat_map-append (escape part) yielded (character ∷ []) ∙ ap (λ t. flat_map (escape part) yielded ++ t) (append-nil (escape part character)) in
    added ∙ ap (λ t. t ++ encode_utf8_all (escape part character)) so_far ∙ append_assoc before _ _
    ∙ ap (λ t. before ++ t) (sym (encodes-append (escaped part yielded) (escape part character)) ∙ ap encode_utf8_all (sym more))

pub loop-character-init : goal.loop-character-init
loop-character-init c = sym (append-nil _)

pub loop-character-preserved : goal.loop-character-preserved
loop-character-preserved c =
    step c.args.part (string_bytes c.args.line.now) _ _ c.loop-character.yielded c.in-Some.character c.loop-character.invariant
    c.in_ok-add_character.ensures.added

pub returns : goal.returns
returns c =
    let all = YieldsList-end (YieldsList-from_chars c.args.text.now c.utf8.text cc) c.loop-character.yielded _ c.loop-character.yielded_by _ _ c.in-None.is
    c.next.ensures.steps in
    record {
      added =
          c.loop-character.invariant ∙ ap (λ y. string_bytes c.args.line.now ++ encode_utf8_all (escaped c.args.part y))
          (sym (map-id c.loop-character.yielded) ∙ all.0);
    }
