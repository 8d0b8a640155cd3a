-- The values of JSON that answer a case.
use Rattle.std.proofs.Common.{◌≡◌, ℕ, false, List, [], ◌∷◌, map, string_bytes, refl, ap, ◌∙◌, rules}
use Rattle.std.specs.Prelude.{String}
use Rattle.std.specs.declared.alloc.Global.{Global}
use Rattle.serde_json.specs.Data.{item, string}
use Rattle.serde_json.specs.View.{view, items_view}
use Rattle.serde_json.specs.Written.{has_float, items_have_float}
use Rattle.serde_json.specs.declared.value.Value.{Value, the_lemmas}
use Rattle.serde_json.specs.declared.value.Value as value
use Rattle.annotate_snippets.specs.declared.renderer.RenderError.TheVariants.{NoGroup, NoTitle, SpanReversed, SpanPastEnd, SpanOffBoundary, PatchesOverlap}
use Rattle.annotate_snippets.specs.declared.renderer.RenderError.TheVariants.{LineNumberTooLarge, Memory}
use Rattle.replay_answer.specs.Answer.{answer_of, text_items, told_of}
use Rattle.replay_answer.specs.declared.outcome.Outcome.{Outcome}
use Rattle.replay_answer.specs.declared.outcome.Outcome.TheVariants.{Texts, Refused}

view-text : (text : String Global) → view (value.String text) ≡ string (string_bytes text)
view-text text = search (rules, the_lemmas)

-- the items of texts as values are those of the texts
pub items_view-texts : (texts : List (String Global)) → items_view (map (λ text. value.String text) texts) ≡ text_items (map string_bytes texts)
items_view-texts [] = refl
items_view-texts (text ∷ texts) =
    ap (λ d. item d (items_view (map (λ t. value.String t) texts))) (view-text text) ∙ ap (item (string (string_bytes text))) (items_view-texts texts)

-- no answer holds a number with a fraction
text_items-whole : (texts : List (List ℕ)) → items_have_float (text_items texts) ≡ false
text_items-whole [] = refl
text_items-whole (text ∷ texts) = text_items-whole texts

-- an answer holds no number with a fraction
pub answer_of-whole : (id : List ℕ) (outcome : Outcome) → has_float (answer_of id outcome) ≡ false
answer_of-whole id (Texts texts) = rw (text_items-whole (map string_bytes texts.items))
answer_of-whole id (Refused NoGroup words span) = refl
answer_of-whole id (Refused NoTitle words span) = refl
answer_of-whole id (Refused (SpanReversed group element marker) words span) = refl
answer_of-whole id (Refused (SpanPastEnd group element marker) words span) = refl
answer_of-whole id (Refused (SpanOffBoundary group element marker) words span) = refl
answer_of-whole id (Refused (PatchesOverlap group element first second) words span) = refl
answer_of-whole id (Refused (LineNumberTooLarge group element) words span) = refl
answer_of-whole id (Refused (Memory refused) words span) = refl

-- what is said of a line that is no case holds none either
pub told_of-whole : (n : ℕ) (words : List ℕ) → has_float (told_of n words) ≡ false
told_of-whole n words = refl
