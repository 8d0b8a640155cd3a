-- The answer to a line, as JSON.
use Rattle.std.specs.Prelude.{◌≡◌, ◌⊎◌, ℕ, Bool, List, [], ◌∷◌, ◌++◌, Some, None, codes, decimal, map, if◌then◌else◌, string_bytes}
use Rattle.annotate_snippets.specs.declared.renderer.RenderError.{RenderError}
use Rattle.annotate_snippets.specs.declared.renderer.RenderError.TheVariants.{NoGroup, NoTitle, SpanReversed, SpanPastEnd, SpanOffBoundary, PatchesOverlap}
use Rattle.annotate_snippets.specs.declared.renderer.RenderError.TheVariants.{LineNumberTooLarge, Memory}
use Rattle.serde_json.specs.Data.{Data, number, unsigned, string, array, object, Items, no_items, item, member, no_members}
use Rattle.serde_json.specs.Read.{read}
use Rattle.replay_answer.specs.declared.outcome.Outcome.{Outcome}
use Rattle.replay_answer.specs.declared.outcome.Outcome.TheVariants.{Texts, Refused}

-- a number as a value of JSON
abbrev pub number_value : ℕ → Data
number_value n = number (unsigned n)

-- the answer to the case of this name that is refused, by a refusal of this name and these words, which names no numbers
abbrev pub bare_answer : List ℕ → List ℕ → List ℕ → Data
bare_answer id name words =
    object (member (codes "id") (string id) (member (codes "refused") (string name) (member (codes "text") (string words) no_members)))

-- the same of one that names an element
abbrev pub element_answer : List ℕ → List ℕ → List ℕ → ℕ → ℕ → Data
element_answer id name words group element =
    object (member (codes "element") (number_value element) (member (codes "group") (number_value group) (member (codes "id") (string id)
    (member (codes "refused") (string name) (member (codes "text") (string words) no_members)))))

-- the same of one that names a marker
abbrev pub marker_answer : List ℕ → List ℕ → List ℕ → ℕ → ℕ → ℕ → Data
marker_answer id name words group element marker =
    object (member (codes "element") (number_value element) (member (codes "group") (number_value group) (member (codes "id") (string id)
    (member (codes "marker") (number_value marker) (member (codes "refused") (string name) (member (codes "text") (string words) no_members))))))

-- the same of one that names two patches
abbrev pub overlap_answer : List ℕ → List ℕ → List ℕ → ℕ → ℕ → ℕ → ℕ → Data
overlap_answer id name words group element first second =
    object (member (codes "element") (number_value element) (member (codes "first") (number_value first) (member (codes "group") (number_value group)
    (member (codes "id") (string id) (member (codes "refused") (string name) (member (codes "second") (number_value second)
    (member (codes "text") (string words) no_members)))))))

-- texts as items of JSON
abbrev pub text_items : List (List ℕ) → Items
text_items [] = no_items
text_items (text ∷ texts) = item (string text) (text_items texts)

-- the answer to the case of this name that is refused, as JSON: the refusal's name, its words, and the numbers that it names
abbrev pub refusal_answer : List ℕ → RenderError → List ℕ → Data
refusal_answer id (SpanReversed group element marker) words = marker_answer id (codes "SpanReversed") words group element marker
refusal_answer id (SpanPastEnd group element marker) words = marker_answer id (codes "SpanPastEnd") words group element marker
refusal_answer id (SpanOffBoundary group element marker) words = marker_answer id (codes "SpanOffBoundary") words group element marker
refusal_answer id (PatchesOverlap group element first second) words = overlap_answer id (codes "PatchesOverlap") words group element first second
refusal_answer id (LineNumberTooLarge group element) words = element_answer id (codes "LineNumberTooLarge") words group element
refusal_answer id NoGroup words = bare_answer id (codes "NoGroup") words
refusal_answer id NoTitle words = bare_answer id (codes "NoTitle") words
refusal_answer id (Memory refused) words = bare_answer id (codes "Memory") words

-- the answer to the case of this name, as JSON: its texts, or its refusal
abbrev pub answer_of : List ℕ → Outcome → Data
answer_of id (Texts texts) =
    object (member (codes "id") (string id) (member (codes "ok") (array (text_items (map string_bytes texts.items))) no_members))
answer_of id (Refused refusal words span) = refusal_answer id refusal (string_bytes words)

-- what is told of a line that isn't JSON from a column on, or that ends before it is
abbrev pub not_json_text : ℕ → Bool → List ℕ
not_json_text column ends_early =
    codes "column " ++ (decimal column ++ (if ends_early then codes ": not valid JSON: it ends too early" else codes ": not valid JSON"))

-- a line is no case, and these words say so: it is no JSON from a column on, or JSON that describes none
abbrev pub IsNoCase : List ℕ → List ℕ → Type 0
IsNoCase line words =
    ((column : ℕ) × (ends_early : Bool) × (words ≡ not_json_text column ends_early) × (read line ≡ None)) ⊎ ((d : Data) × (read line ≡ Some d))

-- what is said of the line of a number that is no case, as JSON
abbrev pub told_of : ℕ → List ℕ → Data
told_of n words =
    object (member (codes "error") (string words) (member (codes "line") (number_value n) no_members))
