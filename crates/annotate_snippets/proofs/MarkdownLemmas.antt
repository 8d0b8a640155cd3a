-- A report in Markdown: what is added piece by piece, that no fence stands in a page, and what is read of a line.
use Rattle.std.proofs.lemmas.Grind.{common_steps}
use Rattle.annotate_snippets.proofs.Common.{◌≡◌, ◌∙◌, ℕ, zero, suc, ◌+◌, ◌≤◌, ◌&&◌, Bool, true, false, cond, Option, Some, eqb, inl, inr, max, not, List, []}
use Rattle.annotate_snippets.proofs.Common.{◌∷◌, ◌++◌, length, map, replicate, arith, refl, sym, ap, ap₂, encode_utf8_all, and_left, and_right, cases_Bool}
use Rattle.annotate_snippets.proofs.Common.{eqb-true, false≢true, flat_map-append, encodes-append, is_ascii_punctuation, cow_str_bytes, option_map, Id, Group}
use Rattle.annotate_snippets.proofs.Common.{is_plain_sheet, Stylesheet, norm, closing_bracket_of, opening_bracket_of, bare_marks, bold_line, bracketed_link}
use Rattle.annotate_snippets.proofs.Common.{escaped, escaped_text, fence, id_in_markdown, link_of, linked_text, longest_run, MarkdownLaws, plain_page, unlinked}
use Rattle.annotate_snippets.proofs.Common.{form_of, links_in, IsTextUnder, Renderer, Form, Graphic, Short, Text}
use Rattle.std.proofs.Common.{append-nil, append_assoc, chars}
use Rattle.annotate_snippets.specs.Markdown.{as_read}

-- ---- pieces

-- one character more
pub escapes-push : (cs : List ℕ) (c : ℕ) → encode_utf8_all (escaped_text cs) ++ encode_utf8_all (escaped c) ≡ encode_utf8_all (escaped_text (cs ++ c ∷ []))
escapes-push cs c = grind (arith, encodes-append, encode_utf8_all, append-nil, flat_map-append)

-- pieces that are added one after the other are added together
pub added-then : (old a b : List ℕ) → (old ++ encode_utf8_all a) ++ encode_utf8_all b ≡ old ++ encode_utf8_all (a ++ b)
added-then old a b = append_assoc old (encode_utf8_all a) (encode_utf8_all b) ∙ ap (λ t. old ++ t) (sym (encodes-append a b))

-- three, four and five pieces
three : (old a b c : List ℕ) → ((old ++ encode_utf8_all a) ++ encode_utf8_all b) ++ encode_utf8_all c ≡ old ++ encode_utf8_all ((a ++ b) ++ c)
three old a b c = ap (λ t. t ++ encode_utf8_all c) (added-then old a b) ∙ added-then old (a ++ b) c

four : (old a b c d : List ℕ) → (((old ++ encode_utf8_all a) ++ encode_utf8_all b) ++ encode_utf8_all c) ++ encode_utf8_all d
    ≡ old ++ encode_utf8_all (((a ++ b) ++ c) ++ d)
four old a b c d = ap (λ t. t ++ encode_utf8_all d) (three old a b c) ∙ added-then old ((a ++ b) ++ c) d

five : (old a b c d e : List ℕ)
    → ((((old ++ encode_utf8_all a) ++ encode_utf8_all b) ++ encode_utf8_all c) ++ encode_utf8_all d) ++ encode_utf8_all e
    ≡ old ++ encode_utf8_all ((((a ++ b) ++ c) ++ d) ++ e)
five old a b c d e = ap (λ t. t ++ encode_utf8_all e) (four old a b c d) ∙ added-then old (((a ++ b) ++ c) ++ d) e

-- the bytes of what stands around a link
encodes-open : encode_utf8_all (91 ∷ []) ≡ 91 ∷ []
unfolding lib.Utf8.encode
encodes-open = refl

encodes-between : encode_utf8_all (93 ∷ 40 ∷ []) ≡ 93 ∷ 40 ∷ []
unfolding lib.Utf8.encode
encodes-between = refl

encodes-close : encode_utf8_all (41 ∷ []) ≡ 41 ∷ []
unfolding lib.Utf8.encode
encodes-close = refl

-- a link is added piece by piece
pub linked-added : (old text address new₁ new₂ new₃ new₄ new₅ : List ℕ) → new₁ ≡ old ++ 91 ∷ [] → new₂ ≡ new₁ ++ encode_utf8_all (escaped_text text)
    → new₃ ≡ new₂ ++ 93 ∷ 40 ∷ [] → new₄ ≡ new₃ ++ encode_utf8_all (escaped_text (chars address)) → new₅ ≡ new₄ ++ 41 ∷ []
    → new₅ ≡ old ++ encode_utf8_all (linked_text (Some address) text)
linked-added old text address new₁ new₂ new₃ new₄ new₅ opened shown between linked closed =
    closed ∙ ap₂ (λ a b. a ++ b) (linked ∙ ap (λ a. a ++ encode_utf8_all (escaped_text (chars address))) (between
    ∙ ap₂ (λ a b. a ++ b) (shown ∙ ap (λ a. a ++ encode_utf8_all (escaped_text text)) (opened ∙ ap (λ a. old ++ a) (sym encodes-open)))
    (sym encodes-between))) (sym encodes-close) ∙ five old (91 ∷ []) (escaped_text text) (93 ∷ 40 ∷ []) (escaped_text (chars address)) (41 ∷ [])

-- a line in bold is added piece by piece, where it has characters
pub bold-added : (old line new₁ new₂ new₃ : List ℕ) → eqb (length line) 0 ≡ false → new₁ ≡ old ++ 42 ∷ 42 ∷ [] → new₂ ≡ new₁ ++ line
    → new₃ ≡ new₂ ++ 42 ∷ 42 ∷ 10 ∷ 10 ∷ [] → new₃ ≡ old ++ bold_line line
bold-added old [] new₁ new₂ new₃ some opened shown closed = absurd (false≢true (sym some))
bold-added old (b ∷ bs) new₁ new₂ new₃ some opened shown closed = grind (arith, append_assoc)

-- an id that has a text
pub id-some : (hidden : Bool) (id : Option Id) (one : Id) (text : List ℕ) → id ≡ Some one → option_map cow_str_bytes one.id ≡ Some text
    → id_in_markdown hidden id
    ≡ (escaped_text (opening_bracket_of hidden) ++ linked_text (link_of (option_map cow_str_bytes one.url)) (norm (chars text)))
    ++ escaped_text (closing_bracket_of hidden)
id-some hidden id one text is has = ap (id_in_markdown hidden) is ∙ ap (bracketed_link hidden (option_map cow_str_bytes one.url)) has

-- an id is added piece by piece
pub id-added : (old before linked after new₁ new₂ new₃ : List ℕ) → new₁ ≡ old ++ encode_utf8_all before → new₂ ≡ new₁ ++ encode_utf8_all linked
    → new₃ ≡ new₂ ++ encode_utf8_all after → new₃ ≡ old ++ encode_utf8_all ((before ++ linked) ++ after)
id-added old before linked after new₁ new₂ new₃ opened shown closed = cc (closed, shown, opened, three old before linked after)

-- and a title's line
pub line-added : (old name id colon text new₁ new₂ new₃ new₄ : List ℕ) → old ≡ [] → new₁ ≡ old ++ encode_utf8_all name
    → new₂ ≡ new₁ ++ encode_utf8_all id → new₃ ≡ new₂ ++ encode_utf8_all colon → new₄ ≡ new₃ ++ encode_utf8_all text
    → new₄ ≡ encode_utf8_all (((name ++ id) ++ colon) ++ text)
line-added old name id colon text new₁ new₂ new₃ new₄ none named marked led last = grind (arith, encode_utf8_all, four)

-- ---- runs

longest-le : (longest run : ℕ) (bs : List ℕ) → longest ≤ longest_run longest run bs
longest-le longest run [] = omega arith
longest-le longest run (b ∷ bs) =
    let on : ℕ = cond (eqb b 96) (run + 1) 0 in
    omega (arith, longest-le (max longest on) on bs)

-- a run that goes on with so many backquotes is no longer than the longest
run-le : (longest run k : ℕ) (bs : List ℕ) → run ≤ longest → run + k ≤ longest_run longest run (replicate k 96 ++ bs)
run-le longest run zero bs le = omega (arith, le, longest-le longest run bs)
run-le longest run (suc k) bs le = omega (arith, run-le (max longest (run + 1)) (run + 1) k bs (omega arith))

-- so no run in a text is
pub runs-le : (longest run k : ℕ) (before after : List ℕ) → run ≤ longest → k ≤ longest_run longest run (before ++ (replicate k 96 ++ after))
runs-le longest run k [] after le = omega (arith, run-le longest run k after le)
runs-le longest run k (b ∷ before) after le =
    let on : ℕ = cond (eqb b 96) (run + 1) 0 in
    runs-le (max longest on) on k before after (omega arith)

-- a fence for a page doesn't stand in it
pub unfenced : (page before after : List ℕ) → page ≡ (before ++ fence page) ++ after → ⊥
unfenced page before after is = grind (arith, runs-le, append_assoc)

-- ---- what is read

-- a character that isn't punctuation is no backslash
no-backslash : (c : ℕ) → is_ascii_punctuation c ≡ false → eqb c 92 ≡ false
no-backslash c plain = grind (arith, cases_Bool, false≢true, eqb-true)

read-plain : (after : Bool) (c : ℕ) (cs : List ℕ) → (eqb c 92 && not after) ≡ false → as_read after (c ∷ cs) ≡ c ∷ as_read false cs
read-plain after c cs other = ap (λ b. cond b (as_read true cs) (c ∷ as_read false cs)) other

bare-plain : (after : Bool) (c : ℕ) (cs : List ℕ) → (eqb c 92 && not after) ≡ false → (is_ascii_punctuation c && not after) ≡ false
    → bare_marks after (c ∷ cs) ≡ bare_marks false cs
bare-plain after c cs other none = grind arith

abbrev blank : ℕ → ℕ
blank c = cond (eqb c 10) 32 c

-- what stands for a character that is no punctuation is none either
blank-plain : (c : ℕ) → is_ascii_punctuation c ≡ false → is_ascii_punctuation (blank c) ≡ false
blank-plain c plain = by (eqb c 10)
  where
    by : (feed : Bool) → is_ascii_punctuation (cond feed 32 c) ≡ false
    by true = refl
    by false = plain

-- a line feed is no punctuation
blank-same : (c : ℕ) → is_ascii_punctuation c ≡ true → blank c ≡ c
blank-same c marks = grind (arith, cases_Bool, false≢true, eqb-true)

escaped-mark : (c : ℕ) → is_ascii_punctuation c ≡ true → escaped c ≡ 92 ∷ c ∷ []
escaped-mark c marks = ap (λ b. cond b (92 ∷ c ∷ []) (blank c ∷ [])) marks

escaped-plain : (c : ℕ) → is_ascii_punctuation c ≡ false → escaped c ≡ blank c ∷ []
escaped-plain c plain = ap (λ b. cond b (92 ∷ c ∷ []) (blank c ∷ [])) plain

-- a text is read as it is, a line feed as a blank
pub reads-text : (cs : List ℕ) → as_read false (escaped_text cs) ≡ map blank cs
reads-text [] = refl
reads-text (c ∷ cs) =
    elim (cases_Bool (is_ascii_punctuation c)) [
      | inl marks ↦ grind (arith, common_steps, reads-text cs, as_read, escaped-mark, read-plain, and_right, ap₂, blank-same)
      | inr plain ↦ grind (arith, common_steps, reads-text cs, as_read, escaped-plain, read-plain, and_left, no-backslash, blank-plain)
    ]

-- and has no markup
pub bares-nothing : (cs : List ℕ) → bare_marks false (escaped_text cs) ≡ []
bares-nothing [] = refl
bares-nothing (c ∷ cs) = grind (arith, bares-nothing cs, cases_Bool, escaped-mark, bare-plain, escaped-plain, and_left, no-backslash, blank-plain)

-- ---- the report

-- a renderer that links nowhere has no links
unlinked-links : (form : Form) (r : Renderer) (groups : List Group) → links_in form (unlinked r) groups ≡ []
unlinked-links Graphic r groups = refl
unlinked-links Short r groups = refl
unlinked-links Text r groups = refl

-- so under a plain sheet its text is the plain one
pub plain-under : (r : Renderer) (groups : List Group) (sheet : Stylesheet) (text : List ℕ) → is_plain_sheet sheet ≡ true
    → IsTextUnder (form_of r) (unlinked r) groups sheet text → text ≡ plain_page r groups
plain-under r groups sheet text plain is = is.laws.plain (unlinked-links (form_of r) r groups) plain

-- what follows for who reads it
pub markdown-laws : (r : Renderer) (groups : List Group) (sheet : Stylesheet) (page text : List ℕ)
    → IsTextUnder (form_of r) (unlinked r) groups sheet page → MarkdownLaws r groups text
markdown-laws r groups sheet page text is = record {
  laws = is.laws.form_laws;
  fenced = unfenced (plain_page r groups);
  read = reads-text;
  unmarked = bares-nothing;
}
