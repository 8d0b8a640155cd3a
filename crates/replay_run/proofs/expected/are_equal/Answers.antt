use Rattle.std.proofs.Common.{◌≡◌, ◌∙◌, ◌↔◌, ◌<◌, ◌++◌, ◌∷◌, [], ℕ, List, Bool, true, false, IsTrue, map, take, length, get_or, refl, sym, ap, arith}
use Rattle.std.proofs.Common.{string_bytes}
use Rattle.std.proofs.lemmas.List.{map_more, get_or-map, take_all}
use Rattle.std.specs.Borrow.{Bor}
use Rattle.replay_run.specs.Expected.{texts_lent}
use Rattle.replay_run.proofs.expected.are_equal.Goals as goal

pub loop-i-init : goal.loop-i-init
loop-i-init c = refl

abbrev text_of : Bor (List ℕ) → List ℕ
text_of text = text.now

-- what is read past the end
abbrev no_text : Bor (List ℕ)
no_text = record { ref_ptr = (0, 0); now = [] }

never_true : false ≡ true → ⊥
never_true same = cc

-- what a test that fails denies, and one that passes tells
denied : {P : Type 0} (b : Bool) → (IsTrue b ↔ P) → b ≡ false → P → ⊥
denied true tells is p = cc
denied false tells is p = never_true (tells.1 p)

told : {P : Type 0} (b : Bool) → (IsTrue b ↔ P) → b ≡ true → P
told b tells is = tells.0 is

pub returns-then-not-is_text : goal.returns-then-not-is_text
returns-then-not-is_text c =
    let i = c.loop-i.i in
    let wanted = c.args.wanted.now in
    let texts = c.args.texts.now in
    let there : i < length wanted = omega (arith, c.loop-i-test.true, c.if-wanted-texts.false) in
    let never : texts_lent wanted ≡ map string_bytes texts → ⊥ =
    λ same. denied c.is_text.result c.is_text.ensures.value c.if-not-is_text.true
    (sym (get_or-map text_of wanted i no_text [] there) ∙ ap (λ xs. get_or xs i []) same
    ∙ get_or-map string_bytes texts i c.index-texts-i.result [] c.loop-i-test.true ∙ sym (ap string_bytes c.index-texts-i.is)) in
    record { equal = (λ no. cc, λ same. absurd (never same)) }

pub loop-i-preserved : goal.loop-i-preserved
loop-i-preserved c =
    let i = c.loop-i.i in
    let wanted = c.args.wanted.now in
    let texts = c.args.texts.now in
    let there : i < length wanted = omega (arith, c.loop-i-test.true, c.if-wanted-texts.false) in
    let same = told c.is_text.result c.is_text.ensures.value c.if-not-is_text.false in
    let here = same ∙ ap string_bytes c.index-texts-i.is in
    map_more text_of wanted i no_text there ∙ ap (λ xs. xs ++ text_of (get_or wanted i no_text) ∷ []) c.loop-i.invariant
    ∙ ap (λ x. map string_bytes (take i texts) ++ x ∷ []) here ∙ sym (map_more string_bytes texts i c.index-texts-i.result c.loop-i-test.true)

pub returns : goal.returns
returns c =
    let i = c.loop-i.i in
    let all : take i c.args.wanted.now ≡ c.args.wanted.now = take_all i c.args.wanted.now (omega (arith, c.loop-i-test.false, c.if-wanted-texts.false)) in
    let all_texts : take i c.args.texts.now ≡ c.args.texts.now = take_all i c.args.texts.now c.loop-i-test.false in
    record { equal = (λ _. sym (ap (map text_of) all) ∙ c.loop-i.invariant ∙ ap (map string_bytes) all_texts, λ _. refl) }
