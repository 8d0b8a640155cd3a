-- Which texts stand in a text form, one after the other.
use Rattle.std.proofs.lemmas.Grind.{common_steps}
use Rattle.snippet_text_form.proofs.Common.{◌≡◌, ℕ, nat_lt, ◌==◌, Bool, true, false, Option, None, List, [], ◌∷◌, ◌++◌, codes, filter}
use Rattle.snippet_text_form.proofs.Common.{length, map, refl, sym, ap, subst, ◌∙◌, arith, flat_map, list_any, nat_tests, append-nil, slice_split_none}
use Rattle.snippet_text_form.proofs.Common.{cow_str_bytes, option_map, Source, locations_of, Heading, Annotation, Snippet, shown_text, heading_lines, width_of}
use Rattle.snippet_text_form.proofs.Common.{HeadingRoles, each-fails, after_place, cause_form, is_labelled, label_characters, named_spans, further_indent}
use Rattle.snippet_text_form.proofs.Common.{span_form, span_place, spans_form, numbered_source, FormPiece, Char, Break, Styled, bare, begun_after, plain_from}
use Rattle.snippet_text_form.proofs.Common.{heading_form, label_form, heading_label, lines_form, text_roles_of, StandInOrder, HeadingKind}
use Rattle.std.proofs.Common.{append_assoc}
use Rattle.snippet_text_form.proofs.FormSteps.{plain-bare}

-- text that stands before another, or before nothing
pub begun-cons : (begun : Bool) (c : ℕ) (cs : List ℕ) → begun_after begun (c ∷ cs) ≡ true
begun-cons true c cs = refl
begun-cons false c cs = grind (arith, nat_tests)

begun-nil : (begun : Bool) → begun_after begun [] ≡ begun
begun-nil true = refl
begun-nil false = refl

begun-append : (begun : Bool) (xs ys : List ℕ) → begun_after begun (xs ++ ys) ≡ begun_after (begun_after begun xs) ys
begun-append true xs ys = refl
begun-append false [] ys = refl
begun-append false (x ∷ xs) ys =
    begun-cons false x (xs ++ ys) ∙ sym (ap (λ t. begun_after t ys) (begun-cons false x xs))

-- the plain characters of one text form after another
pub plain-append : (begun : Bool) (a b : List FormPiece)
    → plain_from begun (a ++ b) ≡ plain_from begun a ++ plain_from (begun_after begun (plain_from begun a)) b
plain-append begun [] b = ap (λ t. plain_from t b) (sym (begun-nil begun))
plain-append begun (Char ch ∷ a) b =
    ap (λ cs. ch ∷ cs) (plain-append true a b) ∙ ap (λ t. ch ∷ plain_from true a ++ plain_from t b) (sym (begun-cons begun ch (plain_from true a)))
plain-append true (Break ∷ a) b = ap (λ cs. 10 ∷ cs) (plain-append true a b)
plain-append false (Break ∷ a) b = plain-append false a b
plain-append begun (Styled role link text ∷ a) b =
    let now : Bool = begun_after begun text in
    let front : List ℕ = plain_from now a in
    cc (plain-append now a b, append_assoc text front (plain_from (begun_after now front) b), begun-append begun text front)

-- texts that stand in one stand there after more text too
pub stand-after : (bs : List (List ℕ)) (p q : List ℕ) → StandInOrder bs q → StandInOrder bs (p ++ q)
stand-after [] p q stand = tt
stand-after (b ∷ bs) p q stand = (
  stand.0,
  record {
    before = p ++ stand.1.before;
    whole_is = grind (arith, common_steps, append_assoc, stand.1.whole_is, stand.1.before, stand.0);
  },
  stand.2,
)

-- texts that stand in one, and texts that stand in what is after it
pub stand-append : (ps bs : List (List ℕ)) (p q : List ℕ) → StandInOrder ps p → StandInOrder bs q → StandInOrder (ps ++ bs) (p ++ q)
stand-append [] bs p q first second = stand-after bs p q second
stand-append (a ∷ ps) bs p q first second =
    let rest : List ℕ = first.0 in
    let before : List ℕ = first.1.before in
    (rest ++ q, record { before = before; whole_is = ap (λ w. w ++ q) first.1.whole_is ∙ simp append_assoc }, stand-append ps bs rest q first.2 second)

-- a text stands in itself
stand-alone : (part : List ℕ) → StandInOrder (part ∷ []) part
stand-alone part = ([], record { before = []; whole_is = sym (append-nil part) }, tt)

-- these texts stand in the plain characters of a text form, whatever stands before that
abbrev pub Holds : List (List ℕ) → List FormPiece → Type 0
Holds parts form = (begun : Bool) → StandInOrder parts (plain_from begun form)

pub holds-append : (ps bs : List (List ℕ)) (a b : List FormPiece) → Holds ps a → Holds bs b → Holds (ps ++ bs) (a ++ b)
holds-append ps bs a b first second begun = grind (arith, common_steps, plain-append, stand-append)

-- so they do after any other, as after a break
pub holds-after : (bs : List (List ℕ)) (a b : List FormPiece) → Holds bs b → Holds bs (a ++ b)
holds-after bs a b second = holds-append [] bs a b (λ begun. tt) second

holds-bare : (parts : List (List ℕ)) (text : List ℕ) → StandInOrder parts text → Holds parts (bare text)
holds-bare parts text stand begun = subst (StandInOrder parts) (sym (plain-bare begun text)) stand

-- the text of a heading that has one line
pub heading_stays : (begun hyperlink : Bool) (kind : HeadingKind) (heading : Heading) → list_any (λ c. c == 10) (shown_text heading) ≡ false
    → StandInOrder (shown_text heading ∷ []) (plain_from begun (heading_form hyperlink kind heading))
unfolding heading_form
heading_stays begun hyperlink kind heading one =
    let roles : HeadingRoles = text_roles_of kind heading.level.kind heading.allows_styling in
    let width : ℕ = width_of (heading_label kind heading) in
    let label : List FormPiece = label_form hyperlink kind roles heading in
    let text : List ℕ = shown_text heading in
    let lines : heading_lines heading ≡ text ∷ [] = slice_split_none (λ c. c == 10) text (each-fails (λ c. c == 10) text one) in
    holds-after (text ∷ []) (Break ∷ label) (lines_form roles.text width (heading_lines heading))
    (subst (λ ls. Holds (text ∷ []) (lines_form roles.text width ls)) (sym lines) (λ now.
    subst (StandInOrder (text ∷ [])) (sym (append-nil text)) (stand-alone text))) begun

-- a label stands after a place where it shows anything, and else anywhere
label_stands : (label front : List ℕ) → StandInOrder (label ∷ []) (front ++ after_place label)
label_stands [] front =
    (front ++ [], record { before = []; whole_is = refl }, tt)
label_stands (c ∷ cs) front =
    let full : after_place (c ∷ cs) ≡ codes ": " ++ c ∷ cs = grind (arith, nat_tests) in
    stand-after ((c ∷ cs) ∷ []) front (after_place (c ∷ cs)) (subst (StandInOrder ((c ∷ cs) ∷ [])) (sym full)
    (stand-after ((c ∷ cs) ∷ []) (codes ": ") (c ∷ cs) (stand-alone (c ∷ cs))))

-- the label of an annotation
span-holds : (anonymized : Bool) (source : Source) (indent : List ℕ) (path : Option (List ℕ)) (a : Annotation)
    → Holds (label_characters a ∷ []) (span_form anonymized source indent path a)
span-holds anonymized source indent path a =
    let at = locations_of source a.span.start a.span.end in
    let front : List ℕ = indent ++ span_place anonymized source path at.0 at.1 in
    holds-after (label_characters a ∷ []) (Break ∷ []) (bare (front ++ after_place (label_characters a)))
    (holds-bare (label_characters a ∷ []) (front ++ after_place (label_characters a)) (label_stands (label_characters a) front))

-- those of further annotations, of which only those with a label are named
further-holds : (anonymized : Bool) (source : Source) (indent : List ℕ) (marks : List Annotation)
    → Holds (map label_characters marks) (flat_map (span_form anonymized source indent None) (filter is_labelled marks))
further-holds anonymized source indent [] begun = tt
further-holds anonymized source indent (a ∷ marks) begun =
    of_label (label_characters a) refl (further-holds anonymized source indent marks)
  where
    form : List Annotation → List FormPiece
    form ms = flat_map (span_form anonymized source indent None) ms

    rest : List Annotation
    rest = filter is_labelled marks

    of_label : (label : List ℕ) → label_characters a ≡ label → Holds (map label_characters marks) (form rest)
        → StandInOrder (map label_characters (a ∷ marks)) (plain_from begun (form (filter is_labelled (a ∷ marks))))
    of_label [] is later =
        let none : is_labelled a ≡ false = ap (λ l. nat_lt 0 (length l)) is in
        let whole : List ℕ = plain_from begun (form rest) in
        rw none (whole, record { before = []; whole_is = ap (λ l. l ++ whole) (sym is) }, later begun)
    of_label (c ∷ cs) is later =
        let some : is_labelled a ≡ true = ap (λ l. nat_lt 0 (length l)) is ∙ begun-cons false c cs in
        rw some (holds-append (label_characters a ∷ []) (map label_characters marks) (span_form anonymized source indent None a) (form rest)
        (span-holds anonymized source indent None a) later begun)

spans-hold : (anonymized : Bool) (source : Source) (path : Option (List ℕ)) (marks : List Annotation)
    → Holds (map label_characters marks) (spans_form anonymized source path marks)
spans-hold anonymized source path [] begun = tt
spans-hold anonymized source path (a ∷ marks) begun =
    let indent : List ℕ = further_indent path in
    holds-append (label_characters a ∷ []) (map label_characters marks) (span_form anonymized source (codes " ") path a)
    (flat_map (span_form anonymized source indent None) (filter is_labelled marks)) (span-holds anonymized source (codes " ") path a)
    (further-holds anonymized source indent marks) begun

-- the labels of a cause
pub cause-holds : (begun anonymized : Bool) (s : Snippet Annotation)
    → StandInOrder (map label_characters (named_spans s.markers.items)) (plain_from begun (cause_form anonymized s))
unfolding cause_form
cause-holds begun anonymized s =
    spans-hold anonymized (numbered_source s) (option_map cow_str_bytes s.path) (named_spans s.markers.items) begun
