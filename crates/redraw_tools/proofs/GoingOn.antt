-- Places that go on as others do, with more after them.
use Rattle.std.proofs.Common.{◌≡◌, ℕ, zero, suc, ◌<◌, List, [], ◌∷◌, ◌++◌, Option, Some, None, append_assoc, arith, get_or, length, set, refl, sym, subst}
use Rattle.std.proofs.Common.{ap, ◌∙◌}
use Rattle.std.specs.Prelude.{IfSome, String, codes, option_map, string_bytes}
use Rattle.std.specs.Borrow.{Bor}
use Rattle.std.specs.Fmt.{decimal}
use Rattle.json_lines.specs.Field.{lent_text}
use Rattle.redraw_report.specs.declared.diagnostic.FileSpan.{FileSpan}
use Rattle.redraw_tools.specs.Places.{GoesOn, Stays, StillSays}
use Rattle.redraw_tools.specs.Steps.{step_label}

still-same : (said : Option (List ℕ)) → StillSays said said
still-same None = tt
still-same (Some text) = ([], refl)

still-more : (a b c : Option (List ℕ)) → StillSays a b → StillSays b c → StillSays a c
still-more None b c first second = tt
still-more (Some text) b c (number, is) second =
    let (before, also) : StillSays (Some (number ++ text)) c = subst (λ (o : Option (List ℕ)). StillSays o c) is second in
    (before ++ number, also ∙ ap (λ (said : List ℕ). Some said) (sym (append_assoc before number text)))

-- after a step's number its message is still said
pub still-numbered : (number : ℕ) (message : Option (Bor (List ℕ))) (said : Option (List ℕ)) (label : List ℕ) → lent_text message ≡ said
    → label ≡ step_label number message → StillSays said (Some label)
still-numbered number None said label is also = subst (λ (o : Option (List ℕ)). StillSays o (Some label)) is tt
still-numbered number (Some message) said label is also =
    subst (λ (o : Option (List ℕ)). StillSays o (Some label)) is
    (decimal number ++ codes ": ", ap (λ (text : List ℕ). Some text) (also ∙ sym (append_assoc (decimal number) (codes ": ") message.now)))

-- and so is the label of a place that says no more
pub still-unsaid : {Z : Type 0} (own : Option (String Z)) (said : Option (List ℕ)) (label : List ℕ)
    → IfSome own (λ text. said ≡ Some (string_bytes text)) → StillSays said (Some label) → StillSays (option_map string_bytes own) (Some label)
still-unsaid None said label same says = tt
still-unsaid (Some text) said label same says = subst (λ (o : Option (List ℕ)). StillSays o (Some label)) same says

stays-same : (span : FileSpan) → Stays span span
stays-same span = (refl, still-same _)

stays-more : (a b c : FileSpan) → Stays a b → Stays b c → Stays a c
stays-more a b c (first, says) (second, also) = (second ∙ first, still-more _ _ _ says also)

pub going-none : (spans : List FileSpan) → GoesOn spans spans
going-none [] = tt
going-none (span ∷ spans) = (stays-same span, going-none spans)

pub going-more : (xs ys zs : List FileSpan) → GoesOn xs ys → GoesOn ys zs → GoesOn xs zs
going-more [] ys zs first second = tt
going-more (x ∷ xs) [] zs first second = absurd first
going-more (x ∷ xs) (y ∷ ys) [] first second = absurd second
going-more (x ∷ xs) (y ∷ ys) (z ∷ zs) first second = (stays-more x y z first.0 second.0, going-more xs ys zs first.1 second.1)

pub going-same : (a b : List FileSpan) → b ≡ a → GoesOn a b
going-same a b same = subst (GoesOn a) (sym same) (going-none a)

pub going-pushed : (spans : List FileSpan) (span : FileSpan) → GoesOn spans (spans ++ span ∷ [])
going-pushed [] span = tt
going-pushed (s ∷ spans) span = (stays-same s, going-pushed spans span)

-- a place with another label, in the place of itself
pub going-changed : (spans : List FileSpan) (i : ℕ) (span d : FileSpan) → i < length spans → Stays (get_or spans i d) span
    → GoesOn spans (set spans i span)
going-changed [] i span d within stays = absurd (omega (arith, within))
going-changed (s ∷ spans) zero span d within stays = (stays, going-none spans)
going-changed (s ∷ spans) (suc i) span d within stays = (stays-same s, going-changed spans i span d (omega (arith, within)) stays)
