-- How a form grows by texts, one after another.
use Rattle.snippet_text_form.proofs.Common.{◌≡◌, ℕ, List, ◌++◌, Result, sym, ap, ◌∙◌, OnOk, append_assoc, map-append, on_ok_weaker, FormPiece, Char, bare}

-- two parts
pub added-two : {X : Type 0} (old one new a b : List X) → one ≡ old ++ a → new ≡ one ++ b → new ≡ old ++ (a ++ b)
added-two old one new a b first second = second ∙ ap (λ xs. xs ++ b) first ∙ append_assoc old a b

-- the same where the second call is answered as it is
pub added-two-on_ok : {X T E : Type 0} (r : Result T E) (old one new a b : List X) → one ≡ old ++ a → OnOk r (new ≡ one ++ b) → OnOk r (new ≡ old ++ (a ++ b))
added-two-on_ok r old one new a b first second =
    on_ok_weaker r (λ then. added-two old one new a b first then) second

-- the same with texts without codes
pub text-two : (old one new : List FormPiece) (a b : List ℕ) → one ≡ old ++ bare a → new ≡ one ++ bare b → new ≡ old ++ bare (a ++ b)
text-two old one new a b first second =
    added-two old one new (bare a) (bare b) first second ∙ ap (λ (ps : List FormPiece). old ++ ps) (sym (map-append (λ (ch : ℕ). Char ch) a b))

-- two texts that are added one after the other are added as one, on success
pub text-two-on_ok : {T E : Type 0} (r : Result T E) (old one new : List FormPiece) (a b : List ℕ) → one ≡ old ++ bare a → OnOk r (new ≡ one ++ bare b)
    → OnOk r (new ≡ old ++ bare (a ++ b))
text-two-on_ok r old one new a b first second =
    on_ok_weaker r (λ then. text-two old one new a b first then) second

-- another name for the text that is added
pub text-as : (old new : List FormPiece) (text cs : List ℕ) → text ≡ cs → new ≡ old ++ bare text → new ≡ old ++ bare cs
text-as old new text cs same added = added ∙ ap (λ (ds : List ℕ). old ++ bare ds) same

-- a text that is added is added under another name too, on success
pub text-as-on_ok : {T E : Type 0} (r : Result T E) (old new : List FormPiece) (text cs : List ℕ) → text ≡ cs → OnOk r (new ≡ old ++ bare text)
    → OnOk r (new ≡ old ++ bare cs)
text-as-on_ok r old new text cs same added =
    on_ok_weaker r (λ is. text-as old new text cs same is) added
