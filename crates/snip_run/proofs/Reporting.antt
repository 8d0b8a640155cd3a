-- What a renderer gives for a command's report.
use Rattle.std.proofs.Common.{◌≡◌, ◌⊎◌, Option, Some, None, Ok, Err, Result, IfSome, IfOk, IfErr, inl, inr, refl, sym, ap, subst}

-- a value that is known to hold something holds it
pub ok_had : {T E : Type 0} (P : T → Type 0) (r : Result T E) (x : T) → r ≡ Ok x → IfOk r P → P x
ok_had P r x is holds = subst (λ z. IfOk z P) is holds

-- what is refused, is refused for the first fault, or for want of memory where there is none
pub refused_or_want : {T E : Type 0} (P : E → Type 0) (fault : Option E) (r : Result T E) (want : E)
    → IfSome fault (λ e. r ≡ Err e) → (fault ≡ None → IfErr r (λ e. e ≡ want)) → ((e : E) → fault ≡ Some e → P e) → IfErr r (λ e. (e ≡ want) ⊎ P e)
refused_or_want P fault (Ok x) want told other gives = tt
refused_or_want P None (Err e) want told other gives = inl (other refl)
refused_or_want P (Some f) (Err e) want told other gives =
    let same : e ≡ f = cc in
    inr (gives e (ap Some (sym same)))

-- what gives a value isn't refused
pub allowed_and : {T E : Type 0} (P : T → Type 0) (fault : Option E) (r : Result T E) → IfSome fault (λ e. r ≡ Err e) → IfOk r P
    → IfOk r (λ x. (fault ≡ None) × P x)
allowed_and P None (Ok x) refused holds = (refl, holds)
allowed_and P (Some e) (Ok x) refused holds = cc
allowed_and P fault (Err e) refused holds = tt
