-- What is read of a reader that is cut off after so many bytes.
use Rattle.std.proofs.Common.{◌≡◌, ℕ, ◌+◌, ◌≤◌, List, Option, None, Some, IfSome, Vec, Global, ap, arith, length, [], ◌++◌, subst, sym, take, ◌∙◌}
use Rattle.std.specs.Option.{option_map}
use Rattle.std.specs.Io.Take.{take_inner, take_limit, take_remaining}
use Rattle.std.specs.declared.io.traits.Take.{Take}
use Rattle.std.proofs.lemmas.List.{length-take, take_all}

-- it is all that there was, if it is less than that
whole_read : (held : Option (List ℕ)) (limit : ℕ) (bytes : List ℕ) → IfSome (option_map (take (limit + 1)) held) (λ xs. bytes ≡ xs) → length bytes ≤ limit
    → IfSome held (λ xs. bytes ≡ xs)
whole_read None limit bytes read short = tt
whole_read (Some xs) limit bytes read short =
    read ∙ take_all (limit + 1) xs (omega (arith, sym (length-take (limit + 1) xs) ∙ sym (ap length read), short))

-- the same of what is kept of it
pub whole_kept : (held : Option (List ℕ)) (limit : ℕ) (bytes : Vec ℕ Global) (kept : Option (Vec ℕ Global))
    → IfSome (option_map (take (limit + 1)) held) (λ xs. bytes.items ≡ xs) → IfSome kept (λ k. k ≡ bytes) → IfSome kept (λ k. length k.items ≤ limit)
    → IfSome held (λ xs. IfSome kept (λ k. k.items ≡ xs))
whole_kept None limit bytes kept read same short = tt
whole_kept (Some xs) limit bytes None read same short = tt
whole_kept (Some xs) limit bytes (Some k) read same short =
    whole_read (Some xs) limit k.items (ap (λ (v : Vec ℕ Global). v.items) same ∙ read) short

-- what is read of it, where nothing was read before
pub start_read : {F : Type 0} (remaining : F → Option (List ℕ)) (start : Take F) (file : F) (old new : List ℕ) (limit : ℕ) → take_limit start ≡ limit + 1
    → take_inner start ≡ file → old ≡ [] → IfSome (take_remaining remaining start) (λ xs. new ≡ old ++ xs)
    → IfSome (option_map (take (limit + 1)) (remaining file)) (λ xs. new ≡ xs)
start_read {F} remaining start file old new limit is inner none read =
    subst (λ (f : F). IfSome (option_map (take (limit + 1)) (remaining f)) (λ xs. new ≡ xs)) inner
    (subst (λ (n : ℕ). IfSome (option_map (take n) (remaining (take_inner start))) (λ xs. new ≡ xs)) is
    (subst (λ (o : List ℕ). IfSome (take_remaining remaining start) (λ xs. new ≡ o ++ xs)) none read))
