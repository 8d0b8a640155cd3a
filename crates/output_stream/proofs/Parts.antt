-- What writes add, one after another.
use Rattle.std.proofs.Common.{◌≡◌, ℕ, ◌-◌, ◌<◌, ◌==◌, List, [], ◌++◌, zero, suc, false, Option, Some, None, arith, length, take, drop, sym, ap, ◌∙◌}
use Rattle.std.proofs.Common.{subst, append_assoc, append-nil, length-append, take-append-drop}
use Rattle.std.proofs.Math.Seq.{take-append_seam}
use Rattle.std.proofs.lemmas.List.{take_rest}
use Rattle.std.specs.Prelude.{OnErr, Result, Ok, Err}
use Rattle.std.specs.Io.KnownBytes.{Appends, Keeps}
use Rattle.output_stream.specs.Part.{AppendsPart}

-- a write that keeps what a writer holds adds no byte
pub none_added : (a b : Option (List ℕ)) → Keeps a b → Appends a b []
none_added None b kept = tt
none_added (Some x) None kept = absurd kept
none_added (Some x) (Some y) kept = kept ∙ sym (append-nil x)

-- and one that adds no byte keeps what it holds
pub none_kept : (a b : Option (List ℕ)) → Appends a b [] → Keeps a b
none_kept None b added = tt
none_kept (Some x) None added = absurd added
none_kept (Some x) (Some y) added = added ∙ append-nil x

pub added_twice : (a b c : Option (List ℕ)) (bs cs : List ℕ) → Appends a b bs → Appends b c cs → Appends a c (bs ++ cs)
added_twice None b c bs cs p q = tt
added_twice (Some x) None c bs cs p q = absurd p
added_twice (Some x) (Some y) None bs cs p q = absurd q
added_twice (Some x) (Some y) (Some z) bs cs p q = q ∙ ap (λ l. l ++ cs) p ∙ append_assoc x bs cs

pub added_then_kept : (a b c : Option (List ℕ)) (bs : List ℕ) → Appends a b bs → Keeps b c → Appends a c bs
added_then_kept None b c bs p q = tt
added_then_kept (Some x) None c bs p q = absurd p
added_then_kept (Some x) (Some y) None bs p q = absurd q
added_then_kept (Some x) (Some y) (Some z) bs p q = q ∙ p

-- what was to be written is what is written and the rest, of which more is written
pub moves_front : (all done rest : List ℕ) (n : ℕ) → all ≡ done ++ rest → all ≡ (done ++ take n rest) ++ take (length rest - n) (drop n rest)
moves_front all done rest n e =
    e ∙ ap (λ l. done ++ l) (sym (take-append-drop n rest)) ∙ sym (append_assoc done (take n rest) (drop n rest))
    ∙ ap (λ l. (done ++ take n rest) ++ l) (sym (take_rest rest n))

-- where some bytes are left, a first part was written
pub part_of : (a b c : Option (List ℕ)) (all done rest : List ℕ) → all ≡ done ++ rest → 0 < length rest → Appends a b done → Keeps b c → AppendsPart a c all
part_of a b c all done rest split some added kept =
    record {
      count = length done;
      short = omega (arith, ap length split, length-append done rest, some);
      appended =
          subst (Appends a c) (sym (ap (take (length done)) split ∙ take-append_seam done rest)) (added_then_kept a b c done added kept);
    }

-- what holds anyway holds where a result is an error
pub anyway : {T E P : Type 0} (r : Result T E) → P → OnErr r P
anyway (Ok x) h = tt
anyway (Err e) h = h

pub some_left : (n : ℕ) → (n == 0) ≡ false → 0 < n
some_left zero none = cc
some_left (suc n) none = omega arith
