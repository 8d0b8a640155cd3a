-- Messages that are told beside a report.
use Rattle.std.proofs.Common.{◌≡◌, ◌==◌, ◌+◌, ◌∙◌, ℕ, zero, suc, Bool, List, ap, arith, inl, inr, length, refl, string_bytes, subst, sym}
use Rattle.std.specs.Global.{Global}
use Rattle.std.specs.Prelude.{Result, Ok, Err, IfErr, IfOk, OnOk, String}
use Rattle.std.proofs.Math.Dec.{eqb-suc-zero}
use Rattle.std.proofs.lemmas.List.{length-map}
use Rattle.annotate_snippets.specs.declared.renderer.error.RenderError.{RenderError}
use Rattle.output_stream.specs.Standing.{Standing}
use Rattle.redraw_command.specs.Told.{Tells}
use Rattle.redraw_command.specs.declared.stop.Stop.{Stop}
use Rattle.redraw_read.specs.Counted.{capped, clamped_in, undrawn_in}
use Rattle.redraw_read.specs.Loaded.{Loads, named_files, texts_of}
use Rattle.redraw_read.specs.Placed.{AtHand, hand_for, home_of}
use Rattle.redraw_read.specs.declared.sources.File.{File}
use Rattle.redraw_read.specs.declared.sources.Sources.{Sources}
use Rattle.redraw_report.specs.declared.diagnostic.Diagnostic.{Diagnostic}
use Rattle.redraw_run.specs.Deeds.{TellsAll}
use Rattle.redraw_run.specs.ReadLines.{TellsUnless}
use Rattle.redraw_run.specs.Telling.{TellsAbout, TellsMany, TellsOf}
use Rattle.redraw_run.proofs.Done.{tells_none, tells_one, tells_then}

-- nothing is counted where there is nothing
capped-none : (n k : ℕ) → n ≡ capped k → (n == 0) ≡ (k == 0)
capped-none zero zero is = refl
capped-none zero (suc k) is = absurd (omega (arith, is))
capped-none (suc n) zero is = absurd (omega (arith, is))
capped-none (suc n) (suc k) is = eqb-suc-zero n ∙ sym (eqb-suc-zero k)

-- so many messages, and one more
pub many_more : (n : ℕ) (a b c : Standing) → TellsMany n a b → Tells b c → TellsMany (n + 1) a c
many_more n a b c many one =
    let count : suc n ≡ n + 1 = omega arith in
    subst (λ k. TellsMany k a c) count (b, many, one)

pub many_all : (n : ℕ) (a b : Standing) → TellsMany n a b → TellsAll a b
many_all zero a b same = subst (TellsAll a) (sym same) (tells_none a)
many_all (suc n) a b many = tells_then (many_all n a many.0 many.1) (tells_one many.2)

pub same_files : {S : Type 0} (a b : Sources S) → a ≡ b → b.files.items ≡ a.files.items
same_files {S} a b same = ap (λ (s : Sources S). s.files.items) (sym same)

pub same_unread : {S : Type 0} (a b : Sources S) → a ≡ b → a.unread.items ≡ b.unread.items
same_unread {S} a b same = ap (λ (s : Sources S). s.unread.items) same

-- what holds in any case holds where it is done
pub done_so : {T P : Type 0} (result : Result T Stop) → P → OnOk result P
done_so (Ok done) h = h
done_so (Err stop) h = tt

-- what is told where a report is refused
pub told_err : {T : Type 0} (result : Result T Stop) (text : Result (String Global) RenderError) (why : RenderError) (P : Type 0) → text ≡ Err why
    → OnOk result P → OnOk result (IfErr text (λ e. P))
told_err (Err stop) text why P is h = tt
told_err (Ok done) text why P is h = subst (λ (t : Result (String Global) RenderError). IfErr t (λ e. P)) (sym is) h

-- what is told of a finding, part by part
pub tells_of : {r s : Bool} {first loaded these files : List File} {untold : List (List ℕ)} (names : List (String Global)) (d : Diagnostic)
    (clamped undrawn : ℕ) (old named placed before : Standing) → r ≡ s → loaded ≡ these → these ≡ files
    → Loads (home_of d.homes.items) (named_files d) first loaded untold (texts_of names) → TellsMany (length names) old named
    → clamped ≡ capped (clamped_in (hand_for these r d) d) → undrawn ≡ capped (undrawn_in (hand_for these r d) d)
    → TellsUnless (clamped == 0) named placed → TellsUnless (undrawn == 0) placed before → TellsOf s first files untold d old before
tells_of {r} {s} {first} {loaded} {these} {files} {untold} names d clamped undrawn old named placed before looks kept last loads many c u places
    alternatives =
    let same : hand_for these r d ≡ hand_for files s d =
    ap (λ (fs : List File). hand_for fs r d) last ∙ ap (λ x. hand_for files x d) looks in
    record {
      unread = texts_of names;
      loads = subst (λ (fs : List File). Loads (home_of d.homes.items) (named_files d) first fs untold (texts_of names)) (kept ∙ last) loads;
      named = named;
      each_file = subst (λ n. TellsMany n old named) (sym (length-map names string_bytes)) many;
      placed = placed;
      places =
          subst (λ b. TellsUnless b named placed) (capped-none clamped _ c ∙ ap (λ (h : AtHand). clamped_in h d == 0) same) places;
      alternatives =
          subst (λ b. TellsUnless b placed before) (capped-none undrawn _ u ∙ ap (λ (h : AtHand). undrawn_in h d == 0) same) alternatives;
    }

-- and then its report is printed, or why it is refused is told
pub tells_about : {T E : Type 0} (contents : E → Standing) (result : Result T Stop) (text : Result (String Global) RenderError) {s : Bool}
    {first files : List File} {untold : List (List ℕ)} (d : Diagnostic) (old : Standing) (before new : E)
    → TellsOf s first files untold d old (contents before) → OnOk result (IfOk text (λ t. new ≡ before))
    → OnOk result (IfErr text (λ e. Tells (contents before) (contents new)))
    → OnOk result (TellsAbout s first files untold d old (contents new))
tells_about contents (Err stop) text d old before new of printed refused = tt
tells_about contents (Ok done) (Ok t) d old before new of printed refused = (contents before, of, inl (ap contents printed))
tells_about contents (Ok done) (Err e) d old before new of printed refused = (contents before, of, inr refused)
