-- A run over writers that are lent for it: what its streams are given is given to the writers.
use Rattle.std.proofs.Common.{◌≡◌, ℕ, Bool, List, Option, false, subst, sym}
use Rattle.program.specs.Ending.{End, Ends}
use Rattle.program.specs.Lent.{IsLentFor, sound_stream, stream_of}
use Rattle.program.specs.Stream.{Output, Receives}
use Rattle.program.specs.declared.lent.LentStream.{LentStream}

-- a run that gives two streams what they are given gives it to all that is given what they are
pub ends_for : {Way : Type 0} (May : Way → Type 0) (end_of : Way → End) (status : ℕ) (Out Err ToOut ToErr : Output → Type 0)
    → Ends May end_of status Out Err → ((output : Output) → Out output → ToOut output) → ((output : Output) → Err output → ToErr output)
    → Ends May end_of status ToOut ToErr
ends_for {Way} May end_of status Out Err ToOut ToErr ends to_out to_err =
    record {
      way = ends.way;
      may = ends.may;
      status_is = ends.status_is;
      out = to_out (end_of ends.way).out ends.out;
      err = to_err (end_of ends.way).err ends.err;
    }

-- what a sound stream over a writer is given is given to that writer
pub lent_for : {W : Type 0} (contents : W → Option (List ℕ)) (old new : W) (before after : LentStream W) → before.target.now ≡ old
    → before.has_failed ≡ false → new ≡ after.target.now → (output : Output) → Receives contents (stream_of before) (stream_of after) output
    → IsLentFor contents old new output
lent_for {W} contents old new before after is sound ends output given =
    record {
      has_failed = after.has_failed;
      receives =
          subst (λ (w : W). Receives contents (sound_stream old) record { writer = w; has_failed = after.has_failed } output) (sym ends)
          (subst (λ (w : W). Receives contents (sound_stream w) (stream_of after) output) is
          (subst (λ (b : Bool). Receives contents record { writer = before.target.now; has_failed = b } (stream_of after) output) sound given));
    }
