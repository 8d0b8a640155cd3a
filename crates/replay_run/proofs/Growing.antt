-- A stream that grows twice has grown.
use Rattle.std.proofs.Common.{List, ℕ, [], ◌++◌, Option, Some, None, ap, refl, sym, ◌∙◌, append_assoc}
use Rattle.std.specs.Io.KnownBytes.{Appends, Keeps}
use Rattle.std.proofs.lemmas.List.{append-nil}
use Rattle.output_stream.specs.Standing.{Adds, BreaksOff, Standing}
use Rattle.replay_run.specs.Answered.{AppendsFirst}
use Rattle.replay_run.specs.Growth.{Grows}

-- nothing added, and one text after another
pub appends_none : (a : Option (List ℕ)) → Appends a a []
appends_none None = tt
appends_none (Some x) = sym (append-nil x)

-- two texts added one after the other are both added together
pub appends_twice : (a b c : Option (List ℕ)) (first then : List ℕ) → Appends a b first → Appends b c then → Appends a c (first ++ then)
appends_twice None b c first then one two = tt
appends_twice (Some x) None c first then one two = absurd one
appends_twice (Some x) (Some y) None first then one two = absurd two
appends_twice (Some x) (Some y) (Some z) first then one two =
    two ∙ ap (λ (l : List ℕ). l ++ then) one ∙ append_assoc x first then

-- what grows and grows again has grown
pub grows_twice : (a b c : Standing) → Grows a b → Grows b c → Grows a c
grows_twice a b c first then =
    record { text = first.text ++ then.text; added = appends_twice a.held b.held c.held first.text then.text first.added then.added }

-- what has nothing added has grown by nothing
pub grows_none : (a : Standing) → Grows a a
grows_none a = record { text = []; added = appends_none a.held }

-- a text that is added makes it grow
pub grows_appended : (a b : Standing) (text : List ℕ) → Appends a.held b.held text → Grows a b
grows_appended a b text appends = record { text = text; added = appends }

-- what has grown has still grown where nothing more is added
pub grows_flushed : (a b c : Standing) → Grows a b → Adds b c [] → Grows a c
grows_flushed a b c grown kept = grows_twice a b c grown record { text = []; added = kept.added }

-- what is held stays as it is
pub kept_same : (held : Option (List ℕ)) → Keeps held held
kept_same None = tt
kept_same (Some bytes) = refl

-- a text that was added is still added where nothing more is
pub appends_kept : (a b c : Option (List ℕ)) (text : List ℕ) → Appends a b text → Keeps b c → Appends a c text
appends_kept None b c text one kept = tt
appends_kept (Some x) None c text one kept = absurd one
appends_kept (Some x) (Some y) None text one kept = absurd kept
appends_kept (Some x) (Some y) (Some z) text one kept = kept ∙ one

-- what breaks off is a first part
pub first_part : (old new : Standing) (bytes : List ℕ) → BreaksOff old new bytes → AppendsFirst old new bytes
first_part old new bytes h = record { part = h.part; rest = h.rest; split = h.split; added = h.added }
