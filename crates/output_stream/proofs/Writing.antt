-- What writes to a stream do, one after another.
use Rattle.std.proofs.Common.{◌≡◌, ◌≢◌, ℕ, ◌<◌, true, false, List, [], ◌∷◌, ◌++◌, Option, Some, None, arith, inl, inr, length, take, drop, refl, sym, ap}
use Rattle.std.proofs.Common.{◌∙◌}
use Rattle.std.proofs.Common.{subst, append_assoc, append-nil, length-append, length-drop, take-append-drop}
use Rattle.std.specs.Io.KnownBytes.{Appends, Keeps}
use Rattle.output_stream.specs.Standing.{Adds, BreaksOff, BreaksOffBefore, Gets, Standing, StaysFailed}
use Rattle.output_stream.specs.Part.{AppendsPart}
use Rattle.output_stream.proofs.Parts.{added_twice, none_kept}

-- nothing has no part but nothing
none_in : (part rest : List ℕ) → [] ≡ part ++ rest → part ≡ []
none_in [] rest split = refl
none_in (b ∷ part) rest split = cc

-- what stays as it was once a write failed still does after another write
pub stays_twice : (a b c : Standing) → StaysFailed a b → StaysFailed b c → StaysFailed a c
stays_twice a b c one two failed =
    let same : b ≡ a = one failed in
    two (ap (λ (s : Standing). s.has_failed) same ∙ failed) ∙ same

-- where nothing is written nothing is added
pub nothing_added : (held : Option (List ℕ)) → Appends held held []
nothing_added None = tt
nothing_added (Some bytes) = sym (append-nil bytes)

pub adds_none : (a : Standing) → Adds a a []
adds_none a = record { added = nothing_added a.held; failed_as_before = refl; stays = λ failed. refl }

-- two texts that are written one after the other are written together
pub adds_twice : (a b c : Standing) (bs cs : List ℕ) → Adds a b bs → Adds b c cs → Adds a c (bs ++ cs)
adds_twice a b c bs cs one two =
    record {
      added = added_twice a.held b.held c.held bs cs one.added two.added;
      failed_as_before = two.failed_as_before ∙ one.failed_as_before;
      stays = stays_twice a b c one.stays two.stays;
    }

-- where the second breaks off, they do together
abbrev pub adds_breaks : (a b c : Standing) (bs cs : List ℕ) → Adds a b bs → BreaksOff b c cs → BreaksOff a c (bs ++ cs)
adds_breaks a b c bs cs one two =
    record {
      part = bs ++ two.part;
      rest = two.rest;
      split = ap (λ (l : List ℕ). bs ++ l) two.split ∙ sym (append_assoc bs two.part two.rest);
      added = added_twice a.held b.held c.held bs two.part one.added two.added;
      failed = two.failed;
      stays = stays_twice a b c one.stays two.stays;
    }

-- where the first breaks off nothing of the second is written
abbrev pub breaks_stays : (a b c : Standing) (bs cs : List ℕ) → BreaksOff a b bs → StaysFailed b c → BreaksOff a c (bs ++ cs)
breaks_stays a b c bs cs one two =
    record {
      part = one.part;
      rest = one.rest ++ cs;
      split = ap (λ (l : List ℕ). l ++ cs) one.split ∙ append_assoc one.part one.rest cs;
      added = subst (λ (s : Standing). Appends a.held s.held one.part) (sym (two one.failed)) one.added;
      failed = ap (λ (s : Standing). s.has_failed) (two one.failed) ∙ one.failed;
      stays = stays_twice a b c one.stays two;
    }

-- a stream that is given something is as it was once a write to it has failed
pub gets_stays : (b c : Standing) (cs : List ℕ) → Gets b c cs → StaysFailed b c
gets_stays b c cs (inl adds) = adds.stays
gets_stays b c cs (inr breaks) = breaks.stays

-- what is held stays where nothing is to be written
pub gets_none : (a b : Standing) → Gets a b [] → Keeps a.held b.held
gets_none a b (inl adds) = none_kept a.held b.held adds.added
gets_none a b (inr breaks) = none_kept a.held b.held (subst (Appends a.held b.held) (none_in breaks.part breaks.rest breaks.split) breaks.added)

-- what is given one after the other is given together: all of it, or, only where a write failed, a first part
pub gets_twice : (a b c : Standing) (bs cs : List ℕ) → Gets a b bs → Gets b c cs → Gets a c (bs ++ cs)
gets_twice a b c bs cs (inl one) (inl two) = inl (adds_twice a b c bs cs one two)
gets_twice a b c bs cs (inl one) (inr two) = inr (adds_breaks a b c bs cs one two)
gets_twice a b c bs cs (inr one) two = inr (breaks_stays a b c bs cs one (gets_stays b c cs two))

-- a text that breaks off is no whole line, nor is one without the line's end
pub text_of_line : (a b : Standing) (text : List ℕ) → BreaksOffBefore a b text → BreaksOffBefore a b (text ++ 10 ∷ [])
text_of_line a b text cut =
    record {
      broken = breaks_stays a b b text (10 ∷ []) cut.broken (λ failed. refl);
      some_left = λ none. omega (arith, ap length none, length-append cut.broken.rest (10 ∷ []));
    }

pub end_of_line : (a b c : Standing) (text : List ℕ) → Adds a b text → BreaksOffBefore b c (10 ∷ []) → BreaksOffBefore a c (text ++ 10 ∷ [])
end_of_line a b c text adds cut =
    record { broken = adds_breaks a b c text (10 ∷ []) adds cut.broken; some_left = cut.some_left }

-- some bytes are left after a first part that isn't all
some_rest : (n : ℕ) (bytes : List ℕ) → n < length bytes → drop n bytes ≢ []
some_rest n bytes short = λ none. omega (arith, ap length none, length-drop n bytes, short)

-- a write that failed at a stream to which none had
pub first_failure : (a b : Standing) (bytes : List ℕ) → a.has_failed ≡ false → b.has_failed ≡ true → AppendsPart a.held b.held bytes
    → BreaksOffBefore a b bytes
first_failure a b bytes sound failed cut =
    record {
      broken = record {
        part = take cut.count bytes;
        rest = drop cut.count bytes;
        split = sym (take-append-drop cut.count bytes);
        added = cut.appended;
        failed = failed;
        stays = λ before. cc;
      };
      some_left = some_rest cut.count bytes cut.short;
    }

-- nothing is written to a stream to which a write had failed
pub failed_before : (a : Standing) (bytes : List ℕ) → a.has_failed ≡ true → bytes ≢ [] → BreaksOffBefore a a bytes
failed_before a bytes failed some =
    record {
      broken = record {
        part = [];
        rest = bytes;
        split = refl;
        added = nothing_added a.held;
        failed = failed;
        stays = λ before. refl;
      };
      some_left = some;
    }
