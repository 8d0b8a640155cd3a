-- What is read of an input before it is taken.
use Rattle.std.proofs.Common.{◌≡◌, ◌+◌, ◌<◌, ◌≤◌, ◌==◌, ◌++◌, ◌∙◌, ℕ, Bool, true, false, zero, suc, List, [], ◌∷◌, Option, None, Some, ap, append_assoc}
use lib.Seq.{drop-append-le}
use Rattle.std.proofs.Common.{append-nil, arith, drop, drop-drop, length, length-append, refl, slice_index, sym, take, take-append-drop, take_all}
use Rattle.std.specs.Prelude.{IfSome, if◌then◌else◌}
use Rattle.std.specs.Io.BufRead.{drop_through, take_through}
use Rattle.std.specs.Io.KnownBytes.{Consumes, IsAtEnd, Keeps, prepend_known}
use Rattle.memchr.specs.Find.{IsFirstByte, is_byte}
use Rattle.json_lines.specs.TakenLine.{TakesLine, TakesNext}
use Rattle.json_lines.proofs.Through.{ends_first}
use Rattle.redraw_command.specs.LookAhead.{AddsLine, IsLineAhead, ReadsOn, ahead_of, left_by, left_of}
use Rattle.redraw_command.specs.declared.ahead.Ahead.{Ahead}

-- ---- lines

through_if : (b : Bool) (x : ℕ) (xs : List ℕ) → take_through 10 xs ++ drop_through 10 xs ≡ xs
    → (if b then x ∷ [] else (x ∷ take_through 10 xs)) ++ (if b then xs else drop_through 10 xs) ≡ x ∷ xs
through_if true x xs h = refl
through_if false x xs h = ap (λ l. x ∷ l) h

-- a line and what comes after it
pub through_all : (xs : List ℕ) → take_through 10 xs ++ drop_through 10 xs ≡ xs
through_all [] = refl
through_all (x ∷ xs) = through_if (x == 10) x xs (through_all xs)

-- bytes without a line feed are a part of the line
within_line : (bytes rest : List ℕ) → ((k : ℕ) → k < length bytes → (slice_index bytes k == 10) ≡ false)
    → take_through 10 (bytes ++ rest) ≡ bytes ++ take_through 10 rest
within_line [] rest feedless = refl
within_line (x ∷ xs) rest feedless =
    let here : (x == 10) ≡ false = feedless 0 (omega arith) in
    rw here (ap (λ l. x ∷ l) (within_line xs rest (λ k less. feedless (suc k) (omega arith))))

off : (b : Bool) → (b ≡ true → ⊥) → b ≡ false
off true h = absurd (h refl)
off false h = refl

no_feed : (bytes : List ℕ) → IsFirstByte (is_byte 10) bytes None → (k : ℕ) → k < length bytes → (slice_index bytes k == 10) ≡ false
no_feed bytes none k less = off (slice_index bytes k == 10) (none k (omega arith) less)

nil_of : (xs : List ℕ) → length xs ≡ 0 → xs ≡ []
nil_of [] none = refl
nil_of (x ∷ xs) none = absurd (omega (arith, none))

-- ---- what is left

some_same : (p q : List ℕ) → Some p ≡ Some q → p ≡ q
some_same p q e = (cc)

pub kept_line : (held new : Option (List ℕ)) (ahead after line : List ℕ) → TakesLine held new line → after ≡ ahead ++ line
    → Keeps (prepend_known ahead held) (prepend_known after new)
kept_line None new ahead after line takes is = tt
kept_line (Some bytes) None ahead after line takes is = absurd (let none : None ≡ Some (drop_through 10 bytes) = takes.is.1 in (cc))
kept_line (Some bytes) (Some rest) ahead after line takes is =
    let whole : line ++ rest ≡ bytes = ap (λ l. l ++ rest) takes.is.0 ∙ ap (λ l. take_through 10 bytes ++ l) (some_same rest _ takes.is.1)
    ∙ through_all bytes in
    ap (λ l. l ++ rest) is ∙ append_assoc ahead line rest ∙ ap (λ l. ahead ++ l) whole

pub kept_end : (held : Option (List ℕ)) (ahead after : List ℕ) → IsAtEnd held → after ≡ ahead → Keeps (prepend_known ahead held) (Some after)
kept_end None ahead after end is = tt
kept_end (Some bytes) ahead after end is = is ∙ sym (append-nil ahead) ∙ ap (λ l. ahead ++ l) (sym end)

pub kept_same : (left : Option (List ℕ)) → Keeps left left
kept_same None = tt
kept_same (Some bytes) = refl

pub takes_next : (is : Bool) (held new : Option (List ℕ)) (line : List ℕ) → is ≡ true → TakesNext is held new line → TakesLine held new line
takes_next true held new line more takes = takes
takes_next false held new line more takes = cc more

pub adds_line : (held new : Option (List ℕ)) (ahead after line : List ℕ) → TakesLine held new line → after ≡ ahead ++ line
    → AddsLine (prepend_known ahead held) ahead after
adds_line None new ahead after line takes is = record { line = line; some = takes.some; added = is; is = tt }
adds_line (Some bytes) new ahead after line takes is =
    record { line = line; some = takes.some; added = is; is = (bytes, refl, takes.is.0) }

pub adds_none : (held : Option (List ℕ)) (ahead after : List ℕ) → IsAtEnd held → after ≡ ahead → ReadsOn false (prepend_known ahead held) ahead after
adds_none None ahead after end is = (is, tt)
adds_none (Some bytes) ahead after end is = (is, ap (λ l. ahead ++ l) end ∙ append-nil ahead)

-- a reader that wasn't at its end is asked
pub read_adds : (is : Bool) (held new : Option (List ℕ)) (ahead after line : List ℕ) → is ≡ false → TakesLine held new line → after ≡ ahead ++ line
    → AddsLine (left_by is ahead held) ahead after
read_adds true held new ahead after line on takes added = cc on
read_adds false held new ahead after line on takes added = adds_line held new ahead after line takes added

pub read_kept : (is : Bool) (held new : Option (List ℕ)) (ahead after line : List ℕ) → is ≡ false → TakesLine held new line → after ≡ ahead ++ line
    → Keeps (left_by is ahead held) (left_by is after new)
read_kept true held new ahead after line on takes added = cc on
read_kept false held new ahead after line on takes added = kept_line held new ahead after line takes added

pub end_adds : (is : Bool) (held : Option (List ℕ)) (ahead : List ℕ) → is ≡ false → IsAtEnd held → ReadsOn false (left_by is ahead held) ahead ahead
end_adds true held ahead on end = cc on
end_adds false held ahead on end = adds_none held ahead ahead end refl

pub end_kept : (is : Bool) (held : Option (List ℕ)) (ahead : List ℕ) → is ≡ false → IsAtEnd held → Keeps (left_by is ahead held) (Some ahead)
end_kept true held ahead on end = refl
end_kept false held ahead on end = kept_end held ahead ahead end refl

pub dropped_more : (bytes line after : List ℕ) (start : ℕ) → start ≤ length bytes → after ≡ bytes ++ line → drop start after ≡ drop start bytes ++ line
dropped_more bytes line after start within is = ap (drop start) is ∙ drop-append-le start bytes line within

-- a reader that has no more isn't asked
pub ended_reads : (is : Bool) (held : Option (List ℕ)) (ahead : List ℕ) → is ≡ true → ReadsOn false (left_by is ahead held) ahead ahead
ended_reads true held ahead on = (refl, refl)
ended_reads false held ahead on = cc on

pub left_none : (held : Option (List ℕ)) (bytes : List ℕ) → bytes ≡ [] → left_by false (drop 0 bytes) held ≡ held
left_none None bytes none = refl
left_none (Some rest) bytes none = ap (λ l. Some (l ++ rest)) none

taken_bytes : (bytes : List ℕ) (start count : ℕ) → drop start bytes ≡ take count (drop start bytes) ++ drop (start + count) bytes
taken_bytes bytes start count =
    sym (take-append-drop count (drop start bytes)) ∙ ap (λ l. take count (drop start bytes) ++ l) (drop-drop count start bytes)

pub left_taken : (is : Bool) (held : Option (List ℕ)) (bytes : List ℕ) (start count : ℕ)
    → Consumes (left_by is (drop start bytes) held) (left_by is (drop (start + count) bytes) held) (take count (drop start bytes))
left_taken true held bytes start count = taken_bytes bytes start count
left_taken false None bytes start count = tt
left_taken false (Some rest) bytes start count =
    ap (λ l. l ++ rest) (taken_bytes bytes start count) ∙ append_assoc (take count (drop start bytes)) (drop (start + count) bytes) rest

-- ---- the next line

feed_line : (is : Bool) (held : Option (List ℕ)) (ahead : List ℕ) (at : ℕ) → IsFirstByte (is_byte 10) ahead (Some at)
    → IfSome (left_by is ahead held) (λ bytes. take (at + 1) ahead ≡ take_through 10 bytes)
feed_line true held ahead at first = sym (ends_first ahead at first []).0 ∙ ap (take_through 10) (append-nil ahead)
feed_line false None ahead at first = tt
feed_line false (Some rest) ahead at first = sym (ends_first ahead at first rest).0

-- where a line feed is ahead
pub line_found : (is : Bool) (held : Option (List ℕ)) (ahead : List ℕ) (at : ℕ) → IsFirstByte (is_byte 10) ahead (Some at)
    → IsLineAhead (at + 1) (left_by is ahead held) ahead
line_found is held ahead at first =
    record {
      within = omega (arith, first.0.high);
      line = λ some. feed_line is held ahead at first;
      end = λ none. absurd (omega (arith, none));
    }

whole_line : (old new line bytes rest : List ℕ) → IsFirstByte (is_byte 10) old None → new ≡ old ++ line → bytes ≡ old ++ rest → line ≡ take_through 10 rest
    → take (length new) new ≡ take_through 10 bytes
whole_line old new line bytes rest none added whole is =
    take_all (length new) new (omega arith) ∙ added ∙ ap (λ l. old ++ l) is ∙ sym (within_line old rest (no_feed old none))
    ∙ ap (take_through 10) (sym whole)

some_line : (left : Option (List ℕ)) (old new : List ℕ) → IsFirstByte (is_byte 10) old None → AddsLine left old new
    → IfSome left (λ bytes. take (length new) new ≡ take_through 10 bytes)
some_line None old new none h = tt
some_line (Some bytes) old new none h = whole_line old new h.line bytes h.is.0 none h.added h.is.1 h.is.2

last_line : (left : Option (List ℕ)) (old new : List ℕ) → IsFirstByte (is_byte 10) old None → new ≡ old → IfSome left (λ bytes. bytes ≡ old)
    → IfSome left (λ bytes. take (length new) new ≡ take_through 10 bytes)
last_line None old new none is whole = tt
last_line (Some bytes) old new none is whole =
    whole_line old new [] bytes [] none (is ∙ sym (append-nil old)) (whole ∙ sym (append-nil old)) refl

at_end : (left : Option (List ℕ)) (old : List ℕ) → old ≡ [] → IfSome left (λ bytes. bytes ≡ old) → IsAtEnd left
at_end None old none whole = tt
at_end (Some bytes) old none whole = whole ∙ none

-- where none is, and one more line is read
pub line_read : (is : Bool) (left : Option (List ℕ)) (old new : List ℕ) → IsFirstByte (is_byte 10) old None → ReadsOn is left old new
    → IsLineAhead (length new) left new
line_read true left old new none h =
    record {
      within = omega arith;
      line = λ some. some_line left old new none h;
      end = λ zero. absurd (omega (arith, zero, h.some, ap length h.added, length-append old h.line));
    }
line_read false left old new none h =
    record {
      within = omega arith;
      line = λ some. last_line left old new none h.0 h.1;
      end = λ zero. at_end left old (sym h.0 ∙ nil_of new zero) h.1;
    }

-- ---- for who asks

-- what is left begins with what is ahead
pub left_begins : {B : Type 0} (held : B → Option (List ℕ)) (a : Ahead B) (count : ℕ)
    → (left : Option (List ℕ)) × Consumes (left_of held a) left (take count (ahead_of a))
left_begins held a count =
    (left_by a.is_ended (drop (a.start + count) a.bytes.items) (held a.reader), left_taken a.is_ended (held a.reader) a.bytes.items a.start count)

-- what is ahead doesn't get less
pub reads_longer : (is : Bool) (left : Option (List ℕ)) (old new : List ℕ) → ReadsOn is left old new → length old ≤ length new
reads_longer true left old new h = omega (arith, ap length h.added, length-append old h.line)
reads_longer false left old new h = omega (arith, ap length h.0)
