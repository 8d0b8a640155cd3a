-- Where the lines of a source start and end.
use Rattle.std.proofs.Common.{◌≡◌, ℕ, zero, suc, ◌+◌, ◌-◌, ◌<◌, ◌≤◌, ◌==◌, Bool, true, false, List, [], ◌∷◌, ◌++◌, Option, Some, None, drop, get_or}
use Rattle.std.proofs.Common.{length, slice_get, take, refl, sym, ap, subst, ◌∙◌, arith, if◌then◌else◌}
use Rattle.std.specs.Str.{IsCharBoundary, IsUtf8}
use Rattle.std.proofs.lemmas.Bool.Decides.{nat_tests}
use Rattle.std.proofs.lemmas.List.{length-drop}
use Rattle.std.proofs.lemmas.Str.{IsCharBoundary-after_ascii, IsCharBoundary-from_rest, IsCharBoundary-start}
use Rattle.snippet_lines.specs.TextLines.{start_bytes, starts_after}
use Rattle.std.specs.Borrow.{Bor}
use Rattle.std.specs.List.{HoldsAt}
use Rattle.std.specs.Option.{MatchOption}
use Rattle.std.specs.Prelude.{option_and_then, option_map, slice_range, unwrap_or, ◌||◌}
use Rattle.std.specs.declared.ops.Range.{Range}
use Rattle.std.proofs.lemmas.Option.{slice_get_past, slice_get_read}
use Rattle.snippet_lines.specs.declared.columns.Position.{Position}
use Rattle.replay_read.specs.MarkerSpan.{byte_after, byte_at, byte_in_line, placed, until_feed}
use Rattle.replay_read.specs.Stops.{IsPart, line_range}
use Rattle.replay_read.specs.declared.span.SpanUnit.{SpanUnit}
use Rattle.replay_read.specs.declared.span.SpanUnit.TheVariants.{Char}

-- what stands before the first line feed begins a text
pub until_feed-front : (bytes : List ℕ) → take (length (until_feed bytes)) bytes ≡ until_feed bytes
until_feed-front [] = refl
until_feed-front (b ∷ bs) = by (b == 10) (until_feed-front bs)
  where
    by : (feed : Bool) → take (length (until_feed bs)) bs ≡ until_feed bs
        → take (length (if feed then [] else b ∷ until_feed bs)) (b ∷ bs) ≡ (if feed then [] else b ∷ until_feed bs)
    by true front = refl
    by false front = ap (λ bytes. b ∷ bytes) front

until_feed-within : (bytes : List ℕ) → length (until_feed bytes) ≤ length bytes
until_feed-within [] = omega arith
until_feed-within (b ∷ bs) = by (b == 10) (until_feed-within bs)
  where
    by : (feed : Bool) → length (until_feed bs) ≤ length bs → length (if feed then [] else b ∷ until_feed bs) ≤ length (b ∷ bs)
    by true within = omega arith
    by false within = omega (arith, within)

-- and a line feed comes after it, if anything does
until_feed-ends : (bytes : List ℕ) → length (until_feed bytes) < length bytes → get_or bytes (length (until_feed bytes)) 0 ≡ 10
until_feed-ends [] within = absurd (omega (arith, within))
until_feed-ends (b ∷ bs) within = by (b == 10) refl within (until_feed-ends bs)
  where
    by : (feed : Bool) → (b == 10) ≡ feed → length (if feed then [] else b ∷ until_feed bs) < length (b ∷ bs)
        → (length (until_feed bs) < length bs → get_or bs (length (until_feed bs)) 0 ≡ 10)
        → get_or (b ∷ bs) (length (if feed then [] else b ∷ until_feed bs)) 0 ≡ 10
    by true is within ends = grind (arith, nat_tests, is)
    by false is within ends = ends (omega (arith, within))

until_feed-border : (bytes : List ℕ) → IsCharBoundary bytes (length (until_feed bytes))
until_feed-border bytes = (until_feed-within bytes, λ within high. absurd (omega (arith, until_feed-ends bytes within, high)))

-- so a line ends between characters
pub line_end-border : (text : List ℕ) (start : ℕ) → start ≤ length text → IsCharBoundary text (start + length (until_feed (drop start text)))
line_end-border text start within =
    IsCharBoundary-from_rest text start (length (until_feed (drop start text))) within (until_feed-border (drop start text))

-- after a line's feed the next one starts
next-some : (at : ℕ) (bytes : List ℕ) (next : ℕ) → slice_get (starts_after at bytes) 0 ≡ Some next → next ≡ at + length (until_feed bytes) + 1
next-some at [] next is = absurd (grind (arith, is))
next-some at (b ∷ bs) next is = by (b == 10) is (next-some (at + 1) bs next)
  where
    by : (feed : Bool) → slice_get ((if feed then (at + 1) ∷ [] else []) ++ starts_after (at + 1) bs) 0 ≡ Some next
        → (slice_get (starts_after (at + 1) bs) 0 ≡ Some next → next ≡ at + 1 + length (until_feed bs) + 1)
        → next ≡ at + length (if feed then [] else b ∷ until_feed bs) + 1
    by true is later = let same : at + 1 ≡ next = cc in omega (arith, same)
    by false is later = omega (arith, later is)

-- and where there is none the text ends
next-none : (at : ℕ) (bytes : List ℕ) → slice_get (starts_after at bytes) 0 ≡ None → length (until_feed bytes) ≡ length bytes
next-none at [] is = refl
next-none at (b ∷ bs) is = by (b == 10) is (next-none (at + 1) bs)
  where
    by : (feed : Bool) → slice_get ((if feed then (at + 1) ∷ [] else []) ++ starts_after (at + 1) bs) 0 ≡ None
        → (slice_get (starts_after (at + 1) bs) 0 ≡ None → length (until_feed bs) ≡ length bs)
        → length (if feed then [] else b ∷ until_feed bs) ≡ length (b ∷ bs)
    by true is later = absurd (grind (arith, is))
    by false is later = omega (arith, later is)

-- a line but the first: it starts after a line feed, and the starts go on as from there
abbrev IsFrom : List ℕ → ℕ → List ℕ → ℕ → ℕ → Type 0
IsFrom starts at bytes index start =
    (past : ℕ) × (start ≡ at + suc past) × (past < length bytes) × (get_or bytes past 0 ≡ 10)
    × (slice_get starts (suc index) ≡ slice_get (starts_after start (drop (suc past) bytes)) 0)

is_from : (at : ℕ) (bytes : List ℕ) (index start : ℕ) → slice_get (starts_after at bytes) index ≡ Some start
    → IsFrom (starts_after at bytes) at bytes index start
is_from at [] index start is = absurd (grind (arith, is))
is_from at (b ∷ bs) index start is = by (b == 10) refl index is (λ i. is_from (at + 1) bs i start)
  where
    by : (feed : Bool) → (b == 10) ≡ feed → (i : ℕ) → slice_get ((if feed then (at + 1) ∷ [] else []) ++ starts_after (at + 1) bs) i ≡ Some start
        → ((i : ℕ) → slice_get (starts_after (at + 1) bs) i ≡ Some start → IsFrom (starts_after (at + 1) bs) (at + 1) bs i start)
        → IsFrom ((if feed then (at + 1) ∷ [] else []) ++ starts_after (at + 1) bs) at (b ∷ bs) i start
    by true feed zero is later =
        let here : at + 1 ≡ start = cc in
        (0, omega (arith, here), omega arith, grind (arith, nat_tests, feed), ap (λ n. slice_get (starts_after n bs) 0) here)
    by true feed (suc i) is later =
        let (past, start_is, within, ends, next) = later i is in
        (suc past, omega (arith, start_is), omega (arith, within), ends, next)
    by false feed i is later =
        let (past, start_is, within, ends, next) = later i is in
        (suc past, omega (arith, start_is), omega (arith, within), ends, next)

-- where a line starts is a border of characters, and the starts go on as from there
abbrev IsStart : List ℕ → ℕ → ℕ → Type 0
IsStart text index start =
    IsCharBoundary text start × (slice_get (start_bytes text) (suc index) ≡ slice_get (starts_after start (drop start text)) 0)

is_start : (text : List ℕ) (index start : ℕ) → IsUtf8 text → slice_get (start_bytes text) index ≡ Some start → IsStart text index start
is_start text zero start utf8 is =
    let first : 0 ≡ start = cc in
    subst (IsStart text zero) first (IsCharBoundary-start text utf8, refl)
is_start text (suc index) start utf8 is =
    let (past, start_is, within, ends, next) = is_from 0 text index start is in
    let after : past + 1 ≡ start = omega (arith, start_is) in
    let count : suc past ≡ start = omega (arith, start_is) in (
      subst (IsCharBoundary text) after (IsCharBoundary-after_ascii text past utf8 within (omega (arith, ends))),
      next ∙ ap (λ n. slice_get (starts_after start (drop n text)) 0) count,
    )

-- a line is a part of its source
pub line-part : (text : List ℕ) (index start end : ℕ) → IsUtf8 text → slice_get (start_bytes text) index ≡ Some start
    → end ≡ start + length (until_feed (drop start text)) → IsPart text record { start = start; end = end }
line-part text index start end utf8 is end_is =
    let border = (is_start text index start utf8 is).0 in
    (omega (arith, end_is), border, subst (IsCharBoundary text) (sym end_is) (line_end-border text start border.0))

-- where the next line starts tells where a line ends
pub line-before : (text : List ℕ) (index start next : ℕ) → IsUtf8 text → slice_get (start_bytes text) index ≡ Some start
    → slice_get (start_bytes text) (index + 1) ≡ Some next → next ≡ start + length (until_feed (drop start text)) + 1
line-before text index start next utf8 is next_is =
    let count : suc index ≡ index + 1 = omega arith in
    next-some start (drop start text) next
    (sym (is_start text index start utf8 is).1 ∙ ap (slice_get (start_bytes text)) count ∙ next_is)

-- and the last line ends with the source
pub line-last : (text : List ℕ) (index start : ℕ) → IsUtf8 text → slice_get (start_bytes text) index ≡ Some start
    → slice_get (start_bytes text) (index + 1) ≡ None → length text ≡ start + length (until_feed (drop start text))
line-last text index start utf8 is next_is =
    let count : suc index ≡ index + 1 = omega arith in
    let (border, next) = is_start text index start utf8 is in
    let all = next-none start (drop start text) (sym next ∙ ap (slice_get (start_bytes text)) count ∙ next_is) in
    omega (arith, all, length-drop start text, border.0)

pub line_range-is : (text : List ℕ) (index start end : ℕ) → slice_get (start_bytes text) index ≡ Some start
    → end ≡ start + length (until_feed (drop start text)) → Some record { start = start; end = end } ≡ line_range text index
line_range-is text index start end is end_is =
    ap (λ e. Some record { start = start; end = e }) end_is ∙ sym (ap (option_map whole) is)
  where
    whole : ℕ → Range ℕ
    whole s = record { start = s; end = s + length (until_feed (drop s text)) }

-- the line of an index is what stands before the first line feed from where it starts
line_range-tells : (text : List ℕ) (index : ℕ) (line : Range ℕ) → Some line ≡ line_range text index
    → (slice_get (start_bytes text) index ≡ Some line.start) × (slice_range text line.start line.end ≡ until_feed (drop line.start text))
line_range-tells text index line is = by (slice_get (start_bytes text) index) is
  where
    by : (found : Option ℕ) → Some line ≡ option_map (λ s. record { start = s; end = s + length (until_feed (drop s text)) }) found
        → (found ≡ Some line.start) × (slice_range text line.start line.end ≡ until_feed (drop line.start text))
    by None is = absurd cc
    by (Some s) is =
        let whole : line ≡ record { start = s; end = s + length (until_feed (drop s text)) } = cc in
        let start : line.start ≡ s = ap (λ r. r.start) whole in
        let size : line.end - line.start ≡ length (until_feed (drop line.start text)) =
        omega (arith, start, ap (λ r. r.end) whole, ap (λ n. length (until_feed (drop n text))) start) in (
          ap Some (sym start),
          ap (λ n. take n (drop line.start text)) size ∙ until_feed-front (drop line.start text),
        )

-- the byte of a place on a line
pub placed-on : (source : List ℕ) (unit : Option SpanUnit) (place : Position) (line : Range ℕ) (found : Option ℕ) → (place.line ≡ 0 → ⊥)
    → (place.column ≡ 0 → ⊥) → Some line ≡ line_range source (place.line - 1)
    → found ≡ option_map (λ byte. line.start + byte) (byte_after (unwrap_or unit Char) (slice_range source line.start line.end) (place.column - 1))
    → found ≡ placed source unit place
placed-on source unit place line found some_line some_column is found_is =
    let (start, text) = line_range-tells source (place.line - 1) line is in
    let some : (place.line == 0 || place.column == 0) ≡ false = grind (arith, nat_tests, some_line, some_column) in
    found_is
    ∙ ap (λ bytes. option_map (λ byte. line.start + byte) (byte_after (unwrap_or unit Char) bytes (place.column - 1))) text
    ∙ sym (ap (option_and_then (byte_in_line (unwrap_or unit Char) source (place.column - 1))) start)
    ∙ sym (ap (λ t. if t then None else option_and_then (byte_in_line (unwrap_or unit Char) source (place.column - 1))
    (slice_get (start_bytes source) (place.line - 1))) some)
    ∙ said unit
  where
    said : (unit : Option SpanUnit) → byte_at (unwrap_or unit Char) source place ≡ placed source unit place
    said None = refl
    said (Some unit) = refl

-- what is looked up in a table of where the lines of a source start: that of an index, where it is found, and none where it isn't
abbrev IsLookup : List ℕ → ℕ → Option (Bor ℕ) → Type 0
IsLookup table i r = MatchOption r (length table ≤ i) (λ x. (i < length table) × HoldsAt (λ (n : ℕ). x.now ≡ n) table i)

pub start-found : (text table starts : List ℕ) (i : ℕ) (r : Option (Bor ℕ)) (x : Bor ℕ) → table ≡ starts → starts ≡ start_bytes text
    → IsLookup table i r → r ≡ Some x → slice_get (start_bytes text) i ≡ Some x.now
start-found text table starts i None x copy known past is = absurd cc
start-found text table starts i (Some y) x copy known h is =
    let same : y ≡ x = cc in
    sym (ap (λ t. slice_get t i) (copy ∙ known)) ∙ slice_get_read table (length table) i y.now refl h.0 (h.1 y.now) ∙ ap (λ (b : Bor ℕ). Some b.now) same

pub start-none : (text table starts : List ℕ) (i : ℕ) (r : Option (Bor ℕ)) → table ≡ starts → starts ≡ start_bytes text
    → IsLookup table i r → r ≡ None → slice_get (start_bytes text) i ≡ None
start-none text table starts i None copy known past is = sym (ap (λ t. slice_get t i) (copy ∙ known)) ∙ slice_get_past table i past
start-none text table starts i (Some y) copy known h is = absurd cc
