-- Units are counted on from a border of a text.
use Rattle.std.proofs.Common.{◌≡◌, ℕ, ◌+◌, ◌-◌, ◌≤◌, ◌==◌, Bool, true, false, List, [], ◌∷◌, ◌++◌, Option, Some, None, nat_le, nat_lt, chars, drop}
use Rattle.std.proofs.Common.{length, length-append, take, refl, sym, ap, ◌∙◌, arith, if◌then◌else◌}
use Rattle.std.proofs.Math.Utf8.{encode, encodes}
use Rattle.std.specs.Prelude.{option_map, slice_range, sum_by}
use Rattle.std.specs.Char.{len_utf8}
use Rattle.std.specs.Str.{IsCharBoundary, IsUtf8}
use Rattle.std.proofs.Math.Seq.{take-add}
use Rattle.std.proofs.lemmas.Bool.Decides.{nat_tests}
use Rattle.std.proofs.lemmas.List.{drop-drop, length-drop, length-take, length-take-le, take-append-drop}
use Rattle.std.proofs.lemmas.List.Sums.{sum_by-append, sum_by-cons, sum_by-le-sum_by}
use Rattle.std.proofs.lemmas.Str.{IsCharBoundary-past_char, IsCharBoundary-start, IsUtf8-between, IsUtf8-drop, IsUtf8-take, chars-append, chars-nil}
use Rattle.std.proofs.lemmas.Str.{chars_past_char, drop_past_char, encodes-chars, length-encode, len_utf8_bounds}
use Rattle.snippet_lines.specs.Places.{place_from, units_of}
use Rattle.snippet_lines.specs.declared.clamp.Place.{Place}
use Rattle.snippet_lines.specs.declared.columns.ColumnUnit.{ColumnUnit}
use Rattle.snippet_lines.specs.declared.columns.ColumnUnit.TheVariants as column
use Rattle.replay_read.specs.MarkerSpan.{byte_after, byte_of}
use Rattle.replay_read.specs.Stops.{IsStop, size_of, units_in}
use Rattle.replay_read.specs.declared.ruler.Stop.{Stop}
use Rattle.replay_read.specs.declared.span.SpanUnit.{SpanUnit}
use Rattle.replay_read.specs.declared.span.SpanUnit.TheVariants.{Byte, Char, Utf16}

-- a character has no more units than bytes
pub size_of-within : (unit : SpanUnit) (c : ℕ) → size_of unit c ≤ len_utf8 c
size_of-within Byte c = omega arith
size_of-within Char c = omega (arith, len_utf8_bounds c)
size_of-within Utf16 c = grind (arith, nat_tests)

-- the units of two texts in a row
pub units_in-append : (unit : SpanUnit) (xs ys : List ℕ) → IsUtf8 xs → units_in unit (xs ++ ys) ≡ units_in unit xs + units_in unit ys
units_in-append unit xs ys utf8 =
    ap (sum_by (size_of unit)) (chars-append xs ys utf8) ∙ sum_by-append (size_of unit) (chars xs) (chars ys)

-- the units of a text without its first character
pub units_in-past : (unit : SpanUnit) (text rest : List ℕ) (c : ℕ) → IsUtf8 text → text ≡ encode c ++ rest
    → units_in unit text ≡ size_of unit c + units_in unit rest
units_in-past unit text rest c utf8 is =
    ap (sum_by (size_of unit)) (chars_past_char text rest c utf8 is) ∙ sum_by-cons (size_of unit) c (chars rest)

pub units_in-none : (unit : SpanUnit) (text : List ℕ) → length text ≡ 0 → units_in unit text ≡ 0
units_in-none unit [] none = ap (sum_by (size_of unit)) chars-nil
units_in-none unit (b ∷ bs) none = absurd (omega (arith, none))

-- a place that lies so many bytes further on
abbrev moved : ℕ → Place → Place
moved bytes p = record { byte = bytes + p.byte; exact = p.exact }

place_from-moved : (unit : ColumnUnit) (bytes at : ℕ) (cs : List ℕ) (units : ℕ)
    → place_from unit (bytes + at) cs units ≡ moved bytes (place_from unit at cs units)
place_from-moved unit bytes at [] units = refl
place_from-moved unit bytes at (c ∷ cs) units =
    let same : bytes + at + len_utf8 c ≡ bytes + (at + len_utf8 c) = omega arith in
    by (nat_lt units (units_of unit c))
    (ap (λ n. place_from unit n cs (units - units_of unit c)) same ∙ place_from-moved unit bytes (at + len_utf8 c) cs (units - units_of unit c))
  where
    by : (few : Bool)
        → place_from unit (bytes + at + len_utf8 c) cs (units - units_of unit c)
        ≡ moved bytes (place_from unit (at + len_utf8 c) cs (units - units_of unit c))
        → (if few then record { byte = bytes + at; exact = units == 0 } else place_from unit (bytes + at + len_utf8 c) cs (units - units_of unit c))
        ≡ moved bytes (if few then record { byte = at; exact = units == 0 } else place_from unit (at + len_utf8 c) cs (units - units_of unit c))
    by true next = refl
    by false next = next

-- past some characters, as many units are left as there were more than theirs
place_from-past : (unit : ColumnUnit) (at : ℕ) (xs ys : List ℕ) (units : ℕ)
    → place_from unit at (xs ++ ys) (sum_by (units_of unit) xs + units) ≡ place_from unit (at + sum_by len_utf8 xs) ys units
place_from-past unit at [] ys units =
    let none : 0 + units ≡ units = omega arith in
    let here : at ≡ at + 0 = omega arith in
    ap (place_from unit at ys) none ∙ ap (λ n. place_from unit n ys units) here
place_from-past unit at (c ∷ xs) ys units =
    let all = sum_by-cons (units_of unit) c xs in
    let bytes = sum_by-cons len_utf8 c xs in
    let many : nat_lt (sum_by (units_of unit) (c ∷ xs) + units) (units_of unit c) ≡ false = grind (arith, nat_tests, all) in
    let left : sum_by (units_of unit) (c ∷ xs) + units - units_of unit c ≡ sum_by (units_of unit) xs + units = omega (arith, all) in
    let at_is : at + len_utf8 c + sum_by len_utf8 xs ≡ at + sum_by len_utf8 (c ∷ xs) = omega (arith, bytes) in
    ap (λ t. if t then here else next) many ∙ ap (place_from unit (at + len_utf8 c) (xs ++ ys)) left ∙ place_from-past unit (at + len_utf8 c) xs ys units
    ∙ ap (λ n. place_from unit n ys units) at_is
  where
    here : Place
    here = record { byte = at; exact = sum_by (units_of unit) (c ∷ xs) + units == 0 }

    next : Place
    next = place_from unit (at + len_utf8 c) (xs ++ ys) (sum_by (units_of unit) (c ∷ xs) + units - units_of unit c)

-- the bytes of a text are those of its characters
length-encodes : (cs : List ℕ) → length (encodes cs) ≡ sum_by len_utf8 cs
length-encodes [] = refl
length-encodes (c ∷ cs) =
    length-append (encode c) (encodes cs) ∙ omega (arith, length-encode c, length-encodes cs, sum_by-cons len_utf8 c cs)

bytes_in : (text : List ℕ) → IsUtf8 text → sum_by len_utf8 (chars text) ≡ length text
bytes_in text utf8 = sym (length-encodes (chars text)) ∙ ap length (encodes-chars text utf8)

-- a text has no more units than bytes
pub units_in-within : (unit : SpanUnit) (text : List ℕ) → IsUtf8 text → units_in unit text ≤ length text
units_in-within unit text utf8 =
    omega (arith, sum_by-le-sum_by (size_of unit) len_utf8 (chars text) (size_of-within unit), bytes_in text utf8)

-- the byte of a place that lies in the second of two texts
byte_of-moved : (xs ys : List ℕ) (p : Place) → byte_of (xs ++ ys) (moved (length xs) p) ≡ option_map (λ at. length xs + at) (byte_of ys p)
byte_of-moved xs ys p =
    let test : nat_lt (length xs + p.byte) (length (xs ++ ys)) ≡ nat_lt p.byte (length ys) = grind (arith, nat_tests, length-append xs ys) in
    let sum : length xs + p.byte + 1 ≡ length xs + (p.byte + 1) = omega arith in
    by p.exact (nat_lt p.byte (length ys)) test sum
  where
    by : (exact within : Bool) → nat_lt (length xs + p.byte) (length (xs ++ ys)) ≡ within → length xs + p.byte + 1 ≡ length xs + (p.byte + 1)
        → (if exact then Some (length xs + p.byte) else if nat_lt (length xs + p.byte) (length (xs ++ ys)) then Some (length xs + p.byte + 1) else None)
        ≡ option_map (λ at. length xs + at) (if exact then Some p.byte else if within then Some (p.byte + 1) else None)
    by true within test sum = refl
    by false true test sum = ap (λ t. if t then Some (length xs + p.byte + 1) else None) test ∙ ap Some sum
    by false false test sum = ap (λ t. if t then Some (length xs + p.byte + 1) else None) test

-- the place of so many units more than the first of two texts has
place-past : (unit : ColumnUnit) (xs ys : List ℕ) (units : ℕ) → IsUtf8 xs
    → byte_of (xs ++ ys) (place_from unit 0 (chars (xs ++ ys)) (sum_by (units_of unit) (chars xs) + units))
    ≡ option_map (λ at. length xs + at) (byte_of ys (place_from unit 0 (chars ys) units))
place-past unit xs ys units utf8 =
    let all = sum_by (units_of unit) (chars xs) + units in
    let start : 0 + sum_by len_utf8 (chars xs) ≡ length xs + 0 = omega (arith, bytes_in xs utf8) in
    ap (λ cs. byte_of (xs ++ ys) (place_from unit 0 cs all)) (chars-append xs ys utf8)
    ∙ ap (byte_of (xs ++ ys)) (place_from-past unit 0 (chars xs) (chars ys) units ∙ ap (λ n. place_from unit n (chars ys) units) start
    ∙ place_from-moved unit (length xs) 0 (chars ys) units)
    ∙ byte_of-moved xs ys (place_from unit 0 (chars ys) units)

-- the byte before which as many units stand as in the first of two texts, and some more
byte_after-past : (unit : SpanUnit) (xs ys : List ℕ) (units : ℕ) → IsUtf8 xs
    → byte_after unit (xs ++ ys) (units_in unit xs + units) ≡ option_map (λ at. length xs + at) (byte_after unit ys units)
byte_after-past Byte xs ys units utf8 =
    let size : units_in Byte xs ≡ length xs = bytes_in xs utf8 in
    let test : nat_le (length xs + units) (length (xs ++ ys)) ≡ nat_le units (length ys) = grind (arith, nat_tests, length-append xs ys) in
    ap (byte_after Byte (xs ++ ys)) (ap (λ n. n + units) size) ∙ ap (λ t. if t then Some (length xs + units) else None) test ∙ by (nat_le units (length ys))
  where
    by : (within : Bool) → (if within then Some (length xs + units) else None)
        ≡ option_map (λ at. length xs + at) (if within then Some units else None)
    by true = refl
    by false = refl
byte_after-past Char xs ys units utf8 = place-past column.Chars xs ys units utf8
byte_after-past Utf16 xs ys units utf8 = place-past column.Utf16 xs ys units utf8

-- a part of a text in two
slice-join : (text : List ℕ) (from mid to : ℕ) → from ≤ mid → mid ≤ to
    → slice_range text from to ≡ slice_range text from mid ++ slice_range text mid to
slice-join text from mid to first second =
    let sum : to - from ≡ (mid - from) + (to - mid) = omega (arith, first, second) in
    let at : from + (mid - from) ≡ mid = omega (arith, first) in
    ap (λ n. take n (drop from text)) sum ∙ take-add (mid - from) (to - mid) (drop from text)
    ∙ ap (λ rest. slice_range text from mid ++ take (to - mid) rest) (drop-drop (mid - from) from text ∙ ap (λ n. drop n text) at)

-- the units before a border are those before one that comes first, and those between
pub units_in-between : (unit : SpanUnit) (text : List ℕ) (from to : ℕ) → IsUtf8 text → IsCharBoundary text from → from ≤ to
    → units_in unit (take to text) ≡ units_in unit (take from text) + units_in unit (slice_range text from to)
units_in-between unit text from to utf8 border order =
    let sum : to ≡ from + (to - from) = omega (arith, order) in
    ap (λ n. units_in unit (take n text)) sum ∙ ap (units_in unit) (take-add from (to - from) text)
    ∙ units_in-append unit (take from text) (slice_range text from to) (IsUtf8-take text from utf8 border)

-- the units before a border, and those after it
units_in-split : (unit : SpanUnit) (text : List ℕ) (at : ℕ) → IsUtf8 text → IsCharBoundary text at
    → units_in unit (take at text) + units_in unit (drop at text) ≡ units_in unit text
units_in-split unit text at utf8 border =
    sym (units_in-append unit (take at text) (drop at text) (IsUtf8-take text at utf8 border)) ∙ ap (units_in unit) (take-append-drop at text)

-- an empty part has none
pub units_in-empty : (unit : SpanUnit) (text : List ℕ) (at : ℕ) → 0 ≡ units_in unit (slice_range text at at)
units_in-empty unit text at =
    sym (units_in-none unit (slice_range text at at) (omega (arith, length-take (at - at) (drop at text))))

-- no unit stands before a text
pub stop-first : (unit : SpanUnit) (text : List ℕ) → IsUtf8 text → IsStop unit text record { byte = 0; units = 0 }
stop-first unit text utf8 = (IsCharBoundary-start text utf8, sym (units_in-none unit [] refl))

-- past a character is a stop, where one is before it
pub stop-next : (unit : SpanUnit) (text rest : List ℕ) (stop : Stop) (c : ℕ) → IsUtf8 text → IsStop unit text stop
    → drop stop.byte text ≡ encode c ++ rest → IsStop unit text record { byte = stop.byte + len_utf8 c; units = stop.units + size_of unit c }
stop-next unit text rest stop c utf8 (border, units) is =
    let after = IsUtf8-drop text stop.byte utf8 border in
    let next : IsCharBoundary text (stop.byte + len_utf8 c) = IsCharBoundary-past_char text rest stop.byte c border.0 after is in
    let left : units_in unit (drop (stop.byte + len_utf8 c) text) ≡ units_in unit rest = ap (units_in unit) (drop_past_char text rest stop.byte c is) in (
      next,
      omega (
        arith,
        units,
        units_in-split unit text stop.byte utf8 border,
        units_in-past unit (drop stop.byte text) rest c after is,
        units_in-split unit text (stop.byte + len_utf8 c) utf8 next,
        left,
      ),
    )

-- in a part of a text, the byte before which so many units stand, counted from a border in it
pub byte_after-from : (unit : SpanUnit) (text : List ℕ) (from at to units before : ℕ) → IsUtf8 text → IsCharBoundary text from → IsCharBoundary text at
    → from ≤ at → at ≤ to → before ≡ units_in unit (slice_range text from at) → before ≤ units
    → option_map (λ byte. from + byte) (byte_after unit (slice_range text from to) units)
    ≡ option_map (λ byte. at + byte) (byte_after unit (slice_range text at to) (units - before))
byte_after-from unit text from at to units before utf8 starts stops first second counts few =
    let part = slice_range text from at in
    let rest = slice_range text at to in
    let more : units ≡ units_in unit part + (units - before) = omega (arith, counts, few) in
    let size : from + length part ≡ at = omega (arith, length-take-le (at - from) (drop from text), length-drop from text, first, stops) in
    ap (λ n. option_map (λ byte. from + byte) (byte_after unit (slice_range text from to) n)) more
    ∙ ap (λ bytes. option_map (λ byte. from + byte) (byte_after unit bytes (units_in unit part + (units - before)))) (slice-join text from at to first second)
    ∙ ap (option_map (λ byte. from + byte)) (byte_after-past unit part rest (units - before) (IsUtf8-between text from at utf8 first starts stops))
    ∙ by (byte_after unit rest (units - before)) size
  where
    by : (found : Option ℕ) → from + length (slice_range text from at) ≡ at
        → option_map (λ byte. from + byte) (option_map (λ byte. length (slice_range text from at) + byte) found) ≡ option_map (λ byte. at + byte) found
    by None size = refl
    by (Some byte) size = ap Some (omega (arith, size))
