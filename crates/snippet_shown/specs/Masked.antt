-- Controls that are masked: characters that could change how a terminal shows the text around them, and that are drawn as they are elsewhere.
use Rattle.std.specs.Prelude.{◌≡◌, ℕ, nat_lt, Bool, true, false, List, chars, if◌then◌else◌, map}
use Rattle.std.specs.Cow.{cow_str_bytes}
use Rattle.std.specs.List.{AllZip}
use Rattle.std.specs.declared.alloc.Global.{Global}
use Rattle.std.specs.declared.borrow.CowStr.{CowStr}
use Rattle.snippet_lines.specs.Controls.{is_masked}
use Rattle.snippet_text.specs.Normalized.{norm}

-- what stands in the place of a character: of one that is masked a sign of as many bytes, U+00A4 for two and U+FFFD for three, and of any
-- other the character itself
abbrev pub mask_of : ℕ → ℕ
mask_of c = if is_masked c then (if nat_lt c 0x800 then 0xA4 else 0xFFFD) else c

-- a text with its controls masked: as many characters, of as many bytes each
abbrev pub masked : List ℕ → List ℕ
masked cs = map mask_of cs

-- the text that stands in the place of one that is trusted or not: in a trusted one the listed characters are shown as they are in others
abbrev pub masked_in : Bool → List ℕ → List ℕ
masked_in true cs = norm (masked cs)
masked_in false cs = masked cs

-- the second text stands in the place of the first, which is trusted or not
abbrev pub IsTextMasked : Bool → CowStr Global → CowStr Global → Type 0
IsTextMasked trusted a b = chars (cow_str_bytes b) ≡ masked_in trusted (chars (cow_str_bytes a))

-- what a byte says of its place: one of ASCII is itself, and of a longer character one that goes on with it or one that begins it
abbrev pub byte_class : ℕ → ℕ
byte_class b = if nat_lt b 0x80 then b else if nat_lt b 0xC0 then 0x80 else 0xC0

-- texts of as many bytes, in which the same stand of ASCII, and longer characters begin at the same
abbrev pub IsAligned : List ℕ → List ℕ → Type 0
IsAligned a b = AllZip (λ x y. byte_class y ≡ byte_class x) a b

-- the second text stands in the place of the first, which isn't trusted, byte by byte: lines, spans and edits stay
abbrev pub IsMaskedInPlace : CowStr Global → CowStr Global → Type 0
IsMaskedInPlace a b = IsTextMasked false a b × IsAligned (cow_str_bytes a) (cow_str_bytes b)
