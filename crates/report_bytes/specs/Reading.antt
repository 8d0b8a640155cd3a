-- Reading a report from bytes, from left to right: what is left once a thing is read, or the first fault that is met.
use Rattle.std.specs.Prelude.{◌≡◌, ℕ, zero, suc, ◌^◌, ◌-◌, ◌&&◌, Bool, true, false, List, [], ◌∷◌, length, take, drop, Result, Ok, Err, ◌==◌, nat_lt}
use Rattle.std.specs.Prelude.{if◌then◌else◌}
use Rattle.std.specs.Int.{w64, from_le_bytes}
use Rattle.std.specs.Str.{is_utf8}
use Rattle.report_bytes.specs.declared.fault.ByteFault.{ByteFault}
use Rattle.report_bytes.specs.declared.fault.Wrong.{Wrong}
use Rattle.report_bytes.specs.declared.fault.Wrong.TheVariants.{Short, Flag, Kind, Long, NotText}
use Rattle.report_bytes.specs.declared.fault.ReadError.{ReadError}
use Rattle.report_bytes.specs.declared.fault.ReadError.TheVariants as errors

infixl 10 ◌>>=◌
-- the next step, where there was no fault
abbrev pub ◌>>=◌ : {A B : Type 0} → Result A ByteFault → (A → Result B ByteFault) → Result B ByteFault
(Ok x) >>= f = f x
(Err e) >>= f = Err e

-- what is wrong where these bytes are left
abbrev pub fault_at : Wrong → List ℕ → ByteFault
fault_at wrong left = record { wrong = wrong; left = length left }

-- an error is the one that reading meets, unless memory ran out
abbrev pub Fails : {Y : Type 0} → ReadError → Result Y ByteFault → Type 0
Fails errors.Memory read = Unit {0}
Fails (errors.Fault fault) read = read ≡ Err fault

-- what a function returned, seen by view, is what reading gives, unless memory ran out
abbrev pub Gives : {X Y : Type 0} → (X → Y) → Result X ReadError → Result Y ByteFault → Type 0
Gives view (Ok x) read = read ≡ Ok (view x)
Gives view (Err e) read = Fails e read

-- ---- numbers, texts, what may be missing, lists. Those that give something give it with the bytes that are left

abbrev pub read_number : List ℕ → Result (ℕ × List ℕ) ByteFault
read_number bytes =
    if nat_lt (length bytes) 8 then Err (fault_at Short bytes) else Ok (from_le_bytes w64 (take 8 bytes), drop 8 bytes)

abbrev pub after_number : List ℕ → Result (List ℕ) ByteFault
after_number bytes = read_number bytes >>= λ n. Ok n.1

-- one byte, which is below a bound
abbrev pub read_kind : ℕ → List ℕ → Result (ℕ × List ℕ) ByteFault
read_kind bound [] = Err (fault_at Short [])
read_kind bound (byte ∷ rest) = if nat_lt byte bound then Ok (byte, rest) else Err (fault_at Kind (byte ∷ rest))

abbrev pub after_kind : ℕ → List ℕ → Result (List ℕ) ByteFault
after_kind bound bytes = read_kind bound bytes >>= λ k. Ok k.1

abbrev pub read_flag : List ℕ → Result (Bool × List ℕ) ByteFault
read_flag [] = Err (fault_at Short [])
read_flag (zero ∷ rest) = Ok (false, rest)
read_flag (suc zero ∷ rest) = Ok (true, rest)
read_flag (suc (suc byte) ∷ rest) = Err (fault_at Flag (suc (suc byte) ∷ rest))

abbrev pub after_flag : List ℕ → Result (List ℕ) ByteFault
after_flag bytes = read_flag bytes >>= λ f. Ok f.1

-- the bytes of a text of this length, and what is left after it
abbrev pub read_text_of : ℕ → List ℕ → Result (List ℕ × List ℕ) ByteFault
read_text_of count bytes =
    if nat_lt (length bytes) count then Err (fault_at Short bytes)
    else if nat_lt count (2 ^ 56) then (if is_utf8 (take count bytes) then Ok (take count bytes, drop count bytes) else Err (fault_at NotText bytes))
    else Err (fault_at Long bytes)

abbrev pub read_text : List ℕ → Result (List ℕ × List ℕ) ByteFault
read_text bytes = read_number bytes >>= λ n. read_text_of n.0 n.1

unfoldable pub after_text : List ℕ → Result (List ℕ) ByteFault
after_text bytes = read_text bytes >>= λ t. Ok t.1

unfoldable pub after_option : (List ℕ → Result (List ℕ) ByteFault) → List ℕ → Result (List ℕ) ByteFault
after_option after bytes = read_flag bytes >>= λ f. if f.0 then after f.1 else Ok f.1

unfoldable pub after_members : (List ℕ → Result (List ℕ) ByteFault) → ℕ → List ℕ → Result (List ℕ) ByteFault
after_members after zero bytes = Ok bytes
after_members after (suc n) bytes = after bytes >>= λ rest. after_members after n rest

unfoldable pub after_list : (List ℕ → Result (List ℕ) ByteFault) → List ℕ → Result (List ℕ) ByteFault
after_list after bytes = read_number bytes >>= λ n. after_members after n.0 n.1

-- ---- settings and sheets

-- the number 1, which a switch has that is on
abbrev pub after_one : List ℕ → Result (List ℕ) ByteFault
after_one bytes = read_number bytes >>= λ n. if n.0 == 1 then Ok n.1 else Err (fault_at Flag bytes)

-- the switch of a kind, where so many are left and it is the next: how many are left after it, and what
abbrev pub after_switch : ℕ → ℕ → List ℕ → Result (ℕ × List ℕ) ByteFault
after_switch kind count [] = Ok (count, [])
after_switch kind count (byte ∷ rest) =
    if nat_lt 0 count && byte == kind then (after_one rest >>= λ rest. Ok (count - 1, rest)) else Ok (count, byte ∷ rest)

-- those that came after the other settings, each at most once, and none that isn't known
unfoldable pub after_later : List ℕ → Result (List ℕ) ByteFault
after_later bytes = do
  n ← read_number bytes
  masks ← after_switch 0 n.0 n.1
  lines ← after_switch 1 masks.0 masks.1
  if lines.0 == 0 then Ok lines.1 else after_kind 0 lines.1

unfoldable pub after_settings : List ℕ → Result (List ℕ) ByteFault
after_settings bytes = do
  rest ← after_flag bytes
  rest ← after_flag rest
  rest ← after_number rest
  rest ← after_kind 2 rest
  rest ← after_flag rest
  rest ← after_flag rest
  rest ← after_flag rest
  rest ← after_flag rest
  rest ← after_number rest
  rest ← after_number rest
  rest ← after_flag rest
  after_later rest

-- one byte of a colour
abbrev pub after_byte : List ℕ → Result (List ℕ) ByteFault
after_byte [] = Err (fault_at Short [])
after_byte (byte ∷ rest) = Ok rest

abbrev pub after_color_of : ℕ → List ℕ → Result (List ℕ) ByteFault
after_color_of zero bytes = after_kind 16 bytes
after_color_of (suc zero) bytes = after_byte bytes
after_color_of (suc (suc kind)) bytes = after_byte bytes >>= λ rest. after_byte rest >>= after_byte

unfoldable pub after_color : List ℕ → Result (List ℕ) ByteFault
after_color bytes = read_kind 3 bytes >>= λ k. after_color_of k.0 k.1

unfoldable pub after_effects : List ℕ → Result (List ℕ) ByteFault
after_effects bytes = do
  rest ← after_flag bytes
  rest ← after_flag rest
  rest ← after_flag rest
  rest ← after_flag rest
  rest ← after_flag rest
  rest ← after_flag rest
  rest ← after_flag rest
  after_flag rest

unfoldable pub after_style : List ℕ → Result (List ℕ) ByteFault
after_style bytes = do
  rest ← after_option after_color bytes
  rest ← after_option after_color rest
  after_effects rest

-- the styles of the five levels
unfoldable pub after_levels : List ℕ → Result (List ℕ) ByteFault
after_levels bytes = do
  rest ← after_style bytes
  rest ← after_style rest
  rest ← after_style rest
  rest ← after_style rest
  after_style rest

-- the six other styles
unfoldable pub after_parts : List ℕ → Result (List ℕ) ByteFault
after_parts bytes = do
  rest ← after_style bytes
  rest ← after_style rest
  rest ← after_style rest
  rest ← after_style rest
  rest ← after_style rest
  after_style rest

unfoldable pub after_sheet : List ℕ → Result (List ℕ) ByteFault
after_sheet bytes = do
  rest ← after_levels bytes
  after_parts rest

-- ---- groups

abbrev pub after_name_of : ℕ → List ℕ → Result (List ℕ) ByteFault
after_name_of zero bytes = Ok bytes
after_name_of (suc zero) bytes = Ok bytes
after_name_of (suc (suc kind)) bytes = after_text bytes

unfoldable pub after_name : List ℕ → Result (List ℕ) ByteFault
after_name bytes = read_kind 3 bytes >>= λ k. after_name_of k.0 k.1

unfoldable pub after_level : List ℕ → Result (List ℕ) ByteFault
after_level bytes = do
  rest ← after_name bytes
  after_kind 5 rest

unfoldable pub after_id : List ℕ → Result (List ℕ) ByteFault
after_id bytes = do
  rest ← after_option after_text bytes
  after_option after_text rest

unfoldable pub after_title : List ℕ → Result (List ℕ) ByteFault
after_title bytes = do
  rest ← after_level bytes
  rest ← after_option after_id rest
  rest ← after_text rest
  after_flag rest

unfoldable pub after_message : List ℕ → Result (List ℕ) ByteFault
after_message bytes = do
  rest ← after_level bytes
  after_text rest

unfoldable pub after_span : List ℕ → Result (List ℕ) ByteFault
after_span bytes = do
  rest ← after_number bytes
  after_number rest

unfoldable pub after_annotation : List ℕ → Result (List ℕ) ByteFault
after_annotation bytes = do
  rest ← after_span bytes
  rest ← after_option after_text rest
  rest ← after_kind 3 rest
  after_flag rest

unfoldable pub after_patch : List ℕ → Result (List ℕ) ByteFault
after_patch bytes = do
  rest ← after_span bytes
  after_text rest

-- the number of one of so many sources that are kept
abbrev pub after_kept : ℕ → List ℕ → Result (List ℕ) ByteFault
after_kept kept bytes = read_number bytes >>= λ n. if nat_lt n.0 kept then Ok n.1 else Err (fault_at Kind bytes)

abbrev pub after_source_of : ℕ → ℕ → List ℕ → Result (List ℕ) ByteFault
after_source_of kept zero bytes = after_text bytes
after_source_of kept (suc kind) bytes = after_kept kept bytes

-- a source, where so many are kept
unfoldable pub after_source : ℕ → List ℕ → Result (List ℕ) ByteFault
after_source kept bytes = read_kind 2 bytes >>= λ k. after_source_of kept k.0 k.1

-- a snippet, by what is left after one of its markers
unfoldable pub after_snippet : (List ℕ → Result (List ℕ) ByteFault) → ℕ → List ℕ → Result (List ℕ) ByteFault
after_snippet after kept bytes = do
  rest ← after_option after_text bytes
  rest ← after_number rest
  rest ← after_source kept rest
  rest ← after_list after rest
  rest ← after_flag rest
  after_flag rest

unfoldable pub after_origin : List ℕ → Result (List ℕ) ByteFault
after_origin bytes = do
  rest ← after_text bytes
  rest ← after_option after_number rest
  after_option after_number rest

abbrev pub after_element_of : ℕ → ℕ → List ℕ → Result (List ℕ) ByteFault
after_element_of kept zero bytes = after_message bytes
after_element_of kept (suc zero) bytes = after_snippet after_annotation kept bytes
after_element_of kept (suc (suc zero)) bytes = after_snippet after_patch kept bytes
after_element_of kept (suc (suc (suc zero))) bytes = after_origin bytes
after_element_of kept (suc (suc (suc (suc kind)))) bytes = Ok bytes

unfoldable pub after_element : ℕ → List ℕ → Result (List ℕ) ByteFault
after_element kept bytes = read_kind 5 bytes >>= λ k. after_element_of kept k.0 k.1

unfoldable pub after_group : ℕ → List ℕ → Result (List ℕ) ByteFault
after_group kept bytes = do
  rest ← after_kind 5 bytes
  rest ← after_option after_title rest
  after_list (after_element kept) rest
