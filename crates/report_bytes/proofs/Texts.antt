-- UTF-8 as a test.
use Rattle.std.proofs.Common.{◌≡◌, ℕ, true, false, List}
use Rattle.std.specs.Str.{IsUtf8, is_utf8}
use Rattle.std.proofs.lemmas.Bool.{false_from_ne_true}
use Rattle.std.proofs.lemmas.Str.{IsUtf8-from_is_utf8, is_utf8-from_IsUtf8}

-- bytes that are a text pass it
pub a_text : (bytes : List ℕ) → IsUtf8 bytes → is_utf8 bytes ≡ true
a_text bytes utf8 = is_utf8-from_IsUtf8 bytes utf8

-- bytes that are no text don't pass it
pub no_text : (bytes : List ℕ) → (IsUtf8 bytes → ⊥) → is_utf8 bytes ≡ false
no_text bytes none = false_from_ne_true (is_utf8 bytes) (λ passes. none (IsUtf8-from_is_utf8 bytes passes))
