-- Messages that were looked for in a text, and how it shows them.
use Rattle.std.proofs.lemmas.Grind.{common_steps}
use Rattle.std.proofs.Common.{◌≡◌, ◌∙◌, ℕ, List, Some, String, ap, cond, string_bytes, sym, arith}
use Rattle.std.specs.BTreeMap.{BTreeMap, get_by_text, is_at}
use Rattle.std.specs.Global.{Global}
use Rattle.std.specs.Cmp.Lexicographic.{slice_cmp}
use Rattle.std.specs.Map.{lookup}
use Rattle.std.specs.Option.{ForSome}
use Rattle.std.specs.Ordering.{nat_cmp}
use Rattle.std.specs.Str.{bytes_eq}
use Rattle.std.proofs.lemmas.Slice.Eq.{bytes_eq-Decides}
use Rattle.redraw_read.specs.Rendered.{way, way_of}
use Rattle.redraw_read.specs.declared.rendered.Manner.{Manner}

-- one more that is shown so is known with the others
pub known_push : (text : List ℕ) (old new : BTreeMap (String Global) Manner) (message : List ℕ) (manner : Manner) → way_of manner ≡ way message text
    → ((m : List ℕ) → ForSome (get_by_text old m) (λ x. way_of x ≡ way m text))
    → ((m : List ℕ) → get_by_text new m ≡ cond (bytes_eq message m) (Some manner) (get_by_text old m))
    → (m : List ℕ) (x : Manner) → get_by_text new m ≡ Some x → way_of x ≡ way m text
known_push text old new message manner shown before updates m x is = grind (arith, common_steps, bytes_eq-Decides, updates m)

-- the same entries are known as well
pub known_kept : (text : List ℕ) (old new : BTreeMap (String Global) Manner) → new.entries ≡ old.entries
    → ((m : List ℕ) → ForSome (get_by_text old m) (λ x. way_of x ≡ way m text)) → (m : List ℕ) (x : Manner) → get_by_text new m ≡ Some x
    → way_of x ≡ way m text
known_kept text old new same before m x is =
    before m x (ap (lookup (is_at (λ (k : String Global). slice_cmp nat_cmp m (string_bytes k)))) (sym same) ∙ is)
