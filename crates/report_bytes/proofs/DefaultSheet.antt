-- The bytes of the default sheet.
use Rattle.std.proofs.Common.{◌≡◌, ℕ, true, eqb, List, [], ◌++◌, drop, length, take, take-append-drop, refl, sym, ap, ◌∙◌}
use Rattle.std.proofs.lemmas.Bool.Decides.{Decides-eqb}
use Rattle.std.proofs.lemmas.Slice.Eq.{slice_eq-Decides}
use lib.Pointwise.{pointwise}
use Rattle.std.specs.Borrow.{Bor}
use Rattle.std.specs.Option.{MatchOption}
use Rattle.std.specs.Prelude.{IfSome, ◌+◌, false, Option, Some, None}
use Rattle.snippet_style.specs.Stylesheet.{default_sheet}
use Rattle.report_bytes.specs.Bytes.{sheet_then}

abbrev default_bytes : List ℕ
default_bytes = sheet_then default_sheet []

-- bytes that begin with them, and what is left, are those of the default sheet and then what is left
default_spelled : (bytes rest : List ℕ) → pointwise eqb (take (length default_bytes) bytes) default_bytes ≡ true
    → rest ≡ drop (length default_bytes) bytes → bytes ≡ sheet_then default_sheet rest
default_spelled bytes rest equal left =
    let front : take (length default_bytes) bytes ≡ default_bytes =
    (slice_eq-Decides Decides-eqb (take (length default_bytes) bytes) default_bytes _ refl).0 equal in
    sym (take-append-drop (length default_bytes) bytes) ∙ ap (λ front. front ++ drop (length default_bytes) bytes) front
    ∙ ap (λ rest. default_bytes ++ rest) (sym left)

-- what is left once they are stripped from bytes
pub after_default : (bytes : List ℕ) (r : Option (Bor (List ℕ)))
    → MatchOption r (pointwise eqb (take (length default_bytes) bytes) default_bytes ≡ false)
    (λ x. (pointwise eqb (take (length default_bytes) bytes) default_bytes ≡ true) × (x.now ≡ drop (length default_bytes) bytes)
    × (length x.now + length default_bytes ≡ length bytes)) → IfSome r (λ rest. bytes ≡ sheet_then default_sheet rest.now)
after_default bytes None h = tt
after_default bytes (Some x) h = default_spelled bytes x.now h.0 h.1
