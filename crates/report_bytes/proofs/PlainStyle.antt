-- Ten bytes 0 are the plain style.
use Rattle.std.proofs.Common.{◌≡◌, ℕ, List, ◌∷◌, Result, Ok, refl, ap, ◌∙◌}
use Rattle.snippet_style.specs.Style.{plain_style}
use Rattle.report_bytes.specs.Bytes.{style_then}
use Rattle.report_bytes.specs.Reading.{after_effects, after_option, after_style}
use Rattle.report_bytes.specs.declared.fault.ByteFault.{ByteFault}

abbrev ok : List ℕ → Result (List ℕ) ByteFault
ok x = Ok x

plain_read : (rest : List ℕ) → after_style (0 ∷ 0 ∷ 0 ∷ 0 ∷ 0 ∷ 0 ∷ 0 ∷ 0 ∷ 0 ∷ 0 ∷ rest) ≡ ok rest
unfolding after_style after_option after_effects
plain_read rest = refl

-- bytes that begin with the plain style are read as it
pub plain_left : (bytes rest : List ℕ) → bytes ≡ style_then plain_style rest → after_style bytes ≡ ok rest
plain_left bytes rest begins = ap after_style begins ∙ plain_read rest
