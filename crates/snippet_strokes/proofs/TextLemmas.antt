-- The characters of labels, stems and their feet: they are few, and none is listed.
use Rattle.snippet_strokes.proofs.Common.{◌≡◌, false, ℕ, ◌<◌, ◌^◌, List, length, map, get_or, arith}
use Rattle.snippet_strokes.proofs.Common.{All, IfSome, Option, Some, None, LineAnnotation, list_any-norm, shifted, All-nil}
use Rattle.snippet_strokes.proofs.Common.{All-map, is_listed, norm, each_fails, norm_short, label_chars, label_text}
use Rattle.std.specs.Str.{chars}

-- a label's characters aren't listed
pub free_label_text : (e : LineAnnotation) → All (λ c. is_listed c ≡ false) (label_text e)
free_label_text e = text_free e.label
  where
    text_free : (label : Option (List ℕ)) → All (λ c. is_listed c ≡ false) (label_chars label)
    text_free None = All-nil (λ c. is_listed c ≡ false)
    text_free (Some label) = each_fails is_listed (norm (chars label)) (list_any-norm (chars label))

-- a label that fits is short as it is shown, wherever its entry stands
pub label_short : (e : LineAnnotation) → IfSome e.label (λ t. length t < 2 ^ 56) → length (label_text e) < 2 ^ 58
label_short e fits = grind (arith, norm_short)

-- the labels of entries are short also where these are shifted
pub labels_short : (dropped : ℕ) (es : List LineAnnotation) → All (λ e. IfSome e.label (λ t. length t < 2 ^ 56)) es
    → All (λ e. length (label_text e) < 2 ^ 58) (map (shifted dropped) es)
labels_short dropped es fit =
    All-map (λ (e : LineAnnotation). length (label_text e) < 2 ^ 58) (shifted dropped) es (λ k d within. label_short (get_or es k d) (fit k d within))
