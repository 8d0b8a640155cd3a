-- The line feeds of the text that is shown, before those that end it are taken away.
use Rattle.snippet_splice.proofs.Common.{◌≡◌, ℕ, ◌+◌, Bool, List, [], ◌∷◌, drop, map, max, min, length, refl, arith, drop_min, end_from, written_from, Edit}
use Rattle.snippet_splice.proofs.Common.{in_order, trimmed_edits, closes_line, first_start, shown_rest, shown_start, Extent, capped, extents_from, feeds_made}
use Rattle.snippet_splice.proofs.Common.{lines_over, num_replaced_lines, num_shown_lines, source_lines_shown, edit_bounds, rules}
use Rattle.snippet_splice.proofs.RangeLemmas.{feeds, feeds-append}
use Rattle.snippet_splice.proofs.WriteLemmas.{count-with_line_feeds}

-- what is written for edits has the line feeds between them and in their texts
feeds-written : (source : List ℕ) (from at : ℕ) (es : List Edit) → feeds (written_from source at es) ≡ feeds_made (extents_from source from at es)
feeds-written source from at [] = refl
feeds-written source from at (e ∷ es) = grind (arith, feeds-append, count-with_line_feeds, feeds-written source from e.end es)

-- so the text that is shown has as many lines as are counted for it
pub num_shown : (fold : Bool) (source : List ℕ) (es ts : List Edit) (start end : ℕ) (closed : Bool) (rest : List ℕ) (xs : List Extent)
    → ts ≡ trimmed_edits source es → start ≡ shown_start fold source (first_start (in_order es)) → xs ≡ extents_from source start start ts
    → end ≡ end_from start ts → closed ≡ closes_line ts → rest ≡ shown_rest fold closed (drop (min end (length source)) source)
    → capped (feeds_made xs + feeds rest + 1) ≡ num_shown_lines fold source es
unfolding num_shown_lines
num_shown fold source es ts start end closed rest xs of_ts of_start of_xs of_end of_closed of_rest = grind (arith, drop_min, feeds-written, feeds-append)

-- and the source as many as are counted for it
pub num_replaced : (fold : Bool) (source : List ℕ) (es ts : List Edit) (start : ℕ) (bounds : List (ℕ × ℕ)) (lines : ℕ) (xs : List Extent)
    → ts ≡ trimmed_edits source es → start ≡ shown_start fold source (first_start (in_order es)) → xs ≡ extents_from source start start ts
    → bounds ≡ map edit_bounds (in_order es) → lines ≡ source_lines_shown fold source start bounds
    → max (lines_over 0 xs) lines ≡ num_replaced_lines fold source es
unfolding num_replaced_lines
num_replaced fold source es ts start bounds lines xs of_ts of_start of_xs of_bounds of_lines = search rules
