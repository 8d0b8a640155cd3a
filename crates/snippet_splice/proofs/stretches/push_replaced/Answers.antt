use Rattle.snippet_splice.proofs.Common.{◌≡◌, ◌∙◌, ◌+◌, ℕ, List, [], ◌∷◌, ◌++◌, Some, None, ap, arith, if◌then◌else◌}
use Rattle.snippet_splice.proofs.Common.{◌==◌, length, lit<, sym, append_assoc, on_ok_weaker, split_parts, SubstitutionHighlight, capped, taken_on}
use Rattle.snippet_splice.proofs.Common.{without_cr, slice_split, is_lf}
use Rattle.std.proofs.Common.{chars}
use Rattle.snippet_splice.proofs.StretchLemmas.{feeds_cut, feeds_whole, pieces_cut, pieces_whole, taken_cut}
use Rattle.snippet_splice.proofs.WriteLemmas.{utf8-after}
use Rattle.snippet_splice.proofs.stretches.push_replaced.Goals as goal

-- what a piece takes of line k
abbrev added : ℕ → ℕ → ℕ → ℕ → List SubstitutionHighlight
added k line start end = if line == k then record { start = start; end = end } ∷ [] else []

pub loop-piece-preserved : goal.loop-piece-preserved
loop-piece-preserved c =
    let rest = c.loop-piece.rest.now in
    let piece = c.in-Some.piece.now in
    let after = c.in-Some.after.now in
    let line : ℕ = c.loop-piece.line in
    let start : ℕ = c.loop-piece.start in
    let before : ℕ = c.loop-piece.before in
    let last : ℕ = c.args.place.now.end in
    let old = c.loop-piece.lines.items in
    let parts = split_parts 10 rest (Some (c.in-Some.piece, c.in-Some.after)) c.in-Some.ensures.cases (lit< tt) in
    let to : ℕ = capped (before + length (chars (without_cr piece))) in
    let end : c.saturating_add-end.result ≡ to = cc (c.saturating_add-end.ensures, c.char_count.ensures.value, c.without_return.ensures.value) in
    let cuts = feeds_cut rest piece after parts.0 parts.1 in
    record {
      text = utf8-after rest piece after 10 c.loop-piece.invariant.text (lit< tt) parts.0;
      whole = λ k.
          let left : added k line start to ++ taken_on k (capped (line + 1)) 0 0 last (slice_split is_lf after)
          ≡ taken_on k line before start last (slice_split is_lf rest) = sym
          (ap (taken_on k line before start last) (pieces_cut rest piece after parts.0 parts.1) ∙ taken_cut k line before start last piece after) in
          rw (c.saturating_add-line.ensures, c.in_ok-push_stretch.ensures.value k, end, append_assoc, left) (c.loop-piece.invariant.whole k);
      lines = omega (arith, c.loop-piece.invariant.lines, c.in_ok-push_stretch.ensures.lines, c.saturating_add-line.ensures);
    }

pub returns : goal.returns
returns c =
    let rest = c.loop-piece.rest.now in
    let line : ℕ = c.loop-piece.line in
    let start : ℕ = c.loop-piece.start in
    let before : ℕ = c.loop-piece.before in
    let last : ℕ = c.args.place.now.end in
    let old = c.loop-piece.lines.items in
    let none = split_parts 10 rest None c.in_default.ensures.cases (lit< tt) in
    record {
      value = on_ok_weaker c.push_stretch-2.result (λ adds k. rw (adds k) (rw (pieces_whole rest none) at (c.loop-piece.invariant.whole k)))
          c.push_stretch-2.ensures.value;
      lines = on_ok_weaker c.push_stretch-2.result (λ more. omega (arith, more, c.loop-piece.invariant.lines, feeds_whole rest none))
          c.push_stretch-2.ensures.lines;
    }
