use Rattle.snippet_splice.proofs.Common.{◌≡◌, ◌∙◌, ◌+◌, ℕ, List, [], ◌∷◌, ◌++◌, Some, None, ap, arith, if◌then◌else◌}
use Rattle.snippet_splice.proofs.Common.{◌==◌, count_by, lit<, sym, append_assoc, is_lf, append-nil, split_parts, SubstitutionHighlight, capped, pieces_on}
use Rattle.snippet_splice.proofs.Common.{stretch_width, slice_split}
use Rattle.snippet_splice.proofs.StretchLemmas.{feeds_cut, feeds_whole, pieces_cut, pieces_whole}
use Rattle.snippet_splice.proofs.WriteLemmas.{utf8-after}
use Rattle.snippet_splice.proofs.stretches.push_pieces.Goals as goal

-- what a piece adds to line k
abbrev added : ℕ → ℕ → ℕ → ℕ → List SubstitutionHighlight
added k line start end = if line == k then record { start = start; end = end } ∷ [] else []

pub loop-piece-preserved : goal.loop-piece-preserved
loop-piece-preserved c =
    let rest = c.loop-piece.rest.now in
    let piece = c.in-Some.piece.now in
    let after = c.in-Some.after.now in
    let line : ℕ = c.loop-piece.line in
    let start : ℕ = c.loop-piece.start in
    let old = c.loop-piece.lines.items in
    let parts = split_parts 10 rest (Some (c.in-Some.piece, c.in-Some.after)) c.in-Some.ensures.cases (lit< tt) in
    let end : c.saturating_add-end.result ≡ capped (start + stretch_width piece) = cc (c.saturating_add-end.ensures, c.stretch_width.ensures.value) in
    let cuts = feeds_cut rest piece after parts.0 parts.1 in
    record {
      text = utf8-after rest piece after 10 c.loop-piece.invariant.text (lit< tt) parts.0;
      whole = λ k.
          let left : added k line start (capped (start + stretch_width piece)) ++ pieces_on k (capped (line + 1)) 0 (slice_split is_lf after)
          ≡ pieces_on k line start (slice_split is_lf rest) = ap (pieces_on k line start) (sym (pieces_cut rest piece after parts.0 parts.1)) in
          rw (c.saturating_add-line.ensures, c.in_ok-push_stretch.ensures.value k, end, append_assoc, left) (c.loop-piece.invariant.whole k);
      lines = omega (arith, c.loop-piece.invariant.lines, c.in_ok-push_stretch.ensures.lines, c.saturating_add-line.ensures);
      begun = λ none. absurd (omega (arith, none, ap (count_by is_lf) (c.loop-piece.invariant.begun none).1, feeds_cut rest piece after parts.0 parts.1));
    }

pub returns : goal.returns
returns c =
    let rest = c.loop-piece.rest.now in
    let line : ℕ = c.loop-piece.line in
    let start : ℕ = c.loop-piece.start in
    let old = c.loop-piece.lines.items in
    let none = split_parts 10 rest None c.in_default.ensures.cases (lit< tt) in
    let end : c.saturating_add-end-2.result ≡ capped (start + stretch_width rest) = cc (c.saturating_add-end-2.ensures, c.stretch_width-2.ensures.value) in
    record {
      value = λ k. rw (c.in_ok-push_stretch-2.ensures.value k, end) (rw (pieces_whole rest none, append-nil) at (c.loop-piece.invariant.whole k));
      lines = omega (arith, c.in_ok-push_stretch-2.ensures.lines, c.loop-piece.invariant.lines, feeds_whole rest none);
      end = λ one. let same = c.loop-piece.invariant.begun one in
          end ∙ ap (λ n. capped (n + stretch_width rest)) same.0 ∙ ap (λ t. capped (c.args.from + stretch_width t)) same.1;
    }
