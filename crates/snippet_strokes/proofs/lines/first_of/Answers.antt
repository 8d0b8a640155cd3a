use Rattle.snippet_strokes.proofs.Common.{◌≡◌, ◌∙◌, ◌-◌, ap, sym, subst, arith, ℕ, List, length, take, replicate, take-replicate}
use Rattle.snippet_strokes.proofs.Common.{length-replicate, IsCharBoundary-from_ascii, chars-IsAscii, slice_range, IsCharBoundary}
use Rattle.std.specs.Str.{chars}
use Rattle.snippet_strokes.proofs.LineLemmas.{IsAscii-replicate}
use Rattle.snippet_strokes.proofs.lines.first_of.Goals as goal

pub range-requires-clause-end_boundary : goal.range-requires-clause-end_boundary
range-requires-clause-end_boundary c =
    let strip : List ℕ = replicate 128 c.args.glyph in
    let long : length strip ≡ 128 = length-replicate {A = ℕ} 128 c.args.glyph in
    subst (λ (t : List ℕ). IsCharBoundary t c.args.count) (sym c.requires.strip)
    (IsCharBoundary-from_ascii strip c.args.count (IsAscii-replicate 128 c.args.glyph c.requires.ascii) (omega (arith, long, c.requires.within)))

pub returns : goal.returns
returns c =
    let count : c.args.count - 0 ≡ c.args.count = omega arith in
    let bytes = c.range.ensures.value ∙ ap (λ (t : List ℕ). slice_range t 0 c.args.count) c.requires.strip
    ∙ ap (λ k. take k (replicate {A = ℕ} 128 c.args.glyph)) count ∙ take-replicate c.args.count 128 c.args.glyph c.requires.within in
    record {
      value = ap chars bytes ∙ chars-IsAscii (replicate c.args.count c.args.glyph) (IsAscii-replicate c.args.count c.args.glyph c.requires.ascii);
      bytes = bytes;
    }
