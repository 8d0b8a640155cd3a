use Rattle.snippet_labels.proofs.Common.{◌∙◌, ℕ, List, ap, arith, chars, encode_utf8_all, pieces_width, length, length_push, lit<, map, map_push}
use Rattle.snippet_labels.proofs.Common.{◌==◌, max, lines_at, lines_at-chars, length-map, map-map, sym, YieldsList-from_str_split, YieldsList-end}
use Rattle.snippet_labels.proofs.Common.{YieldsList-turn}
use Rattle.snippet_labels.proofs.PieceLemmas.{pieces_width-push}
use Rattle.std.specs.Borrow.{Bor}
use Rattle.std.proofs.lemmas.List.Splits.{length-slice_split}
use Rattle.std.proofs.lemmas.List.Sums.{count_by-le-length}
use Rattle.snippet_labels.proofs.drawn_label.lines_size.Goals as goal

pub with_line-size-requires-clause-more : goal.with_line-size-requires-clause-more
with_line-size-requires-clause-more c =
    let turn = YieldsList-turn (YieldsList-from_str_split 10 c.args.text.now (lit< tt) (cc) (cc) (cc)) c.loop-line.yielded _ c.loop-line.yielded_by _ _ _
    c.in-Some.is c.next.ensures.steps in
    omega (
      arith,
      turn.0,
      length-slice_split (λ b. b == 10) c.args.text.now,
      count_by-le-length (λ b. b == 10) c.args.text.now,
      c.requires.few,
      c.loop-line.invariant.height,
    )

pub loop-line-preserved : goal.loop-line-preserved
loop-line-preserved c =
    let spelled : Bor (List ℕ) → List ℕ = λ line. chars line.now in
    record {
      width = c.with_line-size.ensures.width ∙ ap (λ w. max w (length (encode_utf8_all (chars c.in-Some.line.now)))) c.loop-line.invariant.width
          ∙ sym (pieces_width-push (map spelled c.loop-line.yielded) (chars c.in-Some.line.now))
          ∙ ap pieces_width (sym (map_push spelled c.loop-line.yielded c.in-Some.line));
      height = omega (arith, c.with_line-size.ensures.height, c.loop-line.invariant.height, length_push c.loop-line.yielded c.in-Some.line);
      few = c.with_line-size.ensures.few;
    }

pub returns : goal.returns
returns c =
    let all = YieldsList-end (YieldsList-from_str_split 10 c.args.text.now (lit< tt) (cc) (cc) (cc)) c.loop-line.yielded _ c.loop-line.yielded_by _ _
    c.in-None.is c.next.ensures.steps in
    let pieces = ap (map chars) all.0 ∙ lines_at-chars c.args.text.now c.utf8.text in
    record {
      size = record {
        width = c.loop-line.invariant.width ∙ ap pieces_width (sym (map-map chars (λ line. line.now) c.loop-line.yielded) ∙ pieces);
        height = c.loop-line.invariant.height ∙ all.1 ∙ sym (length-map (lines_at c.args.text.now) chars)
            ∙ ap length (lines_at-chars c.args.text.now c.utf8.text);
        few = c.loop-line.invariant.few;
      };
    }
