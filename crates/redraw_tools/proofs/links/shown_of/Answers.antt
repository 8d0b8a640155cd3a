use Rattle.std.proofs.Common.{◌≡◌, ◌++◌, ◌+◌, encode_utf8_all, drop, string_bytes, ap, sym, ◌∙◌, arith}
use Rattle.std.proofs.lemmas.List.{append-nil, at_drop_all}
use Rattle.redraw_tools.specs.Links.{without_links}
use Rattle.redraw_tools.proofs.LinkLemmas.{without_links-nil, one-taken, piece-added}
use Rattle.redraw_tools.proofs.links.shown_of.Goals as goal
use Rattle.redraw_tools.proofs.links.shown_of.Goals.{then-taken-gt0, else-taken-gt0+in_ok-taken}

pub loop-at-preserved : goal.loop-at-preserved
loop-at-preserved c =
    let cs = c.args.written.now in
    let at = c.loop-at.at in
    let before = string_bytes c.loop-at.text in
    elim c.if-taken-gt0.branch [
      | then-taken-gt0 w ↦
          ap (λ t. string_bytes t ++ encode_utf8_all (without_links c.if-taken-gt0.taken (drop (at + 1) cs))) w.text-is
          ∙ ap (λ xs. before ++ encode_utf8_all xs) (one-taken cs at c.loop-at.taken c.if-taken-gt0.taken (omega arith)
          (omega (arith, w.taken-is, w.if-taken-gt0.true)))
          ∙ c.loop-at.invariant
      | else-taken-gt0+in_ok-taken w ↦
          let none : 0 ≡ c.loop-at.taken = omega (arith, w.if-taken-gt0.false) in
          piece-added cs before (string_bytes c.if-taken-gt0.text) (encode_utf8_all (without_links 0 cs)) at c.if-taken-gt0.taken (omega arith)
          (ap string_bytes w.text-is ∙ w.in_ok-taken.ensures.added)
          (w.taken-is ∙ w.in_ok-taken.ensures.more)
          (ap (λ n. before ++ encode_utf8_all (without_links n (drop at cs))) none ∙ c.loop-at.invariant)
    ]

pub returns : goal.returns
returns c =
    let cs = c.args.written.now in
    let text = string_bytes c.loop-at.text in
    record {
      value = sym (append-nil text)
          ∙ ap (λ xs. text ++ encode_utf8_all xs) (sym
          (at_drop_all (without_links c.loop-at.taken) cs c.loop-at.at (omega arith) ∙ without_links-nil c.loop-at.taken))
          ∙ c.loop-at.invariant;
    }
