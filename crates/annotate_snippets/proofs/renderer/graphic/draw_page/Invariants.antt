-- The grid is empty, and the sink took up the groups so far.
use Rattle.annotate_snippets.proofs.Common.{◌≡◌, [], length, take, true, graphic_form, Takes}
use Rattle.annotate_snippets.proofs.renderer.graphic.draw_page.Given as goal

abbrev pub invariant-loop-i : goal.invariant-loop-i
invariant-loop-i g l =
    record {
      empty : l.buffer ≡ [];
      taken : Takes g.S.PageSink.took true (take (length l.yielded) (graphic_form l.fn.renderer l.fn.groups)) l.initial.sink l.sink;
    }
