use Rattle.snippet_grid.proofs.Common.{refl}
use Rattle.snippet_grid.proofs.CutLemmas.{IsPart-cut}
use Rattle.snippet_grid.proofs.runs.clipped.Goals as goal

pub returns : goal.returns
returns c =
    record {
      part = IsPart-cut c.args.text.now c.args.run.now _ c.args.from c.args.to c.byte_in-skipped.result c.byte_in-kept.result c.utf8.text
          c.requires.run c.requires.low c.requires.some c.requires.high c.byte_in-skipped.ensures.value c.byte_in-kept.ensures.value refl refl refl refl
          refl refl refl;
    }
