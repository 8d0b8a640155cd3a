use Rattle.snippet_grid.proofs.CodeLemmas.{code_read}
use Rattle.snippet_grid.proofs.codes.SheetCodes.code_at.Goals as goal

pub returns : goal.returns
returns c = record {
  code = code_read c.self.inside.codes _ c.self.inside.sheet c.args.self.now c.args.place c.self.invariant.codes c.requires.within c.self.view_is;
}
