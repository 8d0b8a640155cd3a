use Rattle.snippet_grid.proofs.CodeLemmas.{code_read, plain_from_code, styled_from_code}
use Rattle.snippet_grid.proofs.codes.SheetCodes.is_plain.Goals as goal

pub returns-in-Nothing : goal.returns-in-Nothing
returns-in-Nothing c =
    let code = code_read c.self.inside.codes _ c.self.inside.sheet c.args.self.now c.args.place c.self.invariant.codes c.requires.within c.self.view_is in
    record { value = plain_from_code _ _ code c.in-Nothing.is }

pub returns-in_default : goal.returns-in_default
returns-in_default c =
    let code = code_read c.self.inside.codes _ c.self.inside.sheet c.args.self.now c.args.place c.self.invariant.codes c.requires.within c.self.view_is in
    record { value = styled_from_code _ _ code c.in_default.not-Nothing }
