use Rattle.std.proofs.Common.{arith}
use Rattle.std.proofs.lemmas.Grind.{common_steps}
use Rattle.annotate_snippets.proofs.Common.{◌≡◌, ◌&&◌, not, false, refl, option_copied, option_map, ContextWalk, element_of}
use Rattle.annotate_snippets.proofs.ContextLemmas.{has_file, walk_around, walk_on}
use Rattle.annotate_snippets.proofs.renderer.element_context.ContextWalk.pass.Goals.{then-self, else-self}
use Rattle.annotate_snippets.proofs.renderer.element_context.ContextWalk.pass.Goals as goal

pub returns-clause-around : goal.returns-clause-around
returns-clause-around c = λ es i at here then.
    walk_around _ _ es i _ _ _ _ _ _ at here then c.start_of.ensures.value c.shares_row-shared.ensures.value c.following.ensures.value

pub returns-clause-walked : goal.returns-clause-walked
returns-clause-walked c = λ es i at here then.
    let e = element_of c.args.element.now in
    let walk : ContextWalk = c.args.self.now in
    let new : ContextWalk = record { first = false; primary = c.if-self.self; shares = c.shares_row-shared.result } in
    let primary : c.if-self.self ≡ (walk.primary && not (has_file e)) = grind (arith, common_steps, then-self, e, else-self, c.if-self.branch) in
    walk_on es i walk new e (option_map element_of (option_copied c.args.after)) at here then refl primary c.shares_row-shared.ensures.value
