-- The texts so far are those of the pages so far.
use Rattle.annotate_snippets.proofs.Common.{◌≡◌, map}
use Rattle.annotate_snippets.proofs.renderer.pages.texts_of.Given as goal

abbrev pub invariant-loop-page : goal.invariant-loop-page
invariant-loop-page l = l.texts.items ≡ map (λ page. page.text) l.yielded
