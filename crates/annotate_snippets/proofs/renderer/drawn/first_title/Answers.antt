use Rattle.annotate_snippets.proofs.Common.{◌≡◌, ◌∙◌, List, Err, Ok, Result, Some, ap, sym, slice_get, option_copied, IfOk, AllocError, Group}
use Rattle.annotate_snippets.proofs.Common.{Title, IsShortForm, short_form, Renderer, ShortForm}
use Rattle.annotate_snippets.proofs.FaultLemmas.{first-there, title-there}
use Rattle.annotate_snippets.proofs.renderer.drawn.first_title.Goals as goal

-- the form of the first group and its title is that of the report
of_first : (r : Renderer) (groups : List Group) (g : Group) (title : Title) (answer : Result ShortForm AllocError) → slice_get groups 0 ≡ Some g
    → g.title ≡ Some title → IfOk answer (λ form. form.level ≡ g.level) → IfOk answer (λ form. form.rows ≡ short_form r g title)
    → IfOk answer (λ form. IsShortForm r groups form)
of_first r groups g title (Err e) first titled level rows = tt
of_first r groups g title (Ok form) first titled level rows = record { group = g; title = title; first = first; titled = titled; level = level; rows = rows }

pub unreachable-requires-in-None : goal.unreachable-requires-in-None
unreachable-requires-in-None c = first-there c.args.groups.now c.requires.titled (sym c.first.ensures.value ∙ ap option_copied c.in-None.is)

pub unreachable-requires : goal.unreachable-requires
unreachable-requires c =
    title-there c.args.groups.now c.in-Some.group.now c.requires.titled (sym c.first.ensures.value ∙ ap option_copied c.in-Some.is) c.in-None-title.is

pub returns : goal.returns
returns c =
    record {
      drawn = of_first c.args.renderer.now c.args.groups.now c.in-Some.group.now c.in-Some-title.title c.short_form.result
          (sym c.first.ensures.value ∙ ap option_copied c.in-Some.is) c.in-Some-title.is c.short_form.ensures.level c.short_form.ensures.rows;
    }
