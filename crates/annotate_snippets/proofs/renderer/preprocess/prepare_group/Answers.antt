use Rattle.std.proofs.Common.{arith}
use Rattle.annotate_snippets.proofs.Common.{All-same, IsElementDrawable}
use Rattle.annotate_snippets.proofs.renderer.preprocess.prepare_group.Goals as goal

pub prepare_elements-requires : goal.prepare_elements-requires
prepare_elements-requires c =
    record { drawable = All-same IsElementDrawable c.deref.result.now c.args.group.now.elements.items c.deref.ensures.value c.requires.drawable.1 }

pub returns-clause-prepared : goal.returns-clause-prepared
returns-clause-prepared c = grind (arith, c.requires.drawable.0, c.in_ok-elements.ensures.elements, c.deref.ensures.value, c.in_ok-elements.ensures.prepared)
