use Rattle.std.proofs.Common.{refl, arith}
use Rattle.std.proofs.lemmas.Grind.{common_steps}
use Rattle.snippet_model.specs.Same.{SameOption, SameText}
use Rattle.snippet_model.proofs.CloneLemmas.{same_annotation}
use Rattle.snippet_model.proofs.ZipLemmas.{AllZip-weaker}
use Rattle.snippet_model.proofs.snippet.clones.Snippet+Annotation.clone.Goals as goal

pub returns : goal.returns
returns c =
    let path : SameOption SameText c.args.self.now.path c.in_ok-clone.field-0 = grind (arith, common_steps) in
    record {
      same = (
        path,
        refl,
        c.in_ok-clone-2.ensures.same,
        AllZip-weaker _ _ same_annotation _ _ c.in_ok-clone-3.ensures.cases.0,
        refl,
        refl,
      );
    }
