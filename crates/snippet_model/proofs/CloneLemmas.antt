-- A derived clone of a marker is the same as what it is of.
use Rattle.std.proofs.Common.{rules, arith}
use Rattle.std.proofs.lemmas.Grind.{common_steps}
use Rattle.snippet_model.specs.declared.snippet.Annotation.{Annotation}
use Rattle.snippet_model.specs.declared.snippet.Patch.{Patch}
use Rattle.snippet_model.specs.Same.{SamePatch}
use Rattle.snippet_model.specs.Copies.{SameAnnotation}
use Rattle.snippet_model.specs.contracts.snippet.AnnotationClone.TheImpl as annotation
use Rattle.snippet_model.specs.contracts.snippet.PatchClone.TheImpl as patch

-- an annotation's copy is the same annotation
pub same_annotation : (a b : Annotation) → (annotation.is_clone-value).it a b → SameAnnotation a b
same_annotation a b h = grind (arith, common_steps)

-- a patch's copy is the same patch
pub same_patch : (a b : Patch) → (patch.is_clone-value).it a b → SamePatch a b
same_patch a b h = search rules
