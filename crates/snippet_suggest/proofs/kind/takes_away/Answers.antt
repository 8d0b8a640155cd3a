use Rattle.std.proofs.lemmas.Grind.{common_steps}
use Rattle.snippet_suggest.proofs.Common.{◌<◌, ℕ, List, length, map, sym, ap, ◌∙◌, arith, get_or-map, length-map, list_any_at, TrimmedPatch, Edit}
use Rattle.snippet_suggest.proofs.Common.{trimmed_edit_of, takes_away}
use Rattle.snippet_suggest.proofs.kind.takes_away.Goals as goal

pub returns-then-deletes_or_destroys : goal.returns-then-deletes_or_destroys
returns-then-deletes_or_destroys c =
    let source : List ℕ = c.args.source.now in
    let patches : List TrimmedPatch = c.args.patches.now in
    let i : ℕ = c.loop-patch.patch-index in
    let none : TrimmedPatch = record {
      original_span = record { start = 0; end = 0 };
      span = record { start = 0; end = 0 };
      replacement = grind (arith, common_steps);
    } in
    let e : Edit = trimmed_edit_of none in
    let within : i < length patches = c.loop-patch-test.true in
    let at = ap (takes_away source) (get_or-map trimmed_edit_of patches i none e within) in
    record {
      value = sym (list_any_at (takes_away source) (map trimmed_edit_of patches) i e (omega (arith, within, length-map patches trimmed_edit_of))
          (at ∙ sym c.deletes_or_destroys.ensures.value ∙ c.if-deletes_or_destroys.true));
    }
