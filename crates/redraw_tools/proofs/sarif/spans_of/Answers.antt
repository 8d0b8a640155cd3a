use Rattle.std.proofs.Common.{◌≡◌, ℕ, ◌++◌, List, ap, arith, drop, false, length, map, sym, subst, take, true, ◌∙◌}
use Rattle.std.specs.List.{AllZip, filter_map, flat_map}
use Rattle.std.proofs.Math.Seq.{take-append_seam}
use Rattle.serde_json.specs.Data.{Data}
use Rattle.serde_json.specs.View.{view}
use Rattle.redraw_report.specs.declared.diagnostic.FileSpan.{FileSpan}
use Rattle.redraw_tools.specs.Places.{Adds, IsMarked, annotations_of, place_in}
use Rattle.redraw_tools.specs.Primary.{chosen}
use Rattle.redraw_tools.specs.Rule.{part_data, rule_data}
use Rattle.redraw_tools.proofs.Adding.{adds-more}
use Rattle.redraw_tools.proofs.sarif.spans_of.Goals as goal

-- as many places as there were, where these stand in their stead
in-stead : (xs ys : List FileSpan) (n : ℕ) → length ys ≡ n → take n (ys ++ drop (length ys) xs) ≡ ys
in-stead xs ys n so_many = ap (λ k. take k (ys ++ drop (length ys) xs)) (sym so_many) ∙ take-append_seam ys (drop (length ys) xs)

pub returns : goal.returns
returns c =
    let run = view c.args.context.now.run.now in
    let unit = c.args.context.now.unit in
    let part = part_data c.args.context.now.rule in
    let rule = rule_data c.args.context.now.rule in
    let own = c.add_spans.new.spans.items in
    let beside = c.add_annotations.new.spans.items in
    let spans = c.add_spans-2.new.spans.items in
    let count : length c.choose_primary.new.spans ≡ c.add_spans.new.spans.len = omega (arith, c.choose_primary.auto.spans, c.deref_mut.ensures.len) in
    let chosen_so = in-stead own c.choose_primary.new.spans _ count ∙ c.choose_primary.ensures.value ∙ ap chosen c.deref_mut.ensures.value in
    let (found, own_is, are) = subst (λ (ds : List Data). Adds part rule (filter_map (place_in run unit true) ds) c.new-spans.result.items own)
    c.list-own.ensures.value c.in_ok-add_spans.ensures.added in
    let first = subst (λ (ds : List Data). Adds part rule (flat_map (annotations_of run unit) ds) (chosen own) beside) c.list-own.ensures.value
    (subst (λ (xs : List FileSpan). Adds part rule (flat_map (annotations_of run unit) (map view c.list-own.result.items.now)) xs beside) chosen_so
    c.in_ok-add_annotations.ensures.added) in
    let second = subst (λ (ds : List Data). Adds part rule (filter_map (place_in run unit false) ds) beside spans) c.list-related.ensures.value
    c.in_ok-add_spans-2.ensures.added in
    record {
      are = record {
        own = own;
        own_are = subst (AllZip (IsMarked part rule) _) (sym (own_is ∙ ap (λ xs. xs ++ found) c.new-spans.ensures.items)) are;
        others = adds-more part rule _ _ (chosen own) beside spans first second;
      };
    }
