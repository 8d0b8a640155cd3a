use Rattle.std.proofs.Common.{arith, ◌≡◌, ◌<◌, IfSome, map, ℕ, List, Option, Some, [], ◌∷◌, subst, sym, Vec, Global, ap, ◌∙◌}
use Rattle.std.specs.Option.{option_map}
use Rattle.std.proofs.lemmas.List.{map-append}
use Rattle.tidy_run.specs.Findings.{AreInside, Finding, IsFinding, finding_of}
use Rattle.tidy_run.specs.declared.rule.Edit.{Edit}
use Rattle.tidy_run.proofs.FoundSoFar.{FoundSoFar, ReachesTo, reaches-none-yet, reaches-next, found-none-yet, found-next, found_none, found-last}
use Rattle.tidy_run.proofs.lint.findings.Goals as goal
use Rattle.tidy_run.proofs.lint.findings.Goals.{in-Some+in_ok-push+then-last, in_default}

pub loop-edit-init : goal.loop-edit-init
loop-edit-init g c =
    let find : ℕ → Option Finding = (goal.Rule-dyn g c.args.rule.now).finds c.args.rule.now.1 c.args.source.now in
    record {
      so_far = subst (λ (l : List Edit). FoundSoFar find c.args.source.now (map finding_of l) 0) (sym c.new-found.ensures.items)
          (found-none-yet find c.args.source.now);
      reach = subst (λ (l : List Edit). ReachesTo c.args.source.now (map finding_of l) 0) (sym c.new-found.ensures.items) (reaches-none-yet c.args.source.now);
    }

pub loop-edit-preserved : goal.loop-edit-preserved
loop-edit-preserved g c =
    let find : ℕ → Option Finding = (goal.Rule-dyn g c.args.rule.now).finds c.args.rule.now.1 c.args.source.now in
    let edit = c.in-Some.edit in
    let from = c.loop-edit.from in
    let some : find from ≡ Some (finding_of edit) = sym c.find.ensures.0 ∙ ap (option_map finding_of) c.in-Some.is in
    let is : IsFinding c.args.source.now from (finding_of edit) = subst (λ r.
    IfSome r (λ e. IsFinding c.args.source.now from (finding_of e))) c.in-Some.is c.find.ensures.1 in
    let takes : edit.span.start < edit.span.end = grind (arith, c.if-last.ensures) in
    let found = map finding_of c.loop-edit.found.items in
    let more = sym (ap (map finding_of) c.in_ok-push.ensures.items ∙ map-append finding_of c.loop-edit.found.items (edit ∷ [])) in
    record {
      so_far = subst (λ (l : List Finding). FoundSoFar find c.args.source.now l edit.span.end) more
          (found-next find c.args.source.now found from (finding_of edit) c.loop-edit.invariant.so_far some is takes);
      reach = subst (λ (l : List Finding). ReachesTo c.args.source.now l edit.span.end) more
          (reaches-next c.args.source.now found from (finding_of edit) c.loop-edit.invariant.reach is);
    }

pub returns : goal.returns
returns g c =
    let source = c.args.source.now in
    let find : ℕ → Option Finding = (goal.Rule-dyn g c.args.rule.now).finds c.args.rule.now.1 source in
    let from = c.loop-edit.from in
    let so_far = map finding_of c.loop-edit.found.items in
    record {
      value = elim c.match-find.branch [
        | in-Some+in_ok-push+then-last w ↦
            ap (λ (v : Vec Edit Global). map finding_of v.items) w.found-is
            ∙ ap (map finding_of) w.in_ok-push.ensures.items
            ∙ map-append finding_of c.loop-edit.found.items (w.in-Some.edit ∷ [])
            ∙ found-last find source so_far from (finding_of w.in-Some.edit) c.loop-edit.invariant.so_far
            (sym c.find.ensures.0 ∙ ap (option_map finding_of) w.in-Some.is)
            (grind (arith, w.if-last.ensures))
        | in_default w ↦
            ap (λ (v : Vec Edit Global). map finding_of v.items) w.found-is
            ∙ found_none find source so_far from c.loop-edit.invariant.so_far
            (sym c.find.ensures.0 ∙ ap (option_map finding_of) w.in_default.is)
      ];
      inside = elim c.match-find.branch [
        | in-Some+in_ok-push+then-last w ↦
            subst (AreInside source 0)
            (sym (ap (λ (v : Vec Edit Global). map finding_of v.items) w.found-is
            ∙ ap (map finding_of) w.in_ok-push.ensures.items
            ∙ map-append finding_of c.loop-edit.found.items (w.in-Some.edit ∷ [])))
            (reaches-next source so_far from (finding_of w.in-Some.edit) c.loop-edit.invariant.reach
            (subst (λ r. IfSome r (λ e. IsFinding source from (finding_of e))) w.in-Some.is c.find.ensures.1)).inside
        | in_default w ↦
            subst (AreInside source 0) (sym (ap (λ (v : Vec Edit Global). map finding_of v.items) w.found-is)) c.loop-edit.invariant.reach.inside
      ];
    }
