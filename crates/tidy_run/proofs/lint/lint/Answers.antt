use Rattle.std.proofs.Common.{All, map, ap, subst, sym, ◌∙◌, Vec, Global}
use Rattle.std.proofs.lemmas.List.{take_all}
use Rattle.std.proofs.lemmas.List.Elements.{All-nil, All-push}
use Rattle.tidy_run.proofs.Mapped.{mapped-next}
use Rattle.tidy_run.specs.Findings.{AreInside, finding_of}
use Rattle.tidy_run.specs.declared.rule.Edit.{Edit}
use Rattle.tidy_run.proofs.lint.lint.Goals as goal

pub loop-rule-init : goal.loop-rule-init
loop-rule-init g c =
    record {
      value = ap (map (λ (edits : Vec Edit Global). map finding_of edits.items)) c.new-all.ensures.items;
      inside = subst (All (λ (edits : Vec Edit Global). AreInside c.args.source.now 0 (map finding_of edits.items))) (sym c.new-all.ensures.items)
          (All-nil (λ (edits : Vec Edit Global). AreInside c.args.source.now 0 (map finding_of edits.items)));
    }

pub loop-rule-preserved : goal.loop-rule-preserved
loop-rule-preserved g c =
    let found = c.in_ok-box_findings.field-0 in
    record {
      value = ap (map (λ (edits : Vec Edit Global). map finding_of edits.items)) c.in_ok-push.ensures.items
          ∙ mapped-next (λ (edits : Vec Edit Global). map finding_of edits.items) _ c.loop-rule.all.items c.args.rules.now c.loop-rule.rule-index
          found c.rule-item.result c.loop-rule.invariant.value c.loop-rule-test.true c.rule-item.is c.in_ok-box_findings.ensures.value;
      inside = subst (All (λ (edits : Vec Edit Global). AreInside c.args.source.now 0 (map finding_of edits.items))) (sym c.in_ok-push.ensures.items)
          (All-push (λ (edits : Vec Edit Global). AreInside c.args.source.now 0
          (map finding_of edits.items)) c.loop-rule.all.items found c.loop-rule.invariant.inside c.in_ok-box_findings.ensures.inside);
    }

pub returns : goal.returns
returns g c =
    record {
      value = c.loop-rule.invariant.value ∙ ap (map _) (take_all c.loop-rule.rule-index c.args.rules.now c.loop-rule-test.false);
      inside = c.loop-rule.invariant.inside;
    }
