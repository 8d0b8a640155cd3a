use Rattle.std.proofs.Common.{All, [], ◌≤◌, ◌+◌, length, arith, ◌≡◌, List, ap, map, sym, subst, ◌∙◌, Vec, Global}
use Rattle.tidy_run.specs.Findings.{AreInside, Finding, finding_of, findings_of}
use Rattle.tidy_run.specs.Report.{IsReportOf, told_of}
use Rattle.tidy_run.specs.declared.rule.Edit.{Edit}
use Rattle.tidy_run.proofs.Mapped.{mapped-at, mapped-length}
use Rattle.tidy_run.proofs.ToldLemmas.{told-next}
use Rattle.tidy_run.proofs.WithinLemmas.{few-findings, told-within}
use Rattle.annotate_snippets.specs.Drawable.{IsGroupWithinBounds}
use Rattle.annotate_snippets.proofs.BoundsLaws.{within-bounds}
use Rattle.std.proofs.lemmas.List.Elements.{All-append, All-nil}
use Rattle.tidy_run.proofs.report.report.Goals as goal

pub loop-i-preserved : goal.loop-i-preserved
loop-i-preserved g c =
    let path = c.args.path.now in
    let source = c.args.source.now in
    let rules = c.args.rules.now in
    let i = c.loop-i.i in
    let rule = c.index-rules-i.result in
    let edits = c.index-findings-i.result in
    let dyn = goal.Rule-dyn g (rule.vtable, rule.value) in
    let found : map finding_of edits.items ≡ findings_of (dyn.finds rule.value source) source =
    mapped-at (λ (v : Vec Edit Global). map finding_of v.items) _ c.args.findings.now rules i edits rule c.requires.findings c.loop-i-test.true
    c.index-findings-i.is c.index-rules-i.is in
    let told = c.in_ok-tell.ensures.told in
    let same : told_of c.box_title.result.now (map finding_of c.deref.result.now)
    ≡ told_of (dyn.title_of rule.value) (findings_of (dyn.finds rule.value source) source) =
    ap (λ t. told_of t (map finding_of c.deref.result.now)) c.box_title.ensures.value
    ∙ ap (λ (l : List Edit). told_of (dyn.title_of rule.value) (map finding_of l)) c.deref.ensures.value
    ∙ ap (told_of (dyn.title_of rule.value)) found in
    let count : length (map finding_of c.deref.result.now) ≤ length source + 1 =
    subst (λ (l : List Finding). length l ≤ length source + 1) (sym (ap (map finding_of) c.deref.ensures.value ∙ found))
    (few-findings (dyn.finds rule.value source) source) in
    let inside : AreInside source 0 (map finding_of c.deref.result.now) =
    subst (λ (l : List Edit). AreInside source 0 (map finding_of l)) (sym c.deref.ensures.value)
    (subst (λ (v : Vec Edit Global). AreInside source 0 (map finding_of v.items)) (sym c.index-findings-i.is)
    (c.requires.inside i edits (omega (
      arith,
      mapped-length (λ (v : Vec Edit Global). map finding_of v.items) _ c.args.findings.now rules c.requires.findings,
      c.loop-i-test.true,
    )))) in
    record {
      told = told-next path source _ rules i rule c.loop-i.groups.items told.0 c.tell.new.groups.items c.loop-i.invariant.told c.loop-i-test.true
          c.index-rules-i.is
          (subst (λ t. IsReportOf path source t told.0) same told.2) told.1;
      within = subst (All IsGroupWithinBounds) (sym told.1)
          (All-append IsGroupWithinBounds c.loop-i.groups.items told.0 c.loop-i.invariant.within
          (told-within path source c.box_title.result.now (map finding_of c.deref.result.now) told.0 told.2 c.box_title.ensures.title
          (record { inside = inside; few = count; path_fits = c.requires.path; source_fits = c.requires.source })));
    }

pub tell-requires : goal.tell-requires
tell-requires g c =
    let source = c.args.source.now in
    let edits = c.index-findings-i.result in
    record {
      inside = subst (λ (l : List Edit). AreInside source 0 (map finding_of l)) (sym c.deref.ensures.value)
          (subst (λ (v : Vec Edit Global). AreInside source 0 (map finding_of v.items)) (sym c.index-findings-i.is)
          (c.requires.inside c.loop-i.i edits (omega (
            arith,
            mapped-length
                (λ (v : Vec Edit Global). map finding_of v.items) _ c.args.findings.now c.args.rules.now c.requires.findings,
            c.loop-i-test.true,
          ))));
    }

pub loop-i-init : goal.loop-i-init
loop-i-init g c =
    record {
      told = subst (IsReportOf c.args.path.now c.args.source.now []) (sym c.new-groups.ensures.items) tt;
      within = subst (All IsGroupWithinBounds) (sym c.new-groups.ensures.items) (All-nil IsGroupWithinBounds);
    }

pub returns-clause-bounds : goal.returns-clause-bounds
returns-clause-bounds g c =
    let plain = within-bounds c.loop-i.groups.items c.loop-i.invariant.within in
    record { faultless = plain.faultless; fits = plain.fits }
