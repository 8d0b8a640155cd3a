use Rattle.snippet_parts.proofs.Common.{◌≡◌, ◌≤◌, rules, Option, subst, ◌∙◌, arith, take, option_map, Mark}
use Rattle.snippet_parts.proofs.BestLemmas.{BestOf, best-turn, best-kept, best-unmarked, best-first, best-narrower, answer-mark, answer-number, answer-none}
use Rattle.snippet_parts.proofs.mark.mark_of.Goals.{in-Some+in-Some-best, in-Some+in_default-best-2, in-Some+in_default-best, in_default}
use Rattle.snippet_parts.proofs.mark.mark_of.Goals as goal

pub loop-annotation-preserved : goal.loop-annotation-preserved
loop-annotation-preserved c = (
  λ k here.
      let source = c.args.source.now.text in
      let marks = take c.loop-annotation.annotation-index c.args.annotations.now in
      let a = c.annotation-item.result in
      let p = c.args.column in
      let Best : Option Mark → Type 0 = λ best. BestOf source marks k p best in
      let before : Best c.loop-annotation.best = c.loop-annotation.invariant.0 k here in
      best-turn source c.args.annotations.now c.loop-annotation.annotation-index k p a c.match-mark_at.best c.loop-annotation-test.true c.annotation-item.is
      (elim c.match-mark_at.branch [
        | in-Some+in-Some-best w ↦ rw w.best-is
            (best-kept source marks k p a w.in-Some-best.before
            (λ _. omega (arith, w.is_narrower.ensures.wider w.if-not-is_narrower.true, w.in-Some.ensures.width))
            (λ _ primary. omega (
              arith,
              w.is_narrower.ensures.not_primary w.if-not-is_narrower.true (w.in-Some.ensures.kind ∙ primary),
              w.in-Some.ensures.width,
            )) (subst Best w.in-Some-best.is before))
        | in-Some+in_default-best-2 w ↦ rw w.best-is
            (best-narrower source marks k p a w.in-Some.mark w.in-Some-best.before (w.in-Some.ensures.marked k here)
            w.in-Some.ensures.width w.in-Some.ensures.kind (w.is_narrower.ensures.narrower w.if-not-is_narrower.false)
            (w.is_narrower.ensures.primary w.if-not-is_narrower.false) (subst Best w.in-Some-best.is before))
        | in-Some+in_default-best w ↦ rw w.best-is (best-first source marks k p a w.in-Some.mark
            (w.in-Some.ensures.marked k here) w.in-Some.ensures.width w.in-Some.ensures.kind (subst Best w.in_default-best.is before))
        | in_default w ↦ rw w.best-is (best-unmarked source marks k p a c.loop-annotation.best (w.in_default.ensures.none k here) before)
      ]),
  elim c.match-mark_at.branch [
    | in-Some+in-Some-best w ↦ rw w.best-is w.in-Some.ensures.number
    | in-Some+in_default-best-2 w ↦ rw w.best-is w.in-Some.ensures.number
    | in-Some+in_default-best w ↦ rw w.best-is w.in-Some.ensures.number
    | in_default w ↦ rw w.best-is c.loop-annotation.invariant.1
  ],
)

pub returns : goal.returns
returns c =
    let source = c.args.source.now in
    let marks = c.args.annotations.now in
    let n = c.loop-annotation.annotation-index in
    let best = c.loop-annotation.best in
    let kind : c.map.result ≡ option_map (λ (m : Mark). m.kind) best = search rules in
    record {
      mark = answer-mark source marks n c.args.line c.args.column best c.map.result c.loop-annotation-test.false kind c.loop-annotation.invariant.0;
      number = answer-number best c.map.result (source.first ≤ c.args.line) kind c.loop-annotation.invariant.1;
      none = answer-none source marks n c.args.line c.args.column best c.map.result c.loop-annotation-test.false kind c.loop-annotation.invariant.0;
    }
