use Rattle.snippet_parts.proofs.Common.{common_steps, ◌≡◌, ◌<◌, ◌^◌, None, Some, List, [], ◌∷◌, ◌++◌, map, length, sym, ap, subst, ◌∙◌, append_assoc, arith}
use Rattle.snippet_parts.proofs.Common.{into_iter_items, map_push, nil_from_length, All-tail, AnnotatedLineInfo, ShownLine, KeptLine, seen_kept, lines_between}
use Rattle.snippet_parts.proofs.Common.{infos_of, kept_of}
use Rattle.std.proofs.Common.{All, append-nil}
use Rattle.snippet_parts.proofs.BetweenLemmas.{filled, filled-shown}
use Rattle.snippet_parts.proofs.ShownLineLemmas.{infos_of-push, kept_of-kept}
use Rattle.snippet_parts.proofs.between.with_lines_between.Goals as goal

-- a line can be measured
abbrev Fits : AnnotatedLineInfo → Type 0
Fits info = length info.line.now < 2 ^ 56

pub loop-info-init : goal.loop-info-init
loop-info-init c =
    grind (arith, common_steps, c.into_iter-info-iterator.ensures.into_iter_gives.0, c.requires.texts, c.into_iter-info-iterator.ensures.into_iter_gives.1)

pub loop-info-preserved : goal.loop-info-preserved
loop-info-preserved c =
    let at = c.loop-info in
    let x : AnnotatedLineInfo = c.in-Some.info in
    let s = c.args.source.now in
    let mid : List ShownLine = c.push_between.new.shown.items in
    let line : ShownLine = c.new.result in
    let rest : List AnnotatedLineInfo = into_iter_items c.next.new.self in
    let steps : into_iter_items at.info-iterator ≡ x ∷ rest = c.in-Some.ensures.steps.0 in
    let later : List KeptLine = filled s (Some x.line_index) (map seen_kept rest) in
    let old : List KeptLine = map seen_kept (infos_of at.shown.items) in
    let between : List KeptLine = lines_between s at.before x.line_index in
    let info_is : line.info ≡ x = c.new.ensures.info in
    let lines : map seen_kept (infos_of (mid ++ line ∷ [])) ≡ (old ++ between)
    ++ seen_kept x ∷ [] = ap (map seen_kept) (infos_of-push mid line ∙ ap (λ i. infos_of mid ++ i ∷ []) info_is) ∙ map_push seen_kept (infos_of mid) x
    ∙ ap (λ ls. ls ++ seen_kept x ∷ []) c.in_ok-push_between.ensures.value in
    let kept : kept_of (mid ++ line ∷ []) ≡ kept_of at.shown.items ++ x ∷ [] = kept_of-kept mid line c.new.ensures.between
    ∙ ap (λ i. kept_of mid ++ i ∷ []) info_is ∙ ap (λ is. is ++ x ∷ []) c.in_ok-push_between.ensures.kept_are in
    record {
      lines = ap (λ (ls : List ShownLine). map seen_kept (infos_of ls) ++ later) c.in_ok-push.ensures.items ∙ ap (λ ls. ls ++ later) lines
          ∙ append_assoc (old ++ between) (seen_kept x ∷ []) later ∙ append_assoc old between (seen_kept x ∷ later)
          ∙ sym (ap (λ is. old ++ filled s at.before (map seen_kept is)) steps) ∙ at.invariant.lines;
      kept = ap (λ (ls : List ShownLine). kept_of ls ++ rest) c.in_ok-push.ensures.items ∙ ap (λ is. is ++ rest) kept
          ∙ append_assoc (kept_of at.shown.items) (x ∷ []) rest ∙ sym (ap (λ is. kept_of at.shown.items ++ is) steps) ∙ at.invariant.kept;
      texts = All-tail Fits x rest (subst (All Fits) steps at.invariant.texts);
      left = let was = at.invariant.left in
          let gone = c.in-Some.ensures.steps.1 in
          let short = ap length steps in
          omega arith;
    }

pub returns : goal.returns
returns c =
    let at = c.loop-info in
    let s = c.args.source.now in
    let lines : List KeptLine = map seen_kept (infos_of at.shown.items) in
    let empty : into_iter_items at.info-iterator ≡ [] = nil_from_length _ (sym at.invariant.left ∙ c.in-None.ensures.steps.0) in
    record {
      kept_are = sym (append-nil (kept_of at.shown.items)) ∙ sym (ap (λ is. kept_of at.shown.items ++ is) empty) ∙ at.invariant.kept;
      value = λ fold marks spans kept. sym (append-nil lines) ∙ sym (ap (λ is. lines ++ filled s at.before (map seen_kept is)) empty) ∙ at.invariant.lines
          ∙ ap (filled s None) kept ∙ filled-shown fold s marks spans;
    }
