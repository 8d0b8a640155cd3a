use Rattle.snippet_grid.proofs.Common.{common_steps, arith, string_bytes, refl, rules, subst, ap, take, drop, ◌≡◌, ◌∙◌, ◌-◌, ◌++◌, List, ℕ, IsUtf8-string_bytes}
use Rattle.snippet_grid.proofs.Common.{run_bytes}
use Rattle.snippet_grid.proofs.RunLemmas.{IsJoined-copied, IsJoined-here, ends_at_boundary, starts_at_boundary}
use Rattle.snippet_grid.proofs.runs.join.Goals as goal

pub returns-then-stands_at-clause-ok : goal.returns-then-stands_at-clause-ok
returns-then-stands_at-clause-ok c =
    let text = string_bytes c.args.text.now in
    let second = c.args.second.now in
    let there : take (second.end - second.start) (drop c.args.first.now.end text) ≡ run_bytes text second =
    subst (λ (t : List ℕ). take (second.end - second.start) (drop c.args.first.now.end t) ≡ run_bytes t second) c.as_str.ensures.value
    (c.stands_at.ensures.yes c.if-stands_at.true) in
    IsJoined-here text c.args.first.now second _ (IsUtf8-string_bytes c.args.text.now) c.requires.first c.requires.second c.requires.continues there refl refl
    refl refl refl refl refl

pub range-requires-clause-start_boundary : goal.range-requires-clause-start_boundary
range-requires-clause-start_boundary c = grind (arith, common_steps, c.deref.ensures, starts_at_boundary, IsUtf8-string_bytes, c.requires.first)

pub range-requires-clause-end_boundary : goal.range-requires-clause-end_boundary
range-requires-clause-end_boundary c = grind (arith, common_steps, c.deref.ensures, ends_at_boundary, IsUtf8-string_bytes, c.requires.first)

pub range-requires-2-clause-start_boundary : goal.range-requires-2-clause-start_boundary
range-requires-2-clause-start_boundary c = grind (arith, common_steps, c.deref-2.ensures, starts_at_boundary, IsUtf8-string_bytes, c.requires.second)

pub range-requires-2-clause-end_boundary : goal.range-requires-2-clause-end_boundary
range-requires-2-clause-end_boundary c = grind (arith, common_steps, c.deref-2.ensures, ends_at_boundary, IsUtf8-string_bytes, c.requires.second)

pub returns-clause-ok : goal.returns-clause-ok
returns-clause-ok c =
    let text = string_bytes c.args.text.now in
    let new = string_bytes c.push_str-3.new.self in
    let first = c.args.first.now in
    let second = c.args.second.now in
    let front : c.range.result.now ≡ run_bytes text first = c.range.ensures.value ∙ ap (λ (t : List ℕ). run_bytes t first) c.deref.ensures in
    let back : c.range-2.result.now ≡ run_bytes text second = c.range-2.ensures.value ∙ ap (λ (t : List ℕ). run_bytes t second) c.deref-2.ensures in
    let both : string_bytes c.push_str-2.new.self ≡ run_bytes text first ++ run_bytes text second = c.in_ok-push_str-2.ensures.bytes
    ∙ ap (λ (t : List ℕ). t ++ c.range-2.result.now)
    (c.in_ok-push_str.ensures.bytes ∙ ap (λ (t : List ℕ). t ++ c.range.result.now) c.clear.ensures.bytes ∙ front)
    ∙ ap (λ (t : List ℕ). run_bytes text first ++ t) back in
    IsJoined-copied text new first second _ (IsUtf8-string_bytes c.args.text.now) (IsUtf8-string_bytes c.push_str-3.new.self) c.requires.first
    c.requires.second c.requires.continues (c.in_ok-push_str-3.ensures.bytes ∙ ap (λ (t : List ℕ). text ++ t) (c.as_str-2.ensures.value ∙ both)) refl refl
    refl (search (rules, c.len-start.ensures)) (search (rules, c.len.ensures)) refl refl
