use Rattle.snippet_grid.proofs.Common.{◌≡◌, ◌∙◌, ◌<◌, ◌-◌, ◌++◌, ap, sym, subst, arith, ℕ, List, length, take, replicate}
use Rattle.snippet_grid.proofs.Common.{string_bytes, take-replicate, get_or-replicate, length-replicate, slice_range, IsCharBoundary, IsCharBoundary-from_ascii}
use Rattle.snippet_grid.proofs.Common.{IsAscii-from_all}
use Rattle.snippet_grid.proofs.RunLemmas.{BeginsWith-added}
use Rattle.snippet_grid.proofs.spaces.push_part.Goals as goal

pub range-requires-clause-end_boundary : goal.range-requires-clause-end_boundary
range-requires-clause-end_boundary c =
    let spaces : List ℕ = replicate 64 32 in
    let long : length spaces ≡ 64 = length-replicate {A = ℕ} 64 32 in
    let ascii = IsAscii-from_all spaces (λ k d within. subst (λ b. b < 128) (sym (get_or-replicate 64 k 32 d (omega arith))) (omega arith)) in
    subst (λ (t : List ℕ). IsCharBoundary t c.args.count) (sym c.requires.spaces) (IsCharBoundary-from_ascii spaces c.args.count ascii (omega arith))

pub returns-clause-text : goal.returns-clause-text
returns-clause-text c =
    let spaces : List ℕ = replicate 64 32 in
    let count : c.args.count - 0 ≡ c.args.count = omega arith in
    c.in_ok-push_str.ensures.bytes ∙ ap (λ (t : List ℕ). string_bytes c.args.out.now ++ t)
    (c.range.ensures.value ∙ ap (λ (t : List ℕ). slice_range t 0 c.args.count) c.requires.spaces ∙ ap (λ k. take k spaces) count
    ∙ take-replicate c.args.count 64 32 c.requires.within)

pub returns-clause-grows : goal.returns-clause-grows
returns-clause-grows c = BeginsWith-added (string_bytes c.args.out.now) _ (string_bytes c.push_str.new.self) c.in_ok-push_str.ensures.bytes
