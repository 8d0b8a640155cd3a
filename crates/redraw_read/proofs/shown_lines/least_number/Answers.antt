use Rattle.std.proofs.Common.{◌≡◌, ◌∙◌, ◌++◌, ◌∷◌, ℕ, List, [], Some, String, true, ap, map, refl, string_bytes, subst, sym}
use Rattle.std.specs.BTreeMap.Range.{IsEntryInRange, entries_between, range_contains}
use Rattle.std.specs.Global.{Global}
use Rattle.std.specs.Map.{keys_of, lookup}
use Rattle.std.specs.Map.Iter.{deref_pair}
use Rattle.std.specs.String.{string_cmp}
use Rattle.std.specs.declared.ops.Bound.TheVariants.{Included, Unbounded}
use Rattle.std.specs.List.Sorted.{IsStrictlySortedBy}
use Rattle.std.proofs.lemmas.List.{map-append}
use Rattle.std.proofs.lemmas.Map.Iter.{rest_all, rest_more, rest_so_far}
use Rattle.std.proofs.lemmas.Map.Views.{All-turn}
use Rattle.redraw_read.proofs.Begins.{is_key, kept-sorted, later-sorted, none-from}
use Rattle.redraw_read.proofs.LeastNumber.{least-of-all, step-is, step-least}
use Rattle.redraw_read.specs.Rendered.{is_of}
use Rattle.redraw_read.specs.ShownLines.{number_of}
use Rattle.redraw_read.proofs.shown_lines.least_number.Goals as goal

pub returns-then-not-begins_with-clause-least : goal.returns-then-not-begins_with-clause-least
returns-then-not-begins_with-clause-least c =
    let numbers = c.args.numbers.now in
    let m = c.args.message.now in
    let ys = map deref_pair c.loop-text.yielded in
    let e : String Global × ℕ = (c.in-Some.text.now, c.in-Some.number.now) in
    let rest = c.next.new.self in
    let gives = c.into_iter-text-iterator.ensures.into_iter_gives in
    let parts : entries_between string_cmp (Included m) Unbounded numbers.entries ≡ ys ++ e ∷ rest =
    sym (gives ∙ c.range-text-items.ensures.between tt)
    ∙ rest_so_far deref_pair c.loop-text.yielded _ _ c.loop-text.yielded_by
    ∙ ap (λ l. ys ++ l) (rest_more deref_pair _ _ _ (c.in-Some.text, c.in-Some.number) c.in-Some.is c.next.ensures.steps) in
    let inside = All-turn deref_pair (IsEntryInRange string_cmp (Included m) Unbounded numbers) _ _ _ _ _ _ _ (c.range-text-items.ensures.in_range tt).0
    gives c.loop-text.yielded_by c.in-Some.is c.next.ensures.steps in
    let sorted : IsStrictlySortedBy string_cmp (keys_of (ys ++ e ∷ rest)) =
    subst (λ l. IsStrictlySortedBy string_cmp (keys_of l)) parts
    (kept-sorted (λ k. range_contains string_cmp (Included m) Unbounded k) numbers.entries c.range-text-items.ensures.ordered) in
    least-of-all c.args.place numbers m ys (e ∷ rest) c.loop-text.least parts
    (λ t begins. none-from (string_bytes m) t e rest inside.0.0
    (rw (c.as_str.ensures.value, c.as_str-in-loop-text.ensures.value) at (sym c.if-not-begins_with.ensures.value)) begins (later-sorted ys (e ∷ rest) sorted))
    c.loop-text.invariant.least

pub loop-text-preserved : goal.loop-text-preserved
loop-text-preserved c =
    let numbers = c.args.numbers.now in
    let m = c.args.message.now in
    let e : String Global × ℕ = (c.in-Some.text.now, c.in-Some.number.now) in
    let inside = All-turn deref_pair (IsEntryInRange string_cmp (Included m) Unbounded numbers) _ _ _ _ _ _ _ (c.range-text-items.ensures.in_range tt).0
    c.into_iter-text-iterator.ensures.into_iter_gives c.loop-text.yielded_by c.in-Some.is c.next.ensures.steps in
    let of = is_of c.args.place (string_bytes m) in
    let same : c.is_of-is_its.result ≡ of (string_bytes e.0) =
    rw (c.as_str-in-loop-text-2.ensures.value, c.as_str-in-loop-text-3.ensures.value) at c.is_of-is_its.ensures.value in
    record {
      is = step-is (λ n. (t : List ℕ) × (number_of numbers t ≡ Some n) × (of t ≡ true)) c.loop-text.least c.lesser_if-least.result c.in-Some.number.now
          c.is_of-is_its.result c.lesser_if-least.ensures.of c.lesser_if-least.ensures.kept c.loop-text.invariant.is
          (λ counts. (string_bytes c.in-Some.text.now, inside.1, sym same ∙ counts));
      least = λ t n at.
          step-least of e (map deref_pair c.loop-text.yielded) c.loop-text.least c.lesser_if-least.result c.loop-text.invariant.least
          (λ its. c.lesser_if-least.ensures.within (same ∙ its)) c.lesser_if-least.ensures.least t n
          (ap (lookup (is_key t)) (sym (map-append deref_pair c.loop-text.yielded ((c.in-Some.text, c.in-Some.number) ∷ []))) ∙ at);
    }

pub returns-clause-least : goal.returns-clause-least
returns-clause-least c =
    let numbers = c.args.numbers.now in
    let m = c.args.message.now in
    let ys = map deref_pair c.loop-text.yielded in
    let parts : entries_between string_cmp (Included m) Unbounded numbers.entries ≡ ys ++ [] =
    sym (c.into_iter-text-iterator.ensures.into_iter_gives ∙ c.range-text-items.ensures.between tt)
    ∙ rest_so_far deref_pair c.loop-text.yielded _ _ c.loop-text.yielded_by
    ∙ ap (λ l. ys ++ l) (rest_all deref_pair _ _ _ c.in-None.is c.next.ensures.steps) in
    least-of-all c.args.place numbers m ys [] c.loop-text.least parts (λ t begins. refl) c.loop-text.invariant.least
