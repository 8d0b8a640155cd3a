use Rattle.snippet_labels.proofs.Common.{IsPermutation-sym, rules, ◌∙◌, ◌-◌, ◌^◌, sym, subst, ap, map, IsPermutation, IsPermutation-reverse}
use Rattle.snippet_labels.proofs.Common.{answers_always, PlacedEntry, List, ordered_by, is_placed_before, BeginLeftOf}
use Rattle.snippet_labels.proofs.RowLemmas.{listed_from_right, listed_in_order, map-reverse, order_of_sort, place_key, from_right_from_sort}
use Rattle.snippet_labels.proofs.positions.sort_from_right.Goals as goal

pub returns-then-begin_apart : goal.returns-then-begin_apart
returns-then-begin_apart c =
    let f : PlacedEntry → _ = λ e. e.entry in
    let ps = c.args.entries.now.items in
    let apart = subst (BeginLeftOf (2 ^ 64 - 1)) c.deref.ensures.value (c.begin_apart.ensures.yes c.if-begin_apart.true) in
    record {
      same = IsPermutation-sym _ _ (IsPermutation-reverse ps);
      order = listed_in_order (2 ^ 64 - 1) ps apart ∙ ap (ordered_by is_placed_before) (sym (map-reverse f ps));
      from_right = listed_from_right (2 ^ 64 - 1) ps apart;
    }

pub returns : goal.returns
returns c =
    let given = c.reverse.new.self.items in
    let sorted = c.sort_by_key.new.self.items in
    let is = c.reverse.ensures.items in
    let up = c.in_ok-sort_by_key.ensures.sorted place_key (answers_always _ _ _ (λ f a r g h. search rules)) in
    record {
      same = subst (λ (l : List PlacedEntry). IsPermutation l sorted) is c.in_ok-sort_by_key.ensures.permutation;
      order = order_of_sort given sorted up (c.sort_by_key.ensures.stable place_key (answers_always _ _ _ (λ f a r g h. search rules)))
          ∙ ap (λ (l : List PlacedEntry). ordered_by is_placed_before (map (λ (e : PlacedEntry). e.entry) l)) is;
      from_right = from_right_from_sort sorted up;
    }
