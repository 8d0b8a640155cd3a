use Rattle.std.proofs.Common.{arith}
use Rattle.snippet_strokes.proofs.Common.{rules, answers_always, on_ok_weaker}
use Rattle.snippet_strokes.proofs.PaintOrder.{paint_key, painting_order_of_sort}
use Rattle.snippet_strokes.proofs.marks.sort_for_painting.Goals as goal

pub returns-then-is_order_reversed : goal.returns-then-is_order_reversed
returns-then-is_order_reversed c = grind (arith, c.reverse.ensures.items, c.deref.ensures.value, c.is_order_reversed.ensures.yes, c.if-is_order_reversed.true)

pub returns : goal.returns
returns c =
    record {
      order = on_ok_weaker c.sort_by_key.result
          (λ sorted. painting_order_of_sort c.args.placed.now.items c.sort_by_key.new.self.items
          (sorted paint_key (answers_always _ _ _ (λ f a r g h. search rules)))
          (c.sort_by_key.ensures.stable paint_key (answers_always _ _ _ (λ f a r g h. search rules)))) c.sort_by_key.ensures.sorted;
    }
