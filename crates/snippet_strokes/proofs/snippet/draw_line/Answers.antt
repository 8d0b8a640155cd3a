use Rattle.snippet_strokes.proofs.Common.{◌≡◌, ◌∙◌, [], All, List, ap, arith, false, length, subst, sym, nat_tests, same_lists, All-same, OpenBar}
use Rattle.snippet_strokes.proofs.Common.{bars_apart, ends_of_bars, HasBarRoom, has_depth}
use Rattle.snippet_strokes.proofs.BesideLemmas.{apart_depths}
use Rattle.snippet_strokes.proofs.OpenLemmas.{room_apart, room_ends}
use Rattle.snippet_strokes.proofs.snippet.draw_line.Goals as goal

-- those that end on the line have the cells that its entries have, and those that run past are apart from them
pub draw_line_rows-requires-clause-beside : goal.draw_line_rows-requires-clause-beside
draw_line_rows-requires-clause-beside c =
    let layout = c.args.layout in
    let es = c.args.line.now.info.annotations.items in
    let tops_are = c.deref-4.ensures.value ∙ c.in_ok-ends.ensures.value ∙ ap ends_of_bars c.deref.ensures.value in
    let same = c.deref-3.ensures.value ∙ sym c.deref-4.ensures.value in
    let past_are = c.deref-5.ensures.value ∙ c.in_ok-below.ensures.value
    ∙ ap (λ bars. bars_apart bars c.deref-3.result.now) c.deref-2.ensures.value in
    let Apart : List OpenBar → OpenBar → Type 0 = λ others bar. has_depth others bar.depth ≡ false in
    record {
      tops_room = All-same (HasBarRoom layout) c.deref-4.result.now (ends_of_bars es) tops_are (room_ends layout es c.requires.drawable.entries.bar_cells);
      past_room = All-same (HasBarRoom layout) c.deref-5.result.now _ past_are (room_apart layout c.args.bars.open_bars.items _ c.requires.room);
      apart = All-same (Apart c.deref-4.result.now) c.deref-5.result.now _ past_are
          (subst (λ others. All (Apart others) (bars_apart c.args.bars.open_bars.items c.deref-3.result.now)) same
          (apart_depths c.args.bars.open_bars.items c.deref-3.result.now));
    }

pub returns-clause-added : goal.returns-clause-added
returns-clause-added c =
    let ends = c.deref-3.ensures.value ∙ c.in_ok-ends.ensures.value ∙ ap ends_of_bars c.deref.ensures.value in
    c.in_ok-draw_line_rows.ensures.added c.args.bars.open_bars.items
    (c.deref-5.ensures.value ∙ c.in_ok-below.ensures.value
    ∙ ap (λ bars. bars_apart bars c.deref-3.result.now) c.deref-2.ensures.value ∙ ap (bars_apart c.args.bars.open_bars.items) ends)

-- no bars run beside the line
pub returns-then-is_empty-2-clause-added : goal.returns-then-is_empty-2-clause-added
returns-then-is_empty-2-clause-added c =
    let bars = c.args.bars.open_bars.items in
    let none : length bars ≡ 0 = grind (arith, nat_tests, sym c.is_empty-then-is_empty.ensures ∙ c.if-is_empty-2.true) in
    let empty : bars ≡ [] = same_lists _ _ none (λ k d h. absurd (omega (arith, none, h))) in
    c.in_ok-draw_marked_line.ensures.added bars (sym (ap (λ bs. bars_apart bs (ends_of_bars c.args.line.now.info.annotations.items)) empty))
