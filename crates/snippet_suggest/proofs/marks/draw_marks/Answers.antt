use Rattle.snippet_suggest.proofs.Common.{drop, with_marks, ◌≡◌, ◌∙◌, ◌+◌, ◌<◌, ℕ, [], ◌∷◌, ◌++◌, List, ap, get_or, length, map, take, TrimmedPatch, Edit}
use Rattle.snippet_suggest.proofs.Common.{trimmed_edit_of, PatchColumns, edit_columns, patch_mark_end, mark_start, drop_all, drop_more, map-append, take_more}
use Rattle.std.proofs.lemmas.Grind.{common_steps}
use Rattle.std.proofs.Common.{arith}
use Rattle.snippet_suggest.proofs.MarksDrawn.{marked_done, marked_next}
use Rattle.snippet_suggest.proofs.marks.draw_marks.Goals as goal

pub loop-patch-init : goal.loop-patch-init
loop-patch-init c = grind (arith, c.none-moves.ensures.of)

pub loop-patch-preserved : goal.loop-patch-preserved
loop-patch-preserved c =
    let a = c.args in
    let m = a.map.now in
    let inv = c.loop-patch.invariant in
    let i : ℕ = c.loop-patch.patch-index in
    let ps : List TrimmedPatch = a.patches.now in
    let within : i < length ps = c.loop-patch-test.true in
    let d : TrimmedPatch = record {
      original_span = record { start = 0; end = 0 };
      span = record { start = 0; end = 0 };
      replacement = grind (arith, common_steps);
    } in
    let f : TrimmedPatch → PatchColumns = λ p. edit_columns m (trimmed_edit_of p) in
    let e : Edit = trimmed_edit_of (get_or ps i d) in
    let earlier : List PatchColumns = map f (take i ps) in
    let columns = c.patch_columns-columns.ensures.value in
    let more : map f (take (i + 1) ps) ≡ earlier ++ edit_columns m e ∷ [] = cc (take_more ps i d within, map-append f (take i ps) (get_or ps i d ∷ [])) in
    let shift = c.before-in-loop-patch.ensures.value earlier inv.of in
    let bounds = c.marked_columns-start.ensures.value earlier shift in
    record {
      of = grind (arith, common_steps, more, earlier, columns, inv, c.push.new.self, c.in_ok-push.ensures.of, inv.of);
      cells = λ above last here is.
          let so_far = inv.cells above last here is in
          marked_next a.layout.now m earlier (map f (take (i + 1) ps)) e (map trimmed_edit_of (drop i ps)) (map trimmed_edit_of (drop (i + 1) ps))
          (with_marks a.layout.now m [] (map trimmed_edit_of ps) last)
          above c.loop-patch.buffer c.draw_mark.new.buffer c.patch_mark-mark.result c.marked_columns-start.result.0
          c.marked_columns-start.result.1 so_far (ap (map trimmed_edit_of) (drop_more ps i d within))
          more (c.patch_mark-mark.ensures.value (c.requires.spans i d within))
          (ap (λ (b : ℕ × ℕ). b.0) bounds ∙ ap (λ (x : PatchColumns). mark_start earlier x e.text) columns)
          (ap (λ (b : ℕ × ℕ). b.1) bounds ∙ ap (λ (x : PatchColumns). patch_mark_end earlier x e.text) columns)
          (c.in_ok-draw_mark.ensures.cells above so_far.row here so_far.is);
    }

pub returns : goal.returns
returns c = grind (arith, common_steps, marked_done, drop_all)
