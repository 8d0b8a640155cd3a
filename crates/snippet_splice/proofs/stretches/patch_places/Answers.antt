use Rattle.snippet_splice.proofs.Common.{◌≡◌, ◌∙◌, ◌+◌, ◌<◌, ◌≤◌, ℕ, List, [], ◌∷◌, ap, arith, count_by, drop}
use Rattle.snippet_splice.proofs.Common.{get_or, length, map, subst, drop_more, is_lf, TrimmedPatch, Edit, characters_before, end_character}
use Rattle.snippet_splice.proofs.Common.{start_character, AreApart, trimmed_edit_of}
use Rattle.snippet_splice.proofs.PlaceLemmas.{between, empty_part_utf8, counted_more, extent_is, none_before, places_more, start_few, utf8_more}
use Rattle.snippet_splice.proofs.Common.{common_steps}
use Rattle.snippet_splice.proofs.stretches.patch_places.Goals as goal

pub loop-patch-init : goal.loop-patch-init
loop-patch-init c = grind (arith, common_steps, empty_part_utf8, none_before)

pub loop-patch-preserved : goal.loop-patch-preserved
loop-patch-preserved c =
    let source : List ℕ = c.args.source.now in
    let from : ℕ = c.args.from in
    let ps : List TrimmedPatch = c.args.patches.now in
    let i : ℕ = c.loop-patch.patch-index in
    let at : ℕ = c.loop-patch.at in
    let inv = c.loop-patch.invariant in
    let none : TrimmedPatch = record {
      original_span = record { start = 0; end = 0 };
      span = record { start = 0; end = 0 };
      replacement = record
          { ref_ptr = (0, 0); now = [] };
    } in
    let p : TrimmedPatch = get_or ps i none in
    let e : Edit = trimmed_edit_of p in
    let es : List Edit = map trimmed_edit_of (drop (i + 1) ps) in
    let within : i < length ps = c.loop-patch-test.true in
    let left : map trimmed_edit_of (drop i ps) ≡ e ∷ es = ap (map trimmed_edit_of) (drop_more ps i none within) in
    let apart : AreApart at (e ∷ es) = subst (AreApart at) left inv.apart in
    let span = c.requires.spans i none within in
    let low : from ≤ e.start = omega (arith, inv.after, apart.0) in
    let front = c.text_between-between.ensures.value inv.border span.from in
    let inside = c.text_between-inside.ensures.value span.from span.to in
    let utf8 = utf8_more source c.text_between-between.result.now from at e.start inv.after apart.0 front inv.utf8 c.text_between-between.utf8 in
    let before = counted_more source c.text_between-between.result.now from at e.start c.loop-patch.chars c.chars_after-text_start.result inv.after apart.0
    front inv.utf8 inv.counted c.chars_after-text_start.ensures.value (omega arith) in
    let counted : c.chars_after-chars.result ≡ characters_before source from e.end = counted_more source c.text_between-inside.result.now from e.start e.end
    c.chars_after-text_start.result c.chars_after-chars.result low apart.1 inside utf8 before c.chars_after-chars.ensures.value (omega arith) in
    let starts : c.saturating_add-start.result ≡ start_character source from e.start = omega
    (arith, c.saturating_add-start.ensures, before, c.steps_after_text.ensures.value, start_few source from e.start) in
    let ends : c.end_char.result ≡ end_character source from e = c.end_char.ensures.value from inside starts counted in
    let feeds : c.line_feed_count.result ≡ count_by is_lf (between source at e.start) = c.line_feed_count.ensures.value ∙ ap (count_by is_lf) front in
    let whole = rw left at inv.whole in
    record {
      border = span.to;
      after = omega (arith, low, apart.1);
      utf8 = utf8_more source c.text_between-inside.result.now from e.start e.end low apart.1 inside utf8 c.text_between-inside.utf8;
      counted = counted;
      apart = apart.2;
      whole = places_more _ _ _ _ _ _ c.in_ok-push.ensures.items (extent_is _ _ _ _ _ _ feeds before starts ends inside) whole;
    }
