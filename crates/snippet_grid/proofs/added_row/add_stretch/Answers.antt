use Rattle.snippet_grid.proofs.Common.{◌≡◌, ◌∙◌, ◌-◌, ◌<◌, ◌^◌, ap, arith, drop, encode_utf8_all, length, map, refl, rules}
use Rattle.snippet_grid.proofs.Common.{string_bytes, sym, take, get_or_default, length-drop, length-map, length-take, IsUtf8-string_bytes, ch_of, StyledChar}
use Rattle.std.proofs.Common.{chars}
use Rattle.snippet_grid.proofs.AddedRows.{FIRST}
use Rattle.snippet_grid.proofs.GridShown.{IsWord-pushed, chars_added}
use Rattle.snippet_grid.proofs.added_row.add_stretch.Goals as goal

pub returns-clause-ok : goal.returns-clause-ok
returns-clause-ok c =
    let old = string_bytes c.args.text.now in
    let new = string_bytes c.spell.new.text in
    let cells = c.args.cells.now in
    let from = c.args.from in
    let to = c.in_ok-to.to in
    let cs = map ch_of (take (to - from) (drop from cells)) in
    let spelt : chars (encode_utf8_all cs) ≡ cs = chars_added old new cs (IsUtf8-string_bytes c.args.text.now) (IsUtf8-string_bytes c.spell.new.text)
    c.in_ok-to.ensures.spelt c.spell.ensures.text in
    let many : to - from ≡ length (chars (encode_utf8_all cs)) = sym (ap length spelt ∙ length-map (take (to - from) (drop from cells)) ch_of
    ∙ omega (arith, length-take (to - from) (drop from cells), length-drop from cells, c.in_ok-to.ensures.within, c.in_ok-to.ensures.more)) in
    let fits : to < 2 ^ 64 = search (rules, c.spell.type_inv, c.in_ok-to.was) in
    record {
      run = _;
      is = c.in_ok-push.ensures.items;
      word = encode_utf8_all cs;
      holds = λ d. IsWord-pushed old new (encode_utf8_all cs) _ c.args.row from _ (IsUtf8-string_bytes c.args.text.now) (IsUtf8-string_bytes c.spell.new.text)
          (omega (arith, many, c.in_ok-to.ensures.more)) (omega (arith, many, c.in_ok-to.ensures.more, fits)) c.in_ok-to.ensures.spelt refl refl many
          (search (rules, c.len-start.ensures)) (search (rules, c.len.ensures))
          (ap (λ (x : StyledChar). x.role) (get_or_default cells from FIRST d c.requires.some)) refl;
      spells = spelt;
      more = c.in_ok-to.ensures.more;
      within = c.in_ok-to.ensures.within;
      role = c.in_ok-to.ensures.role;
      stops = c.in_ok-to.ensures.stops;
    }
