use Rattle.snippet_titles.proofs.Common.{◌∙◌, ◌<◌, [], ap, refl, subst, List, ℕ, string_bytes, IfOk-weaker, cow_str_bytes, IsUtf8, adds_none, chars_some}
use Rattle.snippet_titles.proofs.Common.{Heading, heading_of_title, length, arith}
use Rattle.snippet_titles.specs.ShortParts.{rows_of}
use Rattle.std.proofs.Common.{chars}
use Rattle.snippet_titles.proofs.ShortRowLemmas.{plain_lines, row_is, row_printed, row_some}
use Rattle.snippet_titles.proofs.short.row_text.Goals as goal

pub returns : goal.returns
returns c =
    let p = c.args.parts.now in
    let heading : Heading = heading_of_title p.title.now in
    let text : List ℕ = cow_str_bytes p.title.now.text in
    let utf8 : IsUtf8 text = subst IsUtf8 c.as_str-2.ensures.value c.as_str-2.utf8 in
    let start = c.after-row.result in
    let some = chars_some text utf8 c.requires.some in
    let words : List ℕ = chars c.as_str-2.result.now in
    let there : 0 < length words = omega (arith, ap length (ap chars c.as_str-2.ensures.value), some) in
    let adds = c.in_ok-add_word-3.ensures.added start _ (c.in_ok-add_word-2.ensures.added start _ (c.in_ok-write_label.ensures.added start _ heading refl
    c.id.ensures.value (c.in_ok-add_word.ensures.added start [] (adds_none start)))) in
    let row = row_is p.hyperlink (chars (string_bytes p.before)) (chars (string_bytes p.after)) (chars text) _ _ _ heading c.roles_of-roles.result
    c.roles_of-roles.ensures.value (plain_lines heading text utf8 refl c.requires.plain) some (ap chars c.as_str.ensures.value)
    (ap chars c.as_str-2.ensures.value) (ap chars c.as_str-3.ensures.value) in
    record {
      prints = IfOk-weaker c.end.result _ _ (λ given gained.
          row_printed c.args.sheet.now c.args.level start _ (rows_of p) _ (string_bytes given)
          (c.after-row.ensures.sheet ∙ c.new-codes.ensures.sheet) c.after-row.ensures.level row c.in_ok-room.ensures.bytes
          (gained start _ adds (row_some _ _ _ words there) (string_bytes c.in_ok-room.room)
          c.after-row.ensures.none)) c.end.ensures.gained;
    }
