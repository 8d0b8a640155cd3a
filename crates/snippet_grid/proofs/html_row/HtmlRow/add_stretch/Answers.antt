use Rattle.snippet_grid.proofs.Common.{common_steps, ◌≡◌, ◌++◌, [], arith, map, refl, rules, string_bytes, subst, sym, nil_from_length, chars-nil}
use Rattle.snippet_grid.proofs.Common.{option_copied, AddsHtml, HtmlGoes, HtmlLook, Text, cells_alike, look_at, look_seen, tags_between}
use Rattle.std.specs.Str.{chars}
use Rattle.snippet_grid.proofs.GridShown.{chars_some}
use Rattle.snippet_grid.proofs.HtmlReads.{adds_both, adds_text, html_stretch}
use Rattle.snippet_grid.proofs.HtmlRows.{html_none}
use Rattle.snippet_grid.proofs.html_row.HtmlRow.add_stretch.Goals as goal

pub returns-then-is_empty : goal.returns-then-is_empty
returns-then-is_empty c = grind (arith, common_steps, nil_from_length, chars-nil, html_none)

pub returns : goal.returns
returns c =
    let row = c.args.self.now in
    let link = option_copied c.args.link in
    let word = chars c.args.word.now in
    let last : HtmlLook = look_seen row.last in
    let look : HtmlLook = look_at row.level c.args.role link in
    let is : look_seen c.look_of-next.result ≡ look = c.look_of-next.ensures.value in
    record {
      added = record {
        level = refl;
        printed = λ cells old printed. record {
          goes = subst (λ (l : HtmlLook). HtmlGoes row.level l (cells ++ cells_alike c.args.role link word) old (string_bytes c.push_escaped.new.out)) (sym is)
              (html_stretch row.level last c.args.role link word cells old _ _
              (chars_some c.args.word.now c.utf8.word (first_of (omega arith, search rules, grind arith)))
              (adds_both (tags_between last look) (map Text word) (string_bytes row.text) (string_bytes c.change_look.new.out) _
              (subst (λ (l : HtmlLook). AddsHtml (tags_between last l) (string_bytes row.text) (string_bytes c.change_look.new.out)) is
              c.in_ok-change_look.ensures.added) (adds_text word (string_bytes c.change_look.new.out) _ c.in_ok-push_escaped.ensures.added)) printed.goes);
        };
      };
    }
