use Rattle.snippet_grid.proofs.Common.{common_steps, ◌≡◌, [], List, ℕ, None, Some, Option, ap, arith, refl, rules, subst, nil_from_length, chars-nil}
use Rattle.snippet_grid.proofs.Common.{option_copied, string_bytes, Goes, style_at}
use Rattle.std.specs.Str.{chars}
use Rattle.snippet_grid.proofs.GridShown.{chars_some}
use Rattle.snippet_grid.proofs.OpenRowLemmas.{adds_none}
use Rattle.snippet_grid.proofs.ReplaceLemmas.{stretch_printed}
use Rattle.snippet_grid.proofs.printed_row.PrintedRow.add_unlinked.Goals as goal

pub weave_stretch-requires : goal.weave_stretch-requires
weave_stretch-requires c = record { some = chars_some c.args.word.now c.utf8.word (first_of (omega arith, search rules, grind arith)) }

pub returns-then-is_empty : goal.returns-then-is_empty
returns-then-is_empty c = grind (arith, common_steps, nil_from_length, chars-nil, adds_none)

pub returns : goal.returns
returns c =
    let row = c.args.self.now in
    let sheet = row.codes.now in
    let none : option_copied row.last.link ≡ None = ap option_copied c.requires.unlinked in
    record {
      added = record {
        sheet = refl;
        level = refl;
        printed = λ cells old printed. record {
          goes = stretch_printed sheet row.level (style_at sheet row.last.place) (style_at sheet c.place_of.result) c.args.role
              None None (chars c.args.word.now) cells old _ _
              (chars_some c.args.word.now c.utf8.word (first_of (omega arith, search rules, grind arith))) (c.place_of.ensures.place sheet sheet.none)
              c.in_ok-weave_stretch.ensures.text
              (subst (λ (link : Option (List ℕ)). Goes sheet row.level (Some (style_at sheet row.last.place)) link cells old (string_bytes row.text))
              none printed.goes);
        };
      };
    }
