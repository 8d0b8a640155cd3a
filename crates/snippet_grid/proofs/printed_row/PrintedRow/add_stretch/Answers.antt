use Rattle.snippet_grid.proofs.Common.{common_steps, [], arith, refl, rules, nil_from_length, chars-nil, option_copied, style_at}
use Rattle.std.specs.Str.{chars}
use Rattle.snippet_grid.proofs.GridShown.{chars_some}
use Rattle.snippet_grid.proofs.OpenRowLemmas.{adds_none}
use Rattle.snippet_grid.proofs.ReplaceLemmas.{stretch_printed}
use Rattle.snippet_grid.proofs.printed_row.PrintedRow.add_stretch.Goals as goal

pub weave_stretch-requires : goal.weave_stretch-requires
weave_stretch-requires c = record { some = chars_some c.args.word.now c.utf8.word (first_of (omega arith, search rules, grind arith)) }

pub returns-then-is_empty : goal.returns-then-is_empty
returns-then-is_empty c = grind (arith, common_steps, nil_from_length, chars-nil, adds_none)

pub returns : goal.returns
returns c =
    let row = c.args.self.now in
    let sheet = row.codes.now in
    record {
      added = record {
        sheet = refl;
        level = refl;
        printed = λ cells old printed. record {
          goes = stretch_printed sheet row.level (style_at sheet row.last.place) (style_at sheet c.place_of.result) c.args.role
              (option_copied row.last.link) (option_copied c.args.link) (chars c.args.word.now) cells old _ _
              (chars_some c.args.word.now c.utf8.word (first_of (omega arith, search rules, grind arith))) (c.place_of.ensures.place sheet sheet.none)
              c.in_ok-weave_stretch.ensures.text printed.goes;
        };
      };
    }
