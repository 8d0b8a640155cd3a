use Rattle.snippet_grid.proofs.Common.{rules, arith, refl, string_bytes, IsUtf8-string_bytes}
use Rattle.snippet_grid.proofs.CopyLemmas.{IsGap-pushed}
use Rattle.snippet_grid.proofs.change.push_gap.Goals as goal

pub returns-clause-ok : goal.returns-clause-ok
returns-clause-ok c =
    IsGap-pushed (string_bytes c.args.text.now) (string_bytes c.push_spaces.new.out)
    _ c.args.row c.args.from c.args.to _ (IsUtf8-string_bytes c.args.text.now) (IsUtf8-string_bytes c.push_spaces.new.out)
    c.requires.some (omega arith) refl c.in_ok-push_spaces.ensures.text refl refl refl (search (rules, c.len-start.ensures))
    (search (rules, c.len.ensures)) refl refl
