use Rattle.snippet_grid.proofs.Common.{rules, refl, string_bytes, IsUtf8-string_bytes}
use Rattle.snippet_grid.proofs.GridShown.{IsWord-pushed}
use Rattle.snippet_grid.proofs.words.push_word.Goals as goal

pub returns-clause-ok : goal.returns-clause-ok
returns-clause-ok c =
    IsWord-pushed (string_bytes c.args.text.now) (string_bytes c.push_str.new.self)
    c.args.word.now _ c.args.row c.args.at c.args.role (IsUtf8-string_bytes c.args.text.now) (IsUtf8-string_bytes c.push_str.new.self)
    c.requires.some c.requires.end c.in_ok-push_str.ensures.bytes refl refl c.char_count-count.ensures.value (search (rules, c.len-start.ensures))
    (search (rules, c.len.ensures)) refl refl
