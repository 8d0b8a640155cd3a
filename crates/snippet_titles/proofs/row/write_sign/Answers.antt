use Rattle.snippet_titles.proofs.Common.{List, subst, Cell}
use Rattle.snippet_titles.proofs.LabelLemmas.{sign_is}
use Rattle.snippet_titles.proofs.row.write_sign.Goals as goal

pub returns-in_ok-add_word : goal.returns-in_ok-add_word
returns-in_ok-add_word g c = record {
  added = λ start cells adds. subst (λ (done : List Cell). g.S.RowSink.adds start c.add_word.new.self done)
      (sign_is cells c.args.style.now c.in-Message.place _ _ c.in-Message.is c.separator_cell.ensures.value c.sign.ensures.value)
      (c.in_ok-add_word.ensures.added start _ (c.in_ok-add_spaces.ensures.added start cells adds));
}
