use Rattle.snippet_titles.proofs.Common.{◌≡◌, ◌∙◌, List, ap, on_ok_weaker, subst, cow_str_bytes, option_map, Cell, norm}
use Rattle.std.proofs.Common.{chars}
use Rattle.snippet_titles.proofs.LabelLemmas.{id_is}
use Rattle.snippet_titles.proofs.id.write_set_id.Goals as goal

pub returns : goal.returns
returns g c =
    let shown : chars c.as_str.result.now ≡ norm (chars (cow_str_bytes c.in-Some.text)) = ap chars c.as_str.ensures.value ∙ c.in_ok-shown.ensures.value in
    record {
      added = on_ok_weaker c.add_word-2.result (λ last start cells adds. subst (λ (done : List Cell). g.S.RowSink.adds start c.add_word-2.new.self done)
          (id_is cells c.args.hyperlink c.args.hidden c.args.role c.args.id.now (cow_str_bytes c.in-Some.text) _ _ _ _
          (ap (option_map cow_str_bytes) c.in-Some.is) c.opening_bracket.ensures.value shown c.address_of.ensures.value c.closing_bracket.ensures.value)
          (last start _ (c.in_ok-write_linked.ensures.added start _ (c.in_ok-add_word.ensures.added start cells adds)))) c.add_word-2.ensures.added;
    }
