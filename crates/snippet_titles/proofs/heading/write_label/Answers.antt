use Rattle.snippet_titles.proofs.Common.{◌≡◌, ◌∙◌, List, ap, name_of, norm, on_ok_weaker, subst, Cell}
use Rattle.std.proofs.Common.{chars}
use Rattle.snippet_titles.proofs.LabelLemmas.{label_is}
use Rattle.snippet_titles.proofs.heading.write_label.Goals as goal

pub returns : goal.returns
returns g c =
    let name : chars c.as_str.result.now ≡ norm (chars (name_of c.args.level.now)) = ap chars c.as_str.ensures.value ∙ c.in_ok-name.ensures.value in
    record {
      added = on_ok_weaker c.add_word-2.result (λ last start cells heading leveled own adds.
          subst (λ (done : List Cell). g.S.RowSink.adds start c.add_word-2.new.self done)
          (label_is cells c.args.hyperlink c.args.roles heading c.args.level.now _ _ _ _ c.is_hidden-hidden.ensures.value name c.colon.ensures.value
          leveled own) (last start _ (c.in_ok-write_id.ensures.added start _ (c.in_ok-add_word.ensures.added start cells adds)))) c.add_word-2.ensures.added;
    }
