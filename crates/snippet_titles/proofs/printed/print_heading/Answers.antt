use Rattle.snippet_titles.proofs.Common.{[], List, adds_none, string_bytes, subst, Cell, IfOk-weaker, WeavesRows}
use Rattle.snippet_titles.proofs.PrintedLemmas.{row_known, row_some}
use Rattle.snippet_titles.proofs.printed.print_heading.Goals as goal

pub returns : goal.returns
returns g c =
    let start = c.args.begun in
    let adds = c.in_ok-add_word.ensures.added start _ (c.in_ok-write_label.ensures.added start _ _ c.level-2.ensures c.id.ensures
    (c.in_ok-write_sign.ensures.added start [] (adds_none start))) in
    record {
      rows = IfOk-weaker c.end.result _ _ (λ text gained old plain begun.
          subst (λ (rows : List (List Cell)). WeavesRows start.codes.now start.level rows old (string_bytes text))
          (row_known c.args.hyperlink c.args.style _ _ _ c.roles_of-roles.result _ c.level.ensures c.allows_styling.ensures c.roles_of-roles.ensures.value
          c.text.ensures c.text.utf8 plain)
          (gained start _ adds (row_some _ c.roles_of-roles.result.text _ _ c.text.ensures c.text.utf8 plain) old begun)) c.end.ensures.gained;
    }
