use Rattle.std.proofs.Common.{◌≡◌, ◌∙◌, ap, Option}
use Rattle.std.specs.BTreeMap.{get_by_text, insert_entry}
use Rattle.redraw_run.specs.Page.{first_or, name_order, with_report}
use Rattle.redraw_run.specs.declared.counts.Counts.{Counts}
use Rattle.redraw_run.specs.declared.page.ListedFile.{ListedFile}
use Rattle.redraw_run.proofs.page.Page.list.Goals as goal

pub returns-clause-lists : goal.returns-clause-lists
returns-clause-lists c =
    let file : ListedFile = c.first_or-listed.result in
    let counted_so : record { first = file.first; counts = c.with.result } ≡ with_report file c.args.kind =
    ap (λ (n : Counts). record { first = file.first; counts = n }) c.with.ensures.value in
    let found : file ≡ first_or (get_by_text c.args.self.now.files c.args.name.now) c.args.id =
    c.first_or-listed.ensures.value ∙ ap (λ (o : Option ListedFile). first_or o c.args.id) c.get.ensures.value in
    record {
      key = c.in_ok-key.key;
      named = c.in_ok-key.ensures.ok;
      kept =
          c.in_ok-insert.ensures.entries
          ∙ ap (λ (f : ListedFile). insert_entry name_order c.args.self.now.files.entries c.in_ok-key.key f)
          (counted_so ∙ ap (λ (f : ListedFile). with_report f c.args.kind) found);
    }
