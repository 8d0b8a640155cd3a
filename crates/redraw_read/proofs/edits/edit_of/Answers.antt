use Rattle.std.proofs.Common.{◌∙◌, Some, ap, subst, sym}
use Rattle.redraw_report.specs.declared.diagnostic.Region.TheVariants as region
use Rattle.redraw_read.specs.Edits.{AreBlanksBefore, moved_back}
use Rattle.redraw_read.proofs.edits.edit_of.Goals as goal

pub returns : goal.returns
returns c =
    let text = c.args.replacement.now in
    let blanks = c.blank_before-blank.result.now in
    let part = c.part_for-region.ensures.value in
    record {
      is =
          record {
            file = c.in_ok-file.ensures.value ∙ ap Some (sym c.in_ok-owned.ensures.value);
            whole = c.in_ok-whole.whole;
            says = c.in_ok-whole.ensures.value;
            lines = c.in_ok-carried.ensures.are;
            blanks = blanks;
            stand = subst (λ r. AreBlanksBefore r text blanks) part c.blank_before-blank.ensures.stand;
            changes = ap region.Lines (c.moved_back.ensures.value ∙ ap (λ r. moved_back r blanks) part);
            puts = c.in_ok-replacement.ensures.ok;
          };
    }
