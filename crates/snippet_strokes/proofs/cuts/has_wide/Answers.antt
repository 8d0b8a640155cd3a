use Rattle.snippet_strokes.proofs.Common.{◌∙◌, length, placeholder_of, sym}
use Rattle.snippet_strokes.proofs.LookedCuts.{none_wide}
use Rattle.snippet_strokes.proofs.cuts.has_wide.Goals as goal

pub returns-else-has_wider : goal.returns-else-has_wider
returns-else-has_wider c =
    record {
      value = c.if-has_wider.false
          ∙ sym (none_wide c.args.room (length (placeholder_of c.args.decor)) c.args.placed.now (sym c.has_wider.ensures.value ∙ c.if-has_wider.false));
    }
