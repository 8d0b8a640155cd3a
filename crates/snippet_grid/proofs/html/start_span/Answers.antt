use Rattle.snippet_grid.proofs.Common.{◌∙◌, sym, string_bytes, on_ok_weaker}
use Rattle.snippet_grid.proofs.HtmlReads.{adds_span}
use Rattle.snippet_grid.proofs.RunLemmas.{on_ok_value}
use Rattle.snippet_grid.proofs.html.start_span.Goals as goal

pub returns : goal.returns
returns c =
    record {
      added = on_ok_weaker c.push_str-3.result
          (λ third. adds_span c.args.class.now (string_bytes c.args.out.now) (string_bytes c.push_str.new.self) (string_bytes c.push_str-2.new.self) _
          c.utf8.class (sym c.is_empty.ensures ∙ c.if-is_empty.false) c.in_ok-push_str.ensures.bytes c.in_ok-push_str-2.ensures.bytes third)
          (on_ok_value c.push_str-3.result _ _ _ c.push_str-3.ensures.bytes);
    }
