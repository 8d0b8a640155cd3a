use Rattle.snippet_grid.proofs.Common.{◌∙◌, sym, string_bytes, on_ok_weaker}
use Rattle.snippet_grid.proofs.HtmlReads.{adds_anchor}
use Rattle.snippet_grid.proofs.RunLemmas.{on_ok_value}
use Rattle.snippet_grid.proofs.html.start_anchor.Goals as goal

pub returns : goal.returns
returns c =
    record {
      added = on_ok_weaker c.push_str-2.result
          (λ third. adds_anchor c.args.address.now (string_bytes c.args.out.now) (string_bytes c.push_str.new.self) (string_bytes c.push_escaped.new.out) _
          (sym c.is_empty.ensures ∙ c.if-is_empty.false) c.in_ok-push_str.ensures.bytes c.in_ok-push_escaped.ensures.added third)
          (on_ok_value c.push_str-2.result _ _ _ c.push_str-2.ensures.bytes);
    }
