use Rattle.serde_json.specs.View.{view}
use Rattle.json_lines.specs.Field.{lent_text}
use Rattle.redraw_read.proofs.Homes.{headed_as}
use Rattle.redraw_read.proofs.rustc.diagnostic_by.Goals as goal

pub returns : goal.returns
returns c =
    let shown = c.in_ok-diagnostic.ensures.shown in
    record {
      read = record {
        headed = headed_as (view c.args.node.now.value.now) _ _ c.in_ok-diagnostic.ensures.headed c.in_ok-with_files_apart.ensures.headed;
        reader = c.in_ok-reader.reader;
        told = shown.0;
        tells = shown.1;
        text = lent_text c.in_ok-text.text;
        own = c.in_ok-text.ensures.is;
        shown = c.in_ok-diagnostic.diagnostic;
        shows = shown.2;
        apart = c.in_ok-with_files_apart.ensures.whole;
      };
    }
