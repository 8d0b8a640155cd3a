-- What a diagnostic is headed by stays, and the files of a package are no part of what it is read as.
use Rattle.std.proofs.Common.{◌∙◌, Bool, List, ℕ, Option, None, Some, String, ap, option_map, string_bytes}
use Rattle.std.specs.Global.{Global, Vec}
use Rattle.serde_json.specs.Data.{Data}
use Rattle.redraw_report.specs.declared.diagnostic.Diagnostic.{Diagnostic}
use Rattle.redraw_read.specs.Rustc.{IsReadAs, IsShownBy}
use Rattle.redraw_read.specs.Told.{IsHeaded, KeepsHeading, code_seen}

-- what is headed as a value says stays so, where the level, the message and the code stay
pub headed_as : (d : Data) (old new : Diagnostic) → IsHeaded d old → KeepsHeading old new → IsHeaded d new
headed_as d old new is keeps = record {
  heading = record {
    level = rw keeps.severity is.heading.level;
    text = is.heading.text;
    said = is.heading.said;
    is = ap string_bytes keeps.message ∙ is.heading.is;
  };
  code = ap (option_map code_seen) keeps.code ∙ is.code;
  gone = keeps.gone ∙ is.gone;
}

shows_homes : (first : Bool) (text : Option (List ℕ)) (old new : Diagnostic) (homes : Vec (String Global)) → IsShownBy first text old new
    → IsShownBy first text (record old { homes = homes }) (record new { homes = homes })
shows_homes first None old new homes shows = ap (λ (d : Diagnostic). record d { homes = homes }) shows
shows_homes first (Some text) old new homes shows = (
  shows.0,
  shows.1,
  record { children = shows.2.children; labels = shows.2.labels; told = shows.2.told; places = shows.2.places },
)

pub reads_homes : (d : Data) (diagnostic : Diagnostic) (homes : Vec (String Global)) → IsReadAs d diagnostic → IsReadAs d (record diagnostic { homes = homes })
reads_homes d diagnostic homes reads = record {
  headed = record { heading = reads.headed.heading; code = reads.headed.code; gone = reads.headed.gone };
  reader = reads.reader;
  told = record reads.told { homes = homes };
  tells = record {
    headed = record { heading = reads.tells.headed.heading; code = reads.tells.headed.code; gone = reads.tells.headed.gone };
    places = reads.tells.places;
    children = reads.tells.children;
  };
  text = reads.text;
  own = reads.own;
  shown = record reads.shown { homes = homes };
  shows = shows_homes reads.reader.puts_labels_first reads.text reads.told reads.shown homes reads.shows;
  apart = λ none. ap (λ (x : Diagnostic). record x { homes = homes }) (reads.apart none);
}
