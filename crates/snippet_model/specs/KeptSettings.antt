-- What a snippet keeps where markers are added to it.
use Rattle.std.specs.Prelude.{◌≡◌}
use Rattle.snippet_model.specs.declared.snippet.Snippet.{Snippet}

-- a snippet has what another one has beside its markers: source, path, number of the first line, numbering and folding
pub record KeepsSettings {T : Type 0} (given snippet : Snippet T) : Type 0 where
  pub source : snippet.source ≡ given.source
  pub path : snippet.path ≡ given.path
  pub line_start : snippet.line_start ≡ given.line_start
  pub line_numbering : snippet.line_numbering ≡ given.line_numbering
  pub fold : snippet.fold ≡ given.fold
