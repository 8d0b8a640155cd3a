-- How a document ends.
use Rattle.std.proofs.Common.{◌≡◌, ℕ, List, inl, subst}
use Rattle.std.specs.Prelude.{Result, Ok, Err}
use Rattle.output_stream.specs.Standing.{Adds, BreaksOff, Standing}
use Rattle.redraw_run.specs.HtmlDocument.{Ends}
use Rattle.redraw_run.specs.ReadLines.{PrintsBytes}

-- what is printed ends it
pub ends_printed : {T E : Type 0} (a b : Standing) (r : Result T E) (bs whole : List ℕ) → bs ≡ whole → PrintsBytes r a b bs → Ends r a b whole
ends_printed a b (Ok x) bs whole is h = subst (Adds a b) is h
ends_printed a b (Err e) bs whole is h = inl (subst (BreaksOff a b) is h)
