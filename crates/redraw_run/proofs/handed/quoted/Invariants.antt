-- What is written so far, and what becomes of the rest, are what becomes of the whole.
use Rattle.std.proofs.Common.{◌≡◌, ◌++◌, drop, true}
use Rattle.redraw_run.specs.Handed.{quoted}
use Rattle.redraw_run.proofs.handed.quoted.Given as goal

abbrev pub invariant-loop-byte : goal.invariant-loop-byte
invariant-loop-byte l = l.quoted.items ++ quoted l.starts (drop l.byte-index l.text) ≡ quoted true l.text
