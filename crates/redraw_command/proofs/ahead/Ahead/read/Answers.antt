use Rattle.std.proofs.Common.{List, ap, arith, drop, ℕ, ◌++◌, ◌∙◌}
use Rattle.redraw_command.specs.LookAhead.{ahead_of}
use Rattle.redraw_command.proofs.LookingAhead.{dropped_more, read_kept, takes_next}
use Rattle.redraw_command.proofs.ahead.Ahead.read.Goals as goal

pub returns-in_ok-extend_from_slice-clause-kept : goal.returns-in_ok-extend_from_slice-clause-kept
returns-in_ok-extend_from_slice-clause-kept g c =
    let old = c.args.self.now in
    let line = c.read_line.new.line.items in
    let new = c.extend_from_slice.new.self.items in
    read_kept old.is_ended (g.B.Read.remaining old.reader) (g.B.Read.remaining c.read_line.new.reader) (ahead_of old) (drop old.start new) line c.requires
    (takes_next c.in_ok-read_line.field-0 _ _ line c.if-branch.true c.in_ok-read_line.ensures.next)
    (dropped_more old.bytes.items line new old.start (omega (arith, old.within, old.bytes.ok.0))
    (c.in_ok-extend_from_slice.ensures.items ∙ ap (λ (l : List ℕ). old.bytes.items ++ l) c.deref.ensures.value))
