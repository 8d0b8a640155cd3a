use Rattle.std.proofs.Common.{List, Some, None, length, subst, sym, ℕ}
use Rattle.memchr.specs.Find.{IsFirstByte, is_byte}
use Rattle.redraw_command.specs.LookAhead.{IsLineAhead, ahead_of, left_of}
use Rattle.redraw_command.proofs.LookingAhead.{line_found, line_read}
use Rattle.redraw_command.proofs.ahead.Ahead.line.Goals as goal

pub returns-in-Some-clause-line : goal.returns-in-Some-clause-line
returns-in-Some-clause-line g c =
    line_found c.args.self.now.is_ended (g.B.Read.remaining c.args.self.now.reader) (ahead_of c.args.self.now) c.in-Some.at
    (subst (λ (l : List ℕ). IsFirstByte (is_byte 10) l (Some c.in-Some.at)) c.bytes.ensures.value c.in-Some.ensures)

pub returns-in_ok-more-in-None-clause-line : goal.returns-in_ok-more-in-None-clause-line
returns-in_ok-more-in-None-clause-line g c =
    subst (λ (l : List ℕ). IsLineAhead (length l) (left_of g.B.Read.remaining c.args.self.now) (ahead_of c.more.new.self)) (sym c.bytes-in-None.ensures.value)
    (line_read c.in_ok-more-in-None.field-0 (left_of g.B.Read.remaining c.args.self.now) (ahead_of c.args.self.now) (ahead_of c.more.new.self)
    (subst (λ (l : List ℕ). IsFirstByte (is_byte 10) l None) c.bytes.ensures.value c.in-None.ensures) c.in_ok-more-in-None.ensures.reads)
