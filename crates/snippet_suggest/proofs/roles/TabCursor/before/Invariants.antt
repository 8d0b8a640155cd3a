use Rattle.snippet_suggest.proofs.Common.{◌≡◌, ◌-◌, ◌≤◌, IsCursor}
use Rattle.snippet_suggest.proofs.roles.TabCursor.before.Given as goal

-- the walk goes on in the line, and not past the character
abbrev pub invariant-loop-self : goal.invariant-loop-self
invariant-loop-self l = record {
  at : IsCursor l.self;
  line : l.self.line.now ≡ l.fn.self.line.now;
  few : l.self.passed ≤ l.character;
}

-- so many characters are still to be passed
abbrev pub decreases-loop-self : goal.decreases-loop-self
decreases-loop-self l = l.character - l.self.passed
