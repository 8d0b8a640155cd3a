use Rattle.std.proofs.Common.{◌≡◌, ◌≤◌, ℕ, List, Some, map, string_bytes, true}
use Rattle.std.specs.Map.{lookup}
use Rattle.std.specs.Map.Iter.{deref_pair}
use Rattle.std.specs.Option.{IfSome, IsSomeAnd}
use Rattle.redraw_read.proofs.Begins.{is_key}
use Rattle.redraw_read.proofs.shown_lines.least_number.Given as goal
use Rattle.redraw_read.specs.Rendered.{is_of}
use Rattle.redraw_read.specs.ShownLines.{number_of}

-- the least number so far is one by a text that is the message's, and no greater than that of any such text so far
abbrev pub invariant-loop-text : goal.invariant-loop-text
invariant-loop-text l =
    record {
      is : IfSome l.least (λ n. (t : List ℕ) × (number_of l.numbers t ≡ Some n) × (is_of l.place (string_bytes l.message) t ≡ true));
      least : (t : List ℕ) (n : ℕ) → lookup (is_key t) (map deref_pair l.yielded) ≡ Some n → is_of l.place (string_bytes l.message) t ≡ true
          → IsSomeAnd l.least (λ k. k ≤ n);
    }
