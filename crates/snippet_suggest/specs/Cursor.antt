-- A walk over the characters of a line that counts tabs.
use Rattle.std.specs.Prelude.{◌≡◌, ◌≤◌, ◌==◌, chars, count_by, drop, length, take}
use Rattle.std.specs.Str.{IsUtf8}
use Rattle.std.specs.Str.Iter.{chars_rest}
use Rattle.snippet_splice.specs.EditStretches.{capped}
use Rattle.snippet_suggest.specs.declared.roles.TabCursor.{TabCursor}

-- the walk has passed so many characters of the line, and counted the tabs among them
pub record IsCursor (t : TabCursor) : Type 0 where
  pub text : IsUtf8 t.line.now
  pub left_text : IsUtf8 (chars_rest t.rest)
  pub within : t.passed ≤ length (chars t.line.now)
  pub left : chars (chars_rest t.rest) ≡ drop t.passed (chars t.line.now)
  pub counted : t.tabs ≡ capped (count_by (λ c. c == 9) (take t.passed (chars t.line.now)))
