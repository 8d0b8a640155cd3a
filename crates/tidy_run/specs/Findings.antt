-- What a rule finds in a source.
use Rattle.std.specs.Prelude.{◌≡◌, ℕ, zero, suc, ◌+◌, ◌<◌, ◌≤◌, nat_lt, Option, Some, None, List, [], ◌∷◌, All, length, slice_index_or, if◌then◌else◌}
use Rattle.std.specs.Str.{IsCharBoundary}
use Rattle.tidy_run.specs.declared.rule.Edit.{Edit}

-- a finding: the bytes from `start` to before `end` of a source, and the text that is to stand in their place
pub record Finding : Type 0 where
  pub start : ℕ
  pub end : ℕ
  pub text : List ℕ

-- what an edit stands for
abbrev pub finding_of : Edit → Finding
finding_of edit = record { start = edit.span.start; end = edit.span.end; text = edit.text.now }

-- a finding that starts at byte `from` of a source or after it: it lies inside the source, between characters, and takes no byte only
-- where it stands at the source's end; its text has at most 64 bytes
pub record IsFinding (source : List ℕ) (from : ℕ) (f : Finding) : Type 0 where
  pub after : from ≤ f.start
  pub ordered : f.start ≤ f.end
  pub inside : f.end ≤ length source
  pub starts : IsCharBoundary source f.start
  pub ends : IsCharBoundary source f.end
  pub empty : f.start ≡ f.end → f.end ≡ length source
  pub short : length f.text ≤ 64

-- a title of findings: printable ASCII, at most 64 bytes
pub record IsTitle (title : List ℕ) : Type 0 where
  pub printable : All (λ b. (32 ≤ b) × (b < 127)) title
  pub short : length title ≤ 64

-- a finding, and the rest: what is found from its end on, or nothing after one that takes no byte
abbrev pub with_rest : (ℕ → List Finding) → Option Finding → List Finding
with_rest rest None = []
with_rest rest (Some f) = f ∷ (if nat_lt f.start f.end then rest f.end else [])

-- the findings that come one after another, at most so many: the first at byte `from` or after it, then the first at the end of that or
-- after it, and so on. They end where there is none, and after one that takes no byte
abbrev pub findings_from : (ℕ → Option Finding) → ℕ → ℕ → List Finding
findings_from find zero from = []
findings_from find (suc more) from = with_rest (findings_from find more) (find from)

-- a rule's findings in a source, where `find` is what the rule finds there first from a byte on. Each but the last takes a byte or more,
-- so there are no more of them than bytes, and one
unfoldable pub findings_of : (ℕ → Option Finding) → List ℕ → List Finding
findings_of find source = findings_from find (length source + 1) 0

-- findings of a source that come one after another from byte `at` on
abbrev pub AreInside : List ℕ → ℕ → List Finding → Type 0
AreInside source at [] = Unit {0}
AreInside source at (f ∷ fs) = IsFinding source at f × AreInside source f.end fs

-- a finding of ASCII characters, one or more, that begins at byte `at`: it ends at the source's end, or before one that is ASCII too
pub record IsRunAt (source : List ℕ) (at : ℕ) (f : Finding) : Type 0 where
  pub begins : f.start ≡ at
  pub takes : at < f.end
  pub inside : f.end ≤ length source
  pub from_ascii : slice_index_or source at 0 < 128
  pub to_ascii : f.end < length source → slice_index_or source f.end 0 < 128
  pub short : length f.text ≤ 64
