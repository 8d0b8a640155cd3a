-- Where the texts of edits stand in the patched source, and which of its lines they touch.
use Rattle.std.specs.Prelude.{◌≡◌, ◌≢◌, ℕ, ◌+◌, ◌<◌, ◌≤◌, ◌⊎◌, max, List, [], ◌∷◌, All, Contains, length, map, fold}
use Rattle.std.specs.List.{slice_range}
use Rattle.snippet_lines.specs.Lines.{source_lines, start_of, last_byte}
use Rattle.snippet_lines.specs.Place.{line_of}
use Rattle.snippet_splice.specs.Edits.{Edit, trimmed_edits, patched}

-- where a text stands in the patched source
pub record Stand : Type 0 where
  pub from : ℕ
  pub to : ℕ

-- where the texts of these edits stand, the first bytes of the patched source being given and the source from a byte on
-- still to come
abbrev pub stands_from : List ℕ → ℕ → ℕ → List Edit → List Stand
stands_from source at now [] = []
stands_from source at now (e ∷ es) =
    let from = now + length (slice_range source at e.start) in
    record { from = from; to = from + length e.text } ∷ stands_from source e.end (from + length e.text) es

-- where the texts of these edits stand in the patched source
abbrev pub stands : List ℕ → List Edit → List Stand
stands source es = stands_from source 0 0 es

-- the last line of the source that is reached: the line of the greatest end of a trimmed edit
unfoldable pub last_line_reached : List ℕ → List Edit → ℕ
last_line_reached source es =
    line_of (source_lines source) (fold max 0 (map (λ e. e.end) (trimmed_edits source es)))

-- a text holds no CR
abbrev pub HasNoCr : List ℕ → Type 0
HasNoCr text = All (λ b. b ≢ 13) text

-- a byte isn't after an LF that ends the source
abbrev pub IsBeforeFinalLf : List ℕ → ℕ → Type 0
IsBeforeFinalLf source b = last_byte source ≡ 10 → b < length source

-- a place of a text is in line k: it lies in the line's bytes, LF counted, or at the end of a text that no LF ends
pub record IsInLine (text : List ℕ) (k b : ℕ) : Type 0 where
  pub within : k < length (source_lines text)
  pub from : start_of (source_lines text) k ≤ b
  pub to : (b < start_of (source_lines text) (k + 1)) ⊎ ((k + 1 ≡ length (source_lines text)) × (b ≡ length text) × (last_byte text ≢ 10))

-- line k of a text is touched by what stands there: it holds a byte of it, or its place if it is empty
pub record IsTouchedBy (text : List ℕ) (k : ℕ) (s : Stand) : Type 0 where
  pub place : ℕ
  pub in_line : IsInLine text k place
  pub from : s.from ≤ place
  pub to : (place < s.to) ⊎ ((s.from ≡ s.to) × (place ≡ s.to))

-- line k of the patched source is touched: a trimmed text touches it
pub record IsTouched (source : List ℕ) (es : List Edit) (k : ℕ) : Type 0 where
  pub stand : Stand
  pub among : Contains (stands source (trimmed_edits source es)) stand
  pub by : IsTouchedBy (patched source es) k stand
