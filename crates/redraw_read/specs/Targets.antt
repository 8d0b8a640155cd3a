-- How the places are found that labels go to.
use Rattle.std.specs.Prelude.{◌≡◌, ℕ, zero, suc, ◌++◌, Bool, List, [], ◌∷◌, Option, Some, None, if◌then◌else◌}
use Rattle.std.specs.BTreeMap.{BTreeMap, get}
use Rattle.std.specs.Global.{Global}
use Rattle.std.specs.Option.{option_map, option_map_or}
use Rattle.std.specs.declared.collections.VecDeque.{VecDeque}
use Rattle.redraw_report.specs.declared.diagnostic.FileSpan.{FileSpan}
use Rattle.redraw_read.specs.Labels.{is_bare_at, labelled, own_place, takes, with_label}
use Rattle.redraw_read.specs.Roles.{FilePart, part_cmp}
use Rattle.redraw_read.specs.declared.labels.EditLabel.{EditLabel}

-- the index of the first of some places that takes a label
abbrev pub target : EditLabel → List FileSpan → Option ℕ
target l [] = None
target l (s ∷ spans) = if takes l s then Some 0 else option_map suc (target l spans)

-- the indices of the places that labels go to, which are put one after another
abbrev pub targets : List EditLabel → List FileSpan → List (Option ℕ)
targets [] spans = []
targets (l ∷ labels) spans = target l spans ∷ targets labels (with_label l spans)

-- some places with a label at this index
abbrev pub label_at : ℕ → EditLabel → List FileSpan → List FileSpan
label_at n l [] = []
label_at zero l (s ∷ spans) = labelled l s ∷ spans
label_at (suc n) l (s ∷ spans) = s ∷ label_at n l spans

-- some places with a label at this index, or as a place of its own
abbrev pub put_at : Option ℕ → EditLabel → List FileSpan → List FileSpan
put_at None l spans = spans ++ own_place l ∷ []
put_at (Some n) l spans = label_at n l spans

-- some places with labels, each at its index
abbrev pub put_each : List (Option ℕ) → List EditLabel → List FileSpan → List FileSpan
put_each found [] spans = spans
put_each [] (l ∷ labels) spans = put_each [] labels (put_at None l spans)
put_each (t ∷ found) (l ∷ labels) spans = put_each found labels (put_at t l spans)

-- the indices, counted from this one, of the places that pass a test
abbrev pub indices_of : ℕ → (FileSpan → Bool) → List FileSpan → List ℕ
indices_of n test [] = []
indices_of n test (s ∷ spans) = if test s then n ∷ indices_of (suc n) test spans else indices_of (suc n) test spans

-- what is kept by a part of a file
abbrev pub kept_by : BTreeMap FilePart (VecDeque ℕ Global) → FilePart → List ℕ
kept_by places part = option_map_or (λ (q : VecDeque ℕ Global). q.items) (get part_cmp places part) []

-- the indices of bare places are kept by the parts of files that the places are
abbrev pub AreBarePlaces : BTreeMap FilePart (VecDeque ℕ Global) → List FileSpan → Type 0
AreBarePlaces places spans = (part : FilePart) → kept_by places part ≡ indices_of 0 (is_bare_at part.0 part.1.now) spans
