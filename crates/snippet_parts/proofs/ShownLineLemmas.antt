-- Lines that are shown, one after the other.
use Rattle.snippet_parts.proofs.Common.{◌≡◌, ℕ, ◌+◌, ◌<◌, Bool, true, false, not, arith, cond, drop, List, [], ◌∷◌, ◌++◌, get_or, length, take, sym, ◌∙◌}
use Rattle.snippet_parts.proofs.Common.{append-nil, drop-map, get_or-map, length-map, map-append, map_push, take_more, All-cons, All-head, All-nil, All-tail}
use Rattle.snippet_parts.proofs.Common.{filter-append, AnnotatedLineInfo, ShownLine, infos_of, kept_of}
use Rattle.std.proofs.Common.{All}

-- one more line
pub infos_of-push : (lines : List ShownLine) (line : ShownLine) → infos_of (lines ++ line ∷ []) ≡ infos_of lines ++ line.info ∷ []
infos_of-push lines line = map_push (λ (l : ShownLine). l.info) lines line

kept_of-either : (lines : List ShownLine) (line : ShownLine) (between : Bool) → line.between ≡ between
    → kept_of (lines ++ line ∷ []) ≡ kept_of lines ++ infos_of (cond (not between) (line ∷ []) [])
kept_of-either lines line between is = grind (arith, filter-append, map-append)

-- one more line that is kept
pub kept_of-kept : (lines : List ShownLine) (line : ShownLine) → line.between ≡ false → kept_of (lines ++ line ∷ []) ≡ kept_of lines ++ line.info ∷ []
kept_of-kept lines line kept = kept_of-either lines line false kept

-- one more line that just stands between two
pub kept_of-between : (lines : List ShownLine) (line : ShownLine) → line.between ≡ true → kept_of (lines ++ line ∷ []) ≡ kept_of lines
kept_of-between lines line between = kept_of-either lines line true between ∙ append-nil (kept_of lines)

kept_of-taken : (lines : List ShownLine) (i : ℕ) (line : ShownLine) → i < length lines → line ≡ get_or lines i line
    → kept_of (take (i + 1) lines) ≡ kept_of (take i lines ++ line ∷ [])
kept_of-taken lines i line within is = grind (arith, take_more)

-- the lines up to the next one, which is kept
pub kept_of-next : (lines : List ShownLine) (i : ℕ) (line : ShownLine) → i < length lines → line ≡ get_or lines i line → line.between ≡ false
    → kept_of (take (i + 1) lines) ≡ kept_of (take i lines) ++ line.info ∷ []
kept_of-next lines i line within is kept =
    kept_of-taken lines i line within is ∙ kept_of-kept (take i lines) line kept

-- the lines up to the next one, which isn't
pub kept_of-past : (lines : List ShownLine) (i : ℕ) (line : ShownLine) → i < length lines → line ≡ get_or lines i line → line.between ≡ true
    → kept_of (take (i + 1) lines) ≡ kept_of (take i lines)
kept_of-past lines i line within is between =
    kept_of-taken lines i line within is ∙ kept_of-between (take i lines) line between

-- what holds of each line, with its entries
pub infos_all : (P : AnnotatedLineInfo → Type 0) (lines : List ShownLine) → All P (infos_of lines) → All (λ line. P line.info) lines
infos_all P [] all = All-nil (λ (l : ShownLine). P l.info)
infos_all P (line ∷ lines) all = grind (arith, All-cons, All-head, All-tail, infos_all P lines (All-tail P line.info (infos_of lines) all))

-- the line at a place
pub infos_of-at : (lines : List ShownLine) (i : ℕ) (line : ShownLine) → i < length lines → line ≡ get_or lines i line
    → (i < length (infos_of lines)) × (line.info ≡ get_or (infos_of lines) i line.info)
infos_of-at lines i line within is = grind (arith, length-map, get_or-map)

-- the lines from a place on
pub infos_of-drop : (lines : List ShownLine) (n : ℕ) → infos_of (drop n lines) ≡ drop n (infos_of lines)
infos_of-drop lines n = sym (drop-map (λ (l : ShownLine). l.info) n lines)

-- how many there are
pub infos_of-length : (lines : List ShownLine) → length (infos_of lines) ≡ length lines
infos_of-length lines = length-map lines (λ (l : ShownLine). l.info)
