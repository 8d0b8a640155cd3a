-- The writes of a label: one for each of its pieces that isn't empty.
use Rattle.snippet_strokes.proofs.Common.{◌≡◌, ℕ, zero, suc, ◌+◌, ◌<◌, ◌≤◌, ◌==◌, ◌||◌, not, Bool, true, false, cond, List, [], ◌∷◌, ◌++◌}
use Rattle.snippet_strokes.proofs.Common.{length, map, take, drop, get_or, refl, sym, ap, subst, ◌∙◌, arith, All, All-append, All-cons, All-head, All-nil}
use Rattle.snippet_strokes.proofs.Common.{All-tail}
use Rattle.snippet_strokes.proofs.Common.{append_assoc, drop_more, nat_tests, take-append-drop, Layout, code_cell, PlacedEntry, ElementStyle, label_role}
use Rattle.snippet_strokes.proofs.Common.{has_label, label_of, label_place, pieces_width, piece_at, pieces_at, shows_any, Write, ArePlaced}
use Rattle.snippet_strokes.proofs.Common.{LineAnnotation, is_listed, label_text, pieces_of, rules, if◌then◌else◌}
use Rattle.snippet_labels.proofs.PieceLemmas.{broken-all, pieces_are}
use Rattle.snippet_labels.specs.Pieces.{beside_column, broken, label_at, label_of_entry, label_pieces, label_width, text_pieces}
use Rattle.std.proofs.lemmas.List.Splits.{length-slice_split, slice_split-cons_no, slice_split-cons_yes}
use Rattle.std.proofs.lemmas.List.Sums.{count_by-le-length}
use Rattle.std.proofs.lemmas.Str.{length-le-encodes}
use Rattle.std.specs.List.{onto_first, slice_split}
use Rattle.snippet_parts.proofs.RawDepthLemmas.{greatest-cons}
use Rattle.snippet_strokes.proofs.Common.{common_steps}
use Rattle.snippet_strokes.proofs.TextLemmas.{free_label_text}

-- pieces after others
pub pieces_at-append : (row cell : ℕ) (role : ElementStyle) (ps qs : List (List ℕ))
    → pieces_at row cell role (ps ++ qs) ≡ pieces_at row cell role ps ++ pieces_at (row + length ps) cell role qs
pieces_at-append row cell role [] qs = ap (λ r. pieces_at r cell role qs) (omega arith)
pieces_at-append row cell role (p ∷ ps) qs = grind (arith, common_steps, append_assoc, pieces_at-append (row + 1) cell role ps qs)

-- one piece more
pub pieces_at-push : (row cell : ℕ) (role : ElementStyle) (ps : List (List ℕ)) (piece : List ℕ)
    → pieces_at row cell role (ps ++ piece ∷ []) ≡ pieces_at row cell role ps ++ piece_at (row + length ps) cell role piece
pieces_at-push row cell role ps piece =
    pieces_at-append row cell role ps (piece ∷ []) ∙ ap (λ ws. pieces_at row cell role ps ++ ws) (right_nil (piece_at (row + length ps) cell role piece))
  where
    right_nil : (ws : List Write) → ws ++ [] ≡ ws
    right_nil [] = refl
    right_nil (w ∷ ws) = ap (λ xs. w ∷ xs) (right_nil ws)

-- what holds of each piece that isn't empty holds of all writes
pub All-pieces_at : (P : Write → Type 0) (row cell : ℕ) (role : ElementStyle) (ps : List (List ℕ))
    → ((n : ℕ) → n < length ps → 0 < length (get_or ps n []) → P (record { row = row + n; cell = cell; text = get_or ps n []; role = role }))
    → All P (pieces_at row cell role ps)
All-pieces_at P row cell role [] each = All-nil P
All-pieces_at P row cell role (p ∷ ps) each =
    All-append P (piece_at row cell role p) (pieces_at (row + 1) cell role ps) (own (length p == 0) refl)
    (All-pieces_at P (row + 1) cell role ps (λ n within some.
    let next : row + suc n ≡ row + 1 + n = omega arith in
    subst (λ r. P (record { row = r; cell = cell; text = get_or ps n []; role = role })) next (each (suc n) (omega (arith, within)) some)))
  where
    here : Write
    here = record { row = row; cell = cell; text = p; role = role }

    own : (b : Bool) → (length p == 0) ≡ b → All P (cond b [] (here ∷ []))
    own true is = All-nil P
    own false is =
        let zero_more : row + 0 ≡ row = omega arith in
        All-cons P here [] (subst (λ r. P (record { row = r; cell = cell; text = p; role = role })) zero_more
        (each 0 (omega arith) (grind (arith, nat_tests, is)))) (All-nil P)

-- the write of a piece of a label
abbrev pub label_write : Layout → ℕ → PlacedEntry → ℕ → Write
label_write layout row e n =
    record { row = row + (label_place e).0 + n; cell = code_cell layout (label_place e).1; text = get_or (pieces_of e) n []; role = label_role e.entry.kind }

-- pieces that are written where a label stands are the label's
pub label_as_pieces : (layout : Layout) (row : ℕ) (e : PlacedEntry) (place : ℕ × ℕ) (cell : ℕ) (role : ElementStyle) (pieces : List (List ℕ))
    → place ≡ label_place e → cell ≡ code_cell layout place.1 → role ≡ label_role e.entry.kind → pieces ≡ pieces_of e
    → pieces_at (row + place.0) cell role pieces ≡ label_of layout row e
label_as_pieces layout row e place cell role pieces is_place is_cell is_role are = grind (arith, common_steps)

-- what holds of the writes of the pieces of a label holds of those of all
pub All-label_of : (P : Write → Type 0) (layout : Layout) (row : ℕ) (e : PlacedEntry)
    → ((n : ℕ) → n < length (pieces_of e) → 0 < length (get_or (pieces_of e) n []) → P (label_write layout row e n)) → All P (label_of layout row e)
All-label_of P layout row e each = All-pieces_at P (row + (label_place e).0) (code_cell layout (label_place e).1) (label_role e.entry.kind) (pieces_of e) each

-- the writes of a label before and after that of one of its pieces
pub label_parts_of : (layout : Layout) (row : ℕ) (e : PlacedEntry) (n : ℕ) → n < length (pieces_of e) → 0 < length (get_or (pieces_of e) n [])
    → label_of layout row e ≡ pieces_at (row + (label_place e).0) (code_cell layout (label_place e).1) (label_role e.entry.kind) (take n (pieces_of e))
    ++ label_write layout row e n
    ∷ pieces_at (row + (label_place e).0 + n + 1) (code_cell layout (label_place e).1) (label_role e.entry.kind) (drop (n + 1) (pieces_of e))
label_parts_of layout row e n within some =
    let ps : List (List ℕ) = pieces_of e in
    let first : ℕ = row + (label_place e).0 in
    let cell : ℕ = code_cell layout (label_place e).1 in
    let role : ElementStyle = label_role e.entry.kind in
    let piece : List ℕ = get_or ps n [] in
    let split : ps ≡ take n ps ++ piece ∷ drop (n + 1) ps = sym (take-append-drop n ps) ∙ ap (λ xs. take n ps ++ xs) (drop_more ps n [] within) in
    let long : first + length (take n ps) ≡ first + n = ap (λ k. first + k) (length_taken n ps (omega (arith, within))) in
    ap (pieces_at first cell role) split ∙ pieces_at-append first cell role (take n ps) (piece ∷ drop (n + 1) ps)
    ∙ ap (λ r. pieces_at first cell role (take n ps) ++ pieces_at r cell role (piece ∷ drop (n + 1) ps)) long
    ∙ ap (λ b. pieces_at first cell role (take n ps) ++ (cond b [] (record { row = first + n; cell = cell; text = piece; role = role } ∷ [])
    ++ pieces_at (first + n + 1) cell role (drop (n + 1) ps))) (not_zero (length piece) some)
  where
    not_zero : (n : ℕ) → 0 < n → (n == 0) ≡ false
    not_zero n some = grind (arith, nat_tests)

    length_taken : (n : ℕ) (xs : List (List ℕ)) → n ≤ length xs → length (take n xs) ≡ n
    length_taken zero xs within = refl
    length_taken (suc n) [] within = absurd (omega (arith, within))
    length_taken (suc n) (x ∷ xs) within = ap suc (length_taken n xs (omega (arith, within)))

-- a label that shows nothing has no writes
pub label_of-none : (layout : Layout) (row : ℕ) (e : PlacedEntry) → has_label e ≡ false → label_of layout row e ≡ []
label_of-none layout row e none = nothing (row + (label_place e).0) (pieces_of e) (no_pieces (e.position == 0) none)
  where
    no_pieces : (b : Bool) → (shows_any e.label.beside || shows_any e.label.below) ≡ false
        → (let pieces : List (List ℕ) = if b then e.label.beside else e.label.below in shows_any pieces ≡ false)
    no_pieces true none = search rules
    no_pieces false none = search rules

    nothing : (r : ℕ) (ps : List (List ℕ)) → shows_any ps ≡ false
        → pieces_at r (code_cell layout (label_place e).1) (label_role e.entry.kind) ps ≡ []
    nothing r [] empty = refl
    nothing r (p ∷ ps) empty = grind (arith, common_steps, both, nothing (r + 1) ps (both (length p == 0) (shows_any ps) empty).1)
      where
        both : (a b : Bool) → (not a || b) ≡ false → (a ≡ true) × (b ≡ false)
        both true b is = (refl, is)
        both false b is = cc is

-- an entry whose pieces show anything has a label
pub label_shows : (e : PlacedEntry) → shows_any (pieces_of e) ≡ true → has_label e ≡ true
label_shows e shows = of_either (e.position == 0) shows
  where
    of_either : (b : Bool) → (let pieces : List (List ℕ) = if b then e.label.beside else e.label.below in shows_any pieces ≡ true) → has_label e ≡ true
    of_either true shows = ap (λ a. a || shows_any e.label.below) shows
    of_either false shows = either (shows_any e.label.beside) shows
      where
        either : (a : Bool) → shows_any e.label.below ≡ true → (a || shows_any e.label.below) ≡ true
        either true is = refl
        either false is = is

-- pieces of which one has a character show something
pub piece_shows : (ps : List (List ℕ)) (n : ℕ) → 0 < length (get_or ps n []) → shows_any ps ≡ true
piece_shows [] n some = absurd (omega (arith, some))
piece_shows (p ∷ ps) zero some = grind (arith, nat_tests, some)
piece_shows (p ∷ ps) (suc n) some = grind (arith, piece_shows ps n some)

-- so an entry of such pieces has a label
pub has_piece : (e : PlacedEntry) (n : ℕ) → 0 < length (get_or (pieces_of e) n []) → has_label e ≡ true
has_piece e n some = label_shows e (piece_shows (pieces_of e) n some)

-- a piece is one of those that the label has
pub piece_within : (ps : List (List ℕ)) (n : ℕ) → 0 < length (get_or ps n []) → n < length ps
piece_within [] n some = absurd (omega (arith, some))
piece_within (p ∷ ps) zero some = omega arith
piece_within (p ∷ ps) (suc n) some = omega (arith, piece_within ps n some)

-- a piece has no more characters than the longest has bytes
pub piece_chars_le : (ps : List (List ℕ)) (n : ℕ) → length (get_or ps n []) ≤ pieces_width ps
piece_chars_le [] n = omega arith
piece_chars_le (p ∷ ps) zero = grind (arith, common_steps, greatest-cons, length-le-encodes)
piece_chars_le (p ∷ ps) (suc n) = grind (arith, common_steps, greatest-cons, piece_chars_le ps n)

-- nor more than the label is long
pub label_chars_le : (e : PlacedEntry) (n : ℕ) → length (get_or (pieces_of e) n []) ≤ label_width e.label
label_chars_le e n = either (e.position == 0)
  where
    either : (b : Bool) → (let pieces : List (List ℕ) = if b then e.label.beside else e.label.below in length (get_or pieces n []) ≤ label_width e.label)
    either true = omega (arith, piece_chars_le e.label.beside n)
    either false = omega (arith, piece_chars_le e.label.below n)

-- ---- how large the pieces of a text are

short_more : (c : ℕ) (cs : List ℕ) → All (λ p. length p ≤ length cs) (slice_split (λ c. c == 10) cs)
    → All (λ p. length p ≤ length (c ∷ cs)) (slice_split (λ c. c == 10) (c ∷ cs))
short_more c cs short = step (c == 10) refl
  where
    onto : (ps : List (List ℕ)) → All (λ p. length p ≤ length cs) ps → All (λ p. length p ≤ length (c ∷ cs)) (onto_first c ps)
    onto [] all = All-cons (λ (p : List ℕ). length p ≤ length (c ∷ cs)) (c ∷ []) [] (omega arith) (All-nil (λ (p : List ℕ). length p ≤ length (c ∷ cs)))
    onto (p ∷ ps) all =
        All-cons (λ (p : List ℕ). length p ≤ length (c ∷ cs)) (c ∷ p) ps (omega (arith, all 0 p (omega arith))) (λ k d within.
        omega (arith, all (suc k) d (omega (arith, within))))

    step : (b : Bool) → (c == 10) ≡ b → All (λ p. length p ≤ length (c ∷ cs)) (slice_split (λ c. c == 10) (c ∷ cs))
    step true is = grind (arith, common_steps, slice_split-cons_yes, All-cons)
    step false is =
        subst (All (λ p. length p ≤ length (c ∷ cs))) (sym (slice_split-cons_no (λ c. c == 10) c cs is)) (onto (slice_split (λ c. c == 10) cs) short)

pieces_short : (text : List ℕ) → All (λ p. length p ≤ length text) (slice_split (λ c. c == 10) text)
pieces_short [] = All-cons (λ (p : List ℕ). length p ≤ 0) [] [] (omega arith) (All-nil (λ (p : List ℕ). length p ≤ 0))
pieces_short (c ∷ cs) = short_more c cs (pieces_short cs)

-- no piece of a label is longer than its text, and there are not many more than it has characters
pub pieces_fit : (cut : Bool) (text : List ℕ) → All (λ p. length p ≤ length text) (text_pieces cut text)
pieces_fit true text = pieces_short text
pieces_fit false text = All-cons (λ (p : List ℕ). length p ≤ length text) text [] (omega arith) (All-nil (λ (p : List ℕ). length p ≤ length text))

pub pieces_few : (cut : Bool) (text : List ℕ) → length (text_pieces cut text) ≤ length text + 1
pieces_few true text = omega (arith, length-slice_split (λ c. c == 10) text, count_by-le-length (λ c. c == 10) text)
pieces_few false text = omega arith

-- at least one
pub pieces_some : (cut : Bool) (text : List ℕ) → 0 < length (text_pieces cut text)
pieces_some true text = omega (arith, length-slice_split (λ c. c == 10) text)
pieces_some false text = omega arith

-- the text of the label of an entry, as it is broken where it stands
abbrev pub shown_text : Layout → PlacedEntry → List ℕ
shown_text layout e = broken layout (code_cell layout (label_place e).1) (label_text e.entry)

-- the pieces of a placed entry are those of that text
pub own_pieces : (layout : Layout) (es : List LineAnnotation) (placed : List PlacedEntry) → ArePlaced layout es placed
    → All (λ e. pieces_of e ≡ text_pieces layout.label_lines (shown_text layout e)) placed
own_pieces layout es placed is k d within = pieces_are layout (get_or placed k d) (is.labels k d within)

-- so where labels aren't cut each placed entry has one
pub pieces_whole : (layout : Layout) → layout.label_lines ≡ false → (es : List LineAnnotation) (placed : List PlacedEntry) → ArePlaced layout es placed
    → All (λ e. length (pieces_of e) ≡ 1) placed
pieces_whole layout uncut es placed is k d within =
    ap length (own_pieces layout es placed is k d within) ∙ ap (λ cut. length (text_pieces cut (shown_text layout (get_or placed k d)))) uncut

-- so each placed entry has a piece, whichever way it stands
pub labels_some_at : (layout : Layout) (es : List LineAnnotation) (placed : List PlacedEntry) → ArePlaced layout es placed → (position : ℕ)
    → All (λ e. 0 < length (label_at position e.label)) placed
labels_some_at layout es placed is position k d within =
    let e : LineAnnotation = (get_or placed k d).entry in
    subst (λ label. 0 < length (label_at position label)) (sym (is.labels k d within)) (either e (position == 0))
  where
    some : (cell : ℕ) (text : List ℕ) → 0 < length (label_pieces layout cell text)
    some cell text = pieces_some layout.label_lines (broken layout cell text)

    either : (e : LineAnnotation) (b : Bool)
        → (let pieces : List (List ℕ) = if b then (label_of_entry layout e).beside else (label_of_entry layout e).below in 0 < length pieces)
    either e true = some (code_cell layout (beside_column e)) (label_text e)
    either e false = some (code_cell layout e.start.display) (label_text e)

pub labels_some : (layout : Layout) (es : List LineAnnotation) (placed : List PlacedEntry) → ArePlaced layout es placed
    → All (λ e. 0 < length (pieces_of e)) placed
labels_some layout es placed is k d within = labels_some_at layout es placed is (get_or placed k d).position k d within

-- ---- the characters of pieces

-- no character of any piece is listed
abbrev pub AreFree : List (List ℕ) → Type 0
AreFree pieces = All (All (λ c. is_listed c ≡ false)) pieces

free_more : (P : ℕ → Type 0) (c : ℕ) (cs : List ℕ) → P c → All (All P) (slice_split (λ c. c == 10) cs)
    → All (All P) (slice_split (λ c. c == 10) (c ∷ cs))
free_more P c cs own rest = step (c == 10) refl
  where
    onto : (ps : List (List ℕ)) → All (All P) ps → All (All P) (onto_first c ps)
    onto [] free = All-cons (All P) (c ∷ []) [] (All-cons P c [] own (All-nil P)) (All-nil (All P))
    onto (p ∷ ps) free = All-cons (All P) (c ∷ p) ps (All-cons P c p own (All-head (All P) p ps free)) (All-tail (All P) p ps free)

    step : (b : Bool) → (c == 10) ≡ b → All (All P) (slice_split (λ c. c == 10) (c ∷ cs))
    step true is =
        subst (All (All P)) (sym (slice_split-cons_yes (λ c. c == 10) c cs is)) (All-cons (All P) [] (slice_split (λ c. c == 10) cs) (All-nil P) rest)
    step false is =
        subst (All (All P)) (sym (slice_split-cons_no (λ c. c == 10) c cs is)) (onto (slice_split (λ c. c == 10) cs) rest)

pieces_all : (P : ℕ → Type 0) (text : List ℕ) → All P text → All (All P) (slice_split (λ c. c == 10) text)
pieces_all P [] all = All-cons (All P) [] [] (All-nil P) (All-nil (All P))
pieces_all P (c ∷ cs) all = free_more P c cs (All-head P c cs all) (pieces_all P cs (All-tail P c cs all))

pub pieces_hold : (P : ℕ → Type 0) (cut : Bool) (text : List ℕ) → All P text → All (All P) (text_pieces cut text)
pieces_hold P true text all = pieces_all P text all
pieces_hold P false text all = All-cons (All P) text [] all (All-nil (All P))

-- what holds of each character of a label's text, and of line feeds, holds of each of its pieces
pub label_pieces-all : (P : ℕ → Type 0) (layout : Layout) (cell : ℕ) (text : List ℕ) → P 10 → All P text → All (All P) (label_pieces layout cell text)
label_pieces-all P layout cell text feed all = pieces_hold P layout.label_lines (broken layout cell text) (broken-all P layout cell text feed all)

-- so it is with the pieces of labels
pub labels_free : (layout : Layout) (es : List LineAnnotation) (placed : List PlacedEntry) → ArePlaced layout es placed
    → All (λ e. AreFree (pieces_of e)) placed
labels_free layout es placed is k d within =
    let e : PlacedEntry = get_or placed k d in
    subst AreFree (sym (own_pieces layout es placed is k d within)) (pieces_hold (λ c. is_listed c ≡ false) layout.label_lines (shown_text layout e)
    (broken-all (λ c. is_listed c ≡ false) layout (code_cell layout (label_place e).1) (label_text e.entry) refl (free_label_text e.entry)))

-- pieces in rows that are lowered
pub pieces_at-lowered : (n row cell : ℕ) (role : ElementStyle) (ps : List (List ℕ))
    → pieces_at (n + row) cell role ps ≡ map (λ (w : Write). record w { row = n + w.row }) (pieces_at row cell role ps)
pieces_at-lowered n row cell role [] = refl
pieces_at-lowered n row cell role (p ∷ ps) = grind (arith, common_steps, pieces_at-lowered n (row + 1) cell role ps)
  where
    own : (b : Bool) → cond b [] (record { row = n + row; cell = cell; text = p; role = role } ∷ [])
        ++ map (λ (w : Write). record w { row = n + w.row }) (pieces_at (row + 1) cell role ps)
        ≡ map (λ (w : Write). record w { row = n + w.row })
        (cond b [] (record { row = row; cell = cell; text = p; role = role } ∷ []) ++ pieces_at (row + 1) cell role ps)
    own true = refl
    own false = refl
