-- How long a label is, and whether it shows anything.
use Rattle.snippet_labels.proofs.Common.{◌≡◌, ℕ, ◌+◌, ◌-◌, ◌≤◌, ◌==◌, ◌||◌, Bool, true, false, not, List, [], ◌∷◌, ◌++◌, length, map, max, nat_le}
use Rattle.snippet_labels.proofs.Common.{refl, sym, ap, subst, ◌∙◌, arith, All, inl, inr, get_or, greatest, nat_tests, map_push}
use Rattle.snippet_labels.proofs.Common.{encode_utf8_all, pieces_width, shows_any, LabelPieces, label_width, label_at, label_pieces, beside_column, broken}
use Rattle.snippet_labels.proofs.Common.{broken_in, text_pieces, Layout, code_cell, PlacedEntry, HasItsLabel, pieces_of, label_place, normalized_chars}
use Rattle.snippet_labels.proofs.Common.{LineAnnotation, label_of_entry, goes_past, stands_last, nat_lt, ◌&&◌, list_any}
use Rattle.snippet_labels.specs.LabelSize.{cut_pieces}
use Rattle.snippet_parts.proofs.LeastLemmas.{greatest-push}
use Rattle.snippet_parts.proofs.RawDepthLemmas.{greatest-cons}
use Rattle.snippet_shown.proofs.WrapLemmas.{wrapped-chars, wrapped-length, wrapped-same}
use Rattle.snippet_shown.specs.Wrapped.{wrapped}
use Rattle.snippet_text.specs.Width.{char_width}
use Rattle.std.proofs.lemmas.List.Elements.{All-contains}
use Rattle.std.proofs.lemmas.Str.{length-le-encodes}
use Rattle.std.specs.Prelude.{if◌then◌else◌}

bytes_in : List ℕ → ℕ
bytes_in piece = length (encode_utf8_all piece)

-- one piece more
pub pieces_width-push : (pieces : List (List ℕ)) (piece : List ℕ)
    → pieces_width (pieces ++ piece ∷ []) ≡ max (pieces_width pieces) (length (encode_utf8_all piece))
unfolding bytes_in
pieces_width-push pieces piece = ap greatest (map_push bytes_in pieces piece) ∙ greatest-push (map bytes_in pieces) (bytes_in piece)

-- a label of one piece
pub pieces_width-one : (piece : List ℕ) → pieces_width (piece ∷ []) ≡ length (encode_utf8_all piece)
pieces_width-one piece = omega arith

-- a label shows nothing where its longest piece has no byte
pub shows_any-width : (pieces : List (List ℕ)) → (pieces_width pieces == 0) ≡ not (shows_any pieces)
unfolding bytes_in
shows_any-width [] = refl
shows_any-width (piece ∷ pieces) =
    tells (bytes_in piece) (pieces_width pieces) (length piece) (shows_any pieces) (pieces_width (piece ∷ pieces))
    (greatest-cons (bytes_in piece) (map bytes_in pieces)) (length-le-encodes piece) (empty piece) (shows_any-width pieces)
  where
    empty : (cs : List ℕ) → length cs ≡ 0 → bytes_in cs ≡ 0
    empty [] none = refl
    empty (c ∷ cs) none = absurd (omega (arith, none))

    tells : (b w n : ℕ) (any : Bool) (all : ℕ) → all ≡ max b w → n ≤ b → (n ≡ 0 → b ≡ 0) → (w == 0) ≡ not any → (all == 0) ≡ not (not (n == 0) || any)
    tells b w n any all is few none rest = grind (arith, nat_tests)

-- a label shows nothing where it has no byte, whichever way it stands
pub shows_none : (label : LabelPieces) → (label_width label == 0) ≡ not (shows_any label.beside || shows_any label.below)
shows_none label =
    both (pieces_width label.beside) (pieces_width label.below) (shows_any label.beside) (shows_any label.below) (shows_any-width label.beside)
    (shows_any-width label.below)
  where
    both : (m n : ℕ) (a b : Bool) → (m == 0) ≡ not a → (n == 0) ≡ not b → (max m n == 0) ≡ not (a || b)
    both m n a b first second = grind (arith, nat_tests)

-- ---- the text of a label as it is broken

-- nothing is broken of no text
broken-nil : (room : ℕ) → broken_in room [] ≡ []
broken-nil room = ap (λ (t : List ℕ). if nat_le 20 room then t else []) (wrapped-same room false [] refl) ∙ same (nat_le 20 room)
  where
    same : (b : Bool) → (let none : List ℕ = if b then [] else [] in none ≡ [])
    same true = refl
    same false = refl

pub label_pieces-nil : (layout : Layout) (cell : ℕ) → label_pieces layout cell [] ≡ [] ∷ []
label_pieces-nil layout cell = by_cut layout.label_lines
  where
    by_cut : (cut : Bool) → text_pieces cut (if cut then broken_in (layout.label_end - cell) [] else []) ≡ [] ∷ []
    by_cut true = ap (text_pieces true) (broken-nil (layout.label_end - cell))
    by_cut false = refl

-- a label that isn't cut has one piece
pub label_pieces-whole : (layout : Layout) → layout.label_lines ≡ false → (cell : ℕ) (text : List ℕ) → label_pieces layout cell text ≡ text ∷ []
label_pieces-whole layout is cell text = ap (λ b. text_pieces b (if b then broken_in (layout.label_end - cell) text else text)) is

-- labels of the same pieces are one
pub LabelPieces-is : (a b : LabelPieces) → a.beside ≡ b.beside → a.below ≡ b.below → a.last ≡ b.last → a.past ≡ b.past → a ≡ b
LabelPieces-is a b beside below last past =
    ap (λ x. record a { beside = x }) beside ∙ ap (λ x. record a { beside = b.beside; below = x }) below
    ∙ ap (λ x. record { beside = b.beside; below = b.below; last = x; past = a.past }) last
    ∙ ap (λ x. record { beside = b.beside; below = b.below; last = b.last; past = x }) past

pub label_of_entry-whole : (layout : Layout) → layout.label_lines ≡ false → (e : LineAnnotation) (label : LabelPieces)
    → label.beside ≡ normalized_chars e.label ∷ [] → label.below ≡ normalized_chars e.label ∷ [] → label.last ≡ false
    → label.past ≡ false → label ≡ label_of_entry layout e
label_of_entry-whole layout is e label beside below last past =
    let text : List ℕ = normalized_chars e.label in
    let first : label.beside ≡ label_pieces layout (code_cell layout (beside_column e)) text =
    beside ∙ sym (label_pieces-whole layout is (code_cell layout (beside_column e)) text) in
    let second : label.below ≡ label_pieces layout (code_cell layout e.start.display) text =
    below ∙ sym (label_pieces-whole layout is (code_cell layout e.start.display) text) in
    let third : label.last ≡ stands_last layout text =
    last ∙ sym (ap (λ b. b && nat_lt 0 layout.label_end && list_any (λ c. nat_lt 1 (char_width c)) text) is) in
    let fourth : label.past ≡ goes_past layout e =
    past ∙ sym (ap (λ b. b && nat_lt 0 layout.label_end && nat_lt layout.label_end (code_cell layout (max (e.start.display + 1) e.end.display))) is) in
    LabelPieces-is label (label_of_entry layout e) first second third fourth

pub label_pieces-cut : (layout : Layout) → layout.label_lines ≡ true → (cell : ℕ) (text : List ℕ)
    → label_pieces layout cell text ≡ cut_pieces (layout.label_end - cell) text
label_pieces-cut layout is cell text = ap (λ b. text_pieces b (if b then broken_in (layout.label_end - cell) text else text)) is

pub label_pieces-broken : (layout : Layout) → layout.label_lines ≡ true → (cell : ℕ) (text : List ℕ) → cell + 20 ≤ layout.label_end
    → label_pieces layout cell text ≡ text_pieces true (wrapped (layout.label_end - cell) false text)
label_pieces-broken layout is cell text wide =
    label_pieces-cut layout is cell text ∙ ap (λ b. text_pieces true (if b then wrapped (layout.label_end - cell) false text else text))
    (enough (layout.label_end - cell) (omega (arith, wide)))
  where
    enough : (room : ℕ) → 20 ≤ room → nat_le 20 room ≡ true
    enough room few = grind (arith, nat_tests, few)

-- what holds of a text as it is and as it is wrapped holds of it as it is broken
by_room : (P : List ℕ → Type 0) (layout : Layout) (cell : ℕ) (text : List ℕ) → P text → ((room : ℕ) → P (wrapped room false text)) → P (broken layout cell text)
by_room P layout cell text whole wraps = by_cut layout.label_lines
  where
    room : ℕ
    room = layout.label_end - cell

    by_width : (wide : Bool) → P (if wide then wrapped room false text else text)
    by_width true = wraps room
    by_width false = whole

    by_cut : (cut : Bool) → P (if cut then broken_in room text else text)
    by_cut true = by_width (nat_le 20 room)
    by_cut false = whole

-- its characters are those of the text, and line feeds
pub broken-all : (P : ℕ → Type 0) (layout : Layout) (cell : ℕ) (text : List ℕ) → P 10 → All P text → All P (broken layout cell text)
broken-all P layout cell text feed all = by_room (All P) layout cell text all (λ room. wrapped_all room)
  where
    wrapped_all : (room : ℕ) → All P (wrapped room false text)
    wrapped_all room k d within =
        elim (wrapped-chars room false text k d within) [
          | inl is ↦ subst P (sym is) feed
          | inr among ↦ All-contains P text (get_or (wrapped room false text) k d) all among
        ]

-- there are no more of them than twice as many
pub broken_short : (layout : Layout) (cell : ℕ) (text : List ℕ) → length (broken layout cell text) ≤ length text + length text
broken_short layout cell text =
    by_room (λ (t : List ℕ). length t ≤ length text + length text) layout cell text (omega arith) (λ room. wrapped-length room false text)

-- ---- the label of an entry that has its place

-- its pieces are those of its text, as it is broken where it stands
pub pieces_are : (layout : Layout) (e : PlacedEntry) → HasItsLabel layout e
    → pieces_of e ≡ label_pieces layout (code_cell layout (label_place e).1) (normalized_chars e.entry.label)
pieces_are layout e has = ap (label_at e.position) has ∙ by_position (e.position == 0)
  where
    text : List ℕ
    text = normalized_chars e.entry.label

    by_position : (b : Bool)
        → (let pieces : List (List ℕ) = if b then label_pieces layout (code_cell layout (beside_column e.entry)) text
        else label_pieces layout (code_cell layout e.entry.start.display) text in
        let place : ℕ × ℕ = if b then (0, beside_column e.entry) else (e.position + 1, e.entry.start.display) in
        pieces ≡ label_pieces layout (code_cell layout place.1) text)
    by_position true = refl
    by_position false = refl
