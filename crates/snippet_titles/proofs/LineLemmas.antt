-- The rows of a text's lines.
use Rattle.snippet_titles.proofs.Common.{common_steps, ◌≡◌, ◌≢◌, ℕ, ◌+◌, ◌<◌, ◌==◌, false, List, [], ◌∷◌, ◌++◌, length, map, take, get_or, All, refl, sym, ap}
use Rattle.snippet_titles.proofs.Common.{◌∙◌, arith, Bor, enumerate_from, nat_tests, get_or_past, length-append, length-map, length-take, map-append}
use Rattle.snippet_titles.proofs.Common.{get_or-enumerate_from, length-enumerate_from, slice_split_none, slice_split_at, All-from_get_or, row_at, Cell}
use Rattle.snippet_titles.proofs.Common.{text_cells, ElementStyle, IsPlain, IsAtEnd, appended, lines_below, without_empty_end}
use Rattle.std.specs.Str.{chars}
use Rattle.snippet_text.proofs.SplitLemmas.{lines_at}
use Rattle.snippet_titles.proofs.EndLemmas.{IsAtEnd-more, appended-further, refilled}

-- a text without a line feed is one line
pub lines_at-one : (text : List ℕ) → ((i : ℕ) → i < length text → get_or text i 0 ≢ 10) → lines_at text ≡ text ∷ []
lines_at-one text none = slice_split_none (λ b. b == 10) text (All-from_get_or (λ b. (b == 10) ≡ false) text 0 (λ i within.
    let other : get_or text i 0 ≢ 10 = none i within in grind (arith, nat_tests)))

-- a text of printable ASCII is one line
pub lines_at-plain : (text : List ℕ) → All IsPlain text → lines_at text ≡ text ∷ []
lines_at-plain text plain = lines_at-one text (λ i within. let low = (plain i 0 within).0 in omega (arith, low))

-- a line feed ends the first line
pub lines_at-first : (text first rest : List ℕ) → text ≡ first ++ (10 ∷ rest) → ((i : ℕ) → i < length first → get_or first i 0 ≢ 10)
    → lines_at text ≡ first ∷ lines_at rest
lines_at-first text first rest whole none =
    ap lines_at whole ∙ slice_split_at (λ b. b == 10) first 10 rest
    (All-from_get_or (λ b. (b == 10) ≡ false) first 0 (λ i within. let other : get_or first i 0 ≢ 10 = none i within in grind (arith, nat_tests))) refl

-- a text of one line, after the cells of the last row
pub one_line : (old new : List (List Cell)) (row : ℕ) (further : List Cell) (role : ElementStyle) (text : List ℕ) → IsAtEnd row old
    → lines_at text ≡ text ∷ [] → new ≡ appended old row (text_cells role (chars text))
    → new ≡ take row old ++ without_empty_end (lines_below (row_at old row) further role (map chars (lines_at text)))
one_line old new row further role text end one is = grind (arith, common_steps, IsAtEnd-more old new row (text_cells role (chars text)) end is, end, is, one)

-- the rows of numbered lines
abbrev pub line_of : (ℕ × Bor (List ℕ)) → List ℕ
line_of numbered = chars numbered.1.now

-- the rows of further lines
abbrev pub further_rows : List Cell → ElementStyle → List (ℕ × Bor (List ℕ)) → List (List Cell)
further_rows further role numbered = map (λ l. further ++ text_cells role l) (map line_of numbered)

-- the number of a line
pub number_is : (lines : List (List ℕ)) (k index : ℕ) (line : List ℕ) → k < length (enumerate_from 0 lines)
    → ◌≡◌ {A = ℕ × List ℕ} (index, line) (get_or (enumerate_from 0 lines) k (index, line)) → index ≡ k
number_is lines k index line within is = grind (arith, common_steps, get_or-enumerate_from, length-enumerate_from)

-- a row more
pub further_drawn : (old grid new : List (List Cell)) (row index : ℕ) (further : List Cell) (role : ElementStyle) (numbered : List (ℕ × Bor (List ℕ)))
    (line : Bor (List ℕ)) → IsAtEnd row old → index ≡ length numbered
    → grid ≡ take row old ++ without_empty_end (row_at old row ∷ further_rows further role numbered)
    → new ≡ appended grid (row + 1 + index) (further ++ text_cells role (chars line.now))
    → new ≡ take row old ++ without_empty_end (row_at old row ∷ further_rows further role (numbered ++ (index, line) ∷ []))
further_drawn old grid new row index further role numbered line end at is drawn_is =
    let base : List (List Cell) = take row old in
    let first : List Cell = row_at old row in
    let more : List Cell = further ++ text_cells role (chars line.now) in
    let count : length (further_rows further role numbered) ≡ length numbered = length-map (map line_of numbered) (λ l. further ++ text_cells role l)
    ∙ length-map numbered line_of in
    let both : further_rows further role (numbered ++ (index, line) ∷ []) ≡ further_rows further role numbered ++ more ∷ [] =
    ap (map (λ l. further ++ text_cells role l)) (map-append line_of numbered ((index, line) ∷ []))
    ∙ map-append (λ l. further ++ text_cells role l) (map line_of numbered) (chars line.now ∷ []) in
    drawn_is ∙ ap (λ rs. appended rs (row + 1 + index) more) is ∙ appended-further base (first ∷ further_rows further role numbered) (row + 1 + index) more
    (omega (arith, length-take row old, end.within, count, at)) ∙ ap (λ rs. base ++ without_empty_end (first ∷ rs)) (sym both)

-- the row below those that are drawn isn't there yet
pub none_below : (old grid : List (List Cell)) (row index : ℕ) (further : List Cell) (role : ElementStyle) (numbered : List (ℕ × Bor (List ℕ)))
    → IsAtEnd row old → index ≡ length numbered → grid ≡ take row old ++ without_empty_end (row_at old row ∷ further_rows further role numbered)
    → row_at grid (row + 1 + index) ≡ []
none_below old grid row index further role numbered end at is =
    let base : List (List Cell) = take row old in
    let all : List (List Cell) = row_at old row ∷ further_rows further role numbered in
    let count : length (further_rows further role numbered) ≡ length numbered = length-map (map line_of numbered) (λ l. further ++ text_cells role l)
    ∙ length-map numbered line_of in
    get_or_past grid (row + 1 + index) [] (omega (
      arith,
      ap length is,
      length-append base (without_empty_end all),
      (refilled all).1,
      length-take row old,
      end.within,
      count,
      at,
    ))

-- the lines without their numbers
chars-numbered : (n : ℕ) (lines : List (List ℕ)) → map (λ (p : ℕ × List ℕ). chars p.1) (enumerate_from n lines) ≡ map chars lines
chars-numbered n [] = refl
chars-numbered n (line ∷ lines) = ap (λ ls. chars line ∷ ls) (chars-numbered (n + 1) lines)

chars-seen : (numbered : List (ℕ × Bor (List ℕ)))
    → map line_of numbered ≡ map (λ (p : ℕ × List ℕ). chars p.1) (map (λ (p : ℕ × Bor (List ℕ)). (p.0, p.1.now)) numbered)
chars-seen [] = refl
chars-seen (line ∷ lines) = ap (λ ls. line_of line ∷ ls) (chars-seen lines)

-- several lines
pub several_lines : (old begun new : List (List Cell)) (row : ℕ) (further : List Cell) (role : ElementStyle) (text first rest : List ℕ)
    (numbered : List (ℕ × Bor (List ℕ))) → IsAtEnd row old → lines_at text ≡ first ∷ lines_at rest
    → begun ≡ appended old row (text_cells role (chars first))
    → new ≡ take row begun ++ without_empty_end (row_at begun row ∷ further_rows further role numbered)
    → map (λ (p : ℕ × Bor (List ℕ)). (p.0, p.1.now)) numbered ≡ enumerate_from 0 (lines_at rest)
    → new ≡ take row old ++ without_empty_end (lines_below (row_at old row) further role (map chars (lines_at text)))
several_lines old begun new row further role text first rest numbered end several is drawn_is all =
    let more = IsAtEnd-more old begun row (text_cells role (chars first)) end is in
    let lines : map line_of numbered ≡ map chars (lines_at rest) = chars-seen numbered ∙ ap (map (λ (p : ℕ × List ℕ). chars p.1)) all
    ∙ chars-numbered 0 (lines_at rest) in
    drawn_is ∙ ap (λ rs. rs ++ without_empty_end (row_at begun row ∷ further_rows further role numbered)) more.0
    ∙ ap (λ (r : List Cell). take row old ++ without_empty_end (r ∷ further_rows further role numbered)) more.1
    ∙ ap (λ (ls : List (List ℕ)). take row old ++ without_empty_end
    ((row_at old row ++ text_cells role (chars first)) ∷ map (λ l. further ++ text_cells role l) ls)) lines
    ∙ ap (λ (ls : List (List ℕ)). take row old ++ without_empty_end (lines_below (row_at old row) further role (map chars ls))) (sym several)
