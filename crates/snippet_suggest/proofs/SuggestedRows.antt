-- What is drawn of a suggestion is its value.
use Rattle.snippet_suggest.proofs.Common.{◌≡◌, ◌≢◌, ℕ, zero, suc, ◌+◌, ◌-◌, ◌^◌, ◌<◌, ◌≤◌, Bool, true, false, List, [], ◌∷◌, ◌++◌, length, map, get_or, refl}
use Rattle.snippet_suggest.proofs.Common.{sym, ap, ◌∙◌, ◌&&◌, arith, append_assoc, take, inl, inr, if◌then◌else◌, append-nil, length-map, map-append, take-map}
use Rattle.snippet_suggest.proofs.Common.{get_or-map-range_with_len, length-range_with_len, cow_str_bytes, cases_Bool, cond-false, cond-true, range_with_len}
use Rattle.snippet_suggest.proofs.Common.{bytes_eq, Snippet, Patch, LineInfo, Cell, NoStyle, Removal, last_line_reached, SubstitutionHighlight, Diff, Underline}
use Rattle.snippet_suggest.proofs.Common.{SuggestionLayout, SuggestionStart, SuggestionLine, Gap, Line, begin_cells, end_cells, left_out_cells, offered_cells}
use Rattle.snippet_suggest.proofs.Common.{on_last, removed_cells, with_stretches, edits_of, first_given, given_lines, given_ranges, is_left_out, last_reached}
use Rattle.snippet_suggest.proofs.Common.{shown_kind, trimmed_of, numbered_source, Begins, Empty, Ends, Offers, Removes, SuggestionRow, rows_of_suggestion}
use Rattle.snippet_suggest.proofs.Common.{is_touched, body_cells, suggested_cells, cells_over, new_on, suggested_stretches, rows_shared, suggestion_cells}
use Rattle.snippet_suggest.proofs.Common.{suggestion_row, diff_cells, emptied_cells, gone_of, taken_cells, last_removed, unless_stays, counted_from}
use Rattle.snippet_suggest.proofs.Common.{numbered_at, removed_from, with_marks, capped_sum, and-false, common_steps, rules}
use Rattle.std.proofs.Common.{chars}
use Rattle.std.proofs.Math.ListN.{get_or-map}
use Rattle.snippet_suggest.proofs.ByKind.{row_of_shown}
use Rattle.snippet_suggest.proofs.KnownRemoved.{unless_range}
use Rattle.snippet_suggest.proofs.RowsDrawn.{diff_left, diff_shown}
use Rattle.snippet_suggest.proofs.OrderLaws.{none_left_out, changed_rows}

-- ---- rows one by one

pub begins_is : (layout : SuggestionLayout) (s : Snippet Patch) (under : List Cell) (start : SuggestionStart)
    → suggested_cells layout s under (Begins start) ≡ begin_cells layout start under
unfolding suggested_cells
begins_is layout s under start = refl

pub empty_is : (layout : SuggestionLayout) (s : Snippet Patch) (under : List Cell) → suggested_cells layout s under Empty ≡ []
unfolding suggested_cells
empty_is layout s under = refl

pub shown_is : (layout : SuggestionLayout) (s : Snippet Patch) (shown : List SuggestionLine)
    → map (suggested_cells layout s []) (map row_of_shown shown) ≡ map (suggestion_row layout (shown_kind s) (s.line_start + first_given s) (given_lines s)
    (new_on s)) shown
unfolding suggested_cells
shown_is layout s [] = refl
shown_is layout s (Line k ∷ shown) = grind (arith, shown_is layout s shown)
shown_is layout s (Gap ∷ shown) = simp (shown_is layout s shown)

-- ---- where no line is given

removed_none : (layout : SuggestionLayout) (s : Snippet Patch) (under : List Cell) (i number : ℕ) (text : List ℕ) → given_lines s ≡ []
    → suggested_cells layout s under (Removes i number text) ≡ removed_cells layout Removal number text under
unfolding suggested_cells
removed_none layout s under i number text none = search rules

emptied_later : (layout : SuggestionLayout) (s : Snippet Patch) (i : ℕ) (lines : List (ℕ × List ℕ)) → given_lines s ≡ []
    → map (suggested_cells layout s []) (removed_from i lines) ≡ emptied_cells layout lines []
unfolding emptied_cells
emptied_later layout s i [] none = refl
emptied_later layout s i (line ∷ lines) none = grind (arith, removed_none, emptied_later layout s (i + 1) lines none)

emptied_over : (layout : SuggestionLayout) (s : Snippet Patch) (under : List Cell) (i : ℕ) (lines : List (ℕ × List ℕ)) → given_lines s ≡ []
    → cells_over (suggested_cells layout s) under (removed_from i lines) ≡ emptied_cells layout lines under
unfolding emptied_cells
emptied_over layout s under i [] none = refl
emptied_over layout s under i (line ∷ lines) none = grind (arith, removed_none, emptied_later)

body_none : (layout : SuggestionLayout) (start : SuggestionStart) (s : Snippet Patch) (under : List Cell) (rows : List SuggestionRow) → given_lines s ≡ []
    → rows_of_suggestion start s ≡ rows → body_cells layout start s under ≡ cells_over (suggested_cells layout s) under rows
unfolding body_cells
body_none layout start s under rows none is = grind (arith)

-- where no line is given, the rows of emptied lines are those of the suggestion
pub body_emptied : (layout : SuggestionLayout) (start : SuggestionStart) (s : Snippet Patch) (under : List Cell) (i : ℕ) (lines : List (ℕ × List ℕ))
    → given_lines s ≡ [] → rows_of_suggestion start s ≡ removed_from i lines → emptied_cells layout lines under ≡ body_cells layout start s under
body_emptied layout start s under i lines none is = grind (arith, body_none, emptied_over)

-- where a diff gives no line, its beginning and the rows of emptied lines are those of the suggestion
pub body_emptied_diff : (layout : SuggestionLayout) (start : SuggestionStart) (s : Snippet Patch) (under : List Cell) (i : ℕ)
    (lines : List (ℕ × List ℕ)) → given_lines s ≡ [] → rows_of_suggestion start s ≡ Begins start ∷ removed_from i lines
    → begin_cells layout start under ∷ emptied_cells layout lines [] ≡ body_cells layout start s under
body_emptied_diff layout start s under i lines none is = grind (arith, body_none, begins_is, emptied_later)

-- ---- where lines are given, and aren't shown as a diff

-- the rows where no line gives its roles to another row
body_plain : (layout : SuggestionLayout) (start : SuggestionStart) (s : Snippet Patch) (under : List Cell) (line : List ℕ) (lines : List (List ℕ))
    (rows : List SuggestionRow) → given_lines s ≡ line ∷ lines
    → (is_left_out (shown_kind s) (line ∷ lines) (last_reached s) && is_touched s.fold (given_ranges s) 0) ≡ false
    → rows_of_suggestion start s ≡ rows → body_cells layout start s under ≡ cells_over (suggested_cells layout s) under rows
unfolding body_cells
body_plain layout start s under line lines rows some stays is = grind (arith, cond-false)

-- where lines are given, and no diff is shown, the beginning and the rows of the shown lines are the suggestion's
pub body_shown : (layout : SuggestionLayout) (start : SuggestionStart) (s : Snippet Patch) (under : List Cell) (line : List ℕ) (lines : List (List ℕ))
    (shown : List SuggestionLine) → given_lines s ≡ line ∷ lines → shown_kind s ≢ Diff → rows_of_suggestion start s ≡ Begins start ∷ map row_of_shown shown
    → begin_cells layout start under ∷ map (suggestion_row layout (shown_kind s) (s.line_start + first_given s) (given_lines s) (new_on s))
    shown ≡ body_cells layout start s under
body_shown layout start s under line lines shown some other is =
    let t : Bool = is_touched s.fold (given_ranges s) 0 in
    let stays : (is_left_out (shown_kind s) (line ∷ lines) (last_reached s) && t) ≡ false = ap (λ (b : Bool). b && t)
    (none_left_out (shown_kind s) (line ∷ lines) (last_reached s) other) in search (rules, body_plain, row_of_shown, begins_is, shown_is, stays)

-- ---- a diff

-- one that no patch touches
pub body_untouched : (layout : SuggestionLayout) (start : SuggestionStart) (s : Snippet Patch) (under : List Cell) (line : List ℕ)
    → given_lines s ≡ line ∷ [] → shown_kind s ≡ Diff → is_touched s.fold (given_ranges s) 0 ≡ false
    → rows_of_suggestion start s ≡ Begins start ∷ Empty ∷ [] → begin_cells layout start under ∷ [] ∷ [] ≡ body_cells layout start s under
body_untouched layout start s under line one diff untouched is =
    let l : Bool = is_left_out (shown_kind s) (line ∷ []) (last_reached s) in
    let stays : (l && is_touched s.fold (given_ranges s) 0) ≡ false = ap (λ (b : Bool). l && b) untouched ∙ and-false l in
    cc (body_plain layout start s under line [] (Begins start ∷ Empty ∷ []) one stays is, begins_is layout s under start, empty_is layout s [])

-- the lines that are removed above one in their place
removed_some : (layout : SuggestionLayout) (s : Snippet Patch) (under : List Cell) (line : List ℕ) (i number : ℕ) (text : List ℕ)
    → given_lines s ≡ line ∷ [] → suggested_cells layout s under (Removes i number text) ≡ with_stretches Removal layout.base.gutter (chars text)
    (suggested_stretches s (i - first_given s)) (removed_cells layout NoStyle number text under)
unfolding suggested_cells
removed_some layout s under line i number text one = grind (arith)

pub taken_rows : (layout : SuggestionLayout) (s : Snippet Patch) (line : List ℕ) (replaced : ℕ → List SubstitutionHighlight) (infos : List LineInfo)
    (f : ℕ → List ℕ) (a m k : ℕ) → given_lines s ≡ line ∷ [] → ((j : ℕ) → replaced j ≡ suggested_stretches s j)
    → numbered_at infos ≡ map {B = ℕ × List ℕ} (λ j. (s.line_start + j, f j)) (range_with_len a m)
    → taken_cells layout (s.line_start + first_given s) replaced k infos ≡ map (suggested_cells layout s [])
    (removed_from a (counted_from (s.line_start + first_given s) k (map f (range_with_len a m))))
unfolding taken_cells
taken_rows layout s line replaced [] f a zero k one same are = refl
taken_rows layout s line replaced [] f a (suc m) k one same are = absurd (cc)
taken_rows layout s line replaced (info ∷ infos) f a zero k one same are = absurd (cc)
taken_rows layout s line replaced (info ∷ infos) f a (suc m) k one same are =
    let first : ℕ = s.line_start + first_given s in
    let rest : numbered_at infos ≡ map {B = ℕ × List ℕ} (λ j. (s.line_start + j, f j)) (range_with_len (a + 1) m) = cc in
    let pair : ◌≡◌ {A = ℕ × List ℕ} (info.line_index, info.line.now) (s.line_start + a, f a) = cc in
    let own : info.line_index ≡ s.line_start + a = ap (λ (p : ℕ × List ℕ). p.0) pair in
    let text : info.line.now ≡ f a = ap (λ (p : ℕ × List ℕ). p.1) pair in
    let index : info.line_index - first ≡ a - first_given s = omega (arith, own) in
    let Row : List ℕ → List SubstitutionHighlight → List Cell = λ t ss.
    with_stretches Removal layout.base.gutter (chars t) ss (removed_cells layout NoStyle (capped_sum first k) t []) in
    let row : Row info.line.now (replaced (info.line_index - first))
    ≡ Row (f a) (suggested_stretches s (a - first_given s)) = cc (text, index, same (a - first_given s)) in
    let is = removed_some layout s [] line a (capped_sum first k) (f a) one in
    cc (row, is, taken_rows layout s line replaced infos f (a + 1) m (k + 1) one same rest)

-- a suggestion shares at most one row
pub shared_few : (start : SuggestionStart) (n : ℕ) → n ≡ rows_shared start → n ≤ 1
shared_few x y z = grind (arith)

-- ---- a diff that a patch touches

-- some items without the last if that stays, one for each
unless-map : {A B : Type 0} (stays : Bool) (g : A → B) (xs : List A) → map g (unless_stays stays xs) ≡ unless_stays stays (map g xs)
unless-map {A} {B} true g xs = sym (take-map g (length xs - 1) xs) ∙ ap (λ (n : ℕ). take (n - 1) (map g xs)) (sym (length-map xs g))
unless-map {A} {B} false g xs = refl

-- the number of the last of some lines
own_numbers : (infos : List LineInfo) → map (λ (info : LineInfo). info.line_index) infos ≡ map (λ (l : ℕ × List ℕ). l.0) (numbered_at infos)
own_numbers [] = refl
own_numbers (info ∷ infos) = ap (λ ks. info.line_index ∷ ks) (own_numbers infos)

own_index : (infos : List LineInfo)
    → get_or (map (λ (info : LineInfo). info.line_index) infos) (length infos - 1) 0
    ≡ get_or (map (λ (l : ℕ × List ℕ). l.0) (numbered_at infos)) (length (numbered_at infos) - 1) 0
own_index infos = grind (arith, own_numbers, length-map)

last_index : (base : ℕ) (f : ℕ → List ℕ) (a n : ℕ) → 0 < n
    → let ls : List (ℕ × List ℕ) = map {B = ℕ × List ℕ} (λ j. (base + j, f j)) (range_with_len a n) in get_or (map (λ (l : ℕ × List ℕ). l.0) ls)
    (length ls - 1) 0 ≡ base + (a + (n - 1))
last_index base f a n some =
    let g : ℕ → ℕ × List ℕ = λ j. (base + j, f j) in
    let first : ℕ × List ℕ → ℕ = λ l. l.0 in
    let ls : List (ℕ × List ℕ) = map g (range_with_len a n) in
    let d : ℕ × List ℕ = (0, []) in
    let k : length ls ≡ n = length-map (range_with_len a n) g ∙ length-range_with_len a n in
    cc (k, get_or-map first ls (n - 1) d, get_or-map-range_with_len g a n (n - 1) (a + (n - 1)) d (omega (arith, some)) refl)

-- what is known of the lines that a diff removes: they stand one after another in the source, from one of its lines on
pub record AreReplaced (s : Snippet Patch) (line : List ℕ) (f : ℕ → List ℕ) (a n : ℕ) (infos : List LineInfo) : Type 0 where
  pub one : given_lines s ≡ line ∷ []
  pub diff : shown_kind s ≡ Diff
  pub touched : is_touched s.fold (given_ranges s) 0 ≡ true
  pub small : s.line_start + first_given s < 2 ^ 64
  pub are : numbered_at infos ≡ map {B = ℕ × List ℕ} (λ j. (s.line_start + j, f j)) (range_with_len a n)
  pub some : 0 < n
  pub last : last_removed infos ≡ last_reached s
  pub reached : a + (n - 1) ≡ last_line_reached (cow_str_bytes s.source.text) (edits_of s)

-- how many of them are shown
abbrev pub shown_count : Snippet Patch → List ℕ → ℕ → ℕ
shown_count s line n = if bytes_eq line (last_reached s) then n - 1 else n

module _ (layout : SuggestionLayout) (s : Snippet Patch) (line : List ℕ) (f : ℕ → List ℕ) (a n : ℕ) (infos : List LineInfo)
    (replaced : ℕ → List SubstitutionHighlight) (known : AreReplaced s line f a n infos) (same : (j : ℕ) → replaced j ≡ suggested_stretches s j) where
  abbrev first : ℕ
  first = s.line_start + first_given s

  abbrev stays : Bool
  stays = bytes_eq line (last_reached s)

  abbrev left : Bool
  left = is_left_out Diff (line ∷ []) (last_reached s)

  abbrev gone : List SubstitutionHighlight
  gone = if stays then suggested_stretches s (last_line_reached (cow_str_bytes s.source.text) (edits_of s) - first_given s) else []

  abbrev removed : List SuggestionRow
  removed = removed_from a (counted_from first 0 (map f (range_with_len a (shown_count s line n))))

  -- the rows of the lines that are removed
  taken_are : taken_cells layout first replaced 0 (unless_stays stays infos) ≡ map (suggested_cells layout s []) removed
  taken_are =
      let g : ℕ → ℕ × List ℕ = λ j. (s.line_start + j, f j) in
      let numbered : numbered_at (unless_stays stays infos) ≡ map g (range_with_len a (shown_count s line n)) =
      unless-map stays (λ (info : LineInfo). (info.line_index, info.line.now)) infos ∙ ap (unless_stays stays) known.are
      ∙ sym (unless-map stays g (range_with_len a n)) ∙ ap (map g) (unless_range stays a n) in
      taken_rows layout s line replaced (unless_stays stays infos) f a (shown_count s line n) 0 known.one same numbered

  -- the stretches of the last of them
  gone_are : gone_of stays first replaced infos ≡ gone
  gone_are =
      let index : List (ℕ × List ℕ) → ℕ = λ ls. get_or (map (λ (l : ℕ × List ℕ). l.0) ls) (length ls - 1) 0 in
      let own : get_or (map (λ (info : LineInfo). info.line_index) infos) (length infos - 1) 0 ≡ index (numbered_at infos) = own_index infos in
      let last : index (numbered_at infos) ≡ s.line_start + (a + (n - 1)) = ap index known.are ∙ last_index s.line_start f a n known.some in
      let at : get_or (map (λ (info : LineInfo). info.line_index) infos) (length infos - 1) 0 - first
      ≡ last_line_reached (cow_str_bytes s.source.text) (edits_of s) - first_given s = omega (arith, own, last, known.reached) in
      ap (λ (k : ℕ). if stays then replaced k else []) at ∙ ap (λ (ss : List SubstitutionHighlight). if stays then ss else [])
      (same (last_line_reached (cow_str_bytes s.source.text) (edits_of s) - first_given s))

  -- the row of the line in their place
  offered_is : suggested_cells layout s [] (Offers 0) ≡ offered_cells layout Diff 1 first line (new_on s 0)
  unfolding suggested_cells
  offered_is = grind (arith)

  -- where the line isn't shown, and where it is
  body_left : (start : SuggestionStart) (under : List Cell) → left ≡ true → rows_of_suggestion start s ≡ Begins start ∷ changed_rows true left removed
      → on_last (left_out_cells layout.base.gutter line (gone_of stays first replaced infos) (new_on s 0))
      (begin_cells layout start under ∷ taken_cells layout first replaced 0 (unless_stays stays infos)) ≡ body_cells layout start s under
  unfolding body_cells
  body_left start under leaves rows = grind (arith, common_steps, cond-true, append-nil, begins_is, taken_are, gone_are)

  body_offered : (start : SuggestionStart) (under : List Cell) → left ≡ false
      → rows_of_suggestion start s ≡ Begins start ∷ changed_rows true left removed
      → (begin_cells layout start under ∷ taken_cells layout first replaced 0 (unless_stays stays infos))
      ++ offered_cells layout Diff 1 first line (new_on s 0) ∷ [] ≡ body_cells layout start s under
  body_offered start under shown rows =
      let row : List Cell = offered_cells layout Diff 1 first line (new_on s 0) in
      let begin : List Cell = begin_cells layout start under in
      let test : (is_left_out (shown_kind s) (line ∷ []) (last_reached s) && is_touched s.fold (given_ranges s) 0) ≡ false =
      ap (λ k. is_left_out k (line ∷ []) (last_reached s) && is_touched s.fold (given_ranges s) 0) known.diff
      ∙ ap (λ (t : Bool). left && t) known.touched ∙ ap (λ (l : Bool). l && true) shown in
      let body = body_plain layout start s under line [] (Begins start ∷ (removed ++ Offers 0 ∷ [])) known.one test
      (rows ∙ ap (λ l. Begins start ∷ changed_rows true l removed) shown) in
      let cells : map (suggested_cells layout s []) (removed ++ Offers 0 ∷ []) ≡ taken_cells layout first replaced 0 (unless_stays stays infos) ++ row ∷ [] =
      map-append (suggested_cells layout s []) removed (Offers 0 ∷ []) ∙ ap (λ rs. rs ++ suggested_cells layout s [] (Offers 0) ∷ []) (sym taken_are)
      ∙ ap (λ (r : List Cell). taken_cells layout first replaced 0 (unless_stays stays infos) ++ r ∷ []) offered_is in
      sym (body ∙ ap (λ r. r ∷ map (suggested_cells layout s []) (removed ++ Offers 0 ∷ [])) (begins_is layout s under start) ∙ ap (λ rs. begin ∷ rs) cells)

  -- the rows of a diff are those of the suggestion
  pub body_diff : (start : SuggestionStart) (under : List Cell) (added : List SubstitutionHighlight) → added ≡ new_on s 0
      → rows_of_suggestion start s ≡ Begins start ∷ changed_rows true left removed
      → diff_cells layout first infos replaced line added (begin_cells layout start under) ≡ body_cells layout start s under
  body_diff start under added new rows =
      let stays_is : stays ≡ bytes_eq line (last_removed infos) = ap (bytes_eq line) (sym known.last) in
      let left_is : is_left_out Diff (line ∷ []) (last_removed infos) ≡ left = ap (is_left_out Diff (line ∷ [])) known.last in
      ap (λ ss. diff_cells layout first infos replaced line ss (begin_cells layout start under)) new ∙ elim (cases_Bool left) [
        | inl leaves ↦ sym (diff_left layout first infos replaced line (new_on s 0) (begin_cells layout start under) stays stays_is (left_is ∙ leaves))
            ∙ body_left start under leaves rows
        | inr shown ↦ grind (arith, common_steps, diff_shown, stays_is, left_is, body_offered)
      ]

-- ---- the last row

-- the last row of an underlined suggestion has its marks
pub ends_marked : (layout : SuggestionLayout) (s : Snippet Patch) (follows : Bool) → shown_kind s ≡ Underline
    → with_marks layout (numbered_source s) [] (trimmed_of s) (end_cells layout follows) ≡ suggested_cells layout s [] (Ends follows)
unfolding suggested_cells
ends_marked layout s follows marks = grind (arith)

-- the last row of a suggestion that isn't underlined has no marks
pub ends_plain : (layout : SuggestionLayout) (s : Snippet Patch) (follows : Bool) → shown_kind s ≢ Underline
    → end_cells layout follows ≡ suggested_cells layout s [] (Ends follows)
unfolding suggested_cells with_marks
ends_plain layout s follows other = search rules

-- the body and the last row are all rows of a suggestion
pub suggestion_is : (layout : SuggestionLayout) (start : SuggestionStart) (follows : Bool) (s : Snippet Patch) (under : List Cell)
    (above before new : List (List Cell)) → before ≡ above ++ body_cells layout start s under
    → new ≡ before ++ suggested_cells layout s [] (Ends follows) ∷ [] → new ≡ above ++ suggestion_cells layout start follows s under
unfolding suggestion_cells
suggestion_is layout start follows s under above before new body adds = grind (arith, append_assoc)
