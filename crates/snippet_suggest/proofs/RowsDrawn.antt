-- Rows that are drawn one below the other, as values.
use Rattle.snippet_suggest.proofs.Common.{◌≡◌, ℕ, ◌+◌, ◌-◌, ◌<◌, ◌≤◌, Bool, true, false, List, [], ◌∷◌, ◌++◌, length, map, take, drop, get_or, refl, sym, ap}
use Rattle.snippet_suggest.proofs.Common.{◌∙◌, ◌||◌, arith, append_assoc, bytes_eq, cond-false, cond-true, or-true, Cell, NoStyle, Removal, row_at, LineInfo}
use Rattle.snippet_suggest.proofs.Common.{SuggestionLayout, left_out_cells, offered_cells, on_last, removed_cells, with_stretches, SubstitutionHighlight, Diff}
use Rattle.snippet_suggest.proofs.Common.{is_left_out, is_blank_text, diff_cells, emptied_cells, gone_of, taken_cells, last_removed, unless_stays, numbered_at}
use Rattle.snippet_suggest.proofs.Common.{append-nil, drop_all, drop_more, length-map, length-take, map-append, take_all, take_more, capped_sum, common_steps}
use Rattle.std.proofs.Common.{chars}
use mir.Val.{bool_byte}
use Rattle.std.proofs.Math.ListN.{get_or-map}
use Rattle.snippet_suggest.proofs.StretchRows.{with_none}

-- one row more for each of some items
pub drawn_next : {A : Type 0} (f : A → List Cell) (xs : List A) (i : ℕ) (d : A) (old now new : List (List Cell)) → i < length xs
    → now ≡ old ++ map f (take i xs) → new ≡ now ++ f (get_or xs i d) ∷ [] → new ≡ old ++ map f (take (i + 1) xs)
drawn_next {A} f xs i d old now new within is adds = grind (arith, common_steps, take_more, map-append, append_assoc)

-- ---- lines that are removed with nothing in their place

-- so many of them are drawn: what stands, and what the next stands over
pub record Emptied (layout : SuggestionLayout) (above : List (List Cell)) (under : List Cell) (lines : List (ℕ × List ℕ)) (at count : ℕ)
    (now : List (List Cell)) : Type 0 where
  pub rows : List (List Cell)
  pub tail : List (List Cell)
  pub few : length tail ≤ 1
  pub here : at ≡ length (above ++ rows)
  pub stands : now ≡ (above ++ rows) ++ tail
  pub whole : rows ++ emptied_cells layout (drop count lines) (row_at tail 0) ≡ emptied_cells layout lines under
  pub after : 0 < count → tail ≡ []

-- before any emptied line is added the rows are those above and their tail
pub emptied_begun : (layout : SuggestionLayout) (above tail : List (List Cell)) (lines : List (ℕ × List ℕ)) (at : ℕ) (now : List (List Cell))
    → at ≡ length above → now ≡ above ++ tail → length tail ≤ 1 → Emptied layout above (row_at tail 0) lines at 0 now
emptied_begun layout above tail lines at now here is few =
    record {
      rows = [];
      tail = tail;
      few = few;
      here = here ∙ ap length (sym (append-nil above));
      stands = is ∙ ap (λ rows. rows ++ tail) (sym (append-nil above));
      whole = refl;
      after = λ none. absurd (omega arith);
    }

emptied-cons : (layout : SuggestionLayout) (line : ℕ × List ℕ) (lines : List (ℕ × List ℕ)) (under : List Cell)
    → emptied_cells layout (line ∷ lines) under ≡ removed_cells layout Removal line.0 line.1 under ∷ emptied_cells layout lines []
unfolding emptied_cells
emptied-cons layout line lines under = refl

emptied-nil : (layout : SuggestionLayout) (under : List Cell) → emptied_cells layout [] under ≡ []
unfolding emptied_cells
emptied-nil layout under = refl

pub emptied_more : (layout : SuggestionLayout) (above : List (List Cell)) (under : List Cell) (lines : List (ℕ × List ℕ)) (d : ℕ × List ℕ)
    (at count next : ℕ) (now new : List (List Cell)) (drawn : Emptied layout above under lines at count now) → count < length lines
    → new ≡ (above ++ drawn.rows) ++ removed_cells layout Removal (get_or lines count d).0 (get_or lines count d).1 (row_at drawn.tail 0) ∷ []
    → next ≡ length new → Emptied layout above under lines next (count + 1) new
emptied_more layout above under lines d at count next now new drawn within adds below = grind (arith, append_assoc, drop_more, emptied-cons, append-nil)

-- the next of some lines of the source
pub emptied_next : (layout : SuggestionLayout) (above : List (List Cell)) (under : List Cell) (infos : List LineInfo) (d : LineInfo)
    (at count next : ℕ) (now new : List (List Cell)) (drawn : Emptied layout above under (numbered_at infos) at count now) → count < length infos
    → new ≡ (above ++ drawn.rows) ++ removed_cells layout Removal (get_or infos count d).line_index (get_or infos count d).line.now
    (row_at drawn.tail 0) ∷ [] → next ≡ length new → Emptied layout above under (numbered_at infos) next (count + 1) new
emptied_next layout above under infos d at count next now new drawn within adds below =
    let f : LineInfo → ℕ × List ℕ = λ info. (info.line_index, info.line.now) in
    let line : get_or (numbered_at infos) count (f d) ≡ f (get_or infos count d) = get_or-map f infos count d in
    let here : count < length (numbered_at infos) = omega (arith, within, length-map infos f) in
    emptied_more layout above under (numbered_at infos) (f d) at count next now new drawn here
    (adds ∙ ap (λ (l : ℕ × List ℕ). (above ++ drawn.rows) ++ removed_cells layout Removal l.0 l.1 (row_at drawn.tail 0) ∷ []) (sym line)) below

-- no more lines are numbered than there are
pub numbered_all : (infos : List LineInfo) (count : ℕ) → length infos ≤ count → length (numbered_at infos) ≤ count
numbered_all infos count all = grind (arith, length-map)

-- once no emptied line is left all are added
pub emptied_done : (layout : SuggestionLayout) (above : List (List Cell)) (under : List Cell) (lines : List (ℕ × List ℕ)) (at count : ℕ)
    (now : List (List Cell)) → 0 < count → length lines ≤ count → Emptied layout above under lines at count now → now ≡ above
    ++ emptied_cells layout lines under
emptied_done layout above under lines at count now some all drawn = grind (arith, drop_all, emptied-nil, append-nil)

-- ---- a diff

taken-append : (layout : SuggestionLayout) (first : ℕ) (replaced : ℕ → List SubstitutionHighlight) (k : ℕ) (infos : List LineInfo) (info : LineInfo)
    → taken_cells layout first replaced k (infos ++ info ∷ [])
    ≡ taken_cells layout first replaced k infos ++ with_stretches Removal layout.base.gutter (chars info.line.now) (replaced (info.line_index - first))
    (removed_cells layout NoStyle (capped_sum first (k + length infos)) info.line.now []) ∷ []
unfolding taken_cells
taken-append layout first replaced k [] info = grind (arith, common_steps)
taken-append layout first replaced k (one ∷ infos) info = grind (arith, common_steps, taken-append layout first replaced (k + 1) infos info)

-- before any removed line is taken no row is added
pub taken_none : (layout : SuggestionLayout) (first : ℕ) (replaced : ℕ → List SubstitutionHighlight) (infos : List LineInfo) (old : List (List Cell))
    → old ≡ old ++ taken_cells layout first replaced 0 (take 0 infos)
unfolding taken_cells
taken_none layout first replaced infos old = sym (append-nil old)

-- the next of them
pub taken_next : (layout : SuggestionLayout) (first : ℕ) (replaced : ℕ → List SubstitutionHighlight) (infos : List LineInfo) (i number : ℕ)
    (d : LineInfo) (ss : List SubstitutionHighlight) (old now new : List (List Cell)) → i < length infos → number ≡ capped_sum first i
    → ss ≡ replaced ((get_or infos i d).line_index - first) → now ≡ old ++ taken_cells layout first replaced 0 (take i infos)
    → new ≡ now ++ with_stretches Removal layout.base.gutter (chars (get_or infos i d).line.now)
    ss (removed_cells layout NoStyle number (get_or infos i d).line.now []) ∷ []
    → new ≡ old ++ taken_cells layout first replaced 0 (take (i + 1) infos)
taken_next layout first replaced infos i number d ss old now new within number_is ss_is is adds =
    grind (arith, common_steps, length-take, take_more, taken-append, append_assoc)

-- the last of some rows
pub record LastOf (rows : List (List Cell)) : Type 0 where
  pub front : List (List Cell)
  pub end : List Cell
  pub is : rows ≡ front ++ end ∷ []
  pub changed : (f : List Cell → List Cell) → on_last f rows ≡ front ++ f end ∷ []

-- rows of which one is there have a last one
pub last_of : (row : List Cell) (rows : List (List Cell)) → LastOf (row ∷ rows)
unfolding on_last
last_of row [] = record { front = []; end = row; is = refl; changed = λ f. refl }
last_of row (next ∷ rows) =
    let later = last_of next rows in
    record {
      front = row ∷ later.front;
      end = later.end;
      is = ap (λ rs. row ∷ rs) later.is;
      changed = λ f. ap (λ rs. row ∷ rs) (later.changed f);
    }

-- the rows of a diff whose line isn't shown, and of one whose line is
pub diff_left : (layout : SuggestionLayout) (first : ℕ) (infos : List LineInfo) (replaced : ℕ → List SubstitutionHighlight) (line : List ℕ)
    (added : List SubstitutionHighlight) (last : List Cell) (stays : Bool) → stays ≡ bytes_eq line (last_removed infos)
    → is_left_out Diff (line ∷ []) (last_removed infos) ≡ true
    → on_last (left_out_cells layout.base.gutter line (gone_of stays first replaced infos) added)
    (last ∷ taken_cells layout first replaced 0 (unless_stays stays infos)) ≡ diff_cells layout first infos replaced line added last
unfolding diff_cells
diff_left layout first infos replaced line added last stays is left = grind (arith, common_steps, cond-true)

-- where the added line isn't left out, a diff is its beginning, the removed lines and the added one
pub diff_shown : (layout : SuggestionLayout) (first : ℕ) (infos : List LineInfo) (replaced : ℕ → List SubstitutionHighlight) (line : List ℕ)
    (added : List SubstitutionHighlight) (last : List Cell) (stays : Bool) → stays ≡ bytes_eq line (last_removed infos)
    → is_left_out Diff (line ∷ []) (last_removed infos) ≡ false
    → (last ∷ taken_cells layout first replaced 0 (unless_stays stays infos)) ++ offered_cells layout Diff 1 first line added ∷ []
    ≡ diff_cells layout first infos replaced line added last
unfolding diff_cells
diff_shown layout first infos replaced line added last stays is shown = grind (arith, common_steps, cond-false)

-- a line that is the last that is reached isn't shown
pub stays_left : (line last : List ℕ) → bytes_eq line last ≡ true → is_left_out Diff (line ∷ []) last ≡ true
stays_left line last same = ap (λ b. is_blank_text line || b) same ∙ or-true (is_blank_text line)

-- the lines that are drawn, where the last may stay
pub left_infos : (infos : List LineInfo) (count : ℕ) (stays : Bool) → count ≡ length infos - bool_byte stays → take count infos ≡ unless_stays stays infos
left_infos x y z u = grind (arith, take_all)

-- where the last line goes too, no stretch is given to another row
pub none_gone : (gutter : ℕ) (line : List ℕ) (stays : Bool) (first : ℕ) (replaced : ℕ → List SubstitutionHighlight) (infos : List LineInfo) (row : List Cell)
    → stays ≡ false → with_stretches Removal gutter (chars line) (gone_of stays first replaced infos) row ≡ row
none_gone gutter line stays first replaced infos row goes = grind (arith, with_none)

-- and those of the line that stays are
pub some_gone : (gutter : ℕ) (line : List ℕ) (stays : Bool) (first : ℕ) (replaced : ℕ → List SubstitutionHighlight) (infos : List LineInfo)
    (row : List Cell) (count : ℕ) (d : LineInfo) (ss : List SubstitutionHighlight) → stays ≡ true → count ≡ length infos - bool_byte stays
    → count < length infos → ss ≡ replaced ((get_or infos count d).line_index - first)
    → with_stretches Removal gutter (chars line) ss row ≡ with_stretches Removal gutter (chars line) (gone_of stays first replaced infos) row
some_gone gutter line stays first replaced infos row count d ss keeps counts within is = grind (arith, common_steps)
