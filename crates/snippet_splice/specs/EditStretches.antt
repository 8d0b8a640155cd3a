-- Which stretches of the lines that are shown the texts of trimmed edits take.
use Rattle.std.specs.Prelude.{ℕ, ◌+◌, ◌-◌, ◌*◌, nat_lt, min, ◌==◌, Bool, List, [], ◌∷◌, ◌++◌, length, take, count_by, chars}
use Rattle.std.specs.Prelude.{if◌then◌else◌}
use Rattle.snippet_style.specs.Bounds.{max_usize}
use Rattle.std.specs.List.{slice_range, slice_split}
use Rattle.snippet_lines.specs.Lines.{is_lf, last_byte}
use Rattle.snippet_splice.specs.declared.stretches.SubstitutionHighlight.{SubstitutionHighlight}
use Rattle.snippet_splice.specs.Copied.{in_text}
use Rattle.snippet_splice.specs.Edits.{Edit, in_order, trimmed_edits}
use Rattle.snippet_splice.specs.ShownText.{first_start, shown_start}

-- a number, as far as there are numbers
abbrev pub capped : ℕ → ℕ
capped n = min n max_usize

-- how many characters a text takes in a stretch: a tab as many as four
abbrev pub stretch_width : List ℕ → ℕ
stretch_width text = capped (length (chars text) + capped (count_by (λ b. b == 9) text * 3))

-- what stands in line k of pieces that stand one to a line from this one on, the first from this character on, and the others from
-- the beginning of their lines
abbrev pub pieces_on : ℕ → ℕ → ℕ → List (List ℕ) → List SubstitutionHighlight
pieces_on k line from [] = []
pieces_on k line from (piece ∷ pieces) =
    (if line == k then record { start = from; end = capped (from + stretch_width piece) } ∷ [] else [])
    ++ pieces_on k (capped (line + 1)) 0 pieces

-- what stands after the last LF of a text: all of it, if it holds none
abbrev pub after_last_lf : List ℕ → List ℕ
after_last_lf [] = []
after_last_lf (b ∷ bs) = if count_by is_lf (b ∷ bs) == 0 then b ∷ bs else after_last_lf bs

-- how many characters stand before a byte in the text of its line of the source, from a byte on at which a line begins; and how many
-- before a span that starts there: one more where it stands after that text
abbrev pub characters_before : List ℕ → ℕ → ℕ → ℕ
characters_before source from b =
    length (chars (after_last_lf (slice_range source (in_text source from) (in_text source b))))

abbrev pub start_character : List ℕ → ℕ → ℕ → ℕ
start_character source from b = characters_before source from b + (if nat_lt (in_text source b) b then 1 else 0)

-- how many stand before the end of an edit: as many as before its start if it stands over nothing; one more where it ends on a later
-- line, after the text of that
abbrev pub end_character : List ℕ → ℕ → Edit → ℕ
end_character source from e =
    if e.start == e.end then start_character source from e.start
    else if count_by is_lf (slice_range source (in_text source e.start) (in_text source e.end)) == 0 then characters_before source from e.end
    else start_character source from e.end

-- where an edit stands in its lines of the source: how many LF stand between the edit before it and its start, how many characters
-- of a line stand before its start and before its end, how many of them are of the text of its line, what it stands over, and its text
pub record Extent : Type 0 where
  pub feeds : ℕ
  pub before : ℕ
  pub start : ℕ
  pub end : ℕ
  pub under : List ℕ
  pub text : List ℕ

-- where some edits do, which stand after a byte, if a line begins at byte `from`
abbrev pub extents_from : List ℕ → ℕ → ℕ → List Edit → List Extent
extents_from source from at [] = []
extents_from source from at (e ∷ es) =
    record {
      feeds = count_by is_lf (slice_range source (in_text source at) (in_text source e.start));
      before = characters_before source from e.start;
      start = start_character source from e.start;
      end = end_character source from e;
      under = slice_range source (in_text source e.start) (in_text source e.end);
      text = e.text;
    } ∷ extents_from source from e.end es

-- the character at which the text of an edit begins, if character `end` of the source stands as character `shown` in its line: as in
-- the source where it is the first on its line, else as far after the edit before it as there
abbrev pub text_start : ℕ → ℕ → Extent → ℕ
text_start shown end x = if x.feeds == 0 then capped (shown + (x.start - end)) else x.start

-- as which character its end stands then: after its text, but where that has several lines, as in the source
abbrev pub shown_end : ℕ → Extent → ℕ
shown_end from x = if count_by is_lf x.text == 0 then capped (from + stretch_width x.text) else x.end

-- the stretches of line k, of the texts of some edits, where the end of an edit before them stands in this line. A text has a piece for each
-- line: it is cut at its LF
abbrev pub stretches_on : ℕ → ℕ → ℕ → ℕ → List Extent → List SubstitutionHighlight
stretches_on k line shown end [] = []
stretches_on k line shown end (x ∷ xs) =
    let first = capped (line + x.feeds) in
    let from = text_start shown end x in
    pieces_on k first from (slice_split is_lf x.text) ++ stretches_on k (capped (first + count_by is_lf x.text)) (shown_end from x) x.end xs

-- the stretches of line k of the text that is shown, which the edits write anew
unfoldable pub new_stretches : Bool → List ℕ → List Edit → ℕ → List SubstitutionHighlight
new_stretches fold source es k =
    let from = shown_start fold source (first_start (in_order es)) in
    stretches_on k 0 0 0 (extents_from source from from (trimmed_edits source es))

-- ---- the stretches of the source that edits stand over

-- the text of a line that an LF ends: without the CR before that
abbrev pub without_cr : List ℕ → List ℕ
without_cr text = if last_byte text == 13 then take (length text - 1) text else text

-- what is taken of line k by pieces that stand one to a line from this one on, where `before` characters of the first line's text
-- stand before the first piece: that from character `start` on, any other from the beginning of its line; the last to character `end`,
-- any other to the end of its line's text
abbrev pub taken_on : ℕ → ℕ → ℕ → ℕ → ℕ → List (List ℕ) → List SubstitutionHighlight
taken_on k line before start end [] = []
taken_on k line before start end (piece ∷ []) = if line == k then record { start = start; end = end } ∷ [] else []
taken_on k line before start end (piece ∷ next ∷ pieces) =
    (if line == k then record { start = start; end = capped (before + length (chars (without_cr piece))) } ∷ [] else [])
    ++ taken_on k (capped (line + 1)) 0 0 end (next ∷ pieces)

-- the stretches of line k of the source, from one of its lines on, which some edits stand over
abbrev pub replaced_on : ℕ → ℕ → List Extent → List SubstitutionHighlight
replaced_on k line [] = []
replaced_on k line (x ∷ xs) =
    let first = capped (line + x.feeds) in
    taken_on k first x.before x.start x.end (slice_split is_lf x.under) ++ replaced_on k (capped (first + count_by is_lf x.under)) xs

-- the stretches of line k after the first source line that is shown, which the edits replace
unfoldable pub replaced_stretches : Bool → List ℕ → List Edit → ℕ → List SubstitutionHighlight
replaced_stretches fold source es k =
    let from = shown_start fold source (first_start (in_order es)) in
    replaced_on k 0 (extents_from source from from (trimmed_edits source es))
