-- What holds of each printable ASCII character, and of each of a path and a label as they are shown, holds of each character of the text
-- that names a place.
use Rattle.snippet_text_form.proofs.Common.{◌≡◌, ℕ, ◌==◌, ◌+◌, ◌&&◌, not, nat_lt, Bool, true, false, Option, None, Some, List, [], ◌++◌}
use Rattle.snippet_text_form.proofs.Common.{All, codes, length, if◌then◌else◌, refl, arith, decimal, list_any, nat_tests, All-nil, All-append, All-weaker}
use Rattle.snippet_text_form.proofs.Common.{Source, line_at, locations_of, Loc, Annotation, Edit, norm, column_text, line_name, IsDigit, decimal-all}
use Rattle.snippet_text_form.proofs.Common.{each-fails, after_place, column_unless, end_in_file, end_on_line, is_blank_before, is_blank_after, further_indent}
use Rattle.snippet_text_form.proofs.Common.{label_characters, span_place, span_text, before_id, before_name, after_path, column_words, place, place_in_file}
use Rattle.snippet_text_form.proofs.Common.{place_on_line, to_line, before_added, edit_indent, edit_place, overwrites, replaced_to, replaces}
use Rattle.snippet_text_form.proofs.Common.{replaces_whole_line, HeadingKind, Title, Message}
use Rattle.std.proofs.Common.{chars}

-- whether a character is no printable ASCII
abbrev pub is_odd : ℕ → Bool
is_odd c = not (nat_lt 31 c && nat_lt c 127)

module _ (P : ℕ → Type 0) (printable : (c : ℕ) → is_odd c ≡ false → P c) where
  -- a text of printable ASCII that is known
  pub known-each : (text : List ℕ) → list_any is_odd text ≡ false → All P text
  known-each text none = All-weaker (λ c. is_odd c ≡ false) P printable text (each-fails is_odd text none)

  -- a path as it is shown, if there is one
  abbrev pub PathIs : Option (List ℕ) → Type 0
  PathIs None = Unit {0}
  PathIs (Some path) = All P (norm (chars path))

  append-each : (xs ys : List ℕ) → All P xs → All P ys → All P (xs ++ ys)
  append-each xs ys first second = All-append P xs ys first second

  digit-each : (c : ℕ) → IsDigit c → P c
  digit-each c is = printable c (grind (arith, nat_tests, is))

  pub decimal-each : (n : ℕ) → All P (decimal n)
  decimal-each n = All-weaker IsDigit P digit-each (decimal n) (decimal-all n)

  line_name-each : (anonymized : Bool) (line : ℕ) → All P (line_name anonymized line)
  line_name-each true line = known-each (codes "LL") refl
  line_name-each false line = decimal-each line

  column_text-each : (column : Option ℕ) → All P (column_text column)
  column_text-each None = All-nil P
  column_text-each (Some column) =
      append-each (codes ":") (decimal column) (known-each (codes ":") refl) (decimal-each column)

  column_words-each : (column : Option ℕ) → All P (column_words column)
  column_words-each None = All-nil P
  column_words-each (Some column) =
      append-each (codes ", column ") (decimal column) (known-each (codes ", column ") refl) (decimal-each column)

  -- places
  after_path-each : (anonymized : Bool) (line column : Option ℕ) → All P (after_path anonymized line column)
  after_path-each anonymized None column = column_words-each column
  after_path-each anonymized (Some line) column = grind (arith, append-each, known-each, line_name-each, column_text-each)

  pub place_in_file-each : (anonymized : Bool) (path : List ℕ) (line column : Option ℕ) → All P (norm (chars path))
      → All P (place_in_file anonymized path line column)
  place_in_file-each anonymized path line column own = grind (arith, append-each, known-each, after_path-each)

  place_on_line-each : (anonymized : Bool) (line : ℕ) (column : Option ℕ) → All P (place_on_line anonymized line column)
  place_on_line-each anonymized line column = grind (arith, append-each, known-each, line_name-each, column_words-each)

  pub place-each : (anonymized : Bool) (path : Option (List ℕ)) (line : ℕ) (column : Option ℕ) → PathIs path → All P (place anonymized path line column)
  place-each anonymized None line column own = place_on_line-each anonymized line column
  place-each anonymized (Some path) line column own = place_in_file-each anonymized path (Some line) column own

  to_line-each : (anonymized : Bool) (line : ℕ) (column : Option ℕ) → All P (to_line anonymized line column)
  to_line-each anonymized line column =
      append-each (codes " to line " ++ line_name anonymized line) (column_words column)
      (append-each (codes " to line ") (line_name anonymized line) (known-each (codes " to line ") refl) (line_name-each anonymized line))
      (column_words-each column)

  -- where a span ends
  end_in_file-each : (anonymized : Bool) (start end : Loc) → All P (end_in_file anonymized start end)
  end_in_file-each anonymized start end = of_lines (start.line == end.line)
    where
      text : List ℕ
      text = codes " to " ++ line_name anonymized end.line ++ codes ":" ++ decimal (end.char + 1)

      text_each : All P text
      text_each =
          append-each (codes " to " ++ line_name anonymized end.line ++ codes ":") (decimal (end.char + 1))
          (append-each (codes " to " ++ line_name anonymized end.line) (codes ":")
          (append-each (codes " to ") (line_name anonymized end.line) (known-each (codes " to ") refl)
          (line_name-each anonymized end.line)) (known-each (codes ":") refl)) (decimal-each (end.char + 1))

      of_lines : (same : Bool) → All P (if same then [] else text)
      of_lines true = All-nil P
      of_lines false = text_each

  end_on_line-each : (anonymized : Bool) (source : Source) (start end : Loc) → All P (end_on_line anonymized source start end)
  end_on_line-each anonymized source start end = of_lines (start.line == end.line)
    where
      column : Option ℕ
      column = column_unless (is_blank_after (line_at source end.line) end.char) end

      of_lines : (same : Bool) → All P (if same then [] else to_line anonymized end.line column)
      of_lines true = All-nil P
      of_lines false = to_line-each anonymized end.line column

  span_place-each : (anonymized : Bool) (source : Source) (path : Option (List ℕ)) (start end : Loc) → PathIs path
      → All P (span_place anonymized source path start end)
  span_place-each anonymized source None start end own =
      let column : Option ℕ = column_unless (is_blank_before (line_at source start.line) start.char) start in
      append-each (place_on_line anonymized start.line column) (end_on_line anonymized source start end) (place_on_line-each anonymized start.line column)
      (end_on_line-each anonymized source start end)
  span_place-each anonymized source (Some path) start end own =
      append-each (place_in_file anonymized path (Some start.line) (Some (start.char + 1))) (end_in_file anonymized start end)
      (place_in_file-each anonymized path (Some start.line) (Some (start.char + 1)) own) (end_in_file-each anonymized start end)

  -- a label after a place, and an annotation's line
  after_place-each : (label : List ℕ) → All P label → All P (after_place label)
  after_place-each label own = of_shown (nat_lt 0 (length label))
    where
      of_shown : (shows : Bool) → All P (if shows then codes ": " ++ label else [])
      of_shown true = append-each (codes ": ") label (known-each (codes ": ") refl) own
      of_shown false = All-nil P

  pub span_text-each : (anonymized : Bool) (source : Source) (indent : List ℕ) (path : Option (List ℕ)) (a : Annotation) → All P indent → PathIs path
      → All P (label_characters a) → All P (span_text anonymized source indent path a)
  span_text-each anonymized source indent path a blank own label =
      grind (arith, locations_of, append-each, span_place-each, after_place-each, a.span.start, a.span.end)

  pub further_indent-each : (path : Option (List ℕ)) → All P (further_indent path)
  further_indent-each None = known-each (codes " ") refl
  further_indent-each (Some path) = known-each (codes "  ") refl

  -- where an edit stands, and what stands before its text
  replaced_to-each : (anonymized : Bool) (start end : Loc) → All P (replaced_to anonymized start end)
  replaced_to-each anonymized start end = of_lines (start.line == end.line)
    where
      column : List ℕ
      column = decimal (end.char + 1)

      on_line : List ℕ
      on_line = codes " to column " ++ column

      of_lines : (same : Bool) → All P (if same then on_line else to_line anonymized end.line (Some (end.char + 1)))
      of_lines true =
          append-each (codes " to column ") column (known-each (codes " to column ") refl) (decimal-each (end.char + 1))
      of_lines false = to_line-each anonymized end.line (Some (end.char + 1))

  pub edit_place-each : (anonymized : Bool) (source : Source) (path : Option (List ℕ)) (e : Edit) (start end : Loc) → PathIs path
      → All P (edit_place anonymized source path e start end)
  edit_place-each anonymized source path e start end own = of_kind (replaces source.text e)
    where
      column : Option ℕ
      column = column_unless (replaces_whole_line source start end e) start

      from : List ℕ
      from = place anonymized path start.line (Some (start.char + 1))

      of_kind : (replacing : Bool) → All P (if replacing then from ++ replaced_to anonymized start end else place anonymized path start.line column)
      of_kind true =
          append-each from (replaced_to anonymized start end) (place-each anonymized path start.line (Some (start.char + 1)) own)
          (replaced_to-each anonymized start end)
      of_kind false = place-each anonymized path start.line column own

  pub before_added-each : (source : List ℕ) (e : Edit) → All P (before_added source e)
  before_added-each source e = of_kind (overwrites source e)
    where
      of_kind : (over : Bool) → All P (if over then codes " replace with: " else codes " add: ")
      of_kind true = known-each (codes " replace with: ") refl
      of_kind false = known-each (codes " add: ") refl

  pub edit_indent-each : (option : Option ℕ) → All P (edit_indent option)
  edit_indent-each None = known-each (codes " ") refl
  edit_indent-each (Some number) = known-each (codes "  ") refl

  -- what stands before a name and before an id
  pub before_name-each : (kind : HeadingKind) → All P (before_name kind)
  before_name-each Title = All-nil P
  before_name-each Message = known-each (codes " ") refl

  pub before_id-each : (hidden : Bool) → All P (before_id hidden)
  before_id-each true = All-nil P
  before_id-each false = known-each (codes " ") refl
