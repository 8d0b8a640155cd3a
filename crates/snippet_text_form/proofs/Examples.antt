-- The definitions, computed on small elements. In these texts LF is written `\n`.
use Rattle.snippet_text_form.proofs.Common.{◌≡◌, ℕ, ◌<◌, ◌^◌, true, false, Option, None, Some, Vec, List, [], ◌∷◌, ◌++◌, codes}
use Rattle.snippet_text_form.proofs.Common.{length, refl, arith, CowStr, Borrowed, newline_count, start_of, end_location, line_of, location_of, locations_of}
use Rattle.snippet_text_form.proofs.Common.{place_of, start_location, steps_after_text, unindexed, Heading, LevelName, Hidden, Standard, Annotation}
use Rattle.snippet_text_form.proofs.Common.{AnnotationKind, Primary, Context, Id, Patch, Snippet, trimmed_edit, kept_before, sandwich, LevelInner, Error, Help}
use Rattle.snippet_text_form.proofs.Common.{Info, default_sheet, link_start, link_stop, norm, width_of-colon, cause_form, form_bytes, form_text, plain_from}
use Rattle.snippet_text_form.proofs.Common.{form_links, heading_form, origin_form, suggestion_form, Title, Message, SuggestionSettings}
use Rattle.std.specs.Fmt.{digits}
use Rattle.std.specs.Str.{chars}
use Rattle.std.specs.declared.alloc.Global.{Global}

-- a text, a heading, and snippets whose first line has number 1
abbrev text_of : List ℕ → CowStr Global
text_of text = Borrowed (record { ref_ptr = (0, 0); now = text })

abbrev heading : LevelInner → LevelName → Option Id → List ℕ → Heading
heading kind name id text =
    record { level = record { name = name; kind = kind }; id = id; text = text; allows_styling = false }

abbrev mark : AnnotationKind → ℕ → ℕ → List ℕ → Annotation
mark kind start end label =
    record { span = record { start = start; end = end }; label = Some (text_of label); kind = kind; highlight_source = false }

abbrev cause : Vec Annotation Global → Option (CowStr Global) → List ℕ → (ms : List Annotation) → length ms < 2 ^ 63 → Snippet Annotation
cause v path text ms few =
    record {
      path = path;
      line_start = 1;
      source = unindexed (text_of text);
      markers = record { ptr = v.ptr; len = length ms; cap = length ms; alloc = v.alloc; items = ms; ok = (refl, omega arith); small = few };
      line_numbering = true;
      fold = true;
    }

abbrev pub offer : Vec Patch Global → List ℕ → (ps : List Patch) → length ps < 2 ^ 63 → Snippet Patch
offer v text ps few =
    record {
      path = None;
      line_start = 1;
      source = unindexed (text_of text);
      markers = record { ptr = v.ptr; len = length ps; cap = length ps; alloc = v.alloc; items = ps; ok = (refl, omega arith); small = few };
      line_numbering = true;
      fold = true;
    }

abbrev pub patch : ℕ → ℕ → List ℕ → Patch
patch start end text = record { span = record { start = start; end = end }; replacement = text_of text }

-- a title with an id, one whose name is hidden, and a message after another element
title_with_id : form_text (heading_form false Title (heading Error Standard (Some (record { id = Some (text_of (codes "E0308")); url = None }))
    (codes "mismatched types"))) ≡ codes "error E0308: mismatched types"
unfolding heading_form norm chars
title_with_id = refl

hidden_name : form_text (heading_form false Title (heading Help Hidden None (codes "x"))) ≡ codes "x"
unfolding heading_form norm chars
hidden_name = refl

message : plain_from true (heading_form false Message (heading Info Standard None (codes "see the docs"))) ≡ codes "\n info: see the docs"
unfolding heading_form norm chars
message = refl

-- the further lines of a title stand below its text, also those that are empty
abbrev nameless : Heading
nameless =
    heading Help Hidden (Some (record { id = None; url = Some (text_of (codes "u")) })) (codes "a\n\nb")

several_lines : form_text (heading_form false Title nameless) ≡ codes ": a\n  \n  b"
unfolding heading_form norm chars
several_lines = grind (arith, width_of-colon)

lines_without_label : plain_from true (heading_form false Message (heading Error Hidden None (codes "a\n\nb"))) ≡ codes "\na\n\nb"
unfolding heading_form norm chars
lines_without_label = refl

-- an id links to its address where links are on and its text shows anything
linked_id : form_links (heading_form true Title (heading Help Standard
    (Some (record { id = Some (text_of (codes "E1")); url = Some (text_of (codes "u")) })) [])) ≡ codes "u" ∷ []
unfolding heading_form norm chars
linked_id = refl

empty_id : form_links (heading_form true Title (heading Help Standard (Some (record { id = Some (text_of []); url = Some (text_of (codes "u")) })) [])) ≡ []
unfolding heading_form norm chars
empty_id = refl

-- under a sheet each text is opened in its style and reset, also one that is empty
abbrev escape : List ℕ → List ℕ
escape code = 27 ∷ code

coloured : form_bytes default_sheet
    (heading_form true Title (heading Help Standard (Some (record { id = Some (text_of (codes "E1")); url = Some (text_of (codes "u")) })) []))
    ≡ escape (codes "[1m") ++ escape (codes "[96m") ++ codes "help" ++ escape (codes "[0m") ++ codes " " ++ escape (codes "[1m")
    ++ escape (codes "[96m") ++ link_start ++ codes "u" ++ link_stop ++ codes "E1" ++ link_start ++ link_stop ++ escape (codes "[0m")
    ++ escape (codes "[1m") ++ codes ": " ++ escape (codes "[0m") ++ escape (codes "[1m") ++ escape (codes "[0m")
unfolding heading_form norm chars digits lib.Utf8.encode
coloured = refl

-- a primary span and another, in a file
two_spans : (v : Vec Annotation Global)
    → plain_from true (cause_form false (cause v (Some (text_of (codes "a.rs"))) (codes "let x = 1;")
    (mark Context 8 9 (codes "value") ∷ mark Primary 4 5 (codes "here") ∷ []) (omega arith))) ≡ codes "\n at a.rs:1:5: here\n  on line 1, column 9: value"
unfolding cause_form locations_of start_location end_location location_of place_of steps_after_text line_of start_of newline_count digits norm chars
two_spans v = refl

-- a span over two lines: without a path the column is left out where the line ends with it; in a file the lines may be anonymized
two_lines : (v : Vec Annotation Global)
    → plain_from true (cause_form false (cause v None (codes "f(a,\n b)") (mark Primary 1 8 (codes "x") ∷ []) (omega arith)))
    ≡ codes "\n on line 1, column 2 to line 2: x"
unfolding cause_form locations_of start_location end_location location_of place_of steps_after_text line_of start_of newline_count digits norm chars
two_lines v = refl

two_lines_anonymized : (v : Vec Annotation Global)
    → plain_from true (cause_form true (cause v (Some (text_of (codes "a.rs"))) (codes "f(a,\n b)") (mark Primary 1 8 (codes "x") ∷ []) (omega arith)))
    ≡ codes "\n at a.rs:LL:2 to LL:4: x"
unfolding cause_form locations_of start_location end_location location_of place_of steps_after_text line_of start_of newline_count digits norm chars
two_lines_anonymized v = refl

-- how suggestions are told: with the numbers of lines, and with line feeds as they are
abbrev told : SuggestionSettings
told = record { anonymized = false; show_line_feeds = false }

-- `foo` with `bar` in its place
replacement : (v : Vec Patch Global)
    → plain_from true (suggestion_form told (record { option = None; names_path = true })
    (offer v (codes "foo") (patch 0 3 (codes "bar") ∷ []) (omega arith))) ≡ codes "\n on line 1, column 1 to column 4 replace with: bar"
unfolding suggestion_form trimmed_edit sandwich kept_before locations_of start_location end_location location_of place_of steps_after_text line_of start_of
    newline_count digits norm chars
replacement v = refl

-- `foo()` with `y` put before the bracket, the second of two suggestions
second_option : (v : Vec Patch Global)
    → plain_from true (suggestion_form told (record { option = Some 2; names_path = false })
    (offer v (codes "foo()") (patch 4 4 (codes "y") ∷ []) (omega arith))) ≡ codes "\n option 2\n  on line 1, column 5 add: y"
unfolding suggestion_form trimmed_edit sandwich kept_before locations_of start_location end_location location_of place_of steps_after_text line_of start_of
    newline_count digits norm chars
second_option v = refl

-- `x` put into the empty line between `a` and `b`. The bytes at which a line is cut are those of the source, so the column is named
empty_line : (v : Vec Patch Global)
    → plain_from true (suggestion_form told (record { option = None; names_path = true })
    (offer v (codes "a\n\nb") (patch 2 2 (codes "x") ∷ []) (omega arith))) ≡ codes "\n on line 2, column 1 add: x"
unfolding suggestion_form trimmed_edit sandwich kept_before locations_of start_location end_location location_of place_of steps_after_text line_of start_of
    newline_count digits norm chars
empty_line v = refl

-- two lines in place of `foo`, as they are, and on one line, with U+240A for the line feed between them
two_lines_put : (v : Vec Patch Global)
    → plain_from true (suggestion_form told (record { option = None; names_path = true })
    (offer v (codes "foo") (patch 0 3 (codes "a\nb\n") ∷ []) (omega arith))) ≡ codes "\n on line 1, column 1 to column 4 replace with: a\nb"
unfolding suggestion_form trimmed_edit sandwich kept_before locations_of start_location end_location location_of place_of steps_after_text line_of start_of
    newline_count digits norm chars
two_lines_put v = refl

two_lines_shown : (v : Vec Patch Global)
    → plain_from true (suggestion_form (record told { show_line_feeds = true }) (record { option = None; names_path = true })
    (offer v (codes "foo") (patch 0 3 (codes "a\nb\n") ∷ []) (omega arith)))
    ≡ codes "\n on line 1, column 1 to column 4 replace with: a" ++ 0x240A ∷ codes "b"
unfolding suggestion_form trimmed_edit sandwich kept_before locations_of start_location end_location location_of place_of steps_after_text line_of start_of
    newline_count digits norm chars
two_lines_shown v = refl

-- on a line of whitespace alone, and where a line is deleted, no column is named
blank_line : (v : Vec Patch Global)
    → plain_from true (suggestion_form told (record { option = None; names_path = true }) (offer v (codes "\t") (patch 1 1 (codes "(") ∷ []) (omega arith)))
    ≡ codes "\n on line 1 add: ("
unfolding suggestion_form trimmed_edit sandwich kept_before locations_of start_location end_location location_of place_of steps_after_text line_of start_of
    newline_count digits norm chars
blank_line v = refl

deleted_line : (v : Vec Patch Global)
    → plain_from true (suggestion_form told (record { option = None; names_path = true }) (offer v (codes " b") (patch 0 2 [] ∷ []) (omega arith)))
    ≡ codes "\n on line 1"
unfolding suggestion_form trimmed_edit sandwich kept_before locations_of start_location end_location location_of place_of steps_after_text line_of start_of
    newline_count digits norm chars
deleted_line v = refl

-- a place without source, which may have a column and no line
origin : form_text (origin_form false (record { path = text_of (codes "a.rs"); line = Some 100; char_column = None })) ≡ codes " at a.rs:100"
unfolding origin_form digits norm chars
origin = refl

column_alone : form_text (origin_form false (record { path = text_of (codes "b.rs"); line = None; char_column = Some 0 })) ≡ codes " at b.rs, column 0"
unfolding origin_form digits norm chars
column_alone = refl
