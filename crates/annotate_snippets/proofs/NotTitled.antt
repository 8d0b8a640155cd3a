-- What stands in no head of a report: rows of titles, messages and paths that are wrong, each on a small report, contradict the definitions
-- of what rows show.
use Rattle.annotate_snippets.proofs.Common.{◌≡◌, ℕ, false, None, Some, List, [], ◌∷◌, ◌++◌, codes, drop, length, sym, ap, ◌∙◌, arith}
use Rattle.annotate_snippets.proofs.Common.{cow_str_bytes, slice_index_or, length-append, row_at, Layout, row_text, Standard, Annotation, Snippet, Cell, Note}
use Rattle.annotate_snippets.proofs.Common.{text_of, norm, sign_cells, origin_text, NamedRow, cells_of, rows_after_title, plain_settings, NamesLocation}
use Rattle.annotate_snippets.proofs.Common.{ShowsOrigin, ShowsMessage, ShowsTitle, Renderer, ElementContext, GroupPosition, Next}
use Rattle.std.specs.Str.{chars}
use Rattle.snippet_model.specs.declared.snippet.Origin as origin
use Rattle.annotate_snippets.proofs.PageWords.{message_style}
use Rattle.annotate_snippets.proofs.HeadingShown.{texts_of}
use Rattle.annotate_snippets.proofs.NotShown.{layout}
use Rattle.annotate_snippets.proofs.SmallReports.{error_title}

-- ---- titles and messages that are left out

-- a title without its rows, here `error: e`: what sets it off or closes its group stands there alone
titles_left_out : (place : GroupPosition) (follows : Next) (rows : List (List Cell))
    → rows ≡ rows_after_title plain_settings layout place follows false
    → ShowsTitle plain_settings layout place follows (error_title None (codes "e")) rows → ⊥
unfolding chars norm
titles_left_out place follows rows alone shown =
    let after : List (List Cell) = rows_after_title plain_settings layout place follows false in
    let none : length shown.own ≡ 0 = omega (arith, length-append shown.own after, ap length (sym shown.rows_are ∙ alone)) in
    no_row shown.own none (texts_of shown.shows 0)
  where
    no_row : (own : List (List Cell)) → length own ≡ 0 → row_text (row_at own 0) ≡ codes "error: e" → ⊥
    no_row [] none text = cc
    no_row (row ∷ own) none text = absurd (omega (arith, none))

-- a message without its rows, here `note: m`
messages_left_out : (r : Renderer) (layout : Layout) (around : ElementContext)
    → ShowsMessage r layout around (record { level = record { name = Standard; kind = Note }; text = text_of (codes "m") }) [] → ⊥
unfolding chars norm
messages_left_out r layout around shown =
    let sign : List ℕ = row_text (sign_cells (message_style r layout around)) in
    let text : [] ≡ (sign ++ codes "note: ") ++ codes "m" = texts_of shown.shows 0 in
    absurd (omega (arith, ap length text, length-append (sign ++ codes "note: ") (codes "m")))

-- ---- texts that are drawn as they are given, here U+001B, which is shown as U+241B

-- an id:
--
--     error[<U+001B>]: e
id_drawn_raw : (place : GroupPosition) (follows : Next) (rows : List (List Cell)) → row_text (row_at rows 0) ≡ codes "error[" ++ 27 ∷ codes "]: e"
    → ShowsTitle plain_settings layout place follows (error_title (Some (record { id = Some (text_of (27 ∷ [])); url = None })) (codes "e")) rows → ⊥
unfolding chars norm
id_drawn_raw place follows rows wrong shown = in_own shown.own shown.rows_are (texts_of shown.shows 0)
  where
    in_own : (own : List (List Cell)) → rows ≡ own ++ rows_after_title plain_settings layout place follows false
        → row_text (row_at own 0) ≡ codes "error[" ++ 0x241B ∷ codes "]: e" → ⊥
    in_own [] same right = cc
    in_own (row ∷ own) same right =
        let both : codes "error[" ++ 27 ∷ codes "]: e" ≡ codes "error[" ++ 0x241B ∷ codes "]: e" = cc (wrong, same, right) in
        let letter : ◌≡◌ {A = ℕ} 27 0x241B = ap (λ (cs : List ℕ). slice_index_or cs 6 0) both in
        absurd (omega (arith, letter))

-- the path of an origin, which names no line:
--
--      --> <U+001B>
path_drawn_raw : (around : ElementContext) (o : origin.Origin) → cow_str_bytes o.path ≡ 27 ∷ [] → o.line ≡ None → (rows : List NamedRow)
    → row_text (drop 5 (row_at (cells_of rows) 0)) ≡ 27 ∷ [] → ShowsOrigin plain_settings layout around o rows → ⊥
unfolding chars norm origin_text
path_drawn_raw around o path_is no_line rows wrong shown = grind (arith, slice_index_or, shown.text, o.line, o.char_column)

-- the path that the head of a snippet names, whatever place is named after it:
--
--      --> <U+001B>:1:1
path_of_snippet_drawn_raw : (s : Snippet Annotation) (row : List Cell) → slice_index_or (row_text (drop 5 row)) 0 0 ≡ 27
    → NamesLocation plain_settings layout s (27 ∷ []) row → ⊥
unfolding chars norm origin_text
path_of_snippet_drawn_raw s row wrong named = grind (arith, slice_index_or, named.text)
