-- The rows around the lines of a snippet, and those of an origin, hold a line feed only where a path does.
use Rattle.std.proofs.lemmas.Grind.{common_steps}
use Rattle.annotate_snippets.proofs.Common.{◌≡◌, ℕ, ◌==◌, ◌&&◌, Bool, true, false, cond, Option, None, Some, List, [], ◌∷◌, All, refl}
use Rattle.annotate_snippets.proofs.Common.{sym, subst, arith, cow_str_bytes, flat_map, list_any, nat_tests, flat_map-cons, All-append, All-cons, All-head}
use Rattle.annotate_snippets.proofs.Common.{All-nil, All-tail, Cell, DecorStyle, Ascii, Unicode, norm, shown, Annotation, Snippet, file_glyph, file_row}
use Rattle.annotate_snippets.proofs.Common.{origin_row, origin_text, snippet_head, padding_row, FileStart, Alone, First, Later, Secondary}
use Rattle.annotate_snippets.proofs.Common.{OriginLayout, OriginLocation, IsDigit, opening_rows-each, nameless_head-each, primary_head-each}
use Rattle.annotate_snippets.proofs.Common.{secondary_head-each, each-fails, place-each, Renderer, ElementContext, Layout, closes_after, is_before_message}
use Rattle.annotate_snippets.proofs.Common.{path_bytes, is_first_group, cause_head, origin_rows, rows_after_cause, HasNoFeed, closing_row, separator_row}
use Rattle.std.proofs.Common.{chars}
use Rattle.snippet_model.specs.declared.snippet.Origin as origin
use Rattle.annotate_snippets.proofs.OneLineTexts.{IsNoFeed, IsOneLineText}
use Rattle.annotate_snippets.proofs.FeedLaws.{after_spaces, bare-plain}
pub use Rattle.annotate_snippets.proofs.FeedLaws.{cells_plain}

-- ---- characters

-- either of two texts without line feeds has none
pub choice : (b : Bool) (xs ys : List ℕ) → All IsNoFeed xs → All IsNoFeed ys → All IsNoFeed (cond b xs ys)
choice true xs ys one other = one
choice false xs ys one other = other

-- a text of one character that is no line feed has none
pub alone : (c : ℕ) → IsNoFeed c → All IsNoFeed (c ∷ [])
alone c plain = All-cons IsNoFeed c [] plain (All-nil IsNoFeed)

-- what is shown for a character that is no line feed holds none, and so does a normalised text
shown_plain : (c : ℕ) → IsNoFeed c → All IsNoFeed (shown c)
shown_plain c plain = grind (arith, All-cons, nat_tests, All-nil)

-- normalising adds no line feed
pub norm-plain : (cs : List ℕ) → All IsNoFeed cs → All IsNoFeed (norm cs)
unfolding norm
norm-plain [] plain = All-nil IsNoFeed
norm-plain (c ∷ cs) plain =
    subst (All IsNoFeed) (sym (flat_map-cons shown c cs)) (All-append IsNoFeed (shown c) (flat_map shown cs) (shown_plain c (All-head IsNoFeed c cs plain))
    (norm-plain cs (All-tail IsNoFeed c cs plain)))

-- a digit is no line feed
pub digit_plain : (c : ℕ) → IsDigit c → IsNoFeed c
digit_plain c is = grind (arith, nat_tests)

glyphs_plain : (start : FileStart) (decor : DecorStyle) → list_any (λ c. c == 10) (file_glyph start decor) ≡ false
glyphs_plain Alone Ascii = refl
glyphs_plain Alone Unicode = refl
glyphs_plain First Ascii = refl
glyphs_plain First Unicode = refl
glyphs_plain Later Ascii = refl
glyphs_plain Later Unicode = refl
glyphs_plain Secondary Ascii = refl
glyphs_plain Secondary Unicode = refl

-- ---- rows

file_plain : (layout : OriginLayout) (start : FileStart) → HasNoFeed (file_row layout start)
unfolding file_row
file_plain layout start = grind (arith, after_spaces, cells_plain, each-fails, glyphs_plain, layout.base.decor, layout.base.gutter)

origin_text-plain : (anonymized : Bool) (path : List ℕ) (place : OriginLocation) → All IsNoFeed (chars path) → All IsNoFeed (origin_text anonymized path place)
unfolding origin_text
origin_text-plain anonymized path place plain =
    All-append IsNoFeed _ _ (norm-plain (chars path) plain) (place-each IsNoFeed digit_plain refl refl anonymized place)

-- the row of a path that holds none holds none
pub row_plain : (layout : OriginLayout) (start : FileStart) (path : List ℕ) (place : OriginLocation) → All IsNoFeed (chars path)
    → HasNoFeed (origin_row layout start path place)
unfolding origin_row
row_plain layout start path place plain = grind (arith, common_steps, All-append, file_plain, cells_plain, origin_text-plain, layout.anonymized)

head_plain : (layout : OriginLayout) (primary first : Bool) (named : Option (List ℕ)) (place : OriginLocation) → IsOneLineText named
    → All HasNoFeed (snippet_head layout primary first named place)
head_plain layout true first None place plain =
    opening_rows-each HasNoFeed layout (bare-plain layout.base.decor layout.base.gutter false) (file_plain layout) layout.base.decor first
head_plain layout true first (Some path) place plain =
    grind (arith, common_steps, primary_head-each, bare-plain, row_plain, layout.base.decor, layout.base.gutter)
head_plain layout false first None place plain =
    nameless_head-each HasNoFeed layout (bare-plain layout.base.decor layout.base.gutter false) (file_plain layout Secondary)
head_plain layout false first (Some path) place plain =
    secondary_head-each HasNoFeed layout (bare-plain layout.base.decor layout.base.gutter false) path place (λ start. row_plain layout start path place plain)

one : (row : List Cell) → HasNoFeed row → All HasNoFeed (row ∷ [])
one row plain = All-cons HasNoFeed row [] plain (All-nil HasNoFeed)

-- nor does a row that closes a group's window hold one
pub closing_plain : (r : Renderer) (layout : Layout) (closes : Bool) → All HasNoFeed (cond closes (closing_row layout.decor layout.gutter ∷ []) [])
closing_plain r layout true = one _ (bare-plain layout.decor layout.gutter true)
closing_plain r layout false = All-nil HasNoFeed

-- so the rows that a snippet begins with hold none where its path holds none, and those below its lines never do
pub head_one_line : (r : Renderer) (layout : Layout) (around : ElementContext) (s : Snippet Annotation) → IsOneLineText (path_bytes s.path)
    → All HasNoFeed (cause_head r layout around s)
head_one_line r layout around s plain = grind (arith, head_plain, around.primary, around.first, s.path, s.fold, s.markers.items)

-- nor do the rows below a snippet's lines hold one, whatever follows
pub after_one_line : (r : Renderer) (layout : Layout) (around : ElementContext) → All HasNoFeed (rows_after_cause r layout around)
after_one_line r layout around = either (is_first_group around.place && is_before_message around.next)
  where
    either : (sets_off : Bool)
        → All HasNoFeed (cond sets_off (separator_row layout.decor layout.gutter ∷ [])
        (cond (closes_after around) (closing_row layout.decor layout.gutter ∷ []) []))
    either true = one _ (bare-plain layout.decor layout.gutter false)
    either false = closing_plain r layout (closes_after around)

-- nor does that of a padding
pub padding_one_line : (r : Renderer) (layout : Layout) (last : Bool) → All HasNoFeed (padding_row layout.decor layout.gutter last ∷ [])
padding_one_line r layout true = one _ (bare-plain layout.decor layout.gutter true)
padding_one_line r layout false = one _ (bare-plain layout.decor layout.gutter false)

-- nor do the rows of an origin whose path holds none
pub origin_one_line : (r : Renderer) (layout : Layout) (around : ElementContext) (o : origin.Origin) → All IsNoFeed (chars (cow_str_bytes o.path))
    → All HasNoFeed (origin_rows r layout around o)
origin_one_line r layout around o plain = grind (arith, All-cons, row_plain, closing_plain, o.path, layout.decor, layout.gutter)
