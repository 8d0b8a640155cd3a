-- What is added to a text form for a suggestion, one text after the other.
use Rattle.std.proofs.lemmas.Grind.{common_steps}
use Rattle.std.proofs.Common.{arith}
use Rattle.snippet_text_form.proofs.Common.{◌≡◌, ℕ, ◌+◌, ◌<◌, Bool, true, false, Option, Some, List, [], ◌∷◌, ◌++◌, get_or, length}
use Rattle.snippet_text_form.proofs.Common.{map, take, sym, ap, subst, ◌∙◌, and_from, cond-false, cond-true, flat_map_more, map_more, cow_str_bytes}
use Rattle.snippet_text_form.proofs.Common.{flat_map, option_map, Source, IsSpan, Loc, Edit, trimmed_edit_of, TrimmedPatch, is_blank_text, IsPrepared}
use Rattle.snippet_text_form.proofs.Common.{PreparedSuggestion, column_unless, FormPiece, Break, place, edit_form, edit_indent, edit_place, replaces_whole_line}
use Rattle.snippet_text_form.proofs.Common.{named_path, option_form, overwrites, replaced_to, replaces, suggestion_form, SuggestionContext, SuggestionSettings}
use Rattle.snippet_text_form.proofs.AddedLemmas.{added-two}

-- a text on a line of its own
pub adds_line : (old mid new form : List FormPiece) → mid ≡ old ++ Break ∷ [] → new ≡ mid ++ form → new ≡ old ++ Break ∷ form
adds_line old mid new form first last = added-two old mid new (Break ∷ []) form first last

-- whether an edit stands over text that isn't blank, as it was asked of the source itself
pub seen_over : (text source : List ℕ) (e : Edit) (over : Bool) → text ≡ source → IsSpan source e.start e.end
    → (IsSpan text e.start e.end → over ≡ overwrites text e) → over ≡ overwrites source e
seen_over text source e over same span asked =
    asked (subst (λ t. IsSpan t e.start e.end) (sym same) span) ∙ ap (λ t. overwrites t e) same

-- where an edit stands that replaces text, and where any other stands
pub replaced_place : (anonymized : Bool) (source : Source) (path : Option (List ℕ)) (e : Edit) (start end : Loc) → overwrites source.text e ≡ true
    → is_blank_text e.text ≡ false → edit_place anonymized source path e start end ≡ place anonymized path start.line (Some (start.char + 1))
    ++ replaced_to anonymized start end
replaced_place anonymized source path e start end over given = grind (arith, cond-true, and_from, source.text, start.line, start.char, e.text)

-- the place of an edit that doesn't replace text is where it starts
pub other_place : (anonymized : Bool) (source : Source) (path : Option (List ℕ)) (e : Edit) (start end : Loc) → replaces source.text e ≡ false
    → edit_place anonymized source path e start end ≡ place anonymized path start.line (column_unless (replaces_whole_line source start end e) start)
other_place anonymized source path e start end other = grind (arith, cond-false, source.text, start.line, start.char)

-- what is added for one more patch
pub edits_more : (f : Edit → List FormPiece) (old mid new : List FormPiece) (ps : List TrimmedPatch) (i : ℕ) (d : TrimmedPatch) → i < length ps
    → mid ≡ old ++ flat_map f (map trimmed_edit_of (take i ps)) → new ≡ mid ++ f (trimmed_edit_of (get_or ps i d))
    → new ≡ old ++ flat_map f (map trimmed_edit_of (take (i + 1) ps))
edits_more f old mid new ps i d within first last = grind (arith, common_steps, flat_map_more, map_more)

-- a suggestion is added once its number and all of its patches are
pub suggestion_added : (settings : SuggestionSettings) (at : SuggestionContext) (p : PreparedSuggestion) (indent : List ℕ) (path : Option (List ℕ))
    (old mid new : List FormPiece) → IsPrepared p → indent ≡ edit_indent at.option
    → path ≡ named_path at.names_path (option_map cow_str_bytes p.snippet.now.path) → mid ≡ old ++ option_form at.option
    → new ≡ mid ++ flat_map (edit_form settings p.map indent path) (map trimmed_edit_of p.splice.patches.items)
    → new ≡ old ++ suggestion_form settings at p.snippet.now
unfolding suggestion_form
suggestion_added settings at p indent path old mid new is indents names first last =
    grind (arith, added-two, p.snippet.now, p.splice.patches.items, at.names_path, p.map, at.option, is.lines, is.edits)
