-- The text form of a group's elements, and that of a report's groups, are made one by one.
use Rattle.std.proofs.lemmas.Grind.{common_steps}
use Rattle.annotate_snippets.proofs.Common.{◌≡◌, ◌≢◌, ◌∙◌, ℕ, ◌+◌, ◌^◌, ◌<◌, ◌≤◌, ◌==◌, cond, not, Bool, true, false}
use Rattle.annotate_snippets.proofs.Common.{List, [], ◌∷◌, ◌++◌, Option, None, Some, IfSome, if◌then◌else◌, length, drop, get_or, refl, sym, ap}
use Rattle.annotate_snippets.proofs.Common.{arith, filter, flat_map, option_to_list, drop-cons, both_ways, append-nil, append_assoc, drop_all, Element, Message}
use Rattle.annotate_snippets.proofs.Common.{Cause, Suggestion, Origin, Padding, heading_of_title, Patch, Group, Title, FormPiece, heading_form, drawn_elements}
use Rattle.annotate_snippets.proofs.Common.{file_of_group, first_two_share, is_same_file, path_bytes, PreviousSuggestion, before_next, element_form}
use Rattle.annotate_snippets.proofs.Common.{elements_form, group_form, option_number, is_drawn, before_seen, Renderer}
use Rattle.snippet_text_form.specs.declared.heading.HeadingKind.TheVariants as kind
use Rattle.annotate_snippets.specs.declared.renderer.text_form.PreviousSuggestion as code

-- the elements before this one were added, as far as they are drawn: with those that are left, the form is what all are after the
-- old one. The suggestion right before has at most as large a number as there are elements before
pub record ElementsSoFar (r : Renderer) (file : Option (List ℕ)) (es : List Element) (i : ℕ) (old form : List FormPiece)
    (before : Option PreviousSuggestion) : Type 0 where
  pub left : form ++ elements_form r file before (filter is_drawn (drop i es)) ≡ old ++ elements_form r file None (filter is_drawn es)
  pub numbered : IfSome before (λ (b : PreviousSuggestion). b.number ≤ i)

-- none of them
pub none_added : (r : Renderer) (file : Option (List ℕ)) (es : List Element) (old : List FormPiece) → ElementsSoFar r file es 0 old old None
none_added r file es old = record { left = refl; numbered = tt }

-- the number after a suggestion
number_within : (before : Option PreviousSuggestion) (path : Option (List ℕ)) (i : ℕ) → IfSome before (λ (b : PreviousSuggestion). b.number ≤ i)
    → option_number before path ≤ i + 1
number_within None path i small = omega arith
number_within (Some before) path i small = by (is_same_file before.path path)
  where
    by : (same : Bool) → (if same then before.number + 1 else 1) ≤ i + 1
    by true = omega (arith, small)
    by false = omega arith

next_within : (before : Option PreviousSuggestion) (e : Element) (i : ℕ) → IfSome before (λ (b : PreviousSuggestion). b.number ≤ i)
    → IfSome (before_next before e) (λ (b : PreviousSuggestion). b.number ≤ i + 1)
next_within before (Message m) i small = tt
next_within before (Cause s) i small = tt
next_within before (Suggestion s) i small = number_within before (path_bytes s.path) i small
next_within before (Origin o) i small = tt
next_within before (Padding p) i small = tt

-- what is left from an element on: that element, where it is drawn
drawn_left : (es : List Element) (i : ℕ) (e : Element) (drawn : Bool) → i < length es → e ≡ get_or es i e → is_drawn e ≡ drawn
    → filter is_drawn (drop i es) ≡ cond drawn (e ∷ filter is_drawn (drop (i + 1) es)) (filter is_drawn (drop (i + 1) es))
drawn_left es i e drawn within is tests = grind (arith, drop-cons)

-- one more of them
pub element_added : (r : Renderer) (file : Option (List ℕ)) (es : List Element) (i : ℕ) (e : Element) (old form new : List FormPiece)
    (before after : Option PreviousSuggestion) (followed : Bool) → i < length es → e ≡ get_or es i e → is_drawn e ≡ true
    → followed ≡ first_two_share (e ∷ filter is_drawn (drop (i + 1) es))
    → new ≡ form ++ element_form r file before followed e → after ≡ before_next before e → ElementsSoFar r file es i old form before
    → ElementsSoFar r file es (i + 1) old new after
element_added r file es i e old form new before after followed within is drawn shares added follows so_far =
    grind (arith, common_steps, drawn_left, append_assoc, next_within)

-- one that isn't drawn
pub element_passed : (r : Renderer) (file : Option (List ℕ)) (es : List Element) (i : ℕ) (e : Element) (old form : List FormPiece)
    (before : Option PreviousSuggestion) → i < length es → e ≡ get_or es i e → is_drawn e ≡ false → ElementsSoFar r file es i old form before
    → ElementsSoFar r file es (i + 1) old form before
element_passed r file es i e old form before within is passed so_far =
    record {
      left = ap (λ (xs : List Element). form ++ elements_form r file before xs) (sym (drawn_left es i e false within is passed)) ∙ so_far.left;
      numbered = still before so_far.numbered;
    }
  where
    still : (b : Option PreviousSuggestion) → IfSome b (λ (x : PreviousSuggestion). x.number ≤ i)
        → IfSome b (λ (x : PreviousSuggestion). x.number ≤ i + 1)
    still None small = tt
    still (Some b) small = omega (arith, small)

-- all of them
pub all_added : (r : Renderer) (file : Option (List ℕ)) (es : List Element) (i : ℕ) (old form : List FormPiece) (before : Option PreviousSuggestion)
    → length es ≤ i → ElementsSoFar r file es i old form before → form ≡ old ++ elements_form r file None (filter is_drawn es)
all_added r file es i old form before past so_far = grind (arith, append-nil, drop_all, so_far.left)

-- a suggestion that is drawn has patches
pub has_patches : (patches : List Patch) → not (length patches == 0) ≡ true → patches ≢ []
has_patches patches drawn none = both_ways (not (length patches == 0)) (ap (λ (ps : List Patch). not (length ps == 0)) none) drawn

-- so the number of the suggestion right before is small
pub number_small : (before : Option code.PreviousSuggestion) (i count : ℕ) → IfSome (before_seen before) (λ (b : PreviousSuggestion). b.number ≤ i) → i < count
    → count < 2 ^ 64 → IfSome before (λ b. b.number + 1 < 2 ^ 64)
number_small None i count small within room = tt
number_small (Some before) i count small within room = omega (arith, small, within, room)

-- the form of a title
abbrev pub title_form : Renderer → Option Title → List FormPiece
title_form r title =
    flat_map (λ (t : Title). heading_form r.hyperlink kind.Title (heading_of_title t)) (option_to_list title)

-- it is added, where there is one
pub title_added : (r : Renderer) (title : Option Title) (t : Title) (old new : List FormPiece) → title ≡ Some t
    → new ≡ old ++ heading_form r.hyperlink kind.Title (heading_of_title t) → new ≡ old ++ title_form r title
title_added r title t old new is added = grind (arith, append-nil, r.hyperlink)

-- a group without a title adds nothing for it
pub no_title_added : (r : Renderer) (title : Option Title) (old new : List FormPiece) → title ≡ None → new ≡ old → new ≡ old ++ title_form r title
no_title_added r title old new is same = same ∙ sym (append-nil old) ∙ ap (λ (x : Option Title). old ++ title_form r x) (sym is)

-- a group is added: after its title its elements
pub group_added : (r : Renderer) (groups : List Group) (g : Group) (file : Option (List ℕ)) (es : List Element) (old titled new : List FormPiece)
    → file ≡ file_of_group groups g → es ≡ drawn_elements g → titled ≡ old ++ title_form r g.title → new ≡ titled ++ elements_form r file None es
    → new ≡ old ++ group_form r groups g
group_added r groups g file es old titled new of drawn title added = grind (arith, append_assoc, g.title)

-- the groups so far are added, and one more
abbrev pub groups_form : Renderer → List Group → List Group → List FormPiece
groups_form r groups gs = flat_map (group_form r groups) gs
