-- A text that is printed in one style, with one link.
use Rattle.std.specs.Prelude.{◌≡◌, ◌≢◌, ℕ, List, [], ◌∷◌, ◌++◌, Option, None, Some, encode_utf8_all}
use Rattle.std.specs.List.{flat_map}
use Rattle.snippet_grid.specs.Woven.{Opening, Reset, LinkTo, LinkEnd, piece_text}
use Rattle.snippet_style.specs.declared.style.Style.{Style}

-- the codes between two neighbours, and then the characters
pub record PrintsStretch (word : List ℕ) (last next : Style) (last_link next_link : Option (List ℕ)) (old new : List ℕ) : Type 0 where
  pub ended : List ℕ
  pub changed : List ℕ
  pub begun : List ℕ
  pub link_continues : last_link ≡ next_link → ended ≡ old
  pub link_absent : last_link ≡ None → ended ≡ old
  pub link_ends : last_link ≢ None → last_link ≢ next_link → ended ≡ old ++ flat_map piece_text (LinkEnd ∷ [])
  pub style_continues : last ≡ next → changed ≡ ended
  pub style_changes : last ≢ next → changed ≡ ended ++ flat_map piece_text (Reset last ∷ Opening next ∷ [])
  pub same_link : last_link ≡ next_link → begun ≡ changed
  pub no_link : next_link ≡ None → begun ≡ changed
  pub link_begins : (url : List ℕ) → next_link ≡ Some url → last_link ≢ Some url → begun ≡ changed ++ flat_map piece_text (LinkTo url ∷ [])
  pub text_is : new ≡ begun ++ encode_utf8_all word
