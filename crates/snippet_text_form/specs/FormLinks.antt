-- The addresses that a text form links to, and the codes around the text of a link.
use Rattle.std.specs.Prelude.{ℕ, List, [], ◌∷◌, Option, None, Some}
use Rattle.std.specs.List.{flat_map}
use Rattle.std.specs.Option.{option_to_list}
use Rattle.snippet_text_form.specs.Form.{FormPiece, Char, Break, Styled}
use Rattle.snippet_grid.specs.Woven as woven

-- the addresses that a text form links to, in order
abbrev pub piece_links : FormPiece → List (List ℕ)
piece_links (Char ch) = []
piece_links Break = []
piece_links (Styled role link text) = option_to_list link

-- those that a whole form links to
abbrev pub form_links : List FormPiece → List (List ℕ)
form_links form = flat_map piece_links form

-- the codes that stand before and after the text of a link, if there is one
abbrev pub link_codes_before : Option (List ℕ) → List woven.Piece
link_codes_before None = []
link_codes_before (Some url) = woven.LinkTo url ∷ []

abbrev pub link_codes_after : Option (List ℕ) → List woven.Piece
link_codes_after None = []
link_codes_after (Some url) = woven.LinkEnd ∷ []
