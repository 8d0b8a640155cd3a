-- The text of an id, and what it links to.
use Rattle.std.specs.Prelude.{ℕ, Bool, List, [], ◌∷◌, Option, None, Some, chars}
use Rattle.std.specs.List.{flat_map}
use Rattle.std.specs.Option.{option_to_list}
use Rattle.std.specs.Cow.{cow_str_bytes}
use Rattle.snippet_text.specs.Normalized.{norm}
use Rattle.snippet_model.specs.declared.snippet.Id.{Id}
use Rattle.snippet_titles.specs.HeadingRows.{address_of}

-- the characters of an id's text, normalised; none where it has no text
abbrev pub id_chars : Option Id → List ℕ
id_chars None = []
id_chars (Some id) = flat_map (λ t. norm (chars (cow_str_bytes t))) (option_to_list id.id)

-- the address that they link to, if any
abbrev pub id_address : Bool → Option Id → Option (List ℕ)
id_address hyperlink None = None
id_address hyperlink (Some id) = address_of hyperlink id

-- the addresses that a text links to: this one, if there is one and the text shows anything
abbrev pub text_links : Option (List ℕ) → List ℕ → List (List ℕ)
text_links address [] = []
text_links address (c ∷ cs) = option_to_list address

-- the addresses that an id links to: its own where links are on, it has one, and its text shows anything
abbrev pub id_links : Bool → Option Id → List (List ℕ)
id_links hyperlink id = text_links (id_address hyperlink id) (id_chars id)
