-- Addresses that may be links.
use Rattle.std.specs.Prelude.{ℕ, ◌&&◌, ◌||◌, nat_eq, Bool, List, codes, map, take, length}
use Rattle.std.specs.Char.{is_ascii_graphic, to_ascii_lowercase}
use Rattle.std.specs.List.{list_all}
use lib.Pointwise.{pointwise}

-- whether an address begins with this scheme, in letters of either case
abbrev pub has_scheme : List ℕ → List ℕ → Bool
has_scheme scheme address = pointwise nat_eq (map to_ascii_lowercase (take (length scheme) address)) scheme

-- whether each character of an address is an ASCII character that is seen: no blank, no control character
abbrev pub is_graphic_address : List ℕ → Bool
is_graphic_address address = list_all is_ascii_graphic address

-- whether an address may be a link: it is of the web or of mail, and each of its characters is seen
abbrev pub is_link_address : List ℕ → Bool
is_link_address address =
    (has_scheme (codes "http:") address || has_scheme (codes "https:") address || has_scheme (codes "mailto:") address) && is_graphic_address address
