-- Reading HTML: what a text says without its tags and with its escapes undone, which tags it has, and what each character
-- stands in.
use Rattle.std.specs.Prelude.{ℕ, nat_eq, Bool, true, false, not, if◌then◌else◌, List, [], ◌∷◌, ◌++◌, Option, None, Some, codes, drop, length, map, take}
use Rattle.std.specs.List.{flat_map}
use Rattle.std.specs.Str.{chars}
use lib.Pointwise.{pointwise}
use Rattle.snippet_grid.specs.Html.{HtmlLook, HtmlPiece, Text, SpanStart, SpanEnd, AnchorStart, AnchorEnd, escaped, html_look_of, plain_look}
use Rattle.snippet_style.specs.Cell.{Cell}
use Rattle.snippet_style.specs.declared.role.LevelInner.{LevelInner}

-- the characters outside of tags, each of which goes from a `<` to the next `>`; `inside` says whether one is open
abbrev pub without_tags : (inside : Bool) → List ℕ → List ℕ
without_tags inside [] = []
without_tags true (c ∷ cs) = without_tags (not (nat_eq c 62)) cs
without_tags false (c ∷ cs) = if nat_eq c 60 then without_tags true cs else c ∷ without_tags false cs

-- the character that an escape of this name stands for; none where there is no such escape
abbrev pub named : List ℕ → List ℕ
named name =
    if pointwise nat_eq name (codes "amp") then 38 ∷ []
    else if pointwise nat_eq name (codes "lt") then 60 ∷ []
    else if pointwise nat_eq name (codes "gt") then 62 ∷ []
    else if pointwise nat_eq name (codes "quot") then 34 ∷ []
    else if pointwise nat_eq name (codes "#39") then 39 ∷ []
    else []

-- the text with its escapes undone, each of which goes from a `&` to the next `;`; `name` is what was read of one that is open
abbrev pub unescaped : (name : Option (List ℕ)) → List ℕ → List ℕ
unescaped name [] = []
unescaped None (c ∷ cs) = if nat_eq c 38 then unescaped (Some []) cs else c ∷ unescaped None cs
unescaped (Some name) (c ∷ cs) = if nat_eq c 59 then named name ++ unescaped None cs else unescaped (Some (name ++ c ∷ [])) cs

-- what a text in HTML says
abbrev pub html_says : List ℕ → List ℕ
html_says html = unescaped None (without_tags false html)

-- the tags of a text, without their brackets, in order; `tag` is what was read of one that is open
abbrev pub tags_of : (tag : Option (List ℕ)) → List ℕ → List (List ℕ)
tags_of tag [] = []
tags_of None (c ∷ cs) = if nat_eq c 60 then tags_of (Some []) cs else tags_of None cs
tags_of (Some tag) (c ∷ cs) = if nat_eq c 62 then tag ∷ tags_of None cs else tags_of (Some (tag ++ c ∷ [])) cs

-- the tag of a piece, if it is one
abbrev pub piece_tag : HtmlPiece → List (List ℕ)
piece_tag (Text ch) = []
piece_tag (SpanStart class) = (codes "span class=\"" ++ (chars class ++ codes "\"")) ∷ []
piece_tag SpanEnd = codes "/span" ∷ []
piece_tag (AnchorStart address) = (codes "a href=\"" ++ (escaped (chars address) ++ codes "\"")) ∷ []
piece_tag AnchorEnd = codes "/a" ∷ []

-- ---- what each character stands in

-- the value of a tag's attribute: what stands before the next quote, with its escapes undone
abbrev pub quoted : List ℕ → List ℕ
quoted [] = []
quoted (c ∷ cs) = if nat_eq c 34 then [] else c ∷ quoted cs

abbrev pub value_of : List ℕ → List ℕ
value_of attribute = unescaped None (quoted attribute)

-- whether a tag begins with this
abbrev pub begins : List ℕ → List ℕ → Bool
begins head tag = pointwise nat_eq (take (length head) tag) head

-- what a character that is read stands in, in characters: a class, and the address of a link. Each is empty where there is none
pub record InTags : Type 0 where
  pub class : List ℕ
  pub address : List ℕ

-- the same after a tag: that of a class, or of a link, begins it or ends it, and another tag changes nothing
abbrev pub after_tag : InTags → List ℕ → InTags
after_tag tags tag =
    if pointwise nat_eq tag (codes "/span") then record tags { class = [] }
    else if pointwise nat_eq tag (codes "/a") then record tags { address = [] }
    else if begins (codes "span class=\"") tag then record tags { class = value_of (drop 12 tag) }
    else if begins (codes "a href=\"") tag then record tags { address = value_of (drop 8 tag) }
    else tags

-- a character that is read, with what it stands in
pub record CharInTags : Type 0 where
  pub ch : ℕ
  pub tags : InTags

-- where a reader is: in text, or in a tag or an escape of which so much was read
pub data ReadingAt : Type 0 where
  InText : ReadingAt
  InTag : (tag : List ℕ) → ReadingAt
  InEscape : (name : List ℕ) → ReadingAt

-- the characters that are read of a text in HTML, each with what it stands in
abbrev pub reads : InTags → ReadingAt → List ℕ → List CharInTags
reads tags at [] = []
reads tags InText (c ∷ cs) =
    if nat_eq c 60 then reads tags (InTag []) cs
    else if nat_eq c 38 then reads tags (InEscape []) cs
    else record { ch = c; tags = tags } ∷ reads tags InText cs
reads tags (InTag tag) (c ∷ cs) = if nat_eq c 62 then reads (after_tag tags tag) InText cs else reads tags (InTag (tag ++ c ∷ [])) cs
reads tags (InEscape name) (c ∷ cs) =
    if nat_eq c 59 then map (λ ch. (let read : CharInTags = record { ch = ch; tags = tags } in read)) (named name) ++ reads tags InText cs
    else reads tags (InEscape (name ++ c ∷ [])) cs

-- how a reader takes a whole text of HTML, at whose beginning nothing is open
abbrev pub html_reads : List ℕ → List CharInTags
html_reads html = reads (record { class = []; address = [] }) InText html

-- a character, with what its cell stands in
pub record ReadChar : Type 0 where
  pub ch : ℕ
  pub look : HtmlLook

-- the class and the address of a look, as a reader has them: by characters
abbrev pub tags_in : HtmlLook → InTags
tags_in look = record { class = chars look.class; address = chars look.address }

-- a character with its look, as a reader has them: the tags that it stands in
abbrev pub as_read : ReadChar → CharInTags
as_read read = record { ch = read.ch; tags = tags_in read.look }

-- the characters of some cells, each with what the cell stands in
abbrev pub chars_of_cells : LevelInner → List Cell → List ReadChar
chars_of_cells level cells = map (λ cell. (let read : ReadChar = record { ch = cell.ch; look = html_look_of level cell } in read)) cells

-- a line feed between rows, which stands in nothing
abbrev pub feed_read : ReadChar
feed_read = record { ch = 10; look = plain_look }

-- the characters of rows, joined by line feeds
abbrev pub chars_of_rows : LevelInner → List (List Cell) → List ReadChar
chars_of_rows level [] = []
chars_of_rows level (row ∷ rows) = chars_of_cells level row ++ flat_map (λ below. feed_read ∷ chars_of_cells level below) rows
