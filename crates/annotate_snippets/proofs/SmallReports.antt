-- Small reports, of which the laws on wrong results speak.
use Rattle.annotate_snippets.proofs.Common.{ℕ, ◌<◌, ◌^◌, true, false, Option, None, Some, Vec, List, [], ◌∷◌, codes, length, refl, arith, option_map, Global}
use Rattle.annotate_snippets.proofs.Common.{unindexed, Annotation, Standard, Element, Group, Id, Snippet, Title, Error, Note, text_of, error_level}
use Rattle.snippet_model.specs.declared.level.LevelName.TheVariants.{Hidden}
use Rattle.snippet_model.specs.declared.snippet.Element.TheVariants as element

-- a title of the level `error`, with this id and this text
abbrev pub error_title : Option Id → List ℕ → Title
error_title id text =
    record { level = error_level; id = id; text = text_of text; allows_styling = false }

-- a title of the same level, whose name is hidden
abbrev pub hidden_title : List ℕ → Title
hidden_title text =
    record { level = record { name = Hidden; kind = Error }; id = None; text = text_of text; allows_styling = false }

-- a message of the level `note`
abbrev pub note : List ℕ → Element
note text =
    element.Message (record { level = record { name = Standard; kind = Note }; text = text_of text })

-- a group with this title and these elements
abbrev pub group : Vec Element Global → Option Title → (es : List Element) → length es < 2 ^ 63 → Group
group v title es few =
    record {
      level = Error;
      title = title;
      elements = record { ptr = v.ptr; len = length es; cap = length es; alloc = v.alloc; items = es; ok = (refl, omega arith); small = few };
    }

-- a report of the title `error: e` alone
abbrev pub title_alone : Vec Element Global → List Group
title_alone v = group v (Some (error_title None (codes "e"))) [] (omega arith) ∷ []

-- a report of the title `e` alone, without the name of a level
abbrev pub nameless : Vec Element Global → List Group
nameless v = group v (Some (hidden_title (codes "e"))) [] (omega arith) ∷ []

-- a snippet with this path, this source, whose first line has number 1, and these spans
abbrev pub snippet : Vec Annotation Global → Option (List ℕ) → List ℕ → (marks : List Annotation) → length marks < 2 ^ 63 → Snippet Annotation
snippet v path source marks few =
    record {
      path = option_map text_of path;
      line_start = 1;
      source = unindexed (text_of source);
      markers = record { ptr = v.ptr; len = length marks; cap = length marks; alloc = v.alloc; items = marks; ok = (refl, omega arith); small = few };
      line_numbering = true;
      fold = true;
    }
