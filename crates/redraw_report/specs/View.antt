-- What can be seen of a report: its parts with their texts, whoever owns them.
use Rattle.std.specs.Prelude.{ℕ, Bool, List, Option, chars, map}
use Rattle.std.specs.Cow.{cow_str_bytes}
use Rattle.std.specs.Option.{option_map}
use Rattle.snippet_style.specs.declared.role.LevelInner.{LevelInner}
use Rattle.snippet_model.specs.declared.level.Level.{Level}
use Rattle.snippet_model.specs.declared.snippet.Annotation.{Annotation}
use Rattle.snippet_model.specs.declared.snippet.AnnotationKind.{AnnotationKind}
use Rattle.snippet_model.specs.declared.snippet.Element.{Element}
use Rattle.snippet_model.specs.declared.snippet.Element.TheVariants as element
use Rattle.snippet_model.specs.declared.snippet.Group.{Group}
use Rattle.snippet_model.specs.declared.snippet.Id.{Id}
use Rattle.snippet_model.specs.declared.snippet.Patch.{Patch}
use Rattle.snippet_model.specs.declared.snippet.Snippet.{Snippet}
use Rattle.snippet_model.specs.declared.snippet.Title.{Title}

-- a marked span: from a byte to before another, what is said of it, how it is marked, and whether its source is coloured
pub record Marked : Type 0 where
  pub start : ℕ
  pub end : ℕ
  pub label : Option (List ℕ)
  pub kind : AnnotationKind
  pub highlighted : Bool

abbrev pub marked_view : Annotation → Marked
marked_view a =
    record {
      start = a.span.start;
      end = a.span.end;
      label = option_map cow_str_bytes a.label;
      kind = a.kind;
      highlighted = a.highlight_source;
    }

-- an edit: the bytes from one to before another, and what stands in their place
pub record Edited : Type 0 where
  pub start : ℕ
  pub end : ℕ
  pub text : List ℕ

abbrev pub edited_view : Patch → Edited
edited_view p = record { start = p.span.start; end = p.span.end; text = cow_str_bytes p.replacement }

-- lines of a file: its path, the lines, the number of the first, whether lines are numbered, and whether only those are shown that
-- something marks
pub record Lines : Type 0 where
  pub path : Option (List ℕ)
  pub text : List ℕ
  pub first_line : ℕ
  pub numbered : Bool
  pub folded : Bool

abbrev pub lines_view : {T : Type 0} → Snippet T → Lines
lines_view s =
    record {
      path = option_map cow_str_bytes s.path;
      text = cow_str_bytes s.source.text;
      first_line = s.line_start;
      numbered = s.line_numbering;
      folded = s.fold;
    }

-- an element: a message of a level, by its characters; lines with marks; lines with edits; a place without lines; or an empty row
pub data Part : Type 0 where
  Says : (level : Level) (text : List ℕ) → Part
  Marks : (lines : Lines) (marks : List Marked) → Part
  Edits : (lines : Lines) (edits : List Edited) → Part
  Names : (path : List ℕ) (line column : Option ℕ) → Part
  Gap : Part

abbrev pub part_view : Element → Part
part_view (element.Message m) = Says m.level (chars (cow_str_bytes m.text))
part_view (element.Cause s) = Marks (lines_view s) (map marked_view s.markers.items)
part_view (element.Suggestion s) = Edits (lines_view s) (map edited_view s.markers.items)
part_view (element.Origin o) = Names (cow_str_bytes o.path) o.line o.char_column
part_view (element.Padding p) = Gap

-- a name in brackets, and the address that it links to
pub record Named : Type 0 where
  pub id : Option (List ℕ)
  pub url : Option (List ℕ)

abbrev pub named_view : Id → Named
named_view i = record { id = option_map cow_str_bytes i.id; url = option_map cow_str_bytes i.url }

-- a title: its level, its name, its text by characters, and whether that is drawn as it is
pub record Headed : Type 0 where
  pub level : Level
  pub name : Option Named
  pub text : List ℕ
  pub trusted : Bool

abbrev pub headed_view : Title → Headed
headed_view t =
    record {
      level = t.level;
      name = option_map named_view t.id;
      text = chars (cow_str_bytes t.text);
      trusted = t.allows_styling;
    }

-- a group: the kind of its level, its title, and its parts in order
pub record Section : Type 0 where
  pub kind : LevelInner
  pub title : Option Headed
  pub parts : List Part

-- what can be seen of a group
abbrev pub section_view : Group → Section
section_view g =
    record {
      kind = g.level;
      title = option_map headed_view g.title;
      parts = map part_view g.elements.items;
    }
