-- The names of the fields that the objects of the format have.
use Rattle.std.specs.Prelude.{ℕ, List, [], ◌∷◌, codes}
use Rattle.serde_json.specs.Data.{Data}
use Rattle.json_lines.specs.Field.{HasOnly}
use Rattle.replay_read.specs.declared.shape.Shape.{Shape}
use Rattle.replay_read.specs.declared.shape.Shape.TheVariants as shape

-- the names of the fields that an object of this shape may have
abbrev pub names_of : Shape → List (List ℕ)
names_of shape.Case = codes "id" ∷ codes "settings" ∷ codes "sheets" ∷ codes "html" ∷ codes "html_page" ∷ codes "markdown"
    ∷ codes "sources" ∷ codes "groups" ∷ []
names_of shape.Settings = codes "no_graphics" ∷ codes "short_message" ∷ codes "term_width" ∷ codes "unicode" ∷ codes "anonymized_snippet"
    ∷ codes "anonymized_origin" ∷ codes "hyperlink" ∷ codes "show_line_feeds" ∷ codes "context_before"
    ∷ codes "context_after" ∷ codes "wrap" ∷ codes "mask_controls" ∷ codes "label_lines" ∷ []
names_of shape.Sheet = codes "error" ∷ codes "warning" ∷ codes "info" ∷ codes "note" ∷ codes "help" ∷ codes "line_num" ∷ codes "emphasis" ∷ codes "none"
    ∷ codes "context" ∷ codes "addition" ∷ codes "removal" ∷ []
names_of shape.Style = codes "fg" ∷ codes "bg" ∷ codes "effects" ∷ []
names_of shape.Color = codes "ansi256" ∷ codes "rgb" ∷ []
names_of shape.Group = codes "title" ∷ codes "level" ∷ codes "elements" ∷ []
names_of shape.Title = codes "level" ∷ codes "text" ∷ codes "primary" ∷ codes "id" ∷ codes "url" ∷ []
names_of shape.Level = codes "kind" ∷ codes "name" ∷ []
names_of shape.Element = codes "message" ∷ codes "cause" ∷ codes "suggestion" ∷ codes "origin" ∷ codes "padding" ∷ []
names_of shape.Message = codes "level" ∷ codes "text" ∷ []
names_of shape.Cause = codes "source" ∷ codes "path" ∷ codes "line_start" ∷ codes "line_numbering" ∷ codes "fold" ∷ codes "unit" ∷ codes "annotations" ∷ []
names_of shape.Suggestion = codes "source" ∷ codes "path" ∷ codes "line_start" ∷ codes "line_numbering" ∷ codes "fold" ∷ codes "unit" ∷ codes "patches" ∷ []
names_of shape.Annotation = codes "kind" ∷ codes "start" ∷ codes "end" ∷ codes "from" ∷ codes "to" ∷ codes "label" ∷ codes "highlight_source" ∷ []
names_of shape.Patch = codes "start" ∷ codes "end" ∷ codes "from" ∷ codes "to" ∷ codes "text" ∷ []
names_of shape.Place = codes "line" ∷ codes "column" ∷ []
names_of shape.Origin = codes "path" ∷ codes "line" ∷ codes "column" ∷ []
names_of shape.Padding = []
names_of shape.Texts = codes "id" ∷ codes "ok" ∷ []
names_of shape.Refusal = codes "id" ∷ codes "refused" ∷ codes "text" ∷ codes "group" ∷ codes "element" ∷ codes "marker" ∷ codes "first" ∷ codes "second" ∷ []

-- an object that has fields of this shape alone
abbrev pub HasShape : Shape → Data → Type 0
HasShape shape d = HasOnly (names_of shape) d
