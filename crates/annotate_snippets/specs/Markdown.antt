-- A report in Markdown: the title of its first group in bold, and below that its plain text between fences; and what follows of it for who
-- reads it.
use Rattle.std.specs.Prelude.{◌≡◌, ℕ, ◌+◌, ◌==◌, Bool, true, false, List, [], ◌∷◌, ◌++◌, Option, None, Some, chars, codes, encode_utf8_all, max, map, not}
use Rattle.std.specs.Prelude.{◌&&◌, replicate, if◌then◌else◌}
use Rattle.std.specs.Char.{is_ascii_punctuation}
use Rattle.std.specs.Cow.{cow_str_bytes}
use Rattle.std.specs.List.{flat_map}
use Rattle.std.specs.Option.{option_map}
use Rattle.std.specs.Str.{trim}
use Rattle.snippet_model.specs.Heading.{Heading, heading_of_title, is_hidden}
use Rattle.snippet_model.specs.Level.{name_of}
use Rattle.snippet_model.specs.declared.snippet.Group.{Group}
use Rattle.snippet_model.specs.declared.snippet.Id.{Id}
use Rattle.snippet_model.specs.declared.snippet.Title.{Title}
use Rattle.snippet_text.specs.LinkAddress.{is_link_address}
use Rattle.snippet_text.specs.Normalized.{norm}
use Rattle.snippet_titles.specs.HeadingRows.{closing_bracket_of, colon_of, opening_bracket_of}
use Rattle.annotate_snippets.specs.AsSet.{IsAsSet}
use Rattle.annotate_snippets.specs.Fault.{form_of}
use Rattle.annotate_snippets.specs.Forms.{plain_in}
use Rattle.annotate_snippets.specs.Laws.Forms.{FormLaws}
use Rattle.annotate_snippets.specs.declared.renderer.Renderer.{Renderer}
use Rattle.annotate_snippets.specs.declared.renderer.form.Form.{Form}
use Rattle.annotate_snippets.specs.declared.renderer.form.Form.TheVariants.{Graphic, Short, Text}

-- ---- the title

-- a character as it stands in Markdown: ASCII punctuation, which may be markup, after a backslash; a line feed as a blank; any other as it is
abbrev pub escaped : ℕ → List ℕ
escaped c = if is_ascii_punctuation c then 92 ∷ c ∷ [] else (if c == 10 then 32 else c) ∷ []

abbrev pub escaped_text : List ℕ → List ℕ
escaped_text text = flat_map escaped text

-- an address that may be a link, whoever wrote it
abbrev pub link_of : Option (List ℕ) → Option (List ℕ)
link_of None = None
link_of (Some address) = if is_link_address address then Some address else None

-- a text that links to an address, if there is one
abbrev pub linked_text : Option (List ℕ) → List ℕ → List ℕ
linked_text None text = escaped_text text
linked_text (Some address) text = codes "[" ++ escaped_text text ++ codes "](" ++ escaped_text (chars address) ++ codes ")"

-- an id's text between its brackets, normalised, given its address; nothing where it has no text
abbrev pub bracketed_link : Bool → Option (List ℕ) → Option (List ℕ) → List ℕ
bracketed_link hidden address None = []
bracketed_link hidden address (Some text) =
    escaped_text (opening_bracket_of hidden) ++ linked_text (link_of address) (norm (chars text)) ++ escaped_text (closing_bracket_of hidden)

abbrev pub id_in_markdown : Bool → Option Id → List ℕ
id_in_markdown hidden None = []
id_in_markdown hidden (Some id) = bracketed_link hidden (option_map cow_str_bytes id.url) (option_map cow_str_bytes id.id)

-- the characters of a title on one line: the name of its level and its id, a colon, and its text, normalised
abbrev pub title_line : Heading → List ℕ
title_line heading =
    let hidden = is_hidden heading.level.name in
    escaped_text (norm (chars (name_of heading.level))) ++ id_in_markdown hidden heading.id ++ escaped_text (colon_of hidden heading.id)
    ++ escaped_text (norm (chars heading.text))

-- a line in bold, and an empty line below it; nothing where it has no characters
abbrev pub bold_line : List ℕ → List ℕ
bold_line [] = []
bold_line (b ∷ bs) = codes "**" ++ (b ∷ bs) ++ (42 ∷ 42 ∷ 10 ∷ 10 ∷ [])

-- the bytes of a title's line, without the blanks around it
abbrev pub title_bytes : Title → List ℕ
title_bytes title = trim (encode_utf8_all (title_line (heading_of_title title)))

-- a title in bold, if there is one
abbrev pub title_in_markdown : Option Title → List ℕ
title_in_markdown None = []
title_in_markdown (Some title) = bold_line (title_bytes title)

-- the title that stands above the fence: in the graphic form that of the first group
abbrev pub title_above : Form → List Group → Option Title
title_above Graphic [] = None
title_above Graphic (g ∷ gs) = g.title
title_above Short groups = None
title_above Text groups = None

-- ---- the fence

-- the length of the longest run of backquotes in some bytes, given that of the longest before them and of the one that they go on
abbrev pub longest_run : ℕ → ℕ → List ℕ → ℕ
longest_run longest run [] = longest
longest_run longest run (b ∷ bs) =
    let on = if b == 96 then run + 1 else 0 in
    longest_run (max longest on) on bs

-- a fence for a text: one backquote more than stand in a row anywhere in it, and at least three
abbrev pub fence : List ℕ → List ℕ
fence page = replicate (max 2 (longest_run 0 0 page) + 1) 96

-- ---- the report

-- a text in Markdown, below a title if there is one: it stands on lines of its own between fences
abbrev pub markdown : Option Title → List ℕ → List ℕ
markdown title page = title_in_markdown title ++ fence page ++ (10 ∷ []) ++ page ++ (10 ∷ []) ++ fence page

-- a renderer that is set alike but links nowhere
abbrev pub unlinked : Renderer → Renderer
unlinked r = record r { hyperlink = false }

-- and one that is set alike but wraps nothing
abbrev pub unwrapped : Renderer → Renderer
unwrapped r = record r { wrap = false }

-- the bytes of a report's plain text in the form that the renderer is set to
abbrev pub plain_page : Renderer → List Group → List ℕ
plain_page r groups = encode_utf8_all (plain_in (form_of r) (unlinked r) groups)

-- a text is a report in Markdown, as the renderer is set: the page is that of the report that is shown in place of it, and the title above it
-- stands in one line, as that of the report that would be shown if nothing were wrapped
pub record IsReportMarkdown (r : Renderer) (groups : List Group) (text : List ℕ) : Type 0 where
  pub shown : List Group
  pub whole : List Group
  pub set : IsAsSet (form_of r) r groups shown
  pub unbroken : IsAsSet (form_of r) (unwrapped r) groups whole
  pub is : text ≡ markdown (title_above (form_of r) whole) (plain_page r shown)

-- ---- what follows

-- what is read of a line, given whether a backslash stands before it: of each backslash and the character after it that character
abbrev pub as_read : Bool → List ℕ → List ℕ
as_read after [] = []
as_read after (c ∷ cs) = if c == 92 && not after then as_read true cs else c ∷ as_read false cs

-- the punctuation of a line that stands after no backslash, given whether one stands before the line
abbrev pub bare_marks : Bool → List ℕ → List ℕ
bare_marks after [] = []
bare_marks after (c ∷ cs) =
    if c == 92 && not after then bare_marks true cs
    else if is_ascii_punctuation c && not after then c ∷ bare_marks false cs else bare_marks false cs

-- the laws of a report in Markdown
pub record MarkdownLaws (r : Renderer) (groups : List Group) (text : List ℕ) : Type 0 where
  -- the page between its fences is the plain text of the report, with the laws of the form; and no fence stands in it
  pub laws : FormLaws (form_of r) (unlinked r) groups
  pub fenced : (before after : List ℕ) → plain_page r groups ≡ before ++ fence (plain_page r groups) ++ after → ⊥
  -- each text of a title is read as it is, a line feed as a blank, and has no markup of its own
  pub read : (given : List ℕ) → as_read false (escaped_text given) ≡ map (λ c. if c == 10 then 32 else c) given
  pub unmarked : (given : List ℕ) → bare_marks false (escaped_text given) ≡ []

-- a text has these laws, for the report that is shown in place of one
pub record HasMarkdownLaws (r : Renderer) (groups : List Group) (text : List ℕ) : Type 0 where
  pub shown : List Group
  pub set : IsAsSet (form_of r) r groups shown
  pub laws : MarkdownLaws r shown text
