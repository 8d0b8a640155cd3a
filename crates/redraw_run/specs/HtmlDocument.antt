-- A document in HTML: what stands before all that is drawn, and what stands after it.
use Rattle.std.specs.Prelude.{◌≡◌, ◌⊎◌, ℕ, List, [], ◌++◌, Result, Ok, Err, String, codes}
use Rattle.std.specs.Global.{Global}
use Rattle.annotate_snippets.specs.declared.renderer.html_stylesheet.TheConstants.{HTML_PAGE_STYLESHEET, HTML_STYLESHEET}
use Rattle.output_stream.specs.Standing.{Adds, BreaksOff, Standing}
use Rattle.redraw_command.specs.declared.tally.Tally.{Tally}
use Rattle.redraw_command.specs.declared.terminal.Markup.{Markup}
use Rattle.redraw_command.specs.declared.terminal.Markup.TheVariants.{Bare, Html, Markdown}
use Rattle.redraw_run.specs.Index.{index}
use Rattle.redraw_run.specs.declared.counts.Counts.{Counts}
use Rattle.redraw_run.specs.declared.page.ListedFile.{ListedFile}

-- the end of the head, a link to the end of the page, the title, and the choice of levels, up to what is drawn
unfoldable pub body : List ℕ
body =
    codes "</style>\n</head>\n<body>\n<a class=\"skip\" href=\"#index\">Counts and files</a>\n<h1>Reports</h1>\n"
    ++ codes "<fieldset id=\"levels\">\n<legend>Show</legend>\n"
    ++ codes "<label><input type=\"radio\" name=\"show\" id=\"all\" checked> all</label>\n"
    ++ codes "<label><input type=\"radio\" name=\"show\" id=\"errors\"> errors</label>\n"
    ++ codes "<label><input type=\"radio\" name=\"show\" id=\"warnings\"> warnings</label>\n"
    ++ codes "<label><input type=\"radio\" name=\"show\" id=\"others\"> others</label>\n</fieldset>\n<main>\n"

-- the stylesheet of articles, and what stands after it
unfoldable pub page_styles : List ℕ
page_styles = HTML_PAGE_STYLESHEET.now ++ body

-- the stylesheets of reports, and what stands after them
unfoldable pub styles : List ℕ
styles = HTML_STYLESHEET.now ++ page_styles

-- the beginning of the head, and the rules for the page itself
unfoldable pub rules : List ℕ
rules =
    codes "<!DOCTYPE html>\n<html lang=\"en\">\n<head>\n<meta charset=\"utf-8\">\n"
    ++ codes "<meta name=\"viewport\" content=\"width=device-width, initial-scale=1\">\n<title>redraw</title>\n<style>\n"
    ++ codes ":root { color-scheme: light dark; }\n"
    ++ codes "body { display: flex; flex-direction: column; margin: 1em auto; max-width: 100em; padding: 0 1em;\n"
    ++ codes "  font-family: sans-serif; }\nmain { order: 1; }\nsvg { display: none; }\n"
    ++ codes ".skip:not(:focus) { position: absolute; clip-path: inset(50%); }\n"
    ++ codes "pre { margin: 0; overflow-x: auto; font-family: monospace; line-height: 1.3; }\n"
    ++ codes "article { position: relative; margin: 1em 0; padding-left: 0.75em; border-left: 0.25em solid #767676; }\n"
    ++ codes "article.error { border-color: #b3001b; }\narticle.warning { border-color: #7a5b00; }\n"
    ++ codes "@media (prefers-color-scheme: dark) {\n  article { border-color: #8c8c8c; }\n  article.error { border-color: #ff7b72; }\n"
    ++ codes "  article.warning { border-color: #e3b341; }\n}\n"
    ++ codes "article:target { outline: 0.125em solid; }\narticle > a { position: absolute; right: 0; text-decoration: none; }\n"
    ++ codes "h1, h2, legend { font-size: 1em; }\nh2 { margin: 0 1.5em 0.5em 0; overflow-wrap: anywhere; }\n"
    ++ codes "fieldset { border: 0; margin: 0; padding: 0; }\nlegend { padding: 0; font-weight: bold; }\nul { list-style: none; margin: 0; padding: 0; }\n"
    ++ codes "li { overflow-wrap: anywhere; }\n#levels label { margin-right: 1em; white-space: nowrap; }\n"
    ++ codes "body:has(#errors:checked) article:not(.error),\nbody:has(#warnings:checked) article:not(.warning),\n"
    ++ codes "body:has(#others:checked) article:is(.error, .warning) { display: none; }\n"
    ++ codes "@media print { #levels, .skip, input, article > a { display: none; } article { break-inside: avoid; } }\n"

-- all that stands before what is drawn: the page is light or dark as its reader prefers, and the reader chooses which levels are shown
unfoldable pub head : List ℕ
head = rules ++ styles

-- what stands before all that is drawn: where HTML is written, the beginning of a document
abbrev pub html_start : Markup → List ℕ
html_start Html = head
html_start Markdown = []
html_start Bare = []

-- the end of what is drawn, and that of a document
abbrev pub main_end : List ℕ
main_end = codes "</main>\n"

abbrev pub page_end : List ℕ
page_end = codes "</body>\n</html>\n"

-- what stands after all that is drawn: how many reports there are, and the files that they lie in, which are shown first
abbrev pub ending : Counts → List (String Global × ListedFile) → List ℕ
ending counts files = main_end ++ (index counts files ++ page_end)

-- what was counted of what was drawn
abbrev pub counts_of : Tally → Counts
counts_of t = record { errors = t.errors; warnings = t.warnings; others = t.notes }

-- the same where HTML is written
abbrev pub html_end : Markup → Tally → List (String Global × ListedFile) → List ℕ
html_end Html t files = ending (counts_of t) files
html_end Markdown t files = []
html_end Bare t files = []

-- that is printed: all of it; or, where a write failed, a first part; or nothing, for want of memory
abbrev pub Ends : {T E : Type 0} → Result T E → (old new : Standing) → List ℕ → Type 0
Ends (Ok done) old new bytes = Adds old new bytes
Ends (Err error) old new bytes = BreaksOff old new bytes ⊎ (new ≡ old)
