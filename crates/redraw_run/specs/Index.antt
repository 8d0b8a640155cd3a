-- The end of a page: how many reports there are, and the list of their files.
use Rattle.std.specs.Prelude.{ℕ, Bool, ◌&&◌, nat_lt, nat_le, chars, codes, encode_utf8_all, if◌then◌else◌, length, List, ◌++◌, string_bytes}
use Rattle.std.specs.List.{flat_map}
use Rattle.std.specs.Global.{Global}
use Rattle.std.specs.Prelude.{String}
use Rattle.snippet_grid.specs.Html.{escaped}
use Rattle.snippet_text.specs.Normalized.{norm}
use Rattle.redraw_run.specs.Counts.{counts_words}
use Rattle.redraw_run.specs.Id.{file_class, report_id}
use Rattle.redraw_run.specs.declared.counts.Counts.{Counts}
use Rattle.redraw_run.specs.declared.index.TheConstants.{CHOICE_START, INDEX_START, RULES_START}
use Rattle.redraw_run.specs.declared.page.ListedFile.{ListedFile}

-- the name of a file: no control, and each character that HTML gives a meaning as an escape
abbrev pub name_html : List ℕ → List ℕ
name_html name = encode_utf8_all (escaped (norm (chars name)))

-- a file: its name, which links to its first report, and how many there are
abbrev pub file_link : List ℕ → ListedFile → List ℕ
file_link name file =
    codes "<a href=\"#" ++ report_id file.first.digest file.first.number ++ codes "\">" ++ name_html name ++ codes "</a>: " ++ counts_words file.counts

-- a file that can be chosen
abbrev pub choice_row : List ℕ → ListedFile → List ℕ
choice_row name file =
    codes "<li><label><input type=\"radio\" name=\"file\" id=\"" ++ file_class name ++ codes "\"> " ++ file_link name file ++ codes "</label></li>\n"

-- a file that can't
abbrev pub row : List ℕ → ListedFile → List ℕ
row name file = codes "<li>" ++ file_link name file ++ codes "</li>\n"

-- the rule that hides the reports of other files where this one is chosen
abbrev pub rule : List ℕ → List ℕ
rule name = codes "body:has(#" ++ file_class name ++ codes ":checked) article:not(." ++ file_class name ++ codes ") { display: none; }\n"

-- the files with a choice, and the rules by which it works
abbrev pub choice : List (String Global × ListedFile) → List ℕ
choice files =
    CHOICE_START.now ++ flat_map (λ f. choice_row (string_bytes f.0) f.1) files
    ++ RULES_START.now ++ flat_map (λ f. rule (string_bytes f.0)) files ++ codes "</style></svg>\n"

-- the files without a choice
abbrev pub plain_list : List (String Global × ListedFile) → List ℕ
plain_list files = codes "<ul>\n" ++ flat_map (λ f. row (string_bytes f.0) f.1) files ++ codes "</ul>\n"

-- whether a file can be chosen: there are several, and not too many
abbrev pub has_choice : List (String Global × ListedFile) → Bool
has_choice files = nat_lt 1 (length files) && nat_le (length files) 200

-- how many reports there are, and the files that they lie in
abbrev pub index : Counts → List (String Global × ListedFile) → List ℕ
index counts files =
    INDEX_START.now ++ counts_words counts ++ codes "</p>\n"
    ++ (if has_choice files then choice files else plain_list files) ++ codes "</nav>\n"
