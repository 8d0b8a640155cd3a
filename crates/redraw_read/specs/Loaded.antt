-- The files that a diagnostic speaks of, and those that were asked for.
use Rattle.std.specs.Prelude.{◌≡◌, ℕ, eqb, ◌||◌, true, List, [], ◌∷◌, ◌++◌, String, codes, is_some, map, string_bytes, if◌then◌else◌}
use Rattle.std.specs.Global.{Global, Vec}
use Rattle.std.specs.List.{All, flat_map, list_any, starts_with}
use Rattle.redraw_report.specs.declared.diagnostic.Child.{Child}
use Rattle.redraw_report.specs.declared.diagnostic.Diagnostic.{Diagnostic}
use Rattle.redraw_report.specs.declared.diagnostic.SuggestedEdit.{SuggestedEdit}
use Rattle.redraw_report.specs.declared.diagnostic.FileSpan.{FileSpan}
use Rattle.redraw_read.specs.Extract.{is_named}
use Rattle.redraw_read.specs.declared.sources.File.{File}

-- the names of the files that some places are in
abbrev pub files_of : List FileSpan → List (List ℕ)
files_of spans = map (λ (s : FileSpan). string_bytes s.file) spans

-- the names of the files that some edits change
abbrev pub files_in : Vec SuggestedEdit → List (List ℕ)
files_in edits = map (λ (e : SuggestedEdit). string_bytes e.file) edits.items

-- the same of some alternatives
abbrev pub edited_files : List (Vec SuggestedEdit) → List (List ℕ)
edited_files alternatives = flat_map files_in alternatives

-- the names of the files that a child speaks of: by its places, and by its edits
abbrev pub child_files : Child → List (List ℕ)
child_files c = files_of c.spans.items ++ edited_files c.alternatives.items

-- the names of the files that a diagnostic speaks of: by its places, and by its children
abbrev pub named_files : Diagnostic → List (List ℕ)
named_files d = files_of d.spans.items ++ flat_map child_files d.children.items

-- a file was asked for by this name, in a project with this file: it is among these, be it that it was read or that it couldn't be
abbrev pub IsAskedFor : List File → List ℕ → List ℕ → Type 0
IsAskedFor files home name = list_any (is_named name home) files ≡ true

-- the name of a file that is to be told as one that couldn't be read; none of one that was, or of one of the standard library as it was
-- built, which is on no other machine
abbrev pub unread_name : File → List (List ℕ)
unread_name f = if is_some f.source || starts_with eqb (string_bytes f.name) (codes "/rustc/") then [] else string_bytes f.name ∷ []

-- the texts of some names
abbrev pub texts_of : List (String Global) → List (List ℕ)
texts_of names = map string_bytes names

-- files of these names are asked for, in a project with this file: they are among those that are there then. The files that were there
-- stay, and of those that came the ones that couldn't be read are noted, to be told
pub record Loads (home : List ℕ) (names : List (List ℕ)) (old new : List File) (unread still_unread : List (List ℕ)) : Type 0 where
  pub asked : All (IsAskedFor new home) names
  pub more : List File
  pub kept : new ≡ old ++ more
  pub noted : still_unread ≡ unread ++ flat_map unread_name more
