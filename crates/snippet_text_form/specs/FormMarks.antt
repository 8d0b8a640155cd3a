-- A text form as the code holds it: one text, with marks in it.
use Rattle.std.specs.Prelude.{◌≡◌, ℕ, ◌≤◌, ◌-◌, true, List, [], ◌∷◌, ◌++◌, chars, length, take, drop, zero, suc, replicate}
use Rattle.std.specs.Option.{option_copied}
use Rattle.std.specs.Str.{is_utf8}
use Rattle.snippet_text_form.specs.declared.form.FormMark.{FormMark}
use Rattle.snippet_text_form.specs.declared.form.MarkKind.{MarkKind}
use Rattle.snippet_text_form.specs.Form.{FormPiece, Break, Styled, bare}
use Rattle.snippet_text_form.specs.declared.form.MarkKind.TheVariants as kinds

-- the piece of a mark of this kind, with these characters
abbrev pub piece_of_kind : List ℕ → MarkKind → FormPiece
piece_of_kind text kinds.Break = Break
piece_of_kind text (kinds.Styled look) = Styled look.role (option_copied look.link) text

-- the characters between two places of a text
abbrev pub chars_between : List ℕ → ℕ → ℕ → List ℕ
chars_between text from to = chars (take (to - from) (drop from text))

-- the pieces of a text from a place on, with these marks in it: what stands between them has no codes
abbrev pub pieces_from : List ℕ → ℕ → List FormMark → List FormPiece
pieces_from text from [] = bare (chars_between text from (length text))
pieces_from text from (mark ∷ marks) =
    bare (chars_between text from mark.start) ++ piece_of_kind (chars_between text mark.start mark.end) mark.kind ∷ pieces_from text mark.end marks

-- a place after whole characters of a text
pub record IsPlace (text : List ℕ) (at : ℕ) : Type 0 where
  pub within : at ≤ length text
  pub whole : is_utf8 (take at text) ≡ true

-- a mark stands after a place of a text, and a break has no characters
pub record IsMark (text : List ℕ) (from : ℕ) (mark : FormMark) : Type 0 where
  pub from_is : IsPlace text from
  pub start_is : IsPlace text mark.start
  pub after : from ≤ mark.start
  pub ordered : mark.start ≤ mark.end
  pub empty : mark.kind ≡ kinds.Break → mark.end ≡ mark.start

-- these marks stand in a text from a place on, one after another
abbrev pub AreMarks : List ℕ → ℕ → List FormMark → Type 0
AreMarks text from [] = IsPlace text from
AreMarks text from (mark ∷ marks) = IsMark text from mark × AreMarks text mark.end marks

-- what stands before a line of a heading's text: nothing before the first
abbrev pub before_line : ℕ → ℕ → List ℕ
before_line width zero = []
before_line width (suc index) = 10 ∷ replicate width 32
