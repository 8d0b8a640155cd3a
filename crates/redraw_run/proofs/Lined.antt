-- What becomes of pieces, one after another, becomes of an input.
use Rattle.std.proofs.Common.{◌≡◌, ◌⊎◌, ◌++◌, ◌∙◌, ◌+◌, ◌<◌, ◌≤◌, ℕ, Bool, List, [], ◌∷◌, Option, None, Some, ap, append_assoc, append-nil, arith, false, inl}
use Rattle.std.proofs.Common.{inr, length, length-append, refl, subst, suc, sym, take, true, zero}
use Rattle.std.proofs.lemmas.List.{length-take}
use Rattle.std.specs.Prelude.{◌==◌, IfSome, IfErr, IsErr, IsErrAnd, MatchResult, Result, Ok, Err, OnOk}
use Rattle.std.specs.Option.{option_map_or}
use Rattle.std.specs.Io.BufRead.{drop_through, take_through}
use Rattle.std.specs.Io.KnownBytes.{Consumes, IsAtEnd, Keeps}
use Rattle.serde_json.specs.View.{view}
use Rattle.serde_json.specs.declared.value.Value.{Value}
use Rattle.redraw_command.specs.Line.{IsUnmarked, begins_object, begins_utf16, first_of}
use Rattle.redraw_command.specs.LookAhead.{IsLineAhead}
use Rattle.redraw_command.proofs.LookingAhead.{through_all}
use Rattle.redraw_command.specs.declared.choice.Choice.{Choice}
use Rattle.redraw_command.specs.declared.stop.Stop.{Stop}
use Rattle.redraw_command.specs.declared.stop.Stop.TheVariants.{Memory}
use Rattle.redraw_run.specs.Deeds.{State, Deed, Does, IsPartOfDeeds, Stops}
use Rattle.redraw_run.specs.Fates.{AreNone, Each, IsFateOfPiece, IsFindingOrText, IsHandedOn, IsList, IsTextOf, IsValue, IsWithoutEnd, IsWrong}
use Rattle.redraw_run.specs.Pieces.{IsOfForm, IsPieceAhead}
use Rattle.redraw_run.specs.ReadLines.{AreAllOf, AreFirstOf, AreReadPieces, AreTaken, IsPieceOf, TakesPiece}
use Rattle.redraw_run.specs.declared.piece.Form.{Form}
use Rattle.redraw_run.specs.declared.piece.Form.TheVariants as forms
use Rattle.redraw_run.specs.declared.piece.Piece.{Piece}
use Rattle.redraw_run.proofs.Doing.{does_as, does_then}
use Rattle.redraw_run.proofs.Fated.{each_more}

-- ---- pieces that are taken

-- these are the first pieces of what a reader holds, where that is known, and this is left
abbrev pub AreReadOf : Option (List ℕ) → List (List ℕ) → Option (List ℕ) → Type 0
AreReadOf held pieces left = IfSome held (λ bytes. (rest : List ℕ) × (left ≡ Some rest) × AreTaken bytes pieces rest)

-- pieces that are taken, and one more
taken_more : (bytes : List ℕ) (pieces : List (List ℕ)) (rest piece left : List ℕ) → AreTaken bytes pieces rest → TakesPiece rest piece left
    → AreTaken bytes (pieces ++ piece ∷ []) left
taken_more bytes [] rest piece left taken takes = (left, subst (λ (b : List ℕ). TakesPiece b piece left) taken takes, refl)
taken_more bytes (first ∷ pieces) rest piece left (middle, one, later) takes = (middle, one, taken_more middle pieces rest piece left later takes)

split_of : (rest : List ℕ) (kept after : Option (List ℕ)) (piece : List ℕ) → Keeps (Some rest) kept → Consumes kept after piece
    → (left : List ℕ) × (after ≡ Some left) × (rest ≡ piece ++ left)
split_of rest None after piece keeps takes = absurd keeps
split_of rest (Some now) None piece keeps takes = absurd takes
split_of rest (Some now) (Some left) piece keeps takes = (left, refl, sym keeps ∙ takes)

read_one : (bytes : List ℕ) (pieces : List (List ℕ)) (rest piece : List ℕ) (after : Option (List ℕ)) → AreTaken bytes pieces rest → 0 < length piece
    → IsPieceOf rest piece → (left : List ℕ) × (after ≡ Some left) × (rest ≡ piece ++ left)
    → (left : List ℕ) × (after ≡ Some left) × AreTaken bytes (pieces ++ piece ∷ []) left
read_one bytes pieces rest piece after taken some is (left, now, split) =
    (left, now, taken_more bytes pieces rest piece left taken record { some = some; is = is; split = split })

pub read_more : (held left kept after : Option (List ℕ)) (pieces : List (List ℕ)) (piece : List ℕ) → AreReadOf held pieces left → 0 < length piece
    → IfSome left (λ bytes. IsPieceOf bytes piece) → Keeps left kept → Consumes kept after piece → AreReadOf held (pieces ++ piece ∷ []) after
read_more None left kept after pieces piece read some is keeps takes = tt
read_more (Some bytes) left kept after pieces piece (rest, same, taken) some is keeps takes =
    read_one bytes pieces rest piece after taken some
    (subst (λ (o : Option (List ℕ)). IfSome o (λ (b : List ℕ). IsPieceOf b piece)) same is)
    (split_of rest kept after piece (subst (λ (o : Option (List ℕ)). Keeps o kept) same keeps) takes)

-- none is read yet
pub read_none : (held : Option (List ℕ)) → AreReadOf held [] held
read_none None = tt
read_none (Some bytes) = (bytes, refl, refl)

pub first_none : (held : Option (List ℕ)) → AreFirstOf held []
first_none None = tt
first_none (Some bytes) = (bytes, refl)

-- pieces that are read are the first, and all of them at the end
pub read_first : (held left : Option (List ℕ)) (pieces : List (List ℕ)) → AreReadOf held pieces left → AreFirstOf held pieces
read_first None left pieces read = tt
read_first (Some bytes) left pieces (rest, same, taken) = (rest, taken)

pub read_all : (held left : Option (List ℕ)) (pieces : List (List ℕ)) → AreReadOf held pieces left → IsAtEnd left → AreReadPieces held pieces
read_all None left pieces read end = tt
read_all (Some bytes) left pieces (rest, same, taken) end = subst (AreTaken bytes pieces) (subst IsAtEnd same end) taken

-- ---- what is left stays

pub kept_some : (a b : Option (List ℕ)) (P : List ℕ → Type 0) → Keeps a b → IfSome b P → IfSome a P
kept_some None b P keeps h = tt
kept_some (Some x) None P keeps h = absurd keeps
kept_some (Some x) (Some y) P keeps h = subst P keeps h

pub kept_end : (a b : Option (List ℕ)) → Keeps a b → IsAtEnd b → IsAtEnd a
kept_end None b keeps end = tt
kept_end (Some x) None keeps end = absurd keeps
kept_end (Some x) (Some y) keeps end = sym keeps ∙ end

pub kept_first : (a b : Option (List ℕ)) (pieces : List (List ℕ)) → Keeps a b → AreFirstOf b pieces → AreFirstOf a pieces
kept_first a b pieces keeps h = kept_some a b (λ (bytes : List ℕ). (rest : List ℕ) × AreTaken bytes pieces rest) keeps h

pub kept_all : (a b : Option (List ℕ)) (pieces : List (List ℕ)) → Keeps a b → AreAllOf b pieces → AreAllOf a pieces
kept_all a b pieces keeps (inl all) = inl (kept_some a b (λ (bytes : List ℕ). AreTaken bytes pieces []) keeps all)
kept_all a b pieces keeps (inr h) = inr (kept_first a b pieces keeps h.0, h.1)

-- all pieces are the first ones
pub all_first : (held : Option (List ℕ)) (pieces : List (List ℕ)) → AreAllOf held pieces → AreFirstOf held pieces
all_first None pieces h = tt
all_first (Some bytes) pieces (inl all) = ([], all)
all_first (Some bytes) pieces (inr h) = h.0

-- the first line of an input that is in UTF-16
some_utf16 : (count : ℕ) (ahead : List ℕ) → begins_utf16 (take count ahead) ≡ true → 0 < count
some_utf16 zero ahead begins = cc begins
some_utf16 (suc n) ahead begins = omega arith

line_taken : (bytes line : List ℕ) → 0 < length line → line ≡ take_through 10 bytes → (rest : List ℕ) × AreTaken bytes (line ∷ []) rest
line_taken bytes line some is =
    let split : bytes ≡ line ++ drop_through 10 bytes = sym (through_all bytes) ∙ ap (λ (l : List ℕ). l ++ drop_through 10 bytes) (sym is) in
    (drop_through 10 bytes, (drop_through 10 bytes, record { some = some; is = inl is; split = split }, refl))

line_first : (left : Option (List ℕ)) (line : List ℕ) → 0 < length line → IfSome left (λ (bytes : List ℕ). line ≡ take_through 10 bytes)
    → AreFirstOf left (line ∷ [])
line_first None line some is = tt
line_first (Some bytes) line some is = line_taken bytes line some is

pub counted : (count : ℕ) (ahead : List ℕ) → 0 < count → count ≤ length ahead → 0 < length (take count ahead)
counted count ahead some within = omega (arith, length-take count ahead)

pub utf16_first : (count : ℕ) (left : Option (List ℕ)) (ahead : List ℕ) → IsLineAhead count left ahead → begins_utf16 (take count ahead) ≡ true
    → AreFirstOf left (take count ahead ∷ [])
utf16_first count left ahead line begins =
    let some : 0 < count = some_utf16 count ahead begins in
    line_first left (take count ahead) (counted count ahead some line.within) (line.line some)

-- ---- a piece by its form

-- what becomes of what is handed on becomes of a piece
abbrev pub HandsOn : List ℕ → Type 0
HandsOn piece = (c : Choice) (ds : List Deed) → IsHandedOn piece c ds → IsFateOfPiece piece c ds

other_handed : (piece : List ℕ) → IsOfForm piece forms.Other → HandsOn piece
other_handed piece (text, is, inl begins) c ds h = (text, is, inl (begins, h))
other_handed piece (text, is, inr (begins, none)) c ds h = (text, is, inr (inl (begins, inr (inl (none, h)))))

blank_handed : (piece : List ℕ) → IsOfForm piece forms.Blank → HandsOn piece
blank_handed piece (text, is, begins) c ds h = (text, is, inl (begins, h))

list_read : (piece : List ℕ) (v : Value) → IsOfForm piece (forms.List v) → (c : Choice) (ds : List Deed) → IsList piece (view v) c ds
    → IsFateOfPiece piece c ds
list_read piece v (text, is, (begins, document, reads)) c ds (inl h) = (text, is, inl (begins, h))
list_read piece v (text, is, (begins, document, reads)) c ds (inr h) = (text, is, inr (inr (inr (document, (view v, reads, h)))))

pub hands_blank : (piece : List ℕ) (f : Form) → f ≡ forms.Blank → IsOfForm piece f → HandsOn piece
hands_blank piece f same of = blank_handed piece (subst (IsOfForm piece) same of)

-- a list is handed on, or becomes what ESLint's log does
pub list_becomes : (piece : List ℕ) (f : Form) (v : Value) → f ≡ forms.List v → IsOfForm piece f → (c : Choice) (ds : List Deed)
    → IsList piece (view v) c ds → IsFateOfPiece piece c ds
list_becomes piece f v same of = list_read piece v (subst (IsOfForm piece) same of)

pub hands_begun : (piece : List ℕ) (f : Form) → f ≡ forms.Begins → IsOfForm piece f → HandsOn piece
hands_begun piece f same of = other_handed piece (subst (IsOfForm piece) same of)

pub hands_other : (piece : List ℕ) (f : Form) → f ≡ forms.Other → IsOfForm piece f → HandsOn piece
hands_other piece f same of = other_handed piece (subst (IsOfForm piece) same of)

object_becomes : (piece : List ℕ) (v : Value) → IsOfForm piece (forms.Object v) → (c : Choice) (ds : List Deed) → IsValue piece (view v) c ds
    → IsFateOfPiece piece c ds
object_becomes piece v (text, is, read) c ds h = (text, is, inr (inl (read.0, inr (inr (inl (view v, read.1, h))))))

-- an object becomes what its value does
pub value_becomes : (piece : List ℕ) (f : Form) (v : Value) → f ≡ forms.Object v → IsOfForm piece f → (c : Choice) (ds : List Deed)
    → IsValue piece (view v) c ds → IsFateOfPiece piece c ds
value_becomes piece f v same of = object_becomes piece v (subst (IsOfForm piece) same of)

undecoded_wrong : (piece : List ℕ) → IsOfForm piece forms.Undecoded → (c : Choice) (ds : List Deed) → IsWrong c ds → IsFateOfPiece piece c ds
undecoded_wrong piece (text, is, read) c ds h = (text, is, inr (inl (read.0, inl (read.1, h))))

pub wrong_becomes : (piece : List ℕ) (f : Form) → f ≡ forms.Undecoded → IsOfForm piece f → (c : Choice) (ds : List Deed) → IsWrong c ds
    → IsFateOfPiece piece c ds
wrong_becomes piece f same of = undecoded_wrong piece (subst (IsOfForm piece) same of)

told_becomes : (piece : List ℕ) → IsOfForm piece forms.Finding → (c : Choice) (ds : List Deed) → IsFindingOrText piece c ds
    → IsFateOfPiece piece c ds
told_becomes piece (text, is, read) c ds (inl h) = (text, is, inl (read.first, h))
told_becomes piece (text, is, read) c ds (inr h) = (text, is, inr (inr (inl (read, h))))

-- lines of a finding are handed on, or become what it does
pub finding_becomes : (piece : List ℕ) (f : Form) → f ≡ forms.Finding → IsOfForm piece f → (c : Choice) (ds : List Deed) → IsFindingOrText piece c ds
    → IsFateOfPiece piece c ds
finding_becomes piece f same of = told_becomes piece (subst (IsOfForm piece) same of)

-- the same by another spelling of its bytes
pub done_by : (bytes piece : List ℕ) (f : Form) (a b : State) → bytes ≡ piece → IsOfForm piece f → (IsOfForm bytes f → Does (IsFateOfPiece bytes) a b)
    → Does (IsFateOfPiece piece) a b
done_by bytes piece f a b same of d =
    subst (λ (l : List ℕ). Does (IsFateOfPiece l) a b) same (d (subst (λ (l : List ℕ). IsOfForm l f) (sym same) of))

pub stopped_by : (bytes piece : List ℕ) (f : Form) (s : Stop) (a b : State) → bytes ≡ piece → IsOfForm piece f
    → (IsOfForm bytes f → Stops s (IsPartOfDeeds (IsFateOfPiece bytes)) a b) → Stops s (IsPartOfDeeds (IsFateOfPiece piece)) a b
stopped_by bytes piece f s a b same of d =
    subst (λ (l : List ℕ). Stops s (IsPartOfDeeds (IsFateOfPiece l)) a b) same (d (subst (λ (l : List ℕ). IsOfForm l f) (sym same) of))

-- ---- pieces, one after another

-- so many pieces but one are read of what a reader held, and this is left; and this becomes of them
pub record ReadSoFar (held left : Option (List ℕ)) (number : ℕ) (a b : State) : Type 0 where
  pub pieces : List (List ℕ)
  pub read : AreReadOf held pieces left
  pub count : length pieces + 1 ≡ number
  pub does : Does (Each IsFateOfPiece pieces) a b

pub so_far_none : (held : Option (List ℕ)) (a b : State) → Does AreNone a b → ReadSoFar held held 1 a b
so_far_none held a b d = record { pieces = []; read = read_none held; count = refl; does = d }

length_more : (pieces : List (List ℕ)) (piece : List ℕ) → length (pieces ++ piece ∷ []) ≡ length pieces + 1
length_more pieces piece = length-append pieces (piece ∷ [])

-- one more piece is read
pub piece_more : (held left kept after : Option (List ℕ)) (number : ℕ) (ahead : List ℕ) (piece : Piece) (a b : State)
    → (s : ReadSoFar held left number a b) → IsPieceAhead left ahead piece → Keeps left kept → Consumes kept after (take piece.count ahead)
    → AreReadOf held (s.pieces ++ take piece.count ahead ∷ []) after
piece_more held left kept after number ahead piece a b s is keeps takes =
    read_more held left kept after s.pieces (take piece.count ahead) s.read (counted piece.count ahead is.some is.within) is.is keeps takes

-- and this becomes of it
pub so_far_next : (held left kept after : Option (List ℕ)) (number : ℕ) (ahead : List ℕ) (piece : Piece) (a b c : State)
    → (s : ReadSoFar held left number a b) → IsPieceAhead left ahead piece → Keeps left kept → Consumes kept after (take piece.count ahead)
    → Does (IsFateOfPiece (take piece.count ahead)) b c → ReadSoFar held after (number + 1) a c
so_far_next held left kept after number ahead piece a b c s is keeps takes d =
    let bytes = take piece.count ahead in
    record {
      pieces = s.pieces ++ bytes ∷ [];
      read = piece_more held left kept after number ahead piece a b s is keeps takes;
      count = omega (arith, length_more s.pieces bytes, s.count);
      does =
          does_as (each_more IsFateOfPiece bytes a.choice s.pieces)
          (does_then {P = Each IsFateOfPiece s.pieces} {Q = IsFateOfPiece bytes} s.does d);
    }

-- ---- what else is known

-- nothing is said of what isn't there at an error
pub on_ok_err : {T E : Type 0} (P : Type 0) (r : Result T E) → IsErr r → OnOk r P
on_ok_err P (Ok x) is = cc is
on_ok_err P (Err e) is = tt

-- what is known of a result that is this
pub match_ok : {T E : Type 0} (P : T → Type 0) (Q : E → Type 0) (r : Result T E) (t : T) → r ≡ Ok t → MatchResult r P Q → P t
match_ok P Q r t is h = subst (λ x. MatchResult x P Q) is h

pub match_err : {T E : Type 0} (P : T → Type 0) (Q : E → Type 0) (r : Result T E) (e : E) → r ≡ Err e → MatchResult r P Q → Q e
match_err P Q r e is h = subst (λ x. MatchResult x P Q) is h

-- a piece may begin with the mark
pub unmarked_text : (is_first : Bool) (line text : List ℕ) → IsUnmarked is_first line text → IsTextOf line text
unmarked_text true line text (inl is) = inr is
unmarked_text true line text (inr is) = inl (sym is.0)
unmarked_text false line text is = inl (sym is)

-- a blank line doesn't begin as an object does
pub blank_begins : (text : List ℕ) → first_of text ≡ None → begins_object text ≡ false
blank_begins text is = ap (λ (o : Option ℕ). option_map_or (λ b. b == 123) o false) is

-- what holds of a reason to stop, where it stops for that
pub if_err_on : {T : Type 0} (K : Stop → Type 0) (x : Stop) (r : Result T Stop) → IsErrAnd r (λ s. s ≡ x) → K x → IfErr r K
if_err_on K x (Ok done) is k = tt
if_err_on K x (Err s) is k = subst K (sym is) k

-- where it stops for want of memory
pub for_memory : {T : Type 0} (r : Result T Stop) → IsErrAnd r (λ s. s ≡ Memory) → IfErr r (λ s. s ≡ Memory)
for_memory (Ok done) is = tt
for_memory (Err s) is = is

-- a text without a line feed, and then without a carriage return
pub end_cut : (text middle rest : List ℕ) → (text ≡ middle) ⊎ (text ≡ middle ++ 10 ∷ []) → (middle ≡ rest) ⊎ (middle ≡ rest ++ 13 ∷ [])
    → IsWithoutEnd text rest
end_cut text middle rest (inl a) (inl b) = record { end = []; ends = inl refl; split = a ∙ b ∙ sym (append-nil rest) }
end_cut text middle rest (inr a) (inl b) = record { end = 10 ∷ []; ends = inr (inl refl); split = a ∙ ap (λ l. l ++ 10 ∷ []) b }
end_cut text middle rest (inl a) (inr b) = record { end = 13 ∷ []; ends = inr (inr (inl refl)); split = a ∙ b }
end_cut text middle rest (inr a) (inr b) =
    record { end = 13 ∷ 10 ∷ []; ends = inr (inr (inr refl)); split = a ∙ ap (λ l. l ++ 10 ∷ []) b ∙ append_assoc rest (13 ∷ []) (10 ∷ []) }
