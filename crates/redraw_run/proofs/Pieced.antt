-- What the next piece of an input is.
use Rattle.std.proofs.Common.{◌≡◌, ◌++◌, ◌∙◌, ◌||◌, ◌==◌, ◌<◌, ◌≤◌, ℕ, Bool, List, [], ◌∷◌, Option, None, Some, ap, append_assoc, append-nil, arith}
use Rattle.std.proofs.Common.{false, inl, inr, length, length-append, refl, subst, sym, take, true}
use Rattle.std.proofs.lemmas.List.{length-take, take-append-le}
use Rattle.std.specs.Prelude.{IfErr, IfSome, IsErrAnd, Result, Ok, Err}
use Rattle.std.specs.Io.BufRead.{take_through}
use Rattle.std.specs.Io.KnownBytes.{IsAtEnd, Keeps}
use Rattle.std.specs.Option.{option_map_or}
use Rattle.json_lines.specs.Cut.{IsCutOf}
use Rattle.serde_json.specs.Data.{Data}
use Rattle.serde_json.specs.View.{view}
use Rattle.serde_json.specs.declared.value.Value.{Value}
use Rattle.redraw_command.specs.Halt.{IsHalt}
use Rattle.redraw_command.specs.Line.{begins_document, begins_object, first_of, mark}
use Rattle.redraw_command.specs.LookAhead.{IsLineAhead, ReadsOn}
use Rattle.redraw_command.specs.Scanned.{IsWithin}
use Rattle.json_lines.specs.declared.cut.CutLog.{CutLog}
use Rattle.redraw_command.specs.declared.choice.Choice.{Choice}
use Rattle.redraw_command.specs.declared.scanner.Scan.{Scan}
use Rattle.redraw_command.specs.declared.scanner.Scan.TheVariants.{Ends}
use Rattle.redraw_command.specs.declared.stop.Stop.{Stop}
use Rattle.redraw_command.specs.declared.stop.Stop.TheVariants.{Memory}
use Rattle.redraw_run.specs.Deeds.{Deed}
use Rattle.redraw_run.specs.Fates.{IsCutLog, IsFateOfPiece, IsTextOf}
use Rattle.redraw_run.specs.FindingLines.{AreOfFinding}
use Rattle.redraw_run.specs.Pieces.{Grows, IsNextPiece, IsOfForm, IsPieceAhead}
use Rattle.redraw_run.specs.ReadLines.{IsDocument, IsPieceOf}
use Rattle.redraw_run.specs.declared.piece.Form.{Form}
use Rattle.redraw_run.specs.declared.piece.Form.TheVariants as forms
use Rattle.redraw_run.specs.declared.piece.Piece.{Piece}
use Rattle.redraw_run.proofs.Lined.{kept_end, kept_some}

-- ---- texts

or_left : (a b : Bool) → a ≡ true → (a || b) ≡ true
or_left true b is = refl
or_left false b is = cc is

object_first : (first : Option ℕ) → option_map_or (λ b. b == 123) first false ≡ true → option_map_or (λ b. b == 123 || b == 91) first false ≡ true
object_first None is = cc is
object_first (Some b) is = or_left (b == 123) (b == 91) is

-- an object begins as a document does, and so does a list, which is no object
object_document : (text : List ℕ) → begins_object text ≡ true → begins_document text ≡ true
object_document text begins = object_first (first_of text) begins

pub list_document : (text : List ℕ) → first_of text ≡ Some 91 → begins_document text ≡ true
list_document text is = ap (λ (o : Option ℕ). option_map_or (λ b. b == 123 || b == 91) o false) is

pub list_object : (text : List ℕ) → first_of text ≡ Some 91 → begins_object text ≡ false
list_object text is = ap (λ (o : Option ℕ). option_map_or (λ b. b == 123) o false) is

text_some : (text : List ℕ) → begins_document text ≡ true → 0 < length text
text_some [] begins = cc begins
text_some (x ∷ xs) begins = omega arith

piece_some : (piece text : List ℕ) → IsTextOf piece text → begins_document text ≡ true → 0 < length piece
piece_some piece text (inl is) begins = omega (arith, ap length is, text_some text begins)
piece_some piece text (inr is) begins = omega (arith, ap length is, length-append mark text, text_some text begins)

-- ---- documents

object_is : (piece : List ℕ) (v : Value) → IsOfForm piece (forms.Object v) → IsDocument piece
object_is piece v (text, is, (begins, reads)) =
    record { text = text; is = is; begins = object_document text begins; value = view v; reads = reads }

list_is : (piece : List ℕ) (v : Value) → IsOfForm piece (forms.List v) → IsDocument piece
list_is piece v (text, is, (object, begins, reads)) = record { text = text; is = is; begins = begins; value = view v; reads = reads }

log_is : (piece : List ℕ) (l : CutLog) → IsOfForm piece (forms.Log l) → IsDocument piece
log_is piece l (text, is, (begins, (d, reads, cut))) =
    record { text = text; is = is; begins = object_document text begins; value = d; reads = reads }

-- a piece that is an object or a list is a document
pub object_found : (piece : List ℕ) (f : Form) (v : Value) → f ≡ forms.Object v → IsOfForm piece f → IsOfForm piece (forms.Object v) × IsDocument piece
object_found piece f v same of =
    let object : IsOfForm piece (forms.Object v) = subst (IsOfForm piece) same of in
    (object, object_is piece v object)

pub list_found : (piece : List ℕ) (f : Form) (v : Value) → f ≡ forms.List v → IsOfForm piece f → IsOfForm piece (forms.List v) × IsDocument piece
list_found piece f v same of =
    let list : IsOfForm piece (forms.List v) = subst (IsOfForm piece) same of in
    (list, list_is piece v list)

pub log_found : (piece : List ℕ) (f : Form) (l : CutLog) → f ≡ forms.Log l → IsOfForm piece f → IsOfForm piece (forms.Log l) × IsDocument piece
log_found piece f l same of =
    let log : IsOfForm piece (forms.Log l) = subst (IsOfForm piece) same of in
    (log, log_is piece l log)

log_read : (piece : List ℕ) (l : CutLog) → IsOfForm piece (forms.Log l)
    → (d : Data) × IsCutOf d l × ((c : Choice) (ds : List Deed) → IsCutLog piece d c ds → IsFateOfPiece piece c ds)
log_read piece l (text, is, (begins, (d, reads, cut))) = (d, cut, λ c ds h. (text, is, inr (inl (begins, inr (inr (inr (d, reads, h)))))))

-- a log that is read without its results becomes what a long log of its value does
pub log_becomes : (piece : List ℕ) (f : Form) (l : CutLog) → f ≡ forms.Log l → IsOfForm piece f
    → (d : Data) × IsCutOf d l × ((c : Choice) (ds : List Deed) → IsCutLog piece d c ds → IsFateOfPiece piece c ds)
log_becomes piece f l same of = log_read piece l (subst (IsOfForm piece) same of)

taken_some : (count : ℕ) (ahead : List ℕ) → 0 < length (take count ahead) → 0 < count
taken_some count ahead some = omega (arith, some, length-take count ahead)

if_some_all : (o : Option (List ℕ)) (P : List ℕ → Type 0) → ((x : List ℕ) → P x) → IfSome o P
if_some_all None P h = tt
if_some_all (Some x) P h = h x

document_ahead : (left : Option (List ℕ)) (ahead : List ℕ) (count : ℕ) (piece : Piece) → count ≤ length ahead → piece.count ≡ count
    → IsOfForm (take count ahead) piece.form → IsDocument (take count ahead) → IsPieceAhead left ahead piece
document_ahead left ahead count piece within counted of document =
    let some : 0 < count = taken_some count ahead (piece_some (take count ahead) document.text document.is document.begins) in
    let is : IsDocument (take piece.count ahead) = subst (λ (n : ℕ). IsDocument (take n ahead)) (sym counted) document in
    record {
      some = omega (arith, some, counted);
      within = omega (arith, within, counted);
      form = subst (λ (n : ℕ). IsOfForm (take n ahead) piece.form) (sym counted) of;
      is = if_some_all left (λ (bytes : List ℕ). IsPieceOf bytes (take piece.count ahead)) (λ bytes. inr (inl is));
    }

-- a document that is looked for, whatever is left
pub document_found : (ahead : List ℕ) (count : ℕ) (found : Option Piece) → count ≤ length ahead
    → IfSome found (λ (piece : Piece). (piece.count ≡ count) × IsOfForm (take count ahead) piece.form × IsDocument (take count ahead))
    → IfSome found (λ (piece : Piece). (left : Option (List ℕ)) → IsPieceAhead left ahead piece)
document_found ahead count None within h = tt
document_found ahead count (Some piece) within (counted, of, document) = λ left. document_ahead left ahead count piece within counted of document

pub found_next : (ahead : List ℕ) (found : Option Piece) (piece : Piece) → found ≡ Some piece
    → IfSome found (λ (p : Piece). (left : Option (List ℕ)) → IsPieceAhead left ahead p) → (left : Option (List ℕ)) → IsPieceAhead left ahead piece
found_next ahead found piece is h =
    subst (λ (o : Option Piece). IfSome o (λ (p : Piece). (left : Option (List ℕ)) → IsPieceAhead left ahead p)) is h

pub some_within : (found : Option ℕ) (count most : ℕ) → found ≡ Some count → IfSome found (λ n. n ≤ most) → count ≤ most
some_within found count most is h = subst (λ (o : Option ℕ). IfSome o (λ n. n ≤ most)) is h

-- ---- what is ahead

-- a piece stays one where more is ahead
pub piece_stays : (left : Option (List ℕ)) (old new : List ℕ) (piece : Piece) → Grows old new → IsPieceAhead left old piece → IsPieceAhead left new piece
piece_stays left old new piece (more, grown) h =
    let same : take piece.count old ≡ take piece.count new =
    sym (take-append-le piece.count old more h.within) ∙ ap (take piece.count) (sym grown) in
    record {
      some = h.some;
      within = omega (arith, h.within, ap length grown, length-append old more);
      form = subst (λ (l : List ℕ). IsOfForm l piece.form) same h.form;
      is = subst (λ (l : List ℕ). IfSome left (λ (bytes : List ℕ). IsPieceOf bytes l)) same h.is;
    }

line_is : (left : Option (List ℕ)) (line : List ℕ) → IfSome left (λ (bytes : List ℕ). line ≡ take_through 10 bytes)
    → IfSome left (λ (bytes : List ℕ). IsPieceOf bytes line)
line_is None line h = tt
line_is (Some bytes) line h = inl h

-- a line is a piece
pub line_piece : (left : Option (List ℕ)) (ahead : List ℕ) (piece : Piece) → IsLineAhead piece.count left ahead → 0 < piece.count
    → IsOfForm (take piece.count ahead) piece.form → IsPieceAhead left ahead piece
line_piece left ahead piece line some of =
    record { some = some; within = line.within; form = of; is = line_is left (take piece.count ahead) (line.line some) }

-- lines of a finding are a piece, where the first is one
pub finding_ahead : (left : Option (List ℕ)) (old new : List ℕ) (line : Piece) (count : ℕ) → line.count ≤ count → count ≤ length new
    → AreOfFinding (take count new) → IsPieceAhead left old line → IsPieceAhead left new record { count = count; form = forms.Finding }
finding_ahead left old new line count more within are h =
    record {
      some = omega (arith, h.some, more);
      within = within;
      form = (take count new, inl refl, are);
      is = if_some_all left (λ (bytes : List ℕ). IsPieceOf bytes (take count new)) (λ bytes. inr (inr are));
    }

-- the next piece of what was left before
pub next_before : (old left : Option (List ℕ)) (ahead : List ℕ) (found : Option Piece) → Keeps old left → IsNextPiece left ahead found
    → IsNextPiece old ahead found
next_before old left ahead None keeps h = kept_end old left keeps h
next_before old left ahead (Some piece) keeps h =
    record {
      some = h.some;
      within = h.within;
      form = h.form;
      is = kept_some old left (λ (bytes : List ℕ). IsPieceOf bytes (take piece.count ahead)) keeps h.is;
    }

pub next_none : (left : Option (List ℕ)) (ahead : List ℕ) (found : Option Piece) → found ≡ None → IsNextPiece left ahead found → IsAtEnd left
next_none left ahead found is h = subst (IsNextPiece left ahead) is h

pub next_some : (left : Option (List ℕ)) (ahead : List ℕ) (found : Option Piece) (piece : Piece) → found ≡ Some piece → IsNextPiece left ahead found
    → IsPieceAhead left ahead piece
next_some left ahead found piece is h = subst (IsNextPiece left ahead) is h

-- ---- bytes that are scanned

pub grows_none : (bytes : List ℕ) → Grows bytes bytes
grows_none bytes = ([], sym (append-nil bytes))

pub grows_then : (a b c : List ℕ) → Grows a b → Grows b c → Grows a c
grows_then a b c (more, first) (most, next) =
    (more ++ most, next ∙ ap (λ (l : List ℕ). l ++ most) first ∙ append_assoc a more most)

pub grows_reads : (is : Bool) (left : Option (List ℕ)) (old new : List ℕ) → ReadsOn is left old new → Grows old new
grows_reads true left old new h = (h.line, h.added)
grows_reads false left old new h = ([], h.0 ∙ sym (append-nil old))

-- what is ahead after nothing was read, or a line
pub ruleset ahead_steps = (grows_none, grows_reads)

-- more is ahead, of which so much was scanned
pub record Scanned (left : Option (List ℕ)) (old : List ℕ) (now : Option (List ℕ)) (new : List ℕ) (seen : ℕ) : Type 0 where
  pub kept : Keeps left now
  pub grows : Grows old new
  pub within : seen ≤ length new

pub keeps_then : (a b c : Option (List ℕ)) → Keeps a b → Keeps b c → Keeps a c
keeps_then None b c p q = tt
keeps_then (Some x) None c p q = absurd p
keeps_then (Some x) (Some y) None p q = absurd q
keeps_then (Some x) (Some y) (Some z) p q = q ∙ p

pub keeps_same : (a : Option (List ℕ)) → Keeps a a
keeps_same None = tt
keeps_same (Some x) = refl

pub scanned_none : (left : Option (List ℕ)) (ahead : List ℕ) (seen : ℕ) → seen ≤ length ahead → Scanned left ahead left ahead seen
scanned_none left ahead seen within = record { kept = keeps_same left; grows = grows_none ahead; within = within }

-- one more line is read
pub scanned_more : (is : Bool) (left now after : Option (List ℕ)) (old new newer : List ℕ) (seen : ℕ) → Scanned left old now new seen
    → Keeps now after → ReadsOn is now new newer → Scanned left old after newer (length new)
scanned_more is left now after old new newer seen s keeps reads =
    let grown : Grows new newer = grows_reads is now new newer reads in
    record {
      kept = keeps_then left now after s.kept keeps;
      grows = grows_then old new newer s.grows grown;
      within = omega (arith, ap length grown.1, length-append new grown.0);
    }

-- more is ahead, and a finding goes on to within it
pub record GoesOn (left : Option (List ℕ)) (old : List ℕ) (now : Option (List ℕ)) (new : List ℕ) (first end : ℕ) : Type 0 where
  pub kept : Keeps left now
  pub grows : Grows old new
  pub from : first ≤ end
  pub within : end ≤ length new

pub goes_on_none : (left : Option (List ℕ)) (ahead : List ℕ) (first : ℕ) → first ≤ length ahead → GoesOn left ahead left ahead first first
goes_on_none left ahead first within = record { kept = keeps_same left; grows = grows_none ahead; from = omega arith; within = within }

pub goes_on_more : (left now after : Option (List ℕ)) (old new newer : List ℕ) (first end next : ℕ) → GoesOn left old now new first end → Keeps now after
    → Grows new newer → end ≤ next → next ≤ length newer → GoesOn left old after newer first next
goes_on_more left now after old new newer first end next g keeps grows more within =
    record {
      kept = keeps_then left now after g.kept keeps;
      grows = grows_then old new newer g.grows grows;
      from = omega (arith, g.from);
      within = within;
    }

-- an end that is found lies within what was scanned
pub ends_within : (n count : ℕ) (scan : Scan) → scan ≡ Ends count → IsWithin n scan → count ≤ n
ends_within n count scan is h = subst (IsWithin n) is h

-- ---- why it stops

pub halts_memory : {T : Type 0} (r : Result T Stop) → IsErrAnd r (λ s. s ≡ Memory) → IfErr r IsHalt
halts_memory (Ok x) is = tt
halts_memory (Err s) is = subst IsHalt (sym is) tt
