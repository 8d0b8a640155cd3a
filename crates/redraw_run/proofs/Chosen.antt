-- Readings that are tried one after another: how the first that is meant is the one that is chosen.
use Rattle.std.proofs.Common.{None, Some, ◌≡◌, ◌∙◌, ◌||◌, ℕ, Bool, true, false, List, [], ◌∷◌, ◌++◌, ap, refl, sym, if◌then◌else◌}
use Rattle.std.specs.List.{All, list_any}
use Rattle.std.specs.Prelude.{Result}
use Rattle.std.specs.Result.{IfOk}
use Rattle.std.specs.Str.{bytes_eq}
use Rattle.std.specs.declared.alloc.AllocError.{AllocError}
use Rattle.std.proofs.lemmas.Result.{IfOk-weaker}
use Rattle.std.proofs.lemmas.List.Elements.{All-cons, All-nil, All-push}
use Rattle.std.proofs.lemmas.List.Folds.{list_any-append}
use Rattle.redraw_read.specs.declared.sources.File.{File}
use Rattle.redraw_report.specs.declared.diagnostic.Diagnostic.{Diagnostic}
use Rattle.redraw_run.specs.DrawnFinding.{ShowsFinding}
use Rattle.redraw_run.specs.Readings.{Candidate, IsChosenReading, IsDrawnIn, as_rustc_ends, chosen_or, is_meant}
use Rattle.redraw_run.specs.declared.look.ReportRenderer.{ReportRenderer}

-- none of the readings so far is meant, of which the first is this one
pub record NoneMeant (look : ReportRenderer) (text : List ℕ) (d : Diagnostic) : Type 0 where
  pub first : Candidate
  pub others : List Candidate
  pub of : first.reading ≡ d
  pub drawn : All (IsDrawnIn look) (first ∷ others)
  pub none : list_any (is_meant text) (first ∷ others) ≡ false

one : (look : ReportRenderer) (c : Candidate) → IsDrawnIn look c → All (IsDrawnIn look) (c ∷ [])
one look c drawn = All-cons (IsDrawnIn look) c [] drawn (All-nil (IsDrawnIn look))

both_false : (a b : Bool) → (a || b) ≡ false → (a ≡ false) × (b ≡ false)
both_false false b e = (refl, e)
both_false true b e = absurd (cc e)

-- of candidates none of which is meant the other one is chosen
chosen_none : (other : Candidate) (text : List ℕ) (cs : List Candidate) → list_any (is_meant text) cs ≡ false → chosen_or other text cs ≡ other
chosen_none other text [] none = refl
chosen_none other text (c ∷ cs) none =
    let parts = both_false (is_meant text c) (list_any (is_meant text) cs) none in
    ap (λ b. if b then c else chosen_or other text cs) parts.0 ∙ chosen_none other text cs parts.1

-- after such ones that one is chosen which is meant
chosen_next : (other c : Candidate) (text : List ℕ) (cs : List Candidate) → list_any (is_meant text) cs ≡ false → is_meant text c ≡ true
    → chosen_or other text (cs ++ c ∷ []) ≡ c
chosen_next other c text [] none meant = ap (λ b. if b then c else other) meant
chosen_next other c text (x ∷ cs) none meant =
    let parts = both_false (is_meant text x) (list_any (is_meant text) cs) none in
    ap (λ b. if b then x else chosen_or other text (cs ++ c ∷ [])) parts.0 ∙ chosen_next other c text cs parts.1 meant

pub first_tried : (look : ReportRenderer) (text : List ℕ) (d : Diagnostic) (c : Candidate) → c.reading ≡ d → IsDrawnIn look c → is_meant text c ≡ false
    → NoneMeant look text d
first_tried look text d c of drawn not =
    record { first = c; others = []; of = of; drawn = one look c drawn; none = ap (λ b. b || false) not }

pub one_more_tried : (look : ReportRenderer) (text : List ℕ) (d : Diagnostic) (c : Candidate) → NoneMeant look text d → IsDrawnIn look c
    → is_meant text c ≡ false → NoneMeant look text d
one_more_tried look text d c so_far drawn not =
    record {
      first = so_far.first;
      others = so_far.others ++ c ∷ [];
      of = so_far.of;
      drawn = All-push (IsDrawnIn look) (so_far.first ∷ so_far.others) c so_far.drawn drawn;
      none =
          list_any-append (is_meant text) (so_far.first ∷ so_far.others) (c ∷ [])
          ∙ ap (λ b. b || (is_meant text c || false)) so_far.none
          ∙ ap (λ b. b || false) not;
    }

pub first_meant : (look : ReportRenderer) (text : List ℕ) (d : Diagnostic) (c : Candidate) → c.reading ≡ d → IsDrawnIn look c → is_meant text c ≡ true
    → IsChosenReading look text d
first_meant look text d c of drawn meant =
    record {
      first = c;
      others = [];
      drawn = one look c drawn;
      is = sym of ∙ ap (λ (x : Candidate). x.reading) (sym (ap (λ b. if b then c else c) meant));
    }

pub other_meant : (look : ReportRenderer) (text : List ℕ) (d e : Diagnostic) (c : Candidate) → NoneMeant look text d → c.reading ≡ e → IsDrawnIn look c
    → is_meant text c ≡ true → IsChosenReading look text e
other_meant look text d e c so_far of drawn meant =
    record {
      first = so_far.first;
      others = so_far.others ++ c ∷ [];
      drawn = All-push (IsDrawnIn look) (so_far.first ∷ so_far.others) c so_far.drawn drawn;
      is =
          sym of
          ∙ ap (λ (x : Candidate). x.reading)
          (sym (chosen_next so_far.first c text (so_far.first ∷ so_far.others) so_far.none meant));
    }

pub none_meant : (look : ReportRenderer) (text : List ℕ) (d : Diagnostic) → NoneMeant look text d → IsChosenReading look text d
none_meant look text d so_far =
    record {
      first = so_far.first;
      others = so_far.others;
      drawn = so_far.drawn;
      is =
          sym so_far.of
          ∙ ap (λ (x : Candidate). x.reading)
          (sym (chosen_none so_far.first text (so_far.first ∷ so_far.others) so_far.none));
    }

-- a reading that was drawn, and whether that is the text
pub drawn_reading : (look : ReportRenderer) (files : List File) (d : Diagnostic) (drawing text : List ℕ) (r : Result Bool AllocError)
    → ShowsFinding look files d drawing → IfOk r (λ is. is ≡ bytes_eq (as_rustc_ends drawing) text)
    → IfOk r (λ is. (c : Candidate) × (c.reading ≡ d) × IsDrawnIn look c × (is_meant text c ≡ is))
drawn_reading look files d drawing text r shows same =
    IfOk-weaker r (λ is. is ≡ bytes_eq (as_rustc_ends drawing) text)
    (λ is. (c : Candidate) × (c.reading ≡ d) × IsDrawnIn look c × (is_meant text c ≡ is))
    (λ is e. (record { reading = d; drawing = Some drawing }, refl, (files, shows), sym e)) same

-- a reading that couldn't be drawn isn't meant
pub undrawn_reading : (look : ReportRenderer) (d : Diagnostic) (text : List ℕ)
    → (c : Candidate) × (c.reading ≡ d) × IsDrawnIn look c × (is_meant text c ≡ false)
undrawn_reading look d text = (record { reading = d; drawing = None }, refl, ([], tt), refl)
