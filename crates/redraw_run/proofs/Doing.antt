-- Things that are done one after the other are done together.
use Rattle.std.proofs.Common.{◌≡◌, ◌⊎◌, ℕ, Bool, true, false, List, [], ◌∷◌, ◌++◌, refl, ap, sym, ◌∙◌, subst, inl, inr, append_assoc, append-nil}
use Rattle.std.specs.Prelude.{Result, Ok, Err, IsErrAnd}
use Rattle.std.specs.List.{flat_map}
use Rattle.std.proofs.lemmas.List.Concat.{flat_map-append}
use Rattle.redraw_run.specs.declared.look.ReportRenderer.{ReportRenderer}
use Rattle.output_stream.specs.Standing.{Adds, BreaksOff, Gets, Standing}
use Rattle.output_stream.proofs.Writing.{adds_breaks, adds_none, adds_twice, gets_twice}
use Rattle.redraw_command.specs.Tally.{tallied}
use Rattle.redraw_command.specs.Choice.{is_sum}
use Rattle.redraw_command.specs.declared.choice.Choice.{Choice}
use Rattle.redraw_command.specs.declared.stop.Stop.{Stop}
use Rattle.redraw_command.specs.declared.stop.Stop.TheVariants.{Memory, Unwritable, Unreadable, Utf16}
use Rattle.redraw_command.specs.declared.tally.Tally.{Tally}
use Rattle.redraw_report.specs.declared.diagnostic.Severity.{Severity}
use Rattle.redraw_report.specs.declared.diagnostic.Severity.TheVariants.{Error, Warning, Info, Note, Help, Plain}
use Rattle.redraw_run.specs.Deeds.{State, Deed, Drawn, Commanded, Compared, HandedOn, Told, Refused, LeftOut, Repeated, BuildFailed, AreDeeds, printed, told}
use Rattle.redraw_run.specs.Deeds.{tally_after, tally_by, with_files, Does, IsCutShort, IsPartOfDeeds, Stops, Happens}
use Rattle.redraw_run.specs.Fates.{AreNone, Then}

deeds_both : (r : ReportRenderer) (c : Choice) (ds es : List Deed) → AreDeeds r c ds → AreDeeds r c es → AreDeeds r c (ds ++ es)
deeds_both r c [] es p q = q
deeds_both r c (d ∷ ds) es p q = (p.0, deeds_both r c ds es p.1 q)

-- how many files there are changes nothing else of a tally
files_tallied : (s : Severity) (sum : Bool) (t : Tally) (f : ℕ) → tallied (with_files t f) s sum ≡ with_files (tallied t s sum) f
files_tallied s true t f = refl
files_tallied Error false t f = refl
files_tallied Warning false t f = refl
files_tallied Info false t f = refl
files_tallied Note false t f = refl
files_tallied Help false t f = refl
files_tallied Plain false t f = refl

files_after : (d : Deed) (t : Tally) (f : ℕ) → tally_after (with_files t f) d ≡ with_files (tally_after t d) f
files_after (Drawn d text) t f = files_tallied d.severity (is_sum d) t f
files_after (Commanded d line) t f = files_tallied d.severity (is_sum d) t f
files_after (Compared d is_same shown) t f = refl
files_after (HandedOn line) t f = refl
files_after (Told line) t f = refl
files_after (Refused d why) t f = refl
files_after LeftOut t f = refl
files_after Repeated t f = refl
files_after BuildFailed t f = refl

files_by : (ds : List Deed) (t : Tally) (f : ℕ) → tally_by (with_files t f) ds ≡ with_files (tally_by t ds) f
files_by [] t f = refl
files_by (d ∷ ds) t f = ap (λ u. tally_by u ds) (files_after d t f) ∙ files_by ds (tally_after t d) f

tally_twice : (t : Tally) (ds es : List Deed) → tally_by t (ds ++ es) ≡ tally_by (tally_by t ds) es
tally_twice t [] es = refl
tally_twice t (d ∷ ds) es = tally_twice (tally_after t d) ds es

tally_then : (a b c : Tally) (ds es : List Deed) → b ≡ with_files (tally_by a ds) b.files → c ≡ with_files (tally_by b es) c.files
    → c ≡ with_files (tally_by a (ds ++ es)) c.files
tally_then a b c ds es p q =
    q ∙ ap (λ t. with_files (tally_by t es) c.files) p
    ∙ ap (λ t. with_files t c.files) (files_by es (tally_by a ds) b.files)
    ∙ ap (λ t. with_files t c.files) (sym (tally_twice a ds es))

-- nothing is done
pub does_nothing : (s : State) → Does AreNone s s
does_nothing s =
    record {
      deeds = [];
      are = tt;
      fit = refl;
      out = adds_none s.out;
      err = inl (adds_none s.err);
      tally = refl;
      renderer = refl;
      choice = refl;
    }

are_then : {P : Choice → List Deed → Type 0} (a b c : State) (p : Does P a b) (es : List Deed) → AreDeeds b.renderer b.choice es
    → AreDeeds a.renderer a.choice (p.deeds ++ es)
are_then a b c p es are =
    deeds_both a.renderer a.choice p.deeds es p.are
    (subst (λ r. AreDeeds r a.choice es) p.renderer (subst (λ ch. AreDeeds b.renderer ch es) p.choice are))

added_then : (f : Deed → List ℕ) (a b c : Standing) (ds es : List Deed) → Adds a b (flat_map f ds) → Adds b c (flat_map f es)
    → Adds a c (flat_map f (ds ++ es))
added_then f a b c ds es p q = subst (Adds a c) (sym (flat_map-append f ds es)) (adds_twice a b c (flat_map f ds) (flat_map f es) p q)

given_then : (f : Deed → List ℕ) (a b c : Standing) (ds es : List Deed) → Gets a b (flat_map f ds) → Gets b c (flat_map f es)
    → Gets a c (flat_map f (ds ++ es))
given_then f a b c ds es p q = subst (Gets a c) (sym (flat_map-append f ds es)) (gets_twice a b c (flat_map f ds) (flat_map f es) p q)

-- what is done, and then what is done after it
pub does_then : {P Q : Choice → List Deed → Type 0} {a b c : State} → Does P a b → Does Q b c → Does (Then P Q) a c
does_then {P} {Q} {a} {b} {c} p q =
    record {
      deeds = p.deeds ++ q.deeds;
      are = are_then {P = P} a b c p q.deeds q.are;
      fit = record { before = p.deeds; after = q.deeds; split = refl; first = p.fit; next = subst (λ ch. Q ch q.deeds) p.choice q.fit };
      out = added_then (printed a.renderer) a.out b.out c.out p.deeds q.deeds p.out
          (subst (λ r. Adds b.out c.out (flat_map (printed r) q.deeds)) p.renderer q.out);
      err = given_then told a.err b.err c.err p.deeds q.deeds p.err q.err;
      tally = tally_then a.tally b.tally c.tally p.deeds q.deeds p.tally q.tally;
      renderer = q.renderer ∙ p.renderer;
      choice = q.choice ∙ p.choice;
    }

-- what is done is of a wider kind too
pub does_as : {P Q : Choice → List Deed → Type 0} {a b : State} → ((ds : List Deed) → P a.choice ds → Q a.choice ds) → Does P a b → Does Q a b
does_as {P} {Q} {a} {b} f p =
    record {
      deeds = p.deeds;
      are = p.are;
      fit = f p.deeds p.fit;
      out = p.out;
      err = p.err;
      tally = p.tally;
      renderer = p.renderer;
      choice = p.choice;
    }

part_either : (P Q : Choice → List Deed → Type 0) (c : Choice) (ds : List Deed) → ((ds : List Deed) → P c ds → Q c ds)
    → (ds ≡ []) ⊎ ((rest : List Deed) × P c (ds ++ rest)) → (ds ≡ []) ⊎ ((rest : List Deed) × Q c (ds ++ rest))
part_either P Q c ds f (inl none) = inl none
part_either P Q c ds f (inr (rest, p)) = inr (rest, f (ds ++ rest) p)

-- a part of some things is one of those of a wider kind
pub part_as : {P Q : Choice → List Deed → Type 0} (c : Choice) (ds : List Deed) → ((ds : List Deed) → P c ds → Q c ds) → IsPartOfDeeds P c ds
    → IsPartOfDeeds Q c ds
part_as {P} {Q} c ds f h = record { is = part_either P Q c ds f h.is }

-- all of some things is a part of them
pub part_all : {P : Choice → List Deed → Type 0} (c : Choice) (ds : List Deed) → P c ds → IsPartOfDeeds P c ds
part_all {P} c ds p = record { is = inr ([], subst (P c) (sym (append-nil ds)) p) }

-- these are the first of some things
parted : {P : Choice → List Deed → Type 0} {c : Choice} {ds : List Deed} → (rest : List Deed) × P c (ds ++ rest) → IsPartOfDeeds P c ds
parted h = record { is = inr h }

part_next : {P Q : Choice → List Deed → Type 0} (c : Choice) (ds : List Deed) → ((es : List Deed) × Q c es) → (bs es : List Deed) → ds ≡ bs ++ es
    → P c bs → (es ≡ []) ⊎ ((rest : List Deed) × Q c (es ++ rest)) → IsPartOfDeeds (Then P Q) c ds
part_next {P} {Q} c ds q bs es split p (inl none) =
    parted (q.0, record { before = bs; after = q.0; split = ap (λ l. l ++ q.0) (split ∙ ap (λ l. bs ++ l) none ∙ append-nil bs); first = p; next = q.1 })
part_next {P} {Q} c ds q bs es split p (inr (rest, h)) =
    parted (rest, record { before = bs; after = es ++ rest; split = ap (λ l. l ++ rest) split ∙ append_assoc bs es rest; first = p; next = h })

-- things are done, and a part of others, of which there are some
pub part_then : {P Q : Choice → List Deed → Type 0} (c : Choice) (ds : List Deed) → ((es : List Deed) × Q c es) → Then P (IsPartOfDeeds Q) c ds
    → IsPartOfDeeds (Then P Q) c ds
part_then {P} {Q} c ds q h = part_next {P = P} {Q = Q} c ds q h.before h.after h.split h.first h.next.is

pub cut_as : {P Q : Choice → List Deed → Type 0} {a b : State} → ((ds : List Deed) → P a.choice ds → Q a.choice ds) → IsCutShort P a b → IsCutShort Q a b
cut_as {P} {Q} {a} {b} f p = record { deeds = p.deeds; are = p.are; fit = f p.deeds p.fit; out = p.out; err = p.err }

pub cut_then : {P Q : Choice → List Deed → Type 0} {a b c : State} → Does P a b → IsCutShort Q b c → IsCutShort (Then P Q) a c
cut_then {P} {Q} {a} {b} {c} p q =
    record {
      deeds = p.deeds ++ q.deeds;
      are = are_then {P = P} a b c p q.deeds q.are;
      fit = record { before = p.deeds; after = q.deeds; split = refl; first = p.fit; next = subst (λ ch. Q ch q.deeds) p.choice q.fit };
      out = subst (BreaksOff a.out c.out) (sym (flat_map-append (printed a.renderer) p.deeds q.deeds))
          (adds_breaks a.out b.out c.out (flat_map (printed a.renderer) p.deeds) (flat_map (printed a.renderer) q.deeds) p.out
          (subst (λ r. BreaksOff b.out c.out (flat_map (printed r) q.deeds)) p.renderer q.out));
      err = given_then told a.err b.err c.err p.deeds q.deeds p.err q.err;
    }

-- what is done may be all that is done before there is no memory
pub stops_any : {P : Choice → List Deed → Type 0} {a b : State} (s : Stop) → s ≡ Memory → Does P a b → Stops s P a b
stops_any {P} {a} {b} s is p = subst (λ (t : Stop). Stops t P a b) (sym is) p

-- the same by a wider kind
pub stops_as : (P Q : Choice → List Deed → Type 0) (a b : State) (s : Stop) → ((ds : List Deed) → P a.choice ds → Q a.choice ds) → Stops s P a b
    → Stops s Q a b
stops_as P Q a b Memory f p = does_as f p
stops_as P Q a b (Unwritable error) f p = cut_as f p
stops_as P Q a b (Unreadable error) f p = absurd p
stops_as P Q a b Utf16 f p = absurd p

-- what is done, and then what is done up to where it stops
pub stops_then : (P Q : Choice → List Deed → Type 0) (a b c : State) (s : Stop) → Does P a b → Stops s Q b c → Stops s (Then P Q) a c
stops_then P Q a b c Memory p q = does_then p q
stops_then P Q a b c (Unwritable error) p q = cut_then p q
stops_then P Q a b c (Unreadable error) p q = absurd q
stops_then P Q a b c Utf16 p q = absurd q

-- the same, be it to the end or up to where it stops
pub goes_as : {T : Type 0} (P Q : Choice → List Deed → Type 0) (a b : State) (r : Result T Stop) → ((ds : List Deed) → P a.choice ds → Q a.choice ds)
    → Happens r P a b → Happens r Q a b
goes_as P Q a b (Ok x) f p = does_as f p
goes_as P Q a b (Err s) f p = stops_as (IsPartOfDeeds P) (IsPartOfDeeds Q) a b s (λ ds h. part_as a.choice ds f h) p

pub goes_then : {T : Type 0} (P Q : Choice → List Deed → Type 0) (a b c : State) (r : Result T Stop) → ((ch : Choice) → (es : List Deed) × Q ch es)
    → Does P a b → Happens r Q b c → Happens r (Then P Q) a c
goes_then P Q a b c (Ok x) q p g = does_then p g
goes_then P Q a b c (Err s) q p g =
    stops_as (Then P (IsPartOfDeeds Q)) (IsPartOfDeeds (Then P Q)) a c s (λ ds h. part_then a.choice ds (q a.choice) h)
    (stops_then P (IsPartOfDeeds Q) a b c s p g)

-- nothing is done before it stops
pub stops_none : (P : Choice → List Deed → Type 0) {a b : State} (s : Stop) → s ≡ Memory → Does AreNone a b → Stops s (IsPartOfDeeds P) a b
stops_none P s is p = stops_any s is (does_as (λ ds none. record { is = inl none }) p)

-- all of some things are done before it stops
pub stops_all : {P : Choice → List Deed → Type 0} {a b : State} (s : Stop) → s ≡ Memory → Does P a b → Stops s (IsPartOfDeeds P) a b
stops_all {P} {a} {b} s is p = stops_any s is (does_as (part_all a.choice) p)

-- what is an error goes as it stops
pub goes_err : {T : Type 0} {Q : Stop → Type 0} (P : Choice → List Deed → Type 0) (a b : State) (r : Result T Stop) → IsErrAnd r Q
    → ((s : Stop) → Q s → Stops s (IsPartOfDeeds P) a b) → Happens r P a b
goes_err P a b (Ok x) is f = absurd is
goes_err P a b (Err s) is f = f s is

-- what stops for a reason goes so
pub goes_on : {T : Type 0} (P : Choice → List Deed → Type 0) (a b : State) (x : Stop) (r : Result T Stop) → IsErrAnd r (λ s. s ≡ x)
    → Stops x (IsPartOfDeeds P) a b → Happens r P a b
goes_on P a b x (Ok done) is h = absurd is
goes_on P a b x (Err s) is h = subst (λ (t : Stop). Stops t (IsPartOfDeeds P) a b) (sym is) h

none_then : {P : Choice → List Deed → Type 0} (c : Choice) (ds : List Deed) → Then AreNone P c ds → P c ds
none_then {P} c ds h = subst (P c) (sym (h.split ∙ ap (λ l. l ++ h.after) h.first)) h.next

-- what goes after nothing was done
pub goes_after : {T : Type 0} (P : Choice → List Deed → Type 0) (a b c : State) (r : Result T Stop) → Does AreNone a b → Happens r P b c → Happens r P a c
goes_after P a b c (Ok x) p g = does_as (none_then {P = P} a.choice) (does_then {P = AreNone} {Q = P} p g)
goes_after P a b c (Err s) p g =
    stops_as (Then AreNone (IsPartOfDeeds P)) (IsPartOfDeeds P) a c s (none_then {P = IsPartOfDeeds P} a.choice)
    (stops_then AreNone (IsPartOfDeeds P) a b c s p g)
