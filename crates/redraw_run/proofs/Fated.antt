-- What becomes of parts becomes of the whole.
use Rattle.std.proofs.Common.{◌≡◌, ◌⊎◌, ◌+◌, ◌<◌, ℕ, suc, ◌++◌, ◌∙◌, List, [], ◌∷◌, None, Option, Some, ap, append_assoc, append-nil, arith, codes, drop}
use Rattle.std.proofs.Common.{false, get_or, inl, inr, length, map, refl, subst, sym, take, take-append-drop, true}
use Rattle.std.specs.Prelude.{Result, Ok, Err, IfOk}
use Rattle.std.specs.List.{slice_index_or}
use Rattle.std.specs.Prelude.{is_some, option_and_then, option_map}
use Rattle.std.proofs.Math.Seq.{take-suc}
use Rattle.std.proofs.lemmas.List.{map-append}
use Rattle.json_lines.specs.Field.{given, given_or, read_or}
use Rattle.json_lines.specs.Lenient.{list_at, values}
use Rattle.json_lines.proofs.Values.{values_of}
use Rattle.serde_json.specs.Find.{as_array}
use Rattle.serde_json.specs.View.{items_view, view}
use Rattle.serde_json.specs.declared.value.Value.{Value}
use Rattle.json_lines.specs.declared.fault.Fault.{Fault}
use Rattle.serde_json.specs.Data.{Data, no_items}
use Rattle.redraw_command.specs.declared.choice.Choice.{Choice}
use Rattle.redraw_command.specs.declared.stop.Stop.{Stop}
use Rattle.redraw_report.specs.declared.diagnostic.Diagnostic.{Diagnostic}
use Rattle.redraw_run.specs.Deeds.{Does, Happens, State, Stops, Deed, Drawn, Commanded, Compared, HandedOn, Told, Refused, LeftOut, Repeated}
use Rattle.redraw_run.specs.Deeds.{BuildFailed, IsPartOfDeeds}
use Rattle.redraw_run.specs.Fates.{AreMessages, AreNone, Each, IsChosen, IsDiagnosed, IsFound, IsKnown, IsRepeated}
use Rattle.redraw_run.specs.Fates.{IsReportedAs, IsResult, IsLogRun, IsShown, IsWrong, Then}
use Rattle.redraw_run.specs.Logged.{AreFiles, HasMessages, IsFindingOf, results_of}
use Rattle.redraw_run.specs.declared.kind.Kind.{Kind}
use Rattle.redraw_report.specs.declared.diagnostic.Unit.{Unit}
use Rattle.redraw_tools.specs.Eslint as eslint
use Rattle.redraw_tools.specs.Found.{found_view}
use Rattle.redraw_tools.specs.Log.{IsReportedBy, IsRunOf, results_in}
use Rattle.redraw_tools.specs.Lsp as lsp
use Rattle.redraw_tools.specs.Result.{IsResultOf}
use Rattle.redraw_tools.specs.declared.log.LogForm.{LogForm}
use Rattle.redraw_tools.specs.declared.log.LogForm.TheVariants as forms
use Rattle.redraw_tools.specs.declared.log.LogRun.{LogRun}
use Rattle.redraw_tools.specs.declared.log.LogRun.TheVariants.{Sarif, Eslint, Lsp}
use Rattle.redraw_run.proofs.Doing.{part_as, part_then}

-- one after the other, of three
pub then_assoc : {P Q R : Choice → List Deed → Type 0} (c : Choice) (ds : List Deed) → Then (Then P Q) R c ds → Then P (Then Q R) c ds
then_assoc {P} {Q} {R} c ds h =
    record {
      before = h.first.before;
      after = h.first.after ++ h.after;
      split = h.split ∙ ap (λ l. l ++ h.after) h.first.split ∙ append_assoc h.first.before h.first.after h.after;
      first = h.first.first;
      next = record { before = h.first.after; after = h.after; split = refl; first = h.first.next; next = h.next };
    }

-- the same by wider kinds
pub then_as : {P Q R S : Choice → List Deed → Type 0} (c : Choice) (ds : List Deed) → ((ds : List Deed) → P c ds → R c ds)
    → ((ds : List Deed) → Q c ds → S c ds) → Then P Q c ds → Then R S c ds
then_as c ds f g h = record { before = h.before; after = h.after; split = h.split; first = f h.before h.first; next = g h.after h.next }

-- something, and then nothing
pub then_end : {P : Choice → List Deed → Type 0} (c : Choice) (ds : List Deed) → P c ds → Then P AreNone c ds
then_end c ds p = record { before = ds; after = []; split = sym (append-nil ds); first = p; next = refl }

-- what is done about some things, and then about one more
pub each_more : {X : Type 0} (Are : X → Choice → List Deed → Type 0) (x : X) (c : Choice) (xs : List X) (ds : List Deed) → Then (Each Are xs) (Are x) c ds
    → Each Are (xs ++ x ∷ []) c ds
each_more Are x c [] ds h =
    then_end {P = Are x} c ds (subst (Are x c) (sym (h.split ∙ ap (λ l. l ++ h.after) h.first)) h.next)
each_more Are x c (y ∷ ys) ds h =
    record {
      before = h.first.before;
      after = h.first.after ++ h.after;
      split = h.split ∙ ap (λ l. l ++ h.after) h.first.split ∙ append_assoc h.first.before h.first.after h.after;
      first = h.first.first;
      next = each_more Are x c ys (h.first.after ++ h.after)
          record { before = h.first.after; after = h.after; split = refl; first = h.first.next; next = h.next };
    }

-- a finding is shown after messages
shown_after : (d : Diagnostic) (c : Choice) (ds es : List Deed) → AreMessages c ds → IsShown d c es → IsShown d c (ds ++ es)
shown_after d c [] es m h = h
shown_after d c (Told part ∷ ds) es m h = shown_after d c ds es m h
shown_after d c (Drawn f t ∷ ds) es m h = absurd m
shown_after d c (Commanded f l ∷ ds) es m h = absurd m
shown_after d c (Compared f s l ∷ ds) es m h = absurd m
shown_after d c (HandedOn l ∷ ds) es m h = absurd m
shown_after d c (Refused f w ∷ ds) es m h = absurd m
shown_after d c (LeftOut ∷ ds) es m h = absurd m
shown_after d c (Repeated ∷ ds) es m h = absurd m
shown_after d c (BuildFailed ∷ ds) es m h = absurd m

pub shown_then : (d : Diagnostic) (c : Choice) (ds : List Deed) → Then AreMessages (IsShown d) c ds → IsShown d c ds
shown_then d c ds h = subst (IsShown d c) (sym h.split) (shown_after d c h.before h.after h.first h.next)

pub shown_some : (d : Diagnostic) (c : Choice) → (es : List Deed) × IsShown d c es
shown_some d c = (Drawn d [] ∷ [], (refl, refl))

-- messages before a finding is shown are a part of that
pub shown_part : (d : Diagnostic) (c : Choice) (ds : List Deed) → AreMessages c ds → IsPartOfDeeds (IsShown d) c ds
shown_part d c ds h = record { is = inr ((shown_some d c).0, shown_after d c ds (shown_some d c).0 h (shown_some d c).1) }

-- messages, and then messages
messages_after : (c : Choice) (ds es : List Deed) → AreMessages c ds → AreMessages c es → AreMessages c (ds ++ es)
messages_after c [] es m h = h
messages_after c (Told part ∷ ds) es m h = messages_after c ds es m h
messages_after c (Drawn f t ∷ ds) es m h = absurd m
messages_after c (Commanded f l ∷ ds) es m h = absurd m
messages_after c (Compared f s l ∷ ds) es m h = absurd m
messages_after c (HandedOn l ∷ ds) es m h = absurd m
messages_after c (Refused f w ∷ ds) es m h = absurd m
messages_after c (LeftOut ∷ ds) es m h = absurd m
messages_after c (Repeated ∷ ds) es m h = absurd m
messages_after c (BuildFailed ∷ ds) es m h = absurd m

pub messages_then : (c : Choice) (ds : List Deed) → Then AreMessages AreMessages c ds → AreMessages c ds
messages_then c ds h = subst (AreMessages c) (sym h.split) (messages_after c h.before h.after h.first h.next)

-- ---- findings

pub chosen_again : (d : Diagnostic) (c : Choice) (ds : List Deed) → IsRepeated c ds → IsChosen d c ds
chosen_again d c ds h = inl h

-- what becomes of a finding of a kind becomes of it by a wider one
pub reported_as : (P Q : Diagnostic → Type 0) → ((d : Diagnostic) → P d → Q d) → (c : Choice) (ds : List Deed) → IsReportedAs P c ds → IsReportedAs Q c ds
reported_as P Q f c ds (inl h) = inl h
reported_as P Q f c ds (inr (d, is, h)) = inr (d, f d is, h)

pub diagnosed_as : (P Q : Diagnostic → Type 0) → ((d : Diagnostic) → P d → Q d) → (c : Choice) (ds : List Deed) → IsDiagnosed P c ds → IsDiagnosed Q c ds
diagnosed_as P Q f c ds (inl h) = inl h
diagnosed_as P Q f c ds (inr h) = inr (reported_as P Q f c ds h)

-- what couldn't be read is left out
pub unread_wrong : (fault : Fault) (c : Choice) (ds : List Deed) → IsReportedAs (λ (d : Diagnostic). Err fault ≡ Ok d) c ds → IsWrong c ds
unread_wrong fault c ds (inl h) = h
unread_wrong fault c ds (inr (d, is, h)) = absurd (cc is)

-- what was read is of the kind that all is that is read
pub read_is : (read : Result Diagnostic Fault) (P : Diagnostic → Type 0) → IfOk read P → (d : Diagnostic) → read ≡ Ok d → P d
read_is read P all d is = subst (λ (r : Result Diagnostic Fault). IfOk r P) is all

-- ---- some things, one after another

-- something becomes of each
pub each_some : {X : Type 0} (Are : X → Choice → List Deed → Type 0) (c : Choice) → ((x : X) → (es : List Deed) × Are x c es) → (xs : List X)
    → (es : List Deed) × Each Are xs c es
each_some Are c some [] = ([], refl)
each_some Are c some (x ∷ xs) =
    let (before, first) = some x in
    let (after, next) = each_some Are c some xs in
    (before ++ after, record { before = before; after = after; split = refl; first = first; next = next })

pub each_both : {X : Type 0} (Are : X → Choice → List Deed → Type 0) (c : Choice) (xs ys : List X) (ds es : List Deed) → Each Are xs c ds → Each Are ys c es
    → Each Are (xs ++ ys) c (ds ++ es)
each_both Are c [] ys ds es h k = subst (Each Are ys c) (sym (ap (λ (l : List Deed). l ++ es) h)) k
each_both Are c (x ∷ xs) ys ds es h k =
    record {
      before = h.before;
      after = h.after ++ es;
      split = ap (λ (l : List Deed). l ++ es) h.split ∙ append_assoc h.before h.after es;
      first = h.first;
      next = each_both Are c xs ys h.after es h.next k;
    }

-- a part of what becomes of the first of them is a part of what becomes of all
part_more : {X : Type 0} (Are : X → Choice → List Deed → Type 0) (c : Choice) → ((x : X) → (es : List Deed) × Are x c es) → (xs ys : List X)
    → (ds : List Deed) → IsPartOfDeeds (Each Are xs) c ds → IsPartOfDeeds (Each Are (xs ++ ys)) c ds
part_more Are c some xs ys ds h = record { is = part_on h.is } where
  part_on : (ds ≡ []) ⊎ ((rest : List Deed) × Each Are xs c (ds ++ rest)) → (ds ≡ []) ⊎ ((rest : List Deed) × Each Are (xs ++ ys) c (ds ++ rest))
  part_on (inl none) = inl none
  part_on (inr (rest, k)) =
      let (more, last) = each_some Are c some ys in
      inr (
        rest ++ more,
        subst (Each Are (xs ++ ys) c) (append_assoc ds rest more) (each_both Are c xs ys (ds ++ rest) more k last),
      )

taken_next : {X : Type 0} (f : X → Data) (xs : List X) (i : ℕ) (x : X) → i < length xs → x ≡ slice_index_or xs i x
    → map f (take i xs) ++ f x ∷ [] ≡ map f (take (i + 1) xs)
taken_next {X} f xs i x within is =
    let count : suc i ≡ i + 1 = omega arith in
    sym (map-append f (take i xs) (x ∷ []))
    ∙ ap (map f) (ap (λ (e : X). take i xs ++ e ∷ []) is ∙ sym (take-suc xs i x within) ∙ ap (λ n. take n xs) count)

-- what becomes of those that were gone through, and of the next
pub each_next : {X : Type 0} (Are : Data → Choice → List Deed → Type 0) (f : X → Data) (xs : List X) (i : ℕ) (x : X) → i < length xs
    → x ≡ slice_index_or xs i x → (c : Choice) (ds : List Deed) → Then (Each Are (map f (take i xs))) (Are (f x)) c ds
    → Each Are (map f (take (i + 1) xs)) c ds
each_next Are f xs i x within is c ds h =
    subst (λ (l : List Data). Each Are l c ds) (taken_next f xs i x within is) (each_more Are (f x) c (map f (take i xs)) ds h)

-- what becomes of those, and a part of what becomes of the next, is a part of what becomes of all
pub each_part : {X : Type 0} (Are : Data → Choice → List Deed → Type 0) (f : X → Data) (xs : List X) (i : ℕ) (x : X) → i < length xs
    → x ≡ slice_index_or xs i x → (c : Choice) → ((d : Data) → (es : List Deed) × Are d c es) → (ds : List Deed)
    → Then (Each Are (map f (take i xs))) (IsPartOfDeeds (Are (f x))) c ds → IsPartOfDeeds (Each Are (map f xs)) c ds
each_part Are f xs i x within is c some ds h =
    let first = map f (take i xs) in
    let all : map f (take (i + 1) xs) ++ map f (drop (i + 1) xs) ≡ map f xs =
    sym (map-append f (take (i + 1) xs) (drop (i + 1) xs)) ∙ ap (map f) (take-append-drop (i + 1) xs) in
    let next : IsPartOfDeeds (Each Are (map f (take (i + 1) xs))) c ds =
    part_as {P = Then (Each Are first) (Are (f x))} c ds (λ es k. each_next Are f xs i x within is c es k)
    (part_then {P = Each Are first} {Q = Are (f x)} c ds (some (f x)) h) in
    subst (λ (l : List Data). IsPartOfDeeds (Each Are l) c ds) all
    (part_more Are c some (map f (take (i + 1) xs)) (map f (drop (i + 1) xs)) ds next)

-- what is done about a thing is done about one that it is
pub does_of : {X : Type 0} (Are : X → Choice → List Deed → Type 0) {a b : State} (x y : X) → x ≡ y → Does (Are x) a b → Does (Are y) a b
does_of Are {a} {b} x y is h = subst (λ z. Does (Are z) a b) is h

pub stops_of : {X : Type 0} (Are : X → Choice → List Deed → Type 0) (a b : State) (s : Stop) (x y : X) → x ≡ y → Stops s (IsPartOfDeeds (Are x)) a b
    → Stops s (IsPartOfDeeds (Are y)) a b
stops_of Are a b s x y is h = subst (λ z. Stops s (IsPartOfDeeds (Are z)) a b) is h

pub happens_of : {T X : Type 0} (Are : X → Choice → List Deed → Type 0) (a b : State) (r : Result T Stop) (x y : X) → x ≡ y → Happens r (Are x) a b
    → Happens r (Are y) a b
happens_of Are a b r x y is h = subst (λ z. Happens r (Are z) a b) is h

-- what is there once it is changed
pub some_mapped : {T U : Type 0} (f : T → U) (o : Option T) → is_some (option_map f o) ≡ is_some o
some_mapped f None = refl
some_mapped f (Some x) = refl

-- the first file of ESLint's log
pub first_file : (files : List Value) (file : Value) → 0 < length files → file ≡ get_or files 0 file → HasMessages (view file) → AreFiles (map view files)
first_file [] file some is h = absurd (omega (arith, some))
first_file (x ∷ xs) file some is h = subst (λ (v : Value). HasMessages (view v)) is h

-- ---- logs

-- what a run reports of a result is what the result reports
pub is_finding : (form : LogForm) (columns : Option Unit) (d result : Data) (run : LogRun) (found : Option Diagnostic) (read : Diagnostic) → found ≡ Some read
    → IsRunOf form columns d run → IsReportedBy run result found → IsFindingOf form columns d result read
is_finding form columns d result run found read same of by =
    found_is form run of (subst (λ (o : Option Diagnostic). IsReportedBy run result o) same by) where
      found_is : (form : LogForm) (run : LogRun) → IsRunOf form columns d run → IsReportedBy run result (Some read) → IsFindingOf form columns d result read
      found_is forms.Sarif (Sarif run) of by =
          subst (λ (u : Unit). IsResultOf d u result read) of.1 (subst (λ (v : Data). IsResultOf v run.unit result read) of.0 by)
      found_is forms.Eslint (Eslint file) of by = subst (λ (v : Data). Some (found_view read) ≡ eslint.finding_in v result) of by
      found_is forms.Lsp (Lsp document) of by = subst (λ (v : Data). Some (found_view read) ≡ lsp.finding_in v result) of by
      found_is forms.Sarif (Eslint file) of by = absurd of
      found_is forms.Sarif (Lsp document) of by = absurd of
      found_is forms.Eslint (Sarif run) of by = absurd of
      found_is forms.Eslint (Lsp document) of by = absurd of
      found_is forms.Lsp (Sarif run) of by = absurd of
      found_is forms.Lsp (Eslint file) of by = absurd of

-- the results of a run
pub results_are : (form : LogForm) (columns : Option Unit) (d : Data) (run : LogRun) → IsRunOf form columns d run → results_in run ≡ results_of form d
results_are forms.Sarif columns d (Sarif run) of = ap (list_at (codes "results")) of.0
results_are forms.Eslint columns d (Eslint file) of = ap (list_at (codes "messages")) of
results_are forms.Lsp columns d (Lsp document) of = ap (list_at (codes "diagnostics")) of
results_are forms.Sarif columns d (Eslint file) of = absurd of
results_are forms.Sarif columns d (Lsp document) of = absurd of
results_are forms.Eslint columns d (Sarif run) of = absurd of
results_are forms.Eslint columns d (Lsp document) of = absurd of
results_are forms.Lsp columns d (Sarif run) of = absurd of
results_are forms.Lsp columns d (Eslint file) of = absurd of

pub found_some : (form : LogForm) (run d : Data) (c : Choice) → (es : List Deed) × IsFound form run d c es
found_some form run d c = (LeftOut ∷ [], inl refl)

-- messages are a part of what becomes of a result, and of a run
pub result_part : (form : LogForm) (run d : Data) (c : Choice) (ds : List Deed) → AreMessages c ds → IsPartOfDeeds (IsResult form run d) c ds
result_part form run d c ds h =
    record { is = inr (LeftOut ∷ [], record { before = ds; after = LeftOut ∷ []; split = refl; first = h; next = inl refl }) }

pub result_some : (form : LogForm) (run : Data) (c : Choice) (d : Data) → (es : List Deed) × IsResult form run d c es
result_some form run c d = (LeftOut ∷ [], record { before = []; after = LeftOut ∷ []; split = refl; first = tt; next = inl refl })

-- what becomes of all results of a run, if it is this of some that are these
results_some : (form : LogForm) (run : Data) (c : Choice) → (es : List Deed) × Each (IsResult form run) (results_of form run) c es
results_some form run c = each_some (IsResult form run) c (result_some form run c) (results_of form run)

pub run_some : (form : LogForm) (c : Choice) (run : Data) → (es : List Deed) × IsLogRun form run c es
run_some form c run =
    let (es, all) = results_some form run c in
    (es, record { before = []; after = es; split = refl; first = tt; next = all })

pub run_messages : (form : LogForm) (run : Data) (c : Choice) (ds : List Deed) → AreMessages c ds → IsPartOfDeeds (IsLogRun form run) c ds
run_messages form run c ds h =
    let (es, all) = results_some form run c in
    record { is = inr (es, record { before = ds; after = es; split = refl; first = h; next = all }) }

-- after messages, some things of which none was gone through, one more, a part of one more, and all of them
pub messages_begin : (Next : Choice → List Deed → Type 0) (c : Choice) (ds : List Deed) → Next c [] → AreMessages c ds → Then AreMessages Next c ds
messages_begin Next c ds none h = record { before = ds; after = []; split = sym (append-nil ds); first = h; next = none }

pub messages_more : (Old Next New : Choice → List Deed → Type 0) (c : Choice) (ds : List Deed) → ((es : List Deed) → Then Old Next c es → New c es)
    → Then (Then AreMessages Old) Next c ds → Then AreMessages New c ds
messages_more Old Next New c ds next h =
    then_as {P = AreMessages} {Q = Then Old Next} c ds (λ es m. m) next (then_assoc {P = AreMessages} {Q = Old} {R = Next} c ds h)

pub messages_part : (Old Next New : Choice → List Deed → Type 0) (c : Choice) (ds : List Deed) → ((es : List Deed) × New c es)
    → ((es : List Deed) → Then Old Next c es → IsPartOfDeeds New c es) → Then (Then AreMessages Old) Next c ds → IsPartOfDeeds (Then AreMessages New) c ds
messages_part Old Next New c ds some next h =
    part_then {P = AreMessages} {Q = New} c ds some (messages_more Old Next (IsPartOfDeeds New) c ds next h)

-- ---- values of logs

-- the runs of a log that are listed
pub runs_listed : (d : Data) (values : List Value) → given_or as_array no_items (codes "runs") d ≡ Some (items_view values)
    → list_at (codes "runs") d ≡ map view values
runs_listed d vs is = listed (given (codes "runs") d) is where
  listed : (o : Option Data) → read_or as_array no_items o ≡ Some (items_view vs) → values (option_and_then as_array o) ≡ map view vs
  listed None is = ap values is ∙ values_of (map view vs)
  listed (Some x) is = ap values is ∙ values_of (map view vs)

-- ---- values

-- what becomes of a value of this kind
pub as_known : (k j : Kind) (d : Data) → k ≡ j → (c : Choice) (ds : List Deed) → IsKnown j d c ds → IsKnown k d c ds
as_known k j d is c ds h = subst (λ (x : Kind). IsKnown x d c ds) (sym is) h

-- a test that fails doesn't hold
pub never_true : false ≡ true → ⊥
never_true h = cc h
