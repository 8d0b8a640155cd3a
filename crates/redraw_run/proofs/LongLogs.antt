-- Long logs, whose results are read from their text one by one.
use Rattle.std.proofs.Common.{◌≡◌, ◌⊎◌, ◌+◌, ◌-◌, ◌<◌, ◌≤◌, ℕ, zero, suc, ◌++◌, ◌∙◌, List, [], ◌∷◌, Bool, Option, Some, ap, append_assoc, arith}
use Rattle.std.proofs.Common.{Ordering, Less, Equal, Greater, bytes_eq, codes, drop, inl, inr, length, length-append, map, nat_cmp, refl, subst, sym, take}
use Rattle.std.proofs.Common.{take-append-drop, true}
use Rattle.std.specs.Cmp.Lexicographic.{slice_cmp}
use Rattle.std.specs.Global.{Vec}
use Rattle.std.specs.List.{AllZip, slice_index_or}
use Rattle.std.specs.Ordering.{match_ordering}
use Rattle.std.specs.Prelude.{if◌then◌else◌, option_and_then}
use Rattle.std.proofs.lemmas.List.{length-map, map-id}
use Rattle.std.proofs.lemmas.Map.Lookups.{exact_bytes}
use Rattle.std.proofs.lemmas.Option.{none-some, same_Some}
use Rattle.std.proofs.lemmas.Slice.Eq.{bytes_eq-Decides}
use Rattle.json_lines.proofs.Values.{values_of}
use Rattle.json_lines.specs.Cut.{IsCutOf, IsRunKept, changed_at, items_with, members_with, with_field, with_items, without_results}
use Rattle.json_lines.specs.Lenient.{list_at, values}
use Rattle.json_lines.specs.declared.cut.CutLog.{CutLog}
use Rattle.json_lines.specs.declared.cut.Stretch.{Stretch}
use Rattle.serde_json.specs.Data.{Data, Items, Members, array, boolean, item, member, no_members, null, number, object, string}
use Rattle.serde_json.specs.Find.{as_array, get, get_member}
use Rattle.serde_json.specs.View.{items_of, view}
use Rattle.serde_json.specs.declared.value.Value.{Value}
use Rattle.redraw_command.specs.declared.choice.Choice.{Choice}
use Rattle.redraw_command.specs.declared.stop.Stop.{Stop}
use Rattle.redraw_run.specs.Deeds.{Deed, Does, IsPartOfDeeds, State, Stops}
use Rattle.redraw_run.specs.Fates.{AllStand, AreMessages, AreStanding, Each, IsCutLog, IsCutRun, IsLongRun, IsResult, StandsIn, Then}
use Rattle.redraw_tools.specs.declared.log.LogForm.TheVariants as forms
use Rattle.redraw_run.proofs.Doing.{part_as, part_then}
use Rattle.redraw_run.proofs.Fated.{each_both, each_more, each_next, each_part, each_some, messages_begin, result_some}

-- ---- values that stand in a text

both_stand : (text : List ℕ) (ds es : List Data) → AllStand text ds → AllStand text es → AllStand text (ds ++ es)
both_stand text [] es h k = k
both_stand text (d ∷ ds) es (stands, h) k = (stands, both_stand text ds es h k)

abbrev nulls : ℕ → List Data
nulls zero = []
nulls (suc n) = null ∷ nulls n

nulls_stand : (text : List ℕ) (n : ℕ) → AllStand text (nulls n)
nulls_stand text zero = tt
nulls_stand text (suc n) = (inl refl, nulls_stand text n)

nulls_long : (n : ℕ) → length (nulls n) ≡ n
nulls_long zero = refl
nulls_long (suc n) = ap suc (nulls_long n)

-- ---- results

standing_none : (text : List ℕ) (run : Data) (c : Choice) → AreStanding text 0 run c []
standing_none text run c = ([], refl, tt, refl)

pub standing_more : (text : List ℕ) (i : ℕ) (run d : Data) (c : Choice) (ds : List Deed) → StandsIn text d
    → Then (AreStanding text i run) (IsResult forms.Sarif run d) c ds → AreStanding text (i + 1) run c ds
standing_more text i run d c ds stands h = (
  h.first.0 ++ d ∷ [],
  omega (arith, length-append h.first.0 (d ∷ []), h.first.1),
  both_stand text h.first.0 (d ∷ []) h.first.2 (stands, tt),
  each_more (IsResult forms.Sarif run) d c h.first.0 ds
      record { before = h.before; after = h.after; split = h.split; first = h.first.3; next = h.next },
)

-- what becomes of more results begins with what becomes of some
standing_on : (text : List ℕ) (i n : ℕ) (run : Data) (c : Choice) (ds : List Deed) → i ≤ n → AreStanding text i run c ds
    → (es : List Deed) × AreStanding text n run c (ds ++ es)
standing_on text i n run c ds more h =
    let rest : List Data = nulls (n - i) in
    let (es, last) = each_some (IsResult forms.Sarif run) c (result_some forms.Sarif run c) rest in (
      es,
      (
        h.0 ++ rest,
        omega (arith, length-append h.0 rest, h.1, nulls_long (n - i), more),
        both_stand text h.0 rest h.2 (nulls_stand text (n - i)),
        each_both (IsResult forms.Sarif run) c h.0 rest ds es h.3 last,
      ),
    )

part_on : (text : List ℕ) (i n : ℕ) (run : Data) (c : Choice) (ds : List Deed) → i ≤ n → IsPartOfDeeds (AreStanding text i run) c ds
    → IsPartOfDeeds (AreStanding text n run) c ds
part_on text i n run c ds more h = record { is = on h.is } where
  on : (ds ≡ []) ⊎ ((rest : List Deed) × AreStanding text i run c (ds ++ rest)) → (ds ≡ []) ⊎ ((rest : List Deed) × AreStanding text n run c (ds ++ rest))
  on (inl none) = inl none
  on (inr (rest, k)) =
      let (es, all) = standing_on text i n run c (ds ++ rest) more k in
      inr (rest ++ es, subst (AreStanding text n run c) (append_assoc ds rest es) all)

pub standing_part : (text : List ℕ) (i n : ℕ) (run d : Data) (c : Choice) (ds : List Deed) → i < n → StandsIn text d
    → Then (AreStanding text i run) (IsPartOfDeeds (IsResult forms.Sarif run d)) c ds → IsPartOfDeeds (AreStanding text n run) c ds
standing_part text i n run d c ds more stands h =
    part_on text (i + 1) n run c ds (omega (arith, more))
    (part_as {P = Then (AreStanding text i run) (IsResult forms.Sarif run d)} c ds (λ es k. standing_more text i run d c es stands k)
    (part_then {P = AreStanding text i run} {Q = IsResult forms.Sarif run d} c ds (result_some forms.Sarif run c d) h))

pub standing_some : (text : List ℕ) (n : ℕ) (run : Data) (c : Choice) → (es : List Deed) × AreStanding text n run c es
standing_some text n run c = standing_on text 0 n run c [] (omega arith) (standing_none text run c)

-- ---- a run

pub cut_begins : (text : List ℕ) (run : Data) (c : Choice) (ds : List Deed) → AreMessages c ds → IsCutRun text 0 run c ds
cut_begins text run c ds h = messages_begin (AreStanding text 0 run) c ds (standing_none text run c) h

-- messages before its results are a part of what becomes of a run
pub cut_messages : (text : List ℕ) (n : ℕ) (run : Data) (c : Choice) (ds : List Deed) → AreMessages c ds → IsPartOfDeeds (IsCutRun text n run) c ds
cut_messages text n run c ds h =
    let (es, all) = standing_some text n run c in
    record { is = inr (es, record { before = ds; after = es; split = refl; first = h; next = all }) }

-- and so is what becomes of some of its results
pub cut_on : (text : List ℕ) (i n : ℕ) (run : Data) (c : Choice) (ds : List Deed) → i ≤ n → IsCutRun text i run c ds → IsPartOfDeeds (IsCutRun text n run) c ds
cut_on text i n run c ds more h =
    let (es, all) = standing_on text i n run c h.after more h.next in
    let split = ap (λ (l : List Deed). l ++ es) h.split ∙ append_assoc h.before h.after es in
    record { is = inr (es, record { before = h.before; after = h.after ++ es; split = split; first = h.first; next = all }) }

-- what is done about a run is done about one that it is
pub cut_does : {a b : State} (held text : List ℕ) (m n : ℕ) (x run : Data) → held ≡ text → m ≡ n → x ≡ run → Does (IsCutRun held m x) a b
    → Does (IsCutRun text n run) a b
cut_does {a} {b} held text m n x run same counted is h =
    subst (λ (d : Data). Does (IsCutRun text n d) a b) is
    (subst (λ (k : ℕ). Does (IsCutRun text k x) a b) counted (subst (λ (t : List ℕ). Does (IsCutRun t m x) a b) same h))

pub cut_stops : (a b : State) (s : Stop) (held text : List ℕ) (m n : ℕ) (x run : Data) → held ≡ text → m ≡ n → x ≡ run
    → Stops s (IsPartOfDeeds (IsCutRun held m x)) a b → Stops s (IsPartOfDeeds (IsCutRun text n run)) a b
cut_stops a b s held text m n x run same counted is h =
    subst (λ (d : Data). Stops s (IsPartOfDeeds (IsCutRun text n d)) a b) is
    (subst (λ (k : ℕ). Stops s (IsPartOfDeeds (IsCutRun text k x)) a b) counted
    (subst (λ (t : List ℕ). Stops s (IsPartOfDeeds (IsCutRun t m x)) a b) same h))

-- ---- runs

long_some : (text : List ℕ) (c : Choice) (run : Data) → (es : List Deed) × IsLongRun text run c es
long_some text c run =
    let (es, all) = standing_some text (length (list_at (codes "results") run)) (without_results run) c in
    (es, record { before = []; after = es; split = refl; first = tt; next = all })

-- what becomes of the runs that were gone through, and of the next
pub runs_next : (text : List ℕ) (runs : List Data) (i : ℕ) (run : Data) → i < length runs → run ≡ slice_index_or runs i run → (c : Choice)
    (ds : List Deed) → Then (Each (IsLongRun text) (take i runs)) (IsLongRun text run) c ds → Each (IsLongRun text) (take (i + 1) runs) c ds
runs_next text runs i run within is c ds h =
    let Are = IsLongRun text in
    subst (λ (l : List Data). Each Are l c ds) (map-id (take (i + 1) runs))
    (each_next Are (λ (d : Data). d) runs i run within is c ds
    (subst (λ (l : List Data). Then (Each Are l) (Are run) c ds) (sym (map-id (take i runs))) h))

-- what becomes of those, and a part of what becomes of the next, is a part of what becomes of all
pub runs_part : (text : List ℕ) (runs : List Data) (i : ℕ) (run : Data) → i < length runs → run ≡ slice_index_or runs i run → (c : Choice)
    (ds : List Deed) → Then (Each (IsLongRun text) (take i runs)) (IsPartOfDeeds (IsLongRun text run)) c ds
    → IsPartOfDeeds (Each (IsLongRun text) runs) c ds
runs_part text runs i run within is c ds h =
    let Are = IsLongRun text in
    subst (λ (l : List Data). IsPartOfDeeds (Each Are l) c ds) (map-id runs)
    (each_part Are (λ (d : Data). d) runs i run within is c (long_some text c) ds
    (subst (λ (l : List Data). Then (Each Are l) (IsPartOfDeeds (Are run)) c ds) (sym (map-id (take i runs))) h))

-- ---- what is cut of a log

changed_by : (o : Ordering) (name l : List ℕ) (change : Data → Data) (d e : Data) (ms : Members) → slice_cmp nat_cmp name l ≡ o
    → (get_member name ms ≡ Some e → get_member name (members_with name change ms) ≡ Some (change e))
    → match_ordering o (get_member name ms) (Some d) (get_member name ms) ≡ Some e
    → match_ordering o (get_member name (members_with name change ms)) (Some (changed_at name change l d))
    (get_member name (members_with name change ms)) ≡ Some (change e)
changed_by Less name l change d e ms is later h = later h
changed_by Equal name l change d e ms is later h =
    let here : bytes_eq l name ≡ true = (bytes_eq-Decides l name).1 (sym (exact_bytes name l is)) in
    ap (λ (b : Bool). Some (if b then change d else d)) here ∙ ap (λ (x : Data). Some (change x)) (same_Some d e h)
changed_by Greater name l change d e ms is later h = later h

member_changed : (name : List ℕ) (change : Data → Data) (ms : Members) (e : Data) → get_member name ms ≡ Some e
    → get_member name (members_with name change ms) ≡ Some (change e)
member_changed name change no_members e h = absurd (none-some e h)
member_changed name change (member l d ms) e h =
    changed_by (slice_cmp nat_cmp name l) name l change d e ms refl (member_changed name change ms e) h

-- a field that is changed is what it is changed to
field_changed : (name : List ℕ) (change : Data → Data) (d e : Data) → get name d ≡ Some e → get name (with_field name change d) ≡ Some (change e)
field_changed name change null e h = absurd (none-some e h)
field_changed name change (boolean b) e h = absurd (none-some e h)
field_changed name change (number n) e h = absurd (none-some e h)
field_changed name change (string s) e h = absurd (none-some e h)
field_changed name change (array ds) e h = absurd (none-some e h)
field_changed name change (object ms) e h = member_changed name change ms e h

items_changed : (change : Data → Data) (ds : List Data) → items_with change (items_of ds) ≡ items_of (map change ds)
items_changed change [] = refl
items_changed change (d ∷ ds) = ap (item (change d)) (items_changed change ds)

-- the runs that are kept of a log are its runs without their results
pub runs_cut : (d : Data) (log : CutLog) (is : IsCutOf d log) (vs : List Value)
    → map view vs ≡ values (option_and_then as_array (get (codes "runs") (view log.value))) → map view vs ≡ map without_results is.runs
runs_cut d log is vs listed =
    let here : get (codes "runs") (view log.value) ≡ Some (array (items_with without_results (items_of is.runs))) =
    ap (get (codes "runs")) is.value ∙ field_changed (codes "runs") (with_items without_results) d (array (items_of is.runs)) is.listed in
    listed ∙ ap (λ (o : Option Data). values (option_and_then as_array o)) here
    ∙ ap (λ (l : Items). values (Some l)) (items_changed without_results is.runs) ∙ values_of (map without_results is.runs)

pub as_many_runs : (vs : List Value) (runs : List Data) → map view vs ≡ map without_results runs → length vs ≡ length runs
as_many_runs vs runs same = sym (length-map vs view) ∙ ap length same ∙ length-map runs without_results

-- a run with a number, of which a value without its results is kept, and as many stretches as it has results
pub record IsRunAt (runs : List Data) (kept : List (Vec Stretch)) (i : ℕ) (value : Data) : Type 0 where
  pub run : Data
  pub within : i < length runs
  pub is : run ≡ slice_index_or runs i run
  pub value_is : value ≡ without_results run
  pub own : Vec Stretch
  pub there : i < length kept
  pub each : length (slice_index_or kept i own).items ≡ length (list_at (codes "results") run)

-- the run with the number of one that is kept
pub run_at : (vs : List Value) (runs : List Data) (kept : List (Vec Stretch)) (i : ℕ) (v : Value) → map view vs ≡ map without_results runs
    → AllZip IsRunKept runs kept → i < length vs → v ≡ slice_index_or vs i v → IsRunAt runs kept i (view v)
run_at [] runs kept i v same all within is = absurd (omega (arith, within))
run_at (w ∷ vs) [] kept i v same all within is = cc same
run_at (w ∷ vs) (r ∷ runs) [] i v same all within is = absurd all
run_at (w ∷ vs) (r ∷ runs) (k ∷ kept) zero v same all within is =
    record {
      run = r;
      within = omega arith;
      is = refl;
      value_is = ap view is ∙ ap (λ (l : List Data). slice_index_or l 0 null) same;
      own = k;
      there = omega arith;
      each = all.0.each;
    }
run_at (w ∷ vs) (r ∷ runs) (k ∷ kept) (suc i) v same all within is =
    let at = run_at vs runs kept i v (ap (λ (l : List Data). drop 1 l) same) all.1 (omega (arith, within)) is in
    record {
      run = at.run;
      within = omega (arith, at.within);
      is = at.is;
      value_is = at.value_is;
      own = at.own;
      there = omega (arith, at.there);
      each = at.each;
    }

-- ---- the text

-- what stands in the rest of a text stands in the text
stands_after : (front text : List ℕ) (d : Data) → StandsIn text d → StandsIn (front ++ text) d
stands_after front text d (inl none) = inl none
stands_after front text d (inr (before, part, after, split, reads)) =
    let rest : List ℕ = part ++ after in
    let all : front ++ text ≡ (front ++ before) ++ part ++ after =
    ap (λ (l : List ℕ). front ++ l) (split ∙ append_assoc before part after) ∙ sym (append_assoc front before rest)
    ∙ sym (append_assoc (front ++ before) part after) in
    inr (front ++ before, part, after, all, reads)

all_after : (front text : List ℕ) (ds : List Data) → AllStand text ds → AllStand (front ++ text) ds
all_after front text [] h = tt
all_after front text (d ∷ ds) (stands, h) = (stands_after front text d stands, all_after front text ds h)

run_after : (front text : List ℕ) (run : Data) (c : Choice) (ds : List Deed) → IsLongRun text run c ds → IsLongRun (front ++ text) run c ds
run_after front text run c ds h =
    record {
      before = h.before;
      after = h.after;
      split = h.split;
      first = h.first;
      next = (h.next.0, h.next.1, all_after front text h.next.0 h.next.2, h.next.3);
    }

runs_after : (front text : List ℕ) (c : Choice) (runs : List Data) (ds : List Deed) → Each (IsLongRun text) runs c ds
    → Each (IsLongRun (front ++ text)) runs c ds
runs_after front text c [] ds h = h
runs_after front text c (run ∷ runs) ds h =
    record {
      before = h.before;
      after = h.after;
      split = h.split;
      first = run_after front text run c h.before h.first;
      next = runs_after front text c runs h.after h.next;
    }

pub cut_after : (n : ℕ) (piece : List ℕ) (d : Data) (c : Choice) (ds : List Deed) → IsCutLog (drop n piece) d c ds → IsCutLog piece d c ds
cut_after n piece d c ds (runs, listed, h) = (
  runs,
  listed,
  subst (λ (text : List ℕ). Each (IsLongRun text) runs c ds) (take-append-drop n piece) (runs_after (take n piece) (drop n piece) c runs ds h),
)
