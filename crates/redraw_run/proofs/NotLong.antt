-- What no run does about a long log: fewer things than it has results, or more.
use Rattle.std.proofs.Common.{◌≡◌, ◌++◌, ◌+◌, ◌∙◌, ◌<◌, ◌≤◌, ℕ, suc, List, [], ◌∷◌, Option, Some, ap, arith, codes, inl, inr, length, subst, sym}
use Rattle.std.specs.Prelude.{option_and_then}
use Rattle.json_lines.proofs.Values.{values_of}
use Rattle.json_lines.specs.Cut.{without_results}
use Rattle.json_lines.specs.Lenient.{list_at, values}
use Rattle.serde_json.specs.Data.{Data, array}
use Rattle.serde_json.specs.Find.{as_array, get}
use Rattle.serde_json.specs.View.{items_of}
use Rattle.redraw_command.specs.Choice.{IsTaken}
use Rattle.redraw_command.specs.declared.choice.Choice.{Choice}
use Rattle.redraw_command.specs.declared.choice.OutputForm.TheVariants.{Report}
use Rattle.redraw_report.specs.declared.diagnostic.Diagnostic.{Diagnostic}
use Rattle.redraw_run.specs.Deeds.{Deed, Drawn, Told}
use Rattle.redraw_run.specs.Fates.{Each, IsCutLog, IsFound, IsLongRun, IsResult, IsShown, IsTaking}
use Rattle.redraw_tools.specs.declared.log.LogForm.{LogForm}
use Rattle.redraw_tools.specs.declared.log.LogForm.TheVariants as forms

-- how many of some things are no messages
abbrev answers : List Deed → ℕ
answers [] = 0
answers (Told part ∷ ds) = answers ds
answers (_ ∷ ds) = suc (answers ds)

answers_both : (ds es : List Deed) → answers (ds ++ es) ≡ answers ds + answers es
answers_both [] es = omega arith
answers_both (Told part ∷ ds) es = answers_both ds es
answers_both (x ∷ ds) es = omega (arith, answers_both ds es)

-- every finding is asked for, as a report
pub record AsksForAll (c : Choice) : Type 0 where
  pub each : (d : Diagnostic) → IsTaken c d
  pub form : c.form ≡ Report

shown_answers : (d : Diagnostic) (c : Choice) (ds : List Deed) → IsShown d c ds → 0 < answers ds
shown_answers d c [] h = absurd h
shown_answers d c (Told part ∷ ds) h = shown_answers d c ds h
shown_answers d c (x ∷ ds) h = omega arith

taking_answers : (d : Diagnostic) (c : Choice) (ds : List Deed) → AsksForAll c → IsTaking d c ds → 0 < answers ds
taking_answers d c ds all (inl h) = absurd (h.0 (all.each d))
taking_answers d c ds all (inr (taken, inl h)) = omega (arith, ap answers h.1)
taking_answers d c ds all (inr (taken, inr (inl h))) = shown_answers d c ds h.1
taking_answers d c ds all (inr (taken, inr (inr (inl (form, h))))) = absurd (cc (all.form, form))
taking_answers d c ds all (inr (taken, inr (inr (inr (form, h))))) = absurd (cc (all.form, form))

found_answers : (f : LogForm) (run x : Data) (c : Choice) (ds : List Deed) → AsksForAll c → IsFound f run x c ds → 0 < answers ds
found_answers f run x c ds all (inl h) = omega (arith, ap answers h)
found_answers f run x c ds all (inr (read, is, (d, shown, h))) = taking_answers d c ds all h

-- as many things as there are results are done about them
results_answers : (f : LogForm) (run : Data) (c : Choice) (xs : List Data) (ds : List Deed) → AsksForAll c → Each (IsResult f run) xs c ds
    → length xs ≤ answers ds
results_answers f run c [] ds all h = omega arith
results_answers f run c (x ∷ xs) ds all h =
    omega (
      arith,
      ap answers h.split,
      answers_both h.before h.after,
      ap answers h.first.split,
      answers_both h.first.before h.first.after,
      found_answers f run x c h.first.after all h.first.next,
      results_answers f run c xs h.after all h.next,
    )

long_answers : (piece : List ℕ) (run : Data) (c : Choice) (ds : List Deed) → AsksForAll c → IsLongRun piece run c ds
    → length (list_at (codes "results") run) ≤ answers ds
long_answers piece run c ds all h =
    let done = results_answers forms.Sarif (without_results run) c h.next.0 h.after all h.next.3 in
    omega (arith, ap answers h.split, answers_both h.before h.after, h.next.1, done)

-- of a run with several results only the first is drawn
pub results_left_out : (piece : List ℕ) (run : Data) (c : Choice) (d : Diagnostic) (text : List ℕ) → AsksForAll c
    → 1 < length (list_at (codes "results") run) → IsLongRun piece run c (Drawn d text ∷ []) → ⊥
results_left_out piece run c d text all several h = omega (arith, several, long_answers piece run c (Drawn d text ∷ []) all h)

runs_are : (v : Data) (runs all : List Data) → get (codes "runs") v ≡ Some (array (items_of runs))
    → get (codes "runs") v ≡ Some (array (items_of all)) → all ≡ runs
runs_are v runs all is found =
    sym (values_of all) ∙ ap (λ (o : Option Data). values (option_and_then as_array o)) (sym found ∙ is) ∙ values_of runs

-- nothing is done about a log whose first run has a result
pub run_left_out : (piece : List ℕ) (v run : Data) (runs : List Data) (c : Choice) → AsksForAll c
    → get (codes "runs") v ≡ Some (array (items_of (run ∷ runs))) → 0 < length (list_at (codes "results") run) → IsCutLog piece v c [] → ⊥
run_left_out piece v run runs c all is some (found, listed, h) =
    let each : Each (IsLongRun piece) (run ∷ runs) c [] =
    subst (λ (l : List Data). Each (IsLongRun piece) l c []) (runs_are v (run ∷ runs) found is listed) h in
    let none : 0 ≡ answers (each.before ++ each.after) = ap answers each.split in
    omega (arith, some, none, answers_both each.before each.after, long_answers piece run c each.before all each.first)

-- a finding is drawn of a log without runs
pub drawn_of_no_run : (piece : List ℕ) (v : Data) (c : Choice) (d : Diagnostic) (text : List ℕ) → get (codes "runs") v ≡ Some (array (items_of []))
    → IsCutLog piece v c (Drawn d text ∷ []) → ⊥
drawn_of_no_run piece v c d text is (found, listed, h) =
    let none : ◌≡◌ {A = List Deed} (Drawn d text ∷ []) [] =
    subst (λ (l : List Data). Each (IsLongRun piece) l c (Drawn d text ∷ [])) (runs_are v [] found is listed) h in
    cc none
