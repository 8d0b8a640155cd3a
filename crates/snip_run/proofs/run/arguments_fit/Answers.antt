use Rattle.std.proofs.Common.{rules, tests, ℕ, ◌<◌, length, IsTrue, All, Bool, true, false, List, Bor, MatchBool, subst, arith}
use Rattle.std.specs.List.{AllWithin, HoldsAt}
use Rattle.std.proofs.lemmas.Bool.{false≢true}
use Rattle.std.proofs.lemmas.Iterator.{cases_from_all, YieldsList-from_slice}
use Rattle.std.proofs.lemmas.Iterator.Search.{true_from_All}
use Rattle.std.proofs.lemmas.List.{get_or-map, length-map}
use Rattle.std.proofs.lemmas.List.Elements.{All-map, All-from_all_within}
use Rattle.snip_run.specs.Arguments.{Argument, arguments_at}
use Rattle.annotate_snippets.specs.Fits.{TextFits}
use Rattle.snip_run.proofs.run.arguments_fit.Goals as goal

-- a reference leads to a text that fits, or to one that doesn't
abbrev Fits : Bor Argument → Type 0
Fits w = TextFits w.now

abbrev Exceeds : Bor Argument → Type 0
Exceeds w = Fits w → ⊥

references_fit : (ws : List (Bor Argument)) → All TextFits (arguments_at ws) → All Fits ws
references_fit ws all k d within =
    subst TextFits (get_or-map (λ (w : Bor Argument). w.now) ws k d d.now within) (all k d.now (omega (arith, length-map ws (λ (w : Bor Argument). w.now))))

arguments_fit : (ws : List (Bor Argument)) (r : Bool) → MatchBool r (AllWithin Fits ws 0 (length ws)) ((k : ℕ) × (k < length ws) × HoldsAt Exceeds ws k)
    → IsTrue r
    → All TextFits (arguments_at ws)
arguments_fit ws true all h = All-map TextFits (λ (w : Bor Argument). w.now) ws (All-from_all_within Fits ws all)
arguments_fit ws false some h = absurd (false≢true h)

pub returns : goal.returns
returns c =
    let ws = c.args.args.now in
    let told = cases_from_all _ _ _ Fits Exceeds c.all.ensures.ran (YieldsList-from_slice ws cc) (λ x q k. search (rules, tests)) (λ x q k.
    search (rules, tests)) in
    record {
      value = (
        arguments_fit ws c.all.result told,
        λ all. true_from_All Fits Exceeds c.all.result ws (λ w fits exceeds. exceeds fits) told (references_fit ws all),
      );
    }
