use Rattle.std.proofs.Common.{◌≡◌, ◌∙◌, ◌+◌, ◌++◌, ◌∷◌, [], List, ap, arith, length, map, subst, sym, take}
use Rattle.std.specs.Prelude.{codes}
use Rattle.std.specs.List.{AllZip}
use Rattle.std.proofs.Math.Seq.{take-length}
use Rattle.serde_json.specs.Data.{Data}
use Rattle.serde_json.specs.View.{view}
use Rattle.redraw_tools.specs.Rule.{first_with, items_in}
use Rattle.redraw_tools.specs.declared.rules.RuleNumbers.{RuleNumbers}
use Rattle.redraw_tools.proofs.Indexing.{IsPartIndex, all-parts, index-push}
use Rattle.redraw_tools.proofs.Listed.{seen_more}
use Rattle.redraw_tools.proofs.rules.RunRules.new.Goals as goal

pub loop-extension-preserved : goal.loop-extension-preserved
loop-extension-preserved c =
    let vs = c.extensions_of-extension-items.result.now in
    let i = c.loop-extension.extension-index in
    let v = c.extension-item.result in
    let all = c.loop-extension.extensions.items in
    let one = c.in_ok-new.field-0 in
    subst (λ (xs : List RuleNumbers). AllZip IsPartIndex xs (map view (take (i + 1) vs))) (sym c.in_ok-push.ensures.items)
    (subst (λ (ds : List Data). AllZip IsPartIndex (all ++ one ∷ []) ds) (sym (seen_more vs i v c.loop-extension-test.true c.extension-item.is))
    (index-push all (map view (take i vs)) one (view v) c.loop-extension.invariant
    (λ id. c.in_ok-new.ensures.are id ∙ ap (first_with id) c.rules_of-in-loop-extension.ensures.value)))

pub returns : goal.returns
returns c =
    let vs = c.extensions_of-extension-items.result.now in
    let i = c.loop-extension.extension-index in
    let all : i ≡ length vs = omega (arith, c.loop-extension-test.false) in
    record {
      are = all-parts (record { driver = c.in_ok-driver.driver; extensions = c.loop-extension.extensions }) (view c.args.run.now)
          (λ id. c.in_ok-driver.ensures.are id ∙ ap (first_with id) (c.rules_of.ensures.value ∙ ap (items_in (codes "rules")) c.tool_part.ensures.value))
          (subst (λ (ds : List Data). AllZip IsPartIndex c.loop-extension.extensions.items ds)
          (ap (λ n. map view (take n vs)) all ∙ ap (map view) (take-length vs) ∙ c.extensions_of-extension-items.ensures.value)
          c.loop-extension.invariant);
    }
