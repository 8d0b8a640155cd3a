use Rattle.std.proofs.Common.{◌≡◌, ◌∙◌, ap, map, Some, List, ℕ, option_map, subst, sym}
use Rattle.serde_json.specs.Data.{Data}
use Rattle.serde_json.specs.Find.{as_str}
use Rattle.serde_json.specs.View.{view}
use Rattle.json_lines.specs.Field.{ListSays}
use Rattle.replay_read.specs.Report.{AreSourcesOf}
use Rattle.replay_read.proofs.Listing.{texts-said}
use Rattle.replay_read.proofs.source.sources_of.Goals as goal

pub returns-in_ok-named-in-Some : goal.returns-in_ok-named-in-Some
returns-in_ok-named-in-Some c =
    let list = view c.in-Some.sources.value.now in
    let texts = c.in_ok-texts-in-Some.texts.items in
    let here = sym c.given.ensures.value ∙ ap (option_map (λ field. view field.value.now)) c.in-Some.is in
    let named = c.in_ok-named-in-Some.ensures.value ∙ ap (map (λ text. text.now)) c.deref.ensures.value in
    let said = texts-said (λ (e : Data) (source : List ℕ). as_str e ≡ Some source) (λ text. text.now) list texts c.in_ok-texts-in-Some.ensures.value in
    record {
      value =
          subst (λ d. AreSourcesOf d c.in_ok-named-in-Some.named.items) (sym here)
          (subst (ListSays (λ (e : Data) (source : List ℕ). as_str e ≡ Some source) list) (sym named) said);
    }
