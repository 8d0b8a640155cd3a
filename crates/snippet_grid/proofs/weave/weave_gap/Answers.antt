use Rattle.snippet_grid.proofs.Common.{◌∙◌, ◌++◌, ap, sym, refl, string_bytes, List, ℕ, on_ok_weaker}
use Rattle.snippet_grid.proofs.ReplaceLemmas.{space_bytes}
use Rattle.snippet_grid.proofs.WeaveLemmas.{none≢some}
use Rattle.snippet_grid.proofs.weave.weave_gap.Goals as goal

pub returns : goal.returns
returns c = record {
  text = on_ok_weaker c.push_spaces.result (λ text. record {
    ended = string_bytes c.end_link.new.out;
    changed = string_bytes c.change_style.new.out;
    begun = string_bytes c.change_style.new.out;
    link_continues = c.in_ok-end_link.ensures.kept;
    link_absent = c.in_ok-end_link.ensures.none;
    link_ends = c.in_ok-end_link.ensures.ended;
    style_continues = c.in_ok-change_style.ensures.kept;
    style_changes = c.in_ok-change_style.ensures.changed;
    same_link = λ same. refl;
    no_link = λ none. refl;
    link_begins = λ url is differs. absurd (none≢some is);
    text_is = text ∙ ap (λ (t : List ℕ). string_bytes c.change_style.new.out ++ t) (sym (space_bytes c.args.count));
  }) c.push_spaces.ensures.text;
}
