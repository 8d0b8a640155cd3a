use Rattle.snippet_grid.proofs.Common.{◌∙◌, ◌++◌, ap, sym, string_bytes, List, ℕ, on_ok_weaker, encodes-chars}
use Rattle.snippet_grid.proofs.weave.weave_stretch.Goals as goal

pub returns : goal.returns
returns c = record {
  text = on_ok_weaker c.push_word.result (λ bytes. record {
    ended = string_bytes c.end_link.new.out;
    changed = string_bytes c.change_style.new.out;
    begun = string_bytes c.begin_link.new.out;
    link_continues = c.in_ok-end_link.ensures.kept;
    link_absent = c.in_ok-end_link.ensures.none;
    link_ends = c.in_ok-end_link.ensures.ended;
    style_continues = c.in_ok-change_style.ensures.kept;
    style_changes = c.in_ok-change_style.ensures.changed;
    same_link = c.in_ok-begin_link.ensures.kept;
    no_link = c.in_ok-begin_link.ensures.none;
    link_begins = c.in_ok-begin_link.ensures.begun;
    text_is = bytes ∙ ap (λ (t : List ℕ). string_bytes c.begin_link.new.out ++ t) (sym (encodes-chars c.args.word.now c.utf8.word));
  }) c.push_word.ensures.text;
}
