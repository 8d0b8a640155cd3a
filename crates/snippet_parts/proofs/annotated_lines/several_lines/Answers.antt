use Rattle.snippet_parts.proofs.Common.{common_steps, ◌≡◌, ◌+◌, ℕ, [], eqb, length, map, refl, ap, sym, ◌∙◌, arith, filter, list_any, source_lines}
use Rattle.snippet_parts.proofs.Common.{LineAnnotation, kept_line, seen_kept, line_with, is_seen, annotations_of, LocatedSpan}
use Rattle.snippet_parts.proofs.KeptEntryLemmas.{kept-rise, lines_same, whole_again}
use Rattle.snippet_parts.proofs.KeptLemmas.{among-kept, kept-ascend}
use Rattle.snippet_parts.proofs.PartLemmas.{list_any-map}
use Rattle.snippet_parts.proofs.ShownLemmas.{same-kept}
use Rattle.snippet_parts.proofs.annotated_lines.several_lines.Goals as goal

pub bare_lines-requires : goal.bare_lines-requires
bare_lines-requires c =
    grind (arith, common_steps, c.deref.ensures.value, c.in_ok-kept.ensures.within, c.deref-2.ensures.value, c.in_ok-seen.ensures.value, kept-ascend)

pub add_entries-requires : goal.add_entries-requires
add_entries-requires c =
    grind (
      arith,
      common_steps,
      c.deref-3.ensures.value,
      c.in_ok-kept.ensures.value,
      kept-rise,
      c.deref_mut.ensures.value,
      c.in_ok-lines.ensures.value,
      c.deref.ensures.value,
    )

pub returns-clause-lines : goal.returns-clause-lines
returns-clause-lines c =
    let s = c.args.source.now in
    let marks = annotations_of c.args.located.now in
    let seen = c.deref-2.result.now in
    let n : ℕ = length (source_lines s.text) in
    let made = c.deref-4.result.now in
    let bare : map seen_kept c.deref_mut.result.now ≡ map (line_with s seen []) c.deref-3.result.now =
    ap (map seen_kept) c.deref_mut.ensures.value ∙ c.in_ok-lines.ensures.value
    ∙ ap (map (line_with s seen [])) (c.deref.ensures.value ∙ sym c.deref-3.ensures.value) in
    let whole = whole_again c.in_ok-lines.lines.items c.add_entries.new.lines c.in_ok-lines.lines.len (omega (arith, c.in_ok-lines.lines.ok.0))
    (c.in_ok-add_entries.ensures.count ∙ ap length c.deref_mut.ensures.value) in
    ap (map seen_kept) whole ∙ c.in_ok-add_entries.ensures.added seen bare
    ∙ ap (map (line_with s seen made)) c.deref-3.ensures.value
    ∙ lines_same (line_with s seen made) (kept_line s marks) n c.in_ok-kept.kept.items c.in_ok-kept.ensures.within (λ k within.
    same-kept _ _ _ _ _ _ _ _ refl refl
    (ap (λ es. filter (λ (p : LineAnnotation). eqb p.start.line (s.first + k)) (es)) c.deref-4.ensures.value
    ∙ ap (filter (λ (p : LineAnnotation). eqb p.start.line (s.first + k))) c.in_ok-greatest.ensures.value)
    (ap (list_any (λ j. eqb j k)) (c.deref-2.ensures.value ∙ c.in_ok-seen.ensures.value)
    ∙ among-kept (λ j. list_any (λ (x : LocatedSpan). is_seen s.text j x.annotation.now) c.args.located.now) n k within
    ∙ sym (list_any-map (is_seen s.text k) (λ (x : LocatedSpan). x.annotation.now) c.args.located.now)))
    ∙ ap (map (kept_line s marks)) c.in_ok-kept.ensures.value
