use Rattle.snippet_parts.proofs.Common.{common_steps, ◌+◌, ◌<◌, ◌++◌, ◌∷◌, [], ℕ, ap, sym, ◌∙◌, arith, get_or, length, map, get_or-map, map-set, LineAnnotation}
use Rattle.snippet_parts.proofs.Common.{KeptLine, seen_kept}
use Rattle.snippet_parts.proofs.KeptEntryLemmas.{entry_stands_at, stands_nowhere}
use Rattle.snippet_parts.proofs.annotated_lines.add_entry.Goals as goal

pub returns-in_default-clause-added : goal.returns-in_default-clause-added
returns-in_default-clause-added c seen parts are = grind (arith, common_steps, stands_nowhere, c.in_default.ensures.none, c.line_start.ensures.value)

pub returns-in_ok-push_entry-clause-added : goal.returns-in_ok-push_entry-clause-added
returns-in_ok-push_entry-clause-added c seen parts are =
    let at : ℕ = c.in-Some.at in
    let p : LineAnnotation = c.args.entry.now in
    let new : KeptLine = seen_kept c.push_entry.new.line in
    let there : at < length c.args.lines.now = omega (arith, c.in-Some.ensures.found, c.requires.count) in
    map-set seen_kept c.args.lines.now at c.push_entry.new.line
    ∙ entry_stands_at c.args.source.now seen parts p c.args.kept.now at (map seen_kept c.args.lines.now) new c.requires.ascending c.in-Some.ensures.found
    (ap (λ n. n + get_or c.args.kept.now at 0) (sym c.line_start.ensures.value) ∙ c.in-Some.ensures.number) are
    (c.in_ok-push_entry.ensures.added
    ∙ ap (λ (m : KeptLine). record m { parts = m.parts ++ p ∷ [] }) (sym (get_or-map seen_kept c.args.lines.now at _ new there)))
