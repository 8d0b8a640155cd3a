use Rattle.snippet_shown.proofs.Common.{◌≡◌, ◌++◌, ℕ, List, drop, true, cow_str_bytes, spans_around, kept_lines}
use Rattle.snippet_shown.proofs.context.spans.spans_of.Given as goal

-- the spans around the lines so far, and after them those around the others, are those around all
abbrev pub invariant-loop-i : goal.invariant-loop-i
invariant-loop-i l =
    let source : List ℕ = cow_str_bytes l.snippet.source.text in
    let ks : List ℕ = kept_lines true source l.snippet.markers.items in
    l.spans.items ++ spans_around l.before l.after source l.last (drop l.i ks) ≡ spans_around l.before l.after source 0 ks
