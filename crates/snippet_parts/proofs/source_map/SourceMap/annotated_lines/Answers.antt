use Rattle.snippet_parts.proofs.Common.{sym, subst, IfOk-weaker, places_of, IsLongestChain}
use Rattle.snippet_parts.proofs.DepthLemmas.{longest-chain}
use Rattle.snippet_parts.proofs.OnLineLemmas.{lines-ascend, first-line-among, last-line-among, seen-line-among, lines-kept, lines-entries}
use Rattle.snippet_parts.proofs.ShownLemmas.{annotations-distinct}
use Rattle.snippet_parts.proofs.PartWords.{long_places}
use Rattle.snippet_parts.proofs.source_map.SourceMap.annotated_lines.Goals as goal

pub returns : goal.returns
returns c =
    let s = c.args.self.now in
    let marks = c.args.annotations.now in
    let drawn = c.annotated_lines.result in
    let are = c.annotated_lines.ensures in
    let places = places_of (long_places s marks) in
    record {
      lines = are.lines;
      ascending = IfOk-weaker drawn _ _ (λ d lines. lines-ascend c.args.fold s marks d.1.items lines) are.lines;
      first_lines = IfOk-weaker drawn _ _ (λ d lines. first-line-among c.args.fold s marks d.1.items lines c.requires.spans) are.lines;
      last_lines = IfOk-weaker drawn _ _ (λ d lines. last-line-among c.args.fold s marks d.1.items lines c.requires.spans) are.lines;
      seen_lines = IfOk-weaker drawn _ _ (λ d lines. seen-line-among c.args.fold s marks d.1.items lines c.requires.spans) are.lines;
      keep = IfOk-weaker drawn _ _ (λ d lines. lines-kept c.args.fold s marks d.1.items lines) are.lines;
      entries = IfOk-weaker drawn _ _ (λ d lines. lines-entries c.args.fold s marks d.1.items lines c.requires.spans) are.lines;
      deepest = are.deepest;
      longest = IfOk-weaker drawn _ _ (λ d is. subst (IsLongestChain places) (sym is) (longest-chain places)) are.deepest;
      distinct = annotations-distinct s marks;
    }
