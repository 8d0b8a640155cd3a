use Rattle.json_lines.proofs.Kept.{text-cut, text-kept, text-read}
use Rattle.json_lines.proofs.cut.cut_log.Goals as goal

pub returns-in-None-clause-reads : goal.returns-in-None-clause-reads
returns-in-None-clause-reads c =
    let found = c.in_ok-found.ensures.takes in
    let log = c.with_results.ensures.log in
    text-read _ _ (text-cut _ _ _ _ _ _ c.in_ok-reader.ensures.ok c.in-None.ensures.value.0 found log c.with_results.ensures.results)

pub returns-in-None-clause-cut : goal.returns-in-None-clause-cut
returns-in-None-clause-cut c =
    let found = c.in_ok-found.ensures.takes in
    let log = c.with_results.ensures.log in
    text-kept _ _ (text-cut _ _ _ _ _ _ c.in_ok-reader.ensures.ok c.in-None.ensures.value.0 found log c.with_results.ensures.results)
