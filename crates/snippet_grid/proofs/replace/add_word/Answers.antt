use Rattle.snippet_grid.proofs.Common.{common_steps, ◌≡◌, ◌∙◌, ◌+◌, ap, arith, rules, length, string_bytes, ℕ, on_ok_weaker}
use Rattle.std.specs.Str.{chars}
use Rattle.snippet_grid.proofs.RunLemmas.{BeginsWith-trans, on_ok_two}
use Rattle.snippet_grid.proofs.GridShown.{chars_some}
use Rattle.snippet_grid.proofs.PutLemmas.{IsRow-grown, IsRow-added}
use Rattle.snippet_grid.proofs.ReplacedRow.{span_empty, word_span}
use Rattle.snippet_grid.proofs.ShownLemmas.{All-IsRun-grown}
use Rattle.snippet_grid.proofs.replace.add_word.Goals as goal

pub returns-then-is_empty-clause-ok : goal.returns-then-is_empty-clause-ok
returns-then-is_empty-clause-ok c =
    span_empty (string_bytes c.args.text.now) c.args.spare.now.runs.items c.args.row c.args.at c.args.word.now _ (first_of
    (omega arith, search rules, grind arith))

pub push_word-requires-clause-some : goal.push_word-requires-clause-some
push_word-requires-clause-some c = chars_some c.args.word.now c.utf8.word (first_of (omega arith, search rules, grind arith))

pub add_run-requires : goal.add_run-requires
add_run-requires c = grind (arith, common_steps, All-IsRun-grown, c.in_ok-run.ensures.text, c.requires.out.are_runs, c.in_ok-run.ensures.ok.is_run)

pub returns : goal.returns
returns c =
    let old = string_bytes c.args.text.now in
    let mid = string_bytes c.push_word.new.text in
    let new = string_bytes c.add_run.new.text in
    let runs = c.args.spare.now.runs.items in
    let now = c.add_run.new.runs.items in
    let word = c.in_ok-run.run' in
    let run = c.in_ok-run.ensures.ok in
    let grows = c.in_ok-run.ensures.text in
    let end : ℕ = c.args.at + length (chars c.args.word.now) in
    let long : word.count ≡ length (chars c.args.word.now) = run.is_run.counted ∙ ap length run.chars_are in
    record {
      text = BeginsWith-trans old mid new grows c.add_run.ensures.text;
      ok = on_ok_weaker c.add_run.result (λ shows. word_span old mid new runs now word c.args.row c.args.at c.args.role c.args.word.now grows
          c.requires.out.are_runs run shows) c.add_run.ensures.ok;
      row = on_ok_two c.add_run.result
          (λ are adds. IsRow-added mid new c.args.row c.args.at runs now word (IsRow-grown old mid c.args.row runs grows c.requires.out) c.requires.before
          (omega (arith, run.cell_is)) run.row_is are adds) c.add_run.ensures.are_runs c.add_run.ensures.adds;
      ends = on_ok_weaker c.add_run.result (λ adds. adds.ends end (λ k d within. omega (arith, c.requires.before k d within))
          (omega (arith, run.cell_is, long))) c.add_run.ensures.adds;
      count = on_ok_weaker c.add_run.result (λ adds. omega (arith, adds.count)) c.add_run.ensures.adds;
    }
