use Rattle.snippet_splice.proofs.Common.{◌<◌, ◌+◌, ℕ, List, [], map, drop, get_or, length, ap}
use Rattle.snippet_splice.proofs.Common.{drop_more, string_bytes, TrimmedPatch, trimmed_edit_of}
use Rattle.snippet_splice.proofs.WriteLemmas.{Writes-more}
use Rattle.snippet_splice.proofs.splice.write_patches.Goals as goal

pub loop-patch-preserved : goal.loop-patch-preserved
loop-patch-preserved c =
    let source : List ℕ = c.args.source.now in
    let ps : List TrimmedPatch = c.args.patches.now in
    let i : ℕ = c.loop-patch.patch-index in
    let none : TrimmedPatch = record {
      original_span = record { start = 0; end = 0 };
      span = record { start = 0; end = 0 };
      replacement = record
          { ref_ptr = (0, 0); now = [] };
    } in
    let p : TrimmedPatch = get_or ps i none in
    let within : i < length ps = c.loop-patch-test.true in
    let left = ap (map trimmed_edit_of) (drop_more ps i none within) in
    let more = Writes-more source c.args.from (map trimmed_edit_of ps) (string_bytes c.loop-patch.text)
    c.loop-patch.ranges.items c.loop-patch.feeds c.loop-patch.end (trimmed_edit_of p) (map trimmed_edit_of (drop (i + 1) ps))
    (string_bytes c.push_copied.new.out) (string_bytes c.push_str.new.self) c.in_ok-between.between (rw left at c.loop-patch.invariant)
    c.in_ok-between.ensures.written c.in_ok-between.ensures.feeds c.in_ok-push_str.ensures.bytes (c.requires.spans i none within).to in
    rw (c.in_ok-push.ensures.items, c.line_feed_count.ensures.value) more
