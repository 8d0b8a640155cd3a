-- The text holds the labels of the spans so far.
use Rattle.annotate_snippets.proofs.Common.{◌≡◌, string_bytes, take, joined_labels, primary_labels}
use Rattle.std.proofs.Common.{chars}
use Rattle.annotate_snippets.proofs.renderer.short.labels_of.Given as goal

abbrev pub invariant-loop-annotation : goal.invariant-loop-annotation
invariant-loop-annotation l =
    chars (string_bytes l.text) ≡ joined_labels (primary_labels (take l.annotation-index l.annotations))
