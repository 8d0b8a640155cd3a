-- No group so far has a path.
use Rattle.annotate_snippets.proofs.Common.{◌≡◌, drop, filter_map, primary_path}
use Rattle.annotate_snippets.proofs.renderer.paths.report_file.Given as goal

abbrev pub invariant-loop-group : goal.invariant-loop-group
invariant-loop-group l =
    filter_map primary_path l.groups ≡ filter_map primary_path (drop l.group-index l.groups)
