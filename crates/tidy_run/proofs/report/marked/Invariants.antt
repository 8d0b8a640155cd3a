use Rattle.std.proofs.Common.{◌≡◌, map, take}
use Rattle.tidy_run.specs.Findings.{finding_of}
use Rattle.tidy_run.specs.Report.{IsOfFile, annotation_of}
use Rattle.tidy_run.proofs.report.marked.Given as goal

abbrev pub invariant-loop-edit : goal.invariant-loop-edit
invariant-loop-edit l =
    record {
      of_file : IsOfFile l.path l.source l.snippet;
      marks : l.snippet.markers.items ≡ map annotation_of (map finding_of (take l.edit-index l.edits));
    }
