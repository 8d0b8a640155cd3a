use Rattle.std.proofs.Common.{◌≡◌, map, take}
use Rattle.tidy_run.specs.Findings.{finding_of}
use Rattle.tidy_run.specs.Report.{IsOfFile, mended_by}
use Rattle.tidy_run.proofs.report.patched.Given as goal

abbrev pub invariant-loop-edit : goal.invariant-loop-edit
invariant-loop-edit l =
    record {
      of_file : IsOfFile l.path l.source l.snippet;
      patches : map mended_by l.snippet.markers.items ≡ map finding_of (take l.edit-index l.edits);
    }
