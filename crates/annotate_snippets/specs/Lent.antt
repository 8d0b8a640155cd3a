-- A writer that is lent for one report.
use Rattle.std.specs.Prelude.{ℕ, List, Option}
use Rattle.annotate_snippets.specs.declared.renderer.report_writer.ReportWriter.{ReportWriter}

-- the bytes that it holds, where they are known; `contents` says them of such writers
abbrev pub held : {W : Type 0} → (W → Option (List ℕ)) → ReportWriter W → Option (List ℕ)
held contents out = contents out.target.now
