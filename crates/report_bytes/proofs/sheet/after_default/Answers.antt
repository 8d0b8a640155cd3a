use Rattle.report_bytes.proofs.DefaultSheet as sheet
use Rattle.report_bytes.proofs.sheet.after_default.Goals as goal

pub returns : goal.returns
returns c = record { default = sheet.after_default _ _ c.strip_prefix.ensures.cases }
