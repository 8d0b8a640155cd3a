use Rattle.std.proofs.Common.{ap, ◌∙◌}
use Rattle.snippet_style.specs.Stylesheet.{default_sheet}
use Rattle.report_bytes.specs.Reading.{after_sheet}
use Rattle.report_bytes.proofs.Again.{sheet_again}
use Rattle.report_bytes.proofs.sheet.StylesheetFromBytes.read.Goals as goal

pub returns-in-Some-clause-left : goal.returns-in-Some-clause-left
returns-in-Some-clause-left c = ap after_sheet c.in-Some.ensures.default ∙ sheet_again default_sheet c.in-Some.rest.now tt
