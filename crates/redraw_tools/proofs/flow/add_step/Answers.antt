use Rattle.std.proofs.Common.{ap}
use Rattle.std.specs.Global.{Vec}
use Rattle.std.proofs.lemmas.Result.{on_ok_weaker}
use Rattle.redraw_report.specs.declared.diagnostic.FileSpan.{FileSpan}
use Rattle.redraw_tools.proofs.GoingOn.{going-none, going-same, still-numbered}
use Rattle.redraw_tools.proofs.FixLemmas.{notes-none}
use Rattle.redraw_tools.proofs.flow.add_step.Goals as goal

pub returns-then-not-is_object : goal.returns-then-not-is_object
returns-then-not-is_object c = record { kept = going-none _; notes = notes-none _ }

pub returns-in_default : goal.returns-in_default
returns-in_default c = record { kept = going-none _; notes = notes-none _ }

pub mark_step-requires : goal.mark_step-requires
mark_step-requires c = record { label = still-numbered c.args.number c.text_of.result _ _ c.text_of.ensures.value c.in_ok-label.ensures.value }

pub returns-in-None-clause-kept : goal.returns-in-None-clause-kept
returns-in-None-clause-kept c =
    on_ok_weaker c.add_note.result (λ _. going-same _ _ (ap (λ (spans : Vec FileSpan). spans.items) c.add_note.ensures.kept)) c.add_note.ensures.notes

pub returns-in-None-clause-notes : goal.returns-in-None-clause-notes
returns-in-None-clause-notes c = c.add_note.ensures.notes

pub returns : goal.returns
returns c = record { kept = going-none _; notes = notes-none _ }
