-- What is counted of what is drawn, and the status that a run ends with.
use Rattle.std.specs.Prelude.{ℕ, ◌+◌, ◌-◌, ◌^◌, Bool, true, false, ◌||◌, ◌&&◌, ◌==◌, if◌then◌else◌, min, nat_lt}
use Rattle.redraw_command.specs.declared.choice.OutputForm.{OutputForm}
use Rattle.redraw_command.specs.declared.choice.OutputForm.TheVariants.{Report, Workflow, Verify}
use Rattle.redraw_report.specs.declared.diagnostic.Severity.{Severity}
use Rattle.redraw_report.specs.declared.diagnostic.Severity.TheVariants.{Error, Warning, Info, Note, Help, Plain}
use Rattle.redraw_command.specs.declared.tally.Tally.{Tally}

-- one more, as far as it can be counted
abbrev pub one_more : ℕ → ℕ
one_more n = min (n + 1) (2 ^ 64 - 1)

-- the tally with a finding of a severity more: each level has its own count, and a text without a level none
abbrev pub counted : Tally → Severity → Tally
counted t Error = record t { errors = one_more t.errors }
counted t Warning = record t { warnings = one_more t.warnings }
counted t Info = record t { notes = one_more t.notes }
counted t Note = record t { notes = one_more t.notes }
counted t Help = record t { notes = one_more t.notes }
counted t Plain = t

-- whether a severity is that of an error
abbrev pub is_error : Severity → Bool
is_error Error = true
is_error Warning = false
is_error Info = false
is_error Note = false
is_error Help = false
is_error Plain = false

-- the tally that also says that an error was drawn, if one of this severity is that
abbrev pub marked : Tally → Severity → Tally
marked t severity = record t { has_error = t.has_error || is_error severity }

-- the tally with what is drawn: a finding counts, and one that only sums up others doesn't
abbrev pub tallied : Tally → Severity → Bool → Tally
tallied t severity is_sum = if is_sum then marked t severity else counted (marked t severity) severity

-- nothing was drawn or counted yet
abbrev pub no_tally : Tally
no_tally =
    record {
      errors = 0;
      warnings = 0;
      notes = 0;
      duplicates = 0;
      files = 0;
      wrong = 0;
      compared = 0;
      differing = 0;
      has_error = false;
      has_failed = false;
    }

-- whether nothing was drawn that counts
abbrev pub has_none : Tally → Bool
has_none t = t.errors == 0 && (t.warnings == 0 && t.notes == 0)

-- whether there is nothing to sum up: nothing was drawn that counts, nothing that was drawn before, nothing left out and nothing compared
abbrev pub is_empty : Tally → Bool
is_empty t = has_none t && (t.duplicates == 0 && (t.wrong == 0 && t.compared == 0))

-- the tally with a finding whose report was compared with the text that rustc has of it, and is that text or isn't
abbrev pub with_compared : Tally → Bool → Tally
with_compared t is_same =
    record t { compared = one_more t.compared; differing = if is_same then t.differing else one_more t.differing }

-- whether a run in this form found what it is to tell of: an error that was drawn, or a build that failed; where reports are compared, one
-- that differs
abbrev pub has_found : OutputForm → Tally → Bool
has_found Report t = t.has_error || t.has_failed
has_found Workflow t = t.has_error || t.has_failed
has_found Verify t = nat_lt 0 t.differing

-- the status of a run: 2 where not all of its inputs could be read and are of a form that is known, else 1 where it found what it is to tell
-- of, else 0
abbrev pub tally_status : OutputForm → Tally → Bool → ℕ
tally_status form t is_whole = if is_whole then (if has_found form t then 1 else 0) else 2
