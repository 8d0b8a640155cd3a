-- What isn't written, counted or ended with: wrong results, each of a small input, contradict the words of a contract.
use Rattle.std.proofs.Common.{◌≡◌, ◌++◌, ℕ, List, [], ◌∷◌, Some, false, ap, arith, codes, encode_utf8_all, inl, inr, length, length-append}
use Rattle.std.specs.Io.KnownBytes.{Appends}
use Rattle.redraw_report.specs.declared.diagnostic.Severity.TheVariants.{Warning}
use Rattle.redraw_command.specs.Tally.{one_more, tally_status, tallied}
use Rattle.redraw_command.specs.declared.choice.OutputForm.{OutputForm}
use Rattle.output_stream.specs.Standing.{Gets, Standing}
use Rattle.program.specs.Stream.{ended_line}
use Rattle.redraw_command.specs.Told.{Tells}
use Rattle.redraw_command.specs.Workflow.{escape}
use Rattle.redraw_command.specs.declared.tally.Tally.{Tally}
use Rattle.redraw_command.specs.declared.workflow.CommandPart.TheVariants.{Property}

-- a comma that is put as it is into the value of a property, which it ends: what `add_character` adds to an empty line
pub comma_in_a_property : codes "," ≡ [] ++ encode_utf8_all (escape Property 44) → ⊥
unfolding lib.Utf8.encode
comma_in_a_property same = absurd (omega (arith, ap length same))

-- a text that stands twice: `aa` and a line feed where `print` has the text `a`, and no ending
pub text_printed_twice : Appends (Some []) (Some (97 ∷ 97 ∷ 10 ∷ [])) (codes "a" ++ ([] ++ 10 ∷ [])) → ⊥
text_printed_twice added = absurd (omega (arith, ap length added))

-- the status 0 of a run that didn't read all of its inputs
pub unread_input_is_clean : (form : OutputForm) (t : Tally) → 0 ≡ tally_status form t false → ⊥
unread_input_is_clean form t same = absurd (omega (arith, same))

-- no warning counted, where there was none before a finding that is one
pub warnings_not_counted : (t new : Tally) → t.warnings ≡ 0 → new ≡ tallied t Warning false → new.warnings ≡ 0 → ⊥
warnings_not_counted t new none counted still =
    let made : new.warnings ≡ one_more t.warnings = ap (λ (tally : Tally). tally.warnings) counted in
    absurd (omega (arith, none, still, made))

-- standard error to which no write failed, and which holds this
abbrev unfailed : List ℕ → Standing
unfailed held = record { held = Some held; has_failed = false }

-- nothing on it, where something is told
pub nothing_told : Tells (unfailed []) (unfailed []) → ⊥
nothing_told told = none_given told.line told.given
  where
    none_given : (line : List ℕ) → Gets (unfailed []) (unfailed []) (ended_line line) → ⊥
    none_given line (inl adds) = omega (arith, ap length adds.added, length-append line (10 ∷ []))
    none_given line (inr breaks) = cc
