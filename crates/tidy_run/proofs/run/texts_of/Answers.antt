use Rattle.std.proofs.Common.{◌≡◌, ℕ, List, true, false, map, refl, string_bytes}
use Rattle.std.specs.List.{flat_map}
use Rattle.std.specs.Option.{option_copied}
use Rattle.tidy_run.specs.Findings.{findings_of}
use Rattle.tidy_run.specs.Report.{Told, told_of}
use Rattle.tidy_run.specs.Run.{AreTextsOf, sheets_for}
use Rattle.tidy_run.specs.Arguments.{said}
use Rattle.tidy_run.proofs.Ending.{reads_file, reads_none}
use Rattle.tidy_run.proofs.FileLemmas.{for-file}
use Rattle.tidy_run.proofs.run.texts_of.Goals as goal

pub returns-in_default-clause-fails : goal.returns-in_default-clause-fails
returns-in_default-clause-fails g c =
    (refl, reads_none (said c.args.command.now) (option_copied c.args.file) _ c.in_default.ensures.value)

pub returns-then-not-text_fits-clause-fails : goal.returns-then-not-text_fits-clause-fails
returns-then-not-text_fits-clause-fails g c =
    (refl, λ source reads. let never : false ≡ true = c.if-not-text_fits.ensures.fits.1 reads.name_fits in cc)

pub returns-in-Ok-clause-read : goal.returns-in-Ok-clause-read
returns-in-Ok-clause-read g c =
    λ ok. reads_file (said c.args.command.now) (option_copied c.args.file) c.in-Some.source.now _ c.in-Some.ensures.value (λ none.
    cc) (c.if-not-text_fits.ensures.fits.0 refl)

pub returns-in-Ok-clause-shows : goal.returns-in-Ok-clause-shows
returns-in-Ok-clause-shows g c =
    let told : List ℕ → List Told = λ s. flat_map (λ rule. let dyn = goal.Rule-dyn g (rule.vtable, rule.value) in told_of (dyn.title_of rule.value)
    (findings_of (dyn.finds rule.value s) s)) c.args.rules.now in
    let Are : List ℕ → Type 0 = λ s. AreTextsOf c.args.command.now.file.now s (told s) (sheets_for (said c.args.command.now).log)
    (map string_bytes c.in-Ok.texts.items) in
    for-file (option_copied c.args.file) c.in-Some.source.now Are _ c.in-Some.ensures.value c.in-Ok.ensures.shows
