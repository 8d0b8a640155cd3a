use Rattle.std.proofs.Common.{refl, string_bytes}
use Rattle.std.specs.Option.{option_copied}
use Rattle.snip_run.specs.Report.{ShowsCommand}
use Rattle.snip_run.proofs.Ending.{no_text, of_text, refused_file, some_text}
use Rattle.snip_run.proofs.Fitting.{title_fits, label_fits}
use Rattle.snip_run.proofs.run.report_text.Goals as goal

pub rendered-requires-clause-title : goal.rendered-requires-clause-title
rendered-requires-clause-title c =
    title_fits _ c.requires.command.0 c.args.command.now c.requires.command.1 c.requires.command.2 (c.if-not-arguments_fit.ensures.value.0 refl)

pub rendered-requires-clause-label : goal.rendered-requires-clause-label
rendered-requires-clause-label c =
    label_fits _ c.requires.command.0 c.args.command.now c.requires.command.1 c.requires.command.2 (c.if-not-arguments_fit.ensures.value.0 refl)

pub returns-in_default-clause-fails : goal.returns-in_default-clause-fails
returns-in_default-clause-fails c =
    λ readable. no_text (option_copied c.args.file) _ c.source_of.ensures.value c.in_default.is readable.text

pub returns-in-Ok-clause-shows : goal.returns-in-Ok-clause-shows
returns-in-Ok-clause-shows c =
    record {
      readable = record {
        text = some_text (option_copied c.args.file) c.in-Some.source c.in-Some.ensures.value;
        arguments_fit = c.if-not-arguments_fit.ensures.value.0 refl;
      };
      shows = of_text (λ source. ShowsCommand c.args.command.now source (string_bytes c.in-Ok.text))
          (option_copied c.args.file) c.in-Some.source c.in-Some.ensures.value c.in-Ok.ensures.shows;
    }

pub returns-in-Err-clause-fails : goal.returns-in-Err-clause-fails
returns-in-Err-clause-fails c =
    refused_file _ (option_copied c.args.file) c.args.command.now c.in-Some.source c.in-Err.refusal
    record {
      text = some_text (option_copied c.args.file) c.in-Some.source c.in-Some.ensures.value;
      arguments_fit = c.if-not-arguments_fit.ensures.value.0 refl;
    } c.in-Some.ensures.value c.in-Err.ensures.refused
