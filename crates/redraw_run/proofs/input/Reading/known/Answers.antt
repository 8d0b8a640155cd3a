use Rattle.std.proofs.Common.{refl}
use Rattle.serde_json.specs.View.{view}
use Rattle.redraw_run.specs.Fates.{IsKnown}
use Rattle.redraw_run.specs.declared.kind.Kind.TheVariants as kind
use Rattle.redraw_run.proofs.Doing.{does_as, goes_as}
use Rattle.redraw_run.proofs.Done.{does_failed, does_same}
use Rattle.redraw_run.proofs.Fated.{as_known}
use Rattle.redraw_run.proofs.input.Reading.known.Goals as goal

pub returns-in-Rustc : goal.returns-in-Rustc
returns-in-Rustc g c =
    let value = view c.args.value.now in
    let known = as_known c.args.kind kind.Rustc value c.in-Rustc.is c.args.drawing.now.choice in
    record { does = goes_as (IsKnown kind.Rustc value) (IsKnown c.args.kind value) _ _ c.rustc_diagnostic.result known c.rustc_diagnostic.ensures.does }

pub returns-in-Cargo : goal.returns-in-Cargo
returns-in-Cargo g c =
    let value = view c.args.value.now in
    let known = as_known c.args.kind kind.Cargo value c.in-Cargo.is c.args.drawing.now.choice in
    record { does = goes_as (IsKnown kind.Cargo value) (IsKnown c.args.kind value) _ _ c.cargo_message.result known c.cargo_message.ensures.does }

pub returns-in-Failed : goal.returns-in-Failed
returns-in-Failed g c = record { does = does_as (as_known c.args.kind kind.Failed _ c.in-Failed.is _) (does_failed refl refl refl refl refl) }

pub returns-in-Other : goal.returns-in-Other
returns-in-Other g c = record { does = does_as (as_known c.args.kind kind.Other _ c.in-Other.is _) (does_same refl refl refl refl refl) }

pub returns-in-Sarif : goal.returns-in-Sarif
returns-in-Sarif g c =
    let value = view c.args.value.now in
    let known = as_known c.args.kind kind.Sarif value c.in-Sarif.is c.args.drawing.now.choice in
    record { does = goes_as (IsKnown kind.Sarif value) (IsKnown c.args.kind value) _ _ c.sarif_log.result known c.sarif_log.ensures.does }

pub returns-in-Lsp : goal.returns-in-Lsp
returns-in-Lsp g c =
    let value = view c.args.value.now in
    let known = as_known c.args.kind kind.Lsp value c.in-Lsp.is c.args.drawing.now.choice in
    record { does = goes_as (IsKnown kind.Lsp value) (IsKnown c.args.kind value) _ _ c.lsp_document.result known c.lsp_document.ensures.does }

pub returns-in-LspNotification : goal.returns-in-LspNotification
returns-in-LspNotification g c =
    let value = view c.args.value.now in
    let known = as_known c.args.kind kind.LspNotification value c.in-LspNotification.is c.args.drawing.now.choice in
    let finds = c.lsp_notification.result in
    record { does = goes_as (IsKnown kind.LspNotification value) (IsKnown c.args.kind value) _ _ finds known c.lsp_notification.ensures.does }
