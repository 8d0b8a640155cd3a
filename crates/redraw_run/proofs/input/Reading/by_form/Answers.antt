use Rattle.serde_json.specs.View.{view}
use Rattle.redraw_run.specs.Fates.{IsCutLog, IsFateOfPiece, IsFindingOrText, IsHandedOn, IsList, IsValue}
use Rattle.redraw_run.proofs.Doing.{does_as, goes_as}
use Rattle.redraw_run.proofs.Lined.{finding_becomes, hands_begun, hands_blank, hands_other, list_becomes, value_becomes, wrong_becomes}
use Rattle.redraw_run.proofs.Pieced.{log_becomes}
use Rattle.redraw_run.proofs.input.Reading.by_form.Goals as goal

pub returns-in-Object : goal.returns-in-Object
returns-in-Object g c =
    let bytes = c.args.bytes.now in
    record {
      does = λ of. goes_as (IsValue bytes (view c.in-Object.value)) (IsFateOfPiece bytes) _ _ c.value.result
          (value_becomes bytes c.args.form c.in-Object.value c.in-Object.is of _) c.value.ensures.does;
    }

pub returns-in-Log : goal.returns-in-Log
returns-in-Log g c =
    let bytes = c.args.bytes.now in
    record {
      does = λ of.
          let (d, cut, becomes) = log_becomes bytes c.args.form c.in-Log.log c.in-Log.is of in
          goes_as (IsCutLog bytes d) (IsFateOfPiece bytes) _ _ c.log.result (becomes _) (c.log.ensures.does d cut);
    }

pub returns-in-Undecoded : goal.returns-in-Undecoded
returns-in-Undecoded g c =
    record { does = λ of. does_as (wrong_becomes c.args.bytes.now c.args.form c.in-Undecoded.is of _) (c.wrong.ensures.does _) }

pub returns-in-Blank : goal.returns-in-Blank
returns-in-Blank g c =
    let bytes = c.args.bytes.now in
    record {
      does = λ of. goes_as (IsHandedOn bytes) (IsFateOfPiece bytes) _ _ c.hand_on.result (hands_blank bytes c.args.form c.in-Blank.is of _)
          (c.hand_on.ensures.does _);
    }

pub returns-in-List : goal.returns-in-List
returns-in-List g c =
    let bytes = c.args.bytes.now in
    record {
      does = λ of. goes_as (IsList bytes (view c.in-List.value)) (IsFateOfPiece bytes) _ _ c.list.result
          (list_becomes bytes c.args.form c.in-List.value c.in-List.is of _) c.list.ensures.does;
    }

pub returns-in-Begins : goal.returns-in-Begins
returns-in-Begins g c =
    let bytes = c.args.bytes.now in
    record {
      does = λ of. goes_as (IsHandedOn bytes) (IsFateOfPiece bytes) _ _ c.other.result (hands_begun bytes c.args.form c.in-Begins.is of _)
          (c.other.ensures.does _);
    }

pub returns-in-Other : goal.returns-in-Other
returns-in-Other g c =
    let bytes = c.args.bytes.now in
    record {
      does = λ of. goes_as (IsHandedOn bytes) (IsFateOfPiece bytes) _ _ c.other-in-Other.result (hands_other bytes c.args.form c.in-Other.is of _)
          (c.other-in-Other.ensures.does _);
    }

pub returns-in-Finding : goal.returns-in-Finding
returns-in-Finding g c =
    let bytes = c.args.bytes.now in
    record {
      does = λ of. goes_as (IsFindingOrText bytes) (IsFateOfPiece bytes) _ _ c.draw_lines.result
          (finding_becomes bytes c.args.form c.in-Finding.is of _) c.draw_lines.ensures.does;
    }
