use Rattle.std.proofs.Common.{ap, length}
use Rattle.snippet_strokes.proofs.Common.{arith, ◌∙◌}
use Rattle.snippet_strokes.proofs.SqueezedLemmas.{middle_room}
use Rattle.snippet_strokes.proofs.squeezed.moved.Goals as goal

pub moved_column-moved-requires-clause-few : goal.moved_column-moved-requires-clause-few
moved_column-moved-requires-clause-few c =
    omega (
      arith,
      middle_room c.args.decor c.args.room c.args.entry.now c.requires.wide,
      c.end_columns-kept.ensures.value,
      c.char_count.ensures.value ∙ ap length c.placeholder.ensures.value,
      c.requires.own.near,
    )

pub moved_column-moved-requires-2-clause-few : goal.moved_column-moved-requires-2-clause-few
moved_column-moved-requires-2-clause-few c =
    omega (
      arith,
      middle_room c.args.decor c.args.room c.args.entry.now c.requires.wide,
      c.end_columns-kept.ensures.value,
      c.char_count.ensures.value ∙ ap length c.placeholder.ensures.value,
      c.requires.own.near,
    )
