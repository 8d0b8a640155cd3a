use Rattle.std.proofs.Common.{subst}
use Rattle.std.proofs.lemmas.Grind.{common_steps}
use Rattle.snippet_strokes.proofs.Common.{◌≡◌, ArePlaced, arith, IfOk-weaker, LineAnnotation, List, map, shifted, squeezed}
use Rattle.snippet_strokes.proofs.SqueezedLemmas.{shifted_none}
use Rattle.snippet_strokes.proofs.strokes.placed_line.Goals.{then-is_some, else-is_some}
use Rattle.snippet_strokes.proofs.strokes.placed_line.Goals as goal

-- the entries that are placed are those of the line without its middles
entries : (c : goal.Joined-squeezed) → map (shifted c.if-is_some.dropped) c.unwrap_or-line.result.now
    ≡ (squeezed c.args.layout c.args.place.room (map (shifted c.args.place.dropped) c.args.entries.now)).0
entries c =
    elim c.if-is_some.branch [
      | then-is_some w ↦
          grind (
            arith,
            common_steps,
            shifted_none,
            c.as_deref.ensures.cases,
            c.unwrap_or-line.ensures,
            c.in_ok-squeezed.ensures.value,
            w.dropped-is,
            w.if-is_some.true,
            w.if-is_some.ensures,
          )
      | else-is_some w ↦
          grind (
            arith,
            common_steps,
            shifted_none,
            c.as_deref.ensures.cases,
            c.unwrap_or-line.ensures,
            c.in_ok-squeezed.ensures.value,
            w.dropped-is,
            w.if-is_some.false,
            w.if-is_some.ensures,
          )
    ]

pub returns-clause-placed : goal.returns-clause-placed
returns-clause-placed c =
    IfOk-weaker c.placed_entries.result _ _
    (λ placed is. subst (λ (xs : List LineAnnotation). ArePlaced c.args.layout xs placed.items) (entries c) is) c.placed_entries.ensures.placed
