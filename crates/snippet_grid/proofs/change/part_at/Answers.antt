use Rattle.snippet_grid.proofs.Common.{◌+◌, ◌-◌, ◌<◌, ◌≤◌, arith, get_or, inl, inr, length, string_bytes, subst, sym, List, ℕ, cases_lt}
use Rattle.snippet_grid.proofs.Common.{get_or_default, IfOk-weaker, IsPart, Run}
use Rattle.snippet_grid.proofs.ChangedRow.{part_held, part_free}
use Rattle.snippet_grid.proofs.RunLemmas.{none}
use Rattle.snippet_grid.proofs.change.part_at.Goals as goal
use Rattle.snippet_grid.proofs.change.part_at.Goals.{then-next-gt0+else-from-end, else-next-gt0}

pub returns-then-from-end-clause-ok : goal.returns-then-from-end-clause-ok
returns-then-from-end-clause-ok c =
    let n : ℕ = c.begun_by-next.result - 1 in
    let within : n < length c.args.runs.now = omega (arith, c.if-next-gt0.true, c.begun_by-next.ensures.within) in
    let low = (c.begun_by-next.ensures.begun n none (omega (arith, c.if-next-gt0.true))).cells (sym (c.requires.runs.in_row n none within)) in
    let cut = subst (λ (t : List ℕ). IsPart t (get_or c.args.runs.now n none) c.args.from c.min.result c.clipped.result) c.as_str.ensures.value
    c.clipped.ensures.part in
    part_held (string_bytes c.args.text.now) c.args.runs.now c.clipped.result none c.args.row c.args.from c.args.to c.min.result n c.requires.runs within low
    (omega (arith, c.min.ensures, c.if-from-end.true, c.requires.some)) (omega (arith, c.min.ensures)) (omega (arith, c.min.ensures)) cut

pub push_gap-requires : goal.push_gap-requires
push_gap-requires c =
    let n : ℕ = c.begun_by-next.result in
    record {
      some = elim (cases_lt n (length c.args.runs.now)) [
        | inl more ↦
            let later = (c.begun_by-next.ensures.later n none (omega arith) more).cells (sym (c.requires.runs.in_row n none more)) in
            omega (arith, later, c.requires.some, c.gap_end.ensures.next none more)
        | inr all ↦ omega (arith, c.requires.some, c.gap_end.ensures.none all)
      ];
    }

pub returns-clause-ok : goal.returns-clause-ok
returns-clause-ok c =
    let n : ℕ = c.begun_by-next.result in
    let before : (d : Run) → 0 < n → (get_or c.args.runs.now (n - 1) d).cell + (get_or c.args.runs.now (n - 1) d).count ≤ c.args.from = λ d some.
    elim c.if-next-gt0.branch [
      | then-next-gt0+else-from-end w ↦
          let same = get_or_default c.args.runs.now (n - 1) none d (omega (arith, some, c.begun_by-next.ensures.within)) in
          subst (λ (x : Run). x.cell + x.count ≤ c.args.from) same w.if-from-end.false
      | else-next-gt0 w ↦ absurd (omega (arith, some, w.if-next-gt0.false))
    ] in
    let after : (d : Run) → n < length c.args.runs.now → c.gap_end.result ≤ (get_or c.args.runs.now n d).cell = λ d more.
    omega (arith, c.gap_end.ensures.next d more) in
    IfOk-weaker c.push_gap.result _ _
    (λ gap is. part_free (string_bytes c.args.text.now) (string_bytes c.push_gap.new.text)
    c.args.runs.now gap c.args.row c.args.from c.args.to c.gap_end.result n c.requires.runs c.begun_by-next.ensures.within before after
    c.gap_end.ensures.within is) c.push_gap.ensures.ok
