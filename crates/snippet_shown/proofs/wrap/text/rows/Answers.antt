use Rattle.snippet_shown.proofs.Common.{common_steps, ℕ, List, arith, chars, string_bytes, subst, sym, IsUtf8, IsUtf8-past_char, IsUtf8-string_bytes}
use Rattle.snippet_shown.proofs.Common.{chars_past_char, wrapped}
use Rattle.snippet_shown.proofs.StepLemmas.{Writes, Writes-all, Writes-next}
use Rattle.snippet_shown.proofs.WrapLemmas.{Writes-none}
use Rattle.snippet_shown.proofs.wrap.text.rows.Goals as goal

pub letters-init : goal.letters-init
letters-init c =
    let whole = sym c.chars-letters.ensures.rest in
    record {
      utf8 = subst IsUtf8 whole c.utf8.text;
      so_far = subst (λ (t : List ℕ). Writes c.args.room c.row_start-row.result c.first_place-place.result (string_bytes c.new-shown.result) t
          (wrapped c.args.room c.args.trusted (chars c.args.text.now))) whole
          (Writes-none c.args.room c.args.trusted c.row_start-row.result c.first_place-place.result (string_bytes c.new-shown.result) c.args.text.now
          c.requires.room c.new-shown.ensures.bytes c.first_place-place.ensures.value c.row_start-row.ensures.value);
    }

pub letters-smaller : goal.letters-smaller
letters-smaller c = grind (arith, common_steps, chars_past_char, c.letters.invariant.utf8, c.in-Some.ensures.steps.0)

pub letters-preserved : goal.letters-preserved
letters-preserved c =
    let cons = chars_past_char _ _ c.in-Some.c c.letters.invariant.utf8 c.in-Some.ensures.steps.0 in
    record {
      utf8 = IsUtf8-past_char _ _ c.in-Some.c c.letters.invariant.utf8 c.in-Some.ensures.steps.0;
      so_far = Writes-next c.args.room c.letters.row c.letters.place c.place_after-place.result c.step_at-step.result (string_bytes c.letters.shown)
          (string_bytes c.push_shown.new.shown) _ _ _ _ c.in-Some.c cons c.as_str.ensures c.step_at-step.ensures.value
          c.place_after-place.ensures.value c.in_ok-push_shown.ensures.value c.letters.invariant.so_far;
    }

pub returns : goal.returns
returns c = record {
  value = Writes-all c.args.room c.letters.row c.letters.place (string_bytes c.letters.shown) c.letters.letters.rest.now _
      c.in_default.ensures.steps.0.0 (IsUtf8-string_bytes c.letters.shown) c.letters.invariant.so_far;
}
