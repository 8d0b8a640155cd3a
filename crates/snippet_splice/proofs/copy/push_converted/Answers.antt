use Rattle.snippet_splice.proofs.Common.{◌≡◌, true, false, [], ◌∷◌, ◌++◌, Some, None, eqb, get_or, sym, ap}
use Rattle.snippet_splice.proofs.Common.{◌∙◌, lit<, eq-eqb, cond-true, cond-false, false_from_ne_true, eqb-true, both_ways, append-nil, encode_ascii}
use Rattle.snippet_splice.proofs.Common.{split_parts, starts_char, string_bytes, with_line_feeds}
use Rattle.snippet_splice.proofs.WriteLemmas.{with_line_feeds-step, with_line_feeds-none, utf8-after}
use Rattle.snippet_splice.proofs.copy.push_converted.Goals as goal

pub loop-front-preserved-in_ok-push : goal.loop-front-preserved-in_ok-push
loop-front-preserved-in_ok-push c =
    let parts = split_parts 13 c.loop-front.rest.now (Some (c.in-Some.front, c.in-Some.after)) c.in-Some.ensures.cases (lit< tt) in
    let starts = starts_char 10 c.in-Some.after.now c.starts_with.result c.starts_with.ensures.cases (lit< tt) (lit< tt) in
    let no_lf : eqb (get_or c.in-Some.after.now 0 0) 10 ≡ false = false_from_ne_true _ (λ t.
    both_ways c.starts_with.result c.if-not-starts_with.true (starts.1 (eqb-true _ 10 t))) in
    let added : string_bytes c.push.new.self ≡ string_bytes c.push_str.new.self ++ 13 ∷ [] = cc (c.in_ok-push.ensures.bytes, encode_ascii 13 (lit< tt)) in
    let pushed : string_bytes c.push_str.new.self ≡ string_bytes c.loop-front.out ++ c.in-Some.front.now = c.in_ok-push_str.ensures.bytes in (
      utf8-after c.loop-front.rest.now c.in-Some.front.now c.in-Some.after.now 13 c.loop-front.invariant.0 (lit< tt) parts.0,
      ap (λ l. l ++ with_line_feeds c.in-Some.after.now) (added ∙ ap (λ l. l ++ 13 ∷ []) pushed)
          ∙ with_line_feeds-step (string_bytes c.loop-front.out) c.loop-front.rest.now c.in-Some.front.now c.in-Some.after.now (13 ∷ [])
          parts.0 parts.1 (sym (cond-false (eqb (get_or c.in-Some.after.now 0 0) 10) [] (13 ∷ []) no_lf)) ∙ c.loop-front.invariant.1,
    )

pub loop-front-preserved : goal.loop-front-preserved
loop-front-preserved c =
    let parts = split_parts 13 c.loop-front.rest.now (Some (c.in-Some.front, c.in-Some.after)) c.in-Some.ensures.cases (lit< tt) in
    let starts = starts_char 10 c.in-Some.after.now c.starts_with.result c.starts_with.ensures.cases (lit< tt) (lit< tt) in
    let lf : eqb (get_or c.in-Some.after.now 0 0) 10 ≡ true = eq-eqb _ 10 (starts.0 c.if-not-starts_with.false) in
    let pushed : string_bytes c.push_str.new.self ≡ string_bytes c.loop-front.out ++ c.in-Some.front.now = c.in_ok-push_str.ensures.bytes in (
      utf8-after c.loop-front.rest.now c.in-Some.front.now c.in-Some.after.now 13 c.loop-front.invariant.0 (lit< tt) parts.0,
      ap (λ l. l ++ with_line_feeds c.in-Some.after.now) (pushed ∙ sym (append-nil _))
          ∙ with_line_feeds-step (string_bytes c.loop-front.out) c.loop-front.rest.now c.in-Some.front.now c.in-Some.after.now []
          parts.0 parts.1 (sym (cond-true (eqb (get_or c.in-Some.after.now 0 0) 10) [] (13 ∷ []) lf)) ∙ c.loop-front.invariant.1,
    )

pub returns : goal.returns
returns c =
    let none = split_parts 13 c.loop-front.rest.now None c.in_default.ensures.cases (lit< tt) in
    record {
      written = cc (c.in_ok-push_str-2.ensures.bytes, with_line_feeds-none c.loop-front.rest.now none, c.loop-front.invariant.1);
    }
