use Rattle.snippet_parts.proofs.Common.{common_steps, List, ◌≡◌, ◌+◌, ◌-◌, ◌≤◌, ℕ, Bool, true, false, ◌||◌, ◌&&◌, eqb, leb, ltb, min, not, ap, sym, subst, ◌∙◌}
use Rattle.snippet_parts.proofs.Common.{arith, list_any, range_with_len, Source, Annotation, LocatedSpan, is_trivial_line, keeps, AreBars, IsLocated}
use Rattle.snippet_parts.proofs.Common.{is_long_span, is_marking}
use mir.Val.{bool_byte}
use Rattle.snippet_parts.proofs.LocatedLemmas.{located-ordered, long_span-by}
use Rattle.snippet_parts.proofs.KeptLemmas.{after-least, keeps-all, keeps-ends, last_bar-is, last_bar-apart}
use Rattle.snippet_parts.proofs.kept.kept_stretches.Goals as goal

-- whether a span of these lines has a bar beside line k
abbrev bar_by : List ℕ → ℕ → ℕ → ℕ → Bool
bar_by source k f l =
    list_any (λ j. not (is_trivial_line source j)) (range_with_len k (min (f + 4) l - k))
    || (eqb (k + 1) l && ltb (f + 4) k && not (is_trivial_line source k))

-- whether a span keeps line k, by its first and its last line
abbrev keeps_by : List ℕ → Annotation → ℕ → ℕ → ℕ → Bool
keeps_by source a k f l =
    leb f k && leb k l && (eqb k f || eqb k l || not (is_marking a.kind) || bar_by source k f l)

one-at-most : (b : Bool) (n : ℕ) → n ≡ bool_byte b → n ≤ 1
one-at-most true n is = omega (arith, is)
one-at-most false n is = omega (arith, is)

-- its lines are those where it is located
at_lines : (s : Source) (l : LocatedSpan) (first last k : ℕ) → IsLocated s l → first ≡ l.first → last ≡ l.last
    → keeps_by s.text l.annotation.now k first last ≡ keeps s.text k l.annotation.now
at_lines s l first last k at is_first is_last = grind (arith, common_steps, s.text, at.first, at.last)

pub returns : goal.returns
returns c = record { value = kept }
  where
    kept : (s : Source) (k : ℕ) → IsLocated s c.args.span.now
        → ((leb c.touched-all.result.first k && leb k c.args.span.now.bars.end)
        || (leb (c.touched-all.result.last - c.from-closing.result) k && leb k c.touched-all.result.last)) ≡ keeps s.text k c.args.span.now.annotation.now
    kept s k at =
        let source = s.text in
        let span = c.args.span.now in
        let a = span.annotation.now in
        let f : ℕ = c.touched-all.result.first in
        let l : ℕ = c.touched-all.result.last in
        let m : ℕ = f + 4 in
        let shown : Bool = list_any (λ j. not (is_trivial_line source j)) (range_with_len k (min m l - k)) in
        let last_bar : Bool = eqb (k + 1) l && ltb m k && not (is_trivial_line source k) in
        let marked : is_marking a.kind ≡ true = sym c.is_marking.ensures.value ∙ c.if-not-is_marking.false in
        let long : is_long_span span ≡ true = long_span-by span marked (λ same.
        omega (arith, same, c.touched-all.ensures.first, c.touched-all.ensures.last)) in
        let bars : AreBars source f l span.bars = subst (λ n. AreBars source f n span.bars) (sym c.touched-all.ensures.last)
        (subst (λ n. AreBars source n span.last span.bars) (sym c.touched-all.ensures.first) (at.bars long)) in
        keeps-ends f l span.bars.end (l - c.from-closing.result) k (is_marking a.kind) shown last_bar (omega arith)
        bars.from (omega (arith, bars.before)) marked (bars.telling k)
        (last_bar-is l k m (is_trivial_line source) c.from-closing.result span.bars.closing (omega arith)
        (bars.closes ∙ ap (λ b. b && not (is_trivial_line source (l - 1))) (after-least m l))
        (λ e. c.from-closing.ensures ∙ ap bool_byte e) (λ e. c.from-closing.ensures ∙ ap bool_byte e))
        (last_bar-apart l k m (is_trivial_line source)) (omega arith)
        (omega (arith, one-at-most span.bars.closing c.from-closing.result c.from-closing.ensures))
        ∙ at_lines s span f l k at c.touched-all.ensures.first c.touched-all.ensures.last

pub returns-then-all : goal.returns-then-all
returns-then-all c =
    grind (arith, common_steps, located-ordered, c.then-all.branch, c.touched-all.ensures.first, c.touched-all.ensures.last, keeps-all, at_lines)
