use Rattle.snippet_parts.proofs.Common.{common_steps, ◌≡◌, ℕ, ◌+◌, ◌-◌, ◌<◌, ◌≤◌, Bool, true, ◌&&◌, not, eqb, refl, ap, arith, ◌∙◌, Loc, Source, source_lines}
use Rattle.snippet_parts.proofs.Common.{locations_of, Annotation, line_of-mono, line_of-within, is_marking, first_line, last_line}
use Rattle.snippet_parts.proofs.MarkLemmas.{first_line-from, end-line}
use Rattle.snippet_parts.proofs.located.located_span.Goals as goal

-- the line on which an annotation's locations end
last-from : (s : Source) (a : Annotation) (at : Loc × Loc) → at ≡ locations_of s a.span.start a.span.end → at.1.line ≡ s.first + last_line s.text a
last-from s a at is = ap (λ (l : Loc × Loc). l.1.line) is ∙ end-line s a.span.start a.span.end

pub overflow_sub-first : goal.overflow_sub-first
overflow_sub-first c =
    omega (
      arith,
      c.line_start.ensures.value,
      first_line-from c.args.source.now c.args.annotation.now c.locations_near.result
          c.locations_near.ensures.value,
    )

pub overflow_sub-last : goal.overflow_sub-last
overflow_sub-last c =
    omega (arith, c.line_start-2.ensures.value, last-from c.args.source.now c.args.annotation.now c.locations_near.result c.locations_near.ensures.value)

-- of lines in order that differ the first comes before the last
marked-longer : (marked : Bool) (first last : ℕ) → first ≤ last → (marked && not (eqb last first)) ≡ true → (marked ≡ true) × (first < last)
marked-longer marked first last ordered long = grind (arith, common_steps)

pub span_bars-requires : goal.span_bars-requires
span_bars-requires c =
    record {
      within = omega (
        arith,
        c.line_start-2.ensures.value,
        last-from c.args.source.now c.args.annotation.now c.locations_near.result c.locations_near.ensures.value,
        line_of-within c.args.source.now.text c.args.annotation.now.span.end,
      );
    }

pub returns : goal.returns
returns c =
    let s = c.args.source.now in
    let a = c.args.annotation.now in
    let first : ℕ = c.locations_near.result.0.line - c.line_start.result in
    let last : ℕ = c.locations_near.result.1.line - c.line_start-2.result in
    let first_is : first ≡ first_line s.text a =
    omega (arith, c.line_start.ensures.value, first_line-from s a c.locations_near.result c.locations_near.ensures.value) in
    let last_is : last ≡ last_line s.text a =
    omega (arith, c.line_start-2.ensures.value, last-from s a c.locations_near.result c.locations_near.ensures.value) in
    let ordered : first ≤ last = omega (
      arith,
      first_is,
      last_is,
      line_of-within s.text 0,
      line_of-mono (source_lines s.text) a.span.start a.span.end (omega (arith, line_of-within s.text 0)) c.requires.span.ordered,
    ) in
    record {
      known = c.locations_near.ensures.known;
      annotation = refl;
      located = record {
        span = c.requires.span;
        first = first_is;
        last = last_is;
        locations = c.locations_near.ensures.value;
        start_display = c.locations_near.ensures.start_bound;
        end_display = c.locations_near.ensures.end_bound;
        start_char = c.locations_near.ensures.start_char;
        bars = λ long. let parts = marked-longer (is_marking a.kind) first last ordered long in c.span_bars.ensures.value parts.0 parts.1;
      };
    }
