use Rattle.snippet_parts.proofs.Common.{common_steps, subst, ◌∙◌, ap, arith, IsSpanBorder, sym, location_of, line_of, source_lines, entry_at, IsLinePlace}
use Rattle.std.proofs.Common.{IfSome}
use Rattle.snippet_parts.proofs.TableLemmas.{located-near}
use Rattle.snippet_parts.proofs.line_place.place_near.Goals as goal

pub locate_later-requires-clause-line : goal.locate_later-requires-clause-line
locate_later-requires-clause-line c =
    let s = c.args.source.now in
    let near = c.in-Some.near in
    let known : IsLinePlace s near = subst (λ k. IfSome k (IsLinePlace s)) c.in-Some.is c.requires.known in
    located-near s near.line near.at.byte c.args.byte known.line (omega (arith, c.if-near-byte.true)) (omega (arith, c.if-byte-near.true))

pub locate_later-requires-clause-short : goal.locate_later-requires-clause-short
locate_later-requires-clause-short c = grind (arith, common_steps, c.in-Some.is, c.requires.known)

pub returns-in-Some-clause-place : goal.returns-in-Some-clause-place
returns-in-Some-clause-place c =
    let s = c.args.source.now in
    let ls = source_lines s.text in
    let near = c.in-Some.near in
    let known : IsLinePlace s near = subst (λ k. IfSome k (IsLinePlace s)) c.in-Some.is c.requires.known in
    let line = located-near s near.line near.at.byte c.args.byte known.line (omega (arith, c.if-near-byte.true)) (omega (arith, c.if-byte-near.true)) in
    let same = sym c.locate_later.ensures.byte in
    record {
      short = known.short;
      border = subst (IsSpanBorder s.text) same c.requires.border;
      at = c.locate_later.ensures.location ∙ ap (location_of s) same;
      line = line ∙ ap (λ byte. entry_at s.first ls (line_of ls byte)) same;
    }
