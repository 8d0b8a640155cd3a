use Rattle.snippet_parts.proofs.Common.{◌∷◌, [], ap, map, sym, ◌∙◌, KeptLine, seen_kept}
use Rattle.snippet_parts.proofs.AloneLemmas.{alone-bound, alone-lines, alone-shallow, line_of-parts}
use Rattle.snippet_parts.proofs.only_line.one_line.Goals as goal

pub line_with-requires : goal.line_with-requires
line_with-requires c = record {
  within = alone-bound c.args.source.now c.args.located.now c.args.line c.requires.located c.requires.some c.requires.alone;
}

pub returns : goal.returns
returns c =
    let s = c.args.source.now in
    let ls = c.args.located.now in
    record {
      deepest = sym (alone-shallow s ls c.args.line c.requires.located c.requires.alone);
      lines = ap (map seen_kept) c.in_ok-lines.ensures.items
          ∙ ap (λ (l : KeptLine). l ∷ []) (c.line_with.ensures.value ∙ ap (line_of-parts s c.args.line) c.in_ok-annotations.ensures.value)
          ∙ alone-lines s ls c.args.line c.requires.located c.requires.some c.requires.alone;
    }
