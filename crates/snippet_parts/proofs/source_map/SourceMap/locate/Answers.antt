use Rattle.snippet_parts.proofs.Common.{arith}
use Rattle.snippet_parts.proofs.TableLemmas.{located-border, located-end, located-is, located-ordered}
use Rattle.snippet_parts.proofs.source_map.SourceMap.locate.Goals as goal

pub on_line-requires : goal.on_line-requires
on_line-requires c = record {
  fits = omega (arith, located-end c.args.self.now c.args.byte c.args.line.now c.requires.line, c.requires.short);
  border = located-border c.args.self.now c.args.byte c.args.line.now c.requires.line c.requires.border;
  ordered = located-ordered c.args.self.now c.args.byte c.args.line.now c.requires.line;
}

pub returns : goal.returns
returns c =
    let found = c.on_line.ensures in
    let end = located-end c.args.self.now c.args.byte c.args.line.now c.requires.line in
    record {
      location = located-is c.args.self.now c.args.byte c.args.line.now c.requires.line c.on_line.result found.line found.char found.display found.byte;
      byte = found.byte;
      char_bound = omega (arith, found.char_bound, end, c.requires.short);
      display_bound = omega (arith, found.display_bound, end, c.requires.short);
    }
