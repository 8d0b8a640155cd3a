use Rattle.snippet_parts.proofs.Common.{◌∙◌, arith}
use Rattle.snippet_parts.proofs.TableLemmas.{located-border, located-char, located-display, located-end, located-is, located-line, located-ordered}
use Rattle.snippet_parts.proofs.source_map.SourceMap.locate_later.Goals as goal

pub later_on_line-requires : goal.later_on_line-requires
later_on_line-requires c =
    let s = c.args.self.now in
    let known = c.args.known in
    let line = c.args.line.now in
    let there = c.requires.known_line in
    record {
      fits = omega (arith, located-end s c.args.byte line c.requires.line, c.requires.short);
      here_char = located-char s known.byte line there known c.requires.known;
      here_display = located-display s known.byte line there known c.requires.known;
      here_border = located-border s known.byte line there c.requires.known_border;
      border = located-border s c.args.byte line c.requires.line c.requires.border;
      started = located-ordered s known.byte line there;
      later = c.requires.later;
    }

pub returns : goal.returns
returns c =
    let s = c.args.self.now in
    let line = c.args.line.now in
    let found = c.later_on_line.ensures in
    let end = located-end s c.args.byte line c.requires.line in
    let known = found.line ∙ located-line s c.args.known.byte line c.requires.known_line c.args.known c.requires.known in
    record {
      location = located-is s c.args.byte line c.requires.line c.later_on_line.result known found.char found.display found.byte;
      byte = found.byte;
      char_bound = omega (arith, found.char_bound, end, c.requires.short);
      display_bound = omega (arith, found.display_bound, end, c.requires.short);
    }
