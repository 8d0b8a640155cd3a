use Rattle.std.proofs.Common.{rules}
use Rattle.std.proofs.lemmas.Str.{chars_from_encodes}
use Rattle.redraw_tools.proofs.links.without_links.Goals as goal

pub returns : goal.returns
returns c = search (rules, chars_from_encodes)
