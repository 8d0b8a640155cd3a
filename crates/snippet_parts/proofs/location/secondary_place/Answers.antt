use Rattle.snippet_parts.proofs.Common.{map, sym, seen_kept}
use Rattle.snippet_parts.proofs.LocationWords.{secondary-is}
use Rattle.snippet_parts.proofs.location.secondary_place.Goals as goal

pub loop-info-init : goal.loop-info-init
loop-info-init c = sym (secondary-is (map seen_kept c.args.lines.now))
