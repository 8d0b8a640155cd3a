use Rattle.snippet_titles.proofs.Common.{common_steps, arith}
use Rattle.snippet_titles.proofs.OriginText.{place-chars}
use Rattle.snippet_titles.proofs.origin.append_place.Goals as goal

pub returns : goal.returns
returns c = grind (arith, common_steps, c.as_str.ensures.value, c.place_text-text.ensures.value, place-chars, c.extend_row.ensures.extended)
