use Rattle.snippet_titles.proofs.Common.{common_steps, arith, IsUtf8-string_bytes}
use Rattle.snippet_titles.proofs.OriginText.{origin_text-added}
use Rattle.snippet_titles.proofs.origin.origin_text.Goals as goal

pub returns : goal.returns
returns c = grind (arith, common_steps, origin_text-added, c.in_ok-text.text, IsUtf8-string_bytes, c.in_ok-text.ensures.value, c.in_ok-push_place.ensures.added)
