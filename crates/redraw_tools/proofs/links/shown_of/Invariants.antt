use Rattle.std.proofs.Common.{◌≡◌, ◌++◌, drop, encode_utf8_all, string_bytes}
use Rattle.redraw_tools.specs.Links.{without_links}
use Rattle.redraw_tools.proofs.links.shown_of.Given as goal

-- what is written so far and what is shown for the rest is the whole
abbrev pub invariant-loop-at : goal.invariant-loop-at
invariant-loop-at l =
    string_bytes l.text ++ encode_utf8_all (without_links l.taken (drop l.at l.written))
    ≡ encode_utf8_all (without_links 0 l.written)
