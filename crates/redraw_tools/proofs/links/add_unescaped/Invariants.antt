use Rattle.std.proofs.Common.{◌≡◌, ◌++◌, drop, false, encode_utf8_all, string_bytes}
use Rattle.redraw_tools.specs.Links.{unescaped}
use Rattle.redraw_tools.proofs.links.add_unescaped.Given as goal

-- what is written so far and what is shown for the rest is the whole
abbrev pub invariant-loop-c : goal.invariant-loop-c
invariant-loop-c l =
    string_bytes l.text ++ encode_utf8_all (unescaped l.is_escaped (drop l.c-index l.written))
    ≡ string_bytes l.initial.text ++ encode_utf8_all (unescaped false l.written)
