use Rattle.redraw_read.proofs.expansion.+named_from.Given as goal

-- fewer macros are left to look at
abbrev pub decreases-named_from : goal.decreases-named_from
decreases-named_from l = l.most
