use Rattle.redraw_read.proofs.expansion.+outermost.Given as goal

-- fewer macros are left to look at
abbrev pub decreases-outermost : goal.decreases-outermost
decreases-outermost l = l.most
