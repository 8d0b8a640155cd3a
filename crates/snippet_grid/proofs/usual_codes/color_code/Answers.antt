use Rattle.snippet_grid.proofs.Common.{refl}
use Rattle.std.specs.Fmt.{digits}
use Rattle.snippet_grid.proofs.usual_codes.color_code.Goals as goal

pub returns-in-Black : goal.returns-in-Black
unfolding digits
returns-in-Black c = record { text = rw c.in-Black.is refl }

pub returns-in-Red : goal.returns-in-Red
unfolding digits
returns-in-Red c = record { text = rw c.in-Red.is refl }

pub returns-in-Green : goal.returns-in-Green
unfolding digits
returns-in-Green c = record { text = rw c.in-Green.is refl }

pub returns-in-Yellow : goal.returns-in-Yellow
unfolding digits
returns-in-Yellow c = record { text = rw c.in-Yellow.is refl }

pub returns-in-Blue : goal.returns-in-Blue
unfolding digits
returns-in-Blue c = record { text = rw c.in-Blue.is refl }

pub returns-in-Magenta : goal.returns-in-Magenta
unfolding digits
returns-in-Magenta c = record { text = rw c.in-Magenta.is refl }

pub returns-in-Cyan : goal.returns-in-Cyan
unfolding digits
returns-in-Cyan c = record { text = rw c.in-Cyan.is refl }

pub returns-in-White : goal.returns-in-White
unfolding digits
returns-in-White c = record { text = rw c.in-White.is refl }

pub returns-in-BrightBlack : goal.returns-in-BrightBlack
unfolding digits
returns-in-BrightBlack c = record { text = rw c.in-BrightBlack.is refl }

pub returns-in-BrightRed : goal.returns-in-BrightRed
unfolding digits
returns-in-BrightRed c = record { text = rw c.in-BrightRed.is refl }

pub returns-in-BrightGreen : goal.returns-in-BrightGreen
unfolding digits
returns-in-BrightGreen c = record { text = rw c.in-BrightGreen.is refl }

pub returns-in-BrightYellow : goal.returns-in-BrightYellow
unfolding digits
returns-in-BrightYellow c = record { text = rw c.in-BrightYellow.is refl }

pub returns-in-BrightBlue : goal.returns-in-BrightBlue
unfolding digits
returns-in-BrightBlue c = record { text = rw c.in-BrightBlue.is refl }

pub returns-in-BrightMagenta : goal.returns-in-BrightMagenta
unfolding digits
returns-in-BrightMagenta c = record { text = rw c.in-BrightMagenta.is refl }

pub returns-in-BrightCyan : goal.returns-in-BrightCyan
unfolding digits
returns-in-BrightCyan c = record { text = rw c.in-BrightCyan.is refl }

pub returns-in-BrightWhite : goal.returns-in-BrightWhite
unfolding digits
returns-in-BrightWhite c = record { text = rw c.in-BrightWhite.is refl }
