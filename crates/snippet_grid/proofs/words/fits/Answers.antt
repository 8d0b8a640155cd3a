use Rattle.snippet_grid.proofs.Common.{arith, refl, length-chars_le}
use Rattle.snippet_grid.proofs.words.fits.Goals as goal

pub returns-then-text-room : goal.returns-then-text-room
returns-then-text-room c = record { value = (λ _. omega (arith, length-chars_le c.args.text.now), λ _. refl) }
