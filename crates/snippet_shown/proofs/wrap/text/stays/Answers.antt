use Rattle.snippet_shown.proofs.Common.{◌∙◌, chars, sym}
use Rattle.snippet_shown.proofs.WrapLemmas.{wrapped-same, wrapped-small}
use Rattle.snippet_shown.proofs.wrap.text.stays.Goals as goal

pub returns-then-room-lt-LEAST_ROOM-clause-yes : goal.returns-then-room-lt-LEAST_ROOM-clause-yes
returns-then-room-lt-LEAST_ROOM-clause-yes c _ = wrapped-small c.args.room c.args.trusted (chars c.args.text.now) c.if-room-lt-LEAST_ROOM.true

pub returns-else-room-lt-LEAST_ROOM-clause-yes : goal.returns-else-room-lt-LEAST_ROOM-clause-yes
returns-else-room-lt-LEAST_ROOM-clause-yes c fit =
    wrapped-same c.args.room c.args.trusted (chars c.args.text.now) (sym c.fits.ensures.value ∙ fit)
