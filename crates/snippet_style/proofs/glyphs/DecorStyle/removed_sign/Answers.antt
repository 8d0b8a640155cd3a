use Rattle.std.proofs.Common.{codes, refl}
use Rattle.std.proofs.lemmas.Str.{chars-encodes}
use Rattle.snippet_style.proofs.glyphs.DecorStyle.removed_sign.Goals as goal

pub returns-clause-value : goal.returns-clause-value
unfolding lib.Utf8.encode
returns-clause-value c = chars-encodes (codes "- ") refl
