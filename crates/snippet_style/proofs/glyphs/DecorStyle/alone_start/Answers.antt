use Rattle.std.proofs.Common.{◌∙◌, codes, refl, sym, ap}
use Rattle.std.proofs.lemmas.Str.{chars-encodes}
use Rattle.snippet_style.specs.Glyphs.{alone_start_of}
use Rattle.snippet_style.proofs.glyphs.DecorStyle.alone_start.Goals as goal

pub returns-in-Ascii : goal.returns-in-Ascii
unfolding lib.Utf8.encode
returns-in-Ascii c = record { value = chars-encodes (codes "--> ") refl ∙ sym (ap alone_start_of c.in-Ascii.is) }

pub returns-in-Unicode : goal.returns-in-Unicode
unfolding lib.Utf8.encode
returns-in-Unicode c = record { value = chars-encodes (codes " ─▸ ") refl ∙ sym (ap alone_start_of c.in-Unicode.is) }
