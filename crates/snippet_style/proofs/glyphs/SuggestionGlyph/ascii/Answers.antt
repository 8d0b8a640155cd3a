use Rattle.std.proofs.Common.{◌∙◌, sym, ap, codes, refl}
use Rattle.std.proofs.lemmas.Str.{chars-encodes}
use Rattle.snippet_style.specs.declared.glyphs.DecorStyle.TheVariants.{Ascii}
use Rattle.snippet_style.specs.Glyphs.{suggestion_glyph_of}
use Rattle.snippet_style.proofs.glyphs.SuggestionGlyph.ascii.Goals as goal

pub returns-in-Opening-clause-value : goal.returns-in-Opening-clause-value
unfolding lib.Utf8.encode
returns-in-Opening-clause-value c = chars-encodes (codes "|") refl ∙ sym (ap (suggestion_glyph_of Ascii) c.in-Opening.is)

pub returns-in-Next-clause-value : goal.returns-in-Next-clause-value
unfolding lib.Utf8.encode
returns-in-Next-clause-value c = chars-encodes (codes "|") refl ∙ sym (ap (suggestion_glyph_of Ascii) c.in-Next.is)

pub returns-in-Leading-clause-value : goal.returns-in-Leading-clause-value
unfolding lib.Utf8.encode
returns-in-Leading-clause-value c = chars-encodes (codes "|") refl ∙ sym (ap (suggestion_glyph_of Ascii) c.in-Leading.is)

pub returns-in-Closing-clause-value : goal.returns-in-Closing-clause-value
unfolding lib.Utf8.encode
returns-in-Closing-clause-value c = chars-encodes (codes "|") refl ∙ sym (ap (suggestion_glyph_of Ascii) c.in-Closing.is)

pub returns-in-Kept-clause-value : goal.returns-in-Kept-clause-value
unfolding lib.Utf8.encode
returns-in-Kept-clause-value c = chars-encodes (codes "|") refl ∙ sym (ap (suggestion_glyph_of Ascii) c.in-Kept.is)

pub returns-in-Alone-clause-value : goal.returns-in-Alone-clause-value
unfolding lib.Utf8.encode
returns-in-Alone-clause-value c = chars-encodes (codes "| ") refl ∙ sym (ap (suggestion_glyph_of Ascii) c.in-Alone.is)

pub returns-in-Changed-clause-value : goal.returns-in-Changed-clause-value
unfolding lib.Utf8.encode
returns-in-Changed-clause-value c = chars-encodes (codes "~ ") refl ∙ sym (ap (suggestion_glyph_of Ascii) c.in-Changed.is)

pub returns-in-Added-clause-value : goal.returns-in-Added-clause-value
unfolding lib.Utf8.encode
returns-in-Added-clause-value c = chars-encodes (codes "+ ") refl ∙ sym (ap (suggestion_glyph_of Ascii) c.in-Added.is)
