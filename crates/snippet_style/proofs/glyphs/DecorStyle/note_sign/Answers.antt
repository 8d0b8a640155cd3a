use Rattle.std.proofs.Common.{◌∙◌, codes, refl, sym, ap}
use Rattle.std.proofs.lemmas.Str.{chars-encodes}
use Rattle.snippet_style.specs.declared.glyphs.DecorStyle.{DecorStyle}
use Rattle.snippet_style.specs.declared.glyphs.DecorStyle.TheVariants.{Unicode}
use Rattle.snippet_style.specs.Glyphs.{note_sign_of}
use Rattle.snippet_style.proofs.glyphs.DecorStyle.note_sign.Goals as goal

pub returns-in-Ascii-default-clause-value : goal.returns-in-Ascii-default-clause-value
unfolding lib.Utf8.encode
returns-in-Ascii-default-clause-value c =
    chars-encodes (codes "= ") refl ∙ sym (ap (λ (d : DecorStyle). note_sign_of d c.args.followed) c.in-Ascii-default.is-0)

pub returns-in-Unicode-true-clause-value : goal.returns-in-Unicode-true-clause-value
unfolding lib.Utf8.encode
returns-in-Unicode-true-clause-value c =
    chars-encodes (codes "├ ") refl ∙ sym (ap (λ (d : DecorStyle). note_sign_of d c.args.followed) c.in-Unicode-true.is-0
    ∙ ap (note_sign_of Unicode) c.in-Unicode-true.is-1)

pub returns-in-Unicode-false-clause-value : goal.returns-in-Unicode-false-clause-value
unfolding lib.Utf8.encode
returns-in-Unicode-false-clause-value c =
    chars-encodes (codes "╰ ") refl ∙ sym (ap (λ (d : DecorStyle). note_sign_of d c.args.followed) c.in-Unicode-false.is-0
    ∙ ap (note_sign_of Unicode) c.in-Unicode-false.is-1)
