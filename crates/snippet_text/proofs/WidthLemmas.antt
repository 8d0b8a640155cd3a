-- The columns of texts that the library itself writes.
use Rattle.std.proofs.Common.{◌≡◌, codes, refl}
unfoldable pub use Rattle.unicode_width.proofs.Computing.{unicode_width}
use Rattle.snippet_text.specs.Width.{char_width, width_of}

-- a colon and a space
pub width_of-colon : width_of (codes ": ") ≡ 2
unfolding char_width unicode_width
width_of-colon = refl

-- brackets
pub width_of-opening : width_of (codes "[") ≡ 1
unfolding char_width unicode_width
width_of-opening = refl

-- a closing bracket is one column wide
pub width_of-closing : width_of (codes "]") ≡ 1
unfolding char_width unicode_width
width_of-closing = refl
