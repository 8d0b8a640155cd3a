use Rattle.std.proofs.Common.{◌∙◌, ap, chars, encode_utf8_all, sym}
use Rattle.std.proofs.lemmas.Str.{IsUtf8-string_bytes, encodes-chars}
use Rattle.snippet_text.specs.Normalized.{norm}
use Rattle.redraw_read.proofs.rendered.first_line.Goals as goal

pub returns : goal.returns
returns c = record {
  value = sym (encodes-chars _ (IsUtf8-string_bytes c.in_ok-line.line))
      ∙ ap encode_utf8_all (ap chars c.in_ok-line.ensures.ok ∙ c.in_ok-drawn.ensures.value ∙ ap (λ t. norm (chars t)) c.before_feed.ensures.value);
}
