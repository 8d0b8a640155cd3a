use Rattle.snippet_strokes.proofs.Common.{◌∙◌, ◌-◌, ap, arith, replicate, string_bytes, chars-IsAscii}
use Rattle.std.proofs.Common.{chars}
use Rattle.snippet_strokes.proofs.LineLemmas.{IsAscii-replicate, glyphs_more}
use Rattle.snippet_strokes.proofs.lines.joined_strips.Goals as goal

pub loop-left-preserved : goal.loop-left-preserved
loop-left-preserved c =
    record {
      low = omega arith;
      text = glyphs_more (string_bytes c.loop-left.text) (string_bytes c.push_str.new.self) c.args.strip.now c.args.glyph (c.args.count - c.loop-left.left)
          128 (c.args.count - (c.loop-left.left - 128)) (omega (arith, c.loop-left.invariant.low)) c.loop-left.invariant.text c.requires.strip
          c.in_ok-push_str.ensures.bytes;
    }

pub returns : goal.returns
returns c =
    let left = c.loop-left.left in
    record {
      value = ap chars (glyphs_more (string_bytes c.loop-left.text) (string_bytes c.push_str-2.new.self) c.first_of.result.now c.args.glyph
          (c.args.count - left) left c.args.count (omega (arith, c.loop-left.invariant.low)) c.loop-left.invariant.text c.first_of.ensures.bytes
          c.in_ok-push_str-2.ensures.bytes)
          ∙ chars-IsAscii (replicate c.args.count c.args.glyph) (IsAscii-replicate c.args.count c.args.glyph c.requires.ascii);
    }
