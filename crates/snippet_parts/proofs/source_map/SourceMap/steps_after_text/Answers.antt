use Rattle.snippet_parts.proofs.Common.{◌≡◌, ◌+◌, ◌∙◌, refl, Bool, true, false, cond, ltb, length, arith}
use mir.Val.{bool_byte}
use Rattle.snippet_parts.proofs.TableLemmas.{located-end, located-steps}
use Rattle.snippet_parts.proofs.source_map.SourceMap.steps_after_text.Goals as goal

bool_byte-cond : (b : Bool) → bool_byte b ≡ cond b 1 0
bool_byte-cond true = refl
bool_byte-cond false = refl

pub returns-clause-value : goal.returns-clause-value
returns-clause-value c =
    located-steps c.args.self.now c.args.byte c.args.line.now c.requires.line c.from.result
    (c.from.ensures ∙ bool_byte-cond (ltb (c.args.line.now.start_byte + length c.args.line.now.line.now) c.args.byte))

pub overflow_add-line : goal.overflow_add-line
overflow_add-line c = omega (arith, located-end c.args.self.now c.args.byte c.args.line.now c.requires.line, c.requires.short)
