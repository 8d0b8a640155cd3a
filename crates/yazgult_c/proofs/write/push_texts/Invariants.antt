use Rattle.std.proofs.Common.{◌≡◌, ◌++◌, map, string_bytes, take}
use Rattle.std.specs.List.{flat_map}
use Rattle.yazgult_c.specs.AnswerBytes.{text_bytes}
use Rattle.yazgult_c.proofs.write.push_texts.Given as goal

-- the texts so far were added
abbrev pub invariant-loop-text : goal.invariant-loop-text
invariant-loop-text l = l.out.items ≡ l.fn.out.items ++ flat_map text_bytes (map string_bytes (take l.text-index l.texts))
