-- The lines so far are those of the texts so far.
use Rattle.std.proofs.Common.{◌≡◌, Bor, List, ℕ, String, Global, chars, map, string_bytes, take}
use Rattle.program.specs.Message.{on_one_line}
use Rattle.program.proofs.message.lines_of.Given as goal

abbrev pub invariant-loop-text : goal.invariant-loop-text
invariant-loop-text l =
    map (λ (line : String Global). chars (string_bytes line)) l.lines.items
    ≡ map (λ (text : Bor (List ℕ)). on_one_line (chars text.now)) (take l.text-index l.fn.texts)
