use Rattle.std.proofs.Common.{◌≡◌, map}
use Rattle.serde_json.specs.declared.value.Value.{String}
use Rattle.replay_answer.proofs.answer.values_of.Given as goal

-- the values of the texts so far
abbrev pub invariant-loop-text : goal.invariant-loop-text
invariant-loop-text l = l.values.items ≡ map (λ text. String text) l.yielded
