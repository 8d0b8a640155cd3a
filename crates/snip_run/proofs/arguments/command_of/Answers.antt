use Rattle.std.proofs.Common.{◌≡◌, ℕ, ◌+◌, ◌-◌, ◌≤◌, List, ◌++◌, Bor, Option, Some, None, IsSome, IfSome, IsSomeAnd, length, take, drop, refl, sym, ap, ◌∙◌}
use Rattle.std.proofs.Common.{subst, arith}
use Rattle.std.proofs.lemmas.List.{take_all, length-drop}
use Rattle.std.proofs.lemmas.List.Elements.{All-nil}
use Rattle.std.proofs.lemmas.Grind.{common_steps}
use Rattle.program.specs.declared.options.Options.{Options}
use Rattle.snip_run.specs.declared.arguments.SnipCommand.{SnipCommand}
use Rattle.snip_run.specs.declared.arguments.Operands.{Operands}
use Rattle.snip_run.specs.Arguments.{Argument, arguments_at, arguments_of, no_options, CommandLine, operands_of, line_without_options, HasOperands, AreLine}
use Rattle.snip_run.specs.Arguments.{IsSound, IsCommandOf, TakesOption}
use Rattle.snip_run.specs.Arguments.{Says}
use Rattle.snip_run.proofs.Reading.{Continues, BeginsNone, continues_more, continues_all, only_operands}
use Rattle.snip_run.proofs.arguments.command_of.Goals as goal

-- the rest of the arguments, as slicing gives it
sliced : (ws : List (Bor Argument)) (at : ℕ) → take (length ws - at) (drop at ws) ≡ drop at ws
sliced ws at = take_all (length ws - at) (drop at ws) (omega (arith, length-drop at ws))

drop-drop : (at count : ℕ) (ws : List (Bor Argument)) → drop count (drop at ws) ≡ drop (at + count) ws
drop-drop at count ws = grind (arith, common_steps)

-- an option at `at` is followed by arguments within the list
within : (ws : List (Bor Argument)) (at count : ℕ) (old new : Options) → at ≤ length ws → TakesOption (take (length ws - at) (drop at ws)) old new count
    → at + count ≤ length ws
within ws at count old new inside taken =
    let t = subst (λ (rest : List (Bor Argument)). TakesOption rest old new count) (sliced ws at) taken in
    omega (arith, t.within, length-drop at ws)

-- what the loop keeps goes on after an option
after : (ws : List (Bor Argument)) (at count : ℕ) (old new : Options) → Continues (arguments_at ws) (arguments_at (drop at ws)) old
    → TakesOption (take (length ws - at) (drop at ws)) old new count → Continues (arguments_at ws) (arguments_at (drop (at + count) ws)) new
after ws at count old new so_far taken =
    let t = subst (λ (rest : List (Bor Argument)). TakesOption rest old new count) (sliced ws at) taken in
    let begins = t.begins ∙ ap (λ (rest : List (Bor Argument)). arguments_of t.setting ++ arguments_at rest) (drop-drop at count ws) in
    continues_more (arguments_at ws) (arguments_at (drop at ws)) (arguments_at (drop (at + count) ws)) old new t.setting so_far t.sound begins t.options

pub loop-changed-preserved : goal.loop-changed-preserved
loop-changed-preserved c =
    record {
      within = within c.args.args.now c.loop-changed.at c.in-Some.count c.loop-changed.options c.in-Some.changed c.loop-changed.invariant.within
          c.in-Some.ensures.taken;
      so_far = after c.args.args.now c.loop-changed.at c.in-Some.count c.loop-changed.options c.in-Some.changed c.loop-changed.invariant.so_far
          c.in-Some.ensures.taken;
    }

begins_none : (ws : List (Bor Argument)) (at : ℕ) → BeginsNone (arguments_at (take (length ws - at) (drop at ws))) → BeginsNone (arguments_at (drop at ws))
begins_none ws at none = subst (λ (rest : List (Bor Argument)). BeginsNone (arguments_at rest)) (sliced ws at) none

-- where the rest is no operands, the arguments are no line
no_line : (ws : List (Bor Argument)) (at : ℕ) (options : Options) → Continues (arguments_at ws) (arguments_at (drop at ws)) options
    → BeginsNone (arguments_at (take (length ws - at) (drop at ws)))
    → ((line : CommandLine) → arguments_at (take (length ws - at) (drop at ws)) ≡ operands_of line → ⊥) → (line : CommandLine) → AreLine (arguments_at ws) line
    → ⊥
no_line ws at options so_far none no_operands line h =
    let (next, here, _) = so_far.reads line h in
    let is = only_operands (arguments_at (drop at ws)) (begins_none ws at none) next here in
    no_operands next (ap (λ (rest : List (Bor Argument)). arguments_at rest) (sliced ws at) ∙ is.1)

pub returns-in_err-operands_in-clause-each_line : goal.returns-in_err-operands_in-clause-each_line
returns-in_err-operands_in-clause-each_line c = λ line h.
    absurd (no_line c.args.args.now c.loop-changed.at c.loop-changed.options c.loop-changed.invariant.so_far (c.in_default.ensures.none refl)
    (c.in_err-operands_in.ensures.none refl) line h)

found : (r : Option SnipCommand) (P Q : SnipCommand → Type 0) → IsSome r → IfSome r P → ((c : SnipCommand) → P c → Q c) → IsSomeAnd r Q
found None P Q some p q = absurd cc
found (Some c) P Q some p q = q c p

-- what is said of the operands is said of the line
said : (ws : List (Bor Argument)) (at : ℕ) (options : Options) (o : Operands) (r : Option SnipCommand)
    → Continues (arguments_at ws) (arguments_at (drop at ws)) options → BeginsNone (arguments_at (take (length ws - at) (drop at ws)))
    → arguments_at (take (length ws - at) (drop at ws)) ≡ operands_of (line_without_options o) → IfSome r (Says options (line_without_options o))
    → (HasOperands (line_without_options o) → IsSome r) → (line : CommandLine) → AreLine (arguments_at ws) line → IsSomeAnd r (Says no_options line)
said ws at options o r so_far none whole says form line h =
    let is = ap (λ (rest : List (Bor Argument)). arguments_at rest) (sym (sliced ws at)) ∙ whole in
    let (has, goes) = continues_all (arguments_at ws) (arguments_at (drop at ws)) options so_far (begins_none ws at none) line h
    (line_without_options o) refl is in
    found r (Says options (line_without_options o)) (Says no_options line) (form has) says goes

pub returns-clause-each_line : goal.returns-clause-each_line
returns-clause-each_line c = said c.args.args.now c.loop-changed.at c.loop-changed.options c.in_ok-operands_in.field-0 c.command_with.result
    c.loop-changed.invariant.so_far (c.in_default.ensures.none refl) c.in_ok-operands_in.ensures.whole c.command_with.ensures.says c.command_with.ensures.form.1

commanded : (ws : List (Bor Argument)) (at : ℕ) (options : Options) (o : Operands) (r : Option SnipCommand)
    → Continues (arguments_at ws) (arguments_at (drop at ws)) options → arguments_at (take (length ws - at) (drop at ws)) ≡ operands_of (line_without_options o)
    → IfSome r (Says options (line_without_options o)) → (IsSome r → HasOperands (line_without_options o)) → IfSome r (IsCommandOf (arguments_at ws))
commanded ws at options o None so_far whole says has = tt
commanded ws at options o (Some c) so_far whole says has =
    let is = ap (λ (rest : List (Bor Argument)). arguments_at rest) (sym (sliced ws at)) ∙ whole in
    let (line, h, to_line) = so_far.form (line_without_options o) (record { whole = is; settings = All-nil IsSound; operands = has refl }) in
    (line, h, to_line c says)

pub returns-clause-command : goal.returns-clause-command
returns-clause-command c = commanded c.args.args.now c.loop-changed.at c.loop-changed.options c.in_ok-operands_in.field-0 c.command_with.result
    c.loop-changed.invariant.so_far c.in_ok-operands_in.ensures.whole c.command_with.ensures.says c.command_with.ensures.form.0
