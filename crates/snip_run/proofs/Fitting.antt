-- The title and the label of a command fit where its arguments do.
use Rattle.std.proofs.Common.{◌≡◌, ◌∷◌, List, All, Option, Some, None, IfSome, Bor, refl, sym, subst, arith}
use Rattle.std.specs.List.{Contains, flat_map}
use Rattle.std.specs.Option.{option_map, option_to_list}
use Rattle.std.proofs.lemmas.List.Elements.{All-contains, Contains-append_right}
use Rattle.snip_run.specs.declared.arguments.SnipCommand.{SnipCommand}
use Rattle.snip_run.specs.Arguments.{Argument, CommandLine, AreLine, Says, no_options, operands_of, arguments_of}
use Rattle.annotate_snippets.specs.Fits.{TextFits}

-- an operand is one of the arguments
operand_fits : (args : List Argument) (line : CommandLine) → AreLine args line → All TextFits args → (argument : Argument)
    → Contains (operands_of line) argument → TextFits argument
operand_fits args line are fits argument among =
    let front : List Argument = flat_map arguments_of line.settings in
    All-contains TextFits args argument fits
    (subst (λ ws. Contains ws argument) (sym are.whole) (Contains-append_right front (operands_of line) argument among))

-- the title of a command fits, where the arguments do
pub title_fits : (args : List Argument) (line : CommandLine) (command : SnipCommand) → AreLine args line → Says no_options line command → All TextFits args
    → TextFits command.title.now
title_fits args line command are says fits =
    subst TextFits (sym says.title) (operand_fits args line are fits line.title (3, omega arith, refl))

-- a label is the last of them
given_label : (given : Option (Bor Argument)) (own : Option Argument) → option_map (λ (t : Bor Argument). t.now) given ≡ own → IfSome own TextFits
    → IfSome given (λ t. TextFits t.now)
given_label None own same fits = tt
given_label (Some t) None same fits = cc
given_label (Some t) (Some w) same fits =
    let argument : t.now ≡ w = cc in
    subst TextFits (sym argument) fits

own_label : (args : List Argument) (line : CommandLine) → AreLine args line → All TextFits args → (own : Option Argument) → line.label ≡ own
    → IfSome own TextFits
own_label args line are fits None is = tt
own_label args line are fits (Some w) is =
    operand_fits args line are fits w (subst (λ own. Contains (line.file ∷ line.start ∷ line.end ∷ line.title ∷ option_to_list own) w) (sym is)
    (4, omega arith, refl))

-- the label of a command fits, where the arguments do
pub label_fits : (args : List Argument) (line : CommandLine) (command : SnipCommand) → AreLine args line → Says no_options line command → All TextFits args
    → IfSome command.label (λ t. TextFits t.now)
label_fits args line command are says fits =
    given_label command.label line.label says.label (own_label args line are fits line.label refl)
