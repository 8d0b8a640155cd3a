-- How the arguments of a command line are read, one option after another.
use Rattle.std.proofs.Common.{◌≡◌, cond, List, [], ◌∷◌, ◌++◌, Option, Some, None, All, Contains, fold, refl, sym, ap, ◌∙◌, subst, append_assoc, arith}
use Rattle.std.specs.Prelude.{codes, bytes_eq}
use Rattle.std.specs.List.{flat_map}
use Rattle.std.specs.Option.{option_to_list}
use Rattle.std.proofs.lemmas.List.Elements.{All-head, All-tail, All-cons}
use Rattle.program.specs.declared.options.Options.{Options}
use Rattle.snip_run.specs.declared.arguments.SnipCommand.{SnipCommand}
use Rattle.snip_run.specs.Arguments.{Argument, Setting, Unicode, Text, Short, Styled, Width, arguments_of, option_names, IsSound, no_options, options_with}
use Rattle.snip_run.specs.Arguments.{CommandLine}
use Rattle.snip_run.specs.Arguments.{operands_of, HasOperands, AreLine, Says}

-- the option that arguments begin with, and the arguments after it
abbrev width_front : List Argument → Option (Setting × List Argument)
width_front [] = None
width_front (digits ∷ ws) = Some (Width digits, ws)

abbrev front : List Argument → Option (Setting × List Argument)
front [] = None
front (w ∷ ws) =
    cond (bytes_eq w (codes "--unicode")) (Some (Unicode, ws)) (cond (bytes_eq w (codes "--text")) (Some (Text, ws))
    (cond (bytes_eq w (codes "--short")) (Some (Short, ws)) (cond (bytes_eq w (codes "--styled")) (Some (Styled, ws))
    (cond (bytes_eq w (codes "--width")) (width_front ws) None))))

front-arguments_of : (s : Setting) (xs : List Argument) → front (arguments_of s ++ xs) ≡ Some (s, xs)
front-arguments_of Unicode xs = refl
front-arguments_of Text xs = refl
front-arguments_of Short xs = refl
front-arguments_of Styled xs = refl
front-arguments_of (Width digits) xs = refl

-- arguments begin with one option at most
same_setting : (s t : Setting) (xs ys : List Argument) → arguments_of s ++ xs ≡ arguments_of t ++ ys → (s ≡ t) × (xs ≡ ys)
same_setting s t xs ys e =
    let given = sym (front-arguments_of s xs) ∙ ap front e ∙ front-arguments_of t ys in
    let same : (s, xs) ≡ (t, ys) = cc in
    (ap (λ (p : Setting × List Argument). p.0) same, ap (λ (p : Setting × List Argument). p.1) same)

-- what an option begins with is an option's name
name_begins : (s : Setting) (xs : List Argument) (w : Argument) (ws : List Argument) → w ∷ ws ≡ arguments_of s ++ xs → Contains option_names w
name_begins Unicode xs w ws e = (0, omega arith, cc)
name_begins Text xs w ws e = (1, omega arith, cc)
name_begins Short xs w ws e = (2, omega arith, cc)
name_begins Styled xs w ws e = (3, omega arith, cc)
name_begins (Width digits) xs w ws e = (4, omega arith, cc)

-- where arguments begin with an option, a line's first option is that one
first_setting : (s : Setting) (rest : List Argument) (settings : List Setting) (file : Argument) (more : List Argument)
    → arguments_of s ++ rest ≡ flat_map arguments_of settings ++ file ∷ more → (Contains option_names file → ⊥)
    → (later : List Setting) × (settings ≡ s ∷ later) × (rest ≡ flat_map arguments_of later ++ file ∷ more)
first_setting s rest [] file more e free = absurd (free (name_begins s rest file more (sym e)))
first_setting s rest (t ∷ later) file more e free =
    let same = same_setting s t rest (flat_map arguments_of later ++ file ∷ more)
    (e ∙ append_assoc (arguments_of t) (flat_map arguments_of later) (file ∷ more)) in
    (later, ap (λ (x : Setting). x ∷ later) (sym same.0), same.1)

-- and the arguments after the option are the rest of the line
pub after_option : (s : Setting) (rest : List Argument) (first : Options) (line : CommandLine) → AreLine (arguments_of s ++ rest) line
    → (next : CommandLine) × AreLine rest next × ((c : SnipCommand) → Says (options_with first s) next c → Says first line c)
after_option s rest first line h =
    let (later, same, after) = first_setting s rest line.settings line.file
    (line.start ∷ line.end ∷ line.title ∷ option_to_list line.label) h.whole h.operands.file in (
      record line { settings = later },
      record {
        whole = after;
        settings = All-tail IsSound s later (subst (All IsSound) same h.settings);
        operands = record { file = h.operands.file; start = h.operands.start; end = h.operands.end };
      },
      λ c says. record {
        options = says.options ∙ sym (ap (fold options_with first) same);
        file = says.file;
        start = says.start;
        end = says.end;
        title = says.title;
        label = says.label;
      },
    )

-- an option before a line makes a line
pub before_option : (s : Setting) (rest : List Argument) (first : Options) → IsSound s → (next : CommandLine) → AreLine rest next
    → (line : CommandLine) × AreLine (arguments_of s ++ rest) line × ((c : SnipCommand) → Says (options_with first s) next c → Says first line c)
before_option s rest first sound next h = (
  record next { settings = s ∷ next.settings },
  record {
    whole = ap (λ (ws : List Argument). arguments_of s ++ ws) h.whole
        ∙ sym (append_assoc (arguments_of s) (flat_map arguments_of next.settings) (operands_of next));
    settings = All-cons IsSound s next.settings sound h.settings;
    operands = record { file = h.operands.file; start = h.operands.start; end = h.operands.end };
  },
  λ c says. record {
    options = says.options;
    file = says.file;
    start = says.start;
    end = says.end;
    title = says.title;
    label = says.label;
  },
)

-- no option is what the arguments begin with
abbrev pub BeginsNone : List Argument → Type 0
BeginsNone args = (s : Setting) (rest : List Argument) → IsSound s → args ≡ arguments_of s ++ rest → ⊥

none_given : (args : List Argument) → BeginsNone args → (settings : List Setting) (operands : List Argument) → All IsSound settings
    → args ≡ flat_map arguments_of settings ++ operands → settings ≡ []
none_given args none [] operands sound e = refl
none_given args none (s ∷ later) operands sound e =
    absurd (none s (flat_map arguments_of later ++ operands) (All-head IsSound s later sound)
    (e ∙ append_assoc (arguments_of s) (flat_map arguments_of later) operands))

-- the arguments of a line that gives no option are its operands
pub only_operands : (args : List Argument) → BeginsNone args → (line : CommandLine) → AreLine args line → (line.settings ≡ []) × (args ≡ operands_of line)
only_operands args none line h =
    let empty = none_given args none line.settings (operands_of line) h.settings h.whole in
    (empty, h.whole ∙ ap (λ (s : List Setting). flat_map arguments_of s ++ operands_of line) empty)

same_option : (a b : Option Argument) → option_to_list a ≡ option_to_list b → a ≡ b
same_option None None e = refl
same_option None (Some b) e = absurd cc
same_option (Some a) None e = absurd cc
same_option (Some a) (Some b) e = cc

pub record SameOperands (a b : CommandLine) : Type 0 where
  pub file : a.file ≡ b.file
  pub start : a.start ≡ b.start
  pub end : a.end ≡ b.end
  pub title : a.title ≡ b.title
  pub label : a.label ≡ b.label

pub same_operands : (a b : CommandLine) → operands_of a ≡ operands_of b → SameOperands a b
same_operands a b e =
    record {
      file = cc;
      start = cc;
      end = cc;
      title = cc;
      label = same_option a.label b.label cc;
    }

-- the arguments read so far: each line that all arguments are goes on in the rest, and a line in the rest makes one of all arguments
pub record Continues (args rest : List Argument) (options : Options) : Type 0 where
  pub reads : (line : CommandLine) → AreLine args line
      → (next : CommandLine) × AreLine rest next × ((c : SnipCommand) → Says options next c → Says no_options line c)
  pub form : (next : CommandLine) → AreLine rest next
      → (line : CommandLine) × AreLine args line × ((c : SnipCommand) → Says options next c → Says no_options line c)

-- the options are read on after one more sound setting
pub continues_more : (args rest after : List Argument) (old new : Options) (s : Setting) → Continues args rest old → IsSound s → rest ≡ arguments_of s ++ after
    → new ≡ options_with old s → Continues args after new
continues_more args rest after old new s so_far sound begins set =
    record {
      reads = λ line h.
          let (next, here, from_next) = so_far.reads line h in
          let (last, there, from_last) = after_option s after old next (subst (λ (ws : List Argument). AreLine ws next) begins here) in
          (last, there, λ c says. from_next c (from_last c (subst (λ (o : Options). Says o last c) set says)));
      form = λ last there.
          let (next, here, to_next) = before_option s after old sound last there in
          let (line, h, to_line) = so_far.form next (subst (λ (ws : List Argument). AreLine ws next) (sym begins) here) in
          (line, h, λ c says. to_line c (to_next c (subst (λ (o : Options). Says o last c) set says)));
    }

-- at the operands: what is said of them is said of each line that all arguments are
pub continues_all : (args rest : List Argument) (options : Options) → Continues args rest options → BeginsNone rest → (line : CommandLine) → AreLine args line
    → (o : CommandLine) → o.settings ≡ [] → rest ≡ operands_of o → HasOperands o × ((c : SnipCommand) → Says options o c → Says no_options line c)
continues_all args rest options so_far none line h o empty whole =
    let (next, here, from_next) = so_far.reads line h in
    let (bare, is) = only_operands rest none next here in
    let same = same_operands next o (sym is ∙ whole) in (
      record {
        file = subst (λ (w : Argument). Contains option_names w → ⊥) same.file here.operands.file;
        start = rw (sym same.start) here.operands.start;
        end = rw (sym same.end) here.operands.end;
      },
      λ c says. from_next c (record {
        options = cc (says.options, bare, empty);
        file = cc (says.file, same.file);
        start = rw same.start says.start;
        end = rw same.end says.end;
        title = cc (says.title, same.title);
        label = cc (says.label, same.label);
      }),
    )
