-- The sheets that a value of JSON describes.
use Rattle.std.specs.Prelude.{◌≡◌, ◌⊎◌, ℕ, true, List, [], ◌∷◌, Option, Some, None, codes, fold}
use Rattle.snippet_style.specs.declared.style.AnsiColor.{AnsiColor}
use Rattle.snippet_style.specs.declared.style.AnsiColor.TheVariants.{Black, Red, Green, Yellow, Blue, Magenta, Cyan, White, BrightBlack, BrightRed, BrightGreen}
use Rattle.snippet_style.specs.declared.style.AnsiColor.TheVariants.{BrightYellow, BrightBlue, BrightMagenta, BrightCyan, BrightWhite}
use Rattle.snippet_style.specs.declared.style.Color.{Color}
use Rattle.snippet_style.specs.declared.style.Color.TheVariants.{Ansi, Ansi256, Rgb}
use Rattle.snippet_style.specs.declared.style.Effects.{Effects}
use Rattle.snippet_style.specs.declared.style.Style.{Style}
use Rattle.snippet_style.specs.declared.stylesheet.Stylesheet.{Stylesheet}
use Rattle.snippet_style.specs.Style.{joined_effects, no_effects, plain_style}
use Rattle.snippet_style.specs.Stylesheet.{plain_sheet, default_sheet}
use Rattle.serde_json.specs.Data.{Data}
use Rattle.serde_json.specs.Find.{as_str}
use Rattle.json_lines.specs.Field.{MaySayAt, ListSays, OnlySays, as_whole, given}
use Rattle.replay_read.specs.Shape.{HasShape}
use Rattle.replay_read.specs.declared.shape.Shape.TheVariants as shape
use Rattle.replay_read.specs.declared.effect.EffectName.{EffectName}
use Rattle.replay_read.specs.declared.effect.EffectName.TheVariants as effect

-- the name of a colour of the terminal
abbrev pub color_name : AnsiColor → List ℕ
color_name Black = codes "Black"
color_name Red = codes "Red"
color_name Green = codes "Green"
color_name Yellow = codes "Yellow"
color_name Blue = codes "Blue"
color_name Magenta = codes "Magenta"
color_name Cyan = codes "Cyan"
color_name White = codes "White"
color_name BrightBlack = codes "BrightBlack"
color_name BrightRed = codes "BrightRed"
color_name BrightGreen = codes "BrightGreen"
color_name BrightYellow = codes "BrightYellow"
color_name BrightBlue = codes "BrightBlue"
color_name BrightMagenta = codes "BrightMagenta"
color_name BrightCyan = codes "BrightCyan"
color_name BrightWhite = codes "BrightWhite"

-- whole numbers, in order
abbrev pub AreBytes : Data → List ℕ → Type 0
AreBytes d bytes = ListSays (λ e byte. as_whole e ≡ Some byte) d bytes

-- a colour: by its name, or an object with one field, its index, or its red, green and blue
abbrev pub IsColorOf : Data → Color → Type 0
IsColorOf d (Ansi color) = as_str d ≡ Some (color_name color)
IsColorOf d (Ansi256 index) = OnlySays (λ e byte. as_whole e ≡ Some byte) (codes "ansi256") d index
IsColorOf d (Rgb red green blue) = OnlySays AreBytes (codes "rgb") d (red ∷ green ∷ blue ∷ [])

-- the name of an effect, and the effect alone
abbrev pub effect_name : EffectName → List ℕ
effect_name effect.Bold = codes "BOLD"
effect_name effect.Dimmed = codes "DIMMED"
effect_name effect.Italic = codes "ITALIC"
effect_name effect.Underline = codes "UNDERLINE"
effect_name effect.Blink = codes "BLINK"
effect_name effect.Invert = codes "INVERT"
effect_name effect.Hidden = codes "HIDDEN"
effect_name effect.Strikethrough = codes "STRIKETHROUGH"

abbrev pub effect_of : EffectName → Effects
effect_of effect.Bold = record no_effects { bold = true }
effect_of effect.Dimmed = record no_effects { dimmed = true }
effect_of effect.Italic = record no_effects { italic = true }
effect_of effect.Underline = record no_effects { underline = true }
effect_of effect.Blink = record no_effects { blink = true }
effect_of effect.Invert = record no_effects { invert = true }
effect_of effect.Hidden = record no_effects { hidden = true }
effect_of effect.Strikethrough = record no_effects { strikethrough = true }

-- the effects that are listed, all of them
abbrev pub AreEffectsOf : Data → Effects → Type 0
AreEffectsOf d effects =
    (names : List EffectName) × ListSays (λ e name. as_str e ≡ Some (effect_name name)) d names
    × (effects ≡ fold (λ (joined : Effects) name. joined_effects joined (effect_of name)) no_effects names)

-- the same of a list that may be missing: then there are none
abbrev pub MayBeEffects : Option Data → Effects → Type 0
MayBeEffects None effects = effects ≡ no_effects
MayBeEffects (Some d) effects = AreEffectsOf d effects

-- a style: its colours and its effects, each of which may be missing
pub record IsStyleOf (d : Data) (style : Style) : Type 0 where
  pub only : HasShape shape.Style d
  pub fg : MaySayAt IsColorOf (codes "fg") d style.fg
  pub bg : MaySayAt IsColorOf (codes "bg") d style.bg
  pub effects : MayBeEffects (given (codes "effects") d) style.effects

-- a style that is plain where it is missing
abbrev pub MayBeStyle : Option Data → Style → Type 0
MayBeStyle None style = style ≡ plain_style
MayBeStyle (Some d) style = IsStyleOf d style

-- a sheet that is written out
pub record IsOwnSheetOf (d : Data) (sheet : Stylesheet) : Type 0 where
  pub only : HasShape shape.Sheet d
  pub error : MayBeStyle (given (codes "error") d) sheet.error
  pub warning : MayBeStyle (given (codes "warning") d) sheet.warning
  pub info : MayBeStyle (given (codes "info") d) sheet.info
  pub note : MayBeStyle (given (codes "note") d) sheet.note
  pub help : MayBeStyle (given (codes "help") d) sheet.help
  pub line_num : MayBeStyle (given (codes "line_num") d) sheet.line_num
  pub emphasis : MayBeStyle (given (codes "emphasis") d) sheet.emphasis
  pub none : MayBeStyle (given (codes "none") d) sheet.none
  pub context : MayBeStyle (given (codes "context") d) sheet.context
  pub addition : MayBeStyle (given (codes "addition") d) sheet.addition
  pub removal : MayBeStyle (given (codes "removal") d) sheet.removal

-- a sheet: `plain`, `default`, or one that is written out
abbrev pub IsNamedSheet : List ℕ → Stylesheet → Type 0
IsNamedSheet name sheet =
    ((name ≡ codes "plain") × (sheet ≡ plain_sheet)) ⊎ ((name ≡ codes "default") × (sheet ≡ default_sheet))

abbrev pub IsSheetBy : Option (List ℕ) → Data → Stylesheet → Type 0
IsSheetBy None d sheet = IsOwnSheetOf d sheet
IsSheetBy (Some name) d sheet = IsNamedSheet name sheet

abbrev pub IsSheetOf : Data → Stylesheet → Type 0
IsSheetOf d sheet = IsSheetBy (as_str d) d sheet

-- the sheets of a case: the plain one where they are missing
abbrev pub AreSheetsOf : Option Data → List Stylesheet → Type 0
AreSheetsOf None sheets = sheets ≡ plain_sheet ∷ []
AreSheetsOf (Some d) sheets = ListSays IsSheetOf d sheets
