-- What a title and a message have in common.
use Rattle.std.specs.Prelude.{ℕ, Bool, true, false, List, Option, None, IfSome}
use Rattle.std.specs.Cow.{cow_str_bytes}
use Rattle.snippet_model.specs.declared.level.Level.{Level}
use Rattle.snippet_model.specs.declared.level.LevelName.{LevelName}
use Rattle.snippet_model.specs.declared.level.LevelName.TheVariants.{Standard, Hidden, Own}
use Rattle.snippet_model.specs.declared.snippet.Id.{Id}
use Rattle.snippet_model.specs.declared.snippet.Title.{Title}
use Rattle.snippet_model.specs.declared.snippet.Message.{Message}
use Rattle.snippet_model.specs.Fits.{TextFits, LevelFits, IdFits}

-- what a title or a message returns: its level, its identifier if it has one, the bytes of its text, and whether that text
-- is trusted
pub record Heading : Type 0 where
  pub level : Level
  pub id : Option Id
  pub text : List ℕ
  pub allows_styling : Bool

-- what a title returns
abbrev pub heading_of_title : Title → Heading
heading_of_title title =
    record { level = title.level; id = title.id; text = cow_str_bytes title.text; allows_styling = title.allows_styling }

-- what a message returns: it has no identifier, and its text is trusted
abbrev pub heading_of_message : Message → Heading
heading_of_message message =
    record { level = message.level; id = None; text = cow_str_bytes message.text; allows_styling = true }

-- whether a level's name isn't shown
abbrev pub is_hidden : LevelName → Bool
is_hidden Standard = false
is_hidden Hidden = true
is_hidden (Own name) = false

-- each text of a title or message fits
abbrev pub HeadingFits : Heading → Type 0
HeadingFits heading = LevelFits heading.level × TextFits heading.text × IfSome heading.id IdFits
