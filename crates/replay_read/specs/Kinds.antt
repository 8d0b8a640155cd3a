-- The names of kinds, as the format writes them.
use Rattle.std.specs.Prelude.{ℕ, List, codes}
use Rattle.snippet_style.specs.declared.role.LevelInner.{LevelInner}
use Rattle.snippet_style.specs.declared.role.LevelInner.TheVariants.{Error, Warning, Info, Note, Help}
use Rattle.snippet_model.specs.declared.snippet.AnnotationKind.{AnnotationKind}
use Rattle.snippet_model.specs.declared.snippet.AnnotationKind.TheVariants.{Primary, Context, Visible}

-- the name of a kind of level
abbrev pub kind_name : LevelInner → List ℕ
kind_name Error = codes "error"
kind_name Warning = codes "warning"
kind_name Info = codes "info"
kind_name Note = codes "note"
kind_name Help = codes "help"

-- the name of a kind of annotation
abbrev pub mark_name : AnnotationKind → List ℕ
mark_name Primary = codes "primary"
mark_name Context = codes "context"
mark_name Visible = codes "visible"
