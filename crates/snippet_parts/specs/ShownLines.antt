-- Lines that are shown, and those among them that are kept.
use Rattle.std.specs.Prelude.{List, filter, map, not}
use Rattle.snippet_parts.specs.declared.entries.AnnotatedLineInfo.{AnnotatedLineInfo}
use Rattle.snippet_parts.specs.declared.shown_line.ShownLine.{ShownLine}

-- these lines, with their entries
abbrev pub infos_of : List ShownLine → List AnnotatedLineInfo
infos_of lines = map (λ line. line.info) lines

-- those of them that are kept, and don't just stand between two that are
abbrev pub kept_of : List ShownLine → List AnnotatedLineInfo
kept_of lines = infos_of (filter (λ line. not line.between) lines)
