-- Which lines stretches of lines hold.
use Rattle.std.specs.Prelude.{ℕ, ◌&&◌, nat_le, Bool, not, List}
use Rattle.std.specs.List.{list_any}
use Rattle.snippet_model.specs.declared.snippet.Annotation.{Annotation}
use Rattle.snippet_parts.specs.declared.kept.Stretch.{Stretch}
use Rattle.snippet_parts.specs.Mark.{is_marking, touches}

-- whether a stretch holds line k
abbrev pub holds_line : Stretch → ℕ → Bool
holds_line s k = nat_le s.first k && nat_le k s.last

-- whether one of some stretches holds line k
abbrev pub is_held : List Stretch → ℕ → Bool
is_held stretches k = list_any (λ s. holds_line s k) stretches

-- whether a span that isn't marked touches line k
abbrev pub is_seen : List ℕ → ℕ → Annotation → Bool
is_seen source k a = not (is_marking a.kind) && touches source a k
