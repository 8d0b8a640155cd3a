use Rattle.std.proofs.Common.{◌≡◌, ◌-◌, string_bytes}
use Rattle.serde_json.specs.View.{view}
use Rattle.json_lines.specs.Field.{lent_text}
use Rattle.redraw_tools.specs.Path.{based}
use Rattle.redraw_tools.proofs.uri.add_bases.Given as goal

-- the bases that are left to go come before the address so far as all of them do before the first
abbrev pub invariant-loop-count : goal.invariant-loop-count
invariant-loop-count l =
    based (16 - l._count) (view l.run) (lent_text l.base) (string_bytes l.whole)
    ≡ based 16 (view l.run) (lent_text l.initial.base) (string_bytes l.initial.whole)
