use Rattle.std.proofs.Common.{◌≡◌, ◌++◌, string_bytes}
use Rattle.std.specs.List.{flat_map}
use Rattle.redraw_run.specs.Index.{row}
use Rattle.redraw_run.proofs.page.Page.add_rows.Given as goal

-- what stands there, with what is left, is all that is to stand there
abbrev pub invariant-loop-name : goal.invariant-loop-name
invariant-loop-name l =
    string_bytes l.text ++ flat_map (λ f. row (string_bytes f.0) f.1) l.name-iterator
    ≡ string_bytes l.fn.text ++ flat_map (λ f. row (string_bytes f.0) f.1) l.self.files.entries
