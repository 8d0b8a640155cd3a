use Rattle.std.proofs.Common.{◌≡◌, ◌++◌, string_bytes}
use Rattle.std.specs.List.{flat_map}
use Rattle.redraw_run.specs.Index.{choice_row}
use Rattle.redraw_run.proofs.page.Page.add_choice_rows.Given as goal

-- what stands there, with what is left, is all that is to stand there
abbrev pub invariant-loop-name : goal.invariant-loop-name
invariant-loop-name l =
    string_bytes l.text ++ flat_map (λ f. choice_row (string_bytes f.0) f.1) l.name-iterator
    ≡ string_bytes l.fn.text ++ flat_map (λ f. choice_row (string_bytes f.0) f.1) l.self.files.entries
