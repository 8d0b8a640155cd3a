use Rattle.std.proofs.Common.{◌≡◌, ◌∙◌, ◌<◌, ◌≤◌, IfSome, MatchOption, Some, ap, codes, get_or, is_some, length, map, option_map, subst, sym, true}
use Rattle.std.specs.List.{HoldsAt}
use Rattle.serde_json.specs.Find.{as_array, get}
use Rattle.serde_json.specs.View.{items_view, view}
use Rattle.json_lines.specs.Lenient.{values}
use Rattle.json_lines.proofs.Values.{values_of}
use Rattle.redraw_run.specs.Logged.{items_in}
use Rattle.redraw_run.proofs.Fated.{first_file, some_mapped}
use Rattle.redraw_run.proofs.kind.eslint_files.Goals as goal

pub returns-then-is_some-2 : goal.returns-then-is_some-2
returns-then-is_some-2 c =
    let d = view c.args.value.now in
    let files = c.as_slice-files.result.now in
    let first = c.in_ok-first.first.now in
    let read : as_array d ≡ Some (items_view c.in_ok-as_array.field-0.now.items) =
    sym c.as_array.ensures ∙ ap (option_map (λ v. items_view v.now.items)) c.in_ok-as_array.was in
    let listed : items_in d ≡ map view files =
    ap values read ∙ values_of (map view c.in_ok-as_array.field-0.now.items) ∙ ap (map view) (sym c.as_slice-files.ensures.value) in
    let some : 0 < length files =
    (subst (λ o. MatchOption o (length files ≤ 0) (λ x. (0 < length files) × HoldsAt (λ y. x.now ≡ y) files 0)) c.in_ok-first.was
    c.first.ensures.item.3).0 in
    let is : first ≡ get_or files 0 first = subst (λ o. IfSome o (λ x. x.now ≡ get_or files 0 x.now)) c.in_ok-first.was c.first.ensures.item.1 in
    let path : is_some (get (codes "filePath") (view first)) ≡ true =
    ap is_some (sym c.get.ensures) ∙ some_mapped (λ v. view v.now) c.get.result ∙ sym c.is_some.ensures ∙ c.if-is_some.true in
    let messages : is_some (get (codes "messages") (view first)) ≡ true =
    ap is_some (sym c.get-then-is_some.ensures) ∙ some_mapped (λ v. view v.now) c.get-then-is_some.result ∙ sym c.is_some-then-is_some.ensures
    ∙ c.if-is_some-2.true in
    record { files = (listed, first_file files first some is (path, messages)) }
