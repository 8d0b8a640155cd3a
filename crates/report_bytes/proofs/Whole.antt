-- A report that has bytes is read from them again.
use Rattle.std.proofs.Common.{◌≡◌, ℕ, ◌^◌, ◌<◌, List, [], ◌∷◌, length, Result, Ok, Err, refl, sym, ap, ◌∙◌}
use Rattle.std.specs.Prelude.{IsOkUnless}
use Rattle.std.specs.List.{AllByRecursion}
use Rattle.report_bytes.specs.Request.{AreBytesOf, IsReport, after_request}
use Rattle.report_bytes.specs.declared.request.DrawRequest.{DrawRequest}
use Rattle.report_bytes.specs.Bytes.{IsGroupThen, list_then, settings_then, sheet_then}
use Rattle.report_bytes.specs.Reading.{after_element, after_group, after_list, after_settings, after_sheet, Gives}
use Rattle.report_bytes.specs.Report.{IsElement, IsGroup}
use Rattle.report_bytes.specs.declared.fault.ReadError.{ReadError}
use Rattle.report_bytes.specs.declared.fault.ReadError.TheVariants as errors
use Rattle.report_bytes.proofs.Again.{Any, clash, group_again, list_again, list_over_again, seq, settings_again, sheet_again}

any_all : {X : Type 0} (xs : List X) → AllByRecursion Any xs
any_all [] = tt
any_all (x ∷ xs) = (tt, any_all xs)

-- nothing is left of the bytes of a report
pub request_again : (texts : List (List ℕ)) → length texts < 2 ^ 64 → (r : DrawRequest) (bytes : List ℕ) → IsReport r → AreBytesOf texts r bytes
    → after_request (length texts) bytes ≡ Ok []
unfolding after_request AreBytesOf
request_again texts few r bytes is are =
    ap (after_request (length texts)) are.1 ∙ seq _ (settings_again r.settings _ tt)
    (seq _ (list_again sheet_then after_sheet Any sheet_again r.sheets.items _ (is.0, any_all r.sheets.items))
    (seq _ (list_over_again (IsGroupThen texts) (after_group (length texts)) IsGroup (group_again texts few) r.groups.items are.0 [] is.1 are.2) refl))

-- what was returned for the bytes of a report is a value, or memory ran out
pub no_fault : {X : Type 0} (texts : List (List ℕ)) (result : Result X ReadError) (bytes : List ℕ) (r : DrawRequest) → length texts < 2 ^ 64
    → Gives (λ x. []) result (after_request (length texts) bytes) → IsReport r → AreBytesOf texts r bytes → IsOkUnless result errors.Memory
no_fault texts (Ok x) bytes r few gives is same = tt
no_fault texts (Err errors.Memory) bytes r few gives is same = refl
no_fault texts (Err (errors.Fault fault)) bytes r few gives is same = absurd (clash (sym (request_again texts few r bytes is same) ∙ gives))
