-- What no document in HTML is: what wrong bodies print of small inputs contradicts what stands before and after it, and in it.
use Rattle.std.proofs.Common.{◌≡◌, ◌⊎◌, ◌++◌, ℕ, Bool, List, [], ◌∷◌, Option, Some, ap, arith, codes, length, length-append, subst, sym, true}
use Rattle.std.specs.Io.KnownBytes.{Appends}
use Rattle.std.specs.List.{flat_map}
use Rattle.output_stream.specs.Standing.{Adds, Standing}
use Rattle.output_stream.proofs.Writing.{adds_twice}
use Rattle.redraw_run.specs.Deeds.{State, printed}
use Rattle.redraw_command.specs.declared.terminal.Markup.TheVariants.{Html, Markdown}
use Rattle.redraw_run.specs.Handed.{handed, indent}
use Rattle.redraw_run.specs.Index.{index}
use Rattle.redraw_run.specs.HtmlDocument.{counts_of, html_end, html_start, main_end, page_end}
use Rattle.redraw_run.specs.Run.{Finishes}

-- a tag that another tool writes, here its `<`, is handed on as it is
pub tag_handed_on : (is_workflow : Bool) → handed Html is_workflow (60 ∷ []) ≡ codes "<pre>\n<</pre>\n" → ⊥
tag_handed_on is_workflow is = cc is

-- markup that another tool writes, here `*` in a second line, is handed on as it is in Markdown
pub mark_handed_on : (is_workflow : Bool) → handed Markdown is_workflow (10 ∷ 42 ∷ []) ≡ indent true ++ (10 ∷ 42 ∷ []) → ⊥
mark_handed_on is_workflow is = cc is

-- so is one after a carriage return, which ends a line there
pub return_handed_on : (is_workflow : Bool) → handed Markdown is_workflow (13 ∷ 42 ∷ []) ≡ indent true ++ (13 ∷ 42 ∷ []) → ⊥
return_handed_on is_workflow is = cc is

-- a stream that holds nothing, and to which a write has failed or not
abbrev nothing : Bool → Standing
nothing failed = record { held = Some []; has_failed = failed }

-- a run that was to write a document, and ends with nothing written
pub undocumented : {File Standard : Type 0} (held : File ⊎ Standard → Option (List ℕ)) (names : List (List ℕ)) (a : State) (failed : Bool) (err : Standing)
    (status : ℕ) → a.renderer.markup ≡ Html → a.out.held ≡ Some [] → Finishes File Standard held names a (nothing failed) err status → ⊥
undocumented held names a failed err status html empty run =
    let drawn = run.drawn in
    let within : List ℕ = flat_map (printed a.renderer) drawn.drawn.does.deeds in
    let html_is = a.renderer.markup in
    let before : List ℕ = html_start html_is ++ within in
    let after : List ℕ = html_end html_is drawn.last.tally drawn.files in
    let opened : Adds a.out drawn.last.out before = adds_twice a.out drawn.opened drawn.last.out (html_start html_is) within drawn.opens
    drawn.drawn.does.out in
    let all : Adds a.out run.end.out (before ++ after) = adds_twice a.out drawn.last.out run.end.out before after opened drawn.closes in
    let from : Appends (Some []) run.end.out.held (before ++ after) =
    subst (λ (o : Option (List ℕ)). Appends o run.end.out.held (before ++ after)) empty all.added in
    let to : Appends (Some []) (Some []) (before ++ after) = subst (λ (o : Standing). Appends (Some []) o.held (before ++ after)) (sym run.printed) from in
    let rest : List ℕ = index (counts_of drawn.last.tally) drawn.files ++ page_end in
    let end : length after ≡ length (main_end ++ rest) = ap (λ h. length (html_end h drawn.last.tally drawn.files)) html in
    absurd (omega (arith, ap length to, length-append before after, end, length-append main_end rest))
