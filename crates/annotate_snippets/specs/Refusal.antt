-- The words of a refusal, and of a report that isn't written.
use Rattle.std.specs.Prelude.{ℕ, List, ◌++◌, codes, decimal}
use Rattle.annotate_snippets.specs.declared.renderer.error.RenderError.{RenderError}
use Rattle.annotate_snippets.specs.declared.renderer.error.RenderError.TheVariants.{NoGroup, NoTitle, SpanReversed, SpanPastEnd, SpanOffBoundary}
use Rattle.annotate_snippets.specs.declared.renderer.error.RenderError.TheVariants.{PatchesOverlap, LineNumberTooLarge, Memory}
use Rattle.annotate_snippets.specs.declared.renderer.to_writer.RenderToError.{RenderToError}
use Rattle.annotate_snippets.specs.declared.renderer.to_writer.RenderToError.TheVariants.{Refused, Write}

-- the place of an element, and what is said of it
abbrev pub of_element : ℕ → ℕ → List ℕ → List ℕ
of_element group element said = codes "group " ++ (decimal group ++ (codes ", element " ++ (decimal element ++ said)))

-- the place of a marker, and what is said of it
abbrev pub of_marker : ℕ → ℕ → ℕ → List ℕ → List ℕ
of_marker group element marker said = of_element group element (codes ", marker " ++ (decimal marker ++ said))

-- the words of a refusal
abbrev pub refusal_text : RenderError → List ℕ
refusal_text NoGroup = codes "a short message needs a group"
refusal_text NoTitle = codes "a short message needs a title"
refusal_text (SpanReversed group element marker) = of_marker group element marker (codes ": span is reversed")
refusal_text (SpanPastEnd group element marker) = of_marker group element marker (codes ": span ends past the source")
refusal_text (SpanOffBoundary group element marker) = of_marker group element marker (codes ": span is off a character border")
refusal_text (PatchesOverlap group element first second) =
    of_element group element (codes ": markers " ++ (decimal first ++ (codes " and " ++ (decimal second ++ codes " overlap"))))
refusal_text (LineNumberTooLarge group element) = of_element group element (codes ": line numbers are too large")
refusal_text (Memory refused) = codes "out of memory"

-- the words of what keeps a report from being written: those of the refusal, or that it can't be, with no word of why
abbrev pub write_text : RenderToError → List ℕ
write_text (Refused refusal) = refusal_text refusal
write_text (Write error) = codes "the report can't be written"
