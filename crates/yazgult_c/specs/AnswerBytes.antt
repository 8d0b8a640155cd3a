-- What becomes of the bytes of a report, and the bytes of that.
use Rattle.std.specs.Prelude.{◌≡◌, ◌⊎◌, ℕ, ◌-◌, List, [], ◌∷◌, ◌++◌, Some, Result, Ok, Err, String, codes, length, map, string_bytes}
use Rattle.std.specs.Int.{w64, to_le_bytes}
use Rattle.std.specs.Prelude.{Vec}
use Rattle.std.specs.declared.alloc.Global.{Global}
use Rattle.std.specs.List.{flat_map}
use Rattle.snippet_style.specs.Stylesheet.{plain_sheet}
use Rattle.annotate_snippets.specs.Fault.{first_refusal}
use Rattle.annotate_snippets.specs.WithLaws.{TextsWithLaws}
use Rattle.annotate_snippets.specs.Refusal.{refusal_text}
use Rattle.annotate_snippets.specs.declared.renderer.Renderer.{Renderer}
use Rattle.annotate_snippets.specs.declared.renderer.error.RenderError.{RenderError}
use Rattle.annotate_snippets.specs.declared.renderer.error.RenderError.TheVariants as refusal
use Rattle.report_bytes.specs.Request.{AreBytesOf, after_request}
use Rattle.report_bytes.specs.declared.fault.Wrong.{Wrong}
use Rattle.report_bytes.specs.declared.fault.Wrong.TheVariants.{Short, Flag, Kind, Long, NotText, Trailing}
use Rattle.report_bytes.specs.declared.request.DrawRequest.{DrawRequest}
use Rattle.report_bytes.specs.declared.settings.Settings.{Settings}
use Rattle.replay_answer.specs.Line.{AnswersAlone}
use Rattle.yazgult_c.specs.declared.answer.Answer.{Answer}
use Rattle.yazgult_c.specs.declared.answer.Answer.TheVariants.{Texts, Refused, NoReport, Memory}

-- the renderer of these settings
abbrev pub renderer_of : Settings → Renderer
renderer_of s =
    record {
      anonymized_origin_line_numbers = s.anonymized_origin_line_numbers;
      anonymized_snippet_line_numbers = s.anonymized_snippet_line_numbers;
      term_width = s.term_width;
      decor_style = s.decor_style;
      stylesheet = plain_sheet;
      hyperlink = s.hyperlink;
      short_message = s.short_message;
      no_graphics = s.no_graphics;
      show_line_feeds = s.show_line_feeds;
      context_before = s.context_before;
      context_after = s.context_after;
      wrap = s.wrap;
      mask_controls = s.mask_controls;
      label_lines = s.label_lines;
    }

-- a refusal as an answer; that there was no memory is no refusal
abbrev pub answer_of_refusal : RenderError → Answer
answer_of_refusal (refusal.Memory refused) = Memory
answer_of_refusal other = Refused other

-- what was drawn, or not, as an answer
abbrev pub answer_of_result : Result (Vec (String Global) Global) RenderError → Answer
answer_of_result (Ok texts) = Texts texts
answer_of_result (Err refusal) = answer_of_refusal refusal

-- what becomes of a report: texts that show it, one under each of its sheets, each with its laws, or the refusal that stands first, or
-- nothing where memory ran out
abbrev pub IsDrawn : DrawRequest → Answer → Type 0
IsDrawn r (Texts texts) = TextsWithLaws (renderer_of r.settings) r.groups.items r.sheets.items (map string_bytes texts.items)
IsDrawn r (Refused refusal) = first_refusal (renderer_of r.settings) r.groups.items ≡ Some refusal
IsDrawn r (NoReport wrong place) = ⊥
IsDrawn r Memory = Unit {0}

-- what becomes of some bytes over these texts that are kept: of the report that they are, or, where they are none, what is wrong with them
-- and how many bytes stand before that, or nothing where memory ran out
abbrev pub IsAnswerTo : List (List ℕ) → List ℕ → Answer → Type 0
IsAnswerTo kept input (Texts texts) = (r : DrawRequest) × AreBytesOf kept r input × IsDrawn r (Texts texts)
IsAnswerTo kept input (Refused refusal) = (r : DrawRequest) × AreBytesOf kept r input × IsDrawn r (Refused refusal)
IsAnswerTo kept input (NoReport wrong place) =
    (left : ℕ) × (after_request (length kept) input ≡ Err (record { wrong = wrong; left = left })) × (place ≡ length input - left)
IsAnswerTo kept input Memory = Unit {0}

-- what becomes of a line of JSON: the text that answers it, which says that its texts show the report that the line is, or which refusal
-- of that report stands first, or why it is no report; or that memory ran out
abbrev pub IsLineAnswerTo : List ℕ → List ℕ → Type 0
IsLineAnswerTo line text = AnswersAlone line text ⊎ (text ≡ codes "{\"error\":\"out of memory\",\"line\":1}")

-- ---- the bytes of an answer

-- a number: eight bytes, the little end first
abbrev pub number_bytes : ℕ → List ℕ
number_bytes n = to_le_bytes w64 n

-- a text: how many bytes it has, and its bytes
abbrev pub text_bytes : List ℕ → List ℕ
text_bytes text = number_bytes (length text) ++ text

-- the number of a refusal and the numbers of a marker
abbrev pub marker_bytes : ℕ → ℕ → ℕ → ℕ → List ℕ
marker_bytes number group element marker = number ∷ (number_bytes group ++ (number_bytes element ++ number_bytes marker))

-- the number of a refusal and the numbers of an element
abbrev pub element_bytes : ℕ → ℕ → ℕ → List ℕ
element_bytes number group element = number ∷ (number_bytes group ++ number_bytes element)

-- the number of a refusal and the numbers of two markers
abbrev pub overlap_bytes : ℕ → ℕ → ℕ → ℕ → List ℕ
overlap_bytes group element first second =
    5 ∷ (number_bytes group ++ (number_bytes element ++ (number_bytes first ++ number_bytes second)))

-- the number of a refusal, and the numbers that it names
abbrev pub refusal_fields : RenderError → List ℕ
refusal_fields refusal.NoGroup = 0 ∷ []
refusal_fields refusal.NoTitle = 1 ∷ []
refusal_fields (refusal.SpanReversed group element marker) = marker_bytes 2 group element marker
refusal_fields (refusal.SpanPastEnd group element marker) = marker_bytes 3 group element marker
refusal_fields (refusal.SpanOffBoundary group element marker) = marker_bytes 4 group element marker
refusal_fields (refusal.PatchesOverlap group element first second) = overlap_bytes group element first second
refusal_fields (refusal.LineNumberTooLarge group element) = element_bytes 6 group element
refusal_fields (refusal.Memory refused) = 7 ∷ []

-- a refusal: its number, the numbers that it names, and its words
abbrev pub refusal_bytes : RenderError → List ℕ
refusal_bytes refusal = refusal_fields refusal ++ text_bytes (refusal_text refusal)

-- the number of what is wrong with bytes
abbrev pub wrong_number : Wrong → ℕ
wrong_number Short = 0
wrong_number Flag = 1
wrong_number Kind = 2
wrong_number Long = 3
wrong_number NotText = 4
wrong_number Trailing = 5

-- what is wrong with bytes, in words
abbrev pub wrong_text : Wrong → List ℕ
wrong_text Short = codes "the bytes end before what has to stand here does"
wrong_text Flag = codes "neither 0 nor 1"
wrong_text Kind = codes "there is no kind of this number"
wrong_text Long = codes "a text has 2^56 bytes or more"
wrong_text NotText = codes "a text is not UTF-8"
wrong_text Trailing = codes "bytes stand after the report"

-- an answer: its kind, and then the texts, how many and each; the refusal; what is wrong, at which byte, and its words; or nothing
abbrev pub answer_bytes : Answer → List ℕ
answer_bytes (Texts texts) =
    0 ∷ (number_bytes (length texts.items) ++ flat_map text_bytes (map string_bytes texts.items))
answer_bytes (Refused refusal) = 1 ∷ refusal_bytes refusal
answer_bytes (NoReport wrong place) = 2 ∷ (wrong_number wrong ∷ (number_bytes place ++ text_bytes (wrong_text wrong)))
answer_bytes Memory = 3 ∷ []
