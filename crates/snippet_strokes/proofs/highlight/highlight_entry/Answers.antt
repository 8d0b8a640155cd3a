use Rattle.snippet_strokes.proofs.Common.{◌≡◌, ℕ, ◌+◌, ◌-◌, ◌<◌, ◌≤◌, max, length, ap, ◌∙◌, arith, restyled, row_at}
use Rattle.snippet_strokes.proofs.Common.{cells_restyled, is_primary, Strokes, underline_role}
use Rattle.snippet_strokes.proofs.HighlightLaws.{stretch_alike}
use Rattle.snippet_strokes.proofs.highlight.highlight_entry.Goals as goal

-- the cells that are restyled are those of the entry's characters: where a sum saturates, it lies past the row's end
pub returns : goal.returns
returns c =
    let e = c.args.entry.now in
    let old = c.args.buffer.now in
    let row = c.args.row in
    let code = c.layout.inside.code in
    let primary = is_primary e.kind in
    let from = max code (code + e.start.char - c.args.dropped) in
    let to = code + e.end.char - c.args.dropped in
    let start = c.max.result in
    let end = c.saturating_sub-2.result in
    let is_primary_is : c.is_primary-primary.result ≡ primary = c.is_primary-primary.ensures.value in
    let role : c.underline.result.style ≡ underline_role primary = ap (λ (s : Strokes). s.style) c.underline.ensures.value ∙ ap underline_role is_primary_is in
    let first : (k : ℕ) → k < length (row_at old row) → start ≤ k → from ≤ k = λ k there reached.
    omega (arith, c.max.ensures, c.saturating_sub.ensures, c.saturating_add.ensures, there, reached, c.requires.short, c.requires.near) in
    let last : (k : ℕ) → k < length (row_at old row) → k < to → k < end = λ k there left.
    omega (arith, c.saturating_sub-2.ensures, c.saturating_add-2.ensures, there, left, c.requires.short, c.requires.near) in
    rw (← c.layout.view_is) (record {
      value = c.in_ok-set_style_range.ensures.ok
          ∙ ap (λ r. cells_restyled old row start end r c.is_primary-primary.result) role
          ∙ ap (λ b. cells_restyled old row start end (underline_role primary) b) is_primary_is
          ∙ stretch_alike (restyled (underline_role primary) primary) row start end from to old
          (omega (arith, c.max.ensures, c.saturating_sub.ensures, c.saturating_add.ensures))
          (omega (arith, c.saturating_sub-2.ensures, c.saturating_add-2.ensures)) first last;
    })
