use Rattle.snippet_parts.proofs.Common.{common_steps, ◌≡◌, ◌<◌, ◌+◌, ◌-◌, ap, sym, subst, ◌∙◌, [], List, ℕ, length, take, drop, get_or, arith, Eof, Line}
use Rattle.snippet_parts.proofs.Common.{Source, line_bytes, source_lines, start_of, IsLineWithEnd, length-source_lines, newline_count-le, start_of-le}
use Rattle.snippet_parts.proofs.Common.{IsCharBoundary-start_of, IsLine-at, IsOneLine-line, line_bytes-slice, LineInfo, table_entry, entry_at, text-only}
use Rattle.snippet_parts.proofs.TableLemmas.{entry_at-is}
use Rattle.snippet_parts.proofs.source_map.SourceMap.line_info.Goals as goal

-- what is said of the source that the map is seen as holds of the one that it has
lines_alike : (s t : Source) → s ≡ t → length (source_lines s.text) ≡ length (source_lines t.text)
lines_alike s t same = ap (λ (u : Source). length (source_lines u.text)) same

starts_alike : (s t : Source) (k at : ℕ) → s ≡ t → at ≡ start_of (source_lines t.text) k → at ≡ start_of (source_lines s.text) k
starts_alike s t k at same is = is ∙ sym (ap (λ (u : Source). start_of (source_lines u.text) k) same)

pub overflow_add-index : goal.overflow_add-index
overflow_add-index c = grind (arith, common_steps, lines_alike, c.requires.within, length-source_lines, newline_count-le)

pub range-requires : goal.range-requires
range-requires c =
    grind (arith, common_steps, starts_alike, c.start_of_line-start.ensures.value, c.start_of_line-end.ensures.value, start_of-le, IsCharBoundary-start_of)

-- the bytes of the line
bytes : (source : List ℕ) (k start end : ℕ) (slice : List ℕ) → k < length (source_lines source) → start ≡ start_of (source_lines source) k
    → end ≡ start_of (source_lines source) (k + 1) → slice ≡ take (end - start) (drop start source)
    → slice ≡ line_bytes (get_or (source_lines source) k ([], Eof))
bytes source k start end slice within start_is end_is is = grind (arith, common_steps, line_bytes-slice)

pub without_line_end-requires : goal.without_line_end-requires
without_line_end-requires c =
    let source : List ℕ = c.self.inside.source.now in
    let k : ℕ = c.args.index in
    let within : k < length (source_lines source) = omega (arith, lines_alike _ _ c.self.view_is, c.requires.within) in
    let line : Line = get_or (source_lines source) k ([], Eof) in
    record {
      one_line = subst IsLineWithEnd (sym (bytes source k c.start_of_line-start.result c.start_of_line-end.result c.range.result.now within
          (starts_alike _ _ k _ c.self.view_is c.start_of_line-start.ensures.value)
          (starts_alike _ _ (k + 1) _ c.self.view_is c.start_of_line-end.ensures.value)
          c.range.ensures.value)) (IsOneLine-line line (IsLine-at source k within));
    }

pub returns : goal.returns
returns c =
    let m = c.self.inside in
    let source : List ℕ = m.source.now in
    let k : ℕ = c.args.index in
    let ls : List Line = source_lines source in
    let within : k < length ls = omega (arith, lines_alike _ _ c.self.view_is, c.requires.within) in
    let start = starts_alike _ _ k _ c.self.view_is c.start_of_line-start.ensures.value in
    let end = starts_alike _ _ (k + 1) _ c.self.view_is c.start_of_line-end.ensures.value in
    let line : Line = get_or ls k ([], Eof) in
    let cut = c.without_line_end.ensures in
    let whole : line_bytes line ≡ line_bytes (c.without_line_end.result.0.now, c.without_line_end.result.1) = sym
    (bytes source k c.start_of_line-start.result c.start_of_line-end.result c.range.result.now within start end c.range.ensures.value) ∙ cut.whole in
    let text : c.without_line_end.result.0.now ≡ line.0 = text-only line c.without_line_end.result.0.now c.without_line_end.result.1
    (IsLine-at source k within) cut.line whole in
    let first : m.line_start ≡ c.args.self.now.first = ap (λ (s : Source). s.first) c.self.view_is in
    let info : LineInfo = record {
      line = c.without_line_end.result.0;
      line_index = c.line_number_of.result;
      start_byte = c.start_of_line-start.result;
      end_byte =
          c.start_of_line-end.result;
    } in
    record {
      entry = subst (λ (s : Source). table_entry info ≡ entry_at s.first (source_lines s.text) k) c.self.view_is
          (entry_at-is info m.line_start ls k text (omega (arith, first, c.line_number_of.ensures.value)) start end);
    }
