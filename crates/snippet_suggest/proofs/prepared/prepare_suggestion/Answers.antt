use Rattle.snippet_suggest.proofs.Common.{◌≡◌, ◌∙◌, ℕ, List, map, ap, arith, subst, cow_str_bytes, IsUtf8, string_bytes, Patch, common_steps, Snippet}
use Rattle.snippet_suggest.proofs.Common.{Source, length-source_lines, TrimmedPatch, edit_of, in_order, edit_bounds, original_bounds_of, trimmed_edit_of}
use Rattle.snippet_suggest.proofs.Common.{IsSplice, edits_of, given_ranges, given_text, shown_kind, trimmed_of, numbered_source}
use Rattle.snippet_suggest.proofs.PreparedLemmas.{counted-is, some_left}
use Rattle.snippet_suggest.proofs.prepared.prepare_suggestion.Goals as goal

pub map_of-requires-clause-numbers : goal.map_of-requires-clause-numbers
map_of-requires-clause-numbers c =
    omega (arith, c.requires.suggestible.lines, length-source_lines (cow_str_bytes c.args.snippet.now.source.text))

pub counted_line-counted-requires-clause-some : goal.counted_line-counted-requires-clause-some
counted_line-counted-requires-clause-some c = grind (arith, common_steps, some_left)

pub returns-clause-prepared : goal.returns-clause-prepared
returns-clause-prepared c =
    let s : Snippet Patch = c.args.snippet.now in
    let source : List ℕ = cow_str_bytes s.source.text in
    let ps : List TrimmedPatch = c.in-Some.splice.patches.items in
    let lines : c.in_ok-map.map ≡ numbered_source s = c.in_ok-map.ensures.ok in
    let of : c.in_ok-map.map.text ≡ source = ap (λ (m : Source). m.text) lines in
    let given : c.deref.result.now ≡ s.markers.items = c.deref.ensures.value in
    let none = rw c.in-Some.is at c.in_ok-splice.ensures.none in
    let splice : IsSplice c.in_ok-map.map.text (map edit_of c.deref.result.now) s.fold c.in-Some.splice = rw c.in-Some.is at c.in_ok-splice.ensures.splice in
    let text : string_bytes c.in-Some.splice.complete ≡ given_text s = cc (splice.value, of, given) in
    let edits : map trimmed_edit_of ps ≡ trimmed_of s = cc (splice.edits, of, given) in
    let originals : map original_bounds_of ps ≡ map edit_bounds (in_order (edits_of s)) = cc (splice.originals, given) in
    let ranges : c.in-Some.splice.ranges.items ≡ given_ranges s = cc (splice.written, of, given) in
    let kind : c.new-kind.result ≡ shown_kind s = cc (c.new-kind.ensures.value, c.source.ensures.value, of, edits, text) in
    record {
      suggestible = c.requires.suggestible;
      utf8 = subst IsUtf8 of c.in_ok-map.ensures.utf8;
      some = λ e. let other = none.1 (given ∙ e) in cc;
      lines = lines;
      text = text;
      edits = edits;
      originals = originals;
      ranges = ranges;
      new = λ k. cc (splice.stretches k, of, given);
      replaced = λ k. cc (splice.replaced k, of, given);
      kind = kind;
      counted = counted-is s c.in_ok-map.map ps (string_bytes c.in-Some.splice.complete) c.new-kind.result c.counted_line-counted.result c.requires.suggestible
          lines text edits originals kind c.counted_line-counted.ensures.value;
    }
