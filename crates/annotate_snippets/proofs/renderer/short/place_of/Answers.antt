use Rattle.std.proofs.lemmas.Grind.{common_steps}
use Rattle.annotate_snippets.proofs.Common.{◌≡◌, ◌∙◌, IfSome, ℕ, List, ap, arith, length, rules, string_bytes, subst, sym, true}
use Rattle.annotate_snippets.proofs.Common.{cow_str_bytes, IsUtf8-string_bytes, chars-nil, length-source_lines, TextFits, annotated_lines}
use Rattle.annotate_snippets.proofs.Common.{origin_text, OriginLocation, path_bytes, numbered_source, place_named}
use Rattle.std.proofs.Common.{chars}
use Rattle.annotate_snippets.proofs.ShortLemmas.{PlaceFits, place-added, place-of_none, origin_text-place_of_cause, place-short}
use Rattle.annotate_snippets.proofs.renderer.short.place_of.Goals as goal

pub map_of-requires-clause-numbers : goal.map_of-requires-clause-numbers
map_of-requires-clause-numbers c = omega (arith, length-source_lines (cow_str_bytes c.args.snippet.now.source.text), c.requires.drawable.numbers)

pub named_place-place-requires : goal.named_place-place-requires
named_place-place-requires c = grind (arith, common_steps)

pub returns-in_default : goal.returns-in_default
returns-in_default c = record {
  value = ap chars c.new.ensures.bytes ∙ chars-nil ∙ sym (place-of_none c.args.renderer.now c.args.snippet.now c.args.snippet.now.path c.in_default.not-Some);
  short = omega (arith, ap (λ bs. length (chars bs)) c.new.ensures.bytes, ap length chars-nil);
}

pub returns : goal.returns
returns c =
    let s = c.args.snippet.now in
    let path : List ℕ = cow_str_bytes c.in-Some.path in
    let place : OriginLocation = c.named_place-place.result in
    let map_is : c.in_ok-map.map ≡ numbered_source s = c.in_ok-map.ensures.ok in
    let own : place ≡ place_named true (annotated_lines s.fold (numbered_source s) s.markers.items) =
    cc (c.named_place-place.ensures.value s.fold, map_is, c.deref.ensures.value) in
    let text : chars (string_bytes c.in_ok-text.text) ≡ origin_text c.args.renderer.now.anonymized_origin_line_numbers path place = c.in_ok-text.ensures.value
    ∙ ap (λ bs. origin_text c.args.renderer.now.anonymized_origin_line_numbers bs place) c.as_str.ensures.value in
    let is = place-added _ _ _ (IsUtf8-string_bytes c.in_ok-text.text) text c.in_ok-push_str.ensures.bytes in
    let short : TextFits path = subst (λ p. IfSome p (λ t. TextFits (cow_str_bytes t))) c.in-Some.is c.requires.fits.1 in
    let fits : PlaceFits place = search rules in
    record {
      value = is ∙ origin_text-place_of_cause c.args.renderer.now s path place (ap path_bytes c.in-Some.is) own;
      short = place-short c.args.renderer.now.anonymized_origin_line_numbers path place (string_bytes c.push_str.new.self) short fits is;
    }
