-- A text cut after its first characters.
use Rattle.snippet_grid.proofs.Common.{common_steps, ◌≡◌, ℕ, ◌+◌, ◌-◌, ◌<◌, ◌≤◌, true, List, ◌++◌, length, take, drop, sym, ap, ◌∙◌, subst, arith, encode_utf8}
use Rattle.snippet_grid.proofs.Common.{encode_utf8_all, is_utf8, option_copied, encodes-chars, encodes-append, length-le-encodes, IsUtf8-take, IsUtf8-append}
use Rattle.snippet_grid.proofs.Common.{IsUtf8-from_is_utf8, is_utf8-from_IsUtf8, places, same_lists, take-append-drop, drop-take, take-take, length-append}
use Rattle.snippet_grid.proofs.Common.{length-take-le, length-drop, IsRun, IsPart, run_bytes, run_chars, Run, bytes_of}
use Rattle.std.proofs.Common.{chars, IsUtf8}
use Rattle.snippet_grid.proofs.RunLemmas.{stretch, length-stretch_of, IsUtf8-run_bytes}
pub use Rattle.snippet_style.proofs.CutLemmas.{text_parts, cut_boundary, cut_front, cut_back, bytes-push, IsNext, take-next, drop-next, bytes_within}
pub use Rattle.snippet_style.proofs.CutLemmas.{bytes_next}

-- how long the bytes of a run are
pub run_long : (text : List ℕ) (run : Run) → IsRun text run → length (run_bytes text run) ≡ run.end - run.start
run_long text run is = length-stretch_of text run.start run.end is.within

-- where characters take one byte each, so do the first of them
bytes_single : (cs : List ℕ) (n : ℕ) → bytes_of cs ≡ length cs → n ≤ length cs → bytes_of (take n cs) ≡ n
bytes_single cs n single within =
    let front = take n cs in
    let back = drop n cs in
    omega (
      arith,
      single,
      ap bytes_of (take-append-drop n cs),
      ap length (encodes-append front back),
      length-append (encode_utf8_all front)
          (encode_utf8_all back),
      length-le-encodes front,
      length-le-encodes back,
      length-take-le n cs within,
      length-drop n cs,
    )

-- and a run of as many bytes as cells is cut after as many bytes as cells
pub run_single : (text : List ℕ) (run : Run) (n : ℕ) → IsUtf8 text → IsRun text run → run.end - run.start ≡ run.count → n ≤ run.count
    → n ≡ bytes_of (take n (run_chars text run))
run_single text run n utf8 is single within = grind (arith, common_steps, encodes-chars, IsUtf8-run_bytes, bytes_single, run_long, is.counted)

-- how far the first n characters have come
pub record CutSoFar (count : ℕ) (cs : List ℕ) (n at left : ℕ) : Type 0 where
  pub bytes : at ≡ bytes_of (take n cs)
  pub left_is : left + n ≡ count

-- a cut moves on past one more character
pub cut_next : (count : ℕ) (cs : List ℕ) (n m at left c len : ℕ) → IsNext cs n c → m ≡ n + 1 → 0 < left → len ≡ length (encode_utf8 c)
    → CutSoFar count cs n at left → CutSoFar count cs m (at + len) (left - 1)
cut_next count cs n m at left c len next one some is_len so_far = grind (arith, common_steps, take-next, so_far.bytes, bytes-push, so_far.left_is)

-- a cut that has no character left to pass stands after the first characters
pub cut_here : (count : ℕ) (cs : List ℕ) (n at left : ℕ) → left ≡ 0 → CutSoFar count cs n at left → at ≡ bytes_of (take count cs)
cut_here count cs n at left none so_far = grind (arith, common_steps, so_far.left_is, so_far.bytes)

-- a cut that has passed all characters stands after the first characters
pub cut_all : (count : ℕ) (cs : List ℕ) (n at left : ℕ) → length cs ≤ n → count ≤ length cs → CutSoFar count cs n at left → at ≡ bytes_of (take count cs)
cut_all count cs n at left all within so_far = grind (arith, common_steps, so_far.left_is, so_far.bytes)

-- a stretch within a stretch
stretch_within : (text : List ℕ) (s e a b : ℕ) → a ≤ b → b ≤ e - s → e ≤ length text → stretch text (s + a) (s + b) ≡ drop a (take b (stretch text s e))
stretch_within text s e a b ordered inside within =
    same_lists _ _ (grind (arith, places)) (λ k d h. grind (arith, places))

front_within : (text : List ℕ) (s e a : ℕ) → s ≤ e → a ≤ e - s → e ≤ length text → take (s + a) text ≡ take s text ++ take a (stretch text s e)
front_within text s e a ordered inside within =
    same_lists _ _ (grind (arith, places)) (λ k d h. grind (arith, places))

-- the part of a run from one of its cells to before another
pub IsPart-cut : (text : List ℕ) (run part : Run) (from to a b : ℕ) → IsUtf8 text → IsRun text run → run.cell ≤ from → from < to
    → to ≤ run.cell + run.count → a ≡ bytes_of (take (from - run.cell) (run_chars text run))
    → b ≡ bytes_of (take (to - run.cell) (run_chars text run)) → part.row ≡ run.row → part.cell ≡ from → part.count ≡ to - from
    → part.start ≡ run.start + a → part.end ≡ run.start + b → part.role ≡ run.role → option_copied part.link ≡ option_copied run.link
    → IsPart text run from to part
IsPart-cut text run part from to a b utf8 is low some high is_a is_b row cell count start end role link =
    let bytes = run_bytes text run in
    let cs = run_chars text run in
    let i = from - run.cell in
    let j = to - run.cell in
    let utf8_bytes : IsUtf8 bytes = IsUtf8-run_bytes text run utf8 is in
    let long : length bytes ≡ run.end - run.start = run_long text run is in
    let b_within : b ≤ length bytes = omega (arith, is_b, bytes_within bytes j utf8_bytes) in
    let front : List ℕ = take b bytes in
    let utf8_front : IsUtf8 front = IsUtf8-take bytes b utf8_bytes (cut_boundary bytes j b utf8_bytes is_b) in
    let front_chars : chars front ≡ take j cs = cut_front bytes j b utf8_bytes is_b in
    let fewer : take i (chars front) ≡ take i cs = ap (take i) front_chars ∙ take-take i j cs (omega arith) in
    let a_is : a ≡ bytes_of (take i (chars front)) = is_a ∙ sym (ap bytes_of fewer) in
    let a_within : a ≤ b = omega (arith, a_is, bytes_within front i utf8_front, length-take-le b bytes b_within) in
    let part_bytes : run_bytes text part ≡ drop a front =
    ap (λ s. stretch text s part.end) start ∙ ap (λ e. stretch text (run.start + a) e) end
    ∙ stretch_within text run.start run.end a b a_within (omega arith) is.within in
    let index : i + (to - from) ≡ j = omega arith in
    let part_chars : run_chars text part ≡ take (to - from) (drop i cs) =
    ap chars part_bytes ∙ cut_back front i a utf8_front a_is ∙ ap (drop i) front_chars ∙ ap (λ n. drop i (take n cs)) (sym index)
    ∙ drop-take i (to - from) cs in
    let front_at : (n k : ℕ) → n ≡ bytes_of (take k cs) → n ≤ length bytes → is_utf8 (take (run.start + n) text) ≡ true =
    λ n k is_n within_n. is_utf8-from_IsUtf8 (take (run.start + n) text)
    (subst IsUtf8 (sym (front_within text run.start run.end n is.ordered (omega arith) is.within))
    (IsUtf8-append (take run.start text) (take n bytes) (IsUtf8-from_is_utf8 (take run.start text) is.starts)
    (IsUtf8-take bytes n utf8_bytes (cut_boundary bytes k n utf8_bytes is_n)))) in
    record {
      is_run = record {
        ordered = omega (arith, start, end, a_within);
        within = omega (arith, end, is.within, is.ordered, b_within, long);
        starts = ap (λ s. is_utf8 (take s text)) start ∙ front_at a i is_a (omega (arith, a_within, b_within));
        ends = ap (λ e. is_utf8 (take e text)) end ∙ front_at b j is_b b_within;
        counted = omega (arith, count, is.counted, ap length part_chars, length-take-le (to - from) (drop i cs) (omega (arith, is.counted, length-drop i cs)));
        some = omega (arith, count);
        fits = omega (arith, count, cell, is.fits);
      };
      row = row;
      cell = cell;
      count = omega (arith, count);
      role = role;
      link = link;
      chars_are = part_chars;
    }
