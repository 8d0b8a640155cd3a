-- Runs in a text that grows, and two runs made one.
use Rattle.snippet_grid.proofs.Common.{◌≡◌, if◌then◌else◌, Result, Ok, Err, IfOk, IfSome, OnOk, OnErr, Option, None, Some, is_ok, ℕ, ◌+◌}
use Rattle.snippet_grid.proofs.Common.{◌≤◌, List, ◌++◌, ◌-◌, length, take, drop, sym, ap, ◌∙◌, arith, subst, length-append, length-take}
use Rattle.snippet_grid.proofs.Common.{length-drop, chars-append, option_copied, IsUtf8, is_utf8, IsCharBoundary, IsRun, IsJoined, Continues, BeginsWith}
use Rattle.snippet_grid.proofs.Common.{run_bytes, run_chars, Run, MainHeaderMsg, ◌<◌, get_or, true, places, same_lists, take-take, take_all, get_or-take}
use Rattle.snippet_grid.proofs.Common.{get_or-drop, cases_lt, IsUtf8-append, IsUtf8-from_is_utf8, is_utf8-from_IsUtf8, IsCharBoundary-from_take, IsUtf8-between}
use Rattle.std.specs.Str.{chars}

-- Stretches of a text that grows at its end.
-- the elements from s to before e
abbrev pub stretch : {X : Type 0} → List X → ℕ → ℕ → List X
stretch xs s e = take (e - s) (drop s xs)

-- a stretch has as many elements as lie between its bounds
pub length-stretch_of : {X : Type 0} (xs : List X) (s e : ℕ) → e ≤ length xs → length (stretch xs s e) ≡ e - s
length-stretch_of xs s e within =
    omega (arith, length-take (e - s) (drop s xs), length-drop s xs, within)

-- a place within the front of a list, or within a stretch of it
pub below_take : {X : Type 0} (xs : List X) (n k : ℕ) → k < length (take n xs) → k < n
below_take xs n k within = omega (arith, within, length-take n xs)

-- an element of a stretch stands in the list as much further on as the stretch starts
pub get_or-stretch : {X : Type 0} (xs : List X) (s e k : ℕ) (d : X) → k < length (stretch xs s e) → get_or (stretch xs s e) k d ≡ get_or xs (s + k) d
get_or-stretch xs s e k d within =
    get_or-take (e - s) (drop s xs) k d (below_take (drop s xs) (e - s) k within) ∙ get_or-drop s xs k d

-- two stretches of which one starts where the other ends are one
pub stretch_joined : {X : Type 0} (xs : List X) (s m e : ℕ) → s ≤ m → m ≤ e → e ≤ length xs → stretch xs s m ++ stretch xs m e ≡ stretch xs s e
stretch_joined xs s m e low high within =
    same_lists _ _ (grind (arith, places)) (λ k d h. grind (arith, places, cases_lt k (m - s)))

stretch_taken : {X : Type 0} (xs : List X) (n s e : ℕ) → e ≤ n → stretch (take n xs) s e ≡ stretch xs s e
stretch_taken xs n s e within =
    same_lists _ _ (grind (arith, places)) (λ k d h. grind (arith, places))

-- a stretch stays when the text grows
pub stretch_grown : (old new : List ℕ) (s e : ℕ) → BeginsWith old new → e ≤ length old → stretch new s e ≡ stretch old s e
stretch_grown old new s e grows within =
    sym (stretch_taken new (length old) s e within) ∙ ap (λ (t : List ℕ). stretch t s e) grows

-- what was added is the stretch after the old end
pub stretch_added : {X : Type 0} (xs ys : List X) → stretch (xs ++ ys) (length xs) (length (xs ++ ys)) ≡ ys
stretch_added xs ys =
    same_lists _ _ (grind (arith, places)) (λ k d h. grind (arith, places))

-- a text with more added begins with the text
pub BeginsWith-append : (old more : List ℕ) → BeginsWith old (old ++ more)
BeginsWith-append old more =
    same_lists _ _ (grind (arith, places)) (λ k d h. grind (arith, places))

-- what is a text with more added begins with the text
pub BeginsWith-added : (old more new : List ℕ) → new ≡ old ++ more → BeginsWith old new
BeginsWith-added old more new is =
    subst (λ (t : List ℕ). BeginsWith old t) (sym is) (BeginsWith-append old more)

-- a text begins with itself
pub BeginsWith-same : (old : List ℕ) → BeginsWith old old
BeginsWith-same old = take_all (length old) old (omega arith)

-- the front of a text stays when the text grows
pub front_grown : (old new : List ℕ) (i : ℕ) → BeginsWith old new → i ≤ length old → take i new ≡ take i old
front_grown old new i grows within =
    sym (take-take i (length old) new within) ∙ ap (take i) grows

-- a text is at least as long as the one that it begins with
pub BeginsWith-le : (old new : List ℕ) → BeginsWith old new → length old ≤ length new
BeginsWith-le old new grows = omega (arith, ap length grows, length-take (length old) new)

-- what begins with a text begins with what that begins with
pub BeginsWith-trans : (a b c : List ℕ) → BeginsWith a b → BeginsWith b c → BeginsWith a c
BeginsWith-trans a b c first second =
    front_grown b c (length a) second (BeginsWith-le a b first) ∙ first

-- a place after whole characters is one where the text may be cut
pub boundary : (text : List ℕ) (i : ℕ) → IsUtf8 text → i ≤ length text → is_utf8 (take i text) ≡ true → IsCharBoundary text i
boundary text i whole within front =
    IsCharBoundary-from_take text i whole within (IsUtf8-from_is_utf8 (take i text) front)

-- a stretch of UTF-8 between two borders of characters is UTF-8
pub IsUtf8-stretch : (text : List ℕ) (s e : ℕ) → IsUtf8 text → s ≤ e → e ≤ length text → is_utf8 (take s text) ≡ true → is_utf8 (take e text) ≡ true
    → IsUtf8 (stretch text s e)
IsUtf8-stretch text s e whole ordered within starts ends =
    IsUtf8-between text s e whole ordered (boundary text s whole (omega arith) starts) (boundary text e whole within ends)

-- the whole of a UTF-8 text ends at a border of characters
pub is_utf8-end : (text : List ℕ) → IsUtf8 text → is_utf8 (take (length text) text) ≡ true
is_utf8-end text whole =
    ap is_utf8 (take_all (length text) text (omega arith)) ∙ is_utf8-from_IsUtf8 text whole

-- whole characters up to a place, and on from it
pub is_utf8-to : (text : List ℕ) (s e : ℕ) → IsUtf8 text → s ≤ e → is_utf8 (take s text) ≡ true → IsUtf8 (stretch text s e) → is_utf8 (take e text) ≡ true
is_utf8-to text s e whole ordered starts rest =
    let split : take e text ≡ take s text ++ stretch text s e =
    same_lists _ _ (grind (arith, places)) (λ k d h. grind (arith, places, cases_lt k s)) in
    ap is_utf8 split ∙ is_utf8-from_IsUtf8 (take s text ++ stretch text s e)
    (IsUtf8-append (take s text) (stretch text s e) (IsUtf8-from_is_utf8 (take s text) starts) rest)

-- what stands where a list has no run
abbrev pub none : Run
none = record { row = 0; cell = 0; count = 0; start = 0; end = 0; role = MainHeaderMsg; link = None }

-- a run has the same bytes once the text has grown
pub run_bytes-grown : (old new : List ℕ) (run : Run) → BeginsWith old new → IsRun old run → run_bytes new run ≡ run_bytes old run
run_bytes-grown old new run grows is = stretch_grown old new run.start run.end grows is.within

-- a run stays one when the text grows
pub IsRun-grown : (old new : List ℕ) (run : Run) → BeginsWith old new → IsRun old run → IsRun new run
IsRun-grown old new run grows is =
    record {
      ordered = is.ordered;
      within = omega (arith, is.within, BeginsWith-le old new grows);
      starts = ap is_utf8 (front_grown old new run.start grows (omega (arith, is.ordered, is.within))) ∙ is.starts;
      ends = ap is_utf8 (front_grown old new run.end grows is.within) ∙ is.ends;
      counted = is.counted ∙ sym (ap (λ (t : List ℕ). length (chars t)) (run_bytes-grown old new run grows is));
      some = is.some;
      fits = is.fits;
    }

-- a run starts between two characters
pub starts_at_boundary : (text : List ℕ) (run : Run) → IsUtf8 text → IsRun text run → IsCharBoundary text run.start
starts_at_boundary text run whole is =
    boundary text run.start whole (omega (arith, is.ordered, is.within)) is.starts

-- a run ends between two characters
pub ends_at_boundary : (text : List ℕ) (run : Run) → IsUtf8 text → IsRun text run → IsCharBoundary text run.end
ends_at_boundary text run whole is = boundary text run.end whole is.within is.ends

-- the bytes of a run are UTF-8
pub IsUtf8-run_bytes : (text : List ℕ) (run : Run) → IsUtf8 text → IsRun text run → IsUtf8 (run_bytes text run)
IsUtf8-run_bytes text run whole is =
    IsUtf8-stretch text run.start run.end whole is.ordered is.within is.starts is.ends

-- two runs, where the text goes on after the first with the second's characters
pub IsJoined-here : (text : List ℕ) (first second whole : Run) → IsUtf8 text → IsRun text first → IsRun text second → Continues first second
    → take (second.end - second.start) (drop first.end text) ≡ run_bytes text second → whole.row ≡ first.row → whole.cell ≡ first.cell
    → whole.count ≡ first.count + second.count → whole.start ≡ first.start → whole.end ≡ first.end + (second.end - second.start)
    → whole.role ≡ first.role → option_copied whole.link ≡ option_copied first.link → IsJoined text text first second whole
IsJoined-here text first second whole utf8 one two goes there row cell count start end role link =
    let ordered : first.end ≤ whole.end = omega (arith, end) in
    let stands : stretch text first.end whole.end ≡ run_bytes text second =
    ap (λ n. take n (drop first.end text)) (omega (arith, end)) ∙ there in
    let within : whole.end ≤ length text =
    omega (
      arith,
      end,
      one.within,
      two.ordered,
      two.within,
      length-take (second.end - second.start)
          (drop first.end text),
      length-drop first.end text,
      ap length there,
      length-stretch_of text second.start second.end two.within,
    ) in
    let bytes : run_bytes text whole ≡ run_bytes text first ++ run_bytes text second =
    ap (λ s. stretch text s whole.end) start ∙ sym (stretch_joined text first.start first.end whole.end one.ordered ordered within)
    ∙ ap (λ (t : List ℕ). run_bytes text first ++ t) stands in
    let characters : run_chars text whole ≡ run_chars text first ++ run_chars text second =
    ap chars bytes ∙ chars-append (run_bytes text first) (run_bytes text second) (IsUtf8-run_bytes text first utf8 one) in
    record {
      is_run = record {
        ordered = omega (arith, start, one.ordered, ordered);
        within = within;
        starts = ap (λ s. is_utf8 (take s text)) start ∙ one.starts;
        ends = is_utf8-to text first.end whole.end utf8 ordered one.ends (subst IsUtf8 (sym stands) (IsUtf8-run_bytes text second utf8 two));
        counted = count ∙ ap (λ n. n + second.count) one.counted ∙ ap (λ n. length (run_chars text first) + n) two.counted
            ∙ sym (length-append (run_chars text first) (run_chars text second)) ∙ sym (ap length characters);
        some = omega (arith, count, one.some);
        fits = omega (arith, count, cell, goes.touches, two.fits);
      };
      row = row;
      cell = cell;
      count = count;
      role = role;
      link = link;
      chars_are = characters;
    }

-- two runs, whose characters were copied to the end of the text
pub IsJoined-copied : (old new : List ℕ) (first second whole : Run) → IsUtf8 old → IsUtf8 new → IsRun old first → IsRun old second → Continues first second
    → new ≡ old ++ (run_bytes old first ++ run_bytes old second) → whole.row ≡ first.row → whole.cell ≡ first.cell
    → whole.count ≡ first.count + second.count → whole.start ≡ length old → whole.end ≡ length new → whole.role ≡ first.role
    → option_copied whole.link ≡ option_copied first.link → IsJoined old new first second whole
IsJoined-copied old new first second whole utf8 utf8_new one two goes grown row cell count start end role link =
    let both : List ℕ = run_bytes old first ++ run_bytes old second in
    let grows : BeginsWith old new = subst (λ (t : List ℕ). BeginsWith old t) (sym grown) (BeginsWith-append old both) in
    let bytes : run_bytes new whole ≡ both = ap (λ s. stretch new s whole.end) start ∙ ap (λ e. stretch new (length old) e) end
    ∙ ap (λ (t : List ℕ). stretch t (length old) (length t)) grown ∙ stretch_added old both in
    let characters : run_chars new whole ≡ run_chars old first ++ run_chars old second =
    ap chars bytes ∙ chars-append (run_bytes old first) (run_bytes old second) (IsUtf8-run_bytes old first utf8 one) in
    record {
      is_run = record {
        ordered = omega (arith, start, end, BeginsWith-le old new grows);
        within = omega (arith, end);
        starts = ap (λ s. is_utf8 (take s new)) start ∙ ap is_utf8 (front_grown old new (length old) grows (omega arith)) ∙ is_utf8-end old utf8;
        ends = ap (λ e. is_utf8 (take e new)) end ∙ is_utf8-end new utf8_new;
        counted = count ∙ ap (λ n. n + second.count) one.counted ∙ ap (λ n. length (run_chars old first) + n) two.counted
            ∙ sym (length-append (run_chars old first) (run_chars old second)) ∙ sym (ap length characters);
        some = omega (arith, count, one.some);
        fits = omega (arith, count, cell, goes.touches, two.fits);
      };
      row = row;
      cell = cell;
      count = count;
      role = role;
      link = link;
      chars_are = characters;
    }

-- A result that a function returns as another gave it.
-- a fact that holds after either answer
pub on_either : {T E P : Type 0} (r : Result T E) → OnOk r P → OnErr r P → P
on_either (Ok x) ok err = ok
on_either (Err e) ok err = err

-- what follows from two facts of a granted call, and from three
pub on_ok_two : {T E P Q S : Type 0} (r : Result T E) → (P → Q → S) → OnOk r P → OnOk r Q → OnOk r S
on_ok_two (Ok x) f p q = f p q
on_ok_two (Err e) f p q = tt

-- what follows from three facts holds on success where these do
pub on_ok_three : {T E P Q R S : Type 0} (r : Result T E) → (P → Q → R → S) → OnOk r P → OnOk r Q → OnOk r R → OnOk r S
on_ok_three (Ok x) f p q s = f p q s
on_ok_three (Err e) f p q s = tt

-- the value after a granted call
pub on_ok_value : {T E X : Type 0} (r : Result T E) (x y z : X) → x ≡ (if is_ok r then y else z) → OnOk r (x ≡ y)
on_ok_value (Ok v) x y z is = is
on_ok_value (Err e) x y z is = tt

-- what follows from a fact of the value of a granted call
pub if_ok_weaker : {T E : Type 0} {P Q : T → Type 0} (r : Result T E) → ((x : T) → P x → Q x) → IfOk r P → IfOk r Q
if_ok_weaker (Ok x) f p = f x p
if_ok_weaker (Err e) f p = tt

-- what follows from a fact of what is there
pub if_some_weaker : {T : Type 0} {P Q : T → Type 0} (o : Option T) → ((x : T) → P x → Q x) → IfSome o P → IfSome o Q
if_some_weaker (Some x) f p = f x p
if_some_weaker None f p = tt
