-- Sources by their keys.
use Rattle.std.proofs.Common.{◌≡◌, ℕ, ◌==◌, ◌&&◌, ◌||◌, Bool, true, false, cond, nat_eq, List, [], ◌∷◌, ◌++◌, Option, Some, None}
use Rattle.std.proofs.Common.{refl, sym, ap, ◌∙◌, append-nil, if◌then◌else◌}
use Rattle.std.specs.Global.{Vec}
use Rattle.std.specs.BTreeMap as tree
use Rattle.std.specs.BTreeMap.{BTreeMap}
use Rattle.std.specs.BTreeSet as sorted
use Rattle.std.specs.BTreeSet.{BTreeSet}
use Rattle.std.specs.List.{list_any}
use Rattle.std.specs.Option.{option_eq}
use Rattle.std.specs.Ordering.{is_eq}
use Rattle.std.specs.Str.{bytes_eq}
use Rattle.std.proofs.lemmas.Bool.Decides.{Decides-eqb}
use Rattle.std.proofs.lemmas.List.Elements.{filter-append}
use Rattle.std.proofs.lemmas.List.Folds.{list_any-append}
use Rattle.std.proofs.lemmas.Slice.Eq.{bytes_eq-Decides}
use Rattle.redraw_report.specs.contracts.source_key.SourceKeyOrd.TheImpl.Laws as laws
use Rattle.redraw_report.specs.contracts.source_key.ContentKeyPartialEq.TheImpl as content_equality
use Rattle.redraw_report.specs.declared.finding.Content.{Content}
use Rattle.redraw_report.specs.declared.finding.Content.TheVariants as content
use Rattle.redraw_report.specs.declared.finding.MarkedSpan.{MarkedSpan}
use Rattle.redraw_report.specs.declared.finding.Shown.{Shown}
use Rattle.redraw_report.specs.declared.source_key.ContentKey.{ContentKey}
use Rattle.redraw_report.specs.declared.source_key.ContentKey.TheVariants as key
use Rattle.redraw_report.specs.declared.source_key.SourceKey.{SourceKey}
use Rattle.redraw_report.specs.Report.{marks_in}
use Rattle.redraw_report.specs.SameSource.{same_content, same_source}
use Rattle.redraw_report.specs.Sight.{Sight, Lines, Nothing, Blank, sight_of}
use Rattle.redraw_report.specs.SourceKey.{AreGroupsOf, AreKeysOf, IsKeyOf, key_cmp, key_sight, places_in}

-- whether the same is shown
same_sight : Sight → Sight → Bool
same_sight (Lines text first) (Lines other_text other_first) = first == other_first && bytes_eq text other_text
same_sight (Lines text first) (Nothing line column) = false
same_sight (Lines text first) (Blank line column) = false
same_sight (Nothing line column) (Lines text first) = false
same_sight (Nothing line column) (Nothing other_line other_column) = option_eq nat_eq line other_line && option_eq nat_eq column other_column
same_sight (Nothing line column) (Blank other_line other_column) = false
same_sight (Blank line column) (Lines text first) = false
same_sight (Blank line column) (Nothing other_line other_column) = false
same_sight (Blank line column) (Blank other_line other_column) = line == other_line && column == other_column

same_of_contents : (c d : Content) → same_content c d ≡ same_sight (sight_of c) (sight_of d)
unfolding same_sight
same_of_contents (content.Lines text first) (content.Lines other_text other_first) = refl
same_of_contents (content.Lines text first) (content.Nothing line column) = refl
same_of_contents (content.Lines text first) (content.Blank line column) = refl
same_of_contents (content.Nothing line column) (content.Lines text first) = refl
same_of_contents (content.Nothing line column) (content.Nothing other_line other_column) = refl
same_of_contents (content.Nothing line column) (content.Blank other_line other_column) = refl
same_of_contents (content.Blank line column) (content.Lines text first) = refl
same_of_contents (content.Blank line column) (content.Nothing other_line other_column) = refl
same_of_contents (content.Blank line column) (content.Blank other_line other_column) = refl

-- what `==` says of the contents of keys
same_of_content_keys : (k l : ContentKey) → (content_equality.ghosts).eq k l ≡ same_sight (key_sight k) (key_sight l)
unfolding same_sight
same_of_content_keys (key.Lines first text) (key.Lines other_first other_text) = refl
same_of_content_keys (key.Lines first text) (key.Nothing line column) = refl
same_of_content_keys (key.Lines first text) (key.Blank line column) = refl
same_of_content_keys (key.Nothing line column) (key.Lines first text) = refl
same_of_content_keys (key.Nothing line column) (key.Nothing other_line other_column) = refl
same_of_content_keys (key.Nothing line column) (key.Blank other_line other_column) = refl
same_of_content_keys (key.Blank line column) (key.Lines first text) = refl
same_of_content_keys (key.Blank line column) (key.Nothing other_line other_column) = refl
same_of_content_keys (key.Blank line column) (key.Blank other_line other_column) = refl

-- sources are one where their paths are, and what is shown of them
same_of_sources : (s t : Shown) → same_source s t ≡ (bytes_eq s.path.now t.path.now && same_sight (sight_of s.content) (sight_of t.content))
same_of_sources s t = ap (λ (b : Bool). bytes_eq s.path.now t.path.now && b) (same_of_contents s.content t.content)

-- keys are one where their sources are
pub same_keys : (k l : SourceKey) (s t : Shown) → IsKeyOf k s → IsKeyOf l t → is_eq (key_cmp k l) ≡ same_source s t
same_keys k l s t is other_is =
    sym (laws.matches_eq-law k l)
    ∙ ap (λ (b : Bool). bytes_eq k.path.now l.path.now && b) (same_of_content_keys k.content l.content)
    ∙ ap (λ (p : List ℕ). bytes_eq p l.path.now && same_sight (key_sight k.content) (key_sight l.content)) is.path
    ∙ ap (λ (p : List ℕ). bytes_eq s.path.now p && same_sight (key_sight k.content) (key_sight l.content)) other_is.path
    ∙ ap (λ (c : Sight). bytes_eq s.path.now t.path.now && same_sight c (key_sight l.content)) is.content
    ∙ ap (λ (c : Sight). bytes_eq s.path.now t.path.now && same_sight (sight_of s.content) c) other_is.content
    ∙ sym (same_of_sources s t)

first_holds : (a b : Bool) → (a && b) ≡ true → a ≡ true
first_holds true b is = refl
first_holds false b is = absurd (cc is)

second_holds : (a b : Bool) → (a && b) ≡ true → b ≡ true
second_holds true b is = is
second_holds false b is = absurd (cc is)

option_is : (o p : Option ℕ) → option_eq nat_eq o p ≡ true → o ≡ p
option_is None None is = refl
option_is None (Some n) is = absurd (cc is)
option_is (Some n) None is = absurd (cc is)
option_is (Some n) (Some m) is = ap (λ (k : ℕ). Some k) ((Decides-eqb n m).0 is)

sight_is : (a b : Sight) → same_sight a b ≡ true → a ≡ b
unfolding same_sight
sight_is (Lines text first) (Lines other_text other_first) is =
    ap (λ t. Lines t first) ((bytes_eq-Decides text other_text).0 (second_holds (first == other_first) (bytes_eq text other_text) is))
    ∙ ap (λ f. Lines other_text f) ((Decides-eqb first other_first).0 (first_holds (first == other_first) (bytes_eq text other_text) is))
sight_is (Lines text first) (Nothing line column) is = absurd (cc is)
sight_is (Lines text first) (Blank line column) is = absurd (cc is)
sight_is (Nothing line column) (Lines text first) is = absurd (cc is)
sight_is (Nothing line column) (Nothing other_line other_column) is =
    ap (λ l. Nothing l column) (option_is line other_line (first_holds (option_eq nat_eq line other_line) (option_eq nat_eq column other_column) is))
    ∙ ap (λ c. Nothing other_line c) (option_is column other_column (second_holds (option_eq nat_eq line other_line) (option_eq nat_eq column other_column) is))
sight_is (Nothing line column) (Blank other_line other_column) is = absurd (cc is)
sight_is (Blank line column) (Lines text first) is = absurd (cc is)
sight_is (Blank line column) (Nothing other_line other_column) is = absurd (cc is)
sight_is (Blank line column) (Blank other_line other_column) is =
    ap (λ l. Blank l column) ((Decides-eqb line other_line).0 (first_holds (line == other_line) (column == other_column) is))
    ∙ ap (λ c. Blank other_line c) ((Decides-eqb column other_column).0 (second_holds (line == other_line) (column == other_column) is))

-- what is the same as one of two sources that are one is the same as the other
same_as_both : (m s t : Shown) → same_source s t ≡ true → same_source m s ≡ same_source m t
same_as_both m s t is =
    let both = sym (same_of_sources s t) ∙ is in
    let path = (bytes_eq-Decides s.path.now t.path.now).0 (first_holds _ (same_sight (sight_of s.content) (sight_of t.content)) both) in
    let shown = sight_is (sight_of s.content) (sight_of t.content) (second_holds (bytes_eq s.path.now t.path.now) _ both) in
    same_of_sources m s
    ∙ ap (λ (p : List ℕ). bytes_eq m.path.now p && same_sight (sight_of m.content) (sight_of s.content)) path
    ∙ ap (λ (c : Sight). bytes_eq m.path.now t.path.now && same_sight (sight_of m.content) c) shown
    ∙ sym (same_of_sources m t)

-- the same places are in sources that are one
same_marks : (s t : Shown) → same_source s t ≡ true → (ms : List MarkedSpan) → marks_in s ms ≡ marks_in t ms
same_marks s t is [] = refl
same_marks s t is (m ∷ ms) =
    ap (λ (b : Bool). if b then m ∷ marks_in s ms else marks_in s ms) (same_as_both m.source s t is)
    ∙ ap (λ (l : List MarkedSpan). if same_source m.source t then m ∷ l else l) (same_marks s t is ms)

either : (a b : Bool) → cond b true a ≡ (a || (b || false))
either true true = refl
either true false = refl
either false true = refl
either false false = refl

-- with one more source its key is kept
pub keys_push : (old new : BTreeSet SourceKey) (k : SourceKey) (s : Shown) (order : List Shown) → IsKeyOf k s → AreKeysOf old order
    → sorted.Updates key_cmp old new k true → AreKeysOf new (order ++ s ∷ [])
keys_push old new k s order is keys updates q t at =
    updates.0 q
    ∙ ap (λ (b : Bool). cond b true (sorted.contains key_cmp old q)) (same_keys k q s t is at)
    ∙ ap (λ (b : Bool). cond (same_source s t) true b) (keys q t at)
    ∙ either (list_any (λ known. same_source known t) order) (same_source s t)
    ∙ sym (list_any-append (λ known. same_source known t) order (s ∷ []))

-- with one more place it stands at the key of its source
pub groups_push : (old middle new : BTreeMap SourceKey (Vec MarkedSpan)) (k : SourceKey) (m : MarkedSpan) (v : Vec MarkedSpan) → IsKeyOf k m.source
    → tree.UpdatesBy key_cmp (key_cmp k) old middle None → tree.Updates key_cmp middle new k (Some v)
    → v.items ≡ places_in (tree.get key_cmp old k) ++ m ∷ []
    → (marks : List MarkedSpan) → AreGroupsOf old marks → AreGroupsOf new (marks ++ m ∷ [])
groups_push old middle new k m v is takes puts list marks groups q t at =
    let s = m.source in
    let one : is_eq (key_cmp k q) ≡ same_source s t = same_keys k q s t is at in
    ap places_in
    (puts.0 q ∙ ap (λ (b : Bool). cond b (Some v) (tree.get key_cmp middle q)) one
    ∙ ap (λ o. cond (same_source s t) (Some v) o) (takes.0 q ∙ ap (λ (b : Bool). cond b None (tree.get key_cmp old q)) one))
    ∙ placed (same_source s t) refl
    ∙ sym (filter-append (λ (n : MarkedSpan). same_source n.source t) marks (m ∷ []))
  where
    placed : (b : Bool) → same_source m.source t ≡ b → places_in (cond b (Some v) (cond b None (tree.get key_cmp old q)))
        ≡ marks_in t marks ++ marks_in t (m ∷ [])
    placed true e =
        list ∙ ap (λ (l : List MarkedSpan). l ++ m ∷ []) (groups k m.source is ∙ same_marks m.source t e marks)
        ∙ sym (ap (λ (b : Bool). marks_in t marks ++ (if b then m ∷ [] else [])) e)
    placed false e =
        groups q t at ∙ sym (append-nil (marks_in t marks))
        ∙ sym (ap (λ (b : Bool). marks_in t marks ++ (if b then m ∷ [] else [])) e)
