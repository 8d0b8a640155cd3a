-- What is kept of a list or an object of which not all stays.
use Rattle.std.proofs.Common.{◌≡◌, ◌∙◌, ℕ, List, [], ◌∷◌, ◌++◌, Option, Some, None, IfSome, Bool, true, false}
use Rattle.std.proofs.Common.{Ordering, Less, Equal, Greater}
use Rattle.std.proofs.Common.{append_assoc, length, map, refl, sym, ap, subst, arith, bytes_eq, true≢false, nat_cmp, String, BTreeMap}
use Rattle.std.specs.Global.{Global, Vec}
use Rattle.std.specs.Prelude.{codes, is_some, not}
use Rattle.std.specs.Cmp.Lexicographic.{slice_cmp}
use Rattle.std.specs.List.{AllZip}
use Rattle.std.specs.Option.{unwrap_or}
use Rattle.std.specs.Ordering.{match_ordering}
use Rattle.std.proofs.lemmas.List.{append-nil, length-append, map-append}
use Rattle.std.proofs.lemmas.Map.Lookups.{exact_bytes}
use Rattle.std.proofs.lemmas.Option.{none-some, same_Some}
use Rattle.std.proofs.lemmas.Slice.Eq.{bytes_eq-Decides}
use Rattle.json.specs.Lex.{tokens}
use Rattle.json.specs.Token as token
use Rattle.json.specs.Token.{Token}
use Rattle.json.specs.Json.{after_end_array, read_key}
use Rattle.serde_json.specs.Data.{Data, Members, array, item, member, no_members, object, put}
use Rattle.serde_json.specs.Find.{get, get_member}
use Rattle.serde_json.specs.Read.{read}
use Rattle.serde_json.specs.View.{items_of, items_view, members_view, view}
use Rattle.serde_json.specs.declared.value.Value.{Value, Array, Object}
use Rattle.serde_json.proofs.Views.{get_member-put, get_member-put_other, view-Array, view-Object}
use Rattle.json_lines.specs.Cut.{AreResultsKept, AreRunsKept, IsCutOf, IsFieldKept, IsMemberKept, IsRunKept}
use Rattle.json_lines.specs.Cut.{changed_at, empty_list, items_with, members_with, with_items, without_all_results, without_results}
use Rattle.json_lines.specs.Lenient.{list_at, values}
use Rattle.json_lines.specs.Quick.{Takes, TakesItems, TakesMembers}
use Rattle.json_lines.specs.declared.cut.CutLog.{CutLog}
use Rattle.json_lines.specs.declared.cut.Stretch.{Stretch}
use Rattle.json_lines.proofs.Loops as loops
use Rattle.json_lines.proofs.Loops.{MembersSoFar}
use Rattle.json_lines.proofs.Taken.{read-taken, takes-array, takes-item, takes-no_items, takes-object}
use Rattle.json_lines.proofs.Values.{values_of}

-- nothing was kept, where that was asked
pub none-first : {X : Type 0} (kept : Option X) (is : Bool) → is_some kept ≡ not is → is ≡ true → kept ≡ None
none-first {X} None is e none = refl
none-first {X} (Some x) is e none = absurd (true≢false (e ∙ ap not none))

-- ---- items

-- these items were taken so far: whatever follows, all of it is taken from where it began
pub record ItemsTaken (depth : ℕ) (start tokens : List Token) (found : List Data) : Type 0 where
  pub so_far : (left : List Token) (more : List Data) → TakesItems depth tokens left (items_of more)
      → TakesItems depth start left (items_of (found ++ more))

none-taken : (depth : ℕ) (start : List Token) → ItemsTaken depth start start []
none-taken depth start = record { so_far = λ left more t. t }

next-taken : (depth : ℕ) (start tokens mid : List Token) (found : List Data) (d : Data) → ItemsTaken depth start tokens found
    → after_end_array tokens ≡ None → Takes depth tokens mid d → ItemsTaken depth start mid (found ++ d ∷ [])
next-taken depth start tokens mid found d so e here = record {
  so_far = λ left more t. rw append_assoc (so.so_far left (d ∷ more) (takes-item depth tokens mid left d (items_of more) e here t));
}

all-taken : (depth : ℕ) (start tokens left : List Token) (found : List Data) → ItemsTaken depth start tokens found
    → after_end_array tokens ≡ Some left → TakesItems depth start left (items_of found)
all-taken depth start tokens left found so e = rw (append-nil found) at (so.so_far left [] (takes-no_items depth tokens left e))

-- ---- results

-- some results were taken, and a stretch is kept for each
abbrev pub ResultsKept : List Token → List Token → List Stretch → Type 0
ResultsKept start tokens kept = (results : List Data) × ItemsTaken 123 start tokens results × (length kept ≡ length results)

pub results-none : (start : List Token) (kept : List Stretch) → kept ≡ [] → ResultsKept start start kept
results-none start kept none = ([], none-taken 123 start, ap length none)

pub results-next : (start tokens mid : List Token) (kept new : List Stretch) (s : Stretch) (d : Data) → ResultsKept start tokens kept
    → after_end_array tokens ≡ None → Takes 123 tokens mid d → new ≡ kept ++ s ∷ [] → ResultsKept start mid new
results-next start tokens mid kept new s d so e here is = (
  so.0 ++ d ∷ [],
  next-taken 123 start tokens mid so.0 d so.1 e here,
  omega (arith, ap length is, length-append kept (s ∷ []), length-append so.0 (d ∷ []), so.2),
)

pub results-done : (start tokens left : List Token) (kept : List Stretch) → ResultsKept start tokens kept → after_end_array tokens ≡ Some left
    → (results : List Data) × TakesItems 123 start left (items_of results) × (length kept ≡ length results)
results-done start tokens left kept so e = (so.0, all-taken 123 start tokens left so.0 so.1 e, so.2)

-- an empty list is in place of results, of which these stretches are kept
pub results-kept : (old mid new : List Token) (results : List Data) (list : Vec Value) (kept : Vec Stretch)
    (before after : Option (Vec Stretch)) → old ≡ token.begin_array ∷ mid → TakesItems 123 mid new (items_of results)
    → length kept.items ≡ length results → list.items ≡ [] → before ≡ None → after ≡ Some kept
    → (d : Data) × Takes 124 old new d × IsMemberKept empty_list AreResultsKept true d (view (Array list)) before after
results-kept old mid new results list kept before after e t same empty first is =
    let items = items_of results in (
      array items,
      takes-array 124 123 old mid new items refl e t,
      record {
        changed = view-Array list ∙ ap (λ vs. array (items_view vs)) empty;
        first = first;
        kept = kept;
        after_is = is;
        keeps = (results, refl, same);
      },
    )

-- ---- runs

-- some runs were taken, and their stretches are kept
abbrev pub RunsKept : List Token → List Token → List Value → List (Vec Stretch) → Type 0
RunsKept start tokens values kept =
    (runs : List Data) × ItemsTaken 125 start tokens runs × (map view values ≡ map without_results runs) × AllZip IsRunKept runs kept

pub runs-none : (start : List Token) (values : List Value) (kept : List (Vec Stretch)) → values ≡ [] → kept ≡ [] → RunsKept start start values kept
runs-none start values kept no_values none =
    ([], none-taken 125 start, ap (map view) no_values, subst (AllZip IsRunKept []) (sym none) tt)

zip-next : {A B : Type 0} (R : A → B → Type 0) (xs : List A) (ys : List B) (x : A) (y : B) → AllZip R xs ys → R x y → AllZip R (xs ++ x ∷ []) (ys ++ y ∷ [])
zip-next R [] [] x y all is = (is, tt)
zip-next R [] (b ∷ ys) x y all is = absurd all
zip-next R (a ∷ xs) [] x y all is = absurd all
zip-next R (a ∷ xs) (b ∷ ys) x y all is = (all.0, zip-next R xs ys x y all.1 is)

pub runs-next : (start tokens mid : List Token) (values values' : List Value) (kept kept' : List (Vec Stretch)) (value : Value) (d : Data)
    (own : Vec Stretch) → RunsKept start tokens values kept → after_end_array tokens ≡ None → Takes 125 tokens mid d
    → view value ≡ without_results d → IsRunKept d own → values' ≡ values ++ value ∷ [] → kept' ≡ kept ++ own ∷ [] → RunsKept start mid values' kept'
runs-next start tokens mid values values' kept kept' value d own so e here cut is values_is kept_is =
    let runs = so.0 in
    let left = ap (map view) values_is ∙ map-append view values (value ∷ []) in
    let both = ap (λ ds. ds ++ view value ∷ []) so.2 ∙ ap (λ v. map without_results runs ++ v ∷ []) cut in (
      runs ++ d ∷ [],
      next-taken 125 start tokens mid runs d so.1 e here,
      left ∙ both ∙ sym (map-append without_results runs (d ∷ [])),
      subst (AllZip IsRunKept (runs ++ d ∷ [])) (sym kept_is) (zip-next IsRunKept runs kept d own so.3 is),
    )

pub runs-done : (start tokens left : List Token) (list : Vec Value) (kept : List (Vec Stretch)) → RunsKept start tokens list.items kept
    → after_end_array tokens ≡ Some left
    → (runs : List Data) × TakesItems 125 start left (items_of runs) × (view (Array list) ≡ array (items_of (map without_results runs)))
    × AllZip IsRunKept runs kept
runs-done start tokens left list kept so e =
    (so.0, all-taken 125 start tokens left so.0 so.1 e, view-Array list ∙ ap (λ ds. array (items_of ds)) so.2, so.3)

each-changed : (change : Data → Data) (ds : List Data) → items_of (map change ds) ≡ items_with change (items_of ds)
each-changed change [] = refl
each-changed change (d ∷ ds) = ap (item (change d)) (each-changed change ds)

-- the list of runs that a function found, by what follows its bracket
pub runs-kept : (old mid new : List Token) (found : Option Value) (kept : Vec (Vec Stretch)) (before after : Option (Vec (Vec Stretch)))
    → old ≡ token.begin_array ∷ mid → before ≡ None → after ≡ Some kept
    → IfSome found (λ value. (runs : List Data) × TakesItems 125 mid new (items_of runs) × (view value ≡ array (items_of (map without_results runs)))
    × AllZip IsRunKept runs kept.items)
    → IfSome found (λ value. (d : Data) × Takes 126 old new d
    × IsMemberKept (with_items without_results) AreRunsKept true d (view value) before after)
runs-kept old mid new None kept before after e first is h = tt
runs-kept old mid new (Some value) kept before after e first is h =
    let items = items_of h.0 in (
      array items,
      takes-array 126 125 old mid new items refl e h.1,
      record {
        changed = h.2 ∙ ap array (each-changed without_results h.0);
        first = first;
        kept = kept;
        after_is = is;
        keeps = (h.0, refl, h.3);
      },
    )

-- ---- members

-- members were taken; they are kept but for the one under a name, which is changed, and of which something is kept
abbrev pub MembersKept : {X : Type 0} → ℕ → List ℕ → (Data → Data) → (Data → X → Type 0) → List Token → List Token → Members → Option X → Type 0
MembersKept depth name change Keeps start tokens kept found =
    (ms : Members) × MembersSoFar depth start tokens ms × (kept ≡ members_with name change ms) × IsFieldKept name Keeps (object ms) found

pub members-none : {X : Type 0} (depth : ℕ) (name : List ℕ) (change : Data → Data) (Keeps : Data → X → Type 0) (start : List Token) (kept : Members)
    (found : Option X) → kept ≡ no_members → found ≡ None → MembersKept depth name change Keeps start start kept found
members-none {X} depth name change Keeps start kept found none first =
    (no_members, record { so_far = λ left ms t. t }, none, subst (IsFieldKept name Keeps (object no_members)) (sym first) refl)

put-changed_at : (o : Ordering) (name : List ℕ) (change : Data → Data) (k l : List ℕ) (d e : Data) (ms : Members) → slice_cmp nat_cmp k l ≡ o
    → members_with name change (put k d ms) ≡ put k (changed_at name change k d) (members_with name change ms)
    → members_with name change (match_ordering o (member k d (member l e ms)) (member l d ms) (member l e (put k d ms)))
    ≡ match_ordering o (member k (changed_at name change k d) (members_with name change (member l e ms)))
    (member l (changed_at name change k d) (members_with name change ms))
    (member l (changed_at name change l e) (put k (changed_at name change k d) (members_with name change ms)))
put-changed_at Less name change k l d e ms is later = refl
put-changed_at Equal name change k l d e ms is later =
    ap (λ key. member l (changed_at name change key d) (members_with name change ms)) (sym (exact_bytes k l is))
put-changed_at Greater name change k l d e ms is later = ap (member l (changed_at name change l e)) later

-- a member that is put among others is changed as they are
put-changed : (name : List ℕ) (change : Data → Data) (k : List ℕ) (d : Data) (ms : Members)
    → members_with name change (put k d ms) ≡ put k (changed_at name change k d) (members_with name change ms)
put-changed name change k d no_members = refl
put-changed name change k d (member l e ms) =
    put-changed_at (slice_cmp nat_cmp k l) name change k l d e ms refl (put-changed name change k d ms)

as-changed : {X : Type 0} (name : List ℕ) (change : Data → Data) (Keeps : Data → X → Type 0) (k : List ℕ) (b : Bool) (d e : Data) (before after : Option X)
    → bytes_eq k name ≡ b → IsMemberKept change Keeps b d e before after → e ≡ changed_at name change k d
as-changed {X} name change Keeps k true d e before after is h = rw is h.changed
as-changed {X} name change Keeps k false d e before after is h = rw is h.0

field-as : {X : Type 0} (name : List ℕ) (Keeps : Data → X → Type 0) (d e : Data) (found : Option X) → get name e ≡ get name d
    → IsFieldKept name Keeps d found → IsFieldKept name Keeps e found
field-as {X} name Keeps d e None same h = same ∙ h
field-as {X} name Keeps d e (Some x) same h = (h.0, same ∙ h.1, h.2)

field-next : {X : Type 0} (name : List ℕ) (change : Data → Data) (Keeps : Data → X → Type 0) (k : List ℕ) (b : Bool) (d e : Data) (before after : Option X)
    (ms : Members) → bytes_eq k name ≡ b → IsFieldKept name Keeps (object ms) before → IsMemberKept change Keeps b d e before after
    → IsFieldKept name Keeps (object (put k d ms)) after
field-next {X} name change Keeps k true d e before after ms is so h =
    let same : k ≡ name = (bytes_eq-Decides k name).0 is in
    let there : get name (object (put k d ms)) ≡ Some d = subst (λ n. get_member n (put k d ms) ≡ Some d) same (get_member-put k d ms) in
    subst (IsFieldKept name Keeps (object (put k d ms))) (sym h.after_is) (d, there, h.keeps)
field-next {X} name change Keeps k false d e before after ms is so h =
    let other = λ (same : name ≡ k). true≢false (sym ((bytes_eq-Decides k name).1 (sym same)) ∙ is) in
    let stays : get name (object (put k d ms)) ≡ get name (object ms) = get_member-put_other name k d ms other in
    subst (IsFieldKept name Keeps (object (put k d ms))) (sym h.1) (field-as name Keeps (object ms) (object (put k d ms)) before stays so)

pub members-next : {X : Type 0} (depth : ℕ) (name : List ℕ) (change : Data → Data) (Keeps : Data → X → Type 0) (start tokens rest mid : List Token)
    (kept new : Members) (before after : Option X) (k : List ℕ) (d e : Data) → MembersKept depth name change Keeps start tokens kept before
    → read_key tokens ≡ Some (Some k, rest) → Takes depth rest mid d → IsMemberKept change Keeps (bytes_eq k name) d e before after
    → new ≡ put k e kept → MembersKept depth name change Keeps start mid new after
members-next {X} depth name change Keeps start tokens rest mid kept new before after k d e so at here h is =
    let ms = so.0 in
    let value = as-changed name change Keeps k (bytes_eq k name) d e before after refl h in
    let all = ap (λ v. put k v kept) value ∙ ap (put k (changed_at name change k d)) so.2 in (
      put k d ms,
      loops.members-next depth start tokens rest mid ms k d so.1 at here,
      is ∙ all ∙ sym (put-changed name change k d ms),
      field-next name change Keeps k (bytes_eq k name) d e before after ms refl so.3 h,
    )

pub members-done : {X : Type 0} (depth : ℕ) (name : List ℕ) (change : Data → Data) (Keeps : Data → X → Type 0) (start tokens left : List Token)
    (map : BTreeMap (String Global) Value) (found : Option X) → MembersKept depth name change Keeps start tokens (members_view map.entries) found
    → read_key tokens ≡ Some (None, left)
    → (ms : Members) × TakesMembers depth no_members start left ms × (view (Object map) ≡ object (members_with name change ms))
    × IsFieldKept name Keeps (object ms) found
members-done {X} depth name change Keeps start tokens left map found so e =
    (so.0, loops.members-done depth start tokens left so.0 so.1 e, view-Object map ∙ ap object so.2, so.3)

-- ---- a run

own-kept : (run : Data) (own : Option (Vec Stretch)) (empty : Vec Stretch) → empty.items ≡ []
    → IsFieldKept (codes "results") AreResultsKept run own → length (unwrap_or own empty).items ≡ length (list_at (codes "results") run)
own-kept run None empty none h = rw (none, h) refl
own-kept run (Some stretches) empty none h = rw (h.1, h.2.1, values_of h.2.0) h.2.2

-- the run that a function found, by what follows its brace
pub run-kept : (old mid new : List Token) (found : Option Value) (own : Option (Vec Stretch)) (empty : Vec Stretch)
    (before after : List (Vec Stretch)) → old ≡ token.begin_object ∷ mid → empty.items ≡ [] → after ≡ before ++ unwrap_or own empty ∷ []
    → IfSome found (λ value. (ms : Members) × TakesMembers 124 no_members mid new ms × (view value ≡ without_results (object ms))
    × IsFieldKept (codes "results") AreResultsKept (object ms) own)
    → IfSome found (λ value. (d : Data) × Takes 125 old new d × (view value ≡ without_results d) × (own : Vec Stretch) × IsRunKept d own
    × (after ≡ before ++ own ∷ []))
run-kept old mid new None own empty before after e none is h = tt
run-kept old mid new (Some value) own empty before after e none is h = (
  object h.0,
  takes-object 125 124 old mid new h.0 refl e h.1,
  h.2,
  unwrap_or own empty,
  record { object = refl; each = own-kept (object h.0) own empty none h.3 },
  is,
)

-- ---- a log

-- the log that a function found, by what follows its brace
pub log-kept : (old mid new : List Token) (found : Option Value) (kept : Option (Vec (Vec Stretch))) → old ≡ token.begin_object ∷ mid
    → IfSome found (λ value. (ms : Members) × TakesMembers 126 no_members mid new ms × (view value ≡ without_all_results (object ms))
    × IsFieldKept (codes "runs") AreRunsKept (object ms) kept)
    → IfSome found (λ value. (d : Data) × Takes 127 old new d × (view value ≡ without_all_results d) × IsFieldKept (codes "runs") AreRunsKept d kept)
log-kept old mid new None kept e h = tt
log-kept old mid new (Some value) kept e h = (object h.0, takes-object 127 126 old mid new h.0 refl e h.1, h.2, h.3)

-- the log that a text is
pub text-cut : (text : List ℕ) (old left : List Token) (found : Option Value) (kept : Option (Vec (Vec Stretch))) (cut : Option CutLog) → old ≡ tokens text
    → left ≡ [] → IfSome found (λ value. (d : Data) × Takes 127 old left d × (view value ≡ without_all_results d)
    × IsFieldKept (codes "runs") AreRunsKept d kept)
    → IfSome cut (λ (c : CutLog). found ≡ Some c.value) → IfSome cut (λ (c : CutLog). kept ≡ Some c.results)
    → IfSome cut (λ (c : CutLog). (d : Data) × (read text ≡ Some d) × IsCutOf d c)
text-cut text old left found kept None begins ends h is all = tt
text-cut text old left None kept (Some c) begins ends h is all = absurd (none-some c.value is)
text-cut text old left (Some v) None (Some c) begins ends h is all = absurd (none-some c.results all)
text-cut text old left (Some v) (Some r) (Some c) begins ends h is all =
    let runs = h.3.2.0 in (
      h.0,
      read-taken text h.0 (rw (begins, ends) at h.1),
      record {
        runs = runs;
        listed = h.3.1 ∙ ap (λ (e : Data). Some e) h.3.2.1;
        value = ap view (sym (same_Some v c.value is)) ∙ h.2;
        results = subst (λ (x : Vec (Vec Stretch)). AllZip IsRunKept runs x.items) (same_Some r c.results all) h.3.2.2;
      },
    )

-- it is a value
pub text-read : (text : List ℕ) (cut : Option CutLog) → IfSome cut (λ (c : CutLog). (d : Data) × (read text ≡ Some d) × IsCutOf d c)
    → IfSome cut (λ (c : CutLog). (d : Data) × (read text ≡ Some d))
text-read text None h = tt
text-read text (Some c) h = (h.0, h.1)

-- it is cut of the value
pub text-kept : (text : List ℕ) (cut : Option CutLog) → IfSome cut (λ (c : CutLog). (d : Data) × (read text ≡ Some d) × IsCutOf d c)
    → IfSome cut (λ (c : CutLog). (d : Data) → read text ≡ Some d → IsCutOf d c)
text-kept text None h = tt
text-kept text (Some c) h = λ d e. subst (λ x. IsCutOf x c) (same_Some h.0 d (sym h.1 ∙ e)) h.2
