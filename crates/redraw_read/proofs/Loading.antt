-- Files that are asked for one after the other.
use Rattle.std.proofs.lemmas.Grind.{common_steps}
use Rattle.std.proofs.Common.{◌≡◌, ℕ, ◌+◌, ◌<◌, ◌||◌, ◌&&◌, string_bytes, Bool, true, false, List, [], ◌∷◌, ◌++◌, refl, ap, sym, ◌∙◌, subst, append_assoc}
use Rattle.std.proofs.Common.{append-nil, map}
use Rattle.std.proofs.Common.{take}
use Rattle.std.proofs.Common.{take-suc, length, arith}
use Rattle.std.specs.Str.{bytes_eq}
use Rattle.std.proofs.lemmas.Slice.Eq.{bytes_eq-Decides}
use Rattle.std.specs.Prelude.{Result, Ok, Err, OnOk}
use Rattle.std.specs.List.{All, flat_map, list_any, slice_index_or}
use Rattle.std.proofs.lemmas.List.Concat.{flat_map-append}
use Rattle.std.proofs.lemmas.List.Elements.{All-append, All-cons, All-nil, All-weaker}
use Rattle.std.proofs.lemmas.List.Folds.{list_any-append}
use Rattle.redraw_read.specs.Extract.{is_named}
use Rattle.redraw_read.specs.Loaded.{IsAskedFor, Loads, unread_name}
use Rattle.redraw_read.specs.declared.sources.File.{File}

or_true : (a b : Bool) → a ≡ true → (a || b) ≡ true
or_true true b is = refl
or_true false b is = absurd (cc is)

-- what was asked for stays so where files come
asked_more : (files more : List File) (home name : List ℕ) → IsAskedFor files home name → IsAskedFor (files ++ more) home name
asked_more files more home name h =
    list_any-append (is_named name home) files more ∙ or_true _ (list_any (is_named name home) more) h

all_asked_more : (files more : List File) (home : List ℕ) (names : List (List ℕ)) → All (IsAskedFor files home) names
    → All (IsAskedFor (files ++ more) home) names
all_asked_more files more home names h =
    All-weaker (IsAskedFor files home) (IsAskedFor (files ++ more) home) (λ name one. asked_more files more home name one) names h

-- nothing is asked for
pub loads_none : (home : List ℕ) (files : List File) (unread : List (List ℕ)) → Loads home [] files files unread unread
loads_none home files unread = record { asked = All-nil (IsAskedFor files home); more = []; kept = sym (append-nil files); noted = sym (append-nil unread) }

pub loads_then : {home : List ℕ} {ns ms : List (List ℕ)} {a b c : List File} {u v w : List (List ℕ)} → Loads home ns a b u v → Loads home ms b c v w
    → Loads home (ns ++ ms) a c u w
loads_then {home} {ns} {ms} {a} {b} {c} {u} {v} {w} p q =
    grind (arith, common_steps, All-append, all_asked_more, append_assoc, flat_map-append, q.kept, q.more, p.asked, q.asked, p.more, p.kept, q.noted, p.noted)

-- a file that is there already
pub loads_there : (home name : List ℕ) (files : List File) (unread : List (List ℕ)) → IsAskedFor files home name
    → Loads home (name ∷ []) files files unread unread
loads_there home name files unread there = grind (arith, common_steps, All-cons, All-nil, append-nil)

-- the names that one more of a list has, after those of the elements so far
pub next_names : {X : Type 0} (f : X → List (List ℕ)) (xs : List X) (i : ℕ) (x : X) → i < length xs → x ≡ slice_index_or xs i x
    → flat_map f (take (i + 1) xs) ≡ flat_map f (take i xs) ++ f x
next_names {X} f xs i x within is = grind (arith, common_steps, take-suc, flat_map-append, append-nil)

pub next_name : {X : Type 0} (f : X → List ℕ) (xs : List X) (i : ℕ) (x : X) → i < length xs → x ≡ slice_index_or xs i x
    → map f (take (i + 1) xs) ≡ map f (take i xs) ++ f x ∷ []
next_name {X} f xs i x within is = grind (arith, common_steps, take-suc)

-- files that are asked for by these names, which may be written otherwise
pub loads_named : {home there : List ℕ} {ns ms : List (List ℕ)} {a b : List File} {u v : List (List ℕ)} → Loads home ns a b u v → home ≡ there → ns ≡ ms
    → Loads there ms a b u v
loads_named {home} {there} {ns} {ms} {a} {b} {u} {v} p place names =
    subst (λ h. Loads h ms a b u v) place (subst (λ l. Loads home l a b u v) names p)

-- one more file, after those of the elements so far
pub loads_step : {X : Type 0} {home : List ℕ} {a b c : List File} {u v w : List (List ℕ)} (f : X → List ℕ) (xs : List X) (i : ℕ) (x : X) (name : List ℕ)
    → i < length xs → x ≡ slice_index_or xs i x → name ≡ f x → Loads home (map f (take i xs)) a b u v → Loads home (name ∷ []) b c v w
    → Loads home (map f (take (i + 1) xs)) a c u w
loads_step {X} f xs i x name within is named p q =
    loads_named (loads_then p q) refl (ap (λ n. map f (take i xs) ++ n ∷ []) named ∙ sym (next_name f xs i x within is))

-- several more
pub loads_steps : {X : Type 0} {home : List ℕ} {a b c : List File} {u v w : List (List ℕ)} (before : List (List ℕ)) (f : X → List (List ℕ))
    (xs : List X) (i : ℕ) (x : X) → i < length xs → x ≡ slice_index_or xs i x → Loads home (before ++ flat_map f (take i xs)) a b u v → Loads home (f x) b c v w
    → Loads home (before ++ flat_map f (take (i + 1) xs)) a c u w
loads_steps {X} before f xs i x within is p q =
    loads_named (loads_then p q) refl
    (append_assoc before (flat_map f (take i xs)) (f x) ∙ ap (λ l. before ++ l) (sym (next_names f xs i x within is)))

or_true_after : (a b : Bool) → b ≡ true → (a || b) ≡ true
or_true_after true b is = refl
or_true_after false b is = is

-- a file that comes by this name, and is noted where it couldn't be read
pub loads_new : (home name : List ℕ) (files new : List File) (file : File) (unread still : List (List ℕ)) → new ≡ files ++ file ∷ []
    → is_named name home file ≡ true → still ≡ unread ++ unread_name file → Loads home (name ∷ []) files new unread still
loads_new home name files new file unread still kept named noted =
    grind (arith, common_steps, All-cons, All-nil, append-nil, list_any-append, or_true_after, or_true)

same_texts : (xs ys : List ℕ) → xs ≡ ys → bytes_eq xs ys ≡ true
same_texts xs ys is = (bytes_eq-Decides xs ys).1 is

both_true : (a b : Bool) → a ≡ true → b ≡ true → (a && b) ≡ true
both_true true b p q = q
both_true false b p q = absurd (cc p)

-- a file of this name, in a project with this file, is asked for by these
pub named_so : (name home : List ℕ) (f : File) → string_bytes f.name ≡ name → string_bytes f.home ≡ home → is_named name home f ≡ true
named_so name home f name_is home_is = both_true _ _ (same_texts _ name name_is) (same_texts _ home home_is)

-- what holds where it went well, by what else does
pub on_ok : {T E : Type 0} {P Q : Type 0} (r : Result T E) → (P → Q) → OnOk r P → OnOk r Q
on_ok (Ok x) f p = f p
on_ok (Err e) f p = tt
