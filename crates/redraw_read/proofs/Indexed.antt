-- Files, and where they stand by their names.
use Rattle.std.proofs.lemmas.Grind.{common_steps}
use Rattle.std.proofs.Common.{◌≡◌, ℕ, suc, ◌&&◌, Bool, true, false, List, [], ◌∷◌, ◌++◌, length}
use Rattle.std.proofs.Common.{Option, Some, None, is_some, string_bytes, refl, sym, ap, ◌∙◌, if◌then◌else◌, arith}
use Rattle.std.specs.List.{find, list_any, slice_get}
use Rattle.std.specs.Option.{option_and_then, option_map}
use Rattle.std.specs.Str.{bytes_eq}
use Rattle.std.proofs.lemmas.Slice.Eq.{bytes_eq-Decides}
use Rattle.redraw_read.specs.Extract.{is_named}
use Rattle.redraw_read.specs.FileIndex.{IsIndexOf, place_among, place_in}
use Rattle.redraw_read.specs.declared.index.FileIndex.{FileIndex}
use Rattle.redraw_read.specs.declared.sources.File.{File}

-- the file that stands at the place of a name is the first of that name
pub file_found : (files : List File) (name home : List ℕ)
    → option_and_then (slice_get files) (place_among files name home) ≡ find (is_named name home) files
file_found [] name home = refl
file_found (f ∷ files) name home = grind (arith, common_steps, file_found files name home)

-- a name has a place where a file has it
pub is_placed : (files : List File) (name home : List ℕ) → is_some (place_among files name home) ≡ list_any (is_named name home) files
is_placed [] name home = refl
is_placed (f ∷ files) name home = grind (arith, common_steps, is_placed files name home)

is_none : (p : Option ℕ) → is_some p ≡ false → p ≡ None
is_none None is = refl
is_none (Some i) is = absurd (cc is)

-- the place of a file that comes last, unless there is one before it
last_place : Option ℕ → Bool → ℕ → Option ℕ
last_place (Some i) b k = Some i
last_place None b k = if b then Some k else None

last_further : (p : Option ℕ) (b : Bool) (k : ℕ) → option_map suc (last_place p b k) ≡ last_place (option_map suc p) b (suc k)
unfolding last_place
last_further p b k = grind (arith, common_steps)

place_push : (files : List File) (f : File) (name home : List ℕ)
    → place_among (files ++ f ∷ []) name home ≡ last_place (place_among files name home) (is_named name home f) (length files)
unfolding last_place
place_push [] f name home = refl
place_push (g ∷ files) f name home = placed (place_push files f name home) (is_named name home g)
  where
    placed : place_among (files ++ f ∷ []) name home ≡ last_place (place_among files name home) (is_named name home f) (length files)
        → (b : Bool) → (if b then Some 0 else option_map suc (place_among (files ++ f ∷ []) name home))
        ≡ last_place (if b then Some 0 else option_map suc (place_among files name home)) (is_named name home f) (suc (length files))
    placed later true = refl
    placed later false =
        ap (option_map suc) later
        ∙ last_further (place_among files name home) (is_named name home f) (length files)

-- with one more file, of a name that none of the others has, an index that has its place is that of all
pub index_push : (old new : FileIndex) (files : List File) (f : File) (name home : List ℕ)
    → IsIndexOf old files → list_any (is_named name home) files ≡ false → string_bytes f.name ≡ name → string_bytes f.home ≡ home
    → ((n h : List ℕ) → place_in new n h ≡ (if bytes_eq name n && bytes_eq home h then Some (length files) else place_in old n h))
    → IsIndexOf new (files ++ f ∷ [])
unfolding last_place
index_push old new files f name home index absent is_name is_home added n h =
    added n h ∙ placed (bytes_eq name n && bytes_eq home h) refl
    ∙ sym (ap (λ (b : Bool). last_place (place_among files n h) b (length files)) named)
    ∙ sym (place_push files f n h)
  where
    named : is_named n h f ≡ (bytes_eq name n && bytes_eq home h)
    named = ap (λ (t : List ℕ). bytes_eq t n && bytes_eq (string_bytes f.home) h) is_name ∙ ap (λ (t : List ℕ). bytes_eq name n && bytes_eq t h) is_home

    first_holds : (a b : Bool) → (a && b) ≡ true → a ≡ true
    first_holds true b is = refl
    first_holds false b is = absurd (cc is)

    second_holds : (a b : Bool) → (a && b) ≡ true → b ≡ true
    second_holds true b is = is
    second_holds false b is = absurd (cc is)

    none : place_among files name home ≡ None
    none = is_none (place_among files name home) (is_placed files name home ∙ absent)

    kept : (p : Option ℕ) → p ≡ last_place p false (length files)
    kept None = refl
    kept (Some i) = refl

    fresh : (p : Option ℕ) → p ≡ None → Some (length files) ≡ last_place p true (length files)
    fresh None is = refl
    fresh (Some i) is = absurd (cc is)

    placed : (b : Bool) → (bytes_eq name n && bytes_eq home h) ≡ b
        → (if b then Some (length files) else place_in old n h) ≡ last_place (place_among files n h) b (length files)
    placed true is =
        fresh (place_among files n h)
        (ap (λ (t : List ℕ). place_among files t h) (sym ((bytes_eq-Decides name n).0 (first_holds (bytes_eq name n) (bytes_eq home h) is)))
        ∙ ap (place_among files name) (sym ((bytes_eq-Decides home h).0 (second_holds (bytes_eq name n) (bytes_eq home h) is)))
        ∙ none)
    placed false is = index n h ∙ kept (place_among files n h)
