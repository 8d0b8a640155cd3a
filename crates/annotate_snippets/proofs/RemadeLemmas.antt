-- What a report that is made of another, title by title and element by element, has in common with it: its faults, its links, and the listed
-- characters of its trusted texts.
use Rattle.std.proofs.lemmas.Grind.{common_steps}
use Rattle.std.proofs.Common.{arith, chars}
use Rattle.annotate_snippets.proofs.Common.{◌≡◌, ◌∙◌, ℕ, Bool, true, false, List, [], ◌∷◌, Option, None, Some, All, IfSome}
use Rattle.annotate_snippets.proofs.Common.{if◌then◌else◌, is_none, ◌⊎◌, inl, inr, refl, sym, ap, ap₂, subst, false≢true, All-contains}
use Rattle.annotate_snippets.proofs.Common.{All-contains_itself, All-weaker, Contains-append_cases, Contains-append_left, Contains-append_right, AllZip}
use Rattle.annotate_snippets.proofs.Common.{Contains, flat_map, slice_get, option_or, option_to_list, ElementFits, ReportFits, TitleFits, SameOption}
use Rattle.annotate_snippets.proofs.Common.{trusted_of_element, trusted_of_title, trusted_texts, Element, Group, Title, IsGroupMade, IsGroupTaken, is_listed}
use Rattle.annotate_snippets.proofs.Common.{id_links, drawn_elements, is_drawn, element_faults, first_fault, first_of, group_faults, missing_title, refusal_in}
use Rattle.annotate_snippets.proofs.Common.{links_in, HasOneLineTexts, IsFreeBut, report_links, Renderer, NoTitle, Form, Graphic, Short, Text, zip_append}
use Rattle.annotate_snippets.proofs.OneLineTexts.{IsOneLineElement, IsOneLineTitle, one_line_groups, one_line_texts}
use Rattle.annotate_snippets.proofs.PairedLemmas.{Paired, all-over, chosen, faults-same, first-pair, flat-same, flat-zip, option-same, option-zip, paired}

-- ---- texts

-- each listed character of the second text is one of the first
abbrev pub IsOf : List ℕ → ℕ → Type 0
IsOf cs c = is_listed c ≡ true → Contains cs c

abbrev pub IsTextOf : List ℕ → List ℕ → Type 0
IsTextOf a b = All (IsOf (chars a)) (chars b)

pub same-text : (a b : List ℕ) → b ≡ a → IsTextOf a b
same-text a b same =
    subst (IsTextOf a) (sym same) (All-weaker (Contains (chars a)) (IsOf (chars a)) (λ c own listed. own) (chars a) (All-contains_itself (chars a)))

pub own-texts : (texts : List (List ℕ)) → AllZip IsTextOf texts texts
own-texts [] = tt
own-texts (text ∷ texts) = (same-text text text refl, own-texts texts)

-- so is each of texts
Contains-texts : (given shown : List (List ℕ)) → AllZip IsTextOf given shown → (c : ℕ) → is_listed c ≡ true → Contains (flat_map chars shown) c
    → Contains (flat_map chars given) c
Contains-texts [] [] pairs c listed own = own
Contains-texts [] (y ∷ ys) pairs c listed own = absurd pairs
Contains-texts (x ∷ xs) [] pairs c listed own = absurd pairs
Contains-texts (x ∷ xs) (y ∷ ys) pairs c listed own =
    elim (Contains-append_cases (chars y) (flat_map chars ys) c own) [
      | inl first ↦ Contains-append_left (chars x) (flat_map chars xs) c (All-contains (IsOf (chars x)) (chars y) c pairs.0 first listed)
      | inr later ↦ Contains-append_right (chars x) (flat_map chars xs) c (Contains-texts xs ys pairs.1 c listed later)
    ]

-- each character of the second text is one of the first, or a line feed, which isn't listed
pub text-own : (a b : List ℕ) → All (λ c. (c ≡ 10) ⊎ Contains (chars a) c) (chars b) → IsTextOf a b
text-own a b own = grind (arith, All-weaker, false≢true)

-- ---- what is asked of the parts

-- what is made of titles and elements keeps faults, links and trusted texts, and is drawn where they are
pub record IsFaithful (T : Title → Title → Type 0) (E : Element → Element → Type 0) : Type 0 where
  pub faults : (group element : ℕ) (a b : Element) → E a b → element_faults group element b ≡ element_faults group element a
  pub links : (a b : Title) → T a b → id_links true b.id ≡ id_links true a.id
  pub trusted_title : (a b : Title) → T a b → AllZip IsTextOf (trusted_of_title a) (trusted_of_title b)
  pub trusted : (a b : Element) → E a b → AllZip IsTextOf (trusted_of_element a) (trusted_of_element b)
  pub drawn : (a b : Element) → E a b → is_drawn b ≡ is_drawn a

-- ---- what follows for the report

-- what a report that is shown keeps of the one in whose place it is
pub record Keeps (groups shown : List Group) : Type 0 where
  pub fault : first_fault shown ≡ first_fault groups
  pub missing : (form : Form) → missing_title form shown ≡ missing_title form groups
  pub links : (form : Form) (r : Renderer) → links_in form r shown ≡ links_in form r groups
  pub free : (text : List ℕ) → IsFreeBut (trusted_texts shown) text → IsFreeBut (trusted_texts groups) text

pub keeps-own : (groups : List Group) → Keeps groups groups
keeps-own groups = record { fault = refl; missing = λ form. refl; links = λ form r. refl; free = λ text free. free }

pub keeps-then : (a b c : List Group) → Keeps a b → Keeps b c → Keeps a c
keeps-then a b c first second = record {
  fault = second.fault ∙ first.fault;
  missing = λ form. second.missing form ∙ first.missing form;
  links = λ form r. second.links form r ∙ first.links form r;
  free = λ text free. first.free text (second.free text free);
}

-- so it is refused for the same reason
pub refusal-kept : (form : Form) (groups shown : List Group) → Keeps groups shown → refusal_in form shown ≡ refusal_in form groups
refusal-kept form groups shown kept = ap₂ option_or (kept.missing form) kept.fault

title-there : (T : Title → Title → Type 0) (a b : Option Title) → SameOption T a b → is_none b ≡ is_none a
title-there T None None is = refl
title-there T None (Some b) is = cc
title-there T (Some a) None is = absurd is
title-there T (Some a) (Some b) is = refl

module _ (T : Title → Title → Type 0) (E : Element → Element → Type 0) where
  abbrev Made : Group → Group → Type 0
  Made = IsGroupMade T E

  missing-made : (form : Form) (groups shown : List Group) → AllZip Made groups shown → missing_title form shown ≡ missing_title form groups
  missing-made Graphic groups shown pairs = refl
  missing-made Text groups shown pairs = refl
  missing-made Short [] [] pairs = refl
  missing-made Short [] (b ∷ bs) pairs = absurd pairs
  missing-made Short (a ∷ gs) [] pairs = absurd pairs
  missing-made Short (a ∷ gs) (b ∷ bs) pairs = ap (λ (missing : Bool). if missing then Some NoTitle else None) (title-there T a.title b.title pairs.0.1)

  -- what goes over to the title and to the elements goes over to all groups
  pub over-made : (P : Title → Type 0) (Q : Element → Type 0) → ((a b : Title) → T a b → P a → P b) → ((a b : Element) → E a b → Q a → Q b)
      → (groups shown : List Group) → AllZip Made groups shown → All (IsGroupTaken P Q) groups → All (IsGroupTaken P Q) shown
  over-made P Q title element groups shown pairs all =
      all-over Made (IsGroupTaken P Q) (λ a b is own. (
        over-title a.title b.title is.1 own.0,
        all-over E Q element a.elements.items b.elements.items is.2 own.1,
      )) groups shown pairs all
    where
      over-title : (a b : Option Title) → SameOption T a b → IfSome a P → IfSome b P
      over-title None None is holds = tt
      over-title None (Some b) is holds = cc
      over-title (Some a) None is holds = absurd is
      over-title (Some a) (Some b) is holds = title a b is holds

  -- that their texts fit
  pub fits-made : ((a b : Title) → T a b → TitleFits a → TitleFits b) → ((a b : Element) → E a b → ElementFits a → ElementFits b)
      → (groups shown : List Group) → AllZip Made groups shown → ReportFits groups → ReportFits shown
  fits-made title element groups shown pairs fits = over-made TitleFits ElementFits title element groups shown pairs fits

  -- and that those that may be on one line only are
  pub line-made : ((a b : Title) → T a b → IsOneLineTitle a → IsOneLineTitle b)
      → ((a b : Element) → E a b → IsOneLineElement false a → IsOneLineElement false b)
      → (groups shown : List Group) → AllZip Made groups shown → HasOneLineTexts false groups → HasOneLineTexts false shown
  line-made title element groups shown pairs plain =
      one_line_texts false shown (over-made IsOneLineTitle (IsOneLineElement false) title element groups shown pairs (one_line_groups false groups plain))

  -- what holds of their trusted texts, in pairs, holds of all trusted texts
  pub trusted-zip : (Q : List ℕ → List ℕ → Type 0) → ((a b : Title) → T a b → AllZip Q (trusted_of_title a) (trusted_of_title b))
      → ((a b : Element) → E a b → AllZip Q (trusted_of_element a) (trusted_of_element b)) → (groups shown : List Group) → AllZip Made groups shown
      → AllZip Q (trusted_texts groups) (trusted_texts shown)
  trusted-zip Q title element groups shown pairs = grind (arith, common_steps, flat-zip, zip_append, option-zip)

  module _ (faithful : IsFaithful T E) where
    fault-made : (groups shown : List Group) → AllZip Made groups shown → first_fault shown ≡ first_fault groups
    unfolding first_fault
    fault-made groups shown pairs =
        ap first_of (faults-same Made group_faults group_faults
        (λ n a b is. faults-same E (element_faults n) (element_faults n) (faithful.faults n) 0 a.elements.items b.elements.items is.2) 0 groups shown pairs)

    report-links : (r : Renderer) (groups shown : List Group) → AllZip Made groups shown → report_links r shown ≡ report_links r groups
    report-links r groups shown pairs =
        ap (λ (links : List (List ℕ)). if r.hyperlink then links else [])
        (flat-same Made (λ g. flat_map (λ (t : Title). id_links true t.id) (option_to_list g.title))
        (λ a b is. option-same T (λ (t : Title). id_links true t.id) faithful.links a.title b.title is.1) groups shown pairs)

    links-made : (form : Form) (r : Renderer) (groups shown : List Group) → AllZip Made groups shown → links_in form r shown ≡ links_in form r groups
    links-made Graphic r groups shown pairs = report-links r groups shown pairs
    links-made Text r groups shown pairs = report-links r groups shown pairs
    links-made Short r groups shown pairs = report-links r _ _ (first-pair Made groups shown pairs)

    free-made : (groups shown : List Group) → AllZip Made groups shown → (text : List ℕ) → IsFreeBut (trusted_texts shown) text
        → IsFreeBut (trusted_texts groups) text
    free-made groups shown pairs text free =
        All-weaker (λ c. is_listed c ≡ true → Contains (flat_map chars (trusted_texts shown)) c)
        (λ c. is_listed c ≡ true → Contains (flat_map chars (trusted_texts groups)) c)
        (λ c own listed. Contains-texts (trusted_texts groups) (trusted_texts shown)
        (trusted-zip IsTextOf faithful.trusted_title faithful.trusted groups shown pairs) c listed (own listed)) text free

    -- the report keeps what its parts keep
    pub keeps : (groups shown : List Group) → AllZip Made groups shown → Keeps groups shown
    keeps groups shown pairs = record {
      fault = fault-made groups shown pairs;
      missing = λ form. missing-made form groups shown pairs;
      links = λ form r. links-made form r groups shown pairs;
      free = free-made groups shown pairs;
    }

-- ---- which element stands where

-- the element that is drawn n-th in group i, in the place of one
pub record DrawnPair (E : Element → Element → Type 0) (shown : List Group) (i n : ℕ) (e : Element) : Type 0 where
  pub group : Group
  pub there : slice_get shown i ≡ Some group
  pub other : Element
  pub drawn : slice_get (drawn_elements group) n ≡ Some other
  pub pair : E e other

pub drawn-pair : (T : Title → Title → Type 0) (E : Element → Element → Type 0) → IsFaithful T E → (groups shown : List Group)
    → AllZip (IsGroupMade T E) groups shown → (i n : ℕ) (g : Group) (e : Element) → slice_get groups i ≡ Some g → slice_get (drawn_elements g) n ≡ Some e
    → DrawnPair E shown i n e
drawn-pair T E faithful groups shown pairs i n g e at drawn =
    let one : Paired (IsGroupMade T E) shown i g = paired (IsGroupMade T E) groups shown pairs i g at in
    let two : Paired E (drawn_elements one.other) n e =
    paired E (drawn_elements g) (drawn_elements one.other) (chosen E is_drawn faithful.drawn g.elements.items one.other.elements.items one.pair.2) n e drawn in
    record { group = one.other; there = one.there; other = two.other; drawn = two.there; pair = two.pair }
