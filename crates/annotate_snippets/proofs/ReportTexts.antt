-- The trusted texts of a report, and what its titles link to.
use Rattle.std.proofs.lemmas.Grind.{common_steps}
use Rattle.std.proofs.Common.{arith, chars}
use Rattle.annotate_snippets.proofs.Common.{◌≡◌, ℕ, Bool, true, false, Option, None, Some, List, [], ◌∷◌, ◌++◌, refl, sym, ap, subst}
use Rattle.annotate_snippets.proofs.Common.{◌∙◌, Contains, flat_map, option_to_list, cow_str_bytes, append-nil, All-weaker, Contains-append_left}
use Rattle.annotate_snippets.proofs.Common.{Contains-append_right, flat_map-append, norm, trusted_of_element, trusted_of_title, trusted_texts, Group, Id, Title}
use Rattle.annotate_snippets.proofs.Common.{id_links, text_links, IsFreeBut, report_links, Renderer}

-- the trusted texts of a group
abbrev pub trusted_of : Group → List (List ℕ)
trusted_of g = flat_map trusted_of_title (option_to_list g.title) ++ flat_map trusted_of_element g.elements.items

-- what a title links to
abbrev pub title_links : Bool → Group → List (List ℕ)
title_links hyperlink g = flat_map (λ (t : Title). id_links hyperlink t.id) (option_to_list g.title)

-- a text that is free but for some trusted texts is so with more of them
free_more : (few many : List (List ℕ)) (text : List ℕ) → ((c : ℕ) → Contains (flat_map chars few) c → Contains (flat_map chars many) c) → IsFreeBut few text
    → IsFreeBut many text
free_more few many text more free = grind (arith, All-weaker)

-- what is free but for the first group's trusted texts is free but for those of all groups
pub free_first : (g : Group) (gs : List Group) (text : List ℕ) → IsFreeBut (trusted_texts (g ∷ [])) text → IsFreeBut (trusted_texts (g ∷ gs)) text
free_first g gs text free = grind (arith, common_steps, free_more, flat_map-append, Contains-append_left, append-nil)

-- what is free but for the further groups' trusted texts is free but for those of all groups
pub free_rest : (g : Group) (gs : List Group) (text : List ℕ) → IsFreeBut (trusted_texts gs) text → IsFreeBut (trusted_texts (g ∷ gs)) text
free_rest g gs text free =
    free_more (trusted_texts gs) (trusted_texts (g ∷ gs)) text (λ c among.
    subst (λ cs. Contains cs c) (sym (flat_map-append chars (trusted_of g) (trusted_texts gs)))
    (Contains-append_right (flat_map chars (trusted_of g)) (flat_map chars (trusted_texts gs)) c among)) free

-- without links nothing links
pub no_links : (id : Option Id) → id_links false id ≡ []
no_links None = refl
no_links (Some id) = of_text (flat_map (λ t. norm (chars (cow_str_bytes t))) (option_to_list id.id))
  where
    of_text : (shown : List ℕ) → text_links None shown ≡ []
    of_text [] = refl
    of_text (c ∷ cs) = refl

no_title_links : (gs : List Group) → flat_map (title_links false) gs ≡ []
no_title_links [] = refl
no_title_links (g ∷ gs) = ap (λ urls. urls ++ flat_map (title_links false) gs) (of_title g.title) ∙ no_title_links gs
  where
    of_title : (title : Option Title) → flat_map (λ (t : Title). id_links false t.id) (option_to_list title) ≡ []
    of_title None = refl
    of_title (Some title) = ap (λ urls. urls ++ []) (no_links title.id)

-- a report links to what its titles link to
pub links_of_titles : (r : Renderer) (groups : List Group) → flat_map (title_links r.hyperlink) groups ≡ report_links r groups
links_of_titles r groups = by r.hyperlink refl
  where
    by : (hyperlink : Bool) → r.hyperlink ≡ hyperlink → flat_map (title_links r.hyperlink) groups ≡ report_links r groups
    by true is = rw is refl
    by false is = rw is (no_title_links groups)
