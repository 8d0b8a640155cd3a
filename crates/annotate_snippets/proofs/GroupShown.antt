-- The page that the graphic form has for a group shows it.
use Rattle.annotate_snippets.proofs.Common.{◌≡◌, ℕ, List, [], ◌∷◌, Option, flat_map, option_to_list, plain_text, links_of, Group, Title}
use Rattle.annotate_snippets.proofs.Common.{trusted_texts, id_links, group_page, group_rows, IsFreeBut, ShowsGroup, Renderer, Layout, GroupPosition}
use Rattle.annotate_snippets.proofs.OneLineTexts.{HasOneLineRows, IsOneLineGroup}

-- a group's page shows it: it links to what the group's title links to, each listed character of it is one of the group's trusted texts, and it
-- holds no line feed, where its texts bring none
pub record GroupShown (r : Renderer) (layout : Layout) (place : GroupPosition) (file : Option (List ℕ)) (g : Group) : Type 0 where
  pub shows : ShowsGroup r layout place file g (group_page r layout place file g)
  pub links : links_of (group_rows (group_page r layout place file g)) ≡ flat_map (λ (t : Title). id_links r.hyperlink t.id) (option_to_list g.title)
  pub free : IsFreeBut (trusted_texts (g ∷ [])) (plain_text (group_rows (group_page r layout place file g)))
  pub one_line : IsOneLineGroup layout.label_lines g → HasOneLineRows (group_page r layout place file g)
