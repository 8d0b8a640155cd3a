-- What the rows of a heading show, where they are added to a grid.
use Rattle.snippet_titles.proofs.Common.{◌≡◌, ℕ, Bool, List, [], ◌++◌, length, drop, get_or, All, sym, subst, ap, ◌∙◌, drop-append_seam}
use Rattle.snippet_titles.proofs.Common.{row_at, Cell, row_text, Heading, TitleStyle, heading_rows, IsFreeButText, heading_texts, LinksId}
use Rattle.snippet_titles.proofs.FreeLemmas.{heading_rows-free}
use Rattle.snippet_titles.proofs.PlaceLemmas.{heading_rows-places}
use Rattle.snippet_titles.proofs.TextLemmas.{heading_rows-texts}

module _ (old new : List (List Cell)) (hyperlink : Bool) (style : TitleStyle) (heading : Heading) (is : new ≡ old ++ heading_rows hyperlink style heading) where
  -- they are what is added
  added : drop (length old) new ≡ heading_rows hyperlink style heading
  added = ap (drop (length old)) is ∙ drop-append_seam old (heading_rows hyperlink style heading)

  -- the rows that a heading adds have its texts
  pub added_texts : (k : ℕ) → row_text (row_at (drop (length old) new) k) ≡ get_or (heading_texts style heading) k []
  added_texts k = ap (λ rows. row_text (row_at rows k)) added ∙ heading_rows-texts hyperlink style heading k

  -- the rows that a heading adds are free of listed characters but those of its own text
  pub added_free : All (IsFreeButText heading) (drop (length old) new)
  added_free = subst (All (IsFreeButText heading)) (sym added) (heading_rows-free hyperlink style heading)

  -- the rows that a heading adds link its id
  pub added_links : LinksId hyperlink style heading (drop (length old) new)
  added_links = subst (LinksId hyperlink style heading) (sym added) (heading_rows-places hyperlink style heading)
