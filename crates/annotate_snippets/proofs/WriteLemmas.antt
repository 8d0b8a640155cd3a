-- What a writer holds once a report was to be written to it, a group at a time.
use Rattle.std.proofs.lemmas.Grind.{common_steps}
use Rattle.annotate_snippets.proofs.Common.{◌≡◌, ◌⊎◌, ℕ, suc, ◌+◌, ◌<◌, ◌≤◌, ◌==◌, Bool, true, false, List, [], ◌∷◌, ◌++◌, Option, refl, alloc_error, sym, ap}
use Rattle.annotate_snippets.proofs.Common.{◌∙◌, subst, inl, inr, arith, length, take, cond, Appends, AllZip, flat_map, join_with_byte, IfErr, OnOk}
use Rattle.annotate_snippets.proofs.Common.{Appends-nil, Appends-trans, take-append-add, take-append_seam, append_assoc, append-nil, length-append}
use Rattle.annotate_snippets.proofs.Common.{take-append-le, nat_tests, AllZip-long, piece_text, WeavesRows, Prints-from_pieces, Group, AllZip-last, Cell}
use Rattle.annotate_snippets.proofs.Common.{LevelInner, Stylesheet, zip_append, graphic_form, IsTextUnder, PageLaws, held, GroupPage, PrintsPage, group_rows}
use Rattle.annotate_snippets.proofs.Common.{Stops, Takes, AddsGroup, IsStop, IsTextIn, PrintsGroup, ShowsIn, StopsAtGroup, WritesGroup, WritesPart, WritesText}
use Rattle.annotate_snippets.proofs.Common.{blames_writer, Renderer, Memory, Graphic, ReportWriter, RenderToError, Refused}
use Rattle.std.specs.Prelude.{Result, Ok, Err}
use Rattle.std.specs.Result.{OnErr}
use Rattle.annotate_snippets.proofs.FormsShown.{page-law}
use Rattle.annotate_snippets.proofs.PageWords.{Page, PrintsPart}
use Rattle.annotate_snippets.proofs.PrintedText.{texts_of_page}
use Rattle.annotate_snippets.proofs.SinkLemmas.{holds_after}

-- ---- texts that are joined

-- what further parts, whose text this is, add to some: nothing where there are none, and no line feed before the first
abbrev after : {X Y : Type 0} → List X → List Y → List ℕ → List ℕ
after before [] text = []
after [] (y ∷ ys) text = text
after (x ∷ xs) (y ∷ ys) text = 10 ∷ text

joined : (xs ys : List (List ℕ)) → join_with_byte 10 (xs ++ ys) ≡ join_with_byte 10 xs ++ after xs ys (join_with_byte 10 ys)
joined [] [] = refl
joined [] (y ∷ ys) = refl
joined (x ∷ []) [] = sym (append-nil x)
joined (x ∷ []) (y ∷ ys) = refl
joined (x ∷ z ∷ xs) [] = ap (λ t. x ++ 10 ∷ t) (joined (z ∷ xs) []) ∙ sym (append_assoc x (10 ∷ join_with_byte 10 (z ∷ xs)) [])
joined (x ∷ z ∷ xs) (y ∷ ys) = cc (joined (z ∷ xs) (y ∷ ys), append_assoc x (10 ∷ join_with_byte 10 (z ∷ xs)) (10 ∷ join_with_byte 10 (y ∷ ys)))

-- a part that isn't the first adds a line feed at least
after_some : {X Y : Type 0} (xs : List X) (ys : List Y) (text : List ℕ) → 0 < length xs → 0 < length ys → 0 < length (after xs ys text)
after_some [] ys text some more = absurd (omega (arith, some))
after_some (x ∷ xs) [] text some more = absurd (omega (arith, more))
after_some (x ∷ xs) (y ∷ ys) text some more = grind arith

-- where a group stands before, none is the first
not_first : (n : ℕ) → (suc n == 0) ≡ false
not_first n = grind (arith, nat_tests)

module _ (sheet : Stylesheet) where
  -- a text that prints a page and further groups, and begins with this one; it is longer where groups follow some
  record GoesOn (page further : Page) (text : List ℕ) : Type 0 where
    pub whole : List ℕ
    pub prints : PrintsPage sheet (page ++ further) whole
    pub rest : List ℕ
    pub is : whole ≡ text ++ rest
    pub more : 0 < length page → 0 < length further → 0 < length rest

  -- a text that prints a page goes on to one that prints further groups too
  goes_on : (page further : Page) (text : List ℕ) → PrintsPage sheet page text → GoesOn page further text
  goes_on page further text before =
      let below = texts_of_page sheet further in
      record {
        whole = join_with_byte 10 (before.parts ++ below.0);
        prints = grind (arith, common_steps, below, zip_append, joined, before.parts, below.0, before.printed, below.1);
        rest = after before.parts below.0 (join_with_byte 10 below.0);
        is = joined before.parts below.0 ∙ ap (λ t. t ++ after before.parts below.0 (join_with_byte 10 below.0)) (sym before.joined);
        more = λ some follow. after_some before.parts below.0 _ (omega (arith, some, AllZip-long (PrintsPart sheet) page before.parts before.printed))
            (omega (arith, follow, AllZip-long (PrintsPart sheet) further below.0 below.1));
      }

  -- one more group is printed after some
  pub group_more : (page : Page) (g : GroupPage) (text more : List ℕ) → PrintsPage sheet page text
      → PrintsGroup sheet (length page == 0) g.level (group_rows g) more → PrintsPage sheet (page ++ g ∷ []) (text ++ more)
  group_more page g text more before adds =
      record {
        parts = before.parts ++ adds.part ∷ [];
        printed = AllZip-last (PrintsPart sheet) page before.parts g adds.part before.printed adds.prints;
        joined = cc (before.joined, added page before.parts before.printed adds.text_is, joined before.parts (adds.part ∷ []));
      }
    where
      added : (page : Page) (parts : List (List ℕ)) → AllZip (PrintsPart sheet) page parts → more ≡ cond (length page == 0) adds.part (10 ∷ adds.part)
          → more ≡ after parts (adds.part ∷ []) (join_with_byte 10 (adds.part ∷ []))
      added [] [] printed text = text
      added [] (x ∷ parts) printed text = absurd printed
      added (h ∷ page) [] printed text = absurd printed
      added (h ∷ page) (x ∷ parts) printed text = text ∙ ap (λ b. cond b adds.part (10 ∷ adds.part)) (not_first (length page))

-- a first part of a text that goes on
part_goes_on : (a b c : List ℕ) (k : ℕ) → k ≤ length b → take (length a + k) ((a ++ b) ++ c) ≡ a ++ take k b
part_goes_on a b c k within = ap (take (length a + k)) (append_assoc a b c) ∙ take-append-add a (b ++ c) k ∙ ap (λ t. a ++ t) (take-append-le k b c within)

-- ---- a report that is written a group at a time

-- what was added after a line feed, or before anything, prints a group's rows
pub rows_printed : (sheet : Stylesheet) (level : LevelInner) (rows : List (List Cell)) (first : Bool) (before text : List ℕ)
    → before ≡ cond first [] (10 ∷ []) → WeavesRows sheet level rows before text → PrintsGroup sheet first level rows text
rows_printed sheet level rows true before text lead adds = grind (arith, common_steps, Prints-from_pieces)
rows_printed sheet level rows false before text lead adds = grind (arith, common_steps, Prints-from_pieces)

-- the same, as what a text grew by: `lead` is the text with the line feed, if there is one
pub rows_added : (sheet : Stylesheet) (level : LevelInner) (rows : List (List Cell)) (first : Bool) (before lead text : List ℕ)
    → lead ≡ cond first before (before ++ 10 ∷ []) → WeavesRows sheet level rows lead text → AddsGroup sheet first level rows before text
rows_added sheet level rows true before lead text is adds =
    record {
      text = flat_map piece_text adds.pieces;
      prints = grind (arith, common_steps, Prints-from_pieces);
      added = adds.text_is ∙ ap (λ t. t ++ flat_map piece_text adds.pieces) is;
    }
rows_added sheet level rows false before lead text is adds =
    record {
      text = 10 ∷ flat_map piece_text adds.pieces;
      prints = record {
        part = flat_map piece_text adds.pieces;
        prints = Prints-from_pieces sheet level rows _ (record { pieces = adds.pieces; text_is = refl; prints = adds.are });
        text_is = refl;
      };
      added = adds.text_is ∙ ap (λ t. t ++ flat_map piece_text adds.pieces) is ∙ append_assoc before (10 ∷ []) (flat_map piece_text adds.pieces);
    }

-- a text that prints the page of a report, where this has its laws, is the report's
pub page_text_is : (r : Renderer) (groups : List Group) (sheet : Stylesheet) (text : List ℕ) → PageLaws r groups (graphic_form r groups)
    → PrintsPage sheet (graphic_form r groups) text → IsTextUnder Graphic r groups sheet text
page_text_is r groups sheet text laws prints = record { shows = record { printed = (prints, tt) }; laws = page-law r groups laws sheet text prints }

-- ---- a writer

module _ {W : Type 0} (contents : W → Option (List ℕ)) (sheet : Stylesheet) (start : ReportWriter W) where
  -- a writer after these groups of a page: the text that prints them under the sheet is added to what it held at the start, and no write failed
  record WrittenSoFar (page : Page) (now : ReportWriter W) : Type 0 where
    pub same_reference : now.target.ghost_name ≡ start.target.ghost_name
    pub under : now.codes.now ≡ sheet
    pub sound : now.has_failed ≡ start.has_failed
    pub written : WritesText (PrintsPage sheet page) (held contents start) (held contents now)

  -- before the first group
  written_none : start.codes.now ≡ sheet → WrittenSoFar [] start
  written_none under = grind (arith, common_steps, joined, Appends-nil)

  -- after one more
  written_more : (page : Page) (g : GroupPage) (old new : ReportWriter W) → WrittenSoFar page old → WritesGroup contents (length page == 0) g old new
      → WrittenSoFar (page ++ g ∷ []) new
  written_more page g old new before adds =
      let text = before.written.text in
      let more = adds.written.text in
      let prints = subst (λ (s : Stylesheet). PrintsGroup s (length page == 0) g.level (group_rows g) more) before.under adds.written.is in
      record {
        same_reference = adds.same_reference ∙ before.same_reference;
        under = adds.sheet ∙ before.under;
        sound = adds.sound ∙ before.sound;
        written = record {
          text = text ++ more;
          is = group_more sheet page g text more before.written.is prints;
          appended = Appends-trans (held contents start) (held contents old) (held contents new) text more before.written.appended adds.written.appended;
        };
      }

  written_after : (page : Page) (now : ReportWriter W) → start.codes.now ≡ sheet → Takes (WritesGroup contents) true page start now → WrittenSoFar page now
  written_after page now under taken = holds_after (WritesGroup contents) WrittenSoFar written_more page start now (written_none under) taken

  -- where it stops between groups, a first part of a text that prints the page was written
  part_between : (page further : Page) (now : ReportWriter W) → 0 < length page → 0 < length further → WrittenSoFar page now
      → WritesPart (PrintsPage sheet (page ++ further)) (held contents start) (held contents now)
  part_between page further now some follow before =
      let text = before.written.text in
      let goes = goes_on sheet page further text before.written.is in
      record {
        text = goes.whole;
        is = goes.prints;
        part = record {
          count = length text;
          short = omega (arith, ap length goes.is, length-append text goes.rest, goes.more some follow);
          appended = subst (Appends (held contents start) (held contents now)) (sym (ap (take (length text)) goes.is ∙ take-append_seam text goes.rest))
              before.written.appended;
        };
      }

  -- and where it stops within a group
  part_within : (page further : Page) (g : GroupPage) (mid now : ReportWriter W) → WrittenSoFar page mid
      → WritesPart (PrintsGroup sheet (length page == 0) g.level (group_rows g)) (held contents mid) (held contents now)
      → WritesPart (PrintsPage sheet (page ++ g ∷ further)) (held contents start) (held contents now)
  part_within page further g mid now before adds =
      let text = before.written.text in
      let printed = group_more sheet page g text adds.text before.written.is adds.is in
      let goes = goes_on sheet (page ++ g ∷ []) further (text ++ adds.text) printed in
      let count = adds.part.count in
      record {
        text = goes.whole;
        is = subst (λ (gs : Page). PrintsPage sheet gs goes.whole) (append_assoc page (g ∷ []) further) goes.prints;
        part = record {
          count = length text + count;
          short = omega (arith, ap length goes.is, length-append (text ++ adds.text) goes.rest, length-append text adds.text, adds.part.short);
          appended = subst (Appends (held contents start) (held contents now))
              (sym (ap (take (length text + count)) goes.is ∙ part_goes_on text adds.text goes.rest count (omega (arith, adds.part.short))))
              (Appends-trans _ _ _ text _ before.written.appended adds.part.appended);
        };
      }

  -- so where it stops at a group it is as at the start, or a first part of such a text was written
  stopped_at : (page further : Page) (g : GroupPage) (mid now : ReportWriter W) → start.codes.now ≡ sheet → Takes (WritesGroup contents) true page start mid
      → (now ≡ mid) ⊎ WritesPart (PrintsGroup mid.codes.now (length page == 0) g.level (group_rows g)) (held contents mid) (held contents now)
      → (now ≡ start) ⊎ WritesPart (PrintsPage sheet (page ++ g ∷ further)) (held contents start) (held contents now)
  stopped_at page further g mid now under taken (inr adds) =
      let before = written_after page mid under taken in
      inr (part_within page further g mid now before (subst (λ (s : Stylesheet).
      WritesPart (PrintsGroup s (length page == 0) g.level (group_rows g)) (held contents mid) (held contents now)) before.under adds))
  stopped_at [] further g mid now under taken (inl same) = inl (same ∙ taken)
  stopped_at (h ∷ page) further g mid now under taken (inl same) =
      inr (subst (λ (w : ReportWriter W). WritesPart (PrintsPage sheet (h ∷ page ++ g ∷ further)) (held contents start) (held contents w)) (sym same)
      (part_between (h ∷ page) (g ∷ further) mid (omega arith) (omega arith) (written_after (h ∷ page) mid under taken)))

-- what an answer says once the groups of a report were to be written
pub record PageWritten {A W : Type 0} (contents : W → Option (List ℕ)) (r : Renderer) (groups : List Group) (answer : Result A RenderToError)
    (old new : ReportWriter W) : Type 0 where
  pub same_reference : new.target.ghost_name ≡ old.target.ghost_name
  pub told : old.has_failed ≡ false → new.has_failed ≡ blames_writer answer
  pub stopped : IfErr answer IsStop
  pub whole : OnOk answer (WritesText (IsTextIn Graphic r groups) (held contents old) (held contents new))
  pub part : OnErr answer ((new ≡ old) ⊎ WritesPart (ShowsIn Graphic r groups) (held contents old) (held contents new))

-- each text that prints the page shows the report
part_shown : (r : Renderer) (groups : List Group) (old new : Option (List ℕ)) → WritesPart (PrintsPage r.stylesheet (graphic_form r groups)) old new
    → WritesPart (ShowsIn Graphic r groups) old new
part_shown r groups old new adds = record { text = adds.text; is = record { printed = (adds.is, tt) }; part = adds.part }

module _ {A W : Type 0} (contents : W → Option (List ℕ)) (r : Renderer) (groups : List Group) where
  -- what an answer says, by what it says of the sink
  pub page_written : (answer : Result A RenderToError) (old new : ReportWriter W) → old.codes.now ≡ r.stylesheet
      → OnOk answer (PageLaws r groups (graphic_form r groups)) → OnOk answer (Takes (WritesGroup contents) true (graphic_form r groups) old new)
      → IfErr answer (λ error. Stops (WritesGroup contents) (StopsAtGroup contents) (λ e. e ≡ Refused (Memory alloc_error)) (graphic_form r groups) error
      old new)
      → PageWritten contents r groups answer old new
  page_written (Ok x) old new under laws taken stopped =
      let all = written_after contents r.stylesheet old (graphic_form r groups) new under taken in
      record {
        same_reference = all.same_reference;
        told = λ none. all.sound ∙ none;
        stopped = tt;
        whole = record {
          text = all.written.text;
          is = page_text_is r groups r.stylesheet all.written.text laws all.written.is;
          appended = all.written.appended;
        };
        part = tt;
      }
  page_written (Err error) old new under laws taken (inl (memory, same)) = grind (arith, common_steps)
  page_written (Err error) old new under laws taken (inr at) =
      let before = written_after contents r.stylesheet old at.before at.mid under at.taken in
      let stops = at.stops in
      record {
        same_reference = stops.same_reference ∙ before.same_reference;
        told = λ none. stops.told (before.sound ∙ none);
        stopped = stops.stop;
        whole = tt;
        part = elim (stopped_at contents r.stylesheet old at.before at.after at.group at.mid new under at.taken stops.part) [
          | inl same ↦ inl same
          | inr part ↦ grind (arith, common_steps, held, part, at.page_is)
        ];
      }

-- writers that are lent alike hold what is the same
pub target_same : {W : Type 0} (a b : ReportWriter W) → a ≡ b → a.target.now ≡ b.target.now
target_same {W} a b same = ap (λ (w : ReportWriter W). w.target.now) same
