-- What the report that is shown has in common with the one in whose place it is, and that what is shown of it shows the report.
use Rattle.std.proofs.lemmas.Grind.{common_steps}
use Rattle.std.proofs.Common.{arith, chars}
use Rattle.annotate_snippets.proofs.Common.{◌≡◌, ◌∙◌, ◌||◌, ℕ, Bool, true, false, List, [], ◌∷◌, Option, None, ◌⊎◌, sym, subst, refl, All}
use Rattle.annotate_snippets.proofs.Common.{if◌then◌else◌, false≢true, All-contains, All-weaker, AllZip, Contains, flat_map, AllZip-weaker, ReportFits}
use Rattle.annotate_snippets.proofs.Common.{trusted_texts, Element, Group, Title, IsElementMasked, IsGroupMasked, IsTitleMasked, IsElementAsSet, IsGroupAsSet}
use Rattle.annotate_snippets.proofs.Common.{IsTitleAsSet, IsElementWrapped, IsGroupWrapped, IsTitleWrapped, IsGroupMade, Stays, IsElementWithContext}
use Rattle.annotate_snippets.proofs.Common.{IsGroupWithContext, Stylesheet, is_listed, form_text, lines_of_paragraphs, IsAsSet, IsMaskedFor, IsRemade}
use Rattle.annotate_snippets.proofs.Common.{IsShownFor, IsStep, adds_context, shows_as_given, wraps, IsDrawableAsSet, form_of, refusal_in, AreFree, ShowsForm}
use Rattle.annotate_snippets.proofs.Common.{ShowsReport, TextsShown, links_in, plain_in, graphic_form, gutter_of_report, ShowsLinesAround, HasOneLineTexts}
use Rattle.annotate_snippets.proofs.Common.{page_lines, text_lines, FormLaws, HasLaws, LawsIn, IsFreeBut, HasNoControls, report_paragraphs, AreRewrapped}
use Rattle.annotate_snippets.proofs.Common.{page_text, text_form, IsTextIn, ShowsIn, WritesPart, WritesText, Renderer, Form, Graphic, Short, Text}
use Rattle.annotate_snippets.proofs.AsSetSteps.{context-set, feeds-set, mask-set, remade-set, unset-same, wrap-set}
use Rattle.annotate_snippets.proofs.ContextShown.{around-set, context-faithful, plain-around}
use Rattle.annotate_snippets.proofs.FaultLemmas.{groups-drawable, titled}
use Rattle.annotate_snippets.proofs.FeedsShown.{feeds-faithful, plain-fed}
use Rattle.annotate_snippets.proofs.FormsShown.{are-free, free-in}
use Rattle.annotate_snippets.proofs.MaskLaws.{around-clean, masked-clean, wrapped-clean}
use Rattle.annotate_snippets.proofs.MaskShown.{mask-faithful, masked-line, masked-unlisted}
use Rattle.annotate_snippets.proofs.OneLineTexts.{cut_or_whole}
use Rattle.annotate_snippets.proofs.RemadeLemmas.{IsFaithful, Keeps, keeps, keeps-own, keeps-then, refusal-kept}
use Rattle.annotate_snippets.proofs.WrapShown.{rewrapped-set, wrap-faithful, wrapped-line}

-- ---- nothing is set

-- where nothing is set that makes another report of it, the texts show the report in the form that the renderer is set to, and nothing else
pub unset-shows : (r : Renderer) (groups : List Group) (sheets : List Stylesheet) (texts : List (List ℕ)) → TextsShown r groups sheets texts
    → shows_as_given (form_of r) r ≡ true → ShowsForm (form_of r) r groups sheets texts
unset-shows r groups sheets texts are none =
    subst (λ (gs : List Group). ShowsForm (form_of r) r gs sheets texts) (unset-same (form_of r) r groups are.shown none are.set) are.shows

-- ---- what stays

-- a report that is shown keeps what each step keeps
step-keeps : (asked : Bool) (T : Title → Title → Type 0) (E : Element → Element → Type 0) → IsFaithful T E → (xs ys : List Group)
    → IsStep asked (IsGroupMade T E) xs ys → Keeps xs ys
step-keeps true T E faithful xs ys pairs = keeps T E faithful xs ys pairs
step-keeps false T E faithful xs ys same = subst (Keeps xs) (sym same) (keeps-own xs)

pub fed-keeps : (feeds : Bool) (groups fed : List Group) → AllZip (IsGroupAsSet feeds) groups fed → Keeps groups fed
fed-keeps feeds groups fed pairs = keeps (IsTitleAsSet feeds) (IsElementAsSet feeds) (feeds-faithful feeds) groups fed pairs

pub around-keeps : (adds : Bool) (before after : ℕ) (fed around : List Group) → IsStep adds (IsGroupWithContext before after) fed around → Keeps fed around
around-keeps adds before after fed around step = step-keeps adds Stays (IsElementWithContext before after) (context-faithful before after) fed around step

pub mask-keeps : (masks : Bool) (fed masked : List Group) → IsStep masks IsGroupMasked fed masked → Keeps fed masked
mask-keeps masks fed masked step = step-keeps masks IsTitleMasked IsElementMasked mask-faithful fed masked step

pub wrap-keeps : (form : Form) (r : Renderer) (around shown : List Group)
    → IsStep (wraps form r) (IsGroupWrapped r.term_width (gutter_of_report r around)) around shown → Keeps around shown
wrap-keeps form r around shown step =
    let beside : ℕ = gutter_of_report r around in
    step-keeps (wraps form r) (IsTitleWrapped r.term_width) (IsElementWrapped r.term_width beside) (wrap-faithful r.term_width beside) around shown step

-- what is shown of a masked report keeps what that has
masked-keeps : (form : Form) (r : Renderer) (groups shown : List Group) (made : IsRemade form r groups shown) → Keeps made.masked shown
masked-keeps form r groups shown made =
    keeps-then made.masked made.around shown (around-keeps (adds_context form r) r.context_before r.context_after made.masked made.around made.context)
    (wrap-keeps form r made.around shown made.wrap)

pub set-keeps : (form : Form) (r : Renderer) (groups shown : List Group) → IsAsSet form r groups shown → Keeps groups shown
set-keeps form r groups shown set = by (shows_as_given form r) set
  where
    by : (given : Bool) → IsShownFor given form r groups shown → Keeps groups shown
    by true same = subst (Keeps groups) (sym same) (keeps-own groups)
    by false made =
        keeps-then groups made.masked shown (keeps-then groups made.fed made.masked (fed-keeps r.show_line_feeds groups made.fed made.feeds)
        (mask-keeps r.mask_controls made.fed made.masked made.mask)) (masked-keeps form r groups shown made)

-- where it isn't refused, and its texts fit, it can be drawn
pub drawable-set : (form : Form) (r : Renderer) (groups shown : List Group) → IsAsSet form r groups shown → ReportFits shown → refusal_in form groups ≡ None
    → IsDrawableAsSet form r groups shown
drawable-set form r groups shown set fits none = grind (arith, refusal-kept, set-keeps, groups-drawable, titled)

-- what goes over to a report that a step makes goes over to what is shown after it
over : (P : List Group → Type 0) (Made : Group → Group → Type 0) (asked : Bool) (xs ys : List Group) → (AllZip Made xs ys → P xs → P ys)
    → IsStep asked Made xs ys → P xs → P ys
over P Made true xs ys step pairs holds = step pairs holds
over P Made false xs ys step same holds = subst P (sym same) holds

-- ---- what changes: no line feed, no control

-- where line feeds are shown, no label, path, id and name of a level of what is shown holds one
pub plain-set : (form : Form) (r : Renderer) (groups shown : List Group) → IsAsSet form r groups shown → r.show_line_feeds ≡ true → HasOneLineTexts false shown
plain-set form r groups shown set asked =
    let made : IsRemade form r groups shown = remade-set form r groups shown (feeds-set form r asked) set in
    let pairs : AllZip (IsGroupAsSet true) groups made.fed = subst (λ (feeds : Bool). AllZip (IsGroupAsSet feeds) groups made.fed) asked made.feeds in
    over (HasOneLineTexts false) (IsGroupWrapped r.term_width (gutter_of_report r made.around)) (wraps form r) made.around shown
    (wrapped-line r.term_width (gutter_of_report r made.around) made.around shown) made.wrap
    (over (HasOneLineTexts false) (IsGroupWithContext r.context_before r.context_after) (adds_context form r) made.masked made.around
    (plain-around r.context_before r.context_after made.masked made.around) made.context
    (over (HasOneLineTexts false) IsGroupMasked r.mask_controls made.fed made.masked (masked-line made.fed made.masked) made.mask
    (plain-fed groups made.fed pairs)))

-- where controls are masked, no text of what is shown holds one
clean-set : (form : Form) (r : Renderer) (groups shown : List Group) → IsAsSet form r groups shown → r.mask_controls ≡ true → HasNoControls shown
clean-set form r groups shown set asked =
    let made : IsRemade form r groups shown = remade-set form r groups shown (mask-set form r asked) set in
    let beside : ℕ = gutter_of_report r made.around in
    let pairs : AllZip IsGroupMasked made.fed made.masked = subst (λ (masks : Bool). IsStep masks IsGroupMasked made.fed made.masked) asked made.mask in
    over HasNoControls (IsGroupWrapped r.term_width beside) (wraps form r) made.around shown (wrapped-clean r.term_width beside made.around shown) made.wrap
    (over HasNoControls (IsGroupWithContext r.context_before r.context_after) (adds_context form r) made.masked made.around
    (around-clean r.context_before r.context_after made.masked made.around) made.context (masked-clean made.fed made.masked pairs))

-- ---- what is shown shows the report

graphic-laws : (form : Form) (r : Renderer) (shown : List Group) → form ≡ Graphic → FormLaws form r shown → HasOneLineTexts false shown
    → text_lines (page_text (graphic_form r shown)) ≡ page_lines (graphic_form r shown)
graphic-laws Graphic r shown is laws plain = laws.lines (cut_or_whole (r.label_lines || r.wrap) shown plain)
graphic-laws Short r shown is laws plain = cc
graphic-laws Text r shown is laws plain = cc

text-laws : (form : Form) (r : Renderer) (shown : List Group) → form ≡ Text → FormLaws form r shown → r.show_line_feeds ≡ true → HasOneLineTexts false shown
    → text_lines (form_text (text_form r shown)) ≡ lines_of_paragraphs (report_paragraphs r shown)
text-laws Text r shown is laws asked plain = laws.lines asked plain
text-laws Graphic r shown is laws asked plain = cc
text-laws Short r shown is laws asked plain = cc

around-laws : (form : Form) (r : Renderer) (groups shown : List Group) (made : IsRemade form r groups shown) (masks : Bool) → r.mask_controls ≡ masks
    → FormLaws form r shown → adds_context form r ≡ true
    → ShowsLinesAround r.context_before r.context_after (if masks then made.masked else groups) (graphic_form r shown)
around-laws Graphic r groups shown made masks set laws asked = around-set Graphic r groups shown (graphic_form r shown) made masks set laws asked
around-laws Short r groups shown made masks set laws asked = cc
around-laws Text r groups shown made masks set laws asked = cc

-- where controls are masked, the plain text holds no listed character
unlisted-laws : (form : Form) (r : Renderer) (groups shown : List Group) → IsAsSet form r groups shown → FormLaws form r shown → r.mask_controls ≡ true
    → All (λ c. is_listed c ≡ false) (plain_in form r shown)
unlisted-laws form r groups shown set laws asked =
    let made : IsRemade form r groups shown = remade-set form r groups shown (mask-set form r asked) set in
    let pairs : AllZip IsGroupMasked made.fed made.masked = subst (λ (masks : Bool). IsStep masks IsGroupMasked made.fed made.masked) asked made.mask in
    let free : IsFreeBut (trusted_texts made.masked) (plain_in form r shown) =
    (masked-keeps form r groups shown made).free (plain_in form r shown) (free-in r shown form laws) in
    All-weaker (λ c. is_listed c ≡ true → Contains (flat_map chars (trusted_texts made.masked)) c) (λ c. is_listed c ≡ false)
    (λ c own. by c (is_listed c) refl (flat_map chars (trusted_texts made.masked)) own (masked-unlisted made.fed made.masked pairs)) _ free
  where
    by : (c : ℕ) (listed : Bool) → is_listed c ≡ listed → (texts : List ℕ) → (is_listed c ≡ true → Contains texts c)
        → All (λ d. is_listed d ≡ false) texts → listed ≡ false
    by c false is texts own none = refl
    by c true is texts own none = absurd (false≢true (sym (All-contains (λ d. is_listed d ≡ false) texts c none (own is)) ∙ is))

-- what is said of the report whose lines and words are shown
pub record IsOfBase (form : Form) (r : Renderer) (groups shown : List Group) : Type 0 where
  pub masked : List Group
  pub masks : IsMaskedFor r.mask_controls r groups masked
  pub around : adds_context form r ≡ true → ShowsLinesAround r.context_before r.context_after masked (graphic_form r shown)
  pub wrapped : wraps form r ≡ true → AreRewrapped r masked shown

pub of-base : (form : Form) (r : Renderer) (groups shown : List Group) → IsAsSet form r groups shown → FormLaws form r shown → IsOfBase form r groups shown
of-base form r groups shown set laws = by r.mask_controls refl
  where
    by : (masks : Bool) → r.mask_controls ≡ masks → IsOfBase form r groups shown
    by true asked =
        let made : IsRemade form r groups shown = remade-set form r groups shown (mask-set form r asked) set in
        let pairs : AllZip IsGroupMasked made.fed made.masked = subst (λ (given : Bool). IsStep given IsGroupMasked made.fed made.masked) asked made.mask in
        record {
          masked = made.masked;
          masks = subst (λ (given : Bool). IsMaskedFor given r groups made.masked) (sym asked) (record { fed = made.fed; feeds = made.feeds; mask = pairs });
          around = around-laws form r groups shown made true asked laws;
          wrapped = rewrapped-set form r groups shown made true asked;
        }
    by false none =
        record {
          masked = groups;
          masks = subst (λ (given : Bool). IsMaskedFor given r groups groups) (sym none) refl;
          around = λ asked. around-laws form r groups shown (remade-set form r groups shown (context-set form r asked) set) false none laws asked;
          wrapped = λ asked. rewrapped-set form r groups shown (remade-set form r groups shown (wrap-set form r asked) set) false none asked;
        }

module _ (r : Renderer) (groups shown : List Group) (set : IsAsSet (form_of r) r groups shown) where
  -- a text that has the laws of the form, for what is shown, has those of the report
  pub set-laws : (sheet : Stylesheet) (text : List ℕ) → LawsIn (form_of r) r shown sheet text → HasLaws r groups sheet text
  set-laws sheet text laws =
      let based : IsOfBase (form_of r) r groups shown = of-base (form_of r) r groups shown set laws.form_laws in
      record {
        shown = shown;
        set = set;
        laws = laws;
        one_line = plain-set (form_of r) r groups shown set;
        lines = λ asked graphic. graphic-laws (form_of r) r shown graphic laws.form_laws (plain-set (form_of r) r groups shown set asked);
        paragraphs = λ asked spoken. text-laws (form_of r) r shown spoken laws.form_laws asked (plain-set (form_of r) r groups shown set asked);
        clean = clean-set (form_of r) r groups shown set;
        unlisted = unlisted-laws (form_of r) r groups shown set laws.form_laws;
        masked = based.masked;
        masks = based.masks;
        around = based.around;
        wrapped = based.wrapped;
      }

  -- and so have texts
  pub set-texts-laws : (sheets : List Stylesheet) (texts : List (List ℕ)) → AllZip (LawsIn (form_of r) r shown) sheets texts
      → AllZip (HasLaws r groups) sheets texts
  set-texts-laws sheets texts laws = AllZip-weaker (LawsIn (form_of r) r shown) (HasLaws r groups) set-laws sheets texts laws

  -- texts that show it show the report
  pub set-shows : (sheets : List Stylesheet) (texts : List (List ℕ)) → ShowsForm (form_of r) r shown sheets texts → TextsShown r groups sheets texts
  set-shows sheets texts shows = record { shown = shown; set = set; shows = shows }

  -- they are free but for the report's trusted texts, and link to what it links to
  pub set-free : (sheets : List Stylesheet) (texts : List (List ℕ)) → AllZip (LawsIn (form_of r) r shown) sheets texts
      → AreFree (trusted_texts groups) (links_in (form_of r) r groups) sheets texts
  set-free sheets texts laws =
      let free : AreFree (trusted_texts shown) (links_in (form_of r) r shown) sheets texts = are-free r shown (form_of r) sheets texts laws in
      let kept : Keeps groups shown = set-keeps (form_of r) r groups shown set in grind (arith, common_steps, free)

-- ---- answers

-- texts show a report, have its laws and are free
pub record ShowsAll (r : Renderer) (groups : List Group) (sheets : List Stylesheet) (texts : List (List ℕ)) : Type 0 where
  pub shows : TextsShown r groups sheets texts
  pub laws : AllZip (HasLaws r groups) sheets texts
  pub free : AreFree (trusted_texts groups) (links_in (form_of r) r groups) sheets texts

module _ (form : Form) (r : Renderer) (groups shown : List Group) (is : form ≡ form_of r) (set : IsAsSet form r groups shown) where
  here : IsAsSet (form_of r) r groups shown
  here = subst (λ (f : Form). IsAsSet f r groups shown) is set

  -- those that show what is shown in its form show the report
  pub shows-all : (sheets : List Stylesheet) (texts : List (List ℕ)) → ShowsForm form r shown sheets texts → AllZip (LawsIn form r shown) sheets texts
      → ShowsAll r groups sheets texts
  shows-all sheets texts shows laws = grind (arith, common_steps, set-shows, here, set-texts-laws, set-free)

  -- what is written of it is written of the report
  pub written-shows : (old new : Option (List ℕ)) → WritesText (IsTextIn form r shown) old new → WritesText (ShowsReport r groups r.stylesheet) old new
  written-shows old new writes = grind (arith, shows-all, writes.text, writes.is.shows, writes.is.laws, writes.appended)

  pub written-laws : (old new : Option (List ℕ)) → WritesText (IsTextIn form r shown) old new → WritesText (HasLaws r groups r.stylesheet) old new
  written-laws old new writes = record {
    text = writes.text;
    is = (shows-all (r.stylesheet ∷ []) (writes.text ∷ []) writes.is.shows (writes.is.laws, tt)).laws.0;
    appended = writes.appended;
  }

  pub written-part : {W : Type 0} (contents : W → Option (List ℕ)) (start now : W)
      → (now ≡ start) ⊎ WritesPart (ShowsIn form r shown) (contents start) (contents now)
      → (now ≡ start) ⊎ WritesPart (ShowsReport r groups r.stylesheet) (contents start) (contents now)
  written-part contents start now stopped = grind (arith, common_steps, here)
