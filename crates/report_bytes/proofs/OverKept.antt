-- What stands over kept sources, made of its parts.
use Rattle.std.proofs.Common.{◌≡◌, ℕ, suc, ◌+◌, ◌-◌, ◌<◌, ◌≤◌, List, [], ◌∷◌, ◌++◌, length, Option, Some, None, refl, sym, ap, subst, ◌∙◌}
use Rattle.std.specs.Cow.{cow_str_bytes}
use Rattle.report_bytes.specs.Bytes.{AreMembersThen, IsElementThen, IsGroupThen, IsListThen, IsNumberOf, annotation_then, list_then, message_then}
use Rattle.report_bytes.specs.Bytes.{number_then, option_then}
use Rattle.report_bytes.specs.Bytes.{origin_then, patch_then, settings_then, severity_number, sheet_then, snippet_then, title_then}
use Rattle.report_bytes.specs.Request.{AreBytesOf, version}
use Rattle.report_bytes.specs.declared.request.DrawRequest.{DrawRequest}
use Rattle.snippet_model.specs.declared.snippet.Annotation.{Annotation}
use Rattle.snippet_model.specs.declared.snippet.Element.TheVariants as element
use Rattle.snippet_model.specs.declared.snippet.Group.{Group}
use Rattle.snippet_model.specs.declared.snippet.Message.{Message}
use Rattle.snippet_model.specs.declared.snippet.Origin.{Origin}
use Rattle.snippet_model.specs.declared.snippet.Padding.{Padding}
use Rattle.snippet_model.specs.declared.snippet.Patch.{Patch}
use Rattle.snippet_model.specs.declared.snippet.Snippet.{Snippet}

pub a_message : (texts : List (List ℕ)) (message : Message) (bytes mid rest : List ℕ) → bytes ≡ 0 ∷ mid → mid ≡ message_then message rest
    → IsElementThen texts (element.Message message) bytes rest
unfolding IsElementThen
a_message texts message bytes mid rest kind others = kind ∙ ap (λ (m : List ℕ). 0 ∷ m) others

pub a_cause : (texts : List (List ℕ)) (snippet : Snippet Annotation) (n : Option ℕ) (bytes mid rest : List ℕ) → bytes ≡ 1 ∷ mid
    → mid ≡ snippet_then annotation_then n snippet rest → IsNumberOf texts (cow_str_bytes snippet.source.text) n
    → IsElementThen texts (element.Cause snippet) bytes rest
unfolding IsElementThen
a_cause texts snippet n bytes mid rest kind others is = (mid, kind, (n, is, others))

pub a_suggestion : (texts : List (List ℕ)) (snippet : Snippet Patch) (n : Option ℕ) (bytes mid rest : List ℕ) → bytes ≡ 2 ∷ mid
    → mid ≡ snippet_then patch_then n snippet rest → IsNumberOf texts (cow_str_bytes snippet.source.text) n
    → IsElementThen texts (element.Suggestion snippet) bytes rest
unfolding IsElementThen
a_suggestion texts snippet n bytes mid rest kind others is = (mid, kind, (n, is, others))

pub an_origin : (texts : List (List ℕ)) (origin : Origin) (bytes mid rest : List ℕ) → bytes ≡ 3 ∷ mid → mid ≡ origin_then origin rest
    → IsElementThen texts (element.Origin origin) bytes rest
unfolding IsElementThen
an_origin texts origin bytes mid rest kind others = kind ∙ ap (λ (m : List ℕ). 3 ∷ m) others

pub a_padding : (texts : List (List ℕ)) (padding : Padding) (bytes rest : List ℕ) → bytes ≡ 4 ∷ rest → IsElementThen texts (element.Padding padding) bytes rest
unfolding IsElementThen
a_padding texts padding bytes rest kind = kind

pub a_group : (texts : List (List ℕ)) (g : Group) (bytes mid rest : List ℕ) → bytes ≡ severity_number g.level ∷ option_then title_then g.title mid
    → IsListThen (IsElementThen texts) g.elements.items mid rest → IsGroupThen texts g bytes rest
unfolding IsGroupThen
a_group texts g bytes mid rest front others = (mid, front, others)

pub a_list : {X : Type 0} (P : X → List ℕ → List ℕ → Type 0) (xs : List X) (count : ℕ) (bytes mid rest : List ℕ) → bytes ≡ number_then count mid
    → length xs ≡ count → AreMembersThen P xs mid rest → IsListThen P xs bytes rest
unfolding IsListThen
a_list P xs count bytes mid rest front counted others = (mid, front ∙ ap (λ (n : ℕ). number_then n mid) (sym counted), others)

pub a_request : (texts : List (List ℕ)) (r : DrawRequest) (bytes mid rest : List ℕ)
    → bytes ≡ version ∷ settings_then r.settings (list_then sheet_then r.sheets.items mid) → IsListThen (IsGroupThen texts) r.groups.items mid rest → rest ≡ []
    → AreBytesOf texts r bytes
unfolding AreBytesOf
a_request texts r bytes mid rest front groups ended = (mid, front, subst (IsListThen (IsGroupThen texts) r.groups.items mid) ended groups)

-- no members yet
pub no_members : {X : Type 0} (P : X → List ℕ → List ℕ → Type 0) (xs : List X) (bytes : List ℕ) → xs ≡ [] → AreMembersThen P xs bytes bytes
unfolding AreMembersThen
no_members P xs bytes none = subst (λ ys. AreMembersThen P ys bytes bytes) (sym none) refl

members_one_more : {X : Type 0} (P : X → List ℕ → List ℕ → Type 0) (xs : List X) (x : X) (bytes rest left : List ℕ)
    → AreMembersThen P xs bytes rest → P x rest left → AreMembersThen P (xs ++ x ∷ []) bytes left
unfolding AreMembersThen
members_one_more P [] x bytes rest left none one = (left, subst (λ (b : List ℕ). P x b left) (sym none) one, refl)
members_one_more P (y ∷ xs) x bytes rest left are one = (are.0, are.1, members_one_more P xs x are.0 rest left are.2 one)

-- one member more
pub members_more : {X : Type 0} (P : X → List ℕ → List ℕ → Type 0) (xs ys : List X) (x : X) (bytes rest left : List ℕ)
    → AreMembersThen P xs bytes rest → P x rest left → ys ≡ xs ++ x ∷ [] → AreMembersThen P ys bytes left
members_more P xs ys x bytes rest left are one grown = subst (λ zs. AreMembersThen P zs bytes left) (sym grown)
    (members_one_more P xs x bytes rest left are one)
