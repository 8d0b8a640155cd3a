-- What is known of the mark of a column.
use Rattle.snippet_parts.proofs.Common.{◌≡◌, ℕ, ◌+◌, ◌<◌, ◌≤◌, Option, Some, None, List, [], ◌∷◌, ◌++◌, length, take, get_or}
use Rattle.snippet_parts.proofs.Common.{sym, ap, subst, ◌∙◌, ⊎_elim, arith, All, Contains, IfSome, IfNone, option_map, take_more, take_all}
use Rattle.snippet_parts.proofs.Common.{All-contains, All-push, Contains-push, Contains-append_left, Contains-push_cases, Annotation, AnnotationKind, Primary}
use Rattle.snippet_parts.proofs.Common.{Context, Mark, Source, span_width, IsMarkedAt, IsMarkOf}

-- the mark of column p of line k among some spans is of a span of this width and kind
pub record IsBest (source : List ℕ) (marks : List Annotation) (k p : ℕ) (best : Mark) : Type 0 where
  pub mark : IsMarkOf source marks k p best.kind
  pub width : best.width ≡ span_width source mark.span

-- this is the best among some spans; none where no span is marked
abbrev pub BestOf : List ℕ → List Annotation → ℕ → ℕ → Option Mark → Type 0
BestOf source marks k p None = All (λ a. IsMarkedAt source k p a → ⊥) marks
BestOf source marks k p (Some best) = IsBest source marks k p best

-- the span that is best stays so, where one more span is at least as wide, and wider if it alone is primary
pub best-kept : (source : List ℕ) (marks : List Annotation) (k p : ℕ) (a : Annotation) (best : Mark)
    → (IsMarkedAt source k p a → best.width ≤ span_width source a) → (IsMarkedAt source k p a → a.kind ≡ Primary → best.width < span_width source a)
    → IsBest source marks k p best → IsBest source (marks ++ a ∷ []) k p best
best-kept source marks k p a best wide wider before =
    let m = before.mark in
    record {
      mark = record {
        span = m.span;
        among = Contains-append_left marks (a ∷ []) m.span m.among;
        covers = m.covers;
        is = m.is;
        least = λ other found at. ⊎_elim (λ old. m.least other old at) (λ same.
            subst (λ (o : Annotation). IsMarkedAt source k p o → span_width source m.span ≤ span_width source o) same (λ now.
            omega (arith, before.width, wide now)) at) (Contains-push_cases marks a other found);
        primary_wins = λ context other found at primary. ⊎_elim (λ old. m.primary_wins context other old at primary)
            (λ same. subst (λ (o : Annotation). IsMarkedAt source k p o → o.kind ≡ Primary → span_width source m.span < span_width source o)
            same (λ now is. omega (arith, before.width, wider now is)) at primary) (Contains-push_cases marks a other found);
      };
      width = before.width;
    }

-- one more span that isn't marked there changes nothing
pub best-unmarked : (source : List ℕ) (marks : List Annotation) (k p : ℕ) (a : Annotation) (best : Option Mark) → (IsMarkedAt source k p a → ⊥)
    → BestOf source marks k p best → BestOf source (marks ++ a ∷ []) k p best
best-unmarked source marks k p a None off before = All-push (λ a. IsMarkedAt source k p a → ⊥) marks a before off
best-unmarked source marks k p a (Some best) off before = best-kept source marks k p a best (λ at. absurd (off at)) (λ at. absurd (off at)) before

-- one more span is the best, where each one before it is at least as wide, and wider if that one alone is primary
best-new : (source : List ℕ) (marks : List Annotation) (k p : ℕ) (a : Annotation) (new : Mark) → IsMarkedAt source k p a
    → new.width ≡ span_width source a → new.kind ≡ a.kind
    → ((other : Annotation) → Contains marks other → IsMarkedAt source k p other → new.width ≤ span_width source other)
    → (new.kind ≡ Context → (other : Annotation) → Contains marks other → IsMarkedAt source k p other → other.kind ≡ Primary
    → new.width < span_width source other) → IsBest source (marks ++ a ∷ []) k p new
best-new source marks k p a new at width kind least wins = record {
  mark = record {
    span = a;
    among = Contains-push marks a;
    covers = at;
    is = sym kind;
    least = λ other found there. ⊎_elim (λ old. omega (arith, width, least other old there)) (λ same.
        subst (λ (o : Annotation). span_width source a ≤ span_width source o) same (omega arith)) (Contains-push_cases marks a other found);
    primary_wins = λ context other found there primary. ⊎_elim (λ old. omega (arith, width, wins context other old there primary)) (λ same.
        absurd (two_kinds a.kind (sym kind ∙ context) (ap (λ (o : Annotation). o.kind) same ∙ primary))) (Contains-push_cases marks a other found);
  };
  width = width;
}
  where
    two_kinds : (kind : AnnotationKind) → kind ≡ Context → kind ≡ Primary → ⊥
    two_kinds kind context primary = let both : Context ≡ Primary = sym context ∙ primary in cc

-- the first span that is marked there
pub best-first : (source : List ℕ) (marks : List Annotation) (k p : ℕ) (a : Annotation) (new : Mark) → IsMarkedAt source k p a → new.width ≡ span_width source a
    → new.kind ≡ a.kind → All (λ a. IsMarkedAt source k p a → ⊥) marks → IsBest source (marks ++ a ∷ []) k p new
best-first source marks k p a new at width kind none = grind (arith, All-contains, best-new)

-- a span that is narrower than the best before it, or primary and as wide
pub best-narrower : (source : List ℕ) (marks : List Annotation) (k p : ℕ) (a : Annotation) (new best : Mark) → IsMarkedAt source k p a
    → new.width ≡ span_width source a → new.kind ≡ a.kind → new.width ≤ best.width → (new.kind ≡ Context → new.width < best.width)
    → IsBest source marks k p best → IsBest source (marks ++ a ∷ []) k p new
best-narrower source marks k p a new best at width kind narrow narrower before =
    best-new source marks k p a new at width kind (λ other found there.
    omega (arith, narrow, before.width, before.mark.least other found there)) (λ context other found there _.
    omega (arith, narrower context, before.width, before.mark.least other found there))

-- one more turn
pub best-turn : (source : List ℕ) (marks : List Annotation) (i k p : ℕ) (a : Annotation) (best : Option Mark) → i < length marks → a ≡ get_or marks i a
    → BestOf source (take i marks ++ a ∷ []) k p best → BestOf source (take (i + 1) marks) k p best
best-turn source marks i k p a best within is now = grind (arith, take_more)

-- what is answered of all spans: the kind of the best one
pub answer-mark : (s : Source) (marks : List Annotation) (i line p : ℕ) (best : Option Mark) (result : Option AnnotationKind) → length marks ≤ i
    → result ≡ option_map (λ (m : Mark). m.kind) best → ((k : ℕ) → line ≡ s.first + k → BestOf s.text (take i marks) k p best)
    → IfSome result (λ kind. (k : ℕ) → line ≡ s.first + k → IsMarkOf s.text marks k p kind)
answer-mark s marks i line p None result all is bests = rw is tt
answer-mark s marks i line p (Some best) result all is bests =
    rw is (λ k here. subst (λ marks. IsMarkOf s.text marks k p best.kind) (take_all i marks all) (bests k here).mark)

-- no mark is answered where no span is marked there
pub answer-none : (s : Source) (marks : List Annotation) (i line p : ℕ) (best : Option Mark) (result : Option AnnotationKind) → length marks ≤ i
    → result ≡ option_map (λ (m : Mark). m.kind) best → ((k : ℕ) → line ≡ s.first + k → BestOf s.text (take i marks) k p best)
    → IfNone result ((k : ℕ) → line ≡ s.first + k → All (λ a. IsMarkedAt s.text k p a → ⊥) marks)
answer-none s marks i line p None result all is bests =
    rw is (λ k here. subst (λ marks. All (λ a. IsMarkedAt s.text k p a → ⊥) marks) (take_all i marks all) (bests k here))
answer-none s marks i line p (Some best) result all is bests = rw is tt

-- what holds of a best mark holds of its kind
pub answer-number : (best : Option Mark) (result : Option AnnotationKind) (P : Type 0) → result ≡ option_map (λ (m : Mark). m.kind) best → IfSome best (λ _. P)
    → IfSome result (λ _. P)
answer-number x y z u v = grind (arith)
