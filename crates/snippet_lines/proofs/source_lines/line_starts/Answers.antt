use Rattle.snippet_lines.proofs.Common.{common_steps, ◌≡◌, ◌<◌, ◌∷◌, All, List, ℕ, subst, length, arith, All-head, All-tail, All-places, is_byte, places}
use Rattle.snippet_lines.proofs.StartLemmas.{starts_after, starts_after-some, starts_after-none, starts_from-source}
use Rattle.snippet_lines.proofs.source_lines.line_starts.Goals as goal

abbrev all_starts : List ℕ → List ℕ
all_starts source = 0 ∷ starts_after (length source) (places (is_byte 10) source)

-- the next line feed stands in the source, and so do those after it
inside : (end : ℕ) (left rest : List ℕ) (p : ℕ) → left ≡ p ∷ rest → All (λ q. q < end) left → (p < end) × All (λ q. q < end) rest
inside end left rest p left_is all =
    let each : All (λ q. q < end) (p ∷ rest) = subst (All (λ q. q < end)) left_is all in
    (All-head (λ q. q < end) p rest each, All-tail (λ q. q < end) p rest each)

pub overflow_add-next : goal.overflow_add-next
overflow_add-next c = grind (arith, inside, c.loop-line_feed.line_feed-iterator, c.in-Some.line_feed, c.in-Some.ensures.steps, c.loop-line_feed.invariant.3)

pub loop-line_feed-init : goal.loop-line_feed-init
loop-line_feed-init c =
    grind (arith, c.into_iter-line_feed-iterator.ensures.into_iter_gives, c.memchr_iter-line_feed-items.ensures.value, c.as_bytes.ensures.value, All-places)

pub loop-line_feed-preserved-in-Continue-branch-2 : goal.loop-line_feed-preserved-in-Continue-branch-2
loop-line_feed-preserved-in-Continue-branch-2 c = (
  tt,
  tt,
  starts_after-some (length c.args.source.now)
      c.in-Some.line_feed c.next.new.self c.loop-line_feed.starts.items c.push.new.self.items c.loop-line_feed.line_feed-iterator
      (all_starts c.args.source.now) c.in-Some.ensures.steps c.if-next-source.true c.in_ok-push.ensures.items c.loop-line_feed.invariant.2,
  (inside (length c.args.source.now) c.loop-line_feed.line_feed-iterator c.next.new.self c.in-Some.line_feed c.in-Some.ensures.steps
      c.loop-line_feed.invariant.3).1,
)

pub loop-line_feed-preserved : goal.loop-line_feed-preserved
loop-line_feed-preserved c = (
  tt,
  tt,
  starts_after-none (length c.args.source.now) c.in-Some.line_feed c.next.new.self c.loop-line_feed.starts.items c.loop-line_feed.line_feed-iterator
      (all_starts c.args.source.now) c.in-Some.ensures.steps c.if-next-source.false c.loop-line_feed.invariant.2,
  (inside (length c.args.source.now) c.loop-line_feed.line_feed-iterator c.next.new.self c.in-Some.line_feed c.in-Some.ensures.steps
      c.loop-line_feed.invariant.3).1,
)

pub returns : goal.returns
returns c = grind (arith, common_steps, c.in-None.ensures.steps.0, c.loop-line_feed.invariant.2, starts_from-source)
