use Rattle.snippet_parts.proofs.Common.{◌≡◌, ◌+◌, ◌-◌, ◌≤◌, ◌++◌, arith, map, take, drop, length, sym, ap, subst, ◌∙◌, All}
use Rattle.snippet_parts.proofs.Common.{All-same, greatest_depth, places_of, depth_among, IsLongestChain, raw_depths}
use Rattle.snippet_parts.proofs.DepthLemmas.{depths-are, depths-within, depths-distinct, greatest-depth-bound, greatest-fold, longest-chain, mapped, raw-most}
use Rattle.snippet_parts.proofs.depths.depths.Goals as goal

pub turn-requires : goal.turn-requires
turn-requires c =
    let most : c.greatest-greatest.result ≡ greatest_depth c.args.places.now = c.greatest-greatest.ensures.value
    ∙ greatest-fold c.args.places.now c.deref.result.now (c.deref.ensures.value ∙ c.in_ok-depths.ensures.value) in
    record {
      most = All-same (λ raw. raw ≤ c.greatest-greatest.result) c.deref_mut.result.now (raw_depths c.args.places.now)
          (c.deref_mut.ensures.value ∙ c.in_ok-depths.ensures.value) (subst (λ n.
          All (λ raw. raw ≤ n) (raw_depths c.args.places.now)) (sym most) (raw-most c.args.places.now));
      room = omega (arith, greatest-depth-bound c.args.places.now);
    }

pub returns-in_err-depths-clause-distinct : goal.returns-in_err-depths-clause-distinct
returns-in_err-depths-clause-distinct c = depths-distinct c.args.places.now

pub returns : goal.returns
returns c =
    let most : c.greatest-greatest.result ≡ greatest_depth c.args.places.now = c.greatest-greatest.ensures.value
    ∙ greatest-fold c.args.places.now c.deref.result.now (c.deref.ensures.value ∙ c.in_ok-depths.ensures.value) in
    let value : take c.in_ok-depths.depths.len (c.turn.new.depths ++ drop (length c.turn.new.depths) c.in_ok-depths.depths.items)
    ≡ map (depth_among c.args.places.now) c.args.places.now =
    mapped (λ raw. c.greatest-greatest.result - raw + 1)
    c.in_ok-depths.depths.items c.deref_mut.result.now c.turn.new.depths c.in_ok-depths.depths.len c.deref_mut.ensures.value c.turn.ensures.value
    (omega (arith, c.in_ok-depths.depths.ok.0)) ∙ ap (λ n. map (λ raw. n - raw + 1) c.in_ok-depths.depths.items) most
    ∙ ap (map (λ raw. greatest_depth c.args.places.now - raw + 1)) c.in_ok-depths.ensures.value ∙ depths-are c.args.places.now in
    record {
      greatest = most;
      longest = subst (IsLongestChain (places_of c.args.places.now)) (sym most) (longest-chain (places_of c.args.places.now));
      value = value;
      within = subst (λ n. All (λ depth. (1 ≤ depth) × (depth ≤ n))
          (take c.in_ok-depths.depths.len (c.turn.new.depths ++ drop (length c.turn.new.depths) c.in_ok-depths.depths.items))) (sym most)
          (All-same (λ depth. (1 ≤ depth) × (depth ≤ greatest_depth c.args.places.now)) _ _ value (depths-within c.args.places.now));
      distinct = depths-distinct c.args.places.now;
    }
