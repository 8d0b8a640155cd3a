use Rattle.std.proofs.Common.{◌≡◌, ◌∙◌, ◌+◌, All, ap, arith, drop, rules, subst, sym}
use Rattle.std.specs.Char.{len_utf8}
use Rattle.std.proofs.lemmas.List.Elements.{All-push}
use Rattle.std.proofs.lemmas.Str.{drop_past_char, length-encode}
use Rattle.replay_read.specs.Stops.{IsStop}
use Rattle.replay_read.proofs.Units.{stop-first, stop-next}
use Rattle.replay_read.proofs.ruler.stops_of.Goals as goal
use Rattle.replay_read.proofs.ruler.stops_of.Goals.{then-len-here+in_ok-push, else-len-here}

pub loop-c-init : goal.loop-c-init
loop-c-init c =
    record {
      kept = search rules;
      here = stop-first c.args.unit c.args.source.now c.utf8.source;
      rest = search rules;
      small = omega arith;
    }

pub loop-c-preserved : goal.loop-c-preserved
loop-c-preserved c =
    let source = c.args.source.now in
    let here = c.loop-c.here in
    let stop = IsStop c.args.unit source in
    let step = rw c.in-Some.is at c.next.ensures.steps in
    let follows = c.loop-c.invariant.rest ∙ step.0 in
    let bytes : c.len_utf8.result ≡ len_utf8 c.in-Some.c = c.len_utf8.ensures.len ∙ length-encode c.in-Some.c in
    let next = stop-next c.args.unit source c.next.new.self.rest.now here c.in-Some.c c.utf8.source c.loop-c.invariant.here follows in
    record {
      kept =
          elim c.if-len-here.branch [
            | then-len-here+in_ok-push w ↦
                subst (All stop) (sym (ap (λ v. v.items) w.stops-is ∙ w.in_ok-push.ensures.items))
                (All-push stop c.loop-c.stops.items here c.loop-c.invariant.kept c.loop-c.invariant.here)
            | else-len-here w ↦ subst (All stop) (sym (ap (λ v. v.items) w.stops-is)) c.loop-c.invariant.kept
          ];
      here =
          subst (λ n. stop record { byte = here.byte + n; units = here.units + c.size_of.result }) (sym bytes)
          (subst (λ n. stop record { byte = here.byte + len_utf8 c.in-Some.c; units = here.units + n }) (sym c.size_of.ensures.value) next);
      rest = ap (λ n. drop (here.byte + n) source) bytes ∙ drop_past_char source c.next.new.self.rest.now here.byte c.in-Some.c follows;
      small = omega (arith, c.size_of.ensures.within, bytes, c.loop-c.invariant.small);
    }
