use Rattle.std.proofs.lemmas.Grind.{common_steps}
use Rattle.snippet_text_form.proofs.Common.{◌≢◌, ℕ, List, [], ◌∷◌, ◌++◌, None, sym, ◌∙◌, lit<, strip_suffix_char, arith}
use Rattle.snippet_text_form.proofs.Common.{utf8-front, without_final-push, without_final-stays}
use Rattle.snippet_text_form.proofs.suggestion.without_final_line_feeds.Goals as goal

pub loop-front-preserved : goal.loop-front-preserved
loop-front-preserved c = grind (arith, common_steps, strip_suffix_char, utf8-front, without_final-push)

pub returns : goal.returns
returns c =
    let open_end : (front : List ℕ) → c.loop-front.rest.now ≢ front
    ++ 10 ∷ [] = strip_suffix_char 10 c.loop-front.rest.now None c.in_default.ensures.cases (lit< tt) in
    record { value = sym (without_final-stays c.loop-front.rest.now open_end) ∙ c.loop-front.invariant.1 }
