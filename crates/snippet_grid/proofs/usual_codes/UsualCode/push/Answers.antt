use Rattle.snippet_grid.proofs.Common.{common_steps, arith, ◌∙◌, ◌++◌, ℕ, List, ap, on_ok_weaker, refl, string_bytes, sym, colored, emboldened, usual_bytes}
use Rattle.std.specs.Fmt.{digits}
use Rattle.snippet_grid.proofs.CodeLemmas.{usual_text}
use Rattle.snippet_grid.proofs.RunLemmas.{on_ok_value}
use Rattle.snippet_grid.proofs.usual_codes.UsualCode.push.Goals as goal

pub returns-in-Bold : goal.returns-in-Bold
unfolding digits
returns-in-Bold c = grind (arith, common_steps, usual_text, c.in-Bold.is, on_ok_value, c.push_str.ensures.bytes)

pub returns-in-Color : goal.returns-in-Color
returns-in-Color c =
    let bytes = usual_text (colored c.in-Color.color) _ refl c.color_code.ensures.text ∙ sym (ap usual_bytes c.in-Color.is) in
    record {
      text = on_ok_weaker c.push_str-in-Color.result (λ added. added ∙ ap (λ (t : List ℕ). string_bytes c.args.out.now ++ t) bytes)
          (on_ok_value c.push_str-in-Color.result _ _ _ c.push_str-in-Color.ensures.bytes);
    }

pub returns-in-BoldColor : goal.returns-in-BoldColor
returns-in-BoldColor c =
    let bytes = usual_text (emboldened (colored c.in-BoldColor.color)) _ refl c.bold_color_code.ensures.text ∙ sym (ap usual_bytes c.in-BoldColor.is) in
    record {
      text = on_ok_weaker c.push_str-in-BoldColor.result (λ added. added ∙ ap (λ (t : List ℕ). string_bytes c.args.out.now ++ t) bytes)
          (on_ok_value c.push_str-in-BoldColor.result _ _ _ c.push_str-in-BoldColor.ensures.bytes);
    }
