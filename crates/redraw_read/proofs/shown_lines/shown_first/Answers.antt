use Rattle.std.proofs.lemmas.Grind.{common_steps}
use Rattle.std.proofs.Common.{◌∙◌, [], ap, get_or, string_bytes, sym, arith}
use Rattle.redraw_read.specs.Rendered.{shown_in}
use Rattle.redraw_read.specs.ShownLines.{texts}
use Rattle.redraw_read.proofs.LineNumbers.{least-shown, none-shown}
use Rattle.redraw_read.proofs.shown_lines.shown_first.Goals as goal

pub returns-in-Some : goal.returns-in-Some
returns-in-Some c =
    let made = c.requires.numbered in
    let is = c.in-Some.ensures.is in
    let lines = texts c.args.lines.now in
    let first = least-shown c.args.place (string_bytes c.args.message.now) is.0 lines c.in-Some.number (sym (made is.0) ∙ is.1) is.2
    (λ s k at begins. c.in-Some.ensures.least s k (made s ∙ at) begins) in
    record {
      value = c.shown_at.ensures.value [] first.0
          ∙ ap (λ message. shown_in c.args.place message (get_or lines c.in-Some.number [])) c.as_str.ensures.value
          ∙ first.2 [] ∙ sym first.1;
    }

pub returns-in-None : goal.returns-in-None
returns-in-None c = grind (arith, common_steps, none-shown, c.requires.numbered, c.in-None.ensures.least)
