use Rattle.std.proofs.Common.{◌≢◌, [], ◌∷◌, Some, None, refl, sym, arith, inl, inr, append-nil}
use Rattle.std.proofs.lemmas.List.Elements.{All-from_get_or}
use Rattle.std.proofs.lemmas.Str.Pattern.{split_parts}
use Rattle.redraw_read.proofs.offers.first_line.Goals as goal

pub returns-in-Some : goal.returns-in-Some
returns-in-Some c =
    let line = c.in-Some.line in
    let rest = c.in-Some.field-0-1 in
    let parts = split_parts 10 c.args.text.now (Some (line, rest)) c.in-Some.ensures.cases (omega arith) in
    record {
      is =
          record {
            after = 10 ∷ rest.now;
            is = parts.0;
            no_feed = All-from_get_or (λ b. b ≢ 10) line.now 0 parts.1;
            starts = inl refl;
            ends = inr (rest.now, refl);
          };
    }

pub returns-in-None : goal.returns-in-None
returns-in-None c =
    let text = c.args.text.now in
    let none = split_parts 10 text None c.in-None.ensures.cases (omega arith) in
    record {
      is =
          record {
            after = [];
            is = sym (append-nil text);
            no_feed = All-from_get_or (λ b. b ≢ 10) text 0 none;
            starts = inl refl;
            ends = inl refl;
          };
    }
