use Rattle.std.proofs.Common.{◌++◌, ◌∷◌, [], refl, sym, ap, ◌∙◌, subst, append_assoc, append-nil}
use Rattle.json_lines.specs.Field.{IsOneOf, lent_texts}
use Rattle.json_lines.proofs.Names.{AllNamed, named, named_more}
use Rattle.json_lines.proofs.node.first_unknown.Goals as goal

pub loop-name-preserved : goal.loop-name-preserved
loop-name-preserved c =
    let (done, all, each) = c.loop-name.invariant in
    let name = c.in-Some.name.now in
    let is = subst (IsOneOf (lent_texts c.args.names.now)) c.as_str.ensures.value (c.if-not-is_among.ensures.among refl) in (
      done ++ name ∷ [],
      all ∙ ap (λ l. done ++ l) c.in-Some.ensures.steps ∙ sym (append_assoc done (name ∷ []) c.next.new.self),
      named_more (lent_texts c.args.names.now) done name each is,
    )

pub returns : goal.returns
returns c =
    let (done, all, each) = c.loop-name.invariant in
    let whole = all ∙ ap (λ l. done ++ l) c.in-None.ensures.steps.0 ∙ append-nil done in
    record {
      known = λ none name is. named (lent_texts c.args.names.now) c.args.fields.now.entries
          (subst (AllNamed (lent_texts c.args.names.now)) (sym whole) each) name is;
    }
