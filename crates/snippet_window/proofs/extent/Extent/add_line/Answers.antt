use Rattle.snippet_window.proofs.Common.{◌≡◌, ◌∙◌, ◌++◌, ℕ, Option, Some, min, max, take, ap, subst, arith, option_map_or, take_all}
use Rattle.snippet_window.proofs.Common.{ReachesEntries, entries_of}
use Rattle.snippet_window.proofs.ExtentLemmas.{line_added}
use Rattle.snippet_window.proofs.extent.Extent.add_line.Goals as goal

pub returns : goal.returns
returns c =
    let items = c.deref-entry-items.result.now in
    let all : take c.loop-entry.entry-index items ≡ c.args.line.now.info.annotations.items = take_all c.loop-entry.entry-index items (omega arith)
    ∙ c.deref-entry-items.ensures.value in
    record {
      adds = λ before reaches. line_added before c.args.line.now.info c.args.self.now c.loop-entry.self reaches
          (subst (λ es. ReachesEntries (entries_of before ++ es) c.loop-entry.self)
          all (c.loop-entry.invariant.0 (entries_of before)
          record { first = reaches.entries.first; last = reaches.entries.last; label_end = reaches.entries.label_end }))
          (c.loop-entry.invariant.1 ∙ c.lesser_of-self.ensures.value ∙ ap (λ (o : Option ℕ). option_map_or
          (λ n. Some (option_map_or (λ m. min m n) c.args.self.now.whitespace n)) o c.args.self.now.whitespace) c.leading_whitespace.ensures.value)
          (c.loop-entry.invariant.2 ∙ c.max-self.ensures ∙ ap (λ n. max c.args.self.now.widest n) c.args.line.now.measured);
    }
