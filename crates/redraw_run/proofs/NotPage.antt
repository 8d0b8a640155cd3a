-- What no page is: an id that a wrong body gives contradicts what is said of ids.
use Rattle.std.proofs.Common.{◌≡◌, ◌∙◌, ◌||◌, ℕ, List, Option, Some, ap, is_some, nat_lt, sym, true}
use Rattle.std.specs.BTreeMap as map
use Rattle.redraw_run.specs.Counts.{one_more}
use Rattle.redraw_run.specs.Page.{Numbers, byte_order, has_room, most_kept, times}
use Rattle.redraw_run.specs.declared.id.ReportId.{ReportId}
use Rattle.redraw_run.specs.declared.page.Page.{Page}

-- a report that was there once has the id of the first
pub numbered_again : (report : List ℕ) (id : ReportId) (old new : Page) → map.get byte_order old.reports id.digest ≡ Some 1 → Numbers report id old new
    → id.number ≡ 1 → ⊥
numbered_again report id old new was is again =
    let room : has_room old id.digest ≡ true =
    ap (λ (o : Option ℕ). is_some o || nat_lt (map.btree_map_len old.reports) most_kept) was in
    let both : ◌≡◌ {A = ℕ} 1 2 = sym again ∙ (is.kept room).0 ∙ ap (λ (o : Option ℕ). one_more (times o)) was in
    cc both
