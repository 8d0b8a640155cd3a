use Rattle.std.proofs.Common.{List, ℕ, Some, String, BTreeMap, string_bytes, ap, ◌∙◌, if◌then◌else◌, rules}
use Rattle.std.specs.BTreeMap.{get_by_text}
use Rattle.std.specs.Global.{Global}
use Rattle.std.specs.Map.{update}
use Rattle.std.specs.Str.{bytes_eq}
use Rattle.std.proofs.lemmas.Map.Text.{btree_map_updates_text}
use Rattle.std.proofs.lemmas.Result.{on_ok_weaker}
use Rattle.redraw_read.proofs.Nested.{Places, by_name, no_places, none_more, on_err, one_more, same_places}
use Rattle.redraw_read.proofs.index.FileIndex.add.Goals as goal

pub returns-in-Some-clause-added : goal.returns-in-Some-clause-added
returns-in-Some-clause-added c =
    λ n h.
    let old = c.args.self.now.homes in
    let name = c.args.name.now in
    let home = c.args.home.now in
    let places = c.add_place.new.places in
    let new = c.get_mut.follows.lender places in
    on_ok_weaker c.add_place.result
    (λ is. one_more old new places home
    (λ k. btree_map_updates_text home old new (Some places) ((c.get_mut.follows.holds places).3 (search rules)) k)
    n name c.args.place
    (is ∙ ap (λ o. if bytes_eq name n then Some c.args.place else by_name n o) c.in-Some.ensures.value) h)
    (c.add_place.ensures.added n)

pub returns-in-Some-clause-refused : goal.returns-in-Some-clause-refused
returns-in-Some-clause-refused c =
    λ n h.
    let old = c.args.self.now.homes in
    let home = c.args.home.now in
    let places = c.add_place.new.places in
    let new = c.get_mut.follows.lender places in
    on_err c.add_place.result
    (λ is. none_more old new places home
    (λ k. btree_map_updates_text home old new (Some places) ((c.get_mut.follows.holds places).3 (search rules)) k)
    n (same_places places c.in-Some.places.now n is ∙ ap (by_name n) c.in-Some.ensures.value) h)
    c.add_place.ensures.refused

pub returns-in_ok-insert-in-None-clause-added : goal.returns-in_ok-insert-in-None-clause-added
returns-in_ok-insert-in-None-clause-added c =
    λ n h.
    let old = c.args.self.now.homes in
    let name = c.args.name.now in
    let home = c.args.home.now in
    let places = c.add_place-in-None.new.places in
    one_more old c.insert.new.self places home
    (λ k. btree_map_updates_text (string_bytes c.in_ok-from_str-in-None.field-0) c.get_mut.follows.lender-at-none c.insert.new.self (Some places)
    c.in_ok-insert-in-None.ensures.updates k
    ∙ ap (λ (m : BTreeMap (String Global) Places). update bytes_eq (get_by_text m) (string_bytes c.in_ok-from_str-in-None.field-0) (Some places) k)
    c.get_mut.follows.holds-at-none
    ∙ ap (λ (bs : List ℕ). update bytes_eq (get_by_text old) bs (Some places) k) c.in_ok-from_str-in-None.ensures.ok)
    n name c.args.place
    (c.in_ok-add_place-in-None.ensures.added n
    ∙ ap (λ o. if bytes_eq name n then Some c.args.place else o) (no_places c.new-places.result n c.new-places.ensures.empty)
    ∙ ap (λ o. if bytes_eq name n then Some c.args.place else by_name n o) c.in-None.ensures.value)
    h
