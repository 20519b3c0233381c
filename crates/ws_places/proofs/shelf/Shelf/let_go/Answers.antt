use Rattle.std.proofs.Common.{refl, ap, sym, arith, ◌≡◌, ◌∙◌, ◌<◌, ◌+◌, length, Some, None, true}
use Rattle.std.specs.Prelude.{is_some, slice_get, slice_index_or}
use Rattle.std.proofs.lemmas.Option.{slice_get_read}
use Rattle.ws_places.specs.Shelves.{SeenShelf, slots_from}
use Rattle.ws_places.proofs.ShelfLemmas.{slots-freed, set-there, shelf-freed, room-to_free}
use Rattle.ws_places.proofs.shelf.Shelf.let_go.Goals as goal

pub push_reserved-requires : goal.push_reserved-requires
push_reserved-requires g c =
    let a = c.self.inside in
    let shown = ap (λ (v : SeenShelf g.row.T.Denot). v.slots) c.self.view_is in
    let some : is_some (slice_index_or (slots_from 0 a.values.items a.free.items) c.args.place None) ≡ true = rw shown c.requires in
    omega (arith, room-to_free c.args.place a.values.items a.free.items _ c.self.invariant some)

pub invariant_of-self : goal.invariant_of-self
invariant_of-self g c =
    let a = c.self.inside in
    let shown = ap (λ (v : SeenShelf g.row.T.Denot). v.slots) c.self.view_is in
    let some : is_some (slice_index_or (slots_from 0 a.values.items a.free.items) c.args.place None) ≡ true = rw shown c.requires in
    rw (c.push_reserved.ensures.items, c.push_reserved.ensures.capacity) (shelf-freed c.args.place a.values.items a.free.items _ c.self.invariant some)

pub returns-clause-others : goal.returns-clause-others
returns-clause-others g c = λ m d.
    let a = c.self.inside in
    let shown = ap (λ (v : SeenShelf g.row.T.Denot). v.slots) c.self.view_is in
    rw (c.push_reserved.ensures.items, ← shown, slots-freed 0 c.args.place c.args.place a.values.items a.free.items (omega arith)) (set-there c.args.place m None (slots_from 0 a.values.items a.free.items) d)
