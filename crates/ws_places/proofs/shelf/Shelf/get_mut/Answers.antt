use Rattle.std.proofs.Common.{refl, ap, sym, arith, ◌≡◌, ◌∙◌, ◌<◌, ◌+◌, length, Some, None, true}
use Rattle.std.specs.Prelude.{is_some, slice_get, slice_index_or}
use Rattle.std.proofs.lemmas.Option.{slice_get_read}
use Rattle.ws_places.specs.Shelves.{SeenShelf, slots_from}
use Rattle.ws_places.proofs.ShelfLemmas.{slot-there, slots-put, place-in, shelf-written}
use Rattle.ws_places.proofs.shelf.Shelf.get_mut.Goals as goal

pub index_mut-requires : goal.index_mut-requires
index_mut-requires g c =
    let a = c.self.inside in
    let shown = ap (λ (v : SeenShelf g.row.T.Denot). v.slots) c.self.view_is in
    let some : is_some (slice_index_or (slots_from 0 a.values.items a.free.items) c.args.place None) ≡ true = rw shown c.requires in
    omega (arith, place-in c.args.place a.values.items a.free.items some)

pub invariant_of-self-lent : goal.invariant_of-self-lent
invariant_of-self-lent g c w =
    let a = c.self.inside in
    let shown = ap (λ (v : SeenShelf g.row.T.Denot). v.slots) c.self.view_is in
    let some : is_some (slice_index_or (slots_from 0 a.values.items a.free.items) c.args.place None) ≡ true = rw shown c.requires in
    shelf-written c.args.place w a.values.items a.free.items _ c.self.invariant some

pub returns : goal.returns
returns g c =
    let a = c.self.inside in
    let shown = ap (λ (v : SeenShelf g.row.T.Denot). v.slots) c.self.view_is in
    let some : is_some (slice_index_or (slots_from 0 a.values.items a.free.items) c.args.place None) ≡ true = rw shown c.requires in
    let there = slot-there 0 c.args.place c.args.place a.values.items a.free.items (omega arith) some in
    let read = slice_get_read a.values.items _ c.args.place c.index_mut.result.now refl (place-in c.args.place a.values.items a.free.items some) c.index_mut.ensures.value in (
      (refl, λ w. rw (← c.self.view_is, slots-put 0 c.args.place c.args.place w a.values.items a.free.items (omega arith) there.1) refl),
      record { writes_back = tt; value = rw (← shown) (there.0 ∙ read) },
    )
