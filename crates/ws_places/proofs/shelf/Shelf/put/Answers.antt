use Rattle.std.proofs.Common.{refl, ap, sym, arith, ◌≡◌, ◌∙◌, ◌<◌, ◌+◌, [], ◌∷◌, ◌++◌, length, Some, None, true}
use Rattle.ws_places.specs.Shelves.{SeenShelf}
use Rattle.ws_places.proofs.ShelfLemmas.{again-changed, shelf-again, sound-left, left-vacant, left-others, full-vacant, full-changed, full-others, shelf-full, within-end}
use Rattle.ws_places.proofs.shelf.Shelf.put.Goals as goal

pub index_mut-requires : goal.index_mut-requires
index_mut-requires g c =
    let a = c.self.inside in
    let shown = ap (λ (v : SeenShelf g.row.T.Denot). v.slots) c.self.view_is in
    let k = c.in-Some.place in
    let left = c.in-Some.ensures.items in
    let sound = sound-left a.values.items a.free.items (c.pop.new.self.items ++ k ∷ []) _ left c.self.invariant in
    let l = within-end (length a.values.items) k c.pop.new.self.items sound.within in
    omega (arith, l.1)

pub invariant_of-self : goal.invariant_of-self
invariant_of-self g c =
    let a = c.self.inside in
    let shown = ap (λ (v : SeenShelf g.row.T.Denot). v.slots) c.self.view_is in
    let k = c.in-Some.place in
    let left = c.in-Some.ensures.items in
    let sound = sound-left a.values.items a.free.items (c.pop.new.self.items ++ k ∷ []) _ left c.self.invariant in
    rw c.in-Some.ensures.capacity (shelf-again k c.args.value a.values.items c.pop.new.self.items _ sound)

pub returns-in-Some-clause-was_vacant : goal.returns-in-Some-clause-was_vacant
returns-in-Some-clause-was_vacant g c =
    let a = c.self.inside in
    let shown = ap (λ (v : SeenShelf g.row.T.Denot). v.slots) c.self.view_is in
    let k = c.in-Some.place in
    let left = c.in-Some.ensures.items in
    let sound = sound-left a.values.items a.free.items (c.pop.new.self.items ++ k ∷ []) _ left c.self.invariant in
    left-vacant k a.values.items a.free.items c.pop.new.self.items _ c.args.self.now.slots left shown c.self.invariant

pub returns-in-Some-clause-changed : goal.returns-in-Some-clause-changed
returns-in-Some-clause-changed g c =
    let a = c.self.inside in
    let shown = ap (λ (v : SeenShelf g.row.T.Denot). v.slots) c.self.view_is in
    let k = c.in-Some.place in
    let left = c.in-Some.ensures.items in
    let sound = sound-left a.values.items a.free.items (c.pop.new.self.items ++ k ∷ []) _ left c.self.invariant in
    again-changed k c.args.value a.values.items c.pop.new.self.items _ sound

pub returns-in-Some-clause-others : goal.returns-in-Some-clause-others
returns-in-Some-clause-others g c = λ m d.
    let a = c.self.inside in
    let shown = ap (λ (v : SeenShelf g.row.T.Denot). v.slots) c.self.view_is in
    let k = c.in-Some.place in
    let left = c.in-Some.ensures.items in
    let sound = sound-left a.values.items a.free.items (c.pop.new.self.items ++ k ∷ []) _ left c.self.invariant in
    left-others k m c.args.value a.values.items a.free.items c.pop.new.self.items _ c.args.self.now.slots left shown c.self.invariant d

pub invariant_of-self-2 : goal.invariant_of-self-2
invariant_of-self-2 g c =
    let a = c.self.inside in
    let shown = ap (λ (v : SeenShelf g.row.T.Denot). v.slots) c.self.view_is in
    let spare = ap (λ (v : SeenShelf g.row.T.Denot). v.spare) c.self.view_is in
    let old : length a.free.items ≡ 0 = omega (arith, c.in_default.ensures.cases.0) in
    let new : length c.pop.new.self.items ≡ 0 = omega (arith, c.in_default.ensures.cases.1) in
    let last : c.len-place.result ≡ length a.values.items = omega (arith, c.len-place.ensures) in
    rw c.in_default.ensures.capacity (shelf-full c.args.value a.values.items c.push_reserved.new.self.items a.free.items c.pop.new.self.items _ old new c.push_reserved.ensures.items c.self.invariant (omega (arith, spare, c.requires.room, old)))

pub returns-clause-was_vacant : goal.returns-clause-was_vacant
returns-clause-was_vacant g c =
    let a = c.self.inside in
    let shown = ap (λ (v : SeenShelf g.row.T.Denot). v.slots) c.self.view_is in
    let spare = ap (λ (v : SeenShelf g.row.T.Denot). v.spare) c.self.view_is in
    let old : length a.free.items ≡ 0 = omega (arith, c.in_default.ensures.cases.0) in
    let new : length c.pop.new.self.items ≡ 0 = omega (arith, c.in_default.ensures.cases.1) in
    let last : c.len-place.result ≡ length a.values.items = omega (arith, c.len-place.ensures) in
    full-vacant c.len-place.result a.values.items a.free.items c.args.self.now.slots old shown last

pub returns-clause-changed : goal.returns-clause-changed
returns-clause-changed g c =
    let a = c.self.inside in
    let shown = ap (λ (v : SeenShelf g.row.T.Denot). v.slots) c.self.view_is in
    let spare = ap (λ (v : SeenShelf g.row.T.Denot). v.spare) c.self.view_is in
    let old : length a.free.items ≡ 0 = omega (arith, c.in_default.ensures.cases.0) in
    let new : length c.pop.new.self.items ≡ 0 = omega (arith, c.in_default.ensures.cases.1) in
    let last : c.len-place.result ≡ length a.values.items = omega (arith, c.len-place.ensures) in
    full-changed c.len-place.result c.args.value a.values.items c.push_reserved.new.self.items c.pop.new.self.items new c.push_reserved.ensures.items last

pub returns-clause-others : goal.returns-clause-others
returns-clause-others g c = λ m d.
    let a = c.self.inside in
    let shown = ap (λ (v : SeenShelf g.row.T.Denot). v.slots) c.self.view_is in
    let spare = ap (λ (v : SeenShelf g.row.T.Denot). v.spare) c.self.view_is in
    let old : length a.free.items ≡ 0 = omega (arith, c.in_default.ensures.cases.0) in
    let new : length c.pop.new.self.items ≡ 0 = omega (arith, c.in_default.ensures.cases.1) in
    let last : c.len-place.result ≡ length a.values.items = omega (arith, c.len-place.ensures) in
    full-others c.len-place.result m c.args.value a.values.items c.push_reserved.new.self.items a.free.items c.pop.new.self.items c.args.self.now.slots old new shown c.push_reserved.ensures.items last d
