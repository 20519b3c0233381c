use Rattle.std.proofs.Common.{arith, rules}
use Rattle.std.proofs.lemmas.List.Filters.{FiltersInPlace-all, FiltersInPlace-more_no, FiltersInPlace-more_set}
use Rattle.ws_places.proofs.places.drop_dead.Goals as goal

pub loop-i-preserved : goal.loop-i-preserved
loop-i-preserved c = elim c.if-is_some.branch [
  | goal.then-is_some w ↦ rw (w.pairs-is, w.kept-is) (record {
    front = FiltersInPlace-more_set c.loop-i.invariant.front (omega arith) (search rules) c.index.ensures;
    capacity = search rules;
  })
  | goal.else-is_some w ↦ rw (w.pairs-is, w.kept-is) (record {
    front = FiltersInPlace-more_no c.loop-i.invariant.front (omega arith) (search rules) c.index.ensures;
    capacity = c.loop-i.invariant.capacity;
  })
]

pub returns-clause-items : goal.returns-clause-items
returns-clause-items c = search (rules, FiltersInPlace-all)
