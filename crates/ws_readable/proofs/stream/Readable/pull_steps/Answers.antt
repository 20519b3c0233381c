use Rattle.std.proofs.Common.{◌≡◌, List, [], ◌∷◌, ◌++◌, None, refl, sym, ap}
use Rattle.ws_value.specs.declared.ids.StreamId.{StreamId}
use Rattle.ws_steps.specs.declared.queue.Queued.{Queued}
use Rattle.ws_steps.specs.declared.readable.ReadRequest.{ReadRequest}
use Rattle.ws_steps.specs.Readable.{Acts, call_pull_if_needed, pull_from, pull_steps}
use Rattle.ws_queue.specs.Seen.{first_pair}
use Rattle.ws_readable.specs.Seen.{acts_of}
use Rattle.ws_readable.proofs.stream.Readable.pull_steps.Goals as goal

none_first : {T : Type 0} (queue : List (Queued T)) → first_pair queue ≡ None → queue ≡ []
none_first {T} [] h = refl
none_first {T} (q ∷ qs) h = cc

waits : (me : StreamId) (r : ReadRequest) (a : Acts) → a.slots.queue ≡ [] → pull_steps me r a ≡ call_pull_if_needed me (record a { slots = record a.slots { requests = a.slots.requests ++ r ∷ [] } })
unfolding pull_steps
waits me r a h = ap (pull_from me r a) h

pub returns-in-None-clause-row : goal.returns-in-None-clause-row
returns-in-None-clause-row c =
    let empty = none_first c.self.inside.queue.items (sym c.in-None.ensures.entry) in
    let found : c.args.self.now.slots.queue ≡ [] = rw (← c.self.view_is) empty in
    rw (waits c.args.me c.args.request (acts_of c.args.self.now c.args.p.now c.args.fx.now) found, c.call_pull_if_needed.ensures.row c.args.p.now, c.wait_for_chunk.ensures, c.pop.ensures.rest, ← c.self.view_is, empty) refl
