-- What a port posts, over every run (`each_post_can_be_sent`). A chunk is handed on to a port only where it can be, and what stands on the agenda for that
-- stands first.
use Rattle.std.proofs.Common.{◌≡◌, Bool, true, false, if◌then◌else◌, List, [], ◌∷◌, ◌++◌, Option, Some, None, slice_get, refl, sym, ap, subst, append-nil, append_assoc, arith}
use Rattle.std.specs.Prelude.{All}
use Rattle.std.proofs.lemmas.List.Elements.{All-push, All-nil}
use Rattle.ws_value.specs.declared.ids.PortId.{PortId}
use Rattle.ws_value.specs.declared.ids.PromiseId.{PromiseId}
use Rattle.ws_value.specs.declared.ids.StreamId.{StreamId}
use Rattle.ws_value.specs.declared.value.Message.{Message}
use Rattle.ws_value.specs.declared.value.Message.TheVariants.{Pull as PullMessage, Chunk as ChunkMessage, Close as CloseMessage, Error as ErrorMessage}
use Rattle.ws_value.specs.declared.value.Plain.{Plain}
use Rattle.ws_value.specs.declared.value.Value.{Value}
use Rattle.ws_value.specs.Values.{is_cloneable, is_value_cloneable}
use Rattle.ws_steps.specs.declared.effects.Effect.{Effect}
use Rattle.ws_steps.specs.declared.effects.Effect.TheVariants.{Readable, Byte, Writable, Pipe, Signal, Transform, Tee, Port, StartAlgorithm, PullAlgorithm, CancelAlgorithm, WriteAlgorithm, CloseAlgorithm, AbortAlgorithm, ChunkSteps, CloseSteps, CloseStepsWith, ErrorSteps}
use Rattle.ws_steps.specs.declared.pipes.SignalOperation.{SignalOperation}
use Rattle.ws_steps.specs.declared.pipes.SignalOperation.TheVariants.{Add, Forget, Trigger}
use Rattle.ws_steps.specs.declared.port.PortOperation.{PortOperation}
use Rattle.ws_steps.specs.declared.port.PortOperation.TheVariants as ports
use Rattle.ws_steps.specs.declared.port.Side.{Side}
use Rattle.ws_steps.specs.declared.port.Side.TheVariants.{Readable as ReadableSide, Writable as WritableSide}
use Rattle.ws_steps.specs.declared.readable.ReadRequest.{ReadRequest}
use Rattle.ws_steps.specs.declared.readable.ReadRequest.TheVariants.{Promise, Pipe as PipeRequest, Tee as TeeRequest}
use Rattle.ws_steps.specs.declared.transform.Taker.{Taker}
use Rattle.ws_steps.specs.declared.transform.Taker.TheVariants.{ToHost, ToTransform, ToPort}
use Rattle.ws_steps.specs.declared.writable.WritableOperation.{WritableOperation}
use Rattle.ws_steps.specs.declared.writable.WritableOperation.TheVariants as writes
use Rattle.ws_steps.specs.declared.writable.WriteRecord.{WriteRecord}
use Rattle.ws_steps.specs.declared.writable.WriteRecord.TheVariants.{Chunk, InFlight, CloseMark}
use Rattle.ws_steps.specs.Calls.{begin}
use Rattle.ws_steps.specs.Cross as cross
use Rattle.ws_steps.specs.Histories.{taken_event}
use Rattle.ws_steps.specs.Jobs.{job_effects}
use Rattle.ws_steps.specs.Operations.{writable_operation, port_operation}
use Rattle.ws_steps.specs.PortHistory.{posted_in}
use Rattle.ws_steps.specs.Promises.{after_next_job}
use Rattle.ws_steps.specs.Queues.{first_value}
use Rattle.ws_steps.specs.Run.{later_events}
use Rattle.ws_steps.specs.Slots.{Slots, Done, nothing, empty, found, has_writable, writable_at, put_writable, on_port_at, clones_at, with_promises}
use Rattle.ws_steps.specs.Turns.{row}
use Rattle.ws_steps.specs.Writable as writable
use Rattle.ws_laws.proofs.Lists.{Each, each-append, each-map}
use Rattle.ws_laws.proofs.PipeDoes.{PipeCauses}
use Rattle.ws_laws.proofs.Causes.{ReadableCauses, ChunkCauses, EndCauses, ErrorCauses, SignalCauses, row-causes}
use Rattle.ws_laws.proofs.Tables.{either, writable_acts}
use Rattle.ws_laws.proofs.TeeDoes.{TeeCauses}
use Rattle.ws_laws.proofs.TransformDoes.{TransformCauses}
use Rattle.ws_laws.proofs.Walker as walker
use Rattle.ws_laws.proofs.Walker.{Goes, Rests}
use Rattle.ws_tee_port_laws.specs.ports.Sending.{can_be_sent, EachPostCanBeSent}
use Rattle.ws_tee_port_laws.proofs.ports.Ends.{run-heard}
use Rattle.ws_tee_port_laws.proofs.ports.Fitting.{writable-caused, IsBegun, call-begun, job-begun}
use Rattle.ws_tee_port_laws.proofs.ports.Once.{row-leaves, row-mine, no-mine, by-port}
use Rattle.ws_tee_port_laws.proofs.ports.Posting.{given, given_first}
use Rattle.ws_tee_port_laws.proofs.ports.PostingRuns.{Past, nothing_past, then_past, past-history, untold_past, said, all_posted, split-events}
use Rattle.ws_tee_port_laws.proofs.ports.Told.{posted, call-events, next-events, watch-posted}

-- a chunk that is to be posted can be cloned, and none is to be handed on to a port
abbrev pub Fine : Effect → Type 0
Fine (Port d (ports.PostChunk v p)) = is_value_cloneable v ≡ true
Fine (Writable j (writes.HandOn (ToPort d p))) = ⊥
Fine _ = Unit {0}

-- unless it stands first, and can be cloned
abbrev pub First : Slots → Effect → Type 0
First s (Writable j (writes.HandOn (ToPort d p))) = cross.clones_first (first_value (writable_at j s).queue) ≡ true
First s e = Fine e

abbrev pub Fines : Slots → List Effect → Type 0
Fines s [] = Unit {0}
Fines s (e ∷ es) = First s e × Each Fine es

first-fine : (s : Slots) (e : Effect) → Fine e → First s e
first-fine s (Writable j (writes.HandOn (ToPort d p))) f = absurd f
first-fine s e f = grind (arith, f)

fines-of : (s : Slots) (es : List Effect) → Each Fine es → Fines s es
fines-of s [] f = tt
fines-of s (e ∷ es) f = (first-fine s e f.0, f.1)

fines-next : (s : Slots) (cs es : List Effect) → Fines s cs → Each Fine es → Fines s (cs ++ es)
fines-next s [] es f g = fines-of s es g
fines-next s (c ∷ cs) es f g = (f.0, each-append Fine cs es f.1 g)

-- what each effect causes

readable-fine : (j : StreamId) → ReadableCauses Fine j
readable-fine j = record { pull = tt; cancel = λ r p. tt; chunk = λ q v. tt; close = λ q. tt; error = λ q e. tt }

pipe-fine : (p : _) (source dest : StreamId) (e : Effect) → PipeCauses p source dest e → Fine e
pipe-fine p source dest e k = grind (arith, k)

transform-fine : (t : _) (w r : StreamId) (e : Effect) → TransformCauses t w r e → Fine e
transform-fine t w r e k = grind (arith, k)

tee-fine : (t : _) (source first second : StreamId) (e : Effect) → TeeCauses t source first second e → Fine e
tee-fine t source first second e k = grind (arith, k)

chunk-fine : (v : Value) (request : ReadRequest) → ChunkCauses Fine v request
chunk-fine v (Promise p) = tt
chunk-fine v (PipeRequest p) = tt
chunk-fine v (TeeRequest t) = tt

end-fine : (request : ReadRequest) → EndCauses Fine request
end-fine (Promise p) = tt
end-fine (PipeRequest p) = tt
end-fine (TeeRequest t) = tt

error-fine : (request : ReadRequest) → ErrorCauses Fine request
error-fine (Promise p) = tt
error-fine (PipeRequest p) = tt
error-fine (TeeRequest t) = tt

signal-fine : (operation : SignalOperation) → SignalCauses Fine operation
signal-fine (Add p) = tt
signal-fine (Forget p) = tt
signal-fine (Trigger r) = λ p. tt

-- an operation of a writable stream

taken-by : (j : StreamId) (taker : Taker) (a : writable.Acts) (first : Option WriteRecord) → a.out.effects ≡ [] → cross.clones_first first ≡ true → Each Fine (writable.hand_on_first j taker a first).out.effects
taken-by j taker a None e n = rw e tt
taken-by j taker a (Some InFlight) e n = rw e tt
taken-by j taker a (Some CloseMark) e n = rw e tt
taken-by j ToHost a (Some (Chunk v)) e n = rw e (tt, tt)
taken-by j (ToTransform t d) a (Some (Chunk v)) e n = rw e (tt, tt)
taken-by j (ToPort d p) a (Some (Chunk v)) e n = rw e (n, tt)

hand-fine : (j : StreamId) (d : PortId) (p : PromiseId) (s : Slots) → cross.clones_first (first_value (writable_at j s).queue) ≡ true → Each Fine (row (Writable j (writes.HandOn (ToPort d p))) s).caused
unfolding row writable.hand_on
hand-fine j d p s n =
    either (λ (z : Done). Each Fine z.caused) (has_writable j s) (put_writable j s (writable_operation j (writes.HandOn (ToPort d p)) (writable_acts j s))) (nothing s)
    (λ there. taken-by j (ToPort d p) (writable_acts j s) (first_value (writable_at j s).queue) refl n) (λ absent. tt)

abbrev IsToPort : WritableOperation → Type 0
IsToPort (writes.HandOn (ToPort d p)) = Unit {0}
IsToPort _ = ⊥

taken-fine : (j : StreamId) (operation : WritableOperation) → (IsToPort operation → ⊥) → (taker : Taker) (v : Value) → operation ≡ writes.HandOn taker → Fine (writable.taken_by j v taker)
taken-fine j operation n ToHost v e = tt
taken-fine j operation n (ToTransform t d) v e = tt
taken-fine j operation n (ToPort d p) v e = absurd (n (subst IsToPort (sym e) tt))

writable-fine : (j : StreamId) (operation : WritableOperation) (s : Slots) → (IsToPort operation → ⊥) → Each Fine (row (Writable j operation) s).caused
writable-fine j operation s n = writable-caused Fine j s operation (λ h. record { write = tt; close = tt; abort = λ r p. tt; take = taken-fine j operation n })

-- an operation of a port

abbrev IsGoing : PortOperation → Type 0
IsGoing (ports.WriteGoesOn p) = Unit {0}
IsGoing _ = ⊥

-- only a write that goes on hands one on
module _ (d : PortId) (x : cross.Slots) (s : Slots) where
  abbrev a : cross.Acts
  a = record { slots = x; out = found s }

  post-fine : (m : Message) (b : cross.Acts) → Each Fine b.out.effects → Each Fine (cross.post d m b).out.effects
  post-fine m b h = either (λ (z : cross.Acts). Each Fine z.out.effects) b.slots.live (cross.posting d m b) b (λ e. h) (λ e. h)

  fail-fine : (m : Message) (b : cross.Acts) (clones : Bool) → Each Fine b.out.effects → Each Fine (cross.post_or_fail d m b clones).out.effects
  fail-fine m b true h = post-fine m b h
  fail-fine m b false h = post-fine (ErrorMessage cross.data_clone) b h

  unblock-fine : (o : Option PromiseId) → Each Fine (cross.unblock_by a o).out.effects
  unblock-fine None = tt
  unblock-fine (Some p) = tt

  deliver-fine : (m : Message) (side : Side) → Each Fine (cross.deliver_to d m a side).out.effects
  unfolding cross.unblock
  deliver-fine PullMessage ReadableSide = tt
  deliver-fine (ChunkMessage v) ReadableSide = (tt, tt)
  deliver-fine CloseMessage ReadableSide = (tt, tt)
  deliver-fine (ErrorMessage r) ReadableSide = (tt, tt)
  deliver-fine PullMessage WritableSide = unblock-fine x.backpressure
  deliver-fine (ChunkMessage v) WritableSide = tt
  deliver-fine CloseMessage WritableSide = tt
  deliver-fine (ErrorMessage r) WritableSide = (tt, (tt, tt))

  wait-fine : (o : Option PromiseId) (p : PromiseId) → Fine (cross.wait_for o d p)
  wait-fine None p = tt
  wait-fine (Some q) p = tt

  port-fine : (clones : Bool) (operation : PortOperation) → (IsGoing operation → ⊥) → Each Fine (port_operation d clones operation a).out.effects
  unfolding cross.pull cross.leave cross.close cross.write cross.post_chunk cross.unblock cross.deliver
  port-fine clones ports.Pull n = post-fine PullMessage a tt
  port-fine clones (ports.Leave r u) n = each-append Fine _ _ (fail-fine (ErrorMessage r) a (is_cloneable r) tt) (tt, tt)
  port-fine clones (ports.Write u) n = (wait-fine x.backpressure _, (tt, tt))
  port-fine clones (ports.WriteGoesOn p) n = absurd (n tt)
  port-fine clones (ports.PostChunk v p) n = each-append Fine _ _ (post-fine (ChunkMessage v) a tt) (tt, tt)
  port-fine clones (ports.Close u) n = each-append Fine _ _ (post-fine CloseMessage a tt) (tt, tt)
  port-fine clones (ports.Deliver m) n = either (λ (z : cross.Acts). Each Fine z.out.effects) x.live (cross.deliver_to d m a x.side) a (λ e. deliver-fine m x.side) (λ e. tt)
  port-fine clones ports.Unblock n = unblock-fine x.backpressure

  goes-fine : (z : Slots) (p : PromiseId) (clones : Bool) (o : Option PromiseId) → (clones ≡ true → cross.clones_first (first_value (writable_at x.stream z).queue) ≡ true) → Fines z (cross.go_on d clones p a o).out.effects
  goes-fine z p true None k = (k refl, tt)
  goes-fine z p false None k = fines-of z _ (each-append Fine _ _ (post-fine (ErrorMessage cross.data_clone) (cross.hold_back a) tt) (tt, tt))
  goes-fine z p clones (Some q) k = (tt, tt)

on_port-fine : (d : PortId) (operation : PortOperation) (s : Slots) (o : Option cross.Slots) → (IsGoing operation → ⊥) → Each Fine (on_port_at (λ clones. port_operation d clones operation) d s o).caused
on_port-fine d operation s None n = tt
on_port-fine d operation s (Some x) n = port-fine d x s (clones_at x s) operation n

goes_at-fine : (d : PortId) (p : PromiseId) (s : Slots) (o : Option cross.Slots) → let z : Done = on_port_at (λ clones. port_operation d clones (ports.WriteGoesOn p)) d s o in Fines z.slots z.caused
unfolding cross.write_goes_on
goes_at-fine d p s None = tt
goes_at-fine d p s (Some x) = goes-fine d x s (on_port_at (λ clones. port_operation d clones (ports.WriteGoesOn p)) d s (Some x)).slots p (clones_at x s) x.backpressure (λ e. e)

row-fines : (e : Effect) (s : Slots) → First s e → Fines (row e s).slots (row e s).caused
unfolding row
row-fines (Port d (ports.WriteGoesOn p)) s f = goes_at-fine d p s (slice_get s.ports d.0)
row-fines (Port d operation) s f = fines-of (row (Port d operation) s).slots _ (on_port-fine d operation s (slice_get s.ports d.0) (λ u. u))
row-fines (Writable j (writes.HandOn (ToPort d p))) s f = fines-of (row (Writable j (writes.HandOn (ToPort d p))) s).slots _ (hand-fine j d p s f)
row-fines (Writable j operation) s f = fines-of (row (Writable j operation) s).slots _ (writable-fine j operation s (λ u. u))
row-fines (Readable j operation) s f = fines-of (row (Readable j operation) s).slots _ (row-causes Fine (Readable j operation) s (readable-fine j))
row-fines (Byte j operation) s f = fines-of (row (Byte j operation) s).slots _ (row-causes Fine (Byte j operation) s (record { readable = readable-fine j; close_with = λ q b. tt }))
row-fines (Pipe p operation) s f = fines-of (row (Pipe p operation) s).slots _ (row-causes Fine (Pipe p operation) s (pipe-fine p))
row-fines (Transform t operation) s f = fines-of (row (Transform t operation) s).slots _ (row-causes Fine (Transform t operation) s (transform-fine t))
row-fines (Tee t operation) s f = fines-of (row (Tee t operation) s).slots _ (row-causes Fine (Tee t operation) s (tee-fine t))
row-fines (Signal a operation) s f = fines-of (row (Signal a operation) s).slots _ (row-causes Fine (Signal a operation) s (signal-fine operation))
row-fines (StartAlgorithm j step start) s f = fines-of (row (StartAlgorithm j step start) s).slots _ (row-causes Fine (StartAlgorithm j step start) s (λ g u. tt, λ h u. tt))
row-fines (PullAlgorithm j) s f = fines-of (row (PullAlgorithm j) s).slots _ (row-causes Fine (PullAlgorithm j) s (λ h u. tt, (λ t u. tt, (λ t. tt, (λ u. tt, λ d. tt)))))
row-fines (CancelAlgorithm j r p) s f = fines-of (row (CancelAlgorithm j r p) s).slots _ (row-causes Fine (CancelAlgorithm j r p) s (λ h u. tt, (λ t u. tt, (λ t half u. tt, λ d u. tt))))
row-fines (WriteAlgorithm j) s f = fines-of (row (WriteAlgorithm j) s).slots _ (row-causes Fine (WriteAlgorithm j) s (tt, (λ t u. tt, λ d u. tt)))
row-fines (CloseAlgorithm j) s f = fines-of (row (CloseAlgorithm j) s).slots _ (row-causes Fine (CloseAlgorithm j) s (λ h u. tt, (λ t u. tt, λ d u. tt)))
row-fines (AbortAlgorithm j r p) s f = fines-of (row (AbortAlgorithm j r p) s).slots _ (row-causes Fine (AbortAlgorithm j r p) s (λ h u. tt, (λ t u. tt, λ d u. tt)))
row-fines (ChunkSteps j request v) s f = fines-of (row (ChunkSteps j request v) s).slots _ (row-causes Fine (ChunkSteps j request v) s (chunk-fine v request))
row-fines (CloseSteps j request) s f = fines-of (row (CloseSteps j request) s).slots _ (row-causes Fine (CloseSteps j request) s (end-fine request))
row-fines (CloseStepsWith j request b) s f = fines-of (row (CloseStepsWith j request b) s).slots _ (row-causes Fine (CloseStepsWith j request b) s (end-fine request))
row-fines (ErrorSteps j request e) s f = fines-of (row (ErrorSteps j request e) s).slots _ (row-causes Fine (ErrorSteps j request e) s (error-fine request))
row-fines e s f = fines-of (row e s).slots (row e s).caused (row-causes Fine e s tt)

begun-fine : (e : Effect) → IsBegun e → Fine e
begun-fine e b = grind (arith, b)

-- what is posted

abbrev pub CanBeSent : List Message → Type 0
CanBeSent ms = All (λ m. can_be_sent m ≡ true) ms

one-more : (ms : List Message) (live : Bool) (m : Message) → can_be_sent m ≡ true → CanBeSent ms → CanBeSent (ms ++ (if live then m ∷ [] else []))
one-more ms true m e k = All-push (λ n. can_be_sent n ≡ true) ms m k e
one-more ms false m e k = rw (append-nil ms) k

none-more : (ms : List Message) → CanBeSent ms → CanBeSent (ms ++ [])
none-more ms k = rw (append-nil ms) k

left-sent : (r : Plain) → can_be_sent (ErrorMessage (if is_cloneable r then r else cross.data_clone)) ≡ true
left-sent r = by (is_cloneable r) refl
  where
    by : (b : Bool) → b ≡ is_cloneable r → is_cloneable (if b then r else cross.data_clone) ≡ true
    by true e = sym e
    by false e = refl

given-sent : (clones : Bool) (operation : PortOperation) (x : cross.Slots) (d : PortId) (ms : List Message) → Fine (Port d operation) → CanBeSent ms → CanBeSent (ms ++ given clones operation x)
given-sent clones ports.Pull x d ms f k = one-more ms x.live PullMessage refl k
given-sent clones (ports.Leave r u) x d ms f k = one-more ms x.live (ErrorMessage (if is_cloneable r then r else cross.data_clone)) (left-sent r) k
given-sent clones (ports.Write u) x d ms f k = none-more ms k
given-sent clones (ports.WriteGoesOn p) x d ms f k = by clones x.backpressure
  where
    by : (b : Bool) (o : Option PromiseId) → CanBeSent (ms ++ given_first b x o)
    by true None = none-more ms k
    by false None = one-more ms x.live (ErrorMessage cross.data_clone) refl k
    by b (Some p) = none-more ms k
given-sent clones (ports.PostChunk v p) x d ms f k = one-more ms x.live (ChunkMessage v) f k
given-sent clones (ports.Close u) x d ms f k = one-more ms x.live CloseMessage refl k
given-sent clones (ports.Deliver m) x d ms f k = none-more ms k
given-sent clones ports.Unblock x d ms f k = none-more ms k

module _ (c : PortId) where
  abbrev pub Sent : Past → Slots → Type 0
  Sent h s = CanBeSent (all_posted c h s)

  pub record Sending (h : Past) (s : Slots) (es : List Effect) : Type 0 where
    pub fines : Fines s es
    pub sent : Sent h s

  same-sent : (h : Past) (s z : Slots) → posted c z.promises ≡ posted c s.promises → Sent h s → Sent (then_past h nothing_past) z
  same-sent h s z e k = rw (append-nil h.heard, e) k

  row-sent : (h : Past) (s : Slots) (e : Effect) → First s e → Sent h s → Sent (then_past h nothing_past) (row e s).slots
  row-sent h s (Port d operation) f k =
      by-port c (λ q. Fine (Port q operation) → Sent (then_past h nothing_past) (row (Port q operation) s).slots) d
      (λ n g. same-sent h s (row (Port d operation) s).slots (row-leaves c (Port d operation) s n).0 k) (λ g. own (slice_get s.ports c.0) refl g) f
    where
      own : (o : Option cross.Slots) → slice_get s.ports c.0 ≡ o → Fine (Port c operation) → Sent (then_past h nothing_past) (row (Port c operation) s).slots
      own None is g = rw (no-mine c operation s is, append-nil h.heard) k
      own (Some x) is g =
          let r = row-mine c operation s x is in
          rw (append-nil h.heard, r.told, ← append_assoc h.heard (posted c s.promises) (given (clones_at x s) operation x)) (given-sent (clones_at x s) operation x c (all_posted c h s) g k)
  row-sent h s e f k = same-sent h s (row e s).slots (row-leaves c e s tt).0 k

  fines-begun : (s : Slots) (es : List Effect) → Each IsBegun es → Fines s es
  fines-begun s es b = fines-of s es (each-map IsBegun Fine begun-fine es b)

  sending-goes : Goes then_past untold_past (said c) Sending
  sending-goes = record {
    row = λ h s e es k. record { fines = fines-next (row e s).slots (row e s).caused es (row-fines e s k.fines.0) k.fines.1; sent = row-sent h s e k.fines.0 k.sent };
    call = λ h s call k. record {
      fines = fines-begun (begin call s).done.slots (begin call s).done.caused (call-begun call s);
      sent = rw (append-nil h.heard, ap (posted_in c) (call-events call s)) k.sent;
    };
    job = λ h s job e k. record { fines = fines-begun (with_promises (after_next_job s.promises) s) (job_effects job) (job-begun job); sent = rw (append-nil h.heard, ap (posted_in c) (next-events s.promises)) k.sent };
    idle = λ h s e k. record { fines = tt; sent = rw (append-nil h.heard) k.sent };
    answered = λ h s p k. record { fines = tt; sent = rw (watch-posted c p s.promises) k.sent };
    older = λ h s k. record { fines = tt; sent = k.sent };
  }

  sending-rests : Rests then_past (said c) Sending
  sending-rests = record {
    heard = λ h s k. record {
      fines = tt;
      sent = rw (append_assoc h.heard (posted_in c (taken_event s.promises.events)) (posted_in c (later_events s.promises.events)), split-events c s.promises.events) k.sent;
    };
  }

pub each_post_can_be_sent : EachPostCanBeSent
each_post_can_be_sent entries c =
    let k = walker.run-goes nothing_past then_past past-history untold_past (said c) (Sending c) (sending-goes c) (sending-rests c) entries nothing_past empty (record { fines = tt; sent = All-nil (λ m. can_be_sent m ≡ true) }) in
    subst CanBeSent (run-heard c entries empty) k.sent
