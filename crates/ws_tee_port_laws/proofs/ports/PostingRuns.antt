-- The posts of a port, over every run: what each effect, call and job does to them.
use Rattle.std.proofs.Common.{◌≡◌, ℕ, ◌≤◌, zero, suc, Bool, true, false, ◌||◌, if◌then◌else◌, List, [], ◌∷◌, ◌++◌, Option, Some, None, ◌⊎◌, inl, inr, ⊎_elim, slice_get, refl, sym, ap, ◌∙◌, subst, append-nil, append_assoc, arith}
use Rattle.std.specs.Prelude.{is_some}
use Rattle.ws_value.specs.declared.ids.PortId.{PortId}
use Rattle.ws_value.specs.declared.ids.PromiseId.{PromiseId}
use Rattle.ws_value.specs.declared.ids.StreamId.{StreamId}
use Rattle.ws_value.specs.declared.value.Message.{Message}
use Rattle.ws_steps.specs.declared.calls.Call.{Call}
use Rattle.ws_steps.specs.declared.calls.Call.TheVariants.{Deliver as DeliverCall}
use Rattle.ws_steps.specs.declared.calls.Event.{Event}
use Rattle.ws_steps.specs.declared.effects.Effect.{Effect}
use Rattle.ws_steps.specs.declared.effects.Effect.TheVariants.{Writable, Port, PullAlgorithm, CancelAlgorithm, WriteAlgorithm, CloseAlgorithm, AbortAlgorithm}
use Rattle.ws_steps.specs.declared.port.PortOperation.{PortOperation}
use Rattle.ws_steps.specs.declared.port.PortOperation.TheVariants as ports
use Rattle.ws_steps.specs.declared.port.Side.{Side}
use Rattle.ws_steps.specs.declared.port.Side.TheVariants.{Readable as ReadableSide, Writable as WritableSide}
use Rattle.ws_steps.specs.declared.promises.Job.{Job}
use Rattle.ws_steps.specs.declared.transform.Taker.TheVariants.{ToPort}
use Rattle.ws_steps.specs.declared.writable.WritableOperation.TheVariants as writes
use Rattle.ws_steps.specs.declared.writable.WriteRecord.{WriteRecord}
use Rattle.ws_steps.specs.declared.writable.WriteRecord.TheVariants.{Chunk, InFlight, CloseMark}
use Rattle.ws_steps.specs.Begun.{Begun}
use Rattle.ws_steps.specs.Calls.{begin}
use Rattle.ws_steps.specs.Begun as replying
use Rattle.ws_steps.specs.PipeCalls as pipe_calls
use Rattle.ws_steps.specs.Cross as cross
use Rattle.ws_steps.specs.Cross.{post, post_or_fail, data_clone}
use Rattle.ws_steps.specs.Histories.{taken_event}
use Rattle.ws_steps.specs.Jobs.{job_effects}
use Rattle.ws_steps.specs.Operations.{writable_operation, port_operation}
use Rattle.ws_steps.specs.PortHistory.{is_same_port, posted_by, posted_in, taken_by, is_end, is_asking}
use Rattle.ws_steps.specs.Queues.{first_value}
use Rattle.ws_steps.specs.Run.{Entry, Called, Worked, Heard, later_events}
use Rattle.ws_steps.specs.Slots.{Slots, Done, nothing, found, has_writable, put_writable, on_port_at, clones_at, has_port, as_port}
use Rattle.ws_steps.specs.Turns.{row}
use Rattle.ws_steps.specs.Writable as writable
use Rattle.ws_laws.proofs.EachCall.{each_call}
use Rattle.ws_laws.proofs.Lists.{Each, each-map}
use Rattle.ws_laws.proofs.Apart.{IsNoPort, row-ports}
use Rattle.ws_laws.proofs.Ended.{port_shape, port_shapes}
use Rattle.ws_laws.proofs.Shapes.{stream_shapes, map-there}
use Rattle.ws_laws.proofs.Tables.{either, eq_numbers, writable_acts}
use Rattle.std.proofs.lemmas.List.Elements.{All-nil}
use Rattle.ws_laws.proofs.Truth.{false_true}
use Rattle.ws_laws.proofs.Walker.{IsHistory, Goes, Rests}
use Rattle.ws_tee_port_laws.proofs.ports.Fitting.{Fitting, Fits, fitting-stays}
use Rattle.ws_tee_port_laws.proofs.ports.Posting.{total, total-append, some_of, some_of-append, chunks_of, asks_of, is_due, due_by, ended_by, none_of, goes, Posts, calm, given, given-more, port-ends, Suits, asks-more, is_same_port-refl, has_end-more}
use Rattle.ws_tee_port_laws.proofs.ports.Told.{posted, row-posted, watch-posted, next-events, call-events}
use Rattle.ws_tee_port_laws.proofs.ports.Apart.{Apart, apart-chunks, apart-asks, apart-due, row-apart, port-elsewhere, place-same, place-other}

-- what happened before: what port c took, and what the host has heard that it posted
pub record Past : Type 0 where
  pub taken : List Message
  pub heard : List Message

abbrev pub nothing_past : Past
nothing_past = record { taken = []; heard = [] }

abbrev pub then_past : Past → Past → Past
then_past f g = record { taken = f.taken ++ g.taken; heard = f.heard ++ g.heard }

pub past-history : IsHistory nothing_past then_past
past-history = record {
  left = λ h. refl;
  right = λ h k. record { taken = append-nil h.taken k; heard = append-nil h.heard k };
  assoc = λ f g h k. record { taken = append_assoc f.taken g.taken h.taken k; heard = append_assoc f.heard g.heard h.heard k };
}

abbrev pub untold_past : Effect → Slots → Past
untold_past e s = nothing_past

module _ (c : PortId) where
  abbrev pub said : Slots → Entry → Past
  said s (Called call) = record { taken = taken_by c call s; heard = [] }
  said s Worked = nothing_past
  said s Heard = record { taken = []; heard = posted_in c (taken_event s.promises.events) }

  -- all that it posted
  abbrev pub all_posted : Past → Slots → List Message
  all_posted h s = h.heard ++ posted c s.promises

  abbrev pub Held : Past → List Message → Option cross.Slots → List Effect → Type 0
  Held h ms None es = (h.taken ≡ []) × (ms ≡ [])
  Held h ms (Some x) es = Posts c h.taken ms x es

  abbrev pub Posting : Past → Slots → List Effect → Type 0
  Posting h s es = Held h (all_posted h s) (slice_get s.ports c.0) es

  -- where effects are performed that weigh nothing for it
  pub lighter : (h : Past) (ms : List Message) (o : Option cross.Slots) (es fs : List Effect) → total (chunks_of c) fs ≤ total (chunks_of c) es
      → ((l : Bool) → total (asks_of c l) fs ≤ total (asks_of c l) es) → some_of (is_due c) fs ≡ some_of (is_due c) es → Held h ms o es → Held h ms o fs
  lighter h ms None es fs a b d k = k
  lighter h ms (Some x) es fs a b d k = calm c h.taken ms x x es fs k refl refl (λ e. ap (due_by x.side) d) (λ w. let n = b x.live in omega (arith, a, n))

  -- an effect that is none of it, and weighs as much as what it causes, or more
  other : (h : Past) (s : Slots) (e : Effect) (es : List Effect) → IsNoPort e → total (chunks_of c) (row e s).caused ≤ chunks_of c e
      → ((l : Bool) → total (asks_of c l) (row e s).caused ≤ asks_of c l e) → some_of (is_due c) (row e s).caused ≡ is_due c e
      → Posting h s (e ∷ es) → Posting h (row e s).slots ((row e s).caused ++ es)
  other h s e es n a b d k =
      let chunks = total-append (chunks_of c) (row e s).caused es in
      let due = some_of-append (is_due c) (row e s).caused es in
      rw (row-ports e s n, row-posted c e s n)
      (lighter h (all_posted h s) (slice_get s.ports c.0) (e ∷ es) ((row e s).caused ++ es) (omega (arith, a, chunks))
      (λ l. let asks = total-append (asks_of c l) (row e s).caused es in let m = b l in omega (arith, m, asks)) (rw (due, d) refl) k)

  apart-other : (h : Past) (s : Slots) (e : Effect) (es : List Effect) → IsNoPort e → is_due c e ≡ false → Each (Apart c) (row e s).caused
      → Posting h s (e ∷ es) → Posting h (row e s).slots ((row e s).caused ++ es)
  apart-other h s e es n d each k =
      let a = apart-chunks c (row e s).caused each in
      other h s e es n (omega (arith, a)) (λ l. let b = apart-asks c l (row e s).caused each in omega (arith, b)) (apart-due c (row e s).caused each ∙ sym d) k

  -- a chunk is handed on
  handed : (i : StreamId) (d : PortId) (p : PromiseId) (a : writable.Acts) (o : Option WriteRecord) → a.out.effects ≡ []
      → let b : writable.Acts = writable.hand_on_first i (ToPort d p) a o in
      (total (chunks_of c) b.out.effects ≤ chunks_of c (Writable i (writes.HandOn (ToPort d p))))
      × (((l : Bool) → total (asks_of c l) b.out.effects ≤ 0) × (some_of (is_due c) b.out.effects ≡ false))
  handed i d p a None e = rw e (omega arith, (λ l. omega arith, refl))
  handed i d p a (Some (Chunk v)) e = rw e (omega arith, (λ l. omega arith, refl))
  handed i d p a (Some InFlight) e = rw e (omega arith, (λ l. omega arith, refl))
  handed i d p a (Some CloseMark) e = rw e (omega arith, (λ l. omega arith, refl))

  abbrev Light : Effect → Done → Type 0
  Light e d = (total (chunks_of c) d.caused ≤ chunks_of c e) × (((l : Bool) → total (asks_of c l) d.caused ≤ 0) × (some_of (is_due c) d.caused ≡ false))

  hand-light : (i : StreamId) (d : PortId) (p : PromiseId) (s : Slots) → Light (Writable i (writes.HandOn (ToPort d p))) (row (Writable i (writes.HandOn (ToPort d p))) s)
  unfolding row writable.hand_on
  hand-light i d p s =
      let e : Effect = Writable i (writes.HandOn (ToPort d p)) in
      either (Light e) (has_writable i s) (put_writable i s (writable_operation i (writes.HandOn (ToPort d p)) (writable_acts i s))) (nothing s)
      (λ there. handed i d p (writable_acts i s) (first_value (writable_acts i s).slots.queue) refl) (λ absent. (omega arith, (λ l. omega arith, refl)))

  -- an operation of another port
  elsewhere : (d : PortId) (operation : PortOperation) (h : Past) (s : Slots) (es : List Effect) → is_same_port c d ≡ false → (o : Option cross.Slots) → slice_get s.ports d.0 ≡ o
      → Each (Apart c) (on_port_at (λ clones. port_operation d clones operation) d s o).caused
      → Posting h s (Port d operation ∷ es) → let z : Done = on_port_at (λ clones. port_operation d clones operation) d s o in Posting h z.slots (z.caused ++ es)
  elsewhere d operation h s es n None is each k =
      lighter h (all_posted h s) (slice_get s.ports c.0) (Port d operation ∷ es) es (omega arith) (λ l. omega arith) (no_due operation) k
    where
      no_due : (operation : PortOperation) → some_of (is_due c) es ≡ some_of (is_due c) (Port d operation ∷ es)
      no_due (ports.Deliver m) = rw n refl
      no_due operation = refl
  elsewhere d operation h s es n (Some x) is each k =
      let a : cross.Acts = record { slots = x; out = found s } in
      let b : cross.Acts = port_operation d (clones_at x s) operation a in
      let untold : posted c b.out.promises ≡ posted c s.promises = port-elsewhere c d n (clones_at x s) operation a in
      let chunks = total-append (chunks_of c) b.out.effects es in
      let none = apart-chunks c b.out.effects each in
      let due = some_of-append (is_due c) b.out.effects es in
      rw (untold, place-other s.ports c.0 d.0 b.slots n)
      (lighter h (all_posted h s) (slice_get s.ports c.0) (Port d operation ∷ es) (b.out.effects ++ es) (omega (arith, chunks, none))
      (λ l. let asks = total-append (asks_of c l) b.out.effects es in let m = apart-asks c l b.out.effects each in omega (arith, asks, m))
      (rw (due, apart-due c b.out.effects each) (no_due operation)) k)
    where
      no_due : (operation : PortOperation) → some_of (is_due c) es ≡ some_of (is_due c) (Port d operation ∷ es)
      no_due (ports.Deliver m) = rw n refl
      no_due operation = refl

  -- an operation of its own

  suits : (s : Slots) (x : cross.Slots) (operation : PortOperation) → slice_get s.ports c.0 ≡ Some x → Fits (stream_shapes s) (port_shapes s) (Port c operation) → Suits x operation
  suits s x ports.Pull is f = f (port_shape x) (map-there port_shape s.ports c.0 x is)
  suits s x (ports.PostChunk v d) is f = f (port_shape x) (map-there port_shape s.ports c.0 x is)
  suits s x (ports.Close u) is f = f (port_shape x) (map-there port_shape s.ports c.0 x is)
  suits s x operation is f = tt

  mine : (operation : PortOperation) (h : Past) (s : Slots) (es : List Effect) → Fits (stream_shapes s) (port_shapes s) (Port c operation) → (o : Option cross.Slots) → slice_get s.ports c.0 ≡ o
      → Posting h s (Port c operation ∷ es) → let z : Done = on_port_at (λ clones. port_operation c clones operation) c s o in Posting h z.slots (z.caused ++ es)
  mine operation h s es f None is k = rw is (rw is at k)
  mine operation h s es f (Some x) is k =
      let a : cross.Acts = record { slots = x; out = found s } in
      let b : cross.Acts = port_operation c (clones_at x s) operation a in
      let held : Posts c h.taken (all_posted h s) x (Port c operation ∷ es) = rw is at k in
      let more = given-more c (clones_at x s) operation a in
      let done = port-ends c h.taken (all_posted h s) x es s.promises (clones_at x s) operation (suits s x operation is f) held in
      rw (place-same s.ports c.0 x b.slots is, more, ← append_assoc h.heard (posted c s.promises) (given (clones_at x s) operation x)) done

  port-kept : (d : PortId) (operation : PortOperation) (h : Past) (s : Slots) (es : List Effect) → Fits (stream_shapes s) (port_shapes s) (Port d operation) → (same : Bool) → same ≡ is_same_port c d
      → Posting h s (Port d operation ∷ es) → Posting h (row (Port d operation) s).slots ((row (Port d operation) s).caused ++ es)
  unfolding row
  port-kept d operation h s es f false n k = elsewhere d operation h s es (sym n) (slice_get s.ports d.0) refl (row-apart c (Port d operation) s (sym n)) k
  port-kept d operation h s es f true e k =
      let is : d ≡ c = same-port d (sym e) in
      subst (λ (p : PortId). Fits (stream_shapes s) (port_shapes s) (Port p operation) → Posting h s (Port p operation ∷ es) → let z : Done = on_port_at (λ clones. port_operation p clones operation) p s (slice_get s.ports p.0) in Posting h z.slots (z.caused ++ es))
      (sym is) (λ f k. mine operation h s es f (slice_get s.ports c.0) refl k) f k
    where
      same-port : (d : PortId) → is_same_port c d ≡ true → d ≡ c
      same-port d e = λ k. record { 0 = sym (eq_numbers c.0 d.0 e) k }

  row-kept : (h : Past) (s : Slots) (e : Effect) (es : List Effect) → Fits (stream_shapes s) (port_shapes s) e → Posting h s (e ∷ es) → Posting h (row e s).slots ((row e s).caused ++ es)
  row-kept h s (Port d operation) es f k = port-kept d operation h s es f (is_same_port c d) refl k
  row-kept h s (Writable i (writes.HandOn (ToPort d p))) es f k =
      let n = hand-light i d p s in other h s (Writable i (writes.HandOn (ToPort d p))) es tt n.0 n.1.0 n.1.1 k
  row-kept h s e es f k = apart-other h s e es tt refl (row-apart c e s tt) k

-- what calls and jobs begin with

abbrev OnlyComes : Call → Effect → Type 0
OnlyComes call (Port d (ports.Deliver m)) = call ≡ DeliverCall d m
OnlyComes call (Port d operation) = ⊥
OnlyComes call (Writable i (writes.HandOn taker)) = ⊥
OnlyComes call _ = Unit {0}

call-comes : (call : Call) (s : Slots) → Each (OnlyComes call) (begin call s).done.caused
call-comes call s = each_call (λ (b : Begun). Each (OnlyComes call) b.done.caused) call s (grind arith)

abbrev IsNoDelivery : Call → Type 0
IsNoDelivery (DeliverCall d m) = ⊥
IsNoDelivery call = Unit {0}

comes-apart : (c : PortId) (call : Call) → IsNoDelivery call → (e : Effect) → OnlyComes call e → Apart c e
comes-apart c call n (Port d (ports.Deliver m)) k = absurd (subst IsNoDelivery k n)
comes-apart c call n (Port d operation) k = absurd k
comes-apart c call n (Writable i (writes.HandOn taker)) k = absurd k
comes-apart c call n e k = record { chunks = refl; asks = λ l. refl; due = refl }

abbrev pub IsOfJob : Effect → Type 0
IsOfJob (Port d (ports.WriteGoesOn p)) = Unit {0}
IsOfJob (Port d operation) = ⊥
IsOfJob (Writable i (writes.HandOn taker)) = ⊥
IsOfJob (PullAlgorithm i) = ⊥
IsOfJob (CancelAlgorithm i r p) = ⊥
IsOfJob (WriteAlgorithm i) = ⊥
IsOfJob (CloseAlgorithm i) = ⊥
IsOfJob (AbortAlgorithm i r p) = ⊥
IsOfJob _ = Unit {0}

pub job-of : (job : Job) → Each IsOfJob (job_effects job)
job-of job = grind arith

job-apart : (c : PortId) (job : Job) → Each (Apart c) (job_effects job)
job-apart c job = each-map IsOfJob (Apart c) begun-apart (job_effects job) (job-of job)
  where
    begun-apart : (e : Effect) → IsOfJob e → Apart c e
    begun-apart e b = record { chunks = grind arith; asks = grind arith; due = grind arith }

-- the ports after a call: none is new, or one is, which is entangled, and of which no chunk was asked
abbrev pub IsNewPort : cross.Slots → Type 0
IsNewPort x = (x.live ≡ true) × (x.side ≡ WritableSide → none_of x.backpressure ≡ 0)

abbrev pub PortsNow : Slots → Slots → Type 0
PortsNow s z = (z.ports ≡ s.ports) ⊎ ((x : cross.Slots) × ((z.ports ≡ s.ports ++ x ∷ []) × IsNewPort x))

port-added : (side : Side) (i : StreamId) (s : Slots) → PortsNow s (pipe_calls.add_port i s side)
port-added ReadableSide i s = inr (_, (refl, (refl, λ e. cc)))
port-added WritableSide i s = inr (_, (refl, (refl, λ e. refl)))

pub call-ports : (call : Call) (s : Slots) → PortsNow s (begin call s).done.slots
call-ports call s = each_call (λ (b : Begun). PortsNow s b.done.slots) call s (record {
  unchanged = λ reply. inl refl;
  rejected = λ fault. inl refl;
  make_readable = λ mark size start. inl refl;
  make_bytes = λ mark auto start. inl refl;
  get_byob = λ i is e. inl refl;
  release_byob = λ l closed i e. inl refl;
  read_into = λ l i closed room element least e f. inl refl;
  enqueue_bytes = λ i b e is some can. inl refl;
  finish_bytes = λ i e is can. inl refl;
  make_request = λ i reply is. inl refl;
  respond = λ q i b e is can. inl refl;
  make_writable = λ mark size start. inl refl;
  make_transform = λ kind m n start. inl refl;
  make_tee = λ i e is free untied. inl refl;
  get_reader = λ i e. inl refl;
  get_writer = λ i e. inl refl;
  release_reader = λ l closed i e. inl refl;
  release_writer = λ l i w e f. inl refl;
  cancel = λ reason i. inl refl;
  read = λ l i closed e f. inl refl;
  write = λ l v i e. inl refl;
  close = λ i. inl refl;
  abort = λ reason i e. inl refl;
  enqueue = λ i v e o can. inl refl;
  enqueue_half = λ i a v e o can. inl refl;
  finish = λ i. inl refl;
  fail_readable = λ i reason. inl refl;
  fail_writable = λ i reason. inl refl;
  fail_half = λ a reason. inl refl;
  terminate = λ a. inl refl;
  pipe = λ source dest prevent signal e f l m. inl refl;
  make_signal = inl refl;
  open_end = λ side. port-added side _ s;
  send_readable = λ i there free. port-added WritableSide _ s;
  send_writable = λ i there free. port-added ReadableSide _ s;
  deliver = λ p m e is. inl refl;
  trigger = λ a reason. inl refl;
  settle = λ a answer p e. inl refl;
})

pub last-place : (xs : List cross.Slots) (y : cross.Slots) (n : ℕ) → (slice_get (xs ++ y ∷ []) n ≡ slice_get xs n) ⊎ ((slice_get xs n ≡ None) × (slice_get (xs ++ y ∷ []) n ≡ Some y))
last-place [] y zero = inr (refl, refl)
last-place [] y (suc n) = inl refl
last-place (x ∷ xs) y zero = inl refl
last-place (x ∷ xs) y (suc n) = last-place xs y n

module _ (c : PortId) where
  new-posts : (x : cross.Slots) (es : List Effect) → IsNewPort x → Each (Apart c) es → Posts c [] [] x es
  new-posts x es new a = record {
    posts = All-nil (λ m. goes x.side m ≡ true);
    last = refl;
    going = λ e. refl;
    shut = λ e. false_true x.live new.0 e;
    come = λ e. no_end x.side ∙ (no_due x.side ∙ ap (due_by x.side) (sym (apart-due c es a)));
    credit = λ w. let n = new.1 w in let chunks = apart-chunks c es a in let asks = apart-asks c x.live es a in omega arith;
  }
    where
      no_end : (side : Side) → ended_by side [] ≡ false
      no_end ReadableSide = refl
      no_end WritableSide = refl

      no_due : (side : Side) → false ≡ due_by side false
      no_due ReadableSide = refl
      no_due WritableSide = refl

  -- effects that weigh nothing stand
  standing : (h : Past) (ms : List Message) (o : Option cross.Slots) (es : List Effect) → Each (Apart c) es → Held c h ms o [] → Held c h ms o es
  standing h ms o es a k =
      let chunks = apart-chunks c es a in
      lighter c h ms o [] es (omega arith) (λ l. let asks = apart-asks c l es a in omega arith) (apart-due c es a) k

  -- the port is new, or the ports are the same
  ports-held : (h : Past) (ms : List Message) (s z : Slots) (es : List Effect) → PortsNow s z → Each (Apart c) es → Held c h ms (slice_get s.ports c.0) [] → Held c h ms (slice_get z.ports c.0) es
  ports-held h ms s z es (inl e) a k = rw e (standing h ms (slice_get s.ports c.0) es a k)
  ports-held h ms s z es (inr (x, (e, new))) a k = rw e (⊎_elim same made (last-place s.ports x c.0))
    where
      same : slice_get (s.ports ++ x ∷ []) c.0 ≡ slice_get s.ports c.0 → Held c h ms (slice_get (s.ports ++ x ∷ []) c.0) es
      same is = rw is (standing h ms (slice_get s.ports c.0) es a k)

      made : (slice_get s.ports c.0 ≡ None) × (slice_get (s.ports ++ x ∷ []) c.0 ≡ Some x) → Held c h ms (slice_get (s.ports ++ x ∷ []) c.0) es
      made is =
          let was : Held c h ms None [] = rw is.0 at k in
          rw (is.1, was.0, was.1) (new-posts x es new a)

  -- a call that delivers no message

  none-taken : (call : Call) (s : Slots) → IsNoDelivery call → taken_by c call s ≡ []
  none-taken (DeliverCall d m) s n = absurd n
  none-taken call s n = refl

  call-kept : (call : Call) (h : Past) (s : Slots) → IsNoDelivery call → Posting c h s [] → Posting c (then_past h (said c s (Called call))) (begin call s).done.slots (begin call s).done.caused
  call-kept call h s n k =
      rw (none-taken call s n, append-nil h.taken, append-nil h.heard, ap (posted_in c) (call-events call s))
      (ports-held h (all_posted c h s) s (begin call s).done.slots (begin call s).done.caused (call-ports call s)
      (each-map (OnlyComes call) (Apart c) (comes-apart c call n) (begin call s).done.caused (call-comes call s)) k)

  -- and one that does

  comes-posts : (h : Past) (ms : List Message) (x : cross.Slots) (m : Message) → Posts c h.taken ms x []
      → Posts c (h.taken ++ (if x.live then m ∷ [] else [])) ms x (Port c (ports.Deliver m) ∷ [])
  comes-posts h ms x m k = by x.live refl
    where
      due : (l : Bool) → some_of (is_due c) (Port c (ports.Deliver m) ∷ []) ≡ is_end m
      due l = rw (is_same_port-refl c) (or_none (is_end m))
        where
          or_none : (b : Bool) → b || false ≡ b
          or_none b = grind arith

      ended-more : (side : Side) → ended_by side h.taken ≡ due_by side false → ended_by side (h.taken ++ m ∷ []) ≡ due_by side (is_end m)
      ended-more ReadableSide e = has_end-more h.taken m ∙ rw e refl
      ended-more WritableSide e = refl

      by : (l : Bool) → l ≡ x.live → Posts c (h.taken ++ (if l then m ∷ [] else [])) ms x (Port c (ports.Deliver m) ∷ [])
      by true e = record {
        posts = k.posts;
        last = k.last;
        going = k.going;
        shut = λ n. false_true x.live (sym e) n;
        come = λ l. ended-more x.side (k.come l) ∙ ap (due_by x.side) (sym (due true));
        credit = λ w.
            let n = k.credit w in
            let a = asks-more h.taken m in
            let one : asks_of c x.live (Port c (ports.Deliver m)) ≡ is_asking m = rw (is_same_port-refl c, ← e) refl in
            omega (arith, n, a, one);
      }
      by false e = record {
        posts = k.posts;
        last = k.last;
        going = k.going;
        shut = λ n. rw (append-nil h.taken) (k.shut n);
        come = λ l. false_true x.live l (sym e);
        credit = λ w.
            let n = k.credit w in
            let one : asks_of c x.live (Port c (ports.Deliver m)) ≡ 0 = rw (is_same_port-refl c, ← e) refl in
            rw (append-nil h.taken) (omega (arith, n, one));
      }

  comes-held : (h : Past) (ms : List Message) (m : Message) (o : Option cross.Slots) → Held c h ms o []
      → Held c (record h { taken = h.taken ++ (if (as_port o).live then m ∷ [] else []) }) ms o (Port c (ports.Deliver m) ∷ [])
  comes-held h ms m None k = (append-nil h.taken ∙ k.0, k.1)
  comes-held h ms m (Some x) k = comes-posts h ms x m k

  same_port : (d : PortId) → is_same_port c d ≡ true → c ≡ d
  same_port d e = λ k. record { 0 = eq_numbers c.0 d.0 e k }

  abbrev After : Past → Slots → Call → Begun → Type 0
  After h s call b = Posting c (then_past h (said c s (Called call))) b.done.slots b.done.caused

  deliver-by : (h : Past) (s : Slots) (d : PortId) (m : Message) (same : Bool) → same ≡ is_same_port c d → Posting c h s [] → After h s (DeliverCall d m) (replying.does (Port d (ports.Deliver m) ∷ []) s)
  deliver-by h s d m false n k =
      rw (← n, append-nil h.taken, append-nil h.heard)
      (standing h (all_posted c h s) (slice_get s.ports c.0) (Port d (ports.Deliver m) ∷ []) (record { chunks = refl; asks = λ l. rw (← n) refl; due = rw (← n) refl }, tt) k)
  deliver-by h s d m true e k =
      let is : c ≡ d = same_port d (sym e) in
      rw (← is, is_same_port-refl c, append-nil h.heard) (comes-held h (all_posted c h s) m (slice_get s.ports c.0) k)

  no_port-taken : (h : Past) (s : Slots) (d : PortId) (m : Message) → has_port d s ≡ false → (same : Bool) → same ≡ is_same_port c d → taken_by c (DeliverCall d m) s ≡ []
  no_port-taken h s d m none false n = rw (← n) refl
  no_port-taken h s d m none true e =
      let is : c ≡ d = same_port d (sym e) in
      rw (is, is_same_port-refl d, not_live (slice_get s.ports d.0) none) refl
    where
      not_live : (o : Option cross.Slots) → is_some o ≡ false → (as_port o).live ≡ false
      not_live None e = refl
      not_live (Some x) e = cc

  deliver-kept : (h : Past) (s : Slots) (d : PortId) (m : Message) → Posting c h s [] → After h s (DeliverCall d m) (begin (DeliverCall d m) s)
  unfolding begin
  deliver-kept h s d m k =
      either (After h s (DeliverCall d m)) (has_port d s) (replying.does (Port d (ports.Deliver m) ∷ []) s) (replying.unsupported s)
      (λ e. deliver-by h s d m (is_same_port c d) refl k)
      (λ n. rw (no_port-taken h s d m n (is_same_port c d) refl, append-nil h.taken, append-nil h.heard) k)

  called : (call : Call) (h : Past) (s : Slots) → Posting c h s [] → Posting c (then_past h (said c s (Called call))) (begin call s).done.slots (begin call s).done.caused
  called (DeliverCall d m) h s k = deliver-kept h s d m k
  called call h s k = call-kept call h s tt k

  -- the walk

  abbrev pub Whole : Past → Slots → List Effect → Type 0
  Whole h s es = Fitting s es × Posting c h s es

  pub posting-goes : Goes then_past untold_past (said c) Whole
  posting-goes = record {
    row = λ h s e es k. (fitting-stays.row s e es k.0, rw (append-nil h.taken, append-nil h.heard) (row-kept c h s e es k.0.1.0 k.1));
    call = λ h s call k. (fitting-stays.call s call k.0, called call h s k.1);
    job = λ h s job e k. (
      fitting-stays.job s job e k.0,
      rw (append-nil h.taken, append-nil h.heard, ap (posted_in c) (next-events s.promises)) (standing h (all_posted c h s) (slice_get s.ports c.0) (job_effects job) (job-apart c job) k.1),
    );
    idle = λ h s e k. (k.0, rw (append-nil h.taken, append-nil h.heard) k.1);
    answered = λ h s p k. (k.0, rw (watch-posted c p s.promises) k.1);
    older = λ h s k. k;
  }

  pub split-events : (es : List Event) → posted_in c (taken_event es) ++ posted_in c (later_events es) ≡ posted_in c es
  split-events [] = refl
  split-events (e ∷ es) = append_assoc (posted_by c e) [] (posted_in c es)

  pub posting-rests : Rests then_past (said c) Whole
  posting-rests = record {
    heard = λ h s k. (k.0, rw (append-nil h.taken, append_assoc h.heard (posted_in c (taken_event s.promises.events)) (posted_in c (later_events s.promises.events)), split-events s.promises.events) k.1);
  }
