-- The ports of a node are those at its ends, and the first chunk that waits for one can be cloned.
use Rattle.std.proofs.Common.{◌≡◌, ℕ, zero, suc, ◌+◌, ◌*◌, ◌≤◌, ◌<◌, nat_eq, Bool, true, false, List, [], ◌∷◌, ◌++◌, length, map, Option, Some, None, slice_get, refl, sym, ap, subst, ◌∙◌, arith}
use Rattle.std.specs.Prelude.{is_some}
use Rattle.ws_value.specs.declared.ids.PortId.{PortId}
use Rattle.ws_value.specs.declared.value.Message.{Message}
use Rattle.ws_value.specs.declared.value.Value.{Value}
use Rattle.ws_steps.specs.declared.calls.Call.{Call}
use Rattle.ws_steps.specs.declared.calls.Call.TheVariants.{MakeReadable, MakeBytes, MakeWritable, MakeTransform, Enqueue, Finish, Fail, Pipe, MakeSignal, Trigger, Open, Deliver, Settle as SettleCall}
use Rattle.ws_steps.specs.declared.effects.Owner.{Owner}
use Rattle.ws_steps.specs.declared.effects.Owner.TheVariants.{EndOf}
use Rattle.ws_steps.specs.declared.port.Side.TheVariants.{Readable as ReadableSide, Writable as WritableSide}
use Rattle.ws_steps.specs.declared.promises.Job.{Job}
use Rattle.ws_steps.specs.declared.transform.Kind.TheVariants.{Host as HostKind}
use Rattle.ws_steps.specs.Calls.{begin}
use Rattle.ws_steps.specs.Cross as cross
use Rattle.ws_steps.specs.Cross.{clones_first}
use Rattle.ws_steps.specs.Histories.{run_events}
use Rattle.ws_steps.specs.Jobs.{job_begun, begin_job}
use Rattle.ws_steps.specs.PortHistory.{posted_in}
use Rattle.ws_steps.specs.Promises.{next_job}
use Rattle.ws_steps.specs.Queues.{first_value}
use Rattle.ws_steps.specs.Run.{Entry, Called, Worked, Heard, step, run}
use Rattle.ws_steps.specs.Slots.{Slots, Stream, ReadableStream, ByteStream, WritableStream, empty, most_streams, has_port, port_at, as_port, owner_at, owner_of, is_writable_stream, writable_at, as_writable, clones_at}
use Rattle.ws_steps.specs.Writable as writable
use Rattle.ws_steps.specs.Writable.{has_ended}
use Rattle.ws_steps.specs.WritableHistory.{run_writes, todo}
use Rattle.ws_flow.specs.Told.{Told, then_told}
use Rattle.ws_laws.proofs.Ended.{Ended, PortShape, port_shape, port_shapes, row-port_shapes, run-ended}
use Rattle.ws_laws.proofs.Shapes.{ReadableOf, WritableOf, stream_shape, map-there}
use Rattle.ws_room_laws.proofs.Turns.{performed-kept}
use Rattle.ws_readable_laws.proofs.Ports.{called-port_shapes}
use Rattle.ws_link_laws.specs.Link.{OfPort, in_sink, ear_at, unheard, lies}
use Rattle.ws_link_laws.specs.Sound.{SinkFits}
use Rattle.ws_tee_port_laws.specs.ports.Ended.{has_close}
use Rattle.ws_tee_port_laws.proofs.ports.Closing.{each_writable_end_posts_close_last}
use Rattle.ws_tee_port_laws.proofs.ports.Told.{posted-append}
use Rattle.ws_tee_port_laws.proofs.ports.WritableEnds.{each_writable_end_is_lawful}
use Rattle.ws_reason_laws.specs.Reasons.{failure_of}
use Rattle.ws_chain_laws.specs.Chain.{Origin, FromChunks, FromBytes, FromPort, Target, ToSink, ToPort, source_of, dest_of, link_of, source_port, sink_port, ports_before, behind_at}
use Rattle.ws_chain_laws.specs.Opening.{source_call, sink_call, transforms, streams, signals, signal_of, piping, pipes_from, opening, chained}
use Rattle.ws_chain_laws.specs.Outcomes.{past_of}
use Rattle.ws_chain_laws.specs.Runs.{IsNodes, AreNodes, brought_to, heard_from}
use Rattle.ws_chain_laws.proofs.Begins.{run-append}
use Rattle.ws_chain_laws.proofs.Links.{link-at, takes-at}
use Rattle.ws_chain_laws.proofs.Runs.{each_node_goes}
use Rattle.ws_node_laws.specs.Messages.{row_told, taken_events}
use Rattle.ws_node_laws.proofs.Asking.{shape-here}
use Rattle.ws_node_laws.proofs.Messages.{each_chain_tells_by_posts}
use Rattle.ws_clone_laws.specs.Cloning.{AllBringClones}
use Rattle.ws_clone_laws.proofs.Told.{cl-first, cl-second, cl-short, brought-cl, open-told, close-left, close-right, unheard-told, events-split, sink-cl, ended-first, todo-first}
use Rattle.ws_clone_laws.proofs.Walk.{IsOurs}

-- entries that are calls of an opening

abbrev pub AllOurs : List Entry → Type 0
AllOurs [] = Unit {0}
AllOurs (Called c ∷ xs) = (IsOurs c × (failure_of c ≡ [])) × AllOurs xs
AllOurs (Worked ∷ xs) = ⊥
AllOurs (Heard ∷ xs) = ⊥

ours-append : (xs ys : List Entry) → AllOurs xs → AllOurs ys → AllOurs (xs ++ ys)
ours-append [] ys a b = b
ours-append (Called c ∷ xs) ys a b = (a.0, ours-append xs ys a.1 b)
ours-append (Worked ∷ xs) ys a b = absurd a
ours-append (Heard ∷ xs) ys a b = absurd a

source-ours : (o : Origin) → AllOurs (Called (source_call o) ∷ [])
source-ours FromChunks = ((tt, refl), tt)
source-ours FromBytes = ((tt, refl), tt)
source-ours FromPort = ((tt, refl), tt)

sink-ours : (t : Target) → AllOurs (Called (sink_call t) ∷ [])
sink-ours ToSink = ((tt, refl), tt)
sink-ours ToPort = ((tt, refl), tt)

transforms-ours : (n : ℕ) → AllOurs (transforms n)
transforms-ours zero = tt
transforms-ours (suc n) = ((tt, refl), transforms-ours n)

pipes-ours : (k n : ℕ) → AllOurs (pipes_from k n)
pipes-ours k zero = tt
pipes-ours k (suc n) = ((tt, refl), pipes-ours (suc k) n)

pub signals-ours : (b : Bool) → AllOurs (signals b)
signals-ours false = tt
signals-ours true = ((tt, refl), tt)

pub streams-ours : (o : Origin) (t : Target) (n : ℕ) → AllOurs (streams o t n)
streams-ours o t n = ((source-ours o).0, ours-append (transforms n) (Called (sink_call t) ∷ []) (transforms-ours n) (sink-ours t))

pub opening-ours : (o : Origin) (t : Target) (n : ℕ) (b : Bool) → AllOurs (opening o t n b)
opening-ours o t n b =
    let rest = ours-append (transforms n ++ Called (sink_call t) ∷ []) (signals b ++ pipes_from 0 n) (ours-append (transforms n) (Called (sink_call t) ∷ []) (transforms-ours n) (sink-ours t)) (ours-append (signals b) (pipes_from 0 n) (signals-ours b) (pipes-ours 0 n)) in
    ((source-ours o).0, rest)

pub ours-events : (ys xs : List Entry) (s : Slots) → AllOurs ys → run_events (ys ++ xs) s ≡ run_events xs (run ys s)
ours-events [] xs s o = refl
ours-events (Called c ∷ ys) xs s o = ours-events ys xs (step s (Called c)) o.1
ours-events (Worked ∷ ys) xs s o = absurd o
ours-events (Heard ∷ ys) xs s o = absurd o

-- how many ports there are

abbrev opens : Call → ℕ
opens (Open side) = 1
opens _ = 0

abbrev opens_in : List Entry → ℕ
opens_in [] = 0
opens_in (Called c ∷ xs) = opens c + opens_in xs
opens_in (Worked ∷ xs) = opens_in xs
opens_in (Heard ∷ xs) = opens_in xs

opens-append : (xs ys : List Entry) → opens_in (xs ++ ys) ≡ opens_in xs + opens_in ys
opens-append [] ys = omega arith
opens-append (Called c ∷ xs) ys = let h = opens-append xs ys in omega (arith, h)
opens-append (Worked ∷ xs) ys = opens-append xs ys
opens-append (Heard ∷ xs) ys = opens-append xs ys

abbrev AreOurs : List Entry → Type 0
AreOurs [] = Unit {0}
AreOurs (Called c ∷ xs) = IsOurs c × AreOurs xs
AreOurs (Worked ∷ xs) = AreOurs xs
AreOurs (Heard ∷ xs) = AreOurs xs

are-append : (xs ys : List Entry) → AllOurs xs → AreOurs ys → AreOurs (xs ++ ys)
are-append [] ys a b = b
are-append (Called c ∷ xs) ys a b = (a.0.0, are-append xs ys a.1 b)
are-append (Worked ∷ xs) ys a b = absurd a
are-append (Heard ∷ xs) ys a b = absurd a

pub node-ours : (c : Call) → IsNodes c → IsOurs c
node-ours (SettleCall h answer) n = tt
node-ours (Enqueue i v) n = tt
node-ours (Finish i) n = tt
node-ours (Fail i reason) n = tt
node-ours (Trigger a reason) n = tt
node-ours (Deliver c m) n = tt
node-ours _ n = absurd n

nodes-ours : (xs : List Entry) → AreNodes xs → AreOurs xs
nodes-ours [] a = tt
nodes-ours (Called c ∷ xs) a = (node-ours c a.0, nodes-ours xs a.1)
nodes-ours (Worked ∷ xs) a = nodes-ours xs a
nodes-ours (Heard ∷ xs) a = nodes-ours xs a

node-opens : (c : Call) → IsNodes c → opens c ≡ 0
node-opens (SettleCall h answer) n = refl
node-opens (Enqueue i v) n = refl
node-opens (Finish i) n = refl
node-opens (Fail i reason) n = refl
node-opens (Trigger a reason) n = refl
node-opens (Deliver c m) n = refl
node-opens _ n = absurd n

nodes-open : (xs : List Entry) → AreNodes xs → opens_in xs ≡ 0
nodes-open [] a = refl
nodes-open (Called c ∷ xs) a = let h = node-opens c a.0 in let g = nodes-open xs a.1 in omega (arith, h, g)
nodes-open (Worked ∷ xs) a = nodes-open xs a
nodes-open (Heard ∷ xs) a = nodes-open xs a

longer : (xs : List cross.Slots) (y : cross.Slots) → length (xs ++ y ∷ []) ≡ length xs + 1
longer [] y = refl
longer (x ∷ xs) y = let h = longer xs y in omega (arith, h)

same-ports : (c : Call) (s : Slots) → (begin c s).done.slots.ports ≡ s.ports → length (begin c s).done.slots.ports ≤ length s.ports + opens c
same-ports c s e = let h = ap (λ (ps : List cross.Slots). length ps) e in omega (arith, h)

call-ports : (c : Call) (s : Slots) → IsOurs c → length (begin c s).done.slots.ports ≤ length s.ports + opens c
unfolding begin
call-ports (MakeReadable mark size start) s o = same-ports (MakeReadable mark size start) s (grind arith)
call-ports (MakeBytes mark auto start) s o = same-ports (MakeBytes mark auto start) s (grind arith)
call-ports (MakeWritable mark size start) s o = same-ports (MakeWritable mark size start) s (grind arith)
call-ports (MakeTransform HostKind m n start) s o = same-ports (MakeTransform HostKind m n start) s (grind arith)
call-ports MakeSignal s o = same-ports MakeSignal s (grind arith)
call-ports (Open ReadableSide) s o = let l = longer s.ports in grind (arith, l)
call-ports (Open WritableSide) s o = let l = longer s.ports in grind (arith, l)
call-ports (Pipe i j prevent signal) s o = same-ports (Pipe i j prevent signal) s (grind arith)
call-ports (Enqueue i v) s o = same-ports (Enqueue i v) s (grind arith)
call-ports (Finish i) s o = same-ports (Finish i) s (grind arith)
call-ports (Fail i reason) s o = same-ports (Fail i reason) s (grind arith)
call-ports (Trigger a reason) s o = same-ports (Trigger a reason) s (grind arith)
call-ports (Deliver c m) s o = same-ports (Deliver c m) s (grind arith)
call-ports (SettleCall h answer) s o = same-ports (SettleCall h answer) s (grind arith)
call-ports _ s o = absurd o

worked-shapes : (s : Slots) → port_shapes (step s Worked) ≡ port_shapes s
unfolding begin_job
worked-shapes s =
    performed-kept (λ ms z es. port_shapes z ≡ port_shapes s) (λ ms z e es k. row-port_shapes e z ∙ k) (job_begun s (next_job s.promises)) (by (next_job s.promises))
  where
    by : (o : Option Job) → port_shapes (job_begun s o).slots ≡ port_shapes s
    by None = refl
    by (Some job) = refl

shapes-length : (xs : List cross.Slots) → length (map port_shape xs) ≡ length xs
shapes-length [] = refl
shapes-length (x ∷ xs) = let h = shapes-length xs in omega (arith, h)

same-length : (xs ys : List cross.Slots) → map port_shape xs ≡ map port_shape ys → length xs ≡ length ys
same-length xs ys e = let a = shapes-length xs in let b = shapes-length ys in let c = ap (λ (ps : List PortShape). length ps) e in omega (arith, a, b, c)

ports-few : (xs : List Entry) (s : Slots) → AreOurs xs → length (run xs s).ports ≤ length s.ports + opens_in xs
ports-few [] s o = omega arith
ports-few (Called c ∷ xs) s o =
    let z : Slots = step s (Called c) in
    let a = same-length z.ports (begin c s).done.slots.ports (called-port_shapes c s) in
    let b = call-ports c s o.0 in
    let h = ports-few xs z o.1 in
    omega (arith, a, b, h)
ports-few (Worked ∷ xs) s o =
    let z : Slots = step s Worked in
    let a = same-length z.ports s.ports (worked-shapes s) in
    let h = ports-few xs z o in
    omega (arith, a, h)
ports-few (Heard ∷ xs) s o = ports-few xs (step s Heard) o

abbrev ports_after : Target → ℕ
ports_after ToSink = 0
ports_after ToPort = 1

source-opens : (o : Origin) → opens_in (Called (source_call o) ∷ []) ≡ ports_before o
source-opens FromChunks = refl
source-opens FromBytes = refl
source-opens FromPort = refl

sink-opens : (t : Target) → opens_in (Called (sink_call t) ∷ []) ≡ ports_after t
sink-opens ToSink = refl
sink-opens ToPort = refl

transforms-open : (n : ℕ) → opens_in (transforms n) ≡ 0
transforms-open zero = refl
transforms-open (suc n) = let h = transforms-open n in omega (arith, h)

pipes-open : (k n : ℕ) → opens_in (pipes_from k n) ≡ 0
pipes-open k zero = refl
pipes-open k (suc n) = let h = pipes-open (suc k) n in omega (arith, h)

signals-open : (b : Bool) → opens_in (signals b) ≡ 0
signals-open false = refl
signals-open true = refl

opening-opens : (o : Origin) (t : Target) (n : ℕ) (b : Bool) → opens_in (opening o t n b) ≡ ports_before o + ports_after t
opening-opens o t n b =
    let a = opens-append (streams o t n) (signals b ++ pipes_from 0 n) in
    let c = opens-append (Called (source_call o) ∷ []) (transforms n ++ Called (sink_call t) ∷ []) in
    let d = opens-append (transforms n) (Called (sink_call t) ∷ []) in
    let e = opens-append (signals b) (pipes_from 0 n) in
    let f = source-opens o in
    let g = sink-opens t in
    let h = transforms-open n in
    let i = pipes-open 0 n in
    let j = signals-open b in
    omega (arith, a, c, d, e, f, g, h, i, j)

there-few : (xs : List cross.Slots) (n : ℕ) (x : cross.Slots) → slice_get xs n ≡ Some x → n < length xs
there-few [] n x e = cc
there-few (y ∷ xs) zero x e = omega arith
there-few (y ∷ xs) (suc n) x e = let h = there-few xs n x e in omega (arith, h)

port-there : (ps : List cross.Slots) (n : ℕ) (y : PortShape) → slice_get (map port_shape ps) n ≡ Some y → (is_some (slice_get ps n) ≡ true) × (port_shape (as_port (slice_get ps n)) ≡ y)
port-there [] n y e = cc
port-there (p ∷ ps) zero y e = (refl, cc)
port-there (p ∷ ps) (suc n) y e = port-there ps n y e

-- a stream that gives chunks has no writes

readable-none : (xs : List Stream) (n : ℕ) (o : Owner) → slice_get (map stream_shape xs) n ≡ Some (ReadableOf o) → clones_first (first_value (as_writable (slice_get xs n)).queue) ≡ true
readable-none [] n o e = cc
readable-none (ReadableStream r ∷ xs) zero o e = refl
readable-none (ByteStream b ∷ xs) zero o e = cc
readable-none (WritableStream w ∷ xs) zero o e = cc
readable-none (x ∷ xs) (suc n) o e = readable-none xs n o e

sink-shape : (xs : List Stream) (n : ℕ) (o : Owner) → is_writable_stream (slice_get xs n) ≡ true → owner_of (slice_get xs n) ≡ o → slice_get (map stream_shape xs) n ≡ Some (WritableOf o)
sink-shape [] n o h e = cc
sink-shape (ReadableStream r ∷ xs) zero o h e = cc
sink-shape (ByteStream b ∷ xs) zero o h e = cc
sink-shape (WritableStream w ∷ xs) zero o h e = ap (λ q. Some (WritableOf q)) e
sink-shape (x ∷ xs) (suc n) o h e = sink-shape xs n o h e

same_self : (n : ℕ) → nat_eq n n ≡ true
same_self n = grind arith

some_shape : (x y : PortShape) → ◌≡◌ {A = Option PortShape} (Some x) (Some y) → x ≡ y
some_shape x y e = cc

nothing-left : (acted ws ts : List Value) → ws ≡ acted ++ ts → acted ≡ ws → ts ≡ []
nothing-left [] ws ts e f = sym (f ∙ e)
nothing-left (x ∷ acted) ws ts e f = let k : x ∷ acted ≡ x ∷ (acted ++ ts) = f ∙ e in nothing-left acted (acted ++ ts) ts refl (tails x acted (acted ++ ts) k)
  where
    tails : (x : Value) (us vs : List Value) → x ∷ us ≡ x ∷ vs → us ≡ vs
    tails x us vs e = cc

module _ (origin : Origin) (target : Target) (n : ℕ) (signalled : Bool) (xs : List Entry) (few : 2 * n + 2 ≤ most_streams) (nodes : AreNodes xs) where
  abbrev all : List Entry
  all = past_of origin target n signalled xs

  abbrev z : Slots
  z = run xs (chained origin target n signalled)

  pub all-is : run all empty ≡ z
  all-is = run-append (opening origin target n signalled) (Called (piping (signal_of signalled) n) ∷ xs) empty

  pub all-events : run_events all empty ≡ run_events xs (chained origin target n signalled)
  all-events = ours-events (opening origin target n signalled) (Called (piping (signal_of signalled) n) ∷ xs) empty (opening-ours origin target n signalled)

  ended : Ended z
  ended = subst (λ (s : Slots). Ended s) all-is (run-ended all)

  -- it has no other ports than those at its ends
  pub ports-at : (m : ℕ) (x : cross.Slots) → slice_get z.ports m ≡ Some x → m < ports_before origin + ports_after target
  ports-at m x at =
      let a = there-few z.ports m x at in
      let b = ports-few all empty (are-append (opening origin target n signalled) (Called (piping (signal_of signalled) n) ∷ xs) (opening-ours origin target n signalled) (tt, nodes-ours xs nodes)) in
      let c = ap (λ (s : Slots). length s.ports) all-is in
      let d = opens-append (opening origin target n signalled) (Called (piping (signal_of signalled) n) ∷ xs) in
      let e = opening-opens origin target n signalled in
      let f = nodes-open xs nodes in
      omega (arith, a, b, c, d, e, f)

pub source-clones : (target : Target) (n : ℕ) (signalled : Bool) (xs : List Entry) → 2 * n + 2 ≤ most_streams → AreNodes xs → let z : Slots = run xs (chained FromPort target n signalled) in
    (x : cross.Slots) → slice_get z.ports 0 ≡ Some x → clones_at x z ≡ true
source-clones target n signalled xs few nodes x at =
    let z : Slots = run xs (chained FromPort target n signalled) in
    let g = each_node_goes FromPort target n signalled xs few nodes in
    let first = link-at FromPort target n z g.chain 0 (omega arith) in
    let shape = shape-here source_port (source_of 0) z first.link.source first.gives in
    let end = (ended FromPort target n signalled xs few nodes).end (source_of 0) source_port ReadableSide shape in
    let here = map-there port_shape z.ports 0 x at in
    let is : port_shape x ≡ record { side = ReadableSide; stream = source_of 0 } = some_shape (port_shape x) _ (sym here ∙ end) in
    let stream : x.stream ≡ source_of 0 = ap (λ (y : PortShape). y.stream) is in
    rw stream (readable-none z.streams 0 (EndOf source_port) shape)

module _ (origin : Origin) (n : ℕ) (signalled : Bool) (xs : List Entry) (few : 2 * n + 2 ≤ most_streams) (nodes : AreNodes xs) (brings : AllBringClones xs) where
  abbrev y : Slots
  y = run xs (chained origin ToPort n signalled)

  abbrev c : PortId
  c = sink_port origin

  abbrev past : List Entry
  past = past_of origin ToPort n signalled xs

  abbrev ms : List Message
  ms = posted_in c (run_events past empty)

  abbrev w : writable.Slots
  w = writable_at (dest_of n) y

  own : owner_at (dest_of n) y ≡ EndOf c
  own = let self = same_self n in takes-at origin ToPort n y (each_node_goes origin ToPort n signalled xs few nodes).chain n (omega arith) ∙ rw self refl

  end : slice_get (port_shapes y) c.0 ≡ Some (record { side = WritableSide; stream = dest_of n })
  end = (ended origin ToPort n signalled xs few nodes).end (dest_of n) c WritableSide (sink-shape y.streams (dest_of n).0 (EndOf c) (link-at origin ToPort n y (each_node_goes origin ToPort n signalled xs few nodes).chain n (omega arith)).link.sink own)

  -- where no close was posted, what lies on the last link is what was brought to it
  unclosed : has_close ms ≡ false → clones_first (first_value w.queue) ≡ true
  unclosed e =
      let goes = each_node_goes origin ToPort n signalled xs few nodes in
      let s0 : Slots = chained origin ToPort n signalled in
      let taken : List Message = posted_in c (taken_events xs s0) in
      let left : List Message = posted_in c y.promises.events in
      let split : ms ≡ taken ++ left = ap (posted_in c) (all-events origin ToPort n signalled xs few nodes ∙ events-split xs s0) ∙ posted-append c (taken_events xs s0) y.promises.events in
      let f : has_close (taken ++ left) ≡ false = subst (λ (qs : List Message). has_close qs ≡ false) split e in
      let heard : heard_from origin ToPort n n xs s0 ≡ row_told taken = each_chain_tells_by_posts origin n xs s0 in
      let self = same_self n in
      let ear : ear_at (dest_of n) y ≡ OfPort c = (link-at origin ToPort n y goes.chain n (omega arith)).hears ∙ rw self refl in
      let waits : unheard (ear_at (dest_of n) y) y.promises.events ≡ row_told left = ap (λ q. unheard q y.promises.events) ear ∙ unheard-told c y.promises.events in
      let all_ = cl-short (then_told (heard_from origin ToPort n n xs s0) (behind_at n y)) (brought_to origin n xs s0) (goes.short n (omega arith)) (brought-cl origin n xs s0 brings) in
      let behind_ = cl-second (heard_from origin ToPort n n xs s0) (behind_at n y) (ap (λ (t : Told Value). t.mark) heard ∙ open-told taken (close-left taken left f)) all_ in
      let lies_ = cl-second (unheard (ear_at (dest_of n) y) y.promises.events) (lies (source_of n) (dest_of n) (link_of n) y) (ap (λ (t : Told Value). t.mark) waits ∙ open-told left (close-right taken left f)) behind_ in
      sink-cl w (link-at origin ToPort n y goes.chain n (omega arith)).link.sink_fits (cl-first (in_sink w) _ lies_)

  -- and where one was, all that was written was posted
  closed : has_close ms ≡ true → clones_first (first_value w.queue) ≡ true
  closed e =
      let s : Slots = run past empty in
      let is : s ≡ y = all-is origin ToPort n signalled xs few nodes in
      let p = port-there y.ports c.0 _ end in
      let there : has_port c s ≡ true = subst (λ (q : Slots). has_port c q ≡ true) (sym is) p.0 in
      let side : (port_at c s).side ≡ WritableSide = subst (λ (q : Slots). (port_at c q).side ≡ WritableSide) (sym is) (ap (λ (q : PortShape). q.side) p.1) in
      let stream : (port_at c s).stream ≡ dest_of n = subst (λ (q : Slots). (port_at c q).stream ≡ dest_of n) (sym is) (ap (λ (q : PortShape). q.stream) p.1) in
      let l = (each_writable_end_is_lawful past c there side).1.1 in
      let k = each_writable_end_posts_close_last past c there side in
      let same : writable_at (port_at c s).stream s ≡ w = ap (λ i. writable_at i s) stream ∙ ap (writable_at (dest_of n)) is in
      let h = run_writes (port_at c s).stream past empty in
      let fits = (link-at origin ToPort n y (each_node_goes origin ToPort n signalled xs few nodes).chain n (omega arith)).link in
      by (has_ended w.state) refl fits.sink_fits (λ f. nothing-left h.acted h.written (todo w.queue) (subst (λ (q : writable.Slots). has_ended q.state ≡ false → h.written ≡ h.acted ++ todo q.queue) same l.lawful.alive f) (l.acted ∙ k.written e))
    where
      by : (b : Bool) → has_ended w.state ≡ b → SinkFits w → (has_ended w.state ≡ false → todo w.queue ≡ []) → clones_first (first_value w.queue) ≡ true
      by true f fits n = ended-first w fits f
      by false f fits n = todo-first w.queue (n f)

  pub sink-clones : (x : cross.Slots) → slice_get y.ports c.0 ≡ Some x → clones_at x y ≡ true
  sink-clones x at =
      let here = map-there port_shape y.ports c.0 x at in
      let is : port_shape x ≡ record { side = WritableSide; stream = dest_of n } = some_shape (port_shape x) _ (sym here ∙ end) in
      let stream : x.stream ≡ dest_of n = ap (λ (q : PortShape). q.stream) is in
      rw stream (by (has_close ms) refl)
    where
      by : (b : Bool) → has_close ms ≡ b → clones_first (first_value w.queue) ≡ true
      by false e = unclosed e
      by true e = closed e
