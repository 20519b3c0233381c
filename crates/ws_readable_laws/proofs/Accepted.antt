-- What enters a readable stream, by the calls that enqueue (`entered_was_accepted`): no other call, no job and no effect causes an enqueue into it.
use Rattle.ws_value.specs.declared.ids.PortId.{PortId}
use Rattle.ws_steps.specs.declared.port.PortOperation.TheVariants as ports
use Rattle.ws_steps.specs.declared.port.Side.{Side}
use Rattle.ws_steps.specs.declared.port.Side.TheVariants.{Readable as ReadableSide}
use Rattle.ws_laws.proofs.Ended.{PortShape, port_shapes, end_shape, Ended, run-ended}
use Rattle.ws_readable_laws.proofs.Quiet as entering
use Rattle.ws_readable_laws.proofs.Quiet.{some-same}
use Rattle.ws_readable_laws.proofs.Ports.{AmongPorts, run-among_ports, called-port_shapes}
use Rattle.std.proofs.Common.{◌≡◌, Bool, true, false, List, [], ◌∷◌, map, Option, Some, None, ℕ, zero, suc, not, ◌&&◌, slice_get, refl, sym, ap, ◌∙◌}
use Rattle.ws_value.specs.declared.ids.StreamId.{StreamId}
use Rattle.ws_value.specs.declared.ids.TeeId.{TeeId}
use Rattle.ws_value.specs.declared.value.Value.{Value}
use Rattle.ws_value.specs.declared.value.Value.TheVariants.{Plain as PlainValue, Bytes}
use Rattle.ws_steps.specs.declared.byte.ByteOperation.TheVariants.{Enqueue as EnqueueBytes}
use Rattle.ws_steps.specs.declared.{calls.Reply.{Reply}, calls.Reply.TheVariants.{Done as ReplyDone}}
use Rattle.ws_steps.specs.declared.{calls.Call.{Call}, calls.Call.TheVariants.{Enqueue as EnqueueCall}, effects.Effect.{Effect}}
use Rattle.ws_steps.specs.declared.effects.Effect.TheVariants.{Readable, Byte, Transform, Port}
use Rattle.ws_steps.specs.declared.{effects.Owner.{Owner}, effects.Owner.TheVariants.{Host, HalfOf, BranchOf, EndOf}, promises.Job.{Job}, readable.ReadableOperation.TheVariants.{Enqueue}}
use Rattle.ws_steps.specs.declared.transform.Kind.TheVariants.{Identity}
use Rattle.ws_steps.specs.declared.transform.TransformId.{TransformId}
use Rattle.ws_steps.specs.declared.transform.TransformOperation.TheVariants as names
use Rattle.ws_steps.specs.Promises.{next_job}
use Rattle.ws_steps.specs.Bytes as byte
use Rattle.ws_steps.specs.Queues.{is_empty}
use Rattle.ws_steps.specs.Readable as readable
use Rattle.ws_steps.specs.Transform as transform
use Rattle.ws_steps.specs.declared.tee.Half.{Half}
use Rattle.ws_steps.specs.declared.tee.Half.TheVariants.{First, Second}
use Rattle.ws_steps.specs.Transform.{Acts}
use Rattle.ws_steps.specs.Slots.{Slots, Stream, ReadableStream, ByteStream, WritableStream, Done, has_byte, byte_at, causes, empty, as_readable, as_transform, has_readable, readable_at, transform_at}
use Rattle.ws_steps.specs.Jobs.{job_effects, job_begun, begin_job}
use Rattle.ws_steps.specs.Begun.{Begun, unsupported}
use Rattle.ws_steps.specs.Calls.{begin}
use Rattle.ws_steps.specs.Begun as replying
use Rattle.ws_steps.specs.ControllerCalls as controller_calls
use Rattle.ws_steps.specs.Run.{Entry, Called, Worked, Heard, step, run}
use Rattle.ws_steps.specs.Histories.{is_same}
use Rattle.ws_steps.specs.ReadableHistory.{step_flow, run_flow, accepted_by, accepted_in_step, accepted}
use Rattle.ws_steps.specs.Laws.{enqueued_by_host, EnteredWasAccepted}
use Rattle.ws_laws.proofs.Tables.{either, same_id, readable_there}
use Rattle.ws_laws.proofs.Lists.{Each, each-map}
use Rattle.ws_laws.proofs.Begin.{IsFirst, Enqueues, Never, begin-first, job-first}
use Rattle.ws_laws.proofs.Shapes.{ReadableOf, TransformShape, stream_shape, stream_shapes, transform_shape, transform_shapes, map-there, tee_shapes}
use Rattle.ws_laws.proofs.StaysBytes.{no-byte-before}
use Rattle.ws_laws.proofs.Halves.{Among, Halved, step-among, step-shapes, step-halved, run-halved, run-among, halved-empty, AmongTees, step-among_tees, step-tee_shapes, run-among_tees}

module _ (i : StreamId) where
  abbrev Quiet : Effect → Type 0
  Quiet e = entering.Quiet i true e

  abbrev All : List Effect → Type 0
  All es = Each Quiet es

  abbrev Apart : Slots → Type 0
  Apart s = entering.Apart i true s

  abbrev enters : Done → List Value
  enters d = entering.enters i true d

  -- calls and jobs

  first_quiet : (E : StreamId → Value → Type 0) → ((j : StreamId) (v : Value) → E j v → ⊥) → (e : Effect) → IsFirst E e → Quiet e
  first_quiet E none (Readable j (Enqueue v)) f = absurd (none j v f)
  first_quiet E none (Transform t (names.Enqueue v)) f = absurd (none f.0 v f.1)
  first_quiet E none (Port c (ports.Deliver m)) f = refl
  first_quiet E none _ f = tt

  by-owner : (j : StreamId) (v : Value) (s : Slots) (owner : Owner) → has_readable j s ≡ true → (readable_at j s).owner ≡ owner → Halved s → Apart s
      → enters (controller_calls.enqueue_by v j s owner).done ≡ accepted_by i (EnqueueCall j v) (controller_calls.enqueue_by v j s owner).reply
  by-owner j v s Host there is halved apart =
      either (λ (b : Begun). enters b.done ≡ accepted_by i (EnqueueCall j v) b.reply) (readable.can_close_or_enqueue (readable_at j s))
      (replying.does (Readable j (Enqueue v) ∷ []) s) (replying.throws_type_error s) (λ can. entering.enqueued i true j v s [] tt apart can) (λ cannot. entering.none-of i true s)
  by-owner j v s (HalfOf t) there is halved apart =
      let at : slice_get (stream_shapes s) j.0 ≡ Some (ReadableOf (HalfOf t)) =
      map-there stream_shape s.streams j.0 (ReadableStream (readable_at j s)) (readable_there (slice_get s.streams j.0) there) ∙ ap (λ o. Some (ReadableOf o)) is in
      let half = halved.readable j t at in
      either (λ (b : Begun). enters b.done ≡ accepted_by i (EnqueueCall j v) b.reply) (readable.can_close_or_enqueue (readable_at j s))
      (replying.does (Transform t (names.Enqueue v) ∷ []) s) (replying.throws_type_error s)
      (λ can. entering.enqueued-half i true t j v s (slice_get s.transforms t.0) refl half.0 half.1.0 half.1.1 apart can) (λ cannot. entering.none-of i true s)
  by-owner j v s (BranchOf t half) there is halved apart = entering.none-of i true s
  by-owner j v s (EndOf c) there is halved apart = entering.none-of i true s

  -- what is entering.enqueued i true into a stream with a byte controller enters another stream than i
  bytes-quiet : (j : StreamId) (b : List ℕ) (s : Slots) → Apart s → enters (causes (Byte j (EnqueueBytes b) ∷ []) s) ≡ []
  bytes-quiet j b s apart = entering.none_enters i true (causes (Byte j (EnqueueBytes b) ∷ []) s) (tt, tt) apart

  other-accepted : (j : StreamId) (v : Value) (reply : Reply) (same : Bool) → same ≡ is_same i j → same ≡ false → accepted_by i (EnqueueCall j v) reply ≡ []
  other-accepted j v reply true e n = cc
  other-accepted j v ReplyDone false e n = rw (← e) refl
  other-accepted j v _ false e n = refl

  is-other : (j : StreamId) (s : Slots) (same : Bool) → same ≡ is_same i j → has_byte j s ≡ true → has_byte i s ≡ false → same ≡ false
  is-other j s true e is kind = let at : i ≡ j = same_id i j (sym e) in let wrong : has_byte j s ≡ false = rw (← at) kind in cc
  is-other j s false e is kind = refl

  bytes-enter : (j : StreamId) (v : Value) (s : Slots) → Apart s → enters (controller_calls.enqueue_bytes j s v).done ≡ []
  bytes-enter j (PlainValue v) s apart = entering.none-of i true s
  bytes-enter j (Bytes b) s apart =
      either (λ (c : Begun). enters c.done ≡ []) (not (is_empty b) && byte.can_take (byte_at j s)) (replying.does (Byte j (EnqueueBytes b) ∷ []) s) (replying.throws_type_error s)
      (λ can. bytes-quiet j b s apart) (λ cannot. entering.none-of i true s)

  bytes-accepted : (j : StreamId) (v : Value) (s : Slots) → has_byte j s ≡ true → has_byte i s ≡ false → Apart s
      → enters (controller_calls.enqueue_bytes j s v).done ≡ accepted_by i (EnqueueCall j v) (controller_calls.enqueue_bytes j s v).reply
  bytes-accepted j v s is kind apart =
      let none = other-accepted j v (controller_calls.enqueue_bytes j s v).reply (is_same i j) refl (is-other j s (is_same i j) refl is kind) in
      rw none (bytes-enter j v s apart)

  call_accepted : (c : Call) (s : Slots) → has_byte i s ≡ false → Halved s → Apart s → Apart (begin c s).done.slots → enters (begin c s).done ≡ accepted_by i c (begin c s).reply
  unfolding begin
  call_accepted (EnqueueCall j v) s kind halved apart later =
      either (λ (b : Begun). enters b.done ≡ accepted_by i (EnqueueCall j v) b.reply) (has_byte j s) (controller_calls.enqueue_bytes j s v) (replying.for_readable j (controller_calls.enqueue v j) s)
      (λ is. bytes-accepted j v s is kind apart)
      (λ isnt. either (λ (b : Begun). enters b.done ≡ accepted_by i (EnqueueCall j v) b.reply) (has_readable j s) (controller_calls.enqueue v j s) (unsupported s)
      (λ there. by-owner j v s (readable_at j s).owner there refl halved apart) (λ absent. entering.none-of i true s))
  call_accepted c s kind halved apart later =
      entering.none_enters i true (begin c s).done (each-map (IsFirst (Enqueues c)) Quiet (first_quiet (Enqueues c) (λ j v e. cc)) (begin c s).done.caused (begin-first c s)) later

  job_quiet : (s : Slots) (job : Option Job) → All (job_begun s job).caused
  job_quiet s None = tt
  job_quiet s (Some job) = each-map (IsFirst Never) Quiet (first_quiet Never (λ j v n. n)) (job_effects job) (job-first job)

  job_apart : (s : Slots) (job : Option Job) → Apart s → Apart (job_begun s job).slots
  job_apart s None apart = apart
  job_apart s (Some job) apart = apart

  earlier : (s z : Slots) → Among (transform_shapes s) (transform_shapes z) → AmongTees (tee_shapes s) (tee_shapes z) → AmongPorts (port_shapes s) (port_shapes z) → Apart z → Apart s
  earlier s z among tees ports apart = record {
    halves = λ t x h k. apart.halves t x (among t x h) k;
    branches = λ t x h. apart.branches t x (tees t x h);
    ends = λ yes c x h side. apart.ends yes c x (ports c x h) side;
  }

  entry_accepted : (x : Entry) (s : Slots) → has_byte i s ≡ false → Halved s → Apart (step s x) → (step_flow i s x).entered ≡ accepted_in_step i s x
  unfolding begin_job
  entry_accepted (Called c) s kind halved apart =
      call_accepted c s kind halved (earlier s (step s (Called c)) (step-among (Called c) s) (step-among_tees (Called c) s) (run-among_ports (Called c ∷ []) s) apart)
      (rw (step-shapes (Called c) s, step-tee_shapes (Called c) s, called-port_shapes c s) at apart)
  entry_accepted Worked s kind halved apart =
      entering.none_enters i true (begin_job s) (job_quiet s (next_job s.promises)) (job_apart s (next_job s.promises) (earlier s (step s Worked) (step-among Worked s) (step-among_tees Worked s) (run-among_ports (Worked ∷ []) s) apart))
  entry_accepted Heard s kind halved apart = entering.none-of i true s

  run_accepted : (xs : List Entry) (s : Slots) → has_byte i (run xs s) ≡ false → Halved s → Apart (run xs s) → (run_flow i xs s).entered ≡ accepted i xs s
  run_accepted [] s kind halved apart = refl
  run_accepted (x ∷ xs) s kind halved apart =
      let a = entry_accepted x s (no-byte-before i (x ∷ xs) s kind) halved (earlier (step s x) (run xs (step s x)) (run-among xs (step s x)) (run-among_tees xs (step s x)) (run-among_ports xs (step s x)) apart) in
      let b = run_accepted xs (step s x) kind (step-halved x s halved) apart in rw (a, b) refl

  -- where none but the host enqueues into a stream, it is no half of an identity transform, no branch of a tee, and not at the end of a port

  owner-there : (xs : List Stream) (n : ℕ) (o : Owner) → slice_get (map stream_shape xs) n ≡ Some (ReadableOf o) → (as_readable (slice_get xs n)).owner ≡ o
  owner-there [] n o is = cc
  owner-there (ReadableStream r ∷ xs) zero o is = cc
  owner-there (ByteStream b ∷ xs) zero o is = cc
  owner-there (WritableStream w ∷ xs) zero o is = cc
  owner-there (x ∷ xs) (suc n) o is = owner-there xs n o is

  kind-there : (ts : List transform.Slots) (n : ℕ) (x : TransformShape) → slice_get (map transform_shape ts) n ≡ Some x → (as_transform (slice_get ts n)).kind ≡ x.kind
  kind-there [] n x is = cc
  kind-there (t ∷ ts) zero x is = ap (λ (z : TransformShape). z.kind) (some-same is)
  kind-there (t ∷ ts) (suc n) x is = kind-there ts n x is

  no-half : (s : Slots) (t : TransformId) (x : TransformShape) → Halved s → enqueued_by_host s (readable_at i s).owner ≡ true
      → slice_get (transform_shapes s) t.0 ≡ Some x → x.kind ≡ Identity → (same : Bool) → same ≡ is_same i x.readable → same ≡ false
  no-half s t x halved host is kind false e = refl
  no-half s t x halved host is kind true e =
      let at : i ≡ x.readable = same_id i x.readable (sym e) in
      let owner : (readable_at i s).owner ≡ HalfOf t = owner-there s.streams i.0 (HalfOf t) (rw at (halved.halves t x is).0) in
      let kinds : (transform_at t s).kind ≡ Identity = kind-there s.transforms t.0 x is ∙ kind in
      let wrong : false ≡ true = rw (owner, kinds) at host in cc

  no-owner : (s : Slots) (t : TeeId) (half : Half) (j : StreamId) → enqueued_by_host s (readable_at i s).owner ≡ true → slice_get (stream_shapes s) j.0 ≡ Some (ReadableOf (BranchOf t half))
      → (same : Bool) → same ≡ is_same i j → same ≡ false
  no-owner s t half j host is false e = refl
  no-owner s t half j host is true e =
      let at : i ≡ j = same_id i j (sym e) in
      let owner : (readable_at i s).owner ≡ BranchOf t half = owner-there s.streams i.0 (BranchOf t half) (rw at is) in
      let wrong : false ≡ true = rw owner at host in cc

  no-end : (s : Slots) (c : PortId) (x : PortShape) → Ended s → enqueued_by_host s (readable_at i s).owner ≡ true → slice_get (port_shapes s) c.0 ≡ Some x → x.side ≡ ReadableSide
      → (same : Bool) → same ≡ is_same i x.stream → same ≡ false
  no-end s c x ended host is side false e = refl
  no-end s c x ended host is side true e =
      let at : i ≡ x.stream = same_id i x.stream (sym e) in
      let shape : slice_get (stream_shapes s) x.stream.0 ≡ Some (ReadableOf (EndOf c)) = ended.ends c x is ∙ ap (λ (y : Side). Some (end_shape c y)) side in
      let owner : (readable_at i s).owner ≡ EndOf c = owner-there s.streams i.0 (EndOf c) (rw at shape) in
      let wrong : false ≡ true = rw owner at host in cc

  pub host-apart : (s : Slots) → Halved s → Ended s → enqueued_by_host s (readable_at i s).owner ≡ true → Apart s
  host-apart s halved ended host = record {
    halves = λ t x is kind. no-half s t x halved host is kind (is_same i x.readable) refl;
    branches = λ t x is. let b = halved.branches t x is in
        (no-owner s t First x.branch1 host b.0 (is_same i x.branch1) refl, no-owner s t Second x.branch2 host b.1 (is_same i x.branch2) refl);
    ends = λ yes c x is side. no-end s c x ended host is side (is_same i x.stream) refl;
  }

pub entered_was_accepted : EnteredWasAccepted
entered_was_accepted entries i = λ kind host. run_accepted i entries empty kind halved-empty (host-apart i (run entries empty) (run-halved entries empty halved-empty) (run-ended entries) host)
