-- What calls begin with keeps that nothing bad stands anywhere, where the reasons that they give aren't bad.
use Rattle.std.proofs.Common.{◌≡◌, ℕ, suc, ◌+◌, ◌*◌, ◌≤◌, ◌<◌, Bool, true, false, nat_eq, nat_lt, ◌&&◌, if◌then◌else◌, List, [], ◌∷◌, ◌++◌, length, Option, Some, None, Result, Ok, Err, slice_get, refl, ap, subst, ◌∙◌, arith}
use Rattle.ws_value.specs.declared.value.Plain.TheVariants.{Fault as FaultReason}
use Rattle.ws_value.specs.declared.ids.PipeId.{PipeId}
use Rattle.ws_value.specs.declared.ids.PromiseId.{PromiseId}
use Rattle.ws_value.specs.declared.ids.SignalId.{SignalId}
use Rattle.ws_value.specs.declared.ids.StreamId.{StreamId}
use Rattle.ws_value.specs.declared.ids.TeeId.{TeeId}
use Rattle.ws_value.specs.declared.value.Message.{Message}
use Rattle.ws_value.specs.declared.value.Message.TheVariants.{Pull as PullMessage, Chunk as ChunkMessage, Close as CloseMessage, Error as ErrorMessage}
use Rattle.ws_value.specs.declared.value.Plain.{Plain}
use Rattle.ws_steps.specs.declared.calls.Call.{Call}
use Rattle.ws_steps.specs.declared.calls.Reply.{Reply}
use Rattle.ws_steps.specs.declared.calls.Reply.TheVariants as reply
use Rattle.ws_steps.specs.declared.effects.Effect.{Effect}
use Rattle.ws_steps.specs.declared.calls.StartBy.{StartBy}
use Rattle.ws_steps.specs.declared.effects.Effect.TheVariants.{Readable, Writable, Signal, Transform, Port, Settle}
use Rattle.ws_steps.specs.declared.effects.Owner.TheVariants.{Host, HalfOf, BranchOf}
use Rattle.ws_steps.specs.declared.port.PortOperation.TheVariants.{Deliver}
use Rattle.ws_steps.specs.declared.port.Side.{Side}
use Rattle.ws_steps.specs.declared.port.Side.TheVariants.{Readable as ReadableSide, Writable as WritableSide}
use Rattle.ws_steps.specs.declared.locks.Lock.{Lock}
use Rattle.ws_steps.specs.declared.pipes.Prevent.{Prevent}
use Rattle.ws_steps.specs.declared.pipes.SignalOperation.TheVariants.{Trigger}
use Rattle.ws_steps.specs.declared.readable.ReadableOperation.TheVariants.{Error, ReleaseReader, Read, Cancel}
use Rattle.ws_steps.specs.declared.readable.ReadRequest.TheVariants.{Promise as PromiseRequest}
use Rattle.ws_steps.specs.declared.readable.SizeBy.TheVariants.{Count}
use Rattle.ws_steps.specs.declared.tee.Half.TheVariants.{First, Second}
use Rattle.ws_steps.specs.declared.transform.Kind.{Kind}
use Rattle.ws_steps.specs.declared.transform.TransformId.{TransformId}
use Rattle.ws_steps.specs.declared.transform.TransformOperation.TheVariants.{Error as ErrorTransform, Terminate}
use Rattle.ws_steps.specs.declared.writable.WritableOperation.TheVariants.{Abort, ErrorIfNeeded, ReleaseWriter, Write, Close}
use Rattle.ws_steps.specs.Begun.{Begun, promising}
use Rattle.ws_steps.specs.LockCalls.{with_renewed, reject_renewed}
use Rattle.ws_steps.specs.PipeCalls.{pipe_begins, adding}
use Rattle.ws_steps.specs.Calls.{begin}
use Rattle.ws_steps.specs.MakingCalls as making_calls
use Rattle.ws_steps.specs.PipeCalls as pipe_calls
use Rattle.ws_steps.specs.Effects.{type_error}
use Rattle.ws_steps.specs.Pipes as pipe
use Rattle.ws_steps.specs.Promises.{Table, fresh, is_pending_at}
use Rattle.ws_steps.specs.Readable as readable
use Rattle.ws_steps.specs.Readable.{is_readable}
use Rattle.ws_steps.specs.Slots.{Slots, Stream, ReadableStream, WritableStream, with_promises, as_signal, is_teed}
use Rattle.ws_steps.specs.Tee as tee
use Rattle.ws_steps.specs.Cross as cross
use Rattle.ws_steps.specs.Transform as transform
use Rattle.ws_steps.specs.Writable as writable
use Rattle.ws_laws.proofs.EachCall.{each_call}
use Rattle.ws_reason_laws.proofs.InTable.{fresh-keeps, fresh-count}
use Rattle.ws_reason_laws.proofs.Known.{Badness, class, teed_at, teed-at, Known, known-new, known-turn, known-next, known-same}
use Rattle.ws_reason_laws.proofs.Readables.{effects-append}
use Rattle.ws_reason_laws.proofs.Rows.{in_signal, signal-there}
use Rattle.ws_reason_laws.proofs.Teed.{teed-more, teed-last}
use Rattle.ws_reason_laws.proofs.Weights.{in_reader, in_tee, in_tees, in_port, in_ports, of_message, Class, of_reason, soft, settles, in_effects, in_stream, in_streams, in_pipe, in_pipes, in_signals, of_kind, in_transform, in_transforms, in_slots, in_table, loud, AllGood, count}
use Rattle.ws_steps.specs.Slots.{ByteStream}
use Rattle.ws_steps.specs.Bytes as byte
use Rattle.ws_steps.specs.Slots.{source_at}
use Rattle.ws_steps.specs.declared.effects.Effect.TheVariants.{Byte}
use Rattle.ws_steps.specs.declared.byte.ByteOperation.TheVariants.{PullInto}

-- what calls give: the reasons in their first effects

-- the reason of a cancel of stream i, which becomes an error where that is a half of a transform stream
abbrev pub bad_cancel : Badness → StreamId → Plain → ℕ
bad_cancel bad i r = if bad.half i.0 then bad.of r else 0

-- that of an error that comes over a port
abbrev pub bad_message : Badness → Message → ℕ
bad_message bad (ErrorMessage r) = bad.of r
bad_message bad _ = 0

abbrev pub bad_first : Badness → Effect → ℕ
bad_first bad (Readable i (Error r)) = bad.of r
bad_first bad (Readable i (Cancel r p)) = bad_cancel bad i r
bad_first bad (Writable i (Abort r p)) = bad.of r
bad_first bad (Writable i (ErrorIfNeeded r)) = bad.of r
bad_first bad (Signal a (Trigger r)) = bad.of r
bad_first bad (Transform t (ErrorTransform r)) = bad.of r
bad_first bad (Transform t Terminate) = bad.of type_error
bad_first bad (Port c (Deliver m)) = bad_message bad m
bad_first bad _ = 0

abbrev pub bad_all : Badness → List Effect → ℕ
bad_all bad [] = 0
bad_all bad (e ∷ es) = bad_first bad e + bad_all bad es

-- the answer of a host's algorithm
abbrev pub bad_answer : Badness → Result Plain Plain → ℕ
bad_answer bad (Ok v) = 0
bad_answer bad (Err r) = bad.of r

abbrev pub bad_settling : Badness → List Effect → ℕ
bad_settling bad [] = 0
bad_settling bad (Settle p o ∷ []) = bad_answer bad o
bad_settling bad (e ∷ es) = 0

abbrev pub bad_done : Badness → Reply → List Effect → ℕ
bad_done bad reply.Done es = bad_settling bad es
bad_done bad _ es = 0

abbrev pub bad_begun : Badness → Begun → ℕ
bad_begun bad b = bad_all bad b.done.caused + bad_done bad b.reply b.done.caused

-- of the transform streams
abbrev pub of_kinds : (Plain → ℕ) → List transform.Slots → ℕ
of_kinds bad [] = 0
of_kinds bad (x ∷ xs) = of_kind bad x.kind + of_kinds bad xs

pub kinds-append : (bad : Plain → ℕ) (xs : List transform.Slots) (y : transform.Slots) → of_kinds bad (xs ++ y ∷ []) ≡ of_kinds bad xs + of_kind bad y.kind
kinds-append bad [] y = omega arith
kinds-append bad (x ∷ xs) y = let h = kinds-append bad xs y in omega (arith, h)

kinds-in : (k : Class) (xs : List transform.Slots) → in_transforms k xs ≡ 0 → of_kinds k.bad xs ≡ 0
kinds-in k [] h = refl
kinds-in k (x ∷ xs) h = let g = kinds-in k xs (omega (arith, h)) in omega (arith, h, g)

pub kinds-known : (bad : Badness) (me : PipeId) (own : Option ℕ) (s : Slots) → Known bad me own s [] → of_kinds bad.of s.transforms ≡ 0
kinds-known bad me own s k = let g = k.good k.hands (teed_at s) (λ i h. refl) (teed-at s) in kinds-in (class bad me k.hands (teed_at s)) s.transforms (omega (arith, g))

-- tables get one more

streams-append : (k : Class) (n : ℕ) (xs : List Stream) (y : Stream) (at : ℕ) → at ≡ n + length xs → in_streams k n xs ≡ 0 → in_stream k at y ≡ 0 → in_streams k n (xs ++ y ∷ []) ≡ 0
streams-append k n [] y at e h g =
    let same : at ≡ n = omega (arith, e) in let f : in_stream k n y ≡ 0 = subst (λ (m : ℕ). in_stream k m y ≡ 0) same g in omega (arith, f)
streams-append k n (x ∷ xs) y at e h g = let f = streams-append k (suc n) xs y at (omega (arith, e)) (omega (arith, h)) g in omega (arith, h, f)

tees-append : (k : Class) (xs : List tee.Slots) (y : tee.Slots) → in_tees k (xs ++ y ∷ []) ≡ in_tees k xs + in_tee k y
tees-append k [] y = omega arith
tees-append k (x ∷ xs) y = let h = tees-append k xs y in omega (arith, h)

pipes-append : (k : Class) (n : ℕ) (xs : List pipe.Slots) (y : pipe.Slots) (at : ℕ) → at ≡ n + length xs → in_pipes k n xs ≡ 0 → in_pipe k at y ≡ 0 → in_pipes k n (xs ++ y ∷ []) ≡ 0
pipes-append k n [] y at e h g =
    let same : at ≡ n = omega (arith, e) in let f : in_pipe k n y ≡ 0 = subst (λ (m : ℕ). in_pipe k m y ≡ 0) same g in omega (arith, f)
pipes-append k n (x ∷ xs) y at e h g = let f = pipes-append k (suc n) xs y at (omega (arith, e)) (omega (arith, h)) g in omega (arith, h, f)

transforms-append : (k : Class) (xs : List transform.Slots) (y : transform.Slots) → in_transforms k (xs ++ y ∷ []) ≡ in_transforms k xs + in_transform k y
transforms-append k [] y = omega arith
transforms-append k (x ∷ xs) y = let h = transforms-append k xs y in omega (arith, h)

ports-append : (k : Class) (xs : List cross.Slots) (y : cross.Slots) → in_ports k (xs ++ y ∷ []) ≡ in_ports k xs + in_port k y
ports-append k [] y = omega arith
ports-append k (x ∷ xs) y = let h = ports-append k xs y in omega (arith, h)

signals-append : (k : Class) (xs : List pipe.Signal) → in_signals k (xs ++ pipe.new_signal ∷ []) ≡ in_signals k xs
signals-append k [] = refl
signals-append k (x ∷ xs) = let h = signals-append k xs in omega (arith, h)

module _ (bad : Badness) (me : PipeId) (own : Option ℕ) (s : Slots) (known : Known bad me own s []) where
  abbrev Begins : Begun → Type 0
  Begins b = bad_begun bad b ≡ 0 → of_kinds bad.of b.done.slots.transforms ≡ 0 → Known bad me own b.done.slots b.done.caused

  -- a soft one and a loud one
  soft_one : (f tees : ℕ → Bool) (n : ℕ) → f n ≡ false → soft (class bad me f tees) n ≡ 0
  soft_one f tees n e = grind (arith, e)

  reader_one : (f tees : ℕ → Bool) (i n : ℕ) → f n ≡ false → in_reader (class bad me f tees) i (Some (record { 0 = n })) ≡ 0
  reader_one f tees i n e = grind (arith, e)

  settles_one : (f tees : ℕ → Bool) (n : ℕ) (r : Plain) → f n ≡ false → settles (class bad me f tees) n (Err r) ≡ 0
  settles_one f tees n r e = grind (arith, e)

  -- a call that answers a new promise
  promising-known : (effects : PromiseId → List Effect) (b : Bool)
      → ((f tees : ℕ → Bool) (p : PromiseId) → f p.0 ≡ b → in_effects (class bad me f tees) (effects p) ≡ 0) → Known bad me own (promising effects s).done.slots (promising effects s).done.caused
  promising-known effects b good =
      let c = fresh-count s.promises in
      known-next bad me own s _ [] _ (λ i. b) known refl (omega (arith, c))
      (λ f tees news g.
      let one : f (count s.promises) ≡ b = news (count s.promises) (omega arith) (omega (arith, c)) in
      let e = good f tees (record { 0 = count s.promises }) one in
      let t = fresh-keeps (class bad me f tees) s.promises (omega (arith, g)) in
      omega (arith, g, e, t))

  -- a call that makes no promise
  plain-known : (z : Slots) (cs : List Effect) → z.tees ≡ s.tees → z.promises ≡ s.promises → ((f tees : ℕ → Bool) → in_slots (class bad me f tees) s ≡ 0 → AllGood (class bad me f tees) z cs) → Known bad me own z cs
  plain-known z cs same e good = known-same bad me own s z [] cs known same (ap count e) (λ f tees g. good f tees (omega (arith, g)))

  -- releases

  renewed-count : (t : Table) (kept : Bool) → count t ≤ count (with_renewed t kept)
  renewed-count t true = omega arith
  renewed-count t false = let c = fresh-count t in omega (arith, c)

  renewed-keeps : (k : Class) (t : Table) (kept : Bool) → in_table k t ≡ 0 → in_table k (with_renewed t kept) ≡ 0
  renewed-keeps k t true h = h
  renewed-keeps k t false h = fresh-keeps k t h

  renewed-good : (f tees : ℕ → Bool) (t : Table) (kept : Bool) (m : ℕ) → ((i : ℕ) → count t ≤ i → i < m → f i ≡ false) → count (with_renewed t kept) ≤ m → in_effects (class bad me f tees) (reject_renewed t kept) ≡ 0
  renewed-good f tees t true m news q = refl
  renewed-good f tees t false m news q =
      let c = fresh-count t in
      let one : f (count t) ≡ false = news (count t) (omega arith) (omega (arith, c, q)) in
      let z = settles_one f tees (count t) type_error one in omega (arith, z)

  release_reader-known : (i : StreamId) (locks : List Lock) (kept : Bool)
      → Known bad me own (record (with_promises (with_renewed s.promises kept) s) { locks = locks }) (reject_renewed s.promises kept ++ Readable i ReleaseReader ∷ [])
  release_reader-known i locks kept =
      known-next bad me own s _ [] _ (λ i. false) known refl (renewed-count s.promises kept)
      (λ f tees news g.
      let a = renewed-good f tees s.promises kept (count (with_renewed s.promises kept)) news (omega arith) in
      let b = renewed-keeps (class bad me f tees) s.promises kept (omega (arith, g)) in
      let c = effects-append (class bad me f tees) (reject_renewed s.promises kept) (Readable i ReleaseReader ∷ []) in
      omega (arith, g, a, b, c))

  release_writer-known : (i : StreamId) (locks : List Lock) (ready closed : Bool) → let t : Table = with_renewed s.promises ready in
      Known bad me own (record (with_promises (with_renewed t closed) s) { locks = locks }) (reject_renewed s.promises ready ++ (reject_renewed t closed ++ Writable i ReleaseWriter ∷ []))
  release_writer-known i locks ready closed =
      let t : Table = with_renewed s.promises ready in
      let m = renewed-count s.promises ready in
      let n = renewed-count t closed in
      known-next bad me own s _ [] _ (λ i. false) known refl (omega (arith, m, n))
      (λ f tees news g.
      let k : Class = class bad me f tees in
      let a = renewed-good f tees s.promises ready (count (with_renewed t closed)) news (omega (arith, n)) in
      let b = renewed-good f tees t closed (count (with_renewed t closed)) (λ i l h. news i (omega (arith, l, m)) h) (omega arith) in
      let c = renewed-keeps k t closed (renewed-keeps k s.promises ready (omega (arith, g))) in
      let d = effects-append k (reject_renewed s.promises ready) (reject_renewed t closed ++ Writable i ReleaseWriter ∷ []) in
      let e = effects-append k (reject_renewed t closed) (Writable i ReleaseWriter ∷ []) in
      omega (arith, g, a, b, c, d, e))

  -- a pipe

  adds : (k : Class) (p : PipeId) (signal : Option SignalId) → in_effects k (adding p signal) ≡ 0
  adds k p None = refl
  adds k p (Some a) = refl

  begins-good : (k : Class) (p : PipeId) (x y : PromiseId) (signal : Option SignalId) (reason : Option Plain) → of_reason k reason ≡ 0 → in_effects k (pipe_begins p x y signal reason) ≡ 0
  begins-good k p x y signal (Some r) h = omega (arith, h)
  begins-good k p x y signal None h = let a = adds k p signal in grind (arith, a, effects-append)

  triggered : (k : Class) (signal : Option SignalId) → in_slots k s ≡ 0 → of_reason k (pipe_calls.reason_of signal s) ≡ 0
  triggered k None h = refl
  triggered k (Some a) h = by (slice_get s.signals a.0) (signal-there k s.signals a.0 (omega (arith, h)))
    where
      by : (o : Option pipe.Signal) → in_signal k o ≡ 0 → of_reason k (as_signal o).reason ≡ 0
      by None g = refl
      by (Some x) g = g

  -- of the four promises of a pipe only its own may hand on, where it is the pipe that is looked at
  abbrev of_pipe : ℕ → Bool
  of_pipe i = nat_eq (length s.pipes) me.0 && nat_eq i (count s.promises + 3)

  pipe_own : (f tees : ℕ → Bool) (b : Bool) (n : ℕ) → f n ≡ (b && true) → (if b then 0 else soft (class bad me f tees) n) ≡ 0
  pipe_own f tees true n e = refl
  pipe_own f tees false n e = soft_one f tees n e

  abbrev piped : StreamId → StreamId → Prevent → Option SignalId → Begun
  piped source dest prevent signal = pipe_calls.pipe_to source dest prevent signal s

  pipe-count : (source dest : StreamId) (prevent : Prevent) (signal : Option SignalId) → count (piped source dest prevent signal).done.slots.promises ≡ count s.promises + 4
  pipe-count source dest prevent signal =
      let t : Table = s.promises in
      let c0 = fresh-count t in
      let c1 = fresh-count (fresh t) in
      let c2 = fresh-count (fresh (fresh t)) in
      let c3 = fresh-count (fresh (fresh (fresh t))) in
      omega (arith, c0, c1, c2, c3)

  pipe-good : (source dest : StreamId) (prevent : Prevent) (signal : Option SignalId) (f tees : ℕ → Bool)
      → ((i : ℕ) → count s.promises ≤ i → i < count (piped source dest prevent signal).done.slots.promises → f i ≡ of_pipe i) → in_slots (class bad me f tees) s + 0 ≡ 0
      → AllGood (class bad me f tees) (piped source dest prevent signal).done.slots (piped source dest prevent signal).done.caused
  pipe-good source dest prevent signal f tees news g =
      let t : Table = s.promises in
      let c0 = fresh-count t in
      let c1 = fresh-count (fresh t) in
      let c2 = fresh-count (fresh (fresh t)) in
      let c3 = fresh-count (fresh (fresh (fresh t))) in
      let k : Class = class bad me f tees in
      let s0 = reader_one f tees source.0 (count t) (news (count t) (omega arith) (omega (arith, c0, c1, c2, c3)) ∙ not_own (count t) (omega arith)) in
      let s1 = soft_one f tees (count (fresh t)) (news (count (fresh t)) (omega (arith, c0)) (omega (arith, c1, c2, c3)) ∙ not_own (count (fresh t)) (omega (arith, c0))) in
      let s2 = soft_one f tees (count (fresh (fresh t))) (news (count (fresh (fresh t))) (omega (arith, c0, c1)) (omega (arith, c2, c3)) ∙ not_own (count (fresh (fresh t))) (omega (arith, c0, c1))) in
      let o = pipe_own f tees (nat_eq (length s.pipes) me.0) (count (fresh (fresh (fresh t)))) (news (count (fresh (fresh (fresh t)))) (omega (arith, c0, c1, c2)) (omega (arith, c3)) ∙ own_one (count (fresh (fresh (fresh t)))) (omega (arith, c0, c1, c2))) in
      let x : pipe.Slots = pipe.set_up source dest prevent signal (record { 0 = count (fresh (fresh (fresh t))) }) in
      let p = pipes-append k 0 s.pipes x (length s.pipes) (omega arith) (omega (arith, g)) (omega (arith, o)) in
      let e = begins-good k (record { 0 = length s.pipes }) (record { 0 = count t }) (record { 0 = count (fresh (fresh t)) }) signal (pipe_calls.reason_of signal s) (triggered k signal (omega (arith, g))) in
      let r = fresh-keeps k (fresh (fresh (fresh t))) (fresh-keeps k (fresh (fresh t)) (fresh-keeps k (fresh t) (fresh-keeps k t (omega (arith, g))))) in
      omega (arith, g, s0, s1, s2, p, e, r)
    where
      not_own : (i : ℕ) → i < count s.promises + 3 → of_pipe i ≡ false
      not_own i h = grind (arith, h)

      own_one : (i : ℕ) → i ≡ count s.promises + 3 → of_pipe i ≡ (nat_eq (length s.pipes) me.0 && true)
      own_one i h = grind (arith, h)

  pipe-known : (source dest : StreamId) (prevent : Prevent) (signal : Option SignalId)
      → Known bad me own (piped source dest prevent signal).done.slots (piped source dest prevent signal).done.caused
  pipe-known source dest prevent signal =
      let c = pipe-count source dest prevent signal in
      known-next bad me own s _ [] _ of_pipe known refl (omega (arith, c)) (pipe-good source dest prevent signal)

  -- the pipe that is looked at: its promise hands on
  pub own-known : (source dest : StreamId) (prevent : Prevent) (signal : Option SignalId) (q : ℕ) → me.0 ≡ length s.pipes → q ≡ count s.promises + 3
      → Known bad me (Some q) (piped source dest prevent signal).done.slots (piped source dest prevent signal).done.caused
  own-known source dest prevent signal q m e =
      let c = pipe-count source dest prevent signal in
      known-new bad me own (Some q) s (piped source dest prevent signal).done.slots [] (piped source dest prevent signal).done.caused of_pipe known
      (omega (arith, c, e), new_one (known.hands q) q e) (λ i n. n) (omega (arith, c)) (λ f tees reads new good exact. pipe-good source dest prevent signal f tees new good)
    where
      new_one : (b : Bool) (i : ℕ) → i ≡ count s.promises + 3 → (if nat_lt i (count s.promises) then b else of_pipe i) ≡ true
      new_one b i h = grind (arith, h, m)

  -- a transform stream: its promises hand on

  loud_one : (f tees : ℕ → Bool) (n : ℕ) → f n ≡ true → loud (class bad me f tees) n ≡ 0
  loud_one f tees n e = grind (arith, e)

  new_half : (f tees : ℕ → Bool) (kind : Kind) (i j : StreamId) (change : PromiseId) → of_kind bad.of kind ≡ 0 → loud (class bad me f tees) change.0 ≡ 0 → in_transform (class bad me f tees) (transform.set_up kind i j change) ≡ 0
  new_half f tees kind i j change e h = omega (arith, e, h)

  starts : (f tees : ℕ → Bool) (p : PromiseId) (j : StreamId) (start : StartBy) → in_effects (class bad me f tees) (making_calls.start_transform p j start ∷ []) ≡ 0
  starts f tees p j start = grind arith

  transform-known : (kind : Kind) (a b : ℕ) (start : StartBy) (i j : StreamId) → of_kind bad.of kind ≡ 0 → Known bad me own (making_calls.make_transform kind a b start i j s).done.slots (making_calls.make_transform kind a b start i j s).done.caused
  transform-known kind a b start i j fair =
      let t : Table = s.promises in
      let c0 = fresh-count t in
      let c1 = fresh-count (fresh t) in
      let c2 = fresh-count (fresh (fresh t)) in
      let c3 = fresh-count (fresh (fresh (fresh t))) in
      known-next bad me own s (making_calls.make_transform kind a b start i j s).done.slots [] (making_calls.make_transform kind a b start i j s).done.caused (λ i. true) known refl (omega (arith, c0, c1, c2, c3))
      (λ f tees news g.
      let k : Class = class bad me f tees in
      let l0 = loud_one f tees (count t) (news (count t) (omega arith) (omega (arith, c0, c1, c2, c3))) in
      let l1 = loud_one f tees (count (fresh t)) (news (count (fresh t)) (omega (arith, c0)) (omega (arith, c1, c2, c3))) in
      let l2 = loud_one f tees (count (fresh (fresh t))) (news (count (fresh (fresh t))) (omega (arith, c0, c1)) (omega (arith, c2, c3))) in
      let l3 = loud_one f tees (count (fresh (fresh (fresh t)))) (news (count (fresh (fresh (fresh t)))) (omega (arith, c0, c1, c2)) (omega (arith, c3))) in
      let me_ : TransformId = record { 0 = length s.transforms } in
      let w : Stream = WritableStream (writable.set_up (HalfOf me_) a Count) in
      let r : Stream = ReadableStream (readable.set_up (HalfOf me_) b Count) in
      let x : transform.Slots = transform.set_up kind i j (record { 0 = count t }) in
      let s0 = streams-append k 0 s.streams w (length s.streams) (omega arith) (omega (arith, g)) refl in
      let s1 = streams-append k 0 (s.streams ++ w ∷ []) r (length (s.streams ++ w ∷ [])) (omega arith) s0 refl in
      let h = new_half f tees kind i j (record { 0 = count t }) fair l0 in
      let z = transforms-append k s.transforms x in
      let e = starts f tees (record { 0 = count (fresh t) }) j start in
      let p = fresh-keeps k (fresh (fresh (fresh t))) (fresh-keeps k (fresh (fresh t)) (fresh-keeps k (fresh t) (fresh-keeps k t (omega (arith, g))))) in
      omega (arith, g, l0, l1, l2, l3, s0, s1, h, z, e, p))

  -- a tee: its promises hand on, and its reader isn't let go of
  tee-known : (source i j : StreamId) → Known bad me own (making_calls.make_tee source i j s).done.slots (making_calls.make_tee source i j s).done.caused
  tee-known source i j =
      let t : Table = s.promises in
      let c0 = fresh-count t in
      let c1 = fresh-count (fresh t) in
      let me_ : TeeId = record { 0 = length s.tees } in
      let x : tee.Slots = tee.set_up source i j (record { 0 = count (fresh t) }) in
      known-turn bad me own s (making_calls.make_tee source i j s).done.slots [] (making_calls.make_tee source i j s).done.caused (λ i. true) known (λ n e. teed-more n s.tees x e) (omega (arith, c0, c1))
      (λ f tees reads news g exact.
      let k : Class = class bad me f tees in
      let l0 = loud_one f tees (count t) (news (count t) (omega arith) (omega (arith, c0, c1))) in
      let l1 = loud_one f tees (count (fresh t)) (news (count (fresh t)) (omega (arith, c0)) (omega (arith, c1))) in
      let reader : in_reader k source.0 (Some (record { 0 = count t })) ≡ 0 = read_by (tees source.0) (soft k (count t)) (λ e. reads source e) in
      let w : Stream = ReadableStream (readable.set_up (BranchOf me_ First) 1 Count) in
      let r : Stream = ReadableStream (readable.set_up (BranchOf me_ Second) 1 Count) in
      let s0 = streams-append k 0 s.streams w (length s.streams) (omega arith) (omega (arith, g)) refl in
      let s1 = streams-append k 0 (s.streams ++ w ∷ []) r (length (s.streams ++ w ∷ [])) (omega arith) s0 refl in
      let z = tees-append k s.tees x in
      let p = fresh-keeps k (fresh t) (fresh-keeps k t (omega (arith, g))) in
      omega (arith, g, l0, l1, reader, s1, z, p))
    where
      read_by : (b : Bool) (n : ℕ) → (b ≡ false → is_teed source (making_calls.make_tee source i j s).done.slots ≡ false) → (if b then 0 else n) ≡ 0
      read_by true n reads = refl
      read_by false n reads = let m = teed-last source s.tees (tee.set_up source i j (record { 0 = count (fresh s.promises) })) refl in let l = reads refl in cc

  -- a port: its backpressure promise hands on

  started : (z : Slots) (es : List Effect) (j : StreamId) (side : Side) → Known bad me own z es → Known bad me own z (pipe_calls.start_end j side ∷ es)
  started z es j side k = record { hands = k.hands; mine = k.mine; good = λ f g same reads. with_start (class bad me f g) side (k.good f g same reads) }
    where
      with_start : (k : Class) (side : Side) → AllGood k z es → AllGood k z (pipe_calls.start_end j side ∷ es)
      with_start k ReadableSide h = omega (arith, h)
      with_start k WritableSide h = omega (arith, h)

  port-known : (j : StreamId) (side : Side) → Known bad me own (pipe_calls.add_port j s side) []
  port-known j ReadableSide =
      plain-known (pipe_calls.add_port j s ReadableSide) [] refl refl
      (λ f tees g.
      let k : Class = class bad me f tees in
      let a = streams-append k 0 s.streams (pipe_calls.end_of (record { 0 = length s.ports }) ReadableSide) (length s.streams) (omega arith) (omega (arith, g)) refl in
      let b = ports-append k s.ports (cross.set_up ReadableSide j None) in
      omega (arith, g, a, b))
  port-known j WritableSide =
      let t : Table = s.promises in
      let c = fresh-count t in
      known-next bad me own s (pipe_calls.add_port j s WritableSide) [] [] (λ i. true) known refl (omega (arith, c))
      (λ f tees news g.
      let k : Class = class bad me f tees in
      let l = loud_one f tees (count t) (news (count t) (omega arith) (omega (arith, c))) in
      let a = streams-append k 0 s.streams (pipe_calls.end_of (record { 0 = length s.ports }) WritableSide) (length s.streams) (omega arith) (omega (arith, g)) refl in
      let b = ports-append k s.ports (cross.set_up WritableSide j (Some (record { 0 = count t }))) in
      let p = fresh-keeps k t (omega (arith, g)) in
      omega (arith, g, a, b, l, p))

  message-good : (f tees : ℕ → Bool) (m : Message) → bad_message bad m ≡ 0 → of_message (class bad me f tees) m ≡ 0
  message-good f tees PullMessage h = refl
  message-good f tees (ChunkMessage v) h = refl
  message-good f tees CloseMessage h = refl
  message-good f tees (ErrorMessage r) h = h

  -- where what makes a pipe behind a port is known
  known-with : ((j : StreamId) (side : Side) (source dest : StreamId)
      → Known bad me own (pipe_calls.pipe_to source dest pipe_calls.no_prevent None (pipe_calls.add_port j s side)).done.slots (pipe_calls.pipe_to source dest pipe_calls.no_prevent None (pipe_calls.add_port j s side)).done.caused)
      → (c : Call) → Begins (begin c s)
  known-with piped_behind c =
      each_call Begins c s (record {
        unchanged = λ reply b n. known;
        rejected = λ fault b n. promising-known (λ p. Settle p (Err (FaultReason fault)) ∷ []) false (λ f tees p e. let z = settles_one f tees p.0 (FaultReason fault) e in omega (arith, z));
        make_tee = λ i e there free untied b n. tee-known i _ _;
        make_readable = λ mark size start b n. plain-known _ _ refl refl (λ f tees g. let a = streams-append (class bad me f tees) 0 s.streams (ReadableStream (readable.set_up Host mark size)) (length s.streams) (omega arith) (omega (arith, g)) refl in omega (arith, g, a));
        make_writable = λ mark size start b n. plain-known _ _ refl refl (λ f tees g. let a = streams-append (class bad me f tees) 0 s.streams (WritableStream (writable.set_up Host mark size)) (length s.streams) (omega arith) (omega (arith, g)) refl in omega (arith, g, a));
        get_byob = λ i is e b n.
            let c = fresh-count s.promises in
            known-next bad me own s _ [] _ (λ i. false) known refl (omega (arith, c))
            (λ f tees news g.
            let one = reader_one f tees i.0 (count s.promises) (news (count s.promises) (omega arith) (omega (arith, c))) in
            let t = fresh-keeps (class bad me f tees) s.promises (omega (arith, g)) in omega (arith, g, one, t));
        release_byob = λ l closed i e b n. release_reader-known i _ (is_readable (source_at i s).state);
        read_into = λ l i closed room element least e h b n. promising-known (λ p. Byte i (PullInto room element (least * element) (PromiseRequest p)) ∷ []) false (λ f tees p e. let z = soft_one f tees p.0 e in omega (arith, z));
        enqueue_bytes = λ i bytes e is some can b n. plain-known s _ refl refl (λ f tees g. omega (arith, g));
        finish_bytes = λ i e is can b n. plain-known s _ refl refl (λ f tees g. omega (arith, g));
        make_request = λ i reply is b n. plain-known _ _ refl refl (λ f tees g. omega (arith, g));
        respond = λ r i bytes e is can b n. plain-known s _ refl refl (λ f tees g. omega (arith, g));
        make_bytes = λ mark auto start b n. plain-known _ _ refl refl (λ f tees g. let a = streams-append (class bad me f tees) 0 s.streams (ByteStream (byte.set_up mark auto)) (length s.streams) (omega arith) (omega (arith, g)) refl in omega (arith, g, a));
        get_reader = λ i e b n.
            let c = fresh-count s.promises in
            known-next bad me own s _ [] _ (λ i. false) known refl (omega (arith, c))
            (λ f tees news g.
            let one = reader_one f tees i.0 (count s.promises) (news (count s.promises) (omega arith) (omega (arith, c))) in
            let t = fresh-keeps (class bad me f tees) s.promises (omega (arith, g)) in omega (arith, g, one, t));
        get_writer = λ i e b n.
            let c = fresh-count s.promises in
            let d = fresh-count (fresh s.promises) in
            known-next bad me own s _ [] _ (λ i. false) known refl (omega (arith, c, d))
            (λ f tees news g.
            let one = soft_one f tees (count s.promises) (news (count s.promises) (omega arith) (omega (arith, c, d))) in
            let two = soft_one f tees (count (fresh s.promises)) (news (count (fresh s.promises)) (omega (arith, c)) (omega (arith, d))) in
            let t = fresh-keeps (class bad me f tees) (fresh s.promises) (fresh-keeps (class bad me f tees) s.promises (omega (arith, g))) in omega (arith, g, one, two, t));
        release_reader = λ l closed i e b n. release_reader-known i _ (is_readable (source_at i s).state);
        release_writer = λ l i w e h b n. release_writer-known i _ (is_pending_at w.ready s.promises) (is_pending_at w.closed (with_renewed s.promises (is_pending_at w.ready s.promises)));
        cancel = λ reason i b n. promising-known (λ p. Readable i (Cancel reason p) ∷ []) false (λ f tees p e. omega (arith, b));
        read = λ l i closed e h b n. promising-known (λ p. Readable i (Read (PromiseRequest p)) ∷ []) false (λ f tees p e. let z = soft_one f tees p.0 e in omega (arith, z));
        write = λ l v i e b n. promising-known (λ p. Writable i (Write v p) ∷ []) false (λ f tees p e. let z = soft_one f tees p.0 e in omega (arith, z));
        close = λ i b n. promising-known (λ p. Writable i (Close p) ∷ []) false (λ f tees p e. let z = soft_one f tees p.0 e in omega (arith, z));
        abort = λ reason i e b n. promising-known (λ p. Writable i (Abort reason p) ∷ []) true (λ f tees p e. grind (arith, b, e));
        enqueue = λ i v e o can b n. plain-known s _ refl refl (λ f tees g. omega (arith, g));
        enqueue_half = λ i t v e o can b n. plain-known s _ refl refl (λ f tees g. omega (arith, g));
        fail_half = λ t reason b n. plain-known s _ refl refl (λ f tees g. omega (arith, g, b));
        terminate = λ t b n. plain-known s _ refl refl (λ f tees g. omega (arith, g, b));
        make_transform = λ kind m l start b n.
            transform-known kind m l start _ _
            (let z = kinds-append bad.of s.transforms (transform.set_up kind (record { 0 = length s.streams }) (record { 0 = length s.streams + 1 }) (record { 0 = count s.promises })) in omega (arith, n, z));
        finish = λ i b n. plain-known s _ refl refl (λ f tees g. omega (arith, g));
        fail_readable = λ i reason b n. plain-known s _ refl refl (λ f tees g. omega (arith, g, b));
        fail_writable = λ i reason b n. plain-known s _ refl refl (λ f tees g. omega (arith, g, b));
        pipe = λ source dest prevent signal e f l m b n. pipe-known source dest prevent signal;
        make_signal = λ b n. plain-known _ _ refl refl (λ f tees g. let a = signals-append (class bad me f tees) s.signals in omega (arith, g, a));
        open_end = λ side b n. let j : StreamId = record { 0 = length s.streams } in started (pipe_calls.add_port j s side) [] j side (port-known j side);
        send_readable = λ i there free b n. let j : StreamId = record { 0 = length s.streams } in started _ _ j WritableSide (piped_behind j WritableSide i j);
        send_writable = λ i there free b n. let j : StreamId = record { 0 = length s.streams } in started _ _ j ReadableSide (piped_behind j ReadableSide j i);
        deliver = λ p m e is b n. plain-known s _ refl refl (λ f tees g. let d = message-good f tees m (omega (arith, b)) in omega (arith, g, d));
        trigger = λ a reason b n. plain-known s _ refl refl (λ f tees g. omega (arith, g, b));
        settle = λ h answer p e b n. plain-known _ _ refl refl (λ f tees g. grind (arith, g, b));
      })

pub call-known : (bad : Badness) (me : PipeId) (own : Option ℕ) (s : Slots) (known : Known bad me own s []) (c : Call) → Begins bad me own s known (begin c s)
call-known bad me own s known c =
    known-with bad me own s known
    (λ j side source dest. let z : Slots = pipe_calls.add_port j s side in pipe-known bad me own z (port-known bad me own s known j side) source dest pipe_calls.no_prevent None) c
