-- A tee has one read under way at most, and holds no chunk beside it; and where it rests, or is over, it has none.
use Rattle.std.proofs.Common.{◌≡◌, ◌≢◌, ℕ, zero, suc, ◌+◌, ◌≤◌, Bool, true, false, not, ◌&&◌, nat_eq, if◌then◌else◌, List, [], ◌∷◌, ◌++◌, length, Option, Some, None, Ok, Err, slice_get, slice_set, refl, sym, ap, subst, ◌∙◌, arith}
use Rattle.ws_value.specs.declared.ids.PortId.{PortId}
use Rattle.ws_value.specs.declared.ids.{PipeId.{PipeId}, PromiseId.{PromiseId}, StreamId.{StreamId}, TeeId.{TeeId}}
use Rattle.ws_value.specs.declared.value.{Plain.{Plain}, Plain.TheVariants.{Pair}, Value.{Value}}
use Rattle.ws_steps.specs.declared.byte.{ByteOperation.{ByteOperation}, ByteOperation.TheVariants.{PullInto}}
use Rattle.ws_steps.specs.declared.{calls.Call.{Call}, promises.Job.{Job}}
use Rattle.ws_steps.specs.declared.effects.{Effect.{Effect}, Effect.TheVariants.{Readable as OnReadable, Byte, Writable as OnWritable, Tee as OnTee, ChunkSteps, CloseSteps, CloseStepsWith, ErrorSteps, Give, Settle}}
use Rattle.ws_steps.specs.declared.effects.{Gift.TheVariants.{This}, Use.TheVariants.{Resolve}}
use Rattle.ws_steps.specs.declared.readable.{ReadRequest.{ReadRequest}, ReadRequest.TheVariants.{Promise, Pipe as PipeRequest, Tee as TeeRequest}, ReadableOperation.{ReadableOperation}, ReadableOperation.TheVariants.{Read, Cancel, Enqueue, Close, Error}}
use Rattle.ws_steps.specs.declared.tee.{Half.{Half}, Half.TheVariants.{First, Second}, TeeOperation.{TeeOperation}, TeePhase.{TeePhase}, TeePhase.TheVariants.{Resting, Reading, Over}}
use Rattle.ws_steps.specs.declared.tee.TeeOperation.TheVariants as names
use Rattle.ws_steps.specs.declared.transform.TransformId.{TransformId}
use Rattle.ws_steps.specs.declared.writable.WritableOperation.{WritableOperation}
use Rattle.ws_steps.specs.Bytes as byte
use Rattle.ws_steps.specs.Operations.{readable_operation, byte_readable_operation, byte_operation, writable_operation, tee_operation}
use Rattle.ws_steps.specs.Begun.{Begun}
use Rattle.ws_steps.specs.Calls.{begin}
use Rattle.ws_steps.specs.Jobs.{job_effects}
use Rattle.ws_steps.specs.Promises.{next_id, fresh, after_next_job}
use Rattle.ws_steps.specs.Writable as writable
use Rattle.ws_steps.specs.Readable as readable
use Rattle.ws_steps.specs.Run.{after_event}
use Rattle.ws_steps.specs.Slots.{Slots, Stream, ReadableStream, ByteStream, WritableStream, Done, empty, nothing, found, with_promises, has_readable, has_byte, has_writable, readable_at, byte_at, writable_at, put_readable, put_byte, put_writable, on_readable, on_byte, on_writable, on_tee_at}
use Rattle.ws_steps.specs.Tee as tee
use Rattle.ws_steps.specs.Tee.{Acts, causing, with_slots, done, reason_of, with_reason, is_wanted, on_branches, unless_cancelled, fulfil_cancel, pull_in, pull_branch, keep_chunk, close_in, source_closed, source_errored, hand_held, hand_chunk, rested, again, handed, resolve_cancel, cancel_source, cancel_by, cancel_branch, reader_settled}
use Rattle.ws_steps.specs.TeeLaws.{held_values}
use Rattle.ws_steps.specs.Turns.{row, on_source, chunk_steps, close_steps, close_steps_with, error_steps}
use Rattle.ws_laws.proofs.Begin.{begin-makes}
use Rattle.ws_laws.proofs.EachCall.{each_call}
use Rattle.ws_laws.proofs.ByteHands.{sum_of, sum-append, Weighs, given_read, given_into, byte_readable-hands, byte-hands}
use Rattle.ws_laws.proofs.Lists.{Each, each-map}
use Rattle.ws_laws.proofs.PipeDoes.{PipeCauses}
use Rattle.ws_laws.proofs.Apart.{IsNoTee, row-streams, row-tees}
use Rattle.ws_laws.proofs.Causes.{Causes, row-causes}
use Rattle.ws_laws.proofs.Tables.{either, readable_acts, byte_acts, writable_acts, readable_there, byte_there, writable_there, eq_numbers, unequal_numbers}
use Rattle.ws_laws.proofs.TeeDoes.{TeeCauses, tee-causes}
use Rattle.ws_laws.proofs.TransformDoes.{TransformCauses}
use Rattle.ws_laws.proofs.Walker.{Stays}
use Rattle.ws_pipe_laws.proofs.locks.Asking.{requests_at}
use Rattle.ws_tee_port_laws.proofs.tees.Handing.{readable-hands}
use Rattle.ws_laws.proofs.PortDoes.{PortCauses}

-- a request of the tee
abbrev pub is_tee : TeeId → ReadRequest → ℕ
is_tee t (Promise p) = 0
is_tee t (PipeRequest p) = 0
is_tee t (TeeRequest u) = if nat_eq t.0 u.0 then 1 else 0

abbrev pub one_of : TeeId → TeeId → ℕ
one_of t u = if nat_eq t.0 u.0 then 1 else 0

-- an effect by which its read goes on
abbrev pub of_effect : TeeId → Effect → ℕ
of_effect t (OnReadable i (Read q)) = is_tee t q
of_effect t (Byte i (PullInto room element minimum q)) = is_tee t q
of_effect t (ChunkSteps i q v) = is_tee t q
of_effect t (CloseSteps i q) = is_tee t q
of_effect t (CloseStepsWith i q b) = is_tee t q
of_effect t (ErrorSteps i q e) = is_tee t q
of_effect t (OnTee u (names.KeepChunk v)) = one_of t u
of_effect t (OnTee u names.SourceClosed) = one_of t u
of_effect t (OnTee u names.SourceErrored) = one_of t u
of_effect t (OnTee u names.Handed) = one_of t u
of_effect t _ = 0

abbrev pub in_stream : TeeId → Stream → ℕ
in_stream t x = sum_of (is_tee t) (requests_at (Some x))

abbrev pub held_in : tee.Slots → ℕ
held_in x = length (held_values x.held)

abbrev pub held_of : Option tee.Slots → ℕ
held_of None = 0
held_of (Some x) = held_in x

-- how many it may have
abbrev pub may_have : TeePhase → ℕ
may_have Resting = 0
may_have Reading = 1
may_have Over = 0

abbrev pub may_have_of : Option tee.Slots → ℕ
may_have_of None = 0
may_have_of (Some x) = may_have x.phase

weighs : (t : TeeId) (me : StreamId) → Weighs me (is_tee t) (of_effect t)
weighs t me = record { chunk = λ q v. refl; close = λ q. refl; close_with = λ q b. refl; error = λ q e. refl; pull = refl; cancel = λ r p. refl }

streams-set : (t : TeeId) (xs : List Stream) (j : ℕ) (x y : Stream) → slice_get xs j ≡ Some x → sum_of (in_stream t) (slice_set xs j y) + in_stream t x ≡ sum_of (in_stream t) xs + in_stream t y
streams-set t [] j x y is = cc
streams-set t (z ∷ zs) zero x y is = let h : z ≡ x = cc in let k = ap (in_stream t) h in omega (arith, k)
streams-set t (z ∷ zs) (suc j) x y is = let h = streams-set t zs j x y is in omega (arith, h)

module _ (t : TeeId) where
  -- all that is under way is so little
  abbrev pub One : Slots → List Effect → Type 0
  One s es = sum_of (in_stream t) s.streams + sum_of (of_effect t) es + held_of (slice_get s.tees t.0) ≤ may_have_of (slice_get s.tees t.0)

  abbrev pub IsNone : Effect → Type 0
  IsNone e = of_effect t e ≡ 0

  none-all : (es : List Effect) → Each IsNone es → sum_of (of_effect t) es ≡ 0
  none-all [] n = refl
  none-all (e ∷ es) n = let rest = none-all es n.1 in let one = n.0 in omega (arith, rest, one)

  -- effects that are no operation of a tee
  abbrev Carries : Slots → ℕ → Done → Type 0
  Carries s n d = sum_of (in_stream t) d.slots.streams + sum_of (of_effect t) d.caused ≤ sum_of (in_stream t) s.streams + n

  carried : (s : Slots) (e : Effect) (es : List Effect) → IsNoTee e → Carries s (of_effect t e) (row e s) → One s (e ∷ es) → One (row e s).slots ((row e s).caused ++ es)
  carried s e es n k w = let c = sum-append (of_effect t) (row e s).caused es in rw (row-tees e s n) (omega (arith, k, c, w))

  given-read : (operation : ReadableOperation) (i : StreamId) → given_read (is_tee t) operation ≡ of_effect t (OnReadable i operation)
  given-read operation i = grind arith

  given-into : (operation : ByteOperation) (i : StreamId) → given_into (is_tee t) operation ≡ of_effect t (Byte i operation)
  given-into operation i = grind arith

  default-carries : (i : StreamId) (operation : ReadableOperation) (s : Slots) → Carries s (of_effect t (OnReadable i operation)) (on_readable (readable_operation i operation) i s)
  default-carries i operation s =
      let b : readable.Acts = readable_operation i operation (readable_acts i s) in
      either (Carries s (of_effect t (OnReadable i operation))) (has_readable i s) (put_readable i s b) (nothing s)
      (λ e.
      let h = readable-hands i (is_tee t) (of_effect t) (weighs t i) operation (readable_acts i s) in
      let g = given-read operation i in
      let k = streams-set t s.streams i.0 (ReadableStream (readable_at i s)) (ReadableStream b.slots) (readable_there (slice_get s.streams i.0) e) in omega (arith, h, k, g))
      (λ e. omega arith)

  source-carries : (i : StreamId) (operation : ReadableOperation) (s : Slots) → Carries s (of_effect t (OnReadable i operation)) (on_byte (byte_readable_operation i operation) i s)
  source-carries i operation s =
      let b : byte.Acts = byte_readable_operation i operation (byte_acts i s) in
      either (Carries s (of_effect t (OnReadable i operation))) (has_byte i s) (put_byte i s b) (nothing s)
      (λ e.
      let h = byte_readable-hands i (is_tee t) (of_effect t) (weighs t i) operation (byte_acts i s) in
      let g = given-read operation i in
      let k = streams-set t s.streams i.0 (ByteStream (byte_at i s)) (ByteStream b.slots) (byte_there (slice_get s.streams i.0) e) in omega (arith, h, k, g))
      (λ e. omega arith)

  readable-carries : (i : StreamId) (operation : ReadableOperation) (s : Slots) → Carries s (of_effect t (OnReadable i operation)) (on_source operation i s)
  readable-carries i operation s =
      either (Carries s (of_effect t (OnReadable i operation))) (has_byte i s) (on_byte (byte_readable_operation i operation) i s) (on_readable (readable_operation i operation) i s)
      (λ e. source-carries i operation s) (λ e. default-carries i operation s)

  byte-carries : (i : StreamId) (operation : ByteOperation) (s : Slots) → Carries s (of_effect t (Byte i operation)) (on_byte (byte_operation i operation) i s)
  byte-carries i operation s =
      let b : byte.Acts = byte_operation i operation (byte_acts i s) in
      either (Carries s (of_effect t (Byte i operation))) (has_byte i s) (put_byte i s b) (nothing s)
      (λ e.
      let h = byte-hands i (is_tee t) (of_effect t) (weighs t i) operation (byte_acts i s) in
      let g = given-into operation i in
      let k = streams-set t s.streams i.0 (ByteStream (byte_at i s)) (ByteStream b.slots) (byte_there (slice_get s.streams i.0) e) in omega (arith, h, k, g))
      (λ e. omega arith)

  writable-streams : (i : StreamId) (operation : WritableOperation) (s : Slots) → sum_of (in_stream t) (on_writable (writable_operation i operation) i s).slots.streams ≡ sum_of (in_stream t) s.streams
  writable-streams i operation s =
      either (λ (d : Done). sum_of (in_stream t) d.slots.streams ≡ sum_of (in_stream t) s.streams) (has_writable i s) (put_writable i s (writable_operation i operation (writable_acts i s))) (nothing s)
      (λ e. let k = streams-set t s.streams i.0 (WritableStream (writable_at i s)) (WritableStream (writable_operation i operation (writable_acts i s)).slots) (writable_there (slice_get s.streams i.0) e) in omega (arith, k))
      (λ e. refl)

  abbrev IsIdle : Effect → Type 0
  IsIdle (OnReadable i operation) = ⊥
  IsIdle (Byte i operation) = ⊥
  IsIdle (OnTee u operation) = ⊥
  IsIdle (ChunkSteps i q v) = ⊥
  IsIdle (CloseSteps i q) = ⊥
  IsIdle (CloseStepsWith i q b) = ⊥
  IsIdle (ErrorSteps i q e) = ⊥
  IsIdle _ = Unit {0}

  transform_none : (me : TransformId) (writable readable : StreamId) (e : Effect) → TransformCauses me writable readable e → IsNone e
  transform_none me writable readable e c = grind (arith, c)

  pipe_none : (me : PipeId) (source dest : StreamId) (e : Effect) → PipeCauses me source dest e → IsNone e
  pipe_none me source dest (OnReadable i (Read q)) c = ap (is_tee t) c.1
  pipe_none me source dest e c = grind (arith, c)

  port_none : (c : PortId) (stream : StreamId) (e : Effect) → PortCauses c stream e → IsNone e
  port_none c stream e k = grind (arith, k)

  idle-causes : (e : Effect) → IsIdle e → Causes IsNone e
  idle-causes e n = grind (arith, n, pipe_none, transform_none, port_none)

  idle-carries : (s : Slots) (e : Effect) → IsIdle e → sum_of (in_stream t) (row e s).slots.streams ≡ sum_of (in_stream t) s.streams → Carries s (of_effect t e) (row e s)
  idle-carries s e n k = let c = none-all (row e s).caused (row-causes IsNone e s (idle-causes e n)) in omega (arith, k, c)

  -- the steps of a request go on to the tee

  chunk-carries : (v : Value) (s : Slots) (q : ReadRequest) → Carries s (is_tee t q) (chunk_steps v s q)
  chunk-carries v s (Promise p) = omega arith
  chunk-carries v s (PipeRequest p) = omega arith
  chunk-carries v s (TeeRequest u) = omega arith

  close-carries : (s : Slots) (q : ReadRequest) → Carries s (is_tee t q) (close_steps s q)
  close-carries s (Promise p) = omega arith
  close-carries s (PipeRequest p) = omega arith
  close-carries s (TeeRequest u) = omega arith

  close_with-carries : (b : List ℕ) (s : Slots) (q : ReadRequest) → Carries s (is_tee t q) (close_steps_with b s q)
  close_with-carries b s (Promise p) = omega arith
  close_with-carries b s (PipeRequest p) = omega arith
  close_with-carries b s (TeeRequest u) = omega arith

  error-carries : (e : Plain) (s : Slots) (q : ReadRequest) → Carries s (is_tee t q) (error_steps e s q)
  error-carries e s (Promise p) = omega arith
  error-carries e s (PipeRequest p) = omega arith
  error-carries e s (TeeRequest u) = omega arith

  -- an operation of the tee, beside which so much is under way

  one_self : one_of t t ≡ 1
  one_self = let self : nat_eq t.0 t.0 ≡ true = grind arith in rw self refl

  most : (phase : TeePhase) → may_have phase ≤ 1
  most Resting = omega arith
  most Reading = omega arith
  most Over = omega arith

  unless-none : (r : Option Plain) (i : StreamId) (operation : ReadableOperation) → of_effect t (OnReadable i operation) ≡ 0 → sum_of (of_effect t) (unless_cancelled r i operation) ≡ 0
  unless-none None i operation n = omega (arith, n)
  unless-none (Some r) i operation n = refl

  branches-none : (x : tee.Slots) (operation : ReadableOperation) → ((i : StreamId) → of_effect t (OnReadable i operation) ≡ 0) → sum_of (of_effect t) (on_branches operation x) ≡ 0
  branches-none x operation n =
      let c = sum-append (of_effect t) (unless_cancelled x.reason1 x.branch1 operation) (unless_cancelled x.reason2 x.branch2 operation) in
      let a = unless-none x.reason1 x.branch1 operation (n x.branch1) in
      let b = unless-none x.reason2 x.branch2 operation (n x.branch2) in omega (arith, a, b, c)

  module _ (n : ℕ) where
    abbrev Fits : Acts → Type 0
    Fits a = n + sum_of (of_effect t) a.out.effects + held_in a.slots ≤ may_have a.slots.phase

    fulfil-fits : (a : Acts) → Fits a → Fits (fulfil_cancel a)
    fulfil-fits a w =
        either Fits (is_wanted a.slots && not a.slots.answered) _ a (λ e. let c = sum-append (of_effect t) a.out.effects (Settle a.slots.cancel done ∷ []) in omega (arith, c, w)) (λ e. w)

    pull-fits : (a : Acts) (phase : TeePhase) → a.slots.phase ≡ phase → Fits a → Fits (pull_in t a phase)
    pull-fits a Resting is w =
        let c = sum-append (of_effect t) a.out.effects (OnReadable a.slots.source (Read (TeeRequest t)) ∷ []) in
        let m = ap may_have is in
        let self = one_self in omega (arith, c, m, self, w)
    pull-fits a Reading is w = w
    pull-fits a Over is w = w

    closes-fits : (a : Acts) → n + 1 + sum_of (of_effect t) a.out.effects + held_in a.slots ≤ may_have a.slots.phase → Fits (fulfil_cancel (causing (on_branches Close a.slots) (with_slots (record a.slots { phase = Over }) a)))
    closes-fits a w =
        let c = sum-append (of_effect t) a.out.effects (on_branches Close a.slots) in
        let b = branches-none a.slots Close (λ i. refl) in
        let m = most a.slots.phase in
        fulfil-fits (causing (on_branches Close a.slots) (with_slots (record a.slots { phase = Over }) a)) (omega (arith, c, b, m, w))

    close-fits : (a : Acts) (phase : TeePhase) → n + 1 + sum_of (of_effect t) a.out.effects + held_in a.slots ≤ may_have a.slots.phase → Fits (close_in a phase)
    close-fits a Resting w = closes-fits a w
    close-fits a Reading w = closes-fits a w
    close-fits a Over w = omega (arith, w)

    hand-fits : (a : Acts) (held : Option Value) → a.slots.held ≡ held → Fits a → Fits (hand_held t a held)
    hand-fits a None is w = w
    hand-fits a (Some v) is w =
        let es : List Effect = on_branches (Enqueue v) a.slots ++ OnTee t names.Handed ∷ [] in
        let c = sum-append (of_effect t) a.out.effects es in
        let d = sum-append (of_effect t) (on_branches (Enqueue v) a.slots) (OnTee t names.Handed ∷ []) in
        let b = branches-none a.slots (Enqueue v) (λ i. refl) in
        let one : held_in a.slots ≡ 1 = ap (λ (o : Option Value). length (held_values o)) is in
        let self = one_self in omega (arith, c, d, b, one, self, w)

    again-fits : (a : Acts) (asked : Bool) → Fits a → Fits (again t a asked)
    unfolding pull_branch
    again-fits a true w = pull-fits a a.slots.phase refl w
    again-fits a false w = w

    rested-fits : (a : Acts) (phase : TeePhase) → a.slots.phase ≡ phase → n + 1 + sum_of (of_effect t) a.out.effects + held_in a.slots ≤ may_have a.slots.phase → Fits (with_slots (record a.slots { phase = rested phase }) a)
    rested-fits a Resting is w = let m = ap may_have is in absurd (omega (arith, m, w))
    rested-fits a Reading is w = let m = ap may_have is in omega (arith, m, w)
    rested-fits a Over is w = let m = ap may_have is in absurd (omega (arith, m, w))

    give-fits : (a : Acts) (e : Effect) → of_effect t e ≡ 0 → Fits a → Fits (causing (e ∷ []) a)
    give-fits a e none w = let c = sum-append (of_effect t) a.out.effects (e ∷ []) in omega (arith, c, none, w)

    resolve-fits : (a : Acts) (p : PromiseId) → Fits a → Fits (resolve_cancel p a)
    resolve-fits a p w = either Fits a.slots.answered a _ (λ e. w) (λ e. give-fits (with_slots (record a.slots { answered = true }) a) (Give (This p) (Resolve a.slots.cancel)) refl w)

    cancel-fits : (half : Half) (r : Plain) (a : Acts) (o : Option Plain) → Fits a → Fits (cancel_by t half r a o)
    cancel-fits half r a (Some old) w = w
    cancel-fits half r a None w =
        let b : Acts = with_slots (with_reason half r a.slots) a in
        either Fits (is_wanted b.slots) b (cancel_source t b) (λ e. kept half) (λ e. sources b (kept half))
      where
        kept : (h : Half) → Fits (with_slots (with_reason h r a.slots) a)
        kept First = w
        kept Second = w

        sources : (b : Acts) → Fits b → Fits (cancel_source t b)
        sources b k =
            let p : PromiseId = next_id b.out.promises in
            let c : Acts = record b { out = record b.out { promises = fresh b.out.promises } } in
            resolve-fits (causing (OnReadable b.slots.source (Cancel (Pair t) p) ∷ []) c) p (give-fits c (OnReadable b.slots.source (Cancel (Pair t) p)) refl k)

    tee-fits : (operation : TeeOperation) (a : Acts) → a.out.effects ≡ [] → n + of_effect t (OnTee t operation) + held_in a.slots ≤ may_have a.slots.phase → Fits (tee_operation t operation a)
    unfolding pull_branch keep_chunk source_closed source_errored hand_chunk handed cancel_branch reader_settled
    tee-fits names.PullBranch a none w = let z = ap (sum_of (of_effect t)) none in pull-fits a a.slots.phase refl (omega (arith, z, w))
    tee-fits (names.KeepChunk v) a none w = let z = ap (sum_of (of_effect t)) none in let self = one_self in omega (arith, z, self, w)
    tee-fits names.SourceClosed a none w = let z = ap (sum_of (of_effect t)) none in let self = one_self in close-fits a a.slots.phase (omega (arith, z, self, w))
    tee-fits names.SourceErrored a none w = let z = ap (sum_of (of_effect t)) none in let m = most a.slots.phase in let self = one_self in omega (arith, z, m, self, w)
    tee-fits names.HandChunk a none w = let z = ap (sum_of (of_effect t)) none in hand-fits a a.slots.held refl (omega (arith, z, w))
    tee-fits names.Handed a none w =
        let z = ap (sum_of (of_effect t)) none in
        let self = one_self in
        again-fits (with_slots (record a.slots { phase = rested a.slots.phase }) a) a.slots.read_again (rested-fits a a.slots.phase refl (omega (arith, z, self, w)))
    tee-fits (names.CancelBranch half r u) a none w =
        let z = ap (sum_of (of_effect t)) none in
        give-fits (cancel_by t half r a (reason_of half a.slots)) (Give (This a.slots.cancel) u) refl (cancel-fits half r a (reason_of half a.slots) (omega (arith, z, w)))
    tee-fits (names.ReaderSettled (Ok v)) a none w = let z = ap (sum_of (of_effect t)) none in omega (arith, z, w)
    tee-fits (names.ReaderSettled (Err r)) a none w =
        let z = ap (sum_of (of_effect t)) none in
        let es : List Effect = OnReadable a.slots.branch1 (Error r) ∷ OnReadable a.slots.branch2 (Error r) ∷ [] in
        let c = sum-append (of_effect t) a.out.effects es in
        fulfil-fits (causing es a) (omega (arith, z, c, w))

  -- in the slots

  pub tees_other : (xs : List tee.Slots) (i j : ℕ) (y : tee.Slots) → i ≢ j → slice_get (slice_set xs j y) i ≡ slice_get xs i
  tees_other [] i j y n = refl
  tees_other (z ∷ xs) zero zero y n = absurd (n refl)
  tees_other (z ∷ xs) zero (suc j) y n = refl
  tees_other (z ∷ xs) (suc i) zero y n = refl
  tees_other (z ∷ xs) (suc i) (suc j) y n = tees_other xs i j y (λ e. n (ap suc e))

  pub tees_same : (xs : List tee.Slots) (i : ℕ) (x y : tee.Slots) → slice_get xs i ≡ Some x → slice_get (slice_set xs i y) i ≡ Some y
  tees_same [] i x y e = cc
  tees_same (z ∷ xs) zero x y e = refl
  tees_same (z ∷ xs) (suc i) x y e = tees_same xs i x y e

  own-one : (s : Slots) (operation : TeeOperation) (es : List Effect) (x : tee.Slots) → slice_get s.tees t.0 ≡ Some x → One s (OnTee t operation ∷ es)
      → let d : Done = on_tee_at (tee_operation t operation) t s (Some x) in One d.slots (d.caused ++ es)
  own-one s operation es x at w =
      let a : Acts = record { slots = x; out = found s } in
      let b : Acts = tee_operation t operation a in
      let m = sum_of (in_stream t) s.streams in
      let k : m + (of_effect t (OnTee t operation) + sum_of (of_effect t) es) + held_in x ≤ may_have x.phase =
      subst (λ (o : Option tee.Slots). m + (of_effect t (OnTee t operation) + sum_of (of_effect t) es) + held_of o ≤ may_have_of o) at w in
      let f = tee-fits (m + sum_of (of_effect t) es) operation a refl (omega (arith, k)) in
      let c = sum-append (of_effect t) b.out.effects es in
      rw (tees_same s.tees t.0 x b.slots at) (omega (arith, f, c))

  tee_none : (u : TeeId) (source first second : StreamId) → one_of t u ≡ 0 → (e : Effect) → TeeCauses u source first second e → IsNone e
  tee_none u source first second other (OnReadable i (Read q)) c = ap (is_tee t) c.1 ∙ other
  tee_none u source first second other (OnTee v names.Handed) c = ap (one_of t) c ∙ other
  tee_none u source first second other e c = grind (arith, c)

  tee-one : (s : Slots) (u : TeeId) (operation : TeeOperation) (es : List Effect) (o : Option tee.Slots) → slice_get s.tees u.0 ≡ o → (same : Bool) → same ≡ nat_eq t.0 u.0 → One s (OnTee u operation ∷ es)
      → let d : Done = on_tee_at (tee_operation u operation) u s o in One d.slots (d.caused ++ es)
  tee-one s u operation es None e same is w = omega (arith, w)
  tee-one s u operation es (Some y) e true is w =
      let same : t ≡ u = ap (λ (n : ℕ). record { 0 = n }) (eq_numbers t.0 u.0 (sym is)) in
      subst (λ (v : TeeId). slice_get s.tees v.0 ≡ Some y → One s (OnTee v operation ∷ es) → let d : Done = on_tee_at (tee_operation v operation) v s (Some y) in One d.slots (d.caused ++ es)) same
      (λ at k. own-one s operation es y at k) e w
  tee-one s u operation es (Some y) e false is w =
      let a : Acts = record { slots = y; out = found s } in
      let b : Acts = tee_operation u operation a in
      let other : one_of t u ≡ 0 = rw (← is) refl in
      let none = none-all b.out.effects (each-map (TeeCauses u y.source y.branch1 y.branch2) IsNone (tee_none u y.source y.branch1 y.branch2 other) b.out.effects ((tee-causes u operation a).effects tt)) in
      let c = sum-append (of_effect t) b.out.effects es in
      rw (tees_other s.tees t.0 u.0 b.slots (unequal_numbers t.0 u.0 (sym is))) (omega (arith, w, none, c))

  pub row-one : (s : Slots) (e : Effect) (es : List Effect) → One s (e ∷ es) → One (row e s).slots ((row e s).caused ++ es)
  unfolding row
  row-one s (OnReadable i operation) es w = carried s (OnReadable i operation) es tt (readable-carries i operation s) w
  row-one s (Byte i operation) es w = carried s (Byte i operation) es tt (byte-carries i operation s) w
  row-one s (OnWritable i operation) es w = carried s (OnWritable i operation) es tt (idle-carries s (OnWritable i operation) tt (writable-streams i operation s)) w
  row-one s (OnTee u operation) es w = tee-one s u operation es (slice_get s.tees u.0) refl (nat_eq t.0 u.0) refl w
  row-one s (ChunkSteps i q v) es w = carried s (ChunkSteps i q v) es tt (chunk-carries v s q) w
  row-one s (CloseSteps i q) es w = carried s (CloseSteps i q) es tt (close-carries s q) w
  row-one s (CloseStepsWith i q b) es w = carried s (CloseStepsWith i q b) es tt (close_with-carries b s q) w
  row-one s (ErrorSteps i q e) es w = carried s (ErrorSteps i q e) es tt (error-carries e s q) w
  row-one s e es w = carried s e es tt (idle-carries s e tt (ap (sum_of (in_stream t)) (row-streams e s tt))) w

  -- calls and jobs

  streams-append : (xs : List Stream) (x : Stream) → in_stream t x ≡ 0 → sum_of (in_stream t) (xs ++ x ∷ []) ≡ sum_of (in_stream t) xs
  streams-append xs x none = let c = sum-append (in_stream t) xs (x ∷ []) in omega (arith, c, none)

  tees-append : (xs : List tee.Slots) (n m : ℕ) (source first second : StreamId) (p : PromiseId) → m + held_of (slice_get xs n) ≤ may_have_of (slice_get xs n)
      → let ys : List tee.Slots = xs ++ tee.set_up source first second p ∷ [] in m + held_of (slice_get ys n) ≤ may_have_of (slice_get ys n)
  tees-append [] zero m source first second p w = w
  tees-append [] (suc n) m source first second p w = w
  tees-append (x ∷ xs) zero m source first second p w = w
  tees-append (x ∷ xs) (suc n) m source first second p w = tees-append xs n m source first second p w

  pub call_none : (c : Call) (s : Slots) → Each IsNone (begin c s).done.caused
  call_none c s = each_call (λ (b : Begun). Each IsNone b.done.caused) c s (grind arith)

  pub call-one : (s : Slots) (c : Call) → One s [] → One (begin c s).done.slots (begin c s).done.caused
  call-one s c w =
      let m = begin-makes (λ z. One z []) (record {
        promise = λ z k. k;
        locks = λ z ls k. k;
        hosts = λ z hs k. k;
        pipe = λ z source dest prevent signal promise k. k;
        signal = λ z k. k;
        transform = λ z kind i j change k. k;
        tee = λ z source first second cancel k. tees-append z.tees t.0 (sum_of (in_stream t) z.streams + 0) source first second cancel k;
        port = λ z side stream backpressure k. k;
        readable = λ z owner mark size k. let c = streams-append z.streams (ReadableStream (readable.set_up owner mark size)) refl in omega (arith, c, k);
        bytes = λ z mark auto k. let c = streams-append z.streams (ByteStream (byte.set_up mark auto)) refl in omega (arith, c, k);
        byob_requests = λ z hs k. k;
        writable = λ z owner mark size k. let c = streams-append z.streams (WritableStream (writable.set_up owner mark size)) refl in omega (arith, c, k);
      }) c s w in
      let n = none-all (begin c s).done.caused (call_none c s) in
      omega (arith, m, n)

  pub job_none : (job : Job) → Each IsNone (job_effects job)
  job_none job = grind arith

  pub job-one : (s z : Slots) (job : Job) → z.streams ≡ s.streams → z.tees ≡ s.tees → One s [] → One z (job_effects job)
  job-one s z job streams tees w = let n = none-all (job_effects job) (job_none job) in rw (streams, tees) (omega (arith, n, w))

  pub one-stays : Stays One
  one-stays = record {
    row = λ s e es w. row-one s e es w;
    call = λ s c w. call-one s c w;
    job = λ s job e w. job-one s (with_promises (after_next_job s.promises) s) job refl refl w;
    answered = λ s p w. w;
    older = λ s w. w;
  }

  pub one-heard : (s : Slots) → One s [] → One (after_event s) []
  one-heard s w = w

  pub one-empty : One empty []
  one-empty = omega arith
