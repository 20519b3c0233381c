-- A law of a byte stream's record, of what has gone through it, and of the bytes that are still to be given: what each operation keeps, each
-- effect, each step and each run keeps.
use Rattle.std.proofs.Common.{◌≡◌, ℕ, zero, suc, Bool, true, false, ◌&&◌, ◌||◌, List, [], ◌∷◌, ◌++◌, map, length, Option, Some, None, nat_eq, slice_get, le-ltb, arith, refl, sym, ap, ◌∙◌, append_assoc, append-nil, if◌then◌else◌}
use Rattle.ws_laws.proofs.Order.{port-calm}
use Rattle.ws_steps.specs.declared.effects.Effect.TheVariants.{Port}
use Rattle.std.specs.Prelude.{is_some, is_none}
use Rattle.ws_steps.specs.Effects.{Out, cause}
use Rattle.ws_steps.specs.Promises.{Table}
use Rattle.ws_steps.specs.ByteHistory.{ByteFlow, no_bytes, bytes_then, entered_into, entered_by, cancels, shared_bytes, own_bytes, effect_bytes, run_bytes, value_bytes}
use Rattle.ws_steps.specs.Operations.{byte_readable_operation, byte_operation}
use Rattle.ws_steps.specs.declared.byte.ByteOperation.{ByteOperation}
use Rattle.ws_steps.specs.declared.readable.ReadRequest.{ReadRequest}
use Rattle.ws_steps.specs.declared.readable.ReadableOperation.{ReadableOperation}
use Rattle.ws_steps.specs.declared.effects.Effect.{Effect}
use Rattle.ws_steps.specs.declared.effects.Effect.TheVariants.{ChunkSteps, CloseSteps, CloseStepsWith, ErrorSteps, PullAlgorithm, CancelAlgorithm}
use Rattle.ws_value.specs.declared.ids.StreamId.{StreamId}
use Rattle.ws_byte_laws.proofs.Given.{given_by, given, starting, given_append}
use Rattle.ws_laws.proofs.Order.{IsNoGift, Calm, Behind, AreOrdered, Orderly, is_from, may_pull, pipe-calm, transform-calm, tee-calm, signal-calm, call-calm, job-calm, orderly-stays, orderly-empty}
use Rattle.ws_value.specs.declared.value.Value.{Value}
use Rattle.ws_steps.specs.declared.{calls.Call.{Call}}
use Rattle.ws_steps.specs.declared.effects.Effect.TheVariants.{Readable as OnReadable, Byte, Writable, Pipe, Signal, Transform, Tee, StartAlgorithm, WriteAlgorithm, CloseAlgorithm, AbortAlgorithm}
use Rattle.ws_steps.specs.declared.byte.ByteOperation.TheVariants as own
use Rattle.ws_steps.specs.declared.readable.ReadRequest.TheVariants.{Promise, Pipe as PipeRequest, Tee as TeeRequest}
use Rattle.ws_steps.specs.declared.writable.WritableOperation.{WritableOperation}
use Rattle.ws_steps.specs.Descriptors.{respond_throws}
use Rattle.ws_steps.specs.declared.readable.ReadableState.TheVariants.{Closed}
use Rattle.ws_steps.specs.Bytes as byte
use Rattle.ws_steps.specs.Readable as readable
use Rattle.ws_steps.specs.Writable as writable
use Rattle.ws_steps.specs.Jobs.{job_effects}
use Rattle.ws_steps.specs.Calls.{begin}
use Rattle.ws_steps.specs.Run.{Entry, step, run}
use Rattle.ws_steps.specs.Slots as realm
use Rattle.ws_steps.specs.Slots.{Stream, ReadableStream, ByteStream, WritableStream, Done, nothing, has_byte, has_readable, byte_at, is_byte_stream, as_byte, on_byte, on_readable, no_byte, found, empty}
use Rattle.ws_steps.specs.Operations.{writable_operation}
use Rattle.ws_steps.specs.Turns.{row, on_source}
use Rattle.ws_steps.specs.Histories.{is_same}
use Rattle.ws_laws.proofs.Tables.{same_id, is_same-refl, eq_numbers, unequal_numbers, byte_acts, on_byte-same, on_byte-other, on_source-byte, on_source-other, on_writable-look, place_last, place_before, no_stream}
use Rattle.ws_laws.proofs.ReadableDoes.{OfReadable, is_taking}
use Rattle.ws_laws.proofs.ByteDoes.{byte_readable-does, byte-does}
use Rattle.ws_laws.proofs.Lists.{Each, each-append}
use Rattle.ws_laws.proofs.Apart.{row-streams}
use Rattle.ws_laws.proofs.Causes.{ChunkCauses, EndCauses, ErrorCauses, row-causes}
use Rattle.ws_laws.proofs.Begin.{begin-makes}
use Rattle.ws_laws.proofs.Shapes.{StreamShape, stream_shape, row-stream_shapes}
use Rattle.ws_laws.proofs.StaysBytes.{row-byte}
use Rattle.ws_laws.proofs.Walker.{IsHistory, GoesUntold, RestsUntold, run-stays, run-holds}

-- the bytes that the steps of a request of stream i give
abbrev pub gift_of : StreamId → Effect → List ℕ
gift_of i (ChunkSteps j request v) = if is_same i j then value_bytes v else []
gift_of i (CloseStepsWith j request b) = if is_same i j then b else []
gift_of i _ = []

-- what is still to be given
abbrev pub pending : StreamId → List Effect → List ℕ
pending i [] = []
pending i (e ∷ es) = gift_of i e ++ pending i es

pub pending-append : (i : StreamId) (xs ys : List Effect) → pending i (xs ++ ys) ≡ pending i xs ++ pending i ys
pending-append i [] ys = refl
pending-append i (x ∷ xs) ys = ap (λ b. gift_of i x ++ b) (pending-append i xs ys) ∙ sym (append_assoc (gift_of i x) (pending i xs) (pending i ys))

-- no steps that give bytes of stream i
abbrev pub IsElsewhere : StreamId → Effect → Type 0
IsElsewhere i e = IsNoGift i e

pub elsewhere-none : (i : StreamId) (e : Effect) → IsElsewhere i e → gift_of i e ≡ []
elsewhere-none i (ChunkSteps j request v) n = rw n refl
elsewhere-none i (CloseStepsWith j request b) n = rw n refl
elsewhere-none i _ n = refl

pub pending-none : (i : StreamId) (es : List Effect) → Each (IsElsewhere i) es → pending i es ≡ []
pending-none i [] n = refl
pending-none i (e ∷ es) n = rw (elsewhere-none i e n.0, pending-none i es n.1) refl

-- what an operation of the stream itself causes

module _ (i : StreamId) where
  abbrev Given : Out → Type 0
  Given x = pending i x.effects ≡ given x.effects

  also : (e : Effect) (x : Out) → gift_of i e ≡ given_by e → Given x → Given (cause e x)
  also e x g h = rw (pending-append i x.effects (e ∷ []), given_append x.effects (e ∷ []), h, g) refl

  of_given : OfReadable Given i
  of_given = record {
    settle = λ x p o h. h;
    pull = λ x h. also (PullAlgorithm i) x refl h;
    cancel = λ x r p h. also (CancelAlgorithm i r p) x refl h;
    chunk = λ x r v h. also (ChunkSteps i r v) x (rw is_same-refl refl) h;
    close = λ x r h. also (CloseSteps i r) x refl h;
    error = λ x r e h. also (ErrorSteps i r e) x refl h;
  }

  pub operation-pending : (op : ReadableOperation) (a : byte.Acts) → Given a.out → Given (byte_readable_operation i op a).out
  operation-pending op a h = byte_readable-does Given i of_given op a h

  pub own-pending : (op : ByteOperation) (a : byte.Acts) → Given a.out → Given (byte_operation i op a).out
  own-pending op a h = byte-does Given i of_given (λ x q b h. also (CloseStepsWith i q b) x (rw is_same-refl refl) h) op a h

-- what is caused by effects that are no operations of streams

abbrev pub IsStill : Effect → Type 0
IsStill (OnReadable j op) = ⊥
IsStill (Byte j op) = ⊥
IsStill _ = Unit {0}

chunk_still : (i : StreamId) (v : Value) (request : ReadRequest) → ChunkCauses (IsNoGift i) v request
chunk_still i v (Promise p) = tt
chunk_still i v (PipeRequest p) = tt
chunk_still i v (TeeRequest t) = tt

end_still : (i : StreamId) (request : ReadRequest) → EndCauses (IsNoGift i) request
end_still i (Promise p) = tt
end_still i (PipeRequest p) = tt
end_still i (TeeRequest t) = tt

error_still : (i : StreamId) (request : ReadRequest) → ErrorCauses (IsNoGift i) request
error_still i (Promise p) = tt
error_still i (PipeRequest p) = tt
error_still i (TeeRequest t) = tt

pub still-calm : (i : StreamId) (e : Effect) (s : realm.Slots) → IsStill e → Calm i (row e s).caused
still-calm i (OnReadable j op) s n = absurd n
still-calm i (Byte j op) s n = absurd n
still-calm i (Writable j op) s n = row-causes (IsNoGift i) (Writable j op) s (record { write = tt; close = tt; abort = λ r p. tt; hand_on = λ v. tt; take = λ v t d. tt; post = λ v c d. tt })
still-calm i (Pipe p op) s n = row-causes (IsNoGift i) (Pipe p op) s (pipe-calm i p)
still-calm i (Signal a op) s n = row-causes (IsNoGift i) (Signal a op) s (signal-calm i op)
still-calm i (Transform t op) s n = row-causes (IsNoGift i) (Transform t op) s (transform-calm i t)
still-calm i (Tee t op) s n = row-causes (IsNoGift i) (Tee t op) s (tee-calm i t)
still-calm i (Port c op) s n = row-causes (IsNoGift i) (Port c op) s (port-calm i c)
still-calm i (StartAlgorithm j step start) s n = row-causes (IsNoGift i) (StartAlgorithm j step start) s (λ g u. tt, λ c u. tt)
still-calm i (PullAlgorithm j) s n = row-causes (IsNoGift i) (PullAlgorithm j) s (λ c u. tt, (λ t u. tt, (λ t. tt, (λ u. tt, λ c. tt))))
still-calm i (CancelAlgorithm j r p) s n = row-causes (IsNoGift i) (CancelAlgorithm j r p) s (λ c u. tt, (λ t u. tt, (λ t half u. tt, λ q u. tt)))
still-calm i (WriteAlgorithm j) s n = row-causes (IsNoGift i) (WriteAlgorithm j) s (tt, (λ t u. tt, λ q u. tt))
still-calm i (CloseAlgorithm j) s n = row-causes (IsNoGift i) (CloseAlgorithm j) s (λ c u. tt, (λ t u. tt, λ q u. tt))
still-calm i (AbortAlgorithm j r p) s n = row-causes (IsNoGift i) (AbortAlgorithm j r p) s (λ c u. tt, (λ t u. tt, λ q u. tt))
still-calm i (ChunkSteps j q v) s n = row-causes (IsNoGift i) (ChunkSteps j q v) s (chunk_still i v q)
still-calm i (CloseSteps j q) s n = row-causes (IsNoGift i) (CloseSteps j q) s (end_still i q)
still-calm i (CloseStepsWith j q b) s n = row-causes (IsNoGift i) (CloseStepsWith j q b) s (end_still i q)
still-calm i (ErrorSteps j q e) s n = row-causes (IsNoGift i) (ErrorSteps j q e) s (error_still i q)
still-calm i e s n = row-causes (IsNoGift i) e s tt

-- of another stream than i

other-operation : (i j : StreamId) (op : ReadableOperation) (s : realm.Slots) → is_same i j ≡ false → Each (IsElsewhere i) (row (OnReadable j op) s).caused
other-operation i j op s n =
    row-causes (IsElsewhere i) (OnReadable j op) s (record { pull = tt; cancel = λ r p. tt; chunk = λ r v. n; close = λ r. tt; error = λ r e. tt })

other-own : (i j : StreamId) (op : ByteOperation) (s : realm.Slots) → is_same i j ≡ false → Each (IsElsewhere i) (row (Byte j op) s).caused
other-own i j op s n =
    row-causes (IsElsewhere i) (Byte j op) s (record { readable = record { pull = tt; cancel = λ r p. tt; chunk = λ r v. n; close = λ r. tt; error = λ r e. tt }; close_with = λ r b. n })

-- a law of what has gone through stream i, of its record, and of what is still to be given

pub record IsByteLaw (i : StreamId) (K : ByteFlow → byte.Slots → List ℕ → Type 0) : Type 0 where
  pub operation : (op : ReadableOperation) (t : Table) (h : ByteFlow) (x : byte.Slots) (ps : List ℕ) → (is_taking op ≡ true → ps ≡ []) → K h x ps
      → let a : byte.Acts = byte_readable_operation i op (starting x t) in K (bytes_then h (shared_bytes op x a.slots)) a.slots (given a.out.effects ++ ps)
  pub controller : (op : ByteOperation) (t : Table) (h : ByteFlow) (x : byte.Slots) → K h x []
      → let a : byte.Acts = byte_operation i op (starting x t) in K (bytes_then h (own_bytes op x a.slots)) a.slots (given a.out.effects)
  pub gift : (b : List ℕ) (h : ByteFlow) (x : byte.Slots) (ps : List ℕ) → K h x (b ++ ps) → K (bytes_then h (record no_bytes { given = b })) x ps

or_none : (b : Bool) → b || false ≡ b
or_none true = refl
or_none false = refl

or_assoc : (a b c : Bool) → (a || b) || c ≡ a || (b || c)
or_assoc true b c = refl
or_assoc false b c = refl

pub same_bytes : (f : ByteFlow) → bytes_then f no_bytes ≡ f
same_bytes f = λ k. record {
  entered = append-nil f.entered k;
  given = append-nil f.given k;
  cancelled = or_none f.cancelled k;
  left = or_none f.left k;
  answered = or_none f.answered k;
}

bytes-assoc : (f g h : ByteFlow) → bytes_then (bytes_then f g) h ≡ bytes_then f (bytes_then g h)
bytes-assoc f g h = λ k. record {
  entered = append_assoc f.entered g.entered h.entered k;
  given = append_assoc f.given g.given h.given k;
  cancelled = or_assoc f.cancelled g.cancelled h.cancelled k;
  left = or_assoc f.left g.left h.left k;
  answered = or_assoc f.answered g.answered h.answered k;
}

pub is_history : IsHistory no_bytes bytes_then
is_history = record { left = λ f. refl; right = same_bytes; assoc = bytes-assoc }

behind_calm : (i : StreamId) (b : Bool) (es : List Effect) → b ≡ true → Behind i b es → Calm i es
behind_calm i true es e o = o
behind_calm i false es e o = cc

taking_pulls : (op : ReadableOperation) → is_taking op ≡ true → may_pull op ≡ true
taking_pulls op t = grind arith

-- behind an operation of stream i that may take stand no steps that give bytes of it
own-behind : (i j : StreamId) (op : ReadableOperation) (es : List Effect) → is_same i j ≡ true → is_taking op ≡ true → Behind i (may_pull op && is_from i j) es → Calm i es
own-behind i j op es same t o =
    let is : i.0 ≡ j.0 = ap (λ (k : StreamId). k.0) (same_id i j same) in
    let from : is_from i j ≡ true = rw (le-ltb j.0 i.0 (omega (arith, is))) refl in
    behind_calm i (may_pull op && is_from i j) es (rw (taking_pulls op t, from) refl) o

module _ (i : StreamId) (K : ByteFlow → byte.Slots → List ℕ → Type 0) (law : IsByteLaw i K) where
  abbrev told : Effect → realm.Slots → ByteFlow
  told e s = effect_bytes i e s

  -- an effect that neither changes nor gives
  foreign : (e : Effect) (h : ByteFlow) (s : realm.Slots) (es : List Effect) → told e s ≡ no_bytes → IsElsewhere i e → Each (IsElsewhere i) (row e s).caused → byte_at i (row e s).slots ≡ byte_at i s
      → K h (byte_at i s) (pending i (e ∷ es)) → K (bytes_then h (told e s)) (byte_at i (row e s).slots) (pending i ((row e s).caused ++ es))
  foreign e h s es none away caused same k =
      let before : K h (byte_at i s) (pending i es) = rw (elsewhere-none i e away) at k in
      rw (none, same_bytes h, same, pending-append i (row e s).caused es, pending-none i (row e s).caused caused) before

  here : (op : ReadableOperation) (h : ByteFlow) (s : realm.Slots) (es : List Effect) → has_byte i s ≡ true → (is_taking op ≡ true → Calm i es) → K h (byte_at i s) (pending i es)
      → let d : Done = on_source op i s in K (bytes_then h (shared_bytes op (byte_at i s) (byte_at i d.slots))) (byte_at i d.slots) (pending i (d.caused ++ es))
  here op h s es is c k =
      let a : byte.Acts = byte_readable_operation i op (byte_acts i s) in
      let now = on_byte-same (byte_readable_operation i op) i s is in
      rw (on_source-byte op i s is, now, is, pending-append i a.out.effects es, operation-pending i op (byte_acts i s) refl)
      (law.operation op s.promises h (byte_at i s) (pending i es) (λ t. pending-none i es (c t)) k)

  own_here : (op : ByteOperation) (h : ByteFlow) (s : realm.Slots) (es : List Effect) → has_byte i s ≡ true → Calm i es → K h (byte_at i s) (pending i es)
      → let d : Done = on_byte (byte_operation i op) i s in K (bytes_then h (own_bytes op (byte_at i s) (byte_at i d.slots))) (byte_at i d.slots) (pending i (d.caused ++ es))
  own_here op h s es is c k =
      let a : byte.Acts = byte_operation i op (byte_acts i s) in
      let now = on_byte-same (byte_operation i op) i s is in
      let none : pending i es ≡ [] = pending-none i es c in
      let before : K h (byte_at i s) [] = rw none at k in
      rw (now, is, pending-append i a.out.effects es, own-pending i op (byte_acts i s) refl, none, append-nil (given a.out.effects)) (law.controller op s.promises h (byte_at i s) before)

  by_operation : (j : StreamId) (op : ReadableOperation) (h : ByteFlow) (s : realm.Slots) (es : List Effect) (same : Bool) → same ≡ is_same i j → has_byte i s ≡ true → (is_same i j ≡ true → is_taking op ≡ true → Calm i es)
      → K h (byte_at i s) (pending i (OnReadable j op ∷ es))
      → K (bytes_then h (told (OnReadable j op) s)) (byte_at i (row (OnReadable j op) s).slots) (pending i ((row (OnReadable j op) s).caused ++ es))
  unfolding row
  by_operation j op h s es false e is c k =
      foreign (OnReadable j op) h s es (rw (← e) refl) tt (other-operation i j op s (sym e)) (ap as_byte (on_source-other op j s i (sym e))) k
  by_operation j op h s es true e is c k =
      let eq : j ≡ i = sym (same_id i j (sym e)) in
      rw (eq, is_same-refl i) (here op h s es is (c (sym e)) k)

  by_own : (j : StreamId) (op : ByteOperation) (h : ByteFlow) (s : realm.Slots) (es : List Effect) (same : Bool) → same ≡ is_same i j → has_byte i s ≡ true → (is_same i j ≡ true → Calm i es)
      → K h (byte_at i s) (pending i (Byte j op ∷ es))
      → K (bytes_then h (told (Byte j op) s)) (byte_at i (row (Byte j op) s).slots) (pending i ((row (Byte j op) s).caused ++ es))
  unfolding row
  by_own j op h s es false e is c k =
      foreign (Byte j op) h s es (rw (← e) refl) tt (other-own i j op s (sym e)) (ap as_byte (on_byte-other (byte_operation j op) j s i (sym e))) k
  by_own j op h s es true e is c k =
      let eq : j ≡ i = sym (same_id i j (sym e)) in
      rw (eq, is_same-refl i) (own_here op h s es is (c (sym e)) k)

  -- steps of a request of stream i that give
  by_gift : (e : Effect) (b : List ℕ) (h : ByteFlow) (s : realm.Slots) (es : List Effect) → told e s ≡ record no_bytes { given = b } → gift_of i e ≡ b → Calm i (row e s).caused → byte_at i (row e s).slots ≡ byte_at i s
      → K h (byte_at i s) (pending i (e ∷ es)) → K (bytes_then h (told e s)) (byte_at i (row e s).slots) (pending i ((row e s).caused ++ es))
  by_gift e b h s es tell gift calm same k =
      let before : K h (byte_at i s) (b ++ pending i es) = rw gift at k in
      rw (tell, same, pending-append i (row e s).caused es, pending-none i (row e s).caused calm) (law.gift b h (byte_at i s) (pending i es) before)

  by_steps : (e : Effect) (b : List ℕ) (h : ByteFlow) (s : realm.Slots) (es : List Effect) (same : Bool) → (same ≡ true → (told e s ≡ record no_bytes { given = b }) × (gift_of i e ≡ b))
      → (same ≡ false → (told e s ≡ no_bytes) × IsElsewhere i e) → Calm i (row e s).caused → byte_at i (row e s).slots ≡ byte_at i s
      → K h (byte_at i s) (pending i (e ∷ es)) → K (bytes_then h (told e s)) (byte_at i (row e s).slots) (pending i ((row e s).caused ++ es))
  by_steps e b h s es true f g calm leaves k = by_gift e b h s es (f refl).0 (f refl).1 calm leaves k
  by_steps e b h s es false f g calm leaves k = foreign e h s es (g refl).0 (g refl).1 calm leaves k

  stays_at : (e : Effect) (s : realm.Slots) → (row e s).slots.streams ≡ s.streams → byte_at i (row e s).slots ≡ byte_at i s
  stays_at e s same = ap (λ (xs : List Stream). as_byte (slice_get xs i.0)) same

  writable_leaves : (j : StreamId) (op : WritableOperation) (s : realm.Slots) → byte_at i (row (Writable j op) s).slots ≡ byte_at i s
  unfolding row
  writable_leaves j op s = on_writable-look as_byte (λ b c. refl) (writable_operation j op) j s i (is_same i j) refl

  pub row-law : (e : Effect) (h : ByteFlow) (s : realm.Slots) (es : List Effect) → AreOrdered i s (e ∷ es) → has_byte i s ≡ true → K h (byte_at i s) (pending i (e ∷ es))
      → K (bytes_then h (told e s)) (byte_at i (row e s).slots) (pending i ((row e s).caused ++ es))
  row-law (OnReadable j op) h s es o is k = by_operation j op h s es (is_same i j) refl is (λ same t. own-behind i j op es same t o.0) k
  row-law (Byte j op) h s es o is k = by_own j op h s es (is_same i j) refl is (λ same. behind_calm i (is_same i j) es same o.0) k
  row-law (ChunkSteps j q v) h s es o is k =
      by_steps (ChunkSteps j q v) (value_bytes v) h s es (is_same i j) (λ e. (rw e refl, rw e refl)) (λ e. (rw e refl, e)) (still-calm i (ChunkSteps j q v) s tt) (stays_at (ChunkSteps j q v) s (row-streams (ChunkSteps j q v) s tt)) k
  row-law (CloseStepsWith j q b) h s es o is k =
      by_steps (CloseStepsWith j q b) b h s es (is_same i j) (λ e. (rw e refl, rw e refl)) (λ e. (rw e refl, e)) (still-calm i (CloseStepsWith j q b) s tt) (stays_at (CloseStepsWith j q b) s (row-streams (CloseStepsWith j q b) s tt)) k
  row-law (Writable j op) h s es o is k =
      foreign (Writable j op) h s es refl tt (still-calm i (Writable j op) s tt) (writable_leaves j op s) k
  row-law e h s es o is k = foreign e h s es refl tt (still-calm i e s tt) (stays_at e s (row-streams e s tt)) k

-- until it is made nothing has gone through a stream, and nothing is to be given

abbrev pub is_there : StreamId → realm.Slots → Bool
is_there i s = is_some (slice_get s.streams i.0)

there-told : (xs : List Stream) (n : ℕ) → is_some (slice_get xs n) ≡ is_some (slice_get (map stream_shape xs) n)
there-told [] n = refl
there-told (x ∷ xs) zero = refl
there-told (x ∷ xs) (suc n) = there-told xs n

row-there : (i : StreamId) (e : Effect) (s : realm.Slots) → is_there i (row e s).slots ≡ is_there i s
row-there i e s =
    there-told (row e s).slots.streams i.0 ∙ (ap (λ (ys : List StreamShape). is_some (slice_get ys i.0)) (row-stream_shapes e s) ∙ sym (there-told s.streams i.0))

absent_byte : (o : Option Stream) → is_some o ≡ false → is_byte_stream o ≡ false
absent_byte None e = refl
absent_byte (Some x) e = cc

absent_readable : (o : Option Stream) → is_some o ≡ false → realm.is_readable_stream o ≡ false
absent_readable None e = refl
absent_readable (Some x) e = cc

absent_at : (o : Option Stream) → is_some o ≡ false → as_byte o ≡ no_byte
absent_at None e = refl
absent_at (Some x) e = cc

pub record Fresh (h : ByteFlow) : Type 0 where
  pub entered : h.entered ≡ []
  pub given : h.given ≡ []
  pub cancelled : h.cancelled ≡ false

fresh-then : (f g : ByteFlow) → Fresh f → Fresh g → Fresh (bytes_then f g)
fresh-then f g a b = record { entered = rw (a.entered, b.entered) refl; given = rw (a.given, b.given) refl; cancelled = rw (a.cancelled, b.cancelled) refl }

pub fresh_none : Fresh no_bytes
fresh_none = record { entered = refl; given = refl; cancelled = refl }

and_none : (c : Bool) → c && false ≡ false
and_none true = refl
and_none false = refl

fresh_shared : (op : ReadableOperation) (x y : byte.Slots) → x ≡ no_byte → Fresh (shared_bytes op x y)
fresh_shared op x y e = rw e (record { entered = refl; given = refl; cancelled = and_none (cancels op) })

fresh_entered : (op : ByteOperation) → entered_by op no_byte ≡ []
fresh_entered (own.Enqueue b) = refl
fresh_entered (own.Respond b) = closed_none (is_none (respond_throws (length b) Closed []))
  where
    closed_none : (c : Bool) → (if c && false then entered_into [] b else []) ≡ []
    closed_none true = refl
    closed_none false = refl
fresh_entered _ = refl

fresh_own : (op : ByteOperation) (x y : byte.Slots) → x ≡ no_byte → Fresh (own_bytes op x y)
fresh_own op x y e = rw e (record { entered = fresh_entered op; given = refl; cancelled = refl })

pub record Unmade (i : StreamId) (h : ByteFlow) (es : List Effect) : Type 0 where
  pub fresh : Fresh h
  pub elsewhere : Each (IsElsewhere i) es

module _ (i : StreamId) where
  if_fresh : (c : Bool) (f : ByteFlow) → Fresh f → Fresh (if c then f else no_bytes)
  if_fresh true f a = a
  if_fresh false f a = fresh_none

  shared_fresh : (j : StreamId) (op : ReadableOperation) (s : realm.Slots) (y : byte.Slots) (same : Bool) → same ≡ is_same i j → is_there i s ≡ false → Fresh (if same then shared_bytes op (byte_at j s) y else no_bytes)
  shared_fresh j op s y false f n = fresh_none
  shared_fresh j op s y true f n = fresh_shared op (byte_at j s) y (rw (sym (same_id i j (sym f))) (absent_at (slice_get s.streams i.0) n))

  own_fresh : (j : StreamId) (op : ByteOperation) (s : realm.Slots) (y : byte.Slots) (same : Bool) → same ≡ is_same i j → is_there i s ≡ false → Fresh (if same then own_bytes op (byte_at j s) y else no_bytes)
  own_fresh j op s y false f n = fresh_none
  own_fresh j op s y true f n = fresh_own op (byte_at j s) y (rw (sym (same_id i j (sym f))) (absent_at (slice_get s.streams i.0) n))

  fresh_told : (e : Effect) (s : realm.Slots) → is_there i s ≡ false → IsElsewhere i e → Fresh (effect_bytes i e s)
  fresh_told (OnReadable j op) s n e = shared_fresh j op s (byte_at j (row (OnReadable j op) s).slots) (is_same i j) refl n
  fresh_told (Byte j op) s n e = own_fresh j op s (byte_at j (row (Byte j op) s).slots) (is_same i j) refl n
  fresh_told (ChunkSteps j q v) s n e = rw e fresh_none
  fresh_told (CloseStepsWith j q b) s n e = rw e fresh_none
  fresh_told _ s n e = fresh_none

  none_there : (op : ReadableOperation) (s : realm.Slots) → is_there i s ≡ false → (on_source op i s).caused ≡ []
  none_there op s n = rw (absent_byte (slice_get s.streams i.0) n, absent_readable (slice_get s.streams i.0) n) refl

  none_own : (op : ByteOperation) (s : realm.Slots) → is_there i s ≡ false → (on_byte (byte_operation i op) i s).caused ≡ []
  none_own op s n = rw (absent_byte (slice_get s.streams i.0) n) refl

  caused_by : (j : StreamId) (op : ReadableOperation) (s : realm.Slots) (same : Bool) → same ≡ is_same i j → is_there i s ≡ false → Each (IsElsewhere i) (row (OnReadable j op) s).caused
  unfolding row
  caused_by j op s false e n = other-operation i j op s (sym e)
  caused_by j op s true e n = let eq : j ≡ i = sym (same_id i j (sym e)) in rw (eq, none_there op s n) tt

  caused_own : (j : StreamId) (op : ByteOperation) (s : realm.Slots) (same : Bool) → same ≡ is_same i j → is_there i s ≡ false → Each (IsElsewhere i) (row (Byte j op) s).caused
  unfolding row
  caused_own j op s false e n = other-own i j op s (sym e)
  caused_own j op s true e n = let eq : j ≡ i = sym (same_id i j (sym e)) in rw (eq, none_own op s n) tt

  caused_elsewhere : (e : Effect) (s : realm.Slots) → is_there i s ≡ false → Each (IsElsewhere i) (row e s).caused
  caused_elsewhere (OnReadable j op) s n = caused_by j op s (is_same i j) refl n
  caused_elsewhere (Byte j op) s n = caused_own j op s (is_same i j) refl n
  caused_elsewhere e s n = (still-calm i e s tt)

  pub row-unmade : (e : Effect) (h : ByteFlow) (s : realm.Slots) (es : List Effect) → is_there i s ≡ false → Unmade i h (e ∷ es) → Unmade i (bytes_then h (effect_bytes i e s)) ((row e s).caused ++ es)
  row-unmade e h s es n u = record {
    fresh = fresh-then h (effect_bytes i e s) u.fresh (fresh_told e s n u.elsewhere.0);
    elsewhere = each-append (IsElsewhere i) (row e s).caused es (caused_elsewhere e s n) u.elsewhere.1;
  }

-- at each moment of each run
pub record Kept (i : StreamId) (K : ByteFlow → byte.Slots → List ℕ → Type 0) (h : ByteFlow) (streams : List Stream) (es : List Effect) : Type 0 where
  pub there : is_byte_stream (slice_get streams i.0) ≡ true → K h (as_byte (slice_get streams i.0)) (pending i es)
  pub unmade : is_some (slice_get streams i.0) ≡ false → Unmade i h es

module _ (i : StreamId) (K : ByteFlow → byte.Slots → List ℕ → Type 0) (law : IsByteLaw i K)
    (made : (mark auto : ℕ) (h : ByteFlow) → Fresh h → K h (byte.set_up mark auto) []) where
  abbrev All : ByteFlow → realm.Slots → List Effect → Type 0
  All h s es = Kept i K h s.streams es × Orderly i s es

  row-kept : (h : ByteFlow) (s : realm.Slots) (e : Effect) (es : List Effect) → All h s (e ∷ es) → All (bytes_then h (effect_bytes i e s)) (row e s).slots ((row e s).caused ++ es)
  row-kept h s e es k = (
    record {
      there = λ is. let was : has_byte i s ≡ true = sym (row-byte i e s) ∙ is in row-law i K law e h s es k.1.ordered was (k.0.there was);
      unmade = λ n. let was : is_there i s ≡ false = sym (row-there i e s) ∙ n in row-unmade i e h s es was (k.0.unmade was);
    },
    (orderly-stays i).row s e es k.1,
  )

  appended : (x : Stream) (h : ByteFlow) (streams : List Stream) (here : Bool) → here ≡ nat_eq i.0 (length streams) → Kept i K h streams []
      → (is_byte_stream (Some x) ≡ true → Fresh h → K h (as_byte (Some x)) []) → Kept i K h (streams ++ x ∷ []) []
  appended x h streams false n k f =
      let before = place_before streams x i.0 (unequal_numbers i.0 (length streams) (sym n)) in
      record { there = rw before k.there; unmade = rw before k.unmade }
  appended x h streams true e k f =
      let is = eq_numbers i.0 (length streams) (sym e) in
      let before = no_stream i streams is in
      let none : is_some (slice_get streams i.0) ≡ false = rw before refl in
      let now : slice_get (streams ++ x ∷ []) i.0 ≡ Some x = rw is (place_last streams x) in
      record { there = λ c. rw now (f (rw now at c) (k.unmade none).fresh); unmade = λ n. let w : is_some (Some x) ≡ false = rw now at n in cc }

  begun : (c : Call) (h : ByteFlow) (s : realm.Slots) → Kept i K h s.streams [] → Kept i K h (begin c s).done.slots.streams []
  begun c h s k = begin-makes (λ z. Kept i K h z.streams []) (record {
    promise = λ z k. k;
    locks = λ z ls k. k;
    hosts = λ z hs k. k;
    pipe = λ z source dest prevent signal promise k. k;
    signal = λ z k. k;
    transform = λ z kind writable readable change k. k;
    tee = λ z source first second cancel k. k;
    port = λ z side stream backpressure k. k;
    readable = λ z owner mark size k. appended (ReadableStream (readable.set_up owner mark size)) h z.streams (nat_eq i.0 (length z.streams)) refl k (λ c. cc);
    bytes = λ z mark auto k. appended (ByteStream (byte.set_up mark auto)) h z.streams (nat_eq i.0 (length z.streams)) refl k (λ c f. made mark auto h f);
    byob_requests = λ z r k. k;
    writable = λ z owner mark size k. appended (WritableStream (writable.set_up owner mark size)) h z.streams (nat_eq i.0 (length z.streams)) refl k (λ c. cc);
  }) c s k

  calm_kept : (h : ByteFlow) (streams : List Stream) (es : List Effect) → Calm i es → Kept i K h streams [] → Kept i K h streams es
  calm_kept h streams es c k = record {
    there = λ is. rw (pending-none i es c) (k.there is);
    unmade = λ n. record { fresh = (k.unmade n).fresh; elsewhere = c };
  }

  goes : GoesUntold bytes_then (effect_bytes i) All
  goes = record {
    row = row-kept;
    call = λ h s c k. (calm_kept h (begin c s).done.slots.streams (begin c s).done.caused (call-calm i c s) (begun c h s k.0), (orderly-stays i).call s c k.1);
    job = λ h s job e k. (calm_kept h s.streams (job_effects job) (job-calm i job) k.0, (orderly-stays i).job s job e k.1);
    answered = λ h s p k. (k.0, (orderly-stays i).answered s p k.1);
    older = λ h s k. (k.0, (orderly-stays i).older s k.1);
  }

  rests : RestsUntold All
  rests = record { heard = λ h s k. (k.0, record { ordered = tt; below = k.1.below }) }

  pub run-kept : (xs : List Entry) → Kept i K (run_bytes i xs empty) (run xs empty).streams []
  run-kept xs = (run-holds no_bytes bytes_then is_history (effect_bytes i) All goes rests xs empty (record { there = λ c. cc; unmade = λ n. record { fresh = fresh_none; elsewhere = tt } }, orderly-empty i)).0

-- between steps
pub run-orderly : (i : StreamId) (xs : List Entry) → Orderly i (run xs empty) []
run-orderly i xs = run-stays (Orderly i) (orderly-stays i) (λ z k. record { ordered = tt; below = k.below }) xs empty (orderly-empty i)
