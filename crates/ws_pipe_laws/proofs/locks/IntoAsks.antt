-- What a reader asks, by its call: where it has the stream no pipe has it, and a room has room for its least.
use Rattle.std.specs.Prelude.{◌/◌, ◌%◌}
use Rattle.std.proofs.Common.{◌≡◌, ◌⊎◌, inl, inr, ℕ, ◌*◌, ◌≤◌, Bool, true, false, not, ◌||◌, nat_eq, List, [], ◌∷◌, length, Option, Some, None, slice_get, refl, ap, arith}
use Rattle.ws_value.specs.declared.fault.Fault.{Fault}
use Rattle.ws_value.specs.declared.fault.Fault.TheVariants.{TypeError}
use Rattle.ws_value.specs.declared.{ids.LockId.{LockId}, ids.PipeId.{PipeId}, ids.PromiseId.{PromiseId}, ids.StreamId.{StreamId}}
use Rattle.ws_steps.specs.declared.calls.Call.TheVariants.{ReadInto}
use Rattle.ws_steps.specs.declared.effects.Effect.TheVariants.{Readable as OnReadable}
use Rattle.ws_steps.specs.declared.{locks.Lock.{Lock}, locks.Lock.TheVariants.{Reader, ByobReader, Writer, ReleasedWriter, Inner}}
use Rattle.ws_steps.specs.declared.readable.{ReadRequest.TheVariants.{Promise}, ReadableOperation.TheVariants.{Read}}
use Rattle.ws_steps.specs.Bytes as byte
use Rattle.ws_steps.specs.Begun as replying
use Rattle.ws_steps.specs.LockCalls as lock_calls
use Rattle.ws_steps.specs.Begun.{Begun}
use Rattle.ws_steps.specs.Calls.{begin}
use Rattle.ws_steps.specs.Pipes as pipe
use Rattle.ws_steps.specs.Promises.{next_id}
use Rattle.ws_steps.specs.Slots.{Slots, has_source, lock_at, as_pipe}
use Rattle.ws_laws.proofs.Tables.{either, is_same-refl}
use Rattle.ws_laws.proofs.Truth.{and_left}
use Rattle.ws_pipe_laws.specs.pipes.PipeReads.{one_if}
use Rattle.ws_pipe_laws.specs.locks.Locks.{Reading, has, holds}
use Rattle.ws_pipe_laws.proofs.locks.Asking.{other, IsOwn, ReadsFirst, Asks, one_at_most}
use Rattle.ws_pipe_laws.proofs.locks.Holding.{locks-there, pipes-there}
use Rattle.ws_pipe_laws.proofs.locks.ReaderKinds.{has_default, has_byob, count-there}
use Rattle.ws_pipe_laws.proofs.locks.Rows.{is_there, Balanced}

-- where a reader has the stream, no pipe has it
own-of : (s : Slots) (l : LockId) (i : StreamId) (lock : Lock) (q : PromiseId) → one_if (has Reading i lock) ≡ 1 → lock_at l s ≡ Some lock → Balanced Reading i s [] → IsOwn i s (Promise q)
own-of s l i lock q self e b = λ p h. by p (slice_get s.pipes p.0) refl h
  where
    by : (p : PipeId) (o : Option pipe.Slots) → slice_get s.pipes p.0 ≡ o → holds Reading i (as_pipe o) ≡ true → other p (Promise q) ≡ 0
    by p None f h = absurd (cc)
    by p (Some x) f h =
        let n = locks-there Reading i l.0 s.locks lock e in
        let m = pipes-there Reading i p.0 s.pipes x f in
        let one = ap one_if h in
        let few = b.few in
        let most = one_at_most (is_there Reading (slice_get s.streams i.0)) in
        absurd (omega (arith, n, self, m, one, few, most))

pub reader-asks : (s : Slots) (l : LockId) (i : StreamId) (closed q : PromiseId) → lock_at l s ≡ Some (Reader (Some i) closed) → Balanced Reading i s [] → Asks s (OnReadable i (Read (Promise q)) ∷ [])
reader-asks s l i closed q e b =
    let n = count-there (has_default i) l.0 s.locks (Reader (Some i) closed) e in
    let self = ap one_if (is_same-refl i) in
    (omega (arith, n, self), own-of s l i (Reader (Some i) closed) q self e b)

-- so many elements as a view has have room in it

view-element : (element : ℕ) → (nat_eq element 1 || nat_eq element 2 || nat_eq element 4 || nat_eq element 8) ≡ true → (element ≡ 1) ⊎ ((element ≡ 2) ⊎ ((element ≡ 4) ⊎ (element ≡ 8)))
view-element element e = grind (arith, e)

-- whole elements, at least one, of no more bytes than there are
three : (n element least : ℕ) → (least * element) % element ≡ 0 → 1 ≤ least * element → least * element ≤ n → byte.is_least n element (least * element) ≡ true
three n element least whole some few = grind (arith, whole, some, few)

element-room : (n element least : ℕ) → (element ≡ 1) ⊎ ((element ≡ 2) ⊎ ((element ≡ 4) ⊎ (element ≡ 8))) → 1 ≤ least → least ≤ n / element → byte.is_least n element (least * element) ≡ true
element-room n element least (inl e) some few = rw e (three n 1 least (omega arith) (omega (arith, some)) (let k : least ≤ n / 1 = rw e at few in omega (arith, k)))
element-room n element least (inr (inl e)) some few = rw e (three n 2 least (omega arith) (omega (arith, some)) (let k : least ≤ n / 2 = rw e at few in omega (arith, k)))
element-room n element least (inr (inr (inl e))) some few = rw e (three n 4 least (omega arith) (omega (arith, some)) (let k : least ≤ n / 4 = rw e at few in omega (arith, k)))
element-room n element least (inr (inr (inr e))) some few = rw e (three n 8 least (omega arith) (omega (arith, some)) (let k : least ≤ n / 8 = rw e at few in omega (arith, k)))

some-least : (n element least : ℕ) → lock_calls.has_least n element least ≡ true → (1 ≤ least) × (least ≤ n / element)
some-least n element least e = (grind (arith, e), grind (arith, e))

least-room : (n element least : ℕ) → lock_calls.is_view n element ≡ true → lock_calls.has_least n element least ≡ true → byte.is_least n element (least * element) ≡ true
least-room n element least view e =
    let kind = and_left _ (nat_eq (n % element) 0) view in
    let some = some-least n element least e in
    element-room n element least (view-element element kind) some.0 some.1

not_not : (b : Bool) → not b ≡ false → b ≡ true
not_not true e = refl
not_not false e = cc

module _ (room : List ℕ) (element least : ℕ) (s : Slots) (l : LockId) (k : (i : StreamId) → Balanced Reading i s []) where
  abbrev Fits : Begun → Type 0
  Fits b = ReadsFirst b.done.caused × Asks b.done.slots b.done.caused

  reads : byte.is_least (length room) element (least * element) ≡ true → (i : StreamId) (closed : PromiseId) → lock_at l s ≡ Some (ByobReader (Some i) closed) → Fits (lock_calls.read_into room element least i s)
  reads fit i closed e =
      let n = count-there (has_byob i) l.0 s.locks (ByobReader (Some i) closed) e in
      let self = ap one_if (is_same-refl i) in
      (tt, record { some = omega (arith, n, self); own = own-of s l i (ByobReader (Some i) closed) (next_id s.promises) self e (k i); promised = λ p. refl; least = fit })

  by_lock : (holding : StreamId → Slots → Begun) (fault : Fault) (lock : Option Lock) → lock_at l s ≡ lock → ((i : StreamId) (closed : PromiseId) → lock_at l s ≡ Some (ByobReader (Some i) closed) → Fits (holding i s))
      → Fits (lock_calls.by_byob_reader holding (replying.rejected_with fault) s lock)
  by_lock holding fault None e h = (tt, tt)
  by_lock holding fault (Some (Reader stream closed)) e h = (tt, tt)
  by_lock holding fault (Some (ByobReader (Some i) closed)) e h = either Fits (has_source i s) (holding i s) (replying.unsupported s) (λ there. h i closed e) (λ none. (tt, tt))
  by_lock holding fault (Some (ByobReader None closed)) e h = (tt, tt)
  by_lock holding fault (Some (Writer i)) e h = (tt, tt)
  by_lock holding fault (Some (ReleasedWriter w)) e h = (tt, tt)
  by_lock holding fault (Some Inner) e h = (tt, tt)

  pub into-asks : Fits (begin (ReadInto l room element least) s)
  unfolding begin
  into-asks =
      let fault : Fault = lock_calls.least_fault (length room) least in
      either Fits (not (lock_calls.is_view (length room) element)) (replying.unsupported s) _ (λ e. (tt, tt))
      (λ e. either Fits (not (lock_calls.has_least (length room) element least)) (lock_calls.refuse_least fault s (lock_at l s)) (lock_calls.by_byob_reader (lock_calls.read_into room element least) replying.rejected s (lock_at l s))
      (λ f. by_lock (λ i. replying.rejected_with fault) fault (lock_at l s) refl (λ i closed g. (tt, tt)))
      (λ f. by_lock (lock_calls.read_into room element least) TypeError (lock_at l s) refl (reads (least-room (length room) element least (not_not _ e) (not_not _ f)))))
