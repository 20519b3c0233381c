-- What a read into a room is given or finished with, in every run (`each_room_is_whole`).
use Rattle.std.proofs.Common.{◌≡◌, ◌≤◌, ℕ, ◌*◌, not, List, [], ◌∷◌, length, Option, Some, None, slice_get, refl, ap, arith}
use Rattle.ws_value.specs.declared.fault.Fault.{Fault}
use Rattle.ws_value.specs.declared.fault.Fault.TheVariants.{TypeError}
use Rattle.std.specs.Option.{option_map}
use Rattle.ws_value.specs.declared.ids.{LockId.{LockId}, PipeId.{PipeId}, PromiseId.{PromiseId}, StreamId.{StreamId}}
use Rattle.ws_value.specs.declared.{value.Outcome.{Outcome}, value.Outcome.TheVariants.{Pending, Given, Finished}, value.Value.TheVariants.{Bytes}}
use Rattle.ws_steps.specs.declared.{calls.Call.{Call}, calls.Call.TheVariants.{ReadInto}, calls.Reply.{Reply}, calls.Reply.TheVariants.{Promise as Named}, effects.Effect.{Effect}}
use Rattle.ws_steps.specs.declared.locks.Lock.{Lock}
use Rattle.ws_steps.specs.declared.locks.Lock.TheVariants.{Reader, ByobReader, Writer, ReleasedWriter, Inner}
use Rattle.ws_steps.specs.declared.readable.{ReadRequest.{ReadRequest}, ReadRequest.TheVariants.{Pipe as PipeRequest, Tee as TeeRequest}}
use Rattle.ws_steps.specs.ByteLaws.{EachRoomIsWhole}
use Rattle.ws_steps.specs.Begun as replying
use Rattle.ws_steps.specs.LockCalls as lock_calls
use Rattle.ws_steps.specs.Begun.{Begun}
use Rattle.ws_steps.specs.Calls.{begin, named}
use Rattle.ws_steps.specs.Descriptors.{Descriptor}
use Rattle.ws_steps.specs.Promises.{Entry as PromiseEntry, Table, outcome_at, next_id, fresh}
use Rattle.ws_steps.specs.Run.{Entry, Called, run, reply_to, after_call, after_event}
use Rattle.ws_steps.specs.Slots.{Slots, Stream, ReadableStream, ByteStream, WritableStream, Done, has_byte, byte_at, has_source, lock_at, empty}
use Rattle.ws_steps.specs.Turns.{performed}
use Rattle.ws_steps.proofs.PromiseLaws.{entry_at-fresh_new}
use Rattle.ws_laws.proofs.ByteHands.{sum_of}
use Rattle.ws_laws.proofs.Tables.{either, byte_there}
use Rattle.ws_laws.proofs.Walker.{untold, performed-goes, run-stays}
use Rattle.ws_laws.proofs.Watched.{next-there}
use Rattle.ws_promise_laws.proofs.Acting.{waits-heard}
use Rattle.ws_promise_laws.proofs.Holds.{shut}
use Rattle.ws_promise_laws.proofs.Names.{in_all-there}
use Rattle.ws_promise_laws.proofs.Realm as tokens
use Rattle.ws_promise_laws.proofs.Runs as promise_runs
use Rattle.ws_promise_laws.proofs.Streams.{in_requests}
use Rattle.ws_promise_laws.proofs.Tokens.{of_request}
use Rattle.ws_pipe_laws.proofs.locks.Runs.{run-locked}
use Rattle.ws_room_read_laws.proofs.Filled.{Fills}
use Rattle.ws_room_read_laws.proofs.Pairs.{behind, Pairs}
use Rattle.ws_room_read_laws.specs.HandingOut.{EachClosedRoomIsHandedOut}
use Rattle.ws_room_read_laws.proofs.Fair.{AreFair, Even}
use Rattle.ws_room_read_laws.proofs.Handing.{even-handed}
use Rattle.ws_room_read_laws.proofs.Outcomes.{IsFairOutcome, Answered, answered-fresh, answered-row, answered-begin, answered-next, answered-watch, answered-new, answered-heard}
use Rattle.ws_room_read_laws.proofs.Rooms.{IsFairStream, AreFairStreams, Follows, Rooms, rooms-call, rooms-stay, call-streams}
use Rattle.ws_value.specs.declared.ids.TeeId.{TeeId}

-- over a run

module _ (w : ReadRequest → ℕ) (space unit least : ℕ) (pipeless : (p : PipeId) → w (PipeRequest p) ≡ 0) (teeless : (t : TeeId) → w (TeeRequest t) ≡ 0) (T : Table → Type 0) (follows : Follows w space unit least pipeless teeless T) where
  abbrev All : Slots → List Effect → Type 0
  All s es = Rooms w space unit least pipeless teeless T follows s es

  rooms-heard : (s : Slots) → All s [] → All (after_event s) []
  rooms-heard s k = record {
    locked = record { first = tt; each = λ d i. let b = k.locked.each d i in record { even = b.even; few = b.few }; waits = waits-heard s k.locked.waits; told = tt };
    sound = k.sound;
    told = tt;
    streams = k.streams;
    effects = tt;
    table = follows.heard s.promises _ refl k.table;
  }

  rooms-run : (xs : List Entry) (s : Slots) → All s [] → All (run xs s) []
  rooms-run xs s k = run-stays All (rooms-stay w space unit least pipeless teeless T follows) rooms-heard xs s k

  named-rooms : (reply : Reply) (s : Slots) → All s [] → All (named reply s) []
  named-rooms (Named p) s k = (rooms-stay w space unit least pipeless teeless T follows).answered s p k
  named-rooms _ s k = k

  -- what a call leaves, once it has begun
  rooms-after : (c : Call) (s : Slots) → All (begin c s).done.slots (begin c s).done.caused → All (after_call c s) []
  rooms-after c s k =
      let stays = rooms-stay w space unit least pipeless teeless T follows in
      let d : Done = (begin c s).done in
      let z : All (performed d) [] = performed-goes tt (λ f g. tt) untold (λ e s. tt) (λ h s es. All s es) (λ h s e es k. stays.row s e es k) tt d k in
      stays.older (named (begin c s).reply (performed d)) (named-rooms (begin c s).reply (performed d) z)

-- before the call no request weighs anything

abbrev no_weight : ReadRequest → ℕ
no_weight r = 0

abbrev Any : Table → Type 0
Any t = Unit {0}

follows-any : Follows no_weight 0 0 0 (λ p. refl) (λ t. refl) Any
follows-any = record { fresh = λ t k. refl; row = λ e s n k. tt; begins = λ c s k. tt; next = λ t k. tt; watched = λ p t k. tt; heard = λ t z e k. tt }

before-rooms : (entries : List Entry) → All no_weight 0 0 0 (λ p. refl) (λ t. refl) Any follows-any (run entries empty) []
before-rooms entries =
    rooms-run no_weight 0 0 0 (λ p. refl) (λ t. refl) Any follows-any entries empty
    (record { locked = run-locked []; sound = λ i. (λ is. cc, tt); told = tt; streams = λ i. tt; effects = tt; table = tt })

-- a new promise stands in no request

new-shut : (xs : List (Option PromiseEntry)) → slice_get xs (length xs) ≡ None
new-shut [] = refl
new-shut (x ∷ xs) = new-shut xs

new-nowhere : (s : Slots) → tokens.Sound (λ x. 0) s → tokens.firm_in (next_id s.promises) s ≤ 0
new-nowhere s k =
    let once = k.holds.once (next_id s.promises) in
    let none : slice_get s.promises.entries (length s.promises.entries) ≡ None = new-shut s.promises.entries in
    let closed : shut (next_id s.promises) s.promises ≡ 1 = rw none refl in
    omega (arith, once, closed)

sum-tokens : (q : PromiseId) (rs : List ReadRequest) → sum_of (of_request q) rs ≡ in_requests q rs
sum-tokens q [] = refl
sum-tokens q (r ∷ rs) = let n = sum-tokens q rs in omega (arith, n)

module _ (q : PromiseId) (space unit least : ℕ) where
  pairs-light : (rs : List ReadRequest) (ds : List Descriptor) → sum_of (of_request q) rs ≤ 0 → Pairs no_weight 0 0 0 rs ds → Pairs (of_request q) space unit least rs ds
  pairs-light [] [] n p = tt
  pairs-light [] (d ∷ ds) n p = absurd p
  pairs-light (r ∷ rs) [] n p = absurd p
  pairs-light (r ∷ rs) (d ∷ ds) n p = (
    record { room_kind = p.0.room_kind; room = λ o. absurd (omega (arith, o, n)); element = λ o. absurd (omega (arith, o, n)); minimum = λ o. absurd (omega (arith, o, n)) },
    pairs-light rs ds (omega (arith, n)) p.1,
  )

  stream-light : (o : Option Stream) → ((y : Stream) → o ≡ Some y → tokens.in_stream q y ≤ 0) → IsFairStream no_weight 0 0 0 o → IsFairStream (of_request q) space unit least o
  stream-light None few k = tt
  stream-light (Some (ReadableStream r)) few k = let z = few (ReadableStream r) refl in let m = sum-tokens q r.requests in omega (arith, z, m)
  stream-light (Some (WritableStream x)) few k = tt
  stream-light (Some (ByteStream b)) few k =
      let z = few (ByteStream b) refl in
      let m = sum-tokens q b.stream.requests in
      record { default = λ d s. omega (arith, z, m); pairs = λ d. pairs-light b.stream.requests (behind b.descriptors) (omega (arith, z, m)) (k.pairs d); closed = k.closed; none = k.none }

  streams-light : (s : Slots) → tokens.firm_in q s ≤ 0 → AreFairStreams no_weight 0 0 0 s → AreFairStreams (of_request q) space unit least s
  streams-light s n k i =
      stream-light (slice_get s.streams i.0) (λ y is. let few = in_all-there (tokens.in_stream q) i.0 s.streams y is in omega (arith, n, few)) (k i)

  follows-answered : Follows (of_request q) space unit least (λ p. refl) (λ t. refl) (Answered q space unit least)
  follows-answered = record {
    fresh = answered-fresh q space unit least;
    row = answered-row q space unit least;
    begins = answered-begin q space unit least;
    next = answered-next q space unit least;
    watched = answered-watch q space unit least;
    heard = answered-heard q space unit least;
  }

-- the call

module _ (room : List ℕ) (element least : ℕ) (s : Slots) where
  abbrev new : PromiseId
  new = next_id s.promises

  -- what it begins with
  record Begins (b : Begun) : Type 0 where
    effects : AreFair (of_request new) (length room) element (least * element) b.done.caused
    promise : (p : PromiseId) → b.reply ≡ Named p → (p ≡ new) × Answered new (length room) element (least * element) b.done.slots.promises

  fresh-answered : Answered new (length room) element (least * element) (fresh s.promises)
  fresh-answered =
      answered-new new (length room) element (least * element) (fresh s.promises) Pending
      (ap (λ (x : Option PromiseEntry). option_map (λ (e : PromiseEntry). e.outcome) x) (entry_at-fresh_new s.promises new refl)) tt (next-there s.promises)

  same_promise : (p q : PromiseId) → Named p ≡ Named q → q ≡ p
  same_promise p q e = cc

  unsupported-begins : Begins (replying.unsupported s)
  unsupported-begins = record { effects = tt; promise = λ p. λ e. absurd (cc) }

  rejected-begins : (fault : Fault) → Begins (replying.rejected_with fault s)
  rejected-begins fault = record { effects = (tt, tt); promise = λ p e. (same_promise new p e, fresh-answered) }

  reads-begins : (i : StreamId) → Begins (lock_calls.read_into room element least i s)
  reads-begins i = record { effects = (λ o. (refl, refl, refl), tt); promise = λ p e. (same_promise new p e, fresh-answered) }

  by_lock : (holding : StreamId → Slots → Begun) (fault : Fault) (lock : Option Lock) → ((i : StreamId) → Begins (holding i s)) → Begins (lock_calls.by_byob_reader holding (replying.rejected_with fault) s lock)
  by_lock holding fault None h = unsupported-begins
  by_lock holding fault (Some (Reader stream closed)) h = unsupported-begins
  by_lock holding fault (Some (ByobReader (Some i) closed)) h = either Begins (has_source i s) (holding i s) (replying.unsupported s) (λ there. h i) (λ none. unsupported-begins)
  by_lock holding fault (Some (ByobReader None closed)) h = rejected-begins fault
  by_lock holding fault (Some (Writer i)) h = unsupported-begins
  by_lock holding fault (Some (ReleasedWriter w)) h = unsupported-begins
  by_lock holding fault (Some Inner) h = unsupported-begins

  into-begins : (l : LockId) → Begins (begin (ReadInto l room element least) s)
  unfolding begin
  into-begins l =
      let fault : Fault = lock_calls.least_fault (length room) least in
      either Begins (not (lock_calls.is_view (length room) element)) (replying.unsupported s) _ (λ e. unsupported-begins)
      (λ e. either Begins (not (lock_calls.has_least (length room) element least)) (lock_calls.refuse_least fault s (lock_at l s)) (lock_calls.by_byob_reader (lock_calls.read_into room element least) replying.rejected s (lock_at l s))
      (λ f. by_lock (λ i. replying.rejected_with fault) fault (lock_at l s) (λ i. rejected-begins fault)) (λ f. by_lock (lock_calls.read_into room element least) TypeError (lock_at l s) reads-begins))

-- what the read has got by the end of a run
has-got : (before after : List Entry) (l : LockId) (room : List ℕ) (element least : ℕ) (p : PromiseId) (o : Outcome) → let s : Slots = run before empty in let c : Call = ReadInto l room element least in
    reply_to c s ≡ Named p → outcome_at (run (Called c ∷ after) s).promises p ≡ Some o → IsFairOutcome (next_id s.promises) (length room) element (least * element) o
has-got before after l room element least p o reply is =
    let s : Slots = run before empty in
    let c : Call = ReadInto l room element least in
    let q : PromiseId = next_id s.promises in
    let space : ℕ = length room in
    let low : ℕ = least * element in
    let k = before-rooms before in
    let b : Begins room element least s (begin c s) = into-begins room element least s l in
    let named = b.promise p reply in
    let begun = rooms-call no_weight 0 0 0 (λ p. refl) (λ t. refl) Any follows-any s c k in
    let streams = streams-light q space element low s (new-nowhere s (promise_runs.run-sound before)) k.streams in
    let now : All (of_request q) space element low (λ p. refl) (λ t. refl) (Answered q space element low) (follows-answered q space element low) (begin c s).done.slots (begin c s).done.caused = record {
      locked = begun.locked;
      sound = begun.sound;
      told = begun.told;
      streams = call-streams (of_request q) space element low (λ p. refl) (λ t. refl) c s streams;
      effects = b.effects;
      table = named.1;
    } in
    let later = rooms-after (of_request q) space element low (λ p. refl) (λ t. refl) (Answered q space element low) (follows-answered q space element low) c s now in
    let last = rooms-run (of_request q) space element low (λ p. refl) (λ t. refl) (Answered q space element low) (follows-answered q space element low) after (after_call c s) later in
    last.table.0 o (rw named.0 at is)

pub each_room_is_whole : EachRoomIsWhole
each_room_is_whole = record {
  given = λ before after l room element least p b reply is.
      let f : Fills (length room) element (least * element) b = has-got before after l room element least p (Given (Bytes b)) reply is in record { whole = f.whole; enough = f.enough; fits = f.fits };
  finished = λ before after l room element least p b reply is. has-got before after l room element least p (Finished (Bytes b)) reply is;
}

pub each_closed_room_is_handed_out : EachClosedRoomIsHandedOut
each_closed_room_is_handed_out entries i there c r =
    let s : Slots = run entries empty in
    let k = before-rooms entries in
    let even : Even no_weight 0 0 0 (byte_at i s) = rw (byte_there (slice_get s.streams i.0) there) at (k.streams i) in
    even-handed no_weight 0 0 0 i (byte_at i s) even c r
