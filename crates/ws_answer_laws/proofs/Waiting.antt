-- The promise of a read that waits at a byte stream is pending.
use Rattle.std.proofs.Common.{◌≡◌, ℕ, ◌≤◌, not, List, [], ◌∷◌, All, Option, Some, None, slice_get, refl, sym, ap, arith}
use Rattle.std.proofs.lemmas.List.Elements.{All-nil, All-cons}
use Rattle.std.specs.Option.{option_map}
use Rattle.ws_value.specs.declared.{ids.PromiseId.{PromiseId}, ids.StreamId.{StreamId}}
use Rattle.ws_value.specs.declared.value.{Outcome.{Outcome}, Outcome.TheVariants.{Pending, Fulfilled, Given, Finished, Rejected}}
use Rattle.ws_steps.specs.declared.{readable.ReadRequest.{ReadRequest}, readable.ReadRequest.TheVariants.{Promise, Pipe, Tee}}
use Rattle.ws_steps.specs.Laws.{HasOutcome}
use Rattle.ws_steps.specs.Promises.{Entry, Table, entry_at, outcome_at, is_open_entry}
use Rattle.ws_steps.specs.Run.{Entry as Step, run}
use Rattle.ws_steps.specs.Slots.{Slots, Stream, ReadableStream, ByteStream, WritableStream, empty, byte_at, as_byte}
use Rattle.ws_promise_laws.proofs.Holds.{named}
use Rattle.ws_promise_laws.proofs.Names.{in_all-there}
use Rattle.ws_promise_laws.proofs.Realm.{in_stream, firm_in}
use Rattle.ws_promise_laws.proofs.Runs.{run-sound}
use Rattle.ws_promise_laws.proofs.Streams.{in_requests}
use Rattle.ws_promise_laws.proofs.Tokens.{one_if}

open-pending : (x : Option Entry) → one_if (not (is_open_entry x)) ≤ 0 → option_map (λ (e : Entry). e.outcome) x ≡ Some Pending
open-pending None n = absurd (omega arith)
open-pending (Some e) n = by e.outcome refl
  where
    by : (o : Outcome) → o ≡ e.outcome → Some e.outcome ≡ Some Pending
    by Pending h = ap (λ (o : Outcome). Some o) (sym h)
    by (Fulfilled v) h = let m : 1 ≤ 0 = rw (← h) at n in absurd (omega arith)
    by (Given v) h = let m : 1 ≤ 0 = rw (← h) at n in absurd (omega arith)
    by (Finished v) h = let m : 1 ≤ 0 = rw (← h) at n in absurd (omega arith)
    by (Rejected r) h = let m : 1 ≤ 0 = rw (← h) at n in absurd (omega arith)

-- the requests of a stream are some of those of the realm
in_realm : (p : PromiseId) (s : Slots) (n : ℕ) (place : Option Stream) → slice_get s.streams n ≡ place → in_requests p (as_byte place).stream.requests ≤ firm_in p s
in_realm p s n None e = omega arith
in_realm p s n (Some (ReadableStream r)) e = omega arith
in_realm p s n (Some (ByteStream b)) e = let m = in_all-there (in_stream p) n s.streams (ByteStream b) e in omega arith
in_realm p s n (Some (WritableStream w)) e = omega arith

waits-pending : (entries : List Step) (i : StreamId) (p : PromiseId) → let s : Slots = run entries empty in 1 ≤ in_requests p (byte_at i s).stream.requests → outcome_at s.promises p ≡ Some Pending
waits-pending entries i p n =
    let s : Slots = run entries empty in
    let once = (run-sound entries).holds.once p in
    let m = in_realm p s i.0 (slice_get s.streams i.0) refl in
    open-pending (entry_at s.promises p) (omega arith)

all-wait : (t : Table) (rs : List ReadRequest) → ((p : PromiseId) → 1 ≤ in_requests p rs → outcome_at t p ≡ Some Pending) → All (λ r. HasOutcome t r Pending) rs
all-wait t [] h = All-nil (λ r. HasOutcome t r Pending)
all-wait t (Pipe p ∷ rs) h = All-cons (λ r. HasOutcome t r Pending) (Pipe p) rs tt (all-wait t rs (λ q n. h q (omega (arith, n))))
all-wait t (Tee k ∷ rs) h = All-cons (λ r. HasOutcome t r Pending) (Tee k) rs tt (all-wait t rs (λ q n. h q (omega (arith, n))))
all-wait t (Promise p ∷ rs) h =
    All-cons (λ r. HasOutcome t r Pending) (Promise p) rs (h p (let n = named p in omega arith)) (all-wait t rs (λ q n. h q (omega arith)))

pub run-waiting : (entries : List Step) (i : StreamId) → All (λ r. HasOutcome (run entries empty).promises r Pending) (byte_at i (run entries empty)).stream.requests
run-waiting entries i = all-wait (run entries empty).promises (byte_at i (run entries empty)).stream.requests (waits-pending entries i)
