-- What an operation of a byte stream takes of the places of a realm.
use Rattle.std.proofs.Common.{◌≡◌, ◌≤◌, ℕ, ◌+◌, ◌*◌, [], ◌∷◌, ◌++◌, length, refl, arith}
use Rattle.ws_value.specs.declared.ids.StreamId.{StreamId}
use Rattle.ws_steps.specs.declared.byte.ByteOperation.{ByteOperation}
use Rattle.ws_steps.specs.declared.effects.Effect.{Effect}
use Rattle.ws_steps.specs.declared.effects.Effect.TheVariants.{PullAlgorithm, CancelAlgorithm, ChunkSteps, CloseSteps, CloseStepsWith, ErrorSteps}
use Rattle.ws_steps.specs.declared.readable.ReadableOperation.{ReadableOperation}
use Rattle.ws_steps.specs.Bytes as byte
use Rattle.ws_steps.specs.Effects.{Out}
use Rattle.ws_steps.specs.Operations.{readable_operation, byte_readable_operation, byte_operation}
use Rattle.ws_steps.specs.Places.{Prices, price, each, effect_price, prices_of, table_size, turns_alone, queued_alone, requests_alone, members_alone, descriptors_alone, readable_price, byte_price}
use Rattle.ws_steps.specs.Readable as readable
use Rattle.ws_room_laws.proofs.Bytes.{byte_holds, byte_readable-takes, byte-takes}
use Rattle.ws_room_laws.proofs.Readables.{prices-append}
use Rattle.ws_room_laws.proofs.Rows.{each-none}
use Rattle.ws_laws.proofs.ReadableDoes.{OfReadable, readable-does}
use Rattle.ws_laws.proofs.ByteDoes.{byte_readable-does, byte-does}
use Rattle.ws_performing.proofs.Keeps.{each-times}
use Rattle.ws_performing.proofs.Streams.{Took, each-one}

-- where turns, promises, jobs, events and host's numbers are for nothing, so is all that an operation of a readable stream causes

pub record IsFree (π : Prices) : Type 0 where
  pub turn : π.turn ≡ 0
  pub promise : π.promise ≡ 0
  pub job : π.job ≡ 0
  pub event : π.event ≡ 0
  pub host : π.host ≡ 0

module _ (π : Prices) (free : IsFree π) (i : StreamId) where
  abbrev Free : Out → Type 0
  Free x = prices_of π x.effects ≡ 0

  priced : (t p j e h : ℕ) → price π t p j e h 0 0 ≡ 0
  priced t p j e h = rw (free.turn, free.promise, free.job, free.event, free.host) (omega arith)

  one-free : (x : Out) (e : Effect) → effect_price π e ≡ 0 → Free x → prices_of π (x.effects ++ e ∷ []) ≡ 0
  one-free x e none h = let p = prices-append π x.effects (e ∷ []) in omega (arith, p, none, h)

  causes-free : OfReadable Free i
  causes-free = record {
    settle = λ x p o h. h;
    pull = λ x h. one-free x (PullAlgorithm i) (priced 3 1 1 1 1) h;
    cancel = λ x r p h. one-free x (CancelAlgorithm i r p) (priced 4 2 2 1 1) h;
    chunk = λ x q v h. one-free x (ChunkSteps i q v) (priced 2 0 1 0 0) h;
    close = λ x q h. one-free x (CloseSteps i q) (priced 2 0 1 0 0) h;
    error = λ x q e h. one-free x (ErrorSteps i q e) (priced 2 0 1 0 0) h;
  }

  pub readable-free : (operation : ReadableOperation) (a : readable.Acts) → Free a.out → Free (readable_operation i operation a).out
  readable-free operation a h = readable-does Free i causes-free operation a h

  pub byte_readable-free : (operation : ReadableOperation) (a : byte.Acts) → Free a.out → Free (byte_readable_operation i operation a).out
  byte_readable-free operation a h = byte_readable-does Free i causes-free operation a h

  pub byte-free : (operation : ByteOperation) (a : byte.Acts) → Free a.out → Free (byte_operation i operation a).out
  byte-free operation a h = byte-does Free i causes-free (λ x q b k. one-free x (CloseStepsWith i q b) (priced 2 0 1 0 0) k) operation a h

pub queued-free : IsFree queued_alone
queued-free = record { turn = refl; promise = refl; job = refl; event = refl; host = refl }

pub requests-free : IsFree requests_alone
requests-free = record { turn = refl; promise = refl; job = refl; event = refl; host = refl }

pub members-free : IsFree members_alone
members-free = record { turn = refl; promise = refl; job = refl; event = refl; host = refl }

pub descriptors-free : IsFree descriptors_alone
descriptors-free = record { turn = refl; promise = refl; job = refl; event = refl; host = refl }

-- what an operation takes of the lists of its stream, at these prices

pub record ByteTook (prices : Prices → ℕ) (a b : byte.Acts) : Type 0 where
  pub queued : Took (prices queued_alone) (length a.slots.queue + length a.slots.descriptors) (length b.slots.queue + length b.slots.descriptors) (prices_of queued_alone b.out.effects)
  pub requested : Took (prices requests_alone) (length a.slots.stream.requests) (length b.slots.stream.requests) (prices_of requests_alone b.out.effects)
  pub described : Took (prices descriptors_alone) (length a.slots.descriptors) (length b.slots.descriptors) (prices_of descriptors_alone b.out.effects)
  pub turns : prices_of turns_alone b.out.effects + 2 * length b.slots.stream.requests + 1 ≤ 2 * length a.slots.stream.requests + prices turns_alone
  pub free : (prices_of queued_alone b.out.effects ≡ 0) × (prices_of requests_alone b.out.effects ≡ 0)
  pub members : prices_of members_alone b.out.effects ≤ 0

-- the room that it holds
abbrev Holds : (Prices → ℕ) → byte.Acts → byte.Acts → Type 0
Holds prices a b = (π : Prices) (q r d : ℕ) → q ≤ π.queued → r ≤ π.request → d ≤ π.descriptor → byte_holds π q r d b + π.turn ≤ byte_holds π q r d a + prices π

abbrev Frees : byte.Acts → Type 0
Frees b = (π : Prices) → IsFree π → prices_of π b.out.effects ≡ 0

-- the lists of a stream, counted

record Counted (a : byte.Acts) : Type 0 where
  queue : each 1 a.slots.queue ≡ length a.slots.queue
  requests : each 1 a.slots.stream.requests ≡ length a.slots.stream.requests
  descriptors : each 1 a.slots.descriptors ≡ length a.slots.descriptors
  steps : each 2 a.slots.stream.requests ≡ length a.slots.stream.requests * 2
  no_queue : each 0 a.slots.queue ≡ 0
  no_requests : each 0 a.slots.stream.requests ≡ 0
  no_descriptors : each 0 a.slots.descriptors ≡ 0

counted : (a : byte.Acts) → Counted a
counted a = record {
  queue = each-one a.slots.queue;
  requests = each-one a.slots.stream.requests;
  descriptors = each-one a.slots.descriptors;
  steps = each-times 2 a.slots.stream.requests;
  no_queue = each-none a.slots.queue;
  no_requests = each-none a.slots.stream.requests;
  no_descriptors = each-none a.slots.descriptors;
}

took : (prices : Prices → ℕ) (a b : byte.Acts) → Holds prices a b → Frees b → a.out.effects ≡ [] → ByteTook prices a b
unfolding table_size
took prices a b holds frees quiet =
    let x = counted a in let y = counted b in
    let nq : prices_of queued_alone a.out.effects ≡ 0 = rw quiet refl in
    let nr : prices_of requests_alone a.out.effects ≡ 0 = rw quiet refl in
    let nd : prices_of descriptors_alone a.out.effects ≡ 0 = rw quiet refl in
    let nt : prices_of turns_alone a.out.effects ≡ 0 = rw quiet refl in
    let q = holds queued_alone 1 0 0 (omega arith) (omega arith) (omega arith) in
    let r = holds requests_alone 0 1 0 (omega arith) (omega arith) (omega arith) in
    let d = holds descriptors_alone 0 0 1 (omega arith) (omega arith) (omega arith) in
    let t = holds turns_alone 0 0 0 (omega arith) (omega arith) (omega arith) in
    let fq = frees queued_alone queued-free in
    let fr = frees requests_alone requests-free in
    let fd = frees descriptors_alone descriptors-free in
    let fm = frees members_alone members-free in
    record {
      queued = record { list = omega (arith, x, y, nq, q, fq); caused = omega (arith, fq) };
      requested = record { list = omega (arith, x, y, nr, r, fr); caused = omega (arith, fr) };
      described = record { list = omega (arith, x, y, nd, d, fd); caused = omega (arith, fd) };
      turns = omega (arith, x, y, nt, t);
      free = (fq, fr);
      members = omega (arith, fm);
    }

pub byte_readable-took : (me : StreamId) (operation : ReadableOperation) (a : byte.Acts) → a.out.effects ≡ [] → ByteTook (λ π. readable_price π me operation) a (byte_readable_operation me operation a)
byte_readable-took me operation a quiet =
    took (λ π. readable_price π me operation) a (byte_readable_operation me operation a) (λ π q r d l m k. byte_readable-takes π q r d me operation a l m k)
    (λ π free. byte_readable-free π free me operation a (rw quiet refl)) quiet

pub byte-took : (me : StreamId) (operation : ByteOperation) (a : byte.Acts) → a.out.effects ≡ [] → ByteTook (λ π. byte_price π operation) a (byte_operation me operation a)
byte-took me operation a quiet =
    took (λ π. byte_price π operation) a (byte_operation me operation a) (λ π q r d l m k. byte-takes π q r d me operation a l m k)
    (λ π free. byte-free π free me operation a (rw quiet refl)) quiet
