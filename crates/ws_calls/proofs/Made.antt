-- What a call or a job makes and hands on: pipes that have written nothing, no more transform streams and tees than streams, tees of streams of
-- their own, and one chunk of a tee at most.
use Rattle.std.proofs.Common.{◌≡◌, ◌≤◌, ◌<◌, true, Result, ℕ, zero, suc, ◌+◌, ◌⊎◌, inl, inr, ⊎_elim, List, [], ◌∷◌, ◌++◌, length, Option, Some, None, refl, sym, ap, length-append, arith}
use Rattle.std.specs.Prelude.{⊤, slice_get}
use Rattle.ws_value.specs.declared.ids.PromiseId.{PromiseId}
use Rattle.ws_value.specs.declared.ids.TeeId.{TeeId}
use Rattle.ws_value.specs.declared.value.Plain.{Plain}
use Rattle.ws_value.specs.declared.ids.StreamId.{StreamId}
use Rattle.ws_steps.specs.declared.calls.Call.{Call}
use Rattle.ws_steps.specs.declared.effects.Effect.{Effect}
use Rattle.ws_steps.specs.declared.port.Side.{Side}
use Rattle.ws_steps.specs.declared.port.Side.TheVariants.{Readable as ReadableSide, Writable as WritableSide}
use Rattle.ws_steps.specs.declared.promises.Job.{Job}
use Rattle.ws_steps.specs.declared.promises.Job.TheVariants.{Reaction, Follow, Settle, Micro as MicroJob}
use Rattle.ws_steps.specs.declared.promises.Micro.{Micro}
use Rattle.ws_steps.specs.declared.promises.Micro.TheVariants.{PipeLook, PipeWrite, PipeNoParts, TeeHand}
use Rattle.ws_steps.specs.declared.promises.Step.{Step}
use Rattle.ws_steps.specs.declared.tee.Half.TheVariants.{First, Second}
use Rattle.ws_steps.specs.Begun.{Begun}
use Rattle.ws_steps.specs.PipeCalls.{add_port, end_of}
use Rattle.ws_steps.specs.Calls.{begin}
use Rattle.ws_steps.specs.Jobs.{steps, returned, resolved, micro_steps, job_effects, job_begun, begin_job}
use Rattle.ws_steps.specs.Pipes as pipe
use Rattle.ws_steps.specs.Places.{prices_of, own, copies_alone}
use Rattle.ws_steps.specs.Promises.{after_next_job, fresh, next_id, next_job}
use Rattle.ws_steps.specs.Bytes as byte
use Rattle.ws_steps.specs.Readable as readable
use Rattle.ws_steps.specs.Tee as tee
use Rattle.ws_steps.specs.Transform as transform
use Rattle.ws_steps.specs.Writable as writable
use Rattle.ws_steps.specs.declared.effects.Owner.TheVariants.{Host, HalfOf, BranchOf}
use Rattle.ws_steps.specs.declared.readable.SizeBy.TheVariants.{Count}
use Rattle.ws_steps.specs.declared.transform.TransformId.{TransformId}
use Rattle.ws_steps.specs.Slots.{Slots, Stream, ReadableStream, ByteStream, WritableStream, Done, is_readable_stream}
use Rattle.ws_steps.proofs.PromiseLaws.{length-fresh}
use Rattle.ws_room_laws.proofs.Readables.{prices-append}
use Rattle.ws_room_laws.proofs.Room.{begin-fits}
use Rattle.ws_laws.proofs.Begin.{Makes}
use Rattle.ws_laws.proofs.EachCall.{each_call}
use Rattle.ws_tables.specs.Room.{AreCounted, IsCounted, HasFew, HaveOwnSources, AreSourced}
use Rattle.ws_tables.proofs.Counts.{counted-on, next-more}
use Rattle.ws_performing.proofs.Fits.{copies-within}
use Rattle.ws_performing.proofs.Keeps.{own-new}

-- each tee reads a stream that there was, and no two read the same; there is one tee more at most, and no stream fewer
abbrev pub Sourced : Slots → Done → Type 0
Sourced s d = HaveOwnSources (length s.streams) d.slots.tees × ((length s.streams ≤ length d.slots.streams) × (length d.slots.tees ≤ length s.tees + 1))

-- none of these effects hands a chunk on, but for the first
abbrev pub HandsFirst : List Effect → Type 0
HandsFirst [] = ⊤
HandsFirst (e ∷ es) = prices_of copies_alone es ≡ 0

-- an entry of a list to which one is added is one of the list, or that one
pub added : {X : Type 0} (xs : List X) (x y : X) (i : ℕ) → slice_get (xs ++ x ∷ []) i ≡ Some y → (slice_get xs i ≡ Some y) ⊎ ((i ≡ length xs) × (x ≡ y))
added [] x y zero is = inr (refl, cc)
added [] x y (suc i) is = cc
added (z ∷ zs) x y zero is = inl is
added (z ∷ zs) x y (suc i) is = ⊎_elim (λ h. inl h) (λ h. inr (ap suc h.0, h.1)) (added zs x y i is)

-- a new pipe has written nothing
counted-new : (n : ℕ) (xs : List pipe.Slots) (x : pipe.Slots) → x.unsettled ≡ 0 → AreCounted n xs → AreCounted n (xs ++ x ∷ [])
counted-new n xs x none h i y is =
    ⊎_elim (λ before. h i y before) (λ new. let e = ap (λ (z : pipe.Slots). z.unsettled) (sym new.1) in omega (arith, e, none)) (added xs x y i is)

pub counted-makes : Makes IsCounted
counted-makes = record {
  promise = λ s k. let h = length-fresh s.promises in counted-on _ _ s.pipes (omega (arith, h)) k;
  locks = λ s ls k. k;
  hosts = λ s hs k. k;
  pipe = λ s i j p a q k. counted-new (length s.promises.entries) s.pipes (pipe.set_up i j p a q) refl k;
  signal = λ s k. k;
  transform = λ s kind w r p k. k;
  tee = λ s source i j p k. k;
  port = λ s side i p k. k;
  readable = λ s o m b k. k;
  bytes = λ s m a k. k;
  byob_requests = λ s r k. k;
  writable = λ s o m b k. k;
}

begun-counted : (s : Slots) (job : Option Job) → IsCounted s → IsCounted (job_begun s job).slots
begun-counted s None k = k
begun-counted s (Some job) k = counted-on (length s.promises.entries) (length (after_next_job s.promises).entries) s.pipes (next-more s.promises) k

pub job-counted : (s : Slots) → IsCounted s → IsCounted (begin_job s).slots
unfolding begin_job
job-counted s k = begun-counted s (next_job s.promises) k

-- a port is added with one stream

port-few : (i : StreamId) (s : Slots) (side : Side) → HasFew s → HasFew (add_port i s side)
port-few i s ReadableSide few =
    let x = few.0 in let y = few.1 in
    let a = length-append s.streams (end_of (record { 0 = length s.ports }) ReadableSide ∷ []) in (omega (arith, a, x), omega (arith, a, y))
port-few i s WritableSide few =
    let x = few.0 in let y = few.1 in
    let a = length-append s.streams (end_of (record { 0 = length s.ports }) WritableSide ∷ []) in (omega (arith, a, x), omega (arith, a, y))

port-more : (i : StreamId) (s : Slots) (side : Side) → length s.streams ≤ length (add_port i s side).streams
port-more i s ReadableSide = let a = length-append s.streams (end_of (record { 0 = length s.ports }) ReadableSide ∷ []) in omega (arith, a)
port-more i s WritableSide = let a = length-append s.streams (end_of (record { 0 = length s.ports }) WritableSide ∷ []) in omega (arith, a)

port-tees : (i : StreamId) (s : Slots) (side : Side) → (add_port i s side).tees ≡ s.tees
port-tees i s ReadableSide = refl
port-tees i s WritableSide = refl

port-sourced : (i : StreamId) (s : Slots) (side : Side) → AreSourced s
    → HaveOwnSources (length s.streams) (add_port i s side).tees × ((length s.streams ≤ length (add_port i s side).streams) × (length (add_port i s side).tees ≤ length s.tees + 1))
port-sourced i s side own = rw (port-tees i s side) (own, (port-more i s side, omega arith))

-- a call that makes a transform stream makes two streams, and no other makes one

pub begin-few : (c : Call) (s : Slots) → HasFew s → HasFew (begin c s).done.slots
begin-few c s few = each_call (λ (b : Begun). HasFew b.done.slots) c s (record {
  unchanged = λ reply. few;
  rejected = λ fault. few;
  make_readable = λ mark size start. let x = few.0 in let y = few.1 in let a = length-append s.streams (ReadableStream (readable.set_up Host mark size) ∷ []) in (omega (arith, a, x), omega (arith, a, y));
  make_bytes = λ mark auto start. let x = few.0 in let y = few.1 in let a = length-append s.streams (ByteStream (byte.set_up mark auto) ∷ []) in (omega (arith, a, x), omega (arith, a, y));
  get_byob = λ i is e. few;
  release_byob = λ l closed i e. few;
  read_into = λ l i closed room element least e h. few;
  enqueue_bytes = λ i b e is some can. few;
  finish_bytes = λ i e is can. few;
  make_request = λ i reply is. few;
  respond = λ r i b e is can. few;
  make_writable = λ mark size start. let x = few.0 in let y = few.1 in let a = length-append s.streams (WritableStream (writable.set_up Host mark size) ∷ []) in (omega (arith, a, x), omega (arith, a, y));
  make_transform = λ kind m n start.
      let f = few.0 in let g = few.1 in
      let me : TransformId = record { 0 = length s.transforms } in
      let w : Stream = WritableStream (writable.set_up (HalfOf me) m Count) in
      let r : Stream = ReadableStream (readable.set_up (HalfOf me) n Count) in
      let z : transform.Slots = transform.set_up kind (record { 0 = length s.streams }) (record { 0 = length s.streams + 1 }) (next_id s.promises) in
      let a = length-append s.streams (w ∷ []) in
      let b = length-append (s.streams ++ w ∷ []) (r ∷ []) in
      let d = length-append s.transforms (z ∷ []) in
      (omega (arith, a, b, d, f), omega (arith, a, b, g));
  make_tee = λ source e there free untied.
      let f = few.0 in let g = few.1 in
      let me : TeeId = record { 0 = length s.tees } in
      let x : Stream = ReadableStream (readable.set_up (BranchOf me First) 1 Count) in
      let y : Stream = ReadableStream (readable.set_up (BranchOf me Second) 1 Count) in
      let z : tee.Slots = tee.set_up source (record { 0 = length s.streams }) (record { 0 = length s.streams + 1 }) (next_id (fresh s.promises)) in
      let a = length-append s.streams (x ∷ []) in
      let b = length-append (s.streams ++ x ∷ []) (y ∷ []) in
      let d = length-append s.tees (z ∷ []) in
      (omega (arith, a, b, f), omega (arith, a, b, d, g));
  get_reader = λ i e. few;
  get_writer = λ i e. few;
  release_reader = λ l closed i e. few;
  release_writer = λ l i w e f. few;
  cancel = λ reason i. few;
  read = λ l i closed e f. few;
  write = λ l v i e. few;
  close = λ i. few;
  abort = λ reason i e. few;
  enqueue = λ i v e o can. few;
  enqueue_half = λ i t v e o can. few;
  finish = λ i. few;
  fail_readable = λ i reason. few;
  fail_writable = λ i reason. few;
  fail_half = λ t reason. few;
  terminate = λ t. few;
  pipe = λ source dest prevent signal e f l m. few;
  make_signal = few;
  open_end = λ side. port-few (record { 0 = length s.streams }) s side few;
  send_readable = λ i there free. port-few (record { 0 = length s.streams }) s WritableSide few;
  send_writable = λ i there free. port-few (record { 0 = length s.streams }) s ReadableSide few;
  deliver = λ p m e is. few;
  trigger = λ a reason. few;
  settle = λ h answer p e. few;
})

-- a stream that is there has a number below their count
is-within : (xs : List Stream) (i : ℕ) → is_readable_stream (slice_get xs i) ≡ true → i < length xs
is-within [] i there = cc
is-within (x ∷ xs) zero there = omega arith
is-within (x ∷ xs) (suc i) there = let h = is-within xs i there in omega (arith, h)

-- the tees read streams of their own, after a call too

pub begin-sourced : (c : Call) (s : Slots) → AreSourced s → Sourced s (begin c s).done
begin-sourced c s own =
    let same : HaveOwnSources (length s.streams) s.tees × ((length s.streams ≤ length s.streams) × (length s.tees ≤ length s.tees + 1)) = (own, (omega arith, omega arith)) in
    each_call (λ (b : Begun). Sourced s b.done) c s (record {
      unchanged = λ reply. same;
      rejected = λ fault. same;
      make_readable = λ mark size start. let a = length-append s.streams (ReadableStream (readable.set_up Host mark size) ∷ []) in (own, (omega (arith, a), omega arith));
      make_bytes = λ mark auto start. let a = length-append s.streams (ByteStream (byte.set_up mark auto) ∷ []) in (own, (omega (arith, a), omega arith));
      get_byob = λ i is e. same;
      release_byob = λ l closed i e. same;
      read_into = λ l i closed room element least e h. same;
      enqueue_bytes = λ i b e is some can. same;
      finish_bytes = λ i e is can. same;
      make_request = λ i reply is. same;
      respond = λ r i b e is can. same;
      make_writable = λ mark size start. let a = length-append s.streams (WritableStream (writable.set_up Host mark size) ∷ []) in (own, (omega (arith, a), omega arith));
      make_transform = λ kind m n start.
          let me : TransformId = record { 0 = length s.transforms } in
          let w : Stream = WritableStream (writable.set_up (HalfOf me) m Count) in
          let r : Stream = ReadableStream (readable.set_up (HalfOf me) n Count) in
          let a = length-append s.streams (w ∷ []) in
          let b = length-append (s.streams ++ w ∷ []) (r ∷ []) in
          (own, (omega (arith, a, b), omega arith));
      make_tee = λ source e there free untied.
          let me : TeeId = record { 0 = length s.tees } in
          let x : Stream = ReadableStream (readable.set_up (BranchOf me First) 1 Count) in
          let y : Stream = ReadableStream (readable.set_up (BranchOf me Second) 1 Count) in
          let z : tee.Slots = tee.set_up source (record { 0 = length s.streams }) (record { 0 = length s.streams + 1 }) (next_id (fresh s.promises)) in
          let a = length-append s.streams (x ∷ []) in
          let b = length-append (s.streams ++ x ∷ []) (y ∷ []) in
          let d = length-append s.tees (z ∷ []) in
          (own-new (length s.streams) s.tees z (is-within s.streams source.0 there) untied own, (omega (arith, a, b), omega (arith, d)));
      get_reader = λ i e. same;
      get_writer = λ i e. same;
      release_reader = λ l closed i e. same;
      release_writer = λ l i w e f. same;
      cancel = λ reason i. same;
      read = λ l i closed e f. same;
      write = λ l v i e. same;
      close = λ i. same;
      abort = λ reason i e. same;
      enqueue = λ i v e o can. same;
      enqueue_half = λ i t v e o can. same;
      finish = λ i. same;
      fail_readable = λ i reason. same;
      fail_writable = λ i reason. same;
      fail_half = λ t reason. same;
      terminate = λ t. same;
      pipe = λ source dest prevent signal e f l m. same;
      make_signal = same;
      open_end = λ side. port-sourced (record { 0 = length s.streams }) s side own;
      send_readable = λ i there free. port-sourced (record { 0 = length s.streams }) s WritableSide own;
      send_writable = λ i there free. port-sourced (record { 0 = length s.streams }) s ReadableSide own;
      deliver = λ p m e is. same;
      trigger = λ a reason. same;
      settle = λ h answer p e. same;
    })

begun-few : (s : Slots) (job : Option Job) → HasFew s → HasFew (job_begun s job).slots
begun-few s None few = few
begun-few s (Some job) few = few

pub job-few : (s : Slots) → HasFew s → HasFew (begin_job s).slots
unfolding begin_job
job-few s few = begun-few s (next_job s.promises) few

begun-sourced : (s : Slots) (job : Option Job) → AreSourced s → Sourced s (job_begun s job)
begun-sourced s None own = (own, (omega arith, omega arith))
begun-sourced s (Some job) own = (own, (omega arith, omega arith))

pub job-sourced : (s : Slots) → AreSourced s → Sourced s (begin_job s)
unfolding begin_job
job-sourced s own = begun-sourced s (next_job s.promises) own

-- no call hands a chunk on, and of the jobs one microtask, which does nothing more

hands-none : (es : List Effect) → prices_of copies_alone es ≡ 0 → HandsFirst es
hands-none [] none = tt
hands-none (e ∷ es) none = omega (arith, none)

pub begin-hands : (c : Call) (s : Slots) → HandsFirst (begin c s).done.caused
begin-hands c s =
    let less = copies-within 0 s (begin c s).done.slots (begin c s).done.caused
    (λ i a. let h = begin-fits copies_alone i a (record { here = refl; others = λ j. omega arith }) s c in omega (arith, h)) in
    hands-none (begin c s).done.caused (omega (arith, less))

steps-hand : (step : Step) (outcome : Result Plain Plain) → prices_of copies_alone (steps step outcome) ≡ 0
steps-hand step outcome = grind arith

resolved-hands : (derived : Option PromiseId) (outcome : Result Plain Plain) → prices_of copies_alone (resolved derived outcome) ≡ 0
resolved-hands None outcome = refl
resolved-hands (Some p) outcome = refl

micro-hands : (m : Micro) → HandsFirst (micro_steps m)
micro-hands (PipeLook p) = refl
micro-hands (PipeWrite p) = refl
micro-hands (PipeNoParts p) = refl
micro-hands (TeeHand t) = refl

effects-hand : (job : Job) → HandsFirst (job_effects job)
effects-hand (Reaction step outcome derived) =
    let a = steps-hand step outcome in
    let b = resolved-hands derived (returned step outcome) in
    let c = prices-append copies_alone (steps step outcome) (resolved derived (returned step outcome)) in
    hands-none (job_effects (Reaction step outcome derived)) (omega (arith, a, b, c))
effects-hand (Follow p q) = tt
effects-hand (Settle p outcome) = refl
effects-hand (MicroJob m) = micro-hands m

begun-hands : (s : Slots) (job : Option Job) → HandsFirst (job_begun s job).caused
begun-hands s None = tt
begun-hands s (Some job) = effects-hand job

pub job-hands : (s : Slots) → HandsFirst (begin_job s).caused
unfolding begin_job
job-hands s = begun-hands s (next_job s.promises)
