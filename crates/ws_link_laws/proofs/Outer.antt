-- What a call begins with that leaves a link alone: its effects, the locks and pipes, and what enters (`Begins`).
use Rattle.std.proofs.Common.{◌≡◌, ℕ, zero, suc, true, false, nat_eq, List, [], ◌∷◌, ◌++◌, length, Option, Some, None, slice_get, slice_set, refl, arith}
use Rattle.ws_value.specs.declared.ids.PipeId.{PipeId}
use Rattle.ws_value.specs.declared.ids.StreamId.{StreamId}
use Rattle.ws_value.specs.declared.value.Value.{Value}
use Rattle.ws_steps.specs.declared.byte.ByteOperation.TheVariants.{InitializeByobReader, Enqueue as EnqueueBytes}
use Rattle.ws_steps.specs.declared.calls.HostCall.TheVariants.{Start as HostStart}
use Rattle.ws_steps.specs.declared.effects.Effect.{Effect}
use Rattle.ws_steps.specs.declared.effects.Effect.TheVariants.{Readable as OnReadable, Byte as OnByte, Writable as OnWritable, Pipe as OnPipe, Transform as OnTransform, CloseAlgorithm, ChunkSteps, CallHost}
use Rattle.ws_steps.specs.declared.locks.Lock.{Lock}
use Rattle.ws_steps.specs.declared.pipes.PipeOperation.TheVariants.{Abort as AbortPipe}
use Rattle.ws_steps.specs.declared.readable.ReadableOperation.TheVariants.{InitializeReader, Read as ReadChunk, Cancel as CancelStream, CancelIfReadable}
use Rattle.ws_steps.specs.declared.transform.TransformOperation.TheVariants.{TransformChunk, SinkClose}
use Rattle.ws_steps.specs.declared.writable.WritableOperation.TheVariants.{SetUpWriter, Write as WriteChunk, Close as CloseStream, ClosePropagating, HandOn}
use Rattle.ws_steps.specs.Begun.{Begun}
use Rattle.ws_steps.specs.Histories.{is_same}
use Rattle.ws_steps.specs.Queues.{is_empty}
use Rattle.ws_steps.specs.Slots.{Slots, Stream, has_source, has_writable, owner_at}
use Rattle.ws_flow.specs.Told.{Told, then_told, IsShortOf}
use Rattle.ws_laws.proofs.Lists.{Each}
use Rattle.ws_laws.proofs.Truth.{and_left, and_right}
use Rattle.ws_link_laws.specs.Link.{Ear, unheard, behind, giver_at}
use Rattle.ws_link_laws.specs.Sound.{spares, all_spare, AreApart, IsHosts}
use Rattle.ws_link_laws.proofs.Telling.{if_same, tells, IsSilent, writes, chunks, coming}
use Rattle.ws_link_laws.proofs.Late.{IsLate, Placed}
use Rattle.ws_link_laws.proofs.Standing.{IsInner, IsNotLast}
use Rattle.ws_steps.specs.declared.port.PortOperation.TheVariants.{PostChunk, Close as CloseByPort}
use Rattle.ws_steps.specs.declared.effects.Effect.TheVariants.{Port as OnPort}

-- effects with which a call begins that leaves the link alone
abbrev pub IsOuter : StreamId → StreamId → Effect → Type 0
IsOuter i j (OnReadable k (InitializeReader closed)) = is_same i k ≡ false
IsOuter i j (OnReadable k (ReadChunk request)) = is_same i k ≡ false
IsOuter i j (OnReadable k (CancelStream r q)) = is_same i k ≡ false
IsOuter i j (OnReadable k (CancelIfReadable r q)) = is_same i k ≡ false
IsOuter i j (OnByte k (InitializeByobReader closed)) = is_same i k ≡ false
IsOuter i j (OnByte k (EnqueueBytes b)) = is_empty b ≡ false
IsOuter i j (OnWritable k (SetUpWriter w)) = is_same j k ≡ false
IsOuter i j (OnWritable k (WriteChunk v q)) = is_same j k ≡ false
IsOuter i j (OnWritable k (CloseStream q)) = is_same j k ≡ false
IsOuter i j (OnWritable k (ClosePropagating q)) = is_same j k ≡ false
IsOuter i j (OnWritable k (HandOn taker)) = ⊥
IsOuter i j (OnPipe q (AbortPipe r)) = Unit {0}
IsOuter i j (OnPipe q operation) = ⊥
IsOuter i j (ChunkSteps k request v) = ⊥
IsOuter i j (OnTransform a (TransformChunk v d)) = ⊥
IsOuter i j (OnTransform a (SinkClose u)) = ⊥
IsOuter i j (OnPort c (PostChunk v d)) = ⊥
IsOuter i j (OnPort c (CloseByPort u)) = ⊥
IsOuter i j (CloseAlgorithm k) = ⊥
IsOuter i j (CallHost (HostStart k) u) = Unit {0}
IsOuter i j (CallHost call u) = ⊥
IsOuter i j _ = Unit {0}

pub outer-inner : (i j : StreamId) (p : PipeId) (n : ℕ) (e : Effect) → IsOuter i j e → IsInner i j p n e
outer-inner i j p n e o = grind (arith, o)

pub outer-last : (p : PipeId) (i j : StreamId) (e : Effect) → IsOuter i j e → IsNotLast p e
outer-last p i j e o = grind (arith, o)

pub outer-late : (w : Ear) (i j : StreamId) (e : Effect) → IsOuter i j e → IsLate w e
outer-late w i j e o = grind (arith, o)

pub outer-placed : (w : Ear) (s : Slots) (i j : StreamId) (e : Effect) → IsOuter i j e → Placed j w s e
outer-placed w s i j e o = grind (arith, o)

pub outer-writes : (i j : StreamId) (e : Effect) → IsOuter i j e → IsSilent (writes j) e
outer-writes i j e o = grind (arith, o, if_same)

pub outer-chunks : (p : PipeId) (i j : StreamId) (e : Effect) → IsOuter i j e → IsSilent (chunks p) e
outer-chunks p i j e o = grind (arith, o)

-- locks

pub spare-at : (i j : StreamId) (n : ℕ) (ls : List Lock) (l : Lock) → all_spare i j ls ≡ true → slice_get ls n ≡ Some l → spares i j l ≡ true
spare-at i j n [] l a e = cc
spare-at i j zero (k ∷ ls) l a e = let s = and_left (spares i j k) (all_spare i j ls) a in let is : k ≡ l = cc in rw is at s
spare-at i j (suc n) (k ∷ ls) l a e = spare-at i j n ls l (and_right (spares i j k) (all_spare i j ls) a) e

pub spare-set : (i j : StreamId) (n : ℕ) (ls : List Lock) (l : Lock) → all_spare i j ls ≡ true → spares i j l ≡ true → all_spare i j (slice_set ls n l) ≡ true
spare-set i j n [] l a s = a
spare-set i j zero (k ∷ ls) l a s = let b = and_right (spares i j k) (all_spare i j ls) a in rw (s, b) refl
spare-set i j (suc n) (k ∷ ls) l a s =
    let b = and_left (spares i j k) (all_spare i j ls) a in
    let c = spare-set i j n ls l (and_right (spares i j k) (all_spare i j ls) a) s in
    rw (b, c) refl

pub spare-append : (i j : StreamId) (ls ms : List Lock) → all_spare i j ls ≡ true → all_spare i j ms ≡ true → all_spare i j (ls ++ ms) ≡ true
spare-append i j [] ms a b = b
spare-append i j (k ∷ ls) ms a b =
    let c = and_left (spares i j k) (all_spare i j ls) a in
    let d = spare-append i j ls ms (and_right (spares i j k) (all_spare i j ls) a) b in
    rw (c, d) refl

-- a stream that is there isn't new

not_new : (xs : List Stream) (n : ℕ) (x : Stream) → slice_get xs n ≡ Some x → nat_eq n (length xs) ≡ false
not_new [] n x e = cc
not_new (y ∷ ys) zero x e = grind arith
not_new (y ∷ ys) (suc n) x e = let ih = not_new ys n x e in grind (arith, ih)

pub not-new : (k : StreamId) (xs : List Stream) → (x : Stream) × (slice_get xs k.0 ≡ Some x) → is_same k (record { 0 = length xs }) ≡ false
not-new k xs x = not_new xs k.0 x.0 x.1

stream_here : (o : Option Stream) → (o ≡ None → ⊥) → (x : Stream) × (o ≡ Some x)
stream_here None n = absurd (n refl)
stream_here (Some x) n = (x, refl)

pub source-here : (k : StreamId) (s : Slots) → has_source k s ≡ true → (x : Stream) × (slice_get s.streams k.0 ≡ Some x)
source-here k s h = stream_here (slice_get s.streams k.0) (λ none. let no : has_source k s ≡ false = rw none refl in cc)

pub sink-here : (k : StreamId) (s : Slots) → has_writable k s ≡ true → (x : Stream) × (slice_get s.streams k.0 ≡ Some x)
sink-here k s h = stream_here (slice_get s.streams k.0) (λ none. let no : has_writable k s ≡ false = rw none refl in cc)

-- what a call begins with, that enters t

pub record Begins (i j : StreamId) (p : PipeId) (s : Slots) (t : Told Value) (b : Begun) : Type 0 where
  pub locks : all_spare i j b.done.slots.locks ≡ true
  pub apart : AreApart i j p b.done.slots.pipes
  pub heard : (w : Ear) → unheard w b.done.slots.promises.events ≡ unheard w s.promises.events
  pub outer : Each (IsOuter i j) b.done.caused
  -- no call of the host's enqueues into a branch of a tee
  pub comes : IsHosts s (owner_at i s) → IsShortOf (then_told (behind i j p s) (tells (coming (giver_at i s) i) b.done.caused)) (then_told (behind i j p s) t)
