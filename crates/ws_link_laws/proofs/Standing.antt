-- What holds of a link at each moment of a step, with the effects that stand on the agenda.
use Rattle.std.proofs.Common.{◌≡◌, ◌⊎◌, inl, inr, ℕ, zero, suc, ◌+◌, ◌≤◌, Bool, true, false, ◌&&◌, nat_eq, List, [], ◌∷◌, ◌++◌, Some, slice_get, refl, arith}
use Rattle.ws_value.specs.declared.ids.PipeId.{PipeId}
use Rattle.ws_value.specs.declared.ids.StreamId.{StreamId}
use Rattle.ws_value.specs.declared.value.Value.{Value}
use Rattle.ws_steps.specs.declared.byte.ByteOperation.TheVariants.{InitializeByobReader, Enqueue as EnqueueBytes}
use Rattle.ws_steps.specs.declared.effects.Effect.{Effect}
use Rattle.ws_steps.specs.declared.effects.Effect.TheVariants.{Readable as OnReadable, Byte as OnByte, Writable as OnWritable, Pipe as OnPipe, ChunkSteps}
use Rattle.ws_steps.specs.declared.pipes.PipeOperation.TheVariants.{KeepChunk}
use Rattle.ws_steps.specs.declared.readable.ReadRequest.{ReadRequest}
use Rattle.ws_steps.specs.declared.readable.ReadRequest.TheVariants.{Promise, Pipe as PipeRequest, Tee as TeeRequest}
use Rattle.ws_steps.specs.declared.readable.ReadableOperation.TheVariants.{Read, Cancel, CancelIfReadable}
use Rattle.ws_steps.specs.declared.readable.ReadableState.TheVariants.{Closed as ReadableClosed}
use Rattle.ws_steps.specs.declared.writable.WritableOperation.TheVariants.{Close}
use Rattle.ws_steps.specs.Histories.{is_same}
use Rattle.ws_steps.specs.Queues.{is_empty}
use Rattle.ws_steps.specs.Slots.{Slots, has_source, has_writable, byte_at, source_at, writable_at, pipe_at}
use Rattle.ws_flow.specs.Told.{Told, then_told}
use Rattle.ws_laws.proofs.Lists.{Each}
use Rattle.ws_laws.proofs.PipeDoes.{is_looking}
use Rattle.ws_pipe_laws.specs.pipes.PipeReads.{is_of, in_streams}
use Rattle.ws_pipe_laws.proofs.pipes.AtSource.{Only}
use Rattle.ws_pipe_laws.proofs.pipes.PassingRuns.{Few, reads_now}
use Rattle.ws_pipe_laws.proofs.pipes.Reading.{of_effect}
use Rattle.ws_pipe_laws.specs.pipes.PipeReads as reads
use Rattle.ws_writable_laws.proofs.Shape.{all, all-append}
use Rattle.ws_link_laws.specs.Link.{silence, in_sink, in_source, in_pipe, ear_at, giver_at, unheard}
use Rattle.ws_link_laws.specs.Sound.{AreApart, IsBare, SourceFits, SinkFits, Closes}
use Rattle.ws_link_laws.proofs.Ahead.{Ahead}
use Rattle.ws_link_laws.proofs.Telling.{tells, tells-append, hands, writes, chunk_for, chunks, coming, behind_on}
use Rattle.ws_link_laws.proofs.Pipes.{rank}
use Rattle.ws_link_laws.proofs.Moves.{line}

-- what may stand on the agenda, with a pipe that is n far: at the source only the pipe's reads, and a cancel only once it acts; no BYOB reader
-- takes it, and bytes that are enqueued are some; and no close of the destination but the pipe's
abbrev pub IsInner : StreamId → StreamId → PipeId → ℕ → Effect → Type 0
IsInner i j p n (OnReadable k (Read request)) = is_same i k ≡ true → is_of p request ≡ 1
IsInner i j p n (OnReadable k (Cancel r q)) = is_same i k ≡ true → 2 ≤ n
IsInner i j p n (OnReadable k (CancelIfReadable r q)) = is_same i k ≡ true → 2 ≤ n
IsInner i j p n (OnByte k (InitializeByobReader c)) = is_same i k ≡ false
IsInner i j p n (OnByte k (EnqueueBytes b)) = is_empty b ≡ false
IsInner i j p n (OnWritable k (Close q)) = is_same j k ≡ false
IsInner i j p n _ = Unit {0}

inner_later : (i j : StreamId) (p : PipeId) (n m : ℕ) (e : Effect) → n ≤ m → IsInner i j p n e → IsInner i j p m e
inner_later i j p n m (OnReadable k (Cancel r q)) l h = λ x. let g = h x in omega (arith, l, g)
inner_later i j p n m (OnReadable k (CancelIfReadable r q)) l h = λ x. let g = h x in omega (arith, l, g)
inner_later i j p n m e l h = grind (arith, h)

pub inner-later : (i j : StreamId) (p : PipeId) (n m : ℕ) (es : List Effect) → n ≤ m → Each (IsInner i j p n) es → Each (IsInner i j p m) es
inner-later i j p n m [] l h = tt
inner-later i j p n m (e ∷ es) l h = (inner_later i j p n m e l h.0, inner-later i j p n m es l h.1)

-- operations of the pipe that may write or close, behind which nothing of the link stands

abbrev pub last_of : PipeId → Effect → Bool
last_of p (OnPipe q operation) = nat_eq p.0 q.0 && is_looking operation
last_of p _ = false

abbrev pub IsNotLast : PipeId → Effect → Type 0
IsNotLast p e = last_of p e ≡ false

pub record IsStill (j : StreamId) (p : PipeId) (es : List Effect) : Type 0 where
  pub writes : tells (writes j) es ≡ silence
  pub chunks : tells (chunks p) es ≡ silence

abbrev pub AtEnd : StreamId → PipeId → List Effect → Type 0
AtEnd j p [] = Unit {0}
AtEnd j p (e ∷ es) = (last_of p e ≡ true → IsStill j p es) × AtEnd j p es

pub at_end-append : (j : StreamId) (p : PipeId) (cs es : List Effect) → Each (IsNotLast p) cs → AtEnd j p es → AtEnd j p (cs ++ es)
at_end-append j p [] es n a = a
at_end-append j p (c ∷ cs) es n a = (λ e. let f = n.0 in absurd (cc), at_end-append j p cs es n.1 a)

-- what holds of the records of a link
pub record State (i j : StreamId) (p : PipeId) (s : Slots) : Type 0 where
  pub source : has_source i s ≡ true
  pub bare : IsBare (byte_at i s)
  pub sink : has_writable j s ≡ true
  pub there : slice_get s.pipes p.0 ≡ Some (pipe_at p s)
  pub from : (pipe_at p s).source ≡ i
  pub into : (pipe_at p s).dest ≡ j
  pub apart : AreApart i j p s.pipes
  pub source_fits : SourceFits p (source_at i s)
  pub sink_fits : SinkFits (writable_at j s)
  pub closes : Closes (pipe_at p s).phase (pipe_at p s).action ((source_at i s).state ≡ ReadableClosed)

pub state-same : (i j : StreamId) (p : PipeId) (s z : Slots) → z.streams ≡ s.streams → z.pipes ≡ s.pipes → State i j p s → State i j p z
state-same i j p s z e f k = record {
  source = rw e k.source;
  bare = rw e k.bare;
  sink = rw e k.sink;
  there = rw f k.there;
  from = rw f k.from;
  into = rw f k.into;
  apart = rw f k.apart;
  source_fits = rw e k.source_fits;
  sink_fits = rw e k.sink_fits;
  closes = rw (e, f) k.closes;
}

-- and of a link, with these effects on the agenda
pub record Sound (i j : StreamId) (p : PipeId) (s : Slots) (es : List Effect) : Type 0 where
  pub state : State i j p s
  pub ahead : Ahead i j s es
  pub few : Few p s es
  pub only : Only p i s.streams es
  pub inner : Each (IsInner i j p (rank (pipe_at p s).phase)) es
  pub ends : AtEnd j p es

-- after a turn, what was caused stands first
abbrev pub now : StreamId → StreamId → PipeId → Slots → List Effect → List Effect → Told Value
now i j p z cs es =
    line (unheard (ear_at j z) z.promises.events) (then_told (tells (hands (ear_at j z)) cs) (tells (hands (ear_at j z)) es)) (in_sink (writable_at j z)) (then_told (tells (writes j) cs) (tells (writes j) es))
    (in_pipe (pipe_at p z) (then_told (then_told (tells (chunks p) cs) (tells (chunks p) es)) (then_told (in_source (source_at i z)) (then_told (tells (coming (giver_at i z) i) cs) (tells (coming (giver_at i z) i) es)))))

pub split : (i j : StreamId) (p : PipeId) (z : Slots) (cs es : List Effect) → behind_on i j p z (cs ++ es) ≡ now i j p z cs es
split i j p z cs es = rw (tells-append (hands (ear_at j z)) cs es, tells-append (writes j) cs es, tells-append (chunks p) cs es, tells-append (coming (giver_at i z) i) cs es) refl

-- one chunk at most is on its way to the pipe

chunk_silent : (p : PipeId) (v : Value) (r : ReadRequest) → is_of p r ≡ 0 → chunk_for p v r ≡ silence
chunk_silent p v (Promise q) e = refl
chunk_silent p v (PipeRequest q) e = grind (arith, e)
chunk_silent p v (TeeRequest k) e = refl

pub chunks_silent : (p : PipeId) (e : Effect) → of_effect p e ≡ 0 → chunks p e ≡ silence
chunks_silent p (ChunkSteps k r v) e = chunk_silent p v r e
chunks_silent p (OnPipe q (KeepChunk v)) e = grind (arith, e)
chunks_silent p _ e = refl

pub chunks-silent : (p : PipeId) (es : List Effect) → all (of_effect p) es ≡ 0 → tells (chunks p) es ≡ silence
chunks-silent p [] e = refl
chunks-silent p (x ∷ es) e =
    let a : of_effect p x ≡ 0 = omega (arith, e) in
    let b : all (of_effect p) es ≡ 0 = omega (arith, e) in
    rw (chunks_silent p x a, chunks-silent p es b) refl

one_at_most : (b : Bool) → reads.one_if b ≤ 1
one_at_most true = omega arith
one_at_most false = omega arith

either_none : (n m : ℕ) → n + m ≤ 1 → (n ≡ 0) ⊎ (m ≡ 0)
either_none zero m l = inl refl
either_none (suc n) m l = inr (omega (arith, l))

pub chunks-apart : (p : PipeId) (s : Slots) (cs es : List Effect) → Few p s (cs ++ es) → (tells (chunks p) cs ≡ silence) ⊎ (tells (chunks p) es ≡ silence)
chunks-apart p s cs es w =
    let a = all-append (of_effect p) cs es in
    let m = one_at_most (reads_now (slice_get s.pipes p.0)) in
    by (either_none (all (of_effect p) cs) (all (of_effect p) es) (omega (arith, w, a, m)))
  where
    by : (all (of_effect p) cs ≡ 0) ⊎ (all (of_effect p) es ≡ 0) → (tells (chunks p) cs ≡ silence) ⊎ (tells (chunks p) es ≡ silence)
    by (inl e) = inl (chunks-silent p cs e)
    by (inr e) = inr (chunks-silent p es e)
