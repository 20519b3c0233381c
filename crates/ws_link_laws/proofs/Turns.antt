-- A turn of any effect keeps a link, and what is behind the host is short of what was.
use Rattle.std.proofs.Common.{◌≡◌, ℕ, Bool, true, false, ◌&&◌, nat_eq, if◌then◌else◌, List, [], ◌∷◌, ◌++◌, None, refl, sym, subst, Some, slice_get}
use Rattle.ws_value.specs.declared.ids.PipeId.{PipeId}
use Rattle.ws_value.specs.declared.ids.PromiseId.{PromiseId}
use Rattle.ws_value.specs.declared.ids.SignalId.{SignalId}
use Rattle.ws_value.specs.declared.ids.StreamId.{StreamId}
use Rattle.ws_value.specs.declared.value.Plain.{Plain}
use Rattle.ws_value.specs.declared.value.Value.{Value}
use Rattle.ws_steps.specs.declared.calls.HostCall.{HostCall}
use Rattle.ws_steps.specs.declared.calls.StartBy.TheVariants.{Now, Later}
use Rattle.ws_steps.specs.declared.effects.Effect.{Effect}
use Rattle.ws_steps.specs.declared.effects.Effect.TheVariants.{Readable as OnReadable, Byte as OnByte, Writable as OnWritable, Pipe as OnPipe, Signal as OnSignal, Transform as OnTransform, Tee as OnTee, Port as OnPort, StartAlgorithm, PullAlgorithm, CancelAlgorithm, WriteAlgorithm, CloseAlgorithm, AbortAlgorithm, ChunkSteps, CloseSteps, ErrorSteps, Give, Settle, Queue, CallHost}
use Rattle.ws_steps.specs.declared.effects.Owner.{Owner}
use Rattle.ws_steps.specs.declared.effects.Owner.TheVariants.{Host, HalfOf, BranchOf, EndOf}
use Rattle.ws_steps.specs.declared.effects.Use.{Use}
use Rattle.ws_steps.specs.declared.effects.Use.TheVariants.{React}
use Rattle.ws_steps.specs.declared.pipes.PipeOperation.TheVariants.{Abort as AbortPipe}
use Rattle.ws_steps.specs.declared.pipes.SignalOperation.{SignalOperation}
use Rattle.ws_steps.specs.declared.pipes.SignalOperation.TheVariants.{Add, Forget, Trigger}
use Rattle.ws_steps.specs.declared.promises.Step.TheVariants.{WritableClose}
use Rattle.ws_steps.specs.declared.readable.ReadRequest.TheVariants.{Promise, Pipe as PipeRequest, Tee as TeeRequest}
use Rattle.ws_steps.specs.declared.transform.TransformId.{TransformId}
use Rattle.ws_steps.specs.declared.transform.TransformOperation.{TransformOperation}
use Rattle.ws_steps.specs.Histories.{is_same}
use Rattle.ws_steps.specs.Slots.{Slots, source_at, writable_at, pipe_at, owner_at}
use Rattle.ws_steps.specs.Turns.{row, pull_algorithm, cancel_algorithm, write_algorithm, close_algorithm, abort_algorithm}
use Rattle.ws_flow.specs.Told.{Closed, Told, told, then_told, IsShortOf}
use Rattle.ws_flow.proofs.Told.{then_empty, short_refl, short_left, short_trans}
use Rattle.ws_laws.proofs.Lists.{Each, each-append}
use Rattle.ws_laws.proofs.Apart.{IsApart, IsNoPipe, row-pipes, row-streams}
use Rattle.ws_laws.proofs.Causes.{SignalCauses, row-causes}
use Rattle.ws_laws.proofs.Tables.{is_same-refl, same_id}
use Rattle.ws_pipe_laws.proofs.pipes.AtSource.{off-only, row-off}
use Rattle.ws_pipe_laws.proofs.pipes.PassingRuns.{row-few}
use Rattle.ws_link_laws.specs.Link.{Ear, silence, in_sink, in_source, in_pipe, ear_by, ear_at, is_sink, heard_call, unheard}
use Rattle.ws_link_laws.specs.Sound.{SinkFits, IsHosts, all_untied}
use Rattle.ws_link_laws.proofs.Ahead.{Ahead, ahead-kept, ahead-silent, row-ahead, closing-flies}
use Rattle.ws_link_laws.proofs.Hosts.{row-ear, row-giver, Hosts, hosts-source}
use Rattle.ws_link_laws.proofs.Telling.{is_of, if_same, tells, IsSilent, silent-all, hands, writes, chunks, coming, behind_on}
use Rattle.ws_link_laws.proofs.Unheard.{IsQuiet, row-unheard, call-unheard}
use Rattle.ws_link_laws.proofs.Sinks.{ended_lies}
use Rattle.ws_link_laws.proofs.Pipes.{rank}
use Rattle.ws_link_laws.proofs.Moves.{line, line-short, in_pipe-short, close-passes, heard-passes}
use Rattle.ws_link_laws.proofs.Standing.{IsInner, IsNotLast, at_end-append, state-same, Sound, split}
use Rattle.ws_link_laws.proofs.SourceTurns.{Turned, readable-turned, byte-turned}
use Rattle.ws_link_laws.proofs.SinkTurns.{writable-turned}
use Rattle.ws_link_laws.proofs.PipeTurns.{pipe-turned}
use Rattle.ws_link_laws.proofs.PortTurns.{Posts, SameEvents, TheChunk, TheClose, port-outside}
use Rattle.ws_link_laws.proofs.TransformTurns.{Says, AsBefore, Flushes, lets-short, transform-outside}
use Rattle.ws_steps.specs.declared.effects.Effect.TheVariants.{CloseStepsWith}
use Rattle.ws_link_laws.specs.Link.{giver_at, Giver}
use Rattle.ws_value.specs.declared.ids.TeeId.{TeeId}
use Rattle.ws_value.specs.declared.ids.PortId.{PortId}
use Rattle.ws_steps.specs.declared.tee.TeeOperation.{TeeOperation}
use Rattle.ws_steps.specs.declared.port.PortOperation.{PortOperation}
use Rattle.ws_steps.specs.Tee as tee
use Rattle.ws_laws.proofs.TeeDoes.{TeeCauses}
use Rattle.ws_transform_laws.proofs.Branches.{tee-caused}
use Rattle.ws_link_laws.proofs.Tees.{tee-coming, untied-at}
use Rattle.ws_steps.specs.declared.readable.ReadableOperation.TheVariants.{Read, Cancel as CancelStream, CancelIfReadable}
use Rattle.ws_flow.specs.Told.{Open}
use Rattle.ws_link_laws.proofs.PortTurns.{entangled, port-short}

-- an effect that is no operation and passes on what it brings
record Passing (w : Ear) (o : Giver) (i j : StreamId) (p : PipeId) (n : ℕ) (e : Effect) (cs : List Effect) : Type 0 where
  hands : tells (hands w) cs ≡ hands w e
  writes : tells (writes j) cs ≡ writes j e
  chunks : tells (chunks p) cs ≡ chunks p e
  coming : tells (coming o i) cs ≡ coming o i e
  inner : Each (IsInner i j p n) cs
  last : Each (IsNotLast p) cs

module _ (i j : StreamId) (p : PipeId) (s : Slots) (e : Effect) (es : List Effect) (apart : IsApart e) (far : IsNoPipe e) (h : Sound i j p s (e ∷ es)) where
  abbrev n : ℕ
  n = rank (pipe_at p s).phase

  streams : (row e s).slots.streams ≡ s.streams
  streams = row-streams e s apart

  pipes : (row e s).slots.pipes ≡ s.pipes
  pipes = row-pipes e s far

  sound-by : Each (IsInner i j p n) (row e s).caused → Each (IsNotLast p) (row e s).caused → Sound i j p (row e s).slots ((row e s).caused ++ es)
  sound-by inner last = record {
    state = state-same i j p s (row e s).slots streams pipes h.state;
    ahead = row-ahead i j s e es h.ahead;
    few = row-few p s e es h.few;
    only = off-only p i s e es (row-off p i s e far) h.only;
    inner = rw pipes (each-append (IsInner i j p n) (row e s).caused es inner h.inner.1);
    ends = at_end-append j p (row e s).caused es last h.ends.1;
  }

  passing-turned : IsQuiet (ear_at j s) e → Passing (ear_at j s) (giver_at i s) i j p n e (row e s).caused → Turned i j p s e es
  passing-turned quiet k = record {
    sound = sound-by k.inner k.last;
    short = rw (split i j p (row e s).slots (row e s).caused es, row-ear j e s, row-giver i e s, row-unheard (ear_at j s) e s quiet, k.hands, k.writes, k.chunks, k.coming, streams, pipes) (short_refl (behind_on i j p s (e ∷ es)));
  }

-- what each of them causes

quiet-if : (b : Bool) → then_told (if b then silence else silence) silence ≡ silence
quiet-if true = refl
quiet-if false = refl

pull-passing : (w : Ear) (v : Giver) (i j : StreamId) (p : PipeId) (n : ℕ) (k : StreamId) (u : Use) (o : Owner) → Passing w v i j p n (PullAlgorithm k) (pull_algorithm k u o)
pull-passing w v i j p n k u Host = record { hands = refl; writes = refl; chunks = refl; coming = refl; inner = (tt, tt); last = (refl, tt) }
pull-passing w v i j p n k u (HalfOf t) = record { hands = refl; writes = refl; chunks = refl; coming = quiet-if (is_of v t); inner = (tt, tt); last = (refl, tt) }
pull-passing w v i j p n k u (BranchOf t half) = record { hands = refl; writes = refl; chunks = refl; coming = refl; inner = (tt, (tt, tt)); last = (refl, (refl, tt)) }
pull-passing w v i j p n k u (EndOf c) = record { hands = refl; writes = refl; chunks = refl; coming = refl; inner = (tt, (tt, tt)); last = (refl, (refl, tt)) }

cancel-passing : (w : Ear) (v : Giver) (i j : StreamId) (p : PipeId) (n : ℕ) (k : StreamId) (r : Plain) (q : PromiseId) (u : Use) (o : Owner) → Passing w v i j p n (CancelAlgorithm k r q) (cancel_algorithm k r u o)
cancel-passing w v i j p n k r q u Host = record { hands = refl; writes = refl; chunks = refl; coming = refl; inner = (tt, tt); last = (refl, tt) }
cancel-passing w v i j p n k r q u (HalfOf t) = record { hands = refl; writes = refl; chunks = refl; coming = quiet-if (is_of v t); inner = (tt, tt); last = (refl, tt) }
cancel-passing w v i j p n k r q u (BranchOf t half) = record { hands = refl; writes = refl; chunks = refl; coming = refl; inner = (tt, tt); last = (refl, tt) }
cancel-passing w v i j p n k r q u (EndOf c) = record { hands = refl; writes = refl; chunks = refl; coming = refl; inner = (tt, tt); last = (refl, tt) }

abort-passing : (w : Ear) (v : Giver) (i j : StreamId) (p : PipeId) (n : ℕ) (k : StreamId) (r : Plain) (q : PromiseId) (u : Use) (o : Owner) → Passing w v i j p n (AbortAlgorithm k r q) (abort_algorithm k r u o)
abort-passing w v i j p n k r q u Host = record { hands = refl; writes = refl; chunks = refl; coming = refl; inner = (tt, tt); last = (refl, tt) }
abort-passing w v i j p n k r q u (HalfOf t) = record { hands = refl; writes = refl; chunks = refl; coming = quiet-if (is_of v t); inner = (tt, tt); last = (refl, tt) }
abort-passing w v i j p n k r q u (BranchOf t half) = record { hands = refl; writes = refl; chunks = refl; coming = refl; inner = (tt, tt); last = (refl, tt) }
abort-passing w v i j p n k r q u (EndOf c) = record { hands = refl; writes = refl; chunks = refl; coming = refl; inner = (tt, tt); last = (refl, tt) }

write-passing : (w : Ear) (v : Giver) (i j : StreamId) (p : PipeId) (n : ℕ) (k : StreamId) (o : Owner) → Passing w v i j p n (WriteAlgorithm k) (write_algorithm k o)
write-passing w v i j p n k Host = record { hands = refl; writes = rw (if_same (is_same j k)) refl; chunks = refl; coming = refl; inner = (tt, tt); last = (refl, tt) }
write-passing w v i j p n k (HalfOf t) = record { hands = refl; writes = refl; chunks = refl; coming = quiet-if (is_of v t); inner = (tt, tt); last = (refl, tt) }
write-passing w v i j p n k (BranchOf t half) = record { hands = refl; writes = rw (if_same (is_same j k)) refl; chunks = refl; coming = refl; inner = (tt, tt); last = (refl, tt) }
write-passing w v i j p n k (EndOf c) = record { hands = refl; writes = refl; chunks = refl; coming = refl; inner = (tt, tt); last = (refl, tt) }

close-elsewhere : (w : Ear) (v : Giver) (i j : StreamId) (p : PipeId) (n : ℕ) (k : StreamId) (o : Owner) → is_same j k ≡ false → is_sink w k ≡ false → Passing w v i j p n (CloseAlgorithm k) (close_algorithm k (React (WritableClose k) None) o)
close-elsewhere w v i j p n k Host d x = record { hands = rw x refl; writes = refl; chunks = refl; coming = refl; inner = (tt, tt); last = (refl, tt) }
close-elsewhere w v i j p n k (HalfOf t) d x = record { hands = refl; writes = refl; chunks = refl; coming = quiet-if (is_of v t); inner = (tt, tt); last = (refl, tt) }
close-elsewhere w v i j p n k (BranchOf t half) d x = record { hands = rw x refl; writes = refl; chunks = refl; coming = refl; inner = (tt, tt); last = (refl, tt) }
close-elsewhere w v i j p n k (EndOf c) d x = record { hands = refl; writes = refl; chunks = refl; coming = refl; inner = (tt, tt); last = (refl, tt) }

pub and_false : (b : Bool) → b && false ≡ false
and_false true = refl
and_false false = refl

pub signal-each : (P : Effect → Type 0) (operation : SignalOperation) → ((q : PipeId) (r : Plain) → P (OnPipe q (AbortPipe r))) → SignalCauses P operation
signal-each P (Trigger r) f = λ q. f q r
signal-each P (Add q) f = tt
signal-each P (Forget q) f = tt

signal-passing : (w : Ear) (v : Giver) (i j : StreamId) (p : PipeId) (n : ℕ) (a : SignalId) (operation : SignalOperation) (s : Slots) → Passing w v i j p n (OnSignal a operation) (row (OnSignal a operation) s).caused
signal-passing w v i j p n a operation s =
    let e : Effect = OnSignal a operation in
    let cs : List Effect = (row e s).caused in
    record {
      hands = silent-all (hands w) cs (row-causes (IsSilent (hands w)) e s (signal-each (IsSilent (hands w)) operation (λ q r. refl)));
      writes = silent-all (writes j) cs (row-causes (IsSilent (writes j)) e s (signal-each (IsSilent (writes j)) operation (λ q r. refl)));
      chunks = silent-all (chunks p) cs (row-causes (IsSilent (chunks p)) e s (signal-each (IsSilent (chunks p)) operation (λ q r. refl)));
      coming = silent-all (coming v i) cs (row-causes (IsSilent (coming v i)) e s (signal-each (IsSilent (coming v i)) operation (λ q r. refl)));
      inner = row-causes (IsInner i j p n) e s (signal-each (IsInner i j p n) operation (λ q r. tt));
      last = row-causes (IsNotLast p) e s (signal-each (IsNotLast p) operation (λ q r. and_false (nat_eq p.0 q.0)));
    }

-- an operation of a transform stream

says-by : (i j : StreamId) (s : Slots) (e : Effect) (es cs : List Effect) (U W P : Told Value) → SinkFits (writable_at j s) → Ahead i j s (e ∷ es) → Says (ear_at j s) e cs
    → IsShortOf (line U (then_told (tells (hands (ear_at j s)) cs) (tells (hands (ear_at j s)) es)) (in_sink (writable_at j s)) W P) (line U (then_told (hands (ear_at j s) e) (tells (hands (ear_at j s)) es)) (in_sink (writable_at j s)) W P)
says-by i j s e es cs U W P fits a (AsBefore same) = rw same (short_refl _)
says-by i j s e es cs U W P fits a (Flushes closing none flush) =
    rw (flush, none)
    (close-passes U (tells (hands (ear_at j s)) es) (in_sink (writable_at j s)) W P (ahead-silent i j s e es a) (ended_lies (ear_at j s) (writable_at j s) fits (a.first closing)))

transform-turned : (i j : StreamId) (p : PipeId) (s : Slots) (t : TransformId) (operation : TransformOperation) (es : List Effect) → Sound i j p s (OnTransform t operation ∷ es) → Turned i j p s (OnTransform t operation) es
transform-turned i j p s t operation es h =
    let e : Effect = OnTransform t operation in
    let cs : List Effect = (row e s).caused in
    let o = transform-outside i j p (rank (pipe_at p s).phase) t operation s h.ahead.hosts in
    let U : Told Value = unheard (ear_at j s) s.promises.events in
    let W : Told Value = tells (writes j) es in
    let K : Told Value = in_sink (writable_at j s) in
    let C : Told Value = tells (chunks p) es in
    let S : Told Value = in_source (source_at i s) in
    let M : Told Value = tells (coming (giver_at i s) i) es in
    let now : Told Value = in_pipe (pipe_at p s) (then_told C (then_told S (then_told (tells (coming (giver_at i s) i) cs) M))) in
    let before : Told Value = in_pipe (pipe_at p s) (then_told C (then_told S (then_told (coming (giver_at i s) i e) M))) in
    let H : Told Value = then_told (hands (ear_at j s) e) (tells (hands (ear_at j s)) es) in
    let lets = lets-short (giver_at i s) i (source_at i s) e cs M o.lets in
    record {
      sound = sound-by i j p s e es tt tt h o.inner o.last;
      short = rw (split i j p (row e s).slots cs es, row-ear j e s, row-giver i e s, row-unheard (ear_at j s) e s tt, o.writes, o.chunks, streams i j p s e es tt tt h, pipes i j p s e es tt tt h)
          (short_trans _ (line U H K W now) (line U H K W before)
          (says-by i j s e es cs U W now h.state.sink_fits h.ahead o.says)
          (line-short U H K W now before (in_pipe-short (pipe_at p s) _ _ (short_left C _ _ lets))));
    }

-- the reads and the cancel of a tee are of another stream than the link's source
pub tee-inner : (i j : StreamId) (p : PipeId) (n : ℕ) (s : Slots) (t : TeeId) (x : tee.Slots) → all_untied i s.tees ≡ true → slice_get s.tees t.0 ≡ Some x → (e : Effect)
    → TeeCauses t x.source x.branch1 x.branch2 e → IsInner i j p n e
tee-inner i j p n s t x u at (OnReadable k (Read request)) c = λ same. let other : is_same i k ≡ false = rw c.0 (untied-at i s.tees t.0 x u at) in absurd (cc)
tee-inner i j p n s t x u at (OnReadable k (CancelStream r q)) c = λ same. let other : is_same i k ≡ false = rw c.0 (untied-at i s.tees t.0 x u at) in absurd (cc)
tee-inner i j p n s t x u at (OnReadable k (CancelIfReadable r q)) c = absurd c
tee-inner i j p n s t x u at (OnByte k operation) c = absurd c
tee-inner i j p n s t x u at (OnWritable k operation) c = absurd c
tee-inner i j p n s t x u at _ c = tt

-- an operation of a tee

tee-passing : (i j : StreamId) (p : PipeId) (s : Slots) (t : TeeId) (operation : TeeOperation) → Hosts i j s
    → Passing (ear_at j s) (giver_at i s) i j p (rank (pipe_at p s).phase) (OnTee t operation) (row (OnTee t operation) s).caused
tee-passing i j p s t operation h =
    let e : Effect = OnTee t operation in
    let cs : List Effect = (row e s).caused in
    let n : ℕ = rank (pipe_at p s).phase in
    record {
      hands = silent-all (hands (ear_at j s)) cs (tee-caused (IsSilent (hands (ear_at j s))) t operation s (λ x at e c. no_hands x e c));
      writes = silent-all (writes j) cs (tee-caused (IsSilent (writes j)) t operation s (λ x at e c. no_writes x e c));
      chunks = silent-all (chunks p) cs (tee-caused (IsSilent (chunks p)) t operation s (λ x at e c. no_chunks x e c));
      coming = silent-all (coming (giver_at i s) i) cs (tee-caused (IsSilent (coming (giver_at i s) i)) t operation s (λ x at e c. tee-coming i s t x (hosts-source i j s h) at e c));
      inner = tee-caused (IsInner i j p n) t operation s (λ x at e c. tee-inner i j p n s t x h.untied at e c);
      last = tee-caused (IsNotLast p) t operation s (λ x at e c. not_last x e c);
    }
  where
    no_hands : (x : tee.Slots) (e : Effect) → TeeCauses t x.source x.branch1 x.branch2 e → IsSilent (hands (ear_at j s)) e
    no_hands x (CallHost call u) c = absurd c
    no_hands x (OnTransform u operation) c = absurd c
    no_hands x (OnPort d operation) c = absurd c
    no_hands x _ c = refl

    no_writes : (x : tee.Slots) (e : Effect) → TeeCauses t x.source x.branch1 x.branch2 e → IsSilent (writes j) e
    no_writes x (OnWritable k operation) c = absurd c
    no_writes x _ c = refl

    no_chunks : (x : tee.Slots) (e : Effect) → TeeCauses t x.source x.branch1 x.branch2 e → IsSilent (chunks p) e
    no_chunks x (ChunkSteps k request v) c = absurd c
    no_chunks x (OnPipe q operation) c = absurd c
    no_chunks x _ c = refl

    not_last : (x : tee.Slots) (e : Effect) → TeeCauses t x.source x.branch1 x.branch2 e → IsNotLast p e
    not_last x (OnPipe q operation) c = absurd c
    not_last x _ c = refl

-- an operation of a port

posts-by : (i j : StreamId) (s z : Slots) (e : Effect) (es : List Effect) (W P : Told Value) → SinkFits (writable_at j s) → Ahead i j s (e ∷ es) → Posts (ear_at j s) e s z
    → IsShortOf (line (unheard (ear_at j s) z.promises.events) (tells (hands (ear_at j s)) es) (in_sink (writable_at j s)) W P)
    (line (unheard (ear_at j s) s.promises.events) (then_told (hands (ear_at j s) e) (tells (hands (ear_at j s)) es)) (in_sink (writable_at j s)) W P)
posts-by i j s z e es W P fits a (SameEvents same none) = rw (same, none) (short_refl _)
posts-by i j s z e es W P fits a (TheChunk v heard stood) = rw (heard, stood) (heard-passes (unheard (ear_at j s) s.promises.events) (told (v ∷ []) Open) (tells (hands (ear_at j s)) es) (then_told (in_sink (writable_at j s)) (then_told W P)))
posts-by i j s z e es W P fits a (TheClose flush heard none) =
    let U : Told Value = unheard (ear_at j s) s.promises.events in
    let H : Told Value = tells (hands (ear_at j s)) es in
    let K : Told Value = in_sink (writable_at j s) in
    rw (heard, none)
    (short_trans _ (line U (then_told (told [] Closed) H) K W P) (line U H K W P)
    (heard-passes U (told [] Closed) H (then_told K (then_told W P)))
    (close-passes U H K W P (ahead-silent i j s e es a) (ended_lies (ear_at j s) (writable_at j s) fits (a.first flush))))

port-turned : (i j : StreamId) (p : PipeId) (s : Slots) (c : PortId) (operation : PortOperation) (es : List Effect) → Sound i j p s (OnPort c operation ∷ es) → Turned i j p s (OnPort c operation) es
port-turned i j p s c operation es h =
    let e : Effect = OnPort c operation in
    let z : Slots = (row e s).slots in
    let cs : List Effect = (row e s).caused in
    let o = port-outside i j s h.ahead.hosts c operation (entangled i j s c operation es h.ahead) p (rank (pipe_at p s).phase) in
    let W : Told Value = tells (writes j) es in
    let K : Told Value = in_sink (writable_at j s) in
    let C : Told Value = tells (chunks p) es in
    let S : Told Value = in_source (source_at i s) in
    let M : Told Value = tells (coming (giver_at i s) i) es in
    let U : Told Value = unheard (ear_at j s) s.promises.events in
    let now : Told Value = in_pipe (pipe_at p s) (then_told C (then_told S (then_told (tells (coming (giver_at i s) i) cs) M))) in
    let before : Told Value = in_pipe (pipe_at p s) (then_told C (then_told S (then_told (coming (giver_at i s) i e) M))) in
    let H : Told Value = then_told (hands (ear_at j s) e) (tells (hands (ear_at j s)) es) in
    let lets = port-short (giver_at i s) i (source_at i s) e cs M o.lets in
    record {
      sound = sound-by i j p s e es tt tt h o.inner o.last;
      short = rw (split i j p z cs es, row-ear j e s, row-giver i e s, o.hands, o.writes, o.chunks, streams i j p s e es tt tt h, pipes i j p s e es tt tt h)
          (short_trans _ (line U H K W now) (line U H K W before)
          (posts-by i j s z e es W now h.state.sink_fits h.ahead o.posts)
          (line-short U H K W now before (in_pipe-short (pipe_at p s) _ _ (short_left C _ _ lets))));
    }

-- a call of the host is heard of
call-turned : (i j : StreamId) (p : PipeId) (s : Slots) (call : HostCall) (u : Use) (es : List Effect) → Sound i j p s (CallHost call u ∷ es) → Turned i j p s (CallHost call u) es
unfolding row
call-turned i j p s call u es h =
    let e : Effect = CallHost call u in
    record {
      sound = sound-by i j p s e es tt tt h tt tt;
      short = rw (row-ear j e s, row-giver i e s, call-unheard (ear_at j s) call u s, streams i j p s e es tt tt h, pipes i j p s e es tt tt h)
          (heard-passes (unheard (ear_at j s) s.promises.events) (heard_call (ear_at j s) call) (tells (hands (ear_at j s)) es)
          (then_told (in_sink (writable_at j s)) (then_told (tells (writes j) es) (in_pipe (pipe_at p s) (then_told (tells (chunks p) es) (then_told (in_source (source_at i s)) (tells (coming (giver_at i s) i) es)))))));
    }

-- the close algorithm of the destination is performed

-- what it causes is nothing else of the link
close-quiet : (v : Giver) (i j : StreamId) (p : PipeId) (u : Use) (o : Owner) → (tells (writes j) (close_algorithm j u o) ≡ silence) × ((tells (chunks p) (close_algorithm j u o) ≡ silence) × (tells (coming v i) (close_algorithm j u o) ≡ silence))
close-quiet v i j p u Host = (refl, (refl, refl))
close-quiet v i j p u (HalfOf t) = (refl, (refl, quiet-if (is_of v t)))
close-quiet v i j p u (BranchOf t half) = (refl, (refl, refl))
close-quiet v i j p u (EndOf c) = (refl, (refl, refl))

close-told : (j : StreamId) (s : Slots) (u : Use) → Host ≡ owner_at j s → tells (hands (ear_at j s)) (close_algorithm j u (owner_at j s)) ≡ told [] Closed
close-told j s u e =
    let sink : is_sink (ear_at j s) j ≡ true = subst (λ (o : Owner). is_sink (ear_by j s o) j ≡ true) e (is_same-refl j) in
    subst (λ (o : Owner). tells (hands (ear_at j s)) (close_algorithm j u o) ≡ told [] Closed) e (rw sink refl)

record Closes (i j : StreamId) (p : PipeId) (s : Slots) (cs : List Effect) : Type 0 where
  hands : tells (hands (ear_at j s)) cs ≡ told [] Closed
  writes : tells (writes j) cs ≡ silence
  chunks : tells (chunks p) cs ≡ silence
  coming : tells (coming (giver_at i s) i) cs ≡ silence
  inner : Each (IsInner i j p (rank (pipe_at p s).phase)) cs
  last : Each (IsNotLast p) cs

closes-host : (i j : StreamId) (p : PipeId) (s : Slots) → Host ≡ owner_at j s → Closes i j p s (row (CloseAlgorithm j) s).caused
unfolding row
closes-host i j p s e =
    let u : Use = React (WritableClose j) None in
    let q = close-quiet (giver_at i s) i j p u (owner_at j s) in
    record { hands = close-told j s u e; writes = q.0; chunks = q.1.0; coming = q.1.1; inner = rw (← e) (tt, tt); last = rw (← e) (refl, tt) }

close-passing : (i j : StreamId) (p : PipeId) (s : Slots) (t : TransformId) → HalfOf t ≡ owner_at j s → Passing (ear_at j s) (giver_at i s) i j p (rank (pipe_at p s).phase) (CloseAlgorithm j) (row (CloseAlgorithm j) s).caused
unfolding row
close-passing i j p s t e = rw (← e) (record { hands = refl; writes = refl; chunks = refl; coming = quiet-if (is_of (giver_at i s) t); inner = (tt, tt); last = (refl, tt) })

end-passing : (i j : StreamId) (p : PipeId) (s : Slots) (c : PortId) → EndOf c ≡ owner_at j s → Passing (ear_at j s) (giver_at i s) i j p (rank (pipe_at p s).phase) (CloseAlgorithm j) (row (CloseAlgorithm j) s).caused
unfolding row
end-passing i j p s c e = rw (← e) (record { hands = refl; writes = refl; chunks = refl; coming = refl; inner = (tt, tt); last = (refl, tt) })

close-turned : (i j : StreamId) (p : PipeId) (s : Slots) (es : List Effect) (o : Owner) → o ≡ owner_at j s → Sound i j p s (CloseAlgorithm j ∷ es) → Turned i j p s (CloseAlgorithm j) es
close-turned i j p s es Host e h =
    let c : Effect = CloseAlgorithm j in
    let q = closes-host i j p s e in
    let ended : in_sink (writable_at j s) ≡ told [] Closed = ended_lies (ear_at j s) (writable_at j s) h.state.sink_fits (closing-flies j h.ahead.history s es (ahead-kept i j s (c ∷ es) h.ahead)) in
    record {
      sound = sound-by i j p s c es tt tt h q.inner q.last;
      short = rw (split i j p (row c s).slots (row c s).caused es, row-ear j c s, row-giver i c s, row-unheard (ear_at j s) c s tt, q.writes, q.chunks, q.coming, streams i j p s c es tt tt h, pipes i j p s c es tt tt h, q.hands)
          (close-passes (unheard (ear_at j s) s.promises.events) (tells (hands (ear_at j s)) es) (in_sink (writable_at j s)) (tells (writes j) es)
          (in_pipe (pipe_at p s) (then_told (tells (chunks p) es) (then_told (in_source (source_at i s)) (tells (coming (giver_at i s) i) es)))) (ahead-silent i j s c es h.ahead) ended);
    }
close-turned i j p s es (HalfOf t) e h = passing-turned i j p s (CloseAlgorithm j) es tt tt h tt (close-passing i j p s t e)
close-turned i j p s es (BranchOf t half) e h = absurd (subst (λ (o : Owner). IsHosts s o) (sym e) h.ahead.hosts.sink_kind)
close-turned i j p s es (EndOf c) e h = passing-turned i j p s (CloseAlgorithm j) es tt tt h tt (end-passing i j p s c e)

-- that of another stream
other-sink : (j k : StreamId) (s : Slots) (o : Owner) → is_same j k ≡ false → is_sink (ear_by j s o) k ≡ false
other-sink j k s Host n = n
other-sink j k s (HalfOf t) n = refl
other-sink j k s (BranchOf t half) n = n
other-sink j k s (EndOf c) n = refl

closes-turned : (i j : StreamId) (p : PipeId) (s : Slots) (k : StreamId) (es : List Effect) → Sound i j p s (CloseAlgorithm k ∷ es) → Turned i j p s (CloseAlgorithm k) es
unfolding row
closes-turned i j p s k es h = by (is_same j k) refl
  where
    by : (same : Bool) → same ≡ is_same j k → Turned i j p s (CloseAlgorithm k) es
    by false d = passing-turned i j p s (CloseAlgorithm k) es tt tt h tt (close-elsewhere (ear_at j s) (giver_at i s) i j p (rank (pipe_at p s).phase) k (owner_at k s) (sym d) (other-sink j k s (owner_at j s) (sym d)))
    by true d = subst (λ (x : StreamId). Sound i j p s (CloseAlgorithm x ∷ es) → Turned i j p s (CloseAlgorithm x) es) (same_id j k (sym d)) (close-turned i j p s es (owner_at j s) refl) h

-- each effect
pub row-turned : (i j : StreamId) (p : PipeId) (s : Slots) (e : Effect) (es : List Effect) → Sound i j p s (e ∷ es) → Turned i j p s e es
unfolding row
row-turned i j p s (OnReadable k operation) es h = readable-turned i j p s k operation es h
row-turned i j p s (OnByte k operation) es h = byte-turned i j p s k operation es h
row-turned i j p s (OnWritable k operation) es h = writable-turned i j p s k operation es h
row-turned i j p s (OnPipe q operation) es h = pipe-turned i j p s q operation es h
row-turned i j p s (OnSignal a operation) es h = passing-turned i j p s (OnSignal a operation) es tt tt h tt (signal-passing (ear_at j s) (giver_at i s) i j p (rank (pipe_at p s).phase) a operation s)
row-turned i j p s (OnTransform t operation) es h = transform-turned i j p s t operation es h
row-turned i j p s (OnTee t operation) es h = passing-turned i j p s (OnTee t operation) es tt tt h tt (tee-passing i j p s t operation h.ahead.hosts)
row-turned i j p s (OnPort c operation) es h = port-turned i j p s c operation es h
row-turned i j p s (StartAlgorithm k step Now) es h = passing-turned i j p s (StartAlgorithm k step Now) es tt tt h tt (record { hands = refl; writes = refl; chunks = refl; coming = refl; inner = (tt, tt); last = (refl, tt) })
row-turned i j p s (StartAlgorithm k step Later) es h =
    passing-turned i j p s (StartAlgorithm k step Later) es tt tt h tt (record { hands = refl; writes = refl; chunks = refl; coming = refl; inner = (tt, (tt, tt)); last = (refl, (refl, tt)) })
row-turned i j p s (PullAlgorithm k) es h = passing-turned i j p s (PullAlgorithm k) es tt tt h tt (pull-passing (ear_at j s) (giver_at i s) i j p (rank (pipe_at p s).phase) k _ (owner_at k s))
row-turned i j p s (CancelAlgorithm k r q) es h = passing-turned i j p s (CancelAlgorithm k r q) es tt tt h tt (cancel-passing (ear_at j s) (giver_at i s) i j p (rank (pipe_at p s).phase) k r q _ (owner_at k s))
row-turned i j p s (WriteAlgorithm k) es h = passing-turned i j p s (WriteAlgorithm k) es tt tt h tt (write-passing (ear_at j s) (giver_at i s) i j p (rank (pipe_at p s).phase) k (owner_at k s))
row-turned i j p s (CloseAlgorithm k) es h = closes-turned i j p s k es h
row-turned i j p s (AbortAlgorithm k r q) es h = passing-turned i j p s (AbortAlgorithm k r q) es tt tt h tt (abort-passing (ear_at j s) (giver_at i s) i j p (rank (pipe_at p s).phase) k r q _ (owner_at k s))
row-turned i j p s (ChunkSteps k (Promise q) v) es h = passing-turned i j p s (ChunkSteps k (Promise q) v) es tt tt h tt (record { hands = refl; writes = refl; chunks = refl; coming = refl; inner = tt; last = tt })
row-turned i j p s (ChunkSteps k (PipeRequest q) v) es h =
    passing-turned i j p s (ChunkSteps k (PipeRequest q) v) es tt tt h tt
    (record { hands = refl; writes = refl; chunks = then_empty (chunks p (ChunkSteps k (PipeRequest q) v)); coming = refl; inner = (tt, tt); last = (and_false (nat_eq p.0 q.0), tt) })
row-turned i j p s (ChunkSteps k (TeeRequest b) v) es h =
    passing-turned i j p s (ChunkSteps k (TeeRequest b) v) es tt tt h tt
    (record { hands = refl; writes = refl; chunks = then_empty (chunks p (ChunkSteps k (TeeRequest b) v)); coming = refl; inner = (tt, tt); last = (refl, tt) })
row-turned i j p s (CloseSteps k (Promise q)) es h = passing-turned i j p s (CloseSteps k (Promise q)) es tt tt h tt (record { hands = refl; writes = refl; chunks = refl; coming = refl; inner = tt; last = tt })
row-turned i j p s (CloseStepsWith k (Promise q) b) es h = passing-turned i j p s (CloseStepsWith k (Promise q) b) es tt tt h tt (record { hands = refl; writes = refl; chunks = refl; coming = refl; inner = tt; last = tt })
row-turned i j p s (CloseSteps k (PipeRequest q)) es h =
    passing-turned i j p s (CloseSteps k (PipeRequest q)) es tt tt h tt (record { hands = refl; writes = refl; chunks = refl; coming = refl; inner = (tt, tt); last = (and_false (nat_eq p.0 q.0), tt) })
row-turned i j p s (CloseSteps k (TeeRequest b)) es h =
    passing-turned i j p s (CloseSteps k (TeeRequest b)) es tt tt h tt (record { hands = refl; writes = refl; chunks = refl; coming = refl; inner = (tt, tt); last = (refl, tt) })
row-turned i j p s (CloseStepsWith k (PipeRequest q) b) es h =
    passing-turned i j p s (CloseStepsWith k (PipeRequest q) b) es tt tt h tt (record { hands = refl; writes = refl; chunks = refl; coming = refl; inner = (tt, tt); last = (and_false (nat_eq p.0 q.0), tt) })
row-turned i j p s (CloseStepsWith k (TeeRequest tee_id) b) es h =
    passing-turned i j p s (CloseStepsWith k (TeeRequest tee_id) b) es tt tt h tt (record { hands = refl; writes = refl; chunks = refl; coming = refl; inner = (tt, tt); last = (refl, tt) })
row-turned i j p s (ErrorSteps k (Promise q) r) es h = passing-turned i j p s (ErrorSteps k (Promise q) r) es tt tt h tt (record { hands = refl; writes = refl; chunks = refl; coming = refl; inner = tt; last = tt })
row-turned i j p s (ErrorSteps k (PipeRequest q) r) es h =
    passing-turned i j p s (ErrorSteps k (PipeRequest q) r) es tt tt h tt (record { hands = refl; writes = refl; chunks = refl; coming = refl; inner = (tt, tt); last = (and_false (nat_eq p.0 q.0), tt) })
row-turned i j p s (ErrorSteps k (TeeRequest b) r) es h =
    passing-turned i j p s (ErrorSteps k (TeeRequest b) r) es tt tt h tt (record { hands = refl; writes = refl; chunks = refl; coming = refl; inner = (tt, tt); last = (refl, tt) })
row-turned i j p s (Give gift u) es h = passing-turned i j p s (Give gift u) es tt tt h tt (record { hands = refl; writes = refl; chunks = refl; coming = refl; inner = tt; last = tt })
row-turned i j p s (Settle q o) es h = passing-turned i j p s (Settle q o) es tt tt h tt (record { hands = refl; writes = refl; chunks = refl; coming = refl; inner = tt; last = tt })
row-turned i j p s (Queue m) es h = passing-turned i j p s (Queue m) es tt tt h tt (record { hands = refl; writes = refl; chunks = refl; coming = refl; inner = tt; last = tt })
row-turned i j p s (CallHost call u) es h = call-turned i j p s call u es h
