-- A turn of any effect keeps a link of any ends: what its destination acts on, and what lies on it then, is short of what lay, and what is taken in.
use Rattle.std.proofs.Common.{◌≡◌, ℕ, Bool, true, false, nat_eq, List, [], ◌∷◌, ◌++◌, refl, sym, ap, subst, ◌∙◌}
use Rattle.ws_value.specs.declared.ids.PipeId.{PipeId}
use Rattle.ws_value.specs.declared.ids.PromiseId.{PromiseId}
use Rattle.ws_value.specs.declared.ids.SignalId.{SignalId}
use Rattle.ws_value.specs.declared.ids.StreamId.{StreamId}
use Rattle.ws_value.specs.declared.value.Plain.{Plain}
use Rattle.ws_value.specs.declared.value.Value.{Value}
use Rattle.ws_steps.specs.declared.calls.StartBy.TheVariants.{Now, Later}
use Rattle.ws_steps.specs.declared.effects.Effect.{Effect}
use Rattle.ws_steps.specs.declared.effects.Effect.TheVariants.{Readable as OnReadable, Writable as OnWritable, Pipe as OnPipe, Signal as OnSignal, Transform as OnTransform, Tee as OnTee, Port as OnPort, StartAlgorithm, PullAlgorithm, CancelAlgorithm, WriteAlgorithm, CloseAlgorithm, AbortAlgorithm, ChunkSteps, CloseSteps, ErrorSteps, Give, Settle, Queue, CallHost}
use Rattle.ws_steps.specs.declared.effects.Owner.{Owner}
use Rattle.ws_steps.specs.declared.effects.Owner.TheVariants.{Host, HalfOf, BranchOf, EndOf}
use Rattle.ws_steps.specs.declared.effects.Use.{Use}
use Rattle.ws_steps.specs.declared.pipes.SignalOperation.{SignalOperation}
use Rattle.ws_steps.specs.declared.readable.ReadRequest.TheVariants.{Promise, Pipe as PipeRequest, Tee as TeeRequest}
use Rattle.ws_steps.specs.declared.transform.TransformId.{TransformId}
use Rattle.ws_steps.specs.declared.transform.TransformOperation.{TransformOperation}
use Rattle.ws_steps.specs.Histories.{is_same}
use Rattle.ws_steps.specs.Slots.{Slots, writable_at, pipe_at, owner_at}
use Rattle.ws_steps.specs.Turns.{row, pull_algorithm, cancel_algorithm, write_algorithm, close_algorithm, abort_algorithm}
use Rattle.ws_steps.specs.WritableHistory.{writes_then, effect_writes}
use Rattle.ws_flow.specs.Told.{Closed, Told, told, then_told}
use Rattle.ws_flow.proofs.Told.{then_empty, short_refl, short_same, short_as}
use Rattle.ws_laws.proofs.Lists.{Each, each-append}
use Rattle.ws_laws.proofs.Apart.{IsApart, IsNoPipe, row-pipes, row-streams}
use Rattle.ws_laws.proofs.Causes.{row-causes}
use Rattle.ws_laws.proofs.Tables.{is_same-refl, same_id}
use Rattle.ws_pipe_laws.proofs.pipes.AtSource.{off-only, row-off}
use Rattle.ws_pipe_laws.proofs.pipes.PassingRuns.{row-few}
use Rattle.ws_transform_laws.proofs.Halving.{going}
use Rattle.ws_transform_laws.proofs.PortHalving.{port-going}
use Rattle.ws_link_laws.specs.Link.{OfSink, silence, in_sink}
use Rattle.ws_link_laws.proofs.Ahead.{closing-flies}
use Rattle.ws_link_laws.proofs.Pipes.{rank}
use Rattle.ws_link_laws.proofs.Sinks.{ended_lies}
use Rattle.ws_link_laws.proofs.Standing.{IsInner, IsNotLast, at_end-append, state-same}
use Rattle.ws_link_laws.proofs.Telling.{if_same, tells, IsSilent, silent-all, writes, chunks}
use Rattle.ws_link_laws.proofs.TransformTurns.{caused-writes, caused-chunks, caused-inner, caused-last}
use Rattle.ws_link_laws.proofs.Turns.{and_false, signal-each, tee-inner}
use Rattle.ws_identity_laws.specs.Passing.{effect_acts, effect_takes}
use Rattle.ws_identity_laws.proofs.Standing.{Stands, Turned, lies_on, split}
use Rattle.ws_identity_laws.proofs.SourceTurns.{readable-turned, byte-turned}
use Rattle.ws_identity_laws.proofs.SinkTurns.{stands-kept, writable-turned}
use Rattle.ws_identity_laws.proofs.PipeTurns.{pipe-turned}
use Rattle.ws_steps.specs.declared.effects.Effect.TheVariants.{Byte, CloseStepsWith}
use Rattle.ws_value.specs.declared.ids.TeeId.{TeeId}
use Rattle.ws_value.specs.declared.ids.PortId.{PortId}
use Rattle.ws_steps.specs.declared.tee.TeeOperation.{TeeOperation}
use Rattle.ws_steps.specs.declared.port.PortOperation.{PortOperation}
use Rattle.ws_steps.specs.Tee as tee
use Rattle.ws_laws.proofs.TeeDoes.{TeeCauses}
use Rattle.ws_transform_laws.proofs.Branches.{tee-caused}
use Rattle.ws_link_laws.proofs.Hosts.{untied-same}
use Rattle.ws_laws.proofs.Shapes.{row-owner, row-tee_shapes}
use Rattle.ws_link_laws.specs.Sound.{all_untied}
use Rattle.ws_transform_laws.proofs.Branches.{port-caused}
use Rattle.ws_link_laws.proofs.PortTurns.{port-writes, port-chunks, port-inner, port-last}

-- an effect that is no operation of an end or of a pipe, and passes on what it brings
record Passing (i j : StreamId) (p : PipeId) (n : ℕ) (e : Effect) (cs : List Effect) : Type 0 where
  writes : tells (writes j) cs ≡ writes j e
  chunks : tells (chunks p) cs ≡ chunks p e
  inner : Each (IsInner i j p n) cs
  last : Each (IsNotLast p) cs

module _ (i j : StreamId) (p : PipeId) (s : Slots) (e : Effect) (es : List Effect) (apart : IsApart e) (far : IsNoPipe e) (h : Stands i j p s (e ∷ es)) where
  abbrev n : ℕ
  n = rank (pipe_at p s).phase

  streams : (row e s).slots.streams ≡ s.streams
  streams = row-streams e s apart

  pipes : (row e s).slots.pipes ≡ s.pipes
  pipes = row-pipes e s far

  stands-by : Each (IsInner i j p n) (row e s).caused → Each (IsNotLast p) (row e s).caused → Stands i j p (row e s).slots ((row e s).caused ++ es)
  stands-by inner last = record {
    state = state-same i j p s (row e s).slots streams pipes h.state;
    history = writes_then h.history (effect_writes j e s);
    going = λ t. (going j t).row h.history s e es (h.going t);
    porting = λ c. (port-going j c).row h.history s e es (h.porting c);
    few = row-few p s e es h.few;
    only = off-only p i s e es (row-off p i s e far) h.only;
    inner = rw pipes (each-append (IsInner i j p n) (row e s).caused es inner h.inner.1);
    ends = at_end-append j p (row e s).caused es last h.ends.1;
    untied = untied-same i s (row e s).slots (row-tee_shapes e s) ∙ h.untied;
    sunk = rw (row-owner j e s) h.sunk;
  }

  lies-same : Passing i j p n e (row e s).caused → lies_on i j p (row e s).slots ((row e s).caused ++ es) ≡ lies_on i j p s (e ∷ es)
  lies-same k = rw (split i j p (row e s).slots (row e s).caused es, k.writes, k.chunks, streams, pipes) refl

  passing-turned : effect_acts j e s ≡ silence → effect_takes i e s ≡ silence → Passing i j p n e (row e s).caused → Turned i j p s e es
  passing-turned acts takes k =
      let before : Told Value = lies_on i j p s (e ∷ es) in
      let now : Told Value = lies_on i j p (row e s).slots ((row e s).caused ++ es) in
      record {
        stands = stands-by k.inner k.last;
        short = short_same (then_told (effect_acts j e s) now) before (then_told before (effect_takes i e s)) (ap (λ (x : Told Value). then_told x now) acts ∙ lies-same k)
            (short_as before before _ (sym (then_empty before) ∙ ap (λ (x : Told Value). then_told before x) (sym takes)) (short_refl before));
      }

-- what each of them causes

pull-passing : (i j : StreamId) (p : PipeId) (n : ℕ) (k : StreamId) (u : Use) (o : Owner) → Passing i j p n (PullAlgorithm k) (pull_algorithm k u o)
pull-passing i j p n k u Host = record { writes = refl; chunks = refl; inner = (tt, tt); last = (refl, tt) }
pull-passing i j p n k u (HalfOf t) = record { writes = refl; chunks = refl; inner = (tt, tt); last = (refl, tt) }
pull-passing i j p n k u (BranchOf t half) = record { writes = refl; chunks = refl; inner = (tt, (tt, tt)); last = (refl, (refl, tt)) }
pull-passing i j p n k u (EndOf c) = record { writes = refl; chunks = refl; inner = (tt, (tt, tt)); last = (refl, (refl, tt)) }

cancel-passing : (i j : StreamId) (p : PipeId) (n : ℕ) (k : StreamId) (r : Plain) (q : PromiseId) (u : Use) (o : Owner) → Passing i j p n (CancelAlgorithm k r q) (cancel_algorithm k r u o)
cancel-passing i j p n k r q u Host = record { writes = refl; chunks = refl; inner = (tt, tt); last = (refl, tt) }
cancel-passing i j p n k r q u (HalfOf t) = record { writes = refl; chunks = refl; inner = (tt, tt); last = (refl, tt) }
cancel-passing i j p n k r q u (BranchOf t half) = record { writes = refl; chunks = refl; inner = (tt, tt); last = (refl, tt) }
cancel-passing i j p n k r q u (EndOf c) = record { writes = refl; chunks = refl; inner = (tt, tt); last = (refl, tt) }

abort-passing : (i j : StreamId) (p : PipeId) (n : ℕ) (k : StreamId) (r : Plain) (q : PromiseId) (u : Use) (o : Owner) → Passing i j p n (AbortAlgorithm k r q) (abort_algorithm k r u o)
abort-passing i j p n k r q u Host = record { writes = refl; chunks = refl; inner = (tt, tt); last = (refl, tt) }
abort-passing i j p n k r q u (HalfOf t) = record { writes = refl; chunks = refl; inner = (tt, tt); last = (refl, tt) }
abort-passing i j p n k r q u (BranchOf t half) = record { writes = refl; chunks = refl; inner = (tt, tt); last = (refl, tt) }
abort-passing i j p n k r q u (EndOf c) = record { writes = refl; chunks = refl; inner = (tt, tt); last = (refl, tt) }

write-passing : (i j : StreamId) (p : PipeId) (n : ℕ) (k : StreamId) (o : Owner) → Passing i j p n (WriteAlgorithm k) (write_algorithm k o)
write-passing i j p n k Host = record { writes = rw (if_same (is_same j k)) refl; chunks = refl; inner = (tt, tt); last = (refl, tt) }
write-passing i j p n k (HalfOf t) = record { writes = refl; chunks = refl; inner = (tt, tt); last = (refl, tt) }
write-passing i j p n k (BranchOf t half) = record { writes = rw (if_same (is_same j k)) refl; chunks = refl; inner = (tt, tt); last = (refl, tt) }
write-passing i j p n k (EndOf c) = record { writes = refl; chunks = refl; inner = (tt, tt); last = (refl, tt) }

close-passing : (i j : StreamId) (p : PipeId) (n : ℕ) (k : StreamId) (u : Use) (o : Owner) → Passing i j p n (CloseAlgorithm k) (close_algorithm k u o)
close-passing i j p n k u Host = record { writes = refl; chunks = refl; inner = (tt, tt); last = (refl, tt) }
close-passing i j p n k u (HalfOf t) = record { writes = refl; chunks = refl; inner = (tt, tt); last = (refl, tt) }
close-passing i j p n k u (BranchOf t half) = record { writes = refl; chunks = refl; inner = (tt, tt); last = (refl, tt) }
close-passing i j p n k u (EndOf c) = record { writes = refl; chunks = refl; inner = (tt, tt); last = (refl, tt) }

signal-passing : (i j : StreamId) (p : PipeId) (n : ℕ) (a : SignalId) (operation : SignalOperation) (s : Slots) → Passing i j p n (OnSignal a operation) (row (OnSignal a operation) s).caused
signal-passing i j p n a operation s =
    let e : Effect = OnSignal a operation in
    let cs : List Effect = (row e s).caused in
    record {
      writes = silent-all (writes j) cs (row-causes (IsSilent (writes j)) e s (signal-each (IsSilent (writes j)) operation (λ q r. refl)));
      chunks = silent-all (chunks p) cs (row-causes (IsSilent (chunks p)) e s (signal-each (IsSilent (chunks p)) operation (λ q r. refl)));
      inner = row-causes (IsInner i j p n) e s (signal-each (IsInner i j p n) operation (λ q r. tt));
      last = row-causes (IsNotLast p) e s (signal-each (IsNotLast p) operation (λ q r. and_false (nat_eq p.0 q.0)));
    }

transform-passing : (i j : StreamId) (p : PipeId) (n : ℕ) (t : TransformId) (operation : TransformOperation) (s : Slots) → Passing i j p n (OnTransform t operation) (row (OnTransform t operation) s).caused
transform-passing i j p n t operation s =
    let e : Effect = OnTransform t operation in
    let cs : List Effect = (row e s).caused in
    record {
      writes = silent-all (writes j) cs (row-causes (IsSilent (writes j)) e s (λ m r u c. caused-writes j t m r u c));
      chunks = silent-all (chunks p) cs (row-causes (IsSilent (chunks p)) e s (λ m r u c. caused-chunks p t m r u c));
      inner = row-causes (IsInner i j p n) e s (λ m r u c. caused-inner i j p n t m r u c);
      last = row-causes (IsNotLast p) e s (λ m r u c. caused-last p t m r u c);
    }

-- an operation of a tee, of another source

tee-passing : (i j : StreamId) (p : PipeId) (n : ℕ) (t : TeeId) (operation : TeeOperation) (s : Slots) → all_untied i s.tees ≡ true → Passing i j p n (OnTee t operation) (row (OnTee t operation) s).caused
tee-passing i j p n t operation s u =
    let cs : List Effect = (row (OnTee t operation) s).caused in
    record {
      writes = silent-all (writes j) cs (tee-caused (IsSilent (writes j)) t operation s (λ x at e c. no_writes x e c));
      chunks = silent-all (chunks p) cs (tee-caused (IsSilent (chunks p)) t operation s (λ x at e c. no_chunks x e c));
      inner = tee-caused (IsInner i j p n) t operation s (λ x at e c. tee-inner i j p n s t x u at e c);
      last = tee-caused (IsNotLast p) t operation s (λ x at e c. not_last x e c);
    }
  where
    no_writes : (x : tee.Slots) (e : Effect) → TeeCauses t x.source x.branch1 x.branch2 e → IsSilent (writes j) e
    no_writes x (OnWritable k operation) c = absurd c
    no_writes x _ c = refl

    no_chunks : (x : tee.Slots) (e : Effect) → TeeCauses t x.source x.branch1 x.branch2 e → IsSilent (chunks p) e
    no_chunks x (ChunkSteps k request v) c = absurd c
    no_chunks x (OnPipe q operation) c = absurd c
    no_chunks x _ c = refl

    not_last : (x : tee.Slots) (e : Effect) → TeeCauses t x.source x.branch1 x.branch2 e → IsNotLast p e
    not_last x (OnPipe q operation) c = absurd c
    not_last x _ c = refl

-- an operation of a port

port-passing : (i j : StreamId) (p : PipeId) (n : ℕ) (c : PortId) (operation : PortOperation) (s : Slots) → Passing i j p n (OnPort c operation) (row (OnPort c operation) s).caused
port-passing i j p n c operation s =
    let cs : List Effect = (row (OnPort c operation) s).caused in
    record {
      writes = silent-all (writes j) cs (port-caused (IsSilent (writes j)) c operation s (λ x at e m. port-writes j c x.stream e m));
      chunks = silent-all (chunks p) cs (port-caused (IsSilent (chunks p)) c operation s (λ x at e m. port-chunks p c x.stream e m));
      inner = port-caused (IsInner i j p n) c operation s (λ x at e m. port-inner i j p n c x.stream e m);
      last = port-caused (IsNotLast p) c operation s (λ x at e m. port-last p c x.stream e m);
    }

-- the close algorithm of the destination is performed

close-turned : (i j : StreamId) (p : PipeId) (s : Slots) (es : List Effect) → Stands i j p s (CloseAlgorithm j ∷ es) → Turned i j p s (CloseAlgorithm j) es
unfolding row
close-turned i j p s es h =
    let e : Effect = CloseAlgorithm j in
    let k = close-passing i j p (rank (pipe_at p s).phase) j _ (owner_at j s) in
    let ended : in_sink (writable_at j s) ≡ told [] Closed = ended_lies (OfSink j) (writable_at j s) h.state.sink_fits (closing-flies j h.history s es (stands-kept i j p s (e ∷ es) h)) in
    record {
      stands = stands-by i j p s e es tt tt h k.inner k.last;
      short = rw (is_same-refl j, ended) (short_refl (told [] Closed));
    }

closes-turned : (i j : StreamId) (p : PipeId) (s : Slots) (k : StreamId) (es : List Effect) → Stands i j p s (CloseAlgorithm k ∷ es) → Turned i j p s (CloseAlgorithm k) es
unfolding row
closes-turned i j p s k es h = by (is_same j k) refl
  where
    by : (same : Bool) → same ≡ is_same j k → Turned i j p s (CloseAlgorithm k) es
    by false d = passing-turned i j p s (CloseAlgorithm k) es tt tt h (rw (sym d) refl) refl (close-passing i j p (rank (pipe_at p s).phase) k _ (owner_at k s))
    by true d = subst (λ (x : StreamId). Stands i j p s (CloseAlgorithm x ∷ es) → Turned i j p s (CloseAlgorithm x) es) (same_id j k (sym d)) (close-turned i j p s es) h

-- each effect
pub row-turned : (i j : StreamId) (p : PipeId) (s : Slots) (e : Effect) (es : List Effect) → Stands i j p s (e ∷ es) → Turned i j p s e es
unfolding row
row-turned i j p s (OnReadable k operation) es h = readable-turned i j p s k operation es h
row-turned i j p s (Byte k operation) es h = byte-turned i j p s k operation es h
row-turned i j p s (OnWritable k operation) es h = writable-turned i j p s k operation es h
row-turned i j p s (OnPipe q operation) es h = pipe-turned i j p s q operation es h
row-turned i j p s (OnSignal a operation) es h = passing-turned i j p s (OnSignal a operation) es tt tt h refl refl (signal-passing i j p (rank (pipe_at p s).phase) a operation s)
row-turned i j p s (OnTransform t operation) es h = passing-turned i j p s (OnTransform t operation) es tt tt h refl refl (transform-passing i j p (rank (pipe_at p s).phase) t operation s)
row-turned i j p s (OnTee t operation) es h = passing-turned i j p s (OnTee t operation) es tt tt h refl refl (tee-passing i j p (rank (pipe_at p s).phase) t operation s h.untied)
row-turned i j p s (OnPort t operation) es h = passing-turned i j p s (OnPort t operation) es tt tt h refl refl (port-passing i j p (rank (pipe_at p s).phase) t operation s)
row-turned i j p s (StartAlgorithm k step Now) es h = passing-turned i j p s (StartAlgorithm k step Now) es tt tt h refl refl (record { writes = refl; chunks = refl; inner = (tt, tt); last = (refl, tt) })
row-turned i j p s (StartAlgorithm k step Later) es h = passing-turned i j p s (StartAlgorithm k step Later) es tt tt h refl refl (record { writes = refl; chunks = refl; inner = (tt, (tt, tt)); last = (refl, (refl, tt)) })
row-turned i j p s (PullAlgorithm k) es h = passing-turned i j p s (PullAlgorithm k) es tt tt h refl refl (pull-passing i j p (rank (pipe_at p s).phase) k _ (owner_at k s))
row-turned i j p s (CancelAlgorithm k r q) es h = passing-turned i j p s (CancelAlgorithm k r q) es tt tt h refl refl (cancel-passing i j p (rank (pipe_at p s).phase) k r q _ (owner_at k s))
row-turned i j p s (WriteAlgorithm k) es h = passing-turned i j p s (WriteAlgorithm k) es tt tt h refl refl (write-passing i j p (rank (pipe_at p s).phase) k (owner_at k s))
row-turned i j p s (CloseAlgorithm k) es h = closes-turned i j p s k es h
row-turned i j p s (AbortAlgorithm k r q) es h = passing-turned i j p s (AbortAlgorithm k r q) es tt tt h refl refl (abort-passing i j p (rank (pipe_at p s).phase) k r q _ (owner_at k s))
row-turned i j p s (ChunkSteps k (Promise q) v) es h = passing-turned i j p s (ChunkSteps k (Promise q) v) es tt tt h refl refl (record { writes = refl; chunks = refl; inner = tt; last = tt })
row-turned i j p s (ChunkSteps k (PipeRequest q) v) es h =
    passing-turned i j p s (ChunkSteps k (PipeRequest q) v) es tt tt h refl refl
    (record { writes = refl; chunks = then_empty (chunks p (ChunkSteps k (PipeRequest q) v)); inner = (tt, tt); last = (and_false (nat_eq p.0 q.0), tt) })
row-turned i j p s (ChunkSteps k (TeeRequest b) v) es h =
    passing-turned i j p s (ChunkSteps k (TeeRequest b) v) es tt tt h refl refl
    (record { writes = refl; chunks = then_empty (chunks p (ChunkSteps k (TeeRequest b) v)); inner = (tt, tt); last = (refl, tt) })
row-turned i j p s (CloseSteps k (Promise q)) es h = passing-turned i j p s (CloseSteps k (Promise q)) es tt tt h refl refl (record { writes = refl; chunks = refl; inner = tt; last = tt })
row-turned i j p s (CloseStepsWith k (Promise q) b) es h = passing-turned i j p s (CloseStepsWith k (Promise q) b) es tt tt h refl refl (record { writes = refl; chunks = refl; inner = tt; last = tt })
row-turned i j p s (CloseSteps k (PipeRequest q)) es h = passing-turned i j p s (CloseSteps k (PipeRequest q)) es tt tt h refl refl (record { writes = refl; chunks = refl; inner = (tt, tt); last = (and_false (nat_eq p.0 q.0), tt) })
row-turned i j p s (CloseSteps k (TeeRequest b)) es h = passing-turned i j p s (CloseSteps k (TeeRequest b)) es tt tt h refl refl (record { writes = refl; chunks = refl; inner = (tt, tt); last = (refl, tt) })
row-turned i j p s (CloseStepsWith k (PipeRequest q) b) es h = passing-turned i j p s (CloseStepsWith k (PipeRequest q) b) es tt tt h refl refl (record { writes = refl; chunks = refl; inner = (tt, tt); last = (and_false (nat_eq p.0 q.0), tt) })
row-turned i j p s (CloseStepsWith k (TeeRequest tee_id) b) es h = passing-turned i j p s (CloseStepsWith k (TeeRequest tee_id) b) es tt tt h refl refl (record { writes = refl; chunks = refl; inner = (tt, tt); last = (refl, tt) })
row-turned i j p s (ErrorSteps k (Promise q) r) es h = passing-turned i j p s (ErrorSteps k (Promise q) r) es tt tt h refl refl (record { writes = refl; chunks = refl; inner = tt; last = tt })
row-turned i j p s (ErrorSteps k (PipeRequest q) r) es h = passing-turned i j p s (ErrorSteps k (PipeRequest q) r) es tt tt h refl refl (record { writes = refl; chunks = refl; inner = (tt, tt); last = (and_false (nat_eq p.0 q.0), tt) })
row-turned i j p s (ErrorSteps k (TeeRequest b) r) es h = passing-turned i j p s (ErrorSteps k (TeeRequest b) r) es tt tt h refl refl (record { writes = refl; chunks = refl; inner = (tt, tt); last = (refl, tt) })
row-turned i j p s (Give gift u) es h = passing-turned i j p s (Give gift u) es tt tt h refl refl (record { writes = refl; chunks = refl; inner = tt; last = tt })
row-turned i j p s (Settle q o) es h = passing-turned i j p s (Settle q o) es tt tt h refl refl (record { writes = refl; chunks = refl; inner = tt; last = tt })
row-turned i j p s (Queue m) es h = passing-turned i j p s (Queue m) es tt tt h refl refl (record { writes = refl; chunks = refl; inner = tt; last = tt })
row-turned i j p s (CallHost call u) es h = passing-turned i j p s (CallHost call u) es tt tt h refl refl (record { writes = refl; chunks = refl; inner = tt; last = tt })
