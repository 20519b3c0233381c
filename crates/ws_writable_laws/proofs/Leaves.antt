-- What an effect leaves of a writable stream where it is no operation of a stream: one of a pipe, a signal, a transform stream, a tee or a port, the steps of a request, an algorithm.
use Rattle.std.proofs.Common.{◌≡◌, Option, ◌+◌, List, [], ◌∷◌, None, slice_get, refl, arith, ℕ, ◌≤◌, false, Bool, true, Some, sym}
use Rattle.ws_value.specs.declared.ids.StreamId.{StreamId}
use Rattle.ws_value.specs.declared.ids.PipeId.{PipeId}
use Rattle.ws_value.specs.declared.ids.PromiseId.{PromiseId}
use Rattle.ws_value.specs.declared.ids.SignalId.{SignalId}
use Rattle.ws_value.specs.declared.ids.TeeId.{TeeId}
use Rattle.ws_value.specs.declared.value.Plain.{Plain}
use Rattle.ws_value.specs.declared.value.Value.{Value}
use Rattle.ws_steps.specs.declared.effects.Effect.{Effect}
use Rattle.ws_steps.specs.Promises.{Table}
use Rattle.ws_steps.specs.Slots.{Slots, Done, found as found_outside, ends_at, halves_at, owner_at, on_pipe_at, on_signal_at, on_transform_at, on_tee_at, writable_at}
use Rattle.ws_steps.specs.declared.{calls.Event.TheVariants.{Signal}}
use Rattle.ws_steps.specs.declared.effects.Effect.TheVariants.{Pipe, Signal, Transform, Tee, Port, PullAlgorithm, CancelAlgorithm, WriteAlgorithm, CloseAlgorithm, AbortAlgorithm, ChunkSteps, CloseSteps, ErrorSteps, Give}
use Rattle.ws_steps.specs.declared.{effects.Gift.TheVariants.{This}, effects.Use.TheVariants.{React}, pipes.PipeOperation.{PipeOperation}, pipes.SignalOperation.{SignalOperation}, readable.ReadRequest.{ReadRequest}, readable.ReadRequest.TheVariants.{Promise, Pipe as PipeRequest, Tee as TeeRequest}, promises.Step.{Step}}
use Rattle.ws_steps.specs.declared.{effects.Owner.{Owner}, effects.Owner.TheVariants.{Host, HalfOf, BranchOf, EndOf}, promises.Step.TheVariants.{ReadablePull, ReturnUndefined, WritableClose, WritableAbort}}
use Rattle.ws_steps.specs.declared.{transform.TransformId.{TransformId}, transform.TransformOperation.{TransformOperation}}
use Rattle.ws_steps.specs.Operations.{pipe_operation, signal_operation, transform_operation, tee_operation}
use Rattle.ws_steps.specs.Pipes as pipe
use Rattle.ws_steps.specs.Pipes.{abort_all}
use Rattle.ws_steps.specs.Transform as transform
use Rattle.ws_steps.specs.Tee as tee
use Rattle.ws_steps.specs.declared.tee.TeeOperation.{TeeOperation}
use Rattle.ws_laws.proofs.TeeDoes.{OfTee, tee-does}
use Rattle.ws_steps.specs.Turns.{chunk_steps, close_steps, error_steps, pull_algorithm, cancel_algorithm, write_algorithm, close_algorithm, abort_algorithm}
use Rattle.ws_steps.specs.Histories.{is_same}
use Rattle.ws_laws.proofs.Tables.{same_id}
use Rattle.ws_laws.proofs.Lists.{Each}
use Rattle.ws_laws.proofs.PipeDoes.{IsStepOf, PipeCauses, OfPipe, pipe-causes, pipe-does}
use Rattle.ws_laws.proofs.TransformDoes.{transform-does}
use Rattle.ws_laws.proofs.Weights.{weigh-micro, weigh-fresh, weigh-settle, weigh-answer}
use Rattle.ws_writable_laws.proofs.Shape.{is_start, is_write, is_close, is_abort, leads_to, hands, closes, all, mass, weight, of_reaction, of_transform, of_tee, of_port}
use Rattle.ws_writable_laws.proofs.Transforms.{IsPlain, transform-leads, transform-hands, transform-alone, start-plain, write-plain, close-plain, abort-plain, weight-transform}
use Rattle.ws_writable_laws.proofs.Operations.{later_effects}
use Rattle.ws_writable_laws.proofs.Ports.{port-leads, port-hands, port-alone, weight-port}
use Rattle.ws_laws.proofs.PortDoes.{port-does}
use Rattle.ws_value.specs.declared.ids.PortId.{PortId}
use Rattle.ws_steps.specs.Cross as cross
use Rattle.ws_steps.specs.declared.{port.PortOperation.{PortOperation}, promises.Step.TheVariants.{PortUnblocked}}
use Rattle.ws_steps.specs.Operations.{port_operation}
use Rattle.ws_steps.specs.Slots.{on_port_at, clones_at}
use Rattle.ws_writable_laws.proofs.Handed.{NoHalf, NoEnd}
use Rattle.ws_steps.specs.Turns.{close_steps_with}
use Rattle.ws_steps.specs.declared.effects.Effect.TheVariants.{CloseStepsWith}

pub none_behind : (i : StreamId) (cs : List Effect) → all (hands i) cs ≡ 0 → all (hands i) (later_effects cs) ≡ 0
none_behind i cs z = grind arith

-- no effect of these concerns stream i
pub record Clear (i : StreamId) (cs : List Effect) : Type 0 where
  pub starts : all (leads_to (is_start i)) cs ≡ 0
  pub writes : all (leads_to (is_write i)) cs ≡ 0
  pub closes_on : all (leads_to (is_close i)) cs ≡ 0
  pub aborts : all (leads_to (is_abort i)) cs ≡ 0
  pub hands : all (hands i) cs ≡ 0
  pub closes : all (closes i) cs ≡ 0

pub massless : (i : StreamId) (cs : List Effect) → all (mass i) cs ≡ 0 → Clear i cs
massless i [] z = record { starts = refl; writes = refl; closes_on = refl; aborts = refl; hands = refl; closes = refl }
massless i (c ∷ cs) z = let n = massless i cs (omega arith) in record { starts = omega arith; writes = omega arith; closes_on = omega arith; aborts = omega arith; hands = omega arith; closes = omega arith }

-- what an effect leaves and causes that is no operation of stream i; a stream of the host has as much to hand on as before
pub record Leaves (i : StreamId) (e : Effect) (s z : Slots) (cs : List Effect) : Type 0 where
  pub there : slice_get z.streams i.0 ≡ None → slice_get s.streams i.0 ≡ None
  pub place : writable_at i z ≡ writable_at i s
  pub alone : all (hands i) (later_effects cs) ≡ 0
  pub hands : owner_at i s ≡ Host → NoHalf i s → NoEnd i s → all (hands i) cs ≡ hands i e
  pub closes : all (closes i) cs ≡ 0
  pub starts : weight (is_start i) z.promises + all (leads_to (is_start i)) cs ≤ weight (is_start i) s.promises + leads_to (is_start i) e
  pub writes : weight (is_write i) z.promises + all (leads_to (is_write i)) cs ≤ weight (is_write i) s.promises + leads_to (is_write i) e
  pub closes_on : weight (is_close i) z.promises + all (leads_to (is_close i)) cs ≤ weight (is_close i) s.promises + leads_to (is_close i) e
  pub aborts : weight (is_abort i) z.promises + all (leads_to (is_abort i)) cs ≤ weight (is_abort i) s.promises + leads_to (is_abort i) e

-- what a pipe causes has no part in what is under way

pipe_step-mass : (p : PipeId) (step : Step) (i : StreamId) → IsStepOf p step → mass i (Give (This (record { 0 = 0 })) (React step None)) ≡ 0
pipe_step-mass p step i c = grind arith

pipe_effect-mass : (i : StreamId) (p : PipeId) (source dest : StreamId) (e : Effect) → PipeCauses p source dest e → mass i e ≡ 0
pipe_effect-mass i p source dest e c = grind (arith, pipe_step-mass)

pipe-mass : (i : StreamId) (p : PipeId) (source dest : StreamId) (es : List Effect) → Each (PipeCauses p source dest) es → all (mass i) es ≡ 0
pipe-mass i p source dest [] c = refl
pipe-mass i p source dest (e ∷ es) c = let h = pipe_effect-mass i p source dest e c.0 in let k = pipe-mass i p source dest es c.1 in omega (arith, h, k)

weight-pipe : (f : Step → ℕ) (t : Table) → OfPipe (λ z. weight f z ≤ weight f t)
weight-pipe f t = record {
  fresh = λ z h. let k = weigh-fresh (of_reaction f) z in omega (arith, h, k);
  settle = λ z p o h. let k = weigh-settle (of_reaction f) p o z in omega (arith, h, k);
  micro = λ z m h. let k = weigh-micro (of_reaction f) m z in omega (arith, h, k);
}

pub pipe-leaves : (i : StreamId) (p : PipeId) (operation : PipeOperation) (s : Slots) (o : Option pipe.Slots)
    → let d : Done = on_pipe_at (λ ends. pipe_operation p ends operation) p s o in Leaves i (Pipe p operation) s d.slots d.caused
pipe-leaves i p operation s None = grind arith
pipe-leaves i p operation s (Some x) =
    let a : pipe.Acts = record { slots = x; out = found_outside s } in
    let b : pipe.Acts = pipe_operation p (ends_at x s) operation a in
    let c = massless i b.out.effects (pipe-mass i p x.source x.dest b.out.effects (pipe-causes p (ends_at x s) operation a tt).1.1) in
    let n = none_behind i b.out.effects c.hands in
    let w : (f : Step → ℕ) → weight f b.out.promises ≤ weight f s.promises =
    λ f. pipe-does (λ z. weight f z ≤ weight f s.promises) (weight-pipe f s.promises) p (ends_at x s) operation a (omega arith) in
    let w1 = w (is_start i) in let w2 = w (is_write i) in let w3 = w (is_close i) in let w4 = w (is_abort i) in
    record {
      there = λ e. e;
      place = refl;
      alone = n;
      hands = λ o apart free. c.hands;
      closes = c.closes;
      starts = omega (arith, w1, c.starts);
      writes = omega (arith, w2, c.writes);
      closes_on = omega (arith, w3, c.closes_on);
      aborts = omega (arith, w4, c.aborts);
    }

abort_all-mass : (i : StreamId) (r : Plain) (ps : List PipeId) → all (mass i) (abort_all r ps) ≡ 0
abort_all-mass i r [] = refl
abort_all-mass i r (p ∷ ps) = let h = abort_all-mass i r ps in omega (arith, h)

signal-mass : (i : StreamId) (operation : SignalOperation) (x : pipe.Signal) → all (mass i) (signal_operation operation x).effects ≡ 0
signal-mass i operation x = grind (arith, abort_all-mass)

pub signal-leaves : (i : StreamId) (a : SignalId) (operation : SignalOperation) (s : Slots) (o : Option pipe.Signal)
    → let d : Done = on_signal_at (signal_operation operation) a s o in Leaves i (Signal a operation) s d.slots d.caused
signal-leaves i a operation s None = grind arith
signal-leaves i a operation s (Some x) =
    let es : List Effect = (signal_operation operation x).effects in
    let c = massless i es (signal-mass i operation x) in
    let n = none_behind i es c.hands in
    record {
      there = λ e. e;
      place = refl;
      alone = n;
      hands = λ o apart free. c.hands;
      closes = c.closes;
      starts = omega (arith, c.starts);
      writes = omega (arith, c.writes);
      closes_on = omega (arith, c.closes_on);
      aborts = omega (arith, c.aborts);
    }

pub chunk-leaves : (i j : StreamId) (v : Value) (s : Slots) (request : ReadRequest) → Leaves i (ChunkSteps j request v) s (chunk_steps v s request).slots (chunk_steps v s request).caused
chunk-leaves i j v s (Promise p) = grind (arith, weigh-answer)
chunk-leaves i j v s (PipeRequest p) = grind arith
chunk-leaves i j v s (TeeRequest t) = grind arith

pub closing-leaves : (i j : StreamId) (s : Slots) (request : ReadRequest) → Leaves i (CloseSteps j request) s (close_steps s request).slots (close_steps s request).caused
closing-leaves i j s (Promise p) = grind (arith, weigh-answer)
closing-leaves i j s (PipeRequest p) = grind arith
closing-leaves i j s (TeeRequest t) = grind arith

pub closing_with-leaves : (i j : StreamId) (b : List ℕ) (s : Slots) (request : ReadRequest) → Leaves i (CloseStepsWith j request b) s (close_steps_with b s request).slots (close_steps_with b s request).caused
closing_with-leaves i j b s (Promise p) = grind (arith, weigh-answer)
closing_with-leaves i j b s (PipeRequest p) = grind arith
closing_with-leaves i j b s (TeeRequest t) = grind arith

pub erring-leaves : (i j : StreamId) (e : Plain) (s : Slots) (request : ReadRequest) → Leaves i (ErrorSteps j request e) s (error_steps e s request).slots (error_steps e s request).caused
erring-leaves i j e s (Promise p) = grind (arith, weigh-settle)
erring-leaves i j e s (PipeRequest p) = grind arith
erring-leaves i j e s (TeeRequest t) = grind arith

-- an operation of a transform stream

pub transform-leaves : (i : StreamId) (t : TransformId) (operation : TransformOperation) (s : Slots) (o : Option transform.Slots) → slice_get s.transforms t.0 ≡ o
    → let d : Done = on_transform_at (λ halves. transform_operation t halves operation) t s o in Leaves i (Transform t operation) s d.slots d.caused
transform-leaves i t operation s None is = grind arith
transform-leaves i t operation s (Some x) is =
    let a : transform.Acts = record { slots = x; out = found_outside s } in
    let b : transform.Acts = transform_operation t (halves_at x s) operation a in
    let c = transform-alone i t (halves_at x s) operation a refl in
    let w : (f : Step → ℕ) → weight f b.out.promises ≤ weight f s.promises =
    λ f. transform-does (λ z. weight f z ≤ weight f s.promises) (weight-transform f s.promises) t (halves_at x s) operation a (omega arith) in
    let l : (f : Step → ℕ) → IsPlain f → all (leads_to f) b.out.effects ≤ of_transform f operation = λ f p. transform-leads f t (halves_at x s) operation a p refl in
    let w1 = w (is_start i) in let w2 = w (is_write i) in let w3 = w (is_close i) in let w4 = w (is_abort i) in
    let l1 = l (is_start i) (start-plain i) in let l2 = l (is_write i) (write-plain i) in let l3 = l (is_close i) (close-plain i) in let l4 = l (is_abort i) (abort-plain i) in
    record {
      there = λ e. e;
      place = refl;
      alone = c.0;
      hands = λ o apart free. transform-hands i t (halves_at x s) operation a (apart t x is) refl;
      closes = c.1;
      starts = omega (arith, w1, l1);
      writes = omega (arith, w2, l2);
      closes_on = omega (arith, w3, l3);
      aborts = omega (arith, w4, l4);
    }

-- an operation of a tee

tee-leads : (f : Step → ℕ) (t : TeeId) (operation : TeeOperation) (a : tee.Acts) → a.out.effects ≡ [] → all (leads_to f) (tee_operation t operation a).out.effects ≤ of_tee f operation
unfolding tee.pull_branch tee.keep_chunk tee.source_closed tee.source_errored tee.hand_chunk tee.handed tee.cancel_branch tee.reader_settled
tee-leads f t operation a none = grind (arith, none)

tee-alone : (i : StreamId) (t : TeeId) (operation : TeeOperation) (a : tee.Acts) → a.out.effects ≡ []
    → (all (hands i) (tee_operation t operation a).out.effects ≡ 0) × (all (closes i) (tee_operation t operation a).out.effects ≡ 0)
unfolding tee.pull_branch tee.keep_chunk tee.source_closed tee.source_errored tee.hand_chunk tee.handed tee.cancel_branch tee.reader_settled
tee-alone i t operation a none = grind (arith, none)

weight-tee : (f : Step → ℕ) (t : Table) → OfTee (λ z. weight f z ≤ weight f t)
weight-tee f t = record {
  fresh = λ z h. let k = weigh-fresh (of_reaction f) z in omega (arith, h, k);
  micro = λ z m h. let k = weigh-micro (of_reaction f) m z in omega (arith, h, k);
}

pub tee-leaves : (i : StreamId) (t : TeeId) (operation : TeeOperation) (s : Slots) (o : Option tee.Slots)
    → let d : Done = on_tee_at (tee_operation t operation) t s o in Leaves i (Tee t operation) s d.slots d.caused
tee-leaves i t operation s None = grind arith
tee-leaves i t operation s (Some x) =
    let a : tee.Acts = record { slots = x; out = found_outside s } in
    let b : tee.Acts = tee_operation t operation a in
    let c = tee-alone i t operation a refl in
    let w : (f : Step → ℕ) → weight f b.out.promises ≤ weight f s.promises =
    λ f. tee-does (λ z. weight f z ≤ weight f s.promises) (weight-tee f s.promises) t operation a (omega arith) in
    let l : (f : Step → ℕ) → all (leads_to f) b.out.effects ≤ of_tee f operation = λ f. tee-leads f t operation a refl in
    let w1 = w (is_start i) in let w2 = w (is_write i) in let w3 = w (is_close i) in let w4 = w (is_abort i) in
    let l1 = l (is_start i) in let l2 = l (is_write i) in let l3 = l (is_close i) in let l4 = l (is_abort i) in
    record {
      there = λ e. e;
      place = refl;
      alone = none_behind i b.out.effects c.0;
      hands = λ o apart free. c.0;
      closes = c.1;
      starts = omega (arith, w1, l1);
      writes = omega (arith, w2, l2);
      closes_on = omega (arith, w3, l3);
      aborts = omega (arith, w4, l4);
    }

-- an operation of a port

pub port-leaves : (i : StreamId) (c : PortId) (operation : PortOperation) (s : Slots) (o : Option cross.Slots) → slice_get s.ports c.0 ≡ o
    → let d : Done = on_port_at (λ clones. port_operation c clones operation) c s o in Leaves i (Port c operation) s d.slots d.caused
port-leaves i c operation s None is = grind arith
port-leaves i c operation s (Some x) is =
    let a : cross.Acts = record { slots = x; out = found_outside s } in
    let b : cross.Acts = port_operation c (clones_at x s) operation a in
    let p = port-alone i c (clones_at x s) operation a refl in
    let w : (f : Step → ℕ) → weight f b.out.promises ≤ weight f s.promises =
    λ f. port-does (λ z. weight f z ≤ weight f s.promises) (weight-port f s.promises) c (clones_at x s) operation a (omega arith) in
    let l : (f : Step → ℕ) → ((me : PortId) (q : PromiseId) → f (PortUnblocked me q) ≡ 0) → all (leads_to f) b.out.effects ≤ of_port f operation =
    λ f none. port-leads f c (clones_at x s) operation a none refl in
    let w1 = w (is_start i) in let w2 = w (is_write i) in let w3 = w (is_close i) in let w4 = w (is_abort i) in
    let l1 = l (is_start i) (λ me q. refl) in let l2 = l (is_write i) (λ me q. refl) in let l3 = l (is_close i) (λ me q. refl) in let l4 = l (is_abort i) (λ me q. refl) in
    record {
      there = λ e. e;
      place = refl;
      alone = p.0;
      hands = λ o apart free. port-hands i c (clones_at x s) operation a (free c x is) refl;
      closes = p.1;
      starts = omega (arith, w1, l1);
      writes = omega (arith, w2, l2);
      closes_on = omega (arith, w3, l3);
      aborts = omega (arith, w4, l4);
    }

-- algorithms, by whose they are

pub pull-leaves : (i j : StreamId) (s : Slots) (o : Owner) → Leaves i (PullAlgorithm j) s s (pull_algorithm j (React (ReadablePull j) None) o)
pull-leaves i j s Host = grind arith
pull-leaves i j s (HalfOf t) = grind arith
pull-leaves i j s (BranchOf t half) = grind arith
pull-leaves i j s (EndOf c) = grind arith

pub cancel-leaves : (i j : StreamId) (r : Plain) (p : PromiseId) (s : Slots) (o : Owner) → Leaves i (CancelAlgorithm j r p) s s (cancel_algorithm j r (React ReturnUndefined (Some p)) o)
cancel-leaves i j r p s Host = grind arith
cancel-leaves i j r p s (HalfOf t) = grind arith
cancel-leaves i j r p s (BranchOf t half) = grind arith
cancel-leaves i j r p s (EndOf c) = grind arith

pub close-leaves : (i j : StreamId) (s : Slots) (o : Owner) → Leaves i (CloseAlgorithm j) s s (close_algorithm j (React (WritableClose j) None) o)
close-leaves i j s Host = grind arith
close-leaves i j s (HalfOf t) = grind arith
close-leaves i j s (BranchOf t half) = grind arith
close-leaves i j s (EndOf c) = grind arith

pub abort-leaves : (i j : StreamId) (r : Plain) (p : PromiseId) (s : Slots) (o : Owner) → Leaves i (AbortAlgorithm j r p) s s (abort_algorithm j r (React (WritableAbort j p) None) o)
abort-leaves i j r p s Host = grind arith
abort-leaves i j r p s (HalfOf t) = grind arith
abort-leaves i j r p s (BranchOf t half) = grind arith
abort-leaves i j r p s (EndOf c) = grind arith

pub write-leaves : (i j : StreamId) (s : Slots) (owner : Owner) (same : Bool) → same ≡ is_same i j → owner_at j s ≡ owner → Leaves i (WriteAlgorithm j) s s (write_algorithm j owner)
write-leaves i j s Host same e is = grind arith
write-leaves i j s (HalfOf t) false e is = grind (arith, e)
write-leaves i j s (BranchOf t half) same e is = grind arith
write-leaves i j s (EndOf c) false e is = grind (arith, e)
write-leaves i j s (HalfOf t) true e is =
    let half : owner_at i s ≡ HalfOf t = rw (same_id i j (sym e)) is in
    let wrong : owner_at i s ≡ Host → ⊥ = λ o. cc in grind (arith, e, wrong)
write-leaves i j s (EndOf c) true e is =
    let end : owner_at i s ≡ EndOf c = rw (same_id i j (sym e)) is in
    let wrong : owner_at i s ≡ Host → ⊥ = λ o. cc in grind (arith, e, wrong)
