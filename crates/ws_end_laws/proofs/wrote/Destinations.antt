-- What is written to the destination of a pipe in a step (`each_destination_is_its_pipes`).
use Rattle.ws_value.specs.declared.ids.TeeId.{TeeId}
use Rattle.ws_laws.proofs.PortDoes.{PortCauses}
use Rattle.ws_value.specs.declared.ids.PortId.{PortId}
use Rattle.ws_steps.specs.declared.promises.Micro.TheVariants.{TeeHand}
use Rattle.ws_steps.specs.declared.effects.Effect.TheVariants.{Tee as OnTee, Port as OnPort}
use Rattle.std.proofs.Common.{◌≡◌, ◌≢◌, ℕ, Bool, true, false, nat_eq, if◌then◌else◌, List, [], ◌∷◌, ◌++◌, Option, Some, None, Result, refl, sym, ap, subst, ◌∙◌, append_assoc, append-nil, arith}
use Rattle.ws_value.specs.declared.{ids.LockId.{LockId}, ids.PipeId.{PipeId}, ids.PromiseId.{PromiseId}, ids.StreamId.{StreamId}}
use Rattle.ws_value.specs.declared.value.{Plain.{Plain}, Value.{Value}}
use Rattle.ws_steps.specs.declared.calls.{Call.{Call}, Call.TheVariants.{Write as WriteCall}}
use Rattle.ws_steps.specs.declared.effects.Effect.{Effect}
use Rattle.ws_steps.specs.declared.effects.Effect.TheVariants.{Readable as OnReadable, Writable as OnWritable, Pipe as OnPipe, Signal as OnSignal, Transform as OnTransform, StartAlgorithm, PullAlgorithm, CancelAlgorithm, WriteAlgorithm, CloseAlgorithm, AbortAlgorithm, ChunkSteps, CloseSteps, ErrorSteps}
use Rattle.ws_steps.specs.declared.{locks.Lock.{Lock}, locks.Lock.TheVariants.{Reader, Writer, ReleasedWriter, Inner, ByobReader}}
use Rattle.ws_steps.specs.declared.pipes.{Phase.{Phase}, Phase.TheVariants.{Over}, PipeOperation.TheVariants.{WriteChunk, GoOn}, SignalOperation.{SignalOperation}, SignalOperation.TheVariants.{Add, Forget, Trigger}}
use Rattle.ws_steps.specs.declared.promises.{Job.{Job}, Job.TheVariants.{Reaction as ReactionJob, Follow, Settle as SettleJob, Micro as MicroJob}, Micro.TheVariants.{PipeLook, PipeWrite, PipeNoParts}, Step.{Step}}
use Rattle.ws_steps.specs.declared.readable.{ReadRequest.{ReadRequest}, ReadRequest.TheVariants.{Promise, Pipe as PipeRequest, Tee as TeeRequest}}
use Rattle.ws_steps.specs.declared.transform.TransformId.{TransformId}
use Rattle.ws_steps.specs.Begun.{Begun}
use Rattle.ws_steps.specs.Calls.{begin}
use Rattle.ws_steps.specs.Histories.{is_same, along}
use Rattle.ws_steps.specs.Jobs.{job_effects, job_begun, begin_job}
use Rattle.ws_steps.specs.Pipes as pipe
use Rattle.ws_steps.specs.Promises.{Table, next_job, after_next_job}
use Rattle.ws_steps.specs.Run.{Entry, Called, Worked, Heard, run, step}
use Rattle.ws_steps.specs.Slots.{Slots, Done, nothing, causes, empty, lock_at, pipe_at, writable_at, with_promises}
use Rattle.ws_steps.specs.Turns.{row, moments}
use Rattle.ws_steps.specs.Writable as writable
use Rattle.ws_steps.specs.WritableHistory.{effect_piped, step_piped, step_writes, run_writes, written_with, written_in_step, written_in_run}
use Rattle.ws_room_laws.proofs.Turns.{moments_next}
use Rattle.ws_laws.proofs.EachCall.{each_call}
use Rattle.ws_laws.proofs.Lists.{Each, each-append, append_cancel}
use Rattle.ws_laws.proofs.PipeDoes.{PipeCauses}
use Rattle.ws_laws.proofs.Causes.{Causes, ChunkCauses, EndCauses, ErrorCauses, SignalCauses, row-causes}
use Rattle.ws_laws.proofs.Tables.{either, eq_numbers, unequal_numbers, is_same-refl, same_id}
use Rattle.ws_laws.proofs.TransformDoes.{TransformCauses}
use Rattle.ws_laws.proofs.TeeDoes.{TeeCauses}
use Rattle.ws_laws.proofs.Walker.{IsHistory, performed-goes}
use Rattle.ws_write_laws.proofs.Answered.{writes_were_answered}
use Rattle.ws_pipe_laws.specs.pipes.PipeHistory.{is_over, Through, nothing_through, through_then, held_goes, operation_through, effect_through, step_through}
use Rattle.ws_pipe_laws.specs.pipes.PipeReads.{appended_by}
use Rattle.ws_pipe_laws.proofs.pipes.Appended.{each_pass_is_appended}
use Rattle.ws_pipe_laws.proofs.pipes.PassingRuns.{through_history}
use Rattle.ws_pipe_laws.specs.locks.Locks.{Writing}
use Rattle.ws_pipe_laws.specs.locks.LockLaws.{Owns}
use Rattle.ws_pipe_laws.proofs.locks.Owning.{each_pipe_owns_its_ends, no_two_pipes_share_an_end}
use Rattle.ws_end_laws.specs.wrote.WroteLaws.{EachDestinationIsItsPipes}
use Rattle.ws_steps.specs.declared.effects.Effect.TheVariants.{Byte, CloseStepsWith}

-- what is written in a step is what its call writes, and then what pipes write

written_last : (i : StreamId) (xs : List Entry) (x : Entry) (s : Slots) → (run_writes i (xs ++ x ∷ []) s).written ≡ (run_writes i xs s).written ++ (step_writes i (run xs s) x).written
written_last i [] x s = append-nil (step_writes i s x).written
written_last i (y ∷ xs) x s =
    ap (λ (vs : List Value). (step_writes i s y).written ++ vs) (written_last i xs x (step s y))
    ∙ sym (append_assoc (step_writes i s y).written (run_writes i xs (step s y)).written (step_writes i (run xs (step s y)) x).written)

abbrev said : StreamId → Slots → Entry → List Value
said i s x = written_in_step i s x ++ step_piped i s x

said_last : (i : StreamId) (xs : List Entry) (x : Entry) (s : Slots) → written_in_run i (xs ++ x ∷ []) s ≡ written_in_run i xs s ++ said i (run xs s) x
said_last i [] x s = append-nil (said i s x)
said_last i (y ∷ xs) x s =
    ap (λ (vs : List Value). said i s y ++ vs) (said_last i xs x (step s y)) ∙ sym (append_assoc (said i s y) (written_in_run i xs (step s y)) (said i (run xs (step s y)) x))

written_said : (entries : List Entry) (x : Entry) (i : StreamId) → let s : Slots = run entries empty in (step_writes i s x).written ≡ said i s x
written_said entries x i =
    let s : Slots = run entries empty in
    let whole : (run_writes i (entries ++ x ∷ []) empty).written ≡ written_in_run i (entries ++ x ∷ []) empty = (writes_were_answered (entries ++ x ∷ []) i).0 in
    let first : (run_writes i entries empty).written ≡ written_in_run i entries empty = (writes_were_answered entries i).0 in
    append_cancel (written_in_run i entries empty) (step_writes i s x).written (said i s x)
    (ap (λ (vs : List Value). vs ++ (step_writes i s x).written) (sym first) ∙ (sym (written_last i entries x empty) ∙ (whole ∙ said_last i entries x empty)))

-- no pipe writes

abbrev IsNoWrite : Effect → Type 0
IsNoWrite (OnPipe q WriteChunk) = ⊥
IsNoWrite _ = Unit {0}

pipe-none : (q : PipeId) (source dest : StreamId) (e : Effect) → PipeCauses q source dest e → IsNoWrite e
pipe-none q source dest (OnPipe r GoOn) c = tt
pipe-none q source dest (OnPipe r operation) c = absurd c
pipe-none q source dest _ c = tt

chunk-none : (v : Value) (request : ReadRequest) → ChunkCauses IsNoWrite v request
chunk-none v (Promise q) = tt
chunk-none v (PipeRequest q) = tt
chunk-none v (TeeRequest t) = tt

end-none : (request : ReadRequest) → EndCauses IsNoWrite request
end-none (Promise q) = tt
end-none (PipeRequest q) = tt
end-none (TeeRequest t) = tt

error-none : (request : ReadRequest) → ErrorCauses IsNoWrite request
error-none (Promise q) = tt
error-none (PipeRequest q) = tt
error-none (TeeRequest t) = tt

signal-none : (operation : SignalOperation) → SignalCauses IsNoWrite operation
signal-none (Trigger r) = λ q. tt
signal-none (Add q) = tt
signal-none (Forget q) = tt

transform-none : (t : TransformId) (writable readable : StreamId) (e : Effect) → TransformCauses t writable readable e → IsNoWrite e
transform-none t writable readable (OnPipe q operation) c = absurd c
transform-none t writable readable _ c = tt

tee-none : (t : TeeId) (source first second : StreamId) (e : Effect) → TeeCauses t source first second e → IsNoWrite e
tee-none t source first second (OnPipe q operation) c = absurd c
tee-none t source first second _ c = tt

port-none : (me : PortId) (stream : StreamId) (e : Effect) → PortCauses me stream e → IsNoWrite e
port-none me stream (OnPipe q operation) c = absurd c
port-none me stream _ c = tt

none-causes : (e : Effect) → Causes IsNoWrite e
none-causes (OnReadable j operation) = record { pull = tt; cancel = λ r q. tt; chunk = λ r v. tt; close = λ r. tt; error = λ r e. tt }
none-causes (Byte j operation) = record { readable = record { pull = tt; cancel = λ r q. tt; chunk = λ r v. tt; close = λ r. tt; error = λ r e. tt }; close_with = λ r b. tt }
none-causes (OnWritable j operation) = record { write = tt; close = tt; abort = λ r q. tt; hand_on = λ v. tt; take = λ v t d. tt; post = λ v c d. tt }
none-causes (OnPipe q operation) = pipe-none q
none-causes (OnSignal a operation) = signal-none operation
none-causes (OnTransform t operation) = transform-none t
none-causes (OnTee t operation) = tee-none t
none-causes (OnPort c operation) = port-none c
none-causes (StartAlgorithm j step start) = (λ g u. tt, λ c u. tt)
none-causes (PullAlgorithm j) = (λ c u. tt, (λ t u. tt, (λ t. tt, (λ u. tt, λ c. tt))))
none-causes (CancelAlgorithm j r q) = (λ c u. tt, (λ t u. tt, (λ t half u. tt, λ c u. tt)))
none-causes (WriteAlgorithm j) = (tt, (λ t u. tt, λ c u. tt))
none-causes (CloseAlgorithm j) = (λ c u. tt, (λ t u. tt, λ c u. tt))
none-causes (AbortAlgorithm j r q) = (λ c u. tt, (λ t u. tt, λ c u. tt))
none-causes (ChunkSteps j request v) = chunk-none v request
none-causes (CloseSteps j request) = end-none request
none-causes (CloseStepsWith j request b) = end-none request
none-causes (ErrorSteps j request e) = error-none request
none-causes _ = tt

row-none : (e : Effect) (s : Slots) (es : List Effect) → Each IsNoWrite es → Each IsNoWrite ((row e s).caused ++ es)
row-none e s es n = each-append IsNoWrite (row e s).caused es (row-causes IsNoWrite e s (none-causes e)) n

call-none : (c : Call) (s : Slots) → Each IsNoWrite (begin c s).done.caused
call-none c s = each_call (λ (b : Begun). Each IsNoWrite b.done.caused) c s (grind arith)

values_history : IsHistory {H = List Value} [] ◌++◌
values_history = record { left = λ f. refl; right = λ f. append-nil f; assoc = λ f g h. append_assoc f g h }

no_piping : (i : StreamId) (e : Effect) (s : Slots) → IsNoWrite e → effect_piped i e s ≡ []
no_piping i (OnPipe q WriteChunk) s n = absurd n
no_piping i e s n = refl

none-piped : (i : StreamId) (d : Done) → Each IsNoWrite d.caused → along [] ◌++◌ (effect_piped i) (moments d) ≡ []
none-piped i d n =
    (performed-goes {H = List Value} [] ◌++◌ values_history (effect_piped i) (λ vs s es. (vs ≡ []) × Each IsNoWrite es)
    (λ vs s e es k. (rw (k.0, no_piping i e s k.1.0) refl, row-none e s es k.1.1)) [] d (refl, n)).0

by_either : (b : Bool) (f : Through) → f.passed ≡ [] → (if b then f else nothing_through).passed ≡ []
by_either true f d = d
by_either false f d = refl

no_passing : (p : PipeId) (e : Effect) (s : Slots) → IsNoWrite e → (effect_through p e s).passed ≡ []
no_passing p (OnPipe q WriteChunk) s n = absurd n
no_passing p (OnPipe q operation) s n = by_either (nat_eq p.0 q.0) (operation_through operation (pipe_at q s)) refl
no_passing p e s n = refl

none-passed : (p : PipeId) (d : Done) → Each IsNoWrite d.caused → (along nothing_through through_then (effect_through p) (moments d)).passed ≡ []
none-passed p d n =
    (performed-goes nothing_through through_then through_history (effect_through p) (λ h s es. (h.passed ≡ []) × Each IsNoWrite es)
    (λ h s e es k. (rw (k.0, no_passing p e s k.1.0) refl, row-none e s es k.1.1)) nothing_through d (refl, n)).0

-- the pipe that writes, where one does

over_passes : (held : Option Value) (phase : Phase) → is_over phase ≡ true → (held_goes phase held).passed ≡ []
over_passes None phase o = refl
over_passes (Some v) Over o = refl
over_passes (Some v) _ o = cc

neither : (b : Bool) (w : writable.Slots) (vs : List Value) → vs ≡ [] → (if b then appended_by w vs else []) ≡ []
neither true w vs e = rw e refl
neither false w vs e = refl

apart : (i j : StreamId) → i ≢ j → is_same i j ≡ false
apart i j n = by (is_same i j) refl
  where
    by : (b : Bool) → is_same i j ≡ b → b ≡ false
    by true e = absurd (n (same_id i j e))
    by false e = refl

module _ (entries : List Entry) (p : PipeId) (over : is_over (pipe_at p (run entries empty)).phase ≡ false) where
  abbrev s : Slots
  s = run entries empty

  abbrev i : StreamId
  i = (pipe_at p s).dest

  abbrev w : writable.Slots
  w = writable_at i s

  owns : Owns s (pipe_at p s)
  owns = each_pipe_owns_its_ends entries p over

  -- no call writes to it

  with_none : (v : Value) (l : LockId) (o : Option Lock) → lock_at l s ≡ o → written_with i v s o ≡ []
  with_none v l None e = refl
  with_none v l (Some (Reader stream closed)) e = refl
  with_none v l (Some (ByobReader stream closed)) e = refl
  with_none v l (Some (Writer j)) e = rw (apart i j (λ f. owns.no_writer l (e ∙ ap (λ (k : StreamId). Some (Writer k)) (sym f)))) refl
  with_none v l (Some (ReleasedWriter closed)) e = refl
  with_none v l (Some Inner) e = refl

  no_call : (x : Entry) → written_in_step i s x ≡ []
  no_call (Called (WriteCall l v)) = with_none v l (lock_at l s) refl
  no_call (Called c) = refl
  no_call Worked = refl
  no_call Heard = refl

  -- and no other pipe

  abbrev Same : List Value → List Value → Type 0
  Same piped passed = piped ≡ appended_by w passed

  write_self : nat_eq p.0 p.0 ≡ true
  write_self = grind arith

  abbrev writes : PipeId → Effect
  writes q = OnPipe q WriteChunk

  own_writes : (u : Table) → let t : Slots = with_promises u s in Same (effect_piped i (writes p) t) (effect_through p (writes p) t).passed
  own_writes u = rw (is_same-refl i) at (each_pass_is_appended (with_promises u s) p i)

  other_over : (u : Table) (q : PipeId) → is_over (pipe_at q s).phase ≡ true → effect_piped i (writes q) (with_promises u s) ≡ []
  other_over u q o =
      let t : Slots = with_promises u s in
      let y : pipe.Slots = pipe_at q s in
      each_pass_is_appended t q i ∙ neither (is_same i y.dest) (writable_at y.dest t) (effect_through q (writes q) t).passed
      (either (λ (h : Through). h.passed ≡ []) (nat_eq q.0 q.0) (held_goes y.phase y.held) nothing_through (λ e. over_passes y.held y.phase o) (λ e. refl))

  other_live : (u : Table) (q : PipeId) → nat_eq p.0 q.0 ≡ false → is_over (pipe_at q s).phase ≡ false → effect_piped i (writes q) (with_promises u s) ≡ []
  other_live u q n o =
      let differ : is_same i (pipe_at q s).dest ≡ false = apart i (pipe_at q s).dest (no_two_pipes_share_an_end entries p q (λ e. unequal_numbers p.0 q.0 n (ap (λ (r : PipeId). r.0) e)) over o Writing) in
      rw differ at (each_pass_is_appended (with_promises u s) q i)

  other_none : (u : Table) (q : PipeId) (b : Bool) → is_over (pipe_at q s).phase ≡ b → nat_eq p.0 q.0 ≡ false → effect_piped i (writes q) (with_promises u s) ≡ []
  other_none u q true o n = other_over u q o
  other_none u q false o n = other_live u q n o

  other_writes : (u : Table) (q : PipeId) → nat_eq p.0 q.0 ≡ false → let t : Slots = with_promises u s in Same (effect_piped i (writes q) t) (effect_through p (writes q) t).passed
  other_writes u q n = rw (other_none u q (is_over (pipe_at q s).phase) refl n, n) refl

  first_writes : (u : Table) (q : PipeId) (b : Bool) → nat_eq p.0 q.0 ≡ b → let t : Slots = with_promises u s in Same (effect_piped i (writes q) t) (effect_through p (writes q) t).passed
  first_writes u q true e = subst (λ (r : PipeId). Same (effect_piped i (writes r) (with_promises u s)) (effect_through p (writes r) (with_promises u s)).passed) (ap (λ (n : ℕ). record { 0 = n }) (eq_numbers p.0 q.0 e)) (own_writes u)
  first_writes u q false e = other_writes u q e

  -- steps

  abbrev Even : Done → Type 0
  Even d = Same (along [] ◌++◌ (effect_piped i) (moments d)) (along nothing_through through_then (effect_through p) (moments d)).passed

  none-even : (d : Done) → Each IsNoWrite d.caused → Even d
  none-even d n = rw (none-piped i d n, none-passed p d n) refl

  first-even : (u : Table) (q : PipeId) → Even (causes (writes q ∷ []) (with_promises u s))
  first-even u q =
      let t : Slots = with_promises u s in
      let d : Done = causes ((row (writes q) t).caused ++ []) (row (writes q) t).slots in
      let rest : Each IsNoWrite d.caused = row-none (writes q) t [] tt in
      rw (moments_next t (writes q) [])
      (both (effect_piped i (writes q) t) (along [] ◌++◌ (effect_piped i) (moments d)) (effect_through p (writes q) t).passed (along nothing_through through_then (effect_through p) (moments d)).passed
      (first_writes u q (nat_eq p.0 q.0) refl) (none-piped i d rest) (none-passed p d rest))
    where
      both : (a b c d : List Value) → Same a c → b ≡ [] → d ≡ [] → Same (a ++ b) (c ++ d)
      both a b c d e f g = rw (f, g, append-nil a, append-nil c) e

  reaction-none : (step : Step) (o : Result Plain Plain) (derived : Option PromiseId) → Each IsNoWrite (job_effects (ReactionJob step o derived))
  reaction-none step o derived = grind (arith, each-append)

  job-even : (u : Table) (job : Job) → Even (causes (job_effects job) (with_promises u s))
  job-even u (ReactionJob step o derived) = none-even (causes (job_effects (ReactionJob step o derived)) (with_promises u s)) (reaction-none step o derived)
  job-even u (Follow q r) = none-even (causes [] (with_promises u s)) tt
  job-even u (SettleJob q o) = none-even (causes (job_effects (SettleJob q o)) (with_promises u s)) (tt, tt)
  job-even u (MicroJob (PipeLook q)) = none-even (causes (job_effects (MicroJob (PipeLook q))) (with_promises u s)) (tt, tt)
  job-even u (MicroJob (PipeWrite q)) = first-even u q
  job-even u (MicroJob (PipeNoParts q)) = none-even (causes (job_effects (MicroJob (PipeNoParts q))) (with_promises u s)) (tt, tt)
  job-even u (MicroJob (TeeHand t)) = none-even (causes (job_effects (MicroJob (TeeHand t))) (with_promises u s)) (tt, tt)

  begun-even : (job : Option Job) → Even (job_begun s job)
  begun-even None = none-even (nothing s) tt
  begun-even (Some job) = job-even (after_next_job s.promises) job

  step-even : (x : Entry) → Same (step_piped i s x) (step_through p s x).passed
  unfolding begin_job
  step-even (Called c) = none-even (begin c s).done (call-none c s)
  step-even Worked = begun-even (next_job s.promises)
  step-even Heard = none-even (nothing s) tt

  written_is : (x : Entry) → (step_writes i s x).written ≡ appended_by w (step_through p s x).passed
  written_is x = written_said entries x i ∙ (ap (λ (vs : List Value). vs ++ step_piped i s x) (no_call x) ∙ step-even x)

pub each_destination_is_its_pipes : EachDestinationIsItsPipes
each_destination_is_its_pipes entries x p over = written_is entries p over x
