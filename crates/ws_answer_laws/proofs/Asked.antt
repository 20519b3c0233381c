-- The reads that are asked of a byte stream for promises, by the calls (`byte_reads_were_asked`): no other call, no job and no effect asks one. Those of
-- pipes are for none.
use Rattle.std.proofs.Common.{◌≡◌, ℕ, ◌*◌, length, not, Bool, true, false, ◌&&◌, List, [], ◌∷◌, ◌++◌, Option, Some, None, if◌then◌else◌, refl, sym, ap, ◌∙◌, append-nil, arith}
use Rattle.ws_laws.proofs.PortDoes.{PortCauses}
use Rattle.ws_steps.specs.declared.effects.Effect.TheVariants.{Port}
use Rattle.ws_value.specs.declared.ids.PortId.{PortId}
use Rattle.std.proofs.lemmas.Bool.{false≢true}
use Rattle.ws_value.specs.declared.value.Value.{Value}
use Rattle.ws_value.specs.declared.{ids.PipeId.{PipeId}, ids.PromiseId.{PromiseId}, ids.StreamId.{StreamId}}
use Rattle.ws_steps.specs.declared.{calls.Call.{Call}, calls.Call.TheVariants.{Read as ReadCall, ReadInto as ReadIntoCall}, effects.Effect.{Effect}}
use Rattle.ws_steps.specs.declared.effects.Effect.TheVariants.{Readable, Writable, Pipe, Signal, Transform, Tee, StartAlgorithm, PullAlgorithm, CancelAlgorithm, WriteAlgorithm, CloseAlgorithm, AbortAlgorithm, ChunkSteps, CloseSteps, ErrorSteps}
use Rattle.ws_steps.specs.declared.{locks.Lock.{Lock}, locks.Lock.TheVariants.{Reader, ByobReader, Writer, ReleasedWriter, Inner}, promises.Job.{Job}, transform.TransformId.{TransformId}}
use Rattle.ws_steps.specs.declared.{readable.ReadRequest.{ReadRequest}, readable.ReadRequest.TheVariants.{Promise, Pipe as PipeRequest, Tee as TeeRequest}, pipes.SignalOperation.{SignalOperation}, pipes.SignalOperation.TheVariants.{Add, Forget, Trigger}, readable.ReadableOperation.TheVariants.{Read}}
use Rattle.ws_steps.specs.Promises.{next_id, next_job}
use Rattle.ws_steps.specs.Slots.{Slots, Done, causes, empty, has_source, has_byte, byte_at, lock_at}
use Rattle.ws_steps.specs.Turns.{row, moments}
use Rattle.ws_steps.specs.Jobs.{job_effects, job_begun, begin_job}
use Rattle.ws_steps.specs.Begun.{Begun, unsupported}
use Rattle.ws_steps.specs.LockCalls.{by_default_reader, by_byob_reader, is_view, has_least, least_fault, refuse_least, read_into_by}
use Rattle.ws_steps.specs.Calls.{begin}
use Rattle.ws_steps.specs.Begun as replying
use Rattle.ws_steps.specs.LockCalls as lock_calls
use Rattle.ws_steps.specs.Run.{Entry, Called, Worked, Heard, step}
use Rattle.ws_steps.specs.Histories.{is_same, along}
use Rattle.ws_steps.specs.ReadableHistory.{promises_of, asked_with}
use Rattle.ws_room_laws.proofs.Turns.{moments_next}
use Rattle.ws_laws.proofs.Tables.{either, is_same-refl, same_id}
use Rattle.ws_laws.proofs.Lists.{Each, each-append, each-map}
use Rattle.ws_laws.proofs.PipeDoes.{PipeCauses}
use Rattle.ws_laws.proofs.Causes.{Causes, ChunkCauses, EndCauses, ErrorCauses, SignalCauses, row-causes}
use Rattle.ws_laws.proofs.EachCall.{each_call}
use Rattle.ws_laws.proofs.TransformDoes.{TransformCauses}
use Rattle.ws_laws.proofs.Walker.{IsHistory, performed-goes}
use Rattle.ws_answer_laws.specs.ByteReads.{ByteReads, no_reads, reads_then, shared_reads, own_reads, effect_byte_reads, step_byte_reads, run_byte_reads, into_with, call_byte_asked, byte_asked_in_step, byte_asked_by_calls}
use Rattle.ws_answer_laws.specs.Answering.{ByteReadsWereAsked}
use Rattle.ws_answer_laws.proofs.Told.{same_reads, reads-assoc}
use Rattle.ws_steps.specs.declared.byte.ByteOperation.TheVariants.{PullInto}
use Rattle.ws_value.specs.declared.fault.Fault.{Fault}
use Rattle.ws_steps.specs.declared.effects.Effect.TheVariants.{Byte, CloseStepsWith}
use Rattle.ws_laws.proofs.TeeDoes.{TeeCauses}
use Rattle.ws_value.specs.declared.ids.TeeId.{TeeId}

-- effects that ask no read for a promise
abbrev Quiet : Effect → Type 0
Quiet (Readable i (Read (Promise p))) = ⊥
Quiet (Byte i (PullInto room element minimum (Promise p))) = ⊥
Quiet _ = Unit {0}

pipe-quiet : (p : PipeId) (source dest : StreamId) (e : Effect) → PipeCauses p source dest e → Quiet e
pipe-quiet p source dest (Readable i (Read (Promise q))) c = let other = c.1 in absurd (cc)
pipe-quiet p source dest (Byte i (PullInto room element minimum (Promise q))) c = absurd c
pipe-quiet p source dest _ c = tt

chunk-quiet : (v : Value) (request : ReadRequest) → ChunkCauses Quiet v request
chunk-quiet v (Promise p) = tt
chunk-quiet v (PipeRequest p) = tt
chunk-quiet v (TeeRequest t) = tt

end-quiet : (request : ReadRequest) → EndCauses Quiet request
end-quiet (Promise p) = tt
end-quiet (PipeRequest p) = tt
end-quiet (TeeRequest t) = tt

error-quiet : (request : ReadRequest) → ErrorCauses Quiet request
error-quiet (Promise p) = tt
error-quiet (PipeRequest p) = tt
error-quiet (TeeRequest t) = tt

signal-quiet : (operation : SignalOperation) → SignalCauses Quiet operation
signal-quiet (Trigger r) = λ p. tt
signal-quiet (Add p) = tt
signal-quiet (Forget p) = tt

transform-quiet : (t : TransformId) (writable readable : StreamId) (e : Effect) → TransformCauses t writable readable e → Quiet e
transform-quiet t writable readable (Readable i (Read (Promise p))) c = absurd c
transform-quiet t writable readable (Byte i (PullInto room element minimum (Promise p))) c = absurd c
transform-quiet t writable readable _ c = tt

tee-quiet : (t : TeeId) (source first second : StreamId) (e : Effect) → TeeCauses t source first second e → Quiet e
tee-quiet t source first second (Readable i (Read (Promise p))) c = let other = c.1 in absurd (cc)
tee-quiet t source first second (Byte i (PullInto room element minimum (Promise p))) c = absurd c
tee-quiet t source first second _ c = tt

port-quiet : (c : PortId) (stream : StreamId) (e : Effect) → PortCauses c stream e → Quiet e
port-quiet c stream (Readable i (Read (Promise p))) k = absurd k
port-quiet c stream (Byte i (PullInto room element minimum (Promise p))) k = absurd k
port-quiet c stream _ k = tt

quiet-causes : (e : Effect) → Causes Quiet e
quiet-causes (Readable j operation) = record { pull = tt; cancel = λ r p. tt; chunk = λ r v. tt; close = λ r. tt; error = λ r e. tt }
quiet-causes (Byte j operation) = record { readable = record { pull = tt; cancel = λ r p. tt; chunk = λ r v. tt; close = λ r. tt; error = λ r e. tt }; close_with = λ r b. tt }
quiet-causes (Writable j operation) = record { write = tt; close = tt; abort = λ r p. tt; hand_on = λ v. tt; take = λ v t d. tt; post = λ v c d. tt }
quiet-causes (Pipe p operation) = pipe-quiet p
quiet-causes (Signal a operation) = signal-quiet operation
quiet-causes (StartAlgorithm j step start) = (λ g u. tt, λ c u. tt)
quiet-causes (PullAlgorithm j) = (λ c u. tt, (λ t u. tt, (λ t. tt, (λ u. tt, λ c. tt))))
quiet-causes (CancelAlgorithm j r p) = (λ c u. tt, (λ t u. tt, (λ t half u. tt, λ q u. tt)))
quiet-causes (WriteAlgorithm j) = (tt, (λ t u. tt, λ q u. tt))
quiet-causes (Transform t operation) = transform-quiet t
quiet-causes (Tee t operation) = tee-quiet t
quiet-causes (Port c operation) = port-quiet c
quiet-causes (CloseAlgorithm j) = (λ c u. tt, (λ t u. tt, λ q u. tt))
quiet-causes (AbortAlgorithm j r p) = (λ c u. tt, (λ t u. tt, λ q u. tt))
quiet-causes (ChunkSteps j request v) = chunk-quiet v request
quiet-causes (CloseSteps j request) = end-quiet request
quiet-causes (CloseStepsWith j request b) = end-quiet request
quiet-causes (ErrorSteps j request e) = error-quiet request
quiet-causes _ = tt

if_asks : (c : Bool) (f : ByteReads) → promises_of f.asked ≡ [] → promises_of (if c then f else no_reads).asked ≡ []
if_asks true f e = e
if_asks false f e = refl

tee_asks : (tee : Bool) (f : ByteReads) → promises_of f.asked ≡ [] → promises_of (if tee then no_reads else f).asked ≡ []
tee_asks true f e = refl
tee_asks false f e = e

quiet-told : (i : StreamId) (e : Effect) (s : Slots) → Quiet e → promises_of (effect_byte_reads i e s).asked ≡ []
quiet-told i (Readable j (Read (Promise p))) s quiet = absurd quiet
quiet-told i (Readable j operation) s quiet = if_asks (is_same i j && has_byte j s) (shared_reads operation (byte_at j s)) refl
quiet-told i (Byte j (PullInto room element minimum (Promise p))) s quiet = absurd quiet
quiet-told i (Byte j operation) s quiet = if_asks (is_same i j && has_byte j s) (own_reads operation (byte_at j s)) refl
quiet-told i _ s quiet = refl

-- what is asked of stream i by the effects of a call or a job that begins so
abbrev asked : StreamId → Done → List ReadRequest
asked i d = (along no_reads reads_then (effect_byte_reads i) (moments d)).asked

is_history : IsHistory no_reads reads_then
is_history = record { left = λ h. refl; right = same_reads; assoc = reads-assoc }

promises-append : (rs qs : List ReadRequest) → promises_of (rs ++ qs) ≡ promises_of rs ++ promises_of qs
promises-append [] qs = refl
promises-append (Promise p ∷ rs) qs = ap (λ (ps : List PromiseId). p ∷ ps) (promises-append rs qs)
promises-append (PipeRequest p ∷ rs) qs = promises-append rs qs
promises-append (TeeRequest t ∷ rs) qs = promises-append rs qs

none-asked : (i : StreamId) (d : Done) → Each Quiet d.caused → promises_of (asked i d) ≡ []
none-asked i d quiet =
    (performed-goes no_reads reads_then is_history (effect_byte_reads i) (λ h s es. (promises_of h.asked ≡ []) × Each Quiet es)
    (λ h s e es k.
    let more : promises_of (h.asked ++ (effect_byte_reads i e s).asked) ≡ promises_of h.asked ++ promises_of (effect_byte_reads i e s).asked = promises-append h.asked (effect_byte_reads i e s).asked in
    (more ∙ (ap (λ ps. ps ++ promises_of (effect_byte_reads i e s).asked) k.0 ∙ quiet-told i e s k.1.0), each-append Quiet (row e s).caused es (row-causes Quiet e s (quiet-causes e)) k.1.1))
    no_reads d (refl, quiet)).0

-- one effect that asks a read
first-asked : (i : StreamId) (e : Effect) (s : Slots) → promises_of (asked i (causes (e ∷ []) s)) ≡ promises_of (effect_byte_reads i e s).asked
first-asked i e s =
    let rest : Done = causes ((row e s).caused ++ []) (row e s).slots in
    let first : List ReadRequest = (effect_byte_reads i e s).asked in
    ap (λ ms. promises_of (along no_reads reads_then (effect_byte_reads i) ms).asked) (moments_next s e [])
    ∙ (promises-append first (asked i rest)
    ∙ (ap (λ ps. promises_of first ++ ps) (none-asked i rest (each-append Quiet (row e s).caused [] (row-causes Quiet e s (quiet-causes e)) tt))
    ∙ append-nil (promises_of first)))

-- of stream i, where it is a byte stream
by_stream : (i j : StreamId) (f : ByteReads) (p : PromiseId) (s : Slots) (same : Bool) → same ≡ is_same i j → promises_of f.asked ≡ p ∷ []
    → promises_of (if is_same i j && has_byte j s then f else no_reads).asked ≡ (if has_byte i s then (if is_same i j then p ∷ [] else []) else [])
by_stream i j f p s false e n = rw (← e) (nothing (has_byte i s))
  where
    nothing : (c : Bool) → ◌≡◌ {A = List PromiseId} [] (if c then [] else [])
    nothing true = refl
    nothing false = refl
by_stream i j f p s true e n = rw (← same_id i j (sym e), is_same-refl i) (one (has_byte i s) n)
  where
    one : (c : Bool) → promises_of f.asked ≡ p ∷ [] → promises_of (if c then f else no_reads).asked ≡ (if c then p ∷ [] else [])
    one true n = n
    one false n = refl

nothing_there : (c : Bool) (ps : List PromiseId) → ps ≡ [] → [] ≡ (if c then ps else [])
nothing_there true ps n = sym n
nothing_there false ps n = refl

read-asks : (i : StreamId) (s : Slots) (o : Option Lock) → let b : Begun = by_default_reader lock_calls.read replying.rejected s o in promises_of (asked i b.done) ≡ (if has_byte i s then asked_with i b.reply o else [])
read-asks i s None = none-asked i (unsupported s).done tt ∙ nothing_there (has_byte i s) [] refl
read-asks i s (Some (Reader None closed)) = none-asked i (replying.rejected s).done (tt, tt) ∙ nothing_there (has_byte i s) [] refl
read-asks i s (Some (Reader (Some j) closed)) =
    let o : Option Lock = Some (Reader (Some j) closed) in
    let p : PromiseId = next_id s.promises in
    let z : Slots = (lock_calls.read j s).done.slots in
    either (λ (b : Begun). promises_of (asked i b.done) ≡ (if has_byte i s then asked_with i b.reply o else [])) (has_source j s) (lock_calls.read j s) (unsupported s)
    (λ there. first-asked i (Readable j (Read (Promise p))) z ∙ by_stream i j (shared_reads (Read (Promise p)) (byte_at j z)) p z (is_same i j) refl refl)
    (λ none. none-asked i (unsupported s).done tt ∙ nothing_there (has_byte i s) (asked_with i (unsupported s).reply o) (either (λ (ps : List PromiseId). ps ≡ []) (is_same i j) [] [] (λ e. refl) (λ e. refl)))
read-asks i s (Some (ByobReader stream closed)) = none-asked i (unsupported s).done tt ∙ nothing_there (has_byte i s) [] refl
read-asks i s (Some (Writer j)) = none-asked i (unsupported s).done tt ∙ nothing_there (has_byte i s) [] refl
read-asks i s (Some (ReleasedWriter w)) = none-asked i (unsupported s).done tt ∙ nothing_there (has_byte i s) [] refl
read-asks i s (Some Inner) = none-asked i (unsupported s).done tt ∙ nothing_there (has_byte i s) [] refl

module _ (i : StreamId) (room : List ℕ) (element least : ℕ) (s : Slots) where
  -- a read into a room, by a reader that has a stream
  into-lock : (o : Option Lock) → let b : Begun = by_byob_reader (lock_calls.read_into room element least) replying.rejected s o in promises_of (asked i b.done) ≡ (if has_byte i s then into_with i b.reply o else [])
  into-lock None = none-asked i (unsupported s).done tt ∙ nothing_there (has_byte i s) [] refl
  into-lock (Some (Reader stream closed)) = none-asked i (unsupported s).done tt ∙ nothing_there (has_byte i s) [] refl
  into-lock (Some (ByobReader None closed)) = none-asked i (replying.rejected s).done (tt, tt) ∙ nothing_there (has_byte i s) [] refl
  into-lock (Some (ByobReader (Some j) closed)) =
      let o : Option Lock = Some (ByobReader (Some j) closed) in
      let p : PromiseId = next_id s.promises in
      let z : Slots = (lock_calls.read_into room element least j s).done.slots in
      either (λ (b : Begun). promises_of (asked i b.done) ≡ (if has_byte i s then into_with i b.reply o else [])) (has_source j s) (lock_calls.read_into room element least j s) (unsupported s)
      (λ there. first-asked i (Byte j (PullInto room element (least * element) (Promise p))) z ∙ by_stream i j (own_reads (PullInto room element (least * element) (Promise p)) (byte_at j z)) p z (is_same i j) refl refl)
      (λ none. none-asked i (unsupported s).done tt ∙ nothing_there (has_byte i s) (into_with i (unsupported s).reply o) (either (λ (ps : List PromiseId). ps ≡ []) (is_same i j) [] [] (λ e. refl) (λ e. refl)))
  into-lock (Some (Writer j)) = none-asked i (unsupported s).done tt ∙ nothing_there (has_byte i s) [] refl
  into-lock (Some (ReleasedWriter w)) = none-asked i (unsupported s).done tt ∙ nothing_there (has_byte i s) [] refl
  into-lock (Some Inner) = none-asked i (unsupported s).done tt ∙ nothing_there (has_byte i s) [] refl

  refused-lock : (fault : Fault) (o : Option Lock) → promises_of (asked i (refuse_least fault s o).done) ≡ []
  refused-lock fault None = none-asked i (unsupported s).done tt
  refused-lock fault (Some (Reader stream closed)) = none-asked i (unsupported s).done tt
  refused-lock fault (Some (ByobReader None closed)) = none-asked i (replying.rejected_with fault s).done (tt, tt)
  refused-lock fault (Some (ByobReader (Some j) closed)) =
      either (λ (b : Begun). promises_of (asked i b.done) ≡ []) (has_source j s) (replying.rejected_with fault s) (unsupported s)
      (λ there. none-asked i (replying.rejected_with fault s).done (tt, tt)) (λ none. none-asked i (unsupported s).done tt)
  refused-lock fault (Some (Writer j)) = none-asked i (unsupported s).done tt
  refused-lock fault (Some (ReleasedWriter w)) = none-asked i (unsupported s).done tt
  refused-lock fault (Some Inner) = none-asked i (unsupported s).done tt

  unnamed : (o : Option Lock) → into_with i (unsupported s).reply o ≡ []
  unnamed o = grind arith

  none_and : (c : Bool) (xs : List PromiseId) → [] ≡ (if c && false then xs else [])
  none_and true xs = refl
  none_and false xs = refl

  all_and : (c : Bool) (xs : List PromiseId) → (if c then xs else []) ≡ (if c && true then xs else [])
  all_and true xs = refl
  all_and false xs = refl

  into-by : (o : Option Lock) (v l : Bool) → let b : Begun = if not v then unsupported s else if not l then refuse_least (least_fault (length room) least) s o else by_byob_reader (lock_calls.read_into room element least) replying.rejected s o in
      promises_of (asked i b.done) ≡ (if has_byte i s && l then into_with i b.reply o else [])
  into-by o false l = none-asked i (unsupported s).done tt ∙ nothing_there (has_byte i s && l) (into_with i (unsupported s).reply o) (unnamed o)
  into-by o true false = refused-lock (least_fault (length room) least) o ∙ none_and (has_byte i s) (into_with i (refuse_least (least_fault (length room) least) s o).reply o)
  into-by o true true = into-lock o ∙ all_and (has_byte i s) (into_with i (by_byob_reader (lock_calls.read_into room element least) replying.rejected s o).reply o)

  into-asks : (o : Option Lock) → let b : Begun = read_into_by room element least s o in promises_of (asked i b.done) ≡ (if has_byte i s && has_least (length room) element least then into_with i b.reply o else [])
  into-asks o = into-by o (is_view (length room) element) (has_least (length room) element least)

-- other calls, and jobs

abbrev reads_by : Call → Bool
reads_by (ReadCall l) = true
reads_by (ReadIntoCall l room element least) = true
reads_by _ = false

-- an effect that a call begins with
abbrev Begins : Call → Effect → Type 0
Begins c (Readable i (Read (Promise p))) = reads_by c ≡ true
Begins c (Byte i (PullInto room element minimum (Promise p))) = reads_by c ≡ true
Begins c _ = Unit {0}

begin-reads : (c : Call) (s : Slots) → Each (Begins c) (begin c s).done.caused
begin-reads c s = each_call (λ (b : Begun). Each (Begins c) b.done.caused) c s (grind arith)

other_quiet : (c : Call) → reads_by c ≡ false → (e : Effect) → Begins c e → Quiet e
other_quiet c other (Readable i (Read (Promise p))) reads = false≢true (sym other ∙ reads)
other_quiet c other (Byte i (PullInto room element minimum (Promise p))) reads = false≢true (sym other ∙ reads)
other_quiet c other _ reads = tt

call-asks : (i : StreamId) (c : Call) (s : Slots) → promises_of (asked i (begin c s).done) ≡ call_byte_asked i c s
unfolding begin
call-asks i (ReadCall l) s = read-asks i s (lock_at l s)
call-asks i (ReadIntoCall l room element least) s = into-asks i room element least s (lock_at l s)
call-asks i c s = none-asked i (begin c s).done (each-map (Begins c) Quiet (other_quiet c refl) (begin c s).done.caused (begin-reads c s))

effects-quiet : (job : Job) → Each Quiet (job_effects job)
effects-quiet job = grind arith

job_quiet : (s : Slots) (job : Option Job) → Each Quiet (job_begun s job).caused
job_quiet s None = tt
job_quiet s (Some job) = effects-quiet job

-- steps and runs

entry-asks : (i : StreamId) (x : Entry) (s : Slots) → promises_of (step_byte_reads i s x).asked ≡ byte_asked_in_step i s x
unfolding begin_job
entry-asks i (Called c) s = call-asks i c s
entry-asks i Worked s = none-asked i (begin_job s) (job_quiet s (next_job s.promises))
entry-asks i Heard s = none-asked i (causes [] s) tt

pub run-asks : (i : StreamId) (xs : List Entry) (s : Slots) → promises_of (run_byte_reads i xs s).asked ≡ byte_asked_by_calls i xs s
run-asks i [] s = refl
run-asks i (x ∷ xs) s =
    let a = entry-asks i x s in let b = run-asks i xs (step s x) in
    promises-append (step_byte_reads i s x).asked (run_byte_reads i xs (step s x)).asked ∙ (rw (a, b) refl)

pub byte_reads_were_asked : ByteReadsWereAsked
byte_reads_were_asked entries i = run-asks i entries empty
