-- Operations by which a reader comes stand before all other effects, but for what a start algorithm leads to.
use Rattle.std.proofs.Common.{◌≡◌, ◌+◌, Bool, List, [], ◌∷◌, ◌++◌, length, Option, Some, None, arith}
use Rattle.ws_steps.specs.declared.effects.Effect.TheVariants.{CallHost}
use Rattle.ws_steps.specs.declared.effects.Effect.TheVariants.{Give}
use Rattle.ws_steps.specs.declared.effects.Effect.TheVariants.{StartAlgorithm}
use Rattle.ws_laws.proofs.PortDoes.{PortCauses}
use Rattle.ws_value.specs.declared.ids.PortId.{PortId}
use Rattle.ws_value.specs.declared.ids.PipeId.{PipeId}
use Rattle.ws_value.specs.declared.ids.PromiseId.{PromiseId}
use Rattle.ws_value.specs.declared.ids.SignalId.{SignalId}
use Rattle.ws_value.specs.declared.ids.StreamId.{StreamId}
use Rattle.ws_value.specs.declared.ids.TeeId.{TeeId}
use Rattle.ws_value.specs.declared.value.Plain.{Plain}
use Rattle.ws_steps.specs.declared.calls.Call.{Call}
use Rattle.ws_steps.specs.declared.calls.StartBy.{StartBy}
use Rattle.ws_steps.specs.declared.calls.StartBy.TheVariants.{Now, Later}
use Rattle.ws_steps.specs.declared.byte.ReaderKind.TheVariants.{Default}
use Rattle.ws_steps.specs.declared.effects.Effect.{Effect}
use Rattle.ws_steps.specs.declared.effects.Effect.TheVariants.{Readable, Writable}
use Rattle.ws_steps.specs.declared.promises.Job.{Job}
use Rattle.ws_steps.specs.declared.readable.ReadableOperation.TheVariants.{InitializeReader, ReleaseReader}
use Rattle.ws_steps.specs.declared.transform.TransformId.{TransformId}
use Rattle.ws_steps.specs.declared.writable.WritableOperation.TheVariants.{ReleaseWriter}
use Rattle.ws_steps.specs.Bytes as byte
use Rattle.ws_steps.specs.Readable as readable
use Rattle.ws_steps.specs.Readable.{reader_generic_initialize}
use Rattle.ws_steps.specs.Promises.{Table, next_id, fresh, is_pending_at}
use Rattle.ws_steps.specs.Slots.{Slots, Done, has_byte, on_readable, on_byte, source_at}
use Rattle.ws_steps.specs.Turns.{row}
use Rattle.ws_steps.specs.Jobs.{job_effects}
use Rattle.ws_steps.specs.MakingCalls as making_calls
use Rattle.ws_steps.specs.LockCalls as lock_calls
use Rattle.ws_steps.specs.PipeCalls as pipe_calls
use Rattle.ws_steps.specs.Begun.{Begun}
use Rattle.ws_steps.specs.Calls.{begin}
use Rattle.ws_laws.proofs.EachCall.{each_call}
use Rattle.ws_laws.proofs.Lists.{Each, each-append}
use Rattle.ws_laws.proofs.PipeDoes.{PipeCauses}
use Rattle.ws_laws.proofs.Causes.{Causes, row-causes}
use Rattle.ws_laws.proofs.Tables.{either}
use Rattle.ws_laws.proofs.TeeDoes.{TeeCauses}
use Rattle.ws_laws.proofs.TransformDoes.{TransformCauses}
use Rattle.ws_laws.proofs.Walker.{Stays}
use Rattle.ws_steps.specs.declared.port.Side.{Side}
use Rattle.ws_steps.specs.declared.port.Side.TheVariants.{Readable as ReadableSide, Writable as WritableSide}

-- other effects
abbrev pub IsNoInit : Effect → Type 0
IsNoInit (Readable j (InitializeReader closed)) = ⊥
IsNoInit _ = Unit {0}

abbrev pub InitFirst : List Effect → Type 0
InitFirst [] = Unit {0}
InitFirst (Readable j (InitializeReader closed) ∷ es) = InitFirst es
InitFirst (StartAlgorithm j step start ∷ es) = InitFirst es
InitFirst (Give gift u ∷ es) = InitFirst es
InitFirst (CallHost call u ∷ es) = InitFirst es
InitFirst (e ∷ es) = Each IsNoInit es

-- neither a start algorithm nor what it leads to
abbrev IsOther : Effect → Type 0
IsOther (StartAlgorithm j step start) = ⊥
IsOther (Give gift u) = ⊥
IsOther (CallHost call u) = ⊥
IsOther _ = Unit {0}

none-first : (es : List Effect) → Each IsNoInit es → InitFirst es
none-first [] n = tt
none-first (e ∷ es) n = by e n.0 (none-first es n.1)
  where
    by : (e : Effect) → IsNoInit e → InitFirst es → InitFirst (e ∷ es)
    by e k h = grind (arith, k, n, h)

first-behind : (e : Effect) (es : List Effect) → IsNoInit e → IsOther e → InitFirst (e ∷ es) → Each IsNoInit es
first-behind e es n o t = grind (arith, n, o, t)

-- none is caused

pipe-none : (me : PipeId) (source dest : StreamId) (e : Effect) → PipeCauses me source dest e → IsNoInit e
pipe-none me source dest e c = grind (arith, c)

transform-none : (me : TransformId) (writable readable : StreamId) (e : Effect) → TransformCauses me writable readable e → IsNoInit e
transform-none me writable readable e c = grind (arith, c)

tee-none : (me : TeeId) (source first second : StreamId) (e : Effect) → TeeCauses me source first second e → IsNoInit e
tee-none me source first second e c = grind (arith, c)

port-none : (c : PortId) (stream : StreamId) (e : Effect) → PortCauses c stream e → IsNoInit e
port-none c stream e k = grind (arith, k)

none-causes : (e : Effect) → Causes IsNoInit e
none-causes e = grind (arith, pipe-none, transform-none, tee-none, port-none)

default-initializes : (j : StreamId) (closed : PromiseId) (s : Slots) → (on_readable (reader_generic_initialize closed) j s).caused ≡ []
unfolding reader_generic_initialize
default-initializes j closed s = grind arith

byte-initializes : (j : StreamId) (closed : PromiseId) (s : Slots) → (on_byte (byte.reader_initialize Default closed) j s).caused ≡ []
unfolding byte.reader_initialize reader_generic_initialize
byte-initializes j closed s = grind arith

initializes : (j : StreamId) (closed : PromiseId) (s : Slots) → (row (Readable j (InitializeReader closed)) s).caused ≡ []
unfolding row
initializes j closed s =
    either (λ (d : Done). d.caused ≡ []) (has_byte j s) (on_byte (byte.reader_initialize Default closed) j s) (on_readable (reader_generic_initialize closed) j s)
    (λ is. byte-initializes j closed s) (λ n. default-initializes j closed s)

row-first : (s : Slots) (e : Effect) (es : List Effect) → InitFirst (e ∷ es) → InitFirst ((row e s).caused ++ es)
unfolding row
row-first s (Readable j (InitializeReader closed)) es t = rw (initializes j closed s) t
row-first s (StartAlgorithm j step Now) es t = t
row-first s (StartAlgorithm j step Later) es t = t
row-first s (Give gift u) es t = t
row-first s (CallHost call u) es t = t
row-first s e es t = none-first ((row e s).caused ++ es) (each-append IsNoInit (row e s).caused es (row-causes IsNoInit e s (none-causes e)) (first-behind e es tt tt t))

-- calls and jobs

renewed-none : (t : Table) (kept : Bool) → Each IsNoInit (lock_calls.reject_renewed t kept)
renewed-none t kept = grind arith

begins-none : (me : PipeId) (a b : PromiseId) (signal : Option SignalId) (reason : Option Plain) → Each IsNoInit (pipe_calls.pipe_begins me a b signal reason)
begins-none me a b signal (Some r) = (tt, tt)
begins-none me a b None None = grind arith
begins-none me a b (Some g) None = grind arith

start-first : (q : PromiseId) (j : StreamId) (start : StartBy) → InitFirst (making_calls.start_transform q j start ∷ [])
start-first q j Now = tt
start-first q j Later = tt

opened-first : (s : Slots) (i : StreamId) (side : Side) → InitFirst (pipe_calls.open_end side i s).done.caused
opened-first s i ReadableSide = tt
opened-first s i WritableSide = tt

sent-first : (s z : Slots) (i source dest : StreamId) (side : Side) → InitFirst (pipe_calls.sent_by i side s (pipe_calls.pipe_to source dest pipe_calls.no_prevent None z)).done.caused
sent-first s z i source dest ReadableSide = (tt, begins-none (record { 0 = length z.pipes }) (next_id z.promises) (next_id (fresh (fresh z.promises))) None None)
sent-first s z i source dest WritableSide = (tt, begins-none (record { 0 = length z.pipes }) (next_id z.promises) (next_id (fresh (fresh z.promises))) None None)

call-first : (c : Call) (s : Slots) → InitFirst (begin c s).done.caused
call-first c s = each_call (λ (b : Begun). InitFirst b.done.caused) c s (record {
  unchanged = λ reply. tt;
  rejected = λ fault. tt;
  make_readable = λ mark size start. tt;
  make_writable = λ mark size start. tt;
  get_byob = λ i is e. tt;
  release_byob = λ l closed i e.
      let kept : Bool = readable.is_readable (source_at i s).state in
      none-first _ (each-append IsNoInit (lock_calls.reject_renewed s.promises kept) (Readable i ReleaseReader ∷ []) (renewed-none s.promises kept) (tt, tt));
  read_into = λ l i closed room element least e f. tt;
  enqueue_bytes = λ i b e is some can. tt;
  finish_bytes = λ i e is can. tt;
  make_request = λ i reply is. tt;
  respond = λ r i b e is can. tt;
  make_bytes = λ mark auto start. tt;
  get_reader = λ i e. tt;
  get_writer = λ i e. tt;
  release_reader = λ l closed i e.
      let kept : Bool = readable.is_readable (source_at i s).state in
      none-first _ (each-append IsNoInit (lock_calls.reject_renewed s.promises kept) (Readable i ReleaseReader ∷ []) (renewed-none s.promises kept) (tt, tt));
  release_writer = λ l i w e f.
      let ready : Bool = is_pending_at w.ready s.promises in
      let t : Table = lock_calls.with_renewed s.promises ready in
      let closed : Bool = is_pending_at w.closed t in
      none-first _ (each-append IsNoInit (lock_calls.reject_renewed s.promises ready) _ (renewed-none s.promises ready)
      (each-append IsNoInit (lock_calls.reject_renewed t closed) (Writable i ReleaseWriter ∷ []) (renewed-none t closed) (tt, tt)));
  cancel = λ reason i. tt;
  read = λ l i closed e f. tt;
  write = λ l v i e. tt;
  close = λ i. tt;
  abort = λ reason i e. tt;
  make_transform = λ kind m n start. start-first (next_id (fresh s.promises)) (record { 0 = length s.streams + 1 }) start;
  make_tee = λ i e is free untied. tt;
  enqueue = λ i v e o can. tt;
  enqueue_half = λ i t v e o can. tt;
  fail_half = λ t reason. tt;
  terminate = λ t. tt;
  finish = λ i. tt;
  fail_readable = λ i reason. tt;
  fail_writable = λ i reason. tt;
  pipe = λ source dest prevent signal e f l m.
      (tt, begins-none (record { 0 = length s.pipes }) (next_id s.promises) (next_id (fresh (fresh s.promises))) signal (pipe_calls.reason_of signal s));
  make_signal = tt;
  open_end = λ side. opened-first s (record { 0 = length s.streams }) side;
  send_readable = λ i there free. sent-first s (pipe_calls.add_port (record { 0 = length s.streams }) s WritableSide) (record { 0 = length s.streams }) i (record { 0 = length s.streams }) WritableSide;
  send_writable = λ i there free. sent-first s (pipe_calls.add_port (record { 0 = length s.streams }) s ReadableSide) (record { 0 = length s.streams }) (record { 0 = length s.streams }) i ReadableSide;
  deliver = λ p m e is. tt;
  trigger = λ a reason. tt;
  settle = λ h answer q e. tt;
})

job-none : (job : Job) → Each IsNoInit (job_effects job)
job-none job = grind arith

-- at each moment of each run
abbrev pub Inits : Slots → List Effect → Type 0
Inits s es = InitFirst es

pub inits-stay : Stays Inits
inits-stay = record {
  row = row-first;
  call = λ s c o. call-first c s;
  job = λ s job e o. none-first (job_effects job) (job-none job);
  answered = λ s p o. tt;
  older = λ s o. tt;
}
