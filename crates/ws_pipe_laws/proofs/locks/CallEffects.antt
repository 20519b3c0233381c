-- What calls and jobs begin with: a call that takes locks does that first, and a BYOB reader comes to a byte stream.
use Rattle.ws_steps.specs.declared.promises.Step.TheVariants.{ReadableStart, WritableStart}
use Rattle.ws_steps.specs.declared.effects.Effect.TheVariants.{StartAlgorithm}
use Rattle.ws_steps.specs.declared.promises.Step.{Step}
use Rattle.ws_steps.specs.declared.port.Side.{Side as PortSide}
use Rattle.ws_steps.specs.declared.port.Side.TheVariants.{Readable as ReadableSide, Writable as WritableSide}
use Rattle.std.proofs.Common.{◌+◌, Bool, List, [], ◌∷◌, ◌++◌, length, Option, Some, None, ◌∙◌, arith}
use Rattle.ws_value.specs.declared.{ids.PipeId.{PipeId}, ids.PromiseId.{PromiseId}, ids.SignalId.{SignalId}, ids.StreamId.{StreamId}, value.Plain.{Plain}}
use Rattle.ws_steps.specs.declared.byte.ByteOperation.TheVariants.{InitializeByobReader}
use Rattle.ws_steps.specs.declared.calls.Call.{Call}
use Rattle.ws_steps.specs.declared.calls.{StartBy.{StartBy}, StartBy.TheVariants.{Now as StartNow, Later}}
use Rattle.ws_steps.specs.declared.effects.Effect.{Effect}
use Rattle.ws_steps.specs.declared.effects.Effect.TheVariants.{Readable as OnReadable, Byte, Writable as OnWritable}
use Rattle.ws_steps.specs.declared.{locks.Lock.TheVariants.{Reader, ByobReader}, promises.Job.{Job}}
use Rattle.ws_steps.specs.declared.readable.ReadableOperation.TheVariants.{ReleaseReader}
use Rattle.ws_steps.specs.declared.writable.{WritableOperation.TheVariants.{ReleaseWriter}}
use Rattle.ws_steps.specs.MakingCalls as making_calls
use Rattle.ws_steps.specs.LockCalls as lock_calls
use Rattle.ws_steps.specs.PipeCalls as pipe_calls
use Rattle.ws_steps.specs.Begun.{Begun}
use Rattle.ws_steps.specs.Calls.{begin}
use Rattle.ws_steps.specs.Jobs.{job_effects}
use Rattle.ws_steps.specs.Promises.{Table, next_id, fresh, is_pending_at}
use Rattle.ws_steps.specs.Readable as readable
use Rattle.ws_steps.specs.Slots.{Slots, source_at}
use Rattle.ws_steps.specs.Turns.{row}
use Rattle.ws_laws.proofs.EachCall.{each_call}
use Rattle.ws_laws.proofs.Lists.{Each, each-append, each-map}
use Rattle.ws_laws.proofs.Causes.{row-causes}
use Rattle.ws_laws.proofs.StaysBytes.{row-byte}
use Rattle.ws_pipe_laws.proofs.locks.Agenda.{IsNoTake, IsCalm, calm_takes, TakesFirst, takes_first}
use Rattle.ws_pipe_laws.proofs.locks.Rows.{IsToldBytes, take-causes}

-- jobs take no lock, and let go of none

pub job-calm : (job : Job) → Each IsCalm (job_effects job)
job-calm job = grind arith

-- a call that takes locks does that first

pub renewed-calm : (t : Table) (kept : Bool) → Each IsCalm (lock_calls.reject_renewed t kept)
renewed-calm t kept = grind arith

pub begins-calm : (me : PipeId) (a b : PromiseId) (signal : Option SignalId) (reason : Option Plain) → Each IsCalm (pipe_calls.pipe_begins me a b signal reason)
begins-calm me a b signal (Some r) = (tt, tt)
begins-calm me a b None None = grind arith
begins-calm me a b (Some g) None = grind arith

pub start-calm : (q : PromiseId) (j : StreamId) (start : StartBy) → IsCalm (making_calls.start_transform q j start)
start-calm q j StartNow = tt
start-calm q j Later = tt

pub no_takes : (es : List Effect) → Each IsCalm es → Each IsNoTake es
no_takes es c = each-map IsCalm IsNoTake calm_takes es c

starts-first : (j : StreamId) (step : Step) (start : StartBy) → TakesFirst (StartAlgorithm j step start ∷ [])
starts-first j step StartNow = tt
starts-first j step Later = tt

transform-first : (q : PromiseId) (j : StreamId) (start : StartBy) → TakesFirst (making_calls.start_transform q j start ∷ [])
transform-first q j StartNow = tt
transform-first q j Later = tt

end-first : (side : PortSide) (j : StreamId) → TakesFirst (pipe_calls.start_end j side ∷ [])
end-first ReadableSide j = tt
end-first WritableSide j = tt

pub end-calm : (side : PortSide) (j : StreamId) → IsCalm (pipe_calls.start_end j side)
end-calm ReadableSide j = tt
end-calm WritableSide j = tt

pub call-first : (c : Call) (s : Slots) → TakesFirst (begin c s).done.caused
call-first c s = each_call (λ (b : Begun). TakesFirst b.done.caused) c s (record {
  unchanged = λ reply. tt;
  rejected = λ fault. tt;
  make_readable = λ mark size start. starts-first (record { 0 = length s.streams }) (ReadableStart (record { 0 = length s.streams })) start;
  make_writable = λ mark size start. starts-first (record { 0 = length s.streams }) (WritableStart (record { 0 = length s.streams })) start;
  get_byob = λ i is e. tt;
  release_byob = λ l closed i e.
      let kept : Bool = readable.is_readable (source_at i s).state in
      takes_first _ (each-append IsNoTake (lock_calls.reject_renewed s.promises kept) (OnReadable i ReleaseReader ∷ []) (no_takes _ (renewed-calm s.promises kept)) (tt, tt));
  read_into = λ l i closed room element least e f. tt;
  enqueue_bytes = λ i b e is some can. tt;
  finish_bytes = λ i e is can. tt;
  make_request = λ i reply is. tt;
  respond = λ r i b e is can. tt;
  make_bytes = λ mark auto start. starts-first (record { 0 = length s.streams }) (ReadableStart (record { 0 = length s.streams })) start;
  get_reader = λ i e. tt;
  get_writer = λ i e. tt;
  release_reader = λ l closed i e.
      let kept : Bool = readable.is_readable (source_at i s).state in
      takes_first _ (each-append IsNoTake (lock_calls.reject_renewed s.promises kept) (OnReadable i ReleaseReader ∷ []) (no_takes _ (renewed-calm s.promises kept)) (tt, tt));
  release_writer = λ l i w e f.
      let ready : Bool = is_pending_at w.ready s.promises in
      let t : Table = lock_calls.with_renewed s.promises ready in
      let closed : Bool = is_pending_at w.closed t in
      takes_first _ (each-append IsNoTake (lock_calls.reject_renewed s.promises ready) _ (no_takes _ (renewed-calm s.promises ready))
      (each-append IsNoTake (lock_calls.reject_renewed t closed) (OnWritable i ReleaseWriter ∷ []) (no_takes _ (renewed-calm t closed)) (tt, tt)));
  cancel = λ reason i. tt;
  read = λ l i closed e f. tt;
  write = λ l v i e. tt;
  close = λ i. tt;
  abort = λ reason i e. tt;
  make_tee = λ i e is free untied. tt;
  make_transform = λ kind m n start.
      transform-first (next_id (fresh s.promises)) (record { 0 = length s.streams + 1 }) start;
  enqueue = λ i v e o can. tt;
  enqueue_half = λ i t v e o can. tt;
  fail_half = λ t reason. tt;
  terminate = λ t. tt;
  finish = λ i. tt;
  fail_readable = λ i reason. tt;
  fail_writable = λ i reason. tt;
  pipe = λ source dest prevent signal e f l m.
      no_takes _ (begins-calm (record { 0 = length s.pipes }) (next_id s.promises) (next_id (fresh (fresh s.promises))) signal (pipe_calls.reason_of signal s));
  make_signal = tt;
  open_end = λ side. end-first side _;
  send_readable = λ source there free. (tt, (tt, (tt, tt)));
  send_writable = λ dest there free. (tt, (tt, (tt, tt)));
  deliver = λ c m asked has. tt;
  trigger = λ a reason. tt;
  settle = λ h answer q e. tt;
})

-- a BYOB reader comes to a stream that has a byte controller

no_take-told : (z : Slots) (e : Effect) → IsNoTake e → IsToldBytes z e
no_take-told z e n = grind (arith, n)

pub told_all : (z : Slots) (es : List Effect) → Each IsNoTake es → Each (IsToldBytes z) es
told_all z es n = each-map IsNoTake (IsToldBytes z) (no_take-told z) es n

told-later : (s : Slots) (e f : Effect) → IsToldBytes s f → IsToldBytes (row e s).slots f
told-later s e (Byte j (InitializeByobReader c)) t = row-byte j e s ∙ t
told-later s e _ t = tt

pub row-told : (s : Slots) (e : Effect) (es : List Effect) → Each (IsToldBytes s) (e ∷ es) → Each (IsToldBytes (row e s).slots) ((row e s).caused ++ es)
row-told s e es k =
    let z : Slots = (row e s).slots in
    each-append (IsToldBytes z) (row e s).caused es (told_all z (row e s).caused (row-causes IsNoTake e s (take-causes e))) (each-map (IsToldBytes s) (IsToldBytes z) (told-later s e) es k.1)

pub call-told : (c : Call) (s : Slots) → Each (IsToldBytes (begin c s).done.slots) (begin c s).done.caused
call-told c s = each_call (λ (b : Begun). Each (IsToldBytes b.done.slots) b.done.caused) c s (record {
  unchanged = λ reply. tt;
  rejected = λ fault. (tt, tt);
  make_readable = λ mark size start. (tt, tt);
  make_writable = λ mark size start. (tt, tt);
  get_byob = λ i is e. (is, tt);
  release_byob = λ l closed i e. told_all (lock_calls.release_reader (ByobReader None) l closed i s).done.slots _ (each-append IsNoTake (lock_calls.reject_renewed s.promises (readable.is_readable (source_at i s).state)) (OnReadable i ReleaseReader ∷ []) (no_takes _ (renewed-calm s.promises (readable.is_readable (source_at i s).state))) (tt, tt));
  read_into = λ l i closed room element least e f. (tt, tt);
  enqueue_bytes = λ i b e is some can. (tt, tt);
  finish_bytes = λ i e is can. (tt, tt);
  make_request = λ i reply is. (tt, tt);
  respond = λ r i b e is can. (tt, tt);
  make_bytes = λ mark auto start. (tt, tt);
  get_reader = λ i e. (tt, tt);
  get_writer = λ i e. (tt, tt);
  release_reader = λ l closed i e. told_all (lock_calls.release_reader (Reader None) l closed i s).done.slots _ (each-append IsNoTake (lock_calls.reject_renewed s.promises (readable.is_readable (source_at i s).state)) (OnReadable i ReleaseReader ∷ []) (no_takes _ (renewed-calm s.promises (readable.is_readable (source_at i s).state))) (tt, tt));
  release_writer = λ l i w e f.
      let ready : Bool = is_pending_at w.ready s.promises in
      let t : Table = lock_calls.with_renewed s.promises ready in
      let closed : Bool = is_pending_at w.closed t in
      told_all (lock_calls.release_writer l i w s).done.slots _ (each-append IsNoTake (lock_calls.reject_renewed s.promises ready) _ (no_takes _ (renewed-calm s.promises ready))
      (each-append IsNoTake (lock_calls.reject_renewed t closed) (OnWritable i ReleaseWriter ∷ []) (no_takes _ (renewed-calm t closed)) (tt, tt)));
  cancel = λ reason i. (tt, tt);
  read = λ l i closed e f. (tt, tt);
  write = λ l v i e. (tt, tt);
  close = λ i. (tt, tt);
  abort = λ reason i e. (tt, tt);
  make_tee = λ i e is free untied. (tt, (tt, (tt, (tt, tt))));
  make_transform = λ kind m n start.
      let first : Effect = making_calls.start_transform (next_id (fresh s.promises)) (record { 0 = length s.streams + 1 }) start in
      (tt, (tt, (tt, (tt, (no_take-told (making_calls.make_transform kind m n start (record { 0 = length s.streams }) (record { 0 = length s.streams + 1 }) s).done.slots first (calm_takes first (start-calm (next_id (fresh s.promises)) (record { 0 = length s.streams + 1 }) start)), tt)))));
  enqueue = λ i v e o can. (tt, tt);
  enqueue_half = λ i t v e o can. (tt, tt);
  fail_half = λ t reason. (tt, tt);
  terminate = λ t. (tt, tt);
  finish = λ i. (tt, tt);
  fail_readable = λ i reason. (tt, tt);
  fail_writable = λ i reason. (tt, tt);
  pipe = λ source dest prevent signal e f l m.
      (tt, (tt, (tt, told_all (pipe_calls.pipe_to source dest prevent signal s).done.slots _ (no_takes _ (begins-calm (record { 0 = length s.pipes }) (next_id s.promises) (next_id (fresh (fresh s.promises))) signal (pipe_calls.reason_of signal s))))));
  make_signal = tt;
  open_end = λ side. told_all (pipe_calls.open_end side (record { 0 = length s.streams }) s).done.slots (pipe_calls.start_end (record { 0 = length s.streams }) side ∷ []) (calm_takes (pipe_calls.start_end (record { 0 = length s.streams }) side) (end-calm side (record { 0 = length s.streams })), tt);
  send_readable = λ source there free. (tt, (tt, (tt, (tt, (tt, (tt, (tt, tt)))))));
  send_writable = λ dest there free. (tt, (tt, (tt, (tt, (tt, (tt, (tt, tt)))))));
  deliver = λ c m asked has. (tt, tt);
  trigger = λ a reason. (tt, tt);
  settle = λ h answer q e. (tt, tt);
})
