-- One step of a writable stream.
use Rattle.ws_steps.specs.declared.port.Side.TheVariants.{Readable as ReadableSide, Writable as WritableSide}
use Rattle.ws_steps.specs.declared.byte.ReaderKind.TheVariants.{Default as DefaultKind}
use Rattle.ws_steps.specs.declared.effects.Effect.TheVariants.{Queue}
use Rattle.ws_steps.specs.PipeCalls as pipe_calls
use Rattle.ws_steps.specs.declared.readable.ReadableOperation.TheVariants.{Disturb}
use Rattle.ws_steps.specs.Slots.{has_byte}
use Rattle.ws_steps.specs.Slots.{on_byte}
use Rattle.ws_steps.specs.Slots.{on_readable}
use Rattle.ws_steps.specs.declared.writable.WritableOperation.TheVariants.{SetUpWriter}
use Rattle.ws_steps.specs.declared.port.Side.{Side}
use Rattle.ws_steps.specs.declared.writable.Writer.{Writer}
use Rattle.ws_value.specs.declared.ids.PromiseId.{PromiseId}
use Rattle.ws_steps.specs.Bytes as byte
use Rattle.ws_steps.specs.Readable as readable
use Rattle.ws_steps.specs.declared.readable.ReadableOperation.TheVariants.{InitializeReader}
use Rattle.std.proofs.Common.{◌≡◌, ◌⊎◌, inl, inr, ⊎_elim, Option, Some, None, ap, Bool, true, false, List, [], ◌∷◌, ◌++◌, refl, sym, ◌∙◌, append_assoc, append-nil, arith}
use Rattle.ws_value.specs.declared.ids.StreamId.{StreamId}
use Rattle.ws_value.specs.declared.value.Value.{Value}
use Rattle.ws_steps.specs.declared.{effects.Effect.{Effect}, effects.Effect.TheVariants.{Readable, Writable, StartAlgorithm, Give, Settle, CallHost}, effects.Owner.TheVariants.{Host}, writable.WritableOperation.{WritableOperation}, calls.Call.{Call}, promises.Job.{Job}}
use Rattle.ws_steps.specs.Writable as writable
use Rattle.ws_steps.specs.Writable.{Acts, has_ended, is_errored, is_closed, set_up_writer, writer_release, writer_write, stream_close, close_with_error_propagation, stream_abort, abort_if_writable, controller_error_if_needed, hand_on, start_settled, write_settled, close_settled, abort_settled, finish_in_flight_close, finish_in_flight_close_with_error, deal_with_rejection, finish_erroring, advance_queue, refresh_backpressure, update_backpressure, reject_close_and_closed, process_write, process_close, start_erroring, controller_write, controller_close}
use Rattle.ws_steps.specs.Operations.{writable_operation}
use Rattle.ws_steps.specs.Promises.{next_job}
use Rattle.ws_steps.specs.Histories.{is_same}
use Rattle.ws_steps.specs.Slots.{Slots, Done, nothing, empty, owner_at, has_writable, put_writable, as_writable, writable_at}
use Rattle.ws_steps.specs.Turns.{row, moments}
use Rattle.ws_steps.specs.Jobs.{job_begun, begin_job}
use Rattle.ws_steps.specs.Begun.{Begun}
use Rattle.ws_steps.specs.Calls.{begin}
use Rattle.ws_steps.specs.Run.{Entry, Called, Worked, Heard, step, run}
use Rattle.ws_steps.specs.Histories.{along}
use Rattle.ws_steps.specs.WritableHistory.{Writes, no_writes, writes_then, todo, written_by, effect_writes, step_writes, run_writes}
use Rattle.ws_steps.specs.Laws.{IsWritableStep, EachWritableStep}
use Rattle.ws_laws.proofs.EachCall.{each_call}
use Rattle.ws_laws.proofs.Lists.{Each, each-append, append_cancel, append_none}
use Rattle.ws_laws.proofs.Apart.{row-streams}
use Rattle.ws_laws.proofs.Causes.{row-causes}
use Rattle.ws_laws.proofs.Tables.{either, same_id, writable_acts, on_writable-other, on_writable-same}
use Rattle.ws_laws.proofs.Walker.{performed-goes}
use Rattle.ws_writable_laws.proofs.Shape.{Core, core_of, Told}
use Rattle.ws_writable_laws.proofs.Operations.{so_far-nothing}
use Rattle.ws_writable_laws.proofs.Agenda.{Kept, same_or}
use Rattle.ws_writable_laws.proofs.Runs.{is_history, tee-place, step-kept, run-kept, hosted_at, host-before, resting, closed_whole}
use Rattle.ws_steps.specs.declared.effects.Effect.TheVariants.{Byte}
use Rattle.ws_steps.specs.Operations.{byte_operation}
use Rattle.ws_laws.proofs.Tables.{on_source-writable, on_byte-writable}

-- nothing is written to a stream that has ended

refuses : (v : Value) (w : writable.Slots) → has_ended w.state ≡ true → written_by v w ≡ []
refuses v w e = grind arith

-- an operation leaves a stream that has ended as ended as it was
ended-operation : (i : StreamId) (operation : WritableOperation) (a : Acts) → has_ended a.slots.state ≡ true → has_ended (writable_operation i operation a).slots.state ≡ true
unfolding set_up_writer writer_release writer_write stream_close close_with_error_propagation stream_abort abort_if_writable controller_error_if_needed hand_on start_settled write_settled close_settled abort_settled finish_in_flight_close finish_in_flight_close_with_error deal_with_rejection finish_erroring advance_queue refresh_backpressure update_backpressure reject_close_and_closed process_write process_close start_erroring controller_write controller_close
ended-operation i operation a e = grind arith

pub row-ended : (i : StreamId) (e : Effect) (s : Slots) → has_ended (writable_at i s).state ≡ true → has_ended (writable_at i (row e s).slots).state ≡ true
unfolding row
row-ended i (Readable j operation) s ended = rw (on_source-writable operation j s i) ended
row-ended i (Byte j operation) s ended = rw (on_byte-writable (byte_operation j operation) j s i) ended
row-ended i (Writable j operation) s ended =
    same_or (λ l. has_ended (writable_at i (row (Writable l operation) s).slots).state ≡ true) i j (is_same i j) refl
    (λ other. rw (ap as_writable (on_writable-other (writable_operation j operation) j s i other)) ended)
    (either (λ (d : Done). has_ended (writable_at i d.slots).state ≡ true) (has_writable i s) (put_writable i s (writable_operation i operation (writable_acts i s))) (nothing s)
    (λ t. rw (rw t at (on_writable-same (writable_operation i operation) i s t)) (ended-operation i operation (writable_acts i s) ended)) (λ t. ended))
row-ended i e s ended = rw (row-streams e s tt) ended

-- what a call that makes a stream begins with, and what comes of that
abbrev IsMaking : Effect → Type 0
IsMaking (Readable j (InitializeReader closed)) = Unit {0}
IsMaking (Readable j Disturb) = Unit {0}
IsMaking (Writable j (SetUpWriter w)) = Unit {0}
IsMaking (Queue m) = Unit {0}
IsMaking (StartAlgorithm j step start) = Unit {0}
IsMaking (Give gift u) = Unit {0}
IsMaking (Settle p o) = Unit {0}
IsMaking (CallHost call u) = Unit {0}
IsMaking _ = ⊥

default-initializes : (j : StreamId) (closed : PromiseId) (s : Slots) → (on_readable (readable.reader_generic_initialize closed) j s).caused ≡ []
unfolding readable.reader_generic_initialize
default-initializes j closed s = grind arith

byte-initializes : (j : StreamId) (closed : PromiseId) (s : Slots) → (on_byte (byte.reader_initialize DefaultKind closed) j s).caused ≡ []
unfolding byte.reader_initialize readable.reader_generic_initialize
byte-initializes j closed s = grind arith

initializes : (j : StreamId) (closed : PromiseId) (s : Slots) → (row (Readable j (InitializeReader closed)) s).caused ≡ []
unfolding row
initializes j closed s =
    either (λ (d : Done). d.caused ≡ []) (has_byte j s) (on_byte (byte.reader_initialize DefaultKind closed) j s) (on_readable (readable.reader_generic_initialize closed) j s)
    (λ is. byte-initializes j closed s) (λ n. default-initializes j closed s)

disturbs : (j : StreamId) (s : Slots) → (row (Readable j Disturb) s).caused ≡ []
unfolding row readable.disturb
disturbs j s = grind arith

sets_up : (j : StreamId) (w : Writer) (s : Slots) → (row (Writable j (SetUpWriter w)) s).caused ≡ []
unfolding row set_up_writer
sets_up j w s = grind arith

making-row : (e : Effect) (s : Slots) → IsMaking e → Each IsMaking (row e s).caused
making-row (Readable j (InitializeReader closed)) s m = rw (initializes j closed s) tt
making-row (Readable j Disturb) s m = rw (disturbs j s) tt
making-row (Writable j (SetUpWriter w)) s m = rw (sets_up j w s) tt
making-row (Queue q) s m = row-causes IsMaking (Queue q) s tt
making-row (StartAlgorithm j step start) s m = row-causes IsMaking (StartAlgorithm j step start) s (λ g u. tt, λ c u. tt)
making-row (Give gift u) s m = row-causes IsMaking (Give gift u) s tt
making-row (Settle p o) s m = row-causes IsMaking (Settle p o) s tt
making-row (CallHost call u) s m = row-causes IsMaking (CallHost call u) s tt
making-row _ s m = absurd m

making_none : (i : StreamId) (e : Effect) (s : Slots) → IsMaking e → (effect_writes i e s).written ≡ []
making_none i e s m = grind arith

ended_none : (i : StreamId) (e : Effect) (s : Slots) → has_ended (writable_at i s).state ≡ true → (effect_writes i e s).written ≡ []
ended_none i e s b = grind (arith, refuses, same_id)

-- nothing was written yet, and nothing will be
record Unwritten (i : StreamId) (h : Writes) (s : Slots) (es : List Effect) : Type 0 where
  pub none : h.written ≡ []
  pub idle : Each IsMaking es ⊎ (has_ended (writable_at i s).state ≡ true)

row_unwritten : (i : StreamId) (h : Writes) (s : Slots) (e : Effect) (es : List Effect) → Unwritten i h s (e ∷ es) → Unwritten i (writes_then h (effect_writes i e s)) (row e s).slots ((row e s).caused ++ es)
row_unwritten i h s e es u =
    ⊎_elim
    (λ m. record {
      none = rw (u.none, making_none i e s m.0) refl;
      idle = inl (each-append IsMaking (row e s).caused es (making-row e s m.0) m.1);
    })
    (λ b. record { none = rw (u.none, ended_none i e s b) refl; idle = inr (row-ended i e s b) })
    u.idle

performed_none : (i : StreamId) (d : Done) → Each IsMaking d.caused ⊎ (has_ended (writable_at i d.slots).state ≡ true) → (along no_writes writes_then (effect_writes i) (moments d)).written ≡ []
performed_none i d b = (performed-goes no_writes writes_then is_history (effect_writes i) (Unwritten i) (row_unwritten i) no_writes d (record { none = refl; idle = b })).none

job_ended : (i : StreamId) (s : Slots) (job : Option Job) → has_ended (writable_at i s).state ≡ true → has_ended (writable_at i (job_begun s job).slots).state ≡ true
job_ended i s None e = e
job_ended i s (Some job) e = e

open-making : (side : Side) (j : StreamId) → Each IsMaking (pipe_calls.start_end j side ∷ [])
open-making ReadableSide j = (tt, tt)
open-making WritableSide j = (tt, tt)

call_none : (i : StreamId) (s : Slots) (c : Call) → has_ended (writable_at i s).state ≡ true → Each IsMaking (begin c s).done.caused ⊎ (has_ended (writable_at i (begin c s).done.slots).state ≡ true)
call_none i s c e =
    each_call (λ (b : Begun). Each IsMaking b.done.caused ⊎ (has_ended (writable_at i b.done.slots).state ≡ true)) c s (record {
      unchanged = λ reply. inr e;
      rejected = λ fault. inr e;
      make_readable = λ mark size start. inl (tt, tt);
      make_bytes = λ mark auto start. inl (tt, tt);
      get_byob = λ j is f. inr e;
      release_byob = λ l closed j f. inr e;
      read_into = λ l j closed room element least f g. inr e;
      enqueue_bytes = λ j b f is some can. inr e;
      finish_bytes = λ j f is can. inr e;
      make_request = λ j reply is. inr e;
      respond = λ q j b f is can. inr e;
      make_writable = λ mark size start. inl (tt, tt);
      make_transform = λ kind m n start. inl (grind arith);
      make_tee = λ j c is free untied. inr (rw (tee-place i j s).1 e);
      get_reader = λ j f. inr e;
      get_writer = λ j f. inr e;
      release_reader = λ l closed j f. inr e;
      release_writer = λ l j w f g. inr e;
      cancel = λ reason j. inr e;
      read = λ l j closed f g. inr e;
      write = λ l v j f. inr e;
      close = λ j. inr e;
      abort = λ reason j f. inr e;
      enqueue = λ j v f w can. inr e;
      enqueue_half = λ j t v f w can. inr e;
      fail_half = λ t reason. inr e;
      terminate = λ t. inr e;
      finish = λ j. inr e;
      fail_readable = λ j reason. inr e;
      fail_writable = λ j reason. inr e;
      pipe = λ source dest prevent signal f g k l. inr e;
      make_signal = inr e;
      open_end = λ side. inl (open-making side _);
      send_readable = λ j there free. inl (grind arith);
      send_writable = λ j there free. inl (grind arith);
      deliver = λ c m asked is. inr e;
      trigger = λ a reason. inr e;
      settle = λ h answer p f. inr e;
    })

pub entry_none : (i : StreamId) (s : Slots) (x : Entry) → has_ended (writable_at i s).state ≡ true → (step_writes i s x).written ≡ []
unfolding begin_job
entry_none i s (Called c) e = performed_none i (begin c s).done (call_none i s c e)
entry_none i s Worked e = performed_none i (begin_job s) (inr (job_ended i s (next_job s.promises) e))
entry_none i s Heard e = performed_none i (nothing s) (inr e)

-- a stream that has ended acts on nothing: its past may be forgotten, but for its closing

abbrev pub forgotten : Writes → Writes
forgotten h = record no_writes { closes = h.closes }

forgotten-told : (h : Writes) (d : List Value) (c : Core) → has_ended c.state ≡ true → c.queue ≡ [] → Told h d c → Told (forgotten h) [] c
forgotten-told h d c e q t = grind arith

pub forgotten-kept : (i : StreamId) (h : Writes) (s : Slots) → has_ended (writable_at i s).state ≡ true → Kept i h s [] → Kept i (forgotten h) s []
forgotten-kept i h s e k =
    let r = resting i h s k in
    let t = forgotten-told h k.held.dropped (core_of (writable_at i s)) e (r.shape.ended e) r.told in
    record {
      unmade = λ g. let u = k.unmade g in grind arith;
      halved = k.halved;
      ended = k.ended;
      held = record { behind = refl; dropped = []; fine = rw (so_far-nothing i (forgotten h) (writable_at i s)) (record { shape = r.shape; closing = r.closing; told = t; owed = r.owed }) };
    }

acts_none : (i : StreamId) (x : Entry) (s : Slots) (h : Writes) → owner_at i (step s x) ≡ Host → has_ended (writable_at i s).state ≡ true → Kept i h s [] → (step_writes i s x).acted ≡ []
acts_none i x s h host e k =
    let g : Writes = writes_then (forgotten h) (step_writes i s x) in
    let after = step-kept i (forgotten h) s x (forgotten-kept i h s e k) in
    let t = (resting i g (step s x) after).told in
    let all : (step_writes i s x).acted ++ (todo (writable_at i (step s x)).queue ++ after.held.dropped) ≡ [] = sym (t.all (hosted_at i (step s x) host)) ∙ entry_none i s x e in
    (append_none (step_writes i s x).acted (todo (writable_at i (step s x)).queue ++ after.held.dropped) all).0

-- a stream that hasn't ended

pub step_lists : (E A Q D W B R F : List Value) → E ≡ A ++ (Q ++ D) → D ≡ [] → E ++ W ≡ (A ++ B) ++ (R ++ F) → Q ++ W ≡ B ++ (R ++ F)
step_lists E A Q D W B R F e d f = append_cancel A (Q ++ W) (B ++ (R ++ F)) (grind (arith, append_assoc, append-nil))

-- nothing was dropped of a stream that isn't errored
none_dropped : (h : Writes) (d : List Value) (c : Core) → c.hosted ≡ true → is_errored c.state ≡ false → Told h d c → d ≡ []
none_dropped h d c host f t =
    let closed : is_closed c.state ≡ true → d ≡ [] = λ e.
    let all : h.acted ++ [] ≡ h.acted ++ (todo c.queue ++ d) = append-nil h.acted ∙ ((closed_whole h d c host e t).0 ∙ t.all host) in
    (append_none (todo c.queue) d (sym (append_cancel h.acted [] (todo c.queue ++ d) all))).1 in
    grind arith

writable_step : (i : StreamId) (x : Entry) (s : Slots) (h : Writes) → owner_at i (step s x) ≡ Host → Kept i h s [] → (ended : Bool) → ended ≡ has_ended (writable_at i s).state → IsWritableStep (step_writes i s x) (writable_at i s) (writable_at i (step s x))
writable_step i x s h host k true e =
    let written = entry_none i s x (sym e) in
    let acted = acts_none i x s h host (sym e) k in
    record {
      alive = λ f g. absurd (cc);
      front = (todo (writable_at i s).queue ++ (step_writes i s x).written, rw acted refl);
      ended = λ f. (written, acted);
    }
writable_step i x s h host k false e =
    let g : Writes = step_writes i s x in
    let before : writable.Slots = writable_at i s in
    let now : writable.Slots = writable_at i (step s x) in
    let was = hosted_at i s (host-before i x s host) in
    let is = hosted_at i (step s x) host in
    let after = step-kept i h s x k in
    let t = (resting i h s k).told in
    let u = (resting i (writes_then h g) (step s x) after).told in
    let lists = step_lists h.written h.acted (todo before.queue) k.held.dropped g.written g.acted (todo now.queue) after.held.dropped (t.all was) (t.live was (rw (← e) refl)) (u.all is) in
    record {
      alive = λ f l.
          let none : after.held.dropped ≡ [] = none_dropped (writes_then h g) after.held.dropped (core_of now) is l u in
          rw (none, append-nil) at lists;
      front = (todo now.queue ++ after.held.dropped, sym lists);
      ended = λ f. absurd (cc);
    }

pub each_writable_step : EachWritableStep
each_writable_step entries x i = λ host.
    let s : Slots = run entries empty in
    writable_step i x s (run_writes i entries empty) host (run-kept entries i) (has_ended (writable_at i s).state) refl
