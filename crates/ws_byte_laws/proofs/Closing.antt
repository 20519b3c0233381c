-- The close of a byte stream that throws.
use Rattle.std.proofs.Common.{◌≡◌, ◌⊎◌, inl, inr, ℕ, Bool, true, List, [], ◌∷◌, ◌++◌, length, Option, Some, None, slice_get, refl, sym, ap, ◌∙◌, ◌&&◌, not, arith, subst, if◌then◌else◌}
use Rattle.ws_value.specs.declared.ids.TeeId.{TeeId}
use Rattle.ws_steps.specs.declared.effects.Effect.TheVariants.{Tee}
use Rattle.ws_steps.specs.declared.tee.TeeOperation.TheVariants.{SourceErrored}
use Rattle.ws_steps.specs.Tee as tee
use Rattle.ws_steps.specs.Slots.{on_tee_at}
use Rattle.ws_steps.specs.Operations.{tee_operation}
use Rattle.ws_steps.specs.Bytes.{in_stream, can_take, stream_close, clear_all, controller_error, close_by, controller_close}
use Rattle.ws_steps.specs.Descriptors.{has_part}
use Rattle.ws_steps.specs.Queues.{is_empty}
use Rattle.ws_steps.specs.Effects.{type_error}
use Rattle.ws_steps.specs.Promises.{Table}
use Rattle.ws_steps.specs.ByteHistory.{run_bytes}
use Rattle.ws_steps.specs.Operations.{byte_readable_operation}
use Rattle.ws_steps.specs.declared.readable.ReadableState.TheVariants.{Readable, Errored}
use Rattle.ws_steps.specs.declared.readable.ReadRequest.{ReadRequest}
use Rattle.ws_steps.specs.declared.effects.Effect.{Effect}
use Rattle.ws_steps.specs.declared.effects.Effect.TheVariants.{ErrorSteps}
use Rattle.ws_value.specs.declared.ids.StreamId.{StreamId}
use Rattle.ws_value.specs.declared.ids.PromiseId.{PromiseId}
use Rattle.ws_value.specs.declared.value.Plain.{Plain}
use Rattle.ws_laws.proofs.Tables.{either}
use Rattle.ws_byte_laws.proofs.Given.{starting}
use Rattle.ws_byte_laws.proofs.Leaving.{none_asked, no_reader}
use Rattle.ws_byte_laws.proofs.Law.{readable_of}
use Rattle.ws_byte_laws.proofs.Balance.{Balanced}
use Rattle.ws_byte_laws.proofs.Runs.{between, ordered-run}
use Rattle.ws_steps.specs.Readable as readable
use Rattle.ws_value.specs.declared.ids.PipeId.{PipeId}
use Rattle.ws_steps.specs.declared.calls.Call.TheVariants.{Finish}
use Rattle.ws_steps.specs.declared.calls.Reply.TheVariants.{Throws, Done as ReplyDone}
use Rattle.ws_steps.specs.declared.calls.Thrown.TheVariants.{TypeError as ThrownTypeError}
use Rattle.ws_steps.specs.declared.effects.Effect.TheVariants.{Readable as OnReadable, Pipe}
use Rattle.ws_steps.specs.declared.readable.ReadableOperation.TheVariants.{Close}
use Rattle.ws_steps.specs.declared.readable.ReadRequest.TheVariants.{Promise, Pipe as PipeRequest, Tee as TeeRequest}
use Rattle.ws_steps.specs.declared.pipes.PipeOperation.TheVariants.{ReadEnded}
use Rattle.ws_steps.specs.Bytes as byte
use Rattle.ws_steps.specs.Slots as realm
use Rattle.ws_steps.specs.Slots.{Stream, ByteStream, Done, has_byte, byte_at, is_byte_stream, as_byte, empty, causes, on_pipe_at, found}
use Rattle.ws_steps.specs.Operations.{pipe_operation}
use Rattle.ws_steps.specs.Pipes as piping
use Rattle.ws_steps.specs.Run.{run, reply_to, after_call, older}
use Rattle.ws_steps.specs.Begun.{Begun}
use Rattle.ws_steps.specs.ControllerCalls.{finish_bytes}
use Rattle.ws_steps.specs.Calls.{begin}
use Rattle.ws_steps.specs.Begun as replying
use Rattle.ws_steps.specs.ControllerCalls as controller_calls
use Rattle.ws_steps.specs.Calls as calls
use Rattle.ws_steps.specs.Turns.{row, performed}
use Rattle.ws_steps.specs.ByteLaws.{IsErroredByClose, EachThrowingCloseErrs}
use Rattle.ws_laws.proofs.Tables.{on_source-byte, on_byte-same}
use Rattle.ws_laws.proofs.Lists.{Each, each-append}
use Rattle.ws_laws.proofs.Apart.{row-streams}
use Rattle.ws_laws.proofs.Walker.{untold, performed-goes}
use Rattle.ws_byte_laws.specs.Descriptors.{Held, reads}

-- effects that end reads

abbrev EndsRead : Effect → Type 0
EndsRead (ErrorSteps j q e) = Unit {0}
EndsRead (Pipe p ReadEnded) = Unit {0}
EndsRead (Tee t SourceErrored) = Unit {0}
EndsRead _ = ⊥

errors_end : (me : StreamId) (e : Plain) (qs : List ReadRequest) → Each EndsRead (readable.error_all me e qs)
errors_end me e [] = tt
errors_end me e (q ∷ qs) = (tt, errors_end me e qs)

error_steps_end : (j : StreamId) (q : ReadRequest) (e : Plain) (s : realm.Slots) → Each EndsRead (row (ErrorSteps j q e) s).caused
unfolding row
error_steps_end j (Promise p) e s = tt
error_steps_end j (PipeRequest p) e s = (tt, tt)
error_steps_end j (TeeRequest t) e s = (tt, tt)

pipe_end : (p : PipeId) (s : realm.Slots) (o : Option piping.Slots) → Each EndsRead (on_pipe_at (λ ends. pipe_operation p ends ReadEnded) p s o).caused
unfolding piping.read_ended
pipe_end p s None = tt
pipe_end p s (Some x) = grind arith

tee_end : (t : TeeId) (s : realm.Slots) (o : Option tee.Slots) → Each EndsRead (on_tee_at (tee_operation t SourceErrored) t s o).caused
unfolding tee.source_errored
tee_end t s None = tt
tee_end t s (Some x) = tt

row_ends : (e : Effect) (s : realm.Slots) → EndsRead e → Each EndsRead (row e s).caused
unfolding row
row_ends (ErrorSteps j q e) s k = error_steps_end j q e s
row_ends (Pipe p ReadEnded) s k = pipe_end p s (slice_get s.pipes p.0)
row_ends (Tee t SourceErrored) s k = tee_end t s (slice_get s.tees t.0)
row_ends _ s k = absurd k

row_apart : (e : Effect) (s : realm.Slots) → EndsRead e → (row e s).slots.streams ≡ s.streams
row_apart (ErrorSteps j q e) s k = row-streams (ErrorSteps j q e) s tt
row_apart (Pipe p ReadEnded) s k = row-streams (Pipe p ReadEnded) s tt
row_apart (Tee t SourceErrored) s k = row-streams (Tee t SourceErrored) s tt
row_apart _ s k = absurd k

-- the operation

record Errs (z : byte.Acts) : Type 0 where
  errored : IsErroredByClose z.slots
  effects : Each EndsRead z.out.effects

errs_by : (me : StreamId) (x : byte.Slots) (t : Table) (o : Option PromiseId) → o ≡ x.stream.reader → (o ≡ None → x.stream.requests ≡ [])
    → let b : readable.Acts = readable.error_reader me type_error (record { slots = record x.stream { state = Errored; stored_error = type_error }; out = record { promises = t; effects = [] } }) o in
    Errs (record { slots = record x { stream = b.slots; request = None; descriptors = []; queue = [] }; out = b.out })
errs_by me x t None e n = record { errored = record { state = refl; error = refl; queue = refl; descriptors = refl; requests = n refl }; effects = tt }
errs_by me x t (Some p) e n = record { errored = record { state = refl; error = refl; queue = refl; descriptors = refl; requests = refl }; effects = errors_end me type_error x.stream.requests }

close_by_errs : (me : StreamId) (x : byte.Slots) (t : Table) (queue : List (List ℕ)) → is_empty queue ≡ true → has_part x.descriptors ≡ true → readable.is_readable x.stream.state ≡ true → (x.stream.reader ≡ None → x.stream.requests ≡ [])
    → Errs (close_by me (starting x t) queue)
unfolding controller_error readable.stream_error
close_by_errs me x t (b ∷ bs) e p r n = cc
close_by_errs me x t [] e p r n =
    either Errs (has_part x.descriptors) (controller_error me type_error (starting x t)) (stream_close me (starting x t))
    (λ k. either Errs (readable.is_readable x.stream.state) (in_stream (readable.stream_error me type_error) (clear_all (starting x t))) (starting x t) (λ j. errs_by me x t x.stream.reader refl n) (λ j. absurd (cc)))
    (λ k. absurd (cc))

parts : (a b c d : Bool) → (not a && b) && c && d ≡ true → (b ≡ true) × ((c ≡ true) × (d ≡ true))
parts a b c d e = grind arith

close_errs : (me : StreamId) (x : byte.Slots) (t : Table) → byte.close_throws x ≡ true → (x.stream.reader ≡ None → x.stream.requests ≡ []) → Errs (controller_close me (starting x t))
unfolding controller_close
close_errs me x t c n =
    let p = parts x.stream.close_requested (readable.is_readable x.stream.state) (is_empty x.queue) (has_part x.descriptors) c in
    either Errs (can_take x) (close_by me (starting x t) x.queue) (starting x t) (λ k. close_by_errs me x t x.queue p.1.0 p.1.1 p.0 n) (λ k. absurd (cc))

-- the call

can_of : (x : byte.Slots) → byte.close_throws x ≡ true → can_take x ≡ true
can_of x c = grind arith

throws_there : (o : Option Stream) → byte.close_throws (as_byte o) ≡ true → is_byte_stream o ≡ true
throws_there o c = grind arith

module _ (i : StreamId) (s : realm.Slots) (is : has_byte i s ≡ true) (c : byte.close_throws (byte_at i s) ≡ true) (n : (byte_at i s).stream.reader ≡ None → (byte_at i s).stream.requests ≡ []) where
  begins : begin (Finish i) s ≡ record { reply = Throws ThrownTypeError; done = causes (OnReadable i Close ∷ []) s }
  unfolding begin
  begins =
      let d : Done = causes (OnReadable i Close ∷ []) s in
      rw is
      (ap (λ (k : Bool). if k then replying.begun (controller_calls.close_reply (byte_at i s)) d else replying.throws_type_error s) (can_of (byte_at i s) c)
      ∙ ap (λ (k : Bool). replying.begun (if k then Throws ThrownTypeError else ReplyDone) d) c)

  abbrev Before : realm.Slots → List Effect → Type 0
  Before z es = (z ≡ s) × (es ≡ OnReadable i Close ∷ [])

  abbrev After : realm.Slots → List Effect → Type 0
  After z es = IsErroredByClose (byte_at i z) × Each EndsRead es

  abbrev Closes : Unit {0} → realm.Slots → List Effect → Type 0
  Closes u z es = Before z es ⊎ After z es

  first_row : After (row (OnReadable i Close) s).slots ((row (OnReadable i Close) s).caused ++ [])
  unfolding row
  first_row =
      let k = close_errs i (byte_at i s) s.promises c n in
      let now = on_byte-same (byte_readable_operation i Close) i s is in
      rw (on_source-byte Close i s is, now, is) (k.errored, each-append EndsRead _ [] k.effects tt)

  head_of : (e f : Effect) (es fs : List Effect) → e ∷ es ≡ f ∷ fs → (e ≡ f) × (es ≡ fs)
  head_of e f es fs k = (cc, cc)

  closes_row : (u : Unit {0}) (z : realm.Slots) (e : Effect) (es : List Effect) → Closes u z (e ∷ es) → Closes tt (row e z).slots ((row e z).caused ++ es)
  closes_row u z e es (inl b) = let h = head_of e (OnReadable i Close) es [] b.1 in rw (b.0, h.0, h.1) (inr first_row)
  closes_row u z e es (inr a) =
      let same : byte_at i (row e z).slots ≡ byte_at i z = ap (λ (xs : List Stream). as_byte (slice_get xs i.0)) (row_apart e z a.1.0) in
      inr (rw same a.0, each-append EndsRead (row e z).caused es (row_ends e z a.1.0) a.1.1)

  at_last : (z : realm.Slots) → Closes tt z [] → IsErroredByClose (byte_at i z)
  at_last z (inl b) = let k = b.1 in absurd (cc)
  at_last z (inr a) = a.0

  closed_call : (reply_to (Finish i) s ≡ Throws ThrownTypeError) × IsErroredByClose (byte_at i (after_call (Finish i) s))
  closed_call =
      let d : Done = causes (OnReadable i Close ∷ []) s in
      let last : IsErroredByClose (byte_at i (performed d)) = at_last (performed d) (performed-goes tt (λ f g. tt) untold (λ e z. tt) Closes closes_row tt d (inl (refl, refl))) in
      (ap (λ (b : Begun). b.reply) begins, subst (λ (b : Begun). IsErroredByClose (byte_at i (older (calls.named b.reply (performed b.done))))) (sym begins) last)

none_asked_of : (x : byte.Slots) → Held x → x.stream.state ≡ Readable → x.stream.reader ≡ None → length x.stream.requests ≡ 0
none_asked_of x h r e = none_asked (reads x.stream.reader x.reader_kind) x.descriptors x.queue (length x.stream.requests) (no_reader x.stream.reader x.reader_kind e) (h.readable r)

empty_list : (qs : List ReadRequest) → length qs ≡ 0 → qs ≡ []
empty_list [] e = refl
empty_list (q ∷ qs) e = absurd (omega arith)

pub each_throwing_close_errs : EachThrowingCloseErrs
each_throwing_close_errs entries i c =
    let s : realm.Slots = run entries empty in
    let x : byte.Slots = byte_at i s in
    let is : has_byte i s ≡ true = throws_there (slice_get s.streams i.0) c in
    let m : Balanced (run_bytes i entries empty) x = between (run_bytes i entries empty) x ((ordered-run i entries).there is) in
    let r : x.stream.state ≡ Readable = readable_of x.stream.state (parts x.stream.close_requested (readable.is_readable x.stream.state) (is_empty x.queue) (has_part x.descriptors) c).0 in
    closed_call i s is c (λ e. empty_list x.stream.requests (none_asked_of x m.held r e))
