-- An operation of a readable stream doesn't look at a promise that isn't named, and names it nowhere.
use Rattle.std.proofs.Common.{◌≡◌, ◌+◌, ◌≤◌, Bool, true, false, ◌&&◌, if◌then◌else◌, List, [], ◌∷◌, ◌++◌, Option, Some, None, Result, Ok, Err, refl, sym, ap, arith}
use Rattle.std.specs.Prelude.{is_some}
use Rattle.ws_value.specs.declared.ids.PromiseId.{PromiseId}
use Rattle.ws_value.specs.declared.ids.StreamId.{StreamId}
use Rattle.ws_value.specs.declared.value.Plain.{Plain}
use Rattle.ws_value.specs.declared.value.Plain.TheVariants.{Undefined}
use Rattle.ws_value.specs.declared.value.Value.{Value}
use Rattle.ws_steps.specs.declared.effects.Effect.TheVariants.{PullAlgorithm, ChunkSteps, CloseSteps, ErrorSteps, CancelAlgorithm}
use Rattle.ws_steps.specs.declared.queue.Queued.{Queued}
use Rattle.ws_steps.specs.declared.readable.ReadRequest.{ReadRequest}
use Rattle.ws_steps.specs.declared.readable.ReadableOperation.{ReadableOperation}
use Rattle.ws_steps.specs.declared.readable.ReadableOperation.TheVariants.{InitializeReader, ReleaseReader, Disturb, Read, Cancel, CancelIfReadable, Enqueue, Close, Error, StartSettled, PullSettled}
use Rattle.ws_steps.specs.declared.readable.ReadableState.{ReadableState}
use Rattle.ws_steps.specs.declared.readable.ReadableState.TheVariants.{Readable, Closed, Errored}
use Rattle.ws_steps.specs.Effects.{cause_all, settling, type_error}
use Rattle.ws_steps.specs.Operations.{readable_operation}
use Rattle.ws_steps.specs.Queues.{is_empty, enqueued, size_of}
use Rattle.ws_steps.specs.Readable.{Acts, Slots, waiting, causing, close_all, error_all, is_readable, can_close_or_enqueue, should_call_pull, call_pull, call_pull_if_needed, accept, accept_for, controller_enqueue, close_reader, stream_close, error_reader, stream_error, close_if_empty, controller_close, controller_error, after_take, pull_from, pull_steps, read_by, default_reader_read, settle_closed, reader_generic_initialize, start_settled, pull_settled, disturb, cancel_steps, cancel_by, stream_cancel, cancel_readable_by, cancel_if_readable, release_closed, release_by, reader_release, pull_ended}
use Rattle.ws_alike.specs.Named.{one, in_option, in_request, in_requests, in_readable_operation, in_effects, in_effect}
use Rattle.ws_alike.specs.Blind.{LeavesAlone, EachReadableOperationIsBlind, readables, view_of}
use Rattle.ws_alike.proofs.Tables.{length-settle}
use Rattle.ws_alike.proofs.Records.{Lawful, writes, quiet, after-quiet, causes, settles}
use Rattle.ws_alike.proofs.Names.{in_table-settle}
use Rattle.ws_alike.proofs.Steps.{Fits, then-blind, stays, by-test, settling-alone}
use Rattle.ws_alike.proofs.Lists.{all-append}

pub law : Lawful Acts Slots readables
law = record { put_slots = λ s out. refl; put_out = λ s out. refl }

-- what of one operation is to be shown
abbrev pub Blind : PromiseId → (Acts → Acts) → Acts → Type 0
Blind p f a = LeavesAlone Acts (view_of readables) p f a

abbrev pub Fit : PromiseId → Acts → Type 0
Fit p a = Fits Acts (view_of readables) p a

-- pulling

pub call_pull-blind : (p : PromiseId) (me : StreamId) (a : Acts) → Fit p a → Blind p (call_pull me) a
call_pull-blind p me a fits =
    let h : Slots → Slots = λ s. record s { pull_again = true } in
    let g : Slots → Slots = λ s. record s { pulling = true } in
    let m = after-quiet law p g (causing (PullAlgorithm me)) a fits (omega arith) (λ f. causes law p (PullAlgorithm me ∷ []) _ f refl) in
    let k = by-test p (λ b. record b { slots = h b.slots }) (λ b. causing (PullAlgorithm me) (record b { slots = g b.slots })) a.slots.pulling a (quiet law p h a fits (omega arith)) m in
    record { blind = k.blind; unnamed = k.unnamed; more = k.more }

pull-blind : (p : PromiseId) (me : StreamId) (a : Acts) → Fit p a → Blind p (call_pull_if_needed me) a
unfolding call_pull_if_needed
pull-blind p me a fits =
    let k = by-test p (call_pull me) (λ b. b) (should_call_pull a.slots) a (call_pull-blind p me a fits) (stays p a fits) in
    record { blind = k.blind; unnamed = k.unnamed; more = k.more }

-- enqueuing

waiting-names : (p : PromiseId) (c : Bool) (rs : List ReadRequest) → in_requests p (if c then rs else []) ≤ in_requests p rs
waiting-names p true rs = omega arith
waiting-names p false rs = omega arith

accept_for-blind : (p : PromiseId) (me : StreamId) (v : Value) (a : Acts) (rs : List ReadRequest) → in_requests p rs ≡ 0 → Fit p a → Blind p (λ b. accept_for me v b rs) a
accept_for-blind p me v a [] n fits =
    quiet law p (λ s. record s { queue = enqueued v (size_of s.size_by v) s.queue }) a fits (omega arith)
accept_for-blind p me v a (r ∷ rs) n fits =
    after-quiet law p (λ s. record s { requests = rs }) (causing (ChunkSteps me r v)) a fits (omega (arith, n)) (λ f. causes law p (ChunkSteps me r v ∷ []) _ f (omega (arith, n)))

accept-blind : (p : PromiseId) (me : StreamId) (v : Value) (a : Acts) → Fit p a → Blind p (accept me v) a
unfolding accept
accept-blind p me v a fits =
    let less = waiting-names p (is_some a.slots.reader) a.slots.requests in
    let k = accept_for-blind p me v a (waiting a.slots) (omega (arith, less, fits.none)) fits in
    record { blind = k.blind; unnamed = k.unnamed; more = k.more }

enqueue-blind : (p : PromiseId) (me : StreamId) (v : Value) (a : Acts) → Fit p a → Blind p (controller_enqueue me v) a
unfolding controller_enqueue
enqueue-blind p me v a fits =
    let k = by-test p (λ b. call_pull_if_needed me (accept me v b)) (λ b. b) (can_close_or_enqueue a.slots) a
    (then-blind p (accept me v) (call_pull_if_needed me) a (accept-blind p me v a fits) (pull-blind p me (accept me v a)) fits)
    (stays p a fits) in
    record { blind = k.blind; unnamed = k.unnamed; more = k.more }

-- the stream ends

pub in_close_all : (p : PromiseId) (me : StreamId) (rs : List ReadRequest) → in_effects p (close_all me rs) ≡ in_requests p rs
in_close_all p me [] = refl
in_close_all p me (r ∷ rs) = let n = in_close_all p me rs in omega arith

in_error_all : (p : PromiseId) (me : StreamId) (e : Plain) (rs : List ReadRequest) → in_effects p (error_all me e rs) ≡ in_requests p rs
in_error_all p me e [] = refl
in_error_all p me e (r ∷ rs) = let n = in_error_all p me e rs in omega arith

close_reader-blind : (p : PromiseId) (me : StreamId) (a : Acts) (reader : Option PromiseId) → reader ≡ a.slots.reader → Fit p a → Blind p (λ b. close_reader me b reader) a
close_reader-blind p me a None r fits = stays p a fits
close_reader-blind p me a (Some c) r fits =
    let named : in_option p a.slots.reader ≡ one p c = ap (in_option p) (sym r) in
    let n : one p c ≡ 0 = omega (arith, fits.none, named) in
    let es = close_all me a.slots.requests in
    let app = all-append (in_effect p) a.out.effects es in
    let all = in_close_all p me a.slots.requests in
    let t = in_table-settle p c (Ok Undefined) a.out.promises in
    let k = writes law p (λ s. record s { requests = [] }) (λ out. cause_all es (settling c (Ok Undefined) out)) a
    (λ x. ap (λ out. cause_all es out) (settling-alone p c (Ok Undefined) x a.out fits.made n)) (omega (arith, app, all, t, fits.none)) (rw (length-settle c (Ok Undefined) a.out.promises) (omega arith)) in
    record { blind = k.blind; unnamed = k.unnamed; more = k.more }

error_reader-blind : (p : PromiseId) (me : StreamId) (e : Plain) (a : Acts) (reader : Option PromiseId) → reader ≡ a.slots.reader → Fit p a → Blind p (λ b. error_reader me e b reader) a
error_reader-blind p me e a None r fits = stays p a fits
error_reader-blind p me e a (Some c) r fits =
    let named : in_option p a.slots.reader ≡ one p c = ap (in_option p) (sym r) in
    let n : one p c ≡ 0 = omega (arith, fits.none, named) in
    let es = error_all me e a.slots.requests in
    let app = all-append (in_effect p) a.out.effects es in
    let all = in_error_all p me e a.slots.requests in
    let t = in_table-settle p c (Err e) a.out.promises in
    let k = writes law p (λ s. record s { requests = [] }) (λ out. cause_all es (settling c (Err e) out)) a
    (λ x. ap (λ out. cause_all es out) (settling-alone p c (Err e) x a.out fits.made n)) (omega (arith, app, all, t, fits.none)) (rw (length-settle c (Err e) a.out.promises) (omega arith)) in
    record { blind = k.blind; unnamed = k.unnamed; more = k.more }

pub stream_close-blind : (p : PromiseId) (me : StreamId) (a : Acts) → Fit p a → Blind p (stream_close me) a
unfolding stream_close
stream_close-blind p me a fits =
    let h : Slots → Slots = λ s. record s { state = Closed } in
    let k = then-blind p (λ b. record b { slots = h b.slots }) (λ b. close_reader me b a.slots.reader) a (quiet law p h a fits (omega arith)) (λ f. close_reader-blind p me (record a { slots = h a.slots }) a.slots.reader refl f) fits in
    record { blind = k.blind; unnamed = k.unnamed; more = k.more }

pub stream_error-blind : (p : PromiseId) (me : StreamId) (e : Plain) (a : Acts) → Fit p a → Blind p (stream_error me e) a
unfolding stream_error
stream_error-blind p me e a fits =
    let h : Slots → Slots = λ s. record s { state = Errored; stored_error = e } in
    let k = then-blind p (λ b. record b { slots = h b.slots }) (λ b. error_reader me e b a.slots.reader) a (quiet law p h a fits (omega arith)) (λ f. error_reader-blind p me e (record a { slots = h a.slots }) a.slots.reader refl f) fits in
    record { blind = k.blind; unnamed = k.unnamed; more = k.more }

close_if_empty-blind : (p : PromiseId) (me : StreamId) (a : Acts) → Fit p a → Blind p (close_if_empty me) a
unfolding close_if_empty
close_if_empty-blind p me a fits =
    let k = by-test p (stream_close me) (λ b. b) (is_empty a.slots.queue) a (stream_close-blind p me a fits) (stays p a fits) in
    record { blind = k.blind; unnamed = k.unnamed; more = k.more }

close-blind : (p : PromiseId) (me : StreamId) (a : Acts) → Fit p a → Blind p (controller_close me) a
unfolding controller_close
close-blind p me a fits =
    let h : Slots → Slots = λ s. record s { close_requested = true } in
    let m = then-blind p (λ b. record b { slots = h b.slots }) (close_if_empty me) a (quiet law p h a fits (omega arith)) (close_if_empty-blind p me (record a { slots = h a.slots })) fits in
    let k = by-test p (λ b. close_if_empty me (record b { slots = h b.slots })) (λ b. b) (can_close_or_enqueue a.slots) a m (stays p a fits) in
    record { blind = k.blind; unnamed = k.unnamed; more = k.more }

error-blind : (p : PromiseId) (me : StreamId) (e : Plain) (a : Acts) → Fit p a → Blind p (controller_error me e) a
unfolding controller_error
error-blind p me e a fits =
    let h : Slots → Slots = λ s. record s { queue = [] } in
    let m = then-blind p (λ b. record b { slots = h b.slots }) (stream_error me e) a (quiet law p h a fits (omega arith)) (stream_error-blind p me e (record a { slots = h a.slots })) fits in
    let k = by-test p (λ b. stream_error me e (record b { slots = h b.slots })) (λ b. b) (is_readable a.slots.state) a m (stays p a fits) in
    record { blind = k.blind; unnamed = k.unnamed; more = k.more }

-- reading

after_take-blind : (p : PromiseId) (me : StreamId) (a : Acts) → Fit p a → Blind p (after_take me) a
unfolding after_take
after_take-blind p me a fits =
    let k = by-test p (stream_close me) (call_pull_if_needed me) (a.slots.close_requested && is_empty a.slots.queue) a (stream_close-blind p me a fits) (pull-blind p me a fits) in
    record { blind = k.blind; unnamed = k.unnamed; more = k.more }

pull_from-blind : (p : PromiseId) (me : StreamId) (r : ReadRequest) (a : Acts) (qs : List (Queued Value)) → in_request p r ≡ 0 → Fit p a → Blind p (λ b. pull_from me r b qs) a
pull_from-blind p me r a [] n fits =
    let h : Slots → Slots = λ s. record s { requests = s.requests ++ r ∷ [] } in
    let app = all-append (in_request p) a.slots.requests (r ∷ []) in
    then-blind p (λ b. record b { slots = h b.slots }) (call_pull_if_needed me) a (quiet law p h a fits (omega (arith, app, n))) (pull-blind p me (record a { slots = h a.slots })) fits
pull_from-blind p me r a (q ∷ qs) n fits =
    let h : Slots → Slots = λ s. record s { queue = qs } in
    let m = then-blind p (λ b. record b { slots = h b.slots }) (after_take me) a (quiet law p h a fits (omega arith)) (after_take-blind p me (record a { slots = h a.slots })) fits in
    then-blind p (λ b. after_take me (record b { slots = h b.slots })) (causing (ChunkSteps me r q.value)) a m (λ f. causes law p (ChunkSteps me r q.value ∷ []) _ f (omega (arith, n))) fits

pull_steps-blind : (p : PromiseId) (me : StreamId) (r : ReadRequest) (a : Acts) → in_request p r ≡ 0 → Fit p a → Blind p (pull_steps me r) a
unfolding pull_steps
pull_steps-blind p me r a n fits =
    let k = pull_from-blind p me r a a.slots.queue n fits in
    record { blind = k.blind; unnamed = k.unnamed; more = k.more }

read_by-blind : (p : PromiseId) (me : StreamId) (r : ReadRequest) (a : Acts) (s : ReadableState) → in_request p r ≡ 0 → Fit p a → Blind p (λ b. read_by me r b s) a
read_by-blind p me r a Readable n fits =
    pull_steps-blind p me r a n fits
read_by-blind p me r a Closed n fits =
    causes law p (CloseSteps me r ∷ []) a fits (omega (arith, n))
read_by-blind p me r a Errored n fits =
    let k = causes law p (ErrorSteps me r a.slots.stored_error ∷ []) a fits (omega (arith, n)) in
    record { blind = k.blind; unnamed = k.unnamed; more = k.more }

read-blind : (p : PromiseId) (me : StreamId) (r : ReadRequest) (a : Acts) → in_request p r ≡ 0 → Fit p a → Blind p (default_reader_read me r) a
unfolding default_reader_read
read-blind p me r a n fits =
    let h : Slots → Slots = λ s. record s { disturbed = true } in
    let k = then-blind p (λ b. record b { slots = h b.slots }) (λ b. read_by me r b a.slots.state) a (quiet law p h a fits (omega arith)) (λ f. read_by-blind p me r (record a { slots = h a.slots }) a.slots.state n f) fits in
    record { blind = k.blind; unnamed = k.unnamed; more = k.more }

pub disturb-blind : (p : PromiseId) (a : Acts) → Fit p a → Blind p disturb a
unfolding disturb
disturb-blind p a fits =
    quiet law p (λ s. record s { disturbed = true }) a fits (omega arith)

settle_closed-blind : (p c : PromiseId) (e : Plain) (a : Acts) (s : ReadableState) → one p c ≡ 0 → Fit p a → Blind p (λ b. record b { out = settle_closed c e b.out s }) a
settle_closed-blind p c e a Readable n fits = stays p a fits
settle_closed-blind p c e a Closed n fits = settles law p c (Ok Undefined) a n fits
settle_closed-blind p c e a Errored n fits = settles law p c (Err e) a n fits

pub initialize-blind : (p c : PromiseId) (a : Acts) → one p c ≡ 0 → Fit p a → Blind p (reader_generic_initialize c) a
unfolding reader_generic_initialize
initialize-blind p c a n fits =
    let h : Slots → Slots = λ s. record s { reader = Some c; requests = [] } in
    let k = then-blind p (λ b. record b { slots = h b.slots }) (λ b. record b { out = settle_closed c a.slots.stored_error b.out a.slots.state }) a (quiet law p h a fits (omega (arith, n)))
    (λ f. settle_closed-blind p c a.slots.stored_error (record a { slots = h a.slots }) a.slots.state n f) fits in
    record { blind = k.blind; unnamed = k.unnamed; more = k.more }

start_settled-blind : (p : PromiseId) (me : StreamId) (o : Result Plain Plain) (a : Acts) → Fit p a → Blind p (start_settled me o) a
unfolding start_settled
start_settled-blind p me (Ok v) a fits =
    let h : Slots → Slots = λ s. record s { started = true } in
    then-blind p (λ b. record b { slots = h b.slots }) (call_pull_if_needed me) a (quiet law p h a fits (omega arith)) (pull-blind p me (record a { slots = h a.slots })) fits
start_settled-blind p me (Err r) a fits =
    error-blind p me r a fits

pull_ended-blind : (p : PromiseId) (me : StreamId) (a : Acts) (again : Bool) → Fit p a → Blind p (λ b. pull_ended me b again) a
pull_ended-blind p me a false fits = stays p a fits
pull_ended-blind p me a true fits =
    let h : Slots → Slots = λ s. record s { pull_again = false } in
    then-blind p (λ b. record b { slots = h b.slots }) (call_pull_if_needed me) a (quiet law p h a fits (omega arith)) (pull-blind p me (record a { slots = h a.slots })) fits

pull_settled-blind : (p : PromiseId) (me : StreamId) (o : Result Plain Plain) (a : Acts) → Fit p a → Blind p (pull_settled me o) a
unfolding pull_settled
pull_settled-blind p me (Ok v) a fits =
    let h : Slots → Slots = λ s. record s { pulling = false } in
    let k = then-blind p (λ b. record b { slots = h b.slots }) (λ b. pull_ended me b a.slots.pull_again) a (quiet law p h a fits (omega arith)) (λ f. pull_ended-blind p me (record a { slots = h a.slots }) a.slots.pull_again f) fits in
    record { blind = k.blind; unnamed = k.unnamed; more = k.more }
pull_settled-blind p me (Err e) a fits =
    error-blind p me e a fits

-- cancelling

cancel_steps-blind : (p c : PromiseId) (me : StreamId) (r : Plain) (a : Acts) → one p c ≡ 0 → Fit p a → Blind p (cancel_steps me r c) a
unfolding cancel_steps
cancel_steps-blind p c me r a n fits =
    let h : Slots → Slots = λ s. record s { queue = [] } in
    then-blind p (λ b. record b { slots = h b.slots }) (causing (CancelAlgorithm me r c)) a (quiet law p h a fits (omega arith)) (λ f. causes law p (CancelAlgorithm me r c ∷ []) (record a { slots = h a.slots }) f (omega (arith, n))) fits

cancel_by-blind : (p c : PromiseId) (me : StreamId) (r : Plain) (a : Acts) (s : ReadableState) → one p c ≡ 0 → Fit p a → Blind p (λ b. cancel_by me r c b s) a
cancel_by-blind p c me r a Readable n fits =
    let k = then-blind p (stream_close me) (cancel_steps me r c) a (stream_close-blind p me a fits) (cancel_steps-blind p c me r (stream_close me a) n) fits in
    record { blind = k.blind; unnamed = k.unnamed; more = k.more }
cancel_by-blind p c me r a Closed n fits = settles law p c (Ok Undefined) a n fits
cancel_by-blind p c me r a Errored n fits =
    let k = settles law p c (Err a.slots.stored_error) a n fits in
    record { blind = k.blind; unnamed = k.unnamed; more = k.more }

cancel-blind : (p c : PromiseId) (me : StreamId) (r : Plain) (a : Acts) → one p c ≡ 0 → Fit p a → Blind p (stream_cancel me r c) a
unfolding stream_cancel
cancel-blind p c me r a n fits =
    let h : Slots → Slots = λ s. record s { disturbed = true } in
    let k = then-blind p (λ b. record b { slots = h b.slots }) (λ b. cancel_by me r c b a.slots.state) a (quiet law p h a fits (omega arith)) (λ f. cancel_by-blind p c me r (record a { slots = h a.slots }) a.slots.state n f) fits in
    record { blind = k.blind; unnamed = k.unnamed; more = k.more }

cancel_readable_by-blind : (p c : PromiseId) (me : StreamId) (r : Plain) (a : Acts) (s : ReadableState) → one p c ≡ 0 → Fit p a → Blind p (λ b. cancel_readable_by me r c b s) a
cancel_readable_by-blind p c me r a Readable n fits =
    cancel-blind p c me r a n fits
cancel_readable_by-blind p c me r a Closed n fits = settles law p c (Ok Undefined) a n fits
cancel_readable_by-blind p c me r a Errored n fits = settles law p c (Ok Undefined) a n fits

cancel_if_readable-blind : (p c : PromiseId) (me : StreamId) (r : Plain) (a : Acts) → one p c ≡ 0 → Fit p a → Blind p (cancel_if_readable me r c) a
unfolding cancel_if_readable
cancel_if_readable-blind p c me r a n fits =
    let k = cancel_readable_by-blind p c me r a a.slots.state n fits in
    record { blind = k.blind; unnamed = k.unnamed; more = k.more }

-- the reader is released

release_by-blind : (p : PromiseId) (me : StreamId) (a : Acts) (reader : Option PromiseId) → reader ≡ a.slots.reader → Fit p a → Blind p (λ b. release_by me b reader) a
release_by-blind p me a None r fits = stays p a fits
release_by-blind p me a (Some c) r fits =
    let named : in_option p a.slots.reader ≡ one p c = ap (in_option p) (sym r) in
    let n : one p c ≡ 0 = omega (arith, fits.none, named) in
    let es = error_all me type_error a.slots.requests in
    let app = all-append (in_effect p) a.out.effects es in
    let all = in_error_all p me type_error a.slots.requests in
    let m = closed-blind c n a.slots.state in
    record {
      blind = λ x. ap (λ (z : Acts). record { slots = record a.slots { reader = None; requests = [] }; out = cause_all es z.out }) (m.blind x);
      unnamed = omega (arith, effects c a.slots.state, app, all, m.unnamed);
      more = m.more;
    }
  where
    closed-blind : (c : PromiseId) → one p c ≡ 0 → (s : ReadableState) → Blind p (λ b. record b { out = release_closed c b.out s }) a
    closed-blind c n Readable = settles law p c (Err type_error) a n fits
    closed-blind c n Closed = stays p a fits
    closed-blind c n Errored = stays p a fits

    effects : (c : PromiseId) (s : ReadableState) → in_effects p ((release_closed c a.out s).effects ++ error_all me type_error a.slots.requests) ≡ in_effects p (a.out.effects ++ error_all me type_error a.slots.requests)
    effects c Readable = refl
    effects c Closed = refl
    effects c Errored = refl

pub release-blind : (p : PromiseId) (me : StreamId) (a : Acts) → Fit p a → Blind p (reader_release me) a
unfolding reader_release
release-blind p me a fits =
    let k = release_by-blind p me a a.slots.reader refl fits in
    record { blind = k.blind; unnamed = k.unnamed; more = k.more }

-- each operation

operation-blind : (p : PromiseId) (i : StreamId) (operation : ReadableOperation) (a : Acts) → in_readable_operation p operation ≡ 0 → Fit p a → Blind p (readable_operation i operation) a
operation-blind p i (InitializeReader c) a n fits = initialize-blind p c a n fits
operation-blind p i ReleaseReader a n fits = release-blind p i a fits
operation-blind p i Disturb a n fits = disturb-blind p a fits
operation-blind p i (Read r) a n fits = read-blind p i r a n fits
operation-blind p i (Cancel r c) a n fits = cancel-blind p c i r a n fits
operation-blind p i (CancelIfReadable r c) a n fits = cancel_if_readable-blind p c i r a n fits
operation-blind p i (Enqueue v) a n fits = enqueue-blind p i v a fits
operation-blind p i Close a n fits = close-blind p i a fits
operation-blind p i (Error e) a n fits = error-blind p i e a fits
operation-blind p i (StartSettled o) a n fits = start_settled-blind p i o a fits
operation-blind p i (PullSettled o) a n fits = pull_settled-blind p i o a fits

pub readables-blind : EachReadableOperationIsBlind
readables-blind i operation p a made none = operation-blind p i operation a (omega (arith, none)) (record { made = made; none = omega (arith, none) })
