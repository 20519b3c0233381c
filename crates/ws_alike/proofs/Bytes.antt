-- An operation of a byte stream doesn't look at a promise that isn't named, and names it nowhere.
use Rattle.std.proofs.Common.{◌%◌, ◌≡◌, ℕ, ◌+◌, ◌-◌, Bool, true, false, ◌&&◌, if◌then◌else◌, List, [], ◌∷◌, ◌++◌, length, Option, Some, None, Result, Ok, Err, refl, sym, ap, arith}
use Rattle.std.specs.Prelude.{is_none}
use Rattle.ws_value.specs.declared.ids.PromiseId.{PromiseId}
use Rattle.ws_value.specs.declared.ids.StreamId.{StreamId}
use Rattle.ws_value.specs.declared.value.Plain.{Plain}
use Rattle.ws_value.specs.declared.value.Plain.TheVariants.{Undefined}
use Rattle.ws_steps.specs.declared.effects.Effect.{Effect}
use Rattle.ws_steps.specs.declared.readable.ReadableState.{ReadableState}
use Rattle.ws_steps.specs.Effects.{cause_all, settling, type_error}
use Rattle.ws_alike.proofs.Records.{Lawful, made, quiet, after-quiet, causes, settles}
use Rattle.ws_alike.proofs.Steps.{Fits, then-blind, stays, by-test, named-none}
use Rattle.std.specs.Prelude.{nat_lt, zero, suc, take, drop}
use Rattle.ws_value.specs.declared.value.Value.TheVariants.{Bytes}
use Rattle.ws_steps.specs.declared.byte.ByteOperation.{ByteOperation}
use Rattle.ws_steps.specs.declared.byte.ByteOperation.TheVariants.{InitializeByobReader, Enqueue as EnqueueBytes, PullInto, MakeRequest, Respond}
use Rattle.ws_steps.specs.declared.byte.ReaderKind.{ReaderKind}
use Rattle.ws_steps.specs.declared.byte.ReaderKind.TheVariants.{Default, Byob}
use Rattle.ws_steps.specs.declared.byte.RoomKind.TheVariants.{ForDefault, ForByob}
use Rattle.ws_steps.specs.declared.effects.Effect.TheVariants.{CancelAlgorithm, ChunkSteps, CloseSteps, CloseStepsWith, ErrorSteps}
use Rattle.ws_steps.specs.declared.readable.ReadRequest.{ReadRequest}
use Rattle.ws_steps.specs.declared.readable.ReadableOperation.{ReadableOperation}
use Rattle.ws_steps.specs.declared.readable.ReadableOperation.TheVariants.{InitializeReader, ReleaseReader, Disturb, Read, Cancel, CancelIfReadable, Enqueue, Close, Error, StartSettled, PullSettled}
use Rattle.ws_steps.specs.declared.readable.ReadableState.TheVariants.{Readable, Closed, Errored}
use Rattle.ws_steps.specs.Bytes.{Acts, Slots, causing, in_stream, has_default_reader, has_byob_reader, with_requests, should_call_pull, call_pull_if_needed, close_keeping, close_stream_keeping, stream_close, controller_error, handle_queue_drain, fill_read_request, append, wait, add_descriptor, auto_allocate, pull_from, pull_steps, read_by, default_reader_read, can_take, close_by, controller_close, commit_steps, commit_to, commit, commit_all, processed_of, process_and_commit, detach_first, detached_to_queue, renounce, process_requests, drop_first, accept_for, accept_default, accept, controller_enqueue, pull_waits, put_queue, pull_filled, pull_from_queue, is_closed, is_errored, pull_first, pull_into, byob_reader_read, commit_first, respond_closed, put_first, respond_full, respond_readable, respond_first, respond_internal, start_settled, pull_ended, pull_settled, cancel_steps, close_into, cancel_by, stream_cancel, cancel_if_readable, reader_release, if_meant, reader_initialize, may_read, may_pull_into, is_least, may_respond, is_of_tee, read, read_into, respond}
use Rattle.ws_steps.specs.Descriptors.{Descriptor, is_for_nobody, has_part, without_reader, rest_of, Filling, fill_from_queue, Processed}
use Rattle.ws_steps.specs.Operations.{byte_readable_operation, byte_operation}
use Rattle.ws_steps.specs.Queues.{is_empty, append_bytes}
use Rattle.ws_steps.specs.Readable as readable
use Rattle.ws_alike.specs.Named.{one, in_request, in_requests, in_readable_operation, in_byte_operation, in_effects, in_effect}
use Rattle.ws_alike.specs.Blind.{LeavesAlone, EachByteOperationIsBlind, bytes, view_of}
use Rattle.ws_alike.proofs.Readables as inner
use Rattle.ws_alike.proofs.Lists.{all-append}

law : Lawful Acts Slots bytes
law = record { put_slots = λ s out. refl; put_out = λ s out. refl }

-- what of one operation is to be shown
abbrev Blind : PromiseId → (Acts → Acts) → Acts → Type 0
Blind p f a = LeavesAlone Acts (view_of bytes) p f a

abbrev Fit : PromiseId → Acts → Type 0
Fit p a = Fits Acts (view_of bytes) p a

-- what is done to the stream inside
inside : (p : PromiseId) (f : readable.Acts → readable.Acts) (a : Acts)
    → (inner.Fit p (record { slots = a.slots.stream; out = a.out }) → inner.Blind p f (record { slots = a.slots.stream; out = a.out })) → Fit p a → Blind p (in_stream f) a
inside p f a m fits =
    let k = m (record { made = fits.made; none = fits.none }) in
    record { blind = λ x. ap (λ (b : readable.Acts). record { slots = record a.slots { stream = b.slots }; out = b.out }) (k.blind x); unnamed = k.unnamed; more = k.more }

-- pulling, and the ends of the stream

pull-blind : (p : PromiseId) (me : StreamId) (a : Acts) → Fit p a → Blind p (call_pull_if_needed me) a
unfolding call_pull_if_needed
pull-blind p me a fits = let k = by-test p (in_stream (readable.call_pull me)) (λ b. b) (should_call_pull a.slots) a (inside p (readable.call_pull me) a (inner.call_pull-blind p me _) fits) (stays p a fits) in record { blind = k.blind; unnamed = k.unnamed; more = k.more }

keeping-blind : (p : PromiseId) (a : readable.Acts) (o : Option PromiseId) → o ≡ a.slots.reader → inner.Fit p a → inner.Blind p (λ b. close_keeping b o) a
keeping-blind p a None r fits = stays p a fits
keeping-blind p a (Some c) r fits =
    let named = named-none p c a.slots.reader (sym r) in
    settles inner.law p c (Ok Undefined) a (omega (arith, named, fits.none)) fits

close_keeping-blind : (p : PromiseId) (a : readable.Acts) → inner.Fit p a → inner.Blind p close_stream_keeping a
close_keeping-blind p a fits =
    let h : readable.Slots → readable.Slots = λ s. record s { state = Closed } in
    let k = after-quiet inner.law p h (λ b. close_keeping b a.slots.reader) a fits (omega arith) (keeping-blind p (record a { slots = h a.slots }) a.slots.reader refl) in
    record { blind = k.blind; unnamed = k.unnamed; more = k.more }

stream_close-blind : (p : PromiseId) (me : StreamId) (a : Acts) → Fit p a → Blind p (stream_close me) a
unfolding stream_close
stream_close-blind p me a fits =
    let k = by-test p (in_stream close_stream_keeping) (in_stream (readable.stream_close me)) (has_byob_reader a.slots) a (inside p close_stream_keeping a (close_keeping-blind p _) fits) (inside p (readable.stream_close me) a (inner.stream_close-blind p me _) fits) in
    record { blind = k.blind; unnamed = k.unnamed; more = k.more }

error-blind : (p : PromiseId) (me : StreamId) (e : Plain) (a : Acts) → Fit p a → Blind p (controller_error me e) a
unfolding controller_error
error-blind p me e a fits =
    let h : Slots → Slots = λ s. record s { request = None; descriptors = []; queue = [] } in
    let m = after-quiet law p h (in_stream (readable.stream_error me e)) a fits (omega arith) (inside p (readable.stream_error me e) (record a { slots = h a.slots }) (inner.stream_error-blind p me e _)) in
    let k = by-test p (λ b. in_stream (readable.stream_error me e) (record b { slots = h b.slots })) (λ b. b) (readable.is_readable a.slots.stream.state) a m (stays p a fits) in
    record { blind = k.blind; unnamed = k.unnamed; more = k.more }

-- the queue

drain-blind : (p : PromiseId) (me : StreamId) (a : Acts) → Fit p a → Blind p (handle_queue_drain me) a
unfolding handle_queue_drain
drain-blind p me a fits = let k = by-test p (stream_close me) (call_pull_if_needed me) (is_empty a.slots.queue && a.slots.stream.close_requested) a (stream_close-blind p me a fits) (pull-blind p me a fits) in record { blind = k.blind; unnamed = k.unnamed; more = k.more }

fill-blind : (p : PromiseId) (me : StreamId) (q : ReadRequest) (a : Acts) (queue : List (List ℕ)) → in_request p q ≡ 0 → Fit p a → Blind p (λ b. fill_read_request me q b queue) a
fill-blind p me q a [] n fits = stays p a fits
fill-blind p me q a (b ∷ bs) n fits =
    let h : Slots → Slots = λ s. record s { queue = bs } in
    let m = after-quiet law p h (handle_queue_drain me) a fits (omega arith) (drain-blind p me (record a { slots = h a.slots })) in
    then-blind p (λ z. handle_queue_drain me (record z { slots = h z.slots })) (causing (ChunkSteps me q (Bytes b))) a m (λ f. causes law p (ChunkSteps me q (Bytes b) ∷ []) _ f (omega (arith, n))) fits

append-blind : (p : PromiseId) (b : List ℕ) (a : Acts) → Fit p a → Blind p (append b) a
append-blind p b a fits = quiet law p (λ s. record s { queue = append_bytes b s.queue }) a fits (omega arith)

-- reads of a default reader

wait-blind : (p : PromiseId) (q : ReadRequest) (a : Acts) → in_request p q ≡ 0 → Fit p a → Blind p (wait q) a
wait-blind p q a n fits =
    let last = all-append (in_request p) a.slots.stream.requests (q ∷ []) in
    quiet law p (λ s. record s { stream = record s.stream { requests = s.stream.requests ++ q ∷ [] } }) a fits (omega (arith, last, n))

add-blind : (p : PromiseId) (d : Descriptor) (a : Acts) → Fit p a → Blind p (add_descriptor d) a
add-blind p d a fits = quiet law p (λ s. record s { descriptors = s.descriptors ++ d ∷ [] }) a fits (omega arith)

auto-blind : (p : PromiseId) (a : Acts) (n : ℕ) → Fit p a → Blind p (λ b. auto_allocate b n) a
auto-blind p a zero fits = stays p a fits
auto-blind p a (suc n) fits = add-blind p (record { filled = []; room = suc n; minimum = 1; element = 1; room_kind = ForDefault }) a fits

waits-blind : (p : PromiseId) (me : StreamId) (q : ReadRequest) (a : Acts) → in_request p q ≡ 0 → Fit p a → Blind p (λ b. call_pull_if_needed me (wait q b)) a
waits-blind p me q a n fits = then-blind p (wait q) (call_pull_if_needed me) a (wait-blind p q a n fits) (pull-blind p me _) fits

pull_from-blind : (p : PromiseId) (me : StreamId) (q : ReadRequest) (a : Acts) (queue : List (List ℕ)) → in_request p q ≡ 0 → Fit p a → Blind p (λ b. pull_from me q b queue) a
pull_from-blind p me q a [] n fits =
    let k = then-blind p (λ b. auto_allocate b a.slots.auto) (λ b. call_pull_if_needed me (wait q b)) a (auto-blind p a a.slots.auto fits) (waits-blind p me q _ n) fits in
    record { blind = k.blind; unnamed = k.unnamed; more = k.more }
pull_from-blind p me q a (b ∷ bs) n fits = fill-blind p me q a (b ∷ bs) n fits

pull_steps-blind : (p : PromiseId) (me : StreamId) (q : ReadRequest) (a : Acts) → in_request p q ≡ 0 → Fit p a → Blind p (pull_steps me q) a
unfolding pull_steps
pull_steps-blind p me q a n fits = let k = pull_from-blind p me q a a.slots.queue n fits in record { blind = k.blind; unnamed = k.unnamed; more = k.more }

read_by-blind : (p : PromiseId) (me : StreamId) (q : ReadRequest) (a : Acts) (s : ReadableState) → in_request p q ≡ 0 → Fit p a → Blind p (λ b. read_by me q b s) a
read_by-blind p me q a Readable n fits = pull_steps-blind p me q a n fits
read_by-blind p me q a Closed n fits = causes law p (CloseSteps me q ∷ []) a fits (omega (arith, n))
read_by-blind p me q a Errored n fits = let k = causes law p (ErrorSteps me q a.slots.stream.stored_error ∷ []) a fits (omega (arith, n)) in record { blind = k.blind; unnamed = k.unnamed; more = k.more }

disturb-blind : (p : PromiseId) (a : Acts) → Fit p a → Blind p (in_stream readable.disturb) a
disturb-blind p a fits = inside p readable.disturb a (inner.disturb-blind p _) fits

default_read-blind : (p : PromiseId) (me : StreamId) (q : ReadRequest) (a : Acts) → in_request p q ≡ 0 → Fit p a → Blind p (default_reader_read me q) a
unfolding default_reader_read
default_read-blind p me q a n fits =
    let k = then-blind p (in_stream readable.disturb) (λ b. read_by me q b a.slots.stream.state) a (disturb-blind p a fits) (read_by-blind p me q _ a.slots.stream.state n) fits in
    record { blind = k.blind; unnamed = k.unnamed; more = k.more }

-- closing

close_by-blind : (p : PromiseId) (me : StreamId) (a : Acts) (queue : List (List ℕ)) → Fit p a → Blind p (λ b. close_by me b queue) a
close_by-blind p me a (b ∷ bs) fits = quiet law p (λ s. record s { stream = record s.stream { close_requested = true } }) a fits (omega arith)
close_by-blind p me a [] fits =
    let k = by-test p (controller_error me type_error) (stream_close me) (has_part a.slots.descriptors) a (error-blind p me type_error a fits) (stream_close-blind p me a fits) in
    record { blind = k.blind; unnamed = k.unnamed; more = k.more }

close-blind : (p : PromiseId) (me : StreamId) (a : Acts) → Fit p a → Blind p (controller_close me) a
unfolding controller_close
close-blind p me a fits = let k = by-test p (λ b. close_by me b a.slots.queue) (λ b. b) (can_take a.slots) a (close_by-blind p me a a.slots.queue fits) (stays p a fits) in record { blind = k.blind; unnamed = k.unnamed; more = k.more }

commit_steps-none : (p : PromiseId) (me : StreamId) (b : List ℕ) (q : ReadRequest) (s : ReadableState) → in_request p q ≡ 0 → in_effects p (commit_steps me b q s ∷ []) ≡ 0
commit_steps-none p me b q Readable n = omega (arith, n)
commit_steps-none p me b q Closed n = omega (arith, n)
commit_steps-none p me b q Errored n = omega (arith, n)

commit_to-blind : (p : PromiseId) (me : StreamId) (b : List ℕ) (a : Acts) (qs : List ReadRequest) → in_requests p qs ≡ 0 → Fit p a → Blind p (λ c. commit_to me b c qs) a
commit_to-blind p me b a [] n fits = append-blind p b a fits
commit_to-blind p me b a (q ∷ qs) n fits =
    let first : in_request p q ≡ 0 = omega (arith, n) in
    let later : in_requests p qs ≡ 0 = omega (arith, n) in
    let steps = commit_steps me b q a.slots.stream.state in
    let k = after-quiet law p (λ s. record s { stream = record s.stream { requests = qs } }) (causing steps) a fits (omega (arith, later)) (λ f. causes law p (steps ∷ []) _ f (commit_steps-none p me b q a.slots.stream.state first)) in
    record { blind = k.blind; unnamed = k.unnamed; more = k.more }

commit-blind : (p : PromiseId) (me : StreamId) (d : Descriptor) (a : Acts) → Fit p a → Blind p (commit me d) a
commit-blind p me d a fits = let k = commit_to-blind p me d.filled a a.slots.stream.requests (omega (arith, fits.none)) fits in record { blind = k.blind; unnamed = k.unnamed; more = k.more }

commit_all-blind : (p : PromiseId) (me : StreamId) (ds : List Descriptor) (a : Acts) → Fit p a → Blind p (commit_all me ds) a
commit_all-blind p me [] a fits = stays p a fits
commit_all-blind p me (d ∷ ds) a fits =
    then-blind p (commit me d) (commit_all me ds) a (commit-blind p me d a fits) (commit_all-blind p me ds _) fits

process-blind : (p : PromiseId) (me : StreamId) (a : Acts) → Fit p a → Blind p (process_and_commit me) a
process-blind p me a fits =
    let x : Processed = processed_of a in
    let k = after-quiet law p (λ s. record s { descriptors = x.waiting; queue = x.queue }) (commit_all me x.ready) a fits (omega arith) (commit_all-blind p me x.ready _) in
    record { blind = k.blind; unnamed = k.unnamed; more = k.more }

-- enqueuing

detach-blind : (p : PromiseId) (a : Acts) (ds : List Descriptor) → Fit p a → Blind p (λ b. detach_first b ds) a
detach-blind p a [] fits = stays p a fits
detach-blind p a (d ∷ ds) fits = after-quiet law p (λ s. record s { descriptors = ds }) (append d.filled) a fits (omega arith) (append-blind p d.filled _)

detached-blind : (p : PromiseId) (a : Acts) → Fit p a → Blind p detached_to_queue a
detached-blind p a fits = let k = detach-blind p a a.slots.descriptors fits in record { blind = k.blind; unnamed = k.unnamed; more = k.more }

renounce-blind : (p : PromiseId) (a : Acts) (ds : List Descriptor) → Fit p a → Blind p (λ b. renounce b ds) a
renounce-blind p a [] fits = stays p a fits
renounce-blind p a (d ∷ ds) fits =
    let h : Slots → Slots = λ s. record s { request = None } in
    let m = after-quiet law p h detached_to_queue a fits (omega arith) (detached-blind p (record a { slots = h a.slots })) in
    by-test p (λ b. detached_to_queue (record b { slots = h b.slots })) (λ b. record b { slots = h b.slots }) (is_for_nobody d.room_kind) a m (quiet law p h a fits (omega arith))

requests_by-blind : (p : PromiseId) (me : StreamId) (q : ReadRequest) (qs : List ReadRequest) (a : Acts) (queue : List (List ℕ)) → in_request p q + in_requests p qs ≡ 0
    → ((c : Acts) → Fit p c → Blind p (process_requests me qs) c) → Fit p a
    → Blind p (λ z. elim queue [ [] ↦ z | b ∷ bs ↦ process_requests me qs (fill_read_request me q (with_requests qs z) (b ∷ bs)) ]) a
requests_by-blind p me q qs a [] n rest fits = stays p a fits
requests_by-blind p me q qs a (b ∷ bs) n rest fits =
    let first : in_request p q ≡ 0 = omega (arith, n) in
    let later : in_requests p qs ≡ 0 = omega (arith, n) in
    let h : Slots → Slots = λ s. record s { stream = record s.stream { requests = qs } } in
    let m = after-quiet law p h (λ z. fill_read_request me q z (b ∷ bs)) a fits (omega (arith, later)) (fill-blind p me q (record a { slots = h a.slots }) (b ∷ bs) first) in
    then-blind p (λ z. fill_read_request me q (record z { slots = h z.slots }) (b ∷ bs)) (process_requests me qs) a m (rest _) fits

requests-blind : (p : PromiseId) (me : StreamId) (qs : List ReadRequest) (a : Acts) → in_requests p qs ≡ 0 → Fit p a → Blind p (process_requests me qs) a
requests-blind p me [] a n fits = stays p a fits
requests-blind p me (q ∷ qs) a n fits =
    let later : in_requests p qs ≡ 0 = omega (arith, n) in
    let k = requests_by-blind p me q qs a a.slots.queue n (λ c f. requests-blind p me qs c later f) fits in
    record { blind = k.blind; unnamed = k.unnamed; more = k.more }

drop-blind : (p : PromiseId) (a : Acts) → Fit p a → Blind p drop_first a
drop-blind p a fits = quiet law p (λ s. record s { descriptors = rest_of s.descriptors }) a fits (omega arith)

accept_for-blind : (p : PromiseId) (me : StreamId) (b : List ℕ) (a : Acts) (qs : List ReadRequest) → in_requests p qs ≡ 0 → Fit p a → Blind p (λ c. accept_for me b c qs) a
accept_for-blind p me b a [] n fits = append-blind p b a fits
accept_for-blind p me b a (q ∷ qs) n fits =
    let first : in_request p q ≡ 0 = omega (arith, n) in
    let later : in_requests p qs ≡ 0 = omega (arith, n) in
    let h : Slots → Slots = λ s. record s { stream = record s.stream { requests = qs } } in
    let m = after-quiet law p h drop_first a fits (omega (arith, later)) (drop-blind p (record a { slots = h a.slots })) in
    then-blind p (λ z. drop_first (record z { slots = h z.slots })) (causing (ChunkSteps me q (Bytes b))) a m (λ f. causes law p (ChunkSteps me q (Bytes b) ∷ []) _ f (omega (arith, first))) fits

accept_default-blind : (p : PromiseId) (me : StreamId) (b : List ℕ) (a : Acts) → Fit p a → Blind p (accept_default me b) a
accept_default-blind p me b a fits =
    let k = then-blind p (process_requests me a.slots.stream.requests) (λ c. accept_for me b c c.slots.stream.requests) a (requests-blind p me a.slots.stream.requests a (omega (arith, fits.none)) fits) (accepting _) fits in
    record { blind = k.blind; unnamed = k.unnamed; more = k.more }
  where
    accepting : (c : Acts) → Fit p c → Blind p (λ c. accept_for me b c c.slots.stream.requests) c
    accepting c f = let k = accept_for-blind p me b c c.slots.stream.requests (omega (arith, f.none)) f in record { blind = k.blind; unnamed = k.unnamed; more = k.more }

accept-blind : (p : PromiseId) (me : StreamId) (b : List ℕ) (a : Acts) → Fit p a → Blind p (accept me b) a
accept-blind p me b a fits =
    let m = then-blind p (append b) (process_and_commit me) a (append-blind p b a fits) (process-blind p me _) fits in
    let j = by-test p (λ c. process_and_commit me (append b c)) (append b) (has_byob_reader a.slots) a m (append-blind p b a fits) in
    let k = by-test p (accept_default me b) (λ c. if has_byob_reader a.slots then process_and_commit me (append b c) else append b c) (has_default_reader a.slots) a (accept_default-blind p me b a fits) j in
    record { blind = k.blind; unnamed = k.unnamed; more = k.more }

enqueue-blind : (p : PromiseId) (me : StreamId) (b : List ℕ) (a : Acts) → Fit p a → Blind p (controller_enqueue me b) a
unfolding controller_enqueue
enqueue-blind p me b a fits =
    let f : Acts → Acts = λ c. renounce c a.slots.descriptors in
    let m = then-blind p f (λ c. call_pull_if_needed me (accept me b c)) a (renounce-blind p a a.slots.descriptors fits)
    (λ g. then-blind p (accept me b) (call_pull_if_needed me) (f a) (accept-blind p me b (f a) g) (pull-blind p me _) g) fits in
    let k = by-test p (λ c. call_pull_if_needed me (accept me b (renounce c a.slots.descriptors))) (λ c. c) (can_take a.slots) a m (stays p a fits) in
    record { blind = k.blind; unnamed = k.unnamed; more = k.more }

-- reads of a BYOB reader

pull_waits-blind : (p : PromiseId) (d : Descriptor) (q : ReadRequest) (a : Acts) → in_request p q ≡ 0 → Fit p a → Blind p (pull_waits d q) a
pull_waits-blind p d q a n fits = then-blind p (add_descriptor d) (wait q) a (add-blind p d a fits) (wait-blind p q _ n) fits

pulls-blind : (p : PromiseId) (me : StreamId) (d : Descriptor) (q : ReadRequest) (a : Acts) → in_request p q ≡ 0 → Fit p a → Blind p (λ b. call_pull_if_needed me (pull_waits d q b)) a
pulls-blind p me d q a n fits = then-blind p (pull_waits d q) (call_pull_if_needed me) a (pull_waits-blind p d q a n fits) (pull-blind p me _) fits

filled_by-blind : (p : PromiseId) (me : StreamId) (q : ReadRequest) (a : Acts) (f : Filling) (ready : Bool) → in_request p q ≡ 0 → Fit p a
    → Blind p (λ b. elim ready [
      | true ↦ causing (ChunkSteps me q (Bytes f.descriptor.filled)) (handle_queue_drain me (put_queue f.queue b))
      | false ↦
          if b.slots.stream.close_requested
          then causing (ErrorSteps me q type_error) (controller_error me type_error (put_queue f.queue b))
          else call_pull_if_needed me (pull_waits f.descriptor q (put_queue f.queue b))
    ]) a
filled_by-blind p me q a f true n fits =
    let h : Slots → Slots = λ s. record s { queue = f.queue } in
    let m = after-quiet law p h (handle_queue_drain me) a fits (omega arith) (drain-blind p me (record a { slots = h a.slots })) in
    then-blind p (λ z. handle_queue_drain me (record z { slots = h z.slots })) (causing (ChunkSteps me q (Bytes f.descriptor.filled))) a m (λ g. causes law p (ChunkSteps me q (Bytes f.descriptor.filled) ∷ []) _ g (omega (arith, n))) fits
filled_by-blind p me q a f false n fits =
    let h : Slots → Slots = λ s. record s { queue = f.queue } in
    let m = after-quiet law p h (controller_error me type_error) a fits (omega arith) (error-blind p me type_error (record a { slots = h a.slots })) in
    let e = then-blind p (λ z. controller_error me type_error (record z { slots = h z.slots })) (causing (ErrorSteps me q type_error)) a m (λ g. causes law p (ErrorSteps me q type_error ∷ []) _ g (omega (arith, n))) fits in
    let w = after-quiet law p h (λ b. call_pull_if_needed me (pull_waits f.descriptor q b)) a fits (omega arith) (pulls-blind p me f.descriptor q (record a { slots = h a.slots }) n) in
    let k = by-test p (λ z. causing (ErrorSteps me q type_error) (controller_error me type_error (record z { slots = h z.slots }))) (λ z. call_pull_if_needed me (pull_waits f.descriptor q (record z { slots = h z.slots }))) a.slots.stream.close_requested a e w in
    record { blind = k.blind; unnamed = k.unnamed; more = k.more }

filled-blind : (p : PromiseId) (me : StreamId) (q : ReadRequest) (a : Acts) (f : Filling) → in_request p q ≡ 0 → Fit p a → Blind p (λ b. pull_filled me q b f) a
filled-blind p me q a f n fits = filled_by-blind p me q a f f.ready n fits

from_queue-blind : (p : PromiseId) (me : StreamId) (d : Descriptor) (q : ReadRequest) (a : Acts) (queue : List (List ℕ)) → in_request p q ≡ 0 → Fit p a → Blind p (λ b. pull_from_queue me d q b queue) a
from_queue-blind p me d q a [] n fits = pulls-blind p me d q a n fits
from_queue-blind p me d q a (b ∷ bs) n fits = filled-blind p me q a (fill_from_queue d (b ∷ bs)) n fits

pull_first-blind : (p : PromiseId) (me : StreamId) (d : Descriptor) (q : ReadRequest) (a : Acts) (ds : List Descriptor) → in_request p q ≡ 0 → Fit p a → Blind p (λ b. pull_first me d q b ds) a
pull_first-blind p me d q a (x ∷ xs) n fits = pull_waits-blind p d q a n fits
pull_first-blind p me d q a [] n fits =
    let k = by-test p (causing (CloseStepsWith me q [])) (λ b. pull_from_queue me d q b a.slots.queue) (is_closed a.slots.stream.state) a (causes law p (CloseStepsWith me q [] ∷ []) a fits (omega (arith, n))) (from_queue-blind p me d q a a.slots.queue n fits) in
    record { blind = k.blind; unnamed = k.unnamed; more = k.more }

pull_into-blind : (p : PromiseId) (me : StreamId) (d : Descriptor) (q : ReadRequest) (a : Acts) → in_request p q ≡ 0 → Fit p a → Blind p (pull_into me d q) a
unfolding pull_into
pull_into-blind p me d q a n fits = let k = pull_first-blind p me d q a a.slots.descriptors n fits in record { blind = k.blind; unnamed = k.unnamed; more = k.more }

byob_read-blind : (p : PromiseId) (me : StreamId) (d : Descriptor) (q : ReadRequest) (a : Acts) → in_request p q ≡ 0 → Fit p a → Blind p (byob_reader_read me d q) a
unfolding byob_reader_read
byob_read-blind p me d q a n fits =
    let k = then-blind p (in_stream readable.disturb) (λ b. if is_errored b.slots.stream.state then causing (ErrorSteps me q b.slots.stream.stored_error) b else pull_into me d q b) a (disturb-blind p a fits) (reading _) fits in
    record { blind = k.blind; unnamed = k.unnamed; more = k.more }
  where
    reading : (b : Acts) → Fit p b → Blind p (λ b. if is_errored b.slots.stream.state then causing (ErrorSteps me q b.slots.stream.stored_error) b else pull_into me d q b) b
    reading b f =
        let e = ErrorSteps me q b.slots.stream.stored_error in
        let k = by-test p (causing e) (pull_into me d q) (is_errored b.slots.stream.state) b (causes law p (e ∷ []) b f (omega (arith, n))) (pull_into-blind p me d q b n f) in
        record { blind = k.blind; unnamed = k.unnamed; more = k.more }

-- responses

commit_first-blind : (p : PromiseId) (me : StreamId) (n : ℕ) (a : Acts) → Fit p a → Blind p (commit_first me n) a
commit_first-blind p me n a fits =
    let k = after-quiet law p (λ s. record s { descriptors = drop n s.descriptors }) (commit_all me (take n a.slots.descriptors)) a fits (omega arith) (commit_all-blind p me (take n a.slots.descriptors) _) in
    record { blind = k.blind; unnamed = k.unnamed; more = k.more }

respond_closed-blind : (p : PromiseId) (me : StreamId) (d : Descriptor) (a : Acts) → Fit p a → Blind p (respond_closed me d) a
respond_closed-blind p me d a fits =
    let first = by-test p drop_first (λ b. b) (is_for_nobody d.room_kind) a (drop-blind p a fits) (stays p a fits) in
    let k = then-blind p (λ b. if is_for_nobody d.room_kind then drop_first b else b) (λ b. if has_byob_reader b.slots then commit_first me (length b.slots.stream.requests) b else b) a first (committing _) fits in
    record { blind = k.blind; unnamed = k.unnamed; more = k.more }
  where
    committing : (b : Acts) → Fit p b → Blind p (λ b. if has_byob_reader b.slots then commit_first me (length b.slots.stream.requests) b else b) b
    committing b f =
        let k = by-test p (commit_first me (length b.slots.stream.requests)) (λ c. c) (has_byob_reader b.slots) b (commit_first-blind p me (length b.slots.stream.requests) b f) (stays p b f) in
        record { blind = k.blind; unnamed = k.unnamed; more = k.more }

put_first-blind : (p : PromiseId) (d : Descriptor) (a : Acts) → Fit p a → Blind p (put_first d) a
put_first-blind p d a fits = quiet law p (λ s. record s { descriptors = d ∷ rest_of s.descriptors }) a fits (omega arith)

respond_full-blind : (p : PromiseId) (me : StreamId) (d : Descriptor) (a : Acts) → Fit p a → Blind p (respond_full me d) a
respond_full-blind p me d a fits =
    let kept : ℕ = length d.filled - (length d.filled % d.element) in
    let b : Acts = append (drop kept d.filled) (drop_first a) in
    let x : Processed = processed_of b in
    let whole : Descriptor = record d { filled = take kept d.filled } in
    let h : Slots → Slots = λ s. record s { descriptors = x.waiting; queue = x.queue } in
    let j = after-quiet law p h (commit me whole) a fits (omega arith) (commit-blind p me whole (record a { slots = h a.slots })) in
    let k = then-blind p (λ z. commit me whole (record z { slots = h z.slots })) (commit_all me x.ready) a j (commit_all-blind p me x.ready _) fits in
    record { blind = k.blind; unnamed = k.unnamed; more = k.more }

respond_readable-blind : (p : PromiseId) (me : StreamId) (d : Descriptor) (a : Acts) → Fit p a → Blind p (respond_readable me d) a
respond_readable-blind p me d a fits =
    let m = then-blind p (put_first d) (λ b. process_and_commit me (detached_to_queue b)) a (put_first-blind p d a fits)
    (λ f. then-blind p detached_to_queue (process_and_commit me) (put_first d a) (detached-blind p (put_first d a) f) (process-blind p me _) f) fits in
    let j = by-test p (put_first d) (respond_full me d) (nat_lt (length d.filled) d.minimum) a (put_first-blind p d a fits) (respond_full-blind p me d a fits) in
    by-test p (λ b. process_and_commit me (detached_to_queue (put_first d b))) (λ b. if nat_lt (length d.filled) d.minimum then put_first d b else respond_full me d b) (is_for_nobody d.room_kind) a m j

respond_first-blind : (p : PromiseId) (me : StreamId) (b : List ℕ) (a : Acts) (ds : List Descriptor) → Fit p a → Blind p (λ c. respond_first me b c ds) a
respond_first-blind p me b a [] fits = stays p a fits
respond_first-blind p me b a (d ∷ ds) fits =
    let e : Descriptor = record d { filled = d.filled ++ b } in
    let m = then-blind p (respond_readable me e) (call_pull_if_needed me) a (respond_readable-blind p me e a fits) (pull-blind p me _) fits in
    let k = by-test p (respond_closed me d) (λ c. call_pull_if_needed me (respond_readable me e c)) (is_closed a.slots.stream.state) a (respond_closed-blind p me d a fits) m in
    record { blind = k.blind; unnamed = k.unnamed; more = k.more }

respond_internal-blind : (p : PromiseId) (me : StreamId) (b : List ℕ) (a : Acts) → Fit p a → Blind p (respond_internal me b) a
respond_internal-blind p me b a fits =
    let k = after-quiet law p (λ s. record s { request = None }) (λ c. respond_first me b c a.slots.descriptors) a fits (omega arith) (respond_first-blind p me b _ a.slots.descriptors) in
    record { blind = k.blind; unnamed = k.unnamed; more = k.more }

-- the start, the pull, the cancel and the release

start_settled-blind : (p : PromiseId) (me : StreamId) (o : Result Plain Plain) (a : Acts) → Fit p a → Blind p (start_settled me o) a
unfolding start_settled
start_settled-blind p me (Ok v) a fits =
    after-quiet law p (λ s. record s { stream = record s.stream { started = true } }) (call_pull_if_needed me) a fits (omega arith) (pull-blind p me _)
start_settled-blind p me (Err r) a fits = error-blind p me r a fits

pull_ended-blind : (p : PromiseId) (me : StreamId) (a : Acts) (b : Bool) → Fit p a → Blind p (λ c. pull_ended me c b) a
pull_ended-blind p me a false fits = stays p a fits
pull_ended-blind p me a true fits =
    after-quiet law p (λ s. record s { stream = record s.stream { pull_again = false } }) (call_pull_if_needed me) a fits (omega arith) (pull-blind p me _)

pull_settled-blind : (p : PromiseId) (me : StreamId) (o : Result Plain Plain) (a : Acts) → Fit p a → Blind p (pull_settled me o) a
unfolding pull_settled
pull_settled-blind p me (Ok v) a fits =
    let k = after-quiet law p (λ s. record s { stream = record s.stream { pulling = false } }) (λ c. pull_ended me c a.slots.stream.pull_again) a fits (omega arith) (pull_ended-blind p me _ a.slots.stream.pull_again) in record { blind = k.blind; unnamed = k.unnamed; more = k.more }
pull_settled-blind p me (Err e) a fits = error-blind p me e a fits

cancel_steps-blind : (p : PromiseId) (me : StreamId) (r : Plain) (c : PromiseId) (a : Acts) → one p c ≡ 0 → Fit p a → Blind p (cancel_steps me r c) a
cancel_steps-blind p me r c a n fits =
    after-quiet law p (λ s. record s { request = None; descriptors = []; queue = [] }) (causing (CancelAlgorithm me r c)) a fits (omega arith) (λ f. causes law p (CancelAlgorithm me r c ∷ []) _ f (omega (arith, n)))

close_into-blind : (p : PromiseId) (me : StreamId) (a : Acts) → Fit p a → Blind p (close_into me) a
close_into-blind p me a fits =
    let es : List Effect = readable.close_all me a.slots.stream.requests in
    let app = all-append (in_effect p) a.out.effects es in
    let all = inner.in_close_all p me a.slots.stream.requests in
    let m : Blind p (λ b. record (with_requests [] b) { out = cause_all (readable.close_all me b.slots.stream.requests) b.out }) a = record {
      blind = λ x. refl;
      unnamed = omega (arith, app, all, fits.none);
      more = omega arith;
    } in
    let k = by-test p (λ b. record (with_requests [] b) { out = cause_all (readable.close_all me b.slots.stream.requests) b.out }) (λ b. b) (has_byob_reader a.slots) a m (stays p a fits) in
    record { blind = k.blind; unnamed = k.unnamed; more = k.more }

cancel_by-blind : (p : PromiseId) (me : StreamId) (r : Plain) (c : PromiseId) (a : Acts) (s : ReadableState) → one p c ≡ 0 → Fit p a → Blind p (λ b. cancel_by me r c b s) a
cancel_by-blind p me r c a Readable n fits =
    let k = then-blind p (stream_close me) (λ b. cancel_steps me r c (close_into me b)) a (stream_close-blind p me a fits)
    (λ f. then-blind p (close_into me) (cancel_steps me r c) (stream_close me a) (close_into-blind p me (stream_close me a) f) (cancel_steps-blind p me r c _ n) f) fits in
    record { blind = k.blind; unnamed = k.unnamed; more = k.more }
cancel_by-blind p me r c a Closed n fits = settles law p c (Ok Undefined) a n fits
cancel_by-blind p me r c a Errored n fits = let k = settles law p c (Err a.slots.stream.stored_error) a n fits in record { blind = k.blind; unnamed = k.unnamed; more = k.more }

cancel-blind : (p : PromiseId) (me : StreamId) (r : Plain) (c : PromiseId) (a : Acts) → one p c ≡ 0 → Fit p a → Blind p (stream_cancel me r c) a
unfolding stream_cancel
cancel-blind p me r c a n fits =
    let k = then-blind p (in_stream readable.disturb) (λ b. cancel_by me r c b a.slots.stream.state) a (disturb-blind p a fits) (cancel_by-blind p me r c _ a.slots.stream.state n) fits in
    record { blind = k.blind; unnamed = k.unnamed; more = k.more }

cancel_if-blind : (p : PromiseId) (me : StreamId) (r : Plain) (c : PromiseId) (a : Acts) → one p c ≡ 0 → Fit p a → Blind p (cancel_if_readable me r c) a
unfolding cancel_if_readable
cancel_if-blind p me r c a n fits =
    let k = by-test p (stream_cancel me r c) (λ b. record b { out = settling c (Ok Undefined) b.out }) (readable.is_readable a.slots.stream.state) a (cancel-blind p me r c a n fits) (settles law p c (Ok Undefined) a n fits) in
    record { blind = k.blind; unnamed = k.unnamed; more = k.more }

release-blind : (p : PromiseId) (me : StreamId) (a : Acts) → Fit p a → Blind p (reader_release me) a
unfolding reader_release
release-blind p me a fits =
    let h : Slots → Slots = λ s. record s { descriptors = without_reader s.descriptors } in
    after-quiet law p h (in_stream (readable.reader_release me)) a fits (omega arith) (inside p (readable.reader_release me) (record a { slots = h a.slots }) (inner.release-blind p me _))

-- what an operation relies on

if_meant-blind : (p : PromiseId) (c : Bool) (f : Acts → Acts) (a : Acts) → Blind p f a → Fit p a → Blind p (λ b. if_meant c (f b) b) a
if_meant-blind p true f a m fits = record { blind = m.blind; unnamed = m.unnamed; more = m.more }
if_meant-blind p false f a m fits = quiet law p (λ s. record s { astray = true }) a fits (omega arith)

initialize-blind : (p : PromiseId) (kind : ReaderKind) (c : PromiseId) (a : Acts) → one p c ≡ 0 → Fit p a → Blind p (reader_initialize kind c) a
unfolding reader_initialize
initialize-blind p kind c a n fits =
    let h : Slots → Slots = λ s. record s { reader_kind = kind } in
    let m = after-quiet law p h (in_stream (readable.reader_generic_initialize c)) a fits (omega arith) (inside p (readable.reader_generic_initialize c) (record a { slots = h a.slots }) (inner.initialize-blind p c _ n)) in
    let k = if_meant-blind p (is_none a.slots.stream.reader) (λ b. in_stream (readable.reader_generic_initialize c) (record b { slots = h b.slots })) a m fits in
    record { blind = k.blind; unnamed = k.unnamed; more = k.more }

read-blind : (p : PromiseId) (me : StreamId) (q : ReadRequest) (a : Acts) → in_request p q ≡ 0 → Fit p a → Blind p (read me q) a
unfolding read
read-blind p me q a n fits =
    let m = if_meant-blind p (may_read a.slots) (default_reader_read me q) a (default_read-blind p me q a n fits) fits in
    let k = by-test p (λ b. b) (λ b. if_meant (may_read a.slots) (default_reader_read me q b) b) (is_of_tee q) a (stays p a fits) m in
    record { blind = k.blind; unnamed = k.unnamed; more = k.more }

read_into-blind : (p : PromiseId) (me : StreamId) (room element minimum : ℕ) (q : ReadRequest) (a : Acts) → in_request p q ≡ 0 → Fit p a → Blind p (read_into me room element minimum q) a
unfolding read_into
read_into-blind p me room element minimum q a n fits =
    let d : Descriptor = record { filled = []; room = room; minimum = minimum; element = element; room_kind = ForByob } in
    let k = if_meant-blind p (may_pull_into a.slots && is_least room element minimum) (byob_reader_read me d q) a (byob_read-blind p me d q a n fits) fits in
    record { blind = k.blind; unnamed = k.unnamed; more = k.more }

respond-blind : (p : PromiseId) (me : StreamId) (b : List ℕ) (a : Acts) → Fit p a → Blind p (respond me b) a
unfolding respond
respond-blind p me b a fits =
    let k = if_meant-blind p (may_respond (length b) a.slots) (respond_internal me b) a (respond_internal-blind p me b a fits) fits in
    record { blind = k.blind; unnamed = k.unnamed; more = k.more }

-- each operation

readable-blind : (p : PromiseId) (i : StreamId) (operation : ReadableOperation) (a : Acts) → in_readable_operation p operation ≡ 0 → Fit p a → Blind p (byte_readable_operation i operation) a
readable-blind p i (InitializeReader c) a n fits = initialize-blind p Default c a n fits
readable-blind p i ReleaseReader a n fits = release-blind p i a fits
readable-blind p i Disturb a n fits = disturb-blind p a fits
readable-blind p i (Read q) a n fits = read-blind p i q a n fits
readable-blind p i (Cancel r c) a n fits = cancel-blind p i r c a n fits
readable-blind p i (CancelIfReadable r c) a n fits = cancel_if-blind p i r c a n fits
readable-blind p i (Enqueue v) a n fits = stays p a fits
readable-blind p i Close a n fits = close-blind p i a fits
readable-blind p i (Error e) a n fits = error-blind p i e a fits
readable-blind p i (StartSettled o) a n fits = start_settled-blind p i o a fits
readable-blind p i (PullSettled o) a n fits = pull_settled-blind p i o a fits

own-blind : (p : PromiseId) (i : StreamId) (operation : ByteOperation) (a : Acts) → in_byte_operation p operation ≡ 0 → Fit p a → Blind p (byte_operation i operation) a
own-blind p i (InitializeByobReader c) a n fits = initialize-blind p Byob c a n fits
own-blind p i (EnqueueBytes b) a n fits = enqueue-blind p i b a fits
own-blind p i (PullInto room element minimum q) a n fits = read_into-blind p i (length room) element minimum q a n fits
own-blind p i (MakeRequest q) a n fits = quiet law p (λ s. record s { request = Some q }) a fits (omega arith)
own-blind p i (Respond b) a n fits = respond-blind p i b a fits

pub bytes-blind : EachByteOperationIsBlind
bytes-blind i = (
  λ operation p a made none. readable-blind p i operation a (omega (arith, none)) (record { made = made; none = omega (arith, none) }),
  λ operation p a made none. own-blind p i operation a (omega (arith, none)) (record { made = made; none = omega (arith, none) }),
)
