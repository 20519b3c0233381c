-- A call doesn't look at a promise that isn't named, and names it nowhere; so alike slots give the same reply.
use Rattle.std.proofs.Common.{◌≡◌, ◌∙◌, [], ◌∷◌, refl, ap, arith}
use Rattle.ws_value.specs.declared.ids.PromiseId.{PromiseId}
use Rattle.ws_steps.specs.declared.calls.Reply.{Reply}
use Rattle.ws_steps.specs.declared.effects.Effect.TheVariants.{Signal as OnSignal, Port as OnPort}
use Rattle.ws_steps.specs.Begun.{Begun, unsupported, throws_type_error, rejected, does}
use Rattle.ws_alike.proofs.Rows.{Fit}
use Rattle.ws_steps.specs.declared.calls.Call.{Call}
use Rattle.ws_steps.specs.declared.calls.Call.TheVariants.{MakeReadable, MakeBytes, MakeWritable, MakeTransform, GetReader, GetByob, GetWriter, Tee, Cancel, CancelBy, Read, ReadInto, Write, Close, CloseBy, Abort, AbortBy, Closed, Ready, Release, Enqueue, Finish, Fail, Terminate, Request, Respond, Desired, DesiredBy, Pipe, MakeSignal, Trigger, Send, Open, Deliver, Settle, State, Step}
use Rattle.ws_steps.specs.declared.calls.Reply.TheVariants.{Done as ReplyDone, Promise, Throws, Made, MadeTwo, Lock as ReplyLock, TooMany, Signal as ReplySignal, Port as ReplyPort, MadePort, Request as ReplyRequest, Size, State as ReplyState}
use Rattle.ws_steps.specs.declared.pipes.SignalOperation.TheVariants.{Trigger as TriggerSignal}
use Rattle.ws_steps.specs.declared.port.PortOperation.TheVariants.{Deliver as DeliverMessage}
use Rattle.ws_steps.specs.Calls.{begin, named}
use Rattle.ws_steps.specs.ControllerCalls.{desired_of_writer}
use Rattle.ws_steps.specs.LockCalls.{cancel, read, write, close, abort}
use Rattle.ws_steps.specs.MakingCalls.{make_readable, make_bytes, make_writable, make_transform, tee_of, get_reader, get_byob_of, get_writer}
use Rattle.ws_steps.specs.PipeCalls.{open_end}
use Rattle.ws_steps.specs.Run.{older, reply_to, after_call}
use Rattle.ws_steps.specs.Slots.{Slots, Done, with_promises, lock_at, stream_of_request, has_port}
use Rattle.ws_steps.specs.Turns.{performed}
use Rattle.ws_alike.specs.Alike.{EachCallIsAlike}
use Rattle.ws_alike.proofs.Calling.{Calls, in_reply, by-test, begins, answers, refuses, throws, rejects, unlocked_readable-calls, unlocked_writable-calls, cancel-calls, read-calls, write-calls, close-calls, abort-calls, lock-names, by_reader-calls, by_default-calls, read_into_by-calls, by_writer-calls, closed-calls, ready-calls, release-calls, enqueue-calls, finish-calls, fail-calls, terminate-calls, desired-calls, desired_of_writer-calls, look-calls, settle-calls, request-calls, respond-calls, table-fits}
use Rattle.ws_alike.proofs.Making.{make_readable-calls, make_bytes-calls, make_writable-calls, make_stream-calls, make_two-calls, make_transform-calls, tee-calls, get_reader-calls, get_byob_of-calls, get_writer-calls, for_signal-calls, pipe-calls, make_signal-calls, open-calls, send-calls}
use Rattle.ws_alike.proofs.Trimming.{Steps, step-alike, look-alike}
use Rattle.ws_alike.proofs.Turning.{performances-blind}
use Rattle.ws_alike.proofs.Using.{watches}

call-begins : (p : PromiseId) (c : Call) (s : Slots) → Fit p s → Calls p (begin c) s
unfolding begin
call-begins p (MakeReadable mark size start) s fits = make_stream-calls p (make_readable mark size start) s (λ i. make_readable-calls p mark size start i s fits) fits
call-begins p (MakeBytes mark auto start) s fits = make_stream-calls p (make_bytes mark auto start) s (λ i. make_bytes-calls p mark auto start i s fits) fits
call-begins p (MakeWritable mark size start) s fits = make_stream-calls p (make_writable mark size start) s (λ i. make_writable-calls p mark size start i s fits) fits
call-begins p (MakeTransform kind wm rm start) s fits = make_two-calls p (make_transform kind wm rm start) s (λ i j. make_transform-calls p kind wm rm start i j s fits) fits
call-begins p (GetReader i) s fits = unlocked_readable-calls p i throws_type_error get_reader s (throws p s fits) (get_reader-calls p i s fits) fits
call-begins p (GetByob i) s fits = unlocked_readable-calls p i throws_type_error get_byob_of s (throws p s fits) (get_byob_of-calls p i s fits) fits
call-begins p (GetWriter i) s fits = unlocked_writable-calls p i throws_type_error get_writer s (throws p s fits) (get_writer-calls p i s fits) fits
call-begins p (Tee i) s fits = unlocked_readable-calls p i throws_type_error tee_of s (throws p s fits) (tee-calls p i s fits) fits
call-begins p (Cancel i r) s fits = unlocked_readable-calls p i rejected (cancel r) s (rejects p s fits) (cancel-calls p r i s fits) fits
call-begins p (CancelBy l r) s fits = let k = by_reader-calls p (cancel r) rejected s (lock_at l s) (λ i. cancel-calls p r i s fits) (rejects p s fits) fits in record { blind = k.blind; apart = k.apart; unnamed = k.unnamed; more = k.more }
call-begins p (Read l) s fits = let k = by_default-calls p read rejected s (lock_at l s) (λ i. read-calls p i s fits) (rejects p s fits) fits in record { blind = k.blind; apart = k.apart; unnamed = k.unnamed; more = k.more }
call-begins p (ReadInto l room element least) s fits = let k = read_into_by-calls p room element least s (lock_at l s) fits in record { blind = k.blind; apart = k.apart; unnamed = k.unnamed; more = k.more }
call-begins p (Write l v) s fits = let k = by_writer-calls p (write v) rejected s (lock_at l s) (λ i. write-calls p v i s fits) (rejects p s fits) fits in record { blind = k.blind; apart = k.apart; unnamed = k.unnamed; more = k.more }
call-begins p (Close i) s fits = unlocked_writable-calls p i rejected close s (rejects p s fits) (close-calls p i s fits) fits
call-begins p (CloseBy l) s fits = let k = by_writer-calls p close rejected s (lock_at l s) (λ i. close-calls p i s fits) (rejects p s fits) fits in record { blind = k.blind; apart = k.apart; unnamed = k.unnamed; more = k.more }
call-begins p (Abort i r) s fits = unlocked_writable-calls p i rejected (abort r) s (rejects p s fits) (abort-calls p r i s fits) fits
call-begins p (AbortBy l r) s fits = let k = by_writer-calls p (abort r) rejected s (lock_at l s) (λ i. abort-calls p r i s fits) (rejects p s fits) fits in record { blind = k.blind; apart = k.apart; unnamed = k.unnamed; more = k.more }
call-begins p (Closed l) s fits = let k = closed-calls p s (lock_at l s) (lock-names p l s fits) fits in record { blind = k.blind; apart = k.apart; unnamed = k.unnamed; more = k.more }
call-begins p (Ready l) s fits = let k = ready-calls p s (lock_at l s) (lock-names p l s fits) fits in record { blind = k.blind; apart = k.apart; unnamed = k.unnamed; more = k.more }
call-begins p (Release l) s fits = let k = release-calls p l s (lock_at l s) (lock-names p l s fits) fits in record { blind = k.blind; apart = k.apart; unnamed = k.unnamed; more = k.more }
call-begins p (Enqueue i v) s fits = enqueue-calls p i v s fits
call-begins p (Finish i) s fits = finish-calls p i s fits
call-begins p (Fail i r) s fits = fail-calls p r i s fits
call-begins p (Terminate i) s fits = terminate-calls p i s fits
call-begins p (Request i) s fits = request-calls p i s fits
call-begins p (Respond q b) s fits = let k = respond-calls p q b s (stream_of_request q s) fits in record { blind = k.blind; apart = k.apart; unnamed = k.unnamed; more = k.more }
call-begins p (Desired i) s fits = desired-calls p i s fits
call-begins p (DesiredBy l) s fits = let k = by_writer-calls p desired_of_writer throws_type_error s (lock_at l s) (λ i. desired_of_writer-calls p i s fits) (throws p s fits) fits in record { blind = k.blind; apart = k.apart; unnamed = k.unnamed; more = k.more }
call-begins p (Pipe source dest prevent signal) s fits = pipe-calls p source dest prevent signal s fits
call-begins p MakeSignal s fits = make_signal-calls p s fits
call-begins p (Trigger a r) s fits = for_signal-calls p a (does (OnSignal a (TriggerSignal r) ∷ [])) s (begins p ReplyDone (OnSignal a (TriggerSignal r) ∷ []) s refl refl fits) fits
call-begins p (Send i) s fits = send-calls p i s fits
call-begins p (Open side) s fits = make_stream-calls p (open_end side) s (λ i. open-calls p side i s fits) fits
call-begins p (Deliver c m) s fits = let k = by-test p (does (OnPort c (DeliverMessage m) ∷ [])) unsupported (has_port c s) s (begins p ReplyDone (OnPort c (DeliverMessage m) ∷ []) s refl refl fits) (refuses p s fits) in record { blind = k.blind; apart = k.apart; unnamed = k.unnamed; more = k.more }
call-begins p (Settle h answer) s fits = settle-calls p h answer s fits
call-begins p (State i) s fits = look-calls p i s fits
call-begins p Step s fits = answers p ReplyDone s refl fits

-- what a reply names is watched
named-steps : (p : PromiseId) (r : Reply) (s : Slots) → in_reply p r ≡ 0 → Fit p s → Steps (named r) p s
named-steps p (Promise q) s n fits =
    let k = watches p q s.promises n (table-fits p s fits) in
    record { blind = λ x. ap (λ t. with_promises t s) (k.blind x); unnamed = omega (arith, k.unnamed, fits.none); more = k.more }
named-steps p ReplyDone s n fits = record { blind = λ x. refl; unnamed = fits.none; more = omega arith }
named-steps p (Throws e) s n fits = record { blind = λ x. refl; unnamed = fits.none; more = omega arith }
named-steps p (Made i) s n fits = record { blind = λ x. refl; unnamed = fits.none; more = omega arith }
named-steps p (MadeTwo i j) s n fits = record { blind = λ x. refl; unnamed = fits.none; more = omega arith }
named-steps p (ReplyLock l) s n fits = record { blind = λ x. refl; unnamed = fits.none; more = omega arith }
named-steps p TooMany s n fits = record { blind = λ x. refl; unnamed = fits.none; more = omega arith }
named-steps p (ReplySignal a) s n fits = record { blind = λ x. refl; unnamed = fits.none; more = omega arith }
named-steps p (ReplyPort c) s n fits = record { blind = λ x. refl; unnamed = fits.none; more = omega arith }
named-steps p (MadePort i c) s n fits = record { blind = λ x. refl; unnamed = fits.none; more = omega arith }
named-steps p (ReplyRequest q) s n fits = record { blind = λ x. refl; unnamed = fits.none; more = omega arith }
named-steps p (Size d) s n fits = record { blind = λ x. refl; unnamed = fits.none; more = omega arith }
named-steps p (ReplyState y) s n fits = record { blind = λ x. refl; unnamed = fits.none; more = omega arith }

pub call-steps : (c : Call) (p : PromiseId) (s : Slots) → Fit p s → Steps (after_call c) p s
call-steps c p s fits =
    let d = call-begins p c s fits in
    let z : Done = (begin c s).done in
    let k = performances-blind p z (omega (arith, fits.made, d.more)) d.unnamed in
    let w = named-steps p (begin c s).reply (performed z) d.apart (record { made = omega (arith, fits.made, d.more, k.more); none = k.unnamed }) in
    record {
      blind = λ x. ap (λ (b : Begun). older (named b.reply (performed b.done))) (d.blind x) ∙ (ap (λ y. older (named (begin c s).reply y)) (k.blind x) ∙ ap older (w.blind x));
      unnamed = omega (arith, w.unnamed);
      more = omega (arith, d.more, k.more, w.more);
    }

pub call-alike : EachCallIsAlike
call-alike c s t h =
    (look-alike Reply (reply_to c) (λ p s fits x. ap (λ (b : Begun). b.reply) ((call-begins p c s fits).blind x)) s t h, step-alike (after_call c) (call-steps c) s t h)
