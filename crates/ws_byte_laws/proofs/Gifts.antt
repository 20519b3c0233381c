-- Unread operations give nothing.
use Rattle.std.proofs.Common.{◌≡◌, ℕ, Bool, true, false, List, [], ◌∷◌, refl, ap, ◌∙◌, append-nil}
use Rattle.std.specs.Prelude.{is_none, Result, Ok, Err}
use Rattle.ws_steps.specs.Bytes.{Slots, Acts, with_slots, in_stream, can_take, call_pull_if_needed, stream_close, clear_all, controller_error, close_by, controller_close, start_settled, pull_ended, pull_settled, close_into, cancel_by, stream_cancel, cancel_if_readable, reader_release, reader_initialize}
use Rattle.ws_steps.specs.Descriptors.{has_part}
use Rattle.ws_steps.specs.Effects.{type_error}
use Rattle.ws_steps.specs.Promises.{Table}
use Rattle.ws_steps.specs.Operations.{byte_readable_operation}
use Rattle.ws_steps.specs.declared.readable.ReadableState.{ReadableState}
use Rattle.ws_steps.specs.declared.readable.ReadableState.TheVariants.{Readable, Closed, Errored}
use Rattle.ws_steps.specs.declared.byte.ReaderKind.{ReaderKind}
use Rattle.ws_steps.specs.declared.byte.ReaderKind.TheVariants.{Default}
use Rattle.ws_steps.specs.declared.readable.ReadableOperation.{ReadableOperation}
use Rattle.ws_steps.specs.declared.effects.Effect.TheVariants.{CancelAlgorithm}
use Rattle.ws_value.specs.declared.ids.StreamId.{StreamId}
use Rattle.ws_value.specs.declared.ids.PromiseId.{PromiseId}
use Rattle.ws_value.specs.declared.value.Plain.{Plain}
use Rattle.ws_laws.proofs.Tables.{either}
use Rattle.ws_byte_laws.proofs.Given.{given, starting, given_last}
use Rattle.ws_byte_laws.proofs.Fine.{of_stream, shut, stream_errored}
use Rattle.ws_byte_laws.proofs.Enqueue.{pull_same}
use Rattle.ws_byte_laws.proofs.Leaving.{cancel_closed, initialized_by, initialized, released}
use Rattle.ws_byte_laws.proofs.Law.{meant}
use Rattle.ws_steps.specs.Readable as readable
use Rattle.ws_steps.specs.declared.readable.ReadableOperation.TheVariants as names
use Rattle.ws_laws.proofs.ReadableDoes.{is_taking}

-- what an operation that isn't a read gives: nothing

abbrev Gives : Acts → Type 0
Gives a = given a.out.effects ≡ []

error_gives : (me : StreamId) (e : Plain) (a : Acts) → Gives a → Gives (controller_error me e a)
unfolding controller_error
error_gives me e a h =
    either Gives (readable.is_readable a.slots.stream.state) (in_stream (readable.stream_error me e) (clear_all a)) a
    (λ t. (stream_errored me e (of_stream (clear_all a))).bytes ∙ h) (λ t. h)

pull_gives : (me : StreamId) (a : Acts) → Gives a → Gives (call_pull_if_needed me a)
pull_gives me a h = (pull_same me a).given ∙ h

close_gives : (me : StreamId) (a : Acts) (queue : List (List ℕ)) → Gives a → Gives (close_by me a queue)
close_gives me a (b ∷ bs) h = h
close_gives me a [] h =
    either Gives (has_part a.slots.descriptors) (controller_error me type_error a) (stream_close me a) (λ t. error_gives me type_error a h) (λ t. (shut me a).bytes ∙ h)

cancel_gives : (me : StreamId) (r : Plain) (p : PromiseId) (a : Acts) (state : ReadableState) → Gives a → Gives (cancel_by me r p a state)
cancel_gives me r p a Readable h = given_last (close_into me (stream_close me a)).out.effects (CancelAlgorithm me r p) ∙ (append-nil _ ∙ ((cancel_closed me a).bytes ∙ h))
cancel_gives me r p a Closed h = h
cancel_gives me r p a Errored h = h

ended_gives : (me : StreamId) (a : Acts) (again : Bool) → Gives a → Gives (pull_ended me a again)
ended_gives me a false h = h
ended_gives me a true h = pull_gives me (with_slots (record a.slots { stream = record a.slots.stream { pull_again = false } }) a) h

settled_gives : (me : StreamId) (o : Result Plain Plain) (a : Acts) → Gives a → Gives (pull_settled me o a)
unfolding pull_settled
settled_gives me (Ok v) a h = ended_gives me (with_slots (record a.slots { stream = record a.slots.stream { pulling = false } }) a) a.slots.stream.pull_again h
settled_gives me (Err e) a h = error_gives me e a h

start_gives : (me : StreamId) (o : Result Plain Plain) (a : Acts) → Gives a → Gives (start_settled me o a)
unfolding start_settled
start_gives me (Ok v) a h = pull_gives me (with_slots (record a.slots { stream = record a.slots.stream { started = true } }) a) h
start_gives me (Err e) a h = error_gives me e a h

initialize_gives : (kind : ReaderKind) (p : PromiseId) (a : Acts) → Gives a → Gives (reader_initialize kind p a)
unfolding reader_initialize
initialize_gives kind p a h = meant Gives (is_none a.slots.stream.reader) (initialized_by kind p a) a (λ c. ap given (initialized kind p a) ∙ h) h

pub nothing_given : (me : StreamId) (op : ReadableOperation) (s : Slots) (t : Table) → is_taking op ≡ false → given (byte_readable_operation me op (starting s t)).out.effects ≡ []
unfolding reader_release controller_close cancel_if_readable stream_cancel readable.disturb
nothing_given me (names.InitializeReader p) s t n = initialize_gives Default p (starting s t) refl
nothing_given me names.ReleaseReader s t n = (released me (of_stream (starting s t))).bytes
nothing_given me names.Disturb s t n = refl
nothing_given me (names.Read q) s t n = cc
nothing_given me (names.Cancel r p) s t n = cancel_gives me r p (in_stream readable.disturb (starting s t)) s.stream.state refl
nothing_given me (names.CancelIfReadable r p) s t n =
    either Gives (readable.is_readable s.stream.state) (stream_cancel me r p (starting s t)) _ (λ e. cancel_gives me r p (in_stream readable.disturb (starting s t)) s.stream.state refl) (λ e. refl)
nothing_given me (names.Enqueue v) s t n = cc
nothing_given me names.Close s t n = either Gives (can_take s) (close_by me (starting s t) s.queue) (starting s t) (λ e. close_gives me (starting s t) s.queue refl) (λ e. refl)
nothing_given me (names.Error e) s t n = error_gives me e (starting s t) refl
nothing_given me (names.StartSettled o) s t n = start_gives me o (starting s t) refl
nothing_given me (names.PullSettled o) s t n = settled_gives me o (starting s t) refl
