-- Closing, cancelling, and the reader's coming and going.
use Rattle.std.proofs.Common.{◌≡◌, ◌≢◌, ℕ, Bool, true, false, List, [], ◌∷◌, Option, Some, None, length, refl, sym, ap, ◌∙◌, append-nil, arith}
use Rattle.std.specs.Prelude.{Result, Ok, Err}
use Rattle.ws_steps.specs.Bytes.{Acts, with_slots, in_stream, has_byob_reader, can_take, stream_close, controller_error, close_by, controller_close, start_settled, pull_ended, pull_settled, close_into, cancel_by, stream_cancel, reader_release}
use Rattle.ws_steps.specs.Descriptors.{Descriptor, without_reader, has_part}
use Rattle.ws_steps.specs.Effects.{Out, type_error}
use Rattle.ws_steps.specs.ByteHistory.{first_filled, kept}
use Rattle.ws_steps.specs.declared.readable.ReadableState.{ReadableState}
use Rattle.ws_steps.specs.declared.readable.ReadableState.TheVariants.{Readable, Closed, Errored}
use Rattle.ws_steps.specs.declared.byte.RoomKind.{RoomKind}
use Rattle.ws_steps.specs.declared.byte.RoomKind.TheVariants.{ForDefault, ForByob, ForNobody}
use Rattle.ws_steps.specs.declared.byte.ReaderKind.{ReaderKind}
use Rattle.ws_value.specs.declared.ids.StreamId.{StreamId}
use Rattle.ws_value.specs.declared.ids.PromiseId.{PromiseId}
use Rattle.ws_value.specs.declared.value.Plain.{Plain}
use Rattle.ws_laws.proofs.Tables.{either}
use Rattle.ws_byte_laws.proofs.Given.{given, given_last, given_closes, given_errors}
use Rattle.ws_byte_laws.proofs.Fine.{Fine, Kept, fine_kept, pulled, Ends, none_more, of_stream, Shut, shut, closes, errs}
use Rattle.ws_byte_laws.proofs.Enqueue.{none_left, fit_empty}
use Rattle.ws_steps.specs.Readable as readable
use Rattle.ws_byte_laws.specs.Descriptors.{Fit, First, Good, requests_of, reads}

pub asked_to_close : (E : List ℕ) (a : Acts) → Fine E a → Fine E (with_slots (record a.slots { stream = record a.slots.stream { close_requested = true } }) a)
asked_to_close E a f = record { readable = f.readable; all = f.all; good = f.good }

closed_by_queue : (c : Bool) (me : StreamId) (E : List ℕ) (a : Acts) (queue : List (List ℕ)) → queue ≡ a.slots.queue → Fine E a → Kept c E (close_by me a queue)
closed_by_queue c me E a (b ∷ bs) e f = fine_kept c E _ (asked_to_close E a f)
closed_by_queue c me E a [] e f =
    either (Kept c E) (has_part a.slots.descriptors) (controller_error me type_error a) (stream_close me a) (λ t. errs c me type_error E a f) (λ t. closes c me E a (sym e) f)

pub close_kept : (c : Bool) (me : StreamId) (E : List ℕ) (a : Acts) → Fine E a → Kept c E (controller_close me a)
unfolding controller_close
close_kept c me E a f =
    either (Kept c E) (can_take a.slots) (close_by me a a.slots.queue) a (λ t. closed_by_queue c me E a a.slots.queue refl f) (λ t. fine_kept c E a f)

pull_ended_fine : (me : StreamId) (E : List ℕ) (a : Acts) (again : Bool) → Fine E a → Fine E (pull_ended me a again)
pull_ended_fine me E a false f = f
pull_ended_fine me E a true f = pulled me E _ (record { readable = f.readable; all = f.all; good = f.good })

pub pull_settled_kept : (c : Bool) (me : StreamId) (o : Result Plain Plain) (E : List ℕ) (a : Acts) → Fine E a → Kept c E (pull_settled me o a)
unfolding pull_settled
pull_settled_kept c me (Ok v) E a f = fine_kept c E _ (pull_ended_fine me E (with_slots (record a.slots { stream = record a.slots.stream { pulling = false } }) a) a.slots.stream.pull_again (record { readable = f.readable; all = f.all; good = f.good }))
pull_settled_kept c me (Err e) E a f = errs c me e E a f

pub start_settled_kept : (c : Bool) (me : StreamId) (o : Result Plain Plain) (E : List ℕ) (a : Acts) → Fine E a → Kept c E (start_settled me o a)
unfolding start_settled
start_settled_kept c me (Ok v) E a f = fine_kept c E _ (pulled me E (with_slots (record a.slots { stream = record a.slots.stream { started = true } }) a) (record { readable = f.readable; all = f.all; good = f.good }))
start_settled_kept c me (Err e) E a f = errs c me e E a f

-- a cancel

pub into_closed : (me : StreamId) (a : Acts) → Ends a.slots.stream.state (of_stream a) (of_stream (close_into me a))
into_closed me a =
    either (λ (z : Acts). Ends a.slots.stream.state (of_stream a) (of_stream z)) (has_byob_reader a.slots) _ a
    (λ c. record { state = refl; bytes = none_more a.out.effects (readable.close_all me a.slots.stream.requests) (given_closes me a.slots.stream.requests) })
    (λ c. record { state = refl; bytes = refl })

-- what a cancel has done before the cancel steps
pub cancel_closed : (me : StreamId) (a : Acts) → Ends Closed (of_stream a) (of_stream (close_into me (stream_close me a)))
cancel_closed me a =
    let b : Acts = stream_close me a in
    let e : Shut a b = shut me a in
    let f = into_closed me b in
    record { state = f.state ∙ e.state; bytes = f.bytes ∙ e.bytes }

cancel_state : (me : StreamId) (r : Plain) (p : PromiseId) (E : List ℕ) (a : Acts) (state : ReadableState) → state ≡ Readable → Fine E a → Kept true E (cancel_by me r p a state)
cancel_state me r p E a Readable e f =
    let h = cancel_closed me a in
    record {
      lost = kept a.slots;
      all = rw (given_last, append-nil, h.bytes) f.all;
      live = λ i. let k = h.state in absurd (cc);
      whole = λ i. absurd (cc);
      held = record { readable = λ i. let k = h.state in absurd (cc); closed = λ i. (refl, tt); errored = λ i. let k = h.state in absurd (cc) };
    }
cancel_state me r p E a Closed e f = absurd (cc)
cancel_state me r p E a Errored e f = absurd (cc)

pub cancel_kept : (me : StreamId) (r : Plain) (p : PromiseId) (E : List ℕ) (a : Acts) → Fine E a → Kept true E (stream_cancel me r p a)
unfolding stream_cancel readable.disturb
cancel_kept me r p E a f = cancel_state me r p E (in_stream readable.disturb a) a.slots.stream.state f.readable (record { readable = f.readable; all = f.all; good = f.good })

-- a reader comes

closed_settled : (p : PromiseId) (e : Plain) (out : Out) (state : ReadableState) → (readable.settle_closed p e out state).effects ≡ out.effects
closed_settled p e out Readable = refl
closed_settled p e out Closed = refl
closed_settled p e out Errored = refl

-- by this reader
abbrev pub initialized_by : ReaderKind → PromiseId → Acts → Acts
initialized_by kind p a = in_stream (readable.reader_generic_initialize p) (with_slots (record a.slots { reader_kind = kind }) a)

pub initialized : (kind : ReaderKind) (p : PromiseId) (a : Acts) → (initialized_by kind p a).out.effects ≡ a.out.effects
unfolding readable.reader_generic_initialize
initialized kind p a = closed_settled p a.slots.stream.stored_error a.out a.slots.stream.state

taken_first : (t r o : RoomKind) (x : List ℕ) (ds : List Descriptor) (q : List (List ℕ)) (n : ℕ) → o ≡ ForNobody → First t o x (length ds) q n → First t r x 0 q 0 × (ds ≡ [])
taken_first ForNobody r o x ds q n e f = ((f.0, omega arith, λ i m. absurd (m refl), λ i. refl), none_left ds n f.1 (f.3 e))
taken_first ForByob r o x ds q n e f = let i = f.0 in absurd (cc)
taken_first ForDefault r o x ds q n e f = let i = f.0 in absurd (cc)

-- where there was no reader
taken_good : (r o : RoomKind) (ds : List Descriptor) (q : List (List ℕ)) (n : ℕ) → o ≡ ForNobody → Good o ds q n → Good r ds q 0
taken_good r o [] q n e g = λ i. refl
taken_good r o (d ∷ ds) q n e g =
    let f : First d.room_kind r d.filled 0 q 0 × (ds ≡ []) = taken_first d.room_kind r o d.filled ds q n e g.2 in
    rw (f.1) (g.0, tt, f.0)

pub initialize_fine : (kind : ReaderKind) (p : PromiseId) (E : List ℕ) (a : Acts) → reads a.slots.stream.reader a.slots.reader_kind ≡ ForNobody → Fine E a → Fine E (initialized_by kind p a)
unfolding readable.reader_generic_initialize
initialize_fine kind p E a e f =
    record {
      readable = f.readable;
      all = rw (closed_settled p a.slots.stream.stored_error a.out a.slots.stream.state) f.all;
      good = taken_good (reads (Some p) kind) (reads a.slots.stream.reader a.slots.reader_kind) a.slots.descriptors a.slots.queue (requests_of a.slots) e f.good;
    }

-- a reader goes

closed_released : (p : PromiseId) (out : Out) (state : ReadableState) → (readable.release_closed p out state).effects ≡ out.effects
closed_released p out Readable = refl
closed_released p out Closed = refl
closed_released p out Errored = refl

-- what a release leaves
pub record Released (a z : readable.Acts) : Type 0 where
  pub state : z.slots.state ≡ a.slots.state
  pub reader : z.slots.reader ≡ None
  pub bytes : given z.out.effects ≡ given a.out.effects

released_by : (me : StreamId) (a : readable.Acts) (r : Option PromiseId) → r ≡ a.slots.reader → Released a (readable.release_by me a r)
released_by me a None e = record { state = refl; reader = sym e; bytes = refl }
released_by me a (Some p) e =
    let b : Out = readable.release_closed p a.out a.slots.state in
    record {
      state = refl;
      reader = refl;
      bytes = none_more b.effects (readable.error_all me type_error a.slots.requests) (given_errors me type_error a.slots.requests) ∙ ap given (closed_released p a.out a.slots.state);
    }

pub released : (me : StreamId) (a : readable.Acts) → Released a (readable.reader_release me a)
unfolding readable.reader_release
released me a = released_by me a a.slots.reader refl

requests_gone : (me : StreamId) (a : readable.Acts) (r : Option PromiseId) → (r ≡ None → length a.slots.requests ≡ 0) → length (readable.release_by me a r).slots.requests ≡ 0
requests_gone me a None h = h refl
requests_gone me a (Some p) h = refl

left_first : (t r : RoomKind) (d : Descriptor) (k : ℕ) (q : List (List ℕ)) (n : ℕ) → t ≡ d.room_kind → Fit d → First t r d.filled k q n → d.filled ≢ [] → q ≡ []
left_first ForNobody r d k q n e f g = g.0
left_first ForByob r d k q n e f g = λ m. g.1
left_first ForDefault r d k q n e f g = λ m. absurd (m (fit_empty d f (sym e)))

left_good : (r t : RoomKind) (ds : List Descriptor) (q : List (List ℕ)) (n m : ℕ) → m ≡ 0 → Good r ds q n → Good t (without_reader ds) q m
left_good r t [] q n m e g = λ i. e
left_good r t (d ∷ ds) q n m e g = (
  record { units = g.0.units; whole = g.0.whole; short = g.0.short; room = g.0.room; element = λ i. absurd (cc); minimum = λ i. absurd (cc) },
  tt,
  (left_first d.room_kind r d (length ds) q n refl g.0 g.2, omega arith, λ i k. absurd (k e), λ i. e),
)

none_first : (t r : RoomKind) (x : List ℕ) (k : ℕ) (q : List (List ℕ)) (n : ℕ) → r ≡ ForNobody → First t r x k q n → n ≡ 0
none_first ForNobody r x k q n e f = f.3 e
none_first ForByob r x k q n e f = let i = f.0 in absurd (cc)
none_first ForDefault r x k q n e f = let i = f.0 in absurd (cc)

pub none_asked : (r : RoomKind) (ds : List Descriptor) (q : List (List ℕ)) (n : ℕ) → r ≡ ForNobody → Good r ds q n → n ≡ 0
none_asked r [] q n e g = g e
none_asked r (d ∷ ds) q n e g = none_first d.room_kind r d.filled (length ds) q n e g.2

pub no_reader : (o : Option PromiseId) (κ : ReaderKind) → o ≡ None → reads o κ ≡ ForNobody
no_reader o κ e = rw e refl

pub first_left : (ds : List Descriptor) → first_filled (without_reader ds) ≡ first_filled ds
first_left [] = refl
first_left (d ∷ ds) = refl

pub release_fine : (me : StreamId) (E : List ℕ) (a : Acts) → Fine E a → Fine E (reader_release me a)
unfolding reader_release readable.reader_release
release_fine me E a f =
    let k = released_by me (of_stream a) a.slots.stream.reader refl in
    let r : RoomKind = reads a.slots.stream.reader a.slots.reader_kind in
    record {
      readable = k.state ∙ f.readable;
      all = rw (k.bytes, first_left a.slots.descriptors) f.all;
      good = left_good r _ a.slots.descriptors a.slots.queue (requests_of a.slots) _
          (requests_gone me (of_stream a) a.slots.stream.reader (λ e. none_asked r a.slots.descriptors a.slots.queue (requests_of a.slots) (no_reader a.slots.stream.reader a.slots.reader_kind e) f.good)) f.good;
    }
