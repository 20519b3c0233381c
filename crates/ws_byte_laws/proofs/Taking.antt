-- Bytes are read.
use Rattle.std.proofs.Common.{◌≡◌, ◌≢◌, ℕ, zero, suc, Bool, true, false, List, [], ◌∷◌, ◌++◌, length, refl, sym, ap, ◌∙◌, append_assoc, append-nil, arith, if◌then◌else◌, ◌&&◌}
use Rattle.ws_steps.specs.Bytes.{Acts, causing, in_stream, call_pull_if_needed, stream_close, clear_all, controller_error, handle_queue_drain, fill_read_request, wait, add_descriptor, auto_allocate, pull_from, pull_steps, read_by, default_reader_read, pull_waits, put_queue, pull_from_queue, is_closed, is_errored, pull_first, pull_into, byob_reader_read}
use Rattle.ws_steps.specs.Descriptors.{Descriptor, Filling, fill_from_queue}
use Rattle.ws_steps.specs.Queues.{is_empty}
use Rattle.ws_steps.specs.Effects.{type_error}
use Rattle.ws_steps.specs.ByteHistory.{joined, first_filled, kept}
use Rattle.ws_steps.specs.declared.readable.ReadableState.{ReadableState}
use Rattle.ws_steps.specs.declared.readable.ReadableState.TheVariants.{Readable, Closed, Errored}
use Rattle.ws_steps.specs.declared.byte.RoomKind.{RoomKind}
use Rattle.ws_steps.specs.declared.byte.RoomKind.TheVariants.{ForDefault, ForByob, ForNobody}
use Rattle.ws_steps.specs.declared.readable.ReadRequest.{ReadRequest}
use Rattle.ws_steps.specs.declared.effects.Effect.{Effect}
use Rattle.ws_steps.specs.declared.effects.Effect.TheVariants.{ChunkSteps, CloseStepsWith, ErrorSteps}
use Rattle.ws_value.specs.declared.ids.StreamId.{StreamId}
use Rattle.ws_value.specs.declared.value.Plain.{Plain}
use Rattle.ws_value.specs.declared.value.Value.TheVariants.{Bytes}
use Rattle.ws_laws.proofs.Tables.{either}
use Rattle.ws_byte_laws.proofs.Filling.{Filled, filled}
use Rattle.ws_byte_laws.proofs.Given.{given_by, given, given_last}
use Rattle.ws_byte_laws.proofs.Fine.{Fine, Kept, fine_kept, pulled, Ends, of_stream, shut, stream_errored, closes, readable_not}
use Rattle.ws_byte_laws.proofs.Ranged.{first_by}
use Rattle.ws_byte_laws.proofs.Enqueue.{fit_empty, pull_same}
use Rattle.ws_steps.specs.Readable as readable
use Rattle.ws_byte_laws.specs.Descriptors.{Fit, Later, AllLater, First, Good, requests_of, reads}

append_cancel : (xs ys zs : List ℕ) → xs ++ ys ≡ xs ++ zs → ys ≡ zs
append_cancel [] ys zs e = e
append_cancel (x ∷ xs) ys zs e = append_cancel xs ys zs (cc)

emptied : (q : List (List ℕ)) (c : Bool) → is_empty q && c ≡ true → q ≡ []
emptied [] c e = refl
emptied (b ∷ q) c e = cc

pub drain_kept : (c : Bool) (me : StreamId) (E : List ℕ) (a : Acts) → Fine E a → Kept c E (handle_queue_drain me a)
unfolding handle_queue_drain
drain_kept c me E a f =
    either (Kept c E) (is_empty a.slots.queue && a.slots.stream.close_requested) (stream_close me a) (call_pull_if_needed me a)
    (λ t. closes c me E a (emptied a.slots.queue a.slots.stream.close_requested t) f) (λ t. fine_kept c E _ (pulled me E a f))

drain_given : (me : StreamId) (a : Acts) → given (handle_queue_drain me a).out.effects ≡ given a.out.effects
unfolding handle_queue_drain
drain_given me a =
    either (λ (z : Acts). given z.out.effects ≡ given a.out.effects) (is_empty a.slots.queue && a.slots.stream.close_requested) (stream_close me a) (call_pull_if_needed me a)
    (λ t. (shut me a).bytes) (λ t. (pull_same me a).given)

-- bytes are given after an operation that gave none
then_given : (c : Bool) (g k : List ℕ) (e : Effect) (z : Acts) → Kept c (g ++ k) z → given z.out.effects ≡ g → Kept c ((g ++ given_by e) ++ k) (causing e z)
then_given c g k e z t i =
    let n : g ++ k ≡ g ++ (kept z.slots ++ t.lost) = rw i at t.all in
    let m : k ≡ kept z.slots ++ t.lost = append_cancel g k _ n in
    record { lost = t.lost; all = rw (given_last, i, ← m) refl; live = t.live; whole = t.whole; held = t.held }

-- an error loses what was kept
pub errored_kept : (c : Bool) (E lost : List ℕ) (z : Acts) → z.slots.stream.state ≡ Errored → z.slots.queue ≡ [] → z.slots.descriptors ≡ [] → E ≡ given z.out.effects ++ lost → Kept c E z
errored_kept c E lost z s q d e =
    record {
      lost = lost;
      all = rw (q, d) e;
      live = λ r. absurd (cc);
      whole = λ i r. absurd (cc);
      held = record { readable = λ r. absurd (cc); closed = λ r. absurd (cc); errored = λ r. (q, d) };
    }

-- the queue without its first entry

shorter_first : (t r : RoomKind) (x : List ℕ) (k : ℕ) (b : List ℕ) (q : List (List ℕ)) (n : ℕ) → First t r x k (b ∷ q) n → First t r x k q n
shorter_first ForNobody r x k b q n f = (λ m. let i = f.0 m in absurd (cc), f.1, λ e m. let i = f.2 e m in absurd (cc), f.3)
shorter_first ForByob r x k b q n f = let i = f.1 in absurd (cc)
shorter_first ForDefault r x k b q n f = (f.0, f.1, λ m. let i = f.2 m in absurd (cc))

shorter : (r : RoomKind) (ds : List Descriptor) (b : List ℕ) (q : List (List ℕ)) (n : ℕ) → Good r ds (b ∷ q) n → Good r ds q n
shorter r [] b q n g = g
shorter r (d ∷ ds) b q n g = (g.0, g.1, shorter_first d.room_kind r d.filled (length ds) b q n g.2)

none_filled : (x b : List ℕ) (q : List (List ℕ)) → (x ≢ [] → b ∷ q ≡ []) → x ≡ []
none_filled [] b q f = refl
none_filled (y ∷ x) b q f = let i = f (λ e. cc) in absurd (cc)

unfilled_by : (t r : RoomKind) (d : Descriptor) (k : ℕ) (b : List ℕ) (q : List (List ℕ)) (n : ℕ) → t ≡ d.room_kind → Fit d → First t r d.filled k (b ∷ q) n → d.filled ≡ []
unfilled_by ForNobody r d k b q n e f g = none_filled d.filled b q g.0
unfilled_by ForByob r d k b q n e f g = let i = g.1 in absurd (cc)
unfilled_by ForDefault r d k b q n e f g = fit_empty d f (sym e)

-- beside a queue no descriptor is filled
unfilled : (r : RoomKind) (ds : List Descriptor) (b : List ℕ) (q : List (List ℕ)) (n : ℕ) → Good r ds (b ∷ q) n → first_filled ds ≡ []
unfilled r [] b q n g = refl
unfilled r (d ∷ ds) b q n g = unfilled_by d.room_kind r d (length ds) b q n refl g.0 g.2

taken : (E g f b : List ℕ) (q : List (List ℕ)) → f ≡ [] → E ≡ g ++ (f ++ joined (b ∷ q)) → E ≡ (g ++ b) ++ (f ++ joined q)
taken E g f b q n e = rw (e, n, append_assoc) refl

from_queue : (c : Bool) (me : StreamId) (r : ReadRequest) (E b : List ℕ) (bs : List (List ℕ)) (a : Acts) → b ∷ bs ≡ a.slots.queue → Fine E a → Kept c E (fill_read_request me r a (b ∷ bs))
from_queue c me r E b bs a e f =
    let z : Acts = put_queue bs a in
    let k : List ℕ = first_filled a.slots.descriptors ++ joined bs in
    let g : Good (reads a.slots.stream.reader a.slots.reader_kind) a.slots.descriptors (b ∷ bs) (requests_of a.slots) = rw e f.good in
    let w : Fine (given a.out.effects ++ k) z = record { readable = f.readable; all = refl; good = shorter _ _ b bs _ g } in
    let all : E ≡ given a.out.effects ++ (first_filled a.slots.descriptors ++ joined (b ∷ bs)) = rw (← e) at f.all in
    let h : E ≡ (given a.out.effects ++ b) ++ k = taken E (given a.out.effects) (first_filled a.slots.descriptors) b bs (unfilled _ _ b bs _ g) all in
    rw h (then_given c (given a.out.effects) k (ChunkSteps me r (Bytes b)) (handle_queue_drain me z) (drain_kept c me (given a.out.effects ++ k) z w) (drain_given me z))

-- a request waits

one_more : (qs : List ReadRequest) (q : ReadRequest) → length (qs ++ q ∷ []) ≡ suc (length qs)
one_more [] q = refl
one_more (r ∷ qs) q = ap suc (one_more qs q)

waits_first : (t r : RoomKind) (x : List ℕ) (k : ℕ) (q : List (List ℕ)) (n : ℕ) → q ≡ [] → r ≢ ForNobody → First t r x k q n → First t r x k q (suc n)
waits_first ForNobody r x k q n e m f = (f.0, (let i = f.1 in omega arith), λ i j. e, λ i. absurd (m i))
waits_first ForByob r x k q n e m f = (f.0, f.1, (let i = f.2 in omega arith))
waits_first ForDefault r x k q n e m f = (f.0, (let i = f.1 in omega arith), λ i. e)

waits : (r : RoomKind) (ds : List Descriptor) (q : List (List ℕ)) (n : ℕ) → q ≡ [] → r ≢ ForNobody → Good r ds q n → Good r ds q (suc n)
waits r [] q n e m g = λ i. absurd (m i)
waits r (d ∷ ds) q n e m g = (g.0, g.1, waits_first d.room_kind r d.filled (length ds) q n e m g.2)

later_more : (r : RoomKind) (ds : List Descriptor) (d : Descriptor) → AllLater r ds → Later r d → AllLater r (ds ++ d ∷ [])
later_more r [] d l k = (k, tt)
later_more r (x ∷ ds) d l k = (l.0, later_more r ds d l.1 k)

one_longer : (ds : List Descriptor) (d : Descriptor) → length (ds ++ d ∷ []) ≡ suc (length ds)
one_longer [] d = refl
one_longer (x ∷ ds) d = ap suc (one_longer ds d)

more_first : (t r : RoomKind) (x : List ℕ) (k : ℕ) (q : List (List ℕ)) (n : ℕ) → (r ≡ ForDefault → q ≡ []) → r ≢ ForNobody → First t r x k q n → First t r x (suc k) q (suc n)
more_first ForNobody r x k q n e m f = (f.0, (let i = f.1 in omega arith), λ i j. e i, λ i. absurd (m i))
more_first ForByob r x k q n e m f = (f.0, f.1, (let i = f.2 in omega arith))
more_first ForDefault r x k q n e m f = (f.0, (let i = f.1 in omega arith), λ i. e f.0)

-- one more descriptor, for one more request
more : (r : RoomKind) (ds : List Descriptor) (d : Descriptor) (q : List (List ℕ)) (n : ℕ) → (ds ≡ [] → q ≡ []) → (r ≡ ForDefault → q ≡ []) → r ≢ ForNobody → Later r d → Good r ds q n → Good r (ds ++ d ∷ []) q (suc n)
more r [] d q n e f m l g = (l.fit, tt, first_by d.room_kind r d.filled 0 q (suc n) l.room_kind (e refl) (omega arith) (λ i. absurd (m i)))
more r (x ∷ ds) d q n e f m l g = (g.0, later_more r ds d g.1 l, rw (one_longer ds d) (more_first x.room_kind r x.filled (length ds) q n f m g.2))

first_added : (ds : List Descriptor) (d : Descriptor) → d.filled ≡ [] → first_filled (ds ++ d ∷ []) ≡ first_filled ds
first_added [] d e = e
first_added (x ∷ ds) d e = refl

waiting : (E : List ℕ) (q : ReadRequest) (a : Acts) → a.slots.queue ≡ [] → reads a.slots.stream.reader a.slots.reader_kind ≢ ForNobody → Fine E a → Fine E (wait q a)
waiting E q a e m f = record { readable = f.readable; all = f.all; good = rw (one_more a.slots.stream.requests q) (waits _ _ _ _ e m f.good) }

pub waiting_into : (E : List ℕ) (d : Descriptor) (q : ReadRequest) (a : Acts) → (a.slots.descriptors ≡ [] → a.slots.queue ≡ []) → (reads a.slots.stream.reader a.slots.reader_kind ≡ ForDefault → a.slots.queue ≡ []) → reads a.slots.stream.reader a.slots.reader_kind ≢ ForNobody
    → Later (reads a.slots.stream.reader a.slots.reader_kind) d → Fine E a → Fine E (wait q (add_descriptor d a))
waiting_into E d q a e g m l f =
    record { readable = f.readable; all = rw (first_added a.slots.descriptors d l.empty) f.all; good = rw (one_more a.slots.stream.requests q) (more _ _ d _ _ e g m l f.good) }

allocated : (E : List ℕ) (q : ReadRequest) (a : Acts) (n : ℕ) → a.slots.queue ≡ [] → reads a.slots.stream.reader a.slots.reader_kind ≡ ForDefault → Fine E a → Fine E (wait q (auto_allocate a n))
allocated E q a zero e r f = waiting E q a e (λ m. absurd (cc)) f
allocated E q a (suc n) e r f =
    waiting_into E (record { filled = []; room = suc n; minimum = 1; element = 1; room_kind = ForDefault }) q a (λ i. e) (λ i. e) (λ m. absurd (cc))
    (record { fit = record { units = 1; whole = refl; short = omega arith; room = omega arith; element = λ i. refl; minimum = λ i. refl }; empty = refl; room_kind = sym r }) f

read_by_queue : (c : Bool) (me : StreamId) (q : ReadRequest) (E : List ℕ) (a : Acts) (queue : List (List ℕ)) → queue ≡ a.slots.queue → reads a.slots.stream.reader a.slots.reader_kind ≡ ForDefault → Fine E a → Kept c E (pull_from me q a queue)
read_by_queue c me q E a [] e r f = fine_kept c E _ (pulled me E _ (allocated E q a a.slots.auto (sym e) r f))
read_by_queue c me q E a (b ∷ bs) e r f = from_queue c me q E b bs a e f

disturbed : (E : List ℕ) (a : Acts) → Fine E a → Fine E (in_stream readable.disturb a)
unfolding readable.disturb
disturbed E a f = record { readable = f.readable; all = f.all; good = f.good }

read_by_state : (c : Bool) (me : StreamId) (q : ReadRequest) (E : List ℕ) (a : Acts) (state : ReadableState) → state ≡ Readable → reads a.slots.stream.reader a.slots.reader_kind ≡ ForDefault → Fine E a → Kept c E (read_by me q (in_stream readable.disturb a) state)
unfolding pull_steps readable.disturb
read_by_state c me q E a Readable e r f = read_by_queue c me q E (in_stream readable.disturb a) a.slots.queue refl r (disturbed E a f)
read_by_state c me q E a Closed e r f = absurd (cc)
read_by_state c me q E a Errored e r f = absurd (cc)

pub read_kept : (c : Bool) (me : StreamId) (q : ReadRequest) (E : List ℕ) (a : Acts) → reads a.slots.stream.reader a.slots.reader_kind ≡ ForDefault → Fine E a → Kept c E (default_reader_read me q a)
unfolding default_reader_read readable.disturb
read_kept c me q E a r f = read_by_state c me q E a a.slots.stream.state f.readable r f

-- a read into a buffer

ready_all : (E g f : List ℕ) (d : Descriptor) (q : List (List ℕ)) (y : Filling) → f ≡ [] → d.filled ≡ [] → d.filled ++ joined q ≡ y.descriptor.filled ++ joined y.queue → E ≡ g ++ (f ++ joined q) → E ≡ (g ++ y.descriptor.filled) ++ (f ++ joined y.queue)
ready_all E g f d q y n m b e = let j : joined q ≡ y.descriptor.filled ++ joined y.queue = rw m at b in rw (e, n, j, append_assoc) refl

pub record IsErrored (a z : Acts) : Type 0 where
  pub state : z.slots.stream.state ≡ Errored
  pub queue : z.slots.queue ≡ []
  pub descriptors : z.slots.descriptors ≡ []
  pub bytes : given z.out.effects ≡ given a.out.effects

pub closed_not : (state : ReadableState) → state ≡ Readable → is_closed state ≡ true → ⊥
closed_not Readable e f = cc
closed_not Closed e f = cc
closed_not Errored e f = cc

errored_not : (state : ReadableState) → state ≡ Readable → is_errored state ≡ true → ⊥
errored_not Readable e f = cc
errored_not Closed e f = cc
errored_not Errored e f = cc

pub error_facts : (me : StreamId) (e : Plain) (a : Acts) → a.slots.stream.state ≡ Readable → IsErrored a (controller_error me e a)
unfolding controller_error
error_facts me e a s =
    let h : Ends Errored (of_stream a) (readable.stream_error me e (of_stream a)) = stream_errored me e (of_stream a) in
    either (IsErrored a) (readable.is_readable a.slots.stream.state) (in_stream (readable.stream_error me e) (clear_all a)) a
    (λ t. record { state = h.state; queue = refl; descriptors = refl; bytes = h.bytes }) (λ t. absurd (readable_not a.slots.stream.state s t))

-- a descriptor that the queue filled, but not enough, waits alone
alone_all : (E g f : List ℕ) (d : Descriptor) (q : List (List ℕ)) (y : Filling) → f ≡ [] → d.filled ≡ [] → d.filled ++ joined q ≡ y.descriptor.filled ++ joined y.queue → E ≡ g ++ (f ++ joined q) → E ≡ g ++ (y.descriptor.filled ++ joined y.queue)
alone_all E g f d q y n m b e = let j : joined q ≡ y.descriptor.filled ++ joined y.queue = rw m at b in rw (e, n, j) refl

waits_alone : (E : List ℕ) (r : ReadRequest) (d : Descriptor) (q : List (List ℕ)) (a : Acts) (y : Filling) → false ≡ y.ready → Filled d q y → q ≡ a.slots.queue → a.slots.descriptors ≡ [] → reads a.slots.stream.reader a.slots.reader_kind ≡ ForByob → Later ForByob d → Fine E a
    → Fine E (pull_waits y.descriptor r (put_queue y.queue a))
waits_alone E r d q a y i k e n t l f =
    let all : E ≡ given a.out.effects ++ (first_filled a.slots.descriptors ++ joined q) = rw e f.all in
    let g : Fit y.descriptor = k.fit l.fit (sym i) in
    let none : y.queue ≡ [] = k.empty l.fit (sym i) in
    rw n
    (record {
      readable = f.readable;
      all = alone_all E (given a.out.effects) (first_filled a.slots.descriptors) d q y (rw n refl) l.empty k.bytes all;
      good = (g, tt, first_by y.descriptor.room_kind (reads a.slots.stream.reader a.slots.reader_kind) y.descriptor.filled 0 y.queue _ (k.room_kind ∙ (l.room_kind ∙ sym t)) none (rw (one_more a.slots.stream.requests r) (omega arith)) (λ j. absurd (cc)));
    })

filled_by_queue : (c : Bool) (me : StreamId) (r : ReadRequest) (E : List ℕ) (d : Descriptor) (q : List (List ℕ)) (a : Acts) (y : Filling) (ready : Bool) → ready ≡ y.ready → Filled d q y → q ≡ a.slots.queue → a.slots.descriptors ≡ [] → reads a.slots.stream.reader a.slots.reader_kind ≡ ForByob → Later ForByob d → Fine E a
    → Kept c E (elim ready [
      | true ↦ causing (ChunkSteps me r (Bytes y.descriptor.filled)) (handle_queue_drain me (put_queue y.queue a))
      | false ↦
          if a.slots.stream.close_requested
          then causing (ErrorSteps me r type_error) (controller_error me type_error (put_queue y.queue a))
          else call_pull_if_needed me (pull_waits y.descriptor r (put_queue y.queue a))
    ])
filled_by_queue c me r E d q a y true i k e n t l f =
    let z : Acts = put_queue y.queue a in
    let k2 : List ℕ = first_filled a.slots.descriptors ++ joined y.queue in
    let g : Good (reads a.slots.stream.reader a.slots.reader_kind) [] a.slots.queue (requests_of a.slots) = rw n at f.good in
    let w : Fine (given a.out.effects ++ k2) z = record { readable = f.readable; all = refl; good = rw n g } in
    let all : E ≡ given a.out.effects ++ (first_filled a.slots.descriptors ++ joined q) = rw e f.all in
    let h : E ≡ (given a.out.effects ++ y.descriptor.filled) ++ k2 = ready_all E (given a.out.effects) (first_filled a.slots.descriptors) d q y (rw n refl) l.empty k.bytes all in
    rw h (then_given c (given a.out.effects) k2 (ChunkSteps me r (Bytes y.descriptor.filled)) (handle_queue_drain me z) (drain_kept c me (given a.out.effects ++ k2) z w) (drain_given me z))
filled_by_queue c me r E d q a y false i k e n t l f =
    either (Kept c E) a.slots.stream.close_requested _ _
    (λ asked.
    let z : Acts = controller_error me type_error (put_queue y.queue a) in
    let x : IsErrored (put_queue y.queue a) z = error_facts me type_error (put_queue y.queue a) f.readable in
    errored_kept c E (kept a.slots) (causing (ErrorSteps me r type_error) z) x.state x.queue x.descriptors (rw (given_last, append-nil, x.bytes) f.all))
    (λ asked_not. fine_kept c E _ (pulled me E (pull_waits y.descriptor r (put_queue y.queue a)) (waits_alone E r d q a y i k e n t l f)))

by_queue : (c : Bool) (me : StreamId) (d : Descriptor) (q : ReadRequest) (E : List ℕ) (a : Acts) (queue : List (List ℕ)) → queue ≡ a.slots.queue → a.slots.descriptors ≡ [] → reads a.slots.stream.reader a.slots.reader_kind ≡ ForByob → Later ForByob d → Fine E a → Kept c E (pull_from_queue me d q a queue)
by_queue c me d q E a [] e n t l f = fine_kept c E _ (pulled me E _ (waiting_into E d q a (λ i. sym e) (λ i. sym e) (λ m. absurd (cc)) (rw t l) f))
by_queue c me d q E a (b ∷ bs) e n t l f =
    let y : Filling = fill_from_queue d (b ∷ bs) in
    filled_by_queue c me q E d (b ∷ bs) a y y.ready refl (filled d (b ∷ bs)) e n t l f

by_descriptors : (c : Bool) (me : StreamId) (d : Descriptor) (q : ReadRequest) (E : List ℕ) (a : Acts) (ds : List Descriptor) → ds ≡ a.slots.descriptors → reads a.slots.stream.reader a.slots.reader_kind ≡ ForByob → Later ForByob d → Fine E a → Kept c E (pull_first me d q a ds)
by_descriptors c me d q E a [] e t l f =
    either (Kept c E) (is_closed a.slots.stream.state) (causing (CloseStepsWith me q []) a) (pull_from_queue me d q a a.slots.queue)
    (λ i. absurd (closed_not a.slots.stream.state f.readable i)) (λ i. by_queue c me d q E a a.slots.queue refl (sym e) t l f)
by_descriptors c me d q E a (x ∷ xs) e t l f = fine_kept c E _ (waiting_into E d q a (λ i. absurd (cc)) (λ i. absurd (cc)) (λ m. absurd (cc)) (rw t l) f)

pub pulled_into : (c : Bool) (me : StreamId) (d : Descriptor) (q : ReadRequest) (E : List ℕ) (a : Acts) → reads a.slots.stream.reader a.slots.reader_kind ≡ ForByob → Later ForByob d → Fine E a → Kept c E (byob_reader_read me d q a)
unfolding byob_reader_read pull_into readable.disturb
pulled_into c me d q E a t l f =
    either (Kept c E) (is_errored a.slots.stream.state) (causing (ErrorSteps me q a.slots.stream.stored_error) (in_stream readable.disturb a)) (pull_first me d q (in_stream readable.disturb a) a.slots.descriptors)
    (λ i. absurd (errored_not a.slots.stream.state f.readable i)) (λ i. by_descriptors c me d q E (in_stream readable.disturb a) a.slots.descriptors refl t l (disturbed E a f))
