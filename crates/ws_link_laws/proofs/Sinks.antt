-- What each operation of a destination leaves of what lies in it.
use Rattle.std.proofs.Common.{◌≡◌, ◌≢◌, ℕ, true, false, not, ◌&&◌, ◌||◌, if◌then◌else◌, is_none, is_some, List, [], ◌∷◌, ◌++◌, Option, Some, None, Result, Ok, Err, refl, sym, ap, subst, ◌∙◌, append-nil, arith}
use Rattle.ws_value.specs.declared.ids.PromiseId.{PromiseId}
use Rattle.ws_value.specs.declared.ids.StreamId.{StreamId}
use Rattle.ws_value.specs.declared.value.Plain.{Plain}
use Rattle.ws_value.specs.declared.value.Plain.TheVariants.{Undefined}
use Rattle.ws_value.specs.declared.value.Value.{Value}
use Rattle.ws_steps.specs.declared.effects.Owner.{Owner}
use Rattle.ws_steps.specs.declared.effects.Owner.TheVariants.{Host, HalfOf, BranchOf, EndOf}
use Rattle.ws_steps.specs.declared.queue.Queued.{Queued}
use Rattle.ws_steps.specs.declared.transform.Taker.{Taker}
use Rattle.ws_steps.specs.declared.transform.Taker.TheVariants.{ToHost, ToTransform, ToPort}
use Rattle.ws_steps.specs.declared.writable.WritableOperation.{WritableOperation}
use Rattle.ws_steps.specs.declared.writable.WritableOperation.TheVariants.{SetUpWriter, ReleaseWriter, Write, Close, ClosePropagating, Abort, AbortIfWritable, ErrorIfNeeded, HandOn, StartSettled, WriteSettled, CloseSettled, AbortSettled}
use Rattle.ws_steps.specs.declared.writable.WritableState.{WritableState}
use Rattle.ws_steps.specs.declared.writable.WritableState.TheVariants.{Writable, Erroring, Errored, Closed}
use Rattle.ws_steps.specs.declared.writable.WriteRecord.{WriteRecord}
use Rattle.ws_steps.specs.declared.writable.WriteRecord.TheVariants.{Chunk, CloseMark}
use Rattle.ws_steps.specs.declared.writable.Writer.{Writer}
use Rattle.ws_steps.specs.Effects.{type_error}
use Rattle.ws_steps.specs.Operations.{writable_operation}
use Rattle.ws_steps.specs.Promises.{Table, settle}
use Rattle.ws_steps.specs.Queues.{rest_of, enqueued, size_of, first_value}
use Rattle.ws_steps.specs.Writable.{Slots, Acts, taken_by, with_promises, is_writable, is_erroring, is_errored, is_closed, has_ended, is_closing, is_in_flight, update_backpressure, refresh_backpressure, reject_close_and_closed, finish_erroring, reject_ready, start_erroring, deal_with_rejection, controller_error_if_needed, process_write, process_close, process_first, advance_queue, hand_on, write_ended, without_first, write_settled, close_ended, abort_ended, clear_error, fulfil_closed, finish_in_flight_close, finish_in_flight_close_with_error, close_settled, start_settled, abort_settled, controller_write, add_write_request, write_refusal, write_by, writer_write, controller_close, add_close_request, fulfil_ready, stream_close, close_with_error_propagation, add_pending_abort, begin_abort, signalled, stream_abort, abort_if_writable, set_up_writer, writer_release}
use Rattle.ws_flow.specs.Told.{Open, Closed as Ended, Told, told, then_told, IsFront, IsShortOf}
use Rattle.ws_flow.proofs.Told.{then_empty, short_refl, short_trans}
use Rattle.ws_laws.proofs.Tables.{either}
use Rattle.ws_laws.proofs.Truth.{and_left}
use Rattle.ws_writable_laws.proofs.Shape.{leads, is_flying}
use Rattle.ws_link_laws.specs.Link.{Ear, OfSink, OfTransform, OfPort, silence, before_todo, todo_of, in_sink}
use Rattle.ws_link_laws.specs.Sound.{Plainly, Shaped, SinkAlive, FitsIn, SinkFits}
use Rattle.ws_link_laws.specs.Sound as sound
use Rattle.ws_link_laws.proofs.Late.{Fits}
use Rattle.ws_link_laws.proofs.Telling.{tells, tells-append, hands, written}

-- an operation begins
abbrev pub starting : Slots → Table → Acts
starting x t = record { slots = x; out = record { promises = t; effects = [] } }

abbrev pub with_slots : Slots → Acts → Acts
with_slots x a = record a { slots = x }

-- a chunk is in flight, or no queue is left
abbrev pub InFlightOr : WritableState → Slots → Type 0
InFlightOr Writable x = leads x.queue ≡ true
InFlightOr Erroring x = leads x.queue ≡ true
InFlightOr Closed x = Unit {0}
InFlightOr Errored x = Unit {0}

-- appending

todo-append : (qs : List (Queued WriteRecord)) (r : WriteRecord) (n : ℕ) → sound.is_closed (todo_of qs).mark ≡ false → todo_of (qs ++ record { value = r; size = n } ∷ []) ≡ then_told (todo_of qs) (before_todo r silence)
todo-append [] r n e = grind arith
todo-append (q ∷ qs) r n e = grind (arith, todo-append qs r n)

plainly-append : (qs : List (Queued WriteRecord)) (r : WriteRecord) (n : ℕ) → sound.is_closed (todo_of qs).mark ≡ false → is_flying r ≡ false → Plainly qs → Plainly (qs ++ record { value = r; size = n } ∷ [])
plainly-append [] r n e f p = grind arith
plainly-append (q ∷ qs) r n e f p = grind (arith, plainly-append qs r n)

shaped-append : (qs : List (Queued WriteRecord)) (r : WriteRecord) (n : ℕ) → sound.is_closed (todo_of qs).mark ≡ false → is_flying r ≡ false → Shaped qs → Shaped (qs ++ record { value = r; size = n } ∷ [])
shaped-append [] r n e f p = grind arith
shaped-append (q ∷ qs) r n e f p = grind (arith, plainly-append qs r n)

writable_is : (w : WritableState) → is_writable w ≡ true → w ≡ Writable
writable_is w e = grind arith

front_nil : {A : Type 0} (ys : List A) → IsFront [] ys
front_nil ys = (ys, refl)

pub front_same : {A : Type 0} (xs : List A) → IsFront xs xs
front_same xs = ([], sym (append-nil xs))

pub short_as_it_is : (x y : Told Value) → IsShortOf x y → IsShortOf (then_told silence x) y
short_as_it_is x y h = h

pub shut : (x y z : Told Value) → x.mark ≢ Open → IsShortOf y x → IsShortOf y (then_told x z)
shut x y z n h = grind arith

-- a chunk that is handed on to whose the destination is, is about to be told
taken_told : (ear : Ear) (me : StreamId) (taker : Taker) (v : Value) → Fits ear me taker → hands ear (taken_by me v taker) ≡ told (v ∷ []) Open
taken_told (OfSink j) me ToHost v g = rw g refl
taken_told (OfSink j) me (ToTransform t d) v g = absurd g
taken_told (OfSink j) me (ToPort c d) v g = absurd g
taken_told (OfTransform t r) me ToHost v g = absurd g
taken_told (OfTransform t r) me (ToTransform u d) v g = rw g refl
taken_told (OfTransform t r) me (ToPort c d) v g = absurd g
taken_told (OfPort c) me ToHost v g = absurd g
taken_told (OfPort c) me (ToTransform u d) v g = absurd g
taken_told (OfPort c) me (ToPort e d) v g = rw g refl

module _ (ear : Ear) where
  -- what an operation needs that settles something or hands a chunk on
  abbrev pub Needs : StreamId → WritableOperation → Slots → Type 0
  Needs me (WriteSettled (Ok v)) x = InFlightOr x.state x
  Needs me (WriteSettled (Err e)) x = x.close_in_flight ≡ None
  Needs me (CloseSettled outcome) x = is_some x.close_in_flight ≡ true
  Needs me (StartSettled outcome) x = x.started ≡ false
  Needs me (AbortSettled p outcome) x = has_ended x.state ≡ true
  Needs me (Close p) x = ⊥
  Needs me (HandOn taker) x = Fits ear me taker
  Needs me _ x = Unit {0}

  pub record SinkKept (op : WritableOperation) (x : Slots) (o : Acts) : Type 0 where
    pub fits : SinkFits o.slots
    pub short : IsShortOf (then_told (tells (hands ear) o.out.effects) (in_sink o.slots)) (then_told (in_sink x) (written op))

  abbrev pub SinkKeeps : StreamId → WritableOperation → Slots → Table → Type 0
  SinkKeeps me op x t = SinkFits x → Needs me op x → SinkKept op x (writable_operation me op (starting x t))

  -- the same but for its state, its promises and its backpressure
  record Alike (x y : Slots) : Type 0 where
    queue : y.queue ≡ x.queue
    flight : y.close_in_flight ≡ x.close_in_flight
    request : y.close_request ≡ x.close_request
    started : y.started ≡ x.started

  errored_kept : (op : WritableOperation) (x : Slots) (o : Acts) → o.slots.state ≡ Errored → o.slots.close_in_flight ≡ None → o.slots.queue ≡ [] → tells (hands ear) o.out.effects ≡ silence → SinkKept op x o
  errored_kept op x o e c q h = record { fits = rw e (c, q); short = rw (h, e) (front_nil (then_told (in_sink x) (written op)).items) }

  erroring_kept : (op : WritableOperation) (x : Slots) (o : Acts) → SinkFits x → x.state ≡ Writable → Alike x o.slots → o.slots.state ≡ Erroring → tells (hands ear) o.out.effects ≡ silence → written op ≡ silence → SinkKept op x o
  erroring_kept op x o f w l e h n = grind (arith, append-nil, front_same, front_nil)

  same_kept : (op : WritableOperation) (x : Slots) (o : Acts) → SinkFits x → Alike x o.slots → o.slots.state ≡ x.state → tells (hands ear) o.out.effects ≡ silence → written op ≡ silence → SinkKept op x o
  same_kept op x o f l e h n = grind (arith, append-nil, short_refl)

  -- erroring

  finished_state : (me : StreamId) (a : Acts) → (finish_erroring me a).slots.state ≡ Errored
  unfolding finish_erroring reject_close_and_closed
  finished_state me a = grind arith

  finished_close : (me : StreamId) (a : Acts) → (finish_erroring me a).slots.close_in_flight ≡ a.slots.close_in_flight
  unfolding finish_erroring reject_close_and_closed
  finished_close me a = grind arith

  finished_queue : (me : StreamId) (a : Acts) → (finish_erroring me a).slots.queue ≡ []
  unfolding finish_erroring reject_close_and_closed
  finished_queue me a = grind arith

  finished_hands : (me : StreamId) (a : Acts) → tells (hands ear) a.out.effects ≡ silence → tells (hands ear) (finish_erroring me a).out.effects ≡ silence
  unfolding finish_erroring reject_close_and_closed
  finished_hands me a e = grind (arith, tells-append)

  finishing : (me : StreamId) (op : WritableOperation) (x : Slots) (a : Acts) → a.slots.close_in_flight ≡ None → tells (hands ear) a.out.effects ≡ silence → SinkKept op x (finish_erroring me a)
  finishing me op x a c h = errored_kept op x (finish_erroring me a) (finished_state me a) (finished_close me a ∙ c) (finished_queue me a) (finished_hands me a h)

  ready_rejected : (r : Plain) (a : Acts) (w : Option Writer) → Alike a.slots (reject_ready r a w).slots × (((reject_ready r a w).slots.state ≡ a.slots.state) × ((reject_ready r a w).out.effects ≡ a.out.effects))
  ready_rejected r a None = (record { queue = refl; flight = refl; request = refl; started = refl }, (refl, refl))
  ready_rejected r a (Some w) = (record { queue = refl; flight = refl; request = refl; started = refl }, (refl, refl))

  no_flight : (x : Slots) → not (is_in_flight x) ≡ true → x.close_in_flight ≡ None
  no_flight x e = grind arith

  starting_error : (me : StreamId) (r : Plain) (op : WritableOperation) (x : Slots) (a : Acts) → SinkFits x → x.state ≡ Writable → Alike x a.slots → tells (hands ear) a.out.effects ≡ silence → written op ≡ silence → SinkKept op x (start_erroring me r a)
  unfolding start_erroring
  starting_error me r op x a f w l h n =
      let d : Acts = with_slots (record a.slots { state = Erroring; stored_error = r }) a in
      let b : Acts = reject_ready r d a.slots.writer in
      let c = ready_rejected r d a.slots.writer in
      either (SinkKept op x) (not (is_in_flight b.slots) && b.slots.started) (finish_erroring me b) b
      (λ e. finishing me op x b (no_flight b.slots (and_left (not (is_in_flight b.slots)) b.slots.started e)) (ap (tells (hands ear)) c.1.1 ∙ h))
      (λ e. erroring_kept op x b f w (grind arith) c.1.0 (ap (tells (hands ear)) c.1.1 ∙ h) n)

  set_up_keeps : (me : StreamId) (w : Writer) (x : Slots) (t : Table) → SinkKeeps me (SetUpWriter w) x t
  unfolding set_up_writer
  set_up_keeps me w x t f g = same_kept (SetUpWriter w) x (set_up_writer w (starting x t)) f (record { queue = refl; flight = refl; request = refl; started = refl }) refl refl refl

  release_keeps : (me : StreamId) (x : Slots) (t : Table) → SinkKeeps me ReleaseWriter x t
  unfolding writer_release
  release_keeps me x t f g = grind (arith, append-nil, short_refl)

  error_keeps : (me : StreamId) (e : Plain) (x : Slots) (t : Table) → SinkKeeps me (ErrorIfNeeded e) x t
  unfolding controller_error_if_needed
  error_keeps me e x t f g =
      either (SinkKept (ErrorIfNeeded e) x) (is_writable x.state) (start_erroring me e (starting x t)) (starting x t)
      (λ w. starting_error me e (ErrorIfNeeded e) x (starting x t) f (writable_is x.state w) (record { queue = refl; flight = refl; request = refl; started = refl }) refl refl)
      (λ w. same_kept (ErrorIfNeeded e) x (starting x t) f (record { queue = refl; flight = refl; request = refl; started = refl }) refl refl refl)

  -- the queue goes on

  record KeptFrom (y : Slots) (o : Acts) : Type 0 where
    fits : SinkFits o.slots
    quiet : tells (hands ear) o.out.effects ≡ silence
    short : IsShortOf (in_sink o.slots) (in_sink y)

  errored_from : (y : Slots) (o : Acts) → o.slots.state ≡ Errored → o.slots.close_in_flight ≡ None → o.slots.queue ≡ [] → tells (hands ear) o.out.effects ≡ silence → KeptFrom y o
  errored_from y o e c q h = record { fits = rw e (c, q); quiet = h; short = rw e (front_nil (in_sink y).items) }

  processed : (me : StreamId) (a : Acts) → SinkFits a.slots → tells (hands ear) a.out.effects ≡ silence → a.slots.started ≡ true → is_erroring a.slots.state ≡ false → KeptFrom a.slots (process_first me a (first_value a.slots.queue))
  unfolding process_write process_close
  processed me a f h s n = grind (arith, short_refl, tells-append)

  advanced : (me : StreamId) (a : Acts) → SinkFits a.slots → (is_erroring a.slots.state ≡ true → a.slots.close_in_flight ≡ None) → tells (hands ear) a.out.effects ≡ silence → KeptFrom a.slots (advance_queue me a)
  unfolding advance_queue
  advanced me a f c h =
      either (KeptFrom a.slots) (a.slots.started && is_none a.slots.write_in_flight) (if is_erroring a.slots.state then finish_erroring me a else process_first me a (first_value a.slots.queue)) a
      (λ e. either (KeptFrom a.slots) (is_erroring a.slots.state) (finish_erroring me a) (process_first me a (first_value a.slots.queue))
      (λ r. errored_from a.slots (finish_erroring me a) (finished_state me a) (finished_close me a ∙ c r) (finished_queue me a) (finished_hands me a h))
      (λ r. processed me a f h (and_left a.slots.started (is_none a.slots.write_in_flight) e) r))
      (λ e. record { fits = f; quiet = h; short = short_refl (in_sink a.slots) })

  -- what is written goes on from there
  then_advanced : (me : StreamId) (op : WritableOperation) (x : Slots) (a : Acts) → SinkFits a.slots → (is_erroring a.slots.state ≡ true → a.slots.close_in_flight ≡ None) → tells (hands ear) a.out.effects ≡ silence
      → IsShortOf (in_sink a.slots) (then_told (in_sink x) (written op)) → SinkKept op x (advance_queue me a)
  then_advanced me op x a f c h k =
      let d = advanced me a f c h in
      record {
        fits = d.fits;
        short = rw d.quiet (short_as_it_is (in_sink (advance_queue me a).slots) _ (short_trans (in_sink (advance_queue me a).slots) (in_sink a.slots) (then_told (in_sink x) (written op)) d.short k));
      }

  refreshed : (a : Acts) → Alike a.slots (refresh_backpressure a).slots × (((refresh_backpressure a).slots.state ≡ a.slots.state) × ((refresh_backpressure a).out.effects ≡ a.out.effects))
  unfolding refresh_backpressure update_backpressure
  refreshed a = grind arith

  alike_fits : (x y : Slots) → Alike x y → y.state ≡ x.state → SinkFits x → SinkFits y × (in_sink y ≡ in_sink x)
  alike_fits x y l e f = grind arith

  taken_free : (x : Slots) → write_refusal x ≡ None → (x.state ≡ Writable) × ((x.close_request ≡ None) × (x.close_in_flight ≡ None))
  taken_free x e = grind arith

  refused_shut : (x : Slots) (e : Plain) → SinkFits x → write_refusal x ≡ Some e → (in_sink x).mark ≢ Open
  refused_shut x e f r = grind arith

  enqueued_fits : (x : Slots) (v : Value) (n : ℕ) → SinkFits x → x.state ≡ Writable → x.close_request ≡ None → x.close_in_flight ≡ None → SinkFits (record x { queue = enqueued (Chunk v) n x.queue })
  enqueued_fits x v n f w r c = grind (arith, todo-append, shaped-append)

  enqueued_lies : (x : Slots) (v : Value) (n : ℕ) → SinkFits x → x.state ≡ Writable → x.close_request ≡ None → x.close_in_flight ≡ None → in_sink (record x { queue = enqueued (Chunk v) n x.queue }) ≡ then_told (in_sink x) (told (v ∷ []) Open)
  enqueued_lies x v n f w r c = grind (arith, todo-append)

  -- refreshed, and then advanced
  refreshed_kept : (me : StreamId) (op : WritableOperation) (x : Slots) (a : Acts) → SinkFits a.slots → a.slots.close_in_flight ≡ None → tells (hands ear) a.out.effects ≡ silence → IsShortOf (in_sink a.slots) (then_told (in_sink x) (written op))
      → SinkKept op x (advance_queue me (refresh_backpressure a))
  refreshed_kept me op x a f c h k =
      let b : Acts = refresh_backpressure a in
      let r = refreshed a in
      let g = alike_fits a.slots b.slots r.0 r.1.0 f in
      then_advanced me op x b g.0 (λ e. r.0.flight ∙ c) (ap (tells (hands ear)) r.1.1 ∙ h) (rw g.1 k)

  write_taken : (me : StreamId) (p : PromiseId) (v : Value) (x : Slots) (t : Table) → SinkFits x → write_refusal x ≡ None → SinkKept (Write v p) x (controller_write me v (add_write_request p (starting x t)))
  unfolding controller_write
  write_taken me p v x t f e =
      let c = taken_free x e in
      let y : Slots = record x { write_requests = x.write_requests ++ p ∷ [] } in
      let n : ℕ = size_of x.size_by v in
      refreshed_kept me (Write v p) x (starting (record y { queue = enqueued (Chunk v) n x.queue }) t)
      (enqueued_fits y v n (alike_fits x y (record { queue = refl; flight = refl; request = refl; started = refl }) refl f).0 c.0 c.1.0 c.1.1) c.1.1 refl
      (rw (enqueued_lies x v n f c.0 c.1.0 c.1.1) (short_refl (then_told (in_sink x) (told (v ∷ []) Open))))

  -- what is refused, by a stream that takes nothing
  refused_kept : (op : WritableOperation) (x : Slots) (o : Acts) → SinkFits x → o.slots ≡ x → o.out.effects ≡ [] → (in_sink x).mark ≢ Open → SinkKept op x o
  refused_kept op x o f e g n =
      record { fits = subst SinkFits (sym e) f; short = rw (g, e) (short_as_it_is (in_sink x) _ (shut (in_sink x) (in_sink x) (written op) n (short_refl (in_sink x)))) }

  write_keeps : (me : StreamId) (p : PromiseId) (v : Value) (x : Slots) (t : Table) → SinkKeeps me (Write v p) x t
  unfolding writer_write
  write_keeps me p v x t f g = by_refusal (write_refusal x) refl
    where
      by_refusal : (r : Option Plain) → r ≡ write_refusal x → SinkKept (Write v p) x (write_by me v p (starting x t) r)
      by_refusal None e = write_taken me p v x t f (sym e)
      by_refusal (Some e) r = refused_kept (Write v p) x (with_promises (settle p (Err e) t) (starting x t)) f refl refl (refused_shut x e f (sym r))

  alive_by : (w : WritableState) (x : Slots) → FitsIn w x → has_ended w ≡ false → SinkAlive x
  alive_by Writable x a e = a
  alive_by Erroring x a e = a
  alive_by Closed x a e = absurd (cc)
  alive_by Errored x a e = absurd (cc)

  fits_by : (w : WritableState) (x : Slots) → has_ended w ≡ false → SinkAlive x → FitsIn w x
  fits_by Writable x e a = a
  fits_by Erroring x e a = a
  fits_by Closed x e a = absurd (cc)
  fits_by Errored x e a = absurd (cc)

  mark-append : (qs : List (Queued WriteRecord)) → sound.is_closed (todo_of (qs ++ record { value = CloseMark; size = 0 } ∷ [])).mark ≡ true
  mark-append [] = refl
  mark-append (q ∷ qs) = grind (arith, mark-append qs)

  free_of_marks : (x : Slots) → SinkAlive x → x.close_request ≡ None → x.close_in_flight ≡ None → sound.is_closed (todo_of x.queue).mark ≡ false
  free_of_marks x f r c = grind arith

  marked_alive : (x : Slots) (p : PromiseId) → SinkAlive x → x.close_request ≡ None → x.close_in_flight ≡ None → SinkAlive (record x { close_request = Some p; queue = enqueued CloseMark 0 x.queue })
  marked_alive x p f r c = record {
    shaped = shaped-append x.queue CloseMark 0 (free_of_marks x f r c) refl f.shaped;
    closing = rw c (sym (mark-append x.queue));
    started = λ e. c;
  }

  marked_fits : (x : Slots) (p : PromiseId) → SinkFits x → has_ended x.state ≡ false → x.close_request ≡ None → x.close_in_flight ≡ None → SinkFits (record x { close_request = Some p; queue = enqueued CloseMark 0 x.queue })
  marked_fits x p f w r c =
      let y : Slots = record x { close_request = Some p; queue = enqueued CloseMark 0 x.queue } in
      fits_by x.state y w (marked_alive x p (alive_by x.state x f w) r c)

  marked_lies : (x : Slots) (p : PromiseId) → SinkFits x → has_ended x.state ≡ false → x.close_request ≡ None → x.close_in_flight ≡ None
      → IsShortOf (in_sink (record x { close_request = Some p; queue = enqueued CloseMark 0 x.queue })) (then_told (in_sink x) (told [] Ended))
  marked_lies x p f w r c = grind (arith, todo-append, append-nil, front_same)

  not_closing : (x : Slots) → is_closing x ≡ false → (x.close_request ≡ None) × (x.close_in_flight ≡ None)
  not_closing x c = grind arith

  fulfilled_ready : (a : Acts) (w : Option Writer) → ((fulfil_ready a w).slots ≡ a.slots) × ((fulfil_ready a w).out.effects ≡ a.out.effects)
  fulfilled_ready a w = grind arith

  close_taken : (me : StreamId) (p : PromiseId) (op : WritableOperation) (x : Slots) (a : Acts) → SinkFits x → has_ended x.state ≡ false → is_closing x ≡ false → written op ≡ told [] Ended → a.slots ≡ record x { close_request = Some p } → a.out.effects ≡ []
      → SinkKept op x (controller_close me a)
  unfolding controller_close
  close_taken me p op x a f w c n q e =
      let b : Acts = with_slots (record a.slots { queue = enqueued CloseMark 0 a.slots.queue }) a in
      let y : Slots = record x { close_request = Some p; queue = enqueued CloseMark 0 x.queue } in
      let g : b.slots ≡ y = ap (λ (z : Slots). record z { queue = enqueued CloseMark 0 z.queue }) q in
      let free : (x.close_request ≡ None) × (x.close_in_flight ≡ None) = not_closing x c in
      then_advanced me op x b (subst SinkFits (sym g) (marked_fits x p f w free.0 free.1)) (λ r. ap (λ (z : Slots). z.close_in_flight) g ∙ free.1) (ap (tells (hands ear)) e)
      (subst (λ (z : Slots). IsShortOf (in_sink z) (then_told (in_sink x) (written op))) (sym g) (rw n (marked_lies x p f w free.0 free.1)))

  closing_shut : (x : Slots) → SinkFits x → is_closing x || is_closed x.state ≡ true → (in_sink x).mark ≢ Open
  closing_shut x f c = grind arith

  propagating_keeps : (me : StreamId) (p : PromiseId) (x : Slots) (t : Table) → SinkKeeps me (ClosePropagating p) x t
  unfolding close_with_error_propagation stream_close
  propagating_keeps me p x t f g =
      let a : Acts = starting x t in
      either (SinkKept (ClosePropagating p) x) (is_closing x || is_closed x.state) (with_promises (settle p (Ok Undefined) t) a) (if is_errored x.state then with_promises (settle p (Err x.stored_error) t) a else stream_close me p a)
      (λ e. refused_kept (ClosePropagating p) x (with_promises (settle p (Ok Undefined) t) a) f refl refl (closing_shut x f e))
      (λ n. either (SinkKept (ClosePropagating p) x) (is_errored x.state) (with_promises (settle p (Err x.stored_error) t) a) (stream_close me p a)
      (λ e. refused_kept (ClosePropagating p) x (with_promises (settle p (Err x.stored_error) t) a) f refl refl (grind arith))
      (λ m. either (SinkKept (ClosePropagating p) x) (has_ended x.state || is_closing x) (with_promises (settle p (Err type_error) t) a) (controller_close me (fulfil_ready (add_close_request p a) x.writer))
      (λ e. refused_kept (ClosePropagating p) x (with_promises (settle p (Err type_error) t) a) f refl refl (grind arith))
      (λ e. let r = fulfilled_ready (add_close_request p a) x.writer in
      close_taken me p (ClosePropagating p) x (fulfil_ready (add_close_request p a) x.writer) f (grind arith) (grind arith) refl r.0 r.1)))

  hand_on_keeps : (me : StreamId) (taker : Taker) (x : Slots) (t : Table) → SinkKeeps me (HandOn taker) x t
  unfolding hand_on
  hand_on_keeps me taker x t f g = let s = (λ (v : Value). taken_told ear me taker v g) in grind (arith, short_refl, append-nil, s)

  begin_abort_keeps : (me : StreamId) (r : Plain) (p : PromiseId) (op : WritableOperation) (x : Slots) (t : Table) → SinkFits x → has_ended x.state ≡ false → written op ≡ silence → SinkKept op x (begin_abort me r p (starting x t))
  begin_abort_keeps me r p op x t f g n =
      either (SinkKept op x) (is_erroring x.state) (add_pending_abort r p (starting x t)) (start_erroring me r (add_pending_abort r p (starting x t)))
      (λ e. same_kept op x (add_pending_abort r p (starting x t)) f (record { queue = refl; flight = refl; request = refl; started = refl }) refl refl n)
      (λ e. starting_error me r op x (add_pending_abort r p (starting x t)) f (grind arith) (record { queue = refl; flight = refl; request = refl; started = refl }) refl n)

  signalled_is : (me : StreamId) (r : Plain) (x : Slots) (t : Table) (o : Owner) → (z : Table) × (signalled me r (starting x t) o ≡ starting x z)
  signalled_is me r x t Host = (_, refl)
  signalled_is me r x t (HalfOf half) = (_, refl)
  signalled_is me r x t (BranchOf u half) = (_, refl)
  signalled_is me r x t (EndOf c) = (_, refl)

  aborted_keeps : (me : StreamId) (r : Plain) (p : PromiseId) (op : WritableOperation) (x : Slots) (t : Table) → SinkFits x → written op ≡ silence → SinkKept op x (stream_abort me r p (starting x t))
  unfolding stream_abort
  aborted_keeps me r p op x t f n =
      let s = signalled_is me r x t x.owner in
      either (SinkKept op x) (has_ended x.state) (with_promises (settle p (Ok Undefined) t) (starting x t)) (begin_abort me r p (signalled me r (starting x t) x.owner))
      (λ e. same_kept op x (with_promises (settle p (Ok Undefined) t) (starting x t)) f (record { queue = refl; flight = refl; request = refl; started = refl }) refl refl n)
      (λ e. subst (λ (z : Acts). SinkKept op x (begin_abort me r p z)) (sym s.1) (begin_abort_keeps me r p op x s.0 f e n))

  abort_writable_keeps : (me : StreamId) (r : Plain) (p : PromiseId) (x : Slots) (t : Table) → SinkKeeps me (AbortIfWritable r p) x t
  unfolding abort_if_writable
  abort_writable_keeps me r p x t f g =
      either (SinkKept (AbortIfWritable r p) x) (is_writable x.state) (stream_abort me r p (starting x t)) (with_promises (settle p (Ok Undefined) t) (starting x t))
      (λ e. aborted_keeps me r p (AbortIfWritable r p) x t f refl)
      (λ e. same_kept (AbortIfWritable r p) x (with_promises (settle p (Ok Undefined) t) (starting x t)) f (record { queue = refl; flight = refl; request = refl; started = refl }) refl refl refl)

  -- what is the same where the close was rejected
  record Rejected (a b : Acts) : Type 0 where
    state : b.slots.state ≡ a.slots.state
    flight : b.slots.close_in_flight ≡ a.slots.close_in_flight
    effects : b.out.effects ≡ a.out.effects
    queue : b.slots.queue ≡ a.slots.queue

  rejected_close : (a : Acts) → Rejected a (reject_close_and_closed a)
  unfolding reject_close_and_closed
  rejected_close a = grind arith

  ended_kept : (op : WritableOperation) (x : Slots) (o : Acts) → SinkFits x → has_ended x.state ≡ true → o.slots.state ≡ x.state → o.slots.close_in_flight ≡ x.close_in_flight → o.slots.queue ≡ x.queue → o.out.effects ≡ [] → written op ≡ silence → SinkKept op x o
  ended_kept op x o f w e c q h n = grind (arith, append-nil, short_refl)

  abort_settled_keeps : (me : StreamId) (p : PromiseId) (o : Result Plain Plain) (x : Slots) (t : Table) → SinkKeeps me (AbortSettled p o) x t
  unfolding abort_settled
  abort_settled_keeps me p (Ok v) x t f g =
      let a : Acts = with_promises (settle p (Ok Undefined) t) (starting x t) in
      let r = rejected_close a in
      ended_kept (AbortSettled p (Ok v)) x (reject_close_and_closed a) f g r.state r.flight r.queue r.effects refl
  abort_settled_keeps me p (Err e) x t f g =
      let a : Acts = with_promises (settle p (Err e) t) (starting x t) in
      let r = rejected_close a in
      ended_kept (AbortSettled p (Err e)) x (reject_close_and_closed a) f g r.state r.flight r.queue r.effects refl

  -- a write that is settled

  write_done_fits : (x : Slots) (f : Option PromiseId) → SinkFits x → InFlightOr x.state x → SinkFits (record x { write_in_flight = f; queue = rest_of x.queue })
  write_done_fits x y f g = grind arith

  write_done_lies : (x : Slots) (f : Option PromiseId) → SinkFits x → InFlightOr x.state x → in_sink (record x { write_in_flight = f; queue = rest_of x.queue }) ≡ in_sink x
  write_done_lies x y f g = grind arith

  flying_free : (x : Slots) → SinkFits x → InFlightOr x.state x → x.close_in_flight ≡ None
  flying_free x f g = grind arith

  write_settled_keeps : (me : StreamId) (o : Result Plain Plain) (x : Slots) (t : Table) → SinkKeeps me (WriteSettled o) x t
  unfolding write_settled deal_with_rejection
  write_settled_keeps me (Ok v) x t f g =
      let a : Acts = write_ended (Ok Undefined) (starting x t) in
      refreshed_kept me (WriteSettled (Ok v)) x (without_first a) (write_done_fits x None f g) (flying_free x f g) refl
      (rw (write_done_lies x None f g, then_empty (in_sink x)) (short_refl (in_sink x)))
  write_settled_keeps me (Err e) x t f g =
      let a : Acts = write_ended (Err e) (starting x t) in
      either (SinkKept (WriteSettled (Err e)) x) (is_writable x.state) (start_erroring me e a) (finish_erroring me a)
      (λ w. starting_error me e (WriteSettled (Err e)) x a f (writable_is x.state w) (record { queue = refl; flight = refl; request = refl; started = refl }) refl refl)
      (λ w. finishing me (WriteSettled (Err e)) x a g refl)

  started_fits : (x : Slots) → SinkFits x → x.started ≡ false → SinkFits (record x { started = true }) × (x.close_in_flight ≡ None)
  started_fits x f g = grind arith

  start_fails : (me : StreamId) (e : Plain) (x : Slots) (t : Table) → SinkFits x → x.started ≡ false → x.state ≡ Writable → SinkKept (StartSettled (Err e)) x (start_erroring me e (starting (record x { started = true }) t))
  start_fails me e x t f g w =
      let k = starting_error me e (StartSettled (Err e)) (record x { started = true }) (starting (record x { started = true }) t) (started_fits x f g).0 w (record { queue = refl; flight = refl; request = refl; started = refl }) refl refl in
      record { fits = k.fits; short = k.short }

  start_settled_keeps : (me : StreamId) (o : Result Plain Plain) (x : Slots) (t : Table) → SinkKeeps me (StartSettled o) x t
  unfolding start_settled deal_with_rejection
  start_settled_keeps me (Ok v) x t f g =
      let a : Acts = starting (record x { started = true }) t in
      let h = started_fits x f g in
      then_advanced me (StartSettled (Ok v)) x a h.0 (λ e. h.1) refl (rw (then_empty (in_sink x)) (short_refl (in_sink x)))
  start_settled_keeps me (Err e) x t f g =
      let a : Acts = starting (record x { started = true }) t in
      let h = started_fits x f g in
      either (SinkKept (StartSettled (Err e)) x) (is_writable x.state) (start_erroring me e a) (finish_erroring me a)
      (λ w. start_fails me e x t f g (writable_is x.state w))
      (λ w. finishing me (StartSettled (Err e)) x a h.1 refl)

  -- a close that is settled

  drained_kept : (op : WritableOperation) (x : Slots) (o : Acts) → o.slots.state ≡ Erroring → o.slots.queue ≡ [] → o.slots.close_in_flight ≡ None → o.slots.close_request ≡ None → tells (hands ear) o.out.effects ≡ silence → SinkKept op x o
  drained_kept op x o e q c r h = record {
    fits = rw e (record { shaped = rw q tt; closing = rw (c, r, q) refl; started = λ s. c });
    short = rw (h, e, c, q) (front_nil (then_told (in_sink x) (written op)).items);
  }

  cleared : (a : Acts) → ((clear_error a).slots.queue ≡ a.slots.queue) × (((clear_error a).slots.close_in_flight ≡ a.slots.close_in_flight) × ((clear_error a).out.effects ≡ a.out.effects))
  cleared a = grind arith

  fulfilled_closed : (a : Acts) (w : Option Writer) → ((fulfil_closed a w).slots ≡ a.slots) × ((fulfil_closed a w).out.effects ≡ a.out.effects)
  fulfilled_closed a w = grind arith

  close_flies : (x : Slots) → SinkFits x → is_some x.close_in_flight ≡ true → (x.queue ≡ []) × ((has_ended x.state ≡ false) × (x.close_request ≡ None))
  close_flies x f g = grind arith

  pub ended_lies : (x : Slots) → SinkFits x → is_some x.close_in_flight ≡ true → in_sink x ≡ told [] Ended
  ended_lies x f g = grind arith

  closed_kept : (op : WritableOperation) (x : Slots) (o : Acts) → in_sink x ≡ told [] Ended → o.slots.state ≡ Closed → o.slots.close_in_flight ≡ None → o.slots.queue ≡ [] → o.out.effects ≡ [] → SinkKept op x o
  closed_kept op x o l e c q h = record { fits = rw e (c, q); short = rw (h, e, l) (refl, refl) }

  close_fails : (me : StreamId) (r : Plain) (x : Slots) (t : Table) → SinkFits x → is_some x.close_in_flight ≡ true → x.state ≡ Writable → SinkKept (CloseSettled (Err r)) x (start_erroring me r (abort_ended (Err r) (close_ended (Err r) (starting x t))))
  unfolding start_erroring
  close_fails me r x t f g w =
      let a : Acts = abort_ended (Err r) (close_ended (Err r) (starting x t)) in
      let d : Acts = with_slots (record a.slots { state = Erroring; stored_error = r }) a in
      let b : Acts = reject_ready r d a.slots.writer in
      let c = ready_rejected r d a.slots.writer in
      let h = close_flies x f g in
      either (SinkKept (CloseSettled (Err r)) x) (not (is_in_flight b.slots) && b.slots.started) (finish_erroring me b) b
      (λ e. finishing me (CloseSettled (Err r)) x b (no_flight b.slots (and_left (not (is_in_flight b.slots)) b.slots.started e)) (ap (tells (hands ear)) c.1.1))
      (λ e. drained_kept (CloseSettled (Err r)) x b c.1.0 (c.0.queue ∙ h.0) c.0.flight (c.0.request ∙ h.1.1) (ap (tells (hands ear)) c.1.1))

  close_settled_keeps : (me : StreamId) (o : Result Plain Plain) (x : Slots) (t : Table) → SinkKeeps me (CloseSettled o) x t
  unfolding close_settled finish_in_flight_close finish_in_flight_close_with_error deal_with_rejection
  close_settled_keeps me (Ok v) x t f g =
      let a : Acts = close_ended (Ok Undefined) (starting x t) in
      let b : Acts = clear_error a in
      let c = cleared a in
      let d : Acts = with_slots (record b.slots { state = Closed }) b in
      let e = fulfilled_closed d b.slots.writer in
      let h = close_flies x f g in
      closed_kept (CloseSettled (Ok v)) x (fulfil_closed d b.slots.writer) (ended_lies x f g)
      (ap (λ (z : Slots). z.state) e.0) (ap (λ (z : Slots). z.close_in_flight) e.0 ∙ c.1.0) (ap (λ (z : Slots). z.queue) e.0 ∙ c.0 ∙ h.0) (e.1 ∙ c.1.1)
  close_settled_keeps me (Err e) x t f g =
      let a : Acts = abort_ended (Err e) (close_ended (Err e) (starting x t)) in
      either (SinkKept (CloseSettled (Err e)) x) (is_writable x.state) (start_erroring me e a) (finish_erroring me a)
      (λ w. close_fails me e x t f g (writable_is x.state w))
      (λ w. finishing me (CloseSettled (Err e)) x a refl refl)

  -- each operation of a destination
  pub sink_keeps : (me : StreamId) (op : WritableOperation) (x : Slots) (t : Table) → SinkKeeps me op x t
  sink_keeps me (SetUpWriter w) x t = set_up_keeps me w x t
  sink_keeps me ReleaseWriter x t = release_keeps me x t
  sink_keeps me (Write v p) x t = write_keeps me p v x t
  sink_keeps me (Close p) x t = λ f g. absurd g
  sink_keeps me (ClosePropagating p) x t = propagating_keeps me p x t
  sink_keeps me (Abort r p) x t = λ f g. aborted_keeps me r p (Abort r p) x t f refl
  sink_keeps me (AbortIfWritable r p) x t = abort_writable_keeps me r p x t
  sink_keeps me (ErrorIfNeeded e) x t = error_keeps me e x t
  sink_keeps me (HandOn taker) x t = hand_on_keeps me taker x t
  sink_keeps me (StartSettled o) x t = start_settled_keeps me o x t
  sink_keeps me (WriteSettled o) x t = write_settled_keeps me o x t
  sink_keeps me (CloseSettled o) x t = close_settled_keeps me o x t
  sink_keeps me (AbortSettled p o) x t = abort_settled_keeps me p o x t
