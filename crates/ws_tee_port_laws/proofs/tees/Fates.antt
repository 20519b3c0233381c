-- The closed promise of a reader: it is open while the stream is readable, and fulfilled where the stream is closed.
use Rattle.std.proofs.Common.{◌≡◌, Bool, true, false, not, ◌&&◌, List, [], ◌∷◌, ◌++◌, map, Option, Some, None, Result, Ok, Err, slice_get, slice_set, refl, sym, ap, subst, ◌∙◌, arith}
use Rattle.std.specs.Option.{option_map}
use Rattle.ws_value.specs.declared.ids.{PromiseId.{PromiseId}, StreamId.{StreamId}}
use Rattle.ws_value.specs.declared.value.{Outcome.TheVariants.{Fulfilled}, Plain.{Plain}, Plain.TheVariants.{Undefined}, Value.{Value}}
use Rattle.ws_steps.specs.declared.queue.Queued.{Queued}
use Rattle.ws_steps.specs.declared.readable.{ReadRequest.{ReadRequest}, ReadableOperation.{ReadableOperation}, ReadableState.{ReadableState}, ReadableState.TheVariants.{Readable, Closed, Errored}}
use Rattle.ws_steps.specs.declared.readable.ReadableOperation.TheVariants as names
use Rattle.ws_steps.specs.Operations.{readable_operation}
use Rattle.ws_steps.specs.Promises.{Entry, Table, live, entry_at, outcome_at, is_open, is_open_entry, settled, ended_as, settle, settle_entry, job_of}
use Rattle.ws_steps.specs.Queues.{is_empty}
use Rattle.ws_steps.specs.Readable.{Acts, waiting, is_readable, can_close_or_enqueue, call_pull_if_needed, accept_for, accept, controller_enqueue, stream_close, close_reader, close_if_empty, controller_close, stream_error, error_reader, controller_error, after_take, pull_from, pull_steps, read_by, default_reader_read, reader_generic_initialize, disturb, cancel_readable_by, cancel_if_readable, cancel_steps, cancel_by, stream_cancel, start_settled, pull_ended, pull_settled}
use Rattle.ws_steps.proofs.PromiseLaws.{entry_within, entry_at-with_entry_same}
use Rattle.ws_laws.proofs.Outcomes.{entries_noted, keeps-settle}
use Rattle.ws_laws.proofs.Tables.{either}

-- an open promise that is settled has this outcome

settled-there : (p : PromiseId) (o : Result Plain Plain) (t : Table) (x : Option Entry) → entry_at t p ≡ x → is_open_entry x ≡ true → outcome_at (settle_entry p o t x) p ≡ Some (settled o)
settled-there p o t None h n = cc
settled-there p o t (Some e) h n =
    let d : Option Entry = Some (ended_as (settled o) e) in
    let z : Table = record t { entries = slice_set t.entries p.0 d; jobs = t.jobs ++ map (job_of o) e.reactions } in
    ap (λ (es : List (Option Entry)). option_map (λ (e : Entry). e.outcome) (live (slice_get es p.0))) (entries_noted p z e.rank)
    ∙ ap (λ (x : Option Entry). option_map (λ (e : Entry). e.outcome) x) (entry_at-with_entry_same t p d (entry_within t p e h))

pub settled-now : (p : PromiseId) (o : Result Plain Plain) (t : Table) → is_open p t ≡ true → outcome_at (settle p o t) p ≡ Some (settled o)
unfolding settle
settled-now p o t n = rw n (settled-there p o t (entry_at t p) refl n)

module _ (p : PromiseId) where
  pub record IsFulfilled (t : Table) : Type 0 where
    pub value : Plain
    pub at : outcome_at t p ≡ Some (Fulfilled value)

  pub record Fate (a : Acts) : Type 0 where
    pub reader : a.slots.reader ≡ Some p
    pub open_ : a.slots.state ≡ Readable → is_open p a.out.promises ≡ true
    pub closed : a.slots.state ≡ Closed → IsFulfilled a.out.promises

  -- what doesn't matter to it
  record Same (a b : Acts) : Type 0 where
    pub reader : b.slots.reader ≡ a.slots.reader
    pub state : b.slots.state ≡ a.slots.state
    pub promises : b.out.promises ≡ a.out.promises

  same-fate : (a b : Acts) → Same a b → Fate a → Fate b
  same-fate a b m f = record {
    reader = m.reader ∙ f.reader;
    open_ = λ e. ap (is_open p) m.promises ∙ f.open_ (sym m.state ∙ e);
    closed = λ e. let k = f.closed (sym m.state ∙ e) in record { value = k.value; at = ap (λ (t : Table). outcome_at t p) m.promises ∙ k.at };
  }

  same-then : (a b c : Acts) → Same a b → Same b c → Same a c
  same-then a b c m n = record { reader = n.reader ∙ m.reader; state = n.state ∙ m.state; promises = n.promises ∙ m.promises }

  readable-is : (x : ReadableState) → is_readable x ≡ true → x ≡ Readable
  readable-is Readable e = refl
  readable-is Closed e = cc
  readable-is Errored e = cc

  module _ (me : StreamId) where
    pull-same : (a : Acts) → Same a (call_pull_if_needed me a)
    unfolding call_pull_if_needed
    pull-same a = record { reader = grind arith; state = grind arith; promises = grind arith }

    pull-fate : (a : Acts) → Fate a → Fate (call_pull_if_needed me a)
    pull-fate a f = same-fate a (call_pull_if_needed me a) (pull-same a) f

    accept-same : (x : Value) (a : Acts) (rs : List ReadRequest) → Same a (accept_for me x a rs)
    accept-same x a [] = record { reader = refl; state = refl; promises = refl }
    accept-same x a (r ∷ rs) = record { reader = refl; state = refl; promises = refl }

    enqueue-fate : (x : Value) (a : Acts) → Fate a → Fate (controller_enqueue me x a)
    unfolding controller_enqueue accept
    enqueue-fate x a f =
        either Fate (can_close_or_enqueue a.slots) (call_pull_if_needed me (accept me x a)) a (λ e. pull-fate (accept me x a) (same-fate a (accept me x a) (accept-same x a (waiting a.slots)) f)) (λ e. f)

    close-by : (a : Acts) → Fate a → a.slots.state ≡ Readable → (o : Option PromiseId) → o ≡ Some p → Fate (close_reader me (record a { slots = record a.slots { state = Closed } }) o)
    close-by a f r None e = cc
    close-by a f r (Some q) e =
        let same : p ≡ q = cc in
        record {
          reader = f.reader;
          open_ = λ e. cc;
          closed = λ c. record { value = Undefined; at = subst (λ (x : PromiseId). outcome_at (settle x (Ok Undefined) a.out.promises) p ≡ Some (Fulfilled Undefined)) same (settled-now p (Ok Undefined) a.out.promises (f.open_ r)) };
        }

    close-fate : (a : Acts) → Fate a → a.slots.state ≡ Readable → Fate (stream_close me a)
    unfolding stream_close
    close-fate a f r = close-by a f r a.slots.reader f.reader

    closing-fate : (a : Acts) → Fate a → Fate (controller_close me a)
    unfolding controller_close close_if_empty
    closing-fate a f =
        let b : Acts = record a { slots = record a.slots { close_requested = true } } in
        let g : Fate b = same-fate a b (record { reader = refl; state = refl; promises = refl }) f in
        either Fate (can_close_or_enqueue a.slots) (close_if_empty me b) a
        (λ e. either Fate (is_empty b.slots.queue) (stream_close me b) b (λ n. close-fate b g (readable-is a.slots.state (right (not a.slots.close_requested) (is_readable a.slots.state) e))) (λ n. g)) (λ e. f)
      where
        right : (x y : Bool) → x && y ≡ true → y ≡ true
        right true y e = e
        right false y e = cc

    error-by : (r : Plain) (a : Acts) → Fate a → (o : Option PromiseId) → Fate (error_reader me r (record a { slots = record a.slots { queue = []; state = Errored; stored_error = r } }) o)
    error-by r a f None = record { reader = f.reader; open_ = λ e. cc; closed = λ e. cc }
    error-by r a f (Some q) = record { reader = f.reader; open_ = λ e. cc; closed = λ e. cc }

    error-fate : (r : Plain) (a : Acts) → Fate a → Fate (controller_error me r a)
    unfolding controller_error stream_error
    error-fate r a f = either Fate (is_readable a.slots.state) (stream_error me r (record a { slots = record a.slots { queue = [] } })) a (λ e. error-by r a f a.slots.reader) (λ e. f)

    after-fate : (a : Acts) → Fate a → a.slots.state ≡ Readable → Fate (after_take me a)
    unfolding after_take
    after-fate a f r = either Fate (a.slots.close_requested && is_empty a.slots.queue) (stream_close me a) (call_pull_if_needed me a) (λ e. close-fate a f r) (λ e. pull-fate a f)

    from-fate : (q : ReadRequest) (a : Acts) (queue : List (Queued Value)) → Fate a → a.slots.state ≡ Readable → Fate (pull_from me q a queue)
    from-fate q a [] f r = pull-fate _ (same-fate a _ (record { reader = refl; state = refl; promises = refl }) f)
    from-fate q a (x ∷ xs) f r =
        let b : Acts = record a { slots = record a.slots { queue = xs } } in
        same-fate (after_take me b) _ (record { reader = refl; state = refl; promises = refl }) (after-fate b (same-fate a b (record { reader = refl; state = refl; promises = refl }) f) r)

    read-fate : (q : ReadRequest) (a : Acts) (state : ReadableState) → state ≡ a.slots.state → Fate a → Fate (read_by me q a state)
    unfolding pull_steps
    read-fate q a Readable e f = from-fate q a a.slots.queue f (sym e)
    read-fate q a Closed e f = same-fate a _ (record { reader = refl; state = refl; promises = refl }) f
    read-fate q a Errored e f = same-fate a _ (record { reader = refl; state = refl; promises = refl }) f

    -- another promise is settled where the stream has ended
    ended-fate : (a : Acts) (q : PromiseId) (o : Result Plain Plain) → is_readable a.slots.state ≡ false → Fate a → Fate (record a { out = record a.out { promises = settle q o a.out.promises } })
    ended-fate a q o n f = record {
      reader = f.reader;
      open_ = λ e. let wrong : true ≡ false = sym (ap is_readable e) ∙ n in cc;
      closed = λ e. let k = f.closed e in record { value = k.value; at = (keeps-settle q o a.out.promises).outcome p (Fulfilled k.value) refl k.at };
    }

    cancel-fate : (r : Plain) (q : PromiseId) (a : Acts) (state : ReadableState) → state ≡ a.slots.state → Fate a → Fate (cancel_by me r q a state)
    unfolding cancel_steps
    cancel-fate r q a Readable e f = same-fate (stream_close me a) _ (record { reader = refl; state = refl; promises = refl }) (close-fate a f (sym e))
    cancel-fate r q a Closed e f = ended-fate a q (Ok Undefined) (sym (ap is_readable e)) f
    cancel-fate r q a Errored e f = ended-fate a q (Err a.slots.stored_error) (sym (ap is_readable e)) f

    disturbed : (a : Acts) → Fate a → Fate (record a { slots = record a.slots { disturbed = true } })
    disturbed a f = same-fate a _ (record { reader = refl; state = refl; promises = refl }) f

    cancel_readable-fate : (r : Plain) (q : PromiseId) (a : Acts) (state : ReadableState) → state ≡ a.slots.state → Fate a → Fate (cancel_readable_by me r q a state)
    unfolding stream_cancel
    cancel_readable-fate r q a Readable e f = cancel-fate r q (record a { slots = record a.slots { disturbed = true } }) a.slots.state refl (disturbed a f)
    cancel_readable-fate r q a Closed e f = ended-fate a q (Ok Undefined) (sym (ap is_readable e)) f
    cancel_readable-fate r q a Errored e f = ended-fate a q (Ok Undefined) (sym (ap is_readable e)) f

    settled-fate : (o : Result Plain Plain) (a : Acts) → Fate a → Fate (pull_settled me o a)
    unfolding pull_settled
    settled-fate (Err r) a f = error-fate r a f
    settled-fate (Ok v) a f = again (record a { slots = record a.slots { pulling = false } }) a.slots.pull_again (same-fate a _ (record { reader = refl; state = refl; promises = refl }) f)
      where
        again : (b : Acts) (x : Bool) → Fate b → Fate (pull_ended me b x)
        again b false g = g
        again b true g = pull-fate _ (same-fate b _ (record { reader = refl; state = refl; promises = refl }) g)

    started-fate : (o : Result Plain Plain) (a : Acts) → Fate a → Fate (start_settled me o a)
    unfolding start_settled
    started-fate (Err r) a f = error-fate r a f
    started-fate (Ok v) a f = pull-fate _ (same-fate a _ (record { reader = refl; state = refl; promises = refl }) f)

    -- neither the reader comes nor goes
    abbrev pub Stands : ReadableOperation → Type 0
    Stands (names.InitializeReader q) = ⊥
    Stands names.ReleaseReader = ⊥
    Stands _ = Unit {0}

    pub operation-fate : (operation : ReadableOperation) (a : Acts) → Stands operation → Fate a → Fate (readable_operation me operation a)
    unfolding disturb default_reader_read cancel_if_readable stream_cancel
    operation-fate (names.InitializeReader q) a n f = absurd n
    operation-fate names.ReleaseReader a n f = absurd n
    operation-fate names.Disturb a n f = disturbed a f
    operation-fate (names.Read q) a n f = read-fate q (record a { slots = record a.slots { disturbed = true } }) a.slots.state refl (disturbed a f)
    operation-fate (names.Cancel r q) a n f = cancel-fate r q (record a { slots = record a.slots { disturbed = true } }) a.slots.state refl (disturbed a f)
    operation-fate (names.CancelIfReadable r q) a n f = cancel_readable-fate r q a a.slots.state refl f
    operation-fate (names.Enqueue x) a n f = enqueue-fate x a f
    operation-fate names.Close a n f = closing-fate a f
    operation-fate (names.Error r) a n f = error-fate r a f
    operation-fate (names.StartSettled o) a n f = started-fate o a f
    operation-fate (names.PullSettled o) a n f = settled-fate o a f

    -- the reader comes with an open promise
    pub initialize-fate : (a : Acts) → is_open p a.out.promises ≡ true → Fate (readable_operation me (names.InitializeReader p) a)
    unfolding reader_generic_initialize
    initialize-fate a n = by a.slots.state refl
      where
        by : (state : ReadableState) → state ≡ a.slots.state → Fate (reader_generic_initialize p a)
        by Readable e = record { reader = refl; open_ = λ k. rw (← e) n; closed = λ k. let wrong : Readable ≡ Closed = e ∙ k in cc }
        by Closed e = record {
          reader = refl;
          open_ = λ k. let wrong : Closed ≡ Readable = e ∙ k in cc;
          closed = λ k. rw (← e) (record { value = Undefined; at = settled-now p (Ok Undefined) a.out.promises n });
        }
        by Errored e = record { reader = refl; open_ = λ k. let wrong : Errored ≡ Readable = e ∙ k in cc; closed = λ k. let wrong : Errored ≡ Closed = e ∙ k in cc }
