-- The law of each operation on a byte stream's record.
use Rattle.std.proofs.Common.{◌⊎◌, inl, inr, ◌≡◌, ◌≢◌, ◌≤◌, ℕ, zero, suc, Bool, true, false, List, [], ◌∷◌, ◌++◌, length, take, drop, refl, sym, ap, ◌∙◌, append_assoc, append-nil, arith, if◌then◌else◌, not, ◌&&◌, ◌||◌, ◌/◌, Option, Some, None, ◌*◌, ◌<◌}
use Rattle.ws_steps.specs.Bytes.{is_of_tee}
use Rattle.std.specs.Prelude.{is_none, Result, Ok, Err}
use Rattle.ws_steps.specs.Bytes.{Slots, Acts, with_slots, causing, in_stream, has_default_reader, has_byob_reader, can_take, call_pull_if_needed, invalidate_request, controller_error, read_by, default_reader_read, controller_close, commit_all, drop_first, controller_enqueue, is_closed, is_errored, pull_first, pull_into, byob_reader_read, commit_first, respond_closed, respond_first, respond, respond_internal, may_respond, make_request, start_settled, pull_ended, pull_settled, cancel_by, stream_cancel, cancel_if_readable, reader_release, if_meant, reader_initialize, may_read, may_pull_into, is_least, read, read_into}
use Rattle.ws_steps.specs.Descriptors.{Descriptor, is_for_nobody, without_reader}
use Rattle.ws_steps.specs.Effects.{settling}
use Rattle.ws_steps.specs.Promises.{Table}
use Rattle.ws_steps.specs.ByteHistory.{joined, first_filled, kept, entered_into, entered_by, cancels, responds}
use Rattle.ws_steps.specs.Operations.{byte_readable_operation, byte_operation}
use Rattle.ws_steps.specs.declared.readable.ReadableState.{ReadableState}
use Rattle.ws_steps.specs.declared.readable.ReadableState.TheVariants.{Readable, Closed, Errored}
use Rattle.ws_steps.specs.declared.byte.RoomKind.TheVariants.{ForByob, ForNobody}
use Rattle.ws_steps.specs.declared.byte.ReaderKind.{ReaderKind}
use Rattle.ws_steps.specs.declared.byte.ReaderKind.TheVariants.{Default, Byob}
use Rattle.ws_steps.specs.declared.byte.ByteOperation.{ByteOperation}
use Rattle.ws_steps.specs.declared.readable.ReadRequest.{ReadRequest}
use Rattle.ws_steps.specs.declared.readable.ReadableOperation.{ReadableOperation}
use Rattle.ws_steps.specs.declared.effects.Effect.TheVariants.{CloseSteps, CloseStepsWith, ErrorSteps}
use Rattle.ws_value.specs.declared.ids.StreamId.{StreamId}
use Rattle.ws_value.specs.declared.ids.PromiseId.{PromiseId}
use Rattle.ws_value.specs.declared.value.Plain.{Plain}
use Rattle.ws_value.specs.declared.value.Plain.TheVariants.{Undefined}
use Rattle.ws_laws.proofs.Tables.{either}
use Rattle.ws_byte_laws.proofs.Filling.{handed}
use Rattle.ws_byte_laws.proofs.Given.{given, starting}
use Rattle.ws_byte_laws.proofs.Fine.{Fine, Kept, fine_kept, pulled, of_stream, readable_not, errs, Committed, committed}
use Rattle.ws_byte_laws.proofs.Enqueue.{Same, pull_same, default_reads, byob_reads, enqueued}
use Rattle.ws_byte_laws.proofs.Responds.{responded_readable}
use Rattle.ws_byte_laws.proofs.Taking.{read_kept, closed_not, pulled_into}
use Rattle.ws_byte_laws.proofs.Leaving.{close_kept, pull_settled_kept, start_settled_kept, cancel_kept, initialized_by, initialized, initialize_fine, Released, released, first_left, release_fine}
use Rattle.ws_steps.specs.Readable as readable
use Rattle.ws_steps.specs.declared.byte.ByteOperation.TheVariants as own
use Rattle.ws_steps.specs.declared.readable.ReadableOperation.TheVariants as names
use Rattle.ws_byte_laws.specs.Descriptors.{Later, AllEmpty, OnlyFirst, Held, reads}

-- what an operation keeps, during which these bytes enter
pub record Law (cancels answers : Bool) (entered : List ℕ) (s : Slots) (a : Acts) : Type 0 where
  pub lost : List ℕ
  pub all : kept s ++ entered ≡ given a.out.effects ++ (kept a.slots ++ lost)
  pub live : a.slots.stream.state ≡ Readable → (s.stream.state ≡ Readable) × (lost ≡ [])
  pub whole : cancels ≡ false → s.stream.state ≡ Readable → a.slots.stream.state ≡ Closed → lost ≡ []
  pub closed : s.stream.state ≡ Closed → a.slots.stream.state ≡ Closed
  pub unlost : answers ≡ false → s.stream.state ≡ Closed → lost ≡ []
  pub errored : s.stream.state ≡ Errored → (a.slots.stream.state ≡ Errored) × (given a.out.effects ≡ [])
  pub held : Held a.slots

kept_law : (c w : Bool) (entered : List ℕ) (s : Slots) (a : Acts) → s.stream.state ≡ Readable → Kept c (kept s ++ entered) a → Law c w entered s a
kept_law c w entered s a r k =
    record { lost = k.lost; all = k.all; live = λ e. (r, k.live e); whole = λ e f. k.whole e; closed = λ e. absurd (cc); unlost = λ i e. absurd (cc); errored = λ e. absurd (cc); held = k.held }

start_fine : (s : Slots) (t : Table) → s.stream.state ≡ Readable → Held s → Fine (kept s) (starting s t)
start_fine s t r h = record { readable = r; all = refl; good = h.readable r }

-- while it is closed or errored

pub record Over (answers : Bool) (s : Slots) (a : Acts) : Type 0 where
  pub lost : List ℕ
  pub all : kept s ≡ given a.out.effects ++ (kept a.slots ++ lost)
  pub state : a.slots.stream.state ≡ s.stream.state
  pub queue : a.slots.queue ≡ s.queue
  pub unlost : answers ≡ false → lost ≡ []
  pub only : OnlyFirst s.descriptors → OnlyFirst a.slots.descriptors
  pub none : s.stream.state ≡ Errored → s.descriptors ≡ [] → (a.slots.descriptors ≡ []) × (given a.out.effects ≡ [])

over_law : (c w : Bool) (entered : List ℕ) (s : Slots) (a : Acts) → s.stream.state ≢ Readable → entered ≡ [] → Held s → Over w s a → Law c w entered s a
over_law c w entered s a n e h o =
    record {
      lost = o.lost;
      all = rw (e, append-nil) o.all;
      live = λ r. absurd (n (sym o.state ∙ r));
      whole = λ i r. absurd (n r);
      closed = λ r. o.state ∙ r;
      unlost = λ i r. o.unlost i;
      errored = λ r. (o.state ∙ r, (o.none r (h.errored r).1).1);
      held = record {
        readable = λ r. absurd (n (sym o.state ∙ r));
        closed = λ r. let f : s.stream.state ≡ Closed = sym o.state ∙ r in (o.queue ∙ (h.closed f).0, o.only (h.closed f).1);
        errored = λ r. let f : s.stream.state ≡ Errored = sym o.state ∙ r in (o.queue ∙ (h.errored f).0, (o.none f (h.errored f).1).0);
      };
    }

-- an operation of a stream in which it stays and gives nothing
same_over : (s : Slots) (a : Acts) → a.slots.stream.state ≡ s.stream.state → a.slots.queue ≡ s.queue → a.slots.descriptors ≡ s.descriptors → given a.out.effects ≡ [] → Over false s a
same_over s a e q d g =
    record { lost = []; all = rw (g, q, d, append-nil) refl; state = e; queue = q; unlost = λ i. refl; only = λ o. rw d o; none = λ r n. (d ∙ n, g) }

pub readable_of : (state : ReadableState) → readable.is_readable state ≡ true → state ≡ Readable
readable_of Readable e = refl
readable_of Closed e = cc
readable_of Errored e = cc

pub and_right : (b c : Bool) → b && c ≡ true → c ≡ true
and_right true c e = e
and_right false c e = cc

not_errored : (state : ReadableState) → state ≡ Closed → is_errored state ≡ true → ⊥
not_errored Readable e f = cc
not_errored Closed e f = cc
not_errored Errored e f = cc

errored_is : (state : ReadableState) → state ≡ Errored → is_errored state ≡ false → ⊥
errored_is Readable e f = cc
errored_is Closed e f = cc
errored_is Errored e f = cc

not_closed : (state : ReadableState) → state ≡ Closed → is_closed state ≡ false → ⊥
not_closed Readable e f = cc
not_closed Closed e f = cc
not_closed Errored e f = cc

over_any : (s : Slots) (a : Acts) → Over false s a → Over true s a
over_any s a o = record { lost = o.lost; all = o.all; state = o.state; queue = o.queue; unlost = λ i. absurd (cc); only = o.only; none = o.none }

-- nothing happens
same_law : (w : Bool) (s : Slots) (t : Table) → Held s → Law false w [] s (starting s t)
same_law w s t h =
    record { lost = []; all = rw (append-nil (kept s)) refl; live = λ r. (r, refl); whole = λ i r e. refl; closed = λ r. r; unlost = λ i r. refl; errored = λ r. (r, refl); held = h }

-- a mark is left
marked : (w : Bool) (s : Slots) (t : Table) → Held s → Law false w [] s (with_slots (record s { astray = true }) (starting s t))
marked w s t h =
    record {
      lost = [];
      all = rw (append-nil (kept s)) refl;
      live = λ r. (r, refl);
      whole = λ i r e. refl;
      closed = λ r. r;
      unlost = λ i r. refl;
      errored = λ r. (r, refl);
      held = record { readable = h.readable; closed = h.closed; errored = h.errored };
    }

-- a response to a closed stream

empty_handed : (ds : List Descriptor) → AllEmpty ds → handed ds ≡ []
empty_handed [] e = refl
empty_handed (d ∷ ds) e = rw (e.0) (empty_handed ds e.1)

empty_take : (n : ℕ) (ds : List Descriptor) → AllEmpty ds → AllEmpty (take n ds)
empty_take zero ds e = tt
empty_take (suc n) [] e = tt
empty_take (suc n) (d ∷ ds) e = (e.0, empty_take n ds e.1)

empty_drop : (n : ℕ) (ds : List Descriptor) → AllEmpty ds → AllEmpty (drop n ds)
empty_drop zero ds e = e
empty_drop (suc n) [] e = tt
empty_drop (suc n) (d ∷ ds) e = empty_drop n ds e.1

empty_first : (ds : List Descriptor) → AllEmpty ds → first_filled ds ≡ []
empty_first [] e = refl
empty_first (d ∷ ds) e = e.0

only_empty : (ds : List Descriptor) → AllEmpty ds → OnlyFirst ds
only_empty [] e = tt
only_empty (d ∷ ds) e = e.1

only_drop : (n : ℕ) (ds : List Descriptor) → OnlyFirst ds → OnlyFirst (drop n ds)
only_drop zero ds e = e
only_drop (suc n) [] e = tt
only_drop (suc n) (d ∷ ds) e = only_empty (drop n ds) (empty_drop n ds e)

handed_front : (n : ℕ) (ds : List Descriptor) → OnlyFirst ds → first_filled ds ≡ handed (take n ds) ++ first_filled (drop n ds)
handed_front zero ds e = refl
handed_front (suc n) [] e = refl
handed_front (suc n) (d ∷ ds) e = rw (empty_handed (take n ds) (empty_take n ds e), empty_first (drop n ds) (empty_drop n ds e), append-nil, append-nil) refl

take_few : (n : ℕ) (ds : List Descriptor) → length (take n ds) ≤ n
take_few zero ds = omega arith
take_few (suc n) [] = omega arith
take_few (suc n) (d ∷ ds) = let h = take_few n ds in omega arith

record Dropped (s : Slots) (b : Acts) : Type 0 where
  stream : b.slots.stream ≡ s.stream
  queue : b.slots.queue ≡ s.queue
  bytes : given b.out.effects ≡ []
  lost : List ℕ
  all : first_filled s.descriptors ≡ first_filled b.slots.descriptors ++ lost
  only : OnlyFirst b.slots.descriptors

closed_all : (x g f l j : List ℕ) → j ≡ [] → x ≡ (g ++ f) ++ l → x ++ j ≡ g ++ ((f ++ j) ++ l)
closed_all x g f l j e h = rw (e, append-nil, append-nil, h, append_assoc) refl

after_drop : (me : StreamId) (s : Slots) (b : Acts) → s.queue ≡ [] → s.stream.state ≡ Closed → Dropped s b → Over true s (if has_byob_reader b.slots then commit_first me (length b.slots.stream.requests) b else b)
after_drop me s b q t k =
    either (Over true s) (has_byob_reader b.slots) _ b
    (λ i.
    let n : ℕ = length b.slots.stream.requests in
    let c : Acts = with_slots (record b.slots { descriptors = drop n b.slots.descriptors }) b in
    let ds : List Descriptor = take n b.slots.descriptors in
    let z : Acts = commit_all me ds c in
    let w : Committed ds c z = committed me ds c (take_few n b.slots.descriptors) in
    let j : joined s.queue ≡ [] = rw q refl in
    let h : first_filled s.descriptors ≡ (handed ds ++ first_filled (drop n b.slots.descriptors)) ++ k.lost = k.all ∙ ap (λ x. x ++ k.lost) (handed_front n b.slots.descriptors k.only) in
    record {
      lost = k.lost;
      all = rw (w.slots, w.bytes, k.bytes, k.queue) (closed_all (first_filled s.descriptors) (handed ds) (first_filled (drop n b.slots.descriptors)) k.lost (joined s.queue) j h);
      state = rw w.slots (ap (λ (x : readable.Slots). x.state) k.stream);
      queue = rw w.slots k.queue;
      unlost = λ i. absurd (cc);
      only = λ o. rw w.slots (only_drop n b.slots.descriptors k.only);
      none = λ r. absurd (cc);
    })
    (λ i. record {
      lost = k.lost;
      all = rw (k.bytes, k.queue) (closed_all (first_filled s.descriptors) [] (first_filled b.slots.descriptors) k.lost (joined s.queue) (rw q refl) k.all);
      state = ap (λ (x : readable.Slots). x.state) k.stream;
      queue = k.queue;
      unlost = λ i. absurd (cc);
      only = λ o. k.only;
      none = λ r. absurd (cc);
    })

respond_over : (me : StreamId) (s : Slots) (t : Table) (d : Descriptor) (ds : List Descriptor) → d ∷ ds ≡ s.descriptors → s.queue ≡ [] → s.stream.state ≡ Closed → OnlyFirst s.descriptors → Over true s (respond_closed me d (invalidate_request (starting s t)))
respond_over me s t d ds e q c o =
    let p : AllEmpty ds = rw (← e) at o in
    after_drop me s (if is_for_nobody d.room_kind then drop_first (invalidate_request (starting s t)) else invalidate_request (starting s t)) q c
    (either (Dropped s) (is_for_nobody d.room_kind) (drop_first (invalidate_request (starting s t))) (invalidate_request (starting s t))
    (λ i. rw (← e) (record { stream = refl; queue = refl; bytes = refl; lost = d.filled; all = rw (empty_first ds p) refl; only = only_empty ds p }))
    (λ i. record { stream = refl; queue = refl; bytes = refl; lost = []; all = sym (append-nil (first_filled s.descriptors)); only = o }))

respond_errored : (me : StreamId) (b : List ℕ) (s : Slots) (t : Table) (ds : List Descriptor) → ds ≡ s.descriptors → ds ≡ [] → Over true s (respond_first me b (invalidate_request (starting s t)) ds)
respond_errored me b s t [] e n = over_any s _ (same_over s (invalidate_request (starting s t)) refl refl refl refl)
respond_errored me b s t (d ∷ ds) e n = absurd (cc)

respond_by : (me : StreamId) (b : List ℕ) (s : Slots) (t : Table) (ds : List Descriptor) → ds ≡ s.descriptors → s.stream.state ≡ Readable → Held s → Law false true (entered_into ds b) s (respond_first me b (invalidate_request (starting s t)) ds)
respond_by me b s t [] e r h = kept_law false true [] s _ r (rw (append-nil (kept s)) (fine_kept false (kept s) _ (record { readable = r; all = refl; good = h.readable r })))
respond_by me b s t (d ∷ ds) e r h =
    kept_law false true b s _ r
    (either (Kept false (kept s ++ b)) (is_closed s.stream.state) _ _ (λ i. absurd (closed_not s.stream.state r i))
    (λ i. fine_kept false (kept s ++ b) _ (pulled me (kept s ++ b) _ (responded_readable me (kept s) b (invalidate_request (starting s t)) d ds e (record { readable = r; all = refl; good = h.readable r })))))

respond_closed_by : (me : StreamId) (b : List ℕ) (s : Slots) (t : Table) (ds : List Descriptor) → ds ≡ s.descriptors → s.stream.state ≡ Closed → Held s → Over true s (respond_first me b (invalidate_request (starting s t)) ds)
respond_closed_by me b s t [] e r h = over_any s _ (same_over s (invalidate_request (starting s t)) refl refl refl refl)
respond_closed_by me b s t (d ∷ ds) e r h =
    either (Over true s) (is_closed s.stream.state) (respond_closed me d (invalidate_request (starting s t))) _
    (λ i. respond_over me s t d ds e (h.closed r).0 r (h.closed r).1) (λ i. absurd (not_closed s.stream.state r i))

respond_law : (me : StreamId) (b : List ℕ) (s : Slots) (t : Table) (state : ReadableState) → state ≡ s.stream.state → Held s → Law false true (if readable.is_readable state then entered_into s.descriptors b else []) s (respond_internal me b (starting s t))
respond_law me b s t Readable e h = respond_by me b s t s.descriptors refl (sym e) h
respond_law me b s t Closed e h = over_law false true [] s _ (λ r. absurd (cc)) refl h (respond_closed_by me b s t s.descriptors refl (sym e) h)
respond_law me b s t Errored e h = over_law false true [] s _ (λ r. absurd (cc)) refl h (respond_errored me b s t s.descriptors refl (h.errored (sym e)).1)

meant_response : (me : StreamId) (b : List ℕ) (s : Slots) (t : Table) (may : Bool) → Held s
    → Law false true (if may && readable.is_readable s.stream.state then entered_into s.descriptors b else []) s (if_meant may (respond_internal me b (starting s t)) (starting s t))
meant_response me b s t true h = respond_law me b s t s.stream.state refl h
meant_response me b s t false h = marked true s t h

-- enqueues

enqueue_law : (me : StreamId) (b : List ℕ) (s : Slots) (t : Table) (can : Bool) → can ≡ can_take s → Held s → Law false false (if can then b else []) s (controller_enqueue me b (starting s t))
unfolding controller_enqueue
enqueue_law me b s t true e h =
    let r : s.stream.state ≡ Readable = readable_of s.stream.state (and_right (not s.stream.close_requested) (readable.is_readable s.stream.state) (sym e)) in
    kept_law false false b s _ r (fine_kept false (kept s ++ b) _ (enqueued me (kept s) b (starting s t) (start_fine s t r h) (sym e)))
enqueue_law me b s t false e h = rw (← e) (same_law false s t h)

-- reads into buffers

pub decide : (state : ReadableState) → (state ≡ Readable) ⊎ (state ≢ Readable)
decide Readable = inl refl
decide Closed = inr (λ e. cc)
decide Errored = inr (λ e. cc)

decided : (c : Bool) (s : Slots) (t : Table) (a : Acts) → Held s → (s.stream.state ≡ Readable → Fine (kept s) (starting s t) → Kept c (kept s) a) → (s.stream.state ≢ Readable → Over false s a) → (s.stream.state ≡ Readable) ⊎ (s.stream.state ≢ Readable) → Law c false [] s a
decided c s t a h f g (inl r) = kept_law c false [] s a r (rw (append-nil (kept s)) (f r (start_fine s t r h)))
decided c s t a h f g (inr n) = over_law c false [] s a n refl h (g n)

by_state : (c : Bool) (s : Slots) (t : Table) (a : Acts) → Held s → (s.stream.state ≡ Readable → Fine (kept s) (starting s t) → Kept c (kept s) a) → (s.stream.state ≢ Readable → Over false s a) → Law c false [] s a
by_state c s t a h f g = decided c s t a h f g (decide s.stream.state)

pub record Fits (room element minimum : ℕ) : Type 0 where
  pub units : ℕ
  pub whole : minimum ≡ element * units
  pub some : 0 < minimum
  pub within : minimum ≤ room

later_of : (room element minimum : ℕ) → Fits room element minimum → Later ForByob (record { filled = []; room = room; minimum = minimum; element = element; room_kind = ForByob })
later_of room element minimum f =
    record { fit = record { units = f.units; whole = f.whole; short = f.some; room = f.within; element = λ e. absurd (cc); minimum = λ e. absurd (cc) }; empty = refl; room_kind = refl }

only_more : (ds : List Descriptor) (d : Descriptor) → d.filled ≡ [] → AllEmpty ds → AllEmpty (ds ++ d ∷ [])
only_more [] d e o = (e, tt)
only_more (x ∷ ds) d e o = (o.0, only_more ds d e o.1)

into_closed : (me : StreamId) (d : Descriptor) (q : ReadRequest) (s : Slots) (t : Table) (ds : List Descriptor) → ds ≡ s.descriptors → d.filled ≡ [] → s.stream.state ≡ Closed → Over false s (pull_first me d q (in_stream readable.disturb (starting s t)) ds)
unfolding readable.disturb
into_closed me d q s t [] e f c =
    either (Over false s) (is_closed s.stream.state) (causing (CloseStepsWith me q []) (in_stream readable.disturb (starting s t))) _
    (λ i. same_over s (causing (CloseStepsWith me q []) (in_stream readable.disturb (starting s t))) refl refl refl refl) (λ i. absurd (not_closed s.stream.state c i))
into_closed me d q s t (x ∷ xs) e f c =
    rw (← e)
    (record { lost = []; all = rw append-nil refl; state = refl; queue = refl; unlost = λ i. refl; only = λ o. only_more xs d f o; none = λ r. absurd (cc) })

into_over : (me : StreamId) (d : Descriptor) (q : ReadRequest) (s : Slots) (t : Table) (state : ReadableState) → state ≡ s.stream.state → d.filled ≡ [] → state ≢ Readable → Over false s (byob_reader_read me d q (starting s t))
unfolding byob_reader_read pull_into readable.disturb
into_over me d q s t Readable e f n = absurd (n refl)
into_over me d q s t Closed e f n =
    either (Over false s) (is_errored s.stream.state) _ (pull_first me d q (in_stream readable.disturb (starting s t)) s.descriptors)
    (λ i. absurd (not_errored s.stream.state (sym e) i)) (λ i. into_closed me d q s t s.descriptors refl f (sym e))
into_over me d q s t Errored e f n =
    either (Over false s) (is_errored s.stream.state) (causing (ErrorSteps me q s.stream.stored_error) (in_stream readable.disturb (starting s t))) _
    (λ i. same_over s (causing (ErrorSteps me q s.stream.stored_error) (in_stream readable.disturb (starting s t))) refl refl refl refl) (λ i. absurd (errored_is s.stream.state (sym e) i))

pub meant : (P : Acts → Type 0) (c : Bool) (b a : Acts) → (c ≡ true → P b) → P (with_slots (record a.slots { astray = true }) a) → P (if_meant c b a)
meant P true b a f g = f refl
meant P false b a f g = g

pub both_left : (b c : Bool) → b && c ≡ true → b ≡ true
both_left true c e = refl
both_left false c e = cc

pub both_right : (b c : Bool) → b && c ≡ true → c ≡ true
both_right true c e = e
both_right false c e = cc

none_reads : (o : Option PromiseId) (κ : ReaderKind) → is_none o ≡ true → reads o κ ≡ ForNobody
none_reads None κ c = refl
none_reads (Some p) κ c = cc

or_read : (state : ReadableState) (c : Bool) → not (readable.is_readable state) || c ≡ true → state ≡ Readable → c ≡ true
or_read Readable c e f = e
or_read Closed c e f = cc
or_read Errored c e f = cc

fits : (room element minimum : ℕ) → is_least room element minimum ≡ true → Fits room element minimum
fits room element minimum e = record { units = minimum / element; whole = grind arith; some = grind arith; within = grind arith }

-- the operations of every readable stream, while it isn't readable

read_over : (me : StreamId) (q : ReadRequest) (s : Slots) (t : Table) (state : ReadableState) → state ≢ Readable → Over false s (read_by me q (in_stream readable.disturb (starting s t)) state)
unfolding readable.disturb
read_over me q s t Readable n = absurd (n refl)
read_over me q s t Closed n = same_over s (causing (CloseSteps me q) (in_stream readable.disturb (starting s t))) refl refl refl refl
read_over me q s t Errored n = same_over s (causing (ErrorSteps me q s.stream.stored_error) (in_stream readable.disturb (starting s t))) refl refl refl refl

cancel_over : (me : StreamId) (r : Plain) (p : PromiseId) (s : Slots) (t : Table) (state : ReadableState) → state ≢ Readable → Over false s (cancel_by me r p (in_stream readable.disturb (starting s t)) state)
unfolding readable.disturb
cancel_over me r p s t Readable n = absurd (n refl)
cancel_over me r p s t Closed n = same_over s (record (in_stream readable.disturb (starting s t)) { out = settling p (Ok Undefined) (in_stream readable.disturb (starting s t)).out }) refl refl refl refl
cancel_over me r p s t Errored n = same_over s (record (in_stream readable.disturb (starting s t)) { out = settling p (Err s.stream.stored_error) (in_stream readable.disturb (starting s t)).out }) refl refl refl refl

pub unreadable : (state : ReadableState) → state ≢ Readable → readable.is_readable state ≡ false
unreadable Readable n = absurd (n refl)
unreadable Closed n = refl
unreadable Errored n = refl

pull_over : (me : StreamId) (s r : Slots) (t : Table) → r.stream.state ≡ s.stream.state → r.queue ≡ s.queue → r.descriptors ≡ s.descriptors → Over false s (call_pull_if_needed me (starting r t))
pull_over me s r t e q d =
    let k : Same (starting r t) (call_pull_if_needed me (starting r t)) = pull_same me (starting r t) in
    same_over s _ (k.state ∙ e) (k.queue ∙ q) (k.descriptors ∙ d) k.given

error_over : (me : StreamId) (e : Plain) (s : Slots) (t : Table) → s.stream.state ≢ Readable → Over false s (controller_error me e (starting s t))
unfolding controller_error
error_over me e s t n =
    either (Over false s) (readable.is_readable s.stream.state) _ (starting s t) (λ i. absurd (n (readable_of s.stream.state i))) (λ i. same_over s (starting s t) refl refl refl refl)

start_over : (me : StreamId) (o : Result Plain Plain) (s : Slots) (t : Table) → s.stream.state ≢ Readable → Over false s (start_settled me o (starting s t))
unfolding start_settled
start_over me (Ok v) s t n = pull_over me s (record s { stream = record s.stream { started = true } }) t refl refl refl
start_over me (Err e) s t n = error_over me e s t n

ended_over : (me : StreamId) (s : Slots) (t : Table) (again : Bool) → Over false s (pull_ended me (with_slots (record s { stream = record s.stream { pulling = false } }) (starting s t)) again)
ended_over me s t false = same_over s (with_slots (record s { stream = record s.stream { pulling = false } }) (starting s t)) refl refl refl refl
ended_over me s t true = pull_over me s (record s { stream = record s.stream { pulling = false; pull_again = false } }) t refl refl refl

settled_over : (me : StreamId) (o : Result Plain Plain) (s : Slots) (t : Table) → s.stream.state ≢ Readable → Over false s (pull_settled me o (starting s t))
unfolding pull_settled
settled_over me (Ok v) s t n = ended_over me s t s.stream.pull_again
settled_over me (Err e) s t n = error_over me e s t n

only_reader : (ds : List Descriptor) → OnlyFirst (without_reader ds)
only_reader [] = tt
only_reader (d ∷ ds) = tt

none_reader : (ds : List Descriptor) → ds ≡ [] → without_reader ds ≡ []
none_reader [] e = refl
none_reader (d ∷ ds) e = absurd (cc)

release_over : (me : StreamId) (s : Slots) (t : Table) → Over false s (reader_release me (starting s t))
unfolding reader_release
release_over me s t =
    let k : Released (of_stream (starting s t)) (readable.reader_release me (of_stream (starting s t))) = released me (of_stream (starting s t)) in
    record {
      lost = [];
      all = rw (k.bytes, first_left s.descriptors, append-nil) refl;
      state = k.state;
      queue = refl;
      unlost = λ i. refl;
      only = λ o. only_reader s.descriptors;
      none = λ r n. (none_reader s.descriptors n, k.bytes);
    }

initialize_over : (kind : ReaderKind) (p : PromiseId) (s : Slots) (t : Table) → Over false s (initialized_by kind p (starting s t))
unfolding readable.reader_generic_initialize
initialize_over kind p s t = same_over s (initialized_by kind p (starting s t)) refl refl refl (ap given (initialized kind p (starting s t)))

initialize_law : (me : StreamId) (kind : ReaderKind) (p : PromiseId) (s : Slots) (t : Table) → Held s → Law false false [] s (reader_initialize kind p (starting s t))
unfolding reader_initialize
initialize_law me kind p s t h =
    meant (Law false false [] s) (is_none s.stream.reader) (initialized_by kind p (starting s t)) (starting s t)
    (λ c. by_state false s t _ h (λ e f. fine_kept false (kept s) _ (initialize_fine kind p (kept s) (starting s t) (none_reads s.stream.reader s.reader_kind c) f)) (λ n. initialize_over kind p s t))
    (marked false s t h)

-- each operation that either kind of controller has
pub operation_law : (me : StreamId) (op : ReadableOperation) (s : Slots) (t : Table) → Held s → Law (cancels op) false [] s (byte_readable_operation me op (starting s t))
unfolding read controller_close cancel_if_readable stream_cancel default_reader_read readable.disturb
operation_law me (names.InitializeReader p) s t h = initialize_law me Default p s t h
operation_law me names.ReleaseReader s t h = by_state false s t _ h (λ e f. fine_kept false (kept s) _ (release_fine me (kept s) (starting s t) f)) (λ n. release_over me s t)
operation_law me names.Disturb s t h =
    by_state false s t _ h (λ e f. fine_kept false (kept s) _ (record { readable = f.readable; all = f.all; good = f.good })) (λ n. same_over s (in_stream readable.disturb (starting s t)) refl refl refl refl)
operation_law me (names.Read q) s t h =
    either (λ (a : Acts). Law false false [] s a) (is_of_tee q) (starting s t) (if_meant (may_read s) (default_reader_read me q (starting s t)) (starting s t)) (λ e. same_law false s t h)
    (λ e. meant (Law false false [] s) (may_read s) (default_reader_read me q (starting s t)) (starting s t)
    (λ c. by_state false s t _ h
    (λ e f. read_kept false me q (kept s) (starting s t) (default_reads s.stream.reader s.reader_kind (or_read s.stream.state (has_default_reader s) c e)) f)
    (λ n. read_over me q s t s.stream.state n))
    (marked false s t h))
operation_law me (names.Cancel x p) s t h = by_state true s t _ h (λ e f. cancel_kept me x p (kept s) (starting s t) f) (λ n. cancel_over me x p s t s.stream.state n)
operation_law me (names.CancelIfReadable x p) s t h =
    by_state true s t _ h
    (λ e f. either (Kept true (kept s)) (readable.is_readable s.stream.state) (stream_cancel me x p (starting s t)) _ (λ i. cancel_kept me x p (kept s) (starting s t) f) (λ i. absurd (readable_not s.stream.state e i)))
    (λ n. either (Over false s) (readable.is_readable s.stream.state) _ _ (λ i. absurd (n (readable_of s.stream.state i))) (λ i. same_over s _ refl refl refl refl))
operation_law me (names.Enqueue v) s t h = same_law false s t h
operation_law me names.Close s t h =
    by_state false s t _ h (λ e f. close_kept false me (kept s) (starting s t) f)
    (λ n. either (Over false s) (can_take s) _ (starting s t) (λ i. absurd (n (readable_of s.stream.state (and_right (not s.stream.close_requested) (readable.is_readable s.stream.state) i)))) (λ i. same_over s (starting s t) refl refl refl refl))
operation_law me (names.Error e) s t h = by_state false s t _ h (λ i f. errs false me e (kept s) (starting s t) f) (λ n. error_over me e s t n)
operation_law me (names.StartSettled o) s t h = by_state false s t _ h (λ i f. start_settled_kept false me o (kept s) (starting s t) f) (λ n. start_over me o s t n)
operation_law me (names.PullSettled o) s t h = by_state false s t _ h (λ i f. pull_settled_kept false me o (kept s) (starting s t) f) (λ n. settled_over me o s t n)

-- each operation of a byte controller
pub bytes_law : (me : StreamId) (op : ByteOperation) (s : Slots) (t : Table) → Held s → Law false (responds op) (entered_by op s) s (byte_operation me op (starting s t))
unfolding reader_initialize read_into respond
bytes_law me (own.InitializeByobReader p) s t h = initialize_law me Byob p s t h
bytes_law me (own.Enqueue b) s t h = enqueue_law me b s t (can_take s) refl h
bytes_law me (own.PullInto room element minimum q) s t h =
    let n : ℕ = length room in
    let d : Descriptor = record { filled = []; room = n; minimum = minimum; element = element; room_kind = ForByob } in
    meant (Law false false [] s) (may_pull_into s && is_least n element minimum) (byob_reader_read me d q (starting s t)) (starting s t)
    (λ c. by_state false s t _ h
    (λ e f. pulled_into false me d q (kept s) (starting s t)
    (byob_reads s.stream.reader s.reader_kind (or_read s.stream.state (has_byob_reader s) (both_left (may_pull_into s) (is_least n element minimum) c) e))
    (later_of n element minimum (fits n element minimum (both_right (may_pull_into s) (is_least n element minimum) c))) f)
    (λ n. into_over me d q s t s.stream.state refl refl n))
    (marked false s t h)
bytes_law me (own.MakeRequest q) s t h =
    by_state false s t _ h (λ e f. fine_kept false (kept s) _ (record { readable = f.readable; all = f.all; good = f.good })) (λ n. same_over s (make_request q (starting s t)) refl refl refl refl)
bytes_law me (own.Respond b) s t h = meant_response me b s t (may_respond (length b) s) h
