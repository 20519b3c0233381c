-- What holds of a byte stream's record while it is readable, and afterwards.
use Rattle.std.proofs.Common.{◌≡◌, ◌≤◌, ℕ, Bool, false, List, [], ◌∷◌, ◌++◌, Option, Some, None, length, drop, refl, sym, ◌∙◌, append_assoc, append-nil, arith}
use Rattle.ws_steps.specs.Bytes.{Acts, causing, in_stream, has_byob_reader, with_requests, should_call_pull, call_pull_if_needed, close_keeping, close_stream_keeping, stream_close, clear_all, controller_error, commit_steps, commit_all}
use Rattle.ws_steps.specs.Descriptors.{Descriptor}
use Rattle.ws_steps.specs.ByteHistory.{kept}
use Rattle.ws_steps.specs.declared.readable.ReadableState.{ReadableState}
use Rattle.ws_steps.specs.declared.readable.ReadableState.TheVariants.{Readable, Closed, Errored}
use Rattle.ws_steps.specs.declared.byte.RoomKind.{RoomKind}
use Rattle.ws_steps.specs.declared.readable.ReadRequest.{ReadRequest}
use Rattle.ws_steps.specs.declared.effects.Effect.{Effect}
use Rattle.ws_value.specs.declared.ids.StreamId.{StreamId}
use Rattle.ws_value.specs.declared.ids.PromiseId.{PromiseId}
use Rattle.ws_value.specs.declared.value.Plain.{Plain}
use Rattle.ws_laws.proofs.Tables.{either}
use Rattle.ws_byte_laws.proofs.Filling.{handed}
use Rattle.ws_byte_laws.proofs.Given.{given_by, given, given_append, given_last, given_closes, given_errors}
use Rattle.ws_steps.specs.Readable as readable
use Rattle.ws_byte_laws.specs.Descriptors.{AllLater, Good, AllEmpty, OnlyFirst, IsGood, Held}

-- while it is readable: these bytes were given or are kept
pub record Fine (E : List ℕ) (a : Acts) : Type 0 where
  pub readable : a.slots.stream.state ≡ Readable
  pub all : E ≡ given a.out.effects ++ kept a.slots
  pub good : IsGood a.slots

-- what an operation on a readable stream leaves: these bytes were given, are kept or were lost
pub record Kept (cancels : Bool) (E : List ℕ) (a : Acts) : Type 0 where
  pub lost : List ℕ
  pub all : E ≡ given a.out.effects ++ (kept a.slots ++ lost)
  pub live : a.slots.stream.state ≡ Readable → lost ≡ []
  pub whole : cancels ≡ false → a.slots.stream.state ≡ Closed → lost ≡ []
  pub held : Held a.slots

pub empty_later : (r : RoomKind) (ds : List Descriptor) → AllLater r ds → AllEmpty ds
empty_later r [] l = tt
empty_later r (d ∷ ds) l = (l.0.empty, empty_later r ds l.1)

pub only_first : (r : RoomKind) (ds : List Descriptor) (q : List (List ℕ)) (n : ℕ) → Good r ds q n → OnlyFirst ds
only_first r [] q n g = tt
only_first r (d ∷ ds) q n g = empty_later r ds g.1

pub fine_kept : (c : Bool) (E : List ℕ) (a : Acts) → Fine E a → Kept c E a
fine_kept c E a f =
    record {
      lost = [];
      all = rw append-nil f.all;
      live = λ e. refl;
      whole = λ e g. refl;
      held = record { readable = λ e. f.good; closed = λ e. let r = f.readable in absurd (cc); errored = λ e. let r = f.readable in absurd (cc) };
    }

pub pulled : (me : StreamId) (E : List ℕ) (a : Acts) → Fine E a → Fine E (call_pull_if_needed me a)
unfolding call_pull_if_needed
pulled me E a f =
    either (Fine E) (should_call_pull a.slots) (in_stream (readable.call_pull me) a) a
    (λ c. either (λ (b : readable.Acts). Fine E (record { slots = record a.slots { stream = b.slots }; out = b.out })) a.slots.stream.pulling _ _
    (λ p. record { readable = f.readable; all = f.all; good = f.good })
    (λ p. record { readable = f.readable; all = rw (given_last, append-nil) f.all; good = f.good }))
    (λ c. f)

-- what the end of a stream leaves
pub record Ends (to : ReadableState) (a z : readable.Acts) : Type 0 where
  pub state : z.slots.state ≡ to
  pub bytes : given z.out.effects ≡ given a.out.effects

pub none_more : (es fs : List Effect) → given fs ≡ [] → given (es ++ fs) ≡ given es
none_more es fs e = rw (given_append, e, append-nil) refl

closed_by : (me : StreamId) (a : readable.Acts) (r : Option PromiseId) → Ends a.slots.state a (readable.close_reader me a r)
closed_by me a None = record { state = refl; bytes = refl }
closed_by me a (Some r) = record { state = refl; bytes = none_more a.out.effects (readable.close_all me a.slots.requests) (given_closes me a.slots.requests) }

kept_by : (a : readable.Acts) (r : Option PromiseId) → Ends a.slots.state a (close_keeping a r)
kept_by a None = record { state = refl; bytes = refl }
kept_by a (Some r) = record { state = refl; bytes = refl }

abbrev pub of_stream : Acts → readable.Acts
of_stream a = record { slots = a.slots.stream; out = a.out }

abbrev closing : Acts → readable.Acts
closing a = record { slots = record a.slots.stream { state = Closed }; out = a.out }

-- a close leaves the queue and the descriptors
pub record Shut (a z : Acts) : Type 0 where
  pub state : z.slots.stream.state ≡ Closed
  pub bytes : given z.out.effects ≡ given a.out.effects
  pub queue : z.slots.queue ≡ a.slots.queue
  pub descriptors : z.slots.descriptors ≡ a.slots.descriptors

pub shut : (me : StreamId) (a : Acts) → Shut a (stream_close me a)
unfolding stream_close readable.stream_close
shut me a =
    let k = kept_by (closing a) a.slots.stream.reader in
    let e = closed_by me (closing a) a.slots.stream.reader in
    either (Shut a) (has_byob_reader a.slots) (in_stream close_stream_keeping a) (in_stream (readable.stream_close me) a)
    (λ c. record { state = k.state; bytes = k.bytes; queue = refl; descriptors = refl })
    (λ c. record { state = e.state; bytes = e.bytes; queue = refl; descriptors = refl })

errored_by : (me : StreamId) (e : Plain) (a : readable.Acts) (r : Option PromiseId) → Ends a.slots.state a (readable.error_reader me e a r)
errored_by me e a None = record { state = refl; bytes = refl }
errored_by me e a (Some r) = record { state = refl; bytes = none_more a.out.effects (readable.error_all me e a.slots.requests) (given_errors me e a.slots.requests) }

pub stream_errored : (me : StreamId) (e : Plain) (a : readable.Acts) → Ends Errored a (readable.stream_error me e a)
unfolding readable.stream_error
stream_errored me e a =
    let h = errored_by me e (record a { slots = record a.slots { state = Errored; stored_error = e } }) a.slots.reader in record { state = h.state; bytes = h.bytes }

-- closing where nothing is queued
pub closes : (c : Bool) (me : StreamId) (E : List ℕ) (a : Acts) → a.slots.queue ≡ [] → Fine E a → Kept c E (stream_close me a)
closes c me E a q f =
    let h : Shut a (stream_close me a) = shut me a in
    record {
      lost = [];
      all = rw (h.bytes, h.queue, h.descriptors, append-nil) f.all;
      live = λ e. refl;
      whole = λ e g. refl;
      held = record {
        readable = λ e. let i = h.state in absurd (cc);
        closed = λ e. (h.queue ∙ q, rw h.descriptors (only_first _ _ _ _ f.good));
        errored = λ e. let i = h.state in absurd (cc);
      };
    }

pub readable_not : (state : ReadableState) → state ≡ Readable → readable.is_readable state ≡ false → ⊥
readable_not Readable e f = cc
readable_not Closed e f = cc
readable_not Errored e f = cc

pub errs : (c : Bool) (me : StreamId) (e : Plain) (E : List ℕ) (a : Acts) → Fine E a → Kept c E (controller_error me e a)
unfolding controller_error
errs c me e E a f =
    let b : Acts = in_stream (readable.stream_error me e) (clear_all a) in
    let h : Ends Errored (of_stream (clear_all a)) (readable.stream_error me e (of_stream (clear_all a))) = stream_errored me e (of_stream (clear_all a)) in
    let z : Kept c E b = record {
      lost = kept a.slots;
      all = rw h.bytes f.all;
      live = λ g. let i = h.state in absurd (cc);
      whole = λ k g. let i = h.state in absurd (cc);
      held = record { readable = λ g. let i = h.state in absurd (cc); closed = λ g. let i = h.state in absurd (cc); errored = λ g. (refl, refl) };
    } in
    either (Kept c E) (readable.is_readable a.slots.stream.state) b a (λ t. z) (λ t. absurd (readable_not a.slots.stream.state f.readable t))

pub given_commit : (me : StreamId) (b : List ℕ) (q : ReadRequest) (state : ReadableState) → given_by (commit_steps me b q state) ≡ b
given_commit me b q Readable = refl
given_commit me b q Closed = refl
given_commit me b q Errored = refl

-- what commits leave, where a request waits for each
pub record Committed (ds : List Descriptor) (a z : Acts) : Type 0 where
  pub bytes : given z.out.effects ≡ given a.out.effects ++ handed ds
  pub slots : z.slots ≡ record a.slots { stream = record a.slots.stream { requests = drop (length ds) a.slots.stream.requests } }

committed_by : (me : StreamId) (d : Descriptor) (ds : List Descriptor) (a : Acts) (qs : List ReadRequest) → qs ≡ a.slots.stream.requests → length (d ∷ ds) ≤ length qs
    → ((b : Acts) → length ds ≤ length b.slots.stream.requests → Committed ds b (commit_all me ds b)) → Committed (d ∷ ds) a (commit_all me (d ∷ ds) a)
committed_by me d ds a [] e n next = absurd (omega arith)
committed_by me d ds a (q ∷ qs) e n next =
    let c : Acts = causing (commit_steps me d.filled q a.slots.stream.state) (with_requests qs a) in
    let k : Committed ds c (commit_all me ds c) = next c (omega arith) in
    rw (← e)
    (record {
      bytes = k.bytes ∙ rw (given_last, given_commit, append_assoc) refl;
      slots = k.slots;
    })

pub committed : (me : StreamId) (ds : List Descriptor) (a : Acts) → length ds ≤ length a.slots.stream.requests → Committed ds a (commit_all me ds a)
committed me [] a n = record { bytes = sym (append-nil (given a.out.effects)); slots = refl }
committed me (d ∷ ds) a n = committed_by me d ds a a.slots.stream.requests refl n (committed me ds)
