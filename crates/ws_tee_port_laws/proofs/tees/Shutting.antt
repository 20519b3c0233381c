-- By what a readable stream takes no more chunks: a cancel, which performs its cancel algorithm, or a close, an error, or a rejection of its
-- start algorithm or pull algorithm. And what has errored stays so.
use Rattle.std.proofs.Common.{◌≡◌, ◌⊎◌, inl, inr, Bool, true, false, not, ◌&&◌, ◌||◌, nat_eq, List, [], ◌∷◌, ◌++◌, Option, Some, None, Ok, Err, slice_get, refl, sym, ap, ◌∙◌, arith}
use Rattle.ws_value.specs.declared.ids.{PromiseId.{PromiseId}, StreamId.{StreamId}, TeeId.{TeeId}}
use Rattle.ws_value.specs.declared.value.{Plain.{Plain}, Value.{Value}}
use Rattle.ws_steps.specs.declared.effects.{Effect.{Effect}, Effect.TheVariants.{Readable as OnReadable, Byte, Writable as OnWritable, Tee as OnTee, CancelAlgorithm}}
use Rattle.ws_steps.specs.declared.queue.Queued.{Queued}
use Rattle.ws_steps.specs.declared.readable.{ReadRequest.{ReadRequest}, ReadableOperation.{ReadableOperation}, ReadableState.{ReadableState}, ReadableState.TheVariants.{Readable, Closed, Errored}}
use Rattle.ws_steps.specs.declared.readable.ReadableOperation.TheVariants as names
use Rattle.ws_steps.specs.declared.tee.{Half.{Half}, Half.TheVariants.{First, Second}, TeeOperation.TheVariants.{CancelBranch}}
use Rattle.ws_steps.specs.Histories.{is_same}
use Rattle.ws_steps.specs.Operations.{readable_operation, byte_readable_operation, byte_operation, writable_operation}
use Rattle.ws_steps.specs.Queues.{is_empty}
use Rattle.ws_steps.specs.Readable as readable
use Rattle.ws_steps.specs.Readable.{Acts, is_readable, can_close_or_enqueue, close_all, error_all, waiting, call_pull_if_needed, accept_for, accept, controller_enqueue, stream_close, stream_error, close_if_empty, controller_close, controller_error, after_take, pull_from, pull_steps, read_by, default_reader_read, reader_generic_initialize, disturb, cancel_readable_by, cancel_if_readable, start_settled, pull_settled, pull_ended, cancel_steps, cancel_by, stream_cancel, release_by, reader_release}
use Rattle.ws_steps.specs.Slots.{Slots, Stream, ReadableStream, Done, nothing, readable_at, has_readable, has_byte, as_readable, put_readable, on_readable, on_byte}
use Rattle.ws_steps.specs.Turns.{row, on_source}
use Rattle.ws_laws.proofs.Apart.{row-streams}
use Rattle.ws_laws.proofs.Tables.{either, is_same-refl, same_id, readable_acts, on_readable-same, on_readable-other, on_byte-look, on_writable-look}

-- what each operation keeps of a readable stream, each effect keeps
module _ (Q : readable.Slots → Type 0) (stays : (j : StreamId) (operation : ReadableOperation) (a : Acts) → Q a.slots → Q (readable_operation j operation a).slots) (b : StreamId) where
  abbrev Holds : Slots → Type 0
  Holds s = Q (readable_at b s)

  default-stays : (j : StreamId) (operation : ReadableOperation) (s : Slots) (same : Bool) → same ≡ is_same b j → Holds s → Holds (on_readable (readable_operation j operation) j s).slots
  default-stays j operation s false e n = rw (ap as_readable (on_readable-other (readable_operation j operation) j s b (sym e))) n
  default-stays j operation s true e n =
      either (λ (d : Done). Holds d.slots) (has_readable j s) (put_readable j s (readable_operation j operation (readable_acts j s))) (nothing s)
      (λ h.
      let is : b ≡ j = same_id b j (sym e) in
      let before : Q (readable_at j s) = rw is at n in
      let place : slice_get (put_readable j s (readable_operation j operation (readable_acts j s))).slots.streams j.0 ≡ Some (ReadableStream (readable_operation j operation (readable_acts j s)).slots) = rw h at (on_readable-same (readable_operation j operation) j s h) in
      rw (is, ap as_readable place) (stays j operation (readable_acts j s) before))
      (λ h. n)

  source-stays : (j : StreamId) (operation : ReadableOperation) (s : Slots) → Holds s → Holds (on_source operation j s).slots
  source-stays j operation s n =
      either (λ (d : Done). Holds d.slots) (has_byte j s) (on_byte (byte_readable_operation j operation) j s) (on_readable (readable_operation j operation) j s)
      (λ h. rw (on_byte-look as_readable (λ x y. refl) (byte_readable_operation j operation) j s b (is_same b j) refl) n)
      (λ h. default-stays j operation s (is_same b j) refl n)

  pub row-keeps : (e : Effect) (s : Slots) → Holds s → Holds (row e s).slots
  unfolding row
  row-keeps (OnReadable j operation) s n = source-stays j operation s n
  row-keeps (Byte j operation) s n = rw (on_byte-look as_readable (λ x y. refl) (byte_operation j operation) j s b (is_same b j) refl) n
  row-keeps (OnWritable j operation) s n = rw (on_writable-look as_readable (λ x y. refl) (writable_operation j operation) j s b (is_same b j) refl) n
  row-keeps e s n = rw (ap (λ (xs : List Stream). as_readable (slice_get xs b.0)) (row-streams e s tt)) n

-- what has errored stays so

abbrev pub HasErred : readable.Slots → Type 0
HasErred x = x.state ≡ Errored

module _ (me : StreamId) where
  abbrev Erred : Acts → Acts → Type 0
  Erred a z = a.slots.state ≡ Errored → z.slots.state ≡ Errored

  shut : (a : Acts) → a.slots.state ≡ Errored → can_close_or_enqueue a.slots ≡ false
  shut a e = grind (arith, e)

  unreadable : (a : Acts) → a.slots.state ≡ Errored → is_readable a.slots.state ≡ false
  unreadable a e = ap is_readable e

  pull-erred : (a : Acts) → Erred a (call_pull_if_needed me a)
  unfolding call_pull_if_needed
  pull-erred a e = grind (arith, e)

  erring-erred : (r : Plain) (a : Acts) → Erred a (controller_error me r a)
  unfolding controller_error
  erring-erred r a e = rw (unreadable a e) e

  read-erred : (r : ReadRequest) (a : Acts) (state : ReadableState) → state ≡ Errored → Erred a (read_by me r a state)
  read-erred r a Readable s e = cc
  read-erred r a Closed s e = cc
  read-erred r a Errored s e = e

  cancel-erred : (r : Plain) (p : PromiseId) (a : Acts) (state : ReadableState) → state ≡ Errored → Erred a (cancel_by me r p a state)
  cancel-erred r p a Readable s e = cc
  cancel-erred r p a Closed s e = cc
  cancel-erred r p a Errored s e = e

  cancel_readable-erred : (r : Plain) (p : PromiseId) (a : Acts) (state : ReadableState) → state ≡ Errored → Erred a (cancel_readable_by me r p a state)
  cancel_readable-erred r p a Readable s e = cc
  cancel_readable-erred r p a Closed s e = cc
  cancel_readable-erred r p a Errored s e = e

  release-erred : (a : Acts) (reader : Option PromiseId) → Erred a (release_by me a reader)
  release-erred a None e = e
  release-erred a (Some closed) e = e

  ended-erred : (a : Acts) (again : Bool) → Erred a (pull_ended me a again)
  ended-erred a false e = e
  ended-erred a true e = pull-erred (record a { slots = record a.slots { pull_again = false } }) e

  operation-erred : (operation : ReadableOperation) (a : Acts) → Erred a (readable_operation me operation a)
  unfolding controller_enqueue controller_close disturb default_reader_read cancel_if_readable start_settled pull_settled stream_cancel reader_generic_initialize reader_release
  operation-erred (names.InitializeReader closed) a e = e
  operation-erred names.ReleaseReader a e = release-erred a a.slots.reader e
  operation-erred names.Disturb a e = e
  operation-erred (names.Read r) a e = read-erred r (record a { slots = record a.slots { disturbed = true } }) a.slots.state e e
  operation-erred (names.Cancel r q) a e = cancel-erred r q (record a { slots = record a.slots { disturbed = true } }) a.slots.state e e
  operation-erred (names.CancelIfReadable r q) a e = cancel_readable-erred r q a a.slots.state e e
  operation-erred (names.Enqueue x) a e = rw (shut a e) e
  operation-erred names.Close a e = rw (shut a e) e
  operation-erred (names.Error r) a e = erring-erred r a e
  operation-erred (names.StartSettled (Ok x)) a e = pull-erred (record a { slots = record a.slots { started = true } }) e
  operation-erred (names.StartSettled (Err r)) a e = erring-erred r a e
  operation-erred (names.PullSettled (Ok x)) a e = ended-erred (record a { slots = record a.slots { pulling = false } }) a.slots.pull_again e
  operation-erred (names.PullSettled (Err r)) a e = erring-erred r a e

pub row-erred : (i : StreamId) (e : Effect) (s : Slots) → HasErred (readable_at i s) → HasErred (readable_at i (row e s).slots)
row-erred i e s h = row-keeps HasErred (λ j operation a k. operation-erred j operation a k) i e s h

-- whether an effect cancels a branch

abbrev pub same_half : Half → Half → Bool
same_half First First = true
same_half First Second = false
same_half Second First = false
same_half Second Second = true

abbrev pub cancels : TeeId → Half → StreamId → Effect → Bool
cancels t half b (CancelAlgorithm i r p) = is_same b i
cancels t half b (OnTee u (CancelBranch h r q)) = nat_eq t.0 u.0 && same_half half h
cancels t half b _ = false

abbrev pub any_cancels : TeeId → Half → StreamId → List Effect → Bool
any_cancels t half b [] = false
any_cancels t half b (e ∷ es) = cancels t half b e || any_cancels t half b es

pub cancels-later : (t : TeeId) (half : Half) (b : StreamId) (es fs : List Effect) → any_cancels t half b fs ≡ true → any_cancels t half b (es ++ fs) ≡ true
cancels-later t half b [] fs h = h
cancels-later t half b (e ∷ es) fs h = by (cancels t half b e) (any_cancels t half b (es ++ fs)) (cancels-later t half b es fs h)
  where
    by : (x y : Bool) → y ≡ true → (x || y) ≡ true
    by true y e = refl
    by false y e = e

pub cancels-first : (t : TeeId) (half : Half) (b : StreamId) (es fs : List Effect) → any_cancels t half b es ≡ true → any_cancels t half b (es ++ fs) ≡ true
cancels-first t half b [] fs h = cc
cancels-first t half b (e ∷ es) fs h = by (cancels t half b e) (any_cancels t half b es) (any_cancels t half b (es ++ fs)) (λ k. cancels-first t half b es fs k) h
  where
    by : (x y z : Bool) → (y ≡ true → z ≡ true) → (x || y) ≡ true → (x || z) ≡ true
    by true y z f h = refl
    by false y z f h = f h

-- operations that end a stream without a cancel
abbrev pub is_ender : ReadableOperation → Bool
is_ender names.Close = true
is_ender (names.Error r) = true
is_ender (names.StartSettled (Err r)) = true
is_ender (names.PullSettled (Err r)) = true
is_ender _ = false

module _ (t : TeeId) (half : Half) (me : StreamId) where
  abbrev IsOpen : Acts → Type 0
  IsOpen a = can_close_or_enqueue a.slots ≡ true

  abbrev pub OpenOr : Acts → Type 0
  OpenOr z = (can_close_or_enqueue z.slots ≡ true) ⊎ (any_cancels t half me z.out.effects ≡ true)

  pull-open : (a : Acts) → IsOpen a → IsOpen (call_pull_if_needed me a)
  unfolding call_pull_if_needed
  pull-open a o = grind (arith, o)

  accept-open : (v : Value) (a : Acts) (rs : List ReadRequest) → IsOpen a → IsOpen (accept_for me v a rs)
  accept-open v a [] o = o
  accept-open v a (r ∷ rs) o = o

  enqueue-open : (v : Value) (a : Acts) → IsOpen a → IsOpen (controller_enqueue me v a)
  unfolding controller_enqueue accept
  enqueue-open v a o = rw o (pull-open (accept me v a) (accept-open v a (waiting a.slots) o))

  unrequested : (a : Acts) → IsOpen a → a.slots.close_requested ≡ false
  unrequested a o = by a.slots.close_requested (is_readable a.slots.state) o
    where
      by : (x y : Bool) → (not x && y) ≡ true → x ≡ false
      by true y e = cc
      by false y e = refl

  after-open : (a : Acts) → IsOpen a → IsOpen (after_take me a)
  unfolding after_take
  after-open a o =
      let n = unrequested a o in
      either IsOpen (a.slots.close_requested && is_empty a.slots.queue) (stream_close me a) (call_pull_if_needed me a) (λ e. let wrong : false ≡ true = sym (ap (λ (x : Bool). x && is_empty a.slots.queue) n) ∙ e in cc) (λ e. pull-open a o)

  from-open : (r : ReadRequest) (a : Acts) (queue : List (Queued Value)) → IsOpen a → IsOpen (pull_from me r a queue)
  from-open r a [] o = pull-open (record a { slots = record a.slots { requests = a.slots.requests ++ r ∷ [] } }) o
  from-open r a (x ∷ xs) o = after-open (record a { slots = record a.slots { queue = xs } }) o

  read-open : (r : ReadRequest) (a : Acts) (state : ReadableState) → IsOpen a → IsOpen (read_by me r a state)
  unfolding pull_steps
  read-open r a Readable o = from-open r a a.slots.queue o
  read-open r a Closed o = o
  read-open r a Errored o = o

  cancels-last : (es : List Effect) (r : Plain) (q : PromiseId) → any_cancels t half me (es ++ CancelAlgorithm me r q ∷ []) ≡ true
  cancels-last es r q = cancels-later t half me es (CancelAlgorithm me r q ∷ []) (rw (is_same-refl me) refl)

  cancel-open : (r : Plain) (q : PromiseId) (a : Acts) (state : ReadableState) → IsOpen a → OpenOr (cancel_by me r q a state)
  unfolding cancel_steps
  cancel-open r q a Readable o = inr (cancels-last (stream_close me a).out.effects r q)
  cancel-open r q a Closed o = inl o
  cancel-open r q a Errored o = inl o

  cancel_readable-open : (r : Plain) (q : PromiseId) (a : Acts) (state : ReadableState) → IsOpen a → OpenOr (cancel_readable_by me r q a state)
  unfolding stream_cancel
  cancel_readable-open r q a Readable o = cancel-open r q (record a { slots = record a.slots { disturbed = true } }) a.slots.state o
  cancel_readable-open r q a Closed o = inl o
  cancel_readable-open r q a Errored o = inl o

  release-open : (a : Acts) (reader : Option PromiseId) → IsOpen a → IsOpen (release_by me a reader)
  release-open a None o = o
  release-open a (Some closed) o = o

  ended-open : (a : Acts) (again : Bool) → IsOpen a → IsOpen (pull_ended me a again)
  ended-open a false o = o
  ended-open a true o = pull-open (record a { slots = record a.slots { pull_again = false } }) o

  -- after an operation it takes chunks as before, or its cancel algorithm is to be performed
  pub operation-open : (operation : ReadableOperation) (a : Acts) → is_ender operation ≡ false → IsOpen a → OpenOr (readable_operation me operation a)
  unfolding disturb default_reader_read cancel_if_readable start_settled pull_settled stream_cancel reader_generic_initialize reader_release
  operation-open (names.InitializeReader closed) a n o = inl o
  operation-open names.ReleaseReader a n o = inl (release-open a a.slots.reader o)
  operation-open names.Disturb a n o = inl o
  operation-open (names.Read r) a n o = inl (read-open r (record a { slots = record a.slots { disturbed = true } }) a.slots.state o)
  operation-open (names.Cancel r q) a n o = cancel-open r q (record a { slots = record a.slots { disturbed = true } }) a.slots.state o
  operation-open (names.CancelIfReadable r q) a n o = cancel_readable-open r q a a.slots.state o
  operation-open (names.Enqueue x) a n o = inl (enqueue-open x a o)
  operation-open names.Close a n o = cc
  operation-open (names.Error r) a n o = cc
  operation-open (names.StartSettled (Ok x)) a n o = inl (pull-open (record a { slots = record a.slots { started = true } }) o)
  operation-open (names.StartSettled (Err r)) a n o = cc
  operation-open (names.PullSettled (Ok x)) a n o = inl (ended-open (record a { slots = record a.slots { pulling = false } }) a.slots.pull_again o)
  operation-open (names.PullSettled (Err r)) a n o = cc
