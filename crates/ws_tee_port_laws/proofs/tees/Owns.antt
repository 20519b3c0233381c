-- What a tee's own operations cause, and what they leave of it.
use Rattle.std.proofs.Common.{◌≡◌, Bool, true, false, not, ◌&&◌, is_some, List, [], ◌∷◌, ◌++◌, Option, Some, None, Ok, Err, refl, ap, ◌∙◌}
use Rattle.ws_value.specs.declared.ids.{PromiseId.{PromiseId}, StreamId.{StreamId}, TeeId.{TeeId}}
use Rattle.ws_value.specs.declared.value.{Plain.{Plain}, Plain.TheVariants.{Pair}, Value.{Value}}
use Rattle.ws_steps.specs.declared.effects.{Effect.{Effect}, Effect.TheVariants.{Readable as OnReadable, Tee as OnTee, Give, Settle}, Gift.TheVariants.{This}}
use Rattle.ws_steps.specs.declared.readable.{ReadableOperation.{ReadableOperation}, ReadableOperation.TheVariants.{Read, Cancel, Enqueue, Close, Error}}
use Rattle.ws_steps.specs.declared.tee.{Half.{Half}, Half.TheVariants.{First, Second}, TeeOperation.{TeeOperation}, TeePhase.{TeePhase}, TeePhase.TheVariants.{Resting, Reading, Over}}
use Rattle.ws_steps.specs.declared.tee.TeeOperation.TheVariants as ops
use Rattle.ws_steps.specs.Operations.{tee_operation}
use Rattle.ws_steps.specs.Promises.{next_id, fresh}
use Rattle.ws_steps.specs.Tee as tee
use Rattle.ws_steps.specs.Tee.{Acts, causing, with_slots, reason_of, with_reason, is_wanted, on_branches, unless_cancelled, fulfil_cancel, pull_in, pull_branch, keep_chunk, close_in, close_branches, source_closed, source_errored, hand_held, hand_chunk, rested, again, handed, resolve_cancel, cancel_source, if_both, cancel_by, cancel_branch, reader_settled}
use Rattle.ws_laws.proofs.Lists.{Each, each-append}
use Rattle.ws_laws.proofs.Tables.{either}

-- effects that many operations cause
abbrev pub IsBasic : Effect → Type 0
IsBasic (OnReadable i (Read q)) = Unit {0}
IsBasic (OnReadable i (Cancel r p)) = Unit {0}
IsBasic (Give gift u) = Unit {0}
IsBasic (Settle p o) = Unit {0}
IsBasic _ = ⊥

module _ (t : TeeId) (P : Effect → Type 0) (basic : (e : Effect) → IsBasic e → P e) where
  -- and those that few do
  abbrev pub By : tee.Slots → TeeOperation → Type 0
  By x ops.SourceClosed = P (OnReadable x.branch1 Close) × P (OnReadable x.branch2 Close)
  By x ops.HandChunk = (v : Value) → x.held ≡ Some v → P (OnReadable x.branch1 (Enqueue v)) × (P (OnReadable x.branch2 (Enqueue v)) × P (OnTee t ops.Handed))
  By x (ops.ReaderSettled (Err r)) = P (OnReadable x.branch1 (Error r)) × P (OnReadable x.branch2 (Error r))
  By x _ = Unit {0}

  abbrev Goes : Acts → Acts → Type 0
  Goes a z = Each P a.out.effects → Each P z.out.effects

  unless-each : (r : Option Plain) (j : StreamId) (operation : ReadableOperation) → P (OnReadable j operation) → Each P (unless_cancelled r j operation)
  unless-each None j operation n = (n, tt)
  unless-each (Some r) j operation n = tt

  branches-each : (x : tee.Slots) (operation : ReadableOperation) → P (OnReadable x.branch1 operation) → P (OnReadable x.branch2 operation) → Each P (on_branches operation x)
  branches-each x operation f g =
      each-append P (unless_cancelled x.reason1 x.branch1 operation) (unless_cancelled x.reason2 x.branch2 operation) (unless-each x.reason1 x.branch1 operation f)
      (unless-each x.reason2 x.branch2 operation g)

  fulfil-each : (a z : Acts) → Goes a z → Goes a (fulfil_cancel z)
  fulfil-each a z k =
      either (Goes a) (is_wanted z.slots && not z.slots.answered) _ z (λ e h. each-append P z.out.effects _ (k h) (basic (Settle z.slots.cancel tee.done) tt, tt)) (λ e. k)

  pull-each : (a : Acts) (phase : TeePhase) → Goes a (pull_in t a phase)
  pull-each a Resting h = each-append P a.out.effects _ h (basic _ tt, tt)
  pull-each a Reading h = h
  pull-each a Over h = h

  closes-each : (a : Acts) → P (OnReadable a.slots.branch1 Close) → P (OnReadable a.slots.branch2 Close) → Goes a (close_branches a)
  closes-each a f g =
      let z : Acts = with_slots (record a.slots { phase = Over }) a in
      fulfil-each a (causing (on_branches Close a.slots) z) (λ h. each-append P a.out.effects (on_branches Close a.slots) h (branches-each a.slots Close f g))

  close-each : (a : Acts) (phase : TeePhase) → P (OnReadable a.slots.branch1 Close) → P (OnReadable a.slots.branch2 Close) → Goes a (close_in a phase)
  close-each a Resting f g = closes-each a f g
  close-each a Reading f g = closes-each a f g
  close-each a Over f g = λ h. h

  again-each : (a : Acts) (asked : Bool) → Goes a (again t a asked)
  unfolding pull_branch
  again-each a true = pull-each a a.slots.phase
  again-each a false = λ h. h

  resolve-each : (p : PromiseId) (a z : Acts) → Goes a z → Goes a (resolve_cancel p z)
  resolve-each p a z k = either (Goes a) z.slots.answered z _ (λ e. k) (λ e h. each-append P z.out.effects _ (k h) (basic _ tt, tt))

  both-each : (a z : Acts) → Goes a z → Goes a (if_both t z)
  both-each a z k = either (Goes a) (is_wanted z.slots) z (cancel_source t z) (λ e. k) (λ e. sourced e)
    where
      sourced : is_wanted z.slots ≡ false → Goes a (cancel_source t z)
      sourced e =
          let p : PromiseId = next_id z.out.promises in
          let c : Acts = causing (OnReadable z.slots.source (Cancel (Pair t) p) ∷ []) (record z { out = record z.out { promises = fresh z.out.promises } }) in
          resolve-each p a c (λ h. each-append P z.out.effects (OnReadable z.slots.source (Cancel (Pair t) p) ∷ []) (k h) (basic _ tt, tt))

  cancel-each : (half : Half) (r : Plain) (a : Acts) (old : Option Plain) → Goes a (cancel_by t half r a old)
  cancel-each half r a (Some old) = λ h. h
  cancel-each half r a None = both-each a (with_slots (with_reason half r a.slots) a) (λ h. h)

  hand-each : (a : Acts) (held : Option Value) → ((v : Value) → held ≡ Some v → P (OnReadable a.slots.branch1 (Enqueue v)) × (P (OnReadable a.slots.branch2 (Enqueue v)) × P (OnTee t ops.Handed)))
      → Goes a (hand_held t a held)
  hand-each a None k h = h
  hand-each a (Some v) k h =
      let f = k v refl in
      each-append P a.out.effects (on_branches (Enqueue v) a.slots ++ OnTee t ops.Handed ∷ []) h
      (each-append P (on_branches (Enqueue v) a.slots) (OnTee t ops.Handed ∷ []) (branches-each a.slots (Enqueue v) f.0 f.1.0) (f.1.1, tt))

  pub own-each : (operation : TeeOperation) (a : Acts) → By a.slots operation → Goes a (tee_operation t operation a)
  unfolding pull_branch keep_chunk source_closed source_errored hand_chunk handed cancel_branch reader_settled
  own-each ops.PullBranch a n = pull-each a a.slots.phase
  own-each (ops.KeepChunk v) a n = λ h. h
  own-each ops.SourceClosed a n = close-each a a.slots.phase n.0 n.1
  own-each ops.SourceErrored a n = λ h. h
  own-each ops.HandChunk a n = hand-each a a.slots.held n
  own-each ops.Handed a n = again-each (with_slots (record a.slots { phase = rested a.slots.phase }) a) a.slots.read_again
  own-each (ops.CancelBranch half r u) a n =
      λ h. each-append P (cancel_by t half r a (reason_of half a.slots)).out.effects _ (cancel-each half r a (reason_of half a.slots) h) (basic (Give (This a.slots.cancel) u) tt, tt)
  own-each (ops.ReaderSettled (Ok v)) a n = λ h. h
  own-each (ops.ReaderSettled (Err r)) a n =
      let es : List Effect = OnReadable a.slots.branch1 (Error r) ∷ OnReadable a.slots.branch2 (Error r) ∷ [] in
      fulfil-each a (causing es a) (λ h. each-append P a.out.effects es h (n.0, (n.1, tt)))

-- what stays

module _ (t : TeeId) where
  fulfil-phase : (a : Acts) → (fulfil_cancel a).slots.phase ≡ a.slots.phase
  fulfil-phase a = either (λ (z : Acts). z.slots.phase ≡ a.slots.phase) (is_wanted a.slots && not a.slots.answered) _ a (λ e. refl) (λ e. refl)

  fulfil-held : (a : Acts) → (fulfil_cancel a).slots.held ≡ a.slots.held
  fulfil-held a = either (λ (z : Acts). z.slots.held ≡ a.slots.held) (is_wanted a.slots && not a.slots.answered) _ a (λ e. refl) (λ e. refl)

  pull-over : (a : Acts) (phase : TeePhase) → phase ≡ Over → a.slots.phase ≡ Over → (pull_in t a phase).slots.phase ≡ Over
  pull-over a Resting e h = cc
  pull-over a Reading e h = cc
  pull-over a Over e h = h

  pull-held : (a : Acts) (phase : TeePhase) → (pull_in t a phase).slots.held ≡ a.slots.held
  pull-held a Resting = refl
  pull-held a Reading = refl
  pull-held a Over = refl

  close-over : (a : Acts) (phase : TeePhase) → a.slots.phase ≡ phase → (close_in a phase).slots.phase ≡ Over
  close-over a Resting e = fulfil-phase (causing (on_branches Close a.slots) (with_slots (record a.slots { phase = Over }) a))
  close-over a Reading e = fulfil-phase (causing (on_branches Close a.slots) (with_slots (record a.slots { phase = Over }) a))
  close-over a Over e = e

  close-held : (a : Acts) (phase : TeePhase) → (close_in a phase).slots.held ≡ a.slots.held
  close-held a Resting = fulfil-held (causing (on_branches Close a.slots) (with_slots (record a.slots { phase = Over }) a))
  close-held a Reading = fulfil-held (causing (on_branches Close a.slots) (with_slots (record a.slots { phase = Over }) a))
  close-held a Over = refl

  -- the tee is over once its source is closed
  pub closed-over : (a : Acts) → (source_closed a).slots.phase ≡ Over
  unfolding source_closed
  closed-over a = close-over a a.slots.phase refl

  resolve-same : (p : PromiseId) (a : Acts) → ((resolve_cancel p a).slots.phase ≡ a.slots.phase) × ((resolve_cancel p a).slots.held ≡ a.slots.held)
  resolve-same p a = either (λ (z : Acts). (z.slots.phase ≡ a.slots.phase) × (z.slots.held ≡ a.slots.held)) a.slots.answered a _ (λ e. (refl, refl)) (λ e. (refl, refl))

  both-same : (a : Acts) → ((if_both t a).slots.phase ≡ a.slots.phase) × ((if_both t a).slots.held ≡ a.slots.held)
  both-same a =
      either (λ (z : Acts). (z.slots.phase ≡ a.slots.phase) × (z.slots.held ≡ a.slots.held)) (is_wanted a.slots) a (cancel_source t a) (λ e. (refl, refl))
      (λ e. resolve-same (next_id a.out.promises)
      (causing (OnReadable a.slots.source (Cancel (Pair t) (next_id a.out.promises)) ∷ []) (record a { out = record a.out { promises = fresh a.out.promises } })))

  reasoned-same : (half : Half) (r : Plain) (x : tee.Slots) → ((with_reason half r x).phase ≡ x.phase) × ((with_reason half r x).held ≡ x.held)
  reasoned-same First r x = (refl, refl)
  reasoned-same Second r x = (refl, refl)

  cancel-same : (half : Half) (r : Plain) (a : Acts) (old : Option Plain) → ((cancel_by t half r a old).slots.phase ≡ a.slots.phase) × ((cancel_by t half r a old).slots.held ≡ a.slots.held)
  cancel-same half r a (Some old) = (refl, refl)
  cancel-same half r a None =
      let k = both-same (with_slots (with_reason half r a.slots) a) in
      let n = reasoned-same half r a.slots in (k.0 ∙ n.0, k.1 ∙ n.1)

  hand-over : (a : Acts) (held : Option Value) → (hand_held t a held).slots.phase ≡ a.slots.phase
  hand-over a None = refl
  hand-over a (Some v) = refl

  hand-held : (a : Acts) (held : Option Value) → a.slots.held ≡ held → (hand_held t a held).slots.held ≡ None
  hand-held a None e = e
  hand-held a (Some v) e = refl

  again-over : (a : Acts) (asked : Bool) → a.slots.phase ≡ Over → (again t a asked).slots.phase ≡ Over
  unfolding pull_branch
  again-over a true e = pull-over a a.slots.phase e e
  again-over a false e = e

  again-held : (a : Acts) (asked : Bool) → (again t a asked).slots.held ≡ a.slots.held
  unfolding pull_branch
  again-held a true = pull-held a a.slots.phase
  again-held a false = refl

  pub over-stays : (operation : TeeOperation) (a : Acts) → a.slots.phase ≡ Over → (tee_operation t operation a).slots.phase ≡ Over
  unfolding pull_branch keep_chunk source_closed source_errored hand_chunk handed cancel_branch reader_settled
  over-stays ops.PullBranch a e = pull-over a a.slots.phase e e
  over-stays (ops.KeepChunk v) a e = e
  over-stays ops.SourceClosed a e = close-over a a.slots.phase refl
  over-stays ops.SourceErrored a e = refl
  over-stays ops.HandChunk a e = hand-over a a.slots.held ∙ e
  over-stays ops.Handed a e = again-over (with_slots (record a.slots { phase = rested a.slots.phase }) a) a.slots.read_again (ap rested e)
  over-stays (ops.CancelBranch half r u) a e = (cancel-same half r a (reason_of half a.slots)).0 ∙ e
  over-stays (ops.ReaderSettled (Ok v)) a e = e
  over-stays (ops.ReaderSettled (Err r)) a e =
      fulfil-phase (causing (OnReadable a.slots.branch1 (Error r) ∷ OnReadable a.slots.branch2 (Error r) ∷ []) a) ∙ e

  abbrev pub IsNoKeep : TeeOperation → Type 0
  IsNoKeep (ops.KeepChunk v) = ⊥
  IsNoKeep _ = Unit {0}

  pub none-held : (operation : TeeOperation) (a : Acts) → IsNoKeep operation → a.slots.held ≡ None → (tee_operation t operation a).slots.held ≡ None
  unfolding pull_branch source_closed source_errored hand_chunk handed cancel_branch reader_settled
  none-held ops.PullBranch a n e = pull-held a a.slots.phase ∙ e
  none-held (ops.KeepChunk v) a n e = absurd n
  none-held ops.SourceClosed a n e = close-held a a.slots.phase ∙ e
  none-held ops.SourceErrored a n e = e
  none-held ops.HandChunk a n e = hand-held a a.slots.held refl
  none-held ops.Handed a n e = again-held (with_slots (record a.slots { phase = rested a.slots.phase }) a) a.slots.read_again ∙ e
  none-held (ops.CancelBranch half r u) a n e = (cancel-same half r a (reason_of half a.slots)).1 ∙ e
  none-held (ops.ReaderSettled (Ok v)) a n e = e
  none-held (ops.ReaderSettled (Err r)) a n e =
      fulfil-held (causing (OnReadable a.slots.branch1 (Error r) ∷ OnReadable a.slots.branch2 (Error r) ∷ []) a) ∙ e

  -- a cancel of a branch leaves its reason

  resolve-reasons : (p : PromiseId) (half : Half) (a : Acts) → reason_of half (resolve_cancel p a).slots ≡ reason_of half a.slots
  resolve-reasons p half a = either (λ (z : Acts). reason_of half z.slots ≡ reason_of half a.slots) a.slots.answered a _ (λ e. refl) (λ e. by half)
    where
      by : (g : Half) → reason_of g (record a.slots { answered = true }) ≡ reason_of g a.slots
      by First = refl
      by Second = refl

  both-reasons : (half : Half) (a : Acts) → reason_of half (if_both t a).slots ≡ reason_of half a.slots
  both-reasons half a =
      either (λ (z : Acts). reason_of half z.slots ≡ reason_of half a.slots) (is_wanted a.slots) a (cancel_source t a) (λ e. refl)
      (λ e. resolve-reasons (next_id a.out.promises) half
      (causing (OnReadable a.slots.source (Cancel (Pair t) (next_id a.out.promises)) ∷ []) (record a { out = record a.out { promises = fresh a.out.promises } })))

  given-reason : (half : Half) (r : Plain) (x : tee.Slots) → reason_of half (with_reason half r x) ≡ Some r
  given-reason First r x = refl
  given-reason Second r x = refl

  cancel-given : (half : Half) (r : Plain) (a : Acts) (old : Option Plain) → reason_of half a.slots ≡ old → is_some (reason_of half (cancel_by t half r a old).slots) ≡ true
  cancel-given half r a (Some old) e = ap (λ (o : Option Plain). is_some o) e
  cancel-given half r a None e =
      ap (λ (o : Option Plain). is_some o) (both-reasons half (with_slots (with_reason half r a.slots) a) ∙ given-reason half r a.slots)

  pub cancelled-reason : (half : Half) (r : Plain) (u : _) (a : Acts) → is_some (reason_of half (tee_operation t (ops.CancelBranch half r u) a).slots) ≡ true
  unfolding cancel_branch
  cancelled-reason half r u a = cancel-given half r a (reason_of half a.slots) refl
