-- What an operation of a tee does outside its record: it makes a promise, queues a microtask, and causes a read or a cancel of its source,
-- operations of its branches and of its own, and what is done with promises.
use Rattle.std.proofs.Common.{◌≡◌, Bool, true, false, not, List, [], ◌∷◌, ◌++◌, Option, Some, None, Ok, Err, ◌⊎◌, inl, inr, refl}
use Rattle.std.specs.Prelude.{◌&&◌}
use Rattle.ws_value.specs.declared.ids.PromiseId.{PromiseId}
use Rattle.ws_value.specs.declared.ids.StreamId.{StreamId}
use Rattle.ws_value.specs.declared.ids.TeeId.{TeeId}
use Rattle.ws_value.specs.declared.value.Plain.{Plain}
use Rattle.ws_value.specs.declared.value.Plain.TheVariants.{Pair}
use Rattle.ws_value.specs.declared.value.Value.{Value}
use Rattle.ws_steps.specs.declared.effects.Effect.{Effect}
use Rattle.ws_steps.specs.declared.effects.Effect.TheVariants.{Readable, Tee, Give, Settle}
use Rattle.ws_steps.specs.declared.effects.Gift.TheVariants.{This}
use Rattle.ws_steps.specs.declared.effects.Use.TheVariants.{Resolve}
use Rattle.ws_steps.specs.declared.promises.Micro.{Micro}
use Rattle.ws_steps.specs.declared.promises.Micro.TheVariants.{TeeHand}
use Rattle.ws_steps.specs.declared.readable.ReadRequest.TheVariants.{Tee as TeeRequest}
use Rattle.ws_steps.specs.declared.readable.ReadableOperation.{ReadableOperation}
use Rattle.ws_steps.specs.declared.readable.ReadableOperation.TheVariants.{Read, Cancel, Enqueue, Close, Error}
use Rattle.ws_steps.specs.declared.tee.Half.{Half}
use Rattle.ws_steps.specs.declared.tee.Half.TheVariants.{First, Second}
use Rattle.ws_steps.specs.declared.tee.TeeOperation.{TeeOperation}
use Rattle.ws_steps.specs.declared.tee.TeeOperation.TheVariants as names
use Rattle.ws_steps.specs.declared.tee.TeePhase.{TeePhase}
use Rattle.ws_steps.specs.declared.tee.TeePhase.TheVariants.{Resting, Reading, Over}
use Rattle.ws_steps.specs.Operations.{tee_operation}
use Rattle.ws_steps.specs.Promises.{Table, next_id, fresh, queue_micro}
use Rattle.ws_steps.specs.Tee.{Slots, Acts, causing, with_slots, done, reason_of, with_reason, is_wanted, unless_cancelled, on_branches, fulfil_cancel, pull_in, pull_branch, keep_chunk, close_branches, close_in, source_closed, source_errored, hand_held, hand_chunk, rested, again, handed, resolve_cancel, cancel_source, if_both, cancel_by, cancel_branch, reader_settled}
use Rattle.ws_laws.proofs.Lists.{Each, each-append}
use Rattle.ws_laws.proofs.Tables.{either}

abbrev pub IsBranch : StreamId → StreamId → StreamId → Type 0
IsBranch first second i = (i ≡ first) ⊎ (i ≡ second)

-- what a tee of this source, with these branches, may cause
abbrev pub TeeCauses : TeeId → StreamId → StreamId → StreamId → Effect → Type 0
TeeCauses me source first second (Readable i (Read request)) = (i ≡ source) × (request ≡ TeeRequest me)
TeeCauses me source first second (Readable i (Cancel r p)) = (i ≡ source) × (r ≡ Pair me)
TeeCauses me source first second (Readable i (Enqueue v)) = IsBranch first second i
TeeCauses me source first second (Readable i Close) = IsBranch first second i
TeeCauses me source first second (Readable i (Error e)) = IsBranch first second i
TeeCauses me source first second (Readable i operation) = ⊥
TeeCauses me source first second (Tee t names.Handed) = t ≡ me
TeeCauses me source first second (Tee t operation) = ⊥
TeeCauses me source first second (Give gift u) = Unit {0}
TeeCauses me source first second (Settle p o) = Unit {0}
TeeCauses me source first second _ = ⊥

module _ (me : TeeId) where
  abbrev May : Slots → Effect → Type 0
  May x e = TeeCauses me x.source x.branch1 x.branch2 e

  -- the streams of a tee and its cancel promise
  pub record Same (x y : Slots) : Type 0 where
    pub source : y.source ≡ x.source
    pub first : y.branch1 ≡ x.branch1
    pub second : y.branch2 ≡ x.branch2
    pub cancel : y.cancel ≡ x.cancel

  -- the effects after an operation are such, and the streams and the cancel promise are the same
  pub record Kept (a b : Acts) : Type 0 where
    pub same : Same a.slots b.slots
    pub effects : Each (May a.slots) a.out.effects → Each (May a.slots) b.out.effects

  same : (x : Slots) → Same x x
  same x = record { source = refl; first = refl; second = refl; cancel = refl }

  stays : (a : Acts) → Kept a a
  stays a = record { same = same a.slots; effects = λ h. h }

  -- effects that it may cause are caused after others
  more : (a b : Acts) (es : List Effect) → Kept a b → Each (May a.slots) es → Kept a (causing es b)
  more a b es k h = record { same = k.same; effects = λ g. each-append (May a.slots) b.out.effects es (k.effects g) h }

  unless-may : (x : Slots) (r : Option Plain) (i : StreamId) (operation : ReadableOperation) → May x (Readable i operation) → Each (May x) (unless_cancelled r i operation)
  unless-may x None i operation h = (h, tt)
  unless-may x (Some r) i operation h = tt

  branches-may : (x : Slots) (operation : ReadableOperation) → May x (Readable x.branch1 operation) → May x (Readable x.branch2 operation) → Each (May x) (on_branches operation x)
  branches-may x operation f g =
      each-append (May x) (unless_cancelled x.reason1 x.branch1 operation) (unless_cancelled x.reason2 x.branch2 operation)
      (unless-may x x.reason1 x.branch1 operation f) (unless-may x x.reason2 x.branch2 operation g)

  fulfil-kept : (a b : Acts) → Kept a b → Kept a (fulfil_cancel b)
  fulfil-kept a b k =
      let y : Slots = record b.slots { answered = true } in
      either (Kept a) (is_wanted b.slots && not b.slots.answered) (causing (Settle b.slots.cancel done ∷ []) (with_slots y b)) b
      (λ e. more a (with_slots y b) (Settle b.slots.cancel done ∷ [])
      (record { same = record { source = k.same.source; first = k.same.first; second = k.same.second; cancel = k.same.cancel }; effects = k.effects }) (tt, tt))
      (λ e. k)

  -- other slots may change
  put : (a : Acts) (y : Slots) → Same a.slots y → Kept a (with_slots y a)
  put a y s = record { same = s; effects = λ h. h }

  pull-kept : (a : Acts) (phase : TeePhase) → Kept a (pull_in me a phase)
  pull-kept a Resting =
      let y : Slots = record a.slots { phase = Reading } in
      more a (with_slots y a) (Readable a.slots.source (Read (TeeRequest me)) ∷ [])
      (put a y (record { source = refl; first = refl; second = refl; cancel = refl })) ((refl, refl), tt)
  pull-kept a Reading = put a (record a.slots { read_again = true }) (record { source = refl; first = refl; second = refl; cancel = refl })
  pull-kept a Over = stays a

  closes-kept : (a : Acts) → Kept a (close_branches a)
  closes-kept a =
      let y : Slots = record a.slots { phase = Over } in
      fulfil-kept a (causing (on_branches Close a.slots) (with_slots y a))
      (more a (with_slots y a) (on_branches Close a.slots) (put a y (record { source = refl; first = refl; second = refl; cancel = refl }))
      (branches-may a.slots Close (inl refl) (inr refl)))

  close-kept : (a : Acts) (phase : TeePhase) → Kept a (close_in a phase)
  close-kept a Resting = closes-kept a
  close-kept a Reading = closes-kept a
  close-kept a Over = stays a

  hand-kept : (a : Acts) (held : Option Value) → Kept a (hand_held me a held)
  hand-kept a None = stays a
  hand-kept a (Some v) =
      let y : Slots = record a.slots { held = None; read_again = false } in
      more a (with_slots y a) (on_branches (Enqueue v) a.slots ++ Tee me names.Handed ∷ [])
      (put a y (record { source = refl; first = refl; second = refl; cancel = refl }))
      (each-append (May a.slots) (on_branches (Enqueue v) a.slots) (Tee me names.Handed ∷ []) (branches-may a.slots (Enqueue v) (inl refl) (inr refl)) (refl, tt))

  again-kept : (a : Acts) (asked : Bool) → Kept a (again me a asked)
  unfolding pull_branch
  again-kept a true = pull-kept a a.slots.phase
  again-kept a false = stays a

  -- one after another
  both-kept : (a b c : Acts) → Kept a b → Kept b c → Kept a c
  both-kept a b c f g =
      let to : Each (May a.slots) b.out.effects → Each (May b.slots) b.out.effects = λ h. rw (f.same.source, f.same.first, f.same.second) h in
      let from : Each (May b.slots) c.out.effects → Each (May a.slots) c.out.effects = λ h. rw (← f.same.source, ← f.same.first, ← f.same.second) h in
      record {
        same = record {
          source = rw (← f.same.source) g.same.source;
          first = rw (← f.same.first) g.same.first;
          second = rw (← f.same.second) g.same.second;
          cancel = rw (← f.same.cancel) g.same.cancel;
        };
        effects = λ h. from (g.effects (to (f.effects h)));
      }

  resolve-kept : (a : Acts) (p : PromiseId) → Kept a (resolve_cancel p a)
  resolve-kept a p =
      let y : Slots = record a.slots { answered = true } in
      either (Kept a) a.slots.answered a (causing (Give (This p) (Resolve a.slots.cancel) ∷ []) (with_slots y a)) (λ e. stays a)
      (λ e. more a (with_slots y a) (Give (This p) (Resolve a.slots.cancel) ∷ []) (put a y (record { source = refl; first = refl; second = refl; cancel = refl })) (tt, tt))

  source-kept : (a : Acts) → Kept a (cancel_source me a)
  source-kept a =
      let p : PromiseId = next_id a.out.promises in
      let b : Acts = record a { out = record a.out { promises = fresh a.out.promises } } in
      let c : Acts = causing (Readable b.slots.source (Cancel (Pair me) p) ∷ []) b in
      both-kept a c (resolve_cancel p c)
      (more a b (Readable a.slots.source (Cancel (Pair me) p) ∷ []) (record { same = same a.slots; effects = λ h. h }) ((refl, refl), tt)) (resolve-kept c p)

  reason-same : (half : Half) (r : Plain) (x : Slots) → Same x (with_reason half r x)
  reason-same First r x = record { source = refl; first = refl; second = refl; cancel = refl }
  reason-same Second r x = record { source = refl; first = refl; second = refl; cancel = refl }

  cancel-kept : (half : Half) (r : Plain) (a : Acts) (reason : Option Plain) → Kept a (cancel_by me half r a reason)
  cancel-kept half r a (Some old) = stays a
  cancel-kept half r a None =
      let b : Acts = with_slots (with_reason half r a.slots) a in
      both-kept a b (if_both me b) (put a (with_reason half r a.slots) (reason-same half r a.slots))
      (either (Kept b) (is_wanted b.slots) b (cancel_source me b) (λ e. stays b) (λ e. source-kept b))

  pub tee-causes : (operation : TeeOperation) (a : Acts) → Kept a (tee_operation me operation a)
  unfolding pull_branch keep_chunk source_closed source_errored hand_chunk handed cancel_branch reader_settled
  tee-causes names.PullBranch a = pull-kept a a.slots.phase
  tee-causes (names.KeepChunk v) a = record { same = record { source = refl; first = refl; second = refl; cancel = refl }; effects = λ h. h }
  tee-causes names.SourceClosed a = close-kept a a.slots.phase
  tee-causes names.SourceErrored a = put a (record a.slots { phase = Over }) (record { source = refl; first = refl; second = refl; cancel = refl })
  tee-causes names.HandChunk a = hand-kept a a.slots.held
  tee-causes names.Handed a =
      let y : Slots = record a.slots { phase = rested a.slots.phase } in
      both-kept a (with_slots y a) (again me (with_slots y a) a.slots.read_again) (put a y (record { source = refl; first = refl; second = refl; cancel = refl }))
      (again-kept (with_slots y a) a.slots.read_again)
  tee-causes (names.CancelBranch half r u) a =
      let b : Acts = cancel_by me half r a (reason_of half a.slots) in
      more a b (Give (This a.slots.cancel) u ∷ []) (cancel-kept half r a (reason_of half a.slots)) (tt, tt)
  tee-causes (names.ReaderSettled (Ok v)) a = stays a
  tee-causes (names.ReaderSettled (Err r)) a =
      let es : List Effect = Readable a.slots.branch1 (Error r) ∷ Readable a.slots.branch2 (Error r) ∷ [] in
      fulfil-kept a (causing es a) (more a a es (stays a) (inl refl, (inr refl, tt)))

-- what goes on with each new promise and with each microtask goes on with each operation
pub record OfTee (T : Table → Type 0) : Type 0 where
  pub fresh : (t : Table) → T t → T (fresh t)
  pub micro : (t : Table) (m : Micro) → T t → T (queue_micro m t)

module _ (T : Table → Type 0) (of : OfTee T) where
  abbrev Does : Acts → Acts → Type 0
  Does a b = T a.out.promises → T b.out.promises

  fulfil-does : (a : Acts) → Does a (fulfil_cancel a)
  fulfil-does a h = either (λ (z : Acts). T z.out.promises) (is_wanted a.slots && not a.slots.answered) _ a (λ e. h) (λ e. h)

  pull-does : (me : TeeId) (a : Acts) (phase : TeePhase) → Does a (pull_in me a phase)
  pull-does me a Resting h = h
  pull-does me a Reading h = h
  pull-does me a Over h = h

  close-does : (a : Acts) (phase : TeePhase) → Does a (close_in a phase)
  close-does a Resting h = fulfil-does (causing (on_branches Close a.slots) (with_slots (record a.slots { phase = Over }) a)) h
  close-does a Reading h = fulfil-does (causing (on_branches Close a.slots) (with_slots (record a.slots { phase = Over }) a)) h
  close-does a Over h = h

  hand-does : (me : TeeId) (a : Acts) (held : Option Value) → Does a (hand_held me a held)
  hand-does me a None h = h
  hand-does me a (Some v) h = h

  again-does : (me : TeeId) (a : Acts) (asked : Bool) → Does a (again me a asked)
  unfolding pull_branch
  again-does me a true h = pull-does me a a.slots.phase h
  again-does me a false h = h

  source-does : (me : TeeId) (a : Acts) → Does a (cancel_source me a)
  source-does me a h =
      let p : PromiseId = next_id a.out.promises in
      let b : Acts = record a { out = record a.out { promises = fresh a.out.promises } } in
      let c : Acts = causing (Readable b.slots.source (Cancel (Pair me) p) ∷ []) b in
      either (λ (z : Acts). T z.out.promises) c.slots.answered c (causing (Give (This p) (Resolve c.slots.cancel) ∷ []) (with_slots (record c.slots { answered = true }) c))
      (λ e. of.fresh a.out.promises h) (λ e. of.fresh a.out.promises h)

  cancel-does : (me : TeeId) (half : Half) (r : Plain) (a : Acts) (reason : Option Plain) → Does a (cancel_by me half r a reason)
  cancel-does me half r a (Some old) h = h
  cancel-does me half r a None h =
      let b : Acts = with_slots (with_reason half r a.slots) a in
      either (λ (z : Acts). T z.out.promises) (is_wanted b.slots) b (cancel_source me b) (λ e. h) (λ e. source-does me b h)

  pub tee-does : (me : TeeId) (operation : TeeOperation) (a : Acts) → Does a (tee_operation me operation a)
  unfolding pull_branch keep_chunk source_closed source_errored hand_chunk handed cancel_branch reader_settled
  tee-does me names.PullBranch a h = pull-does me a a.slots.phase h
  tee-does me (names.KeepChunk v) a h = of.micro a.out.promises (TeeHand me) h
  tee-does me names.SourceClosed a h = close-does a a.slots.phase h
  tee-does me names.SourceErrored a h = h
  tee-does me names.HandChunk a h = hand-does me a a.slots.held h
  tee-does me names.Handed a h = again-does me (with_slots (record a.slots { phase = rested a.slots.phase }) a) a.slots.read_again h
  tee-does me (names.CancelBranch half r u) a h = cancel-does me half r a (reason_of half a.slots) h
  tee-does me (names.ReaderSettled (Ok v)) a h = h
  tee-does me (names.ReaderSettled (Err r)) a h =
      fulfil-does (causing (Readable a.slots.branch1 (Error r) ∷ Readable a.slots.branch2 (Error r) ∷ []) a) h
