-- Operations of a tee keep that nothing bad stands in it, in the promises and in what they cause, where its new promises hand on, and the pair
-- isn't bad where it cancels its source with that.
use Rattle.std.proofs.Common.{◌≡◌, ℕ, ◌+◌, ◌≤◌, ◌<◌, Bool, true, false, not, ◌&&◌, List, [], ◌∷◌, ◌++◌, Option, Some, None, Result, Ok, Err, refl, arith}
use Rattle.ws_value.specs.declared.ids.PromiseId.{PromiseId}
use Rattle.ws_value.specs.declared.ids.StreamId.{StreamId}
use Rattle.ws_value.specs.declared.ids.TeeId.{TeeId}
use Rattle.ws_value.specs.declared.value.Plain.{Plain}
use Rattle.ws_value.specs.declared.value.Plain.TheVariants.{Pair}
use Rattle.ws_value.specs.declared.value.Value.{Value}
use Rattle.ws_steps.specs.declared.effects.Effect.{Effect}
use Rattle.ws_steps.specs.declared.effects.Effect.TheVariants.{Readable as OnReadable, Tee as OnTee, Give, Settle}
use Rattle.ws_steps.specs.declared.effects.Gift.TheVariants.{This}
use Rattle.ws_steps.specs.declared.effects.Use.{Use}
use Rattle.ws_steps.specs.declared.effects.Use.TheVariants.{Resolve}
use Rattle.ws_steps.specs.declared.promises.Micro.TheVariants.{TeeHand}
use Rattle.ws_steps.specs.declared.readable.ReadRequest.TheVariants.{Tee as TeeRequest}
use Rattle.ws_steps.specs.declared.readable.ReadableOperation.{ReadableOperation}
use Rattle.ws_steps.specs.declared.readable.ReadableOperation.TheVariants.{Read, Cancel, Enqueue, Close, Error}
use Rattle.ws_steps.specs.declared.tee.Half.{Half}
use Rattle.ws_steps.specs.declared.tee.TeeOperation.{TeeOperation}
use Rattle.ws_steps.specs.declared.tee.TeeOperation.TheVariants as names
use Rattle.ws_steps.specs.declared.tee.TeePhase.{TeePhase}
use Rattle.ws_steps.specs.declared.tee.TeePhase.TheVariants.{Resting, Reading, Over}
use Rattle.ws_steps.specs.Operations.{tee_operation}
use Rattle.ws_steps.specs.Promises.{next_id, fresh}
use Rattle.ws_steps.specs.Tee.{Slots, Acts, causing, with_slots, done, reason_of, with_reason, is_wanted, unless_cancelled, on_branches, fulfil_cancel, pull_in, pull_branch, keep_chunk, close_branches, close_in, source_closed, source_errored, hand_held, hand_chunk, rested, again, handed, resolve_cancel, cancel_source, if_both, cancel_by, cancel_branch, reader_settled}
use Rattle.ws_laws.proofs.Tables.{either}
use Rattle.ws_reason_laws.proofs.InTable.{fresh-keeps, fresh-count, micro-keeps}
use Rattle.ws_reason_laws.proofs.Readables.{effects-append}
use Rattle.ws_reason_laws.proofs.Weights.{Class, cancelled, loud, settles, of_use, uses, of_readable, of_tee, in_table, in_effects, in_tee, count}

abbrev size : Acts → ℕ
size a = count a.out.promises

-- the pair isn't bad where a branch is cancelled and the other one was
abbrev pub Pairs : (Plain → ℕ) → TeeId → TeeOperation → Slots → Type 0
Pairs bad me (names.CancelBranch half r u) x = reason_of half x ≡ None → is_wanted (with_reason half r x) ≡ false → bad (Pair me) ≡ 0
Pairs bad me _ x = Unit {0}

module _ (k : Class) (me : TeeId) (m : ℕ) where
  -- nothing bad stands in it
  abbrev Good : Acts → Type 0
  Good a = in_tee k a.slots + (in_table k a.out.promises + in_effects k a.out.effects) ≡ 0

  -- with `m` promises after it
  abbrev Ending : Acts → Type 0
  Ending z = size z ≤ m → Good z

  -- the promises from this number on hand on
  abbrev Louds : ℕ → Type 0
  Louds n = (i : ℕ) → n ≤ i → i < m → loud k i ≡ 0

  settles_done : (n : ℕ) → settles k n done ≡ 0
  settles_done n = grind arith

  used : (n : ℕ) (u : Use) → loud k n ≡ 0 → of_use k u ≡ 0 → uses k n u ≡ 0
  used n u h g = grind (arith, h, g)

  -- effects after the others
  causing-good : (a : Acts) (es : List Effect) → in_effects k es ≡ 0 → Good a → Good (causing es a)
  causing-good a es z h = let c = effects-append k a.out.effects es in omega (arith, z, h, c)

  unless-good : (r : Option Plain) (i : StreamId) (operation : ReadableOperation) → of_readable k i operation ≡ 0 → in_effects k (unless_cancelled r i operation) ≡ 0
  unless-good None i operation z = omega (arith, z)
  unless-good (Some r) i operation z = refl

  branches-good : (operation : ReadableOperation) (s : Slots) → ((i : StreamId) → of_readable k i operation ≡ 0) → in_effects k (on_branches operation s) ≡ 0
  branches-good operation s z =
      let a = unless-good s.reason1 s.branch1 operation (z s.branch1) in
      let b = unless-good s.reason2 s.branch2 operation (z s.branch2) in
      let c = effects-append k (unless_cancelled s.reason1 s.branch1 operation) (unless_cancelled s.reason2 s.branch2 operation) in
      omega (arith, a, b, c)

  fulfil-good : (a : Acts) → Good a → Good (fulfil_cancel a)
  fulfil-good a h =
      let y : Slots = record a.slots { answered = true } in
      either Good (is_wanted a.slots && not a.slots.answered) (causing (Settle a.slots.cancel done ∷ []) (with_slots y a)) a
      (λ e. let z = settles_done a.slots.cancel.0 in causing-good (with_slots y a) (Settle a.slots.cancel done ∷ []) (omega (arith, z)) h)
      (λ e. h)

  fulfil-size : (a : Acts) → size (fulfil_cancel a) ≡ size a
  fulfil-size a = either (λ (z : Acts). size z ≡ size a) (is_wanted a.slots && not a.slots.answered) _ a (λ e. refl) (λ e. refl)

  pull-good : (a : Acts) (phase : TeePhase) → Good a → Good (pull_in me a phase)
  pull-good a Resting h = causing-good (with_slots (record a.slots { phase = Reading }) a) (OnReadable a.slots.source (Read (TeeRequest me)) ∷ []) refl h
  pull-good a Reading h = h
  pull-good a Over h = h

  closes-good : (a : Acts) → Good a → Good (close_branches a)
  closes-good a h =
      let b : Acts = with_slots (record a.slots { phase = Over }) a in
      fulfil-good (causing (on_branches Close a.slots) b) (causing-good b (on_branches Close a.slots) (branches-good Close a.slots (λ i. refl)) h)

  close-good : (a : Acts) (phase : TeePhase) → Good a → Good (close_in a phase)
  close-good a Resting h = closes-good a h
  close-good a Reading h = closes-good a h
  close-good a Over h = h

  hand-good : (a : Acts) (held : Option Value) → Good a → Good (hand_held me a held)
  hand-good a None h = h
  hand-good a (Some v) h =
      let b : Acts = with_slots (record a.slots { held = None; read_again = false }) a in
      let z = branches-good (Enqueue v) a.slots (λ i. refl) in
      let c = effects-append k (on_branches (Enqueue v) a.slots) (OnTee me names.Handed ∷ []) in
      causing-good b (on_branches (Enqueue v) a.slots ++ OnTee me names.Handed ∷ []) (omega (arith, z, c)) h

  again-good : (a : Acts) (more : Bool) → Good a → Good (again me a more)
  unfolding pull_branch
  again-good a true h = pull-good a a.slots.phase h
  again-good a false h = h

  -- cancelling

  resolve-good : (p : PromiseId) (a : Acts) → loud k p.0 ≡ 0 → Good a → Good (resolve_cancel p a)
  resolve-good p a l h =
      let y : Slots = record a.slots { answered = true } in
      either Good a.slots.answered a (causing (Give (This p) (Resolve a.slots.cancel) ∷ []) (with_slots y a))
      (λ e. h) (λ e. causing-good (with_slots y a) (Give (This p) (Resolve a.slots.cancel) ∷ []) (omega (arith, l)) h)

  resolve-size : (p : PromiseId) (a : Acts) → size (resolve_cancel p a) ≡ size a
  resolve-size p a = either (λ (z : Acts). size z ≡ size a) a.slots.answered a _ (λ e. refl) (λ e. refl)

  paired : k.bad (Pair me) ≡ 0 → (i : StreamId) → cancelled k i (Pair me) ≡ 0
  paired b i = grind (arith, b)

  source-good : (a : Acts) → k.bad (Pair me) ≡ 0 → Louds (size a) → Good a → Ending (cancel_source me a)
  source-good a pair l h q =
      let p : PromiseId = next_id a.out.promises in
      let b : Acts = record a { out = record a.out { promises = fresh a.out.promises } } in
      let c : Acts = causing (OnReadable b.slots.source (Cancel (Pair me) p) ∷ []) b in
      let n = resolve-size p c in
      let g = fresh-count a.out.promises in
      let f = fresh-keeps k a.out.promises (omega (arith, h)) in
      let z = paired pair b.slots.source in
      let one : loud k (size a) ≡ 0 = l (size a) (omega arith) (omega (arith, g, n, q)) in
      let e : Good b = omega (arith, h, f) in
      resolve-good p c one (causing-good b (OnReadable b.slots.source (Cancel (Pair me) p) ∷ []) (omega (arith, z)) e)

  both-good : (a : Acts) → (is_wanted a.slots ≡ false → k.bad (Pair me) ≡ 0) → Louds (size a) → Good a → Ending (if_both me a)
  both-good a pair l h = either Ending (is_wanted a.slots) a (cancel_source me a) (λ e q. h) (λ e. source-good a (pair e) l h)

  reason-good : (half : Half) (r : Plain) (a : Acts) → Good a → Good (with_slots (with_reason half r a.slots) a)
  reason-good half r a h = grind (arith, h)

  reason-cancel : (half : Half) (r : Plain) (s : Slots) → (with_reason half r s).cancel ≡ s.cancel
  reason-cancel half r s = grind arith

  cancel-good : (half : Half) (r : Plain) (a : Acts) (old : Option Plain) → (old ≡ None → is_wanted (with_reason half r a.slots) ≡ false → k.bad (Pair me) ≡ 0) → Louds (size a) → Good a → Ending (cancel_by me half r a old)
  cancel-good half r a (Some old) pair l h q = h
  cancel-good half r a None pair l h q = both-good (with_slots (with_reason half r a.slots) a) (pair refl) l (reason-good half r a h) q

  branch-good : (half : Half) (r : Plain) (u : Use) (a : Acts) → Pairs k.bad me (names.CancelBranch half r u) a.slots → of_use k u ≡ 0 → Louds (size a) → Good a → Ending (cancel_branch me half r u a)
  unfolding cancel_branch
  branch-good half r u a pair z l h q =
      let w = used a.slots.cancel.0 u (omega (arith, h)) z in
      causing-good (cancel_by me half r a (reason_of half a.slots)) (Give (This a.slots.cancel) u ∷ []) (omega (arith, w)) (cancel-good half r a (reason_of half a.slots) pair l h q)

  settled-good : (o : Result Plain Plain) (a : Acts) → of_tee k (names.ReaderSettled o) ≡ 0 → Good a → Good (reader_settled o a)
  unfolding reader_settled
  settled-good (Ok v) a z h = h
  settled-good (Err r) a z h =
      let es : List Effect = OnReadable a.slots.branch1 (Error r) ∷ OnReadable a.slots.branch2 (Error r) ∷ [] in
      fulfil-good (causing es a) (causing-good a es (omega (arith, z)) h)

  pub tee-good : (operation : TeeOperation) (a : Acts) → Pairs k.bad me operation a.slots → of_tee k operation ≡ 0 → Louds (size a) → Good a → Ending (tee_operation me operation a)
  unfolding pull_branch keep_chunk source_closed source_errored hand_chunk handed
  tee-good names.PullBranch a n f l h = λ q. pull-good a a.slots.phase h
  tee-good (names.KeepChunk v) a n f l h = λ q. let kept = micro-keeps k (TeeHand me) a.out.promises (omega (arith, h)) in omega (arith, h, kept)
  tee-good names.SourceClosed a n f l h = λ q. close-good a a.slots.phase h
  tee-good names.SourceErrored a n f l h = λ q. h
  tee-good names.HandChunk a n f l h = λ q. hand-good a a.slots.held h
  tee-good names.Handed a n f l h = λ q. again-good (with_slots (record a.slots { phase = rested a.slots.phase }) a) a.slots.read_again h
  tee-good (names.CancelBranch half r u) a n f l h = branch-good half r u a n f l h
  tee-good (names.ReaderSettled o) a n f l h = λ q. settled-good o a f h
