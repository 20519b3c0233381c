-- Operations on a tee settle and resolve open promises alone: its cancel promise stands in it until it is settled or resolved.
use Rattle.std.proofs.Common.{◌≡◌, ◌≤◌, ℕ, ◌+◌, Bool, true, false, not, ◌&&◌, List, [], ◌∷◌, ◌++◌, Option, Some, None, Ok, Err, refl, arith}
use Rattle.ws_value.specs.declared.ids.PromiseId.{PromiseId}
use Rattle.ws_value.specs.declared.ids.StreamId.{StreamId}
use Rattle.ws_value.specs.declared.ids.TeeId.{TeeId}
use Rattle.ws_value.specs.declared.value.Plain.{Plain}
use Rattle.ws_value.specs.declared.value.Plain.TheVariants.{Pair}
use Rattle.ws_value.specs.declared.value.Value.{Value}
use Rattle.ws_steps.specs.declared.effects.Effect.{Effect}
use Rattle.ws_steps.specs.declared.effects.Effect.TheVariants.{Readable, Tee, Give, Settle}
use Rattle.ws_steps.specs.declared.effects.Gift.TheVariants.{This}
use Rattle.ws_steps.specs.declared.effects.Use.TheVariants.{Resolve}
use Rattle.ws_steps.specs.declared.promises.Micro.TheVariants.{TeeHand}
use Rattle.ws_steps.specs.declared.readable.ReadRequest.TheVariants.{Tee as TeeRequest}
use Rattle.ws_steps.specs.declared.readable.ReadableOperation.{ReadableOperation}
use Rattle.ws_steps.specs.declared.readable.ReadableOperation.TheVariants.{Read, Cancel, Enqueue, Close, Error}
use Rattle.ws_steps.specs.declared.tee.Half.{Half}
use Rattle.ws_steps.specs.declared.tee.Half.TheVariants.{First, Second}
use Rattle.ws_steps.specs.declared.tee.TeeOperation.{TeeOperation}
use Rattle.ws_steps.specs.declared.tee.TeeOperation.TheVariants as names_of
use Rattle.ws_steps.specs.declared.tee.TeePhase.{TeePhase}
use Rattle.ws_steps.specs.declared.tee.TeePhase.TheVariants.{Resting, Reading, Over}
use Rattle.ws_steps.specs.Operations.{tee_operation}
use Rattle.ws_steps.specs.Promises.{next_id, fresh}
use Rattle.ws_steps.specs.Tee.{Slots, Acts, causing, with_slots, done, reason_of, with_reason, is_wanted, unless_cancelled, on_branches, fulfil_cancel, pull_in, pull_branch, keep_chunk, close_branches, close_in, source_closed, source_errored, hand_held, hand_chunk, rested, again, handed, resolve_cancel, cancel_source, cancel_by, cancel_branch, reader_settled}
use Rattle.ws_laws.proofs.Tables.{either}
use Rattle.ws_promise_laws.proofs.Holds.{holds-less, when}
use Rattle.ws_promise_laws.proofs.Settling.{holds-fresh}
use Rattle.ws_promise_laws.proofs.Reacting.{holds-micro}
use Rattle.ws_promise_laws.proofs.Streams.{in_tee, Tees}
use Rattle.ws_promise_laws.proofs.Tokens.{names, of_use, of_readable, of_tee, in_effects, in_effects-append}

abbrev here : PromiseId → Acts → ℕ
here x a = in_tee x a.slots + in_effects x a.out.effects

-- an operation of the branches that are not cancelled tells of no promise
unless-none : (x : PromiseId) (r : Option Plain) (i : StreamId) (operation : ReadableOperation) → of_readable x operation ≡ 0 → in_effects x (unless_cancelled r i operation) ≡ 0
unless-none x None i operation n = omega (arith, n)
unless-none x (Some r) i operation n = refl

branches-none : (x : PromiseId) (operation : ReadableOperation) (s : Slots) → of_readable x operation ≡ 0 → in_effects x (on_branches operation s) ≡ 0
branches-none x operation s n =
    let a = in_effects-append x (unless_cancelled s.reason1 s.branch1 operation) (unless_cancelled s.reason2 s.branch2 operation) in
    let b = unless-none x s.reason1 s.branch1 operation n in
    let c = unless-none x s.reason2 s.branch2 operation n in
    omega (arith, a, b, c)

-- effects after the others
caused : (x : PromiseId) (es : List Effect) (a : Acts) → here x (causing es a) ≡ here x a + in_effects x es
caused x es a = let n = in_effects-append x a.out.effects es in omega (arith, n)

-- where the cancel promise is settled or resolved, it stands in what does so
answers : (x : PromiseId) (s : Slots) (answered : Bool) → answered ≡ s.answered → answered ≡ false → in_tee x s ≡ names x s.cancel
answers x s true e n = cc
answers x s false e n = let same : in_tee x s ≡ when (not false) (names x s.cancel) = rw (← e) refl in same

not-right : (a b : Bool) → (a && not b) ≡ true → b ≡ false
not-right true true e = cc
not-right true false e = refl
not-right false b e = cc

fulfil-here : (x : PromiseId) (a : Acts) → here x (fulfil_cancel a) ≤ here x a
fulfil-here x a =
    let y : Slots = record a.slots { answered = true } in
    either (λ (z : Acts). here x z ≤ here x a) (is_wanted a.slots && not a.slots.answered) (causing (Settle a.slots.cancel done ∷ []) (with_slots y a)) a
    (λ e.
    let n = answers x a.slots a.slots.answered refl (not-right (is_wanted a.slots) a.slots.answered e) in
    let c = caused x (Settle a.slots.cancel done ∷ []) (with_slots y a) in
    omega (arith, n, c))
    (λ e. omega arith)

fulfil-promises : (a : Acts) → (fulfil_cancel a).out.promises ≡ a.out.promises
fulfil-promises a = either (λ (z : Acts). z.out.promises ≡ a.out.promises) (is_wanted a.slots && not a.slots.answered) _ a (λ e. refl) (λ e. refl)

resolve-here : (x p : PromiseId) (a : Acts) → here x (resolve_cancel p a) ≤ here x a
resolve-here x p a =
    let y : Slots = record a.slots { answered = true } in
    either (λ (z : Acts). here x z ≤ here x a) a.slots.answered a (causing (Give (This p) (Resolve a.slots.cancel) ∷ []) (with_slots y a))
    (λ e. omega arith)
    (λ e.
    let n = answers x a.slots a.slots.answered refl e in
    let c = caused x (Give (This p) (Resolve a.slots.cancel) ∷ []) (with_slots y a) in
    omega (arith, n, c))

resolve-promises : (p : PromiseId) (a : Acts) → (resolve_cancel p a).out.promises ≡ a.out.promises
resolve-promises p a = either (λ (z : Acts). z.out.promises ≡ a.out.promises) a.slots.answered a _ (λ e. refl) (λ e. refl)

module _ (f l : PromiseId → ℕ) where
  -- what was told stands in what is caused, and the promises are the same
  quiet : (n : PromiseId → ℕ) (a b : Acts) → b.out.promises ≡ a.out.promises → ((x : PromiseId) → here x b ≤ n x + here x a) → Tees (λ x. f x + n x) l a → Tees f l b
  quiet n a b e m k =
      rw e (holds-less (λ x. (f x + n x) + here x a) l (λ x. f x + here x b) l a.out.promises k (λ x. let h = m x in omega (arith, h)) (λ x. let h = m x in omega (arith, h)))

  still : (a b : Acts) → b.out.promises ≡ a.out.promises → ((x : PromiseId) → here x b ≤ here x a) → Tees f l a → Tees f l b
  still a b e m k =
      rw e (holds-less (λ x. f x + here x a) l (λ x. f x + here x b) l a.out.promises k (λ x. let h = m x in omega (arith, h)) (λ x. let h = m x in omega (arith, h)))

  -- and one is new
  making : (a b : Acts) → b.out.promises ≡ fresh a.out.promises → ((x : PromiseId) → here x b ≤ here x a + names x (next_id a.out.promises)) → Tees f l a → Tees f l b
  making a b e m k =
      rw e (holds-fresh (λ x. f x + here x a) l (λ x. f x + here x b) l a.out.promises k (λ x. let h = m x in omega (arith, h)) (λ x. let h = m x in omega (arith, h)))

  pulls : (me : TeeId) (a : Acts) (phase : TeePhase) → Tees f l a → Tees f l (pull_in me a phase)
  pulls me a Resting k =
      let es : List Effect = Readable a.slots.source (Read (TeeRequest me)) ∷ [] in
      still a (pull_in me a Resting) refl (λ x. let c = caused x es (with_slots (record a.slots { phase = Reading }) a) in omega (arith, c)) k
  pulls me a Reading k = still a (pull_in me a Reading) refl (λ x. omega arith) k
  pulls me a Over k = k

  closes : (a : Acts) → Tees f l a → Tees f l (close_branches a)
  closes a k =
      let b : Acts = causing (on_branches Close a.slots) (with_slots (record a.slots { phase = Over }) a) in
      still a (fulfil_cancel b) (fulfil-promises b)
      (λ x.
      let h = fulfil-here x b in
      let c = caused x (on_branches Close a.slots) (with_slots (record a.slots { phase = Over }) a) in
      let n = branches-none x Close a.slots refl in
      omega (arith, h, c, n)) k

  closes_in : (a : Acts) (phase : TeePhase) → Tees f l a → Tees f l (close_in a phase)
  closes_in a Resting k = closes a k
  closes_in a Reading k = closes a k
  closes_in a Over k = k

  hands : (me : TeeId) (a : Acts) (held : Option Value) → Tees f l a → Tees f l (hand_held me a held)
  hands me a None k = k
  hands me a (Some v) k =
      let last : List Effect = Tee me names_of.Handed ∷ [] in
      let es : List Effect = on_branches (Enqueue v) a.slots ++ last in
      still a (hand_held me a (Some v)) refl
      (λ x.
      let c = caused x es (with_slots (record a.slots { held = None; read_again = false }) a) in
      let d = in_effects-append x (on_branches (Enqueue v) a.slots) last in
      let n = branches-none x (Enqueue v) a.slots refl in
      omega (arith, c, d, n)) k

  asks_again : (me : TeeId) (a : Acts) (asked : Bool) → Tees f l a → Tees f l (again me a asked)
  unfolding pull_branch
  asks_again me a true k = pulls me a a.slots.phase k
  asks_again me a false k = k

  -- the promise of the source's cancel is new
  sources : (me : TeeId) (a : Acts) → Tees f l a → Tees f l (cancel_source me a)
  sources me a k =
      let p : PromiseId = next_id a.out.promises in
      let b : Acts = record a { out = record a.out { promises = fresh a.out.promises } } in
      let es : List Effect = Readable b.slots.source (Cancel (Pair me) p) ∷ [] in
      let c : Acts = causing es b in
      making a (resolve_cancel p c) (resolve-promises p c)
      (λ x. let h = resolve-here x p c in let n = caused x es b in omega (arith, h, n)) k

  reasons : (half : Half) (r : Plain) (a : Acts) → Tees f l a → Tees f l (with_slots (with_reason half r a.slots) a)
  reasons First r a k = k
  reasons Second r a k = k

  cancels : (me : TeeId) (half : Half) (r : Plain) (a : Acts) (reason : Option Plain) → Tees f l a → Tees f l (cancel_by me half r a reason)
  cancels me half r a (Some old) k = k
  cancels me half r a None k =
      let b : Acts = with_slots (with_reason half r a.slots) a in
      either (Tees f l) (is_wanted b.slots) b (cancel_source me b) (λ e. reasons half r a k) (λ e. sources me b (reasons half r a k))

-- an operation takes the promises that it was told of
pub tees : (f l : PromiseId → ℕ) (me : TeeId) (operation : TeeOperation) (a : Acts) → Tees (λ x. f x + of_tee x operation) l a → Tees f l (tee_operation me operation a)
unfolding pull_branch keep_chunk source_closed source_errored hand_chunk handed cancel_branch reader_settled
tees f l me names_of.PullBranch a k = pulls f l me a a.slots.phase (quiet f l (λ x. 0) a a refl (λ x. omega arith) k)
tees f l me (names_of.KeepChunk v) a k =
    let b : Acts = with_slots (record a.slots { held = Some v }) a in
    let h : Tees f l b = quiet f l (λ x. 0) a b refl (λ x. omega arith) k in
    holds-micro (λ x. f x + here x b) l (TeeHand me) b.out.promises h
tees f l me names_of.SourceClosed a k = closes_in f l a a.slots.phase (quiet f l (λ x. 0) a a refl (λ x. omega arith) k)
tees f l me names_of.SourceErrored a k = quiet f l (λ x. 0) a (source_errored a) refl (λ x. omega arith) k
tees f l me names_of.HandChunk a k = hands f l me a a.slots.held (quiet f l (λ x. 0) a a refl (λ x. omega arith) k)
tees f l me names_of.Handed a k =
    let b : Acts = with_slots (record a.slots { phase = rested a.slots.phase }) a in
    asks_again f l me b a.slots.read_again (quiet f l (λ x. 0) a b refl (λ x. omega arith) k)
tees f l me (names_of.CancelBranch half r u) a k =
    let b : Acts = cancel_by me half r a (reason_of half a.slots) in
    let g : PromiseId → ℕ = λ x. f x + of_use x u in
    quiet f l (λ x. of_use x u) b (causing (Give (This a.slots.cancel) u ∷ []) b) refl
    (λ x. let c = caused x (Give (This a.slots.cancel) u ∷ []) b in omega (arith, c)) (cancels g l me half r a (reason_of half a.slots) k)
tees f l me (names_of.ReaderSettled (Ok v)) a k = quiet f l (λ x. 0) a a refl (λ x. omega arith) k
tees f l me (names_of.ReaderSettled (Err r)) a k =
    let es : List Effect = Readable a.slots.branch1 (Error r) ∷ Readable a.slots.branch2 (Error r) ∷ [] in
    let b : Acts = causing es a in
    quiet f l (λ x. 0) a (fulfil_cancel b) (fulfil-promises b) (λ x. let h = fulfil-here x b in let c = caused x es a in omega (arith, h, c)) k
