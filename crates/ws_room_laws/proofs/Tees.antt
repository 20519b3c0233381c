-- What an operation of a tee takes. What it does to its source is paid for by the tee, which kept the price.
use Rattle.std.proofs.Common.{◌≡◌, ◌≤◌, ℕ, ◌+◌, Bool, true, false, not, List, [], ◌∷◌, ◌++◌, Option, Some, None, Ok, Err, refl, ap, arith}
use Rattle.std.specs.Prelude.{◌&&◌, ◌||◌, is_none, if◌then◌else◌}
use Rattle.ws_value.specs.declared.ids.PromiseId.{PromiseId}
use Rattle.ws_value.specs.declared.ids.StreamId.{StreamId}
use Rattle.ws_value.specs.declared.ids.TeeId.{TeeId}
use Rattle.ws_value.specs.declared.value.Plain.{Plain}
use Rattle.ws_value.specs.declared.value.Plain.TheVariants.{Pair}
use Rattle.ws_value.specs.declared.value.Value.{Value}
use Rattle.ws_steps.specs.declared.effects.Effect.{Effect}
use Rattle.ws_steps.specs.declared.effects.Effect.TheVariants.{Readable as OnReadable, Tee as OnTee, Give, Settle}
use Rattle.ws_steps.specs.declared.effects.Gift.TheVariants.{This}
use Rattle.ws_steps.specs.declared.effects.Use.TheVariants.{Resolve}
use Rattle.ws_steps.specs.declared.promises.Micro.TheVariants.{TeeHand}
use Rattle.ws_steps.specs.declared.readable.ReadRequest.TheVariants.{Tee as TeeRequest}
use Rattle.ws_steps.specs.declared.readable.ReadableOperation.{ReadableOperation}
use Rattle.ws_steps.specs.declared.readable.ReadableOperation.TheVariants.{Read, Cancel, Enqueue as EnqueueChunk, Close as CloseReadable, Error as ErrorReadable}
use Rattle.ws_steps.specs.declared.tee.Half.{Half}
use Rattle.ws_steps.specs.declared.tee.Half.TheVariants.{First, Second}
use Rattle.ws_steps.specs.declared.tee.TeeOperation.{TeeOperation}
use Rattle.ws_steps.specs.declared.tee.TeeOperation.TheVariants as names
use Rattle.ws_steps.specs.declared.tee.TeePhase.{TeePhase}
use Rattle.ws_steps.specs.declared.tee.TeePhase.TheVariants.{Resting, Reading, Over}
use Rattle.ws_steps.specs.Operations.{tee_operation}
use Rattle.ws_steps.specs.Promises.{next_id, fresh}
use Rattle.ws_steps.specs.Tee.{Slots, Acts, causing, with_slots, done, reason_of, with_reason, is_wanted, unless_cancelled, on_branches, fulfil_cancel, pull_in, pull_branch, keep_chunk, close_in, source_closed, source_errored, hand_held, hand_chunk, rested, again, handed, resolve_cancel, cancel_source, cancel_by, cancel_branch, reader_settled}
use Rattle.ws_steps.specs.Places.{Prices, price, prices_of, readable_price, tee_read, tee_price, phase_keeps, cancel_keeps, tee_keeps, table_size}
use Rattle.ws_room_laws.proofs.Tables.{fresh-size, micro-size}
use Rattle.ws_room_laws.proofs.Readables.{prices-append}

abbrev pub tee_holds : Prices → Acts → ℕ
tee_holds π a = prices_of π a.out.effects + table_size π a.out.promises + tee_keeps π a.slots

or-true : (b : Bool) → (b || true) ≡ true
or-true true = refl
or-true false = refl

-- where this branch isn't cancelled, one isn't
wanted-before : (half : Half) (x : Slots) → None ≡ reason_of half x → is_wanted x ≡ true
wanted-before First x is = rw (← is) refl
wanted-before Second x is = rw (← is) (or-true (is_none x.reason1))

module _ (π : Prices) (me : TeeId) where
  -- b holds at most n more than a
  abbrev Takes : ℕ → Acts → Acts → Type 0
  Takes n a b = tee_holds π b ≤ tee_holds π a + n

  either-takes : (n : ℕ) (test : Bool) (a b c : Acts) → Takes n a b → Takes n a c → Takes n a (if test then b else c)
  either-takes n true a b c h g = h
  either-takes n false a b c h g = g

  branch-price : (r : Option Plain) (i : StreamId) (operation : ReadableOperation) → prices_of π (unless_cancelled r i operation) ≤ readable_price π i operation
  branch-price None i operation = omega arith
  branch-price (Some r) i operation = omega arith

  branches-price : (operation : ReadableOperation) (x : Slots) → prices_of π (on_branches operation x) ≤ readable_price π x.branch1 operation + readable_price π x.branch2 operation
  branches-price operation x =
      let a = prices-append π (unless_cancelled x.reason1 x.branch1 operation) (unless_cancelled x.reason2 x.branch2 operation) in
      let b = branch-price x.reason1 x.branch1 operation in
      let c = branch-price x.reason2 x.branch2 operation in omega (arith, a, b, c)

  fulfil-takes : (a : Acts) → Takes (price π 1 0 0 0 0 0 0) a (fulfil_cancel a)
  fulfil-takes a =
      let b : Acts = with_slots (record a.slots { answered = true }) a in
      let f = prices-append π b.out.effects (Settle a.slots.cancel done ∷ []) in
      either-takes (price π 1 0 0 0 0 0 0) (is_wanted a.slots && not a.slots.answered) a (causing (Settle a.slots.cancel done ∷ []) b) a (omega (arith, f)) (omega arith)

  -- the tee kept the price of the read
  pull-takes : (a : Acts) (phase : TeePhase) → phase ≡ a.slots.phase → Takes 0 a (pull_in me a phase)
  pull-takes a Resting is =
      let k = ap (phase_keeps π a.slots.source) is in
      let f = prices-append π a.out.effects (OnReadable a.slots.source (Read (TeeRequest me)) ∷ []) in omega (arith, k, f)
  pull-takes a Reading is = omega arith
  pull-takes a Over is = omega arith

  -- and that of the close of its branches
  close-takes : (a : Acts) (phase : TeePhase) → phase ≡ a.slots.phase → Takes 0 a (close_in a phase)
  close-takes a Resting is =
      let b : Acts = causing (on_branches CloseReadable a.slots) (with_slots (record a.slots { phase = Over }) a) in
      let h = fulfil-takes b in
      let f = prices-append π a.out.effects (on_branches CloseReadable a.slots) in
      let g = branches-price CloseReadable a.slots in
      let k = ap (phase_keeps π a.slots.source) is in omega (arith, h, f, g, k)
  close-takes a Reading is =
      let b : Acts = causing (on_branches CloseReadable a.slots) (with_slots (record a.slots { phase = Over }) a) in
      let h = fulfil-takes b in
      let f = prices-append π a.out.effects (on_branches CloseReadable a.slots) in
      let g = branches-price CloseReadable a.slots in
      let k = ap (phase_keeps π a.slots.source) is in omega (arith, h, f, g, k)
  close-takes a Over is = omega arith

  hand-takes : (a : Acts) (held : Option Value) → Takes (price π 15 3 4 3 3 2 1) a (hand_held me a held)
  hand-takes a None = omega arith
  hand-takes a (Some v) =
      let f = prices-append π a.out.effects (on_branches (EnqueueChunk v) a.slots ++ OnTee me names.Handed ∷ []) in
      let g = prices-append π (on_branches (EnqueueChunk v) a.slots) (OnTee me names.Handed ∷ []) in
      let h = branches-price (EnqueueChunk v) a.slots in omega (arith, f, g, h)

  again-takes : (a : Acts) (asked : Bool) → Takes 0 a (again me a asked)
  unfolding pull_branch
  again-takes a true = pull-takes a a.slots.phase refl
  again-takes a false = omega arith

  -- what it keeps once it rests
  rest-keeps : (i : StreamId) (phase : TeePhase) → phase_keeps π i (rested phase) ≤ phase_keeps π i phase + tee_read π i
  rest-keeps i Resting = omega arith
  rest-keeps i Reading = omega arith
  rest-keeps i Over = omega arith

  resolve-takes : (p : PromiseId) (a : Acts) → Takes (price π 1 0 1 0 0 0 0) a (resolve_cancel p a)
  resolve-takes p a =
      let b : Acts = with_slots (record a.slots { answered = true }) a in
      let f = prices-append π b.out.effects (Give (This p) (Resolve a.slots.cancel) ∷ []) in
      either-takes (price π 1 0 1 0 0 0 0) a.slots.answered a a (causing (Give (This p) (Resolve a.slots.cancel) ∷ []) b) (omega arith) (omega (arith, f))

  source-takes : (a : Acts) → Takes (price π 6 3 3 1 1 0 0) a (cancel_source me a)
  source-takes a =
      let p : PromiseId = next_id a.out.promises in
      let b : Acts = record a { out = record a.out { promises = fresh a.out.promises } } in
      let c : Acts = causing (OnReadable a.slots.source (Cancel (Pair me) p) ∷ []) b in
      let h = resolve-takes p c in
      let f = fresh-size π a.out.promises in
      let g = prices-append π a.out.effects (OnReadable a.slots.source (Cancel (Pair me) p) ∷ []) in omega (arith, h, f, g)

  same-phase : (half : Half) (r : Plain) (x : Slots) → phase_keeps π (with_reason half r x).source (with_reason half r x).phase ≡ phase_keeps π x.source x.phase
  same-phase First r x = refl
  same-phase Second r x = refl

  -- the tee kept the price of the cancel, as long as one branch isn't cancelled
  both-takes : (half : Half) (r : Plain) (a : Acts) (wanted : Bool) → let b : Acts = with_slots (with_reason half r a.slots) a in
      wanted ≡ is_wanted b.slots → is_wanted a.slots ≡ true → Takes π.promise a (if wanted then b else cancel_source me b)
  both-takes half r a true is before =
      let k = ap (cancel_keeps π) is in
      let m = ap (cancel_keeps π) before in
      let n = same-phase half r a.slots in omega (arith, k, m, n)
  both-takes half r a false is before =
      let h = source-takes (with_slots (with_reason half r a.slots) a) in
      let k = ap (cancel_keeps π) is in
      let m = ap (cancel_keeps π) before in
      let n = same-phase half r a.slots in omega (arith, h, k, m, n)

  cancel-takes : (half : Half) (r : Plain) (a : Acts) (reason : Option Plain) → reason ≡ reason_of half a.slots → Takes π.promise a (cancel_by me half r a reason)
  cancel-takes half r a (Some old) is = omega arith
  cancel-takes half r a None is = both-takes half r a (is_wanted (with_reason half r a.slots)) refl (wanted-before half a.slots is)

  pub tee-takes : ((j : StreamId) → π.reads j ≤ π.request) → (operation : TeeOperation) (a : Acts)
      → tee_holds π (tee_operation me operation a) + π.turn ≤ tee_holds π a + tee_price π operation
  unfolding pull_branch keep_chunk source_closed source_errored hand_chunk handed cancel_branch reader_settled
  tee-takes others names.PullBranch a = let h = pull-takes a a.slots.phase refl in omega (arith, h)
  tee-takes others (names.KeepChunk v) a = let h = micro-size π (TeeHand me) a.out.promises in omega (arith, h)
  tee-takes others names.SourceClosed a = let h = close-takes a a.slots.phase refl in omega (arith, h)
  tee-takes others names.SourceErrored a = omega arith
  tee-takes others names.HandChunk a = let h = hand-takes a a.slots.held in omega (arith, h)
  tee-takes others names.Handed a =
      let b : Acts = with_slots (record a.slots { phase = rested a.slots.phase }) a in
      let h = again-takes b a.slots.read_again in
      let k = rest-keeps a.slots.source a.slots.phase in
      let o = others a.slots.source in omega (arith, h, k, o)
  tee-takes others (names.CancelBranch half r u) a =
      let b : Acts = cancel_by me half r a (reason_of half a.slots) in
      let h = cancel-takes half r a (reason_of half a.slots) refl in
      let f = prices-append π b.out.effects (Give (This a.slots.cancel) u ∷ []) in omega (arith, h, f)
  tee-takes others (names.ReaderSettled (Ok v)) a = omega arith
  tee-takes others (names.ReaderSettled (Err r)) a =
      let es : List Effect = OnReadable a.slots.branch1 (ErrorReadable r) ∷ OnReadable a.slots.branch2 (ErrorReadable r) ∷ [] in
      let h = fulfil-takes (causing es a) in
      let f = prices-append π a.out.effects es in omega (arith, h, f)
