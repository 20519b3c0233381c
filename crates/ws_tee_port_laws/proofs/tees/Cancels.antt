-- When the source of a tee is cancelled, and by whom (`each_source_is_cancelled_by_both`).
use Rattle.std.proofs.Common.{◌≡◌, ◌≢◌, ⊎_elim, ℕ, zero, suc, ◌+◌, Bool, true, false, not, ◌&&◌, nat_eq, if◌then◌else◌, is_some, is_none, List, [], ◌∷◌, ◌++◌, length, Option, Some, None, Ok, Err, slice_get, slice_set, refl, sym, ap, subst, ◌∙◌, append_assoc, append-nil, arith}
use Rattle.ws_value.specs.declared.ids.PortId.{PortId}
use Rattle.ws_value.specs.declared.ids.{PromiseId.{PromiseId}, StreamId.{StreamId}, TeeId.{TeeId}}
use Rattle.ws_value.specs.declared.value.{Plain.{Plain}, Plain.TheVariants.{Pair}, Value.{Value}}
use Rattle.ws_steps.specs.declared.calls.Call.{Call}
use Rattle.ws_steps.specs.declared.effects.{Effect.{Effect}, Effect.TheVariants.{Readable as OnReadable, Pipe as OnPipe, Tee as OnTee, ChunkSteps, Give}}
use Rattle.ws_steps.specs.declared.effects.{Gift.TheVariants.{This}, Use.TheVariants.{Resolve}}
use Rattle.ws_steps.specs.declared.{promises.Job.{Job}}
use Rattle.ws_steps.specs.declared.readable.{ReadRequest.TheVariants.{Tee as TeeRequest}, ReadableOperation.{ReadableOperation}, ReadableOperation.TheVariants.{InitializeReader, Read, Cancel, CancelIfReadable, Enqueue, Close, Error}}
use Rattle.ws_steps.specs.declared.tee.{Half.{Half}, Half.TheVariants.{First, Second}, TeeOperation.{TeeOperation}, TeePhase.{TeePhase}, TeePhase.TheVariants.{Resting, Reading, Over}}
use Rattle.ws_steps.specs.declared.tee.TeeOperation.TheVariants as names
use Rattle.ws_steps.specs.declared.transform.TransformId.{TransformId}
use Rattle.ws_steps.specs.Begun.{Begun}
use Rattle.ws_steps.specs.MakingCalls.{make_tee}
use Rattle.ws_steps.specs.PipeCalls.{add_port}
use Rattle.ws_steps.specs.Calls.{begin}
use Rattle.ws_steps.specs.Histories.{is_same}
use Rattle.ws_steps.specs.Jobs.{job_effects}
use Rattle.ws_steps.specs.Operations.{tee_operation}
use Rattle.ws_steps.specs.Promises.{next_id, fresh}
use Rattle.ws_steps.specs.Run.{Entry, run}
use Rattle.ws_steps.specs.Slots.{Slots, Done, empty, found, on_tee_at, as_tee}
use Rattle.ws_steps.specs.Tee as tee
use Rattle.ws_steps.specs.Tee.{Acts, causing, with_slots, reason_of, with_reason, is_wanted, on_branches, unless_cancelled, fulfil_cancel, pull_in, pull_branch, keep_chunk, close_in, source_closed, source_errored, hand_held, hand_chunk, rested, again, handed, resolve_cancel, cancel_source, if_both, cancel_by, cancel_branch, reader_settled}
use Rattle.ws_steps.specs.TeeHistory.{Teed, no_teed, teed_then, is_source_of, operation_teed, effect_teed, run_teed}
use Rattle.ws_steps.specs.TeeLaws.{cancels_of, EachSourceIsCancelledByBoth}
use Rattle.ws_steps.specs.Turns.{row}
use Rattle.ws_laws.proofs.Begin.{begin-makes}
use Rattle.ws_laws.proofs.EachCall.{each_call}
use Rattle.ws_laws.proofs.Halves.{get-stays, get-either}
use Rattle.ws_laws.proofs.Lists.{Each, each-append, each-map}
use Rattle.ws_laws.proofs.Apart.{IsNoPipe, IsNoTee, row-tees}
use Rattle.ws_laws.proofs.Causes.{Causes, row-causes}
use Rattle.ws_laws.proofs.Shapes.{tee_shape, map-there}
use Rattle.ws_laws.proofs.Tables.{either, is_same-refl, same_id, eq_numbers, unequal_numbers}
use Rattle.ws_laws.proofs.TeeDoes.{TeeCauses, tee-causes}
use Rattle.ws_laws.proofs.TransformDoes.{TransformCauses}
use Rattle.ws_laws.proofs.Walker.{IsHistory, GoesUntold, RestsUntold, run-holds}
use Rattle.ws_pipe_laws.specs.locks.LockLaws.{spares, all_spare}
use Rattle.ws_pipe_laws.proofs.locks.Few.{no_stream}
use Rattle.ws_pipe_laws.proofs.locks.TeeOwning.{Fair, Owned, same_tee, alone-now, piped-fair, calls-spare, owned-stays, owned-heard, owned-empty}
use Rattle.ws_steps.specs.declared.port.Side.{Side}
use Rattle.ws_steps.specs.declared.port.Side.TheVariants.{Readable as ReadableSide, Writable as WritableSide}
use Rattle.ws_laws.proofs.PortDoes.{PortCauses}

-- the reasons with which an effect cancels stream i
abbrev seen : StreamId → Effect → List Plain
seen i (OnReadable j operation) = (if is_same j i then operation_teed operation else no_teed).cancels
seen i _ = []

abbrev all_seen : StreamId → List Effect → List Plain
all_seen i [] = []
all_seen i (e ∷ es) = seen i e ++ all_seen i es

-- it cancels it not
abbrev Not : StreamId → Effect → Type 0
Not i e = seen i e ≡ []

module _ (i : StreamId) where
  seen-append : (es fs : List Effect) → all_seen i (es ++ fs) ≡ all_seen i es ++ all_seen i fs
  seen-append [] fs = refl
  seen-append (e ∷ es) fs = ap (λ rs. seen i e ++ rs) (seen-append es fs) ∙ sym (append_assoc (seen i e) (all_seen i es) (all_seen i fs))

  none-seen : (es : List Effect) → Each (Not i) es → all_seen i es ≡ []
  none-seen [] n = refl
  none-seen (e ∷ es) n = rw (n.0) (none-seen es n.1)

  not-cancel : (j : StreamId) (operation : ReadableOperation) → operation_teed operation ≡ no_teed → Not i (OnReadable j operation)
  not-cancel j operation n = either (λ (h : Teed). h.cancels ≡ []) (is_same j i) (operation_teed operation) no_teed (λ e. ap (λ (h : Teed). h.cancels) n) (λ e. refl)

  seen-by : (j : StreamId) (operation : ReadableOperation) (same : Bool) → is_same j i ≡ same → seen i (OnReadable j operation) ≡ (if same then operation_teed operation else no_teed).cancels
  seen-by j operation same e = ap (λ (b : Bool). (if b then operation_teed operation else no_teed).cancels) e

  apart-not : (j : StreamId) (operation : ReadableOperation) (same : Bool) → same ≡ is_same j i → j ≢ i → Not i (OnReadable j operation)
  apart-not j operation true e n = absurd (n (same_id j i (sym e)))
  apart-not j operation false e n = seen-by j operation false (sym e)

  -- other effects

  transform_not : (me : TransformId) (writable readable : StreamId) (e : Effect) → TransformCauses me writable readable e → Not i e
  transform_not me writable readable e c = grind (arith, c)

  port-not : (c : PortId) (stream : StreamId) (e : Effect) → PortCauses c stream e → Not i e
  port-not c stream (OnReadable j (Cancel r p)) k = absurd k
  port-not c stream (OnReadable j (CancelIfReadable r p)) k = absurd k
  port-not c stream (OnReadable j operation) k = not-cancel j operation refl
  port-not c stream e k = refl

  other-not : (e : Effect) → IsNoPipe e → IsNoTee e → Causes (Not i) e
  other-not e n m = grind (arith, n, m, transform_not, port-not)

  -- an operation of the reader that may be that of two tees is none
  two_pairs : {A : Type 0} (t : TeeId) (r : Plain) → r ≡ Pair t → r ≡ Pair (record { 0 = suc t.0 }) → A
  two_pairs t r a b =
      let same : Pair t ≡ Pair (record { 0 = suc t.0 }) = sym a ∙ b in
      let number : t.0 ≡ suc t.0 = cc in absurd (omega (arith, number))

  both-not : (t : TeeId) (e : Effect) → Fair t i e → Fair (record { 0 = suc t.0 }) i e → Not i e
  both-not t (OnReadable j (Cancel r p)) f g = by (is_same j i) refl
    where
      by : (same : Bool) → same ≡ is_same j i → Not i (OnReadable j (Cancel r p))
      by true e = two_pairs t r (f (sym e)) (g (sym e))
      by false e = seen-by j (Cancel r p) false (sym e)
  both-not t (OnReadable j (CancelIfReadable r p)) f g = by (is_same j i) refl
    where
      by : (same : Bool) → same ≡ is_same j i → Not i (OnReadable j (CancelIfReadable r p))
      by true e = absurd (f (sym e))
      by false e = seen-by j (CancelIfReadable r p) false (sym e)
  both-not t (OnReadable j operation) f g = not-cancel j operation refl
  both-not t e f g = refl

  each-both : (t : TeeId) (es : List Effect) → Each (Fair t i) es → Each (Fair (record { 0 = suc t.0 }) i) es → Each (Not i) es
  each-both t [] f g = tt
  each-both t (e ∷ es) f g = (both-not t e f.0 g.0, each-both t es f.1 g.1)

  tee-not : (u : TeeId) (source first second : StreamId) → source ≢ i → (e : Effect) → TeeCauses u source first second e → Not i e
  tee-not u source first second apart (OnReadable j (Cancel r p)) c = apart-not j (Cancel r p) (is_same j i) refl (λ h. apart (sym c.0 ∙ h))
  tee-not u source first second apart (OnReadable j (CancelIfReadable r p)) c = absurd c
  tee-not u source first second apart (OnReadable j operation) c = not-cancel j operation refl
  tee-not u source first second apart e c = refl

  spare_not : (e : Effect) → spares i no_stream e ≡ true → Not i e
  spare_not (OnReadable j (Cancel r p)) spare = by (is_same j i) refl
    where
      by : (same : Bool) → same ≡ is_same j i → Not i (OnReadable j (Cancel r p))
      by true e = let wrong : false ≡ true = sym (ap not (sym e)) ∙ spare in cc
      by false e = seen-by j (Cancel r p) false (sym e)
  spare_not (OnReadable j (CancelIfReadable r p)) spare = by (is_same j i) refl
    where
      by : (same : Bool) → same ≡ is_same j i → Not i (OnReadable j (CancelIfReadable r p))
      by true e = let wrong : false ≡ true = sym (ap not (sym e)) ∙ spare in cc
      by false e = seen-by j (CancelIfReadable r p) false (sym e)
  spare_not (OnReadable j operation) spare = not-cancel j operation refl
  spare_not e spare = refl

  and-first : (a b : Bool) → a && b ≡ true → a ≡ true
  and-first a b h = grind arith

  and-second : (a b : Bool) → a && b ≡ true → b ≡ true
  and-second a b h = grind arith

  spares-not : (es : List Effect) → all_spare i no_stream es ≡ true → Each (Not i) es
  spares-not [] spare = tt
  spares-not (e ∷ es) spare = (spare_not e (and-first (spares i no_stream e) (all_spare i no_stream es) spare), spares-not es (and-second (spares i no_stream e) (all_spare i no_stream es) spare))

-- an operation of the tee itself

-- it cancels nothing and takes no reason, or takes the second, and cancels with the pair
data Moves (t : TeeId) (i : StreamId) (x : tee.Slots) (b : Acts) : Type 0 where
  Still : all_seen i b.out.effects ≡ [] → is_wanted b.slots ≡ is_wanted x → Moves t i x b
  Both : all_seen i b.out.effects ≡ Pair t ∷ [] → is_wanted x ≡ true → is_wanted b.slots ≡ false → Moves t i x b

module _ (t : TeeId) (i : StreamId) where
  -- nothing is seen of what is caused, and the reasons are the same
  record Quiet (a b : Acts) : Type 0 where
    effects : Each (Not i) a.out.effects → Each (Not i) b.out.effects
    first : b.slots.reason1 ≡ a.slots.reason1
    second : b.slots.reason2 ≡ a.slots.reason2

  quiet : (a : Acts) → Quiet a a
  quiet a = record { effects = λ h. h; first = refl; second = refl }

  more : (a b : Acts) (es : List Effect) → Quiet a b → Each (Not i) es → Quiet a (causing es b)
  more a b es q n = record { effects = λ h. each-append (Not i) b.out.effects es (q.effects h) n; first = q.first; second = q.second }

  unless-not : (r : Option Plain) (j : StreamId) (operation : ReadableOperation) → operation_teed operation ≡ no_teed → Each (Not i) (unless_cancelled r j operation)
  unless-not None j operation n = (not-cancel i j operation n, tt)
  unless-not (Some r) j operation n = tt

  branches-not : (x : tee.Slots) (operation : ReadableOperation) → operation_teed operation ≡ no_teed → Each (Not i) (on_branches operation x)
  branches-not x operation n =
      each-append (Not i) (unless_cancelled x.reason1 x.branch1 operation) (unless_cancelled x.reason2 x.branch2 operation) (unless-not x.reason1 x.branch1 operation n) (unless-not x.reason2 x.branch2 operation n)

  fulfil-quiet : (a b : Acts) → Quiet a b → Quiet a (fulfil_cancel b)
  fulfil-quiet a b q =
      either (Quiet a) (is_wanted b.slots && not b.slots.answered) _ b
      (λ e. record { effects = λ h. each-append (Not i) b.out.effects _ (q.effects h) (refl, tt); first = q.first; second = q.second }) (λ e. q)

  pull-quiet : (a : Acts) (phase : TeePhase) → Quiet a (pull_in t a phase)
  pull-quiet a Resting = record { effects = λ h. each-append (Not i) a.out.effects _ h (not-cancel i a.slots.source (Read (TeeRequest t)) refl, tt); first = refl; second = refl }
  pull-quiet a Reading = record { effects = λ h. h; first = refl; second = refl }
  pull-quiet a Over = quiet a

  closes-quiet : (a : Acts) → Quiet a (fulfil_cancel (causing (on_branches Close a.slots) (with_slots (record a.slots { phase = Over }) a)))
  closes-quiet a =
      fulfil-quiet a (causing (on_branches Close a.slots) (with_slots (record a.slots { phase = Over }) a))
      (record { effects = λ h. each-append (Not i) a.out.effects (on_branches Close a.slots) h (branches-not a.slots Close refl); first = refl; second = refl })

  close-quiet : (a : Acts) (phase : TeePhase) → Quiet a (close_in a phase)
  close-quiet a Resting = closes-quiet a
  close-quiet a Reading = closes-quiet a
  close-quiet a Over = quiet a

  hand-quiet : (a : Acts) (held : Option Value) → Quiet a (hand_held t a held)
  hand-quiet a None = quiet a
  hand-quiet a (Some v) = record {
    effects = λ h. each-append (Not i) a.out.effects (on_branches (Enqueue v) a.slots ++ OnTee t names.Handed ∷ []) h
        (each-append (Not i) (on_branches (Enqueue v) a.slots) (OnTee t names.Handed ∷ []) (branches-not a.slots (Enqueue v) refl) (refl, tt));
    first = refl;
    second = refl;
  }

  again-quiet : (a : Acts) (asked : Bool) → Quiet a (again t a asked)
  unfolding pull_branch
  again-quiet a true = pull-quiet a a.slots.phase
  again-quiet a false = quiet a

  still : (a b : Acts) → a.out.effects ≡ [] → Quiet a b → Moves t i a.slots b
  still a b none q = Still (none-seen i b.out.effects (q.effects (rw none tt))) (rw (q.first, q.second) refl)

  wanted-before : (half : Half) (x : tee.Slots) → reason_of half x ≡ None → is_wanted x ≡ true
  wanted-before First x none = rw none refl
  wanted-before Second x none = let second : is_none x.reason2 ≡ true = rw none refl in grind (arith, second)

  given-moves : (x : tee.Slots) (b : Acts) (p : PromiseId) → Moves t i x b → (es : List Effect) → Each (Not i) es → Moves t i x (causing es b)
  given-moves x b p (Still n same) es not = Still (seen-append i b.out.effects es ∙ rw (n, none-seen i es not) refl) same
  given-moves x b p (Both n was now) es not = Both (seen-append i b.out.effects es ∙ rw (n, none-seen i es not) refl) was now

  resolve-moves : (x : tee.Slots) (p : PromiseId) (b : Acts) → Moves t i x b → Moves t i x (resolve_cancel p b)
  resolve-moves x p b m =
      either (Moves t i x) b.slots.answered b _ (λ e. m) (λ e. resolved m)
    where
      resolved : Moves t i x b → Moves t i x (causing (Give (This p) (Resolve b.slots.cancel) ∷ []) (with_slots (record b.slots { answered = true }) b))
      resolved (Still n same) = Still (seen-append i b.out.effects _ ∙ rw n refl) same
      resolved (Both n was now) = Both (seen-append i b.out.effects _ ∙ rw n refl) was now

  cancel-moves : (half : Half) (r : Plain) (a : Acts) (o : Option Plain) → reason_of half a.slots ≡ o → a.slots.source ≡ i → a.out.effects ≡ [] → Moves t i a.slots (cancel_by t half r a o)
  cancel-moves half r a (Some old) is source none = still a a none (quiet a)
  cancel-moves half r a None is source none =
      let z : tee.Slots = with_reason half r a.slots in
      let b : Acts = with_slots z a in
      let before = wanted-before half a.slots is in
      either (Moves t i a.slots) (is_wanted z) b (cancel_source t b) (λ e. Still (rw none refl) (e ∙ sym before)) (λ e. both b before e (kept half ∙ source) none)
    where
      kept : (h : Half) → (with_reason h r a.slots).source ≡ a.slots.source
      kept First = refl
      kept Second = refl

      both : (b : Acts) → is_wanted a.slots ≡ true → is_wanted b.slots ≡ false → b.slots.source ≡ i → b.out.effects ≡ [] → Moves t i a.slots (cancel_source t b)
      both b before now source none =
          let p : PromiseId = next_id b.out.promises in
          let e : Effect = OnReadable b.slots.source (Cancel (Pair t) p) in
          let c : Acts = causing (e ∷ []) (record b { out = record b.out { promises = fresh b.out.promises } }) in
          let here : is_same b.slots.source i ≡ true = rw source (is_same-refl i) in
          let one : all_seen i (e ∷ []) ≡ Pair t ∷ [] = ap (λ rs. rs ++ []) (seen-by i b.slots.source (Cancel (Pair t) p) true here) in
          resolve-moves a.slots p c (Both (ap (λ es. all_seen i (es ++ e ∷ [])) none ∙ one) before now)

  tee-moves : (operation : TeeOperation) (a : Acts) → a.slots.source ≡ i → a.out.effects ≡ [] → Moves t i a.slots (tee_operation t operation a)
  unfolding pull_branch keep_chunk source_closed source_errored hand_chunk handed cancel_branch reader_settled
  tee-moves names.PullBranch a source none = still a _ none (pull-quiet a a.slots.phase)
  tee-moves (names.KeepChunk v) a source none = still a _ none (record { effects = λ h. h; first = refl; second = refl })
  tee-moves names.SourceClosed a source none = still a _ none (close-quiet a a.slots.phase)
  tee-moves names.SourceErrored a source none = still a _ none (record { effects = λ h. h; first = refl; second = refl })
  tee-moves names.HandChunk a source none = still a _ none (hand-quiet a a.slots.held)
  tee-moves names.Handed a source none =
      let q = again-quiet (with_slots (record a.slots { phase = rested a.slots.phase }) a) a.slots.read_again in
      still a _ none (record { effects = q.effects; first = q.first; second = q.second })
  tee-moves (names.CancelBranch half r u) a source none =
      given-moves a.slots _ a.slots.cancel (cancel-moves half r a (reason_of half a.slots) refl source none) (Give (This a.slots.cancel) u ∷ []) (refl, tt)
  tee-moves (names.ReaderSettled (Ok v)) a source none = still a _ none (quiet a)
  tee-moves (names.ReaderSettled (Err r)) a source none =
      let es : List Effect = OnReadable a.slots.branch1 (Error r) ∷ OnReadable a.slots.branch2 (Error r) ∷ [] in
      still a _ none (fulfil-quiet a (causing es a) (more a a es (quiet a) (not-cancel i a.slots.branch1 (Error r) refl, (not-cancel i a.slots.branch2 (Error r) refl, tt))))

-- lists of tees

tees_other : (xs : List tee.Slots) (i j : ℕ) (y : tee.Slots) → i ≢ j → slice_get (slice_set xs j y) i ≡ slice_get xs i
tees_other [] i j y n = refl
tees_other (z ∷ xs) zero zero y n = absurd (n refl)
tees_other (z ∷ xs) zero (suc j) y n = refl
tees_other (z ∷ xs) (suc i) zero y n = refl
tees_other (z ∷ xs) (suc i) (suc j) y n = tees_other xs i j y (λ e. n (ap suc e))

tees_same : (xs : List tee.Slots) (i : ℕ) (x y : tee.Slots) → slice_get xs i ≡ Some x → slice_get (slice_set xs i y) i ≡ Some y
tees_same [] i x y e = cc
tees_same (z ∷ xs) zero x y e = refl
tees_same (z ∷ xs) (suc i) x y e = tees_same xs i x y e

some_tee : (x y : tee.Slots) → ◌≡◌ {A = Option tee.Slots} (Some x) (Some y) → x ≡ y
some_tee x y e = cc

none_some : {A : Type 0} (x : tee.Slots) → ◌≡◌ {A = Option tee.Slots} None (Some x) → A
none_some x e = cc

-- sums of what is seen

still-sum : (before behind new : List Plain) → new ≡ [] → (before ++ []) ++ (new ++ behind) ≡ before ++ behind
still-sum before behind new n = rw (n, append-nil before) refl

both-sum : (r : Plain) (before behind : List Plain) → before ++ behind ≡ [] → (before ++ []) ++ ((r ∷ []) ++ behind) ≡ r ∷ []
both-sum r [] behind e = ap (λ rs. r ∷ rs) e
both-sum r (q ∷ qs) behind e = cc

aside-sum : (before told behind new : List Plain) → new ≡ [] → (before ++ told) ++ (new ++ behind) ≡ before ++ (told ++ behind)
aside-sum before told behind new n = rw n (append_assoc before told behind)

module _ (t : TeeId) where
  -- what was cancelled, and what is about to be, is what the reasons say
  record Cancelled (h : Teed) (s : Slots) (es : List Effect) : Type 0 where
    absent : slice_get s.tees t.0 ≡ None → h.cancels ≡ []
    there : (x : tee.Slots) → slice_get s.tees t.0 ≡ Some x → h.cancels ++ all_seen x.source es ≡ cancels_of t x

  record Counted (h : Teed) (s : Slots) (es : List Effect) : Type 0 where
    owned : Owned t s es
    cancelled : Cancelled h s es

  told-seen : (s : Slots) (e : Effect) (x : tee.Slots) → slice_get s.tees t.0 ≡ Some x → (effect_teed t e s).cancels ≡ seen x.source e
  told-seen s (OnReadable j operation) x at = ap (λ o. (if is_source_of j o then operation_teed operation else no_teed).cancels) at
  told-seen s (ChunkSteps j r v) x at = either (λ (g : Teed). g.cancels ≡ []) (is_source_of j (slice_get s.tees t.0)) _ no_teed (λ e. refl) (λ e. refl)
  told-seen s e x at = refl

  told-none : (s : Slots) (e : Effect) → slice_get s.tees t.0 ≡ None → (effect_teed t e s).cancels ≡ []
  told-none s (OnReadable j operation) none = ap (λ o. (if is_source_of j o then operation_teed operation else no_teed).cancels) none
  told-none s (ChunkSteps j r v) none = either (λ (g : Teed). g.cancels ≡ []) (is_source_of j (slice_get s.tees t.0)) _ no_teed (λ e. refl) (λ e. refl)
  told-none s e none = refl

  -- an effect that leaves the tee, and causes no cancel of its source
  aside : (h : Teed) (s z : Slots) (e : Effect) (es fs : List Effect) → slice_get z.tees t.0 ≡ slice_get s.tees t.0
      → ((x : tee.Slots) → slice_get s.tees t.0 ≡ Some x → Each (Not x.source) fs) → Cancelled h s (e ∷ es) → Cancelled (teed_then h (effect_teed t e s)) z (fs ++ es)
  aside h s z e es fs same not k = record {
    absent = λ none. let before = sym same ∙ none in rw (k.absent before, told-none s e before) refl;
    there = λ x now.
        let before : slice_get s.tees t.0 ≡ Some x = sym same ∙ now in
        let told = told-seen s e x before in
        rw (told, seen-append x.source fs es)
        (aside-sum h.cancels (seen x.source e) (all_seen x.source es) (all_seen x.source fs) (none-seen x.source fs (not x before)) ∙ k.there x before);
  }

  apart-caused : (s : Slots) (e : Effect) (es : List Effect) (x : tee.Slots) → IsNoTee e → Owned t s (e ∷ es) → slice_get s.tees t.0 ≡ Some x → Each (Not x.source) (row e s).caused
  unfolding row
  apart-caused s (OnPipe p operation) es x n k at =
      let none = (alone-now t s (OnPipe p operation ∷ es) (tee_shape x) k.known (map-there tee_shape s.tees t.0 x at)).pipes in
      let waits = k.known.locked.waits in
      each-both x.source t _ (piped-fair t x.source p s operation es waits none (slice_get s.pipes p.0) refl)
      (piped-fair (record { 0 = suc t.0 }) x.source p s operation es waits none (slice_get s.pipes p.0) refl)
  apart-caused s (OnTee u operation) es x n k at = absurd n
  apart-caused s e es x n k at = row-causes (Not x.source) e s (other-not x.source e tt tt)

  own-row : (h : Teed) (s : Slots) (operation : TeeOperation) (es : List Effect) (x : tee.Slots) → slice_get s.tees t.0 ≡ Some x → h.cancels ++ all_seen x.source es ≡ cancels_of t x
      → let d : Done = on_tee_at (tee_operation t operation) t s (Some x) in Cancelled (teed_then h no_teed) d.slots (d.caused ++ es)
  own-row h s operation es x at k = record { absent = λ none. none_some b.slots (sym none ∙ place); there = λ y now. by y (some_tee b.slots y (sym place ∙ now)) }
    where
      a : Acts
      a = record { slots = x; out = found s }

      b : Acts
      b = tee_operation t operation a

      place : slice_get (slice_set s.tees t.0 b.slots) t.0 ≡ Some b.slots
      place = tees_same s.tees t.0 x b.slots at

      moved : Moves t x.source x b → (h.cancels ++ []) ++ (all_seen x.source b.out.effects ++ all_seen x.source es) ≡ cancels_of t b.slots
      moved (Still n same) =
          still-sum h.cancels (all_seen x.source es) (all_seen x.source b.out.effects) n ∙ (k ∙ sym (ap (λ (w : Bool). if w then [] else Pair t ∷ []) same))
      moved (Both n was now) =
          let none : h.cancels ++ all_seen x.source es ≡ [] = k ∙ ap (λ (w : Bool). if w then [] else Pair t ∷ []) was in
          ap (λ rs. (h.cancels ++ []) ++ (rs ++ all_seen x.source es)) n ∙ (both-sum (Pair t) h.cancels (all_seen x.source es) none ∙ sym (ap (λ (w : Bool). if w then [] else Pair t ∷ []) now))

      by : (y : tee.Slots) → b.slots ≡ y → (h.cancels ++ []) ++ all_seen y.source (b.out.effects ++ es) ≡ cancels_of t y
      by y is =
          let source = (tee-causes t operation a).same.source in
          rw (← is, source, seen-append x.source b.out.effects es) (moved (tee-moves t x.source operation a refl refl))

  tee-row : (h : Teed) (s : Slots) (u : TeeId) (operation : TeeOperation) (es : List Effect) → Counted h s (OnTee u operation ∷ es) → (o : Option tee.Slots) → slice_get s.tees u.0 ≡ o → (same : Bool) → same ≡ nat_eq t.0 u.0
      → let d : Done = on_tee_at (tee_operation u operation) u s o in Cancelled (teed_then h no_teed) d.slots (d.caused ++ es)
  tee-row h s u operation es k None e same is = aside h s s (OnTee u operation) es [] refl (λ x at. tt) k.cancelled
  tee-row h s u operation es k (Some y) e true is =
      let same : t ≡ u = ap (λ (n : ℕ). record { 0 = n }) (eq_numbers t.0 u.0 (sym is)) in
      subst (λ (v : TeeId). slice_get s.tees v.0 ≡ Some y → let d : Done = on_tee_at (tee_operation v operation) v s (Some y) in Cancelled (teed_then h no_teed) d.slots (d.caused ++ es)) same
      (λ at. own-row h s operation es y at (k.cancelled.there y at)) e
  tee-row h s u operation es k (Some y) e false is =
      let other = unequal_numbers t.0 u.0 (sym is) in
      let a : Acts = record { slots = y; out = found s } in
      let b : Acts = tee_operation u operation a in
      aside h s _ (OnTee u operation) es b.out.effects (tees_other s.tees t.0 u.0 b.slots other)
      (λ x at. each-map (TeeCauses u y.source y.branch1 y.branch2) (Not x.source) (tee-not x.source u y.source y.branch1 y.branch2 (apart x at)) b.out.effects ((tee-causes u operation a).effects tt)) k.cancelled
    where
      apart : (x : tee.Slots) → slice_get s.tees t.0 ≡ Some x → y.source ≢ x.source
      apart x at same =
          let mine = map-there tee_shape s.tees t.0 x at in
          let few = (alone-now t s (OnTee u operation ∷ es) (tee_shape x) k.owned.known mine).tees in
          let it = same_tee t u (nat_eq t.0 u.0) refl s.tees (tee_shape x) (tee_shape y) mine (map-there tee_shape s.tees u.0 y e) few (sym same) in
          unequal_numbers t.0 u.0 (sym is) (ap (λ (v : TeeId). v.0) (sym it))

  row-cancelled : (h : Teed) (s : Slots) (e : Effect) (es : List Effect) → Counted h s (e ∷ es) → Cancelled (teed_then h (effect_teed t e s)) (row e s).slots ((row e s).caused ++ es)
  unfolding row
  row-cancelled h s (OnTee u operation) es k = tee-row h s u operation es k (slice_get s.tees u.0) refl (nat_eq t.0 u.0) refl
  row-cancelled h s e es k =
      aside h s (row e s).slots e es (row e s).caused (ap (λ (xs : List tee.Slots). slice_get xs t.0) (row-tees e s tt)) (λ x at. apart-caused s e es x tt k.owned at) k.cancelled

  -- calls

  tee-stays : (c : Call) (s : Slots) (x : tee.Slots) → slice_get s.tees t.0 ≡ Some x → slice_get (begin c s).done.slots.tees t.0 ≡ Some x
  tee-stays c s x at = begin-makes (λ z. slice_get z.tees t.0 ≡ Some x) (record {
    promise = λ z k. k;
    locks = λ z ls k. k;
    hosts = λ z hs k. k;
    pipe = λ z source dest prevent signal promise k. k;
    signal = λ z k. k;
    transform = λ z kind a b change k. k;
    tee = λ z source first second cancel k. get-stays z.tees _ t.0 x k;
    port = λ z side stream backpressure k. k;
    readable = λ z owner mark size k. k;
    bytes = λ z mark auto k. k;
    byob_requests = λ z requests k. k;
    writable = λ z owner mark size k. k;
  }) c s at

  abbrev IsNew : Begun → Type 0
  IsNew b = (x : tee.Slots) → slice_get b.done.slots.tees t.0 ≡ Some x → (all_seen x.source b.done.caused ≡ []) × (is_wanted x ≡ true)

  module _ (s : Slots) (none : slice_get s.tees t.0 ≡ None) where
    gone : {A : Type 0} (x : tee.Slots) → slice_get s.tees t.0 ≡ Some x → A
    gone x e = none_some x (sym none ∙ e)

    tee-new : (i : StreamId) → IsNew (make_tee i (record { 0 = length s.streams }) (record { 0 = length s.streams + 1 }) s)
    tee-new i x now =
        let y : tee.Slots = tee.set_up i (record { 0 = length s.streams }) (record { 0 = length s.streams + 1 }) (next_id (fresh s.promises)) in
        let same : y ≡ x = ⊎_elim (λ old. gone x old) (λ new. new.1) (get-either s.tees y t.0 x now) in
        rw (← same) (none-seen i (make_tee i (record { 0 = length s.streams }) (record { 0 = length s.streams + 1 }) s).done.caused (not-cancel i i (InitializeReader (next_id s.promises)) refl, (refl, (refl, (refl, tt)))), refl)

    port-tees : (s : Slots) (side : Side) → (add_port (record { 0 = length s.streams }) s side).tees ≡ s.tees
    port-tees s ReadableSide = refl
    port-tees s WritableSide = refl

    call-new : (c : Call) → IsNew (begin c s)
    call-new c = each_call IsNew c s (record {
      unchanged = λ reply x e. gone x e;
      rejected = λ fault x e. gone x e;
      make_readable = λ mark size start x e. gone x e;
      make_bytes = λ mark auto start x e. gone x e;
      make_writable = λ mark size start x e. gone x e;
      make_transform = λ kind m n start x e. gone x e;
      make_tee = λ i c is free untied. tee-new i;
      get_reader = λ i f x e. gone x e;
      get_byob = λ i is f x e. gone x e;
      get_writer = λ i f x e. gone x e;
      release_reader = λ l closed i f x e. gone x e;
      release_byob = λ l closed i f x e. gone x e;
      release_writer = λ l i w f g x e. gone x e;
      cancel = λ reason i x e. gone x e;
      read = λ l i closed f g x e. gone x e;
      read_into = λ l i closed room element least f g x e. gone x e;
      write = λ l v i f x e. gone x e;
      close = λ i x e. gone x e;
      abort = λ reason i f x e. gone x e;
      enqueue = λ i v f o can x e. gone x e;
      enqueue_half = λ i u v f o can x e. gone x e;
      enqueue_bytes = λ i b f is some can x e. gone x e;
      finish = λ i x e. gone x e;
      finish_bytes = λ i f is can x e. gone x e;
      make_request = λ i reply is x e. gone x e;
      respond = λ q i b f is can x e. gone x e;
      fail_readable = λ i reason x e. gone x e;
      fail_writable = λ i reason x e. gone x e;
      fail_half = λ u reason x e. gone x e;
      terminate = λ u x e. gone x e;
      pipe = λ source dest prevent signal f g l m x e. gone x e;
      make_signal = λ x e. gone x e;
      open_end = λ side x e. gone x (subst (λ (xs : List tee.Slots). slice_get xs t.0 ≡ Some x) (port-tees s side) e);
      send_readable = λ i there free x e. gone x e;
      send_writable = λ i there free x e. gone x e;
      deliver = λ p m f is x e. gone x e;
      trigger = λ a reason x e. gone x e;
      settle = λ h answer p f x e. gone x e;
    })

  call-cancelled : (h : Teed) (s : Slots) (c : Call) → Counted h s [] → (o : Option tee.Slots) → slice_get s.tees t.0 ≡ o → Cancelled h (begin c s).done.slots (begin c s).done.caused
  call-cancelled h s c k None at = record {
    absent = λ none. k.cancelled.absent at;
    there = λ x now. let new = call-new s at c x now in rw (k.cancelled.absent at, new.0, new.1) refl;
  }
  call-cancelled h s c k (Some y) at = record {
    absent = λ none. none_some y (sym none ∙ tee-stays c s y at);
    there = λ x now.
        let same : y ≡ x = some_tee y x (sym (tee-stays c s y at) ∙ now) in
        let spare = calls-spare t s k.owned (tee_shape y) (map-there tee_shape s.tees t.0 y at) c in
        rw (← same, none-seen y.source (begin c s).done.caused (spares-not y.source (begin c s).done.caused spare)) (k.cancelled.there y at);
  }

  job_not : (i : StreamId) (job : Job) → Each (Not i) (job_effects job)
  job_not i job = grind arith

  same-cancelled : (h : Teed) (s z : Slots) (es : List Effect) → z.tees ≡ s.tees → ((i : StreamId) → all_seen i es ≡ []) → Cancelled h s [] → Cancelled h z es
  same-cancelled h s z es tees none k = record {
    absent = λ e. k.absent (rw tees at e);
    there = λ x e. rw (none x.source) (k.there x (rw tees at e));
  }

  goes : GoesUntold teed_then (effect_teed t) Counted
  goes = record {
    row = λ h s e es k. record { owned = (owned-stays t).row s e es k.owned; cancelled = row-cancelled h s e es k };
    call = λ h s c k. record { owned = (owned-stays t).call s c k.owned; cancelled = call-cancelled h s c k (slice_get s.tees t.0) refl };
    job = λ h s job e k. record {
      owned = (owned-stays t).job s job e k.owned;
      cancelled = same-cancelled h s _ (job_effects job) refl (λ i. none-seen i (job_effects job) (job_not i job)) k.cancelled;
    };
    answered = λ h s p k. record { owned = (owned-stays t).answered s p k.owned; cancelled = same-cancelled h s _ [] refl (λ i. refl) k.cancelled };
    older = λ h s k. record { owned = (owned-stays t).older s k.owned; cancelled = same-cancelled h s _ [] refl (λ i. refl) k.cancelled };
  }

  rests : RestsUntold Counted
  rests = record { heard = λ h s k. record { owned = owned-heard t s k.owned; cancelled = same-cancelled h s _ [] refl (λ i. refl) k.cancelled } }

  history : IsHistory no_teed teed_then
  history = record {
    left = λ h. refl;
    right = λ h k. record { given = append-nil h.given k; cancels = append-nil h.cancels k };
    assoc = λ f g h k. record { given = append_assoc f.given g.given h.given k; cancels = append_assoc f.cancels g.cancels h.cancels k };
  }

  run-counted : (entries : List Entry) → Counted (run_teed t entries empty) (run entries empty) []
  run-counted entries =
      run-holds no_teed teed_then history (effect_teed t) Counted goes rests entries empty
      (record { owned = owned-empty t; cancelled = record { absent = λ e. refl; there = λ x e. cc } })

  law : (entries : List Entry) (o : Option tee.Slots) → slice_get (run entries empty).tees t.0 ≡ o → is_some o ≡ true → (run_teed t entries empty).cancels ≡ cancels_of t (as_tee o)
  law entries None e is = cc
  law entries (Some x) e is = sym (append-nil (run_teed t entries empty).cancels) ∙ (run-counted entries).cancelled.there x e

pub each_source_is_cancelled_by_both : EachSourceIsCancelledByBoth
each_source_is_cancelled_by_both entries t is = law t entries (slice_get (run entries empty).tees t.0) refl is
