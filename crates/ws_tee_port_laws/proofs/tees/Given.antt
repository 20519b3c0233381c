-- What the source of a tee gave, and what of it was handed on.
use Rattle.std.proofs.Common.{◌≡◌, ⊎_elim, ℕ, ◌+◌, ◌≤◌, Bool, true, false, not, ◌&&◌, nat_eq, if◌then◌else◌, List, [], ◌∷◌, ◌++◌, length, Option, Some, None, Ok, Err, slice_get, slice_set, refl, sym, ap, subst, ◌∙◌, append_assoc, append-nil, arith}
use Rattle.ws_laws.proofs.PortDoes.{PortCauses}
use Rattle.ws_value.specs.declared.ids.PortId.{PortId}
use Rattle.ws_value.specs.declared.ids.{PipeId.{PipeId}, PromiseId.{PromiseId}, StreamId.{StreamId}, TeeId.{TeeId}}
use Rattle.ws_value.specs.declared.value.{Plain.{Plain}, Value.{Value}}
use Rattle.ws_steps.specs.declared.{calls.Call.{Call}}
use Rattle.ws_steps.specs.declared.effects.{Effect.{Effect}, Effect.TheVariants.{Readable as OnReadable, Tee as OnTee, ChunkSteps}}
use Rattle.ws_steps.specs.declared.readable.{ReadRequest.{ReadRequest}, ReadRequest.TheVariants.{Promise, Pipe as PipeRequest, Tee as TeeRequest}, ReadableOperation.{ReadableOperation}, ReadableOperation.TheVariants.{Cancel, CancelIfReadable, Close}}
use Rattle.ws_steps.specs.declared.tee.{Half.{Half}, Half.TheVariants.{First, Second}, TeeOperation.{TeeOperation}, TeePhase.{TeePhase}, TeePhase.TheVariants.{Resting, Reading, Over}}
use Rattle.ws_steps.specs.declared.tee.TeeOperation.TheVariants as names
use Rattle.ws_steps.specs.declared.transform.TransformId.{TransformId}
use Rattle.ws_steps.specs.Calls.{begin}
use Rattle.ws_steps.specs.Histories.{is_same, along, in_step, over}
use Rattle.ws_steps.specs.Jobs.{job_effects}
use Rattle.ws_steps.specs.Operations.{tee_operation}
use Rattle.ws_steps.specs.Run.{Entry, moments_in, step, run}
use Rattle.ws_steps.specs.Slots.{Slots, Done, empty, found, on_tee_at, as_tee, tee_at}
use Rattle.ws_steps.specs.Tee as tee
use Rattle.ws_steps.specs.Tee.{Acts, causing, with_slots, reason_of, with_reason, is_wanted, on_branches, fulfil_cancel, pull_in, pull_branch, keep_chunk, close_in, source_closed, source_errored, hand_held, hand_chunk, rested, again, handed, resolve_cancel, cancel_source, cancel_by, cancel_branch, reader_settled}
use Rattle.ws_steps.specs.TeeHistory.{Teed, no_teed, teed_then, is_source_of, operation_teed, effect_teed, run_teed}
use Rattle.ws_steps.specs.TeeLaws.{held_values}
use Rattle.ws_steps.specs.Turns.{Moment, row, chunk_steps}
use Rattle.ws_laws.proofs.Begin.{begin-makes}
use Rattle.ws_laws.proofs.ByteHands.{sum_of}
use Rattle.ws_laws.proofs.Halves.{get-stays, get-either}
use Rattle.ws_laws.proofs.Lists.{Each, each-map}
use Rattle.ws_laws.proofs.PipeDoes.{PipeCauses}
use Rattle.ws_laws.proofs.Apart.{row-tees}
use Rattle.ws_laws.proofs.Causes.{Causes, row-causes}
use Rattle.ws_laws.proofs.Shapes.{tee_shape, map-there}
use Rattle.ws_laws.proofs.Tables.{either, eq_numbers, unequal_numbers}
use Rattle.ws_laws.proofs.TeeDoes.{TeeCauses, tee-causes}
use Rattle.ws_laws.proofs.TransformDoes.{TransformCauses}
use Rattle.ws_laws.proofs.Walker.{IsHistory, GoesUntold, RestsUntold, run-holds}
use Rattle.ws_pipe_laws.proofs.locks.TeeOwning.{other_tee}
use Rattle.ws_tee_port_laws.proofs.tees.Handed.{handed_by, run_handed}
use Rattle.ws_tee_port_laws.proofs.tees.Homes.{wrong, Reads, reads-stays, reads-heard, reads-empty}
use Rattle.ws_tee_port_laws.proofs.tees.OneRead.{is_tee, one_of, of_effect, in_stream, held_of, may_have, may_have_of, One, IsNone, one-stays, one-heard, one-empty, call_none, job_none, tees_other, tees_same}

-- what went through the source, and what was handed on
record Gone : Type 0 where
  teed : Teed
  handed : List Value

abbrev no_gone : Gone
no_gone = record { teed = no_teed; handed = [] }

abbrev gone_then : Gone → Gone → Gone
gone_then f g = record { teed = teed_then f.teed g.teed; handed = f.handed ++ g.handed }

some_tee : (x y : tee.Slots) → ◌≡◌ {A = Option tee.Slots} (Some x) (Some y) → x ≡ y
some_tee x y e = cc

none_some : {A : Type 0} (x : tee.Slots) → ◌≡◌ {A = Option tee.Slots} None (Some x) → A
none_some x e = cc

empty-list : {A : Type 0} (xs : List A) → length xs ≤ 0 → xs ≡ []
empty-list [] n = refl
empty-list (x ∷ xs) n = absurd (omega (arith, n))

most : (phase : TeePhase) → may_have phase ≤ 1
most Resting = omega arith
most Reading = omega arith
most Over = omega arith

module _ (t : TeeId) where
  abbrev told : Effect → Slots → Gone
  told e s = record { teed = effect_teed t e s; handed = handed_by t e s }

  -- chunks that are about to be kept
  abbrev kept_of : Effect → List Value
  kept_of (OnTee u (names.KeepChunk v)) = if nat_eq t.0 u.0 then v ∷ [] else []
  kept_of _ = []

  abbrev kept : List Effect → List Value
  kept [] = []
  kept (e ∷ es) = kept_of e ++ kept es

  kept-append : (es fs : List Effect) → kept (es ++ fs) ≡ kept es ++ kept fs
  kept-append [] fs = refl
  kept-append (e ∷ es) fs = ap (λ vs. kept_of e ++ vs) (kept-append es fs) ∙ sym (append_assoc (kept_of e) (kept es) (kept fs))

  abbrev Keeps : Effect → Type 0
  Keeps e = kept_of e ≡ []

  none-kept : (es : List Effect) → Each Keeps es → kept es ≡ []
  none-kept [] n = refl
  none-kept (e ∷ es) n = rw (n.0) (none-kept es n.1)

  one-kept : (e : Effect) → IsNone t e → Keeps e
  one-kept (OnTee u (names.KeepChunk v)) n = by (nat_eq t.0 u.0) refl
    where
      by : (same : Bool) → same ≡ nat_eq t.0 u.0 → Keeps (OnTee u (names.KeepChunk v))
      by true e = let one : one_of t u ≡ 1 = rw (← e) refl in absurd (omega (arith, one, n))
      by false e = rw (← e) refl
  one-kept (OnTee u operation) n = refl
  one-kept e n = refl

  all-kept : (es : List Effect) → sum_of (of_effect t) es ≤ 0 → kept es ≡ []
  all-kept [] n = refl
  all-kept (e ∷ es) n = rw (one-kept e (omega (arith, n))) (all-kept es (omega (arith, n)))

  each-kept : (es : List Effect) → Each (IsNone t) es → kept es ≡ []
  each-kept [] n = refl
  each-kept (e ∷ es) n = rw (one-kept e n.0) (each-kept es n.1)

  -- what is given is handed on, or held, or about to be kept
  record Gives (h : Gone) (s : Slots) (es : List Effect) : Type 0 where
    absent : slice_get s.tees t.0 ≡ None → (h.handed ≡ []) × (h.teed.given ≡ [])
    there : (x : tee.Slots) → slice_get s.tees t.0 ≡ Some x → (h.handed ++ held_values x.held) ++ kept es ≡ h.teed.given

  record All (h : Gone) (s : Slots) (es : List Effect) : Type 0 where
    reads : Reads t s es
    one : One t s es
    gives : Gives h s es

  -- an effect that leaves the tee, and of which nothing is told
  aside : (h g : Gone) (s z : Slots) (e : Effect) (es fs : List Effect) → slice_get z.tees t.0 ≡ slice_get s.tees t.0 → g.handed ≡ [] → g.teed.given ≡ [] → kept_of e ≡ [] → kept fs ≡ []
      → Gives h s (e ∷ es) → Gives (gone_then h g) z (fs ++ es)
  aside h g s z e es fs same handed given own caused k = record {
    absent = λ none. let old = k.absent (sym same ∙ none) in (rw (old.0, handed) refl, rw (old.1, given) refl);
    there = λ x now.
        let old : (h.handed ++ held_values x.held) ++ (kept_of e ++ kept es) ≡ h.teed.given = k.there x (sym same ∙ now) in
        let was : (h.handed ++ held_values x.held) ++ kept es ≡ h.teed.given = rw own at old in
        rw (handed, given, kept-append fs es, caused, append-nil h.handed, append-nil h.teed.given) was;
  }

  -- other effects

  transform_keeps : (me : TransformId) (writable readable : StreamId) (e : Effect) → TransformCauses me writable readable e → Keeps e
  transform_keeps me writable readable e c = grind (arith, c)

  pipe_keeps : (p : PipeId) (source dest : StreamId) (e : Effect) → PipeCauses p source dest e → Keeps e
  pipe_keeps p source dest e c = grind (arith, c)

  tee_keeps : (u : TeeId) (source first second : StreamId) (e : Effect) → TeeCauses u source first second e → Keeps e
  tee_keeps u source first second e c = grind (arith, c)

  port_keeps : (c : PortId) (stream : StreamId) (e : Effect) → PortCauses c stream e → Keeps e
  port_keeps c stream e k = grind (arith, k)

  abbrev IsOther : Effect → Type 0
  IsOther (OnTee u operation) = ⊥
  IsOther (ChunkSteps i q v) = ⊥
  IsOther _ = Unit {0}

  other-keeps : (e : Effect) → IsOther e → Causes Keeps e
  other-keeps e n = grind (arith, n, transform_keeps, pipe_keeps, port_keeps)

  none-given : (s : Slots) (e : Effect) → IsOther e → (effect_teed t e s).given ≡ []
  none-given s (OnReadable i operation) n = either (λ (g : Teed). g.given ≡ []) (is_source_of i (slice_get s.tees t.0)) (operation_teed operation) no_teed (λ e. by operation) (λ e. refl)
    where
      by : (operation : ReadableOperation) → (operation_teed operation).given ≡ []
      by (Cancel r p) = refl
      by (CancelIfReadable r p) = refl
      by _ = refl
  none-given s (ChunkSteps i q v) n = absurd n
  none-given s e n = refl

  none-handed : (s : Slots) (e : Effect) → IsOther e → handed_by t e s ≡ []
  none-handed s (OnTee u operation) n = absurd n
  none-handed s e n = refl

  own-kept : (e : Effect) → IsOther e → kept_of e ≡ []
  own-kept (OnTee u operation) n = absurd n
  own-kept e n = refl

  -- chunk steps

  away-chunk : (v : Value) (s : Slots) (q : ReadRequest) → is_tee t q ≡ 0 → kept (chunk_steps v s q).caused ≡ []
  away-chunk v s (Promise p) n = refl
  away-chunk v s (PipeRequest p) n = refl
  away-chunk v s (TeeRequest u) n = by (nat_eq t.0 u.0) refl
    where
      by : (same : Bool) → same ≡ nat_eq t.0 u.0 → kept (chunk_steps v s (TeeRequest u)).caused ≡ []
      by true e = let one : is_tee t (TeeRequest u) ≡ 1 = rw (← e) refl in absurd (omega (arith, one, n))
      by false e = ap (λ (b : Bool). (if b then v ∷ [] else []) ++ []) (sym e)

  home-chunk : (v : Value) (s : Slots) (q : ReadRequest) → other_tee t q ≡ 0 → (kept (chunk_steps v s q).caused ≡ v ∷ []) × (is_tee t q ≡ 1)
  home-chunk v s (Promise p) n = cc
  home-chunk v s (PipeRequest p) n = cc
  home-chunk v s (TeeRequest u) n = by (nat_eq t.0 u.0) refl
    where
      by : (same : Bool) → same ≡ nat_eq t.0 u.0 → (kept (chunk_steps v s (TeeRequest u)).caused ≡ v ∷ []) × (is_tee t (TeeRequest u) ≡ 1)
      by true e = (ap (λ (b : Bool). (if b then v ∷ [] else []) ++ []) (sym e), ap (λ (b : Bool). if b then 1 else 0) (sym e))
      by false e = let one : other_tee t (TeeRequest u) ≡ 1 = ap (λ (b : Bool). if b then 0 else 1) (sym e) in absurd (omega (arith, one, n))

  chunk-row : (h : Gone) (s z : Slots) (i : StreamId) (q : ReadRequest) (v : Value) (es : List Effect) → slice_get z.tees t.0 ≡ slice_get s.tees t.0 → All h s (ChunkSteps i q v ∷ es)
      → Gives (gone_then h (told (ChunkSteps i q v) s)) z ((chunk_steps v s q).caused ++ es)
  chunk-row h s z i q v es same k = record {
    absent = λ none.
        let before = sym same ∙ none in
        let old = k.gives.absent before in
        let given : (effect_teed t (ChunkSteps i q v) s).given ≡ [] = ap (λ o. (if is_source_of i o then record no_teed { given = v ∷ [] } else no_teed).given) before in
        (rw (old.0) refl, rw (old.1, given) refl);
    there = λ x now. by x (sym same ∙ now) (is_same i x.source) refl;
  }
    where
      by : (x : tee.Slots) → slice_get s.tees t.0 ≡ Some x → (here : Bool) → here ≡ is_same i x.source
          → ((h.handed ++ []) ++ held_values x.held) ++ kept ((chunk_steps v s q).caused ++ es) ≡ h.teed.given ++ (effect_teed t (ChunkSteps i q v) s).given
      by x at true e =
          let given : (effect_teed t (ChunkSteps i q v) s).given ≡ v ∷ [] =
          ap (λ o. (if is_source_of i o then record no_teed { given = v ∷ [] } else no_teed).given) at ∙ ap (λ (b : Bool). (if b then record no_teed { given = v ∷ [] } else no_teed).given) (sym e) in
          let home : wrong t (Some (tee_shape x)) i q ≡ 0 = rw (map-there tee_shape s.tees t.0 x at) at k.reads.right.home.0 in
          let own : other_tee t q ≡ 0 = subst (λ (b : Bool). (if b then other_tee t q else is_tee t q) ≡ 0) (sym e) home in
          let chunk = home-chunk v s q own in
          let one = subst (λ (o : Option tee.Slots). sum_of (in_stream t) s.streams + (is_tee t q + sum_of (of_effect t) es) + held_of o ≤ may_have_of o) at k.one in
          let m = most x.phase in
          let weight = chunk.1 in
          let rest : kept es ≡ [] = all-kept es (omega (arith, one, m, weight)) in
          let was = k.gives.there x at in
          let old : h.handed ++ held_values x.held ≡ h.teed.given = sym (append-nil (h.handed ++ held_values x.held)) ∙ (rw rest at was) in
          rw (given, kept-append (chunk_steps v s q).caused es, chunk.0, rest, append-nil h.handed, old) refl
      by x at false e =
          let given : (effect_teed t (ChunkSteps i q v) s).given ≡ [] =
          ap (λ o. (if is_source_of i o then record no_teed { given = v ∷ [] } else no_teed).given) at ∙ ap (λ (b : Bool). (if b then record no_teed { given = v ∷ [] } else no_teed).given) (sym e) in
          let home : wrong t (Some (tee_shape x)) i q ≡ 0 = rw (map-there tee_shape s.tees t.0 x at) at k.reads.right.home.0 in
          let away : is_tee t q ≡ 0 = subst (λ (b : Bool). (if b then other_tee t q else is_tee t q) ≡ 0) (sym e) home in
          rw (given, kept-append (chunk_steps v s q).caused es, away-chunk v s q away, append-nil h.handed, append-nil h.teed.given) (k.gives.there x at)

  -- an operation of the tee

  abbrev IsKept : TeeOperation → Type 0
  IsKept (names.KeepChunk v) = ⊥
  IsKept names.HandChunk = ⊥
  IsKept _ = Unit {0}

  abbrev Same : Acts → Acts → Type 0
  Same a b = b.slots.held ≡ a.slots.held

  fulfil-same : (a : Acts) → Same a (fulfil_cancel a)
  fulfil-same a = either (Same a) (is_wanted a.slots && not a.slots.answered) _ a (λ e. refl) (λ e. refl)

  pull-same : (a : Acts) (phase : TeePhase) → Same a (pull_in t a phase)
  pull-same a Resting = refl
  pull-same a Reading = refl
  pull-same a Over = refl

  close-same : (a : Acts) (phase : TeePhase) → Same a (close_in a phase)
  close-same a Resting = fulfil-same (causing (on_branches Close a.slots) (with_slots (record a.slots { phase = Over }) a))
  close-same a Reading = fulfil-same (causing (on_branches Close a.slots) (with_slots (record a.slots { phase = Over }) a))
  close-same a Over = refl

  again-same : (a : Acts) (asked : Bool) → Same a (again t a asked)
  unfolding pull_branch
  again-same a true = pull-same a a.slots.phase
  again-same a false = refl

  resolve-same : (a : Acts) (p : PromiseId) → Same a (resolve_cancel p a)
  resolve-same a p = either (Same a) a.slots.answered a _ (λ e. refl) (λ e. refl)

  reason-same : (half : Half) (r : Plain) (x : tee.Slots) → (with_reason half r x).held ≡ x.held
  reason-same First r x = refl
  reason-same Second r x = refl

  cancel-same : (half : Half) (r : Plain) (a : Acts) (o : Option Plain) → Same a (cancel_by t half r a o)
  cancel-same half r a (Some old) = refl
  cancel-same half r a None =
      let b : Acts = with_slots (with_reason half r a.slots) a in
      either (Same a) (is_wanted b.slots) b (cancel_source t b) (λ e. reason-same half r a.slots) (λ e. resolve-same _ _ ∙ reason-same half r a.slots)

  held-same : (operation : TeeOperation) (a : Acts) → IsKept operation → Same a (tee_operation t operation a)
  unfolding pull_branch keep_chunk source_closed source_errored hand_chunk handed cancel_branch reader_settled
  held-same names.PullBranch a n = pull-same a a.slots.phase
  held-same (names.KeepChunk v) a n = absurd n
  held-same names.SourceClosed a n = close-same a a.slots.phase
  held-same names.SourceErrored a n = refl
  held-same names.HandChunk a n = absurd n
  held-same names.Handed a n = again-same (with_slots (record a.slots { phase = rested a.slots.phase }) a) a.slots.read_again
  held-same (names.CancelBranch half r u) a n = cancel-same half r a (reason_of half a.slots)
  held-same (names.ReaderSettled (Ok v)) a n = refl
  held-same (names.ReaderSettled (Err r)) a n = fulfil-same _

  keep-held : (v : Value) (a : Acts) → (tee_operation t (names.KeepChunk v) a).slots.held ≡ Some v
  unfolding keep_chunk
  keep-held v a = refl

  hand-held : (a : Acts) → (tee_operation t names.HandChunk a).slots.held ≡ None
  unfolding hand_chunk
  hand-held a = by a.slots.held refl
    where
      by : (o : Option Value) → a.slots.held ≡ o → (hand_held t a o).slots.held ≡ None
      by None e = e
      by (Some v) e = refl

  self : nat_eq t.0 t.0 ≡ true
  self = grind arith

  told-hand : (s : Slots) (x : tee.Slots) → slice_get s.tees t.0 ≡ Some x → handed_by t (OnTee t names.HandChunk) s ≡ held_values x.held
  told-hand s x at = ap (λ (b : Bool). if b then held_values (tee_at t s).held else []) self ∙ ap (λ o. held_values (as_tee o).held) at

  told-kept : (s : Slots) (operation : TeeOperation) → IsKept operation → handed_by t (OnTee t operation) s ≡ []
  told-kept s names.HandChunk n = absurd n
  told-kept s operation n = refl

  own-none : (operation : TeeOperation) → IsKept operation → kept_of (OnTee t operation) ≡ []
  own-none (names.KeepChunk v) n = absurd n
  own-none operation n = refl

  module _ (h : Gone) (s : Slots) (es : List Effect) (x : tee.Slots) (at : slice_get s.tees t.0 ≡ Some x) where
    abbrev a : Acts
    a = record { slots = x; out = found s }

    abbrev After : TeeOperation → Type 0
    After operation =
        let b : Acts = tee_operation t operation a in
        ((h.handed ++ handed_by t (OnTee t operation) s) ++ held_values b.slots.held) ++ kept (b.out.effects ++ es) ≡ h.teed.given ++ []

    caused-none : (operation : TeeOperation) → kept (tee_operation t operation a).out.effects ≡ []
    caused-none operation =
        none-kept (tee_operation t operation a).out.effects
        (each-map (TeeCauses t x.source x.branch1 x.branch2) Keeps (tee_keeps t x.source x.branch1 x.branch2) (tee_operation t operation a).out.effects ((tee-causes t operation a).effects tt))

    after-other : (operation : TeeOperation) → IsKept operation → (h.handed ++ held_values x.held) ++ (kept_of (OnTee t operation) ++ kept es) ≡ h.teed.given → After operation
    after-other operation n k =
        let b : Acts = tee_operation t operation a in
        let was : (h.handed ++ held_values x.held) ++ kept es ≡ h.teed.given = rw (own-none operation n) at k in
        rw (told-kept s operation n, held-same operation a n, kept-append b.out.effects es, caused-none operation, append-nil h.handed, append-nil h.teed.given) was

    after-hand : (h.handed ++ held_values x.held) ++ kept es ≡ h.teed.given → After names.HandChunk
    after-hand k =
        let b : Acts = tee_operation t names.HandChunk a in
        rw (told-hand s x at, hand-held a, kept-append b.out.effects es, caused-none names.HandChunk, append-nil h.teed.given, append-nil (h.handed ++ held_values x.held)) k

    after-keep : (v : Value) → held_values x.held ≡ [] → kept es ≡ [] → (h.handed ++ held_values x.held) ++ (kept_of (OnTee t (names.KeepChunk v)) ++ kept es) ≡ h.teed.given → After (names.KeepChunk v)
    after-keep v none rest k =
        let b : Acts = tee_operation t (names.KeepChunk v) a in
        let own : kept_of (OnTee t (names.KeepChunk v)) ≡ v ∷ [] = ap (λ (c : Bool). if c then v ∷ [] else []) self in
        let was : h.handed ++ (v ∷ []) ≡ h.teed.given = sym (rw (none, own, rest, append-nil h.handed) refl) ∙ k in
        rw (keep-held v a, kept-append b.out.effects es, caused-none (names.KeepChunk v), rest, append-nil h.handed, append-nil h.teed.given, append-nil (h.handed ++ (v ∷ []))) was

  own-row : (h : Gone) (s : Slots) (operation : TeeOperation) (es : List Effect) (x : tee.Slots) → slice_get s.tees t.0 ≡ Some x → All h s (OnTee t operation ∷ es)
      → let d : Done = on_tee_at (tee_operation t operation) t s (Some x) in Gives (gone_then h (told (OnTee t operation) s)) d.slots (d.caused ++ es)
  own-row h s operation es x at k = record {
    absent = λ none. none_some b.slots (sym none ∙ place);
    there = λ y now. subst (λ (z : tee.Slots). ((h.handed ++ handed_by t (OnTee t operation) s) ++ held_values z.held) ++ kept (b.out.effects ++ es) ≡ h.teed.given ++ []) (some_tee b.slots y (sym place ∙ now)) (by operation (k.gives.there x at) one);
  }
    where
      b : Acts
      b = tee_operation t operation (record { slots = x; out = found s })

      place : slice_get (slice_set s.tees t.0 b.slots) t.0 ≡ Some b.slots
      place = tees_same t s.tees t.0 x b.slots at

      one : sum_of (in_stream t) s.streams + (of_effect t (OnTee t operation) + sum_of (of_effect t) es) + held_of (Some x) ≤ may_have x.phase
      one = subst (λ (o : Option tee.Slots). sum_of (in_stream t) s.streams + (of_effect t (OnTee t operation) + sum_of (of_effect t) es) + held_of o ≤ may_have_of o) at k.one

      by : (operation : TeeOperation) → (h.handed ++ held_values x.held) ++ (kept_of (OnTee t operation) ++ kept es) ≡ h.teed.given
          → sum_of (in_stream t) s.streams + (of_effect t (OnTee t operation) + sum_of (of_effect t) es) + held_of (Some x) ≤ may_have x.phase → After h s es x at operation
      by (names.KeepChunk v) k one =
          let m = most x.phase in
          let weight : one_of t t ≡ 1 = ap (λ (c : Bool). if c then 1 else 0) self in
          after-keep h s es x at v (empty-list (held_values x.held) (omega (arith, one, m, weight))) (all-kept es (omega (arith, one, m, weight))) k
      by names.HandChunk k one = after-hand h s es x at k
      by operation k one = after-other h s es x at operation tt k

  tee-row : (h : Gone) (s : Slots) (u : TeeId) (operation : TeeOperation) (es : List Effect) → All h s (OnTee u operation ∷ es) → (o : Option tee.Slots) → slice_get s.tees u.0 ≡ o → (same : Bool) → same ≡ nat_eq t.0 u.0
      → let d : Done = on_tee_at (tee_operation u operation) u s o in Gives (gone_then h (told (OnTee u operation) s)) d.slots (d.caused ++ es)
  tee-row h s u operation es k None at true e =
      let same : t ≡ u = ap (λ (n : ℕ). record { 0 = n }) (eq_numbers t.0 u.0 (sym e)) in
      let gone : slice_get s.tees t.0 ≡ None = rw same at in
      record {
        absent = λ none. let old = k.gives.absent none in (rw (old.0, none-told operation gone) refl, rw (old.1) refl);
        there = λ x now. none_some x (sym gone ∙ now);
      }
    where
      none-told : (operation : TeeOperation) → slice_get s.tees t.0 ≡ None → handed_by t (OnTee u operation) s ≡ []
      none-told names.HandChunk gone = either (λ (vs : List Value). vs ≡ []) (nat_eq t.0 u.0) (held_values (tee_at t s).held) [] (λ e. ap (λ o. held_values (as_tee o).held) gone) (λ e. refl)
      none-told operation gone = refl
  tee-row h s u operation es k (Some y) at true e =
      let same : t ≡ u = ap (λ (n : ℕ). record { 0 = n }) (eq_numbers t.0 u.0 (sym e)) in
      subst (λ (v : TeeId). slice_get s.tees v.0 ≡ Some y → All h s (OnTee v operation ∷ es) → let d : Done = on_tee_at (tee_operation v operation) v s (Some y) in Gives (gone_then h (told (OnTee v operation) s)) d.slots (d.caused ++ es)) same
      (λ f g. own-row h s operation es y f g) at k
  tee-row h s u operation es k None at false e =
      aside h (told (OnTee u operation) s) s s (OnTee u operation) es [] refl (far-told operation) refl (far-kept operation) refl k.gives
    where
      far-told : (operation : TeeOperation) → handed_by t (OnTee u operation) s ≡ []
      far-told names.HandChunk = ap (λ (b : Bool). if b then held_values (tee_at t s).held else []) (sym e)
      far-told operation = refl

      far-kept : (operation : TeeOperation) → kept_of (OnTee u operation) ≡ []
      far-kept (names.KeepChunk v) = ap (λ (b : Bool). if b then v ∷ [] else []) (sym e)
      far-kept operation = refl
  tee-row h s u operation es k (Some y) at false e =
      let b : Acts = tee_operation u operation (record { slots = y; out = found s }) in
      aside h (told (OnTee u operation) s) s _ (OnTee u operation) es b.out.effects (tees_other t s.tees t.0 u.0 b.slots (unequal_numbers t.0 u.0 (sym e))) (far-told operation) refl (far-kept operation)
      (none-kept b.out.effects (each-map (TeeCauses u y.source y.branch1 y.branch2) Keeps (tee_keeps u y.source y.branch1 y.branch2) b.out.effects ((tee-causes u operation (record { slots = y; out = found s })).effects tt)))
      k.gives
    where
      far-told : (operation : TeeOperation) → handed_by t (OnTee u operation) s ≡ []
      far-told names.HandChunk = ap (λ (b : Bool). if b then held_values (tee_at t s).held else []) (sym e)
      far-told operation = refl

      far-kept : (operation : TeeOperation) → kept_of (OnTee u operation) ≡ []
      far-kept (names.KeepChunk v) = ap (λ (b : Bool). if b then v ∷ [] else []) (sym e)
      far-kept operation = refl

  row-gives : (h : Gone) (s : Slots) (e : Effect) (es : List Effect) → All h s (e ∷ es) → Gives (gone_then h (told e s)) (row e s).slots ((row e s).caused ++ es)
  unfolding row
  row-gives h s (OnTee u operation) es k = tee-row h s u operation es k (slice_get s.tees u.0) refl (nat_eq t.0 u.0) refl
  row-gives h s (ChunkSteps i q v) es k = chunk-row h s (row (ChunkSteps i q v) s).slots i q v es (ap (λ (xs : List tee.Slots). slice_get xs t.0) (row-tees (ChunkSteps i q v) s tt)) k
  row-gives h s e es k =
      aside h (told e s) s (row e s).slots e es (row e s).caused (ap (λ (xs : List tee.Slots). slice_get xs t.0) (row-tees e s tt)) (none-handed s e tt) (none-given s e tt) (own-kept e tt)
      (none-kept (row e s).caused (row-causes Keeps e s (other-keeps e tt))) k.gives

  -- calls and jobs

  tee-stays : (c : Call) (s : Slots) (x : tee.Slots) → slice_get s.tees t.0 ≡ Some x → slice_get (begin c s).done.slots.tees t.0 ≡ Some x
  tee-stays c s x at = begin-makes (λ z. slice_get z.tees t.0 ≡ Some x) (record {
    promise = λ z k. k;
    locks = λ z ls k. k;
    hosts = λ z hs k. k;
    pipe = λ z source dest prevent signal promise k. k;
    signal = λ z k. k;
    transform = λ z kind a b change k. k;
    tee = λ z source first second cancel k. get-stays z.tees _ t.0 x k;
    port = λ z side stream backpressure k. k;
    readable = λ z owner mark size k. k;
    bytes = λ z mark auto k. k;
    byob_requests = λ z requests k. k;
    writable = λ z owner mark size k. k;
  }) c s at

  new-holds : (c : Call) (s : Slots) → slice_get s.tees t.0 ≡ None → (x : tee.Slots) → slice_get (begin c s).done.slots.tees t.0 ≡ Some x → held_values x.held ≡ []
  new-holds c s none = begin-makes (λ z. (x : tee.Slots) → slice_get z.tees t.0 ≡ Some x → held_values x.held ≡ []) (record {
    promise = λ z k. k;
    locks = λ z ls k. k;
    hosts = λ z hs k. k;
    pipe = λ z source dest prevent signal promise k. k;
    signal = λ z k. k;
    transform = λ z kind a b change k. k;
    tee = λ z source first second cancel k x now. ⊎_elim (λ old. k x old) (λ new. rw (← new.1) refl) (get-either z.tees (tee.set_up source first second cancel) t.0 x now);
    port = λ z side stream backpressure k. k;
    readable = λ z owner mark size k. k;
    bytes = λ z mark auto k. k;
    byob_requests = λ z requests k. k;
    writable = λ z owner mark size k. k;
  }) c s (λ x old. none_some x (sym none ∙ old))

  call-gives : (h : Gone) (s : Slots) (c : Call) → Gives h s [] → (o : Option tee.Slots) → slice_get s.tees t.0 ≡ o → Gives h (begin c s).done.slots (begin c s).done.caused
  call-gives h s c k None at = record {
    absent = λ none. k.absent at;
    there = λ x now. let old = k.absent at in rw (old.0, old.1, new-holds c s at x now, each-kept (begin c s).done.caused (call_none t c s)) refl;
  }
  call-gives h s c k (Some y) at = record {
    absent = λ none. none_some y (sym none ∙ tee-stays c s y at);
    there = λ x now.
        let same : y ≡ x = some_tee y x (sym (tee-stays c s y at) ∙ now) in
        rw (← same, each-kept (begin c s).done.caused (call_none t c s)) (k.there y at);
  }

  still-gives : (h : Gone) (s z : Slots) (es : List Effect) → z.tees ≡ s.tees → kept es ≡ [] → Gives h s [] → Gives h z es
  still-gives h s z es tees none k = record { absent = λ e. k.absent (rw tees at e); there = λ x e. rw none (k.there x (rw tees at e)) }

  goes : GoesUntold gone_then told All
  goes = record {
    row = λ h s e es k. record { reads = (reads-stays t).row s e es k.reads; one = (one-stays t).row s e es k.one; gives = row-gives h s e es k };
    call = λ h s c k. record { reads = (reads-stays t).call s c k.reads; one = (one-stays t).call s c k.one; gives = call-gives h s c k.gives (slice_get s.tees t.0) refl };
    job = λ h s job e k. record { reads = (reads-stays t).job s job e k.reads; one = (one-stays t).job s job e k.one; gives = still-gives h s _ (job_effects job) refl (each-kept (job_effects job) (job_none t job)) k.gives };
    answered = λ h s p k. record { reads = (reads-stays t).answered s p k.reads; one = (one-stays t).answered s p k.one; gives = still-gives h s _ [] refl refl k.gives };
    older = λ h s k. record { reads = (reads-stays t).older s k.reads; one = (one-stays t).older s k.one; gives = still-gives h s _ [] refl refl k.gives };
  }

  rests : RestsUntold All
  rests = record { heard = λ h s k. record { reads = reads-heard t s k.reads; one = one-heard t s k.one; gives = still-gives h s _ [] refl refl k.gives } }

  history : IsHistory no_gone gone_then
  history = record {
    left = λ h. refl;
    right = λ h k. record { teed = record { given = append-nil h.teed.given k; cancels = append-nil h.teed.cancels k }; handed = append-nil h.handed k };
    assoc = λ f g h k. record {
      teed = record { given = append_assoc f.teed.given g.teed.given h.teed.given k; cancels = append_assoc f.teed.cancels g.teed.cancels h.teed.cancels k };
      handed = append_assoc f.handed g.handed h.handed k;
    };
  }

  -- both are told side by side

  along-teed : (ms : List Moment) → (along no_gone gone_then told ms).teed ≡ along no_teed teed_then (effect_teed t) ms
  along-teed [] = refl
  along-teed (m ∷ ms) = ap (teed_then (effect_teed t m.effect m.found)) (along-teed ms)

  along-handed : (ms : List Moment) → (along no_gone gone_then told ms).handed ≡ along [] (λ f g. f ++ g) (handed_by t) ms
  along-handed [] = refl
  along-handed (m ∷ ms) = ap (λ vs. handed_by t m.effect m.found ++ vs) (along-handed ms)

  abbrev run_gone : List Entry → Slots → Gone
  run_gone entries s = over no_gone gone_then (in_step no_gone gone_then told) entries s

  over-teed : (entries : List Entry) (s : Slots) → (run_gone entries s).teed ≡ run_teed t entries s
  over-teed [] s = refl
  over-teed (x ∷ xs) s = ap (λ f. teed_then f (run_gone xs (step s x)).teed) (along-teed (moments_in s x)) ∙ ap (teed_then (in_step no_teed teed_then (effect_teed t) s x)) (over-teed xs (step s x))

  over-handed : (entries : List Entry) (s : Slots) → (run_gone entries s).handed ≡ run_handed t entries s
  over-handed [] s = refl
  over-handed (x ∷ xs) s = ap (λ f. f ++ (run_gone xs (step s x)).handed) (along-handed (moments_in s x)) ∙ ap (λ g. in_step [] (λ f g. f ++ g) (handed_by t) s x ++ g) (over-handed xs (step s x))

  run-all : (entries : List Entry) → All (run_gone entries empty) (run entries empty) []
  run-all entries =
      run-holds no_gone gone_then history told All goes rests entries empty
      (record { reads = reads-empty t; one = one-empty t; gives = record { absent = λ e. (refl, refl); there = λ x e. cc } })

  -- what the source gave was handed on, or is held
  pub given-on : (entries : List Entry) (x : tee.Slots) → slice_get (run entries empty).tees t.0 ≡ Some x → run_handed t entries empty ++ held_values x.held ≡ (run_teed t entries empty).given
  given-on entries x at =
      let k = (run-all entries).gives.there x at in
      ap (λ vs. vs ++ held_values x.held) (sym (over-handed entries empty)) ∙ (sym (append-nil ((run_gone entries empty).handed ++ held_values x.held)) ∙ (k ∙ ap (λ (g : Teed). g.given) (over-teed entries empty)))
