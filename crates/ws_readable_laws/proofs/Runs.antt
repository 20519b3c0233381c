-- The order of a readable stream over every run.
use Rattle.std.proofs.Common.{◌≡◌, ℕ, Bool, true, false, slice_get, Option, Some, None, ◌||◌, ◌&&◌, le-ltb, if◌then◌else◌, List, [], ◌∷◌, ◌++◌, ◌⊎◌, inl, inr, refl, sym, ap, subst, ◌∙◌, append_assoc, append-nil, add_assoc, zero-add, add-zero, arith}
use Rattle.ws_value.specs.declared.ids.PipeId.{PipeId}
use Rattle.ws_value.specs.declared.ids.StreamId.{StreamId}
use Rattle.ws_value.specs.declared.ids.TeeId.{TeeId}
use Rattle.ws_value.specs.declared.value.Plain.{Plain}
use Rattle.ws_value.specs.declared.value.Value.{Value}
use Rattle.ws_steps.specs.declared.{effects.Effect.{Effect}, effects.Effect.TheVariants.{Readable as OnReadable, Pipe, Signal, Transform, Tee, Port, ChunkSteps, CloseSteps, ErrorSteps}, effects.Owner.{Owner}, pipes.PipeOperation.{PipeOperation}, pipes.SignalOperation.{SignalOperation}, pipes.SignalOperation.TheVariants.{Add, Forget, Trigger}, queue.Queued.{Queued}}
use Rattle.ws_steps.specs.declared.{readable.ReadRequest.{ReadRequest}, readable.ReadableOperation.{ReadableOperation}, readable.ReadableOperation.TheVariants.{Read, Cancel, CancelIfReadable, Enqueue}}
use Rattle.ws_steps.specs.declared.{readable.ReadableState.{ReadableState}, readable.ReadableState.TheVariants.{Readable, Closed, Errored}, readable.SizeBy.{SizeBy}, transform.TransformId.{TransformId}, transform.TransformOperation.{TransformOperation}}
use Rattle.ws_steps.specs.Effects.{Out}
use Rattle.ws_steps.specs.Operations.{readable_operation, signal_operation}
use Rattle.ws_steps.specs.Pipes as pipe
use Rattle.ws_steps.specs.Pipes.{abort_all, trigger_unless}
use Rattle.ws_steps.specs.Readable as readable
use Rattle.ws_steps.specs.Transform as transform
use Rattle.ws_steps.specs.Tee as tee
use Rattle.ws_steps.specs.Cross as cross
use Rattle.ws_steps.specs.declared.port.PortOperation.{PortOperation}
use Rattle.ws_value.specs.declared.ids.PortId.{PortId}
use Rattle.ws_steps.specs.declared.tee.TeeOperation.{TeeOperation}
use Rattle.ws_steps.specs.Readable.{Acts, is_readable, accept_for, accept, call_pull_if_needed, controller_enqueue, after_take, pull_from, pull_steps, read_by, default_reader_read, can_close_or_enqueue, waiting}
use Rattle.ws_steps.specs.Slots.{Slots, empty, found, ends_at, halves_at, clones_at, has_readable, readable_at, no_readable}
use Rattle.ws_steps.specs.Run.{Entry, step, run}
use Rattle.ws_steps.specs.Histories.{is_same}
use Rattle.ws_steps.specs.ReadableHistory.{Flow, no_flow, flow_then, values, operation_flow, effect_flow, step_flow, run_flow}
use Rattle.ws_steps.specs.Laws.{IsLawfulReadable, EachReadableIsLawful}
use Rattle.ws_laws.proofs.Tables.{either, same_id, is_same-refl, no_readable_there, readable_acts}
use Rattle.ws_laws.proofs.Lists.{Each, each-map}
use Rattle.ws_laws.proofs.ReadableDoes.{OfReadableEnds, is_taking, pull-does, take-does, ends-do}
use Rattle.ws_laws.proofs.Begin.{IsFirst, Any, Enqueues, Never, each-any, begin-first, job-first}
use Rattle.ws_laws.proofs.PipeDoes.{PipeCauses, IsQuiet, is_looking, pipe-causes, pipe-quiet}
use Rattle.ws_laws.proofs.Walker.{IsHistory, run-stays}
use Rattle.ws_laws.proofs.OnReadable as on_readable
use Rattle.ws_laws.proofs.Order.{IsQuiet as IsQuietEffect, IsNoGift, Calm, Orderly, is_resting, is_from, may_pull, tee_takes, true_of, transform-quiet, tee-quiet, port-quiet, transform-calm, tee-calm, port-calm, Behind, is_going, behind-active, behind-tee, orderly-stays, orderly-empty}
use Rattle.ws_laws.proofs.TransformDoes.{TransformCauses, transform-causes}
use Rattle.ws_laws.proofs.TeeDoes.{TeeCauses, tee-causes}
use Rattle.ws_laws.proofs.PortDoes.{PortCauses, port-causes}
use Rattle.ws_laws.proofs.OnReadable.{Holders, holders, IsForeign, AreSteps, IsLaw, Kept, is_still, piped, transformed, teed, ported, all_seen, all_seen-append}
use Rattle.ws_readable_laws.proofs.Operations.{Held, same_flow, or_false, due, with_due, given_to, first_given, operation_keeps}

-- what is seen of the agenda: an operation that may give, one of a pipe that may read, and chunk steps of the stream
pub data Mark : Type 0 where
  Takes : Mark
  Gives : Value → Mark

abbrev pub takes : Bool → List Mark
takes true = Takes ∷ []
takes false = []

abbrev pub mark : StreamId → Effect → List Mark
mark i (OnReadable j operation) = if is_same i j then takes (is_taking operation) else []
mark i (Pipe p operation) = takes (is_looking operation)
mark i (ChunkSteps j request v) = if is_same i j then Gives v ∷ [] else []
mark i _ = []

-- what is still to be given
abbrev pub pending : List Mark → List Value
pending [] = []
pending (Takes ∷ ms) = pending ms
pending (Gives v ∷ ms) = v ∷ pending ms

-- behind an operation that may give stand no chunk steps of the stream
abbrev pub Clear : List Mark → Type 0
Clear [] = Unit {0}
Clear (Takes ∷ ms) = (pending ms ≡ []) × Clear ms
Clear (Gives v ∷ ms) = Clear ms

-- the flow with what is still to be given
abbrev pub with_pending : List Mark → Flow → Flow
with_pending ms h = record h { given = h.given ++ pending ms }

pub record Ordered (h : Flow) (r : readable.Slots) (ms : List Mark) : Type 0 where
  pub held : Held (with_pending ms h) r
  pub clear : Clear ms

abbrev pub gives : List Value → List Mark
gives [] = []
gives (v ∷ vs) = Gives v ∷ gives vs

pending-gives : (vs : List Value) (ms : List Mark) → pending (gives vs ++ ms) ≡ vs ++ pending ms
pending-gives [] ms = refl
pending-gives (v ∷ vs) ms = ap (λ us. v ∷ us) (pending-gives vs ms)

clear-gives : (vs : List Value) (ms : List Mark) → Clear ms → Clear (gives vs ++ ms)
clear-gives [] ms c = c
clear-gives (v ∷ vs) ms c = clear-gives vs ms c

-- an operation causes the chunk steps that were due, and no others

module _ (i : StreamId) where
  abbrev Shows : List Mark → Out → Type 0
  Shows ms x = all_seen (mark i) x.effects ≡ ms

  hidden : (ms : List Mark) (es : List Effect) (e : Effect) → mark i e ≡ [] → all_seen (mark i) es ≡ ms → all_seen (mark i) (es ++ e ∷ []) ≡ ms
  hidden ms es e n h = rw (all_seen-append, n) (append-nil (all_seen (mark i) es) ∙ h)

  shows : (ms : List Mark) → OfReadableEnds (Shows ms) i
  shows ms = record {
    settle = λ x p o h. h;
    pull = λ x h. hidden ms x.effects _ refl h;
    cancel = λ x r p h. hidden ms x.effects _ refl h;
    close = λ x r h. hidden ms x.effects _ refl h;
    error = λ x r e h. hidden ms x.effects _ refl h;
  }

  gives-chunk : (r : ReadRequest) (v : Value) (es : List Effect) → all_seen (mark i) es ≡ [] → all_seen (mark i) (es ++ ChunkSteps i r v ∷ []) ≡ Gives v ∷ []
  gives-chunk r v es h = rw (all_seen-append, h, is_same-refl) refl

  accept-shows : (v : Value) (a : Acts) (rs : List ReadRequest) → Shows [] a.out → Shows (gives (given_to v rs)) (accept_for i v a rs).out
  accept-shows v a [] h = h
  accept-shows v a (r ∷ rs) h = gives-chunk r v a.out.effects h

  enqueue-shows : (v : Value) (a : Acts) (t : Bool) → Shows [] a.out → Shows (gives (if t then given_to v (waiting a.slots) else [])) (if t then call_pull_if_needed i (accept i v a) else a).out
  unfolding accept
  enqueue-shows v a false h = h
  enqueue-shows v a true h =
      pull-does (Shows (gives (given_to v (waiting a.slots)))) i (shows (gives (given_to v (waiting a.slots)))) (accept i v a) (accept-shows v a (waiting a.slots) h)

  pull_from-shows : (r : ReadRequest) (a : Acts) (queue : List (Queued Value)) → Shows [] a.out → Shows (gives (first_given Readable queue)) (pull_from i r a queue).out
  pull_from-shows r a [] h = pull-does (Shows []) i (shows []) (record a { slots = record a.slots { requests = a.slots.requests ++ r ∷ [] } }) h
  pull_from-shows r a (q ∷ qs) h =
      let b : Acts = record a { slots = record a.slots { queue = qs } } in
      gives-chunk r q.value (after_take i b).out.effects (take-does (Shows []) i (shows []) b h)

  read_by-shows : (r : ReadRequest) (a : Acts) (state : ReadableState) → Shows [] a.out → Shows (gives (first_given state a.slots.queue)) (read_by i r a state).out
  unfolding pull_steps
  read_by-shows r a Readable h = pull_from-shows r a a.slots.queue h
  read_by-shows r a Closed h = hidden [] a.out.effects _ refl h
  read_by-shows r a Errored h = hidden [] a.out.effects _ refl h

  operation-shows : (operation : ReadableOperation) (a : Acts) → Shows [] a.out → Shows (gives (due operation a.slots)) (readable_operation i operation a).out
  unfolding controller_enqueue default_reader_read
  operation-shows (Enqueue v) a h = enqueue-shows v a (can_close_or_enqueue a.slots) h
  operation-shows (Read r) a h = read_by-shows r (record a { slots = record a.slots { disturbed = true } }) a.slots.state h
  operation-shows operation a h = ends-do (Shows []) i (shows []) operation a refl h

pub no_gives : (operation : ReadableOperation) (r : readable.Slots) → (operation_flow operation r).given ≡ []
no_gives (Enqueue v) r = either (λ (f : Flow). f.given ≡ []) (can_close_or_enqueue r) _ no_flow (λ e. refl) (λ e. refl)
no_gives (Read request) r = refl
no_gives (Cancel reason p) r = refl
no_gives (CancelIfReadable reason p) r = refl
no_gives _ r = refl

-- what an operation was about to give stands before all that is still to be given, of which there is none, or it gives none
moved : (G P D N : List Value) → N ≡ [] → (P ≡ []) ⊎ (D ≡ []) → (G ++ P) ++ D ≡ (G ++ N) ++ (D ++ P)
moved G P D N n (inl p) = rw (n, p) (simp append-nil)
moved G P D N n (inr d) = rw (n, d) (simp append-nil)

due_none : (operation : ReadableOperation) (r : readable.Slots) → is_taking operation ≡ false → due operation r ≡ []
due_none (Enqueue v) r n = cc
due_none (Read request) r n = cc
due_none operation r n = refl

-- histories

or_assoc : (a b c : Bool) → (a || b) || c ≡ a || (b || c)
or_assoc true b c = refl
or_assoc false b c = refl

flow-assoc : (f g h : Flow) → flow_then (flow_then f g) h ≡ flow_then f (flow_then g h)
flow-assoc f g h = λ i. record {
  entered = append_assoc f.entered g.entered h.entered i;
  given = append_assoc f.given g.given h.given i;
  cancelled = or_assoc f.cancelled g.cancelled h.cancelled i;
  asked = add_assoc f.asked g.asked h.asked i;
}

pub nothing_flows : (f : Flow) → flow_then no_flow f ≡ f
nothing_flows f = λ i. record f { asked = zero-add f.asked i }

pub is_history : IsHistory no_flow flow_then
is_history = record { left = nothing_flows; right = same_flow; assoc = flow-assoc }

-- until it is made, no cancel closed it
abbrev pub Unmade : Flow → Type 0
Unmade h = h.cancelled ≡ false

made : (owner : Owner) (mark : ℕ) (size : SizeBy) (h : Flow) → Unmade h → Ordered h no_readable [] → Ordered h (readable.set_up owner mark size) []
made owner mark size h n k =
    let none_dropped : k.held.dropped ≡ [] = k.held.balanced.whole n refl in
    record {
      held = record { dropped = k.held.dropped; balanced = record { all = k.held.balanced.all; live = λ f. none_dropped; whole = λ f g. none_dropped; gone = λ f. refl; fit = λ f. refl; asked = k.held.balanced.asked } };
      clear = tt;
    }

idle_flow : (operation : ReadableOperation) → operation_flow operation no_readable ≡ no_flow
idle_flow (Enqueue v) = refl
idle_flow (Read request) = refl
idle_flow (Cancel r p) = refl
idle_flow (CancelIfReadable r p) = refl
idle_flow _ = refl

-- where there is no such stream, nothing flows
pub nothing_there : (i : StreamId) (operation : ReadableOperation) (s : Slots) → has_readable i s ≡ false → effect_flow i (OnReadable i operation) s ≡ no_flow
nothing_there i operation s none = rw (is_same-refl i, no_readable_there (slice_get s.streams i.0) none) (idle_flow operation)

-- an operation of a pipe that causes nothing doesn't look
still_looks : (operation : PipeOperation) → is_still operation ≡ true → is_looking operation ≡ false
still_looks operation e = grind arith

no_taken : (b : Bool) (ms : List Mark) → pending (takes b ++ ms) ≡ pending ms
no_taken true ms = refl
no_taken false ms = refl

module _ (i : StreamId) where
  unseen : (e : Effect) → IsForeign i e → mark i e ≡ []
  unseen (OnReadable j operation) f = rw f refl
  unseen (ChunkSteps j request v) f = rw f refl
  unseen (Pipe p operation) f = ap takes (still_looks operation f)
  unseen (Signal a operation) f = absurd f
  unseen _ f = refl

  untold : (e : Effect) (s : Slots) → IsForeign i e → effect_flow i e s ≡ no_flow
  untold (OnReadable j operation) s f = rw f refl
  untold (ChunkSteps j request v) s f = rw f refl
  untold (Signal a operation) s f = absurd f
  untold _ s f = refl

  moved_keeps : (operation : ReadableOperation) (s : Slots) (h : Flow) (ms : List Mark) → (pending ms ≡ []) ⊎ (due operation (readable_at i s) ≡ []) → Held (with_pending ms h) (readable_at i s) → Clear ms
      → let a : Acts = readable_operation i operation (readable_acts i s) in Ordered (flow_then h (operation_flow operation (readable_at i s))) a.slots (all_seen (mark i) a.out.effects ++ ms)
  moved_keeps operation s h ms none held clear =
      let r : readable.Slots = readable_at i s in
      let f : Flow = operation_flow operation r in
      let d : List Value = due operation r in
      let given : (h.given ++ pending ms) ++ d ≡ (h.given ++ f.given) ++ pending (gives d ++ ms) =
      moved h.given (pending ms) d f.given (no_gives operation r) none ∙ ap (λ vs. (h.given ++ f.given) ++ vs) (sym (pending-gives d ms)) in
      let same : flow_then (with_pending ms h) (with_due operation r) ≡ with_pending (gives d ++ ms) (flow_then h f) = λ k. record (flow_then h f) { given = given k } in
      rw (operation-shows i operation (readable_acts i s) refl)
      (record { held = rw same at (operation_keeps i operation (with_pending ms h) (readable_acts i s) held); clear = clear-gives d ms clear })

  taking_keeps : (operation : ReadableOperation) (s : Slots) (h : Flow) (ms : List Mark) (t : Bool) → t ≡ is_taking operation → Ordered h (readable_at i s) (takes t ++ ms)
      → let a : Acts = readable_operation i operation (readable_acts i s) in Ordered (flow_then h (operation_flow operation (readable_at i s))) a.slots (all_seen (mark i) a.out.effects ++ ms)
  taking_keeps operation s h ms true t k = moved_keeps operation s h ms (inl k.clear.0) k.held k.clear.1
  taking_keeps operation s h ms false t k = moved_keeps operation s h ms (inr (due_none operation (readable_at i s) (sym t))) k.held k.clear

  absent_keeps : (h : Flow) (ms : List Mark) (t : Bool) → Ordered h no_readable (takes t ++ ms) → Ordered h no_readable ms
  absent_keeps h ms true k = record { held = k.held; clear = k.clear.1 }
  absent_keeps h ms false k = k

  chunk_keeps : (v : Value) (h : Flow) (r : readable.Slots) (ms : List Mark) → Ordered h r (Gives v ∷ ms) → Ordered (flow_then h (record no_flow { given = v ∷ [] })) r ms
  chunk_keeps v h r ms k =
      let given : h.given ++ (v ∷ pending ms) ≡ (h.given ++ v ∷ []) ++ pending ms = sym (append_assoc h.given (v ∷ []) (pending ms)) in
      let same : with_pending (Gives v ∷ ms) h ≡ with_pending ms (flow_then h (record no_flow { given = v ∷ [] })) =
      λ k. record { entered = sym (append-nil h.entered) k; given = given k; cancelled = sym (or_false h.cancelled) k; asked = sym (add-zero h.asked) k } in
      record { held = rw same at k.held; clear = k.clear }

  taken_first : (b t : Bool) (ms : List Mark) → (pending ms ≡ []) × Clear ms → let ns : List Mark = (if b then takes t else []) ++ ms in (pending ns ≡ []) × Clear ns
  taken_first true true ms c = (c.0, c)
  taken_first true false ms c = c
  taken_first false t ms c = c

  -- what a pipe causes: none is chunk steps, and only where it looks one may read

  pipe_marks : (p : PipeId) (source dest : StreamId) (es : List Effect) (ms : List Mark) → Each (PipeCauses p source dest) es → (pending ms ≡ []) × Clear ms
      → let ns : List Mark = all_seen (mark i) es ++ ms in (pending ns ≡ []) × Clear ns
  pipe_marks p source dest [] ms c k = k
  pipe_marks p source dest (OnReadable j operation ∷ es) ms c k =
      rw (append_assoc (mark i (OnReadable j operation)) (all_seen (mark i) es) ms) (taken_first (is_same i j) (is_taking operation) (all_seen (mark i) es ++ ms) (pipe_marks p source dest es ms c.1 k))
  pipe_marks p source dest (Pipe q operation ∷ es) ms c k =
      rw (append_assoc (mark i (Pipe q operation)) (all_seen (mark i) es) ms) (taken_first true (is_looking operation) (all_seen (mark i) es ++ ms) (pipe_marks p source dest es ms c.1 k))
  pipe_marks p source dest (ChunkSteps j request v ∷ es) ms c k = absurd (c.0)
  pipe_marks p source dest (e ∷ es) ms c k = pipe_marks p source dest es ms c.1 k

  untaken : (p : PipeId) (source dest j : StreamId) (operation : ReadableOperation) → PipeCauses p source dest (OnReadable j operation) → IsQuiet (OnReadable j operation) → mark i (OnReadable j operation) ≡ []
  untaken p source dest j (Read request) c q = absurd q
  untaken p source dest j (Enqueue v) c q = absurd c
  untaken p source dest j operation c q = either (λ (ms : List Mark). ms ≡ []) (is_same i j) _ [] (λ e. refl) (λ e. refl)

  quiet_mark : (p : PipeId) (source dest : StreamId) (e : Effect) → PipeCauses p source dest e → IsQuiet e → mark i e ≡ []
  quiet_mark p source dest (OnReadable j operation) c q = untaken p source dest j operation c q
  quiet_mark p source dest (Pipe r operation) c q = absurd q
  quiet_mark p source dest (ChunkSteps j request v) c q = absurd c
  quiet_mark p source dest _ c q = refl

  quiet_marks : (p : PipeId) (source dest : StreamId) (es : List Effect) → Each (PipeCauses p source dest) es → Each IsQuiet es → all_seen (mark i) es ≡ []
  quiet_marks p source dest [] c q = refl
  quiet_marks p source dest (e ∷ es) c q = rw (quiet_mark p source dest e c.0 q.0, quiet_marks p source dest es c.1 q.1) refl

  pipe_keeps : (p : PipeId) (source dest : StreamId) (es : List Effect) (t : Bool) → Each (PipeCauses p source dest) es → (t ≡ false → Each IsQuiet es)
      → (h : Flow) (r : readable.Slots) (ms : List Mark) → Ordered h r (takes t ++ ms) → Ordered h r (all_seen (mark i) es ++ ms)
  pipe_keeps p source dest es true c q h r ms k =
      let m = pipe_marks p source dest es ms c (k.clear.0, k.clear.1) in
      record { held = rw (m.0, ← k.clear.0) k.held; clear = m.1 }
  pipe_keeps p source dest es false c q h r ms k = rw (quiet_marks p source dest es c (q refl)) k

  -- what a transform stream or a tee causes: none is chunk steps, and where it leads to no read none may take

  calm_marks : (es : List Effect) (ms : List Mark) → Calm i es → (pending ms ≡ []) × Clear ms → let ns : List Mark = all_seen (mark i) es ++ ms in (pending ns ≡ []) × Clear ns
  calm_marks [] ms c k = k
  calm_marks (OnReadable j operation ∷ es) ms c k =
      rw (append_assoc (mark i (OnReadable j operation)) (all_seen (mark i) es) ms) (taken_first (is_same i j) (is_taking operation) (all_seen (mark i) es ++ ms) (calm_marks es ms c.1 k))
  calm_marks (Pipe q operation ∷ es) ms c k =
      rw (append_assoc (mark i (Pipe q operation)) (all_seen (mark i) es) ms) (taken_first true (is_looking operation) (all_seen (mark i) es ++ ms) (calm_marks es ms c.1 k))
  calm_marks (ChunkSteps j request v ∷ es) ms c k = rw c.0 (calm_marks es ms c.1 k)
  calm_marks (e ∷ es) ms c k = calm_marks es ms c.1 k

  no_pull : (operation : ReadableOperation) → may_pull operation ≡ false → is_taking operation ≡ false
  no_pull operation n = grind arith

  -- an operation of stream i that may take leads to a read of it
  quiet_takes : (j : StreamId) (operation : ReadableOperation) (pulls : Bool) → is_same i j ≡ true → pulls ≡ may_pull operation → (pulls && is_from i j) ≡ false → is_taking operation ≡ false
  quiet_takes j operation false same e n = no_pull operation (sym e)
  quiet_takes j operation true same e n =
      let is : i.0 ≡ j.0 = ap (λ (k : StreamId). k.0) (same_id i j same) in
      let from : is_from i j ≡ true = rw (le-ltb j.0 i.0 (omega (arith, is))) refl in
      let wrong : true ≡ false = sym from ∙ n in cc

  rest_mark : (s : Slots) (e : Effect) → IsQuietEffect i s e → IsNoGift i e → mark i e ≡ []
  rest_mark s (OnReadable j operation) q n =
      either (λ (ms : List Mark). ms ≡ []) (is_same i j) (takes (is_taking operation)) []
      (λ e. ap takes (quiet_takes j operation (may_pull operation) e refl q)) (λ e. refl)
  rest_mark s (Pipe p operation) q n = ap takes (still_looks operation (true_of (is_still operation) q))
  rest_mark s (ChunkSteps j request v) q n = rw n refl
  rest_mark s _ q n = refl

  rest_marks : (s : Slots) (es : List Effect) → Each (IsQuietEffect i s) es → Calm i es → all_seen (mark i) es ≡ []
  rest_marks s [] q c = refl
  rest_marks s (e ∷ es) q c = rw (rest_mark s e q.0 c.0, rest_marks s es q.1 c.1) refl

  -- where no chunk steps stand, nothing is still to be given
  no_pending : (e : Effect) (ms : List Mark) → IsNoGift i e → pending (mark i e ++ ms) ≡ pending ms
  no_pending (OnReadable j operation) ms n =
      either (λ (ns : List Mark). pending (ns ++ ms) ≡ pending ms) (is_same i j) (takes (is_taking operation)) [] (λ e. no_taken (is_taking operation) ms) (λ e. refl)
  no_pending (Pipe p operation) ms n = no_taken (is_looking operation) ms
  no_pending (ChunkSteps j request v) ms n = rw n refl
  no_pending _ ms n = refl

  calm_pending : (es : List Effect) → Calm i es → pending (all_seen (mark i) es) ≡ []
  calm_pending [] c = refl
  calm_pending (e ∷ es) c = no_pending e (all_seen (mark i) es) c.0 ∙ calm_pending es c.1

  -- what is caused in place of an effect that may take, or of one that leads to no read

  active_keeps : (cs es : List Effect) → Calm i cs → Calm i es → (h : Flow) (r : readable.Slots) → Ordered h r (all_seen (mark i) es)
      → Ordered h r (all_seen (mark i) cs ++ all_seen (mark i) es)
  active_keeps cs es c d h r k =
      let none = calm_pending es d in
      let m = calm_marks cs (all_seen (mark i) es) c (none, k.clear) in
      record { held = rw (m.0, ← none) k.held; clear = m.1 }

  resting_keeps : (s : Slots) (cs es : List Effect) → Each (IsQuietEffect i s) cs → Calm i cs → (h : Flow) (r : readable.Slots) → Ordered h r (all_seen (mark i) es)
      → Ordered h r (all_seen (mark i) cs ++ all_seen (mark i) es)
  resting_keeps s cs es q c h r k = rw (rest_marks s cs q c) k

  transform_keeps : (t : TransformId) (operation : TransformOperation) (s : Slots) (x : transform.Slots) (es : List Effect) (rests : Bool) → rests ≡ is_resting operation
      → Orderly i s (Transform t operation ∷ es)
      → (h : Flow) (r : readable.Slots) → Ordered h r (all_seen (mark i) es) → Ordered h r (all_seen (mark i) (transformed t operation s x).out.effects ++ all_seen (mark i) es)
  transform_keeps t operation s x es rests e o h r k =
      let a : transform.Acts = record { slots = x; out = found s } in
      let cs : List Effect = (transformed t operation s x).out.effects in
      let calm : Calm i cs = each-map (TransformCauses t x.writable x.readable) (IsNoGift i) (transform-calm i t x.writable x.readable) cs (transform-causes t (halves_at x s) operation a tt).1.1.1 in
      by rests e cs calm refl
    where
      by : (b : Bool) → b ≡ is_resting operation → (cs : List Effect) → Calm i cs → cs ≡ (transformed t operation s x).out.effects → Ordered h r (all_seen (mark i) cs ++ all_seen (mark i) es)
      by true f cs calm is = resting_keeps s cs es (rw is (transform-quiet i s t operation s (Some x) (sym f))) calm h r k
      by false f cs calm is = active_keeps cs es calm (behind-active i s t operation es (sym f) o.ordered) h r k

  tee_keeps : (t : TeeId) (operation : TeeOperation) (s : Slots) (x : tee.Slots) (es : List Effect) (takes : Bool) → takes ≡ tee_takes i s t operation → Orderly i s (Tee t operation ∷ es)
      → slice_get s.tees t.0 ≡ Some x → (cs : List Effect) → cs ≡ (teed t operation s x).out.effects → Calm i cs
      → (h : Flow) (r : readable.Slots) → Ordered h r (all_seen (mark i) es) → Ordered h r (all_seen (mark i) cs ++ all_seen (mark i) es)
  tee_keeps t operation s x es false e o is cs same calm h r k = resting_keeps s cs es (rw same (rw is at (tee-quiet i t operation s (sym e)))) calm h r k
  tee_keeps t operation s x es true e o is cs same calm h r k = active_keeps cs es calm (behind-tee i s t operation es (sym e) o.ordered) h r k

  tee_causes : (t : TeeId) (operation : TeeOperation) (s : Slots) (x : tee.Slots) → Calm i (teed t operation s x).out.effects
  tee_causes t operation s x =
      each-map (TeeCauses t x.source x.branch1 x.branch2) (IsNoGift i) (tee-calm i t x.source x.branch1 x.branch2) (teed t operation s x).out.effects
      ((tee-causes t operation (record { slots = x; out = found s })).effects tt)

  port_keeps : (c : PortId) (operation : PortOperation) (s : Slots) (x : cross.Slots) (es : List Effect) (goes : Bool) → goes ≡ is_going operation → Orderly i s (Port c operation ∷ es)
      → (cs : List Effect) → cs ≡ (ported c operation s x).out.effects → Calm i cs
      → (h : Flow) (r : readable.Slots) → Ordered h r (all_seen (mark i) es) → Ordered h r (all_seen (mark i) cs ++ all_seen (mark i) es)
  port_keeps c operation s x es false e o cs same calm h r k = resting_keeps s cs es (rw same (port-quiet i s c operation s (Some x) (sym e))) calm h r k
  port_keeps c operation s x es true e o cs same calm h r k = active_keeps cs es calm (subst (λ b. Behind i b es) (sym e) o.ordered.0) h r k

  port_causes : (c : PortId) (operation : PortOperation) (s : Slots) (x : cross.Slots) → Calm i (ported c operation s x).out.effects
  port_causes c operation s x =
      each-map (PortCauses c x.stream) (IsNoGift i) (port-calm i c x.stream) (ported c operation s x).out.effects
      (port-causes c (clones_at x s) operation (record { slots = x; out = found s }) tt).1.1

  first_marks : (es : List Effect) → Each (IsFirst Any) es → (pending (all_seen (mark i) es) ≡ []) × Clear (all_seen (mark i) es)
  first_marks [] f = (refl, tt)
  first_marks (OnReadable j operation ∷ es) f = taken_first (is_same i j) (is_taking operation) (all_seen (mark i) es) (first_marks es f.1)
  first_marks (ChunkSteps j request v ∷ es) f = absurd (f.0)
  first_marks (Pipe p operation ∷ es) f = taken_first true (is_looking operation) (all_seen (mark i) es) (first_marks es f.1)
  first_marks (e ∷ es) f = first_marks es f.1

  first_keeps : (es : List Effect) → Each (IsFirst Any) es → (h : Flow) (r : readable.Slots) → Ordered h r [] → Ordered h r (all_seen (mark i) es)
  first_keeps es f h r k = let m = first_marks es f in record { held = rw m.0 k.held; clear = m.1 }

  steps_keep : (e : Effect) → AreSteps i e → (s : Slots) (h : Flow) (r : readable.Slots) (ms : List Mark) → Ordered h r (mark i e ++ ms) → Ordered (flow_then h (effect_flow i e s)) r ms
  steps_keep (ChunkSteps j request v) same s h r ms k = rw same (chunk_keeps v h r ms (rw same at k))
  steps_keep (CloseSteps j request) same s h r ms k = rw same_flow k
  steps_keep (ErrorSteps j request e) same s h r ms k = rw same_flow k
  steps_keep _ same s h r ms k = absurd same

  not_cancelled : (e : Effect) → AreSteps i e → (s : Slots) (h : Flow) → Unmade h → Unmade (flow_then h (effect_flow i e s))
  not_cancelled (ChunkSteps j request v) same s h n = rw same (rw (or_false h.cancelled) n)
  not_cancelled (CloseSteps j request) same s h n = rw (or_false h.cancelled) n
  not_cancelled (ErrorSteps j request e) same s h n = rw (or_false h.cancelled) n
  not_cancelled _ same s h n = absurd same

  -- a signal has pipes abort
  none_aborts : (r : Plain) (ps : List PipeId) → all_seen (mark i) (abort_all r ps) ≡ []
  none_aborts r [] = refl
  none_aborts r (p ∷ ps) = none_aborts r ps

  signal_marks : (operation : SignalOperation) (x : pipe.Signal) → all_seen (mark i) (signal_operation operation x).effects ≡ []
  signal_marks (Add p) x = refl
  signal_marks (Forget p) x = refl
  signal_marks (Trigger r) x = by x.reason
    where
      by : (reason : Option Plain) → all_seen (mark i) (trigger_unless r x reason).effects ≡ []
      by (Some old) = refl
      by None = none_aborts r x.pipes

  -- whoever may hold streams
  abbrev OrderedIn : Flow → Holders → readable.Slots → List Mark → Type 0
  OrderedIn h o r ms = Ordered h r ms

  abbrev UnmadeIn : Flow → Holders → Type 0
  UnmadeIn h o = Unmade h

  looked : (t : Bool) (h : Flow) (r : readable.Slots) (ms : List Mark) → Ordered h r (takes t ++ ms) → Ordered h r ms
  looked true h r ms k = record { held = k.held; clear = k.clear.1 }
  looked false h r ms k = k

  piped_keeps : (p : PipeId) (operation : PipeOperation) (s : Slots) (x : pipe.Slots) (h : Flow) (r : readable.Slots) (ms : List Mark) → Ordered h r (takes (is_looking operation) ++ ms)
      → Ordered h r (all_seen (mark i) (piped p operation s x).out.effects ++ ms)
  piped_keeps p operation s x h r ms k =
      let a : pipe.Acts = record { slots = x; out = found s } in
      pipe_keeps p x.source x.dest (piped p operation s x).out.effects (is_looking operation) (pipe-causes p (ends_at x s) operation a tt).1.1 (λ quiet. pipe-quiet p (ends_at x s) operation a quiet tt) h r ms k

  law : IsLaw no_flow flow_then (effect_flow i) (mark i) i OrderedIn UnmadeIn (Orderly i)
  law = record {
    history = is_history;
    unseen = unseen;
    untold = untold;
    operation = λ operation s h ms there k. rw (is_same-refl i) (taking_keeps operation s h ms (is_taking operation) refl (rw (is_same-refl i) at k));
    idle = λ operation s kind absent. nothing_there i operation s absent;
    absent = λ operation h locks ms k. absent_keeps h ms (is_taking operation) (rw (is_same-refl i) at k);
    transform = λ t operation s x es known e h k. transform_keeps t operation s x es (is_resting operation) refl known h (readable_at i s) k;
    tee = λ t operation s x es known e h k.
        tee_keeps t operation s x es (tee_takes i s t operation) refl known e (teed t operation s x).out.effects refl (tee_causes t operation s x) h (readable_at i s) k;
    port = λ c operation s x es known e h k.
        port_keeps c operation s x es (is_going operation) refl known (ported c operation s x).out.effects refl (port_causes c operation s x) h (readable_at i s) k;
    tee_unmade = λ t operation s x e h n. n;
    pipe = λ p operation s x es known e h k. piped_keeps p operation s x h (readable_at i s) (all_seen (mark i) es) k;
    pipe_unmade = λ p operation s x e h n. n;
    no_pipe = λ p operation h o r ms k. looked (is_looking operation) h r ms k;
    pipe_untold = λ p operation s. refl;
    signal = λ a operation x h o r ms k. rw (signal_marks operation x) k;
    no_signal = λ a operation h o r ms k. k;
    signal_untold = λ a operation s. refl;
    steps = λ e same s h locks r ms k. steps_keep e same s h r ms k;
    steps_unmade = λ e same s h locks n. not_cancelled e same s h n;
    call = λ c s h k. record { unmade = k.unmade; held = λ kind. first_keeps _ (each-any (Enqueues c) _ (begin-first c s)) h _ (k.held kind) };
    job = λ job h locks r k. first_keeps _ (each-any Never _ (job-first job)) h r k;
    made = λ owner hwm size h locks n k. made owner hwm size h n k;
    empty = record { held = record { dropped = []; balanced = record { all = refl; live = λ e. refl; whole = λ c e. refl; gone = λ e. refl; fit = λ e. refl; asked = omega arith } }; clear = tt };
    unmade = refl;
    known = orderly-stays i;
    known_heard = λ s k. record { ordered = tt; below = k.below };
    known_first = orderly-empty i;
  }

  abbrev pub Keeps : Flow → Slots → Type 0
  Keeps h s = Kept (mark i) i OrderedIn UnmadeIn h (holders s) s.streams []

  pub step-kept : (h : Flow) (s : Slots) (x : Entry) → Orderly i s [] → Keeps h s → Keeps (flow_then h (step_flow i s x)) (step s x)
  step-kept h s x known k = on_readable.step-kept no_flow flow_then (effect_flow i) (mark i) i OrderedIn UnmadeIn (Orderly i) law h s x known k

  pub run-kept : (entries : List Entry) → Keeps (run_flow i entries empty) (run entries empty)
  run-kept entries = on_readable.run-kept no_flow flow_then (effect_flow i) (mark i) i OrderedIn UnmadeIn (Orderly i) law entries

  pub run-orderly : (entries : List Entry) → Orderly i (run entries empty) []
  run-orderly entries = run-stays (Orderly i) (orderly-stays i) (λ z k. record { ordered = tt; below = k.below }) entries empty (orderly-empty i)

-- between steps nothing is still to be given
pub between : (h : Flow) (r : readable.Slots) → Ordered h r [] → Held h r
between h r k = let same : with_pending [] h ≡ h = λ i. record h { given = append-nil h.given i } in rw same at k.held

lawful : (h : Flow) (r : readable.Slots) → Held h r → IsLawfulReadable h r
lawful h r k = record {
  front = (values r.queue ++ k.dropped, sym k.balanced.all);
  readable = λ e. rw (k.balanced.live e, append-nil) at k.balanced.all;
  closed = λ c e. let g = k.balanced.gone (ap is_readable e) in sym (rw (g, k.balanced.whole c e, append-nil) at k.balanced.all);
  asked = k.balanced.asked;
}

pub each_readable_is_lawful : EachReadableIsLawful
each_readable_is_lawful entries i kind =
    let s : Slots = run entries empty in lawful (run_flow i entries empty) (readable_at i s) (between (run_flow i entries empty) (readable_at i s) ((run-kept i entries).held kind))
