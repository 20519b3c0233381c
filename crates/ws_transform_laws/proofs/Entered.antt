-- What enters the readable half of a transform stream in each step of every run.
use Rattle.std.proofs.Common.{◌≡◌, ℕ, zero, suc, Bool, true, false, ◌&&◌, not, nat_eq, if◌then◌else◌, List, [], ◌∷◌, ◌++◌, map, Option, Some, None, slice_get, refl, sym, ap, ◌∙◌, arith, append_assoc, append-nil}
use Rattle.ws_value.specs.declared.ids.{StreamId.{StreamId}}
use Rattle.ws_value.specs.declared.value.Value.{Value}
use Rattle.ws_steps.specs.declared.calls.{Call.{Call}, Call.TheVariants.{Enqueue as EnqueueCall}}
use Rattle.ws_steps.specs.declared.effects.{Effect.{Effect}, Owner.{Owner}, Owner.TheVariants.{Host, HalfOf, BranchOf, EndOf}}
use Rattle.ws_steps.specs.declared.effects.Effect.TheVariants.{Readable as OnReadable, Transform as OnTransform}
use Rattle.ws_steps.specs.declared.promises.Job.{Job}
use Rattle.ws_steps.specs.declared.readable.ReadableOperation.TheVariants.{Enqueue}
use Rattle.ws_steps.specs.declared.transform.{Kind.TheVariants.{Host as HostKind}, TransformId.{TransformId}}
use Rattle.ws_steps.specs.declared.transform.TransformOperation.TheVariants as names
use Rattle.ws_steps.specs.Begun as replying
use Rattle.ws_steps.specs.ControllerCalls as controller_calls
use Rattle.ws_steps.specs.Begun.{Begun, unsupported}
use Rattle.ws_steps.specs.Calls.{begin}
use Rattle.ws_steps.specs.Histories.{is_same, along}
use Rattle.ws_steps.specs.Jobs.{job_effects, job_begun, begin_job}
use Rattle.ws_steps.specs.Promises.{next_job}
use Rattle.ws_steps.specs.Readable.{can_close_or_enqueue}
use Rattle.ws_steps.specs.ReadableHistory.{Flow, no_flow, flow_then, effect_flow, step_flow, accepted_by, accepted_in_step}
use Rattle.ws_steps.specs.Run.{Entry, Called, Worked, Heard, begun_by, run, step}
use Rattle.ws_steps.specs.Slots.{Slots, ReadableStream, Done, empty, has_readable, readable_at, transform_at, as_transform}
use Rattle.ws_steps.specs.Transform as transform
use Rattle.ws_steps.specs.Turns.{moments, row}
use Rattle.ws_laws.proofs.Begin.{IsFirst, Enqueues, Never, begin-first, job-first}
use Rattle.ws_laws.proofs.Ended.{Ended, ended-stays, run-ended}
use Rattle.ws_laws.proofs.Halves.{Halved, halved-stays, halved-empty, run-halved, step-shapes, step-among}
use Rattle.ws_laws.proofs.Lists.{Each, each-map}
use Rattle.ws_laws.proofs.Shapes.{StreamShape, ReadableOf, TransformShape, stream_shape, stream_shapes, transform_shapes, transform_shape, map-there, row-transform_shapes}
use Rattle.ws_laws.proofs.Tables.{either, same_id, is_same-refl, eq_numbers, readable_there}
use Rattle.ws_laws.proofs.Walker.{IsHistory, performed-goes}
use Rattle.ws_transform_laws.specs.TransformHistory.{is_same_transform, effect_enqueued, step_enqueued}
use Rattle.ws_transform_laws.specs.TransformLaws.{EachStepEnters, JobsEnterNothing}
use Rattle.ws_transform_laws.proofs.Entering.{Quiet, Enter, entering_of, entering, entering-append, quiet-entering, quiet-enter, enter-append, Reads, not-bytes, row-goes}
use Rattle.ws_transform_laws.proofs.Told.{Both, neither, both_then, are_both, along-map}
use Rattle.ws_steps.specs.declared.effects.Effect.TheVariants.{Byte}
use Rattle.ws_steps.specs.declared.byte.ByteOperation.TheVariants.{Enqueue as EnqueueBytes}
use Rattle.ws_steps.specs.Slots.{has_byte, byte_at}
use Rattle.ws_steps.specs.Queues.{is_empty}
use Rattle.ws_steps.specs.Bytes as byte
use Rattle.ws_value.specs.declared.value.Value.TheVariants.{Plain as PlainValue, Bytes}

module _ (t : TransformId) (r : StreamId) where
  abbrev told : Effect → Slots → Both
  told e s = record { one = (effect_flow r e s).entered; two = effect_enqueued t e s }

  -- with what a step begins to enqueue
  record Enters (base : List Value) (h : Both) (s : Slots) (es : List Effect) : Type 0 where
    even : base ++ h.two ≡ h.one ++ entering t r es
    enter : Enter t r s es
    halved : Halved s
    ended : Ended s
    reads : Reads t r s

  lists : (base one two ee taken told_ caused es : List Value) → base ++ two ≡ one ++ (ee ++ es) → es ≡ [] → ee ++ taken ≡ told_ ++ caused → base ++ (two ++ taken) ≡ (one ++ told_) ++ (caused ++ es)
  lists base one two ee taken told_ caused es e f g = grind (arith, append_assoc, append-nil, e, f, g)

  row-enters : (base : List Value) (h : Both) (s : Slots) (e : Effect) (es : List Effect) → Enters base h s (e ∷ es) → Enters base (both_then h (told e s)) (row e s).slots ((row e s).caused ++ es)
  row-enters base h s e es k =
      let g = row-goes t r e s k.halved k.ended k.reads k.enter.0 in
      let more = entering-append t r (row e s).caused es in
      record {
        even = rw more (lists base h.one h.two (entering_of t r e) (effect_enqueued t e s) (effect_flow r e s).entered (entering t r (row e s).caused) (entering t r es) k.even (quiet-entering t r es k.enter.1) g.even);
        enter = enter-append t r (row e s).slots (row e s).caused es g.enter k.enter.1;
        halved = halved-stays.row s e es k.halved;
        ended = ended-stays.row s e es k.ended;
        reads = (k.reads.0, (ap (λ (vs : List TransformShape). slice_get vs t.0) (row-transform_shapes e s) ∙ k.reads.1.0, k.reads.1.1));
      }

  -- what a call or a job begins with

  first-quiet : (E : StreamId → Value → Type 0) → ((j : StreamId) (v : Value) → E j v → ⊥) → (e : Effect) → IsFirst E e → Quiet t r e
  first-quiet E none (OnReadable j (Enqueue v)) f = absurd (none j v f)
  first-quiet E none (OnTransform u (names.Enqueue v)) f = absurd (none f.0 v f.1)
  first-quiet E none _ f = tt

  self : (k : ℕ) → nat_eq k k ≡ true
  self k = grind arith

  -- a stream that performs the algorithms of the transform stream as its readable half is the readable half
  same-half : (s : Slots) (j : StreamId) (u : TransformId) → Halved s → Reads t r s → slice_get (stream_shapes s) j.0 ≡ Some (ReadableOf (HalfOf u)) → is_same_transform t u ≡ is_same r j
  same-half s j u halved h at = by (is_same_transform t u) (is_same r j) refl refl
    where
      by : (a b : Bool) → a ≡ is_same_transform t u → b ≡ is_same r j → is_same_transform t u ≡ is_same r j
      by true true e f = sym e ∙ f
      by false false e f = sym e ∙ f
      by true false e f =
          let one : t ≡ u = ap (λ (k : ℕ). record { 0 = k }) (eq_numbers t.0 u.0 (sym e)) in
          let k = halved.readable j u at in
          let both : ◌≡◌ {A = Option TransformShape} (Some h.0) (Some k.0) = sym h.1.0 ∙ (ap (λ (w : TransformId). slice_get (transform_shapes s) w.0) one ∙ k.1.0) in
          let same : h.0 ≡ k.0 = cc in
          let is : r ≡ j = sym h.1.1 ∙ (ap (λ (x : TransformShape). x.readable) same ∙ k.1.1) in
          let yes : is_same r j ≡ true = rw (← is) (is_same-refl r) in absurd (cc)
      by false true e f =
          let is : r ≡ j = same_id r j (sym f) in
          let mine : slice_get (stream_shapes s) r.0 ≡ Some (ReadableOf (HalfOf t)) = rw (← h.1.1) (halved.halves t h.0 h.1.0).0 in
          let both : ◌≡◌ {A = Option StreamShape} (Some (ReadableOf (HalfOf t))) (Some (ReadableOf (HalfOf u))) = sym mine ∙ (ap (λ (k : StreamId). slice_get (stream_shapes s) k.0) is ∙ at) in
          let one : t ≡ u = cc in
          let yes : is_same_transform t u ≡ true = rw (← one) (self t.0) in absurd (cc)

  abbrev Starts : Begun → List Value → Type 0
  Starts b base = Enter t r b.done.slots b.done.caused × (base ≡ entering t r b.done.caused)

  by-owner : (j : StreamId) (v : Value) (s : Slots) (owner : Owner) → has_readable j s ≡ true → (readable_at j s).owner ≡ owner → Halved s → Reads t r s
      → Starts (controller_calls.enqueue_by v j s owner) (accepted_by r (EnqueueCall j v) (controller_calls.enqueue_by v j s owner).reply)
  by-owner j v s Host there is halved h =
      either (λ (b : Begun). Starts b (accepted_by r (EnqueueCall j v) b.reply)) (can_close_or_enqueue (readable_at j s)) (replying.does (OnReadable j (Enqueue v) ∷ []) s) (replying.throws_type_error s)
      (λ can. ((λ same. rw (same_id r j same) can, tt), sym (append-nil (if is_same r j then v ∷ [] else [])))) (λ cannot. (tt, refl))
  by-owner j v s (HalfOf u) there is halved h =
      let at : slice_get (stream_shapes s) j.0 ≡ Some (ReadableOf (HalfOf u)) =
      map-there stream_shape s.streams j.0 (ReadableStream (readable_at j s)) (readable_there (slice_get s.streams j.0) there) ∙ ap (λ (o : Owner). Some (ReadableOf o)) is in
      let same = same-half s j u halved h at in
      either (λ (b : Begun). Starts b (accepted_by r (EnqueueCall j v) b.reply)) (can_close_or_enqueue (readable_at j s)) (replying.does (OnTransform u (names.Enqueue v) ∷ []) s) (replying.throws_type_error s)
      (λ can. ((λ here. rw (same_id r j (sym same ∙ here)) can, tt), rw same (sym (append-nil (if is_same r j then v ∷ [] else []))))) (λ cannot. (tt, refl))
  by-owner j v s (BranchOf u half) there is halved h = (tt, refl)
  by-owner j v s (EndOf c) there is halved h = (tt, refl)

  -- a byte stream is another
  by-bytes : (j : StreamId) (v : Value) (s : Slots) → is_same r j ≡ false → Starts (controller_calls.enqueue_bytes j s v) (accepted_by r (EnqueueCall j v) (controller_calls.enqueue_bytes j s v).reply)
  by-bytes j (PlainValue v) s n = (tt, refl)
  by-bytes j (Bytes b) s n =
      either (λ (x : Begun). Starts x (accepted_by r (EnqueueCall j (Bytes b)) x.reply)) (not (is_empty b) && byte.can_take (byte_at j s)) (replying.does (Byte j (EnqueueBytes b) ∷ []) s) (replying.throws_type_error s)
      (λ can. ((tt, tt), rw n refl)) (λ cannot. (tt, refl))

  bytes-were : (j : StreamId) (v : Value) (s : Slots) → Reads t r (controller_calls.enqueue_bytes j s v).done.slots → Reads t r s
  bytes-were j (PlainValue v) s k = k
  bytes-were j (Bytes b) s k =
      either (λ (x : Begun). Reads t r x.done.slots → Reads t r s) (not (is_empty b) && byte.can_take (byte_at j s)) (replying.does (Byte j (EnqueueBytes b) ∷ []) s) (replying.throws_type_error s) (λ e x. x) (λ e x. x) k

  call-starts : (c : Call) (s : Slots) → Halved s → Reads t r (begin c s).done.slots → Starts (begin c s) (accepted_by r c (begin c s).reply)
  unfolding begin
  call-starts (EnqueueCall j v) s halved h =
      either (λ (b : Begun). Reads t r b.done.slots → Starts b (accepted_by r (EnqueueCall j v) b.reply)) (has_byte j s) (controller_calls.enqueue_bytes j s v) (replying.for_readable j (controller_calls.enqueue v j) s)
      (λ is k. by-bytes j v s (not-bytes t r s j halved (bytes-were j v s k) is))
      (λ isnt. either (λ (b : Begun). Reads t r b.done.slots → Starts b (accepted_by r (EnqueueCall j v) b.reply)) (has_readable j s) (controller_calls.enqueue v j s) (unsupported s)
      (λ there k. by-owner j v s (readable_at j s).owner there refl halved (was (readable_at j s).owner k)) (λ absent k. (tt, refl))) h
    where
      was : (owner : Owner) → Reads t r (controller_calls.enqueue_by v j s owner).done.slots → Reads t r s
      was Host k = either (λ (b : Begun). Reads t r b.done.slots → Reads t r s) (can_close_or_enqueue (readable_at j s)) (replying.does (OnReadable j (Enqueue v) ∷ []) s) (replying.throws_type_error s) (λ e x. x) (λ e x. x) k
      was (HalfOf u) k = either (λ (b : Begun). Reads t r b.done.slots → Reads t r s) (can_close_or_enqueue (readable_at j s)) (replying.does (OnTransform u (names.Enqueue v) ∷ []) s) (replying.throws_type_error s) (λ e x. x) (λ e x. x) k
      was (BranchOf u half) k = k
      was (EndOf c) k = k
  call-starts c s halved h =
      let q = each-map (IsFirst (Enqueues c)) (Quiet t r) (first-quiet (Enqueues c) (λ j v e. cc)) (begin c s).done.caused (begin-first c s) in
      (quiet-enter t r (begin c s).done.slots (begin c s).done.caused q, sym (quiet-entering t r (begin c s).done.caused q))

  job-quiet : (s : Slots) (job : Option Job) → Each (Quiet t r) (job_begun s job).caused
  job-quiet s None = tt
  job-quiet s (Some job) = each-map (IsFirst Never) (Quiet t r) (first-quiet Never (λ j v n. n)) (job_effects job) (job-first job)

  entry-starts : (x : Entry) (s : Slots) → Halved s → Reads t r (begun_by s x).slots → Enter t r (begun_by s x).slots (begun_by s x).caused × (accepted_in_step r s x ≡ entering t r (begun_by s x).caused)
  unfolding begin_job
  entry-starts (Called c) s halved h = call-starts c s halved h
  entry-starts Worked s halved h = let q = job-quiet s (next_job s.promises) in (quiet-enter t r (begin_job s).slots (begin_job s).caused q, sym (quiet-entering t r (begin_job s).caused q))
  entry-starts Heard s halved h = (tt, refl)

  begun-halved : (x : Entry) (s : Slots) → Halved s → Halved (begun_by s x).slots
  unfolding begin_job
  begun-halved (Called c) s halved = halved-stays.call s c halved
  begun-halved Worked s halved = by (next_job s.promises)
    where
      by : (job : Option Job) → Halved (job_begun s job).slots
      by None = halved
      by (Some job) = halved
  begun-halved Heard s halved = halved

  begun-ended : (x : Entry) (s : Slots) → Ended s → Ended (begun_by s x).slots
  unfolding begin_job
  begun-ended (Called c) s ended = ended-stays.call s c ended
  begun-ended Worked s ended = by (next_job s.promises)
    where
      by : (job : Option Job) → Ended (job_begun s job).slots
      by None = ended
      by (Some job) = ended
  begun-ended Heard s ended = ended

  -- a step

  pub step-enters : (x : Entry) (s : Slots) → Halved s → Ended s → Reads t r (step s x) → (step_flow r s x).entered ≡ accepted_in_step r s x ++ step_enqueued t s x
  step-enters x s halved ended h =
      let d : Done = begun_by s x in
      let reads : Reads t r d.slots = (h.0, (ap (λ (vs : List TransformShape). slice_get vs t.0) (sym (step-shapes x s)) ∙ h.1.0, h.1.1)) in
      let st = entry-starts x s halved reads in
      let base : List Value = accepted_in_step r s x in
      let k = performed-goes neither both_then are_both told (Enters base) (row-enters base) neither d (record { even = append-nil base ∙ st.1; enter = st.0; halved = begun-halved x s halved; ended = begun-ended x s ended; reads = reads }) in
      let one = along-map neither both_then [] ◌++◌ (λ (b : Both). b.one) refl (λ a b. refl) told (moments d) in
      let two = along-map neither both_then [] ◌++◌ (λ (b : Both). b.two) refl (λ a b. refl) told (moments d) in
      let flow = along-map no_flow flow_then [] ◌++◌ (λ (f : Flow). f.entered) refl (λ a b. refl) (effect_flow r) (moments d) in
      flow ∙ (sym one ∙ (sym (append-nil _) ∙ (sym k.even ∙ ap (λ vs. base ++ vs) two)))

pub each_step_enters : EachStepEnters
each_step_enters entries x t y is =
    let s : Slots = run entries empty in
    step-enters t y.readable x s (run-halved entries empty halved-empty) (run-ended entries) (transform_shape y, (map-there transform_shape (step s x).transforms t.0 y is, refl))

-- a transform stream of the host enqueues nothing by itself

are_lists : IsHistory {H = List Value} [] ◌++◌
are_lists = record { left = λ vs. refl; right = append-nil; assoc = append_assoc }

module _ (t : TransformId) where
  abbrev HostKinded : Slots → Type 0
  HostKinded s = (x : TransformShape) × ((slice_get (transform_shapes s) t.0 ≡ Some x) × (x.kind ≡ HostKind))

  kind-there : (s : Slots) (x : TransformShape) → slice_get (transform_shapes s) t.0 ≡ Some x → (transform_at t s).kind ≡ x.kind
  kind-there s x is = by s.transforms t.0 is
    where
      by : (ts : List transform.Slots) (k : ℕ) → slice_get (map transform_shape ts) k ≡ Some x → (as_transform (slice_get ts k)).kind ≡ x.kind
      by [] k e = cc
      by (y ∷ ys) zero e = let same : transform_shape y ≡ x = cc in ap (λ (z : TransformShape). z.kind) same
      by (y ∷ ys) (suc k) e = by ys k e

  enqueues-none : (e : Effect) (s : Slots) → HostKinded s → effect_enqueued t e s ≡ []
  enqueues-none (OnTransform u (names.TransformChunk v d)) s h =
      let kind : (transform_at t s).kind ≡ HostKind = kind-there s h.0 h.1.0 ∙ h.1.1 in
      rw kind (either (λ (vs : List Value). vs ≡ []) (is_same_transform t u && false) (v ∷ []) [] (λ e. let no = both (is_same_transform t u) e in cc) (λ e. refl))
    where
      both : (b : Bool) → b && false ≡ true → false ≡ true
      both true e = e
      both false e = e
  enqueues-none _ s h = refl

  record Nothing (h : List Value) (s : Slots) (es : List Effect) : Type 0 where
    none : h ≡ []
    kind : HostKinded s

  none-enqueued : (d : Done) → HostKinded d.slots → along [] ◌++◌ (effect_enqueued t) (moments d) ≡ []
  none-enqueued d h =
      (performed-goes [] ◌++◌ are_lists (effect_enqueued t) Nothing
      (λ g s e es k. record {
        none = rw (k.none, enqueues-none e s k.kind) refl;
        kind = (k.kind.0, (ap (λ (vs : List TransformShape). slice_get vs t.0) (row-transform_shapes e s) ∙ k.kind.1.0, k.kind.1.1));
      }) [] d (record { none = refl; kind = h })).none

  job-enters : (s : Slots) (r : StreamId) (x : TransformShape) → Halved s → Ended s → slice_get (transform_shapes s) t.0 ≡ Some x → x.readable ≡ r → x.kind ≡ HostKind → (step_flow r s Worked).entered ≡ []
  job-enters s r x halved ended is half kind =
      let after : slice_get (transform_shapes (step s Worked)) t.0 ≡ Some x = step-among Worked s t x is in
      let begun : slice_get (transform_shapes (begin_job s).slots) t.0 ≡ Some x = ap (λ (vs : List TransformShape). slice_get vs t.0) (sym (step-shapes Worked s)) ∙ after in
      step-enters t r Worked s halved ended (x, (after, half)) ∙ none-enqueued (begin_job s) (x, (begun, kind))

pub jobs_enter_nothing : JobsEnterNothing
jobs_enter_nothing entries t y is kind =
    let s : Slots = run entries empty in
    job-enters t s y.readable (transform_shape y) (run-halved entries empty halved-empty) (run-ended entries) (map-there transform_shape s.transforms t.0 y is) refl kind
