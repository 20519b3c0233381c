-- What calls and jobs begin with keeps the backpressure of a transform stream to what its readable half wants; and so does every run.
use Rattle.std.proofs.Common.{◌≡◌, ◌⊎◌, inl, inr, ⊎_elim, ℕ, zero, suc, ◌+◌, ◌≤◌, Bool, true, false, not, ◌&&◌, is_some, List, [], ◌∷◌, ◌++◌, length, map, Option, Some, None, slice_get, refl, sym, ap, ◌∙◌, arith, append_assoc, append-nil}
use Rattle.ws_value.specs.declared.ids.{PipeId.{PipeId}, PromiseId.{PromiseId}, SignalId.{SignalId}, StreamId.{StreamId}}
use Rattle.ws_value.specs.declared.value.{Plain.{Plain}}
use Rattle.ws_steps.specs.declared.calls.{Call.{Call}, StartBy.{StartBy}, StartBy.TheVariants.{Now, Later}}
use Rattle.ws_steps.specs.declared.effects.{Effect.{Effect}, Owner.TheVariants.{Host, HalfOf, BranchOf}}
use Rattle.ws_steps.specs.declared.effects.Effect.TheVariants.{Readable as OnReadable}
use Rattle.ws_steps.specs.declared.promises.Job.{Job}
use Rattle.ws_steps.specs.declared.readable.{ReadableOperation.TheVariants.{InitializeReader}, SizeBy.TheVariants.{Count}}
use Rattle.ws_steps.specs.declared.transform.{Kind.{Kind}, TransformId.{TransformId}}
use Rattle.ws_steps.specs.MakingCalls as making_calls
use Rattle.ws_steps.specs.LockCalls as lock_calls
use Rattle.ws_steps.specs.PipeCalls as pipe_calls
use Rattle.ws_steps.specs.Begun.{Begun}
use Rattle.ws_steps.specs.MakingCalls.{add_stream}
use Rattle.ws_steps.specs.Calls.{begin}
use Rattle.ws_steps.specs.Histories.{is_same}
use Rattle.ws_steps.specs.Jobs.{job_effects}
use Rattle.ws_steps.specs.Promises.{Table, is_pending_at, next_id, fresh, next_job, after_next_job, watch}
use Rattle.ws_steps.specs.Readable as readable
use Rattle.ws_steps.specs.ReadableHistory.{Reads, no_reads, reads_then, effect_reads}
use Rattle.ws_steps.specs.Run.{run, older, after_event}
use Rattle.ws_steps.specs.Slots.{Slots, Stream, ReadableStream, ByteStream, WritableStream, has_byte, source_at, empty, as_readable, as_source, as_transform, readable_at, with_promises}
use Rattle.ws_steps.specs.Transform as transform
use Rattle.ws_steps.specs.Writable as writable
use Rattle.ws_laws.proofs.EachCall.{each_call}
use Rattle.ws_laws.proofs.Ended.{ended-empty}
use Rattle.ws_laws.proofs.Halves.{Halved, halved-empty, get-stays, get-either}
use Rattle.ws_writable_laws.proofs.Handed.{Tied, tied-call}
use Rattle.ws_laws.proofs.Lists.{Each}
use Rattle.ws_laws.proofs.Shapes.{ReadableOf, stream_shape, stream_shapes, TransformShape, transform_shapes, transform_shape, map-there}
use Rattle.ws_laws.proofs.Tables.{same_id}
use Rattle.ws_laws.proofs.Walker as walker
use Rattle.ws_laws.proofs.Walker.{GoesUntold, RestsUntold, IsHistory}
use Rattle.ws_laws.proofs.Weights.{weigh, taken_off, weigh-fresh, weigh-next, weigh-watch}
use Rattle.ws_writable_laws.proofs.Shape.{weight, of_reaction}
use Rattle.ws_transform_laws.specs.TransformHistory.{wants, wants_none}
use Rattle.ws_transform_laws.specs.TransformLaws.{NoBackpressureIsWanted}
use Rattle.ws_transform_laws.proofs.Backpressure.{pressed}
use Rattle.ws_transform_laws.proofs.Cancelling.{is_cancelled, none_of}
use Rattle.ws_transform_laws.proofs.Entering.{Reads as IsRead, reads-default}
use Rattle.ws_transform_laws.proofs.Halving.{map-from}
use Rattle.ws_transform_laws.proofs.Shutting.{can, IsPlain, plain-fine}
use Rattle.ws_transform_laws.proofs.Telling.{Calms, unwanted, Fits, Fronts, Enters, Starts, Opens, calm-front, calm-pulls}
use Rattle.ws_transform_laws.proofs.Wanted.{Known, row-known}
use Rattle.ws_steps.specs.declared.locks.Lock.TheVariants.{Reader as ReaderLock, ByobReader}
use Rattle.ws_transform_laws.proofs.Sources.{source-default}
use Rattle.ws_value.specs.declared.ids.TeeId.{TeeId}
use Rattle.ws_steps.specs.declared.tee.Half.TheVariants.{First, Second}
use Rattle.ws_steps.specs.declared.port.Side.{Side}
use Rattle.ws_transform_laws.proofs.Telling.{IsStarting}
use Rattle.ws_steps.specs.Slots.{has_source}
use Rattle.ws_steps.specs.declared.promises.Step.{Step}
use Rattle.ws_steps.specs.declared.port.Side.TheVariants.{Writable as WritableSide}
use Rattle.ws_transform_laws.proofs.Telling.{IsCalm}
use Rattle.ws_steps.specs.Slots.{is_readable_stream}
use Rattle.ws_steps.specs.declared.effects.Effect.TheVariants.{StartAlgorithm}
use Rattle.ws_steps.specs.declared.port.Side.TheVariants.{Readable as ReadableSide}
use Rattle.std.proofs.Common.{◌||◌}
use Rattle.ws_laws.proofs.Tables.{place_last}
use Rattle.ws_steps.specs.Slots.{is_byte_stream}

module _ (t : TransformId) (r : StreamId) where
  -- at rest there is backpressure where nothing is wanted
  pub at-rest : (s : Slots) → Fits t r s [] → unwanted t r s ≡ true → pressed t s ≡ true
  at-rest s (Fronts f claim) = (claim refl).0
  at-rest s (Enters v rest eq k) = cc
  at-rest s (Starts d p rest eq st none k claim) = cc
  at-rest s (Opens p rest eq none k claim) = cc

  calm-fits : (z : Slots) (cs : List Effect) → Calms t r z cs → (unwanted t r z ≡ true → pressed t z ≡ true) → Fits t r z cs
  calm-fits z cs c claim = Fronts (calm-front t r z cs c) (λ none. (claim, λ some. let no = calm-pulls t r z cs c in absurd (omega arith)))

  -- the readable half and the backpressure stay, or the transform stream is new
  Old : Slots → Slots → Type 0
  Old s z = (IsRead t r s × ((readable_at r z ≡ readable_at r s) × (pressed t z ≡ pressed t s))) ⊎ ((slice_get (transform_shapes s) t.0 ≡ None) × (pressed t z ≡ true))

  -- what stays of the streams, from rest, and how much is under way
  record Carries (s z : Slots) (cs : List Effect) : Type 0 where
    tied : Tied z
    unmade : slice_get (transform_shapes z) t.0 ≡ None → slice_get (transform_shapes s) t.0 ≡ None
    old : IsRead t r z → Old s z
    weighs : weight (is_cancelled t) z.promises + none_of t z cs ≤ weight (is_cancelled t) s.promises
    plain : Each (IsPlain t r) cs

  none-both : (a b n : ℕ) → a + b ≤ n → n ≡ 0 → (a ≡ 0) × (b ≡ 0)
  none-both a b n l e = (omega arith, omega arith)

  carried : (h : Reads) (s z : Slots) (cs : List Effect) → Carries s z cs → (IsRead t r z → (unwanted t r z ≡ true → pressed t z ≡ true) → Fits t r z cs) → Known t r h s [] → Known t r h z cs
  unfolding Old
  carried h s z cs c fits k = record {
    halved = c.tied.0;
    ended = c.tied.1;
    unmade = λ none. none-both _ _ _ c.weighs (k.unmade (c.unmade none)).0;
    uncancelled = λ m open_. none-both _ _ _ c.weighs
        (⊎_elim (λ o. (k.uncancelled o.0 (ap (λ x. readable.can_close_or_enqueue x) (sym o.1.0) ∙ open_)).0) (λ n. (k.unmade n.0).0) (c.old m));
    fine = λ m. plain-fine t r (not (can r z)) cs c.plain;
    fits = λ rel m. fits m (⊎_elim (λ o n. o.1.1 ∙ at-rest s (k.fits rel o.0) (ap wants_none (sym o.1.0) ∙ n)) (λ o n. o.1) (c.old m));
  }

  -- where the streams stay
  same : (s z : Slots) (cs : List Effect) → Tied z → z.streams ≡ s.streams → z.transforms ≡ s.transforms → weight (is_cancelled t) z.promises + none_of t z cs ≤ weight (is_cancelled t) s.promises → Each (IsPlain t r) cs → Carries s z cs
  unfolding Old
  same s z cs tied e f w p = record {
    tied = tied;
    unmade = λ none. rw f at none;
    old = λ m. inl ((m.0, (rw f at m.1.0, m.1.1)), (rw e refl, rw f refl));
    weighs = w;
    plain = p;
  }

  -- jobs

  job-calm : (s : Slots) (job : Job) → Calms t r s (job_effects job)
  job-calm s job = grind arith

  job-plain : (job : Job) → Each (IsPlain t r) (job_effects job)
  job-plain job = grind arith

  job-cancels : (s : Slots) (job : Job) → none_of t s (job_effects job) ≤ taken_off (of_reaction (is_cancelled t)) job
  job-cancels s job = grind arith

  job-known : (h : Reads) (s : Slots) (job : Job) → next_job s.promises ≡ Some job → Known t r h s [] → Known t r h (with_promises (after_next_job s.promises) s) (job_effects job)
  job-known h s job e k =
      let z : Slots = with_promises (after_next_job s.promises) s in
      let l = job-cancels z job in
      let n : weight (is_cancelled t) (after_next_job s.promises) + taken_off (of_reaction (is_cancelled t)) job ≤ weight (is_cancelled t) s.promises = rw e at (weigh-next (of_reaction (is_cancelled t)) s.promises) in
      carried h s z (job_effects job) (same s z (job_effects job) (k.halved, k.ended) refl refl (omega arith) (job-plain job)) (λ m claim. calm-fits z (job_effects job) (job-calm z job) claim) k

  -- calls

  abbrev lighter : Table → Table → Type 0
  lighter u v = weight (is_cancelled t) v ≤ weight (is_cancelled t) u

  fresh-lighter : (u : Table) → lighter u (fresh u)
  fresh-lighter u = weigh-fresh (of_reaction (is_cancelled t)) u

  lighter-on : (u v w : Table) → lighter u v → lighter v w → lighter u w
  lighter-on u v w a b = omega arith

  two-lighter : (u : Table) → lighter u (fresh (fresh u))
  two-lighter u = lighter-on u (fresh u) (fresh (fresh u)) (fresh-lighter u) (fresh-lighter (fresh u))

  four-lighter : (u : Table) → lighter u (fresh (fresh (fresh (fresh u))))
  four-lighter u = lighter-on u (fresh (fresh u)) (fresh (fresh (fresh (fresh u)))) (two-lighter u) (two-lighter (fresh (fresh u)))

  five-lighter : (u : Table) → lighter u (fresh (fresh (fresh (fresh (fresh u)))))
  five-lighter u = lighter-on u (fresh u) (fresh (fresh (fresh (fresh (fresh u))))) (fresh-lighter u) (four-lighter (fresh u))

  renewed-lighter : (u : Table) (kept : Bool) → lighter u (lock_calls.with_renewed u kept)
  renewed-lighter u true = omega arith
  renewed-lighter u false = fresh-lighter u

  -- what begins calmly
  record Begins (z : Slots) (cs : List Effect) : Type 0 where
    none : none_of t z cs ≡ 0
    plain : Each (IsPlain t r) cs

  calls-same : (h : Reads) (s z : Slots) (cs : List Effect) → Known t r h s [] → Tied z → z.streams ≡ s.streams → z.transforms ≡ s.transforms → lighter s.promises z.promises → Begins z cs → (IsRead t r z → Calms t r z cs) → Known t r h z cs
  calls-same h s z cs k tied e f w b c =
      let n = b.none in carried h s z cs (same s z cs tied e f (omega arith) b.plain) (λ m claim. calm-fits z cs (c m) claim) k

  renewed-begins : (z : Slots) (u : Table) (kept : Bool) (cs : List Effect) → Begins z cs → Begins z (lock_calls.reject_renewed u kept ++ cs)
  renewed-begins z u true cs b = b
  renewed-begins z u false cs b = let n = b.none in record { none = omega arith; plain = (tt, b.plain) }

  renewed-calms : (z : Slots) (u : Table) (kept : Bool) (cs : List Effect) → Calms t r z cs → Calms t r z (lock_calls.reject_renewed u kept ++ cs)
  renewed-calms z u true cs b = b
  renewed-calms z u false cs b = (tt, b)

  -- the readable half is there

  half-place : (s : Slots) → Halved s → IsRead t r s → (y : Stream) × ((slice_get s.streams r.0 ≡ Some y) × (stream_shape y ≡ ReadableOf (HalfOf t)))
  half-place s halved m =
      let at : slice_get (stream_shapes s) r.0 ≡ Some (ReadableOf (HalfOf t)) = rw (← m.1.1) (halved.halves t m.0 m.1.0).0 in
      map-from stream_shape s.streams r.0 (ReadableOf (HalfOf t)) at

  half-owner : (y : Stream) → stream_shape y ≡ ReadableOf (HalfOf t) → (as_readable (Some y)).owner ≡ HalfOf t
  half-owner (ReadableStream x) e = cc
  half-owner (ByteStream x) e = cc
  half-owner (WritableStream x) e = cc

  not-hosted : (s : Slots) (j : StreamId) → Halved s → IsRead t r s → (readable_at j s).owner ≡ Host → is_same r j ≡ false
  not-hosted s j halved m host = by (is_same r j) refl
    where
      by : (b : Bool) → b ≡ is_same r j → is_same r j ≡ false
      by false e = sym e
      by true e =
          let y = half-place s halved m in
          let owner : (readable_at r s).owner ≡ HalfOf t = ap (λ (o : Option Stream). (as_readable o).owner) y.1.0 ∙ half-owner y.0 y.1.1 in
          let wrong : HalfOf t ≡ Host = sym owner ∙ (ap (λ (k : StreamId). (readable_at k s).owner) (same_id r j (sym e)) ∙ host) in cc

  -- a reader comes to a stream that has none
  open-fits : (z : Slots) (j : StreamId) (p : PromiseId) (rest : List Effect) → has_byte r z ≡ false → is_some (source_at j z).reader ≡ false → Calms t r z rest → (unwanted t r z ≡ true → pressed t z ≡ true)
      → Fits t r z (OnReadable j (InitializeReader p) ∷ rest)
  open-fits z j p rest isnt free c claim = by (is_same r j) refl
    where
      by : (b : Bool) → b ≡ is_same r j → Fits t r z (OnReadable j (InitializeReader p) ∷ rest)
      by true e =
          let is : r ≡ j = same_id r j (sym e) in
          Opens p rest (ap (λ (k : StreamId). OnReadable k (InitializeReader p) ∷ rest) (sym is)) (rw (source-default r z isnt) at (rw (← is) at free)) c claim
      by false e = calm-fits z (OnReadable j (InitializeReader p) ∷ rest) (sym e, c) claim

  calls-open : (h : Reads) (s z : Slots) (j : StreamId) (p : PromiseId) (rest : List Effect) → Known t r h s [] → Tied z → z.streams ≡ s.streams → z.transforms ≡ s.transforms → lighter s.promises z.promises → is_some (source_at j s).reader ≡ false
      → Begins z (OnReadable j (InitializeReader p) ∷ rest) → Calms t r z rest → Known t r h z (OnReadable j (InitializeReader p) ∷ rest)
  calls-open h s z j p rest k tied e f w free b c =
      let n = b.none in carried h s z (OnReadable j (InitializeReader p) ∷ rest) (same s z _ tied e f (omega arith) b.plain) (λ m claim. open-fits z j p rest (reads-default t r z tied.0 m) (rw (← e) at free) c claim) k

  -- a stream is made
  added : (h : Reads) (s : Slots) (y : Stream) (cs : List Effect) → Known t r h s [] → Tied (add_stream y s) → Begins (add_stream y s) cs → Calms t r (add_stream y s) cs → Known t r h (add_stream y s) cs
  unfolding Old
  added h s y cs k tied b c =
      let n = b.none in
      carried h s (add_stream y s) cs (record {
        tied = tied;
        unmade = λ none. none;
        old = λ m. inl (m, (ap as_readable (let x = half-place s k.halved m in get-stays s.streams (y ∷ []) r.0 x.0 x.1.0 ∙ sym x.1.0), refl));
        weighs = omega arith;
        plain = b.plain;
      }) (λ m claim. calm-fits (add_stream y s) cs c claim) k

  -- a transform stream is made

  none-before : (ts us : List transform.Slots) (k : ℕ) → slice_get (map transform_shape (ts ++ us)) k ≡ None → slice_get (map transform_shape ts) k ≡ None
  none-before [] us k e = refl
  none-before (y ∷ ys) us zero e = cc
  none-before (y ∷ ys) us (suc k) e = none-before ys us k e

  shape-past : (ts : List transform.Slots) → slice_get (map transform_shape ts) (length ts) ≡ None
  shape-past [] = refl
  shape-past (x ∷ xs) = shape-past xs

  made : (h : Reads) (s : Slots) (kind : Kind) (m n : ℕ) (start : StartBy) → Known t r h s []
      → let d = (making_calls.make_transform kind m n start (record { 0 = length s.streams }) (record { 0 = length s.streams + 1 }) s).done in Tied d.slots → Begins d.slots d.caused → Calms t r d.slots d.caused → Known t r h d.slots d.caused
  unfolding Old
  made h s kind m n start k tied b c =
      let me : TransformId = record { 0 = length s.transforms } in
      let w : Stream = WritableStream (writable.set_up (HalfOf me) m Count) in
      let y : Stream = ReadableStream (readable.set_up (HalfOf me) n Count) in
      let x : transform.Slots = transform.set_up kind (record { 0 = length s.streams }) (record { 0 = length s.streams + 1 }) (next_id s.promises) in
      let d = (making_calls.make_transform kind m n start (record { 0 = length s.streams }) (record { 0 = length s.streams + 1 }) s).done in
      let none = b.none in
      let light = four-lighter s.promises in
      carried h s d.slots d.caused (record {
        tied = tied;
        unmade = λ absent. none-before s.transforms (x ∷ []) t.0 absent;
        old = λ l.
            let z = map-from transform_shape (s.transforms ++ x ∷ []) t.0 l.0 l.1.0 in
            ⊎_elim
            (λ old.
            let before : IsRead t r s = (l.0, (map-there transform_shape s.transforms t.0 z.0 old ∙ ap (λ (q : TransformShape). Some q) z.1.1, l.1.1)) in
            let place = half-place s k.halved before in
            let there : slice_get ((s.streams ++ w ∷ []) ++ y ∷ []) r.0 ≡ Some place.0 = get-stays (s.streams ++ w ∷ []) (y ∷ []) r.0 place.0 (get-stays s.streams (w ∷ []) r.0 place.0 place.1.0) in
            let trans : slice_get (s.transforms ++ x ∷ []) t.0 ≡ slice_get s.transforms t.0 = get-stays s.transforms (x ∷ []) t.0 z.0 old ∙ sym old in
            inl (before, (ap as_readable (there ∙ sym place.1.0), ap (λ (o : Option transform.Slots). (as_transform o).backpressure) trans)))
            (λ new.
            let at : slice_get (s.transforms ++ x ∷ []) t.0 ≡ Some x = z.1.0 ∙ ap (λ (q : transform.Slots). Some q) (sym new.1) in
            inr (rw new.0 (shape-past s.transforms), ap (λ (o : Option transform.Slots). (as_transform o).backpressure) at))
            (get-either s.transforms x t.0 z.0 z.1.0);
        weighs = omega arith;
        plain = b.plain;
      }) (λ l claim. calm-fits d.slots d.caused c claim) k

  -- a tee is made, whose reader takes the source

  free-before : (xs : List Stream) (y : readable.Slots) (n : ℕ) → is_some y.reader ≡ false → is_some (as_source (slice_get xs n)).reader ≡ false → is_some (as_source (slice_get (xs ++ ReadableStream y ∷ []) n)).reader ≡ false
  free-before [] y zero new e = new
  free-before [] y (suc n) new e = e
  free-before (x ∷ xs) y zero new e = e
  free-before (x ∷ xs) y (suc n) new e = free-before xs y n new e

  teed : (h : Reads) (s : Slots) (j : StreamId) → Known t r h s []
      → let d = (making_calls.make_tee j (record { 0 = length s.streams }) (record { 0 = length s.streams + 1 }) s).done in Tied d.slots → is_some (source_at j s).reader ≡ false → Known t r h d.slots d.caused
  unfolding Old
  teed h s j k tied free =
      let me : TeeId = record { 0 = length s.tees } in
      let first : readable.Slots = readable.set_up (BranchOf me First) 1 Count in
      let second : readable.Slots = readable.set_up (BranchOf me Second) 1 Count in
      let d = (making_calls.make_tee j (record { 0 = length s.streams }) (record { 0 = length s.streams + 1 }) s).done in
      let light = two-lighter s.promises in
      carried h s d.slots d.caused (record {
        tied = tied;
        unmade = λ none. none;
        old = λ m. inl (
          m,
          (
            let x = half-place s k.halved m in
                ap as_readable (get-stays (s.streams ++ ReadableStream first ∷ []) (ReadableStream second ∷ []) r.0 x.0 (get-stays s.streams (ReadableStream first ∷ []) r.0 x.0 x.1.0) ∙ sym x.1.0),
            refl,
          ),
        );
        weighs = omega arith;
        plain = (tt, (tt, (tt, (tt, tt))));
      })
      (λ m claim. open-fits d.slots j (next_id s.promises) _ (reads-default t r d.slots tied.0 m)
      (free-before (s.streams ++ ReadableStream first ∷ []) second j.0 refl (free-before s.streams first j.0 refl free)) (tt, (tt, (tt, tt))) claim) k

  -- a pipe begins

  pipe-begins : (z : Slots) (me : PipeId) (p q : PromiseId) (signal : Option SignalId) (reason : Option Plain) → Begins z (pipe_calls.pipe_begins me p q signal reason) × Calms t r z (pipe_calls.pipe_begins me p q signal reason)
  pipe-begins z me p q signal (Some c) = (record { none = refl; plain = (tt, tt) }, (tt, tt))
  pipe-begins z me p q None None = (record { none = refl; plain = (tt, (tt, (tt, tt))) }, (tt, (tt, (tt, tt))))
  pipe-begins z me p q (Some a) None = (record { none = refl; plain = (tt, (tt, (tt, (tt, tt)))) }, (tt, (tt, (tt, (tt, tt)))))

  start-begins : (z : Slots) (p : PromiseId) (j : StreamId) (start : StartBy) → Begins z (making_calls.start_transform p j start ∷ []) × Calms t r z (making_calls.start_transform p j start ∷ [])
  start-begins z p j Now = (record { none = refl; plain = (tt, tt) }, (tt, tt))
  start-begins z p j Later = (record { none = refl; plain = (tt, tt) }, (tt, tt))

  one : (z : Slots) (e : Effect) → none_of t z (e ∷ []) ≡ 0 → IsPlain t r e → Begins z (e ∷ [])
  one z e n p = record { none = n; plain = (p, tt) }

  -- a stream is made, with what else is made

  grown : (h : Reads) (s z : Slots) (y : Stream) (cs : List Effect) → Known t r h s [] → z.streams ≡ s.streams ++ y ∷ [] → z.transforms ≡ s.transforms → lighter s.promises z.promises → Tied z → Begins z cs → Carries s z cs
  unfolding Old
  grown h s z y cs k e f w tied b =
      let n = b.none in
      record {
        tied = tied;
        unmade = λ none. rw f at none;
        old = λ m.
            let before : IsRead t r s = (m.0, (rw f at m.1.0, m.1.1)) in
            inl (
              before,
              (
                ap as_readable (ap (λ (xs : List Stream). slice_get xs r.0) e ∙ (let x = half-place s k.halved before in get-stays s.streams (y ∷ []) r.0 x.0 x.1.0 ∙ sym x.1.0)),
                rw f refl,
              ),
            );
        weighs = omega arith;
        plain = b.plain;
      }

  ported : (h : Reads) (s : Slots) (side : Side) → Known t r h s []
      → let d = (pipe_calls.open_end side (record { 0 = length s.streams }) s).done in Tied d.slots → Known t r h d.slots d.caused
  ported h s ReadableSide k tied =
      let d = (pipe_calls.open_end ReadableSide (record { 0 = length s.streams }) s).done in
      carried h s d.slots d.caused (grown h s d.slots _ d.caused k refl refl (omega arith) tied (one _ _ refl tt)) (λ m claim. calm-fits d.slots d.caused (tt, tt) claim) k
  ported h s WritableSide k tied =
      let d = (pipe_calls.open_end WritableSide (record { 0 = length s.streams }) s).done in
      carried h s d.slots d.caused (grown h s d.slots _ d.caused k refl refl (fresh-lighter s.promises) tied (one _ _ refl tt)) (λ m claim. calm-fits d.slots d.caused (tt, tt) claim) k

  -- and a reader comes to a stream that has none

  starts-fits : (z : Slots) (e : Effect) (j : StreamId) (p : PromiseId) (rest : List Effect) → has_byte r z ≡ false → IsStarting t r e → IsCalm t r z e → is_some (source_at j z).reader ≡ false → Calms t r z rest
      → (unwanted t r z ≡ true → pressed t z ≡ true) → Fits t r z (e ∷ OnReadable j (InitializeReader p) ∷ rest)
  starts-fits z e j p rest isnt st calm free c claim = by (is_same r j) refl
    where
      by : (b : Bool) → b ≡ is_same r j → Fits t r z (e ∷ OnReadable j (InitializeReader p) ∷ rest)
      by true f =
          let is : r ≡ j = same_id r j (sym f) in
          Starts e p rest (ap (λ (k : StreamId). e ∷ OnReadable k (InitializeReader p) ∷ rest) (sym is)) st (rw (source-default r z isnt) at (rw (← is) at free)) c claim
      by false f = calm-fits z (e ∷ OnReadable j (InitializeReader p) ∷ rest) (calm, (sym f, c)) claim

  source-unlocked : (s : Slots) (y : Stream) (j : StreamId) → has_source j s ≡ true → is_some (source_at j s).reader ≡ false → is_some (as_source (slice_get (s.streams ++ y ∷ []) j.0)).reader ≡ false
  source-unlocked s y j there free = by (slice_get s.streams j.0) refl there free
    where
      by : (o : Option Stream) → o ≡ slice_get s.streams j.0 → is_readable_stream o || is_byte_stream o ≡ true → is_some (as_source o).reader ≡ false → is_some (as_source (slice_get (s.streams ++ y ∷ []) j.0)).reader ≡ false
      by None e th fr = cc
      by (Some x) e th fr = rw (get-stays s.streams (y ∷ []) j.0 x (sym e)) fr

  abbrev starts : StreamId → Step → Effect
  starts i step = StartAlgorithm i step Now

  sent : (h : Reads) (s z : Slots) (y : Stream) (i j : StreamId) (step : Step) (p : PromiseId) (rest : List Effect) → Known t r h s [] → z.streams ≡ s.streams ++ y ∷ [] → z.transforms ≡ s.transforms → lighter s.promises z.promises → Tied z
      → is_cancelled t step ≡ 0 → is_some (source_at j z).reader ≡ false → Begins z (starts i step ∷ OnReadable j (InitializeReader p) ∷ rest) → Calms t r z rest → Known t r h z (starts i step ∷ OnReadable j (InitializeReader p) ∷ rest)
  sent h s z y i j step p rest k e f w tied quiet free b c =
      let cs : List Effect = starts i step ∷ OnReadable j (InitializeReader p) ∷ rest in
      carried h s z cs (grown h s z y cs k e f w tied b) (λ m claim. starts-fits z (starts i step) j p rest (reads-default t r z tied.0 m) tt tt free c claim) k

  call-known : (h : Reads) (s : Slots) (c : Call) → Known t r h s [] → Known t r h (begin c s).done.slots (begin c s).done.caused
  call-known h s c k = each_call (λ (b : Begun). Tied b.done.slots → Known t r h b.done.slots b.done.caused) c s (record {
    unchanged = λ reply tied. k;
    rejected = λ fault tied. calls-same h s _ _ k tied refl refl (fresh-lighter s.promises) (one _ _ refl tt) (λ m. (tt, tt));
    make_readable = λ mark size start tied. added h s _ _ k tied (one _ _ refl tt) (tt, tt);
    make_writable = λ mark size start tied. added h s _ _ k tied (one _ _ refl tt) (tt, tt);
    make_transform = λ kind m n start tied.
        let b = start-begins (making_calls.make_transform kind m n start (record { 0 = length s.streams }) (record { 0 = length s.streams + 1 }) s).done.slots (next_id (fresh s.promises)) (record { 0 = length s.streams + 1 }) start in
        let z = b.0.none in
        made h s kind m n start k tied (record { none = omega arith; plain = (tt, (tt, (tt, (tt, b.0.plain)))) }) (tt, (tt, (tt, (tt, b.1))));
    get_byob = λ j is e tied. calls-same h s _ _ k tied refl refl (fresh-lighter s.promises) (one _ _ refl tt) (λ m. (tt, tt));
    release_byob = λ l closed j e tied.
        let kept : Bool = readable.is_readable (source_at j s).state in
        let z : Slots = (lock_calls.release_reader (ByobReader None) l closed j s).done.slots in
        calls-same h s z _ k tied refl refl (renewed-lighter s.promises kept) (renewed-begins z s.promises kept _ (one z _ refl tt)) (λ m. renewed-calms z s.promises kept _ (tt, tt));
    read_into = λ l j closed room element least e f tied. calls-same h s _ _ k tied refl refl (fresh-lighter s.promises) (one _ _ refl tt) (λ m. (tt, tt));
    enqueue_bytes = λ j b e is some can tied. calls-same h s s _ k tied refl refl (omega arith) (one _ _ refl tt) (λ m. (tt, tt));
    finish_bytes = λ j e is can tied. calls-same h s s _ k tied refl refl (omega arith) (one _ _ refl tt) (λ m. (tt, tt));
    make_request = λ j reply is tied. calls-same h s _ _ k tied refl refl (omega arith) (one _ _ refl tt) (λ m. (tt, tt));
    respond = λ r j b e is can tied. calls-same h s s _ k tied refl refl (omega arith) (one _ _ refl tt) (λ m. (tt, tt));
    make_bytes = λ mark auto start tied. added h s _ _ k tied (one _ _ refl tt) (tt, tt);
    get_reader = λ j e tied. calls-open h s _ j _ [] k tied refl refl (fresh-lighter s.promises) e (one _ _ refl tt) tt;
    make_tee = λ j c there e untied tied. teed h s j k tied e;
    get_writer = λ j e tied. calls-same h s _ _ k tied refl refl (two-lighter s.promises) (one _ _ refl tt) (λ m. (tt, tt));
    release_reader = λ l closed j e tied.
        let kept : Bool = readable.is_readable (source_at j s).state in
        let z : Slots = (lock_calls.release_reader (ReaderLock None) l closed j s).done.slots in
        calls-same h s z _ k tied refl refl (renewed-lighter s.promises kept) (renewed-begins z s.promises kept _ (one z _ refl tt)) (λ m. renewed-calms z s.promises kept _ (tt, tt));
    release_writer = λ l j w e f tied.
        let ready : Bool = is_pending_at w.ready s.promises in
        let u : Table = lock_calls.with_renewed s.promises ready in
        let closed : Bool = is_pending_at w.closed u in
        let z : Slots = (lock_calls.release_writer l j w s).done.slots in
        calls-same h s z _ k tied refl refl (lighter-on s.promises u (lock_calls.with_renewed u closed) (renewed-lighter s.promises ready) (renewed-lighter u closed))
        (renewed-begins z s.promises ready _ (renewed-begins z u closed _ (one z _ refl tt))) (λ m. renewed-calms z s.promises ready _ (renewed-calms z u closed _ (tt, tt)));
    cancel = λ reason j tied. calls-same h s _ _ k tied refl refl (fresh-lighter s.promises) (one _ _ refl tt) (λ m. (tt, tt));
    read = λ l j closed e f tied. calls-same h s _ _ k tied refl refl (fresh-lighter s.promises) (one _ _ refl tt) (λ m. (tt, tt));
    write = λ l v j e tied. calls-same h s _ _ k tied refl refl (fresh-lighter s.promises) (one _ _ refl tt) (λ m. (tt, tt));
    close = λ j tied. calls-same h s _ _ k tied refl refl (fresh-lighter s.promises) (one _ _ refl tt) (λ m. (tt, tt));
    abort = λ reason j e tied. calls-same h s _ _ k tied refl refl (fresh-lighter s.promises) (one _ _ refl tt) (λ m. (tt, tt));
    enqueue = λ j v e host open_ tied. calls-same h s s _ k tied refl refl (omega arith) (one _ _ refl tt) (λ m. (not-hosted s j tied.0 m host, tt));
    enqueue_half = λ j u v e host open_ tied. calls-same h s s _ k tied refl refl (omega arith) (one _ _ refl tt) (λ m. (tt, tt));
    finish = λ j tied. calls-same h s s _ k tied refl refl (omega arith) (one _ _ refl tt) (λ m. (tt, tt));
    fail_readable = λ j reason tied. calls-same h s s _ k tied refl refl (omega arith) (one _ _ refl tt) (λ m. (tt, tt));
    fail_writable = λ j reason tied. calls-same h s s _ k tied refl refl (omega arith) (one _ _ refl tt) (λ m. (tt, tt));
    fail_half = λ u reason tied. calls-same h s s _ k tied refl refl (omega arith) (one _ _ refl tt) (λ m. (tt, tt));
    terminate = λ u tied. calls-same h s s _ k tied refl refl (omega arith) (one _ _ refl tt) (λ m. (tt, tt));
    pipe = λ source dest prevent signal e f l m tied.
        let b = pipe-begins (pipe_calls.pipe_to source dest prevent signal s).done.slots (record { 0 = length s.pipes }) (next_id s.promises) (next_id (fresh (fresh s.promises))) signal (pipe_calls.reason_of signal s) in
        let z = b.0.none in
        calls-open h s _ source _ _ k tied refl refl (four-lighter s.promises) l (record { none = omega arith; plain = (tt, (tt, (tt, b.0.plain))) }) (tt, (tt, b.1));
    make_signal = λ tied. calls-same h s _ [] k tied refl refl (omega arith) (record { none = refl; plain = tt }) (λ m. tt);
    open_end = λ side tied. ported h s side k tied;
    send_readable = λ j there free tied.
        let y : Stream = pipe_calls.end_of (record { 0 = length s.ports }) WritableSide in
        sent h s _ y _ j _ _ _ k refl refl (five-lighter s.promises) tied refl (source-unlocked s y j there free) (record { none = refl; plain = (tt, (tt, (tt, (tt, (tt, (tt, (tt, tt))))))) }) (tt, (tt, (tt, (tt, (tt, tt)))));
    send_writable = λ j there free tied.
        let y : Stream = pipe_calls.end_of (record { 0 = length s.ports }) ReadableSide in
        sent h s _ y _ (record { 0 = length s.streams }) _ _ _ k refl refl (four-lighter s.promises) tied refl
        (ap (λ (o : Option Stream). is_some (as_source o).reader) (place_last s.streams y)) (record { none = refl; plain = (tt, (tt, (tt, (tt, (tt, (tt, (tt, tt))))))) }) (tt, (tt, (tt, (tt, (tt, tt)))));
    deliver = λ p m e is tied. calls-same h s s _ k tied refl refl (omega arith) (one _ _ refl tt) (λ l. (tt, tt));
    trigger = λ a reason tied. calls-same h s s _ k tied refl refl (omega arith) (one _ _ refl tt) (λ m. (tt, tt));
    settle = λ a answer p e tied. calls-same h s _ _ k tied refl refl (omega arith) (one _ _ refl tt) (λ m. (tt, tt));
  }) (tied-call s c k.halved k.ended)

  pub goes : GoesUntold reads_then (effect_reads r) (Known t r)
  goes = record {
    row = λ h s e es k. row-known t r h s e es k;
    call = λ h s c k. call-known h s c k;
    job = λ h s job e k. job-known h s job e k;
    answered = λ h s p k. calls-same h s (with_promises (watch p s.promises) s) [] k (k.halved, k.ended) refl refl (weigh-watch (of_reaction (is_cancelled t)) p s.promises) (record { none = refl; plain = tt }) (λ m. tt);
    older = λ h s k. calls-same h s (older s) [] k (k.halved, k.ended) refl refl (omega arith) (record { none = refl; plain = tt }) (λ m. tt);
  }

  pub rests : RestsUntold (Known t r)
  unfolding weigh
  rests = record { heard = λ h s k. calls-same h s (after_event s) [] k (k.halved, k.ended) refl refl (omega arith) (record { none = refl; plain = tt }) (λ m. tt) }

  pub none-known : Known t r no_reads empty []
  unfolding weigh
  none-known = record { halved = halved-empty; ended = ended-empty; unmade = λ e. (refl, refl); uncancelled = λ m. cc; fine = λ m. tt; fits = λ e m. cc }

reads-nothing : (h : Reads) → reads_then h no_reads ≡ h
reads-nothing h = λ k. record { asked = append-nil h.asked k; released = append-nil h.released k }

reads-assoc : (f g h : Reads) → reads_then (reads_then f g) h ≡ reads_then f (reads_then g h)
reads-assoc f g h = λ k. record { asked = append_assoc f.asked g.asked h.asked k; released = append_assoc f.released g.released h.released k }

pub are_reads : IsHistory no_reads reads_then
are_reads = record { left = λ h. refl; right = reads-nothing; assoc = reads-assoc }

wanted_then : (open_ w b : Bool) → open_ ≡ true → b ≡ false → (open_ && not w ≡ true → b ≡ true) → w ≡ true
wanted_then open_ true b e f k = refl
wanted_then true false b e f k = let no = k refl in cc
wanted_then false false b e f k = cc

pub no_backpressure_is_wanted : NoBackpressureIsWanted
no_backpressure_is_wanted entries t y is none open_ rel =
    let s : Slots = run entries empty in
    let r : StreamId = y.readable in
    let k = walker.run-holds no_reads reads_then are_reads (effect_reads r) (Known t r) (goes t r) (rests t r) entries empty (none-known t r) in
    let m : IsRead t r s = (transform_shape y, (map-there transform_shape s.transforms t.0 y is, refl)) in
    let free : pressed t s ≡ false = ap (λ (o : Option transform.Slots). (as_transform o).backpressure) is ∙ none in
    wanted_then (readable.can_close_or_enqueue (readable_at r s)) (wants (readable_at r s)) (pressed t s) open_ free (at-rest t r s (k.fits rel m))
