-- The order of the writable half of a transform stream, over every run (`each_half_is_lawful`).
use Rattle.std.proofs.Common.{◌≡◌, ℕ, zero, suc, ◌+◌, ◌≤◌, ◌<◌, Bool, true, false, is_some, nat_eq, List, [], ◌∷◌, ◌++◌, length, map, Option, Some, None, Result, Ok, slice_get, refl, sym, subst, ap, ◌∙◌, arith, append-nil}
use Rattle.ws_value.specs.declared.ids.{StreamId.{StreamId}}
use Rattle.ws_value.specs.declared.value.{Plain.{Plain}, Value.{Value}}
use Rattle.ws_steps.specs.declared.calls.Call.{Call}
use Rattle.ws_steps.specs.declared.effects.{Effect.{Effect}, Effect.TheVariants.{Writable as OnWritable}, Owner.TheVariants.{HalfOf}}
use Rattle.ws_steps.specs.declared.promises.Job.{Job}
use Rattle.ws_steps.specs.declared.transform.TransformId.{TransformId}
use Rattle.ws_steps.specs.declared.writable.{WritableOperation.{WritableOperation}, WritableOperation.TheVariants.{WriteSettled, CloseSettled}, WritableState.TheVariants.{Writable as IsWritable}}
use Rattle.ws_steps.specs.MakingCalls.{add_stream}
use Rattle.ws_steps.specs.Calls.{begin}
use Rattle.ws_steps.specs.Histories.{is_same}
use Rattle.ws_steps.specs.Jobs.{job_effects}
use Rattle.ws_steps.specs.Laws.{IsLawfulWritable}
use Rattle.ws_steps.specs.Operations.{writable_operation}
use Rattle.ws_steps.specs.Promises.{after_next_job}
use Rattle.ws_steps.specs.Run.{Entry, run}
use Rattle.ws_steps.specs.Slots.{Slots, Stream, ReadableStream, ByteStream, WritableStream, empty, no_writable, owner_at, has_writable, writable_at, as_writable, is_writable_stream, with_promises, on_writable}
use Rattle.ws_steps.specs.Turns.{row}
use Rattle.ws_steps.specs.Writable as writable
use Rattle.ws_steps.specs.Writable.{has_ended, is_closed}
use Rattle.ws_steps.specs.WritableHistory.{Writes, no_writes, writes_then, todo, effect_writes, operation_writes, run_writes}
use Rattle.ws_laws.proofs.Begin.{IsFirst, Enqueues, Never, begin-first, job-first, begin-makes}
use Rattle.ws_laws.proofs.Lists.{Each}
use Rattle.ws_laws.proofs.Shapes.{StreamShape, ReadableOf, BytesOf, WritableOf, stream_shape, row-stream_shapes, row-owner}
use Rattle.ws_laws.proofs.Tables.{is_same-refl, eq_numbers, unequal_numbers, place_last, place_before, no_stream, no_writable_there, writable_there, writable_acts, on_writable-same}
use Rattle.ws_laws.proofs.Weights.{of_job}
use Rattle.ws_laws.proofs.Walker as walker
use Rattle.ws_laws.proofs.Walker.{GoesUntold, RestsUntold}
use Rattle.ws_writable_laws.proofs.Agenda.{Kept, Elsewhere, row-leaves, elsewhere_told, closing_told, same_or, among, idle}
use Rattle.ws_writable_laws.proofs.Operations.{Owed, handed, with_effects}
use Rattle.ws_writable_laws.proofs.Runs.{is_history}
use Rattle.ws_writable_laws.proofs.Shape.{one_if, core_of, Shape, Closing, closes, hands, leads, leads_to, is_write, is_close, all, all-append, weight, of_reaction}
use Rattle.ws_transform_laws.specs.HalfLaws.{EachHalfIsLawful}
use Rattle.ws_transform_laws.proofs.Halving.{Going, going, going-rests, none-going}
use Rattle.ws_transform_laws.proofs.Need.{core, needs}
use Rattle.ws_transform_laws.proofs.Ordering.{Ordered, Knows, with_closes}
use Rattle.ws_transform_laws.proofs.Performing.{operation-orders}
use Rattle.ws_transform_laws.proofs.Stages.{Stage, Begins, Sinks, Asks, Hears, Rests, GoesOn, Throws, Hands, Failing, Fails, token-open, fails}
use Rattle.ws_transform_laws.proofs.Waiting.{waits-weigh, queued-weigh}

-- what is known of a half, of all that stands on the agenda

handed-half : (n : ℕ) (w : writable.Slots) (t : TransformId) → w.owner ≡ HalfOf t → handed n w ≡ w
handed-half zero w t o = refl
handed-half (suc n) w t o = rw o refl

pub record Known (i : StreamId) (h : Writes) (s : Slots) (es : List Effect) : Type 0 where
  pub shape : Shape (h.closes + all (closes i) es) (core_of (writable_at i s))
  pub closing : Closing (h.closes + all (closes i) es) (core_of (writable_at i s))
  pub owed : Owed (with_effects i (among i s.promises) es) (core_of (writable_at i s))

pub known-half : (i : StreamId) (t : TransformId) (h : Writes) (s : Slots) (es : List Effect) → (writable_at i s).owner ≡ HalfOf t → Kept i h s es → Known i h s es
known-half i t h s es o k =
    let w : writable.Slots = writable_at i s in
    let same : handed (all (hands i) es) w ≡ w = handed-half (all (hands i) es) w t o in
    let f = k.held.fine in
    record {
      shape = subst (λ (x : writable.Slots). Shape (h.closes + all (closes i) es) (core_of x)) same f.shape;
      closing = subst (λ (x : writable.Slots). Closing (h.closes + all (closes i) es) (core_of x)) same f.closing;
      owed = subst (λ (x : writable.Slots). Owed (with_effects i (among i s.promises) es) (core_of x)) same f.owed;
    }

pub half-owner : (i : StreamId) (t : TransformId) (s : Slots) → has_writable i s ≡ true → owner_at i s ≡ HalfOf t → (writable_at i s).owner ≡ HalfOf t
half-owner i t s there is = let at = writable_there (slice_get s.streams i.0) there in rw at at is

-- whether a stream is writable is told by its shape

abbrev pub shape_writable : Option StreamShape → Bool
shape_writable None = false
shape_writable (Some (ReadableOf o)) = false
shape_writable (Some BytesOf) = false
shape_writable (Some (WritableOf o)) = true

pub writable-told : (xs : List Stream) (n : ℕ) → is_writable_stream (slice_get xs n) ≡ shape_writable (slice_get (map stream_shape xs) n)
writable-told [] n = refl
writable-told (ReadableStream r ∷ xs) zero = refl
writable-told (ByteStream b ∷ xs) zero = refl
writable-told (WritableStream w ∷ xs) zero = refl
writable-told (x ∷ xs) (suc n) = writable-told xs n

pub row-has : (i : StreamId) (e : Effect) (s : Slots) → has_writable i (row e s).slots ≡ has_writable i s
row-has i e s =
    writable-told (row e s).slots.streams i.0 ∙ (ap (λ (ys : List StreamShape). shape_writable (slice_get ys i.0)) (row-stream_shapes e s) ∙ sym (writable-told s.streams i.0))

-- a write that is fulfilled was handed on

pub too-many : (a b c : ℕ) (w : Bool) → 1 ≤ a → a + (1 + b) ≤ one_if w → {A : Type 0} → A
too-many a b c true f g = absurd (omega arith)
too-many a b c false f g = absurd (omega arith)

module _ (i : StreamId) where
  pub settled-leads : (o : Result Plain Plain) → leads_to (is_write i) (OnWritable i (WriteSettled o)) ≡ 1
  settled-leads o = rw (is_same-refl i) refl

  pub settled-flies : (h : Writes) (s : Slots) (es : List Effect) (o : Result Plain Plain) → Known i h s (OnWritable i (WriteSettled o) ∷ es) → is_some (writable_at i s).write_in_flight ≡ true
  settled-flies h s es o k = let w = k.owed.writes in let l = settled-leads o in by (is_some (writable_at i s).write_in_flight) (rw l at w)
    where
      by : (b : Bool) → weight (is_write i) s.promises + (1 + all (leads_to (is_write i)) es) ≤ one_if b → b ≡ true
      by true f = refl
      by false f = absurd (omega arith)

  pub fails-within : (j : Job) → fails i j ≤ of_job (of_reaction (is_write i)) j
  fails-within j = grind arith

module _ (i : StreamId) (t : TransformId) where
  pub none-settles : {A : Type 0} (h : Writes) (s : Slots) (es : List Effect) (v : Plain) → Going i t h s (OnWritable i (WriteSettled (Ok v)) ∷ es) → Known i h s (OnWritable i (WriteSettled (Ok v)) ∷ es) → Stage i t s (OnWritable i (WriteSettled (Ok v)) ∷ es) → A
  none-settles h s es v g k (Begins rest eq) = cc
  none-settles h s es v g k (Sinks rest eq) = cc
  none-settles h s es v g k (Asks y d rest at eq) = cc
  none-settles h s es v g k (Hears d rest tok eq) = cc
  none-settles h s es v g k (Rests d tok w) =
      let open_ = token-open i t _ d s g.straight.sound tok in
      let few = waits-weigh (of_reaction (is_write i)) 1 d s.promises open_ w in
      let l = settled-leads i (Ok v) in
      too-many (weight (is_write i) s.promises) (all (leads_to (is_write i)) es) 0 (is_some (writable_at i s).write_in_flight) few (rw l at k.owed.writes)
  none-settles h s es v g k (GoesOn d rest w eq) = cc
  none-settles h s es v g k (Throws d r rest w eq) = cc
  none-settles h s es v g k (Hands d rest eq) = cc
  none-settles h s es v g k (Failing q) =
      let few = queued-weigh (fails i) (of_reaction (is_write i)) 1 s.promises (fails-within i) q in
      let l = settled-leads i (Ok v) in
      too-many (weight (is_write i) s.promises) (all (leads_to (is_write i)) es) 0 (is_some (writable_at i s).write_in_flight) few (rw l at k.owed.writes)
  none-settles h s es v g k (Fails r rest eq) = cc

  needs-not : (w : writable.Slots) (led : Bool) → led ≡ leads w.queue → has_ended w.state ≡ false → is_some w.write_in_flight ≡ true → (needs w ≡ true → ⊥) → led ≡ true
  needs-not w true e alive flies none = refl
  needs-not w false e alive flies none = absurd (none (rw (alive, flies, ← e) refl))

  pub settled-led : (h : Writes) (s : Slots) (es : List Effect) (v : Plain) → owner_at i s ≡ HalfOf t → Going i t h s (OnWritable i (WriteSettled (Ok v)) ∷ es) → Known i h s (OnWritable i (WriteSettled (Ok v)) ∷ es)
      → has_ended (writable_at i s).state ≡ false → leads (writable_at i s).queue ≡ true
  settled-led h s es v o g k alive =
      needs-not (writable_at i s) (leads (writable_at i s).queue) refl alive (settled-flies i h s es (Ok v) k) (λ n. none-settles h s es v g k (g.staged o n).1)

  -- the law, with what is on the agenda

  -- with the closings that stand on the agenda
  abbrev pub behind : Writes → List Effect → Writes
  behind h es = record h { closes = h.closes + all (closes i) es }

  -- the half keeps its order
  abbrev pub IsOrdered : Writes → Slots → Type 0
  IsOrdered h s = owner_at i s ≡ HalfOf t → has_writable i s ≡ true → (d : List Value) × Ordered h d (core (writable_at i s))

  -- nothing was told of a writable stream that isn't there
  abbrev pub IsUntold : Writes → Slots → Type 0
  IsUntold h s = has_writable i s ≡ false → (h.written ≡ []) × ((h.acted ≡ []) × (h.fulfilled ≡ 0))

  pub record Orderly (h : Writes) (s : Slots) (es : List Effect) : Type 0 where
    pub going : Going i t h s es
    pub ordered : IsOrdered (behind h es) s
    pub untold : IsUntold h s

  behind-next : (h : Writes) (n : ℕ) (cs es fs : List Effect) → all (closes i) cs ≡ 0 → all (closes i) fs ≡ n + all (closes i) es → behind (writes_then h (closing_told n)) (cs ++ es) ≡ behind h fs
  behind-next h n cs es fs none e = let a = all-append (closes i) cs es in grind (arith, append-nil, a, none, e)

  other-ordered : (h : Writes) (s : Slots) (e : Effect) (es : List Effect) → Elsewhere i e → IsOrdered (behind h (e ∷ es)) s → IsOrdered (behind (writes_then h (effect_writes i e s)) ((row e s).caused ++ es)) (row e s).slots
  other-ordered h s e es x k owner there =
      let l = row-leaves i e s x in
      let told = elsewhere_told i e s x in
      let m = k (sym (row-owner i e s) ∙ owner) (sym (row-has i e s) ∙ there) in
      let same : behind (writes_then h (closing_told (closes i e))) ((row e s).caused ++ es) ≡ behind h (e ∷ es) = behind-next h (closes i e) (row e s).caused es (e ∷ es) l.closes refl in
      (m.0, rw (told, same, l.place) m.1)

  other-untold : (h : Writes) (s : Slots) (e : Effect) → Elsewhere i e → IsUntold h s → IsUntold (writes_then h (effect_writes i e s)) (row e s).slots
  other-untold h s e x k none =
      let told = elsewhere_told i e s x in
      let m = k (sym (row-has i e s) ∙ none) in
      rw told (rw m.0 refl, (rw m.1.0 refl, rw m.1.1 refl))

  -- an operation of the half

  knows : (h : Writes) (s : Slots) (operation : WritableOperation) (es : List Effect) → owner_at i s ≡ HalfOf t → has_writable i s ≡ true → Going i t h s (OnWritable i operation ∷ es) → Knows operation (behind h es) (writable_at i s)
  knows h s operation es owner there g =
      let k = known-half i t h s (OnWritable i operation ∷ es) (half-owner i t s there owner) g.kept in
      let n : h.closes + (0 + all (closes i) es) ≡ h.closes + all (closes i) es = omega arith in
      record {
        shape = rw n at k.shape;
        closing = rw n at k.closing;
        flying = λ o is. settled-flies i h s es o (subst (λ (x : WritableOperation). Known i h s (OnWritable i x ∷ es)) is k);
        led = λ v is. settled-led h s es v owner (subst (λ (x : WritableOperation). Going i t h s (OnWritable i x ∷ es)) is g) (subst (λ (x : WritableOperation). Known i h s (OnWritable i x ∷ es)) is k);
        ending = λ o is. close-flies o (subst (λ (x : WritableOperation). Known i h s (OnWritable i x ∷ es)) is k);
      }
    where
      by : (b : Bool) (m n : ℕ) → m + (1 + n) ≤ one_if b → b ≡ true
      by true m n f = refl
      by false m n f = absurd (omega arith)

      close-leads : (o : Result Plain Plain) → leads_to (is_close i) (OnWritable i (CloseSettled o)) ≡ 1
      close-leads o = rw (is_same-refl i) refl

      close-flies : (o : Result Plain Plain) → Known i h s (OnWritable i (CloseSettled o) ∷ es) → is_some (writable_at i s).close_in_flight ≡ true
      close-flies o k = let c = k.owed.closes in let l = close-leads o in by (is_some (writable_at i s).close_in_flight) (weight (is_close i) s.promises) (all (leads_to (is_close i)) es) (rw l at c)

  own-closes : (h told : Writes) (fs es : List Effect) → with_closes i (writes_then (behind h es) told) fs ≡ behind (writes_then h told) (fs ++ es)
  own-closes h told fs es = let a = all-append (closes i) fs es in grind (arith, a)

  abbrev own : Slots → WritableOperation → writable.Acts
  own s operation = writable_operation i operation (writable_acts i s)

  own-there : (h : Writes) (s : Slots) (operation : WritableOperation) (es : List Effect) → owner_at i s ≡ HalfOf t → has_writable i s ≡ true → Orderly h s (OnWritable i operation ∷ es)
      → (d : List Value) × Ordered (behind (writes_then h (operation_writes operation (writable_at i s))) ((own s operation).out.effects ++ es)) d (core (own s operation).slots)
  own-there h s operation es owner there g =
      let m = g.ordered owner there in
      let n : h.closes + (0 + all (closes i) es) ≡ h.closes + all (closes i) es = omega arith in
      let o : Ordered (behind h es) m.0 (core (writable_at i s)) = rw n at m.1 in
      let b = operation-orders i operation (behind h es) m.0 (writable_acts i s) (knows h s operation es owner there g.going) (record { quiet = refl; ordered = o }) in
      (b.dropped, rw (own-closes h (operation_writes operation (writable_at i s)) (own s operation).out.effects es) at b.ordered)

  own-ordered : (h : Writes) (s : Slots) (operation : WritableOperation) (es : List Effect) → Orderly h s (OnWritable i operation ∷ es)
      → IsOrdered (behind (writes_then h (effect_writes i (OnWritable i operation) s)) ((row (OnWritable i operation) s).caused ++ es)) (row (OnWritable i operation) s).slots
  unfolding row
  own-ordered h s operation es g owner there =
      let o : owner_at i s ≡ HalfOf t = sym (row-owner i (OnWritable i operation) s) ∙ owner in
      let th : has_writable i s ≡ true = sym (row-has i (OnWritable i operation) s) ∙ there in
      let k = own-there h s operation es o th g in
      let at : writable_at i (on_writable (writable_operation i operation) i s).slots ≡ (own s operation).slots = ap as_writable (on_writable-same (writable_operation i operation) i s th) in
      let caused : (on_writable (writable_operation i operation) i s).caused ≡ (own s operation).out.effects = rw th refl in
      (k.0, rw (is_same-refl i, at, caused) k.1)

  own-untold : (h : Writes) (s : Slots) (operation : WritableOperation) (es : List Effect) → IsUntold h s → IsUntold (writes_then h (effect_writes i (OnWritable i operation) s)) (row (OnWritable i operation) s).slots
  own-untold h s operation es k none =
      let no : has_writable i s ≡ false = sym (row-has i (OnWritable i operation) s) ∙ none in
      let m = k no in
      let there : writable_at i s ≡ no_writable = no_writable_there (slice_get s.streams i.0) no in
      let told : operation_writes operation (writable_at i s) ≡ no_writes = ap (operation_writes operation) there ∙ idle operation in
      rw (is_same-refl i, told) (rw m.0 refl, (rw m.1.0 refl, rw m.1.1 refl))

  abbrev Told : Writes → Slots → List Effect → Type 0
  Told h s es = IsOrdered (behind h es) s × IsUntold h s

  row-told : (h : Writes) (s : Slots) (e : Effect) (es : List Effect) → Orderly h s (e ∷ es) → Told (writes_then h (effect_writes i e s)) (row e s).slots ((row e s).caused ++ es)
  row-told h s (OnWritable j operation) es g =
      same_or (λ l. Orderly h s (OnWritable l operation ∷ es) → Told (writes_then h (effect_writes i (OnWritable l operation) s)) (row (OnWritable l operation) s).slots ((row (OnWritable l operation) s).caused ++ es))
      i j (is_same i j) refl (λ n k. (other-ordered h s (OnWritable j operation) es n k.ordered, other-untold h s (OnWritable j operation) n k.untold))
      (λ k. (own-ordered h s operation es k, own-untold h s operation es k.untold)) g
  row-told h s e es g = (other-ordered h s e es tt g.ordered, other-untold h s e tt g.untold)

  -- calls and jobs

  first-closes : (E : StreamId → Value → Type 0) (es : List Effect) → Each (IsFirst E) es → all (closes i) es ≡ 0
  first-closes E [] f = refl
  first-closes E (e ∷ es) f = let k = first-closes E es f.1 in let l = one e f.0 in omega arith
    where
      one : (e : Effect) → IsFirst E e → closes i e ≡ 0
      one e f = grind (arith, f)

  -- a stream is made

  abbrev IsNew : Stream → Type 0
  IsNew y = is_writable_stream (Some y) ≡ true → core (as_writable (Some y)) ≡ record { state = IsWritable; flying = None; queue = [] }

  new-ordered : (h : Writes) → (h.written ≡ []) × ((h.acted ≡ []) × (h.fulfilled ≡ 0)) → Ordered (behind h []) [] (record { state = IsWritable; flying = None; queue = [] })
  new-ordered h u = record {
    all = rw (u.0, u.1.0) refl;
    live = λ e. refl;
    counted = λ e. rw (u.1.0, u.1.1) refl;
    first = refl;
    last = refl;
    ended = λ e. refl;
    whole = λ e. (rw (u.0, u.1.0) refl, rw (u.0, u.1.1) refl);
    closed = λ e. cc;
  }

  added : (h : Writes) (s : Slots) (y : Stream) (here : Bool) → here ≡ nat_eq i.0 (length s.streams) → IsNew y → Told h s [] → Told h (add_stream y s) []
  added h s y true e new k =
      let at : i.0 ≡ length s.streams = eq_numbers i.0 (length s.streams) (sym e) in
      let is : slice_get (s.streams ++ y ∷ []) i.0 ≡ Some y = rw at (place_last s.streams y) in
      let none : has_writable i s ≡ false = ap is_writable_stream (no_stream i s.streams at) in
      (λ owner there. ([], subst (λ (o : Option Stream). Ordered (behind h []) [] (core (as_writable o))) (sym is) (rw (new (sym (ap is_writable_stream is) ∙ there)) (new-ordered h (k.1 none)))), λ no. k.1 none)
  added h s y false e new k =
      let same = place_before s.streams y i.0 (unequal_numbers i.0 (length s.streams) (sym e)) in
      (λ owner there. let m = k.0 (rw same at owner) (rw same at there) in (m.0, rw same m.1), λ no. k.1 (rw same at no))

  told-behind : (h : Writes) (s : Slots) (es : List Effect) → all (closes i) es ≡ 0 → Told h s [] → Told h s es
  told-behind h s es none k = (λ owner there. let m = k.0 owner there in (m.0, rw none m.1), k.1)

  call-told : (h : Writes) (s : Slots) (c : Call) → Told h s [] → Told h (begin c s).done.slots (begin c s).done.caused
  call-told h s c k =
      told-behind h (begin c s).done.slots (begin c s).done.caused (first-closes (Enqueues c) (begin c s).done.caused (begin-first c s))
      (begin-makes (λ z. Told h z []) (record {
        promise = λ z k. k;
        locks = λ z ls k. k;
        hosts = λ z hs k. k;
        pipe = λ z source dest prevent signal promise k. k;
        signal = λ z k. k;
        transform = λ z kind w r change k. k;
        tee = λ z source first second cancel k. k;
        port = λ z side stream backpressure k. k;
        bytes = λ z mark auto k. added h z _ (nat_eq i.0 (length z.streams)) refl (λ no. cc) k;
        byob_requests = λ z hs k. k;
        readable = λ z o mark size k. added h z _ (nat_eq i.0 (length z.streams)) refl (λ no. cc) k;
        writable = λ z o mark size k. added h z _ (nat_eq i.0 (length z.streams)) refl (λ yes. refl) k;
      }) c s k)

  pub orderly : GoesUntold writes_then (effect_writes i) Orderly
  orderly = record {
    row = λ h s e es g. let k = row-told h s e es g in record { going = (going i t).row h s e es g.going; ordered = k.0; untold = k.1 };
    call = λ h s c g. let k = call-told h s c (g.ordered, g.untold) in record { going = (going i t).call h s c g.going; ordered = k.0; untold = k.1 };
    job = λ h s job e g.
        let k = told-behind h (with_promises (after_next_job s.promises) s) (job_effects job) (first-closes Never (job_effects job) (job-first job)) (g.ordered, g.untold) in
        record { going = (going i t).job h s job e g.going; ordered = k.0; untold = k.1 };
    answered = λ h s p g. record { going = (going i t).answered h s p g.going; ordered = g.ordered; untold = g.untold };
    older = λ h s g. record { going = (going i t).older h s g.going; ordered = g.ordered; untold = g.untold };
  }

  pub orderly-rests : RestsUntold Orderly
  orderly-rests = record { heard = λ h s g. record { going = (going-rests i t).heard h s g.going; ordered = g.ordered; untold = g.untold } }

  pub run-orderly : (entries : List Entry) → Orderly (run_writes i entries empty) (run entries empty) []
  run-orderly entries =
      walker.run-holds no_writes writes_then is_history (effect_writes i) Orderly orderly orderly-rests entries empty
      (record { going = none-going i t; ordered = λ owner there. cc; untold = λ none. (refl, (refl, refl)) })

  -- the law

  lawful-there : (h : Writes) (d : List Value) (w : writable.Slots) → Shape (h.closes + 0) (core_of w) → Ordered (behind h []) d (core w) → IsLawfulWritable h w
  lawful-there h d w s o =
      let n : h.closes + 0 ≡ h.closes = omega arith in
      let whole : 0 < h.closes → (h.acted ≡ h.written) × (h.fulfilled ≡ length h.written) = rw n at o.whole in
      let closed : is_closed w.state ≡ true → 0 < h.closes = rw n at o.closed in
      record {
        front = (todo w.queue ++ d, sym o.all);
        alive = λ a. rw (o.live a, append-nil) at o.all;
        once = rw n at s.once;
        whole = λ k. (whole k).0;
        fulfilled = λ k. (whole k).1;
        closed = λ e. whole (closed (rw e refl));
      }

  lawful-none : (h : Writes) → h.closes ≤ 1 → (h.written ≡ []) × ((h.acted ≡ []) × (h.fulfilled ≡ 0)) → IsLawfulWritable h no_writable
  lawful-none h once u = record {
    front = ([], rw (u.0, u.1.0) refl);
    alive = λ a. cc;
    once = once;
    whole = λ k. rw (u.0, u.1.0) refl;
    fulfilled = λ k. rw (u.0, u.1.1) refl;
    closed = λ e. (rw (u.0, u.1.0) refl, rw (u.0, u.1.1) refl);
  }

  pub orderly-lawful : (h : Writes) (s : Slots) → owner_at i s ≡ HalfOf t → Orderly h s [] → IsLawfulWritable h (writable_at i s)
  orderly-lawful h s owner g = by (has_writable i s) refl
    where
      by : (there : Bool) → there ≡ has_writable i s → IsLawfulWritable h (writable_at i s)
      by true e =
          let m = g.ordered owner (sym e) in
          lawful-there h m.0 (writable_at i s) (known-half i t h s [] (half-owner i t s (sym e) owner) g.going.kept).shape m.1
      by false e =
          let none = no_writable_there (slice_get s.streams i.0) (sym e) in
          let once = g.going.kept.held.fine.shape.once in
          rw none (lawful-none h (omega arith) (g.untold (sym e)))

pub each_half_is_lawful : EachHalfIsLawful
each_half_is_lawful entries i t owner = orderly-lawful i t (run_writes i entries empty) (run entries empty) owner (run-orderly i t entries)
