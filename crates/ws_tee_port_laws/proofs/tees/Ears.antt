-- A tee reacts to one promise alone: no other effect than the one with which it begins makes such a reaction.
use Rattle.std.proofs.Common.{◌≡◌, ℕ, zero, suc, ◌+◌, Bool, true, false, ◌⊎◌, inl, inr, nat_eq, List, [], ◌∷◌, ◌++◌, length, map, Option, Some, None, slice_get, refl, sym, subst, ◌∙◌, arith}
use Rattle.ws_steps.specs.declared.effects.Owner.TheVariants.{EndOf}
use Rattle.ws_steps.specs.declared.effects.Effect.TheVariants.{Port as OnPort}
use Rattle.ws_value.specs.declared.ids.{PipeId.{PipeId}, PromiseId.{PromiseId}, StreamId.{StreamId}, TeeId.{TeeId}}
use Rattle.ws_value.specs.declared.value.{Plain.{Plain}, Value.{Value}}
use Rattle.ws_steps.specs.declared.calls.{Call.{Call}, StartBy.{StartBy}, StartBy.TheVariants.{Now, Later}}
use Rattle.ws_steps.specs.declared.effects.{Effect.{Effect}, Gift.{Gift}, Gift.TheVariants.{This, Fresh}, Owner.{Owner}, Owner.TheVariants.{Host, HalfOf, BranchOf}, Use.{Use}, Use.TheVariants.{React, Resolve}}
use Rattle.ws_steps.specs.declared.effects.Effect.TheVariants.{Readable as OnReadable, Byte, Writable as OnWritable, Pipe as OnPipe, Signal as OnSignal, Transform as OnTransform, Tee as OnTee, StartAlgorithm, PullAlgorithm, CancelAlgorithm, WriteAlgorithm, CloseAlgorithm, AbortAlgorithm, ChunkSteps, CloseSteps, CloseStepsWith, ErrorSteps, Give, CallHost}
use Rattle.ws_steps.specs.declared.pipes.{SignalOperation.{SignalOperation}, SignalOperation.TheVariants.{Add, Forget, Trigger}}
use Rattle.ws_steps.specs.declared.promises.{Job.{Job}, Reaction.TheVariants.{Perform}, Step.{Step}}
use Rattle.ws_steps.specs.declared.promises.Step.TheVariants.{ReadablePull, TeeEnds}
use Rattle.ws_steps.specs.declared.readable.{ReadRequest.{ReadRequest}, ReadRequest.TheVariants.{Promise, Pipe as PipeRequest, Tee as TeeRequest}}
use Rattle.ws_steps.specs.Begun.{Begun}
use Rattle.ws_steps.specs.MakingCalls.{make_tee}
use Rattle.ws_steps.specs.PipeCalls.{start_end}
use Rattle.ws_steps.specs.Calls.{begin}
use Rattle.ws_steps.specs.Jobs.{job_effects}
use Rattle.ws_steps.specs.Promises.{Table, next_id, fresh, after_next_job, watch, react, use_gift}
use Rattle.ws_steps.specs.Slots.{Slots, owner_at}
use Rattle.ws_steps.specs.Tee as tee
use Rattle.ws_steps.specs.Turns.{row, start_algorithm, pull_algorithm, cancel_algorithm, write_algorithm, close_algorithm, abort_algorithm}
use Rattle.ws_laws.proofs.Begin.{begin-makes}
use Rattle.ws_laws.proofs.EachCall.{each_call}
use Rattle.ws_laws.proofs.Lists.{Each, each-append, each-map}
use Rattle.ws_laws.proofs.PipeDoes.{IsStepOf, PipeCauses}
use Rattle.ws_laws.proofs.Causes.{ReadableCauses, ChunkCauses, EndCauses, ErrorCauses, SignalCauses, row-causes}
use Rattle.ws_laws.proofs.Shapes.{TeeShape, tee_shape, tee_shapes}
use Rattle.ws_laws.proofs.Tables.{eq_numbers}
use Rattle.ws_end_laws.proofs.hosts.Carried.{CarriesTee, TeeUses, row-tees_use, Carries, Uses, Own, row-uses}
use Rattle.ws_end_laws.proofs.hosts.Plain.{row-plainly}
use Rattle.ws_tee_port_laws.proofs.tees.Rejections.{Told, NoUse, plainly-told, fresh-told, watch-told, next-told, gift-told, own-told, host-told}
use Rattle.ws_steps.specs.declared.port.Side.{Side}
use Rattle.ws_steps.specs.declared.port.Side.TheVariants.{Readable as ReadableSide, Writable as WritableSide}
use Rattle.ws_end_laws.proofs.hosts.Ported.{CarriesPort, PortUses, row-port_uses}

pub shape_last : (xs : List tee.Slots) (y : tee.Slots) (n : ℕ) → n ≡ length xs → slice_get (map tee_shape (xs ++ y ∷ [])) n ≡ Some (tee_shape y)
shape_last [] y zero e = refl
shape_last [] y (suc n) e = cc
shape_last (x ∷ xs) y zero e = cc
shape_last (x ∷ xs) y (suc n) e = shape_last xs y n (cc)

pub some_none : (o : Option TeeShape) (x : TeeShape) {A : Type 0} → o ≡ Some x → o ≡ None → A
some_none None x e n = cc
some_none (Some y) x e n = cc

-- the tee that is made
abbrev pub made : Slots → StreamId → tee.Slots
made s i = tee.set_up i (record { 0 = length s.streams }) (record { 0 = length s.streams + 1 }) (next_id (fresh s.promises))

module _ (t : TeeId) where
  -- the reaction of the tee to the closed promise of its reader
  abbrev pub ends : Step → Bool
  ends (TeeEnds u) = nat_eq t.0 u.0
  ends _ = false

  module _ (p : PromiseId) where
    abbrev Of : Use → Type 0
    Of u = NoUse ends p u

    abbrev pub GiftFits : Gift → Use → Type 0
    GiftFits (This q) (React step derived) = ends step ≡ true → q ≡ p
    GiftFits (This q) (Resolve r) = Unit {0}
    GiftFits (Fresh o) u = Of u

    abbrev pub Fits : Effect → Type 0
    Fits (Give gift u) = GiftFits gift u
    Fits (CallHost call u) = Of u
    Fits (StartAlgorithm i step start) = ends step ≡ false
    Fits (OnTransform u operation) = Carries Of operation
    Fits (OnTee u operation) = CarriesTee Of operation
    Fits (OnPort c operation) = CarriesPort Of operation
    Fits _ = Unit {0}

    gift-fits : (gift : Gift) (u : Use) → Of u → GiftFits gift u
    gift-fits (This q) (React step derived) n = λ m. let wrong : false ≡ true = sym n ∙ m in cc
    gift-fits (This q) (Resolve r) n = tt
    gift-fits (Fresh o) u n = n

    -- what effects cause

    pipe-step : (q : PipeId) (step : Step) → IsStepOf q step → ends step ≡ false
    pipe-step q (TeeEnds u) c = absurd c
    pipe-step q _ c = refl

    pipe-fits : (q : PipeId) (source dest : StreamId) (e : Effect) → PipeCauses q source dest e → Fits e
    pipe-fits q source dest (Give (This r) (React step None)) c = gift-fits (This r) (React step None) (pipe-step q step c)
    pipe-fits q source dest (Give gift u) c = absurd c
    pipe-fits q source dest (CallHost call u) c = absurd c
    pipe-fits q source dest (StartAlgorithm i step start) c = absurd c
    pipe-fits q source dest (OnTransform u operation) c = absurd c
    pipe-fits q source dest (OnTee u operation) c = absurd c
    pipe-fits q source dest (OnPort w operation) c = absurd c
    pipe-fits q source dest _ c = tt

    chunk-fits : (v : Value) (request : ReadRequest) → ChunkCauses Fits v request
    chunk-fits v (Promise q) = tt
    chunk-fits v (PipeRequest q) = tt
    chunk-fits v (TeeRequest u) = tt

    end-fits : (request : ReadRequest) → EndCauses Fits request
    end-fits (Promise q) = tt
    end-fits (PipeRequest q) = tt
    end-fits (TeeRequest u) = tt

    error-fits : (request : ReadRequest) → ErrorCauses Fits request
    error-fits (Promise q) = tt
    error-fits (PipeRequest q) = tt
    error-fits (TeeRequest u) = tt

    signal-fits : (operation : SignalOperation) → SignalCauses Fits operation
    signal-fits (Trigger r) = λ q. tt
    signal-fits (Add q) = tt
    signal-fits (Forget q) = tt

    start-fits : (i : StreamId) (step : Step) (z : Slots) (start : StartBy) → ends step ≡ false → Each Fits (start_algorithm i step z start).caused
    start-fits i step z Now n = (n, tt)
    start-fits i step z Later n = (tt, (gift-fits (This (next_id z.promises)) (React step None) n, tt))

    pull-fits : (i : StreamId) (owner : Owner) → Each Fits (pull_algorithm i (React (ReadablePull i) None) owner)
    pull-fits i Host = (refl, tt)
    pull-fits i (HalfOf u) = (refl, tt)
    pull-fits i (BranchOf u h) = (tt, (refl, tt))
    pull-fits i (EndOf c) = (tt, (refl, tt))

    cancel-fits : (i : StreamId) (r : Plain) (owner : Owner) (step : Step) (d : Option PromiseId) → ends step ≡ false → Each Fits (cancel_algorithm i r (React step d) owner)
    cancel-fits i r Host step d n = (n, tt)
    cancel-fits i r (HalfOf u) step d n = (n, tt)
    cancel-fits i r (BranchOf u h) step d n = (n, tt)
    cancel-fits i r (EndOf c) step d n = (n, tt)

    write-fits : (i : StreamId) (owner : Owner) → Each Fits (write_algorithm i owner)
    write-fits i Host = (tt, tt)
    write-fits i (HalfOf u) = (refl, tt)
    write-fits i (BranchOf u h) = (tt, tt)
    write-fits i (EndOf c) = (refl, tt)

    close-fits : (i : StreamId) (owner : Owner) (step : Step) (d : Option PromiseId) → ends step ≡ false → Each Fits (close_algorithm i (React step d) owner)
    close-fits i Host step d n = (n, tt)
    close-fits i (HalfOf u) step d n = (n, tt)
    close-fits i (BranchOf u h) step d n = (n, tt)
    close-fits i (EndOf c) step d n = (n, tt)

    abort-fits : (i : StreamId) (r : Plain) (owner : Owner) (step : Step) (d : Option PromiseId) → ends step ≡ false → Each Fits (abort_algorithm i r (React step d) owner)
    abort-fits i r Host step d n = (n, tt)
    abort-fits i r (HalfOf u) step d n = (n, tt)
    abort-fits i r (BranchOf u h) step d n = (n, tt)
    abort-fits i r (EndOf c) step d n = (n, tt)

    own : Own Of
    own = record { resolve = λ q. tt; changed = λ u q. refl; transformed = λ u q. refl; flushed = λ u q. refl; aborted = λ u q r. refl; cancelled = λ u q r. refl }

    uses-fit : (e : Effect) → Uses Of (λ i. Unit {0}) e → Fits e
    uses-fit e u = grind (arith, u, gift-fits)

    tee-uses-fit : (e : Effect) → TeeUses Of e → Fits e
    tee-uses-fit e u = grind (arith, u, gift-fits)

    port-uses-fit : (e : Effect) → PortUses Of (λ i. Unit {0}) e → Fits e
    port-uses-fit e u = grind (arith, u, gift-fits)

    there-fits : (i : StreamId) → ReadableCauses Fits i
    there-fits i = record { pull = tt; cancel = λ r q. tt; chunk = λ r v. tt; close = λ r. tt; error = λ r e. tt }

    caused-fit : (e : Effect) (s : Slots) → Fits e → Each Fits (row e s).caused
    unfolding row
    caused-fit (OnReadable i operation) s f = row-causes Fits (OnReadable i operation) s (there-fits i)
    caused-fit (Byte i operation) s f = row-causes Fits (Byte i operation) s (record { readable = there-fits i; close_with = λ r v. tt })
    caused-fit (OnWritable i operation) s f =
        row-causes Fits (OnWritable i operation) s (record { write = tt; close = tt; abort = λ r q. tt; hand_on = λ v. refl; take = λ v u d. tt; post = λ v c d. tt })
    caused-fit (OnPipe q operation) s f = row-causes Fits (OnPipe q operation) s (pipe-fits q)
    caused-fit (OnSignal a operation) s f = row-causes Fits (OnSignal a operation) s (signal-fits operation)
    caused-fit (OnTransform u operation) s f =
        each-map (Uses Of (λ i. Unit {0})) Fits uses-fit (row (OnTransform u operation) s).caused (row-uses Of (λ i. Unit {0}) own u operation s f (λ x e. tt))
    caused-fit (OnTee u operation) s f = each-map (TeeUses Of) Fits tee-uses-fit (row (OnTee u operation) s).caused (row-tees_use Of (λ q. tt) u operation s f)
    caused-fit (OnPort c operation) s f =
        each-map (PortUses Of (λ i. Unit {0})) Fits port-uses-fit (row (OnPort c operation) s).caused (row-port_uses Of (λ i. Unit {0}) (λ q. tt) (λ d q. refl) c operation s f (λ x e. tt))
    caused-fit (StartAlgorithm i step start) s f = start-fits i step s start f
    caused-fit (PullAlgorithm i) s f = pull-fits i (owner_at i s)
    caused-fit (CancelAlgorithm i r q) s f = cancel-fits i r (owner_at i s) _ _ refl
    caused-fit (WriteAlgorithm i) s f = write-fits i (owner_at i s)
    caused-fit (CloseAlgorithm i) s f = close-fits i (owner_at i s) _ _ refl
    caused-fit (AbortAlgorithm i r q) s f = abort-fits i r (owner_at i s) _ _ refl
    caused-fit (ChunkSteps i request v) s f = row-causes Fits (ChunkSteps i request v) s (chunk-fits v request)
    caused-fit (CloseSteps i request) s f = row-causes Fits (CloseSteps i request) s (end-fits request)
    caused-fit (CloseStepsWith i request v) s f = row-causes Fits (CloseStepsWith i request v) s (end-fits request)
    caused-fit (ErrorSteps i request e) s f = row-causes Fits (ErrorSteps i request e) s (error-fits request)
    caused-fit _ s f = tt

    -- what an effect leaves

    given-told : (gift : Gift) (u : Use) (x : Table) → GiftFits gift u → Told ends p x → Told ends p (use_gift gift u x)
    unfolding use_gift
    given-told (This q) (React step derived) x f k = by (ends step) refl
      where
        by : (b : Bool) → ends step ≡ b → Told ends p (use_gift (This q) (React step derived) x)
        by false n = gift-told ends p (This q) (React step derived) x n k
        by true m = subst (λ (r : PromiseId). Told ends p (react r (Perform step derived) x)) (sym (f m)) (own-told ends p step derived x k)
    given-told (This q) (Resolve r) x f k = gift-told ends p (This q) (Resolve r) x tt k
    given-told (Fresh o) u x f k = gift-told ends p (Fresh o) u x f k

    row-told : (e : Effect) (s : Slots) → Fits e → Told ends p s.promises → Told ends p (row e s).slots.promises
    unfolding row
    row-told (Give gift u) s f k = given-told gift u s.promises f k
    row-told (CallHost call u) s f k = host-told ends p call u s f k
    row-told e s f k = row-plainly (Told ends p) (plainly-told ends p) e s tt k

    call-told : (c : Call) (s : Slots) → Told ends p s.promises → Told ends p (begin c s).done.slots.promises
    call-told c s k = begin-makes (λ z. Told ends p z.promises) (record {
      promise = λ z k. fresh-told ends p z.promises k;
      locks = λ z ls k. k;
      hosts = λ z hs k. k;
      pipe = λ z source dest prevent signal promise k. k;
      signal = λ z k. k;
      transform = λ z kind i j change k. k;
      tee = λ z source first second cancel k. k;
      port = λ z side stream backpressure k. k;
      readable = λ z owner mark size k. k;
      bytes = λ z mark auto k. k;
      byob_requests = λ z requests k. k;
      writable = λ z owner mark size k. k;
    }) c s k

    -- a call that makes the tee makes the promise, or the tee isn't made
    abbrev pub Meant : Slots → Slots → Type 0
    Meant s z = nat_eq t.0 (length s.tees) ≡ true → (next_id s.promises ≡ p) ⊎ (slice_get (tee_shapes z) t.0 ≡ None)

    made-fits : (s : Slots) (i : StreamId) → Meant s (make_tee i (record { 0 = length s.streams }) (record { 0 = length s.streams + 1 }) s).done.slots
        → nat_eq t.0 (length s.tees) ≡ true → next_id s.promises ≡ p
    made-fits s i m e = by (m e)
      where
        by : (next_id s.promises ≡ p) ⊎ (slice_get (tee_shapes (make_tee i (record { 0 = length s.streams }) (record { 0 = length s.streams + 1 }) s).done.slots) t.0 ≡ None) → next_id s.promises ≡ p
        by (inl same) = same
        by (inr none) = some_none _ (tee_shape (made s i)) (shape_last s.tees (made s i) t.0 (eq_numbers t.0 (length s.tees) e)) none

    start-fits_end : (i : StreamId) (side : Side) → Fits (start_end i side)
    start-fits_end i ReadableSide = refl
    start-fits_end i WritableSide = refl

    call-fits : (c : Call) (s : Slots) → Meant s (begin c s).done.slots → Each Fits (begin c s).done.caused
    call-fits c s = each_call (λ (z : Begun). Meant s z.done.slots → Each Fits z.done.caused) c s (record {
      unchanged = λ reply m. tt;
      rejected = λ fault m. (tt, tt);
      make_readable = λ mark size start m. (refl, tt);
      make_bytes = λ mark auto start m. (refl, tt);
      make_writable = λ mark size start m. (refl, tt);
      make_transform = λ kind n k start m. grind (arith, gift-fits);
      make_tee = λ i e there free untied m. (tt, (refl, (refl, (made-fits s i m, tt))));
      get_reader = λ i e m. (tt, tt);
      get_byob = λ i is e m. (tt, tt);
      get_writer = λ i e m. (tt, tt);
      release_reader = λ l closed i e m. grind (arith, each-append);
      release_byob = λ l closed i e m. grind (arith, each-append);
      release_writer = λ l i w e f m. grind (arith, each-append);
      cancel = λ reason i m. (tt, tt);
      read = λ l i closed e f m. (tt, tt);
      read_into = λ l i closed room element least e f m. (tt, tt);
      write = λ l v i e m. (tt, tt);
      close = λ i m. (tt, tt);
      abort = λ reason i e m. (tt, tt);
      enqueue = λ i v e o can m. (tt, tt);
      enqueue_half = λ i u v e o can m. (tt, tt);
      enqueue_bytes = λ i bs e is some can m. (tt, tt);
      finish = λ i m. (tt, tt);
      finish_bytes = λ i e is can m. (tt, tt);
      make_request = λ i reply is m. (tt, tt);
      respond = λ q i bs e is can m. (tt, tt);
      fail_readable = λ i reason m. (tt, tt);
      fail_writable = λ i reason m. (tt, tt);
      fail_half = λ u reason m. (tt, tt);
      terminate = λ u m. (tt, tt);
      pipe = λ source dest prevent signal e f l k m. grind (arith, each-append);
      make_signal = λ m. tt;
      open_end = λ side m. (start-fits_end (record { 0 = length s.streams }) side, tt);
      send_readable = λ i there free m. (refl, (tt, (tt, (tt, ((λ h. cc), ((λ h. cc), (tt, tt)))))));
      send_writable = λ i there free m. (refl, (tt, (tt, (tt, ((λ h. cc), ((λ h. cc), (tt, tt)))))));
      deliver = λ q x e is m. (tt, tt);
      trigger = λ a reason m. (tt, tt);
      settle = λ h answer q e m. grind arith;
    })

    job-fits : (job : Job) → Each Fits (job_effects job)
    job-fits job = grind (arith, each-append)

    -- at each moment of a run
    pub record Tells (s : Slots) (es : List Effect) : Type 0 where
      pub told : Told ends p s.promises
      pub fits : Each Fits es

    pub row-tells : (s : Slots) (e : Effect) (es : List Effect) → Tells s (e ∷ es) → Tells (row e s).slots ((row e s).caused ++ es)
    row-tells s e es k = record { told = row-told e s k.fits.0 k.told; fits = each-append Fits (row e s).caused es (caused-fit e s k.fits.0) k.fits.1 }

    pub call-tells : (s : Slots) (c : Call) → Meant s (begin c s).done.slots → Tells s [] → Tells (begin c s).done.slots (begin c s).done.caused
    call-tells s c m k = record { told = call-told c s k.told; fits = call-fits c s m }

    pub job-tells : (s z : Slots) (job : Job) → z.promises ≡ after_next_job s.promises → Tells s [] → Tells z (job_effects job)
    job-tells s z job e k = record { told = subst (Told ends p) (sym e) (next-told ends p s.promises k.told); fits = job-fits job }

    pub watch-tells : (s z : Slots) (q : PromiseId) → z.promises ≡ watch q s.promises → Tells s [] → Tells z []
    watch-tells s z q e k = record { told = subst (Told ends p) (sym e) (watch-told ends p q s.promises k.told); fits = tt }
