-- Each branch of a tee gets each chunk that is handed to the branches, unless it was cancelled: where the closed promise of the tee's reader tells the
-- end of its source.
use Rattle.std.proofs.Common.{◌≡◌, inl, inr, ⊎_elim, ℕ, zero, suc, ◌+◌, ◌≤◌, Bool, true, false, ◌||◌, is_some, List, [], ◌∷◌, ◌++◌, length, map, Option, Some, None, slice_get, refl, sym, ap, subst, ◌∙◌, arith, length-append}
use Rattle.ws_value.specs.declared.ids.{StreamId.{StreamId}, TeeId.{TeeId}}
use Rattle.ws_value.specs.declared.value.{Value.{Value}}
use Rattle.ws_steps.specs.declared.calls.Call.{Call}
use Rattle.ws_steps.specs.declared.effects.{Effect.{Effect}, Effect.TheVariants.{Readable as OnReadable}, Owner.TheVariants.{BranchOf}}
use Rattle.ws_steps.specs.declared.promises.{Job.{Job}}
use Rattle.ws_steps.specs.declared.readable.{ReadableOperation.TheVariants.{Enqueue}, ReadableState.TheVariants.{Errored}, SizeBy.TheVariants.{Count}}
use Rattle.ws_steps.specs.declared.tee.{Half.{Half}, Half.TheVariants.{First, Second}, TeePhase.TheVariants.{Over}}
use Rattle.ws_steps.specs.Begun.{Begun}
use Rattle.ws_steps.specs.MakingCalls.{make_tee}
use Rattle.ws_steps.specs.PipeCalls.{add_port}
use Rattle.ws_steps.specs.Calls.{begin}
use Rattle.ws_steps.specs.Jobs.{job_effects}
use Rattle.ws_steps.specs.Promises.{next_id, fresh, next_job, after_next_job, watch}
use Rattle.ws_steps.specs.Readable as readable
use Rattle.ws_steps.specs.Readable.{can_close_or_enqueue}
use Rattle.ws_steps.specs.Run.{after_event}
use Rattle.ws_steps.specs.Slots.{Slots, Stream, ReadableStream, empty, with_promises, readable_at, as_readable}
use Rattle.ws_steps.specs.Tee as tee
use Rattle.ws_steps.specs.Tee.{reason_of}
use Rattle.ws_steps.specs.Turns.{row}
use Rattle.ws_laws.proofs.Begin.{begin-makes}
use Rattle.ws_laws.proofs.ByteHands.{sum_of}
use Rattle.ws_laws.proofs.EachCall.{each_call}
use Rattle.ws_laws.proofs.Halves.{get-stays, get-last, get-either}
use Rattle.ws_laws.proofs.Lists.{Each, each-append}
use Rattle.ws_laws.proofs.Apart.{row-tees}
use Rattle.ws_laws.proofs.Shapes.{TeeShape, ReadableOf, branch_of, tee_shape, map-there, row-tee_shapes}
use Rattle.ws_laws.proofs.Tables.{is_same-refl}
use Rattle.ws_laws.proofs.Walker.{Stays}
use Rattle.ws_tee_port_laws.proofs.tees.Enders.{NoEnd, call-none, job-none}
use Rattle.ws_tee_port_laws.proofs.tees.Fronts.{enq, any_hands, Followed, none-hands, shape}
use Rattle.ws_tee_port_laws.proofs.tees.Gifts.{Gifts, gifts-stays, gifts-heard, gifts-empty}
use Rattle.ws_tee_port_laws.proofs.tees.Hands.{some_tee, none_some}
use Rattle.ws_tee_port_laws.proofs.tees.OneRead.{One, of_effect, in_stream, held_of, may_have_of, may_have}
use Rattle.ws_tee_port_laws.proofs.tees.Opening.{IsEnding, Open, row-open}
use Rattle.ws_tee_port_laws.proofs.tees.Reasons.{NoHands, view, lost, lost-on, IsLostBy, IsOver, HasFailed}
use Rattle.ws_tee_port_laws.proofs.tees.Runs.{IsLost}
use Rattle.ws_tee_port_laws.proofs.tees.Starts.{IsMine, Starts, starts-stays, starts-heard, starts-empty}
use Rattle.ws_steps.specs.declared.port.Side.{Side}
use Rattle.ws_steps.specs.declared.port.Side.TheVariants.{Readable as ReadableSide, Writable as WritableSide}
use Rattle.ws_tee_port_laws.proofs.tees.Tied.{Tied, tied-stays, tied-empty}

none-map : {X Y : Type 0} (f : X → Y) (xs : List X) (n : ℕ) → slice_get xs n ≡ None → slice_get (map f xs) n ≡ None
none-map f [] n e = refl
none-map f (x ∷ xs) zero e = cc
none-map f (x ∷ xs) (suc n) e = none-map f xs n e

same-shape : (x y : TeeShape) → ◌≡◌ {A = Option TeeShape} (Some x) (Some y) → x ≡ y
same-shape x y e = cc

none-shape : {A : Type 0} (x : TeeShape) → ◌≡◌ {A = Option TeeShape} None (Some x) → A
none-shape x e = cc

module _ (t : TeeId) (half : Half) (b : StreamId) (E : Slots → List Effect → Type 0) (ending : IsEnding t E) where
  pub record Opens (s : Slots) (es : List Effect) : Type 0 where
    pub ended : E s es
    pub gifts : Gifts t s es
    pub starts : Starts t half b s es
    pub tied : Tied s
    pub takes : (x : tee.Slots) → slice_get s.tees t.0 ≡ Some x → branch_of half (tee_shape x) ≡ b → Open t half b s es x

  -- each effect

  is-mine : (s : Slots) → Tied s → (x : tee.Slots) → slice_get s.tees t.0 ≡ Some x → branch_of half (tee_shape x) ≡ b → IsMine t half b s
  is-mine s tied x there is w at = by w (sym at ∙ shape t half b s tied x there is)
    where
      by : (w : _) → ◌≡◌ {A = Option _} (Some w) (Some (ReadableOf (BranchOf t half))) → w ≡ ReadableOf (BranchOf t half)
      by w e = cc

  row-by : (s : Slots) (e : Effect) (es : List Effect) → Opens s (e ∷ es) → (o : Option tee.Slots) → slice_get s.tees t.0 ≡ o → (y : tee.Slots) → slice_get (row e s).slots.tees t.0 ≡ Some y
      → branch_of half (tee_shape y) ≡ b → Open t half b (row e s).slots ((row e s).caused ++ es) y
  row-by s e es k None at y now is =
      none-shape (tee_shape y)
      (sym (none-map tee_shape s.tees t.0 at) ∙ (sym (ap (λ (xs : List TeeShape). slice_get xs t.0) (row-tee_shapes e s)) ∙ map-there tee_shape (row e s).slots.tees t.0 y now))
  row-by s e es k (Some x) at y now is =
      let same : tee_shape x ≡ tee_shape y =
      same-shape (tee_shape x) (tee_shape y)
      (sym (map-there tee_shape s.tees t.0 x at) ∙ (sym (ap (λ (xs : List TeeShape). slice_get xs t.0) (row-tee_shapes e s)) ∙ map-there tee_shape (row e s).slots.tees t.0 y now)) in
      let before : branch_of half (tee_shape x) ≡ b = ap (branch_of half) same ∙ is in
      row-open t half b s k.tied x at before e es y now k.gifts (k.starts (is-mine s k.tied x at before)) (k.takes x at before)

  -- between effects

  lost-more : (x : tee.Slots) (es : List Effect) → lost t half b x [] ≡ true → lost t half b x es ≡ true
  lost-more x es l = by (is_some (reason_of half x)) _ l
    where
      by : (p q : Bool) → (p || false) ≡ true → (p || q) ≡ true
      by true q e = refl
      by false q e = cc

  still : (s z : Slots) (cs : List Effect) (x : tee.Slots) → (can_close_or_enqueue (readable_at b s) ≡ true → can_close_or_enqueue (readable_at b z) ≡ true)
      → ((readable_at x.source s).state ≡ Errored → (readable_at x.source z).state ≡ Errored) → Each (NoEnd t b) cs → Each (NoHands t) cs → Open t half b s [] x → Open t half b z cs x
  still s z cs x opens errs ends hands (inl k) = inl (opens k.0, ends)
  still s z cs x opens errs ends hands (inr (IsLostBy l)) = inr (IsLostBy (lost-more x cs l))
  still s z cs x opens errs ends hands (inr (IsOver o)) = inr (IsOver o)
  still s z cs x opens errs ends hands (inr (HasFailed f)) = inr (HasFailed (record { errored = errs f.errored; held = f.held; hands = hands }))

  -- calls

  call-hands : (c : Call) (s : Slots) → Each (NoHands t) (begin c s).done.caused
  call-hands c s = each_call (λ (z : Begun). Each (NoHands t) z.done.caused) c s (grind (arith, each-append))

  tee-stays : (c : Call) (s : Slots) (x : tee.Slots) → slice_get s.tees t.0 ≡ Some x → slice_get (begin c s).done.slots.tees t.0 ≡ Some x
  tee-stays c s x at = begin-makes (λ z. slice_get z.tees t.0 ≡ Some x) (record {
    promise = λ z k. k;
    locks = λ z ls k. k;
    hosts = λ z hs k. k;
    pipe = λ z source dest prevent signal promise k. k;
    signal = λ z k. k;
    transform = λ z kind i j change k. k;
    tee = λ z source first second cancel k. get-stays z.tees _ t.0 x k;
    port = λ z side stream backpressure k. k;
    readable = λ z owner mark size k. k;
    bytes = λ z mark auto k. k;
    byob_requests = λ z requests k. k;
    writable = λ z owner mark size k. k;
  }) c s at

  stream-stays : (i : StreamId) (c : Call) (s : Slots) (w : Stream) → slice_get s.streams i.0 ≡ Some w → slice_get (begin c s).done.slots.streams i.0 ≡ Some w
  stream-stays i c s w at = begin-makes (λ z. slice_get z.streams i.0 ≡ Some w) (record {
    promise = λ z k. k;
    locks = λ z ls k. k;
    hosts = λ z hs k. k;
    pipe = λ z source dest prevent signal promise k. k;
    signal = λ z k. k;
    transform = λ z kind i j change k. k;
    tee = λ z source first second cancel k. k;
    port = λ z side stream backpressure k. k;
    readable = λ z owner mark size k. get-stays z.streams _ i.0 w k;
    bytes = λ z mark auto k. get-stays z.streams _ i.0 w k;
    byob_requests = λ z requests k. k;
    writable = λ z owner mark size k. get-stays z.streams _ i.0 w k;
  }) c s at

  -- a stream that isn't there has neither errored, nor takes it chunks
  absent-open : {A : Type 0} (o : Option Stream) → o ≡ None → can_close_or_enqueue (as_readable o) ≡ true → A
  absent-open None e o = cc
  absent-open (Some w) e o = cc

  absent-erred : {A : Type 0} (o : Option Stream) → o ≡ None → (as_readable o).state ≡ Errored → A
  absent-erred None e o = cc
  absent-erred (Some w) e o = cc

  call-opens : (c : Call) (s : Slots) (o : Option Stream) → slice_get s.streams b.0 ≡ o → can_close_or_enqueue (readable_at b s) ≡ true → can_close_or_enqueue (readable_at b (begin c s).done.slots) ≡ true
  call-opens c s None e h = absent-open (slice_get s.streams b.0) e h
  call-opens c s (Some w) e h = rw (ap as_readable (stream-stays b c s w e ∙ sym e)) h

  call-errs : (i : StreamId) (c : Call) (s : Slots) (o : Option Stream) → slice_get s.streams i.0 ≡ o → (readable_at i s).state ≡ Errored → (readable_at i (begin c s).done.slots).state ≡ Errored
  call-errs i c s None e h = absent-erred (slice_get s.streams i.0) e h
  call-errs i c s (Some w) e h = rw (ap as_readable (stream-stays i c s w e ∙ sym e)) h

  abbrev IsNew : Begun → Type 0
  IsNew z = (x : tee.Slots) → slice_get z.done.slots.tees t.0 ≡ Some x → branch_of half (tee_shape x) ≡ b → (can_close_or_enqueue (readable_at b z.done.slots) ≡ true) × Each (NoEnd t b) z.done.caused

  module _ (s : Slots) (none : slice_get s.tees t.0 ≡ None) where
    gone : {A : Type 0} (x : tee.Slots) → slice_get s.tees t.0 ≡ Some x → A
    gone x e = none_some x (sym none ∙ e)

    abbrev First_new : Stream
    First_new = ReadableStream (readable.set_up (BranchOf (record { 0 = length s.tees }) First) 1 Count)

    abbrev Second_new : Stream
    Second_new = ReadableStream (readable.set_up (BranchOf (record { 0 = length s.tees }) Second) 1 Count)

    tee-new : (i : StreamId) → IsNew (make_tee i (record { 0 = length s.streams }) (record { 0 = length s.streams + 1 }) s)
    tee-new i x now is =
        let y : tee.Slots = tee.set_up i (record { 0 = length s.streams }) (record { 0 = length s.streams + 1 }) (next_id (fresh s.promises)) in
        let same : y ≡ x = ⊎_elim (λ old. gone x old) (λ new. new.1) (get-either s.tees y t.0 x now) in
        (fresh-branch half (subst (λ (z : tee.Slots). branch_of half (tee_shape z) ≡ b) (sym same) is), (refl, (refl, (refl, (refl, tt)))))
      where
        fresh-branch : (g : Half) → branch_of g (tee_shape (tee.set_up i (record { 0 = length s.streams }) (record { 0 = length s.streams + 1 }) (next_id (fresh s.promises)))) ≡ b
            → can_close_or_enqueue (as_readable (slice_get ((s.streams ++ First_new ∷ []) ++ Second_new ∷ []) b.0)) ≡ true
        fresh-branch First e =
            rw (← e)
            (ap (λ (o : Option Stream). can_close_or_enqueue (as_readable o)) (get-stays (s.streams ++ First_new ∷ []) (Second_new ∷ []) (length s.streams) First_new (get-last s.streams [] First_new)))
        fresh-branch Second e =
            rw (← e, ← length-append s.streams (First_new ∷ []))
            (ap (λ (o : Option Stream). can_close_or_enqueue (as_readable o)) (get-last (s.streams ++ First_new ∷ []) [] Second_new))

    port-tees : (s : Slots) (side : Side) → (add_port (record { 0 = length s.streams }) s side).tees ≡ s.tees
    port-tees s ReadableSide = refl
    port-tees s WritableSide = refl

    call-new : (c : Call) → IsNew (begin c s)
    call-new c = each_call IsNew c s (record {
      unchanged = λ reply x e. gone x e;
      rejected = λ fault x e. gone x e;
      make_readable = λ mark size start x e. gone x e;
      make_bytes = λ mark auto start x e. gone x e;
      make_writable = λ mark size start x e. gone x e;
      make_transform = λ kind m n start x e. gone x e;
      make_tee = λ i c is free untied. tee-new i;
      get_reader = λ i f x e. gone x e;
      get_byob = λ i is f x e. gone x e;
      get_writer = λ i f x e. gone x e;
      release_reader = λ l closed i f x e. gone x e;
      release_byob = λ l closed i f x e. gone x e;
      release_writer = λ l i w f g x e. gone x e;
      cancel = λ reason i x e. gone x e;
      read = λ l i closed f g x e. gone x e;
      read_into = λ l i closed room element least f g x e. gone x e;
      write = λ l v i f x e. gone x e;
      close = λ i x e. gone x e;
      abort = λ reason i f x e. gone x e;
      enqueue = λ i v f o can x e. gone x e;
      enqueue_half = λ i u v f o can x e. gone x e;
      enqueue_bytes = λ i bs f is some can x e. gone x e;
      finish = λ i x e. gone x e;
      finish_bytes = λ i f is can x e. gone x e;
      make_request = λ i reply is x e. gone x e;
      respond = λ q i bs f is can x e. gone x e;
      fail_readable = λ i reason x e. gone x e;
      fail_writable = λ i reason x e. gone x e;
      fail_half = λ u reason x e. gone x e;
      terminate = λ u x e. gone x e;
      pipe = λ source dest prevent signal f g l m x e. gone x e;
      make_signal = λ x e. gone x e;
      open_end = λ side x e. gone x (subst (λ (xs : List tee.Slots). slice_get xs t.0 ≡ Some x) (port-tees s side) e);
      send_readable = λ i there free x e. gone x e;
      send_writable = λ i there free x e. gone x e;
      deliver = λ p m f is x e. gone x e;
      trigger = λ a reason x e. gone x e;
      settle = λ h answer p f x e. gone x e;
    })

  call-by : (c : Call) (s : Slots) → Opens s [] → (o : Option tee.Slots) → slice_get s.tees t.0 ≡ o → (x : tee.Slots) → slice_get (begin c s).done.slots.tees t.0 ≡ Some x → branch_of half (tee_shape x) ≡ b
      → Open t half b (begin c s).done.slots (begin c s).done.caused x
  call-by c s k None at x now is = inl (call-new s at c x now is)
  call-by c s k (Some y) at x now is =
      let same : y ≡ x = some_tee y x (sym (tee-stays c s y at) ∙ now) in
      let mine : branch_of half (tee_shape y) ≡ b = subst (λ (z : tee.Slots). branch_of half (tee_shape z) ≡ b) (sym same) is in
      subst (λ (z : tee.Slots). Open t half b (begin c s).done.slots (begin c s).done.caused z) same
      (still s (begin c s).done.slots (begin c s).done.caused y (call-opens c s (slice_get s.streams b.0) refl) (call-errs y.source c s (slice_get s.streams y.source.0) refl)
      (call-none t half b s k.tied y at mine c) (call-hands c s) (k.takes y at mine))

  -- jobs

  job-hands : (job : Job) → Each (NoHands t) (job_effects job)
  job-hands job = grind (arith, each-append)

  job-by : (s : Slots) (job : Job) → next_job s.promises ≡ Some job → Opens s [] → (x : tee.Slots) → slice_get s.tees t.0 ≡ Some x → branch_of half (tee_shape x) ≡ b
      → Open t half b (with_promises (after_next_job s.promises) s) (job_effects job) x
  job-by s job e k x at is =
      ⊎_elim (λ none. still s (with_promises (after_next_job s.promises) s) (job_effects job) x (λ o. o) (λ h. h) none (job-hands job) (k.takes x at is))
      (λ j.
      let f = ending.rejected s j.0 j.1.0 x k.ended (e ∙ ap (λ (i : Job). Some i) j.1.1) at in
      inr (HasFailed (record { errored = f.0; held = f.1; hands = job-hands job })))
      (job-none t half b job)

  opens-stays : Stays Opens
  opens-stays = record {
    row = λ s e es k. record {
      ended = ending.goes.row s e es k.ended;
      gifts = (gifts-stays t).row s e es k.gifts;
      starts = (starts-stays t half b).row s e es k.starts;
      tied = tied-stays.row s e es k.tied;
      takes = row-by s e es k (slice_get s.tees t.0) refl;
    };
    call = λ s c k. record {
      ended = ending.goes.call s c k.ended;
      gifts = (gifts-stays t).call s c k.gifts;
      starts = (starts-stays t half b).call s c k.starts;
      tied = tied-stays.call s c k.tied;
      takes = call-by c s k (slice_get s.tees t.0) refl;
    };
    job = λ s job e k. record {
      ended = ending.goes.job s job e k.ended;
      gifts = (gifts-stays t).job s job e k.gifts;
      starts = (starts-stays t half b).job s job e k.starts;
      tied = tied-stays.job s job e k.tied;
      takes = job-by s job e k;
    };
    answered = λ s p k. record {
      ended = ending.goes.answered s p k.ended;
      gifts = (gifts-stays t).answered s p k.gifts;
      starts = (starts-stays t half b).answered s p k.starts;
      tied = k.tied;
      takes = λ x at is. still s (with_promises (watch p s.promises) s) [] x (λ o. o) (λ h. h) tt tt (k.takes x at is);
    };
    older = λ s k. record {
      ended = ending.goes.older s k.ended;
      gifts = (gifts-stays t).older s k.gifts;
      starts = (starts-stays t half b).older s k.starts;
      tied = k.tied;
      takes = λ x at is. still s (record s { age = s.age + 1 }) [] x (λ o. o) (λ h. h) tt tt (k.takes x at is);
    };
  }

  opens-heard : (s : Slots) → Opens s [] → Opens (after_event s) []
  opens-heard s k = record {
    ended = ending.rests s k.ended;
    gifts = gifts-heard t s k.gifts;
    starts = starts-heard t half b s k.starts;
    tied = k.tied;
    takes = λ x at is. still s (after_event s) [] x (λ o. o) (λ h. h) tt tt (k.takes x at is);
  }

  opens-empty : Opens empty []
  opens-empty = record { ended = ending.begins; gifts = gifts-empty t; starts = starts-empty t half b; tied = tied-empty; takes = λ x e. cc }

  -- a chunk that is handed to the branch enters it, or it is lost for it

  none-any : (es : List Effect) → Each (NoHands t) es → any_hands t es ≡ false
  none-any [] n = refl
  none-any (e ∷ es) n = rw (n.0) (none-any es n.1)

  following : (v : Value) (es : List Effect) → Followed t b (OnReadable b (Enqueue v) ∷ es) → any_hands t es ≡ true
  following v es f = by (any_hands t es) f.0
    where
      own : enq b (OnReadable b (Enqueue v)) ≡ v ∷ []
      own = rw (is_same-refl b) refl

      by : (h : Bool) → (h ≡ false → enq b (OnReadable b (Enqueue v)) ≡ []) → h ≡ true
      by true f = refl
      by false f = let wrong : v ∷ [] ≡ [] = sym own ∙ f refl in cc

  over-none : (s : Slots) (e : Effect) (es : List Effect) (x : tee.Slots) → slice_get s.tees t.0 ≡ Some x → x.phase ≡ Over → One t s (e ∷ es) → sum_of (of_effect t) es ≡ 0
  over-none s e es x at o one =
      let k : sum_of (in_stream t) s.streams + (of_effect t e + sum_of (of_effect t) es) + held_of (Some x) ≤ may_have x.phase =
      subst (λ (p : Option tee.Slots). sum_of (in_stream t) s.streams + (of_effect t e + sum_of (of_effect t) es) + held_of p ≤ may_have_of p) at one in
      let m : may_have x.phase ≡ 0 = ap may_have o in
      omega (arith, k, m)

  refused-by : (s : Slots) (v : Value) (es : List Effect) (x : tee.Slots) → Opens s (OnReadable b (Enqueue v) ∷ es) → One t s (OnReadable b (Enqueue v) ∷ es) → Followed t b (OnReadable b (Enqueue v) ∷ es)
      → slice_get s.tees t.0 ≡ Some x → branch_of half (tee_shape x) ≡ b → can_close_or_enqueue (readable_at b s) ≡ false → Open t half b s (OnReadable b (Enqueue v) ∷ es) x
      → lost t half b x ((row (OnReadable b (Enqueue v)) s).caused ++ es) ≡ true
  refused-by s v es x k one f at is cannot (inl o) = let wrong : true ≡ false = sym (o.0) ∙ cannot in cc
  refused-by s v es x k one f at is cannot (inr (IsLostBy l)) =
      let now : slice_get (row (OnReadable b (Enqueue v)) s).slots.tees t.0 ≡ Some x = ap (λ (xs : List tee.Slots). slice_get xs t.0) (row-tees (OnReadable b (Enqueue v)) s tt) ∙ at in
      lost-on t half b s k.tied x at is (OnReadable b (Enqueue v)) es x (view t s (OnReadable b (Enqueue v)) x x at now) l
  refused-by s v es x k one f at is cannot (inr (IsOver o)) =
      let wrong : true ≡ false = sym (following v es f) ∙ none-hands t es (over-none s (OnReadable b (Enqueue v)) es x at o one) in cc
  refused-by s v es x k one f at is cannot (inr (HasFailed g)) = let wrong : true ≡ false = sym (following v es f) ∙ none-any es g.hands.1 in cc

  pub losing : IsLost t half b (lost t half b) Opens
  losing = record {
    goes = opens-stays;
    rests = opens-heard;
    begins = opens-empty;
    more = lost-more;
    stays = λ s e es x y k tied one at is now l. lost-on t half b s tied x at is e es y (view t s e x y at now) l;
    refused = λ s v es x k tied one followed at is cannot. refused-by s v es x k one followed at is cannot (k.takes x at is);
  }
