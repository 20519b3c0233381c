-- Where a write of a stream at the end of a port is that needs its chunk handed on: its effects stand at the front of the agenda, one after
-- another, but where it waits for the backpressure promise; and where its chunk couldn't be cloned, its promise is to be rejected.
use Rattle.std.proofs.Common.{◌≡◌, ◌≤◌, ⊎_elim, ℕ, zero, suc, Bool, true, false, ◌&&◌, nat_eq, List, [], ◌∷◌, ◌++◌, Option, Some, None, Result, Err, slice_get, refl, sym, subst, arith}
use Rattle.ws_value.specs.declared.ids.{PortId.{PortId}, PromiseId.{PromiseId}, StreamId.{StreamId}}
use Rattle.ws_value.specs.declared.value.Message.TheVariants.{Error as ErrorMessage}
use Rattle.ws_value.specs.declared.value.Plain.{Plain}
use Rattle.ws_steps.specs.declared.effects.{Effect.{Effect}, Gift.TheVariants.{This, Fresh}, Owner.TheVariants.{EndOf}, Use.TheVariants.{React, Resolve}}
use Rattle.ws_steps.specs.declared.effects.Effect.TheVariants.{Writable as OnWritable, Port as OnPort, WriteAlgorithm, Give, Settle as SettlePromise}
use Rattle.ws_steps.specs.declared.port.PortOperation.TheVariants.{Write as WriteByPort, WriteGoesOn}
use Rattle.ws_steps.specs.declared.promises.{Reaction.{Reaction}, Reaction.TheVariants.{Perform}, Step.{Step}}
use Rattle.ws_steps.specs.declared.promises.Step.TheVariants.{WritableWrite, PortUnblocked}
use Rattle.ws_steps.specs.declared.transform.Taker.TheVariants.{ToPort}
use Rattle.ws_steps.specs.declared.writable.{WritableOperation.{WritableOperation}, WritableOperation.TheVariants.{HandOn, WriteSettled}}
use Rattle.ws_steps.specs.Cross as cross
use Rattle.ws_steps.specs.Histories.{is_same}
use Rattle.ws_steps.specs.Promises.{use_gift, next_id, job_of, is_open, react}
use Rattle.ws_steps.specs.Slots.{Slots, owner_at, found, put_port, clones_at}
use Rattle.ws_steps.specs.Turns.{row}
use Rattle.ws_laws.proofs.Rows.{row-changes}
use Rattle.ws_laws.proofs.Tables.{is_same-refl}
use Rattle.ws_laws.proofs.Weights.{of_job}
use Rattle.ws_laws.proofs.WritableDoes.{IsHandOn}
use Rattle.ws_writable_laws.proofs.Agenda.{Elsewhere}
use Rattle.ws_writable_laws.proofs.Shape.{one_if, is_write, of_reaction}
use Rattle.ws_promise_laws.proofs.Realm.{Sound, in_ports}
use Rattle.ws_promise_laws.proofs.Tokens.{in_reaction, in_effects}
use Rattle.ws_transform_laws.proofs.PortPromises.{Doomed, doomed-changes, new-reacts, resolves-doomed}
use Rattle.ws_transform_laws.proofs.PortTurns.{place-set, post-effects, row-port-turns}
use Rattle.ws_transform_laws.proofs.Stages.{open-at, names-self, weigh-more, fails, write-fails, write-self, IsWriteSettled}
use Rattle.ws_transform_laws.proofs.Waiting.{Waits, Queued, waits-changes, queued-changes, queued-settle, waits-react, waits-weigh, queued-weigh}

-- the backpressure promise is open

pull-stands : (p : PromiseId) (ps : List cross.Slots) (k : ℕ) (x : cross.Slots) → slice_get ps k ≡ Some x → x.backpressure ≡ Some p → 1 ≤ in_ports p ps
pull-stands p [] k x e is = cc
pull-stands p (y ∷ ys) zero x e is = let at : y ≡ x = cc in let o = names-self p in rw (at, is) (omega (arith, o))
pull-stands p (y ∷ ys) (suc k) x e is = let n = pull-stands p ys k x e is in omega (arith, n)

pub pull-open : (f : PromiseId → ℕ) (c : PortId) (x : cross.Slots) (p : PromiseId) (s : Slots) → Sound f s → slice_get s.ports c.0 ≡ Some x → x.backpressure ≡ Some p → is_open p s.promises ≡ true
pull-open f c x p s k there is = let n = pull-stands p s.ports c.0 x there is in open-at f p s k (omega (arith, n))

-- the step by which the write that has promise d goes on, once there is no backpressure promise of port c
abbrev pub unblocks : PortId → PromiseId → Step → ℕ
unblocks c d (PortUnblocked u e) = one_if (nat_eq c.0 u.0 && nat_eq d.0 e.0)
unblocks c d _ = 0

unblocks-names : (c : PortId) (d : PromiseId) (r : Reaction) → of_reaction (unblocks c d) r ≤ in_reaction d r
unblocks-names c d r = grind arith

unblocks-job : (c : PortId) (d : PromiseId) (o : Result Plain Plain) (r : Reaction) → of_reaction (unblocks c d) r ≤ of_job (of_reaction (unblocks c d)) (job_of o r)
unblocks-job c d o r = grind arith

unblocks-self : (c : PortId) (d : PromiseId) → unblocks c d (PortUnblocked c d) ≡ 1
unblocks-self c d = grind arith

module _ (i : StreamId) (c : PortId) where
  abbrev pub unblocking : PromiseId → Reaction → ℕ
  unblocking d = of_reaction (unblocks c d)

  -- the write with promise d waits for the backpressure promise, or there is none
  pub data Token (d : PromiseId) (s : Slots) : Type 0 where
    AtPull : (x : cross.Slots) (p : PromiseId) → slice_get s.ports c.0 ≡ Some x → x.backpressure ≡ Some p → Waits (unblocking d) 1 p s.promises → Token d s
    InJobs : Queued (of_job (unblocking d)) 1 s.promises → Token d s

  -- its promise is open
  pub token-open : (f : PromiseId → ℕ) (d : PromiseId) (s : Slots) → Sound f s → Token d s → is_open d s.promises ≡ true
  token-open f d s k (AtPull x p there is w) =
      let a = waits-weigh (unblocking d) 1 p s.promises (pull-open f c x p s k there is) w in
      let b = weigh-more (unblocking d) (in_reaction d) (unblocks-names c d) s.promises in open-at f d s k (omega (arith, a, b))
  token-open f d s k (InJobs q) =
      let a = queued-weigh (of_job (unblocking d)) (unblocking d) 1 s.promises (λ j. omega arith) q in
      let b = weigh-more (unblocking d) (in_reaction d) (unblocks-names c d) s.promises in open-at f d s k (omega (arith, a, b))

  pub row-token : (f : PromiseId → ℕ) (d : PromiseId) (e : Effect) (s : Slots) → Sound f s → Token d s → Token d (row e s).slots
  row-token f d e s k (AtPull x p there is w) =
      let r = row-port-turns c e x p s there is in
      ⊎_elim
      (λ same. AtPull r.after p r.there same (row-changes (Waits (unblocking d) 1 p) (waits-changes (unblocking d) 1 p) e s w))
      (λ turned.
      InJobs (rw turned (queued-settle (unblocking d) (of_job (unblocking d)) 1 p cross.done s.promises (unblocks-job c d cross.done) (pull-open f c x p s k there is) w)))
      r.turned
  row-token f d e s k (InJobs q) = InJobs (row-changes (Queued (of_job (unblocking d)) 1) (queued-changes (of_job (unblocking d)) 1) e s q)

  abbrev pub hears : PromiseId → Effect
  hears d = Give (This d) (React (WritableWrite i) None)

  -- the write algorithm is to be performed; the port is to write; the write is to wait for the backpressure promise, or to go on in a job, and to
  -- hear of its own promise; to hear of that; it waits; it goes on; it is to wait once more; it is thrown; its chunk is to be handed on; where that can't be cloned, its
  -- promise is to be resolved with a rejected one; it is to be rejected; and the stream is to hear that the write failed
  pub data Stage (s : Slots) (es : List Effect) : Type 0 where
    Begins : (rest : List Effect) → es ≡ WriteAlgorithm i ∷ rest → Stage s es
    Posts : (rest : List Effect) → es ≡ OnPort c (WriteByPort (React (WritableWrite i) None)) ∷ rest → Stage s es
    Asks : (x : cross.Slots) (p d : PromiseId) (rest : List Effect) → slice_get s.ports c.0 ≡ Some x → x.backpressure ≡ Some p
        → es ≡ Give (This p) (React (PortUnblocked c d) None) ∷ hears d ∷ rest → Stage s es
    Free : (d : PromiseId) (rest : List Effect) → es ≡ Give (Fresh cross.done) (React (PortUnblocked c d) None) ∷ hears d ∷ rest → Stage s es
    Hears : (d : PromiseId) (rest : List Effect) → Token d s → es ≡ hears d ∷ rest → Stage s es
    Rests : (d : PromiseId) → Token d s → Waits (of_reaction (is_write i)) 1 d s.promises → Stage s es
    GoesOn : (d : PromiseId) (rest : List Effect) → Waits (of_reaction (is_write i)) 1 d s.promises → es ≡ OnPort c (WriteGoesOn d) ∷ rest → Stage s es
    Again : (x : cross.Slots) (p d : PromiseId) (rest : List Effect) → slice_get s.ports c.0 ≡ Some x → x.backpressure ≡ Some p → Waits (of_reaction (is_write i)) 1 d s.promises
        → es ≡ Give (This p) (React (PortUnblocked c d) None) ∷ rest → Stage s es
    Throws : (d : PromiseId) (e : Plain) (rest : List Effect) → Waits (of_reaction (is_write i)) 1 d s.promises → es ≡ SettlePromise d (Err e) ∷ rest → Stage s es
    Hands : (d : PromiseId) (rest : List Effect) → Waits (of_reaction (is_write i)) 1 d s.promises → es ≡ OnWritable i (HandOn (ToPort c d)) ∷ rest → Stage s es
    Refuses : (d : PromiseId) (e : Plain) (rest : List Effect) → Waits (of_reaction (is_write i)) 1 d s.promises → es ≡ Give (Fresh (Err e)) (Resolve d) ∷ rest → Stage s es
    IsDoomed : (d : PromiseId) → Doomed d s.promises → Waits (of_reaction (is_write i)) 1 d s.promises → Stage s es
    Failing : Queued (fails i) 1 s.promises → Stage s es
    Fails : (e : Plain) (rest : List Effect) → es ≡ OnWritable i (WriteSettled (Err e)) ∷ rest → Stage s es

  -- after the first effect
  abbrev pub After : Slots → List Effect → Type 0
  After s [] = Unit {0}
  After s (e ∷ es) = Stage (row e s).slots ((row e s).caused ++ es)

  module _ (s : Slots) where
    waits-on : (e : Effect) (d : PromiseId) → Waits (of_reaction (is_write i)) 1 d s.promises → Waits (of_reaction (is_write i)) 1 d (row e s).slots.promises
    waits-on e d w = row-changes (Waits (of_reaction (is_write i)) 1 d) (waits-changes (of_reaction (is_write i)) 1 d) e s w

    pub rests-on : (f : PromiseId → ℕ) (e : Effect) (es : List Effect) (d : PromiseId) → Sound f s → Token d s → Waits (of_reaction (is_write i)) 1 d s.promises → After s (e ∷ es)
    rests-on f e es d k tok w = Rests d (row-token f d e s k tok) (waits-on e d w)

    doomed-on : (e : Effect) (es : List Effect) (d : PromiseId) → Doomed d s.promises → Waits (of_reaction (is_write i)) 1 d s.promises → After s (e ∷ es)
    doomed-on e es d doom w = IsDoomed d (row-changes (Doomed d) (doomed-changes d) e s doom) (waits-on e d w)

    pub failing-on : (e : Effect) (es : List Effect) → Queued (fails i) 1 s.promises → After s (e ∷ es)
    failing-on e es q = Failing (row-changes (Queued (fails i) 1) (queued-changes (fails i) 1) e s q)

    begins-on : (rest : List Effect) → owner_at i s ≡ EndOf c → After s (WriteAlgorithm i ∷ rest)
    unfolding row
    begins-on rest owner = Posts rest (rw owner refl)

    posts-on : (x : cross.Slots) (rest : List Effect) → slice_get s.ports c.0 ≡ Some x → After s (OnPort c (WriteByPort (React (WritableWrite i) None)) ∷ rest)
    unfolding row cross.write
    posts-on x rest there = rw there (by x.backpressure refl)
      where
        a : cross.Acts
        a = record { slots = x; out = found s }

        b : cross.Acts
        b = cross.write c (React (WritableWrite i) None) a

        by : (o : Option PromiseId) → o ≡ x.backpressure → Stage (put_port c s b).slots (cross.wait_for o c (next_id s.promises) ∷ hears (next_id s.promises) ∷ rest)
        by None e = Free (next_id s.promises) rest refl
        by (Some p) e = Asks x p (next_id s.promises) rest (place-set s.ports c.0 x x there) (sym e) refl

    asks-on : (f : PromiseId → ℕ) (x : cross.Slots) (p d : PromiseId) (rest : List Effect) → Sound f s → slice_get s.ports c.0 ≡ Some x → x.backpressure ≡ Some p
        → After s (Give (This p) (React (PortUnblocked c d) None) ∷ hears d ∷ rest)
    unfolding row use_gift
    asks-on f x p d rest k there is =
        let w : Waits (unblocking d) 1 p (react p (Perform (PortUnblocked c d) None) s.promises) =
        rw (unblocks-self c d) at (waits-react (unblocking d) p (Perform (PortUnblocked c d) None) s.promises (pull-open f c x p s k there is)) in
        Hears d rest (AtPull x p there is w) refl

    free-on : (d : PromiseId) (rest : List Effect) → After s (Give (Fresh cross.done) (React (PortUnblocked c d) None) ∷ hears d ∷ rest)
    unfolding row
    free-on d rest =
        let q : Queued (of_job (unblocking d)) 1 (use_gift (Fresh cross.done) (React (PortUnblocked c d) None) s.promises) =
        rw (unblocks-self c d) at (new-reacts (of_job (unblocking d)) (PortUnblocked c d) None cross.done s.promises) in
        Hears d rest (InJobs q) refl

    hears-on : (f : PromiseId → ℕ) (d : PromiseId) (rest : List Effect) → Sound f s → Token d s → After s (hears d ∷ rest)
    unfolding row use_gift
    hears-on f d rest k tok =
        let w : Waits (of_reaction (is_write i)) 1 d (react d (Perform (WritableWrite i) None) s.promises) =
        rw (write-self i) at (waits-react (of_reaction (is_write i)) d (Perform (WritableWrite i) None) s.promises (token-open f d s k tok)) in
        Rests d (row-token f d (hears d) s k tok) w

    goes_by : (x : cross.Slots) (d : PromiseId) (rest : List Effect) (clones : Bool) (o : Option PromiseId) → x.stream ≡ i → o ≡ x.backpressure → slice_get s.ports c.0 ≡ Some x
        → let b = cross.go_on c clones d (record { slots = x; out = found s }) o in Waits (of_reaction (is_write i)) 1 d b.out.promises → Stage (put_port c s b).slots (b.out.effects ++ rest)
    goes_by x d rest true None at e there w = Hands d rest w (rw at refl)
    goes_by x d rest false None at e there w =
        let a : cross.Acts = cross.hold_back (record { slots = x; out = found s }) in
        let none : (cross.post c (ErrorMessage cross.data_clone) a).out.effects ≡ [] = post-effects c (ErrorMessage cross.data_clone) a in
        Refuses d cross.data_clone rest w (rw none refl)
    goes_by x d rest clones (Some p) at e there w = Again x p d rest (place-set s.ports c.0 x x there) (sym e) w refl

    goes-on : (x : cross.Slots) (d : PromiseId) (rest : List Effect) → slice_get s.ports c.0 ≡ Some x → x.stream ≡ i → Waits (of_reaction (is_write i)) 1 d s.promises → After s (OnPort c (WriteGoesOn d) ∷ rest)
    unfolding row cross.write_goes_on
    goes-on x d rest there at w = rw there (goes_by x d rest (clones_at x s) x.backpressure at refl there (rw there at (waits-on (OnPort c (WriteGoesOn d)) d w)))

    again-on : (f : PromiseId → ℕ) (x : cross.Slots) (p d : PromiseId) (rest : List Effect) → Sound f s → slice_get s.ports c.0 ≡ Some x → x.backpressure ≡ Some p → Waits (of_reaction (is_write i)) 1 d s.promises
        → After s (Give (This p) (React (PortUnblocked c d) None) ∷ rest)
    unfolding row use_gift
    again-on f x p d rest k there is v =
        let w : Waits (unblocking d) 1 p (react p (Perform (PortUnblocked c d) None) s.promises) =
        rw (unblocks-self c d) at (waits-react (unblocking d) p (Perform (PortUnblocked c d) None) s.promises (pull-open f c x p s k there is)) in
        Rests d (AtPull x p there is w) (waits-on (Give (This p) (React (PortUnblocked c d) None)) d v)

    refuses-on : (d : PromiseId) (e : Plain) (rest : List Effect) → is_open d s.promises ≡ true → Waits (of_reaction (is_write i)) 1 d s.promises → After s (Give (Fresh (Err e)) (Resolve d) ∷ rest)
    unfolding row
    refuses-on d e rest open_ w = IsDoomed d (resolves-doomed d e s.promises open_) (waits-on (Give (Fresh (Err e)) (Resolve d)) d w)

    throws-on : (d : PromiseId) (e : Plain) (rest : List Effect) → is_open d s.promises ≡ true → Waits (of_reaction (is_write i)) 1 d s.promises → After s (SettlePromise d (Err e) ∷ rest)
    unfolding row
    throws-on d e rest open_ w = Failing (queued-settle (of_reaction (is_write i)) (fails i) 1 d (Err e) s.promises (write-fails i e) open_ w)

    -- an effect that is no operation of the stream
    absurd_own : {A : Type 0} (e : Effect) (es : List Effect) (operation : WritableOperation) (rest : List Effect) → Elsewhere i e → e ∷ es ≡ OnWritable i operation ∷ rest → A
    absurd_own e es operation rest x eq =
        let is : e ≡ OnWritable i operation = cc in
        let no : is_same i i ≡ false = subst (Elsewhere i) is x in
        let yes = is_same-refl i in absurd (cc)

    pub other-on : (x : cross.Slots) (e : Effect) (es : List Effect) → Elsewhere i e → slice_get s.ports c.0 ≡ Some x → x.stream ≡ i → owner_at i s ≡ EndOf c → Sound (λ p. in_effects p (e ∷ es)) s
        → Stage s (e ∷ es) → After s (e ∷ es)
    other-on x e es else_ there at owner k (Begins rest eq) = subst (After s) (sym eq) (begins-on rest owner)
    other-on x e es else_ there at owner k (Posts rest eq) = subst (After s) (sym eq) (posts-on x rest there)
    other-on x e es else_ there at owner k (Asks y p d rest y_there is eq) = subst (After s) (sym eq) (asks-on (λ q. in_effects q (e ∷ es)) y p d rest k y_there is)
    other-on x e es else_ there at owner k (Free d rest eq) = subst (After s) (sym eq) (free-on d rest)
    other-on x e es else_ there at owner k (Hears d rest tok eq) = subst (After s) (sym eq) (hears-on (λ p. in_effects p (e ∷ es)) d rest k tok)
    other-on x e es else_ there at owner k (Rests d tok w) = rests-on (λ p. in_effects p (e ∷ es)) e es d k tok w
    other-on x e es else_ there at owner k (GoesOn d rest w eq) = subst (After s) (sym eq) (goes-on x d rest there at w)
    other-on x e es else_ there at owner k (Again y p d rest y_there is w eq) = subst (After s) (sym eq) (again-on (λ q. in_effects q (e ∷ es)) y p d rest k y_there is w)
    other-on x e es else_ there at owner k (Throws d r rest w eq) =
        let stands : 1 ≤ in_effects d (e ∷ es) = subst (λ (fs : List Effect). 1 ≤ in_effects d fs) (sym eq) (let n = names-self d in omega (arith, n)) in
        subst (After s) (sym eq) (throws-on d r rest (open-at (λ p. in_effects p (e ∷ es)) d s k (omega (arith, stands))) w)
    other-on x e es else_ there at owner k (Hands d rest w eq) = absurd_own e es _ rest else_ eq
    other-on x e es else_ there at owner k (Refuses d r rest w eq) =
        let stands : 1 ≤ in_effects d (e ∷ es) = subst (λ (fs : List Effect). 1 ≤ in_effects d fs) (sym eq) (let n = names-self d in omega (arith, n)) in
        subst (After s) (sym eq) (refuses-on d r rest (open-at (λ p. in_effects p (e ∷ es)) d s k (omega (arith, stands))) w)
    other-on x e es else_ there at owner k (IsDoomed d doom w) = doomed-on e es d doom w
    other-on x e es else_ there at owner k (Failing q) = failing-on e es q
    other-on x e es else_ there at owner k (Fails r rest eq) = absurd_own e es _ rest else_ eq

    -- the stages in which another operation of the stream may be performed
    pub own-on : (f : PromiseId → ℕ) (operation : WritableOperation) (es : List Effect) → (IsHandOn operation → ⊥) → (IsWriteSettled operation → ⊥) → Sound f s → Stage s (OnWritable i operation ∷ es) → After s (OnWritable i operation ∷ es)
    own-on f operation es u v k (Begins rest eq) = cc
    own-on f operation es u v k (Posts rest eq) = cc
    own-on f operation es u v k (Asks y p d rest there is eq) = cc
    own-on f operation es u v k (Free d rest eq) = cc
    own-on f operation es u v k (Hears d rest tok eq) = cc
    own-on f operation es u v k (Rests d tok w) = rests-on f (OnWritable i operation) es d k tok w
    own-on f operation es u v k (GoesOn d rest w eq) = cc
    own-on f operation es u v k (Again y p d rest there is w eq) = cc
    own-on f operation es u v k (Throws d r rest w eq) = cc
    own-on f operation es u v k (Hands d rest w eq) = let is : operation ≡ HandOn (ToPort c d) = cc in absurd (u (subst IsHandOn (sym is) tt))
    own-on f operation es u v k (Refuses d r rest w eq) = cc
    own-on f operation es u v k (IsDoomed d doom w) = doomed-on (OnWritable i operation) es d doom w
    own-on f operation es u v k (Failing q) = failing-on (OnWritable i operation) es q
    own-on f operation es u v k (Fails r rest eq) = let is : operation ≡ WriteSettled (Err r) = cc in absurd (v (subst IsWriteSettled (sym is) tt))
