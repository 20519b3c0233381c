-- A chunk that is handed on to a port finds it entangled, in every run.
use Rattle.std.proofs.Common.{◌≡◌, ℕ, ◌+◌, ◌≤◌, zero, suc, Bool, true, false, nat_eq, List, [], ◌∷◌, ◌++◌, Option, Some, None, ◌⊎◌, inl, inr, ⊎_elim, slice_get, refl, sym, ap, ◌∙◌, subst, arith}
use Rattle.ws_laws.proofs.Weights as weights
use Rattle.ws_laws.proofs.Tables.{unequal_numbers}
use Rattle.ws_writable_laws.proofs.Agenda.{same_or}
use Rattle.ws_steps.proofs.PromiseLaws.{slice_get-set_other}
use Rattle.ws_laws.proofs.Ended.{PortShape, port_shape, port_shapes, end_shape, Ended}
use Rattle.ws_laws.proofs.Lists.{Each, each-append, each-map}
use Rattle.ws_laws.proofs.Shapes.{WritableOf, stream_shape, stream_shapes, map-there}
use Rattle.ws_laws.proofs.Tables.{eq_numbers}
use Rattle.ws_steps.specs.Cross as cross
use Rattle.ws_steps.specs.Cross.{post, data_clone}
use Rattle.ws_steps.specs.Histories.{is_same}
use Rattle.ws_steps.specs.Operations.{port_operation}
use Rattle.ws_steps.specs.Slots.{Slots, Stream, ReadableStream, ByteStream, WritableStream, found, has_writable, is_writable_stream, owner_of, owner_at, on_port_at, clones_at}
use Rattle.ws_steps.specs.Turns.{row}
use Rattle.ws_steps.specs.Writable as writable
use Rattle.ws_steps.specs.declared.effects.Effect.TheVariants.{Writable as OnWritable, Port as OnPort, CancelAlgorithm, WriteAlgorithm, CloseAlgorithm, AbortAlgorithm}
use Rattle.ws_steps.specs.declared.effects.Effect.{Effect}
use Rattle.ws_steps.specs.declared.effects.{Owner.TheVariants.{EndOf}}
use Rattle.ws_steps.specs.declared.port.PortOperation.TheVariants as ports
use Rattle.ws_steps.specs.declared.port.{PortOperation.{PortOperation}, Side.{Side}, Side.TheVariants.{Readable as ReadableSide, Writable as WritableSide}}
use Rattle.ws_steps.specs.declared.writable.WritableOperation.TheVariants as writes
use Rattle.ws_transform_laws.proofs.PortAsked.{unblocking}
use Rattle.ws_value.specs.declared.ids.{PortId.{PortId}, PromiseId.{PromiseId}, StreamId.{StreamId}}
use Rattle.ws_value.specs.declared.value.{Value.{Value}}
use Rattle.ws_writable_laws.proofs.Shape.{all, all-append, leads_to}
use Rattle.ws_steps.specs.declared.calls.Call.{Call}
use Rattle.ws_steps.specs.declared.promises.{Job.{Job}}
use Rattle.ws_steps.specs.Begun.{Begun}
use Rattle.ws_steps.specs.Calls.{begin}
use Rattle.ws_steps.specs.PipeCalls as pipe_calls
use Rattle.ws_steps.specs.Jobs.{job_effects}
use Rattle.ws_steps.specs.Promises.{next_job, after_next_job, watch}
use Rattle.ws_steps.specs.Run.{older, after_event}
use Rattle.ws_steps.specs.Slots.{empty, as_writable, with_promises, found}
use Rattle.ws_steps.specs.Writable.{has_ended}
use Rattle.ws_steps.specs.WritableHistory.{Writes, no_writes, writes_then, effect_writes}
use Rattle.ws_laws.proofs.Begin.{begin-makes}
use Rattle.ws_laws.proofs.EachCall.{each_call}
use Rattle.ws_laws.proofs.Halves.{get-stays}
use Rattle.ws_laws.proofs.Apart.{row-ports}
use Rattle.ws_laws.proofs.Shapes.{row-owner}
use Rattle.ws_laws.proofs.Ended.{row-port_shapes}
use Rattle.ws_laws.proofs.Walker.{GoesUntold, RestsUntold}
use Rattle.ws_laws.proofs.Weights.{weigh-fresh, weigh-settle, weigh-answer, weigh-micro, weigh-next, weigh-watch, taken_off, of_next}
use Rattle.ws_writable_laws.proofs.Shape.{weight, of_reaction}
use Rattle.ws_transform_laws.proofs.Halving.{map-from, writable-shape}
use Rattle.ws_transform_laws.proofs.Lawful.{row-has}
use Rattle.ws_transform_laws.proofs.PortAsked.{asks}
use Rattle.ws_transform_laws.proofs.PortCounts.{extra, NotLate, Suits, Free, free-extra, NotOwn}
use Rattle.ws_transform_laws.proofs.PortHalving.{PortGoing, port-going, port-going-rests, none-port-going}
use Rattle.ws_transform_laws.proofs.PortFacts.{After, Done_so, Facts, Here, OnlyGives, calm-none, count, free-facts, free-late, free-suits, late-heads, only-row, unb, w, weight-row, zero-only}
use Rattle.ws_transform_laws.proofs.PortActs.{Acted, abort-facts, close-facts, end-facts, goes-facts, performed, quiet-facts, self, waits-facts, write-facts}
use Rattle.ws_transform_laws.proofs.PortWrites.{own-facts}

module _ (i : StreamId) (c : PortId) where
  -- each effect

  pub record PortLiving (h : Writes) (s : Slots) (es : List Effect) : Type 0 where
    pub going : PortGoing i c h s es
    pub only : Each (OnlyGives i c) es
    pub unmade : slice_get s.ports c.0 ≡ None → weight (unblocking c) s.promises ≡ 0
    pub none : slice_get s.ports c.0 ≡ None → unb i c es ≡ 0
    pub facts : owner_at i s ≡ EndOf c → has_writable i s ≡ true → (x : cross.Slots) → slice_get s.ports c.0 ≡ Some x → Facts i c h s es x

  one_slot : (x y : cross.Slots) → Some x ≡ Some y → x ≡ y
  one_slot x y e = cc

  others-stay : (d : PortId) (operation : PortOperation) (s : Slots) → nat_eq c.0 d.0 ≡ false → slice_get (row (OnPort d operation) s).slots.ports c.0 ≡ slice_get s.ports c.0
  unfolding row
  others-stay d operation s n = by (slice_get s.ports d.0)
    where
      by : (o : Option cross.Slots) → slice_get (on_port_at (λ clones. port_operation d clones operation) d s o).slots.ports c.0 ≡ slice_get s.ports c.0
      by None = refl
      by (Some y) = slice_get-set_other s.ports d.0 c.0 (port_operation d (clones_at y s) operation (record { slots = y; out = found s })).slots (λ e. unequal_numbers c.0 d.0 n (sym e))

  other-asks : (d : PortId) (operation : PortOperation) → nat_eq c.0 d.0 ≡ false → asks c (OnPort d operation) ≡ false
  other-asks d (ports.Write u) n = n
  other-asks d (ports.WriteGoesOn p) n = n
  other-asks d operation n = refl

  other-own : (d : PortId) (operation : PortOperation) → nat_eq c.0 d.0 ≡ false → NotOwn i c (OnPort d operation)
  other-own d (ports.Write u) n = n
  other-own d (ports.WriteGoesOn p) n = n
  other-own d operation n = tt

  abbrev pub At : Slots → Effect → cross.Slots → Type 0
  At s e y = slice_get (row e s).slots.ports c.0 ≡ Some y

  operation-facts : (h : Writes) (s : Slots) (operation : PortOperation) (es : List Effect) (x : cross.Slots) → Here i c h s (OnPort c operation) es x → After i c h s (OnPort c operation) es (Acted i c s x operation).slots
  operation-facts h s (ports.Write u) es x k = waits-facts i c h s u es x k
  operation-facts h s (ports.WriteGoesOn d) es x k = goes-facts i c h s d es x k
  operation-facts h s (ports.Leave r u) es x k = end-facts i c h s (ports.Leave r u) es x (Acted i c s x (ports.Leave r u)).slots tt k
  operation-facts h s (ports.Close u) es x k = end-facts i c h s (ports.Close u) es x (Acted i c s x (ports.Close u)).slots tt k
  operation-facts h s operation es x k = quiet-facts i c h s operation es x tt k

  ported-facts : (h : Writes) (s : Slots) (operation : PortOperation) (es : List Effect) (x y : cross.Slots) → Here i c h s (OnPort c operation) es x → At s (OnPort c operation) y → After i c h s (OnPort c operation) es y
  ported-facts h s operation es x y k at =
      let p = performed i c s x operation k.at in
      subst (After i c h s (OnPort c operation) es) (one_slot (Acted i c s x operation).slots y (sym p.slot ∙ at)) (operation-facts h s operation es x k)

  -- an effect of no port leaves it
  same-port : (s : Slots) (e : Effect) (x y : cross.Slots) → (row e s).slots.ports ≡ s.ports → slice_get s.ports c.0 ≡ Some x → At s e y → x ≡ y
  same-port s e x y same at is = one_slot x y (sym at ∙ (ap (λ (ps : List cross.Slots). slice_get ps c.0) (sym same) ∙ is))

  same-live : (s : Slots) (e : Effect) (x y : cross.Slots) → (row e s).slots.ports ≡ s.ports → slice_get s.ports c.0 ≡ Some x → At s e y → y.live ≡ x.live
  same-live s e x y same at is = ap (λ (z : cross.Slots). z.live) (sym (same-port s e x y same at is))

  effect-facts : (h : Writes) (s : Slots) (e : Effect) (es : List Effect) (x y : cross.Slots) → Here i c h s e es x → At s e y → After i c h s e es y
  effect-facts h s (OnWritable j operation) es x y k at =
      same_or (λ l. Here i c h s (OnWritable l operation) es x → At s (OnWritable l operation) y → After i c h s (OnWritable l operation) es y) i j (is_same i j) refl
      (λ n k at. free-facts i c h s (OnWritable j operation) es x y k n n refl tt (same-live s (OnWritable j operation) x y (row-ports (OnWritable j operation) s tt) k.at at))
      (λ k at. subst (After i c h s (OnWritable i operation) es) (same-port s (OnWritable i operation) x y (row-ports (OnWritable i operation) s tt) k.at at) (own-facts i c h s operation es x k)) k at
  effect-facts h s (WriteAlgorithm j) es x y k at =
      same_or (λ l. Here i c h s (WriteAlgorithm l) es x → At s (WriteAlgorithm l) y → After i c h s (WriteAlgorithm l) es y) i j (is_same i j) refl
      (λ n k at. free-facts i c h s (WriteAlgorithm j) es x y k tt n refl tt (same-live s (WriteAlgorithm j) x y (row-ports (WriteAlgorithm j) s tt) k.at at))
      (λ k at. subst (After i c h s (WriteAlgorithm i) es) (same-port s (WriteAlgorithm i) x y (row-ports (WriteAlgorithm i) s tt) k.at at) (write-facts i c h s es x k)) k at
  effect-facts h s (CloseAlgorithm j) es x y k at =
      same_or (λ l. Here i c h s (CloseAlgorithm l) es x → At s (CloseAlgorithm l) y → After i c h s (CloseAlgorithm l) es y) i j (is_same i j) refl
      (λ n k at. free-facts i c h s (CloseAlgorithm j) es x y k tt n refl tt (same-live s (CloseAlgorithm j) x y (row-ports (CloseAlgorithm j) s tt) k.at at))
      (λ k at. close-facts i c h s es x y k) k at
  effect-facts h s (AbortAlgorithm j r p) es x y k at =
      same_or (λ l. Here i c h s (AbortAlgorithm l r p) es x → At s (AbortAlgorithm l r p) y → After i c h s (AbortAlgorithm l r p) es y) i j (is_same i j) refl
      (λ n k at. free-facts i c h s (AbortAlgorithm j r p) es x y k tt n refl tt (same-live s (AbortAlgorithm j r p) x y (row-ports (AbortAlgorithm j r p) s tt) k.at at))
      (λ k at. abort-facts i c h s r p es x y k) k at
  effect-facts h s (CancelAlgorithm j r p) es x y k at =
      free-facts i c h s (CancelAlgorithm j r p) es x y k tt tt refl k.facts.heads.0 (same-live s (CancelAlgorithm j r p) x y (row-ports (CancelAlgorithm j r p) s tt) k.at at)
  effect-facts h s (OnPort d operation) es x y k at = by (nat_eq c.0 d.0) refl k at
    where
      by : (b : Bool) → b ≡ nat_eq c.0 d.0 → Here i c h s (OnPort d operation) es x → At s (OnPort d operation) y → After i c h s (OnPort d operation) es y
      by true e =
          let is : c ≡ d = ap (λ (n : ℕ). record { 0 = n }) (eq_numbers c.0 d.0 (sym e)) in
          subst (λ (u : PortId). Here i c h s (OnPort u operation) es x → At s (OnPort u operation) y → After i c h s (OnPort u operation) es y) is (λ k at. ported-facts h s operation es x y k at)
      by false e = λ k at.
          let same = one_slot x y (sym k.at ∙ (sym (others-stay d operation s (sym e)) ∙ at)) in
          free-facts i c h s (OnPort d operation) es x y k tt (other-own d operation (sym e)) (other-asks d operation (sym e)) tt (ap (λ (z : cross.Slots). z.live) (sym same))
  effect-facts h s e es x y k at = free-facts i c h s e es x y k tt tt refl tt (same-live s e x y (row-ports e s tt) k.at at)

  -- ports stay

  shape-stays : (s z : Slots) (x : cross.Slots) → port_shapes z ≡ port_shapes s → slice_get z.ports c.0 ≡ Some x → (y : cross.Slots) × (slice_get s.ports c.0 ≡ Some y)
  shape-stays s z x same at =
      let m = map-from port_shape s.ports c.0 (port_shape x) (ap (λ (ps : List PortShape). slice_get ps c.0) (sym same) ∙ map-there port_shape z.ports c.0 x at) in
      (m.0, m.1.0)

  none-stays : (s z : Slots) → port_shapes z ≡ port_shapes s → slice_get z.ports c.0 ≡ None → slice_get s.ports c.0 ≡ None
  none-stays s z same n = by (slice_get s.ports c.0) refl
    where
      by : (o : Option cross.Slots) → o ≡ slice_get s.ports c.0 → slice_get s.ports c.0 ≡ None
      by None e = sym e
      by (Some x) e =
          let m = shape-stays z s x (sym same) (sym e) in
          let no : ◌≡◌ {A = Option cross.Slots} None (Some m.0) = sym n ∙ m.1 in cc

  absent-none : (s : Slots) (operation : PortOperation) → slice_get s.ports c.0 ≡ None → (row (OnPort c operation) s).caused ≡ []
  unfolding row
  absent-none s operation n = rw n refl

  none-calm : (s : Slots) (e : Effect) → OnlyGives i c e → slice_get s.ports c.0 ≡ None → unb i c (row e s).caused ≡ 0
  none-calm s (OnPort d operation) k n = by (nat_eq c.0 d.0) refl k
    where
      by : (b : Bool) → b ≡ nat_eq c.0 d.0 → OnlyGives i c (OnPort d operation) → unb i c (row (OnPort d operation) s).caused ≡ 0
      by true e =
          let is : c ≡ d = ap (λ (n : ℕ). record { 0 = n }) (eq_numbers c.0 d.0 (sym e)) in
          subst (λ (u : PortId). OnlyGives i c (OnPort u operation) → unb i c (row (OnPort u operation) s).caused ≡ 0) is (λ k. rw (absent-none s operation n) refl)
      by false e = λ k. calm-none i c (OnPort d operation) s (other-asks d operation (sym e)) k
  none-calm s e k n = calm-none i c e s refl k

  row-living : (h : Writes) (s : Slots) (e : Effect) (es : List Effect) → PortLiving h s (e ∷ es) → PortLiving (writes_then h (effect_writes i e s)) (row e s).slots ((row e s).caused ++ es)
  row-living h s e es g = record {
    going = (port-going i c).row h s e es g.going;
    only = each-append (OnlyGives i c) (row e s).caused es (only-row i c e s g.only.0) g.only.1;
    unmade = λ n.
        let was = none-stays s (row e s).slots (row-port_shapes e s) n in
        let a = g.unmade was in
        let b = g.none was in
        let p = weight-row i c e s in
        omega (arith, a, b, p);
    none = λ n.
        let was = none-stays s (row e s).slots (row-port_shapes e s) n in
        let b = g.none was in
        let u = none-calm s e g.only.0 was in
        let au = all-append (leads_to (unblocking c)) (row e s).caused es in
        omega (arith, b, u, au);
    facts = λ owner there y at.
        let o : owner_at i s ≡ EndOf c = sym (row-owner i e s) ∙ owner in
        let th : has_writable i s ≡ true = sym (row-has i e s) ∙ there in
        let x = shape-stays s (row e s).slots y (row-port_shapes e s) at in
        effect-facts h s e es x.0 y (record { going = g.going; only = g.only; owner = o; there = th; at = x.1; facts = g.facts o th x.0 x.1 }) at;
  }

  -- calls and jobs

  -- what they cause
  abbrev IsFirst : Effect → Type 0
  IsFirst (OnPort d (ports.Deliver m)) = Unit {0}
  IsFirst (OnPort d operation) = ⊥
  IsFirst (OnWritable j (writes.HandOn taker)) = ⊥
  IsFirst (CancelAlgorithm j r p) = ⊥
  IsFirst (WriteAlgorithm j) = ⊥
  IsFirst e = Unit {0}

  first-free : (e : Effect) → IsFirst e → Free i c e
  first-free (OnPort d (ports.Deliver m)) k = record { extra = refl; late = tt; suits = tt }
  first-free (OnPort d operation) k = absurd k
  first-free (OnWritable j (writes.HandOn taker)) k = absurd k
  first-free (CancelAlgorithm j r p) k = absurd k
  first-free (WriteAlgorithm j) k = absurd k
  first-free e k = record { extra = grind (arith, k); late = grind (arith, k); suits = grind (arith, k) }

  call-first : (call : Call) (s : Slots) → Each IsFirst (begin call s).done.caused
  call-first call s = each_call (λ (b : Begun). Each IsFirst b.done.caused) call s (grind arith)

  call-calm : (call : Call) (s : Slots) → unb i c (begin call s).done.caused ≡ 0
  call-calm call s = each_call (λ (b : Begun). unb i c b.done.caused ≡ 0) call s (grind arith)

  call-weighs : (call : Call) (s : Slots) → weight (unblocking c) (begin call s).done.slots.promises ≤ weight (unblocking c) s.promises
  call-weighs call s =
      let n : ℕ = weight (unblocking c) s.promises in
      begin-makes (λ (z : Slots). weight (unblocking c) z.promises ≤ n) (record {
        promise = λ z k. let f = weigh-fresh (of_reaction (unblocking c)) z.promises in omega (arith, f, k);
        locks = λ z ls k. k;
        hosts = λ z hs k. k;
        pipe = λ z source dest prevent signal promise k. k;
        signal = λ z k. k;
        transform = λ z kind w r change k. k;
        tee = λ z source first second cancel k. k;
        port = λ z side stream backpressure k. k;
        bytes = λ z mark auto k. k;
        byob_requests = λ z hs k. k;
        readable = λ z o mark size k. k;
        writable = λ z o mark size k. k;
      }) call s (omega arith)

  call-stream : (call : Call) (s : Slots) (x : Stream) → slice_get s.streams i.0 ≡ Some x → slice_get (begin call s).done.slots.streams i.0 ≡ Some x
  call-stream call s x at =
      begin-makes (λ (z : Slots). slice_get z.streams i.0 ≡ Some x) (record {
        promise = λ z k. k;
        locks = λ z ls k. k;
        hosts = λ z hs k. k;
        pipe = λ z source dest prevent signal promise k. k;
        signal = λ z k. k;
        transform = λ z kind w r change k. k;
        tee = λ z source first second cancel k. k;
        port = λ z side stream backpressure k. k;
        bytes = λ z mark auto k. get-stays z.streams _ i.0 x k;
        byob_requests = λ z hs k. k;
        readable = λ z o mark size k. get-stays z.streams _ i.0 x k;
        writable = λ z o mark size k. get-stays z.streams _ i.0 x k;
      }) call s at

  -- the ports after a call: none is new, or one is, which is entangled
  abbrev PortsNow : Slots → Slots → Type 0
  PortsNow s z = (z.ports ≡ s.ports) ⊎ ((x : cross.Slots) × ((z.ports ≡ s.ports ++ x ∷ []) × (x.live ≡ true)))

  port-added : (side : Side) (j : StreamId) (s : Slots) → PortsNow s (pipe_calls.add_port j s side)
  port-added ReadableSide j s = inr (_, (refl, refl))
  port-added WritableSide j s = inr (_, (refl, refl))

  call-ports : (call : Call) (s : Slots) → PortsNow s (begin call s).done.slots
  call-ports call s = each_call (λ (b : Begun). PortsNow s b.done.slots) call s (record {
    unchanged = λ reply. inl refl;
    rejected = λ fault. inl refl;
    make_readable = λ mark size start. inl refl;
    make_bytes = λ mark auto start. inl refl;
    get_byob = λ i is e. inl refl;
    release_byob = λ l closed i e. inl refl;
    read_into = λ l i closed room element least e f. inl refl;
    enqueue_bytes = λ i b e is some can. inl refl;
    finish_bytes = λ i e is can. inl refl;
    make_request = λ i reply is. inl refl;
    respond = λ q i b e is can. inl refl;
    make_writable = λ mark size start. inl refl;
    make_transform = λ kind m n start. inl refl;
    make_tee = λ i e is free untied. inl refl;
    get_reader = λ i e. inl refl;
    get_writer = λ i e. inl refl;
    release_reader = λ l closed i e. inl refl;
    release_writer = λ l i w e f. inl refl;
    cancel = λ reason i. inl refl;
    read = λ l i closed e f. inl refl;
    write = λ l v i e. inl refl;
    close = λ i. inl refl;
    abort = λ reason i e. inl refl;
    enqueue = λ i v e o can. inl refl;
    enqueue_half = λ i a v e o can. inl refl;
    finish = λ i. inl refl;
    fail_readable = λ i reason. inl refl;
    fail_writable = λ i reason. inl refl;
    fail_half = λ a reason. inl refl;
    terminate = λ a. inl refl;
    pipe = λ source dest prevent signal e f l m. inl refl;
    make_signal = inl refl;
    open_end = λ side. port-added side _ s;
    send_readable = λ i there free. port-added WritableSide _ s;
    send_writable = λ i there free. port-added ReadableSide _ s;
    deliver = λ p m e is. inl refl;
    trigger = λ a reason. inl refl;
    settle = λ a answer p e. inl refl;
  })

  last-place : (xs : List cross.Slots) (y : cross.Slots) (n : ℕ) → (slice_get (xs ++ y ∷ []) n ≡ slice_get xs n) ⊎ ((slice_get xs n ≡ None) × (slice_get (xs ++ y ∷ []) n ≡ Some y))
  last-place [] y zero = inr (refl, refl)
  last-place [] y (suc n) = inl refl
  last-place (x ∷ xs) y zero = inl refl
  last-place (x ∷ xs) y (suc n) = last-place xs y n

  -- the port is as before, or it is new
  port-before : (s z : Slots) (y : cross.Slots) → PortsNow s z → slice_get z.ports c.0 ≡ Some y → (slice_get s.ports c.0 ≡ Some y) ⊎ ((slice_get s.ports c.0 ≡ None) × (y.live ≡ true))
  port-before s z y (inl e) at = inl (rw e at at)
  port-before s z y (inr (x, (e, live))) at =
      let is : slice_get (s.ports ++ x ∷ []) c.0 ≡ Some y = rw e at at in
      ⊎_elim (λ same. inl (sym same ∙ is)) (λ made. inr (made.0, subst (λ (v : cross.Slots). v.live ≡ true) (one_slot x y (sym made.1 ∙ is)) live)) (last-place s.ports x c.0)

  -- what goes on where the stream and the port are as before
  same-facts : (h : Writes) (s z : Slots) (es : List Effect) (x : cross.Slots) → w i c z ≡ w i c s → count i c z es ≤ weight (unblocking c) s.promises → Each (NotLate i c) es → Each (Suits i c) es → Facts i c h s [] x → Facts i c h z es x
  same-facts h s z es x same less late suits k = record {
    few = ⊎_elim (λ d. inl (done d)) (λ f. inr (rw same (omega (arith, less, f)))) k.few;
    dead = λ n. ⊎_elim (λ d. inl (done d)) (λ f. inr (rw same f)) (k.dead n);
    heads = late-heads i c h z x es late;
    suits = suits;
  }
    where
      done : Done_so i c h s → Done_so i c h z
      done (inl d) = inl (ap (λ (v : writable.Slots). has_ended v.state) same ∙ d)
      done (inr d) = inr d

  -- the stream of a port that was there was there

  of-shape : (x : Stream) → stream_shape x ≡ WritableOf (EndOf c) → (is_writable_stream (Some x) ≡ true) × (owner_of (Some x) ≡ EndOf c)
  of-shape (ReadableStream r) e = cc
  of-shape (ByteStream b) e = cc
  of-shape (WritableStream v) e = (refl, cc)

  one_shape : (x y : PortShape) → Some x ≡ Some y → x ≡ y
  one_shape x y e = cc

  record Before (s : Slots) : Type 0 where
    stream : Stream
    at : slice_get s.streams i.0 ≡ Some stream
    there : has_writable i s ≡ true
    owner : owner_at i s ≡ EndOf c

  stream-before : (s z : Slots) (y : cross.Slots) → Ended s → Ended z → slice_get s.ports c.0 ≡ Some y → slice_get z.ports c.0 ≡ Some y → has_writable i z ≡ true → owner_at i z ≡ EndOf c → Before s
  stream-before s z y es ez was is there owner =
      let shape = ez.end i c WritableSide (writable-shape i z (EndOf c) there owner) in
      let same = one_shape (port_shape y) (record { side = WritableSide; stream = i }) (sym (map-there port_shape z.ports c.0 y is) ∙ shape) in
      let had : slice_get (stream_shapes s) i.0 ≡ Some (WritableOf (EndOf c)) =
      subst (λ (p : PortShape). slice_get (stream_shapes s) p.stream.0 ≡ Some (end_shape c p.side)) same (es.ends c (port_shape y) (map-there port_shape s.ports c.0 y was)) in
      let m = map-from stream_shape s.streams i.0 (WritableOf (EndOf c)) had in
      let k = of-shape m.0 m.1.1 in
      record { stream = m.0; at = m.1.0; there = ap is_writable_stream m.1.0 ∙ k.0; owner = ap owner_of m.1.0 ∙ k.1 }

  none-before : (s z : Slots) → PortsNow s z → slice_get z.ports c.0 ≡ None → slice_get s.ports c.0 ≡ None
  none-before s z (inl e) n = rw e at n
  none-before s z (inr (x, (e, live))) n = by (slice_get s.ports c.0) refl
    where
      by : (o : Option cross.Slots) → o ≡ slice_get s.ports c.0 → slice_get s.ports c.0 ≡ None
      by None f = sym f
      by (Some y) f =
          let there = get-stays s.ports (x ∷ []) c.0 y (sym f) in
          let m : slice_get (s.ports ++ x ∷ []) c.0 ≡ None = rw e at n in
          let no : ◌≡◌ {A = Option cross.Slots} None (Some y) = sym m ∙ there in cc

  call-living : (h : Writes) (s : Slots) (call : Call) → PortLiving h s [] → PortLiving h (begin call s).done.slots (begin call s).done.caused
  call-living h s call g = record {
    going = going;
    only = zero-only i c cs calm;
    unmade = λ n. let u = g.unmade (none-before s z now n) in omega (arith, u, weighs);
    none = λ n. calm;
    facts = λ owner there y at. ⊎_elim (λ was. old owner there y at was) (λ new. made y new) (port-before s z y now at);
  }
    where
      z : Slots
      z = (begin call s).done.slots

      cs : List Effect
      cs = (begin call s).done.caused

      going : PortGoing i c h (begin call s).done.slots (begin call s).done.caused
      going = (port-going i c).call h s call g.going

      now : PortsNow s z
      now = call-ports call s

      calm : unb i c (begin call s).done.caused ≡ 0
      calm = call-calm call s

      weighs : weight (unblocking c) z.promises ≤ weight (unblocking c) s.promises
      weighs = call-weighs call s

      free : Each (Free i c) cs
      free = each-map IsFirst (Free i c) first-free cs (call-first call s)

      less : count i c z cs ≤ weight (unblocking c) s.promises
      less = let a = calm in let b = free-extra i c cs free in let m = weighs in omega (arith, a, b, m)

      old : owner_at i z ≡ EndOf c → has_writable i z ≡ true → (y : cross.Slots) → slice_get z.ports c.0 ≡ Some y → slice_get s.ports c.0 ≡ Some y → Facts i c h z cs y
      old owner there y at was =
          let b = stream-before s z y g.going.kept.ended going.kept.ended was at there owner in
          let same : w i c z ≡ w i c s = ap as_writable (call-stream call s b.stream b.at ∙ sym b.at) in
          same-facts h s z cs y same less (free-late i c cs free) (free-suits i c cs free) (g.facts b.owner b.there y was)

      made : (y : cross.Slots) → (slice_get s.ports c.0 ≡ None) × (y.live ≡ true) → Facts i c h z cs y
      made y new =
          let u = g.unmade new.0 in
          let n = less in
          record {
            few = inr (omega (arith, u, n));
            dead = λ d. let no : true ≡ false = sym new.1 ∙ d in cc;
            heads = late-heads i c h z y cs (free-late i c cs free);
            suits = free-suits i c cs free;
          }

  -- a job

  abbrev IsOfJob : Effect → Type 0
  IsOfJob (OnPort d (ports.WriteGoesOn p)) = Unit {0}
  IsOfJob (OnPort d operation) = ⊥
  IsOfJob (OnWritable j (writes.HandOn taker)) = ⊥
  IsOfJob (CancelAlgorithm j r p) = ⊥
  IsOfJob (WriteAlgorithm j) = ⊥
  IsOfJob e = Unit {0}

  job-first : (job : Job) → Each IsOfJob (job_effects job)
  job-first job = grind arith

  of_job-late : (e : Effect) → IsOfJob e → NotLate i c e
  of_job-late e k = grind (arith, k)

  of_job-suits : (e : Effect) → IsOfJob e → Suits i c e
  of_job-suits e k = grind (arith, k)

  job-total : (job : Job) → unb i c (job_effects job) + all (extra i c) (job_effects job) ≤ taken_off (of_reaction (unblocking c)) job
  job-total job = grind arith

  job-calm : (job : Job) → unb i c (job_effects job) ≡ 0
  job-calm job = grind arith

  job-living : (h : Writes) (s : Slots) (job : Job) → next_job s.promises ≡ Some job → PortLiving h s [] → PortLiving h (with_promises (after_next_job s.promises) s) (job_effects job)
  job-living h s job e g =
      let n : weight (unblocking c) (after_next_job s.promises) + taken_off (of_reaction (unblocking c)) job ≤ weight (unblocking c) s.promises = rw e at (weigh-next (of_reaction (unblocking c)) s.promises) in
      let t = job-total job in
      let u = job-calm job in
      let k = job-first job in
      record {
        going = (port-going i c).job h s job e g.going;
        only = zero-only i c (job_effects job) u;
        unmade = λ none. let m = g.unmade none in omega (arith, n, m);
        none = λ none. u;
        facts = λ owner there y at.
            same-facts h s (with_promises (after_next_job s.promises) s) (job_effects job) y refl (omega (arith, n, t))
            (each-map IsOfJob (NotLate i c) of_job-late (job_effects job) k) (each-map IsOfJob (Suits i c) of_job-suits (job_effects job) k) (g.facts owner there y at);
      }

  watch-living : (h : Writes) (s : Slots) (p : PromiseId) → PortLiving h s [] → PortLiving h (with_promises (watch p s.promises) s) []
  watch-living h s p g =
      let n = weigh-watch (of_reaction (unblocking c)) p s.promises in
      record {
        going = (port-going i c).answered h s p g.going;
        only = tt;
        unmade = λ none. let m = g.unmade none in omega (arith, n, m);
        none = λ none. refl;
        facts = λ owner there y at. same-facts h s (with_promises (watch p s.promises) s) [] y refl (omega (arith, n)) tt tt (g.facts owner there y at);
      }

  pub port-living : GoesUntold writes_then (effect_writes i) PortLiving
  port-living = record {
    row = row-living;
    call = call-living;
    job = job-living;
    answered = watch-living;
    older = λ h s g. record {
      going = (port-going i c).older h s g.going;
      only = tt;
      unmade = g.unmade;
      none = λ none. refl;
      facts = λ owner there y at. same-facts h s (older s) [] y refl (omega arith) tt tt (g.facts owner there y at);
    };
  }

  pub port-living-rests : RestsUntold PortLiving
  unfolding weights.weigh
  port-living-rests = record {
    heard = λ h s g. record {
      going = (port-going-rests i c).heard h s g.going;
      only = tt;
      unmade = g.unmade;
      none = λ none. refl;
      facts = λ owner there y at. same-facts h s (after_event s) [] y refl (omega arith) tt tt (g.facts owner there y at);
    };
  }

  pub none-port-living : PortLiving no_writes empty []
  unfolding weights.weigh
  none-port-living = record { going = none-port-going i c; only = tt; unmade = λ n. refl; none = λ n. refl; facts = λ owner there. cc }

  -- a chunk that is handed on finds its port entangled
  pub lives-at : (h : Writes) (s : Slots) (v : Value) (d : PromiseId) (es : List Effect) (x : cross.Slots) → PortLiving h s (OnPort c (ports.PostChunk v d) ∷ es) → owner_at i s ≡ EndOf c → has_writable i s ≡ true
      → slice_get s.ports c.0 ≡ Some x → x.live ≡ true
  lives-at h s v d es x g owner there at = (g.facts owner there x at).heads.0 (self i c)
