-- The algorithms of a writable stream at the end of a port, and the operations of that port, keep what holds of it while a write waits.
use Rattle.std.proofs.Common.{◌≡◌, ◌+◌, ◌≤◌, Bool, true, false, ◌&&◌, nat_eq, List, [], ◌∷◌, ◌++◌, Option, Some, None, Err, inl, inr, ⊎_elim, slice_get, refl, sym, ap, ◌∙◌, subst, arith}
use Rattle.ws_laws.proofs.Lists.{each-append}
use Rattle.ws_laws.proofs.Tables.{either, is_same-refl}
use Rattle.ws_steps.specs.Cross as cross
use Rattle.ws_steps.specs.Cross.{post, data_clone}
use Rattle.ws_steps.specs.Histories.{is_same}
use Rattle.ws_steps.specs.Operations.{port_operation}
use Rattle.ws_steps.specs.Slots.{Slots, Done, found, owner_at, on_port_at, clones_at}
use Rattle.ws_steps.specs.Turns.{row}
use Rattle.ws_steps.specs.Writable as writable
use Rattle.ws_steps.specs.declared.effects.Effect.TheVariants.{Writable as OnWritable, Port as OnPort, WriteAlgorithm, CloseAlgorithm, AbortAlgorithm, Give}
use Rattle.ws_steps.specs.declared.effects.Effect.{Effect}
use Rattle.ws_steps.specs.declared.effects.{Owner.TheVariants.{EndOf}, Use.{Use}}
use Rattle.ws_steps.specs.declared.port.PortOperation.TheVariants as ports
use Rattle.ws_steps.specs.declared.port.{PortOperation.{PortOperation}, Side.{Side}, Side.TheVariants.{Writable as WritableSide}}
use Rattle.ws_steps.specs.declared.transform.{Taker.TheVariants.{ToPort}}
use Rattle.ws_steps.specs.declared.writable.WritableOperation.TheVariants as writes
use Rattle.ws_transform_laws.proofs.PortAsked.{unblocking}
use Rattle.ws_transform_laws.proofs.PortTurns.{post-effects}
use Rattle.ws_value.specs.declared.ids.{PortId.{PortId}, PromiseId.{PromiseId}, StreamId.{StreamId}}
use Rattle.ws_value.specs.declared.value.Message.TheVariants.{Pull as PullMessage, Chunk as ChunkMessage, Close as CloseMessage, Error as ErrorMessage}
use Rattle.ws_value.specs.declared.value.Message.{Message}
use Rattle.ws_value.specs.declared.value.{Plain.{Plain}}
use Rattle.ws_writable_laws.proofs.Shape.{one_if, all, leads_to}
use Rattle.ws_steps.specs.declared.promises.Step.TheVariants.{WritableWrite, WritableClose, WritableAbort}
use Rattle.ws_steps.specs.declared.effects.Use.TheVariants.{React, Resolve}
use Rattle.ws_steps.specs.declared.effects.Gift.TheVariants.{This, Fresh}
use Rattle.ws_steps.specs.Promises.{next_id}
use Rattle.ws_steps.specs.Slots.{found}
use Rattle.ws_steps.specs.Writable.{has_ended}
use Rattle.ws_steps.specs.WritableHistory.{Writes, writes_then, effect_writes}
use Rattle.ws_laws.proofs.Truth.{and_left}
use Rattle.ws_writable_laws.proofs.Agenda.{row-leaves}
use Rattle.ws_writable_laws.proofs.Shape.{of_use, weight, is_abort}
use Rattle.ws_transform_laws.proofs.Lawful.{Known}
use Rattle.ws_transform_laws.proofs.Need.{needs}
use Rattle.ws_transform_laws.proofs.PortAsked.{asks}
use Rattle.ws_transform_laws.proofs.PortCounts.{extra, NotLate, Suits, NotOwn, row-free}
use Rattle.ws_transform_laws.proofs.PortTurns.{place-set, post-slots}
use Rattle.ws_transform_laws.proofs.PortFacts.{After, Done_so, Facts, HeadFits, Here, calm-facts, done-facts, free-facts, free-late, free-suits, known-of, late-heads, place-of, shaped, still-done, unb, w, weight-row}

module _ (i : StreamId) (c : PortId) where
  -- the algorithms of the stream

  close-caused : (s : Slots) → owner_at i s ≡ EndOf c → (row (CloseAlgorithm i) s).caused ≡ OnPort c (ports.Close (React (WritableClose i) None)) ∷ []
  unfolding row
  close-caused s o = rw o refl

  abort-caused : (s : Slots) (r : Plain) (p : PromiseId) → owner_at i s ≡ EndOf c → (row (AbortAlgorithm i r p) s).caused ≡ OnPort c (ports.Leave r (React (WritableAbort i p) None)) ∷ []
  unfolding row
  abort-caused s r p o = rw o refl

  write-caused : (s : Slots) → owner_at i s ≡ EndOf c → (row (WriteAlgorithm i) s).caused ≡ OnPort c (ports.Write (React (WritableWrite i) None)) ∷ []
  unfolding row
  write-caused s o = rw o refl

  pub close-facts : (h : Writes) (s : Slots) (es : List Effect) (x y : cross.Slots) → Here i c h s (CloseAlgorithm i) es x → After i c h s (CloseAlgorithm i) es y
  close-facts h s es x y k =
      let e : Effect = CloseAlgorithm i in
      let told : (effect_writes i e s).closes ≡ 1 = rw (is_same-refl i) refl in
      let done : Done_so i c (writes_then h (effect_writes i e s)) (row e s).slots = inr (omega (arith, told)) in
      rw (close-caused s k.owner)
      (done-facts i c (writes_then h (effect_writes i e s)) (row e s).slots (OnPort c (ports.Close (React (WritableClose i) None)) ∷ es) y done ((λ q. done), k.facts.heads.1) (tt, k.facts.suits.1))

  ended-by : (h : Writes) (s : Slots) (r : Plain) (p : PromiseId) (es : List Effect) → Known i h s (AbortAlgorithm i r p ∷ es) → has_ended (w i c s).state ≡ true
  ended-by h s r p es k = by (has_ended (w i c s).state) refl
    where
      one : leads_to (is_abort i) (AbortAlgorithm i r p) ≡ 1
      one = rw (is_same-refl i) refl

      by : (b : Bool) → b ≡ has_ended (w i c s).state → has_ended (w i c s).state ≡ true
      by true e = sym e
      by false e = let none = k.owed.aborts (sym e) in let l = one in absurd (omega (arith, none, l))

  pub abort-facts : (h : Writes) (s : Slots) (r : Plain) (p : PromiseId) (es : List Effect) (x y : cross.Slots) → Here i c h s (AbortAlgorithm i r p) es x → After i c h s (AbortAlgorithm i r p) es y
  abort-facts h s r p es x y k =
      let e : Effect = AbortAlgorithm i r p in
      let ended = ended-by h s r p es (known-of i c h s e es x k) in
      let done : Done_so i c (writes_then h (effect_writes i e s)) (row e s).slots = inl (ap (λ (v : writable.Slots). has_ended v.state) (row-leaves i e s tt).place ∙ ended) in
      rw (abort-caused s r p k.owner)
      (done-facts i c (writes_then h (effect_writes i e s)) (row e s).slots (OnPort c (ports.Leave r (React (WritableAbort i p) None)) ∷ es) y done ((λ q. done), k.facts.heads.1) (tt, k.facts.suits.1))

  pub self : nat_eq c.0 c.0 ≡ true
  self = grind arith

  pub write-facts : (h : Writes) (s : Slots) (es : List Effect) (x : cross.Slots) → Here i c h s (WriteAlgorithm i) es x → After i c h s (WriteAlgorithm i) es x
  write-facts h s es x k =
      let e : Effect = WriteAlgorithm i in
      let p = weight-row i c e s in
      let one : one_if (is_same i i) ≡ 1 = rw (is_same-refl i) refl in
      let two : one_if (nat_eq c.0 c.0) ≡ 1 = rw self refl in
      rw (write-caused s k.owner)
      (calm-facts i c h (effect_writes i e s) s (row e s).slots e (OnPort c (ports.Write (React (WritableWrite i) None)) ∷ []) es x x (row-leaves i e s tt).place refl (omega (arith, p, one, two)) (tt, tt) (tt, tt) k.facts)

  -- the operations of the port

  abbrev pub Acted : Slots → cross.Slots → PortOperation → cross.Acts
  Acted s x operation = port_operation c (clones_at x s) operation (record { slots = x; out = found s })

  pub record Performed (s : Slots) (x : cross.Slots) (operation : PortOperation) (d : Done) : Type 0 where
    pub slot : slice_get d.slots.ports c.0 ≡ Some (Acted s x operation).slots
    pub caused : d.caused ≡ (Acted s x operation).out.effects

  pub performed : (s : Slots) (x : cross.Slots) (operation : PortOperation) → slice_get s.ports c.0 ≡ Some x → Performed s x operation (row (OnPort c operation) s)
  unfolding row
  performed s x operation at = by (slice_get s.ports c.0) at
    where
      by : (o : Option cross.Slots) → o ≡ Some x → Performed s x operation (on_port_at (λ clones. port_operation c clones operation) c s o)
      by o e = rw e (record { slot = place-set s.ports c.0 x (Acted s x operation).slots at; caused = refl })

  -- those that leave it entangled
  abbrev pub IsQuiet : PortOperation → Type 0
  IsQuiet (ports.Leave r u) = ⊥
  IsQuiet (ports.Close u) = ⊥
  IsQuiet (ports.Write u) = ⊥
  IsQuiet (ports.WriteGoesOn d) = ⊥
  IsQuiet operation = Unit {0}

  unblock-live : (a : cross.Acts) (o : Option PromiseId) → (cross.unblock_by a o).slots.live ≡ a.slots.live
  unblock-live a None = refl
  unblock-live a (Some p) = refl

  deliver-live : (m : Message) (a : cross.Acts) → (cross.deliver_to c m a WritableSide).slots.live ≡ a.slots.live
  unfolding cross.unblock
  deliver-live PullMessage a = unblock-live a a.slots.backpressure
  deliver-live (ChunkMessage v) a = refl
  deliver-live CloseMessage a = refl
  deliver-live (ErrorMessage r) a = refl

  quiet-live : (clones : Bool) (operation : PortOperation) (a : cross.Acts) → IsQuiet operation → a.slots.side ≡ WritableSide → (port_operation c clones operation a).slots.live ≡ a.slots.live
  unfolding cross.pull cross.post_chunk cross.unblock cross.deliver
  quiet-live clones ports.Pull a q side = ap (λ (z : cross.Slots). z.live) (post-slots c PullMessage a)
  quiet-live clones (ports.PostChunk v d) a q side = ap (λ (z : cross.Slots). z.live) (post-slots c (ChunkMessage v) a)
  quiet-live clones ports.Unblock a q side = unblock-live a a.slots.backpressure
  quiet-live clones (ports.Deliver m) a q side =
      either (λ (b : cross.Acts). b.slots.live ≡ a.slots.live) a.slots.live (cross.deliver_to c m a a.slots.side) a
      (λ l. subst (λ (k : Side). (cross.deliver_to c m a k).slots.live ≡ a.slots.live) (sym side) (deliver-live m a)) (λ n. refl)
  quiet-live clones operation a q side = absurd q

  quiet-own : (operation : PortOperation) → IsQuiet operation → NotOwn i c (OnPort c operation)
  quiet-own (ports.Write u) q = absurd q
  quiet-own (ports.WriteGoesOn d) q = absurd q
  quiet-own operation q = tt

  quiet-asks : (operation : PortOperation) → IsQuiet operation → asks c (OnPort c operation) ≡ false
  quiet-asks (ports.Write u) q = absurd q
  quiet-asks (ports.WriteGoesOn d) q = absurd q
  quiet-asks operation q = refl

  pub quiet-facts : (h : Writes) (s : Slots) (operation : PortOperation) (es : List Effect) (x : cross.Slots) → IsQuiet operation → Here i c h s (OnPort c operation) es x → After i c h s (OnPort c operation) es (Acted s x operation).slots
  quiet-facts h s operation es x q k =
      free-facts i c h s (OnPort c operation) es x (Acted s x operation).slots k tt (quiet-own operation q) (quiet-asks operation q) tt
      (quiet-live (clones_at x s) operation (record { slots = x; out = found s }) q (place-of i c h s (OnPort c operation) es x k).1)

  -- those that end it: the stream is done
  abbrev pub IsEnd : PortOperation → Type 0
  IsEnd (ports.Leave r u) = Unit {0}
  IsEnd (ports.Close u) = Unit {0}
  IsEnd operation = ⊥

  end-done : (h : Writes) (s : Slots) (operation : PortOperation) (es : List Effect) (x : cross.Slots) → IsEnd operation → HeadFits i c h s x (OnPort c operation) → Done_so i c h s
  end-done h s (ports.Leave r u) es x q k = k self
  end-done h s (ports.Close u) es x q k = k self
  end-done h s operation es x q k = absurd q

  end-own : (operation : PortOperation) → IsEnd operation → NotOwn i c (OnPort c operation)
  end-own (ports.Leave r u) q = tt
  end-own (ports.Close u) q = tt
  end-own operation q = absurd q

  pub end-facts : (h : Writes) (s : Slots) (operation : PortOperation) (es : List Effect) (x y : cross.Slots) → IsEnd operation → Here i c h s (OnPort c operation) es x → After i c h s (OnPort c operation) es y
  end-facts h s operation es x y q k =
      let e : Effect = OnPort c operation in
      let f = row-free i c s k.going.kept.halved k.going.kept.ended (shaped i c h s e es x k) e (end-own operation q) tt k.facts.suits.0 in
      let done = still-done i c h (effect_writes i e s) s (row e s).slots (row-leaves i e s tt).place (end-done h s operation es x q k.facts.heads.0) in
      done-facts i c (writes_then h (effect_writes i e s)) (row e s).slots ((row e s).caused ++ es) y done
      (late-heads i c (writes_then h (effect_writes i e s)) (row e s).slots y ((row e s).caused ++ es) (each-append (NotLate i c) (row e s).caused es (free-late i c (row e s).caused f) k.facts.heads.1))
      (each-append (Suits i c) (row e s).caused es (free-suits i c (row e s).caused f) k.facts.suits.1)

  -- a write comes to wait

  wait-leads : (d : PromiseId) (o : Option PromiseId) → leads_to (unblocking c) (cross.wait_for o c d) ≡ 1
  wait-leads d None = rw self refl
  wait-leads d (Some p) = rw self refl

  wait-extra : (d : PromiseId) (o : Option PromiseId) → extra i c (cross.wait_for o c d) ≡ 0
  wait-extra d None = refl
  wait-extra d (Some p) = refl

  wait-late : (d : PromiseId) (o : Option PromiseId) → NotLate i c (cross.wait_for o c d)
  wait-late d None = tt
  wait-late d (Some p) = tt

  wait-suits : (d : PromiseId) (o : Option PromiseId) → Suits i c (cross.wait_for o c d)
  wait-suits d None = tt
  wait-suits d (Some p) = tt

  waits-effects : (s : Slots) (x : cross.Slots) (u : Use) → (Acted s x (ports.Write u)).out.effects ≡ cross.wait_for x.backpressure c (next_id s.promises) ∷ Give (This (next_id s.promises)) u ∷ []
  unfolding cross.write
  waits-effects s x u = refl

  waits-slots : (s : Slots) (x : cross.Slots) (u : Use) → (Acted s x (ports.Write u)).slots ≡ x
  unfolding cross.write
  waits-slots s x u = refl

  pub waits-facts : (h : Writes) (s : Slots) (u : Use) (es : List Effect) (x : cross.Slots) → Here i c h s (OnPort c (ports.Write u)) es x → After i c h s (OnPort c (ports.Write u)) es (Acted s x (ports.Write u)).slots
  waits-facts h s u es x k =
      let e : Effect = OnPort c (ports.Write u) in
      let d : PromiseId = next_id s.promises in
      let p = weight-row i c e s in
      let none : of_use (unblocking c) u ≡ 0 = k.only.0 in
      let one = wait-leads d x.backpressure in
      let zero_so = wait-extra d x.backpressure in
      let two : one_if (nat_eq c.0 c.0) ≡ 1 = rw self refl in
      rw ((performed s x (ports.Write u) k.at).caused, waits-effects s x u)
      (calm-facts i c h (effect_writes i e s) s (row e s).slots e (cross.wait_for x.backpressure c d ∷ Give (This d) u ∷ []) es x (Acted s x (ports.Write u)).slots (row-leaves i e s tt).place
      (ap (λ (z : cross.Slots). z.live) (waits-slots s x u)) (omega (arith, p, none, one, zero_so, two)) (wait-late d x.backpressure, (tt, tt)) (wait-suits d x.backpressure, (tt, tt)) k.facts)

  -- and goes on

  abbrev pub Went : Bool → Option PromiseId → PromiseId → Slots → cross.Slots → cross.Acts
  Went clones o d s x = cross.go_on c clones d (record { slots = x; out = found s }) o

  went : (s : Slots) (x : cross.Slots) (d : PromiseId) → Acted s x (ports.WriteGoesOn d) ≡ Went (clones_at x s) x.backpressure d s x
  unfolding cross.write_goes_on
  went s x d = refl

  refused-effects : (d : PromiseId) (s : Slots) (x : cross.Slots) → (Went false None d s x).out.effects ≡ Give (Fresh (Err cross.data_clone)) (Resolve d) ∷ []
  refused-effects d s x = rw (post-effects c (ErrorMessage cross.data_clone) (cross.hold_back (record { slots = x; out = found s }))) refl

  refused-live : (d : PromiseId) (s : Slots) (x : cross.Slots) → (Went false None d s x).slots.live ≡ false
  refused-live d s x = refl

  pub goes-facts : (h : Writes) (s : Slots) (d : PromiseId) (es : List Effect) (x : cross.Slots) → Here i c h s (OnPort c (ports.WriteGoesOn d)) es x
      → After i c h s (OnPort c (ports.WriteGoesOn d)) es (Acted s x (ports.WriteGoesOn d)).slots
  goes-facts h s d es x k =
      let e : Effect = OnPort c (ports.WriteGoesOn d) in
      rw ((performed s x (ports.WriteGoesOn d) k.at).caused, went s x d) (by (clones_at x s) x.backpressure)
    where
      e : Effect
      e = OnPort c (ports.WriteGoesOn d)

      g : Writes
      g = effect_writes i (OnPort c (ports.WriteGoesOn d)) s

      z : Slots
      z = (row (OnPort c (ports.WriteGoesOn d)) s).slots

      same : w i c z ≡ w i c s
      same = (row-leaves i (OnPort c (ports.WriteGoesOn d)) s tt).place

      two : one_if (nat_eq c.0 c.0) ≡ 1
      two = rw self refl

      weighs : weight (unblocking c) z.promises ≤ weight (unblocking c) s.promises + 0
      weighs = weight-row i c (OnPort c (ports.WriteGoesOn d)) s

      stands : (b : Bool) → weight (unblocking c) s.promises + ((0 + (unb i c) es) + (one_if (nat_eq c.0 c.0) + all (extra i c) es)) ≤ one_if b → b ≡ true
      stands true f = refl
      stands false f = absurd (omega (arith, f, two))

      needed : weight (unblocking c) s.promises + ((0 + (unb i c) es) + (one_if (nat_eq c.0 c.0) + all (extra i c) es)) ≤ one_if (needs (w i c s) && x.live) → needs (w i c s) ≡ true
      needed f = and_left (needs (w i c s)) x.live (stands (needs (w i c s) && x.live) f)

      by : (clones : Bool) (o : Option PromiseId) → Facts i c (writes_then h g) z ((Went clones o d s x).out.effects ++ es) (Went clones o d s x).slots
      by true None =
          calm-facts i c h g s z e (OnWritable x.stream (writes.HandOn (ToPort c d)) ∷ []) es x (Went true None d s x).slots same refl (let p = weighs in let t = two in omega (arith, p, t)) (tt, tt)
          ((λ q. rw ((place-of i c h s e es x k).0) (is_same-refl i), λ q. self), tt) k.facts
      by false None =
          rw (refused-effects d s x)
          (record {
            few = ⊎_elim (λ f. inl (still-done i c h g s z same f)) (λ f. inr (let p = weighs in let t = two in omega (arith, p, t, f, bound (needs (w i c s) && x.live)))) k.facts.few;
            dead = λ n. ⊎_elim (λ f. inl (still-done i c h g s z same f)) (λ f. inr (ap needs same ∙ needed f)) k.facts.few;
            heads = (tt, k.facts.heads.1);
            suits = (tt, k.facts.suits.1);
          })
        where
          bound : (b : Bool) → one_if b ≤ 1
          bound true = omega arith
          bound false = omega arith
      by clones (Some p) =
          calm-facts i c h g s z e (cross.wait_for (Some p) c d ∷ []) es x x same refl (let q = weighs in let t = two in omega (arith, q, t)) (tt, tt) (tt, tt) k.facts
