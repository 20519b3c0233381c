-- How the last pipe of a chain may end.
use Rattle.std.proofs.Common.{◌≡◌, ℕ, zero, suc, ◌+◌, ◌*◌, ◌≤◌, Bool, true, false, List, [], ◌∷◌, ◌++◌, Option, Some, None, slice_get, Contains, refl, sym, ap, subst, ◌∙◌, arith}
use Rattle.ws_value.specs.declared.ids.PipeId.{PipeId}
use Rattle.ws_value.specs.declared.ids.PromiseId.{PromiseId}
use Rattle.ws_value.specs.declared.ids.SignalId.{SignalId}
use Rattle.ws_value.specs.declared.value.Outcome.TheVariants.{Fulfilled, Rejected}
use Rattle.ws_value.specs.declared.value.Plain.{Plain}
use Rattle.ws_steps.specs.declared.effects.Owner.TheVariants.{Host}
use Rattle.ws_steps.specs.PipeCalls.{pipe_to}
use Rattle.ws_steps.specs.Calls.{begin}
use Rattle.ws_steps.specs.Pipes as pipe
use Rattle.ws_steps.specs.Promises.{next_id, fresh, outcome_at}
use Rattle.ws_steps.specs.Run.{Entry, Called, Worked, Heard, run, after_call}
use Rattle.ws_steps.specs.Slots.{Slots, empty, most_streams, owner_at, pipe_at}
use Rattle.ws_pipe_laws.specs.pipes.PipeHistory.{run_course}
use Rattle.ws_pipe_laws.proofs.pipes.Kept.{each_pipe_stays}
use Rattle.ws_end_laws.proofs.ends.PromiseEnds.{each_outcome_tells_the_end}
use Rattle.ws_end_laws.specs.hosts.HostLaws.{MakesAPipe, next_pipe}
use Rattle.ws_end_laws.proofs.hosts.Ended.{each_fulfilled_pipe_closed_its_destination}
use Rattle.ws_link_laws.proofs.Owners.{sink-stays}
use Rattle.ws_reason_laws.specs.Origins.{through, origins, AreUnlocked}
use Rattle.ws_reason_laws.specs.Reasons.{failure_of, failures, NeedsTee, NeedsPort}
use Rattle.ws_reason_laws.proofs.Brought.{through-append}
use Rattle.ws_reason_laws.proofs.Given.{reason-has-an-origin}
use Rattle.ws_reason_laws.proofs.Quiet.{open-none, origin-failed}
use Rattle.ws_chain_laws.specs.Chain.{Origin, FromChunks, FromBytes, FromPort, Target, ToSink, ToPort, source_of, dest_of, link_of}
use Rattle.ws_chain_laws.specs.Opening.{one_segment, sink_call, transforms, streams, signals, signal_of, nothing_prevented, piping, pipes_from, made, opening, opened, chained, promise_of}
use Rattle.ws_chain_laws.specs.Outcomes.{past_of, last_promise, IsClosedWell, ChainEnds, EachChainEnds}
use Rattle.ws_chain_laws.proofs.Begins as begins
use Rattle.ws_chain_laws.proofs.Begins.{run-append, promise-stays, watched-run, one-link, chain-ready, young-sink, each_chain_begins}
use Rattle.ws_chain_laws.proofs.Lists.{get-last}
use Rattle.ws_chain_laws.proofs.Numbers.{alike}
use Rattle.ws_chain_laws.proofs.Links.{link-at, takes-at}
use Rattle.ws_link_laws.specs.Link.{Ear, Giver}
use Rattle.ws_wire_laws.specs.Wire.{Joint}
use Rattle.ws_wire_laws.specs.Segments.{wiring, nothing_made}
use Rattle.ws_chain_laws.proofs.Readied.{Ready}
use Rattle.ws_chain_laws.proofs.Wirings.{gives_at, hears_at}
use Rattle.ws_chain_laws.proofs.Ready.{is-begun, ready-pipe}

-- the opening fails nothing, and brings nothing through a transform stream

append_none : (a b : List Plain) → a ++ b ≡ [] → (a ≡ []) × (b ≡ [])
append_none [] b e = (refl, e)
append_none (x ∷ a) b e = cc

failures-append : (xs ys : List Entry) → failures xs ≡ [] → failures (xs ++ ys) ≡ failures ys
failures-append [] ys e = refl
failures-append (Called c ∷ xs) ys e =
    let n = append_none (failure_of c) (failures xs) e in
    let h = failures-append xs ys n.1 in
    rw (n.0, h) refl
failures-append (Worked ∷ xs) ys e = failures-append xs ys e
failures-append (Heard ∷ xs) ys e = failures-append xs ys e

transforms-fail : (n : ℕ) → failures (transforms n) ≡ []
transforms-fail zero = refl
transforms-fail (suc n) = transforms-fail n

signals-fail : (b : Bool) → failures (signals b) ≡ []
signals-fail false = refl
signals-fail true = refl

pipes-fail : (k n : ℕ) → failures (pipes_from k n) ≡ []
pipes-fail k zero = refl
pipes-fail k (suc n) = pipes-fail (suc k) n

sink-fails : (target : Target) → failures (Called (sink_call target) ∷ []) ≡ []
sink-fails ToSink = refl
sink-fails ToPort = refl

sink-none : (target : Target) (s : Slots) → through (Called (sink_call target) ∷ []) s ≡ []
sink-none ToSink s = refl
sink-none ToPort s = refl

streams-fail : (origin : Origin) (target : Target) (n : ℕ) → failures (streams origin target n) ≡ []
streams-fail FromChunks target n = failures-append (transforms n) (Called (sink_call target) ∷ []) (transforms-fail n) ∙ sink-fails target
streams-fail FromBytes target n = failures-append (transforms n) (Called (sink_call target) ∷ []) (transforms-fail n) ∙ sink-fails target
streams-fail FromPort target n = failures-append (transforms n) (Called (sink_call target) ∷ []) (transforms-fail n) ∙ sink-fails target

opening-fails : (origin : Origin) (target : Target) (n : ℕ) (signalled : Bool) → failures (opening origin target n signalled) ≡ []
opening-fails origin target n signalled = failures-append (streams origin target n) (signals signalled ++ pipes_from 0 n) (streams-fail origin target n) ∙ (failures-append (signals signalled) (pipes_from 0 n) (signals-fail signalled) ∙ pipes-fail 0 n)

pub past-fails : (origin : Origin) (target : Target) (n : ℕ) (signalled : Bool) (xs : List Entry) → failures (past_of origin target n signalled xs) ≡ failures xs
past-fails origin target n signalled xs = failures-append (opening origin target n signalled) (Called (piping (signal_of signalled) n) ∷ xs) (opening-fails origin target n signalled)

through-none : (xs ys : List Entry) (s : Slots) → through xs s ≡ [] → through (xs ++ ys) s ≡ through ys (run xs s)
through-none xs ys s e = rw (through-append xs ys s, e) refl

transforms-none : (n : ℕ) (s : Slots) → through (transforms n) s ≡ []
transforms-none zero s = refl
transforms-none (suc n) s = transforms-none n _

signals-none : (b : Bool) (s : Slots) → through (signals b) s ≡ []
signals-none false s = refl
signals-none true s = refl

streams-none : (origin : Origin) (target : Target) (n : ℕ) → through (streams origin target n) empty ≡ []
streams-none FromChunks target n = through-none (transforms n) (Called (sink_call target) ∷ []) _ (transforms-none n _) ∙ sink-none target _
streams-none FromBytes target n = through-none (transforms n) (Called (sink_call target) ∷ []) _ (transforms-none n _) ∙ sink-none target _
streams-none FromPort target n = through-none (transforms n) (Called (sink_call target) ∷ []) _ (transforms-none n _) ∙ sink-none target _

pipe-none : (g : ℕ → Giver) (h : ℕ → Ear) (n c j : ℕ) (s : Slots) → Ready g h n c j s → j ≤ n → (signal : Option SignalId) (xs : List Entry) → through (Called (piping signal j) ∷ xs) s ≡ through xs (after_call (piping signal j) s)
pipe-none g h n c j s r l signal xs =
    let f = r.free j (omega arith) l in
    let y = young-sink g h n c j j s r (omega arith) l in
    let e = open-none (source_of j) (dest_of j) nothing_prevented signal s (rw (f.close_request, f.close_in_flight) refl) (rw y.state refl) in
    rw e refl

pipes-none : (g : ℕ → Giver) (h : ℕ → Ear) (n c j m : ℕ) (s : Slots) → Ready g h n c j s → j + m ≤ n → through (pipes_from j m) s ≡ []
pipes-none g h n c j zero s r l = refl
pipes-none g h n c j (suc m) s r l =
    pipe-none g h n c j s r (omega (arith, l)) None (pipes_from (suc j) m)
    ∙ pipes-none g h n c (suc j) m (after_call (piping None j) s) (ready-pipe g h n c j s r (omega (arith, l)) None tt) (omega (arith, l))

module _ (origin : Origin) (target : Target) (n : ℕ) (signalled : Bool) (xs : List Entry) (few : 2 * n + 2 ≤ most_streams) where
  abbrev s : Slots
  s = opened origin target n signalled

  abbrev z : Slots
  z = chained origin target n signalled

  abbrev signal : Option SignalId
  signal = signal_of signalled

  abbrev entries : List Entry
  entries = past_of origin target n signalled xs

  abbrev q : PromiseId
  q = last_promise origin target n signalled

  abbrev ws : List Joint
  ws = wiring (one_segment origin target n) nothing_made

  ready : Ready (gives_at ws) (hears_at ws) n (begins.count signalled) n s
  ready = begins.ready-s (one_segment origin target n) n signalled (one-link origin target n) few

  opening-none : through (opening origin target n signalled) empty ≡ []
  opening-none =
      through-none (streams origin target n) (signals signalled ++ pipes_from 0 n) empty (streams-none origin target n)
      ∙ (through-none (signals signalled) (pipes_from 0 n) (run (streams origin target n) empty) (signals-none signalled (run (streams origin target n) empty))
      ∙ subst (λ (x : Slots). through (pipes_from 0 n) x ≡ []) (run-append (streams origin target n) (signals signalled) empty) (pipes-none (gives_at ws) (hears_at ws) n (begins.count signalled) 0 n (made origin target n signalled) (chain-ready origin target n signalled few) (omega arith)))

  slots-are : run entries empty ≡ run xs z
  slots-are = run-append (opening origin target n signalled) (Called (piping signal n) ∷ xs) empty

  pub past-none : through xs z ≡ [] → through entries empty ≡ []
  past-none e = through-none (opening origin target n signalled) (Called (piping signal n) ∷ xs) empty opening-none ∙ (pipe-none (gives_at ws) (hears_at ws) n (begins.count signalled) n s ready (omega arith) signal xs ∙ e)

  there : slice_get z.pipes n ≡ Some (pipe_at (link_of n) z)
  there = (link-at origin target n z (each_chain_begins origin target n signalled few).chain n (omega arith)).link.there

  pub unlocked : AreUnlocked (source_of n) (dest_of n) s
  unlocked = let f = ready.free n (omega arith) (omega arith) in record { source = f.source; dest = f.sink; source_unlocked = rw f.unread refl; dest_unlocked = rw f.unwritten refl }

  when-rejected : (r : Plain) → through xs z ≡ [] → NeedsTee r entries → NeedsPort r entries → outcome_at (run entries empty).promises q ≡ Some (Rejected r) → Contains (failures xs) r
  when-rejected r e t p o =
      let b = each_chain_begins origin target n signalled few in
      let a : Contains (origins entries) r = reason-has-an-origin (opening origin target n signalled) xs (source_of n) (dest_of n) nothing_prevented signal q r unlocked b.last (λ t. record { closing = b.not_closing; closed = rw b.writable refl }) t o in
      subst (λ (rs : List Plain). Contains rs r) (past-fails origin target n signalled xs) (origin-failed entries r (past-none e) p a)

  same-promise : (k : ℕ) → k ≤ n → promise_of k (run entries empty) ≡ promise_of k z
  same-promise k l = ap (promise_of k) slots-are ∙ promise-stays k z xs (pipe_at (link_of k) z) (link-at origin target n z (each_chain_begins origin target n signalled few).chain k l).link.there

  makes : MakesAPipe (opening origin target n signalled) (source_of n) (dest_of n) nothing_prevented signal
  makes =
      let b = each_chain_begins origin target n signalled few in
      let y = pipe.set_up (source_of n) (dest_of n) nothing_prevented signal (next_id (fresh (fresh (fresh s.promises)))) in
      record {
        made = let g = get-last s.pipes y in rw (ready-is-begun, g) refl;
        closes = refl;
        writable = rw b.writable refl;
        not_closing = b.not_closing;
      }
    where
      ready-is-begun : begin (piping signal n) s ≡ pipe_to (source_of n) (dest_of n) nothing_prevented signal s
      ready-is-begun = is-begun (gives_at ws) (hears_at ws) n (begins.count signalled) n s ready (omega arith) signal (begins.there (one_segment origin target n) n signalled (one-link origin target n) few)

  when-fulfilled : (v : Plain) → target ≡ ToSink → outcome_at (run entries empty).promises q ≡ Some (Fulfilled v) → IsClosedWell n entries
  when-fulfilled v to o =
      let b = each_chain_begins origin target n signalled few in
      let t = (each_pipe_stays (link_of n) z).in_run xs (pipe_at (link_of n) z) there in
      let here : slice_get (run entries empty).pipes n ≡ Some t.slots = rw slots-are t.there in
      let told = each_outcome_tells_the_end entries (link_of n) t.slots here in
      let same : outcome_at (run entries empty).promises t.slots.promise ≡ Some (Fulfilled v) = rw t.same.promise o in
      let ended : (run_course (link_of n) entries empty).ended ≡ None ∷ [] = (told.fulfilled v same).1 in
      let number : link_of n ≡ next_pipe (opening origin target n signalled) = sym (ap link_of b.number) in
      let closes = each_fulfilled_pipe_closed_its_destination (opening origin target n signalled) xs (source_of n) (dest_of n) nothing_prevented signal makes (subst (λ (p : PipeId). (run_course p entries empty).ended ≡ None ∷ []) number ended) in
      let own : owner_at (dest_of n) (run xs z) ≡ Host = sink-stays (dest_of n) xs z (link-at origin target n z b.chain n (omega arith)).link.sink ∙ (takes-at origin target n z b.chain n (omega arith) ∙ rw (alike n, to) refl) in
      record { closed = closes.closed; settled = closes.settled (subst (λ (x : Slots). owner_at (dest_of n) x ≡ Host) (sym slots-are) own) }

  chain-ends : ChainEnds origin target n signalled xs
  chain-ends = record {
    slots = slots-are;
    pipes = same-promise;
    watched = λ k l. rw slots-are (watched-run xs (promise_of k z) z ((each_chain_begins origin target n signalled few).watched k l));
    rejected = when-rejected;
    fulfilled = when-fulfilled;
  }

pub each_chain_ends : EachChainEnds
each_chain_ends origin target n signalled xs few = chain-ends origin target n signalled xs few
