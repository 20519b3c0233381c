-- The streams of segments, some of which are piped: perhaps a signal is made, and the pipes one after another. Links that were made stay
-- links, and streams that aren't piped yet stay free.
use Rattle.std.proofs.Common.{◌≡◌, ℕ, suc, ◌+◌, ◌*◌, ◌≤◌, nat_le, Bool, true, false, [], ◌∷◌, length, Option, Some, None, slice_get, refl, ap, subst, ◌∙◌, arith}
use Rattle.ws_value.specs.declared.ids.PipeId.{PipeId}
use Rattle.ws_value.specs.declared.ids.PromiseId.{PromiseId}
use Rattle.ws_value.specs.declared.ids.SignalId.{SignalId}
use Rattle.ws_value.specs.declared.value.Plain.{Plain}
use Rattle.ws_steps.specs.declared.calls.Call.{Call}
use Rattle.ws_steps.specs.declared.calls.Call.TheVariants.{MakeSignal}
use Rattle.ws_steps.specs.PipeCalls as pipe_calls
use Rattle.ws_steps.specs.Begun.{Begun}
use Rattle.ws_steps.specs.Calls.{begin}
use Rattle.ws_steps.specs.Histories.{is_same}
use Rattle.ws_steps.specs.Pipes as pipe
use Rattle.ws_steps.specs.Promises.{next_id, fresh}
use Rattle.ws_steps.specs.Run.{Called, after_call}
use Rattle.ws_steps.specs.Slots.{Slots, owner_at, has_source, has_writable, as_signal}
use Rattle.ws_laws.proofs.Lists.{Each}
use Rattle.ws_link_laws.specs.Sound.{IsHosts, IsLink, IsFree, IsThere}
use Rattle.ws_link_laws.proofs.Begins as begins
use Rattle.ws_link_laws.proofs.Begins.{link-begins}
use Rattle.ws_link_laws.proofs.Free.{free-called}
use Rattle.ws_link_laws.proofs.Owners.{giver-stays, ear-stays}
use Rattle.ws_link_laws.proofs.Steps.{link-called}
use Rattle.ws_link_laws.proofs.Unheard.{fresh-unheard}
use Rattle.ws_link_laws.specs.Link.{Ear, Giver, leaves}
use Rattle.ws_wire_laws.specs.Segments.{Next}
use Rattle.ws_chain_laws.specs.Chain.{source_of, dest_of, link_of}
use Rattle.ws_chain_laws.specs.Opening.{nothing_prevented, piping}
use Rattle.ws_chain_laws.proofs.Lists.{all-get, all-last, length-last, split}
use Rattle.ws_chain_laws.proofs.Numbers.{unlike}
use Rattle.ws_chain_laws.proofs.Pairs.{Pairs}
use Rattle.ws_chain_laws.proofs.Readied.{Ready, le_of, lt_of}
use Rattle.ws_chain_laws.proofs.Young.{YoungPipe, Untriggered, Young, Mild, fresh-unposted, called-young}

-- where all streams are made

pub ready-pairs : (g : ℕ → Giver) (h : ℕ → Ear) (n : Next) (m : ℕ) (s : Slots) → Pairs g h n s → n.link ≡ suc m → Ready g h m 0 0 s
ready-pairs g h n m s p e = record {
  links = λ k l. absurd (omega (arith, l));
  free = λ k a l. p.free k (omega (arith, l, e));
  gives = λ k l. p.gives k (omega (arith, l, e));
  hears = λ k l. p.hears k (omega (arith, l, e));
  young = p.young;
}

-- what is there stays

record Ends (k : ℕ) (s : Slots) : Type 0 where
  source : has_source (source_of k) s ≡ true
  sink : has_writable (dest_of k) s ≡ true
  owner : IsHosts s (owner_at (dest_of k) s)

ends-of : (g : ℕ → Giver) (h : ℕ → Ear) (n c j : ℕ) (s : Slots) → Ready g h n c j s → (k : ℕ) → k ≤ n → Ends k s
ends-of g h n c j s r k l = by (nat_le j k) refl
  where
    by : (x : Bool) → nat_le j k ≡ x → Ends k s
    by true e = let f = r.free k (le_of j k e) l in record { source = f.source; sink = f.sink; owner = f.sink_owner }
    by false e = let f = r.links k (lt_of j k e) in record { source = f.source; sink = f.sink; owner = f.sink_owner }

-- a signal is made

pub ready-signal : (g : ℕ → Giver) (h : ℕ → Ear) (n : ℕ) (s : Slots) → Ready g h n 0 0 s → Ready g h n 1 0 (after_call MakeSignal s)
unfolding begin
ready-signal g h n s r = record {
  links = λ k l. absurd (omega (arith, l));
  free = λ k a l. free-called (source_of k) (dest_of k) s MakeSignal (r.free k a l) refl;
  gives = λ k l. giver-stays (source_of k) (Called MakeSignal ∷ []) s (ends-of g h n 0 0 s r k l).source ∙ r.gives k l;
  hears = λ k l. ear-stays (dest_of k) (Called MakeSignal ∷ []) s (ends-of g h n 0 0 s r k l).sink (ends-of g h n 0 0 s r k l).owner ∙ r.hears k l;
  young =
      let e = r.young.count in
      let m = length-last s.signals pipe.new_signal in
      called-young 1 0 MakeSignal s
      (record { streams = r.young.streams; pipes = r.young.pipes; signals = all-last Untriggered s.signals pipe.new_signal r.young.signals refl; count = omega (arith, m, e); piped = r.young.piped; quiet = r.young.quiet; unposted = r.young.unposted }) tt;
}

-- a pipe is made

leaves-other : (k j : ℕ) → (k ≡ j → ⊥) → (signal : Option SignalId) → leaves (source_of k) (dest_of k) (piping signal j) ≡ true
leaves-other k j n signal =
    let a : is_same (source_of k) (source_of j) ≡ false = unlike (2 * k) (2 * j) (λ e. n (omega (arith, e))) in
    let b : is_same (dest_of k) (dest_of j) ≡ false = unlike (2 * k + 1) (2 * j + 1) (λ e. n (omega (arith, e))) in
    rw (a, b) refl

module _ (g : ℕ → Giver) (h : ℕ → Ear) (n c j : ℕ) (s : Slots) (r : Ready g h n c j s) (less : j ≤ n) (signal : Option SignalId) (there : IsThere signal s) where
  abbrev call : Call
  call = piping signal j

  abbrev to : Slots
  to = after_call call s

  abbrev free : IsFree (source_of j) (dest_of j) s
  free = r.free j (omega arith) less

  abbrev begun : Begun
  begun = pipe_calls.pipe_to (source_of j) (dest_of j) nothing_prevented signal s

  pub is-begun : begin call s ≡ begun
  is-begun = begins.is_begun (source_of j) (dest_of j) nothing_prevented signal s free there

  pub number : link_of (length s.pipes) ≡ link_of j
  number = ap link_of r.young.piped

  new-link : IsLink (source_of j) (dest_of j) (link_of j) to
  new-link = subst (λ (p : PipeId). IsLink (source_of j) (dest_of j) p to) number (link-begins (source_of j) (dest_of j) nothing_prevented signal s free there)

  no-reason : (o : Option SignalId) → pipe_calls.reason_of o s ≡ None
  no-reason None = refl
  no-reason (Some a) = by (slice_get s.signals a.0) refl
    where
      by : (x : Option pipe.Signal) → slice_get s.signals a.0 ≡ x → (as_signal (slice_get s.signals a.0)).reason ≡ None
      by None e = rw e refl
      by (Some y) e = rw e (all-get Untriggered s.signals a.0 y r.young.signals e)

  begins-mild : (p : PipeId) (a b : PromiseId) (o : Option SignalId) (reason : Option Plain) → reason ≡ None → Each Mild (pipe_calls.pipe_begins p a b o reason)
  begins-mild p a b None None e = (tt, (tt, (tt, tt)))
  begins-mild p a b (Some g) None e = (tt, (tt, (tt, (tt, tt))))
  begins-mild p a b o (Some x) e = cc

  pipe-young : Young c (suc j) to
  pipe-young = called-young c (suc j) call s (rw is-begun young) (rw is-begun (tt, (tt, (tt, begins-mild _ _ _ signal (pipe_calls.reason_of signal s) (no-reason signal)))))
    where
      young : Young c (suc j) begun.done.slots
      young =
          let y : pipe.Slots = pipe.set_up (source_of j) (dest_of j) nothing_prevented signal (next_id (fresh (fresh (fresh s.promises)))) in
          let e = r.young.piped in
          let m = length-last s.pipes y in
          record {
            streams = r.young.streams;
            pipes = all-last YoungPipe s.pipes y r.young.pipes (record { phase = refl; reading = refl; held = refl });
            signals = r.young.signals;
            count = r.young.count;
            piped = omega (arith, m, e);
            quiet = λ w. fresh-unheard w (fresh (fresh (fresh s.promises))) ∙ (fresh-unheard w (fresh (fresh s.promises)) ∙ (fresh-unheard w (fresh s.promises) ∙ (fresh-unheard w s.promises ∙ r.young.quiet w)));
            unposted = λ q. fresh-unposted q (fresh (fresh (fresh s.promises))) ∙ (fresh-unposted q (fresh (fresh s.promises)) ∙ (fresh-unposted q (fresh s.promises) ∙ (fresh-unposted q s.promises ∙ r.young.unposted q)));
          }

  ends : (k : ℕ) → k ≤ n → Ends k s
  ends k l = ends-of g h n c j s r k l

  pub ready-pipe : Ready g h n c (suc j) to
  ready-pipe = record {
    links = λ k l. split (λ (m : ℕ). IsLink (source_of m) (dest_of m) (link_of m) to) j k (omega (arith, l)) new-link
        (λ below. (link-called (source_of k) (dest_of k) (link_of k) s call (r.links k below) (leaves-other k j (λ e. omega (arith, e, below)) signal)).0);
    free = λ k a l. free-called (source_of k) (dest_of k) s call (r.free k (omega (arith, a)) l) (leaves-other k j (λ e. omega (arith, e, a)) signal);
    gives = λ k l. giver-stays (source_of k) (Called call ∷ []) s (ends k l).source ∙ r.gives k l;
    hears = λ k l. ear-stays (dest_of k) (Called call ∷ []) s (ends k l).sink (ends k l).owner ∙ r.hears k l;
    young = pipe-young;
  }
