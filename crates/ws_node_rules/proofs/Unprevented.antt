-- No pipe of a node's links prevents anything: so each was made at the opening, and so it stays.
use Rattle.std.proofs.Common.{◌≡◌, ◌+◌, ◌-◌, ◌*◌, ◌≤◌, ℕ, zero, suc, Bool, false, List, [], ◌∷◌, ◌++◌, length, Option, Some, None, slice_get, refl, sym, ap, ◌∙◌, subst, arith}
use Rattle.ws_value.specs.declared.ids.PromiseId.{PromiseId}
use Rattle.ws_value.specs.declared.ids.SignalId.{SignalId}
use Rattle.ws_steps.specs.declared.pipes.Prevent.{Prevent}
use Rattle.ws_steps.specs.Calls.{begin}
use Rattle.ws_steps.specs.Pipes as pipe
use Rattle.ws_steps.specs.Promises.{next_id, fresh}
use Rattle.ws_steps.specs.Run.{Entry, Called, run, after_call}
use Rattle.ws_steps.specs.Slots.{Slots, most_streams, as_pipe, pipe_at}
use Rattle.ws_pipe_laws.proofs.pipes.Kept.{each_pipe_stays}
use Rattle.ws_link_laws.specs.Link.{Ear, Giver}
use Rattle.ws_link_laws.specs.Sound.{IsThere}
use Rattle.ws_wire_laws.specs.Wire.{Joint}
use Rattle.ws_wire_laws.specs.Segments.{Segment, wiring, nothing_made}
use Rattle.ws_chain_laws.specs.Chain.{Origin, Target, source_of, dest_of, link_of}
use Rattle.ws_chain_laws.specs.Opening.{one_segment, signal_of, nothing_prevented, piping, pipes_from, made, opened, chained}
use Rattle.ws_chain_laws.proofs.Begins as begins
use Rattle.ws_chain_laws.proofs.Begins.{chain-ready, one-link, opened-is}
use Rattle.ws_chain_laws.proofs.Readied.{Ready}
use Rattle.ws_chain_laws.proofs.Ready.{is-begun, ready-pipe}
use Rattle.ws_chain_laws.proofs.Wirings.{gives_at, hears_at}
use Rattle.ws_node.specs.Ran.{HasRun}
use Rattle.ws_node.specs.Shape.{AreFit, Shape, count_in}
use Rattle.ws_node.proofs.Ran.{opened-slots}

-- pipe k is there, and prevents nothing
record Unprevented (k : ℕ) (s : Slots) : Type 0 where
  slots : pipe.Slots
  there : slice_get s.pipes k ≡ Some slots
  prevents : slots.prevent ≡ nothing_prevented

unprevented-run : (k : ℕ) (xs : List Entry) (s : Slots) → Unprevented k s → Unprevented k (run xs s)
unprevented-run k xs s u =
    let t = (each_pipe_stays (link_of k) s).in_run xs u.slots u.there in
    record { slots = t.slots; there = t.there; prevents = t.same.prevent ∙ u.prevents }

-- by the call that makes it

last-place : {A : Type 0} (xs : List A) (y : A) → slice_get (xs ++ y ∷ []) (length xs) ≡ Some y
last-place [] y = refl
last-place (x ∷ xs) y = last-place xs y

unprevented-made : (g : ℕ → Giver) (h : ℕ → Ear) (n c j : ℕ) (s : Slots) → Ready g h n c j s → j ≤ n → (signal : Option SignalId) → IsThere signal s
    → Unprevented j (after_call (piping signal j) s)
unprevented-made g h n c j s r l signal there =
    let is = is-begun g h n c j s r l signal there in
    let p : PromiseId = next_id (fresh (fresh (fresh s.promises))) in
    let y : pipe.Slots = pipe.set_up (source_of j) (dest_of j) nothing_prevented signal p in
    let e = r.young.piped in
    let new : slice_get (begin (piping signal j) s).done.slots.pipes j ≡ Some y =
    rw is (subst (λ (m : ℕ). slice_get (s.pipes ++ y ∷ []) m ≡ Some y) e (last-place s.pipes y)) in
    let t = (each_pipe_stays (link_of j) s).in_call (piping signal j) y new in
    record { slots = t.slots; there = t.there; prevents = t.same.prevent }

-- pipe j + i, where m of them are made from pipe j on
unprevented-pipes : (g : ℕ → Giver) (h : ℕ → Ear) (n c j m : ℕ) (s : Slots) → Ready g h n c j s → j + m ≤ n → (i : ℕ) → suc i ≤ m
    → Unprevented (j + i) (run (pipes_from j m) s)
unprevented-pipes g h n c j zero s r l i less = absurd (omega (arith, less))
unprevented-pipes g h n c j (suc m) s r l zero less =
    let e : j ≡ j + 0 = omega arith in
    subst (λ (k : ℕ). Unprevented k (run (pipes_from j (suc m)) s)) e
    (unprevented-run j (pipes_from (suc j) m) (after_call (piping None j) s) (unprevented-made g h n c j s r (omega (arith, l)) None tt))
unprevented-pipes g h n c j (suc m) s r l (suc i) less =
    let e : suc j + i ≡ j + suc i = omega arith in
    let z : Slots = after_call (piping None j) s in
    subst (λ (k : ℕ). Unprevented k (run (pipes_from (suc j) m) z)) e
    (unprevented-pipes g h n c (suc j) m z (ready-pipe g h n c j s r (omega (arith, l)) None tt) (omega (arith, l)) i (omega (arith, less)))

-- and the last one, which may have the signal

module _ (origin : Origin) (target : Target) (n : ℕ) (signalled : Bool) (few : 2 * n + 2 ≤ most_streams) where
  abbrev one : List Segment
  one = one_segment origin target n

  abbrev ws : List Joint
  ws = wiring one nothing_made

  abbrev s : Slots
  s = opened origin target n signalled

  abbrev z : Slots
  z = chained origin target n signalled

  before-last : (i : ℕ) → suc i ≤ n → Unprevented i s
  before-last i less =
      let e : 0 + i ≡ i = omega arith in
      subst (Unprevented i) (sym (opened-is one n signalled))
      (subst (λ (k : ℕ). Unprevented k (run (pipes_from 0 n) (made origin target n signalled))) e
      (unprevented-pipes (gives_at ws) (hears_at ws) n (begins.count signalled) 0 n (made origin target n signalled)
      (chain-ready origin target n signalled few) (omega arith) i less))

  last : Unprevented n z
  last =
      unprevented-made (gives_at ws) (hears_at ws) n (begins.count signalled) n s (begins.ready-s one n signalled (one-link origin target n) few) (omega arith)
      (signal_of signalled) (begins.there one n signalled (one-link origin target n) few)

  all-chained : (k : ℕ) → k ≤ n → Unprevented k z
  all-chained k l = by (n - k) (omega (arith, l))
    where
      by : (i : ℕ) → k + i ≡ n → Unprevented k z
      by zero e = let f : n ≡ k = omega (arith, e) in subst (λ (m : ℕ). Unprevented m z) f last
      by (suc i) e = unprevented-run k (Called (piping (signal_of signalled) n) ∷ []) s (before-last k (omega (arith, e)))

-- so none of a node that its past led to prevents the close
pub closes-all : (shape : Shape) (past : List Entry) (s : Slots) → HasRun shape past s → AreFit shape.stages → (k : ℕ) → k ≤ count_in shape
    → (pipe_at (link_of k) s).prevent.close ≡ false
closes-all shape past s r fit k l =
    let n = count_in shape in
    let few = fit.few in
    let small : 2 * n + 2 ≤ most_streams = omega arith in
    let z : Slots = chained shape.origin shape.target n shape.aborted in
    let u = unprevented-run k r.opened.since z (all-chained shape.origin shape.target n shape.aborted small k l) in
    subst (λ (q : Slots). (pipe_at (link_of k) q).prevent.close ≡ false) (sym (opened-slots shape past s r))
    (ap (λ (o : Option pipe.Slots). (as_pipe o).prevent.close) u.there ∙ ap (λ (x : Prevent). x.close) u.prevents)
