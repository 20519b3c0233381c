-- How the realm of a new node is opened, call by call.
use Rattle.std.proofs.Common.{◌≡◌, ◌+◌, ◌-◌, ◌*◌, ◌≤◌, ℕ, zero, suc, ℤ, nat_abs, Bool, true, false, List, [], ◌∷◌, length, map, Option, Some, None, refl, sym, ap, ◌∙◌, subst, arith}
use Rattle.std.specs.List.{list_all}
use Rattle.std.specs.Prelude.{is_some, IsSomeAnd, MatchOption}
use Rattle.ws_value.specs.declared.ids.PromiseId.{PromiseId}
use Rattle.ws_value.specs.declared.ids.SignalId.{SignalId}
use Rattle.ws_flow.specs.declared.plan.Placed.{Placed}
use Rattle.ws_flow.specs.declared.plan.Plan.{Plan}
use Rattle.ws_flow.specs.declared.plan.Stage.{Stage}
use Rattle.ws_flow.specs.Stages.{is_in_range}
use Rattle.ws_flow.proofs.Lengths.{accepted}
use Rattle.ws_stages.specs.State.{State}
use Rattle.ws_steps.specs.declared.calls.Call.TheVariants.{MakeSignal}
use Rattle.ws_steps.specs.declared.calls.Reply.TheVariants.{Promise, Signal}
use Rattle.ws_steps.specs.Calls.{begin}
use Rattle.ws_steps.specs.Run.{Called, run, reply_to, after_call}
use Rattle.ws_steps.specs.Slots.{Slots, empty, most_streams}
use Rattle.ws_chain_laws.specs.Chain.{Origin, Target}
use Rattle.ws_chain_laws.specs.Opening.{BeginsChain, one_segment, chained, transforms, streams, signals, signal_of, source_call, sink_call, piping, pipes_from, made, opened}
use Rattle.ws_chain_laws.specs.Opening as chain
use Rattle.ws_chain_laws.specs.Outcomes.{past_of, last_promise}
use Rattle.ws_chain_laws.proofs.Begins.{each_chain_begins, run-append, chain-ready, opened-is}
use Rattle.ws_chain_laws.proofs.Outcomes.{each_chain_ends}
use Rattle.ws_node.specs.declared.making.Share.{Share}
use Rattle.ws_node.specs.declared.node.Abort.{Abort}
use Rattle.ws_node.specs.Opening.{AreAnswered, CanPipe, IsAccepted, IsPromise, abort_of, all_begun}
use Rattle.ws_node.specs.Shape.{AreFit, Shape, count_in}
use Rattle.ws_node.specs.Shares.{abort_in, origin_by, shape_with, shared, target_by}
use Rattle.ws_node.proofs.Ran.{few-streams}
use Rattle.ws_node.proofs.Sharing.{shared-fit}

-- a signal is answered
pub signal-answered : (s : Slots) → reply_to MakeSignal s ≡ Signal (record { 0 = length s.signals })
unfolding begin
signal-answered s = refl

-- a new realm has none before its signal is made, and so that is the first
pub none-signalled : (o : Origin) (t : Target) (n : ℕ) → 2 * n + 2 ≤ most_streams → length (run (streams o t n) empty).signals ≡ 0
none-signalled o t n few = subst (λ (z : Slots). length z.signals ≡ 0) (run-append (streams o t n) [] empty) (chain-ready o t n false few).young.count

pub signal-first : (s : Slots) (a : SignalId) → length s.signals ≡ 0 → reply_to MakeSignal s ≡ Signal a → a ≡ record { 0 = 0 }
signal-first s a none e =
    let other : SignalId = record { 0 = length s.signals } in
    let first : SignalId = record { 0 = 0 } in
    let f : reply_to MakeSignal s ≡ Signal other = signal-answered s in
    let g : other ≡ first = ap (λ (m : ℕ). record { 0 = m }) none in
    let same : a ≡ other = cc in
    same ∙ g

pub abort-is : (s : Slots) (x : Abort) (left : ℕ) (by : ℤ) → length s.signals ≡ 0 → reply_to MakeSignal s ≡ Signal x.signal → x.left ≡ left → left ≡ nat_abs by → Some x ≡ abort_of (Some by)
abort-is s x left by none e l m =
    ap Some
    (ap (λ (a : SignalId). record { signal = a; left = x.left }) (signal-first s x.signal none e)
    ∙ ap (λ (k : ℕ). record { signal = record { 0 = 0 }; left = k }) (l ∙ m))

-- the pipes before the last, one after another

can-pipe : (k n : ℕ) (s z : Slots) → chain.AreAnswered k n s z → CanPipe k n s
can-pipe k zero s z a = tt
can-pipe k (suc n) s z (e, a) = (subst IsPromise (sym e) tt, can-pipe (suc k) n (after_call (piping None k) s) z a)

pub none-answered : (k n : ℕ) (s : Slots) → n ≤ k → AreAnswered k (n - k) s []
none-answered k n s more = subst (λ q. AreAnswered k q s []) (let e : 0 ≡ n - k = omega arith in e) refl

-- the realm before the pipes, and before the last of them

pub streams-made : (o : Origin) (t : Target) (n m : ℕ) (first second third last : Slots) → m ≡ n → first ≡ empty → second ≡ after_call (source_call o) first → third ≡ run (transforms m) second
    → last ≡ after_call (sink_call t) third → last ≡ run (streams o t n) empty
streams-made o t n m first second third last same a b c d =
    d
    ∙ (ap (after_call (sink_call t)) (c ∙ (ap (λ q. run (transforms q) second) same ∙ ap (run (transforms n)) (b ∙ ap (after_call (source_call o)) a)))
    ∙ sym (run-append (transforms n) (Called (sink_call t) ∷ []) (after_call (source_call o) empty)))

-- and behind that with the signal, where there is an abort
pub signalled-is : (o : Origin) (t : Target) (n : ℕ) (signalled : Bool) (s z : Slots) → s ≡ run (streams o t n) empty → z ≡ run (signals signalled) s → z ≡ made o t n signalled
signalled-is o t n signalled s z a b = b ∙ (ap (run (signals signalled)) a ∙ sym (run-append (streams o t n) (signals signalled) empty))

pub begun-length : (ss : List Stage) → length (all_begun ss) ≡ length ss
begun-length [] = refl
begun-length (s ∷ ss) = ap suc (begun-length ss)

module _ (o : Origin) (t : Target) (n : ℕ) (signalled : Bool) (few : 2 * n + 2 ≤ most_streams) where
  begins : BeginsChain o t n signalled
  begins = each_chain_begins o t n signalled few

  pub pipes-can : (m : ℕ) (s : Slots) → m ≡ n → s ≡ made o t n signalled → CanPipe 0 m s
  pipes-can m s e f =
      subst (λ q. CanPipe 0 q s) (sym e) (subst (CanPipe 0 n) (sym f) (can-pipe 0 n (made o t n signalled) (chained o t n signalled) begins.answered))

  pub piped-is : (m : ℕ) (s z : Slots) → m ≡ n → s ≡ made o t n signalled → z ≡ run (pipes_from 0 m) s → z ≡ opened o t n signalled
  piped-is m s z e f g = g ∙ (ap (λ q. run (pipes_from 0 q) s) e ∙ (ap (run (pipes_from 0 n)) f ∙ sym (opened-is (one_segment o t n) n signalled)))

  pub last-answers : (signal : Option SignalId) (m : ℕ) (z : Slots) → signal ≡ signal_of signalled → m ≡ n → z ≡ opened o t n signalled → IsPromise (reply_to (piping signal m) z)
  last-answers signal m z a e f =
      subst (λ (x : Option SignalId). IsPromise (reply_to (piping x m) z)) (sym a)
      (subst (λ q. IsPromise (reply_to (piping (signal_of signalled) q) z)) (sym e)
      (subst (λ (x : Slots). IsPromise (reply_to (piping (signal_of signalled) n) x)) (sym f)
      (subst IsPromise (sym begins.last) tt)))

  pub led-is : (signal : Option SignalId) (m : ℕ) (z last : Slots) → signal ≡ signal_of signalled → m ≡ n → z ≡ opened o t n signalled → last ≡ after_call (piping signal m) z
      → last ≡ run (past_of o t n signalled []) empty
  led-is signal m z last a e f g =
      g
      ∙ (ap (λ (x : Option SignalId). after_call (piping x m) z) a
      ∙ (ap (λ q. after_call (piping (signal_of signalled) q) z) e
      ∙ (ap (after_call (piping (signal_of signalled) n)) f ∙ sym (each_chain_ends o t n signalled [] few).slots)))

  pub is-answered : (signal : Option SignalId) (m : ℕ) (z : Slots) (p : PromiseId) → signal ≡ signal_of signalled → m ≡ n → z ≡ opened o t n signalled
      → reply_to (piping signal m) z ≡ Promise p → p ≡ last_promise o t n signalled
  is-answered signal m z p a e f g =
      let h : reply_to (piping signal m) z ≡ Promise (last_promise o t n signalled) =
      ap (λ (x : Option SignalId). reply_to (piping x m) z) a
      ∙ (ap (λ q. reply_to (piping (signal_of signalled) q) z) e ∙ (ap (reply_to (piping (signal_of signalled) n)) f ∙ begins.last)) in
      let same : Promise p ≡ Promise (last_promise o t n signalled) = sym g ∙ h in
      same_promise p (last_promise o t n signalled) same
    where
      same_promise : (x y : PromiseId) → Promise x ≡ Promise y → x ≡ y
      same_promise x y e = grind arith

  pub are-answered : (m : ℕ) (s : Slots) (ps : List PromiseId) → m ≡ n → s ≡ made o t n signalled → AreAnswered 0 m s ps → AreAnswered 0 n (made o t n signalled) ps
  are-answered m s ps e f g = subst (λ (x : Slots). AreAnswered 0 n x ps) f (subst (λ q. AreAnswered 0 q s ps) e g)

pub count-is : (m : ℕ) (ws : List State) (ss : List Stage) → m ≡ length ws → ws ≡ all_begun ss → m ≡ length ss
count-is m ws ss a b = a ∙ (ap length b ∙ begun-length ss)

-- what is taken from the abort
pub taken-from : (o : Option Abort) (r : Option SignalId) (P : Abort → SignalId → Type 0) → MatchOption o (r ≡ None) (λ x. IsSomeAnd r (P x)) → ((x : Abort) (s : SignalId) → P x s → s ≡ x.signal)
    → (after : Option ℤ) → o ≡ abort_of after → r ≡ signal_of (is_some after)
taken-from None r P m f None e = m
taken-from (Some x) (Some s) P m f (Some after) e = let g = f x s m in let h : x.signal ≡ record { 0 = 0 } = cc in ap Some (g ∙ h)
taken-from (Some x) None P m f (Some after) e = absurd m
taken-from None r P m f (Some after) e = absurd (cc)
taken-from (Some x) r P m f None e = absurd (cc)

-- only a node that feeds the output may be aborted

pub after-none : (plan : Plan) (below : Bool) (x : Option ℤ) → below ≡ true → x ≡ None → x ≡ abort_in plan below
after-none plan true x e f = f
after-none plan false x e f = absurd (cc)

pub after-some : (plan : Plan) (below : Bool) (x : Option ℤ) → below ≡ false → x ≡ plan.abort_after → x ≡ abort_in plan below
after-some plan true x e f = absurd (cc)
after-some plan false x e f = f

-- of a share of a plan that isn't refused

module _ (plan : Plan) (share : Share) (above below : Bool) (h : IsAccepted plan) where
  abbrev shape : Shape
  shape = shape_with plan share above below

  abbrev n : ℕ
  n = count_in shape

  abbrev after : Option ℤ
  after = abort_in plan below

  fit : AreFit shape.stages
  fit = shared-fit plan share h

  pub count-small : n ≤ 16
  count-small = fit.few

  pub few : 2 * n + 2 ≤ most_streams
  few = few-streams n fit.few

  pub shared-count : (m : ℕ) (ws : List State) (ps : List Placed) → m ≡ length ws → ws ≡ all_begun (shared share ps) → ps ≡ plan.stages.items → m ≡ n
  shared-count m ws ps a b c = count-is m ws (shared share ps) a b ∙ ap (λ (qs : List Placed). length (shared share qs)) c

  pub in-range : (ps : List Placed) → ps ≡ plan.stages.items → list_all is_in_range (map (λ (p : Placed). p.stage) ps) ≡ true
  in-range ps e = subst (λ (qs : List Placed). list_all is_in_range (map (λ (p : Placed). p.stage) qs) ≡ true) (sym e) (accepted plan h).range

  pub shared-streams : (ps : List Placed) (s : Slots) → ps ≡ plan.stages.items → s ≡ run (streams (origin_by above) (target_by below) (length (shared share ps))) empty
      → s ≡ run (streams (origin_by above) (target_by below) n) empty
  shared-streams ps s e f = f ∙ ap (λ (qs : List Placed). run (streams (origin_by above) (target_by below) (length (shared share qs))) empty) e

  -- the realm before the pipes
  pub shared-made : (ps : List Placed) (s z : Slots) (x : Option ℤ) → ps ≡ plan.stages.items → s ≡ run (streams (origin_by above) (target_by below) (length (shared share ps))) empty
      → x ≡ after → z ≡ run (signals (is_some x)) s → z ≡ made (origin_by above) (target_by below) n (is_some after)
  shared-made ps s z x e f g k =
      signalled-is (origin_by above) (target_by below) n (is_some after) s z (shared-streams ps s e f) (k ∙ ap (λ (y : Option ℤ). run (signals (is_some y)) s) g)

  pub no-signal : (ps : List Placed) (s : Slots) → ps ≡ plan.stages.items → s ≡ run (streams (origin_by above) (target_by below) (length (shared share ps))) empty → length s.signals ≡ 0
  no-signal ps s e f = subst (λ (z : Slots). length z.signals ≡ 0) (sym (shared-streams ps s e f)) (none-signalled (origin_by above) (target_by below) n few)
