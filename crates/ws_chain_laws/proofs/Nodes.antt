-- What a host does with the streams of a chain, and what it hears of them.
use Rattle.std.proofs.Common.{◌≡◌, ℕ, zero, suc, ◌+◌, ◌*◌, ◌≤◌, nat_eq, not, Bool, true, false, if◌then◌else◌, [], ◌∷◌, refl, ap, ◌∙◌, arith}
use Rattle.ws_value.specs.declared.ids.StreamId.{StreamId}
use Rattle.ws_value.specs.declared.value.Value.{Value}
use Rattle.ws_steps.specs.declared.calls.Call.TheVariants.{Enqueue, Finish, Fail, Terminate, Trigger, Deliver, Settle}
use Rattle.ws_steps.specs.declared.calls.Event.{Event}
use Rattle.ws_steps.specs.declared.calls.Event.TheVariants.{Host as HostCalled, Post}
use Rattle.ws_value.specs.declared.ids.HostId.{HostId}
use Rattle.ws_value.specs.declared.ids.PortId.{PortId}
use Rattle.ws_value.specs.declared.value.Message.{Message}
use Rattle.ws_steps.specs.declared.calls.HostCall.TheVariants.{Write, Close, Transform, Flush}
use Rattle.ws_steps.specs.Histories.{is_same}
use Rattle.ws_laws.proofs.Tables.{eq_numbers, is_same-refl}
use Rattle.ws_flow.specs.Told.{Open, Closed, Told, told}
use Rattle.ws_link_laws.specs.Link.{OfTransform, silence, heard_of, heard_post, lets_in, is_end, is_port, delivered}
use Rattle.ws_chain_laws.specs.Chain.{Origin, FromChunks, FromBytes, FromPort, Target, ToSink, ToPort, first_giver, last_ear, giver, source_of, dest_of, transform_of, call_enters, heard_at}
use Rattle.ws_chain_laws.specs.Nodes.{only_at, finishes, by_sink, EachNodesCallLeaves, EachNodesCallBrings, EachEventIsHeardAtOneLink}
use Rattle.ws_chain_laws.proofs.Numbers.{unlike, same_where}

pub each_nodes_call_leaves : EachNodesCallLeaves
each_nodes_call_leaves n = record {
  settle = λ h answer k l. refl;
  enqueue = λ i v k l. refl;
  finish = λ i k l. refl;
  terminate = λ i k l. refl;
  fail = λ m reason k l. ap not (unlike (2 * k + 1) (2 * m) (λ e. omega (arith, e)));
  trigger = λ a reason k l. refl;
  deliver = λ c m k l. refl;
}

-- what they bring

same-source : (k m : ℕ) → is_same (source_of k) (source_of m) ≡ nat_eq k m
same-source k m = same_where (2 * k) (2 * m) k m (λ e. ap (λ (x : ℕ). 2 * x) e) (λ e. omega (arith, e))

settle-brings : (origin : Origin) (k : ℕ) → (h : _) (answer : _) → call_enters origin k (Settle h answer) ≡ silence
settle-brings origin zero h answer = refl
settle-brings origin (suc k) h answer = refl

fail-brings : (origin : Origin) (k : ℕ) → (i : StreamId) (reason : _) → call_enters origin k (Fail i reason) ≡ silence
fail-brings origin zero i reason = refl
fail-brings origin (suc k) i reason = refl

trigger-brings : (origin : Origin) (k : ℕ) → (a : _) (reason : _) → call_enters origin k (Trigger a reason) ≡ silence
trigger-brings origin zero a reason = refl
trigger-brings origin (suc k) a reason = refl

choose : (t : Told Value) (b c : Bool) → b ≡ c → (if b then t else silence) ≡ (if c then t else silence)
choose t b c e = ap (λ (x : Bool). if x then t else silence) e

enqueue-brings : (origin : Origin) (k m : ℕ) (v : Value) → call_enters origin k (Enqueue (source_of m) v) ≡ only_at m (lets_in (giver origin m) v) k
enqueue-brings origin k m v = by (nat_eq k m) refl
  where
    by : (b : Bool) → nat_eq k m ≡ b → (if is_same (source_of k) (source_of m) then lets_in (giver origin k) v else silence) ≡ (if nat_eq k m then lets_in (giver origin m) v else silence)
    by true e =
        let is : k ≡ m = eq_numbers k m e in
        ap (λ (x : Bool). if x then lets_in (giver origin k) v else silence) (same-source k m) ∙ rw (e, is) refl
    by false e = ap (λ (x : Bool). if x then lets_in (giver origin k) v else silence) (same-source k m) ∙ rw e refl

finish-brings : (origin : Origin) (k : ℕ) → call_enters origin k (Finish (source_of 0)) ≡ only_at 0 (finishes origin) k
finish-brings FromChunks zero = refl
finish-brings FromBytes zero = refl
finish-brings FromPort zero = refl
finish-brings origin (suc k) = let u : nat_eq (suc k) 0 ≡ false = unlike (suc k) 0 (λ e. omega (arith, e)) in rw u refl

terminate-brings : (origin : Origin) (k m : ℕ) → call_enters origin k (Terminate (source_of (suc m))) ≡ only_at (suc m) (told [] Closed) k
terminate-brings FromChunks zero m = let u : nat_eq 0 (suc m) ≡ false = unlike 0 (suc m) (λ e. omega (arith, e)) in rw u refl
terminate-brings FromBytes zero m = let u : nat_eq 0 (suc m) ≡ false = unlike 0 (suc m) (λ e. omega (arith, e)) in rw u refl
terminate-brings FromPort zero m = let u : nat_eq 0 (suc m) ≡ false = unlike 0 (suc m) (λ e. omega (arith, e)) in rw u refl
terminate-brings origin (suc k) m = choose (told [] Closed) (is_same (source_of (suc k)) (source_of (suc m))) (nat_eq (suc k) (suc m)) (same-source (suc k) (suc m))

deliver-brings : (origin : Origin) (k : ℕ) (c : PortId) (m : Message) → is_end (first_giver origin) c ≡ true → call_enters origin k (Deliver c m) ≡ only_at 0 (delivered m) k
deliver-brings FromChunks k c m e = cc
deliver-brings FromBytes k c m e = cc
deliver-brings FromPort zero c m e = rw e refl
deliver-brings FromPort (suc k) c m e = let u : nat_eq (suc k) 0 ≡ false = unlike (suc k) 0 (λ e. omega (arith, e)) in rw u refl

deliver-none : (origin : Origin) (k : ℕ) (c : PortId) (m : Message) → is_end (first_giver origin) c ≡ false → call_enters origin k (Deliver c m) ≡ silence
deliver-none FromChunks zero c m e = refl
deliver-none FromBytes zero c m e = refl
deliver-none FromPort zero c m e = rw e refl
deliver-none origin (suc k) c m e = refl

pub each_nodes_call_brings : EachNodesCallBrings
each_nodes_call_brings origin k = record {
  settle = settle-brings origin k;
  enqueue = enqueue-brings origin k;
  finish = finish-brings origin k;
  terminate = terminate-brings origin k;
  fail = fail-brings origin k;
  trigger = trigger-brings origin k;
  deliver = deliver-brings origin k;
  elsewhere = deliver-none origin k;
}

-- what the host hears

module _ (origin : Origin) (target : Target) (n k : ℕ) (l : k ≤ n) where
  -- at the last link, or by transform stream m
  at-last : (e : Event) (t : Told Value) → (k ≡ n → heard_of (last_ear origin target (dest_of k)) e ≡ t) → (heard_of (OfTransform (transform_of k) (source_of (suc k))) e ≡ silence)
      → heard_at origin target n k e ≡ only_at n t k
  at-last event t f g = by (nat_eq k n) refl
    where
      by : (b : Bool) → nat_eq k n ≡ b → heard_at origin target n k event ≡ only_at n t k
      by true e = rw (e) (f (eq_numbers k n e))
      by false e = rw e g

  at-half : (m : ℕ) (event : Event) (t : Told Value) → suc m ≤ n → (heard_of (last_ear origin target (dest_of k)) event ≡ silence) → (heard_of (OfTransform (transform_of k) (source_of (suc k))) event ≡ only_at m t k)
      → heard_at origin target n k event ≡ only_at m t k
  at-half m event t less f g = by (nat_eq k n) refl
    where
      by : (b : Bool) → nat_eq k n ≡ b → heard_at origin target n k event ≡ only_at m t k
      by true e =
          let is = eq_numbers k n e in
          let u : nat_eq k m ≡ false = unlike k m (λ g. omega (arith, g, is, less)) in
          rw (e, u) f
      by false e = rw e g

  same-half : (m : ℕ) → is_same (source_of (suc k)) (source_of (suc m)) ≡ nat_eq k m
  same-half m = same_where (2 * suc k) (2 * suc m) k m (λ e. ap (λ (x : ℕ). 2 * suc x) e) (λ e. omega (arith, e))

  -- nowhere
  nowhere : (event : Event) → (heard_of (last_ear origin target (dest_of k)) event ≡ silence) → (heard_of (OfTransform (transform_of k) (source_of (suc k))) event ≡ silence) → heard_at origin target n k event ≡ silence
  nowhere event f g = by (nat_eq k n) refl
    where
      by : (b : Bool) → nat_eq k n ≡ b → heard_at origin target n k event ≡ silence
      by true e = rw e f
      by false e = rw e g

same-dest : (k n : ℕ) → k ≡ n → is_same (dest_of k) (dest_of n) ≡ true
same-dest k n e = rw e (is_same-refl (dest_of n))

sink-writes : (origin : Origin) (target : Target) (k n : ℕ) (id : HostId) (v : Value) → k ≡ n
    → heard_of (last_ear origin target (dest_of k)) (HostCalled id (Write (dest_of n) v)) ≡ by_sink target (told (v ∷ []) Open)
sink-writes origin ToSink k n id v e = rw (same-dest k n e) refl
sink-writes origin ToPort k n id v e = refl

sink-closes : (origin : Origin) (target : Target) (k n : ℕ) (id : HostId) → k ≡ n
    → heard_of (last_ear origin target (dest_of k)) (HostCalled id (Close (dest_of n))) ≡ by_sink target (told [] Closed)
sink-closes origin ToSink k n id e = rw (same-dest k n e) refl
sink-closes origin ToPort k n id e = refl

-- the ear of the last link hears nothing of transform streams, and no other event

no-transform : (origin : Origin) (target : Target) (j i : StreamId) (id : HostId) (v : Value) → heard_of (last_ear origin target j) (HostCalled id (Transform i v)) ≡ silence
no-transform origin ToSink j i id v = refl
no-transform origin ToPort j i id v = refl

no-flush : (origin : Origin) (target : Target) (j i : StreamId) (id : HostId) → heard_of (last_ear origin target j) (HostCalled id (Flush i)) ≡ silence
no-flush origin ToSink j i id = refl
no-flush origin ToPort j i id = refl

posts : (origin : Origin) (target : Target) (j i : StreamId) (c : PortId) (m : Message) → is_port (last_ear origin target i) c ≡ true → heard_of (last_ear origin target j) (Post c m) ≡ heard_post m
posts origin ToSink j i c m e = cc
posts origin ToPort j i c m e = rw e refl

posts-none : (origin : Origin) (target : Target) (j i : StreamId) (c : PortId) (m : Message) → is_port (last_ear origin target i) c ≡ false → heard_of (last_ear origin target j) (Post c m) ≡ silence
posts-none origin ToSink j i c m e = refl
posts-none origin ToPort j i c m e = rw e refl

pub each_event_is_heard_at_one_link : EachEventIsHeardAtOneLink
each_event_is_heard_at_one_link origin target n k l = record {
  write = λ id v. at-last origin target n k l (HostCalled id (Write (dest_of n) v)) (by_sink target (told (v ∷ []) Open)) (sink-writes origin target k n id v) refl;
  close = λ id. at-last origin target n k l (HostCalled id (Close (dest_of n))) (by_sink target (told [] Closed)) (sink-closes origin target k n id) refl;
  transform = λ id m v less.
      at-half origin target n k l m (HostCalled id (Transform (source_of (suc m)) v)) (told (v ∷ []) Open) less (no-transform origin target (dest_of k) (source_of (suc m)) id v)
      (choose (told (v ∷ []) Open) _ _ (same-half origin target n k l m));
  flush = λ id m less.
      at-half origin target n k l m (HostCalled id (Flush (source_of (suc m)))) (told [] Closed) less (no-flush origin target (dest_of k) (source_of (suc m)) id)
      (choose (told [] Closed) _ _ (same-half origin target n k l m));
  start = λ id i. refl;
  pull = λ id i. refl;
  cancel = λ id i reason. refl;
  abort = λ id i reason. refl;
  cancel_transform = λ id i reason. refl;
  settled = λ p. refl;
  signal = λ i reason. refl;
  post = λ c m e. at-last origin target n k l (Post c m) (heard_post m) (λ is. posts origin target (dest_of k) (dest_of n) c m e) refl;
  post_elsewhere = λ c m e. nowhere origin target n k l (Post c m) (posts-none origin target (dest_of k) (dest_of n) c m e) refl;
}
