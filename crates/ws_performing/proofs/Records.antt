-- What an operation of a pipe, of a transform stream, of a port or of a signal takes of the places of a realm.
use Rattle.std.proofs.Common.{◌≡◌, ◌≤◌, ◌<◌, ℕ, zero, suc, ◌+◌, ◌*◌, ◌⊎◌, inl, inr, ⊎_elim, Bool, true, false, not, ◌&&◌, if◌then◌else◌, List, [], ◌∷◌, ◌++◌, length, map, Some, None, refl, sym, ap, ◌∙◌, subst, Contains, arith}
use Rattle.std.specs.Prelude.{slice_get, slice_set, nat_lt}
use Rattle.std.proofs.lemmas.Bool.{false≢true}
use Rattle.std.proofs.lemmas.List.Elements.{Contains-append_left, Contains-append_right}
use Rattle.ws_value.specs.declared.ids.PipeId.{PipeId}
use Rattle.ws_value.specs.declared.ids.PortId.{PortId}
use Rattle.ws_value.specs.declared.ids.SignalId.{SignalId}
use Rattle.ws_pipe.specs.Seen.{SeenSignal, HasMemberRoom, aborts_of}
use Rattle.ws_steps.specs.declared.effects.Effect.{Effect}
use Rattle.ws_steps.specs.declared.effects.Effect.TheVariants.{Pipe, Signal, Transform, Port}
use Rattle.ws_steps.specs.declared.pipes.Ends.{Ends}
use Rattle.ws_steps.specs.declared.pipes.PipeOperation.{PipeOperation}
use Rattle.ws_steps.specs.declared.pipes.SignalOperation.{SignalOperation}
use Rattle.ws_steps.specs.declared.port.PortOperation.{PortOperation}
use Rattle.ws_steps.specs.declared.transform.Halves.{Halves}
use Rattle.ws_steps.specs.declared.transform.TransformId.{TransformId}
use Rattle.ws_steps.specs.declared.transform.TransformOperation.{TransformOperation}
use Rattle.ws_steps.specs.Operations.{pipe_operation, signal_operation, transform_operation, port_operation}
use Rattle.ws_steps.specs.Cross as cross
use Rattle.ws_steps.specs.Pipes as pipe
use Rattle.ws_steps.specs.Places.{prices_of, table_size, turns_alone, queued_alone, requests_alone, members_alone, pipe_price, signal_price, transform_price, port_price, own_signal}
use Rattle.ws_steps.specs.Slots.{Slots, found, ends_at, halves_at, clones_at, put_pipe, put_signal, put_transform, put_port}
use Rattle.ws_steps.specs.Transform as transform
use Rattle.ws_steps.specs.Turns.{row}
use Rattle.ws_steps.proofs.StreamLaws.{map-set}
use Rattle.ws_room_laws.proofs.Pipes.{pipe-takes, signal-takes}
use Rattle.ws_room_laws.proofs.Ports.{port-takes}
use Rattle.ws_room_laws.proofs.Transforms.{transform-takes}
use Rattle.ws_room_laws.proofs.Rows.{each-none, get-other, same-or}
use Rattle.ws_tables.specs.View.{slots_of, signal_of}
use Rattle.ws_tables.specs.Room.{aborts_in, AllHaveMembers}
use Rattle.ws_performing.specs.Performing.{Performs}
use Rattle.ws_tables.specs.declared.tables.Tables.{Tables}
use Rattle.ws_performing.proofs.Keeps.{signal-keeps-is, aborts-one, aborts-put}
use Rattle.ws_performing.proofs.Streams.{Took, absent, each-one}
use Rattle.ws_tables.proofs.Elements.{get-map, put-is}

-- numbers of records

pub within-none : {X : Type 0} (xs : List X) (i : ℕ) → length xs ≤ i → slice_get xs i ≡ None
within-none [] i past = refl
within-none (x ∷ xs) zero past = absurd (omega arith)
within-none (x ∷ xs) (suc i) past = within-none xs i (omega arith)

-- pipes

pub pipe-absent : (p : PipeId) (operation : PipeOperation) (t : Tables) → length (slots_of t).pipes ≤ p.0 → t.caused.effects ≡ [] → Performs (Pipe p operation) t t
unfolding row
pipe-absent p operation t past quiet = let none = within-none (slots_of t).pipes p.0 past in absent (Pipe p operation) t (rw none refl) quiet

pub pipe-row : (p : PipeId) (operation : PipeOperation) (s : Slots) (x : pipe.Slots) (a : pipe.Acts) → slice_get s.pipes p.0 ≡ Some x
    → a ≡ pipe_operation p (ends_at x s) operation (record { slots = x; out = found s }) → row (Pipe p operation) s ≡ put_pipe p s a
unfolding row
pipe-row p operation s x a is did = rw (is, did) refl

pub record PipeTook (operation : PipeOperation) (es : List Effect) : Type 0 where
  pub queued : prices_of queued_alone es ≤ pipe_price queued_alone operation
  pub requested : prices_of requests_alone es ≤ pipe_price requests_alone operation
  pub members : prices_of members_alone es ≤ pipe_price members_alone operation

pub pipe-took : (p : PipeId) (ends : Ends) (operation : PipeOperation) (a : pipe.Acts) → a.out.effects ≡ [] → PipeTook operation (pipe_operation p ends operation a).out.effects
unfolding table_size
pipe-took p ends operation a quiet =
    let none : (prices_of queued_alone a.out.effects ≡ 0) × (prices_of requests_alone a.out.effects ≡ 0) × (prices_of members_alone a.out.effects ≡ 0) = rw quiet (refl, refl, refl) in
    let q = pipe-takes queued_alone p ends operation a in
    let r = pipe-takes requests_alone p ends operation a in
    let m = pipe-takes members_alone p ends operation a in
    record { queued = omega (arith, none.0, q); requested = omega (arith, none.1, r); members = omega (arith, none.2, m) }

-- transform streams

pub transform-absent : (t : TransformId) (operation : TransformOperation) (x : Tables) → length (slots_of x).transforms ≤ t.0 → x.caused.effects ≡ [] → Performs (Transform t operation) x x
unfolding row
transform-absent t operation x past quiet = let none = within-none (slots_of x).transforms t.0 past in absent (Transform t operation) x (rw none refl) quiet

pub transform-row : (t : TransformId) (operation : TransformOperation) (s : Slots) (x : transform.Slots) (a : transform.Acts) → slice_get s.transforms t.0 ≡ Some x
    → a ≡ transform_operation t (halves_at x s) operation (record { slots = x; out = found s }) → row (Transform t operation) s ≡ put_transform t s a
unfolding row
transform-row t operation s x a is did = rw (is, did) refl

pub record TransformTook (operation : TransformOperation) (es : List Effect) : Type 0 where
  pub queued : prices_of queued_alone es ≤ transform_price queued_alone operation
  pub requested : prices_of requests_alone es ≤ transform_price requests_alone operation
  pub members : prices_of members_alone es ≤ transform_price members_alone operation

pub transform-took : (t : TransformId) (halves : Halves) (operation : TransformOperation) (a : transform.Acts) → a.out.effects ≡ [] → TransformTook operation (transform_operation t halves operation a).out.effects
unfolding table_size
transform-took t halves operation a quiet =
    let none : (prices_of queued_alone a.out.effects ≡ 0) × (prices_of requests_alone a.out.effects ≡ 0) × (prices_of members_alone a.out.effects ≡ 0) = rw quiet (refl, refl, refl) in
    let q = transform-takes queued_alone t halves operation a in
    let r = transform-takes requests_alone t halves operation a in
    let m = transform-takes members_alone t halves operation a in
    record { queued = omega (arith, none.0, q); requested = omega (arith, none.1, r); members = omega (arith, none.2, m) }

-- ports

pub port-absent : (c : PortId) (operation : PortOperation) (x : Tables) → length (slots_of x).ports ≤ c.0 → x.caused.effects ≡ [] → Performs (Port c operation) x x
unfolding row
port-absent c operation x past quiet = let none = within-none (slots_of x).ports c.0 past in absent (Port c operation) x (rw none refl) quiet

pub port-row : (c : PortId) (operation : PortOperation) (s : Slots) (x : cross.Slots) (a : cross.Acts) → slice_get s.ports c.0 ≡ Some x
    → a ≡ port_operation c (clones_at x s) operation (record { slots = x; out = found s }) → row (Port c operation) s ≡ put_port c s a
unfolding row
port-row c operation s x a is did = rw (is, did) refl

pub record PortTook (operation : PortOperation) (es : List Effect) : Type 0 where
  pub queued : prices_of queued_alone es ≤ port_price queued_alone operation
  pub requested : prices_of requests_alone es ≤ port_price requests_alone operation
  pub members : prices_of members_alone es ≤ port_price members_alone operation

pub port-took : (c : PortId) (clones : Bool) (operation : PortOperation) (a : cross.Acts) → a.out.effects ≡ [] → PortTook operation (port_operation c clones operation a).out.effects
unfolding table_size
port-took c clones operation a quiet =
    let none : (prices_of queued_alone a.out.effects ≡ 0) × (prices_of requests_alone a.out.effects ≡ 0) × (prices_of members_alone a.out.effects ≡ 0) = rw quiet (refl, refl, refl) in
    let q = port-takes queued_alone c clones operation a in
    let r = port-takes requests_alone c clones operation a in
    let m = port-takes members_alone c clones operation a in
    record { queued = omega (arith, none.0, q); requested = omega (arith, none.1, r); members = omega (arith, none.2, m) }

-- signals

pub signal-absent : (a : SignalId) (operation : SignalOperation) (t : Tables) → length (slots_of t).signals ≤ a.0 → t.caused.effects ≡ [] → Performs (Signal a operation) t t
unfolding row
signal-absent a operation t past quiet = let none = within-none (slots_of t).signals a.0 past in absent (Signal a operation) t (rw none refl) quiet

pub signal-row : (a : SignalId) (operation : SignalOperation) (s : Slots) (x : pipe.Signal) → slice_get s.signals a.0 ≡ Some x
    → row (Signal a operation) s ≡ put_signal a s (signal_operation operation x)
unfolding row
signal-row a operation s x is = rw is refl

pub record SignalTook (operation : SignalOperation) (x y : pipe.Signal) (es : List Effect) : Type 0 where
  pub members : Took (own_signal members_alone operation) (length x.pipes) (length y.pipes) (prices_of members_alone es)
  pub turns : prices_of turns_alone es + 14 * aborts_of y + 1 ≤ 14 * aborts_of x + signal_price turns_alone operation
  pub queued : prices_of queued_alone es ≤ signal_price queued_alone operation
  pub requested : prices_of requests_alone es ≤ signal_price requests_alone operation

pub signal-own : (operation : SignalOperation) → signal_price members_alone operation ≡ own_signal members_alone operation
signal-own operation = grind arith

pub signal-took : (operation : SignalOperation) (x : pipe.Signal) → SignalTook operation x (signal_operation operation x).signal (signal_operation operation x).effects
signal-took operation x =
    let y : pipe.Signal = (signal_operation operation x).signal in
    let own = signal-own operation in
    let m = signal-takes members_alone 1 operation x (omega arith) in
    let c = signal-takes members_alone 0 operation x (omega arith) in
    let t = signal-takes turns_alone 0 operation x (omega arith) in
    let q = signal-takes queued_alone 0 operation x (omega arith) in
    let r = signal-takes requests_alone 0 operation x (omega arith) in
    let mx = signal-keeps-is members_alone x in let my = signal-keeps-is members_alone y in
    let tx = signal-keeps-is turns_alone x in let ty = signal-keeps-is turns_alone y in
    let qx = signal-keeps-is queued_alone x in let qy = signal-keeps-is queued_alone y in
    let rx = signal-keeps-is requests_alone x in let ry = signal-keeps-is requests_alone y in
    let ox = each-one x.pipes in let oy = each-one y.pipes in
    let zx = each-none x.pipes in let zy = each-none y.pipes in
    record {
      members = record { list = omega (arith, own, m, mx, my, ox, oy); caused = omega (arith, own, c, mx, my, zx, zy) };
      turns = omega (arith, t, tx, ty, zx, zy);
      queued = omega (arith, q, qx, qy, zx, zy);
      requested = omega (arith, r, rx, ry, zx, zy);
    }

-- after an operation that finds nothing caused
pub signal-did : (operation : SignalOperation) (x y : SeenSignal) (before after : List Effect) → before ≡ [] → y.signal ≡ (signal_operation operation x.signal).signal
    → after ≡ before ++ (signal_operation operation x.signal).effects → SignalTook operation x.signal y.signal after
signal-did operation x y before after quiet left caused = rw (caused, quiet, left) (signal-took operation x.signal)

-- one signal is put in the place of another

pub aborts-among : (xs : List SeenSignal) (i : ℕ) (x : SeenSignal) → slice_get xs i ≡ Some x → aborts_of x.signal ≤ aborts_in (map signal_of xs)
aborts-among xs i x is = aborts-one (map signal_of xs) i x.signal (get-map signal_of xs i x is)

pub aborts-after : (xs : List SeenSignal) (i : ℕ) (x y : SeenSignal) → slice_get xs i ≡ Some x
    → aborts_in (map signal_of (slice_set xs i y)) + aborts_of x.signal ≡ aborts_in (map signal_of xs) + aborts_of y.signal
aborts-after xs i x y is =
    ap (λ ys. aborts_in ys + aborts_of x.signal) (map-set signal_of xs i y)
    ∙ aborts-put (map signal_of xs) i x.signal y.signal (get-map signal_of xs i x is)

-- a place that is taken was paid for
pub paid-member : (q q' n c Q : ℕ) → Took n q q' c → nat_lt q Q ≡ true → nat_lt q' Q ≡ false → c < n
paid-member q q' n c Q took had has = let a = took.list in let e = took.caused in grind (arith, a, e)

pub has-place : (a b : ℕ) → nat_lt a b ≡ true → 1 + a ≤ b
has-place a b is = grind arith

pub place-has : (a b : ℕ) → 1 + a ≤ b → nat_lt a b ≡ true
place-has a b h = grind arith

-- an effect is noted at a price
pub noted-full : (g g' n c : ℕ) (had has : Bool) → c ≤ n → (had ≡ true → has ≡ false → c < n) → g' ≡ (if had && not has then g + 1 else g) → g' + c ≤ g + n
noted-full g g' n c true true a h is = omega (arith, a, is)
noted-full g g' n c true false a h is = let less = h refl refl in omega (arith, less, is)
noted-full g g' n c false true a h is = omega (arith, a, is)
noted-full g g' n c false false a h is = omega (arith, a, is)

-- places are to be made in each signal that has none, after one was put in the place of another

module _ (full : List SignalId) (a : SignalId) (y : SeenSignal) where
  abbrev noted : Bool → List SignalId
  noted b = if b then full ++ a ∷ [] else full

  still : (b : Bool) (j : SignalId) → Contains full j → Contains (noted b) j
  still true j h = Contains-append_left full (a ∷ []) j h
  still false j h = h

  covers : (b : Bool) (xs : List SeenSignal) → AllHaveMembers full xs → HasMemberRoom 1 y ⊎ Contains (noted b) a → AllHaveMembers (noted b) (slice_set xs a.0 y)
  covers b xs covered this j x is =
      ⊎_elim
      (λ (same : j.0 ≡ a.0).
      let number : j ≡ a = ap (λ n. record { 0 = n }) same in
      rw number (subst (λ z. HasMemberRoom 1 z ⊎ Contains (noted b) a) (put-is xs a.0 y x (ap (slice_get (slice_set xs a.0 y)) (sym same) ∙ is)) this))
      (λ other. ⊎_elim (λ h. inl h) (λ h. inr (still b j h)) (covered j x (sym (get-other xs a.0 j.0 y other) ∙ is)))
      (same-or j.0 a.0)

  pub cover-signal : (had has : Bool) (x : SeenSignal) (xs : List SeenSignal) → AllHaveMembers full xs → slice_get xs a.0 ≡ Some x → (HasMemberRoom 1 x → had ≡ true) → (has ≡ true → HasMemberRoom 1 y)
      → AllHaveMembers (noted (had && not has)) (slice_set xs a.0 y)
  cover-signal true true x xs covered is before after = covers false xs covered (inl (after refl))
  cover-signal true false x xs covered is before after = covers true xs covered (inr (Contains-append_right full (a ∷ []) a (0, omega arith, refl)))
  cover-signal false true x xs covered is before after = covers false xs covered (inl (after refl))
  cover-signal false false x xs covered is before after = covers false xs covered (⊎_elim (λ h. absurd (false≢true (before h))) (λ h. inr h) (covered a x is))
