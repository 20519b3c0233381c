-- What holds of a writable stream at each moment of a run, with the effects that stand on the agenda; and what each effect keeps of it.
use Rattle.ws_steps.specs.declared.port.PortOperation.TheVariants.{PostChunk}
use Rattle.std.proofs.Common.{◌≡◌, ◌+◌, List, [], ◌∷◌, ◌++◌, None, slice_get, refl, ap, arith, ℕ, ◌≤◌, false, length, Result, append-nil, Bool, true, Some, sym, subst, ◌∙◌}
use Rattle.ws_value.specs.declared.ids.StreamId.{StreamId}
use Rattle.ws_value.specs.declared.ids.PromiseId.{PromiseId}
use Rattle.ws_value.specs.declared.value.Plain.{Plain}
use Rattle.ws_value.specs.declared.value.Value.{Value}
use Rattle.ws_steps.specs.declared.effects.Effect.{Effect}
use Rattle.ws_steps.specs.Promises.{Table, fresh, settle, tell, use_this, use_gift}
use Rattle.ws_steps.specs.Writable as writable
use Rattle.ws_steps.specs.Slots.{Slots, Done, owner_at, writable_at, on_writable, as_writable, WritableStream, nothing, put_writable, no_writable, has_writable}
use Rattle.ws_steps.specs.WritableHistory.{Writes, no_writes, writes_then, effect_writes, first_chunk, operation_writes}
use Rattle.ws_steps.specs.declared.{calls.Event.{Event}, calls.Event.TheVariants.{Host as HostCalled, Signal}, calls.HostCall.{HostCall}}
use Rattle.ws_steps.specs.declared.effects.Effect.TheVariants.{Readable, Writable, Pipe, Signal, Transform, Tee, Port, Queue, PullAlgorithm, CancelAlgorithm, WriteAlgorithm, CloseAlgorithm, AbortAlgorithm, ChunkSteps, CloseSteps, ErrorSteps, StartAlgorithm, Give, CallHost}
use Rattle.ws_steps.specs.declared.{effects.Gift.{Gift}, effects.Use.{Use}, promises.Step.{Step}, readable.ReadableOperation.{ReadableOperation}}
use Rattle.ws_steps.specs.declared.{transform.TransformOperation.TheVariants.{TransformChunk}}
use Rattle.ws_steps.specs.declared.writable.WritableOperation.{WritableOperation}
use Rattle.ws_steps.specs.Effects.{Out, cause, settling}
use Rattle.ws_steps.specs.Operations.{writable_operation}
use Rattle.ws_steps.specs.Writable.{write_to_host, Acts, hand_on}
use Rattle.ws_steps.specs.Turns.{call_host, row}
use Rattle.ws_steps.specs.Histories.{is_same}
use Rattle.ws_steps.specs.declared.{writable.WritableOperation.TheVariants.{HandOn}}
use Rattle.ws_laws.proofs.Tables.{either, writable_acts, on_writable-other, on_writable-none, is_same-refl, same_id, on_writable-same, no_writable_there}
use Rattle.ws_laws.proofs.Halves.{Halved}
use Rattle.ws_laws.proofs.WritableDoes.{writable-does, IsHandOn}
use Rattle.ws_laws.proofs.Weights.{weigh, weigh-micro, weigh-fresh, weigh-settle, weigh-react, weigh-follow, weigh-answer}
use Rattle.ws_writable_laws.proofs.Shape.{is_start, is_write, is_close, is_abort, leads_to, hands, closes, all, all-append, mass, weight, of_use, of_reaction, core_of}
use Rattle.ws_writable_laws.proofs.Operations.{Due, Held, Less, with_effects, so_far, later_effects, fine-less, Fine, handed, chunk_handed, writes-nothing, with_operation, operation-held}
use Rattle.ws_laws.proofs.Ended.{Ended}
use Rattle.ws_writable_laws.proofs.Handed.{Tied, tied-row, no-half, no-end, nothing_chunk, nothing_handed, same-handed, acting, writes-acted, owned-held}
use Rattle.ws_steps.specs.Slots.{on_byte}
use Rattle.ws_steps.specs.Turns.{on_source}
use Rattle.ws_steps.specs.declared.effects.Effect.TheVariants.{Byte, CloseStepsWith}
use Rattle.ws_steps.specs.declared.byte.ByteOperation.{ByteOperation}
use Rattle.ws_steps.specs.Operations.{byte_operation}
use Rattle.ws_laws.proofs.ReadableDoes.{OfReadable}
use Rattle.ws_laws.proofs.Rows.{source-out, byte-out, out_of}
use Rattle.ws_laws.proofs.Tables.{on_source-none, on_source-writable, on_byte-none, on_byte-writable}
use Rattle.ws_steps.specs.Bytes as byte
use Rattle.ws_writable_laws.proofs.Leaves.{none_behind, massless, Leaves, pipe-leaves, signal-leaves, chunk-leaves, closing-leaves, closing_with-leaves, erring-leaves, transform-leaves, tee-leaves, port-leaves, pull-leaves, cancel-leaves, close-leaves, abort-leaves, write-leaves}

-- what is under way among the promises
abbrev pub among : StreamId → Table → Due
among i t = record { starts = weight (is_start i) t; writes = weight (is_write i) t; closes = weight (is_close i) t; aborts = weight (is_abort i) t }

-- nothing has happened of a stream that isn't made yet
pub record Unmade (i : StreamId) (h : Writes) (s : Slots) (es : List Effect) : Type 0 where
  pub closes : h.closes + all (closes i) es ≡ 0
  pub starts : weight (is_start i) s.promises + all (leads_to (is_start i)) es ≡ 0
  pub aborts : weight (is_abort i) s.promises + all (leads_to (is_abort i)) es ≡ 0

-- what holds of stream i at each moment, and of the halves of transform streams and the ends of ports
pub record Kept (i : StreamId) (h : Writes) (s : Slots) (es : List Effect) : Type 0 where
  pub unmade : slice_get s.streams i.0 ≡ None → Unmade i h s es
  pub held : Held i (among i s.promises) h es (writable_at i s)
  pub halved : Halved s
  pub ended : Ended s

-- the stream stays as it is, what was to be told of it was told or is still to be told, and no more is under way
pub record Lighter (i : StreamId) (h g : Writes) (s z : Slots) (es fs : List Effect) : Type 0 where
  pub there : slice_get z.streams i.0 ≡ None → slice_get s.streams i.0 ≡ None
  pub place : writable_at i z ≡ writable_at i s
  pub behind : all (hands i) (later_effects fs) ≡ 0
  pub core : core_of (handed (all (hands i) fs) (writable_at i s)) ≡ core_of (handed (all (hands i) es) (writable_at i s))
  pub told : so_far i g fs (writable_at i s) ≡ so_far i h es (writable_at i s)
  pub less : Less (with_effects i (among i z.promises) fs) (with_effects i (among i s.promises) es)

pub kept-lighter : (i : StreamId) (h g : Writes) (s z : Slots) (es fs : List Effect) → Lighter i h g s z es fs → Tied z → Kept i h s es → Kept i g z fs
kept-lighter i h g s z es fs l tied k =
    let n = ap (λ (x : Writes). x.closes) l.told in
    record {
      unmade = λ e. let u = k.unmade (l.there e) in let t = l.less in grind arith;
      held = record { behind = l.behind; dropped = k.held.dropped; fine = rw (l.place, l.told, l.core) (fine-less _ (with_effects i (among i s.promises) es) _ k.held.dropped _ l.less k.held.fine) };
      halved = tied.0;
      ended = tied.1;
    }

-- what an effect, or what comes first, may leave in its place

-- behind what was caused stands what stood behind
pub behind-next : (i : StreamId) (cs es : List Effect) → all (hands i) (later_effects cs) ≡ 0 → all (hands i) es ≡ 0 → all (hands i) (later_effects (cs ++ es)) ≡ 0
behind-next i [] [] f g = refl
behind-next i [] (e ∷ es) f g = omega arith
behind-next i (c ∷ cs) es f g = let n = all-append (hands i) cs es in omega arith

-- what is told of it
abbrev pub closing_told : ℕ → Writes
closing_told n = record no_writes { closes = n }

so_far-next : (i : StreamId) (h : Writes) (n : ℕ) (es fs : List Effect) (w : writable.Slots) → chunk_handed (all (hands i) fs) w ≡ chunk_handed (all (hands i) es) w → n + all (closes i) fs ≡ all (closes i) es
    → so_far i (writes_then h (closing_told n)) fs w ≡ so_far i h es w
so_far-next i h n es fs w e f = grind (arith, append-nil)

pub leaves-kept : (i : StreamId) (e : Effect) (s z : Slots) (cs : List Effect) (h : Writes) (es : List Effect) → Leaves i e s z cs → effect_writes i e s ≡ closing_told (closes i e) → Tied z → Kept i h s (e ∷ es)
    → Kept i (writes_then h (effect_writes i e s)) z (cs ++ es)
leaves-kept i e s z cs h es l t tied k =
    let behind : all (hands i) es ≡ 0 = k.held.behind in
    let hs = same-handed (all (hands i) (cs ++ es)) (hands i e + all (hands i) es) (slice_get s.streams i.0) (λ o. let a = all-append (hands i) cs es in let b = l.hands o (no-half s i k.halved o) (no-end s i k.ended o) in omega arith) in
    let cl : closes i e + all (closes i) (cs ++ es) ≡ closes i e + all (closes i) es = let a = all-append (closes i) cs es in let b = l.closes in omega arith in
    rw t (kept-lighter i h (writes_then h (closing_told (closes i e))) s z (e ∷ es) (cs ++ es) (record {
      there = l.there;
      place = l.place;
      behind = behind-next i cs es l.alone behind;
      core = hs.0;
      told = so_far-next i h (closes i e) (e ∷ es) (cs ++ es) _ hs.1 cl;
      less = grind (arith, all-append);
    }) tied k)

-- promises

-- no step weighs more
abbrev pub Lightens : Table → Table → Type 0
Lightens t u = (f : Step → ℕ) → weight f u ≤ weight f t

pub lightens-fresh : (t : Table) → Lightens t (fresh t)
lightens-fresh t f = weigh-fresh (of_reaction f) t

pub weight-tell : (f : Step → ℕ) (event : Event) (t : Table) → weight f (tell event t) ≡ weight f t
unfolding weigh
weight-tell f event t = refl

weight-use : (f : Step → ℕ) (p : PromiseId) (t : Table) (u : Use) → weight f (use_this p t u) ≤ weight f t + of_use f u
weight-use f p t u = grind (arith, weigh-react, weigh-follow)

pub weight-gift : (f : Step → ℕ) (gift : Gift) (u : Use) (t : Table) → weight f (use_gift gift u t) ≤ weight f t + of_use f u
unfolding use_gift
weight-gift f gift u t = grind (arith, weight-use, weigh-settle, weigh-fresh)

pub weight-host : (f : Step → ℕ) (call : HostCall) (u : Use) (s : Slots) → weight f (call_host call u s).promises ≤ weight f s.promises + of_use f u
unfolding call_host
weight-host f call u s = let b = weight-tell f (HostCalled (record { 0 = length s.hosts }) call) (fresh s.promises) in grind (arith, weight-use, weigh-fresh)

-- nothing that concerns the stream is caused
clear-leaves : (i : StreamId) (e : Effect) (s z : Slots) (cs : List Effect) → (slice_get z.streams i.0 ≡ None → slice_get s.streams i.0 ≡ None) → writable_at i z ≡ writable_at i s → Lightens s.promises z.promises
    → all (mass i) cs ≡ 0 → hands i e ≡ 0 → Leaves i e s z cs
clear-leaves i e s z cs there place l m h =
    let c = massless i cs m in
    let n = none_behind i cs c.hands in
    let l1 = l (is_start i) in let l2 = l (is_write i) in let l3 = l (is_close i) in let l4 = l (is_abort i) in grind arith

-- operations of streams

-- what an operation leaves outside its stream, where that is this one or another
abbrev pub Outside : StreamId → Bool → Table → Out → Type 0
Outside i same t x = (same ≡ false → all (mass i) x.effects ≡ 0) × Lightens t x.promises

pub lightly : (t u v : Table) → Lightens t u → Lightens u v → Lightens t v
lightly t u v a b = λ f. let m = a f in let n = b f in omega arith

causes-outside : (i : StreamId) (same : Bool) (t : Table) (x : Out) (e : Effect) → (same ≡ false → mass i e ≡ 0) → Outside i same t x → Outside i same t (cause e x)
causes-outside i same t x e m o = (λ n. let a = all-append (mass i) x.effects (e ∷ []) in let z = o.0 n in let k = m n in omega arith, o.1)

settles-outside : (i : StreamId) (same : Bool) (t : Table) (x : Out) (p : PromiseId) (o : Result Plain Plain) → Outside i same t x → Outside i same t (settling p o x)
settles-outside i same t x p o q = (q.0, lightly t x.promises (settle p o x.promises) q.1 (λ f. weigh-settle (of_reaction f) p o x.promises))

pub same_weight : (t : Table) → Lightens t t
same_weight t f = omega arith

-- what an operation of a readable stream causes and settles
of-outside : (i j : StreamId) (t : Table) → OfReadable (Outside i false t) j
of-outside i j t = record {
  settle = λ x p o q. settles-outside i false t x p o q;
  pull = λ x q. causes-outside i false t x (PullAlgorithm j) (λ n. refl) q;
  cancel = λ x r p q. causes-outside i false t x (CancelAlgorithm j r p) (λ n. refl) q;
  chunk = λ x request v q. causes-outside i false t x (ChunkSteps j request v) (λ n. refl) q;
  close = λ x request q. causes-outside i false t x (CloseSteps j request) (λ n. refl) q;
  error = λ x request e q. causes-outside i false t x (ErrorSteps j request e) (λ n. refl) q;
}

readable-leaves : (i j : StreamId) (operation : ReadableOperation) (s : Slots) → Leaves i (Readable j operation) s (on_source operation j s).slots (on_source operation j s).caused
readable-leaves i j operation s =
    let t : Table = s.promises in
    let d : Done = on_source operation j s in
    let outside : Outside i false t (out_of d) = source-out (Outside i false t) j (of-outside i j t) operation s (λ n. refl, same_weight t) in
    let none : all (mass i) d.caused ≡ 0 = outside.0 refl in
    clear-leaves i (Readable j operation) s d.slots d.caused (on_source-none operation j s i) (on_source-writable operation j s i) (λ f. let l : weight f d.slots.promises ≤ weight f t = outside.1 f in omega (arith, l)) none refl

byte-leaves : (i j : StreamId) (operation : ByteOperation) (s : Slots) → let d : Done = on_byte (byte_operation j operation) j s in Leaves i (Byte j operation) s d.slots d.caused
byte-leaves i j operation s =
    let t : Table = s.promises in
    let op : byte.Acts → byte.Acts = byte_operation j operation in
    let d : Done = on_byte op j s in
    let outside : Outside i false t (out_of d) =
    byte-out (Outside i false t) j (of-outside i j t) (λ x q b h. causes-outside i false t x (CloseStepsWith j q b) (λ n. refl) h) operation s (λ n. refl, same_weight t) in
    let none : all (mass i) d.caused ≡ 0 = outside.0 refl in
    clear-leaves i (Byte j operation) s d.slots d.caused (on_byte-none op j s i) (on_byte-writable op j s i) (λ f. let l : weight f d.slots.promises ≤ weight f t = outside.1 f in omega (arith, l)) none refl

writable-outside : (i j : StreamId) (operation : WritableOperation) (s : Slots) → Outside i (is_same i j) s.promises (writable_operation j operation (writable_acts j s)).out
writable-outside i j operation s =
    let t : Table = s.promises in
    let b : Bool = is_same i j in
    writable-does (Outside i b t) j (record {
      settle = λ x p o q. settles-outside i b t x p o q;
      fresh = λ x q. (q.0, lightly t x.promises (fresh x.promises) q.1 (lightens-fresh x.promises));
      tell = λ x r q. (q.0, lightly t x.promises (tell (Signal j r) x.promises) q.1 (λ f. let e = weight-tell f (Signal j r) x.promises in omega arith));
      write = λ x q. causes-outside i b t x (WriteAlgorithm j) (λ n. rw n refl) q;
      close = λ x q. causes-outside i b t x (CloseAlgorithm j) (λ n. rw n refl) q;
      abort = λ x r p q. causes-outside i b t x (AbortAlgorithm j r p) (λ n. rw n refl) q;
      hand_on = λ x v q. causes-outside i b t x (write_to_host j v) (λ n. rw n refl) q;
      take = λ x v u d q. causes-outside i b t x (Transform u (TransformChunk v d)) (λ n. refl) q;
      post = λ x v c d q. causes-outside i b t x (Port c (PostChunk v d)) (λ n. refl) q;
    }) operation (writable_acts j s) (λ n. refl, same_weight t)

elsewhere-leaves : (i j : StreamId) (operation : WritableOperation) (s : Slots) → is_same i j ≡ false
    → Leaves i (Writable j operation) s (on_writable (writable_operation j operation) j s).slots (on_writable (writable_operation j operation) j s).caused
elsewhere-leaves i j operation s n =
    let op : writable.Acts → writable.Acts = writable_operation j operation in
    let outside = writable-outside i j operation s in
    let none = outside.0 n in
    clear-leaves i (Writable j operation) s (on_writable op j s).slots (on_writable op j s).caused (on_writable-none op j s i) (ap as_writable (on_writable-other op j s i n)) (λ f. let l = outside.1 f in grind arith) (grind arith) (grind arith)

-- an operation that keeps what holds of its stream, with the effects that stand behind it
after-own : (i : StreamId) (h : Writes) (t : Writes) (es : List Effect) (s z : Slots) (b : Acts) → slice_get z.streams i.0 ≡ Some (WritableStream b.slots) → z.promises ≡ b.out.promises → Lightens s.promises b.out.promises → all (hands i) es ≡ 0
    → Tied z → Held i (with_effects i (among i s.promises) es) (writes_then (record h { closes = h.closes + all (closes i) es }) t) b.out.effects b.slots → Kept i (writes_then h t) z (b.out.effects ++ es)
after-own i h t es s z b place promises l none tied k = record {
  halved = tied.0;
  ended = tied.1;
  unmade = λ e. cc;
  held = rw place (record {
    behind = behind-next i b.out.effects es k.behind none;
    dropped = k.dropped;
    fine =
        let cs = b.out.effects in
        let w = b.slots in
        let hs : all (hands i) (cs ++ es) ≡ all (hands i) cs = let a = all-append (hands i) cs es in omega arith in
        let cl : (h.closes + t.closes) + all (closes i) (cs ++ es) ≡ ((h.closes + all (closes i) es) + t.closes) + all (closes i) cs = let a = all-append (closes i) cs es in omega arith in
        rw (hs, cl) (fine-less _ (with_effects i (with_effects i (among i s.promises) es) cs) _ k.dropped _ (rw promises (let a = l (is_start i) in let b = l (is_write i) in let c = l (is_close i) in let e = l (is_abort i) in grind (arith, all-append))) k.fine);
  });
}

-- an operation of a stream that is there

-- the history with the closings of the effects that stand behind
abbrev pub behind_told : StreamId → Writes → List Effect → Writes
behind_told i h es = record h { closes = h.closes + all (closes i) es }

not_hands : (i : StreamId) (operation : WritableOperation) → (IsHandOn operation → ⊥) → hands i (Writable i operation) ≡ 0
not_hands i operation u = grind arith

own-fine : (i : StreamId) (operation : WritableOperation) (h : Writes) (n : Due) (d : List Value) (es : List Effect) (w : writable.Slots) (x : ℕ) → hands i (Writable i operation) ≡ x → all (hands i) es ≡ 0
    → Fine (with_effects i n (Writable i operation ∷ es)) (so_far i h (Writable i operation ∷ es) w) d (core_of (handed (all (hands i) (Writable i operation ∷ es)) w))
    → Fine (with_operation i operation (with_effects i n es)) (acting (behind_told i h es) (chunk_handed x w)) d (core_of (handed x w))
own-fine i operation h n d es w x e z f =
    let hs : hands i (Writable i operation) + all (hands i) es ≡ x = omega arith in
    let cl : h.closes + (0 + all (closes i) es) ≡ h.closes + all (closes i) es = omega arith in
    fine-less (with_operation i operation (with_effects i n es)) (with_effects i n (Writable i operation ∷ es)) _ d _ (grind arith) (rw (hs, cl) at f)

-- what an operation finds, but for the handing on
pub found : (i : StreamId) (operation : WritableOperation) (h : Writes) (es : List Effect) (s : Slots) → (IsHandOn operation → ⊥) → (k : Kept i h s (Writable i operation ∷ es))
    → Fine (with_operation i operation (with_effects i (among i s.promises) es)) (behind_told i h es) k.held.dropped (core_of (writable_at i s))
found i operation h es s u k = rw append-nil at (own-fine i operation h (among i s.promises) k.held.dropped es (writable_at i s) 0 (not_hands i operation u) k.held.behind k.held.fine)

there-held : (i : StreamId) (operation : WritableOperation) (h : Writes) (es : List Effect) (s : Slots) → Kept i h s (Writable i operation ∷ es)
    → Held i (with_effects i (among i s.promises) es) (writes_then (behind_told i h es) (operation_writes operation (writable_at i s))) (writable_operation i operation (writable_acts i s)).out.effects (writable_operation i operation (writable_acts i s)).slots
unfolding hand_on
there-held i (HandOn taker) h es s k =
    let w = writable_at i s in
    let f = own-fine i (HandOn taker) h (among i s.promises) k.held.dropped es w 1 (rw (is_same-refl i) refl) k.held.behind k.held.fine in
    rw (writes-acted (behind_told i h es) (first_chunk w.queue))
    (owned-held i taker (with_effects i (among i s.promises) es) (behind_told i h es) k.held.dropped (writable_acts i s) w.owner refl refl f)
there-held i operation h es s k =
    operation-held i operation (with_effects i (among i s.promises) es) (behind_told i h es) k.held.dropped (writable_acts i s) (λ u. u) refl (found i operation h es s (λ u. u) k)

-- of a stream that isn't there nothing is told

pub idle : (operation : WritableOperation) → operation_writes operation no_writable ≡ no_writes
idle operation = grind arith

absent-kept : (i : StreamId) (operation : WritableOperation) (h : Writes) (es : List Effect) (s : Slots) → has_writable i s ≡ false → Kept i h s (Writable i operation ∷ es) → Kept i (writes_then h (operation_writes operation (writable_at i s))) s es
absent-kept i operation h es s t k =
    let none : writable_at i s ≡ no_writable = no_writable_there (slice_get s.streams i.0) t in
    let told : operation_writes operation (writable_at i s) ≡ no_writes = ap (operation_writes operation) none ∙ idle operation in
    rw (told, writes-nothing h) (kept-lighter i h h s s (Writable i operation ∷ es) es (record {
      there = λ e. e;
      place = refl;
      behind = none_behind i es k.held.behind;
      core = rw none (nothing_handed (all (hands i) es) ∙ sym (nothing_handed (all (hands i) (Writable i operation ∷ es))));
      told = rw (none, nothing_chunk (all (hands i) es), nothing_chunk (all (hands i) (Writable i operation ∷ es))) (grind arith);
      less = grind arith;
    }) (k.halved, k.ended) k)

own-kept : (i : StreamId) (operation : WritableOperation) (h : Writes) (es : List Effect) (s : Slots) → Kept i h s (Writable i operation ∷ es)
    → Kept i (writes_then h (operation_writes operation (writable_at i s))) (on_writable (writable_operation i operation) i s).slots ((on_writable (writable_operation i operation) i s).caused ++ es)
unfolding row
own-kept i operation h es s k =
    let told : Writes = operation_writes operation (writable_at i s) in
    let b : Acts = writable_operation i operation (writable_acts i s) in
    let here : has_writable i s ≡ true → Tied (put_writable i s b).slots = λ t. rw t at (tied-row s (Writable i operation) es k.halved k.ended) in
    either (λ (d : Done). Kept i (writes_then h told) d.slots (d.caused ++ es)) (has_writable i s) (put_writable i s b) (nothing s)
    (λ t. after-own i h told es s (put_writable i s b).slots b (rw t at (on_writable-same (writable_operation i operation) i s t)) refl (writable-outside i i operation s).1 k.held.behind (here t) (there-held i operation h es s k))
    (λ t. absent-kept i operation h es s t k)

-- each effect

-- no operation of stream i
abbrev pub Elsewhere : StreamId → Effect → Type 0
Elsewhere i (Writable j operation) = is_same i j ≡ false
Elsewhere i _ = Unit {0}

pub row-leaves : (i : StreamId) (e : Effect) (s : Slots) → Elsewhere i e → Leaves i e s (row e s).slots (row e s).caused
unfolding row call_host
row-leaves i (Readable j operation) s x = readable-leaves i j operation s
row-leaves i (Byte j operation) s x = byte-leaves i j operation s
row-leaves i (Writable j operation) s x = elsewhere-leaves i j operation s x
row-leaves i (Pipe p operation) s x = pipe-leaves i p operation s (slice_get s.pipes p.0)
row-leaves i (Transform t operation) s x = transform-leaves i t operation s (slice_get s.transforms t.0) refl
row-leaves i (Tee t operation) s x = tee-leaves i t operation s (slice_get s.tees t.0)
row-leaves i (Port c operation) s x = port-leaves i c operation s (slice_get s.ports c.0) refl
row-leaves i (PullAlgorithm j) s x = pull-leaves i j s (owner_at j s)
row-leaves i (CancelAlgorithm j r p) s x = cancel-leaves i j r p s (owner_at j s)
row-leaves i (WriteAlgorithm j) s x = write-leaves i j s (owner_at j s) (is_same i j) refl refl
row-leaves i (CloseAlgorithm j) s x = close-leaves i j s (owner_at j s)
row-leaves i (AbortAlgorithm j r p) s x = abort-leaves i j r p s (owner_at j s)
row-leaves i (Signal a operation) s x = signal-leaves i a operation s (slice_get s.signals a.0)
row-leaves i (ChunkSteps j request v) s x = chunk-leaves i j v s request
row-leaves i (CloseSteps j request) s x = closing-leaves i j s request
row-leaves i (CloseStepsWith j request b) s x = closing_with-leaves i j b s request
row-leaves i (ErrorSteps j request e) s x = erring-leaves i j e s request
row-leaves i (Queue m) s x = grind (arith, weigh-micro)
row-leaves i (StartAlgorithm j step start) s x = grind (arith, weigh-fresh)
row-leaves i (Give gift u) s x = grind (arith, weight-gift)
row-leaves i (CallHost call u) s x = grind (arith, weight-host)
row-leaves i e s x = grind (arith, weigh-answer, weigh-settle)

pub elsewhere_told : (i : StreamId) (e : Effect) (s : Slots) → Elsewhere i e → effect_writes i e s ≡ closing_told (closes i e)
elsewhere_told i e s x = grind arith

elsewhere-kept : (i : StreamId) (h : Writes) (s : Slots) (e : Effect) (es : List Effect) → Elsewhere i e → Kept i h s (e ∷ es) → Kept i (writes_then h (effect_writes i e s)) (row e s).slots ((row e s).caused ++ es)
elsewhere-kept i h s e es x k = leaves-kept i e s (row e s).slots (row e s).caused h es (row-leaves i e s x) (elsewhere_told i e s x) (tied-row s e es k.halved k.ended) k

-- what is shown of an effect's stream where it is another, and where it is this one
pub same_or : (A : StreamId → Type 0) (i j : StreamId) (same : Bool) → same ≡ is_same i j → (is_same i j ≡ false → A j) → A i → A j
same_or A i j false e other here = other (sym e)
same_or A i j true e other here = subst A (same_id i j (sym e)) here

pub row-kept : (i : StreamId) (h : Writes) (s : Slots) (e : Effect) (es : List Effect) → Kept i h s (e ∷ es) → Kept i (writes_then h (effect_writes i e s)) (row e s).slots ((row e s).caused ++ es)
unfolding row
row-kept i h s (Writable j operation) es =
    same_or (λ l. Kept i h s (Writable l operation ∷ es) → Kept i (writes_then h (effect_writes i (Writable l operation) s)) (row (Writable l operation) s).slots ((row (Writable l operation) s).caused ++ es))
    i j (is_same i j) refl (λ n k. elsewhere-kept i h s (Writable j operation) es n k) (λ k. rw (is_same-refl i) (own-kept i operation h es s k))
row-kept i h s e es = elsewhere-kept i h s e es tt
