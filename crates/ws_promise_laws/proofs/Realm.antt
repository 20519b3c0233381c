-- How often a promise stands in the slots of a realm, and what operations on its streams and pipes keep of that.
use Rattle.std.proofs.Common.{◌≡◌, ℕ, ◌+◌, ◌≤◌, zero, suc, Bool, true, false, List, [], ◌∷◌, Option, Some, None, slice_get, slice_set, refl, sym, arith}
use Rattle.ws_value.specs.declared.ids.PipeId.{PipeId}
use Rattle.ws_value.specs.declared.ids.PromiseId.{PromiseId}
use Rattle.ws_value.specs.declared.ids.StreamId.{StreamId}
use Rattle.ws_value.specs.declared.ids.TeeId.{TeeId}
use Rattle.ws_steps.specs.declared.tee.TeeOperation.{TeeOperation}
use Rattle.ws_promise_laws.proofs.Teeing.{tees}
use Rattle.ws_promise_laws.proofs.Porting.{ports}
use Rattle.ws_value.specs.declared.ids.PortId.{PortId}
use Rattle.ws_steps.specs.Cross as cross
use Rattle.ws_steps.specs.declared.port.PortOperation.{PortOperation}
use Rattle.ws_steps.specs.Operations.{port_operation}
use Rattle.ws_steps.specs.Slots.{on_port_at, clones_at}
use Rattle.ws_steps.specs.declared.{pipes.Phase.TheVariants.{Over}, pipes.PipeOperation.{PipeOperation}, readable.ReadableOperation.{ReadableOperation}, writable.WritableOperation.{WritableOperation}}
use Rattle.ws_steps.specs.Histories.{is_same}
use Rattle.ws_steps.specs.declared.{transform.TransformId.{TransformId}, transform.TransformOperation.{TransformOperation}}
use Rattle.ws_steps.specs.Operations.{readable_operation, writable_operation, pipe_operation, transform_operation, tee_operation}
use Rattle.ws_steps.specs.Pipes as pipe
use Rattle.ws_steps.specs.Readable as readable
use Rattle.ws_steps.specs.Tee as tee
use Rattle.ws_steps.specs.Transform as transform
use Rattle.ws_steps.specs.Slots.{Slots, Stream, ReadableStream, WritableStream, Done, nothing, no_readable, has_readable, has_writable, readable_at, writable_at, on_readable, on_writable, put_readable, put_writable, found, ends_at, halves_at, on_pipe_at, on_transform_at, on_tee_at}
use Rattle.ws_steps.specs.Writable as writable
use Rattle.ws_laws.proofs.Tables.{readable_there, writable_there, readable_acts, writable_acts, same_id, on_readable-writable, on_writable-same, on_writable-other}
use Rattle.ws_promise_laws.proofs.Holds.{Holds, holds-less}
use Rattle.ws_promise_laws.proofs.Piping.{pipes, PipeExpects}
use Rattle.ws_promise_laws.proofs.Readables.{reads}
use Rattle.ws_promise_laws.proofs.Bytes.{Keeps, bytes, byte_reads}
use Rattle.ws_promise_laws.proofs.Tokens.{of_byte}
use Rattle.ws_laws.proofs.Tables.{either}
use Rattle.ws_promise_laws.proofs.Streams.{in_readable, in_writable, loose_in, in_pipe, in_transform, in_tee, in_port, Calm, Reads, Writes, Pipes, Transforms, Tees, Ports}
use Rattle.ws_promise_laws.proofs.Tokens.{names_any, of_readable, of_writable, of_transform, of_tee, of_port, in_effects}
use Rattle.ws_promise_laws.proofs.Transforming.{transforms}
use Rattle.ws_promise_laws.proofs.WritableAsks.{Expects, writes}
use Rattle.ws_steps.specs.Slots.{ByteStream, has_byte, byte_at, on_byte, put_byte}
use Rattle.ws_steps.specs.Turns.{on_source}
use Rattle.ws_steps.specs.declared.byte.ByteOperation.{ByteOperation}
use Rattle.ws_steps.specs.Operations.{byte_operation, byte_readable_operation}
use Rattle.ws_laws.proofs.Tables.{on_byte-writable, byte_acts, byte_there}
use Rattle.ws_steps.specs.Bytes as byte

abbrev pub in_stream : PromiseId → Stream → ℕ
in_stream x (ReadableStream r) = in_readable x r
in_stream x (ByteStream b) = in_readable x b.stream
in_stream x (WritableStream w) = in_writable x w

abbrev pub loose_in_stream : PromiseId → Stream → ℕ
loose_in_stream x (ReadableStream r) = 0
loose_in_stream x (ByteStream b) = 0
loose_in_stream x (WritableStream w) = loose_in x w

-- so much for each stream
abbrev pub in_all : (Stream → ℕ) → List Stream → ℕ
in_all h [] = 0
in_all h (s ∷ ss) = h s + in_all h ss

-- the calls of hosts' algorithms that the host hasn't answered
abbrev pub in_hosts : PromiseId → List (Option PromiseId) → ℕ
in_hosts x [] = 0
in_hosts x (h ∷ hs) = names_any x h + in_hosts x hs

-- so much for each pipe
abbrev pub in_pipes : PromiseId → List pipe.Slots → ℕ
in_pipes x [] = 0
in_pipes x (p ∷ ps) = in_pipe x p + in_pipes x ps

-- so much for each transform stream
abbrev pub in_transforms : PromiseId → List transform.Slots → ℕ
in_transforms x [] = 0
in_transforms x (t ∷ ts) = in_transform x t + in_transforms x ts

-- so much for each tee
abbrev pub in_tees : PromiseId → List tee.Slots → ℕ
in_tees x [] = 0
in_tees x (t ∷ ts) = in_tee x t + in_tees x ts

-- so much for each port
abbrev pub in_ports : PromiseId → List cross.Slots → ℕ
in_ports x [] = 0
in_ports x (c ∷ cs) = in_port x c + in_ports x cs

abbrev pub firm_in : PromiseId → Slots → ℕ
firm_in x s = in_all (in_stream x) s.streams + (in_pipes x s.pipes + (in_hosts x s.hosts + (in_transforms x s.transforms + (in_tees x s.tees + in_ports x s.ports))))

abbrev pub loosely_in : Slots → PromiseId → ℕ
loosely_in s x = in_all (loose_in_stream x) s.streams

-- In all of a realm, and so often outside it, each promise stands at most once, and then it is open. A stream that has ended closes no
-- more
pub record Sound (f : PromiseId → ℕ) (s : Slots) : Type 0 where
  pub holds : Holds (λ x. f x + firm_in x s) (loosely_in s) s.promises
  pub calm : (i : StreamId) → Calm (writable_at i s)

pub sound-less : (f g : PromiseId → ℕ) (s : Slots) → ((x : PromiseId) → g x ≤ f x) → Sound f s → Sound g s
sound-less f g s n k = record {
  holds = holds-less (λ x. f x + firm_in x s) (loosely_in s) (λ x. g x + firm_in x s) (loosely_in s) s.promises k.holds (λ x. let m = n x in omega arith) (λ x. let m = n x in omega arith);
  calm = k.calm;
}

-- an effect leaves a realm so
abbrev pub Leaves : (PromiseId → ℕ) → Done → Type 0
Leaves f d = Sound (λ x. f x + in_effects x d.caused) d.slots

-- a stream is put in the place of another

some_same : (s t : Stream) → ◌≡◌ {A = Option Stream} (Some s) (Some t) → s ≡ t
some_same s t e = cc

in_all-set : (h : Stream → ℕ) (k : ℕ) (ss : List Stream) (old y : Stream) → slice_get ss k ≡ Some old → in_all h (slice_set ss k y) + h old ≡ in_all h ss + h y
in_all-set h k [] old y e = cc
in_all-set h zero (s ∷ ss) old y e = rw (some_same s old e) (omega arith)
in_all-set h (suc k) (s ∷ ss) old y e = let rest = in_all-set h k ss old y e in omega arith

-- a stream in which no promise stands
abbrev blank : Stream
blank = ReadableStream no_readable

-- how often a promise stands outside stream i
abbrev beside : (PromiseId → ℕ) → StreamId → Slots → PromiseId → ℕ
beside f i s x = f x + (in_all (in_stream x) (slice_set s.streams i.0 blank) + (in_pipes x s.pipes + (in_hosts x s.hosts + (in_transforms x s.transforms + (in_tees x s.tees + in_ports x s.ports)))))

abbrev loosely_beside : StreamId → Slots → PromiseId → ℕ
loosely_beside i s x = in_all (loose_in_stream x) (slice_set s.streams i.0 blank)

-- operations on readable streams

readable_sound : (f : PromiseId → ℕ) (i : StreamId) (operation : ReadableOperation) (s : Slots) → has_readable i s ≡ true → Sound (λ x. f x + of_readable x operation) s
    → (calm : (j : StreamId) → Calm (writable_at j (put_readable i s (readable_operation i operation (readable_acts i s))).slots))
    → Leaves f (put_readable i s (readable_operation i operation (readable_acts i s)))
readable_sound f i operation s e k calm =
    let old : Stream = ReadableStream (readable_at i s) in
    let y : readable.Acts = readable_operation i operation (readable_acts i s) in
    let there : slice_get s.streams i.0 ≡ Some old = readable_there (slice_get s.streams i.0) e in
    let before : Reads (λ x. beside f i s x + of_readable x operation) (loosely_beside i s) (readable_acts i s) =
    holds-less _ (loosely_in s) (λ x. (beside f i s x + of_readable x operation) + (in_readable x (readable_at i s) + 0)) (loosely_beside i s) s.promises k.holds
    (λ x. let c = in_all-set (in_stream x) i.0 s.streams old blank there in omega arith)
    (λ x. let c = in_all-set (in_stream x) i.0 s.streams old blank there in let d = in_all-set (loose_in_stream x) i.0 s.streams old blank there in omega arith) in
    record {
      holds =
          holds-less (λ x. beside f i s x + (in_readable x y.slots + in_effects x y.out.effects)) (loosely_beside i s) _ _ y.out.promises (reads (beside f i s) (loosely_beside i s) i operation (readable_acts i s) before)
          (λ x.
          let b = in_all-set (in_stream x) i.0 s.streams old blank there in
          let c = in_all-set (in_stream x) i.0 s.streams old (ReadableStream y.slots) there in
          omega arith)
          (λ x.
          let b = in_all-set (in_stream x) i.0 s.streams old blank there in
          let c = in_all-set (in_stream x) i.0 s.streams old (ReadableStream y.slots) there in
          let d = in_all-set (loose_in_stream x) i.0 s.streams old blank there in
          let e = in_all-set (loose_in_stream x) i.0 s.streams old (ReadableStream y.slots) there in
          omega arith);
      calm = calm;
    }

on_readable_by : (f : PromiseId → ℕ) (i : StreamId) (operation : ReadableOperation) (s : Slots) (there : Bool) → there ≡ has_readable i s
    → ((j : StreamId) → Calm (writable_at j (on_readable (readable_operation i operation) i s).slots)) → Sound (λ x. f x + of_readable x operation) s → Leaves f (on_readable (readable_operation i operation) i s)
on_readable_by f i operation s true e calm k =
    let same : on_readable (readable_operation i operation) i s ≡ put_readable i s (readable_operation i operation (readable_acts i s)) = rw (← e) refl in
    rw same (readable_sound f i operation s (sym e) k (rw same at calm))
on_readable_by f i operation s false e calm k =
    let same : on_readable (readable_operation i operation) i s ≡ nothing s = rw (← e) refl in
    rw same (sound-less (λ x. f x + of_readable x operation) (λ x. f x + 0) s (λ x. omega arith) k)

-- an operation takes the promises that it answers
pub on_readable-sound : (f : PromiseId → ℕ) (i : StreamId) (operation : ReadableOperation) (s : Slots) → Sound (λ x. f x + of_readable x operation) s → Leaves f (on_readable (readable_operation i operation) i s)
on_readable-sound f i operation s k =
    on_readable_by f i operation s (has_readable i s) refl (λ j. rw (on_readable-writable (readable_operation i operation) i s j (is_same j i) refl) (k.calm j)) k

-- operations on byte streams, which are given so much

byte_sound : (f g : PromiseId → ℕ) (i : StreamId) (operation : byte.Acts → byte.Acts) (s : Slots) → ((h l : PromiseId → ℕ) (a : byte.Acts) → Keeps (λ x. h x + g x) l a → Keeps h l (operation a))
    → has_byte i s ≡ true → Sound (λ x. f x + g x) s → ((j : StreamId) → Calm (writable_at j (put_byte i s (operation (byte_acts i s))).slots)) → Leaves f (put_byte i s (operation (byte_acts i s)))
byte_sound f g i operation s keeps e k calm =
    let old : Stream = ByteStream (byte_at i s) in
    let y : byte.Acts = operation (byte_acts i s) in
    let there : slice_get s.streams i.0 ≡ Some old = byte_there (slice_get s.streams i.0) e in
    let before : Keeps (λ x. beside f i s x + g x) (loosely_beside i s) (byte_acts i s) =
    holds-less _ (loosely_in s) (λ x. (beside f i s x + g x) + (in_readable x (byte_at i s).stream + 0)) (loosely_beside i s) s.promises k.holds
    (λ x. let c = in_all-set (in_stream x) i.0 s.streams old blank there in omega arith)
    (λ x. let c = in_all-set (in_stream x) i.0 s.streams old blank there in let d = in_all-set (loose_in_stream x) i.0 s.streams old blank there in omega arith) in
    record {
      holds =
          holds-less (λ x. beside f i s x + (in_readable x y.slots.stream + in_effects x y.out.effects)) (loosely_beside i s) _ _ y.out.promises (keeps (beside f i s) (loosely_beside i s) (byte_acts i s) before)
          (λ x.
          let b = in_all-set (in_stream x) i.0 s.streams old blank there in
          let c = in_all-set (in_stream x) i.0 s.streams old (ByteStream y.slots) there in
          omega arith)
          (λ x.
          let b = in_all-set (in_stream x) i.0 s.streams old blank there in
          let c = in_all-set (in_stream x) i.0 s.streams old (ByteStream y.slots) there in
          let d = in_all-set (loose_in_stream x) i.0 s.streams old blank there in
          let e = in_all-set (loose_in_stream x) i.0 s.streams old (ByteStream y.slots) there in
          omega arith);
      calm = calm;
    }

on_byte_by : (f g : PromiseId → ℕ) (i : StreamId) (operation : byte.Acts → byte.Acts) (s : Slots) → ((h l : PromiseId → ℕ) (a : byte.Acts) → Keeps (λ x. h x + g x) l a → Keeps h l (operation a)) → (there : Bool) → there ≡ has_byte i s
    → ((j : StreamId) → Calm (writable_at j (on_byte operation i s).slots)) → Sound (λ x. f x + g x) s → Leaves f (on_byte operation i s)
on_byte_by f g i operation s keeps true e calm k =
    let same : on_byte operation i s ≡ put_byte i s (operation (byte_acts i s)) = rw (← e) refl in
    rw same (byte_sound f g i operation s keeps (sym e) k (rw same at calm))
on_byte_by f g i operation s keeps false e calm k =
    let same : on_byte operation i s ≡ nothing s = rw (← e) refl in
    rw same (sound-less (λ x. f x + g x) (λ x. f x + 0) s (λ x. omega arith) k)

on_byte_with : (f g : PromiseId → ℕ) (i : StreamId) (operation : byte.Acts → byte.Acts) (s : Slots) → ((h l : PromiseId → ℕ) (a : byte.Acts) → Keeps (λ x. h x + g x) l a → Keeps h l (operation a))
    → Sound (λ x. f x + g x) s → Leaves f (on_byte operation i s)
on_byte_with f g i operation s keeps k = on_byte_by f g i operation s keeps (has_byte i s) refl (λ j. rw (on_byte-writable operation i s j) (k.calm j)) k

pub on_byte-sound : (f : PromiseId → ℕ) (i : StreamId) (operation : ByteOperation) (s : Slots) → Sound (λ x. f x + of_byte x operation) s → Leaves f (on_byte (byte_operation i operation) i s)
on_byte-sound f i operation s k = on_byte_with f (λ x. of_byte x operation) i (byte_operation i operation) s (λ h l a n. bytes h l i operation a n) k

pub on_source-sound : (f : PromiseId → ℕ) (i : StreamId) (operation : ReadableOperation) (s : Slots) → Sound (λ x. f x + of_readable x operation) s → Leaves f (on_source operation i s)
on_source-sound f i operation s k =
    either (Leaves f) (has_byte i s) (on_byte (byte_readable_operation i operation) i s) (on_readable (readable_operation i operation) i s)
    (λ is. on_byte_with f (λ x. of_readable x operation) i (byte_readable_operation i operation) s (λ h l a n. byte_reads h l i operation a n) k)
    (λ isnt. on_readable-sound f i operation s k)

-- operations on writable streams

calm_after : (operation : writable.Acts → writable.Acts) (i j : StreamId) (s : Slots) (same : Bool) → same ≡ is_same j i → has_writable i s ≡ true
    → Calm (operation (writable_acts i s)).slots → Calm (writable_at j s) → Calm (writable_at j (on_writable operation i s).slots)
calm_after operation i j s true e h here there = rw (same_id j i (sym e), on_writable-same operation i s h) here
calm_after operation i j s false e h here there = rw (on_writable-other operation i s j (sym e)) there

writable_sound : (f : PromiseId → ℕ) (i : StreamId) (operation : WritableOperation) (s : Slots) → has_writable i s ≡ true → Expects operation (writable_at i s)
    → Sound (λ x. f x + of_writable x operation) s → Leaves f (put_writable i s (writable_operation i operation (writable_acts i s)))
writable_sound f i operation s e expected k =
    let old : Stream = WritableStream (writable_at i s) in
    let y : writable.Acts = writable_operation i operation (writable_acts i s) in
    let there : slice_get s.streams i.0 ≡ Some old = writable_there (slice_get s.streams i.0) e in
    let before : Writes (λ x. beside f i s x + of_writable x operation) (loosely_beside i s) (writable_acts i s) =
    record {
      holds =
          holds-less _ (loosely_in s) (λ x. (beside f i s x + of_writable x operation) + (in_writable x (writable_at i s) + 0)) (λ x. loosely_beside i s x + loose_in x (writable_at i s)) s.promises k.holds
          (λ x. let c = in_all-set (in_stream x) i.0 s.streams old blank there in omega arith)
          (λ x. let c = in_all-set (in_stream x) i.0 s.streams old blank there in let d = in_all-set (loose_in_stream x) i.0 s.streams old blank there in omega arith);
      calm = k.calm i;
    } in
    let after : Writes (beside f i s) (loosely_beside i s) y = writes (beside f i s) (loosely_beside i s) i operation (writable_acts i s) expected before in
    record {
      holds =
          holds-less (λ x. beside f i s x + (in_writable x y.slots + in_effects x y.out.effects)) (λ x. loosely_beside i s x + loose_in x y.slots) _ _ y.out.promises after.holds
          (λ x.
          let b = in_all-set (in_stream x) i.0 s.streams old blank there in
          let c = in_all-set (in_stream x) i.0 s.streams old (WritableStream y.slots) there in
          omega arith)
          (λ x.
          let b = in_all-set (in_stream x) i.0 s.streams old blank there in
          let c = in_all-set (in_stream x) i.0 s.streams old (WritableStream y.slots) there in
          let d = in_all-set (loose_in_stream x) i.0 s.streams old blank there in
          let e = in_all-set (loose_in_stream x) i.0 s.streams old (WritableStream y.slots) there in
          omega arith);
      calm = λ j. rw e at (calm_after (writable_operation i operation) i j s (is_same j i) refl e after.calm (k.calm j));
    }

on_writable_by : (f : PromiseId → ℕ) (i : StreamId) (operation : WritableOperation) (s : Slots) (there : Bool) → there ≡ has_writable i s → Expects operation (writable_at i s)
    → Sound (λ x. f x + of_writable x operation) s → Leaves f (on_writable (writable_operation i operation) i s)
on_writable_by f i operation s true e expected k =
    let same : on_writable (writable_operation i operation) i s ≡ put_writable i s (writable_operation i operation (writable_acts i s)) = rw (← e) refl in
    rw same (writable_sound f i operation s (sym e) expected k)
on_writable_by f i operation s false e expected k =
    let same : on_writable (writable_operation i operation) i s ≡ nothing s = rw (← e) refl in
    rw same (sound-less (λ x. f x + of_writable x operation) (λ x. f x + 0) s (λ x. omega arith) k)

pub on_writable-sound : (f : PromiseId → ℕ) (i : StreamId) (operation : WritableOperation) (s : Slots) → Expects operation (writable_at i s) → Sound (λ x. f x + of_writable x operation) s
    → Leaves f (on_writable (writable_operation i operation) i s)
on_writable-sound f i operation s expected k = on_writable_by f i operation s (has_writable i s) refl expected k

-- operations on pipes

some_pipe : (p q : pipe.Slots) → ◌≡◌ {A = Option pipe.Slots} (Some p) (Some q) → p ≡ q
some_pipe p q e = cc

in_pipes-set : (x : PromiseId) (k : ℕ) (ps : List pipe.Slots) (old y : pipe.Slots) → slice_get ps k ≡ Some old → in_pipes x (slice_set ps k y) + in_pipe x old ≡ in_pipes x ps + in_pipe x y
in_pipes-set x k [] old y e = cc
in_pipes-set x zero (p ∷ ps) old y e = rw (some_pipe p old e) (omega arith)
in_pipes-set x (suc k) (p ∷ ps) old y e = let rest = in_pipes-set x k ps old y e in omega arith

-- a pipe in which no promise stands
abbrev spent : pipe.Slots → pipe.Slots
spent y = record y { phase = Over; whole = None }

pub on_pipe-sound : (f : PromiseId → ℕ) (p : PipeId) (operation : PipeOperation) (s : Slots) (o : Option pipe.Slots) → slice_get s.pipes p.0 ≡ o → PipeExpects operation o
    → Sound (λ x. f x + 0) s → Leaves f (on_pipe_at (λ ends. pipe_operation p ends operation) p s o)
on_pipe-sound f p operation s None e expected k = k
on_pipe-sound f p operation s (Some y) e expected k =
    let a : pipe.Acts = record { slots = y; out = found s } in
    let b : pipe.Acts = pipe_operation p (ends_at y s) operation a in
    let beside_pipe : PromiseId → ℕ = λ x. f x + (in_all (in_stream x) s.streams + (in_pipes x (slice_set s.pipes p.0 (spent y)) + (in_hosts x s.hosts + (in_transforms x s.transforms + (in_tees x s.tees + in_ports x s.ports))))) in
    let before : Pipes beside_pipe (loosely_in s) a =
    holds-less _ (loosely_in s) (λ x. beside_pipe x + (in_pipe x y + 0)) (loosely_in s) s.promises k.holds
    (λ x. let c = in_pipes-set x p.0 s.pipes y (spent y) e in omega arith) (λ x. let c = in_pipes-set x p.0 s.pipes y (spent y) e in omega arith) in
    record {
      holds =
          holds-less (λ x. beside_pipe x + (in_pipe x b.slots + in_effects x b.out.effects)) (loosely_in s) _ _ b.out.promises (pipes p beside_pipe (loosely_in s) (ends_at y s) operation a expected before)
          (λ x. let c = in_pipes-set x p.0 s.pipes y (spent y) e in let d = in_pipes-set x p.0 s.pipes y b.slots e in omega arith)
          (λ x. let c = in_pipes-set x p.0 s.pipes y (spent y) e in let d = in_pipes-set x p.0 s.pipes y b.slots e in omega arith);
      calm = k.calm;
    }

-- operations on transform streams

some_transform : (p q : transform.Slots) → ◌≡◌ {A = Option transform.Slots} (Some p) (Some q) → p ≡ q
some_transform p q e = cc

in_transforms-set : (x : PromiseId) (k : ℕ) (ts : List transform.Slots) (old y : transform.Slots) → slice_get ts k ≡ Some old → in_transforms x (slice_set ts k y) + in_transform x old ≡ in_transforms x ts + in_transform x y
in_transforms-set x k [] old y e = cc
in_transforms-set x zero (t ∷ ts) old y e = rw (some_transform t old e) (omega arith)
in_transforms-set x (suc k) (t ∷ ts) old y e = let rest = in_transforms-set x k ts old y e in omega arith

-- how often a promise stands in the others
abbrev others : PromiseId → ℕ → List transform.Slots → ℕ
others x k [] = 0
others x zero (t ∷ ts) = in_transforms x ts
others x (suc k) (t ∷ ts) = in_transform x t + others x k ts

others-all : (x : PromiseId) (k : ℕ) (ts : List transform.Slots) (old : transform.Slots) → slice_get ts k ≡ Some old → others x k ts + in_transform x old ≡ in_transforms x ts
others-all x k [] old e = cc
others-all x zero (t ∷ ts) old e = rw (some_transform t old e) (omega arith)
others-all x (suc k) (t ∷ ts) old e = let rest = others-all x k ts old e in omega arith

pub on_transform-sound : (f : PromiseId → ℕ) (t : TransformId) (operation : TransformOperation) (s : Slots) (o : Option transform.Slots) → slice_get s.transforms t.0 ≡ o
    → Sound (λ x. f x + of_transform x operation) s → Leaves f (on_transform_at (λ halves. transform_operation t halves operation) t s o)
on_transform-sound f t operation s None e k = sound-less (λ x. f x + of_transform x operation) (λ x. f x + 0) s (λ x. omega arith) k
on_transform-sound f t operation s (Some y) e k =
    let a : transform.Acts = record { slots = y; out = found s } in
    let b : transform.Acts = transform_operation t (halves_at y s) operation a in
    let around : PromiseId → ℕ = λ x. f x + (in_all (in_stream x) s.streams + (in_pipes x s.pipes + (in_hosts x s.hosts + (others x t.0 s.transforms + (in_tees x s.tees + in_ports x s.ports))))) in
    let before : Transforms (λ x. around x + of_transform x operation) (loosely_in s) a =
    holds-less _ (loosely_in s) (λ x. (around x + of_transform x operation) + (in_transform x y + 0)) (loosely_in s) s.promises k.holds
    (λ x. let c = others-all x t.0 s.transforms y e in omega arith) (λ x. let c = others-all x t.0 s.transforms y e in omega arith) in
    record {
      holds =
          holds-less (λ x. around x + (in_transform x b.slots + in_effects x b.out.effects)) (loosely_in s) _ _ b.out.promises (transforms around (loosely_in s) t (halves_at y s) operation a before)
          (λ x. let c = others-all x t.0 s.transforms y e in let d = in_transforms-set x t.0 s.transforms y b.slots e in omega arith)
          (λ x. let c = others-all x t.0 s.transforms y e in let d = in_transforms-set x t.0 s.transforms y b.slots e in omega arith);
      calm = k.calm;
    }

-- operations on tees

some_tee : (p q : tee.Slots) → ◌≡◌ {A = Option tee.Slots} (Some p) (Some q) → p ≡ q
some_tee p q e = cc

in_tees-set : (x : PromiseId) (k : ℕ) (ts : List tee.Slots) (old y : tee.Slots) → slice_get ts k ≡ Some old → in_tees x (slice_set ts k y) + in_tee x old ≡ in_tees x ts + in_tee x y
in_tees-set x k [] old y e = cc
in_tees-set x zero (t ∷ ts) old y e = rw (some_tee t old e) (omega arith)
in_tees-set x (suc k) (t ∷ ts) old y e = let rest = in_tees-set x k ts old y e in omega arith

-- how often a promise stands in the others
abbrev other_tees : PromiseId → ℕ → List tee.Slots → ℕ
other_tees x k [] = 0
other_tees x zero (t ∷ ts) = in_tees x ts
other_tees x (suc k) (t ∷ ts) = in_tee x t + other_tees x k ts

other_tees-all : (x : PromiseId) (k : ℕ) (ts : List tee.Slots) (old : tee.Slots) → slice_get ts k ≡ Some old → other_tees x k ts + in_tee x old ≡ in_tees x ts
other_tees-all x k [] old e = cc
other_tees-all x zero (t ∷ ts) old e = rw (some_tee t old e) (omega arith)
other_tees-all x (suc k) (t ∷ ts) old e = let rest = other_tees-all x k ts old e in omega arith

pub on_tee-sound : (f : PromiseId → ℕ) (t : TeeId) (operation : TeeOperation) (s : Slots) (o : Option tee.Slots) → slice_get s.tees t.0 ≡ o
    → Sound (λ x. f x + of_tee x operation) s → Leaves f (on_tee_at (tee_operation t operation) t s o)
on_tee-sound f t operation s None e k = sound-less (λ x. f x + of_tee x operation) (λ x. f x + 0) s (λ x. omega arith) k
on_tee-sound f t operation s (Some y) e k =
    let a : tee.Acts = record { slots = y; out = found s } in
    let b : tee.Acts = tee_operation t operation a in
    let around : PromiseId → ℕ = λ x. f x + (in_all (in_stream x) s.streams + (in_pipes x s.pipes + (in_hosts x s.hosts + (in_transforms x s.transforms + (other_tees x t.0 s.tees + in_ports x s.ports))))) in
    let before : Tees (λ x. around x + of_tee x operation) (loosely_in s) a =
    holds-less _ (loosely_in s) (λ x. (around x + of_tee x operation) + (in_tee x y + 0)) (loosely_in s) s.promises k.holds
    (λ x. let c = other_tees-all x t.0 s.tees y e in omega arith) (λ x. let c = other_tees-all x t.0 s.tees y e in omega arith) in
    record {
      holds =
          holds-less (λ x. around x + (in_tee x b.slots + in_effects x b.out.effects)) (loosely_in s) _ _ b.out.promises (tees around (loosely_in s) t operation a before)
          (λ x. let c = other_tees-all x t.0 s.tees y e in let d = in_tees-set x t.0 s.tees y b.slots e in omega arith)
          (λ x. let c = other_tees-all x t.0 s.tees y e in let d = in_tees-set x t.0 s.tees y b.slots e in omega arith);
      calm = k.calm;
    }

-- operations on ports

some_port : (p q : cross.Slots) → ◌≡◌ {A = Option cross.Slots} (Some p) (Some q) → p ≡ q
some_port p q e = cc

in_ports-set : (x : PromiseId) (k : ℕ) (cs : List cross.Slots) (old y : cross.Slots) → slice_get cs k ≡ Some old → in_ports x (slice_set cs k y) + in_port x old ≡ in_ports x cs + in_port x y
in_ports-set x k [] old y e = cc
in_ports-set x zero (c ∷ cs) old y e = rw (some_port c old e) (omega arith)
in_ports-set x (suc k) (c ∷ cs) old y e = let rest = in_ports-set x k cs old y e in omega arith

-- how often a promise stands in the others
abbrev other_ports : PromiseId → ℕ → List cross.Slots → ℕ
other_ports x k [] = 0
other_ports x zero (c ∷ cs) = in_ports x cs
other_ports x (suc k) (c ∷ cs) = in_port x c + other_ports x k cs

other_ports-all : (x : PromiseId) (k : ℕ) (cs : List cross.Slots) (old : cross.Slots) → slice_get cs k ≡ Some old → other_ports x k cs + in_port x old ≡ in_ports x cs
other_ports-all x k [] old e = cc
other_ports-all x zero (c ∷ cs) old e = rw (some_port c old e) (omega arith)
other_ports-all x (suc k) (c ∷ cs) old e = let rest = other_ports-all x k cs old e in omega arith

pub on_port-sound : (f : PromiseId → ℕ) (c : PortId) (operation : PortOperation) (s : Slots) (o : Option cross.Slots) → slice_get s.ports c.0 ≡ o
    → Sound (λ x. f x + of_port x operation) s → Leaves f (on_port_at (λ clones. port_operation c clones operation) c s o)
on_port-sound f c operation s None e k = sound-less (λ x. f x + of_port x operation) (λ x. f x + 0) s (λ x. omega arith) k
on_port-sound f c operation s (Some y) e k =
    let a : cross.Acts = record { slots = y; out = found s } in
    let b : cross.Acts = port_operation c (clones_at y s) operation a in
    let around : PromiseId → ℕ = λ x. f x + (in_all (in_stream x) s.streams + (in_pipes x s.pipes + (in_hosts x s.hosts + (in_transforms x s.transforms + (in_tees x s.tees + other_ports x c.0 s.ports))))) in
    let before : Ports (λ x. around x + of_port x operation) (loosely_in s) a =
    holds-less _ (loosely_in s) (λ x. (around x + of_port x operation) + (in_port x y + 0)) (loosely_in s) s.promises k.holds
    (λ x. let n = other_ports-all x c.0 s.ports y e in omega arith) (λ x. let n = other_ports-all x c.0 s.ports y e in omega arith) in
    record {
      holds =
          holds-less (λ x. around x + (in_port x b.slots + in_effects x b.out.effects)) (loosely_in s) _ _ b.out.promises (ports around (loosely_in s) c (clones_at y s) operation a before)
          (λ x. let n = other_ports-all x c.0 s.ports y e in let d = in_ports-set x c.0 s.ports y b.slots e in omega arith)
          (λ x. let n = other_ports-all x c.0 s.ports y e in let d = in_ports-set x c.0 s.ports y b.slots e in omega arith);
      calm = k.calm;
    }
