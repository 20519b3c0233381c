-- What calls and jobs begin with: promises that they make stand in their first effects.
use Rattle.std.proofs.Common.{◌≡◌, ℕ, ◌+◌, ◌≤◌, zero, suc, Bool, true, false, not, nat_eq, List, [], ◌∷◌, ◌++◌, length, Option, Some, None, Result, Err, slice_get, slice_set, refl, sym, ap, arith, Ok}
use Rattle.ws_value.specs.declared.value.Plain.TheVariants.{Fault as FaultReason}
use Rattle.std.specs.Prelude.{◌*◌}
use Rattle.ws_value.specs.declared.ids.HostId.{HostId}
use Rattle.ws_value.specs.declared.ids.PipeId.{PipeId}
use Rattle.ws_value.specs.declared.ids.PromiseId.{PromiseId}
use Rattle.ws_value.specs.declared.ids.SignalId.{SignalId}
use Rattle.ws_value.specs.declared.ids.StreamId.{StreamId}
use Rattle.ws_value.specs.declared.ids.TeeId.{TeeId}
use Rattle.ws_steps.specs.declared.tee.Half.TheVariants.{First, Second}
use Rattle.ws_steps.specs.Tee as tee
use Rattle.ws_value.specs.declared.value.Plain.{Plain}
use Rattle.ws_steps.specs.declared.byte.ByteOperation.TheVariants.{PullInto}
use Rattle.ws_steps.specs.declared.{calls.Answer.{Answer}, calls.Call.{Call}, effects.Effect.{Effect}, effects.Effect.TheVariants.{Settle as SettleEffect, Readable, Writable}}
use Rattle.ws_steps.specs.declared.{promises.Job.{Job}, promises.Job.TheVariants.{Reaction as ReactionJob, Follow, Settle, Micro as MicroJob}, promises.Micro.TheVariants.{PipeLook, PipeWrite, PipeNoParts, TeeHand}, pipes.Prevent.{Prevent}}
use Rattle.ws_steps.specs.declared.promises.Step.{Step}
use Rattle.ws_steps.specs.declared.{calls.StartBy.{StartBy}, calls.StartBy.TheVariants.{Now, Later}, effects.Owner.TheVariants.{HalfOf, BranchOf, EndOf}, readable.SizeBy.TheVariants.{Count}, transform.Kind.{Kind}, transform.TransformId.{TransformId}}
use Rattle.ws_steps.specs.Transform as transform
use Rattle.ws_promise_laws.proofs.Realm.{in_transforms, in_tees, in_ports}
use Rattle.ws_promise_laws.proofs.Streams.{in_transform, in_tee, in_port}
use Rattle.ws_promise_laws.proofs.Tokens.{of_effect}
use Rattle.ws_value.specs.declared.ids.PortId.{PortId}
use Rattle.ws_steps.specs.Cross as cross
use Rattle.ws_steps.specs.declared.port.Side.{Side}
use Rattle.ws_steps.specs.declared.port.Side.TheVariants.{Readable as ReadableSide, Writable as WritableSide}
use Rattle.ws_steps.specs.declared.promises.Step.TheVariants.{ReadableStart, ReadablePull, ReturnUndefined, WritableStart, WritableWrite, WritableClose, WritableAbort, PipeEnds, PipeReady, PipeWrote, PipeActed, PipePart, TransformChanged, PortUnblocked, Transformed, TransformFlushed, TransformAborted, TransformCancelled, TeeEnds}
use Rattle.ws_steps.specs.MakingCalls as making_calls
use Rattle.ws_steps.specs.LockCalls as lock_calls
use Rattle.ws_steps.specs.ControllerCalls as controller_calls
use Rattle.ws_steps.specs.PipeCalls as pipe_calls
use Rattle.ws_steps.specs.Pipes as pipe
use Rattle.ws_steps.specs.Readable as readable
use Rattle.ws_steps.specs.Writable as writable
use Rattle.ws_steps.specs.declared.{effects.Owner.TheVariants.{Host}, readable.ReadRequest.TheVariants.{Promise}, locks.Lock.{Lock}}
use Rattle.ws_steps.specs.declared.{readable.ReadableOperation.TheVariants.{ReleaseReader, Read, Cancel}, writable.WritableOperation.TheVariants.{ReleaseWriter, Write, Close, Abort}}
use Rattle.ws_steps.specs.Begun.{Begun, promising}
use Rattle.ws_steps.specs.MakingCalls.{add_stream}
use Rattle.ws_steps.specs.ControllerCalls.{look}
use Rattle.ws_steps.specs.Calls.{begin}
use Rattle.ws_steps.specs.Jobs.{job_effects, steps, resolved, returned}
use Rattle.ws_steps.specs.Promises.{Table, fresh, next_id, next_job, after_next_job, is_pending_at}
use Rattle.ws_steps.specs.Slots.{Slots, Stream, ReadableStream, WritableStream, with_promises, writable_at, as_writable, host_at, pending_host}
use Rattle.ws_laws.proofs.EachCall.{each_call}
use Rattle.ws_laws.proofs.Tables.{eq_numbers, unequal_numbers, place_last, place_before}
use Rattle.ws_promise_laws.proofs.Holds.{holds-less, when}
use Rattle.ws_promise_laws.proofs.Settling.{holds-fresh}
use Rattle.ws_promise_laws.proofs.Following.{holds-next}
use Rattle.ws_promise_laws.proofs.Realm.{Sound, sound-less, in_stream, loose_in_stream, in_all, in_pipes, in_hosts, firm_in, loosely_in}
use Rattle.ws_promise_laws.proofs.Rows.{sound-promises}
use Rattle.ws_promise_laws.proofs.Streams.{Calm, is_awaited, in_pipe}
use Rattle.ws_promise_laws.proofs.Tokens.{names, names_any, in_step, in_hand, in_effects, in_effects-append}
use Rattle.ws_steps.specs.Slots.{ByteStream, source_at}
use Rattle.ws_steps.specs.declared.effects.Effect.TheVariants.{Byte}
use Rattle.ws_steps.specs.Bytes as byte

abbrev none : PromiseId → ℕ
none x = 0

-- what a call leaves stands in its effects
abbrev pub Begins : Begun → Type 0
Begins b = Sound (λ x. in_effects x b.done.caused) b.done.slots

-- a promise is made
fresh-sound : (f : PromiseId → ℕ) (s : Slots) → Sound f s → Sound (λ x. f x + names x (next_id s.promises)) (with_promises (fresh s.promises) s)
fresh-sound f s k =
    sound-promises f (λ x. f x + names x (next_id s.promises)) s (fresh s.promises)
    (λ h k. holds-fresh (λ x. f x + h x) (loosely_in s) (λ x. (f x + names x (next_id s.promises)) + h x) (loosely_in s) s.promises k (λ x. omega arith) (λ x. omega arith)) k

promising-sound : (effects : PromiseId → List Effect) (s : Slots) → ((x p : PromiseId) → in_effects x (effects p) ≤ names x p) → Sound none s → Begins (promising effects s)
promising-sound effects s n k =
    sound-less (λ x. 0 + names x (next_id s.promises)) _ _ (λ x. let m = n x (next_id s.promises) in omega arith) (fresh-sound none s k)

-- the host settles the promise of an algorithm, which stands in no other place

in_hosts-set : (x : PromiseId) (n : ℕ) (hs : List (Option PromiseId)) (p : PromiseId) → pending_host (slice_get hs n) ≡ Some p → in_hosts x (slice_set hs n None) + names x p ≡ in_hosts x hs
in_hosts-set x n [] p e = cc
in_hosts-set x zero (h ∷ hs) p e = rw e (omega arith)
in_hosts-set x (suc n) (h ∷ hs) p e = let rest = in_hosts-set x n hs p e in omega arith

host-sound : (h : HostId) (answer : Answer) (p : PromiseId) (s : Slots) → host_at h s ≡ Some p → Sound none s → Begins (controller_calls.settle_host h answer s (Some p))
host-sound h answer p s e k = record {
  holds =
      holds-less (λ x. 0 + firm_in x s) (loosely_in s) _ (loosely_in s) s.promises k.holds
      (λ x. let n = in_hosts-set x h.0 s.hosts p e in omega arith) (λ x. let n = in_hosts-set x h.0 s.hosts p e in omega arith);
  calm = k.calm;
}

-- a stream is made

in_all-append : (h : Stream → ℕ) (ss : List Stream) (y : Stream) → in_all h (ss ++ y ∷ []) ≡ in_all h ss + h y
in_all-append h [] y = omega arith
in_all-append h (s ∷ ss) y = let rest = in_all-append h ss y in omega arith

added_calm : (y : Stream) (i : StreamId) (s : Slots) (last : Bool) → last ≡ nat_eq i.0 (length s.streams) → Calm (as_writable (Some y)) → Calm (writable_at i s) → Calm (writable_at i (add_stream y s))
added_calm y i s true e new old =
    let at_end : i.0 ≡ length s.streams = eq_numbers i.0 (length s.streams) (sym e) in
    rw (at_end, place_last s.streams y) new
added_calm y i s false e new old = rw (place_before s.streams y i.0 (unequal_numbers i.0 (length s.streams) (sym e))) old

added-sound : (y : Stream) (s : Slots) → ((x : PromiseId) → in_stream x y ≡ 0) → ((x : PromiseId) → loose_in_stream x y ≡ 0) → Calm (as_writable (Some y)) → Sound none s → Sound none (add_stream y s)
added-sound y s firm loose calm k = record {
  holds =
      holds-less (λ x. 0 + firm_in x s) (loosely_in s) (λ x. 0 + firm_in x (add_stream y s)) (loosely_in (add_stream y s)) s.promises k.holds
      (λ x. let a = in_all-append (in_stream x) s.streams y in let b = firm x in omega arith)
      (λ x. let a = in_all-append (in_stream x) s.streams y in let b = firm x in let c = in_all-append (loose_in_stream x) s.streams y in let d = loose x in omega arith);
  calm = λ i. added_calm y i s (nat_eq i.0 (length s.streams)) refl calm (k.calm i);
}

when_none : (b : Bool) → when b 0 ≡ 0
when_none true = refl
when_none false = refl

-- a reader or a writer is released

renewed-sound : (f : PromiseId → ℕ) (s : Slots) (kept : Bool) → Sound f s → Sound (λ x. f x + in_effects x (lock_calls.reject_renewed s.promises kept)) (with_promises (lock_calls.with_renewed s.promises kept) s)
renewed-sound f s true k = sound-less f (λ x. f x + 0) s (λ x. omega arith) k
renewed-sound f s false k = sound-less (λ x. f x + names x (next_id s.promises)) _ _ (λ x. omega arith) (fresh-sound f s k)

locked-sound : (f : PromiseId → ℕ) (s : Slots) (locks : List Lock) → Sound f s → Sound f (record s { locks = locks })
locked-sound f s locks k = record { holds = k.holds; calm = k.calm }

-- a pipe is made

in_pipes-append : (x : PromiseId) (ps : List pipe.Slots) (p : pipe.Slots) → in_pipes x (ps ++ p ∷ []) ≡ in_pipes x ps + in_pipe x p
in_pipes-append x [] p = omega arith
in_pipes-append x (q ∷ ps) p = let n = in_pipes-append x ps p in omega (arith, n)

in_begins : (x : PromiseId) (me : PipeId) (a b : PromiseId) (signal : Option SignalId) (reason : Option Plain) → in_effects x (pipe_calls.pipe_begins me a b signal reason) ≡ 0
in_begins x me a b signal (Some r) = refl
in_begins x me a b None None = refl
in_begins x me a b (Some g) None = refl

-- its promise stands in it, and those of its reader and its writer in its effects
pipe_to-sound : (source dest : StreamId) (prevent : Prevent) (signal : Option SignalId) (s : Slots) → Sound none s → Begins (pipe_calls.pipe_to source dest prevent signal s)
pipe_to-sound source dest prevent signal s k =
    let a : Slots = with_promises (fresh s.promises) s in
    let b : Slots = with_promises (fresh a.promises) a in
    let c : Slots = with_promises (fresh b.promises) b in
    let d : Slots = with_promises (fresh c.promises) c in
    let fa : PromiseId → ℕ = λ x. none x + names x (next_id s.promises) in
    let fb : PromiseId → ℕ = λ x. fa x + names x (next_id a.promises) in
    let fc : PromiseId → ℕ = λ x. fb x + names x (next_id b.promises) in
    let fd : PromiseId → ℕ = λ x. fc x + names x (next_id c.promises) in
    let made : Sound fd d = fresh-sound fc c (fresh-sound fb b (fresh-sound fa a (fresh-sound none s k))) in
    let new : pipe.Slots = pipe.set_up source dest prevent signal (next_id c.promises) in
    record {
      holds =
          holds-less (λ x. fd x + firm_in x d) (loosely_in d) _ (loosely_in d) d.promises made.holds
          (λ x. let n = in_pipes-append x s.pipes new in let m = in_begins x (record { 0 = length s.pipes }) (next_id s.promises) (next_id b.promises) signal (pipe_calls.reason_of signal s) in omega (arith, n, m))
          (λ x. let n = in_pipes-append x s.pipes new in let m = in_begins x (record { 0 = length s.pipes }) (next_id s.promises) (next_id b.promises) signal (pipe_calls.reason_of signal s) in omega (arith, n, m));
      calm = k.calm;
    }

-- a transform stream is made: its change promise stands in it, and the three of its start in its effects

in_transforms-append : (x : PromiseId) (ts : List transform.Slots) (t : transform.Slots) → in_transforms x (ts ++ t ∷ []) ≡ in_transforms x ts + in_transform x t
in_transforms-append x [] t = omega arith
in_transforms-append x (u ∷ ts) t = let n = in_transforms-append x ts t in omega (arith, n)

in_start : (x p : PromiseId) (j : StreamId) (start : StartBy) → in_effects x (making_calls.start_transform p j start ∷ []) ≡ names x p
in_start x p j Now = omega arith
in_start x p j Later = omega arith

make_transform-sound : (kind : Kind) (m n : ℕ) (start : StartBy) (s : Slots) → Sound none s
    → Begins (making_calls.make_transform kind m n start (record { 0 = length s.streams }) (record { 0 = length s.streams + 1 }) s)
make_transform-sound kind m n start s k =
    let me : TransformId = record { 0 = length s.transforms } in
    let i : StreamId = record { 0 = length s.streams } in
    let j : StreamId = record { 0 = length s.streams + 1 } in
    let w : writable.Slots = writable.set_up (HalfOf me) m Count in
    let r : readable.Slots = readable.set_up (HalfOf me) n Count in
    let one : Slots = making_calls.add_stream (WritableStream w) s in
    let two : Slots = making_calls.add_stream (ReadableStream r) one in
    let first : Sound none one = added-sound (WritableStream w) s (λ x. let h = when_none (is_awaited w) in omega arith) (λ x. let h = when_none (not (is_awaited w)) in omega arith) (λ e. refl) k in
    let second : Sound none two = added-sound (ReadableStream r) one (λ x. refl) (λ x. refl) (λ e. refl) first in
    let a : Slots = with_promises (fresh s.promises) two in
    let b : Slots = with_promises (fresh a.promises) two in
    let c : Slots = with_promises (fresh b.promises) two in
    let d : Slots = with_promises (fresh c.promises) two in
    let fa : PromiseId → ℕ = λ x. none x + names x (next_id s.promises) in
    let fb : PromiseId → ℕ = λ x. fa x + names x (next_id a.promises) in
    let fc : PromiseId → ℕ = λ x. fb x + names x (next_id b.promises) in
    let fd : PromiseId → ℕ = λ x. fc x + names x (next_id c.promises) in
    let made : Sound fd d = fresh-sound fc c (fresh-sound fb b (fresh-sound fa a (fresh-sound none two second))) in
    let new : transform.Slots = transform.set_up kind i j (next_id s.promises) in
    record {
      holds =
          holds-less (λ x. fd x + firm_in x d) (loosely_in d) _ (loosely_in d) d.promises made.holds
          (λ x. let h = in_transforms-append x s.transforms new in let g = in_start x (next_id a.promises) j start in omega (arith, h, g))
          (λ x. let h = in_transforms-append x s.transforms new in let g = in_start x (next_id a.promises) j start in omega (arith, h, g));
      calm = made.calm;
    }

-- a tee is made: its cancel promise stands in it, and that of its reader in its effects

in_tees-append : (x : PromiseId) (ts : List tee.Slots) (t : tee.Slots) → in_tees x (ts ++ t ∷ []) ≡ in_tees x ts + in_tee x t
in_tees-append x [] t = omega arith
in_tees-append x (u ∷ ts) t = let n = in_tees-append x ts t in omega (arith, n)

make_tee-sound : (source : StreamId) (s : Slots) → Sound none s → Begins (making_calls.make_tee source (record { 0 = length s.streams }) (record { 0 = length s.streams + 1 }) s)
make_tee-sound source s k =
    let me : TeeId = record { 0 = length s.tees } in
    let i : StreamId = record { 0 = length s.streams } in
    let j : StreamId = record { 0 = length s.streams + 1 } in
    let one : Slots = making_calls.add_branch (BranchOf me First) s in
    let two : Slots = making_calls.add_branch (BranchOf me Second) one in
    let first : Sound none one = added-sound (ReadableStream (readable.set_up (BranchOf me First) 1 Count)) s (λ x. refl) (λ x. refl) (λ e. refl) k in
    let second : Sound none two = added-sound (ReadableStream (readable.set_up (BranchOf me Second) 1 Count)) one (λ x. refl) (λ x. refl) (λ e. refl) first in
    let a : Slots = with_promises (fresh s.promises) two in
    let b : Slots = with_promises (fresh a.promises) two in
    let fa : PromiseId → ℕ = λ x. none x + names x (next_id s.promises) in
    let fb : PromiseId → ℕ = λ x. fa x + names x (next_id a.promises) in
    let made : Sound fb b = fresh-sound fa a (fresh-sound none two second) in
    let new : tee.Slots = tee.set_up source i j (next_id a.promises) in
    record {
      holds =
          holds-less (λ x. fb x + firm_in x b) (loosely_in b) _ (loosely_in b) b.promises made.holds
          (λ x. let h = in_tees-append x s.tees new in omega (arith, h))
          (λ x. let h = in_tees-append x s.tees new in omega (arith, h));
      calm = made.calm;
    }

-- a port is made, with its stream: the backpressure promise of a writable one stands in it

in_ports-append : (x : PromiseId) (cs : List cross.Slots) (c : cross.Slots) → in_ports x (cs ++ c ∷ []) ≡ in_ports x cs + in_port x c
in_ports-append x [] c = omega arith
in_ports-append x (d ∷ cs) c = let n = in_ports-append x cs c in omega (arith, n)

port-sound : (side : Side) (s : Slots) → Sound none s → Sound none (pipe_calls.add_port (record { 0 = length s.streams }) s side)
port-sound ReadableSide s k =
    let me : PortId = record { 0 = length s.ports } in
    let i : StreamId = record { 0 = length s.streams } in
    let r : readable.Slots = readable.set_up (EndOf me) 0 Count in
    let one : Slots = making_calls.add_stream (ReadableStream r) s in
    let made : Sound none one = added-sound (ReadableStream r) s (λ x. refl) (λ x. refl) (λ e. refl) k in
    let new : cross.Slots = cross.set_up ReadableSide i None in
    record {
      holds =
          holds-less (λ x. none x + firm_in x one) (loosely_in one) _ (loosely_in one) one.promises made.holds
          (λ x. let h = in_ports-append x s.ports new in omega (arith, h)) (λ x. let h = in_ports-append x s.ports new in omega (arith, h));
      calm = made.calm;
    }
port-sound WritableSide s k =
    let me : PortId = record { 0 = length s.ports } in
    let i : StreamId = record { 0 = length s.streams } in
    let w : writable.Slots = writable.set_up (EndOf me) 1 Count in
    let one : Slots = making_calls.add_stream (WritableStream w) s in
    let first : Sound none one = added-sound (WritableStream w) s (λ x. let h = when_none (is_awaited w) in omega arith) (λ x. let h = when_none (not (is_awaited w)) in omega arith) (λ e. refl) k in
    let a : Slots = with_promises (fresh s.promises) one in
    let fa : PromiseId → ℕ = λ x. none x + names x (next_id s.promises) in
    let made : Sound fa a = fresh-sound none one first in
    let new : cross.Slots = cross.set_up WritableSide i (Some (next_id s.promises)) in
    record {
      holds =
          holds-less (λ x. fa x + firm_in x a) (loosely_in a) _ (loosely_in a) a.promises made.holds
          (λ x. let h = in_ports-append x s.ports new in omega (arith, h)) (λ x. let h = in_ports-append x s.ports new in omega (arith, h));
      calm = made.calm;
    }

in_start_end : (x : PromiseId) (j : StreamId) (side : Side) → of_effect x (pipe_calls.start_end j side) ≡ 0
in_start_end x j ReadableSide = refl
in_start_end x j WritableSide = refl

-- and a pipe with it
sent-sound : (source dest j : StreamId) (side : Side) (s : Slots) → Sound none s
    → Begins (pipe_calls.sent_by j side s (pipe_calls.pipe_to source dest pipe_calls.no_prevent None (pipe_calls.add_port (record { 0 = length s.streams }) s side)))
sent-sound source dest j side s k =
    let a : Slots = pipe_calls.add_port (record { 0 = length s.streams }) s side in
    let piped : Begun = pipe_calls.pipe_to source dest pipe_calls.no_prevent None a in
    sound-less (λ x. in_effects x piped.done.caused) _ piped.done.slots (λ x. let n = in_start_end x j side in omega (arith, n))
    (pipe_to-sound source dest pipe_calls.no_prevent None a (port-sound side s k))

pub begin-sound : (c : Call) (s : Slots) → Sound none s → Begins (begin c s)
begin-sound c s k = each_call Begins c s (record {
  unchanged = λ reply. k;
  rejected = λ fault. promising-sound (λ p. SettleEffect p (Err (FaultReason fault)) ∷ []) s (λ x p. omega arith) k;
  make_readable = λ mark size start. sound-less none _ _ (λ x. omega arith) (added-sound (ReadableStream (readable.set_up Host mark size)) s (λ x. refl) (λ x. refl) (λ e. refl) k);
  make_bytes = λ mark auto start. sound-less none _ _ (λ x. omega arith) (added-sound (ByteStream (byte.set_up mark auto)) s (λ x. refl) (λ x. refl) (λ e. refl) k);
  get_byob = λ i is e. sound-less (λ x. 0 + names x (next_id s.promises)) _ _ (λ x. omega arith) (locked-sound _ _ _ (fresh-sound none s k));
  release_byob = λ l closed i e.
      let kept : Bool = readable.is_readable (source_at i s).state in
      let first : List Effect = lock_calls.reject_renewed s.promises kept in
      sound-less (λ x. 0 + in_effects x first) _ _ (λ x. let n = in_effects-append x first (Readable i ReleaseReader ∷ []) in omega arith)
      (locked-sound _ _ _ (renewed-sound none s kept k));
  read_into = λ l i closed room element least e f. promising-sound (λ p. Byte i (PullInto room element (least * element) (Promise p)) ∷ []) s (λ x p. omega arith) k;
  enqueue_bytes = λ i b e is some can. sound-less none _ s (λ x. omega arith) k;
  finish_bytes = λ i e is can. sound-less none _ s (λ x. omega arith) k;
  make_request = λ i reply is. record { holds = holds-less (λ x. 0 + firm_in x s) (loosely_in s) _ (loosely_in s) s.promises k.holds (λ x. omega arith) (λ x. omega arith); calm = k.calm };
  respond = λ q i b e is can. sound-less none _ s (λ x. omega arith) k;
  make_writable = λ mark size start. sound-less none _ _ (λ x. omega arith) (added-sound (WritableStream (writable.set_up Host mark size)) s (λ x. let n = when_none (is_awaited (writable.set_up Host mark size)) in omega arith)
      (λ x. let n = when_none (not (is_awaited (writable.set_up Host mark size))) in omega arith) (λ e. refl) k);
  get_reader = λ i e. sound-less (λ x. 0 + names x (next_id s.promises)) _ _ (λ x. omega arith) (locked-sound _ _ _ (fresh-sound none s k));
  get_writer = λ i e.
      let t : Slots = with_promises (fresh s.promises) s in
      sound-less (λ x. (0 + names x (next_id s.promises)) + names x (next_id t.promises)) _ _ (λ x. omega arith)
      (locked-sound _ _ _ (fresh-sound (λ x. 0 + names x (next_id s.promises)) t (fresh-sound none s k)));
  release_reader = λ l closed i e.
      let kept : Bool = readable.is_readable (source_at i s).state in
      let first : List Effect = lock_calls.reject_renewed s.promises kept in
      sound-less (λ x. 0 + in_effects x first) _ _ (λ x. let n = in_effects-append x first (Readable i ReleaseReader ∷ []) in omega arith)
      (locked-sound _ _ _ (renewed-sound none s kept k));
  release_writer = λ l i w e f.
      let ready : Bool = is_pending_at w.ready s.promises in
      let t : Table = lock_calls.with_renewed s.promises ready in
      let closed : Bool = is_pending_at w.closed t in
      let first : List Effect = lock_calls.reject_renewed s.promises ready in
      let second : List Effect = lock_calls.reject_renewed t closed in
      sound-less (λ x. (0 + in_effects x first) + in_effects x second) _ _
      (λ x.
      let m = in_effects-append x first (second ++ Writable i ReleaseWriter ∷ []) in
      let n = in_effects-append x second (Writable i ReleaseWriter ∷ []) in
      omega arith)
      (locked-sound _ _ _ (renewed-sound (λ x. 0 + in_effects x first) (with_promises t s) closed (renewed-sound none s ready k)));
  cancel = λ reason i. promising-sound (λ p. Readable i (Cancel reason p) ∷ []) s (λ x p. omega arith) k;
  read = λ l i closed e f. promising-sound (λ p. Readable i (Read (Promise p)) ∷ []) s (λ x p. omega arith) k;
  write = λ l v i e. promising-sound (λ p. Writable i (Write v p) ∷ []) s (λ x p. omega arith) k;
  close = λ i. promising-sound (λ p. Writable i (Close p) ∷ []) s (λ x p. omega arith) k;
  abort = λ reason i e. promising-sound (λ p. Writable i (Abort reason p) ∷ []) s (λ x p. omega arith) k;
  make_transform = λ kind m n start. make_transform-sound kind m n start s k;
  make_tee = λ i e is free untied. make_tee-sound i s k;
  enqueue = λ i v e o can. sound-less none _ s (λ x. omega arith) k;
  enqueue_half = λ i t v e o can. sound-less none _ s (λ x. omega arith) k;
  fail_half = λ t reason. sound-less none _ s (λ x. omega arith) k;
  terminate = λ t. sound-less none _ s (λ x. omega arith) k;
  finish = λ i. sound-less none _ s (λ x. omega arith) k;
  fail_readable = λ i reason. sound-less none _ s (λ x. omega arith) k;
  fail_writable = λ i reason. sound-less none _ s (λ x. omega arith) k;
  pipe = λ source dest prevent signal e f l m. pipe_to-sound source dest prevent signal s k;
  make_signal = record { holds = holds-less (λ x. 0 + firm_in x s) (loosely_in s) _ (loosely_in s) s.promises k.holds (λ x. omega arith) (λ x. omega arith); calm = k.calm };
  open_end = λ side. sound-less none _ _ (λ x. let n = in_start_end x (record { 0 = length s.streams }) side in omega (arith, n)) (port-sound side s k);
  send_readable = λ source there free. sent-sound source (record { 0 = length s.streams }) (record { 0 = length s.streams }) WritableSide s k;
  send_writable = λ dest there free. sent-sound (record { 0 = length s.streams }) dest (record { 0 = length s.streams }) ReadableSide s k;
  deliver = λ c m asked has. sound-less none _ s (λ x. omega arith) k;
  trigger = λ a reason. sound-less none _ s (λ x. omega arith) k;
  settle = λ h answer p e. host-sound h answer p s e k;
})

-- jobs

in_steps : (x : PromiseId) (step : Step) (o : Result Plain Plain) → in_effects x (steps step o) ≡ in_step x step
in_steps x (ReadableStart i) o = refl
in_steps x (ReadablePull i) o = refl
in_steps x ReturnUndefined o = refl
in_steps x (WritableStart i) o = refl
in_steps x (WritableWrite i) o = refl
in_steps x (WritableClose i) o = refl
in_steps x (WritableAbort i p) o = omega arith
in_steps x (PipeEnds p) o = refl
in_steps x (PipeReady p) o = refl
in_steps x (PipeWrote p) o = refl
in_steps x (PipeActed p) o = refl
in_steps x (PipePart p) o = refl
in_steps x (TransformChanged t d) (Ok v) = omega arith
in_steps x (PortUnblocked c d) (Ok v) = omega arith
in_steps x (TransformChanged t d) (Err r) = omega arith
in_steps x (PortUnblocked c d) (Err r) = omega arith
in_steps x (Transformed t) (Ok v) = refl
in_steps x (Transformed t) (Err r) = refl
in_steps x (TransformFlushed t p) o = omega arith
in_steps x (TransformAborted t p r) o = omega arith
in_steps x (TransformCancelled t p r) o = omega arith
in_steps x (TeeEnds t) o = refl

in_resolved : (x : PromiseId) (derived : Option PromiseId) (o : Result Plain Plain) → in_effects x (resolved derived o) ≡ names_any x derived
in_resolved x None o = refl
in_resolved x (Some p) o = omega arith

in_job : (x : PromiseId) (job : Job) → in_effects x (job_effects job) ≡ in_hand x (Some job)
in_job x (ReactionJob step o derived) =
    let a = in_effects-append x (steps step o) (resolved derived (returned step o)) in let b = in_steps x step o in let c = in_resolved x derived (returned step o) in omega arith
in_job x (Follow p q) = refl
in_job x (Settle p o) = omega arith
in_job x (MicroJob (PipeLook p)) = refl
in_job x (MicroJob (PipeWrite p)) = refl
in_job x (MicroJob (PipeNoParts p)) = refl
in_job x (MicroJob (TeeHand t)) = refl

-- the first job hands over what it is to settle
pub job-sound : (s : Slots) (job : Job) → next_job s.promises ≡ Some job → Sound none s → Sound (λ x. in_effects x (job_effects job)) (with_promises (after_next_job s.promises) s)
job-sound s job e k =
    sound-promises none (λ x. in_effects x (job_effects job)) s (after_next_job s.promises)
    (λ h k.
    holds-less (λ x. (0 + h x) + in_hand x (next_job s.promises)) (loosely_in s) (λ x. in_effects x (job_effects job) + h x) (loosely_in s) (after_next_job s.promises)
    (holds-next (λ x. 0 + h x) (loosely_in s) s.promises k)
    (λ x. let n = in_job x job in let m = ap (in_hand x) e in omega arith) (λ x. let n = in_job x job in let m = ap (in_hand x) e in omega arith)) k
