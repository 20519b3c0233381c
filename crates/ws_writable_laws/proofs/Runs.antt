-- The order of a writable stream over every run.
use Rattle.std.proofs.Common.{◌≡◌, ◌≢◌, ℕ, ◌+◌, ◌≤◌, Bool, true, false, nat_eq, List, [], ◌∷◌, ◌++◌, length, Option, Some, None, slice_get, refl, sym, ap, subst, ◌∙◌, arith, append_assoc, append-nil}
use Rattle.ws_steps.specs.declared.effects.Owner.TheVariants.{EndOf}
use Rattle.ws_value.specs.declared.ids.PipeId.{PipeId}
use Rattle.ws_value.specs.declared.ids.PromiseId.{PromiseId}
use Rattle.ws_value.specs.declared.ids.SignalId.{SignalId}
use Rattle.ws_value.specs.declared.ids.StreamId.{StreamId}
use Rattle.ws_value.specs.declared.value.Plain.{Plain}
use Rattle.ws_value.specs.declared.value.Value.{Value}
use Rattle.ws_steps.specs.declared.pipes.Prevent.{Prevent}
use Rattle.ws_steps.specs.declared.{calls.Call.{Call}, calls.StartBy.{StartBy}, effects.Effect.{Effect}, effects.Effect.TheVariants.{Writable, StartAlgorithm}}
use Rattle.ws_steps.specs.declared.{effects.Owner.TheVariants.{Host, HalfOf, BranchOf}, promises.Job.{Job}, promises.Step.{Step}, promises.Step.TheVariants.{ReadableStart, WritableStart}, readable.SizeBy.{SizeBy}, readable.SizeBy.TheVariants.{Count}, transform.Kind.{Kind}, transform.TransformId.{TransformId}, calls.StartBy.TheVariants.{Now, Later}}
use Rattle.ws_steps.specs.declared.writable.WritableOperation.TheVariants.{ReleaseWriter}
use Rattle.ws_steps.specs.Promises.{Table, fresh, next_id, next_job, after_next_job, watch, is_pending_at}
use Rattle.ws_steps.specs.Readable as readable
use Rattle.ws_steps.specs.declared.{tee.Half.{Half}, tee.Half.TheVariants.{First as FirstHalf, Second as SecondHalf}}
use Rattle.ws_steps.specs.Writable as writable
use Rattle.ws_steps.specs.Writable.{is_closing, is_closed}
use Rattle.ws_steps.specs.Slots.{Slots, Done, Stream, ReadableStream, WritableStream, empty, owner_at, owner_of, with_promises, writable_at, as_writable, no_writable}
use Rattle.ws_steps.specs.Jobs.{job_effects}
use Rattle.ws_steps.specs.Begun.{Begun}
use Rattle.ws_steps.specs.Calls.{begin}
use Rattle.ws_steps.specs.MakingCalls as making_calls
use Rattle.ws_steps.specs.LockCalls as lock_calls
use Rattle.ws_steps.specs.PipeCalls as pipe_calls
use Rattle.ws_steps.specs.Run.{Entry, step, run, older, after_event}
use Rattle.ws_steps.specs.Histories.{is_same}
use Rattle.ws_steps.specs.WritableHistory.{Writes, no_writes, writes_then, todo, effect_writes, step_writes, run_writes}
use Rattle.ws_steps.specs.Laws.{IsLawfulWritable, EachWritableIsLawful}
use Rattle.ws_laws.proofs.Lists.{append_none}
use Rattle.ws_laws.proofs.Tables.{is_same-refl, same_id, eq_numbers, unequal_numbers, place_last, place_before, no_stream}
use Rattle.ws_laws.proofs.EachCall.{each_call}
use Rattle.ws_laws.proofs.Halves.{halved-empty, get-stays}
use Rattle.ws_laws.proofs.Ended.{ended-empty}
use Rattle.ws_writable_laws.proofs.Handed.{Tied, tied-call}
use Rattle.ws_value.specs.declared.ids.PortId.{PortId}
use Rattle.ws_steps.specs.declared.port.Side.{Side}
use Rattle.ws_steps.specs.declared.port.Side.TheVariants.{Readable as ReadableSide, Writable as WritableSide}
use Rattle.ws_laws.proofs.Shapes.{row-owner}
use Rattle.ws_laws.proofs.Walker as walker
use Rattle.ws_laws.proofs.Walker.{IsHistory, GoesUntold, RestsUntold}
use Rattle.ws_laws.proofs.Weights.{weigh, taken_off, weigh-fresh, weigh-next, weigh-watch}
use Rattle.ws_writable_laws.proofs.Shape.{one_if, Core, core_of, is_host, Shape, Told, is_start, is_write, is_close, is_abort, leads_to, hands, closes, all, mass, of_reaction, weight}
use Rattle.ws_writable_laws.proofs.Operations.{Due, handed, Fine, with_effects, so_far, so_far-nothing, writes-nothing}
use Rattle.ws_writable_laws.proofs.Leaves.{none_behind, massless}
use Rattle.ws_writable_laws.proofs.Agenda.{among, Unmade, Kept, kept-lighter, Lightens, lightly, same_weight, lightens-fresh, row-kept}
use Rattle.ws_steps.specs.Slots.{ByteStream, source_at}
use Rattle.ws_steps.specs.Bytes as byte

-- changes between steps and where one begins

-- the stream stays, the promises weigh no more, and nothing is caused that concerns it
clear-kept : (i : StreamId) (h : Writes) (s z : Slots) (cs : List Effect) → (slice_get z.streams i.0 ≡ None → slice_get s.streams i.0 ≡ None) → writable_at i z ≡ writable_at i s → Lightens s.promises z.promises → all (mass i) cs ≡ 0
    → Tied z → Kept i h s [] → Kept i h z cs
clear-kept i h s z cs there place l m tied k =
    let c = massless i cs m in
    let n = none_behind i cs c.hands in
    let l1 = l (is_start i) in let l2 = l (is_write i) in let l3 = l (is_close i) in let l4 = l (is_abort i) in kept-lighter i h h s z [] cs (grind (arith, append-nil)) tied k

still-kept : (i : StreamId) (h : Writes) (s z : Slots) (cs : List Effect) → z.streams ≡ s.streams → Lightens s.promises z.promises → all (mass i) cs ≡ 0 → Tied z → Kept i h s [] → Kept i h z cs
still-kept i h s z cs e l m tied k = clear-kept i h s z cs (λ n. rw e at n) (rw e refl) l m tied k

-- new streams

added_other : (i : StreamId) (h : Writes) (s : Slots) (y : Stream) (cs : List Effect) → i.0 ≢ length s.streams → all (mass i) cs ≡ 0 → Tied (making_calls.add_stream y s) → Kept i h s [] → Kept i h (making_calls.add_stream y s) cs
added_other i h s y cs n m tied k =
    let same = place_before s.streams y i.0 n in
    clear-kept i h s (making_calls.add_stream y s) cs (λ e. sym same ∙ e) (ap as_writable same) (same_weight s.promises) m tied k

added_bytes : (i : StreamId) (h : Writes) (s : Slots) (b : byte.Slots) (cs : List Effect) (here : Bool) → here ≡ nat_eq i.0 (length s.streams) → all (mass i) cs ≡ 0 → Tied (making_calls.add_stream (ByteStream b) s) → Kept i h s []
    → Kept i h (making_calls.add_stream (ByteStream b) s) cs
added_bytes i h s b cs false e m tied k = added_other i h s (ByteStream b) cs (unequal_numbers i.0 (length s.streams) (sym e)) m tied k
added_bytes i h s b cs true e m tied k =
    let at_end : i.0 ≡ length s.streams = eq_numbers i.0 (length s.streams) (sym e) in
    let before = no_stream i s.streams at_end in
    let after : slice_get (s.streams ++ ByteStream b ∷ []) i.0 ≡ Some (ByteStream b) = rw at_end (place_last s.streams (ByteStream b)) in
    clear-kept i h s (making_calls.add_stream (ByteStream b) s) cs (λ n. cc) (ap as_writable after ∙ sym (ap as_writable before)) (same_weight s.promises) m tied k

added_readable : (i : StreamId) (h : Writes) (s : Slots) (r : readable.Slots) (cs : List Effect) (here : Bool) → here ≡ nat_eq i.0 (length s.streams) → all (mass i) cs ≡ 0 → Tied (making_calls.add_stream (ReadableStream r) s) → Kept i h s [] → Kept i h (making_calls.add_stream (ReadableStream r) s) cs
added_readable i h s r cs false e m tied k = added_other i h s (ReadableStream r) cs (unequal_numbers i.0 (length s.streams) (sym e)) m tied k
added_readable i h s r cs true e m tied k =
    let at_end : i.0 ≡ length s.streams = eq_numbers i.0 (length s.streams) (sym e) in
    let before = no_stream i s.streams at_end in
    let after : slice_get (s.streams ++ ReadableStream r ∷ []) i.0 ≡ Some (ReadableStream r) = rw at_end (place_last s.streams (ReadableStream r)) in
    clear-kept i h s (making_calls.add_stream (ReadableStream r) s) cs (λ n. cc) (ap as_writable after ∙ sym (ap as_writable before)) (same_weight s.promises) m tied k

-- a stream of which nothing has happened
new-fine : (i : StreamId) (mark : ℕ) (size : SizeBy) (start : StartBy) (h : Writes) (s : Slots) (d : List Value) → Unmade i h s [] → Fine (with_effects i (among i s.promises) []) (so_far i h [] no_writable) d (core_of no_writable)
    → Fine (with_effects i (among i s.promises) (StartAlgorithm i (WritableStart i) start ∷ [])) (so_far i h [] no_writable) [] (core_of (writable.set_up Host mark size))
new-fine i mark size start h s d u f =
    let one = is_same-refl i in grind (arith, append_none, append-nil)

added_writable : (i j : StreamId) (mark : ℕ) (size : SizeBy) (start : StartBy) (h : Writes) (s : Slots) (here : Bool) → here ≡ is_same i j → j.0 ≡ length s.streams → Tied (making_calls.add_stream (WritableStream (writable.set_up Host mark size)) s) → Kept i h s []
    → Kept i h (making_calls.add_stream (WritableStream (writable.set_up Host mark size)) s) (StartAlgorithm j (WritableStart j) start ∷ [])
added_writable i j mark size start h s false e at_end tied k =
    added_other i h s (WritableStream (writable.set_up Host mark size)) (StartAlgorithm j (WritableStart j) start ∷ []) (λ f. unequal_numbers i.0 j.0 (sym e) (f ∙ sym at_end)) (rw (← e) refl) tied k
added_writable i j mark size start h s true e at_end tied k =
    let is : i ≡ j = same_id i j (sym e) in
    let z : Slots = making_calls.add_stream (WritableStream (writable.set_up Host mark size)) s in
    let at_i : i.0 ≡ length s.streams = ap (λ (l : StreamId). l.0) is ∙ at_end in
    let before = no_stream i s.streams at_i in
    let after : slice_get z.streams i.0 ≡ Some (WritableStream (writable.set_up Host mark size)) = rw at_i (place_last s.streams (WritableStream (writable.set_up Host mark size))) in
    subst (λ (l : StreamId). Kept i h z (StartAlgorithm l (WritableStart l) start ∷ [])) is (record {
      halved = tied.0;
      ended = tied.1;
      unmade = λ n. cc;
      held = rw after (record { behind = refl; dropped = []; fine = new-fine i mark size start h s k.held.dropped (k.unmade before) (rw before at k.held.fine) });
    })

-- calls

renewed-lightens : (t : Table) (kept : Bool) → Lightens t (lock_calls.with_renewed t kept)
renewed-lightens t kept f = grind (arith, weigh-fresh)

renewed-clear : (i : StreamId) (t : Table) (kept : Bool) (es : List Effect) → all (mass i) es ≡ 0 → all (mass i) (lock_calls.reject_renewed t kept ++ es) ≡ 0
renewed-clear i t kept es z = grind arith

-- a pipe makes four promises, and begins with nothing that is under way

fresh_four : (t : Table) → Lightens t (fresh (fresh (fresh (fresh t))))
fresh_four t f =
    let a = weigh-fresh (of_reaction f) t in
    let b = weigh-fresh (of_reaction f) (fresh t) in
    let c = weigh-fresh (of_reaction f) (fresh (fresh t)) in
    let d = weigh-fresh (of_reaction f) (fresh (fresh (fresh t))) in omega (arith, a, b, c, d)

begins-mass : (i : StreamId) (me : PipeId) (p q : PromiseId) (signal : Option SignalId) (reason : Option Plain) → all (mass i) (pipe_calls.pipe_begins me p q signal reason) ≡ 0
begins-mass i me p q signal reason = grind arith

pipe_to-mass : (i source dest : StreamId) (prevent : Prevent) (signal : Option SignalId) (s : Slots) → all (mass i) (pipe_calls.pipe_to source dest prevent signal s).done.caused ≡ 0
pipe_to-mass i source dest prevent signal s = grind (arith, begins-mass)

-- a half is made of which nothing has happened
new-half : (n : Due) (h : Writes) (t : TransformId) (mark : ℕ) → h.closes ≡ 0 → (h.written ≡ []) × (h.fulfilled ≡ 0) → n.starts ≤ 1 → n.writes ≤ 0 → n.closes ≤ 0 → n.aborts ≤ 0 → Fine n h [] (core_of (writable.set_up (HalfOf t) mark Count))
new-half n h t mark e w a b c d = grind arith

-- a transform stream is made

module _ (i : StreamId) (h : Writes) (kind : Kind) (m n : ℕ) (start : StartBy) (s : Slots) where
  abbrev First : Stream
  First = WritableStream (writable.set_up (HalfOf (record { 0 = length s.transforms })) m Count)

  abbrev Second : Stream
  Second = ReadableStream (readable.set_up (HalfOf (record { 0 = length s.transforms })) n Count)

  abbrev Made : Begun
  Made = making_calls.make_transform kind m n start (record { 0 = length s.streams }) (record { 0 = length s.streams + 1 }) s

  made-mass : is_same i (record { 0 = length s.streams }) ≡ false → all (mass i) Made.done.caused ≡ 0
  made-mass e = grind (arith, e)

  -- its start is under way once at most
  one_start : (j k : StreamId) → one_if (is_same j k) ≤ 1
  one_start j k = grind arith

  none_handed : all (hands i) Made.done.caused ≡ 0
  none_handed = handed_by start
    where
      handed_by : (by : StartBy) → all (hands i) (making_calls.make_transform kind m n by (record { 0 = length s.streams }) (record { 0 = length s.streams + 1 }) s).done.caused ≡ 0
      handed_by by = grind arith

  start_leads : (f : Step → ℕ) (p : PromiseId) (j : StreamId) (by : StartBy) → leads_to f (making_calls.start_transform p j by) ≡ 0
  start_leads f p j Now = refl
  start_leads f p j Later = refl

  -- what it begins with leads to the two starts
  made_leads : (f : Step → ℕ) → f (ReadableStart (record { 0 = length s.streams + 1 })) ≡ 0 → all (leads_to f) Made.done.caused ≡ f (WritableStart (record { 0 = length s.streams }))
  made_leads f r = let z = start_leads f (next_id (fresh s.promises)) (record { 0 = length s.streams + 1 }) start in omega (arith, r, z)

  none_closed : all (closes i) Made.done.caused ≡ 0
  none_closed = closed_by start
    where
      closed_by : (by : StartBy) → all (closes i) (making_calls.make_transform kind m n by (record { 0 = length s.streams }) (record { 0 = length s.streams + 1 }) s).done.caused ≡ 0
      closed_by by = grind arith

  new_half-fine : (d : List Value) → Unmade i h s [] → Fine (with_effects i (among i s.promises) []) (so_far i h [] no_writable) d (core_of no_writable)
      → Fine (with_effects i (among i Made.done.slots.promises) Made.done.caused) (so_far i h Made.done.caused (writable.set_up (HalfOf (record { 0 = length s.transforms })) m Count)) []
      (core_of (handed (all (hands i) Made.done.caused) (writable.set_up (HalfOf (record { 0 = length s.transforms })) m Count)))
  new_half-fine d u f =
      let l = fresh_four s.promises in
      let l1 = l (is_start i) in let l2 = l (is_write i) in let l3 = l (is_close i) in let l4 = l (is_abort i) in
      let o = one_start i (record { 0 = length s.streams }) in
      let a1 = made_leads (is_start i) refl in let a2 = made_leads (is_write i) refl in let a3 = made_leads (is_close i) refl in let a4 = made_leads (is_abort i) refl in
      let u1 = u.starts in let u3 = u.closes in let u4 = u.aborts in let w2 = f.owed.writes in let w3 = f.owed.closes in
      let nothing = f.told.closed refl (omega (arith, u3)) in
      rw none_handed (new-half (with_effects i (among i Made.done.slots.promises) Made.done.caused) _ (record { 0 = length s.transforms }) m
      (omega (arith, u3, none_closed)) (nothing.0, nothing.1) (omega (arith, l1, a1, o, u1)) (omega (arith, l2, a2, w2)) (omega (arith, l3, a3, w3)) (omega (arith, l4, a4, u4)))

  transform-kept : (one two : Bool) → one ≡ nat_eq i.0 (length s.streams) → two ≡ nat_eq i.0 (length (s.streams ++ First ∷ [])) → Tied Made.done.slots → Kept i h s [] → Kept i h Made.done.slots Made.done.caused
  transform-kept true two e f tied k =
      let at : i.0 ≡ length s.streams = eq_numbers i.0 (length s.streams) (sym e) in
      let before = no_stream i s.streams at in
      let there : slice_get ((s.streams ++ First ∷ []) ++ Second ∷ []) i.0 ≡ Some First = get-stays (s.streams ++ First ∷ []) (Second ∷ []) i.0 First (rw at (place_last s.streams First)) in
      record {
        halved = tied.0;
        ended = tied.1;
        unmade = λ n. cc;
        held = rw there (record { behind = none_behind i Made.done.caused none_handed; dropped = []; fine = new_half-fine k.held.dropped (k.unmade before) (rw before at k.held.fine) });
      }
  transform-kept false true e f tied k =
      let at : i.0 ≡ length (s.streams ++ First ∷ []) = eq_numbers i.0 (length (s.streams ++ First ∷ [])) (sym f) in
      let before : slice_get s.streams i.0 ≡ None = sym (place_before s.streams First i.0 (unequal_numbers i.0 (length s.streams) (sym e))) ∙ no_stream i (s.streams ++ First ∷ []) at in
      let there : slice_get ((s.streams ++ First ∷ []) ++ Second ∷ []) i.0 ≡ Some Second = rw at (place_last (s.streams ++ First ∷ []) Second) in
      clear-kept i h s Made.done.slots Made.done.caused (λ n. cc) (ap as_writable there ∙ sym (ap as_writable before)) (fresh_four s.promises) (made-mass (sym e)) tied k
  transform-kept false false e f tied k =
      let same : slice_get ((s.streams ++ First ∷ []) ++ Second ∷ []) i.0 ≡ slice_get s.streams i.0 =
      place_before (s.streams ++ First ∷ []) Second i.0 (unequal_numbers i.0 (length (s.streams ++ First ∷ [])) (sym f)) ∙ place_before s.streams First i.0 (unequal_numbers i.0 (length s.streams) (sym e)) in
      clear-kept i h s Made.done.slots Made.done.caused (λ n. sym same ∙ n) (ap as_writable same) (fresh_four s.promises) (made-mass (sym e)) tied k

-- a tee is made: its branches are readable streams

readable_added : (i : StreamId) (xs : List Stream) (r : readable.Slots) (here : Bool) → here ≡ nat_eq i.0 (length xs)
    → (slice_get (xs ++ ReadableStream r ∷ []) i.0 ≡ None → slice_get xs i.0 ≡ None) × (as_writable (slice_get (xs ++ ReadableStream r ∷ []) i.0) ≡ as_writable (slice_get xs i.0))
readable_added i xs r false e =
    let same = place_before xs (ReadableStream r) i.0 (unequal_numbers i.0 (length xs) (sym e)) in (λ n. sym same ∙ n, ap as_writable same)
readable_added i xs r true e =
    let at_end : i.0 ≡ length xs = eq_numbers i.0 (length xs) (sym e) in
    let before = no_stream i xs at_end in
    let after : slice_get (xs ++ ReadableStream r ∷ []) i.0 ≡ Some (ReadableStream r) = rw at_end (place_last xs (ReadableStream r)) in
    (λ n. before, ap as_writable after ∙ sym (ap as_writable before))

abbrev branch : Slots → Half → readable.Slots
branch s half = readable.set_up (BranchOf (record { 0 = length s.tees }) half) 1 Count

abbrev tee_made : StreamId → Slots → Done
tee_made source s = (making_calls.make_tee source (record { 0 = length s.streams }) (record { 0 = length s.streams + 1 }) s).done

pub tee-place : (i source : StreamId) (s : Slots) → let z : Slots = (tee_made source s).slots in (slice_get z.streams i.0 ≡ None → slice_get s.streams i.0 ≡ None) × (writable_at i z ≡ writable_at i s)
tee-place i source s =
    let xs : List Stream = s.streams ++ ReadableStream (branch s FirstHalf) ∷ [] in
    let a = readable_added i s.streams (branch s FirstHalf) (nat_eq i.0 (length s.streams)) refl in
    let b = readable_added i xs (branch s SecondHalf) (nat_eq i.0 (length xs)) refl in (λ n. a.0 (b.0 n), b.1 ∙ a.1)

tee-kept : (i source : StreamId) (h : Writes) (s : Slots) → Tied (tee_made source s).slots → Kept i h s [] → Kept i h (tee_made source s).slots (tee_made source s).caused
tee-kept i source h s tied k =
    let p = tee-place i source s in
    clear-kept i h s (tee_made source s).slots (tee_made source s).caused p.0 p.1
    (lightly s.promises (fresh s.promises) (fresh (fresh s.promises)) (lightens-fresh s.promises) (lightens-fresh (fresh s.promises))) refl tied k

-- a port is made, with its stream

new-end : (n : Due) (h : Writes) (c : PortId) → h.closes ≡ 0 → (h.written ≡ []) × (h.fulfilled ≡ 0) → n.starts ≤ 1 → n.writes ≤ 0 → n.closes ≤ 0 → n.aborts ≤ 0 → Fine n h [] (core_of (writable.set_up (EndOf c) 1 Count))
new-end n h c e w a b d f = grind arith

module _ (i j : StreamId) (c : PortId) (h : Writes) (s z : Slots) (rest : List Effect) (l : Lightens s.promises z.promises) (m : all (mass i) rest ≡ 0) where
  abbrev End : Stream
  End = WritableStream (writable.set_up (EndOf c) 1 Count)

  new-end-fine : (d : List Value) → is_same i j ≡ true → Unmade i h s [] → Fine (with_effects i (among i s.promises) []) (so_far i h [] no_writable) d (core_of no_writable)
      → let es : List Effect = StartAlgorithm j (WritableStart j) Now ∷ rest in let w : writable.Slots = writable.set_up (EndOf c) 1 Count in
      Fine (with_effects i (among i z.promises) es) (so_far i h es w) [] (core_of (handed (all (hands i) es) w))
  new-end-fine d same u f =
      let n = massless i rest m in
      let l1 = l (is_start i) in let l2 = l (is_write i) in let l3 = l (is_close i) in let l4 = l (is_abort i) in
      let n1 = n.starts in let n2 = n.writes in let n3 = n.closes_on in let n4 = n.aborts in let n5 = n.hands in let n6 = n.closes in
      let u1 = u.starts in let u3 = u.closes in let u4 = u.aborts in let w2 = f.owed.writes in let w3 = f.owed.closes in
      let nothing = f.told.closed refl (omega (arith, u3)) in
      let one = ap one_if same in
      let es : List Effect = StartAlgorithm j (WritableStart j) Now ∷ rest in
      let none : all (hands i) es ≡ 0 = omega (arith, n5) in
      rw none (new-end (with_effects i (among i z.promises) es) _ c (omega (arith, u3, n6)) (nothing.0, nothing.1) (omega (arith, l1, n1, one, u1)) (omega (arith, l2, n2, w2)) (omega (arith, l3, n3, w3)) (omega (arith, l4, n4, u4)))

  writable_end-kept : (here : Bool) → here ≡ is_same i j → j.0 ≡ length s.streams → z.streams ≡ s.streams ++ End ∷ [] → Tied z → Kept i h s [] → Kept i h z (StartAlgorithm j (WritableStart j) Now ∷ rest)
  writable_end-kept false e at_end streams tied k =
      let same : slice_get z.streams i.0 ≡ slice_get s.streams i.0 = ap (λ (xs : List Stream). slice_get xs i.0) streams ∙ place_before s.streams End i.0 (λ f. unequal_numbers i.0 j.0 (sym e) (f ∙ sym at_end)) in
      clear-kept i h s z (StartAlgorithm j (WritableStart j) Now ∷ rest) (λ n. sym same ∙ n) (ap as_writable same) l (rw (← e) (omega (arith, m))) tied k
  writable_end-kept true e at_end streams tied k =
      let is : i ≡ j = same_id i j (sym e) in
      let at_i : i.0 ≡ length s.streams = ap (λ (l : StreamId). l.0) is ∙ at_end in
      let before = no_stream i s.streams at_i in
      let after : slice_get z.streams i.0 ≡ Some End = ap (λ (xs : List Stream). slice_get xs i.0) streams ∙ (rw at_i (place_last s.streams End)) in
      record {
        halved = tied.0;
        ended = tied.1;
        unmade = λ n. cc;
        held = rw after (record { behind = (massless i rest m).hands; dropped = []; fine = new-end-fine k.held.dropped (sym e) (k.unmade before) (rw before at k.held.fine) });
      }

  readable_end-kept : z.streams ≡ s.streams ++ ReadableStream (readable.set_up (EndOf c) 0 Count) ∷ [] → Tied z → Kept i h s [] → Kept i h z (StartAlgorithm j (ReadableStart j) Now ∷ rest)
  readable_end-kept streams tied k =
      let p = readable_added i s.streams (readable.set_up (EndOf c) 0 Count) (nat_eq i.0 (length s.streams)) refl in
      clear-kept i h s z (StartAlgorithm j (ReadableStart j) Now ∷ rest) (λ n. p.0 (rw streams at n)) (ap (λ (xs : List Stream). as_writable (slice_get xs i.0)) streams ∙ p.1) l (omega (arith, m)) tied k

open-kept : (i : StreamId) (h : Writes) (s : Slots) (side : Side) → let d : Done = (pipe_calls.open_end side (record { 0 = length s.streams }) s).done in Tied d.slots → Kept i h s [] → Kept i h d.slots d.caused
open-kept i h s ReadableSide tied k =
    readable_end-kept i (record { 0 = length s.streams }) (record { 0 = length s.ports }) h s (pipe_calls.add_port (record { 0 = length s.streams }) s ReadableSide) [] (same_weight s.promises) refl refl tied k
open-kept i h s WritableSide tied k =
    let j : StreamId = record { 0 = length s.streams } in
    writable_end-kept i j (record { 0 = length s.ports }) h s (pipe_calls.add_port j s WritableSide) [] (lightens-fresh s.promises) refl (is_same i j) refl refl refl tied k

-- and a pipe with it

send_readable-kept : (i source : StreamId) (h : Writes) (s : Slots) → let d : Done = (pipe_calls.send_readable source (record { 0 = length s.streams }) s).done in Tied d.slots → Kept i h s [] → Kept i h d.slots d.caused
send_readable-kept i source h s tied k =
    let j : StreamId = record { 0 = length s.streams } in
    let a : Slots = pipe_calls.add_port j s WritableSide in
    let d : Done = (pipe_calls.pipe_to source j pipe_calls.no_prevent None a).done in
    writable_end-kept i j (record { 0 = length s.ports }) h s d.slots d.caused (lightly s.promises (fresh s.promises) d.slots.promises (lightens-fresh s.promises) (fresh_four (fresh s.promises)))
    (pipe_to-mass i source j pipe_calls.no_prevent None a) (is_same i j) refl refl refl tied k

send_writable-kept : (i dest : StreamId) (h : Writes) (s : Slots) → let d : Done = (pipe_calls.send_writable dest (record { 0 = length s.streams }) s).done in Tied d.slots → Kept i h s [] → Kept i h d.slots d.caused
send_writable-kept i dest h s tied k =
    let j : StreamId = record { 0 = length s.streams } in
    let a : Slots = pipe_calls.add_port j s ReadableSide in
    let d : Done = (pipe_calls.pipe_to j dest pipe_calls.no_prevent None a).done in
    readable_end-kept i j (record { 0 = length s.ports }) h s d.slots d.caused (fresh_four s.promises) (pipe_to-mass i j dest pipe_calls.no_prevent None a) refl tied k

pub call-kept : (i : StreamId) (h : Writes) (s : Slots) (c : Call) → Kept i h s [] → Kept i h (begin c s).done.slots (begin c s).done.caused
call-kept i h s c k =
    each_call (λ (b : Begun). Tied b.done.slots → Kept i h b.done.slots b.done.caused) c s (record {
      unchanged = λ reply o. k;
      rejected = λ fault o. still-kept i h s (with_promises (fresh s.promises) s) _ refl (lightens-fresh s.promises) refl o k;
      make_readable = λ mark size start o. added_readable i h s (readable.set_up Host mark size) _ (nat_eq i.0 (length s.streams)) refl refl o k;
      make_bytes = λ mark auto start o. added_bytes i h s (byte.set_up mark auto) _ (nat_eq i.0 (length s.streams)) refl refl o k;
      get_byob = λ j is e o. still-kept i h s _ _ refl (lightens-fresh s.promises) refl o k;
      release_byob = λ l closed j e o. still-kept i h s _ _ refl (renewed-lightens s.promises (readable.is_readable (source_at j s).state)) (renewed-clear i s.promises (readable.is_readable (source_at j s).state) _ refl) o k;
      read_into = λ l j closed room element least e f o. still-kept i h s _ _ refl (lightens-fresh s.promises) refl o k;
      enqueue_bytes = λ j b e is some can o. still-kept i h s s _ refl (same_weight s.promises) refl o k;
      finish_bytes = λ j e is can o. still-kept i h s s _ refl (same_weight s.promises) refl o k;
      make_request = λ j reply is o. still-kept i h s _ _ refl (same_weight s.promises) refl o k;
      respond = λ q j b e is can o. still-kept i h s s _ refl (same_weight s.promises) refl o k;
      make_writable = λ mark size start o. added_writable i (record { 0 = length s.streams }) mark size start h s (is_same i (record { 0 = length s.streams })) refl refl o k;
      make_transform = λ kind m n start o. transform-kept i h kind m n start s (nat_eq i.0 (length s.streams)) (nat_eq i.0 (length (s.streams ++ First i h kind m n start s ∷ []))) refl refl o k;
      make_tee = λ j c is free untied o. tee-kept i j h s o k;
      get_reader = λ j e o. still-kept i h s _ _ refl (lightens-fresh s.promises) refl o k;
      get_writer = λ j e o. still-kept i h s _ _ refl (lightly s.promises (fresh s.promises) (fresh (fresh s.promises)) (lightens-fresh s.promises) (lightens-fresh (fresh s.promises))) refl o k;
      release_reader = λ l closed j e o. still-kept i h s _ _ refl (renewed-lightens s.promises (readable.is_readable (source_at j s).state)) (renewed-clear i s.promises (readable.is_readable (source_at j s).state) _ refl) o k;
      release_writer = λ l j w e f o.
          let ready : Bool = is_pending_at w.ready s.promises in
          let t : Table = lock_calls.with_renewed s.promises ready in
          let closed : Bool = is_pending_at w.closed t in
          still-kept i h s _ _ refl (lightly s.promises t (lock_calls.with_renewed t closed) (renewed-lightens s.promises ready) (renewed-lightens t closed))
          (renewed-clear i s.promises ready _ (renewed-clear i t closed (Writable j ReleaseWriter ∷ []) refl)) o k;
      cancel = λ reason j o. still-kept i h s _ _ refl (lightens-fresh s.promises) refl o k;
      read = λ l j closed e f o. still-kept i h s _ _ refl (lightens-fresh s.promises) refl o k;
      write = λ l v j e o. still-kept i h s _ _ refl (lightens-fresh s.promises) refl o k;
      close = λ j o. still-kept i h s _ _ refl (lightens-fresh s.promises) refl o k;
      abort = λ reason j e o. still-kept i h s _ _ refl (lightens-fresh s.promises) refl o k;
      enqueue = λ j v e w can o. still-kept i h s s _ refl (same_weight s.promises) refl o k;
      enqueue_half = λ j t v e w can o. still-kept i h s s _ refl (same_weight s.promises) refl o k;
      fail_half = λ t reason o. still-kept i h s s _ refl (same_weight s.promises) refl o k;
      terminate = λ t o. still-kept i h s s _ refl (same_weight s.promises) refl o k;
      finish = λ j o. still-kept i h s s _ refl (same_weight s.promises) refl o k;
      fail_readable = λ j reason o. still-kept i h s s _ refl (same_weight s.promises) refl o k;
      fail_writable = λ j reason o. still-kept i h s s _ refl (same_weight s.promises) refl o k;
      pipe = λ source dest prevent signal e f l m o.
          still-kept i h s _ _ refl (fresh_four s.promises) (pipe_to-mass i source dest prevent signal s) o k;
      make_signal = λ o. still-kept i h s _ _ refl (same_weight s.promises) refl o k;
      open_end = λ side o. open-kept i h s side o k;
      send_readable = λ j there free o. send_readable-kept i j h s o k;
      send_writable = λ j there free o. send_writable-kept i j h s o k;
      deliver = λ p m e is o. still-kept i h s s _ refl (same_weight s.promises) refl o k;
      trigger = λ a reason o. still-kept i h s s _ refl (same_weight s.promises) refl o k;
      settle = λ a answer p e o. still-kept i h s _ _ refl (same_weight s.promises) refl o k;
    }) (tied-call s c k.halved k.ended)

-- jobs

-- the steps of a job weigh what the job did, and they tell of no stream before its operation
record Begins (i : StreamId) (job : Job) : Type 0 where
  pub leads : (f : Step → ℕ) → all (leads_to f) (job_effects job) ≤ taken_off (of_reaction f) job
  pub hands : all (hands i) (job_effects job) ≡ 0
  pub closes : all (closes i) (job_effects job) ≡ 0

job-begins : (i : StreamId) (job : Job) → Begins i job
job-begins i job = record { leads = λ f. grind arith; hands = grind arith; closes = grind arith }

pub job-kept : (i : StreamId) (h : Writes) (s : Slots) (job : Job) → next_job s.promises ≡ Some job → Kept i h s [] → Kept i h (with_promises (after_next_job s.promises) s) (job_effects job)
job-kept i h s job e k =
    let b = job-begins i job in
    let fs = job_effects job in
    let less : (f : Step → ℕ) → weight f (after_next_job s.promises) + all (leads_to f) fs ≤ weight f s.promises + 0 =
    λ f. let l = b.leads f in let n : weight f (after_next_job s.promises) + taken_off (of_reaction f) job ≤ weight f s.promises = rw e at (weigh-next (of_reaction f) s.promises) in omega arith in
    let n = none_behind i fs b.hands in
    let l1 = less (is_start i) in let l2 = less (is_write i) in let l3 = less (is_close i) in let l4 = less (is_abort i) in
    kept-lighter i h h s (with_promises (after_next_job s.promises) s) [] fs (grind (arith, append-nil)) (k.halved, k.ended) k

-- runs

pub writes-assoc : (f g h : Writes) → writes_then (writes_then f g) h ≡ writes_then f (writes_then g h)
writes-assoc f g h = grind (arith, append_assoc)

pub nothing-writes : (h : Writes) → writes_then no_writes h ≡ h
nothing-writes h = grind arith

pub is_history : IsHistory no_writes writes_then
is_history = record { left = nothing-writes; right = writes-nothing; assoc = writes-assoc }

pub goes : (i : StreamId) → GoesUntold writes_then (effect_writes i) (Kept i)
goes i = record {
  row = row-kept i;
  call = call-kept i;
  job = job-kept i;
  answered = λ h s p k. still-kept i h s (with_promises (watch p s.promises) s) [] refl (λ f. weigh-watch (of_reaction f) p s.promises) refl (k.halved, k.ended) k;
  older = λ h s k. still-kept i h s (older s) [] refl (same_weight s.promises) refl (k.halved, k.ended) k;
}

pub rests : (i : StreamId) → RestsUntold (Kept i)
unfolding weigh
rests i = record {
  heard = λ h s k. still-kept i h s (after_event s) [] refl (λ f. omega arith) refl (k.halved, k.ended) k;
}

pub step-kept : (i : StreamId) (h : Writes) (s : Slots) (x : Entry) → Kept i h s [] → Kept i (writes_then h (step_writes i s x)) (step s x) []
step-kept i h s x k = walker.step-goes_untold no_writes writes_then is_history (effect_writes i) (Kept i) (goes i) (rests i) h s x k

pub none_made : (i : StreamId) → Kept i no_writes empty []
unfolding weigh
none_made i = record {
  unmade = λ e. record { closes = refl; starts = refl; aborts = refl };
  held = record { behind = refl; dropped = []; fine = grind arith };
  halved = halved-empty;
  ended = ended-empty;
}

pub run-kept : (entries : List Entry) (i : StreamId) → Kept i (run_writes i entries empty) (run entries empty) []
run-kept entries i = walker.run-holds no_writes writes_then is_history (effect_writes i) (Kept i) (goes i) (rests i) entries empty (none_made i)

-- what is told of a stream of the host is told of what is there

hosted-owner : (o : Option Stream) → owner_of o ≡ Host → is_host (as_writable o).owner ≡ true
hosted-owner None e = refl
hosted-owner (Some (ReadableStream r)) e = refl
hosted-owner (Some (ByteStream b)) e = refl
hosted-owner (Some (WritableStream w)) e = rw e refl

pub hosted_at : (i : StreamId) (s : Slots) → owner_at i s ≡ Host → (core_of (writable_at i s)).hosted ≡ true
hosted_at i s host = hosted-owner (slice_get s.streams i.0) host

-- a stream that was there before is the same, and one that wasn't is nobody's but the host's

before : (s : Slots) (y : Stream) (i : StreamId) (o : Option Stream) → slice_get s.streams i.0 ≡ o → owner_at i (making_calls.add_stream y s) ≡ Host → owner_at i s ≡ Host
before s y i None is h = rw is refl
before s y i (Some x) is h = rw is (rw (get-stays s.streams (y ∷ []) i.0 x is) at h)

port-owner : (i : StreamId) (s : Slots) (side : Side) → owner_at i (pipe_calls.add_port (record { 0 = length s.streams }) s side) ≡ Host → owner_at i (making_calls.add_stream (pipe_calls.end_of (record { 0 = length s.ports }) side) s) ≡ Host
port-owner i s ReadableSide o = o
port-owner i s WritableSide o = o

-- a stream that is the host's after a step was so before it

abbrev pub WasHost : StreamId → Slots → Slots → List Effect → Type 0
WasHost i first s es = owner_at i s ≡ Host → owner_at i first ≡ Host

pub call-was : (i : StreamId) (first s : Slots) (c : Call) → WasHost i first s [] → WasHost i first (begin c s).done.slots (begin c s).done.caused
call-was i first s c k = each_call (λ (b : Begun). WasHost i first b.done.slots b.done.caused) c s (record {
  unchanged = λ reply. k;
  rejected = λ fault. k;
  make_readable = λ mark size start o. k (before s (ReadableStream (readable.set_up Host mark size)) i (slice_get s.streams i.0) refl o);
  make_bytes = λ mark auto start o. k (before s (ByteStream (byte.set_up mark auto)) i (slice_get s.streams i.0) refl o);
  get_byob = λ j is e. k;
  release_byob = λ l closed j e. k;
  read_into = λ l j closed room element least e f. k;
  enqueue_bytes = λ j b e is some can. k;
  finish_bytes = λ j e is can. k;
  make_request = λ j reply is. k;
  respond = λ q j b e is can. k;
  make_writable = λ mark size start o. k (before s (WritableStream (writable.set_up Host mark size)) i (slice_get s.streams i.0) refl o);
  make_transform = λ kind m n start o.
      let w : Stream = WritableStream (writable.set_up (HalfOf (record { 0 = length s.transforms })) m Count) in
      let r : Stream = ReadableStream (readable.set_up (HalfOf (record { 0 = length s.transforms })) n Count) in
      k (before s w i (slice_get s.streams i.0) refl (before (making_calls.add_stream w s) r i (slice_get (s.streams ++ w ∷ []) i.0) refl o));
  make_tee = λ j c is free untied o.
      let x : Stream = ReadableStream (branch s FirstHalf) in
      let y : Stream = ReadableStream (branch s SecondHalf) in
      k (before s x i (slice_get s.streams i.0) refl (before (making_calls.add_stream x s) y i (slice_get (s.streams ++ x ∷ []) i.0) refl o));
  get_reader = λ j e. k;
  get_writer = λ j e. k;
  release_reader = λ l closed j e. k;
  release_writer = λ l j w e f. k;
  cancel = λ reason j. k;
  read = λ l j closed e f. k;
  write = λ l v j e. k;
  close = λ j. k;
  abort = λ reason j e. k;
  enqueue = λ j v e w can. k;
  enqueue_half = λ j t v e w can. k;
  finish = λ j. k;
  fail_readable = λ j reason. k;
  fail_writable = λ j reason. k;
  fail_half = λ t reason. k;
  terminate = λ t. k;
  pipe = λ source dest prevent signal e f l m. k;
  make_signal = k;
  open_end = λ side o. k (before s (pipe_calls.end_of (record { 0 = length s.ports }) side) i (slice_get s.streams i.0) refl (port-owner i s side o));
  send_readable = λ j there free o. k (before s (pipe_calls.end_of (record { 0 = length s.ports }) WritableSide) i (slice_get s.streams i.0) refl o);
  send_writable = λ j there free o. k (before s (pipe_calls.end_of (record { 0 = length s.ports }) ReadableSide) i (slice_get s.streams i.0) refl o);
  deliver = λ p m e is. k;
  trigger = λ a reason. k;
  settle = λ a answer p e. k;
})

was-stays : (i : StreamId) (first : Slots) → walker.Stays (WasHost i first)
was-stays i first = record {
  row = λ s e es k o. k (sym (row-owner i e s) ∙ o);
  call = λ s c k. call-was i first s c k;
  job = λ s job e k. k;
  answered = λ s p k. k;
  older = λ s k. k;
}

pub run-was : (i : StreamId) (xs : List Entry) (s : Slots) → owner_at i (run xs s) ≡ Host → owner_at i s ≡ Host
run-was i xs s = walker.run-stays (WasHost i s) (was-stays i s) (λ z k. k) xs s (λ o. o)

pub host-before : (i : StreamId) (x : Entry) (s : Slots) → owner_at i (step s x) ≡ Host → owner_at i s ≡ Host
host-before i x s = run-was i (x ∷ []) s

-- the law

-- what holds of a stream between steps
pub resting : (i : StreamId) (h : Writes) (s : Slots) (k : Kept i h s []) → Fine (with_effects i (among i s.promises) []) h k.held.dropped (core_of (writable_at i s))
resting i h s k = rw (so_far-nothing i h (writable_at i s)) at k.held.fine

-- nothing is queued in a stream that is closed, and nothing was dropped
pub closed_whole : (h : Writes) (d : List Value) (c : Core) → c.hosted ≡ true → is_closed c.state ≡ true → Told h d c → (h.acted ≡ h.written) × (h.fulfilled ≡ length h.written)
closed_whole h d c host e t = grind (arith, append_none)

lawful : (h : Writes) (d : List Value) (w : writable.Slots) → (core_of w).hosted ≡ true → Shape h.closes (core_of w) → Told h d (core_of w) → IsLawfulWritable h w
lawful h d w host s t = record {
  front = (todo w.queue ++ d, sym (t.all host));
  alive = λ a. let o : d ≡ [] = t.live host (rw a refl) in rw (o, append-nil) at (t.all host);
  once = s.once;
  whole = t.whole host;
  fulfilled = t.fulfilled;
  closed = λ f. closed_whole h d (core_of w) host (rw f refl) t;
}

pub each_writable_is_lawful : EachWritableIsLawful
each_writable_is_lawful entries i = λ host.
    let k = run-kept entries i in
    let f = resting i (run_writes i entries empty) (run entries empty) k in
    lawful (run_writes i entries empty) k.held.dropped (writable_at i (run entries empty)) (hosted_at i (run entries empty) host) f.shape f.told
