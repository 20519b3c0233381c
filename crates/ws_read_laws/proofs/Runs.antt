-- The reads of a readable stream over every run: what calls and jobs begin with.
use Rattle.std.proofs.Common.{◌≡◌, ℕ, ◌+◌, ◌≤◌, Bool, true, false, nat_eq, is_some, List, [], ◌∷◌, ◌++◌, Option, Some, None, slice_get, slice_set, length, refl, sym, ap, ◌∙◌, arith, ◌||◌}
use Rattle.std.proofs.lemmas.List.Elements.{All-nil}
use Rattle.ws_value.specs.declared.{ids.PipeId.{PipeId}, ids.PromiseId.{PromiseId}, ids.SignalId.{SignalId}, ids.StreamId.{StreamId}, ids.LockId.{LockId}}
use Rattle.ws_value.specs.declared.value.{Plain.{Plain}}
use Rattle.ws_steps.specs.declared.{calls.Call.{Call}, calls.StartBy.{StartBy}, calls.StartBy.TheVariants.{Now as StartNow, Later}, effects.Effect.{Effect}, effects.Effect.TheVariants.{Readable as OnReadable, Byte, Writable, Pipe as OnPipe, Signal as OnSignal, ChunkSteps, CloseSteps, ErrorSteps}}
use Rattle.ws_steps.specs.declared.{locks.Lock.{Lock}, locks.Lock.TheVariants.{Reader, ByobReader, Writer, ReleasedWriter, Inner}, promises.Job.{Job}}
use Rattle.ws_steps.specs.declared.{readable.ReadRequest.{ReadRequest}, readable.ReadRequest.TheVariants.{Promise}, readable.ReadableOperation.{ReadableOperation}, readable.ReadableOperation.TheVariants.{InitializeReader, ReleaseReader, Read, Cancel, Enqueue, Close, Error}}
use Rattle.ws_steps.specs.declared.{readable.ReadableState.TheVariants.{Closed}, writable.WritableOperation.TheVariants.{ReleaseWriter}}
use Rattle.ws_steps.specs.declared.pipes.{PipeOperation.{PipeOperation}, Prevent.{Prevent}}
use Rattle.ws_steps.specs.declared.byte.ByteOperation.TheVariants.{InitializeByobReader}
use Rattle.ws_steps.specs.Histories.{is_same}
use Rattle.ws_steps.specs.Jobs.{job_effects}
use Rattle.ws_steps.specs.Begun.{Begun}
use Rattle.ws_steps.specs.MakingCalls.{start_transform, make_tee}
use Rattle.ws_steps.specs.LockCalls.{renewed, with_renewed, reject_renewed}
use Rattle.ws_steps.specs.PipeCalls.{pipe_to, pipe_begins, reason_of, open_end, start_end, add_port, end_of, no_prevent, send_readable, send_writable}
use Rattle.ws_steps.specs.Calls.{begin}
use Rattle.ws_steps.specs.Pipes as pipe
use Rattle.ws_steps.specs.Pipes.{abort_all, trigger_unless}
use Rattle.ws_steps.specs.Promises.{Table, next_id, fresh, is_pending_at}
use Rattle.ws_steps.specs.Readable as readable
use Rattle.ws_steps.specs.Slots.{Slots, Stream, Done as Begins, empty, has_readable, has_byte, has_source, lock_at, source_at, readable_at, as_readable, no_readable, is_byte_stream}
use Rattle.ws_steps.specs.Run.{Entry, run}
use Rattle.ws_steps.specs.ReadableHistory.{run_flow, run_reads}
use Rattle.ws_steps.specs.Laws.{Allows}
use Rattle.ws_laws.proofs.EachCall.{each_call}
use Rattle.ws_laws.proofs.OnReadable as on_readable
use Rattle.ws_laws.proofs.OnReadable.{Holders, holders, with_pipe, piped, is_still, IsForeign, AreSteps, IsLaw, Kept, all_seen, all_seen-append}
use Rattle.ws_laws.proofs.Order.{is_resting, Orderly, orderly-stays, orderly-empty}
use Rattle.ws_laws.proofs.Truth.{false_true}
use Rattle.ws_laws.proofs.Tables.{either, is_same-refl, no_readable_there, same_id, eq_numbers, unequal_numbers, no_stream, place_before, place_last}
use Rattle.ws_laws.proofs.Walker.{Stays}
use Rattle.ws_promise_laws.proofs.Acting.{EachWaits, waits-stays, waits-heard, none-waits}
use Rattle.ws_promise_laws.proofs.Tokens.{one_if}
use Rattle.ws_read_laws.proofs.First.{InitFirst, inits-stay}
use Rattle.ws_read_laws.proofs.SourceLooks.{looks-default, default-no_byte, default-there}
use Rattle.ws_read_laws.proofs.Holding.{has, readers, readers-append, readers-set, readers-there, sources, teeing, teeing-append, holding-append, sources-append, owners, Clear, IsOther, AllOther, other-pending, other-clear}
use Rattle.ws_readable_laws.proofs.Runs as flows
use Rattle.ws_read_laws.proofs.Marks.{Mark, Stands, Aborts, pipe_mark, marks, pending, given_of}
use Rattle.ws_read_laws.proofs.Told.{Told, no_told, told_then, told, run_done, run_decided, over-parts, is_history, Held, Unmade, operation-held, absent-held, steps-held, steps-unmade, made-held}
use Rattle.ws_read_laws.proofs.Pipes.{pipe-held, pipe-unmade, no_pipe-held, signal-held, no_signal-held, known_expects}
use Rattle.ws_read_laws.proofs.Transforms.{transform-held, tee-held, tee-unmade, port-held}
use Rattle.ws_value.specs.declared.ids.TeeId.{TeeId}
use Rattle.ws_steps.specs.declared.tee.Half.TheVariants.{First, Second}
use Rattle.ws_steps.specs.declared.effects.Owner.TheVariants.{BranchOf}
use Rattle.ws_steps.specs.declared.readable.SizeBy.TheVariants.{Count}
use Rattle.ws_steps.specs.Tee as tee
use Rattle.ws_steps.specs.Slots.{ReadableStream, is_readable_stream}
use Rattle.ws_steps.specs.declared.port.Side.{Side}
use Rattle.ws_steps.specs.declared.port.Side.TheVariants.{Readable as ReadableSide, Writable as WritableSide}

module _ (i : StreamId) where
  -- with what calls and jobs begin

  abbrev Now : Told → Holders → List Stream → List Effect → Type 0
  Now h o streams es = Kept (marks i) i (Held i) (Unmade i) h o streams es

  other-held : (h : Told) (o : Holders) (r : readable.Slots) (ms : List Mark) → AllOther ms → Held i h o r [] → Held i h o r ms
  other-held h o r ms all k = record { line = k.line; given = k.given; covers = λ d is. rw (other-pending ms all) (k.covers d is); chunks = rw (other-pending ms all) k.chunks; clear = other-clear (owners i o) (is_some r.reader) ms all k.clear }

  one_other : (j : StreamId) (operation : ReadableOperation) → IsOther operation → AllOther (all_seen (marks i) (OnReadable j operation ∷ []))
  one_other j operation o = either (λ (ms : List Mark). AllOther (ms ++ [])) (is_same i j) (Stands operation ∷ []) [] (λ same. (o, tt)) (λ other. tt)

  job-others : (job : Job) → AllOther (all_seen (marks i) (job_effects job))
  job-others job = grind arith

  -- no reader comes or goes, and no read is asked
  others_by : (h : Told) (o z : Holders) (streams : List Stream) (es : List Effect) → owners i z ≡ owners i o → readers i z.locks + (sources i z.pipes + teeing i z.tees) ≡ readers i o.locks + (sources i o.pipes + teeing i o.tees) → AllOther (all_seen (marks i) es)
      → Now h o streams [] → Now h z streams es
  others_by h o z streams es same sames all k =
      record {
        unmade = λ b n. let u = k.unmade b n in record { free = sames ∙ u.free; unasked = u.unasked };
        held = λ b.
            let held = other-held h o (as_readable (slice_get streams i.0)) (all_seen (marks i) es) all (k.held b) in
            record { line = held.line; given = held.given; covers = held.covers; chunks = held.chunks; clear = rw same held.clear };
      }

  -- where the pipes stay
  others : (h : Told) (locks ls : List Lock) (pipes : List pipe.Slots) (tees : List tee.Slots) (streams : List Stream) (es : List Effect) → readers i ls ≡ readers i locks → AllOther (all_seen (marks i) es) → Now h (record { locks = locks; pipes = pipes; tees = tees }) streams []
      → Now h (record { locks = ls; pipes = pipes; tees = tees }) streams es
  others h locks ls pipes tees streams es same all k = others_by h (record { locks = locks; pipes = pipes; tees = tees }) (record { locks = ls; pipes = pipes; tees = tees }) streams es (rw same refl) (rw same refl) all k

  alone : (j : StreamId) (operation : ReadableOperation) → is_same i j ≡ true → all_seen (marks i) (OnReadable j operation ∷ []) ≡ Stands operation ∷ []
  alone j operation e = rw e refl

  elsewhere : (j : StreamId) (operation : ReadableOperation) → is_same i j ≡ false → AllOther (all_seen (marks i) (OnReadable j operation ∷ []))
  elsewhere j operation e = rw e tt

  has-own : (j : StreamId) (closed : PromiseId) (b : Bool) → is_same i j ≡ b → has i (Reader (Some j) closed) ≡ one_if b
  has-own j closed b e = ap one_if e

  some_reader : (n : ℕ) (locked : Bool) → 1 ≤ n → n ≤ one_if locked → locked ≡ true
  some_reader n true a b = refl
  some_reader n false a b = absurd (omega arith)

  at_most_one : (n : ℕ) (locked : Bool) → n ≤ one_if locked → n ≤ 1
  at_most_one n true a = a
  at_most_one n false a = omega arith

  -- where stream i has no byte controller, its reader is the one that is seen
  unlocked : (j : StreamId) (s : Slots) → is_same i j ≡ true → is_some (source_at j s).reader ≡ false → has_byte i s ≡ false → is_some (readable_at i s).reader ≡ false
  unlocked j s e free b =
      let here : is_some (source_at i s).reader ≡ false = rw (same_id i j e) free in
      let same : source_at i s ≡ readable_at i s = looks-default (slice_get s.streams i.0) b in
      rw same at here

  comes : (h : Told) (j : StreamId) (s : Slots) (closed : PromiseId) (same : Bool) → is_same i j ≡ same → is_some (source_at j s).reader ≡ false → Now h (holders s) s.streams []
      → Now h (record { locks = s.locks ++ Reader (Some j) closed ∷ []; pipes = s.pipes; tees = s.tees }) s.streams (OnReadable j (InitializeReader closed) ∷ [])
  comes h j s closed false e free k =
      others h s.locks (s.locks ++ Reader (Some j) closed ∷ []) s.pipes s.tees s.streams (OnReadable j (InitializeReader closed) ∷ [])
      (let n = readers-append i s.locks (Reader (Some j) closed) in let m = has-own j closed false e in omega arith) (elsewhere j (InitializeReader closed) e) k
  comes h j s closed true e free k =
      let n = readers-append i s.locks (Reader (Some j) closed) in
      let m = has-own j closed true e in
      record {
        unmade = λ b f.
            let here = unlocked j s e free b in
            let none : is_some no_readable.reader ≡ false = rw (no_readable_there (slice_get s.streams i.0) f) at here in cc;
        held = λ b.
            let here = unlocked j s e free b in
            let none : owners i (holders s) ≤ one_if (is_some (readable_at i s).reader) = (k.held b).clear in
            let zero : owners i (holders s) ≤ 0 = rw here at none in
            rw (alone j (InitializeReader closed) e) (record { line = (k.held b).line; given = (k.held b).given; covers = (k.held b).covers; chunks = (k.held b).chunks; clear = (here, ((λ t. refl), omega (arith, n, m, zero))) });
      }

  -- a BYOB reader comes, where the stream has a byte controller
  byob-comes : (h : Told) (j : StreamId) (s : Slots) (closed : PromiseId) (same : Bool) → is_same i j ≡ same → has_byte j s ≡ true → Now h (holders s) s.streams []
      → Now h (record { locks = s.locks ++ ByobReader (Some j) closed ∷ []; pipes = s.pipes; tees = s.tees }) s.streams (Byte j (InitializeByobReader closed) ∷ [])
  byob-comes h j s closed false e is k =
      others h s.locks (s.locks ++ ByobReader (Some j) closed ∷ []) s.pipes s.tees s.streams (Byte j (InitializeByobReader closed) ∷ [])
      (let n = readers-append i s.locks (ByobReader (Some j) closed) in let m = has-own j closed false e in omega arith) tt k
  byob-comes h j s closed true e is k =
      let here : has_byte i s ≡ true = rw (same_id i j e) is in
      record { unmade = λ b. false_true (has_byte i s) here b; held = λ b. false_true (has_byte i s) here b }

  -- a reader of either kind goes
  goes : (h : Told) (l : LockId) (j : StreamId) (s : Slots) (old new : Lock) (first : List Effect) (same : Bool) → is_same i j ≡ same → has i old ≡ one_if same → has i new ≡ 0 → lock_at l s ≡ Some old → all_seen (marks i) first ≡ []
      → Now h (holders s) s.streams [] → Now h (record { locks = slice_set s.locks l.0 new; pipes = s.pipes; tees = s.tees }) s.streams (first ++ OnReadable j ReleaseReader ∷ [])
  goes h l j s old new first false e m z at_l none k =
      others h s.locks (slice_set s.locks l.0 new) s.pipes s.tees s.streams (first ++ OnReadable j ReleaseReader ∷ [])
      (let n = readers-set i l.0 s.locks old new at_l in omega arith)
      (rw (all_seen-append, none) (elsewhere j ReleaseReader e)) k
  goes h l j s old new first true e m z at_l none k =
      let n = readers-set i l.0 s.locks old new at_l in
      record {
        unmade = λ b f. let u = k.unmade b f in record { free = let y = u.free in omega (arith, y, n, m, z); unasked = u.unasked };
        held = λ b.
            let most : owners i (holders s) ≤ 1 = at_most_one (owners i (holders s)) (is_some (readable_at i s).reader) (k.held b).clear in
            rw (all_seen-append, none, alone j ReleaseReader e) (record { line = (k.held b).line; given = (k.held b).given; covers = (k.held b).covers; chunks = (k.held b).chunks; clear = (refl, ((λ t. refl), omega (arith, n, m, z, most))) });
      }

  asked : (h : Told) (l : LockId) (j : StreamId) (s : Slots) (closed : PromiseId) (r : ReadRequest) (same : Bool) → is_same i j ≡ same → lock_at l s ≡ Some (Reader (Some j) closed) → Now h (holders s) s.streams []
      → Now h (holders s) s.streams (OnReadable j (Read r) ∷ [])
  asked h l j s closed r false e at_l k = others h s.locks s.locks s.pipes s.tees s.streams (OnReadable j (Read r) ∷ []) refl (elsewhere j (Read r) e) k
  asked h l j s closed r true e at_l k =
      let n = readers-there i l.0 s.locks (Reader (Some j) closed) at_l in
      let m = has-own j closed true e in
      record {
        unmade = k.unmade;
        held = λ b.
            let there = some_reader (owners i (holders s)) (is_some (readable_at i s).reader) (omega (arith, n, m)) (k.held b).clear in
            rw (alone j (Read r) e) (record { line = (k.held b).line; given = (k.held b).given; covers = (k.held b).covers; chunks = (k.held b).chunks; clear = (there, ((λ t. refl), (k.held b).clear)) });
      }

  renewed-unseen : (t : Table) (kept : Bool) → all_seen (marks i) (reject_renewed t kept) ≡ []
  renewed-unseen t true = refl
  renewed-unseen t false = refl

  -- a pipe takes its source

  aborting : Option Plain → List Mark
  aborting None = []
  aborting (Some r) = Aborts ∷ []

  begins_marks : (me : PipeId) (a b : PromiseId) (signal : Option SignalId) (reason : Option Plain) → all_seen (marks i) (pipe_begins me a b signal reason) ≡ aborting reason
  unfolding aborting
  begins_marks me a b signal (Some r) = refl
  begins_marks me a b None None = refl
  begins_marks me a b (Some g) None = refl

  begins_clear : (n : ℕ) (reason : Option Plain) → n ≤ 1 → Clear n true (aborting reason)
  unfolding aborting
  begins_clear n None l = l
  begins_clear n (Some r) l = (refl, l)

  begins_other : (reason : Option Plain) → AllOther (aborting reason)
  unfolding aborting
  begins_other None = tt
  begins_other (Some r) = tt

  inner_readers : (ls : List Lock) → readers i (ls ++ Inner ∷ Inner ∷ []) ≡ readers i ls
  inner_readers [] = refl
  inner_readers (l ∷ ls) = let n = inner_readers ls in omega (arith, n)

  pipe_comes : (h : Told) (source dest : StreamId) (prevent : Prevent) (signal : Option SignalId) (s : Slots) (same : Bool) → is_same i source ≡ same → has_source source s ≡ true → is_some (source_at source s).reader ≡ false
      → Now h (holders s) s.streams [] → let d : Begins = (pipe_to source dest prevent signal s).done in Now h (holders d.slots) s.streams d.caused
  pipe_comes h source dest prevent signal s false e there free k =
      let d : Begins = (pipe_to source dest prevent signal s).done in
      let x : pipe.Slots = pipe.set_up source dest prevent signal (next_id (fresh (fresh (fresh s.promises)))) in
      let none : one_if (is_same i source) ≡ 0 = ap one_if e in
      let a = holding-append i s.pipes x in
      let b = sources-append i s.pipes x in
      let c = inner_readers s.locks in
      let m = begins_marks (record { 0 = length s.pipes }) (next_id s.promises) (next_id (fresh (fresh s.promises))) signal (reason_of signal s) in
      others_by h (holders s) (holders d.slots) s.streams d.caused (omega (arith, a, c, none)) (omega (arith, b, c, none)) (rw (e, m) (begins_other (reason_of signal s))) k
  pipe_comes h source dest prevent signal s true e there free k =
      let d : Begins = (pipe_to source dest prevent signal s).done in
      let x : pipe.Slots = pipe.set_up source dest prevent signal (next_id (fresh (fresh (fresh s.promises)))) in
      let one : one_if (is_same i source) ≡ 1 = ap one_if e in
      let a = holding-append i s.pipes x in
      let c = inner_readers s.locks in
      let m = begins_marks (record { 0 = length s.pipes }) (next_id s.promises) (next_id (fresh (fresh s.promises))) signal (reason_of signal s) in
      let bs : List Mark = aborting (reason_of signal s) in
      let pend : pending bs ≡ [] = other-pending bs (begins_other (reason_of signal s)) in
      record {
        unmade = λ b f. let made : has_source i s ≡ true = rw (same_id i source e) there in false_true (has_readable i s) (default-there (has_readable i s) (has_byte i s) made b) f;
        held = λ b.
            let here = unlocked source s e free b in
            let none : owners i (holders s) ≤ one_if (is_some (readable_at i s).reader) = (k.held b).clear in
            let zero : owners i (holders s) ≤ 0 = rw here at none in
            rw (e, m) (record {
              line = (k.held b).line;
              given = (k.held b).given;
              covers = λ d is. rw pend ((k.held b).covers d is);
              chunks = rw pend (k.held b).chunks;
              clear = (here, ((λ t. ap given_of pend), (tt, ((λ t. ap given_of pend), begins_clear (owners i (holders d.slots)) (reason_of signal s) (omega (arith, a, c, one, zero))))));
            });
      }

  -- a tee takes its source, which was there, and its branches are new

  inner_reader : (ls : List Lock) → readers i (ls ++ Inner ∷ []) ≡ readers i ls
  inner_reader [] = refl
  inner_reader (l ∷ ls) = let n = inner_reader ls in omega (arith, n)

  last_there : (o : Option Stream) → o ≡ None → is_readable_stream o ≡ true → ⊥
  last_there o e f = cc

  before_last : (j : StreamId) (xs : List Stream) (x : Stream) → is_readable_stream (slice_get xs j.0) ≡ true → slice_get (xs ++ x ∷ []) j.0 ≡ slice_get xs j.0
  before_last j xs x there = place_before xs x j.0 (unequal_numbers j.0 (length xs) (by (nat_eq j.0 (length xs)) refl))
    where
      by : (last : Bool) → last ≡ nat_eq j.0 (length xs) → nat_eq j.0 (length xs) ≡ false
      by false e = sym e
      by true e = absurd (last_there (slice_get xs j.0) (no_stream j xs (eq_numbers j.0 (length xs) (sym e))) there)

  source_stays : (source j l : StreamId) (s : Slots) → has_readable source s ≡ true → slice_get (make_tee source j l s).done.slots.streams source.0 ≡ slice_get s.streams source.0
  source_stays source j l s there =
      let me : TeeId = record { 0 = length s.tees } in
      let x : Stream = ReadableStream (readable.set_up (BranchOf me First) 1 Count) in
      let y : Stream = ReadableStream (readable.set_up (BranchOf me Second) 1 Count) in
      let here = before_last source s.streams x there in
      before_last source (s.streams ++ x ∷ []) y (rw here there) ∙ here

  tee_comes : (h : Told) (source j l : StreamId) (s : Slots) (same : Bool) → is_same i source ≡ same → has_readable source s ≡ true → is_some (source_at source s).reader ≡ false
      → let d : Begins = (make_tee source j l s).done in Now h (holders s) d.slots.streams [] → Now h (holders d.slots) d.slots.streams d.caused
  tee_comes h source j l s false e there free k =
      let d : Begins = (make_tee source j l s).done in
      let x : tee.Slots = tee.set_up source j l (next_id (fresh s.promises)) in
      let none : one_if (is_same i source) ≡ 0 = ap one_if e in
      let a = teeing-append i s.tees x in
      let c = inner_reader s.locks in
      others_by h (holders s) (holders d.slots) d.slots.streams d.caused (omega (arith, a, c, none)) (omega (arith, a, c, none)) (rw e tt) k
  tee_comes h source j l s true e there free k =
      let d : Begins = (make_tee source j l s).done in
      let x : tee.Slots = tee.set_up source j l (next_id (fresh s.promises)) in
      let one : one_if (is_same i source) ≡ 1 = ap one_if e in
      let a = teeing-append i s.tees x in
      let c = inner_reader s.locks in
      let stays = source_stays source j l s there in
      let open_ : is_some (source_at source d.slots).reader ≡ false = rw stays free in
      let made : has_readable i d.slots ≡ true = rw (same_id i source e, stays) there in
      record {
        unmade = λ b f. false_true (has_readable i d.slots) made f;
        held = λ b.
            let here = unlocked source d.slots e open_ b in
            let none : owners i (holders s) ≤ one_if (is_some (readable_at i d.slots).reader) = (k.held b).clear in
            let zero : owners i (holders s) ≤ 0 = rw here at none in
            rw e (record {
              line = (k.held b).line;
              given = (k.held b).given;
              covers = (k.held b).covers;
              chunks = (k.held b).chunks;
              clear = (here, ((λ t. refl), omega (arith, a, c, one, zero)));
            });
      }

  -- a stream at an end of a port

  opened : (h : Told) (j : StreamId) (s : Slots) (side : Side) → let d : Begins = (open_end side j s).done in Now h (holders s) d.slots.streams [] → Now h (holders d.slots) d.slots.streams d.caused
  opened h j s ReadableSide k = others h s.locks s.locks s.pipes s.tees _ _ refl tt k
  opened h j s WritableSide k = others h s.locks s.locks s.pipes s.tees _ _ refl tt k

  abbrev new_port : Slots → Side → Slots
  new_port s side = add_port (record { 0 = length s.streams }) s side

  sent_comes : (h : Told) (source dest : StreamId) (s : Slots) (side : Side) → has_source source (new_port s side) ≡ true → is_some (source_at source (new_port s side)).reader ≡ false
      → let d : Begins = (pipe_to source dest no_prevent None (new_port s side)).done in
      Now h (holders s) (new_port s side).streams [] → Now h (holders d.slots) (new_port s side).streams (start_end (record { 0 = length s.streams }) side ∷ d.caused)
  sent_comes h source dest s ReadableSide there free k =
      let m = pipe_comes h source dest no_prevent None (new_port s ReadableSide) (is_same i source) refl there free k in record { unmade = m.unmade; held = m.held }
  sent_comes h source dest s WritableSide there free k =
      let m = pipe_comes h source dest no_prevent None (new_port s WritableSide) (is_same i source) refl there free k in record { unmade = m.unmade; held = m.held }

  source_before : (j : StreamId) (s : Slots) → has_source j s ≡ true → slice_get (new_port s WritableSide).streams j.0 ≡ slice_get s.streams j.0
  source_before j s there = place_before s.streams _ j.0 (unequal_numbers j.0 (length s.streams) (by (nat_eq j.0 (length s.streams)) refl))
    where
      none_there : (o : Option Stream) → o ≡ None → (is_readable_stream o || is_byte_stream o) ≡ true → ⊥
      none_there o e f = cc

      by : (last : Bool) → last ≡ nat_eq j.0 (length s.streams) → nat_eq j.0 (length s.streams) ≡ false
      by false e = sym e
      by true e = absurd (none_there (slice_get s.streams j.0) (no_stream j s.streams (eq_numbers j.0 (length s.streams) (sym e))) there)

  send_from : (h : Told) (j : StreamId) (s : Slots) → has_source j s ≡ true → is_some (source_at j s).reader ≡ false
      → let d : Begins = (send_readable j (record { 0 = length s.streams }) s).done in Now h (holders s) d.slots.streams [] → Now h (holders d.slots) d.slots.streams d.caused
  send_from h j s there free k =
      let same = source_before j s there in sent_comes h j (record { 0 = length s.streams }) s WritableSide (rw same there) (rw same free) k

  send_into : (h : Told) (j : StreamId) (s : Slots)
      → let d : Begins = (send_writable j (record { 0 = length s.streams }) s).done in Now h (holders s) d.slots.streams [] → Now h (holders d.slots) d.slots.streams d.caused
  send_into h j s k =
      let last = place_last s.streams (end_of (record { 0 = length s.ports }) ReadableSide) in sent_comes h (record { 0 = length s.streams }) j s ReadableSide (rw last refl) (rw last refl) k

  start_others : (q : PromiseId) (j : StreamId) (start : StartBy) → AllOther (all_seen (marks i) (start_transform q j start ∷ []))
  start_others q j StartNow = tt
  start_others q j Later = tt

  call-now : (c : Call) (s : Slots) (h : Told) → let z : Slots = (begin c s).done.slots in Now h (holders s) z.streams [] → Now h (holders z) z.streams (begin c s).done.caused
  call-now c s h = each_call (λ (b : Begun). Now h (holders s) b.done.slots.streams [] → Now h (holders b.done.slots) b.done.slots.streams b.done.caused) c s (record {
    unchanged = λ reply k. k;
    rejected = λ fault k. others h s.locks s.locks s.pipes s.tees _ _ refl tt k;
    make_readable = λ hwm size start k. others h s.locks s.locks s.pipes s.tees _ _ refl tt k;
    make_writable = λ hwm size start k. others h s.locks s.locks s.pipes s.tees _ _ refl tt k;
    get_byob = λ j is free k. byob-comes h j s (next_id s.promises) (is_same i j) refl is k;
    release_byob = λ l closed j e k. goes h l j s (ByobReader (Some j) closed) (ByobReader None _) (reject_renewed s.promises (readable.is_readable (source_at j s).state)) (is_same i j) refl refl refl e (renewed-unseen s.promises (readable.is_readable (source_at j s).state)) k;
    read_into = λ l j closed room element least e f k. others h s.locks s.locks s.pipes s.tees s.streams _ refl tt k;
    enqueue_bytes = λ j b e is some can k. others h s.locks s.locks s.pipes s.tees s.streams _ refl tt k;
    finish_bytes = λ j e is can k. others h s.locks s.locks s.pipes s.tees s.streams _ refl (one_other j Close tt) k;
    make_request = λ j reply is k. others h s.locks s.locks s.pipes s.tees s.streams _ refl tt k;
    respond = λ r j b e is can k. others h s.locks s.locks s.pipes s.tees s.streams _ refl tt k;
    make_bytes = λ hwm auto start k. others h s.locks s.locks s.pipes s.tees _ _ refl tt k;
    get_reader = λ j free k. comes h j s (next_id s.promises) (is_same i j) refl free k;
    get_writer = λ j free k. others h s.locks (s.locks ++ Writer j ∷ []) s.pipes s.tees s.streams _ (let n = readers-append i s.locks (Writer j) in omega arith) tt k;
    release_reader = λ l closed j e k. goes h l j s (Reader (Some j) closed) (Reader None _) (reject_renewed s.promises (readable.is_readable (source_at j s).state)) (is_same i j) refl refl refl e (renewed-unseen s.promises (readable.is_readable (source_at j s).state)) k;
    release_writer = λ l j w e f k.
        let ready : Bool = is_pending_at w.ready s.promises in
        let t : Table = with_renewed s.promises ready in
        let closed : Bool = is_pending_at w.closed t in
        let first = renewed-unseen s.promises ready in
        let second = renewed-unseen t closed in
        let released : Lock = ReleasedWriter (record { ready = renewed w.ready s.promises ready; closed = renewed w.closed t closed }) in
        others h s.locks (slice_set s.locks l.0 released) s.pipes s.tees s.streams (reject_renewed s.promises ready ++ (reject_renewed t closed ++ Writable j ReleaseWriter ∷ []))
        (let n = readers-set i l.0 s.locks (Writer j) released e in omega arith)
        (rw (all_seen-append, first, all_seen-append, second) tt) k;
    cancel = λ reason j k. others h s.locks s.locks s.pipes s.tees s.streams _ refl (one_other j (Cancel reason (next_id s.promises)) tt) k;
    read = λ l j closed e f k. asked h l j s closed (Promise (next_id s.promises)) (is_same i j) refl f k;
    write = λ l v j e k. others h s.locks s.locks s.pipes s.tees _ _ refl tt k;
    close = λ j k. others h s.locks s.locks s.pipes s.tees _ _ refl tt k;
    abort = λ reason j e k. others h s.locks s.locks s.pipes s.tees _ _ refl tt k;
    make_tee = λ source e there free untied k. tee_comes h source (record { 0 = length s.streams }) (record { 0 = length s.streams + 1 }) s (is_same i source) refl there free k;
    make_transform = λ kind m n start k. others h s.locks s.locks s.pipes s.tees _ _ refl (start_others (next_id (fresh s.promises)) (record { 0 = length s.streams + 1 }) start) k;
    enqueue = λ j v e o can k. others h s.locks s.locks s.pipes s.tees s.streams _ refl (one_other j (Enqueue v) tt) k;
    enqueue_half = λ j t v e o can k. others h s.locks s.locks s.pipes s.tees _ _ refl tt k;
    fail_half = λ t reason k. others h s.locks s.locks s.pipes s.tees _ _ refl tt k;
    terminate = λ t k. others h s.locks s.locks s.pipes s.tees _ _ refl tt k;
    finish = λ j k. others h s.locks s.locks s.pipes s.tees s.streams _ refl (one_other j Close tt) k;
    fail_readable = λ j reason k. others h s.locks s.locks s.pipes s.tees s.streams _ refl (one_other j (Error reason) tt) k;
    fail_writable = λ j reason k. others h s.locks s.locks s.pipes s.tees _ _ refl tt k;
    pipe = λ source dest prevent signal e f free g k. pipe_comes h source dest prevent signal s (is_same i source) refl e free k;
    make_signal = λ k. others h s.locks s.locks s.pipes s.tees s.streams [] refl tt k;
    open_end = λ side k. opened h (record { 0 = length s.streams }) s side k;
    send_readable = λ j there free k. send_from h j s there free k;
    send_writable = λ j there free k. send_into h j s k;
    deliver = λ p m e is k. others h s.locks s.locks s.pipes s.tees s.streams _ refl tt k;
    trigger = λ a reason k. others h s.locks s.locks s.pipes s.tees s.streams _ refl tt k;
    settle = λ host answer p e k. others h s.locks s.locks s.pipes s.tees _ _ refl tt k;
  })

  -- an operation of a pipe that causes nothing has no mark
  still_mark : (operation : PipeOperation) → is_still operation ≡ true → pipe_mark operation ≡ []
  still_mark operation e = grind arith

  -- effects that are neither an operation nor a request's steps of the stream
  unseen : (e : Effect) → IsForeign i e → marks i e ≡ []
  unseen (OnReadable j operation) f = rw f refl
  unseen (ChunkSteps j request v) f = rw f refl
  unseen (CloseSteps j request) f = rw f refl
  unseen (ErrorSteps j request e) f = rw f refl
  unseen (OnPipe p operation) f = still_mark operation f
  unseen (OnSignal a operation) f = absurd f
  unseen _ f = refl

  untold : (e : Effect) (s : Slots) → IsForeign i e → told i e s ≡ no_told
  untold (OnReadable j operation) s f = rw f refl
  untold (ChunkSteps j request v) s f = rw f refl
  untold (CloseSteps j request) s f = rw f refl
  untold (ErrorSteps j request e) s f = rw f refl
  untold (OnSignal a operation) s f = absurd f
  untold _ s f = refl

  idle : (operation : ReadableOperation) (s : Slots) → has_byte i s ≡ false → has_readable i s ≡ false → told i (OnReadable i operation) s ≡ no_told
  idle operation s kind none = rw (flows.nothing_there i operation s none, is_same-refl i, none, kind) refl

  -- what is known beside: the action of each pipe is awaited once, chunks are given in order, and readers come first
  abbrev Known : Slots → List Effect → Type 0
  Known s es = EachWaits s es × (Orderly i s es × InitFirst es)

  known-stays : Stays Known
  known-stays = record {
    row = λ s e es k. (waits-stays.row s e es k.0, ((orderly-stays i).row s e es k.1.0, inits-stay.row s e es k.1.1));
    call = λ s c k. (waits-stays.call s c k.0, ((orderly-stays i).call s c k.1.0, inits-stay.call s c k.1.1));
    job = λ s job e k. (waits-stays.job s job e k.0, ((orderly-stays i).job s job e k.1.0, inits-stay.job s job e k.1.1));
    answered = λ s p k. (waits-stays.answered s p k.0, ((orderly-stays i).answered s p k.1.0, inits-stay.answered s p k.1.1));
    older = λ s k. (waits-stays.older s k.0, ((orderly-stays i).older s k.1.0, inits-stay.older s k.1.1));
  }

  law : IsLaw no_told told_then (told i) (marks i) i (Held i) (Unmade i) Known
  law = record {
    history = is_history;
    unseen = unseen;
    untold = untold;
    operation = λ operation s h ms there k.
        rw (is_same-refl i, there, looks-default (slice_get s.streams i.0) (default-no_byte (slice_get s.streams i.0) there)) (operation-held i operation s h ms there (rw (is_same-refl i) at k));
    idle = idle;
    absent = λ operation h o ms k. absent-held i operation h o ms (rw (is_same-refl i) at k);
    steps = steps-held i;
    steps_unmade = steps-unmade i;
    pipe = λ p operation s x es known e h k. pipe-held i p operation s x (all_seen (marks i) es) (known_expects i p operation s x es known.0 e) e h k;
    pipe_unmade = pipe-unmade i;
    no_pipe = no_pipe-held i;
    pipe_untold = λ p operation s. refl;
    signal = λ a operation x h o z ms k. signal-held i operation x h o z ms k;
    no_signal = λ a operation h o z ms k. no_signal-held i operation h o z ms k;
    signal_untold = λ a operation s. refl;
    transform = λ t operation s x es known e h k. transform-held i t operation s x es (is_resting operation) refl known.1.0 h (holders s) (readable_at i s) k;
    tee = λ t operation s x es known e h k. tee-held i t operation s x es known.1.0 known.1.1 e h k;
    tee_unmade = tee-unmade i;
    port = λ c operation s x es known e h k. port-held i c operation s x es known.1.0 h (holders s) (readable_at i s) k;
    known = known-stays;
    known_heard = λ s k. (waits-heard s k.0, (record { ordered = tt; below = k.1.0.below }, tt));
    known_first = (λ p. none-waits p, (orderly-empty i, tt));
    call = call-now;
    job = λ job h o r k. other-held h o r (all_seen (marks i) (job_effects job)) (job-others job) k;
    made = made-held i;
    empty = record {
      line = record {
        answered = [];
        order = refl;
        told = refl;
        allowed = All-nil (λ a. Allows Closed a.answer);
        released = refl;
        waits = record { ended = λ e. refl; served = λ e. refl; locked = λ e. refl };
      };
      given = refl;
      covers = λ d is. is;
      chunks = refl;
      clear = omega arith;
    };
    unmade = record { free = refl; unasked = refl };
  }

  abbrev pub Ends : List Entry → Type 0
  Ends entries = let s : Slots = run entries empty in Now (record { flow = run_flow i entries empty; reads = run_reads i entries empty; decided = run_decided i entries empty; done = run_done i entries empty }) (holders s) s.streams []

  -- between steps
  pub run-now : (entries : List Entry) → Ends entries
  run-now entries = rw over-parts at (on_readable.run-kept no_told told_then (told i) (marks i) i (Held i) (Unmade i) Known law entries)

  -- a reader's stream is there
  pub reader-there : (entries : List Entry) (l : LockId) (p : PromiseId) → let s : Slots = run entries empty in lock_at l s ≡ Some (Reader (Some i) p) → has_source i s ≡ true
  reader-there entries l p e = by (has_readable i (run entries empty)) (has_byte i (run entries empty)) refl refl
    where
      by : (there kind : Bool) → has_readable i (run entries empty) ≡ there → has_byte i (run entries empty) ≡ kind → has_source i (run entries empty) ≡ true
      by true kind f b = rw f refl
      by false true f b = rw (f, b) refl
      by false false f b =
          let n = readers-there i l.0 (run entries empty).locks (Reader (Some i) p) e in
          let m = has-own i p true (is_same-refl i) in
          let none = ((run-now entries).unmade b f).free in
          absurd (omega (arith, n, m, none))
