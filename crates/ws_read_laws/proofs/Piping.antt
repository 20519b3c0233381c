-- What an operation of a pipe causes of a readable stream that it reads from: a read where it has the stream, a cancel, or that its reader
-- goes, and then it has the stream no more.
use Rattle.std.proofs.Common.{◌≡◌, ℕ, ◌+◌, ◌-◌, ◌≤◌, Bool, true, false, not, ◌&&◌, ◌||◌, nat_eq, is_none, if◌then◌else◌, List, [], ◌∷◌, ◌++◌, Option, Some, None, Result, Ok, Err, refl, sym, ap, ◌∙◌, append-nil, arith}
use Rattle.ws_value.specs.declared.{ids.PipeId.{PipeId}, ids.PromiseId.{PromiseId}, ids.SignalId.{SignalId}, ids.StreamId.{StreamId}}
use Rattle.ws_value.specs.declared.value.{Plain.{Plain}, Plain.TheVariants.{Undefined}, Value.{Value}}
use Rattle.ws_steps.specs.declared.effects.{Effect.{Effect}, Effect.TheVariants.{Readable as OnReadable, Writable as OnWritable, Pipe as OnPipe, Settle}}
use Rattle.ws_steps.specs.declared.pipes.{Action.{Action}, Action.TheVariants.{AbortDest, CancelSource, CloseDest, BySignal}, Ends.{Ends}, Phase.{Phase}, Phase.TheVariants.{Flowing, Waiting, Acting, Over}}
use Rattle.ws_steps.specs.declared.pipes.{PipeOperation.{PipeOperation}, PipeOperation.TheVariants.{Look, LookReady, KeepChunk, ReadEnded, WriteChunk, GoOn, WriteEnded, Abort as AbortPipe, ActionSettled, PartSettled, NoParts}}
use Rattle.ws_steps.specs.declared.promises.Step.TheVariants.{PipeReady, PipeActed, PipeWrote}
use Rattle.ws_steps.specs.declared.readable.{ReadRequest.{ReadRequest}, ReadRequest.TheVariants.{Pipe as PipeRequest}, ReadableOperation.{ReadableOperation}, ReadableOperation.TheVariants.{ReleaseReader, Read, Cancel, CancelIfReadable}}
use Rattle.ws_steps.specs.declared.readable.{ReadableState.{ReadableState}, ReadableState.TheVariants.{Readable, Closed, Errored}}
use Rattle.ws_steps.specs.declared.writable.{WritableOperation.TheVariants.{ReleaseWriter, Write, ClosePropagating, Abort, AbortIfWritable}, WritableState.{WritableState}, WritableState.TheVariants.{Writable, Erroring, Errored as WritableErrored, Closed as WritableClosed}}
use Rattle.ws_steps.specs.Effects.{Out, type_error}
use Rattle.ws_steps.specs.Histories.{is_same}
use Rattle.ws_steps.specs.Operations.{pipe_operation}
use Rattle.ws_steps.specs.Pipes.{Acts, causing, with_slots, reacts, forgetting, ending, finalize, act_with, abort_dest, abort_part, cancel_part, parts_of, reacts_to_all, waiting_for, wait_for_all, act_by_signal, act_by, act, proceed, is_flowing, shut_down, shutdown, unless, wait_for_ready, read_or_wait, look_by, look, look_ready, go_on_in, go_on, keep_chunk, read_ended, write, write_in, write_held, write_chunk, write_ended, action_settled, settle_whole, part_settled, no_parts, abort}
use Rattle.ws_steps.specs.Promises.{next_id}
use Rattle.ws_steps.specs.Queues.{is_empty}
use Rattle.ws_steps.specs.Writable.{is_writable, is_closed}
use Rattle.ws_laws.proofs.OnReadable.{all_seen, all_seen-append}
use Rattle.ws_laws.proofs.Tables.{either}
use Rattle.ws_promise_laws.proofs.Piping.{PipeExpects}
use Rattle.ws_promise_laws.proofs.Streams.{goes_on}
use Rattle.ws_promise_laws.proofs.Tokens.{one_if}
use Rattle.ws_read_laws.proofs.Holding.{Clear, gives-none, holds, IsOther, other-finds}
use Rattle.ws_read_laws.proofs.Marks.{Mark, Stands, Looks, marks, pipe_mark, pending}

-- where n others have stream i, which has a reader or hasn't, and these marks stand behind
module _ (i : StreamId) (me : PipeId) (n : ℕ) (locked : Bool) (ms : List Mark) where
  abbrev seen : Acts → List Mark
  seen a = all_seen (marks i) a.out.effects

  -- nothing is caused of the stream so far
  abbrev Rests : Acts → Type 0
  Rests a = (seen a ≡ []) × Clear (n + holds i a.slots) locked ms

  -- what is to be shown of what is caused
  abbrev Fits : Acts → Type 0
  Fits b = Clear (n + holds i b.slots) locked (seen b ++ ms)

  unmarked : (a b : Acts) → holds i b.slots ≡ holds i a.slots → seen b ≡ [] → Rests a → Fits b
  unmarked a b e f k = rw (e, f) k.1

  fits : (a : Acts) → Rests a → Fits a
  fits a k = unmarked a a refl k.0 k

  ends_with : (x : Out) (es : List Effect) (vs : List Mark) → all_seen (marks i) x.effects ≡ [] → all_seen (marks i) es ≡ vs → all_seen (marks i) (x.effects ++ es) ≡ vs
  ends_with x es vs e f = all_seen-append (marks i) x.effects es ∙ (rw (e, f) refl)

  more : (x : Out) (es : List Effect) → all_seen (marks i) es ≡ [] → all_seen (marks i) (x.effects ++ es) ≡ all_seen (marks i) x.effects
  more x es f = all_seen-append (marks i) x.effects es ∙ (rw f (append-nil (all_seen (marks i) x.effects)))

  abbrev standing : StreamId → ReadableOperation → List Mark
  standing j operation = if is_same i j then Stands operation ∷ [] else []

  -- the reader of a pipe that goes on goes, with nothing behind

  at_most_one : (b : Bool) → one_if b ≤ 1
  at_most_one true = omega arith
  at_most_one false = omega arith

  reader_goes : (b : Bool) → ms ≡ [] → Clear (n + one_if b) locked ms → Clear (n + 0) locked ((if b then Stands ReleaseReader ∷ [] else []) ++ ms)
  reader_goes true alone c =
      let k : n + 1 ≤ one_if locked = rw alone at c in
      let most = at_most_one locked in
      rw alone (refl, ((λ e. refl), omega (arith, k, most)))
  reader_goes false alone c = c

  finalized : (error : Option Plain) (a : Acts) → goes_on a.slots.phase ≡ true → ms ≡ [] → Rests a → Fits (finalize me error a)
  unfolding finalize
  finalized error a e alone k =
      let last : List Effect = forgetting me a.slots.signal ++ Settle a.slots.promise (ending error) ∷ [] in
      let es : List Effect = OnWritable a.slots.dest ReleaseWriter ∷ OnReadable a.slots.source ReleaseReader ∷ last in
      let f : all_seen (marks i) last ≡ [] = by a.slots.signal in
      let c : Clear (n + one_if (is_same i a.slots.source)) locked ms = rw e at k.1 in
      let g : all_seen (marks i) es ≡ standing a.slots.source ReleaseReader = rw f (append-nil (standing a.slots.source ReleaseReader)) in
      rw (ends_with a.out es (standing a.slots.source ReleaseReader) k.0 g) (reader_goes (is_same i a.slots.source) alone c)
    where
      by : (signal : Option SignalId) → all_seen (marks i) (forgetting me signal ++ Settle a.slots.promise (ending error) ∷ []) ≡ []
      by None = refl
      by (Some g) = refl

  -- an operation by which no reader comes or goes
  other : (operation : ReadableOperation) (b : Bool) (m : ℕ) → IsOther operation → pending ms ≡ [] → Clear m locked ms → Clear m locked ((if b then Stands operation ∷ [] else []) ++ ms)
  other operation true m o quiet c = let f = other-finds operation locked (is_empty ms) o in (f.0, (gives-none operation ms quiet, rw f.1 c))
  other operation false m o quiet c = c

  acts_quietly : (effect : PromiseId → Effect) (a : Acts) → ((q : PromiseId) → marks i (effect q) ≡ []) → Rests a → Fits (act_with me effect a)
  acts_quietly effect a e k =
      let q : PromiseId = next_id a.out.promises in
      unmarked a (act_with me effect a) refl (ends_with a.out (effect q ∷ reacts q (PipeActed me) ∷ []) [] k.0 (ap (λ (vs : List Mark). vs ++ []) (e q))) k

  cancels : (r : Plain) (a : Acts) → pending ms ≡ [] → Rests a → Fits (act_with me (λ q. OnReadable a.slots.source (Cancel r q)) a)
  cancels r a quiet k =
      let q : PromiseId = next_id a.out.promises in
      let es : List Effect = OnReadable a.slots.source (Cancel r q) ∷ reacts q (PipeActed me) ∷ [] in
      rw (ends_with a.out es (standing a.slots.source (Cancel r q)) k.0 (append-nil (standing a.slots.source (Cancel r q))))
      (other (Cancel r q) (is_same i a.slots.source) (n + holds i a.slots) tt quiet k.1)

  aborts : (r : Plain) (a : Acts) (q : Option PromiseId) → Rests a → Fits (abort_dest me r a q)
  aborts r a (Some q) k = unmarked a (abort_dest me r a (Some q)) refl (ends_with a.out (reacts q (PipeActed me) ∷ []) [] k.0 refl) k
  aborts r a None k = acts_quietly (λ q. OnWritable a.slots.dest (Abort r q)) a (λ q. refl) k

  abort_parts : (r : Plain) (prevented : Bool) (a : Acts) → Rests a → Rests (abort_part r prevented a)
  abort_parts r true a k = k
  abort_parts r false a k = (ends_with a.out (OnWritable a.slots.dest (AbortIfWritable r (next_id a.out.promises)) ∷ []) [] k.0 refl, k.1)

  cancel_parts : (r : Plain) (prevented : Bool) (a : Acts) → pending ms ≡ [] → Rests a → Fits (cancel_part r prevented a)
  cancel_parts r true a quiet k = fits a k
  cancel_parts r false a quiet k =
      let q : PromiseId = next_id a.out.promises in
      rw (ends_with a.out (OnReadable a.slots.source (CancelIfReadable r q) ∷ []) (standing a.slots.source (CancelIfReadable r q)) k.0 (append-nil (standing a.slots.source (CancelIfReadable r q))))
      (other (CancelIfReadable r q) (is_same i a.slots.source) (n + holds i a.slots) tt quiet k.1)

  reacting : (qs : List PromiseId) → all_seen (marks i) (reacts_to_all me qs) ≡ []
  reacting [] = refl
  reacting (q ∷ qs) = reacting qs

  waiting : (qs : List PromiseId) → all_seen (marks i) (waiting_for me qs) ≡ []
  waiting [] = refl
  waiting (q ∷ qs) = reacting (q ∷ qs)

  waits : (qs : List PromiseId) (a : Acts) → Fits a → Fits (wait_for_all me qs a)
  waits qs a k =
      let last : List Effect = reacts (next_id a.out.promises) (PipeActed me) ∷ [] in
      let none : all_seen (marks i) (waiting_for me qs ++ last) ≡ [] = all_seen-append (marks i) (waiting_for me qs) last ∙ (rw (waiting qs) refl) in
      rw (more a.out (waiting_for me qs ++ last) none) k

  acts_by_signal : (r : Plain) (a : Acts) → pending ms ≡ [] → Rests a → Fits (act_by_signal me r a)
  unfolding act_by_signal
  acts_by_signal r a quiet k =
      let b : Acts = abort_part r a.slots.prevent.abort a in
      waits (parts_of a.slots.prevent a b) (cancel_part r a.slots.prevent.cancel b) (cancel_parts r a.slots.prevent.cancel b quiet (abort_parts r a.slots.prevent.abort a k))

  -- where it may be over at once, nothing stands behind
  abbrev Alone : Option Action → Type 0
  Alone action = action ≡ None → ms ≡ []

  acts_by : (ends : Ends) (a : Acts) (action : Option Action) → goes_on a.slots.phase ≡ true → pending ms ≡ [] → Alone action → Rests a → Fits (act_by me ends a action)
  acts_by ends a None e quiet alone k = finalized a.slots.error a e (alone refl) k
  acts_by ends a (Some (AbortDest r)) e quiet alone k = aborts r a ends.dest_abort k
  acts_by ends a (Some (CancelSource r)) e quiet alone k = cancels r a quiet k
  acts_by ends a (Some CloseDest) e quiet alone k = acts_quietly (λ q. OnWritable a.slots.dest (ClosePropagating q)) a (λ q. refl) k
  acts_by ends a (Some (BySignal r)) e quiet alone k = acts_by_signal r a quiet k

  acting : (ends : Ends) (a : Acts) → goes_on a.slots.phase ≡ true → pending ms ≡ [] → Alone a.slots.action → Rests a → Fits (act me ends a)
  unfolding act
  acting ends a e quiet alone k = acts_by ends (with_slots (record a.slots { phase = Acting }) a) a.slots.action refl quiet alone (k.0, rw e at k.1)

  proceeding : (ends : Ends) (a : Acts) → goes_on a.slots.phase ≡ true → pending ms ≡ [] → Alone a.slots.action → Rests a → Fits (proceed me ends a)
  unfolding proceed
  proceeding ends a e quiet alone k =
      either Fits (is_none a.slots.held && nat_eq a.slots.unsettled 0) (act me ends a) a (λ h. acting ends a e quiet alone k) (λ h. fits a k)

  shutting_down : (ends : Ends) (a : Acts) → goes_on a.slots.phase ≡ true → pending ms ≡ [] → Alone a.slots.action → Rests a → Fits (shut_down me ends a)
  shutting_down ends a e quiet alone k =
      let b : Acts = with_slots (record a.slots { phase = Waiting }) a in
      either Fits (is_writable ends.dest_state && not ends.dest_closing) (proceed me ends b) (act me ends a)
      (λ h. proceeding ends b refl quiet alone (k.0, rw e at k.1)) (λ h. acting ends a e quiet alone k)

  flowing_goes : (phase : Phase) → is_flowing phase ≡ true → goes_on phase ≡ true
  flowing_goes Flowing e = refl
  flowing_goes Waiting e = refl
  flowing_goes Acting e = refl
  flowing_goes Over e = e

  shuts : (ends : Ends) (action : Option Action) (error : Option Plain) (a : Acts) → pending ms ≡ [] → Alone action → Rests a → Fits (shutdown me ends action error a)
  unfolding shutdown
  shuts ends action error a quiet alone k =
      let b : Acts = with_slots (record a.slots { action = action; error = error }) a in
      either Fits (is_flowing a.slots.phase) (shut_down me ends b) a (λ e. shutting_down ends b (flowing_goes a.slots.phase e) quiet alone k) (λ e. fits a k)

  -- with nothing behind
  module _ (alone : ms ≡ []) where
    quiet : pending ms ≡ []
    quiet = rw alone refl

    -- a pipe that has the stream reads from it

    some_reader : (b : Bool) → n + 1 ≤ one_if b → b ≡ true
    some_reader true h = refl
    some_reader false h = absurd (omega arith)

    reads : (r : ReadRequest) (b : Bool) → Clear (n + one_if b) locked ms → Clear (n + one_if b) locked ((if b then Stands (Read r) ∷ [] else []) ++ ms)
    reads r true c =
        let k : n + 1 ≤ one_if locked = rw alone at c in
        (some_reader locked k, (gives-none (Read r) ms quiet, c))
    reads r false c = c

    readies : (a : Acts) (ready : Option PromiseId) → Rests a → Fits (wait_for_ready me a ready)
    readies a None k = fits a k
    readies a (Some q) k = unmarked a (wait_for_ready me a (Some q)) refl (ends_with a.out (reacts q (PipeReady me) ∷ []) [] k.0 refl) k

    reads_or_waits : (ends : Ends) (a : Acts) → goes_on a.slots.phase ≡ true → Rests a → Fits (read_or_wait me ends a)
    reads_or_waits ends a e k =
        let es : List Effect = OnReadable a.slots.source (Read (PipeRequest me)) ∷ [] in
        let b : Acts = causing es (with_slots (record a.slots { reading = true }) a) in
        let c : Clear (n + one_if (is_same i a.slots.source)) locked ms = rw e at k.1 in
        either Fits ends.dest_wants b (if not a.slots.waits && is_writable ends.dest_state then wait_for_ready me a ends.dest_ready else a)
        (λ w.
        rw (ends_with a.out es (standing a.slots.source (Read (PipeRequest me))) k.0 (append-nil (standing a.slots.source (Read (PipeRequest me)))), e)
        (reads (PipeRequest me) (is_same i a.slots.source) c))
        (λ w. either Fits (not a.slots.waits && is_writable ends.dest_state) (wait_for_ready me a ends.dest_ready) a (λ h. readies a ends.dest_ready k) (λ h. fits a k))

    looks_readable : (ends : Ends) (a : Acts) (d : WritableState) → goes_on a.slots.phase ≡ true → Rests a → Fits
        (if ends.dest_closing || is_closed d
        then shutdown me ends (unless a.slots.prevent.cancel (CancelSource type_error)) (Some type_error) a
        else if a.slots.reading then a
        else read_or_wait me ends a)
    looks_readable ends a d e k =
        let shut : Acts = shutdown me ends (unless a.slots.prevent.cancel (CancelSource type_error)) (Some type_error) a in
        either Fits (ends.dest_closing || is_closed d) shut (if a.slots.reading then a else read_or_wait me ends a)
        (λ c. shuts ends (unless a.slots.prevent.cancel (CancelSource type_error)) (Some type_error) a quiet (λ h. alone) k)
        (λ c. either Fits a.slots.reading a (read_or_wait me ends a) (λ h. fits a k) (λ h. reads_or_waits ends a e k))

    looks_by : (ends : Ends) (a : Acts) (s : ReadableState) (d : WritableState) → goes_on a.slots.phase ≡ true → Rests a → Fits (look_by me ends a s d)
    looks_by ends a Errored d e k = shuts ends (unless a.slots.prevent.abort (AbortDest ends.source_error)) (Some ends.source_error) a quiet (λ h. alone) k
    looks_by ends a Closed WritableErrored e k = shuts ends (unless a.slots.prevent.cancel (CancelSource ends.dest_error)) (Some ends.dest_error) a quiet (λ h. alone) k
    looks_by ends a Closed Writable e k = shuts ends (unless a.slots.prevent.close CloseDest) None a quiet (λ h. alone) k
    looks_by ends a Closed Erroring e k = shuts ends (unless a.slots.prevent.close CloseDest) None a quiet (λ h. alone) k
    looks_by ends a Closed WritableClosed e k = shuts ends (unless a.slots.prevent.close CloseDest) None a quiet (λ h. alone) k
    looks_by ends a Readable WritableErrored e k = shuts ends (unless a.slots.prevent.cancel (CancelSource ends.dest_error)) (Some ends.dest_error) a quiet (λ h. alone) k
    looks_by ends a Readable Writable e k = looks_readable ends a Writable e k
    looks_by ends a Readable Erroring e k = looks_readable ends a Erroring e k
    looks_by ends a Readable WritableClosed e k = looks_readable ends a WritableClosed e k

    looking : (ends : Ends) (a : Acts) → Rests a → Fits (look me ends a)
    unfolding look
    looking ends a k =
        either Fits (is_flowing a.slots.phase) (look_by me ends a ends.source_state ends.dest_state) a (λ e. looks_by ends a ends.source_state ends.dest_state (flowing_goes a.slots.phase e) k) (λ e. fits a k)

    going_on : (ends : Ends) (a : Acts) (phase : Phase) → phase ≡ a.slots.phase → Rests a → Fits (go_on_in me ends a phase)
    going_on ends a Flowing e k = looking ends a k
    going_on ends a Waiting e k = proceeding ends a (ap goes_on (sym e)) quiet (λ h. alone) k
    going_on ends a Acting e k = fits a k
    going_on ends a Over e k = fits a k

    -- that it goes on stands behind its write
    goes_behind : (m : ℕ) → Clear m locked ms → Clear m locked (Looks ∷ ms)
    goes_behind m c = (alone, rw alone at c)

    writes_one : (v : Value) (a : Acts) → Rests a → Fits (write me v a)
    writes_one v a k =
        let q : PromiseId = next_id a.out.promises in
        rw (ends_with a.out (OnWritable a.slots.dest (Write v q) ∷ reacts q (PipeWrote me) ∷ OnPipe me GoOn ∷ []) (Looks ∷ []) k.0 refl) (goes_behind (n + holds i a.slots) k.1)

    writes_in : (v : Value) (a : Acts) (phase : Phase) → Rests a → Fits (write_in me v a phase)
    writes_in v a Flowing k = writes_one v a k
    writes_in v a Waiting k = writes_one v a k
    writes_in v a Acting k = fits a k
    writes_in v a Over k = fits a k

    writes_held : (a : Acts) (held : Option Value) → Rests a → Fits (write_held me a held)
    writes_held a None k = fits a k
    writes_held a (Some v) k = writes_in v (with_slots (record a.slots { held = None; reading = false }) a) a.slots.phase k

    action_ends : (o : Result Plain Plain) (a : Acts) → goes_on a.slots.phase ≡ true → Rests a → Fits (action_settled me o a)
    unfolding action_settled
    action_ends (Ok v) a e k = finalized a.slots.error a e alone k
    action_ends (Err r) a e k = finalized (Some r) a e alone k

  whole_settled : (o : Result Plain Plain) (a : Acts) (w : Option PromiseId) → Rests a → Fits (settle_whole o a w)
  whole_settled o a None k = fits a k
  whole_settled o a (Some w) k = unmarked a (settle_whole o a (Some w)) refl k.0 k

  part_ends : (o : Result Plain Plain) (a : Acts) → Rests a → Fits (part_settled o a)
  unfolding part_settled
  part_ends (Ok v) a k =
      let b : Acts = with_slots (record a.slots { parts = a.slots.parts - 1 }) a in
      either Fits (nat_eq b.slots.parts 0) (settle_whole (Ok Undefined) b b.slots.whole) b (λ e. whole_settled (Ok Undefined) b b.slots.whole k) (λ e. fits b k)
  part_ends (Err e) a k = whole_settled (Err e) a a.slots.whole k

  rest : (m : ℕ) → (ms ≡ []) × (m ≤ one_if locked) → Clear m locked ms
  rest m c = rw c.0 c.1

  -- every operation, which finds what its mark says
  pub operation-fits : (ends : Ends) (operation : PipeOperation) (a : Acts) → PipeExpects operation (Some a.slots) → seen a ≡ [] → Clear (n + holds i a.slots) locked (pipe_mark operation ++ ms)
      → Clear (n + holds i (pipe_operation me ends operation a).slots) locked (all_seen (marks i) (pipe_operation me ends operation a).out.effects ++ ms)
  unfolding look_ready go_on keep_chunk read_ended write_chunk write_ended no_parts abort
  operation-fits ends Look a e s c = looking c.0 ends a (s, rest (n + holds i a.slots) c)
  operation-fits ends LookReady a e s c = looking c.0 ends (with_slots (record a.slots { waits = false }) a) (s, rest (n + holds i a.slots) c)
  operation-fits ends (KeepChunk v) a e s c = rw s c
  operation-fits ends ReadEnded a e s c = rw s c
  operation-fits ends WriteChunk a e s c = writes_held c.0 a a.slots.held (s, rest (n + holds i a.slots) c)
  operation-fits ends GoOn a e s c = going_on c.0 ends a a.slots.phase refl (s, rest (n + holds i a.slots) c)
  operation-fits ends WriteEnded a e s c = going_on c.0 ends (with_slots (record a.slots { unsettled = a.slots.unsettled - 1 }) a) a.slots.phase refl (s, rest (n + holds i a.slots) c)
  operation-fits ends (AbortPipe r) a e s c = shuts ends (Some (BySignal r)) (Some r) a c.0 (λ h. absurd (cc)) (s, c.1)
  operation-fits ends (ActionSettled o) a e s c = action_ends c.0 o a e (s, rest (n + holds i a.slots) c)
  operation-fits ends (PartSettled o) a e s c = part_ends o a (s, c)
  operation-fits ends NoParts a e s c = whole_settled (Ok Undefined) a a.slots.whole (s, c)
