-- Promises are made and never unmade, so the promise of each read of a byte stream has a higher number than those of the reads before it.
use Rattle.std.proofs.Common.{◌≡◌, ◌⊎◌, inl, inr, ℕ, ◌+◌, ◌≤◌, not, ◌&&◌, Bool, true, false, List, [], ◌∷◌, ◌++◌, length, Option, Some, None, if◌then◌else◌, refl, ap, ◌∙◌, arith}
use Rattle.ws_value.specs.declared.{fault.Fault.{Fault}, fault.Fault.TheVariants.{TypeError}, ids.PromiseId.{PromiseId}, ids.StreamId.{StreamId}}
use Rattle.ws_steps.specs.declared.{calls.Call.{Call}, calls.Call.TheVariants.{Read as ReadCall, ReadInto as ReadIntoCall}, calls.Reply.{Reply}, calls.Reply.TheVariants.{Promise as Named}}
use Rattle.ws_steps.specs.declared.{locks.Lock.{Lock}, locks.Lock.TheVariants.{Reader, ByobReader, Writer, ReleasedWriter, Inner}, promises.Job.{Job}, promises.Job.TheVariants.{Reaction as ReactionJob, Follow, Settle, Micro as MicroJob}, promises.Reaction.TheVariants.{Adopt}, promises.Micro.{Micro}}
use Rattle.ws_steps.specs.Begun.{Begun, unsupported}
use Rattle.ws_steps.specs.LockCalls.{by_default_reader}
use Rattle.ws_steps.specs.Calls.{begin, named}
use Rattle.ws_steps.specs.Begun as replying
use Rattle.ws_steps.specs.LockCalls as lock_calls
use Rattle.ws_steps.specs.Histories.{is_same}
use Rattle.ws_steps.specs.Jobs.{job_begun, begin_job}
use Rattle.ws_steps.specs.Laws.{RiseFrom}
use Rattle.ws_steps.specs.Promises.{Entry, Table, next_id, react, taken, after_first, after_next_job, next_job, watch, queue_micro}
use Rattle.ws_steps.specs.Slots.{Slots, Done, has_source, has_byte, lock_at}
use Rattle.ws_steps.specs.Turns.{performed}
use Rattle.ws_steps.specs.ReadableHistory.{named_by, asked_with}
use Rattle.ws_steps.specs.Run.{Entry as Step, Called, Worked, Heard, step, reply_to}
use Rattle.ws_steps.proofs.PromiseLaws.{length-fresh, length-with_entry}
use Rattle.ws_room_laws.proofs.Turns.{performed-kept}
use Rattle.ws_laws.proofs.Begin.{begin-makes}
use Rattle.ws_laws.proofs.Cases.{Puts, settle-cases, answer-cases, react-cases, follow-cases, unfollow-cases, watch-cases}
use Rattle.ws_laws.proofs.Rows.{Changes, row-changes}
use Rattle.ws_laws.proofs.Tables.{either}
use Rattle.ws_answer_laws.specs.ByteReads.{into_with, call_byte_asked, byte_asked_in_step, byte_asked_by_calls}

-- so many promises were made at least
module _ (n : ℕ) where
  abbrev Made : Table → Type 0
  Made t = n ≤ length t.entries

  put-made : (q : PromiseId) (t z : Table) (e d : Entry) (more : List Job) → Puts q t z e d more → Made t → Made z
  put-made q t z e d more w k =
      let m : length z.entries ≡ length t.entries = ap length w.entries ∙ length-with_entry t q (Some d) in
      omega arith

  react-made : (t : Table) (p : PromiseId) (r : _) → Made t → Made (react p r t)
  react-made t p r k = react-cases Made p t r k (λ o. k) (λ e z o w. put-made p t z e _ _ w k)

  micro-made : (m : Micro) (t : Table) → Made t → Made (queue_micro m t)
  unfolding queue_micro
  micro-made m t k = k

  changes : Changes Made
  changes = record {
    fresh = λ t k. let m = length-fresh t in omega arith;
    settle = λ t p o k. settle-cases Made p t o k (λ e z i w. put-made p t z e _ _ w k);
    answer = λ t p o n k. answer-cases Made p t o k (λ e z i w. put-made p t z e _ _ w k);
    react = react-made;
    follow = λ t p q k. follow-cases Made p t q k (λ e z i w. put-made p t z e _ _ w k);
    micro = λ t m k. micro-made m t k;
    tell = λ t e k. k;
  }

  taken-made : (job : Job) (t : Table) → Made t → Made (taken job t)
  taken-made (ReactionJob step r derived) t k = k
  taken-made (Follow p q) t k = react-made t q (Adopt p) k
  taken-made (Settle p r) t k = unfollow-cases Made p t k (λ e z i w. put-made p t z e _ _ w k)
  taken-made (MicroJob m) t k = k

  next-made : (t : Table) (js : List Job) → Made t → Made (after_first t js)
  next-made t [] k = k
  next-made t (j ∷ js) k = taken-made j (record t { jobs = js }) k

  job-made : (s : Slots) (job : Option Job) → Made s.promises → Made (job_begun s job).slots.promises
  unfolding after_next_job
  job-made s None k = k
  job-made s (Some job) k = next-made s.promises s.promises.jobs k

  performed-made : (d : Done) → Made d.slots.promises → Made (performed d).promises
  performed-made d k = performed-kept (λ ms s es. Made s.promises) (λ ms s e es k. row-changes Made changes e s k) d k

  watch-made : (p : PromiseId) (t : Table) → Made t → Made (watch p t)
  watch-made p t k = watch-cases Made p t k (λ e z i w. put-made p t z e _ _ w k)

  named-made : (reply : Reply) (s : Slots) → Made s.promises → Made (named reply s).promises
  named-made (Named p) s k = watch-made p s.promises k
  named-made _ s k = k

  called-made : (c : Call) (s : Slots) → Made (begin c s).done.slots.promises → Made (step s (Called c)).promises
  called-made c s k = named-made (begin c s).reply (performed (begin c s).done) (performed-made (begin c s).done k)

  begin-made : (c : Call) (s : Slots) → Made s.promises → Made (begin c s).done.slots.promises
  begin-made c s k = begin-makes (λ z. Made z.promises) (record {
    promise = λ z k. changes.fresh z.promises k;
    locks = λ z ls k. k;
    hosts = λ z hs k. k;
    pipe = λ z source dest prevent signal promise k. k;
    signal = λ z k. k;
    transform = λ z kind i j change k. k;
    tee = λ z source first second cancel k. k;
    port = λ z side stream backpressure k. k;
    bytes = λ z mark auto k. k;
    byob_requests = λ z hs k. k;
    readable = λ z owner mark size k. k;
    writable = λ z owner mark size k. k;
  }) c s k

  step-made : (s : Slots) (x : Step) → Made s.promises → Made (step s x).promises
  unfolding begin_job
  step-made s (Called c) k = called-made c s (begin-made c s k)
  step-made s Worked k = performed-made (begin_job s) (job-made s (next_job s.promises) k)
  step-made s Heard k = k

-- numbers that rise from n on and are below m
abbrev Between : ℕ → ℕ → List PromiseId → Type 0
Between n m [] = n ≤ m
Between n m (p ∷ ps) = (n ≤ p.0) × Between (p.0 + 1) m ps

rise-later : (n m : ℕ) (ps : List PromiseId) → n ≤ m → RiseFrom m ps → RiseFrom n ps
rise-later n m [] l r = tt
rise-later n m (p ∷ ps) l r = (let k = r.0 in omega arith, r.1)

rise-append : (n m : ℕ) (ps qs : List PromiseId) → Between n m ps → RiseFrom m qs → RiseFrom n (ps ++ qs)
rise-append n m [] qs b r = rise-later n m qs b r
rise-append n m (p ∷ ps) qs b r = (b.0, rise-append (p.0 + 1) m ps qs b.1 r)

abbrev count : Slots → ℕ
count s = length s.promises.entries

self : (n : ℕ) → n ≤ n
self n = omega arith

more : (c : Call) (s : Slots) → count s ≤ count (step s (Called c))
more c s = called-made (count s) c s (begin-made (count s) c s (self (count s)))

-- the promise of a read is the next

named-between : (c : Call) (s : Slots) → named_by (reply_to c s) ≡ [] → Between (count s) (count (step s (Called c))) (named_by (reply_to c s))
named-between c s e = rw e (more c s)

new-between : (c : Call) (s : Slots) → named_by (reply_to c s) ≡ next_id s.promises ∷ [] → count (begin c s).done.slots ≡ count s + 1 → Between (count s) (count (step s (Called c))) (named_by (reply_to c s))
new-between c s one made = rw one (self (count s), called-made (count s + 1) c s (omega (arith, made)))

-- what a call answers is nothing or the next promise
begun-between : (c : Call) (s : Slots) (b : Begun) → begin c s ≡ b → (named_by b.reply ≡ []) ⊎ ((named_by b.reply ≡ next_id s.promises ∷ []) × (count b.done.slots ≡ count s + 1)) → Between (count s) (count (step s (Called c))) (named_by (reply_to c s))
begun-between c s b e (inl n) = named-between c s (ap (λ (b : Begun). named_by b.reply) e ∙ n)
begun-between c s b e (inr n) = new-between c s (ap (λ (b : Begun). named_by b.reply) e ∙ n.0) (ap (λ (b : Begun). count b.done.slots) e ∙ n.1)

abbrev IsNext : Slots → Begun → Type 0
IsNext s b = (named_by b.reply ≡ []) ⊎ ((named_by b.reply ≡ next_id s.promises ∷ []) × (count b.done.slots ≡ count s + 1))

next-read : (s : Slots) (o : Option Lock) → IsNext s (by_default_reader lock_calls.read replying.rejected s o)
next-read s None = inl refl
next-read s (Some (Reader None closed)) = inr (refl, length-fresh s.promises)
next-read s (Some (Reader (Some j) closed)) = either (IsNext s) (has_source j s) (lock_calls.read j s) (unsupported s) (λ there. inr (refl, length-fresh s.promises)) (λ none. inl refl)
next-read s (Some (ByobReader stream closed)) = inl refl
next-read s (Some (Writer j)) = inl refl
next-read s (Some (ReleasedWriter w)) = inl refl
next-read s (Some Inner) = inl refl

next-by : (holding : StreamId → Slots → Begun) (fault : Fault) (s : Slots) (o : Option Lock) → ((j : StreamId) → IsNext s (holding j s)) → IsNext s (lock_calls.by_byob_reader holding (replying.rejected_with fault) s o)
next-by holding fault s None h = inl refl
next-by holding fault s (Some (Reader stream closed)) h = inl refl
next-by holding fault s (Some (ByobReader None closed)) h = inr (refl, length-fresh s.promises)
next-by holding fault s (Some (ByobReader (Some j) closed)) h = either (IsNext s) (has_source j s) (holding j s) (unsupported s) (λ there. h j) (λ none. inl refl)
next-by holding fault s (Some (Writer j)) h = inl refl
next-by holding fault s (Some (ReleasedWriter w)) h = inl refl
next-by holding fault s (Some Inner) h = inl refl

next-into : (room : List ℕ) (element least : ℕ) (s : Slots) (o : Option Lock) → IsNext s (lock_calls.read_into_by room element least s o)
next-into room element least s o =
    let fault : Fault = lock_calls.least_fault (length room) least in
    either (IsNext s) (not (lock_calls.is_view (length room) element)) (unsupported s) _ (λ e. inl refl)
    (λ e. either (IsNext s) (not (lock_calls.has_least (length room) element least)) (lock_calls.refuse_least fault s o) (lock_calls.by_byob_reader (lock_calls.read_into room element least) replying.rejected s o)
    (λ f. next-by (λ j. replying.rejected_with fault) fault s o (λ j. inr (refl, length-fresh s.promises)))
    (λ f. next-by (lock_calls.read_into room element least) TypeError s o (λ j. inr (refl, length-fresh s.promises))))

-- a part of these is told
if_between : (n m : ℕ) (c : Bool) (ps : List PromiseId) → n ≤ m → Between n m ps → Between n m (if c then ps else [])
if_between n m true ps l b = b
if_between n m false ps l b = l

with-between : (i : StreamId) (n m : ℕ) (reply : Reply) (o : Option Lock) → n ≤ m → Between n m (named_by reply) → Between n m (asked_with i reply o)
with-between i n m reply None l b = l
with-between i n m reply (Some (Reader None closed)) l b = l
with-between i n m reply (Some (Reader (Some j) closed)) l b = if_between n m (is_same i j) (named_by reply) l b
with-between i n m reply (Some (ByobReader stream closed)) l b = l
with-between i n m reply (Some (Writer j)) l b = l
with-between i n m reply (Some (ReleasedWriter w)) l b = l
with-between i n m reply (Some Inner) l b = l

into-between : (i : StreamId) (n m : ℕ) (reply : Reply) (o : Option Lock) → n ≤ m → Between n m (named_by reply) → Between n m (into_with i reply o)
into-between i n m reply None l b = l
into-between i n m reply (Some (Reader stream closed)) l b = l
into-between i n m reply (Some (ByobReader None closed)) l b = l
into-between i n m reply (Some (ByobReader (Some j) closed)) l b = if_between n m (is_same i j) (named_by reply) l b
into-between i n m reply (Some (Writer j)) l b = l
into-between i n m reply (Some (ReleasedWriter w)) l b = l
into-between i n m reply (Some Inner) l b = l

call-between : (i : StreamId) (c : Call) (s : Slots) → Between (count s) (count (step s (Called c))) (call_byte_asked i c s)
unfolding begin
call-between i (ReadCall l) s =
    let c : Call = ReadCall l in
    let n : ℕ = count (step s (Called c)) in
    if_between (count s) n (has_byte i s) (asked_with i (reply_to c s) (lock_at l s)) (more c s)
    (with-between i (count s) n (reply_to c s) (lock_at l s) (more c s) (begun-between c s (by_default_reader lock_calls.read replying.rejected s (lock_at l s)) refl (next-read s (lock_at l s))))
call-between i (ReadIntoCall l room element least) s =
    let c : Call = ReadIntoCall l room element least in
    let n : ℕ = count (step s (Called c)) in
    if_between (count s) n (has_byte i s && lock_calls.has_least (length room) element least) (into_with i (reply_to c s) (lock_at l s)) (more c s)
    (into-between i (count s) n (reply_to c s) (lock_at l s) (more c s) (begun-between c s (lock_calls.read_into_by room element least s (lock_at l s)) refl (next-into room element least s (lock_at l s))))
call-between i c s = more c s

step-between : (i : StreamId) (s : Slots) (x : Step) → Between (count s) (count (step s x)) (byte_asked_in_step i s x)
step-between i s (Called c) = call-between i c s
step-between i s Worked = step-made (count s) s Worked (self (count s))
step-between i s Heard = step-made (count s) s Heard (self (count s))

pub run-rises : (i : StreamId) (xs : List Step) (s : Slots) → RiseFrom (count s) (byte_asked_by_calls i xs s)
run-rises i [] s = tt
run-rises i (x ∷ xs) s = rise-append (count s) (count (step s x)) (byte_asked_in_step i s x) (byte_asked_by_calls i xs (step s x)) (step-between i s x) (run-rises i xs (step s x))
