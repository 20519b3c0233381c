-- What the methods of a node do, as it is told.
use Rattle.std.proofs.Common.{◌≡◌, ◌≢◌, ◌+◌, ◌-◌, ◌<◌, ◌≤◌, ℕ, zero, suc, List, [], ◌∷◌, ◌++◌, length, Option, Some, None, Result, Ok, Err, Bool, true, false, not, refl, sym, ap, subst, ◌∙◌, append-nil, arith}
use Rattle.std.specs.Prelude.{is_some, nat_lt, ◌==◌, if◌then◌else◌}
use Rattle.std.proofs.lemmas.Bool.Decides.{nat_tests}
use Rattle.ws_value.specs.declared.fault.Fault.TheVariants.{TooMuch}
use Rattle.ws_value.specs.declared.value.Plain.TheVariants.{Fault as FaultReason}
use Rattle.ws_value.specs.declared.ids.HostId.{HostId}
use Rattle.ws_value.specs.declared.ids.StreamId.{StreamId}
use Rattle.ws_value.specs.declared.value.Plain.{Plain as PlainValue}
use Rattle.ws_value.specs.declared.value.Value.{Value}
use Rattle.ws_value.specs.declared.value.Value.TheVariants.{Bytes, Plain}
use Rattle.ws_io.specs.Gain.{Gains, Got}
use Rattle.ws_io.proofs.Flow.{Gains-nothing}
use Rattle.ws_laws.proofs.Ages.{called-age, worked-age}
use Rattle.ws_steps.specs.declared.calls.Call.{Call}
use Rattle.ws_steps.specs.declared.calls.Call.TheVariants.{Enqueue, Finish, Fail}
use Rattle.ws_steps.specs.declared.calls.HostCall.{HostCall}
use Rattle.ws_steps.specs.declared.calls.Reply.{Reply}
use Rattle.ws_steps.specs.declared.calls.Reply.TheVariants.{Done}
use Rattle.ws_steps.specs.Run.{run, after_call, after_job, reply_to, jobs_in_a_row}
use Rattle.ws_steps.specs.Slots.{Slots}
use Rattle.ws_stages.specs.State.{State}
use Rattle.ws_realm.specs.Seen.{SeenRealm, oldest}
use Rattle.ws_realm.specs.declared.realm.Why.{Why}
use Rattle.ws_io.specs.Feed.{Feed}
use Rattle.ws_realm.specs.declared.realm.Why.TheVariants.{NoMemory, Spent}
use Rattle.ws_node.specs.declared.node.Abort.{Abort as AbortOf}
use Rattle.ws_node.specs.declared.node.Node.{Node}
use Rattle.ws_node.specs.declared.node.Input.{Input}
use Rattle.ws_node.specs.declared.node.Input.TheVariants.{Open as InputOpen, Ended, Failed as InputFailed, TooLong, Edge, Broken}
use Rattle.ws_node.specs.declared.node.Output.{Output}
use Rattle.ws_node.specs.declared.node.Output.TheVariants.{Open, Finished, Failed, Aborted, Edge as OutputEdge}
use Rattle.ws_node.specs.Moves.{IsYoung, Asks, Performed, Refused, Before, Wanting, IsSpent, IsDoneBy, Stops, Works, with_realm, Shown, Untouched, Settles, writes_by, Answers, takes_bytes, takes_chunk, is_readable, is_writable, had_by, DrawsNear, draws_by, draws_near, nearer, triggers, transforms_by, settles, NeedsNoRead, IsStopped, IsShut, Reads, ReadNot}

-- a realm that has stopped is asked nothing
asks-stopped_by : (c : Call) (a : Node) (why : Option Why) → a.core.stopped ≡ why → is_some why ≡ true → Asks c a a
asks-stopped_by c a None e some = absurd (cc)
asks-stopped_by c a (Some why) e some = Refused why (Before e) (ap (λ q. record a { core = record a.core { stopped = q } }) e)

pub asks-stopped : (c : Call) (a : Node) → is_some a.core.stopped ≡ true → Asks c a a
asks-stopped c a some = asks-stopped_by c a a.core.stopped refl some

pub is_none_so : (w : Option Why) → is_some w ≡ false → w ≡ None
is_none_so None h = refl
is_none_so (Some why) h = absurd (cc)

-- where the input isn't read
stopped-why : (w : Option Why) (a : Node) → a.core.stopped ≡ w → is_some w ≡ true → NeedsNoRead a
stopped-why None a e some = absurd (cc)
stopped-why (Some why) a e some = IsStopped why e

pub stopped-rests : (a : Node) → is_some a.core.stopped ≡ true → NeedsNoRead a
stopped-rests a some = stopped-why a.core.stopped a refl some

shut-by : (i : Input) (a : Node) → a.entrance.input ≡ i → is_readable i ≡ false → NeedsNoRead a
shut-by InputOpen a e shut = absurd (cc)
shut-by Ended a e shut = IsShut (λ f. let g : Ended ≡ InputOpen = sym e ∙ f in cc)
shut-by InputFailed a e shut = IsShut (λ f. let g : InputFailed ≡ InputOpen = sym e ∙ f in cc)
shut-by TooLong a e shut = IsShut (λ f. let g : TooLong ≡ InputOpen = sym e ∙ f in cc)
shut-by Edge a e shut = IsShut (λ f. let g : Edge ≡ InputOpen = sym e ∙ f in cc)
shut-by (Broken r) a e shut = IsShut (λ f. let g : Broken r ≡ InputOpen = sym e ∙ f in cc)

pub shut-rests : (a : Node) → is_readable a.entrance.input ≡ false → NeedsNoRead a
shut-rests a shut = shut-by a.entrance.input a refl shut

pub unread : (a : Node) (f : Option Feed) (n : ℕ) → NeedsNoRead a → Reads a a f f n n
unread a f n none = ReadNot none refl (record { feed = refl; calm = refl })

-- what isn't as old as it may be is no older once it is one older
no_older : (most before now : ℕ) → now ≡ before + 1 → (before ≡ most → ⊥) → before ≤ most → now ≤ most
no_older most before now e young within = grind arith

pub called-young : (c : Call) (s t : Slots) → t ≡ after_call c s → (s.age ≡ oldest → ⊥) → IsYoung s.age t.age
called-young c s t e young within = no_older oldest s.age t.age (ap (λ (q : Slots). q.age) e ∙ called-age c s) young within

pub worked-young : (s t : Slots) → t ≡ after_job s → (s.age ≡ oldest → ⊥) → IsYoung s.age t.age
worked-young s t e young within = no_older oldest s.age t.age (ap (λ (q : Slots). q.age) e ∙ worked-age s) young within

pub asks-performed : (c : Call) (a : Node) (realm : SeenRealm) → is_some a.core.stopped ≡ false → realm.slots ≡ after_call c a.core.realm.slots → (a.core.realm.slots.age ≡ oldest → ⊥)
    → Asks c a (with_realm realm a)
asks-performed c a realm none slots young = Performed realm slots (called-young c a.core.realm.slots realm.slots slots young) (is_none_so a.core.stopped none) refl

-- a realm that refuses a call is as it was
stops : (a : Node) (why : Why) → a.core.stopped ≡ None → (why ≡ Spent → a.core.realm.slots.age ≡ oldest) → Stops why a
stops a NoMemory going spent = Wanting going refl
stops a Spent going spent = IsSpent going refl (spent refl)

pub asks-refused : (c : Call) (a : Node) (realm : SeenRealm) (why : Why) → is_some a.core.stopped ≡ false → realm ≡ a.core.realm → (why ≡ Spent → a.core.realm.slots.age ≡ oldest)
    → Asks c a (record a { core = record a.core { realm = realm; stopped = Some why } })
asks-refused c a realm why none same spent = Refused why (stops a why (is_none_so a.core.stopped none) spent) (ap (λ q. record a { core = record a.core { realm = q; stopped = Some why } }) same)

-- a call that is answered Done
pub done-by : (c : Call) (a : Node) (realm : SeenRealm) (reply : Reply) → is_some a.core.stopped ≡ false → reply ≡ reply_to c a.core.realm.slots → reply ≡ Done → IsDoneBy c a (with_realm realm a)
done-by c a realm reply none answered done =
    record { going = is_none_so a.core.stopped none; done = sym answered ∙ done; goes_on = is_none_so a.core.stopped none }

-- what a test tells

pub is_open : (o : Output) (t : Bool) → t ≡ is_writable o → t ≡ true → o ≡ Open
is_open Open t e f = refl
is_open Finished t e f = absurd (cc)
is_open Failed t e f = absurd (cc)
is_open Aborted t e f = absurd (cc)
is_open OutputEdge t e f = absurd (cc)

pub isn't_open : (o : Output) (t : Bool) → t ≡ is_writable o → t ≡ false → o ≢ Open
isn't_open Open t e f = absurd (cc)
isn't_open Finished t e f = λ g. cc
isn't_open Failed t e f = λ g. cc
isn't_open Aborted t e f = λ g. cc
isn't_open OutputEdge t e f = λ g. cc

-- what holds where a test is so, or isn't
pub so : (P : Bool → Type 0) (t b : Bool) → t ≡ b → t ≡ true → P true → P b
so P true b e f h = subst P e h
so P false b e f h = absurd (cc)

pub not_so : (P : Bool → Type 0) (t b : Bool) → t ≡ b → t ≡ false → P false → P b
not_so P false b e f h = subst P e h
not_so P true b e f h = absurd (cc)

-- an output that isn't touched
pub untouched : (s : Shown) (p : Got) → Untouched s s p p
untouched s p = record { shown = refl; gained = Gains-nothing p }

-- all of a piece was gained
pub gains-all : (p q : Got) (piece gain rest : List ℕ) → piece ≡ gain ++ rest → rest ≡ [] → Gains p q gain → Gains p q piece
gains-all p q piece gain rest e none g = subst (Gains p q) (sym (e ∙ (ap (λ r. gain ++ r) none ∙ append-nil gain))) g

-- what isn't of the sink is settled
pub settles-other_stream : (id : HostId) (v : Value) (a b : Node) (old new : Shown) (p q : Got) → Settles id a b old new p q → writes_by id v a b old new p q false
settles-other_stream id (Bytes piece) a b old new p q h = h
settles-other_stream id (Plain v) a b old new p q h = h

pub settles-plain : (id : HostId) (v : PlainValue) (t : Bool) (a b : Node) (old new : Shown) (p q : Got) → Settles id a b old new p q → writes_by id (Plain v) a b old new p q t
settles-plain id v true a b old new p q h = h
settles-plain id v false a b old new p q h = h

-- no jobs, or one more, or a realm that stops

pub works-none : (a : Node) → Works a a
works-none a = record { jobs = 0; realm = a.core.realm; stopped = a.core.stopped; slots = refl; young = λ less. less; is = refl; stays = λ why e. refl; spent = λ n e. absurd (cc) }

run-more : (n : ℕ) (s : Slots) → run (jobs_in_a_row (suc n)) s ≡ after_job (run (jobs_in_a_row n) s)
run-more zero s = refl
run-more (suc n) s = run-more n (after_job s)

stopped-same : (why : Why) (a b : Node) (w : Option Why) → Works a b → b.core.stopped ≡ None → a.core.stopped ≡ Some why → w ≡ w → ⊥
stopped-same why a b w works none e f = let same = works.stays why e in cc

not_spent : (a b : Node) (w : Works a b) → b.core.stopped ≡ None → w.stopped ≡ Some Spent → ⊥
not_spent a b w none e = let is : b.core.stopped ≡ w.stopped = ap (λ (n : Node). n.core.stopped) w.is in cc

-- the realm of a node that worked, by name
works-young : (a b : Node) (w : Works a b) → IsYoung a.core.realm.slots.age b.core.realm.slots.age
works-young a b w = λ less. subst (λ (n : ℕ). n ≤ oldest) (ap (λ (n : Node). n.core.realm.slots.age) (sym w.is)) (w.young less)

pub works-more : (a b : Node) (realm : SeenRealm) → Works a b → is_some b.core.stopped ≡ false → realm.slots ≡ after_job b.core.realm.slots → (b.core.realm.slots.age ≡ oldest → ⊥)
    → Works a (with_realm realm b)
works-more a b realm w none slots young =
    let is = w.is in
    record {
      jobs = suc w.jobs;
      realm = realm;
      stopped = w.stopped;
      slots = slots ∙ (ap (λ (q : Node). after_job q.core.realm.slots) is ∙ (ap after_job w.slots ∙ sym (run-more w.jobs a.core.realm.slots)));
      young = λ less. worked-young b.core.realm.slots realm.slots slots young (works-young a b w less);
      is = ap (with_realm realm) is;
      stays = λ why e. absurd (stopped-same why a b None w (is_none_so b.core.stopped none) e refl);
      spent = λ n e. absurd (not_spent a b w (is_none_so b.core.stopped none) e);
    }

pub works-stops : (a b : Node) (realm : SeenRealm) (why : Why) → Works a b → is_some b.core.stopped ≡ false → realm ≡ b.core.realm → (why ≡ Spent → b.core.realm.slots.age ≡ oldest)
    → Works a (record b { core = record b.core { realm = realm; stopped = Some why } })
works-stops a b realm why w none same spent =
    let is = w.is in
    record {
      jobs = w.jobs;
      realm = realm;
      stopped = Some why;
      slots = ap (λ (q : SeenRealm). q.slots) same ∙ (ap (λ (q : Node). q.core.realm.slots) is ∙ w.slots);
      young = λ less. subst (λ (q : SeenRealm). q.slots.age ≤ oldest) (sym same) (works-young a b w less);
      is = ap (λ (q : Node). record q { core = record q.core { realm = realm; stopped = Some why } }) is;
      stays = λ why e. absurd (stopped-same why a b None w (is_none_so b.core.stopped none) e refl);
      spent = λ n e. ap (λ (q : SeenRealm). q.slots.age) same ∙ spent (cc);
    }

pub works-idle : (a b : Node) (realm : SeenRealm) → Works a b → is_some b.core.stopped ≡ false → realm.slots ≡ b.core.realm.slots → Works a (with_realm realm b)
works-idle a b realm w none same =
    let is = w.is in
    record {
      jobs = w.jobs;
      realm = realm;
      stopped = w.stopped;
      slots = same ∙ (ap (λ (q : Node). q.core.realm.slots) is ∙ w.slots);
      young = λ less. subst (λ (q : Slots). q.age ≤ oldest) (sym same) (works-young a b w less);
      is = ap (with_realm realm) is;
      stays = λ why e. absurd (stopped-same why a b None w (is_none_so b.core.stopped none) e refl);
      spent = λ n e. absurd (not_spent a b w (is_none_so b.core.stopped none) e);
    }

pub may_read : (i : Input) (t : Bool) → t ≡ is_readable i → t ≡ true → i ≡ InputOpen
may_read InputOpen t e f = refl
may_read Ended t e f = absurd (cc)
may_read InputFailed t e f = absurd (cc)
may_read TooLong t e f = absurd (cc)
may_read Edge t e f = absurd (cc)
may_read (Broken r) t e f = absurd (cc)

-- what a read gave is taken

longer_than_none : (n : ℕ) → (suc n == 0) ≡ true → ⊥
longer_than_none n h = grind (arith, nat_tests)

none_is_none : (0 == 0) ≡ false → ⊥
none_is_none h = grind (arith, nat_tests)

pub takes-empty : (piece : List ℕ) (a b : Node) (t : Bool) → t ≡ (length piece == 0) → t ≡ true → Asks (Finish a.entrance.source) (record a { entrance = record a.entrance { input = Ended } }) b → takes_chunk piece a b
takes-empty [] a b t e f h = h
takes-empty (x ∷ xs) a b t e f h = absurd (longer_than_none (length xs) (sym e ∙ f))

pub takes-long : (piece : List ℕ) (n : ℕ) (a b : Node) (t : Bool) → t ≡ (length piece == 0) → t ≡ false → n ≡ length piece → a.entrance.most < a.entrance.taken + n
    → Asks (Fail a.entrance.source (FaultReason TooMuch)) (record a { entrance = record a.entrance { taken = a.entrance.taken + n; ahead = n; input = TooLong } }) b → takes_chunk piece a b
takes-long [] n a b t e f m more h = absurd (none_is_none (sym e ∙ f))
takes-long (x ∷ xs) n a b t e f m more h =
    let longer : nat_lt a.entrance.most (a.entrance.taken + length (x ∷ xs)) ≡ true = grind (arith, nat_tests) in
    subst (takes_bytes (x ∷ xs) a b) (sym longer)
    (subst (λ (k : ℕ). Asks (Fail a.entrance.source (FaultReason TooMuch)) (record a { entrance = record a.entrance { taken = a.entrance.taken + k; ahead = k; input = TooLong } }) b) m h)

pub takes-some : (piece : List ℕ) (n : ℕ) (a b : Node) (t : Bool) → t ≡ (length piece == 0) → t ≡ false → n ≡ length piece → a.entrance.taken + n ≤ a.entrance.most
    → Asks (Enqueue a.entrance.source (Bytes piece)) (record a { entrance = record a.entrance { taken = a.entrance.taken + n; ahead = n } }) b → takes_chunk piece a b
takes-some [] n a b t e f m less h = absurd (none_is_none (sym e ∙ f))
takes-some (x ∷ xs) n a b t e f m less h =
    let within : nat_lt a.entrance.most (a.entrance.taken + length (x ∷ xs)) ≡ false = grind (arith, nat_tests) in
    subst (takes_bytes (x ∷ xs) a b) (sym within)
    (subst (λ (k : ℕ). Asks (Enqueue a.entrance.source (Bytes (x ∷ xs))) (record a { entrance = record a.entrance { taken = a.entrance.taken + k; ahead = k } }) b) m h)

-- where a job was performed, one was queued
pub job-performed : (idle : Bool) (z s t : Slots) → z ≡ (if idle then s else t) → true ≡ not idle → z ≡ t
job-performed true z s t e f = absurd (cc)
job-performed false z s t e f = e

-- what was done wasn't refused
pub not-refused : {A E : Type 0} (r : Result A E) (x : A) (e : E) → r ≡ Ok x → r ≡ Err e → ⊥
not-refused r x e f g = cc

-- what the writes of a chunk and its answers say

pub draws-zero : (count left : ℕ) (abort : AbortOf) (a b : Node) → a.exit.abort ≡ Some abort → left ≡ abort.left - count → left ≡ 0
    → Asks (triggers abort) (record a { exit = record a.exit { abort = Some (record abort { left = left }) } }) b → DrawsNear count a b
draws-zero count left abort a b e f none asks =
    let gone : abort.left - count ≡ 0 = sym f ∙ none in
    subst (λ (o : Option AbortOf). draws_by count o a b) (sym e)
    (subst (λ (k : ℕ). draws_near (nearer count abort) k a b) (sym gone)
    (subst (λ (k : ℕ). Asks (triggers abort) (record a { exit = record a.exit { abort = Some (record abort { left = k }) } }) b) f asks))

pub had-none : (ws : List State) (t : Bool) (count ahead : ℕ) → t ≡ (length ws == 0) → t ≡ true → (ws ≡ []) × (had_by ws count ahead ≡ ahead - count)
had-none [] t count ahead e f = (refl, refl)
had-none (w ∷ ws) t count ahead e f = absurd (longer_than_none (length ws) (sym e ∙ f))

pub had-some : (ws : List State) (t : Bool) (count ahead : ℕ) → t ≡ (length ws == 0) → t ≡ false → had_by ws count ahead ≡ ahead
had-some [] t count ahead e f = absurd (none_is_none (sym e ∙ f))
had-some (w ∷ ws) t count ahead e f = refl

pub settles-unless_bytes : (id : HostId) (i : StreamId) (v : Value) (a b : Node) → ((piece : List ℕ) → v ≡ Bytes piece → ⊥) → Asks (settles id) a b → transforms_by id i v a b
settles-unless_bytes id i (Bytes piece) a b e h = absurd (e piece refl)
settles-unless_bytes id i (Plain v) a b e h = h

-- what is said of a call, or of a value, that is known

pub answers-so : (id : HostId) (call is : HostCall) (a b : Node) (old new : Shown) (p q : Got) → call ≡ is → Answers id is a b old new p q → Answers id call a b old new p q
answers-so id call is a b old new p q e h = subst (λ (c : HostCall). Answers id c a b old new p q) (sym e) h

pub writes-so : (id : HostId) (v is : Value) (t : Bool) (a b : Node) (old new : Shown) (p q : Got) → v ≡ is → writes_by id is a b old new p q t → writes_by id v a b old new p q t
writes-so id v is t a b old new p q e h = subst (λ (w : Value). writes_by id w a b old new p q t) (sym e) h
