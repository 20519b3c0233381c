-- Over every run: a pipe's promise is rejected only with a reason that has an origin.
use Rattle.std.proofs.Common.{◌≡◌, ℕ, ◌+◌, ◌≤◌, Bool, true, false, ◌||◌, is_some, if◌then◌else◌, map, List, [], ◌∷◌, ◌++◌, length, Option, Some, None, slice_get, refl, sym, ap, subst, ◌∙◌, arith, nat_eq, Contains}
use Rattle.std.specs.Option.{option_map}
use Rattle.ws_value.specs.declared.ids.PipeId.{PipeId}
use Rattle.ws_value.specs.declared.ids.PromiseId.{PromiseId}
use Rattle.ws_value.specs.declared.ids.SignalId.{SignalId}
use Rattle.ws_value.specs.declared.ids.StreamId.{StreamId}
use Rattle.ws_value.specs.declared.ids.TeeId.{TeeId}
use Rattle.ws_value.specs.declared.value.Outcome.{Outcome}
use Rattle.ws_value.specs.declared.value.Outcome.TheVariants.{Rejected}
use Rattle.ws_value.specs.declared.value.Plain.{Plain}
use Rattle.ws_value.specs.declared.value.Plain.TheVariants.{Pair}
use Rattle.ws_steps.specs.declared.calls.Call.{Call}
use Rattle.ws_steps.specs.declared.calls.Call.TheVariants.{Pipe}
use Rattle.ws_steps.specs.declared.calls.Reply.{Reply}
use Rattle.ws_steps.specs.declared.calls.Reply.TheVariants.{Promise}
use Rattle.ws_steps.specs.declared.pipes.Prevent.{Prevent}
use Rattle.ws_steps.specs.Begun.{Begun}
use Rattle.ws_steps.specs.Calls.{begin}
use Rattle.ws_steps.specs.PipeCalls as pipe_calls
use Rattle.ws_steps.specs.Cross.{data_clone}
use Rattle.ws_steps.specs.Effects.{type_error}
use Rattle.ws_steps.specs.Pipes as pipe
use Rattle.ws_steps.specs.Promises.{Entry as PromiseEntry, Table, next_id, fresh, outcome_at, entry_at}
use Rattle.ws_steps.specs.Run.{Entry, Called, step, run, reply_to}
use Rattle.ws_steps.specs.Slots.{Slots, empty, pair_at}
use Rattle.ws_pipe_laws.proofs.pipes.Kept.{each_pipe_stays}
use Rattle.ws_reason_laws.specs.Origins.{through, by_ports, origins, AreUnlocked, IsOpen, EachReasonHasAnOrigin}
use Rattle.ws_reason_laws.specs.Reasons.{failures, NeedsTee}
use Rattle.ws_reason_laws.specs.Uncloned.{step_uncloned, run_uncloned}
use Rattle.ws_laws.proofs.Halves.{halved-empty}
use Rattle.ws_laws.proofs.Ended.{ended-empty}
use Rattle.ws_reason_laws.proofs.Among.{same_reason, reason_same, reason_self, is_among, bad_unless, all-good, good_among, among_contained}
use Rattle.ws_reason_laws.proofs.Answers.{bad_call, bad-append}
use Rattle.ws_reason_laws.proofs.Begins.{own-known}
use Rattle.ws_reason_laws.proofs.Halved.{Halved, half_at, halved-end, halved-before, halved-begun}
use Rattle.ws_reason_laws.proofs.InTable.{entry-good, fresh-count}
use Rattle.ws_reason_laws.proofs.Known.{Badness, class, teed_at, teed-at, Known}
use Rattle.ws_reason_laws.proofs.Moments.{moment-empty}
use Rattle.ws_reason_laws.proofs.Newly.{made-opens}
use Rattle.ws_reason_laws.proofs.Opening.{NewOpens}
use Rattle.ws_reason_laws.proofs.Runs.{Whole, call-whole, bad_run, first-good, run-whole}
use Rattle.ws_reason_laws.proofs.Fair.{run_then, Free, Fair, fair-paired, fair-free, fair-next, fair-first, fair-second}
use Rattle.ws_reason_laws.proofs.Teed.{Paired}
use Rattle.ws_reason_laws.proofs.Weights.{Class, in_outcome, in_entry, in_table, bad_of, minds, count}

none_some : (y : pipe.Slots) → ◌≡◌ {A = Option pipe.Slots} None (Some y) → ⊥
none_some y e = cc

-- before the pipe is made it isn't there

abbrev pub Before : PipeId → Slots → List Entry → Type 0
Before me s xs = slice_get (run xs s).pipes me.0 ≡ None

pub before-new : (mind : StreamId → Prevent → Bool) (me : PipeId) (s : Slots) (c : Call) (xs : List Entry) → Before me s (Called c ∷ xs) → NewOpens mind me c s
before-new mind me s c xs f x none e m g =
    let t = (each_pipe_stays me s).in_call c x e in
    let u = (each_pipe_stays me (step s (Called c))).in_run xs t.slots t.there in
    absurd (none_some u.slots (sym f ∙ u.there))

-- and from then on it is

abbrev After : PipeId → Slots → List Entry → Type 0
After me s xs = (y : pipe.Slots) × (slice_get s.pipes me.0 ≡ Some y)

after-next : (me : PipeId) (s : Slots) (x : Entry) (xs : List Entry) → After me s (x ∷ xs) → After me (step s x) xs
after-next me s x xs f = let t = (each_pipe_stays me s).in_run (x ∷ []) f.0 f.1 in (t.slots, t.there)

after-new : (mind : StreamId → Prevent → Bool) (me : PipeId) (s : Slots) (c : Call) (xs : List Entry) → After me s (Called c ∷ xs) → NewOpens mind me c s
after-new mind me s c xs f x none e m g = absurd (none_some f.0 (sym none ∙ f.1))

-- the call that makes it

pipe_last : (xs : List pipe.Slots) (y : pipe.Slots) → slice_get (xs ++ y ∷ []) (length xs) ≡ Some y
pipe_last [] y = refl
pipe_last (x ∷ xs) y = pipe_last xs y

pub pipe_past : (xs : List pipe.Slots) → slice_get xs (length xs) ≡ None
pipe_past [] = refl
pipe_past (x ∷ xs) = pipe_past xs

same_promise : (p q : PromiseId) → ◌≡◌ {A = Reply} (Promise p) (Promise q) → p ≡ q
same_promise p q e = cc

module _ (i j : StreamId) (prevent : Prevent) (signal : Option SignalId) (s : Slots) where
  abbrev made : Begun
  made = pipe_calls.pipe_to i j prevent signal s

  abbrev c : Call
  c = Pipe i j prevent signal

  pub begin-is : (q : PromiseId) → AreUnlocked i j s → reply_to c s ≡ Promise q → begin c s ≡ made
  unfolding begin
  begin-is q f e = let x = f.source in let y = f.dest in let z = f.source_unlocked in let w = f.dest_unlocked in grind (arith, x, y, z, w, e)

  -- its promise is the fourth that the call makes
  pub promise-is : (q : PromiseId) → begin c s ≡ made → reply_to c s ≡ Promise q → q.0 ≡ count s.promises + 3
  promise-is q b e =
      let t : Table = s.promises in
      let r : ◌≡◌ {A = Reply} (Promise (next_id (fresh (fresh (fresh t))))) (Promise q) = sym (ap (λ (z : Begun). z.reply) b) ∙ e in
      let is : next_id (fresh (fresh (fresh t))) ≡ q = same_promise (next_id (fresh (fresh (fresh t)))) q r in
      let n : count (fresh (fresh (fresh t))) ≡ q.0 = ap (λ (p : PromiseId). p.0) is in
      let c0 = fresh-count t in
      let c1 = fresh-count (fresh t) in
      let c2 = fresh-count (fresh (fresh t)) in
      omega (arith, n, c0, c1, c2)

minded : (bad : Badness) (me : PipeId) (i : StreamId) (prevent : Prevent) → minds bad.of bad.half me me i prevent ≡ true → nat_eq (bad.of type_error) 0 ≡ false
minded bad me i prevent m = grind (arith, m)

-- the call that makes it, where what it brings isn't bad
pipe-whole : (bad : Badness) (opening : List Entry) (i j : StreamId) (prevent : Prevent) (signal : Option SignalId) (q : PromiseId) → let s : Slots = run opening empty in
    let me : PipeId = record { 0 = length s.pipes } in let c : Call = Pipe i j prevent signal in AreUnlocked i j s → reply_to c s ≡ Promise q → (nat_eq (bad.of type_error) 0 ≡ false → IsOpen j s) → bad_call bad c s ≡ 0 → Free bad.of (run_uncloned opening empty || step_uncloned s (Called c)) → Halved bad.half (begin c s).done.slots
    → Whole bad me None s [] → Paired bad.of (step s (Called c)) → Whole bad me (Some q.0) (step s (Called c)) []
pipe-whole bad opening i j prevent signal q f e ready good free there w paired =
    let s : Slots = run opening empty in
    let me : PipeId = record { 0 = length s.pipes } in
    let c : Call = Pipe i j prevent signal in
    let b : begin c s ≡ pipe_calls.pipe_to i j prevent signal s = begin-is i j prevent signal s q f e in
    let mind : StreamId → Prevent → Bool = minds bad.of bad.half me me in
    let new : NewOpens mind me c s = rw b (λ x none there m g. made-opens mind me s i j prevent signal (λ n. let o = ready (minded bad me i prevent n) in record { closing = o.closing; closed = o.closed }) x none there m g) in
    let known : Known bad me (Some q.0) (begin c s).done.slots (begin c s).done.caused =
    rw b (own-known bad me None s w.known i j prevent signal q.0 refl (promise-is i j prevent signal s q b e)) in
    call-whole bad me None opening c good free there new (Some q.0) known w paired

-- from nothing

known-empty : (bad : Badness) (me : PipeId) → Known bad me None empty []
unfolding in_table
known-empty bad me = record { hands = λ i. true; mine = tt; good = λ f g same reads. refl }

pub whole-empty : (bad : Badness) (me : PipeId) → Whole bad me None empty []
whole-empty bad me = record { moment = moment-empty; halved = λ i y e. cc; opens = λ p x e m g. cc; known = known-empty bad me; halves = halved-empty; ended = ended-empty; erring = tt }

-- what a promise that hands on was rejected with

rejected-good : (k : Class) (n : ℕ) (o : Option PromiseEntry) (r : Plain) → in_entry k n o ≡ 0 → option_map (λ (e : PromiseEntry). e.outcome) o ≡ Some (Rejected r) → k.hands n ≡ true → k.bad r ≡ 0
rejected-good k n None r h e g = cc
rejected-good k n (Some x) r h e g =
    let is : x.outcome ≡ Rejected r = some_outcome x.outcome (Rejected r) e in
    let a : in_outcome k n x.outcome ≡ 0 = omega (arith, h) in
    let b : in_outcome k n (Rejected r) ≡ 0 = subst (λ (o : Outcome). in_outcome k n o ≡ 0) is a in
    grind (arith, b, g)
  where
    some_outcome : (o p : Outcome) → ◌≡◌ {A = Option Outcome} (Some o) (Some p) → o ≡ p
    some_outcome o p e = cc

pub known_rejected : (bad : Badness) (me : PipeId) (q : PromiseId) (s : Slots) (r : Plain) → Known bad me (Some q.0) s [] → outcome_at s.promises q ≡ Some (Rejected r) → bad.of r ≡ 0
known_rejected bad me q s r k out =
    let f : ℕ → Bool = k.hands in
    let g = k.good f (teed_at s) (λ i h. refl) (teed-at s) in
    let e = entry-good (class bad me f (teed_at s)) q s.promises (omega (arith, g)) in
    rejected-good (class bad me f (teed_at s)) q.0 (entry_at s.promises q) r e out k.mine.1

whole_rejected : (bad : Badness) (me : PipeId) (q : PromiseId) (s : Slots) (r : Plain) → Whole bad me (Some q.0) s [] → outcome_at s.promises q ≡ Some (Rejected r) → bad.of r ≡ 0
whole_rejected bad me q s r w out = known_rejected bad me q s r w.known out

-- the law

run-append : (bad : Badness) (xs ys : List Entry) (s : Slots) → bad_run bad (xs ++ ys) s ≡ bad_run bad xs s + bad_run bad ys (run xs s)
run-append bad [] ys s = omega arith
run-append bad (x ∷ xs) ys s =
    let h = run-append bad xs ys (step s x) in
    let a = first-good bad x (xs ++ ys) s in
    let b = first-good bad x xs s in
    omega (arith, h, a, b)

-- where no reason is bad that calls gave by which something fails, or brought through a transform stream, none is bad with which the pipe's
-- promise is rejected
good-rejection : (bad : Badness) (opening xs : List Entry) (i j : StreamId) (prevent : Prevent) (signal : Option SignalId) (q : PromiseId) (r : Plain) → let s : Slots = run opening empty in
    let entries : List Entry = opening ++ Called (Pipe i j prevent signal) ∷ xs in bad_run bad entries empty ≡ 0 → Halved bad.half (run entries empty) → Fair bad.of [] entries
    → AreUnlocked i j s → reply_to (Pipe i j prevent signal) s ≡ Promise q → (nat_eq (bad.of type_error) 0 ≡ false → IsOpen j s) → outcome_at (run entries empty).promises q ≡ Some (Rejected r) → bad.of r ≡ 0
good-rejection bad opening xs i j prevent signal q r good halved fairs free reply ready out =
    let s : Slots = run opening empty in
    let c : Call = Pipe i j prevent signal in
    let me : PipeId = record { 0 = length s.pipes } in
    let mind : StreamId → Prevent → Bool = minds bad.of bad.half me me in
    let a = run-append bad opening (Called c ∷ xs) empty in
    let d = first-good bad (Called c) xs s in
    let rest : run (opening ++ Called c ∷ xs) empty ≡ run (Called c ∷ xs) s = run_then opening (Called c ∷ xs) empty in
    let later : Halved bad.half (run (Called c ∷ xs) s) = subst (Halved bad.half) rest halved in
    let fair : Fair bad.of opening (Called c ∷ xs) = fair-second bad.of opening (Called c ∷ xs) fairs in
    let w1 : Whole bad me None s [] =
    run-whole bad me None (Before me) (λ s x xs f. f) (before-new mind me) [] opening (pipe_past s.pipes) (omega (arith, a, good)) (halved-before bad.half (Called c ∷ xs) s later) (fair-first bad.of opening (Called c ∷ xs) fairs) (whole-empty bad me) in
    let w2 : Whole bad me (Some q.0) (step s (Called c)) [] = pipe-whole bad opening i j prevent signal q free reply ready (omega (arith, a, d, good)) (fair-free bad.of opening (Called c) xs fair) (halved-begun bad.half c xs s later) w1 (fair-paired bad.of opening (Called c) xs fair) in
    let pre : List Entry = opening ++ Called c ∷ [] in
    let at : run pre empty ≡ step s (Called c) = run_then opening (Called c ∷ []) empty in
    let t = (each_pipe_stays me s).in_call c (pipe.set_up i j prevent signal (next_id (fresh (fresh (fresh s.promises))))) (there (begin-is i j prevent signal s q free reply)) in
    let after : bad_run bad xs (step s (Called c)) ≡ 0 = omega (arith, a, d, good) in
    let w3 : Whole bad me (Some q.0) (run xs (run pre empty)) [] =
    run-whole bad me (Some q.0) (After me) (after-next me) (after-new mind me) pre xs (rw at (t.slots, t.there)) (rw at after) (rw at later) (fair-next bad.of opening (Called c) xs fair) (rw at w2) in
    let all_ : run (opening ++ Called c ∷ xs) empty ≡ run xs (run pre empty) = run_then opening (Called c ∷ xs) empty ∙ ap (λ (z : Slots). run xs z) (sym at) in
    whole_rejected bad me q (run xs (run pre empty)) r w3 (rw all_ at out)
  where
    there : begin (Pipe i j prevent signal) (run opening empty) ≡ pipe_calls.pipe_to i j prevent signal (run opening empty)
        → slice_get (begin (Pipe i j prevent signal) (run opening empty)).done.slots.pipes (length (run opening empty).pipes) ≡ Some (pipe.set_up i j prevent signal (next_id (fresh (fresh (fresh (run opening empty).promises)))))
    there b = rw b (pipe_last (run opening empty).pipes _)

-- a pair isn't bad where its tee keeps both reasons
abbrev pub but_pairs : Slots → (Plain → ℕ) → Plain → ℕ
but_pairs s bad (Pair t) = if is_some (pair_at t s) then 0 else bad (Pair t)
but_pairs s bad r = bad r

pairs-less : (s : Slots) (bad : Plain → ℕ) (r : Plain) → but_pairs s bad r ≤ bad r
pairs-less s bad (Pair t) = by (is_some (pair_at t s))
  where
    by : (b : Bool) → (if b then 0 else bad (Pair t)) ≤ bad (Pair t)
    by true = omega arith
    by false = omega arith
pairs-less s bad r = omega arith

pairs-all : (s : Slots) (bad : Plain → ℕ) (rs : List Plain) → bad_of (but_pairs s bad) rs ≤ bad_of bad rs
pairs-all s bad [] = omega arith
pairs-all s bad (r ∷ rs) = let a = pairs-less s bad r in let b = pairs-all s bad rs in omega (arith, a, b)

unpaired : (s : Slots) (bad : Plain → ℕ) (r : Plain) → ((t : TeeId) → r ≡ Pair t → pair_at t s ≡ None) → but_pairs s bad r ≡ 0 → bad r ≡ 0
unpaired s bad (Pair t) n h = by (pair_at t s) (n t refl) h
  where
    by : (o : Option (Plain × Plain)) → o ≡ None → (if is_some o then 0 else bad (Pair t)) ≡ 0 → bad (Pair t) ≡ 0
    by None n h = h
    by (Some q) n h = cc
unpaired s bad r n h = h

-- only the origins of a run count, and these others
abbrev pub but_origins : List Plain → List Entry → Badness
but_origins others entries = record { of = but_pairs (run entries empty) (bad_unless (others ++ origins entries)); half = half_at (run entries empty) }

-- where a tee keeps both reasons its pair isn't bad
paired-end : (others : List Plain) (entries : List Entry) → Paired (but_origins others entries).of (run entries empty)
paired-end others entries t q e = by (pair_at t (run entries empty)) e
  where
    by : (o : Option (Plain × Plain)) → o ≡ Some q → (if is_some o then 0 else bad_unless (others ++ origins entries) (Pair t)) ≡ 0
    by None e = cc
    by (Some p) e = refl

pub of-origins : (others : List Plain) (entries : List Entry) (r : Plain) → NeedsTee r entries → (but_origins others entries).of r ≡ 0 → is_among r (others ++ origins entries) ≡ true
of-origins others entries r n h = good_among (others ++ origins entries) r (unpaired (run entries empty) (bad_unless (others ++ origins entries)) r n h)

-- no origin is bad
origins-parts : (others : List Plain) (entries : List Entry) → let bad : Plain → ℕ = (but_origins others entries).of in
    bad_of bad (failures entries) + (bad_of bad (through entries empty) + bad_of bad (by_ports (run_uncloned entries empty))) ≡ 0
origins-parts others entries =
    let bad : Plain → ℕ = but_pairs (run entries empty) (bad_unless (others ++ origins entries)) in
    let g = all-good (others ++ origins entries) in
    let l = pairs-all (run entries empty) (bad_unless (others ++ origins entries)) (others ++ origins entries) in
    let a : bad_of bad (others ++ origins entries) ≡ 0 = omega (arith, g, l) in
    let b = bad-append bad others (origins entries) in
    let c = bad-append bad (failures entries) (through entries empty ++ by_ports (run_uncloned entries empty)) in
    let d = bad-append bad (through entries empty) (by_ports (run_uncloned entries empty)) in
    omega (arith, a, b, c, d)

pub origins-good : (others : List Plain) (entries : List Entry) → bad_run (but_origins others entries) entries empty ≡ 0
origins-good others entries = let a = origins-parts others entries in omega (arith, a)

-- where what can't be cloned was given to a stream at a port, no DataCloneError is bad
pub fair-end : (others : List Plain) (entries : List Entry) → Fair (but_origins others entries).of [] entries
fair-end others entries = (paired-end others entries, λ t. by (run_uncloned entries empty) t (let a = origins-parts others entries in omega (arith, a)))
  where
    bad : Plain → ℕ
    bad = (but_origins others entries).of

    by : (given : Bool) → given ≡ true → bad_of bad (by_ports given) ≡ 0 → bad data_clone ≡ 0
    by true t h = omega (arith, h)
    by false t h = cc

-- where a TypeError is one of the reasons it isn't bad
error-good : (rs : List Plain) → nat_eq (bad_unless (type_error ∷ rs) type_error) 0 ≡ false → ⊥
error-good rs n = let s : is_among type_error (type_error ∷ rs) ≡ true = rw (reason_self type_error) refl in let m : nat_eq 0 0 ≡ false = rw s at n in cc

pub reason-has-an-origin : EachReasonHasAnOrigin
reason-has-an-origin opening xs i j prevent signal q r free reply ready need out = by (same_reason type_error r) refl
  where
    by : (b : Bool) → same_reason type_error r ≡ b → Contains (origins (opening ++ Called (Pipe i j prevent signal) ∷ xs)) r
    by true e =
        let entries : List Entry = opening ++ Called (Pipe i j prevent signal) ∷ xs in
        let o : IsOpen j (run opening empty) = ready (sym (reason_same type_error r e)) in
        among_contained r (origins entries)
        (of-origins [] entries r need
        (good-rejection (but_origins [] entries) opening xs i j prevent signal q r (origins-good [] entries) (halved-end (run entries empty)) (fair-end [] entries) free reply (λ n. o) out))
    by false e =
        let entries : List Entry = opening ++ Called (Pipe i j prevent signal) ∷ xs in
        let good =
        good-rejection (but_origins (type_error ∷ []) entries) opening xs i j prevent signal q r (origins-good (type_error ∷ []) entries) (halved-end (run entries empty)) (fair-end (type_error ∷ []) entries) free reply
        (λ n. absurd (error-good (origins entries) n)) out in
        let among : is_among r (type_error ∷ origins entries) ≡ true = of-origins (type_error ∷ []) entries r need good in
        among_contained r (origins entries) (rw e at among)
