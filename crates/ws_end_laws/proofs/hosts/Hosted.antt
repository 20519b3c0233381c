-- The promise of a host call is open until the host settles it; and which of the host calls so far the host settled well.
use Rattle.std.proofs.Common.{◌≡◌, ℕ, zero, suc, ◌≤◌, ◌<◌, true, false, List, [], ◌∷◌, ◌++◌, length, Option, Some, None, slice_get, refl, sym, ap, subst, ◌∙◌, arith, append_assoc, append-nil}
use Rattle.std.specs.Option.{option_map}
use Rattle.ws_value.specs.declared.ids.HostId.{HostId}
use Rattle.ws_value.specs.declared.ids.PromiseId.{PromiseId}
use Rattle.ws_value.specs.declared.value.Outcome.{Outcome}
use Rattle.ws_steps.specs.declared.{calls.Answer.TheVariants.{Ok as AnswerOk, Fail as AnswerFail}, calls.Call.TheVariants.{Settle}, calls.HostCall.{HostCall}, calls.Reply.TheVariants.{Done}}
use Rattle.ws_steps.specs.declared.effects.Effect.{Effect}
use Rattle.ws_steps.specs.Promises.{Entry as PromiseEntry, Table, entry_at, outcome_at, is_pending, is_open_entry}
use Rattle.ws_steps.specs.Slots.{Slots, empty, pending_host, host_at}
use Rattle.ws_steps.specs.ControllerCalls.{settle_host}
use Rattle.ws_steps.specs.Calls.{begin}
use Rattle.ws_steps.specs.Turns.{Moment}
use Rattle.ws_steps.specs.Run.{Entry, Called, Worked, Heard, run, step, reply_to, moments_in}
use Rattle.ws_steps.specs.Histories.{along, in_step, over}
use Rattle.ws_laws.proofs.Walker.{IsHistory}
use Rattle.ws_promise_laws.proofs.Holds.{named}
use Rattle.ws_promise_laws.proofs.Realm.{in_hosts}
use Rattle.ws_promise_laws.proofs.Runs.{Straight}
use Rattle.ws_promise_laws.proofs.Tokens.{in_effects}
use Rattle.ws_end_laws.specs.hosts.HostCalls.{effect_called, run_called, called, settles_well, WasSettledWell}
use Rattle.ws_end_laws.proofs.hosts.Called.{run-numbered, called-grows, place-grows}

-- the promise of a host call stands among the host's

in_hosts-at : (q : PromiseId) (hosts : List (Option PromiseId)) (n : ℕ) → pending_host (slice_get hosts n) ≡ Some q → 1 ≤ in_hosts q hosts
in_hosts-at q [] n e = cc
in_hosts-at q (h ∷ hs) zero e = let is : h ≡ Some q = e in let n = named q in rw is (omega arith)
in_hosts-at q (h ∷ hs) (suc n) e = let k = in_hosts-at q hs n e in omega arith

-- such a promise is open, and stands nowhere else
pub record Alone (q : PromiseId) (s : Slots) (es : List Effect) : Type 0 where
  pub open_ : is_open_entry (entry_at s.promises q) ≡ true
  pub effects : in_effects q es ≡ 0

pub hosted-alone : (id : HostId) (q : PromiseId) (s : Slots) (es : List Effect) → Straight s es → host_at id s ≡ Some q → Alone q s es
hosted-alone id q s es k e =
    let n = in_hosts-at q s.hosts id.0 e in
    let o = k.sound.holds.once q in
    record { open_ = grind arith; effects = omega arith }

-- an open promise hasn't settled
pub open-pending : (q : PromiseId) (t : Table) (o : Outcome) {A : Type 0} → is_open_entry (entry_at t q) ≡ true → outcome_at t q ≡ Some o → is_pending o ≡ false → A
open-pending q t o {A = A} i e p = by (entry_at t q) i e
  where
    by : (x : Option PromiseEntry) → is_open_entry x ≡ true → option_map (λ (e : PromiseEntry). e.outcome) x ≡ Some o → A
    by None i e = absurd (cc)
    by (Some x) i e = let is : x.outcome ≡ o = cc in let n : is_pending x.outcome ≡ false = rw is p in absurd (cc)

-- the calls so far, and the numbers of those that the host settled well

pub record Sofar : Type 0 where
  pub calls : List HostCall
  pub well : List HostId

abbrev pub nothing_yet : Sofar
nothing_yet = record { calls = []; well = [] }

abbrev pub sofar_then : Sofar → Sofar → Sofar
sofar_then f g = record { calls = f.calls ++ g.calls; well = f.well ++ g.well }

pub sofar-history : IsHistory nothing_yet sofar_then
sofar-history = record {
  left = λ f. refl;
  right = λ f k. record { calls = append-nil f.calls k; well = append-nil f.well k };
  assoc = λ f g h k. record { calls = append_assoc f.calls g.calls h.calls k; well = append_assoc f.well g.well h.well k };
}

abbrev pub effect_sofar : Effect → Slots → Sofar
effect_sofar e s = record { calls = effect_called e s; well = [] }

abbrev pub settled_now : HostId → Option PromiseId → List HostId
settled_now id None = []
settled_now id (Some p) = id ∷ []

abbrev pub well_said : Slots → Entry → List HostId
well_said s (Called (Settle id AnswerOk)) = settled_now id (host_at id s)
well_said s _ = []

abbrev pub said_sofar : Slots → Entry → Sofar
said_sofar s x = record { calls = []; well = well_said s x }

-- the host settled this call well
pub record Well (h : Sofar) (call : HostCall) : Type 0 where
  pub place : ℕ
  pub id : HostId
  pub settled : slice_get h.well place ≡ Some id
  pub called : slice_get h.calls id.0 ≡ Some call

pub well-stays : (h g : Sofar) (call : HostCall) → Well h call → Well (sofar_then h g) call
well-stays h g call w = record { place = w.place; id = w.id; settled = place-grows h.well g.well w.place w.id w.settled; called = place-grows h.calls g.calls w.id.0 call w.called }

-- over a run

abbrev pub run_well : List Entry → Slots → List HostId
run_well xs s = over [] ◌++◌ well_said xs s

abbrev pub happens_sofar : Slots → Entry → Sofar
happens_sofar s x = sofar_then (said_sofar s x) (in_step nothing_yet sofar_then effect_sofar s x)

along_sofar : (ms : List Moment) → along nothing_yet sofar_then effect_sofar ms ≡ record { calls = along [] ◌++◌ effect_called ms; well = [] }
along_sofar [] = refl
along_sofar (m ∷ ms) = ap (sofar_then (effect_sofar m.effect m.found)) (along_sofar ms)

pub over_sofar : (xs : List Entry) (s : Slots) → over nothing_yet sofar_then happens_sofar xs s ≡ record { calls = run_called xs s; well = run_well xs s }
over_sofar [] s = refl
over_sofar (x ∷ xs) s =
    ap (λ (f : Sofar). sofar_then (happens_sofar s x) f) (over_sofar xs (step s x))
    ∙ ap (λ (f : Sofar). sofar_then (sofar_then (said_sofar s x) f) (record { calls = run_called xs (step s x); well = run_well xs (step s x) })) (along_sofar (moments_in s x))
    ∙ ap (λ (w : List HostId). record { calls = run_called (x ∷ xs) s; well = w ++ run_well xs (step s x) }) (append-nil (well_said s x))

-- an entry by which the host settles a call well
pub record Settles (xs : List Entry) (s : Slots) (id : HostId) : Type 0 where
  pub before : List Entry
  pub after : List Entry
  pub whole : xs ≡ before ++ Called (settles_well id) ∷ after
  pub promise : PromiseId
  pub waits : host_at id (run before s) ≡ Some promise

later_settles : (x : Entry) (xs : List Entry) (s : Slots) (id : HostId) → Settles xs (step s x) id → Settles (x ∷ xs) s id
later_settles x xs s id k = record { before = x ∷ k.before; after = k.after; whole = ap (λ (ys : List Entry). x ∷ ys) k.whole; promise = k.promise; waits = k.waits }

module _ (xs : List Entry) (s : Slots) (id : HostId) where
  here_settles : (h : HostId) (o : Option PromiseId) (n : ℕ) → host_at h s ≡ o → slice_get (settled_now h o ++ run_well xs (step s (Called (settles_well h)))) n ≡ Some id
      → ((n : ℕ) → slice_get (run_well xs (step s (Called (settles_well h)))) n ≡ Some id → Settles xs (step s (Called (settles_well h))) id) → Settles (Called (settles_well h) ∷ xs) s id
  here_settles h None n w e later = later_settles (Called (settles_well h)) xs s id (later n e)
  here_settles h (Some p) zero w e later = let same : h ≡ id = cc in subst (λ (k : HostId). Settles (Called (settles_well h) ∷ xs) s k) same (record { before = []; after = xs; whole = refl; promise = p; waits = w })
  here_settles h (Some p) (suc n) w e later = later_settles (Called (settles_well h)) xs s id (later n e)

  entry_settles : (x : Entry) (n : ℕ) → slice_get (well_said s x ++ run_well xs (step s x)) n ≡ Some id → ((n : ℕ) → slice_get (run_well xs (step s x)) n ≡ Some id → Settles xs (step s x) id) → Settles (x ∷ xs) s id
  entry_settles (Called (Settle h AnswerOk)) n e later = here_settles h (host_at h s) n refl e later
  entry_settles (Called (Settle h (AnswerFail r))) n e later = later_settles (Called (Settle h (AnswerFail r))) xs s id (later n e)
  entry_settles (Called c) n e later = later_settles (Called c) xs s id (later n e)
  entry_settles Worked n e later = later_settles Worked xs s id (later n e)
  entry_settles Heard n e later = later_settles Heard xs s id (later n e)

pub well_settles : (xs : List Entry) (s : Slots) (n : ℕ) (id : HostId) → slice_get (run_well xs s) n ≡ Some id → Settles xs s id
well_settles [] s n id e = cc
well_settles (x ∷ xs) s n id e = entry_settles xs s id x n e (λ m f. well_settles xs (step s x) m id f)

pub settle-answered : (id : HostId) (s : Slots) (p : PromiseId) → host_at id s ≡ Some p → reply_to (settles_well id) s ≡ Done
unfolding begin
settle-answered id s p e = ap (λ (o : Option PromiseId). (settle_host id AnswerOk s o).reply) e

pub host_within : (hosts : List (Option PromiseId)) (n : ℕ) (p : PromiseId) → pending_host (slice_get hosts n) ≡ Some p → n < length hosts
host_within [] n p e = cc
host_within (h ∷ hs) zero p e = omega arith
host_within (h ∷ hs) (suc n) p e = let k = host_within hs n p e in omega arith

-- a place among the first of a list
among_first : {A : Type 0} (xs ys : List A) (n : ℕ) → n < length xs → slice_get (xs ++ ys) n ≡ slice_get xs n
among_first [] ys n l = absurd (omega arith)
among_first (x ∷ xs) ys zero l = refl
among_first (x ∷ xs) ys (suc n) l = among_first xs ys n (omega arith)

pub well-was-settled : (entries : List Entry) (call : HostCall) → Well (record { calls = called entries; well = run_well entries empty }) call → WasSettledWell entries call
well-was-settled entries call w =
    let k = well_settles entries empty w.place w.id w.settled in
    let before : Slots = run k.before empty in
    let more : List Entry = Called (settles_well w.id) ∷ k.after in
    let within : w.id.0 < length (called k.before) = subst (λ (n : ℕ). w.id.0 < n) (run-numbered k.before).count (host_within before.hosts w.id.0 k.promise k.waits) in
    record {
      before = k.before;
      after = k.after;
      id = w.id;
      settles = k.whole;
      answered = settle-answered w.id before k.promise k.waits;
      called =
          sym (among_first (called k.before) (run_called more before) w.id.0 within)
          ∙ (ap (λ (h : List HostCall). slice_get h w.id.0) (sym (called-grows k.before more)) ∙ (ap (λ (xs : List Entry). slice_get (called xs) w.id.0) (sym k.whole) ∙ w.called));
    }
