-- Effects that concern no record of a stream: the rows of those that a direct call performs.
use Rattle.std.proofs.Common.{◌≡◌, ◌∙◌, ◌<◌, ◌++◌, ℕ, true, [], ◌∷◌, length, Option, None, Some, refl, sym, ap, subst, arith, rules}
use Rattle.std.specs.Prelude.{IsSome}
use Rattle.ws_value.specs.declared.ids.PromiseId.{PromiseId}
use Rattle.ws_steps.specs.declared.calls.Event.TheVariants.{Host}
use Rattle.ws_steps.specs.declared.calls.HostCall.{HostCall}
use Rattle.ws_steps.specs.declared.effects.Effect.TheVariants.{CallHost, Give}
use Rattle.ws_steps.specs.declared.effects.Gift.TheVariants.{This}
use Rattle.ws_steps.specs.declared.effects.Use.{Use}
use Rattle.ws_steps.specs.declared.effects.Use.TheVariants.{React}
use Rattle.ws_steps.specs.declared.promises.Reaction.{Reaction}
use Rattle.ws_steps.specs.declared.promises.Reaction.TheVariants.{Adopt, Perform}
use Rattle.ws_steps.specs.declared.promises.Step.{Step}
use Rattle.ws_steps.specs.Promises.{Table, fresh, next_id, react, tell, use_this, use_gift}
use Rattle.ws_steps.specs.Turns.{call_host, row}
use Rattle.ws_promise.specs.Seen.{Seen, HasEventRoom, HasJobRoom, HasPromiseRoom}
use Rattle.ws_tables.specs.Room.{IsKept}
use Rattle.ws_tables.specs.declared.tables.Tables.{Tables}
use Rattle.ws_performing.specs.Performing.{HasRoomFor, Performs}
use Rattle.ws_performing.proofs.Turns.{room-for}
use Rattle.ws_direct.specs.Directly.{Reaches, IsReadyFor, PerformsDirectly}
use Rattle.ws_direct.specs.Shortly.{calling_by, is_step, reacting_by}
use Rattle.ws_direct.proofs.Reaching.{causing, by-records, quietly}

-- only the promises change
abbrev pub with_promises : Seen → Tables → Tables
with_promises p t = record t { promises = p }

-- a promise that is there is used
gives-row : (p : PromiseId) (u : Use) (t : Tables)
    → Performs (Give (This p) u) t (causing [] (with_promises (record t.promises { table = use_this p t.promises.table u }) t))
unfolding row use_gift
gives-row p u t = record {
  slots = refl;
  caused = refl;
  others = refl;
  places = refl;
  lists = refl;
  rooms = λ none n h. h;
  grown = omega arith;
  members = refl;
  full = omega arith;
}

pub gives : (p : PromiseId) (u : Use) (t t' : Tables) (seen : Seen) → t' ≡ with_promises seen t → seen ≡ record t.promises { table = use_this p t.promises.table u } → IsKept t
    → Reaches (Give (This p) u ∷ []) t [] t'
gives p u t t' seen is used kept =
    subst (λ (z : Tables). Reaches (Give (This p) u ∷ []) t [] z) (sym (is ∙ ap (λ (s : Seen). with_promises s t) used))
    (by-records (Give (This p) u) [] t _ kept (gives-row p u t)
    (record { streams = refl; grown = refl; waiting = refl; pipes = refl; signals = refl; full = refl; aborts = refl; tees = refl; uncopied = refl }))

-- a step reacts to a promise

pub step-some : (o : Option Reaction) → is_step o ≡ true → IsSome o
step-some None holds = absurd (cc)
step-some (Some r) holds = search rules

pub step-jobs : (p : PromiseId) (o : Option Reaction) (t : Tables) → is_step o ≡ true → IsReadyFor (reacting_by p o) t → HasJobRoom 1 t.promises
step-jobs p None t holds ready = absurd (cc)
step-jobs p (Some (Adopt q)) t holds ready = absurd (cc)
step-jobs p (Some (Perform step derived)) t holds ready = (room-for (Give (This p) (React step derived)) [] t ready.room).jobs

pub reacts-so : (p : PromiseId) (o : Option Reaction) (t t' : Tables) (seen : Seen) → is_step o ≡ true → t' ≡ with_promises seen t
    → ((r : Reaction) → o ≡ Some r → seen ≡ record t.promises { table = react p r t.promises.table }) → IsReadyFor (reacting_by p o) t → PerformsDirectly (reacting_by p o) t t'
reacts-so p None t t' seen holds is did ready = absurd (cc)
reacts-so p (Some (Adopt q)) t t' seen holds is did ready = absurd (cc)
reacts-so p (Some (Perform step derived)) t t' seen holds is did ready =
    quietly (Give (This p) (React step derived) ∷ []) t t' (ap (λ (z : Tables). z.caused.effects) is ∙ ready.quiet) (gives p (React step derived) t t' seen is (did (Perform step derived) refl) ready.kept)

-- the host is called, and a step reacts to the promise of the call

-- there are places for a call
pub record HasCallRoom (t : Tables) : Type 0 where
  pub promises : HasPromiseRoom 1 t.promises
  pub jobs : HasJobRoom 1 t.promises
  pub events : HasEventRoom 1 t.promises
  pub hosts : length t.hosts.items < t.hosts.capacity

pub call-room : (call : HostCall) (o : Option Reaction) (t : Tables) → is_step o ≡ true → IsReadyFor (calling_by call o) t → HasCallRoom t
call-room call None t holds ready = absurd (cc)
call-room call (Some (Adopt q)) t holds ready = absurd (cc)
call-room call (Some (Perform step derived)) t holds ready =
    let room : HasRoomFor (CallHost call (React step derived)) t = room-for (CallHost call (React step derived)) [] t ready.room in
    record { promises = room.promises; jobs = room.jobs; events = room.events; hosts = let h = room.hosts in omega (arith, h) }

-- the host has heard of a call, as the n-th
abbrev pub told : ℕ → HostCall → Table → Table
told n call t = tell (Host (record { 0 = n }) call) t

abbrev pub called : ℕ → HostCall → Reaction → Tables → Tables
called n call r t =
    let heard : Table = told n call t.promises.table in
    record t {
      promises = record t.promises { table = react (next_id heard) r (fresh heard) };
      hosts = record t.hosts { items = t.hosts.items ++ Some (next_id t.promises.table) ∷ [] };
    }

calls-row : (n : ℕ) (call : HostCall) (step : Step) (derived : Option PromiseId) (t : Tables) → n ≡ length t.hosts.items
    → Performs (CallHost call (React step derived)) t (causing [] (called n call (Perform step derived) t))
unfolding row call_host fresh
calls-row n call step derived t is = rw is (record {
  slots = refl;
  caused = refl;
  others = refl;
  places = refl;
  lists = refl;
  rooms = λ none n h. h;
  grown = omega arith;
  members = refl;
  full = omega arith;
})

pub called-is : (n : ℕ) (call : HostCall) (r : Reaction) (t : Tables) (heard seen : Seen) (promise : PromiseId) → heard ≡ record t.promises { table = told n call t.promises.table }
    → promise ≡ next_id heard.table → seen ≡ record heard { table = react (next_id heard.table) r (fresh heard.table) }
    → record t { promises = seen; hosts = record t.hosts { items = t.hosts.items ++ Some promise ∷ [] } } ≡ called n call r t
called-is n call r t heard seen promise was number made = rw (made, number, was) refl

pub called-so : (n : ℕ) (call : HostCall) (o : Option Reaction) (t t' : Tables) → is_step o ≡ true → n ≡ length t.hosts.items
    → ((r : Reaction) → o ≡ Some r → t' ≡ called n call r t) → IsReadyFor (calling_by call o) t → PerformsDirectly (calling_by call o) t t'
called-so n call None t t' holds number did ready = absurd (cc)
called-so n call (Some (Adopt q)) t t' holds number did ready = absurd (cc)
called-so n call (Some (Perform step derived)) t t' holds number did ready =
    subst (λ (z : Tables). PerformsDirectly (CallHost call (React step derived) ∷ []) t z) (sym (did (Perform step derived) refl))
    (quietly (CallHost call (React step derived) ∷ []) t (called n call (Perform step derived) t) ready.quiet
    (by-records (CallHost call (React step derived)) [] t (called n call (Perform step derived) t) ready.kept (calls-row n call step derived t number)
    (record { streams = refl; grown = refl; waiting = refl; pipes = refl; signals = refl; full = refl; aborts = refl; tees = refl; uncopied = refl })))
