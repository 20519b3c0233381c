-- The one effect of a job is performed at once: there are places for it and for all that comes of it.
use Rattle.std.proofs.Common.{◌≡◌, ◌∙◌, false, List, [], ◌∷◌, Option, Some, None, refl, sym, ap, subst, arith}
use Rattle.std.specs.Prelude.{option_map, vec_capacity}
use Rattle.std.proofs.lemmas.List.{append-nil}
use Rattle.ws_steps.specs.declared.effects.Effect.{Effect}
use Rattle.ws_steps.specs.declared.promises.Job.{Job}
use Rattle.ws_steps.specs.declared.calls.Call.{Call}
use Rattle.ws_steps.specs.declared.calls.Reply.TheVariants.{Done}
use Rattle.ws_steps.specs.Begun.{Begun, does}
use Rattle.ws_steps.specs.Calls.{begin}
use Rattle.ws_steps.specs.Jobs.{begin_job, job_effects}
use Rattle.ws_steps.specs.Promises.{next_job, first_job, after_next_job}
use Rattle.ws_steps.specs.Queues.{is_empty}
use Rattle.ws_steps.specs.Slots.{Done as Left, causes}
use Rattle.ws_steps.specs.Turns.{performed}
use Rattle.ws_room_laws.proofs.Turns.{performed_none}
use Rattle.ws_tables.specs.View.{slots_of}
use Rattle.ws_tables.specs.Room.{AreEnough, CanTurn, HasRoomForAll, IsKept, IsReady, IsResting}
use Rattle.ws_direct.specs.Directly.{IsReadyFor, PerformsDirectly}
use Rattle.ws_performing.specs.Performing.{PerformsAll}
use Rattle.ws_tables.specs.declared.tables.Tables.{Tables}
use Rattle.ws_tables.proofs.Places.{kept_same}
use Rattle.ws_begin.specs.Begin.{IsBegun}
use Rattle.ws_calls.specs.First.{Began, Fits, FitsFirst, effect_of, without_first}
use Rattle.ws_calls.specs.declared.first.First.{First}
use Rattle.ws_calls.proofs.Beginning.{call-begins, job-begins}

-- one effect is caused
abbrev causing : Effect → Tables → Tables
causing e t = record t { caused = record t.caused { effects = e ∷ [] } }

fits : (e : Effect) (t : Tables) → IsBegun (causing e t) → Fits e t
fits e t begun =
    let room = begun.room in
    let turns = begun.turns in
    record {
      room =
          record {
            promises = room.promises;
            jobs = room.jobs;
            events = room.events;
            hosts = room.hosts;
            caused = room.caused;
            others = room.others;
            lists = room.lists;
            once = room.once;
            rooms = room.rooms;
            grown = room.grown;
            members = room.members;
            full = room.full;
            copies = room.copies;
          };
      turns = record { empty = turns.empty; places = turns.places };
      kept =
          kept_same (causing e t) t refl
          (record { streams = refl; grown = refl; waiting = refl; pipes = refl; signals = refl; full = refl; aborts = refl; tees = refl; uncopied = refl })
          begun.kept;
    }

-- it is performed at once: there are places for what is left, which makes of the slots what it makes

pub begun-at : (e : Effect) (t t' : Tables) → Fits e t → t.others.items ≡ [] → PerformsDirectly (e ∷ []) t t' → IsBegun t'
begun-at e t t' had none did =
    let all = append-nil t'.caused.effects in
    record {
      others = ap (λ v. v.items) did.others ∙ none;
      turns =
          record {
            empty = ap (λ v. v.items) did.under_way ∙ had.turns.empty;
            places =
                subst (λ v. AreEnough (vec_capacity v) t'.caused.effects t') (sym did.under_way)
                (subst (λ es. AreEnough (vec_capacity t.under_way) es t') all (did.turns (vec_capacity t.under_way) [] had.turns.places));
          };
      room = subst (λ es. HasRoomForAll es t') all (did.room [] had.room);
      kept = did.kept;
    }

pub left-at : (e : Effect) (t t' : Tables) → PerformsDirectly (e ∷ []) t t' → performed (causes t'.caused.effects (slots_of t')) ≡ performed (causes (e ∷ []) (slots_of t))
left-at e t t' did = ap (λ es. performed (causes es (slots_of t'))) (sym (append-nil t'.caused.effects)) ∙ did.slots []

-- a call that does this one effect, and nothing else

pub call-fits : (c : Call) (e : Effect) (t : Tables) → IsReady t → IsResting t → begin c (slots_of t) ≡ does (e ∷ []) (slots_of t) → Fits e t
call-fits c e t ready rest is =
    fits e t
    (call-begins c Done t (causing e t) ready rest
    (record {
      reply = ap (λ (b : Begun). b.reply) (sym is);
      slots = ap (λ (b : Begun). b.done.slots) (sym is);
      caused = ap (λ (b : Begun). b.done.caused) (sym is);
      others = refl;
      places = refl;
      waiting = refl;
      aborts = refl;
      records = record { streams = refl; grown = refl; signals = refl; full = refl; tees = refl; uncopied = refl };
    }))

pub call-ready : (c : Call) (e : Effect) (t : Tables) → IsReady t → IsResting t → begin c (slots_of t) ≡ does (e ∷ []) (slots_of t) → IsReadyFor (e ∷ []) t
call-ready c e t ready rest is = let had = call-fits c e t ready rest is in record { quiet = rest.caused; room = had.room; kept = had.kept }

-- a job with one effect begins so
pub begins-with : (t : Tables) (job : Job) (e : Effect) → next_job t.promises.table ≡ Some job → job_effects job ≡ e ∷ []
    → begin_job (slots_of t) ≡ causes (e ∷ []) (slots_of (without_first t))
unfolding begin_job
begins-with t job e there one = rw (there, one) refl

-- the job that has these effects
pub some-job : (o : Option Job) (es : List Effect) → option_map job_effects o ≡ Some es → (job : Job) × (o ≡ Some job) × (job_effects job ≡ es)
some-job None es is = cc
some-job (Some job) es is = (job, refl, cc)

first-busy : (js : List Job) (job : Job) → first_job js ≡ Some job → is_empty js ≡ false
first-busy [] job there = cc
first-busy (j ∷ js) job there = refl

first-fits : (t : Tables) → IsReady t → IsResting t → (job : Job) (e : Effect) → next_job t.promises.table ≡ Some job → job_effects job ≡ e ∷ [] → Fits e (without_first t)
first-fits t ready rest job e there one =
    let begun = begins-with t job e there one in
    fits e (without_first t)
    (job-begins t (causing e (without_first t)) ready rest
    (record {
      slots = ap (λ (d : Left). d.slots) (sym begun);
      caused = ap (λ (d : Left). d.caused) (sym begun);
      others = refl;
      places = refl;
      records = record { streams = refl; grown = refl; waiting = refl; pipes = refl; signals = refl; full = refl; aborts = refl; tees = refl; uncopied = refl };
    }))

pub ready-one : (e : Effect) (t : Tables) → Fits e t → t.caused.effects ≡ [] → IsReadyFor (e ∷ []) t
ready-one e t had quiet = record { quiet = quiet; room = had.room; kept = had.kept }

pub began : (t : Tables) (job : Job) (e : Effect) → IsResting t → next_job t.promises.table ≡ Some job → job_effects job ≡ e ∷ [] → Fits e (without_first t)
    → (t' : Tables) → PerformsDirectly (e ∷ []) (without_first t) t' → Began t t'
began t job e rest there one had t' did = record {
  begun = begun-at e (without_first t) t' had rest.others did;
  slots = left-at e (without_first t) t' did ∙ ap performed (sym (begins-with t job e there one));
  busy = first-busy t.promises.table.jobs job there;
}

-- a job without effects begins so, and nothing is left to perform
pub begins-without : (t : Tables) (job : Job) → next_job t.promises.table ≡ Some job → job_effects job ≡ [] → begin_job (slots_of t) ≡ causes [] (slots_of (without_first t))
unfolding begin_job
begins-without t job there none = rw (there, none) refl

nothing-begins : (t : Tables) → IsReady t → IsResting t → (job : Job) → next_job t.promises.table ≡ Some job → job_effects job ≡ [] → IsBegun (without_first t)
nothing-begins t ready rest job there none =
    let begun = begins-without t job there none in
    job-begins t (without_first t) ready rest
    (record {
      slots = ap (λ (d : Left). d.slots) (sym begun);
      caused = rest.caused ∙ ap (λ (d : Left). d.caused) (sym begun);
      others = refl;
      places = refl;
      records = record { streams = refl; grown = refl; waiting = refl; pipes = refl; signals = refl; full = refl; aborts = refl; tees = refl; uncopied = refl };
    })

pub began-nothing : (t : Tables) → IsResting t → (job : Job) → next_job t.promises.table ≡ Some job → job_effects job ≡ [] → IsBegun (without_first t) → Began t (without_first t)
began-nothing t rest job there none begins =
    let begun = begins-without t job there none in
    record {
      begun = begins;
      slots = ap (λ es. performed (causes es (slots_of (without_first t)))) rest.caused ∙ ap performed (sym begun);
      busy = first-busy t.promises.table.jobs job there;
    }

-- places for any job are places for the first
pub ready-first : (t : Tables) → IsReady t → IsResting t → FitsFirst t
ready-first t ready rest = record {
  one = λ first job there is. first-fits t ready rest job (effect_of first) there is;
  none = λ job there is. nothing-begins t ready rest job there is;
}

-- nothing was caused, and nothing is left to perform
pub none-caused : (t : Tables) → IsBegun t → t.caused.effects ≡ [] → PerformsAll t t
none-caused t begun none =
    record {
      slots = sym (performed_none (slots_of t)) ∙ ap (λ es. performed (causes es (slots_of t))) (sym none);
      resting = record { caused = none; others = begun.others; under_way = begun.turns.empty; kept = begun.kept };
      age = refl;
      promises = let h = begun.room.promises in omega (arith, h);
      events = let h = begun.room.events in omega (arith, h);
    }
