use Rattle.std.proofs.Common.{◌≡◌, ◌∙◌, ◌+◌, Ok, refl, sym, Some, None}
use Rattle.std.proofs.lemmas.Bool.{false≢true}
use Rattle.ws_steps.specs.declared.calls.Reply.TheVariants.{Done, Throws}
use Rattle.ws_steps.specs.declared.calls.Thrown.{Thrown}
use Rattle.ws_steps.specs.declared.calls.Thrown.TheVariants.{Unsupported}
use Rattle.ws_value.specs.declared.value.Plain.TheVariants.{Undefined}
use Rattle.ws_steps.specs.Slots.{host_at}
use Rattle.ws_tables.specs.View.{slots_of}
use Rattle.ws_tables.proofs.Counts.{settle-more}
use Rattle.ws_tables.proofs.Places.{kept_beside}
use Rattle.ws_calls.proofs.Answered.{done-reply, done-slots, none-reply, none-slots}
use Rattle.ws_calls.proofs.Credit.{aged, settled-places}
use Rattle.ws_calls.proofs.settled.settle_done.Goals as goal

throws-not_done : (t : Thrown) → Throws t ≡ Done → ⊥
throws-not_done t h = cc

none : (c : goal.In_default) → host_at c.args.h (slots_of c.args.tables.now) ≡ None
none c = sym c.host.ensures.host ∙ c.in_default.is

pub returns-in_default-clause-done : goal.returns-in_default-clause-done
returns-in_default-clause-done c =
    let reply = none-reply c.args.h (slots_of c.args.tables.now) (none c) in
    (λ h. absurd (false≢true h), λ h. absurd (throws-not_done Unsupported (sym reply ∙ h)))

pub returns-in_default-clause-none : goal.returns-in_default-clause-none
returns-in_default-clause-none c = λ h. none-reply c.args.h (slots_of c.args.tables.now) (none c)

pub returns-in_default-clause-slots : goal.returns-in_default-clause-slots
returns-in_default-clause-slots c = sym (none-slots c.args.h (slots_of c.args.tables.now) (none c))

there : (c : goal.After-fulfil) → host_at c.args.h (slots_of c.args.tables.now) ≡ Some c.in-Some.promise
there c = sym (rw c.in-Some.is at c.host.ensures.host)

pub returns-clause-done : goal.returns-clause-done
returns-clause-done c = (λ h. done-reply c.args.h c.in-Some.promise (slots_of c.args.tables.now) (there c), λ h. refl)

pub returns-clause-slots : goal.returns-clause-slots
returns-clause-slots c = rw (c.fulfil.ensures, c.settle.ensures) (sym (done-slots c.args.h c.in-Some.promise (slots_of c.args.tables.now) (there c)))

pub returns-clause-resting : goal.returns-clause-resting
returns-clause-resting c =
    let rest = c.requires.resting in
    let old = c.args.tables.now in
    record {
      caused = rest.caused;
      others = rest.others;
      under_way = rest.under_way;
      kept =
          kept_beside old _ (record { streams = refl; grown = refl; waiting = refl; pipes = refl; signals = refl; full = refl; aborts = refl; tees = refl; uncopied = refl })
          (rw c.fulfil.ensures (settle-more c.in-Some.promise (Ok Undefined) (slots_of old))) (rest.kept.few.0, rest.kept.few.1) rest.kept;
    }

pub returns-in_default-clause-places : goal.returns-in_default-clause-places
returns-in_default-clause-places c = λ n has. aged n (c.args.tables.now.age + 1) c.args.tables.now has

pub returns-clause-places : goal.returns-clause-places
returns-clause-places c = λ n has.
    let old = c.args.tables.now in
    let p = c.in-Some.promise in
    rw (c.fulfil.ensures, c.settle.ensures) (settled-places n p (Ok Undefined) c.args.h.0 (old.age + 1) old has)
