-- Each step of the writable stream at the end of a port is lawful.
use Rattle.std.proofs.Common.{◌≡◌, Bool, true, false, List, [], ◌++◌, refl, sym, ◌∙◌, append-nil}
use Rattle.ws_value.specs.declared.ids.PortId.{PortId}
use Rattle.ws_value.specs.declared.ids.StreamId.{StreamId}
use Rattle.ws_steps.specs.declared.effects.Owner.TheVariants.{EndOf}
use Rattle.ws_steps.specs.Laws.{IsWritableStep}
use Rattle.ws_steps.specs.Run.{Entry, run, step}
use Rattle.ws_steps.specs.Slots.{Slots, empty, owner_at, has_writable, writable_at}
use Rattle.ws_steps.specs.Writable as writable
use Rattle.ws_steps.specs.Writable.{has_ended}
use Rattle.ws_steps.specs.WritableHistory.{Writes, no_writes, writes_then, todo, effect_writes, step_writes, run_writes}
use Rattle.ws_laws.proofs.Lists.{append_none}
use Rattle.ws_laws.proofs.Walker as walker
use Rattle.ws_writable_laws.proofs.EachStep.{entry_none, forgotten, forgotten-kept, step_lists}
use Rattle.ws_writable_laws.proofs.Runs.{is_history}
use Rattle.ws_transform_laws.proofs.Need.{core}
use Rattle.ws_transform_laws.proofs.PortLawful.{PortOrderly, orderly, orderly-rests, run-orderly, behind}
use Rattle.ws_transform_laws.proofs.Steps.{step-remains, forgotten-ordered, alive-there, none-dropped}

module _ (i : StreamId) (c : PortId) where
  step-orderly : (h : Writes) (s : Slots) (x : Entry) → PortOrderly i c h s [] → PortOrderly i c (writes_then h (step_writes i s x)) (step s x) []
  step-orderly h s x g = walker.step-goes_untold no_writes writes_then is_history (effect_writes i) (PortOrderly i c) (orderly i c) (orderly-rests i c) h s x g

  forgotten-orderly : (h : Writes) (s : Slots) → has_ended (writable_at i s).state ≡ true → PortOrderly i c h s [] → PortOrderly i c (forgotten h) s []
  forgotten-orderly h s e g = record {
    going = record { straight = g.going.straight; kept = forgotten-kept i h s e g.going.kept; staged = g.going.staged };
    ordered = λ owner there. let m = g.ordered owner there in ([], forgotten-ordered (behind i c h []) m.0 (core (writable_at i s)) e m.1);
    untold = λ none. (refl, (refl, refl));
  }

  acts-none : (h : Writes) (s : Slots) (x : Entry) → owner_at i (step s x) ≡ EndOf c → has_ended (writable_at i s).state ≡ true → PortOrderly i c h s [] → (step_writes i s x).acted ≡ []
  acts-none h s x owner e g = by (has_writable i (step s x)) refl
    where
      after : PortOrderly i c (writes_then (forgotten h) (step_writes i s x)) (step s x) []
      after = step-orderly (forgotten h) s x (forgotten-orderly h s e g)

      by : (b : Bool) → b ≡ has_writable i (step s x) → (step_writes i s x).acted ≡ []
      by true f =
          let m = after.ordered owner (sym f) in
          let all : (step_writes i s x).acted ++ (todo (writable_at i (step s x)).queue ++ m.0) ≡ [] = sym m.1.all ∙ entry_none i s x e in
          (append_none (step_writes i s x).acted (todo (writable_at i (step s x)).queue ++ m.0) all).0
      by false f = (after.untold (sym f)).1.0

  end-step : (h : Writes) (s : Slots) (x : Entry) → owner_at i (step s x) ≡ EndOf c → PortOrderly i c h s [] → (ended : Bool) → ended ≡ has_ended (writable_at i s).state
      → IsWritableStep (step_writes i s x) (writable_at i s) (writable_at i (step s x))
  end-step h s x owner g true e =
      let written = entry_none i s x (sym e) in
      let acted = acts-none h s x owner (sym e) g in
      record {
        alive = λ f k. absurd (cc);
        front = (todo (writable_at i s).queue ++ (step_writes i s x).written, rw acted refl);
        ended = λ f. (written, acted);
      }
  end-step h s x owner g false e =
      let there = alive-there i s (sym e) in
      let r = step-remains i x s there in
      let f : Writes = step_writes i s x in
      let now : writable.Slots = writable_at i (step s x) in
      let before = g.ordered (sym r.owner ∙ owner) there in
      let after = (step-orderly h s x g).ordered owner r.there in
      let lists = step_lists h.written h.acted (todo (writable_at i s).queue) before.0 f.written f.acted (todo now.queue) after.0 before.1.all (before.1.live (sym e)) after.1.all in
      record {
        alive = λ a l.
            let none : after.0 ≡ [] = none-dropped (behind i c (writes_then h f) []) after.0 (core now) l after.1 in
            rw (none, append-nil) at lists;
        front = (todo now.queue ++ after.0, sym lists);
        ended = λ a. absurd (cc);
      }

-- each step of a writable stream at the end of a port is lawful
pub each_end_step : (entries : List Entry) (x : Entry) (i : StreamId) (c : PortId) → let s : Slots = run entries empty in owner_at i (step s x) ≡ EndOf c → IsWritableStep (step_writes i s x) (writable_at i s) (writable_at i (step s x))
each_end_step entries x i c owner =
    let s : Slots = run entries empty in
    end-step i c (run_writes i entries empty) s x owner (run-orderly i c entries) (has_ended (writable_at i s).state) refl
