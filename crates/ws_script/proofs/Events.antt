-- Events that are printed one after another.
use Rattle.std.proofs.Common.{◌≡◌, ℕ, zero, suc, List, [], ◌∷◌, ◌++◌, drop, refl, sym, ◌∙◌, ap, subst, append_assoc, append-nil}
use Rattle.std.specs.Prelude.{Option, Some, None}
use Rattle.ws_value.specs.declared.ids.TeeId.{TeeId}
use Rattle.ws_value.specs.declared.value.Plain.{Plain}
use Rattle.ws_steps.specs.declared.calls.Event.{Event}
use Rattle.ws_steps.specs.declared.calls.Event.TheVariants.{Host, Settled, Signal, Post}
use Rattle.ws_steps.specs.Promises.{rank_at}
use Rattle.ws_steps.specs.Run.{heard}
use Rattle.ws_steps.specs.Slots.{Slots, with_promises}
use Rattle.ws_steps.specs.Run.{after_event, first_event, later_events}
use Rattle.ws_script.specs.Heard.{IsPartlyHeard}
use Rattle.ws_print.specs.Events.{host_text, settled_text, signal_text, tee_in_call, tee_in_outcome}
use Rattle.ws_print.specs.Values.{tee_in}
use Rattle.ws_realm.specs.Seen.{outcome_named}
use Rattle.ws_script.specs.Printed.{pair_named, event_text, events_text}

-- the events that wait are these
left : List Event → Slots → Slots
left events s = with_promises (record s.promises { events = events }) s

same_pair : (s : Slots) (waiting : List Event) (tee : Option TeeId) → pair_named (left waiting s) tee ≡ pair_named s tee
unfolding left
same_pair s waiting None = refl
same_pair s waiting (Some t) = refl

-- how an event is printed doesn't depend on the events that wait
same_event : (s : Slots) (waiting : List Event) (event : Event) → event_text (left waiting s) event ≡ event_text s event
unfolding left
same_event s waiting (Host id call) =
    ap (λ (pair : Option (Plain × Plain)). host_text pair id call) (same_pair s waiting (tee_in_call call))
same_event s waiting (Settled p) =
    ap (λ (pair : Option (Plain × Plain)). settled_text pair (rank_at s.promises p) (outcome_named p s))
    (same_pair s waiting (tee_in_outcome (outcome_named p s)))
same_event s waiting (Signal stream reason) =
    ap (λ (pair : Option (Plain × Plain)). signal_text pair stream reason) (same_pair s waiting (tee_in reason))
same_event s waiting (Post port message) = refl

same_events : (s : Slots) (waiting events : List Event) → events_text (left waiting s) events ≡ events_text s events
same_events s waiting [] = refl
same_events s waiting (event ∷ events) =
    ap (λ (xs : List ℕ). xs ++ events_text (left waiting s) events) (same_event s waiting event)
    ∙ ap (λ (xs : List ℕ). event_text s event ++ xs) (same_events s waiting events)

-- the first event is printed, and then the others
printed_by : (s : Slots) (events : List Event) (event : Event) (text text' : List ℕ) → first_event events ≡ Some event
    → text' ≡ text ++ event_text (left (later_events events) s) event
    → text' ++ events_text (left (later_events events) s) (later_events events) ≡ text ++ events_text s events
printed_by s [] event text text' first printed = cc
printed_by s (e ∷ events) event text text' first printed =
    let same : event ≡ e = cc in
    ap (λ (xs : List ℕ). xs ++ events_text (left events s) events) printed
    ∙ (append_assoc text (event_text (left events s) event) (events_text (left events s) events)
    ∙ (ap (λ (xs : List ℕ). text ++ (xs ++ events_text (left events s) events)) (same_event s events event ∙ ap (event_text s) same)
    ∙ ap (λ (xs : List ℕ). text ++ (event_text s e ++ xs)) (same_events s events events)))

pub printed-then : (s z : Slots) (event : Event) (text text' : List ℕ) → first_event s.promises.events ≡ Some event
    → z ≡ after_event s → text' ≡ text ++ event_text z event
    → text' ++ events_text z z.promises.events ≡ text ++ events_text s s.promises.events
unfolding left
printed-then s z event text text' first is printed =
    let P : Slots → Type 0 = λ w. text' ≡ text ++ event_text w event → text' ++ events_text w w.promises.events ≡ text ++ events_text s s.promises.events in
    subst P (sym is) (printed_by s s.promises.events event text text' first) printed

later_dropped : (n : ℕ) (events : List Event) → later_events (drop n events) ≡ drop (suc n) events
later_dropped zero [] = refl
later_dropped zero (event ∷ events) = refl
later_dropped (suc n) [] = refl
later_dropped (suc n) (event ∷ events) = later_dropped n events

pub partly-none : (s : Slots) → IsPartlyHeard s s
partly-none s = record { count = 0; slots = refl }

pub partly-then : (s y z : Slots) → IsPartlyHeard s y → z ≡ after_event y → IsPartlyHeard s z
unfolding left
partly-then s y z h is =
    record {
      count = suc h.count;
      slots = is ∙ (ap after_event h.slots ∙ ap (λ (events : List Event). left events s) (later_dropped h.count s.promises.events));
    }

no_event : (events : List Event) → first_event events ≡ None → events ≡ []
no_event [] h = refl
no_event (event ∷ events) h = cc

-- where no event is left, all were printed and the host has heard of all
pub all-printed : (s : Slots) (text : List ℕ) → first_event s.promises.events ≡ None → text ++ events_text s s.promises.events ≡ text
all-printed s text h = ap (λ (events : List Event). text ++ events_text s events) (no_event s.promises.events h) ∙ append-nil text

pub all-heard : (s y z : Slots) → IsPartlyHeard s y → first_event y.promises.events ≡ None → z ≡ after_event y → z ≡ heard s
unfolding left
all-heard s y z h none is =
    is ∙ (ap (λ (events : List Event). left (later_events events) y) (no_event y.promises.events none) ∙ ap heard h.slots)
