-- What calls, jobs and events do to a link whose ends are the host's own.
use Rattle.std.proofs.Common.{◌≡◌, ℕ, Bool, true, false, [], ◌∷◌, length, Option, Some, None, refl, ap, subst, ◌∙◌}
use Rattle.ws_value.specs.declared.ids.PipeId.{PipeId}
use Rattle.ws_value.specs.declared.ids.SignalId.{SignalId}
use Rattle.ws_value.specs.declared.ids.StreamId.{StreamId}
use Rattle.ws_steps.specs.declared.calls.Call.{Call}
use Rattle.ws_steps.specs.declared.calls.Call.TheVariants.{Pipe}
use Rattle.ws_steps.specs.declared.calls.Event.{Event}
use Rattle.ws_steps.specs.declared.calls.StartBy.{StartBy}
use Rattle.ws_steps.specs.declared.calls.StartBy.TheVariants.{Now, Later}
use Rattle.ws_steps.specs.declared.effects.Owner.{Owner}
use Rattle.ws_steps.specs.declared.effects.Owner.TheVariants.{Host}
use Rattle.ws_steps.specs.declared.pipes.Prevent.{Prevent}
use Rattle.ws_steps.specs.declared.promises.Job.{Job}
use Rattle.ws_steps.specs.declared.readable.SizeBy.{SizeBy}
use Rattle.ws_steps.specs.Promises.{fresh, settle, answer, react, follow, unfollow, use_gift, queue_micro, after_next_job, watch, next_job}
use Rattle.ws_steps.specs.Turns.{call_host, row, turns, performed}
use Rattle.ws_steps.specs.Jobs.{begin_job}
use Rattle.ws_steps.specs.Calls.{begin}
use Rattle.ws_steps.specs.Run.{Entry, Called, Worked, Heard, step, run, after_call, after_job, after_event, first_event}
use Rattle.ws_steps.specs.Slots.{Slots, empty, has_byte, owner_at}
use Rattle.ws_flow.specs.Told.{then_told, IsShortOf}
use Rattle.ws_flow.proofs.Told.{then_empty}
use Rattle.ws_link_laws.specs.Link as link
use Rattle.ws_link_laws.specs.Link.{OfSink, silence, ear_by, ear_at, behind, giver_by, leaves, next_enters}
use Rattle.ws_link_laws.specs.Own.{AreOwn, IsOwnLink, AreFree, heard_of, enters}
use Rattle.ws_link_laws.specs.Sound.{IsThere}
use Rattle.ws_link_laws.proofs.Begins as begins
use Rattle.ws_link_laws.proofs.Owners.{source-stays, sink-stays}
use Rattle.ws_link_laws.proofs.Steps as steps
use Rattle.ws_link_laws.proofs.Worked as worked
use Rattle.ws_link_laws.proofs.Worked.{s0, s1, opening}

own-stays : (i j : StreamId) (p : PipeId) (s : Slots) (x : Entry) → IsOwnLink i j p s → AreOwn i j (step s x)
own-stays i j p s x l = record { source = source-stays i (x ∷ []) s l.link.source ∙ l.own.source; sink = sink-stays j (x ∷ []) s l.link.sink ∙ l.own.sink }

ear-is : (j : StreamId) (s : Slots) → owner_at j s ≡ Host → ear_at j s ≡ OfSink j
ear-is j s e = ap (λ (o : Owner). ear_by j s o) e

no-job : (b : Bool) (o : Option Job) → next_enters (giver_by b Host) o ≡ silence
no-job b None = refl
no-job true (Some job) = refl
no-job false (Some job) = refl

-- a pipe between two streams of the host's own that nobody has
pub link-begins : (i j : StreamId) (prevent : Prevent) (signal : Option SignalId) (s : Slots) → AreFree i j s → IsThere signal s → IsOwnLink i j (record { 0 = length s.pipes }) (after_call (Pipe i j prevent signal) s)
link-begins i j prevent signal s f there = record {
  link = begins.link-begins i j prevent signal s f.free there;
  own = record {
    source = source-stays i (Called (Pipe i j prevent signal) ∷ []) s f.free.source ∙ f.own.source;
    sink = sink-stays j (Called (Pipe i j prevent signal) ∷ []) s f.free.sink ∙ f.own.sink;
  };
}

pub link-called : (i j : StreamId) (p : PipeId) (s : Slots) (c : Call) → IsOwnLink i j p s → leaves i j c ≡ true → IsOwnLink i j p (after_call c s) × IsShortOf (behind i j p (after_call c s)) (then_told (behind i j p s) (enters i s c))
link-called i j p s c l leave =
    let h = steps.link-called i j p s c l.link leave in
    (record { link = h.0; own = own-stays i j p s (Called c) l }, subst (λ (o : Owner). IsShortOf (behind i j p (after_call c s)) (then_told (behind i j p s) (link.enters (giver_by (has_byte i s) o) i c))) l.own.source h.1)

pub link-worked : (i j : StreamId) (p : PipeId) (s : Slots) → IsOwnLink i j p s → IsOwnLink i j p (after_job s) × IsShortOf (behind i j p (after_job s)) (behind i j p s)
link-worked i j p s l =
    let h = steps.link-worked i j p s l.link in
    let t = subst (λ (o : Owner). IsShortOf (behind i j p (after_job s)) (then_told (behind i j p s) (next_enters (giver_by (has_byte i s) o) (next_job s.promises)))) l.own.source h.1 in
    (record { link = h.0; own = own-stays i j p s Worked l }, rw (no-job (has_byte i s) (next_job s.promises), then_empty (behind i j p s)) at t)

pub link-heard : (i j : StreamId) (p : PipeId) (s : Slots) (e : Event) → first_event s.promises.events ≡ Some e → IsOwnLink i j p s → IsOwnLink i j p (after_event s) × IsShortOf (then_told (heard_of j e) (behind i j p (after_event s))) (behind i j p s)
link-heard i j p s e f l =
    let h = steps.link-heard i j p s e f l.link in
    (record { link = h.0; own = own-stays i j p s Heard l }, subst (λ w. IsShortOf (then_told (link.heard_of w e) (behind i j p (after_event s))) (behind i j p s)) (ear-is j s l.own.sink) h.1)

pub link-unheard : (i j : StreamId) (p : PipeId) (s : Slots) → first_event s.promises.events ≡ None → IsOwnLink i j p s → IsOwnLink i j p (after_event s) × (behind i j p (after_event s) ≡ behind i j p s)
link-unheard i j p s f l = let h = steps.link-unheard i j p s f l.link in (record { link = h.0; own = own-stays i j p s Heard l }, h.1)

-- two new streams of the host's own
pub free-new : (m : ℕ) (x : SizeBy) (a : StartBy) (n : ℕ) (y : SizeBy) (b : StartBy) → AreFree s0 s1 (run (opening m x a n y b) empty)
unfolding fresh settle answer react follow unfollow use_gift queue_micro after_next_job watch call_host row turns performed begin_job begin
free-new m x Now n y Now = record { free = worked.free-new m x Now n y Now; own = record { source = refl; sink = refl } }
free-new m x Now n y Later = record { free = worked.free-new m x Now n y Later; own = record { source = refl; sink = refl } }
free-new m x Later n y Now = record { free = worked.free-new m x Later n y Now; own = record { source = refl; sink = refl } }
free-new m x Later n y Later = record { free = worked.free-new m x Later n y Later; own = record { source = refl; sink = refl } }
