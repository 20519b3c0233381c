-- Links over calls, jobs and events that leave them alone.
use Rattle.std.proofs.Common.{◌≡◌, true, List, [], ◌∷◌, ◌++◌, Option, Some, None, refl, subst, ◌∙◌}
use Rattle.ws_steps.specs.declared.calls.Call.{Call}
use Rattle.ws_steps.specs.declared.calls.Event.{Event}
use Rattle.ws_steps.specs.Promises.{next_job}
use Rattle.ws_steps.specs.Run.{Entry, Called, Worked, Heard, run, after_call, after_job, after_event, first_event}
use Rattle.ws_steps.specs.Slots.{Slots}
use Rattle.ws_flow.specs.Told.{then_told, IsShortOf}
use Rattle.ws_flow.proofs.Told.{short_refl, short_same}
use Rattle.ws_link_laws.specs.Link as link
use Rattle.ws_link_laws.specs.Link.{Giver, Ear, ear_at, heard_of, next_enters, leaves}
use Rattle.ws_link_laws.specs.Laws.{all_leave}
use Rattle.ws_link_laws.proofs.HasRoom.{each_link_has_room}
use Rattle.ws_link_laws.proofs.Keeps.{each_link_keeps}
use Rattle.ws_link_laws.proofs.Owners.{giver-stays, ear-stays}
use Rattle.ws_link_laws.proofs.Steps.{link-called, link-worked, link-heard, link-unheard}
use Rattle.ws_wire_laws.specs.Wire.{Joint, IsJoint, Each, IsWired, behind_on, call_on}
use Rattle.ws_wire_laws.specs.Laws.{KeepsJoint, KeepsBehind, KeepsHeard, next_on, EachWiringKeeps, EachCallKeepsWiring, EachJobKeepsWiring, EachEventKeepsWiring, EachWiringHasRoom, EachPartIsWired}

-- what is so of each of them
pub each-map : (P Q : Joint → Type 0) → ((x : Joint) → P x → Q x) → (xs : List Joint) → Each P xs → Each Q xs
each-map P Q f [] e = tt
each-map P Q f (x ∷ xs) e = (f x e.0, each-map P Q f xs e.1)

pub each-both : (P Q S : Joint → Type 0) → ((x : Joint) → P x → Q x → S x) → (xs : List Joint) → Each P xs → Each Q xs → Each S xs
each-both P Q S f [] a b = tt
each-both P Q S f (x ∷ xs) a b = (f x a.0 b.0, each-both P Q S f xs a.1 b.1)

pub each-front : (P : Joint → Type 0) (xs ys : List Joint) → Each P (xs ++ ys) → Each P xs
each-front P [] ys e = tt
each-front P (x ∷ xs) ys e = (e.0, each-front P xs ys e.1)

-- one of them

pub joint-stays : (x : Joint) (s : Slots) (entries : List Entry) → IsJoint x s → all_leave x.from x.into entries ≡ true → IsJoint x (run entries s)
joint-stays x s entries c e = record {
  link = (each_link_keeps x.from x.into x.pipe s entries c.link e).link;
  room = (each_link_has_room x.from x.into x.pipe s entries c.link c.room e).room;
  gives = giver-stays x.from entries s c.link.source ∙ c.gives;
  hears = ear-stays x.into entries s c.link.sink c.link.sink_owner ∙ c.hears;
}

joint-keeps : (x : Joint) (s : Slots) (entries : List Entry) → IsJoint x s → all_leave x.from x.into entries ≡ true → KeepsJoint s entries x
joint-keeps x s entries c e = record {
  joint = joint-stays x s entries c e;
  short = (each_link_keeps x.from x.into x.pipe s entries c.link e).short;
}

joint-called : (x : Joint) (s : Slots) (c : Call) → IsJoint x s → leaves x.from x.into c ≡ true → KeepsBehind s (after_call c s) (λ x. call_on x c) x
joint-called x s c h e = record {
  joint = joint-stays x s (Called c ∷ []) h (rw e refl);
  short =
      subst (λ (g : Giver). IsShortOf (behind_on x (after_call c s)) (then_told (behind_on x s) (link.enters g x.from c))) h.gives
      (link-called x.from x.into x.pipe s c h.link e).1;
}

joint-worked : (x : Joint) (s : Slots) → IsJoint x s → KeepsBehind s (after_job s) (λ x. next_enters x.gives (next_job s.promises)) x
joint-worked x s h = record {
  joint = joint-stays x s (Worked ∷ []) h refl;
  short =
      subst (λ (g : Giver). IsShortOf (behind_on x (after_job s)) (then_told (behind_on x s) (link.next_enters g (next_job s.promises)))) h.gives
      (link-worked x.from x.into x.pipe s h.link).1;
}

heard-short : (x : Joint) (s : Slots) → IsJoint x s → (o : Option Event) → first_event s.promises.events ≡ o → IsShortOf (then_told (next_on x o) (behind_on x (after_event s))) (behind_on x s)
heard-short x s h None f =
    let a = (link-unheard x.from x.into x.pipe s f h.link).1 in
    short_same (behind_on x (after_event s)) (behind_on x s) (behind_on x s) a (short_refl (behind_on x s))
heard-short x s h (Some e) f =
    subst (λ (w : Ear). IsShortOf (then_told (heard_of w e) (behind_on x (after_event s))) (behind_on x s)) h.hears
    (link-heard x.from x.into x.pipe s e f h.link).1

joint-heard : (x : Joint) (s : Slots) → IsJoint x s → KeepsHeard s x
joint-heard x s h = record {
  joint = joint-stays x s (Heard ∷ []) h refl;
  short = heard-short x s h (first_event s.promises.events) refl;
}

-- all of them

pub each_wiring_keeps : EachWiringKeeps
each_wiring_keeps [] s entries w e = tt
each_wiring_keeps (x ∷ xs) s entries w e = (joint-keeps x s entries w.0 e.0, each_wiring_keeps xs s entries w.1 e.1)

pub each_call_keeps_wiring : EachCallKeepsWiring
each_call_keeps_wiring [] s c w e = tt
each_call_keeps_wiring (x ∷ xs) s c w e = (joint-called x s c w.0 e.0, each_call_keeps_wiring xs s c w.1 e.1)

pub each_job_keeps_wiring : EachJobKeepsWiring
each_job_keeps_wiring [] s w = tt
each_job_keeps_wiring (x ∷ xs) s w = (joint-worked x s w.0, each_job_keeps_wiring xs s w.1)

pub each_event_keeps_wiring : EachEventKeepsWiring
each_event_keeps_wiring [] s w = tt
each_event_keeps_wiring (x ∷ xs) s w = (joint-heard x s w.0, each_event_keeps_wiring xs s w.1)

pub each_wiring_has_room : EachWiringHasRoom
each_wiring_has_room [] s w = tt
each_wiring_has_room (x ∷ xs) s w = ((each_link_has_room x.from x.into x.pipe s [] w.0.link w.0.room refl).one, each_wiring_has_room xs s w.1)

parts : (xs ys : List Joint) (s : Slots) → IsWired (xs ++ ys) s → IsWired xs s × IsWired ys s
parts [] ys s w = (tt, w)
parts (x ∷ xs) ys s w = let p = parts xs ys s w.1 in ((w.0, p.0), p.1)

whole : (xs ys : List Joint) (s : Slots) → IsWired xs s → IsWired ys s → IsWired (xs ++ ys) s
whole [] ys s a b = b
whole (x ∷ xs) ys s a b = (a.0, whole xs ys s a.1 b)

pub each_part_is_wired : EachPartIsWired
each_part_is_wired xs ys s = record { both = parts xs ys s; whole = whole xs ys s }
