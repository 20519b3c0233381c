-- What moves one of two links, and what the other does then (`each_step_moves_one_link`).
use Rattle.std.proofs.Common.{◌≡◌, ◌⊎◌, inl, inr, ℕ, nat_eq, Bool, true, false, if◌then◌else◌, refl, arith}
use Rattle.ws_value.specs.declared.ids.StreamId.{StreamId}
use Rattle.ws_value.specs.declared.value.Value.{Value}
use Rattle.ws_steps.specs.declared.calls.Call.{Call}
use Rattle.ws_steps.specs.declared.calls.Call.TheVariants.{Enqueue, Finish, Terminate, Deliver}
use Rattle.ws_steps.specs.declared.calls.Event.{Event}
use Rattle.ws_steps.specs.declared.calls.Event.TheVariants.{Host as HostCalled, Post}
use Rattle.ws_steps.specs.declared.calls.HostCall.{HostCall}
use Rattle.ws_steps.specs.declared.calls.HostCall.TheVariants.{Write, Close, Transform, Flush}
use Rattle.ws_steps.specs.Histories.{is_same}
use Rattle.ws_flow.specs.Told.{Told}
use Rattle.ws_laws.proofs.Tables.{eq_numbers}
use Rattle.ws_link_laws.specs.Link as link
use Rattle.ws_link_laws.specs.Link.{silence, Giver, OfSource, OfByteSource, OfHalf, OfEnd, Ear, OfSink, OfTransform, OfPort}
use Rattle.ws_wire_laws.specs.Wire.{same_end, same_ear}
use Rattle.ws_wire_laws.specs.Laws.{EachStepMovesOneLink}

-- of two that differ one at most is a third
one : (a b c : ℕ) (t u : Told Value) → nat_eq a b ≡ false → ((if nat_eq a c then t else silence) ≡ silence) ⊎ ((if nat_eq b c then u else silence) ≡ silence)
one a b c t u apart = by (nat_eq a c) refl
  where
    by : (x : Bool) → nat_eq a c ≡ x → ((if nat_eq a c then t else silence) ≡ silence) ⊎ ((if nat_eq b c then u else silence) ≡ silence)
    by false e = inl (rw e refl)
    by true e = by_other (nat_eq b c) refl
      where
        by_other : (x : Bool) → nat_eq b c ≡ x → ((if nat_eq a c then t else silence) ≡ silence) ⊎ ((if nat_eq b c then u else silence) ≡ silence)
        by_other false f = inr (rw f refl)
        by_other true f = let p = eq_numbers a c e in let q = eq_numbers b c f in absurd (grind (arith, p, q, apart))

call-two : (g h : Giver) (i j : StreamId) (c : Call) → is_same i j ≡ false → same_end g h ≡ false → (link.enters g i c ≡ silence) ⊎ (link.enters h j c ≡ silence)
call-two g h i j (Enqueue k v) a e = one i.0 j.0 k.0 (link.lets_in g v) (link.lets_in h v) a
call-two OfSource OfSource i j (Finish k) a e = one i.0 j.0 k.0 _ _ a
call-two OfSource OfByteSource i j (Finish k) a e = one i.0 j.0 k.0 _ _ a
call-two OfByteSource OfSource i j (Finish k) a e = one i.0 j.0 k.0 _ _ a
call-two OfByteSource OfByteSource i j (Finish k) a e = one i.0 j.0 k.0 _ _ a
call-two g (OfHalf t) i j (Finish k) a e = inr refl
call-two g (OfEnd d) i j (Finish k) a e = inr refl
call-two (OfHalf t) h i j (Finish k) a e = inl refl
call-two (OfEnd d) h i j (Finish k) a e = inl refl
call-two (OfHalf t) (OfHalf u) i j (Terminate k) a e = one i.0 j.0 k.0 _ _ a
call-two g OfSource i j (Terminate k) a e = inr refl
call-two g OfByteSource i j (Terminate k) a e = inr refl
call-two g (OfEnd d) i j (Terminate k) a e = inr refl
call-two OfSource h i j (Terminate k) a e = inl refl
call-two OfByteSource h i j (Terminate k) a e = inl refl
call-two (OfEnd d) h i j (Terminate k) a e = inl refl
call-two (OfEnd c) (OfEnd d) i j (Deliver p m) a e = one c.0 d.0 p.0 (link.delivered m) (link.delivered m) e
call-two g OfSource i j (Deliver p m) a e = inr refl
call-two g OfByteSource i j (Deliver p m) a e = inr refl
call-two g (OfHalf t) i j (Deliver p m) a e = inr refl
call-two OfSource h i j (Deliver p m) a e = inl refl
call-two OfByteSource h i j (Deliver p m) a e = inl refl
call-two (OfHalf t) h i j (Deliver p m) a e = inl refl
call-two g h i j c a e = inl refl

abbrev Silent : Ear → Ear → HostCall → Type 0
Silent w v c = (link.heard_call w c ≡ silence) ⊎ (link.heard_call v c ≡ silence)

host-two : (w v : Ear) (c : HostCall) → same_ear w v ≡ false → Silent w v c
host-two (OfSink i) (OfSink j) (Write k x) e = one i.0 j.0 k.0 _ _ e
host-two (OfSink i) (OfSink j) (Close k) e = one i.0 j.0 k.0 _ _ e
host-two (OfTransform t i) v (Write k x) e = inl refl
host-two (OfPort c) v (Write k x) e = inl refl
host-two w (OfTransform t i) (Write k x) e = inr refl
host-two w (OfPort c) (Write k x) e = inr refl
host-two (OfTransform t i) v (Close k) e = inl refl
host-two (OfPort c) v (Close k) e = inl refl
host-two w (OfTransform t i) (Close k) e = inr refl
host-two w (OfPort c) (Close k) e = inr refl
host-two (OfTransform t i) (OfTransform u j) (Transform k x) e = one i.0 j.0 k.0 _ _ e
host-two (OfTransform t i) (OfTransform u j) (Flush k) e = one i.0 j.0 k.0 _ _ e
host-two (OfSink i) v (Transform k x) e = inl refl
host-two (OfPort c) v (Transform k x) e = inl refl
host-two w (OfSink i) (Transform k x) e = inr refl
host-two w (OfPort c) (Transform k x) e = inr refl
host-two (OfSink i) v (Flush k) e = inl refl
host-two (OfPort c) v (Flush k) e = inl refl
host-two w (OfSink i) (Flush k) e = inr refl
host-two w (OfPort c) (Flush k) e = inr refl
host-two w v c e = inl refl

event-two : (w v : Ear) (e : Event) → same_ear w v ≡ false → (link.heard_of w e ≡ silence) ⊎ (link.heard_of v e ≡ silence)
event-two w v (HostCalled id c) a = host-two w v c a
event-two (OfPort c) (OfPort d) (Post p m) a = one c.0 d.0 p.0 (link.heard_post m) (link.heard_post m) a
event-two (OfSink i) v (Post p m) a = inl refl
event-two (OfTransform t i) v (Post p m) a = inl refl
event-two w (OfSink i) (Post p m) a = inr refl
event-two w (OfTransform t i) (Post p m) a = inr refl
event-two w v e a = inl refl

pub each_step_moves_one_link : EachStepMovesOneLink
each_step_moves_one_link x y two = record {
  call = λ c. call-two x.gives y.gives x.from y.from c two.from two.ends;
  event = λ e. event-two x.hears y.hears e two.hears;
}
