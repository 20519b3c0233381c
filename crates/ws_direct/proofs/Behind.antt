-- Effects that come behind others.
use Rattle.std.proofs.Common.{◌≡◌, ◌+◌, Bool, true, List, [], ◌∷◌, ◌++◌, sym, subst, append_assoc, length-append, arith}
use Rattle.std.proofs.lemmas.List.{append-nil}
use Rattle.ws_promise.specs.Seen.{HasEffectRoom}
use Rattle.ws_value.specs.declared.ids.StreamId.{StreamId}
use Rattle.ws_steps.specs.declared.effects.Effect.{Effect}
use Rattle.ws_steps.specs.declared.effects.Effect.TheVariants.{PullAlgorithm}
use Rattle.ws_steps.specs.Places.{turns_alone, promises_alone, jobs_alone, events_alone, hosts_alone, queued_alone, requests_alone, requests_at, members_alone, descriptors_alone, copies_alone}
use Rattle.ws_room_laws.proofs.Readables.{prices-append}
use Rattle.ws_room_laws.proofs.Room.{effects-stand}
use Rattle.ws_tables.specs.Room.{room_of, AreCopied, HasRoomForAll, IsKept}
use Rattle.ws_tables.specs.declared.tables.Tables.{Tables}
use Rattle.ws_performing.specs.Performing.{Performs}
use Rattle.ws_performing.proofs.Fits.{within-less}
use Rattle.ws_performing.proofs.Streams.{each-one}
use Rattle.ws_performing.proofs.Turns.{rooms-less}
use Rattle.ws_direct.specs.Directly.{Reaches, IsReadyFor, IsReadyAfter, PerformsAfter, PerformsDirectly, leaving, pulls_told}
use Rattle.ws_direct.proofs.Reaching.{beside, by, left, stays, then}

copied-front : (xs ys : List Effect) (t : Tables) → AreCopied (xs ++ ys) t → AreCopied xs t
copied-front [] ys t h = tt
copied-front (e ∷ xs) ys t h = let a = prices-append copies_alone xs ys in let none = h.1 in (h.0, omega (arith, a, none))

-- where there are places for effects, there are for those that come first
pub room-front : (xs ys : List Effect) (t : Tables) → HasRoomForAll (xs ++ ys) t → HasRoomForAll xs t
room-front xs ys t room =
    let q = prices-append queued_alone xs ys in let r = prices-append requests_alone xs ys in let m = prices-append members_alone xs ys in
    let d = prices-append descriptors_alone xs ys in
    let w = prices-append turns_alone xs ys in
    record {
      promises = let h = room.promises in let a = prices-append promises_alone xs ys in omega (arith, h, a);
      jobs = let h = room.jobs in let a = prices-append jobs_alone xs ys in omega (arith, h, a);
      events = let h = room.events in let a = prices-append events_alone xs ys in omega (arith, h, a);
      hosts = let h = room.hosts in let a = prices-append hosts_alone xs ys in omega (arith, h, a);
      caused = let h = room.caused in omega (arith, h, w);
      others = let h = room.others in omega (arith, h, w);
      lists = λ i x is.
          let h = room.lists i x is in
          let hq = h.queue in let hr = h.requests in
          let a = prices-append (requests_at (record { 0 = i })) xs ys in
          record { queue = omega (arith, hq, q); requests = omega (arith, hr, a); descriptors = within-less _ _ (room_of x).descriptors (omega (arith, d)) h.descriptors };
      once = let h = room.once in omega (arith, h, d);
      rooms = λ i x is. rooms-less _ _ x (omega (arith, d)) (room.rooms i x is);
      grown = let h = room.grown in omega (arith, h, q, r);
      members = λ i x is. let h = room.members i x is in omega (arith, h, m);
      full = let h = room.full in omega (arith, h, m);
      copies = copied-front xs ys t room.copies;
    }

pub ready-first : (e : Effect) (es : List Effect) (t : Tables) → IsReadyFor (e ∷ es) t → IsReadyFor (e ∷ []) t
ready-first e es t ready = record { quiet = ready.quiet; room = room-front (e ∷ []) es t ready.room; kept = ready.kept }

-- all that is left is ready, where nothing is caused
pub next-all : (es fs : List Effect) (t u : Tables) → HasRoomForAll es t → Reaches es t fs u → u.caused.effects ≡ [] → IsReadyFor fs u
next-all es fs t u room reached quiet =
    record {
      quiet = quiet;
      room = subst (λ xs. HasRoomForAll xs u) (append-nil fs) (reached.room [] (subst (λ xs. HasRoomForAll xs t) (sym (append-nil es)) room));
      kept = reached.kept;
    }

-- effects come behind what others left
pub after-ready : (es gs fs : List Effect) (t u : Tables) → HasRoomForAll (es ++ (gs ++ fs)) t → PerformsDirectly es t u → IsReadyAfter gs u
after-ready es gs fs t u room reached =
    record {
      room =
          room-front (u.caused.effects ++ gs) fs u
          (subst (λ xs. HasRoomForAll xs u) (sym (append_assoc u.caused.effects gs fs)) (reached.room (gs ++ fs) room));
      kept = reached.kept;
    }

pub after-then : (es gs : List Effect) (t u v : Tables) → PerformsDirectly es t u → PerformsAfter gs u v → PerformsDirectly (es ++ gs) t v
after-then es gs t u v a b = then (es ++ gs) (u.caused.effects ++ gs) v.caused.effects t u v (beside es u.caused.effects gs t u a) b

-- what comes of the first of two parts is performed, and then the second behind what that left

pub ready-after : (e : Effect) (es gs : List Effect) (t z u : Tables) → PerformsDirectly es z u → HasRoomForAll (e ∷ []) t → Reaches (e ∷ []) t (es ++ gs) z → IsReadyAfter gs u
ready-after e es gs t z u done room reached =
    after-ready es gs [] z u (subst (λ xs. HasRoomForAll xs z) (append_assoc es gs []) (reached.room [] room)) done

pub then-after : (e : Effect) (es gs : List Effect) (t z u v : Tables) → PerformsDirectly es z u → PerformsAfter gs u v → Reaches (e ∷ []) t (es ++ gs) z → PerformsDirectly (e ∷ []) t v
then-after e es gs t z u v done after reached = then (e ∷ []) (es ++ gs) v.caused.effects t z v reached (after-then es gs z u v done after)

-- they are performed where nothing is left

pub after-none : (es : List Effect) (t t' : Tables) → t.caused.effects ≡ [] → PerformsDirectly es t t' → PerformsAfter es t t'
after-none es t t' quiet done = subst (λ xs. Reaches (xs ++ es) t t'.caused.effects t') (sym quiet) done

pub ready-now : (es : List Effect) (t : Tables) → t.caused.effects ≡ [] → IsReadyAfter es t → IsReadyFor es t
ready-now es t quiet ready = record { quiet = quiet; room = subst (λ xs. HasRoomForAll (xs ++ es) t) quiet ready.room; kept = ready.kept }

-- and else caused

pub after-some : (e : Effect) (t t' : Tables) → IsReadyAfter (e ∷ []) t → t' ≡ leaving e t → PerformsAfter (e ∷ []) t t'
after-some e t t' ready is = left (t.caused.effects ++ e ∷ []) t t' is ready.kept

pub pull-some : (i : StreamId) (pulls : Bool) (t t' : Tables) → pulls ≡ true → IsReadyAfter (pulls_told pulls i) t → t' ≡ leaving (PullAlgorithm i) t → PerformsAfter (pulls_told pulls i) t t'
pull-some i pulls t t' holds ready is =
    subst (λ b. PerformsAfter (pulls_told b i) t t') (sym holds) (after-some (PullAlgorithm i) t t' (subst (λ b. IsReadyAfter (pulls_told b i) t) holds ready) is)

pub one-more : (e : Effect) (t : Tables) → IsReadyAfter (e ∷ []) t → HasEffectRoom 1 t.caused
one-more e t ready =
    let all = effects-stand turns_alone (t.caused.effects ++ e ∷ []) in
    let count = each-one (t.caused.effects ++ e ∷ []) in
    let sum = length-append t.caused.effects (e ∷ []) in
    let h = ready.room.caused in
    omega (arith, all, count, sum, h)

-- none comes
pub after-nothing : (t : Tables) → IsReadyAfter [] t → PerformsAfter [] t t
after-nothing t ready = subst (λ xs. Reaches xs t t.caused.effects t) (sym (append-nil t.caused.effects)) (stays t.caused.effects t ready.kept)

-- an effect does nothing
pub nothing-kept : (e : Effect) (t : Tables) → t.caused.effects ≡ [] → IsKept t → Performs e t t → Reaches (e ∷ []) t [] t
nothing-kept e t quiet kept did = subst (λ xs. Reaches (e ∷ []) t xs t) quiet (by e t.caused.effects t t kept did kept)

-- the first is performed, and nothing of it is left
pub first-then : (e : Effect) (fs : List Effect) (t u : Tables) → PerformsDirectly (e ∷ []) t u → u.caused.effects ≡ [] → Reaches (e ∷ fs) t fs u
first-then e fs t u done quiet = subst (λ xs. Reaches (e ∷ fs) t (xs ++ fs) u) quiet (beside (e ∷ []) u.caused.effects fs t u done)

pub ready-front : (es fs : List Effect) (t : Tables) → IsReadyFor (es ++ fs) t → IsReadyFor es t
ready-front es fs t ready = record { quiet = ready.quiet; room = room-front es fs t ready.room; kept = ready.kept }

-- there is nothing to perform
pub nothing-left : (t : Tables) → IsReadyFor [] t → PerformsDirectly [] t t
nothing-left t ready = subst (λ xs. Reaches [] t xs t) (sym ready.quiet) (stays [] t ready.kept)
