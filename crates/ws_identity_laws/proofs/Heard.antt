-- What the host hears at the end of a way (`each_way_is_heard`).
use Rattle.std.proofs.Common.{◌≡◌, ℕ, zero, suc, ◌+◌, ◌<◌, Bool, true, false, slice_get, List, [], ◌∷◌, ◌++◌, refl, sym, ap, ◌∙◌, arith, append_assoc, append-nil}
use Rattle.ws_value.specs.declared.{ids.PipeId.{PipeId}, ids.StreamId.{StreamId}}
use Rattle.ws_value.specs.declared.value.Value.{Value}
use Rattle.ws_steps.specs.declared.effects.Owner.{Owner}
use Rattle.ws_steps.specs.declared.effects.Owner.TheVariants.{Host, HalfOf, BranchOf, EndOf}
use Rattle.ws_steps.specs.Histories.{in_step, over, run_events}
use Rattle.ws_steps.specs.Laws.{IsPrefixOf, enqueued_by_host}
use Rattle.ws_steps.specs.ReadableHistory.{Flow, no_flow, flow_then, effect_flow, run_flow, accepted_in_step, accepted}
use Rattle.ws_steps.specs.Run.{Entry, run, step}
use Rattle.ws_steps.specs.Slots.{Slots, empty, has_readable, has_byte, has_source, has_writable, owner_at, readable_at}
use Rattle.ws_steps.specs.WritableHistory.{Writes, no_writes, writes_then, step_writes, run_writes, heard_writes, heard_closes}
use Rattle.ws_flow.specs.Told.{Mark, Open, Closed, Broken, Lost, Told, told, then_told, IsFront, IsShortOf}
use Rattle.ws_laws.proofs.Walker.{IsHistory}
use Rattle.ws_readable_laws.proofs.Accepted.{entered_was_accepted}
use Rattle.ws_writable_laws.proofs.Heard.{acted_was_heard}
use Rattle.ws_writable_laws.proofs.HeardCloses.{closes_were_heard}
use Rattle.ws_writable_laws.proofs.Runs.{is_history}
use Rattle.ws_transform_laws.proofs.Told.{over-map}
use Rattle.ws_link_laws.proofs.Hosts.{source-owner}
use Rattle.ws_link_laws.specs.Link.{OfByteSource, giver_by, giver_at}
use Rattle.ws_link_laws.proofs.Owners.{source-stays, sink-stays, giver-stays}
use Rattle.ws_link_laws.proofs.SourceTurns.{is_default}
use Rattle.ws_identity_laws.specs.Heard.{IsHeard, IsUnused, EachWayIsHeard}
use Rattle.ws_identity_laws.specs.Passing.{ending, run_acts, run_takes}
use Rattle.ws_identity_laws.specs.Through.{Middle, IsWay, lies_along, all_leave_way}
use Rattle.ws_identity_laws.proofs.Acting.{each_act_is_told}
use Rattle.ws_identity_laws.proofs.Entered.{each_take_is_told}
use Rattle.ws_identity_laws.proofs.TakenBytes.{each_take_of_bytes_is_told}
use Rattle.ws_identity_laws.proofs.Ways.{run-more, each_way_passes}

-- what happens in two runs, one after the other
over-append : {H : Type 0} (none : H) (after : H → H → H) (is : IsHistory none after) (told : Slots → Entry → H) (xs ys : List Entry) (s : Slots) → over none after told (xs ++ ys) s ≡ after (over none after told xs s) (over none after told ys (run xs s))
over-append none after is told [] ys s = sym (is.left (over none after told ys s))
over-append none after is told (x ∷ xs) ys s = ap (after (told s x)) (over-append none after is told xs ys (step s x)) ∙ sym (is.assoc (told s x) (over none after told xs (step s x)) (over none after told ys (run xs (step s x))))

are_lists : IsHistory {H = List Value} [] ◌++◌
are_lists = record { left = λ vs. refl; right = append-nil; assoc = append_assoc }

entered-append : (i : StreamId) (xs ys : List Entry) (s : Slots) → (run_flow i (xs ++ ys) s).entered ≡ (run_flow i xs s).entered ++ (run_flow i ys (run xs s)).entered
entered-append i xs ys s =
    let seen : Slots → Entry → List Value = λ z x. in_step [] ◌++◌ (λ e y. (effect_flow i e y).entered) z x in
    let f = over-map no_flow flow_then [] ◌++◌ (λ (h : Flow). h.entered) refl (λ a b. refl) (effect_flow i) in
    let a : (run_flow i xs s).entered ≡ over [] ◌++◌ seen xs s = f xs s in
    let b : (run_flow i ys (run xs s)).entered ≡ over [] ◌++◌ seen ys (run xs s) = f ys (run xs s) in
    f (xs ++ ys) s ∙ (over-append [] ◌++◌ are_lists seen xs ys s ∙ rw (a, b) refl)

accepted-append : (i : StreamId) (xs ys : List Entry) (s : Slots) → accepted i (xs ++ ys) s ≡ accepted i xs s ++ accepted i ys (run xs s)
accepted-append i [] ys s = refl
accepted-append i (x ∷ xs) ys s =
    ap (λ vs. accepted_in_step i s x ++ vs) (accepted-append i xs ys (step s x)) ∙ sym (append_assoc (accepted_in_step i s x) (accepted i xs (step s x)) (accepted i ys (run xs (step s x))))

-- a source without a byte controller never has one

no-giver : (o : Owner) → giver_by false o ≡ OfByteSource → ⊥
no-giver Host e = cc
no-giver (HalfOf t) e = cc
no-giver (BranchOf t half) e = cc
no-giver (EndOf c) e = cc

default-stays : (i : StreamId) (entries : List Entry) (s : Slots) → has_source i s ≡ true → has_byte i s ≡ false → has_byte i (run entries s) ≡ false
default-stays i entries s there none = by (has_byte i (run entries s)) refl
  where
    by : (b : Bool) → b ≡ has_byte i (run entries s) → has_byte i (run entries s) ≡ false
    by false e = sym e
    by true e =
        let same = giver-stays i entries s there in
        let before : giver_at i s ≡ giver_by false (owner_at i s) = rw none refl in
        let after : giver_at i (run entries s) ≡ OfByteSource = rw (← e) refl in
        absurd (no-giver (owner_at i s) (sym before ∙ (sym same ∙ after)))

-- what was told before anything is a first part of it

short-front : (x : Told Value) (m : Mark) (y : Told Value) → m ≡ x.mark → IsShortOf x y → IsFront x.items y.items
short-front x Open y e h = let k : (y.items ≡ x.items) × (y.mark ≡ Open) = rw (← e) at h in ([], k.0 ∙ sym (append-nil x.items))
short-front x Closed y e h = let k : (y.items ≡ x.items) × (y.mark ≡ Closed) = rw (← e) at h in ([], k.0 ∙ sym (append-nil x.items))
short-front x Broken y e h = let k : (y.items ≡ x.items) × (y.mark ≡ Broken) = rw (← e) at h in ([], k.0 ∙ sym (append-nil x.items))
short-front x Lost y e h = let k : IsFront x.items y.items = rw (← e) at h in k

front-of : (vs : List Value) (m : Mark) (z y : Told Value) → IsShortOf (then_told (told vs m) z) y → IsPrefixOf vs y.items
front-of vs Open z y h = let f = short-front (told (vs ++ z.items) z.mark) z.mark y refl h in (z.items ++ f.0, sym (append_assoc vs z.items f.0) ∙ sym f.1)
front-of vs Closed z y h = ([], append-nil vs ∙ sym h.0)
front-of vs Broken z y h = ([], append-nil vs ∙ sym h.0)
front-of vs Lost z y h = (h.0, sym h.1)

module _ (xs entries : List Entry) (i : StreamId) (p : PipeId) (ms : List Middle) (k : StreamId) (u : IsUnused i p ms k xs) (l : all_leave_way i ms k entries ≡ true) (source : has_source i (run xs empty) ≡ true) (sink : has_writable k (run xs empty) ≡ true) where
  abbrev s : Slots
  s = run xs empty

  abbrev zs : List Entry
  zs = xs ++ entries

  abbrev acted : List Value
  acted = (run_writes k entries s).acted

  abbrev closes : ℕ
  closes = (run_writes k entries s).closes

  last : run zs empty ≡ run entries s
  last = run-more xs entries empty

  -- the destination

  sink-then : owner_at k (run zs empty) ≡ Host
  sink-then = ap (owner_at k) last ∙ (sink-stays k entries s sink ∙ u.sink)

  all-writes : run_writes k zs empty ≡ writes_then (run_writes k xs empty) (run_writes k entries s)
  all-writes = over-append no_writes writes_then is_history (step_writes k) xs entries empty

  none-acted : (run_writes k xs empty).acted ≡ []
  none-acted = acted_was_heard xs k u.sink ∙ u.written

  none-closed : (run_writes k xs empty).closes ≡ 0
  none-closed = closes_were_heard xs k u.sink ∙ u.closed

  heard : heard_writes k (run_events zs empty) ≡ acted
  heard = sym (acted_was_heard zs k sink-then) ∙ (ap (λ (h : Writes). h.acted) all-writes ∙ ap (λ vs. vs ++ acted) none-acted)

  plus : (n m : ℕ) → n ≡ 0 → n + m ≡ m
  plus n m e = omega (arith, e)

  heard-closes : heard_closes k (run_events zs empty) ≡ closes
  heard-closes = sym (closes_were_heard zs k sink-then) ∙ (ap (λ (h : Writes). h.closes) all-writes ∙ plus _ closes none-closed)

  acts : run_acts k entries s ≡ told acted (ending closes)
  acts =
      let e = each_act_is_told xs entries k in
      let n = plus _ closes none-closed in
      ap (λ (m : ℕ). then_told (told [] (ending m)) (run_acts k entries s)) (sym none-closed) ∙ (e ∙ ap (λ (m : ℕ). told acted (ending m)) n)

  -- the source

  source-then : owner_at i (run zs empty) ≡ Host
  source-then = ap (owner_at i) last ∙ (source-stays i entries s source ∙ u.source)

  hosted : (ys : List Entry) → owner_at i (run ys empty) ≡ Host → has_readable i (run ys empty) ≡ true → enqueued_by_host (run ys empty) (readable_at i (run ys empty)).owner ≡ true
  hosted ys own there = let o : (readable_at i (run ys empty)).owner ≡ Host = sym (source-owner i (run ys empty) there) ∙ own in rw o refl

  takes : has_source i (run zs empty) ≡ true → (run_takes i entries s).items ≡ accepted i zs empty
  takes there = by (has_byte i s) refl
    where
      by : (b : Bool) → b ≡ has_byte i s → (run_takes i entries s).items ≡ accepted i zs empty
      by false e =
          let then : has_byte i (run entries s) ≡ false = default-stays i entries s source (sym e) in
          let after : has_byte i (run zs empty) ≡ false = ap (has_byte i) last ∙ then in
          let first = hosted xs u.source (is_default (slice_get s.streams i.0) source (sym e)) in
          let second = hosted zs source-then (is_default (slice_get (run zs empty).streams i.0) there after) in
          let none : (run_flow i xs empty).entered ≡ [] = entered_was_accepted xs i (sym e) first ∙ u.accepted in
          each_take_is_told s entries i then ∙ (ap (λ vs. vs ++ (run_flow i entries s).entered) (sym none) ∙ (sym (entered-append i xs entries empty) ∙ entered_was_accepted zs i after second))
      by true e = each_take_of_bytes_is_told s entries i (sym e) ∙ (ap (λ vs. vs ++ accepted i entries s) (sym u.accepted) ∙ sym (accepted-append i xs entries empty))

  short : IsShortOf (then_told (told acted (ending closes)) (lies_along i p ms k zs)) (run_takes i entries s)
  short =
      let h = (each_way_passes xs entries i p ms k u.way l).short in
      let lies = u.lies in
      rw (acts, lies) at h

  whole : (m : ℕ) → m ≡ closes → 0 < m → IsShortOf (then_told (told acted (ending m)) (lies_along i p ms k zs)) (run_takes i entries s) → acted ≡ (run_takes i entries s).items
  whole zero e some h = absurd (omega (arith, some))
  whole (suc n) e some h = sym h.0

  pub is-heard : has_source i (run zs empty) ≡ true → IsHeard i k zs
  is-heard there =
      let t = takes there in
      record {
        front = rw heard (rw t at (front-of acted (ending closes) (lies_along i p ms k zs) (run_takes i entries s) short));
        whole = λ some. heard ∙ (whole closes refl (rw heard-closes at some) short ∙ t);
      }

pub way-source : (i : StreamId) (p : PipeId) (ms : List Middle) (k : StreamId) (s : Slots) → IsWay i p ms k s → has_source i s ≡ true
way-source i p [] k s w = w.source
way-source i p (m ∷ ms) k s w = w.0.source

pub way-sink : (i : StreamId) (p : PipeId) (ms : List Middle) (k : StreamId) (s : Slots) → IsWay i p ms k s → has_writable k s ≡ true
way-sink i p [] k s w = w.sink
way-sink i p (m ∷ ms) k s w = way-sink m.readable m.out ms k s w.1.1

pub each_way_is_heard : EachWayIsHeard
each_way_is_heard xs entries i p ms k u l =
    let s : Slots = run xs empty in
    let last = run-more xs entries empty in
    let after = (each_way_passes xs entries i p ms k u.way l).way in
    is-heard xs entries i p ms k u l (way-source i p ms k s u.way) (way-sink i p ms k s u.way) (rw last (way-source i p ms k (run entries s) after))
