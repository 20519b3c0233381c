-- Each step of a half of a transform stream (`each_half_step`).
use Rattle.std.proofs.Common.{◌≡◌, ℕ, zero, suc, Bool, true, false, List, [], ◌∷◌, ◌++◌, map, Some, slice_get, refl, sym, subst, ◌∙◌, arith, append-nil}
use Rattle.ws_value.specs.declared.ids.StreamId.{StreamId}
use Rattle.ws_value.specs.declared.value.Value.{Value}
use Rattle.ws_steps.specs.declared.effects.{Effect.{Effect}, Owner.TheVariants.{HalfOf}}
use Rattle.ws_steps.specs.declared.transform.TransformId.{TransformId}
use Rattle.ws_steps.specs.declared.writable.WritableState.{WritableState}
use Rattle.ws_steps.specs.Laws.{IsWritableStep}
use Rattle.ws_steps.specs.Run.{Entry, run, step}
use Rattle.ws_steps.specs.Slots.{Slots, Stream, empty, no_writable, owner_at, has_writable, writable_at}
use Rattle.ws_steps.specs.Writable as writable
use Rattle.ws_steps.specs.Writable.{has_ended, is_errored, is_closed}
use Rattle.ws_steps.specs.WritableHistory.{Writes, no_writes, writes_then, todo, effect_writes, step_writes, run_writes}
use Rattle.ws_laws.proofs.Begin.{begin-makes}
use Rattle.ws_laws.proofs.Lists.{append_cancel, append_none}
use Rattle.ws_laws.proofs.Shapes.{StreamShape, WritableOf, stream_shape, stream_shapes, owner-told, row-stream_shapes}
use Rattle.ws_laws.proofs.Tables.{no_writable_there}
use Rattle.ws_laws.proofs.Walker as walker
use Rattle.ws_laws.proofs.Walker.{Stays}
use Rattle.ws_writable_laws.proofs.EachStep.{entry_none, forgotten, forgotten-kept, step_lists}
use Rattle.ws_writable_laws.proofs.Runs.{is_history}
use Rattle.ws_transform_laws.specs.HalfLaws.{EachHalfStep}
use Rattle.ws_transform_laws.proofs.Halving.{writable-shape}
use Rattle.ws_transform_laws.proofs.Lawful.{Orderly, orderly, orderly-rests, run-orderly, behind, writable-told}
use Rattle.ws_transform_laws.proofs.Need.{Core, core}
use Rattle.ws_transform_laws.proofs.Ordering.{Ordered}

-- a stream that is there stays, and whose algorithms it performs

abbrev Shaped : StreamId → StreamShape → Slots → List Effect → Type 0
Shaped i y s es = slice_get (stream_shapes s) i.0 ≡ Some y

more : (xs : List Stream) (n : ℕ) (x : Stream) (y : StreamShape) → slice_get (map stream_shape xs) n ≡ Some y → slice_get (map stream_shape (xs ++ x ∷ [])) n ≡ Some y
more [] n x y e = cc
more (z ∷ zs) zero x y e = e
more (z ∷ zs) (suc n) x y e = more zs n x y e

shaped-stays : (i : StreamId) (y : StreamShape) → Stays (Shaped i y)
shaped-stays i y = record {
  row = λ s e es k. rw (row-stream_shapes e s) k;
  call = λ s c k. begin-makes (λ z. Shaped i y z []) (record {
    promise = λ z k. k;
    locks = λ z ls k. k;
    hosts = λ z hs k. k;
    pipe = λ z source dest prevent signal promise k. k;
    signal = λ z k. k;
    transform = λ z kind w r change k. k;
    tee = λ z source first second cancel k. k;
    port = λ z side stream backpressure k. k;
    bytes = λ z mark auto k. more z.streams i.0 _ y k;
    byob_requests = λ z hs k. k;
    readable = λ z o mark size k. more z.streams i.0 _ y k;
    writable = λ z o mark size k. more z.streams i.0 _ y k;
  }) c s k;
  job = λ s job e k. k;
  answered = λ s p k. k;
  older = λ s k. k;
}

step-shaped : (i : StreamId) (y : StreamShape) (x : Entry) (s : Slots) → Shaped i y s [] → Shaped i y (step s x) []
step-shaped i y x s k = walker.run-stays (Shaped i y) (shaped-stays i y) (λ z k. k) (x ∷ []) s k

pub record Remains (i : StreamId) (s z : Slots) : Type 0 where
  pub owner : owner_at i z ≡ owner_at i s
  pub there : has_writable i z ≡ true

pub step-remains : (i : StreamId) (x : Entry) (s : Slots) → has_writable i s ≡ true → Remains i s (step s x)
step-remains i x s there =
    let y : StreamShape = WritableOf (owner_at i s) in
    let after = step-shaped i y x s (writable-shape i s (owner_at i s) there refl) in
    record { owner = owner-told (step s x).streams i.0 ∙ rw after refl; there = writable-told (step s x).streams i.0 ∙ rw after refl }

-- a stream that has ended acts on nothing: its past may be forgotten, but for its closing

pub forgotten-ordered : (h : Writes) (d : List Value) (c : Core) → has_ended c.state ≡ true → Ordered h d c → Ordered (forgotten h) [] c
forgotten-ordered h d c e o = let q = o.ended e in record {
  all = rw q refl;
  live = λ f. refl;
  counted = λ f. grind (arith, e, f);
  first = o.first;
  last = o.last;
  ended = o.ended;
  whole = λ k. (refl, refl);
  closed = o.closed;
}

pub alive-there : (i : StreamId) (s : Slots) → has_ended (writable_at i s).state ≡ false → has_writable i s ≡ true
alive-there i s e = by (has_writable i s) refl
  where
    by : (b : Bool) → b ≡ has_writable i s → has_writable i s ≡ true
    by true f = sym f
    by false f =
        let none : writable_at i s ≡ no_writable = no_writable_there (slice_get s.streams i.0) (sym f) in
        let no : has_ended no_writable.state ≡ false = subst (λ (w : writable.Slots). has_ended w.state ≡ false) none e in cc

-- nothing was dropped of a stream that isn't errored
pub none-dropped : (h : Writes) (d : List Value) (c : Core) → is_errored c.state ≡ false → Ordered h d c → d ≡ []
none-dropped h d c f o =
    let closed : is_closed c.state ≡ true → d ≡ [] = λ e.
    let all : h.acted ++ [] ≡ h.acted ++ (todo c.queue ++ d) = append-nil h.acted ∙ ((o.whole (o.closed e)).0 ∙ o.all) in
    (append_none (todo c.queue) d (sym (append_cancel h.acted [] (todo c.queue ++ d) all))).1 in
    by c.state refl closed
  where
    by : (s : WritableState) → s ≡ c.state → (is_closed c.state ≡ true → d ≡ []) → d ≡ []
    by s e k = grind (arith, e, k, f, o.live)

module _ (i : StreamId) (t : TransformId) where
  step-orderly : (h : Writes) (s : Slots) (x : Entry) → Orderly i t h s [] → Orderly i t (writes_then h (step_writes i s x)) (step s x) []
  step-orderly h s x g = walker.step-goes_untold no_writes writes_then is_history (effect_writes i) (Orderly i t) (orderly i t) (orderly-rests i t) h s x g

  forgotten-orderly : (h : Writes) (s : Slots) → has_ended (writable_at i s).state ≡ true → Orderly i t h s [] → Orderly i t (forgotten h) s []
  forgotten-orderly h s e g = record {
    going = record { straight = g.going.straight; kept = forgotten-kept i h s e g.going.kept; staged = g.going.staged };
    ordered = λ owner there. let m = g.ordered owner there in ([], forgotten-ordered (behind i t h []) m.0 (core (writable_at i s)) e m.1);
    untold = λ none. (refl, (refl, refl));
  }

  acts-none : (h : Writes) (s : Slots) (x : Entry) → owner_at i (step s x) ≡ HalfOf t → has_ended (writable_at i s).state ≡ true → Orderly i t h s [] → (step_writes i s x).acted ≡ []
  acts-none h s x owner e g = by (has_writable i (step s x)) refl
    where
      after : Orderly i t (writes_then (forgotten h) (step_writes i s x)) (step s x) []
      after = step-orderly (forgotten h) s x (forgotten-orderly h s e g)

      by : (b : Bool) → b ≡ has_writable i (step s x) → (step_writes i s x).acted ≡ []
      by true f =
          let m = after.ordered owner (sym f) in
          let all : (step_writes i s x).acted ++ (todo (writable_at i (step s x)).queue ++ m.0) ≡ [] = sym m.1.all ∙ entry_none i s x e in
          (append_none (step_writes i s x).acted (todo (writable_at i (step s x)).queue ++ m.0) all).0
      by false f = (after.untold (sym f)).1.0

  half-step : (h : Writes) (s : Slots) (x : Entry) → owner_at i (step s x) ≡ HalfOf t → Orderly i t h s [] → (ended : Bool) → ended ≡ has_ended (writable_at i s).state
      → IsWritableStep (step_writes i s x) (writable_at i s) (writable_at i (step s x))
  half-step h s x owner g true e =
      let written = entry_none i s x (sym e) in
      let acted = acts-none h s x owner (sym e) g in
      record {
        alive = λ f k. absurd (cc);
        front = (todo (writable_at i s).queue ++ (step_writes i s x).written, rw acted refl);
        ended = λ f. (written, acted);
      }
  half-step h s x owner g false e =
      let there = alive-there i s (sym e) in
      let r = step-remains i x s there in
      let f : Writes = step_writes i s x in
      let now : writable.Slots = writable_at i (step s x) in
      let before = g.ordered (sym r.owner ∙ owner) there in
      let after = (step-orderly h s x g).ordered owner r.there in
      let lists = step_lists h.written h.acted (todo (writable_at i s).queue) before.0 f.written f.acted (todo now.queue) after.0 before.1.all (before.1.live (sym e)) after.1.all in
      record {
        alive = λ a l.
            let none : after.0 ≡ [] = none-dropped (behind i t (writes_then h f) []) after.0 (core now) l after.1 in
            rw (none, append-nil) at lists;
        front = (todo now.queue ++ after.0, sym lists);
        ended = λ a. absurd (cc);
      }

pub each_half_step : EachHalfStep
each_half_step entries x i t owner =
    let s : Slots = run entries empty in
    half-step i t (run_writes i entries empty) s x owner (run-orderly i t entries) (has_ended (writable_at i s).state) refl
