-- One identity transform stream, from its writable half to its readable half (`each_identity_passes`).
use Rattle.ws_laws.proofs.Ended.{run-ended}
use Rattle.std.proofs.Common.{◌≡◌, ◌⊎◌, inl, inr, ℕ, zero, suc, ◌+◌, ◌<◌, Bool, true, false, List, [], ◌∷◌, ◌++◌, Option, Some, None, slice_get, refl, sym, ap, subst, ◌∙◌, arith, append_assoc, append-nil}
use Rattle.ws_value.specs.declared.{ids.StreamId.{StreamId}, value.Value.{Value}}
use Rattle.ws_steps.specs.declared.calls.{Call.TheVariants.{Enqueue as EnqueueCall}, Reply.{Reply}, Reply.TheVariants.{Done as ReplyDone, Promise}}
use Rattle.ws_steps.specs.declared.promises.Job.{Job}
use Rattle.ws_steps.specs.declared.effects.Owner.TheVariants.{HalfOf}
use Rattle.ws_steps.specs.declared.transform.{Kind.TheVariants.{Identity}, TransformId.{TransformId}}
use Rattle.ws_steps.specs.Calls.{begin, named}
use Rattle.ws_steps.specs.Histories.{is_same}
use Rattle.ws_steps.specs.Jobs.{job_begun, begin_job}
use Rattle.ws_steps.specs.Promises.{next_job}
use Rattle.ws_steps.specs.Readable.{can_close_or_enqueue}
use Rattle.ws_steps.specs.ReadableHistory.{accepted_by, accepted_in_step}
use Rattle.ws_steps.specs.Run.{Entry, Called, Worked, Heard, begun_by, run, step}
use Rattle.ws_steps.specs.Slots.{Slots, Stream, Done, empty, as_readable}
use Rattle.ws_steps.specs.Transform as transform
use Rattle.ws_steps.specs.Turns.{performed}
use Rattle.ws_steps.specs.WritableHistory.{Writes, no_writes, writes_then, step_writes, run_writes}
use Rattle.ws_flow.specs.Told.{Mark, Open, Closed, Lost, Told, told, then_told, IsFront, IsShortOf}
use Rattle.ws_flow.proofs.Told.{short_refl, short_as}
use Rattle.ws_laws.proofs.Begin.{begin-makes}
use Rattle.ws_laws.proofs.Halves.{run-among, Halved, halved-empty, run-halved, step-shapes, step-among, get-stays}
use Rattle.ws_laws.proofs.Shapes.{ReadableOf, TransformShape, stream_shape, stream_shapes, transform_shapes, transform_shape, map-there}
use Rattle.ws_laws.proofs.Truth.{and_left, and_right, not_false}
use Rattle.ws_laws.proofs.Walker.{nothing-told}
use Rattle.ws_room_laws.proofs.Turns.{performed_none}
use Rattle.ws_writable_laws.proofs.Runs.{is_history}
use Rattle.ws_transform_laws.specs.TransformHistory.{step_closings, effect_closings, step_enqueued, step_transformed}
use Rattle.ws_transform_laws.proofs.Entered.{step-enters}
use Rattle.ws_transform_laws.proofs.Entering.{Reads, reads-default}
use Rattle.ws_transform_laws.proofs.Flushed.{flushes_close}
use Rattle.ws_transform_laws.proofs.Halving.{map-from}
use Rattle.ws_transform_laws.proofs.Shutting.{can}
use Rattle.ws_link_laws.specs.Link.{silence}
use Rattle.ws_identity_laws.specs.Passing.{ending, step_acts, run_acts, step_takes, run_takes}
use Rattle.ws_identity_laws.specs.Through.{IsIdentity, inside, lies_in, entry_spares, all_spare, EachIdentityPasses}
use Rattle.ws_identity_laws.proofs.Acting.{run-last, over-last, acts-told, acted-transformed}
use Rattle.ws_identity_laws.proofs.Closing.{call-closes}
use Rattle.ws_identity_laws.proofs.Flushing.{flush-closed}
use Rattle.ws_identity_laws.proofs.Keeps.{joined}
use Rattle.ws_identity_laws.proofs.Taking.{Took, performed-took, performed-shut}
use Rattle.ws_steps.specs.Slots.{has_byte, is_byte_stream}

-- what is told of these

open-all : (K : Told Value) (vs : List Value) (m : Mark) → K.mark ≡ Open → K.items ≡ vs → IsShortOf (then_told K (told [] m)) (told vs m)
open-all K vs m e f = rw (e, f, append-nil vs) (short_refl (told vs m))

open-front : (K : Told Value) (vs : List Value) (m : Mark) → K.mark ≡ Open → IsFront K.items vs → IsShortOf (then_told K (told [] Lost)) (told vs m)
open-front K vs m e (rest, f) = rw (e, append-nil K.items) (rest, f)

front-nil : (xs ys : List Value) → IsFront xs ys → ys ≡ [] → xs ≡ []
front-nil [] ys (rest, e) n = refl
front-nil (x ∷ xs) ys (rest, e) n = cc

told-closed : (K : Told Value) → K.items ≡ [] → K.mark ≡ Closed → K ≡ told [] Closed
told-closed K e f = rw (← e, ← f) refl

-- the streams over an entry

named-streams : (reply : Reply) (z : Slots) → (named reply z).streams ≡ z.streams
named-streams (Promise q) z = refl
named-streams _ z = refl

pub stepped : (entry : Entry) (s : Slots) → (step s entry).streams ≡ (performed (begun_by s entry)).streams
stepped (Called c) s = named-streams (begin c s).reply (performed (begin c s).done)
stepped Worked s = refl
stepped Heard s = ap (λ (z : Slots). z.streams) (sym (performed_none s))

pub begun-place : (n : ℕ) (y : Stream) (entry : Entry) (s : Slots) → slice_get s.streams n ≡ Some y → slice_get (begun_by s entry).slots.streams n ≡ Some y
unfolding begin_job
begun-place n y (Called c) s e = begin-makes (λ z. slice_get z.streams n ≡ Some y) (record {
  promise = λ z k. k;
  locks = λ z ls k. k;
  hosts = λ z hs k. k;
  pipe = λ z source dest prevent signal promise k. k;
  signal = λ z k. k;
  transform = λ z kind v r change k. k;
  tee = λ z source first second cancel k. k;
  port = λ z side stream backpressure k. k;
  bytes = λ z mark auto k. get-stays z.streams _ n y k;
  byob_requests = λ z hs k. k;
  readable = λ z o mark size k. get-stays z.streams _ n y k;
  writable = λ z o mark size k. get-stays z.streams _ n y k;
}) c s e
begun-place n y Worked s e = by (next_job s.promises)
  where
    by : (job : Option Job) → slice_get (job_begun s job).slots.streams n ≡ Some y
    by None = e
    by (Some job) = e
begun-place n y Heard s e = e

-- a call that spares a stream enqueues nothing there
accepted-none : (r : StreamId) (entry : Entry) (s : Slots) → entry_spares r entry ≡ true → accepted_in_step r s entry ≡ []
accepted-none r (Called (EnqueueCall k v)) s l = by _
  where
    by : (reply : Reply) → accepted_by r (EnqueueCall k v) reply ≡ []
    by ReplyDone = let n = not_false (is_same r k) l in rw n refl
    by _ = refl
accepted-none r (Called c) s l = refl
accepted-none r Worked s l = refl
accepted-none r Heard s l = refl

-- transform stream t is the identity x
module _ (t : TransformId) (x : transform.Slots) (identity : x.kind ≡ Identity) where
  abbrev r : StreamId
  r = x.readable

  abbrev w : StreamId
  w = x.writable

  abbrev pub There : Slots → Type 0
  There s = slice_get (transform_shapes s) t.0 ≡ Some (transform_shape x)

  pub there-step : (entry : Entry) (s : Slots) → There s → There (step s entry)
  there-step entry s at = step-among entry s t (transform_shape x) at

  pub there-begun : (entry : Entry) (s : Slots) → There s → There (begun_by s entry).slots
  there-begun entry s at = ap (λ (vs : List TransformShape). slice_get vs t.0) (sym (step-shapes entry s)) ∙ there-step entry s at

  -- a call begins with the half as it is
  pub shut-begun : (entry : Entry) (s : Slots) → Halved s → There s → can r s ≡ false → can r (begun_by s entry).slots ≡ false
  shut-begun entry s halved at e = by (slice_get s.streams r.0) refl e
    where
      half : slice_get (stream_shapes s) r.0 ≡ Some (ReadableOf (HalfOf t))
      half = (halved.halves t (transform_shape x) at).0

      by : (o : Option Stream) → o ≡ slice_get s.streams r.0 → can_close_or_enqueue (as_readable o) ≡ false → can r (begun_by s entry).slots ≡ false
      by (Some y) f g = let p = begun-place r.0 y entry s (sym f) in rw p g
      by None f g = let y = map-from stream_shape s.streams r.0 _ half in let z = y.1.0 in cc

  -- and it has a default controller
  pub default-begun : (entry : Entry) (s : Slots) → Halved s → There s → has_byte r (begun_by s entry).slots ≡ false
  default-begun entry s halved at = by (slice_get s.streams r.0) refl
    where
      half : slice_get (stream_shapes s) r.0 ≡ Some (ReadableOf (HalfOf t))
      half = (halved.halves t (transform_shape x) at).0

      default : has_byte r s ≡ false
      default = reads-default t r s halved (transform_shape x, (at, refl))

      by : (o : Option Stream) → o ≡ slice_get s.streams r.0 → has_byte r (begun_by s entry).slots ≡ false
      by (Some y) f = let p = begun-place r.0 y entry s (sym f) in ap is_byte_stream p ∙ (ap is_byte_stream f ∙ default)
      by None f = let y = map-from stream_shape s.streams r.0 _ half in let z = y.1.0 in cc

  -- what happens in one entry
  module _ (xs : List Entry) (entry : Entry) (at : There (run xs empty)) (spare : entry_spares r entry ≡ true) where
    abbrev s : Slots
    s = run xs empty

    abbrev d : Done
    d = begun_by s entry

    abbrev K : Told Value
    K = step_takes r s entry

    abbrev c : ℕ
    c = (run_writes w xs empty).closes

    abbrev n : ℕ
    n = (step_writes w s entry).closes

    halved : Halved s
    halved = run-halved xs empty halved-empty

    reads : Reads t r (step s entry)
    reads = (transform_shape x, (there-step entry s at, refl))

    took : Took t r d
    took = performed-took t r d (transform_shape x, (there-begun entry s at, (refl, identity))) (default-begun entry s halved at)

    after-can : can r (step s entry) ≡ can r (performed d)
    after-can = ap (λ (ys : List Stream). can_close_or_enqueue (as_readable (slice_get ys r.0))) (stepped entry s)

    entered : K.items ≡ step_enqueued t s entry
    entered =
        let e = step-enters t r entry s halved (run-ended xs) reads in
        let a = accepted-none r entry s spare in
        took.items ∙ (e ∙ ap (λ vs. vs ++ step_enqueued t s entry) a)

    acted : (step_writes w s entry).acted ≡ step_transformed t s entry
    acted = acted-transformed t w xs entry (transform_shape x, (at, refl))

    closes-after : (run_writes w (xs ++ entry ∷ []) empty).closes ≡ c + n
    closes-after = ap (λ (h : Writes). h.closes) (over-last no_writes writes_then is_history (step_writes w) xs entry empty)

    -- what is in the transform stream then
    lies-after : lies_in w r (xs ++ entry ∷ []) ≡ inside (can r (step s entry)) (c + n)
    lies-after = let last = run-last xs entry empty in rw (last, closes-after) refl

    -- it closes only where the half was closed
    closing : (entry : Entry) → entry_spares r entry ≡ true → 0 < step_closings r s entry → c ≡ 0 → ⊥
    closing (Called call) l some none = let z = call-closes t r s call halved (run-ended xs) (transform_shape x, (at, refl)) (transform_shape x, (there-begun (Called call) s at, refl)) l in absurd (omega (arith, some, z))
    closing Worked l some none =
        let y = map-from transform_shape s.transforms t.0 (transform_shape x) at in
        let half : y.0.readable ≡ r = ap (λ (z : TransformShape). z.readable) y.1.1 in
        let flushed = flushes_close xs t y.0 y.1.0 (rw half some) in
        flush-closed t w xs (λ z f. let same : z ≡ transform_shape x = cc in ap (λ (v : TransformShape). v.writable) same) flushed none
    closing Heard l some none = let z = nothing-told 0 ◌+◌ (record { left = λ m. omega arith; right = λ m. omega arith; assoc = λ f g h. omega arith }) (effect_closings r) s in absurd (omega (arith, some, z))

    abbrev Goal : Bool → Type 0
    Goal b = IsShortOf (then_told K (inside (can r (step s entry)) (c + n))) (then_told (inside b c) (step_acts w s entry))

    -- it can take nothing
    shut-passes : can r s ≡ false → Goal false
    shut-passes e =
        let k = performed-shut t r d (default-begun entry s halved at) (shut-begun entry s halved at e) in
        let none = k.0 in
        let after : can r (step s entry) ≡ false = after-can ∙ k.1 in
        rw (none, after) (short_refl (told [] Lost))

    -- it could take something
    open-passes : Goal true
    open-passes = by took.fine (can r (step s entry)) refl
      where
        right : then_told (told [] (ending c)) (step_acts w s entry) ≡ told (step_writes w s entry).acted (ending (c + n))
        right = acts-told w xs entry

        closed-right : (m : ℕ) → m ≡ c → (c ≡ 0 → ⊥) → then_told (told [] (ending m)) (step_acts w s entry) ≡ told [] Closed
        closed-right zero e f = absurd (f (sym e))
        closed-right (suc m) e f = refl

        by : (K.mark ≡ Open) ⊎ ((K.mark ≡ Closed) × ((can r (performed d) ≡ false) × (0 < step_closings r s entry))) → (after : Bool) → after ≡ can r (step s entry) → Goal true
        by (inl o) true e =
            let all = took.all (sym after-can ∙ sym e) in
            rw (← e) (short_as _ _ _ (sym right) (open-all K (step_writes w s entry).acted (ending (c + n)) o (entered ∙ (all ∙ sym acted))))
        by (inl o) false e =
            let front : IsFront K.items (step_writes w s entry).acted = rw (entered, acted) took.front in
            rw (← e) (short_as _ _ _ (sym right) (open-front K (step_writes w s entry).acted (ending (c + n)) o front))
        by (inr o) after e =
            let closed = closed-right c refl (closing entry spare o.1.1) in
            let none : (step_writes w s entry).acted ≡ [] = ap (λ (z : Told Value). z.items) (sym right ∙ closed) in
            let front : IsFront K.items (step_writes w s entry).acted = rw (entered, acted) took.front in
            let is : K ≡ told [] Closed = told-closed K (front-nil K.items (step_writes w s entry).acted front none) o.0 in
            rw (is, closed) (short_refl (told [] Closed))

    pub entry-passes : IsShortOf (then_told K (lies_in w r (xs ++ entry ∷ []))) (then_told (lies_in w r xs) (step_acts w s entry))
    entry-passes = rw lies-after (by (can r s) refl)
      where
        by : (b : Bool) → b ≡ can r s → IsShortOf (then_told K (inside (can r (step s entry)) (c + n))) (then_told (inside (can r s) c) (step_acts w s entry))
        by true e = rw (← e) open-passes
        by false e = rw (← e) (shut-passes (sym e))

  -- and in a run
  run-passes : (entries xs : List Entry) → There (run xs empty) → all_spare r entries ≡ true
      → IsShortOf (then_told (run_takes r entries (run xs empty)) (lies_in w r (xs ++ entries))) (then_told (lies_in w r xs) (run_acts w entries (run xs empty)))
  run-passes [] xs at l = rw (append-nil xs) (nothing-more (lies_in w r xs))
    where
      nothing-more : (L : Told Value) → IsShortOf (then_told silence L) (then_told L silence)
      nothing-more L = grind (arith, append-nil, short_refl)
  run-passes (e ∷ es) xs at l =
      let s : Slots = run xs empty in
      let last : run (xs ++ e ∷ []) empty ≡ step s e = run-last xs e empty in
      let one = entry-passes xs e at (and_left (entry_spares r e) (all_spare r es) l) in
      let rest = run-passes es (xs ++ e ∷ []) (rw last (there-step e s at)) (and_right (entry_spares r e) (all_spare r es) l) in
      let list : (xs ++ e ∷ []) ++ es ≡ xs ++ e ∷ es = append_assoc xs (e ∷ []) es in
      let rest2 = subst (λ (z : Slots). IsShortOf (then_told (run_takes r es z) (lies_in w r (xs ++ e ∷ es))) (then_told (lies_in w r (xs ++ e ∷ [])) (run_acts w es z))) last
      (subst (λ (ys : List Entry). IsShortOf (then_told (run_takes r es (run (xs ++ e ∷ []) empty)) (lies_in w r ys)) (then_told (lies_in w r (xs ++ e ∷ [])) (run_acts w es (run (xs ++ e ∷ []) empty)))) list rest) in
      joined (step_takes r s e) (run_takes r es (step s e)) (lies_in w r (xs ++ e ∷ es)) (lies_in w r xs) (lies_in w r (xs ++ e ∷ [])) (step_acts w s e) (run_acts w es (step s e)) one rest2

-- it stays so
pub identity-stays : (t : TransformId) (w r : StreamId) (entries : List Entry) (s : Slots) → IsIdentity t w r s → IsIdentity t w r (run entries s)
identity-stays t w r entries s is =
    let at : slice_get (transform_shapes (run entries s)) t.0 ≡ Some (transform_shape is.stream) = run-among entries s t (transform_shape is.stream) (map-there transform_shape s.transforms t.0 is.stream is.there) in
    let y = map-from transform_shape (run entries s).transforms t.0 (transform_shape is.stream) at in
    record {
      stream = y.0;
      there = y.1.0;
      kind = ap (λ (z : TransformShape). z.kind) y.1.1 ∙ is.kind;
      writable = ap (λ (z : TransformShape). z.writable) y.1.1 ∙ is.writable;
      readable = ap (λ (z : TransformShape). z.readable) y.1.1 ∙ is.readable;
    }

pub each_identity_passes : EachIdentityPasses
each_identity_passes xs entries t w r is l =
    let s : Slots = run xs empty in
    let x : transform.Slots = is.stream in
    let at : slice_get (transform_shapes s) t.0 ≡ Some (transform_shape x) = map-there transform_shape s.transforms t.0 x is.there in
    record {
      identity = identity-stays t w r entries s is;
      short = by is.writable is.readable (run-passes t x is.kind entries xs at (rw is.readable l));
    }
  where
    by : {v q : StreamId} → v ≡ w → q ≡ r → IsShortOf (then_told (run_takes q entries (run xs empty)) (lies_in v q (xs ++ entries))) (then_told (lies_in v q xs) (run_acts v entries (run xs empty)))
        → IsShortOf (then_told (run_takes r entries (run xs empty)) (lies_in w r (xs ++ entries))) (then_told (lies_in w r xs) (run_acts w entries (run xs empty)))
    by {v} {q} e f h =
        subst (λ (a : StreamId). IsShortOf (then_told (run_takes r entries (run xs empty)) (lies_in a r (xs ++ entries))) (then_told (lies_in a r xs) (run_acts a entries (run xs empty)))) e
        (subst (λ (a : StreamId). IsShortOf (then_told (run_takes a entries (run xs empty)) (lies_in v a (xs ++ entries))) (then_told (lies_in v a xs) (run_acts v entries (run xs empty)))) f h)
