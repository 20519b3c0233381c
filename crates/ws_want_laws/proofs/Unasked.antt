-- A host that enqueues only as it answers (`none_waits_for_an_answer`, `none_waits_at_work`).
use Rattle.ws_steps.specs.Begun as replying
use Rattle.ws_steps.specs.ControllerCalls as controller_calls
use Rattle.ws_steps.specs.declared.effects.Owner.TheVariants.{EndOf}
use Rattle.ws_steps.specs.declared.calls.{Call.{Call}, Call.TheVariants.{Enqueue as EnqueueCall}}
use Rattle.ws_steps.specs.declared.effects.{Owner.{Owner}, Effect.TheVariants.{Readable as OnReadable, Transform as OnTransform}}
use Rattle.ws_steps.specs.declared.readable.ReadableOperation.TheVariants.{Enqueue}
use Rattle.ws_steps.specs.declared.transform.TransformOperation.TheVariants as names_of
use Rattle.std.proofs.Common.{◌≡◌, ⊎_elim, if◌then◌else◌, Bool, true, false, if◌then◌else◌, List, [], ◌∷◌, ◌++◌, Option, Some, slice_get, refl, sym, ap, ◌∙◌, inl, inr, ◌⊎◌}
use Rattle.ws_value.specs.declared.ids.StreamId.{StreamId}
use Rattle.ws_value.specs.declared.value.Value.{Value}
use Rattle.ws_steps.specs.declared.effects.Owner.TheVariants.{HalfOf, Host, BranchOf}
use Rattle.ws_steps.specs.declared.transform.TransformId.{TransformId}
use Rattle.ws_steps.specs.Histories.{in_step, over, is_same}
use Rattle.ws_steps.specs.ReadableHistory.{accepted_in_step, accepted_by}
use Rattle.ws_steps.specs.Run.{Entry, run, step, moments_in, Called, Worked, Heard}
use Rattle.ws_steps.specs.Slots.{Slots, empty, has_readable, readable_at}
use Rattle.ws_steps.specs.Transform as transform
use Rattle.ws_laws.proofs.Halves.{Halved, halved-empty, run-halved, run-among}
use Rattle.ws_laws.proofs.Lists.{append_none}
use Rattle.ws_laws.proofs.Shapes.{StreamShape, ReadableOf, BytesOf, TransformShape, stream_shape, stream_shapes, transform_shapes, transform_shape, map-there}
use Rattle.ws_laws.proofs.Walker as walker
use Rattle.ws_end_laws.specs.hosts.HostCalls.{step_called, run_called, called}
use Rattle.ws_transform_laws.proofs.Told.{along-map}
use Rattle.ws_want_laws.specs.Answers.{is_answering, step_unasked, unasked_since, unasked, is_cancel_of, has_open, is_at_work}
use Rattle.ws_want_laws.specs.Waits.{write_waits, step_meanwhile, run_meanwhile}
use Rattle.ws_want_laws.specs.WantLaws.{NoneWaitsAtWork, NoneWaitsForAnAnswer, EachAnswerIsWanted, EachAnswerIsRead}
use Rattle.ws_want_laws.proofs.Answered.{Past, no_past, past_then, are_past, past_of, IsOf, Answers, IsAnswers, goes, rests, none-answers, answering-none}
use Rattle.ws_want_laws.proofs.Starting.{run-shape}
use Rattle.ws_want_laws.proofs.Unpressed.{each_transform_is_wanted, each_transform_is_read}
use Rattle.ws_want_laws.proofs.Waitings.{none-waits}
use Rattle.ws_want_laws.proofs.Ended.{IsWhole, Cancels, IsCancels, cancels-goes, cancels-rests, none-cancels, cancelling-none}
use Rattle.ws_steps.specs.Readable.{can_close_or_enqueue}
use Rattle.ws_laws.proofs.Tables.{either, same_id}
use Rattle.ws_steps.specs.Begun.{Begun, unsupported}
use Rattle.ws_steps.specs.Calls.{begin}
use Rattle.ws_transform_laws.proofs.Waited.{all_waiting}
use Rattle.ws_steps.specs.declared.effects.Effect.TheVariants.{Byte}
use Rattle.ws_steps.specs.declared.byte.ByteOperation.TheVariants.{Enqueue as EnqueueBytes}
use Rattle.ws_steps.specs.Slots.{ByteStream, has_byte, byte_at}
use Rattle.ws_laws.proofs.Tables.{byte_there}
use Rattle.ws_steps.specs.Queues.{is_empty}
use Rattle.ws_steps.specs.Bytes as byte
use Rattle.ws_value.specs.declared.value.Value.TheVariants.{Plain as PlainValue, Bytes}
use Rattle.std.specs.Prelude.{not, ◌&&◌}

module _ (t : TransformId) (i r : StreamId) where
  -- what happens in a step, and the host calls of it
  abbrev happens : Slots → Entry → Past
  happens s x = in_step no_past past_then (past_of i) s x

  step-calls : (s : Slots) (x : Entry) → (happens s x).calls ≡ step_called s x
  step-calls s x = along-map no_past past_then [] ◌++◌ (λ (h : Past). h.calls) refl (λ a b. refl) (past_of i) (moments_in s x)

  run-calls : (xs : List Entry) (s : Slots) → (over no_past past_then happens xs s).calls ≡ run_called xs s
  run-calls [] s = refl
  run-calls (x ∷ xs) s = let a = step-calls s x in let b = run-calls xs (step s x) in rw (a, b) refl

  -- the halves, from the end of a run

  of-there : (z : Slots) (y : transform.Slots) → Halved z → slice_get z.transforms t.0 ≡ Some y → y.writable ≡ i → y.readable ≡ r → IsOf t i r z
  of-there z y halved is w q =
      let there : slice_get (transform_shapes z) t.0 ≡ Some (transform_shape y) = map-there transform_shape z.transforms t.0 y is in (
        λ x at. let both : ◌≡◌ {A = Option TransformShape} (Some (transform_shape y)) (Some x) = sym there ∙ at in let same : transform_shape y ≡ x = cc in ap (λ (k : TransformShape). k.writable) (sym same) ∙ w,
        (
          λ u x at half.
              let mine : slice_get (stream_shapes z) r.0 ≡ Some (ReadableOf (HalfOf t)) = rw q at (halved.halves t (transform_shape y) there).0 in
              let its : slice_get (stream_shapes z) r.0 ≡ Some (ReadableOf (HalfOf u)) = rw half at (halved.halves u x at).0 in
              let both : ◌≡◌ {A = Option StreamShape} (Some (ReadableOf (HalfOf u))) (Some (ReadableOf (HalfOf t))) = sym its ∙ mine in cc,
          λ x at.
              let mine : slice_get (stream_shapes z) r.0 ≡ Some (ReadableOf (HalfOf t)) = rw q at (halved.halves t (transform_shape y) there).0 in
              let both : ◌≡◌ {A = Option StreamShape} (Some x) (Some (ReadableOf (HalfOf t))) = sym at ∙ mine in cc,
        ),
      )

  whole-there : (z : Slots) (y : transform.Slots) → Halved z → slice_get z.transforms t.0 ≡ Some y → y.writable ≡ i → y.readable ≡ r → IsWhole t i r z
  whole-there z y halved is w q =
      let there : slice_get (transform_shapes z) t.0 ≡ Some (transform_shape y) = map-there transform_shape z.transforms t.0 y is in (
        of-there z y halved is w q,
        λ x at. let both : ◌≡◌ {A = Option TransformShape} (Some (transform_shape y)) (Some x) = sym there ∙ at in let same : transform_shape y ≡ x = cc in ap (λ (k : TransformShape). k.readable) (sym same) ∙ q,
      )

  of-run : (xs : List Entry) (s : Slots) → IsWhole t i r (run xs s) → IsWhole t i r s
  of-run xs s h = (
    (λ y at. h.0.0 y (run-among xs s t y at), (λ u y at. h.0.1.0 u y (run-among xs s u y at), λ y at. h.0.1.1 y (run-shape r.0 y xs s at))),
    λ y at. h.1 y (run-among xs s t y at),
  )

  -- nothing is accepted by a half that can take no chunk

  -- the readable half has a default controller
  whole-default : (s : Slots) → IsWhole t i r s → has_byte r s ≡ false
  whole-default s g = by (has_byte r s) refl
    where
      by : (b : Bool) → b ≡ has_byte r s → has_byte r s ≡ false
      by false e = sym e
      by true e =
          let at : slice_get (stream_shapes s) r.0 ≡ Some BytesOf = map-there stream_shape s.streams r.0 (ByteStream (byte_at r s)) (byte_there (slice_get s.streams r.0) (sym e)) in
          let wrong : BytesOf ≡ ReadableOf (HalfOf t) = g.0.1.1 BytesOf at in cc

  module _ (s : Slots) (shut : can_close_or_enqueue (readable_at r s) ≡ false) (default : has_byte r s ≡ false) where
    taken-none : (j : StreamId) (v : Value) → can_close_or_enqueue (readable_at j s) ≡ true → (if is_same r j then v ∷ [] else []) ≡ []
    taken-none j v can = by (is_same r j) refl
      where
        by : (b : Bool) → b ≡ is_same r j → (if b then v ∷ [] else []) ≡ []
        by false e = refl
        by true e = let is : r ≡ j = same_id r j (sym e) in let open_ : can_close_or_enqueue (readable_at r s) ≡ true = rw is can in absurd (cc)

    abbrev IsNone : StreamId → Value → Begun → Type 0
    IsNone j v b = accepted_by r (EnqueueCall j v) b.reply ≡ []

    owner-none : (j : StreamId) (v : Value) (owner : Owner) → IsNone j v (controller_calls.enqueue_by v j s owner)
    owner-none j v Host =
        either (IsNone j v) (can_close_or_enqueue (readable_at j s)) (replying.does (OnReadable j (Enqueue v) ∷ []) s) (replying.throws_type_error s) (λ can. taken-none j v can) (λ cannot. refl)
    owner-none j v (HalfOf u) =
        either (IsNone j v) (can_close_or_enqueue (readable_at j s)) (replying.does (OnTransform u (names_of.Enqueue v) ∷ []) s) (replying.throws_type_error s) (λ can. taken-none j v can) (λ cannot. refl)
    owner-none j v (BranchOf u half) = refl
    owner-none j v (EndOf c) = refl

    -- a byte stream is another
    apart : (j : StreamId) → has_byte j s ≡ true → is_same r j ≡ false
    apart j is = by (is_same r j) refl
      where
        by : (b : Bool) → b ≡ is_same r j → is_same r j ≡ false
        by false e = sym e
        by true e = let yes : has_byte r s ≡ true = rw (same_id r j (sym e)) is in absurd (cc)

    bytes-none : (j : StreamId) (v : Value) → is_same r j ≡ false → IsNone j v (controller_calls.enqueue_bytes j s v)
    bytes-none j (PlainValue v) n = refl
    bytes-none j (Bytes b) n =
        either (IsNone j (Bytes b)) (not (is_empty b) && byte.can_take (byte_at j s)) (replying.does (Byte j (EnqueueBytes b) ∷ []) s) (replying.throws_type_error s) (λ can. rw n refl) (λ cannot. refl)

    call-none : (c : Call) → accepted_by r c (begin c s).reply ≡ []
    unfolding begin
    call-none (EnqueueCall j v) =
        either (IsNone j v) (has_byte j s) (controller_calls.enqueue_bytes j s v) (replying.for_readable j (controller_calls.enqueue v j) s) (λ is. bytes-none j v (apart j is))
        (λ isnt. either (IsNone j v) (has_readable j s) (controller_calls.enqueue v j s) (unsupported s) (λ there. owner-none j v (readable_at j s).owner) (λ absent. refl))
    call-none c = refl

    accepted-none : (x : Entry) → accepted_in_step r s x ≡ []
    accepted-none (Called c) = call-none c
    accepted-none Worked = refl
    accepted-none Heard = refl

  -- what is enqueued else comes while no write waits

  step-none : (s : Slots) (x : Entry) (h : Past) → Cancels t i r h s [] → IsWhole t i r s → step_unasked r h.calls s x ≡ [] → step_meanwhile t r s x ≡ []
  step-none s x h k g e = by (is_answering r h.calls s) (has_open (is_cancel_of r) h.calls s.hosts) refl refl
    where
      none : accepted_in_step r s x ≡ [] → step_meanwhile t r s x ≡ []
      none n = either (λ (vs : List Value). vs ≡ []) (write_waits t s) (accepted_in_step r s x) [] (λ e. n) (λ e. refl)

      free : all_waiting t s ≡ 0 → step_meanwhile t r s x ≡ []
      free n = rw (none-waits t s n) refl

      by : (a b : Bool) → a ≡ is_answering r h.calls s → b ≡ has_open (is_cancel_of r) h.calls s.hosts → step_meanwhile t r s x ≡ []
      by true b f m = free (answering-none t i r h s k.answers (sym f))
      by false true f m = ⊎_elim free (λ shut. none (accepted-none s shut (whole-default s g) x)) (cancelling-none t i r h s k g (sym m))
      by false false f m = none (rw (← f, ← m) at e)

  meanwhile-none : (xs : List Entry) (h : Past) (s : Slots) → IsCancels t i r h s [] → IsWhole t i r (run xs s) → unasked_since r h.calls xs s ≡ []
      → run_meanwhile t r xs s ≡ []
  meanwhile-none [] h s k g e = refl
  meanwhile-none (x ∷ xs) h s k g e =
      let both = append_none (step_unasked r h.calls s x) (unasked_since r (h.calls ++ step_called s x) xs (step s x)) e in
      let later : unasked_since r (h.calls ++ (happens s x).calls) xs (step s x) ≡ [] = rw (step-calls s x) both.1 in
      let next = walker.step-goes_untold no_past past_then are_past (past_of i) (IsCancels t i r) (cancels-goes t i r) (cancels-rests t i r) h s x k in
      let now = step-none s x h (k (of-run (x ∷ xs) s g)) (of-run (x ∷ xs) s g) both.0 in
      let later_none = meanwhile-none xs (past_then h (happens s x)) (step s x) next g later in rw (now, later_none) refl

  -- over a run

  pub answers : (entries : List Entry) → IsOf t i r (run entries empty) → Answers t i r (over no_past past_then happens entries empty) (run entries empty) []
  answers entries g = walker.run-holds no_past past_then are_past (past_of i) (IsAnswers t i r) (goes t i r) (rests t i r) entries empty (λ h. none-answers t i r) g

  pub none-waiting : (entries : List Entry) → IsOf t i r (run entries empty) → is_answering r (called entries) (run entries empty) ≡ true
      → write_waits t (run entries empty) ≡ false
  none-waiting entries g e =
      let same = run-calls entries empty in
      none-waits t (run entries empty) (answering-none t i r (over no_past past_then happens entries empty) (run entries empty) (answers entries g) (rw same e))

  pub cancels : (entries : List Entry) → IsWhole t i r (run entries empty) → Cancels t i r (over no_past past_then happens entries empty) (run entries empty) []
  cancels entries g = walker.run-holds no_past past_then are_past (past_of i) (IsCancels t i r) (cancels-goes t i r) (cancels-rests t i r) entries empty (λ h. none-cancels t i r) g

  pub none-at-work : (entries : List Entry) → IsWhole t i r (run entries empty) → is_at_work r (called entries) (run entries empty) ≡ true
      → (write_waits t (run entries empty) ≡ false) ⊎ (can_close_or_enqueue (readable_at r (run entries empty)) ≡ false)
  none-at-work entries g e = by (is_answering r (called entries) (run entries empty)) (has_open (is_cancel_of r) (called entries) (run entries empty).hosts) refl refl
    where
      by : (a b : Bool) → a ≡ is_answering r (called entries) (run entries empty) → b ≡ has_open (is_cancel_of r) (called entries) (run entries empty).hosts
          → (write_waits t (run entries empty) ≡ false) ⊎ (can_close_or_enqueue (readable_at r (run entries empty)) ≡ false)
      by true b f m = inl (none-waiting entries g.0 (sym f))
      by false true f m =
          let same = run-calls entries empty in
          let open_ : has_open (is_cancel_of r) (over no_past past_then happens entries empty).calls (run entries empty).hosts ≡ true = rw same (sym m) in
          ⊎_elim (λ n. inl (none-waits t (run entries empty) n)) (λ shut. inr shut) (cancelling-none t i r (over no_past past_then happens entries empty) (run entries empty) (cancels entries g) g open_)
      by false false f m = absurd (let no : is_at_work r (called entries) (run entries empty) ≡ false = rw (← f, ← m) refl in cc)

  pub run-none : (entries : List Entry) → IsWhole t i r (run entries empty) → unasked r entries ≡ [] → run_meanwhile t r entries empty ≡ []
  run-none entries g e = meanwhile-none entries no_past empty (λ h. none-cancels t i r) g e

pub none_waits_for_an_answer : NoneWaitsForAnAnswer
none_waits_for_an_answer entries t y is e =
    none-waiting t y.writable y.readable entries (of-there t y.writable y.readable (run entries empty) y (run-halved entries empty halved-empty) is refl refl) e

pub none_waits_at_work : NoneWaitsAtWork
none_waits_at_work entries t y is e =
    none-at-work t y.writable y.readable entries (whole-there t y.writable y.readable (run entries empty) y (run-halved entries empty halved-empty) is refl refl) e

-- before a step after which the transform stream is there
whole-before : (entries : List Entry) (x : Entry) (t : TransformId) (y : transform.Slots)
    → slice_get (step (run entries empty) x).transforms t.0 ≡ Some y → IsWhole t y.writable y.readable (run entries empty)
whole-before entries x t y is =
    let s : Slots = run entries empty in
    of-run t y.writable y.readable (x ∷ []) s (whole-there t y.writable y.readable (step s x) y (run-halved (x ∷ []) s (run-halved entries empty halved-empty)) is refl refl)

pub each_answer_is_wanted : EachAnswerIsWanted
each_answer_is_wanted entries x t y is e old now =
    each_transform_is_wanted entries x t y is (run-none t y.writable y.readable entries (whole-before entries x t y is) e) old now

pub each_answer_is_read : EachAnswerIsRead
each_answer_is_read entries x t y is e old now =
    each_transform_is_read entries x t y is (run-none t y.writable y.readable entries (whole-before entries x t y is) e) old now
