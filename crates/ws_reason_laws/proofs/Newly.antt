-- A new pipe that minds has a destination that is neither closing nor closed, and asks it for nothing.
use Rattle.std.proofs.Common.{◌≡◌, ℕ, Bool, true, false, ◌||◌, nat_eq, nat_lt, map, if◌then◌else◌, List, [], ◌∷◌, ◌++◌, length, Option, Some, None, slice_get, ⊎_elim, refl, sym, ap, subst, ◌∙◌, arith}
use Rattle.ws_value.specs.declared.ids.PipeId.{PipeId}
use Rattle.ws_value.specs.declared.ids.PromiseId.{PromiseId}
use Rattle.ws_value.specs.declared.ids.SignalId.{SignalId}
use Rattle.ws_value.specs.declared.ids.StreamId.{StreamId}
use Rattle.ws_value.specs.declared.value.Plain.{Plain}
use Rattle.ws_steps.specs.declared.calls.Call.{Call}
use Rattle.ws_steps.specs.declared.calls.Call.TheVariants.{Pipe, Send}
use Rattle.ws_steps.specs.declared.calls.Reply.TheVariants.{TooMany}
use Rattle.ws_steps.specs.declared.pipes.Prevent.{Prevent}
use Rattle.ws_steps.specs.declared.port.Side.TheVariants.{Readable as ReadableSide, Writable as WritableSide}
use Rattle.ws_steps.specs.Begun.{Begun}
use Rattle.ws_steps.specs.Calls.{begin}
use Rattle.ws_steps.specs.Begun as replying
use Rattle.ws_steps.specs.MakingCalls as making_calls
use Rattle.ws_steps.specs.PipeCalls as pipe_calls
use Rattle.ws_steps.specs.Effects.{type_error}
use Rattle.ws_steps.specs.Pipes as pipe
use Rattle.ws_steps.specs.Promises.{next_id, fresh}
use Rattle.ws_steps.specs.ReadableLooks as readable_looks
use Rattle.ws_steps.specs.Slots.{Slots, Stream, most_streams, has_source, has_writable, has_signal, readable_at, source_at, writable_at}
use Rattle.ws_steps.specs.Writable.{is_closed, is_closing}
use Rattle.ws_steps.specs.WritableLooks as writable_looks
use Rattle.ws_laws.proofs.Shapes.{stream_shape}
use Rattle.ws_laws.proofs.Tables.{either, eq_numbers}
use Rattle.ws_pipe_laws.specs.pipes.PipeMoves.{MakesPipes, MakesNone, MakesOne, SendsReadable, SendsWritable}
use Rattle.ws_pipe_laws.proofs.pipes.Courses.{appended}
use Rattle.ws_pipe_laws.proofs.pipes.Made.{each_pipe_begins_flowing}
use Rattle.ws_writable_laws.proofs.Shape.{all}
use Rattle.ws_reason_laws.specs.Origins.{is_half, to_half, by_pipe, through_of}
use Rattle.ws_reason_laws.proofs.Asking.{asks, goes}
use Rattle.ws_reason_laws.proofs.Closings.{Opened}
use Rattle.ws_reason_laws.proofs.Halved.{Halved, halved-source}
use Rattle.ws_reason_laws.proofs.Known.{Badness}
use Rattle.ws_reason_laws.proofs.Opening.{NewOpens}
use Rattle.ws_reason_laws.proofs.Weights.{bad_of, minds}

some_pipe : (v w : pipe.Slots) → ◌≡◌ {A = Option pipe.Slots} (Some v) (Some w) → v ≡ w
some_pipe v w e = cc

none_some : (y : pipe.Slots) → ◌≡◌ {A = Option pipe.Slots} None (Some y) → ⊥
none_some y e = cc

begins_asks : (j : StreamId) (me : PipeId) (x y : PromiseId) (signal : Option SignalId) (reason : Option Plain) → all (asks j) (pipe_calls.pipe_begins me x y signal reason) ≡ 0
begins_asks j me x y signal reason = grind arith

-- what is to be shown of what a call begins with
abbrev Opening : (StreamId → Prevent → Bool) → PipeId → Slots → Begun → Type 0
Opening mind p s b =
    (x : pipe.Slots) → slice_get s.pipes p.0 ≡ None → slice_get b.done.slots.pipes p.0 ≡ Some x → mind x.source x.prevent ≡ true → goes x.phase ≡ true
    → Opened x.dest (writable_at x.dest b.done.slots) × (all (asks x.dest) b.done.caused ≡ 0)

module _ (mind : StreamId → Prevent → Bool) (p : PipeId) (s : Slots) where
  -- where no pipe is made
  same-opens : (b : Begun) → b.done.slots.pipes ≡ s.pipes → Opening mind p s b
  same-opens b e x none there m g = absurd (none_some x (sym none ∙ (ap (λ (xs : List pipe.Slots). slice_get xs p.0) (sym e) ∙ there)))

  module _ (i j : StreamId) (prevent : Prevent) (signal : Option SignalId) where
    abbrev made : Begun
    made = pipe_calls.pipe_to i j prevent signal s

    -- where one is made, and its destination is neither closing nor closed if it minds
    pub made-opens : (mind i prevent ≡ true → Opened j (writable_at j s)) → Opening mind p s made
    made-opens ready x none there m g =
        let y : pipe.Slots = pipe.set_up i j prevent signal (next_id (fresh (fresh (fresh s.promises)))) in
        let is : x ≡ y =
        ⊎_elim (λ (e : slice_get (s.pipes ++ y ∷ []) p.0 ≡ slice_get s.pipes p.0). absurd (none_some x (sym none ∙ (sym e ∙ there))))
        (λ (e : (slice_get s.pipes p.0 ≡ None) × (slice_get (s.pipes ++ y ∷ []) p.0 ≡ Some y)). some_pipe x y (sym there ∙ e.1))
        (appended s.pipes y p.0) in
        let n : mind i prevent ≡ true = subst (λ (z : pipe.Slots). mind z.source z.prevent ≡ true) is m in
        let none = begins_asks j (record { 0 = length s.pipes }) (next_id s.promises) (next_id (fresh (fresh s.promises))) signal (pipe_calls.reason_of signal s) in
        subst (λ (z : pipe.Slots). Opened z.dest (writable_at z.dest made.done.slots) × (all (asks z.dest) made.done.caused ≡ 0)) (sym is) (ready n, asks_none none)
      where
        asks_none : all (asks j) (pipe_calls.pipe_begins (record { 0 = length s.pipes }) (next_id s.promises) (next_id (fresh (fresh s.promises))) signal (pipe_calls.reason_of signal s)) ≡ 0 → all (asks j) made.done.caused ≡ 0
        asks_none h = grind (arith, h)

    -- a pipe is made where both ends are there and unlocked
    pipe-opens : (has_source i s ≡ true → readable_looks.is_locked (source_at i s) ≡ false → writable_looks.is_locked (writable_at j s) ≡ false → mind i prevent ≡ true → Opened j (writable_at j s))
        → NewOpens mind p (Pipe i j prevent signal) s
    unfolding begin
    pipe-opens ready =
        either (Opening mind p s) (has_source i s) _ _
        (λ there. either (Opening mind p s) (has_writable j s) _ _ (λ e. signalled there signal refl) (λ e. same-opens (replying.unsupported s) refl))
        (λ e. same-opens (replying.unsupported s) refl)
      where
        both : has_source i s ≡ true → Opening mind p s (pipe_calls.pipe_unlocked i j prevent signal s)
        both there =
            either (Opening mind p s) (readable_looks.is_locked (source_at i s)) _ _ (λ e. same-opens (replying.rejected s) refl)
            (λ free. either (Opening mind p s) (writable_looks.is_locked (writable_at j s)) _ _ (λ e. same-opens (replying.rejected s) refl) (λ unlocked. made-opens (ready there free unlocked)))

        signalled : has_source i s ≡ true → (a : Option SignalId) → signal ≡ a → Opening mind p s (pipe_calls.for_signal_where a (pipe_calls.pipe_unlocked i j prevent signal) s)
        signalled there None e = both there
        signalled there (Some a) e = either (Opening mind p s) (has_signal a s) _ _ (λ e. both there) (λ e. same-opens (replying.unsupported s) refl)

module _ (bad : Badness) (me : PipeId) (s : Slots) (halved : Halved bad.half s) where
  abbrev mind : PipeId → StreamId → Prevent → Bool
  mind p = minds bad.of bad.half me p

  -- where what comes through transform streams isn't bad, another pipe minds only where its destination is neither closing nor closed
  minding-opened : (p : PipeId) (i j : StreamId) (prevent : Prevent) → nat_eq p.0 me.0 ≡ false → bad_of bad.of (by_pipe i j prevent s) ≡ 0
      → has_source i s ≡ true → readable_looks.is_locked (source_at i s) ≡ false → writable_looks.is_locked (writable_at j s) ≡ false → mind p i prevent ≡ true
      → Opened j (writable_at j s)
  minding-opened p i j prevent other h there free unlocked m =
      let e = halved-source bad.half s halved i there in
      by (is_closing (writable_at j s)) refl (is_closed (writable_at j s).state) refl
      (λ z.
      let g : bad_of bad.of (if is_half (readable_at i s).owner then type_error ∷ [] else []) ≡ 0 = given h z free unlocked (not_prevented m other) in
      ends m other (rw (← e) at g))
    where
      not_prevented : mind p i prevent ≡ true → nat_eq p.0 me.0 ≡ false → prevent.cancel ≡ false
      not_prevented m other = grind (arith, m, other)

      given : bad_of bad.of (by_pipe i j prevent s) ≡ 0 → (is_closing (writable_at j s) || is_closed (writable_at j s).state) ≡ true → readable_looks.is_locked (source_at i s) ≡ false
          → writable_looks.is_locked (writable_at j s) ≡ false → prevent.cancel ≡ false → bad_of bad.of (to_half i type_error s) ≡ 0
      given h z free unlocked c = rw (free, unlocked, c, z) at h

      ends : mind p i prevent ≡ true → nat_eq p.0 me.0 ≡ false → bad_of bad.of (if bad.half i.0 then type_error ∷ [] else []) ≡ 0 → ⊥
      ends m other g = grind (arith, m, other, g)

      by : (a : Bool) → is_closing (writable_at j s) ≡ a → (b : Bool) → is_closed (writable_at j s).state ≡ b → ((is_closing (writable_at j s) || is_closed (writable_at j s).state) ≡ true → ⊥) → Opened j (writable_at j s)
      by false e false f n = record { closing = e; closed = f }
      by true e b f n = absurd (n (rw e refl))
      by false e true f n = absurd (n (rw (e, f) refl))

  -- a pipe behind a port, where it is another, has a new destination, or a source that is no half of a transform stream

  module _ (p : PipeId) (other : nat_eq p.0 me.0 ≡ false) where
    abbrev Sent : Begun → Type 0
    Sent b = Halved bad.half b.done.slots → Opening (mind p) p s b

    abbrev j : StreamId
    j = record { 0 = length s.streams }

    stream-last : (xs : List Stream) (x : Stream) → slice_get (xs ++ x ∷ []) (length xs) ≡ Some x
    stream-last [] x = refl
    stream-last (y ∷ xs) x = stream-last xs x

    shape-last : (xs : List Stream) (x : Stream) → slice_get (map stream_shape (xs ++ x ∷ [])) (length xs) ≡ Some (stream_shape x)
    shape-last [] x = refl
    shape-last (y ∷ xs) x = shape-last xs x

    new-opened : Opened j (writable_at j (pipe_calls.add_port j s WritableSide))
    new-opened = rw (stream-last s.streams (pipe_calls.end_of (record { 0 = length s.ports }) WritableSide)) (record { closing = refl; closed = refl })

    minds-none : Halved bad.half (pipe_calls.add_port j s ReadableSide) → mind p j pipe_calls.no_prevent ≡ true → ⊥
    minds-none h m =
        let n : bad.half j.0 ≡ false = h j _ (shape-last s.streams (pipe_calls.end_of (record { 0 = length s.ports }) ReadableSide)) in
        grind (arith, m, n, other)

    sends-readable : (i : StreamId) → Sent (pipe_calls.send_readable i j s)
    sends-readable i h x none there m g =
        let o = made-opens (mind p) p (pipe_calls.add_port j s WritableSide) i j pipe_calls.no_prevent None (λ m. new-opened) x none there m g in (o.0, omega (arith, o.1))

    sends-writable : (i : StreamId) → Sent (pipe_calls.send_writable i j s)
    sends-writable i h x none there m g =
        let o = made-opens (mind p) p (pipe_calls.add_port j s ReadableSide) j i pipe_calls.no_prevent None (λ n. absurd (minds-none h n)) x none there m g in (o.0, omega (arith, o.1))

    made-sent : (make : StreamId → Slots → Begun) → Sent (make j s) → Sent (making_calls.make_stream make s)
    made-sent make k = either Sent (nat_lt (length s.streams) most_streams) (make j s) (replying.replies TooMany s) (λ e. k) (λ e h. same-opens (mind p) p s (replying.replies TooMany s) refl)

    sends : (i : StreamId) → Sent (pipe_calls.send i s)
    sends i =
        either Sent (has_source i s) _ _
        (λ there. either Sent (has_source i s) _ _
        (λ e. either Sent (readable_looks.is_locked (source_at i s)) _ _ (λ l h. same-opens (mind p) p s (replying.throws_data_clone s) refl) (λ free. made-sent (pipe_calls.send_readable i) (sends-readable i)))
        (λ e h. same-opens (mind p) p s (replying.unsupported s) refl))
        (λ none. either Sent (has_writable i s) _ _
        (λ e. either Sent (writable_looks.is_locked (writable_at i s)) _ _ (λ l h. same-opens (mind p) p s (replying.throws_data_clone s) refl) (λ free. made-sent (pipe_calls.send_writable i) (sends-writable i)))
        (λ e h. same-opens (mind p) p s (replying.unsupported s) refl))

    send-opens : (i : StreamId) → Halved bad.half (begin (Send i) s).done.slots → NewOpens (mind p) p (Send i) s
    unfolding begin
    send-opens i h = sends i h

  other-opens : (p : PipeId) (c : Call) → nat_eq p.0 me.0 ≡ false → Halved bad.half (begin c s).done.slots → bad_of bad.of (through_of c s) ≡ 0 → NewOpens (mind p) p c s
  other-opens p c other halves h = by (each_pipe_begins_flowing c s)
    where
      sent : (i : StreamId) → c ≡ Send i → NewOpens (mind p) p c s
      sent i e =
          let k : Halved bad.half (begin (Send i) s).done.slots = subst (λ (d : Call). Halved bad.half (begin d s).done.slots) e halves in
          subst (λ (d : Call). NewOpens (mind p) p d s) (sym e) (send-opens p other i k)

      by : MakesPipes c s (begin c s) → NewOpens (mind p) p c s
      by (MakesNone e) = same-opens (mind p) p s (begin c s) e
      by (MakesOne i j prevent signal y e f n) =
          let g : bad_of bad.of (through_of (Pipe i j prevent signal) s) ≡ 0 = subst (λ (d : Call). bad_of bad.of (through_of d s) ≡ 0) e h in
          subst (λ (d : Call). NewOpens (mind p) p d s) (sym e) (pipe-opens (mind p) p s i j prevent signal (minding-opened p i j prevent other g))
      by (SendsReadable i y e there f n) = sent i e
      by (SendsWritable i y e none there f n) = sent i e

  -- where it does so for the pipe that is looked at, it does for each
  pub each-opens : (c : Call) → Halved bad.half (begin c s).done.slots → bad_of bad.of (through_of c s) ≡ 0 → NewOpens (mind me) me c s → (p : PipeId) → NewOpens (mind p) p c s
  each-opens c halves h mine p = by (nat_eq p.0 me.0) refl
    where
      by : (b : Bool) → nat_eq p.0 me.0 ≡ b → NewOpens (mind p) p c s
      by false e = other-opens p c e halves h
      by true e =
          let is : me ≡ p = ap (λ (n : ℕ). record { 0 = n }) (sym (eq_numbers p.0 me.0 e)) in
          subst (λ (q : PipeId). NewOpens (mind q) q c s) is mine
