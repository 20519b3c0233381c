-- What a pipeTo makes and answers (`each_pipe_call_makes_a_pipe`).
use Rattle.std.proofs.Common.{◌≡◌, ℕ, zero, suc, ◌+◌, Bool, true, false, ◌||◌, is_some, List, [], ◌∷◌, ◌++◌, length, Option, Some, None, Result, Err, slice_get, slice_set, refl, ap, ◌∙◌, arith}
use Rattle.std.specs.Option.{option_map}
use Rattle.ws_value.specs.declared.{ids.PipeId.{PipeId}, ids.PromiseId.{PromiseId}, ids.SignalId.{SignalId}, ids.StreamId.{StreamId}}
use Rattle.ws_value.specs.declared.value.{Outcome.TheVariants.{Rejected}, Plain.{Plain}}
use Rattle.ws_steps.specs.declared.calls.{Call.{Call}, Call.TheVariants.{Pipe as PipeCall}, Reply.{Reply}, Reply.TheVariants.{Promise as Named, Throws}, Thrown.TheVariants.{Unsupported}}
use Rattle.ws_steps.specs.declared.effects.{Effect.{Effect}, Effect.TheVariants.{Pipe as OnPipe, Settle}}
use Rattle.ws_steps.specs.declared.pipes.{Prevent.{Prevent}, PipeOperation.{PipeOperation}}
use Rattle.ws_steps.specs.Begun as replying
use Rattle.ws_steps.specs.PipeCalls as pipe_calls
use Rattle.ws_steps.specs.Begun.{Begun}
use Rattle.ws_steps.specs.Calls.{begin, named}
use Rattle.ws_steps.specs.Effects.{type_error}
use Rattle.ws_steps.specs.Operations.{pipe_operation}
use Rattle.ws_steps.specs.Pipes as pipe
use Rattle.ws_steps.specs.Promises as promises
use Rattle.ws_steps.specs.Promises.{Table, next_id, fresh, with_entry, ended, outcome_at, settle, watch}
use Rattle.ws_steps.specs.Run.{after_call, reply_to, older}
use Rattle.ws_steps.specs.Slots.{Slots, Done, causes, with_promises, has_source, has_writable, source_at, writable_at, on_pipe_at}
use Rattle.ws_steps.specs.Turns.{row, performed}
use Rattle.ws_steps.proofs.PromiseLaws.{settle-open, entry_at-fresh_new, entry_at-with_entry_same, length-fresh}
use Rattle.ws_room_laws.proofs.Turns.{performed_next, performed_none}
use Rattle.ws_laws.proofs.Outcomes.{keeps-watch}
use Rattle.ws_laws.proofs.Apart.{row-pipes}
use Rattle.ws_laws.proofs.Truth.{nor_left, nor_right}
use Rattle.ws_laws.proofs.Walker.{performed-goes, untold}
use Rattle.ws_pipe_laws.proofs.pipes.Kept.{each_pipe_stays}
use Rattle.ws_end_laws.specs.ends.PipeCalls.{has_signal_where, goes_on_by, reason_of, first_effects, MakesItsPipe, IsRejected, IsPipeCall, EachPipeCallMakesAPipe}

-- effects leave as many pipes

length-set : (ps : List pipe.Slots) (n : ℕ) (y : pipe.Slots) → length (slice_set ps n y) ≡ length ps
length-set [] n y = refl
length-set (x ∷ ps) zero y = refl
length-set (x ∷ ps) (suc n) y = let k = length-set ps n y in omega (arith, k)

length-append : (ps : List pipe.Slots) (y : pipe.Slots) → length (ps ++ y ∷ []) ≡ length ps + 1
length-append [] y = refl
length-append (x ∷ ps) y = let k = length-append ps y in omega (arith, k)

last-there : (ps : List pipe.Slots) (y : pipe.Slots) → slice_get (ps ++ y ∷ []) (length ps) ≡ Some y
last-there [] y = refl
last-there (x ∷ ps) y = last-there ps y

place-length : (p : PipeId) (operation : PipeOperation) (s : Slots) (o : Option pipe.Slots) → length (on_pipe_at (λ ends. pipe_operation p ends operation) p s o).slots.pipes ≡ length s.pipes
place-length p operation s None = refl
place-length p operation s (Some x) = length-set s.pipes p.0 _

row-length : (s : Slots) (e : Effect) → length (row e s).slots.pipes ≡ length s.pipes
unfolding row
row-length s (OnPipe p operation) = place-length p operation s (slice_get s.pipes p.0)
row-length s e = ap (λ (ps : List pipe.Slots). length ps) (row-pipes e s tt)

performed-length : (d : Done) → length (performed d).pipes ≡ length d.slots.pipes
performed-length d =
    performed-goes {H = Unit {0}} tt (λ f g. tt) untold (λ e s. tt) (λ h s es. length s.pipes ≡ length d.slots.pipes) (λ h s e es k. row-length s e ∙ k) tt d refl

named-pipes : (reply : Reply) (s : Slots) → (named reply s).pipes ≡ s.pipes
named-pipes (Named q) s = refl
named-pipes _ s = refl

-- the new promise is rejected

settle_row : (p : PromiseId) (o : Result Plain Plain) (s : Slots) → row (Settle p o) s ≡ causes [] (with_promises (settle p o s.promises) s)
unfolding row
settle_row p o s = refl

one_turn : (e : Effect) (s y : Slots) → row e s ≡ causes [] y → performed (causes (e ∷ []) s) ≡ y
one_turn e s y a = performed_next s e [] ∙ (ap (λ (d : Done). performed (causes (d.caused ++ []) d.slots)) a ∙ performed_none y)

new_rejected : (e : Plain) (t : Table) → outcome_at (settle (next_id t) (Err e) (fresh t)) (next_id t) ≡ Some (Rejected e)
new_rejected e t =
    let n = length-fresh t in
    ap (λ (z : Table). outcome_at z (next_id t)) (settle-open (next_id t) (Err e) (fresh t) [] (entry_at-fresh_new t (next_id t) refl))
    ∙ ap (λ (x : _). option_map (λ (e : promises.Entry). e.outcome) x) (entry_at-with_entry_same (fresh t) (next_id t) (Some (ended (Rejected e))) (omega arith))

-- where one is locked
module _ (c : Call) (s : Slots) (e : begin c s ≡ replying.rejected s) where
  abbrev d : PromiseId
  d = next_id s.promises

  abbrev y : Slots
  y = with_promises (settle d (Err type_error) (fresh s.promises)) s

  ends-so : performed (replying.rejected s).done ≡ y
  ends-so = one_turn (Settle d (Err type_error)) (with_promises (fresh s.promises) s) y (settle_row d (Err type_error) (with_promises (fresh s.promises) s))

  after-so : after_call c s ≡ older (with_promises (watch d y.promises) y)
  after-so = ap (λ (b : Begun). older (named b.reply (performed b.done))) e ∙ ap (λ (z : Slots). older (with_promises (watch d z.promises) z)) ends-so

  is-rejected : IsRejected c s
  is-rejected = record {
    reply = ap (λ (b : Begun). b.reply) e;
    outcome = ap (λ (z : Slots). outcome_at z.promises d) after-so ∙ (keeps-watch d y.promises).outcome d (Rejected type_error) refl (new_rejected type_error s.promises);
    none = ap (λ (z : Slots). z.pipes) after-so;
  }

module _ (from to : StreamId) (not_to : Prevent) (by : Option SignalId) (s : Slots) where
  abbrev call : Call
  call = PipeCall from to not_to by

  -- what the call begins with, by its checks

  signal_there : (o : Option SignalId) → has_signal_where o s ≡ true → pipe_calls.for_signal_where o (pipe_calls.pipe_unlocked from to not_to by) s ≡ pipe_calls.pipe_unlocked from to not_to by s
  signal_there None e = refl
  signal_there (Some a) e = rw e refl

  signal_none : (o : Option SignalId) → has_signal_where o s ≡ false → pipe_calls.for_signal_where o (pipe_calls.pipe_unlocked from to not_to by) s ≡ replying.unsupported s
  signal_none None e = cc
  signal_none (Some a) e = rw e refl

  begins : has_source from s ≡ true → has_writable to s ≡ true → has_signal_where by s ≡ true → begin call s ≡ pipe_calls.pipe_unlocked from to not_to by s
  unfolding begin
  begins r w g = rw (r, w) (signal_there by g)

  free_begins : is_some (source_at from s).reader ≡ false → is_some (writable_at to s).writer ≡ false → pipe_calls.pipe_unlocked from to not_to by s ≡ pipe_calls.pipe_to from to not_to by s
  free_begins r w = rw (r, w) refl

  locked_begins : (r w : Bool) → r ≡ is_some (source_at from s).reader → w ≡ is_some (writable_at to s).writer → r || w ≡ true → pipe_calls.pipe_unlocked from to not_to by s ≡ replying.rejected s
  locked_begins true w e f k = rw (← e) refl
  locked_begins false true e f k = rw (← e, ← f) refl
  locked_begins false false e f k = cc

  no_source : has_source from s ≡ false → begin call s ≡ replying.unsupported s
  unfolding begin
  no_source r = rw r refl

  no_dest : (r : Bool) → r ≡ has_source from s → has_writable to s ≡ false → begin call s ≡ replying.unsupported s
  unfolding begin
  no_dest true r w = rw (← r, w) refl
  no_dest false r w = rw (← r) refl

  no_signal : (r w : Bool) → r ≡ has_source from s → w ≡ has_writable to s → has_signal_where by s ≡ false → begin call s ≡ replying.unsupported s
  unfolding begin
  no_signal true true r w g = rw (← r, ← w) (signal_none by g)
  no_signal true false r w g = rw (← r, ← w) refl
  no_signal false w r f g = rw (← r) refl

  throws : begin call s ≡ replying.unsupported s → reply_to call s ≡ Throws Unsupported
  throws e = ap (λ (b : Begun). b.reply) e

  -- the new pipe

  abbrev new : pipe.Slots
  new = pipe.set_up from to not_to by (next_id (fresh (fresh (fresh s.promises))))

  goes-on-so : (me : PipeId) (a b : PromiseId) (o : Option SignalId) (r : Option Plain) → pipe_calls.pipe_begins me a b o r ≡ goes_on_by me a b o r
  goes-on-so me a b o (Some r) = refl
  goes-on-so me a b None None = refl
  goes-on-so me a b (Some g) None = refl

  reason-so : (o : Option SignalId) → pipe_calls.reason_of o s ≡ reason_of o s
  reason-so None = refl
  reason-so (Some a) = refl

  made-so : begin call s ≡ pipe_calls.pipe_to from to not_to by s → MakesItsPipe from to not_to by s
  made-so e =
      let me : PipeId = record { 0 = length s.pipes } in
      let t : Table = s.promises in
      let a = length-fresh t in
      let b = length-fresh (fresh t) in
      let c = length-fresh (fresh (fresh t)) in
      let made : (begin call s).done.slots.pipes ≡ s.pipes ++ new ∷ [] = ap (λ (b : Begun). b.done.slots.pipes) e in
      let at : slice_get (begin call s).done.slots.pipes (length s.pipes) ≡ Some new = ap (λ (ps : List pipe.Slots). slice_get ps (length s.pipes)) made ∙ last-there s.pipes new in
      record {
        pipe = new;
        new = record {
          source = refl;
          dest = refl;
          prevent = refl;
          signal = refl;
          promise = ap (λ (b : Begun). b.reply) e;
          phase = refl;
          reading = refl;
          held = refl;
          unsettled = refl;
          waits = refl;
        };
        untouched = record { action = refl; error = refl; parts = refl; whole = refl };
        fresh = omega (arith, a, b, c);
        made = made;
        effects = ap (λ (b : Begun). b.done.caused) e ∙ effects-so;
        there = (each_pipe_stays me s).in_call call new at;
        only =
            let n = performed-length (begin call s).done in
            let m = ap (λ (ps : List pipe.Slots). length ps) (named-pipes (begin call s).reply (performed (begin call s).done)) in
            let k = ap (λ (ps : List pipe.Slots). length ps) made in
            m ∙ (n ∙ (k ∙ length-append s.pipes new));
      }
    where
      effects-so : (pipe_calls.pipe_to from to not_to by s).done.caused ≡ first_effects from to by s
      effects-so =
          let me : PipeId = record { 0 = length s.pipes } in
          let a : PromiseId = next_id s.promises in
          let b : PromiseId = next_id (fresh (fresh s.promises)) in
          rw (reason-so by, goes-on-so me a b by (reason_of by s)) refl

  pub is-pipe_call : IsPipeCall from to not_to by s
  is-pipe_call = record {
    makes = λ r w g l. made-so (begins r w g ∙ free_begins (nor_left (is_some (source_at from s).reader) (is_some (writable_at to s).writer) l) (nor_right (is_some (source_at from s).reader) (is_some (writable_at to s).writer) l));
    locked = λ r w g l. is-rejected call s (begins r w g ∙ locked_begins (is_some (source_at from s).reader) (is_some (writable_at to s).writer) refl refl l);
    no_source = λ r. throws (no_source r);
    no_dest = λ w. throws (no_dest (has_source from s) refl w);
    no_signal = λ g. throws (no_signal (has_source from s) (has_writable to s) refl refl g);
  }

pub each_pipe_call_makes_a_pipe : EachPipeCallMakesAPipe
each_pipe_call_makes_a_pipe from to not_to by s = is-pipe_call from to not_to by s
