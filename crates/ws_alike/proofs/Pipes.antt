-- An operation of a pipe doesn't look at a promise that isn't named, and names it nowhere.
use Rattle.std.proofs.Common.{◌≡◌, ◌∙◌, ◌+◌, ◌-◌, Bool, true, false, not, ◌&&◌, ◌||◌, nat_eq, if◌then◌else◌, List, [], ◌∷◌, ◌++◌, length, Option, Some, None, Result, Ok, Err, refl, sym, ap, arith}
use Rattle.std.specs.Prelude.{is_none}
use Rattle.ws_value.specs.declared.ids.PipeId.{PipeId}
use Rattle.ws_value.specs.declared.ids.PromiseId.{PromiseId}
use Rattle.ws_value.specs.declared.ids.SignalId.{SignalId}
use Rattle.ws_value.specs.declared.value.Plain.{Plain}
use Rattle.ws_value.specs.declared.value.Plain.TheVariants.{Undefined}
use Rattle.ws_value.specs.declared.value.Value.{Value}
use Rattle.ws_steps.specs.declared.effects.Effect.{Effect}
use Rattle.ws_steps.specs.declared.readable.ReadableState.{ReadableState}
use Rattle.ws_steps.specs.declared.writable.WritableState.{WritableState}
use Rattle.ws_steps.specs.Effects.{settling, type_error}
use Rattle.ws_steps.specs.Promises.{Entry, with_entry, next_id}
use Rattle.ws_alike.proofs.Tables.{next-blind}
use Rattle.ws_alike.proofs.Records.{Lawful, made, quiet, after-quiet, causes, freshly, settles, queues}
use Rattle.ws_alike.proofs.Steps.{Fits, then-blind, stays, by-test, next-apart, named-none}
use Rattle.ws_steps.specs.declared.pipes.Action.{Action}
use Rattle.ws_steps.specs.declared.pipes.Action.TheVariants.{AbortDest, CancelSource, CloseDest, BySignal}
use Rattle.ws_steps.specs.declared.pipes.Ends.{Ends}
use Rattle.ws_steps.specs.declared.pipes.Phase.{Phase}
use Rattle.ws_steps.specs.declared.pipes.Phase.TheVariants.{Flowing, Waiting, Acting, Over}
use Rattle.ws_steps.specs.declared.pipes.Prevent.{Prevent}
use Rattle.ws_steps.specs.declared.pipes.PipeOperation.{PipeOperation}
use Rattle.ws_steps.specs.declared.pipes.PipeOperation.TheVariants.{Look, LookReady, KeepChunk, ReadEnded, WriteChunk, GoOn, WriteEnded, Abort as AbortPipe, ActionSettled, PartSettled, NoParts}
use Rattle.ws_steps.specs.declared.promises.Step.TheVariants.{PipeActed, PipeReady, PipeWrote}
use Rattle.ws_steps.specs.declared.promises.Micro.TheVariants.{PipeLook, PipeWrite}
use Rattle.ws_steps.specs.declared.effects.Effect.TheVariants.{Readable as OnReadable, Writable as OnWritable, Pipe as OnPipe, Settle}
use Rattle.ws_steps.specs.declared.readable.ReadRequest.TheVariants.{Pipe as PipeRequest}
use Rattle.ws_steps.specs.declared.readable.ReadableOperation.TheVariants.{Read, Cancel, CancelIfReadable, ReleaseReader}
use Rattle.ws_steps.specs.declared.readable.ReadableState.TheVariants.{Readable, Closed, Errored}
use Rattle.ws_steps.specs.declared.writable.WritableOperation.TheVariants.{Write, ClosePropagating, Abort, AbortIfWritable, ReleaseWriter}
use Rattle.ws_steps.specs.declared.writable.WritableState.TheVariants.{Writable as StateWritable, Erroring, Errored as WritableErrored, Closed as WritableClosed}
use Rattle.ws_steps.specs.Operations.{pipe_operation}
use Rattle.ws_steps.specs.Pipes.{Acts, Slots, causing, with_slots, queueing, with_fresh, reacts, ending, forgetting, finalize, act_with, abort_dest, abort_part, cancel_part, part, parts_of, reacts_to_all, waiting_for, wait_for_all, act_by_signal, act_by, act, proceed, is_flowing, shut_down, shutdown, unless, wait_for_ready, read_or_wait, look_by, look, look_ready, go_on_in, go_on, keep_chunk, read_ended, write, write_in, write_held, write_chunk, write_ended, action_settled, settle_whole, after_part, part_settled, no_parts, abort}
use Rattle.ws_steps.specs.Writable.{is_writable, is_closed}
use Rattle.ws_alike.specs.Named.{one, in_option, in_list, in_effects, in_effect}
use Rattle.ws_alike.specs.Blind.{LeavesAlone, EachPipeOperationIsBlind, in_ends, pipes, view_of}
use Rattle.ws_alike.proofs.Lists.{all-append}

law : Lawful Acts Slots pipes
law = record { put_slots = λ s out. refl; put_out = λ s out. refl }

-- what of one operation is to be shown
abbrev Blind : PromiseId → (Acts → Acts) → Acts → Type 0
Blind p f a = LeavesAlone Acts (view_of pipes) p f a

abbrev Fit : PromiseId → Acts → Type 0
Fit p a = Fits Acts (view_of pipes) p a

-- the end

forgetting-none : (p : PromiseId) (me : PipeId) (s : Option SignalId) → in_effects p (forgetting me s) ≡ 0
forgetting-none p me None = refl
forgetting-none p me (Some x) = refl

finalize-blind : (p : PromiseId) (me : PipeId) (e : Option Plain) (a : Acts) → Fit p a → Blind p (finalize me e) a
unfolding finalize
finalize-blind p me e a fits =
    let h : Slots → Slots = λ s. record s { phase = Over } in
    let last : List Effect = Settle a.slots.promise (ending e) ∷ [] in
    let app = all-append (in_effect p) (forgetting me a.slots.signal) last in
    let none = forgetting-none p me a.slots.signal in
    let k = then-blind p (λ b. record b { slots = h b.slots }) (causing (OnWritable a.slots.dest ReleaseWriter ∷ OnReadable a.slots.source ReleaseReader ∷ (forgetting me a.slots.signal ++ last))) a
    (quiet law p h a fits (omega arith)) (λ f. causes law p _ (record a { slots = h a.slots }) f (omega (arith, app, none, fits.none))) fits in
    record { blind = k.blind; unnamed = k.unnamed; more = k.more }

-- the action

act_with-blind : (p : PromiseId) (me : PipeId) (effect : PromiseId → Effect) (a : Acts) → ((q : PromiseId) → one p q ≡ 0 → in_effects p (effect q ∷ []) ≡ 0) → Fit p a → Blind p (act_with me effect) a
act_with-blind p me effect a none fits =
    freshly law p (λ q. causing (effect q ∷ reacts q (PipeActed me) ∷ [])) a fits (λ q n f. causes law p (effect q ∷ reacts q (PipeActed me) ∷ []) (made pipes a) f (omega (arith, none q n, n)))

abort_dest-blind : (p : PromiseId) (me : PipeId) (r : Plain) (a : Acts) (o : Option PromiseId) → in_option p o ≡ 0 → Fit p a → Blind p (λ b. abort_dest me r b o) a
abort_dest-blind p me r a (Some q) n fits =
    causes law p (reacts q (PipeActed me) ∷ []) a fits (omega (arith, n))
abort_dest-blind p me r a None n fits =
    let k = act_with-blind p me (λ q. OnWritable a.slots.dest (Abort r q)) a (λ q m. omega (arith, m)) fits in
    record { blind = k.blind; unnamed = k.unnamed; more = k.more }

abort_part-blind : (p : PromiseId) (r : Plain) (b : Bool) (a : Acts) → Fit p a → Blind p (abort_part r b) a
abort_part-blind p r true a fits = stays p a fits
abort_part-blind p r false a fits =
    let k = freshly law p (λ q. causing (OnWritable a.slots.dest (AbortIfWritable r q) ∷ [])) a fits (λ q n f. causes law p _ (made pipes a) f (omega (arith, n))) in
    record { blind = k.blind; unnamed = k.unnamed; more = k.more }

cancel_part-blind : (p : PromiseId) (r : Plain) (b : Bool) (a : Acts) → Fit p a → Blind p (cancel_part r b) a
cancel_part-blind p r true a fits = stays p a fits
cancel_part-blind p r false a fits =
    let k = freshly law p (λ q. causing (OnReadable a.slots.source (CancelIfReadable r q) ∷ [])) a fits (λ q n f. causes law p _ (made pipes a) f (omega (arith, n))) in
    record { blind = k.blind; unnamed = k.unnamed; more = k.more }

reacts-none : (p : PromiseId) (me : PipeId) (qs : List PromiseId) → in_list p qs ≡ 0 → in_effects p (reacts_to_all me qs) ≡ 0
reacts-none p me [] n = refl
reacts-none p me (q ∷ qs) n =
    let m : in_list p qs ≡ 0 = omega (arith, n) in
    omega (arith, n, reacts-none p me qs m)

waiting-none : (p : PromiseId) (me : PipeId) (qs : List PromiseId) → in_list p qs ≡ 0 → in_effects p (waiting_for me qs) ≡ 0
waiting-none p me [] n = refl
waiting-none p me (q ∷ qs) n = reacts-none p me (q ∷ qs) n

wait_for_all-blind : (p : PromiseId) (me : PipeId) (qs : List PromiseId) (a : Acts) → in_list p qs ≡ 0 → Fit p a → Blind p (wait_for_all me qs) a
wait_for_all-blind p me qs a n fits = freshly law p (λ w b. causing (waiting_for me qs ++ reacts w (PipeActed me) ∷ []) (with_slots (record b.slots { parts = length qs; whole = Some w }) b)) a fits
    (λ w m f.
    let h : Slots → Slots = λ s. record s { parts = length qs; whole = Some w } in
    let es : List Effect = waiting_for me qs ++ reacts w (PipeActed me) ∷ [] in
    let app = all-append (in_effect p) (waiting_for me qs) (reacts w (PipeActed me) ∷ []) in
    then-blind p (λ b. record b { slots = h b.slots }) (causing es) (made pipes a) (quiet law p h (made pipes a) f (omega (arith, m)))
    (λ g. causes law p es (record (made pipes a) { slots = h a.slots }) g (omega (arith, app, waiting-none p me qs n, m))) f)

part-none : (p : PromiseId) (b : Bool) (q : PromiseId) → one p q ≡ 0 → in_list p (part b q) ≡ 0
part-none p true q n = refl
part-none p false q n = omega (arith, n)

-- the numbers of the parts are the same whatever stands for p
same-parts : (p : PromiseId) (x : Option Entry) (prevent : Prevent) (a b : Acts) → parts_of prevent ((view_of pipes).change p x a) ((view_of pipes).change p x b) ≡ parts_of prevent a b
same-parts p x prevent a b =
    ap (λ m. part prevent.abort m ++ part prevent.cancel (next_id (with_entry p x b.out.promises))) (next-blind p x a.out.promises)
    ∙ ap (λ m. part prevent.abort (next_id a.out.promises) ++ part prevent.cancel m) (next-blind p x b.out.promises)

act_by_signal-blind : (p : PromiseId) (me : PipeId) (r : Plain) (a : Acts) → Fit p a → Blind p (act_by_signal me r) a
unfolding act_by_signal
act_by_signal-blind p me r a fits =
    let one_part = abort_part-blind p r a.slots.prevent.abort a fits in
    let b : Acts = abort_part r a.slots.prevent.abort a in
    let fits_b : Fit p b = record { made = omega (arith, fits.made, one_part.more); none = one_part.unnamed } in
    let qs : List PromiseId = parts_of a.slots.prevent a b in
    let n : in_list p qs ≡ 0 = omega (
      arith,
      all-append (one p) (part a.slots.prevent.abort (next_id a.out.promises)) (part a.slots.prevent.cancel (next_id b.out.promises)),
      part-none p a.slots.prevent.abort (next_id a.out.promises) (next-apart p a.out.promises fits.made),
      part-none p a.slots.prevent.cancel (next_id b.out.promises) (next-apart p b.out.promises fits_b.made),
    ) in
    let c : Acts → Acts = λ z. wait_for_all me qs (cancel_part r a.slots.prevent.cancel z) in
    let rest : Blind p c b = then-blind p (cancel_part r a.slots.prevent.cancel) (wait_for_all me qs) b (cancel_part-blind p r a.slots.prevent.cancel b fits_b) (wait_for_all-blind p me qs _ n) fits_b in
    record {
      blind = λ x. ap (λ z. wait_for_all me (parts_of a.slots.prevent ((view_of pipes).change p x a) z) (cancel_part r a.slots.prevent.cancel z)) (one_part.blind x)
          ∙ (ap (λ qs. wait_for_all me qs (cancel_part r a.slots.prevent.cancel ((view_of pipes).change p x b))) (same-parts p x a.slots.prevent a b) ∙ rest.blind x);
      unnamed = rest.unnamed;
      more = omega (arith, one_part.more, rest.more);
    }

act_by-blind : (p : PromiseId) (me : PipeId) (ends : Ends) (a : Acts) (o : Option Action) → in_ends p ends ≡ 0 → Fit p a → Blind p (λ b. act_by me ends b o) a
act_by-blind p me ends a None n fits = let k = finalize-blind p me a.slots.error a fits in record { blind = k.blind; unnamed = k.unnamed; more = k.more }
act_by-blind p me ends a (Some (AbortDest r)) n fits = abort_dest-blind p me r a ends.dest_abort (omega (arith, n)) fits
act_by-blind p me ends a (Some (CancelSource r)) n fits =
    let k = act_with-blind p me (λ q. OnReadable a.slots.source (Cancel r q)) a (λ q m. omega (arith, m)) fits in
    record { blind = k.blind; unnamed = k.unnamed; more = k.more }
act_by-blind p me ends a (Some CloseDest) n fits =
    let k = act_with-blind p me (λ q. OnWritable a.slots.dest (ClosePropagating q)) a (λ q m. omega (arith, m)) fits in
    record { blind = k.blind; unnamed = k.unnamed; more = k.more }
act_by-blind p me ends a (Some (BySignal r)) n fits = act_by_signal-blind p me r a fits

act-blind : (p : PromiseId) (me : PipeId) (ends : Ends) (a : Acts) → in_ends p ends ≡ 0 → Fit p a → Blind p (act me ends) a
unfolding act
act-blind p me ends a n fits =
    let k = after-quiet law p (λ s. record s { phase = Acting }) (λ b. act_by me ends b a.slots.action) a fits (omega arith) (act_by-blind p me ends _ a.slots.action n) in
    record { blind = k.blind; unnamed = k.unnamed; more = k.more }

proceed-blind : (p : PromiseId) (me : PipeId) (ends : Ends) (a : Acts) → in_ends p ends ≡ 0 → Fit p a → Blind p (proceed me ends) a
unfolding proceed
proceed-blind p me ends a n fits =
    let k = by-test p (act me ends) (λ b. b) (is_none a.slots.held && nat_eq a.slots.unsettled 0) a (act-blind p me ends a n fits) (stays p a fits) in
    record { blind = k.blind; unnamed = k.unnamed; more = k.more }

shut_down-blind : (p : PromiseId) (me : PipeId) (ends : Ends) (a : Acts) → in_ends p ends ≡ 0 → Fit p a → Blind p (shut_down me ends) a
shut_down-blind p me ends a n fits =
    let m = after-quiet law p (λ s. record s { phase = Waiting }) (proceed me ends) a fits (omega arith) (proceed-blind p me ends _ n) in
    by-test p (λ b. proceed me ends (record b { slots = record b.slots { phase = Waiting } })) (act me ends) (is_writable ends.dest_state && not ends.dest_closing) a m (act-blind p me ends a n fits)

shutdown-blind : (p : PromiseId) (me : PipeId) (ends : Ends) (action : Option Action) (error : Option Plain) (a : Acts) → in_ends p ends ≡ 0 → Fit p a → Blind p (shutdown me ends action error) a
unfolding shutdown
shutdown-blind p me ends action error a n fits =
    let h : Slots → Slots = λ s. record s { action = action; error = error } in
    let m = after-quiet law p h (shut_down me ends) a fits (omega arith) (shut_down-blind p me ends _ n) in
    let k = by-test p (λ b. shut_down me ends (record b { slots = h b.slots })) (λ b. b) (is_flowing a.slots.phase) a m (stays p a fits) in
    record { blind = k.blind; unnamed = k.unnamed; more = k.more }

-- looking

wait_for_ready-blind : (p : PromiseId) (me : PipeId) (a : Acts) (o : Option PromiseId) → in_option p o ≡ 0 → Fit p a → Blind p (λ b. wait_for_ready me b o) a
wait_for_ready-blind p me a None n fits = stays p a fits
wait_for_ready-blind p me a (Some q) n fits =
    after-quiet law p (λ s. record s { waits = true }) (causing (reacts q (PipeReady me) ∷ [])) a fits (omega arith) (λ f. causes law p _ _ f (omega (arith, n)))

read_or_wait-blind : (p : PromiseId) (me : PipeId) (ends : Ends) (a : Acts) → in_ends p ends ≡ 0 → Fit p a → Blind p (read_or_wait me ends) a
read_or_wait-blind p me ends a n fits =
    let h : Slots → Slots = λ s. record s { reading = true } in
    let es : List Effect = OnReadable a.slots.source (Read (PipeRequest me)) ∷ [] in
    let m = after-quiet law p h (causing es) a fits (omega arith) (λ f. causes law p es _ f refl) in
    let w = by-test p (λ b. wait_for_ready me b ends.dest_ready) (λ b. b) (not a.slots.waits && is_writable ends.dest_state) a (wait_for_ready-blind p me a ends.dest_ready (omega (arith, n)) fits) (stays p a fits) in
    let k = by-test p (λ b. causing es (record b { slots = h b.slots })) (λ b. if not a.slots.waits && is_writable ends.dest_state then wait_for_ready me b ends.dest_ready else b) ends.dest_wants a m w in
    record { blind = k.blind; unnamed = k.unnamed; more = k.more }

look_open-blind : (p : PromiseId) (me : PipeId) (ends : Ends) (a : Acts) (d : WritableState) → in_ends p ends ≡ 0 → Fit p a
    → Blind p (λ b. if ends.dest_closing || is_closed d then shutdown me ends (unless b.slots.prevent.cancel (CancelSource type_error)) (Some type_error) b else if b.slots.reading then b else read_or_wait me ends b) a
look_open-blind p me ends a d n fits =
    let m = by-test p (λ b. b) (read_or_wait me ends) a.slots.reading a (stays p a fits) (read_or_wait-blind p me ends a n fits) in
    let s = shutdown-blind p me ends (unless a.slots.prevent.cancel (CancelSource type_error)) (Some type_error) a n fits in
    let k = by-test p (shutdown me ends (unless a.slots.prevent.cancel (CancelSource type_error)) (Some type_error)) (λ b. if a.slots.reading then b else read_or_wait me ends b) (ends.dest_closing || is_closed d) a s m in
    record { blind = k.blind; unnamed = k.unnamed; more = k.more }

look_by-blind : (p : PromiseId) (me : PipeId) (ends : Ends) (a : Acts) (s : ReadableState) (d : WritableState) → in_ends p ends ≡ 0 → Fit p a → Blind p (λ b. look_by me ends b s d) a
look_by-blind p me ends a Errored d n fits =
    let k = shutdown-blind p me ends (unless a.slots.prevent.abort (AbortDest ends.source_error)) (Some ends.source_error) a n fits in
    record { blind = k.blind; unnamed = k.unnamed; more = k.more }
look_by-blind p me ends a Closed WritableErrored n fits =
    let k = shutdown-blind p me ends (unless a.slots.prevent.cancel (CancelSource ends.dest_error)) (Some ends.dest_error) a n fits in
    record { blind = k.blind; unnamed = k.unnamed; more = k.more }
look_by-blind p me ends a Readable WritableErrored n fits =
    let k = shutdown-blind p me ends (unless a.slots.prevent.cancel (CancelSource ends.dest_error)) (Some ends.dest_error) a n fits in
    record { blind = k.blind; unnamed = k.unnamed; more = k.more }
look_by-blind p me ends a Closed StateWritable n fits =
    let k = shutdown-blind p me ends (unless a.slots.prevent.close CloseDest) (None) a n fits in
    record { blind = k.blind; unnamed = k.unnamed; more = k.more }
look_by-blind p me ends a Readable StateWritable n fits =
    look_open-blind p me ends a StateWritable n fits
look_by-blind p me ends a Closed Erroring n fits =
    let k = shutdown-blind p me ends (unless a.slots.prevent.close CloseDest) (None) a n fits in
    record { blind = k.blind; unnamed = k.unnamed; more = k.more }
look_by-blind p me ends a Readable Erroring n fits =
    look_open-blind p me ends a Erroring n fits
look_by-blind p me ends a Closed WritableClosed n fits =
    let k = shutdown-blind p me ends (unless a.slots.prevent.close CloseDest) (None) a n fits in
    record { blind = k.blind; unnamed = k.unnamed; more = k.more }
look_by-blind p me ends a Readable WritableClosed n fits =
    look_open-blind p me ends a WritableClosed n fits

look-blind : (p : PromiseId) (me : PipeId) (ends : Ends) (a : Acts) → in_ends p ends ≡ 0 → Fit p a → Blind p (look me ends) a
unfolding look
look-blind p me ends a n fits =
    let k = by-test p (λ b. look_by me ends b ends.source_state ends.dest_state) (λ b. b) (is_flowing a.slots.phase) a (look_by-blind p me ends a ends.source_state ends.dest_state n fits) (stays p a fits) in
    record { blind = k.blind; unnamed = k.unnamed; more = k.more }

look_ready-blind : (p : PromiseId) (me : PipeId) (ends : Ends) (a : Acts) → in_ends p ends ≡ 0 → Fit p a → Blind p (look_ready me ends) a
unfolding look_ready
look_ready-blind p me ends a n fits =
    after-quiet law p (λ s. record s { waits = false }) (look me ends) a fits (omega arith) (look-blind p me ends _ n)

go_on_in-blind : (p : PromiseId) (me : PipeId) (ends : Ends) (a : Acts) (phase : Phase) → in_ends p ends ≡ 0 → Fit p a → Blind p (λ b. go_on_in me ends b phase) a
go_on_in-blind p me ends a Flowing n fits = look-blind p me ends a n fits
go_on_in-blind p me ends a Waiting n fits = proceed-blind p me ends a n fits
go_on_in-blind p me ends a Acting n fits = stays p a fits
go_on_in-blind p me ends a Over n fits = stays p a fits

go_on-blind : (p : PromiseId) (me : PipeId) (ends : Ends) (a : Acts) → in_ends p ends ≡ 0 → Fit p a → Blind p (go_on me ends) a
unfolding go_on
go_on-blind p me ends a n fits = let k = go_on_in-blind p me ends a a.slots.phase n fits in record { blind = k.blind; unnamed = k.unnamed; more = k.more }

-- reading and writing

keep_chunk-blind : (p : PromiseId) (me : PipeId) (v : Value) (a : Acts) → Fit p a → Blind p (keep_chunk me v) a
unfolding keep_chunk
keep_chunk-blind p me v a fits =
    after-quiet law p (λ s. record s { held = Some v }) (queueing (PipeWrite me)) a fits (omega arith) (queues law p (PipeWrite me) _)

read_ended-blind : (p : PromiseId) (me : PipeId) (a : Acts) → Fit p a → Blind p (read_ended me) a
unfolding read_ended
read_ended-blind p me a fits =
    after-quiet law p (λ s. record s { reading = false }) (queueing (PipeLook me)) a fits (omega arith) (queues law p (PipeLook me) _)

write-blind : (p : PromiseId) (me : PipeId) (v : Value) (a : Acts) → Fit p a → Blind p (write me v) a
write-blind p me v a fits =
    let h : Slots → Slots = λ s. record s { unsettled = s.unsettled + 1 } in
    let op : PromiseId → Acts → Acts = λ q. causing (OnWritable a.slots.dest (Write v q) ∷ reacts q (PipeWrote me) ∷ OnPipe me GoOn ∷ []) in
    let k = after-quiet law p h (with_fresh op) a fits (omega arith) (λ f. freshly law p op (record a { slots = h a.slots }) f (λ q n g. causes law p _ (made pipes (record a { slots = h a.slots })) g (omega (arith, n)))) in
    record { blind = k.blind; unnamed = k.unnamed; more = k.more }

write_in-blind : (p : PromiseId) (me : PipeId) (v : Value) (a : Acts) (phase : Phase) → Fit p a → Blind p (λ b. write_in me v b phase) a
write_in-blind p me v a Flowing fits = write-blind p me v a fits
write_in-blind p me v a Waiting fits = write-blind p me v a fits
write_in-blind p me v a Acting fits = stays p a fits
write_in-blind p me v a Over fits = stays p a fits

write_held-blind : (p : PromiseId) (me : PipeId) (a : Acts) (o : Option Value) → Fit p a → Blind p (λ b. write_held me b o) a
write_held-blind p me a None fits = stays p a fits
write_held-blind p me a (Some v) fits =
    let k = after-quiet law p (λ s. record s { held = None; reading = false }) (λ b. write_in me v b a.slots.phase) a fits (omega arith) (write_in-blind p me v _ a.slots.phase) in
    record { blind = k.blind; unnamed = k.unnamed; more = k.more }

write_chunk-blind : (p : PromiseId) (me : PipeId) (a : Acts) → Fit p a → Blind p (write_chunk me) a
unfolding write_chunk
write_chunk-blind p me a fits = let k = write_held-blind p me a a.slots.held fits in record { blind = k.blind; unnamed = k.unnamed; more = k.more }

write_ended-blind : (p : PromiseId) (me : PipeId) (ends : Ends) (a : Acts) → in_ends p ends ≡ 0 → Fit p a → Blind p (write_ended me ends) a
unfolding write_ended
write_ended-blind p me ends a n fits =
    after-quiet law p (λ s. record s { unsettled = s.unsettled - 1 }) (go_on me ends) a fits (omega arith) (go_on-blind p me ends _ n)

-- the ends of an action

action_settled-blind : (p : PromiseId) (me : PipeId) (o : Result Plain Plain) (a : Acts) → Fit p a → Blind p (action_settled me o) a
unfolding action_settled
action_settled-blind p me (Ok v) a fits = let k = finalize-blind p me a.slots.error a fits in record { blind = k.blind; unnamed = k.unnamed; more = k.more }
action_settled-blind p me (Err e) a fits = finalize-blind p me (Some e) a fits

settle_whole-blind : (p : PromiseId) (o : Result Plain Plain) (a : Acts) (w : Option PromiseId) → w ≡ a.slots.whole → Fit p a → Blind p (λ b. settle_whole o b w) a
settle_whole-blind p o a None r fits = stays p a fits
settle_whole-blind p o a (Some w) r fits =
    let named : in_option p a.slots.whole ≡ one p w = named-none p w a.slots.whole (sym r) in
    let k = after-quiet law p (λ s. record s { whole = None }) (λ b. record b { out = settling w o b.out }) a fits (omega arith) (settles law p w o _ (omega (arith, named, fits.none))) in
    record { blind = k.blind; unnamed = k.unnamed; more = k.more }

after_part-blind : (p : PromiseId) (a : Acts) → Fit p a → Blind p after_part a
after_part-blind p a fits =
    let k = by-test p (λ b. settle_whole (Ok Undefined) b a.slots.whole) (λ b. b) (nat_eq a.slots.parts 0) a (settle_whole-blind p (Ok Undefined) a a.slots.whole refl fits) (stays p a fits) in
    record { blind = k.blind; unnamed = k.unnamed; more = k.more }

part_settled-blind : (p : PromiseId) (o : Result Plain Plain) (a : Acts) → Fit p a → Blind p (part_settled o) a
unfolding part_settled
part_settled-blind p (Ok v) a fits =
    let k = after-quiet law p (λ s. record s { parts = s.parts - 1 }) after_part a fits (omega arith) (after_part-blind p _) in
    record { blind = k.blind; unnamed = k.unnamed; more = k.more }
part_settled-blind p (Err e) a fits = let k = settle_whole-blind p (Err e) a a.slots.whole refl fits in record { blind = k.blind; unnamed = k.unnamed; more = k.more }

no_parts-blind : (p : PromiseId) (a : Acts) → Fit p a → Blind p no_parts a
unfolding no_parts
no_parts-blind p a fits = let k = settle_whole-blind p (Ok Undefined) a a.slots.whole refl fits in record { blind = k.blind; unnamed = k.unnamed; more = k.more }

abort-blind : (p : PromiseId) (me : PipeId) (ends : Ends) (r : Plain) (a : Acts) → in_ends p ends ≡ 0 → Fit p a → Blind p (abort me ends r) a
unfolding abort
abort-blind p me ends r a n fits = shutdown-blind p me ends (Some (BySignal r)) (Some r) a n fits

operation-blind : (p : PromiseId) (i : PipeId) (ends : Ends) (operation : PipeOperation) (a : Acts) → in_ends p ends ≡ 0 → Fit p a → Blind p (pipe_operation i ends operation) a
operation-blind p i ends Look a n fits = look-blind p i ends a n fits
operation-blind p i ends LookReady a n fits = look_ready-blind p i ends a n fits
operation-blind p i ends (KeepChunk v) a n fits = keep_chunk-blind p i v a fits
operation-blind p i ends ReadEnded a n fits = read_ended-blind p i a fits
operation-blind p i ends WriteChunk a n fits = write_chunk-blind p i a fits
operation-blind p i ends GoOn a n fits = go_on-blind p i ends a n fits
operation-blind p i ends WriteEnded a n fits = write_ended-blind p i ends a n fits
operation-blind p i ends (AbortPipe r) a n fits = abort-blind p i ends r a n fits
operation-blind p i ends (ActionSettled o) a n fits = action_settled-blind p i o a fits
operation-blind p i ends (PartSettled o) a n fits = part_settled-blind p o a fits
operation-blind p i ends NoParts a n fits = no_parts-blind p a fits

pub pipes-blind : EachPipeOperationIsBlind
pipes-blind i ends operation p a made none = operation-blind p i ends operation a (omega (arith, none)) (record { made = made; none = omega (arith, none) })
