-- A link of which nothing failed (`each_sound_link_is_whole`): once its pipe passes nothing on any more, its destination is closing or closed.
use Rattle.std.proofs.Common.{if◌then◌else◌, slice_get, ◌≡◌, ◌≢◌, Bool, true, false, not, ◌&&◌, ◌||◌, is_some, List, [], ◌∷◌, Option, Some, None, refl, sym, ap, subst, ◌∙◌, arith}
use Rattle.ws_value.specs.declared.ids.PipeId.{PipeId}
use Rattle.ws_value.specs.declared.ids.PromiseId.{PromiseId}
use Rattle.ws_value.specs.declared.ids.StreamId.{StreamId}
use Rattle.ws_value.specs.declared.value.Message.{Message}
use Rattle.ws_value.specs.declared.value.Message.TheVariants.{Pull, Chunk as ChunkMessage, Close as CloseMessage, Error as ErrorMessage}
use Rattle.ws_value.specs.declared.value.Plain.{Plain}
use Rattle.ws_value.specs.declared.value.Value.{Value}
use Rattle.ws_steps.specs.declared.calls.Event.{Event}
use Rattle.ws_steps.specs.declared.calls.Event.TheVariants.{Host as HostCalled, Post}
use Rattle.ws_steps.specs.declared.calls.HostCall.{HostCall}
use Rattle.ws_steps.specs.declared.calls.HostCall.TheVariants.{Write as HostWrite, Close as HostClose, Transform as HostTransform, Flush as HostFlush}
use Rattle.ws_steps.specs.declared.pipes.Phase.{Phase}
use Rattle.ws_steps.specs.declared.pipes.Phase.TheVariants.{Flowing, Waiting, Acting, Over}
use Rattle.ws_steps.specs.declared.queue.Queued.{Queued}
use Rattle.ws_steps.specs.declared.readable.ReadableState.{ReadableState}
use Rattle.ws_steps.specs.declared.readable.ReadableState.TheVariants.{Readable, Closed as ReadableClosed, Errored as ReadableErrored}
use Rattle.ws_steps.specs.declared.writable.WritableState.{WritableState}
use Rattle.ws_steps.specs.declared.writable.WritableState.TheVariants.{Writable, Erroring, Errored as WritableErrored, Closed as WritableClosed}
use Rattle.ws_steps.specs.declared.writable.WriteRecord.{WriteRecord}
use Rattle.ws_steps.specs.declared.writable.WriteRecord.TheVariants.{Chunk, InFlight, CloseMark}
use Rattle.ws_steps.specs.Run.{Entry, run}
use Rattle.ws_steps.specs.Slots.{Slots, empty, pipe_at, source_at, writable_at}
use Rattle.ws_steps.specs.Writable as writable
use Rattle.ws_steps.specs.Writable.{is_closing, is_writable}
use Rattle.ws_flow.specs.Told.{Mark, Open, Closed, Broken, Lost, Told, told, goes_on, then_told}
use Rattle.ws_flow.proofs.Unlost.{then-unlost}
use Rattle.ws_pipe_laws.specs.pipes.PipeHistory.{is_live}
use Rattle.ws_end_laws.specs.ends.PassedAll.{is_failing}
use Rattle.ws_link_laws.specs.Link.{Ear, is_port, is_sink, is_half, heard_of, heard_call, heard_post, unheard, silence, todo_of, before_todo, sink_by, in_sink, values, closing_mark, source_by, in_source, held_items, piped_by, in_pipe, lies, behind, ear_at}
use Rattle.ws_link_laws.specs.Sound.{is_closed, IsLink, FitsIn, SinkAlive, Closing}
use Rattle.ws_end_laws.proofs.successes.Closes.{each_unfailing_pipe_closes}
use Rattle.ws_chain_laws.specs.Sound.{IsSound, EachSoundLinkIsWhole}

-- what the host hasn't heard

if_told : (b : Bool) (x : Told Value) → x.mark ≢ Lost → (if b then x else silence).mark ≢ Lost
if_told true x n = n
if_told false x n = λ e. grind arith

call-whole : (w : Ear) (call : HostCall) → (heard_call w call).mark ≢ Lost
call-whole w (HostWrite k v) = if_told (is_sink w k) (told (v ∷ []) Open) (λ e. grind arith)
call-whole w (HostClose k) = if_told (is_sink w k) (told [] Closed) (λ e. grind arith)
call-whole w (HostTransform k v) = if_told (is_half w k) (told (v ∷ []) Open) (λ e. grind arith)
call-whole w (HostFlush k) = if_told (is_half w k) (told [] Closed) (λ e. grind arith)
call-whole w _ = λ e. grind arith

post-whole : (m : Message) → (heard_post m).mark ≢ Lost
post-whole Pull = λ e. grind arith
post-whole (ChunkMessage v) = λ e. grind arith
post-whole CloseMessage = λ e. grind arith
post-whole (ErrorMessage r) = λ e. grind arith

heard-whole : (w : Ear) (e : Event) → (heard_of w e).mark ≢ Lost
heard-whole w (HostCalled id call) = call-whole w call
heard-whole w (Post d m) = if_told (is_port w d) (heard_post m) (post-whole m)
heard-whole w _ = λ e. grind arith

unheard-whole : (w : Ear) (es : List Event) → (unheard w es).mark ≢ Lost
unheard-whole w [] = λ e. grind arith
unheard-whole w (e ∷ es) = then-unlost (heard_of w e) (unheard w es) (heard-whole w e) (unheard-whole w es)

-- in the destination

before-whole : (x : WriteRecord) (t : Told Value) → t.mark ≢ Lost → (before_todo x t).mark ≢ Lost
before-whole (Chunk v) t n = n
before-whole InFlight t n = n
before-whole CloseMark t n = λ e. grind arith

todo-whole : (qs : List (Queued WriteRecord)) → (todo_of qs).mark ≢ Lost
todo-whole [] = λ e. grind arith
todo-whole (q ∷ qs) = before-whole q.value (todo_of qs) (todo-whole qs)

sink-by-whole : (state : WritableState) (closing : Bool) (t : Told Value) → is_failing state ≡ false → t.mark ≢ Lost → (sink_by state closing t).mark ≢ Lost
sink-by-whole Writable true t f n = λ e. grind arith
sink-by-whole Writable false t f n = n
sink-by-whole WritableClosed closing t f n = λ e. grind arith
sink-by-whole Erroring closing t f n = absurd (cc)
sink-by-whole WritableErrored closing t f n = absurd (cc)

sink-whole : (w : writable.Slots) → is_failing w.state ≡ false → (in_sink w).mark ≢ Lost
sink-whole w f = sink-by-whole w.state (is_some w.close_in_flight) (todo_of w.queue) f (todo-whole w.queue)

-- one that takes no more has told its end

closed-mark : (m : Mark) → is_closed m ≡ true → m ≡ Closed
closed-mark Open e = absurd (cc)
closed-mark Closed e = refl
closed-mark Broken e = absurd (cc)
closed-mark Lost e = absurd (cc)

alive-ends : (w : writable.Slots) (f : Option PromiseId) → w.close_in_flight ≡ f → Closing f w.queue w.close_request → is_some w.close_request || is_some f ≡ true → (sink_by Writable (is_some f) (todo_of w.queue)).mark ≡ Closed
alive-ends w (Some p) e k c = refl
alive-ends w None e k c = closed-mark (todo_of w.queue).mark (sym k ∙ requested w.close_request c)
  where
    requested : (r : Option PromiseId) → is_some r || false ≡ true → is_some r ≡ true
    requested r c = grind (arith, c)

ends-by : (w : writable.Slots) (state : WritableState) → w.state ≡ state → is_failing state ≡ false → FitsIn state w → is_writable state && not (is_closing w) ≡ false → (in_sink w).mark ≡ Closed
ends-by w Writable e f k n = rw e (alive-ends w w.close_in_flight refl k.closing (closing_then (is_closing w) n))
  where
    closing_then : (b : Bool) → not b ≡ false → b ≡ true
    closing_then true n = refl
    closing_then false n = absurd (cc)
ends-by w WritableClosed e f k n = rw e refl
ends-by w Erroring e f k n = absurd (cc)
ends-by w WritableErrored e f k n = absurd (cc)

-- in the source and the pipe

source-by-whole : (state : ReadableState) (requested : Bool) (vs : List Value) → state ≢ ReadableErrored → (source_by state requested vs).mark ≢ Lost
source-by-whole Readable true vs n = λ e. grind arith
source-by-whole Readable false vs n = λ e. grind arith
source-by-whole ReadableClosed requested vs n = λ e. grind arith
source-by-whole ReadableErrored requested vs n = absurd (n refl)

pipe-whole : (phase : Phase) (held : Option Value) (t : Told Value) → is_live phase ≡ true → t.mark ≢ Lost → (piped_by phase held t).mark ≢ Lost
pipe-whole Flowing held t l n = n
pipe-whole Waiting held t l n = n
pipe-whole Acting held t l n = absurd (cc)
pipe-whole Over held t l n = absurd (cc)

closed-first : (x y : Told Value) → x.mark ≡ Closed → (then_told x y).mark ≢ Lost
closed-first x y e = λ f. let m : (goes_on x.items Closed y).mark ≡ Lost = subst (λ (k : Mark). (goes_on x.items k y).mark ≡ Lost) e f in absurd (cc)

pub each_sound_link_is_whole : EachSoundLinkIsWhole
each_sound_link_is_whole i j p s link sound = then-unlost (unheard (ear_at j s) s.promises.events) (lies i j p s) (unheard-whole (ear_at j s) s.promises.events) (by (is_live (pipe_at p s).phase) refl)
  where
    by : (b : Bool) → is_live (pipe_at p s).phase ≡ b → (lies i j p s).mark ≢ Lost
    by true l =
        then-unlost (in_sink (writable_at j s)) (in_pipe (pipe_at p s) (in_source (source_at i s))) (sink-whole (writable_at j s) sound.sink)
        (pipe-whole (pipe_at p s).phase (pipe_at p s).held (in_source (source_at i s)) l (source-by-whole (source_at i s).state (source_at i s).close_requested (values (source_at i s).queue) sound.source))
    by false l =
        let reached = link.reached in
        let there = subst (λ (z : Slots). slice_get z.pipes p.0 ≡ Some (pipe_at p s)) reached.1 link.there in
        let closes = each_unfailing_pipe_closes reached.0 p (pipe_at p s) there l sound.closes sound.error in
        let at_end = subst (λ (z : Slots). is_writable (writable_at (pipe_at p s).dest z).state && not (is_closing (writable_at (pipe_at p s).dest z)) ≡ false) (sym reached.1) closes in
        let sated = subst (λ (k : StreamId). is_writable (writable_at k s).state && not (is_closing (writable_at k s)) ≡ false) link.into at_end in
        closed-first (in_sink (writable_at j s)) (in_pipe (pipe_at p s) (in_source (source_at i s))) (ends-by (writable_at j s) (writable_at j s).state refl sound.sink link.sink_fits sated)
