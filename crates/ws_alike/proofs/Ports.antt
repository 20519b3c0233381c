-- An operation of a port doesn't look at a promise that isn't named, and names it nowhere.
use Rattle.std.proofs.Common.{◌≡◌, Bool, true, false, List, [], ◌∷◌, Option, Some, None, Err, refl, sym, arith}
use Rattle.ws_value.specs.declared.ids.PortId.{PortId}
use Rattle.ws_value.specs.declared.ids.PromiseId.{PromiseId}
use Rattle.ws_value.specs.declared.value.Plain.{Plain}
use Rattle.ws_value.specs.declared.value.Value.{Value}
use Rattle.ws_steps.specs.declared.effects.Effect.{Effect}
use Rattle.ws_steps.specs.declared.effects.Use.{Use}
use Rattle.ws_steps.specs.Effects.{settling}
use Rattle.ws_alike.proofs.Records.{Lawful, made, quiet, causes, freshly, settles}
use Rattle.ws_alike.proofs.Steps.{Fits, then-blind, stays, by-test, named-none}
use Rattle.ws_value.specs.declared.value.Message.{Message}
use Rattle.ws_value.specs.declared.value.Message.TheVariants.{Pull as PullMessage, Chunk as ChunkMessage, Close as CloseMessage, Error as ErrorMessage}
use Rattle.ws_value.specs.Values.{is_cloneable}
use Rattle.ws_steps.specs.declared.effects.Effect.TheVariants.{Readable as OnReadable, Writable as OnWritable, Port as OnPort, Give}
use Rattle.ws_steps.specs.declared.effects.Gift.TheVariants.{This, Fresh}
use Rattle.ws_steps.specs.declared.effects.Use.TheVariants.{Resolve}
use Rattle.ws_steps.specs.declared.port.PortOperation.{PortOperation}
use Rattle.ws_steps.specs.declared.port.PortOperation.TheVariants.{Pull, Leave, Write, WriteGoesOn, PostChunk, Close, Deliver, Unblock}
use Rattle.ws_steps.specs.declared.port.Side.{Side}
use Rattle.ws_steps.specs.declared.port.Side.TheVariants.{Readable as ReadableSide, Writable as WritableSide}
use Rattle.ws_steps.specs.declared.readable.ReadableOperation.TheVariants.{Enqueue as EnqueueChunk, Close as CloseReadable, Error as ErrorReadable}
use Rattle.ws_steps.specs.declared.transform.Taker.TheVariants.{ToPort}
use Rattle.ws_steps.specs.declared.writable.WritableOperation.TheVariants.{ErrorIfNeeded, HandOn}
use Rattle.ws_steps.specs.Cross.{Acts, Slots, causing, with_slots, done, data_clone, posting, post, post_or_fail, posted, disentangle, pull, leave, close, wait_for, write, hold_back, hand_on, go_on, write_goes_on, post_chunk, unblock_by, unblock, deliver_to, deliver}
use Rattle.ws_steps.specs.Operations.{port_operation}
use Rattle.ws_alike.specs.Named.{one, in_option, in_use, in_port_operation, in_effects}
use Rattle.ws_alike.specs.Blind.{LeavesAlone, EachPortOperationIsBlind, ports, view_of}

law : Lawful Acts Slots ports
law = record { put_slots = λ s out. refl; put_out = λ s out. refl }

-- what of one operation is to be shown
abbrev Blind : PromiseId → (Acts → Acts) → Acts → Type 0
Blind p f a = LeavesAlone Acts (view_of ports) p f a

abbrev Fit : PromiseId → Acts → Type 0
Fit p a = Fits Acts (view_of ports) p a

-- messages

post-blind : (p : PromiseId) (me : PortId) (m : Message) (a : Acts) → Fit p a → Blind p (post me m) a
post-blind p me m a fits =
    let j : Blind p (posting me m) a = record { blind = λ x. refl; unnamed = omega (arith, fits.none); more = omega arith } in
    let k = by-test p (posting me m) (λ b. b) a.slots.live a j (stays p a fits) in
    record { blind = k.blind; unnamed = k.unnamed; more = k.more }

post_or_fail-blind : (p : PromiseId) (me : PortId) (m : Message) (a : Acts) (b : Bool) → Fit p a → Blind p (λ c. post_or_fail me m c b) a
post_or_fail-blind p me m a true fits = post-blind p me m a fits
post_or_fail-blind p me m a false fits = post-blind p me (ErrorMessage data_clone) a fits

disentangle-blind : (p : PromiseId) (a : Acts) → Fit p a → Blind p disentangle a
disentangle-blind p a fits = quiet law p (λ s. record s { live = false }) a fits (omega arith)

pull-blind : (p : PromiseId) (me : PortId) (a : Acts) → Fit p a → Blind p (pull me) a
unfolding pull
pull-blind p me a fits = post-blind p me PullMessage a fits

leave-blind : (p : PromiseId) (me : PortId) (r : Plain) (u : Use) (a : Acts) → in_use p u ≡ 0 → Fit p a → Blind p (leave me r u) a
unfolding leave
leave-blind p me r u a n fits =
    let es : List Effect = Give (Fresh (posted (is_cloneable r))) u ∷ [] in
    let f : Acts → Acts = λ b. post_or_fail me (ErrorMessage r) b (is_cloneable r) in
    then-blind p f (λ b. causing es (disentangle b)) a (post_or_fail-blind p me (ErrorMessage r) a (is_cloneable r) fits)
    (λ g. then-blind p disentangle (causing es) (f a) (disentangle-blind p (f a) g) (λ g. causes law p es _ g (omega (arith, n))) g) fits

close-blind : (p : PromiseId) (me : PortId) (u : Use) (a : Acts) → in_use p u ≡ 0 → Fit p a → Blind p (close me u) a
unfolding close
close-blind p me u a n fits =
    let es : List Effect = Give (Fresh done) u ∷ [] in
    then-blind p (post me CloseMessage) (λ b. causing es (disentangle b)) a (post-blind p me CloseMessage a fits)
    (λ g. then-blind p disentangle (causing es) (post me CloseMessage a) (disentangle-blind p (post me CloseMessage a) g) (λ g. causes law p es _ g (omega (arith, n))) g) fits

-- writes

wait_for-none : (p : PromiseId) (o : Option PromiseId) (me : PortId) (d : PromiseId) → in_option p o ≡ 0 → one p d ≡ 0 → in_effects p (wait_for o me d ∷ []) ≡ 0
wait_for-none p None me d n m = omega (arith, m)
wait_for-none p (Some q) me d n m = omega (arith, n, m)

write-blind : (p : PromiseId) (me : PortId) (u : Use) (a : Acts) → in_use p u ≡ 0 → Fit p a → Blind p (write me u) a
unfolding write
write-blind p me u a n fits =
    let k = freshly law p (λ d. causing (wait_for a.slots.backpressure me d ∷ Give (This d) u ∷ [])) a fits
    (λ d m f. let w = wait_for-none p a.slots.backpressure me d (omega (arith, fits.none)) m in causes law p _ (made ports a) f (omega (arith, w, m, n))) in
    record { blind = k.blind; unnamed = k.unnamed; more = k.more }

hold_back-blind : (p : PromiseId) (a : Acts) → Fit p a → Blind p hold_back a
hold_back-blind p a fits = freshly law p (λ q b. with_slots (record b.slots { backpressure = Some q }) b) a fits (λ q n f. quiet law p (λ s. record s { backpressure = Some q }) (made ports a) f (omega (arith, n)))

hand_on-blind : (p : PromiseId) (me : PortId) (d : PromiseId) (a : Acts) (b : Bool) → one p d ≡ 0 → Fit p a → Blind p (λ c. hand_on me d c b) a
hand_on-blind p me d a true n fits = let k = causes law p (OnWritable a.slots.stream (HandOn (ToPort me d)) ∷ []) a fits (omega (arith, n)) in record { blind = k.blind; unnamed = k.unnamed; more = k.more }
hand_on-blind p me d a false n fits =
    let es : List Effect = Give (Fresh (Err data_clone)) (Resolve d) ∷ [] in
    let m = ErrorMessage data_clone in
    then-blind p (post me m) (λ b. causing es (disentangle b)) a (post-blind p me m a fits)
    (λ g. then-blind p disentangle (causing es) (post me m a) (disentangle-blind p (post me m a) g) (λ g. causes law p es _ g (omega (arith, n))) g) fits

go_on-blind : (p : PromiseId) (me : PortId) (clones : Bool) (d : PromiseId) (a : Acts) (o : Option PromiseId) → o ≡ a.slots.backpressure → one p d ≡ 0 → Fit p a → Blind p (λ b. go_on me clones d b o) a
go_on-blind p me clones d a None r n fits =
    then-blind p hold_back (λ b. hand_on me d b clones) a (hold_back-blind p a fits) (hand_on-blind p me d _ clones n) fits
go_on-blind p me clones d a (Some q) r n fits =
    let m = named-none p q a.slots.backpressure (sym r) in
    causes law p (wait_for (Some q) me d ∷ []) a fits (omega (arith, n, m, fits.none))

goes_on-blind : (p : PromiseId) (me : PortId) (clones : Bool) (d : PromiseId) (a : Acts) → one p d ≡ 0 → Fit p a → Blind p (write_goes_on me clones d) a
unfolding write_goes_on
goes_on-blind p me clones d a n fits = let k = go_on-blind p me clones d a a.slots.backpressure refl n fits in record { blind = k.blind; unnamed = k.unnamed; more = k.more }

post_chunk-blind : (p : PromiseId) (me : PortId) (v : Value) (d : PromiseId) (a : Acts) → one p d ≡ 0 → Fit p a → Blind p (post_chunk me v d) a
unfolding post_chunk
post_chunk-blind p me v d a n fits =
    let es : List Effect = Give (Fresh done) (Resolve d) ∷ [] in
    then-blind p (post me (ChunkMessage v)) (causing es) a (post-blind p me (ChunkMessage v) a fits) (λ g. causes law p es _ g (omega (arith, n))) fits

-- messages that come

unblock_by-blind : (p : PromiseId) (a : Acts) (o : Option PromiseId) → o ≡ a.slots.backpressure → Fit p a → Blind p (λ b. unblock_by b o) a
unblock_by-blind p a None r fits = stays p a fits
unblock_by-blind p a (Some q) r fits =
    let m = named-none p q a.slots.backpressure (sym r) in
    let h : Slots → Slots = λ s. record s { backpressure = None } in
    then-blind p (λ b. record b { out = settling q done b.out }) (λ b. record b { slots = h b.slots }) a (settles law p q done a (omega (arith, m, fits.none)) fits) (λ g. quiet law p h _ g (omega arith)) fits

unblock-blind : (p : PromiseId) (a : Acts) → Fit p a → Blind p unblock a
unfolding unblock
unblock-blind p a fits = let k = unblock_by-blind p a a.slots.backpressure refl fits in record { blind = k.blind; unnamed = k.unnamed; more = k.more }

ends-blind : (p : PromiseId) (es : List Effect) (a : Acts) → in_effects p es ≡ 0 → Fit p a → Blind p (λ b. disentangle (causing es b)) a
ends-blind p es a n fits = then-blind p (causing es) disentangle a (causes law p es a fits n) (disentangle-blind p _) fits

deliver_to-blind : (p : PromiseId) (me : PortId) (m : Message) (a : Acts) (side : Side) → Fit p a → Blind p (λ b. deliver_to me m b side) a
deliver_to-blind p me PullMessage a ReadableSide fits = stays p a fits
deliver_to-blind p me (ChunkMessage v) a ReadableSide fits = let k = causes law p (OnReadable a.slots.stream (EnqueueChunk v) ∷ []) a fits refl in record { blind = k.blind; unnamed = k.unnamed; more = k.more }
deliver_to-blind p me CloseMessage a ReadableSide fits = let k = ends-blind p (OnReadable a.slots.stream CloseReadable ∷ []) a refl fits in record { blind = k.blind; unnamed = k.unnamed; more = k.more }
deliver_to-blind p me (ErrorMessage r) a ReadableSide fits = let k = ends-blind p (OnReadable a.slots.stream (ErrorReadable r) ∷ []) a refl fits in record { blind = k.blind; unnamed = k.unnamed; more = k.more }
deliver_to-blind p me PullMessage a WritableSide fits = unblock-blind p a fits
deliver_to-blind p me (ChunkMessage v) a WritableSide fits = stays p a fits
deliver_to-blind p me CloseMessage a WritableSide fits = stays p a fits
deliver_to-blind p me (ErrorMessage r) a WritableSide fits = let k = causes law p (OnWritable a.slots.stream (ErrorIfNeeded r) ∷ OnPort me Unblock ∷ []) a fits refl in record { blind = k.blind; unnamed = k.unnamed; more = k.more }

deliver-blind : (p : PromiseId) (me : PortId) (m : Message) (a : Acts) → Fit p a → Blind p (deliver me m) a
unfolding deliver
deliver-blind p me m a fits = let k = by-test p (λ b. deliver_to me m b a.slots.side) (λ b. b) a.slots.live a (deliver_to-blind p me m a a.slots.side fits) (stays p a fits) in record { blind = k.blind; unnamed = k.unnamed; more = k.more }

-- each operation

operation-blind : (p : PromiseId) (i : PortId) (clones : Bool) (operation : PortOperation) (a : Acts) → in_port_operation p operation ≡ 0 → Fit p a → Blind p (port_operation i clones operation) a
operation-blind p i clones Pull a n fits = pull-blind p i a fits
operation-blind p i clones (Leave r u) a n fits = leave-blind p i r u a n fits
operation-blind p i clones (Write u) a n fits = write-blind p i u a n fits
operation-blind p i clones (WriteGoesOn d) a n fits = goes_on-blind p i clones d a n fits
operation-blind p i clones (PostChunk v d) a n fits = post_chunk-blind p i v d a n fits
operation-blind p i clones (Close u) a n fits = close-blind p i u a n fits
operation-blind p i clones (Deliver m) a n fits = deliver-blind p i m a fits
operation-blind p i clones Unblock a n fits = unblock-blind p a fits

pub ports-blind : EachPortOperationIsBlind
ports-blind i clones operation p a made none = operation-blind p i clones operation a (omega (arith, none)) (record { made = made; none = omega (arith, none) })
