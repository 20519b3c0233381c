-- An operation of a tee doesn't look at a promise that isn't named, and names it nowhere.
use Rattle.std.proofs.Common.{◌≡◌, ◌≤◌, Bool, true, false, not, ◌&&◌, List, [], ◌∷◌, ◌++◌, Option, Some, None, Result, Ok, Err, refl, arith}
use Rattle.ws_value.specs.declared.ids.PromiseId.{PromiseId}
use Rattle.ws_value.specs.declared.ids.StreamId.{StreamId}
use Rattle.ws_value.specs.declared.ids.TeeId.{TeeId}
use Rattle.ws_value.specs.declared.value.Plain.{Plain}
use Rattle.ws_value.specs.declared.value.Value.{Value}
use Rattle.ws_steps.specs.declared.effects.Effect.{Effect}
use Rattle.ws_steps.specs.declared.effects.Use.{Use}
use Rattle.ws_alike.proofs.Records.{Lawful, made, quiet, after-quiet, causes, freshly, queues}
use Rattle.ws_alike.proofs.Steps.{Fits, then-blind, stays, by-test}
use Rattle.ws_steps.specs.declared.effects.Effect.TheVariants.{Readable as OnReadable, Tee as OnTee, Give, Settle}
use Rattle.ws_steps.specs.declared.effects.Gift.TheVariants.{This}
use Rattle.ws_steps.specs.declared.effects.Use.TheVariants.{Resolve}
use Rattle.ws_value.specs.declared.value.Plain.TheVariants.{Pair}
use Rattle.ws_steps.specs.declared.promises.Micro.TheVariants.{TeeHand}
use Rattle.ws_steps.specs.declared.readable.ReadRequest.TheVariants.{Tee as TeeRequest}
use Rattle.ws_steps.specs.declared.readable.ReadableOperation.{ReadableOperation}
use Rattle.ws_steps.specs.declared.readable.ReadableOperation.TheVariants.{Read, Cancel, Enqueue as EnqueueChunk, Close as CloseReadable, Error as ErrorReadable}
use Rattle.ws_steps.specs.declared.tee.Half.{Half}
use Rattle.ws_steps.specs.declared.tee.Half.TheVariants.{First, Second}
use Rattle.ws_steps.specs.declared.tee.TeeOperation.{TeeOperation}
use Rattle.ws_steps.specs.declared.tee.TeeOperation.TheVariants.{PullBranch, KeepChunk, SourceClosed, SourceErrored, HandChunk, Handed, CancelBranch, ReaderSettled}
use Rattle.ws_steps.specs.declared.tee.TeePhase.{TeePhase}
use Rattle.ws_steps.specs.declared.tee.TeePhase.TheVariants.{Resting, Reading, Over}
use Rattle.ws_steps.specs.Operations.{tee_operation}
use Rattle.ws_steps.specs.Tee.{Acts, Slots, causing, queueing, done, reason_of, with_reason, is_wanted, unless_cancelled, on_branches, fulfil_cancel, pull_in, pull_branch, keep_chunk, close_branches, close_in, source_closed, source_errored, hand_held, hand_chunk, rested, again, handed, resolve_cancel, cancel_source, if_both, cancel_by, cancel_branch, reader_settled}
use Rattle.ws_alike.specs.Named.{one, in_use, in_readable_operation, in_tee, in_tee_operation, in_effects, in_effect}
use Rattle.ws_alike.specs.Blind.{LeavesAlone, EachTeeOperationIsBlind, tees, view_of}
use Rattle.ws_alike.proofs.Lists.{all-append}

law : Lawful Acts Slots tees
law = record { put_slots = λ s out. refl; put_out = λ s out. refl }

-- what of one operation is to be shown
abbrev Blind : PromiseId → (Acts → Acts) → Acts → Type 0
Blind p f a = LeavesAlone Acts (view_of tees) p f a

abbrev Fit : PromiseId → Acts → Type 0
Fit p a = Fits Acts (view_of tees) p a

unless-none : (p : PromiseId) (o : Option Plain) (i : StreamId) (operation : ReadableOperation) → in_readable_operation p operation ≡ 0 → in_effects p (unless_cancelled o i operation) ≡ 0
unless-none p None i operation n = omega (arith, n)
unless-none p (Some r) i operation n = refl

branches-none : (p : PromiseId) (operation : ReadableOperation) (s : Slots) → in_readable_operation p operation ≡ 0 → in_effects p (on_branches operation s) ≡ 0
branches-none p operation s n =
    let app = all-append (in_effect p) (unless_cancelled s.reason1 s.branch1 operation) (unless_cancelled s.reason2 s.branch2 operation) in
    omega (arith, app, unless-none p s.reason1 s.branch1 operation n, unless-none p s.reason2 s.branch2 operation n)

fulfil_cancel-blind : (p : PromiseId) (a : Acts) → Fit p a → Blind p fulfil_cancel a
fulfil_cancel-blind p a fits =
    let h : Slots → Slots = λ s. record s { answered = true } in
    let m = after-quiet law p h (causing (Settle a.slots.cancel done ∷ [])) a fits (omega arith) (λ f. causes law p _ _ f (omega (arith, fits.none))) in
    let k = by-test p (λ b. causing (Settle a.slots.cancel done ∷ []) (record b { slots = h b.slots })) (λ b. b) (is_wanted a.slots && not a.slots.answered) a m (stays p a fits) in
    record { blind = k.blind; unnamed = k.unnamed; more = k.more }

pull_in-blind : (p : PromiseId) (me : TeeId) (a : Acts) (phase : TeePhase) → Fit p a → Blind p (λ b. pull_in me b phase) a
pull_in-blind p me a Resting fits = let k = after-quiet law p (λ s. record s { phase = Reading }) (causing (OnReadable a.slots.source (Read (TeeRequest me)) ∷ [])) a fits (omega arith) (λ f. causes law p _ _ f refl) in record { blind = k.blind; unnamed = k.unnamed; more = k.more }
pull_in-blind p me a Reading fits = quiet law p (λ s. record s { read_again = true }) a fits (omega arith)
pull_in-blind p me a Over fits = stays p a fits

pull-blind : (p : PromiseId) (me : TeeId) (a : Acts) → Fit p a → Blind p (pull_branch me) a
unfolding pull_branch
pull-blind p me a fits = let k = pull_in-blind p me a a.slots.phase fits in record { blind = k.blind; unnamed = k.unnamed; more = k.more }

keep-blind : (p : PromiseId) (me : TeeId) (v : Value) (a : Acts) → Fit p a → Blind p (keep_chunk me v) a
unfolding keep_chunk
keep-blind p me v a fits = after-quiet law p (λ s. record s { held = Some v }) (queueing (TeeHand me)) a fits (omega arith) (queues law p (TeeHand me) _)

close_branches-blind : (p : PromiseId) (a : Acts) → Fit p a → Blind p close_branches a
close_branches-blind p a fits =
    let es = on_branches CloseReadable a.slots in
    let h : Slots → Slots = λ s. record s { phase = Over } in
    let k = after-quiet law p h (λ b. fulfil_cancel (causing es b)) a fits (omega arith)
    (λ f. then-blind p (causing es) fulfil_cancel (record a { slots = h a.slots }) (causes law p es _ f (branches-none p CloseReadable a.slots refl)) (fulfil_cancel-blind p _) f) in
    record { blind = k.blind; unnamed = k.unnamed; more = k.more }

close_in-blind : (p : PromiseId) (a : Acts) (phase : TeePhase) → Fit p a → Blind p (λ b. close_in b phase) a
close_in-blind p a Resting fits = close_branches-blind p a fits
close_in-blind p a Reading fits = close_branches-blind p a fits
close_in-blind p a Over fits = stays p a fits

source_closed-blind : (p : PromiseId) (a : Acts) → Fit p a → Blind p source_closed a
unfolding source_closed
source_closed-blind p a fits = let k = close_in-blind p a a.slots.phase fits in record { blind = k.blind; unnamed = k.unnamed; more = k.more }

source_errored-blind : (p : PromiseId) (a : Acts) → Fit p a → Blind p source_errored a
unfolding source_errored
source_errored-blind p a fits = quiet law p (λ s. record s { phase = Over }) a fits (omega arith)

hand_held-blind : (p : PromiseId) (me : TeeId) (a : Acts) (o : Option Value) → Fit p a → Blind p (λ b. hand_held me b o) a
hand_held-blind p me a None fits = stays p a fits
hand_held-blind p me a (Some v) fits =
    let es = on_branches (EnqueueChunk v) a.slots ++ OnTee me Handed ∷ [] in
    let app = all-append (in_effect p) (on_branches (EnqueueChunk v) a.slots) (OnTee me Handed ∷ []) in
    let k = after-quiet law p (λ s. record s { held = None; read_again = false }) (causing es) a fits (omega arith) (λ f. causes law p es _ f (omega (arith, app, branches-none p (EnqueueChunk v) a.slots refl))) in
    record { blind = k.blind; unnamed = k.unnamed; more = k.more }

hand-blind : (p : PromiseId) (me : TeeId) (a : Acts) → Fit p a → Blind p (hand_chunk me) a
unfolding hand_chunk
hand-blind p me a fits = let k = hand_held-blind p me a a.slots.held fits in record { blind = k.blind; unnamed = k.unnamed; more = k.more }

again-blind : (p : PromiseId) (me : TeeId) (a : Acts) (b : Bool) → Fit p a → Blind p (λ c. again me c b) a
again-blind p me a true fits = pull-blind p me a fits
again-blind p me a false fits = stays p a fits

handed-blind : (p : PromiseId) (me : TeeId) (a : Acts) → Fit p a → Blind p (handed me) a
unfolding handed
handed-blind p me a fits = let k = after-quiet law p (λ s. record s { phase = rested s.phase }) (λ b. again me b a.slots.read_again) a fits (omega arith) (again-blind p me _ a.slots.read_again) in record { blind = k.blind; unnamed = k.unnamed; more = k.more }

-- cancelling

resolve-blind : (p q : PromiseId) (a : Acts) → one p q ≡ 0 → Fit p a → Blind p (resolve_cancel q) a
resolve-blind p q a n fits =
    let h : Slots → Slots = λ s. record s { answered = true } in
    let es : List Effect = Give (This q) (Resolve a.slots.cancel) ∷ [] in
    let m = after-quiet law p h (causing es) a fits (omega arith) (λ f. causes law p es _ f (omega (arith, n, fits.none))) in
    let k = by-test p (λ b. b) (λ b. causing es (record b { slots = h b.slots })) a.slots.answered a (stays p a fits) m in
    record { blind = k.blind; unnamed = k.unnamed; more = k.more }

cancel_source-blind : (p : PromiseId) (me : TeeId) (a : Acts) → Fit p a → Blind p (cancel_source me) a
cancel_source-blind p me a fits = freshly law p (λ q b. resolve_cancel q (causing (OnReadable b.slots.source (Cancel (Pair me) q) ∷ []) b)) a fits
    (λ q n f.
    let es : List Effect = OnReadable a.slots.source (Cancel (Pair me) q) ∷ [] in
    let j = then-blind p (causing es) (resolve_cancel q) (made tees a) (causes law p es (made tees a) f (omega (arith, n))) (resolve-blind p q (causing es (made tees a)) n) f in
    record { blind = j.blind; unnamed = j.unnamed; more = j.more })

if_both-blind : (p : PromiseId) (me : TeeId) (a : Acts) → Fit p a → Blind p (if_both me) a
if_both-blind p me a fits = let k = by-test p (λ b. b) (cancel_source me) (is_wanted a.slots) a (stays p a fits) (cancel_source-blind p me a fits) in record { blind = k.blind; unnamed = k.unnamed; more = k.more }

reason-names : (p : PromiseId) (half : Half) (r : Plain) (s : Slots) → in_tee p (with_reason half r s) ≤ in_tee p s
reason-names p First r s = omega arith
reason-names p Second r s = omega arith

cancel_by-blind : (p : PromiseId) (me : TeeId) (half : Half) (r : Plain) (a : Acts) (o : Option Plain) → Fit p a → Blind p (λ b. cancel_by me half r b o) a
cancel_by-blind p me half r a (Some old) fits = stays p a fits
cancel_by-blind p me half r a None fits = after-quiet law p (with_reason half r) (if_both me) a fits (reason-names p half r a.slots) (if_both-blind p me _)

cancel-blind : (p : PromiseId) (me : TeeId) (half : Half) (r : Plain) (u : Use) (a : Acts) → in_use p u ≡ 0 → Fit p a → Blind p (cancel_branch me half r u) a
unfolding cancel_branch
cancel-blind p me half r u a n fits =
    let es : List Effect = Give (This a.slots.cancel) u ∷ [] in
    let k = then-blind p (λ b. cancel_by me half r b (reason_of half a.slots)) (causing es) a (cancel_by-blind p me half r a (reason_of half a.slots) fits) (λ f. causes law p es _ f (omega (arith, n, fits.none))) fits in
    record { blind = k.blind; unnamed = k.unnamed; more = k.more }

reader_settled-blind : (p : PromiseId) (o : Result Plain Plain) (a : Acts) → Fit p a → Blind p (reader_settled o) a
unfolding reader_settled
reader_settled-blind p (Ok v) a fits = stays p a fits
reader_settled-blind p (Err r) a fits =
    let es : List Effect = OnReadable a.slots.branch1 (ErrorReadable r) ∷ OnReadable a.slots.branch2 (ErrorReadable r) ∷ [] in
    let k = then-blind p (causing es) fulfil_cancel a (causes law p es a fits refl) (fulfil_cancel-blind p _) fits in
    record { blind = k.blind; unnamed = k.unnamed; more = k.more }

-- each operation

operation-blind : (p : PromiseId) (i : TeeId) (operation : TeeOperation) (a : Acts) → in_tee_operation p operation ≡ 0 → Fit p a → Blind p (tee_operation i operation) a
operation-blind p i PullBranch a n fits = pull-blind p i a fits
operation-blind p i (KeepChunk v) a n fits = keep-blind p i v a fits
operation-blind p i SourceClosed a n fits = source_closed-blind p a fits
operation-blind p i SourceErrored a n fits = source_errored-blind p a fits
operation-blind p i HandChunk a n fits = hand-blind p i a fits
operation-blind p i Handed a n fits = handed-blind p i a fits
operation-blind p i (CancelBranch half r u) a n fits = cancel-blind p i half r u a n fits
operation-blind p i (ReaderSettled o) a n fits = reader_settled-blind p o a fits

pub tees-blind : EachTeeOperationIsBlind
tees-blind i operation p a made none = operation-blind p i operation a (omega (arith, none)) (record { made = made; none = omega (arith, none) })
