-- Requests that are served from the queue, where a close wasn't requested.
use Rattle.std.proofs.Common.{◌≡◌, ◌∙◌, ℕ, Bool, true, false, ◌&&◌, List, [], ◌∷◌, Some, refl, sym, ap}
use Rattle.std.proofs.lemmas.List.{append-nil}
use Rattle.ws_steps.specs.Descriptors.{Descriptor, Processed}
use Rattle.ws_steps.specs.Readable as readable
use Rattle.ws_readable.specs.Seen.{request_taken, after_request_taken}
use Rattle.ws_descriptors.specs.Seen.{before}
use Rattle.ws_value.specs.declared.ids.StreamId.{StreamId}
use Rattle.ws_value.specs.declared.value.Value.TheVariants.{Bytes}
use Rattle.ws_steps.specs.declared.effects.Effect.TheVariants.{ChunkSteps}
use Rattle.ws_steps.specs.declared.readable.ReadRequest.{ReadRequest}
use Rattle.ws_steps.specs.Bytes.{Acts, with_slots, with_requests, causing, call_pull_if_needed, handle_queue_drain, process_requests, processed_of, put_processed, commit_all, process_and_commit}
use Rattle.ws_steps.specs.Queues.{is_empty}

-- with nothing queued none is served
pub none_served : (me : StreamId) (qs : List ReadRequest) (a : Acts) → a.slots.queue ≡ [] → process_requests me qs a ≡ a
none_served me [] a h = refl
none_served me (q ∷ qs) a h = rw h refl

and_false : (x : Bool) → (x && false) ≡ false
and_false true = refl
and_false false = refl

-- a drain where a close wasn't requested only pulls
pub open_drain : (me : StreamId) (a : Acts) → a.slots.stream.close_requested ≡ false → handle_queue_drain me a ≡ call_pull_if_needed me a
unfolding handle_queue_drain
open_drain me a h = rw (h, and_false (is_empty a.slots.queue)) refl

-- the first request gets the first entry
pub first_served : (me : StreamId) (q : ReadRequest) (qs : List ReadRequest) (b : List ℕ) (bs : List (List ℕ)) (a : Acts) → a.slots.queue ≡ b ∷ bs → a.slots.stream.close_requested ≡ false
    → process_requests me (q ∷ qs) a
    ≡ process_requests me qs (causing (ChunkSteps me q (Bytes b)) (call_pull_if_needed me (with_slots (record (with_requests qs a).slots { queue = bs }) (with_requests qs a))))
first_served me q qs b bs a h open_yet =
    rw h
    (ap (λ (x : Acts). process_requests me qs (causing (ChunkSteps me q (Bytes b)) x))
    (open_drain me (with_slots (record (with_requests qs a).slots { queue = bs }) (with_requests qs a)) open_yet))

pub empty_queue : (queue : List (List ℕ)) → is_empty queue ≡ true → queue ≡ []
empty_queue [] h = refl
empty_queue (b ∷ bs) h = absurd (cc)

pub taken_split : (s : readable.Slots) (rs : List ReadRequest) (q : ReadRequest) → Some q ≡ request_taken rs
    → (qs : List ReadRequest) × (rs ≡ q ∷ qs) × (after_request_taken s rs ≡ record s { requests = qs })
taken_split s [] q h = absurd (cc)
taken_split s (r ∷ rs) q h = (rs, (cc), refl)

pub served_on : (me : StreamId) (q : ReadRequest) (qs : List ReadRequest) (b : List ℕ) (bs : List (List ℕ)) (a after : Acts)
    → a.slots.stream.requests ≡ q ∷ qs → a.slots.queue ≡ b ∷ bs → a.slots.stream.close_requested ≡ false
    → after ≡ causing (ChunkSteps me q (Bytes b)) (call_pull_if_needed me (with_slots (record (with_requests qs a).slots { queue = bs }) (with_requests qs a)))
    → after.slots.stream.requests ≡ qs
    → process_requests me after.slots.stream.requests after ≡ process_requests me a.slots.stream.requests a
served_on me q qs b bs a after requests queue open_yet is left =
    ap (λ (rs : List ReadRequest). process_requests me rs after) left
    ∙ (ap (process_requests me qs) is
    ∙ (sym (first_served me q qs b bs a queue open_yet) ∙ ap (λ (rs : List ReadRequest). process_requests me rs a) (sym requests)))

-- what is processed is committed
pub committed : (me : StreamId) (a after : Acts) (ready waiting : List Descriptor) (queue : List (List ℕ))
    → before ready (record { ready = []; waiting = waiting; queue = queue }) ≡ processed_of a
    → after ≡ commit_all me ready (put_processed (record { ready = ready; waiting = waiting; queue = queue }) a) → after ≡ process_and_commit me a
committed me a after ready waiting queue h e =
    let x : Processed = record { ready = ready; waiting = waiting; queue = queue } in
    let same : x ≡ processed_of a = ap (λ (rs : List Descriptor). record { ready = rs; waiting = waiting; queue = queue }) (sym (append-nil ready)) ∙ h in
    e ∙ ap (λ (y : Processed). commit_all me y.ready (put_processed y a)) same
