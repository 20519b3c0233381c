-- How a response that fills what is wanted is committed.
use Rattle.std.proofs.Common.{◌≡◌, ◌∙◌, ℕ, ◌+◌, ◌-◌, ◌%◌, ◌≤◌, Bool, true, false, if◌then◌else◌, Some, None, List, [], ◌∷◌, ◌++◌, length, take, drop, refl, sym, ap, arith}
use Rattle.std.proofs.lemmas.List.{append-nil, length-append}
use Rattle.ws_value.specs.declared.ids.StreamId.{StreamId}
use Rattle.ws_steps.specs.Bytes.{Acts, is_closed, invalidate_request, call_pull_if_needed, commit_to, commit_all, put_processed, respond_internal, respond_first, respond_closed, respond_readable, respond_full}
use Rattle.ws_steps.specs.Descriptors.{Descriptor, rest_of, Processed, process_descriptors}
use Rattle.ws_steps.specs.Queues.{append_bytes}
use Rattle.ws_descriptors.specs.Seen.{before, IsFine}
use Rattle.ws_byte.specs.Seen.{with_first, first_of}
use Rattle.ws_descriptors.proofs.Elements.{kept_front, kept_rest, whole_stays}

-- what is a part of an element came with the response
pub part_came : (d : Descriptor) (n : ℕ) → IsFine d → d.minimum ≤ length d.filled + n → (length d.filled + n) % d.element ≤ n
part_came d n fine full =
    let stays = whole_stays (length d.filled + n) d.element d.minimum fine.element fine.whole full in
    omega (arith, stays, fine.wanted)

kept_is : (d : Descriptor) (bytes : List ℕ) (whole : ℕ) → (length d.filled + length bytes) % d.element ≤ length bytes
    → whole ≡ length bytes - ((length d.filled + length bytes) % d.element)
    → length (d.filled ++ bytes) - (length (d.filled ++ bytes) % d.element) ≡ length d.filled + whole
kept_is d bytes whole few is = rw (length-append d.filled bytes) (omega (arith, few, is))

pub full_committed : (me : StreamId) (a after : Acts) (d : Descriptor) (bytes part full : List ℕ) (whole : ℕ) (ready waiting : List Descriptor) (queue : List (List ℕ))
    → (length d.filled + length bytes) % d.element ≤ length bytes → whole ≡ length bytes - ((length d.filled + length bytes) % d.element)
    → part ≡ drop whole bytes → full ≡ d.filled ++ take whole bytes
    → before ready (record { ready = []; waiting = waiting; queue = queue }) ≡ process_descriptors a.slots.descriptors (append_bytes part a.slots.queue)
    → after ≡ commit_all me ready (commit_to me full (put_processed (record { ready = ready; waiting = waiting; queue = queue }) a) a.slots.stream.requests)
    → after ≡ respond_full me (record d { filled = d.filled ++ bytes }) (with_first d a)
full_committed me a after d bytes part full whole ready waiting queue few is cut filled processed e =
    let all : List ℕ = d.filled ++ bytes in
    let kept : ℕ = length all - (length all % d.element) in
    let k : kept ≡ length d.filled + whole = kept_is d bytes whole few is in
    let small : whole ≤ length bytes = omega (arith, is) in
    let P : List ℕ → Processed = λ b. process_descriptors a.slots.descriptors (append_bytes b a.slots.queue) in
    let F : List ℕ → List ℕ → Acts = λ b f. commit_all me (P b).ready (commit_to me f (put_processed (P b) a) a.slots.stream.requests) in
    let same : record { ready = ready; waiting = waiting; queue = queue } ≡ P part =
    ap (λ (rs : List Descriptor). record { ready = rs; waiting = waiting; queue = queue }) (sym (append-nil ready)) ∙ processed in
    let rest : part ≡ drop kept all = cut ∙ (sym (kept_rest d.filled bytes whole small) ∙ ap (λ (n : ℕ). drop n all) (sym k)) in
    let front : full ≡ take kept all = filled ∙ (sym (kept_front d.filled bytes whole small) ∙ ap (λ (n : ℕ). take n all) (sym k)) in
    e
    ∙ (ap (λ (y : Processed). commit_all me y.ready (commit_to me full (put_processed y a) a.slots.stream.requests)) same
    ∙ (ap (λ (b : List ℕ). F b full) rest ∙ ap (F (drop kept all)) front))

-- where a response goes

pub if_true : {X : Type 0} (t : Bool) (x y : X) → t ≡ true → (if t then x else y) ≡ x
if_true true x y h = refl
if_true false x y h = absurd (cc)

pub if_false : {X : Type 0} (t : Bool) (x y : X) → t ≡ false → (if t then x else y) ≡ y
if_false true x y h = absurd (cc)
if_false false x y h = refl

pub first_rest : (ds : List Descriptor) (d : Descriptor) → Some d ≡ first_of ds → d ∷ rest_of ds ≡ ds
first_rest [] d h = absurd (cc)
first_rest (x ∷ xs) d h = cc

-- the first descriptor and the request are taken out
abbrev pub taken_out : Acts → Acts
taken_out a = record a { slots = record a.slots { request = None; descriptors = rest_of a.slots.descriptors } }

put_back : (a : Acts) (d : Descriptor) → Some d ≡ first_of a.slots.descriptors → with_first d (taken_out a) ≡ invalidate_request a
put_back a d h = ap (λ (ds : List Descriptor). record a { slots = record a.slots { request = None; descriptors = ds } }) (first_rest a.slots.descriptors d h)

to_first : (me : StreamId) (b : List ℕ) (a : Acts) (d : Descriptor) → Some d ≡ first_of a.slots.descriptors
    → respond_internal me b a ≡ respond_first me b (invalidate_request a) (d ∷ rest_of a.slots.descriptors)
to_first me b a d h = ap (respond_first me b (invalidate_request a)) (sym (first_rest a.slots.descriptors d h))

pub responded_closed : (me : StreamId) (b : List ℕ) (a after : Acts) (d : Descriptor) → Some d ≡ first_of a.slots.descriptors → is_closed a.slots.stream.state ≡ true
    → after ≡ respond_closed me d (with_first d (taken_out a)) → after ≡ respond_internal me b a
responded_closed me b a after d h closed e =
    e ∙ (ap (respond_closed me d) (put_back a d h) ∙ sym (to_first me b a d h ∙ if_true (is_closed a.slots.stream.state) _ _ closed))

pub responded_readable : (me : StreamId) (b : List ℕ) (a after : Acts) (d : Descriptor) → Some d ≡ first_of a.slots.descriptors → is_closed a.slots.stream.state ≡ false
    → after ≡ call_pull_if_needed me (respond_readable me (record d { filled = d.filled ++ b }) (with_first d (taken_out a))) → after ≡ respond_internal me b a
responded_readable me b a after d h not_closed e =
    e
    ∙ (ap (λ (x : Acts). call_pull_if_needed me (respond_readable me (record d { filled = d.filled ++ b }) x)) (put_back a d h)
    ∙ sym (to_first me b a d h ∙ if_false (is_closed a.slots.stream.state) _ _ not_closed))
