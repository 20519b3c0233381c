-- Bytes are responded.
use Rattle.std.proofs.Common.{◌≡◌, ◌≢◌, ◌<◌, ◌≤◌, ◌⊎◌, inl, inr, ℕ, suc, ◌+◌, ◌-◌, ◌%◌, true, false, List, [], ◌∷◌, ◌++◌, length, take, drop, refl, sym, ◌∙◌, append_assoc, append-nil, arith, length-append, length-drop, nat_lt, ltb-true}
use Rattle.std.proofs.lemmas.List.{take-append-drop}
use Rattle.ws_steps.specs.Bytes.{Acts, commit_all, detached_to_queue, put_first, respond_full, respond_readable}
use Rattle.ws_steps.specs.Descriptors.{Descriptor, is_for_nobody, Processed, process_descriptors}
use Rattle.ws_steps.specs.Queues.{append_bytes}
use Rattle.ws_steps.specs.ByteHistory.{joined, first_filled}
use Rattle.ws_steps.specs.declared.byte.RoomKind.{RoomKind}
use Rattle.ws_steps.specs.declared.byte.RoomKind.TheVariants.{ForDefault, ForByob, ForNobody}
use Rattle.ws_steps.specs.declared.readable.ReadRequest.{ReadRequest}
use Rattle.ws_value.specs.declared.ids.StreamId.{StreamId}
use Rattle.ws_laws.proofs.Tables.{either}
use Rattle.ws_byte_laws.proofs.Cutting.{joined_bytes, drop_all}
use Rattle.ws_byte_laws.proofs.Filling.{line_of, later_filled, filled, handed, Done, processed}
use Rattle.ws_byte_laws.proofs.Given.{given, given_last}
use Rattle.ws_byte_laws.proofs.Fine.{Fine, given_commit, Committed, committed}
use Rattle.ws_byte_laws.proofs.Ranged.{Ranged, good_line, processed_fine, swapped}
use Rattle.ws_byte_laws.proofs.Enqueue.{none_left, fit_empty}
use Rattle.ws_byte_laws.specs.Descriptors.{Fit, AllLater, First, Good, requests_of, reads}

-- the first descriptor with more bytes
abbrev with_bytes : Descriptor → List ℕ → Descriptor
with_bytes d b = record d { filled = d.filled ++ b }

is_nobody : (t : RoomKind) → is_for_nobody t ≡ true → t ≡ ForNobody
is_nobody ForNobody e = refl
is_nobody ForByob e = cc
is_nobody ForDefault e = cc

nobody_all : (E g : List ℕ) (r : RoomKind) (filled b : List ℕ) (ds : List Descriptor) (q : List (List ℕ)) → AllLater r ds → (filled ≢ [] → q ≡ []) → E ≡ g ++ (filled ++ joined q)
    → E ++ b ≡ g ++ (first_filled ds ++ joined (append_bytes (filled ++ b) q))
nobody_all E g r filled b ds q l h e =
    let k : filled ++ joined q ≡ joined q ++ filled = swapped filled q h ∙ joined_bytes filled q in
    rw (later_filled r ds l, joined_bytes, e, k, append_assoc, append_assoc) refl

-- for nobody: the filled bytes go to the queue
for_nobody : (E b : List ℕ) (a : Acts) (d : Descriptor) (ds : List Descriptor) → d ∷ ds ≡ a.slots.descriptors → Fine E a → d.room_kind ≡ ForNobody
    → Ranged (E ++ b) (detached_to_queue (put_first (with_bytes d b) a))
for_nobody E b a d ds e f t =
    let r : RoomKind = reads a.slots.stream.reader a.slots.reader_kind in
    let g : Good r (d ∷ ds) a.slots.queue (requests_of a.slots) = rw (← e) at f.good in
    let h : First ForNobody r d.filled (length ds) a.slots.queue (requests_of a.slots) = rw t at g.2 in
    let all : E ≡ given a.out.effects ++ (d.filled ++ joined a.slots.queue) = rw (← e) at f.all in
    rw (← e)
    (record {
      readable = f.readable;
      all = nobody_all E (given a.out.effects) r d.filled b ds a.slots.queue g.1 h.0 all;
      line = line_of r ds g.1;
      enough = h.1;
      none = h.3;
    })

still_first : (t r : RoomKind) (x y : List ℕ) (k : ℕ) (q : List (List ℕ)) (n : ℕ) → is_for_nobody t ≡ false → First t r x k q n → First t r y k q n
still_first ForNobody r x y k q n e f = cc
still_first ForByob r x y k q n e f = f
still_first ForDefault r x y k q n e f = f

none_added : (x b : List ℕ) → length (x ++ b) < 1 → b ≡ []
none_added x [] h = refl
none_added x (y ∷ b) h = absurd (omega (arith, length-append x (y ∷ b)))

-- nothing is queued, or no bytes came
short_by : (t r : RoomKind) (d : Descriptor) (b : List ℕ) (k : ℕ) (q : List (List ℕ)) (n : ℕ) → t ≡ d.room_kind → is_for_nobody t ≡ false → Fit d → First t r d.filled k q n → length (d.filled ++ b) < d.minimum → (q ≡ []) ⊎ (b ≡ [])
short_by ForNobody r d b k q n t e f g s = cc
short_by ForByob r d b k q n t e f g s = inl (g.1)
short_by ForDefault r d b k q n t e f g s = let m = f.minimum (sym t) in inr (none_added d.filled b (omega arith))

short_all : (E g x b : List ℕ) (q : List (List ℕ)) → (q ≡ []) ⊎ (b ≡ []) → E ≡ g ++ (x ++ joined q) → E ++ b ≡ g ++ ((x ++ b) ++ joined q)
short_all E g x b q (inl h) e = rw (e, h, append-nil, append-nil, append_assoc) refl
short_all E g x b q (inr h) e = rw (e, h, append-nil, append-nil) refl

too_short : (E b : List ℕ) (a : Acts) (d : Descriptor) (ds : List Descriptor) → d ∷ ds ≡ a.slots.descriptors → Fine E a → is_for_nobody d.room_kind ≡ false → length (d.filled ++ b) < d.minimum
    → Fine (E ++ b) (put_first (with_bytes d b) a)
too_short E b a d ds e f t s =
    let r : RoomKind = reads a.slots.stream.reader a.slots.reader_kind in
    let g : Good r (d ∷ ds) a.slots.queue (requests_of a.slots) = rw (← e) at f.good in
    let all : E ≡ given a.out.effects ++ (d.filled ++ joined a.slots.queue) = rw (← e) at f.all in
    rw (← e)
    (record {
      readable = f.readable;
      all = short_all E (given a.out.effects) d.filled b a.slots.queue (short_by d.room_kind r d b (length ds) a.slots.queue (requests_of a.slots) refl t g.0 g.2 s) all;
      good = (record { units = g.0.units; whole = g.0.whole; short = s; room = g.0.room; element = g.0.element; minimum = g.0.minimum }, g.1, still_first d.room_kind r d.filled (d.filled ++ b) (length ds) a.slots.queue (requests_of a.slots) t g.2);
    })

-- whole elements are committed, the rest goes to the queue

abbrev whole_part : ℕ → List ℕ → ℕ
whole_part e x = length x - (length x % e)

full_all : (E g x b : List ℕ) (k : ℕ) (q q1 : List (List ℕ)) (f h w : List ℕ) → q ≡ [] → E ≡ g ++ (x ++ joined q) → f ≡ [] → q1 ≡ append_bytes (drop k (x ++ b)) q → f ++ joined q1 ≡ h ++ w
    → E ++ b ≡ (g ++ (take k (x ++ b) ++ h)) ++ w
full_all E g x b k q q1 f h w e a n i p =
    let j : joined q1 ≡ drop k (x ++ b) = rw (i, joined_bytes, e) refl in
    let c : h ++ w ≡ drop k (x ++ b) = sym p ∙ rw n j in
    rw (append_assoc, append_assoc, c, take-append-drop, a, e, append-nil, append_assoc) refl

left_over : (m n k : ℕ) → m ≡ n - k → m ≡ n - k
left_over m n k e = e

full_byob : (me : StreamId) (E b : List ℕ) (a : Acts) (d : Descriptor) (ds : List Descriptor) → d ∷ ds ≡ a.slots.descriptors → Fine E a
    → reads a.slots.stream.reader a.slots.reader_kind ≡ ForByob → a.slots.queue ≡ [] → length ds < requests_of a.slots → AllLater (reads a.slots.stream.reader a.slots.reader_kind) ds → E ≡ given a.out.effects ++ (d.filled ++ joined a.slots.queue)
    → Fine (E ++ b) (respond_full me (with_bytes d b) (record a { slots = record a.slots { descriptors = d ∷ ds } }))
full_byob me E b a d ds e f t q n l all =
    let r : RoomKind = reads a.slots.stream.reader a.slots.reader_kind in
    let x : List ℕ = d.filled ++ b in
    let k : ℕ = whole_part d.element x in
    let q1 : List (List ℕ) = append_bytes (drop k x) a.slots.queue in
    let y : Processed = process_descriptors ds q1 in
    let p : Done r ds q1 y = processed r ds q1 (line_of r ds l) in
    let c : Acts = record a { slots = record a.slots { descriptors = y.waiting; queue = y.queue } } in
    let ready : List Descriptor = record d { filled = take k x } ∷ y.ready in
    let m : length y.ready + length y.waiting ≡ length ds = p.count in
    let z : Acts = commit_all me ready c in
    let w : Committed ready c z = committed me ready c (omega arith) in
    let left : length (drop (length ready) a.slots.stream.requests) ≡ requests_of a.slots - length ready = length-drop (length ready) a.slots.stream.requests in
    record {
      readable = rw w.slots f.readable;
      all = rw (w.slots, w.bytes) (full_all E (given a.out.effects) d.filled b k a.slots.queue q1 (first_filled ds) (handed y.ready) (first_filled y.waiting ++ joined y.queue) q all (later_filled r ds l) refl p.bytes);
      good = rw w.slots (good_line r y.waiting y.queue (length (drop (length ready) a.slots.stream.requests)) p.line p.clear (omega arith) (λ i. absurd (cc)));
    }

-- an element is one byte: there is no rest
no_part : (e : ℕ) (x : List ℕ) → e ≡ 1 → drop (whole_part e x) x ≡ []
no_part e x h = rw h (drop_all (whole_part 1 x) x (omega arith))

all_taken : (k : ℕ) (x : List ℕ) → drop k x ≡ [] → take k x ≡ x
all_taken k x e = sym (append-nil (take k x)) ∙ (rw e at (take-append-drop k x))

alone_all : (E g x b : List ℕ) (k : ℕ) (q : List (List ℕ)) → x ≡ [] → drop k (x ++ b) ≡ [] → E ≡ g ++ (x ++ joined q) → E ++ b ≡ g ++ joined (append_bytes (take k (x ++ b)) q)
alone_all E g x b k q n d e = rw (all_taken k (x ++ b) d, joined_bytes, e, n, append_assoc) refl

-- processed without a queue
unprocessed : (ds : List Descriptor) → process_descriptors ds [] ≡ record { ready = []; waiting = ds; queue = [] }
unprocessed [] = refl
unprocessed (d ∷ ds) = refl

default_good : (r : RoomKind) (ds : List Descriptor) (n : ℕ) → r ≡ ForDefault → AllLater r ds → length ds ≤ suc n → Good r ds [] n
default_good r [] n e l h = λ f. absurd (cc)
default_good r (d ∷ ds) n e l h = let t : d.room_kind ≡ ForDefault = l.0.room_kind ∙ e in (l.0.fit, l.1, rw t (e, omega arith, λ m. refl))

paid_all : (E g x b f : List ℕ) (k : ℕ) (q : List (List ℕ)) → x ≡ [] → drop k (x ++ b) ≡ [] → q ≡ [] → f ≡ [] → E ≡ g ++ (x ++ joined q) → E ++ b ≡ (g ++ take k (x ++ b)) ++ (f ++ [])
paid_all E g x b f k q n d h i e = rw (all_taken k (x ++ b) d, i, e, n, h, append-nil, append-nil) refl

-- for a default reader, by the requests that wait
full_default : (me : StreamId) (E b : List ℕ) (a : Acts) (d : Descriptor) (ds : List Descriptor) (qs : List ReadRequest) → qs ≡ a.slots.stream.requests → Fine E a
    → reads a.slots.stream.reader a.slots.reader_kind ≡ ForDefault → d.filled ≡ [] → d.element ≡ 1 → length ds ≤ length qs → (length qs ≢ 0 → a.slots.queue ≡ []) → AllLater (reads a.slots.stream.reader a.slots.reader_kind) ds → E ≡ given a.out.effects ++ (d.filled ++ joined a.slots.queue)
    → Fine (E ++ b) (respond_full me (with_bytes d b) (record a { slots = record a.slots { descriptors = d ∷ ds } }))
full_default me E b a d ds [] e f t x o n q l all =
    let gone : ds ≡ [] = none_left ds 0 n refl in
    let y : List ℕ = d.filled ++ b in
    let k : ℕ = whole_part d.element y in
    let part : drop k y ≡ [] = no_part d.element y o in
    rw (gone, part, ← e)
    (record {
      readable = f.readable;
      all = alone_all E (given a.out.effects) d.filled b k a.slots.queue x part all;
      good = λ i. absurd (cc);
    })
full_default me E b a d ds (r ∷ qs) e f t x o n q l all =
    let y : List ℕ = d.filled ++ b in
    let k : ℕ = whole_part d.element y in
    let part : drop k y ≡ [] = no_part d.element y o in
    let empty : a.slots.queue ≡ [] = q (λ m. omega arith) in
    rw (part, empty, unprocessed ds, ← e)
    (record {
      readable = f.readable;
      all = rw (given_last, given_commit) (paid_all E (given a.out.effects) d.filled b (first_filled ds) k a.slots.queue x part empty (later_filled _ ds l) all);
      good = default_good (reads a.slots.stream.reader a.slots.reader_kind) ds (length qs) t l n;
    })

full_by : (me : StreamId) (E b : List ℕ) (a : Acts) (d : Descriptor) (ds : List Descriptor) (t : RoomKind) → d ∷ ds ≡ a.slots.descriptors → t ≡ d.room_kind → is_for_nobody t ≡ false → Fine E a
    → First t (reads a.slots.stream.reader a.slots.reader_kind) d.filled (length ds) a.slots.queue (requests_of a.slots) → Fit d → AllLater (reads a.slots.stream.reader a.slots.reader_kind) ds
    → Fine (E ++ b) (respond_full me (with_bytes d b) (record a { slots = record a.slots { descriptors = d ∷ ds } }))
full_by me E b a d ds ForNobody e i n f g fit l = cc
full_by me E b a d ds ForByob e i n f g fit l = full_byob me E b a d ds e f g.0 g.1 g.2 l (rw (← e) at f.all)
full_by me E b a d ds ForDefault e i n f g fit l = full_default me E b a d ds a.slots.stream.requests refl f g.0 (fit_empty d fit (sym i)) (fit.element (sym i)) g.1 g.2 l (rw (← e) at f.all)

full : (me : StreamId) (E b : List ℕ) (a : Acts) (d : Descriptor) (ds : List Descriptor) → d ∷ ds ≡ a.slots.descriptors → Fine E a → is_for_nobody d.room_kind ≡ false → Fine (E ++ b) (respond_full me (with_bytes d b) a)
full me E b a d ds e f t =
    let g : Good (reads a.slots.stream.reader a.slots.reader_kind) (d ∷ ds) a.slots.queue (requests_of a.slots) = rw (← e) at f.good in
    rw (← e) (full_by me E b a d ds d.room_kind e refl t f g.2 g.0 g.1)

pub responded_readable : (me : StreamId) (E b : List ℕ) (a : Acts) (d : Descriptor) (ds : List Descriptor) → d ∷ ds ≡ a.slots.descriptors → Fine E a → Fine (E ++ b) (respond_readable me (with_bytes d b) a)
responded_readable me E b a d ds e f =
    either (Fine (E ++ b)) (is_for_nobody d.room_kind) _ _
    (λ t. processed_fine me (E ++ b) _ (for_nobody E b a d ds e f (is_nobody d.room_kind t)))
    (λ t. either (Fine (E ++ b)) (nat_lt (length (d.filled ++ b)) d.minimum) _ _ (λ s. too_short E b a d ds e f t (ltb-true _ _ s)) (λ s. full me E b a d ds e f t))
