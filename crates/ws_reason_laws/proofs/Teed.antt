-- Which streams tees read: that stays as effects are performed, a stream that one reads is let go of by none, and a run's end tells of the reasons
-- that tees kept before.
use Rattle.std.proofs.Common.{◌≡◌, ℕ, zero, suc, ◌≤◌, Bool, true, false, ◌||◌, nat_eq, is_none, List, [], ◌∷◌, ◌++◌, length, map, Option, Some, None, slice_get, slice_set, refl, sym, ap, subst, ◌∙◌, arith}
use Rattle.ws_value.specs.declared.ids.PromiseId.{PromiseId}
use Rattle.ws_value.specs.declared.ids.StreamId.{StreamId}
use Rattle.ws_value.specs.declared.ids.TeeId.{TeeId}
use Rattle.ws_value.specs.declared.value.Plain.{Plain}
use Rattle.ws_value.specs.declared.value.Plain.TheVariants.{Pair}
use Rattle.ws_steps.specs.declared.calls.Reply.{Reply}
use Rattle.ws_steps.specs.declared.calls.Reply.TheVariants.{Promise as ReplyPromise}
use Rattle.ws_steps.specs.declared.effects.Effect.{Effect}
use Rattle.ws_steps.specs.declared.effects.Effect.TheVariants.{Readable, Tee as OnTee}
use Rattle.ws_steps.specs.declared.readable.ReadableOperation.{ReadableOperation}
use Rattle.ws_steps.specs.declared.readable.ReadableOperation.TheVariants.{Cancel, ReleaseReader}
use Rattle.ws_steps.specs.declared.tee.Half.{Half}
use Rattle.ws_steps.specs.declared.tee.TeeOperation.{TeeOperation}
use Rattle.ws_steps.specs.declared.tee.TeeOperation.TheVariants as names
use Rattle.ws_steps.specs.Calls.{named}
use Rattle.ws_steps.specs.Operations.{tee_operation}
use Rattle.ws_steps.specs.Promises.{next_id, fresh}
use Rattle.ws_steps.specs.Run.{Entry, run}
use Rattle.ws_steps.specs.Slots.{Slots, reads_any, is_teed, as_tee, found, on_tee_at, pair_at}
use Rattle.ws_steps.specs.Tee as tee
use Rattle.ws_steps.specs.Tee.{causing, pair, pair_of, reason_of, with_reason, with_slots, is_wanted, resolve_cancel, cancel_source, cancel_by, cancel_branch}
use Rattle.ws_steps.specs.Turns.{row}
use Rattle.ws_laws.proofs.Shapes.{TeeShape, tee_shape, row-tee_shapes}
use Rattle.ws_laws.proofs.Tables.{either, is_same-refl}
use Rattle.ws_pipe_laws.specs.pipes.PipeReads.{one_if}
use Rattle.ws_pipe_laws.specs.locks.Locks.{Reading, in_tees}
use Rattle.ws_pipe_laws.proofs.locks.Agenda.{goes}
use Rattle.ws_pipe_laws.proofs.locks.Rows.{is_there}
use Rattle.ws_pipe_laws.proofs.locks.Runs.{Locked}
use Rattle.ws_reason_laws.proofs.Pairs.{row-keeps, run-keeps}
use Rattle.ws_reason_laws.proofs.Readables.{lets_go}
use Rattle.ws_reason_laws.proofs.Tees.{Pairs}

-- the tees' sources are told by their shapes

abbrev shape_reads : StreamId → List TeeShape → Bool
shape_reads i [] = false
shape_reads i (x ∷ xs) = nat_eq x.source.0 i.0 || shape_reads i xs

reads-told : (i : StreamId) (xs : List tee.Slots) → reads_any i xs ≡ shape_reads i (map tee_shape xs)
reads-told i [] = refl
reads-told i (x ∷ xs) = let h = reads-told i xs in rw h refl

pub row-teed : (i : StreamId) (e : Effect) (s : Slots) → is_teed i (row e s).slots ≡ is_teed i s
row-teed i e s = reads-told i (row e s).slots.tees ∙ (ap (shape_reads i) (row-tee_shapes e s) ∙ sym (reads-told i s.tees))

-- one more tee

pub teed-more : (i : StreamId) (xs : List tee.Slots) (x : tee.Slots) → reads_any i (xs ++ x ∷ []) ≡ false → reads_any i xs ≡ false
teed-more i [] x e = refl
teed-more i (y ∷ xs) x e = by (nat_eq y.source.0 i.0) (reads_any i (xs ++ x ∷ [])) (reads_any i xs) e (teed-more i xs x)
  where
    by : (a b c : Bool) → (a || b) ≡ false → (b ≡ false → c ≡ false) → (a || c) ≡ false
    by true b c e h = e
    by false b c e h = h e

pub teed-last : (i : StreamId) (xs : List tee.Slots) (x : tee.Slots) → x.source ≡ i → reads_any i (xs ++ x ∷ []) ≡ true
teed-last i [] x e = let n : nat_eq x.source.0 i.0 ≡ true = rw e (self i.0) in rw n refl
  where
    self : (n : ℕ) → nat_eq n n ≡ true
    self n = grind arith
teed-last i (y ∷ xs) x e = by (nat_eq y.source.0 i.0) (reads_any i (xs ++ x ∷ [])) (teed-last i xs x e)
  where
    by : (a b : Bool) → b ≡ true → (a || b) ≡ true
    by a b e = grind (arith, e)

-- who lets go of a stream has it, and so no tee has

none-reads : (i : StreamId) (xs : List tee.Slots) → in_tees Reading i xs ≡ 0 → reads_any i xs ≡ false
none-reads i [] h = refl
none-reads i (x ∷ xs) h = by (reads_any i xs) (none-reads i xs (omega (arith, h)))
  where
    by : (b : Bool) → b ≡ false → (nat_eq x.source.0 i.0 || b) ≡ false
    by b e = grind (arith, e, h)

at_most : (b : Bool) → one_if b ≤ 1
at_most b = grind arith

goes-unteed : (i : StreamId) (s : Slots) (es : List Effect) → Locked s (Readable i ReleaseReader ∷ es) → is_teed i s ≡ false
goes-unteed i s es k =
    let few = (k.each Reading i).few in
    let one : goes Reading i (Readable i ReleaseReader) ≡ 1 = rw (is_same-refl i) refl in
    let m = at_most (is_there Reading (slice_get s.streams i.0)) in
    none-reads i s.tees (omega (arith, few, one, m))

pub unteed : (i : StreamId) (operation : ReadableOperation) (s : Slots) (es : List Effect) → Locked s (Readable i operation ∷ es) → lets_go operation ≡ true → is_teed i s ≡ false
unteed i ReleaseReader s es k r = goes-unteed i s es k
unteed i operation s es k r = grind (arith, r)

-- the pair of each tee that keeps the reasons of both its branches isn't bad

abbrev pub Paired : (Plain → ℕ) → Slots → Type 0
Paired bad s = (t : TeeId) (q : Plain × Plain) → pair_at t s ≡ Some q → bad (Pair t) ≡ 0

-- that is so before a step, before an effect, and before its reply is named, where it is so afterwards

pub paired-before : (bad : Plain → ℕ) (xs : List Entry) (s : Slots) → Paired bad (run xs s) → Paired bad s
paired-before bad xs s h t q e = h t q (run-keeps q t xs s e)

pub paired-row : (bad : Plain → ℕ) (e : Effect) (s : Slots) → Paired bad (row e s).slots → Paired bad s
paired-row bad e s h t q is = h t q (row-keeps q t e s is)

pub paired-named : (bad : Plain → ℕ) (reply : Reply) (s : Slots) → Paired bad (named reply s) → Paired bad s
paired-named bad (ReplyPromise p) s h = h
paired-named bad _ s h = h

-- so the pair isn't bad with which a tee cancels its source

both-kept : (x : tee.Slots) → is_wanted x ≡ false → (q : Plain × Plain) × (pair x ≡ Some q)
both-kept x e = by x.reason1 x.reason2 e
  where
    by : (first second : Option Plain) → (is_none first || is_none second) ≡ false → (q : Plain × Plain) × (pair_of first second ≡ Some q)
    by None second e = cc
    by (Some r) None e = cc
    by (Some r) (Some p) e = ((r, p), refl)

resolved-pair : (p : PromiseId) (a : tee.Acts) → pair (resolve_cancel p a).slots ≡ pair a.slots
resolved-pair p a = either (λ (z : tee.Acts). pair z.slots ≡ pair a.slots) a.slots.answered a _ (λ e. refl) (λ e. refl)

cancelled-pair : (me : TeeId) (half : Half) (r : Plain) (a : tee.Acts) (old : Option Plain) → old ≡ None → pair (cancel_by me half r a old).slots ≡ pair (with_reason half r a.slots)
cancelled-pair me half r a (Some p) none = cc
cancelled-pair me half r a None none =
    let b : tee.Acts = with_slots (with_reason half r a.slots) a in
    let p : PromiseId = next_id b.out.promises in
    let c : tee.Acts = causing (Readable b.slots.source (Cancel (Pair me) p) ∷ []) (record b { out = record b.out { promises = fresh b.out.promises } }) in
    either (λ (z : tee.Acts). pair z.slots ≡ pair b.slots) (is_wanted b.slots) b (cancel_source me b) (λ e. refl) (λ e. resolved-pair p c)

place_same : (xs : List tee.Slots) (n : ℕ) (x y : tee.Slots) → slice_get xs n ≡ Some x → slice_get (slice_set xs n y) n ≡ Some y
place_same [] n x y e = cc
place_same (z ∷ xs) zero x y e = refl
place_same (z ∷ xs) (suc n) x y e = place_same xs n x y e

row-pair : (t : TeeId) (operation : TeeOperation) (s : Slots) (x : tee.Slots) → slice_get s.tees t.0 ≡ Some x → pair_at t (row (OnTee t operation) s).slots ≡ pair (tee_operation t operation (record { slots = x; out = found s })).slots
unfolding row
row-pair t operation s x e =
    let b : tee.Slots = (tee_operation t operation (record { slots = x; out = found s })).slots in
    subst (λ (o : Option tee.Slots). pair (as_tee (slice_get (on_tee_at (tee_operation t operation) t s o).slots.tees t.0)) ≡ pair b) (sym e)
    (ap (λ (o : Option tee.Slots). pair (as_tee o)) (place_same s.tees t.0 x b e))

pub tee-fits : (bad : Plain → ℕ) (t : TeeId) (operation : TeeOperation) (s : Slots) → Paired bad (row (OnTee t operation) s).slots → (x : tee.Slots) → slice_get s.tees t.0 ≡ Some x → Pairs bad t operation x
unfolding cancel_branch
tee-fits bad t (names.CancelBranch half r u) s h x e = λ none both.
    let a : tee.Acts = record { slots = x; out = found s } in
    let kept = both-kept (with_reason half r x) both in
    h t kept.0 (row-pair t (names.CancelBranch half r u) s x e ∙ (cancelled-pair t half r a (reason_of half x) none ∙ kept.1))
tee-fits bad t operation s h x e = tt
