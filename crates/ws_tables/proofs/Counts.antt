-- How many promises there are, and what pipes count of them; how many streams, transform streams and tees; and whose sources streams are.
use Rattle.std.proofs.Common.{◌≡◌, ◌≤◌, ℕ, ⊎_elim, List, [], ◌∷◌, length, map, Some, Result, refl, sym, ap, subst, ◌∙◌, arith}
use Rattle.std.specs.Prelude.{slice_get, slice_set}
use Rattle.std.proofs.lemmas.List.{length-map}
use Rattle.ws_value.specs.declared.ids.PromiseId.{PromiseId}
use Rattle.ws_value.specs.declared.ids.StreamId.{StreamId}
use Rattle.ws_value.specs.declared.value.Plain.{Plain}
use Rattle.ws_steps.specs.declared.effects.Effect.{Effect}
use Rattle.ws_steps.specs.declared.effects.Effect.TheVariants.{Writable, Give, Settle as SettlePromise, Queue}
use Rattle.ws_steps.specs.declared.writable.WritableOperation.{WritableOperation}
use Rattle.ws_steps.specs.declared.effects.Gift.{Gift}
use Rattle.ws_steps.specs.declared.effects.Use.{Use}
use Rattle.ws_steps.specs.declared.promises.Job.{Job}
use Rattle.ws_steps.specs.declared.promises.Job.TheVariants.{Reaction as ReactionJob, Follow, Settle, Micro as MicroJob}
use Rattle.ws_steps.specs.declared.promises.Reaction.TheVariants.{Adopt}
use Rattle.ws_steps.specs.declared.promises.Micro.{Micro}
use Rattle.ws_steps.specs.Pipes as pipe
use Rattle.ws_steps.specs.Promises.{Entry, Table, settle, use_gift, queue_micro, taken, after_first, after_next_job, watch}
use Rattle.ws_steps.specs.Operations.{writable_operation}
use Rattle.ws_steps.specs.Slots.{Slots, Done, on_writable, reads_any}
use Rattle.ws_steps.specs.Tee as tee
use Rattle.ws_steps.specs.Turns.{row}
use Rattle.ws_steps.proofs.PromiseLaws.{length-fresh}
use Rattle.ws_room_laws.proofs.Rows.{get-other, same-or}
use Rattle.ws_room_laws.proofs.Tables.{length-set}
use Rattle.ws_laws.proofs.Cases.{Puts, settle-cases, answer-cases, react-cases, follow-cases, unfollow-cases, watch-cases}
use Rattle.ws_laws.proofs.Rows.{Changes, row-changes}
use Rattle.ws_laws.proofs.Shapes.{stream_shape, transform_shape, tee_shape, row-stream_shapes, row-transform_shapes, row-tee_shapes}
use Rattle.ws_tables.specs.Room.{AreCounted, HasFew, HaveOwnSources, AreSourced}
use Rattle.ws_tables.proofs.Elements.{put-is}

-- promises get no fewer

module _ (n : ℕ) where
  abbrev Has : Table → Type 0
  Has t = n ≤ length t.entries

  put-has : (p : PromiseId) (t z : Table) (e d : Entry) (more : List Job) → Puts p t z e d more → Has t → Has z
  put-has p t z e d more w h = let a = ap length w.entries in let b = length-set t.entries p.0 (Some d) in omega (arith, a, b, h)

  micro-has : (t : Table) (m : Micro) → Has t → Has (queue_micro m t)
  unfolding queue_micro
  micro-has t m h = h

  has-changes : Changes Has
  has-changes = record {
    fresh = λ t h. let a = length-fresh t in omega (arith, a, h);
    settle = λ t p o h. settle-cases Has p t o h (λ e z is w. put-has p t z e _ _ w h);
    answer = λ t p o n h. answer-cases Has p t o h (λ e z is w. put-has p t z e _ _ w h);
    react = λ t p r h. react-cases Has p t r h (λ o. h) (λ e z is w. put-has p t z e _ _ w h);
    follow = λ t p q h. follow-cases Has p t q h (λ e z is w. put-has p t z e _ _ w h);
    micro = λ t m h. micro-has t m h;
    tell = λ t e h. h;
  }

pub entries-more : (e : Effect) (s : Slots) → length s.promises.entries ≤ length (row e s).slots.promises.entries
entries-more e s = row-changes (Has (length s.promises.entries)) (has-changes (length s.promises.entries)) e s (omega arith)

pub row-more : (e : Effect) (s : Slots) (d : Done) → row e s ≡ d → length s.promises.entries ≤ length d.slots.promises.entries
row-more e s d is = subst (λ (z : Done). length s.promises.entries ≤ length z.slots.promises.entries) is (entries-more e s)

pub writable-more : (i : StreamId) (operation : WritableOperation) (s : Slots) (d : Done) → on_writable (writable_operation i operation) i s ≡ d → length s.promises.entries ≤ length d.slots.promises.entries
unfolding row
writable-more i operation s d is = subst (λ (z : Done). length s.promises.entries ≤ length z.slots.promises.entries) is (entries-more (Writable i operation) s)

pub gift-more : (gift : Gift) (u : Use) (s : Slots) → length s.promises.entries ≤ length (use_gift gift u s.promises).entries
unfolding row
gift-more gift u s = entries-more (Give gift u) s

pub settle-more : (p : PromiseId) (outcome : Result Plain Plain) (s : Slots) → length s.promises.entries ≤ length (settle p outcome s.promises).entries
unfolding row
settle-more p outcome s = entries-more (SettlePromise p outcome) s

pub micro-more : (m : Micro) (s : Slots) → length s.promises.entries ≤ length (queue_micro m s.promises).entries
unfolding row
micro-more m s = entries-more (Queue m) s

-- nor does the taking of a job, or the watching of a promise

taken-has : (n : ℕ) (job : Job) (t : Table) → Has n t → Has n (taken job t)
taken-has n (ReactionJob step outcome derived) t h = h
taken-has n (Follow p q) t h = (has-changes n).react t q (Adopt p) h
taken-has n (Settle p outcome) t h = unfollow-cases (Has n) p t h (λ e z is w. put-has n p t z e _ _ w h)
taken-has n (MicroJob m) t h = h

first-has : (n : ℕ) (t : Table) (jobs : List Job) → Has n t → Has n (after_first t jobs)
first-has n t [] h = h
first-has n t (job ∷ jobs) h = taken-has n job (record t { jobs = jobs }) h

pub next-more : (t : Table) → length t.entries ≤ length (after_next_job t).entries
unfolding after_next_job
next-more t = first-has (length t.entries) t t.jobs (omega arith)

pub watch-more : (p : PromiseId) (t : Table) → length t.entries ≤ length (watch p t).entries
watch-more p t = watch-cases (Has (length t.entries)) p t (omega arith) (λ e z is w. put-has (length t.entries) p t z e _ _ w (omega arith))

-- so what pipes count of them stays below

pub counted-on : (n m : ℕ) (xs : List pipe.Slots) → n ≤ m → AreCounted n xs → AreCounted m xs
counted-on n m xs more h i x is = let a = h i x is in omega (arith, a, more)

pub counted-put : (n m : ℕ) (xs : List pipe.Slots) (j : ℕ) (y : pipe.Slots) → n ≤ m → AreCounted n xs → y.unsettled ≤ m → AreCounted m (slice_set xs j y)
counted-put n m xs j y more h small i x is =
    ⊎_elim
    (λ (same : i ≡ j).
    let new : y ≡ x = put-is xs j y x (ap (slice_get (slice_set xs j y)) (sym same) ∙ is) in
    subst (λ (z : pipe.Slots). z.unsettled ≤ m) new small)
    (λ other. counted-on n m xs more h i x (sym (get-other xs j i y other) ∙ is))
    (same-or i j)

-- of streams, transform streams and tees there are as many as before

same-length : {X Y : Type 0} (f : X → Y) (xs ys : List X) → map f xs ≡ map f ys → length xs ≡ length ys
same-length f xs ys is = sym (length-map xs f) ∙ (ap length is ∙ length-map ys f)

pub row-few : (e : Effect) (s : Slots) → HasFew s → HasFew (row e s).slots
row-few e s few =
    let a = same-length stream_shape (row e s).slots.streams s.streams (row-stream_shapes e s) in
    let b = same-length transform_shape (row e s).slots.transforms s.transforms (row-transform_shapes e s) in
    let c = same-length tee_shape (row e s).slots.tees s.tees (row-tee_shapes e s) in
    let f = few.0 in let g = few.1 in
    (omega (arith, a, b, f), omega (arith, a, c, g))

-- and each tee reads the stream that it read

same-reads : (i : StreamId) (xs ys : List tee.Slots) → map tee_shape ys ≡ map tee_shape xs → reads_any i ys ≡ reads_any i xs
same-reads i [] [] same = refl
same-reads i [] (y ∷ ys) same = cc
same-reads i (x ∷ xs) [] same = cc
same-reads i (x ∷ xs) (y ∷ ys) same =
    let first : tee_shape y ≡ tee_shape x = cc in
    let others : map tee_shape ys ≡ map tee_shape xs = cc in
    let source : y.source ≡ x.source = ap (λ z. z.source) first in
    rw (source, same-reads i xs ys others) refl

pub same-sources : (n : ℕ) (xs ys : List tee.Slots) → map tee_shape ys ≡ map tee_shape xs → HaveOwnSources n xs → HaveOwnSources n ys
same-sources n [] [] same own = tt
same-sources n [] (y ∷ ys) same own = cc
same-sources n (x ∷ xs) [] same own = tt
same-sources n (x ∷ xs) (y ∷ ys) same own =
    let first : tee_shape y ≡ tee_shape x = cc in
    let others : map tee_shape ys ≡ map tee_shape xs = cc in
    let source : y.source ≡ x.source = ap (λ z. z.source) first in
    (rw source own.0, (rw (source, same-reads x.source xs ys others) own.1.0, same-sources n xs ys others own.1.1))

pub row-sourced : (e : Effect) (s : Slots) → AreSourced s → AreSourced (row e s).slots
row-sourced e s own =
    let many = same-length stream_shape (row e s).slots.streams s.streams (row-stream_shapes e s) in
    rw many (same-sources (length s.streams) s.tees (row e s).slots.tees (row-tee_shapes e s) own)
