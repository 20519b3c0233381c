-- What a pipe reads, and what its source gives (`each_pipe_reads_its_source`).
use Rattle.std.proofs.Common.{◌≡◌, ⊎_elim, ℕ, ◌+◌, ◌≤◌, Bool, true, false, nat_eq, if◌then◌else◌, List, [], ◌∷◌, ◌++◌, Option, Some, None, slice_get, slice_set, refl, sym, ap, subst, ◌∙◌, append_assoc, append-nil, arith}
use Rattle.ws_value.specs.declared.{ids.PipeId.{PipeId}, ids.PromiseId.{PromiseId}, ids.SignalId.{SignalId}, ids.StreamId.{StreamId}}
use Rattle.ws_value.specs.declared.value.{Plain.{Plain}, Value.{Value}}
use Rattle.ws_steps.specs.declared.calls.Call.{Call}
use Rattle.ws_steps.specs.declared.effects.Effect.{Effect}
use Rattle.ws_steps.specs.declared.effects.Effect.TheVariants.{Readable as OnReadable, Pipe as OnPipe, ChunkSteps, CloseSteps, ErrorSteps}
use Rattle.ws_steps.specs.declared.pipes.{Phase.{Phase}, Phase.TheVariants.{Flowing, Waiting, Acting, Over}, PipeOperation.{PipeOperation}, PipeOperation.TheVariants.{KeepChunk, WriteChunk}, Prevent.{Prevent}}
use Rattle.ws_steps.specs.declared.readable.{ReadRequest.{ReadRequest}, ReadRequest.TheVariants.{Promise, Pipe as PipeRequest, Tee as TeeRequest}, ReadableOperation.{ReadableOperation}}
use Rattle.ws_steps.specs.Calls.{begin}
use Rattle.ws_steps.specs.Histories.{is_same, along, in_step, over}
use Rattle.ws_steps.specs.Jobs.{job_effects}
use Rattle.ws_steps.specs.Operations.{pipe_operation}
use Rattle.ws_pipe_laws.specs.pipes.PipeMoves.{starting}
use Rattle.ws_pipe_laws.specs.pipes.PipeReads.{one_if, in_stream, in_streams, EachPipeReadsItsSource}
use Rattle.ws_steps.specs.Pipes as pipe
use Rattle.ws_steps.specs.Pipes.{Acts}
use Rattle.ws_steps.specs.Run.{Entry, run, step, moments_in}
use Rattle.ws_steps.specs.Slots.{Slots, Stream, Done, empty, ends_at, as_pipe, no_pipe, on_pipe_at}
use Rattle.ws_steps.specs.Turns.{Moment, row, close_steps, error_steps}
use Rattle.ws_steps.proofs.PromiseLaws.{slice_get-set_other}
use Rattle.ws_laws.proofs.Begin.{begin-makes}
use Rattle.ws_laws.proofs.Lists.{each-map}
use Rattle.ws_laws.proofs.OnReadable.{all_seen-append}
use Rattle.ws_laws.proofs.PipeDoes.{pipe-causes}
use Rattle.ws_laws.proofs.Apart.{IsNoPipe, row-pipes}
use Rattle.ws_laws.proofs.Causes.{row-causes}
use Rattle.ws_laws.proofs.Tables.{eq_numbers, unequal_numbers, same_id}
use Rattle.ws_laws.proofs.Walker.{IsHistory, GoesUntold, RestsUntold, run-holds}
use Rattle.ws_writable_laws.proofs.Shape.{all, all-append}
use Rattle.ws_pipe_laws.specs.pipes.PipeHistory.{Through, nothing_through, through_then, held_goes, operation_through, effect_through, run_through, effect_given, run_given}
use Rattle.ws_pipe_laws.proofs.pipes.Reading.{of_effect, IsNone, none-all, other-none}
use Rattle.ws_pipe_laws.proofs.pipes.PassingRuns.{through_history, has_held, Place, place_same, appended, Few, IsIdle, call-none, job-none, call-is, pipe-made, stream-made, Is, goes}
use Rattle.ws_pipe_laws.proofs.pipes.AtSource.{except, except_few, except-append, off, all_off, kept_of, kept, none_kept, KeepsNone, each_none, pipe_keeps, Off, OffNone, off_none, idle-none, row-off, Only, OnlyAt, other-only, own_off}
use Rattle.ws_steps.specs.declared.effects.Effect.TheVariants.{CloseStepsWith}
use Rattle.ws_steps.specs.Turns.{close_steps_with}
use Rattle.ws_steps.specs.declared.effects.Effect.TheVariants.{Byte}
use Rattle.ws_steps.specs.declared.byte.ByteOperation.{ByteOperation}

module _ (p : PipeId) (i : StreamId) where
  -- what stream i gave to the pipe, where the pipe read this, and is about to keep that
  abbrev Tells : List Value → List Value → Option pipe.Slots → List Value → Type 0
  Tells g r None ks = g ≡ []
  Tells g r (Some x) ks = g ≡ (if is_same i x.source then r ++ ks else [])

  still_tells : (g r : List Value) (o : Option pipe.Slots) (ks : List Value) → Tells g r o ks → Tells (g ++ []) (r ++ []) o ks
  still_tells g r None ks t = append-nil g ∙ t
  still_tells g r (Some x) ks t = rw (append-nil, append-nil) t

  record Both : Type 0 where
    through : Through
    given : List Value

  abbrev neither : Both
  neither = record { through = nothing_through; given = [] }

  abbrev both_then : Both → Both → Both
  both_then f g = record { through = through_then f.through g.through; given = f.given ++ g.given }

  abbrev both_told : Effect → Slots → Both
  both_told e s = record { through = effect_through p e s; given = effect_given i p e s }

  both_history : IsHistory neither both_then
  both_history = record {
    left = λ f. refl;
    right = λ f k. record { through = through_history.right f.through k; given = append-nil f.given k };
    assoc = λ f g h k. record { through = through_history.assoc f.through g.through h.through k; given = append_assoc f.given g.given h.given k };
  }

  abbrev place : Slots → Option pipe.Slots
  place s = slice_get s.pipes p.0

  abbrev Telling : Both → Slots → List Effect → Type 0
  Telling h s es = Tells h.given h.through.read (place s) (kept p es)

  abbrev Known : Both → Slots → List Effect → Type 0
  Known h s es = Is p h.through s es × (OnlyAt p (place s) s.streams es × Telling h s es)

  -- an effect by which nothing is given, read or about to be kept
  untold : (h : Both) (s : Slots) (e : Effect) (es : List Effect) → place (row e s).slots ≡ place s → effect_given i p e s ≡ [] → effect_through p e s ≡ nothing_through → kept_of p e ≡ [] → kept p (row e s).caused ≡ []
      → Telling h s (e ∷ es) → Telling (both_then h (both_told e s)) (row e s).slots ((row e s).caused ++ es)
  untold h s e es same g t k c w =
      let read : (effect_through p e s).read ≡ [] = ap (λ (f : Through). f.read) t in
      let before : Tells h.given h.through.read (place s) (kept p es) = rw k at w in
      let after : kept p ((row e s).caused ++ es) ≡ kept p es = all_seen-append (kept_of p) (row e s).caused es ∙ (rw c refl) in
      rw (same, g, read, after) (still_tells h.given h.through.read (place s) (kept p es) before)

  none_or : (b : Bool) → ◌≡◌ {A = List Value} (if b then [] else []) []
  none_or true = refl
  none_or false = refl

  close_kept : (s : Slots) (request : ReadRequest) → kept p (close_steps s request).caused ≡ []
  close_kept s (Promise q) = refl
  close_kept s (PipeRequest q) = refl
  close_kept s (TeeRequest t) = refl

  close_with_kept : (b : List ℕ) (s : Slots) (request : ReadRequest) → kept p (close_steps_with b s request).caused ≡ []
  close_with_kept b s (Promise q) = refl
  close_with_kept b s (PipeRequest q) = refl
  close_with_kept b s (TeeRequest t) = refl

  error_kept : (e : Plain) (s : Slots) (request : ReadRequest) → kept p (error_steps e s request).caused ≡ []
  error_kept e s (Promise q) = refl
  error_kept e s (PipeRequest q) = refl
  error_kept e s (TeeRequest t) = refl

  -- a chunk is given to the pipe

  at_most_one : (b : Bool) → one_if b ≤ 1
  at_most_one true = omega arith
  at_most_one false = omega arith

  only_source : (b : Bool) (n m : ℕ) → n + ((if b then 0 else 1) + m) ≤ 0 → b ≡ true
  only_source true n m w = refl
  only_source false n m w = absurd (omega (arith, w))

  given_here : (b : Bool) (g r : List Value) (v : Value) (ks : List Value) → ks ≡ [] → g ≡ (if b then r ++ ks else []) → g ++ (if b then v ∷ [] else []) ≡ (if b then (r ++ []) ++ (v ∷ ks) else [])
  given_here true g r v ks n e = rw (e, n, append-nil) refl
  given_here false g r v ks n e = rw e refl

  chunk_place : (h : Both) (s : Slots) (j : StreamId) (q : PipeId) (v : Value) (es : List Effect) (o : Option pipe.Slots) → place s ≡ o → nat_eq p.0 q.0 ≡ true → Few p s (ChunkSteps j (PipeRequest q) v ∷ es)
      → OnlyAt p o s.streams (ChunkSteps j (PipeRequest q) v ∷ es) → Tells h.given h.through.read o (kept p es)
      → Tells (h.given ++ (if is_same i j then v ∷ [] else [])) (h.through.read ++ []) o (v ∷ kept p es)
  chunk_place h s j q v es None e n few only t =
      let w : in_streams p s.streams + (1 + all (of_effect p) es) + 0 ≤ 0 = rw (e, n) at few in absurd (omega (arith, w))
  chunk_place h s j q v es (Some x) e n few only t =
      let f : in_streams p s.streams + (1 + all (of_effect p) es) + has_held (Some x) ≤ one_if x.reading = rw (e, n) at few in
      let o : except p x.source.0 s.streams + ((if is_same x.source j then 0 else 1) + all (off p x.source) es) ≤ 0 = rw n at only in
      let same : x.source ≡ j = same_id x.source j (only_source (is_same x.source j) (except p x.source.0 s.streams) (all (off p x.source) es) o) in
      let m = at_most_one x.reading in
      let none : kept p es ≡ [] = none_kept p es (omega (arith, f, m)) in
      rw (← same) (given_here (is_same i x.source) h.given h.through.read v (kept p es) none t)

  chunk-given : (h : Both) (s : Slots) (j : StreamId) (q : PipeId) (v : Value) (es : List Effect) (same : Bool) → same ≡ nat_eq p.0 q.0 → Known h s (ChunkSteps j (PipeRequest q) v ∷ es)
      → let e : Effect = ChunkSteps j (PipeRequest q) v in Telling (both_then h (both_told e s)) (row e s).slots ((row e s).caused ++ es)
  unfolding row
  chunk-given h s j q v es true n k = rw (← n) (chunk_place h s j q v es (place s) refl (sym n) k.0.0 k.1.0 k.1.1)
  chunk-given h s j q v es false n k = untold h s (ChunkSteps j (PipeRequest q) v) es refl (rw (← n) (none_or (is_same i j))) refl refl (rw (← n) refl) k.1.1

  -- operations of pipes

  other_place : (q : PipeId) (operation : PipeOperation) (s : Slots) (o : Option pipe.Slots) → nat_eq p.0 q.0 ≡ false → place (on_pipe_at (λ ends. pipe_operation q ends operation) q s o).slots ≡ place s
  other_place q operation s None n = refl
  other_place q operation s (Some x) n = slice_get-set_other s.pipes q.0 p.0 _ (λ i. unequal_numbers p.0 q.0 n (sym i))

  pipe_kept : (q : PipeId) (operation : PipeOperation) (s : Slots) (o : Option pipe.Slots) → kept p (on_pipe_at (λ ends. pipe_operation q ends operation) q s o).caused ≡ []
  pipe_kept q operation s None = refl
  pipe_kept q operation s (Some x) =
      let b : Acts = pipe_operation q (ends_at x s) operation (starting x s.promises) in
      each_none p b.out.effects (each-map _ (KeepsNone p) (pipe_keeps p q x.source x.dest) b.out.effects (pipe-causes q (ends_at x s) operation (starting x s.promises) tt).1.1)

  other_kept : (q : PipeId) (operation : PipeOperation) → nat_eq p.0 q.0 ≡ false → kept_of p (OnPipe q operation) ≡ []
  other_kept q operation n = grind (arith, n)

  other_off : (q : PipeId) (operation : PipeOperation) (s : Slots) (o : Option pipe.Slots) → nat_eq p.0 q.0 ≡ false → (j : StreamId) → Off p j s 0 (on_pipe_at (λ ends. pipe_operation q ends operation) q s o)
  other_off q operation s None n j = omega arith
  other_off q operation s (Some x) n j =
      let b : Acts = pipe_operation q (ends_at x s) operation (starting x s.promises) in
      let none : all (of_effect p) b.out.effects ≡ 0 = none-all p b.out.effects (each-map _ (IsNone p) (other-none p q n x.source x.dest) b.out.effects (pipe-causes q (ends_at x s) operation (starting x s.promises) tt).1.1) in
      let a = all_off p j b.out.effects in omega (arith, none, a)

  held_reads : (phase : Phase) (held : Option Value) → (held_goes phase held).read ≡ []
  held_reads phase None = refl
  held_reads Flowing (Some v) = refl
  held_reads Waiting (Some v) = refl
  held_reads Acting (Some v) = refl
  held_reads Over (Some v) = refl

  self : nat_eq p.0 p.0 ≡ true
  self = grind arith

  reads_kept : (operation : PipeOperation) (x : pipe.Slots) → (operation_through operation x).read ≡ kept_of p (OnPipe p operation)
  reads_kept (KeepChunk v) x = rw self refl
  reads_kept WriteChunk x = held_reads x.phase x.held
  reads_kept operation x = refl

  kept_on : (b : Bool) (g r ks vs : List Value) → g ≡ (if b then r ++ (ks ++ vs) else []) → g ++ [] ≡ (if b then (r ++ ks) ++ vs else [])
  kept_on true g r ks vs e = append-nil g ∙ (e ∙ sym (append_assoc r ks vs))
  kept_on false g r ks vs e = append-nil g ∙ e

  own_place : (h : Both) (s : Slots) (operation : PipeOperation) (es : List Effect) (o : Option pipe.Slots) → place s ≡ o → Known h s (OnPipe p operation ∷ es)
      → let d : Done = on_pipe_at (λ ends. pipe_operation p ends operation) p s o in
      OnlyAt p (place d.slots) d.slots.streams (d.caused ++ es) × Tells (h.given ++ []) (h.through.read ++ (operation_through operation (as_pipe o)).read) (place d.slots) (kept p (d.caused ++ es))
  own_place h s operation es None e k =
      let t : h.given ≡ [] = rw e at k.1.1 in rw e (tt, append-nil h.given ∙ t)
  own_place h s operation es (Some x) e k =
      let a : Acts = starting x s.promises in
      let b : Acts = pipe_operation p (ends_at x s) operation a in
      let causes = pipe-causes p (ends_at x s) operation a tt in
      let now : slice_get (slice_set s.pipes p.0 b.slots) p.0 ≡ Some b.slots = place_same s.pipes p.0 x b.slots e in
      let only : Only p x.source s.streams (OnPipe p operation ∷ es) = rw e at k.1.0 in
      let none : all (off p x.source) b.out.effects ≡ 0 = off_none p x.source b.out.effects (each-map _ (OffNone p x.source) (own_off p x.source p x.dest) b.out.effects causes.1.1) in
      let c = all-append (off p x.source) b.out.effects es in
      let before : h.given ≡ (if is_same i x.source then h.through.read ++ (kept_of p (OnPipe p operation) ++ kept p es) else []) = rw e at k.1.1 in
      let after : kept p (b.out.effects ++ es) ≡ kept p es = all_seen-append (kept_of p) b.out.effects es ∙ (rw (pipe_kept p operation s (Some x)) refl) in
      rw (now, causes.0, after, reads_kept operation x)
      (omega (arith, only, none, c), kept_on (is_same i x.source) h.given h.through.read (kept_of p (OnPipe p operation)) (kept p es) before)

  abbrev Rest : Both → Slots → List Effect → Type 0
  Rest h s es = OnlyAt p (place s) s.streams es × Telling h s es

  own_row : (h : Both) (s : Slots) (operation : PipeOperation) (es : List Effect) → Known h s (OnPipe p operation ∷ es)
      → let e : Effect = OnPipe p operation in Rest (both_then h (both_told e s)) (row e s).slots ((row e s).caused ++ es)
  unfolding row
  own_row h s operation es k = rw self (own_place h s operation es (place s) refl k)

  other_row : (h : Both) (s : Slots) (e : Effect) (es : List Effect) → place (row e s).slots ≡ place s → ((j : StreamId) → Off p j s (off p j e) (row e s)) → effect_given i p e s ≡ [] → effect_through p e s ≡ nothing_through → kept_of p e ≡ [] → kept p (row e s).caused ≡ []
      → Known h s (e ∷ es) → Rest (both_then h (both_told e s)) (row e s).slots ((row e s).caused ++ es)
  other_row h s e es same o g t k c w = (rw same (other-only p (place s) s e es o w.1.0), untold h s e es same g t k c w.1.1)

  pipe_row : (h : Both) (s : Slots) (q : PipeId) (operation : PipeOperation) (es : List Effect) (same : Bool) → same ≡ nat_eq p.0 q.0 → Known h s (OnPipe q operation ∷ es)
      → let e : Effect = OnPipe q operation in Rest (both_then h (both_told e s)) (row e s).slots ((row e s).caused ++ es)
  unfolding row
  pipe_row h s q operation es false n k =
      other_row h s (OnPipe q operation) es (other_place q operation s (slice_get s.pipes q.0) (sym n)) (other_off q operation s (slice_get s.pipes q.0) (sym n)) refl (rw (← n) refl) (other_kept q operation (sym n))
      (pipe_kept q operation s (slice_get s.pipes q.0)) k
  pipe_row h s q operation es true n k =
      let is : p ≡ q = ap (λ (n : ℕ). record { 0 = n }) (eq_numbers p.0 q.0 (sym n)) in
      subst (λ (z : PipeId). Known h s (OnPipe z operation ∷ es) → Rest (both_then h (both_told (OnPipe z operation) s)) (row (OnPipe z operation) s).slots ((row (OnPipe z operation) s).caused ++ es)) is
      (own_row h s operation es) k

  -- every effect

  apart_row : (h : Both) (s : Slots) (e : Effect) (es : List Effect) → IsNoPipe e → effect_given i p e s ≡ [] → effect_through p e s ≡ nothing_through → kept_of p e ≡ [] → kept p (row e s).caused ≡ []
      → Known h s (e ∷ es) → Rest (both_then h (both_told e s)) (row e s).slots ((row e s).caused ++ es)
  apart_row h s e es n g t k c w = other_row h s e es (ap (λ (ps : List pipe.Slots). slice_get ps p.0) (row-pipes e s n)) (λ j. row-off p j s e n) g t k c w

  readable_kept : (j : StreamId) (operation : ReadableOperation) (s : Slots) → kept p (row (OnReadable j operation) s).caused ≡ []
  readable_kept j operation s =
      each_none p (row (OnReadable j operation) s).caused
      (row-causes (KeepsNone p) (OnReadable j operation) s (record { pull = refl; cancel = λ r q. refl; chunk = λ request v. refl; close = λ request. refl; error = λ request r. refl }))

  byte_kept : (j : StreamId) (operation : ByteOperation) (s : Slots) → kept p (row (Byte j operation) s).caused ≡ []
  byte_kept j operation s =
      each_none p (row (Byte j operation) s).caused
      (row-causes (KeepsNone p) (Byte j operation) s (record {
        readable = record { pull = refl; cancel = λ r q. refl; chunk = λ request v. refl; close = λ request. refl; error = λ request r. refl };
        close_with = λ request b. refl;
      }))

  idle_kept : (s : Slots) (e : Effect) → IsIdle p e → kept p (row e s).caused ≡ []
  idle_kept s e n = let c = idle-none p s e n in none_kept p (row e s).caused (omega (arith, c))

  row-rest : (h : Both) (s : Slots) (e : Effect) (es : List Effect) → Known h s (e ∷ es) → Rest (both_then h (both_told e s)) (row e s).slots ((row e s).caused ++ es)
  unfolding row
  row-rest h s (OnPipe q operation) es k = pipe_row h s q operation es (nat_eq p.0 q.0) refl k
  row-rest h s (OnReadable j operation) es k = apart_row h s (OnReadable j operation) es tt refl refl refl (readable_kept j operation s) k
  row-rest h s (Byte j operation) es k = apart_row h s (Byte j operation) es tt refl refl refl (byte_kept j operation s) k
  row-rest h s (ChunkSteps j (Promise q) v) es k = apart_row h s (ChunkSteps j (Promise q) v) es tt (none_or (is_same i j)) refl refl refl k
  row-rest h s (ChunkSteps j (PipeRequest q) v) es k =
      (other-only p (place s) s (ChunkSteps j (PipeRequest q) v) es (λ l. row-off p l s (ChunkSteps j (PipeRequest q) v) tt) k.1.0, chunk-given h s j q v es (nat_eq p.0 q.0) refl k)
  row-rest h s (ChunkSteps j (TeeRequest t) v) es k = apart_row h s (ChunkSteps j (TeeRequest t) v) es tt (none_or (is_same i j)) refl refl refl k
  row-rest h s (CloseSteps j request) es k = apart_row h s (CloseSteps j request) es tt refl refl refl (close_kept s request) k
  row-rest h s (CloseStepsWith j request b) es k = apart_row h s (CloseStepsWith j request b) es tt refl refl refl (close_with_kept b s request) k
  row-rest h s (ErrorSteps j request e) es k = apart_row h s (ErrorSteps j request e) es tt refl refl refl (error_kept e s request) k
  row-rest h s e es k = apart_row h s e es tt refl refl refl (idle_kept s e tt) k

  -- calls and jobs

  -- effects that lead no read of the pipe on
  begins : (h : Both) (s : Slots) (es : List Effect) → all (of_effect p) es ≡ 0 → Rest h s [] → Rest h s es
  begins h s es n k =
      let none : kept p es ≡ [] = none_kept p es (omega (arith, n)) in
      (only (place s) k.0, rw none k.1)
    where
      only : (o : Option pipe.Slots) → OnlyAt p o s.streams [] → OnlyAt p o s.streams es
      only None w = tt
      only (Some x) w = let a = all_off p x.source es in omega (arith, w, a, n)

  made_rest : (h : Both) (s : Slots) (source dest : StreamId) (prevent : Prevent) (signal : Option SignalId) (promise : PromiseId) → Known h s [] → Rest h (record s { pipes = s.pipes ++ pipe.set_up source dest prevent signal promise ∷ [] }) []
  made_rest h s source dest prevent signal promise k =
      let y : pipe.Slots = pipe.set_up source dest prevent signal promise in
      ⊎_elim (λ (e : slice_get (s.pipes ++ y ∷ []) p.0 ≡ slice_get s.pipes p.0). rw e k.1)
      (λ (e : (slice_get s.pipes p.0 ≡ None) × (slice_get (s.pipes ++ y ∷ []) p.0 ≡ Some y)).
      let few : in_streams p s.streams + 0 + 0 ≤ 0 = rw e.0 at k.0.0 in
      let none : h.through ≡ nothing_through = rw e.0 at k.0.1 in
      let given : h.given ≡ [] = rw e.0 at k.1.1 in
      let read : h.through.read ≡ [] = ap (λ (f : Through). f.read) none in
      let x = except_few p source.0 s.streams in
      rw e.1 (omega (arith, few, x), rw (given, read) (sym (none_or (is_same i source)))))
      (appended s.pipes y p.0)

  stream_rest : (h : Both) (s : Slots) (x : Stream) → in_stream p x ≡ 0 → Rest h s [] → Rest h (record s { streams = s.streams ++ x ∷ [] }) []
  stream_rest h s x n k = (only (place s) k.0, k.1)
    where
      only : (o : Option pipe.Slots) → OnlyAt p o s.streams [] → OnlyAt p o (s.streams ++ x ∷ []) []
      only None w = tt
      only (Some y) w = let a = except-append p y.source.0 s.streams x n in omega (arith, w, a)

  call-known : (h : Both) (s : Slots) (c : Call) → Known h s [] → Known h (begin c s).done.slots (begin c s).done.caused
  call-known h s c k =
      let m : Known h (begin c s).done.slots [] = begin-makes (λ z. Known h z []) (record {
        promise = λ z k. k;
        locks = λ z ls k. k;
        hosts = λ z hs k. k;
        pipe = λ z source dest prevent signal promise k. (pipe-made p h.through z source dest prevent signal promise k.0, made_rest h z source dest prevent signal promise k);
        signal = λ z k. k;
        transform = λ z kind i j change k. k;
        tee = λ z source first second cancel k. k;
        port = λ z side stream backpressure k. k;
        bytes = λ z mark auto k. (stream-made p h.through z _ refl k.0, stream_rest h z _ refl k.1);
        byob_requests = λ z hs k. k;
        readable = λ z owner mark size k. (stream-made p h.through z _ refl k.0, stream_rest h z _ refl k.1);
        writable = λ z owner mark size k. (stream-made p h.through z _ refl k.0, stream_rest h z _ refl k.1);
      }) c s k in
      (call-is p h.through s c k.0, begins h (begin c s).done.slots (begin c s).done.caused (call-none p c s) m.1)

  both_goes : GoesUntold both_then both_told Known
  both_goes = record {
    row = λ h s e es k. ((goes p).row h.through s e es k.0, row-rest h s e es k);
    call = λ h s c k. call-known h s c k;
    job = λ h s job e k. ((goes p).job h.through s job e k.0, begins h s (job_effects job) (job-none p job) k.1);
    answered = λ h s q k. k;
    older = λ h s k. k;
  }

  both_rests : RestsUntold Known
  both_rests = record { heard = λ h s k. k }

  along-parts : (ms : List Moment) → along neither both_then both_told ms ≡ record { through = along nothing_through through_then (effect_through p) ms; given = along [] ◌++◌ (effect_given i p) ms }
  along-parts [] = refl
  along-parts (m ∷ ms) = ap (both_then (both_told m.effect m.found)) (along-parts ms)

  over-parts : (xs : List Entry) (s : Slots) → over neither both_then (in_step neither both_then both_told) xs s ≡ record { through = run_through p xs s; given = run_given i p xs s }
  over-parts [] s = refl
  over-parts (x ∷ xs) s = rw (along-parts (moments_in s x), over-parts xs (step s x)) refl

  first_known : Known neither empty []
  first_known = ((omega arith, refl), (tt, refl))

  read_of : (through : Through) (g : List Value) (o : Option pipe.Slots) → Place through o → Tells g through.read o [] → g ≡ (if is_same i (as_pipe o).source then through.read else [])
  read_of through g None n t = let read : through.read ≡ [] = ap (λ (f : Through). f.read) n in rw (t, read) (sym (none_or (is_same i no_pipe.source)))
  read_of through g (Some x) n t = rw append-nil at t

pub each_pipe_reads_its_source : EachPipeReadsItsSource
each_pipe_reads_its_source entries p i =
    let s : Slots = run entries empty in
    let k : Known p i (record { through = run_through p entries empty; given = run_given i p entries empty }) s [] =
    rw (over-parts p i entries empty) at
    (run-holds (neither p i) (both_then p i) (both_history p i) (both_told p i) (Known p i) (both_goes p i) (both_rests p i) entries empty (first_known p i)) in
    read_of p i (run_through p entries empty) (run_given i p entries empty) (slice_get s.pipes p.0) k.0.1 k.1.1
