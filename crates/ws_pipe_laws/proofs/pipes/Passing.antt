-- What a pipe reads it passes on, drops or holds: by each of its operations.
use Rattle.std.proofs.Common.{◌≡◌, ℕ, ◌+◌, ◌-◌, ◌≤◌, Bool, true, false, List, [], ◌∷◌, ◌++◌, length, length-append, Option, Some, None, Result, Ok, Err, refl, sym, ap, ◌∙◌, append_assoc, append-nil, arith}
use Rattle.ws_value.specs.declared.{ids.PipeId.{PipeId}}
use Rattle.ws_value.specs.declared.value.{Plain.{Plain}, Value.{Value}}
use Rattle.ws_steps.specs.declared.pipes.{Action.{Action}, Action.TheVariants.{BySignal}, Ends.{Ends}, Phase.{Phase}, Phase.TheVariants.{Flowing, Waiting, Acting, Over}}
use Rattle.ws_steps.specs.declared.pipes.{PipeOperation.{PipeOperation}, PipeOperation.TheVariants.{Look, LookReady, KeepChunk, ReadEnded, WriteChunk, GoOn, WriteEnded, Abort as AbortPipe, ActionSettled, PartSettled, NoParts}}
use Rattle.ws_steps.specs.declared.readable.{ReadableState.{ReadableState}}
use Rattle.ws_steps.specs.declared.writable.{WritableState.{WritableState}}
use Rattle.ws_steps.specs.Operations.{pipe_operation}
use Rattle.ws_pipe_laws.specs.pipes.PipeHistory.{is_live, Through, nothing_through, through_then, held_goes, operation_through}
use Rattle.ws_pipe_laws.specs.pipes.PipeMoves.{starting, Move, MoveRests, MoveWaits, MoveActs, MoveEnds, MoveFinishes}
use Rattle.ws_pipe_laws.specs.pipes.PipeReads.{held_values, one_if, IsPassing}
use Rattle.ws_steps.specs.Pipes.{Slots, Acts, proceed, is_flowing, shutdown, look_by, look, look_ready, go_on_in, go_on, keep_chunk, read_ended, write_in, write_held, write_chunk, write_ended, action_settled, part_settled, no_parts, abort}
use Rattle.ws_steps.specs.Promises.{Table}
use Rattle.ws_pipe_laws.proofs.pipes.Moves.{each_pipe_moves}
use Rattle.ws_pipe_laws.proofs.pipes.Reading.{is_answer, finalize-steady, proceed-steady, shutdown-steady}

-- a pipe that goes on afterwards went on before
lived : (me : PipeId) (ends : Ends) (operation : PipeOperation) (x : Slots) (t : Table) (b : Acts) → Move me ends operation x t b → is_live b.slots.phase ≡ true → is_live x.phase ≡ true
lived me ends operation x t b (MoveRests q a e i) l = ap is_live (sym q) ∙ l
lived me ends operation x t b (MoveWaits f q n w e) l = ap is_live f
lived me ends operation x t b (MoveActs z y q n w e k) l = n.live
lived me ends operation x t b (MoveEnds q n w e) l = n.live
lived me ends operation x t b (MoveFinishes o e q f) l = let over : is_live b.slots.phase ≡ false = ap (λ (z : Slots). is_live z.phase) q in cc

-- what is held stays

shutdown-held : (me : PipeId) (ends : Ends) (action : Option Action) (error : Option Plain) (a : Acts) → (shutdown me ends action error a).slots.held ≡ a.slots.held
shutdown-held me ends action error a = (shutdown-steady me me ends action error a).held

proceed-held : (me : PipeId) (ends : Ends) (a : Acts) → (proceed me ends a).slots.held ≡ a.slots.held
proceed-held me ends a = (proceed-steady me me ends a).held

look_by-held : (me : PipeId) (ends : Ends) (a : Acts) (s : ReadableState) (d : WritableState) → (look_by me ends a s d).slots.held ≡ a.slots.held
look_by-held me ends a s d = grind (arith, shutdown-held)

look-held : (me : PipeId) (ends : Ends) (a : Acts) → (look me ends a).slots.held ≡ a.slots.held
unfolding look
look-held me ends a = grind (arith, look_by-held)

go_on-held : (me : PipeId) (ends : Ends) (a : Acts) (phase : Phase) → (go_on_in me ends a phase).slots.held ≡ a.slots.held
go_on-held me ends a Flowing = look-held me ends a
go_on-held me ends a Waiting = proceed-held me ends a
go_on-held me ends a Acting = refl
go_on-held me ends a Over = refl

part-held : (o : Result Plain Plain) (a : Acts) → (part_settled o a).slots.held ≡ a.slots.held
unfolding part_settled
part-held o a = grind arith

-- an operation that keeps a chunk, or takes the one that is held
abbrev pub moves_chunk : PipeOperation → Bool
moves_chunk (KeepChunk v) = true
moves_chunk WriteChunk = true
moves_chunk _ = false

pub operation-held : (me : PipeId) (ends : Ends) (operation : PipeOperation) (x : Slots) (t : Table) → moves_chunk operation ≡ false
    → (pipe_operation me ends operation (starting x t)).slots.held ≡ x.held
unfolding look_ready go_on read_ended write_ended action_settled no_parts abort
operation-held me ends Look x t n = look-held me ends (starting x t)
operation-held me ends LookReady x t n = look-held me ends (starting (record x { waits = false }) t)
operation-held me ends (KeepChunk v) x t n = cc
operation-held me ends ReadEnded x t n = refl
operation-held me ends WriteChunk x t n = cc
operation-held me ends GoOn x t n = go_on-held me ends (starting x t) x.phase
operation-held me ends WriteEnded x t n = go_on-held me ends (starting (record x { unsettled = x.unsettled - 1 }) t) x.phase
operation-held me ends (AbortPipe r) x t n = shutdown-held me ends (Some (BySignal r)) (Some r) (starting x t)
operation-held me ends (ActionSettled (Ok v)) x t n = (finalize-steady me me x.error (starting x t)).held
operation-held me ends (ActionSettled (Err e)) x t n = (finalize-steady me me (Some e) (starting x t)).held
operation-held me ends (PartSettled o) x t n = part-held o (starting x t)
operation-held me ends NoParts x t n = grind arith

-- a pipe that doesn't flow starts no read

look-reading : (me : PipeId) (ends : Ends) (a : Acts) → is_flowing a.slots.phase ≡ false → (look me ends a).slots.reading ≡ a.slots.reading
unfolding look
look-reading me ends a n = rw n refl

go_on-reading : (me : PipeId) (ends : Ends) (a : Acts) (phase : Phase) → is_flowing a.slots.phase ≡ false → (go_on_in me ends a phase).slots.reading ≡ a.slots.reading
go_on-reading me ends a Flowing n = look-reading me ends a n
go_on-reading me ends a Waiting n = (proceed-steady me me ends a).reading
go_on-reading me ends a Acting n = refl
go_on-reading me ends a Over n = refl

write-reading : (me : PipeId) (a : Acts) (held : Option Value) → one_if (write_held me a held).slots.reading ≤ one_if a.slots.reading
write-reading me a held = grind arith

part-reading : (o : Result Plain Plain) (a : Acts) → (part_settled o a).slots.reading ≡ a.slots.reading
unfolding part_settled
part-reading o a = grind arith

no_more : (b c : Bool) → b ≡ c → one_if b ≤ one_if c
no_more b c e = let n = ap one_if e in omega (arith, n)

operation-reading : (me : PipeId) (ends : Ends) (operation : PipeOperation) (x : Slots) (t : Table) → is_flowing x.phase ≡ false
    → one_if (pipe_operation me ends operation (starting x t)).slots.reading ≤ one_if x.reading
unfolding look_ready go_on keep_chunk read_ended write_chunk write_ended action_settled no_parts abort
operation-reading me ends Look x t n = no_more _ _ (look-reading me ends (starting x t) n)
operation-reading me ends LookReady x t n = no_more _ _ (look-reading me ends (starting (record x { waits = false }) t) n)
operation-reading me ends (KeepChunk v) x t n = omega arith
operation-reading me ends ReadEnded x t n = omega arith
operation-reading me ends WriteChunk x t n = write-reading me (starting x t) x.held
operation-reading me ends GoOn x t n = no_more _ _ (go_on-reading me ends (starting x t) x.phase n)
operation-reading me ends WriteEnded x t n = no_more _ _ (go_on-reading me ends (starting (record x { unsettled = x.unsettled - 1 }) t) x.phase n)
operation-reading me ends (AbortPipe r) x t n = no_more _ _ (shutdown-steady me me ends (Some (BySignal r)) (Some r) (starting x t)).reading
operation-reading me ends (ActionSettled (Ok v)) x t n = no_more _ _ (finalize-steady me me x.error (starting x t)).reading
operation-reading me ends (ActionSettled (Err e)) x t n = no_more _ _ (finalize-steady me me (Some e) (starting x t)).reading
operation-reading me ends (PartSettled o) x t n = no_more _ _ (part-reading o (starting x t))
operation-reading me ends NoParts x t n = grind arith

one_most : (b : Bool) → one_if b ≤ 1
one_most true = omega arith
one_most false = omega arith

flowing_lives : (phase : Phase) → is_flowing phase ≡ true → is_live phase ≡ true
flowing_lives Flowing e = refl
flowing_lives Waiting e = refl
flowing_lives Acting e = e
flowing_lives Over e = e

-- where a read starts, the pipe flows and has dropped nothing
still_one : (h : Through) (x : Slots) (b : Bool) (flowing : Bool) → flowing ≡ is_flowing x.phase → (is_flowing x.phase ≡ false → one_if b ≤ one_if x.reading) → IsPassing h x → length h.dropped + one_if b ≤ 1
still_one h x b true f n i = let d = ap length (i.live (flowing_lives x.phase (sym f))) in let m = one_most b in omega (arith, d, m)
still_one h x b false f n i = let k = n (sym f) in let l = i.one in omega (arith, k, l)

-- an operation that neither keeps a chunk nor writes one
still_passing : (me : PipeId) (ends : Ends) (operation : PipeOperation) (h : Through) (x : Slots) (t : Table) → (pipe_operation me ends operation (starting x t)).slots.held ≡ x.held → IsPassing h x
    → IsPassing (through_then h nothing_through) (pipe_operation me ends operation (starting x t)).slots
still_passing me ends operation h x t e i =
    let b : Acts = pipe_operation me ends operation (starting x t) in
    record {
      all = rw e (simp append-nil i.all);
      live = λ l. simp append-nil (i.live (lived me ends operation x t b (each_pipe_moves me ends operation x t) l));
      one = simp append-nil (still_one h x b.slots.reading (is_flowing x.phase) refl (operation-reading me ends operation x t) i);
    }

pub nothing_passing : (h : Through) (x : Slots) → IsPassing h x → IsPassing (through_then h nothing_through) x
nothing_passing h x i = record { all = simp append-nil i.all; live = λ l. simp append-nil (i.live l); one = simp append-nil i.one }

dropped_one : (ds : List Value) (o : Option Value) (v : Value) (n : ℕ) → o ≡ Some v → length (held_values o) ≤ n → length ds + n ≤ 1 → length (ds ++ v ∷ []) + 0 ≤ 1
dropped_one ds o v n e w l = let k = ap (λ (o : Option Value). length (held_values o)) e in let a = length-append ds (v ∷ []) in omega (arith, k, a, w, l)

passed_on : (rs ps ds hs : List Value) (v : Value) → rs ≡ ps ++ (ds ++ hs) → ds ≡ [] → hs ≡ v ∷ [] → rs ++ [] ≡ (ps ++ v ∷ []) ++ ((ds ++ []) ++ [])
passed_on rs ps ds hs v e d h = simp (e, d, h, append-nil)

dropped_on : (rs ps ds hs : List Value) (v : Value) → rs ≡ ps ++ (ds ++ hs) → hs ≡ v ∷ [] → rs ++ [] ≡ (ps ++ []) ++ ((ds ++ v ∷ []) ++ [])
dropped_on rs ps ds hs v e h = simp (e, h, append-nil)

kept_on : (rs ps ds hs : List Value) (v : Value) → rs ≡ ps ++ (ds ++ hs) → hs ≡ [] → rs ++ v ∷ [] ≡ (ps ++ []) ++ ((ds ++ []) ++ v ∷ [])
kept_on rs ps ds hs v e h = simp (e, h, append-nil, append_assoc)

-- the held chunk is passed on
passes : (h : Through) (x y : Slots) (v : Value) → x.held ≡ Some v → y.held ≡ None → y.reading ≡ false → is_live x.phase ≡ true → IsPassing h x
    → IsPassing (through_then h (record nothing_through { passed = v ∷ [] })) y
passes h x y v e n r l i =
    let d = i.live l in
    let k : h.read ++ [] ≡ (h.passed ++ v ∷ []) ++ ((h.dropped ++ []) ++ []) = passed_on h.read h.passed h.dropped (held_values x.held) v i.all d (ap held_values e) in
    record {
      all = rw n k;
      live = λ l. simp (d, append-nil);
      one = let z = ap length d in let f = ap one_if r in simp append-nil (omega (arith, z, f));
    }

-- or dropped
drops : (h : Through) (x y : Slots) (v : Value) → x.held ≡ Some v → y.held ≡ None → y.reading ≡ false → is_live y.phase ≡ false → length (held_values x.held) ≤ one_if x.reading → IsPassing h x
    → IsPassing (through_then h (record nothing_through { dropped = v ∷ [] })) y
drops h x y v e n r l w i =
    let k : h.read ++ [] ≡ (h.passed ++ []) ++ ((h.dropped ++ v ∷ []) ++ []) = dropped_on h.read h.passed h.dropped (held_values x.held) v i.all (ap held_values e) in
    let o = dropped_one h.dropped x.held v (one_if x.reading) e w i.one in
    record {
      all = rw n k;
      live = λ f. absurd (cc);
      one = let f = ap one_if r in omega (arith, o, f);
    }

writes_passing : (me : PipeId) (x : Slots) (t : Table) (h : Through) (o : Option Value) → o ≡ x.held → length (held_values x.held) ≤ one_if x.reading → IsPassing h x
    → IsPassing (through_then h (held_goes x.phase o)) (write_held me (starting x t) o).slots
writes_passing me x t h None e w i = nothing_passing h x i
writes_passing me x t h (Some v) e w i = by x.phase refl
  where
    by : (phase : Phase) → phase ≡ x.phase → IsPassing (through_then h (held_goes phase (Some v))) (write_in me v (starting (record x { held = None; reading = false }) t) phase).slots
    by Flowing f = passes h x (write_in me v (starting (record x { held = None; reading = false }) t) Flowing).slots v (sym e) refl refl (ap is_live (sym f)) i
    by Waiting f = passes h x (write_in me v (starting (record x { held = None; reading = false }) t) Waiting).slots v (sym e) refl refl (ap is_live (sym f)) i
    by Acting f = drops h x (record x { held = None; reading = false }) v (sym e) refl refl (ap is_live (sym f)) w i
    by Over f = drops h x (record x { held = None; reading = false }) v (sym e) refl refl (ap is_live (sym f)) w i

none_held : (o : Option Value) → length (held_values o) ≡ 0 → held_values o ≡ []
none_held None e = refl
none_held (Some v) e = absurd (omega arith)

pub operation-passing : (me : PipeId) (ends : Ends) (operation : PipeOperation) (x : Slots) (t : Table) (h : Through) → is_answer operation + length (held_values x.held) ≤ one_if x.reading → IsPassing h x
    → IsPassing (through_then h (operation_through operation x)) (pipe_operation me ends operation (starting x t)).slots
unfolding look_ready go_on keep_chunk read_ended write_chunk write_ended action_settled no_parts abort
operation-passing me ends Look x t h w i = still_passing me ends Look h x t (operation-held me ends Look x t refl) i
operation-passing me ends LookReady x t h w i = still_passing me ends LookReady h x t (operation-held me ends LookReady x t refl) i
operation-passing me ends (KeepChunk v) x t h w i =
    let r = one_most x.reading in
    let n = none_held x.held (omega (arith, w, r)) in
    record { all = kept_on h.read h.passed h.dropped (held_values x.held) v i.all n; live = λ l. simp append-nil (i.live l); one = simp append-nil i.one }
operation-passing me ends ReadEnded x t h w i = still_passing me ends ReadEnded h x t (operation-held me ends ReadEnded x t refl) i
operation-passing me ends WriteChunk x t h w i = writes_passing me x t h x.held refl (omega (arith, w)) i
operation-passing me ends GoOn x t h w i = still_passing me ends GoOn h x t (operation-held me ends GoOn x t refl) i
operation-passing me ends WriteEnded x t h w i = still_passing me ends WriteEnded h x t (operation-held me ends WriteEnded x t refl) i
operation-passing me ends (AbortPipe r) x t h w i = still_passing me ends (AbortPipe r) h x t (operation-held me ends (AbortPipe r) x t refl) i
operation-passing me ends (ActionSettled (Ok v)) x t h w i = still_passing me ends (ActionSettled (Ok v)) h x t (operation-held me ends (ActionSettled (Ok v)) x t refl) i
operation-passing me ends (ActionSettled (Err e)) x t h w i = still_passing me ends (ActionSettled (Err e)) h x t (operation-held me ends (ActionSettled (Err e)) x t refl) i
operation-passing me ends (PartSettled o) x t h w i = still_passing me ends (PartSettled o) h x t (operation-held me ends (PartSettled o) x t refl) i
operation-passing me ends NoParts x t h w i = still_passing me ends NoParts h x t (operation-held me ends NoParts x t refl) i
