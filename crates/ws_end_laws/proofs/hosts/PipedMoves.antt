-- Each operation of a pipe that closes its destination keeps what holds of it.
use Rattle.std.proofs.Common.{◌≡◌, Bool, true, false, not, ◌&&◌, inl, inr, List, [], ◌∷◌, ◌++◌, Option, Some, None, Result, Ok, Err, slice_get, refl, sym, ap, subst, ◌∙◌, arith, append_assoc, if◌then◌else◌}
use Rattle.ws_value.specs.declared.{ids.PipeId.{PipeId}, ids.PromiseId.{PromiseId}, ids.StreamId.{StreamId}}
use Rattle.ws_value.specs.declared.value.Plain.{Plain}
use Rattle.ws_steps.specs.declared.effects.Effect.{Effect}
use Rattle.ws_steps.specs.declared.effects.Effect.TheVariants.{Readable, Writable, Pipe, Queue}
use Rattle.ws_steps.specs.declared.pipes.{Action.{Action}, Action.TheVariants.{AbortDest, CancelSource, CloseDest, BySignal}, Ends.{Ends}, Phase.{Phase}, Phase.TheVariants.{Flowing, Waiting, Acting, Over}, PipeOperation.{PipeOperation}, PipeOperation.TheVariants.{ActionSettled}, Prevent.{Prevent}}
use Rattle.ws_steps.specs.declared.promises.Micro.TheVariants.{PipeNoParts}
use Rattle.ws_steps.specs.declared.readable.ReadableOperation.TheVariants.{Cancel, CancelIfReadable}
use Rattle.ws_steps.specs.declared.writable.WritableOperation.TheVariants.{Abort, AbortIfWritable, ClosePropagating}
use Rattle.ws_steps.specs.Effects.{Out}
use Rattle.ws_steps.specs.Operations.{pipe_operation}
use Rattle.ws_steps.specs.Pipes as pipe
use Rattle.ws_steps.specs.Pipes.{is_flowing}
use Rattle.ws_steps.specs.Promises.{Table, next_id, fresh}
use Rattle.ws_steps.specs.Slots.{Slots, Stream, as_writable, Done, put_pipe, ends_at, pipe_at, as_pipe, on_pipe_at, writable_at}
use Rattle.ws_steps.specs.Turns.{row}
use Rattle.ws_laws.proofs.Lists.{Each, each-append}
use Rattle.ws_promise_laws.proofs.Runs.{Straight, straight-stays}
use Rattle.ws_pipe_laws.specs.pipes.PipeHistory.{is_live, is_over, shutdown, shutdown_by, ended_by, came_to_end, error_after, operation_course, no_course}
use Rattle.ws_pipe_laws.specs.pipes.PipeMoves.{starting, Move, MoveRests, MoveWaits, MoveActs, MoveEnds, MoveFinishes, IsNamed, acted, hears_part, dest_aborted, signalled, shut_in, end_effects}
use Rattle.ws_pipe_laws.proofs.pipes.Moves.{each_pipe_moves}
use Rattle.ws_pipe_laws.proofs.pipes.Kept.{each_pipe_keeps_its_ends}
use Rattle.ws_pipe_laws.proofs.pipes.Courses.{place_same}
use Rattle.ws_pipe_laws.proofs.locks.Runs.{Locked, locked-stays}
use Rattle.ws_end_laws.proofs.hosts.Closing.{closed_in}
use Rattle.ws_end_laws.proofs.hosts.Staying.{Open}
use Rattle.ws_end_laws.proofs.hosts.Dests.{NoClose, FateOr}
use Rattle.ws_end_laws.proofs.hosts.Acts.{Fits, are_idle-fit, end-effects-fit, each-weaker, are_idle-close}
use Rattle.ws_end_laws.proofs.hosts.Piped.{Told, gives, Shape, Calm, Asking, Giving, SourcesOr, Later, Leaves, fate-next, sources-next, told-next, row-or}
use Rattle.ws_end_laws.proofs.hosts.PipedRows.{EndWell, ends-append, effect_ends, Piped, row-leaves, same_first}
use Rattle.ws_laws.proofs.Truth.{false_true}
use Rattle.ws_end_laws.proofs.hosts.Places.{self, told_acting}

-- a shutdown without an error closes the destination, unless that is prevented
pub close_named : (prevent : Prevent) (ends : Ends) (operation : PipeOperation) (a : Option Action) (e : Option Plain) → shutdown_by prevent ends operation ≡ Some (shutdown a e) → e ≡ None → prevent.close ≡ false → a ≡ Some CloseDest
close_named prevent ends operation a e f n c = grind arith

-- where a pipe ends, and its end has no error

came_by : (b c : Bool) (operation : PipeOperation) (y : pipe.Slots) (C : Type 0) → (c ≡ true → b ≡ false → ended_by operation y ≡ None → C) → EndWell C (if not b && c then ended_by operation y ∷ [] else [])
came_by true c operation y C f = tt
came_by false true operation y C f = ((λ e. f refl refl e), tt)
came_by false false operation y C f = tt

ends_told : (operation : PipeOperation) (x y : pipe.Slots) (C : Type 0) → (is_over y.phase ≡ true → is_over x.phase ≡ false → ended_by operation y ≡ None → C) → EndWell C (came_to_end operation x y)
ends_told operation x y C f = came_by (is_over x.phase) (is_over y.phase) operation y C f

ended_none : (operation : PipeOperation) (y : pipe.Slots) → ended_by operation y ≡ None → y.error ≡ None
ended_none (ActionSettled (Ok v)) y e = e
ended_none (ActionSettled (Err r)) y e = absurd (cc)
ended_none _ y e = e

module _ (p : PipeId) (i : StreamId) where
  -- an operation of the pipe, as its first effect

  module _ (s : Slots) (operation : PipeOperation) (es : List Effect) (x : pipe.Slots) where
    abbrev first : Effect
    first = Pipe p operation

    -- what stood on the agenda behind it
    data Behind : Type 0 where
      BehindCalm : Each (Fits p (Told p i x s)) es → Behind
      BehindGiving : (d : PromiseId) (cs rest : List Effect) → es ≡ cs ++ gives p i d ∷ rest → is_live x.phase ≡ false → (x.error ≡ None → FateOr i d s)
          → Each (Fits p (Told p i x s)) cs → Each (Fits p (Told p i x s)) rest → Behind

    behind : Shape p i x s (first ∷ es) → Fits p (Told p i x s) first × Behind
    behind (Calm f) = (f.0, BehindCalm f.1)
    behind (Asking d rest f late open_ fits) = let n : first ≡ Writable i (ClosePropagating d) = (same_first p i first (Writable i (ClosePropagating d)) es (gives p i d ∷ rest) f).0 in absurd (cc)
    behind (Giving d [] rest f late fate fc fr) = let n : first ≡ gives p i d = (same_first p i first (gives p i d) es rest f).0 in absurd (cc)
    behind (Giving d (c ∷ cs) rest f late fate fc fr) =
        let same = same_first p i first c es (cs ++ gives p i d ∷ rest) f in
        (subst (Fits p (Told p i x s)) (sym same.0) fc.0, BehindGiving d cs rest same.1 late fate fc.1 fr)

    module _ (y : pipe.Slots) (z : Slots) (cs : List Effect) (l : Leaves p i s z (cs ++ es)) (later : Later p i x y) where
      abbrev V : Type 0
      V = Told p i x s

      abbrev U : Type 0
      U = Told p i y z

      weaker : V → U
      weaker = told-next p i s z (cs ++ es) l x y later

      late_next : is_live x.phase ≡ false → Later p i x y → (is_live y.phase ≡ false) × (y.error ≡ x.error)
      late_next late (inl live) = false_true (is_live x.phase) live late
      late_next late (inr k) = k

      -- it causes no reaction to an action
      quiet-shape : Each (Fits p U) cs → Behind → Shape p i y z (cs ++ es)
      quiet-shape fits (BehindCalm f) = Calm (each-append (Fits p U) cs es fits (each-weaker p V U weaker es f))
      quiet-shape fits (BehindGiving d ds rest e late fate fd fr) =
          let k = late_next late later in
          Giving d (cs ++ ds) rest (ap (λ (fs : List Effect). cs ++ fs) e ∙ sym (append_assoc cs ds (gives p i d ∷ rest))) k.0 (λ n. fate-next p i s z (cs ++ es) l d (fate (sym k.1 ∙ n)))
          (each-append (Fits p U) cs ds fits (each-weaker p V U weaker ds fd)) (each-weaker p V U weaker rest fr)

      -- of a pipe that was live
      calm_behind : is_live x.phase ≡ true → Behind → Each (Fits p U) es
      calm_behind live (BehindCalm f) = each-weaker p V U weaker es f
      calm_behind live (BehindGiving d ds rest e late fate fd fr) = false_true (is_live x.phase) live late

      -- it begins to act
      acts-shape : (ends : Ends) (w : pipe.Slots) (t : Table) (action : Action) → cs ≡ (acted p ends w t action).out.effects → w.dest ≡ i → is_live y.phase ≡ false → (y.error ≡ None → action ≡ CloseDest) → (y.error ≡ None → Open (writable_at i z)) → Each (Fits p U) es
          → Shape p i y z (cs ++ es)
      acts-shape ends w t CloseDest e dest late plain open_ fits =
          Asking (next_id t) es (ap (λ (ds : List Effect). ds ++ es) e ∙ ap (λ (j : StreamId). Writable j (ClosePropagating (next_id t)) ∷ gives p i (next_id t) ∷ es) dest) late open_ fits
      acts-shape ends w t (CancelSource r) e dest late plain open_ fits =
          Giving (next_id t) (Readable w.source (Cancel r (next_id t)) ∷ []) es (ap (λ (ds : List Effect). ds ++ es) e) late (λ n. other_action (plain n)) (tt, tt) fits
        where
          other_action : {A : Type 0} → CancelSource r ≡ CloseDest → A
          other_action n = absurd (cc)
      acts-shape ends w t (AbortDest r) e dest late plain open_ fits = by ends.dest_abort e
        where
          other_action : {A : Type 0} → AbortDest r ≡ CloseDest → A
          other_action n = absurd (cc)

          by : (a : Option PromiseId) → cs ≡ (dest_aborted p r w t a).out.effects → Shape p i y z (cs ++ es)
          by (Some d) f = Giving d [] es (ap (λ (ds : List Effect). ds ++ es) f) late (λ n. other_action (plain n)) tt fits
          by None f = Giving (next_id t) (Writable w.dest (Abort r (next_id t)) ∷ []) es (ap (λ (ds : List Effect). ds ++ es) f) late (λ n. other_action (plain n)) (tt, tt) fits
      acts-shape ends w t (BySignal r) e dest late plain open_ fits = by w.prevent.abort w.prevent.cancel e
        where
          other_action : {A : Type 0} → BySignal r ≡ CloseDest → A
          other_action n = absurd (cc)

          some_whole : (d : PromiseId) (ds : List Effect) → cs ≡ ds ++ gives p i d ∷ [] → Each (Fits p U) ds → Shape p i y z (cs ++ es)
          some_whole d ds f g = Giving d ds es (ap (λ (bs : List Effect). bs ++ es) f ∙ append_assoc ds (gives p i d ∷ []) es) late (λ n. other_action (plain n)) g fits

          by : (a c : Bool) → cs ≡ (signalled p r w t a c).out.effects → Shape p i y z (cs ++ es)
          by false false f = some_whole (next_id (fresh (fresh t))) (Writable w.dest (AbortIfWritable r (next_id t)) ∷ Readable w.source (CancelIfReadable r (next_id (fresh t))) ∷ hears_part p (next_id t) ∷ hears_part p (next_id (fresh t)) ∷ []) f (tt, (tt, (refl, (refl, tt))))
          by false true f = some_whole (next_id (fresh t)) (Writable w.dest (AbortIfWritable r (next_id t)) ∷ hears_part p (next_id t) ∷ []) f (tt, (refl, tt))
          by true false f = some_whole (next_id (fresh t)) (Readable w.source (CancelIfReadable r (next_id t)) ∷ hears_part p (next_id t) ∷ []) f (tt, (refl, tt))
          by true true f = some_whole (next_id t) (Queue (PipeNoParts p) ∷ []) f (tt, tt)

    -- what an operation does to the pipe

    record Moved (y : pipe.Slots) (z : Slots) (cs : List Effect) : Type 0 where
      later : Later p i x y
      live : is_live y.phase ≡ true → (is_live x.phase ≡ true) × Each (NoClose i) cs
      plain : is_flowing y.phase ≡ false → y.error ≡ None → y.action ≡ Some CloseDest
      over : is_over y.phase ≡ true → is_over x.phase ≡ false → ended_by operation y ≡ None → closed_in i s ≡ true
      shape : Leaves p i s z (cs ++ es) → Shape p i y z (cs ++ es)

    record Known : Type 0 where
      dest : x.dest ≡ i
      closes : x.prevent.close ≡ false
      open_ : is_live x.phase ≡ true → Open (writable_at i s)
      plain : is_flowing x.phase ≡ false → x.error ≡ None → x.action ≡ Some CloseDest
      fit : Fits p (Told p i x s) first
      behind : Behind
      acting : (o : Result Plain Plain) → operation ≡ ActionSettled o → x.phase ≡ Acting

    some_same : (a b : Action) → ◌≡◌ {A = Option Action} (Some a) (Some b) → a ≡ b
    some_same a b e = cc

    module _ (ends : Ends) (k : Known) where
      -- a shutdown without an error is a close
      named_plain : (y : pipe.Slots) (phase : Phase) → x.phase ≡ phase → IsNamed ends operation x y → y.error ≡ None → y.action ≡ Some CloseDest
      named_plain y Flowing f m e = close_named x.prevent ends operation y.action y.error (m.starts f) e k.closes
      named_plain y Waiting f m e = let same = m.keeps f in same.0 ∙ k.plain (ap is_flowing f) (sym same.1 ∙ e)
      named_plain y Acting f m e = false_true (is_live x.phase) m.live (ap is_live f)
      named_plain y Over f m e = false_true (is_live x.phase) m.live (ap is_live f)

      rests-later : (y : pipe.Slots) (b : Bool) → is_live x.phase ≡ b → y.phase ≡ x.phase → y.error ≡ x.error → Later p i x y
      rests-later y true e f g = inl e
      rests-later y false e f g = inr (ap is_live f ∙ e, g)

      settled_well : (y : pipe.Slots) (o : Result Plain Plain) → operation ≡ ActionSettled o → y.error ≡ x.error → ended_by operation y ≡ None → closed_in i s ≡ true
      settled_well y (Ok v) e f n =
          let told : Told p i x s = subst (λ (c : PipeOperation). Fits p (Told p i x s) (Pipe p c)) e k.fit (self p) in
          told.1 (sym f ∙ ended_none operation y n)
      settled_well y (Err r) e f n = let m : Some r ≡ None = sym (ap (λ (c : PipeOperation). ended_by c y) e) ∙ n in absurd (cc)

      move-moved : (z : Slots) (b : pipe.Acts) → z.streams ≡ s.streams → Move p ends operation x s.promises b → Moved b.slots z b.out.effects
      move-moved z b same (MoveRests f a e idle) = record {
        later = rests-later b.slots (is_live x.phase) refl f e;
        live = λ l. (sym (ap is_live f) ∙ l, are_idle-close i b.out.effects idle);
        plain = λ l n. a ∙ k.plain (sym (ap is_flowing f) ∙ l) (sym e ∙ n);
        over = λ o n c. false_true (is_over x.phase) (sym (ap is_over f) ∙ o) n;
        shape = λ l. quiet-shape b.slots z b.out.effects l (rests-later b.slots (is_live x.phase) refl f e) (are_idle-fit p (Told p i b.slots z) b.out.effects idle) k.behind;
      }
      move-moved z b same (MoveWaits f e m w o) =
          let phase : b.slots.phase ≡ Waiting = ap (λ (y : pipe.Slots). y.phase) e in
          let none : b.out.effects ≡ [] = ap (λ (y : Out). y.effects) o in
          let later : Later p i x b.slots = inl (ap is_live f) in
          record {
            later = later;
            live = λ l. (ap is_live f, subst (Each (NoClose i)) (sym none) tt);
            plain = λ l n. named_plain b.slots x.phase refl m n;
            over = λ o n c. false_true (is_over b.slots.phase) o (ap is_over phase);
            shape = λ l. quiet-shape b.slots z b.out.effects l later (subst (Each (Fits p (Told p i b.slots z))) (sym none) tt) k.behind;
          }
      move-moved z b same (MoveActs action w e m hw o alike) =
          let later : Later p i x b.slots = inl m.live in
          let phase : b.slots.phase ≡ Acting = alike.phase ∙ ap (λ (y : pipe.Slots). y.phase) e in
          let is_action : w.action ≡ Some action = ap (λ (y : pipe.Slots). y.action) e in
          let plain : b.slots.error ≡ None → w.action ≡ Some CloseDest = λ n. named_plain w x.phase refl m (sym alike.error ∙ n) in
          let dest : w.dest ≡ i = ap (λ (y : pipe.Slots). y.dest) e ∙ (shut_dest operation (Some action) w.error ∙ k.dest) in
          record {
            later = later;
            live = λ l. false_true (is_live b.slots.phase) l (ap is_live phase);
            plain = λ l n. alike.action ∙ plain n;
            over = λ o n c. false_true (is_over b.slots.phase) o (ap is_over phase);
            shape = λ l.
                acts-shape b.slots z b.out.effects l later ends w s.promises action (ap (λ (y : pipe.Acts). y.out.effects) o) dest (ap is_live phase) (λ n. some_same action CloseDest (sym is_action ∙ plain n))
                (λ n. subst (λ (streams : List Stream). Open (as_writable (slice_get streams i.0))) (sym same) (k.open_ m.live)) (calm_behind b.slots z b.out.effects l later m.live k.behind);
          }
        where
          shut_dest : (c : PipeOperation) (a : Option Action) (e : Option Plain) → (shut_in c Acting a e x).dest ≡ x.dest
          shut_dest c a e = grind arith
      move-moved z b same (MoveEnds e m hw o) =
          let later : Later p i x b.slots = inl m.live in
          let phase : b.slots.phase ≡ Over = ap (λ (y : pipe.Slots). y.phase) e in
          let action : b.slots.action ≡ None = ap (λ (y : pipe.Slots). y.action) e in
          let effects : b.out.effects ≡ end_effects p x b.slots.error = ap (λ (y : Out). y.effects) o in
          record {
            later = later;
            live = λ l. false_true (is_live b.slots.phase) l (ap is_live phase);
            plain = λ l n. named_plain b.slots x.phase refl m n;
            over = λ o n c. let f : None ≡ Some CloseDest = sym action ∙ named_plain b.slots x.phase refl m (ended_none operation b.slots c) in absurd (cc);
            shape = λ l. quiet-shape b.slots z b.out.effects l later (subst (Each (Fits p (Told p i b.slots z))) (sym effects) (end-effects-fit p (Told p i b.slots z) p x b.slots.error)) k.behind;
          }
      move-moved z b same (MoveFinishes r f e o) =
          let acting : x.phase ≡ Acting = k.acting r f in
          let phase : b.slots.phase ≡ Over = ap (λ (y : pipe.Slots). y.phase) e in
          let error : b.slots.error ≡ x.error = ap (λ (y : pipe.Slots). y.error) e in
          let later : Later p i x b.slots = inr (ap is_live phase, error) in
          let effects : b.out.effects ≡ end_effects p x (error_after x.error r) = ap (λ (y : Out). y.effects) o in
          record {
            later = later;
            live = λ l. false_true (is_live b.slots.phase) l (ap is_live phase);
            plain = λ l n. ap (λ (y : pipe.Slots). y.action) e ∙ k.plain (ap is_flowing acting) (sym error ∙ n);
            over = λ o n c. settled_well b.slots r f error c;
            shape = λ l. quiet-shape b.slots z b.out.effects l later (subst (Each (Fits p (Told p i b.slots z))) (sym effects) (end-effects-fit p (Told p i b.slots z) p x (error_after x.error r))) k.behind;
          }

  -- the pipe acts while it is told of the end of its action

  pub own-row : (h : List (Option Plain)) (s : Slots) (operation : PipeOperation) (es : List Effect) → let e : Effect = Pipe p operation in Piped p i h s (e ∷ es) → Piped p i (h ++ effect_ends p e s) (row e s).slots ((row e s).caused ++ es)
  unfolding row
  own-row h s operation es k =
      let e : Effect = Pipe p operation in
      let x : pipe.Slots = k.x in
      let ends : Ends = ends_at x s in
      let b : pipe.Acts = pipe_operation p ends operation (starting x s.promises) in
      let d : Done = put_pipe p s b in
      let same : row e s ≡ d = ap (on_pipe_at (λ ends. pipe_operation p ends operation) p s) k.there in
      let there : slice_get d.slots.pipes p.0 ≡ Some b.slots = place_same s.pipes p.0 x b.slots k.there in
      let straight : Straight d.slots (d.caused ++ es) = subst (λ (c : Done). Straight c.slots (c.caused ++ es)) same (straight-stays.row s e es k.straight) in
      let l : Leaves p i s d.slots (d.caused ++ es) = subst (λ (c : Done). Leaves p i s c.slots (c.caused ++ es)) same (row-leaves p i s e es k.straight (straight-stays.row s e es k.straight) k.started) in
      let kept = each_pipe_keeps_its_ends p ends operation x s.promises in
      let at = behind s operation es x k.shape in
      let known : Known s operation es x = record {
        dest = k.dest;
        closes = k.closes;
        open_ = λ f. (k.live f).0;
        plain = k.plain;
        fit = at.0;
        behind = at.1;
        acting = told_acting p s operation es x k.there (k.straight.waits p);
      } in
      let m : Moved s operation es x b.slots d.slots d.caused = move-moved s operation es x ends known d.slots b refl (each_pipe_moves p ends operation x s.promises) in
      let told : effect_ends p e s ≡ came_to_end operation x b.slots =
      ap (λ (c : Bool). (if c then operation_course operation (pipe_at p s) (pipe_at p (row e s).slots) else no_course).ended) (self p)
      ∙ (ap (λ (y : pipe.Slots). came_to_end operation y (pipe_at p (row e s).slots)) (ap as_pipe k.there)
      ∙ ap (λ (y : pipe.Slots). came_to_end operation x y) (ap (λ (c : Done). pipe_at p c.slots) same ∙ ap as_pipe there)) in
      subst (λ (c : Done). Piped p i (h ++ effect_ends p e s) c.slots (c.caused ++ es)) (sym same)
      (rw told (record {
        x = b.slots;
        there = there;
        dest = kept.dest ∙ k.dest;
        closes = ap (λ (c : Prevent). c.close) kept.prevent ∙ k.closes;
        straight = straight;
        locked = subst (λ (c : Done). Locked c.slots (c.caused ++ es)) same (locked-stays.row s e es k.locked);
        stands = k.stands;
        started = k.started;
        live = λ f. let n = m.live f in let o = k.live n.0 in (o.0, each-append (NoClose i) d.caused es n.1 o.1.1);
        plain = m.plain;
        table = sources-next p i s d.slots (d.caused ++ es) l x b.slots m.later (subst (λ (c : Done). SourcesOr p i x s c.slots.promises) same (row-or p i x s e at.0 k.table));
        shape = m.shape l;
        ended = ends-append (closed_in i s ≡ true) h (came_to_end operation x b.slots) k.ended (ends_told operation x b.slots (closed_in i s ≡ true) m.over);
      }))
