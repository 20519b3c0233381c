-- A turn of an operation of a pipe: of the link's own, or of another.
use Rattle.std.proofs.Common.{◌≡◌, ◌≢◌, ◌⊎◌, inl, inr, ℕ, ◌≤◌, Bool, true, false, not, ◌&&◌, nat_eq, List, [], ◌∷◌, ◌++◌, length, Option, Some, None, slice_get, slice_set, refl, sym, ap, subst, ◌∙◌, arith}
use Rattle.ws_value.specs.declared.ids.PipeId.{PipeId}
use Rattle.ws_value.specs.declared.ids.StreamId.{StreamId}
use Rattle.ws_value.specs.declared.value.Value.{Value}
use Rattle.ws_steps.specs.declared.effects.Effect.{Effect}
use Rattle.ws_steps.specs.declared.effects.Effect.TheVariants.{Pipe as OnPipe}
use Rattle.ws_steps.specs.declared.pipes.PipeOperation.{PipeOperation}
use Rattle.ws_steps.specs.declared.pipes.PipeOperation.TheVariants as names
use Rattle.ws_steps.specs.declared.readable.ReadableState.TheVariants.{Closed as ReadableClosed}
use Rattle.ws_steps.specs.Histories.{is_same}
use Rattle.ws_steps.specs.Operations.{pipe_operation}
use Rattle.ws_steps.specs.Pipes as pipe
use Rattle.ws_steps.specs.Pipes.{write_chunk}
use Rattle.ws_steps.specs.Promises.{Table}
use Rattle.ws_steps.specs.Readable as readable
use Rattle.ws_steps.specs.Slots.{Slots, Done, ends_at, source_at, writable_at, pipe_at, as_pipe, on_pipe_at}
use Rattle.ws_steps.specs.Turns.{row}
use Rattle.ws_steps.specs.Writable as writable
use Rattle.ws_steps.specs.Writable.{is_writable, is_closing}
use Rattle.ws_steps.proofs.PromiseLaws.{slice_get-set_other}
use Rattle.ws_flow.specs.Told.{Open, Closed, Told, told, then_told}
use Rattle.ws_flow.proofs.Told.{short_refl}
use Rattle.ws_laws.proofs.Lists.{Each, each-append, each-map}
use Rattle.ws_laws.proofs.PipeDoes.{PipeCauses, pipe-causes, is_looking}
use Rattle.ws_laws.proofs.Tables.{eq_numbers, unequal_numbers}
use Rattle.ws_pipe_laws.specs.pipes.PipeMoves.{starting}
use Rattle.ws_pipe_laws.specs.pipes.PipeReads.{held_values}
use Rattle.ws_pipe_laws.proofs.pipes.AtSource.{off, all_off, OffNone, off_none, own_off}
use Rattle.ws_pipe_laws.proofs.pipes.PassingRuns.{Few, place_same, row-few}
use Rattle.ws_pipe_laws.proofs.pipes.Reading.{of_effect, IsNone, none-all, other-none}
use Rattle.ws_writable_laws.proofs.Shape.{all, all-append}
use Rattle.ws_link_laws.specs.Link.{Ear, silence, in_sink, in_source, in_pipe, ear_at, unheard}
use Rattle.ws_link_laws.specs.Sound.{AreApart, IsApart, SinkFits, Closes}
use Rattle.ws_link_laws.proofs.Ahead.{row-ahead}
use Rattle.ws_link_laws.proofs.Hosts.{row-ear}
use Rattle.ws_link_laws.proofs.Telling.{tells, IsSilent, silent-all, hands, writes, chunks, coming}
use Rattle.ws_link_laws.proofs.Unheard.{row-unheard}
use Rattle.ws_link_laws.proofs.Pipes.{rank, chunk_in, IsCalm, IsNoGo, is_writing, Finds, HasRoom, PipeKept, pipe_keeps, late_writes}
use Rattle.ws_link_laws.proofs.Moves.{pipe-passes}
use Rattle.ws_link_laws.proofs.SourceTurns.{Turned}
use Rattle.ws_link_laws.proofs.Standing.{IsInner, inner-later, IsNotLast, IsStill, AtEnd, at_end-append, State, Sound, split}
use Rattle.ws_link_laws.specs.Link.{giver_at, Giver}
use Rattle.ws_link_laws.proofs.Hosts.{row-giver}

-- what a pipe causes calls nothing, brings no chunk to a pipe, and lets nothing into a stream

caused-hands : (w : Ear) (q : PipeId) (source dest : StreamId) (e : Effect) → PipeCauses q source dest e → IsSilent (hands w) e
caused-hands w q source dest e c = grind (arith, c)

pub caused-chunks : (p q : PipeId) (source dest : StreamId) (e : Effect) → PipeCauses q source dest e → IsSilent (chunks p) e
caused-chunks p q source dest e c = grind (arith, c)

caused-coming : (o : Giver) (i : StreamId) (q : PipeId) (source dest : StreamId) (e : Effect) → PipeCauses q source dest e → IsSilent (coming o i) e
caused-coming o i q source dest e c = grind (arith, c)

-- a pipe to another destination writes nothing to j
pub other-writes : (j : StreamId) (q : PipeId) (source dest : StreamId) (e : Effect) → is_same j dest ≡ false → PipeCauses q source dest e → IsSilent (writes j) e
other-writes j q source dest e n c = grind (arith, n, c)

-- and from another source asks nothing of i
pub other-inner : (i j : StreamId) (p : PipeId) (n : ℕ) (q : PipeId) (source dest : StreamId) (e : Effect) → is_same i source ≡ false → PipeCauses q source dest e → IsInner i j p n e
other-inner i j p n q source dest e x c = grind (arith, x, c)

-- and another pipe does nothing last
pub other-last : (p q : PipeId) (source dest : StreamId) (e : Effect) → nat_eq p.0 q.0 ≡ false → PipeCauses q source dest e → IsNotLast p e
other-last p q source dest e n c = grind (arith, n, c)

pub self : (p : PipeId) → nat_eq p.0 p.0 ≡ true
self p = grind arith

-- the pipe itself asks its source for its own reads, and cancels it once it acts
pub own-inner : (i j : StreamId) (p : PipeId) (n : ℕ) (source dest : StreamId) (e : Effect) → PipeCauses p source dest e × IsCalm n e → IsInner i j p n e
own-inner i j p n source dest e c = let s = self p in grind (arith, s, c)

pub each-both : (P Q : Effect → Type 0) (es : List Effect) → Each P es → Each Q es → Each (λ e. P e × Q e) es
each-both P Q [] a b = tt
each-both P Q (e ∷ es) a b = ((a.0, b.0), each-both P Q es a.1 b.1)

go-last : (p : PipeId) (e : Effect) → IsNoGo e → IsNotLast p e
go-last p e n = grind (arith, n)

-- a write is caused with a reaction and a look behind it
module _ (j : StreamId) (p : PipeId) (x : pipe.Slots) (t : Table) (es : List Effect) where
  pub write-ends : IsStill j p es → AtEnd j p es → AtEnd j p ((write_chunk p (starting x t)).out.effects ++ es)
  unfolding write_chunk
  write-ends still a = grind (arith, still, a)

pub own-ends : (j : StreamId) (p : PipeId) (operation : PipeOperation) (cs es : List Effect) → (is_writing operation ≡ false → Each IsNoGo cs) → (is_writing operation ≡ true → IsStill j p es → AtEnd j p es → AtEnd j p (cs ++ es))
    → AtEnd j p (OnPipe p operation ∷ es) → AtEnd j p (cs ++ es)
own-ends j p operation cs es quiet writes a = by (is_writing operation) refl
  where
    by : (w : Bool) → w ≡ is_writing operation → AtEnd j p (cs ++ es)
    by false e = at_end-append j p cs es (each-map IsNoGo (IsNotLast p) (go-last p) cs (quiet (sym e))) a.1
    by true e = writes (sym e) (a.0 (let s = self p in grind (arith, s, e))) a.1

pub writing_is : (operation : PipeOperation) → is_writing operation ≡ true → operation ≡ names.WriteChunk
writing_is operation e = grind (arith, e)

-- the pipes of a table, where one is put in the place of another between the same streams

pub apart-set : (i j : StreamId) (p q : PipeId) (ps : List pipe.Slots) (x y : pipe.Slots) → slice_get ps q.0 ≡ Some x → y.source ≡ x.source → y.dest ≡ x.dest → AreApart i j p ps → AreApart i j p (slice_set ps q.0 y)
apart-set i j p q ps x y there f g a n u e m = by (nat_eq n q.0) refl
  where
    by : (same : Bool) → same ≡ nat_eq n q.0 → IsApart i j u
    by false d = a n u (sym (slice_get-set_other ps q.0 n y (λ h. unequal_numbers n q.0 (sym d) (sym h))) ∙ e) m
    by true d =
        let is : n ≡ q.0 = eq_numbers n q.0 (sym d) in
        let here : slice_get (slice_set ps q.0 y) n ≡ Some y = rw is (place_same ps q.0 x y there) in
        let old : slice_get ps n ≡ Some x = rw is there in
        let same : u ≡ y = cc in
        let h = a n x old m in
        rw (same, f, g) h

-- an operation of the link's own pipe

pub in_source_closed : (r : readable.Slots) (M : Told Value) → r.state ≡ ReadableClosed → then_told (in_source r) M ≡ told [] Closed
in_source_closed r M e = rw e refl

pub sink_shut : (w : writable.Slots) → SinkFits w → is_writable w.state && not (is_closing w) ≡ false → (in_sink w).mark ≢ Open
sink_shut w f e = grind (arith, f, e)

pub shut_more : (K W : Told Value) → K.mark ≢ Open → (then_told K W).mark ≢ Open
shut_more K W n = grind (arith, n)

pub held_none : (o : Option Value) → length (held_values o) ≤ 0 → o ≡ None
held_none None l = refl
held_none (Some v) l = absurd (omega (arith, l))

module _ (i j : StreamId) (p : PipeId) (s : Slots) (operation : PipeOperation) (es : List Effect) (h : Sound i j p s (OnPipe p operation ∷ es)) where
  abbrev e : Effect
  e = OnPipe p operation

  abbrev x : pipe.Slots
  x = pipe_at p s

  abbrev b : pipe.Acts
  b = pipe_operation p (ends_at x s) operation (starting x s.promises)

  abbrev z : Slots
  z = (row e s).slots

  abbrev cs : List Effect
  cs = (row e s).caused

  abbrev C : Told Value
  C = tells (chunks p) es

  abbrev Q : Told Value
  Q = then_told (in_source (source_at i s)) (tells (coming (giver_at i s) i) es)

  abbrev K : Told Value
  K = then_told (in_sink (writable_at j s)) (tells (writes j) es)

  is_row : row e s ≡ on_pipe_at (λ ends. pipe_operation p ends operation) p s (Some x)
  unfolding row
  is_row = ap (on_pipe_at (λ ends. pipe_operation p ends operation) p s) h.state.there

  caused : cs ≡ b.out.effects
  caused = ap (λ (d : Done). d.caused) is_row

  placed : z.pipes ≡ slice_set s.pipes p.0 b.slots
  placed = ap (λ (d : Done). d.slots.pipes) is_row

  streams : z.streams ≡ s.streams
  streams = ap (λ (d : Done). d.slots.streams) is_row

  here : slice_get z.pipes p.0 ≡ Some b.slots
  here = rw placed (place_same s.pipes p.0 x b.slots h.state.there)

  at : pipe_at p z ≡ b.slots
  at = ap as_pipe here

  causes : (b.slots.source ≡ x.source) × ((b.slots.dest ≡ x.dest) × Each (PipeCauses p x.source x.dest) b.out.effects)
  causes = pipe-causes p (ends_at x s) operation (starting x s.promises) tt

  finds : Finds (ends_at x s) K Q
  finds = record {
    closed = λ c. in_source_closed (source_at i s) (tells (coming (giver_at i s) i) es) (rw h.state.from at c);
    shut = λ c. shut_more (in_sink (writable_at j s)) (tells (writes j) es) (sink_shut (writable_at j s) h.state.sink_fits (rw h.state.into at c));
  }

  room : HasRoom operation x
  room = by operation h.few
    where
      by : (o : PipeOperation) → Few p s (OnPipe p o ∷ es) → HasRoom o x
      by (names.KeepChunk v) w = let g = self p in let there = h.state.there in held_none x.held (grind (arith, w, g, there))
      by o w = grind arith

  still : is_looking operation ≡ true → IsStill j p es
  still l = h.ends.0 (let g = self p in rw (g, l) refl)

  kept : PipeKept j operation (ends_at x s) K Q C x b
  kept =
      pipe_keeps p j operation (ends_at x s) K Q C x s.promises finds h.state.into (subst (λ (k : StreamId). Closes x.phase x.action ((source_at k s).state ≡ ReadableClosed)) (sym h.state.from) h.state.closes) (λ l. (still l).chunks) room

  either-way : (tells (writes j) b.out.effects ≡ silence) ⊎ (tells (writes j) es ≡ silence)
  either-way = by (is_looking operation) refl
    where
      by : (l : Bool) → l ≡ is_looking operation → (tells (writes j) b.out.effects ≡ silence) ⊎ (tells (writes j) es ≡ silence)
      by true l = inr (still (sym l)).writes
      by false l = inl (late_writes p j operation (ends_at x s) x s.promises h.state.into (sym l))

  state : State i j p z
  state = record {
    source = rw streams h.state.source;
    bare = rw streams h.state.bare;
    sink = rw streams h.state.sink;
    there = rw at here;
    from = rw at (causes.0 ∙ h.state.from);
    into = rw at (causes.1.0 ∙ h.state.into);
    apart = rw placed (apart-set i j p p s.pipes x b.slots h.state.there causes.0 causes.1.0 h.state.apart);
    source_fits = rw streams h.state.source_fits;
    sink_fits = rw streams h.state.sink_fits;
    closes = rw (at, streams) (subst (λ (k : StreamId). Closes b.slots.phase b.slots.action ((source_at k s).state ≡ ReadableClosed)) h.state.from kept.closes);
  }

  off-caused : all (off p i) b.out.effects ≡ 0
  off-caused = off_none p i b.out.effects (each-map _ (OffNone p i) (λ c k. own_off p i p x.dest c (rw h.state.from at k)) b.out.effects causes.1.1)

  own-turned : Turned i j p s (OnPipe p operation) es
  own-turned = record {
    sound = record {
      state = state;
      ahead = row-ahead i j s e es h.ahead;
      few = row-few p s e es h.few;
      only = let a = all-append (off p i) b.out.effects es in let n = off-caused in let w = h.only in rw (streams, caused) (omega (arith, a, n, w));
      inner = rw (at, caused)
          (each-append (IsInner i j p (rank b.slots.phase)) b.out.effects es
          (each-map _ (IsInner i j p (rank b.slots.phase)) (own-inner i j p (rank b.slots.phase) x.source x.dest) b.out.effects (each-both (PipeCauses p x.source x.dest) (IsCalm (rank b.slots.phase)) b.out.effects causes.1.1 kept.calm))
          (inner-later i j p (rank x.phase) (rank b.slots.phase) es kept.later h.inner.1));
      ends = rw caused (own-ends j p operation b.out.effects es kept.none
          (λ w. subst (λ (o : PipeOperation). IsStill j p es → AtEnd j p es → AtEnd j p ((pipe_operation p (ends_at x s) o (starting x s.promises)).out.effects ++ es)) (sym (writing_is operation w)) (write-ends j p x s.promises es)) h.ends);
    };
    short =
        rw (
          split i j p z cs es,
          row-ear j e s,
          row-giver i e s,
          row-unheard (ear_at j s) e s tt,
          caused,
          at,
          streams,
          silent-all (hands (ear_at j s)) b.out.effects (each-map _ (IsSilent (hands (ear_at j s))) (caused-hands (ear_at j s) p x.source x.dest) b.out.effects causes.1.1),
          silent-all (chunks p) b.out.effects (each-map _ (IsSilent (chunks p)) (caused-chunks p p x.source x.dest) b.out.effects causes.1.1),
          silent-all (coming (giver_at i s) i) b.out.effects (each-map _ (IsSilent (coming (giver_at i s) i)) (caused-coming (giver_at i s) i p x.source x.dest) b.out.effects causes.1.1),
        )
        (pipe-passes (unheard (ear_at j s) s.promises.events) (tells (hands (ear_at j s)) es) (in_sink (writable_at j s)) (tells (writes j) es) (tells (writes j) b.out.effects) (in_pipe b.slots (then_told C Q)) _ either-way (rw (own_chunk operation) kept.short));
  }
    where
      own_chunk : (o : PipeOperation) → chunks p (OnPipe p o) ≡ chunk_in o
      own_chunk (names.KeepChunk v) = rw (self p) refl
      own_chunk o = refl

-- an operation of another pipe

pub other_chunk : (p q : PipeId) (operation : PipeOperation) → nat_eq p.0 q.0 ≡ false → chunks p (OnPipe q operation) ≡ silence
other_chunk p q operation n = grind (arith, n)

module _ (i j : StreamId) (p : PipeId) (s : Slots) (q : PipeId) (operation : PipeOperation) (es : List Effect) (n : nat_eq p.0 q.0 ≡ false) (h : Sound i j p s (OnPipe q operation ∷ es)) where
  -- what another pipe leaves
  record Apart (d : Done) : Type 0 where
    streams : d.slots.streams ≡ s.streams
    here : slice_get d.slots.pipes p.0 ≡ slice_get s.pipes p.0
    apart : AreApart i j p d.slots.pipes
    hands : tells (hands (ear_at j s)) d.caused ≡ silence
    writes : tells (writes j) d.caused ≡ silence
    chunks : tells (chunks p) d.caused ≡ silence
    coming : tells (coming (giver_at i s) i) d.caused ≡ silence
    inner : Each (IsInner i j p (rank (pipe_at p s).phase)) d.caused
    last : Each (IsNotLast p) d.caused
    off : all (off p i) d.caused ≡ 0

  apart-of : (o : Option pipe.Slots) → slice_get s.pipes q.0 ≡ o → Apart (on_pipe_at (λ ends. pipe_operation q ends operation) q s o)
  apart-of None e = record { streams = refl; here = refl; apart = h.state.apart; hands = refl; writes = refl; chunks = refl; coming = refl; inner = tt; last = tt; off = refl }
  apart-of (Some x) e =
      let b : pipe.Acts = pipe_operation q (ends_at x s) operation (starting x s.promises) in
      let c = pipe-causes q (ends_at x s) operation (starting x s.promises) tt in
      let far = h.state.apart q.0 x e (λ k. unequal_numbers p.0 q.0 n (sym k)) in
      let none : all (of_effect p) b.out.effects ≡ 0 = none-all p b.out.effects (each-map _ (IsNone p) (other-none p q n x.source x.dest) b.out.effects c.1.1) in
      record {
        streams = refl;
        here = slice_get-set_other s.pipes q.0 p.0 b.slots (λ k. unequal_numbers p.0 q.0 n (sym k));
        apart = apart-set i j p q s.pipes x b.slots e c.0 c.1.0 h.state.apart;
        hands = silent-all (hands (ear_at j s)) b.out.effects (each-map _ (IsSilent (hands (ear_at j s))) (caused-hands (ear_at j s) q x.source x.dest) b.out.effects c.1.1);
        writes = silent-all (writes j) b.out.effects (each-map _ (IsSilent (writes j)) (λ u k. other-writes j q x.source x.dest u far.1 k) b.out.effects c.1.1);
        chunks = silent-all (chunks p) b.out.effects (each-map _ (IsSilent (chunks p)) (caused-chunks p q x.source x.dest) b.out.effects c.1.1);
        coming = silent-all (coming (giver_at i s) i) b.out.effects (each-map _ (IsSilent (coming (giver_at i s) i)) (caused-coming (giver_at i s) i q x.source x.dest) b.out.effects c.1.1);
        inner = each-map _ (IsInner i j p (rank (pipe_at p s).phase)) (λ u k. other-inner i j p (rank (pipe_at p s).phase) q x.source x.dest u far.0 k) b.out.effects c.1.1;
        last = each-map _ (IsNotLast p) (λ u k. other-last p q x.source x.dest u n k) b.out.effects c.1.1;
        off = let a = all_off p i b.out.effects in omega (arith, a, none);
      }

  other-turned : Turned i j p s (OnPipe q operation) es
  unfolding row
  other-turned =
      let e : Effect = OnPipe q operation in
      let cs : List Effect = (row e s).caused in
      let z : Slots = (row e s).slots in
      let a : Apart (row e s) = apart-of (slice_get s.pipes q.0) refl in
      let same : pipe_at p z ≡ pipe_at p s = ap as_pipe a.here in
      record {
        sound = record {
          state = record {
            source = rw a.streams h.state.source;
            bare = rw a.streams h.state.bare;
            sink = rw a.streams h.state.sink;
            there = rw same (a.here ∙ h.state.there);
            from = rw same h.state.from;
            into = rw same h.state.into;
            apart = a.apart;
            source_fits = rw a.streams h.state.source_fits;
            sink_fits = rw a.streams h.state.sink_fits;
            closes = rw (same, a.streams) h.state.closes;
          };
          ahead = row-ahead i j s e es h.ahead;
          few = row-few p s e es h.few;
          only = let f = all-append (off p i) cs es in let g = a.off in let w = h.only in rw a.streams (omega (arith, f, g, w));
          inner = rw same (each-append (IsInner i j p (rank (pipe_at p s).phase)) cs es a.inner h.inner.1);
          ends = at_end-append j p cs es a.last h.ends.1;
        };
        short = rw (split i j p z cs es, row-ear j e s, row-giver i e s, row-unheard (ear_at j s) e s tt, a.hands, a.writes, a.chunks, a.coming, same, a.streams, other_chunk p q operation n) (short_refl _);
      }

pub pipe-turned : (i j : StreamId) (p : PipeId) (s : Slots) (q : PipeId) (operation : PipeOperation) (es : List Effect) → Sound i j p s (OnPipe q operation ∷ es) → Turned i j p s (OnPipe q operation) es
pipe-turned i j p s q operation es h = by (nat_eq p.0 q.0) refl
  where
    by : (same : Bool) → same ≡ nat_eq p.0 q.0 → Turned i j p s (OnPipe q operation) es
    by false n = other-turned i j p s q operation es (sym n) h
    by true n =
        let is : p ≡ q = ap (λ (m : ℕ). record { 0 = m }) (eq_numbers p.0 q.0 (sym n)) in
        subst (λ (x : PipeId). Sound i j p s (OnPipe x operation ∷ es) → Turned i j p s (OnPipe x operation) es) is (own-turned i j p s operation es) h
