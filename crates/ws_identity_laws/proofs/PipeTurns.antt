-- A turn of an operation of a pipe: of the link's own, or of another.
use Rattle.std.proofs.Common.{◌≡◌, ◌⊎◌, inl, inr, ℕ, Bool, true, false, nat_eq, List, [], ◌∷◌, ◌++◌, Option, Some, None, slice_get, slice_set, refl, sym, ap, subst, ◌∙◌, arith}
use Rattle.ws_value.specs.declared.ids.PipeId.{PipeId}
use Rattle.ws_value.specs.declared.ids.StreamId.{StreamId}
use Rattle.ws_value.specs.declared.value.Value.{Value}
use Rattle.ws_steps.specs.declared.effects.Effect.{Effect}
use Rattle.ws_steps.specs.declared.effects.Effect.TheVariants.{Pipe as OnPipe}
use Rattle.ws_steps.specs.declared.pipes.PipeOperation.{PipeOperation}
use Rattle.ws_steps.specs.declared.pipes.PipeOperation.TheVariants as names
use Rattle.ws_steps.specs.declared.readable.ReadableState.TheVariants.{Closed as ReadableClosed}
use Rattle.ws_steps.specs.Operations.{pipe_operation}
use Rattle.ws_steps.specs.Pipes as pipe
use Rattle.ws_steps.specs.Readable as readable
use Rattle.ws_steps.specs.Slots.{Slots, Done, ends_at, source_at, writable_at, pipe_at, as_pipe, on_pipe_at}
use Rattle.ws_steps.specs.Turns.{row}
use Rattle.ws_steps.specs.WritableHistory.{writes_then, effect_writes}
use Rattle.ws_steps.proofs.PromiseLaws.{slice_get-set_other}
use Rattle.ws_flow.specs.Told.{Closed, Told, told, then_told}
use Rattle.ws_flow.proofs.Told.{then_empty, short_refl}
use Rattle.ws_laws.proofs.Lists.{Each, each-append, each-map}
use Rattle.ws_laws.proofs.PipeDoes.{PipeCauses, pipe-causes, is_looking}
use Rattle.ws_laws.proofs.Tables.{eq_numbers, unequal_numbers}
use Rattle.ws_pipe_laws.specs.pipes.PipeMoves.{starting}
use Rattle.ws_pipe_laws.proofs.pipes.AtSource.{off, all_off, OffNone, off_none, own_off}
use Rattle.ws_pipe_laws.proofs.pipes.PassingRuns.{Few, place_same, row-few}
use Rattle.ws_pipe_laws.proofs.pipes.Reading.{of_effect, IsNone, none-all, other-none}
use Rattle.ws_writable_laws.proofs.Shape.{all, all-append}
use Rattle.ws_transform_laws.proofs.Halving.{going}
use Rattle.ws_transform_laws.proofs.PortHalving.{port-going}
use Rattle.ws_link_laws.specs.Link.{silence, in_sink, in_source, in_pipe}
use Rattle.ws_link_laws.specs.Sound.{AreApart, Closes}
use Rattle.ws_link_laws.proofs.Telling.{tells, IsSilent, silent-all, writes, chunks}
use Rattle.ws_link_laws.proofs.Pipes.{rank, chunk_in, IsCalm, Finds, HasRoom, PipeKept, pipe_keeps, late_writes}
use Rattle.ws_link_laws.proofs.PipeTurns.{caused-chunks, other-writes, other-inner, other-last, self, own-inner, each-both, write-ends, own-ends, writing_is, apart-set, sink_shut, shut_more, held_none, other_chunk}
use Rattle.ws_link_laws.proofs.Moves.{pipe-passes}
use Rattle.ws_link_laws.proofs.Standing.{IsInner, inner-later, IsNotLast, IsStill, AtEnd, at_end-append, State}
use Rattle.ws_identity_laws.proofs.Standing.{Stands, Turned, lies_on, split}
use Rattle.ws_link_laws.proofs.Hosts.{untied-same}
use Rattle.ws_laws.proofs.Shapes.{row-owner, row-tee_shapes}

-- an operation of the link's own pipe

source_closed : (r : readable.Slots) → r.state ≡ ReadableClosed → in_source r ≡ told [] Closed
source_closed r e = rw e refl

module _ (i j : StreamId) (p : PipeId) (s : Slots) (operation : PipeOperation) (es : List Effect) (h : Stands i j p s (OnPipe p operation ∷ es)) where
  abbrev e : Effect
  e = OnPipe p operation

  abbrev x : pipe.Slots
  x = pipe_at p s

  abbrev b : pipe.Acts
  b = pipe_operation p (ends_at x s) operation (starting x s.promises)

  abbrev z : Slots
  z = (row e s).slots

  abbrev cs : List Effect
  cs = (row e s).caused

  abbrev C : Told Value
  C = tells (chunks p) es

  abbrev Q : Told Value
  Q = in_source (source_at i s)

  abbrev K : Told Value
  K = then_told (in_sink (writable_at j s)) (tells (writes j) es)

  is_row : row e s ≡ on_pipe_at (λ ends. pipe_operation p ends operation) p s (Some x)
  unfolding row
  is_row = ap (on_pipe_at (λ ends. pipe_operation p ends operation) p s) h.state.there

  caused : cs ≡ b.out.effects
  caused = ap (λ (d : Done). d.caused) is_row

  placed : z.pipes ≡ slice_set s.pipes p.0 b.slots
  placed = ap (λ (d : Done). d.slots.pipes) is_row

  streams : z.streams ≡ s.streams
  streams = ap (λ (d : Done). d.slots.streams) is_row

  here : slice_get z.pipes p.0 ≡ Some b.slots
  here = rw placed (place_same s.pipes p.0 x b.slots h.state.there)

  at : pipe_at p z ≡ b.slots
  at = ap as_pipe here

  causes : (b.slots.source ≡ x.source) × ((b.slots.dest ≡ x.dest) × Each (PipeCauses p x.source x.dest) b.out.effects)
  causes = pipe-causes p (ends_at x s) operation (starting x s.promises) tt

  finds : Finds (ends_at x s) K Q
  finds = record {
    closed = λ c. source_closed (source_at i s) (rw h.state.from at c);
    shut = λ c. shut_more (in_sink (writable_at j s)) (tells (writes j) es) (sink_shut (writable_at j s) h.state.sink_fits (rw h.state.into at c));
  }

  room : HasRoom operation x
  room = by operation h.few
    where
      by : (o : PipeOperation) → Few p s (OnPipe p o ∷ es) → HasRoom o x
      by (names.KeepChunk v) w = let g = self p in let there = h.state.there in held_none x.held (grind (arith, w, g, there))
      by o w = grind arith

  still : is_looking operation ≡ true → IsStill j p es
  still l = h.ends.0 (let g = self p in rw (g, l) refl)

  kept : PipeKept j operation (ends_at x s) K Q C x b
  kept =
      pipe_keeps p j operation (ends_at x s) K Q C x s.promises finds h.state.into (subst (λ (k : StreamId). Closes x.phase x.action ((source_at k s).state ≡ ReadableClosed)) (sym h.state.from) h.state.closes) (λ l. (still l).chunks) room

  either-way : (tells (writes j) b.out.effects ≡ silence) ⊎ (tells (writes j) es ≡ silence)
  either-way = by (is_looking operation) refl
    where
      by : (l : Bool) → l ≡ is_looking operation → (tells (writes j) b.out.effects ≡ silence) ⊎ (tells (writes j) es ≡ silence)
      by true l = inr (still (sym l)).writes
      by false l = inl (late_writes p j operation (ends_at x s) x s.promises h.state.into (sym l))

  state : State i j p z
  state = record {
    source = rw streams h.state.source;
    bare = rw streams h.state.bare;
    sink = rw streams h.state.sink;
    there = rw at here;
    from = rw at (causes.0 ∙ h.state.from);
    into = rw at (causes.1.0 ∙ h.state.into);
    apart = rw placed (apart-set i j p p s.pipes x b.slots h.state.there causes.0 causes.1.0 h.state.apart);
    source_fits = rw streams h.state.source_fits;
    sink_fits = rw streams h.state.sink_fits;
    closes = rw (at, streams) (subst (λ (k : StreamId). Closes b.slots.phase b.slots.action ((source_at k s).state ≡ ReadableClosed)) h.state.from kept.closes);
  }

  off-caused : all (off p i) b.out.effects ≡ 0
  off-caused = off_none p i b.out.effects (each-map _ (OffNone p i) (λ c k. own_off p i p x.dest c (rw h.state.from at k)) b.out.effects causes.1.1)

  own-turned : Turned i j p s (OnPipe p operation) es
  own-turned = record {
    stands = record {
      state = state;
      history = writes_then h.history (effect_writes j e s);
      going = λ t. (going j t).row h.history s e es (h.going t);
      porting = λ c. (port-going j c).row h.history s e es (h.porting c);
      few = row-few p s e es h.few;
      only = let a = all-append (off p i) b.out.effects es in let n = off-caused in let w = h.only in rw (streams, caused) (omega (arith, a, n, w));
      inner = rw (at, caused)
          (each-append (IsInner i j p (rank b.slots.phase)) b.out.effects es
          (each-map _ (IsInner i j p (rank b.slots.phase)) (own-inner i j p (rank b.slots.phase) x.source x.dest) b.out.effects (each-both (PipeCauses p x.source x.dest) (IsCalm (rank b.slots.phase)) b.out.effects causes.1.1 kept.calm))
          (inner-later i j p (rank x.phase) (rank b.slots.phase) es kept.later h.inner.1));
      ends = rw caused (own-ends j p operation b.out.effects es kept.none
          (λ w. subst (λ (o : PipeOperation). IsStill j p es → AtEnd j p es → AtEnd j p ((pipe_operation p (ends_at x s) o (starting x s.promises)).out.effects ++ es)) (sym (writing_is operation w)) (write-ends j p x s.promises es)) h.ends);
      untied = untied-same i s (row e s).slots (row-tee_shapes e s) ∙ h.untied;
      sunk = rw (row-owner j e s) h.sunk;
    };
    short =
        rw (
          split i j p z cs es,
          caused,
          at,
          streams,
          silent-all (chunks p) b.out.effects (each-map _ (IsSilent (chunks p)) (caused-chunks p p x.source x.dest) b.out.effects causes.1.1),
          then_empty (lies_on i j p s (e ∷ es)),
        )
        (pipe-passes silence silence (in_sink (writable_at j s)) (tells (writes j) es) (tells (writes j) b.out.effects) (in_pipe b.slots (then_told C Q)) _ either-way (rw (own_chunk operation) kept.short));
  }
    where
      own_chunk : (o : PipeOperation) → chunks p (OnPipe p o) ≡ chunk_in o
      own_chunk (names.KeepChunk v) = rw (self p) refl
      own_chunk o = refl

-- an operation of another pipe

module _ (i j : StreamId) (p : PipeId) (s : Slots) (q : PipeId) (operation : PipeOperation) (es : List Effect) (n : nat_eq p.0 q.0 ≡ false) (h : Stands i j p s (OnPipe q operation ∷ es)) where
  -- what another pipe leaves
  record Apart (d : Done) : Type 0 where
    streams : d.slots.streams ≡ s.streams
    here : slice_get d.slots.pipes p.0 ≡ slice_get s.pipes p.0
    apart : AreApart i j p d.slots.pipes
    writes : tells (writes j) d.caused ≡ silence
    chunks : tells (chunks p) d.caused ≡ silence
    inner : Each (IsInner i j p (rank (pipe_at p s).phase)) d.caused
    last : Each (IsNotLast p) d.caused
    off : all (off p i) d.caused ≡ 0

  apart-of : (o : Option pipe.Slots) → slice_get s.pipes q.0 ≡ o → Apart (on_pipe_at (λ ends. pipe_operation q ends operation) q s o)
  apart-of None e = record { streams = refl; here = refl; apart = h.state.apart; writes = refl; chunks = refl; inner = tt; last = tt; off = refl }
  apart-of (Some x) e =
      let b : pipe.Acts = pipe_operation q (ends_at x s) operation (starting x s.promises) in
      let c = pipe-causes q (ends_at x s) operation (starting x s.promises) tt in
      let far = h.state.apart q.0 x e (λ k. unequal_numbers p.0 q.0 n (sym k)) in
      let none : all (of_effect p) b.out.effects ≡ 0 = none-all p b.out.effects (each-map _ (IsNone p) (other-none p q n x.source x.dest) b.out.effects c.1.1) in
      record {
        streams = refl;
        here = slice_get-set_other s.pipes q.0 p.0 b.slots (λ k. unequal_numbers p.0 q.0 n (sym k));
        apart = apart-set i j p q s.pipes x b.slots e c.0 c.1.0 h.state.apart;
        writes = silent-all (writes j) b.out.effects (each-map _ (IsSilent (writes j)) (λ u k. other-writes j q x.source x.dest u far.1 k) b.out.effects c.1.1);
        chunks = silent-all (chunks p) b.out.effects (each-map _ (IsSilent (chunks p)) (caused-chunks p q x.source x.dest) b.out.effects c.1.1);
        inner = each-map _ (IsInner i j p (rank (pipe_at p s).phase)) (λ u k. other-inner i j p (rank (pipe_at p s).phase) q x.source x.dest u far.0 k) b.out.effects c.1.1;
        last = each-map _ (IsNotLast p) (λ u k. other-last p q x.source x.dest u n k) b.out.effects c.1.1;
        off = let a = all_off p i b.out.effects in omega (arith, a, none);
      }

  other-turned : Turned i j p s (OnPipe q operation) es
  unfolding row
  other-turned =
      let e : Effect = OnPipe q operation in
      let cs : List Effect = (row e s).caused in
      let z : Slots = (row e s).slots in
      let a : Apart (row e s) = apart-of (slice_get s.pipes q.0) refl in
      let same : pipe_at p z ≡ pipe_at p s = ap as_pipe a.here in
      record {
        stands = record {
          state = record {
            source = rw a.streams h.state.source;
            bare = rw a.streams h.state.bare;
            sink = rw a.streams h.state.sink;
            there = rw same (a.here ∙ h.state.there);
            from = rw same h.state.from;
            into = rw same h.state.into;
            apart = a.apart;
            source_fits = rw a.streams h.state.source_fits;
            sink_fits = rw a.streams h.state.sink_fits;
            closes = rw (same, a.streams) h.state.closes;
          };
          history = writes_then h.history (effect_writes j e s);
          going = λ t. (going j t).row h.history s e es (h.going t);
          porting = λ c. (port-going j c).row h.history s e es (h.porting c);
          few = row-few p s e es h.few;
          only = let f = all-append (off p i) cs es in let g = a.off in let w = h.only in rw a.streams (omega (arith, f, g, w));
          inner = rw same (each-append (IsInner i j p (rank (pipe_at p s).phase)) cs es a.inner h.inner.1);
          ends = at_end-append j p cs es a.last h.ends.1;
          untied = untied-same i s (row e s).slots (row-tee_shapes e s) ∙ h.untied;
          sunk = rw (row-owner j e s) h.sunk;
        };
        short = rw (split i j p z cs es, a.writes, a.chunks, same, a.streams, other_chunk p q operation n, then_empty (lies_on i j p s es)) (short_refl (lies_on i j p s es));
      }

pub pipe-turned : (i j : StreamId) (p : PipeId) (s : Slots) (q : PipeId) (operation : PipeOperation) (es : List Effect) → Stands i j p s (OnPipe q operation ∷ es) → Turned i j p s (OnPipe q operation) es
pipe-turned i j p s q operation es h = by (nat_eq p.0 q.0) refl
  where
    by : (same : Bool) → same ≡ nat_eq p.0 q.0 → Turned i j p s (OnPipe q operation) es
    by false n = other-turned i j p s q operation es (sym n) h
    by true n =
        let is : p ≡ q = ap (λ (m : ℕ). record { 0 = m }) (eq_numbers p.0 q.0 (sym n)) in
        subst (λ (x : PipeId). Stands i j p s (OnPipe x operation ∷ es) → Turned i j p s (OnPipe x operation) es) is (own-turned i j p s operation es) h
