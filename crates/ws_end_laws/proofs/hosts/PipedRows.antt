-- Each effect keeps what holds of a pipe that closes its destination.
use Rattle.std.proofs.Common.{◌≡◌, Bool, true, false, inl, inr, nat_eq, List, [], ◌∷◌, ◌++◌, Option, Some, None, slice_get, refl, sym, ap, subst, ◌∙◌, arith, append_assoc, append-nil, if◌then◌else◌}
use Rattle.ws_value.specs.declared.{ids.PipeId.{PipeId}, ids.PromiseId.{PromiseId}, ids.StreamId.{StreamId}}
use Rattle.ws_value.specs.declared.value.Plain.{Plain}
use Rattle.ws_steps.specs.declared.effects.Effect.{Effect}
use Rattle.ws_steps.specs.declared.effects.Effect.TheVariants.{Writable, Pipe}
use Rattle.ws_steps.specs.declared.pipes.{Action.{Action}, Action.TheVariants.{AbortDest, CancelSource, CloseDest, BySignal}, Ends.{Ends}, Phase.{Phase}, Phase.TheVariants.{Flowing, Waiting, Acting, Over}, PipeOperation.{PipeOperation}}
use Rattle.ws_steps.specs.declared.writable.WritableOperation.TheVariants.{ClosePropagating}
use Rattle.ws_steps.specs.Operations.{pipe_operation}
use Rattle.ws_steps.specs.Pipes as pipe
use Rattle.ws_steps.specs.Pipes.{is_flowing}
use Rattle.ws_steps.specs.Effects.{Out}
use Rattle.ws_steps.specs.Promises.{Table}
use Rattle.ws_steps.specs.Slots.{Slots, ends_at, pipe_at, on_pipe_at, writable_at, has_writable}
use Rattle.ws_steps.specs.Turns.{row}
use Rattle.ws_steps.specs.Histories.{is_same}
use Rattle.ws_laws.proofs.Lists.{Each, each-append}
use Rattle.ws_laws.proofs.Outcomes.{Keeps, keeps-same}
use Rattle.ws_laws.proofs.Rows.{row-changes}
use Rattle.ws_laws.proofs.Stays.{keeps-changes}
use Rattle.ws_laws.proofs.Tables.{unequal_numbers, is_same-refl}
use Rattle.ws_promise_laws.proofs.Runs.{Straight, straight-stays}
use Rattle.ws_pipe_laws.specs.pipes.PipeHistory.{is_live, is_over, error_after, operation_course, no_course, effect_course}
use Rattle.ws_pipe_laws.specs.pipes.PipeMoves.{Move, MoveRests, MoveWaits, MoveActs, MoveEnds, MoveFinishes, acted, dest_aborted, signalled, shut_in}
use Rattle.ws_pipe_laws.proofs.pipes.Moves.{each_pipe_moves}
use Rattle.ws_pipe_laws.specs.locks.Locks.{Writing, holds}
use Rattle.ws_pipe_laws.proofs.locks.Holding.{pipes-two}
use Rattle.ws_pipe_laws.proofs.locks.Runs.{Locked, locked-stays}
use Rattle.ws_end_laws.proofs.hosts.Closing.{closed_in}
use Rattle.ws_end_laws.proofs.hosts.Staying.{Open}
use Rattle.ws_end_laws.proofs.hosts.Dests.{NoClose, FateOr, row-shut, row-started, row-open, row-fate, row-asked, row-there}
use Rattle.ws_end_laws.proofs.hosts.Acts.{Fits, NotOf, caused-fit, each-weaker, fits-weaker, are_idle-close, end-effects-close, caused-close}
use Rattle.ws_end_laws.proofs.hosts.Piped.{Told, gives, Shape, Calm, Asking, Giving, Sources, SourcesOr, Later, Leaves, fate-next, sources-next, told-next, row-or, give-or}
use Rattle.ws_end_laws.proofs.hosts.Places.{other_there}

-- each end of a pipe without an error comes only where this holds
abbrev pub EndWell : Type 0 → List (Option Plain) → Type 0
EndWell C [] = Unit {0}
EndWell C (e ∷ es) = (e ≡ None → C) × EndWell C es

pub ends-append : (C : Type 0) (xs ys : List (Option Plain)) → EndWell C xs → EndWell C ys → EndWell C (xs ++ ys)
ends-append C [] ys a b = b
ends-append C (x ∷ xs) ys a b = (a.0, ends-append C xs ys a.1 b)

pub ends-weaker : (C D : Type 0) → (C → D) → (xs : List (Option Plain)) → EndWell C xs → EndWell D xs
ends-weaker C D f [] a = tt
ends-weaker C D f (x ∷ xs) a = ((λ e. f (a.0 e)), ends-weaker C D f xs a.1)

-- the ends of a pipe, by an effect
abbrev pub effect_ends : PipeId → Effect → Slots → List (Option Plain)
effect_ends p e s = (effect_course p e s).ended

module _ (p : PipeId) (i : StreamId) where
  -- what holds of the pipe at each moment: it is there, between its source and stream i, which it closes unless its shutdown has an error; while it
  -- is live stream i is open, and nothing closes it
  pub record Piped (h : List (Option Plain)) (s : Slots) (es : List Effect) : Type 0 where
    pub x : pipe.Slots
    pub there : slice_get s.pipes p.0 ≡ Some x
    pub dest : x.dest ≡ i
    pub closes : x.prevent.close ≡ false
    pub straight : Straight s es
    pub locked : Locked s es
    pub stands : has_writable i s ≡ true
    pub started : closed_in i s ≡ true → (writable_at i s).started ≡ true
    pub live : is_live x.phase ≡ true → Open (writable_at i s) × Each (NoClose i) es
    pub plain : is_flowing x.phase ≡ false → x.error ≡ None → x.action ≡ Some CloseDest
    pub table : Sources p i x s s.promises
    pub shape : Shape p i x s es
    pub ended : EndWell (closed_in i s ≡ true) h

  -- what an effect leaves

  keeps-row : (e : Effect) (s : Slots) → Keeps s.promises (row e s).slots.promises
  keeps-row e s = row-changes (Keeps s.promises) (keeps-changes s.promises) e s (keeps-same s.promises)

  pub row-leaves : (s : Slots) (e : Effect) (es : List Effect) → Straight s (e ∷ es) → Straight (row e s).slots ((row e s).caused ++ es) → (closed_in i s ≡ true → (writable_at i s).started ≡ true) → Leaves p i s (row e s).slots ((row e s).caused ++ es)
  row-leaves s e es k l t = record {
    straight = l;
    keeps = keeps-row e s;
    closed = λ c. (row-shut i s e es k (record { closed = c; started = t c })).closed;
    asked = λ q a. row-fate i q s e es k l.sound.holds.straight a;
  }

  -- two pipes that aren't over have no end in common

  live_over : (phase : Phase) → is_live phase ≡ true → is_over phase ≡ false
  live_over Flowing e = refl
  live_over Waiting e = refl
  live_over Acting e = cc
  live_over Over e = cc

  holds_one : (x : pipe.Slots) → is_live x.phase ≡ true → is_same i x.dest ≡ true → holds Writing i x ≡ true
  holds_one x e f = let o = live_over x.phase e in rw (o, f) refl

  apart : (q : PipeId) (x y : pipe.Slots) (s : Slots) (es : List Effect) → Locked s es → nat_eq p.0 q.0 ≡ false → slice_get s.pipes p.0 ≡ Some x → slice_get s.pipes q.0 ≡ Some y → is_live x.phase ≡ true → is_live y.phase ≡ true → x.dest ≡ i
      → is_same i y.dest ≡ false
  apart q x y s es l n e f live other dest = by (is_same i y.dest) refl
    where
      by : (b : Bool) → is_same i y.dest ≡ b → b ≡ false
      by false g = refl
      by true g =
          let one = holds_one x live (subst (λ (j : StreamId). is_same i j ≡ true) (sym dest) (is_same-refl i)) in
          let two = holds_one y other g in
          let both = pipes-two Writing i p.0 q.0 s.pipes x y (unequal_numbers p.0 q.0 n) e f in
          let few = (l.each Writing i).few in
          absurd (grind arith)

  -- what another pipe causes closes another stream

  other_dest : (operation : PipeOperation) (phase : Phase) (a : Option Action) (e : Option Plain) (x : pipe.Slots) → (shut_in operation phase a e x).dest ≡ x.dest
  other_dest operation phase a e x = grind arith

  acted-close : (q : PipeId) (ends : Ends) (y : pipe.Slots) (t : Table) (action : Action) → is_same i y.dest ≡ false → Each (NoClose i) (acted q ends y t action).out.effects
  acted-close q ends y t (AbortDest r) n = by ends.dest_abort
    where
      by : (d : Option PromiseId) → Each (NoClose i) (dest_aborted q r y t d).out.effects
      by (Some d) = (tt, tt)
      by None = (tt, (tt, tt))
  acted-close q ends y t (CancelSource r) n = (tt, (tt, tt))
  acted-close q ends y t CloseDest n = (n, (tt, tt))
  acted-close q ends y t (BySignal r) n = by y.prevent.abort y.prevent.cancel
    where
      by : (a c : Bool) → Each (NoClose i) (signalled q r y t a c).out.effects
      by false false = (tt, (tt, (tt, (tt, (tt, tt)))))
      by false true = (tt, (tt, (tt, tt)))
      by true false = (tt, (tt, (tt, tt)))
      by true true = (tt, (tt, tt))

  move-close : (q : PipeId) (ends : Ends) (operation : PipeOperation) (x : pipe.Slots) (t : Table) (b : pipe.Acts) → (is_live x.phase ≡ true → is_same i x.dest ≡ false) → Move q ends operation x t b → Each (NoClose i) b.out.effects
  move-close q ends operation x t b n (MoveRests f a e idle) = are_idle-close i b.out.effects idle
  move-close q ends operation x t b n (MoveWaits f e m w o) = subst (λ (z : Out). Each (NoClose i) z.effects) (sym o) tt
  move-close q ends operation x t b n (MoveActs action y e m w o same) =
      subst (λ (z : pipe.Acts). Each (NoClose i) z.out.effects) (sym o)
      (acted-close q ends y t action (ap (is_same i) (ap (λ (z : pipe.Slots). z.dest) e ∙ other_dest operation Acting (Some action) y.error x) ∙ n m.live))
  move-close q ends operation x t b n (MoveEnds e m w o) = subst (λ (z : Out). Each (NoClose i) z.effects) (sym o) (end-effects-close i q x b.slots.error)
  move-close q ends operation x t b n (MoveFinishes r f e o) = subst (λ (z : Out). Each (NoClose i) z.effects) (sym o) (end-effects-close i q x (error_after x.error r))

  pipe-close : (q : PipeId) (operation : PipeOperation) (s : Slots) (o : Option pipe.Slots) → ((y : pipe.Slots) → o ≡ Some y → is_live y.phase ≡ true → is_same i y.dest ≡ false) → Each (NoClose i) (on_pipe_at (λ ends. pipe_operation q ends operation) q s o).caused
  pipe-close q operation s None n = tt
  pipe-close q operation s (Some y) n = move-close q (ends_at y s) operation y s.promises _ (n y refl) (each_pipe_moves q (ends_at y s) operation y s.promises)

  pub other-close : (x : pipe.Slots) (s : Slots) (e : Effect) (es : List Effect) → NotOf p e → Locked s (e ∷ es) → slice_get s.pipes p.0 ≡ Some x → is_live x.phase ≡ true → x.dest ≡ i → Each (NoClose i) (row e s).caused
  unfolding row
  other-close x s (Pipe q operation) es n l e live dest = pipe-close q operation s (slice_get s.pipes q.0) (λ y f other. apart q x y s (Pipe q operation ∷ es) l n e f live other dest)
  other-close x s e es n l f live dest = caused-close i e s tt

  -- effects that aren't operations of the pipe

  other_ends : (e : Effect) (s : Slots) → NotOf p e → effect_ends p e s ≡ []
  other_ends (Pipe q operation) s n = ap (λ (b : Bool). (if b then operation_course operation (pipe_at q s) (pipe_at q (row (Pipe q operation) s).slots) else no_course).ended) n
  other_ends _ s n = refl

  later_same : (x : pipe.Slots) → Later p i x x
  later_same x = by (is_live x.phase) refl
    where
      by : (b : Bool) → is_live x.phase ≡ b → Later p i x x
      by true e = inl e
      by false e = inr (e, refl)

  pub same_first : (e c : Effect) (es cs : List Effect) → e ∷ es ≡ c ∷ cs → (e ≡ c) × (es ≡ cs)
  same_first e c es cs f = (cc, cc)

  -- the promises, and the agenda
  abbrev Next : pipe.Slots → Slots → Slots → List Effect → Type 0
  Next x s z fs = SourcesOr p i x s z.promises × Shape p i x z fs

  asked-next : (x : pipe.Slots) (s : Slots) (es rest : List Effect) (d : PromiseId) → let e : Effect = Writable i (ClosePropagating d) in Straight s (e ∷ es) → Leaves p i s (row e s).slots ((row e s).caused ++ es)
      → es ≡ gives p i d ∷ rest → is_live x.phase ≡ false → (x.error ≡ None → Open (writable_at i s)) → Each (Fits p (Told p i x s)) rest → Sources p i x s s.promises → Next x s (row e s).slots ((row e s).caused ++ es)
  asked-next x s es rest d k l f late open_ fits g =
      let e : Effect = Writable i (ClosePropagating d) in
      let z : Slots = (row e s).slots in
      let V : Type 0 = Told p i x s in
      let weaker : V → Told p i x z = told-next p i s z ((row e s).caused ++ es) l x x (later_same x) in (
        row-or p i x s e tt g,
        Giving d (row e s).caused rest (ap (λ (ds : List Effect). (row e s).caused ++ ds) f) late (λ n. row-asked i d s (open_ n) l.straight.sound.holds.straight)
            (caused-fit p (Told p i x z) e s tt tt) (each-weaker p V (Told p i x z) weaker rest fits),
      )

  gave-next : (x : pipe.Slots) (s : Slots) (es : List Effect) (d : PromiseId) → Straight s (gives p i d ∷ es) → Leaves p i s (row (gives p i d) s).slots ((row (gives p i d) s).caused ++ es)
      → is_live x.phase ≡ false → (x.error ≡ None → FateOr i d s) → Each (Fits p (Told p i x s)) es → Sources p i x s s.promises → Next x s (row (gives p i d) s).slots ((row (gives p i d) s).caused ++ es)
  unfolding row
  gave-next x s es d k l late fate fits g =
      let z : Slots = (row (gives p i d) s).slots in
      let V : Type 0 = Told p i x s in
      let weaker : V → Told p i x z = told-next p i s z ((row (gives p i d) s).caused ++ es) l x x (later_same x) in
      (give-or p i x s d (gives p i d ∷ es) k late fate g, Calm (each-weaker p V (Told p i x z) weaker es fits))

  other-next : (x : pipe.Slots) (s : Slots) (e : Effect) (es : List Effect) → NotOf p e → Straight s (e ∷ es) → Leaves p i s (row e s).slots ((row e s).caused ++ es) → Sources p i x s s.promises → Shape p i x s (e ∷ es)
      → Next x s (row e s).slots ((row e s).caused ++ es)
  other-next x s e es n k l g (Calm f) =
      let z : Slots = (row e s).slots in
      let V : Type 0 = Told p i x s in
      let U : Type 0 = Told p i x z in
      let weaker : V → U = told-next p i s z ((row e s).caused ++ es) l x x (later_same x) in
      (row-or p i x s e f.0 g, Calm (each-append (Fits p U) (row e s).caused es (caused-fit p U e s n (fits-weaker p V U weaker e f.0)) (each-weaker p V U weaker es f.1)))
  other-next x s e es n k l g (Asking d rest f late open_ fits) =
      let same = same_first e (Writable i (ClosePropagating d)) es (gives p i d ∷ rest) f in
      subst (λ (c : Effect). Straight s (c ∷ es) → Leaves p i s (row c s).slots ((row c s).caused ++ es) → Next x s (row c s).slots ((row c s).caused ++ es)) (sym same.0)
      (λ k l. asked-next x s es rest d k l same.1 late open_ fits g) k l
  other-next x s e es n k l g (Giving d [] rest f late fate fc fr) =
      let same = same_first e (gives p i d) es rest f in
      subst (λ (c : Effect). Straight s (c ∷ es) → Leaves p i s (row c s).slots ((row c s).caused ++ es) → Next x s (row c s).slots ((row c s).caused ++ es)) (sym same.0)
      (λ k l. gave-next x s es d k l late fate (subst (Each (Fits p (Told p i x s))) (sym same.1) fr) g) k l
  other-next x s e es n k l g (Giving d (c ∷ cs) rest f late fate fc fr) =
      let same = same_first e c es (cs ++ gives p i d ∷ rest) f in
      let z : Slots = (row e s).slots in
      let fs : List Effect = (row e s).caused ++ es in
      let V : Type 0 = Told p i x s in
      let U : Type 0 = Told p i x z in
      let weaker : V → U = told-next p i s z fs l x x (later_same x) in
      let fit : Fits p V e = subst (Fits p V) (sym same.0) fc.0 in (
        row-or p i x s e fit g,
        Giving d ((row e s).caused ++ cs) rest (ap (λ (ds : List Effect). (row e s).caused ++ ds) same.1 ∙ sym (append_assoc (row e s).caused cs (gives p i d ∷ rest))) late (λ m. fate-next p i s z fs l d (fate m))
            (each-append (Fits p U) (row e s).caused cs (caused-fit p U e s n (fits-weaker p V U weaker e fit)) (each-weaker p V U weaker cs fc.1)) (each-weaker p V U weaker rest fr),
      )

  pub other-row : (h : List (Option Plain)) (s : Slots) (e : Effect) (es : List Effect) → NotOf p e → Piped h s (e ∷ es) → Piped (h ++ effect_ends p e s) (row e s).slots ((row e s).caused ++ es)
  other-row h s e es n k =
      let z : Slots = (row e s).slots in
      let fs : List Effect = (row e s).caused ++ es in
      let straight : Straight z fs = straight-stays.row s e es k.straight in
      let l : Leaves p i s z fs = row-leaves s e es k.straight straight k.started in
      let next = other-next k.x s e es n k.straight l k.table k.shape in
      record {
        x = k.x;
        there = other_there p e s n ∙ k.there;
        dest = k.dest;
        closes = k.closes;
        straight = straight;
        locked = locked-stays.row s e es k.locked;
        stands = row-there i s e k.stands;
        started = row-started i s e es k.straight k.started;
        live = λ f. let o = k.live f in (row-open i s e es k.straight o.1.0 o.0, each-append (NoClose i) (row e s).caused es (other-close k.x s e es n k.locked k.there f k.dest) o.1.1);
        plain = k.plain;
        table = sources-next p i s z fs l k.x k.x (later_same k.x) next.0;
        shape = next.1;
        ended = rw (other_ends e s n, append-nil h) (ends-weaker (closed_in i s ≡ true) (closed_in i z ≡ true) l.closed h k.ended);
      }
