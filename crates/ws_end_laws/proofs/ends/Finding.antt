-- How a pipe finds its destination as it begins its action: it never read, or it writes first what it read, or its destination fails, and then it
-- doesn't close any more.
use Rattle.std.proofs.Common.{◌≡◌, ◌⊎◌, inl, inr, ⊎_elim, Bool, true, false, ◌||◌, is_some, List, [], ◌∷◌, ◌++◌, None, refl, sym, ap, subst, ◌∙◌, arith}
use Rattle.ws_value.specs.declared.{ids.PipeId.{PipeId}, ids.StreamId.{StreamId}, value.Value.{Value}}
use Rattle.ws_steps.specs.declared.effects.{Effect.{Effect}, Effect.TheVariants.{Pipe as OnPipe}}
use Rattle.ws_steps.specs.declared.pipes.{Ends.{Ends}, Phase.TheVariants.{Waiting}, PipeOperation.{PipeOperation}, PipeOperation.TheVariants.{KeepChunk}}
use Rattle.ws_steps.specs.declared.readable.{ReadableState.{ReadableState}}
use Rattle.ws_steps.specs.declared.writable.{WritableState.{WritableState}, WritableState.TheVariants.{Writable, Erroring, Errored as WritableErrored, Closed as WritableClosed}}
use Rattle.ws_steps.specs.Operations.{pipe_operation}
use Rattle.ws_steps.specs.Pipes as pipe
use Rattle.ws_steps.specs.Promises.{Table}
use Rattle.ws_steps.specs.Slots.{Slots, ends_at, pipe_at, writable_at, ends_of, source_at}
use Rattle.ws_steps.specs.Turns.{Moment}
use Rattle.ws_steps.specs.Writable as writable
use Rattle.ws_laws.proofs.PipeDoes.{pipe-causes}
use Rattle.ws_laws.proofs.Lists.{Each, each-append}
use Rattle.ws_laws.proofs.Truth.{false_true, nor_left, nor_right}
use Rattle.ws_pipe_laws.specs.pipes.PipeHistory.{first_condition, is_live, operation_through}
use Rattle.ws_pipe_laws.specs.pipes.PipeMoves.{starting, writes_first, Move, MoveRests, MoveWaits, MoveActs, MoveEnds, MoveFinishes}
use Rattle.ws_pipe_laws.specs.pipes.PipeWrites.{AllMoments, leaves}
use Rattle.ws_pipe_laws.proofs.pipes.Moves.{each_pipe_moves}
use Rattle.ws_end_laws.specs.ends.PassedAll.{is_failing}
use Rattle.ws_end_laws.proofs.ends.Closers.{NoClose, live-quiet}
use Rattle.ws_end_laws.proofs.ends.Failing.{Unclosed, Failing}
use Rattle.ws_end_laws.proofs.ends.Starting.{MayRead, operation-reads}

-- the pipe leaves flowing and waiting at this moment
pub record ActsAt (p : PipeId) (m : Moment) : Type 0 where
  pub live : is_live (pipe_at p m.found).phase ≡ true
  pub acts : is_live (pipe_at p (leaves m)).phase ≡ false

-- it read nothing, and no read is under way
pub record Never (read : List Value) (x : pipe.Slots) : Type 0 where
  pub none : read ≡ []
  pub idle : x.reading ≡ false

-- it had waited, or its destination was writable and not closing
abbrev pub Writes : PipeId → Moment → Type 0
Writes p m = ((pipe_at p m.found).phase ≡ Waiting) ⊎ (writes_first (ends_at (pipe_at p m.found) m.found) ≡ true)

-- its destination was erroring or errored then, and fails now
pub record Fails (p : PipeId) (m : Moment) (w : writable.Slots) : Type 0 where
  pub then_ : is_failing (writable_at (pipe_at p m.found).dest m.found).state ≡ true
  pub unclosed : Unclosed (writable_at (pipe_at p m.found).dest m.found)
  pub now : Failing w

-- why the pipe acted at this moment, which has read so much and is x, and whose destination is w
abbrev pub Why : PipeId → Moment → List Value → pipe.Slots → writable.Slots → Type 0
Why p m read x w = Never read x ⊎ (Writes p m ⊎ Fails p m w)

abbrev pub Idle : PipeId → Moment → Type 0
Idle p m = ActsAt p m → ⊥

abbrev pub Judged : PipeId → List Value → pipe.Slots → writable.Slots → Moment → Type 0
Judged p read x w m = ActsAt p m → Why p m read x w

-- while it flows or waits, nothing closes its destination, and it never read, or no close was asked of that and it isn't closed
pub record Live (p : PipeId) (h : List Moment) (read : List Value) (x : pipe.Slots) (w : writable.Slots) (es : List Effect) : Type 0 where
  pub live : is_live x.phase ≡ true
  pub idle : AllMoments (Idle p) h
  pub quiet : Each (NoClose x.dest) es
  pub alike : Never read x ⊎ Unclosed w

-- and once it doesn't, it acted for one of those reasons
pub record Shut (p : PipeId) (h : List Moment) (read : List Value) (x : pipe.Slots) (w : writable.Slots) : Type 0 where
  pub shut : is_live x.phase ≡ false
  pub why : AllMoments (Judged p read x w) h

abbrev pub State : PipeId → List Moment → List Value → pipe.Slots → writable.Slots → List Effect → Type 0
State p h read x w es = Live p h read x w es ⊎ Shut p h read x w

pub all_map : (P Q : Moment → Type 0) → ((m : Moment) → P m → Q m) → (ms : List Moment) → AllMoments P ms → AllMoments Q ms
all_map P Q f [] a = tt
all_map P Q f (m ∷ ms) a = (f m a.0, all_map P Q f ms a.1)

pub all_append : (P : Moment → Type 0) (ms : List Moment) (m : Moment) → AllMoments P ms → P m → AllMoments P (ms ++ m ∷ [])
all_append P [] m a q = (q, tt)
all_append P (x ∷ ms) m a q = (a.0, all_append P ms m a.1 q)

-- a destination of which none of the four conditions holds

open-dest : (r : ReadableState) (d : WritableState) (closing : Bool) (prevent : _) (ends : Ends) → r ≡ ends.source_state → d ≡ ends.dest_state → closing ≡ ends.dest_closing → first_condition prevent ends ≡ None → (closing ≡ false) × (writable.is_closed d ≡ false)
open-dest r d closing prevent ends er ed ec n = grind (arith, er, ed, ec, n)

nor-some : (a b : Bool) → a || b ≡ false → (a ≡ false) × (b ≡ false)
nor-some a b e = (nor_left a b e, nor_right a b e)

may-unclosed : (x : pipe.Slots) (s : Slots) → first_condition x.prevent (ends_at x s) ≡ None → Unclosed (writable_at x.dest s)
may-unclosed x s n =
    let w : writable.Slots = writable_at x.dest s in
    let k = open-dest (source_at x.source s).state w.state (writable.is_closing w) x.prevent (ends_at x s) refl refl refl n in
    let c = nor-some (is_some w.close_request) (is_some w.close_in_flight) k.0 in
    record { request = c.0; flight = c.1; state = k.1 }

-- why a pipe acts whose destination isn't closing and isn't closed
unclosed-why : (p : PipeId) (m : Moment) (x : pipe.Slots) (w : writable.Slots) (d : WritableState) → pipe_at p m.found ≡ x → w ≡ writable_at x.dest m.found → w.state ≡ d → Unclosed w → Writes p m ⊎ Fails p m w
unclosed-why p m x w d is same e u = by d e
  where
    first : (writable.is_writable w.state ≡ true) → writes_first (ends_at x m.found) ≡ true
    first k = let f = u.request in let g = u.flight in let v : writes_first (ends_of (source_at x.source m.found) w) ≡ true = rw (k, f, g) refl in rw same at v

    fails : is_failing w.state ≡ true → Fails p m w
    fails k = record {
      then_ = subst (λ (y : pipe.Slots). is_failing (writable_at y.dest m.found).state ≡ true) (sym is) (subst (λ (v : writable.Slots). is_failing v.state ≡ true) same k);
      unclosed = subst (λ (y : pipe.Slots). Unclosed (writable_at y.dest m.found)) (sym is) (subst Unclosed same u);
      now = record { state = k; flight = u.flight };
    }

    by : (d : WritableState) → w.state ≡ d → Writes p m ⊎ Fails p m w
    by Writable e = inl (inr (subst (λ (y : pipe.Slots). writes_first (ends_at y m.found) ≡ true) (sym is) (first (ap writable.is_writable e))))
    by Erroring e = inr (fails (ap is_failing e))
    by WritableErrored e = inr (fails (ap is_failing e))
    by WritableClosed e = false_true (writable.is_closed w.state) (ap writable.is_closed e) u.state

-- an operation of the pipe

-- a pipe that isn't live stays so
shut-move : (p : PipeId) (ends : Ends) (operation : PipeOperation) (x : pipe.Slots) (t : Table) (b : pipe.Acts) → is_live x.phase ≡ false → Move p ends operation x t b → is_live b.slots.phase ≡ false
shut-move p ends operation x t b l (MoveRests q a e i) = ap is_live q ∙ l
shut-move p ends operation x t b l (MoveWaits f q named v e) = false_true (is_live x.phase) named.live l
shut-move p ends operation x t b l (MoveActs action y q named w is alike) = false_true (is_live x.phase) named.live l
shut-move p ends operation x t b l (MoveEnds q named w e) = false_true (is_live x.phase) named.live l
shut-move p ends operation x t b l (MoveFinishes r is q e) = ap (λ (z : pipe.Slots). is_live z.phase) q

-- what it reads by an operation that finds no read under way
none-read : (operation : PipeOperation) (x : pipe.Slots) → ((v : Value) → operation ≡ KeepChunk v → x.reading ≡ true) → x.reading ≡ false → (operation_through operation x).read ≡ []
none-read operation x k n = grind (arith, k, n)

module _ (p : PipeId) (operation : PipeOperation) (s : Slots) (x : pipe.Slots) (keeps : (v : Value) → operation ≡ KeepChunk v → x.reading ≡ true) where
  abbrev b : pipe.Acts
  b = pipe_operation p (ends_at x s) operation (starting x s.promises)

  abbrev w : writable.Slots
  w = writable_at x.dest s

  abbrev next : List Value → List Value
  next read = read ++ (operation_through operation x).read

  move : Move p (ends_at x s) operation x s.promises b
  move = each_pipe_moves p (ends_at x s) operation x s.promises

  pub same-dest : b.slots.dest ≡ x.dest
  same-dest = (pipe-causes p (ends_at x s) operation (starting x s.promises) tt).1.0

  -- it still never read, or its destination isn't closing
  never-next : (read : List Value) (now : Bool) → b.slots.reading ≡ now → Never read x → Never (next read) b.slots ⊎ Unclosed w
  never-next read false e n = inl (record { none = rw (n.none, none-read operation x keeps n.idle) refl; idle = e })
  never-next read true e n =
      ⊎_elim (λ (r : x.reading ≡ true). false_true x.reading r n.idle) (λ (m : MayRead (ends_at x s) x). inr (may-unclosed x s m.1)) (operation-reads p (ends_at x s) operation x s.promises e)

  -- and one that doesn't flow any more goes on never to read
  never-shut : (read : List Value) (now : Bool) → b.slots.reading ≡ now → is_live x.phase ≡ false → Never read x → Never (next read) b.slots
  never-shut read false e l n = record { none = rw (n.none, none-read operation x keeps n.idle) refl; idle = e }
  never-shut read true e l n =
      ⊎_elim (λ (r : x.reading ≡ true). false_true x.reading r n.idle) (λ (m : MayRead (ends_at x s) x). false_true (is_live x.phase) (ap is_live m.0) l) (operation-reads p (ends_at x s) operation x s.promises e)

  module _ (h : List Moment) (read : List Value) (es : List Effect) (m : Moment) (found : pipe_at p m.found ≡ x) (at : m.found ≡ s) (left : pipe_at p (leaves m) ≡ b.slots) where
    abbrev After : Type 0
    After = State p (h ++ m ∷ []) (next read) b.slots w (b.out.effects ++ es)

    alike-next : Never read x ⊎ Unclosed w → Never (next read) b.slots ⊎ Unclosed w
    alike-next (inl n) = never-next read b.slots.reading refl n
    alike-next (inr u) = inr u

    here : w ≡ writable_at x.dest m.found
    here = ap (λ (z : Slots). writable_at x.dest z) (sym at)

    why-now : Never (next read) b.slots ⊎ Unclosed w → Why p m (next read) b.slots w
    why-now (inl n) = inl n
    why-now (inr u) = inr (unclosed-why p m x w w.state found here refl u)

    live-on : is_live b.slots.phase ≡ true → Live p h read x w (OnPipe p operation ∷ es) → After
    live-on l k =
        inl (record {
          live = l;
          idle = all_append (Idle p) h m k.idle (λ a. false_true (is_live (pipe_at p (leaves m)).phase) (ap (λ (y : pipe.Slots). is_live y.phase) left ∙ l) a.acts);
          quiet = subst (λ (j : StreamId). Each (NoClose j) (b.out.effects ++ es)) (sym same-dest) (each-append (NoClose x.dest) b.out.effects es (live-quiet x.dest p (ends_at x s) operation x s.promises b l move) k.quiet.1);
          alike = alike-next k.alike;
        })

    live-shuts : is_live b.slots.phase ≡ false → Live p h read x w (OnPipe p operation ∷ es) → After
    live-shuts l k =
        inr (record {
          shut = l;
          why =
              all_append (Judged p (next read) b.slots w) h m (all_map (Idle p) (Judged p (next read) b.slots w) (λ n i a. absurd (i a)) h k.idle)
              (λ a. why-now (alike-next k.alike));
        })

    judged-on : is_live x.phase ≡ false → (n : Moment) → Judged p read x w n → Judged p (next read) b.slots w n
    judged-on l n j a = by (j a)
      where
        by : Why p n read x w → Why p n (next read) b.slots w
        by (inl k) = inl (never-shut read b.slots.reading refl l k)
        by (inr k) = inr k

    shut-on : Shut p h read x w → After
    shut-on k =
        inr (record {
          shut = shut-move p (ends_at x s) operation x s.promises b k.shut move;
          why =
              all_append (Judged p (next read) b.slots w) h m (all_map (Judged p read x w) (Judged p (next read) b.slots w) (judged-on k.shut) h k.why)
              (λ a. false_true (is_live (pipe_at p m.found).phase) a.live (ap (λ (y : pipe.Slots). is_live y.phase) found ∙ k.shut));
        })

    pub own-state : (now : Bool) → is_live b.slots.phase ≡ now → State p h read x w (OnPipe p operation ∷ es) → After
    own-state true l (inl k) = live-on l k
    own-state false l (inl k) = live-shuts l k
    own-state now l (inr k) = shut-on k
