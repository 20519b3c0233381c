-- What each operation of a pipe leaves of what lies on its link.
use Rattle.std.proofs.Common.{◌≡◌, ◌≢◌, ℕ, ◌-◌, ◌≤◌, Bool, true, false, not, ◌&&◌, ◌||◌, if◌then◌else◌, is_none, nat_eq, List, [], ◌∷◌, Option, Some, None, Result, Ok, Err, refl, sym, ◌∙◌, append_assoc, append-nil, arith}
use Rattle.ws_value.specs.declared.ids.PipeId.{PipeId}
use Rattle.ws_value.specs.declared.ids.PromiseId.{PromiseId}
use Rattle.ws_value.specs.declared.ids.StreamId.{StreamId}
use Rattle.ws_value.specs.declared.value.Plain.{Plain}
use Rattle.ws_value.specs.declared.value.Value.{Value}
use Rattle.ws_steps.specs.declared.effects.Effect.{Effect}
use Rattle.ws_steps.specs.declared.effects.Effect.TheVariants.{Readable as OnReadable, Pipe as OnPipe}
use Rattle.ws_steps.specs.declared.pipes.Action.{Action}
use Rattle.ws_steps.specs.declared.pipes.Action.TheVariants.{AbortDest, CancelSource, CloseDest, BySignal}
use Rattle.ws_steps.specs.declared.pipes.Ends.{Ends}
use Rattle.ws_steps.specs.declared.pipes.Phase.{Phase}
use Rattle.ws_steps.specs.declared.pipes.Phase.TheVariants.{Flowing, Waiting, Acting, Over}
use Rattle.ws_steps.specs.declared.pipes.PipeOperation.{PipeOperation}
use Rattle.ws_steps.specs.declared.pipes.PipeOperation.TheVariants.{Look, LookReady, KeepChunk, ReadEnded, WriteChunk, GoOn, WriteEnded, Abort as AbortPipe, ActionSettled, PartSettled, NoParts}
use Rattle.ws_steps.specs.declared.readable.ReadRequest.TheVariants.{Pipe as PipeRequest}
use Rattle.ws_steps.specs.declared.readable.ReadableOperation.TheVariants.{Read, Cancel, CancelIfReadable}
use Rattle.ws_steps.specs.declared.readable.ReadableState.{ReadableState}
use Rattle.ws_steps.specs.declared.readable.ReadableState.TheVariants.{Readable, Closed, Errored}
use Rattle.ws_steps.specs.declared.writable.WritableState.{WritableState}
use Rattle.ws_steps.specs.declared.writable.WritableState.TheVariants.{Writable, Erroring, Errored as WritableErrored, Closed as WritableClosed}
use Rattle.ws_steps.specs.Effects.{type_error}
use Rattle.ws_steps.specs.Operations.{pipe_operation}
use Rattle.ws_steps.specs.Pipes.{Slots, Acts, causing, finalize, act_by_signal, act, proceed, is_flowing, shut_down, shutdown, unless, wait_for_ready, read_or_wait, look_by, look, look_ready, go_on_in, go_on, keep_chunk, read_ended, write_chunk, write_ended, action_settled, part_settled, no_parts, abort}
use Rattle.ws_steps.specs.Promises.{Table}
use Rattle.ws_steps.specs.Writable.{is_writable, is_closed}
use Rattle.ws_flow.specs.Told.{Open, Closed as Ended, Lost, Told, told, then_told, IsShortOf}
use Rattle.ws_flow.proofs.Told.{short_refl, short_left}
use Rattle.ws_laws.proofs.Lists.{Each, each-append}
use Rattle.ws_laws.proofs.PipeDoes.{is_looking}
use Rattle.ws_laws.proofs.Tables.{either, is_same-refl}
use Rattle.ws_laws.proofs.Truth.{and_left}
use Rattle.ws_pipe_laws.specs.pipes.PipeMoves.{starting}
use Rattle.ws_link_laws.specs.Link.{silence, held_items, in_pipe}
use Rattle.ws_link_laws.specs.Sound.{Closes}
use Rattle.ws_link_laws.proofs.Telling.{tells, tells-append, lost_short, writes}

-- how far a pipe is
abbrev pub rank : Phase → ℕ
rank Flowing = 0
rank Waiting = 1
rank Acting = 2
rank Over = 3

-- the chunk that an operation brings
abbrev pub chunk_in : PipeOperation → Told Value
chunk_in (KeepChunk v) = told (v ∷ []) Open
chunk_in _ = silence

-- a source is cancelled only once its pipe acts
abbrev pub IsCalm : ℕ → Effect → Type 0
IsCalm n (OnReadable k (Cancel r q)) = 2 ≤ n
IsCalm n (OnReadable k (CancelIfReadable r q)) = 2 ≤ n
IsCalm n _ = Unit {0}

-- no operation of a pipe, as none but a write causes one
abbrev pub IsNoGo : Effect → Type 0
IsNoGo (OnPipe q operation) = ⊥
IsNoGo _ = Unit {0}

abbrev pub is_writing : PipeOperation → Bool
is_writing WriteChunk = true
is_writing _ = false

calm_one : (n : ℕ) (e : Effect) → 2 ≤ n → IsCalm n e
calm_one n e l = grind (arith, l)

calm_late : (n : ℕ) (es : List Effect) → 2 ≤ n → Each (IsCalm n) es
calm_late n [] l = tt
calm_late n (e ∷ es) l = (calm_one n e l, calm_late n es l)

-- what a pipe finds: K lies in its destination, Q in its source
pub record Finds (ends : Ends) (K Q : Told Value) : Type 0 where
  pub closed : ends.source_state ≡ Closed → Q ≡ told [] Ended
  pub shut : is_writable ends.dest_state && not ends.dest_closing ≡ false → K.mark ≢ Open

-- a chunk comes only where none is held
abbrev pub HasRoom : PipeOperation → Slots → Type 0
HasRoom (KeepChunk v) x = x.held ≡ None
HasRoom _ x = Unit {0}

pub record PipeKept (j : StreamId) (op : PipeOperation) (ends : Ends) (K Q C : Told Value) (x : Slots) (o : Acts) : Type 0 where
  pub short : IsShortOf (then_told K (then_told (tells (writes j) o.out.effects) (in_pipe o.slots (then_told C Q))))
      (then_told K (in_pipe x (then_told (then_told (chunk_in op) C) Q)))
  pub closes : Closes o.slots.phase o.slots.action (ends.source_state ≡ Closed)
  pub later : rank x.phase ≤ rank o.slots.phase
  pub calm : Each (IsCalm (rank o.slots.phase)) o.out.effects
  pub none : is_writing op ≡ false → Each IsNoGo o.out.effects

abbrev pub PipeKeeps : PipeId → StreamId → PipeOperation → Ends → Told Value → Told Value → Told Value → Slots → Table → Type 0
PipeKeeps p j op ends K Q C x t =
    Finds ends K Q → x.dest ≡ j → Closes x.phase x.action (ends.source_state ≡ Closed) → (is_looking op ≡ true → C ≡ silence) → HasRoom op x
    → PipeKept j op ends K Q C x (pipe_operation p ends op (starting x t))

-- its action

act_lost : (p : PipeId) (ends : Ends) (a : Acts) (R : Told Value) → in_pipe (act p ends a).slots R ≡ told [] Lost
unfolding act finalize act_by_signal
act_lost p ends a R = grind arith

act_late : (p : PipeId) (ends : Ends) (a : Acts) → 2 ≤ rank (act p ends a).slots.phase
unfolding act finalize act_by_signal
act_late p ends a = grind arith

act_writes : (p : PipeId) (j : StreamId) (ends : Ends) (x : Slots) (t : Table) → x.dest ≡ j → x.action ≢ Some CloseDest → tells (writes j) (act p ends (starting x t)).out.effects ≡ silence
unfolding act finalize act_by_signal
act_writes p j ends x t d n = grind (arith, tells-append)

act_closes : (p : PipeId) (j : StreamId) (ends : Ends) (x : Slots) (t : Table) → x.dest ≡ j → x.action ≡ Some CloseDest → tells (writes j) (act p ends (starting x t)).out.effects ≡ told [] Ended
unfolding act
act_closes p j ends x t d n = let s = is_same-refl j in rw (n, d, s) refl

act_none : (p : PipeId) (ends : Ends) (x : Slots) (t : Table) → Each IsNoGo (act p ends (starting x t)).out.effects
unfolding act finalize act_by_signal
act_none p ends x t = grind (arith, each-append)

abbrev is_close : Option Action → Bool
is_close (Some CloseDest) = true
is_close _ = false

is_close_true : (a : Option Action) → is_close a ≡ true → a ≡ Some CloseDest
is_close_true a e = grind arith

is_close_false : (a : Option Action) → is_close a ≡ false → a ≢ Some CloseDest
is_close_false a e = grind arith

late_closes : (w : Phase) (a : Option Action) (P : Type 0) → 2 ≤ rank w → Closes w a P
late_closes Flowing a P e = tt
late_closes Waiting a P e = absurd (omega (arith, e))
late_closes Acting a P e = tt
late_closes Over a P e = tt

module _ (p : PipeId) (j : StreamId) (op : PipeOperation) (ends : Ends) (K Q C : Told Value) (x : Slots) where
  -- what an operation leaves so keeps the link
  abbrev Keeps : Acts → Type 0
  Keeps o = PipeKept j op ends K Q C x o

  abbrev before : Told Value
  before = then_told K (in_pipe x (then_told (then_told (chunk_in op) C) Q))

  -- once it acts
  acted : (y : Slots) (t : Table) → y.dest ≡ j → rank x.phase ≤ 1 → (y.action ≡ Some CloseDest → IsShortOf (then_told K (told [] Ended)) before) → Keeps (act p ends (starting y t))
  acted y t d k a =
      let o : Acts = act p ends (starting y t) in
      let l = act_late p ends (starting y t) in
      record {
        short = short_by (is_close y.action) refl;
        closes = late_closes o.slots.phase o.slots.action (ends.source_state ≡ Closed) l;
        later = omega (arith, l, k);
        calm = calm_late (rank o.slots.phase) o.out.effects l;
        none = λ w. act_none p ends y t;
      }
    where
      short_by : (b : Bool) → b ≡ is_close y.action → IsShortOf (then_told K (then_told (tells (writes j) (act p ends (starting y t)).out.effects) (in_pipe (act p ends (starting y t)).slots (then_told C Q)))) before
      short_by true b = rw (act_closes p j ends y t d (is_close_true y.action (sym b))) (a (is_close_true y.action (sym b)))
      short_by false b =
          rw (act_writes p j ends y t d (is_close_false y.action (sym b)), act_lost p ends (starting y t) (then_told C Q))
          (short_left K (told [] Lost) (in_pipe x (then_told (then_told (chunk_in op) C) Q)) (lost_short (told [] Lost) (in_pipe x (then_told (then_told (chunk_in op) C) Q)) refl refl))

-- the same pipe, but for what it waits for and its phase, which isn't acting
record AsBefore (x y : Slots) : Type 0 where
  dest : y.dest ≡ x.dest
  held : y.held ≡ x.held
  early : rank x.phase ≤ 1
  now : rank y.phase ≤ 1
  later : rank x.phase ≤ rank y.phase

early_pipe : (x : Slots) (R : Told Value) → rank x.phase ≤ 1 → in_pipe x R ≡ then_told (told (held_items x.held) Open) R
early_pipe x R e = grind arith

absorbs : (K A B : Told Value) → K.mark ≢ Open → IsShortOf (then_told K A) (then_told K B)
absorbs K A B n = grind (arith, short_refl)

none_is : (h : Option Value) → is_none h ≡ true → h ≡ None
none_is h e = grind arith

pub closes_map : (w : Phase) (a : Option Action) {P Q : Type 0} → (P → Q) → Closes w a P → Closes w a Q
closes_map Waiting (Some CloseDest) f c = f c
closes_map Waiting (Some (AbortDest r)) f c = tt
closes_map Waiting (Some (CancelSource r)) f c = tt
closes_map Waiting (Some (BySignal r)) f c = tt
closes_map Waiting None f c = tt
closes_map Flowing a f c = tt
closes_map Acting a f c = tt
closes_map Over a f c = tt

-- what it acts for, once nothing is under way
closes_well : (K Q C : Told Value) (x : Slots) → rank x.phase ≤ 1 → is_none x.held ≡ true → Q ≡ told [] Ended → C ≡ silence → IsShortOf (then_told K (told [] Ended)) (then_told K (in_pipe x (then_told (then_told silence C) Q)))
closes_well K Q C x e h q c = rw (early_pipe x (then_told (then_told silence C) Q) e, q, c, none_is x.held h) (short_refl (then_told K (told [] Ended)))

flowing_is : (w : Phase) → is_flowing w ≡ true → w ≡ Flowing
flowing_is w e = grind arith

flowing_early : (w : Phase) → is_flowing w ≡ true → rank w ≤ 1
flowing_early w e = grind arith

closes_if : (act : Option Action) (P : Type 0) → (act ≡ Some CloseDest → P) → Closes Waiting act P
closes_if act P h = grind (arith, h)

closes_of : (w : Phase) (a : Option Action) (P : Type 0) → w ≡ Waiting → a ≡ Some CloseDest → Closes w a P → P
closes_of w a P e f c = rw (e, f) at c

no_close : (b : Bool) (a : Action) (P : Type 0) → is_close (Some a) ≡ false → unless b a ≡ Some CloseDest → P
no_close true a P n e = absurd (cc)
no_close false a P n e = absurd (is_close_false (Some a) n e)

module _ (p : PipeId) (j : StreamId) (op : PipeOperation) (ends : Ends) (K Q C : Told Value) (x : Slots) (f : Finds ends K Q) (d : x.dest ≡ j) (k : chunk_in op ≡ silence) where
  abbrev Kept : Acts → Type 0
  Kept o = PipeKept j op ends K Q C x o

  abbrev P : Type 0
  P = ends.source_state ≡ Closed

  rested : (y : Slots) (t : Table) → AsBefore x y → Closes y.phase y.action P → Kept (starting y t)
  rested y t b c = record {
    short = rw (k, early_pipe y (then_told C Q) b.now, early_pipe x (then_told (then_told silence C) Q) b.early, b.held) (short_refl (then_told K (then_told (told (held_items x.held) Open) (then_told C Q))));
    closes = c;
    later = b.later;
    calm = tt;
    none = λ w. tt;
  }

  -- nothing changes but what it waits for
  still : (y : Slots) (t : Table) → y.held ≡ x.held → y.phase ≡ x.phase → Closes y.phase y.action P → Kept (starting y t)
  still y t h w c = record {
    short = rw (k, w, h) (short_refl (then_told K (in_pipe x (then_told C Q))));
    closes = c;
    later = rw w (omega arith);
    calm = tt;
    none = λ w. tt;
  }

  well : (y : Slots) → AsBefore x y → is_none y.held ≡ true → P → C ≡ silence → IsShortOf (then_told K (told [] Ended)) (then_told K (in_pipe x (then_told (then_told (chunk_in op) C) Q)))
  well y b h q c = rw k (closes_well K Q C x b.early (rw b.held at h) (f.closed q) c)

  -- it proceeds
  proceeds : (y : Slots) (t : Table) → AsBefore x y → Closes y.phase y.action P → (y.action ≡ Some CloseDest → P × (C ≡ silence)) → Kept (proceed p ends (starting y t))
  unfolding proceed
  proceeds y t b c g =
      either Kept (is_none y.held && nat_eq y.unsettled 0) (act p ends (starting y t)) (starting y t)
      (λ e. acted p j op ends K Q C x y t (b.dest ∙ d) b.early (λ a. well y b (and_left (is_none y.held) (nat_eq y.unsettled 0) e) (g a).0 (g a).1))
      (λ e. rested y t b c)

  -- it shuts down
  shuts : (y : Slots) (act_ : Option Action) (e : Option Plain) (t : Table) → AsBefore x y → x.phase ≡ Flowing → (act_ ≡ Some CloseDest → P × (C ≡ silence)) → Kept (shut_down p ends (starting (record y { action = act_; error = e }) t))
  shuts y act_ e t b v g =
      let u : Slots = record y { action = act_; error = e } in
      let u2 : Slots = record u { phase = Waiting } in
      let early = b.early in
      let bw : AsBefore x u2 = record { dest = b.dest; held = b.held; early = b.early; now = omega arith; later = b.early } in
      either Kept (is_writable ends.dest_state && not ends.dest_closing) (proceed p ends (starting u2 t)) (act p ends (starting u t))
      (λ r. proceeds u2 t bw (closes_if act_ P (λ a. (g a).0)) g)
      (λ r. acted p j op ends K Q C x u t (b.dest ∙ d) b.early (λ a. absorbs K (told [] Ended) (in_pipe x (then_told (then_told (chunk_in op) C) Q)) (f.shut r)))

  shuts_if : (y : Slots) (act_ : Option Action) (e : Option Plain) (t : Table) → AsBefore x y → y.phase ≡ x.phase → Closes y.phase y.action P → (act_ ≡ Some CloseDest → P × (C ≡ silence)) → Kept (shutdown p ends act_ e (starting y t))
  unfolding shutdown
  shuts_if y act_ e t b w c g =
      either Kept (is_flowing y.phase) (shut_down p ends (starting (record y { action = act_; error = e }) t)) (starting y t)
      (λ r. shuts y act_ e t b (sym w ∙ flowing_is y.phase r) g)
      (λ r. rested y t b c)

  -- it reads, or waits

  reading_kept : (y : Slots) (t : Table) → AsBefore x y → Closes y.phase y.action P → Kept (causing (OnReadable y.source (Read (PipeRequest p)) ∷ []) (starting (record y { reading = true }) t))
  reading_kept y t b c = let r = rested (record y { reading = true }) t (record { dest = b.dest; held = b.held; early = b.early; now = b.now; later = b.later }) c in record { short = r.short; closes = r.closes; later = r.later; calm = (tt, tt); none = λ w. (tt, tt) }

  waits_kept : (y : Slots) (t : Table) (q : Option PromiseId) → AsBefore x y → Closes y.phase y.action P → Kept (wait_for_ready p (starting y t) q)
  waits_kept y t None b c = rested y t b c
  waits_kept y t (Some q) b c = let r = rested (record y { waits = true }) t (record { dest = b.dest; held = b.held; early = b.early; now = b.now; later = b.later }) c in record { short = r.short; closes = r.closes; later = r.later; calm = (tt, tt); none = λ w. (tt, tt) }

  reads_on : (y : Slots) (t : Table) → AsBefore x y → Closes y.phase y.action P → Kept (read_or_wait p ends (starting y t))
  reads_on y t b c =
      either Kept ends.dest_wants (causing (OnReadable y.source (Read (PipeRequest p)) ∷ []) (starting (record y { reading = true }) t)) (if not y.waits && is_writable ends.dest_state then wait_for_ready p (starting y t) ends.dest_ready else starting y t)
      (λ e. reading_kept y t b c)
      (λ e. either Kept (not y.waits && is_writable ends.dest_state) (wait_for_ready p (starting y t) ends.dest_ready) (starting y t) (λ w. waits_kept y t ends.dest_ready b c) (λ w. rested y t b c))

  -- it looks

  module _ (y : Slots) (t : Table) (b : AsBefore x y) (w : y.phase ≡ x.phase) (c : Closes y.phase y.action P) (l : C ≡ silence) where
    fails : (act_ : Action) (e : Plain) (q : Bool) → is_close (Some act_) ≡ false → Kept (shutdown p ends (unless q act_) (Some e) (starting y t))
    fails act_ e q n = shuts_if y (unless q act_) (Some e) t b w c (λ a. no_close q act_ (P × (C ≡ silence)) n a)

    closed : ends.source_state ≡ Closed → Kept (shutdown p ends (unless y.prevent.close CloseDest) None (starting y t))
    closed e = shuts_if y (unless y.prevent.close CloseDest) None t b w c (λ a. (e, l))

    open_by : (q : WritableState)
        → Kept (if ends.dest_closing || is_closed q then shutdown p ends (unless y.prevent.cancel (CancelSource type_error)) (Some type_error) (starting y t) else if y.reading then starting y t else read_or_wait p ends (starting y t))
    open_by q =
        either Kept (ends.dest_closing || is_closed q) (shutdown p ends (unless y.prevent.cancel (CancelSource type_error)) (Some type_error) (starting y t)) (if y.reading then starting y t else read_or_wait p ends (starting y t))
        (λ e. fails (CancelSource type_error) type_error y.prevent.cancel refl)
        (λ e. either Kept y.reading (starting y t) (read_or_wait p ends (starting y t)) (λ r. rested y t b c) (λ r. reads_on y t b c))

    looked_by : (s : ReadableState) (q : WritableState) → s ≡ ends.source_state → Kept (look_by p ends (starting y t) s q)
    looked_by Errored q e = fails (AbortDest ends.source_error) ends.source_error y.prevent.abort refl
    looked_by Readable WritableErrored e = fails (CancelSource ends.dest_error) ends.dest_error y.prevent.cancel refl
    looked_by Closed WritableErrored e = fails (CancelSource ends.dest_error) ends.dest_error y.prevent.cancel refl
    looked_by Closed Writable e = closed (sym e)
    looked_by Closed Erroring e = closed (sym e)
    looked_by Closed WritableClosed e = closed (sym e)
    looked_by Readable Writable e = open_by Writable
    looked_by Readable Erroring e = open_by Erroring
    looked_by Readable WritableClosed e = open_by WritableClosed

  as_it_is : (y : Slots) → rank x.phase ≤ 1 → y.dest ≡ x.dest → y.held ≡ x.held → y.phase ≡ x.phase → AsBefore x y
  as_it_is y n g h w = record { dest = g; held = h; early = n; now = rw w n; later = rw w (omega arith) }

  looks_then : (y : Slots) (t : Table) → y.dest ≡ x.dest → y.held ≡ x.held → y.phase ≡ x.phase → Closes y.phase y.action P → C ≡ silence → Kept (look p ends (starting y t))
  unfolding look
  looks_then y t g h w c l =
      either Kept (is_flowing y.phase) (look_by p ends (starting y t) ends.source_state ends.dest_state) (starting y t)
      (λ q. looked_by y t (as_it_is y (rw w at (flowing_early y.phase q)) g h w) w c l ends.source_state ends.dest_state refl)
      (λ q. still y t h w c)

  goes_on_by : (y : Slots) (t : Table) → y.dest ≡ x.dest → y.held ≡ x.held → y.phase ≡ x.phase → Closes y.phase y.action P → C ≡ silence → (v : Phase) → v ≡ y.phase → Kept (go_on_in p ends (starting y t) v)
  goes_on_by y t g h w c l Flowing v = looks_then y t g h w c l
  goes_on_by y t g h w c l Waiting v =
      proceeds y t (as_it_is y (let u : x.phase ≡ Waiting = sym (v ∙ w) in rw u (omega arith)) g h w) c (λ a. (closes_of y.phase y.action P (sym v) a c, l))
  goes_on_by y t g h w c l Acting v = still y t h w c
  goes_on_by y t g h w c l Over v = still y t h w c

  goes_on : (y : Slots) (t : Table) → y.dest ≡ x.dest → y.held ≡ x.held → y.phase ≡ x.phase → Closes y.phase y.action P → C ≡ silence → Kept (go_on p ends (starting y t))
  unfolding go_on
  goes_on y t g h w c l = goes_on_by y t g h w c l y.phase refl

  aborts : (r : Plain) (t : Table) → Closes x.phase x.action P → Kept (abort p ends r (starting x t))
  unfolding abort shutdown
  aborts r t c =
      either Kept (is_flowing x.phase) (shut_down p ends (starting (record x { action = Some (BySignal r); error = Some r }) t)) (starting x t)
      (λ q. shuts x (Some (BySignal r)) (Some r) t (as_it_is x (flowing_early x.phase q) refl refl refl) (flowing_is x.phase q) (λ a. absurd (cc)))
      (λ q. still x t refl refl c)

-- other operations

ends_well : (p : PipeId) (j : StreamId) (op : PipeOperation) (error : Option Plain) (ends : Ends) (K Q C : Told Value) (x : Slots) (t : Table) → x.dest ≡ j → PipeKept j op ends K Q C x (finalize p error (starting x t))
unfolding finalize
ends_well p j op error ends K Q C x t d =
    record {
      short = rw silent (short_left K (told [] Lost) (in_pipe x (then_told (then_told (chunk_in op) C) Q)) (lost_short (told [] Lost) (in_pipe x (then_told (then_told (chunk_in op) C) Q)) refl refl));
      closes = tt;
      later = by x.phase;
      calm = calm_late 3 (finalize p error (starting x t)).out.effects (omega arith);
      none = λ w. grind (arith, each-append);
    }
  where
    by : (w : Phase) → rank w ≤ 3
    by w = grind arith

    silent : tells (writes j) (finalize p error (starting x t)).out.effects ≡ silence
    silent = grind (arith, tells-append)

keep_keeps : (p : PipeId) (j : StreamId) (v : Value) (ends : Ends) (K Q C : Told Value) (x : Slots) (t : Table) → PipeKeeps p j (KeepChunk v) ends K Q C x t
unfolding keep_chunk
keep_keeps p j v ends K Q C x t f d c l n = grind (arith, append-nil, append_assoc, short_refl)

write_keeps : (p : PipeId) (j : StreamId) (ends : Ends) (K Q C : Told Value) (x : Slots) (t : Table) → PipeKeeps p j WriteChunk ends K Q C x t
unfolding write_chunk
write_keeps p j ends K Q C x t f d c l n = let s = is_same-refl j in grind (arith, append-nil, append_assoc, short_refl, s)

ended_keeps : (p : PipeId) (j : StreamId) (ends : Ends) (K Q C : Told Value) (x : Slots) (t : Table) → PipeKeeps p j ReadEnded ends K Q C x t
unfolding read_ended
ended_keeps p j ends K Q C x t f d c l n =
    let r = still p j ReadEnded ends K Q C x f d refl (record x { reading = false }) t refl refl c in
    record { short = r.short; closes = r.closes; later = r.later; calm = tt; none = λ w. tt }

part_keeps : (p : PipeId) (j : StreamId) (o : Result Plain Plain) (ends : Ends) (K Q C : Told Value) (x : Slots) (t : Table) → PipeKeeps p j (PartSettled o) ends K Q C x t
unfolding part_settled
part_keeps p j o ends K Q C x t f d c l n = grind (arith, append-nil, append_assoc, short_refl)

none_keeps : (p : PipeId) (j : StreamId) (ends : Ends) (K Q C : Told Value) (x : Slots) (t : Table) → PipeKeeps p j NoParts ends K Q C x t
unfolding no_parts
none_keeps p j ends K Q C x t f d c l n = grind (arith, append-nil, append_assoc, short_refl)

-- each operation of a pipe
pub pipe_keeps : (p : PipeId) (j : StreamId) (op : PipeOperation) (ends : Ends) (K Q C : Told Value) (x : Slots) (t : Table) → PipeKeeps p j op ends K Q C x t
unfolding look_ready write_ended action_settled
pipe_keeps p j Look ends K Q C x t f d c l n = looks_then p j Look ends K Q C x f d refl x t refl refl refl c (l refl)
pipe_keeps p j LookReady ends K Q C x t f d c l n = looks_then p j LookReady ends K Q C x f d refl (record x { waits = false }) t refl refl refl c (l refl)
pipe_keeps p j (KeepChunk v) ends K Q C x t f d c l n = keep_keeps p j v ends K Q C x t f d c l n
pipe_keeps p j ReadEnded ends K Q C x t f d c l n = ended_keeps p j ends K Q C x t f d c l n
pipe_keeps p j WriteChunk ends K Q C x t f d c l n = write_keeps p j ends K Q C x t f d c l n
pipe_keeps p j GoOn ends K Q C x t f d c l n = goes_on p j GoOn ends K Q C x f d refl x t refl refl refl c (l refl)
pipe_keeps p j WriteEnded ends K Q C x t f d c l n = goes_on p j WriteEnded ends K Q C x f d refl (record x { unsettled = x.unsettled - 1 }) t refl refl refl c (l refl)
pipe_keeps p j (AbortPipe r) ends K Q C x t f d c l n = aborts p j (AbortPipe r) ends K Q C x f d refl r t c
pipe_keeps p j (ActionSettled (Ok v)) ends K Q C x t f d c l n = ends_well p j (ActionSettled (Ok v)) x.error ends K Q C x t d
pipe_keeps p j (ActionSettled (Err e)) ends K Q C x t f d c l n = ends_well p j (ActionSettled (Err e)) (Some e) ends K Q C x t d
pipe_keeps p j (PartSettled o) ends K Q C x t f d c l n = part_keeps p j o ends K Q C x t f d c l n
pipe_keeps p j NoParts ends K Q C x t f d c l n = none_keeps p j ends K Q C x t f d c l n

-- what isn't performed last writes nothing
pub late_writes : (p : PipeId) (j : StreamId) (op : PipeOperation) (ends : Ends) (x : Slots) (t : Table) → x.dest ≡ j → is_looking op ≡ false → tells (writes j) (pipe_operation p ends op (starting x t)).out.effects ≡ silence
unfolding keep_chunk read_ended part_settled no_parts action_settled abort shutdown proceed finalize
late_writes p j Look ends x t d l = absurd (cc)
late_writes p j LookReady ends x t d l = absurd (cc)
late_writes p j WriteChunk ends x t d l = absurd (cc)
late_writes p j GoOn ends x t d l = absurd (cc)
late_writes p j WriteEnded ends x t d l = absurd (cc)
late_writes p j (KeepChunk v) ends x t d l = refl
late_writes p j ReadEnded ends x t d l = refl
late_writes p j (AbortPipe r) ends x t d l = grind (arith, act_writes)
late_writes p j (ActionSettled o) ends x t d l = grind (arith, tells-append)
late_writes p j (PartSettled o) ends x t d l = grind arith
late_writes p j NoParts ends x t d l = grind arith
