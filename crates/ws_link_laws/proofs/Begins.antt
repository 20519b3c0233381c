-- How a pipe makes two free streams a link (`each_link_begins`).
use Rattle.std.proofs.Common.{◌≡◌, ◌≢◌, ℕ, zero, suc, Bool, true, false, not, ◌&&◌, is_some, nat_eq, List, [], ◌∷◌, ◌++◌, length, Option, Some, None, slice_get, refl, sym, ap, ◌∙◌, arith}
use Rattle.ws_value.specs.declared.ids.PipeId.{PipeId}
use Rattle.ws_value.specs.declared.ids.SignalId.{SignalId}
use Rattle.ws_value.specs.declared.ids.StreamId.{StreamId}
use Rattle.ws_value.specs.declared.value.Plain.{Plain}
use Rattle.ws_value.specs.declared.value.Value.{Value}
use Rattle.ws_steps.specs.declared.calls.Call.TheVariants.{Pipe}
use Rattle.ws_steps.specs.declared.locks.Lock.TheVariants.{Inner}
use Rattle.ws_steps.specs.declared.pipes.Prevent.{Prevent}
use Rattle.ws_steps.specs.declared.writable.WritableState.{WritableState}
use Rattle.ws_steps.specs.declared.writable.WritableState.TheVariants.{Writable, Erroring, Errored, Closed}
use Rattle.ws_steps.specs.PipeCalls as pipe_calls
use Rattle.ws_steps.specs.Begun.{Begun}
use Rattle.ws_steps.specs.Calls.{begin, named}
use Rattle.ws_steps.specs.Histories.{is_same}
use Rattle.ws_steps.specs.Pipes as pipe
use Rattle.ws_steps.specs.Promises.{Table, next_id, fresh}
use Rattle.ws_steps.specs.Readable as readable
use Rattle.ws_steps.specs.Run.{Called, after_call}
use Rattle.ws_steps.specs.Slots.{Slots, Done, writable_at, pipe_at, as_pipe}
use Rattle.ws_steps.specs.Turns.{performed}
use Rattle.ws_steps.specs.Writable as writable
use Rattle.ws_flow.specs.Told.{Told, then_told, IsShortOf}
use Rattle.ws_flow.proofs.Told.{then_empty, short_refl}
use Rattle.ws_laws.proofs.Lists.{Each, each-map}
use Rattle.ws_laws.proofs.Truth.{and_right}
use Rattle.ws_pipe_laws.proofs.pipes.AtSource.{except_few, all_off}
use Rattle.ws_pipe_laws.proofs.pipes.PassingRuns.{call-none, call-is}
use Rattle.ws_transform_laws.proofs.Halving.{going}
use Rattle.ws_transform_laws.proofs.PortHalving.{port-going}
use Rattle.ws_link_laws.proofs.PortShut.{shuts-stays}
use Rattle.ws_transform_laws.proofs.PortLive.{port-living}
use Rattle.ws_link_laws.specs.Link.{Ear, ear_at, in_sink, in_source, unheard, behind}
use Rattle.ws_link_laws.specs.Laws.{EachLinkBegins}
use Rattle.ws_link_laws.specs.Sound.{all_apart, IsApart, IsFree, IsThere, IsLink, AreApart, SourceFits, FitsIn}
use Rattle.ws_link_laws.proofs.Late.{IsLate, Placed, flushes, late-silent, late-front, late-first}
use Rattle.ws_link_laws.proofs.Hosts.{reached-hosts, hosts-same}
use Rattle.ws_link_laws.proofs.Telling.{if_same, IsSilent, silent-all, writes, chunks, coming, behind_on}
use Rattle.ws_link_laws.proofs.Unheard.{fresh-unheard}
use Rattle.ws_link_laws.proofs.Pipes.{rank}
use Rattle.ws_link_laws.proofs.Standing.{IsInner, IsNotLast, Sound}
use Rattle.ws_link_laws.proofs.Outer.{spare-append}
use Rattle.ws_link_laws.proofs.Steps.{From, performed-from, older-from, named-from, from-link, reached-step, reached-going, reached-living, reached-shuts, reached-few, reached-is, append_ends}
use Rattle.ws_link_laws.specs.Link.{giver_at}
use Rattle.ws_steps.specs.Slots.{source_at}

-- one more at the end of a table

pub place_last : {A : Type 0} (xs : List A) (y : A) → slice_get (xs ++ y ∷ []) (length xs) ≡ Some y
place_last [] y = refl
place_last (x ∷ xs) y = place_last xs y

pub place_before : {A : Type 0} (xs : List A) (y : A) (n : ℕ) → n ≢ length xs → slice_get (xs ++ y ∷ []) n ≡ slice_get xs n
place_before [] y zero n = absurd (n refl)
place_before [] y (suc i) n = refl
place_before (x ∷ xs) y zero n = refl
place_before (x ∷ xs) y (suc i) n = place_before xs y i (λ e. n (ap suc e))

pub place_past : {A : Type 0} (xs : List A) → slice_get xs (length xs) ≡ None
place_past [] = refl
place_past (x ∷ xs) = place_past xs

pub apart_at : (i j : StreamId) (xs : List pipe.Slots) (n : ℕ) (x : pipe.Slots) → all_apart i j xs ≡ true → slice_get xs n ≡ Some x → IsApart i j x
apart_at i j [] n x a e = cc
apart_at i j (y ∷ xs) zero x a e = let is : y ≡ x = cc in rw is at (one (is_same i y.source) (is_same j y.dest) (all_apart i j xs) a)
  where
    one : (b c d : Bool) → (not b && not c) && d ≡ true → (b ≡ false) × (c ≡ false)
    one b c d h = grind (arith, h)
apart_at i j (y ∷ xs) (suc n) x a e = apart_at i j xs n x (and_right (not (is_same i y.source) && not (is_same j y.dest)) (all_apart i j xs) a) e

-- the records of free streams

pub free-source : (p : PipeId) (r : readable.Slots) → r.reader ≡ None → r.requests ≡ [] → SourceFits p r
free-source p r e f = record { owned = rw f tt; fit = rw e tt }

pub free-sink : (w : writable.Slots) (state : WritableState) → w.queue ≡ [] → w.close_request ≡ None → w.close_in_flight ≡ None → FitsIn state w
free-sink w Writable q r c = record { shaped = rw q tt; closing = rw (c, r, q) refl; started = λ e. c }
free-sink w Erroring q r c = record { shaped = rw q tt; closing = rw (c, r, q) refl; started = λ e. c }
free-sink w Closed q r c = (c, q)
free-sink w Errored q r c = (c, q)

and_false : (b : Bool) → b && false ≡ false
and_false true = refl
and_false false = refl

module _ (i j : StreamId) (prevent : Prevent) (signal : Option SignalId) (s : Slots) (free : IsFree i j s) (there : IsThere signal s) where
  abbrev pub p : PipeId
  p = record { 0 = length s.pipes }

  abbrev pub b : Begun
  b = pipe_calls.pipe_to i j prevent signal s

  abbrev pub d : Done
  d = b.done

  abbrev pub y : pipe.Slots
  y = pipe.set_up i j prevent signal (next_id (fresh (fresh (fresh s.promises))))

  -- the call begins so

  unlocked : pipe_calls.pipe_unlocked i j prevent signal s ≡ b
  unlocked = rw (free.unread, free.unwritten) refl

  signalled : (o : Option SignalId) → IsThere o s → pipe_calls.for_signal_where o (pipe_calls.pipe_unlocked i j prevent signal) s ≡ b
  signalled None h = unlocked
  signalled (Some a) h = rw h unlocked

  pub is_begun : begin (Pipe i j prevent signal) s ≡ b
  unfolding begin
  is_begun = rw (free.source, free.sink) (signalled signal there)

  -- what it begins with

  begins-inner : (n : ℕ) (reason : Option Plain) (o : Option SignalId) → Each (IsInner i j p n) (pipe_calls.pipe_begins p (next_id s.promises) (next_id (fresh (fresh s.promises))) o reason)
  begins-inner n (Some r) o = (tt, tt)
  begins-inner n None None = (tt, (tt, (tt, tt)))
  begins-inner n None (Some g) = (tt, (tt, (tt, (tt, tt))))

  begins-last : (reason : Option Plain) (o : Option SignalId) → Each (IsNotLast p) (pipe_calls.pipe_begins p (next_id s.promises) (next_id (fresh (fresh s.promises))) o reason)
  begins-last (Some r) o = (and_false (nat_eq p.0 p.0), tt)
  begins-last None None = (refl, (refl, (refl, tt)))
  begins-last None (Some g) = (refl, (refl, (refl, (refl, tt))))

  begins-late : (w : Ear) (reason : Option Plain) (o : Option SignalId) → Each (IsLate w) (pipe_calls.pipe_begins p (next_id s.promises) (next_id (fresh (fresh s.promises))) o reason)
  begins-late w (Some r) o = ((refl, refl), tt)
  begins-late w None None = ((refl, refl), ((refl, refl), ((refl, refl), tt)))
  begins-late w None (Some g) = ((refl, refl), ((refl, refl), ((refl, refl), ((refl, refl), tt))))

  begins-placed : (w : Ear) (z : Slots) (reason : Option Plain) (o : Option SignalId) → Each (Placed j w z) (pipe_calls.pipe_begins p (next_id s.promises) (next_id (fresh (fresh s.promises))) o reason)
  begins-placed w z (Some r) o = (tt, tt)
  begins-placed w z None None = (tt, (tt, (tt, tt)))
  begins-placed w z None (Some g) = (tt, (tt, (tt, (tt, tt))))

  begins-writes : (reason : Option Plain) (o : Option SignalId) → Each (IsSilent (writes j)) (pipe_calls.pipe_begins p (next_id s.promises) (next_id (fresh (fresh s.promises))) o reason)
  begins-writes (Some r) o = (refl, tt)
  begins-writes None None = (refl, (refl, (refl, tt)))
  begins-writes None (Some g) = (refl, (refl, (refl, (refl, tt))))

  begins-chunks : (reason : Option Plain) (o : Option SignalId) → Each (IsSilent (chunks p)) (pipe_calls.pipe_begins p (next_id s.promises) (next_id (fresh (fresh s.promises))) o reason)
  begins-chunks (Some r) o = (refl, tt)
  begins-chunks None None = (refl, (refl, (refl, tt)))
  begins-chunks None (Some g) = (refl, (refl, (refl, (refl, tt))))

  begins-coming : (reason : Option Plain) (o : Option SignalId) → Each (IsSilent (coming (giver_at i s) i)) (pipe_calls.pipe_begins p (next_id s.promises) (next_id (fresh (fresh s.promises))) o reason)
  begins-coming (Some r) o = (refl, tt)
  begins-coming None None = (refl, (refl, (refl, tt)))
  begins-coming None (Some g) = (refl, (refl, (refl, (refl, tt))))

  -- the pipe is there

  here : slice_get d.slots.pipes p.0 ≡ Some y
  here = place_last s.pipes y

  pub at : pipe_at p d.slots ≡ y
  at = ap as_pipe here

  apart : AreApart i j p d.slots.pipes
  apart n x e m = apart_at i j s.pipes n x free.apart (sym (place_before s.pipes y n m) ∙ e)

  begun-sound : Sound i j p d.slots d.caused
  begun-sound =
      let hosts = reached-hosts i j s free.reached free.source free.sink free.source_owner free.sink_owner free.untied in
      let g = reached-going s j free.reached in
      let late : Each (IsLate (ear_at j s)) d.caused = ((refl, refl), ((refl, refl), ((refl, refl), begins-late (ear_at j s) (pipe_calls.reason_of signal s) signal))) in
      let r = reached-is s p free.reached in
      let few = rw is_begun at ((call-is p r.0 s (Pipe i j prevent signal) r.1).0) in
      let none = rw is_begun at (call-none p (Pipe i j prevent signal) s) in
      let past : slice_get s.pipes p.0 ≡ None = place_past s.pipes in
      let before = rw past at (reached-few s p free.reached) in
      let o = all_off p i d.caused in
      let x = except_few p i.0 s.streams in
      record {
        state = record {
          source = free.source;
          bare = free.bare;
          sink = free.sink;
          there = rw at here;
          from = ap (λ (z : pipe.Slots). z.source) at;
          into = ap (λ (z : pipe.Slots). z.dest) at;
          apart = apart;
          source_fits = free-source p (source_at i s) free.unread free.requests;
          sink_fits = free-sink (writable_at j s) (writable_at j s).state free.queue free.close_request free.close_in_flight;
          closes = rw at tt;
        };
        ahead = record {
          hosts = hosts-same i j s d.slots refl refl refl refl hosts;
          history = g.0;
          going = λ t. rw is_begun at ((going j t).call g.0 s (Pipe i j prevent signal) (g.1.0 t));
          porting = λ q. rw is_begun at ((port-going j q).call g.0 s (Pipe i j prevent signal) (g.1.1 q));
          living = λ q. rw is_begun at ((port-living j q).call g.0 s (Pipe i j prevent signal) (reached-living s j q free.reached));
          shutting = λ q. rw is_begun at ((shuts-stays i q).call s (Pipe i j prevent signal) (reached-shuts i q s free.reached));
          placed = (tt, (tt, (tt, begins-placed (ear_at j s) d.slots (pipe_calls.reason_of signal s) signal)));
          front = late-front (ear_at j s) d.caused late;
          first = late-first (ear_at j s) (is_some (writable_at j d.slots).close_in_flight) d.caused (each-map (IsLate (ear_at j s)) (λ e. flushes (ear_at j s) e ≡ false) (λ e l. l.1) d.caused late);
        };
        few = few;
        only = omega (arith, none, o, x, before);
        inner = (tt, (tt, (tt, begins-inner (rank (pipe_at p d.slots).phase) (pipe_calls.reason_of signal s) signal)));
        ends = append_ends j p d.caused (refl, (refl, (refl, begins-last (pipe_calls.reason_of signal s) signal)));
      }

  abbrev pub t : Told Value
  t = then_told (unheard (ear_at j s) s.promises.events) (then_told (in_sink (writable_at j s)) (in_source (source_at i s)))

  fresh-heard : unheard (ear_at j s) d.slots.promises.events ≡ unheard (ear_at j s) s.promises.events
  fresh-heard =
      let u : Table = s.promises in
      fresh-unheard (ear_at j s) (fresh (fresh (fresh u))) ∙ (fresh-unheard (ear_at j s) (fresh (fresh u)) ∙ (fresh-unheard (ear_at j s) (fresh u) ∙ fresh-unheard (ear_at j s) u))

  begun-told : behind_on i j p d.slots d.caused ≡ t
  begun-told =
      rw (
        fresh-heard,
        at,
        late-silent (ear_at j s) d.caused ((refl, refl), ((refl, refl), ((refl, refl), begins-late (ear_at j s) (pipe_calls.reason_of signal s) signal))),
        silent-all (writes j) d.caused (refl, (rw (if_same (is_same j j)) refl, (refl, begins-writes (pipe_calls.reason_of signal s) signal))),
        silent-all (chunks p) d.caused (refl, (refl, (refl, begins-chunks (pipe_calls.reason_of signal s) signal))),
        silent-all (coming (giver_at i s) i) d.caused (if_same (is_same i i), (refl, (if_same (is_same i i), begins-coming (pipe_calls.reason_of signal s) signal))),
        then_empty (in_source (source_at i s)),
      ) refl

  pub begun : From i j p t d.slots.locks d.slots d.caused
  begun = record { sound = begun-sound; short = rw begun-told (short_refl t); same = refl }

  called : IsLink i j p (after_call (Pipe i j prevent signal) s) × IsShortOf (behind i j p (after_call (Pipe i j prevent signal) s)) t
  called =
      let z : Slots = named b.reply (performed d) in
      from-link i j p t d.slots.locks (after_call (Pipe i j prevent signal) s) (reached-step s (Called (Pipe i j prevent signal)) free.reached) (spare-append i j s.locks (Inner ∷ Inner ∷ []) free.locks refl)
      (rw is_begun (older-from i j p t d.slots.locks z (named-from i j p t d.slots.locks b.reply (performed d) (performed-from i j p t d.slots.locks d begun))))

-- a pipe between free streams is a link
pub link-begins : (i j : StreamId) (prevent : Prevent) (signal : Option SignalId) (s : Slots) → IsFree i j s → IsThere signal s → IsLink i j (record { 0 = length s.pipes }) (after_call (Pipe i j prevent signal) s)
link-begins i j prevent signal s free there = (called i j prevent signal s free there).0

pub each_link_begins : EachLinkBegins
each_link_begins i j prevent signal s free there = let c = called i j prevent signal s free there in record { link = c.0; short = c.1 }
