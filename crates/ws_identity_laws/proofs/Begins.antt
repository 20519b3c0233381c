-- How a pipe makes two streams a link (`each_any_link_begins`).
use Rattle.std.proofs.Common.{◌≡◌, ℕ, nat_eq, [], ◌∷◌, length, Option, Some, None, slice_get, refl, sym, ap, subst, ◌∙◌, arith}
use Rattle.ws_value.specs.declared.ids.PipeId.{PipeId}
use Rattle.ws_value.specs.declared.ids.SignalId.{SignalId}
use Rattle.ws_value.specs.declared.ids.StreamId.{StreamId}
use Rattle.ws_value.specs.declared.value.Plain.{Plain}
use Rattle.ws_value.specs.declared.value.Value.{Value}
use Rattle.ws_steps.specs.declared.calls.Call.TheVariants.{Pipe}
use Rattle.ws_steps.specs.declared.locks.Lock.TheVariants.{Inner}
use Rattle.ws_steps.specs.declared.pipes.Prevent.{Prevent}
use Rattle.ws_steps.specs.PipeCalls as pipe_calls
use Rattle.ws_steps.specs.Begun.{Begun}
use Rattle.ws_steps.specs.Calls.{begin, named}
use Rattle.ws_steps.specs.Histories.{is_same}
use Rattle.ws_steps.specs.Pipes as pipe
use Rattle.ws_steps.specs.Promises.{next_id, fresh}
use Rattle.ws_steps.specs.Run.{Called, older}
use Rattle.ws_steps.specs.Slots.{Slots, Done, source_at, writable_at, pipe_at, as_pipe}
use Rattle.ws_steps.specs.Turns.{performed}
use Rattle.ws_flow.specs.Told.{Told, then_told, IsShortOf}
use Rattle.ws_flow.proofs.Told.{then_empty, short_refl}
use Rattle.ws_laws.proofs.Lists.{Each}
use Rattle.ws_pipe_laws.proofs.pipes.AtSource.{except_few, all_off}
use Rattle.ws_pipe_laws.proofs.pipes.PassingRuns.{call-none, call-is}
use Rattle.ws_transform_laws.proofs.Halving.{going}
use Rattle.ws_transform_laws.proofs.PortHalving.{port-going}
use Rattle.ws_link_laws.specs.Link.{in_sink, in_source, lies}
use Rattle.ws_link_laws.specs.Sound.{IsReached, IsThere, AreApart}
use Rattle.ws_link_laws.proofs.Begins.{apart_at, free-source, free-sink, place_last, place_before, place_past}
use Rattle.ws_link_laws.proofs.Outer.{spare-append}
use Rattle.ws_link_laws.proofs.Pipes.{rank}
use Rattle.ws_link_laws.proofs.Standing.{IsInner, IsNotLast}
use Rattle.ws_link_laws.proofs.Steps.{reached-step, reached-going, reached-few, reached-is, append_ends}
use Rattle.ws_link_laws.proofs.Telling.{if_same, IsSilent, silent-all, writes, chunks}
use Rattle.ws_link_laws.proofs.Turns.{and_false}
use Rattle.ws_identity_laws.specs.Ends.{IsAnyLink, IsAnyFree}
use Rattle.ws_identity_laws.specs.Laws.{EachAnyLinkBegins}
use Rattle.ws_identity_laws.proofs.Standing.{Stands, lies_on}
use Rattle.ws_identity_laws.proofs.Steps.{Sides, none, performed_sides, From, performed-from, older-from, named-from, from-link, reached-sunk}
use Rattle.ws_transform_laws.proofs.Sunk.{sink-owned}

module _ (i j : StreamId) (prevent : Prevent) (signal : Option SignalId) (s : Slots) (free : IsAnyFree i j s) (there : IsThere signal s) where
  abbrev p : PipeId
  p = record { 0 = length s.pipes }

  abbrev b : Begun
  b = pipe_calls.pipe_to i j prevent signal s

  abbrev d : Done
  d = b.done

  abbrev y : pipe.Slots
  y = pipe.set_up i j prevent signal (next_id (fresh (fresh (fresh s.promises))))

  -- the call begins so

  unlocked : pipe_calls.pipe_unlocked i j prevent signal s ≡ b
  unlocked = rw (free.unread, free.unwritten) refl

  signalled : (o : Option SignalId) → IsThere o s → pipe_calls.for_signal_where o (pipe_calls.pipe_unlocked i j prevent signal) s ≡ b
  signalled None h = unlocked
  signalled (Some a) h = rw h unlocked

  pub is_begun : begin (Pipe i j prevent signal) s ≡ b
  unfolding begin
  is_begun = rw (free.source, free.sink) (signalled signal there)

  -- what it begins with

  begins-inner : (n : ℕ) (reason : Option Plain) (o : Option SignalId) → Each (IsInner i j p n) (pipe_calls.pipe_begins p (next_id s.promises) (next_id (fresh (fresh s.promises))) o reason)
  begins-inner n (Some r) o = (tt, tt)
  begins-inner n None None = (tt, (tt, (tt, tt)))
  begins-inner n None (Some g) = (tt, (tt, (tt, (tt, tt))))

  begins-last : (reason : Option Plain) (o : Option SignalId) → Each (IsNotLast p) (pipe_calls.pipe_begins p (next_id s.promises) (next_id (fresh (fresh s.promises))) o reason)
  begins-last (Some r) o = (and_false (nat_eq p.0 p.0), tt)
  begins-last None None = (refl, (refl, (refl, tt)))
  begins-last None (Some g) = (refl, (refl, (refl, (refl, tt))))

  begins-writes : (reason : Option Plain) (o : Option SignalId) → Each (IsSilent (writes j)) (pipe_calls.pipe_begins p (next_id s.promises) (next_id (fresh (fresh s.promises))) o reason)
  begins-writes (Some r) o = (refl, tt)
  begins-writes None None = (refl, (refl, (refl, tt)))
  begins-writes None (Some g) = (refl, (refl, (refl, (refl, tt))))

  begins-chunks : (reason : Option Plain) (o : Option SignalId) → Each (IsSilent (chunks p)) (pipe_calls.pipe_begins p (next_id s.promises) (next_id (fresh (fresh s.promises))) o reason)
  begins-chunks (Some r) o = (refl, tt)
  begins-chunks None None = (refl, (refl, (refl, tt)))
  begins-chunks None (Some g) = (refl, (refl, (refl, (refl, tt))))

  -- the pipe is there

  here : slice_get d.slots.pipes p.0 ≡ Some y
  here = place_last s.pipes y

  at : pipe_at p d.slots ≡ y
  at = ap as_pipe here

  apart : AreApart i j p d.slots.pipes
  apart n x e m = apart_at i j s.pipes n x free.apart (sym (place_before s.pipes y n m) ∙ e)

  begun-stands : Stands i j p d.slots d.caused
  begun-stands =
      let g = reached-going s j free.reached in
      let r = reached-is s p free.reached in
      let few = rw is_begun at ((call-is p r.0 s (Pipe i j prevent signal) r.1).0) in
      let none_ = rw is_begun at (call-none p (Pipe i j prevent signal) s) in
      let past : slice_get s.pipes p.0 ≡ None = place_past s.pipes in
      let before = rw past at (reached-few s p free.reached) in
      let o = all_off p i d.caused in
      let x = except_few p i.0 s.streams in
      record {
        state = record {
          source = free.source;
          bare = free.bare;
          sink = free.sink;
          there = rw at here;
          from = ap (λ (z : pipe.Slots). z.source) at;
          into = ap (λ (z : pipe.Slots). z.dest) at;
          apart = apart;
          source_fits = free-source p (source_at i s) free.unread free.requests;
          sink_fits = free-sink (writable_at j s) (writable_at j s).state free.queue free.close_request free.close_in_flight;
          closes = rw at tt;
        };
        history = g.0;
        going = λ t. rw is_begun at ((going j t).call g.0 s (Pipe i j prevent signal) (g.1.0 t));
        porting = λ c. rw is_begun at ((port-going j c).call g.0 s (Pipe i j prevent signal) (g.1.1 c));
        few = few;
        only = omega (arith, none_, o, x, before);
        inner = (tt, (tt, (tt, begins-inner (rank (pipe_at p d.slots).phase) (pipe_calls.reason_of signal s) signal)));
        ends = append_ends j p d.caused (refl, (refl, (refl, begins-last (pipe_calls.reason_of signal s) signal)));
        untied = free.untied;
        sunk = sink-owned j s (reached-sunk s free.reached) free.sink;
      }

  abbrev t : Told Value
  t = then_told (in_sink (writable_at j s)) (in_source (source_at i s))

  begun-told : lies_on i j p d.slots d.caused ≡ t
  begun-told =
      rw (
        at,
        silent-all (writes j) d.caused (refl, (rw (if_same (is_same j j)) refl, (refl, begins-writes (pipe_calls.reason_of signal s) signal))),
        silent-all (chunks p) d.caused (refl, (refl, (refl, begins-chunks (pipe_calls.reason_of signal s) signal))),
      ) refl

  begun : From i j p t d.slots.locks none d.slots d.caused
  begun = record { stands = begun-stands; short = rw (begun-told, then_empty t) (short_refl t); same = refl }

  -- what holds once the call has ended
  abbrev After : Begun → Type 0
  After x =
      let h : Sides = performed_sides i j x.done in
      let z : Slots = older (named x.reply (performed x.done)) in
      IsAnyLink i j p z × IsShortOf (then_told h.acts (lies i j p z)) (then_told t h.takes)

  pub called : After (begin (Pipe i j prevent signal) s)
  called =
      let h : Sides = performed_sides i j d in
      let z : Slots = named b.reply (performed d) in
      let reached : IsReached (older z) = rw is_begun at (reached-step s (Called (Pipe i j prevent signal)) free.reached) in
      subst After (sym is_begun)
      (from-link i j p t d.slots.locks h (older z) reached (spare-append i j s.locks (Inner ∷ Inner ∷ []) free.locks refl)
      (older-from i j p t d.slots.locks h z (named-from i j p t d.slots.locks h b.reply (performed d) (performed-from i j p t d.slots.locks d begun))))

pub each_any_link_begins : EachAnyLinkBegins
each_any_link_begins i j prevent signal s free there = let c = called i j prevent signal s free there in record { link = c.0; short = c.1 }
