-- How a writable stream came to be closed (`each_close_was_settled`): the reaction to its close algorithm is registered with the promise of that host
-- call alone, which only the host settles.
use Rattle.std.proofs.Common.{◌≡◌, Bool, true, false, List, [], ◌∷◌, ◌++◌, Some, Ok, Err, slice_get, refl, sym, ap, subst, ◌∙◌}
use Rattle.ws_value.specs.declared.{ids.StreamId.{StreamId}}
use Rattle.ws_value.specs.declared.value.Plain.{Plain}
use Rattle.ws_steps.specs.declared.{calls.Call.{Call}}
use Rattle.ws_steps.specs.declared.{calls.HostCall.TheVariants.{Close as HostClose}}
use Rattle.ws_steps.specs.declared.effects.Effect.{Effect}
use Rattle.ws_steps.specs.declared.effects.Effect.TheVariants.{Writable, Give, CallHost}
use Rattle.ws_steps.specs.declared.{effects.Owner.TheVariants.{Host}}
use Rattle.ws_steps.specs.declared.{promises.Job.{Job}}
use Rattle.ws_steps.specs.declared.writable.WritableOperation.TheVariants.{CloseSettled}
use Rattle.ws_steps.specs.declared.writable.WritableState.TheVariants.{Closed}
use Rattle.ws_steps.specs.Promises.{next_job, after_next_job}
use Rattle.ws_steps.specs.Readable as readable
use Rattle.ws_steps.specs.Writable as writable
use Rattle.ws_steps.specs.Slots.{Slots, empty, owner_at, with_promises, has_writable, writable_at, WritableStream, ReadableStream}
use Rattle.ws_steps.specs.Turns.{row}
use Rattle.ws_steps.specs.Jobs.{job_effects}
use Rattle.ws_steps.specs.Calls.{begin}
use Rattle.ws_steps.specs.Run.{Entry, Called, run, after_event}
use Rattle.ws_steps.specs.Histories.{is_same, over}
use Rattle.ws_laws.proofs.Begin.{begin-makes}
use Rattle.ws_laws.proofs.Lists.{Each, each-append, each-map}
use Rattle.ws_laws.proofs.Shapes.{row-owner}
use Rattle.ws_laws.proofs.Tables.{writable_there}
use Rattle.ws_laws.proofs.Walker as walker
use Rattle.ws_laws.proofs.Walker.{Goes, Rests}
use Rattle.ws_writable_laws.proofs.Runs.{call-was}
use Rattle.ws_end_laws.specs.hosts.HostCalls.{called, WasSettledWell}
use Rattle.ws_end_laws.specs.hosts.HostLaws.{EachCloseWasSettled}
use Rattle.ws_end_laws.proofs.hosts.Hosted.{Sofar, nothing_yet, sofar_then, sofar-history, effect_sofar, said_sofar, Well, well-stays, happens_sofar, over_sofar, run_well, well-was-settled}
use Rattle.ws_end_laws.proofs.hosts.Sourced.{UsesIt, Tracked, row-tracked, call-tracked, next-fits, job-tracked, answered-tracked, older-tracked, heard-tracked, tracked_empty}
use Rattle.ws_end_laws.proofs.hosts.Uses.{closes_it, Fits, caused-fit, call-fits, job-effects-fit, fits-weaker}
use Rattle.ws_end_laws.proofs.hosts.Closing.{is_closed_in, closed_in, row-before, added-before}
use Rattle.ws_steps.specs.Slots.{ByteStream}
use Rattle.ws_steps.specs.Bytes as byte

module _ (j : StreamId) where
  abbrev W : Sofar → Type 0
  W h = Well h (HostClose j)

  -- what holds at each moment
  record Held (h : Sofar) (s : Slots) (es : List Effect) : Type 0 where
    tracked : Tracked (closes_it j) (HostClose j) h s es
    effects : Each (Fits j (W h)) es
    closed : closed_in j s ≡ true → W h

  abbrev next : Sofar → Effect → Slots → Sofar
  next h e s = sofar_then h (effect_sofar e s)

  fits-uses : (V : Type 0) (e : Effect) → Fits j V e → UsesIt (closes_it j) (HostClose j) e
  fits-uses V (Give gift u) f = f
  fits-uses V (CallHost call u) f = f
  fits-uses V _ f = tt

  -- the stream is closed only by the reaction

  close-by : (h : Sofar) (s : Slots) (i : StreamId) (v : Plain) (same : Bool) → same ≡ is_same i j → (is_same i j ≡ true → W h) → (closed_in j s ≡ true → W h) → closed_in j (row (Writable i (CloseSettled (Ok v))) s).slots ≡ true → W h
  close-by h s i v true e f c d = f (sym e)
  close-by h s i v false e f c d = c (row-before j (Writable i (CloseSettled (Ok v))) s (λ m. let n = m.0 in absurd (cc)) d)

  row-closed : (h : Sofar) (s : Slots) (e : Effect) → Fits j (W h) e → (closed_in j s ≡ true → W h) → closed_in j (row e s).slots ≡ true → W h
  row-closed h s (Writable i (CloseSettled (Ok v))) f c d = close-by h s i v (is_same i j) refl f c d
  row-closed h s (Writable i (CloseSettled (Err r))) f c d = c (row-before j (Writable i (CloseSettled (Err r))) s (λ m. m.1) d)
  row-closed h s (Writable i operation) f c d = c (row-before j (Writable i operation) s (λ m. m.1) d)
  row-closed h s e f c d = c (row-before j e s (λ m. m) d)

  row-held : (h : Sofar) (s : Slots) (e : Effect) (es : List Effect) → owner_at j s ≡ Host → Held h s (e ∷ es) → Held (next h e s) (row e s).slots ((row e s).caused ++ es)
  row-held h s e es host k =
      let g : Sofar = next h e s in
      let weaker : W h → W g = well-stays h (effect_sofar e s) (HostClose j) in
      record {
        tracked = row-tracked (closes_it j) (HostClose j) h s e es (fits-uses (W h) e k.effects.0) k.tracked;
        effects =
            each-append (Fits j (W g)) (row e s).caused es (caused-fit j (W g) e s host (fits-weaker j (W h) (W g) weaker e k.effects.0))
            (each-map (Fits j (W h)) (Fits j (W g)) (fits-weaker j (W h) (W g) weaker) es k.effects.1);
        closed = λ c. weaker (row-closed h s e k.effects.0 k.closed c);
      }

  -- calls, jobs, and between steps

  call-closed : (h : Sofar) (c : Call) (s : Slots) → (closed_in j s ≡ true → W h) → closed_in j (begin c s).done.slots ≡ true → W h
  call-closed h c s k = begin-makes (λ z. closed_in j z ≡ true → W h) (record {
    promise = λ z m. m;
    locks = λ z ls m. m;
    hosts = λ z hs m. m;
    pipe = λ z source dest prevent signal promise m. m;
    signal = λ z m. m;
    transform = λ z kind half other change m. m;
    tee = λ z source first second cancel m. m;
    port = λ z side stream backpressure m. m;
    bytes = λ z mark auto m. λ c. m (added-before z.streams (ByteStream (byte.set_up mark auto)) j.0 refl c);
    byob_requests = λ z hs m. m;
    readable = λ z owner mark size m. λ c. m (added-before z.streams (ReadableStream (readable.set_up owner mark size)) j.0 refl c);
    writable = λ z owner mark size m. λ c. m (added-before z.streams (WritableStream (writable.set_up owner mark size)) j.0 refl c);
  }) c s k

  call-held : (h : Sofar) (s : Slots) (c : Call) → Held h s [] → Held (sofar_then h (said_sofar s (Called c))) (begin c s).done.slots (begin c s).done.caused
  call-held h s c k =
      let weaker : W h → W (sofar_then h (said_sofar s (Called c))) = well-stays h (said_sofar s (Called c)) (HostClose j) in
      record {
        tracked = call-tracked (closes_it j) (HostClose j) h s c k.tracked;
        effects = call-fits j (W (sofar_then h (said_sofar s (Called c)))) c s;
        closed = λ d. weaker (call-closed h c s k.closed d);
      }

  job-held : (h : Sofar) (s : Slots) (job : Job) → next_job s.promises ≡ Some job → Held h s [] → Held (sofar_then h nothing_yet) (with_promises (after_next_job s.promises) s) (job_effects job)
  job-held h s job e k = record {
    tracked = job-tracked (closes_it j) (HostClose j) h s job e k.tracked;
    effects = rw (sofar-history.right h) (job-effects-fit j (W h) job (next-fits (closes_it j) (HostClose j) h s job e k.tracked));
    closed = λ c. rw (sofar-history.right h) (k.closed c);
  }

  heard-held : (h : Sofar) (s : Slots) → Held h s [] → Held (sofar_then h nothing_yet) (after_event s) []
  heard-held h s k = record { tracked = heard-tracked (closes_it j) (HostClose j) h s k.tracked; effects = tt; closed = λ c. rw (sofar-history.right h) (k.closed c) }

  -- of a stream of the host
  abbrev IfHosts : Sofar → Slots → List Effect → Type 0
  IfHosts h s es = owner_at j s ≡ Host → Held h s es

  held-goes : Goes sofar_then effect_sofar said_sofar IfHosts
  held-goes = record {
    row = λ h s e es k o. let was : owner_at j s ≡ Host = sym (row-owner j e s) ∙ o in row-held h s e es was (k was);
    call = λ h s c k o. call-held h s c (k (call-was j s s c (λ x. x) o));
    job = λ h s job e k o. job-held h s job e (k o);
    idle = λ h s e k o. rw (sofar-history.right h) (k o);
    answered = λ h s p k o. record { tracked = answered-tracked (closes_it j) (HostClose j) h s p (k o).tracked; effects = tt; closed = (k o).closed };
    older = λ h s k o. record { tracked = older-tracked (closes_it j) (HostClose j) h s (k o).tracked; effects = tt; closed = (k o).closed };
  }

  held-rests : Rests sofar_then said_sofar IfHosts
  held-rests = record { heard = λ h s k o. heard-held h s (k o) }

  held_empty : Held nothing_yet empty []
  held_empty = record { tracked = tracked_empty (closes_it j) (HostClose j); effects = tt; closed = λ c. absurd (cc) }

  run-held : (entries : List Entry) → IfHosts (record { calls = called entries; well = run_well entries empty }) (run entries empty) []
  run-held entries =
      subst (λ (h : Sofar). IfHosts h (run entries empty) []) (over_sofar entries empty)
      (rw (sofar-history.left (over nothing_yet sofar_then happens_sofar entries empty)) at (walker.run-goes nothing_yet sofar_then sofar-history effect_sofar said_sofar IfHosts held-goes held-rests entries nothing_yet empty (λ o. held_empty)))

closed_there : (j : StreamId) (s : Slots) → has_writable j s ≡ true → (writable_at j s).state ≡ Closed → closed_in j s ≡ true
closed_there j s h e = ap is_closed_in (writable_there (slice_get s.streams j.0) h) ∙ ap writable.is_closed e

-- the host settled the close algorithm of a stream of its own well that is closed
pub close-was-settled : (entries : List Entry) (j : StreamId) → owner_at j (run entries empty) ≡ Host → closed_in j (run entries empty) ≡ true → WasSettledWell entries (HostClose j)
close-was-settled entries j host c = well-was-settled entries (HostClose j) ((run-held j entries host).closed c)

pub each_close_was_settled : EachCloseWasSettled
each_close_was_settled entries j host there closed = close-was-settled entries j host (closed_there j (run entries empty) there closed)
