-- How the host settled a flush algorithm to which the reaction is the next job (`each_flush_was_settled`).
use Rattle.std.proofs.Common.{◌≡◌, ℕ, zero, suc, true, nat_eq, List, [], ◌∷◌, ◌++◌, map, Some, Ok, slice_get, ap, subst, ◌∙◌, arith}
use Rattle.ws_value.specs.declared.{ids.StreamId.{StreamId}}
use Rattle.ws_steps.specs.declared.{calls.HostCall.TheVariants.{Flush as HostFlush}}
use Rattle.ws_steps.specs.declared.effects.{Effect.{Effect}, Effect.TheVariants.{Give, CallHost}}
use Rattle.ws_steps.specs.declared.promises.{Job.TheVariants.{Reaction}, Step.TheVariants.{TransformFlushed}}
use Rattle.ws_steps.specs.declared.transform.{TransformId.{TransformId}}
use Rattle.ws_steps.specs.Run.{Entry, run}
use Rattle.ws_steps.specs.Slots.{Slots, empty, as_transform, transform_at}
use Rattle.ws_steps.specs.Transform as transform
use Rattle.ws_steps.specs.Turns.{row}
use Rattle.ws_steps.specs.Histories.{over}
use Rattle.ws_laws.proofs.Halves.{call-among}
use Rattle.ws_laws.proofs.Lists.{Each, each-append}
use Rattle.ws_laws.proofs.Shapes.{TransformShape, transform_shape, row-transform_shapes}
use Rattle.ws_laws.proofs.Walker as walker
use Rattle.ws_laws.proofs.Walker.{Goes, Rests}
use Rattle.ws_end_laws.specs.hosts.HostCalls.{called}
use Rattle.ws_end_laws.specs.hosts.HostLaws.{EachFlushWasSettled}
use Rattle.ws_end_laws.proofs.hosts.FlushUses.{flushes_it, IsHosts, Fits, caused-fit, call-fits, job-fits}
use Rattle.ws_end_laws.proofs.hosts.Hosted.{Sofar, nothing_yet, sofar_then, sofar-history, effect_sofar, said_sofar, happens_sofar, over_sofar, run_well, well-was-settled}
use Rattle.ws_end_laws.proofs.hosts.Sourced.{UsesIt, Tracked, row-tracked, call-tracked, next-fits, job-tracked, answered-tracked, older-tracked, heard-tracked, tracked_empty}

module _ (t : TransformId) (r : StreamId) where
  -- what holds at each moment
  record Held (h : Sofar) (s : Slots) (es : List Effect) : Type 0 where
    tracked : Tracked (flushes_it t) (HostFlush r) h s es
    effects : Each (Fits t r) es

  fits-uses : (e : Effect) → Fits t r e → UsesIt (flushes_it t) (HostFlush r) e
  fits-uses (Give gift u) f = f
  fits-uses (CallHost call u) f = f
  fits-uses _ f = tt

  -- of a transform stream of the host's with this readable half, wherever it is there
  abbrev IfHosts : Sofar → Slots → List Effect → Type 0
  IfHosts h s es = IsHosts t r s → Held h s es

  row-held : (h : Sofar) (s : Slots) (e : Effect) (es : List Effect) → IsHosts t r s → Held h s (e ∷ es) → Held (sofar_then h (effect_sofar e s)) (row e s).slots ((row e s).caused ++ es)
  row-held h s e es is k = record {
    tracked = row-tracked (flushes_it t) (HostFlush r) h s e es (fits-uses e k.effects.0) k.tracked;
    effects = each-append (Fits t r) (row e s).caused es (caused-fit t r e s is k.effects.0) k.effects.1;
  }

  held-goes : Goes sofar_then effect_sofar said_sofar IfHosts
  held-goes = record {
    row = λ h s e es k is. let was : IsHosts t r s = (λ y f. is y (rw (row-transform_shapes e s) f)) in row-held h s e es was (k was);
    call = λ h s c k is. let was : IsHosts t r s = (λ y f. is y (call-among c s t y f)) in record { tracked = call-tracked (flushes_it t) (HostFlush r) h s c (k was).tracked; effects = call-fits t r c s };
    job = λ h s job e k is. record { tracked = job-tracked (flushes_it t) (HostFlush r) h s job e (k is).tracked; effects = job-fits t r job };
    idle = λ h s e k is. rw (sofar-history.right h) (k is);
    answered = λ h s p k is. record { tracked = answered-tracked (flushes_it t) (HostFlush r) h s p (k is).tracked; effects = tt };
    older = λ h s k is. record { tracked = older-tracked (flushes_it t) (HostFlush r) h s (k is).tracked; effects = tt };
  }

  held-rests : Rests sofar_then said_sofar IfHosts
  held-rests = record { heard = λ h s k is. record { tracked = heard-tracked (flushes_it t) (HostFlush r) h s (k is).tracked; effects = tt } }

  held_empty : Held nothing_yet empty []
  held_empty = record { tracked = tracked_empty (flushes_it t) (HostFlush r); effects = tt }

  run-held : (entries : List Entry) → IfHosts (record { calls = called entries; well = run_well entries empty }) (run entries empty) []
  run-held entries =
      subst (λ (h : Sofar). IfHosts h (run entries empty) []) (over_sofar entries empty)
      (rw (sofar-history.left (over nothing_yet sofar_then happens_sofar entries empty)) at (walker.run-goes nothing_yet sofar_then sofar-history effect_sofar said_sofar IfHosts held-goes held-rests entries nothing_yet empty (λ is. held_empty)))

-- the shape of a transform stream that is there
shape-there : (xs : List transform.Slots) (n : ℕ) (y : TransformShape) → slice_get (map transform_shape xs) n ≡ Some y → y ≡ transform_shape (as_transform (slice_get xs n))
shape-there [] n y e = cc
shape-there (x ∷ xs) zero y e = cc
shape-there (x ∷ xs) (suc n) y e = shape-there xs n y e

pub each_flush_was_settled : EachFlushWasSettled
each_flush_was_settled entries t p v derived kind next =
    let s : Slots = run entries empty in
    let r : StreamId = (transform_at t s).readable in
    let is : IsHosts t r s = (λ y e. let same = shape-there s.transforms t.0 y e in (ap (λ (x : TransformShape). x.kind) same ∙ kind, ap (λ (x : TransformShape). x.readable) same)) in
    let self : nat_eq t.0 t.0 ≡ true = grind arith in
    well-was-settled entries (HostFlush r) (next-fits (flushes_it t) (HostFlush r) (record { calls = called entries; well = run_well entries empty }) s (Reaction (TransformFlushed t p) (Ok v) derived) next (run-held t r entries is).tracked self)
