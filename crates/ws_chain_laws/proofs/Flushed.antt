-- What a job brings to the links of a chain (`each_end_was_flushed`).
use Rattle.std.proofs.Common.{◌≡◌, ℕ, suc, ◌≤◌, nat_eq, Bool, true, false, List, Option, Some, None, Ok, refl, sym, ap, subst, ◌∙◌, arith}
use Rattle.ws_value.specs.declared.ids.PromiseId.{PromiseId}
use Rattle.ws_value.specs.declared.ids.StreamId.{StreamId}
use Rattle.ws_value.specs.declared.value.Plain.{Plain}
use Rattle.ws_steps.specs.declared.calls.HostCall.TheVariants.{Flush}
use Rattle.ws_steps.specs.declared.effects.Owner.{Owner}
use Rattle.ws_steps.specs.declared.effects.Owner.TheVariants.{HalfOf}
use Rattle.ws_steps.specs.declared.promises.Job.{Job}
use Rattle.ws_steps.specs.declared.promises.Job.TheVariants.{Reaction}
use Rattle.ws_steps.specs.declared.promises.Step.TheVariants.{TransformFlushed}
use Rattle.ws_steps.specs.declared.transform.Kind.TheVariants.{Host as HostKind}
use Rattle.ws_steps.specs.declared.transform.TransformId.{TransformId}
use Rattle.ws_steps.specs.Promises.{next_job}
use Rattle.ws_steps.specs.Run.{Entry, run}
use Rattle.ws_steps.specs.Slots.{Slots, empty, owner_at, transform_at}
use Rattle.ws_end_laws.specs.hosts.HostCalls.{WasSettledWell}
use Rattle.ws_end_laws.proofs.hosts.Flushed.{each_flush_was_settled}
use Rattle.ws_laws.proofs.Tables.{eq_numbers}
use Rattle.ws_link_laws.specs.Link.{OfTransform, silence, ear_by, half_enters}
use Rattle.ws_link_laws.specs.Sound.{IsHosts}
use Rattle.ws_chain_laws.specs.Chain.{Origin, Target, source_of, dest_of, transform_of, IsChain}
use Rattle.ws_chain_laws.specs.Laws.{next_enters}
use Rattle.ws_chain_laws.specs.Outcomes.{Flushes, BringsNothing, BringsTheEnd, EachEndWasFlushed}
use Rattle.ws_chain_laws.proofs.Links.{link-at, takes-at}
use Rattle.ws_chain_laws.proofs.Numbers.{unlike}

source-none : (o : Option Job) → next_enters 0 o ≡ silence
source-none None = refl
source-none (Some job) = refl

-- a job that is the reaction to a flush that went well, or another
data Kind (job : Job) : Type 0 where
  Flush_ : (t : TransformId) (p : PromiseId) (v : Plain) (derived : Option PromiseId) → job ≡ Reaction (TransformFlushed t p) (Ok v) derived → Kind job
  Other : ((t : TransformId) → half_enters t job ≡ silence) → Kind job

kind : (job : Job) → Kind job
kind (Reaction (TransformFlushed t p) (Ok v) derived) = Flush_ t p v derived refl
kind job = Other (λ t. refl)

module _ (origin : Origin) (target : Target) (n : ℕ) (entries : List Entry) (c : IsChain origin target n (run entries empty)) (k : ℕ) (less : suc k ≤ n) where
  abbrev s : Slots
  s = run entries empty

  abbrev t : TransformId
  t = transform_of k

  below : k ≤ n
  below = omega (arith, less)

  unlast : nat_eq k n ≡ false
  unlast = unlike k n (λ e. omega (arith, e, less))

  owner : owner_at (dest_of k) s ≡ HalfOf t
  owner = takes-at origin target n s c k below ∙ rw unlast refl

  hosts-kind : (transform_at t s).kind ≡ HostKind
  hosts-kind = subst (λ (o : Owner). IsHosts s o) owner (link-at origin target n s c k below).link.sink_owner

  ear : OfTransform t (transform_at t s).readable ≡ OfTransform t (source_of (suc k))
  ear = sym (ap (λ (o : Owner). ear_by (dest_of k) s o) owner) ∙ ((link-at origin target n s c k below).hears ∙ rw unlast refl)

  half : (transform_at t s).readable ≡ source_of (suc k)
  half = let e = ear in cc

  flushed : (p : PromiseId) (v : Plain) (derived : Option PromiseId) → next_job s.promises ≡ Some (Reaction (TransformFlushed t p) (Ok v) derived) → WasSettledWell entries (Flush (source_of (suc k)))
  flushed p v derived e = subst (λ (i : StreamId). WasSettledWell entries (Flush i)) half (each_flush_was_settled entries t p v derived hosts-kind e)

  brought : (o : Option Job) → next_job s.promises ≡ o → Flushes k entries
  brought None e = BringsNothing (ap (next_enters (suc k)) e)
  brought (Some job) e = by-kind (kind job)
    where
      by-number : (u : TransformId) (p : PromiseId) (v : Plain) (derived : Option PromiseId) → next_job s.promises ≡ Some (Reaction (TransformFlushed u p) (Ok v) derived) → (b : Bool) → nat_eq k u.0 ≡ b → Flushes k entries
      by-number u p v derived f true g =
          let is : u ≡ t = ap transform_of (sym (eq_numbers k u.0 g)) in
          BringsTheEnd (ap (next_enters (suc k)) f ∙ rw g refl) (flushed p v derived (rw is at f))
      by-number u p v derived f false g = BringsNothing (ap (next_enters (suc k)) f ∙ rw g refl)

      by-kind : Kind job → Flushes k entries
      by-kind (Flush_ u p v derived is) = by-number u p v derived (e ∙ ap Some is) (nat_eq k u.0) refl
      by-kind (Other f) = BringsNothing (ap (next_enters (suc k)) e ∙ f t)

pub each_end_was_flushed : EachEndWasFlushed
each_end_was_flushed origin target n entries c = record {
  source = source-none (next_job (run entries empty).promises);
  half = λ k less. brought origin target n entries c k less (next_job (run entries empty).promises) refl;
}
