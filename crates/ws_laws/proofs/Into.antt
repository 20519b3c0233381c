-- A read into a room isn't supported, is rejected, or begins.
use Rattle.std.proofs.Common.{ℕ, Bool, true, false, not, if◌then◌else◌, List, length, Option, Some, None}
use Rattle.ws_value.specs.declared.fault.Fault.{Fault}
use Rattle.ws_value.specs.declared.fault.Fault.TheVariants.{TypeError}
use Rattle.ws_value.specs.declared.ids.StreamId.{StreamId}
use Rattle.ws_steps.specs.declared.locks.Lock.{Lock}
use Rattle.ws_steps.specs.declared.locks.Lock.TheVariants.{Reader, ByobReader, Writer, ReleasedWriter, Inner}
use Rattle.ws_steps.specs.Begun.{Begun, unsupported, rejected_with, for_source}
use Rattle.ws_steps.specs.LockCalls.{is_view, has_least, least_fault, read_into, by_byob_reader, read_into_by}
use Rattle.ws_steps.specs.Slots.{Slots, has_source}
use Rattle.ws_laws.proofs.Tables.{either}

module _ (P : Begun → Type 0) (room : List ℕ) (element least : ℕ) (s : Slots) (unfit : P (unsupported s)) (refused : (fault : Fault) → P (rejected_with fault s)) (begins : (i : StreamId) → P (read_into room element least i s)) where
  by_reader-either : (holding : StreamId → Slots → Begun) (fault : Fault) → ((i : StreamId) → P (holding i s)) → (o : Option Lock) → P (by_byob_reader holding (rejected_with fault) s o)
  by_reader-either holding fault h None = unfit
  by_reader-either holding fault h (Some (Reader stream closed)) = unfit
  by_reader-either holding fault h (Some (ByobReader None closed)) = refused fault
  by_reader-either holding fault h (Some (ByobReader (Some i) closed)) = either P (has_source i s) _ _ (λ e. h i) (λ e. unfit)
  by_reader-either holding fault h (Some (Writer i)) = unfit
  by_reader-either holding fault h (Some (ReleasedWriter w)) = unfit
  by_reader-either holding fault h (Some Inner) = unfit

  pub into-either : (o : Option Lock) → P (read_into_by room element least s o)
  into-either o =
      let f : Fault = least_fault (length room) least in
      either P (not (is_view (length room) element)) _ _ (λ e. unfit)
      (λ e. either P (not (has_least (length room) element least)) _ _
      (λ e. by_reader-either (λ i. rejected_with f) f (λ i. refused f) o)
      (λ e. by_reader-either (read_into room element least) TypeError begins o))
