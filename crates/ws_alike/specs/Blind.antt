-- What is done with other promises doesn't look at a promise, and leaves it alone.
use Rattle.std.specs.Prelude.{ℕ, Bool, ◌+◌, ◌≡◌, ◌≢◌, ◌<◌, ◌≤◌, length, Option, Result}
use Rattle.ws_value.specs.declared.ids.PipeId.{PipeId}
use Rattle.ws_value.specs.declared.ids.PortId.{PortId}
use Rattle.ws_value.specs.declared.ids.TeeId.{TeeId}
use Rattle.ws_value.specs.declared.ids.PromiseId.{PromiseId}
use Rattle.ws_value.specs.declared.ids.StreamId.{StreamId}
use Rattle.ws_value.specs.declared.value.Outcome.{Outcome}
use Rattle.ws_value.specs.declared.value.Plain.{Plain}
use Rattle.ws_steps.specs.declared.calls.Event.{Event}
use Rattle.ws_steps.specs.declared.effects.Effect.{Effect}
use Rattle.ws_steps.specs.declared.effects.Gift.{Gift}
use Rattle.ws_steps.specs.declared.effects.Use.{Use}
use Rattle.ws_steps.specs.declared.pipes.Ends.{Ends}
use Rattle.ws_steps.specs.declared.pipes.PipeOperation.{PipeOperation}
use Rattle.ws_steps.specs.declared.promises.Micro.{Micro}
use Rattle.ws_steps.specs.declared.promises.Reaction.{Reaction}
use Rattle.ws_steps.specs.declared.byte.ByteOperation.{ByteOperation}
use Rattle.ws_steps.specs.declared.port.PortOperation.{PortOperation}
use Rattle.ws_steps.specs.declared.tee.TeeOperation.{TeeOperation}
use Rattle.ws_steps.specs.declared.transform.Halves.{Halves}
use Rattle.ws_steps.specs.declared.transform.TransformId.{TransformId}
use Rattle.ws_steps.specs.declared.transform.TransformOperation.{TransformOperation}
use Rattle.ws_steps.specs.declared.writable.WritableOperation.{WritableOperation}
use Rattle.ws_steps.specs.declared.readable.ReadableOperation.{ReadableOperation}
use Rattle.ws_steps.specs.Effects.{Out}
use Rattle.ws_steps.specs.Bytes as byte
use Rattle.ws_steps.specs.Cross as cross
use Rattle.ws_steps.specs.Operations.{readable_operation, byte_readable_operation, byte_operation, pipe_operation, writable_operation, transform_operation, tee_operation, port_operation}
use Rattle.ws_steps.specs.Pipes as pipe
use Rattle.ws_steps.specs.Promises.{Entry, Table, with_entry, fresh, settle, answer, react, follow, unfollow, queue_micro, tell, watch, use_this, use_gift, next_job, after_next_job}
use Rattle.ws_steps.specs.Readable as readable
use Rattle.ws_steps.specs.Slots as realm
use Rattle.ws_steps.specs.Slots.{Done, with_promises}
use Rattle.ws_steps.specs.Tee as tee
use Rattle.ws_steps.specs.Transform as transform
use Rattle.ws_steps.specs.Turns.{row, performed}
use Rattle.ws_steps.specs.Writable as writable
use Rattle.ws_alike.specs.Named.{in_option, in_use, in_gift, in_jobs, in_table, in_readable, in_readable_operation, in_pipe, in_writable, in_writable_operation, in_transform, in_transform_operation, in_tee, in_tee_operation, in_port, in_port_operation, in_byte_operation, in_effect, in_effects, in_slots}

-- another entry stands for promise p, whichever, or none
abbrev pub changed : PromiseId → Option Entry → Out → Out
changed p x out = record out { promises = with_entry p x out.promises }

-- an operation f on promises other than p doesn't look at p, and leaves it alone
abbrev pub IsBlind : PromiseId → (Table → Table) → Type 0
IsBlind p f = (x : Option Entry) (t : Table) → p.0 < length t.entries → f (with_entry p x t) ≡ with_entry p x (f t)

-- each operation on promises, where it is of another promise than p
pub record OperationsAreBlind (p : PromiseId) : Type 0 where
  pub fresh : IsBlind p fresh
  pub settle : (q : PromiseId) (o : Result Plain Plain) → q.0 ≢ p.0 → IsBlind p (settle q o)
  pub answer : (q : PromiseId) (o : Outcome) → q.0 ≢ p.0 → IsBlind p (answer q o)
  pub react : (q : PromiseId) (r : Reaction) → q.0 ≢ p.0 → IsBlind p (react q r)
  pub follow : (q r : PromiseId) → q.0 ≢ p.0 → IsBlind p (follow q r)
  pub unfollow : (q : PromiseId) → q.0 ≢ p.0 → IsBlind p (unfollow q)
  pub queue_micro : (m : Micro) → IsBlind p (queue_micro m)
  pub tell : (e : Event) → IsBlind p (tell e)
  pub watch : (q : PromiseId) → q.0 ≢ p.0 → IsBlind p (watch q)
  pub use_this : (q : PromiseId) (u : Use) → q.0 ≢ p.0 → in_use p u ≡ 0 → IsBlind p (λ t. use_this q t u)
  pub use_gift : (g : Gift) (u : Use) → in_gift p g ≡ 0 → in_use p u ≡ 0 → IsBlind p (use_gift g u)
  -- where no job names p
  pub job : (x : Option Entry) (t : Table) → p.0 < length t.entries → in_jobs p t.jobs ≡ 0
      → (next_job (with_entry p x t) ≡ next_job t)
      × (after_next_job (with_entry p x t) ≡ with_entry p x (after_next_job t))

abbrev pub EachOperationIsBlind : Type 0
EachOperationIsBlind = (p : PromiseId) → OperationsAreBlind p

-- how promises stand in a value: the value with another entry in the place of p's, how often it names p, and how many
-- numbers were given
pub record View (A : Type 0) : Type 0 where
  pub change : PromiseId → Option Entry → A → A
  pub names : PromiseId → A → ℕ
  pub promises : A → ℕ

-- f doesn't look at p, and leaves it alone, unnamed as it was
pub record LeavesAlone (A : Type 0) (view : View A) (p : PromiseId) (f : A → A) (a : A) : Type 0 where
  pub blind : (x : Option Entry) → f (view.change p x a) ≡ view.change p x (f a)
  pub unnamed : view.names p (f a) ≡ 0
  pub more : view.promises a ≤ view.promises (f a)

-- a kind of record: its operations work on the slots of one, and on what is outside it. `names` tells how often slots
-- name p
pub record Kind (A S : Type 0) : Type 0 where
  pub slots : A → S
  pub out : A → Out
  pub put : S → Out → A
  pub names : PromiseId → S → ℕ

abbrev pub outside : PromiseId → Out → ℕ
outside p out = in_effects p out.effects + in_table p out.promises

abbrev pub view_of : {A S : Type 0} → Kind A S → View A
view_of kind =
    record {
      change = λ p x a. kind.put (kind.slots a) (changed p x (kind.out a));
      names = λ p a. kind.names p (kind.slots a) + outside p (kind.out a);
      promises = λ a. length (kind.out a).promises.entries;
    }

-- an operation leaves each promise alone that neither the slots, the effects so far and the table name nor it itself; how
-- often it names one, `names` tells
abbrev pub LeavesOthersAlone : {A S : Type 0} → Kind A S → (PromiseId → ℕ) → (A → A) → Type 0
LeavesOthersAlone {A = A} kind names f =
    (p : PromiseId) (a : A) → p.0 < (view_of kind).promises a → (view_of kind).names p a + names p ≡ 0
    → LeavesAlone A (view_of kind) p f a

abbrev pub readables : Kind readable.Acts readable.Slots
readables =
    record {
      slots = λ a. a.slots;
      out = λ a. a.out;
      put = λ s out. record { slots = s; out = out };
      names = in_readable;
    }

abbrev pub EachReadableOperationIsBlind : Type 0
EachReadableOperationIsBlind =
    (i : StreamId) (operation : ReadableOperation)
    → LeavesOthersAlone readables (λ p. in_readable_operation p operation) (readable_operation i operation)

abbrev pub bytes : Kind byte.Acts byte.Slots
bytes =
    record {
      slots = λ a. a.slots;
      out = λ a. a.out;
      put = λ s out. record { slots = s; out = out };
      names = λ p s. in_readable p s.stream;
    }

abbrev pub EachByteOperationIsBlind : Type 0
EachByteOperationIsBlind =
    (i : StreamId)
    → ((operation : ReadableOperation)
    → LeavesOthersAlone bytes (λ p. in_readable_operation p operation) (byte_readable_operation i operation))
    × ((operation : ByteOperation)
    → LeavesOthersAlone bytes (λ p. in_byte_operation p operation) (byte_operation i operation))

abbrev pub writables : Kind writable.Acts writable.Slots
writables =
    record {
      slots = λ a. a.slots;
      out = λ a. a.out;
      put = λ s out. record { slots = s; out = out };
      names = in_writable;
    }

abbrev pub EachWritableOperationIsBlind : Type 0
EachWritableOperationIsBlind =
    (i : StreamId) (operation : WritableOperation)
    → LeavesOthersAlone writables (λ p. in_writable_operation p operation) (writable_operation i operation)

abbrev pub transforms : Kind transform.Acts transform.Slots
transforms =
    record {
      slots = λ a. a.slots;
      out = λ a. a.out;
      put = λ s out. record { slots = s; out = out };
      names = in_transform;
    }

abbrev pub EachTransformOperationIsBlind : Type 0
EachTransformOperationIsBlind =
    (i : TransformId) (halves : Halves) (operation : TransformOperation)
    → LeavesOthersAlone transforms (λ p. in_transform_operation p operation) (transform_operation i halves operation)

abbrev pub tees : Kind tee.Acts tee.Slots
tees =
    record {
      slots = λ a. a.slots;
      out = λ a. a.out;
      put = λ s out. record { slots = s; out = out };
      names = in_tee;
    }

abbrev pub EachTeeOperationIsBlind : Type 0
EachTeeOperationIsBlind =
    (i : TeeId) (operation : TeeOperation)
    → LeavesOthersAlone tees (λ p. in_tee_operation p operation) (tee_operation i operation)

abbrev pub ports : Kind cross.Acts cross.Slots
ports =
    record {
      slots = λ a. a.slots;
      out = λ a. a.out;
      put = λ s out. record { slots = s; out = out };
      names = in_port;
    }

abbrev pub EachPortOperationIsBlind : Type 0
EachPortOperationIsBlind =
    (i : PortId) (clones : Bool) (operation : PortOperation)
    → LeavesOthersAlone ports (λ p. in_port_operation p operation) (port_operation i clones operation)

abbrev pub pipes : Kind pipe.Acts pipe.Slots
pipes =
    record {
      slots = λ a. a.slots;
      out = λ a. a.out;
      put = λ s out. record { slots = s; out = out };
      names = in_pipe;
    }

-- what a pipe looks at of its ends: the promises of its destination's writer and of its pending abort. Its operations name
-- none
abbrev pub in_ends : PromiseId → Ends → ℕ
in_ends p ends = in_option p ends.dest_ready + in_option p ends.dest_abort

abbrev pub EachPipeOperationIsBlind : Type 0
EachPipeOperationIsBlind =
    (i : PipeId) (ends : Ends) (operation : PipeOperation)
    → LeavesOthersAlone pipes (λ p. in_ends p ends) (pipe_operation i ends operation)

-- the effects of a realm, one at a time, and until none is left

abbrev pub slots_changed : PromiseId → Option Entry → realm.Slots → realm.Slots
slots_changed p x s = with_promises (with_entry p x s.promises) s

abbrev pub done_changed : PromiseId → Option Entry → Done → Done
done_changed p x d = record d { slots = slots_changed p x d.slots }

pub record StaysBlind (p : PromiseId) (f : realm.Slots → Done) (s : realm.Slots) : Type 0 where
  pub blind : (x : Option Entry) → f (slots_changed p x s) ≡ done_changed p x (f s)
  pub unnamed : in_slots p (f s).slots + in_effects p (f s).caused ≡ 0
  pub more : length s.promises.entries ≤ length (f s).slots.promises.entries

abbrev pub EachRowIsBlind : Type 0
EachRowIsBlind =
    (p : PromiseId) (e : Effect) (s : realm.Slots) → p.0 < length s.promises.entries → in_slots p s + in_effect p e ≡ 0
    → StaysBlind p (row e) s

pub record PerformedBlind (p : PromiseId) (d : Done) : Type 0 where
  pub blind : (x : Option Entry) → performed (done_changed p x d) ≡ slots_changed p x (performed d)
  pub unnamed : in_slots p (performed d) ≡ 0
  pub more : length d.slots.promises.entries ≤ length (performed d).promises.entries

abbrev pub EachPerformanceIsBlind : Type 0
EachPerformanceIsBlind =
    (p : PromiseId) (d : Done) → p.0 < length d.slots.promises.entries → in_slots p d.slots + in_effects p d.caused ≡ 0
    → PerformedBlind p d
