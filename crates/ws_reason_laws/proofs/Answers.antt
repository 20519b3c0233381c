-- What a call begins with gives no reasons but those that the call gives, or brings through a transform stream.
use Rattle.std.proofs.Common.{◌≡◌, ℕ, ◌+◌, true, nat_lt, if◌then◌else◌, List, [], ◌∷◌, ◌++◌, length, Option, Some, None, refl, ap, ◌∙◌, arith}
use Rattle.ws_value.specs.declared.ids.LockId.{LockId}
use Rattle.ws_value.specs.declared.ids.StreamId.{StreamId}
use Rattle.ws_value.specs.declared.value.Plain.{Plain}
use Rattle.ws_steps.specs.declared.calls.Call.{Call}
use Rattle.ws_steps.specs.declared.calls.Call.TheVariants.{MakeReadable, MakeBytes, MakeWritable, MakeTransform, Tee, GetReader, GetByob, GetWriter, Cancel, CancelBy, Read, ReadInto, Write, Close, CloseBy, Abort, AbortBy, Closed, Ready, Release, Enqueue, Finish, Fail, Terminate, Request, Respond, Desired, DesiredBy, Pipe, MakeSignal, Trigger, Send, Open, Deliver, Settle, State, Step}
use Rattle.ws_steps.specs.declared.effects.Owner.{Owner}
use Rattle.ws_steps.specs.declared.effects.Owner.TheVariants.{Host, HalfOf, BranchOf, EndOf}
use Rattle.ws_steps.specs.declared.locks.Lock.{Lock}
use Rattle.ws_steps.specs.declared.locks.Lock.TheVariants.{ByobReader, Reader, Writer as WriterLock, ReleasedWriter, Inner}
use Rattle.ws_steps.specs.declared.transform.Kind.{Kind}
use Rattle.ws_steps.specs.declared.writable.Writer.{Writer}
use Rattle.ws_steps.specs.Begun.{Begun, rejected, unlocked_readable}
use Rattle.ws_steps.specs.LockCalls.{cancel, by_reader, of_writer, release, release_writer}
use Rattle.ws_steps.specs.ControllerCalls.{terminate_by, fail_readable_by, fail_writable_by}
use Rattle.ws_steps.specs.Calls.{begin}
use Rattle.ws_steps.specs.Effects.{type_error}
use Rattle.ws_steps.specs.Promises.{next_id}
use Rattle.ws_steps.specs.ReadableLooks as readable_looks
use Rattle.ws_steps.specs.Transform as transform
use Rattle.ws_steps.specs.Slots.{Slots, most_streams, has_readable, has_byte, has_source, has_writable, readable_at, source_at, writable_at, lock_at}
use Rattle.ws_laws.proofs.Into.{into-either}
use Rattle.ws_laws.proofs.Tables.{either}
use Rattle.ws_reason_laws.specs.Origins.{is_half, to_half, to_half_of, through_of}
use Rattle.ws_reason_laws.specs.Reasons.{failure_of}
use Rattle.ws_reason_laws.proofs.Begins.{bad_begun, of_kinds, kinds-append}
use Rattle.ws_reason_laws.proofs.Halved.{Halved, halved-source}
use Rattle.ws_reason_laws.proofs.Known.{Badness}
use Rattle.ws_reason_laws.proofs.Untransformed.{call-same}
use Rattle.ws_reason_laws.proofs.Weights.{bad_of, of_kind}

pub bad-append : (bad : Plain → ℕ) (xs ys : List Plain) → bad_of bad (xs ++ ys) ≡ bad_of bad xs + bad_of bad ys
bad-append bad [] ys = omega arith
bad-append bad (x ∷ xs) ys = let h = bad-append bad xs ys in omega (arith, h)

-- what a call gives by which something fails, and what it brings through a transform stream
abbrev pub bad_call : Badness → Call → Slots → ℕ
bad_call bad c s = bad_of bad.of (failure_of c) + bad_of bad.of (through_of c s)

fails-readable : (bad : Badness) (i : StreamId) (r : Plain) (s : Slots) (owner : Owner) → bad.of r ≡ 0 → bad_begun bad (fail_readable_by r i s owner) ≡ 0
fails-readable bad i r s owner h = grind (arith, h)

fails-writable : (bad : Badness) (i : StreamId) (r : Plain) (s : Slots) (owner : Owner) → bad.of r ≡ 0 → bad_begun bad (fail_writable_by r i s owner) ≡ 0
fails-writable bad i r s owner h = grind (arith, h)

released : (bad : Badness) (l : LockId) (s : Slots) (lock : Option Lock) → bad_begun bad (release l s lock) ≡ 0
released bad l s None = refl
released bad l s (Some (Reader None closed)) = refl
released bad l s (Some (Reader (Some i) closed)) = grind arith
released bad l s (Some (ByobReader None closed)) = refl
released bad l s (Some (ByobReader (Some i) closed)) = grind arith
released bad l s (Some (WriterLock i)) = by (writable_at i s).writer
  where
    by : (w : Option Writer) → bad_begun bad (of_writer (release_writer l i) s w) ≡ 0
    by None = refl
    by (Some w) = grind arith
released bad l s (Some (ReleasedWriter w)) = refl
released bad l s (Some Inner) = refl

module _ (bad : Badness) (s : Slots) (halved : Halved bad.half s) where
  cancel-good : (i : StreamId) (r : Plain) → has_source i s ≡ true → bad_of bad.of (to_half i r s) ≡ 0 → bad_begun bad (cancel r i s) ≡ 0
  cancel-good i r there h = let e = halved-source bad.half s halved i there in grind (arith, e, h)

  cancelled-good : (i : StreamId) (r : Plain) → bad_of bad.of (through_of (Cancel i r) s) ≡ 0 → bad_begun bad (unlocked_readable i rejected (cancel r) s) ≡ 0
  cancelled-good i r h =
      either (λ (d : Begun). bad_begun bad d ≡ 0) (has_source i s) _ _
      (λ there. either (λ (d : Begun). bad_begun bad d ≡ 0) (readable_looks.is_locked (source_at i s)) _ _ (λ e. refl) (λ e. cancel-good i r there (rw e at h))) (λ e. refl)

  cancelled_by-good : (r : Plain) (lock : Option Lock) → bad_of bad.of (to_half_of r s lock) ≡ 0 → bad_begun bad (by_reader (cancel r) rejected s lock) ≡ 0
  cancelled_by-good r None h = refl
  cancelled_by-good r (Some (Reader (Some i) closed)) h = either (λ (d : Begun). bad_begun bad d ≡ 0) (has_source i s) _ _ (λ there. cancel-good i r there h) (λ e. refl)
  cancelled_by-good r (Some (Reader None closed)) h = refl
  cancelled_by-good r (Some (ByobReader (Some i) closed)) h = either (λ (d : Begun). bad_begun bad d ≡ 0) (has_source i s) _ _ (λ there. cancel-good i r there h) (λ e. refl)
  cancelled_by-good r (Some (ByobReader None closed)) h = refl
  cancelled_by-good r (Some (WriterLock i)) h = refl
  cancelled_by-good r (Some (ReleasedWriter w)) h = refl
  cancelled_by-good r (Some Inner) h = refl

  terminated-good : (owner : Owner) → bad_of bad.of (if is_half owner then type_error ∷ [] else []) ≡ 0 → bad_begun bad (terminate_by s owner) ≡ 0
  terminated-good Host h = refl
  terminated-good (HalfOf t) h = omega (arith, h)
  terminated-good (BranchOf t half) h = refl
  terminated-good (EndOf c) h = refl

-- what a call makes of transform streams
pub begun-kinds : (bad : Badness) (c : Call) (s : Slots) → bad_call bad c s ≡ 0 → of_kinds bad.of s.transforms ≡ 0 → of_kinds bad.of (begin c s).done.slots.transforms ≡ 0
unfolding begin
begun-kinds bad (MakeTransform kind m n start) s h k =
    either (λ (d : Begun). of_kinds bad.of d.done.slots.transforms ≡ 0) (nat_lt (length s.streams + 1) most_streams) _ _
    (λ e. let a = kinds-append bad.of s.transforms (transform.set_up kind (record { 0 = length s.streams }) (record { 0 = length s.streams + 1 }) (next_id s.promises)) in let b = new kind h e in omega (arith, k, a, b)) (λ e. k)
  where
    new : (kind : Kind) → bad_call bad (MakeTransform kind m n start) s ≡ 0 → nat_lt (length s.streams + 1) most_streams ≡ true → of_kind bad.of kind ≡ 0
    new kind h e = grind (arith, h, e)
begun-kinds bad c s h k = ap (of_kinds bad.of) (call-same c s refl) ∙ k

pub begun-good : (bad : Badness) (c : Call) (s : Slots) → Halved bad.half s → bad_call bad c s ≡ 0 → bad_begun bad (begin c s) ≡ 0
unfolding begin
begun-good bad (MakeReadable mark size start) s l h = grind arith
begun-good bad (MakeBytes mark auto start) s l h = grind arith
begun-good bad (MakeWritable mark size start) s l h = grind arith
begun-good bad (MakeTransform kind writable_mark readable_mark start) s l h = grind arith
begun-good bad (Tee i) s l h = grind arith
begun-good bad (GetReader i) s l h = grind arith
begun-good bad (GetByob i) s l h = grind arith
begun-good bad (GetWriter i) s l h = grind arith
begun-good bad (Cancel i reason) s l h = cancelled-good bad s l i reason (omega (arith, h))
begun-good bad (CancelBy l reason) s k h = cancelled_by-good bad s k reason (lock_at l s) (omega (arith, h))
begun-good bad (Read l) s k h = grind arith
begun-good bad (ReadInto l room element least) s k h = into-either (λ b. bad_begun bad b ≡ 0) room element least s refl (λ f. refl) (λ i. refl) (lock_at l s)
begun-good bad (Write l v) s k h = grind arith
begun-good bad (Close i) s l h = grind arith
begun-good bad (CloseBy l) s k h = grind arith
begun-good bad (Abort i reason) s l h = grind (arith, h)
begun-good bad (AbortBy l reason) s k h = grind (arith, h)
begun-good bad (Closed l) s k h = grind arith
begun-good bad (Ready l) s k h = grind arith
begun-good bad (Release l) s k h = released bad l s (lock_at l s)
begun-good bad (Enqueue i v) s l h = grind arith
begun-good bad (Finish i) s l h = grind arith
begun-good bad (Fail i reason) s l h =
    let b : bad.of reason ≡ 0 = given_only h in
    either (λ (d : Begun). bad_begun bad d ≡ 0) (has_readable i s) _ _ (λ e. fails-readable bad i reason s (readable_at i s).owner b)
    (λ e. either (λ (d : Begun). bad_begun bad d ≡ 0) (has_byte i s) _ _ (λ f. omega (arith, b))
    (λ g. either (λ (d : Begun). bad_begun bad d ≡ 0) (has_writable i s) _ _ (λ f. fails-writable bad i reason s (writable_at i s).owner b) (λ f. refl)))
  where
    given_only : bad_call bad (Fail i reason) s ≡ 0 → bad.of reason ≡ 0
    given_only h = grind (arith, h)
begun-good bad (Terminate i) s l h = either (λ (d : Begun). bad_begun bad d ≡ 0) (has_readable i s) _ _ (λ e. terminated-good bad s l (readable_at i s).owner (omega (arith, h))) (λ e. refl)
begun-good bad (Request i) s l h = grind arith
begun-good bad (Respond q b) s l h = grind arith
begun-good bad (Desired i) s l h = grind arith
begun-good bad (DesiredBy l) s k h = grind arith
begun-good bad (Pipe source dest prevent signal) s l h = grind arith
begun-good bad MakeSignal s l h = grind arith
begun-good bad (Trigger a reason) s l h = grind (arith, h)
begun-good bad (Send k) s l h = grind (arith, h)
begun-good bad (Open side) s l h = grind (arith, h)
begun-good bad (Deliver q m) s l h = grind (arith, h)
begun-good bad (Settle h answer) s l g = grind (arith, g)
begun-good bad (State i) s l h = grind arith
begun-good bad Step s l h = grind arith
