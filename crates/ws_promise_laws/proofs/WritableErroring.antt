-- What the backpressure, the rejections and the erroring of a writable stream keep: no promise that isn't open is settled.
use Rattle.std.proofs.Common.{◌≡◌, ℕ, ◌+◌, Bool, true, false, not, ◌&&◌, is_some, if◌then◌else◌, List, [], ◌∷◌, Option, Some, None, Result, Ok, Err, refl, sym, arith, ◌≤◌}
use Rattle.ws_value.specs.declared.ids.PromiseId.{PromiseId}
use Rattle.ws_value.specs.declared.ids.StreamId.{StreamId}
use Rattle.ws_value.specs.declared.value.Plain.{Plain}
use Rattle.ws_value.specs.declared.value.Plain.TheVariants.{Undefined}
use Rattle.ws_steps.specs.declared.{effects.Effect.{Effect}, effects.Effect.TheVariants.{AbortAlgorithm}, writable.PendingAbort.{PendingAbort}}
use Rattle.ws_steps.specs.declared.{writable.WritableState.TheVariants.{Erroring}, writable.Writer.{Writer}}
use Rattle.ws_steps.specs.Promises.{Table, is_pending_at, settle, fresh_settled, next_id}
use Rattle.ws_steps.specs.Writable.{Acts, with_promises, causing, is_writable, is_closing, is_in_flight, has_backpressure, has_ended, reject_all, ensure_rejected, differs, change_ready, ready_for, with_backpressure, update_backpressure, refresh_backpressure, reject_close, reject_closed, reject_close_and_closed, abort_by, finish_abort, fail_writes, finish_erroring, reject_ready, start_erroring, deal_with_rejection, controller_error_if_needed}
use Rattle.ws_laws.proofs.Tables.{either}
use Rattle.ws_laws.proofs.Truth.{false_true, not_false, and_left, and_right}
use Rattle.ws_promise_laws.proofs.Tokens.{names, of_effect, in_effects, in_effects-append}
use Rattle.ws_promise_laws.proofs.Holds.{Holds, when, whole, holds-less}
use Rattle.ws_promise_laws.proofs.Settling.{holds-settle, holds-settle_pending, holds-pending}
use Rattle.ws_promise_laws.proofs.Settling.{holds-fresh, holds-fresh_settled}
use Rattle.ws_promise_laws.proofs.Streams.{Calm, of_closed, of_ready, in_list, is_alive, is_awaited, in_asked, in_writable, loose_in, Writes}

-- how often a promise stands firmly and loosely in all
abbrev pub firm : (PromiseId → ℕ) → Acts → PromiseId → ℕ
firm f a x = f x + (in_writable x a.slots + in_effects x a.out.effects)

abbrev pub loose : (PromiseId → ℕ) → Acts → PromiseId → ℕ
loose l a x = l x + loose_in x a.slots

-- what is left where the ready promise may have been settled, though the stream now awaits it
abbrev pub Unready : (f l : PromiseId → ℕ) → Acts → Type 0
Unready f l a =
    Holds (λ x. f x + ((in_asked x a.slots + (when (is_alive a.slots) (of_closed x a.slots.writer))) + in_effects x a.out.effects))
    (λ x. l x + (when (not (is_alive a.slots)) (of_closed x a.slots.writer) + of_ready x a.slots.writer)) a.out.promises

pub unready : (f l : PromiseId → ℕ) (a : Acts) → Writes f l a → Unready f l a
unready f l a k = holds-less _ _ _ _ a.out.promises k.holds (λ x. omega arith) (λ x. let n = whole (is_awaited a.slots) (of_ready x a.slots.writer) in omega arith)

-- nothing is settled, and no promise stands more often than it did and was given
pub writes-less : (f l g : PromiseId → ℕ) (a b : Acts) → b.out.promises ≡ a.out.promises → ((x : PromiseId) → firm f b x ≤ firm f a x + g x)
    → ((x : PromiseId) → firm f b x + loose l b x ≤ (firm f a x + g x) + loose l a x) → Calm b.slots → Writes (λ x. f x + g x) l a → Writes f l b
writes-less f l g a b e m n c k = record {
  holds =
      rw e
      (holds-less (firm (λ x. f x + g x) a) (loose l a) (firm f b) (loose l b) a.out.promises k.holds (λ x. let o = m x in omega arith) (λ x. let o = n x in omega arith));
  calm = c;
}

-- where nothing is given

pub given : (f l : PromiseId → ℕ) (a : Acts) → Writes f l a → Writes (λ x. f x + 0) l a
given f l a k = record { holds = holds-less _ _ _ _ a.out.promises k.holds (λ x. omega arith) (λ x. omega arith); calm = k.calm }

pub writes-quiet : (f l : PromiseId → ℕ) (a b : Acts) → b.out.promises ≡ a.out.promises → ((x : PromiseId) → firm f b x ≤ firm f a x)
    → ((x : PromiseId) → firm f b x + loose l b x ≤ firm f a x + loose l a x) → Calm b.slots → Writes f l a → Writes f l b
writes-quiet f l a b e m n c k = writes-less f l (λ x. 0) a b e (λ x. let o = m x in omega arith) (λ x. let o = n x in omega arith) c (given f l a k)

-- an effect takes over what it is to settle
pub causing-keeps : (f l : PromiseId → ℕ) (e : Effect) (a : Acts) → Writes (λ x. f x + of_effect x e) l a → Writes f l (causing e a)
causing-keeps f l e a k =
    writes-less f l (λ x. of_effect x e) a (causing e a) refl (λ x. let n = in_effects-append x a.out.effects (e ∷ []) in omega arith)
    (λ x. let n = in_effects-append x a.out.effects (e ∷ []) in omega arith) k.calm k

-- a promise that stood elsewhere is settled
pub settle-keeps : (f l : PromiseId → ℕ) (p : PromiseId) (o : Result Plain Plain) (a : Acts) → Writes (λ x. f x + names x p) l a
    → Writes f l (with_promises (settle p o a.out.promises) a)
settle-keeps f l p o a k = record { holds = holds-settle _ _ _ _ p o a.out.promises k.holds (λ x. omega arith) (λ x. omega arith); calm = k.calm }

-- backpressure

ready_changes : (f l : PromiseId → ℕ) (a : Acts) (w : Writer) (b : Bool) → a.slots.writer ≡ Some w → differs b a.slots.backpressure ≡ true → is_writable a.slots.state ≡ true → is_closing a.slots ≡ false
    → Writes f l a → Writes f l (with_backpressure b (change_ready w a b))
ready_changes f l a w true e d s c k = record { holds = holds-fresh _ _ _ _ a.out.promises k.holds (λ x. grind arith) (λ x. grind arith); calm = k.calm }
ready_changes f l a w false e d s c k = record { holds = holds-settle _ _ _ _ w.ready (Ok Undefined) a.out.promises k.holds (λ x. grind arith) (λ x. grind arith); calm = k.calm }

ready_for-keeps : (f l : PromiseId → ℕ) (b : Bool) (a : Acts) (w : Option Writer) → a.slots.writer ≡ w → is_writable a.slots.state ≡ true → is_closing a.slots ≡ false
    → Writes f l a → Writes f l (with_backpressure b (ready_for b a w))
ready_for-keeps f l b a None e s c k = writes-quiet f l a (with_backpressure b a) refl (λ x. grind arith) (λ x. grind arith) k.calm k
ready_for-keeps f l b a (Some w) e s c k =
    either (λ (z : Acts). Writes f l (with_backpressure b z)) (differs b a.slots.backpressure) (change_ready w a b) a (λ d. ready_changes f l a w b e d s c k)
    (λ d. writes-quiet f l a (with_backpressure b a) refl (λ x. grind arith) (λ x. grind arith) k.calm k)

pub refresh_backpressure-keeps : (f l : PromiseId → ℕ) (a : Acts) → Writes f l a → Writes f l (refresh_backpressure a)
unfolding refresh_backpressure update_backpressure
refresh_backpressure-keeps f l a k =
    let closing : Bool = is_closing a.slots in
    let writable : Bool = is_writable a.slots.state in
    either (Writes f l) (not closing && writable) (update_backpressure (has_backpressure a.slots) a) a
    (λ e. ready_for-keeps f l (has_backpressure a.slots) a a.slots.writer refl (and_right (not closing) writable e) (not_false closing (and_left (not closing) writable e)) k)
    (λ e. k)

-- the rejections of a stream that has ended

reject_close-keeps : (f l : PromiseId → ℕ) (a : Acts) (p : Option PromiseId) → a.slots.close_request ≡ p → has_ended a.slots.state ≡ true → Writes f l a → Writes f l (reject_close a p)
reject_close-keeps f l a None e d k = k
reject_close-keeps f l a (Some p) e d k = record { holds = holds-settle _ _ _ _ p (Err a.slots.stored_error) a.out.promises k.holds (λ x. grind arith) (λ x. grind arith); calm = k.calm }

reject_closed-keeps : (f l : PromiseId → ℕ) (a : Acts) (w : Option Writer) → a.slots.writer ≡ w → has_ended a.slots.state ≡ true → Writes f l a → Writes f l (reject_closed a w)
reject_closed-keeps f l a None e d k = k
reject_closed-keeps f l a (Some w) e d k = record {
  holds = holds-settle_pending (firm f a) (loose l a) w.closed (Err a.slots.stored_error) a.out.promises (λ x. grind arith) k.holds;
  calm = k.calm;
}

pub reject_close_and_closed-keeps : (f l : PromiseId → ℕ) (a : Acts) → has_ended a.slots.state ≡ true → Writes f l a → Writes f l (reject_close_and_closed a)
unfolding reject_close_and_closed
reject_close_and_closed-keeps f l a d k =
    let b : Acts = reject_close a a.slots.close_request in
    reject_closed-keeps f l b b.slots.writer refl (grind arith) (reject_close-keeps f l a a.slots.close_request refl d k)

-- the stream is errored

reject_all-keeps : (f l : PromiseId → ℕ) (e : Plain) (ps : List PromiseId) (t : Table) → Holds (λ x. f x + in_list x ps) l t → Holds f l (reject_all e ps t)
reject_all-keeps f l e [] t k = holds-less _ _ _ _ t k (λ x. omega arith) (λ x. omega arith)
reject_all-keeps f l e (p ∷ ps) t k =
    reject_all-keeps f l e ps (settle p (Err e) t) (holds-settle (λ x. f x + in_list x (p ∷ ps)) l (λ x. f x + in_list x ps) l p (Err e) t k (λ x. omega arith) (λ x. omega arith))

fail_writes-keeps : (f l : PromiseId → ℕ) (a : Acts) → is_some a.slots.close_in_flight ≡ false → Unready f l a → Writes f l (fail_writes a)
fail_writes-keeps f l a c k =
    let b : Acts = fail_writes a in
    record {
      holds =
          reject_all-keeps (firm f b) (loose l b) a.slots.stored_error a.slots.write_requests a.out.promises
          (holds-less _ _ (λ x. firm f b x + in_list x a.slots.write_requests) (loose l b) a.out.promises k (λ x. grind arith) (λ x. grind arith));
      calm = λ e. c;
    }

abort_by-keeps : (me : StreamId) (f l : PromiseId → ℕ) (abort : PendingAbort) (a : Acts) (was : Bool) → has_ended a.slots.state ≡ true → Writes (λ x. f x + names x abort.promise) l a → Writes f l (abort_by me abort a was)
abort_by-keeps me f l abort a true d k =
    reject_close_and_closed-keeps f l (with_promises (settle abort.promise (Err a.slots.stored_error) a.out.promises) a) d
    (settle-keeps f l abort.promise (Err a.slots.stored_error) a k)
abort_by-keeps me f l abort a false d k = causing-keeps f l (AbortAlgorithm me abort.reason abort.promise) a k

finish_abort-keeps : (me : StreamId) (f l : PromiseId → ℕ) (a : Acts) (abort : Option PendingAbort) → a.slots.pending_abort ≡ abort → has_ended a.slots.state ≡ true → Writes f l a → Writes f l (finish_abort me a abort)
finish_abort-keeps me f l a None e d k = reject_close_and_closed-keeps f l a d k
finish_abort-keeps me f l a (Some abort) e d k =
    abort_by-keeps me f l abort (record a { slots = record a.slots { pending_abort = None } }) abort.was_already_erroring d
    (record { holds = holds-less _ _ _ _ a.out.promises k.holds (λ x. grind arith) (λ x. grind arith); calm = k.calm })

pub finish_erroring-keeps : (me : StreamId) (f l : PromiseId → ℕ) (a : Acts) → is_some a.slots.close_in_flight ≡ false → Unready f l a → Writes f l (finish_erroring me a)
unfolding finish_erroring
finish_erroring-keeps me f l a c k =
    let b : Acts = fail_writes a in
    finish_abort-keeps me f l b b.slots.pending_abort refl refl (fail_writes-keeps f l a c k)

-- the stream starts to be erroring

-- the writer whose ready promise is rejected
abbrev with_ready : Acts → Writer → PromiseId → Table → Acts
with_ready a w p t = with_promises t (record a { slots = record a.slots { writer = Some (record w { ready = p }) } })

ready-keeps : (f l : PromiseId → ℕ) (r : Plain) (a : Acts) (w : Writer) (pending : Bool) → pending ≡ is_pending_at w.ready a.out.promises → a.slots.writer ≡ Some w
    → is_writable a.slots.state ≡ false → has_ended a.slots.state ≡ false → Unready f l a
    → Writes f l (with_ready a w (if pending then w.ready else next_id a.out.promises) (if pending then settle w.ready (Err r) a.out.promises else fresh_settled (Err r) a.out.promises))
ready-keeps f l r a w true i e s alive k = record {
  holds = holds-pending _ _ _ _ w.ready (Err r) a.out.promises (sym i) k (λ x. grind arith) (λ x. grind arith) (λ x. grind arith);
  calm = λ h. false_true (has_ended a.slots.state) h alive;
}
ready-keeps f l r a w false i e s alive k = record {
  holds = holds-fresh_settled _ _ _ _ (Err r) a.out.promises k (λ x. grind arith) (λ x. grind arith);
  calm = λ h. false_true (has_ended a.slots.state) h alive;
}

pub reject_ready-keeps : (f l : PromiseId → ℕ) (r : Plain) (a : Acts) (w : Option Writer) → a.slots.writer ≡ w → is_writable a.slots.state ≡ false → has_ended a.slots.state ≡ false
    → Unready f l a → Writes f l (reject_ready r a w)
unfolding ensure_rejected
reject_ready-keeps f l r a None e s alive k = record {
  holds = holds-less _ _ _ _ a.out.promises k (λ x. grind arith) (λ x. grind arith);
  calm = λ h. false_true (has_ended a.slots.state) h alive;
}
reject_ready-keeps f l r a (Some w) e s alive k = ready-keeps f l r a w (is_pending_at w.ready a.out.promises) refl e s alive k

pub start_erroring-keeps : (me : StreamId) (f l : PromiseId → ℕ) (r : Plain) (a : Acts) → has_ended a.slots.state ≡ false → Unready f l a → Writes f l (start_erroring me r a)
unfolding start_erroring
start_erroring-keeps me f l r a alive k =
    let c : Acts = record a { slots = record a.slots { state = Erroring; stored_error = r } } in
    let b : Acts = reject_ready r c a.slots.writer in
    let still : Unready f l c = holds-less _ _ _ _ a.out.promises k (λ x. grind arith) (λ x. grind arith) in
    let kept : Writes f l b = reject_ready-keeps f l r c a.slots.writer refl refl refl still in
    either (Writes f l) (not (is_in_flight b.slots) && b.slots.started) (finish_erroring me b) b (λ e. finish_erroring-keeps me f l b (grind arith) (unready f l b kept)) (λ e. kept)

pub deal_with_rejection-keeps : (me : StreamId) (f l : PromiseId → ℕ) (e : Plain) (a : Acts) → is_some a.slots.close_in_flight ≡ false → Unready f l a → Writes f l (deal_with_rejection me e a)
unfolding deal_with_rejection
deal_with_rejection-keeps me f l e a c k =
    either (Writes f l) (is_writable a.slots.state) (start_erroring me e a) (finish_erroring me a)
    (λ w. start_erroring-keeps me f l e a (grind arith) k) (λ w. finish_erroring-keeps me f l a c k)

pub controller_error_if_needed-keeps : (me : StreamId) (f l : PromiseId → ℕ) (e : Plain) (a : Acts) → Writes f l a → Writes f l (controller_error_if_needed me e a)
unfolding controller_error_if_needed
controller_error_if_needed-keeps me f l e a k =
    either (Writes f l) (is_writable a.slots.state) (start_erroring me e a) a (λ w. start_erroring-keeps me f l e a (grind arith) (unready f l a k)) (λ w. k)
