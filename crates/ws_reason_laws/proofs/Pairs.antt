-- The two reasons that a tee keeps (`each_pair_stays`): a reason is kept only where there is none.
use Rattle.std.proofs.Common.{◌≡◌, ℕ, zero, suc, Bool, true, false, not, ◌&&◌, List, [], ◌∷◌, ◌++◌, Option, Some, None, Ok, Err, slice_get, slice_set, refl, sym, ap, ◌∙◌}
use Rattle.ws_value.specs.declared.ids.TeeId.{TeeId}
use Rattle.ws_value.specs.declared.value.Plain.{Plain}
use Rattle.ws_value.specs.declared.value.Value.{Value}
use Rattle.ws_steps.specs.declared.effects.Effect.{Effect}
use Rattle.ws_steps.specs.declared.effects.Effect.TheVariants.{Tee}
use Rattle.ws_steps.specs.declared.tee.Half.{Half}
use Rattle.ws_steps.specs.declared.tee.Half.TheVariants.{First, Second}
use Rattle.ws_steps.specs.declared.tee.TeeOperation.{TeeOperation}
use Rattle.ws_steps.specs.declared.tee.TeeOperation.TheVariants as names
use Rattle.ws_steps.specs.declared.tee.TeePhase.{TeePhase}
use Rattle.ws_steps.specs.declared.tee.TeePhase.TheVariants.{Resting, Reading, Over}
use Rattle.ws_steps.specs.Operations.{tee_operation}
use Rattle.ws_steps.specs.Run.{Entry, run}
use Rattle.ws_steps.specs.Slots.{Slots, as_tee, found, on_tee_at, pair_at}
use Rattle.ws_steps.specs.Tee as tee
use Rattle.ws_steps.specs.Tee.{Acts, pair, pair_of, reason_of, with_reason, is_wanted, fulfil_cancel, pull_in, pull_branch, keep_chunk, close_in, source_closed, source_errored, hand_held, hand_chunk, rested, again, handed, resolve_cancel, cancel_source, if_both, cancel_by, cancel_branch, reader_settled}
use Rattle.ws_steps.specs.TeeLaws.{EachPairStays}
use Rattle.ws_steps.specs.Turns.{row}
use Rattle.ws_laws.proofs.Begin.{Makes, begin-makes}
use Rattle.ws_laws.proofs.Apart.{row-tees}
use Rattle.ws_laws.proofs.Tables.{either}
use Rattle.ws_laws.proofs.Walker.{Stays, run-stays}

module _ (q : Plain × Plain) where
  -- this pair is that of these slots
  abbrev Has : tee.Slots → Type 0
  Has x = pair x ≡ Some q

  abbrev Keeps : Acts → Acts → Type 0
  Keeps a b = Has a.slots → Has b.slots

  -- an operation keeps it

  fulfil-keeps : (a : Acts) → Keeps a (fulfil_cancel a)
  fulfil-keeps a h = either (λ (z : Acts). Has z.slots) (is_wanted a.slots && not a.slots.answered) _ a (λ e. h) (λ e. h)

  pull-keeps : (me : TeeId) (a : Acts) (phase : TeePhase) → Keeps a (pull_in me a phase)
  pull-keeps me a Resting h = h
  pull-keeps me a Reading h = h
  pull-keeps me a Over h = h

  close-keeps : (a : Acts) (phase : TeePhase) → Keeps a (close_in a phase)
  close-keeps a Resting h = fulfil-keeps _ h
  close-keeps a Reading h = fulfil-keeps _ h
  close-keeps a Over h = h

  hand-keeps : (me : TeeId) (a : Acts) (held : Option Value) → Keeps a (hand_held me a held)
  hand-keeps me a None h = h
  hand-keeps me a (Some v) h = h

  again-keeps : (me : TeeId) (a : Acts) (asked : Bool) → Keeps a (again me a asked)
  unfolding pull_branch
  again-keeps me a true h = pull-keeps me a a.slots.phase h
  again-keeps me a false h = h

  -- there is no pair where a reason is wanting
  second-wanting : {A : Type 0} (first : Option Plain) → pair_of first None ≡ Some q → A
  second-wanting None h = cc
  second-wanting (Some r) h = cc

  wanting : {A : Type 0} (half : Half) (x : tee.Slots) → reason_of half x ≡ None → Has x → A
  wanting First x none h = let wrong : None ≡ Some q = sym (ap (λ o. pair_of o x.reason2) none) ∙ h in cc
  wanting Second x none h = second-wanting x.reason1 (sym (ap (pair_of x.reason1) none) ∙ h)

  cancel-keeps : (me : TeeId) (half : Half) (r : Plain) (a : Acts) (reason : Option Plain) → reason_of half a.slots ≡ reason → Keeps a (cancel_by me half r a reason)
  cancel-keeps me half r a (Some old) is h = h
  cancel-keeps me half r a None is h = wanting half a.slots is h

  operation-keeps : (me : TeeId) (operation : TeeOperation) (a : Acts) → Keeps a (tee_operation me operation a)
  unfolding pull_branch keep_chunk source_closed source_errored hand_chunk handed cancel_branch reader_settled
  operation-keeps me names.PullBranch a h = pull-keeps me a a.slots.phase h
  operation-keeps me (names.KeepChunk v) a h = h
  operation-keeps me names.SourceClosed a h = close-keeps a a.slots.phase h
  operation-keeps me names.SourceErrored a h = h
  operation-keeps me names.HandChunk a h = hand-keeps me a a.slots.held h
  operation-keeps me names.Handed a h = again-keeps me _ a.slots.read_again h
  operation-keeps me (names.CancelBranch half r u) a h = cancel-keeps me half r a (reason_of half a.slots) refl h
  operation-keeps me (names.ReaderSettled (Ok v)) a h = h
  operation-keeps me (names.ReaderSettled (Err r)) a h = fulfil-keeps _ h

  -- in a list of tees

  abbrev HasAt : ℕ → List tee.Slots → Type 0
  HasAt n xs = Has (as_tee (slice_get xs n))

  put-keeps : (xs : List tee.Slots) (n m : ℕ) (x y : tee.Slots) → slice_get xs m ≡ Some x → (Has x → Has y) → HasAt n xs → HasAt n (slice_set xs m y)
  put-keeps [] n m x y is keeps h = h
  put-keeps (z ∷ zs) zero zero x y is keeps h = keeps (sym (ap (λ o. pair (as_tee o)) is) ∙ h)
  put-keeps (z ∷ zs) zero (suc m) x y is keeps h = h
  put-keeps (z ∷ zs) (suc n) zero x y is keeps h = h
  put-keeps (z ∷ zs) (suc n) (suc m) x y is keeps h = put-keeps zs n m x y is keeps h

  more-keeps : (xs : List tee.Slots) (n : ℕ) (x : tee.Slots) → HasAt n xs → HasAt n (xs ++ x ∷ [])
  more-keeps [] n x h = cc
  more-keeps (z ∷ zs) zero x h = h
  more-keeps (z ∷ zs) (suc n) x h = more-keeps zs n x h

  module _ (t : TeeId) where
    abbrev It : Slots → Type 0
    It s = pair_at t s ≡ Some q

    tee-keeps : (me : TeeId) (operation : TeeOperation) (s : Slots) (o : Option tee.Slots) → slice_get s.tees me.0 ≡ o → It s → It (on_tee_at (tee_operation me operation) me s o).slots
    tee-keeps me operation s None is h = h
    tee-keeps me operation s (Some x) is h =
        put-keeps s.tees t.0 me.0 x _ is (operation-keeps me operation (record { slots = x; out = found s })) h

    pub row-keeps : (e : Effect) (s : Slots) → It s → It (row e s).slots
    unfolding row
    row-keeps (Tee me operation) s h = tee-keeps me operation s (slice_get s.tees me.0) refl h
    row-keeps e s h = rw (row-tees e s tt) h

    makes : Makes It
    makes = record {
      promise = λ s h. h;
      locks = λ s locks h. h;
      hosts = λ s hosts h. h;
      pipe = λ s source dest prevent signal promise h. h;
      signal = λ s h. h;
      transform = λ s kind writable readable change h. h;
      tee = λ s source first second cancel h. more-keeps s.tees t.0 (tee.set_up source first second cancel) h;
      port = λ s side stream backpressure h. h;
      readable = λ s owner mark size h. h;
      bytes = λ s mark auto h. h;
      byob_requests = λ s requests h. h;
      writable = λ s owner mark size h. h;
    }

    stays : Stays (λ s es. It s)
    stays = record {
      row = λ s e es h. row-keeps e s h;
      call = λ s c h. begin-makes It makes c s h;
      job = λ s job is h. h;
      answered = λ s p h. h;
      older = λ s h. h;
    }

    pub run-keeps : (entries : List Entry) (s : Slots) → It s → It (run entries s)
    run-keeps entries s h = run-stays (λ s es. It s) stays (λ z k. k) entries s h

pub each_pair_stays : EachPairStays
each_pair_stays s entries t q h = run-keeps q t entries s h
