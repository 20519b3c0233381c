-- A branch of a tee takes chunks until there is a reason why it doesn't: at each moment it does and nothing that stands on the agenda ends it, or
-- there is such a reason.
use Rattle.std.proofs.Common.{◌≡◌, ◌⊎◌, inl, inr, ⊎_elim, ℕ, zero, suc, Bool, true, false, ◌||◌, nat_eq, is_some, List, [], ◌∷◌, ◌++◌, map, Option, Some, None, Ok, Err, slice_get, refl, sym, ap, subst, ◌∙◌, arith}
use Rattle.ws_value.specs.declared.ids.{PromiseId.{PromiseId}, StreamId.{StreamId}, TeeId.{TeeId}}
use Rattle.ws_value.specs.declared.value.{Plain.{Plain}}
use Rattle.ws_steps.specs.declared.effects.{Effect.{Effect}, Effect.TheVariants.{Readable as OnReadable, Byte, Writable as OnWritable, Tee as OnTee}, Owner.{Owner}, Owner.TheVariants.{BranchOf}}
use Rattle.ws_steps.specs.declared.promises.{Job.TheVariants.{Reaction as ReactionJob}, Step.TheVariants.{TeeEnds}}
use Rattle.ws_steps.specs.declared.readable.ReadableOperation.{ReadableOperation}
use Rattle.ws_steps.specs.declared.readable.ReadableOperation.TheVariants as reads
use Rattle.ws_steps.specs.declared.readable.ReadableOperation.TheVariants.{Enqueue}
use Rattle.ws_steps.specs.declared.readable.ReadableState.TheVariants.{Errored}
use Rattle.ws_steps.specs.declared.tee.{Half.{Half}, TeeOperation.{TeeOperation}, TeePhase.TheVariants.{Over}}
use Rattle.ws_steps.specs.declared.tee.TeeOperation.TheVariants as ops
use Rattle.ws_steps.specs.Histories.{is_same}
use Rattle.ws_steps.specs.Operations.{readable_operation, byte_operation, writable_operation, tee_operation}
use Rattle.ws_steps.specs.Promises.{next_job}
use Rattle.ws_steps.specs.Readable as readable
use Rattle.ws_steps.specs.Readable.{can_close_or_enqueue}
use Rattle.ws_steps.specs.Run.{after_event}
use Rattle.ws_steps.specs.Slots.{Slots, Stream, ReadableStream, ByteStream, WritableStream, Done, empty, found, is_readable_stream, is_byte_stream, readable_at, as_readable, put_readable, on_readable}
use Rattle.ws_steps.specs.Tee as tee
use Rattle.ws_steps.specs.Turns.{row, on_source}
use Rattle.ws_laws.proofs.Lists.{Each, each-append}
use Rattle.ws_laws.proofs.Apart.{row-streams}
use Rattle.ws_laws.proofs.Shapes.{StreamShape, ReadableOf, branch_of, stream_shape, stream_shapes, tee_shape}
use Rattle.ws_laws.proofs.Tables.{is_same-refl, same_id, readable_acts, on_readable-same, on_source-other, on_byte-look, on_writable-look}
use Rattle.ws_laws.proofs.Walker.{Stays}
use Rattle.ws_tee_port_laws.proofs.tees.Enders.{NoEnd, own-none, other-none, row-none}
use Rattle.ws_tee_port_laws.proofs.tees.Fronts.{shape}
use Rattle.ws_tee_port_laws.proofs.tees.Gifts.{Gifts}
use Rattle.ws_tee_port_laws.proofs.tees.Owns.{closed-over}
use Rattle.ws_tee_port_laws.proofs.tees.Reasons.{View, Aside, Other, Own, view, Reason, IsLostBy, IsOver, reason-goes}
use Rattle.ws_tee_port_laws.proofs.tees.Shutting.{any_cancels, cancels-first, is_ender, operation-open}
use Rattle.ws_tee_port_laws.proofs.tees.Starts.{IsMine, IsCalm, Hears}
use Rattle.ws_tee_port_laws.proofs.tees.Tied.{Tied}

-- what is to be known of the closed promise of a tee's reader: it is rejected only where the source has errored, and the tee holds nothing then
pub record IsEnding (t : TeeId) (E : Slots → List Effect → Type 0) : Type 0 where
  pub goes : Stays E
  pub rests : (s : Slots) → E s [] → E (after_event s) []
  pub begins : E empty []
  pub rejected : (s : Slots) (r : Plain) (d : Option PromiseId) (x : tee.Slots) → E s [] → next_job s.promises ≡ Some (ReactionJob (TeeEnds t) (Err r) d) → slice_get s.tees t.0 ≡ Some x
      → ((readable_at x.source s).state ≡ Errored) × (x.held ≡ None)

shape-kinds : (xs : List Stream) (n : ℕ) (w : Owner) → slice_get (map stream_shape xs) n ≡ Some (ReadableOf w) → (is_byte_stream (slice_get xs n) ≡ false) × (is_readable_stream (slice_get xs n) ≡ true)
shape-kinds [] n w e = cc
shape-kinds (ReadableStream r ∷ xs) zero w e = (refl, refl)
shape-kinds (ByteStream r ∷ xs) zero w e = cc
shape-kinds (WritableStream r ∷ xs) zero w e = cc
shape-kinds (x ∷ xs) (suc n) w e = shape-kinds xs n w e

module _ (t : TeeId) (half : Half) (b : StreamId) where
  abbrev IsOpen : Slots → Type 0
  IsOpen s = can_close_or_enqueue (readable_at b s) ≡ true

  abbrev pub Open : Slots → List Effect → tee.Slots → Type 0
  Open s es x = (IsOpen s × Each (NoEnd t b) es) ⊎ Reason t half b s es x

  module _ (s : Slots) (tied : Tied s) (x : tee.Slots) (there : slice_get s.tees t.0 ≡ Some x) (is : branch_of half (tee_shape x) ≡ b) where
    mine : slice_get (stream_shapes s) b.0 ≡ Some (ReadableOf (BranchOf t half))
    mine = shape t half b s tied x there is

    is-mine : IsMine t half b s
    is-mine w at = by w (sym at ∙ mine)
      where
        by : (w : StreamShape) → ◌≡◌ {A = Option StreamShape} (Some w) (Some (ReadableOf (BranchOf t half))) → w ≡ ReadableOf (BranchOf t half)
        by w e = cc

    -- operations of the branch

    own-operation : (operation : ReadableOperation) → is_ender operation ≡ false → IsOpen s
        → IsOpen (on_source operation b s).slots ⊎ (any_cancels t half b (on_source operation b s).caused ≡ true)
    own-operation operation n o =
        let kinds = shape-kinds s.streams b.0 (BranchOf t half) mine in
        let d : Done = on_source operation b s in
        let a : readable.Acts = readable_operation b operation (readable_acts b s) in
        let same : d ≡ on_readable (readable_operation b operation) b s = rw (kinds.0) refl in
        let now = on_readable-same (readable_operation b operation) b s kinds.1 in
        let at : readable_at b d.slots ≡ a.slots = ap (λ (z : Done). readable_at b z.slots) same ∙ ap as_readable now in
        let put : on_readable (readable_operation b operation) b s ≡ put_readable b s a = rw (kinds.1) refl in
        let caused : d.caused ≡ a.out.effects = ap (λ (z : Done). z.caused) (same ∙ put) in
        ⊎_elim (λ k. inl (ap can_close_or_enqueue at ∙ k)) (λ k. inr (ap (any_cancels t half b) caused ∙ k)) (operation-open t half b operation (readable_acts b s) n o)

    no-ender : (operation : ReadableOperation) → NoEnd t b (OnReadable b operation) → IsCalm t half b (OnReadable b operation) → is_ender operation ≡ false
    no-ender reads.Close n c = let wrong : true ≡ false = sym (is_same-refl b) ∙ n in cc
    no-ender (reads.Error r) n c = let wrong : true ≡ false = sym (is_same-refl b) ∙ n in cc
    no-ender (reads.StartSettled (Err r)) n c = let wrong : true ≡ false = sym (is_same-refl b) ∙ c in cc
    no-ender (reads.PullSettled (Err r)) n c = let wrong : true ≡ false = sym (is_same-refl b) ∙ c in cc
    no-ender (reads.StartSettled (Ok v)) n c = refl
    no-ender (reads.PullSettled (Ok v)) n c = refl
    no-ender operation n c = refl

    source-open : (j : StreamId) (operation : ReadableOperation) (same : Bool) → is_same b j ≡ same → NoEnd t b (OnReadable j operation) → IsCalm t half b (OnReadable j operation) → IsOpen s
        → IsOpen (row (OnReadable j operation) s).slots ⊎ (any_cancels t half b (row (OnReadable j operation) s).caused ≡ true)
    unfolding row
    source-open j operation false e n c o = inl (rw (ap as_readable (on_source-other operation j s b e)) o)
    source-open j operation true e n c o =
        subst (λ (i : StreamId). NoEnd t b (OnReadable i operation) → IsCalm t half b (OnReadable i operation) → IsOpen (on_source operation i s).slots ⊎ (any_cancels t half b (on_source operation i s).caused ≡ true)) (same_id b j e)
        (λ n c. own-operation operation (no-ender operation n c) o) n c

    -- other effects leave it
    abbrev IsAway : Effect → Type 0
    IsAway (OnReadable j operation) = ⊥
    IsAway _ = Unit {0}

    away-open : (e : Effect) → IsAway e → IsOpen s → IsOpen (row e s).slots
    unfolding row
    away-open (OnReadable j operation) n o = absurd n
    away-open (Byte j operation) n o = rw (on_byte-look as_readable (λ x y. refl) (byte_operation j operation) j s b (is_same b j) refl) o
    away-open (OnWritable j operation) n o = rw (on_writable-look as_readable (λ x y. refl) (writable_operation j operation) j s b (is_same b j) refl) o
    away-open e n o = rw (ap (λ (xs : List Stream). as_readable (slice_get xs b.0)) (row-streams e s tt)) o

    -- each effect

    effect-open : (e : Effect) → NoEnd t b e → IsCalm t half b e → IsOpen s → IsOpen (row e s).slots ⊎ (any_cancels t half b (row e s).caused ≡ true)
    effect-open (OnReadable j operation) n c o = source-open j operation (is_same b j) refl n c o
    effect-open e n c o = inl (away-open e tt o)

    or-right : (p q : Bool) → q ≡ true → (p || q) ≡ true
    or-right true q e = refl
    or-right false q e = e

    joined : (e : Effect) (es : List Effect) (y : tee.Slots) → IsOpen (row e s).slots ⊎ (any_cancels t half b (row e s).caused ≡ true) → Each (NoEnd t b) (row e s).caused → Each (NoEnd t b) es
        → Open (row e s).slots ((row e s).caused ++ es) y
    joined e es y (inl o) n m = inl (o, each-append (NoEnd t b) (row e s).caused es n m)
    joined e es y (inr c) n m = inr (IsLostBy (or-right (is_some (tee.reason_of half y)) _ (cancels-first t half b (row e s).caused es c)))

    one_self : nat_eq t.0 t.0 ≡ true
    one_self = grind arith

    own-open : (operation : TeeOperation) (es : List Effect) (y : tee.Slots) → (tee_operation t operation (record { slots = x; out = found s })).slots ≡ y
        → (row (OnTee t operation) s).caused ≡ (tee_operation t operation (record { slots = x; out = found s })).out.effects → NoEnd t b (OnTee t operation) → Each (NoEnd t b) es → IsOpen s
        → Open (row (OnTee t operation) s).slots ((row (OnTee t operation) s).caused ++ es) y
    own-open ops.SourceClosed es y moved caused n m o = inr (IsOver (subst (λ (z : tee.Slots). z.phase ≡ Over) moved (closed-over t (record { slots = x; out = found s }))))
    own-open (ops.ReaderSettled (Err r)) es y moved caused n m o = let wrong : true ≡ false = sym one_self ∙ n in cc
    own-open operation es y moved caused n m o =
        joined (OnTee t operation) es y (inl (away-open (OnTee t operation) tt o))
        (subst (λ (cs : List Effect). Each (NoEnd t b) cs) (sym caused) (own-none t half b operation (record { slots = x; out = found s }) tt tt)) m

    open-goes : (e : Effect) (es : List Effect) (y : tee.Slots) → View t s e x y → IsCalm t half b e → IsOpen s → NoEnd t b e → Each (NoEnd t b) es → Open (row e s).slots ((row e s).caused ++ es) y
    open-goes e es y (Aside same no_tee) c o n m = joined e es y (effect-open e n c o) (row-none t half b s tied x there is e no_tee) m
    open-goes e es y (Other u operation i apart same) c o n m =
        subst (λ (k : Effect). Open (row k s).slots ((row k s).caused ++ es) y) (sym i)
        (joined (OnTee u operation) es y (inl (away-open (OnTee u operation) tt o)) (other-none t half b s tied x there is u operation apart) m)
    open-goes e es y (Own operation i moved caused) c o n m =
        subst (λ (k : Effect). NoEnd t b k → (row k s).caused ≡ (tee_operation t operation (record { slots = x; out = found s })).out.effects → Open (row k s).slots ((row k s).caused ++ es) y) (sym i)
        (λ n caused. own-open operation es y moved caused n m o) n caused

    pub row-open : (e : Effect) (es : List Effect) (y : tee.Slots) → slice_get (row e s).slots.tees t.0 ≡ Some y → Gifts t s (e ∷ es) → Hears t half b s (e ∷ es) → Open s (e ∷ es) x
        → Open (row e s).slots ((row e s).caused ++ es) y
    row-open e es y now g h (inl k) = open-goes e es y (view t s e x y there now) h.calm.0 k.0 k.1.0 k.1.1
    row-open e es y now g h (inr r) = inr (reason-goes t half b s tied x there is e es y (view t s e x y there now) g r)
