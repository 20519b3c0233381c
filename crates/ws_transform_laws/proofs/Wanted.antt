-- Over every run, where a transform stream has no backpressure its readable half wants a chunk.
use Rattle.ws_steps.specs.declared.calls.StartBy.TheVariants.{Now}
use Rattle.ws_transform_laws.proofs.Backpressure.{pressed}
use Rattle.ws_value.specs.declared.ids.PromiseId.{PromiseId}
use Rattle.std.proofs.Common.{◌≡◌, inl, inr, Bool, true, false, not, ◌||◌, if◌then◌else◌, List, [], ◌∷◌, ◌++◌, Option, Some, None, slice_get, refl, sym, subst, ap, ◌∙◌, arith}
use Rattle.ws_value.specs.declared.ids.{StreamId.{StreamId}}
use Rattle.ws_steps.specs.declared.effects.{Effect.{Effect}, Owner.{Owner}, Owner.TheVariants.{Host, HalfOf, BranchOf, EndOf}}
use Rattle.ws_steps.specs.declared.effects.Effect.TheVariants.{Readable as OnReadable, CancelAlgorithm}
use Rattle.ws_steps.specs.declared.readable.{ReadRequest.{ReadRequest}, ReadableOperation.{ReadableOperation}, ReadableOperation.TheVariants.{InitializeReader, ReleaseReader, Enqueue}}
use Rattle.ws_steps.specs.declared.transform.TransformId.{TransformId}
use Rattle.ws_steps.specs.Histories.{is_same}
use Rattle.ws_steps.specs.Readable.{waiting}
use Rattle.ws_steps.specs.ReadableHistory.{Reads, no_reads, reads_then, operation_reads, effect_reads}
use Rattle.ws_steps.specs.Slots.{Slots, Stream, ReadableStream, ByteStream, WritableStream, is_readable_stream, is_byte_stream, as_readable, as_source, owner_at, readable_at}
use Rattle.ws_steps.specs.Transform as transform
use Rattle.ws_steps.specs.Turns.{row}
use Rattle.ws_laws.proofs.Ended.{Ended, ended-stays}
use Rattle.ws_laws.proofs.Halves.{Halved, halved-stays}
use Rattle.ws_laws.proofs.Shapes.{ReadableOf, WritableOf, TransformShape, stream_shape, map-there, stream_shapes, transform_shapes, transform_shape, owner-told, row-transform_shapes}
use Rattle.ws_laws.proofs.Tables.{eq_numbers, is_same-refl}
use Rattle.ws_writable_laws.proofs.Shape.{one_if, all-append, weight}
use Rattle.ws_transform_laws.specs.TransformHistory.{is_same_transform}
use Rattle.ws_transform_laws.proofs.Cancelling.{is_half, is_cancelled, mine, cancels, none_of, none-owned}
use Rattle.ws_transform_laws.proofs.Entering.{Reads as IsRead, reads-default}
use Rattle.ws_transform_laws.proofs.Halving.{map-from}
use Rattle.ws_transform_laws.proofs.Pressing.{calm-row, own-row, enters-row}
use Rattle.ws_transform_laws.proofs.Shutting.{can, Uncancelled, Fine, row-uncancelled, row-fine, row-weight}
use Rattle.ws_transform_laws.proofs.Telling.{owned-stays, IsCalm, Front, Claim, Fits, Fronts, Enters, Starts, IsStarting, Opens, calm-tells, mild-row, told-row}
use Rattle.ws_transform_laws.proofs.Wanting.{Finds}
use Rattle.std.proofs.Common.{is_some}
use Rattle.ws_transform_laws.proofs.Telling.{Calms}
use Rattle.ws_transform_laws.proofs.Telling.{unwanted}
use Rattle.ws_steps.specs.declared.effects.Effect.TheVariants.{StartAlgorithm}
use Rattle.ws_steps.specs.declared.effects.Effect.TheVariants.{Give}
use Rattle.ws_transform_laws.proofs.Telling.{calms-on}

module _ (t : TransformId) (r : StreamId) where
  cancels-same : (s : Slots) (e f : Effect) → cancels t (row e s).slots f ≡ cancels t s f
  cancels-same s e (CancelAlgorithm j c p) = ap one_if (owned-stays t r s e j)
  cancels-same s e _ = refl

  none-same : (s : Slots) (e : Effect) (es : List Effect) → none_of t (row e s).slots es ≡ none_of t s es
  none-same s e [] = refl
  none-same s e (f ∷ es) = let a = cancels-same s e f in let b = none-same s e es in rw (a, b) refl

  -- what is known of a transform stream and its readable half, where no read of that was released
  pub record Known (h : Reads) (s : Slots) (es : List Effect) : Type 0 where
    pub halved : Halved s
    pub ended : Ended s
    pub unmade : slice_get (transform_shapes s) t.0 ≡ None → (weight (is_cancelled t) s.promises ≡ 0) × (none_of t s es ≡ 0)
    pub uncancelled : IsRead t r s → Uncancelled t r s es
    pub fine : IsRead t r s → Fine t r (not (can r s)) es
    pub fits : h.released ≡ [] → IsRead t r s → Fits t r s es

  pub read-there : (s : Slots) → IsRead t r s → (x : transform.Slots) × ((slice_get s.transforms t.0 ≡ Some x) × (x.readable ≡ r))
  read-there s h = let x = map-from transform_shape s.transforms t.0 h.0 h.1.0 in (x.0, (x.1.0, ap (λ (y : TransformShape). y.readable) x.1.1 ∙ h.1.1))

  read-owner : (s : Slots) → Halved s → IsRead t r s → owner_at r s ≡ HalfOf t
  read-owner s halved h =
      let at : slice_get (stream_shapes s) r.0 ≡ Some (ReadableOf (HalfOf t)) = rw (← h.1.1) (halved.halves t h.0 h.1.0).0 in
      owner-told s.streams r.0 ∙ rw at refl

  -- a reader that is released had no read that waited
  released-none : (s : Slots) → (effect_reads r (OnReadable r ReleaseReader) s).released ≡ [] → waiting (readable_at r s) ≡ []
  released-none s e = by (slice_get s.streams r.0) (rw (is_same-refl r) at e)
    where
      by : (o : Option Stream) → (if is_readable_stream o || is_byte_stream o then operation_reads ReleaseReader (as_source o) else no_reads).released ≡ [] → waiting (as_readable o) ≡ []
      by None e = refl
      by (Some (ReadableStream x)) e = e
      by (Some (ByteStream b)) e = refl
      by (Some (WritableStream w)) e = refl

  never : {A : Type 0} (b : Bool) → b ≡ false → b ≡ true → A
  never b e f = cc

  finds : (s : Slots) (operation : ReadableOperation) → IsCalm t r s (OnReadable r operation) → (effect_reads r (OnReadable r operation) s).released ≡ [] → Finds r operation (readable_at r s)
  finds s (InitializeReader p) c e = never (is_same r r) c (is_same-refl r)
  finds s ReleaseReader c e = released-none s e
  finds s (Enqueue v) c e = never (is_same r r) c (is_same-refl r)
  finds s _ c e = tt

  abbrev After : Slots → List Effect → Type 0
  After s [] = Unit {0}
  After s (e ∷ es) = Fits t r (row e s).slots ((row e s).caused ++ es)

  front-row : (s : Slots) (e : Effect) (es : List Effect) → Halved s → Ended s → IsRead t r s → Fine t r (not (can r s)) (e ∷ es) → (effect_reads r e s).released ≡ [] → Front t r s (e ∷ es) → Claim t r s (e ∷ es) → After s (e ∷ es)
  front-row s e es halved ended h f rel (inl k) claim =
      calm-row t r e s es halved ended h f (λ same operation is. finds s operation (subst (IsCalm t r s) is k.0) (subst (λ (x : Effect). (effect_reads r x s).released ≡ []) is rel)) k.0 k.1 (claim (calm-tells t r s (e ∷ es) k)).0
  front-row s e es halved ended h f rel (inr (inl k)) claim =
      let x = read-there s h in mild-row t r e s es x.0 (read-owner s halved h) x.1.0 k.0 k.1 claim
  front-row s e es halved ended h f rel (inr (inr k)) claim =
      let x = read-there s h in told-row t r e s es x.0 x.1.0 x.1.1 k.0 k.1

  starts-row : (s : Slots) (e : Effect) (p : PromiseId) (rest : List Effect) → IsStarting t r e → is_some (readable_at r s).reader ≡ false → Calms t r s rest → (unwanted t r s ≡ true → pressed t s ≡ true)
      → After s (e ∷ OnReadable r (InitializeReader p) ∷ rest)
  unfolding row
  starts-row s (StartAlgorithm j step Now) p rest st none k claim = Starts _ p rest refl tt none k claim
  starts-row s (Give gift u) p rest st none k claim = Opens p rest refl none (calms-on t r s (Give gift u) rest k) claim
  starts-row s e p rest st none k claim = absurd st

  fits-row : (s : Slots) (e : Effect) (es : List Effect) → Halved s → Ended s → IsRead t r s → Fine t r (not (can r s)) (e ∷ es) → (effect_reads r e s).released ≡ [] → Fits t r s (e ∷ es) → After s (e ∷ es)
  fits-row s e es halved ended h f rel (Fronts k claim) = front-row s e es halved ended h f rel k claim
  fits-row s e es halved ended h f rel (Enters v rest eq k) = subst (After s) (sym eq) (enters-row t r v s rest k)
  fits-row s e es halved ended h f rel (Starts d p rest eq st none k claim) = subst (After s) (sym eq) (starts-row s d p rest st none k claim)
  fits-row s e es halved ended h f rel (Opens p rest eq none k claim) = subst (After s) (sym eq) (own-row t r (InitializeReader p) s rest (reads-default t r s halved h) none k claim)

  -- a transform stream that isn't made yet
  none-owns : (s : Slots) → Halved s → slice_get (transform_shapes s) t.0 ≡ None → (j : StreamId) → mine t s j ≡ false
  none-owns s halved none j = by (slice_get s.streams j.0) refl
    where
      absent : (o : Owner) → ((u : TransformId) → o ≡ HalfOf u → (x : TransformShape) × (slice_get (transform_shapes s) u.0 ≡ Some x)) → is_half t o ≡ false
      absent Host k = refl
      absent (HalfOf u) k = by_same (is_same_transform t u) refl
        where
          by_same : (b : Bool) → b ≡ is_same_transform t u → is_same_transform t u ≡ false
          by_same false e = sym e
          by_same true e =
              let at : t.0 ≡ u.0 = eq_numbers t.0 u.0 (sym e) in
              let x = k u refl in
              let both : ◌≡◌ {A = Option TransformShape} None (Some x.0) = sym none ∙ (ap (slice_get (transform_shapes s)) at ∙ x.1) in cc
      absent (BranchOf u half) k = refl
      absent (EndOf c) k = refl

      by : (o : Option Stream) → o ≡ slice_get s.streams j.0 → mine t s j ≡ false
      by None e = rw (← e) refl
      by (Some (ByteStream b)) e = rw (← e) refl
      by (Some (ReadableStream x)) e =
          rw (← e) (absent x.owner (λ u is. let h = halved.readable j u (map-there stream_shape s.streams j.0 (ReadableStream x) (sym e) ∙ ap (λ (o : Owner). Some (ReadableOf o)) is) in (h.0, h.1.0)))
      by (Some (WritableStream x)) e =
          rw (← e) (absent x.owner (λ u is. let h = halved.writable j u (map-there stream_shape s.streams j.0 (WritableStream x) (sym e) ∙ ap (λ (o : Owner). Some (WritableOf o)) is) in (h.0, h.1.0)))

  unmade-row : (s : Slots) (e : Effect) (es : List Effect) → Halved s → slice_get (transform_shapes s) t.0 ≡ None → (weight (is_cancelled t) s.promises ≡ 0) × (none_of t s (e ∷ es) ≡ 0)
      → (weight (is_cancelled t) (row e s).slots.promises ≡ 0) × (none_of t (row e s).slots ((row e s).caused ++ es) ≡ 0)
  unmade-row s e es halved none k =
      let n : cancels t s e ≡ 0 = let a = k.1 in omega arith in
      let c = none-owned t e s (none-owns s halved none) n in
      let more = all-append (cancels t (row e s).slots) (row e s).caused es in
      let same = none-same s e es in
      let same_caused = none-same s e (row e s).caused in
      (row-weight t r e s n k.0, let a = k.1 in omega (arith, more, same, same_caused, c, a))

  pub row-known : (h : Reads) (s : Slots) (e : Effect) (es : List Effect) → Known h s (e ∷ es) → Known (reads_then h (effect_reads r e s)) (row e s).slots ((row e s).caused ++ es)
  row-known h s e es k =
      let shapes = row-transform_shapes e s in
      let before : IsRead t r (row e s).slots → IsRead t r s = λ m. (m.0, (rw shapes at m.1.0, m.1.1)) in
      record {
        halved = halved-stays.row s e es k.halved;
        ended = ended-stays.row s e es k.ended;
        unmade = λ none. unmade-row s e es k.halved (rw shapes at none) (k.unmade (rw shapes at none));
        uncancelled = λ m. row-uncancelled t r e s es k.halved (before m) (k.uncancelled (before m)) (none-same s e es) (none-same s e (row e s).caused);
        fine = λ m. row-fine t r e s es (before m) (k.uncancelled (before m)) (k.fine (before m));
        fits = λ rel m.
            let both = append_no_requests h.released (effect_reads r e s).released rel in
            fits-row s e es k.halved k.ended (before m) (k.fine (before m)) both.1 (k.fits both.0 (before m));
      }
    where
      append_no_requests : (xs ys : List ReadRequest) → xs ++ ys ≡ [] → (xs ≡ []) × (ys ≡ [])
      append_no_requests [] ys e = (refl, e)
      append_no_requests (x ∷ xs) ys e = cc
