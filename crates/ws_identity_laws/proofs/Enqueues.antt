-- What an identity transform stream enqueues by itself (`each_identity_enqueues`).
use Rattle.std.proofs.Common.{◌≡◌, Bool, true, false, List, [], ◌∷◌, ◌++◌, slice_get, refl, sym, ap, subst, ◌∙◌, append_assoc, append-nil}
use Rattle.ws_value.specs.declared.{ids.StreamId.{StreamId}, value.Value.{Value}}
use Rattle.ws_steps.specs.declared.transform.{Kind.TheVariants.{Identity}, TransformId.{TransformId}}
use Rattle.ws_steps.specs.Laws.{IsPrefixOf}
use Rattle.ws_steps.specs.Readable.{can_close_or_enqueue}
use Rattle.ws_steps.specs.Run.{Entry, begun_by, run, step}
use Rattle.ws_steps.specs.Slots.{Slots, Stream, Done, empty, as_readable}
use Rattle.ws_steps.specs.Transform as transform
use Rattle.ws_steps.specs.Turns.{performed}
use Rattle.ws_steps.specs.WritableHistory.{step_writes, run_writes}
use Rattle.ws_flow.specs.Told.{IsFront}
use Rattle.ws_laws.proofs.Halves.{run-halved, halved-empty}
use Rattle.ws_laws.proofs.Shapes.{transform_shape, map-there}
use Rattle.ws_transform_laws.specs.TransformHistory.{step_enqueued, step_transformed}
use Rattle.ws_transform_laws.proofs.Shutting.{can}
use Rattle.ws_identity_laws.specs.Through.{run_enqueued, Enqueues, EachIdentityEnqueues}
use Rattle.ws_identity_laws.proofs.Acting.{run-last, acted-transformed}
use Rattle.ws_identity_laws.proofs.Taking.{Passes, Took, performed-took, performed-shut, performed-idle}
use Rattle.ws_identity_laws.proofs.Through.{There, there-step, there-begun, stepped, shut-begun, default-begun}

prefix-both : (xs a b : List Value) → IsPrefixOf a b → IsPrefixOf (xs ++ a) (xs ++ b)
prefix-both xs a b (rest, e) = (rest, append_assoc xs a rest ∙ ap (λ vs. xs ++ vs) e)

prefix-more : (a b c : List Value) → IsFront a b → IsPrefixOf (a ++ []) (b ++ c)
prefix-more a b c (rest, e) = (rest ++ c, rw (append-nil a, e) (sym (append_assoc a rest c)))

module _ (t : TransformId) (x : transform.Slots) (identity : x.kind ≡ Identity) where
  abbrev r : StreamId
  r = x.readable

  abbrev w : StreamId
  w = x.writable

  record One (s : Slots) (entry : Entry) : Type 0 where
    all : can r (step s entry) ≡ true → step_enqueued t s entry ≡ (step_writes w s entry).acted
    front : IsFront (step_enqueued t s entry) (step_writes w s entry).acted
    none : can r s ≡ false → (step_enqueued t s entry ≡ []) × (can r (step s entry) ≡ false)

  entry-enqueues : (xs : List Entry) (entry : Entry) → There t x identity (run xs empty) → One (run xs empty) entry
  entry-enqueues xs entry at =
      let s : Slots = run xs empty in
      let d : Done = begun_by s entry in
      let half : Passes t r d.slots = (transform_shape x, (there-begun t x identity entry s at, (refl, identity))) in
      let halved = run-halved xs empty halved-empty in
      let default = default-begun t x identity entry s halved at in
      let took : Took t r d = performed-took t r d half default in
      let acted : (step_writes w s entry).acted ≡ step_transformed t s entry = acted-transformed t w xs entry (transform_shape x, (at, refl)) in
      let after : can r (step s entry) ≡ can r (performed d) = ap (λ (ys : List Stream). can_close_or_enqueue (as_readable (slice_get ys r.0))) (stepped entry s) in
      record {
        all = λ c. took.all (sym after ∙ c) ∙ sym acted;
        front = rw acted took.front;
        none = λ c. let b = shut-begun t x identity entry s halved at c in (performed-idle t r d half b, after ∙ (performed-shut t r d default b).1);
      }

  record Run (entries : List Entry) (s : Slots) : Type 0 where
    all : can r (run entries s) ≡ true → run_enqueued t entries s ≡ (run_writes w entries s).acted
    front : IsPrefixOf (run_enqueued t entries s) (run_writes w entries s).acted
    none : can r s ≡ false → (run_enqueued t entries s ≡ []) × (can r (run entries s) ≡ false)

  differ : {A : Type 0} (b : Bool) → b ≡ false → b ≡ true → A
  differ b e f = cc

  both : (e : Entry) (es : List Entry) (s : Slots) → One s e → Run es (step s e) → Run (e ∷ es) s
  both e es s one rest = record {
    all = λ c.
        let open_ : can r (step s e) ≡ true = still (can r (step s e)) refl c in
        let a = one.all open_ in
        let b = rest.all c in rw (a, b) refl;
    front = by (can r (step s e)) refl;
    none = λ c. let a = one.none c in let b = rest.none a.1 in (rw (a.0, b.0) refl, b.1);
  }
    where
      still : (b : Bool) → b ≡ can r (step s e) → can r (run es (step s e)) ≡ true → can r (step s e) ≡ true
      still true f c = sym f
      still false f c = differ _ (rest.none (sym f)).1 c

      by : (b : Bool) → b ≡ can r (step s e) → IsPrefixOf (run_enqueued t (e ∷ es) s) (run_writes w (e ∷ es) s).acted
      by true f = let a = one.all (sym f) in rw a (prefix-both (step_writes w s e).acted (run_enqueued t es (step s e)) (run_writes w es (step s e)).acted rest.front)
      by false f = let b = (rest.none (sym f)).0 in rw b (prefix-more (step_enqueued t s e) (step_writes w s e).acted (run_writes w es (step s e)).acted one.front)

  run-enqueues : (entries xs : List Entry) → There t x identity (run xs empty) → Run entries (run xs empty)
  run-enqueues [] xs at = record { all = λ c. refl; front = ([], refl); none = λ c. (refl, c) }
  run-enqueues (e ∷ es) xs at =
      let s : Slots = run xs empty in
      let last : run (xs ++ e ∷ []) empty ≡ step s e = run-last xs e empty in
      both e es s (entry-enqueues xs e at) (subst (λ (z : Slots). Run es z) last (run-enqueues es (xs ++ e ∷ []) (subst (λ (z : Slots). There t x identity z) (sym last) (there-step t x identity e s at))))

pub each_identity_enqueues : EachIdentityEnqueues
each_identity_enqueues xs entries t w r is =
    let s : Slots = run xs empty in
    let x : transform.Slots = is.stream in
    let k = run-enqueues t x is.kind entries xs (map-there transform_shape s.transforms t.0 x is.there) in
    subst (λ (a : StreamId). Enqueues t a r xs entries) is.writable (subst (λ (a : StreamId). Enqueues t x.writable a xs entries) is.readable (record { all = k.all; front = k.front }))
