-- Where there is no port nothing is given to a stream at the end of one.
use Rattle.std.proofs.Common.{◌≡◌, ℕ, zero, suc, Bool, true, false, ◌||◌, List, [], ◌∷◌, ◌++◌, map, Option, Some, None, slice_get, refl, sym, ap, subst, ◌∙◌, arith}
use Rattle.ws_value.specs.declared.ids.{PortId.{PortId}, StreamId.{StreamId}}
use Rattle.ws_steps.specs.declared.calls.Call.{Call}
use Rattle.ws_steps.specs.declared.effects.Effect.{Effect}
use Rattle.ws_steps.specs.declared.effects.Effect.TheVariants.{Readable, Writable}
use Rattle.ws_steps.specs.declared.effects.Owner.{Owner}
use Rattle.ws_steps.specs.declared.effects.Owner.TheVariants.{Host, HalfOf, BranchOf, EndOf}
use Rattle.ws_steps.specs.declared.port.Side.{Side}
use Rattle.ws_steps.specs.declared.port.Side.TheVariants.{Readable as ReadableSide, Writable as WritableSide}
use Rattle.ws_steps.specs.Calls.{begin}
use Rattle.ws_steps.specs.Cross as cross
use Rattle.ws_steps.specs.Run.{Entry, run}
use Rattle.ws_steps.specs.Slots.{Slots, Stream, ReadableStream, ByteStream, WritableStream, empty, owner_at, owner_of}
use Rattle.ws_steps.specs.Turns.{row}
use Rattle.ws_laws.proofs.Begin.{begin-makes}
use Rattle.ws_laws.proofs.Ended.{Ended, ended-stays, ended-empty, PortShape, port_shape, port_shapes, end_shape, row-port_shapes}
use Rattle.ws_laws.proofs.Shapes.{StreamShape, ReadableOf, WritableOf, stream_shape}
use Rattle.ws_laws.proofs.Walker.{GoesUntold, RestsUntold, run-holds}
use Rattle.ws_reason_laws.specs.Uncloned.{is_end, effect_uncloned, run_uncloned}
use Rattle.ws_reason_laws.proofs.Cloned.{or, or-history}

abbrev NoPort : Slots → Type 0
NoPort s = (c : PortId) (x : PortShape) → slice_get (port_shapes s) c.0 ≡ Some x → ⊥

-- a stream at the end of a port is told by its shape

abbrev IsShaped : Option StreamShape → Type 0
IsShaped o = (c : PortId) × ((side : Side) × (o ≡ Some (end_shape c side)))

readable-shaped : (o owner : Owner) → owner ≡ o → is_end o ≡ true → IsShaped (Some (ReadableOf owner))
readable-shaped (EndOf c) owner f e = (c, (ReadableSide, ap (λ (o : Owner). Some (ReadableOf o)) f))
readable-shaped Host owner f e = cc
readable-shaped (HalfOf t) owner f e = cc
readable-shaped (BranchOf t half) owner f e = cc

writable-shaped : (o owner : Owner) → owner ≡ o → is_end o ≡ true → IsShaped (Some (WritableOf owner))
writable-shaped (EndOf c) owner f e = (c, (WritableSide, ap (λ (o : Owner). Some (WritableOf o)) f))
writable-shaped Host owner f e = cc
writable-shaped (HalfOf t) owner f e = cc
writable-shaped (BranchOf t half) owner f e = cc

end-shaped : (xs : List Stream) (n : ℕ) → is_end (owner_of (slice_get xs n)) ≡ true → IsShaped (slice_get (map stream_shape xs) n)
end-shaped [] n e = cc
end-shaped (ReadableStream r ∷ xs) zero e = readable-shaped r.owner r.owner refl e
end-shaped (ByteStream b ∷ xs) zero e = cc
end-shaped (WritableStream w ∷ xs) zero e = writable-shaped w.owner w.owner refl e
end-shaped (x ∷ xs) (suc n) e = end-shaped xs n e

none-end : (s : Slots) → Ended s → NoPort s → (i : StreamId) → is_end (owner_at i s) ≡ false
none-end s ended n i = by (is_end (owner_at i s)) refl
  where
    by : (b : Bool) → is_end (owner_at i s) ≡ b → is_end (owner_at i s) ≡ false
    by false e = e
    by true e = let p = end-shaped s.streams i.0 e in absurd (n p.0 _ (ended.end i p.0 p.1.0 p.1.1))

told-none : (e : Effect) (s : Slots) → ((i : StreamId) → is_end (owner_at i s) ≡ false) → effect_uncloned e s ≡ false
told-none (Readable i operation) s n = rw (n i) refl
told-none (Writable i operation) s n = rw (n i) refl
told-none _ s n = refl

-- a port stays

more : (xs : List cross.Slots) (n : ℕ) (y : cross.Slots) (x : PortShape) → slice_get (map port_shape xs) n ≡ Some x → slice_get (map port_shape (xs ++ y ∷ [])) n ≡ Some x
more [] n y x e = cc
more (z ∷ xs) zero y x e = e
more (z ∷ xs) (suc n) y x e = more xs n y x e

begun-port : (call : Call) (s : Slots) (c : PortId) (x : PortShape) → slice_get (port_shapes s) c.0 ≡ Some x → slice_get (port_shapes (begin call s).done.slots) c.0 ≡ Some x
begun-port call s c x h = begin-makes (λ z. slice_get (port_shapes z) c.0 ≡ Some x) (record {
  promise = λ z h. h;
  locks = λ z ls h. h;
  hosts = λ z hs h. h;
  pipe = λ z source dest prevent signal promise h. h;
  signal = λ z h. h;
  transform = λ z kind w r change h. h;
  tee = λ z source first second cancel h. h;
  port = λ z side stream backpressure h. more z.ports c.0 (cross.set_up side stream backpressure) x h;
  bytes = λ z mark auto h. h;
  byob_requests = λ z hs h. h;
  readable = λ z o mark size h. h;
  writable = λ z o mark size h. h;
}) call s h

neither : (a b : Bool) → a ≡ false → b ≡ false → (a || b) ≡ false
neither a b e f = grind (arith, e, f)

abbrev None-given : Bool → Slots → List Effect → Type 0
None-given given s es = Ended s × (NoPort s → given ≡ false)

goes : GoesUntold or effect_uncloned None-given
goes = record {
  row = λ given s e es k. (
    ended-stays.row s e es k.0,
    λ n.
        let before : NoPort s = λ c x f. n c x (rw (row-port_shapes e s) f) in
        neither given (effect_uncloned e s) (k.1 before) (told-none e s (none-end s k.0 before)),
  );
  call = λ given s c k. (ended-stays.call s c k.0, λ n. k.1 (λ p x f. n p x (begun-port c s p x f)));
  job = λ given s job is k. (k.0, k.1);
  answered = λ given s p k. (k.0, k.1);
  older = λ given s k. (k.0, k.1);
}

rests : RestsUntold None-given
rests = record { heard = λ given s k. (k.0, k.1) }

pub portless-cloned : (entries : List Entry) → (run entries empty).ports ≡ [] → run_uncloned entries empty ≡ false
portless-cloned entries none =
    (run-holds false or or-history effect_uncloned None-given goes rests entries empty (ended-empty, λ n. refl)).1
    (λ c x f. let g : slice_get (map port_shape []) c.0 ≡ Some x = subst (λ (ps : List cross.Slots). slice_get (map port_shape ps) c.0 ≡ Some x) none f in cc)
