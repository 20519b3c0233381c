-- The chunks that a stream takes in (`each_take_is_told`): once it came to its end, none enters.
use Rattle.std.proofs.Common.{◌≡◌, ◌⊎◌, inl, inr, ℕ, zero, suc, Bool, true, false, ◌||◌, List, [], ◌∷◌, ◌++◌, map, Option, Some, None, slice_get, refl, sym, ap, ◌∙◌, append_assoc, append-nil}
use Rattle.ws_value.specs.declared.{ids.StreamId.{StreamId}, value.Value.{Value}}
use Rattle.ws_steps.specs.declared.calls.Call.{Call}
use Rattle.ws_steps.specs.declared.effects.{Effect.{Effect}}
use Rattle.ws_steps.specs.Calls.{begin}
use Rattle.ws_steps.specs.Histories.{in_step, over}
use Rattle.ws_steps.specs.Readable.{can_close_or_enqueue}
use Rattle.ws_steps.specs.ReadableHistory.{Flow, no_flow, flow_then, effect_flow, run_flow}
use Rattle.ws_steps.specs.Run.{Entry, Called, run}
use Rattle.ws_steps.specs.Slots.{Slots, Stream, ReadableStream, ByteStream, WritableStream, has_byte, has_source, as_source, is_readable_stream, is_byte_stream}
use Rattle.ws_steps.specs.Turns.{row}
use Rattle.ws_flow.specs.Told.{Open, Closed, Told, then_told}
use Rattle.ws_flow.proofs.Told.{then_assoc, then_empty}
use Rattle.ws_laws.proofs.Shapes.{StreamShape, ReadableOf, BytesOf, WritableOf, stream_shape}
use Rattle.ws_laws.proofs.StaysBytes.{row-byte, begin-byte}
use Rattle.ws_laws.proofs.Walker.{IsHistory, GoesUntold, RestsUntold, run-goes_untold}
use Rattle.ws_transform_laws.proofs.Told.{Both, neither, both_then, are_both, over-map}
use Rattle.ws_link_laws.specs.Link.{silence}
use Rattle.ws_identity_laws.specs.Passing.{effect_takes, run_takes}
use Rattle.ws_identity_laws.specs.Told.{EachTakeIsTold}
use Rattle.ws_identity_laws.proofs.Taking.{each-one}
use Rattle.ws_identity_laws.proofs.Takes.{open_at, open-there, each-brings, row-closed}
use Rattle.ws_link_laws.proofs.Hosts.{row-sources}
use Rattle.ws_identity_laws.proofs.Through.{begun-place}

-- whether a stream is readable is told by its shape

abbrev pub shape_readable : Option StreamShape → Bool
shape_readable None = false
shape_readable (Some (ReadableOf o)) = true
shape_readable (Some BytesOf) = false
shape_readable (Some (WritableOf o)) = false

pub readable-told : (xs : List Stream) (n : ℕ) → is_readable_stream (slice_get xs n) ≡ shape_readable (slice_get (map stream_shape xs) n)
readable-told [] n = refl
readable-told (ReadableStream r ∷ xs) zero = refl
readable-told (ByteStream b ∷ xs) zero = refl
readable-told (WritableStream w ∷ xs) zero = refl
readable-told (x ∷ xs) (suc n) = readable-told xs n

module _ (i : StreamId) where
  -- what is told of effects one by one
  record Seen : Type 0 where
    takes : Told Value
    items : List Value

  abbrev nothing : Seen
  nothing = record { takes = silence; items = [] }

  abbrev then_seen : Seen → Seen → Seen
  then_seen f g = record { takes = then_told f.takes g.takes; items = f.items ++ g.items }

  are_seen : IsHistory nothing then_seen
  are_seen = record {
    left = λ h. refl;
    right = λ h k. record { takes = then_empty h.takes k; items = append-nil h.items k };
    assoc = λ f g h k. record { takes = then_assoc f.takes g.takes h.takes k; items = append_assoc f.items g.items h.items k };
  }

  abbrev pub items_of : Effect → Slots → List Value
  items_of e s = (effect_takes i e s).items

  abbrev seen_told : Effect → Slots → Seen
  seen_told e s = record { takes = effect_takes i e s; items = items_of e s }

  -- it is open, or came to its end, and then the stream is there and can take nothing
  abbrev Fine : Told Value → Slots → Type 0
  Fine a s = (a.mark ≡ Open) ⊎ ((a.mark ≡ Closed) × ((has_source i s ≡ true) × (open_at i s ≡ false)))

  record Agrees (h : Seen) (s : Slots) (es : List Effect) : Type 0 where
    items : h.takes.items ≡ h.items
    fine : Fine h.takes s

  -- what closes a stream finds it there
  closes-there : (e : Effect) (s : Slots) → (effect_takes i e s).mark ≡ Closed → has_source i s ≡ true
  closes-there e s m = by (open_at i s) refl
    where
      by : (b : Bool) → b ≡ open_at i s → has_source i s ≡ true
      by true c = open-there (slice_get s.streams i.0) (sym c)
      by false c = let none : effect_takes i e s ≡ silence = (each-brings i e s).shut (sym c) in let k : Open ≡ Closed = sym (ap (λ (x : Told Value). x.mark) none) ∙ m in cc

  next-agrees : (a b : Told Value) (s z : Slots) (xs ys : List Value) → a.items ≡ xs → b.items ≡ ys → Fine a s → Fine b z → (open_at i s ≡ false → b ≡ silence) → (has_source i s ≡ true → has_source i z ≡ true) → (open_at i s ≡ false → open_at i z ≡ false)
      → ((then_told a b).items ≡ xs ++ ys) × Fine (then_told a b) z
  next-agrees a b s z xs ys e f (inl o) (inl q) shut there stays = rw o (rw (e, f) refl, inl q)
  next-agrees a b s z xs ys e f (inl o) (inr q) shut there stays = rw o (rw (e, f) refl, inr q)
  next-agrees a b s z xs ys e f (inr o) g shut there stays =
      let none = shut o.1.1 in
      let nil : ys ≡ [] = sym f ∙ ap (λ (x : Told Value). x.items) none in
      let closed = o.0 in
      rw closed (rw (nil, append-nil xs) e, inr (refl, (there o.1.0, stays o.1.1)))

  row-agrees : (h : Seen) (s : Slots) (e : Effect) (es : List Effect) → Agrees h s (e ∷ es) → Agrees (then_seen h (seen_told e s)) (row e s).slots ((row e s).caused ++ es)
  row-agrees h s e es g =
      let one = each-brings i e s in
      let n = next-agrees h.takes (effect_takes i e s) s (row e s).slots h.items (items_of e s) g.items refl g.fine (by one.fine) one.shut (λ there. row-sources i e s ∙ there) (row-closed i e s) in
      record { items = n.0; fine = n.1 }
    where
      by : ((effect_takes i e s).mark ≡ Open) ⊎ (((effect_takes i e s).mark ≡ Closed) × (open_at i (row e s).slots ≡ false)) → Fine (effect_takes i e s) (row e s).slots
      by (inl o) = inl o
      by (inr o) = inr (o.0, (row-sources i e s ∙ closes-there e s o.0, o.1))

  -- a call leaves a stream that is there
  call-fine : (a : Told Value) (s : Slots) (c : Call) → Fine a s → Fine a (begin c s).done.slots
  call-fine a s c (inl o) = inl o
  call-fine a s c (inr o) = by (slice_get s.streams i.0) refl
    where
      by : (x : Option Stream) → x ≡ slice_get s.streams i.0 → Fine a (begin c s).done.slots
      by (Some y) f =
          let at : slice_get (begin c s).done.slots.streams i.0 ≡ Some y = begun-place i.0 y (Called c) s (sym f) in
          let there : is_readable_stream (Some y) || is_byte_stream (Some y) ≡ true = rw (← f) at o.1.0 in
          let shut : can_close_or_enqueue (as_source (Some y)) ≡ false = rw (← f) at o.1.1 in
          inr (o.0, (ap (λ (z : Option Stream). is_readable_stream z || is_byte_stream z) at ∙ there, ap (λ (z : Option Stream). can_close_or_enqueue (as_source z)) at ∙ shut))
      by None f = let none : false ≡ true = rw (← f) at o.1.0 in cc

  goes : GoesUntold then_seen seen_told Agrees
  goes = record {
    row = row-agrees;
    call = λ h s c g. record { items = g.items; fine = call-fine h.takes s c g.fine };
    job = λ h s job e g. record { items = g.items; fine = g.fine };
    answered = λ h s p g. record { items = g.items; fine = g.fine };
    older = λ h s g. record { items = g.items; fine = g.fine };
  }

  rests : RestsUntold Agrees
  rests = record { heard = λ h s g. record { items = g.items; fine = g.fine } }

  pub takes-run : (entries : List Entry) (s : Slots) → (run_takes i entries s).items ≡ over [] ◌++◌ (in_step [] ◌++◌ items_of) entries s
  takes-run entries s =
      let g = run-goes_untold nothing then_seen are_seen seen_told Agrees goes rests entries nothing s (record { items = refl; fine = inl refl }) in
      let one = over-map nothing then_seen silence then_told (λ (h : Seen). h.takes) refl (λ a b. refl) seen_told entries s in
      let two = over-map nothing then_seen [] ◌++◌ (λ (h : Seen). h.items) refl (λ a b. refl) seen_told entries s in
      ap (λ (x : Told Value). x.items) (sym one) ∙ (g.items ∙ two)

  -- of a stream that has no byte controller in the end

  abbrev Same : Both → Slots → List Effect → Type 0
  Same h s es = has_byte i s ≡ false → h.one ≡ h.two

  abbrev both_told : Effect → Slots → Both
  both_told e s = record { one = items_of e s; two = (effect_flow i e s).entered }

  row-same : (h : Both) (s : Slots) (e : Effect) (es : List Effect) → Same h s (e ∷ es) → Same (both_then h (both_told e s)) (row e s).slots ((row e s).caused ++ es)
  row-same h s e es k = λ none.
      let before : has_byte i s ≡ false = sym (row-byte i e s) ∙ none in
      let a = k before in let b = (each-one (record { 0 = 0 }) i e s before).items in rw (a, b) refl

  call-before : (s : Slots) (c : Call) → has_byte i (begin c s).done.slots ≡ false → has_byte i s ≡ false
  call-before s c none = by (has_byte i s) refl
    where
      by : (b : Bool) → b ≡ has_byte i s → has_byte i s ≡ false
      by false e = sym e
      by true e = let yes = begin-byte i c s (sym e) in absurd (cc)

  same-goes : GoesUntold both_then both_told Same
  same-goes = record {
    row = row-same;
    call = λ h s c k none. k (call-before s c none);
    job = λ h s job e k none. k none;
    answered = λ h s p k none. k none;
    older = λ h s k none. k none;
  }

  same-rests : RestsUntold Same
  same-rests = record { heard = λ h s k none. k none }

  default-run : (entries : List Entry) (s : Slots) → has_byte i (run entries s) ≡ false → (run_takes i entries s).items ≡ (run_flow i entries s).entered
  default-run entries s none =
      let k = run-goes_untold neither both_then are_both both_told Same same-goes same-rests entries neither s (λ n. refl) in
      let one = over-map neither both_then [] ◌++◌ (λ (h : Both). h.one) refl (λ a b. refl) both_told entries s in
      let two = over-map neither both_then [] ◌++◌ (λ (h : Both). h.two) refl (λ a b. refl) both_told entries s in
      let flow = over-map no_flow flow_then [] ◌++◌ (λ (f : Flow). f.entered) refl (λ a b. refl) (effect_flow i) entries s in
      takes-run entries s ∙ (sym one ∙ (k none ∙ (two ∙ sym flow)))

pub each_take_is_told : EachTakeIsTold
each_take_is_told s entries i none = default-run i entries s none
