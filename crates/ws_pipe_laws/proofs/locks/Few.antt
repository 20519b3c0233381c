-- There are no more streams than a realm may have, over every run.
use Rattle.ws_steps.specs.declared.port.Side.{Side as PortSide}
use Rattle.ws_steps.specs.declared.port.Side.TheVariants.{Readable as ReadableSide, Writable as WritableSide}
use Rattle.ws_steps.specs.WritableLooks as writable_looks
use Rattle.ws_steps.specs.Slots.{writable_at}
use Rattle.ws_steps.specs.PipeCalls as pipe_calls
use Rattle.ws_steps.specs.declared.calls.Call.TheVariants.{Send, Open}
use Rattle.std.proofs.Common.{◌≡◌, ℕ, zero, suc, ◌+◌, ◌≤◌, Bool, true, false, nat_lt, nat_eq, List, [], ◌∷◌, ◌++◌, length, map, slice_get, refl, sym, ap, ◌∙◌, arith}
use Rattle.ws_value.specs.declared.ids.StreamId.{StreamId}
use Rattle.ws_steps.specs.declared.calls.Call.{Call}
use Rattle.ws_steps.specs.declared.calls.Call.TheVariants.{MakeReadable, MakeBytes, MakeWritable, MakeTransform, Tee, ReadInto}
use Rattle.ws_steps.specs.declared.effects.Effect.{Effect}
use Rattle.ws_steps.specs.Begun.{Begun}
use Rattle.ws_steps.specs.Calls.{begin}
use Rattle.ws_steps.specs.Histories.{is_same}
use Rattle.ws_steps.specs.ReadableLooks.{is_locked}
use Rattle.ws_steps.specs.Run.{Entry, run}
use Rattle.ws_steps.specs.Slots.{Slots, Stream, is_writable_stream, has_writable, has_source, has_byte, source_at, lock_at, is_teed, empty, most_streams}
use Rattle.ws_steps.specs.Turns.{row}
use Rattle.ws_laws.proofs.Into.{into-either}
use Rattle.ws_laws.proofs.Shapes.{stream_shape, row-stream_shapes}
use Rattle.ws_laws.proofs.Tables.{either, eq_numbers}
use Rattle.ws_laws.proofs.Walker.{Stays, run-stays}

one-more : {X : Type 0} (xs : List X) (x : X) → length (xs ++ x ∷ []) ≡ length xs + 1
one-more [] x = refl
one-more (y ∷ ys) x = let h = one-more ys x in omega (arith, h)

length-map : {X Y : Type 0} (f : X → Y) (xs : List X) → length (map f xs) ≡ length xs
length-map f [] = refl
length-map f (x ∷ xs) = ap suc (length-map f xs)

less : (m n : ℕ) → nat_lt m n ≡ true → m + 1 ≤ n
less m n e = grind arith

-- where there may be one more, or two, there is room for them

room-one : (m : ℕ) (xs : List Stream) (x : Stream) → nat_lt (length xs) m ≡ true → length (xs ++ x ∷ []) ≤ m
room-one m xs x e = let l = less (length xs) m e in let n = one-more xs x in omega (arith, l, n)

room-two : (m : ℕ) (xs : List Stream) (x y : Stream) → nat_lt (length xs + 1) m ≡ true → length ((xs ++ x ∷ []) ++ y ∷ []) ≤ m
room-two m xs x y e =
    let l = less (length xs + 1) m e in
    let n = one-more xs x in
    let k = one-more (xs ++ x ∷ []) y in omega (arith, l, n, k)

abbrev IsFew : Begun → Type 0
IsFew b = length b.done.slots.streams ≤ most_streams

module _ (s : Slots) (few : length s.streams ≤ most_streams) where
  abbrev IsNoMake : Call → Type 0
  IsNoMake (MakeReadable mark size start) = ⊥
  IsNoMake (MakeBytes mark auto start) = ⊥
  IsNoMake (MakeWritable mark size start) = ⊥
  IsNoMake (MakeTransform kind m n start) = ⊥
  IsNoMake (Tee i) = ⊥
  IsNoMake (Send i) = ⊥
  IsNoMake (Open side) = ⊥
  IsNoMake _ = Unit {0}

  still : (c : Call) → IsNoMake c → (begin c s).done.slots.streams ≡ s.streams
  unfolding begin
  still (ReadInto l room element least) n = into-either (λ b. b.done.slots.streams ≡ s.streams) room element least s refl (λ f. refl) (λ i. refl) (lock_at l s)
  still c n = grind (arith, n)

  tee-few : (i : StreamId) → IsFew (begin (Tee i) s)
  unfolding begin
  tee-few i =
      either IsFew (has_source i s) _ _
      (λ h. either IsFew (is_locked (source_at i s)) _ _ (λ e. few)
      (λ e. either IsFew (has_byte i s) _ _ (λ f. few)
      (λ f. either IsFew (is_teed i s) _ _ (λ g. few)
      (λ g. either IsFew (nat_lt (length s.streams + 1) most_streams) _ _ (λ k. room-two most_streams s.streams _ _ k) (λ k. few))))) (λ h. few)

  send-few : (i : StreamId) → IsFew (begin (Send i) s)
  unfolding begin
  send-few i =
      either IsFew (has_source i s) _ _
      (λ h. either IsFew (has_source i s) _ _
      (λ e. either IsFew (is_locked (source_at i s)) _ _ (λ f. few)
      (λ f. either IsFew (nat_lt (length s.streams) most_streams) _ _ (λ k. room-one most_streams s.streams _ k) (λ k. few)))
      (λ e. few))
      (λ h. either IsFew (has_writable i s) _ _
      (λ e. either IsFew (writable_looks.is_locked (writable_at i s)) _ _ (λ f. few)
      (λ f. either IsFew (nat_lt (length s.streams) most_streams) _ _ (λ k. room-one most_streams s.streams _ k) (λ k. few)))
      (λ e. few))

  open-few : (side : PortSide) → nat_lt (length s.streams) most_streams ≡ true → IsFew (pipe_calls.open_end side (record { 0 = length s.streams }) s)
  open-few ReadableSide k = room-one most_streams s.streams _ k
  open-few WritableSide k = room-one most_streams s.streams _ k

  pub call-few : (c : Call) → IsFew (begin c s)
  unfolding begin
  call-few (MakeReadable mark size start) = either IsFew (nat_lt (length s.streams) most_streams) _ _ (λ e. room-one most_streams s.streams _ e) (λ e. few)
  call-few (MakeBytes mark auto start) = either IsFew (nat_lt (length s.streams) most_streams) _ _ (λ e. room-one most_streams s.streams _ e) (λ e. few)
  call-few (MakeWritable mark size start) = either IsFew (nat_lt (length s.streams) most_streams) _ _ (λ e. room-one most_streams s.streams _ e) (λ e. few)
  call-few (MakeTransform kind m n start) = either IsFew (nat_lt (length s.streams + 1) most_streams) _ _ (λ e. room-two most_streams s.streams _ _ e) (λ e. few)
  call-few (Tee i) = tee-few i
  call-few (Send i) = send-few i
  call-few (Open side) = either IsFew (nat_lt (length s.streams) most_streams) _ _ (λ e. open-few side e) (λ e. few)
  call-few c = rw (ap length (still c tt)) few

pub row-few : (e : Effect) (s : Slots) → length s.streams ≤ most_streams → length (row e s).slots.streams ≤ most_streams
row-few e s few =
    let same = sym (length-map stream_shape (row e s).slots.streams) ∙ (ap length (row-stream_shapes e s) ∙ length-map stream_shape s.streams) in
    rw same few

stays : Stays (λ s es. length s.streams ≤ most_streams)
stays = record {
  row = λ s e es few. row-few e s few;
  call = λ s c few. call-few s few c;
  job = λ s job e few. few;
  answered = λ s p few. few;
  older = λ s few. few;
}

run-few : (entries : List Entry) → length (run entries empty).streams ≤ most_streams
run-few entries = run-stays (λ s es. length s.streams ≤ most_streams) stays (λ s few. few) entries empty (omega arith)

-- so none has the number that stands for no stream

within : (xs : List Stream) (n : ℕ) → is_writable_stream (slice_get xs n) ≡ true → n + 1 ≤ length xs
within [] n e = cc
within (x ∷ xs) zero e = omega arith
within (x ∷ xs) (suc n) e = let h = within xs n e in omega (arith, h)

other_number : (n m : ℕ) (same : Bool) → same ≡ nat_eq n m → n + 1 ≤ m → nat_eq n m ≡ false
other_number n m false e few = sym e
other_number n m true e few = let is = eq_numbers n m (sym e) in absurd (omega (arith, is, few))

abbrev pub no_stream : StreamId
no_stream = record { 0 = most_streams }

pub other_than : (m : ℕ) (xs : List Stream) (n : ℕ) → length xs ≤ m → is_writable_stream (slice_get xs n) ≡ true → nat_eq n m ≡ false
other_than m xs n few e = let l = within xs n e in other_number n m (nat_eq n m) refl (omega (arith, l, few))

pub not-no_stream : (entries : List Entry) (i : StreamId) → has_writable i (run entries empty) ≡ true → is_same i no_stream ≡ false
not-no_stream entries i there = other_than most_streams (run entries empty).streams i.0 (run-few entries) there

-- nor has a new stream

pub new_other : (n m : ℕ) → nat_lt n m ≡ true → nat_eq n m ≡ false
new_other n m less = let e : n + 1 ≤ m = grind arith in other_number n m (nat_eq n m) refl e
