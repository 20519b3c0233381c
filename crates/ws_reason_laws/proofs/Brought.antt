-- What calls bring through transform streams: no more than a TypeError and the reasons of cancels, and nothing where there is none.
use Rattle.std.proofs.Common.{◌≡◌, ℕ, zero, suc, ◌+◌, ◌*◌, Bool, true, false, ◌&&◌, ◌||◌, nat_lt, if◌then◌else◌, List, [], ◌∷◌, ◌++◌, length, map, Option, Some, None, slice_get, refl, sym, ap, ◌∙◌, append_assoc, arith}
use Rattle.ws_value.specs.declared.ids.StreamId.{StreamId}
use Rattle.ws_value.specs.declared.value.Plain.{Plain}
use Rattle.ws_steps.specs.declared.calls.Call.{Call}
use Rattle.ws_steps.specs.declared.calls.Call.TheVariants.{MakeTransform, Cancel, CancelBy, Terminate, Pipe, ReadInto, Finish}
use Rattle.ws_steps.specs.declared.effects.Owner.{Owner}
use Rattle.ws_steps.specs.declared.effects.Owner.TheVariants.{Host, HalfOf, BranchOf, EndOf}
use Rattle.ws_steps.specs.declared.locks.Lock.{Lock}
use Rattle.ws_steps.specs.declared.locks.Lock.TheVariants.{Reader, ByobReader}
use Rattle.ws_steps.specs.declared.transform.Kind.{Kind}
use Rattle.ws_steps.specs.declared.transform.Kind.TheVariants.{Identity}
use Rattle.ws_steps.specs.LockCalls.{is_view, has_least}
use Rattle.ws_steps.specs.Calls.{begin}
use Rattle.ws_steps.specs.Effects.{type_error}
use Rattle.ws_steps.specs.ReadableLooks as readable_looks
use Rattle.ws_steps.specs.Run.{Entry, Called, Worked, Heard, step, run}
use Rattle.ws_steps.specs.Slots.{Slots, Stream, ReadableStream, ByteStream, WritableStream, most_streams, empty, has_byte, readable_at, byte_at, source_at, writable_at, as_readable, lock_at}
use Rattle.ws_steps.specs.Transform as transform
use Rattle.ws_steps.specs.Writable.{is_closed, is_closing}
use Rattle.ws_steps.specs.WritableLooks as writable_looks
use Rattle.ws_laws.proofs.Halves as halves
use Rattle.ws_laws.proofs.Halves.{step-shapes, run-among, step-halved, halved-empty}
use Rattle.ws_laws.proofs.Shapes.{TransformShape, ReadableOf, stream_shape, transform_shape, transform_shapes}
use Rattle.ws_reason_laws.specs.Origins.{is_half, to_half, to_half_of, by_kind, through_of, through}
use Rattle.ws_reason_laws.specs.Reasons.{cancel_of, cancels, BringsNothing, pull_errs, erred_with, erred_by, erred_by_read, erred}
use Rattle.ws_steps.specs.declared.byte.RoomKind.TheVariants.{ForByob}
use Rattle.ws_steps.specs.Bytes as byte
use Rattle.ws_reason_laws.proofs.Among.{same_reason, is_among}

pub among-append : (r : Plain) (xs ys : List Plain) → is_among r (xs ++ ys) ≡ (is_among r xs || is_among r ys)
among-append r [] ys = refl
among-append r (x ∷ xs) ys = let h = among-append r xs ys in grind (arith, h)

pub through-append : (xs ys : List Entry) (s : Slots) → through (xs ++ ys) s ≡ through xs s ++ through ys (run xs s)
through-append [] ys s = refl
through-append (Called c ∷ xs) ys s =
    ap (λ rs. through_of c s ++ rs) (through-append xs ys (step s (Called c))) ∙ sym (append_assoc (through_of c s) (through xs (step s (Called c))) (through ys (run xs (step s (Called c)))))
through-append (Worked ∷ xs) ys s = through-append xs ys (step s Worked)
through-append (Heard ∷ xs) ys s = through-append xs ys (step s Heard)

-- no more than a TypeError and the reasons of cancels

abbrev Among : Plain → List Plain → List Plain → Type 0
Among r xs ys = is_among r xs ≡ true → (same_reason type_error r || is_among r ys) ≡ true

half-among : (r : Plain) (reason : Plain) (half : Bool) → Among r (if half then reason ∷ [] else []) (reason ∷ [])
half-among r reason true e = grind (arith, e)
half-among r reason false e = grind (arith, e)

error-among : (r : Plain) (half : Bool) → Among r (if half then type_error ∷ [] else []) []
error-among r true e = e
error-among r false e = grind (arith, e)

cancel-among : (r reason : Plain) (locked half : Bool) → Among r (if locked then [] else if half then reason ∷ [] else []) (reason ∷ [])
cancel-among r reason true half e = grind (arith, e)
cancel-among r reason false half e = half-among r reason half e

reader-among : (r reason : Plain) (s : Slots) (lock : Option Lock) → Among r (to_half_of reason s lock) (reason ∷ [])
reader-among r reason s (Some (Reader (Some i) closed)) e = half-among r reason (is_half (readable_at i s).owner) e
reader-among r reason s (Some (ByobReader (Some i) closed)) e = half-among r reason (is_half (readable_at i s).owner) e
reader-among r reason s _ e = grind (arith, e)

pipe-among : (r : Plain) (a b c d half : Bool) → Among r (if a then [] else if b then [] else if c then [] else if d then if half then type_error ∷ [] else [] else []) []
pipe-among r a b c d half e = grind (arith, e)

kind-among : (r : Plain) (kind : Kind) (s : Slots) → Among r (by_kind kind s) []
kind-among r Identity s e = error-among r (nat_lt (length s.streams + 1) most_streams) e
kind-among r _ s e = grind (arith, e)

read-among : (r : Plain) (room element minimum : ℕ) (s : Slots) (lock : Option Lock) → Among r (erred_by_read room element minimum s lock) []
read-among r room element minimum s (Some (ByobReader (Some i) closed)) e =
    error-among r (has_byte i s && pull_errs (record { filled = []; room = room; minimum = minimum; element = element; room_kind = ForByob }) (byte_at i s)) e
read-among r room element minimum s _ e = grind (arith, e)

if-among : (r : Plain) (test : Bool) (xs : List Plain) → Among r xs [] → Among r (if test then xs else []) []
if-among r true xs a e = a e
if-among r false xs a e = grind (arith, e)

call-among : (r : Plain) (c : Call) (s : Slots) → Among r (through_of c s) (cancel_of c)
call-among r (Cancel i reason) s e = cancel-among r reason (readable_looks.is_locked (source_at i s)) (is_half (readable_at i s).owner) e
call-among r (CancelBy l reason) s e = reader-among r reason s (lock_at l s) e
call-among r (Terminate i) s e = error-among r (is_half (readable_at i s).owner) e
call-among r (Pipe i j prevent signal) s e =
    pipe-among r (readable_looks.is_locked (source_at i s)) (writable_looks.is_locked (writable_at j s)) prevent.cancel (is_closing (writable_at j s) || is_closed (writable_at j s).state) (is_half (readable_at i s).owner) e
call-among r (MakeTransform kind m n start) s e = kind-among r kind s e
call-among r (Finish i) s e = error-among r (has_byte i s && byte.close_throws (byte_at i s)) e
call-among r (ReadInto l room element least) s e =
    if-among r (is_view (length room) element && has_least (length room) element least) (erred_by_read (length room) element (least * element) s (lock_at l s))
    (read-among r (length room) element (least * element) s (lock_at l s)) e
call-among r c s e = grind (arith, e)

joined : (a b t x y : Bool) → (a ≡ true → (t || x) ≡ true) → (b ≡ true → (t || y) ≡ true) → (a || b) ≡ true → (t || (x || y)) ≡ true
joined a b t x y f g e = grind (arith, f, g, e)

pub through-among : (r : Plain) (xs : List Entry) (s : Slots) → Among r (through xs s) (cancels xs)
through-among r [] s e = grind (arith, e)
through-among r (Called c ∷ xs) s e =
    let a = among-append r (through_of c s) (through xs (step s (Called c))) in
    let b = among-append r (cancel_of c) (cancels xs) in
    rw b (joined (is_among r (through_of c s)) (is_among r (through xs (step s (Called c)))) (same_reason type_error r) (is_among r (cancel_of c)) (is_among r (cancels xs)) (call-among r c s)
    (through-among r xs (step s (Called c))) (rw a at e))
through-among r (Worked ∷ xs) s e = through-among r xs (step s Worked) e
through-among r (Heard ∷ xs) s e = through-among r xs (step s Heard) e

-- a transform stream stays, so where there is none at the end of a run there was none before

a_transform : (y : transform.Slots) (ys zs : List transform.Slots) → slice_get (map transform_shape zs) 0 ≡ Some (transform_shape y) → zs ≡ [] → y ∷ ys ≡ []
a_transform y ys [] e n = cc
a_transform y ys (z ∷ zs) e n = cc

none_before : (xs : List Entry) (s : Slots) → (run xs s).transforms ≡ [] → s.transforms ≡ []
none_before xs s n = by s.transforms refl
  where
    by : (ys : List transform.Slots) → s.transforms ≡ ys → s.transforms ≡ []
    by [] e = e
    by (y ∷ ys) e =
        let first : slice_get (transform_shapes s) 0 ≡ Some (transform_shape y) = ap (λ (zs : List transform.Slots). slice_get (map transform_shape zs) 0) e in
        e ∙ a_transform y ys (run xs s).transforms (run-among xs s (record { 0 = 0 }) (transform_shape y) first) n

none_begun : (c : Call) (xs : List Entry) (s : Slots) → (run (Called c ∷ xs) s).transforms ≡ [] → (begin c s).done.slots.transforms ≡ []
none_begun c xs s n = by (begin c s).done.slots.transforms refl
  where
    by : (ys : List transform.Slots) → (begin c s).done.slots.transforms ≡ ys → (begin c s).done.slots.transforms ≡ []
    by [] e = e
    by (y ∷ ys) e =
        let first : slice_get (transform_shapes (begin c s).done.slots) 0 ≡ Some (transform_shape y) = ap (λ (zs : List transform.Slots). slice_get (map transform_shape zs) 0) e in
        let stays : slice_get (transform_shapes (step s (Called c))) 0 ≡ Some (transform_shape y) = ap (λ (zs : List TransformShape). slice_get zs 0) (step-shapes (Called c) s) ∙ first in
        let last = run-among xs (step s (Called c)) (record { 0 = 0 }) (transform_shape y) stays in
        e ∙ a_transform y ys (run xs (step s (Called c))).transforms last n

-- where there is none no stream is a half

host-none : {X : Type 0} (o : Owner) → Host ≡ o → is_half o ≡ true → X
host-none o e h = let n : is_half Host ≡ true = ap is_half e ∙ h in cc

shape-there : (xs : List Stream) (n : ℕ) (o : Owner) → (as_readable (slice_get xs n)).owner ≡ o → is_half o ≡ true → slice_get (map stream_shape xs) n ≡ Some (ReadableOf o)
shape-there [] n o e h = host-none o e h
shape-there (ReadableStream r ∷ xs) zero o e h = ap (λ (w : Owner). Some (ReadableOf w)) e
shape-there (ByteStream b ∷ xs) zero o e h = host-none o e h
shape-there (WritableStream w ∷ xs) zero o e h = host-none o e h
shape-there (x ∷ xs) (suc n) o e h = shape-there xs n o e h

module _ (s : Slots) (halved : halves.Halved s) (none : s.transforms ≡ []) where
  no_half : (i : StreamId) → is_half (readable_at i s).owner ≡ false
  no_half i = by (readable_at i s).owner refl
    where
      by : (o : Owner) → (readable_at i s).owner ≡ o → is_half (readable_at i s).owner ≡ false
      by Host e = rw e refl
      by (HalfOf t) e =
          let h = halved.readable i t (shape-there s.streams i.0 (HalfOf t) e refl) in
          let n : transform_shapes s ≡ [] = ap (map transform_shape) none in
          let z : ◌≡◌ {A = Option TransformShape} None (Some h.0) = rw n at h.1.0 in
          cc
      by (BranchOf t half) e = rw e refl
      by (EndOf c) e = rw e refl

  half-none : (i : StreamId) (r : Plain) → to_half i r s ≡ []
  half-none i r = rw (no_half i) refl

  reader-none : (r : Plain) (lock : Option Lock) → to_half_of r s lock ≡ []
  reader-none r (Some (Reader (Some i) closed)) = half-none i r
  reader-none r (Some (ByobReader (Some i) closed)) = half-none i r
  reader-none r _ = refl

  call-erred : (c : Call) → (begin c s).done.slots.transforms ≡ [] → through_of c s ≡ erred_by c s
  unfolding begin
  call-erred (Cancel i reason) n = rw (no_half i) (same (readable_looks.is_locked (source_at i s)))
    where
      same : (b : Bool) → ◌≡◌ {A = List Plain} (if b then [] else []) []
      same true = refl
      same false = refl
  call-erred (CancelBy l reason) n = reader-none reason (lock_at l s)
  call-erred (Finish i) n = refl
  call-erred (ReadInto l room element least) n = refl
  call-erred (Terminate i) n = half-none i type_error
  call-erred (Pipe i j prevent signal) n = let h = half-none i type_error in grind (arith, h)
  call-erred (MakeTransform kind writable_mark readable_mark start) n = kind-none kind n
    where
      kind-none : (kind : Kind) → (begin (MakeTransform kind writable_mark readable_mark start) s).done.slots.transforms ≡ [] → by_kind kind s ≡ []
      kind-none kind n = grind (arith, n, none)
  call-erred c n = refl

pub through_erred : (xs : List Entry) (s : Slots) → halves.Halved s → (run xs s).transforms ≡ [] → through xs s ≡ erred xs s
through_erred [] s h n = refl
through_erred (Called c ∷ xs) s h n =
    let a = call-erred s h (none_before (Called c ∷ xs) s n) c (none_begun c xs s n) in
    let b = through_erred xs (step s (Called c)) (step-halved (Called c) s h) n in
    rw (a, b) refl
through_erred (Worked ∷ xs) s h n = through_erred xs (step s Worked) (step-halved Worked s h) n
through_erred (Heard ∷ xs) s h n = through_erred xs (step s Heard) (step-halved Heard s h) n

-- where there is no transform stream nothing was brought in but TypeErrors into byte streams
pub through-erred : (entries : List Entry) → (run entries empty).transforms ≡ [] → through entries empty ≡ erred entries empty
through-erred entries n = through_erred entries empty halved-empty n

pub none-through : (entries : List Entry) → BringsNothing entries → through entries empty ≡ []
none-through entries b = through-erred entries b.transforms ∙ b.erred

one_error : (r : Plain) (test : Bool) → is_among r (erred_with test) ≡ true → same_reason type_error r ≡ true
one_error r true e = grind (arith, e)
one_error r false e = grind (arith, e)

read_error : (r : Plain) (room element minimum : ℕ) (s : Slots) (lock : Option Lock) → is_among r (erred_by_read room element minimum s lock) ≡ true → same_reason type_error r ≡ true
read_error r room element minimum s (Some (ByobReader (Some i) closed)) e =
    one_error r (has_byte i s && pull_errs (record { filled = []; room = room; minimum = minimum; element = element; room_kind = ForByob }) (byte_at i s)) e
read_error r room element minimum s _ e = grind (arith, e)

if_error : (r : Plain) (test : Bool) (xs : List Plain) → (is_among r xs ≡ true → same_reason type_error r ≡ true) → is_among r (if test then xs else []) ≡ true → same_reason type_error r ≡ true
if_error r true xs a e = a e
if_error r false xs a e = grind (arith, e)

either_one : (a b t : Bool) → (a ≡ true → t ≡ true) → (b ≡ true → t ≡ true) → (a || b) ≡ true → t ≡ true
either_one true b t f g e = f refl
either_one false b t f g e = g e

call_erred-among : (r : Plain) (c : Call) (s : Slots) → is_among r (erred_by c s) ≡ true → same_reason type_error r ≡ true
call_erred-among r (Finish i) s e = one_error r (has_byte i s && byte.close_throws (byte_at i s)) e
call_erred-among r (ReadInto l room element least) s e =
    if_error r (is_view (length room) element && has_least (length room) element least) (erred_by_read (length room) element (least * element) s (lock_at l s))
    (read_error r (length room) element (least * element) s (lock_at l s)) e
call_erred-among r c s e = grind (arith, e)

pub erred-among : (r : Plain) (xs : List Entry) (s : Slots) → is_among r (erred xs s) ≡ true → same_reason type_error r ≡ true
erred-among r [] s e = grind (arith, e)
erred-among r (Called c ∷ xs) s e =
    let a = among-append r (erred_by c s) (erred xs (step s (Called c))) in
    either_one (is_among r (erred_by c s)) (is_among r (erred xs (step s (Called c)))) (same_reason type_error r) (call_erred-among r c s) (erred-among r xs (step s (Called c))) (rw a at e)
erred-among r (Worked ∷ xs) s e = erred-among r xs (step s Worked) e
erred-among r (Heard ∷ xs) s e = erred-among r xs (step s Heard) e
