-- The closed promise of the reader with which a tee reads its source: it comes with the tee, and is rejected only where the source has errored.
use Rattle.std.proofs.Common.{◌≡◌, ℕ, zero, suc, ◌+◌, ◌≤◌, Bool, true, false, not, ◌⊎◌, inl, inr, List, [], ◌∷◌, ◌++◌, Option, Some, slice_get, refl, sym, ap, subst, ◌∙◌, arith}
use Rattle.ws_laws.proofs.PortDoes.{PortCauses}
use Rattle.ws_value.specs.declared.ids.PortId.{PortId}
use Rattle.ws_value.specs.declared.ids.{PipeId.{PipeId}, PromiseId.{PromiseId}, StreamId.{StreamId}, TeeId.{TeeId}}
use Rattle.ws_value.specs.declared.value.{Outcome.TheVariants.{Fulfilled}}
use Rattle.ws_steps.specs.declared.byte.ByteOperation.{ByteOperation}
use Rattle.ws_steps.specs.declared.effects.{Effect.{Effect}, Effect.TheVariants.{Readable as OnReadable, Byte, Writable as OnWritable}}
use Rattle.ws_steps.specs.declared.readable.{ReadableOperation.{ReadableOperation}, ReadableState.TheVariants.{Readable, Closed}}
use Rattle.ws_steps.specs.declared.readable.ReadableOperation.TheVariants as names
use Rattle.ws_steps.specs.declared.transform.TransformId.{TransformId}
use Rattle.ws_steps.specs.declared.writable.WritableOperation.{WritableOperation}
use Rattle.ws_steps.specs.Histories.{is_same}
use Rattle.ws_steps.specs.Operations.{readable_operation, byte_operation, writable_operation}
use Rattle.ws_steps.specs.Promises.{Table, live, outcome_at, is_open, is_open_entry}
use Rattle.ws_steps.specs.Readable as readable
use Rattle.ws_steps.specs.Slots.{Slots, Stream, ReadableStream, has_readable, has_writable, readable_at, as_readable, on_readable, on_byte, on_writable}
use Rattle.ws_steps.specs.Turns.{row, on_source}
use Rattle.ws_laws.proofs.Lists.{Each, each-append}
use Rattle.ws_laws.proofs.Outcomes.{Keeps, keeps-same}
use Rattle.ws_laws.proofs.PipeDoes.{PipeCauses}
use Rattle.ws_laws.proofs.Rows.{row-changes}
use Rattle.ws_laws.proofs.Apart.{row-streams}
use Rattle.ws_laws.proofs.Causes.{Causes, row-causes}
use Rattle.ws_laws.proofs.Stays.{keeps-changes}
use Rattle.ws_laws.proofs.Tables.{is_same-refl, same_id, readable_acts, readable_there, on_readable-same, on_source-other, on_byte-other, on_writable-other}
use Rattle.ws_laws.proofs.TeeDoes.{TeeCauses}
use Rattle.ws_laws.proofs.TransformDoes.{TransformCauses}
use Rattle.ws_promise_laws.proofs.Holds.{place_at, shut, named}
use Rattle.ws_promise_laws.proofs.Realm.{Sound, in_all, in_stream, firm_in}
use Rattle.ws_promise_laws.proofs.Runs.{Straight}
use Rattle.ws_promise_laws.proofs.Streams.{in_readable}
use Rattle.ws_promise_laws.proofs.Tokens.{one_if, in_effects}
use Rattle.ws_pipe_laws.proofs.locks.TeeOwning.{Fair}
use Rattle.ws_tee_port_laws.proofs.tees.Fates.{Fate, IsFulfilled, Stands, operation-fate, initialize-fate}
use Rattle.ws_tee_port_laws.proofs.tees.Gifts.{no-byte, readable-no-writable}

-- a promise that stands anywhere is open

in_all-few : (h : Stream → ℕ) (ss : List Stream) (n : ℕ) (x : Stream) → slice_get ss n ≡ Some x → h x ≤ in_all h ss
in_all-few h [] n x e = cc
in_all-few h (y ∷ ss) zero x e = let same : y ≡ x = cc in rw same (omega arith)
in_all-few h (y ∷ ss) (suc n) x e = let k = in_all-few h ss n x e in omega (arith, k)

none_shut : (b : Bool) → one_if (not b) ≤ 0 → b ≡ true
none_shut true n = refl
none_shut false n = let m : 1 ≤ 0 = n in absurd (omega arith)

open-of : (p : PromiseId) (f : PromiseId → ℕ) (s : Slots) → Sound f s → 1 ≤ f p + firm_in p s → is_open p s.promises ≡ true
open-of p f s k n =
    let h = k.holds.once p in
    let none : shut p s.promises ≤ 0 = omega (arith, h, n) in
    none_shut (is_open_entry (live (place_at s.promises p))) none

module _ (t : TeeId) (i : StreamId) (p : PromiseId) where
  -- the reader of the source has this promise, which is fulfilled where the source is closed
  pub record FateAt (s : Slots) : Type 0 where
    pub reader : (readable_at i s).reader ≡ Some p
    pub closed : (readable_at i s).state ≡ Closed → IsFulfilled p s.promises

  reading_one : (x : readable.Slots) → x.reader ≡ Some p → x.state ≡ Readable → 1 ≤ in_readable p x
  reading_one x e r = let one = named p in rw (e, r) (omega (arith, one))

  -- while the source is readable, it is open
  pub open-now : (s : Slots) (es : List Effect) → Straight s es → has_readable i s ≡ true → (readable_at i s).reader ≡ Some p → (readable_at i s).state ≡ Readable → is_open p s.promises ≡ true
  open-now s es k kind e r =
      let there : slice_get s.streams i.0 ≡ Some (ReadableStream (readable_at i s)) = readable_there (slice_get s.streams i.0) kind in
      let few = in_all-few (in_stream p) s.streams i.0 (ReadableStream (readable_at i s)) there in
      let one = reading_one (readable_at i s) e r in
      open-of p (λ x. in_effects x es) s k.sound (omega (arith, few, one))

  fate-of : (s : Slots) (es : List Effect) → Straight s es → has_readable i s ≡ true → FateAt s → Fate p (readable_acts i s)
  fate-of s es k kind f = record { reader = f.reader; open_ = λ r. open-now s es k kind f.reader r; closed = f.closed }

  -- elsewhere nothing changes that matters
  pub same-at : (s z : Slots) → slice_get z.streams i.0 ≡ slice_get s.streams i.0 → Keeps s.promises z.promises → FateAt s → FateAt z
  same-at s z same k f = record {
    reader = ap (λ (o : Option Stream). (as_readable o).reader) same ∙ f.reader;
    closed = λ e.
        let was = f.closed (sym (ap (λ (o : Option Stream). (as_readable o).state) same) ∙ e) in
        record { value = was.value; at = k.outcome p (Fulfilled was.value) refl was.at };
  }

  row-keep : (e : Effect) (s : Slots) → Keeps s.promises (row e s).slots.promises
  row-keep e s = row-changes (Keeps s.promises) (keeps-changes s.promises) e s (keeps-same s.promises)

  -- an operation of the source
  done-at : (operation : ReadableOperation) (s : Slots) → has_readable i s ≡ true → Fate p (readable_operation i operation (readable_acts i s)) → FateAt (on_source operation i s).slots
  done-at operation s kind f =
      let none = no-byte t i s kind in
      let same : (on_source operation i s).slots ≡ (on_readable (readable_operation i operation) i s).slots = rw none refl in
      let promises : (on_source operation i s).slots.promises ≡ (readable_operation i operation (readable_acts i s)).out.promises = rw (none, kind) refl in
      let now : slice_get (on_source operation i s).slots.streams i.0 ≡ Some (ReadableStream (readable_operation i operation (readable_acts i s)).slots) =
      ap (λ (z : Slots). slice_get z.streams i.0) same ∙ on_readable-same (readable_operation i operation) i s kind in
      record {
        reader = ap (λ (o : Option Stream). (as_readable o).reader) now ∙ f.reader;
        closed = λ e.
            let was = f.closed (sym (ap (λ (o : Option Stream). (as_readable o).state) now) ∙ e) in
            record { value = was.value; at = ap (λ (z : Table). outcome_at z p) promises ∙ was.at };
      }

  -- no effect brings another reader of the source
  abbrev pub NoReader : Effect → Type 0
  NoReader (OnReadable j (names.InitializeReader q)) = is_same j i ≡ false
  NoReader _ = Unit {0}

  stands-of : (operation : ReadableOperation) → Fair t i (OnReadable i operation) → NoReader (OnReadable i operation) → Stands p i operation
  stands-of (names.InitializeReader q) f n = let wrong : true ≡ false = sym (is_same-refl i) ∙ n in cc
  stands-of names.ReleaseReader f n = f (is_same-refl i)
  stands-of names.Disturb f n = tt
  stands-of (names.Read q) f n = tt
  stands-of (names.Cancel r q) f n = tt
  stands-of (names.CancelIfReadable r q) f n = tt
  stands-of (names.Enqueue x) f n = tt
  stands-of names.Close f n = tt
  stands-of (names.Error r) f n = tt
  stands-of (names.StartSettled o) f n = tt
  stands-of (names.PullSettled o) f n = tt

  readable-at : (j : StreamId) (operation : ReadableOperation) (s : Slots) (es : List Effect) (same : Bool) → same ≡ is_same i j → has_readable i s ≡ true → Straight s (OnReadable j operation ∷ es)
      → Fair t i (OnReadable j operation) → NoReader (OnReadable j operation) → Keeps s.promises (on_source operation j s).slots.promises → FateAt s → FateAt (on_source operation j s).slots
  readable-at j operation s es false e kind k fair n keeps f = same-at s (on_source operation j s).slots (on_source-other operation j s i (sym e)) keeps f
  readable-at j operation s es true e kind k fair n keeps f =
      subst (λ (z : StreamId). Straight s (OnReadable z operation ∷ es) → Fair t i (OnReadable z operation) → NoReader (OnReadable z operation) → FateAt (on_source operation z s).slots) (same_id i j (sym e))
      (λ k fair n. done-at operation s kind (operation-fate p i operation (readable_acts i s) (stands-of operation fair n) (fate-of s (OnReadable i operation ∷ es) k kind f))) k fair n

  byte-at : (j : StreamId) (operation : ByteOperation) (s : Slots) (same : Bool) → same ≡ is_same i j → has_readable i s ≡ true → Keeps s.promises (on_byte (byte_operation j operation) j s).slots.promises → FateAt s
      → FateAt (on_byte (byte_operation j operation) j s).slots
  byte-at j operation s false e kind keeps f = same-at s (on_byte (byte_operation j operation) j s).slots (on_byte-other (byte_operation j operation) j s i (sym e)) keeps f
  byte-at j operation s true e kind keeps f = subst (λ (z : StreamId). FateAt (on_byte (byte_operation z operation) z s).slots) (same_id i j (sym e)) (rw (no-byte t i s kind) f)

  writable-at : (j : StreamId) (operation : WritableOperation) (s : Slots) (same : Bool) → same ≡ is_same i j → has_readable i s ≡ true → Keeps s.promises (on_writable (writable_operation j operation) j s).slots.promises → FateAt s
      → FateAt (on_writable (writable_operation j operation) j s).slots
  writable-at j operation s false e kind keeps f = same-at s (on_writable (writable_operation j operation) j s).slots (on_writable-other (writable_operation j operation) j s i (sym e)) keeps f
  writable-at j operation s true e kind keeps f =
      let none : has_writable i s ≡ false = readable-no-writable t (slice_get s.streams i.0) kind in
      subst (λ (z : StreamId). FateAt (on_writable (writable_operation z operation) z s).slots) (same_id i j (sym e)) (rw none f)

  pub row-at : (s : Slots) (e : Effect) (es : List Effect) → has_readable i s ≡ true → Straight s (e ∷ es) → Fair t i e → NoReader e → Keeps s.promises (row e s).slots.promises → FateAt s → FateAt (row e s).slots
  unfolding row
  row-at s (OnReadable j operation) es kind k fair n keeps f = readable-at j operation s es (is_same i j) refl kind k fair n keeps f
  row-at s (Byte j operation) es kind k fair n keeps f = byte-at j operation s (is_same i j) refl kind keeps f
  row-at s (OnWritable j operation) es kind k fair n keeps f = writable-at j operation s (is_same i j) refl kind keeps f
  row-at s e es kind k fair n keeps f = same-at s (row e s).slots (ap (λ (xs : List Stream). slice_get xs i.0) (row-streams e s tt)) keeps f

  -- the reader comes
  pub first-at : (s : Slots) (es : List Effect) → has_readable i s ≡ true → Straight s (OnReadable i (names.InitializeReader p) ∷ es) → FateAt (row (OnReadable i (names.InitializeReader p)) s).slots
  unfolding row
  first-at s es kind k =
      let one = named p in
      done-at (names.InitializeReader p) s kind
      (initialize-fate p i (readable_acts i s) (open-of p (λ x. in_effects x (OnReadable i (names.InitializeReader p) ∷ es)) s k.sound (omega (arith, one))))

  no-reader : (e : Effect) → Causes NoReader e
  no-reader e = grind (arith, transform-none, pipe-none, tee-none, port-none)
    where
      transform-none : (u : TransformId) (writable readable : StreamId) (e : Effect) → TransformCauses u writable readable e → NoReader e
      transform-none u writable readable e c = grind (arith, c)

      pipe-none : (q : PipeId) (source dest : StreamId) (e : Effect) → PipeCauses q source dest e → NoReader e
      pipe-none q source dest e c = grind (arith, c)

      tee-none : (u : TeeId) (source first second : StreamId) (e : Effect) → TeeCauses u source first second e → NoReader e
      tee-none u source first second e c = grind (arith, c)

      port-none : (c : PortId) (stream : StreamId) (e : Effect) → PortCauses c stream e → NoReader e
      port-none c stream e k = grind (arith, k)

  -- its reader comes first of all, or it is there

  abbrev pub Comes : List Effect → Type 0
  Comes [] = ⊥
  Comes (e ∷ es) = (e ≡ OnReadable i (names.InitializeReader p)) × Each NoReader es

  pub record IsThere (s : Slots) (es : List Effect) : Type 0 where
    pub fate : FateAt s
    pub quiet : Each NoReader es

  abbrev pub Stage : Slots → List Effect → Type 0
  Stage s es = Comes es ⊎ IsThere s es

  pub row-stage : (s : Slots) (e : Effect) (es : List Effect) → has_readable i s ≡ true → Straight s (e ∷ es) → Fair t i e → Stage s (e ∷ es) → Stage (row e s).slots ((row e s).caused ++ es)
  row-stage s e es kind k fair (inl c) = inr (record {
    fate = subst (λ (f : Effect). FateAt (row f s).slots) (sym c.0) (first-at s es kind (subst (λ (f : Effect). Straight s (f ∷ es)) c.0 k));
    quiet = each-append NoReader (row e s).caused es (row-causes NoReader e s (no-reader e)) c.1;
  })
  row-stage s e es kind k fair (inr h) = inr (record {
    fate = row-at s e es kind k fair h.quiet.0 (row-keep e s) h.fate;
    quiet = each-append NoReader (row e s).caused es (row-causes NoReader e s (no-reader e)) h.quiet.1;
  })

  pub none-comes : {A : Type 0} → Comes [] → A
  none-comes c = absurd c
