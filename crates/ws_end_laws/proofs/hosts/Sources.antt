-- An operation of a readable stream, whichever its controller is, leaves each writable stream.
use Rattle.std.proofs.Common.{◌≡◌, Bool, true, false, Option, slice_get, refl, sym, subst, arith}
use Rattle.ws_value.specs.declared.ids.StreamId.{StreamId}
use Rattle.ws_steps.specs.declared.readable.ReadableOperation.{ReadableOperation}
use Rattle.ws_steps.specs.Bytes as byte
use Rattle.ws_steps.specs.Histories.{is_same}
use Rattle.ws_steps.specs.Slots.{Slots, Stream, Done, has_readable, has_byte, has_writable, is_readable_stream, is_byte_stream, is_writable_stream, on_byte, nothing}
use Rattle.ws_steps.specs.Turns.{on_source}
use Rattle.ws_laws.proofs.Tables.{same_id, on_byte-other, on_source-other}

no_readable-there : (o : Option Stream) → is_writable_stream o ≡ true → is_readable_stream o ≡ false
no_readable-there o e = grind arith

no_byte-there : (o : Option Stream) → is_writable_stream o ≡ true → is_byte_stream o ≡ false
no_byte-there o e = grind arith

module _ (i j : StreamId) (s : Slots) (there : has_writable i s ≡ true) where
  abbrev Spares : Done → Type 0
  Spares d = slice_get d.slots.streams i.0 ≡ slice_get s.streams i.0

  at_it : is_same i j ≡ true → has_writable j s ≡ true
  at_it e = subst (λ (k : StreamId). has_writable k s ≡ true) (same_id i j e) there

  pub byte-spares : (operation : byte.Acts → byte.Acts) → slice_get (on_byte operation j s).slots.streams i.0 ≡ slice_get s.streams i.0
  byte-spares operation = by (is_same i j) refl
    where
      by : (same : Bool) → same ≡ is_same i j → Spares (on_byte operation j s)
      by false e = on_byte-other operation j s i (sym e)
      by true e =
          let none : has_byte j s ≡ false = no_byte-there (slice_get s.streams j.0) (at_it (sym e)) in
          let is : on_byte operation j s ≡ nothing s = rw none refl in
          subst Spares (sym is) refl

  pub source-spares : (operation : ReadableOperation) → slice_get (on_source operation j s).slots.streams i.0 ≡ slice_get s.streams i.0
  source-spares operation = by (is_same i j) refl
    where
      by : (same : Bool) → same ≡ is_same i j → Spares (on_source operation j s)
      by false e = on_source-other operation j s i (sym e)
      by true e =
          let no_byte : has_byte j s ≡ false = no_byte-there (slice_get s.streams j.0) (at_it (sym e)) in
          let none : has_readable j s ≡ false = no_readable-there (slice_get s.streams j.0) (at_it (sym e)) in
          let is : on_source operation j s ≡ nothing s = rw (no_byte, none) refl in
          subst Spares (sym is) refl
