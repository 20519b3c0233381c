-- A turn of an operation of a readable stream, with a controller of either kind: of the source, or of another.
use Rattle.std.proofs.Common.{◌≡◌, ◌⊎◌, ℕ, ◌≤◌, Bool, true, false, if◌then◌else◌, List, [], ◌∷◌, ◌++◌, Some, slice_get, refl, sym, ap, subst, ◌∙◌}
use Rattle.ws_value.specs.declared.ids.PipeId.{PipeId}
use Rattle.ws_value.specs.declared.ids.StreamId.{StreamId}
use Rattle.ws_value.specs.declared.value.Value.{Value}
use Rattle.ws_steps.specs.declared.byte.ByteOperation.{ByteOperation}
use Rattle.ws_steps.specs.declared.effects.Effect.{Effect}
use Rattle.ws_steps.specs.declared.effects.Effect.TheVariants.{Readable as OnReadable, Byte as OnByte}
use Rattle.ws_steps.specs.declared.readable.ReadableOperation.{ReadableOperation}
use Rattle.ws_steps.specs.declared.readable.ReadableState.TheVariants.{Closed as ReadableClosed}
use Rattle.ws_steps.specs.Bytes as byte
use Rattle.ws_steps.specs.Bytes.{shown}
use Rattle.ws_steps.specs.Histories.{is_same}
use Rattle.ws_steps.specs.Operations.{readable_operation, byte_readable_operation, byte_operation}
use Rattle.ws_steps.specs.Readable as readable
use Rattle.ws_steps.specs.Readable.{can_close_or_enqueue}
use Rattle.ws_steps.specs.Slots.{Slots, Done, ReadableStream, ByteStream, has_readable, has_byte, owner_at, readable_at, byte_at, source_at, writable_at, pipe_at, is_byte_stream, as_byte, as_source}
use Rattle.ws_steps.specs.Turns.{row}
use Rattle.ws_steps.specs.WritableHistory.{writes_then, effect_writes}
use Rattle.ws_flow.specs.Told.{Lost, Told, told, then_told, IsShortOf}
use Rattle.ws_flow.proofs.Told.{then_assoc, then_empty, short_refl, short_as}
use Rattle.ws_laws.proofs.Lists.{Each, each-append}
use Rattle.ws_laws.proofs.Apart.{IsNoPipe, row-pipes}
use Rattle.ws_laws.proofs.Causes.{row-causes}
use Rattle.ws_laws.proofs.Tables.{is_same-refl, same_id, readable_acts, byte_acts, readable_there, byte_there, on_readable-same, on_byte-same, on_byte-other, on_byte-writable, on_source-byte, on_source-readable, on_source-other, on_source-writable}
use Rattle.ws_pipe_laws.proofs.pipes.AtSource.{off-only, row-off}
use Rattle.ws_pipe_laws.proofs.pipes.PassingRuns.{row-few}
use Rattle.ws_transform_laws.proofs.Halving.{going}
use Rattle.ws_transform_laws.proofs.PortHalving.{port-going}
use Rattle.ws_link_laws.specs.Entering.{entered, bytes_entered}
use Rattle.ws_link_laws.specs.Link.{OfSource, OfByteSource, silence, in_sink, in_source, in_pipe, giver_by, giver_at}
use Rattle.ws_link_laws.specs.Sound.{SourceFits, IsBare}
use Rattle.ws_link_laws.proofs.ByteSources.{bare_keeps, bytes_keep}
use Rattle.ws_link_laws.proofs.CallEnters.{source_shut}
use Rattle.ws_link_laws.proofs.Hosts.{row-sinks, row-sources, untied-same}
use Rattle.ws_link_laws.proofs.Moves.{passes, in_pipe-short, late_pipe}
use Rattle.ws_link_laws.proofs.Pipes.{rank, closes_map}
use Rattle.ws_link_laws.proofs.Sources.{is_cancel, SourceKept, source_keeps}
use Rattle.ws_link_laws.proofs.SourceTurns.{off-chunks, off-bytes, is_own, is_plain, acts-late, default-bare, is_default}
use Rattle.ws_link_laws.proofs.Standing.{IsInner, IsNotLast, at_end-append, State, chunks-apart}
use Rattle.ws_link_laws.proofs.Steps.{comes-last}
use Rattle.ws_link_laws.proofs.Telling.{tells, IsSilent, silent-all, writes, chunks}
use Rattle.ws_identity_laws.specs.Passing.{taken, effect_acts, effect_takes}
use Rattle.ws_identity_laws.proofs.Standing.{Stands, Turned, way, way-short, lies_on, split, shut-same}
use Rattle.ws_identity_laws.proofs.Takes.{default-entered, none-entered, none-taken}
use Rattle.ws_laws.proofs.Shapes.{row-owner, row-tee_shapes}

-- a source that can take nothing has come to an end
takes-end : (r : readable.Slots) (t : Told Value) → then_told (in_source r) t ≡ then_told (in_source r) (taken r t)
takes-end r t = by (can_close_or_enqueue r) refl
  where
    by : (can : Bool) → can ≡ can_close_or_enqueue r → then_told (in_source r) t ≡ then_told (in_source r) (if can then t else silence)
    by true e = refl
    by false e = shut-same (in_source r) t (source_shut r (sym e)) ∙ sym (then_empty (in_source r))

-- what an effect causes that is an operation of a readable stream
record Asking (i j : StreamId) (p : PipeId) (s : Slots) (e : Effect) : Type 0 where
  far : IsNoPipe e
  sink : writable_at j (row e s).slots ≡ writable_at j s
  quiet_writes : tells (writes j) (row e s).caused ≡ silence
  inner : (n : ℕ) → Each (IsInner i j p n) (row e s).caused
  last : Each (IsNotLast p) (row e s).caused
  no_write : writes j e ≡ silence
  no_chunk : chunks p e ≡ silence
  no_act : effect_acts j e s ≡ silence

readable-asking : (i j : StreamId) (p : PipeId) (s : Slots) (k : StreamId) (operation : ReadableOperation) → Asking i j p s (OnReadable k operation)
unfolding row
readable-asking i j p s k operation =
    let e : Effect = OnReadable k operation in
    record {
      far = tt;
      sink = on_source-writable operation k s j;
      quiet_writes = silent-all (writes j) _ (row-causes (IsSilent (writes j)) e s (record { pull = refl; cancel = λ r q. refl; chunk = λ request v. refl; close = λ request. refl; error = λ request r. refl }));
      inner = λ n. row-causes (IsInner i j p n) e s (record { pull = tt; cancel = λ r q. tt; chunk = λ request v. tt; close = λ request. tt; error = λ request r. tt });
      last = row-causes (IsNotLast p) e s (record { pull = refl; cancel = λ r q. refl; chunk = λ request v. refl; close = λ request. refl; error = λ request r. refl });
      no_write = refl;
      no_chunk = refl;
      no_act = refl;
    }

byte-asking : (i j : StreamId) (p : PipeId) (s : Slots) (k : StreamId) (operation : ByteOperation) → Asking i j p s (OnByte k operation)
unfolding row
byte-asking i j p s k operation =
    let e : Effect = OnByte k operation in
    record {
      far = tt;
      sink = on_byte-writable (byte_operation k operation) k s j;
      quiet_writes = silent-all (writes j) _
          (row-causes (IsSilent (writes j)) e s (record { readable = record { pull = refl; cancel = λ r q. refl; chunk = λ request v. refl; close = λ request. refl; error = λ request r. refl }; close_with = λ r b. refl }));
      inner = λ n. row-causes (IsInner i j p n) e s (record { readable = record { pull = tt; cancel = λ r q. tt; chunk = λ request v. tt; close = λ request. tt; error = λ request r. tt }; close_with = λ r b. tt });
      last = row-causes (IsNotLast p) e s (record { readable = record { pull = refl; cancel = λ r q. refl; chunk = λ request v. refl; close = λ request. refl; error = λ request r. refl }; close_with = λ r b. refl });
      no_write = refl;
      no_chunk = refl;
      no_act = refl;
    }

module _ (i j : StreamId) (p : PipeId) (s : Slots) (e : Effect) (es : List Effect) (q : Asking i j p s e) where
  abbrev z : Slots
  z = (row e s).slots

  abbrev cs : List Effect
  cs = (row e s).caused

  pipes : z.pipes ≡ s.pipes
  pipes = row-pipes e s q.far

  stands-by : State i j p z → Stands i j p s (e ∷ es) → Stands i j p z (cs ++ es)
  stands-by st h = record {
    state = st;
    history = writes_then h.history (effect_writes j e s);
    going = λ t. (going j t).row h.history s e es (h.going t);
    porting = λ c. (port-going j c).row h.history s e es (h.porting c);
    few = row-few p s e es h.few;
    only = off-only p i s e es (row-off p i s e q.far) h.only;
    inner = rw pipes (each-append (IsInner i j p (rank (pipe_at p s).phase)) cs es (q.inner (rank (pipe_at p s).phase)) h.inner.1);
    ends = at_end-append j p cs es q.last h.ends.1;
    untied = untied-same i s (row e s).slots (row-tee_shapes e s) ∙ h.untied;
    sunk = rw (row-owner j e s) h.sunk;
  }

  -- the state, where the source is left so
  state-by : (r : readable.Slots) → source_at i z ≡ r → IsBare (byte_at i z) → State i j p s → SourceFits p r → (((source_at i s).state ≡ ReadableClosed) → r.state ≡ ReadableClosed) → State i j p z
  state-by r same bare st fits stays = record {
    source = row-sources i e s ∙ st.source;
    bare = bare;
    sink = row-sinks j e s ∙ st.sink;
    there = rw pipes st.there;
    from = rw pipes st.from;
    into = rw pipes st.into;
    apart = rw pipes st.apart;
    source_fits = rw same fits;
    sink_fits = rw q.sink st.sink_fits;
    closes = rw (pipes, same) (closes_map (pipe_at p s).phase (pipe_at p s).action stays st.closes);
  }

  -- what lies, where nothing but the source and the chunks on their way changes
  told-by : (r : readable.Slots) → source_at i z ≡ r
      → IsShortOf (in_pipe (pipe_at p s) (then_told (then_told (tells (chunks p) cs) (tells (chunks p) es)) (in_source r))) (in_pipe (pipe_at p s) (then_told (then_told (tells (chunks p) es) (in_source (source_at i s))) (effect_takes i e s)))
      → IsShortOf (then_told (effect_acts j e s) (lies_on i j p z (cs ++ es))) (then_told (lies_on i j p s (e ∷ es)) (effect_takes i e s))
  told-by r same h =
      let K : Told Value = in_sink (writable_at j s) in
      let W : Told Value = tells (writes j) es in
      let after : IsShortOf (lies_on i j p z (cs ++ es)) (then_told (lies_on i j p s (e ∷ es)) (effect_takes i e s)) =
      rw (split i j p z cs es, q.quiet_writes, q.sink, pipes, same, q.no_write, q.no_chunk)
      (short_as _ (way K W (in_pipe (pipe_at p s) (then_told (then_told (tells (chunks p) es) (in_source (source_at i s))) (effect_takes i e s)))) _
      (comes-last K W (pipe_at p s) (then_told (tells (chunks p) es) (in_source (source_at i s))) (effect_takes i e s))
      (way-short K W _ _ h)) in
      subst (λ (t : Told Value). IsShortOf (then_told t (lies_on i j p z (cs ++ es))) (then_told (lies_on i j p s (e ∷ es)) (effect_takes i e s))) (sym q.no_act) after

  -- of another stream, which gives the pipe nothing
  apart-turned : Stands i j p s (e ∷ es) → source_at i z ≡ source_at i s → byte_at i z ≡ byte_at i s → tells (chunks p) cs ≡ silence → effect_takes i e s ≡ silence → Turned i j p s e es
  apart-turned h same bytes none quiet = record {
    stands = stands-by (state-by (source_at i s) same (rw bytes h.state.bare) h.state h.state.source_fits (λ c. c)) h;
    short = told-by (source_at i s) same
        (rw (none, quiet, then_empty (then_told (tells (chunks p) es) (in_source (source_at i s)))) (short_refl (in_pipe (pipe_at p s) (then_told (tells (chunks p) es) (in_source (source_at i s))))));
  }

  -- of the source, where it takes in t, if it can
  kept-turned : Stands i j p s (e ∷ es) → (t : Told Value) (cancels : Bool) (r : readable.Slots) → SourceKept p t cancels (source_at i s) r cs → source_at i z ≡ r → IsBare (byte_at i z) → effect_takes i e s ≡ taken (source_at i s) t
      → (cancels ≡ true → 2 ≤ rank (pipe_at p s).phase) → Turned i j p s e es
  kept-turned h t cancels r k same bare takes late =
      let stands = stands-by (state-by r same bare h.state k.fits k.stays) h in
      record { stands = stands; short = told-by r same (by (chunks-apart p z cs es stands.few) cancels refl) }
    where
      C : Told Value
      C = tells (chunks p) es

      S : Told Value
      S = in_source (source_at i s)

      by : (tells (chunks p) cs ≡ silence) ⊎ (tells (chunks p) es ≡ silence) → (c : Bool) → c ≡ cancels
          → IsShortOf (in_pipe (pipe_at p s) (then_told (then_told (tells (chunks p) cs) (tells (chunks p) es)) (in_source r))) (in_pipe (pipe_at p s) (then_told (then_told (tells (chunks p) es) (in_source (source_at i s))) (effect_takes i e s)))
      by apart true c =
          let l = late (sym c) in
          rw (
            late_pipe (pipe_at p s) (then_told (then_told (tells (chunks p) cs) (tells (chunks p) es)) (in_source r)) l,
            late_pipe (pipe_at p s) (then_told (then_told (tells (chunks p) es) (in_source (source_at i s))) (effect_takes i e s)) l,
          ) (short_refl (told [] Lost))
      by apart false c =
          let g : Told Value = tells (chunks p) cs in
          let L : Told Value = in_source r in
          let w : Told Value = taken (source_at i s) t in
          let one : IsShortOf (then_told g L) (then_told S w) = short_as (then_told g L) (then_told S t) (then_told S w) (takes-end (source_at i s) t) (k.short (sym c)) in
          let two : IsShortOf (then_told (then_told g C) (then_told L silence)) (then_told C (then_told S (then_told w silence))) = passes C S silence g L w one apart in
          let three : IsShortOf (then_told (then_told g C) L) (then_told (then_told C S) w) = rw (← then_empty L, then_assoc C S w, ← then_empty w) two in
          rw takes (in_pipe-short (pipe_at p s) (then_told (then_told g C) L) (then_told (then_told C S) w) three)

-- an operation of another stream

other-turned : (i j : StreamId) (p : PipeId) (s : Slots) (k : StreamId) (operation : ReadableOperation) (es : List Effect) → is_same i k ≡ false → Stands i j p s (OnReadable k operation ∷ es) → Turned i j p s (OnReadable k operation) es
unfolding row
other-turned i j p s k operation es n h =
    let e : Effect = OnReadable k operation in
    let at : slice_get (row e s).slots.streams i.0 ≡ slice_get s.streams i.0 = on_source-other operation k s i n in
    let only = off-only p i s e es (row-off p i s e tt) h.only in
    apart-turned i j p s e es (readable-asking i j p s k operation) h (ap as_source at) (ap as_byte at) (off-chunks i p s k operation es n only) (rw n refl)

other-byte : (i j : StreamId) (p : PipeId) (s : Slots) (k : StreamId) (operation : ByteOperation) (es : List Effect) → is_same i k ≡ false → Stands i j p s (OnByte k operation ∷ es) → Turned i j p s (OnByte k operation) es
unfolding row
other-byte i j p s k operation es n h =
    let e : Effect = OnByte k operation in
    let at : slice_get (row e s).slots.streams i.0 ≡ slice_get s.streams i.0 = on_byte-other (byte_operation k operation) k s i n in
    let only = off-only p i s e es (row-off p i s e tt) h.only in
    apart-turned i j p s e es (byte-asking i j p s k operation) h (ap as_source at) (ap as_byte at) (off-bytes i p s k operation es n only) (rw n refl)

-- an operation of the source

own-default : (i j : StreamId) (p : PipeId) (s : Slots) (operation : ReadableOperation) (es : List Effect) → has_byte i s ≡ false → Stands i j p s (OnReadable i operation ∷ es) → Turned i j p s (OnReadable i operation) es
unfolding row
own-default i j p s operation es none h =
    let e : Effect = OnReadable i operation in
    let n : ℕ = rank (pipe_at p s).phase in
    let there : has_readable i s ≡ true = is_default (slice_get s.streams i.0) h.state.source none in
    let b : readable.Acts = readable_operation i operation (readable_acts i s) in
    let r : source_at i s ≡ readable_at i s = ap as_source (readable_there (slice_get s.streams i.0) there) in
    let at : slice_get (row e s).slots.streams i.0 ≡ Some (ReadableStream b.slots) = ap (λ (d : Done). slice_get d.slots.streams i.0) (on_source-readable operation i s none) ∙ on_readable-same (readable_operation i operation) i s there in
    let caused : (row e s).caused ≡ b.out.effects = rw (none, there) refl in
    let fits : SourceFits p (readable_at i s) = rw (← r) h.state.source_fits in
    let k = source_keeps p i operation (readable_at i s) s.promises fits (is_own i j p n operation h.inner.0) in
    let kept : SourceKept p (entered OfSource operation) (is_cancel operation) (source_at i s) b.slots (row e s).caused = rw (r, caused) k in
    let gives : giver_at i s ≡ giver_by false (owner_at i s) = rw none refl in
    let self = is_same-refl i in
    kept-turned i j p s e es (readable-asking i j p s i operation) h (entered OfSource operation) (is_cancel operation) b.slots kept (ap as_source at)
    (default-bare i (row e s).slots (ap is_byte_stream at)) (rw (self, gives) (ap (λ t. taken (source_at i s) t) (default-entered (owner_at i s) operation))) (acts-late i j p n operation h.inner.0)

own-bare : (i j : StreamId) (p : PipeId) (s : Slots) (operation : ReadableOperation) (es : List Effect) → has_byte i s ≡ true → Stands i j p s (OnReadable i operation ∷ es) → Turned i j p s (OnReadable i operation) es
unfolding row
own-bare i j p s operation es there h =
    let e : Effect = OnReadable i operation in
    let n : ℕ = rank (pipe_at p s).phase in
    let b : byte.Acts = byte_readable_operation i operation (byte_acts i s) in
    let r : source_at i s ≡ shown (byte_at i s) = ap as_source (byte_there (slice_get s.streams i.0) there) in
    let at : slice_get (row e s).slots.streams i.0 ≡ Some (ByteStream b.slots) = ap (λ (d : Done). slice_get d.slots.streams i.0) (on_source-byte operation i s there) ∙ on_byte-same (byte_readable_operation i operation) i s there in
    let caused : (row e s).caused ≡ b.out.effects = rw there refl in
    let fits : SourceFits p (shown (byte_at i s)) = rw (← r) h.state.source_fits in
    let k = bare_keeps p i operation (byte_at i s) s.promises h.state.bare fits (is_own i j p n operation h.inner.0) in
    let kept : SourceKept p (entered OfByteSource operation) (is_cancel operation) (source_at i s) (shown b.slots) (row e s).caused = rw (r, caused) k.1 in
    let gives : giver_at i s ≡ OfByteSource = rw there refl in
    let self = is_same-refl i in
    kept-turned i j p s e es (readable-asking i j p s i operation) h (entered OfByteSource operation) (is_cancel operation) (shown b.slots) kept (ap as_source at)
    (rw (ap as_byte at) k.0) (rw (self, gives) refl) (acts-late i j p n operation h.inner.0)

own-turned : (i j : StreamId) (p : PipeId) (s : Slots) (operation : ReadableOperation) (es : List Effect) → Stands i j p s (OnReadable i operation ∷ es) → Turned i j p s (OnReadable i operation) es
own-turned i j p s operation es h = by (has_byte i s) refl
  where
    by : (b : Bool) → b ≡ has_byte i s → Turned i j p s (OnReadable i operation) es
    by false e = own-default i j p s operation es (sym e) h
    by true e = own-bare i j p s operation es (sym e) h

-- an operation of a byte controller leaves a stream that has none
own-none : (i j : StreamId) (p : PipeId) (s : Slots) (operation : ByteOperation) (es : List Effect) → has_byte i s ≡ false → Stands i j p s (OnByte i operation ∷ es) → Turned i j p s (OnByte i operation) es
unfolding row
own-none i j p s operation es none h =
    let e : Effect = OnByte i operation in
    let same : (row e s).slots.streams ≡ s.streams = rw none refl in
    let caused : (row e s).caused ≡ [] = rw none refl in
    let gives : giver_at i s ≡ giver_by false (owner_at i s) = rw none refl in
    let self = is_same-refl i in
    apart-turned i j p s e es (byte-asking i j p s i operation) h (rw same refl) (rw same refl) (rw caused refl) (rw (self, gives) (none-taken (source_at i s) _ (none-entered (owner_at i s) operation)))

own-bytes : (i j : StreamId) (p : PipeId) (s : Slots) (operation : ByteOperation) (es : List Effect) → has_byte i s ≡ true → Stands i j p s (OnByte i operation ∷ es) → Turned i j p s (OnByte i operation) es
unfolding row
own-bytes i j p s operation es there h =
    let e : Effect = OnByte i operation in
    let n : ℕ = rank (pipe_at p s).phase in
    let b : byte.Acts = byte_operation i operation (byte_acts i s) in
    let r : source_at i s ≡ shown (byte_at i s) = ap as_source (byte_there (slice_get s.streams i.0) there) in
    let at : slice_get (row e s).slots.streams i.0 ≡ Some (ByteStream b.slots) = on_byte-same (byte_operation i operation) i s there in
    let caused : (row e s).caused ≡ b.out.effects = rw there refl in
    let fits : SourceFits p (shown (byte_at i s)) = rw (← r) h.state.source_fits in
    let k = bytes_keep p i operation (byte_at i s) s.promises h.state.bare fits (is_plain i j p n operation h.inner.0) in
    let kept : SourceKept p (bytes_entered OfByteSource operation) false (source_at i s) (shown b.slots) (row e s).caused = rw (r, caused) k.1 in
    let gives : giver_at i s ≡ OfByteSource = rw there refl in
    let self = is_same-refl i in
    kept-turned i j p s e es (byte-asking i j p s i operation) h (bytes_entered OfByteSource operation) false (shown b.slots) kept (ap as_source at)
    (rw (ap as_byte at) k.0) (rw (self, gives) refl) (λ c. absurd (cc))

own-byte : (i j : StreamId) (p : PipeId) (s : Slots) (operation : ByteOperation) (es : List Effect) → Stands i j p s (OnByte i operation ∷ es) → Turned i j p s (OnByte i operation) es
own-byte i j p s operation es h = by (has_byte i s) refl
  where
    by : (b : Bool) → b ≡ has_byte i s → Turned i j p s (OnByte i operation) es
    by false e = own-none i j p s operation es (sym e) h
    by true e = own-bytes i j p s operation es (sym e) h

pub readable-turned : (i j : StreamId) (p : PipeId) (s : Slots) (k : StreamId) (operation : ReadableOperation) (es : List Effect) → Stands i j p s (OnReadable k operation ∷ es) → Turned i j p s (OnReadable k operation) es
readable-turned i j p s k operation es h = by (is_same i k) refl
  where
    by : (same : Bool) → same ≡ is_same i k → Turned i j p s (OnReadable k operation) es
    by false n = other-turned i j p s k operation es (sym n) h
    by true n = subst (λ (x : StreamId). Stands i j p s (OnReadable x operation ∷ es) → Turned i j p s (OnReadable x operation) es) (same_id i k (sym n)) (own-turned i j p s operation es) h

pub byte-turned : (i j : StreamId) (p : PipeId) (s : Slots) (k : StreamId) (operation : ByteOperation) (es : List Effect) → Stands i j p s (OnByte k operation ∷ es) → Turned i j p s (OnByte k operation) es
byte-turned i j p s k operation es h = by (is_same i k) refl
  where
    by : (same : Bool) → same ≡ is_same i k → Turned i j p s (OnByte k operation) es
    by false n = other-byte i j p s k operation es (sym n) h
    by true n = subst (λ (x : StreamId). Stands i j p s (OnByte x operation ∷ es) → Turned i j p s (OnByte x operation) es) (same_id i k (sym n)) (own-byte i j p s operation es) h
