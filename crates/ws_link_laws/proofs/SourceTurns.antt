-- A turn of an operation of a readable stream, with a controller of either kind: of the source, or of another.
use Rattle.std.proofs.Common.{◌≡◌, ◌⊎◌, ℕ, ◌≤◌, Bool, true, false, ◌||◌, List, [], ◌∷◌, ◌++◌, Option, Some, slice_get, refl, sym, ap, subst, ◌∙◌, arith}
use Rattle.ws_value.specs.declared.ids.PipeId.{PipeId}
use Rattle.ws_value.specs.declared.ids.StreamId.{StreamId}
use Rattle.ws_value.specs.declared.value.Value.{Value}
use Rattle.ws_steps.specs.declared.byte.ByteOperation.{ByteOperation}
use Rattle.ws_steps.specs.declared.byte.ByteOperation.TheVariants.{InitializeByobReader}
use Rattle.ws_steps.specs.declared.effects.Effect.{Effect}
use Rattle.ws_steps.specs.declared.effects.Effect.TheVariants.{Readable as OnReadable, Byte as OnByte, Pipe as OnPipe, ChunkSteps}
use Rattle.ws_steps.specs.declared.effects.Owner.{Owner}
use Rattle.ws_steps.specs.declared.effects.Owner.TheVariants.{Host, HalfOf, BranchOf, EndOf}
use Rattle.ws_steps.specs.declared.readable.ReadableOperation.{ReadableOperation}
use Rattle.ws_steps.specs.declared.readable.ReadableOperation.TheVariants.{Read, Cancel, CancelIfReadable, Enqueue}
use Rattle.ws_steps.specs.declared.readable.ReadableState.TheVariants.{Closed as ReadableClosed}
use Rattle.ws_steps.specs.Bytes as byte
use Rattle.ws_steps.specs.Bytes.{shown}
use Rattle.ws_steps.specs.Histories.{is_same}
use Rattle.ws_steps.specs.Operations.{readable_operation, byte_readable_operation, byte_operation}
use Rattle.ws_steps.specs.Readable as readable
use Rattle.ws_steps.specs.Slots.{Slots, Done, Stream, ReadableStream, ByteStream, has_readable, has_byte, owner_at, readable_at, byte_at, source_at, writable_at, pipe_at, is_readable_stream, is_byte_stream, as_byte, as_source}
use Rattle.ws_steps.specs.Turns.{row}
use Rattle.ws_flow.specs.Told.{Lost, Told, told, then_told, IsShortOf}
use Rattle.ws_flow.proofs.Told.{short_refl}
use Rattle.ws_laws.proofs.Lists.{Each, each-append}
use Rattle.ws_laws.proofs.Apart.{IsNoPipe, row-pipes}
use Rattle.ws_laws.proofs.Causes.{row-causes}
use Rattle.ws_laws.proofs.Tables.{is_same-refl, same_id, readable_acts, byte_acts, readable_there, byte_there, no_byte_there, on_readable-same, on_byte-same, on_byte-other, on_byte-writable, on_source-byte, on_source-readable, on_source-other, on_source-writable}
use Rattle.ws_pipe_laws.proofs.pipes.AtSource.{Only, off, off-only, row-off}
use Rattle.ws_pipe_laws.proofs.pipes.PassingRuns.{row-few}
use Rattle.ws_writable_laws.proofs.Shape.{all, all-append}
use Rattle.ws_link_laws.specs.Entering.{entered, bytes_entered}
use Rattle.ws_link_laws.specs.Link.{OfSource, OfByteSource, silence, in_sink, in_source, in_pipe, ear_at, giver_by, giver_at, unheard}
use Rattle.ws_link_laws.specs.Sound.{SourceFits, IsBare}
use Rattle.ws_link_laws.proofs.Ahead.{row-ahead}
use Rattle.ws_link_laws.proofs.Hosts.{row-ear, row-giver, row-sinks, row-sources}
use Rattle.ws_link_laws.proofs.Telling.{tells, IsSilent, silent-all, hands, writes, chunks, coming, behind_on}
use Rattle.ws_link_laws.proofs.Unheard.{IsQuiet, row-unheard}
use Rattle.ws_link_laws.proofs.Sources.{is_cancel, IsOwn, SourceKept, source_keeps}
use Rattle.ws_link_laws.proofs.ByteSources.{IsPlain, bare_keeps, bytes_keep}
use Rattle.ws_link_laws.proofs.Pipes.{rank, closes_map}
use Rattle.ws_link_laws.proofs.Moves.{line-short, passes, in_pipe-short, late_pipe}
use Rattle.ws_link_laws.proofs.Standing.{IsInner, IsNotLast, at_end-append, State, Sound, split, chunks_silent, chunks-apart}

-- an effect of another stream than i
abbrev IsOfOther : StreamId → Effect → Type 0
IsOfOther i (ChunkSteps k request v) = is_same i k ≡ false
IsOfOther i (OnPipe q operation) = ⊥
IsOfOther i _ = Unit {0}

-- what is left of a link by a turn
pub record Turned (i j : StreamId) (p : PipeId) (s : Slots) (e : Effect) (es : List Effect) : Type 0 where
  pub sound : Sound i j p (row e s).slots ((row e s).caused ++ es)
  pub short : IsShortOf (behind_on i j p (row e s).slots ((row e s).caused ++ es)) (behind_on i j p s (e ∷ es))

-- what an effect causes that is an operation of a readable stream: no call, no write, and nothing that comes
pub record Asking (i j : StreamId) (p : PipeId) (s : Slots) (e : Effect) : Type 0 where
  pub far : IsNoPipe e
  pub quiet : IsQuiet (ear_at j s) e
  pub sink : writable_at j (row e s).slots ≡ writable_at j s
  pub quiet_hands : tells (hands (ear_at j s)) (row e s).caused ≡ silence
  pub quiet_writes : tells (writes j) (row e s).caused ≡ silence
  pub quiet_coming : tells (coming (giver_at i s) i) (row e s).caused ≡ silence
  pub inner : (n : ℕ) → Each (IsInner i j p n) (row e s).caused
  pub last : Each (IsNotLast p) (row e s).caused
  pub no_hand : hands (ear_at j s) e ≡ silence
  pub no_write : writes j e ≡ silence
  pub no_chunk : chunks p e ≡ silence

readable-asking : (i j : StreamId) (p : PipeId) (s : Slots) (k : StreamId) (operation : ReadableOperation) → Asking i j p s (OnReadable k operation)
unfolding row
readable-asking i j p s k operation =
    let e : Effect = OnReadable k operation in
    record {
      far = tt;
      quiet = tt;
      sink = on_source-writable operation k s j;
      quiet_hands = silent-all (hands (ear_at j s)) _ (row-causes (IsSilent (hands (ear_at j s))) e s (record { pull = refl; cancel = λ r q. refl; chunk = λ request v. refl; close = λ request. refl; error = λ request r. refl }));
      quiet_writes = silent-all (writes j) _ (row-causes (IsSilent (writes j)) e s (record { pull = refl; cancel = λ r q. refl; chunk = λ request v. refl; close = λ request. refl; error = λ request r. refl }));
      quiet_coming = silent-all (coming (giver_at i s) i) _
          (row-causes (IsSilent (coming (giver_at i s) i)) e s (record { pull = refl; cancel = λ r q. refl; chunk = λ request v. refl; close = λ request. refl; error = λ request r. refl }));
      inner = λ n. row-causes (IsInner i j p n) e s (record { pull = tt; cancel = λ r q. tt; chunk = λ request v. tt; close = λ request. tt; error = λ request r. tt });
      last = row-causes (IsNotLast p) e s (record { pull = refl; cancel = λ r q. refl; chunk = λ request v. refl; close = λ request. refl; error = λ request r. refl });
      no_hand = refl;
      no_write = refl;
      no_chunk = refl;
    }

byte-asking : (i j : StreamId) (p : PipeId) (s : Slots) (k : StreamId) (operation : ByteOperation) → Asking i j p s (OnByte k operation)
unfolding row
byte-asking i j p s k operation =
    let e : Effect = OnByte k operation in
    record {
      far = tt;
      quiet = tt;
      sink = on_byte-writable (byte_operation k operation) k s j;
      quiet_hands = silent-all (hands (ear_at j s)) _
          (row-causes (IsSilent (hands (ear_at j s))) e s (record { readable = record { pull = refl; cancel = λ r q. refl; chunk = λ request v. refl; close = λ request. refl; error = λ request r. refl }; close_with = λ r b. refl }));
      quiet_writes = silent-all (writes j) _
          (row-causes (IsSilent (writes j)) e s (record { readable = record { pull = refl; cancel = λ r q. refl; chunk = λ request v. refl; close = λ request. refl; error = λ request r. refl }; close_with = λ r b. refl }));
      quiet_coming = silent-all (coming (giver_at i s) i) _
          (row-causes (IsSilent (coming (giver_at i s) i)) e s (record { readable = record { pull = refl; cancel = λ r q. refl; chunk = λ request v. refl; close = λ request. refl; error = λ request r. refl }; close_with = λ r b. refl }));
      inner = λ n. row-causes (IsInner i j p n) e s (record { readable = record { pull = tt; cancel = λ r q. tt; chunk = λ request v. tt; close = λ request. tt; error = λ request r. tt }; close_with = λ r b. tt });
      last = row-causes (IsNotLast p) e s (record { readable = record { pull = refl; cancel = λ r q. refl; chunk = λ request v. refl; close = λ request. refl; error = λ request r. refl }; close_with = λ r b. refl });
      no_hand = refl;
      no_write = refl;
      no_chunk = refl;
    }

module _ (i j : StreamId) (p : PipeId) (s : Slots) (e : Effect) (es : List Effect) (q : Asking i j p s e) where
  abbrev z : Slots
  z = (row e s).slots

  abbrev cs : List Effect
  cs = (row e s).caused

  pipes : z.pipes ≡ s.pipes
  pipes = row-pipes e s q.far

  sound-by : State i j p z → Sound i j p s (e ∷ es) → Sound i j p z (cs ++ es)
  sound-by st h = record {
    state = st;
    ahead = row-ahead i j s e es h.ahead;
    few = row-few p s e es h.few;
    only = off-only p i s e es (row-off p i s e q.far) h.only;
    inner = rw pipes (each-append (IsInner i j p (rank (pipe_at p s).phase)) cs es (q.inner (rank (pipe_at p s).phase)) h.inner.1);
    ends = at_end-append j p cs es q.last h.ends.1;
  }

  -- the state, where the source is left so
  state-by : (r : readable.Slots) → source_at i z ≡ r → IsBare (byte_at i z) → State i j p s → SourceFits p r → (((source_at i s).state ≡ ReadableClosed) → r.state ≡ ReadableClosed) → State i j p z
  state-by r same bare st fits stays = record {
    source = row-sources i e s ∙ st.source;
    bare = bare;
    sink = row-sinks j e s ∙ st.sink;
    there = rw pipes st.there;
    from = rw pipes st.from;
    into = rw pipes st.into;
    apart = rw pipes st.apart;
    source_fits = rw same fits;
    sink_fits = rw q.sink st.sink_fits;
    closes = rw (pipes, same) (closes_map (pipe_at p s).phase (pipe_at p s).action stays st.closes);
  }

  -- what is told, where nothing but the source and the chunks on their way changes

  told-by : (r : readable.Slots) → source_at i z ≡ r
      → IsShortOf (in_pipe (pipe_at p s) (then_told (then_told (tells (chunks p) cs) (tells (chunks p) es)) (then_told (in_source r) (tells (coming (giver_at i s) i) es))))
      (in_pipe (pipe_at p s) (then_told (tells (chunks p) es) (then_told (in_source (source_at i s)) (then_told (coming (giver_at i s) i e) (tells (coming (giver_at i s) i) es)))))
      → IsShortOf (behind_on i j p z (cs ++ es)) (behind_on i j p s (e ∷ es))
  told-by r same h =
      rw (split i j p z cs es, row-ear j e s, row-giver i e s, row-unheard (ear_at j s) e s q.quiet, q.quiet_hands, q.quiet_writes, q.quiet_coming, q.sink, pipes, same, q.no_hand, q.no_write, q.no_chunk)
      (line-short (unheard (ear_at j s) s.promises.events) (tells (hands (ear_at j s)) es) (in_sink (writable_at j s)) (tells (writes j) es) _ _ h)

  -- of another stream, which gives the pipe nothing
  apart-turned : Sound i j p s (e ∷ es) → source_at i z ≡ source_at i s → byte_at i z ≡ byte_at i s → tells (chunks p) cs ≡ silence → coming (giver_at i s) i e ≡ silence → Turned i j p s e es
  apart-turned h same bytes none quiet = record {
    sound = sound-by (state-by (source_at i s) same (rw bytes h.state.bare) h.state h.state.source_fits (λ c. c)) h;
    short = told-by (source_at i s) same (rw (none, quiet) (short_refl (in_pipe (pipe_at p s) (then_told (tells (chunks p) es) (then_told (in_source (source_at i s)) (tells (coming (giver_at i s) i) es))))));
  }

  -- of the source, where it lets in t
  kept-turned : Sound i j p s (e ∷ es) → (t : Told Value) (cancels : Bool) (r : readable.Slots) → SourceKept p t cancels (source_at i s) r cs → source_at i z ≡ r → IsBare (byte_at i z) → coming (giver_at i s) i e ≡ t
      → (cancels ≡ true → 2 ≤ rank (pipe_at p s).phase) → Turned i j p s e es
  kept-turned h t cancels r k same bare comes late =
      let sound = sound-by (state-by r same bare h.state k.fits k.stays) h in
      record { sound = sound; short = told-by r same (by (chunks-apart p z cs es sound.few) cancels refl) }
    where
      by : (tells (chunks p) cs ≡ silence) ⊎ (tells (chunks p) es ≡ silence) → (c : Bool) → c ≡ cancels
          → IsShortOf (in_pipe (pipe_at p s) (then_told (then_told (tells (chunks p) cs) (tells (chunks p) es)) (then_told (in_source r) (tells (coming (giver_at i s) i) es))))
          (in_pipe (pipe_at p s) (then_told (tells (chunks p) es) (then_told (in_source (source_at i s)) (then_told (coming (giver_at i s) i e) (tells (coming (giver_at i s) i) es)))))
      by apart true c =
          let l = late (sym c) in
          rw (
            late_pipe (pipe_at p s) (then_told (then_told (tells (chunks p) cs) (tells (chunks p) es)) (then_told (in_source r) (tells (coming (giver_at i s) i) es))) l,
            late_pipe (pipe_at p s) (then_told (tells (chunks p) es) (then_told (in_source (source_at i s)) (then_told (coming (giver_at i s) i e) (tells (coming (giver_at i s) i) es)))) l,
          ) (short_refl (told [] Lost))
      by apart false c =
          rw comes
          (in_pipe-short (pipe_at p s)
          (then_told (then_told (tells (chunks p) cs) (tells (chunks p) es)) (then_told (in_source r) (tells (coming (giver_at i s) i) es)))
          (then_told (tells (chunks p) es) (then_told (in_source (source_at i s)) (then_told t (tells (coming (giver_at i s) i) es))))
          (passes (tells (chunks p) es) (in_source (source_at i s)) (tells (coming (giver_at i s) i) es) (tells (chunks p) cs) (in_source r) t (k.short (sym c)) apart))

-- another stream gives the pipe nothing

off_silent : (i : StreamId) (p : PipeId) (e : Effect) → IsOfOther i e → off p i e ≡ 0 → chunks p e ≡ silence
off_silent i p (ChunkSteps k r v) n e = chunks_silent p (ChunkSteps k r v) (rw n at e)
off_silent i p (OnPipe q operation) n e = absurd n
off_silent i p _ n e = refl

off-silent : (i : StreamId) (p : PipeId) (es : List Effect) → Each (IsOfOther i) es → all (off p i) es ≡ 0 → tells (chunks p) es ≡ silence
off-silent i p [] n e = refl
off-silent i p (x ∷ es) n e =
    let a : off p i x ≡ 0 = omega (arith, e) in
    let b : all (off p i) es ≡ 0 = omega (arith, e) in
    rw (off_silent i p x n.0 a, off-silent i p es n.1 b) refl

off-caused : (i : StreamId) (p : PipeId) (z : Slots) (cs es : List Effect) → Each (IsOfOther i) cs → Only p i z.streams (cs ++ es) → tells (chunks p) cs ≡ silence
off-caused i p z cs es each only = let a = all-append (off p i) cs es in off-silent i p cs each (omega (arith, only, a))

pub off-chunks : (i : StreamId) (p : PipeId) (s : Slots) (k : StreamId) (operation : ReadableOperation) (es : List Effect) → is_same i k ≡ false → Only p i (row (OnReadable k operation) s).slots.streams ((row (OnReadable k operation) s).caused ++ es)
    → tells (chunks p) (row (OnReadable k operation) s).caused ≡ silence
off-chunks i p s k operation es n only =
    off-caused i p (row (OnReadable k operation) s).slots (row (OnReadable k operation) s).caused es
    (row-causes (IsOfOther i) (OnReadable k operation) s (record { pull = tt; cancel = λ r q. tt; chunk = λ request v. n; close = λ request. tt; error = λ request r. tt })) only

pub off-bytes : (i : StreamId) (p : PipeId) (s : Slots) (k : StreamId) (operation : ByteOperation) (es : List Effect) → is_same i k ≡ false → Only p i (row (OnByte k operation) s).slots.streams ((row (OnByte k operation) s).caused ++ es)
    → tells (chunks p) (row (OnByte k operation) s).caused ≡ silence
off-bytes i p s k operation es n only =
    off-caused i p (row (OnByte k operation) s).slots (row (OnByte k operation) s).caused es
    (row-causes (IsOfOther i) (OnByte k operation) s (record { readable = record { pull = tt; cancel = λ r q. tt; chunk = λ request v. n; close = λ request. tt; error = λ request r. tt }; close_with = λ r b. tt })) only

-- an operation of another stream

other-turned : (i j : StreamId) (p : PipeId) (s : Slots) (k : StreamId) (operation : ReadableOperation) (es : List Effect) → is_same i k ≡ false → Sound i j p s (OnReadable k operation ∷ es) → Turned i j p s (OnReadable k operation) es
unfolding row
other-turned i j p s k operation es n h =
    let e : Effect = OnReadable k operation in
    let at : slice_get (row e s).slots.streams i.0 ≡ slice_get s.streams i.0 = on_source-other operation k s i n in
    let only = off-only p i s e es (row-off p i s e tt) h.only in
    apart-turned i j p s e es (readable-asking i j p s k operation) h (ap as_source at) (ap as_byte at) (off-chunks i p s k operation es n only) (rw n refl)

other-byte : (i j : StreamId) (p : PipeId) (s : Slots) (k : StreamId) (operation : ByteOperation) (es : List Effect) → is_same i k ≡ false → Sound i j p s (OnByte k operation ∷ es) → Turned i j p s (OnByte k operation) es
unfolding row
other-byte i j p s k operation es n h =
    let e : Effect = OnByte k operation in
    let at : slice_get (row e s).slots.streams i.0 ≡ slice_get s.streams i.0 = on_byte-other (byte_operation k operation) k s i n in
    let only = off-only p i s e es (row-off p i s e tt) h.only in
    apart-turned i j p s e es (byte-asking i j p s k operation) h (ap as_source at) (ap as_byte at) (off-bytes i p s k operation es n only) (rw n refl)

-- an operation of the source

pub is_own : (i j : StreamId) (p : PipeId) (n : ℕ) (operation : ReadableOperation) → IsInner i j p n (OnReadable i operation) → IsOwn p operation
is_own i j p n (Read request) h = h (is_same-refl i)
is_own i j p n operation h = grind arith

pub acts-late : (i j : StreamId) (p : PipeId) (n : ℕ) (operation : ReadableOperation) → IsInner i j p n (OnReadable i operation) → is_cancel operation ≡ true → 2 ≤ n
acts-late i j p n (Cancel r q) h c = h (is_same-refl i)
acts-late i j p n (CancelIfReadable r q) h c = h (is_same-refl i)
acts-late i j p n operation h c = absurd (cc)

pub is_plain : (i j : StreamId) (p : PipeId) (n : ℕ) (operation : ByteOperation) → IsInner i j p n (OnByte i operation) → IsPlain operation
is_plain i j p n (InitializeByobReader c) h = let e = is_same-refl i in absurd (cc)
is_plain i j p n operation h = grind (arith, h)

-- what stands where there is no byte stream is bare
pub default-bare : (i : StreamId) (s : Slots) → has_byte i s ≡ false → IsBare (byte_at i s)
default-bare i s none = rw (no_byte_there (slice_get s.streams i.0) none) (record { auto = refl; descriptors = refl; reader = refl })

-- a stream with a default controller lets chunks in
default-entered : (o : Owner) (operation : ReadableOperation) → entered (giver_by false o) operation ≡ entered OfSource operation
default-entered Host operation = refl
default-entered (HalfOf t) (Enqueue v) = refl
default-entered (HalfOf t) operation = grind arith
default-entered (BranchOf t half) operation = refl
default-entered (EndOf c) operation = refl

pub is_default : (o : Option Stream) → is_readable_stream o || is_byte_stream o ≡ true → is_byte_stream o ≡ false → is_readable_stream o ≡ true
is_default o a b = grind (arith, a, b)

own-default : (i j : StreamId) (p : PipeId) (s : Slots) (operation : ReadableOperation) (es : List Effect) → has_byte i s ≡ false → Sound i j p s (OnReadable i operation ∷ es) → Turned i j p s (OnReadable i operation) es
unfolding row
own-default i j p s operation es none h =
    let e : Effect = OnReadable i operation in
    let n : ℕ = rank (pipe_at p s).phase in
    let there : has_readable i s ≡ true = is_default (slice_get s.streams i.0) h.state.source none in
    let b : readable.Acts = readable_operation i operation (readable_acts i s) in
    let r : source_at i s ≡ readable_at i s = ap as_source (readable_there (slice_get s.streams i.0) there) in
    let at : slice_get (row e s).slots.streams i.0 ≡ Some (ReadableStream b.slots) = ap (λ (d : Done). slice_get d.slots.streams i.0) (on_source-readable operation i s none) ∙ on_readable-same (readable_operation i operation) i s there in
    let caused : (row e s).caused ≡ b.out.effects = rw (none, there) refl in
    let fits : SourceFits p (readable_at i s) = rw (← r) h.state.source_fits in
    let k = source_keeps p i operation (readable_at i s) s.promises fits (is_own i j p n operation h.inner.0) in
    let kept : SourceKept p (entered OfSource operation) (is_cancel operation) (source_at i s) b.slots (row e s).caused = rw (r, caused) k in
    let gives : giver_at i s ≡ giver_by false (owner_at i s) = rw none refl in
    let self = is_same-refl i in
    kept-turned i j p s e es (readable-asking i j p s i operation) h (entered OfSource operation) (is_cancel operation) b.slots kept (ap as_source at)
    (default-bare i (row e s).slots (ap is_byte_stream at)) (rw (self, gives) (default-entered (owner_at i s) operation)) (acts-late i j p n operation h.inner.0)

own-bare : (i j : StreamId) (p : PipeId) (s : Slots) (operation : ReadableOperation) (es : List Effect) → has_byte i s ≡ true → Sound i j p s (OnReadable i operation ∷ es) → Turned i j p s (OnReadable i operation) es
unfolding row
own-bare i j p s operation es there h =
    let e : Effect = OnReadable i operation in
    let n : ℕ = rank (pipe_at p s).phase in
    let b : byte.Acts = byte_readable_operation i operation (byte_acts i s) in
    let r : source_at i s ≡ shown (byte_at i s) = ap as_source (byte_there (slice_get s.streams i.0) there) in
    let at : slice_get (row e s).slots.streams i.0 ≡ Some (ByteStream b.slots) = ap (λ (d : Done). slice_get d.slots.streams i.0) (on_source-byte operation i s there) ∙ on_byte-same (byte_readable_operation i operation) i s there in
    let caused : (row e s).caused ≡ b.out.effects = rw there refl in
    let fits : SourceFits p (shown (byte_at i s)) = rw (← r) h.state.source_fits in
    let k = bare_keeps p i operation (byte_at i s) s.promises h.state.bare fits (is_own i j p n operation h.inner.0) in
    let kept : SourceKept p (entered OfByteSource operation) (is_cancel operation) (source_at i s) (shown b.slots) (row e s).caused = rw (r, caused) k.1 in
    let gives : giver_at i s ≡ OfByteSource = rw there refl in
    let self = is_same-refl i in
    kept-turned i j p s e es (readable-asking i j p s i operation) h (entered OfByteSource operation) (is_cancel operation) (shown b.slots) kept (ap as_source at)
    (rw (ap as_byte at) k.0) (rw (self, gives) refl) (acts-late i j p n operation h.inner.0)

own-turned : (i j : StreamId) (p : PipeId) (s : Slots) (operation : ReadableOperation) (es : List Effect) → Sound i j p s (OnReadable i operation ∷ es) → Turned i j p s (OnReadable i operation) es
own-turned i j p s operation es h = by (has_byte i s) refl
  where
    by : (b : Bool) → b ≡ has_byte i s → Turned i j p s (OnReadable i operation) es
    by false e = own-default i j p s operation es (sym e) h
    by true e = own-bare i j p s operation es (sym e) h

-- an operation of a byte controller leaves a stream that has none

own-none : (i j : StreamId) (p : PipeId) (s : Slots) (operation : ByteOperation) (es : List Effect) → has_byte i s ≡ false → Sound i j p s (OnByte i operation ∷ es) → Turned i j p s (OnByte i operation) es
unfolding row
own-none i j p s operation es none h =
    let e : Effect = OnByte i operation in
    let same : (row e s).slots.streams ≡ s.streams = rw none refl in
    let caused : (row e s).caused ≡ [] = rw none refl in
    let gives : giver_at i s ≡ giver_by false (owner_at i s) = rw none refl in
    let self = is_same-refl i in
    apart-turned i j p s e es (byte-asking i j p s i operation) h (rw same refl) (rw same refl) (rw caused refl) (rw (self, gives) (none-entered (owner_at i s) operation))
  where
    none-entered : (o : Owner) (operation : ByteOperation) → bytes_entered (giver_by false o) operation ≡ silence
    none-entered Host operation = grind arith
    none-entered (HalfOf t) operation = grind arith
    none-entered (BranchOf t half) operation = grind arith
    none-entered (EndOf c) operation = grind arith

own-bytes : (i j : StreamId) (p : PipeId) (s : Slots) (operation : ByteOperation) (es : List Effect) → has_byte i s ≡ true → Sound i j p s (OnByte i operation ∷ es) → Turned i j p s (OnByte i operation) es
unfolding row
own-bytes i j p s operation es there h =
    let e : Effect = OnByte i operation in
    let n : ℕ = rank (pipe_at p s).phase in
    let b : byte.Acts = byte_operation i operation (byte_acts i s) in
    let r : source_at i s ≡ shown (byte_at i s) = ap as_source (byte_there (slice_get s.streams i.0) there) in
    let at : slice_get (row e s).slots.streams i.0 ≡ Some (ByteStream b.slots) = on_byte-same (byte_operation i operation) i s there in
    let caused : (row e s).caused ≡ b.out.effects = rw there refl in
    let fits : SourceFits p (shown (byte_at i s)) = rw (← r) h.state.source_fits in
    let k = bytes_keep p i operation (byte_at i s) s.promises h.state.bare fits (is_plain i j p n operation h.inner.0) in
    let kept : SourceKept p (bytes_entered OfByteSource operation) false (source_at i s) (shown b.slots) (row e s).caused = rw (r, caused) k.1 in
    let gives : giver_at i s ≡ OfByteSource = rw there refl in
    let self = is_same-refl i in
    kept-turned i j p s e es (byte-asking i j p s i operation) h (bytes_entered OfByteSource operation) false (shown b.slots) kept (ap as_source at)
    (rw (ap as_byte at) k.0) (rw (self, gives) refl) (λ c. absurd (cc))

own-byte : (i j : StreamId) (p : PipeId) (s : Slots) (operation : ByteOperation) (es : List Effect) → Sound i j p s (OnByte i operation ∷ es) → Turned i j p s (OnByte i operation) es
own-byte i j p s operation es h = by (has_byte i s) refl
  where
    by : (b : Bool) → b ≡ has_byte i s → Turned i j p s (OnByte i operation) es
    by false e = own-none i j p s operation es (sym e) h
    by true e = own-bytes i j p s operation es (sym e) h

pub readable-turned : (i j : StreamId) (p : PipeId) (s : Slots) (k : StreamId) (operation : ReadableOperation) (es : List Effect) → Sound i j p s (OnReadable k operation ∷ es) → Turned i j p s (OnReadable k operation) es
readable-turned i j p s k operation es h = by (is_same i k) refl
  where
    by : (same : Bool) → same ≡ is_same i k → Turned i j p s (OnReadable k operation) es
    by false n = other-turned i j p s k operation es (sym n) h
    by true n = subst (λ (x : StreamId). Sound i j p s (OnReadable x operation ∷ es) → Turned i j p s (OnReadable x operation) es) (same_id i k (sym n)) (own-turned i j p s operation es) h

pub byte-turned : (i j : StreamId) (p : PipeId) (s : Slots) (k : StreamId) (operation : ByteOperation) (es : List Effect) → Sound i j p s (OnByte k operation ∷ es) → Turned i j p s (OnByte k operation) es
byte-turned i j p s k operation es h = by (is_same i k) refl
  where
    by : (same : Bool) → same ≡ is_same i k → Turned i j p s (OnByte k operation) es
    by false n = other-byte i j p s k operation es (sym n) h
    by true n = subst (λ (x : StreamId). Sound i j p s (OnByte x operation ∷ es) → Turned i j p s (OnByte x operation) es) (same_id i k (sym n)) (own-byte i j p s operation es) h
