-- A pipe whose source has ended reads nothing more; `each_ended_source_is_passed_on` follows.
use Rattle.std.proofs.Common.{◌≡◌, ◌≢◌, Bool, true, false, ◌||◌, if◌then◌else◌, List, [], ◌∷◌, ◌++◌, Option, Some, None, slice_get, refl, sym, ap, subst, ◌∙◌, append_assoc, append-nil, arith}
use Rattle.ws_value.specs.declared.{ids.PipeId.{PipeId}, ids.StreamId.{StreamId}, value.Value.{Value}}
use Rattle.ws_steps.specs.declared.effects.{Effect.{Effect}, Effect.TheVariants.{ChunkSteps}}
use Rattle.ws_steps.specs.declared.pipes.{Ends.{Ends}, PipeOperation.{PipeOperation}}
use Rattle.ws_steps.specs.declared.readable.{ReadRequest.{ReadRequest}, ReadableOperation.{ReadableOperation}, ReadableState.{ReadableState}, ReadableState.TheVariants.{Readable, Closed, Errored}}
use Rattle.ws_steps.specs.Histories.{is_same, along, over}
use Rattle.ws_steps.specs.Operations.{readable_operation, pipe_operation}
use Rattle.ws_steps.specs.Pipes as pipe
use Rattle.ws_steps.specs.Promises.{Table}
use Rattle.ws_steps.specs.Readable as readable
use Rattle.ws_steps.specs.Readable.{is_readable, call_pull_if_needed, accept, controller_enqueue, stream_close, stream_error, close_if_empty, controller_close, controller_error, after_take, pull_steps, default_reader_read, reader_generic_initialize, disturb, cancel_if_readable, start_settled, pull_settled, cancel_steps, stream_cancel, reader_release}
use Rattle.ws_steps.specs.ReadableHistory.{no_flow, flow_then, effect_flow, step_flow}
use Rattle.ws_steps.specs.Run.{Entry, run, step, moments_in}
use Rattle.ws_steps.specs.Slots.{Slots, Stream, ReadableStream, ByteStream, WritableStream, empty, is_readable_stream, is_byte_stream, as_readable, as_byte, as_source, has_byte, has_source, pipe_at, readable_at, byte_at, source_at}
use Rattle.ws_steps.specs.Turns.{Moment}
use Rattle.ws_laws.proofs.Lists.{append_cancel, append_none}
use Rattle.ws_laws.proofs.PipeDoes.{pipe-causes}
use Rattle.ws_laws.proofs.Tables.{is_same-refl}
use Rattle.ws_laws.proofs.Walker.{IsHistory}
use Rattle.ws_byte_laws.proofs.Ended.{IsNoChunkOf, run-none}
use Rattle.ws_byte_laws.proofs.Sound.{run-sound}
use Rattle.ws_readable_laws.proofs.EachStep.{each_readable_step}
use Rattle.ws_pipe_laws.specs.pipes.PipeHistory.{has_closed, is_over, Through, nothing_through, through_then, effect_through, step_through, run_through, given_for, effect_given, step_given, run_given, effect_moment, step_moments, run_moments}
use Rattle.ws_pipe_laws.specs.pipes.PipeMoves.{starting}
use Rattle.ws_pipe_laws.specs.pipes.PipeReads.{held_values}
use Rattle.ws_pipe_laws.specs.pipes.PipeWrites.{AllSince}
use Rattle.ws_pipe_laws.proofs.pipes.GivenBy.{each_pipe_reads_its_source}
use Rattle.ws_pipe_laws.proofs.pipes.PassingRuns.{through_history, each_pipe_passes}
use Rattle.ws_pipe_laws.proofs.writes.Orderly.{moments_history}
use Rattle.ws_pipe_laws.specs.locks.Locks.{Reading, has_lock}
use Rattle.ws_pipe_laws.proofs.locks.Owning.{each_pipe_owns_its_ends}
use Rattle.ws_end_laws.specs.wrote.WroteLaws.{through_in, IsPassedOn, EachEndedSourceIsPassedOn}
use Rattle.ws_end_laws.proofs.wrote.Fronts.{pipe_there, run-append, over-append}
use Rattle.ws_end_laws.proofs.wrote.Keeping.{IsReadable, pipe-kept, readable-kept}
use Rattle.ws_end_laws.proofs.wrote.Passed.{Passes, none_acts_while_a_chunk_is_left}

-- a stream that has ended stays so, and gives nothing

ended-operation : (i : StreamId) (operation : ReadableOperation) (a : readable.Acts) → is_readable a.slots.state ≡ false → is_readable (readable_operation i operation a).slots.state ≡ false
unfolding call_pull_if_needed accept controller_enqueue stream_close stream_error close_if_empty controller_close controller_error after_take pull_steps default_reader_read reader_generic_initialize disturb cancel_if_readable start_settled pull_settled cancel_steps stream_cancel reader_release
ended-operation i operation a e = grind (arith, e)

not_readable : (s : ReadableState) → is_readable s ≡ false → s ≢ Readable
not_readable Readable e = cc
not_readable Closed e = λ f. cc
not_readable Errored e = λ f. cc

pub source_there : (o : Option Stream) → has_lock Reading o ≡ true → (is_readable_stream o || is_byte_stream o) ≡ true
source_there None e = cc
source_there (Some (ReadableStream r)) e = refl
source_there (Some (ByteStream b)) e = refl
source_there (Some (WritableStream w)) e = cc

-- a stream with a default controller
default_there : (o : Option Stream) → (is_readable_stream o || is_byte_stream o) ≡ true → is_byte_stream o ≡ false → o ≡ Some (ReadableStream (as_readable o))
default_there None e n = cc
default_there (Some (ReadableStream r)) e n = refl
default_there (Some (ByteStream b)) e n = cc
default_there (Some (WritableStream w)) e n = cc

default_is : (o : Option Stream) → is_byte_stream o ≡ false → as_source o ≡ as_readable o
default_is o n = grind (arith, n)

byte_is : (o : Option Stream) → is_byte_stream o ≡ true → (as_source o).state ≡ (as_byte o).stream.state
byte_is o is = grind (arith, is)

no_byte_there : (o : Option Stream) (r : readable.Slots) → o ≡ Some (ReadableStream r) → is_byte_stream o ≡ false
no_byte_there o r e = rw e refl

module _ (i : StreamId) (p : PipeId) where
  one_given : (request : ReadRequest) (v : Value) (b : Bool) → (if b then record no_flow { given = v ∷ [] } else no_flow).given ≡ [] → (if b then given_for p request v else []) ≡ []
  one_given request v true e = cc
  one_given request v false e = refl

  effect_none : (e : Effect) (s : Slots) → (effect_flow i e s).given ≡ [] → effect_given i p e s ≡ []
  effect_none (ChunkSteps j request v) s n = one_given request v (is_same i j) n
  effect_none e s n = refl

  along_none : (ms : List Moment) → (along no_flow flow_then (effect_flow i) ms).given ≡ [] → along [] ◌++◌ (effect_given i p) ms ≡ []
  along_none [] n = refl
  along_none (m ∷ ms) n =
      let k = append_none (effect_flow i m.effect m.found).given (along no_flow flow_then (effect_flow i) ms).given n in
      rw (effect_none m.effect m.found k.0, along_none ms k.1) refl

  abbrev HasEnded : readable.Slots → Type 0
  HasEnded r = is_readable r.state ≡ false

  abbrev GivesNone : Entry → Slots → Type 0
  GivesNone x s = (readable_at i s).state ≢ Readable → (step_flow i s x).given ≡ []

  none_given : (zs before : List Entry) (s : Slots) → run before empty ≡ s → IsReadable i HasEnded s → run_given i p zs s ≡ []
  none_given [] before s e k = refl
  none_given (x ∷ zs) before s e k =
      let after : IsReadable i HasEnded (step s x) = readable-kept i HasEnded (ended-operation i) (x ∷ []) s k in
      let default : has_byte i (step (run before empty) x) ≡ false = rw e (no_byte_there (slice_get (step s x).streams i.0) (readable_at i (step s x)) after.0) in
      let flow : (step_flow i s x).given ≡ [] = subst (GivesNone x) e (λ n. ((each_readable_step before x i default).ended n).1) (not_readable (readable_at i s).state k.1) in
      let first : step_given i p s x ≡ [] = along_none (moments_in s x) flow in
      let next : run (before ++ x ∷ []) empty ≡ step s x = run-append before (x ∷ []) empty ∙ ap (λ (z : Slots). step z x) e in
      let rest : run_given i p zs (step s x) ≡ [] = none_given zs (before ++ x ∷ []) (step s x) next after in
      rw (first, rest) refl

  -- of a byte stream
  byte_none : (e : Effect) (s : Slots) → IsNoChunkOf i e → effect_given i p e s ≡ []
  byte_none (ChunkSteps j request v) s n = rw n refl
  byte_none e s n = refl

  source_none : (zs before : List Entry) → let s : Slots = run before empty in has_source i s ≡ true → is_readable (source_at i s).state ≡ false → run_given i p zs s ≡ []
  source_none zs before there ended = by (has_byte i (run before empty)) refl
    where
      by : (is : Bool) → has_byte i (run before empty) ≡ is → run_given i p zs (run before empty) ≡ []
      by true is =
          let s : Slots = run before empty in
          let over : is_readable (byte_at i s).stream.state ≡ false = ap is_readable (sym (byte_is (slice_get s.streams i.0) is)) ∙ ended in
          (run-none i (byte_at i s).stream.state over (effect_given i p) byte_none zs s (is, refl) (run-sound i before empty (λ e. cc))).0
      by false isnt =
          let s : Slots = run before empty in
          let same : source_at i s ≡ readable_at i s = default_is (slice_get s.streams i.0) isnt in
          none_given zs before s refl (default_there (slice_get s.streams i.0) there isnt, ap (λ (r : readable.Slots). is_readable r.state) (sym same) ∙ ended)

-- a source that is closed stays so
closed-operation : (i : StreamId) (operation : ReadableOperation) (a : readable.Acts) → has_closed a.slots.state ≡ true → has_closed (readable_operation i operation a).slots.state ≡ true
unfolding call_pull_if_needed accept controller_enqueue stream_close stream_error close_if_empty controller_close controller_error after_take pull_steps default_reader_read reader_generic_initialize disturb cancel_if_readable start_settled pull_settled cancel_steps stream_cancel reader_release
closed-operation i operation a e = grind (arith, e)

is_closed : (state : ReadableState) → has_closed state ≡ true → state ≡ Closed
is_closed Readable e = cc
is_closed Closed e = refl
is_closed Errored e = cc

pub closed-kept : (i : StreamId) (before : List Entry) (x : Entry) → let s : Slots = run before empty in has_source i s ≡ true → has_closed (source_at i s).state ≡ true → has_closed (source_at i (step s x)).state ≡ true
closed-kept i before x there c = by (has_byte i (run before empty)) refl
  where
    by : (is : Bool) → has_byte i (run before empty) ≡ is → has_closed (source_at i (step (run before empty) x)).state ≡ true
    by true is =
        let s : Slots = run before empty in
        let state : (byte_at i s).stream.state ≡ Closed = is_closed (byte_at i s).stream.state (ap has_closed (sym (byte_is (slice_get s.streams i.0) is)) ∙ c) in
        let k = (run-none i Closed refl (effect_given i (record { 0 = 0 })) (byte_none i (record { 0 = 0 })) (x ∷ []) s (is, state) (run-sound i before empty (λ e. cc))).1 in
        ap has_closed (byte_is (slice_get (step s x).streams i.0) k.0 ∙ k.1)
    by false isnt =
        let s : Slots = run before empty in
        let same : source_at i s ≡ readable_at i s = default_is (slice_get s.streams i.0) isnt in
        let k = readable-kept i (λ r. has_closed r.state ≡ true) (closed-operation i) (x ∷ []) s (default_there (slice_get s.streams i.0) there isnt, ap (λ (r : readable.Slots). has_closed r.state) (sym same) ∙ c) in
        let after : source_at i (step s x) ≡ readable_at i (step s x) = default_is (slice_get (step s x).streams i.0) (no_byte_there (slice_get (step s x).streams i.0) (readable_at i (step s x)) k.0) in
        ap (λ (r : readable.Slots). has_closed r.state) after ∙ k.1

values_history : IsHistory {H = List Value} [] ◌++◌
values_history = record { left = λ f. refl; right = λ f. append-nil f; assoc = λ f g h. append_assoc f g h }

source-operation : (p : PipeId) (d : StreamId) (ends : Ends) (operation : PipeOperation) (x : pipe.Slots) (t : Table) → x.source ≡ d → (pipe_operation p ends operation (starting x t)).slots.source ≡ d
source-operation p d ends operation x t e = (pipe-causes p ends operation (starting x t) tt).0 ∙ e

-- so the pipe reads nothing
none_read : (p : PipeId) (before zs : List Entry) → let s : Slots = run before empty in is_over (pipe_at p s).phase ≡ false → is_readable (source_at (pipe_at p s).source s).state ≡ false → (run_through p zs s).read ≡ []
none_read p before zs over ended =
    let s : Slots = run before empty in
    let i : StreamId = (pipe_at p s).source in
    let there : has_source i s ≡ true = source_there (slice_get s.streams i.0) ((each_pipe_owns_its_ends before p over).locked Reading) in
    let none : run_given i p zs s ≡ [] = source_none i p zs before there ended in
    let h : Through = run_through p before empty in
    let g : Through = run_through p zs s in
    let same : (pipe_at p (run (before ++ zs) empty)).source ≡ i =
    ap (λ (z : Slots). (pipe_at p z).source) (run-append before zs empty) ∙ pipe-kept p (λ y. y.source ≡ i) (source-operation p i) zs s (pipe_at p s) (pipe_there (slice_get s.pipes p.0) over) refl in
    let first : run_given i p before empty ≡ h.read = rw (is_same-refl i) at (each_pipe_reads_its_source before p i) in
    let whole : run_given i p (before ++ zs) empty ≡ (run_through p (before ++ zs) empty).read = rw (same, is_same-refl i) at (each_pipe_reads_its_source (before ++ zs) p i) in
    let given : run_given i p (before ++ zs) empty ≡ run_given i p before empty ++ run_given i p zs s = over-append [] ◌++◌ values_history (step_given i p) before zs empty in
    let read : (run_through p (before ++ zs) empty).read ≡ h.read ++ g.read = ap (λ (k : Through). k.read) (over-append nothing_through through_then through_history (step_through p) before zs empty) in
    let both : h.read ++ run_given i p zs s ≡ h.read ++ g.read = ap (λ (vs : List Value). vs ++ run_given i p zs s) (sym first) ∙ (sym given ∙ (whole ∙ read)) in
    sym (append_cancel h.read (run_given i p zs s) g.read both) ∙ none

-- what goes through in moments

module _ (p : PipeId) where
  through-append : (ms ns : List Moment) → through_in p (ms ++ ns) ≡ through_then (through_in p ms) (through_in p ns)
  through-append [] ns = sym (through_history.left (through_in p ns))
  through-append (m ∷ ms) ns = ap (through_then (effect_through p m.effect m.found)) (through-append ms ns) ∙ sym (through_history.assoc (effect_through p m.effect m.found) (through_in p ms) (through_in p ns))

  moments_same : (ms : List Moment) → along [] ◌++◌ effect_moment ms ≡ ms
  moments_same [] = refl
  moments_same (m ∷ ms) = ap (λ (ns : List Moment). m ∷ ns) (moments_same ms)

  through-step : (s : Slots) (x : Entry) → through_in p (step_moments s x) ≡ step_through p s x
  through-step s x = ap (through_in p) (moments_same (moments_in s x))

  through-run : (xs : List Entry) (s : Slots) → through_in p (run_moments xs s) ≡ run_through p xs s
  through-run [] s = refl
  through-run (x ∷ xs) s = through-append (step_moments s x) (run_moments xs (step s x)) ∙ (ap (λ (f : Through). through_then f (through_in p (run_moments xs (step s x)))) (through-step s x) ∙ ap (through_then (step_through p s x)) (through-run xs (step s x)))

since-at : (P : List Moment → Moment → Type 0) (past ms ns : List Moment) (m : Moment) → AllSince P past (ms ++ m ∷ ns) → P (past ++ ms) m
since-at P past [] ns m a = subst (λ (h : List Moment). P h m) (sym (append-nil past)) a.0
since-at P past (x ∷ ms) ns m a = subst (λ (h : List Moment). P h m) (append_assoc past (x ∷ []) ms) (since-at P (past ++ x ∷ []) ms ns m a.1)

-- all was passed on, nothing is read any more, and what is read is passed on, dropped or held
finish : (r p0 a b c d held : List Value) → p0 ++ a ≡ r → r ≡ (p0 ++ ((a ++ b) ++ c)) ++ (d ++ held) → (p0 ++ ((a ++ b) ++ c) ≡ r) × (d ≡ [])
finish r p0 a b c d held e all =
    let split : p0 ++ ((a ++ b) ++ c) ≡ r ++ (b ++ c) = ap (λ (vs : List Value). p0 ++ vs) (append_assoc a b c) ∙ (sym (append_assoc p0 a (b ++ c)) ∙ ap (λ (vs : List Value). vs ++ (b ++ c)) e) in
    let whole : r ++ [] ≡ r ++ ((b ++ c) ++ (d ++ held)) = append-nil r ∙ (all ∙ (ap (λ (vs : List Value). vs ++ (d ++ held)) split ∙ append_assoc r (b ++ c) (d ++ held))) in
    let none = append_none (b ++ c) (d ++ held) (sym (append_cancel r [] ((b ++ c) ++ (d ++ held)) whole)) in
    (split ∙ (ap (λ (vs : List Value). r ++ vs) none.0 ∙ append-nil r), (append_none d held none.1).0)

pub each_ended_source_is_passed_on : EachEndedSourceIsPassedOn
each_ended_source_is_passed_on before after x p ms ns m over ended split begins =
    let s : Slots = run before empty in
    let zs : List Entry = x ∷ after in
    let first : List Moment = run_moments before empty in
    let moments : run_moments (before ++ x ∷ []) empty ≡ (first ++ ms) ++ m ∷ ns =
    over-append [] ◌++◌ moments_history step_moments before (x ∷ []) empty ∙ (ap (λ (ks : List Moment). first ++ ks) (append-nil (step_moments s x) ∙ split) ∙ sym (append_assoc first ms (m ∷ ns))) in
    let all : AllSince (Passes p) [] ((first ++ ms) ++ m ∷ ns) = subst (λ (ks : List Moment). AllSince (Passes p) [] ks) moments (none_acts_while_a_chunk_is_left (before ++ x ∷ []) p) in
    let on : IsPassedOn (through_in p ((first ++ ms) ++ m ∷ [])) = since-at (Passes p) [] (first ++ ms) ns m all begins in
    let h : Through = run_through p before empty in
    let a : Through = through_in p (ms ++ m ∷ []) in
    let b : Through = through_in p ns in
    let c : Through = run_through p after (step s x) in
    let whole : Through = run_through p (before ++ zs) empty in
    let so_far : through_in p ((first ++ ms) ++ m ∷ []) ≡ through_then h a =
    ap (through_in p) (append_assoc first ms (m ∷ [])) ∙ (through-append p first (ms ++ m ∷ []) ∙ ap (λ (f : Through). through_then f a) (through-run p before empty)) in
    let in_step : step_through p s x ≡ through_then a b =
    sym (through-step p s x) ∙ (ap (through_in p) (split ∙ sym (append_assoc ms (m ∷ []) ns)) ∙ through-append p (ms ++ m ∷ []) ns) in
    let since : run_through p zs s ≡ through_then (through_then a b) c = ap (λ (f : Through). through_then f c) in_step in
    let is : whole ≡ through_then h (through_then (through_then a b) c) = over-append nothing_through through_then through_history (step_through p) before zs empty ∙ ap (through_then h) since in
    let none : (a.read ++ b.read) ++ c.read ≡ [] = sym (ap (λ (f : Through). f.read) since) ∙ none_read p before zs over ended in
    let none_first : a.read ≡ [] = (append_none a.read b.read (append_none (a.read ++ b.read) c.read none).0).0 in
    let passed : h.passed ++ a.passed ≡ h.read =
    sym (ap (λ (f : Through). f.passed) so_far) ∙ (on.passed ∙ (ap (λ (f : Through). f.read) so_far ∙ (ap (λ (vs : List Value). h.read ++ vs) none_first ∙ append-nil h.read))) in
    let read : whole.read ≡ h.read = ap (λ (f : Through). f.read) is ∙ (ap (λ (vs : List Value). h.read ++ vs) none ∙ append-nil h.read) in
    let gone : whole.passed ≡ h.passed ++ ((a.passed ++ b.passed) ++ c.passed) = ap (λ (f : Through). f.passed) is in
    let held : List Value = held_values (pipe_at p (run (before ++ zs) empty)).held in
    let passing = (each_pipe_passes (before ++ zs) p).all in
    let f = finish h.read h.passed a.passed b.passed c.passed whole.dropped held passed (sym read ∙ (passing ∙ ap (λ (vs : List Value). vs ++ (whole.dropped ++ held)) gone)) in
    record { passed = gone ∙ (f.0 ∙ sym read); dropped = f.1 }
