-- What stands on the agenda of the lock of a stream: operations that take it, and that let go of it.
use Rattle.ws_steps.specs.declared.effects.Effect.TheVariants.{StartAlgorithm, Give}
use Rattle.ws_steps.specs.declared.calls.StartBy.TheVariants.{Now}
use Rattle.std.proofs.Common.{◌≡◌, ℕ, List, [], ◌∷◌, refl, arith}
use Rattle.ws_value.specs.declared.ids.StreamId.{StreamId}
use Rattle.ws_steps.specs.declared.byte.ByteOperation.{ByteOperation}
use Rattle.ws_steps.specs.declared.byte.ByteOperation.TheVariants.{InitializeByobReader}
use Rattle.ws_steps.specs.declared.effects.Effect.{Effect}
use Rattle.ws_steps.specs.declared.effects.Effect.TheVariants.{Readable as OnReadable, Byte, Writable as OnWritable}
use Rattle.ws_steps.specs.declared.readable.ReadableOperation.{ReadableOperation}
use Rattle.ws_steps.specs.declared.readable.ReadableOperation.TheVariants.{InitializeReader, ReleaseReader}
use Rattle.ws_steps.specs.declared.writable.WritableOperation.{WritableOperation}
use Rattle.ws_steps.specs.declared.writable.WritableOperation.TheVariants.{SetUpWriter, ReleaseWriter}
use Rattle.ws_steps.specs.Histories.{is_same}
use Rattle.ws_laws.proofs.Lists.{Each}
use Rattle.ws_writable_laws.proofs.Shape.{all}
use Rattle.ws_pipe_laws.specs.pipes.PipeReads.{one_if}
use Rattle.ws_pipe_laws.specs.locks.Locks.{Side, Reading, Writing}

-- the lock of stream i is taken

abbrev pub reader_takes : StreamId → StreamId → ReadableOperation → ℕ
reader_takes i j (InitializeReader closed) = one_if (is_same i j)
reader_takes i j _ = 0

abbrev pub byob_takes : StreamId → StreamId → ByteOperation → ℕ
byob_takes i j (InitializeByobReader closed) = one_if (is_same i j)
byob_takes i j _ = 0

abbrev pub writer_takes : StreamId → StreamId → WritableOperation → ℕ
writer_takes i j (SetUpWriter w) = one_if (is_same i j)
writer_takes i j _ = 0

abbrev pub takes : Side → StreamId → Effect → ℕ
takes Reading i (OnReadable j operation) = reader_takes i j operation
takes Reading i (Byte j operation) = byob_takes i j operation
takes Reading i _ = 0
takes Writing i (OnWritable j operation) = writer_takes i j operation
takes Writing i _ = 0

-- and it is let go of

abbrev pub reader_goes : StreamId → StreamId → ReadableOperation → ℕ
reader_goes i j ReleaseReader = one_if (is_same i j)
reader_goes i j _ = 0

abbrev pub writer_goes : StreamId → StreamId → WritableOperation → ℕ
writer_goes i j ReleaseWriter = one_if (is_same i j)
writer_goes i j _ = 0

abbrev pub goes : Side → StreamId → Effect → ℕ
goes Reading i (OnReadable j operation) = reader_goes i j operation
goes Reading i _ = 0
goes Writing i (OnWritable j operation) = writer_goes i j operation
goes Writing i _ = 0

-- effects by which no lock is taken

abbrev pub IsNoTake : Effect → Type 0
IsNoTake (OnReadable j (InitializeReader closed)) = ⊥
IsNoTake (Byte j (InitializeByobReader closed)) = ⊥
IsNoTake (OnWritable j (SetUpWriter w)) = ⊥
IsNoTake _ = Unit {0}

pub takes_none : (d : Side) (i : StreamId) (e : Effect) → IsNoTake e → takes d i e ≡ 0
takes_none d i e n = grind (arith, n)

pub takes_none-all : (d : Side) (i : StreamId) (es : List Effect) → Each IsNoTake es → all (takes d i) es ≡ 0
takes_none-all d i [] n = refl
takes_none-all d i (e ∷ es) n = let k = takes_none d i e n.0 in let rest = takes_none-all d i es n.1 in omega (arith, k, rest)

-- and none is let go of

abbrev pub IsCalm : Effect → Type 0
IsCalm (OnReadable j (InitializeReader closed)) = ⊥
IsCalm (OnReadable j ReleaseReader) = ⊥
IsCalm (Byte j (InitializeByobReader closed)) = ⊥
IsCalm (OnWritable j (SetUpWriter w)) = ⊥
IsCalm (OnWritable j ReleaseWriter) = ⊥
IsCalm _ = Unit {0}

pub calm_takes : (e : Effect) → IsCalm e → IsNoTake e
calm_takes e c = grind (arith, c)

pub goes_none : (d : Side) (i : StreamId) (e : Effect) → IsCalm e → goes d i e ≡ 0
goes_none d i e c = grind (arith, c)

pub goes_none-all : (d : Side) (i : StreamId) (es : List Effect) → Each IsCalm es → all (goes d i) es ≡ 0
goes_none-all d i [] n = refl
goes_none-all d i (e ∷ es) n = let k = goes_none d i e n.0 in let rest = goes_none-all d i es n.1 in omega (arith, k, rest)

-- operations that take a lock stand before all others, but for those by which a start goes on
abbrev pub TakesFirst : List Effect → Type 0
TakesFirst [] = Unit {0}
TakesFirst (StartAlgorithm j step Now ∷ es) = TakesFirst es
TakesFirst (Give gift u ∷ es) = TakesFirst es
TakesFirst (OnReadable j (InitializeReader closed) ∷ es) = TakesFirst es
TakesFirst (Byte j (InitializeByobReader closed) ∷ es) = TakesFirst es
TakesFirst (OnWritable j (SetUpWriter w) ∷ es) = TakesFirst es
TakesFirst (e ∷ es) = Each IsNoTake es

pub takes_first : (es : List Effect) → Each IsNoTake es → TakesFirst es
takes_first [] n = tt
takes_first (e ∷ es) n = by e n.0 (takes_first es n.1)
  where
    by : (e : Effect) → IsNoTake e → TakesFirst es → TakesFirst (e ∷ es)
    by e k rest = grind (arith, k, n, rest)

abbrev pub IsNoStart : Effect → Type 0
IsNoStart (StartAlgorithm j step start) = ⊥
IsNoStart (Give gift u) = ⊥
IsNoStart _ = Unit {0}

-- behind another operation stands none that takes one
pub takes_behind : (e : Effect) (es : List Effect) → IsNoTake e → IsNoStart e → TakesFirst (e ∷ es) → Each IsNoTake es
takes_behind e es n m t = grind (arith, n, m, t)
