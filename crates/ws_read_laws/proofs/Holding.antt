-- Who has a stream: readers, pipes that go on, and tees. And what is seen of the agenda, where so many have the stream and it has a reader or
-- hasn't.
use Rattle.std.proofs.Common.{◌≡◌, ℕ, ◌+◌, ◌≤◌, zero, suc, Bool, true, false, List, [], ◌∷◌, ◌++◌, Option, Some, None, slice_get, slice_set, refl, ap, arith}
use Rattle.ws_value.specs.declared.{ids.StreamId.{StreamId}}
use Rattle.ws_steps.specs.declared.{locks.Lock.{Lock}, locks.Lock.TheVariants.{Reader, ByobReader, Writer, ReleasedWriter, Inner}, readable.ReadableOperation.{ReadableOperation}, readable.ReadableOperation.TheVariants.{InitializeReader, ReleaseReader, Read}}
use Rattle.ws_steps.specs.Histories.{is_same}
use Rattle.ws_steps.specs.Pipes as pipe
use Rattle.ws_steps.specs.Queues.{is_empty}
use Rattle.ws_laws.proofs.OnReadable.{Holders}
use Rattle.ws_promise_laws.proofs.Holds.{when}
use Rattle.ws_promise_laws.proofs.Streams.{goes_on}
use Rattle.ws_promise_laws.proofs.Tokens.{one_if}
use Rattle.ws_read_laws.proofs.Line.{Finds, has_after}
use Rattle.ws_read_laws.proofs.Marks.{Mark, Stands, Steps, Aborts, Looks, pending, given_of}
use Rattle.ws_steps.specs.Tee as tee
use Rattle.ws_laws.proofs.ReadableDoes.{is_taking}

-- how many readers have stream i

abbrev pub has : StreamId → Lock → ℕ
has i (Reader (Some j) closed) = one_if (is_same i j)
has i (Reader None closed) = 0
has i (ByobReader (Some j) closed) = one_if (is_same i j)
has i (ByobReader None closed) = 0
has i (Writer j) = 0
has i (ReleasedWriter w) = 0
has i Inner = 0

abbrev pub readers : StreamId → List Lock → ℕ
readers i [] = 0
readers i (l ∷ ls) = has i l + readers i ls

pub readers-append : (i : StreamId) (ls : List Lock) (l : Lock) → readers i (ls ++ l ∷ []) ≡ readers i ls + has i l
readers-append i [] l = omega arith
readers-append i (k ∷ ls) l = let n = readers-append i ls l in omega arith

some_lock : (k l : Lock) → ◌≡◌ {A = Option Lock} (Some k) (Some l) → k ≡ l
some_lock k l e = cc

pub readers-set : (i : StreamId) (n : ℕ) (ls : List Lock) (old new : Lock) → slice_get ls n ≡ Some old → readers i (slice_set ls n new) + has i old ≡ readers i ls + has i new
readers-set i n [] old new e = cc
readers-set i zero (k ∷ ls) old new e = rw (some_lock k old e) (omega arith)
readers-set i (suc n) (k ∷ ls) old new e = let rest = readers-set i n ls old new e in omega arith

pub readers-there : (i : StreamId) (n : ℕ) (ls : List Lock) (l : Lock) → slice_get ls n ≡ Some l → has i l ≤ readers i ls
readers-there i n [] l e = cc
readers-there i zero (k ∷ ls) l e = rw (some_lock k l e) (omega arith)
readers-there i (suc n) (k ∷ ls) l e = let rest = readers-there i n ls l e in omega arith

-- how many pipes that go on have it

abbrev pub holds : StreamId → pipe.Slots → ℕ
holds i x = when (goes_on x.phase) (one_if (is_same i x.source))

abbrev pub holding : StreamId → List pipe.Slots → ℕ
holding i [] = 0
holding i (x ∷ xs) = holds i x + holding i xs

-- and how many pipes have it as their source

abbrev pub sources : StreamId → List pipe.Slots → ℕ
sources i [] = 0
sources i (x ∷ xs) = one_if (is_same i x.source) + sources i xs

pub holding-append : (i : StreamId) (xs : List pipe.Slots) (x : pipe.Slots) → holding i (xs ++ x ∷ []) ≡ holding i xs + holds i x
holding-append i [] x = omega arith
holding-append i (y ∷ ys) x = let n = holding-append i ys x in omega (arith, n)

pub sources-append : (i : StreamId) (xs : List pipe.Slots) (x : pipe.Slots) → sources i (xs ++ x ∷ []) ≡ sources i xs + one_if (is_same i x.source)
sources-append i [] x = omega arith
sources-append i (y ∷ ys) x = let n = sources-append i ys x in omega (arith, n)

some_pipe : (x y : pipe.Slots) → ◌≡◌ {A = Option pipe.Slots} (Some x) (Some y) → x ≡ y
some_pipe x y e = cc

pub holding-set : (i : StreamId) (n : ℕ) (xs : List pipe.Slots) (old new : pipe.Slots) → slice_get xs n ≡ Some old → holding i (slice_set xs n new) + holds i old ≡ holding i xs + holds i new
holding-set i n [] old new e = cc
holding-set i zero (x ∷ xs) old new e = rw (some_pipe x old e) (omega arith)
holding-set i (suc n) (x ∷ xs) old new e = let rest = holding-set i n xs old new e in omega (arith, rest)

pub sources-set : (i : StreamId) (n : ℕ) (xs : List pipe.Slots) (old new : pipe.Slots) → slice_get xs n ≡ Some old → new.source ≡ old.source → sources i (slice_set xs n new) ≡ sources i xs
sources-set i n [] old new e s = cc
sources-set i zero (x ∷ xs) old new e s = rw (some_pipe x old e, s) refl
sources-set i (suc n) (x ∷ xs) old new e s = let rest = sources-set i n xs old new e s in omega (arith, rest)

one_holds : (b c : Bool) → when b (one_if c) ≤ one_if c
one_holds true c = omega arith
one_holds false c = omega arith

pub holding_few : (i : StreamId) (xs : List pipe.Slots) → holding i xs ≤ sources i xs
holding_few i [] = omega arith
holding_few i (x ∷ xs) = let n = one_holds (goes_on x.phase) (is_same i x.source) in let rest = holding_few i xs in omega (arith, n, rest)

-- how many tees have it as their source, for good

abbrev pub teeing : StreamId → List tee.Slots → ℕ
teeing i [] = 0
teeing i (x ∷ xs) = one_if (is_same i x.source) + teeing i xs

pub teeing-append : (i : StreamId) (xs : List tee.Slots) (x : tee.Slots) → teeing i (xs ++ x ∷ []) ≡ teeing i xs + one_if (is_same i x.source)
teeing-append i [] x = omega arith
teeing-append i (y ∷ ys) x = let n = teeing-append i ys x in omega (arith, n)

some_tee : (x y : tee.Slots) → ◌≡◌ {A = Option tee.Slots} (Some x) (Some y) → x ≡ y
some_tee x y e = cc

pub teeing-set : (i : StreamId) (n : ℕ) (xs : List tee.Slots) (old new : tee.Slots) → slice_get xs n ≡ Some old → new.source ≡ old.source → teeing i (slice_set xs n new) ≡ teeing i xs
teeing-set i n [] old new e s = cc
teeing-set i zero (x ∷ xs) old new e s = rw (some_tee x old e, s) refl
teeing-set i (suc n) (x ∷ xs) old new e s = let rest = teeing-set i n xs old new e s in omega (arith, rest)

pub teeing-there : (i : StreamId) (n : ℕ) (xs : List tee.Slots) (x : tee.Slots) → slice_get xs n ≡ Some x → one_if (is_same i x.source) ≤ teeing i xs
teeing-there i n [] x e = cc
teeing-there i zero (y ∷ xs) x e = rw (some_tee y x e) (omega arith)
teeing-there i (suc n) (y ∷ xs) x e = let rest = teeing-there i n xs x e in omega (arith, rest)

-- who has it in all
abbrev pub owners : StreamId → Holders → ℕ
owners i o = readers i o.locks + (holding i o.pipes + teeing i o.tees)

-- behind an operation that may take stand no steps that give a chunk
abbrev pub Gives : ReadableOperation → List Mark → Type 0
Gives operation ms = is_taking operation ≡ true → given_of (pending ms) ≡ []

pub gives-none : (operation : ReadableOperation) (ms : List Mark) → pending ms ≡ [] → Gives operation ms
gives-none operation ms none = λ e. ap given_of none

-- Behind an operation that may take stand no steps that give a chunk, and behind one of a pipe that isn't its abort nothing; and where nothing
-- stands, who has the stream is the one that the stream has
abbrev pub Clear : ℕ → Bool → List Mark → Type 0
Clear n locked [] = n ≤ one_if locked
Clear n locked (Stands operation ∷ ms) = Finds operation locked (is_empty ms) × (Gives operation ms × Clear n (has_after operation locked) ms)
Clear n locked (Steps d ∷ ms) = Clear n locked ms
Clear n locked (Aborts ∷ ms) = (pending ms ≡ []) × Clear n locked ms
Clear n locked (Looks ∷ ms) = (ms ≡ []) × (n ≤ one_if locked)

-- operations by which no reader comes or goes and no read is asked
abbrev pub IsOther : ReadableOperation → Type 0
IsOther (InitializeReader closed) = ⊥
IsOther ReleaseReader = ⊥
IsOther (Read r) = ⊥
IsOther _ = Unit {0}

abbrev pub AllOther : List Mark → Type 0
AllOther [] = Unit {0}
AllOther (Stands operation ∷ ms) = IsOther operation × AllOther ms
AllOther (Steps d ∷ ms) = ⊥
AllOther (Aborts ∷ ms) = AllOther ms
AllOther (Looks ∷ ms) = ms ≡ []

pub other-pending : (ms : List Mark) → AllOther ms → pending ms ≡ []
other-pending [] o = refl
other-pending (Stands operation ∷ ms) o = other-pending ms o.1
other-pending (Steps d ∷ ms) o = absurd o
other-pending (Aborts ∷ ms) o = other-pending ms o
other-pending (Looks ∷ ms) o = rw o refl

pub other-finds : (operation : ReadableOperation) (locked alone : Bool) → IsOther operation → Finds operation locked alone × (has_after operation locked ≡ locked)
other-finds (InitializeReader closed) locked alone o = absurd o
other-finds ReleaseReader locked alone o = absurd o
other-finds (Read r) locked alone o = absurd o
other-finds operation locked alone o = (tt, refl)

pub other-clear : (n : ℕ) (locked : Bool) (ms : List Mark) → AllOther ms → Clear n locked [] → Clear n locked ms
other-clear n locked [] o c = c
other-clear n locked (Stands operation ∷ ms) o c =
    let f = other-finds operation locked (is_empty ms) o.0 in
    (f.0, (gives-none operation ms (other-pending ms o.1), rw f.1 (other-clear n locked ms o.1 c)))
other-clear n locked (Steps d ∷ ms) o c = absurd o
other-clear n locked (Aborts ∷ ms) o c = (other-pending ms o, other-clear n locked ms o c)
other-clear n locked (Looks ∷ ms) o c = (o, c)
