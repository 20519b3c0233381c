-- How many have the lock of a stream, as locks and pipes come and change.
use Rattle.std.proofs.Common.{◌≡◌, ◌≢◌, ap, sym, ◌∙◌, ℕ, ◌+◌, ◌≤◌, zero, suc, Bool, false, map, List, [], ◌∷◌, ◌++◌, Option, Some, slice_get, slice_set, refl, arith}
use Rattle.ws_value.specs.declared.ids.StreamId.{StreamId}
use Rattle.ws_steps.specs.declared.locks.Lock.{Lock}
use Rattle.ws_steps.specs.Pipes as pipe
use Rattle.ws_pipe_laws.specs.pipes.PipeReads.{one_if}
use Rattle.ws_pipe_laws.specs.locks.Locks.{Side, Reading, Writing, has, holds, tees_off, in_locks, in_pipes, in_tees}
use Rattle.ws_steps.specs.declared.effects.Effect.{Effect}
use Rattle.ws_steps.specs.Histories.{is_same}
use Rattle.ws_steps.specs.Slots.{Slots}
use Rattle.ws_steps.specs.Tee as tee
use Rattle.ws_steps.specs.Turns.{row}
use Rattle.ws_laws.proofs.Shapes.{TeeShape, tee_shape, row-tee_shapes}

some_lock : (k l : Lock) → ◌≡◌ {A = Option Lock} (Some k) (Some l) → k ≡ l
some_lock k l e = cc

some_pipe : (x y : pipe.Slots) → ◌≡◌ {A = Option pipe.Slots} (Some x) (Some y) → x ≡ y
some_pipe x y e = cc

some_tee : (x y : tee.Slots) → ◌≡◌ {A = Option tee.Slots} (Some x) (Some y) → x ≡ y
some_tee x y e = cc

module _ (d : Side) (i : StreamId) where
  pub locks-append : (ls : List Lock) (l : Lock) → in_locks d i (ls ++ l ∷ []) ≡ in_locks d i ls + one_if (has d i l)
  locks-append [] l = omega arith
  locks-append (k ∷ ls) l = let n = locks-append ls l in omega (arith, n)

  pub locks-set : (n : ℕ) (ls : List Lock) (old new : Lock) → slice_get ls n ≡ Some old → in_locks d i (slice_set ls n new) + one_if (has d i old) ≡ in_locks d i ls + one_if (has d i new)
  locks-set n [] old new e = cc
  locks-set zero (k ∷ ls) old new e = rw (some_lock k old e) (omega arith)
  locks-set (suc n) (k ∷ ls) old new e = let rest = locks-set n ls old new e in omega (arith, rest)

  pub locks-there : (n : ℕ) (ls : List Lock) (l : Lock) → slice_get ls n ≡ Some l → one_if (has d i l) ≤ in_locks d i ls
  locks-there n [] l e = cc
  locks-there zero (k ∷ ls) l e = rw (some_lock k l e) (omega arith)
  locks-there (suc n) (k ∷ ls) l e = let rest = locks-there n ls l e in omega (arith, rest)

  pub pipes-append : (xs : List pipe.Slots) (x : pipe.Slots) → in_pipes d i (xs ++ x ∷ []) ≡ in_pipes d i xs + one_if (holds d i x)
  pipes-append [] x = omega arith
  pipes-append (y ∷ ys) x = let n = pipes-append ys x in omega (arith, n)

  pub pipes-set : (n : ℕ) (xs : List pipe.Slots) (old new : pipe.Slots) → slice_get xs n ≡ Some old → in_pipes d i (slice_set xs n new) + one_if (holds d i old) ≡ in_pipes d i xs + one_if (holds d i new)
  pipes-set n [] old new e = cc
  pipes-set zero (x ∷ xs) old new e = rw (some_pipe x old e) (omega arith)
  pipes-set (suc n) (x ∷ xs) old new e = let rest = pipes-set n xs old new e in omega (arith, rest)

  pub pipes-there : (n : ℕ) (xs : List pipe.Slots) (x : pipe.Slots) → slice_get xs n ≡ Some x → one_if (holds d i x) ≤ in_pipes d i xs
  pipes-there n [] x e = cc
  pipes-there zero (y ∷ xs) x e = rw (some_pipe y x e) (omega arith)
  pipes-there (suc n) (y ∷ xs) x e = let rest = pipes-there n xs x e in omega (arith, rest)

  -- of two at different places
  pub pipes-two : (m n : ℕ) (xs : List pipe.Slots) (x y : pipe.Slots) → m ≢ n → slice_get xs m ≡ Some x → slice_get xs n ≡ Some y → one_if (holds d i x) + one_if (holds d i y) ≤ in_pipes d i xs
  pipes-two m n [] x y k e f = cc
  pipes-two zero zero (z ∷ xs) x y k e f = absurd (k refl)
  pipes-two zero (suc n) (z ∷ xs) x y k e f = let rest = pipes-there n xs y f in rw (some_pipe z x e) (omega (arith, rest))
  pipes-two (suc m) zero (z ∷ xs) x y k e f = let rest = pipes-there m xs x e in rw (some_pipe z y f) (omega (arith, rest))
  pipes-two (suc m) (suc n) (z ∷ xs) x y k e f = let rest = pipes-two m n xs x y (λ g. k (ap suc g)) e f in omega (arith, rest)

  -- tees

  pub tees-append : (xs : List tee.Slots) (x : tee.Slots) → in_tees d i (xs ++ x ∷ []) ≡ in_tees d i xs + one_if (tees_off d i x)
  tees-append [] x = omega arith
  tees-append (y ∷ ys) x = let n = tees-append ys x in omega (arith, n)

  pub tees-there : (n : ℕ) (xs : List tee.Slots) (x : tee.Slots) → slice_get xs n ≡ Some x → one_if (tees_off d i x) ≤ in_tees d i xs
  tees-there n [] x e = cc
  tees-there zero (y ∷ xs) x e = rw (some_tee y x e) (omega arith)
  tees-there (suc n) (y ∷ xs) x e = let rest = tees-there n xs x e in omega (arith, rest)

  -- what a tee has is told by its shape
  abbrev off_shape : Side → TeeShape → Bool
  off_shape Reading x = is_same i x.source
  off_shape Writing x = false

  abbrev in_shapes : List TeeShape → ℕ
  in_shapes [] = 0
  in_shapes (x ∷ xs) = one_if (off_shape d x) + in_shapes xs

  off-told : (e : Side) (x : tee.Slots) → tees_off e i x ≡ off_shape e (tee_shape x)
  off-told Reading x = refl
  off-told Writing x = refl

  tees-told : (xs : List tee.Slots) → in_tees d i xs ≡ in_shapes (map tee_shape xs)
  tees-told [] = refl
  tees-told (x ∷ xs) = let n = ap one_if (off-told d x) in let rest = tees-told xs in omega (arith, n, rest)

  -- each effect leaves what tees have
  pub row-in_tees : (e : Effect) (s : Slots) → in_tees d i (row e s).slots.tees ≡ in_tees d i s.tees
  row-in_tees e s = tees-told (row e s).slots.tees ∙ (ap in_shapes (row-tee_shapes e s) ∙ sym (tees-told s.tees))
