-- What was written of a piece that needs several writes.
use Rattle.std.specs.Prelude.{◌≡◌, ℕ, List, [], ◌++◌, Result, OnOk}
use Rattle.ws_io.specs.Gain.{Gains, Got}

-- the sink gained a first part of the piece, and all of it at `Ok`
pub record WroteFirst {E : Type 0} (old new : Got) (result : Result (Unit {0}) E) (piece : List ℕ) : Type 0 where
  pub gain : List ℕ
  pub rest : List ℕ
  pub gained : Gains old new gain
  pub first : piece ≡ gain ++ rest
  pub all : OnOk result (rest ≡ [])
