use Rattle.std.proofs.Common.{◌≡◌, ◌≤◌, List, [], ◌∷◌, length, reverse, refl, arith}
use Rattle.ws_node.proofs.host.turn_round.Goals as goal

pub returns-else-len-gt1 : goal.returns-else-len-gt1
returns-else-len-gt1 c = few c.args.chunks.now.items (omega (arith, c.if-len-gt1.false, c.len.ensures, c.args.chunks.now.ok.0)) where
  few : {X : Type 0} → (xs : List X) → length xs ≤ 1 → xs ≡ reverse xs
  few [] h = refl
  few (x ∷ []) h = refl
  few (x ∷ y ∷ xs) h = absurd (omega arith)
