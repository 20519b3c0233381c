-- The kernel masks as the stage is defined to.
use Rattle.std.proofs.Common.{◌≡◌, ℕ, ◌+◌, ◌%◌, List, [], ◌∷◌, length, get_or, bit_xor, refl, sym, ap, ◌∙◌}
use Rattle.std.proofs.Math.Nat.{mod-add-mod, mod-mod}
use Rattle.ws_flow.specs.Stages.{masked}
use Rattle.ws_lanes.specs.Kernels.{masked as kernel}

-- at two places that are one in the key
same_masks : (key : List ℕ) (q p : ℕ) (bs : List ℕ) → q % length key ≡ p % length key → kernel key q bs ≡ masked key p bs
same_masks key q p [] e = refl
same_masks key q p (b ∷ bs) e =
    let n = length key in
    let next = sym (mod-add-mod q n 1) ∙ ap (λ z. (z + 1) % n) e ∙ mod-add-mod p n 1 in
    ap (λ z. bit_xor b (get_or key z 0) ∷ kernel key (q + 1) bs) e ∙ ap (λ z. bit_xor b (get_or key (p % n) 0) ∷ z) (same_masks key (q + 1) (p + 1) bs next)

pub kernel_masks : (key : List ℕ) (p : ℕ) (bs : List ℕ) → kernel key (p % length key) bs ≡ masked key p bs
kernel_masks key p bs = same_masks key (p % length key) p bs (mod-mod p (length key))
