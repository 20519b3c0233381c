-- What the kernels make of bytes, a byte at a time.
use Rattle.std.specs.Prelude.{ℕ, ◌+◌, ◌%◌, List, [], ◌∷◌, length, get_or, bit_xor}

-- each byte xor the key's byte at its place, the key repeated
abbrev pub masked : List ℕ → ℕ → List ℕ → List ℕ
masked key place [] = []
masked key place (b ∷ bs) = bit_xor b (get_or key (place % length key) 0) ∷ masked key (place + 1) bs
