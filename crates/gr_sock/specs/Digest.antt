-- What stands for the offers between two quiet moments, so that they are compared with those before.
use Rattle.std.specs.Prelude.{ℕ, ◌*◌, ◌%◌, ◌^◌, List, [], ◌∷◌, bit_xor}

-- nothing was offered
abbrev pub nothing : ℕ
nothing = 14695981039346656037

-- one byte more
abbrev pub with_byte : ℕ → ℕ → ℕ
with_byte digest byte = (bit_xor digest byte * 1099511628211) % 2 ^ 64

-- bytes more
abbrev pub with_bytes : ℕ → List ℕ → ℕ
with_bytes digest [] = digest
with_bytes digest (b ∷ bs) = with_bytes (with_byte digest b) bs

-- one offer more
abbrev pub with_offer : ℕ → ℕ → ℕ → List ℕ → ℕ
with_offer digest from to bytes = with_bytes (with_byte (with_byte digest from) to) bytes
