-- The text of an address: four numbers with dots between, a colon and a port.
use Rattle.std.specs.Prelude.{ℕ, ◌+◌, ◌-◌, ◌*◌, ◌==◌, ◌&&◌, nat_le, nat_lt, Bool, if◌then◌else◌, List, [], ◌∷◌, length}
use Rattle.std.specs.Prelude.{take, drop, Option, None, Some}
use Rattle.std.specs.List.{list_all, position}
use Rattle.gr_sock.specs.declared.address.Address.{Address}

-- what is made of a value, where there is one
infixl 10 ◌>>=◌
abbrev pub ◌>>=◌ : {A B : Type 0} → Option A → (A → Option B) → Option B
None >>= f = None
(Some x) >>= f = f x

abbrev pub is_digit : ℕ → Bool
is_digit byte = nat_le 48 byte && nat_le byte 57

-- the value of digits that follow others
abbrev pub value_after : ℕ → List ℕ → ℕ
value_after value [] = value
value_after value (b ∷ bs) = value_after (value * 10 + (b - 48)) bs

-- 1 to so many digits
abbrev pub has_digits : ℕ → List ℕ → Bool
has_digits most text = nat_lt 0 (length text) && nat_le (length text) most && list_all is_digit text

-- at most so many digits as a number from low to high
abbrev pub number_in : ℕ → ℕ → ℕ → List ℕ → Option ℕ
number_in most low high text =
    let n = value_after 0 text in
    if has_digits most text && nat_le low n && nat_le n high then Some n else None

-- a number of 0 to 255 before a mark, and what follows the mark
abbrev pub octet_before : ℕ → List ℕ → Option (ℕ × List ℕ)
octet_before mark text = position (λ c. c == mark) text >>= λ end.
    number_in 3 0 255 (take end text) >>= λ n. Some (n, drop (end + 1) text)

-- four numbers in their order, and what follows the last mark; 46 is '.', 58 is ':'
abbrev pub host_before_port : List ℕ → Option (List ℕ × List ℕ)
host_before_port text = octet_before 46 text >>= λ a. octet_before 46 a.1 >>= λ b. octet_before 46 b.1 >>= λ c.
    octet_before 58 c.1 >>= λ d. Some (a.0 ∷ b.0 ∷ c.0 ∷ d.0 ∷ [], d.1)

-- the address that a text names
unfoldable pub address_of : List ℕ → Option Address
address_of text = host_before_port text >>= λ h.
    number_in 5 1 65535 h.1 >>= λ port. Some (record { host = h.0; port = port })
