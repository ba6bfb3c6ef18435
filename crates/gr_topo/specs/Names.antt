-- What names and addresses are
use Rattle.std.specs.Prelude.{ℕ, ◌+◌, ◌==◌, Bool, false, ◌&&◌, ◌||◌, nat_le, nat_lt, if◌then◌else◌, List, length, take}
use Rattle.std.specs.Prelude.{drop, Option, Some, None}
use Rattle.std.specs.List.{list_all, position_or_len}
use Rattle.std.specs.Option.{option_and_then}
use Rattle.gr_sched.specs.Words.{is_number_in}
use Rattle.gr_topo.specs.declared.limits.TheConstants.{MAX_NAME}

abbrev pub is_letter : ℕ → Bool
is_letter c = (nat_le 65 c && nat_le c 90) || (nat_le 97 c && nat_le c 122)

-- a letter, a digit, '_', '.' or '-'
abbrev pub is_name_byte : ℕ → Bool
is_name_byte c = is_letter c || (nat_le 48 c && nat_le c 57) || c == 95 || c == 46 || c == 45

abbrev pub is_name : List ℕ → Bool
is_name name = nat_lt 0 (length name) && nat_le (length name) MAX_NAME && list_all is_name_byte name

-- a number of 0 to 255 in 1 to 3 digits before a mark: what follows the mark
abbrev pub behind_octet : ℕ → List ℕ → Option (List ℕ)
behind_octet mark text =
    let end = position_or_len (λ c. c == mark) text in
    if nat_lt end (length text) && is_number_in 3 0 255 (take end text) then Some (drop (end + 1) text) else None

-- the port of an address: what follows four numbers, three dots between them and ':'; 46 is '.', 58 is ':'
abbrev pub port_of : List ℕ → Option (List ℕ)
port_of text =
    option_and_then (behind_octet 58) (option_and_then (behind_octet 46)
    (option_and_then (behind_octet 46) (behind_octet 46 text)))

-- a port of 1 to 65535 in 1 to 5 digits
abbrev pub is_port : Option (List ℕ) → Bool
is_port None = false
is_port (Some text) = is_number_in 5 1 65535 text

unfoldable pub is_address : List ℕ → Bool
is_address text = is_port (port_of text)
