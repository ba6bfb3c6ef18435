-- What stands in the journal of a post
use Rattle.std.specs.Prelude.{◌≡◌, ℕ, Bool, List, []}
use Rattle.std.specs.Prelude.{cond, ◌==◌, false, refl}
use Rattle.std.specs.Coded.{Coded, code_by, coded×, coded_ℕ, coded_bool, coded_list}

pub data Entry : Type 0 where
  bound : ℕ → List ℕ → Bool → Entry  -- a broker, its address, and whether it is hosted
  offered : ℕ → ℕ → List ℕ → Entry  -- from a broker, to a broker, these bytes
  datagram : ℕ → List ℕ → ℕ → Entry  -- at a broker, the bytes that were written, the moment
  quiet : ℕ → Entry  -- at a moment
  failed : Entry
  closed : Entry

-- How the logic stores it: its kind, two numbers, the bytes, and a mark

abbrev Parts : Type 0
Parts = ℕ × (ℕ × (ℕ × (List ℕ × Bool)))

abbrev to_parts : Entry → Parts
to_parts (bound broker address here) = (0, (broker, (0, (address, here))))
to_parts (offered from to bytes) = (1, (from, (to, (bytes, false))))
to_parts (datagram broker bytes moment) = (2, (broker, (moment, (bytes, false))))
to_parts (quiet moment) = (3, (moment, (0, ([], false))))
to_parts failed = (4, (0, (0, ([], false))))
to_parts closed = (5, (0, (0, ([], false))))

abbrev from_parts : Parts → Entry
from_parts p =
    cond (p.0 == 0) (bound p.1.0 p.1.1.1.0 p.1.1.1.1) (cond (p.0 == 1) (offered p.1.0 p.1.1.0 p.1.1.1.0)
    (cond (p.0 == 2) (datagram p.1.0 p.1.1.1.0 p.1.1.0)
    (cond (p.0 == 3) (quiet p.1.0) (cond (p.0 == 4) failed closed))))

pub from_parts-to_parts : (e : Entry) → from_parts (to_parts e) ≡ e
from_parts-to_parts (bound broker address here) = refl
from_parts-to_parts (offered from to bytes) = refl
from_parts-to_parts (datagram broker bytes moment) = refl
from_parts-to_parts (quiet moment) = refl
from_parts-to_parts failed = refl
from_parts-to_parts closed = refl

abbrev pub journal_code : Coded (List Entry)
journal_code =
    coded_list
    (code_by Parts (coded× coded_ℕ (coded× coded_ℕ (coded× coded_ℕ (coded× (coded_list coded_ℕ) coded_bool))))
    to_parts from_parts from_parts-to_parts)
