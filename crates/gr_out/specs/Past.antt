-- What a lane read at first, all of it synced, and the calls on it since then, the latest first
use Rattle.std.specs.Prelude.{◌≡◌, ℕ, List, [], cond, ◌==◌, refl}
use Rattle.std.specs.Coded.{Coded, code_by, coded×, coded_ℕ, coded_list}
use Rattle.gr_out.specs.Lane.{Call, Write, Cut, Sync, FailedWrite, FailedCut}

pub record Past : Type 0 where
  pub start : List ℕ
  pub calls : List Call

-- nothing was read, and there was no call
abbrev pub no_past : Past
no_past = record { start = []; calls = [] }

-- How the logic stores it: a call as its kind, its place or length, its length, and its bytes

abbrev Parts : Type 0
Parts = ℕ × (ℕ × (ℕ × List ℕ))

abbrev to_parts : Call → Parts
to_parts (Write at bytes) = (0, (at, (0, bytes)))
to_parts (Cut n) = (1, (n, (0, [])))
to_parts Sync = (2, (0, (0, [])))
to_parts (FailedWrite at n) = (3, (at, (n, [])))
to_parts (FailedCut n) = (4, (n, (0, [])))

abbrev from_parts : Parts → Call
from_parts p =
    cond (p.0 == 0) (Write p.1.0 p.1.1.1) (cond (p.0 == 1) (Cut p.1.0) (cond (p.0 == 2) Sync
    (cond (p.0 == 3) (FailedWrite p.1.0 p.1.1.0) (FailedCut p.1.0))))

pub from_parts-to_parts : (call : Call) → from_parts (to_parts call) ≡ call
from_parts-to_parts (Write at bytes) = refl
from_parts-to_parts (Cut n) = refl
from_parts-to_parts Sync = refl
from_parts-to_parts (FailedWrite at n) = refl
from_parts-to_parts (FailedCut n) = refl

abbrev call_code : Coded Call
call_code =
    code_by Parts (coded× coded_ℕ (coded× coded_ℕ (coded× coded_ℕ (coded_list coded_ℕ))))
    to_parts from_parts from_parts-to_parts

abbrev pub past_code : Coded Past
past_code =
    code_by (List ℕ × List Call) (coded× (coded_list coded_ℕ) (coded_list call_code)) (λ p. (p.start, p.calls))
    (λ p. record { start = p.0; calls = p.1 }) (λ _. refl)
