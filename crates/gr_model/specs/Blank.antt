-- The topology of the small examples: A and B linked, a publisher P at A, a subscriber S at B that wants every event
use Rattle.std.specs.Prelude.{true, false, nat_eq, nat_lt, if◌then◌else◌, [], ◌∷◌, Some, None}
use Rattle.gr_model.specs.Net.{Net}

-- A is broker 0 and B is broker 1; P is publisher 0 and S is subscriber 0
abbrev pub net0 : Net
net0 = record {
  brokers = 2;
  publishers = 1;
  subscribers = 1;
  host = λ p. 0;
  client = λ p. false;
  at = λ s. if nat_eq s 0 then 1 else 0;
  up = λ p b. if nat_eq b 1 then Some 0 else None;
  children = λ p b. if nat_eq b 0 then 1 ∷ [] else [];
  subscribers_at = λ b. if nat_eq b 1 then 0 ∷ [] else [];
  below = λ p b. if nat_lt b 2 then 0 ∷ [] else [];
  late = [];
  depth = λ p b. if nat_lt b 2 then b else 2;
  wants = λ p s t e. true;
  gap = 200;
  idle = 1000;
  retry = 500;
  quiet = 1000;
  cache = 1024;
  reclaim = 65536;
}
