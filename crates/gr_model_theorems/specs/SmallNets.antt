-- The topologies of the worked examples, each with one publisher P at broker 0
use Rattle.std.specs.Prelude.{ℕ, zero, suc, Bool, true, false, not, ◌&&◌, ◌||◌, nat_eq, List, [], ◌∷◌, get_or, length}
use Rattle.std.specs.Prelude.{filter, if◌then◌else◌, int_lt, bytes_eq, pos, Option, Some, None}
use Rattle.gr_event.specs.declared.value.Value.TheVariants as value
use Rattle.gr_event.specs.declared.event.Event.{Event}
use Rattle.gr_model.specs.Net.{Net, numbers}
use Rattle.gr_model.specs.Blank.{net0}

-- A tree, given for each broker the next one towards broker 0

-- broker a is broker b or between it and broker 0
abbrev pub is_above : List (Option ℕ) → ℕ → ℕ → ℕ → Bool
is_above next zero a b = nat_eq a b
is_above next (suc n) a b = nat_eq a b || elim (get_or next b None) [ None ↦ false | Some u ↦ is_above next n a u ]

-- how far a broker is from broker 0
abbrev pub depth_of : List (Option ℕ) → ℕ → ℕ → ℕ
depth_of next zero b = 0
depth_of next (suc n) b = elim (get_or next b None) [ None ↦ 0 | Some u ↦ suc (depth_of next n u) ]

abbrev pub is_child : List (Option ℕ) → ℕ → ℕ → Bool
is_child next b c = elim (get_or next c None) [ None ↦ false | Some u ↦ nat_eq u b ]

-- the tree with subscribers at these brokers
abbrev pub tree : List (Option ℕ) → List ℕ → (ℕ → Event → Bool) → ℕ → Net
tree next ats wants cache =
    let n = length next in
    record {
      brokers = n;
      publishers = 1;
      subscribers = length ats;
      host = λ p. 0;
      client = λ p. false;
      at = λ s. get_or ats s 0;
      up = λ p b. get_or next b None;
      children = λ p b. filter (is_child next b) (numbers n);
      subscribers_at = λ b. filter (λ s. nat_eq (get_or ats s 0) b) (numbers (length ats));
      below = λ p b. filter (λ s. is_above next n b (get_or ats s 0)) (numbers (length ats));
      late = [];
      depth = λ p b. depth_of next n b;
      wants = λ p s t e. wants s e;
      gap = 200;
      idle = 1000;
      retry = 500;
      quiet = 1000;
      cache = cache;
      reclaim = 65536;
    }

-- Filters

abbrev pub all_events : ℕ → Event → Bool
all_events s e = true

-- the name price
abbrev pub price : List ℕ
price = 112 ∷ 114 ∷ 105 ∷ 99 ∷ 101 ∷ []

-- price > 80, and NOT price > 80; both are false of an event without a price
abbrev pub over_80 : Event → Bool
over_80 [] = false
over_80 (p ∷ ps) = (bytes_eq p.0 price && elim p.1 [ value.Int v ↦ int_lt (pos 80) v | _ ↦ false ]) || over_80 ps

abbrev pub not_over_80 : Event → Bool
not_over_80 [] = false
not_over_80 (p ∷ ps) = (bytes_eq p.0 price && elim p.1 [ value.Int v ↦ not (int_lt (pos 80) v) | _ ↦ false ])
    || not_over_80 ps

-- n > 1
abbrev pub over_1 : Event → Bool
over_1 [] = false
over_1 (p ∷ ps) = (bytes_eq p.0 (110 ∷ []) && elim p.1 [ value.Int v ↦ int_lt (pos 1) v | _ ↦ false ]) || over_1 ps

-- Topologies

-- net 0 where a cut writes a log anew whose text has 64 bytes or more
abbrev pub net0_reclaiming : Net
net0_reclaiming = record net0 { reclaim = 64 }

-- A and B, S and T at B, of which T is late and has the filter n > 1
abbrev pub net1_late : Net
net1_late = record (tree (None ∷ Some 0 ∷ []) (1 ∷ 1 ∷ []) (λ s e. if nat_eq s 0 then true else over_1 e) 1024) {
  late = 1 ∷ [];
}

-- A and B, and S at B with the filter price > 80
abbrev pub net1 : Net
net1 = tree (None ∷ Some 0 ∷ []) (1 ∷ []) (λ s e. over_80 e) 1024

-- the same with T at B, filter NOT price > 80
abbrev pub net1_both : Net
net1_both = tree (None ∷ Some 0 ∷ []) (1 ∷ 1 ∷ []) (λ s e. if nat_eq s 0 then over_80 e else not_over_80 e) 1024

-- A, M and B in a row, S at B; the same where brokers keep one event
abbrev pub net2 : Net
net2 = tree (None ∷ Some 0 ∷ Some 1 ∷ []) (2 ∷ []) all_events 1024

abbrev pub net2_forgetful : Net
net2_forgetful = tree (None ∷ Some 0 ∷ Some 1 ∷ []) (2 ∷ []) all_events 1

-- A and M in a row, then B with S and C with T
abbrev pub net3 : Net
net3 = tree (None ∷ Some 0 ∷ Some 1 ∷ Some 1 ∷ []) (2 ∷ 3 ∷ []) all_events 1024

-- A, linked to B with S and to C with T
abbrev pub net4 : Net
net4 = tree (None ∷ Some 0 ∷ Some 0 ∷ []) (1 ∷ 2 ∷ []) all_events 1024

-- A, M and L in a row, no subscribers
abbrev pub net5 : Net
net5 = tree (None ∷ Some 0 ∷ Some 1 ∷ []) [] all_events 1024

-- A and M in a row, then B, and C with E beyond it; S at M and T at B; brokers keep one event
abbrev pub inner_net : Net
inner_net = tree (None ∷ Some 0 ∷ Some 1 ∷ Some 1 ∷ Some 3 ∷ []) (1 ∷ 2 ∷ []) all_events 1

-- A with a branch of three brokers without subscribers, and B with S of the filter price > 80
abbrev pub filtered_net : Net
filtered_net = tree (None ∷ Some 0 ∷ Some 1 ∷ Some 2 ∷ Some 0 ∷ []) (4 ∷ []) (λ s e. over_80 e) 1024
