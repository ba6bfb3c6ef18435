-- What a client prints follows from what came
use Rattle.std.specs.Prelude.{◌≡◌, ◌⊎◌, ℕ, List, [], ◌∷◌, Ok, flat_map}
use Rattle.std.specs.List.{AllByRecursion}
use Rattle.gr_note.specs.Decode.{note_decoded}
use Rattle.gr_note.specs.declared.note.Note.TheVariants.{Next}
use Rattle.gr_topo.specs.Topology.{TopologyView}
use Rattle.gr_client.specs.Came.{Arrival, datagram, quiet}
use Rattle.gr_client.specs.Client.{ClientView}
use Rattle.gr_client.specs.Run.{next_line, turns_text}

-- a note came that says of a publisher which number comes next
abbrev pub NoteCame : ℕ → ℕ → Arrival → Type 0
NoteCame p n (datagram at bytes moment) = note_decoded bytes ≡ Ok (Next p n)
NoteCame p n (quiet moment) = ⊥

-- it is among what came
abbrev pub CameAmong : ℕ → ℕ → List Arrival → Type 0
CameAmong p n [] = ⊥
CameAmong p n (a ∷ came) = NoteCame p n a ⊎ CameAmong p n came

-- What is printed by what came are lines `next P N`, each of a number that such a note gave
pub record PrintsWhatCame (t : TopologyView) (p : ℕ) (c : ClientView) (came : List Arrival) : Type 0 where
  pub numbers : List ℕ
  pub lines : turns_text t p c came ≡ flat_map (next_line t p) numbers
  pub gave : AllByRecursion (λ n. CameAmong c.publisher n came) numbers
