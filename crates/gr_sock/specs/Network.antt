-- What was done with a network's sockets, and what passed them.
use Rattle.std.specs.Prelude.{ℕ, List, [], ◌∷◌, ◌++◌}
use Rattle.gr_sock.specs.declared.address.Address.{Address}

-- A datagram that was sent.
pub record Sending : Type 0 where
  pub socket : ℕ
  pub to : Address
  pub bytes : List ℕ

-- What was done and what passed, each list with the earliest first.
pub record Traffic : Type 0 where
  -- where sockets were opened; the number of each is its place
  pub opened : List Address
  -- the datagrams that were taken: the socket, and the bytes that were written
  pub taken : List (ℕ × List ℕ)
  -- those that were sent
  pub sent : List Sending
  -- how long each wait might be, in milliseconds
  pub waits : List ℕ

abbrev pub with_opened : Address → Traffic → Traffic
with_opened address t = record t { opened = t.opened ++ address ∷ [] }

abbrev pub with_taken : ℕ → List ℕ → Traffic → Traffic
with_taken socket bytes t = record t { taken = t.taken ++ (socket, bytes) ∷ [] }

abbrev pub with_sent : ℕ → Address → List ℕ → Traffic → Traffic
with_sent socket to bytes t = record t { sent = t.sent ++ record { socket = socket; to = to; bytes = bytes } ∷ [] }

abbrev pub with_wait : ℕ → Traffic → Traffic
with_wait milliseconds t = record t { waits = t.waits ++ milliseconds ∷ [] }

-- nothing passed
abbrev pub no_traffic : Traffic
no_traffic = record { opened = []; taken = []; sent = []; waits = [] }
