-- Where a client is: the nodes of a post are the brokers by their numbers, and behind them the clients of the
-- publishers
use Rattle.std.specs.Prelude.{ℕ, ◌+◌}
use Rattle.gr_note.specs.declared.node.TheConstants.{FIRST_CLIENT}

abbrev pub client_node : ℕ → ℕ
client_node p = FIRST_CLIENT + p
