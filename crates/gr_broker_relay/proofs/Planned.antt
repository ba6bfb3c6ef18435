-- What is planned is what the machine's `learn` tells, sends and changes.
use Rattle.std.proofs.Common.{◌≡◌, ℕ, ap}
use Rattle.gr_know.specs.Values.{Known}
use Rattle.gr_model.specs.Net.{Net}
use Rattle.gr_model.specs.Broker.{View, Log, new_ticks, forward_frames, learn}
use Rattle.gr_broker_relay.specs.Changes.{learned, reached}
use Rattle.gr_broker_relay.specs.Handed.{lines_to}

module _ (net : Net) (p b : ℕ) (piece : Known) (v : View) (log : Log) where
  -- the lines where the horizon moves
  pub planned_lines : (to : ℕ) → to ≡ reached net p b v piece → lines_to net p b v.horizon to (learned v.know piece) ≡ (learn net p b piece v log).lines
  unfolding learn
  planned_lines to e = ap (λ x. lines_to net p b v.horizon x (learned v.know piece)) e

  -- and the frames of what is new
  pub planned_frames : (fresh : Known) → fresh ≡ new_ticks v.know piece → forward_frames v.joins net p b fresh (net.children p b) v.wants ≡ (learn net p b piece v log).frames
  unfolding learn
  planned_frames fresh e = ap (λ k. forward_frames v.joins net p b k (net.children p b) v.wants) e
