-- Frames between two brokers that an edge joins, whatever joins of late subscribers they have: this is all that their
-- lines name
use Rattle.std.proofs.Common.{◌≡◌, ◌<◌, ℕ, List, [], ◌∷◌}
use Rattle.gr_event.specs.Joins.{Joins}
use Rattle.gr_frame.specs.declared.Frame.{Frame}
use Rattle.gr_model.specs.Net.{Net, wants_with}
use Rattle.gr_model.specs.Tree.{IsNet}
use Rattle.gr_model.specs.Broker.{View, seen}
use Rattle.gr_model.specs.World.{World}
use Rattle.gr_model_calls.specs.Edges.{GoesBetween, GoesOverEdge}
use Rattle.gr_model_calls.proofs.runs.Worlds.{Each}
use Rattle.gr_model_calls.proofs.topology.Strays.{AllOver, SentOn}
use Rattle.gr_report.proofs.Passing.{sent_with}

-- a frame is of a publisher that there is, and an edge joins the two brokers
pub record IsBetween (net : Net) (f : Frame) : Type 0 where
  pub publisher : f.head.publisher < net.publishers
  pub from : f.head.from < net.brokers
  pub to : f.head.to < net.brokers
  pub between : GoesBetween net f.head.publisher f.head.from f.head.to f.body

-- each frame that was sent so far is one
abbrev pub AllBetween : Net → World → Type 0
AllBetween net w = Each (IsBetween net) w.frames

-- so it is where they go over edges, with joins of late subscribers alone
pub all_between : (net : Net) (fs : List Frame) → Each (GoesOverEdge net) fs → Each (IsBetween net) fs
all_between net [] a = tt
all_between net (f ∷ fs) a =
    let g = a.0 in
    (record { publisher = g.publisher; from = g.from; to = g.to; between = g.between }, all_between net fs a.1)

-- each frame that a broker sends for a publisher is one
sent_between : (net : Net) (p b : ℕ) (js : Joins) → IsNet net → p < net.publishers → b < net.brokers → SentOn net p b js (IsBetween net)
sent_between net p b js n j i = record {
  know = λ c part m. record { publisher = j; from = i; to = n.child_in p b c j i m; between = n.child_up p b c j i m };
  want = λ u part e. let x = n.up_in p b u j i e in record { publisher = j; from = i; to = x.0; between = x.1 };
  expect = λ c tick m. record { publisher = j; from = i; to = n.child_in p b c j i m; between = n.child_up p b c j i m };
}

-- also where it goes by what a view shows
pub seen_between : (net : Net) (v : View) (p b : ℕ) → IsNet net → p < net.publishers → b < net.brokers → SentOn (seen net v) p b v.joins (IsBetween net)
seen_between net v p b n j i = sent_with net (wants_with net v.joins) p b v.joins (IsBetween net) (sent_between net p b v.joins n j i)
