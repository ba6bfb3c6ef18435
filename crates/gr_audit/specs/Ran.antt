-- What a run of a process leaves
use Rattle.std.specs.Prelude.{◌≡◌, ◌++◌, List, [], ℕ, IsSome}
use Rattle.gr_topo.specs.Topology.{TopologyView}
use Rattle.gr_journal.specs.Groups.{Behavior, journal_text}
use Rattle.gr_audit.specs.Audited.{arrivals, links_from}
use Rattle.gr_audit.specs.Compared.{ComparedView, told_of, text_of}
use Rattle.gr_audit.specs.Noted.{with_links}
use Rattle.gr_audit.specs.Taken.{GivenView}

-- of what was still to come: all was told, and all groups are noted
pub record IsWhole (b : Behavior) (t : TopologyView) (brokers : List ℕ) (given given' : GivenView)
    (before after : ComparedView) : Type 0 where
  pub noted : given'.noted ≡ with_links given.noted (links_from b brokers [] given.left)
  pub told : told_of after ≡ told_of before ++ journal_text b t brokers (arrivals given.left)
  pub text : text_of after ≡ text_of before

-- a front of it was told, up to a byte that is another one
pub record IsCut (b : Behavior) (t : TopologyView) (brokers : List ℕ) (given : GivenView)
    (before after : ComparedView) : Type 0 where
  pub rest : List ℕ
  pub told : told_of after ++ rest ≡ told_of before ++ journal_text b t brokers (arrivals given.left)
  pub wrong : IsSome after.wrong
  pub text : text_of after ≡ text_of before
