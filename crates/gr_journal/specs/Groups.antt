-- The lines of a journal behind its first: what came, and what a process told and offered then
use Rattle.std.specs.Prelude.{ℕ, Bool, nat_eq, if◌then◌else◌, List, [], ◌∷◌, ◌++◌, codes}
use Rattle.std.specs.List.{flat_map}
use Rattle.gr_topo.specs.Topology.{TopologyView, name_at}
use Rattle.gr_journal.specs.declared.arrival.Arrival.{Arrival}
use Rattle.gr_journal.specs.Words.{hex_pair}
use Rattle.gr_journal.specs.Lines.{behind_space, process_text, arrival_text}

-- bytes of one broker that are offered to another
pub record Offer : Type 0 where
  pub from : ℕ
  pub to : ℕ
  pub bytes : List ℕ

-- what an arrival leads to: lines of the report, each with its end, and offers
pub record Group : Type 0 where
  pub says : List (List ℕ)
  pub offers : List Offer

-- what a process of these brokers does, of which this came before, at an arrival
abbrev pub Behavior : Type 0
Behavior = List ℕ → List Arrival → Arrival → Group

abbrev pub say_text : List ℕ → List ℕ
say_text line = codes "say " ++ line

-- the same of lines that stand one after another: each line, with its end, stands behind its words. The first byte begins
-- a line, or it does not
abbrev pub said_text : Bool → List ℕ → List ℕ
said_text begins [] = []
said_text begins (byte ∷ lines) = (if begins then codes "say " else []) ++ byte ∷ said_text (nat_eq byte 10) lines

abbrev pub offer_text : TopologyView → Offer → List ℕ
offer_text t o = codes "out" ++ (behind_space (name_at t.brokers o.from) ++ (behind_space (name_at t.brokers o.to)
    ++ (behind_space (flat_map hex_pair o.bytes) ++ codes "\n")))

abbrev pub group_text : TopologyView → Arrival → Group → List ℕ
group_text t a g = arrival_text t a ++ (flat_map say_text g.says ++ flat_map (offer_text t) g.offers)

-- of what comes behind what came
abbrev pub groups_text : Behavior → TopologyView → List ℕ → List Arrival → List Arrival → List ℕ
groups_text b t brokers before [] = []
groups_text b t brokers before (a ∷ came) =
    group_text t a (b brokers before a) ++ groups_text b t brokers (before ++ a ∷ []) came

-- the journal of a process of these brokers to which this came
abbrev pub journal_text : Behavior → TopologyView → List ℕ → List Arrival → List ℕ
journal_text b t brokers came = process_text t brokers ++ groups_text b t brokers [] came
