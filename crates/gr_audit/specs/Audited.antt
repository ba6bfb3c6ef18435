-- What is said of the journals of several processes
use Rattle.std.specs.Prelude.{ℕ, Bool, true, false, if◌then◌else◌, List, [], ◌∷◌, ◌++◌, map, Option, Some, None}
use Rattle.std.specs.Prelude.{is_some, Result, Ok, Err}
use Rattle.std.specs.List.{list_any}
use Rattle.gr_frame.specs.Decode.{frame_decoded}
use Rattle.gr_topo.specs.Topology.{TopologyView}
use Rattle.gr_journal.specs.declared.arrival.Arrival.{Arrival}
use Rattle.gr_journal.specs.declared.arrival.Arrival.TheVariants.{Quiet, Datagram}
use Rattle.gr_journal.specs.declared.arrival.Came.{Came}
use Rattle.gr_journal.specs.declared.journal.Journal.{Journal}
use Rattle.gr_journal.specs.declared.fault.AuditFault.{AuditFault}
use Rattle.gr_journal.specs.declared.fault.AuditFault.TheVariants.{Clients}
use Rattle.gr_journal.specs.Gives.{◌>>=◌}
use Rattle.gr_journal.specs.Groups.{Behavior, Group, Offer, journal_text}
use Rattle.gr_journal.specs.Hosting.{unhosted}
use Rattle.gr_journal.specs.Lines.{rising, journals_of}
use Rattle.gr_audit.specs.declared.verdict.Verdict.{Verdict}
use Rattle.gr_audit.specs.declared.verdict.Verdict.TheVariants.{Yes, No}
use Rattle.gr_audit.specs.declared.verdict.Why.TheVariants.{NotHosted, Differs, Unoffered}
use Rattle.gr_audit.specs.Joint.{Key, Link, stays}
use Rattle.gr_audit.specs.Verdict.{first_wrong}

-- A journal's text

abbrev pub arrivals : List Came → List Arrival
arrivals came = map (λ (c : Came). c.arrival) came

-- the line at which a journal is not that of its brokers
abbrev pub wrong_line : Behavior → TopologyView → Journal → Option ℕ
wrong_line b t j = first_wrong j.first j.text (journal_text b t (rising t j.brokers) (arrivals j.came))

-- the line of the first journal that is not
abbrev pub differing : Behavior → TopologyView → List Journal → Option ℕ
differing b t [] = None
differing b t (j ∷ js) = elim (wrong_line b t j) [ None ↦ differing b t js | Some line ↦ Some line ]

-- Its groups to the joint order

abbrev pub is_frame : List ℕ → Bool
is_frame bytes = elim (frame_decoded bytes) [ Ok _ ↦ true | Err _ ↦ false ]

-- a datagram that is a frame has to be offered before it comes
abbrev pub needed : Arrival → Option Key
needed (Quiet moment) = None
needed (Datagram broker moment bytes) = if is_frame bytes then Some (broker, bytes) else None

abbrev pub keys_of : List Offer → List Key
keys_of offers = map (λ (o : Offer). (o.to, o.bytes)) offers

-- of what comes behind what came
abbrev pub links_from : Behavior → List ℕ → List Arrival → List Came → List Link
links_from b brokers before [] = []
links_from b brokers before (c ∷ came) = let g : Group = b brokers before c.arrival in
    record { line = c.line; needs = needed c.arrival; gives = keys_of g.offers }
    ∷ links_from b brokers (before ++ c.arrival ∷ []) came

abbrev pub links_of : Behavior → TopologyView → Journal → List Link
links_of b t j = links_from b (rising t j.brokers) [] j.came

-- The verdict

abbrev pub order_verdict : List (List Link) → Verdict
order_verdict journals = elim (stays journals) [ None ↦ Yes | Some line ↦ No line Unoffered ]

abbrev pub text_verdict : Behavior → TopologyView → List Journal → Verdict
text_verdict b t js =
    elim (differing b t js) [ None ↦ order_verdict (map (links_of b t) js) | Some line ↦ No line Differs ]

-- the brokers are not one each, or a journal is not that of its brokers, or no order of all is honest; or all is well
abbrev pub verdict_of : Behavior → TopologyView → List Journal → Verdict
verdict_of b t js = elim (unhosted t js) [ None ↦ text_verdict b t js | Some line ↦ No line NotHosted ]

-- some publisher has a client
abbrev pub has_clients : TopologyView → Bool
has_clients t = list_any is_some t.clients

-- what is said of the bytes of journals, where brokers behave so
abbrev pub audited : Behavior → TopologyView → List ℕ → Result Verdict AuditFault
audited b t bytes = if has_clients t then Err Clients else journals_of t bytes >>= λ js. Ok (verdict_of b t js)
