-- What a client does of what comes: the notes that it offers, and the lines that it prints
use Rattle.std.specs.Prelude.{ℕ, ◌+◌, Bool, true, false, nat_eq, if◌then◌else◌, List, [], ◌∷◌, ◌++◌, length, take}
use Rattle.std.specs.Prelude.{Option, Some, None, Result, Ok, Err, codes, flat_map, unwrap_or}
use Rattle.std.specs.Fmt.{decimal}
use Rattle.gr_event.specs.declared.event.Event.{Event}
use Rattle.gr_note.specs.declared.note.Note.{Note}
use Rattle.gr_note.specs.declared.fault.NoteFault.{NoteFault}
use Rattle.gr_note.specs.Bytes.{note_bytes}
use Rattle.gr_note.specs.Decode.{note_decoded}
use Rattle.gr_note.specs.Nodes.{client_node}
use Rattle.gr_client.specs.Came.{Arrival, datagram, quiet, entry_of}
use Rattle.gr_out.specs.declared.fault.RunFault.{RunFault}
use Rattle.gr_out.specs.Entry.{Entry}
use Rattle.gr_out.specs.Entry as entry
use Rattle.gr_client.specs.Moves.{fault_entries}
use Rattle.gr_sched.specs.declared.step.Line.{Line}
use Rattle.gr_sched.specs.declared.step.Step.TheVariants as step
use Rattle.gr_topo.specs.Topology.{TopologyView, name_at, host_of, address_of, client_of, is_this}
use Rattle.gr_client.specs.declared.client.Progress.{Progress}
use Rattle.gr_client.specs.declared.client.Progress.TheVariants.{Running, Done, Spent, Ahead}
use Rattle.gr_client.specs.Client.{ClientView, client_begun, heard_by, offered}

-- The events

-- the event of a publish line of a publisher; its written number is left aside
abbrev pub events_in : ℕ → Line → List Event
events_in p l =
    elim l.step [
      | step.Publish q number stop e ↦ if nat_eq q p then e ∷ [] else []
      | _ ↦ []
    ]

abbrev pub events_of : ℕ → List Line → List Event
events_of p steps = flat_map (events_in p) steps

-- the client of a publisher, with the events of a schedule
abbrev pub begun : ℕ → List Line → ClientView
begun p steps = client_begun p (events_of p steps)

-- How it goes on

-- by what was read: what is no note changes nothing
abbrev pub heard_of : ClientView → Result Note NoteFault → ClientView
heard_of c (Ok n) = heard_by c n
heard_of c (Err fault) = c

-- by what came
abbrev pub after_one : ClientView → Arrival → ClientView
after_one c (datagram at bytes moment) = heard_of c (note_decoded bytes)
after_one c (quiet moment) = c

unfoldable pub after_all : ClientView → List Arrival → ClientView
after_all c [] = c
after_all c (a ∷ came) = after_all (after_one c a) came

-- What it says

-- of m events, the number of the one that is next: one past the last where all are logged
abbrev pub next_in : ℕ → Progress → Option ℕ
next_in m (Running n) = Some n
next_in m Done = Some (m + 1)
next_in m _ = None

-- a number that comes next and did not before
abbrev pub told_from : Option ℕ → Option ℕ → Option ℕ
told_from old None = None
told_from old (Some n) = if is_this old n then None else Some n

-- the number that comes next for a client that has become another, where it is another number than before
abbrev pub told_by : ClientView → ClientView → Option ℕ
told_by c after = told_from (next_in (length c.events) c.progress) (next_in (length c.events) after.progress)

-- and by an arrival
abbrev pub told_in : ClientView → Arrival → Option ℕ
told_in c a = told_by c (after_one c a)

-- `next P N`
abbrev pub next_line : TopologyView → ℕ → ℕ → List ℕ
next_line t p n = codes "next " ++ (name_at t.publishers p ++ (32 ∷ (decimal n ++ 10 ∷ [])))

-- `client P next N of M`
abbrev pub next_of_line : TopologyView → ℕ → ℕ → ℕ → List ℕ
next_of_line t p m n =
    codes "client "
    ++ (name_at t.publishers p ++ (codes " next " ++ (decimal n ++ (codes " of " ++ (decimal m ++ 10 ∷ [])))))

-- `client P spent`
abbrev pub spent_line : TopologyView → ℕ → List ℕ
spent_line t p = codes "client " ++ (name_at t.publishers p ++ codes " spent\n")

-- `client P ahead N`
abbrev pub ahead_line : TopologyView → ℕ → ℕ → List ℕ
ahead_line t p n = codes "client " ++ (name_at t.publishers p ++ (codes " ahead " ++ (decimal n ++ 10 ∷ [])))

-- what stands at the end, of a client of m events
abbrev pub last_line : TopologyView → ℕ → ℕ → Progress → List ℕ
last_line t p m (Running n) = next_of_line t p m n
last_line t p m Done = next_of_line t p m (m + 1)
last_line t p m Spent = spent_line t p
last_line t p m (Ahead n) = ahead_line t p n

abbrev pub told_line : TopologyView → ℕ → Option ℕ → List ℕ
told_line t p None = []
told_line t p (Some n) = next_line t p n

-- What it offers

-- its next event, to the host
abbrev pub offer_entries : ℕ → ClientView → List Entry
offer_entries host c =
    elim (offered c) [
      | Some n ↦ entry.offered (client_node c.publisher) host (note_bytes n) ∷ []
      | None ↦ []
    ]

-- the same, where a number is told
abbrev pub told_offers : ℕ → ClientView → Option ℕ → List Entry
told_offers host c None = []
told_offers host c (Some n) = offer_entries host c

-- and where another number comes next
abbrev pub offers_by : ℕ → ClientView → ClientView → List Entry
offers_by host c after = told_offers host after (told_by c after)

-- at a quiet moment, and where another number comes next
abbrev pub turn_offers : ℕ → ClientView → Arrival → List Entry
turn_offers host c (quiet moment) = offer_entries host c
turn_offers host c (datagram at bytes moment) = offers_by host c (after_one c (datagram at bytes moment))

-- that nothing comes any more, in the journal
abbrev pub closing : Bool → List Entry
closing shut = if shut then entry.closed ∷ [] else []

-- All that came

unfoldable pub turns_text : TopologyView → ℕ → ClientView → List Arrival → List ℕ
turns_text t p c [] = []
turns_text t p c (a ∷ came) = told_line t p (told_in c a) ++ turns_text t p (after_one c a) came

unfoldable pub turns_entries : ℕ → ClientView → List Arrival → List Entry
turns_entries host c [] = []
turns_entries host c (a ∷ came) = (entry_of a ∷ turn_offers host c a) ++ turns_entries host (after_one c a) came

-- The whole run

-- the two nodes that are bound: the client's here, and the host's elsewhere
abbrev pub nodes : TopologyView → ℕ → List Entry
nodes t p =
    entry.bound (client_node p) (unwrap_or (client_of t p) []) true
    ∷ entry.bound (host_of t p) (unwrap_or (address_of t (host_of t p)) []) false ∷ []

-- a node that is bound, or the failure of that
abbrev pub bound_entries : ℕ → List ℕ → Bool → Result (Unit {0}) RunFault → List Entry
bound_entries node address here (Ok x) = entry.bound node address here ∷ []
bound_entries node address here (Err e) = fault_entries {T = Unit {0}} (Err e)

-- so many nodes are bound, and after both the first event is offered
abbrev pub begun_entries : TopologyView → ℕ → List Line → ℕ → List Entry
begun_entries t p steps k =
    take k (nodes t p) ++ (if nat_eq k 2 then offer_entries (host_of t p) (begun p steps) else [])
