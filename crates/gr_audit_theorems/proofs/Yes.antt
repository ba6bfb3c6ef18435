-- Journals that are audited with yes are one honest run
use Rattle.std.proofs.Common.{◌≡◌, ℕ, zero, suc, ◌≤◌, ◌<◌, ◌^◌, Bool, true, false, List, [], ◌∷◌, ◌++◌, Option, Some, None, Result, Ok, Err, length, get_or, map, refl, sym, ap, ap₂, ◌∙◌, subst, arith}
use Rattle.std.specs.Prelude.{if◌then◌else◌}
use Rattle.std.specs.List.{AllByRecursion}
use Rattle.std.proofs.lemmas.Bool.{true≢false}
use Rattle.gr_sched.specs.declared.step.Line.{Line}
use Rattle.gr_topo.specs.Topology.{TopologyView}
use Rattle.gr_model.specs.declared.report.Report.{Report}
use Rattle.gr_model.specs.Net.{Net}
use Rattle.gr_model.specs.NetOf.{net_of}
use Rattle.gr_model.specs.World.{World, Transition, start, start_by, sent_lines}
use Rattle.gr_model.specs.Headline.{begin}
use Rattle.gr_model.specs.Arrivals.{Arrival, Request, requests_of, left_after, comes}
use Rattle.gr_model.specs.Orders.{orders_of, with_orders}
use Rattle.gr_model_theorems.specs.Joint.{brokers_of, left_of, lefts_at_start, joint_reports, IsHonestJoint, HoldsJoint, IsJointRun}
use Rattle.gr_model_theorems.specs.Served.{IsOfBytes}
use Rattle.gr_model_theorems.specs.Spelled.{LateIn, NumbersIn}
use Rattle.gr_model_theorems.specs.Statements.{IsAskedRun}
use Rattle.gr_journal.specs.declared.arrival.Arrival.{Arrival as Noted}
use Rattle.gr_journal.specs.declared.arrival.Arrival.TheVariants as noted
use Rattle.gr_journal.specs.declared.arrival.Came.{Came}
use Rattle.gr_journal.specs.declared.journal.Journal.{Journal}
use Rattle.gr_journal.specs.declared.fault.AuditFault.{AuditFault}
use Rattle.gr_journal.specs.declared.fault.AuditFault.TheVariants.{Clients}
use Rattle.gr_journal.specs.Gives.{◌>>=◌}
use Rattle.gr_journal.specs.Groups.{journal_text}
use Rattle.gr_journal.specs.Hosting.{unhosted}
use Rattle.gr_journal.specs.Lines.{rising, process_text, journals_of}
use Rattle.gr_audit.specs.declared.verdict.Verdict.{Verdict}
use Rattle.gr_audit.specs.declared.verdict.Verdict.TheVariants.{Yes, No}
use Rattle.gr_audit.specs.declared.verdict.Why.TheVariants.{NotHosted, Differs, Unoffered}
use Rattle.gr_audit.specs.Audited.{arrivals, wrong_line, differing, order_verdict, text_verdict, verdict_of, has_clients, audited}
use Rattle.gr_audit.specs.Coming.{ComesTo, AllComeTo, AllCome}
use Rattle.gr_audit.specs.Joint.{Link, State, begun as all_left, total, MayGo, after, AllGone, stays, JointIsExact, StaysIsExact}
use Rattle.gr_audit.specs.Verdict.{WrongIsExact}
use Rattle.gr_audit.proofs.Sound.{journals_come}
use Rattle.gr_audit_theorems.specs.Behaves.{arrival_of, begun, behaves}
use Rattle.gr_audit_theorems.specs.Numbered.{numbered_groups}
use Rattle.gr_audit_theorems.specs.OneRun.{processes_of, came_to, ArePartsOf, turns_of, arrivals_at, parts_at, joint_sent, groups_said, SaysItsPart, links_in_all, order_of, IsOneRun}
use Rattle.gr_audit_theorems.proofs.Beside.{beside_itself}
use Rattle.gr_audit_theorems.proofs.Bytes.{come_of_bytes}
use Rattle.gr_audit_theorems.proofs.Coming.{ArrivalAt, Unheard, requests_at}
use Rattle.gr_audit_theorems.proofs.Honest.{turns_all, whole_from, honest_from}
use Rattle.gr_audit_theorems.proofs.Parts.{are_parts, parts_apart, all_below, unheard_of}
use Rattle.gr_audit_theorems.proofs.Running.{alone_lines, alone_sent, TurnsAt, AllApart, AllRequestsAt, lines_alone, sent_alone}
use Rattle.gr_audit_theorems.proofs.Texts.{text_alone, alone_links, links_alone}

-- The headline of processes that run side by side, as it is proved of the machine
abbrev pub HeadlineJoint : Type 0
HeadlineJoint = (net : Net) (processes : List (List ℕ)) (steps : List Line) (turns : List (ℕ × Arrival)) → IsJointRun net processes steps turns
    → HoldsJoint net processes (begin net) (lefts_at_start net processes steps) turns (joint_reports net processes steps turns)

-- Journals at their places

abbrev came_of : List Journal → ℕ → List Came
came_of js k = get_or (map (λ (j : Journal). j.came) js) k []

at_map : {X : Type 0} (f : Journal → List X) (js : List Journal) (k : ℕ) (j : Journal) → k < length js → get_or js k j ≡ j → get_or (map f js) k [] ≡ f j
at_map f [] k j lt e = absurd (omega (arith, lt))
at_map f (x ∷ js) zero j lt e = ap f e
at_map f (x ∷ js) (suc k) j lt e = at_map f js k j (omega (arith, lt)) e

came_is : (js : List Journal) (k : ℕ) → get_or (came_to js) k [] ≡ map arrival_of (arrivals (came_of js k))
came_is [] k = refl
came_is (j ∷ js) zero = refl
came_is (j ∷ js) (suc k) = came_is js k

links_start : (t : TopologyView) (steps : List Line) (js : List Journal) (k : ℕ) → get_or (links_in_all t steps js) k []
    ≡ alone_links t (brokers_of (processes_of t js) k) (start (net_of t)) (left_of (lefts_at_start (net_of t) (processes_of t js) steps) k) (came_of js k)
unfolding alone_links
links_start t steps [] k = refl
links_start t steps (j ∷ js) zero = links_alone t steps (rising t j.brokers) [] j.came (begun t steps (rising t j.brokers)) refl
links_start t steps (j ∷ js) (suc k) = links_start t steps js k

count_links : (t : TopologyView) (hosted : List ℕ) (came : List Came) (w : World) (left : List Request) → length (alone_links t hosted w left came) ≡ length (map arrival_of (arrivals came))
unfolding alone_links
count_links t hosted [] w left = refl
count_links t hosted (c ∷ came) w left = let u : Transition = comes (net_of t) hosted w left (arrival_of c.arrival) in ap (λ n. suc n) (count_links t hosted came u.world (left_after left (arrival_of c.arrival)))

came_at : (hosted : List ℕ) (came : List Came) → AllComeTo hosted came → AllByRecursion (λ (c : Came). ArrivalAt hosted (arrival_of c.arrival)) came
came_at hosted [] h = tt
came_at hosted (c ∷ came) h = (go c.arrival h.0, came_at hosted came h.1)
  where
    go : (a : Noted) → ComesTo hosted a → ArrivalAt hosted (arrival_of a)
    go (noted.Quiet moment) k = tt
    go (noted.Datagram b moment bytes) k = k.0

each_at : (t : TopologyView) (js : List Journal) (k : ℕ) → AllCome t js → AllByRecursion (λ (c : Came). ArrivalAt (brokers_of (processes_of t js) k) (arrival_of c.arrival)) (came_of js k)
each_at t [] k h = tt
each_at t (j ∷ js) zero h = came_at (rising t j.brokers) j.came h.0
each_at t (j ∷ js) (suc k) h = each_at t js k h.1

as_arrivals : (hosted : List ℕ) (came : List Came) → AllByRecursion (λ (c : Came). ArrivalAt hosted (arrival_of c.arrival)) came → AllByRecursion (ArrivalAt hosted) (map arrival_of (arrivals came))
as_arrivals hosted [] h = tt
as_arrivals hosted (c ∷ came) h = (h.0, as_arrivals hosted came h.1)

requests_start : (net : Net) (steps : List Line) (processes : List (List ℕ)) → AllRequestsAt net processes (lefts_at_start net processes steps)
requests_start net steps [] k = tt
requests_start net steps (hosted ∷ processes) zero = requests_at net hosted steps
requests_start net steps (hosted ∷ processes) (suc k) = requests_start net steps processes k

lefts_are : (net : Net) (steps : List Line) (t : TopologyView) (js : List Journal) (k : ℕ) (j : Journal) → k < length js → get_or js k j ≡ j → left_of (lefts_at_start net (processes_of t js) steps) k ≡ requests_of net (rising t j.brokers) steps
lefts_are net steps t [] k j lt e = absurd (omega (arith, lt))
lefts_are net steps t (x ∷ js) zero j lt e = ap (λ (z : Journal). requests_of net (rising t z.brokers) steps) e
lefts_are net steps t (x ∷ js) (suc k) j lt e = lefts_are net steps t js k j (omega (arith, lt)) e

start_sends : (net : Net) → (World.frames (start net)) ≡ []
unfolding start_by
start_sends net = refl

-- the first journal that differs is none, so none does
differing_at : (t : TopologyView) (steps : List Line) (js : List Journal) (k : ℕ) (j : Journal) → differing (behaves t steps) t js ≡ None → k < length js → get_or js k j ≡ j → wrong_line (behaves t steps) t j ≡ None
differing_at t steps [] k j h lt e = absurd (omega (arith, lt))
differing_at t steps (x ∷ js) k j h lt e = go (wrong_line (behaves t steps) t x) refl h k lt e (λ n q lt e. differing_at t steps js n j q lt e)
  where
    Rest : Type 0
    Rest = (n : ℕ) → differing (behaves t steps) t js ≡ None → n < length js → get_or js n j ≡ j → wrong_line (behaves t steps) t j ≡ None

    go : (o : Option ℕ) → wrong_line (behaves t steps) t x ≡ o → ◌≡◌ {A = Option ℕ} (elim o [ None ↦ differing (behaves t steps) t js | Some line ↦ Some line ]) None → (k : ℕ) → k < length (x ∷ js) → get_or (x ∷ js) k j ≡ j → Rest → wrong_line (behaves t steps) t j ≡ None
    go (Some line) f q k lt e more = absurd (cc)
    go None f q zero lt e more = subst (λ z. wrong_line (behaves t steps) t z ≡ None) e f
    go None f q (suc k) lt e more = more k q (omega (arith, lt)) e

-- Journals that are hosted, as expected, and of which no arrival stays

module _ (headline_law : HeadlineJoint) (exact : JointIsExact) (stays_exact : StaysIsExact) (wrong_exact : WrongIsExact) (t : TopologyView) (steps : List Line) (bytes : List ℕ)
    (asked : IsAskedRun (net_of t) steps) (brokers : length t.brokers ≤ 2 ^ 16) (publishers : length t.publishers ≤ 2 ^ 16) (late : LateIn (net_of t)) (numbers_in : NumbersIn steps) where
  module _ (js : List Journal) (unheard : has_clients t ≡ false) (read : journals_of t bytes ≡ Ok js) (hosting : unhosted t js ≡ None) (same : differing (behaves t steps) t js ≡ None) (goes : stays (links_in_all t steps js) ≡ None) where
    abbrev net : Net
    net = net_of t

    abbrev processes : List (List ℕ)
    processes = processes_of t js

    abbrev links : List (List Link)
    links = links_in_all t steps js

    abbrev order : List ℕ
    order = order_of t steps js

    abbrev turns : List (ℕ × Arrival)
    turns = turns_of (came_to js) order

    abbrev lefts : List (List Request)
    lefts = lefts_at_start (net_of t) (processes_of t js) steps

    parts : ArePartsOf (net_of t) (processes_of t js)
    parts = are_parts t js hosting

    apart : AllApart (processes_of t js)
    apart = parts_apart t js parts

    quiet_net : Unheard (net_of t)
    quiet_net = unheard_of t unheard

    may : MayGo (all_left (links_in_all t steps js)) (order_of t steps js)
    may = (exact (total links) (all_left links) (omega arith)).0

    gone : AllGone (after (all_left (links_in_all t steps js)) (order_of t steps js))
    gone i =
        let facts = exact (total links) (all_left links) (omega arith) in
        ap (λ (u : State). get_or u.left i []) facts.1 ∙ facts.2.1 ((stays_exact links).0 goes) i

    here : (k : ℕ) → AllByRecursion (λ (c : Came). ArrivalAt (brokers_of (processes_of t js) k) (arrival_of c.arrival)) (came_of js k)
    here k = each_at t js k (journals_come t bytes js read)

    requests : AllRequestsAt (net_of t) (processes_of t js) (lefts_at_start (net_of t) (processes_of t js) steps)
    requests = requests_start net steps processes

    turns_at : TurnsAt (processes_of t js) (turns_of (came_to js) (order_of t steps js))
    turns_at = turns_all (λ k a. ArrivalAt (brokers_of (processes_of t js) k) a) order (came_to js)
        (λ k. subst (AllByRecursion (ArrivalAt (brokers_of (processes_of t js) k))) (sym (came_is js k)) (as_arrivals (brokers_of (processes_of t js) k) (came_of js k) (here k)))

    whole : (k : ℕ) → arrivals_at k (turns_of (came_to js) (order_of t steps js)) ≡ get_or (came_to js) k []
    whole k = whole_from order (all_left links) (came_to js) k
        (λ i. ap length (links_start t steps js i) ∙ (count_links t (brokers_of (processes_of t js) i) (came_of js i) (start (net_of t)) (left_of (lefts_at_start (net_of t) (processes_of t js) steps) i) ∙ ap length (sym (came_is js i)))) may gone

    honest : IsHonestJoint [] (turns_of (came_to js) (order_of t steps js)) (joint_reports (net_of t) (processes_of t js) steps (turns_of (came_to js) (order_of t steps js)))
    honest = honest_from t processes quiet_net apart order (all_left links) (came_to js) (start net) lefts [] (λ k. record {
      world = start (net_of t);
      came = came_of js k;
      links_are = links_start t steps js k;
      cames_are = came_is js k;
      beside = beside_itself (net_of t) (brokers_of (processes_of t js) k) (start (net_of t));
      at = here k;
    }) requests (record { offers = λ k h. absurd (true≢false (sym h)); lines = ap (λ z. sent_lines 1 z) (sym (start_sends (net_of t))) }) may

    run : IsJointRun (net_of t) (processes_of t js) steps (turns_of (came_to js) (order_of t steps js))
    run = record {
      asked = asked;
      brokers = brokers;
      publishers = publishers;
      late = late;
      numbers_in = numbers_in;
      hosted = all_below t js;
      bytes = turns_all (λ k a. IsOfBytes a) order (came_to js) (come_of_bytes t bytes js read);
      honest = honest;
    }

    said : (k : ℕ) (j : Journal) → k < length js → get_or js k j ≡ j → SaysItsPart t (processes_of t js) steps (turns_of (came_to js) (order_of t steps js)) k j
    said k j lt e =
        (wrong_exact j.first j.text (journal_text (behaves t steps) t hosted (arrivals j.came))).0 (differing_at t steps js k j same lt e)
        ∙ ap (λ (z : List ℕ). process_text t hosted ++ z) (text_alone t steps hosted [] (arrivals j.came) (begun t steps hosted) refl
        ∙ ap₂ (λ rs sent. groups_said t (arrivals j.came) (with_orders (orders_of t) rs) sent) lines frames)
      where
        hosted : List ℕ
        hosted = rising t j.brokers

        reports : List (List Report)
        reports = joint_reports (net_of t) (processes_of t js) steps (turns_of (came_to js) (order_of t steps js))

        came : arrivals_at k (turns_of (came_to js) (order_of t steps js)) ≡ map arrival_of (arrivals j.came)
        came = whole k ∙ at_map (λ (z : Journal). map arrival_of (arrivals z.came)) js k j lt e

        brokers_are : brokers_of (processes_of t js) k ≡ rising t j.brokers
        brokers_are = at_map (λ (z : Journal). rising t z.brokers) js k j lt e

        left_is : left_of (lefts_at_start (net_of t) (processes_of t js) steps) k ≡ requests_of (net_of t) (rising t j.brokers) steps
        left_is = lefts_are (net_of t) steps t js k j lt e

        lines : alone_lines (net_of t) (rising t j.brokers) (start (net_of t)) (requests_of (net_of t) (rising t j.brokers) steps) (map arrival_of (arrivals j.came)) ≡ numbered_groups 1 (parts_at k turns reports)
        lines = sym (ap (λ n. numbered_groups (suc n) (parts_at k turns reports)) (sym (ap length (start_sends (net_of t))))
            ∙ (lines_alone (net_of t) (processes_of t js) quiet_net apart k turns (start (net_of t)) (start (net_of t)) lefts turns_at requests (beside_itself (net_of t) (brokers_of (processes_of t js) k) (start (net_of t)))
            ∙ (ap₂ (λ x y. alone_lines (net_of t) x (start (net_of t)) y (arrivals_at k turns)) brokers_are left_is
            ∙ ap (λ z. alone_lines (net_of t) (rising t j.brokers) (start (net_of t)) (requests_of (net_of t) (rising t j.brokers) steps) z) came)))

        frames : alone_sent (net_of t) (rising t j.brokers) (start (net_of t)) (requests_of (net_of t) (rising t j.brokers) steps) (map arrival_of (arrivals j.came)) ≡ parts_at k turns (joint_sent (net_of t) (processes_of t js) steps turns)
        frames = sym (sent_alone (net_of t) (processes_of t js) quiet_net apart k turns (start (net_of t)) (start (net_of t)) lefts turns_at requests (beside_itself (net_of t) (brokers_of (processes_of t js) k) (start (net_of t)))
            ∙ (ap₂ (λ x y. alone_sent (net_of t) x (start (net_of t)) y (arrivals_at k turns)) brokers_are left_is
            ∙ ap (λ z. alone_sent (net_of t) (rising t j.brokers) (start (net_of t)) (requests_of (net_of t) (rising t j.brokers) steps) z) came))

    is_run : IsOneRun t steps bytes
    is_run = record {
      js = js;
      read = read;
      run = record {
        parts = parts;
        whole = whole;
        honest = honest;
        headline = headline_law (net_of t) (processes_of t js) steps (turns_of (came_to js) (order_of t steps js)) run;
        said = said;
      };
    }

  -- a yes is none of the other verdicts
  by_order : (js : List Journal) → has_clients t ≡ false → journals_of t bytes ≡ Ok js → unhosted t js ≡ None → differing (behaves t steps) t js ≡ None → order_verdict (links_in_all t steps js) ≡ Yes → IsOneRun t steps bytes
  by_order js c r u d v = go (stays (links_in_all t steps js)) refl v
    where
      go : (o : Option ℕ) → stays (links_in_all t steps js) ≡ o → (elim o [ None ↦ Yes | Some line ↦ No line Unoffered ]) ≡ Yes → IsOneRun t steps bytes
      go None e q = is_run js c r u d e
      go (Some line) e q = absurd (cc)

  by_text : (js : List Journal) → has_clients t ≡ false → journals_of t bytes ≡ Ok js → unhosted t js ≡ None → text_verdict (behaves t steps) t js ≡ Yes → IsOneRun t steps bytes
  by_text js c r u v = go (differing (behaves t steps) t js) refl v
    where
      go : (o : Option ℕ) → differing (behaves t steps) t js ≡ o → (elim o [ None ↦ order_verdict (links_in_all t steps js) | Some line ↦ No line Differs ]) ≡ Yes → IsOneRun t steps bytes
      go None e q = by_order js c r u e q
      go (Some line) e q = absurd (cc)

  by_verdict : (js : List Journal) → has_clients t ≡ false → journals_of t bytes ≡ Ok js → verdict_of (behaves t steps) t js ≡ Yes → IsOneRun t steps bytes
  by_verdict js c r v = go (unhosted t js) refl v
    where
      go : (o : Option ℕ) → unhosted t js ≡ o → (elim o [ None ↦ text_verdict (behaves t steps) t js | Some line ↦ No line NotHosted ]) ≡ Yes → IsOneRun t steps bytes
      go None e q = by_text js c r e q
      go (Some line) e q = absurd (cc)

  ok_yes : (v : Verdict) → ◌≡◌ {A = Result Verdict AuditFault} (Ok v) (Ok Yes) → v ≡ Yes
  ok_yes v e = ap (λ r. elim r [ Ok z ↦ z | Err f ↦ v ]) e

  pub yes_is_one_run : audited (behaves t steps) t bytes ≡ Ok Yes → IsOneRun t steps bytes
  yes_is_one_run e = clients (has_clients t) refl e
    where
      reading : has_clients t ≡ false → (r : Result (List Journal) AuditFault) → journals_of t bytes ≡ r → (r >>= λ js. Ok (verdict_of (behaves t steps) t js)) ≡ Ok Yes → IsOneRun t steps bytes
      reading c (Ok js) r q = by_verdict js c r (ok_yes (verdict_of (behaves t steps) t js) q)
      reading c (Err f) r q = absurd (cc)

      clients : (b : Bool) → has_clients t ≡ b → ◌≡◌ {A = Result Verdict AuditFault} (if b then Err Clients else journals_of t bytes >>= λ js. Ok (verdict_of (behaves t steps) t js)) (Ok Yes) → IsOneRun t steps bytes
      clients true c q = absurd (cc)
      clients false c q = reading c (journals_of t bytes) refl q
