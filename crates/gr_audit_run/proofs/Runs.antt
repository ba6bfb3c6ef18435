-- A process over what comes to it: what it has told and noted so far, with what is still to come, is its whole journal
use Rattle.std.proofs.Common.{◌≡◌, ℕ, ◌≤◌, ◌^◌, true, List, [], ◌∷◌, ◌++◌, length, map, Option, Some, None, refl, sym, ap, ◌∙◌, subst, append_assoc, append-nil}
use Rattle.gr_frame.specs.declared.Frame.{Frame}
use Rattle.gr_out.specs.Entry.{Entry}
use Rattle.gr_sched.specs.declared.step.Line.{Line}
use Rattle.gr_topo.specs.Topology.{TopologyView}
use Rattle.gr_model.specs.NetOf.{net_of}
use Rattle.gr_model.specs.World.{Transition, sent_since}
use Rattle.gr_model.specs.Arrivals.{Arrival, Request, left_after}
use Rattle.gr_journal.specs.declared.arrival.Arrival.{Arrival as Noted}
use Rattle.gr_journal.specs.declared.arrival.Arrival.TheVariants.{Quiet, Datagram}
use Rattle.gr_journal.specs.declared.arrival.Came.{Came}
use Rattle.gr_journal.specs.Lines.{process_text, arrival_text}
use Rattle.gr_journal.specs.Groups.{Group, groups_text, journal_text}
use Rattle.gr_report.proofs.Passing.{PassesLog, PassesRest}
use Rattle.gr_node.specs.Seen.{NodeView, seen}
use Rattle.gr_node.specs.Plan.{is_ours, offers_of}
use Rattle.gr_node.specs.Done.{Done}
use Rattle.gr_audit.specs.Joint.{Key, Link}
use Rattle.gr_audit.specs.Audited.{arrivals, needed, keys_of, links_from}
use Rattle.gr_audit.specs.Compared.{ComparedView, told_of, text_of}
use Rattle.gr_audit.specs.Coming.{ComesTo, AllComeTo}
use Rattle.gr_audit.specs.Noted.{Noted as Groups, last_gives, with_links}
use Rattle.gr_audit.specs.Ran.{IsWhole}
use Rattle.gr_audit.specs.Taken.{GivenView, came_by, first_of, behind_next}
use Rattle.gr_audit_theorems.specs.Behaves.{arrival_of, noted_offer, Standing, begun, comes_to, standing_next, standing_after, group_at, behaves}
use Rattle.gr_audit_theorems.proofs.Coming.{Unheard}
use Rattle.gr_audit_theorems.proofs.Texts.{after_one}
use Rattle.gr_trace.specs.Traced.{said_lines, outs_of}
use Rattle.gr_trace.proofs.Group.{IsProcess, told_text, come_done, came_entries, came_text, came_process}
use Rattle.gr_audit_run.specs.declared.brokers.Process.{Process}
use Rattle.gr_audit_run.specs.Process.{left_of, done_at, Took, with_offers}

-- What is noted

last_more : (ls : List Link) (l : Link) (k : Key) → last_gives (ls ++ l ∷ []) k ≡ ls ++ record { line = l.line; needs = l.needs; gives = l.gives ++ k ∷ [] } ∷ []
last_more [] l k = refl
last_more (x ∷ []) l k = refl
last_more (x ∷ y ∷ ls) l k = ap (λ (zs : List Link). x ∷ zs) (last_more (y ∷ ls) l k)

abbrev noting : List (List Link) → List Link → ℕ → Option Key → List Key → Groups
noting before ls line needs gives = record { before = before; now = ls ++ record { line = line; needs = needs; gives = gives } ∷ [] }

abbrev given_as : List Came → Groups → GivenView
given_as left n = record { left = left; noted = n }

-- offers of frames are given by the last group
offers_more : (before : List (List Link)) (ls : List Link) (line : ℕ) (needs : Option Key) (gives : List Key) (left : List Came) (fs : List Frame)
    → with_offers (offers_of fs) (given_as left (noting before ls line needs gives)) ≡ given_as left (noting before ls line needs (gives ++ keys_of (map noted_offer fs)))
offers_more before ls line needs gives left [] = ap (λ (ks : List Key). given_as left (noting before ls line needs ks)) (sym (append-nil gives))
offers_more before ls line needs gives left (f ∷ fs) =
    let o = noted_offer f in
    let k : Key = (o.to, o.bytes) in
    let l : Link = record { line = line; needs = needs; gives = gives } in
    ap (λ (xs : List Link). let n : Groups = record { before = before; now = xs } in with_offers (offers_of fs) (given_as left n)) (last_more ls l k)
    ∙ (offers_more before ls line needs (gives ++ k ∷ []) left fs
    ∙ ap (λ (ks : List Key). given_as left (noting before ls line needs ks)) (append_assoc gives (k ∷ []) (keys_of (map noted_offer fs))))

-- One process

-- what comes to its brokers is theirs
ours_of : (hosted : List ℕ) (a : Noted) → ComesTo hosted a → is_ours hosted (arrival_of a) ≡ true
ours_of hosted (Quiet moment) h = refl
ours_of hosted (Datagram b moment bytes) h = h.0

module _ (t : TopologyView) (hosted : List ℕ) (steps : List Line) where
  -- the process behind all of these
  abbrev pub after_all : List Noted → Standing
  after_all before = standing_after t hosted (begun t steps hosted) before

  -- A run of a process: it stands behind what came, and with what is still to come all will be told and noted
  pub record Runs (p : Process) (start g : GivenView) (begins c : ComparedView) : Type 0 where
    pub before : List Noted
    pub process : IsProcess t hosted (seen p.node) (standing_after t hosted (begun t steps hosted) before)
    pub left : left_of t hosted steps p ≡ Standing.left (standing_after t hosted (begun t steps hosted) before)
    pub told : told_of c ++ groups_text (behaves t steps) t hosted before (arrivals g.left)
        ≡ told_of begins ++ journal_text (behaves t steps) t hosted (arrivals start.left)
    pub noted : with_links g.noted (links_from (behaves t steps) hosted before g.left)
        ≡ with_links start.noted (links_from (behaves t steps) hosted [] start.left)
    pub text : text_of c ≡ text_of begins
    pub come : AllComeTo hosted g.left

  -- before anything came, once the line of the process is told
  pub runs_first : (p : Process) (g : GivenView) (begins c : ComparedView) → IsProcess t hosted (seen p.node) (begun t steps hosted) → left_of t hosted steps p ≡ Standing.left (begun t steps hosted)
      → told_of c ≡ told_of begins ++ process_text t hosted → text_of c ≡ text_of begins → AllComeTo hosted g.left → Runs p g g begins c
  runs_first p g begins c process left told text come = record {
    before = [];
    process = process;
    left = left;
    told = ap (λ xs. xs ++ groups_text (behaves t steps) t hosted [] (arrivals g.left)) told
        ∙ append_assoc (told_of begins) (process_text t hosted) (groups_text (behaves t steps) t hosted [] (arrivals g.left));
    noted = refl;
    text = text;
    come = come;
  }

  -- where nothing is left, all was told and noted
  pub runs_whole : (p : Process) (start g : GivenView) (begins c : ComparedView) → Runs p start g begins c → first_of g.left ≡ None → IsWhole (behaves t steps) t hosted start (behind_next g) begins c
  runs_whole p start g begins c r none = go g.left refl none
    where
      none_some : (x : Came) → Some x ≡ None → ⊥
      none_some x e = cc

      go : (left : List Came) → g.left ≡ left → first_of left ≡ None → IsWhole (behaves t steps) t hosted start (behind_next g) begins c
      go [] e h = record {
        noted = ap (λ (xs : List Came). let x : GivenView = came_by g.noted xs in x.noted) e
            ∙ (ap (λ (xs : List Link). let n : Groups = record { before = g.noted.before; now = xs } in n) (sym (append-nil g.noted.now))
            ∙ (sym (ap (λ (xs : List Came). with_links g.noted (links_from (behaves t steps) hosted r.before xs)) e) ∙ r.noted));
        told = sym (append-nil (told_of c)) ∙ (sym (ap (λ (xs : List Came). told_of c ++ groups_text (behaves t steps) t hosted r.before (arrivals xs)) e) ∙ r.told);
        text = r.text;
      }
      go (x ∷ xs) e h = absurd (none_some x h)

  -- What an arrival leads to
  module _ (passes : PassesLog) (passes_rest : PassesRest) (unheard : Unheard (net_of t)) (few : length t.subscribers ≤ 2 ^ 16)
      (p p' : Process) (start g g' : GivenView) (begins c : ComparedView) (x : Came) (xs : List Came)
      (r : Runs p start g begins c) (is : g.left ≡ x ∷ xs) (took : Took t hosted steps x.arrival p p') (fresh : p.text ≡ [])
      (noted : g' ≡ (let d : Done = done_at t hosted steps p x.arrival in with_offers d.entries (behind_next g))) where
    abbrev s : Standing
    s = standing_after t hosted (begun t steps hosted) r.before

    abbrev a : Arrival
    a = arrival_of x.arrival

    abbrev came : Done
    came = come_done t hosted (seen p.node) s.left a

    all_come : ComesTo hosted x.arrival × AllComeTo hosted xs
    all_come = subst (AllComeTo hosted) is r.come

    ours : is_ours hosted a ≡ true
    ours = ours_of hosted x.arrival all_come.0

    -- what was done is that, since what is left is what is left to the process
    same_done : done_at t hosted steps p x.arrival ≡ came
    same_done = ap (λ (left : List Request). come_done t hosted (seen p.node) left a) r.left

    abbrev more : List ℕ
    more = groups_text (behaves t steps) t hosted (r.before ++ x.arrival ∷ []) (arrivals xs)

    -- its text is that of the group
    text_is : p'.text ++ more ≡ groups_text (behaves t steps) t hosted r.before (arrivals (x ∷ xs))
    text_is =
        let tail : List ℕ = told_text t (group_at t hosted s a) in
        let one : p'.text ≡ arrival_text t x.arrival ++ tail =
        took.text ∙ (ap (λ ys. ys ++ (arrival_text t x.arrival ++ (let d : Done = done_at t hosted steps p x.arrival in said_lines t d.lines ++ outs_of t d.entries))) fresh
        ∙ (ap (λ (d : Done). arrival_text t x.arrival ++ (said_lines t d.lines ++ outs_of t d.entries)) same_done
        ∙ ap (λ ys. arrival_text t x.arrival ++ ys) (came_text t hosted (seen p.node) s a passes passes_rest unheard few r.process ours))) in
        ap (λ ys. ys ++ more) one

    told_now : (c' : ComparedView) → told_of c' ≡ told_of c ++ p'.text → told_of c' ++ more ≡ told_of begins ++ journal_text (behaves t steps) t hosted (arrivals start.left)
    told_now c' told =
        ap (λ ys. ys ++ more) told ∙ (append_assoc (told_of c) p'.text more
        ∙ (ap (λ ys. told_of c ++ ys) text_is
        ∙ (sym (ap (λ (ys : List Came). told_of c ++ groups_text (behaves t steps) t hosted r.before (arrivals ys)) is) ∙ r.told)))

    -- so are its offers
    abbrev keys : List Key
    keys = let b : Group = behaves t steps hosted r.before x.arrival in keys_of b.offers

    given_is : g' ≡ given_as xs (noting g.noted.before g.noted.now x.line (needed x.arrival) keys)
    unfolding group_at
    given_is =
        let u : Transition = comes_to t hosted s a in
        noted
        ∙ (ap (λ (d : Done). with_offers d.entries (behind_next g)) same_done
        ∙ (ap (λ (es : List Entry). with_offers es (behind_next g)) (came_entries t hosted (seen p.node) s a passes passes_rest unheard few r.process ours)
        ∙ (ap (λ (ys : List Came). with_offers (offers_of (sent_since s.world u.world)) (came_by g.noted ys)) is
        ∙ offers_more g.noted.before g.noted.now x.line (needed x.arrival) [] xs (sent_since s.world u.world))))

    pub left_now : g'.left ≡ xs
    left_now = ap (λ (v : GivenView). v.left) given_is

    noted_now : with_links g'.noted (links_from (behaves t steps) hosted (r.before ++ x.arrival ∷ []) g'.left)
        ≡ with_links start.noted (links_from (behaves t steps) hosted [] start.left)
    noted_now =
        let link : Link = record { line = x.line; needs = needed x.arrival; gives = keys } in
        let rest : List Link = links_from (behaves t steps) hosted (r.before ++ x.arrival ∷ []) xs in
        ap (λ (v : GivenView). with_links v.noted (links_from (behaves t steps) hosted (r.before ++ x.arrival ∷ []) v.left)) given_is
        ∙ (ap (λ (ls : List Link). let n : Groups = record { before = g.noted.before; now = ls } in n) (append_assoc g.noted.now (link ∷ []) rest)
        ∙ (sym (ap (λ (ys : List Came). with_links g.noted (links_from (behaves t steps) hosted r.before ys)) is) ∙ r.noted))

    left_next : left_after s.left a ≡ Standing.left (standing_next t hosted s a)
    unfolding standing_next
    left_next = refl

    -- and it runs on behind the arrival
    pub runs_on : (c' : ComparedView) → told_of c' ≡ told_of c ++ p'.text → text_of c' ≡ text_of c → Runs p' start g' begins c'
    runs_on c' told same =
        let next : standing_after t hosted (begun t steps hosted) (r.before ++ x.arrival ∷ []) ≡ standing_next t hosted s a = after_one t hosted (begun t steps hosted) r.before x.arrival in
        record {
          before = r.before ++ x.arrival ∷ [];
          process = subst (λ (z : Standing). IsProcess t hosted (seen p'.node) z) (sym next)
              (subst (λ (m : NodeView). IsProcess t hosted m (standing_next t hosted s a)) (sym (took.node ∙ ap (λ (d : Done). d.node) same_done))
              (came_process t hosted (seen p.node) s a passes passes_rest unheard few r.process ours));
          left = took.left ∙ (ap (λ (xs : List Request). left_after xs a) r.left ∙ (left_next ∙ ap (λ (z : Standing). z.left) (sym next)));
          told = ap (λ (ys : List Came). told_of c' ++ groups_text (behaves t steps) t hosted (r.before ++ x.arrival ∷ []) (arrivals ys)) left_now ∙ told_now c' told;
          noted = noted_now;
          text = same ∙ r.text;
          come = subst (AllComeTo hosted) (sym left_now) all_come.1;
        }

    -- or it was cut in its group
    pub runs_cut : (c' : ComparedView) (rest : List ℕ) → told_of c' ++ rest ≡ told_of c ++ p'.text → told_of c' ++ (rest ++ more) ≡ told_of begins ++ journal_text (behaves t steps) t hosted (arrivals start.left)
    runs_cut c' rest told =
        sym (append_assoc (told_of c') rest more) ∙ (ap (λ ys. ys ++ more) told ∙ (append_assoc (told_of c) p'.text more
        ∙ (ap (λ ys. told_of c ++ ys) text_is
        ∙ (sym (ap (λ (ys : List Came). told_of c ++ groups_text (behaves t steps) t hosted r.before (arrivals ys)) is) ∙ r.told))))
