-- A run of a process begins, goes on with an arrival, ends, or is cut
use Rattle.std.proofs.Common.{◌≡◌, ℕ, suc, ◌<◌, ◌≤◌, ◌^◌, false, List, [], ◌∷◌, ◌++◌, length, Option, Some, None, option_map, sym, ap, ◌∙◌, subst, arith, append_assoc}
use Rattle.std.specs.Prelude.{IsSome}
use Rattle.gr_sched.specs.declared.step.Line.{Line}
use Rattle.gr_topo.specs.Topology.{TopologyView, IsTopology}
use Rattle.gr_model.specs.NetOf.{net_of}
use Rattle.gr_model.specs.Arrivals.{requests_of}
use Rattle.gr_journal.specs.declared.arrival.Came.{Came}
use Rattle.gr_journal.specs.Groups.{groups_text}
use Rattle.gr_journal.specs.Lines.{process_text}
use Rattle.gr_report.proofs.Passing.{PassesLog, PassesRest}
use Rattle.gr_node.specs.Seen.{NodeView, seen}
use Rattle.gr_node.specs.Keeps.{IsAsked}
use Rattle.gr_node.specs.Done.{Done}
use Rattle.gr_audit.specs.Audited.{arrivals, has_clients}
use Rattle.gr_audit.specs.Compared.{ComparedView, told_of, text_of}
use Rattle.gr_audit.specs.Coming.{AllComeTo}
use Rattle.gr_audit.specs.Ran.{IsWhole, IsCut}
use Rattle.gr_audit.specs.Taken.{GivenView, first_of, behind_next}
use Rattle.gr_audit_theorems.specs.Behaves.{begun, standing_after, behaves}
use Rattle.gr_audit_theorems.proofs.Parts.{unheard_of}
use Rattle.gr_trace.proofs.Group.{IsProcess}
use Rattle.gr_audit_run.specs.declared.brokers.Process.{Process}
use Rattle.gr_audit_run.specs.Process.{IsFresh, left_of, done_at, Took, with_offers}
use Rattle.gr_audit_run.proofs.Start.{fresh_process}
use Rattle.gr_audit_run.proofs.Runs.{Runs, runs_first, runs_whole, runs_on, runs_cut, left_now}

-- What is first of what is still to come

pub first_is : {X Y : Type 0} (f : X → Y) (o : Option X) (x : X) (p : Option Y) → option_map f o ≡ p → o ≡ Some x → Some (f x) ≡ p
first_is f o x p h is = ap (option_map f) (sym is) ∙ h

pub none_is : {X Y : Type 0} (f : X → Y) (o : Option X) (p : Option Y) → option_map f o ≡ p → o ≡ None → None ≡ p
none_is f o p h is = ap (option_map f) (sym is) ∙ h

abbrev rest_of : List Came → List Came
rest_of [] = []
rest_of (x ∷ xs) = xs

none_some : (x : Came) → Some x ≡ None → ⊥
none_some x h = cc

some_same : (x y : Came) → Some x ≡ Some y → x ≡ y
some_same x y h = cc

with_rest : (left : List Came) (x : Came) → Some x ≡ first_of left → left ≡ x ∷ rest_of left
with_rest [] x h = absurd (none_some x h)
with_rest (y ∷ ys) x h = ap (λ (z : Came). z ∷ ys) (sym (some_same x y h))

few_of : (t : TopologyView) → IsTopology t → length t.subscribers ≤ 2 ^ 16
few_of t topology = let sound = topology.sound in omega (arith, sound.limits.subscribers)

module _ (t : TopologyView) (hosted : List ℕ) (steps : List Line) where
  -- The line of the process is told

  pub run_begins : (p : Process) (g : GivenView) (begins c : ComparedView) → IsAsked t hosted steps → IsTopology t → IsFresh t hosted (seen p.node) → left_of t hosted steps p ≡ requests_of (net_of t) hosted steps
      → p.text ≡ process_text t hosted → told_of c ≡ told_of begins ++ p.text → text_of c ≡ text_of begins → AllComeTo hosted g.left → Runs t hosted steps p g g begins c
  run_begins p g begins c asked topology fresh left text told same come =
      runs_first t hosted steps p g begins c (fresh_process t hosted steps (seen p.node) asked.brokers asked.lines topology.sound (few_of t topology) fresh) left
      (told ∙ ap (λ xs. told_of begins ++ xs) text) same come

  -- or a front of it
  pub cut_at_first : (g : GivenView) (begins c : ComparedView) (text rest : List ℕ) → text ≡ process_text t hosted → told_of c ++ rest ≡ told_of begins ++ text → IsSome c.wrong → text_of c ≡ text_of begins
      → IsCut (behaves t steps) t hosted g begins c
  cut_at_first g begins c text rest is told wrong same =
      let groups : List ℕ = groups_text (behaves t steps) t hosted [] (arrivals g.left) in
      record {
        rest = rest ++ groups;
        told = sym (append_assoc (told_of c) rest groups) ∙ (ap (λ xs. xs ++ groups) (told ∙ ap (λ xs. told_of begins ++ xs) is)
            ∙ append_assoc (told_of begins) (process_text t hosted) groups);
        wrong = wrong;
        text = same;
      }

  -- Nothing is left

  pub run_ends : (p : Process) (start g next : GivenView) (begins c : ComparedView) → Runs t hosted steps p start g begins c → None ≡ first_of g.left → next ≡ behind_next g
      → IsWhole (behaves t steps) t hosted start next begins c
  run_ends p start g next begins c r none is =
      subst (λ (v : GivenView). IsWhole (behaves t steps) t hosted start v begins c) (sym is) (runs_whole t hosted steps p start g begins c r (sym none))

  -- A run looks at no text of the process

  runs_again : (p q : Process) (start g : GivenView) (begins c : ComparedView) → seen q.node ≡ seen p.node → left_of t hosted steps q ≡ left_of t hosted steps p → Runs t hosted steps p start g begins c
      → Runs t hosted steps q start g begins c
  runs_again p q start g begins c node left r = record {
    before = r.before;
    process = subst (λ (n : NodeView). IsProcess t hosted n (standing_after t hosted (begun t steps hosted) r.before)) (sym node) r.process;
    left = left ∙ r.left;
    told = r.told;
    noted = r.noted;
    text = r.text;
    come = r.come;
  }

  -- An arrival is taken by a process whose text was emptied

  module _ (passes : PassesLog) (passes_rest : PassesRest) (unheard : has_clients t ≡ false) (topology : IsTopology t)
      (p q p' : Process) (start g next g' : GivenView) (begins c : ComparedView) (x : Came)
      (r : Runs t hosted steps p start g begins c) (first : Some x ≡ first_of g.left) (is : next ≡ behind_next g)
      (node : seen q.node ≡ seen p.node) (left : left_of t hosted steps q ≡ left_of t hosted steps p) (empty : q.text ≡ [])
      (took : Took t hosted steps x.arrival q p') (noted : (let d : Done = done_at t hosted steps q x.arrival in g' ≡ with_offers d.entries next)) where
    abbrev again : Runs t hosted steps q start g begins c
    again = runs_again p q start g begins c node left r

    noted_behind : (let d : Done = done_at t hosted steps q x.arrival in g' ≡ with_offers d.entries (behind_next g))
    noted_behind = noted ∙ ap (λ (v : GivenView). let d : Done = done_at t hosted steps q x.arrival in with_offers d.entries v) is

    -- fewer are left
    pub fewer : length g'.left < length g.left
    fewer =
        let now : length g'.left ≡ length (rest_of g.left) = ap (λ (xs : List Came). length xs)
        (left_now t hosted steps passes passes_rest (unheard_of t unheard) (few_of t topology) q p' start g g' begins c x (rest_of g.left) again
        (with_rest g.left x first) took empty noted_behind) in
        let before : length g.left ≡ suc (length (rest_of g.left)) = ap (λ (xs : List Came). length xs) (with_rest g.left x first) in
        omega (arith, now, before)

    -- its group is told
    pub run_goes_on : (c' : ComparedView) → told_of c' ≡ told_of c ++ p'.text → text_of c' ≡ text_of c → Runs t hosted steps p' start g' begins c'
    run_goes_on =
        runs_on t hosted steps passes passes_rest (unheard_of t unheard) (few_of t topology) q p' start g g' begins c x (rest_of g.left) again
        (with_rest g.left x first) took empty noted_behind

    -- or a front of it
    pub run_is_cut : (c' : ComparedView) (rest : List ℕ) → told_of c' ++ rest ≡ told_of c ++ p'.text → IsSome c'.wrong → text_of c' ≡ text_of c → IsCut (behaves t steps) t hosted start begins c'
    run_is_cut c' rest told wrong same = record {
      rest = rest ++ groups_text (behaves t steps) t hosted (again.before ++ x.arrival ∷ []) (arrivals (rest_of g.left));
      told = runs_cut t hosted steps passes passes_rest (unheard_of t unheard) (few_of t topology) q p' start g g' begins c x (rest_of g.left) again
          (with_rest g.left x first) took empty noted_behind c' rest told;
      wrong = wrong;
      text = same ∙ r.text;
    }
