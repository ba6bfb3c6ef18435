-- One turn more, and how a run that is traced ends
use Rattle.std.proofs.Common.{◌≡◌, inl, inr, ℕ, ◌+◌, ◌<◌, Bool, true, false, List, [], ◌∷◌, ◌++◌, length, drop, Option, Result, Ok, Err, refl, sym, ap, ap₂, ◌∙◌, subst, arith, append-nil, length-append}
use Rattle.gr_out.specs.declared.fault.RunFault.{RunFault}
use Rattle.gr_out.specs.declared.fault.RunFault.TheVariants as run
use Rattle.gr_out.specs.Entry.{Entry}
use Rattle.gr_out.specs.Lane.{Lane}
use Rattle.gr_out.proofs.Fronts.{front-nothing}
use Rattle.gr_sched.specs.declared.step.Line.{Line}
use Rattle.gr_topo.specs.Topology.{TopologyView}
use Rattle.gr_model.specs.NetOf.{net_of}
use Rattle.gr_model.specs.Arrivals.{Arrival, Request, requests_of, left_after}
use Rattle.gr_model_theorems.specs.Served.{IsOfBytes}
use Rattle.gr_node.specs.Seen.{NodeView}
use Rattle.gr_node.specs.Plan.{Act, acts_from, closing, turn_acts}
use Rattle.gr_node.specs.Done.{all_done}
use Rattle.gr_node.specs.Turns.{left_behind}
use Rattle.gr_node.proofs.Acting.{all_append}
use Rattle.gr_node.proofs.SoFar.{turn_acts_are, TurnHolds, KeptSoFar, kept_first}
use Rattle.gr_trace.specs.Wrote.{written_at, Wrote, TurnTraced, TurnsTraced}
use Rattle.gr_trace.proofs.Turns.{WroteAll, wrote_on, all_wrote, came_waits, TracedSoFar}
use Rattle.gr_trace.proofs.Replies.{ok_err, ok_as, err_as}

-- what is left after more came
left_later : (left : List Request) (came more : List Arrival) → left_behind (left_behind left came) more ≡ left_behind left (came ++ more)
unfolding left_behind
left_later left [] more = refl
left_later left (a ∷ came) more = left_later (left_after left a) came more

module _ (t : TopologyView) (hosted : List ℕ) (tells keeps : Type 0) (steps : List Line) where
  turn_wrote : (next next' count : ℕ) (n m n' : NodeView) (before middle after : Option (List ℕ)) (journal between journal' : List Entry) (lanes lanes' : ℕ → Lane) (P : List Arrival → Type 0) (r : Result Bool RunFault)
      → (s : TracedSoFar t hosted tells steps next count n m before middle journal between P) → (w : TurnTraced t hosted tells keeps steps next next' m n' middle after between journal' lanes lanes' r)
      → Wrote t hosted tells (turn_acts (net_of t) hosted steps (s.came ++ w.came) w.shut) n n' [] before after journal journal' r
  turn_wrote next next' count n m n' before middle after journal between journal' lanes lanes' P r s w =
      subst (λ (acts : List Act). Wrote t hosted tells acts n n' [] before after journal journal' r) (turn_acts_are t hosted steps next s.came w.came w.shut s.left)
      (wrote_on t hosted tells (acts_from (net_of t) hosted (requests_of (net_of t) hosted steps) s.came)
      (acts_from (net_of t) hosted (requests_of (net_of t) hosted (drop next steps)) w.came ++ closing w.shut)
      n m n' before middle after journal between journal' r s.goes w.wrote)

  -- one turn more
  pub more_traced : (next next' count : ℕ) (n m n' : NodeView) (before middle after : Option (List ℕ)) (journal between journal' : List Entry) (lanes lanes' : ℕ → Lane) (P : List Arrival → Type 0) (Q : List Arrival → Bool → Type 0) (goes_on : Bool) → goes_on ≡ true
      → (s : TracedSoFar t hosted tells steps next count n m before middle journal between P) → TurnTraced t hosted tells keeps steps next next' m n' middle after between journal' lanes lanes' (Ok goes_on)
      → TurnHolds t hosted keeps steps next m lanes lanes' s.came Q → TracedSoFar t hosted tells steps next' (count + 1) n n' before after journal journal' (λ came. Q came false)
  more_traced next next' count n m n' before middle after journal between journal' lanes lanes' P Q goes_on e s turned holds =
      let w : TurnTraced t hosted tells keeps steps next next' m n' middle after between journal' lanes lanes' (Ok true) =
      subst (λ (b : Bool). TurnTraced t hosted tells keeps steps next next' m n' middle after between journal' lanes lanes' (Ok b)) e turned in
      let left : List Request = requests_of (net_of t) hosted steps in
      let all : List Act = acts_from (net_of t) hosted left (s.came ++ w.came) in
      let goes : closing w.shut ≡ [] = ap (λ (b : Bool). closing b) w.ends.1 in
      record {
        came = s.came ++ w.came;
        length_is = length-append s.came w.came ∙ ap₂ (λ (a b : ℕ). a + b) s.length_is w.ends.0;
        bytes = all_append IsOfBytes s.came w.came s.bytes w.bytes;
        left = w.left ∙ (ap (λ (xs : List Request). left_behind xs w.came) s.left ∙ left_later left s.came w.came);
        goes = all_wrote t hosted tells all n n' before after journal journal' true
            (subst (λ (acts : List Act). Wrote {T = Bool} t hosted tells acts n n' [] before after journal journal' (Ok true)) (ap (λ (acts : List Act). all ++ acts) goes ∙ append-nil all)
            (turn_wrote next next' count n m n' before middle after journal between journal' lanes lanes' P (Ok true) s w))
            (came_waits t hosted tells left (s.came ++ w.came) n);
        stood = subst (Q (s.came ++ w.came)) w.ends.1 (holds w.came w.shut (omega (arith, w.ends.0)) w.kept);
      }

  -- acts that were all made
  ok_wrote : (acts : List Act) (n n' : NodeView) (before after : Option (List ℕ)) (journal journal' : List Entry) (x : Unit {0}) → WroteAll t hosted tells acts n n' before after journal journal' → Wrote t hosted tells acts n n' [] before after journal journal' (Ok x)
  ok_wrote acts n n' before after journal journal' x a = record {
    made = acts;
    left = [];
    parts = append-nil acts;
    whole = refl;
    node = λ e none. a.node;
    wrote = λ e. a.wrote;
    sent = λ e h. a.sent h ∙ ap (λ es. journal ++ es) (sym (append-nil (all_done t hosted n acts).entries));
    refused = λ h. absurd (ok_err x run.Disk h);
    given_up = λ h. absurd (ok_err x run.Post h);
    front = tt;
    sent_front = λ unknown h. absurd (unknown tt);
  }

  -- How it ends: with as many turns as it may have, since nothing comes any more, by a fault, or before its first turn
  pub traced_all : (next count turns : ℕ) (n n' : NodeView) (before after : Option (List ℕ)) (journal journal' : List Entry) (first lanes : ℕ → Lane) (x : Unit {0}) → count ≡ turns
      → TracedSoFar t hosted tells steps next count n n' before after journal journal' (λ came. KeptSoFar keeps t hosted steps n first lanes came false)
      → TurnsTraced t hosted tells keeps steps turns n n' before after journal journal' first lanes (Ok x)
  traced_all next count turns n n' before after journal journal' first lanes x e s =
      let length_is : length s.came ≡ turns = s.length_is ∙ e in
      let all : List Act = acts_from (net_of t) hosted (requests_of (net_of t) hosted steps) s.came in
      record {
        came = s.came;
        shut = false;
        within = omega (arith, length_is);
        bytes = s.bytes;
        ended = inr length_is;
        wrote = subst (λ (acts : List Act). Wrote t hosted tells acts n n' [] before after journal journal' (Ok x)) (sym (append-nil all)) (ok_wrote all n n' before after journal journal' x s.goes);
        kept = s.stood.0;
        stood = s.stood.1;
      }

  pub traced_cut : (next next' count turns : ℕ) (n m n' : NodeView) (before middle after : Option (List ℕ)) (journal between journal' : List Entry) (first lanes lanes' : ℕ → Lane) (P : List Arrival → Type 0) (e : RunFault) → count < turns
      → (s : TracedSoFar t hosted tells steps next count n m before middle journal between P) → TurnTraced t hosted tells keeps steps next next' m n' middle after between journal' lanes lanes' (Err e)
      → TurnHolds t hosted keeps steps next m lanes lanes' s.came (KeptSoFar keeps t hosted steps n first lanes') → TurnsTraced {T = Unit {0}} t hosted tells keeps steps turns n n' before after journal journal' first lanes' (Err e)
  traced_cut next next' count turns n m n' before middle after journal between journal' first lanes lanes' P e h s w holds =
      let all : List Act = turn_acts (net_of t) hosted steps (s.came ++ w.came) w.shut in
      let length_is : length (s.came ++ w.came) ≡ count + length w.came = length-append s.came w.came ∙ ap (λ (k : ℕ). k + length w.came) s.length_is in
      let stood = holds w.came w.shut w.ends.0 w.kept in
      record {
        came = s.came ++ w.came;
        shut = w.shut;
        within = omega (arith, length_is, h, w.ends.0);
        bytes = all_append IsOfBytes s.came w.came s.bytes w.bytes;
        ended = tt;
        wrote = err_as {T = Bool} {U = Unit {0}} t hosted tells all n n' [] before after journal journal' e (turn_wrote next next' count n m n' before middle after journal between journal' lanes lanes' P (Err e) s w);
        kept = stood.0;
        stood = stood.1;
      }

  pub traced_shut : (next next' count turns : ℕ) (n m n' : NodeView) (before middle after : Option (List ℕ)) (journal between journal' : List Entry) (first lanes lanes' : ℕ → Lane) (P : List Arrival → Type 0) (x : Unit {0}) (goes_on : Bool) → goes_on ≡ false → count < turns
      → (s : TracedSoFar t hosted tells steps next count n m before middle journal between P) → TurnTraced t hosted tells keeps steps next next' m n' middle after between journal' lanes lanes' (Ok goes_on)
      → TurnHolds t hosted keeps steps next m lanes lanes' s.came (KeptSoFar keeps t hosted steps n first lanes') → TurnsTraced t hosted tells keeps steps turns n n' before after journal journal' first lanes' (Ok x)
  traced_shut next next' count turns n m n' before middle after journal between journal' first lanes lanes' P x goes_on e h s turned holds =
      let w : TurnTraced t hosted tells keeps steps next next' m n' middle after between journal' lanes lanes' (Ok false) =
      subst (λ (b : Bool). TurnTraced t hosted tells keeps steps next next' m n' middle after between journal' lanes lanes' (Ok b)) e turned in
      let all : List Act = turn_acts (net_of t) hosted steps (s.came ++ w.came) w.shut in
      let length_is : length (s.came ++ w.came) ≡ count = ap (λ xs. length (s.came ++ xs)) w.ends.0 ∙ (ap length (append-nil s.came) ∙ s.length_is) in
      let stood = holds w.came w.shut (omega (arith, ap length w.ends.0)) w.kept in
      record {
        came = s.came ++ w.came;
        shut = w.shut;
        within = omega (arith, length_is, h);
        bytes = all_append IsOfBytes s.came w.came s.bytes w.bytes;
        ended = inl w.ends.1;
        wrote = ok_as {T = Bool} {U = Unit {0}} t hosted tells all n n' [] before after journal journal' false x (turn_wrote next next' count n m n' before middle after journal between journal' lanes lanes' P (Ok false) s w);
        kept = stood.0;
        stood = stood.1;
      }

  memory_err : (e : RunFault) → (run.Memory ≡ e → ⊥) → ◌≡◌ {A = Result (Unit {0}) RunFault} (Err run.Memory) (Err e) → ⊥
  memory_err e apart h = let same : run.Memory ≡ e = cc in apart same

  memory_disk : run.Memory ≡ run.Disk → ⊥
  memory_disk h = cc

  memory_post : run.Memory ≡ run.Post → ⊥
  memory_post h = cc

  pub traced_none : (turns : ℕ) (n : NodeView) (before : Option (List ℕ)) (journal : List Entry) (first : ℕ → Lane) → TurnsTraced {T = Unit {0}} t hosted tells keeps steps turns n n before before journal journal first first (Err run.Memory)
  traced_none turns n before journal first =
      let all : List Act = turn_acts (net_of t) hosted steps [] false in
      let k = kept_first keeps t hosted steps n first in
      record {
        came = [];
        shut = false;
        within = omega arith;
        bytes = tt;
        ended = tt;
        wrote = record {
          made = [];
          left = all;
          parts = refl;
          whole = tt;
          node = λ e. absurd e;
          wrote = λ e. absurd e;
          sent = λ e. absurd e;
          refused = λ h. absurd (memory_err run.Disk memory_disk h);
          given_up = λ h. absurd (memory_err run.Post memory_post h);
          front = front-nothing before before (written_at t hosted n [] all) refl;
          sent_front = λ unknown h. record { part = []; rest = (all_done t hosted n all).entries; whole = refl; are = sym (append-nil journal) };
        };
        kept = k.0;
        stood = k.1;
      }
