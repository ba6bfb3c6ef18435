-- One turn that is traced: what came is an act, then come those that it leads to, and its group is written
use Rattle.std.proofs.Common.{◌≡◌, ℕ, Bool, true, false, List, [], ◌∷◌, ◌++◌, drop, Option, Some, None, Result, Ok, Err, refl, sym, ap, ◌∙◌, subst, arith, append-nil}
use Rattle.gr_out.specs.declared.fault.RunFault.{RunFault}
use Rattle.gr_out.specs.declared.fault.RunFault.TheVariants as run
use Rattle.gr_out.specs.Bytes.{with_more}
use Rattle.gr_out.specs.Entry.{Entry}
use Rattle.gr_out.specs.Entry as entry
use Rattle.gr_out.specs.Lane.{Lane}
use Rattle.gr_out.proofs.Fronts.{front-nothing}
use Rattle.gr_sched.specs.declared.step.Line.{Line}
use Rattle.gr_topo.specs.Topology.{TopologyView}
use Rattle.gr_model.specs.NetOf.{net_of}
use Rattle.gr_model.specs.Arrivals.{Arrival, Request, requests_of, left_after}
use Rattle.gr_model_theorems.specs.Served.{IsOfBytes}
use Rattle.gr_node.specs.Seen.{NodeView}
use Rattle.gr_node.specs.Plan.{Act, arrives, closes, led_to, arrival_acts, acts_from, closing, entry_of}
use Rattle.gr_node.specs.Done.{at_arrival, done, all_done}
use Rattle.gr_node.specs.Lasting.{ActsKeep}
use Rattle.gr_node.specs.Turns.{left_behind}
use Rattle.gr_node.proofs.Lasting.{acts_none, acts_same, acts_then}
use Rattle.gr_trace.specs.Wrote.{line_of, written_at, Wrote, TurnTraced}
use Rattle.gr_trace.proofs.Replies.{ok_err, ok_as, err_as}
use Rattle.gr_trace.proofs.Turning.{wrote_arrival}

-- the acts of an arrival alone
acts_of_one : (t : TopologyView) (hosted : List ℕ) (left : List Request) (a : Arrival) → arrival_acts (net_of t) hosted left a ≡ acts_from (net_of t) hosted left (a ∷ []) ++ closing false
unfolding acts_from
acts_of_one t hosted left a =
    let acts : List Act = arrival_acts (net_of t) hosted left a in
    sym (append-nil (acts ++ []) ∙ append-nil acts)

acts_shut : (t : TopologyView) (hosted : List ℕ) (left : List Request) (shut : Bool) → closing shut ≡ acts_from (net_of t) hosted left [] ++ closing shut
unfolding acts_from
acts_shut t hosted left shut = refl

-- what they do to the lanes
came_keep : (t : TopologyView) (hosted : List ℕ) (left : List Request) (a : Arrival) (n : NodeView) (lanes lanes' : ℕ → Lane)
    → ActsKeep t hosted (at_arrival hosted n a) (led_to (net_of t) hosted left a) lanes lanes' → ActsKeep t hosted n (acts_from (net_of t) hosted left (a ∷ []) ++ closing false) lanes lanes'
unfolding all_done done
came_keep t hosted left a n lanes lanes' k =
    subst (λ (acts : List Act). ActsKeep t hosted n acts lanes lanes') (acts_of_one t hosted left a)
    (acts_then t hosted n (at_arrival hosted n a) (arrives a ∷ []) (led_to (net_of t) hosted left a) lanes lanes lanes' (acts_same t hosted n (arrives a ∷ []) lanes) refl k)

left_one : (left : List Request) (a : Arrival) → left_behind left (a ∷ []) ≡ left_after left a
unfolding left_behind
left_one left a = refl

left_none : (left : List Request) → left_behind left [] ≡ left
unfolding left_behind
left_none left = refl

more_none : (o : Option (List ℕ)) → o ≡ with_more o []
more_none None = refl
more_none (Some xs) = ap (λ (ys : List ℕ). Some ys) (sym (append-nil xs))

memory_disk : run.Memory ≡ run.Disk → ⊥
memory_disk h = cc

memory_post : run.Memory ≡ run.Post → ⊥
memory_post h = cc

post_disk : run.Post ≡ run.Disk → ⊥
post_disk h = cc

err_same : {T : Type 0} (e f : RunFault) → ◌≡◌ {A = Result T RunFault} (Err e) (Err f) → e ≡ f
err_same e f h = cc

module _ (t : TopologyView) (hosted : List ℕ) (tells keeps : Type 0) (lanes lanes' : ℕ → Lane) (steps : List Line) (next next' : ℕ) where
  abbrev left_now : List Request
  left_now = requests_of (net_of t) hosted (drop next steps)

  came_on : (a : Arrival) (n n' : NodeView) (before after : Option (List ℕ)) (journal came journal' : List Entry) (r : Result (Unit {0}) RunFault) → (tells → came ≡ journal ++ entry_of a ∷ [])
      → Wrote t hosted tells (led_to (net_of t) hosted left_now a) (at_arrival hosted n a) n' (line_of t hosted a) before after came journal' r
      → Wrote t hosted tells (acts_from (net_of t) hosted left_now (a ∷ []) ++ closing false) n n' [] before after journal journal' r
  came_on a n n' before after journal came journal' r put w =
      subst (λ (acts : List Act). Wrote t hosted tells acts n n' [] before after journal journal' r) (acts_of_one t hosted left_now a)
      (wrote_arrival t hosted tells left_now a n n' before after journal came journal' r put w)

  -- a turn that took what came
  pub traced_on : (a : Arrival) (n n' : NodeView) (before after : Option (List ℕ)) (journal came journal' : List Entry) (x : Unit {0}) → IsOfBytes a → (tells → came ≡ journal ++ entry_of a ∷ [])
      → Wrote t hosted tells (led_to (net_of t) hosted left_now a) (at_arrival hosted n a) n' (line_of t hosted a) before after came journal' (Ok x)
      → requests_of (net_of t) hosted (drop next' steps) ≡ left_after left_now a
      → (keeps → ActsKeep t hosted (at_arrival hosted n a) (led_to (net_of t) hosted left_now a) lanes lanes')
      → TurnTraced t hosted tells keeps steps next next' n n' before after journal journal' lanes lanes' (Ok true)
  traced_on a n n' before after journal came journal' x bytes put w left kept = record {
    came = a ∷ [];
    shut = false;
    ends = (refl, refl);
    bytes = (bytes, tt);
    wrote = ok_as {T = Unit {0}} {U = Bool} t hosted tells (acts_from (net_of t) hosted left_now (a ∷ []) ++ closing false) n n' [] before after journal journal' x true
        (came_on a n n' before after journal came journal' (Ok x) put w);
    kept = λ h. came_keep t hosted left_now a n lanes lanes' (kept h);
    left = left ∙ sym (left_one left_now a);
  }

  -- one that ended within what came
  pub traced_within : (a : Arrival) (n n' : NodeView) (before after : Option (List ℕ)) (journal came journal' : List Entry) (e : RunFault) → IsOfBytes a → (tells → came ≡ journal ++ entry_of a ∷ [])
      → Wrote {T = Unit {0}} t hosted tells (led_to (net_of t) hosted left_now a) (at_arrival hosted n a) n' (line_of t hosted a) before after came journal' (Err e)
      → (keeps → ActsKeep t hosted (at_arrival hosted n a) (led_to (net_of t) hosted left_now a) lanes lanes')
      → TurnTraced t hosted tells keeps steps next next' n n' before after journal journal' lanes lanes' (Err e)
  traced_within a n n' before after journal came journal' e bytes put w kept = record {
    came = a ∷ [];
    shut = false;
    ends = (omega arith, refl);
    bytes = (bytes, tt);
    wrote = err_as {T = Unit {0}} {U = Bool} t hosted tells (acts_from (net_of t) hosted left_now (a ∷ []) ++ closing false) n n' [] before after journal journal' e
        (came_on a n n' before after journal came journal' (Err e) put w);
    kept = λ h. came_keep t hosted left_now a n lanes lanes' (kept h);
    left = tt;
  }

  -- nothing comes any more
  closed_wrote : (n n' : NodeView) (before : Option (List ℕ)) (journal journal' : List Entry) → n' ≡ n → (tells → journal' ≡ journal ++ entry.closed ∷ [])
      → Wrote {T = Bool} t hosted tells (closes ∷ []) n n' [] before before journal journal' (Ok false)
  unfolding written_at all_done done
  closed_wrote n n' before journal journal' e put = record {
    made = closes ∷ [];
    left = [];
    parts = refl;
    whole = refl;
    node = λ x none. e;
    wrote = λ x. more_none before;
    sent = λ x h. put h;
    refused = λ h. absurd (ok_err false run.Disk h);
    given_up = λ h. absurd (ok_err false run.Post h);
    front = tt;
    sent_front = λ unknown h. absurd (unknown tt);
  }

  pub traced_closed : (n n' : NodeView) (before : Option (List ℕ)) (journal journal' : List Entry) → n' ≡ n → (tells → journal' ≡ journal ++ entry.closed ∷ []) → next' ≡ next → ((k : ℕ) → lanes' k ≡ lanes k)
      → TurnTraced t hosted tells keeps steps next next' n n' before before journal journal' lanes lanes' (Ok false)
  traced_closed n n' before journal journal' e put same still = record {
    came = [];
    shut = true;
    ends = (refl, refl);
    bytes = tt;
    wrote = subst (λ (acts : List Act). Wrote {T = Bool} t hosted tells acts n n' [] before before journal journal' (Ok false)) (acts_shut t hosted left_now true) (closed_wrote n n' before journal journal' e put);
    kept = λ h. acts_none t hosted n (acts_from (net_of t) hosted left_now [] ++ closing true) lanes lanes' still;
    left = ap (λ k. requests_of (net_of t) hosted (drop k steps)) same ∙ sym (left_none left_now);
  }

  -- the post failed, or had no memory
  failed_wrote : (n n' : NodeView) (before : Option (List ℕ)) (journal journal' : List Entry) → n' ≡ n → (tells → journal' ≡ journal ++ entry.failed ∷ [])
      → Wrote {T = Bool} t hosted tells [] n n' [] before before journal journal' (Err run.Post)
  unfolding written_at all_done
  failed_wrote n n' before journal journal' e put = record {
    made = [];
    left = [];
    parts = refl;
    whole = tt;
    node = λ x none. e;
    wrote = λ x. more_none before;
    sent = λ x h. put h;
    refused = λ h. absurd (post_disk (err_same run.Post run.Disk h));
    given_up = λ h. refl;
    front = front-nothing before before [] refl;
    sent_front = λ unknown h. absurd (unknown tt);
  }

  pub traced_failed : (n n' : NodeView) (before : Option (List ℕ)) (journal journal' : List Entry) → n' ≡ n → (tells → journal' ≡ journal ++ entry.failed ∷ []) → ((k : ℕ) → lanes' k ≡ lanes k)
      → TurnTraced t hosted tells keeps steps next next' n n' before before journal journal' lanes lanes' (Err run.Post)
  traced_failed n n' before journal journal' e put still = record {
    came = [];
    shut = false;
    ends = (omega arith, refl);
    bytes = tt;
    wrote = subst (λ (acts : List Act). Wrote {T = Bool} t hosted tells acts n n' [] before before journal journal' (Err run.Post)) (acts_shut t hosted left_now false) (failed_wrote n n' before journal journal' e put);
    kept = λ h. acts_none t hosted n (acts_from (net_of t) hosted left_now [] ++ closing false) lanes lanes' still;
    left = tt;
  }

  refused_wrote : (n n' : NodeView) (before : Option (List ℕ)) (journal journal' : List Entry) → (tells → journal' ≡ journal ++ [])
      → Wrote {T = Bool} t hosted tells [] n n' [] before before journal journal' (Err run.Memory)
  unfolding all_done
  refused_wrote n n' before journal journal' put = record {
    made = [];
    left = [];
    parts = refl;
    whole = tt;
    node = λ x. absurd x;
    wrote = λ x. absurd x;
    sent = λ x. absurd x;
    refused = λ h. absurd (memory_disk (err_same run.Memory run.Disk h));
    given_up = λ h. absurd (memory_post (err_same run.Memory run.Post h));
    front = front-nothing before before (written_at t hosted n [] []) refl;
    sent_front = λ unknown h. record { part = []; rest = []; whole = refl; are = put h };
  }

  pub traced_refused : (n n' : NodeView) (before : Option (List ℕ)) (journal journal' : List Entry) → (tells → journal' ≡ journal ++ []) → ((k : ℕ) → lanes' k ≡ lanes k)
      → TurnTraced t hosted tells keeps steps next next' n n' before before journal journal' lanes lanes' (Err run.Memory)
  traced_refused n n' before journal journal' put still = record {
    came = [];
    shut = false;
    ends = (omega arith, refl);
    bytes = tt;
    wrote = subst (λ (acts : List Act). Wrote {T = Bool} t hosted tells acts n n' [] before before journal journal' (Err run.Memory)) (acts_shut t hosted left_now false) (refused_wrote n n' before journal journal' put);
    kept = λ h. acts_none t hosted n (acts_from (net_of t) hosted left_now [] ++ closing false) lanes lanes' still;
    left = tt;
  }
