-- The course of a run that is traced: where it is known what was done, and where it is not
use Rattle.std.proofs.Common.{◌≡◌, ◌⊎◌, ℕ, ◌≤◌, Bool, true, List, [], ◌++◌, length, map, Option, Result, Err, OnOk, refl, sym, ap, ◌∙◌, subst, append_assoc}
use Rattle.std.specs.List.{AllByRecursion}
use Rattle.std.proofs.lemmas.Bool.{false≢true}
use Rattle.gr_out.specs.declared.fault.RunFault.{RunFault}
use Rattle.gr_out.specs.declared.fault.RunFault.TheVariants as run
use Rattle.gr_out.specs.Bytes.{with_more}
use Rattle.gr_out.specs.Entry.{Entry}
use Rattle.gr_out.specs.Lane.{Lane}
use Rattle.gr_out.specs.Page.{TakesFront}
use Rattle.gr_sched.specs.declared.step.Line.{Line}
use Rattle.gr_topo.specs.Topology.{TopologyView}
use Rattle.gr_model.specs.NetOf.{net_of}
use Rattle.gr_model.specs.Broker.{Log}
use Rattle.gr_model.specs.World.{World, Transition, in_turn}
use Rattle.gr_model.specs.Opening.{over_logs}
use Rattle.gr_model.specs.Arrivals.{Arrival}
use Rattle.gr_model_theorems.specs.Forgets.{AllOpened}
use Rattle.gr_model_theorems.specs.Served.{IsOfBytes}
use Rattle.gr_node.specs.Of.{OthersStay}
use Rattle.gr_node.specs.Plan.{Act, ours, act, plan, all_entries}
use Rattle.gr_node.specs.Went.{IsExact, fault_entries, Begins}
use Rattle.gr_node.specs.Served.{Course, IsRefused, LogsLast, RunsAlong, KeepsLogs}
use Rattle.gr_node.proofs.Opening.{all_entries_append}
use Rattle.gr_journal.specs.Groups.{journal_text}
use Rattle.gr_audit_theorems.specs.Behaves.{behaves}
use Rattle.gr_trace.specs.Traced.{noted, AreNew, journal_of}
use Rattle.gr_trace.specs.Wrote.{RunTraced}
use Rattle.gr_trace.proofs.Written.{ok_exact}

unknown_refused : (T : Type 0) (t : TopologyView) (e : RunFault) (left : List Act) → (IsExact {T = T} (Err e) → ⊥) → IsRefused t e left
unknown_refused T t run.Memory left h = tt
unknown_refused T t run.Write left h = tt
unknown_refused T t run.Disk left h = absurd (h tt)
unknown_refused T t (run.Damaged p at) left h = absurd (h tt)
unknown_refused T t run.Post left h = absurd (h tt)

module _ (T : Type 0) (t : TopologyView) (hosted : List ℕ) (steps : List Line) (turns : ℕ) (posts keeps : Type 0) (journal journal' : List Entry) (taken taken' : Option (List ℕ)) (lanes lanes' : ℕ → Lane)
    (r : Result T RunFault) (logs : List Log) (count : length logs ≡ length t.publishers) (were : AllOpened t.late logs) (came : List Arrival) (closed : Bool) (within : length came ≤ turns) (bytes : AllByRecursion IsOfBytes came) where
  abbrev first : World
  first = over_logs (net_of t) logs

  abbrev all_acts : List Act
  all_acts = plan t hosted steps came closed

  abbrev course : List Act → List Act → Course
  course made left = record { logs = logs; came = came; closed = closed; made = made; left = left }

  module _ (made left : List Act) (parts : made ++ left ≡ all_acts) where
    -- what was made puts a front of the plan's entries
    begins_whole : Begins journal journal' (all_entries t hosted first made) → Begins journal journal' (all_entries t hosted first all_acts)
    begins_whole b =
        let u : Transition = in_turn (act (net_of t) hosted) made first in
        let rest : List Entry = all_entries t hosted u.world left in
        record {
          part = b.part;
          rest = b.rest ++ rest;
          whole = ap (all_entries t hosted first) (sym parts) ∙ (all_entries_append t hosted first made left
              ∙ (ap (λ (xs : List Entry). xs ++ rest) b.whole ∙ append_assoc b.part b.rest rest));
          are = b.are;
        }

    -- It is known what was done
    pub traced_carried : IsExact r → OnOk r (left ≡ []) → OnOk r ((closed ≡ true) ⊎ (length came ≡ turns)) → ((e : RunFault) → r ≡ Err e → IsRefused t e left)
        → (posts → journal' ≡ journal ++ (all_entries t hosted first made ++ fault_entries r)) → taken' ≡ with_more taken (journal_of t hosted (course made left) made left)
        → OnOk r (AreNew t hosted (course made left) → taken' ≡ with_more taken (journal_text (behaves t steps) t hosted (map noted (ours hosted came))))
        → (keeps → KeepsLogs {T = T} t hosted steps (course made left) lanes lanes' r)
        → RunTraced {T = T} t hosted steps turns posts keeps journal journal' taken taken' lanes lanes' r
    traced_carried exact whole ended refused sent told expected kept = record {
      course = course made left;
      run = record { acts = parts; count = count; opened = were; within = within; bytes = bytes; whole = whole; ended = ended; refused = refused };
      posted = λ h. record { exact = λ _. sent h; front = λ unknown. absurd (unknown exact) };
      traces = record { exact = λ _. told; front = λ unknown. absurd (unknown exact); expected = expected };
      kept = kept;
    }

    -- It is not: the sink took a front, and these acts put a front
    pub traced_cut : (IsExact r → ⊥) → TakesFront taken taken' (journal_of t hosted (course [] all_acts) all_acts []) → (posts → Begins journal journal' (all_entries t hosted first made))
        → (keeps → LogsLast t hosted steps (course [] all_acts) lanes') → (keeps → RunsAlong t hosted steps (course [] all_acts) lanes lanes') → (keeps → OthersStay t hosted lanes lanes')
        → RunTraced {T = T} t hosted steps turns posts keeps journal journal' taken taken' lanes lanes' r
    traced_cut unknown front begins since along others = record {
      course = course [] all_acts;
      run = record {
        acts = refl;
        count = count;
        opened = were;
        within = within;
        bytes = bytes;
        whole = ok_exact r _ unknown;
        ended = ok_exact r _ unknown;
        refused = λ e is. unknown_refused T t e all_acts (λ exact. unknown (subst (λ (q : Result T RunFault). IsExact q) (sym is) exact));
      };
      posted = λ h. record { exact = λ exact. absurd (unknown exact); front = λ _. begins_whole (begins h) };
      traces = record { exact = λ exact. absurd (unknown exact); front = λ _. front; expected = ok_exact r _ unknown };
      kept = λ h. record {
        found = λ p below here is. absurd (false≢true is);
        kept = λ exact. absurd (unknown exact);
        since = since h;
        along = along h;
        damaged = λ p at is. absurd (unknown (subst (λ (q : Result T RunFault). IsExact q) (sym is) tt));
        others = others h;
      };
    }
