-- One turn of a client: an arrival stands in the journal, and behind it what it causes
use Rattle.std.proofs.Common.{◌≡◌, ℕ, Bool, true, false, List, [], ◌∷◌, ◌++◌, Option, Ok, Err, refl, sym, ap, ◌∙◌, subst, arith, append_assoc, append-nil}
use Rattle.gr_out.specs.declared.fault.RunFault.{RunFault}
use Rattle.gr_out.specs.declared.fault.RunFault.TheVariants as run
use Rattle.gr_out.specs.Bytes.{with_more}
use Rattle.gr_out.specs.Entry.{Entry}
use Rattle.gr_out.specs.Entry as entry
use Rattle.gr_out.specs.Page.{TakesFront}
use Rattle.gr_out.proofs.Fronts.{with_more-nil, front-nothing}
use Rattle.gr_topo.specs.Topology.{TopologyView, host_of}
use Rattle.gr_client.specs.Came.{Arrival, quiet, entry_of}
use Rattle.gr_client.specs.Moves.{IsExact}
use Rattle.gr_client.specs.Client.{ClientView}
use Rattle.gr_client.specs.Run.{after_one, after_all, told_in, told_line, turn_offers, turns_text, turns_entries}
use Rattle.gr_client.specs.Ran.{IsPutFault}
use Rattle.gr_client.specs.Turns.{Turned}
use Rattle.gr_client.proofs.Begun.{begins_nothing}
use Rattle.gr_client.proofs.Heard.{quiet_tells_none}
use Rattle.gr_client.proofs.Taken.{took_ok}

-- One arrival alone

after_alone : (c : ClientView) (a : Arrival) → after_all c (a ∷ []) ≡ after_one c a
unfolding after_all
after_alone c a = refl

text_alone : (t : TopologyView) (p : ℕ) (c : ClientView) (a : Arrival) → turns_text t p c (a ∷ []) ≡ told_line t p (told_in c a)
unfolding turns_text
text_alone t p c a = append-nil (told_line t p (told_in c a))

entries_alone : (host : ℕ) (c : ClientView) (a : Arrival) → turns_entries host c (a ∷ []) ≡ entry_of a ∷ turn_offers host c a
unfolding turns_entries
entries_alone host c a = append-nil (entry_of a ∷ turn_offers host c a)

-- after want of memory, or where the sink failed, only fronts are told
pub never_exact : (T : Type 0) (e : RunFault) → IsPutFault e → IsExact {T = T} (Err e) → ⊥
never_exact T run.Memory why exact = exact
never_exact T run.Write why exact = exact
never_exact T run.Disk why exact = why
never_exact T (run.Damaged p at) why exact = why
never_exact T run.Post why exact = why

-- A turn that took what came
pub turned_on : (t : TopologyView) (p : ℕ) (tells : Type 0) (a : Arrival) (c c' : ClientView) (taken taken' : Option (List ℕ)) (journal middle journal' : List Entry)
    → (tells → middle ≡ journal ++ entry_of a ∷ []) → c' ≡ after_one c a → taken' ≡ with_more taken (told_line t p (told_in c a))
    → (tells → journal' ≡ middle ++ turn_offers (host_of t p) c a) → Turned t p tells c c' taken taken' journal journal' (Ok true)
turned_on t p tells a c c' taken taken' journal middle journal' put e told sent = record {
  came = a ∷ [];
  shut = false;
  ends = (refl, refl);
  took = took_ok {T = Bool} t p tells (a ∷ []) c c' taken taken' journal journal' true (record {
    client = e ∙ sym (after_alone c a);
    told = told ∙ ap (with_more taken) (sym (text_alone t p c a));
    sent = λ h. sent h ∙ ap (λ (xs : List Entry). xs ++ turn_offers (host_of t p) c a) (put h) ∙ append_assoc journal (entry_of a ∷ []) (turn_offers (host_of t p) c a)
        ∙ ap (λ (xs : List Entry). journal ++ xs) (sym (entries_alone (host_of t p) c a));
  });
}

-- a quiet moment tells nothing
pub quiet_told : (t : TopologyView) (p : ℕ) (c : ClientView) (moment : ℕ) (taken : Option (List ℕ)) → taken ≡ with_more taken (told_line t p (told_in c (quiet moment)))
quiet_told t p c moment taken = sym (ap (λ (o : Option ℕ). with_more taken (told_line t p o)) (quiet_tells_none c moment) ∙ with_more-nil taken)

-- one that ended within what came
pub turned_cut : (t : TopologyView) (p : ℕ) (tells : Type 0) (a : Arrival) (c c' : ClientView) (taken taken' : Option (List ℕ)) (journal middle journal' : List Entry) (e : RunFault) → IsPutFault e
    → (tells → middle ≡ journal ++ entry_of a ∷ []) → TakesFront taken taken' (told_line t p (told_in c a))
    → (tells → journal' ≡ middle) → Turned t p tells c c' taken taken' journal journal' (Err e)
turned_cut t p tells a c c' taken taken' journal middle journal' e why put front same = record {
  came = a ∷ [];
  shut = false;
  ends = (omega arith, refl);
  took = record {
    client = tt;
    told = λ exact. absurd (never_exact Bool e why exact);
    told_front = subst (TakesFront taken taken') (sym (text_alone t p c a)) front;
    sent = λ exact. absurd (never_exact Bool e why exact);
    sent_front = λ inexact h. record {
      part = entry_of a ∷ [];
      rest = turn_offers (host_of t p) c a;
      whole = append-nil (turns_entries (host_of t p) c (a ∷ [])) ∙ entries_alone (host_of t p) c a;
      are = same h ∙ put h;
    };
  };
}

-- nothing comes any more
pub turned_shut : (t : TopologyView) (p : ℕ) (tells : Type 0) (c : ClientView) (taken : Option (List ℕ)) (journal journal' : List Entry)
    → (tells → journal' ≡ journal ++ entry.closed ∷ []) → Turned t p tells c c taken taken journal journal' (Ok false)
unfolding after_all turns_text turns_entries
turned_shut t p tells c taken journal journal' put = record {
  came = [];
  shut = true;
  ends = (refl, refl);
  took = record {
    client = refl;
    told = λ exact. sym (with_more-nil taken);
    told_front = tt;
    sent = λ exact h. put h;
    sent_front = λ inexact. absurd (inexact tt);
  };
}

-- the post failed
pub turned_failed : (t : TopologyView) (p : ℕ) (tells : Type 0) (c : ClientView) (taken : Option (List ℕ)) (journal journal' : List Entry)
    → (tells → journal' ≡ journal ++ entry.failed ∷ []) → Turned t p tells c c taken taken journal journal' (Err run.Post)
unfolding turns_text turns_entries
turned_failed t p tells c taken journal journal' put = record {
  came = [];
  shut = false;
  ends = (omega arith, refl);
  took = record {
    client = tt;
    told = λ exact. sym (with_more-nil taken);
    told_front = front-nothing taken taken [] refl;
    sent = λ exact h. put h;
    sent_front = λ inexact. absurd (inexact tt);
  };
}

-- or had no memory
pub turned_refused : (t : TopologyView) (p : ℕ) (tells : Type 0) (c : ClientView) (taken : Option (List ℕ)) (journal journal' : List Entry)
    → (tells → journal' ≡ journal ++ []) → Turned t p tells c c taken taken journal journal' (Err run.Memory)
unfolding turns_text turns_entries
turned_refused t p tells c taken journal journal' put = record {
  came = [];
  shut = false;
  ends = (omega arith, refl);
  took = record {
    client = tt;
    told = λ exact. absurd exact;
    told_front = front-nothing taken taken [] refl;
    sent = λ exact. absurd exact;
    sent_front = λ inexact h. begins_nothing journal journal' [] (put h ∙ append-nil journal);
  };
}
