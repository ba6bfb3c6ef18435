-- What comes is taken one after the other: what the sink took and the journal has of some arrivals, and then of more, is
-- what they have of all
use Rattle.std.proofs.Common.{◌≡◌, ℕ, Bool, false, List, [], ◌∷◌, ◌++◌, Option, Result, Ok, Err, refl, sym, ap, ◌∙◌, subst, append_assoc, append-nil}
use Rattle.gr_out.specs.declared.fault.RunFault.{RunFault}
use Rattle.gr_out.specs.declared.fault.RunFault.TheVariants as run
use Rattle.gr_out.specs.Bytes.{with_more}
use Rattle.gr_out.specs.Entry.{Entry}
use Rattle.gr_out.specs.Page.{TakesFront}
use Rattle.gr_out.proofs.Fronts.{with_more-twice, with_more-nil, but-all, front-later, on_fault, on_success}
use Rattle.gr_topo.specs.Topology.{TopologyView, host_of}
use Rattle.gr_client.specs.Came.{Arrival, entry_of}
use Rattle.gr_client.specs.Moves.{IsExact, fault_entries, Begins}
use Rattle.gr_client.specs.Client.{ClientView}
use Rattle.gr_client.specs.Run.{after_one, after_all, told_in, told_line, turn_offers, turns_text, turns_entries, closing}
use Rattle.gr_client.specs.Ran.{RunsThrough}
use Rattle.gr_client.specs.Turns.{came_entries, Took}
use Rattle.gr_client.proofs.Begun.{begins_later}

-- Some, and then more

after_later : (c : ClientView) (came more : List Arrival) → after_all c (came ++ more) ≡ after_all (after_all c came) more
unfolding after_all
after_later c [] more = refl
after_later c (a ∷ came) more = after_later (after_one c a) came more

text_later : (t : TopologyView) (p : ℕ) (c : ClientView) (came more : List Arrival) → turns_text t p c (came ++ more) ≡ turns_text t p c came ++ turns_text t p (after_all c came) more
unfolding after_all turns_text
text_later t p c [] more = refl
text_later t p c (a ∷ came) more =
    ap (λ xs. told_line t p (told_in c a) ++ xs) (text_later t p (after_one c a) came more)
    ∙ sym (append_assoc (told_line t p (told_in c a)) (turns_text t p (after_one c a) came) (turns_text t p (after_all (after_one c a) came) more))

entries_later : (host : ℕ) (c : ClientView) (came more : List Arrival) → turns_entries host c (came ++ more) ≡ turns_entries host c came ++ turns_entries host (after_all c came) more
unfolding after_all turns_entries
entries_later host c [] more = refl
entries_later host c (a ∷ came) more =
    ap (λ xs. (entry_of a ∷ turn_offers host c a) ++ xs) (entries_later host (after_one c a) came more)
    ∙ sym (append_assoc (entry_of a ∷ turn_offers host c a) (turns_entries host (after_one c a) came) (turns_entries host (after_all (after_one c a) came) more))

pub runs_later : (c : ClientView) (came more : List Arrival) → RunsThrough c came → RunsThrough (after_all c came) more → RunsThrough c (came ++ more)
unfolding after_all
runs_later c [] more first next = next
runs_later c (a ∷ came) more first next = (first.0, runs_later (after_one c a) came more first.1 next)

-- the same of a client that is known to be the one after the first

text_behind : (t : TopologyView) (p : ℕ) (c m : ClientView) (came more : List Arrival) → m ≡ after_all c came → turns_text t p c came ++ turns_text t p m more ≡ turns_text t p c (came ++ more)
text_behind t p c m came more e = ap (λ (x : ClientView). turns_text t p c came ++ turns_text t p x more) e ∙ sym (text_later t p c came more)

entries_behind : (t : TopologyView) (p : ℕ) (c m : ClientView) (came more : List Arrival) (shut : Bool) → m ≡ after_all c came
    → turns_entries (host_of t p) c came ++ came_entries t p m more shut ≡ came_entries t p c (came ++ more) shut
entries_behind t p c m came more shut e =
    sym (append_assoc (turns_entries (host_of t p) c came) (turns_entries (host_of t p) m more) (closing shut))
    ∙ ap (λ (xs : List Entry). xs ++ closing shut)
    (ap (λ (x : ClientView). turns_entries (host_of t p) c came ++ turns_entries (host_of t p) x more) e ∙ sym (entries_later (host_of t p) c came more))

-- All that came was taken
pub record TookAll (t : TopologyView) (p : ℕ) (tells : Type 0) (came : List Arrival) (c c' : ClientView) (taken taken' : Option (List ℕ)) (journal journal' : List Entry) : Type 0 where
  pub client : c' ≡ after_all c came
  pub told : taken' ≡ with_more taken (turns_text t p c came)
  pub sent : tells → journal' ≡ journal ++ turns_entries (host_of t p) c came

-- nothing has come
pub took_none : (t : TopologyView) (p : ℕ) (tells : Type 0) (c : ClientView) (taken : Option (List ℕ)) (journal : List Entry) → TookAll t p tells [] c c taken taken journal journal
unfolding after_all turns_text turns_entries
took_none t p tells c taken journal = record { client = refl; told = sym (with_more-nil taken); sent = λ h. sym (append-nil journal) }

-- with nothing behind it
whole_entries : (t : TopologyView) (p : ℕ) (c : ClientView) (came : List Arrival) → came_entries t p c came false ++ [] ≡ turns_entries (host_of t p) c came
whole_entries t p c came = append-nil (came_entries t p c came false) ∙ append-nil (turns_entries (host_of t p) c came)

-- then the answer is Ok
pub took_ok : {T : Type 0} (t : TopologyView) (p : ℕ) (tells : Type 0) (came : List Arrival) (c c' : ClientView) (taken taken' : Option (List ℕ)) (journal journal' : List Entry) (x : T)
    → TookAll t p tells came c c' taken taken' journal journal' → Took {T = T} t p tells came false c c' taken taken' journal journal' (Ok x)
took_ok {T} t p tells came c c' taken taken' journal journal' x a = record {
  client = a.client;
  told = λ exact. a.told;
  told_front = tt;
  sent = λ exact h. a.sent h ∙ ap (λ (xs : List Entry). journal ++ xs) (sym (whole_entries t p c came));
  sent_front = λ inexact. absurd (inexact tt);
}

-- and where it is Ok all was taken
pub all_took : {T : Type 0} (t : TopologyView) (p : ℕ) (tells : Type 0) (came : List Arrival) (c c' : ClientView) (taken taken' : Option (List ℕ)) (journal journal' : List Entry) (x : T)
    → Took {T = T} t p tells came false c c' taken taken' journal journal' (Ok x) → TookAll t p tells came c c' taken taken' journal journal'
all_took {T} t p tells came c c' taken taken' journal journal' x k = record {
  client = k.client;
  told = k.told tt;
  sent = λ h. k.sent tt h ∙ ap (λ (xs : List Entry). journal ++ xs) (whole_entries t p c came);
}

-- All of some, and then as far as it went with more
pub took_on : {T : Type 0} (t : TopologyView) (p : ℕ) (tells : Type 0) (came more : List Arrival) (shut : Bool) (c m c' : ClientView) (taken u taken' : Option (List ℕ)) (journal v journal' : List Entry) (r : Result T RunFault)
    → TookAll t p tells came c m taken u journal v → Took {T = T} t p tells more shut m c' u taken' v journal' r → Took {T = T} t p tells (came ++ more) shut c c' taken taken' journal journal' r
took_on {T} t p tells came more shut c m c' taken u taken' journal v journal' r a b =
    let first : List Entry = turns_entries (host_of t p) c came in
    let next : List Entry = came_entries t p m more shut in
    record {
      client = on_success r (λ (e : c' ≡ after_all m more). e ∙ ap (λ (x : ClientView). after_all x more) a.client ∙ sym (after_later c came more)) b.client;
      told = λ exact. b.told exact ∙ ap (λ (x : Option (List ℕ)). with_more x (turns_text t p m more)) a.told
          ∙ with_more-twice taken (turns_text t p c came) (turns_text t p m more) ∙ ap (with_more taken) (text_behind t p c m came more a.client);
      told_front = on_fault r (λ f. subst (TakesFront taken taken') (text_behind t p c m came more a.client)
          (front-later taken u taken' (turns_text t p c came) (turns_text t p m more) [] (but-all taken u (turns_text t p c came) a.told) f)) b.told_front;
      sent = λ exact h. b.sent exact h ∙ ap (λ (xs : List Entry). xs ++ (next ++ fault_entries r)) (a.sent h)
          ∙ append_assoc journal first (next ++ fault_entries r)
          ∙ ap (λ (xs : List Entry). journal ++ xs) (sym (append_assoc first next (fault_entries r))
          ∙ ap (λ (xs : List Entry). xs ++ fault_entries r) (entries_behind t p c m came more shut a.client));
      sent_front = λ inexact h. subst (Begins journal journal') (entries_behind t p c m came more shut a.client)
          (begins_later journal v journal' first next (a.sent h) (b.sent_front inexact h));
    }

-- What is said of an answer does not depend on what was to be answered

pub ok_as : {T U : Type 0} (t : TopologyView) (p : ℕ) (tells : Type 0) (came : List Arrival) (shut : Bool) (c c' : ClientView) (taken taken' : Option (List ℕ)) (journal journal' : List Entry) (x : T) (y : U)
    → Took {T = T} t p tells came shut c c' taken taken' journal journal' (Ok x) → Took {T = U} t p tells came shut c c' taken taken' journal journal' (Ok y)
ok_as {T} {U} t p tells came shut c c' taken taken' journal journal' x y k = record {
  client = k.client;
  told = λ exact. k.told tt;
  told_front = tt;
  sent = λ exact h. k.sent tt h;
  sent_front = λ inexact. absurd (inexact tt);
}

exact_as : (T U : Type 0) (e : RunFault) → IsExact {T = T} (Err e) → IsExact {T = U} (Err e)
exact_as T U run.Memory h = h
exact_as T U run.Write h = h
exact_as T U run.Disk h = h
exact_as T U (run.Damaged p at) h = h
exact_as T U run.Post h = h

entries_as : (T U : Type 0) (e : RunFault) → fault_entries {T = T} (Err e) ≡ fault_entries {T = U} (Err e)
entries_as T U run.Memory = refl
entries_as T U run.Write = refl
entries_as T U run.Disk = refl
entries_as T U (run.Damaged p at) = refl
entries_as T U run.Post = refl

pub err_as : {T U : Type 0} (t : TopologyView) (p : ℕ) (tells : Type 0) (came : List Arrival) (shut : Bool) (c c' : ClientView) (taken taken' : Option (List ℕ)) (journal journal' : List Entry) (e : RunFault)
    → Took {T = T} t p tells came shut c c' taken taken' journal journal' (Err e) → Took {T = U} t p tells came shut c c' taken taken' journal journal' (Err e)
err_as {T} {U} t p tells came shut c c' taken taken' journal journal' e k = record {
  client = tt;
  told = λ exact. k.told (exact_as U T e exact);
  told_front = k.told_front;
  sent = λ exact h. k.sent (exact_as U T e exact) h ∙ ap (λ (xs : List Entry). journal ++ (came_entries t p c came shut ++ xs)) (entries_as T U e);
  sent_front = λ inexact. k.sent_front (λ exact. inexact (exact_as T U e exact));
}
