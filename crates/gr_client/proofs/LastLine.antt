-- Behind the turns of a run stands its last line
use Rattle.std.proofs.Common.{◌≡◌, ℕ, false, List, [], ◌++◌, length, Option, Result, Ok, Err, OnOk, OnErr, IfErr, refl, ap, ◌∙◌, subst, arith, append-nil}
use Rattle.std.proofs.lemmas.Bool.{false≢true}
use Rattle.gr_event.specs.declared.event.Event.{Event}
use Rattle.gr_out.specs.declared.fault.RunFault.{RunFault}
use Rattle.gr_out.specs.declared.fault.RunFault.TheVariants as run
use Rattle.gr_out.specs.Bytes.{with_more}
use Rattle.gr_out.specs.Entry.{Entry}
use Rattle.gr_out.specs.Page.{TakesFront}
use Rattle.gr_out.proofs.Fronts.{with_more-twice, front-nothing, front-more, front-later, but-all}
use Rattle.gr_topo.specs.Topology.{TopologyView}
use Rattle.gr_client.specs.Came.{Arrival}
use Rattle.gr_client.specs.Moves.{IsExact}
use Rattle.gr_client.specs.Client.{ClientView}
use Rattle.gr_client.specs.Run.{after_all, turns_text, last_line}
use Rattle.gr_client.specs.Ran.{IsPutFault}
use Rattle.gr_client.specs.Turns.{came_entries, WentOn, whole_text, Finished}
use Rattle.gr_client.proofs.Begun.{begins_nothing, begins_all}
use Rattle.gr_client.proofs.Heard.{after_events}
use Rattle.gr_client.proofs.OneTurn.{never_exact}

-- it is that of the client as it is then
line_of : (t : TopologyView) (p : ℕ) (c c' : ClientView) (came : List Arrival) → c' ≡ after_all c came
    → last_line t p (length c'.events) c'.progress ≡ last_line t p (length c.events) (after_all c came).progress
line_of t p c c' came e =
    ap (λ (x : ClientView). last_line t p (length x.events) x.progress) e
    ∙ ap (λ (events : List Event). last_line t p (length events) (after_all c came).progress) (after_events c came)

-- a fault of what writes is none of the post
never_post : (e : RunFault) → IsPutFault e → ◌≡◌ {A = Result (Unit {0}) RunFault} (Err e) (Err run.Post) → ⊥
never_post run.Memory why h = absurd (cc h)
never_post run.Write why h = absurd (cc h)
never_post run.Disk why h = why
never_post (run.Damaged p at) why h = why
never_post run.Post why h = why

post_exact : (e : RunFault) → ◌≡◌ {A = Result (Unit {0}) RunFault} (Err e) (Err run.Post) → IsExact {T = Unit {0}} (Err e)
post_exact run.Memory h = absurd (cc h)
post_exact run.Write h = absurd (cc h)
post_exact run.Disk h = tt
post_exact (run.Damaged p at) h = tt
post_exact run.Post h = tt

-- it was written
finished_ok : (t : TopologyView) (p : ℕ) (tells : Type 0) (turns : ℕ) (c c' : ClientView) (taken u taken' : Option (List ℕ)) (journal journal' : List Entry) (x y : Unit {0}) → WentOn t p tells turns c c' taken u journal journal' (Ok x)
    → taken' ≡ with_more u (last_line t p (length c'.events) c'.progress) → Finished t p tells turns c taken taken' journal journal' (Ok y)
finished_ok t p tells turns c c' taken u taken' journal journal' x y w told =
    let line : List ℕ = last_line t p (length c'.events) c'.progress in
    record {
      came = w.came;
      shut = w.shut;
      ends = record { within = w.ends.within; runs = w.ends.runs; open_until = w.ends.open_until; ended = w.ends.ended };
      report = told ∙ ap (λ (o : Option (List ℕ)). with_more o line) (w.took.told tt) ∙ with_more-twice taken (turns_text t p c w.came) line
          ∙ ap (λ (xs : List ℕ). with_more taken (turns_text t p c w.came ++ xs)) (line_of t p c c' w.came w.took.client);
      failed = λ h. cc;
      told_front = tt;
      sent = λ exact h. w.took.sent tt h;
      sent_front = λ inexact. absurd (inexact tt);
    }

-- a front of it was written, or nothing
finished_front : (t : TopologyView) (p : ℕ) (tells : Type 0) (turns : ℕ) (c c' : ClientView) (taken u taken' : Option (List ℕ)) (journal journal' : List Entry) (x : Unit {0}) (e : RunFault) → WentOn t p tells turns c c' taken u journal journal' (Ok x)
    → IsPutFault e → TakesFront u taken' (last_line t p (length c'.events) c'.progress) → Finished t p tells turns c taken taken' journal journal' (Err e)
finished_front t p tells turns c c' taken u taken' journal journal' x e w why front =
    let text : List ℕ = turns_text t p c w.came in
    let entries : List Entry = came_entries t p c w.came w.shut in
    let line : List ℕ = last_line t p (length c.events) (after_all c w.came).progress in
    record {
      came = w.came;
      shut = w.shut;
      ends = record { within = w.ends.within; runs = w.ends.runs; open_until = w.ends.open_until; ended = tt };
      report = tt;
      failed = λ h. absurd (never_post e why h);
      told_front = front-later taken u taken' text line [] (but-all taken u text (w.took.told tt)) (subst (TakesFront u taken') (line_of t p c c' w.came w.took.client) front);
      sent = λ exact. absurd (never_exact (Unit {0}) e why exact);
      sent_front = λ inexact h. begins_all journal journal' entries (w.took.sent tt h ∙ ap (λ (xs : List Entry). journal ++ xs) (append-nil entries));
    }

-- as it was written
pub finished : (t : TopologyView) (p : ℕ) (tells : Type 0) (turns : ℕ) (c c' : ClientView) (taken u taken' : Option (List ℕ)) (journal journal' : List Entry) (x : Unit {0}) (r : Result (Unit {0}) RunFault) → WentOn t p tells turns c c' taken u journal journal' (Ok x)
    → OnOk r (taken' ≡ with_more u (last_line t p (length c'.events) c'.progress)) → OnErr r (TakesFront u taken' (last_line t p (length c'.events) c'.progress)) → IfErr r IsPutFault
    → Finished t p tells turns c taken taken' journal journal' r
finished t p tells turns c c' taken u taken' journal journal' x (Ok y) w told front why = finished_ok t p tells turns c c' taken u taken' journal journal' x y w told
finished t p tells turns c c' taken u taken' journal journal' x (Err e) w told front why = finished_front t p tells turns c c' taken u taken' journal journal' x e w why front

-- a turn failed
pub finished_cut : (t : TopologyView) (p : ℕ) (tells : Type 0) (turns : ℕ) (c c' : ClientView) (taken taken' : Option (List ℕ)) (journal journal' : List Entry) (e : RunFault) → WentOn t p tells turns c c' taken taken' journal journal' (Err e)
    → Finished t p tells turns c taken taken' journal journal' (Err e)
finished_cut t p tells turns c c' taken taken' journal journal' e w = record {
  came = w.came;
  shut = w.shut;
  ends = w.ends;
  report = tt;
  failed = λ h. w.took.told (post_exact e h);
  told_front = front-more taken taken' (turns_text t p c w.came) (last_line t p (length c.events) (after_all c w.came).progress) w.took.told_front;
  sent = w.took.sent;
  sent_front = w.took.sent_front;
}

-- before the first turn, for want of memory
pub finished_none : (t : TopologyView) (p : ℕ) (tells : Type 0) (turns : ℕ) (c : ClientView) (taken : Option (List ℕ)) (journal : List Entry) → Finished t p tells turns c taken taken journal journal (Err run.Memory)
finished_none t p tells turns c taken journal = record {
  came = [];
  shut = false;
  ends = record { within = omega arith; runs = tt; open_until = λ h. absurd (false≢true h); ended = tt };
  report = tt;
  failed = λ h. cc;
  told_front = front-nothing taken taken (whole_text t p c []) refl;
  sent = λ exact. absurd exact;
  sent_front = λ inexact h. begins_nothing journal journal (came_entries t p c [] false) refl;
}
