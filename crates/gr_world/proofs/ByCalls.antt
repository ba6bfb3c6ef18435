-- A call on a log leaves at every moment what the log held, or what it was to hold, whatever stop is ordered; and calls one after another do so by calls
use Rattle.std.proofs.Common.{◌≡◌, inl, inr, ℕ, ◌<◌, true, false, List, [], ◌∷◌, ◌++◌, length, Option, Some, Result, Ok, refl, sym, ap, ◌∙◌, subst}
use Rattle.std.proofs.lemmas.Bool.{cases_eq, cases_Bool}
use Rattle.gr_out.specs.declared.disk.Stop.{Stop as LaneStop}
use Rattle.gr_out.specs.Lane.{Lane, Call, LeftAfter, MayLeave, moment, LeftFrom, LeftSince, crash_image}
use Rattle.gr_out.proofs.Images.{image_left}
use Rattle.gr_publog.specs.declared.record.Record.{Record}
use Rattle.gr_publog.specs.declared.record.LogFault.{LogFault}
use Rattle.gr_publog.specs.State.{LogState}
use Rattle.gr_publog.specs.Lanes.{state_in}
use Rattle.gr_publog.specs.Views.{LogView, Lanes, lanes_at, AwayFrom, MayLeavePair, ReadsAs, StandsRead, IsReady}
use Rattle.gr_publog.specs.Steps.{GoesOn}
use Rattle.gr_publog.specs.Calls.{Appends, state_if}
use Rattle.gr_publog.proofs.Onward.{goes_on_same}
use Rattle.gr_publog.proofs.Passing.{left_still, SameCalls}
use Rattle.gr_pubend.specs.Cuts.{cut_state}
use Rattle.gr_topo.specs.Topology.{TopologyView, host_of}
use Rattle.gr_broker.specs.Lanes.{log_lane, GoesOnBoth}
use Rattle.gr_broker.specs.Seen.{log_in}
use Rattle.gr_broker.specs.Hosted.{Wakes}
use Rattle.gr_report.proofs.Readable.{ok_same}
use Rattle.gr_world.specs.Seen.{WorldView, broker_in}
use Rattle.gr_world.specs.Lanes.{with_stops}
use Rattle.gr_world.specs.Of.{LanesFit}
use Rattle.gr_world.specs.Ran.{IsOpen}
use Rattle.gr_world.specs.Moments.{Holds, IsCall, ByCalls, CallsLanes, StopsLanes}
use Rattle.gr_world.proofs.Joining.{others_none, others_on}
use Rattle.gr_world.proofs.Lanes.{late_if, late_cut, other_lanes}

-- One call

-- what holds something holds it, where the same subscribers may join
holds_as : (late : List ℕ) (s : LogState) (a b : List ℕ) → s.late ≡ late → ReadsAs s a b → Holds late s a b
holds_as late s a b e h = subst (λ (js : List ℕ). ◌≡◌ {A = Result LogState ℕ} (state_in js a b) (Ok s)) e h

-- lanes that stay as they are are left as by a call
pub no_call : (late : List ℕ) (before after : Lanes) → after ≡ before → IsCall late before after
no_call late before after e = subst (IsCall late before) (sym e) (record {
  on = record { first = goes_on_same before.first before.first refl; second = goes_on_same before.second before.second refl };
  any_moment = λ s holds. (s, s, λ a b left. inl (holds a b (left_still before before refl a b left)));
})

module _ (read : StandsRead) (late : List ℕ) (l : LogView) (before after : Lanes) (same : l.state.late ≡ late) (ready : IsReady l before) (on : GoesOnBoth before after) (still : l.broken ≡ true → after ≡ before) where
  -- what each pair held is what the log holds
  held_is : l.broken ≡ false → (s : LogState) → ((a b : List ℕ) → MayLeavePair before a b → Holds late s a b) → s ≡ l.state
  held_is whole s holds =
      let a = crash_image before.first in
      let b = crash_image before.second in
      let left : MayLeavePair before a b = (image_left before.first, image_left before.second) in
      ok_same s l.state (sym (holds a b left) ∙ holds_as late l.state a b same (read before l a b (ready whole) left))

  still_holds : l.broken ≡ false → (s : LogState) → ((a b : List ℕ) → MayLeavePair before a b → Holds late s a b) → (a b : List ℕ) → ReadsAs l.state a b → Holds late s a b
  still_holds whole s holds a b h = subst (λ (x : LogState). Holds late x a b) (sym (held_is whole s holds)) (holds_as late l.state a b same h)

  -- a broken log is called no more, so it is enough to say what a call on any other does
  by_call : (l.broken ≡ false → IsCall late before after) → IsCall late before after
  by_call one = elim (cases_Bool l.broken) [ inl broken ↦ no_call late before after (still broken) | inr whole ↦ one whole ]

  pub appends_call : {T : Type 0} (r : Option Record) (result : Result T LogFault) → Appends l r before after result → IsCall late before after
  appends_call r result x = by_call (λ whole. record {
    on = on;
    any_moment = λ s holds. (
      state_if r l.state,
      state_if r l.state,
      λ a b left. elim (x.any_moment whole a b left) [
        | inl h ↦ inl (still_holds whole s holds a b h)
        | inr h ↦ inr (inl (holds_as late (state_if r l.state) a b (late_if r l.state ∙ same) h))
      ],
    );
  })

  pub wakes_call : {T : Type 0} (mark : Option Record) (cut : Option ℕ) (reclaim : ℕ) (result : Result T LogFault) → Wakes l mark cut reclaim before after result → IsCall late before after
  wakes_call mark cut reclaim result x = by_call (λ whole. record {
    on = on;
    any_moment = λ s holds. (
      state_if mark l.state,
      cut_state cut (state_if mark l.state),
      λ a b left. elim (x.any_moment whole a b left) [
        | inl h ↦ inl (still_holds whole s holds a b h)
        | inr (inl h) ↦ inr (inl (holds_as late (state_if mark l.state) a b (late_if mark l.state ∙ same) h))
        | inr (inr h) ↦ inr (inr (holds_as late (cut_state cut (state_if mark l.state)) a b (late_cut cut (state_if mark l.state) ∙ (late_if mark l.state ∙ same)) h))
      ],
    );
  })

-- the lanes of a log stand as its last call left them, where the world is open
pub ready_here : (w : WorldView) (b p : ℕ) (lanes : ℕ → Lane) (l : LogView) → IsOpen w → LanesFit lanes w → p < length w.topo.publishers → host_of w.topo p ≡ b → log_in (broker_in w b) p ≡ Some l → IsReady l (lanes_at lanes (log_lane p))
ready_here w b p lanes l o f j at is =
    let fit = f.logs o.unspent p l j (λ e. cc (o.up, e)) (subst (λ c. log_in (broker_in w c) p ≡ Some l) (sym at) is) in
    fit.ready

-- A stop that was ordered before a call, and one that is ended behind it

-- two lanes made no call in between, whatever room and stop they have
pub record SameBoth (before after : Lanes) : Type 0 where
  pub first : SameCalls before.first after.first
  pub second : SameCalls before.second after.second

pub same_both : (ls : Lanes) → SameBoth ls ls
same_both ls = record { first = record { start = refl; calls = refl }; second = record { start = refl; calls = refl } }

pub same_stops : (stop : LaneStop) (ls : Lanes) → SameBoth ls (with_stops stop ls)
same_stops stop ls = record { first = record { start = refl; calls = refl }; second = record { start = refl; calls = refl } }

module _ (old mid left ended : Lane) (ordered : SameCalls old mid) (behind : SameCalls left ended) where
  may_with : (image : List ℕ) → MayLeave mid image → MayLeave old image
  may_with image m =
      subst (λ (cs : List Call). LeftAfter old.start cs image) ordered.calls
      (subst (λ (bytes : List ℕ). LeftAfter bytes mid.calls image) ordered.start m)

  since_with : (image : List ℕ) → LeftSince ended (moment old) image → LeftSince left (moment mid) image
  since_with image h =
      subst (λ (cs : List Call). LeftFrom left.start left.calls (length cs) image) (sym ordered.calls)
      (subst (λ (cs : List Call). LeftFrom left.start cs (moment old) image) behind.calls
      (subst (λ (bytes : List ℕ). LeftFrom bytes ended.calls (moment old) image) behind.start h))

  on_with : GoesOn mid left → GoesOn old ended
  on_with x = record {
    start = behind.start ∙ (x.start ∙ ordered.start);
    more = x.more;
    calls = behind.calls ∙ (x.calls ∙ ap (λ (cs : List Call). x.more ++ cs) ordered.calls);
  }

-- it is the same call from the lanes before to those behind
pub call_with : (late : List ℕ) (old mid left ended : Lanes) → SameBoth old mid → SameBoth left ended → IsCall late mid left → IsCall late old ended
call_with late old mid left ended ordered behind one = record {
  on = record {
    first = on_with old.first mid.first left.first ended.first ordered.first behind.first one.on.first;
    second = on_with old.second mid.second left.second ended.second ordered.second behind.second one.on.second;
  };
  any_moment = λ s holds.
      let held = one.any_moment s (λ a b m. holds a b (
        may_with old.first mid.first left.first ended.first ordered.first behind.first a m.0,
        may_with old.second mid.second left.second ended.second ordered.second behind.second b m.1,
      )) in (
        held.0,
        held.1,
        λ a b since. held.2 a b (
          since_with old.first mid.first left.first ended.first ordered.first behind.first a since.0,
          since_with old.second mid.second left.second ended.second ordered.second behind.second b since.1,
        ),
      );
}

-- Calls one after another

calls_on : (late : List ℕ) (a : Lanes) (xs : List Lanes) (b : Lanes) (ys : List Lanes) (c : Lanes) → ByCalls late a xs b → ByCalls late b ys c → ByCalls late a (xs ++ ys) c
calls_on late a [] b ys c e y = subst (λ (z : Lanes). ByCalls late z ys c) e y
calls_on late a (x ∷ xs) b ys c h y = (h.0, calls_on late x xs b ys c h.1 y)

-- a call on a disk that is left as it is makes none
pub lanes_none : (t : TopologyView) (a : ℕ → Lane) → CallsLanes t a a
lanes_none t a = record { others = others_none t a; moments = λ p j. ([], refl) }

pub lanes_on : (t t' : TopologyView) (a b c : ℕ → Lane) → t' ≡ t → CallsLanes t a b → CallsLanes t' b c → CallsLanes t a c
lanes_on t t' a b c e x y = record {
  others = others_on t t' a b c e x.others y.others;
  moments = λ p j.
      let one = x.moments p j in
      let j' : p < length t'.publishers = subst (λ (u : TopologyView). p < length u.publishers) (sym e) j in
      let two = y.moments p j' in
      let late : t'.late ≡ t.late = ap (λ (u : TopologyView). u.late) e in (
        one.0 ++ two.0,
        calls_on t.late (lanes_at a (log_lane p)) one.0 (lanes_at b (log_lane p)) two.0 (lanes_at c (log_lane p)) one.1 (subst (λ (js : List ℕ). ByCalls js (lanes_at b (log_lane p)) two.0 (lanes_at c (log_lane p))) late two.1),
      );
}

-- One publisher's lanes

-- where only those of one publisher were touched, and these by a call, all are
pub lanes_of_one : (t : TopologyView) (lanes lanes' : ℕ → Lane) (p : ℕ) → p < length t.publishers → ((n : ℕ) → AwayFrom (log_lane p) n → lanes' n ≡ lanes n)
    → IsCall t.late (lanes_at lanes (log_lane p)) (lanes_at lanes' (log_lane p)) → CallsLanes t lanes lanes'
lanes_of_one t lanes lanes' p j others one = record {
  others = λ n h. others n (h p j);
  moments = λ q i. elim (cases_eq q p) [
    | inl s ↦ subst (λ k. (calls : List Lanes) × ByCalls t.late (lanes_at lanes (log_lane k)) calls (lanes_at lanes' (log_lane k))) (sym s) (lanes_at lanes' (log_lane p) ∷ [], (one, refl))
    | inr n ↦ ([], other_lanes lanes lanes' p q others n)
  ];
}

-- a publish that does not come to its stop makes calls alone
pub stops_none : (t : TopologyView) (host : ℕ) (lanes lanes' : ℕ → Lane) → CallsLanes t lanes lanes' → StopsLanes t host lanes lanes'
stops_none t host lanes lanes' calls = record { between = lanes'; calls = calls; crash = inl (λ n. refl) }
