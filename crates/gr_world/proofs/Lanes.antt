-- The lanes under a world's logs after a broker's call: those of the publisher hold a log still, and no others were touched
use Rattle.std.proofs.Common.{◌≡◌, ◌≢◌, ◌⊎◌, inl, inr, ℕ, suc, ◌<◌, Bool, true, false, if◌then◌else◌, List, [], ◌∷◌, length, Option, Some, None, Result, Ok, Err, OnOk, refl, sym, ap, ap₂, ◌∙◌, subst}
use Rattle.std.specs.Prelude.{◌||◌, IsOk, is_some}
use Rattle.std.proofs.lemmas.Bool.{cases_eq, cases_Bool, eq-eqb, false≢true}
use Rattle.gr_out.specs.declared.disk.Stop.TheVariants.{Unset}
use Rattle.gr_out.specs.Lane.{Lane, Call, LeftAfter, LeftFrom, has_stopped, moment}
use Rattle.gr_publog.specs.declared.record.Record.{Record}
use Rattle.gr_publog.specs.declared.record.LogFault.{LogFault}
use Rattle.gr_publog.specs.State.{LogState}
use Rattle.gr_publog.specs.Lanes.{state_in}
use Rattle.gr_publog.specs.Views.{LogView, Lanes, lanes_at, present, other, AwayFrom, MayLeavePair, LeftPair, ReadsAs}
use Rattle.gr_publog.specs.Calls.{Appends, appended_if, state_if}
use Rattle.gr_pubend.specs.Cuts.{Cuts, cut_state}
use Rattle.gr_pubend.proofs.Cuts.{cuts_reserved, cuts_unset}
use Rattle.gr_topo.specs.Topology.{host_of}
use Rattle.gr_broker.specs.Lanes.{log_lane, either_stopped, AreUnset}
use Rattle.gr_broker.specs.Seen.{BrokerView, log_in}
use Rattle.gr_broker.specs.Of.{LogsStand}
use Rattle.gr_broker.specs.Hosted.{Wakes}
use Rattle.gr_report.proofs.Hosts.{own_lanes}
use Rattle.gr_report.proofs.Readable.{is_ok_of}
use Rattle.gr_world.specs.Lanes.{AreReserved}
use Rattle.gr_world.specs.Seen.{WorldView, broker_in, log_at}
use Rattle.gr_world.specs.Of.{IsWorld, LaneFits, IsReadable, LanesFit}
use Rattle.gr_world.specs.Ran.{IsOpen}
use Rattle.gr_world.specs.Taking.{put_in}
use Rattle.gr_world.proofs.Absorbing.{Touches, log_here, log_stays, log_elsewhere}
use Rattle.gr_world.proofs.Fitting.{at_host}

-- Two lanes

-- what holds of the present lane and of the other one holds of both
pub both_of : (P : Lane → Type 0) (l : LogView) (ls : Lanes) → P (present l ls) → P (other l ls) → P ls.first × P ls.second
both_of P l ls p o = go l.second p o
  where
    go : (b : Bool) → P (if b then ls.second else ls.first) → P (if b then ls.first else ls.second) → P ls.first × P ls.second
    go true p o = (o, p)
    go false p o = (p, o)

-- and the other way round
pub of_both : (P : Lane → Type 0) (l : LogView) (ls : Lanes) → P ls.first → P ls.second → P (present l ls) × P (other l ls)
of_both P l ls x y = go l.second
  where
    go : (b : Bool) → P (if b then ls.second else ls.first) × P (if b then ls.first else ls.second)
    go true = (y, x)
    go false = (x, y)

-- so what a call keeps of each of these it keeps of both
both_kept : (P : Lane → Type 0) (l : LogView) (before after : Lanes) → (P (present l before) → P (present l after)) → (P (other l before) → P (other l after))
    → P before.first → P before.second → P after.first × P after.second
both_kept P l before after p o x y = let k = of_both P l before x y in both_of P l after (p k.0) (o k.1)

-- lanes that are as they were
pub lanes_same : (lanes lanes' : ℕ → Lane) (n : ℕ) → lanes' n ≡ lanes n → lanes' (suc n) ≡ lanes (suc n) → lanes_at lanes' n ≡ lanes_at lanes n
lanes_same lanes lanes' n e f = ap₂ (λ (x y : Lane). let ls : Lanes = record { first = x; second = y } in ls) e f

-- where none but those of one publisher were touched, those of another one are
pub other_lanes : (lanes lanes' : ℕ → Lane) (p q : ℕ) → ((n : ℕ) → AwayFrom (log_lane p) n → lanes' n ≡ lanes n) → q ≢ p → lanes_at lanes' (log_lane q) ≡ lanes_at lanes (log_lane q)
other_lanes lanes lanes' p q others apart =
    let away = own_lanes q p apart in
    lanes_same lanes lanes' (log_lane q) (others (log_lane q) away.0) (others (suc (log_lane q)) away.1)

-- what a crash may leave now it may have left at a moment since
left_now : (start : List ℕ) (calls : List Call) (since : ℕ) (image : List ℕ) → LeftAfter start calls image → LeftFrom start calls since image
left_now start [] since image m = m
left_now start (call ∷ calls) since image m = inl m

pub left_pair_now : (before after : Lanes) (a b : List ℕ) → MayLeavePair after a b → LeftPair before after a b
left_pair_now before after a b left = (
  left_now after.first.start after.first.calls (moment before.first) a left.0,
  left_now after.second.start after.second.calls (moment before.second) b left.1,
)

-- what holds something is a log
pub reads_ok : (late : List ℕ) (s : LogState) (a b : List ℕ) → s.late ≡ late → ReadsAs s a b → IsOk (state_in late a b)
reads_ok late s a b e h = is_ok_of (state_in late a b) s (subst (λ (js : List ℕ). ◌≡◌ {A = Result LogState ℕ} (state_in js a b) (Ok s)) e h)

-- the same subscribers may join after a record, and after a cut
pub late_if : (r : Option Record) (s : LogState) → (state_if r s).late ≡ s.late
late_if None s = refl
late_if (Some r) s = refl

pub late_cut : (cut : Option ℕ) (s : LogState) → (cut_state cut s).late ≡ s.late
late_cut None s = refl
late_cut (Some tick) s = refl

-- What a call does to the lanes of a log, as far as the world's own words go, where these subscribers may join
pub record LaneMoves (late : List ℕ) (before after : Lanes) : Type 0 where
  pub reserved : AreReserved before → AreReserved after
  pub unset : AreUnset before → AreUnset after
  pub readable : IsReadable late before → IsReadable late after

-- a log that the disk has failed is called no more; any other is left with what it held, or with what the call leaves of it
readable_by : (late : List ℕ) (l : LogView) (before after : Lanes) → (l.broken ≡ true → after ≡ before) → (l.broken ≡ false → IsReadable late after) → IsReadable late before → IsReadable late after
readable_by late l before after still moved r = elim (cases_Bool l.broken) [ inl e ↦ subst (IsReadable late) (sym (still e)) r | inr e ↦ moved e ]

abbrev HasRoom : Lane → Type 0
HasRoom x = x.reserved ≡ true

abbrev NoStop : Lane → Type 0
NoStop x = x.stop ≡ Unset

-- by what holds of each lane
moves_by : (late : List ℕ) (before after : Lanes) → (HasRoom before.first → HasRoom before.second → HasRoom after.first × HasRoom after.second) → (NoStop before.first → NoStop before.second → NoStop after.first × NoStop after.second)
    → (IsReadable late before → IsReadable late after) → LaneMoves late before after
moves_by late before after room stop reads = record {
  reserved = λ r. let k = room r.first r.second in record { first = k.0; second = k.1 };
  unset = λ u. let k = stop u.first u.second in record { first = k.0; second = k.1 };
  readable = reads;
}

-- so a call that logs one record or none
pub appends_moves : {T : Type 0} (late : List ℕ) (l : LogView) (r : Option Record) (before after : Lanes) (result : Result T LogFault) → l.state.late ≡ late → Appends l r before after result → (l.broken ≡ true → after ≡ before)
    → LaneMoves late before after
appends_moves late l r before after result same a still =
    moves_by late before after
    (both_kept HasRoom l before after a.reserved (λ h. ap (λ (x : Lane). x.reserved) a.aside ∙ h))
    (both_kept NoStop l before after a.unset (λ h. ap (λ (x : Lane). x.stop) a.aside ∙ h))
    (readable_by late l before after still (λ whole x y m. elim (a.any_moment whole x y (left_pair_now before after x y m)) [
      | inl h ↦ reads_ok late l.state x y same h
      | inr h ↦ reads_ok late (state_if r l.state) x y (late_if r l.state ∙ same) h
    ]))

-- and one that cuts after it
pub wakes_moves : {T : Type 0} (late : List ℕ) (l : LogView) (mark : Option Record) (cut : Option ℕ) (reclaim : ℕ) (before after : Lanes) (result : Result T LogFault) → l.state.late ≡ late
    → Wakes l mark cut reclaim before after result → (l.broken ≡ true → after ≡ before) → LaneMoves late before after
wakes_moves {T} late l mark cut reclaim before after result same w still =
    moves_by late before after
    (λ x y. then_on HasRoom (λ r c. let k = cuts_reserved marked reclaim w.between after r cut c in both_kept HasRoom marked w.between after k.0 k.1)
    (both_kept HasRoom l before w.between w.one.reserved (λ h. ap (λ (z : Lane). z.reserved) w.one.aside ∙ h) x y))
    (λ x y. then_on NoStop (λ r c. let k = cuts_unset marked reclaim w.between after r cut c in both_kept NoStop marked w.between after k.0 k.1)
    (both_kept NoStop l before w.between w.one.unset (λ h. ap (λ (z : Lane). z.stop) w.one.aside ∙ h) x y))
    (readable_by late l before after still (λ whole x y m. elim (w.any_moment whole x y (left_pair_now before after x y m)) [
      | inl h ↦ reads_ok late l.state x y same h
      | inr (inl h) ↦ reads_ok late (state_if mark l.state) x y (late_if mark l.state ∙ same) h
      | inr (inr h) ↦ reads_ok late (cut_state cut (state_if mark l.state)) x y (late_cut cut (state_if mark l.state) ∙ (late_if mark l.state ∙ same)) h
    ]))
  where
    marked : LogView
    marked = appended_if mark l

    then_on : (P : Lane → Type 0) → ((r : Result T LogFault) → Cuts marked cut reclaim w.between after r → P w.between.first → P w.between.second → P after.first × P after.second)
        → P w.between.first × P w.between.second → P after.first × P after.second
    then_on P step h = go w.answer refl
      where
        go : (x : Result (Unit {0}) LogFault) → w.answer ≡ x → P after.first × P after.second
        go (Ok u) e = step result (subst (λ (y : Result (Unit {0}) LogFault). OnOk y (Cuts marked cut reclaim w.between after result)) e w.two) h.0 h.1
        go (Err f) e = subst (λ (x : Lanes). P x.first × P x.second) (sym (w.stops f e).0) h

-- All lanes

module _ (w : WorldView) (b p : ℕ) (after : BrokerView) (frames : List (List ℕ)) (lanes lanes' : ℕ → Lane) (i : IsWorld w) (lt : b < length w.topo.brokers) (below : p < length w.topo.publishers) where
  within : b < length w.brokers
  within = subst (λ n. b < n) (sym i.count) lt

  abbrev Other : Type 0
  Other = (n : ℕ) → AwayFrom (log_lane p) n → lanes' n ≡ lanes n

  -- those of a publisher, before and after
  abbrev old_at : ℕ → Lanes
  old_at q = lanes_at lanes (log_lane q)

  abbrev new_at : ℕ → Lanes
  new_at q = lanes_at lanes' (log_lane q)

  -- the lanes of each log fit it still, and hold a log
  pub lanes_fit : Touches p (broker_in w b) after → IsOpen w → LanesFit lanes w → Other → (host_of w.topo p ≡ b → LaneMoves w.topo.late (old_at p) (new_at p))
      → (host_of w.topo p ≢ b → new_at p ≡ old_at p) → LogsStand lanes' after → LanesFit lanes' (put_in w b after frames)
  lanes_fit t is_open f others moves still stands = record {
    logs = λ unspent q l lt_q up e. logs_of q l lt_q e (cases_eq q p) (cases_eq (host_of w.topo p) b);
    readable = λ unspent q lt_q. readable_of q lt_q (cases_eq q p) (cases_eq (host_of w.topo p) b);
  }
    where
      old : (q : ℕ) (l : LogView) → q < length w.topo.publishers → log_at w q ≡ Some l → LaneFits l (old_at q)
      old q l lt_q e = f.logs is_open.unspent q l lt_q (λ d. no_some (sym is_open.up ∙ d)) e
        where
          no_some : {x : ℕ} → None ≡ Some x → ⊥
          no_some h = cc

      here : (o : Option LogView) → log_in (broker_in w b) p ≡ o → is_some o ≡ true → (l : LogView) → log_in after p ≡ Some l → host_of w.topo p ≡ b → LaneFits l (new_at p)
      here (Some m) e s l h at =
          let k = old p m below (at_host w b p m i lt below e) in
          let v = moves at in
          record { ready = stands p l h; reserved = v.reserved k.reserved; unset = v.unset k.unset }
      here None e s l h at = absurd (false≢true s)

      hosted : host_of w.topo p ≡ b → is_some (log_in (broker_in w b) p) ≡ true
      hosted at = (i.brokers b lt).hosted p below ∙ eq-eqb (host_of w.topo p) (broker_in w b).number (at ∙ sym (i.numbered b lt))

      logs_of : (q : ℕ) (l : LogView) → q < length w.topo.publishers → log_at (put_in w b after frames) q ≡ Some l → (q ≡ p) ⊎ (q ≢ p) → (host_of w.topo p ≡ b) ⊎ (host_of w.topo p ≢ b) → LaneFits l (new_at q)
      logs_of q l lt_q e (inl s) (inl at) =
          subst (λ k. LaneFits l (new_at k)) (sym s)
          (here (log_in (broker_in w b) p) refl (hosted at) l (sym (log_here w b p after frames within p at) ∙ (ap (λ k. log_at (put_in w b after frames) k) (sym s) ∙ e)) at)
      logs_of q l lt_q e (inl s) (inr n) =
          subst (λ k. LaneFits l (new_at k)) (sym s)
          (subst (LaneFits l) (sym (still n)) (old p l below (sym (log_elsewhere w b p after frames within p n) ∙ (ap (λ k. log_at (put_in w b after frames) k) (sym s) ∙ e))))
      logs_of q l lt_q e (inr n) at = subst (LaneFits l) (sym (other_lanes lanes lanes' p q others n)) (old q l lt_q (sym (log_stays w b p after frames within t q n) ∙ e))

      readable_of : (q : ℕ) → q < length w.topo.publishers → (q ≡ p) ⊎ (q ≢ p) → (host_of w.topo p ≡ b) ⊎ (host_of w.topo p ≢ b) → IsReadable w.topo.late (new_at q)
      readable_of q lt_q (inl s) (inl at) = subst (λ k. IsReadable w.topo.late (new_at k)) (sym s) ((moves at).readable (f.readable is_open.unspent p below))
      readable_of q lt_q (inl s) (inr n) = subst (λ k. IsReadable w.topo.late (new_at k)) (sym s) (subst (IsReadable w.topo.late) (sym (still n)) (f.readable is_open.unspent p below))
      readable_of q lt_q (inr n) at = subst (IsReadable w.topo.late) (sym (other_lanes lanes lanes' p q others n)) (f.readable is_open.unspent q lt_q)

-- lanes on which no stop is ordered are not stopped
pub none_stopped : (ls : Lanes) → AreUnset ls → either_stopped ls ≡ false
none_stopped ls u = ap₂ (λ (x y : Bool). x || y) (ap has_stopped u.first) (ap has_stopped u.second)

-- no stop is ordered on the lanes of a publisher, so none can have broken a call on them
pub never_stopped : (w : WorldView) (lanes : ℕ → Lane) (p : ℕ) → IsWorld w → IsOpen w → LanesFit lanes w → p < length w.topo.publishers → host_of w.topo p < length w.topo.brokers
    → either_stopped (lanes_at lanes (log_lane p)) ≡ true → ⊥
never_stopped w lanes p i is_open f below lt stopped = go (log_at w p) refl hosted
  where
    hosted : is_some (log_at w p) ≡ true
    hosted = (i.brokers (host_of w.topo p) lt).hosted p below ∙ eq-eqb (host_of w.topo p) (broker_in w (host_of w.topo p)).number (sym (i.numbered (host_of w.topo p) lt))

    no_some : {x : ℕ} → None ≡ Some x → ⊥
    no_some h = cc

    go : (o : Option LogView) → log_at w p ≡ o → is_some o ≡ true → ⊥
    go (Some l) e s = false≢true (sym (none_stopped (lanes_at lanes (log_lane p)) (f.logs is_open.unspent p l below (λ d. no_some (sym is_open.up ∙ d)) e).unset) ∙ stopped)
    go None e s = false≢true s
