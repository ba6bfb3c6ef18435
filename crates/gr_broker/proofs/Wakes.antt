-- A mark, and then a cut, or the mark alone where it fails: what that does to two lanes, what is kept, and what is told
use Rattle.std.proofs.Common.{◌≡◌, ◌⊎◌, inl, inr, ⊎_elim, ℕ, ◌+◌, ◌≤◌, Bool, true, false, not, if◌then◌else◌, List, [], ◌∷◌, ◌++◌, length, map, Option, Some, None, Result, Ok, Err, refl, sym, ap, ap₂, ◌∙◌, subst, arith, length-append}
use Rattle.std.specs.Prelude.{◌↔◌, ◌==◌, nat_lt, IsSome, IsErrOf}
use Rattle.gr_event.specs.Joins.{JoinsRise}
use Rattle.gr_frame.specs.declared.Frame.{Frame}
use Rattle.gr_frame.specs.Bytes.{frame_bytes}
use Rattle.gr_frame.specs.Cut.{AreFrames}
use Rattle.gr_out.specs.Lane.{Lane, Call, content, moment, MayLeave, LeftFrom, LeftSince}
use Rattle.gr_publog.specs.declared.record.Record.{Record}
use Rattle.gr_publog.specs.declared.record.Record.TheVariants as entry
use Rattle.gr_publog.specs.declared.record.LogFault.{LogFault}
use Rattle.gr_publog.specs.declared.record.LogFault.TheVariants as fault
use Rattle.gr_publog.specs.declared.head.Standing.{Standing}
use Rattle.gr_publog.specs.declared.head.Standing.TheVariants.{Shut, Old, New}
use Rattle.gr_publog.specs.declared.head.Present.{Present}
use Rattle.gr_publog.specs.declared.head.Present.TheVariants.{First, Second}
use Rattle.gr_publog.specs.State.{LogState, after_record, empty_state, Apart}
use Rattle.gr_publog.specs.Text.{◌>>=◌, standing_of, record_size}
use Rattle.gr_publog.specs.Lanes.{chosen, present_of, read_by, pair_in, state_text, state_in}
use Rattle.gr_publog.specs.Rewrite.{IsBeside, ShutIs, TwoAre, LowerIs}
use Rattle.gr_publog.specs.Views.{LogView, Lanes, lanes_at, appended, failed, present, other, LeftPair, ReadsAs, Stands, IsReady}
use Rattle.gr_publog.specs.Calls.{Appends, Reclaims, Leaves, appended_if, state_if}
use Rattle.gr_publog.proofs.Calling.{each_left}
use Rattle.gr_publog.proofs.Passing.{same_fault}
use Rattle.gr_publog.proofs.Presence.{in_turn, beside_is, beside_first, beside_second}
use Rattle.gr_pubend.specs.declared.answers.Quieted.{Quieted}
use Rattle.gr_pubend.specs.declared.answers.Quieted.TheVariants as quiets
use Rattle.gr_pubend.specs.Log.{Log, said}
use Rattle.gr_pubend.specs.Answers.{quieted, mark_of, quiet_logs}
use Rattle.gr_pubend.specs.Cuts.{Cuts, cut_if, cut_state}
use Rattle.gr_pubend.proofs.Cuts.{by_way}
use Rattle.gr_model.specs.Net.{Net}
use Rattle.gr_model.specs.Broker.{View, Outcome, marking, wake_host}
use Rattle.gr_broker_relay.specs.declared.outcome.Outcome.{Outcome as Told}
use Rattle.gr_broker_relay.specs.Told.{Tells, Adds, AddsFrames}
use Rattle.gr_broker_relay.proofs.Sent.{adds_after}
use Rattle.gr_broker_relay.specs.Cuts.{tick_cut}
use Rattle.gr_broker.specs.Hosted.{Wakes, WakeLeaves}
use Rattle.gr_broker.specs.Host.{host_with, tick_marked, mark_lines, cut_lines, expected_frames}
use Rattle.gr_broker.proofs.Hosted.{marking_is, marking_log_is, cutting_log_is, marked_rise, marked_apart, host_woken}
use Rattle.gr_broker.proofs.Opening.{since_now}

-- A log with a record, or none, is on its lanes as before

pub noted_lane : (r : Option Record) (l : LogView) → (appended_if r l).lane ≡ l.lane
noted_lane None l = refl
noted_lane (Some r) l = refl

pub noted_broken : (r : Option Record) (l : LogView) → (appended_if r l).broken ≡ l.broken
noted_broken None l = refl
noted_broken (Some r) l = refl

pub noted_late : (r : Option Record) (l : LogView) → (appended_if r l).state.late ≡ l.state.late
noted_late None l = refl
noted_late (Some r) l = refl

-- Crashes at some moment of two calls

split_from : (start : List ℕ) (more calls : List Call) (n : ℕ) (image : List ℕ) → LeftFrom start (more ++ calls) n image → LeftFrom start (more ++ calls) (length calls) image ⊎ LeftFrom start calls n image
split_from start [] calls n image left = inr left
split_from start (c ∷ more) calls n image (inl now) = inl (inl now)
split_from start (c ∷ more) calls n image (inr before) =
    ⊎_elim (λ x. inl (inr (omega (arith, length-append more calls), x))) (λ x. inr x) (split_from start more calls n image before.1)

-- where a lane goes on from an earlier one, what a crash left since a moment it left since the earlier lane, or before
pub split_moment : (between after : Lane) (more : List Call) → after.start ≡ between.start → after.calls ≡ more ++ between.calls → (n : ℕ) (image : List ℕ) →
    LeftSince after n image → LeftSince after (moment between) image ⊎ LeftSince between n image
split_moment between after more start calls n image left =
    let here : LeftFrom between.start (more ++ between.calls) n image = subst (λ cs. LeftFrom between.start cs n image) calls (subst (λ s. LeftFrom s after.calls n image) start left) in
    ⊎_elim (λ x. inl (subst (λ s. LeftFrom s after.calls (moment between) image) (sym start) (subst (λ cs. LeftFrom between.start cs (moment between) image) (sym calls) x))) (λ x. inr x)
    (split_from between.start more between.calls n image here)

-- an image of each lane, in the order of the lanes
pair_left : (second : Bool) (before after : Lanes) (image beside : List ℕ) → LeftSince (if second then after.second else after.first) (moment (if second then before.second else before.first)) image
    → LeftSince (if second then after.first else after.second) (moment (if second then before.first else before.second)) beside
    → LeftPair before after (if second then beside else image) (if second then image else beside)
pair_left false before after image beside p o = (p, o)
pair_left true before after image beside p o = (o, p)

-- Images of a present lane beside images of the other one, which is written anew

present_reads : (late a b : List ℕ) (p : Result Present ℕ) → present_of a b ≡ p → state_in late a b ≡ (p >>= read_by (empty_state late) (state_text late) a b)
unfolding pair_in
present_reads late a b p e = ap (λ (r : Result Present ℕ). r >>= read_by (empty_state late) (state_text late) a b) e

-- which lane is present is told by both heads
heads_are : (a b : List ℕ) (x y : Result Standing ℕ) → standing_of true a ≡ x → standing_of false b ≡ y → present_of a b ≡ (x >>= λ v. y >>= λ w. chosen v w)
unfolding present_of
heads_are a b x y s t = ap₂ (λ (v w : Result Standing ℕ). v >>= λ i. w >>= λ j. chosen i j) s t

-- beside an image of the other lane one of the present lane is read, or that image is, whatever stands in the present lane
passes_first : (late : List ℕ) (g : ℕ) (a a' b : List ℕ) (s : LogState) → standing_of true a ≡ Ok (New g) → standing_of true a' ≡ Ok (New g) → state_in late a' b ≡ Ok s
    → (state_in late a b ≡ state_text late (New g) a) ⊎ (state_in late a b ≡ state_in late a' b)
passes_first late g a a' b s x x' is = by_other (standing_of false b) refl
  where
    reads : (y : Result Standing ℕ) → standing_of false b ≡ y → state_in late a b ≡ ((y >>= λ w. chosen (New g) w) >>= read_by (empty_state late) (state_text late) a b)
    reads y e = present_reads late a b _ (heads_are a b (Ok (New g)) y x e)

    reads' : (y : Result Standing ℕ) → standing_of false b ≡ y → state_in late a' b ≡ ((y >>= λ w. chosen (New g) w) >>= read_by (empty_state late) (state_text late) a' b)
    reads' y e = present_reads late a' b _ (heads_are a' b (Ok (New g)) y x' e)

    new : Bool → Bool → ℕ → Result Present ℕ
    new same lower h = if same then Err 6 else (if lower then Ok (First (New g)) else Ok (Second (New h)))

    by_new : (h : ℕ) (same lower : Bool) → state_in late a b ≡ (new same lower h >>= read_by (empty_state late) (state_text late) a b)
        → state_in late a' b ≡ (new same lower h >>= read_by (empty_state late) (state_text late) a' b)
        → (state_in late a b ≡ state_text late (New g) a) ⊎ (state_in late a b ≡ state_in late a' b)
    by_new h true lower p q = absurd (cc (sym is ∙ q))
    by_new h false true p q = inl p
    by_new h false false p q = inr (p ∙ sym q)

    by_other : (y : Result Standing ℕ) → standing_of false b ≡ y → (state_in late a b ≡ state_text late (New g) a) ⊎ (state_in late a b ≡ state_in late a' b)
    by_other (Err e) at = absurd (cc (sym is ∙ reads' (Err e) at))
    by_other (Ok Shut) at = inl (reads (Ok Shut) at)
    by_other (Ok Old) at = inl (reads (Ok Old) at)
    by_other (Ok (New h)) at = by_new h (g == h) (nat_lt h g) (reads (Ok (New h)) at) (reads' (Ok (New h)) at)

passes_second : (late : List ℕ) (g : ℕ) (b b' a : List ℕ) (s : LogState) → standing_of false b ≡ Ok (New g) → standing_of false b' ≡ Ok (New g) → state_in late a b' ≡ Ok s
    → (state_in late a b ≡ state_text late (New g) b) ⊎ (state_in late a b ≡ state_in late a b')
passes_second late g b b' a s x x' is = by_other (standing_of true a) refl
  where
    reads : (y : Result Standing ℕ) → standing_of true a ≡ y → state_in late a b ≡ ((y >>= λ w. chosen w (New g)) >>= read_by (empty_state late) (state_text late) a b)
    reads y e = present_reads late a b _ (heads_are a b y (Ok (New g)) e x)

    reads' : (y : Result Standing ℕ) → standing_of true a ≡ y → state_in late a b' ≡ ((y >>= λ w. chosen w (New g)) >>= read_by (empty_state late) (state_text late) a b')
    reads' y e = present_reads late a b' _ (heads_are a b' y (Ok (New g)) e x')

    new : Bool → Bool → ℕ → Result Present ℕ
    new same lower h = if same then Err 6 else (if lower then Ok (First (New h)) else Ok (Second (New g)))

    by_new : (h : ℕ) (same lower : Bool) → state_in late a b ≡ (new same lower h >>= read_by (empty_state late) (state_text late) a b)
        → state_in late a b' ≡ (new same lower h >>= read_by (empty_state late) (state_text late) a b')
        → (state_in late a b ≡ state_text late (New g) b) ⊎ (state_in late a b ≡ state_in late a b')
    by_new h true lower p q = absurd (cc (sym is ∙ q))
    by_new h false true p q = inr (p ∙ sym q)
    by_new h false false p q = inl p

    by_other : (y : Result Standing ℕ) → standing_of true a ≡ y → (state_in late a b ≡ state_text late (New g) b) ⊎ (state_in late a b ≡ state_in late a b')
    by_other (Err e) at = absurd (cc (sym is ∙ reads' (Err e) at))
    by_other (Ok Shut) at = inl (reads (Ok Shut) at)
    by_other (Ok Old) at = inl (reads (Ok Old) at)
    by_other (Ok (New h)) at = by_new h (h == g) (nat_lt g h) (reads (Ok (New h)) at) (reads' (Ok (New h)) at)

passes : (second : Bool) (late : List ℕ) (g : ℕ) (image image' beside : List ℕ) (s : LogState) → standing_of (not second) image ≡ Ok (New g) → standing_of (not second) image' ≡ Ok (New g) → in_turn late second image' beside ≡ Ok s
    → (in_turn late second image beside ≡ state_text late (New g) image) ⊎ (in_turn late second image beside ≡ in_turn late second image' beside)
passes false late g image image' beside s x x' is = passes_first late g image image' beside s x x' is
passes true late g image image' beside s x x' is = passes_second late g image image' beside s x x' is

-- beside a lane that is not present the image of the present lane is read
reads_text : ShutIs → TwoAre → LowerIs → (second : Bool) (late : List ℕ) (g : ℕ) (image beside : List ℕ) → standing_of (not second) image ≡ Ok (New g) → IsBeside second g beside
    → in_turn late second image beside ≡ state_text late (New g) image
reads_text shut two lower false late g image beside x b = present_reads late image beside (Ok (First (New g))) (beside_first shut two lower g image beside x b)
reads_text shut two lower true late g image beside x b = present_reads late beside image (Ok (Second (New g))) (beside_second shut two lower g beside image x b)

-- so an image of the present lane at some moment of a first call, beside one of the other lane at some moment of a second one, holds
-- what was held before the first, between them, or after the second
any_pair : ShutIs → TwoAre → LowerIs → (second : Bool) (late : List ℕ) (g : ℕ) (s s1 s2 : LogState) (image image' beside beside' : List ℕ)
    → standing_of (not second) image ≡ Ok (New g) → standing_of (not second) image' ≡ Ok (New g) → IsBeside second g beside'
    → (in_turn late second image beside' ≡ Ok s) ⊎ (in_turn late second image beside' ≡ Ok s1)
    → (in_turn late second image' beside ≡ Ok s1) ⊎ (in_turn late second image' beside ≡ Ok s2)
    → (in_turn late second image beside ≡ Ok s) ⊎ ((in_turn late second image beside ≡ Ok s1) ⊎ (in_turn late second image beside ≡ Ok s2))
any_pair shut two lower second late g s s1 s2 image image' beside beside' x x' b one two' = ⊎_elim (λ e. by_passing s1 e (λ k. inr (inl (k ∙ e)))) (λ e. by_passing s2 e (λ k. inr (inr (k ∙ e)))) two'
  where
    Three : Type 0
    Three = (in_turn late second image beside ≡ Ok s) ⊎ ((in_turn late second image beside ≡ Ok s1) ⊎ (in_turn late second image beside ≡ Ok s2))

    old : in_turn late second image beside ≡ state_text late (New g) image → Three
    old e =
        let same : in_turn late second image beside ≡ in_turn late second image beside' = e ∙ sym (reads_text shut two lower second late g image beside' x b) in
        ⊎_elim (λ k. inl (same ∙ k)) (λ k. inr (inl (same ∙ k))) one

    by_passing : (r : LogState) → in_turn late second image' beside ≡ Ok r → (in_turn late second image beside ≡ in_turn late second image' beside → Three) → Three
    by_passing r e new = ⊎_elim old new (passes second late g image image' beside r x x' e)

-- What is asked of the laws of lanes

pub record AreLaws : Type 0 where
  pub leaves : (l : Lane) → MayLeave l (content l)
  pub shut : ShutIs
  pub two : TwoAre
  pub lower : LowerIs

-- a log that holds something else in as many bytes
abbrev noted_as : LogView → LogState → ℕ → LogView
noted_as l s n = record { lane = l.lane; state = s; broken = l.broken; second = l.second; generation = l.generation; size = n; aside = l.aside }

-- The moments of a wake, by what its mark did
module _ {T : Type 0} (laws : AreLaws) (l : LogView) (s : LogState) (n : ℕ) (late : s.late ≡ l.state.late) (before between after : Lanes) (result : Result T LogFault) (whole : l.broken ≡ false) (stands : Stands before l)
    (one_moment : (a b : List ℕ) → LeftPair before between a b → ReadsAs l.state a b ⊎ ReadsAs s a b)
    (one_head : (image : List ℕ) → LeftSince (present l between) (moment (present l before)) image → standing_of (not l.second) image ≡ Ok (New l.generation))
    (one_aside : other l between ≡ other l before) where
  abbrev Three : Option ℕ → List ℕ → List ℕ → Type 0
  Three cut a b = ReadsAs l.state a b ⊎ (ReadsAs s a b ⊎ ReadsAs (cut_state cut s) a b)

  first_two : (cut : Option ℕ) (a b : List ℕ) → ReadsAs l.state a b ⊎ ReadsAs s a b → Three cut a b
  first_two cut a b x = ⊎_elim (λ e. inl e) (λ e. inr (inl e)) x

  uncut : (cut : Option ℕ) → after ≡ between → (a b : List ℕ) → LeftPair before after a b → Three cut a b
  uncut cut e a b left = first_two cut a b (one_moment a b (subst (λ (ls : Lanes). LeftPair before ls a b) e left))

  -- an image of the lane that the mark did not call
  beside_on : (image : List ℕ) → LeftSince (other l after) (moment (other l before)) image → LeftSince (other l after) (moment (other l between)) image
  beside_on image o = subst (λ (x : Lane). LeftSince (other l after) (moment x) image) (sym one_aside) o

  recorded : (tick : ℕ) → Appends (noted_as l s n) (Some (entry.Cut tick)) between after result → (a b : List ℕ) → LeftPair before after a b → Three (Some tick) a b
  recorded tick k a b left = each_left (Three (Some tick)) l.second before after a b here left
    where
      here : (image beside : List ℕ) → LeftSince (present l after) (moment (present l before)) image → LeftSince (other l after) (moment (other l before)) beside
          → Three (Some tick) (if l.second then beside else image) (if l.second then image else beside)
      here image beside p o =
          ⊎_elim
          (λ x. inr (k.any_moment whole _ _ (pair_left l.second between after image beside x (beside_on beside o))))
          (λ x. first_two (Some tick) _ _ (one_moment _ _ (pair_left l.second before between image beside x (subst (λ (y : Lane). LeftSince y (moment (other l before)) beside) k.aside o))))
          (split_moment (present l between) (present l after) k.on.more k.on.start k.on.calls (moment (present l before)) image p)

  -- the same subscribers may join all along
  to : (x : LogState) → x.late ≡ l.state.late → (a b : List ℕ) → ReadsAs x a b → state_in l.state.late a b ≡ Ok x
  to x e a b h = ap (λ (js : List ℕ). state_in js a b) (sym e) ∙ h

  back : (x : LogState) → x.late ≡ l.state.late → (a b : List ℕ) → state_in l.state.late a b ≡ Ok x → ReadsAs x a b
  back x e a b h = ap (λ (js : List ℕ). state_in js a b) e ∙ h

  reclaimed : (tick : ℕ) → Reclaims (noted_as l s n) tick between after result → (a b : List ℕ) → LeftPair before after a b → Three (Some tick) a b
  reclaimed tick k a b left = each_left (Three (Some tick)) l.second before after a b here left
    where
      s2 : LogState
      s2 = after_record s (entry.Cut tick)

      -- what the present lane read between the two, and the other one before them
      mid : List ℕ
      mid = content (present l between)

      old : List ℕ
      old = content (other l before)

      here : (image beside : List ℕ) → LeftSince (present l after) (moment (present l before)) image → LeftSince (other l after) (moment (other l before)) beside
          → Three (Some tick) (if l.second then beside else image) (if l.second then image else beside)
      here image beside p o =
          let p' : LeftSince (present l between) (moment (present l before)) image = subst (λ (y : Lane). LeftSince y (moment (present l before)) image) k.kept p in
          let old_left : LeftSince (other l between) (moment (other l before)) old =
          subst (λ (y : Lane). LeftSince y (moment (other l before)) old) (sym one_aside) (since_now (other l before) (moment (other l before)) old (laws.leaves (other l before))) in
          let mid_left : LeftSince (present l after) (moment (present l between)) mid =
          subst (λ (y : Lane). LeftSince y (moment (present l between)) mid) (sym k.kept) (since_now (present l between) (moment (present l between)) mid (laws.leaves (present l between))) in
          let one : ReadsAs l.state (if l.second then old else image) (if l.second then image else old) ⊎ ReadsAs s (if l.second then old else image) (if l.second then image else old) =
          one_moment _ _ (pair_left l.second before between image old p' old_left) in
          let two : ReadsAs s (if l.second then beside else mid) (if l.second then mid else beside) ⊎ ReadsAs s2 (if l.second then beside else mid) (if l.second then mid else beside) =
          k.any_moment whole _ _ (pair_left l.second between after mid beside mid_left (beside_on beside o)) in
          ⊎_elim (λ e. inl e) (λ e. inr (⊎_elim (λ f. inl (back s late _ _ f)) (λ f. inr (back s2 late _ _ f)) e))
          (any_pair laws.shut laws.two laws.lower l.second l.state.late l.generation l.state s s2 image mid beside old
          (one_head image p') (one_head mid (since_now (present l between) (moment (present l before)) mid (laws.leaves (present l between))))
          (beside_is l.aside l.second l.generation old stands.aside)
          (⊎_elim (λ e. inl e) (λ e. inr (to s late _ _ e)) one)
          (⊎_elim (λ e. inl (to s late _ _ e)) (λ e. inr (to s2 late _ _ e)) two))

module _ {T : Type 0} (l : LogView) (before : Lanes) where
  -- where the mark failed there is no cut
  pub wakes_stopped : (mark : Option Record) (cut : Option ℕ) (reclaim : ℕ) (after : Lanes) (e : LogFault) → Appends {T = Unit {0}} l mark before after (Err e) → Wakes {T = T} l mark cut reclaim before after (Err e)
  wakes_stopped mark cut reclaim after e k = record {
    between = after;
    answer = Err e;
    one = k;
    stops = λ f is. (refl, ap (λ (x : LogFault). Err x) (same is));
    two = tt;
    any_moment = λ whole a b left. ⊎_elim (λ x. inl x) (λ x. inr (inl x)) (k.any_moment whole a b left);
  }
    where
      same : {f : LogFault} → ◌≡◌ {A = Result (Unit {0}) LogFault} (Err e) (Err f) → e ≡ f
      same is = cc is

  module _ (laws : AreLaws) (reclaim : ℕ) (between after : Lanes) (result : Result T LogFault) (ready : IsReady l before) where
    moments : (mark : Option Record) (cut : Option ℕ) → Appends {T = Unit {0}} l mark before between (Ok tt) → Cuts (appended_if mark l) cut reclaim between after result → l.broken ≡ false
        → (a b : List ℕ) → LeftPair before after a b → ReadsAs l.state a b ⊎ (ReadsAs (state_if mark l.state) a b ⊎ ReadsAs (cut_state cut (state_if mark l.state)) a b)
    moments None None k c whole a b left =
        uncut laws l l.state l.size refl before between after result whole (ready whole) (k.any_moment whole) (k.head whole) k.aside None (c.none refl) a b left
    moments None (Some tick) k c whole a b left =
        by_way l reclaim
        (λ no. recorded laws l l.state l.size refl before between after result whole (ready whole) (k.any_moment whole) (k.head whole) k.aside tick (c.recorded tick refl no) a b left)
        (λ yes. reclaimed laws l l.state l.size refl before between after result whole (ready whole) (k.any_moment whole) (k.head whole) k.aside tick (c.reclaimed tick refl yes) a b left)
    moments (Some r) None k c whole a b left =
        uncut laws l (after_record l.state r) (l.size + 1 + record_size r) refl before between after result whole (ready whole) (k.any_moment whole) (k.head whole) k.aside None (c.none refl) a b left
    moments (Some r) (Some tick) k c whole a b left =
        by_way (appended r l) reclaim
        (λ no. recorded laws l (after_record l.state r) (l.size + 1 + record_size r) refl before between after result whole (ready whole) (k.any_moment whole) (k.head whole) k.aside tick (c.recorded tick refl no) a b left)
        (λ yes. reclaimed laws l (after_record l.state r) (l.size + 1 + record_size r) refl before between after result whole (ready whole) (k.any_moment whole) (k.head whole) k.aside tick (c.reclaimed tick refl yes) a b left)

    -- where it came through, the cut goes on from there
    pub wakes_on : (mark : Option Record) (cut : Option ℕ) → Appends {T = Unit {0}} l mark before between (Ok tt) → Cuts (appended_if mark l) cut reclaim between after result → Wakes l mark cut reclaim before after result
    wakes_on mark cut k c = record {
      between = between;
      answer = Ok tt;
      one = k;
      stops = λ f is. cc is;
      two = c;
      any_moment = moments mark cut k c;
    }

-- A host's wake, once its mark came through

module _ (net : Net) (p b now : ℕ) (v v1 : View) (l l1 : LogView) where
  abbrev marked : Option Record
  marked = quiet_logs (said l) now net.quiet

  abbrev after_mark : Outcome
  after_mark = marking net p b now v (said l)

  abbrev to_cut : Option ℕ
  to_cut = tick_cut net p b after_mark.view after_mark.log

  module _ (log_is : l1 ≡ appended_if marked l) (view_is : v1 ≡ after_mark.view) where
    log_after : said l1 ≡ after_mark.log
    log_after = ap said log_is ∙ marking_log_is net p b now v l

    cut_is : tick_cut net p b v1 (said l1) ≡ to_cut
    cut_is = ap₂ (tick_cut net p b) view_is log_after

    same_broken : l1.broken ≡ l.broken
    same_broken = ap (λ (x : LogView). x.broken) log_is ∙ noted_broken marked l

    pub same_lane : l1.lane ≡ l.lane
    same_lane = ap (λ (x : LogView). x.lane) log_is ∙ noted_lane marked l

    -- the lanes
    pub second_lanes : {T : Type 0} (between after : ℕ → Lane) (answer : Result T LogFault) → Cuts l1 (tick_cut net p b v1 (said l1)) net.reclaim (lanes_at between l1.lane) (lanes_at after l1.lane) answer →
        Cuts (appended_if marked l) to_cut net.reclaim (lanes_at between l.lane) (lanes_at after l.lane) answer
    second_lanes between after answer a =
        subst (λ r. Cuts (appended_if marked l) r net.reclaim (lanes_at between l.lane) (lanes_at after l.lane) answer) cut_is
        (subst (λ (x : LogView). Cuts x (tick_cut net p b v1 (said l1)) net.reclaim (lanes_at between l.lane) (lanes_at after l.lane) answer) log_is
        (subst (λ (n : ℕ). Cuts l1 (tick_cut net p b v1 (said l1)) net.reclaim (lanes_at between n) (lanes_at after n) answer) same_lane a))

    -- what is kept
    abbrev Left : {T : Type 0} → LogView → Result T LogFault → Type 0
    Left l2 result = WakeLeaves (host_with v l) (host_with after_mark.view (appended_if marked l)) (host_with after_mark.view (cut_if to_cut net.reclaim (appended_if marked l)))
        (host_with v (failed l)) (host_with after_mark.view (failed (appended_if marked l))) (host_with v1 l2) result

    pub second_ok : {T : Type 0} (l2 : LogView) (told : T) → Leaves l1 (cut_if (tick_cut net p b v1 (said l1)) net.reclaim l1) (failed l1) l2 (Ok (tt {0})) → Left l2 (Ok told)
    second_ok l2 told k = record {
      ok = ap₂ host_with view_is (k.ok ∙ ap₂ (λ (c : Option ℕ) (x : LogView). cut_if c net.reclaim x) cut_is log_is);
      memory = λ e. absurd (cc e);
      failed = λ e. absurd (cc e);
      closed = λ e. absurd (cc e);
      never_damaged = λ at e. cc e;
    }

    -- where nothing was marked all is as before
    unmarked : (IsSome marked → ⊥) → host_with v1 l1 ≡ host_with v l
    unmarked none = ap₂ host_with (view_is ∙ still (quieted (said l) now net.quiet) refl none) (log_is ∙ same marked none)
      where
        same : (r : Option Record) → (IsSome r → ⊥) → appended_if r l ≡ l
        same None n = refl
        same (Some r) n = absurd (n refl)

        still : (q : Quieted) → quieted (said l) now net.quiet ≡ q → (IsSome (mark_of q) → ⊥) → after_mark.view ≡ v
        still (quiets.Marked tick fresh) e n = absurd (n refl)
        still quiets.NotYet e n = ap (λ (o : Outcome). o.view) (marking_is net p b now v (said l) quiets.NotYet e)

    pub second_err : {T : Type 0} (l2 : LogView) (e : LogFault) → Leaves {T = Unit {0}} l1 (cut_if (tick_cut net p b v1 (said l1)) net.reclaim l1) (failed l1) l2 (Err e) → (IsErrOf {T = Unit {0}} {E = LogFault} (Err e) fault.Reopen → IsSome marked → ⊥) → Left {T = T} l2 (Err e)
    second_err {T} l2 e k none = record {
      ok = tt;
      memory = λ h. inr (ap₂ host_with view_is (k.memory (same_fault {T = T} e fault.Memory h) ∙ log_is));
      failed = λ h. inr (ap₂ host_with view_is (k.failed (same_fault {T = T} e fault.Disk h) ∙ ap failed log_is));
      closed = λ h. ap (host_with v1) (k.closed (same_fault {T = T} e fault.Reopen h)) ∙ unmarked (none (same_fault {T = T} e fault.Reopen h));
      never_damaged = λ at h. k.never_damaged at (same_fault {T = T} e (fault.Damaged at) h);
    }

    -- what is told
    pub second_told : (mark : Option ℕ) (told0 told1 told2 : Told) → 1 ≤ net.quiet → mark ≡ tick_marked (quieted (said l) now net.quiet) → told0.reports ≡ [] → told0.frames.frames ≡ [] →
        Adds after_mark.lines after_mark.frames told0 told1 → told2.reports ≡ mark_lines p mark ++ cut_lines p net.reclaim (tick_cut net p b v1 (said l1)) (said l1) ++ told1.reports →
        AddsFrames (expected_frames p b l1.state.settled (net.children p b) v1.wants) told1.frames told2.frames → Tells (wake_host net p b now v (said l)) told2
    second_told mark told0 told1 told2 quiet is none nothing first lines frames =
        let sent = adds_after after_mark.frames expected told0.frames told1.frames told2.frames first.frames there in
        let added : told2.frames.frames ≡ map frame_bytes (after_mark.frames ++ expected) = sent.added ∙ ap (λ fs. fs ++ map frame_bytes (after_mark.frames ++ expected)) nothing in
        subst (λ o. Tells o told2) (sym (host_woken net p b now v (said l) quiet)) (record {
          lines = lines ∙ ap (λ ls. mark_lines p mark ++ cut_lines p net.reclaim (tick_cut net p b v1 (said l1)) (said l1) ++ ls) (first.lines ∙ ap (λ ls. ls ++ after_mark.lines) none)
              ∙ ap₂ (λ x (y : Log). mark_lines p x ++ cut_lines p net.reclaim (tick_cut net p b v1 (said l1)) y ++ after_mark.lines) is log_after
              ∙ ap (λ (y : Option ℕ). mark_lines p (tick_marked (quieted (said l) now net.quiet)) ++ cut_lines p net.reclaim y after_mark.log ++ after_mark.lines) cut_is;
          frames = added;
          spelled = subst (λ bs. AreFrames bs (after_mark.frames ++ expected)) (sym added) sent.spelled;
        })
      where
        expected : List Frame
        expected = expected_frames p b after_mark.log.settled (net.children p b) after_mark.view.wants

        there : AddsFrames expected told1.frames told2.frames
        there = subst (λ fs. AddsFrames fs told1.frames told2.frames) (ap₂ (λ (x : Log) (y : View). expected_frames p b x.settled (net.children p b) y.wants) log_after view_is) frames

    -- the log then
    pub second_log : 1 ≤ net.quiet → JoinsRise 0 l.state.joins → Apart l.state.events l.state.joins → said (cut_if to_cut net.reclaim (appended_if marked l)) ≡ (wake_host net p b now v (said l)).log
    second_log quiet rise apart =
        cutting_log_is net p b after_mark.view (appended_if marked l) after_mark.log
        (marked_rise l (quieted (said l) now net.quiet) rise) (marked_apart l (quieted (said l) now net.quiet) apart) (marking_log_is net p b now v l)
        ∙ sym (ap (λ (o : Outcome). o.log) (host_woken net p b now v (said l) quiet))

    -- when a broken log is appended to
    pub second_reopens : {T U : Type 0} (answer : Result T LogFault) (result : Result U LogFault) → (IsErrOf answer fault.Reopen ↔ ((l1.broken ≡ true) × IsSome (tick_cut net p b v1 (said l1)))) → (IsErrOf answer fault.Reopen ↔ IsErrOf result fault.Reopen) →
        ((l.broken ≡ true) × IsSome marked → ⊥) → IsErrOf result fault.Reopen ↔ ((l.broken ≡ true) × (IsSome marked ⊎ IsSome to_cut))
    second_reopens answer result closed same none = (
      λ h. let c = closed.0 (same.1 h) in (sym same_broken ∙ c.0, inr (subst IsSome cut_is c.1)),
      λ h. ⊎_elim (λ m. absurd (none (h.0, m))) (λ c. same.0 (closed.1 (same_broken ∙ h.0, subst IsSome (sym cut_is) c))) h.1,
    )

-- where the mark did not come through
module _ {T U : Type 0} {C : Type 0} (e : LogFault) (broken : Bool) (mark : Option Record) (cut : Option C) where
  pub first_reopens : (IsErrOf {T = T} {E = LogFault} (Err e) fault.Reopen ↔ ((broken ≡ true) × IsSome mark)) → IsSome mark → IsErrOf {T = U} {E = LogFault} (Err e) fault.Reopen ↔ ((broken ≡ true) × (IsSome mark ⊎ IsSome cut))
  first_reopens closed wants = (
    λ h. let c = closed.0 (same_fault {T = U} e fault.Reopen h) in (c.0, inl c.1),
    λ h. same_fault {T = T} e fault.Reopen (closed.1 (h.0, wants)),
  )
