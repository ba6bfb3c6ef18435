-- What each way out of a reclaiming has done to two lanes
use Rattle.std.proofs.Common.{◌≡◌, ◌⊎◌, inl, inr, ⊎_elim, ℕ, suc, ◌+◌, ◌≤◌, Bool, true, false, not, if◌then◌else◌, List, [], ◌∷◌, ◌++◌, length, Result, Ok, Err, refl, ap, sym, ◌∙◌, subst, arith, append_assoc, length-append}
use Rattle.std.specs.Int.{to_be_bytes, w16, w64}
use Rattle.std.proofs.lemmas.Bool.{false≢true}
use Rattle.gr_out.specs.Lane.{Lane, content, moment, LeftSince, LeavesOnly}
use Rattle.gr_publog.specs.declared.record.Record.{Record}
use Rattle.gr_publog.specs.declared.record.Record.TheVariants.{Cut}
use Rattle.gr_publog.specs.declared.record.Base.{Base}
use Rattle.gr_publog.specs.declared.record.LogFault.{LogFault}
use Rattle.gr_publog.specs.declared.record.LogFault.TheVariants as fault
use Rattle.gr_publog.specs.declared.steps.Aside.TheVariants.{Opened}
use Rattle.gr_publog.specs.declared.head.Standing.TheVariants.{New}
use Rattle.gr_publog.specs.State.{LogState, empty_state, after_record, state_from, IsState, max_tick}
use Rattle.gr_publog.specs.Text.{joins_bytes, base_bytes, blocks, front_of, begun, IsText, standing_of}
use Rattle.gr_publog.specs.Lanes.{state_text}
use Rattle.gr_publog.specs.Rewrite.{IsBeside, Outcome, filled, Reclaiming, ShutIs, TwoAre, LowerIs}
use Rattle.gr_publog.specs.Filled.{base_of, records_of, body_of, filled_size}
use Rattle.gr_publog.specs.Steps.{Refills}
use Rattle.gr_publog.specs.Views.{LogView, Lanes, reclaimed, present, other, LeftPair, ReadsAs, IsAside, Stands, IsReady}
use Rattle.gr_publog.specs.Calls.{Reclaims}
use Rattle.gr_publog.proofs.Reading.{new_stands, new_long, new_open}
use Rattle.gr_publog.proofs.Filled.{stands_for, filled_text, size_is}
use Rattle.gr_publog.proofs.Onward.{goes_on_same}
use Rattle.gr_publog.proofs.Presence.{in_turn, text_is, beside_is, pair_reads}
use Rattle.gr_publog.proofs.Calling.{each_left, same_left, both_ok, both_same}

-- a body begins with its generation
abbrev pub rest_of : LogState → ℕ → List ℕ
rest_of s g =
    let b : Base = base_of s g in
    (to_be_bytes w64 b.last ++ (to_be_bytes w64 b.cut ++ (to_be_bytes w16 (length b.joins) ++ joins_bytes b.joins))) ++ (blocks (records_of s) ++ 0 ∷ [])

pub body_begins : (s : LogState) (g : ℕ) → body_of s g ≡ to_be_bytes w64 g ++ rest_of s g
unfolding body_of
body_begins s g =
    let b : Base = base_of s g in
    append_assoc (to_be_bytes w64 g) (to_be_bytes w64 b.last ++ (to_be_bytes w64 b.cut ++ (to_be_bytes w16 (length b.joins) ++ joins_bytes b.joins))) (blocks (records_of s) ++ 0 ∷ [])

-- what it was filled with is what a filled lane holds
pub filled_reads : (s : LogState) (g : ℕ) (before : List ℕ) → IsState s → 1 ≤ g → g ≤ max_tick → state_text s.late (New g) (filled (body_of s g) before) ≡ Ok s
filled_reads s g before i low high =
    text_is s.late (filled (body_of s g) before) (base_of s g) (records_of s) g (filled_text s g before i low high) ∙ ap (λ (x : LogState). Ok x) (stands_for s g i)

-- the images of a lane that is rewritten, beside a present one
rewritten : (late : List ℕ) (r : Reclaiming (empty_state late) (state_text late)) (second : Bool) (g : ℕ) (p o rest image : List ℕ) → 1 ≤ g → suc g ≤ max_tick → standing_of (not second) p ≡ Ok (New g) → IsBeside second g o
    → Outcome (suc g) rest o image → (in_turn late second p image ≡ state_text late (New g) p) ⊎ (in_turn late second p image ≡ state_text late (New (suc g)) (filled (to_be_bytes w64 (suc g) ++ rest) o))
rewritten late r false g p o rest image low high stands beside out = r.second_lane g p o rest image low high stands beside out
rewritten late r true g p o rest image low high stands beside out = r.first_lane g o p rest image low high stands beside out

-- the lane that was not present is present
flipped : (second : Bool) (x y : Lane) → (if second then x else y) ≡ (if not second then y else x)
flipped false x y = refl
flipped true x y = refl

-- lanes by which of them is present
pub stands_at : (ls : Lanes) (l : LogView) (p o : Lane) (base : Base) (records : List Record) → p ≡ present l ls → o ≡ other l ls → IsText l.state.late (content p) base records → state_from (begun l.state.late base) records ≡ l.state
    → base.generation ≡ l.generation → length (front_of base ++ blocks records) + 1 ≡ l.size → IsAside l.aside l.second l.generation (content o) → LeavesOnly p (content p) → LeavesOnly o (content o) → Stands ls l
stands_at ls l p o base records ep eo text state generation size aside only only_aside = record {
  base = base;
  records = records;
  text = subst (λ (x : Lane). IsText l.state.late (content x) base records) ep text;
  state = state;
  generation = generation;
  size = size;
  aside = subst (λ (x : Lane). IsAside l.aside l.second l.generation (content x)) eo aside;
  only = subst (λ (x : Lane). LeavesOnly x (content x)) ep only;
  only_aside = subst (λ (x : Lane). LeavesOnly x (content x)) eo only_aside;
}

-- how long the text is that a lane is filled with
pub text_size : (s : LogState) (g : ℕ) → length (front_of (base_of s g) ++ blocks (records_of s)) + 1 ≡ filled_size s
unfolding body_of
text_size s g =
    omega (arith, size_is s g, length-append (base_bytes (base_of s g)) (blocks (records_of s) ++ 0 ∷ []), length-append (blocks (records_of s)) (0 ∷ []), length-append (front_of (base_of s g)) (blocks (records_of s)))

-- What is known where the other lane of a log that is not broken was filled anew, or begun to be.
pub record IsRefilled {T : Type 0} (l : LogView) (tick : ℕ) (before after : Lanes) (result : Result T LogFault) : Type 0 where
  pub shut_is : ShutIs
  pub two : TwoAre
  pub lower : LowerIs
  pub reclaims : Reclaiming (empty_state l.state.late) (state_text l.state.late)
  pub stands : Stands before l
  pub kept : present l after ≡ present l before
  pub low : 1 ≤ l.generation
  pub high : suc l.generation ≤ max_tick
  pub state : IsState (after_record l.state (Cut tick))
  pub refills : Refills l.aside (body_of (after_record l.state (Cut tick)) (suc l.generation)) (other l before) (other l after) result

module _ {T : Type 0} (l : LogView) (tick : ℕ) (before after : Lanes) (result : Result T LogFault) (a : IsRefilled l tick before after result) where
  abbrev s : Stands before l
  s = a.stands

  abbrev state : LogState
  state = after_record l.state (Cut tick)

  abbrev body : List ℕ
  body = body_of state (suc l.generation)

  abbrev p : List ℕ
  p = content (present l before)

  abbrev o : List ℕ
  o = content (other l before)

  new_text : IsText l.state.late (filled body o) (base_of state (suc l.generation)) (records_of state)
  new_text = filled_text state (suc l.generation) o a.state (omega arith) a.high

  stands_new : (first : Bool) → standing_of first p ≡ Ok (New l.generation)
  stands_new first = new_stands l.state.late p s.base s.records s.text first ∙ ap (λ (g : ℕ). Ok (New g)) s.generation

  present_reads : state_text l.state.late (New l.generation) p ≡ Ok l.state
  present_reads = text_is l.state.late p s.base s.records l.generation s.text ∙ ap (λ (x : LogState). Ok x) s.state

  -- an image of the other lane
  outcome : (image : List ℕ) → LeftSince (other l after) (moment (other l before)) image → Outcome (suc l.generation) (rest_of state (suc l.generation)) o image
  outcome image left = elim (a.refills.any_moment image left) [
    | inl e ↦ inl e
    | inr (inl h) ↦ inr (inl h)
    | inr (inr e) ↦ inr (inr (e ∙ ap (λ (b : List ℕ). filled b o) (body_begins state (suc l.generation))))
  ]

  moments : (x y : List ℕ) → LeftPair before after x y → ReadsAs l.state x y ⊎ ReadsAs state x y
  moments x y =
      each_left (λ (x y : List ℕ). ReadsAs l.state x y ⊎ ReadsAs state x y) l.second before after x y
      (λ image beside left other_left.
      let at : image ≡ p = s.only image (same_left (present l before) (present l after) image a.kept left) in
      let turned = ap (λ (z : List ℕ). in_turn l.state.late l.second z beside) at in
      ⊎_elim
      (λ e. inl (turned ∙ (e ∙ present_reads)))
      (λ e. inr (turned ∙ (e ∙ (ap (λ (c : List ℕ). state_text l.state.late (New (suc l.generation)) (filled c o)) (sym (body_begins state (suc l.generation))) ∙ filled_reads state (suc l.generation) o a.state (omega arith) a.high))))
      (rewritten l.state.late a.reclaims l.second l.generation p o (rest_of state (suc l.generation)) beside a.low a.high (stands_new (not l.second)) (beside_is l.aside l.second l.generation o s.aside) (outcome beside other_left)))

  stands_filled : content (other l after) ≡ filled body o → LeavesOnly (other l after) (content (other l after)) → Stands after (reclaimed tick l)
  stands_filled written only =
      let old : IsAside Opened (not l.second) (suc l.generation) (content (present l after)) =
      subst (λ (x : Lane). IsAside Opened (not l.second) (suc l.generation) (content x)) (sym a.kept) (new_long l.state.late p s.base s.records s.text, new_open l.state.late p s.base s.records s.text, inr (l.generation, omega arith, stands_new (not l.second))) in
      stands_at after (reclaimed tick l) (other l after) (present l after) (base_of state (suc l.generation)) (records_of state)
      (flipped l.second after.first after.second) (flipped l.second after.second after.first)
      (subst (λ (c : List ℕ). IsText l.state.late c (base_of state (suc l.generation)) (records_of state)) (sym written) new_text) (stands_for state (suc l.generation) a.state) refl (text_size state (suc l.generation)) old only
      (subst (λ (x : Lane). LeavesOnly x (content x)) (sym a.kept) s.only)

  pub reclaims_of : Reclaims l tick before after result
  reclaims_of = record {
    stands = λ b. both_ok result stands_filled a.refills.written a.refills.only;
    calls = a.refills.calls;
    kept = a.kept;
    on = a.refills.on;
    any_moment = λ b. moments;
    untouched = λ h. both_same l before after a.kept (a.refills.untouched h);
    few = a.refills.few;
    reserved = a.refills.reserved;
    unset = a.refills.unset;
  }

-- Where no call was made

module _ {T : Type 0} (l : LogView) (tick : ℕ) (before after : Lanes) (e : after ≡ before) where
  pub reclaims_closed : l.broken ≡ true → Reclaims {T = T} l tick before after (Err fault.Reopen)
  reclaims_closed broken = record {
    stands = λ b. tt;
    calls = tt;
    kept = ap (present l) e;
    on = goes_on_same (other l before) (other l after) (ap (other l) e);
    any_moment = λ b. absurd (false≢true (sym b ∙ broken));
    untouched = λ h. absurd (cc h);
    few = λ h. absurd (cc h);
    reserved = λ h. ap (λ (x : Lanes). (other l x).reserved) e ∙ h;
    unset = λ h. ap (λ (x : Lanes). (other l x).stop) e ∙ h;
  }

  pub reclaims_refused : ShutIs → TwoAre → LowerIs → IsReady l before → Reclaims {T = T} l tick before after (Err fault.Memory)
  reclaims_refused shut_is two lower ready = record {
    stands = λ b. tt;
    calls = tt;
    kept = ap (present l) e;
    on = goes_on_same (other l before) (other l after) (ap (other l) e);
    any_moment = λ b x y left. inl (each_left (λ (x y : List ℕ). ReadsAs l.state x y) l.second before after x y
        (λ image beside p o. pair_reads shut_is two lower before l image beside (ready b)
        (same_left (present l before) (present l after) image (ap (present l) e) p) (same_left (other l before) (other l after) beside (ap (other l) e) o)) left);
    untouched = λ h. e;
    few = λ h. absurd (cc h);
    reserved = λ h. ap (λ (x : Lanes). (other l x).reserved) e ∙ h;
    unset = λ h. ap (λ (x : Lanes). (other l x).stop) e ∙ h;
  }
