-- The image that a crash picks after a stop within an append.
use Rattle.std.proofs.Common.{◌≡◌, ℕ, ◌+◌, ◌*◌, ◌-◌, ◌%◌, ◌<◌, ◌≤◌, Bool, true, false, nat_eq, nat_le, if◌then◌else◌, List, [], ◌∷◌, ◌++◌, length, take, drop, get_or, replicate, refl, ap, sym, ◌∙◌, subst, arith, append_assoc, length-append, length-take}
use Rattle.std.proofs.lemmas.Bool.{leb-true, leb-false}
use Rattle.std.proofs.lemmas.List.{take_at, drop_at, drop_more, take-append-drop, replicate-append-replicate, length-replicate}
use Rattle.gr_out.specs.declared.disk.Stop.{Stop}
use Rattle.gr_out.specs.declared.disk.Stop.TheVariants.{Unset, After, Stopped}
use Rattle.gr_out.specs.declared.disk.Fate.{Fate}
use Rattle.gr_out.specs.declared.disk.Fate.TheVariants.{Done, Broken}
use Rattle.gr_out.specs.Lane.{Lane, Call, Write, Sync, content, read_after, picked_after, crash_image, over, garbled, Torn, LeftAfter, LeavesOnly, is_due, has_stopped, one_later, fate_of, with_call, with_broken, after_call}
use Rattle.gr_out.proofs.Images.{one_garbled, image_left}
use Rattle.gr_publog.specs.Crash.{behind_gate}
use Rattle.gr_publog.proofs.Moments.{length-over}
use Rattle.gr_publog.specs.Crash.{Broke, picked_gate, StoppedImage}

-- How the stop goes on

due_stops : (s : Stop) → is_due s ≡ true → has_stopped (one_later s) ≡ true
due_stops Unset h = absurd (cc h)
due_stops (After n pick) h = rw h refl
due_stops (Stopped pick) h = refl

-- a call that the stop breaks leaves the lane stopped
pub now_stopped : (l l' : Lane) (c : Call) (f : Bool) → l' ≡ after_call c f l → is_due l.stop ≡ true → has_stopped l'.stop ≡ true
now_stopped l l' c f is due = ap (λ (x : Lane). has_stopped x.stop) is ∙ due_stops l.stop due

pub still_unset : (l l' : Lane) (c : Call) (f : Bool) → l' ≡ after_call c f l → l.stop ≡ Unset → l'.stop ≡ Unset
still_unset l l' c f is unset = ap (λ (x : Lane). x.stop) is ∙ ap one_later unset

module _ (l l' : Lane) (c : Call) (call pick : ℕ) (ordered : l.stop ≡ After call pick) where
  -- a call that comes through is not the one
  pub not_yet : is_due l.stop ≡ false → 2 ≤ call
  not_yet due = omega (arith, leb-false call 1 (sym (ap is_due ordered) ∙ due))

  pub one_less : l' ≡ after_call c false l → is_due l.stop ≡ false → l'.stop ≡ After (call - 1) pick
  one_less is due =
      let later : nat_le call 1 ≡ false = sym (ap is_due ordered) ∙ due in
      ap (λ (x : Lane). x.stop) is ∙ ap one_later ordered ∙ ap (λ (b : Bool). if b then Stopped pick else After (call - 1) pick) later

  -- one that is broken is
  was_due : (f : Bool) → l' ≡ after_call c f l → has_stopped l'.stop ≡ true → nat_le call 1 ≡ true
  was_due f is stopped = by_test (nat_le call 1) refl
    where
      by_test : (b : Bool) → nat_le call 1 ≡ b → nat_le call 1 ≡ true
      by_test true e = e
      by_test false e =
          let now : l'.stop ≡ After (call - 1) pick =
          ap (λ (x : Lane). x.stop) is ∙ ap one_later ordered ∙ ap (λ (b : Bool). if b then Stopped pick else After (call - 1) pick) e in
          absurd (let no_stop : false ≡ true = sym (ap has_stopped now) ∙ stopped in cc no_stop)

  pub is_this : (f : Bool) → l' ≡ after_call c f l → has_stopped l'.stop ≡ true → call ≤ 1
  is_this f is stopped = leb-true call 1 (was_due f is stopped)

  pub stops_here : (f : Bool) → l' ≡ after_call c f l → has_stopped l'.stop ≡ true → l'.stop ≡ Stopped pick
  stops_here f is stopped =
      ap (λ (x : Lane). x.stop) is ∙ ap one_later ordered ∙ ap (λ (b : Bool). if b then Stopped pick else After (call - 1) pick) (was_due f is stopped)

  pub broken_calls : (f : Bool) → l' ≡ after_call c f l → has_stopped l'.stop ≡ true → l'.calls ≡ with_broken c l.calls
  broken_calls f is stopped =
      ap (λ (x : Lane). x.calls) is ∙ ap (λ (s : Stop). with_call (fate_of f s) c l.calls) ordered
      ∙ ap (λ (b : Bool). with_call (if b then Broken else fate_of f Unset) c l.calls) (was_due f is stopped)

-- a call that came through was carried out
carried : (stop : Stop) → is_due stop ≡ false → fate_of false stop ≡ Done
carried Unset h = refl
carried (After n pick) h = rw h refl
carried (Stopped pick) h = absurd (cc h)

pub done_calls : (l l' : Lane) (c : Call) → l' ≡ after_call c false l → is_due l.stop ≡ false → l'.calls ≡ c ∷ l.calls
done_calls l l' c is due = ap (λ (x : Lane). x.calls) is ∙ ap (λ (f : Fate). with_call f c l.calls) (carried l.stop due)

-- What is picked

image_stopped : (l : Lane) (pick : ℕ) (s : Stop) → s ≡ Stopped pick → ◌≡◌ {A = List ℕ} (elim s [ Stopped p ↦ picked_after p l.start l.calls | _ ↦ content l ]) (picked_after pick l.start l.calls)
image_stopped l pick s e = ap (λ (x : Stop). elim x as (λ _. List ℕ) [ Stopped p ↦ picked_after p l.start l.calls | _ ↦ content l ]) e

-- over one place
over_one : {A : Type 0} (front back : List A) (x y : A) (n : ℕ) → length front ≡ n → over n (y ∷ []) (front ++ x ∷ back) ≡ front ++ y ∷ back
over_one front back x y n h =
    let ahead : length (front ++ x ∷ []) ≡ n + 1 = omega (arith, h, length-append front (x ∷ [])) in
    ap (λ l. l ++ y ∷ drop (n + 1) (front ++ x ∷ back)) (take_at front (x ∷ back) n h)
    ∙ ap (λ l. front ++ y ∷ l) (ap (drop (n + 1)) (sym (append_assoc front (x ∷ []) back)) ∙ drop_at (front ++ x ∷ []) back (n + 1) ahead)

module _ (gate pick x : ℕ) (front back old : List ℕ) (split : old ≡ front ++ x ∷ back) (place : length front ≡ gate) where
  opened_split : (y : ℕ) → over gate (y ∷ []) old ≡ front ++ y ∷ back
  opened_split y = ap (over gate (y ∷ [])) split ∙ over_one front back x y gate place

  fresh_split : replicate (length old) false ≡ replicate (length front) false ++ false ∷ replicate (length back) false
  fresh_split =
      ap (λ (n : ℕ). replicate n false) (ap length split ∙ length-append front (x ∷ back)) ∙ sym (replicate-append-replicate (length front) (length (x ∷ back)) false)

  fresh_opened : over gate (true ∷ []) (replicate (length old) false) ≡ replicate (length front) false ++ true ∷ replicate (length back) false
  fresh_opened =
      ap (over gate (true ∷ [])) fresh_split ∙ over_one (replicate (length front) false) (replicate (length back) false) false true gate (length-replicate (length front) false ∙ place)

  garbled_gate : garbled pick 0 (over gate (true ∷ []) (replicate (length old) false)) (over gate (1 ∷ []) old) ≡ over gate ((gate * pick) % 256 ∷ []) old
  garbled_gate =
      ap (λ (fs : List Bool). garbled pick 0 fs (over gate (1 ∷ []) old)) fresh_opened
      ∙ ap (λ (bs : List ℕ). garbled pick 0 (replicate (length front) false ++ true ∷ replicate (length back) false) bs) (opened_split 1)
      ∙ one_garbled pick 0 front back 1
      ∙ ap (λ (n : ℕ). front ++ (n * pick) % 256 ∷ back) (omega (arith, place))
      ∙ sym (opened_split ((gate * pick) % 256))

split_at : (gate : ℕ) (old : List ℕ) → gate < length old → old ≡ take gate old ++ get_or old gate 0 ∷ drop (gate + 1) old
split_at gate old h = sym (take-append-drop gate old) ∙ ap (λ (l : List ℕ). take gate old ++ l) (drop_more old gate 0 h)

picked_open : (start : List ℕ) (calls : List Call) (gate pick : ℕ) → gate < length (read_after start calls)
    → picked_after pick start (Write gate (1 ∷ []) ∷ (Sync ∷ calls)) ≡ picked_gate pick gate (read_after start calls)
picked_open start calls gate pick h =
    let old = read_after start calls in
    ap (λ (l : List ℕ). if nat_eq pick 0 then old else (if nat_eq pick 1 then over gate (1 ∷ []) old else l))
    (garbled_gate gate pick (get_or old gate 0) (take gate old) (drop (gate + 1) old) old (split_at gate old h) (omega (arith, h, length-take gate old)))

-- where the gate was written, and the lane not synced since
pub at_gate : (l l' : Lane) (gate pick : ℕ) → l'.start ≡ l.start → l'.calls ≡ Write gate (1 ∷ []) ∷ (Sync ∷ l.calls) → l'.stop ≡ Stopped pick → gate < length (content l)
    → crash_image l' ≡ picked_gate pick gate (content l)
at_gate l l' gate pick start calls stop h =
    image_stopped l' pick l'.stop stop ∙ ap (λ (s : List ℕ). picked_after pick s l'.calls) start ∙ ap (picked_after pick l.start) calls ∙ picked_open l.start l.calls gate pick h

-- where the record was written, and the lane not synced since
pub at_record : (l l' : Lane) (at : ℕ) (bytes : List ℕ) → l'.start ≡ l.start → l'.calls ≡ Write at bytes ∷ l.calls → LeavesOnly l (content l)
    → Torn at (length bytes) (content l) (crash_image l')
at_record l l' at bytes start calls only =
    let left : LeftAfter l'.start l'.calls (crash_image l') = image_left l' in
    let torn : (old : List ℕ) × LeftAfter l.start l.calls old × Torn at (length bytes) old (crash_image l') =
    subst (λ (cs : List Call). LeftAfter l.start cs (crash_image l')) calls (subst (λ (s : List ℕ). LeftAfter s l'.calls (crash_image l')) start left) in
    subst (λ (x : List ℕ). Torn at (length bytes) x (crash_image l')) (only torn.0 torn.1) torn.2

-- Call by call

module _ (l : Lane) (gate : ℕ) (bytes : List ℕ) (within : gate < length (content l)) (only : LeavesOnly l (content l)) (call pick : ℕ) where
  abbrev before : List ℕ
  before = content l

  abbrev first : Call
  first = Write (gate + 1) bytes

  abbrev third : Call
  third = Write gate (1 ∷ [])

  staged_inside : (l1 : Lane) → content l1 ≡ behind_gate gate bytes before → gate < length (content l1)
  staged_inside l1 c1 = omega (arith, within, ap length c1, length-over (gate + 1) bytes before)

  -- it broke the first write
  pub first_broke : (l1 : Lane) (f : Bool) → l1 ≡ after_call first f l → Broke l l1 call pick → StoppedImage gate bytes before call pick (crash_image l1)
  first_broke l1 f is b =
      let one : call ≤ 1 = is_this l l1 first call pick b.ordered f is b.stopped in
      record {
        early = λ _. at_record l l1 (gate + 1) bytes (ap (λ (x : Lane). x.start) is) (broken_calls l l1 first call pick b.ordered f is b.stopped) only;
        late = λ h. absurd (omega (arith, one, h));
      }

  -- or the sync behind it
  pub second_broke : (l1 l2 : Lane) (f : Bool) → l1 ≡ after_call first false l → is_due l.stop ≡ false → l2 ≡ after_call Sync f l1 → Broke l l2 call pick
      → StoppedImage gate bytes before call pick (crash_image l2)
  second_broke l1 l2 f is1 due1 is2 b =
      let ordered1 = one_less l l1 first call pick b.ordered is1 due1 in
      let two : call - 1 ≤ 1 = is_this l1 l2 Sync (call - 1) pick ordered1 f is2 b.stopped in
      record {
        early = λ _. at_record l l2 (gate + 1) bytes (ap (λ (x : Lane). x.start) is2 ∙ ap (λ (x : Lane). x.start) is1)
            (broken_calls l1 l2 Sync (call - 1) pick ordered1 f is2 b.stopped ∙ done_calls l l1 first is1 due1) only;
        late = λ h. absurd (omega (arith, two, h));
      }

  -- or the gate's write
  pub third_broke : (l1 l2 l3 : Lane) (f : Bool) → l1 ≡ after_call first false l → is_due l.stop ≡ false → content l1 ≡ behind_gate gate bytes before → l2 ≡ after_call Sync false l1
      → is_due l1.stop ≡ false → l3 ≡ after_call third f l2 → Broke l l3 call pick → StoppedImage gate bytes before call pick (crash_image l3)
  third_broke l1 l2 l3 f is1 due1 c1 is2 due2 is3 b =
      let ordered1 = one_less l l1 first call pick b.ordered is1 due1 in
      let ordered2 = one_less l1 l2 Sync (call - 1) pick ordered1 is2 due2 in
      let more : 2 ≤ call - 1 = not_yet l1 l2 Sync (call - 1) pick ordered1 due2 in
      record {
        early = λ h. absurd (omega (arith, more, h));
        late = λ _. at_gate l1 l3 gate pick (ap (λ (x : Lane). x.start) is3 ∙ ap (λ (x : Lane). x.start) is2)
            (broken_calls l2 l3 third (call - 1 - 1) pick ordered2 f is3 b.stopped ∙ ap (λ (cs : List Call). third ∷ cs) (done_calls l1 l2 Sync is2 due2))
            (stops_here l2 l3 third (call - 1 - 1) pick ordered2 f is3 b.stopped) (staged_inside l1 c1)
            ∙ ap (picked_gate pick gate) c1;
      }

  -- or the last sync
  pub fourth_broke : (l1 l2 l3 l4 : Lane) (f : Bool) → l1 ≡ after_call first false l → is_due l.stop ≡ false → content l1 ≡ behind_gate gate bytes before → l2 ≡ after_call Sync false l1
      → is_due l1.stop ≡ false → l3 ≡ after_call third false l2 → is_due l2.stop ≡ false → l4 ≡ after_call Sync f l3 → Broke l l4 call pick
      → StoppedImage gate bytes before call pick (crash_image l4)
  fourth_broke l1 l2 l3 l4 f is1 due1 c1 is2 due2 is3 due3 is4 b =
      let ordered1 = one_less l l1 first call pick b.ordered is1 due1 in
      let ordered2 = one_less l1 l2 Sync (call - 1) pick ordered1 is2 due2 in
      let ordered3 = one_less l2 l3 third (call - 1 - 1) pick ordered2 is3 due3 in
      let more : 2 ≤ call - 1 = not_yet l1 l2 Sync (call - 1) pick ordered1 due2 in
      record {
        early = λ h. absurd (omega (arith, more, h));
        late = λ _. at_gate l1 l4 gate pick (ap (λ (x : Lane). x.start) is4 ∙ ap (λ (x : Lane). x.start) is3 ∙ ap (λ (x : Lane). x.start) is2)
            (broken_calls l3 l4 Sync (call - 1 - 1 - 1) pick ordered3 f is4 b.stopped ∙ done_calls l2 l3 third is3 due3 ∙ ap (λ (cs : List Call). third ∷ cs) (done_calls l1 l2 Sync is2 due2))
            (stops_here l3 l4 Sync (call - 1 - 1 - 1) pick ordered3 f is4 b.stopped) (staged_inside l1 c1)
            ∙ ap (picked_gate pick gate) c1;
      }

  -- after four calls that came through, a stop at one of them was not ordered
  pub not_ordered : (l1 l2 l3 l4 : Lane) → l.stop ≡ After call pick → l1 ≡ after_call first false l → is_due l.stop ≡ false → l2 ≡ after_call Sync false l1
      → is_due l1.stop ≡ false → l3 ≡ after_call third false l2 → is_due l2.stop ≡ false → l4 ≡ after_call Sync false l3 → is_due l3.stop ≡ false
      → (5 ≤ call) × (l4.stop ≡ After (call - 1 - 1 - 1 - 1) pick)
  not_ordered l1 l2 l3 l4 ordered is1 due1 is2 due2 is3 due3 is4 due4 =
      let ordered1 = one_less l l1 first call pick ordered is1 due1 in
      let ordered2 = one_less l1 l2 Sync (call - 1) pick ordered1 is2 due2 in
      let ordered3 = one_less l2 l3 third (call - 1 - 1) pick ordered2 is3 due3 in
      let more : 2 ≤ call - 1 - 1 - 1 = not_yet l3 l4 Sync (call - 1 - 1 - 1) pick ordered3 due4 in
      (omega (arith, more), one_less l3 l4 Sync (call - 1 - 1 - 1) pick ordered3 is4 due4)
