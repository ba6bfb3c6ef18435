-- What a crash leaves of an append reads as before or as after, whatever the reading is
use Rattle.std.proofs.Common.{◌≡◌, ◌≢◌, ◌⊎◌, inl, inr, ⊎_elim, ℕ, zero, suc, ◌+◌, ◌*◌, ◌%◌, ◌≤◌, ◌<◌, min, Bool, true, false, nat_eq, nat_lt, nat_le, if◌then◌else◌, ◌&&◌, ◌||◌, List, [], ◌∷◌, ◌++◌, length, take, drop, get_or, refl, sym, ap, ◌∙◌, arith, length-append, take-append-drop, append_assoc}
use Rattle.std.proofs.lemmas.Bool.{cases_eq, eqb-true, eqb-false, ne_eqb, lt-ltb, leb-true, leb-false}
use Rattle.std.proofs.lemmas.List.{take_at, drop_at, drop_more}
use Rattle.gr_out.specs.Lane.{over, Torn}
use Rattle.gr_publog.specs.Text.{Closes}
use Rattle.gr_publog.specs.Crash.{is_kept, picked_gate, opened_gate, IsBetween, StoppedImage}

-- What a reading says of a lane behind this front: `before` where the gate is closed, `after` where the bytes stand behind
-- an open one.
pub record Reads {X : Type 0} (read : List ℕ → X) (front bytes : List ℕ) (before after : X) : Type 0 where
  pub closed : (g : ℕ) (tail : List ℕ) → g ≢ 1 → read (front ++ g ∷ tail) ≡ before
  pub opened : (tail : List ℕ) → read (front ++ 1 ∷ (bytes ++ tail)) ≡ after

module _ {X : Type 0} (read : List ℕ → X) (front bytes old : List ℕ) (before after : X) (h : Closes old front) (r : Reads read front bytes before after) where
  abbrev pub gate : ℕ
  gate = length front

  up_to : length (front ++ h.gate ∷ []) ≡ gate + 1
  up_to = omega (arith, length-append front (h.gate ∷ []))

  old_is : old ≡ (front ++ h.gate ∷ []) ++ h.tail
  old_is = h.whole ∙ sym (append_assoc front (h.gate ∷ []) h.tail)

  long : gate + 1 ≤ length old
  long = omega (arith, ap length old_is, length-append (front ++ h.gate ∷ []) h.tail, up_to)

  front_old : take (gate + 1) old ≡ front ++ h.gate ∷ []
  front_old = ap (take (gate + 1)) old_is ∙ take_at (front ++ h.gate ∷ []) h.tail (gate + 1) up_to

  torn_behind : (n : ℕ) (image : List ℕ) → Torn (gate + 1) n old image → read image ≡ before
  torn_behind n image torn =
      let m : min (gate + 1) (length old) ≡ gate + 1 = omega (arith, long) in
      let start : take (gate + 1) image ≡ front ++ h.gate ∷ [] = ap (λ (k : ℕ). take k image) (sym m) ∙ torn.before ∙ front_old in
      let whole : image ≡ front ++ h.gate ∷ drop (gate + 1) image =
      sym (take-append-drop (gate + 1) image) ∙ ap (λ (l : List ℕ). l ++ drop (gate + 1) image) start ∙ append_assoc front (h.gate ∷ []) (drop (gate + 1) image) in
      ap read whole ∙ r.closed h.gate (drop (gate + 1) image) h.closed

  abbrev pub behind : List ℕ
  behind = drop (gate + 1 + length bytes) old

  abbrev pub staged : List ℕ
  staged = over (gate + 1) bytes old

  staged_is : staged ≡ (front ++ h.gate ∷ []) ++ (bytes ++ behind)
  staged_is = ap (λ (l : List ℕ). l ++ (bytes ++ behind)) front_old

  staged_split : staged ≡ front ++ h.gate ∷ (bytes ++ behind)
  staged_split = staged_is ∙ append_assoc front (h.gate ∷ []) (bytes ++ behind)

  front_staged : take gate staged ≡ front
  front_staged = ap (take gate) staged_split ∙ take_at front (h.gate ∷ (bytes ++ behind)) gate refl

  back_staged : drop (gate + 1) staged ≡ bytes ++ behind
  back_staged = ap (drop (gate + 1)) staged_is ∙ drop_at (front ++ h.gate ∷ []) (bytes ++ behind) (gate + 1) up_to

  staged_long : gate + 1 ≤ length staged
  staged_long = omega (arith, ap length staged_is, length-append (front ++ h.gate ∷ []) (bytes ++ behind), up_to)

  torn_gate : (image : List ℕ) → Torn gate 1 staged image → (read image ≡ before) ⊎ (read image ≡ after)
  torn_gate image torn =
      let m : min gate (length staged) ≡ gate = omega (arith, staged_long) in
      let x = get_or image gate 0 in
      let start : take gate image ≡ front = ap (λ (k : ℕ). take k image) (sym m) ∙ torn.before ∙ front_staged in
      let back : drop gate image ≡ x ∷ (bytes ++ behind) = drop_more image gate 0 (omega (arith, torn.no_shorter, staged_long)) ∙ ap (λ (l : List ℕ). x ∷ l) (torn.after ∙ back_staged) in
      let whole : image ≡ front ++ x ∷ (bytes ++ behind) = sym (take-append-drop gate image) ∙ ap (λ (l : List ℕ). l ++ drop gate image) start ∙ ap (λ (l : List ℕ). front ++ l) back in
      ⊎_elim
      (λ e. inr (ap read (whole ∙ ap (λ (g : ℕ). front ++ g ∷ (bytes ++ behind)) e) ∙ r.opened behind))
      (λ ne. inl (ap read whole ∙ r.closed x (bytes ++ behind) ne))
      (cases_eq x 1)

  gate_reads : (x : ℕ) (image : List ℕ) → image ≡ over gate (x ∷ []) staged → read image ≡ (if nat_eq x 1 then after else before)
  gate_reads x image is = by_test (nat_eq x 1) refl
    where
      whole : image ≡ front ++ x ∷ (bytes ++ behind)
      whole = is ∙ ap (λ (l : List ℕ). l ++ x ∷ drop (gate + 1) staged) front_staged ∙ ap (λ (l : List ℕ). front ++ x ∷ l) back_staged

      by_test : (b : Bool) → nat_eq x 1 ≡ b → read image ≡ (if b then after else before)
      by_test true e = ap read (whole ∙ ap (λ (g : ℕ). front ++ g ∷ (bytes ++ behind)) (eqb-true x 1 e)) ∙ r.opened behind
      by_test false e = ap read whole ∙ r.closed x (bytes ++ behind) (eqb-false x 1 e)

  late_reads : (pick : ℕ) (image : List ℕ) → image ≡ picked_gate pick gate staged → read image ≡ (if is_kept gate 3 pick then after else before)
  late_reads zero image is = ap read (is ∙ staged_split) ∙ r.closed h.gate (bytes ++ behind) h.closed
  late_reads (suc zero) image is = gate_reads 1 image is
  late_reads (suc (suc k)) image is =
      let pick = suc (suc k) in
      let x = (gate * pick) % 256 in
      let not_zero : nat_eq pick 0 ≡ false = ne_eqb pick 0 (λ e. omega (arith, e)) in
      let not_one : nat_eq pick 1 ≡ false = ne_eqb pick 1 (λ e. omega (arith, e)) in
      let above : nat_lt 1 pick ≡ true = lt-ltb 1 pick (omega arith) in
      let garbled : image ≡ over gate (x ∷ []) staged =
      is ∙ ap (λ (b : Bool). if b then staged else (if nat_eq pick 1 then over gate (1 ∷ []) staged else over gate (x ∷ []) staged)) not_zero
      ∙ ap (λ (b : Bool). if b then over gate (1 ∷ []) staged else over gate (x ∷ []) staged) not_one in
      gate_reads x image garbled
      ∙ ap (λ (b : Bool). if b && nat_eq x 1 then after else before) (sym above)
      ∙ ap (λ (b : Bool). if b || (nat_lt 1 pick && nat_eq x 1) then after else before) (sym not_one)

  -- a stop at this call, with this pick
  pub stopped_reads : (call pick : ℕ) (image : List ℕ) → StoppedImage gate bytes old call pick image → read image ≡ (if is_kept gate call pick then after else before)
  stopped_reads call pick image s = by_call (nat_le 3 call) refl
    where
      by_call : (b : Bool) → nat_le 3 call ≡ b → read image ≡ (if is_kept gate call pick then after else before)
      by_call true e =
          late_reads pick image (s.late (leb-true 3 call e))
          ∙ ap (λ (late : Bool). if late && (nat_eq pick 1 || (nat_lt 1 pick && nat_eq ((gate * pick) % 256) 1)) then after else before) (sym e)
      by_call false e =
          torn_behind (length bytes) image (s.early (omega (arith, leb-false 3 call e)))
          ∙ ap (λ (late : Bool). if late && (nat_eq pick 1 || (nat_lt 1 pick && nat_eq ((gate * pick) % 256) 1)) then after else before) (sym e)

  -- every moment of the append
  pub between : (image : List ℕ) → IsBetween gate bytes old image → (read image ≡ before) ⊎ (read image ≡ after)
  between image b = ⊎_elim (λ torn. inl (torn_behind (length bytes) image torn)) (torn_gate image) b

  -- and once all is done
  pub appended_is : opened_gate gate staged ≡ front ++ 1 ∷ (bytes ++ behind)
  appended_is = ap (λ (l : List ℕ). l ++ 1 ∷ drop (gate + 1) staged) front_staged ∙ ap (λ (l : List ℕ). front ++ 1 ∷ l) back_staged

  pub gate_inside : gate < length old
  gate_inside = omega (arith, long)
