-- Records are read one by one: what the rest reads as is what all reads as
use Rattle.std.proofs.Common.{◌≡◌, ◌≢◌, ℕ, zero, suc, ◌+◌, ◌-◌, ◌<◌, ◌≤◌, List, [], ◌∷◌, ◌++◌, length, drop, get_or, Result, Ok, Err, refl, ap, ap₂, sym, ◌∙◌, subst, arith}
use Rattle.std.specs.Int.{w16, w64}
use Rattle.gr_event.specs.Joins.{Joins}
use Rattle.gr_publog.specs.declared.record.Record.{Record}
use Rattle.gr_publog.specs.declared.record.Entry.{Entry}
use Rattle.gr_publog.specs.declared.record.LogFault.{LogFault}
use Rattle.gr_publog.specs.declared.record.LogFault.TheVariants as fault
use Rattle.gr_publog.specs.Gives.{Fails}
use Rattle.gr_publog.specs.State.{is_new, LogState, Footing, footing, held_by, stands_after, live_after, after_record, IsState}
use Rattle.gr_publog.specs.Text.{AreBytes, number_in, may_begin, joins_in, record_in, records_in, placed}
use Rattle.gr_publog.proofs.Reading.{closed_gate}
use Rattle.gr_publog.proofs.Told.{record_told, IsRead}
use Rattle.gr_publog.proofs.Kept.{kept}

-- What is known while records are read: some gates may still be read, and what is read then is the answer.
pub record IsReading (total : ℕ) (s : LogState) (rest : List ℕ) (answer : Result (LogState × List ℕ) ℕ) : Type 0 where
  pub gates : ℕ
  pub enough : length rest < gates
  pub answers : records_in gates total s rest ≡ answer
  pub state : IsState s

-- before the first gate
pub starts : (total : ℕ) (s : LogState) (rest : List ℕ) → length rest ≤ total → IsState s → IsReading total s rest (records_in (total + 1) total s rest)
starts total s rest few i = record { gates = total + 1; enough = omega (arith, few); answers = refl; state = i }

-- after an open gate and a record
pub reads_on : (total : ℕ) (n n' : Footing) (es es' : List Entry) (r : Record) (rest behind left : List ℕ) (answer : Result (LogState × List ℕ) ℕ)
    → IsReading total (held_by n es) rest answer → rest ≡ 1 ∷ behind → AreBytes behind → record_in total n behind ≡ Ok (r, left) → length left < length behind → n' ≡ stands_after n r → es' ≡ live_after es r
    → IsReading total (held_by n' es') left answer
unfolding records_in
reads_on total n n' es es' r rest behind left answer h is fits read shorter later more =
    subst (λ (s : LogState). IsReading total s left answer) (sym (ap₂ held_by later more)) (go h.gates h.enough h.answers)
  where
    told : IsRead n behind r left
    told = record_told total n behind (r, left) fits read

    go : (k : ℕ) → length rest < k → records_in k total (held_by n es) rest ≡ answer → IsReading total (after_record (held_by n es) r) left answer
    go zero few a = absurd (omega (arith, few))
    go (suc k) few a = record {
      gates = k;
      enough = omega (arith, few, ap length is, shorter);
      answers = rw (is, records_in, read) at a;
      state = kept (held_by n es) r h.state told.may told.sound;
    }

-- at a closed gate
pub reads_end : (total : ℕ) (s : LogState) (gate : ℕ) (rest behind : List ℕ) (answer : Result (LogState × List ℕ) ℕ) → IsReading total s rest answer → rest ≡ gate ∷ behind → gate ≢ 1
    → answer ≡ Ok (s, rest)
unfolding records_in
reads_end total s gate rest behind answer h is shut = go h.gates h.enough h.answers
  where
    go : (k : ℕ) → length rest < k → records_in k total s rest ≡ answer → answer ≡ Ok (s, rest)
    go zero few a = absurd (omega (arith, few))
    go (suc k) few a = sym (rw (is, records_in, closed_gate gate shut) at a) ∙ ap (λ (l : List ℕ). Ok (s, l)) (sym is)

-- so the gate's place is known
pub ends_at : (total gate : ℕ) (s : LogState) (rest : List ℕ) (answer : Result (LogState × List ℕ) ℕ) → answer ≡ Ok (s, rest) → gate ≡ total - length rest → placed total answer ≡ Ok (s, gate)
ends_at total gate s rest answer e g = ap (placed total) e ∙ ap (λ (k : ℕ). Ok (s, k)) (sym g)

-- where the gate is missing
pub reads_out : (total : ℕ) (s : LogState) (rest : List ℕ) (answer : Result (LogState × List ℕ) ℕ) → IsReading total s rest answer → rest ≡ [] → placed total answer ≡ Err total
unfolding records_in
reads_out total s rest answer h is = ap (placed total) (go h.gates h.answers)
  where
    go : (k : ℕ) → records_in k total s rest ≡ answer → answer ≡ Err total
    go zero a = sym a
    go (suc k) a = sym a ∙ ap (λ (l : List ℕ). records_in (suc k) total s l) is

-- where a record is refused
pub reads_fault : (total : ℕ) (s : LogState) (rest behind : List ℕ) (answer : Result (LogState × List ℕ) ℕ) (e : LogFault) → IsReading total s rest answer → rest ≡ 1 ∷ behind
    → Fails e (record_in total (footing s) behind) → Fails e (placed total answer)
unfolding records_in
reads_fault total s rest behind answer fault.Memory h is refused = tt
reads_fault total s rest behind answer fault.Disk h is refused = refused
reads_fault total s rest behind answer fault.Reopen h is refused = refused
reads_fault total s rest behind answer (fault.Damaged at) h is refused = ap (placed total) (go h.gates h.enough h.answers)
  where
    go : (k : ℕ) → length rest < k → records_in k total s rest ≡ answer → answer ≡ Err at
    go zero few a = absurd (omega (arith, few))
    go (suc k) few a = sym (rw (is, records_in, refused) at a)

-- a list by its first element
pub first_is : (rest : List ℕ) (x : ℕ) → 0 < length rest → get_or rest 0 0 ≡ x → rest ≡ x ∷ drop 1 rest
first_is [] x h e = absurd (omega (arith, h))
first_is (y ∷ ys) x h e = ap (λ (z : ℕ). z ∷ ys) e

-- Joins before the first record, one by one

pub joins_on : (more n total : ℕ) (late : List ℕ) (cut : ℕ) (js ks : Joins) (x t : ℕ) (rest behind left : List ℕ) (answer : Result (Joins × List ℕ) ℕ) → more ≡ suc n → number_in total 2 w16 (is_new late js) rest ≡ Ok (x, behind)
    → number_in total 8 w64 (may_begin js cut) behind ≡ Ok (t, left) → ks ≡ js ++ record { subscriber = x; tick = t } ∷ [] → joins_in more total late cut js rest ≡ answer → joins_in n total late cut ks left ≡ answer
unfolding joins_in
joins_on more n total late cut js ks x t rest behind left answer is p1 p2 next h =
    let h1 : joins_in (suc n) total late cut js rest ≡ answer = ap (λ (k : ℕ). joins_in k total late cut js rest) (sym is) ∙ h in
    ap (λ (l : Joins). joins_in n total late cut l left) next ∙ rw (joins_in, p1, p2) at h1

pub entrant_fault : (more n total : ℕ) (late : List ℕ) (cut : ℕ) (js : Joins) (rest : List ℕ) (answer : Result (Joins × List ℕ) ℕ) (e : LogFault) → more ≡ suc n → joins_in more total late cut js rest ≡ answer
    → Fails e (number_in total 2 w16 (is_new late js) rest) → Fails e answer
unfolding joins_in
entrant_fault more n total late cut js rest answer fault.Memory is h refused = tt
entrant_fault more n total late cut js rest answer fault.Disk is h refused = refused
entrant_fault more n total late cut js rest answer fault.Reopen is h refused = refused
entrant_fault more n total late cut js rest answer (fault.Damaged at) is h refused =
    let h1 : joins_in (suc n) total late cut js rest ≡ answer = ap (λ (k : ℕ). joins_in k total late cut js rest) (sym is) ∙ h in
    sym (rw (joins_in, refused) at h1)

pub beginning_fault : (more n total : ℕ) (late : List ℕ) (cut : ℕ) (js : Joins) (x : ℕ) (rest behind : List ℕ) (answer : Result (Joins × List ℕ) ℕ) (e : LogFault) → more ≡ suc n → joins_in more total late cut js rest ≡ answer
    → number_in total 2 w16 (is_new late js) rest ≡ Ok (x, behind) → Fails e (number_in total 8 w64 (may_begin js cut) behind) → Fails e answer
unfolding joins_in
beginning_fault more n total late cut js x rest behind answer fault.Memory is h p refused = tt
beginning_fault more n total late cut js x rest behind answer fault.Disk is h p refused = refused
beginning_fault more n total late cut js x rest behind answer fault.Reopen is h p refused = refused
beginning_fault more n total late cut js x rest behind answer (fault.Damaged at) is h p refused =
    let h1 : joins_in (suc n) total late cut js rest ≡ answer = ap (λ (k : ℕ). joins_in k total late cut js rest) (sym is) ∙ h in
    sym (rw (joins_in, p, refused) at h1)

pub joins_end : (more total : ℕ) (late : List ℕ) (cut : ℕ) (js : Joins) (rest : List ℕ) (answer : Result (Joins × List ℕ) ℕ) → more ≡ 0 → joins_in more total late cut js rest ≡ answer → answer ≡ Ok (js, rest)
unfolding joins_in
joins_end more total late cut js rest answer is h = sym (ap (λ (k : ℕ). joins_in k total late cut js rest) (sym is) ∙ h)
