-- A process alone, and among the others in the joint run
use Rattle.std.proofs.Common.{◌≡◌, inl, inr, ℕ, suc, ◌+◌, true, false, List, [], ◌∷◌, ◌++◌, length, refl, sym, ap, ap₂, ◌∙◌, subst, arith}
use Rattle.std.specs.Prelude.{nat_eq, if◌then◌else◌}
use Rattle.std.specs.List.{AllByRecursion}
use Rattle.std.proofs.lemmas.Bool.{cases_eq, cases_lt, eq-eqb, ne_eqb}
use Rattle.std.proofs.lemmas.List.{get_or-set_same, get_or-set_other, get_or_past}
use Rattle.gr_frame.specs.declared.Frame.{Frame}
use Rattle.gr_model.specs.declared.report.Report.{Report}
use Rattle.gr_model.specs.Net.{Net}
use Rattle.gr_model.specs.Broker.{seen}
use Rattle.gr_model.specs.World.{World, Transition, frames_past, sent_since}
use Rattle.gr_model.specs.Headline.{sent_count}
use Rattle.gr_model.specs.Arrivals.{Arrival, datagram, quiet, Request, left_after, comes}
use Rattle.gr_model_theorems.specs.Joint.{brokers_of, left_of, lefts_after, joint_from_by}
use Rattle.gr_audit_theorems.specs.Numbered.{numbered_groups}
use Rattle.gr_audit_theorems.specs.OneRun.{arrivals_at, parts_at, joint_sent_from}
use Rattle.gr_audit_theorems.proofs.Beside.{Beside, beside_next, beside_back, set_past}
use Rattle.gr_audit_theorems.proofs.Coming.{RequestsAt, ArrivalAt, Unheard, AreApart, left_at, ComesSame, comes_same, comes_apart}

-- A process alone: the lines of each arrival, and the frames that are sent then

unfoldable pub alone_lines : Net → List ℕ → World → List Request → List Arrival → List (List Report)
alone_lines net hosted w left [] = []
alone_lines net hosted w left (a ∷ came) = let t : Transition = comes net hosted w left a in t.lines ∷ alone_lines net hosted t.world (left_after left a) came

unfoldable pub alone_sent : Net → List ℕ → World → List Request → List Arrival → List (List Frame)
alone_sent net hosted w left [] = []
alone_sent net hosted w left (a ∷ came) = let t : Transition = comes net hosted w left a in sent_since w t.world ∷ alone_sent net hosted t.world (left_after left a) came

-- what is past the frames of a world that begins so
pub past_all : (fs more : List Frame) → frames_past (length fs) (fs ++ more) ≡ more
past_all [] more = refl
past_all (f ∷ fs) more = past_all fs more

pub sent_is : (w u : World) (more : List Frame) → u.frames ≡ w.frames ++ more → sent_since w u ≡ more
sent_is w u more e = ap (λ (z : List Frame). frames_past (length w.frames) z) e ∙ past_all w.frames more

-- what is left to a process behind an arrival of its own, and behind one of another

none_left : (a : Arrival) → left_after [] a ≡ []
none_left (datagram b bytes moment) = refl
none_left (quiet moment) = refl

pub left_here : (lefts : List (List Request)) (x : ℕ × Arrival) → left_of (lefts_after lefts x) x.0 ≡ left_after (left_of lefts x.0) x.1
left_here lefts x = elim (cases_lt x.0 (length lefts)) [
  | inl lt ↦ get_or-set_same lefts x.0 (left_after (left_of lefts x.0) x.1) [] lt
  | inr le ↦ set_past lefts x.0 (left_after (left_of lefts x.0) x.1) [] le ∙ sym (ap (λ z. left_after z x.1) (get_or_past lefts x.0 [] le) ∙ none_left x.1)
]

pub left_there : (lefts : List (List Request)) (x : ℕ × Arrival) (k : ℕ) → (k ≡ x.0 → ⊥) → left_of (lefts_after lefts x) k ≡ left_of lefts k
left_there lefts x k ne = get_or-set_other lefts x.0 k (left_after (left_of lefts x.0) x.1) [] ne

-- each turn comes to a broker of its process
abbrev pub TurnsAt : List (List ℕ) → List (ℕ × Arrival) → Type 0
TurnsAt processes turns = AllByRecursion (λ (x : ℕ × Arrival). ArrivalAt (brokers_of processes x.0) x.1) turns

-- processes have no broker in common
abbrev pub AllApart : List (List ℕ) → Type 0
AllApart processes = (i k : ℕ) → (i ≡ k → ⊥) → AreApart (brokers_of processes i) (brokers_of processes k)

abbrev pub AllRequestsAt : Net → List (List ℕ) → List (List Request) → Type 0
AllRequestsAt net processes lefts = (k : ℕ) → RequestsAt net (brokers_of processes k) (left_of lefts k)

pub all_left_at : (net : Net) (processes : List (List ℕ)) (lefts : List (List Request)) (x : ℕ × Arrival) → AllRequestsAt net processes lefts → AllRequestsAt net processes (lefts_after lefts x)
all_left_at net processes lefts x h k = elim (cases_eq k x.0) [
  | inl e ↦ subst (λ i. RequestsAt net (brokers_of processes i) (left_of (lefts_after lefts x) i)) (sym e) (subst (RequestsAt net (brokers_of processes x.0)) (sym (left_here lefts x)) (left_at net (brokers_of processes x.0) (left_of lefts x.0) x.1 (h x.0)))
  | inr ne ↦ subst (RequestsAt net (brokers_of processes k)) (sym (left_there lefts x k ne)) (h k)
]

module _ (net : Net) (processes : List (List ℕ)) (unheard : Unheard net) (apart : AllApart processes) where
  abbrev joint_comes : World → List (List Request) → ℕ × Arrival → Transition
  joint_comes u lefts x = comes net (brokers_of processes x.0) u (left_of lefts x.0) x.1

  -- a turn of another process leaves what these brokers see
  pub turn_apart : (k : ℕ) (w u : World) (lefts : List (List Request)) (x : ℕ × Arrival) → (k ≡ x.0 → ⊥) → ArrivalAt (brokers_of processes x.0) x.1 → AllRequestsAt net processes lefts → Beside net (brokers_of processes k) w u
      → Beside net (brokers_of processes k) w (comes net (brokers_of processes x.0) u (left_of lefts x.0) x.1).world
  turn_apart k w u lefts x ne at requests beside =
      let t : Transition = joint_comes u lefts x in
      beside_next net (brokers_of processes k) w u t.world beside
      (beside_back net (brokers_of processes k) t.world u (comes_apart net (brokers_of processes x.0) (brokers_of processes k) (apart x.0 k (λ e. ne (sym e))) u (left_of lefts x.0) x.1 unheard at (requests x.0)))

  -- what a turn of the process itself leads to
  pub turn_same : (k : ℕ) (w u : World) (lefts : List (List Request)) (x : ℕ × Arrival) → k ≡ x.0 → ArrivalAt (brokers_of processes x.0) x.1 → AllRequestsAt net processes lefts → Beside net (brokers_of processes k) w u
      → ComesSame net (brokers_of processes k) w u (comes net (brokers_of processes k) w (left_of lefts k) x.1) (comes net (brokers_of processes x.0) u (left_of lefts x.0) x.1)
  turn_same k w u lefts x e at requests beside =
      subst (λ i. ComesSame net (brokers_of processes k) w u (comes net (brokers_of processes k) w (left_of lefts k) x.1) (comes net (brokers_of processes i) u (left_of lefts i) x.1)) e
      (comes_same net (brokers_of processes k) w u (left_of lefts k) x.1 unheard (subst (λ i. ArrivalAt (brokers_of processes i) x.1) (sym e) at) (requests k) beside)

  -- of the joint run the lines of one process, numbered by itself, are those that it tells alone
  pub lines_alone : (k : ℕ) (turns : List (ℕ × Arrival)) (w u : World) (lefts : List (List Request)) → TurnsAt processes turns → AllRequestsAt net processes lefts → Beside net (brokers_of processes k) w u
      → numbered_groups (suc (length w.frames)) (parts_at k turns (joint_from_by (seen net) net processes u lefts turns)) ≡ alone_lines net (brokers_of processes k) w (left_of lefts k) (arrivals_at k turns)
  unfolding joint_from_by alone_lines
  lines_alone k [] w u lefts at requests beside = refl
  lines_alone k (x ∷ turns) w u lefts at requests beside = elim (cases_eq k x.0) [
    | inl e ↦ here e (λ v y b. lines_alone k turns v y (lefts_after lefts x) at.1 (all_left_at net processes lefts x requests) b)
    | inr ne ↦ there ne (λ v y b. lines_alone k turns v y (lefts_after lefts x) at.1 (all_left_at net processes lefts x requests) b)
  ]
    where
      Rest : Type 0
      Rest = (v y : World) → Beside net (brokers_of processes k) v y
          → numbered_groups (suc (length v.frames)) (parts_at k turns (joint_from_by (seen net) net processes y (lefts_after lefts x) turns)) ≡ alone_lines net (brokers_of processes k) v (left_of (lefts_after lefts x) k) (arrivals_at k turns)

      t : Transition
      t = joint_comes u lefts x

      rest : List (List Report)
      rest = joint_from_by (seen net) net processes t.world (lefts_after lefts x) turns

      here : k ≡ x.0 → Rest → numbered_groups (suc (length w.frames)) (if nat_eq x.0 k then t.lines ∷ parts_at k turns rest else parts_at k turns rest)
          ≡ alone_lines net (brokers_of processes k) w (left_of lefts k) (if nat_eq x.0 k then x.1 ∷ arrivals_at k turns else arrivals_at k turns)
      here e more =
          let s : Transition = comes net (brokers_of processes k) w (left_of lefts k) x.1 in
          let c = turn_same k w u lefts x e at.0 requests beside in
          let is : nat_eq x.0 k ≡ true = eq-eqb x.0 k (sym e) in
          let next : suc (length w.frames) + sent_count t.lines ≡ suc (length s.world.frames) = longer w.frames c.more s.world.frames (sent_count t.lines) c.frames c.count in
          let after : left_of (lefts_after lefts x) k ≡ left_after (left_of lefts k) x.1 = subst (λ i. left_of (lefts_after lefts x) i ≡ left_after (left_of lefts i) x.1) (sym e) (left_here lefts x) in
          ap (λ b. numbered_groups (suc (length w.frames)) (if b then t.lines ∷ parts_at k turns rest else parts_at k turns rest)) is
          ∙ (ap₂ (λ (y : List Report) (z : List (List Report)). y ∷ z) (sym c.lines)
          (ap (λ n. numbered_groups n (parts_at k turns rest)) next
          ∙ (more s.world t.world c.beside
          ∙ ap (λ z. alone_lines net (brokers_of processes k) s.world z (arrivals_at k turns)) after))
          ∙ ap (λ b. alone_lines net (brokers_of processes k) w (left_of lefts k) (if b then x.1 ∷ arrivals_at k turns else arrivals_at k turns)) (sym is))
        where
          longer : (fs more all : List Frame) (n : ℕ) → all ≡ fs ++ more → n ≡ length more → suc (length fs) + n ≡ suc (length all)
          longer fs more all n e h = let l = ap length e in let k = many fs more in omega (arith, h, l, k)
            where
              many : (xs ys : List Frame) → length (xs ++ ys) ≡ length xs + length ys
              many [] ys = omega arith
              many (y ∷ xs) ys = let k = many xs ys in omega (arith, k)

      there : (k ≡ x.0 → ⊥) → Rest → numbered_groups (suc (length w.frames)) (if nat_eq x.0 k then t.lines ∷ parts_at k turns rest else parts_at k turns rest)
          ≡ alone_lines net (brokers_of processes k) w (left_of lefts k) (if nat_eq x.0 k then x.1 ∷ arrivals_at k turns else arrivals_at k turns)
      there ne more =
          let isnt : nat_eq x.0 k ≡ false = ne_eqb x.0 k (λ e. ne (sym e)) in
          ap (λ b. numbered_groups (suc (length w.frames)) (if b then t.lines ∷ parts_at k turns rest else parts_at k turns rest)) isnt
          ∙ (more w t.world (turn_apart k w u lefts x ne at.0 requests beside)
          ∙ (ap (λ z. alone_lines net (brokers_of processes k) w z (arrivals_at k turns)) (left_there lefts x k ne)
          ∙ ap (λ b. alone_lines net (brokers_of processes k) w (left_of lefts k) (if b then x.1 ∷ arrivals_at k turns else arrivals_at k turns)) (sym isnt)))

  -- and so are its frames
  pub sent_alone : (k : ℕ) (turns : List (ℕ × Arrival)) (w u : World) (lefts : List (List Request)) → TurnsAt processes turns → AllRequestsAt net processes lefts → Beside net (brokers_of processes k) w u
      → parts_at k turns (joint_sent_from net processes u lefts turns) ≡ alone_sent net (brokers_of processes k) w (left_of lefts k) (arrivals_at k turns)
  unfolding joint_sent_from alone_sent
  sent_alone k [] w u lefts at requests beside = refl
  sent_alone k (x ∷ turns) w u lefts at requests beside = elim (cases_eq k x.0) [
    | inl e ↦ here e (λ v y b. sent_alone k turns v y (lefts_after lefts x) at.1 (all_left_at net processes lefts x requests) b)
    | inr ne ↦ there ne (λ v y b. sent_alone k turns v y (lefts_after lefts x) at.1 (all_left_at net processes lefts x requests) b)
  ]
    where
      Rest : Type 0
      Rest = (v y : World) → Beside net (brokers_of processes k) v y
          → parts_at k turns (joint_sent_from net processes y (lefts_after lefts x) turns) ≡ alone_sent net (brokers_of processes k) v (left_of (lefts_after lefts x) k) (arrivals_at k turns)

      t : Transition
      t = joint_comes u lefts x

      rest : List (List Frame)
      rest = joint_sent_from net processes t.world (lefts_after lefts x) turns

      here : k ≡ x.0 → Rest → (if nat_eq x.0 k then sent_since u t.world ∷ parts_at k turns rest else parts_at k turns rest)
          ≡ alone_sent net (brokers_of processes k) w (left_of lefts k) (if nat_eq x.0 k then x.1 ∷ arrivals_at k turns else arrivals_at k turns)
      here e more =
          let s : Transition = comes net (brokers_of processes k) w (left_of lefts k) x.1 in
          let c = turn_same k w u lefts x e at.0 requests beside in
          let is : nat_eq x.0 k ≡ true = eq-eqb x.0 k (sym e) in
          let after : left_of (lefts_after lefts x) k ≡ left_after (left_of lefts k) x.1 = subst (λ i. left_of (lefts_after lefts x) i ≡ left_after (left_of lefts i) x.1) (sym e) (left_here lefts x) in
          ap (λ b. if b then sent_since u t.world ∷ parts_at k turns rest else parts_at k turns rest) is
          ∙ (ap₂ (λ (y : List Frame) (z : List (List Frame)). y ∷ z) (sent_is u t.world c.more c.other_frames ∙ sym (sent_is w s.world c.more c.frames))
          (more s.world t.world c.beside
          ∙ ap (λ z. alone_sent net (brokers_of processes k) s.world z (arrivals_at k turns)) after)
          ∙ ap (λ b. alone_sent net (brokers_of processes k) w (left_of lefts k) (if b then x.1 ∷ arrivals_at k turns else arrivals_at k turns)) (sym is))

      there : (k ≡ x.0 → ⊥) → Rest → (if nat_eq x.0 k then sent_since u t.world ∷ parts_at k turns rest else parts_at k turns rest)
          ≡ alone_sent net (brokers_of processes k) w (left_of lefts k) (if nat_eq x.0 k then x.1 ∷ arrivals_at k turns else arrivals_at k turns)
      there ne more =
          let isnt : nat_eq x.0 k ≡ false = ne_eqb x.0 k (λ e. ne (sym e)) in
          ap (λ b. if b then sent_since u t.world ∷ parts_at k turns rest else parts_at k turns rest) isnt
          ∙ (more w t.world (turn_apart k w u lefts x ne at.0 requests beside)
          ∙ (ap (λ z. alone_sent net (brokers_of processes k) w z (arrivals_at k turns)) (left_there lefts x k ne)
          ∙ ap (λ b. alone_sent net (brokers_of processes k) w (left_of lefts k) (if b then x.1 ∷ arrivals_at k turns else arrivals_at k turns)) (sym isnt)))
