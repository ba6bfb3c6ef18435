-- The parts of a frame: run by run a part is a range of the piece, and its frame has the head
use Rattle.std.proofs.Common.{◌≡◌, ◌≤◌, ◌+◌, ◌-◌, ℕ, List, [], ◌∷◌, ◌++◌, take, drop, Some, if◌then◌else◌, sym, subst, ◌∙◌, take-append-drop}
use Rattle.std.specs.Prelude.{slice_get, slice_range}
use Rattle.gr_tick.specs.declared.run.Run.{Run}
use Rattle.gr_tick.specs.Runs.{value_at, is_in}
use Rattle.gr_tick.specs.Stored.{IsRun, AreTickRuns, EndBefore, RunsGive}
use Rattle.gr_tick.proofs.RunsLemmas.{AreTickRuns-front, AreTickRuns-back, EndBefore-front}
use Rattle.gr_frame.proofs.Cutting.{range_more}
use Rattle.gr_frame.proofs.Loop.{pushed}

module _ {V : Type 0} where
  -- a run with an equal value
  abbrev pub shared : Run V → V → Run V
  shared r v = record { first = r.first; last = r.last; value = v }

  pub shared_alone : (least : V) (r : Run V) (v : V) → v ≡ r.value → IsRun least r → IsRun least (shared r v)
  shared_alone least r v e h = subst (λ x. IsRun least (shared r x)) (sym e) h

  range_runs : (least : V) (rs : List (Run V)) (start end : ℕ) → AreTickRuns least rs → AreTickRuns least (slice_range rs start end)
  range_runs least rs start end a =
      let back = AreTickRuns-back least (take start rs) (drop start rs) (subst (AreTickRuns least) (sym (take-append-drop start rs)) a) in
      AreTickRuns-front least (take (end - start) (drop start rs)) (drop (end - start) (drop start rs)) (subst (AreTickRuns least) (sym (take-append-drop (end - start) (drop start rs))) back)

  -- the next run of a piece goes behind a part
  range_joins : (least : V) (rs : List (Run V)) (start i : ℕ) (r : Run V) → AreTickRuns least rs → slice_get rs i ≡ Some r → start ≤ i → AreTickRuns least (slice_range rs start i ++ r ∷ [])
  range_joins least rs start i r a h le = subst (AreTickRuns least) (range_more rs start i r h le) (range_runs least rs start (i + 1) a)

  -- the part ends before it
  pub range_past : (least : V) (rs part : List (Run V)) (start i : ℕ) (r : Run V) → AreTickRuns least rs → slice_get rs i ≡ Some r → start ≤ i → part ≡ slice_range rs start i → EndBefore part r.first
  range_past least rs part start i r a h le e =
      subst (λ l. EndBefore l r.first) (sym e) (EndBefore-front least (slice_range rs start i) r (range_joins least rs start i r a h le))

  -- and with it is one run longer
  pub range_pushed : (least : V) (rs part more : List (Run V)) (start i : ℕ) (r : Run V) (v : V) → AreTickRuns least rs → slice_get rs i ≡ Some r → start ≤ i → part ≡ slice_range rs start i → v ≡ r.value
      → RunsGive least more (λ t. if is_in t (shared r v) then v else value_at least part t) → more ≡ slice_range rs start (i + 1)
  range_pushed least rs part more start i r v a h le e same given =
      let old = slice_range rs start i in
      let one = subst (λ x. RunsGive least more (λ t. if is_in t (shared r x) then x else value_at least part t)) same given in
      let two = subst (λ l. RunsGive least more (λ t. if is_in t r then r.value else value_at least l t)) e one in
      pushed least old more r (range_joins least rs start i r a h le) (EndBefore-front least old r (range_joins least rs start i r a h le)) two
      ∙ sym (range_more rs start i r h le)
