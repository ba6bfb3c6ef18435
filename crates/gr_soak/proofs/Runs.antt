-- What steps tell, with one step more
use Rattle.std.proofs.Common.{◌≡◌, ℕ, ◌+◌, ◌<◌, true, List, [], ◌∷◌, ◌++◌, take, get_or, length, Option, None, Some, refl, sym, ap, ap₂, ◌∙◌}
use Rattle.std.specs.List.{count_by, sum_by, last_or}
use Rattle.std.specs.Option.{unwrap_or}
use Rattle.std.specs.Prelude.{Bool}
use Rattle.std.proofs.lemmas.List.{append-nil, take_more}
use Rattle.std.proofs.lemmas.List.Sums.{sum_by-append}
use Rattle.std.proofs.lemmas.Grind.{flat_map-append}
use Rattle.gr_sched.specs.declared.step.Line.{Line}
use Rattle.gr_model.specs.declared.report.Report.{Report}
use Rattle.gr_model.specs.Net.{Net}
use Rattle.gr_model.specs.NetOf.{net_of}
use Rattle.gr_model.specs.World.{World, start_by, next, run_all, run_from, run_from_by, report_of, report_of_by}
use Rattle.gr_model_theorems.specs.Forgets.{ForgetTheSame}
use Rattle.gr_model_theorems.proofs.server.Lanes.{started_same}
use Rattle.gr_world.specs.Seen.{WorldView, net_in, world_of}
use Rattle.gr_replay.specs.Going.{Tells}
use Rattle.gr_replay.specs.Replayed.{all_lines}
use Rattle.gr_model.specs.World.{Transition}
use Rattle.gr_topo.specs.Topology.{TopologyView}
use Rattle.gr_soak.specs.declared.summary.Summary.{Summary}
use Rattle.gr_soak.specs.Summary.{is_logged, is_got, is_behind, frames_told, kept_told, last_lines, summary_of}

-- the lines of one step more stand behind those of the steps before
told_behind : (net : Net) (w : World) (steps : List Line) (l : Line) → run_from net w (steps ++ l ∷ []) ≡ run_from net w steps ++ (next net (run_all net w steps).world l).lines ∷ []
unfolding run_from_by
told_behind net w [] l = refl
told_behind net w (s ∷ steps) l = ap (λ xs. (next net w s).lines ∷ xs) (told_behind net (next net w s).world steps l)

pub told_more : (first w new : WorldView) (steps : List Line) (i : ℕ) (l : Line) (lines : List Report) → i < length steps → l ≡ get_or steps i l → w.topo ≡ first.topo
    → world_of w ≡ (run_all (net_in first) (world_of first) (take i steps)).world → Tells l w new lines
    → run_from (net_in first) (world_of first) (take (i + 1) steps) ≡ run_from (net_in first) (world_of first) (take i steps) ++ lines ∷ []
told_more first w new steps i l lines h e t u n =
    ap (run_from (net_in first) (world_of first)) (take_more steps i l h ∙ ap (λ x. take i steps ++ x ∷ []) (sym e))
    ∙ told_behind (net_in first) (world_of first) (take i steps) l
    ∙ ap (λ (told : List Report). run_from (net_in first) (world_of first) (take i steps) ++ told ∷ [])
    (ap (λ x. (next (net_in first) x l).lines) (sym u) ∙ ap (λ x. (next (net_of x) (world_of w) l).lines) (sym t) ∙ ap (λ (x : Transition). x.lines) n)

-- how many lines pass a test, with those of one step more
pub count_more : (p : Report → Bool) (all steps : List (List Report)) (lines : List Report) (n more : ℕ) → all ≡ steps ++ lines ∷ [] → n ≡ count_by p (all_lines steps) → more ≡ count_by p lines → n + more ≡ count_by p (all_lines all)
count_more p all steps lines n more e a b =
    ap₂ (λ x y. x + y) a b
    ∙ sym (sum_by-append _ (all_lines steps) lines)
    ∙ ap (count_by p) (ap (λ xs. all_lines steps ++ xs) (sym (append-nil lines)) ∙ sym (flat_map-append (λ xs. xs) steps (lines ∷ [])) ∙ ap all_lines (sym e))

-- the last of them
last_behind : (o : Option (List Report)) (steps : List (List Report)) (lines : List Report) → last_or o (steps ++ lines ∷ []) ≡ Some lines
last_behind o [] lines = refl
last_behind o (s ∷ steps) lines = last_behind (Some s) steps lines

pub last_more : (all steps : List (List Report)) (lines : List Report) → all ≡ steps ++ lines ∷ [] → lines ≡ last_lines all
last_more all steps lines e = sym (ap last_lines e ∙ ap (λ o. unwrap_or o []) (last_behind None steps lines))

-- what is told at the start is nothing
pub last_with_start : (steps : List (List Report)) → last_lines ([] ∷ steps) ≡ last_lines steps
last_with_start [] = refl
last_with_start (s ∷ steps) = refl

report_is : (t : TopologyView) (w : WorldView) (slice steps : List Line) → w.topo ≡ t → world_of w ≡ start_by true (net_of t) → slice ≡ steps → report_of (net_of t) steps ≡ [] ∷ run_from (net_in w) (world_of w) slice
unfolding report_of_by
report_is t w slice steps e s l =
    ap (λ (rs : List (List Report)). [] ∷ rs) (sym (let same : ForgetTheSame (net_of t) steps = started_same (net_of t) steps in same.lines))
    ∙ ap (λ u. [] ∷ run_from (net_of t) u steps) (sym s)
    ∙ ap (λ x. [] ∷ run_from (net_of x) (world_of w) steps) (sym e)
    ∙ ap (λ xs. [] ∷ run_from (net_in w) (world_of w) xs) (sym l)

-- counts over what the steps told are the summary of their report
pub summary_is : (t : TopologyView) (w : WorldView) (slice steps : List Line) (a f b h k : ℕ) (shown : List Report) → w.topo ≡ t → world_of w ≡ start_by true (net_of t) → slice ≡ steps
    → a ≡ count_by is_logged (all_lines (run_from (net_in w) (world_of w) slice)) → b ≡ count_by is_got (all_lines (run_from (net_in w) (world_of w) slice))
    → shown ≡ last_lines (run_from (net_in w) (world_of w) slice)
    → f ≡ sum_by frames_told shown → h ≡ count_by (is_behind shown) shown → k ≡ sum_by kept_told shown
    → ◌≡◌ {A = Summary} (record { logged = a; frames = f; got = b; behind = h; kept = k }) (summary_of (report_of (net_of t) steps))
summary_is t w slice steps a f b h k shown e s l ea eb es ef eh ek =
    ap (λ x. make x f b h k) ea
    ∙ ap (λ x. make logged x b h k) (ef ∙ ap (sum_by frames_told) last)
    ∙ ap (λ x. make logged (sum_by frames_told shown') x h k) eb
    ∙ ap (λ x. make logged (sum_by frames_told shown') got x k) (eh ∙ ap (λ xs. count_by (is_behind xs) xs) last)
    ∙ ap (λ x. make logged (sum_by frames_told shown') got (count_by (is_behind shown') shown') x) (ek ∙ ap (sum_by kept_told) last)
    ∙ ap summary_of (sym (report_is t w slice steps e s l))
  where
    make : ℕ → ℕ → ℕ → ℕ → ℕ → Summary
    make a' f' b' h' k' = record { logged = a'; frames = f'; got = b'; behind = h'; kept = k' }

    told : List (List Report)
    told = run_from (net_in w) (world_of w) slice

    logged : ℕ
    logged = count_by is_logged (all_lines told)

    got : ℕ
    got = count_by is_got (all_lines told)

    shown' : List Report
    shown' = last_lines ([] ∷ told)

    last : shown ≡ shown'
    last = es ∙ sym (last_with_start told)
