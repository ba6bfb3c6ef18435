-- Nothing that is sent clashes with what is known
use Rattle.std.proofs.Common.{◌≡◌, ◌⊎◌, inl, inr, Some, None, subst, ℕ, suc, Bool, true, false, ◌&&◌, ◌||◌, [], ◌∷◌, ◌++◌, refl, sym, ap, ap₂, ◌∙◌}
use Rattle.std.specs.Prelude.{is_some}
use Rattle.std.proofs.lemmas.Bool.{eq-eqb}
use Rattle.gr_event.specs.Joins.{Joins, splits, first_split, same_join}
use Rattle.gr_event.specs.declared.join.Join.{Join}
use Rattle.gr_model_calls.proofs.calls.Held.{IsFront, never_split}
use Rattle.std.specs.Prelude.{if◌then◌else◌}
use Rattle.gr_event.specs.Joins.{Joins}
use Rattle.gr_know.specs.declared.values.K.{K}
use Rattle.gr_know.specs.declared.values.K.TheVariants.{Q}
use Rattle.gr_curio.specs.declared.values.Q3.TheVariants.{N, A}
use Rattle.gr_frame.specs.declared.Body.TheVariants as body
use Rattle.gr_tick.specs.Runs.{zip_runs}
use Rattle.gr_know.specs.Values.{Known, known_at, clash_K}
use Rattle.gr_curio.specs.Values.{same_Q3}
use Rattle.gr_model.specs.Net.{Net, not_empty}
use Rattle.gr_model.specs.Broker.{View, clashes, drops}
use Rattle.gr_model.specs.World.{World, view_of, frame_at}
use Rattle.gr_model_calls.specs.Truth.{Facts, Holds, HasEvent, KnowsTruth}
use Rattle.gr_model.specs.Tree.{IsNet}
use Rattle.gr_model_calls.specs.Fits.{WorldFits, BodyTrue, facts_of}
use Rattle.gr_model_calls.proofs.runs.Schedules.{frame_at_true}
use Rattle.gr_frame.specs.declared.Frame.{Frame}
use Rattle.gr_tick.proofs.RunLaws.{zip_runs-is, runs_equal}
use Rattle.gr_curio.proofs.ValueLaws.{Q3_decides}
use Rattle.gr_model_calls.proofs.calls.TruthTicks.{no_clash}

clash_none : (k x : K) → clash_K k x ≡ false → (if clash_K k x then A else N) ≡ N
clash_none k x e = ap (λ b. if b then A else N) e

-- two true pieces of one place have no clash
pub true_pieces : (net : Net) (f : Facts) (p b : ℕ) (know piece : Known) → KnowsTruth net f p b know → KnowsTruth net f p b piece → clashes know piece ≡ false
unfolding clashes
true_pieces net f p b know piece h i =
    let z = zip_runs-is Q Q N same_Q3 Q3_decides (λ k x. if clash_K k x then A else N) know piece refl h.runs i.runs in
    ap not_empty (runs_equal N 1 1 (zip_runs Q Q N same_Q3 (λ k x. if clash_K k x then A else N) know piece) [] z.runs tt
    (λ t. z.same_at t ∙ clash_none (known_at know t) (known_at piece t) (no_clash net f p b t (known_at know t) (known_at piece t) (h.each t) (i.each t))))

-- nor do what is held there and what came with the piece split
pub true_joins : (net : Net) (f : Facts) (js ks : Joins) (Event Came : ℕ → Type 0) → Holds f.joined js Event → Holds f.joined ks Came → splits js ks ≡ false
true_joins net f js ks Event Came a b = go (never_split f.joined js ks Event Came a b)
  where
    same : (j : Join) → same_join j j ≡ true
    same j = ap₂ (λ x y. x && y) (eq-eqb j.subscriber j.subscriber refl) (eq-eqb j.tick j.tick refl)

    front : (n : ℕ) (xs rest : Joins) → first_split n xs (xs ++ rest) ≡ None
    front n [] rest = refl
    front n (j ∷ xs) rest = rw (same j) (front (suc n) xs rest)

    behind : (n : ℕ) (xs rest : Joins) → first_split n (xs ++ rest) xs ≡ None
    behind n [] [] = refl
    behind n [] (j ∷ rest) = refl
    behind n (j ∷ xs) rest = rw (same j) (behind (suc n) xs rest)

    go : IsFront js ks ⊎ IsFront ks js → splits js ks ≡ false
    go (inl x) = ap is_some (subst (λ z. first_split 0 js z ≡ None) (sym x.1) (front 0 js x.0))
    go (inr x) = ap is_some (subst (λ z. first_split 0 z ks ≡ None) (sym x.1) (behind 0 ks x.0))

-- so a true frame of knowledge is not dropped
pub nothing_drops : (net : Net) (f : Facts) (p b : ℕ) (v : View) (runs : Known) (js : Joins) → KnowsTruth net f p b v.know → Holds f.joined v.joins (HasEvent v.know) → KnowsTruth net f p b runs → Holds f.joined js (HasEvent runs) → drops v runs js ≡ false
unfolding drops
nothing_drops net f p b v runs js h held k came = ap₂ (λ a b. a || b) (true_joins net f v.joins js (HasEvent v.know) (HasEvent runs) held came) (true_pieces net f p b v.know runs h k)

-- no frame of knowledge that was ever sent is dropped, wherever the schedule delivers it
pub no_frame_drops : (net : Net) (w : World) (k : ℕ) (f : Frame) (runs : Known) (js : Joins) → IsNet net → WorldFits net w → frame_at w k ≡ Some f → f.body ≡ body.Knowledge runs js → drops (view_of w f.head.to f.head.publisher) runs js ≡ false
no_frame_drops net w k f runs js n fit at is =
    let t = frame_at_true net w k f fit at in
    let g = facts_of net w f.head.publisher in
    let told : KnowsTruth net g f.head.publisher f.head.to runs × Holds g.joined js (HasEvent runs) = subst (BodyTrue net g f.head.publisher f.head.from f.head.to) is t.told in
    let v = fit.views f.head.publisher f.head.to t.publisher_in t.fits.to_in in
    nothing_drops net g f.head.publisher f.head.to (view_of w f.head.to f.head.publisher) runs js v.know v.held told.0 told.1

or_left_false : (a b : Bool) → (a || b) ≡ false → a ≡ false
or_left_false false b e = refl
or_left_false true b e = e

or_right_false : (a b : Bool) → (a || b) ≡ false → b ≡ false
or_right_false false b e = e
or_right_false true b e = absurd (cc e)

-- so it neither splits nor clashes
pub no_frame_splits : (net : Net) (w : World) (k : ℕ) (f : Frame) (runs : Known) (js : Joins) → IsNet net → WorldFits net w → frame_at w k ≡ Some f → f.body ≡ body.Knowledge runs js → splits (view_of w f.head.to f.head.publisher).joins js ≡ false
unfolding drops
no_frame_splits net w k f runs js n fit at is = or_left_false _ _ (no_frame_drops net w k f runs js n fit at is)

pub no_frame_clashes : {js : Joins} (net : Net) (w : World) (k : ℕ) (f : Frame) (runs : Known) → IsNet net → WorldFits net w → frame_at w k ≡ Some f → f.body ≡ body.Knowledge runs js → clashes (view_of w f.head.to f.head.publisher).know runs ≡ false
unfolding drops
no_frame_clashes {js} net w k f runs n fit at is = or_right_false (splits (view_of w f.head.to f.head.publisher).joins js) _ (no_frame_drops net w k f runs js n fit at is)
