-- Each cut line stands where all that it lets go was told
use Rattle.std.proofs.Common.{◌≡◌, inl, inr, ⊎_elim, ℕ, suc, ◌≤◌, ◌<◌, true, ◌&&◌, List, [], ◌∷◌, ◌++◌, length, refl, sym, ap, ◌∙◌, subst, Some, None, arith, le_trans, append_assoc}
use Rattle.std.specs.Prelude.{nat_eq, nat_le, if◌then◌else◌}
use Rattle.std.specs.List.{list_any}
use Rattle.std.proofs.lemmas.Bool.{cases_eq, cases_lt, eq-eqb, eqb-true, le-leb, false≢true}
use Rattle.gr_event.specs.declared.event.Event.{Event}
use Rattle.gr_model.specs.declared.report.Report.{Report}
use Rattle.gr_model.specs.declared.report.Report.TheVariants as line
use Rattle.gr_model.specs.Net.{Net, not_empty}
use Rattle.gr_model.specs.Broker.{Log, Outcome}
use Rattle.gr_model.specs.World.{World, view_of, log_of, absorbed, sent_lines}
use Rattle.gr_model.specs.Headline.{delivered_events, last_cut}
use Rattle.gr_model_calls.specs.Truth.{IsLater}
use Rattle.gr_model_calls.specs.Said.{said_at}
use Rattle.gr_model_calls.specs.Fits.{facts_of, reached_in, LogFits, WorldFits, LinesFit}
use Rattle.gr_model.specs.Tree.{IsNet, IsSubscriber}
use Rattle.gr_model_calls.proofs.calls.TruthTicks.{concerns_at}
use Rattle.gr_model_calls.proofs.calls.Told.{said_at-filter, said_append_front, said_at-below}
use Rattle.gr_model_calls.proofs.calls.Telling.{gots-append}
use Rattle.gr_model_calls.proofs.runs.Worlds.{Kept, IsLaterWorld, Changed, absorbed_changed, absorbed_lines, exact_at, reached_here}
use Rattle.gr_model_theorems.proofs.hosts.HostHorizon.{HostsMeet}
use Rattle.gr_model_theorems.proofs.cuts.Cutlines.{CutsHave, CutFree, last_cut-append, CutFree-append, CutFree-last, CutFree-have, CutsHave-map, CutsHave-append, sent_free, NewCut, CallCuts}

-- a cut line of q up to tick t, with the lines before it; found is the cut of each log as it was opened
pub record CutFits (net : Net) (found : ℕ → ℕ) (w : World) (q t : ℕ) (before : List Report) : Type 0 where
  pub rise : last_cut q (found q) before < t
  pub settled : t ≤ (log_of w q).settled
  pub told : (s u : ℕ) (e : Event) → IsSubscriber net s → u ≤ t → said_at (log_of w q).events u ≡ Some e → net.wants q s u e ≡ true → said_at (delivered_events s q before) u ≡ Some e

-- cut lines in order: the last one of each publisher is its
-- log's cut, and all that each lets go was delivered before it
pub record Ordered (net : Net) (found : ℕ → ℕ) (w : World) (ls : List Report) : Type 0 where
  pub meets : HostsMeet net w
  pub last : (q : ℕ) → q < net.publishers → last_cut q (found q) ls ≡ (log_of w q).cut
  pub each : (q : ℕ) → q < net.publishers → CutsHave (CutFits net found w q) q [] ls

-- a cut line that is in order stays so as more is logged and subscribers come on
pub CutFits-later : (net : Net) (found : ℕ → ℕ) (w u : World) (q t : ℕ) (before : List Report) → IsLater (facts_of net w q) (facts_of net u q) → CutFits net found w q t before → CutFits net found u q t before
CutFits-later net found w u q t before l c = record {
  rise = c.rise;
  settled = le_trans c.settled l.settled;
  told = λ s a e y h said wants. c.told s a e y h (sym (l.said a (le_trans h c.settled)) ∙ said) wants;
}

-- lines without cuts, where no cut moves
pub ordered_free : (net : Net) (found : ℕ → ℕ) (w u : World) (ls more : List Report) → IsLaterWorld net w u → HostsMeet net u → ((q : ℕ) → q < net.publishers → CutFree q more) → ((q : ℕ) → q < net.publishers → (log_of u q).cut ≡ (log_of w q).cut) → Ordered net found w ls → Ordered net found u (ls ++ more)
ordered_free net found w u ls more l m free same o = record {
  meets = m;
  last = λ q j. last_cut-append q (found q) ls more ∙ (CutFree-last q (last_cut q (found q) ls) more (free q j) ∙ (o.last q j ∙ sym (same q j)));
  each = λ q j. CutsHave-append (CutFits net found u q) q [] ls more (CutsHave-map (CutFits net found w q) (CutFits net found u q) q [] ls (λ t xs c. CutFits-later net found w u q t xs (l q j) c) (o.each q j)) (CutFree-have (CutFits net found u q) q ls more (free q j));
}

said_settled : (log : Log) (u : ℕ) (e : Event) → LogFits log → said_at log.events u ≡ Some e → u ≤ log.settled
said_settled log u e f s =
    elim (cases_lt log.settled u) [
      | inl h ↦ absurd (some_none e (sym s ∙ f.past u h))
      | inr h ↦ h
    ]
  where
    some_none : (e : Event) → Some e ≡ None → ⊥
    some_none e q = cc

-- a list with a member is not empty
pub has_one : (xs : List ℕ) (s : ℕ) → list_any (λ x. nat_eq x s) xs ≡ true → not_empty xs ≡ true
has_one [] s e = absurd (false≢true e)
has_one (x ∷ xs) s e = refl

-- what a new cut lets go was told before the call
cut_told_before : (net : Net) (w u : World) (b p s a : ℕ) (o : Outcome) (e : Event) (ls : List Report) → IsNet net → WorldFits net w → WorldFits net u → HostsMeet net w → b < net.brokers → p < net.publishers → Changed net w u b p o → NewCut net p b (log_of w p) o → LinesFit net w ls → IsSubscriber net s → a ≤ o.log.cut → said_at (log_of u p).events a ≡ Some e → net.wants p s a e ≡ true → said_at (delivered_events s p ls) a ≡ Some e
cut_told_before net w u b p s a o e ls n f g m i j c k l y h said wants =
    let same : (log_of u p).events ≡ (log_of w p).events = ap (λ z. z.events) c.log ∙ k.events in
    let was : said_at (log_of w p).events a ≡ Some e = ap (λ z. said_at z a) (sym same) ∙ said in
    let t = g.cuts p j a (first was) (subst (λ z. a ≤ z.cut) (sym c.log) h) in
    let r : a ≤ reached_in net u p s = t.told s (n.all_below p s j y.at_in y.here) (concerns_at net (facts_of net u p) p s a e said ∙ wants) in
    let r' : a ≤ reached_in net w p s = elim (cases_eq (net.at s) b) [
      | inl x ↦
          let z : list_any (λ v. nat_eq v s) (net.subscribers_at b) ≡ true = subst (λ v. list_any (λ v. nat_eq v s) (net.subscribers_at v) ≡ true) x y.here in
          let hb : net.host p ≡ b = eqb-true (net.host p) b k.host in
          let mm : (view_of w b p).horizon ≡ (log_of w p).settled = subst (λ v. (view_of w v p).horizon ≡ (log_of w p).settled) hb (m p j (subst (λ v. not_empty (net.subscribers_at v) ≡ true) (sym hb) (has_one (net.subscribers_at b) s z))) in
          subst (λ v. a ≤ v) (sym (exact_at net w b p n i s z ∙ mm)) (said_settled (log_of w p) a e (f.logs p j) was)
      | inr x ↦ subst (λ v. a ≤ v) (reached_here net u p s y ∙ (ap (λ v. v.horizon) (c.other_broker (net.at s) p x) ∙ sym (reached_here net w p s y))) r
    ] in
    ap (λ z. said_at z a) (l.got p s j y) ∙ (said_at-filter (λ x. nat_le x.0 (reached_in net w p s) && net.wants p s x.0 x.1) 0 (log_of w p).events a (f.logs p j).rise ∙ (rw was (rw (le-leb a (reached_in net w p s) r', wants) refl)))
  where
    some_none : (v : Event) → Some v ≡ None → ⊥
    some_none v q = cc

    first : said_at (log_of w p).events a ≡ Some e → 1 ≤ a
    first q =
        elim (cases_lt 0 a) [
          | inl x ↦ x
          | inr x ↦ absurd (some_none e (sym q ∙ said_at-below 0 (log_of w p).events a (f.logs p j).rise x))
        ]

-- the last cut is this one, if none comes after it
cut_line_last : (p n t : ℕ) (rest : List Report) → CutFree p rest → last_cut p n (line.Cut p t ∷ rest) ≡ t
cut_line_last p n t rest a = ap (λ c. last_cut p (if c then t else n) rest) (eq-eqb p p refl) ∙ CutFree-last p t rest a

cut_last : (p n t : ℕ) (ls pre rest : List Report) → CutFree p rest → last_cut p n (ls ++ (pre ++ (line.Cut p t ∷ rest))) ≡ t
cut_last p n t ls pre rest a = last_cut-append p n ls (pre ++ (line.Cut p t ∷ rest)) ∙ (last_cut-append p (last_cut p n ls) pre (line.Cut p t ∷ rest) ∙ cut_line_last p (last_cut p (last_cut p n ls) pre) t rest a)

-- putting the outcome of a call in place keeps the cut lines in order
pub absorbed_ordered : (net : Net) (found : ℕ → ℕ) (w : World) (b p : ℕ) (o : Outcome) (ls : List Report) → IsNet net → WorldFits net w → b < net.brokers → p < net.publishers → CallCuts net p b (log_of w p) o → Kept net w (absorbed w b p o) → HostsMeet net (absorbed w b p o).world → LinesFit net w ls → Ordered net found w ls → Ordered net found (absorbed w b p o).world (ls ++ (absorbed w b p o).lines)
absorbed_ordered net found w b p o ls n f i j cuts k m l d =
    let c = absorbed_changed net w b p o f i j in
    let u = (absorbed w b p o).world in
    let sent = sent_lines (suc (length w.frames)) o.frames in
    let sf : (q : ℕ) → CutFree q sent = λ q. sent_free q (suc (length w.frames)) o.frames in
    subst (λ z. Ordered net found u (ls ++ z)) (sym (absorbed_lines w b p o)) (⊎_elim
    (λ x. ordered_free net found w u ls (o.lines ++ sent) k.later m
    (λ q y. CutFree-append q o.lines sent (elim (cases_eq q p) [ inl e ↦ subst (λ z. CutFree z o.lines) (sym e) x.0 | inr e ↦ cuts.others q e ]) (sf q))
    (λ q y. elim (cases_eq q p) [ inl e ↦ subst (λ z. (log_of u z).cut ≡ (log_of w z).cut) (sym e) (ap (λ z. z.cut) c.log ∙ x.1) | inr e ↦ ap (λ z. z.cut) (c.other_log q e) ])
    d)
    (λ x.
    let whole : o.lines ++ sent ≡ x.pre ++ (line.Cut p o.log.cut ∷ (x.post ++ sent)) = ap (λ z. z ++ sent) x.lines ∙ append_assoc x.pre (line.Cut p o.log.cut ∷ x.post) sent in
    let low : last_cut p (found p) (ls ++ x.pre) ≡ (log_of w p).cut = last_cut-append p (found p) ls x.pre ∙ (CutFree-last p (last_cut p (found p) ls) x.pre x.free_pre ∙ d.last p j) in
    let cut_is : o.log.cut ≡ (log_of u p).cut = ap (λ z. z.cut) (sym c.log) in
    let rest : CutFree p (x.post ++ sent) = CutFree-append p x.post sent x.free_post (sf p) in
    let at : last_cut p (found p) (ls ++ (o.lines ++ sent)) ≡ last_cut p (found p) (ls ++ (x.pre ++ (line.Cut p o.log.cut ∷ (x.post ++ sent)))) = ap (λ (z : List Report). last_cut p (found p) (ls ++ z)) whole in
    let last_p : last_cut p (found p) (ls ++ (o.lines ++ sent)) ≡ (log_of u p).cut = at ∙ (cut_last p (found p) o.log.cut ls x.pre (x.post ++ sent) rest ∙ cut_is) in
    let here : CutFits net found u p o.log.cut (ls ++ x.pre) = record {
      rise = omega (arith, low, x.more);
      settled = subst (λ z. z ≤ (log_of u p).settled) (sym cut_is) (k.fits.logs p j).cut;
      told = λ s a e y h said wants. ap (λ z. said_at z a) (gots-append s p ls x.pre) ∙ said_append_front (delivered_events s p ls) (delivered_events s p x.pre) a e (cut_told_before net w u b p s a o e ls n f k.fits d.meets i j c x l y h said wants);
    } in
    let tail : CutsHave (CutFits net found u p) p (ls ++ x.pre) (line.Cut p o.log.cut ∷ (x.post ++ sent)) = (λ _. here, CutFree-have (CutFits net found u p) p ((ls ++ x.pre) ++ line.Cut p o.log.cut ∷ []) (x.post ++ sent) rest) in
    let parts : CutsHave (CutFits net found u p) p ls (x.pre ++ (line.Cut p o.log.cut ∷ (x.post ++ sent))) = CutsHave-append (CutFits net found u p) p ls x.pre (line.Cut p o.log.cut ∷ (x.post ++ sent)) (CutFree-have (CutFits net found u p) p ls x.pre x.free_pre) tail in
    let have_p : CutsHave (CutFits net found u p) p ls (o.lines ++ sent) = subst (λ z. CutsHave (CutFits net found u p) p ls z) (sym whole) parts in
    record {
      meets = m;
      last = λ q y. elim (cases_eq q p) [
        | inl e ↦ subst (λ z. last_cut z (found z) (ls ++ (o.lines ++ sent)) ≡ (log_of u z).cut) (sym e)
            last_p
        | inr e ↦ last_cut-append q (found q) ls (o.lines ++ sent) ∙ (CutFree-last q (last_cut q (found q) ls) (o.lines ++ sent) (CutFree-append q o.lines sent (cuts.others q e) (sf q)) ∙ (d.last q y ∙ ap (λ z. z.cut) (sym (c.other_log q e))))
      ];
      each = λ q y. CutsHave-append (CutFits net found u q) q [] ls (o.lines ++ sent) (CutsHave-map (CutFits net found w q) (CutFits net found u q) q [] ls (λ t xs v. CutFits-later net found w u q t xs (k.later q y) v) (d.each q y)) (elim (cases_eq q p) [
        | inr e ↦ CutFree-have (CutFits net found u q) q ls (o.lines ++ sent) (CutFree-append q o.lines sent (cuts.others q e) (sf q))
        | inl e ↦ subst (λ z. CutsHave (CutFits net found u z) z ls (o.lines ++ sent)) (sym e) have_p
      ]);
    })
    cuts.here)
