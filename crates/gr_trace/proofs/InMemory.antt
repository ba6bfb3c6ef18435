-- What acts tell and offer in memory is gathered whole, where it is known what was done
use Rattle.std.proofs.Common.{◌≡◌, inl, inr, ℕ, List, [], ◌∷◌, ◌++◌, length, Some, Result, Ok, Err, OnOk, IfErr, refl, sym, ap, ap₂, ◌∙◌, subst, arith, append_assoc, append-nil}
use Rattle.std.specs.Prelude.{IsErrOf, IsSome}
use Rattle.gr_out.specs.declared.fault.RunFault.{RunFault}
use Rattle.gr_out.specs.declared.fault.RunFault.TheVariants as run
use Rattle.gr_out.specs.Entry.{Entry}
use Rattle.gr_out.specs.Lane.{Lane}
use Rattle.gr_out.specs.Bytes.{with_more}
use Rattle.gr_out.specs.Page.{TakesBut}
use Rattle.gr_topo.specs.Topology.{TopologyView}
use Rattle.gr_model.specs.Orders.{ordered}
use Rattle.gr_report.specs.Named.{IsPutFault}
use Rattle.gr_model.proofs.Ordering.{rested_keeps}
use Rattle.gr_node.specs.Keeps.{IsServing}
use Rattle.gr_node.specs.Seen.{NodeView, broker_in, text_of}
use Rattle.gr_node.specs.Plan.{Act}
use Rattle.gr_node.specs.Done.{all_done, settled}
use Rattle.gr_node.specs.Starting.{Started, Found}
use Rattle.gr_node.specs.Went.{outside, Went, IsExact, IsCallFault, IsTurnFault, DiskMoves, fault_entries}
use Rattle.gr_trace.specs.declared.gathering.Gathered.{Gathered}
use Rattle.gr_trace.specs.declared.offers.Offer.{Offer}
use Rattle.gr_trace.specs.Offered.{entries_of}
use Rattle.gr_trace.specs.Gathered.{IsEmpty, Gathers, Opens, EndsAs, Ends}

pub some_same : (x y : List ℕ) → Some x ≡ Some y → x ≡ y
some_same x y h = cc

-- what memory took of a text, and what is on its way
pub told_all : (a b text held : List ℕ) → TakesBut (Some a) (Some b) text held → b ++ held ≡ a ++ text
told_all a b text held t =
    ap (λ xs. xs ++ held) (some_same b (a ++ t.part) t.taken) ∙ (append_assoc a t.part held ∙ ap (λ xs. a ++ xs) (sym t.whole))

-- How it ends

-- with the lines on their way behind the others
pub ends_exact : {T : Type 0} (done : Result T RunFault) (l h l' h' : List ℕ) → IsExact done → Some l' ≡ with_more (Some l) h → h' ≡ [] → Ends done done l h l' h'
ends_exact done l h l' h' x taken empty = inl (record { same = refl; exact = x; whole = some_same l' (l ++ h) taken; empty = empty })

err_same : {T : Type 0} (e f : RunFault) → ◌≡◌ {A = Result T RunFault} (Err e) (Err f) → e ≡ f
err_same e f h = cc

-- a fault but want of memory is that of the call
pub fault_end : {T : Type 0} (done result : Result T RunFault) (l h l' h' : List ℕ) (f : RunFault) → (run.Memory ≡ f → ⊥) → Ends done result l h l' h' → result ≡ Err f → done ≡ Err f
fault_end done result l h l' h' f other (inl e) is = sym e.same ∙ is
fault_end done result l h l' h' f other (inr e) is = absurd (other (err_same run.Memory f (sym e ∙ is)))

exact_end : {T : Type 0} (done result : Result T RunFault) (l h l' h' : List ℕ) → Ends done result l h l' h' → IsExact result → EndsAs done result l h l' h'
exact_end done result l h l' h' (inl e) x = e
exact_end {T} done result l h l' h' (inr e) x = absurd (subst (λ (r : Result T RunFault). IsExact r) e x)

pub ok_end : {T : Type 0} (done result : Result T RunFault) (l h l' h' : List ℕ) (P : Type 0) → Ends done result l h l' h' → OnOk done P → OnOk result P
ok_end {T} done result l h l' h' P (inl e) k = subst (λ (r : Result T RunFault). OnOk r P) (sym e.same) k
ok_end {T} done result l h l' h' P (inr e) k = subst (λ (r : Result T RunFault). OnOk r P) (sym e) tt

call_fault : {T : Type 0} (r : Result T RunFault) → IsExact r → IfErr r IsTurnFault → IfErr r IsCallFault
call_fault (Ok x) e k = tt
call_fault (Err run.Memory) e k = tt
call_fault (Err run.Disk) e k = tt
call_fault (Err run.Write) e k = absurd e
call_fault (Err run.Post) e k = absurd k
call_fault (Err (run.Damaged p at)) e k = absurd k

pub cause_end : {T : Type 0} (done result : Result T RunFault) (l h l' h' : List ℕ) → Ends done result l h l' h' → IfErr done IsTurnFault → IfErr result IsCallFault
cause_end {T} done result l h l' h' (inl e) k = subst (λ (r : Result T RunFault). IfErr r IsCallFault) (sym e.same) (call_fault done e.exact k)
cause_end {T} done result l h l' h' (inr e) k = subst (λ (r : Result T RunFault). IfErr r IsCallFault) (sym e) tt

memory_disk : {T : Type 0} → ◌≡◌ {A = Result T RunFault} (Err run.Memory) (Err run.Disk) → ⊥
memory_disk h = cc

pub moves_end : {T : Type 0} (f s f' s' : ℕ) (done result : Result T RunFault) (l h l' h' : List ℕ) → Ends done result l h l' h' → DiskMoves f s f' s' done → DiskMoves f s f' s' result
moves_end {T} f s f' s' done result l h l' h' (inl e) m = subst (λ (r : Result T RunFault). DiskMoves f s f' s' r) (sym e.same) m
moves_end {T} f s f' s' done result l h l' h' (inr e) m = subst (λ (r : Result T RunFault). DiskMoves f s f' s' r) (sym e) (record {
  faults_never_fall = m.faults_never_fall;
  stops_never_fall = m.stops_never_fall;
  same = λ d w k. absurd (k refl);
  rose = λ k. absurd (memory_disk k);
})

-- where lines were put behind a call that came through, the disk has not failed

pub put_kind : {T : Type 0} (r : Result T RunFault) (f : RunFault) → IfErr r IsPutFault → r ≡ Err f → IsPutFault f
put_kind {T} r f cause is = subst (λ (q : Result T RunFault). IfErr q IsPutFault) is cause

ok_disk : {T : Type 0} (x : T) → ◌≡◌ {A = Result T RunFault} (Ok x) (Err run.Disk) → ⊥
ok_disk x h = cc

pub moves_put : {T : Type 0} (f s f' s' : ℕ) (r : Result T RunFault) → (f' ≡ f) × (s' ≡ s) → IfErr r IsPutFault → DiskMoves f s f' s' r
moves_put f s f' s' (Ok x) e cause = record { faults_never_fall = omega (arith, e.0); stops_never_fall = omega (arith, e.1); same = λ d w m. e; rose = λ k. absurd (ok_disk x k) }
moves_put {T} f s f' s' (Err x) e cause = record { faults_never_fall = omega (arith, e.0); stops_never_fall = omega (arith, e.1); same = λ d w m. e; rose = λ k. absurd (put_kind {T = T} (Err x) run.Disk cause k) }

-- What is gathered

-- such a call puts no failure into a post
no_fault : {T : Type 0} (r : Result T RunFault) → IfErr r IsTurnFault → fault_entries r ≡ []
no_fault (Ok x) k = refl
no_fault (Err run.Memory) k = refl
no_fault (Err run.Disk) k = refl
no_fault (Err run.Write) k = refl
no_fault (Err run.Post) k = absurd k
no_fault (Err (run.Damaged p at)) k = absurd k

nothing_behind : (es fs : List Entry) → fs ≡ [] → es ++ fs ≡ es
nothing_behind es fs e = ap (λ (xs : List Entry). es ++ xs) e ∙ append-nil es

pub gathers_of : {T : Type 0} (t : TopologyView) (hosted : List ℕ) (acts : List Act) (n n' : NodeView) (g : Gathered) (lines page : List ℕ) (offers : List Offer) (lines' page' : List ℕ) (done result : Result T RunFault)
    → IsEmpty g → Went t hosted (Unit {0}) acts n n' (outside (Some g.lines.held) g.page.held (entries_of g.offers)) (outside (Some lines) page (entries_of offers)) done
    → IfErr done IsTurnFault → Ends done result lines page lines' page' → IsExact result → Gathers t hosted acts n n' lines' offers result
gathers_of {T} t hosted acts n n' g lines page offers lines' page' done result empty w cause e x =
    let z = exact_end done result lines page lines' page' e x in
    let text = text_of t (all_done t hosted n w.made).lines in
    record {
      made = w.made;
      left = w.left;
      parts = w.parts;
      whole = subst (λ (r : Result T RunFault). OnOk r (w.left ≡ [])) (sym z.same) w.whole;
      node = λ none. w.node z.exact none;
      told = z.whole ∙ (told_all g.lines.held lines (g.page.held ++ text) page (w.told z.exact) ∙ ap₂ (λ (xs ys : List ℕ). xs ++ (ys ++ text)) empty.lines empty.page);
      sent = w.sent z.exact tt ∙ (ap (λ (os : List Offer). entries_of os ++ ((all_done t hosted n w.made).entries ++ fault_entries done)) empty.offers
          ∙ nothing_behind (all_done t hosted n w.made).entries (fault_entries done) (no_fault done cause));
      refused = λ k. w.refused (subst (λ (r : Result T RunFault). IsErrOf r run.Disk) z.same k);
    }

-- The starts

pub opens_all : {T : Type 0} (t : TopologyView) (hosted : List ℕ) (tells : Type 0) (o n' : NodeView) (told lines held page : List ℕ) (before : ℕ → Lane) (r : Result T RunFault)
    → ((u : T) → Started {T = T} t hosted o (outside (Some []) [] []) (outside (Some told) [] []) (Ok u)) → o.offers ≡ 0 → o.now ≡ 0 → length o.brokers ≡ length t.brokers
    → (tells → (b : ℕ) → IsSome (broker_in o b) → Found t o (b ∷ []) before)
    → held ≡ [] → OnOk r (Some lines ≡ with_more (Some told) (held ++ text_of t (ordered o.orders))) → OnOk r (page ≡ []) → OnOk r (n' ≡ settled o) → IfErr r IsPutFault → IsExact r
    → Opens t hosted tells n' (lines ++ page) before r
opens_all t hosted tells o n' told lines held page before (Ok u) started offers now count found none taken empty node cause exact =
    let text = text_of t (ordered o.orders) in
    record {
      opened = o;
      told = told;
      started = started u;
      whole = ap₂ (λ (xs ys : List ℕ). xs ++ ys) (some_same lines (told ++ (held ++ text)) taken) empty
          ∙ (append-nil (told ++ (held ++ text)) ∙ ap (λ (hs : List ℕ). told ++ (hs ++ text)) none);
      cut = tt;
      node = node;
      offers = offers;
      now = now;
      count = count;
      found = found;
    }
opens_all t hosted tells o n' told lines held page before (Err run.Memory) started offers now count found none taken empty node cause exact = absurd exact
opens_all t hosted tells o n' told lines held page before (Err run.Write) started offers now count found none taken empty node cause exact = absurd exact
opens_all t hosted tells o n' told lines held page before (Err run.Disk) started offers now count found none taken empty node cause exact = absurd cause
opens_all t hosted tells o n' told lines held page before (Err run.Post) started offers now count found none taken empty node cause exact = absurd cause
opens_all t hosted tells o n' told lines held page before (Err (run.Damaged p at)) started offers now count found none taken empty node cause exact = absurd cause

pub opens_cut : {T : Type 0} (t : TopologyView) (hosted : List ℕ) (tells : Type 0) (o : NodeView) (told page : List ℕ) (before : ℕ → Lane) (e : RunFault)
    → page ≡ [] → Started {T = T} t hosted o (outside (Some []) [] []) (outside (Some told) [] []) (Err e) → o.offers ≡ 0 → o.now ≡ 0 → length o.brokers ≡ length t.brokers
    → (tells → (b : ℕ) → IsSome (broker_in o b) → Found t o (b ∷ []) before) → Opens {T = T} t hosted tells o (told ++ page) before (Err e)
opens_cut t hosted tells o told page before e empty started offers now count found = record {
  opened = o;
  told = told;
  started = started;
  whole = tt;
  cut = ap (λ (xs : List ℕ). told ++ xs) empty ∙ append-nil told;
  node = tt;
  offers = offers;
  now = now;
  count = count;
  found = found;
}

-- and the lines on their way behind them
pub opens_end : {T : Type 0} (t : TopologyView) (hosted : List ℕ) (tells : Type 0) (n' : NodeView) (before : ℕ → Lane) (done result : Result T RunFault) (l h l' h' : List ℕ)
    → Ends done result l h l' h' → (IsExact done → Opens t hosted tells n' (l ++ h) before done) → IsExact result → Opens t hosted tells n' l' before result
opens_end {T} t hosted tells n' before done result l h l' h' e o x =
    let z = exact_end done result l h l' h' e x in
    subst (λ (xs : List ℕ). Opens t hosted tells n' xs before result) (sym z.whole)
    (subst (λ (r : Result T RunFault). Opens t hosted tells n' (l ++ h) before r) (sym z.same) (o z.exact))

-- over empty pages
pub started_empty : {T : Type 0} (t : TopologyView) (hosted : List ℕ) (o : NodeView) (lines page told : List ℕ) (r : Result T RunFault) → lines ≡ [] → page ≡ []
    → Started {T = T} t hosted o (outside (Some lines) page []) (outside (Some told) [] []) r → Started {T = T} t hosted o (outside (Some []) [] []) (outside (Some told) [] []) r
started_empty {T} t hosted o lines page told r e f s =
    subst (λ (xs : List ℕ). Started {T = T} t hosted o (outside (Some xs) [] []) (outside (Some told) [] []) r) e
    (subst (λ (xs : List ℕ). Started {T = T} t hosted o (outside (Some lines) xs []) (outside (Some told) [] []) r) f s)

-- Between two calls

-- what is ready in one order has no part in how a node serves
pub serving_settled : (t : TopologyView) (hosted : List ℕ) (tells : Type 0) (lanes : ℕ → Lane) (n n' : NodeView) (r : Result (Unit {0}) RunFault) → OnOk r (n' ≡ settled n) → IsServing t hosted tells lanes n → OnOk r (IsServing t hosted tells lanes n')
serving_settled t hosted tells lanes n n' (Ok x) e s = subst (IsServing t hosted tells lanes) (sym e) (record {
  set = record {
    fits = record { count = s.set.fits.count; now = s.set.fits.now; fits = s.set.fits.fits; numbered = s.set.fits.numbered; whole = s.set.fits.whole };
    hosts = s.set.hosts;
    orders = rested_keeps t n.orders s.set.orders;
  };
  stands = s.stands;
})
serving_settled t hosted tells lanes n n' (Err x) e s = tt
