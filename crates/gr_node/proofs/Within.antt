-- Acts that are made in a loop: so many of a list were made, and these are left
use Rattle.std.proofs.Common.{◌≡◌, ◌≢◌, ℕ, ◌+◌, ◌-◌, ◌<◌, ◌≤◌, List, [], ◌∷◌, ◌++◌, map, length, get_or, drop, Result, Ok, Err, refl, sym, ap, ◌∙◌, subst, arith, add-one, append_assoc, append-nil}
use Rattle.std.specs.Prelude.{flat_map}
use Rattle.std.proofs.lemmas.List.{map-append, drop_all}
use Rattle.std.proofs.Math.Seq.{drop-cons}
use Rattle.gr_out.specs.declared.fault.RunFault.{RunFault}
use Rattle.gr_out.specs.declared.fault.RunFault.TheVariants as run
use Rattle.gr_out.specs.Lane.{Lane}
use Rattle.gr_topo.specs.Topology.{TopologyView}
use Rattle.gr_model.specs.Net.{numbers_from}
use Rattle.gr_report.proofs.Along.{numbers_left}
use Rattle.gr_node.specs.Seen.{NodeView}
use Rattle.gr_node.specs.Plan.{Call, Act, calls, wakes, wake_calls}
use Rattle.gr_node.specs.Done.{all_done}
use Rattle.gr_node.specs.Went.{Outside, Went}
use Rattle.gr_node.specs.Lasting.{ActsKeep}
use Rattle.gr_node.proofs.Lasting.{node_behind, acts_same, acts_front, acts_then}
use Rattle.gr_node.proofs.Wending.{MadeAll, made_none, made_on, all_made, went_ok, went_on, went_cut}

-- of all these acts those before the ones that are left were made
pub record Within (t : TopologyView) (hosted : List ℕ) (tells : Type 0) (all left : List Act) (n n' : NodeView) (o o' : Outside) : Type 0 where
  pub acts : List Act
  pub parts : acts ++ left ≡ all
  pub goes : MadeAll t hosted tells acts n n' o o'

-- none yet
pub within_none : (t : TopologyView) (hosted : List ℕ) (tells : Type 0) (all left : List Act) (n : NodeView) (o : Outside) → left ≡ all → Within t hosted tells all left n n o o
within_none t hosted tells all left n o e = record { acts = []; parts = e; goes = made_none t hosted tells n n o o refl refl refl refl }

-- some more
pub within_more : {T : Type 0} (t : TopologyView) (hosted : List ℕ) (tells : Type 0) (all left next more : List Act) (n m n' : NodeView) (o u o' : Outside) (x : T) → left ≡ next ++ more
    → Within t hosted tells all left n m o u → Went {T = T} t hosted tells next m n' u o' (Ok x) → Within t hosted tells all more n n' o o'
within_more t hosted tells all left next more n m n' o u o' x e w g = record {
  acts = w.acts ++ next;
  parts = append_assoc w.acts next more ∙ ap (λ xs. w.acts ++ xs) (sym e) ∙ w.parts;
  goes = made_on t hosted tells w.acts next n m n' o u o' w.goes (all_made t hosted tells next m n' u o' x g);
}

-- some more, as far as code went
pub within_cut : {T : Type 0} (t : TopologyView) (hosted : List ℕ) (tells : Type 0) (all left next more : List Act) (n m n' : NodeView) (o u o' : Outside) (e : RunFault) → left ≡ next ++ more → e ≢ run.Post
    → Within t hosted tells all left n m o u → Went {T = T} t hosted tells next m n' u o' (Err e) → Went {T = T} t hosted tells all n n' o o' (Err e)
within_cut {T} t hosted tells all left next more n m n' o u o' e is other w g =
    subst (λ acts. Went {T = T} t hosted tells acts n n' o o' (Err e)) (ap (λ xs. w.acts ++ xs) (sym is) ∙ w.parts)
    (went_on t hosted tells w.acts (next ++ more) n m n' o u o' (Err e) w.goes (went_cut t hosted tells next more m n' u o' e other g))

-- all
pub within_all : {T : Type 0} (t : TopologyView) (hosted : List ℕ) (tells : Type 0) (all left : List Act) (n n' : NodeView) (o o' : Outside) (x : T) → left ≡ []
    → Within t hosted tells all left n n' o o' → Went {T = T} t hosted tells all n n' o o' (Ok x)
within_all {T} t hosted tells all left n n' o o' x e w =
    subst (λ acts. Went {T = T} t hosted tells acts n n' o o' (Ok x)) (sym (append-nil w.acts) ∙ ap (λ xs. w.acts ++ xs) (sym e) ∙ w.parts)
    (went_ok t hosted tells w.acts n n' o o' x w.goes)

-- The calls that are left of a loop

-- a broker's wakes from a publisher on
abbrev pub wakes_from : ℕ → ℕ → ℕ → List Act
wakes_from b p publishers = map calls (map (wakes b) (numbers_from p (publishers - p)))

pub wakes_all : (b publishers : ℕ) → wakes_from b 0 publishers ≡ map calls (wake_calls publishers b)
wakes_all b publishers = let e : publishers - 0 ≡ publishers = omega arith in ap (λ k. map calls (map (wakes b) (numbers_from 0 k))) e

pub wakes_more : (b p publishers : ℕ) → p < publishers → wakes_from b p publishers ≡ (calls (wakes b p) ∷ []) ++ wakes_from b (p + 1) publishers
wakes_more b p publishers h = ap (λ ps. map calls (map (wakes b) ps)) (numbers_left p publishers h)

pub wakes_none : (b p publishers : ℕ) → p ≡ publishers → wakes_from b p publishers ≡ []
wakes_none b p publishers e = let z : publishers - p ≡ 0 = omega arith in ap (λ k. map calls (map (wakes b) (numbers_from p k))) z

-- the wakes of some brokers
abbrev pub wakes_of : ℕ → List ℕ → List Act
wakes_of publishers bs = map calls (flat_map (wake_calls publishers) bs)

-- the brokers from a place on are the one there and those behind it
broker_there : (bs : List ℕ) (i : ℕ) → i < length bs → drop i bs ≡ get_or bs i 0 ∷ drop (i + 1) bs
broker_there bs i h = drop-cons bs i 0 h ∙ ap (λ k. get_or bs i 0 ∷ drop k bs) (sym (add-one i))

pub wakes_of_more : (publishers i : ℕ) (bs : List ℕ) → i < length bs → wakes_of publishers (drop i bs) ≡ map calls (wake_calls publishers (get_or bs i 0)) ++ wakes_of publishers (drop (i + 1) bs)
wakes_of_more publishers i bs h =
    ap (wakes_of publishers) (broker_there bs i h)
    ∙ map-append (λ x. calls x) (wake_calls publishers (get_or bs i 0)) (flat_map (wake_calls publishers) (drop (i + 1) bs))

pub wakes_of_none : (publishers i : ℕ) (bs : List ℕ) → length bs ≤ i → wakes_of publishers (drop i bs) ≡ []
wakes_of_none publishers i bs h = ap (wakes_of publishers) (drop_all i bs h)

-- no acts are all made
pub went_nothing : {T : Type 0} (t : TopologyView) (hosted : List ℕ) (tells : Type 0) (acts : List Act) (n : NodeView) (o : Outside) (x : T) → acts ≡ [] → Went {T = T} t hosted tells acts n n o o (Ok x)
went_nothing t hosted tells acts n o x e = within_all t hosted tells acts acts n n o o x e (within_none t hosted tells acts acts n o refl)

-- Calls, and then others

pub calls_on : {T U : Type 0} (t : TopologyView) (hosted : List ℕ) (tells : Type 0) (xs ys : List Call) (n m n' : NodeView) (o u o' : Outside) (x : U) (r : Result T RunFault)
    → Went {T = U} t hosted tells (map calls xs) n m o u (Ok x) → Went {T = T} t hosted tells (map calls ys) m n' u o' r → Went {T = T} t hosted tells (map calls (xs ++ ys)) n n' o o' r
calls_on {T} t hosted tells xs ys n m n' o u o' x r a w = subst (λ acts. Went {T = T} t hosted tells acts n n' o o' r) (sym (map-append (λ c. calls c) xs ys))
    (went_on t hosted tells (map calls xs) (map calls ys) n m n' o u o' r (all_made t hosted tells (map calls xs) n m o u x a) w)

pub calls_cut : {T : Type 0} (t : TopologyView) (hosted : List ℕ) (tells : Type 0) (xs ys : List Call) (n n' : NodeView) (o o' : Outside) (e : RunFault) → e ≢ run.Post
    → Went {T = T} t hosted tells (map calls xs) n n' o o' (Err e) → Went {T = T} t hosted tells (map calls (xs ++ ys)) n n' o o' (Err e)
calls_cut {T} t hosted tells xs ys n n' o o' e other w = subst (λ acts. Went {T = T} t hosted tells acts n n' o o' (Err e)) (sym (map-append (λ c. calls c) xs ys))
    (went_cut t hosted tells (map calls xs) (map calls ys) n n' o o' e other w)

-- What the acts that were made did to the lanes

-- acts that were all made, and then others
pub kept_then : {T : Type 0} (t : TopologyView) (hosted : List ℕ) (tells : Type 0) (xs ys : List Act) (n m : NodeView) (o u : Outside) (x : T) (a b c : ℕ → Lane)
    → Went {T = T} t hosted tells xs n m o u (Ok x) → ActsKeep t hosted n xs a b → ActsKeep t hosted m ys b c → ActsKeep t hosted n (xs ++ ys) a c
kept_then t hosted tells xs ys n m o u x a b c w one two = acts_then t hosted n m xs ys a b c one (all_made t hosted tells xs n m o u x w).node two

-- the same of calls
pub calls_kept : {T : Type 0} (t : TopologyView) (hosted : List ℕ) (tells : Type 0) (xs ys : List Call) (n m : NodeView) (o u : Outside) (x : T) (a b c : ℕ → Lane)
    → Went {T = T} t hosted tells (map calls xs) n m o u (Ok x) → ActsKeep t hosted n (map calls xs) a b → ActsKeep t hosted m (map calls ys) b c → ActsKeep t hosted n (map calls (xs ++ ys)) a c
calls_kept t hosted tells xs ys n m o u x a b c w one two = subst (λ acts. ActsKeep t hosted n acts a c) (sym (map-append (λ c. calls c) xs ys)) (kept_then t hosted tells (map calls xs) (map calls ys) n m o u x a b c w one two)

pub calls_kept_front : (t : TopologyView) (hosted : List ℕ) (xs ys : List Call) (n : NodeView) (a b : ℕ → Lane) → ActsKeep t hosted n (map calls xs) a b → ActsKeep t hosted n (map calls (xs ++ ys)) a b
calls_kept_front t hosted xs ys n a b k = subst (λ acts. ActsKeep t hosted n acts a b) (sym (map-append (λ c. calls c) xs ys)) (acts_front t hosted n (map calls xs) (map calls ys) a b k)

-- of all these acts those before the ones that are left were made
pub record WithinKept (t : TopologyView) (hosted : List ℕ) (all left : List Act) (n n' : NodeView) (lanes lanes' : ℕ → Lane) : Type 0 where
  pub made : List Act
  pub parts : made ++ left ≡ all
  pub node : n' ≡ (all_done t hosted n made).node
  pub keep : ActsKeep t hosted n made lanes lanes'

pub kept_none : (t : TopologyView) (hosted : List ℕ) (all left : List Act) (n : NodeView) (lanes : ℕ → Lane) → left ≡ all → WithinKept t hosted all left n n lanes lanes
unfolding all_done
kept_none t hosted all left n lanes e = record { made = []; parts = e; node = refl; keep = acts_same t hosted n [] lanes }

pub kept_more : {T : Type 0} (t : TopologyView) (hosted : List ℕ) (tells : Type 0) (all left next more : List Act) (n m n' : NodeView) (u o' : Outside) (x : T) (a b c : ℕ → Lane) → left ≡ next ++ more
    → WithinKept t hosted all left n m a b → Went {T = T} t hosted tells next m n' u o' (Ok x) → ActsKeep t hosted m next b c → WithinKept t hosted all more n n' a c
kept_more t hosted tells all left next more n m n' u o' x a b c e w g k = record {
  made = w.made ++ next;
  parts = append_assoc w.made next more ∙ (ap (λ xs. w.made ++ xs) (sym e) ∙ w.parts);
  node = (all_made t hosted tells next m n' u o' x g).node ∙ (ap (λ (k : NodeView). (all_done t hosted k next).node) w.node ∙ sym (node_behind t hosted n w.made next));
  keep = acts_then t hosted n m w.made next a b c w.keep w.node k;
}

pub kept_cut : (t : TopologyView) (hosted : List ℕ) (all left next more : List Act) (n m : NodeView) (a b c : ℕ → Lane) → left ≡ next ++ more
    → WithinKept t hosted all left n m a b → ActsKeep t hosted m next b c → ActsKeep t hosted n all a c
kept_cut t hosted all left next more n m a b c e w k =
    subst (λ acts. ActsKeep t hosted n acts a c) (ap (λ xs. w.made ++ xs) (sym e) ∙ w.parts)
    (acts_then t hosted n m w.made (next ++ more) a b c w.keep w.node (acts_front t hosted m next more b c k))

pub kept_all : (t : TopologyView) (hosted : List ℕ) (all left : List Act) (n n' : NodeView) (a b : ℕ → Lane) → left ≡ [] → WithinKept t hosted all left n n' a b → ActsKeep t hosted n all a b
kept_all t hosted all left n n' a b e w = subst (λ acts. ActsKeep t hosted n acts a b) (sym (append-nil w.made) ∙ (ap (λ xs. w.made ++ xs) (sym e) ∙ w.parts)) w.keep
