-- A run, turn by turn: what came so far was taken, and the next turn takes what comes then
use Rattle.std.proofs.Common.{◌≡◌, ◌≢◌, ◌⊎◌, inl, inr, ℕ, ◌+◌, ◌<◌, ◌≤◌, Bool, true, false, List, [], ◌∷◌, ◌++◌, length, drop, Option, Result, Ok, Err, OnOk, refl, sym, ap, ap₂, ◌∙◌, subst, arith, append_assoc, append-nil, length-append}
use Rattle.std.specs.List.{AllByRecursion}
use Rattle.gr_out.specs.declared.fault.RunFault.{RunFault}
use Rattle.gr_out.specs.declared.fault.RunFault.TheVariants as run
use Rattle.gr_out.specs.Entry.{Entry}
use Rattle.gr_out.specs.Lane.{Lane}
use Rattle.gr_out.specs.Page.{TakesFront}
use Rattle.gr_out.proofs.Fronts.{front-nothing}
use Rattle.gr_topo.specs.Topology.{TopologyView}
use Rattle.gr_sched.specs.declared.step.Line.{Line}
use Rattle.gr_model.specs.Net.{Net}
use Rattle.gr_model.specs.NetOf.{net_of}
use Rattle.gr_model.specs.Arrivals.{Arrival, Request, requests_of, left_after}
use Rattle.gr_model.specs.Orders.{ordered}
use Rattle.gr_model_theorems.specs.Served.{IsOfBytes}
use Rattle.gr_report.specs.Named.{IsPutFault}
use Rattle.gr_node.specs.Seen.{NodeView, text_of}
use Rattle.gr_node.specs.Plan.{Act, settles, arrival_acts, acts_from, closing, turn_acts, run_acts}
use Rattle.gr_node.specs.Went.{Outside, outside, Went, IsExact}
use Rattle.gr_node.specs.Turns.{left_behind, Turned}
use Rattle.gr_node.specs.Of.{IsSet, AllStand}
use Rattle.gr_node.specs.Done.{done, all_done, settled}
use Rattle.gr_node.specs.Lasting.{ActsKeep, StoodEachTime}
use Rattle.gr_node.proofs.Lasting.{acts_same, acts_then, kept_on, stood_none, stood_on}
use Rattle.gr_node.proofs.Acting.{all_append}
use Rattle.gr_node.proofs.Wending.{MadeAll, made_none, all_made, went_ok, went_on, went_cut, went_as, went_front, went_settles, begins_nothing}

-- what is left after more came
left_later : (left : List Request) (came more : List Arrival) → left_behind (left_behind left came) more ≡ left_behind left (came ++ more)
unfolding left_behind
left_later left [] more = refl
left_later left (a ∷ came) more = left_later (left_after left a) came more

-- the acts of what came, and then of more
pub acts_later : (net : Net) (hosted : List ℕ) (left : List Request) (came more : List Arrival) → acts_from net hosted left (came ++ more) ≡ acts_from net hosted left came ++ acts_from net hosted (left_behind left came) more
unfolding left_behind acts_from
acts_later net hosted left [] more = refl
acts_later net hosted left (a ∷ came) more =
    ap (λ acts. arrival_acts net hosted left a ++ acts) (acts_later net hosted (left_after left a) came more)
    ∙ sym (append_assoc (arrival_acts net hosted left a) (acts_from net hosted (left_after left a) came) (acts_from net hosted (left_behind (left_after left a) came) more))

-- So many arrivals have come, and all of their acts were made
pub record SoFar (t : TopologyView) (hosted : List ℕ) (tells : Type 0) (steps : List Line) (next count : ℕ) (n n' : NodeView) (o o' : Outside) (P : List Arrival → Type 0) : Type 0 where
  pub came : List Arrival
  pub length_is : length came ≡ count
  pub bytes : AllByRecursion IsOfBytes came
  pub left : requests_of (net_of t) hosted (drop next steps) ≡ left_behind (requests_of (net_of t) hosted steps) came
  pub goes : MadeAll t hosted tells (acts_from (net_of t) hosted (requests_of (net_of t) hosted steps) came) n n' o o'
  pub stood : P came  -- what else holds of what came

-- none yet
pub none_came : (t : TopologyView) (hosted : List ℕ) (tells : Type 0) (steps : List Line) (next : ℕ) (n : NodeView) (o : Outside) (P : List Arrival → Type 0) → requests_of (net_of t) hosted (drop next steps) ≡ requests_of (net_of t) hosted steps
    → P [] → SoFar t hosted tells steps next 0 n n o o P
unfolding left_behind acts_from
none_came t hosted tells steps next n o P e h = record { came = []; length_is = refl; bytes = tt; left = e; goes = made_none t hosted tells n n o o refl refl refl refl; stood = h }

-- a turn's acts stand behind those before
pub turn_acts_are : (t : TopologyView) (hosted : List ℕ) (steps : List Line) (next : ℕ) (came more : List Arrival) (shut : Bool)
    → requests_of (net_of t) hosted (drop next steps) ≡ left_behind (requests_of (net_of t) hosted steps) came
    → acts_from (net_of t) hosted (requests_of (net_of t) hosted steps) came ++ (acts_from (net_of t) hosted (requests_of (net_of t) hosted (drop next steps)) more ++ closing shut) ≡ turn_acts (net_of t) hosted steps (came ++ more) shut
turn_acts_are t hosted steps next came more shut left =
    let before : List Act = acts_from (net_of t) hosted (requests_of (net_of t) hosted steps) came in
    let later : List Act = acts_from (net_of t) hosted (left_behind (requests_of (net_of t) hosted steps) came) more in
    ap (λ (l : List Request). before ++ (acts_from (net_of t) hosted l more ++ closing shut)) left
    ∙ (sym (append_assoc before later (closing shut)) ∙ ap (λ (acts : List Act). acts ++ closing shut) (sym (acts_later (net_of t) hosted (requests_of (net_of t) hosted steps) came more)))

turn_on : {T : Type 0} (t : TopologyView) (hosted : List ℕ) (tells : Type 0) (steps : List Line) (next count : ℕ) (n m n' : NodeView) (o u o' : Outside) (P : List Arrival → Type 0) (came : List Arrival) (shut : Bool) (r : Result T RunFault)
    → (s : SoFar t hosted tells steps next count n m o u P)
    → Went {T = T} t hosted tells (acts_from (net_of t) hosted (requests_of (net_of t) hosted (drop next steps)) came ++ closing shut) m n' u o' r
    → Went {T = T} t hosted tells (turn_acts (net_of t) hosted steps (s.came ++ came) shut) n n' o o' r
turn_on {T} t hosted tells steps next count n m n' o u o' P came shut r s w =
    let before : List Act = acts_from (net_of t) hosted (requests_of (net_of t) hosted steps) s.came in
    let later : List Act = acts_from (net_of t) hosted (left_behind (requests_of (net_of t) hosted steps) s.came) came in
    subst (λ acts. Went {T = T} t hosted tells acts n n' o o' r)
    (sym (append_assoc before later (closing shut)) ∙ ap (λ acts. acts ++ closing shut) (sym (acts_later (net_of t) hosted (requests_of (net_of t) hosted steps) s.came came)))
    (went_on t hosted tells before (later ++ closing shut) n m n' o u o' r s.goes
    (subst (λ left. Went {T = T} t hosted tells (acts_from (net_of t) hosted left came ++ closing shut) m n' u o' r) s.left w))

-- what holds behind a turn, whatever came in it and by what its acts did to the lanes
abbrev pub TurnHolds : (t : TopologyView) (hosted : List ℕ) (keeps : Type 0) (steps : List Line) (next : ℕ) (m : NodeView) (lanes lanes' : ℕ → Lane) (came : List Arrival) (Q : List Arrival → Bool → Type 0) → Type 0
TurnHolds t hosted keeps steps next m lanes lanes' came Q =
    (more : List Arrival) (shut : Bool) → length more ≤ 1
    → (keeps → ActsKeep t hosted m (acts_from (net_of t) hosted (requests_of (net_of t) hosted (drop next steps)) more ++ closing shut) lanes lanes') → Q (came ++ more) shut

-- what the acts so far did to the lanes, and that the logs stood each time that one more came
abbrev pub KeptSoFar : (keeps : Type 0) (t : TopologyView) (hosted : List ℕ) (steps : List Line) (n : NodeView) (first lanes : ℕ → Lane) (came : List Arrival) (shut : Bool) → Type 0
KeptSoFar keeps t hosted steps n first lanes came shut =
    (keeps → ActsKeep t hosted n (turn_acts (net_of t) hosted steps came shut) first lanes) × (keeps → StoodEachTime t hosted steps n came shut lanes)

pub kept_first : (keeps : Type 0) (t : TopologyView) (hosted : List ℕ) (steps : List Line) (n : NodeView) (first : ℕ → Lane) → KeptSoFar keeps t hosted steps n first first [] false
kept_first keeps t hosted steps n first = ((λ h. acts_same t hosted n (turn_acts (net_of t) hosted steps [] false) first), (λ h. stood_none t hosted steps n false first))

pub kept_turn : (keeps : Type 0) (t : TopologyView) (hosted : List ℕ) (steps : List Line) (next : ℕ) (n m : NodeView) (came : List Arrival) (first lanes lanes' : ℕ → Lane)
    → KeptSoFar keeps t hosted steps n first lanes came false → m ≡ (all_done t hosted n (acts_from (net_of t) hosted (requests_of (net_of t) hosted steps) came)).node
    → requests_of (net_of t) hosted (drop next steps) ≡ left_behind (requests_of (net_of t) hosted steps) came → IsSet t hosted m → (keeps → AllStand lanes m)
    → TurnHolds t hosted keeps steps next m lanes lanes' came (KeptSoFar keeps t hosted steps n first lanes')
kept_turn keeps t hosted steps next n m came first lanes lanes' sofar is left set stand more shut one keep =
    let turn : List Act = acts_from (net_of t) hosted (requests_of (net_of t) hosted (drop next steps)) more ++ closing shut in
    let acts = turn_acts_are t hosted steps next came more shut left in (
      (λ h. kept_on t hosted steps n m came more shut turn lanes lanes' is acts (keep h) first (sofar.0 h)),
      (λ h. stood_on t hosted steps n m came more shut turn lanes lanes' is acts (keep h) one (sofar.1 h) set (stand h)),
    )

-- one turn more
pub more_came : (t : TopologyView) (hosted : List ℕ) (tells : Type 0) (steps : List Line) (next next' count : ℕ) (n m n' : NodeView) (o u o' : Outside) (keeps : Type 0) (lanes lanes' : ℕ → Lane) (P : List Arrival → Type 0) (Q : List Arrival → Bool → Type 0) (goes_on : Bool) → goes_on ≡ true → (s : SoFar t hosted tells steps next count n m o u P)
    → Turned t hosted tells keeps steps next next' m n' u o' lanes lanes' (Ok goes_on) → TurnHolds t hosted keeps steps next m lanes lanes' s.came Q → SoFar t hosted tells steps next' (count + 1) n n' o o' (λ came. Q came false)
more_came t hosted tells steps next next' count n m n' o u o' keeps lanes lanes' P Q goes_on e s turned holds =
    let w : Turned t hosted tells keeps steps next next' m n' u o' lanes lanes' (Ok true) = subst (λ (b : Bool). Turned t hosted tells keeps steps next next' m n' u o' lanes lanes' (Ok b)) e turned in
    let went : Went {T = Bool} t hosted tells (turn_acts (net_of t) hosted steps (s.came ++ w.came) w.shut) n n' o o' (Ok true) = turn_on t hosted tells steps next count n m n' o u o' P w.came w.shut (Ok true) s w.went in
    let all : List Act = acts_from (net_of t) hosted (requests_of (net_of t) hosted steps) (s.came ++ w.came) in
    record {
      came = s.came ++ w.came;
      length_is = length-append s.came w.came ∙ ap₂ (λ a b. a + b) s.length_is w.ends.0;
      bytes = all_append IsOfBytes s.came w.came s.bytes w.bytes;
      left = w.left ∙ ap (λ left. left_behind left w.came) s.left ∙ left_later (requests_of (net_of t) hosted steps) s.came w.came;
      goes = subst (λ acts. MadeAll t hosted tells acts n n' o o') (ap (λ shut. all ++ closing shut) w.ends.1 ∙ append-nil all)
          (all_made t hosted tells (turn_acts (net_of t) hosted steps (s.came ++ w.came) w.shut) n n' o o' true went);
      stood = subst (Q (s.came ++ w.came)) w.ends.1 (holds w.came w.shut (omega (arith, w.ends.0)) w.kept);
    }

-- How a run ended: what came, whether nothing comes any more, and its acts as far as they were made
abbrev pub Ran : (t : TopologyView) (hosted : List ℕ) (tells : Type 0) (steps : List Line) (turns : ℕ) (n n' : NodeView) (o o' : Outside) (P : List Arrival → Bool → Type 0) (result : Result (Unit {0}) RunFault) → Type 0
Ran t hosted tells steps turns n n' o o' P result =
    (came : List Arrival) × ((shut : Bool) × ((length came ≤ turns) × (AllByRecursion IsOfBytes came × (OnOk result ((shut ≡ true) ⊎ (length came ≡ turns))
    × (Went {T = Unit {0}} t hosted tells (turn_acts (net_of t) hosted steps came shut) n n' o o' result × P came shut)))))

-- with as many turns as it may have
pub ran_all : (t : TopologyView) (hosted : List ℕ) (tells : Type 0) (steps : List Line) (next count turns : ℕ) (n n' : NodeView) (o o' : Outside) (P : List Arrival → Bool → Type 0) (x : Unit {0}) → count ≡ turns → SoFar t hosted tells steps next count n n' o o' (λ came. P came false)
    → Ran t hosted tells steps turns n n' o o' P (Ok x)
ran_all t hosted tells steps next count turns n n' o o' P x e s =
    let all : List Act = acts_from (net_of t) hosted (requests_of (net_of t) hosted steps) s.came in
    let length_is : length s.came ≡ turns = s.length_is ∙ e in (
      s.came,
      (
        false,
        (
          omega (arith, length_is),
          (
            s.bytes,
            (
              inr length_is,
              (
                subst (λ acts. Went {T = Unit {0}} t hosted tells acts n n' o o' (Ok x)) (sym (append-nil all)) (went_ok t hosted tells all n n' o o' x s.goes),
                s.stood,
              ),
            ),
          ),
        ),
      ),
    )

-- since nothing comes any more
pub ran_shut : (t : TopologyView) (hosted : List ℕ) (tells : Type 0) (steps : List Line) (next next' count turns : ℕ) (n m n' : NodeView) (o u o' : Outside) (keeps : Type 0) (lanes lanes' : ℕ → Lane) (P : List Arrival → Type 0) (Q : List Arrival → Bool → Type 0) (x : Unit {0}) (goes_on : Bool) → goes_on ≡ false → count < turns → (s : SoFar t hosted tells steps next count n m o u P)
    → Turned t hosted tells keeps steps next next' m n' u o' lanes lanes' (Ok goes_on) → TurnHolds t hosted keeps steps next m lanes lanes' s.came Q → Ran t hosted tells steps turns n n' o o' Q (Ok x)
ran_shut t hosted tells steps next next' count turns n m n' o u o' keeps lanes lanes' P Q x goes_on e h s turned holds =
    let w : Turned t hosted tells keeps steps next next' m n' u o' lanes lanes' (Ok false) = subst (λ (b : Bool). Turned t hosted tells keeps steps next next' m n' u o' lanes lanes' (Ok b)) e turned in
    let all : List Act = turn_acts (net_of t) hosted steps (s.came ++ w.came) w.shut in
    let length_is : length (s.came ++ w.came) ≡ count = ap (λ xs. length (s.came ++ xs)) w.ends.0 ∙ ap length (append-nil s.came) ∙ s.length_is in (
      s.came ++ w.came,
      (
        w.shut,
        (
          omega (arith, length_is, h),
          (
            all_append IsOfBytes s.came w.came s.bytes w.bytes,
            (
              inl w.ends.1,
              (
                went_ok t hosted tells all n n' o o' x (all_made t hosted tells all n n' o o' false (turn_on t hosted tells steps next count n m n' o u o' P w.came w.shut (Ok false) s w.went)),
                holds w.came w.shut (omega (arith, ap length w.ends.0)) w.kept,
              ),
            ),
          ),
        ),
      ),
    )

-- by a fault
pub ran_cut : (t : TopologyView) (hosted : List ℕ) (tells : Type 0) (steps : List Line) (next next' count turns : ℕ) (n m n' : NodeView) (o u o' : Outside) (keeps : Type 0) (lanes lanes' : ℕ → Lane) (P : List Arrival → Type 0) (Q : List Arrival → Bool → Type 0) (e : RunFault) → count < turns → (s : SoFar t hosted tells steps next count n m o u P)
    → Turned t hosted tells keeps steps next next' m n' u o' lanes lanes' (Err e) → TurnHolds t hosted keeps steps next m lanes lanes' s.came Q → Ran t hosted tells steps turns n n' o o' Q (Err e)
ran_cut t hosted tells steps next next' count turns n m n' o u o' keeps lanes lanes' P Q e h s w holds =
    let all : List Act = turn_acts (net_of t) hosted steps (s.came ++ w.came) w.shut in
    let length_is : length (s.came ++ w.came) ≡ count + length w.came = length-append s.came w.came ∙ ap (λ k. k + length w.came) s.length_is in (
      s.came ++ w.came,
      (
        w.shut,
        (
          omega (arith, length_is, h, w.ends.0),
          (
            all_append IsOfBytes s.came w.came s.bytes w.bytes,
            (
              tt,
              (
                went_as {T = Bool} {U = Unit {0}} t hosted tells all n n' o o' e (turn_on t hosted tells steps next count n m n' o u o' P w.came w.shut (Err e) s w.went),
                holds w.came w.shut w.ends.0 w.kept,
              ),
            ),
          ),
        ),
      ),
    )

-- before its first turn, for want of memory
pub ran_none : (t : TopologyView) (hosted : List ℕ) (tells : Type 0) (steps : List Line) (turns : ℕ) (n : NodeView) (o : Outside) (P : List Arrival → Bool → Type 0) → P [] false → Ran t hosted tells steps turns n n o o P (Err run.Memory)
ran_none t hosted tells steps turns n o P h = (
  [],
  (
    false,
    (
      omega arith,
      (
        tt,
        (
          tt,
          (
            went_front t hosted tells (turn_acts (net_of t) hosted steps [] false) n n o o run.Memory tt
                (front-nothing o.taken o.taken _ refl) (λ h. begins_nothing o.journal o.journal _ refl),
            h,
          ),
        ),
      ),
    ),
  ),
)

-- Before the first turn it is told what is ready in one order
abbrev pub RanAll : (t : TopologyView) (hosted : List ℕ) (tells : Type 0) (steps : List Line) (turns : ℕ) (n n' : NodeView) (o o' : Outside) (P : List Arrival → Bool → Type 0) (result : Result (Unit {0}) RunFault) → Type 0
RanAll t hosted tells steps turns n n' o o' P result =
    (came : List Arrival) × ((shut : Bool) × ((length came ≤ turns) × (AllByRecursion IsOfBytes came × (OnOk result ((shut ≡ true) ⊎ (length came ≡ turns))
    × (Went {T = Unit {0}} t hosted tells (run_acts (net_of t) hosted steps came shut) n n' o o' result × P came shut)))))

-- what a run did to the lanes, from there on
abbrev pub KeptRun : (keeps : Type 0) (t : TopologyView) (hosted : List ℕ) (steps : List Line) (n : NodeView) (first lanes : ℕ → Lane) (came : List Arrival) (shut : Bool) → Type 0
KeptRun keeps t hosted steps n first lanes came shut =
    (keeps → ActsKeep t hosted n (run_acts (net_of t) hosted steps came shut) first lanes) × (keeps → StoodEachTime t hosted steps (settled n) came shut lanes)

pub kept_settled : (keeps : Type 0) (t : TopologyView) (hosted : List ℕ) (steps : List Line) (n m : NodeView) (first lanes : ℕ → Lane) → m ≡ settled n → (came : List Arrival) (shut : Bool)
    → KeptSoFar keeps t hosted steps m first lanes came shut → KeptRun keeps t hosted steps n first lanes came shut
unfolding all_done done
kept_settled keeps t hosted steps n m first lanes e came shut k = (
  (λ h. acts_then t hosted n m (settles ∷ []) (turn_acts (net_of t) hosted steps came shut) first first lanes (acts_same t hosted n (settles ∷ []) first) e (k.0 h)),
  (λ h. subst (λ x. StoodEachTime t hosted steps x came shut lanes) e (k.1 h)),
)

pub kept_unsettled : (keeps : Type 0) (t : TopologyView) (hosted : List ℕ) (steps : List Line) (n : NodeView) (lanes : ℕ → Lane) → KeptRun keeps t hosted steps n lanes lanes [] false
kept_unsettled keeps t hosted steps n lanes = ((λ h. acts_same t hosted n (run_acts (net_of t) hosted steps [] false) lanes), (λ h. stood_none t hosted steps (settled n) false lanes))

-- that was told, and then come the turns
pub ran_settled : (t : TopologyView) (hosted : List ℕ) (tells : Type 0) (steps : List Line) (turns : ℕ) (n m n' : NodeView) (o u o' : Outside) (P Q : List Arrival → Bool → Type 0) (r : Result (Unit {0}) RunFault)
    → MadeAll t hosted tells (settles ∷ []) n m o u → ((came : List Arrival) (shut : Bool) → P came shut → Q came shut) → Ran t hosted tells steps turns m n' u o' P r → RanAll t hosted tells steps turns n n' o o' Q r
ran_settled t hosted tells steps turns n m n' o u o' P Q r a holds x = (
  x.0,
  (
    x.1.0,
    (
      x.1.1.0,
      (
        x.1.1.1.0,
        (
          x.1.1.1.1.0,
          (
            went_on t hosted tells (settles ∷ []) (turn_acts (net_of t) hosted steps x.0 x.1.0) n m n' o u o' r a x.1.1.1.1.1.0,
            holds x.0 x.1.0 x.1.1.1.1.1.1,
          ),
        ),
      ),
    ),
  ),
)

-- a fault of putting lines is none of the post
put_not_post : (e : RunFault) → IsPutFault e → e ≢ run.Post
put_not_post e h is = subst IsPutFault is h

-- it was not told, or only a front of it
pub ran_unsettled : (t : TopologyView) (hosted : List ℕ) (tells : Type 0) (steps : List Line) (turns : ℕ) (n n' : NodeView) (taken taken' : Option (List ℕ)) (held held' : List ℕ) (journal : List Entry) (P : List Arrival → Bool → Type 0) (e : RunFault)
    → IsPutFault e → TakesFront taken taken' (held ++ text_of t (ordered n.orders)) → P [] false
    → RanAll t hosted tells steps turns n n' (outside taken held journal) (outside taken' held' journal) P (Err e)
ran_unsettled t hosted tells steps turns n n' taken taken' held held' journal P e why front h = (
  [],
  (
    false,
    (
      omega arith,
      (
        tt,
        (
          tt,
          (
            went_cut t hosted tells (settles ∷ []) (turn_acts (net_of t) hosted steps [] false) n n' (outside taken held journal) (outside taken' held' journal) e (put_not_post e why)
                (went_settles t hosted tells n n' taken taken' held held' journal e why front),
            h,
          ),
        ),
      ),
    ),
  ),
)

-- where the page was empty it is so unless the fault is one of those behind which it is written, or nothing is said of it
pub empty_then : (e : RunFault) (held held' : List ℕ) → ((p at : ℕ) → ◌≢◌ {A = Result Bool RunFault} (Err e) (Err (run.Damaged p at))) → (◌≡◌ {A = Result Bool RunFault} (Err e) (Err run.Post) → held' ≡ held) → held ≡ []
    → IsExact {T = Unit {0}} (Err e) → ◌≢◌ {A = Result (Unit {0}) RunFault} (Err e) (Err run.Disk) → held' ≡ []
empty_then run.Memory held held' whole post empty exact other = absurd exact
empty_then run.Write held held' whole post empty exact other = absurd exact
empty_then run.Disk held held' whole post empty exact other = absurd (other refl)
empty_then (run.Damaged p at) held held' whole post empty exact other = absurd (whole p at refl)
empty_then run.Post held held' whole post empty exact other = post refl ∙ empty
