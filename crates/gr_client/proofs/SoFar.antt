-- The turns of a run: what came so far was taken, and the next turn takes what comes then
use Rattle.std.proofs.Common.{◌≡◌, inl, inr, ℕ, ◌+◌, ◌<◌, ◌≤◌, Bool, true, false, List, [], ◌∷◌, ◌++◌, length, Option, Ok, Err, refl, sym, ap, ap₂, ◌∙◌, subst, arith, append-nil, length-append}
use Rattle.std.proofs.lemmas.Bool.{false≢true}
use Rattle.gr_out.specs.declared.fault.RunFault.{RunFault}
use Rattle.gr_out.specs.Entry.{Entry}
use Rattle.gr_topo.specs.Topology.{TopologyView}
use Rattle.gr_client.specs.Came.{Arrival}
use Rattle.gr_client.specs.Client.{ClientView}
use Rattle.gr_client.specs.Run.{after_all}
use Rattle.gr_client.specs.Ran.{IsRunning, HasEnded, RunsThrough}
use Rattle.gr_client.specs.Turns.{Took, Turned, WentOn}
use Rattle.gr_client.proofs.Heard.{after_publisher}
use Rattle.gr_client.proofs.Taken.{TookAll, runs_later, took_none, took_ok, all_took, took_on, ok_as, err_as}

-- So many arrivals have come while the client ran, and all of them were taken
pub record SoFar (t : TopologyView) (p : ℕ) (tells : Type 0) (count : ℕ) (c c' : ClientView) (taken taken' : Option (List ℕ)) (journal journal' : List Entry) : Type 0 where
  pub came : List Arrival
  pub length_is : length came ≡ count
  pub runs : RunsThrough c came
  pub all : TookAll t p tells came c c' taken taken' journal journal'

-- none yet
pub none_came : (t : TopologyView) (p : ℕ) (tells : Type 0) (c : ClientView) (taken : Option (List ℕ)) (journal : List Entry) → SoFar t p tells 0 c c taken taken journal journal
none_came t p tells c taken journal = record { came = []; length_is = refl; runs = tt; all = took_none t p tells c taken journal }

-- it is the client of the same publisher
pub publisher_so_far : (t : TopologyView) (p : ℕ) (tells : Type 0) (count : ℕ) (c c' : ClientView) (taken taken' : Option (List ℕ)) (journal journal' : List Entry) → SoFar t p tells count c c' taken taken' journal journal'
    → c'.publisher ≡ c.publisher
publisher_so_far t p tells count c c' taken taken' journal journal' s = ap (λ (x : ClientView). x.publisher) s.all.client ∙ after_publisher c s.came

-- a client that runs does so before one arrival
runs_one : (c : ClientView) (more : List Arrival) → length more ≤ 1 → IsRunning c.progress → RunsThrough c more
runs_one c [] few running = tt
runs_one c (a ∷ []) few running = (running, tt)
runs_one c (a ∷ b ∷ more) few running = absurd (omega (arith, few))

runs_on : (c m : ClientView) (came more : List Arrival) → m ≡ after_all c came → RunsThrough c came → length more ≤ 1 → IsRunning m.progress → RunsThrough c (came ++ more)
runs_on c m came more e first few running =
    runs_later c came more first (subst (λ (x : ClientView). RunsThrough x more) e (runs_one m more few running))

-- one turn more
pub more_came : (t : TopologyView) (p : ℕ) (tells : Type 0) (count : ℕ) (c m c' : ClientView) (taken u taken' : Option (List ℕ)) (journal v journal' : List Entry) (goes_on : Bool) → goes_on ≡ true → IsRunning m.progress
    → SoFar t p tells count c m taken u journal v → Turned t p tells m c' u taken' v journal' (Ok goes_on) → SoFar t p tells (count + 1) c c' taken taken' journal journal'
more_came t p tells count c m c' taken u taken' journal v journal' goes_on e running s turned =
    let w : Turned t p tells m c' u taken' v journal' (Ok true) = subst (λ (b : Bool). Turned t p tells m c' u taken' v journal' (Ok b)) e turned in
    let one : length w.came ≡ 1 = w.ends.0 in
    let took : Took {T = Bool} t p tells w.came false m c' u taken' v journal' (Ok true) = subst (λ (b : Bool). Took {T = Bool} t p tells w.came b m c' u taken' v journal' (Ok true)) w.ends.1 w.took in
    record {
      came = s.came ++ w.came;
      length_is = length-append s.came w.came ∙ ap₂ (λ a b. a + b) s.length_is one;
      runs = runs_on c m s.came w.came s.all.client s.runs (omega (arith, one)) running;
      all = all_took {T = Bool} t p tells (s.came ++ w.came) c c' taken taken' journal journal' true
          (took_on {T = Bool} t p tells s.came w.came false c m c' taken u taken' journal v journal' (Ok true) s.all took);
    }

-- How the turns ended

-- there were as many as there may be
pub went_all : (t : TopologyView) (p : ℕ) (tells : Type 0) (count turns : ℕ) (c c' : ClientView) (taken taken' : Option (List ℕ)) (journal journal' : List Entry) (x : Unit {0}) → count ≡ turns
    → SoFar t p tells count c c' taken taken' journal journal' → WentOn t p tells turns c c' taken taken' journal journal' (Ok x)
went_all t p tells count turns c c' taken taken' journal journal' x e s =
    let length_is : length s.came ≡ turns = s.length_is ∙ e in
    record {
      came = s.came;
      shut = false;
      ends = record { within = omega (arith, length_is); runs = s.runs; open_until = λ h. absurd (false≢true h); ended = inr (inl length_is) };
      took = took_ok {T = Unit {0}} t p tells s.came c c' taken taken' journal journal' x s.all;
    }

-- the client had ended
pub went_ended : (t : TopologyView) (p : ℕ) (tells : Type 0) (count turns : ℕ) (c c' : ClientView) (taken taken' : Option (List ℕ)) (journal journal' : List Entry) (x : Unit {0}) → count < turns → HasEnded c'.progress
    → SoFar t p tells count c c' taken taken' journal journal' → WentOn t p tells turns c c' taken taken' journal journal' (Ok x)
went_ended t p tells count turns c c' taken taken' journal journal' x h over s =
    let length_is : length s.came ≡ count = s.length_is in
    record {
      came = s.came;
      shut = false;
      ends = record {
        within = omega (arith, length_is, h);
        runs = s.runs;
        open_until = λ shut. absurd (false≢true shut);
        ended = inr (inr (subst (λ (x : ClientView). HasEnded x.progress) s.all.client over));
      };
      took = took_ok {T = Unit {0}} t p tells s.came c c' taken taken' journal journal' x s.all;
    }

-- nothing comes any more
pub went_shut : (t : TopologyView) (p : ℕ) (tells : Type 0) (count turns : ℕ) (c m c' : ClientView) (taken u taken' : Option (List ℕ)) (journal v journal' : List Entry) (x : Unit {0}) (goes_on : Bool) → goes_on ≡ false → count < turns → IsRunning m.progress
    → SoFar t p tells count c m taken u journal v → Turned t p tells m c' u taken' v journal' (Ok goes_on) → WentOn t p tells turns c c' taken taken' journal journal' (Ok x)
went_shut t p tells count turns c m c' taken u taken' journal v journal' x goes_on e h running s turned =
    let w : Turned t p tells m c' u taken' v journal' (Ok false) = subst (λ (b : Bool). Turned t p tells m c' u taken' v journal' (Ok b)) e turned in
    let length_is : length s.came ≡ count = s.length_is in
    let some : Took {T = Bool} t p tells [] w.shut m c' u taken' v journal' (Ok false) = subst (λ (came : List Arrival). Took {T = Bool} t p tells came w.shut m c' u taken' v journal' (Ok false)) w.ends.0 w.took in
    let took : Took {T = Bool} t p tells [] true m c' u taken' v journal' (Ok false) = subst (λ (b : Bool). Took {T = Bool} t p tells [] b m c' u taken' v journal' (Ok false)) w.ends.1 some in
    let all : Took {T = Bool} t p tells (s.came ++ []) true c c' taken taken' journal journal' (Ok false) = took_on {T = Bool} t p tells s.came [] true c m c' taken u taken' journal v journal' (Ok false) s.all took in
    record {
      came = s.came;
      shut = true;
      ends = record {
        within = omega (arith, length_is, h);
        runs = s.runs;
        open_until = λ shut. subst (λ (x : ClientView). IsRunning x.progress) s.all.client running;
        ended = inl refl;
      };
      took = ok_as {T = Bool} {U = Unit {0}} t p tells s.came true c c' taken taken' journal journal' false x
          (subst (λ (came : List Arrival). Took {T = Bool} t p tells came true c c' taken taken' journal journal' (Ok false)) (append-nil s.came) all);
    }

-- a turn failed
pub went_cut : (t : TopologyView) (p : ℕ) (tells : Type 0) (count turns : ℕ) (c m c' : ClientView) (taken u taken' : Option (List ℕ)) (journal v journal' : List Entry) (e : RunFault) → count < turns → IsRunning m.progress
    → SoFar t p tells count c m taken u journal v → Turned t p tells m c' u taken' v journal' (Err e) → WentOn t p tells turns c c' taken taken' journal journal' (Err e)
went_cut t p tells count turns c m c' taken u taken' journal v journal' e h running s w =
    let length_is : length (s.came ++ w.came) ≡ count + length w.came = length-append s.came w.came ∙ ap (λ (k : ℕ). k + length w.came) s.length_is in
    record {
      came = s.came ++ w.came;
      shut = w.shut;
      ends = record {
        within = omega (arith, length_is, h, w.ends.0);
        runs = runs_on c m s.came w.came s.all.client s.runs w.ends.0 running;
        open_until = λ shut. absurd (false≢true (sym w.ends.1 ∙ shut));
        ended = tt;
      };
      took = err_as {T = Bool} {U = Unit {0}} t p tells (s.came ++ w.came) w.shut c c' taken taken' journal journal' e
          (took_on {T = Bool} t p tells s.came w.came w.shut c m c' taken u taken' journal v journal' (Err e) s.all w.took);
    }
