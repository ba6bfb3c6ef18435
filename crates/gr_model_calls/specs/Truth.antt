-- What is true of a tick at a broker, or at the edge to it
use Rattle.std.specs.Prelude.{◌≡◌, ℕ, ◌≤◌, Bool, true, false, List, [], ◌∷◌, ◌++◌, Option, Some, None}
use Rattle.gr_event.specs.declared.event.Event.{Event}
use Rattle.gr_event.specs.Joins.{Joins, NoneBelow}
use Rattle.gr_know.specs.declared.values.K.{K}
use Rattle.gr_know.specs.declared.values.K.TheVariants.{Q, S, D, F}
use Rattle.gr_curio.specs.declared.values.Q3.TheVariants.{N, A}
use Rattle.gr_tick.specs.Runs.{AreRuns}
use Rattle.gr_know.specs.Values.{Known, known_at}
use Rattle.gr_curio.specs.Values.{Wanted, wanted_at}
use Rattle.gr_model.specs.Net.{Net, is_host, wanted_below}
use Rattle.gr_model.specs.Tree.{is_below}

-- what was logged for a publisher, and how far each subscriber has come
pub record Facts : Type 0 where
  pub settled : ℕ
  pub said : ℕ → Option Event
  pub reached : ℕ → ℕ
  pub joined : Joins  -- of late subscribers, as they were logged

-- an event was logged at the tick that the subscriber wants
abbrev pub concerns : Net → Facts → ℕ → ℕ → ℕ → Bool
concerns net f p s t = elim (f.said t) [ None ↦ false | Some e ↦ net.wants p s t e ]

-- silence: no event was logged that a subscriber here or beyond wants; at the host none at all
pub record TrueS (net : Net) (f : Facts) (p b t : ℕ) : Type 0 where
  pub settled : t ≤ f.settled
  pub none : (s : ℕ) → is_below net p b s ≡ true → concerns net f p s t ≡ false
  pub silent : is_host net p b ≡ true → f.said t ≡ None

-- an event: it was logged, and below the host some subscriber here or beyond wants it
pub record TrueD (net : Net) (f : Facts) (p b t : ℕ) (e : Event) : Type 0 where
  pub settled : t ≤ f.settled
  pub logged : f.said t ≡ Some e
  pub wanted : is_host net p b ≡ false → wanted_below net p b t e ≡ true

-- final: each subscriber here or beyond that wants what was logged has come past the tick
pub record TrueF (net : Net) (f : Facts) (p b t : ℕ) : Type 0 where
  pub settled : t ≤ f.settled
  pub told : (s : ℕ) → is_below net p b s ≡ true → concerns net f p s t ≡ true → t ≤ f.reached s

-- what a value says of a tick at a broker is so
abbrev pub IsTrueAt : Net → Facts → ℕ → ℕ → ℕ → K → Type 0
IsTrueAt net f p b t Q = Unit {0}
IsTrueAt net f p b t S = TrueS net f p b t
IsTrueAt net f p b t (D e) = TrueD net f p b t e
IsTrueAt net f p b t F = TrueF net f p b t

-- canonical, and true at each tick
pub record KnowsTruth (net : Net) (f : Facts) (p b : ℕ) (know : Known) : Type 0 where
  pub runs : AreRuns Q know
  pub each : (t : ℕ) → IsTrueAt net f p b t (known_at know t)

-- canonical, and each A is true of the child
pub record WantsTruth (net : Net) (f : Facts) (p c : ℕ) (w : Wanted) : Type 0 where
  pub runs : AreRuns N w
  pub each : (t : ℕ) → wanted_at w t ≡ A → TrueF net f p c t

-- of each child
abbrev pub AllWantTruth : Net → Facts → ℕ → List ℕ → List Wanted → Type 0
AllWantTruth net f p [] [] = Unit {0}
AllWantTruth net f p (c ∷ cs) (w ∷ ws) = WantsTruth net f p c w × AllWantTruth net f p cs ws
AllWantTruth net f p [] (w ∷ ws) = ⊥
AllWantTruth net f p (c ∷ cs) [] = ⊥

-- an event is known at a tick
abbrev pub HasEvent : Known → ℕ → Type 0
HasEvent know t = (e : Event) × (known_at know t ≡ D e)

-- what is held is a front of the joins that were logged, and none below the tick of a known event is missing
pub record Holds (now js : Joins) (Event : ℕ → Type 0) : Type 0 where
  pub rest : Joins
  pub front : now ≡ js ++ rest
  pub above : (t : ℕ) → Event t → NoneBelow t rest

-- more joins were logged, past what was settled
abbrev pub Grows : Joins → Joins → ℕ → Type 0
Grows old new settled = (more : Joins) × (new ≡ old ++ more) × NoneBelow settled more

-- later facts: more was logged past what was settled, and the subscribers came further
pub record IsLater (f g : Facts) : Type 0 where
  pub settled : f.settled ≤ g.settled
  pub said : (t : ℕ) → t ≤ f.settled → g.said t ≡ f.said t
  pub reached : (s : ℕ) → f.reached s ≤ g.reached s
  pub joined : Grows f.joined g.joined f.settled
