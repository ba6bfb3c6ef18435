-- What is learned with a record: with it the knowledge is that of the log with the record
use Rattle.std.proofs.Common.{◌≡◌, ◌≢◌, ◌⊎◌, inl, inr, ℕ, ◌+◌, ◌-◌, ◌^◌, ◌≤◌, ◌<◌, Bool, true, false, ◌&&◌, List, [], ◌∷◌, refl, sym, ap, ap₂, ◌∙◌, subst, arith}
use Rattle.std.specs.Prelude.{nat_eq, nat_le, nat_lt, if◌then◌else◌}
use Rattle.std.proofs.lemmas.Bool.{false≢true, and_parts, cases_lt, le-leb, lt-leb, ltb-true}
use Rattle.gr_event.specs.declared.event.Event.{Event}
use Rattle.gr_tick.specs.Runs.{AreRuns, is_in}
use Rattle.gr_tick.specs.Stored.{within, EndBefore, RunsGive}
use Rattle.gr_tick.proofs.Canonical.{given_runs}
use Rattle.gr_know.specs.declared.values.K.{K}
use Rattle.gr_know.specs.declared.values.K.TheVariants.{Q, S, D, F}
use Rattle.gr_know.specs.Values.{Known, known_at, join_K}
use Rattle.gr_publog.specs.declared.record.Record.{Record}
use Rattle.gr_publog.specs.declared.record.Record.TheVariants as entry
use Rattle.gr_publog.specs.declared.record.State.{State}
use Rattle.gr_publog.specs.State.{LogState, numbers, footing, may_settle, may_enter, may_follow, max_tick}
use Rattle.gr_publog.specs.Views.{LogView, appended, reclaimed}
use Rattle.gr_pubend.specs.Log.{Log, said, with_cut, event_at, log_at, log_know, silence, Stays}
use Rattle.gr_pubend.specs.Cuts.{cut_reclaims, cut_view}
use Rattle.gr_pubend.specs.Answers.{IsNews}
use Rattle.gr_pubend.specs.End.{EndView, end_of}
use Rattle.gr_pubend.proofs.Knowing.{log_know-is, known_by, within_above, silence_at, at_tick, up_to_event, at_event, at_mark, at_cut}
use Rattle.gr_pubend.proofs.Found.{pairs_past, said_more}

S≢Q : S ≢ Q
S≢Q = λ e. cc

D≢Q : (e : Event) → D e ≢ Q
D≢Q e = λ h. cc

S≢D : (e : Event) → S ≢ D e
S≢D e = λ h. cc

D≢S : (e : Event) → D e ≢ S
D≢S e = λ h. cc

-- silence alone is canonical, and silence up to an event
pub silence_runs : (first last : ℕ) → 1 ≤ first → AreRuns Q (silence first last [])
unfolding silence
silence_runs first last one =
    elim (cases_lt last first) [
      | inl h ↦ subst (λ b. AreRuns Q (if b then record { first = first; last = last; value = S } ∷ [] else [])) (sym (lt-leb first last h)) tt
      | inr h ↦ subst (λ b. AreRuns Q (if b then record { first = first; last = last; value = S } ∷ [] else [])) (sym (le-leb first last h)) (one, h, S≢Q, tt, tt)
    ]

pub event_runs : (first tick : ℕ) (e : Event) → 1 ≤ first → first ≤ tick → AreRuns Q (up_to_event first tick e)
unfolding silence
event_runs first tick e one le =
    elim (cases_lt (tick - 1) first) [
      | inl h ↦ subst (λ b. AreRuns Q (if b then record { first = first; last = tick - 1; value = S } ∷ (at_tick tick e ∷ []) else at_tick tick e ∷ [])) (sym (lt-leb first (tick - 1) h)) (omega arith, omega arith, D≢Q e, tt, tt)
      | inr h ↦ subst (λ b. AreRuns Q (if b then record { first = first; last = tick - 1; value = S } ∷ (at_tick tick e ∷ []) else at_tick tick e ∷ [])) (sym (le-leb first (tick - 1) h)) (one, h, S≢Q, λ _. D≢S e, (omega arith, omega arith, D≢Q e, tt, tt))
    ]

-- The pieces that are made

-- one run of silence
pub silent_is : (first last : ℕ) (none p : Known) → 1 ≤ first → first ≤ last → none ≡ [] → RunsGive Q p (λ t. if is_in t (record { first = first; last = last; value = S }) then S else known_at none t) → p ≡ silence first last []
silent_is first last none p one le e g =
    given_runs Q p (silence first last []) (λ t. if is_in t (record { first = first; last = last; value = S }) then S else known_at none t) g (silence_runs first last one)
    (λ t. silence_at first last t [] ∙ ap (λ x. if within first last t then S else known_at x t) (sym e))

-- no run
pub not_silent : (first last : ℕ) → last < first → [] ≡ silence first last []
unfolding silence
not_silent first last h = sym (ap (λ b. if b then record { first = first; last = last; value = S } ∷ [] else []) (lt-leb first last h))

-- an event behind silence
pub silent_then_is : (first tick : ℕ) (e v : Event) (p q : Known) → 1 ≤ first → first ≤ tick → v ≡ e → p ≡ silence first (tick - 1) [] → RunsGive Q q (λ t. if is_in t (record { first = tick; last = tick; value = D v }) then D v else known_at p t) → q ≡ up_to_event first tick e
silent_then_is first tick e v p q one le same e0 g = given_runs Q q (up_to_event first tick e) _ g (event_runs first tick e one le) (λ t.
    silence_at first (tick - 1) t (at_tick tick e ∷ [])
    ∙ either t (cases_lt t tick) (within first (tick - 1) t) refl
    ∙ ap (λ x. if is_in t (at_tick tick e) then D x else (if within first (tick - 1) t then S else Q)) (sym same)
    ∙ ap (λ k. if is_in t (at_tick tick e) then D v else k) (sym (ap (λ x. known_at x t) e0 ∙ silence_at first (tick - 1) t [])))
  where
    either : (t : ℕ) → (t < tick) ⊎ (tick ≤ t) → (b : Bool) → within first (tick - 1) t ≡ b → (if b then S else (if is_in t (at_tick tick e) then D e else Q)) ≡ (if is_in t (at_tick tick e) then D e else (if b then S else Q))
    either t h false w = refl
    either t (inl h) true w = sym (ap (λ x. if x && nat_le t tick then D e else S) (lt-leb tick t h))
    either t (inr h) true w = absurd (false≢true (sym (within_above first (tick - 1) t (omega arith)) ∙ w))

-- A piece that is learned, by what it is
pub joined_with : (p q old room new : Known) → room ≡ old → p ≡ q → RunsGive Q new (λ t. join_K (known_at room t) (known_at p t)) → RunsGive Q new (λ t. join_K (known_at old t) (known_at q t))
joined_with p q old room new s e g = record {
  canonical = g.canonical;
  in_range = g.in_range;
  values = λ t. g.values t ∙ ap (λ x. join_K (known_at x t) (known_at p t)) s ∙ ap (λ x. join_K (known_at old t) (known_at x t)) e;
}

-- What is known with one more record

-- a record that brings what is new may follow
pub news_follow : (state : LogState) (r : Record) (fresh : Known) → IsNews state r fresh → may_follow state r ≡ true
news_follow state (entry.Event tick number v) fresh news = news.0
news_follow state (entry.Mark tick) fresh news = news.0
news_follow state (entry.Cut tick) fresh news = absurd news
news_follow state (entry.Join tick s) fresh news = news.0

-- a tick that may be settled is past what is
pub settles : (s : State) (tick : ℕ) → may_settle s tick ≡ true → s.settled < tick
settles s tick may = ltb-true s.settled tick (and_parts (nat_lt s.settled tick) (nat_le tick max_tick) may).0

-- runs that a piece was joined to have what the join is said to have, and those with final ticks what these are said to have
pub joined_says : (mine old fresh new : Known) (g : ℕ → K) → old ≡ mine → RunsGive Q new (λ t. join_K (known_at old t) (known_at fresh t)) → ((t : ℕ) → join_K (known_at mine t) (known_at fresh t) ≡ g t) → RunsGive Q new g
joined_says mine old fresh new g e given says = record {
  canonical = given.canonical;
  in_range = given.in_range;
  values = λ t. given.values t ∙ ap (λ k. join_K (known_at k t) (known_at fresh t)) e ∙ says t;
}

pub finished_says : (mine old new : Known) (upto : ℕ) (g : ℕ → K) → old ≡ mine → RunsGive Q new (λ t. if within 1 upto t then F else known_at old t) → ((t : ℕ) → (if within 1 upto t then F else known_at mine t) ≡ g t) → RunsGive Q new g
finished_says mine old new upto g e given says = record {
  canonical = given.canonical;
  in_range = given.in_range;
  values = λ t. given.values t ∙ ap (λ k. if within 1 upto t then F else known_at k t) e ∙ says t;
}

module _ (l : LogView) (know : Known) (e : know ≡ log_know (said l)) (h : Stays (said l)) where
  before : (t : ℕ) → known_at know t ≡ log_at (said l) t
  before t = ap (λ k. known_at k t) e ∙ (log_know-is (said l)).same_at t

  -- with what is new of a record it is what the log with the record says
  pub says_news : (r : Record) (fresh : Known) → IsNews l.state r fresh → (t : ℕ) → join_K (known_at know t) (known_at fresh t) ≡ log_at (said (appended r l)) t
  says_news (entry.Event tick number v) fresh news t =
      let past : l.state.settled < tick = settles (numbers l.state) tick (and_parts (may_settle (numbers l.state) tick) (nat_eq number (l.state.last + 1)) news.0).0 in
      ap₂ (λ k f. join_K k (known_at f t)) (before t) news.1
      ∙ at_event (said l) h tick t v past
      ∙ sym (ap (λ (log : Log). log_at log t) (said_more l (entry.Event tick number v) news.0))
  says_news (entry.Mark tick) fresh news t =
      let past : l.state.settled < tick = settles (numbers l.state) tick news.0 in
      ap₂ (λ k f. join_K k (known_at f t)) (before t) news.1
      ∙ at_mark (said l) h tick t (omega (arith, past))
  says_news (entry.Cut tick) fresh news t = absurd news
  says_news (entry.Join tick x) fresh news t =
      let past : l.state.settled < tick = settles (numbers l.state) tick (and_parts (may_settle (numbers l.state) tick) (may_enter (footing l.state) x) news.0).0 in
      ap₂ (λ k f. join_K k (known_at f t)) (before t) news.1
      ∙ at_mark (said l) h tick t (omega (arith, past))

  -- a log that is cut says the same, whether it is written anew or not
  cut_says : (b : Bool) (tick t : ℕ) → log_at (said (if b then reclaimed tick l else appended (entry.Cut tick) l)) t ≡ log_at (with_cut (said l) tick) t
  cut_says b tick t = go b (ap (λ (es : List (ℕ × Event)). if nat_le 1 t && nat_le t l.state.settled then (if nat_le t tick then F else event_at es t) else Q) (pairs_past tick l.state.events))
    where
      go : (b : Bool) → log_at (said (appended (entry.Cut tick) l)) t ≡ log_at (with_cut (said l) tick) t → log_at (said (if b then reclaimed tick l else appended (entry.Cut tick) l)) t ≡ log_at (with_cut (said l) tick) t
      go true same = same
      go false same = same

  -- with all up to a tick final it is what the log cut there says
  pub says_cut : (reclaim tick : ℕ) → l.state.cut < tick → tick ≤ l.state.settled → (t : ℕ)
      → (if within 1 tick t then F else known_at know t) ≡ log_at (said (cut_view reclaim tick l)) t
  says_cut reclaim tick past upto t =
      ap (λ k. if within 1 tick t then F else k) (before t)
      ∙ at_cut (said l) h tick t (omega (arith, past)) upto
      ∙ sym (cut_says (cut_reclaims l reclaim) tick t)

-- silence ends before a later tick
pub silence_ends : (first last t : ℕ) → last < t → EndBefore (silence first last []) t
unfolding silence
silence_ends first last t h = by_test (nat_le first last)
  where
    by_test : (b : Bool) → EndBefore {V = K} (if b then record { first = first; last = last; value = S } ∷ [] else []) t
    by_test true = (h, tt)
    by_test false = tt

-- The endpoint of a log

-- what is known is that of the log
pub end_holds : (log target : LogView) (new : Known) → RunsGive Q new (log_at (said target)) → log ≡ target → new ≡ log_know (said log)
end_holds log target new g e = known_by (said target) new g ∙ ap (λ (l : LogView). log_know (said l)) (sym e)

-- so it is the endpoint
pub end_is : (log target : LogView) (new : Known) → RunsGive Q new (log_at (said target)) → log ≡ target → ◌≡◌ {A = EndView} (record { log = log; know = new }) (end_of target)
end_is log target new g e =
    let make : LogView → Known → EndView = λ l k. record { log = l; know = k } in
    ap₂ make e (known_by (said target) new g)

-- what is known has at each tick what the log says
pub known_gives : (log : Log) (know : Known) → know ≡ log_know log → AreRuns Q know → EndBefore know (2 ^ 62 + 1) → RunsGive Q know (log_at log)
known_gives log know e a b = record { canonical = a; in_range = b; values = λ t. ap (λ k. known_at k t) e ∙ (log_know-is log).same_at t }
