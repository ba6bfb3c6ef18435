-- What a cut does to a log: it writes a record, or it writes the log anew. What changes is the cut and what is stored, and
-- no event is dropped where the log does not forget
use Rattle.std.proofs.Common.{◌≡◌, ℕ, suc, ◌<◌, Bool, true, false, [], ◌∷◌, refl, sym, ap, subst, le_refl}
use Rattle.std.specs.Prelude.{nat_lt, if◌then◌else◌}
use Rattle.std.proofs.lemmas.Bool.{lt-ltb, le-ltb, ltb-true}
use Rattle.gr_model.specs.declared.report.Report.TheVariants as line
use Rattle.gr_model.specs.Net.{Net, keeps_horizon}
use Rattle.gr_model.specs.Broker.{View, Log, consolidated, done_upto, with_cut, reclaims, filled_log, cut_log_at, cutting, cutting_lines}
use Rattle.gr_model_calls.specs.Rules.{reclaimed_lines}

-- A log that is cut at a tick

-- what holds of the log with a record more, and of the log that is written anew, holds of the log that is cut
pub cut_cases : (reclaim : ℕ) (log : Log) (t : ℕ) (P : Log → Type 0) → P (with_cut log t) → P (filled_log (with_cut log t)) → P (cut_log_at reclaim log t)
cut_cases reclaim log t P longer anew = go (reclaims reclaim log.size log.generation)
  where
    go : (q : Bool) → P (if q then filled_log (with_cut log t) else with_cut log t)
    go true = anew
    go false = longer

pub at_last : (reclaim : ℕ) (log : Log) (t : ℕ) → (cut_log_at reclaim log t).last ≡ log.last
at_last reclaim log t = cut_cases reclaim log t (λ l. l.last ≡ log.last) refl refl

pub at_settled : (reclaim : ℕ) (log : Log) (t : ℕ) → (cut_log_at reclaim log t).settled ≡ log.settled
at_settled reclaim log t = cut_cases reclaim log t (λ l. l.settled ≡ log.settled) refl refl

pub at_cut : (reclaim : ℕ) (log : Log) (t : ℕ) → (cut_log_at reclaim log t).cut ≡ t
at_cut reclaim log t = cut_cases reclaim log t (λ l. l.cut ≡ t) refl refl

pub at_joins : (reclaim : ℕ) (log : Log) (t : ℕ) → (cut_log_at reclaim log t).joins ≡ log.joins
at_joins reclaim log t = cut_cases reclaim log t (λ l. l.joins ≡ log.joins) refl refl

pub at_forgets : (reclaim : ℕ) (log : Log) (t : ℕ) → (cut_log_at reclaim log t).forgets ≡ log.forgets
at_forgets reclaim log t = cut_cases reclaim log t (λ l. l.forgets ≡ log.forgets) refl refl

pub at_events : (reclaim : ℕ) (log : Log) (t : ℕ) → log.forgets ≡ false → (cut_log_at reclaim log t).events ≡ log.events
at_events reclaim log t keeps = cut_cases reclaim log t (λ l. l.events ≡ log.events) (rw keeps refl) (rw keeps refl)

-- the generation rises exactly where the log is written anew
pub at_rises : (reclaim : ℕ) (log : Log) (t : ℕ) → nat_lt log.generation (cut_log_at reclaim log t).generation ≡ reclaims reclaim log.size log.generation
at_rises reclaim log t = go (reclaims reclaim log.size log.generation)
  where
    go : (q : Bool) → (let l : Log = if q then filled_log (with_cut log t) else with_cut log t in nat_lt log.generation l.generation) ≡ q
    go true = lt-ltb log.generation (suc log.generation) (le_refl (suc log.generation))
    go false = le-ltb log.generation log.generation (le_refl log.generation)

-- and then it is the next one
pub at_generation : (reclaim : ℕ) (log : Log) (t : ℕ) → reclaims reclaim log.size log.generation ≡ true → (cut_log_at reclaim log t).generation ≡ suc log.generation
at_generation reclaim log t e = rw e refl

-- The cut of a wake

-- the tick at which a wake cuts, where it is past the last cut
abbrev pub cut_at : Net → ℕ → ℕ → View → Log → ℕ
cut_at net p b v log = done_upto (consolidated (keeps_horizon net p b) v.horizon v.wants) log.settled

-- what holds of the log, and of the log that is cut there, holds of what a wake leaves
pub cutting_cases : (net : Net) (p b : ℕ) (v : View) (log : Log) (P : Log → Type 0) → P log → (log.cut < cut_at net p b v log → P (cut_log_at net.reclaim log (cut_at net p b v log))) → P (cutting net p b v log)
unfolding cutting
cutting_cases net p b v log P same cut = go (nat_lt log.cut (cut_at net p b v log)) refl
  where
    go : (q : Bool) → nat_lt log.cut (cut_at net p b v log) ≡ q → P (if q then cut_log_at net.reclaim log (cut_at net p b v log) else log)
    go true e = cut (ltb-true log.cut (cut_at net p b v log) e)
    go false e = same

pub cutting_last : (net : Net) (p b : ℕ) (v : View) (log : Log) → (cutting net p b v log).last ≡ log.last
cutting_last net p b v log = cutting_cases net p b v log (λ l. l.last ≡ log.last) refl (λ x. at_last net.reclaim log (cut_at net p b v log))

pub cutting_settled : (net : Net) (p b : ℕ) (v : View) (log : Log) → (cutting net p b v log).settled ≡ log.settled
cutting_settled net p b v log = cutting_cases net p b v log (λ l. l.settled ≡ log.settled) refl (λ x. at_settled net.reclaim log (cut_at net p b v log))

pub cutting_joins : (net : Net) (p b : ℕ) (v : View) (log : Log) → (cutting net p b v log).joins ≡ log.joins
cutting_joins net p b v log = cutting_cases net p b v log (λ l. l.joins ≡ log.joins) refl (λ x. at_joins net.reclaim log (cut_at net p b v log))

pub cutting_forgets : (net : Net) (p b : ℕ) (v : View) (log : Log) → (cutting net p b v log).forgets ≡ log.forgets
cutting_forgets net p b v log = cutting_cases net p b v log (λ l. l.forgets ≡ log.forgets) refl (λ x. at_forgets net.reclaim log (cut_at net p b v log))

pub cutting_events : (net : Net) (p b : ℕ) (v : View) (log : Log) → log.forgets ≡ false → (cutting net p b v log).events ≡ log.events
cutting_events net p b v log keeps = cutting_cases net p b v log (λ l. l.events ≡ log.events) refl (λ x. at_events net.reclaim log (cut_at net p b v log) keeps)

-- a log that differs in its cut and in what is stored alone
pub record SameBut (log new : Log) : Type 0 where
  pub last : new.last ≡ log.last
  pub settled : new.settled ≡ log.settled
  pub events : new.events ≡ log.events
  pub joins : new.joins ≡ log.joins
  pub forgets : new.forgets ≡ log.forgets

-- a wake changes nothing else of a log that does not forget
pub cutting_same : (net : Net) (p b : ℕ) (v : View) (log : Log) → log.forgets ≡ false → SameBut log (cutting net p b v log)
cutting_same net p b v log keeps = record {
  last = cutting_last net p b v log;
  settled = cutting_settled net p b v log;
  events = cutting_events net p b v log keeps;
  joins = cutting_joins net p b v log;
  forgets = cutting_forgets net p b v log;
}

-- the cut is the old one, or all up to it is consolidated
pub cutting_cut : (net : Net) (p b : ℕ) (v : View) (log : Log) (P : ℕ → Type 0) → P log.cut → P (cut_at net p b v log) → P (cutting net p b v log).cut
cutting_cut net p b v log P old new = cutting_cases net p b v log (λ l. P l.cut) old (λ x. subst P (sym (at_cut net.reclaim log (cut_at net p b v log))) new)

-- its lines are those of its rule
pub cutting_told : (net : Net) (p b : ℕ) (v : View) (log : Log) → cutting_lines p log (cutting net p b v log) ≡ (if nat_lt log.cut (cut_at net p b v log) then line.Cut p (cut_at net p b v log) ∷ reclaimed_lines net p log else [])
unfolding cutting
cutting_told net p b v log = go (nat_lt log.cut (cut_at net p b v log)) refl
  where
    a : ℕ
    a = cut_at net p b v log

    go : (q : Bool) → nat_lt log.cut a ≡ q → cutting_lines p log (if q then cut_log_at net.reclaim log a else log) ≡ (if q then line.Cut p a ∷ reclaimed_lines net p log else [])
    go true e = yes_cut (reclaims net.reclaim log.size log.generation)
      where
        yes_cut : (r : Bool) → cutting_lines p log (if r then filled_log (with_cut log a) else with_cut log a) ≡ line.Cut p a ∷ (if r then line.Reclaimed p (suc log.generation) ∷ [] else [])
        yes_cut true = rw (e, lt-ltb log.generation (suc log.generation) (le_refl (suc log.generation))) refl
        yes_cut false = rw (e, le-ltb log.generation log.generation (le_refl log.generation)) refl
    go false e = ap (λ q. if q then line.Cut p log.cut ∷ (if nat_lt log.generation log.generation then line.Reclaimed p log.generation ∷ [] else []) else []) (le-ltb log.cut log.cut (le_refl log.cut))
