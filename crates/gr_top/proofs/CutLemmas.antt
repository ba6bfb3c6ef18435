-- What was taken of a replay that was cut off: nothing, or a front of a report that meets the headline
use Rattle.std.proofs.Common.{◌≡◌, inl, inr, ℕ, List, Option, Some, None, IfSome, sym, subst}
use Rattle.gr_out.specs.Bytes.{with_more}
use Rattle.gr_out.specs.Page.{TakesFront}
use Rattle.gr_sched.specs.declared.step.Line.{Line}
use Rattle.gr_topo.specs.Topology.{TopologyView}
use Rattle.gr_model.specs.NetOf.{net_of}
use Rattle.gr_model.specs.World.{report_of}
use Rattle.gr_scenario.specs.declared.asked.Asked.{Asked}
use Rattle.gr_scenario.specs.declared.asked.Asked.TheVariants as asked
use Rattle.gr_replay.specs.Replayed.{replayed_text}
use Rattle.gr_top.specs.Top.{MeetsHeadline, WasReplayed, AtMostCut}

-- where the sink is as it was, nothing was taken
pub cut_nothing : (old new : Option (List ℕ)) (a : Asked) → new ≡ old → AtMostCut old new a
cut_nothing old new (asked.Scenario t lines) e = inl e
cut_nothing old new asked.TooManyBytes e = tt
cut_nothing old new asked.TooManySteps e = tt
cut_nothing old new (asked.Refused line) e = tt

pub cut_nothing_of : (old new : Option (List ℕ)) (left : Option (List ℕ)) (by : List ℕ → Asked) → new ≡ old → IfSome left (λ bytes. AtMostCut old new (by bytes))
cut_nothing_of old new None by e = tt
cut_nothing_of old new (Some bytes) by e = cut_nothing old new (by bytes) e

-- a front of the machine's report is one of a report that meets the headline
pub cut_front : (old new : Option (List ℕ)) (a : Asked) (t : TopologyView) (lines : List Line) → a ≡ asked.Scenario t lines → MeetsHeadline t lines (report_of (net_of t) lines) → TakesFront old new (replayed_text t lines) → AtMostCut old new a
cut_front old new a t lines e meets front = subst (AtMostCut old new) (sym e) (inr (record { report = report_of (net_of t) lines; meets = meets; front = front }))

-- nothing else that was asked for has a report
pub cut_bytes : (old new : Option (List ℕ)) (a : Asked) → a ≡ asked.TooManyBytes → AtMostCut old new a
cut_bytes old new a e = subst (AtMostCut old new) (sym e) tt

pub cut_steps : (old new : Option (List ℕ)) (a : Asked) → a ≡ asked.TooManySteps → AtMostCut old new a
cut_steps old new a e = subst (AtMostCut old new) (sym e) tt

pub cut_refused : (old new : Option (List ℕ)) (a : Asked) (line : List ℕ) → a ≡ asked.Refused line → AtMostCut old new a
cut_refused old new a line e = subst (AtMostCut old new) (sym e) tt

-- the machine's report that was taken whole is one that meets the headline
pub taken_whole : (old new : Option (List ℕ)) (a : Asked) (t : TopologyView) (lines : List Line) → a ≡ asked.Scenario t lines → MeetsHeadline t lines (report_of (net_of t) lines) → new ≡ with_more old (replayed_text t lines) → WasReplayed old new a
taken_whole old new a t lines e meets taken = record { topology = t; lines = lines; schedule = e; report = report_of (net_of t) lines; meets = meets; taken = taken }
