use Rattle.std.proofs.Common.{◌≡◌, ℕ, ◌<◌, ◌≤◌, length, take, drop, List, ◌∷◌}
use Rattle.gr_tick.specs.declared.run.Run.{Run}
use Rattle.gr_tick.specs.Stored.{EndBefore}
use Rattle.gr_know.specs.declared.values.K.{K}
use Rattle.gr_know.specs.Values.{known_at}
use Rattle.gr_know.proofs.Walks.{HasNews}
use Rattle.gr_know.proofs.news.put_news.Given as goal

-- what is new of the run before the next tick is put, and the runs that are known from there on end at that tick or later
abbrev pub invariant-loop-i : goal.invariant-loop-i
invariant-loop-i l = record {
  within : l.i ≤ length l.stream.runs;
  forward : l.run.first ≤ l.next;
  front : EndBefore (take l.i l.stream.runs) l.next;
  here : (r : Run K) (rs : List (Run K)) → drop l.i l.stream.runs ≡ r ∷ rs → l.next ≤ r.last;
  news : HasNews (known_at l.stream.runs) l.run (known_at l.initial.fresh) (known_at l.fresh) l.next;
  past : (t : ℕ) → l.next ≤ t → EndBefore l.fresh t;
  past_run : (t : ℕ) → l.run.last < t → EndBefore l.fresh t;
}
