-- The lines of a run's turns are `next` lines, each of a number that a note among what came gave
use Rattle.std.proofs.Common.{◌≡◌, inl, inr, ℕ, List, [], ◌∷◌, ◌++◌, Option, Some, None, refl, ap, ◌∙◌, subst}
use Rattle.std.specs.List.{AllByRecursion}
use Rattle.gr_topo.specs.Topology.{TopologyView}
use Rattle.gr_client.specs.Came.{Arrival}
use Rattle.gr_client.specs.Client.{ClientView}
use Rattle.gr_client.specs.Run.{after_one, told_in, told_line, next_line, turns_text}
use Rattle.gr_client.specs.Laws.{CameAmong, PrintsWhatCame}
use Rattle.gr_client.proofs.Heard.{one_publisher, told_where_it_came}

-- with one arrival before them they are among what came too
gave_behind : (c : ClientView) (a : Arrival) (came : List Arrival) (numbers : List ℕ) → AllByRecursion (λ n. CameAmong (after_one c a).publisher n came) numbers → AllByRecursion (λ n. CameAmong c.publisher n (a ∷ came)) numbers
gave_behind c a came [] gave = tt
gave_behind c a came (n ∷ numbers) gave = (inr (subst (λ (q : ℕ). CameAmong q n came) (one_publisher c a) gave.0), gave_behind c a came numbers gave.1)

-- what one arrival tells stands before them
prints_more : (t : TopologyView) (p : ℕ) (c : ClientView) (a : Arrival) (came : List Arrival) (told : Option ℕ) → told_in c a ≡ told → PrintsWhatCame t p (after_one c a) came → PrintsWhatCame t p c (a ∷ came)
unfolding turns_text
prints_more t p c a came None e more = record {
  numbers = more.numbers;
  lines = ap (λ (o : Option ℕ). told_line t p o ++ turns_text t p (after_one c a) came) e ∙ more.lines;
  gave = gave_behind c a came more.numbers more.gave;
}
prints_more t p c a came (Some n) e more = record {
  numbers = n ∷ more.numbers;
  lines = ap (λ (o : Option ℕ). told_line t p o ++ turns_text t p (after_one c a) came) e ∙ ap (λ (xs : List ℕ). next_line t p n ++ xs) more.lines;
  gave = (inl (told_where_it_came c a n e), gave_behind c a came more.numbers more.gave);
}

pub prints_what_came : (t : TopologyView) (p : ℕ) (c : ClientView) (came : List Arrival) → PrintsWhatCame t p c came
unfolding turns_text
prints_what_came t p c [] = record { numbers = []; lines = refl; gave = tt }
prints_what_came t p c (a ∷ came) = prints_more t p c a came (told_in c a) refl (prints_what_came t p (after_one c a) came)
