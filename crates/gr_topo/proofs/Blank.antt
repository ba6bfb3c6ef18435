-- The blank topology is sound
use Rattle.std.proofs.Common.{◌≡◌, ℕ, zero, suc, ◌<◌, Bool, true, false, List, [], ◌∷◌, get_or, Option, Some, refl, ⊎_elim, arith}
use Rattle.std.proofs.lemmas.Bool.{false≢true, or_cases}
use Rattle.gr_filter.specs.Tree.{Tree}
use Rattle.gr_tree.specs.declared.link.Link.{Link}
use Rattle.gr_tree.specs.Walks.{joins, IsWithin, is_reached, is_tree}
use Rattle.gr_tree.proofs.Links.{ends}
use Rattle.gr_topo.specs.Topology.{IsSound, AreNames, number_of, name_at, blank, default_values}

abbrev one_link : List Link
one_link = blank.links

pub two_within : IsWithin 2 one_link
two_within a b h =
    ⊎_elim
    (λ e. ⊎_elim
    (λ w. (omega (arith, w.0, w.1), omega (arith, w.0, w.1)))
    (λ w. (omega (arith, w.0, w.1), omega (arith, w.0, w.1)))
    (ends a b (record { one = 0; other = 1 }) e))
    (λ e. absurd (false≢true e))
    (or_cases (joins a b (record { one = 0; other = 1 })) false h)

one_tree : is_tree 2 one_link ≡ true
unfolding is_tree is_reached
one_tree = refl

host_two : (p : ℕ) → get_or (0 ∷ []) p 0 < 2
host_two zero = omega arith
host_two (suc p) = omega arith

home_two : (s : ℕ) → get_or (1 ∷ []) s 0 < 2
home_two zero = omega arith
home_two (suc s) = omega arith

two_found : (b : ℕ) → b < 2 → number_of blank.brokers (name_at blank.brokers b) ≡ Some b
two_found zero h = refl
two_found (suc zero) h = refl
two_found (suc (suc b)) h = absurd (omega arith)

one_found : (p : ℕ) → p < 1 → number_of blank.publishers (name_at blank.publishers p) ≡ Some p
one_found zero h = refl
one_found (suc p) h = absurd (omega arith)

other_found : (s : ℕ) → s < 1 → number_of blank.subscribers (name_at blank.subscribers s) ≡ Some s
other_found zero h = refl
other_found (suc s) h = absurd (omega arith)

brokers_named : AreNames blank.brokers
brokers_named = record { each = (refl, (refl, tt)); found = two_found }

pub blank_sound : IsSound blank
blank_sound = record {
  broker_names = brokers_named;
  publisher_names = record { each = (refl, tt); found = one_found };
  subscriber_names = record { each = (refl, tt); found = other_found };
  addressed = (tt, (tt, tt));
  reachable = (tt, tt);
  limits = record { brokers = omega arith; publishers = omega arith; subscribers = omega arith; late = omega arith };
  hosts = refl;
  homes = refl;
  filters = refl;
  late_in = tt;
  totals_in = tt;
  addresses = refl;
  clients = refl;
  host_in = λ p h. host_two p;
  home_in = λ s h. home_two s;
  links = two_within;
  tree = one_tree;
  settings = record { gap = (omega arith, omega arith); idle = (omega arith, omega arith); retry = (omega arith, omega arith); quiet = (omega arith, omega arith); cache = (omega arith, omega arith); reclaim = (omega arith, omega arith) };
}

-- a view with the parts of the blank topology is it
pub is_blank : (bs ps ss : List (List ℕ)) (ls : List Link) (hs ms : List ℕ) (fs : List (Option Tree)) (late ts : List ℕ) (addresses clients : List (Option (List ℕ)))
    → bs ≡ blank.brokers → ps ≡ blank.publishers → ss ≡ blank.subscribers → ls ≡ blank.links → hs ≡ blank.hosts → ms ≡ blank.homes → fs ≡ blank.filters → late ≡ blank.late → ts ≡ blank.totals → addresses ≡ blank.addresses → clients ≡ blank.clients
    → IsSound (record { brokers = bs; publishers = ps; subscribers = ss; links = ls; hosts = hs; homes = ms; filters = fs; late = late; totals = ts; addresses = addresses; clients = clients; settings = default_values })
is_blank bs ps ss ls hs ms fs late ts addresses clients a b c d e f g h i j k = rw (a, b, c, d, e, f, g, h, i, j, k) blank_sound
