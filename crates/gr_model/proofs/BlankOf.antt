-- The topology of the small examples is that of the blank topology part, number by number
use Rattle.std.proofs.Common.{◌≡◌, ℕ, zero, suc, Bool, true, false, ◌&&◌, not, nat_eq, List, [], ◌∷◌, Option, Some, None, refl, sym, ap, ◌∙◌, arith, ne_eqb}
use Rattle.std.specs.Prelude.{nat_lt, is_some}
use Rattle.std.specs.List.{list_any, filter}
use Rattle.std.proofs.lemmas.Bool.{false_from_ne_true, and_left, cond-false, le-ltb}
use Rattle.std.proofs.Math.Path.{fun_ext}
use Rattle.gr_event.specs.declared.event.Event.{Event}
use Rattle.gr_tree.specs.Walks.{numbers, is_linked, is_reached, distance, up_of, path_of}
use Rattle.gr_tree.proofs.Numbers.{first_none}
use Rattle.gr_topo.specs.Topology.{blank, host_of, client_of, home_of, up_at, depth_at, is_this, children_of, subscribers_of, below_of, wants}
use Rattle.gr_topo.proofs.Blank.{two_within}
use Rattle.gr_model.specs.Net.{Net}
use Rattle.gr_model.specs.Blank.{net0}
use Rattle.gr_model.specs.NetOf.{net_of}

host_is : (p : ℕ) → 0 ≡ host_of blank p
host_is zero = refl
host_is (suc p) = refl

client_is : (p : ℕ) → false ≡ is_some (client_of blank p)
client_is zero = refl
client_is (suc p) = refl

-- ---- a number past the second

past_zero : (b : ℕ) → nat_eq (suc (suc b)) 0 ≡ false
past_zero b = ne_eqb (suc (suc b)) 0 (λ e. omega (arith, e))

past_one : (b : ℕ) → nat_eq (suc (suc b)) 1 ≡ false
past_one b = ne_eqb (suc (suc b)) 1 (λ e. omega (arith, e))

zero_before : (b : ℕ) → nat_eq 0 (suc (suc b)) ≡ false
zero_before b = ne_eqb 0 (suc (suc b)) (λ e. omega (arith, e))

one_before : (b : ℕ) → nat_eq 1 (suc (suc b)) ≡ false
one_before b = ne_eqb 1 (suc (suc b)) (λ e. omega (arith, e))

not_two : (b : ℕ) → nat_lt (suc (suc b)) 2 ≡ false
not_two b = le-ltb (suc (suc b)) 2 (omega arith)

unlinked : (b c : ℕ) → is_linked blank.links (suc (suc b)) c ≡ false
unlinked b c = false_from_ne_true _ (λ h. absurd (omega (arith, (two_within (suc (suc b)) c h).0)))

filter_none : (test : ℕ → Bool) → ((c : ℕ) → test c ≡ false) → (xs : List ℕ) → filter test xs ≡ []
filter_none test none [] = refl
filter_none test none (x ∷ xs) = cond-false (test x) (x ∷ filter test xs) (filter test xs) (none x) ∙ filter_none test none xs

-- ---- one field after the other

home_is : (s : ℕ) → net0.at s ≡ home_of blank s
home_is zero = refl
home_is (suc s) = cond-false (nat_eq (suc s) 0) 1 0 (ne_eqb (suc s) 0 (λ e. omega (arith, e)))

up_root : (b : ℕ) → net0.up 0 b ≡ up_of 2 blank.links 0 b
unfolding up_of distance is_reached
up_root zero = refl
up_root (suc zero) = refl
up_root (suc (suc b)) =
    cond-false (nat_eq (suc (suc b)) 1) (Some 0) None (past_one b)
    ∙ sym (first_none (λ c. is_linked blank.links (suc (suc b)) c && nat_eq (suc (distance 2 blank.links 0 c)) (distance 2 blank.links 0 (suc (suc b)))) 0 2 (λ c. and_left (is_linked blank.links (suc (suc b)) c) _ (unlinked b c)))

up_is : (p b : ℕ) → net0.up p b ≡ up_at blank p b
up_is p b = up_root b ∙ ap (λ h. up_of 2 blank.links h b) (host_is p)

depth_root : (b : ℕ) → net0.depth 0 b ≡ distance 2 blank.links 0 b
unfolding distance is_reached
depth_root zero = refl
depth_root (suc zero) = refl
depth_root (suc (suc b)) = rw (not_two b, zero_before b, one_before b) refl

depth_is : (p b : ℕ) → net0.depth p b ≡ depth_at blank p b
depth_is p b = depth_root b ∙ ap (λ h. distance 2 blank.links h b) (host_is p)

-- the children, seen from a host
abbrev children_from : ℕ → ℕ → List ℕ
children_from h b = filter (λ c. is_linked blank.links b c && not (is_this (up_of 2 blank.links h b) c)) (numbers 2)

children_root : (b : ℕ) → net0.children 0 b ≡ children_from 0 b
unfolding up_of distance is_reached
children_root zero = refl
children_root (suc zero) = refl
children_root (suc (suc b)) =
    cond-false (nat_eq (suc (suc b)) 0) (1 ∷ []) [] (past_zero b)
    ∙ sym (filter_none (λ c. is_linked blank.links (suc (suc b)) c && not (is_this (up_of 2 blank.links 0 (suc (suc b))) c)) (λ c. and_left (is_linked blank.links (suc (suc b)) c) _ (unlinked b c)) (numbers 2))

children_is : (p b : ℕ) → net0.children p b ≡ children_of blank p b
children_is p b = children_root b ∙ ap (λ h. children_from h b) (host_is p)

here_is : (b : ℕ) → net0.subscribers_at b ≡ subscribers_of blank b
here_is zero = refl
here_is (suc zero) = refl
here_is (suc (suc b)) = rw (past_one b, one_before b) refl

-- the subscribers below, seen from a host
abbrev below_from : ℕ → ℕ → List ℕ
below_from h b = filter (λ s. list_any (λ x. nat_eq x b) (home_of blank s ∷ path_of 2 blank.links h (home_of blank s))) (numbers 1)

below_root : (b : ℕ) → net0.below 0 b ≡ below_from 0 b
unfolding path_of up_of distance is_reached
below_root zero = refl
below_root (suc zero) = refl
below_root (suc (suc b)) = rw (not_two b, one_before b, zero_before b) refl

below_is : (p b : ℕ) → net0.below p b ≡ below_of blank p b
below_is p b = below_root b ∙ ap (λ h. below_from h b) (host_is p)

wants_is : (s : ℕ) (e : Event) → true ≡ wants blank s e
wants_is zero e = refl
wants_is (suc s) e = refl

-- ---- the whole

abbrev net_by : (ℕ → ℕ) → (ℕ → Bool) → (ℕ → ℕ) → (ℕ → ℕ → Option ℕ) → (ℕ → ℕ → List ℕ) → (ℕ → List ℕ) → (ℕ → ℕ → List ℕ) → (ℕ → ℕ → ℕ) → (ℕ → ℕ → ℕ → Event → Bool) → Net
net_by host client home up children here below depth wanted = record {
  brokers = 2;
  publishers = 1;
  subscribers = 1;
  host = host;
  client = client;
  at = home;
  up = up;
  children = children;
  subscribers_at = here;
  below = below;
  late = [];
  depth = depth;
  wants = wanted;
  gap = 200;
  idle = 1000;
  retry = 500;
  quiet = 1000;
  cache = 1024;
  reclaim = 65536;
}

-- the small examples' topology is that of the blank topology part
pub blank_net : net0 ≡ net_of blank
blank_net =
    ap (λ f. net_by f net0.client net0.at net0.up net0.children net0.subscribers_at net0.below net0.depth net0.wants) (fun_ext host_is)
    ∙ ap (λ f. net_by (host_of blank) f net0.at net0.up net0.children net0.subscribers_at net0.below net0.depth net0.wants) (fun_ext client_is)
    ∙ ap (λ f. net_by (host_of blank) (λ p. is_some (client_of blank p)) f net0.up net0.children net0.subscribers_at net0.below net0.depth net0.wants) (fun_ext home_is)
    ∙ ap (λ f. net_by (host_of blank) (λ p. is_some (client_of blank p)) (home_of blank) f net0.children net0.subscribers_at net0.below net0.depth net0.wants) (fun_ext (λ p. fun_ext (up_is p)))
    ∙ ap (λ f. net_by (host_of blank) (λ p. is_some (client_of blank p)) (home_of blank) (up_at blank) f net0.subscribers_at net0.below net0.depth net0.wants) (fun_ext (λ p. fun_ext (children_is p)))
    ∙ ap (λ f. net_by (host_of blank) (λ p. is_some (client_of blank p)) (home_of blank) (up_at blank) (children_of blank) f net0.below net0.depth net0.wants) (fun_ext here_is)
    ∙ ap (λ f. net_by (host_of blank) (λ p. is_some (client_of blank p)) (home_of blank) (up_at blank) (children_of blank) (subscribers_of blank) f net0.depth net0.wants) (fun_ext (λ p. fun_ext (below_is p)))
    ∙ ap (λ f. net_by (host_of blank) (λ p. is_some (client_of blank p)) (home_of blank) (up_at blank) (children_of blank) (subscribers_of blank) (below_of blank) f net0.wants) (fun_ext (λ p. fun_ext (depth_is p)))
    ∙ ap (λ f. net_by (host_of blank) (λ p. is_some (client_of blank p)) (home_of blank) (up_at blank) (children_of blank) (subscribers_of blank) (below_of blank) (depth_at blank) f) (fun_ext (λ p. fun_ext (λ s. fun_ext (λ t. fun_ext (wants_is s)))))
