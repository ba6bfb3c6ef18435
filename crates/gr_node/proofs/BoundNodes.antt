-- Nodes that are bound one after another, and what is noted where a binding fails
use Rattle.std.proofs.Common.{◌≡◌, ℕ, ◌+◌, ◌-◌, ◌<◌, ◌≤◌, ◌&&◌, Bool, true, false, List, [], ◌∷◌, ◌++◌, map, length, Option, Some, None, Result, Ok, Err, refl, sym, ap, ◌∙◌, append_assoc, append-nil, subst, arith, flat_map}
use Rattle.std.specs.Prelude.{nat_lt, is_some, unwrap_or, if◌then◌else◌}
use Rattle.std.proofs.lemmas.Bool.{cond-true, cond-false, lt-ltb, le-ltb}
use Rattle.std.proofs.Math.Bool.{and-false}
use Rattle.std.proofs.lemmas.List.{map-append}
use Rattle.gr_out.specs.Entry.{Entry}
use Rattle.gr_out.specs.Entry as entry
use Rattle.gr_out.specs.declared.post.PostFault.{PostFault}
use Rattle.gr_out.specs.declared.post.PostFault.TheVariants as fault
use Rattle.gr_out.specs.declared.fault.RunFault.{RunFault}
use Rattle.gr_out.specs.declared.fault.RunFault.TheVariants as run
use Rattle.gr_out.specs.Faults.{Rose}
use Rattle.gr_out.specs.Journal.{is_among, bind_entries, CountsFailed}
use Rattle.gr_note.specs.Nodes.{client_node}
use Rattle.gr_topo.specs.Topology.{TopologyView, address_of, client_of, host_of}
use Rattle.gr_model.specs.Net.{numbers, numbers_from}
use Rattle.gr_report.proofs.Along.{numbers_left}
use Rattle.gr_node.specs.Plan.{client_nodes, address_at, bound_entry}
use Rattle.gr_node.specs.Went.{PostMoves, Bound, fault_entries}

-- A call of a post that is refused, as a fault of the run

-- what the run says of it
pub record IsSaid (f : PostFault) (r : RunFault) : Type 0 where
  pub failed : f ≡ fault.Failed → r ≡ run.Post
  pub memory : f ≡ fault.Memory → r ≡ run.Memory

-- its counts
pub failed_moves : {T U : Type 0} (before middle after : ℕ) (f : PostFault) (r : RunFault) → IsSaid f r → middle ≡ before
    → CountsFailed {T = T} middle after (Err f) → PostMoves {T = U} before after (Err r)
failed_moves before middle after fault.Failed r s same c =
    let rose : Rose before after = subst (λ n. Rose n after) same (c.failed refl) in
    record { never_falls = omega (arith, same, c.never_falls); same = λ n. absurd (n (ap (λ x. Err x) (s.failed refl))); rose = λ e. rose }
failed_moves before middle after fault.Memory r s same c =
    record { never_falls = omega (arith, same, c.never_falls); same = λ n. c.same (λ e. cc) ∙ same; rose = λ e. absurd (apart (s.memory refl) e) }
  where
    apart : {V : Type 0} → r ≡ run.Memory → ◌≡◌ {A = Result V RunFault} (Err r) (Err run.Post) → ⊥
    apart h e = cc

-- and its entry, where it is the only one
failed_entries : (b : ℕ) (address : List ℕ) (here : Bool) (f : PostFault) (r : RunFault) → IsSaid f r
    → bind_entries {T = Unit {0}} b address here (Err f) ≡ fault_entries {T = Unit {0}} (Err r)
failed_entries b address here fault.Failed r s = ap (λ (e : RunFault). fault_entries {T = Unit {0}} (Err e)) (sym (s.failed refl))
failed_entries b address here fault.Memory r s = ap (λ (e : RunFault). fault_entries {T = Unit {0}} (Err e)) (sym (s.memory refl))

-- One node

same_bound : (t : TopologyView) (hosted : List ℕ) (node : ℕ) (address : List ℕ) (here : Bool) → address_at t node ≡ Some address → here ≡ is_among hosted node → entry.bound node address here ≡ bound_entry t hosted node
same_bound t hosted node address here e h =
    ap (λ (x : Bool). entry.bound node address x) h ∙ ap (λ (o : Option (List ℕ)). entry.bound node (unwrap_or o []) (is_among hosted node)) (sym e)

-- it was bound
pub one_made : {T : Type 0} (t : TopologyView) (hosted : List ℕ) (tells : Type 0) (node : ℕ) (address : List ℕ) (here : Bool) (before after : List Entry) (x : T) → address_at t node ≡ Some address → here ≡ is_among hosted node
    → (tells → after ≡ before ++ entry.bound node address here ∷ []) → Bound {T = T} t hosted tells (node ∷ []) before after (Ok x)
one_made t hosted tells node address here before after x e h put = record {
  bound = node ∷ [];
  left = [];
  parts = refl;
  whole = refl;
  short = tt;
  put = λ k. put k ∙ ap (λ (y : Entry). before ++ y ∷ []) (same_bound t hosted node address here e h);
}

-- or its binding failed
pub one_failed : (t : TopologyView) (hosted : List ℕ) (tells : Type 0) (node : ℕ) (address : List ℕ) (here : Bool) (before after : List Entry) (f : PostFault) (r : RunFault) → IsSaid f r
    → (tells → after ≡ before ++ bind_entries {T = Unit {0}} node address here (Err f)) → Bound {T = Unit {0}} t hosted tells (node ∷ []) before after (Err r)
one_failed t hosted tells node address here before after f r s put = record {
  bound = [];
  left = node ∷ [];
  parts = refl;
  whole = tt;
  short = (node, ([], refl));
  put = λ k. put k ∙ ap (λ (xs : List Entry). before ++ xs) (failed_entries node address here f r s);
}

-- no node is all bound
pub none_made : {T : Type 0} (t : TopologyView) (hosted : List ℕ) (tells : Type 0) (all : List ℕ) (before after : List Entry) (x : T) → all ≡ [] → after ≡ before → Bound {T = T} t hosted tells all before after (Ok x)
none_made t hosted tells all before after x e same = record { bound = []; left = []; parts = sym e; whole = refl; short = tt; put = λ k. same ∙ sym (append-nil before) }

-- where the answer is Ok all were bound
pub made_all : {T : Type 0} (t : TopologyView) (hosted : List ℕ) (tells : Type 0) (all : List ℕ) (before after : List Entry) (x : T) → Bound {T = T} t hosted tells all before after (Ok x)
    → tells → after ≡ before ++ map (bound_entry t hosted) all
made_all t hosted tells all before after x b k =
    let bound : b.bound ≡ all = sym (append-nil b.bound) ∙ (ap (λ xs. b.bound ++ xs) (sym b.whole) ∙ b.parts) in
    b.put k ∙ ap (λ xs. before ++ xs) (append-nil (map (bound_entry t hosted) b.bound) ∙ ap (map (bound_entry t hosted)) bound)

-- Some, and then others

-- all of the first, and then as far as code went with the others
pub bound_on : {T U : Type 0} (t : TopologyView) (hosted : List ℕ) (tells : Type 0) (all more : List ℕ) (before middle after : List Entry) (x : U) (r : Result T RunFault)
    → Bound {T = U} t hosted tells all before middle (Ok x) → Bound {T = T} t hosted tells more middle after r → Bound {T = T} t hosted tells (all ++ more) before after r
bound_on t hosted tells all more before middle after x r a b = record {
  bound = all ++ b.bound;
  left = b.left;
  parts = append_assoc all b.bound b.left ∙ ap (λ xs. all ++ xs) b.parts;
  whole = b.whole;
  short = b.short;
  put = λ k. b.put k ∙ (ap (λ xs. xs ++ (map (bound_entry t hosted) b.bound ++ fault_entries r)) (made_all t hosted tells all before middle x a k)
      ∙ (append_assoc before (map (bound_entry t hosted) all) (map (bound_entry t hosted) b.bound ++ fault_entries r)
      ∙ ap (λ xs. before ++ xs) (sym (append_assoc (map (bound_entry t hosted) all) (map (bound_entry t hosted) b.bound) (fault_entries r))
      ∙ ap (λ xs. xs ++ fault_entries r) (sym (map-append (bound_entry t hosted) all b.bound)))));
}

-- what failed stands for a longer list
pub bound_cut : {T : Type 0} (t : TopologyView) (hosted : List ℕ) (tells : Type 0) (all more : List ℕ) (before after : List Entry) (e : RunFault)
    → Bound {T = T} t hosted tells all before after (Err e) → Bound {T = T} t hosted tells (all ++ more) before after (Err e)
bound_cut t hosted tells all more before after e b =
    let short = b.short in
    record {
      bound = b.bound;
      left = b.left ++ more;
      parts = sym (append_assoc b.bound b.left more) ∙ ap (λ xs. xs ++ more) b.parts;
      whole = tt;
      short = (short.0, (short.1.0 ++ more, ap (λ xs. xs ++ more) short.1.1));
      put = b.put;
    }

-- In a loop

-- of all these nodes those before the ones that are left are bound
pub record BoundSoFar (t : TopologyView) (hosted : List ℕ) (tells : Type 0) (all left : List ℕ) (before after : List Entry) : Type 0 where
  pub bound : List ℕ
  pub parts : bound ++ left ≡ all
  pub put : tells → after ≡ before ++ map (bound_entry t hosted) bound

-- none yet
pub none_bound_yet : (t : TopologyView) (hosted : List ℕ) (tells : Type 0) (all left : List ℕ) (before : List Entry) → left ≡ all → BoundSoFar t hosted tells all left before before
none_bound_yet t hosted tells all left before e = record { bound = []; parts = e; put = λ k. sym (append-nil before) }

so_far : (t : TopologyView) (hosted : List ℕ) (tells : Type 0) (all left : List ℕ) (before after : List Entry) (s : BoundSoFar t hosted tells all left before after) → Bound {T = Unit {0}} t hosted tells s.bound before after (Ok tt)
so_far t hosted tells all left before after s = record {
  bound = s.bound;
  left = [];
  parts = append-nil s.bound;
  whole = refl;
  short = tt;
  put = λ k. s.put k ∙ ap (λ xs. before ++ xs) (sym (append-nil (map (bound_entry t hosted) s.bound)));
}

-- some more
pub bound_more : {T : Type 0} (t : TopologyView) (hosted : List ℕ) (tells : Type 0) (all left here more : List ℕ) (before middle after : List Entry) (x : T) → left ≡ here ++ more
    → BoundSoFar t hosted tells all left before middle → Bound {T = T} t hosted tells here middle after (Ok x) → BoundSoFar t hosted tells all more before after
bound_more {T} t hosted tells all left here more before middle after x e s b =
    let both : Bound {T = T} t hosted tells (s.bound ++ here) before after (Ok x) = bound_on t hosted tells s.bound here before middle after tt (Ok x) (so_far t hosted tells all left before middle s) b in
    record {
      bound = s.bound ++ here;
      parts = append_assoc s.bound here more ∙ (ap (λ xs. s.bound ++ xs) (sym e) ∙ s.parts);
      put = made_all t hosted tells (s.bound ++ here) before after x both;
    }

-- one of them failed
pub bound_failed : {T : Type 0} (t : TopologyView) (hosted : List ℕ) (tells : Type 0) (all left here more : List ℕ) (before middle after : List Entry) (f : RunFault) → left ≡ here ++ more
    → BoundSoFar t hosted tells all left before middle → Bound {T = T} t hosted tells here middle after (Err f) → Bound {T = T} t hosted tells all before after (Err f)
bound_failed {T} t hosted tells all left here more before middle after f e s b =
    subst (λ xs. Bound {T = T} t hosted tells xs before after (Err f)) (ap (λ xs. s.bound ++ xs) (sym e) ∙ s.parts)
    (bound_on t hosted tells s.bound (here ++ more) before middle after tt (Err f) (so_far t hosted tells all left before middle s) (bound_cut t hosted tells here more middle after f b))

-- none is left
pub bound_through : {T : Type 0} (t : TopologyView) (hosted : List ℕ) (tells : Type 0) (all left : List ℕ) (before after : List Entry) (x : T) → left ≡ []
    → BoundSoFar t hosted tells all left before after → Bound {T = T} t hosted tells all before after (Ok x)
bound_through {T} t hosted tells all left before after x e s = record {
  bound = s.bound;
  left = left;
  parts = s.parts;
  whole = e;
  short = tt;
  put = λ k. s.put k ∙ ap (λ xs. before ++ xs) (sym (append-nil (map (bound_entry t hosted) s.bound)));
}

-- The nodes that are left

abbrev pub brokers_from : TopologyView → ℕ → List ℕ
brokers_from t b = numbers_from b (length t.brokers - b)

pub brokers_all : (t : TopologyView) → brokers_from t 0 ≡ numbers (length t.brokers)
brokers_all t = let e : length t.brokers - 0 ≡ length t.brokers = omega arith in ap (λ k. numbers_from 0 k) e

pub brokers_more : (t : TopologyView) (b : ℕ) → b < length t.brokers → brokers_from t b ≡ (b ∷ []) ++ brokers_from t (b + 1)
brokers_more t b h = numbers_left b (length t.brokers) h

pub brokers_none : (t : TopologyView) (b : ℕ) → length t.brokers ≤ b → brokers_from t b ≡ []
brokers_none t b h = let z : length t.brokers - b ≡ 0 = omega (arith, h) in ap (λ k. numbers_from b k) z

abbrev pub clients_from : TopologyView → List ℕ → ℕ → List ℕ
clients_from t hosted p = flat_map (client_nodes t hosted) (numbers_from p (length t.publishers - p))

pub clients_all : (t : TopologyView) (hosted : List ℕ) → clients_from t hosted 0 ≡ flat_map (client_nodes t hosted) (numbers (length t.publishers))
clients_all t hosted = let e : length t.publishers - 0 ≡ length t.publishers = omega arith in ap (λ k. flat_map (client_nodes t hosted) (numbers_from 0 k)) e

pub clients_more : (t : TopologyView) (hosted : List ℕ) (p : ℕ) → p < length t.publishers → clients_from t hosted p ≡ client_nodes t hosted p ++ clients_from t hosted (p + 1)
clients_more t hosted p h = ap (flat_map (client_nodes t hosted)) (numbers_left p (length t.publishers) h)

pub clients_none : (t : TopologyView) (hosted : List ℕ) (p : ℕ) → length t.publishers ≤ p → clients_from t hosted p ≡ []
clients_none t hosted p h = let z : length t.publishers - p ≡ 0 = omega (arith, h) in ap (λ k. flat_map (client_nodes t hosted) (numbers_from p k)) z

-- Addresses

-- of a broker
pub broker_address : (t : TopologyView) (b : ℕ) (address : List ℕ) → b < 64 → address_of t b ≡ Some address → address_at t b ≡ Some address
broker_address t b address h e = cond-true (nat_lt b 64) (address_of t b) (client_of t (b - 64)) (lt-ltb b 64 h) ∙ e

-- of a client
pub client_address : (t : TopologyView) (p node : ℕ) (address : List ℕ) → node ≡ 64 + p → client_of t p ≡ Some address → address_at t node ≡ Some address
client_address t p node address is e =
    let past : 64 ≤ node = omega (arith, is) in
    let place : node - 64 ≡ p = omega (arith, is) in
    cond-false (nat_lt node 64) (address_of t node) (client_of t (node - 64)) (le-ltb node 64 past) ∙ (ap (client_of t) place ∙ e)

-- a publisher without a client has no node, and one at a broker elsewhere has none here
pub no_client : (t : TopologyView) (hosted : List ℕ) (p : ℕ) → None ≡ client_of t p → client_nodes t hosted p ≡ []
no_client t hosted p e = ap (λ (o : Option (List ℕ)). if is_some o && is_among hosted (host_of t p) then client_node p ∷ [] else []) (sym e)

pub client_elsewhere : (t : TopologyView) (hosted : List ℕ) (p : ℕ) → is_among hosted (host_of t p) ≡ false → client_nodes t hosted p ≡ []
client_elsewhere t hosted p e = ap (λ (q : Bool). if is_some (client_of t p) && q then client_node p ∷ [] else []) e ∙ cond-false (is_some (client_of t p) && false) (client_node p ∷ []) [] (and-false (is_some (client_of t p)))

pub client_here : (t : TopologyView) (hosted : List ℕ) (p node : ℕ) (address : List ℕ) → client_of t p ≡ Some address → is_among hosted (host_of t p) ≡ true → node ≡ client_node p → node ∷ [] ≡ client_nodes t hosted p
client_here t hosted p node address some here is =
    ap (λ k. k ∷ []) is
    ∙ sym (ap (λ (o : Option (List ℕ)). if is_some o && is_among hosted (host_of t p) then client_node p ∷ [] else []) some
    ∙ cond-true (is_among hosted (host_of t p)) (client_node p ∷ []) [] here)

-- Counts

-- they stay, and then they move
pub moves_on : {T U : Type 0} (before middle after : ℕ) (x : U) (r : Result T RunFault) → PostMoves {T = U} before middle (Ok x) → PostMoves {T = T} middle after r → PostMoves {T = T} before after r
moves_on {T} before middle after x r a b = subst (λ n. PostMoves {T = T} n after r) (a.same (λ e. cc)) b

-- and in a loop from where they stood before
pub moves_from : {T : Type 0} (before middle after : ℕ) (e : RunFault) → middle ≡ before → PostMoves {T = T} middle after (Err e) → PostMoves {T = T} before after (Err e)
moves_from {T} before middle after e same b = subst (λ n. PostMoves {T = T} n after (Err e)) same b
