-- What is inside of a post of sockets.
use Rattle.std.specs.Prelude.{ℕ, List, Option, Bool, not, ◌==◌}
use Rattle.gr_sock.specs.Bound.{is_news}
use Rattle.gr_sock.specs.declared.bound.Bound.{Bound}
use Rattle.gr_sock.specs.declared.network.Network.{Ghosts}
use Rattle.gr_sock.specs.declared.trouble.PostError.{PostError}
use Rattle.gr_sock.specs.declared.udp_post.UdpPost.{UdpPost}

-- the network that it is over
abbrev pub network_of : {N C : Type 0} {g : Ghosts N} → UdpPost N C g → N
network_of p = p.network

-- the brokers that were bound, in this order
abbrev pub bound_of : {N C : Type 0} {g : Ghosts N} → UdpPost N C g → List Bound
bound_of p = p.bound.items

-- how long the next call waits at most, in milliseconds
abbrev pub pause_of : {N C : Type 0} {g : Ghosts N} → UdpPost N C g → ℕ
pause_of p = p.pause

-- the moment of the last quiet moment, 0 before the first
abbrev pub quiet_of : {N C : Type 0} {g : Ghosts N} → UdpPost N C g → ℕ
quiet_of p = p.quiet

-- what was offered since the last quiet moment, and what was between that and the one before, each as its digest
abbrev pub offered_of : {N C : Type 0} {g : Ghosts N} → UdpPost N C g → ℕ
offered_of p = p.offered

abbrev pub before_of : {N C : Type 0} {g : Ghosts N} → UdpPost N C g → ℕ
before_of p = p.before

-- how much was heard lately
abbrev pub heard_of : {N C : Type 0} {g : Ghosts N} → UdpPost N C g → ℕ
heard_of p = p.heard

-- whether the caller has more to do, where it has said so
abbrev pub more_of : {N C : Type 0} {g : Ghosts N} → UdpPost N C g → Option Bool
more_of p = p.more

-- there is news
abbrev pub has_news : {N C : Type 0} {g : Ghosts N} → UdpPost N C g → Bool
has_news p = is_news p.more (not (p.offered == p.before)) p.heard

-- before how many quiet moments in a row there was news
abbrev pub run_of : {N C : Type 0} {g : Ghosts N} → UdpPost N C g → ℕ
run_of p = p.run

-- how many bindings and arrivals failed, and how many offers
abbrev pub post_faults : {N C : Type 0} {g : Ghosts N} → UdpPost N C g → ℕ
post_faults p = p.faults

abbrev pub post_lost : {N C : Type 0} {g : Ghosts N} → UdpPost N C g → ℕ
post_lost p = p.lost

-- what the system said at the last binding or arrival that failed, and at the last offer
abbrev pub post_said : {N C : Type 0} {g : Ghosts N} → UdpPost N C g → Option PostError
post_said p = p.said

abbrev pub loss_said : {N C : Type 0} {g : Ghosts N} → UdpPost N C g → Option PostError
loss_said p = p.loss
