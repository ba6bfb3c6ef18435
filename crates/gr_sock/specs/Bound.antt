-- What a post of sockets keeps of the brokers that were bound, and what its calls do with their sockets.
use Rattle.std.specs.Prelude.{◌≡◌, ℕ, ◌+◌, ◌-◌, ◌*◌, ◌/◌, ◌==◌, ◌⊎◌, ◌||◌, ◌&&◌, min, max, nat_lt, nat_le, zero, suc}
use Rattle.std.specs.Prelude.{if◌then◌else◌, List, Option, None, Some, is_some, Bool, true, false, length, take, ⊤}
use Rattle.std.specs.List.{find, list_any}
use Rattle.std.specs.Prelude.{Contains}
use Rattle.gr_out.specs.Streams.{counted}
use Rattle.gr_out.specs.declared.post.Arrival.{Arrival}
use Rattle.gr_out.specs.declared.post.Arrival.TheVariants.{Datagram, Quiet, Closed}
use Rattle.gr_sock.specs.declared.bound.Bound.{Bound}
use Rattle.gr_sock.specs.declared.address.Address.{Address}
use Rattle.std.specs.Option.{option_map, option_and_then}
use Rattle.gr_sock.specs.Digest.{nothing}
use Rattle.gr_sock.specs.Network.{Traffic, with_opened, with_taken, with_sent, with_wait}

-- the broker was bound
abbrev pub is_bound : ℕ → List Bound → Bool
is_bound broker bound = list_any (λ b. b.broker == broker) bound

-- where the datagrams of a broker go
abbrev pub address_in : ℕ → List Bound → Option Address
address_in broker bound = option_map (λ b. b.address) (find (λ b. b.broker == broker) bound)

-- the socket of a broker that is hosted
abbrev pub socket_in : ℕ → List Bound → Option ℕ
socket_in broker bound = option_and_then (λ b. b.socket) (find (λ b. b.broker == broker) bound)

-- What binding a broker at an address put there.
pub record IsBinding (broker : ℕ) (place : Option Address) (here : Bool) (b : Bound) : Type 0 where
  pub broker_is : b.broker ≡ broker
  pub address_is : place ≡ Some b.address
  pub hosted : is_some b.socket ≡ here

-- What binding it did: it opened a socket at its address, where it is hosted, and nothing else.
abbrev pub BindDid : Bool → Bound → Traffic → Traffic → Type 0
BindDid true b old new = (b.socket ≡ Some (length old.opened)) × (new ≡ with_opened b.address old)
BindDid false b old new = new ≡ old

-- A broker has this socket.
pub record HasSocket (bound : List Bound) (broker socket : ℕ) : Type 0 where
  pub entry : Bound
  pub is_in : Contains bound entry
  pub broker_is : entry.broker ≡ broker
  pub socket_is : entry.socket ≡ Some socket

-- What a look for a datagram did: it took one at a socket of the broker, or nothing.
abbrev pub Looked : List Bound → Traffic → Traffic → List ℕ → Option (ℕ × ℕ) → Type 0
Looked bound old new piece None = new ≡ old
Looked bound old new piece (Some d) = (s : ℕ) × HasSocket bound d.0 s × (new ≡ with_taken s (take d.1 piece) old)

-- the longest wait in one call, and the longest time from one quiet moment to the next, in milliseconds
abbrev pub longest : ℕ
longest = 50

-- the first wait
abbrev pub first_wait : ℕ
first_wait = 12

-- how long after a quiet moment a wait ends at the latest that begins later than it; and from when on the next one is
-- near, and how long a wait is at most then
abbrev pub early : ℕ
early = 49

abbrev pub near : ℕ
near = 40

abbrev pub last_wait : ℕ
last_wait = 8

-- a quiet moment is due: so much time has passed since the last one, or the clock was set back behind it
abbrev pub is_due : ℕ → ℕ → Bool
is_due last moment = nat_lt moment last || nat_le (last + longest) moment

-- no datagram is taken where a quiet moment is due
abbrev pub IsInTime : ℕ → Arrival → Type 0
IsInTime last (Datagram at len moment) = is_due last moment ≡ false
IsInTime last (Quiet moment) = ⊤
IsInTime last Closed = ⊤

-- the moment of the last quiet moment, after a call
abbrev pub quiet_after : ℕ → Arrival → ℕ
quiet_after last (Datagram at len moment) = last
quiet_after last (Quiet moment) = moment
quiet_after last Closed = last

-- what was offered since the last quiet moment, and between that and the one before, after a call
abbrev pub offered_after : ℕ → Arrival → ℕ
offered_after offered (Datagram at len moment) = offered
offered_after offered (Quiet moment) = nothing
offered_after offered Closed = offered

abbrev pub before_after : ℕ → ℕ → Arrival → ℕ
before_after offered before (Datagram at len moment) = before
before_after offered before (Quiet moment) = offered
before_after offered before Closed = before

-- how much was heard lately, after a call: the datagrams, by a count that is halved at each quiet moment
abbrev pub heard_after : ℕ → Arrival → ℕ
heard_after heard (Datagram at len moment) = counted heard
heard_after heard (Quiet moment) = heard / 2
heard_after heard Closed = heard

-- so much has to be heard lately for other offers to be news where the caller has no more to do
abbrev pub enough_heard : ℕ
enough_heard = 4

-- there is news, where the caller has said whether it has more to do or nothing, the offers are others or the same, and
-- so much was heard lately
abbrev pub is_news : Option Bool → Bool → ℕ → Bool
is_news None differ heard = differ
is_news (Some true) differ heard = true
is_news (Some false) differ heard = differ && nat_le enough_heard heard

-- before how many quiet moments in a row there was news, after one more and after a call
abbrev pub run_with : ℕ → Bool → ℕ
run_with run news = if news then counted run else 0

abbrev pub run_after : ℕ → Bool → Arrival → ℕ
run_after run news (Datagram at len moment) = run
run_after run news (Quiet moment) = run_with run news
run_after run news Closed = run

-- before so many quiet moments in a row there has to be news for the wait to get shorter: few, but enough where it is
-- the longest
abbrev pub few : ℕ
few = 2

abbrev pub enough : ℕ
enough = 5

abbrev pub needed : ℕ → ℕ
needed pause = if nat_lt pause longest then few else enough

-- the wait after a quiet moment: twice as long where there was no news, and half as long where there was news a few times
-- in a row, or enough times where it is the longest
abbrev pub wait_after : ℕ → ℕ → ℕ
wait_after pause zero = min (pause * 2) longest
wait_after pause (suc run) = if nat_le (needed pause) (suc run) then max (pause / 2) 1 else pause

-- the wait of the next call
abbrev pub pause_after : ℕ → ℕ → Arrival → ℕ
pause_after pause run (Datagram at len moment) = pause
pause_after pause run (Quiet moment) = wait_after pause run
pause_after pause run Closed = pause

-- how long a wait is at most that begins so long after a quiet moment: no longer than until the next one is due
abbrev pub most_after : ℕ → ℕ
most_after zero = longest
most_after (suc n) = if nat_lt (suc n) near then early - suc n else min last_wait (longest - suc n)

-- how long a call waits that began at a moment at which none was due
abbrev pub wait_from : ℕ → ℕ → ℕ → ℕ
wait_from pause last moment = min pause (most_after (moment - last))

-- what may be answered before any wait: a datagram, or a quiet moment that is due
abbrev pub is_at_once : ℕ → Arrival → Bool
is_at_once last (Datagram at len moment) = true
is_at_once last (Quiet moment) = is_due last moment
is_at_once last Closed = false

-- the datagram of an arrival, as the broker and the length
abbrev pub datagram_in : Arrival → Option (ℕ × ℕ)
datagram_in (Datagram at len moment) = Some (at, len)
datagram_in (Quiet moment) = None
datagram_in Closed = None

-- A call answered without a wait.
pub record AtOnce (bound : List Bound) (last : ℕ) (old new : Traffic) (piece : List ℕ) (arrival : Arrival)
    : Type 0 where
  pub at_once : is_at_once last arrival ≡ true
  pub looked : Looked bound old new piece (datagram_in arrival)

-- A call waited once, at most as long as the pause, and then looked.
pub record AfterWait (bound : List Bound) (pause last : ℕ) (old new : Traffic) (piece : List ℕ) (arrival : Arrival)
    : Type 0 where
  pub began : ℕ
  pub before : is_due last began ≡ false
  pub looked : Looked bound (with_wait (wait_from pause last began) old) new piece (datagram_in arrival)

-- What a call of `next` did.
abbrev pub NextDid : List Bound → ℕ → ℕ → Traffic → Traffic → List ℕ → Arrival → Type 0
NextDid bound pause last old new piece arrival =
    AtOnce bound last old new piece arrival ⊎ AfterWait bound pause last old new piece arrival

-- it came at a broker that is hosted
abbrev pub CameHosted : List Bound → Arrival → Type 0
CameHosted bound (Datagram at len moment) = (s : ℕ) × HasSocket bound at s
CameHosted bound (Quiet moment) = ⊤
CameHosted bound Closed = ⊥

-- What an offer that was carried out did: the bytes went from the socket of the one broker to the address of the other.
abbrev pub OfferDid : List Bound → ℕ → ℕ → List ℕ → Traffic → Traffic → Type 0
OfferDid bound from to bytes old new =
    (s : ℕ) × (a : Address) × (socket_in from bound ≡ Some s) × (address_in to bound ≡ Some a)
    × (new ≡ with_sent s a bytes old)
