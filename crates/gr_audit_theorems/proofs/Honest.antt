-- In an order in which each group can go, the joint run is honest, and the order takes all that came
use Rattle.std.proofs.Common.{◌≡◌, ◌⊎◌, inl, inr, ℕ, suc, ◌<◌, Bool, true, false, ◌&&◌, ◌||◌, List, [], ◌∷◌, ◌++◌, Option, Some, None, Result, Ok, Err, length, get_or, set, map, refl, sym, ap, ap₂, ◌∙◌, subst, arith}
use Rattle.std.specs.Prelude.{nat_eq, bytes_eq, if◌then◌else◌, filter}
use Rattle.std.specs.List.{AllByRecursion}
use Rattle.std.proofs.lemmas.Bool.{cases_Bool, cases_eq, cases_lt, and_parts, eqb-true, eq-eqb, ne_eqb, true≢false}
use Rattle.std.proofs.lemmas.Slice.Eq.{bytes_eq-Decides}
use Rattle.std.proofs.lemmas.List.{get_or-set_same, get_or-set_other, get_or_past, map-append}
use Rattle.std.proofs.lemmas.List.Elements.{filter-append}
use Rattle.gr_frame.specs.declared.Body.{Body}
use Rattle.gr_frame.specs.declared.Body.TheVariants as body
use Rattle.gr_frame.specs.declared.Frame.{Frame}
use Rattle.gr_frame.specs.declared.fault.FrameFault.{FrameFault}
use Rattle.gr_frame.specs.Bytes.{frame_bytes}
use Rattle.gr_frame.specs.Decode.{frame_decoded}
use Rattle.gr_topo.specs.Topology.{TopologyView}
use Rattle.gr_model.specs.declared.report.Report.{Report}
use Rattle.gr_model.specs.declared.report.Report.TheVariants as line
use Rattle.gr_model.specs.NetOf.{net_of}
use Rattle.gr_model.specs.Broker.{seen}
use Rattle.gr_model.specs.World.{World, Transition, sent_line, sent_lines, sent_since}
use Rattle.gr_model.specs.Headline.{is_sent, sent_number}
use Rattle.gr_model.specs.Arrivals.{Arrival, datagram, Request, left_after, comes}
use Rattle.gr_model_theorems.specs.Joint.{brokers_of, left_of, lefts_after, joint_from_by, IsHonestJoint}
use Rattle.gr_model_theorems.specs.Served.{tells_bytes, number_of_bytes, IsHonestAt}
use Rattle.gr_model_theorems.proofs.headline.ReplyLines.{frame_told}
use Rattle.gr_model_theorems.proofs.records.RecordLines.{sent_lines-append}
use Rattle.gr_model_theorems.proofs.server.Arriving.{number_sent}
use Rattle.gr_journal.specs.declared.arrival.Arrival.{Arrival as Noted}
use Rattle.gr_journal.specs.declared.arrival.Arrival.TheVariants as noted
use Rattle.gr_journal.specs.declared.arrival.Came.{Came}
use Rattle.gr_audit.specs.Audited.{arrivals, needed, keys_of}
use Rattle.gr_audit.specs.Joint.{Key, same_key, Link, State, has, can_go, head_goes, go_by, go_at, MayGo, after, AllGone}
use Rattle.gr_audit_theorems.specs.Behaves.{arrival_of, noted_offer}
use Rattle.gr_audit_theorems.specs.OneRun.{turns_of, arrivals_at}
use Rattle.gr_audit_theorems.proofs.Beside.{Beside, set_past}
use Rattle.gr_audit_theorems.proofs.Coming.{ArrivalAt, Unheard, ComesSame}
use Rattle.gr_audit_theorems.proofs.Running.{sent_is, left_here, left_there, AllApart, AllRequestsAt, all_left_at, turn_apart, turn_same}
use Rattle.gr_audit_theorems.proofs.Texts.{alone_links}

-- Frames by their keys

abbrev pub keys_sent : List Frame → List Key
keys_sent fs = keys_of (map noted_offer fs)

line_sent : (n : ℕ) (f : Frame) → is_sent (sent_line n f) ≡ true
unfolding sent_line
line_sent n f = go f.body
  where
    go : (y : Body) → is_sent (elim y [ body.Knowledge runs js ↦ line.SentKnow n f.head.from f.head.to f.head.publisher runs js | body.Curiosity runs ↦ line.SentWant n f.head.from f.head.to f.head.publisher runs | body.Expect tick ↦ line.SentExpect n f.head.from f.head.to f.head.publisher tick ]) ≡ true
    go (body.Knowledge runs js) = refl
    go (body.Curiosity runs) = refl
    go (body.Expect tick) = refl

-- a frame's line tells its bytes to its receiver, and nothing else
line_tells : (n b : ℕ) (bytes : List ℕ) (f : Frame) → tells_bytes b bytes (sent_line n f) ≡ (nat_eq f.head.to b && bytes_eq (frame_bytes f) bytes)
line_tells n b bytes f =
    ap₂ (λ (x y : Bool). x && y) (line_sent n f)
    (ap (λ (o : Option Frame). elim o [ Some g ↦ nat_eq g.head.to b && bytes_eq (frame_bytes g) bytes | None ↦ false ]) (frame_told n f))

same_told : (n b : ℕ) (bytes : List ℕ) (f : Frame) → same_key (b, bytes) (f.head.to, frame_bytes f) ≡ true → tells_bytes b bytes (sent_line n f) ≡ true
same_told n b bytes f h =
    let parts = and_parts (nat_eq b f.head.to) (bytes_eq bytes (frame_bytes f)) h in
    line_tells n b bytes f
    ∙ ap₂ (λ (x y : Bool). x && y) (eq-eqb f.head.to b (sym (eqb-true b f.head.to parts.0)))
    ((bytes_eq-Decides (frame_bytes f) bytes).1 (sym ((bytes_eq-Decides bytes (frame_bytes f)).0 parts.1)))

-- a key among those of frames has a number among their lines
key_told : (n b : ℕ) (bytes : List ℕ) (fs : List Frame) → has (keys_sent fs) (b, bytes) ≡ true → (k : ℕ) × (number_of_bytes b bytes (sent_lines n fs) ≡ Some k)
key_told n b bytes [] h = absurd (true≢false (sym h))
key_told n b bytes (f ∷ fs) h = elim (cases_Bool (tells_bytes b bytes (sent_line n f))) [
  | inl e ↦ (sent_number (sent_line n f), ap (λ c. if c then Some (sent_number (sent_line n f)) else number_of_bytes b bytes (sent_lines (suc n) fs)) e)
  | inr e ↦
      let x = key_told (suc n) b bytes fs (rest (same_key (b, bytes) (f.head.to, frame_bytes f)) refl e h) in
      (x.0, ap (λ c. if c then Some (sent_number (sent_line n f)) else number_of_bytes b bytes (sent_lines (suc n) fs)) e ∙ x.1)
]
  where
    rest : (c : Bool) → same_key (b, bytes) (f.head.to, frame_bytes f) ≡ c → tells_bytes b bytes (sent_line n f) ≡ false → (c || has (keys_sent fs) (b, bytes)) ≡ true → has (keys_sent fs) (b, bytes) ≡ true
    rest true e isnt h = absurd (true≢false (sym (same_told n b bytes f e) ∙ isnt))
    rest false e isnt h = h

has_more : (k : Key) (xs ys : List Key) → has (xs ++ ys) k ≡ (has xs k || has ys k)
has_more k [] ys = refl
has_more k (x ∷ xs) ys = ap (λ b. same_key k x || b) (has_more k xs ys) ∙ or_again (same_key k x) (has xs k) (has ys k)
  where
    or_again : (a b c : Bool) → (a || (b || c)) ≡ ((a || b) || c)
    or_again true b c = refl
    or_again false b c = refl

-- Places of lists

nonempty_in : {X : Type 0} (xs : List (List X)) (i : ℕ) (x : X) (ys : List X) → get_or xs i [] ≡ x ∷ ys → i < length xs
nonempty_in xs i x ys e = elim (cases_lt i (length xs)) [
  | inl lt ↦ lt
  | inr le ↦ absurd (none (sym (get_or_past xs i [] le) ∙ e))
]
  where
    none : [] ≡ x ∷ ys → ⊥
    none q = cc

-- what holds of a place holds of it once a place was set
set_case : {A : Type 0} (Q : A → Type 0) (xs : List A) (i j : ℕ) (a d : A) → Q d → (j ≡ i → Q a) → Q (get_or xs j d) → Q (get_or (set xs i a) j d)
set_case Q xs i j a d none here there = elim (cases_eq j i) [
  | inl e ↦ subst (λ k. Q (get_or (set xs i a) k d)) (sym e) (elim (cases_lt i (length xs)) [
    | inl lt ↦ subst Q (sym (get_or-set_same xs i a d lt)) (here e)
    | inr le ↦ subst Q (sym (set_past xs i a d le)) none
  ])
  | inr ne ↦ subst Q (sym (get_or-set_other xs i j a d ne)) there
]

-- what holds of all that came to each process holds of each turn
pub turns_all : (P : ℕ → Arrival → Type 0) (order : List ℕ) (lefts : List (List Arrival)) → ((k : ℕ) → AllByRecursion (P k) (get_or lefts k [])) → AllByRecursion (λ (x : ℕ × Arrival). P x.0 x.1) (turns_of lefts order)
turns_all P [] lefts h = tt
turns_all P (k ∷ order) lefts h = go (get_or lefts k []) (h k) (λ ls all. turns_all P order ls all)
  where
    go : (left : List Arrival) → AllByRecursion (P k) left → ((ls : List (List Arrival)) → ((j : ℕ) → AllByRecursion (P j) (get_or ls j [])) → AllByRecursion (λ (x : ℕ × Arrival). P x.0 x.1) (turns_of ls order)) → AllByRecursion (λ (x : ℕ × Arrival). P x.0 x.1) (elim left [ [] ↦ turns_of lefts order | a ∷ left ↦ (k, a) ∷ turns_of (set lefts k left) order ])
    go [] all more = more lefts h
    go (a ∷ left) all more = (all.0, more (set lefts k left) (λ j. set_case (λ zs. AllByRecursion (P j) zs) lefts k j left [] tt (λ e. subst (λ i. AllByRecursion (P i) left) (sym e) all.1) (h j)))

-- The order takes all that came

-- as many groups as arrivals are left to each
abbrev pub InStep : List (List Link) → List (List Arrival) → Type 0
InStep links lefts = (k : ℕ) → length (get_or links k []) ≡ length (get_or lefts k [])

abbrev turns_by : List (List Arrival) → ℕ → List ℕ → List Arrival → List (ℕ × Arrival)
turns_by lefts k order left = elim left [ [] ↦ turns_of lefts order | a ∷ left ↦ (k, a) ∷ turns_of (set lefts k left) order ]

pub whole_from : (order : List ℕ) (s : State) (lefts : List (List Arrival)) (k : ℕ) → InStep s.left lefts → MayGo s order → AllGone (after s order) → arrivals_at k (turns_of lefts order) ≡ get_or lefts k []
whole_from [] s lefts k step may gone = none (get_or lefts k []) (sym (step k) ∙ ap length (gone k))
  where
    none : (xs : List Arrival) → length xs ≡ 0 → [] ≡ xs
    none [] e = refl
    none (x ∷ xs) e = absurd (cc)
whole_from (i ∷ order) s lefts k step may gone =
    go (get_or s.left i []) (get_or lefts i []) refl refl may.0 (λ next ls steps may gone. whole_from order next ls k steps may gone)
  where
    Rest : Type 0
    Rest = (next : State) (ls : List (List Arrival)) → InStep next.left ls → MayGo next order → AllGone (after next order) → arrivals_at k (turns_of ls order) ≡ get_or ls k []

    go : (links : List Link) (left : List Arrival) → get_or s.left i [] ≡ links → get_or lefts i [] ≡ left → head_goes s.offered links ≡ true → Rest → arrivals_at k (turns_by lefts i order left) ≡ get_or lefts k []
    go [] left e f h more = absurd (true≢false (sym h))
    go (l ∷ ls) [] e f h more = absurd (some (sym (ap length e) ∙ (step i ∙ ap length f)))
      where
        some : length (l ∷ ls) ≡ 0 → ⊥
        some q = cc
    go (l ∷ ls) (a ∷ left) e f h more = first (cases_eq k i)
      where
        next : State
        next = record { offered = l.gives ++ s.offered; left = set s.left i ls }

        is_next : go_at s i ≡ next
        is_next = ap (λ z. go_by s i z) e

        shorter : length ls ≡ length left
        shorter = let q : suc (length ls) ≡ suc (length left) = sym (ap length e) ∙ (step i ∙ ap length f) in omega (arith, q)

        steps : InStep next.left (set lefts i left)
        steps j = elim (cases_eq j i) [
          | inl q ↦ subst (λ z. length (get_or (set s.left i ls) z []) ≡ length (get_or (set lefts i left) z [])) (sym q)
              (ap length (get_or-set_same s.left i ls [] (nonempty_in s.left i l ls e)) ∙ (shorter ∙ sym (ap length (get_or-set_same lefts i left [] (nonempty_in lefts i a left f)))))
          | inr ne ↦ ap length (get_or-set_other s.left i j ls [] ne) ∙ (step j ∙ sym (ap length (get_or-set_other lefts i j left [] ne)))
        ]

        rest : arrivals_at k (turns_of (set lefts i left) order) ≡ get_or (set lefts i left) k []
        rest = more next (set lefts i left) steps (subst (λ z. MayGo z order) is_next may.1) (subst (λ z. AllGone (after z order)) is_next gone)

        first : (k ≡ i) ⊎ (k ≡ i → ⊥) → arrivals_at k ((i, a) ∷ turns_of (set lefts i left) order) ≡ get_or lefts k []
        first (inl q) =
            ap (λ b. if b then a ∷ arrivals_at k (turns_of (set lefts i left) order) else arrivals_at k (turns_of (set lefts i left) order)) (eq-eqb i k (sym q))
            ∙ (ap (λ (z : List Arrival). a ∷ z) (rest ∙ (ap (λ z. get_or (set lefts i left) z []) q ∙ get_or-set_same lefts i left [] (nonempty_in lefts i a left f)))
            ∙ (sym f ∙ ap (λ z. get_or lefts z []) (sym q)))
        first (inr ne) =
            ap (λ b. if b then a ∷ arrivals_at k (turns_of (set lefts i left) order) else arrivals_at k (turns_of (set lefts i left) order)) (ne_eqb i k (λ q. ne (sym q)))
            ∙ (rest ∙ get_or-set_other lefts i k left [] ne)

-- Each turn is honest

module _ (t : TopologyView) (processes : List (List ℕ)) (unheard : Unheard (net_of t)) (apart : AllApart processes) where
  -- where process k stands: its own world, and what is still to come to it
  pub record Stands (links : List (List Link)) (cames : List (List Arrival)) (u : World) (lefts : List (List Request)) (k : ℕ) : Type 0 where
    pub world : World
    pub came : List Came
    pub links_are : get_or links k [] ≡ alone_links t (brokers_of processes k) world (left_of lefts k) came
    pub cames_are : get_or cames k [] ≡ map arrival_of (arrivals came)
    pub beside : Beside (net_of t) (brokers_of processes k) world u
    pub at : AllByRecursion (λ (c : Came). ArrivalAt (brokers_of processes k) (arrival_of c.arrival)) came

  -- what was offered are frames of the joint run, and the lines so far tell of all its frames
  pub record Tells (offered : List Key) (u : World) (told : List Report) : Type 0 where
    pub offers : (k : Key) → has offered k ≡ true → has (keys_sent u.frames) k ≡ true
    pub lines : filter is_sent told ≡ sent_lines 1 u.frames

  honest_here : (offered : List Key) (u : World) (told : List Report) (line : ℕ) (gives : List Key) (a : Noted) → Tells offered u told → can_go offered (record { line = line; needs = needed a; gives = gives }) ≡ true → IsHonestAt told (arrival_of a)
  honest_here offered u told line gives (noted.Quiet moment) x h = tt
  honest_here offered u told line gives (noted.Datagram b moment bytes) x h = go (frame_decoded bytes) refl h
    where
      by : (c : Bool) → can_go offered (record { line = line; needs = if c then Some (b, bytes) else None; gives = gives }) ≡ true → c ≡ true → has offered (b, bytes) ≡ true
      by true h e = h
      by false h e = absurd (true≢false (sym e))

      go : (r : Result Frame FrameFault) → frame_decoded bytes ≡ r → can_go offered (record { line = line; needs = if (elim r [ Ok _ ↦ true | Err _ ↦ false ]) then Some (b, bytes) else None; gives = gives }) ≡ true → IsHonestAt told (datagram b bytes moment)
      go (Err fault) e h = inl (fault, e)
      go (Ok f) e h =
          let n = key_told 1 b bytes u.frames (x.offers (b, bytes) h) in
          inr (n.0, number_sent b bytes told ∙ (ap (number_of_bytes b bytes) x.lines ∙ n.1))

  pub honest_from : (order : List ℕ) (s : State) (cames : List (List Arrival)) (u : World) (lefts : List (List Request)) (told : List Report) → ((k : ℕ) → Stands s.left cames u lefts k) → AllRequestsAt (net_of t) processes lefts → Tells s.offered u told → MayGo s order
      → IsHonestJoint told (turns_of cames order) (joint_from_by (seen (net_of t)) (net_of t) processes u lefts (turns_of cames order))
  unfolding joint_from_by alone_links
  honest_from [] s cames u lefts told stands requests x may = tt
  honest_from (i ∷ order) s cames u lefts told stands requests x may =
      let z = stands i in
      subst (λ (left : List Arrival). IsHonestJoint told (turns_by cames i order left) (joint_from_by (seen (net_of t)) (net_of t) processes u lefts (turns_by cames i order left))) (sym z.cames_are)
      (go z.world z.came z.links_are z.cames_are z.beside z.at may (λ next cs v ls lines st rs tells may. honest_from order next cs v ls lines st rs tells may))
    where
      Rest : Type 0
      Rest = (next : State) (cs : List (List Arrival)) (v : World) (ls : List (List Request)) (lines : List Report) → ((k : ℕ) → Stands next.left cs v ls k) → AllRequestsAt (net_of t) processes ls → Tells next.offered v lines → MayGo next order
          → IsHonestJoint lines (turns_of cs order) (joint_from_by (seen (net_of t)) (net_of t) processes v ls (turns_of cs order))

      go : (w : World) (came : List Came) → get_or s.left i [] ≡ alone_links t (brokers_of processes i) w (left_of lefts i) came → get_or cames i [] ≡ map arrival_of (arrivals came) → Beside (net_of t) (brokers_of processes i) w u
          → AllByRecursion (λ (c : Came). ArrivalAt (brokers_of processes i) (arrival_of c.arrival)) came → (head_goes s.offered (get_or s.left i []) ≡ true) × MayGo (go_at s i) order → Rest
          → IsHonestJoint told (turns_by cames i order (map arrival_of (arrivals came))) (joint_from_by (seen (net_of t)) (net_of t) processes u lefts (turns_by cames i order (map arrival_of (arrivals came))))
      go w [] is come beside at may more = absurd (true≢false (sym may.0 ∙ ap (head_goes s.offered) is))
      go w (c ∷ came) is come beside at may more = (
        honest_here s.offered u told c.line gives c.arrival x (sym (ap (head_goes s.offered) is) ∙ may.0),
        more next (set cames i (map arrival_of (arrivals came))) v.world (lefts_after lefts turn) (told ++ v.lines) stand (all_left_at (net_of t) processes lefts turn requests)
            (record { offers = offers; lines = lines }) (subst (λ z. MayGo z order) (ap (λ z. go_by s i z) is) may.1),
      )
        where
          turn : ℕ × Arrival
          turn = (i, arrival_of c.arrival)

          -- in its own world and in the joint one
          own : Transition
          own = comes (net_of t) (brokers_of processes i) w (left_of lefts i) (arrival_of c.arrival)

          v : Transition
          v = comes (net_of t) (brokers_of processes i) u (left_of lefts i) (arrival_of c.arrival)

          gives : List Key
          gives = keys_sent (sent_since w own.world)

          rest : List Link
          rest = alone_links t (brokers_of processes i) own.world (left_after (left_of lefts i) (arrival_of c.arrival)) came

          next : State
          next = record { offered = gives ++ s.offered; left = set s.left i rest }

          same : ComesSame (net_of t) (brokers_of processes i) w u own v
          same = turn_same (net_of t) processes unheard apart i w u lefts turn refl at.0 requests beside

          stand : (k : ℕ) → Stands next.left (set cames i (map arrival_of (arrivals came))) v.world (lefts_after lefts turn) k
          stand k = elim (cases_eq k i) [
            | inl e ↦ subst (λ j. Stands next.left (set cames i (map arrival_of (arrivals came))) v.world (lefts_after lefts turn) j) (sym e) (record {
              world = own.world;
              came = came;
              links_are = get_or-set_same s.left i rest [] (nonempty_in s.left i _ rest is) ∙ ap (λ z. alone_links t (brokers_of processes i) own.world z came) (sym (left_here lefts turn));
              cames_are = get_or-set_same cames i (map arrival_of (arrivals came)) [] (nonempty_in cames i (arrival_of c.arrival) (map arrival_of (arrivals came)) come);
              beside = same.beside;
              at = at.1;
            })
            | inr ne ↦ (let z = stands k in record {
              world = z.world;
              came = z.came;
              links_are = get_or-set_other s.left i k rest [] ne ∙ (z.links_are ∙ ap (λ y. alone_links t (brokers_of processes k) z.world y z.came) (sym (left_there lefts turn k ne)));
              cames_are = get_or-set_other cames i k (map arrival_of (arrivals came)) [] ne ∙ z.cames_are;
              beside = turn_apart (net_of t) processes unheard apart k z.world u lefts turn ne at.0 requests z.beside;
              at = z.at;
            })
          ]

          all_keys : keys_sent v.world.frames ≡ keys_sent u.frames ++ keys_sent same.more
          all_keys = ap keys_sent same.other_frames ∙ (ap keys_of (map-append noted_offer u.frames same.more) ∙ map-append (λ o. (o.to, o.bytes)) (map noted_offer u.frames) (map noted_offer same.more))

          offers : (k : Key) → has (gives ++ s.offered) k ≡ true → has (keys_sent v.world.frames) k ≡ true
          offers k h =
              let e : has (gives ++ s.offered) k ≡ (has gives k || has s.offered k) = has_more k gives s.offered in
              let f : has (keys_sent v.world.frames) k ≡ (has (keys_sent u.frames) k || has (keys_sent same.more) k) = ap (λ z. has z k) all_keys ∙ has_more k (keys_sent u.frames) (keys_sent same.more) in
              let g : has gives k ≡ has (keys_sent same.more) k = ap (λ z. has (keys_sent z) k) (sent_is w own.world same.more same.frames) in
              f ∙ either (has gives k) (has s.offered k) (has (keys_sent u.frames) k) (has (keys_sent same.more) k) g (x.offers k) (sym e ∙ h)
            where
              either : (a b c d : Bool) → a ≡ d → (b ≡ true → c ≡ true) → (a || b) ≡ true → (c || d) ≡ true
              either true b true d e k h = refl
              either true b false d e k h = sym e
              either false b c d e k h = ap (λ z. z || d) (k h)

          lines : filter is_sent (told ++ v.lines) ≡ sent_lines 1 v.world.frames
          lines = filter-append is_sent told v.lines
              ∙ (ap₂ (λ (p q : List Report). p ++ q) x.lines same.told
              ∙ (ap (λ m. sent_lines 1 u.frames ++ sent_lines m same.more) (omega arith) ∙ sym (sent_lines-append 1 u.frames same.more) ∙ ap (λ z. sent_lines 1 z) (sym same.other_frames)))
