-- What the journal offers to a client: where it says which number comes next, the log has all numbers below
use Rattle.std.proofs.Common.{◌≡◌, ◌⊎◌, inl, inr, ℕ, suc, ◌+◌, ◌*◌, ◌/◌, ◌%◌, ◌^◌, ◌≤◌, ◌<◌, Bool, true, false, ◌&&◌, ◌||◌, List, [], ◌∷◌, length, drop, refl, sym, ap, ◌∙◌, subst, arith, true≢false}
use Rattle.std.specs.Prelude.{nat_eq, bytes_eq, if◌then◌else◌}
use Rattle.std.specs.Int.{to_be_bytes, from_be_bytes, w64}
use Rattle.std.specs.List.{list_any, AllByRecursion}
use Rattle.std.proofs.lemmas.Bool.{cases_Bool, and_parts, or_cases, eqb-true}
use Rattle.std.proofs.lemmas.List.Folds.{list_any-append}
use Rattle.std.proofs.lemmas.Nat.{from_be_bytes-to_be_bytes_8}
use Rattle.std.proofs.lemmas.Slice.Eq.{bytes_eq-Decides}
use Rattle.std.proofs.Math.Nat.{div-div-eq-div-mul}
use Rattle.gr_event.specs.declared.event.Event.{Event}
use Rattle.gr_frame.specs.declared.Body.{Body}
use Rattle.gr_frame.specs.declared.Body.TheVariants as body
use Rattle.gr_frame.specs.declared.Frame.{Frame}
use Rattle.gr_frame.specs.Bytes.{frame_bytes}
use Rattle.gr_note.specs.declared.note.Note.{Note}
use Rattle.gr_note.specs.declared.note.Note.TheVariants.{Next, Spent}
use Rattle.gr_note.specs.Bytes.{note_bytes}
use Rattle.gr_note.specs.Nodes.{client_node}
use Rattle.gr_note.proofs.Spelled.{length-note_bytes}
use Rattle.gr_out.specs.Entry.{Entry}
use Rattle.gr_topo.specs.Topology.{TopologyView}
use Rattle.gr_model.specs.NetOf.{net_of}
use Rattle.gr_model.specs.Broker.{Log}
use Rattle.gr_model.specs.World.{World, Transition, log_of, in_turn, sent_since}
use Rattle.gr_model.specs.Arrivals.{Publish, datagram, quiet}
use Rattle.gr_node.specs.Plan.{Act, binds, starts, arrives, calls, answers, drops, settles, closes, shows, called, act, offers_of, reply_to, entries, all_entries}
use Rattle.gr_node.specs.Submitted.{offers_next}
use Rattle.gr_node.proofs.Logging.{IsFine, act_grows, acts_grow}

-- The bytes

-- a frame has other letters than a note
frame_is : (f : Frame) → (let l : List ℕ = frame_bytes f in l ≡ 71 ∷ (75 ∷ drop 2 l))
unfolding frame_bytes
frame_is f = go f.body
  where
    go : (y : Body) → (let l : List ℕ = frame_bytes (record { head = f.head; body = y }) in l ≡ 71 ∷ (75 ∷ drop 2 l))
    go (body.Knowledge runs js) = refl
    go (body.Curiosity runs) = refl
    go (body.Expect tick) = refl

note_is : (p n : ℕ) → (let l : List ℕ = note_bytes (Next p n) in l ≡ 71 ∷ (80 ∷ drop 2 l))
unfolding note_bytes
note_is p n = refl

-- so no frame has the bytes of a note
no_note : (f : Frame) (p n : ℕ) → bytes_eq (frame_bytes f) (note_bytes (Next p n)) ≡ false
no_note f p n = go (cases_Bool (bytes_eq (frame_bytes f) (note_bytes (Next p n))))
  where
    second : List ℕ → ℕ
    second l = elim l [ [] ↦ 0 | x ∷ xs ↦ elim xs [ [] ↦ 0 | y ∷ ys ↦ y ] ]

    go : (bytes_eq (frame_bytes f) (note_bytes (Next p n)) ≡ true) ⊎ (bytes_eq (frame_bytes f) (note_bytes (Next p n)) ≡ false) → bytes_eq (frame_bytes f) (note_bytes (Next p n)) ≡ false
    go (inl e) =
        let same : frame_bytes f ≡ note_bytes (Next p n) = (bytes_eq-Decides (frame_bytes f) (note_bytes (Next p n))).0 e in
        let letter : 75 ≡ 80 = sym (ap second (frame_is f)) ∙ (ap second same ∙ ap second (note_is p n)) in
        absurd (omega (arith, letter))
    go (inr e) = e

-- bytes of a number of 64 bits
byte_and_rest : (n p : ℕ) → n / p ≡ n / p % 256 + n / (p * 256) * 256
byte_and_rest n p = omega (arith, div-div-eq-div-mul n p 256)

joined : (a b c d e f g h n p q r s t u v : ℕ) → n ≡ a + p * 256 → p ≡ b + q * 256 → q ≡ c + r * 256 → r ≡ d + s * 256
    → s ≡ e + t * 256 → t ≡ f + u * 256 → u ≡ g + v * 256 → h ≤ v
    → h * 72057594037927936 + g * 281474976710656 + f * 1099511627776 + e * 4294967296 + d * 16777216 + c * 65536 + b * 256 + a ≤ n
joined a b c d e f g h n p q r s t u v at_0 at_1 at_2 at_3 at_4 at_5 at_6 at_7 = omega arith

-- a number is at least that of its last 64 bits
read_upto : (n : ℕ) → from_be_bytes w64 (to_be_bytes w64 n) ≤ n
read_upto n =
    let low : n ≡ n % 256 + n / 256 * 256 = omega arith in
    let high : n / 72057594037927936 % 256 ≤ n / 72057594037927936 = omega arith in
    joined _ _ _ _ _ _ _ _ n _ _ _ _ _ _ _ low (byte_and_rest n 256) (byte_and_rest n 65536) (byte_and_rest n 16777216) (byte_and_rest n 4294967296) (byte_and_rest n 1099511627776) (byte_and_rest n 281474976710656) high

same_number : (m n : ℕ) → n < 2 ^ 64 → to_be_bytes w64 m ≡ to_be_bytes w64 n → n ≤ m
same_number m n small e =
    let is : from_be_bytes w64 (to_be_bytes w64 m) ≡ n = ap (λ (l : List ℕ). from_be_bytes w64 l) e ∙ from_be_bytes-to_be_bytes_8 n small in
    omega (arith, is, read_upto m)

next_number : (p q m n : ℕ) → n < 2 ^ 64 → note_bytes (Next q m) ≡ note_bytes (Next p n) → n ≤ m
unfolding note_bytes
next_number p q m n small e = same_number m n small (ap (drop 6) e)

spent_is_short : (p q n : ℕ) → note_bytes (Spent q) ≡ note_bytes (Next p n) → ⊥
spent_is_short p q n e = omega (arith, ap length e, length-note_bytes (Spent q), length-note_bytes (Next p n))

-- an answer that says which number comes next says the one behind the last
reply_says : (p n last : ℕ) (x : Publish) → n < 2 ^ 64 → note_bytes (reply_to last x) ≡ note_bytes (Next p n) → n ≤ suc last
reply_says p n last x small e = go (nat_eq x.1.0 (suc last)) e
  where
    go : (c : Bool) → (let r : Note = if c then Spent x.0 else Next x.0 (suc last) in note_bytes r ≡ note_bytes (Next p n)) → n ≤ suc last
    go true h = absurd (spent_is_short p x.0 n h)
    go false h = next_number p x.0 (suc last) n small h

-- The entries

module _ (t : TopologyView) (hosted : List ℕ) (p n : ℕ) (small : n < 2 ^ 64) where
  abbrev says_next : List Entry → Bool
  says_next es = list_any (offers_next p n) es

  frames_say_not : (fs : List Frame) → says_next (offers_of fs) ≡ false
  frames_say_not [] = refl
  frames_say_not (f ∷ fs) = go (nat_eq f.head.to (client_node p)) (bytes_eq (frame_bytes f) (note_bytes (Next p n))) (no_note f p n) (frames_say_not fs)
    where
      go : (b c : Bool) → c ≡ false → says_next (offers_of fs) ≡ false → ((b && c) || says_next (offers_of fs)) ≡ false
      go true c h none = ap (λ (d : Bool). d || says_next (offers_of fs)) h ∙ none
      go false c h none = none

  nothing_said : (es : List Entry) (k : ℕ) → says_next es ≡ false → says_next es ≡ true → n ≤ k
  nothing_said es k none e = absurd (true≢false (sym e ∙ none))

  act_says : (w : World) (a : Act) → says_next (entries t hosted w a) ≡ true → (let l : Log = log_of w p in n ≤ suc l.last)
  unfolding entries
  act_says w (binds b) e = absurd (true≢false (sym e))
  act_says w (starts b) e = absurd (true≢false (sym e))
  act_says w (arrives (datagram b bytes moment)) e = absurd (true≢false (sym e))
  act_says w (arrives (quiet moment)) e = absurd (true≢false (sym e))
  act_says w (calls c) e =
      let u : Transition = called (net_of t) w c in
      let l : Log = log_of w p in
      nothing_said (offers_of (sent_since w u.world)) (suc l.last) (frames_say_not (sent_since w u.world)) e
  act_says w (answers x) e = go (or_cases (nat_eq (client_node x.0) (client_node p) && bytes_eq (note_bytes (reply_to m.last x)) (note_bytes (Next p n))) false e)
    where
      m : Log
      m = log_of w x.0

      go : ((nat_eq (client_node x.0) (client_node p) && bytes_eq (note_bytes (reply_to m.last x)) (note_bytes (Next p n))) ≡ true) ⊎ (false ≡ true) → (let l : Log = log_of w p in n ≤ suc l.last)
      go (inl h) =
          let both = and_parts (nat_eq (client_node x.0) (client_node p)) (bytes_eq (note_bytes (reply_to m.last x)) (note_bytes (Next p n))) h in
          let same : x.0 ≡ p = omega (arith, eqb-true (client_node x.0) (client_node p) both.0) in
          let bytes : note_bytes (reply_to m.last x) ≡ note_bytes (Next p n) = (bytes_eq-Decides (note_bytes (reply_to m.last x)) (note_bytes (Next p n))).0 both.1 in
          subst (λ k. let l : Log = log_of w k in n ≤ suc l.last) same (reply_says p n m.last x small bytes)
      go (inr h) = absurd (true≢false (sym h))
  act_says w (drops l) e = absurd (true≢false (sym e))
  act_says w settles e = absurd (true≢false (sym e))
  act_says w closes e = absurd (true≢false (sym e))
  act_says w shows e = absurd (true≢false (sym e))

  -- after acts the log has all numbers below
  abbrev pub IsPast : List Act → World → Type 0
  IsPast acts w = let s : Transition = in_turn (act (net_of t) hosted) acts w in let l : Log = log_of s.world p in n ≤ suc l.last

  -- where acts say which number comes next, the log has all below when they were made
  pub acts_say : (P : ℕ → Event → Type 0) (acts : List Act) (w : World) → p < length w.logs → AllByRecursion (IsFine p P) acts → says_next (all_entries t hosted w acts) ≡ true → IsPast acts w
  unfolding all_entries
  acts_say P [] w below fine e = absurd (true≢false (sym e))
  acts_say P (a ∷ acts) w below fine e =
      go (or_cases (says_next (entries t hosted w a)) (says_next (all_entries t hosted u.world acts)) (sym (list_any-append (offers_next p n) (entries t hosted w a) (all_entries t hosted u.world acts)) ∙ e))
      (λ h. let g = act_grows p P (net_of t) hosted w a below fine.0 in acts_say P acts u.world (omega (arith, below, g.long)) fine.1 h)
    where
      u : Transition
      u = act (net_of t) hosted w a

      go : (says_next (entries t hosted w a) ≡ true) ⊎ (says_next (all_entries t hosted u.world acts) ≡ true) → (says_next (all_entries t hosted u.world acts) ≡ true → IsPast acts u.world) → IsPast acts u.world
      go (inl h) later =
          let g = acts_grow p P (net_of t) hosted (a ∷ acts) w below fine in
          omega (arith, act_says w a h, g.adds.logs.last)
      go (inr h) later = later h
