-- What an append has done to two lanes: where no call was made they are as they were, and where the four were begun each
-- promise is one lemma on crashes.
use Rattle.std.proofs.Common.{◌≡◌, ◌⊎◌, inl, inr, ⊎_elim, ℕ, ◌+◌, ◌-◌, ◌<◌, Bool, true, false, not, if◌then◌else◌, List, [], ◌∷◌, ◌++◌, length, Option, Some, Result, Ok, Err, refl, ap, ap₂, sym, ◌∙◌, subst, arith, append_assoc, length-append}
use Rattle.std.specs.Prelude.{OnOk}
use Rattle.std.proofs.lemmas.Bool.{false≢true}
use Rattle.gr_out.specs.Lane.{Lane, content, moment, crash_image, has_stopped, MayLeave, LeftSince, LeavesOnly}
use Rattle.gr_publog.specs.declared.record.Record.{Record}
use Rattle.gr_publog.specs.declared.record.Base.{Base}
use Rattle.gr_publog.specs.declared.record.LogFault.{LogFault}
use Rattle.gr_publog.specs.declared.record.LogFault.TheVariants as fault
use Rattle.gr_publog.specs.declared.head.Standing.{Standing}
use Rattle.gr_publog.specs.declared.head.Standing.TheVariants.{New}
use Rattle.gr_publog.specs.State.{LogState, after_record, state_from, may_follow, IsSound}
use Rattle.gr_publog.specs.Text.{standing_of, record_bytes, record_size, blocks, front_of, begun, Closes, IsText}
use Rattle.gr_publog.specs.Rewrite.{IsBeside, ShutIs, TwoAre, LowerIs}
use Rattle.gr_publog.specs.Crash.{behind_gate, opened_gate, IsBetween, Broke, StoppedImage, is_kept}
use Rattle.gr_publog.specs.Steps.{append_calls, Extends}
use Rattle.gr_publog.specs.Lanes.{Found}
use Rattle.gr_publog.specs.Views.{LogView, Lanes, appended, present, other, LeftPair, ReadsAs, found_of, IsAside, Stands, IsReady}
use Rattle.gr_publog.specs.Calls.{Appends, FoundInTurn}
use Rattle.gr_publog.proofs.Moments.{only_now}
use Rattle.gr_publog.proofs.Reading.{new_stands, blocks-append, follow-append, state-append, length-record}
use Rattle.gr_publog.proofs.Crash.{Reads, between, stopped_reads, appended_is, behind}
use Rattle.gr_publog.proofs.Onward.{goes_on_same}
use Rattle.gr_publog.proofs.Presence.{in_turn, found_in_turn, found_text, found_same, reads_beside, found_beside, beside_is, stands_in_turn, pair_reads}

-- Pairs in the order of the lanes, and by which of them is present

-- what holds of each pair that is left in turn holds of each that is left
pub each_left : (P : List ℕ → List ℕ → Type 0) (second : Bool) (before after : Lanes) (a b : List ℕ)
    → ((image beside : List ℕ) → LeftSince (if second then after.second else after.first) (moment (if second then before.second else before.first)) image
    → LeftSince (if second then after.first else after.second) (moment (if second then before.first else before.second)) beside
    → P (if second then beside else image) (if second then image else beside))
    → LeftPair before after a b → P a b
each_left P false before after a b h left = h a b left.0 left.1
each_left P true before after a b h left = h b a left.1 left.0

-- an image of a lane that was not called
pub same_left : (l l' : Lane) (image : List ℕ) → l' ≡ l → LeftSince l' (moment l) image → MayLeave l image
same_left l l' image e left = only_now l.start l.calls image (subst (λ (x : Lane). LeftSince x (moment l) image) e left)

-- where no call was made, no stop broke one
pub none_broke : (l l' : Lane) (call pick : ℕ) → l'.stop ≡ l.stop → Broke l l' call pick → ⊥
none_broke l l' call pick same broke = let e : false ≡ true = sym (ap has_stopped (same ∙ broke.ordered)) ∙ broke.stopped in cc e

-- The text with one more record

pub front_more : (b : Base) (rs : List Record) (r : Record) (tail : List ℕ)
    → (front_of b ++ blocks rs) ++ 1 ∷ ((record_bytes r ++ 0 ∷ []) ++ tail) ≡ (front_of b ++ blocks (rs ++ r ∷ [])) ++ 0 ∷ tail
front_more b rs r tail =
    append_assoc (front_of b) (blocks rs) (1 ∷ ((record_bytes r ++ 0 ∷ []) ++ tail))
    ∙ (ap (λ (l : List ℕ). front_of b ++ (blocks rs ++ 1 ∷ l)) (append_assoc (record_bytes r) (0 ∷ []) tail)
    ∙ (ap (λ (l : List ℕ). front_of b ++ l) (sym (blocks-append rs r (0 ∷ tail))) ∙ sym (append_assoc (front_of b) (blocks (rs ++ r ∷ [])) (0 ∷ tail))))

length_more : (b : Base) (rs : List Record) (r : Record) → length (front_of b ++ blocks (rs ++ r ∷ [])) ≡ length (front_of b ++ blocks rs) + 1 + record_size r
length_more b rs r =
    omega (
      arith,
      ap length (front_more b rs r []),
      length-append (front_of b ++ blocks rs) (1 ∷ ((record_bytes r ++ 0 ∷ []) ++ [])),
      length-append (record_bytes r ++ 0 ∷ []) [],
      length-append (record_bytes r) (0 ∷ []),
      length-append (front_of b ++ blocks (rs ++ r ∷ [])) (0 ∷ []),
      length-record r,
    )

-- the present lane has its head
pub stands_new : (l : LogView) (ls : Lanes) → Stands ls l → standing_of (not l.second) (content (present l ls)) ≡ Ok (New l.generation)
stands_new l ls s = new_stands l.state.late (content (present l ls)) s.base s.records s.text (not l.second) ∙ ap (λ (g : ℕ). Ok (New g)) s.generation

-- What is known where a record that may follow was appended to a log that is not broken, or was to be.
pub record IsExtended {T : Type 0} (l : LogView) (r : Record) (before after : Lanes) (gate : ℕ) (result : Result T LogFault) : Type 0 where
  pub shut_is : ShutIs
  pub two : TwoAre
  pub lower : LowerIs
  pub stands : Stands before l
  pub beside : other l after ≡ other l before
  pub place : gate + 1 ≡ l.size
  pub ok : may_follow l.state r ≡ true
  pub sound : IsSound r
  pub extends : Extends gate (record_bytes r ++ 0 ∷ []) (present l before) (present l after) result

-- two facts on an answer that is Ok
pub both_ok : {T P Q R : Type 0} (r : Result T LogFault) → (P → Q → R) → OnOk r P → OnOk r Q → OnOk r R
both_ok (Ok x) f p q = f p q
both_ok (Err e) f p q = tt

-- two lanes are as they were
pub both_same : (l : LogView) (before after : Lanes) → present l after ≡ present l before → other l after ≡ other l before → after ≡ before
both_same l before after p o = go l.second before.first before.second after.first after.second p o
  where
    go : (b : Bool) (x y x' y' : Lane) → (if b then y' else x') ≡ (if b then y else x) → (if b then x' else y') ≡ (if b then x else y)
        → ◌≡◌ {A = Lanes} (record { first = x'; second = y' }) (record { first = x; second = y })
    go false x y x' y' p o = ap₂ (λ (u v : Lane). let ls : Lanes = record { first = u; second = v } in ls) p o
    go true x y x' y' p o = ap₂ (λ (u v : Lane). let ls : Lanes = record { first = u; second = v } in ls) o p

module _ {T : Type 0} (l : LogView) (r : Record) (before after : Lanes) (gate : ℕ) (result : Result T LogFault) (a : IsExtended l r before after gate result) where
  abbrev s : Stands before l
  s = a.stands

  abbrev front : List ℕ
  front = front_of s.base ++ blocks s.records

  abbrev aside : List ℕ
  aside = content (other l before)

  abbrev read : List ℕ → Result LogState ℕ
  read x = in_turn l.state.late l.second x aside

  abbrev text : List ℕ
  text = record_bytes r ++ 0 ∷ []

  at_gate : gate ≡ length front
  at_gate = omega (arith, a.place, s.size)

  is_beside : IsBeside l.second s.base.generation aside
  is_beside = subst (λ (g : ℕ). IsBeside l.second g aside) (sym s.generation) (beside_is l.aside l.second l.generation aside s.aside)

  follows : may_follow (state_from (begun l.state.late s.base) s.records) r ≡ true
  follows = ap (λ (x : LogState). may_follow x r) s.state ∙ a.ok

  more : List Record
  more = s.records ++ r ∷ []

  text_more : (bytes tail : List ℕ) → bytes ≡ front ++ 1 ∷ (text ++ tail) → IsText l.state.late bytes s.base (s.records ++ r ∷ [])
  text_more bytes tail is = record {
    spells = record {
      text = record { gate = 0; tail = tail; closed = λ e. cc e; whole = is ∙ front_more s.base s.records r tail };
      follow = follow-append (begun l.state.late s.base) s.records r s.text.spells.follow follows a.sound;
    };
    base = s.text.base;
  }

  state_more : state_from (begun l.state.late s.base) (s.records ++ r ∷ []) ≡ after_record l.state r
  state_more = state-append (begun l.state.late s.base) s.records r ∙ ap (λ (x : LogState). after_record x r) s.state

  reads : Reads read front text (Ok l.state) (Ok (after_record l.state r))
  reads = record {
    closed = λ g tail shut.
        let t : IsText l.state.late (front ++ g ∷ tail) s.base s.records = record { spells = record { text = record { gate = g; tail = tail; closed = shut; whole = refl }; follow = s.text.spells.follow }; base = s.text.base } in
        reads_beside a.shut_is a.two a.lower l.state.late l.second (front ++ g ∷ tail) aside s.base s.records t is_beside ∙ ap (λ (x : LogState). Ok x) s.state;
    opened = λ tail. reads_beside a.shut_is a.two a.lower l.state.late l.second (front ++ 1 ∷ (text ++ tail)) aside s.base (s.records ++ r ∷ []) (text_more (front ++ 1 ∷ (text ++ tail)) tail refl) is_beside ∙ ap (λ (x : LogState). Ok x) state_more;
  }

  closes : Closes (content (present l before)) front
  closes = s.text.spells.text

  -- an image of the present lane, with the gate where the text ends
  here : (image : List ℕ) → IsBetween gate text (content (present l before)) image → IsBetween (length front) text (content (present l before)) image
  here image b = subst (λ (g : ℕ). IsBetween g text (content (present l before)) image) at_gate b

  -- what it stands for
  abbrev found : List ℕ → Result Found ℕ
  found x = found_in_turn l.state.late l.second x aside

  found_before : found_text l.state.late l.second s.base s.records ≡ found_of l
  found_before = found_same l.second s.base.generation l.generation (length front + 1) l.size (state_from (begun l.state.late s.base) s.records) l.state s.generation s.size s.state

  found_after : found_text l.state.late l.second s.base (s.records ++ r ∷ []) ≡ found_of (appended r l)
  found_after =
      found_same l.second s.base.generation l.generation (length (front_of s.base ++ blocks (s.records ++ r ∷ [])) + 1) (l.size + 1 + record_size r)
      (state_from (begun l.state.late s.base) (s.records ++ r ∷ [])) (after_record l.state r) s.generation (omega (arith, length_more s.base s.records r, s.size)) state_more

  finds : Reads found front text (Ok (found_of l)) (Ok (found_of (appended r l)))
  finds = record {
    closed = λ g tail shut.
        let t : IsText l.state.late (front ++ g ∷ tail) s.base s.records = record { spells = record { text = record { gate = g; tail = tail; closed = shut; whole = refl }; follow = s.text.spells.follow }; base = s.text.base } in
        found_beside a.shut_is a.two a.lower l.state.late l.second (front ++ g ∷ tail) aside s.base s.records t is_beside ∙ ap (λ (x : Found). Ok x) found_before;
    opened = λ tail. found_beside a.shut_is a.two a.lower l.state.late l.second (front ++ 1 ∷ (text ++ tail)) aside s.base (s.records ++ r ∷ []) (text_more (front ++ 1 ∷ (text ++ tail)) tail refl) is_beside ∙ ap (λ (x : Found). Ok x) found_after;
  }

  moments : (x y : List ℕ) → LeftPair before after x y → ReadsAs l.state x y ⊎ ReadsAs (after_record l.state r) x y
  moments x y =
      each_left (λ (x y : List ℕ). ReadsAs l.state x y ⊎ ReadsAs (after_record l.state r) x y) l.second before after x y
      (λ image beside left other_left.
      let at : beside ≡ aside = s.only_aside beside (same_left (other l before) (other l after) beside a.beside other_left) in
      let turned = ap (λ (z : List ℕ). in_turn l.state.late l.second image z) at in
      elim (a.extends.any_moment image left) [
        | inl e ↦ inl (turned ∙ (ap read e ∙ stands_in_turn a.shut_is a.two a.lower before l s))
        | inr b ↦ ⊎_elim (λ e. inl (turned ∙ e)) (λ e. inr (turned ∙ e))
            (between read front text (content (present l before)) (Ok l.state) (Ok (after_record l.state r)) closes reads image (here image b))
      ])

  abbrev new : Result Standing ℕ
  new = Ok (New l.generation)

  heads : Reads (standing_of (not l.second)) front text new new
  heads = record {
    closed = λ g tail shut.
        let t : IsText l.state.late (front ++ g ∷ tail) s.base s.records = record { spells = record { text = record { gate = g; tail = tail; closed = shut; whole = refl }; follow = s.text.spells.follow }; base = s.text.base } in
        new_stands l.state.late (front ++ g ∷ tail) s.base s.records t (not l.second) ∙ ap (λ (g : ℕ). Ok (New g)) s.generation;
    opened = λ tail. new_stands l.state.late (front ++ 1 ∷ (text ++ tail)) s.base (s.records ++ r ∷ []) (text_more (front ++ 1 ∷ (text ++ tail)) tail refl) (not l.second) ∙ ap (λ (g : ℕ). Ok (New g)) s.generation;
  }

  head_of : (image : List ℕ) → LeftSince (present l after) (moment (present l before)) image → standing_of (not l.second) image ≡ new
  head_of image left = elim (a.extends.any_moment image left) [
    | inl e ↦ ap (standing_of (not l.second)) e ∙ stands_new l before s
    | inr b ↦ ⊎_elim (λ e. e) (λ e. e) (between (standing_of (not l.second)) front text (content (present l before)) new new closes heads image (here image b))
  ]

  -- either way it is the log that is left
  left_choice : (b : Bool) (image beside : List ℕ) → ◌≡◌ {A = Result Found ℕ} (found_in_turn l.state.late l.second image beside) (if b then Ok (found_of (appended r l)) else Ok (found_of l))
      → FoundInTurn l.second (if b then appended r l else l) image beside
  left_choice true image beside e = e
  left_choice false image beside e = e

  kept_of : (call pick : ℕ) → Broke (present l before) (present l after) call pick → (beside : List ℕ) → MayLeave (other l before) beside
      → FoundInTurn l.second (if is_kept (l.size - 1) call pick then appended r l else l) (crash_image (present l after)) beside
  kept_of call pick broke beside left =
      let image : List ℕ = crash_image (present l after) in
      let at : beside ≡ aside = s.only_aside beside left in
      let three : StoppedImage (length front) text (content (present l before)) call pick image = subst (λ (g : ℕ). StoppedImage g text (content (present l before)) call pick image) at_gate (a.extends.picked call pick broke) in
      let place : length front ≡ l.size - 1 = omega (arith, s.size) in
      left_choice (is_kept (l.size - 1) call pick) image beside
      (ap (λ (z : List ℕ). found_in_turn l.state.late l.second image z) at
      ∙ (stopped_reads found front text (content (present l before)) (Ok (found_of l)) (Ok (found_of (appended r l))) closes finds call pick image three
      ∙ ap (λ (g : ℕ). if is_kept g call pick then Ok (found_of (appended r l)) else Ok (found_of l)) place))

  stands_more : content (present l after) ≡ opened_gate gate (behind_gate gate text (content (present l before))) → LeavesOnly (present l after) (content (present l after)) → Stands after (appended r l)
  stands_more written only =
      let old : List ℕ = content (present l before) in
      let is : content (present l after) ≡ opened_gate (length front) (behind_gate (length front) text old) = written ∙ ap (λ (g : ℕ). opened_gate g (behind_gate g text old)) at_gate in
      record {
        base = s.base;
        records = s.records ++ r ∷ [];
        text = text_more (content (present l after)) (behind read front text old (Ok l.state) (Ok (after_record l.state r)) closes reads)
            (is ∙ appended_is read front text old (Ok l.state) (Ok (after_record l.state r)) closes reads);
        state = state_more;
        generation = s.generation;
        size = omega (arith, length_more s.base s.records r, s.size);
        aside = subst (λ (x : Lane). IsAside l.aside l.second l.generation (content x)) (sym a.beside) s.aside;
        only = only;
        only_aside = subst (λ (x : Lane). LeavesOnly x (content x)) (sym a.beside) s.only_aside;
      }

  pub appends_of : Appends l (Some r) before after result
  appends_of = record {
    stands = λ b. both_ok result stands_more a.extends.written a.extends.only;
    calls = subst (λ (g : ℕ). OnOk result ((present l after).calls ≡ append_calls g text (present l before).calls)) (omega (arith, a.place)) a.extends.calls;
    aside = a.beside;
    on = a.extends.on;
    any_moment = λ b. moments;
    head = λ b. head_of;
    breaks = λ some. a.extends.breaks;
    kept = λ b. kept_of;
    untouched = λ h. both_same l before after (a.extends.untouched h) a.beside;
    few = a.extends.few;
    reserved = a.extends.reserved;
    unset = a.extends.unset;
  }

-- Where no call was made

module _ {T : Type 0} (l : LogView) (logged : Option Record) (before after : Lanes) (e : after ≡ before) where
  pub appends_closed : l.broken ≡ true → Appends {T = T} l logged before after (Err fault.Reopen)
  appends_closed broken = record {
    stands = λ b. tt;
    calls = tt;
    aside = ap (other l) e;
    on = goes_on_same (present l before) (present l after) (ap (present l) e);
    any_moment = λ b. absurd (false≢true (sym b ∙ broken));
    head = λ b. absurd (false≢true (sym b ∙ broken));
    breaks = λ some call pick ordered few. refl;
    kept = λ b call pick broke. absurd (none_broke (present l before) (present l after) call pick (ap (λ (x : Lanes). (present l x).stop) e) broke);
    untouched = λ h. absurd (cc h);
    few = λ h. absurd (cc h);
    reserved = λ h. ap (λ (x : Lanes). (present l x).reserved) e ∙ h;
    unset = λ h. ap (λ (x : Lanes). (present l x).stop) e ∙ h;
  }

  pub appends_refused : ShutIs → TwoAre → LowerIs → IsReady l before → Appends {T = T} l logged before after (Err fault.Memory)
  appends_refused shut_is two lower ready = record {
    stands = λ b. tt;
    calls = tt;
    aside = ap (other l) e;
    on = goes_on_same (present l before) (present l after) (ap (present l) e);
    any_moment = λ b x y left. inl (each_left (λ (x y : List ℕ). ReadsAs l.state x y) l.second before after x y
        (λ image beside p o. pair_reads shut_is two lower before l image beside (ready b)
        (same_left (present l before) (present l after) image (ap (present l) e) p) (same_left (other l before) (other l after) beside (ap (other l) e) o)) left);
    head = λ b image left. ap (standing_of (not l.second)) ((ready b).only image (same_left (present l before) (present l after) image (ap (present l) e) left)) ∙ stands_new l before (ready b);
    breaks = λ some call pick ordered few. refl;
    kept = λ b call pick broke. absurd (none_broke (present l before) (present l after) call pick (ap (λ (x : Lanes). (present l x).stop) e) broke);
    untouched = λ h. e;
    few = λ h. absurd (cc h);
    reserved = λ h. ap (λ (x : Lanes). (present l x).reserved) e ∙ h;
    unset = λ h. ap (λ (x : Lanes). (present l x).stop) e ∙ h;
  }

-- the gate stands in the lane
pub gate_in : (l : LogView) (ls : Lanes) (gate : ℕ) → gate + 1 ≡ l.size → Stands ls l → gate < length (content (present l ls))
gate_in l ls gate place s =
    let c : Closes (content (present l ls)) (front_of s.base ++ blocks s.records) = s.text.spells.text in
    omega (arith, place, s.size, ap length c.whole, length-append (front_of s.base ++ blocks s.records) (c.gate ∷ c.tail))
