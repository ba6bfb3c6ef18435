-- The steps of `specs/Sticky.antt`. Assumes `Logic`.
--     new, grow, stick, again, less, last       made;  one more owner below a full count;  the one that fills it;  one more at a full count;  one less;  the last, which takes the value
--     opens, shut      the invariant is opened by any share of ι's token, and shut at another count
--     lends_shared     the law of sharing.      to_static      an owner at a full count is a `&'static` to the value
use mathlib.Core.Path.{◌≡◌, refl, sym, subst}
use mathlib.Core.Bool.{Bool, true, false, not}
use lib.Dec.{T, ltb, ltb→lt, nltb→le}
use Prim.Native.Nat.{ℕ, ◌+◌, ◌-◌, ◌^◌, ◌<◌}
use native.Mathlib.Omega.{arith}
use mathlib.Core.List.{[], ◌∷◌}
use seplogic.Ra.Ura.{Ura}
use base.Fraction.{full_share}
use base.FractionLaws.{Counts, Counts-all}
use base.Logic.{SProp, ent, sep, wand, ex, guard, id⊢, upd_i, never, never_e, via, apply∗}
use base.Fml.{Incl, Incl-trans, Lft, Key, Mask, Share, Fml, ftrue, fsep, fseps, fwand, fupd, fdead, fbor, fobor, flft, flent, ftok}
use base.Mask.{just, less as without, take}
use contract.BorrowLft.{meet_⊑_left, meet_⊑_right}
use ghost.Rules.{span, thinned}
use types.Logic.{Logic, sem, lfts}
use types.Kit.{drop, ‵, ◌⊛◌, raw, some as exists, given, learn, check, later, await, ◌$◌, ◌∵◌, !, qed, by, use0, use1, use2, move, keep, join, split, split3, group, show, suffices, updating, now, frame, assume, done, pick, fsplit, fsplit3, fjoin, fjoin3, fpick, fpack}
use types.Tokens.{lft_new, lft_end, bor_new, bor_open, obor_alter, obor_close, bor_fracture, shr_bor-open, lent_back, one_token}
use types.Within.{tokens_halve}
use types.Na.{na_inv_new, na_inv_acc, na_inv_dup}
use types.RcWeak.{part, rest, rest_some, part_in, cut, takes, gives, whole}
use denote.Sharing.{ShrLaws, one, beside, held}
use denote.SharingLaws.{contraction, shortens, some_shr_laws, beside_shr_laws, one_shr_laws, held_shr_laws}
use denote.Hidden.{kept, kept_shr_laws}
use denote.Moves.{moves_from}
use denote.Steps.{nothing}
use denote.Struct.Lending.{Lends}
use Rattle.gr_gap.specs.Sticky as s
use Rattle.gr_gap.specs.Sticky.{Id, ι, ζ, forever, owner}

module _ (N : ℕ) (k : Key) (S : ℕ → Fml) (P : Fml) where
  abbrev live : Id → Bool → ℕ → Fml
  live = s.live N k S P

  abbrev Inv : Id → Fml
  Inv = s.Inv N k S P

  abbrev box : Id → Fml
  box = s.box N k S P

  module _ {M : Type 1} {𝓤 : Ura M} (𝓛 : Logic 𝓤) where
    open 𝓛 use {H, A}

    abbrev Pr : Type 2
    Pr = SProp 𝓤

    abbrev ◌⊢◌ : Pr → Pr → Type 1
    X ⊢ Y = ent 𝓤 X Y

    abbrev ◌∗◌ : Pr → Pr → Pr
    X ∗ Y = sep 𝓤 X Y

    abbrev ◌-∗◌ : Pr → Pr → Pr
    X -∗ Y = wand 𝓤 X Y

    abbrev ⟦◌⟧ : Fml → Pr
    ⟦ X ⟧ = sem 𝓛 X

    infix 26 ◌⊢◌
    infixr 35 ◌∗◌
    infixr 30 ◌-∗◌
    not_dead : (κ : Lft) (q : Share) (X : Pr) → A.lft κ q ∗ A.dead κ ⊢ X
    not_dead κ q X = via 𝓤 (never 𝓤) (𝓛.lfts.lft-dead κ q) (never_e 𝓤 X)

    forever_twice : (a : Id) → ⟦ forever a ⟧ ⊢ ⟦ forever a ⟧ ∗ ⟦ forever a ⟧
    forever_twice a = 𝓛.shr_bors.shr_bor_dup [] (λ q. flft (ι a) q)

    packs : (a : Id) (y : Bool) (n : ℕ) → ⟦ s.counted N k S P a (y, n) ⟧ ⊢ ⟦ Inv a ⟧
    packs a y n = qed 𝓛 (‵ (s.counted N k S P a (y, n)) ∷ []) ∵ fpack ! (Bool × ℕ) (s.counted N k S P a) (y, n) $ fpack ! Bool (s.state N k S P a) true $ done !

    counting : (a : Id) (n : ℕ) → n + 1 < 2 ^ N → ⟦ rest N a.0 n ⟧ ∗ ⟦ flent (ι a) P ⟧ ∗ A.lft (ζ a) full_share ⊢ ⟦ live a true n ⟧
    counting a n r = qed 𝓛 (‵ (rest N a.0 n) ∷ ‵ (flent (ι a) P) ∷ ‵ (flft (ζ a) full_share) ∷ []) ∵ fjoin3 ! $ fpack ! (n + 1 < 2 ^ N) (λ _. fsep (rest N a.0 n) (fsep (flent (ι a) P) (flft (ζ a) full_share))) r $ done !

    stuck : (a : Id) (n : ℕ) → n ≡ 2 ^ N - 1 → A.dead (ζ a) ∗ ⟦ forever a ⟧ ⊢ ⟦ live a false n ⟧
    stuck a n e = qed 𝓛 (‵ (fdead (ζ a)) ∷ ‵ (forever a) ∷ []) ∵ fjoin ! $ fpack ! (n ≡ 2 ^ N - 1) (λ _. fsep (fdead (ζ a)) (forever a)) e $ done !

    abbrev pub Made : Id → Pr
    Made a = ⟦ owner N a true ⟧ ∗ ⟦ box a ⟧ ∗ A.bor (ι a) P

    pub new : 2 < 2 ^ N → ⟦ S 1 ⟧ ∗ ⟦ P ⟧ ⊢ H.⇛ (ex 𝓤 Made)
    new big = qed 𝓛 (‵ (S 1) ∷ ‵ P ∷ []) ∵ updating ! $ lft_new ! tt (λ z. lft_new ! tt (λ i.
        use1 𝓛 (‵ (rest N i 1) ⊛ ‵ (part N i)) (cut N 𝓛 i 0 full_share (omega arith) (subst (Counts N full_share) (omega arith) (Counts-all N))) $ split ! $ move ! (4 ∷ []) $ bor_new ! tt (i ∷ []) $
        -- [the borrow; the lender's right; ι's rest and part; the gate; the cell]
        move ! (2 ∷ 1 ∷ 4 ∷ []) $ group ! 3 $ use1 𝓛 (‵ (live (i, z) true 1)) (counting (i, z) 1 big) $ move ! (3 ∷ 0 ∷ []) $ fjoin ! $
        use1 𝓛 (‵ (Inv (i, z))) (packs (i, z) true 1) $ use1 𝓛 (later (‵ (box (i, z)))) (na_inv_new 𝓛 k (Inv (i, z))) $ await ! tt $ now ! $ show ! Made (i, z) $ move ! (2 ∷ 0 ∷ 1 ∷ []) $ done !))

    module _ (a : Id) where
      abbrev pub Grown : ℕ → Bool → Pr
      Grown n z = ⟦ live a z (n + 1) ⟧ ∗ ⟦ owner N a z ⟧

      pub grow : (n : ℕ) → n + 1 + 1 < 2 ^ N → ⟦ live a true n ⟧ ⊢ ⟦ live a true (n + 1) ⟧ ∗ ⟦ owner N a true ⟧
      grow n room = qed 𝓛 (‵ (live a true n) ∷ []) ∵ fpick ! (λ _. fsplit3 ! $ use1 𝓛 (‵ (rest N a.0 (n + 1)) ⊛ ‵ (part N a.0)) (takes N 𝓛 a.0 n (omega arith)) $ split ! $
          -- [the rest; the part; the lender's right; the gate]
          move ! (0 ∷ 2 ∷ 3 ∷ []) $ group ! 3 $ use1 𝓛 (‵ (live a true (n + 1))) (counting a (n + 1) room) $ done !)

      pub stick : (n : ℕ) → n + 1 ≡ 2 ^ N - 1 → ⟦ live a true n ⟧ ⊢ H.⇛ (⟦ live a false (n + 1) ⟧ ∗ ⟦ owner N a false ⟧)
      stick n e = qed 𝓛 (‵ (live a true n) ∷ []) ∵ updating ! $ fpick ! (λ r. fsplit3 ! $ use1 𝓛 (‵ (rest N a.0 (n + 1)) ⊛ ‵ (part N a.0)) (takes N 𝓛 a.0 n (omega arith)) $ split ! $
          move ! (3 ∷ []) $ lft_end ! tt $ use1 𝓛 (‵ (fdead (ζ a)) ⊛ ‵ (fdead (ζ a))) (𝓛.lfts.dead_dup (ζ a)) $ split ! $ move ! (3 ∷ []) $ fpick ! (λ q. fpick ! (λ _.
          bor_new ! tt [] $ bor_fracture ! tt (λ p. flft (ι a) p) q $ use1 𝓛 (‵ (forever a) ⊛ ‵ (forever a)) (forever_twice a) $ split ! $
          -- [twice the borrow of the token; the lender's right to it; twice the gate's end]
          move ! (3 ∷ 0 ∷ []) $ group ! 2 $ use1 𝓛 (‵ (live a false (n + 1))) (stuck a (n + 1) e) $ move ! (3 ∷ 1 ∷ []) $ fjoin ! $ now ! $ keep ! (1 ∷ 0 ∷ []) $ done !)))

      pub again : (n : ℕ) → ⟦ live a false n ⟧ ⊢ ⟦ live a false n ⟧ ∗ ⟦ owner N a false ⟧
      again n = qed 𝓛 (‵ (live a false n) ∷ []) ∵ fpick ! (λ e. fsplit ! $ use1 𝓛 (‵ (fdead (ζ a)) ⊛ ‵ (fdead (ζ a))) (𝓛.lfts.dead_dup (ζ a)) $ split ! $ move ! (2 ∷ []) $
          use1 𝓛 (‵ (forever a) ⊛ ‵ (forever a)) (forever_twice a) $ split ! $ move ! (2 ∷ 0 ∷ []) $ group ! 2 $ use1 𝓛 (‵ (live a false n)) (stuck a n e) $ move ! (2 ∷ 1 ∷ []) $ fjoin ! $ move ! (1 ∷ 0 ∷ []) $ done !)

      -- where the count is not full, it still counts, and an owner has a part
      pub still : (y z : Bool) (n : ℕ) → n + 1 < 2 ^ N → ⟦ live a y n ⟧ ∗ ⟦ owner N a z ⟧ ⊢ ⟦ live a true n ⟧ ∗ ⟦ owner N a true ⟧
      still false z n r = qed 𝓛 (‵ (live a false n) ∷ ‵ (owner N a z) ∷ []) ∵ fpick ! (λ e. absurd (omega arith))
      still true true n r = id⊢ 𝓤 _
      still true false n r = qed 𝓛 (‵ (live a true n) ∷ ‵ (owner N a false) ∷ []) ∵ fpick ! (λ _. fsplit3 ! $ move ! (3 ∷ []) $ fsplit ! $ keep ! (4 ∷ 0 ∷ []) $ by ! (not_dead (ζ a) full_share _))

      pub is_stuck : (y : Bool) (n : ℕ) → n ≡ 2 ^ N - 1 → 2 < 2 ^ N → ⟦ live a y n ⟧ ⊢ ⟦ live a false n ⟧
      is_stuck false n e big = id⊢ 𝓤 _
      is_stuck true n e big = qed 𝓛 (‵ (live a true n) ∷ []) ∵ fpick ! (λ r. absurd (omega arith))

      pub less : (n : ℕ) → 1 < n → ⟦ live a true n ⟧ ∗ ⟦ owner N a true ⟧ ⊢ ⟦ live a true (n - 1) ⟧
      less n many = qed 𝓛 (‵ (live a true n) ∷ ‵ (owner N a true) ∷ []) ∵ fpick ! (λ r. fsplit3 ! $ move ! (0 ∷ 3 ∷ []) $ use2 𝓛 (‵ (rest N a.0 (n - 1))) (gives N 𝓛 a.0 n many) $
          group ! 3 $ use1 𝓛 (‵ (live a true (n - 1))) (counting a (n - 1) (omega arith)) $ done !)

      pub last : ⟦ live a true 1 ⟧ ∗ ⟦ owner N a true ⟧ ⊢ H.⇛ (⟦ P ⟧ ∗ ⟦ Inv a ⟧)
      last = qed 𝓛 (‵ (live a true 1) ∷ ‵ (owner N a true) ∷ []) ∵ updating ! $ fpick ! (λ r. fsplit3 ! $ move ! (0 ∷ 3 ∷ []) $ use2 𝓛 (‵ (flft (ι a) full_share)) (whole N 𝓛 a.0) $ lft_end ! tt $
          use1 𝓛 (‵ (fdead (ι a)) ⊛ ‵ (fdead (ι a))) (𝓛.lfts.dead_dup (ι a)) $ split ! $ move ! (0 ∷ 2 ∷ []) $ lent_back ! tt $ move ! (1 ∷ []) $ fpack ! Bool (s.state N k S P a) false $ now ! $ keep ! (1 ∷ 0 ∷ []) $ done !)

      -- somebody owns the value
      pub some_owner : 2 < 2 ^ N → (y : Bool) (n : ℕ) → ⟦ live a y n ⟧ ⊢ guard 𝓤 (0 < n) ⟦ live a y n ⟧
      some_owner big true n = qed 𝓛 (‵ (live a true n) ∷ []) ∵ fpick ! (λ r. fsplit3 ! $ use1 𝓛 (given (0 < n) (‵ (rest N a.0 n))) (rest_some N 𝓛 a.0 n) $ learn ! (λ some. check ! some $
          group ! 3 $ use1 𝓛 (‵ (live a true n)) (counting a n r) $ done !))
      some_owner big false n = qed 𝓛 (‵ (live a false n) ∷ []) ∵ fpick ! (λ e. check ! (omega arith) $ use1 𝓛 (‵ (fdead (ζ a)) ⊛ ‵ (forever a)) (id⊢ 𝓤 _) $ use1 𝓛 (‵ (live a false n)) (stuck a n e) $ done !)

      room_at : (n : ℕ) → n + 1 < 2 ^ N → (b : Bool) → ltb (n + 1 + 1) (2 ^ N) ≡ b → ⟦ live a true n ⟧ ⊢ H.⇛ (ex 𝓤 (Grown n))
      room_at n r true h = qed 𝓛 (‵ (live a true n) ∷ []) ∵ updating ! $ use1 𝓛 (‵ (live a true (n + 1)) ⊛ ‵ (owner N a true)) (grow n (ltb→lt (n + 1 + 1) (2 ^ N) (subst T (sym h) tt))) $ split ! $ now ! $ show ! (Grown n) true $ done !
      room_at n r false h = qed 𝓛 (‵ (live a true n) ∷ []) ∵ updating ! $
          use1 𝓛 (later (‵ (live a false (n + 1)) ⊛ ‵ (owner N a false))) (stick n (omega (arith, nltb→le (n + 1 + 1) (2 ^ N) (subst (λ (y : Bool). T (not y)) (sym h) tt)))) $ await ! tt $ split ! $ now ! $ show ! (Grown n) false $ done !

      -- one more owner, at any count that is not full
      pub more : (y : Bool) (n : ℕ) → (n ≡ 2 ^ N - 1 → ⊥) → ⟦ live a y n ⟧ ⊢ H.⇛ (ex 𝓤 (Grown n))
      more false n nf = qed 𝓛 (‵ (live a false n) ∷ []) ∵ fpick ! (λ e. absurd (nf e))
      more true n nf = qed 𝓛 (‵ (live a true n) ∷ []) ∵ fpick ! (λ r. fsplit3 ! $ group ! 3 $ use1 𝓛 (‵ (live a true n)) (counting a n r) $ by ! (room_at n r (ltb (n + 1 + 1) (2 ^ N)) refl))

      -- an owner at a full count has as many shares of ι's token as it wants
      abbrev pub Token : Share → Pr
      Token q = A.lft (ι a) q

      pub token : ⟦ owner N a false ⟧ ⊢ H.⇛ (⟦ owner N a false ⟧ ∗ ex 𝓤 Token)
      token = qed 𝓛 (‵ (owner N a false) ∷ []) ∵ updating ! $ fsplit ! $ move ! (1 ∷ []) $ use1 𝓛 (‵ (forever a) ⊛ ‵ (forever a)) (forever_twice a) $ split ! $
          use0 𝓛 (‵ (flft [] full_share)) (𝓛.lfts.lft-nil full_share) $ move ! (1 ∷ 0 ∷ []) $ shr_bor-open ! tt (tokens_halve 𝓛 (ι a)) (λ q.
          -- [the borrow, open; the token; the other borrow; the gate's end]
          move ! (3 ∷ 2 ∷ []) $ fjoin ! $ now ! $ frame ! $ show ! Token q $ keep ! (1 ∷ []) $ done !)

      -- any owner has a share of ι's token while it has a use for it
      abbrev pub Held : Bool → Share → Pr
      Held y q = A.lft (ι a) q ∗ (A.lft (ι a) q -∗ ⟦ owner N a y ⟧)

      pub holds : (y : Bool) → ⟦ owner N a y ⟧ ⊢ H.⇛ (ex 𝓤 (Held y))
      holds true = qed 𝓛 (‵ (owner N a true) ∷ []) ∵ updating ! $ fpick ! (λ e. fpick ! (λ c. now ! $ show ! (Held true) e $ frame ! $ assume ! (‵ (flft (ι a) e)) $ by ! (part_in N 𝓛 a.0 e c)))
      holds false = qed 𝓛 (‵ (owner N a false) ∷ []) ∵ updating ! $ use1 𝓛 (later (‵ (owner N a false) ⊛ exists (λ (q : Share). ‵ (flft (ι a) q)))) token $ await ! tt $ split ! $ move ! (1 ∷ []) $ pick ! (λ q.
          now ! $ show ! (Held false) q $ frame ! $ assume ! (‵ (flft (ι a) q)) $ drop ! $ done !)

    module _ (a : Id) (E : Mask) where
      abbrev pub Shut : Pr
      Shut = ⟦ Inv a ⟧ -∗ H.⇛ (A.tok E)

      opened : E k ≡ true → ⟦ box a ⟧ ∗ A.tok E ⊢ H.⇛ (⟦ Inv a ⟧ ∗ Shut)
      opened has =
          qed 𝓛 (‵ (box a) ∷ ‵ (ftok E) ∷ []) ∵ updating ! $ move ! (1 ∷ []) $
          use1 𝓛 (‵ (ftok (just k)) ⊛ ‵ (ftok (without E k))) (𝓛.invs.tok_cut E (just k) (without E k) (take E k has)) $ split ! $ move ! (2 ∷ 0 ∷ []) $
          use2 𝓛 (later (‵ (Inv a) ⊛ raw (⟦ Inv a ⟧ -∗ H.⇛ (A.tok (just k))))) (na_inv_acc 𝓛 k (Inv a)) $ await ! tt $ split ! $ now ! $ frame ! $ assume ! (‵ (Inv a)) $ updating ! $
          use2 𝓛 (later (‵ (ftok (just k)))) (apply∗ 𝓤 ⟦ Inv a ⟧ (H.⇛ (A.tok (just k)))) $ await ! tt $ now ! $ by ! (𝓛.invs.tok_glue E (just k) (without E k) (take E k has))

      abbrev pub Open : Share → Bool × ℕ → Pr
      Open q t = ⟦ S t.1 ⟧ ∗ ⟦ live a t.0 t.1 ⟧ ∗ A.lft (ι a) q ∗ Shut

      by_state : (q : Share) (y : Bool) → ⟦ s.state N k S P a y ⟧ ∗ A.lft (ι a) q ∗ Shut ⊢ ex 𝓤 (Open q)
      by_state q true = qed 𝓛 (‵ (s.state N k S P a true) ∷ ‵ (flft (ι a) q) ∷ raw Shut ∷ []) ∵ fpick ! (λ t. fsplit ! $ show ! (Open q) t $ done !)
      by_state q false = qed 𝓛 (‵ (fdead (ι a)) ∷ ‵ (flft (ι a) q) ∷ raw Shut ∷ []) ∵ keep ! (1 ∷ 0 ∷ []) $ by ! (not_dead (ι a) q (ex 𝓤 (Open q)))

      pub opens : E k ≡ true → (q : Share) → ⟦ box a ⟧ ∗ A.lft (ι a) q ∗ A.tok E ⊢ H.⇛ (ex 𝓤 (Open q))
      opens has q = qed 𝓛 (‵ (box a) ∷ ‵ (flft (ι a) q) ∷ ‵ (ftok E) ∷ []) ∵ updating ! $ move ! (0 ∷ 2 ∷ []) $ use2 𝓛 (later (‵ (Inv a) ⊛ raw Shut)) (opened has) $ await ! tt $ split ! $ now ! $
          fpick ! (λ y. move ! (0 ∷ 2 ∷ 1 ∷ []) $ by ! (by_state q y))

      pub shut : (y : Bool) (n : ℕ) → ⟦ S n ⟧ ∗ ⟦ live a y n ⟧ ∗ Shut ⊢ H.⇛ (A.tok E)
      shut y n = qed 𝓛 (‵ (S n) ∷ ‵ (live a y n) ∷ raw Shut ∷ []) ∵ fjoin ! $ use1 𝓛 (‵ (Inv a)) (packs a y n) $ by ! (apply∗ 𝓤 ⟦ Inv a ⟧ (H.⇛ (A.tok E)))

    module _ (t : Lft → Fml) (L : ShrLaws t) where
      abbrev Owns : Fml
      Owns = s.shared_owns N k S P t

      abbrev Lent : Lft → Fml
      Lent = s.shared_lends N k S P t

      -- an owner at a full count is a `&'static` to the value
      pub to_static : (a : Id) → ⟦ owner N a false ⟧ ∗ ⟦ t (ι a) ⟧ ⊢ ⟦ t [] ⟧
      to_static a = qed 𝓛 (‵ (owner N a false) ∷ ‵ (t (ι a)) ∷ []) ∵ fsplit ! $ keep ! (1 ∷ 2 ∷ []) $ by ! (moves_from 𝓛 t L [] (ι a) (ι a) (meet_⊑_left (ι a) []))

      pub sees : (κ : Lft) → ⟦ Lent κ ⟧ ⊢ ⟦ t κ ⟧
      sees κ = qed 𝓛 (‵ (Lent κ) ∷ []) ∵ fpick ! (λ a. fsplit3 ! $ keep ! (0 ∷ 2 ∷ []) $ by ! (moves_from 𝓛 t L κ (ι a) (ι a) (meet_⊑_left (ι a) κ)))

      pub packed : (a : Id) (y : Bool) → ⟦ owner N a y ⟧ ∗ ⟦ box a ⟧ ∗ ⟦ t (ι a) ⟧ ⊢ ⟦ Owns ⟧
      packed a y = qed 𝓛 (‵ (owner N a y) ∷ ‵ (box a) ∷ ‵ (t (ι a)) ∷ []) ∵ fjoin3 ! $ fpack ! Bool (s.handle N k S P t a) y $ fpack ! Id (s.handle_of N k S P t) a $ done !

      -- the value and a count of 1 become the first owner, under a token within which the value can be lent
      pub first : 2 < 2 ^ N → (l : Lft) → Lends 𝓛 P t l → (μ : Lft) (q : Share) → Incl μ l → ⟦ S 1 ⟧ ∗ ⟦ P ⟧ ∗ A.lft μ q ⊢ H.⇛ (⟦ Owns ⟧ ∗ A.lft μ q)
      first big l lends μ q inc = qed 𝓛 (‵ (S 1) ∷ ‵ P ∷ ‵ (flft μ q) ∷ []) ∵ updating ! $
          use2 𝓛 (later (exists (λ (a : Id). ‵ (owner N a true) ⊛ ‵ (box a) ⊛ ‵ (fbor (ι a) P)))) (new big) $ await ! tt $ pick ! (λ a. split3 ! $ fpick ! (λ e. fpick ! (λ one.
          -- [the share of ι's token; the invariant; the borrow; the token of μ]
          move ! (0 ∷ 3 ∷ []) $ join ! $ move ! (2 ∷ 0 ∷ []) $
          use2 𝓛 (later (‵ (t (ι a)) ⊛ ‵ (flft (ι a) e) ⊛ ‵ (flft μ q)))
          (lends (ι a) ((ι a, e) ∷ (μ, q) ∷ []) (Incl-trans (meet_⊑_right (ι a) μ) inc) (meet_⊑_left (ι a) μ)) $ await ! tt $ split3 ! $
          move ! (1 ∷ []) $ use1 𝓛 (‵ (part N a.0)) (part_in N 𝓛 a.0 e one) $ move ! (0 ∷ 3 ∷ 1 ∷ []) $ group ! 3 $ use1 𝓛 (‵ Owns) (packed a true) $ now ! $ done !)))

      module _ (κ : Lft) where
        back : (a : Id) (e : Share) → Counts N e 1 → ⟦ box a ⟧ ∗ ⟦ t (ι a) ⟧ ⊢ ⟦ fwand (fsep (fdead κ) (fseps (flft (ι a) e ∷ []))) (fupd Owns) ⟧
        unfolding fseps
        back a e c = qed 𝓛 (‵ (box a) ∷ ‵ (t (ι a)) ∷ []) ∵ assume ! (‵ (fsep (fdead κ) (fsep (flft (ι a) e) ftrue))) $ suffices ! ⟦ Owns ⟧ (upd_i 𝓤 ⟦ Owns ⟧) $
            fsplit3 ! $ move ! (1 ∷ []) $ use1 𝓛 (‵ (part N a.0)) (part_in N 𝓛 a.0 e c) $ keep ! (0 ∷ 3 ∷ 4 ∷ []) $ by ! (packed a true)

        by_owner : (q : Share) (a : Id) (y : Bool) → ⟦ s.handle N k S P t a y ⟧ ∗ ⟦ fobor κ q Owns ⟧ ⊢ H.⇛ (⟦ Lent κ ⟧ ∗ A.lft κ q)
        unfolding fseps
        by_owner q a true = qed 𝓛 (‵ (s.handle N k S P t a true) ∷ ‵ (fobor κ q Owns) ∷ []) ∵ updating ! $ fsplit3 ! $ fpick ! (λ e. fpick ! (λ c. move ! (1 ∷ []) $
            use1 𝓛 (‵ (box a) ⊛ ‵ (box a)) (na_inv_dup 𝓛 k (Inv a)) $ split ! $ move ! (3 ∷ []) $
            use1 𝓛 (‵ (t (ι a)) ⊛ ‵ (t (ι a))) (contraction 𝓛 t L (ι a)) $ split ! $ move ! (2 ∷ 0 ∷ []) $
            use2 𝓛 (‵ (fwand (fsep (fdead κ) (fseps (flft (ι a) e ∷ []))) (fupd Owns))) (back a e c) $ nothing ! $ move ! (4 ∷ 0 ∷ []) $ fjoin ! $ move ! (4 ∷ 0 ∷ 1 ∷ []) $ obor_alter ! tt (flft (ι a) e ∷ []) $
            use1 𝓛 (‵ (fbor κ (flft (ι a) e)) ⊛ ‵ ftrue) (id⊢ 𝓤 _) $ split ! $ bor_fracture ! tt (λ r. flft (ι a) r) e $ move ! (0 ∷ 4 ∷ 3 ∷ []) $ fjoin3 ! $
            fpack ! Id (λ b. s.lent N k S P t b κ) a $ now ! $ keep ! (0 ∷ 2 ∷ []) $ done !))
        by_owner q a false = qed 𝓛 (‵ (s.handle N k S P t a false) ∷ ‵ (fobor κ q Owns) ∷ []) ∵ updating ! $ fsplit3 ! $ fsplit ! $ move ! (1 ∷ []) $
            use1 𝓛 (‵ (forever a) ⊛ ‵ (forever a)) (forever_twice a) $ split ! $ move ! (2 ∷ 0 ∷ []) $ fjoin ! $ move ! (2 ∷ []) $
            use1 𝓛 (‵ (box a) ⊛ ‵ (box a)) (na_inv_dup 𝓛 k (Inv a)) $ split ! $ move ! (4 ∷ []) $
            use1 𝓛 (‵ (t (ι a)) ⊛ ‵ (t (ι a))) (contraction 𝓛 t L (ι a)) $ split ! $
            -- [twice the value's view; twice the invariant; the owner; the borrow of the token; the open borrow]
            move ! (4 ∷ 2 ∷ 0 ∷ []) $ group ! 3 $ use1 𝓛 (‵ Owns) (packed a false) $ move ! (4 ∷ 0 ∷ []) $ obor_close ! tt $
            -- [the borrow; the token of κ; the view; the invariant; the borrow of the token]
            move ! (4 ∷ []) $ use1 𝓛 (‵ (one (λ r. flft (ι a) r) κ)) (shortens 𝓛 (one (λ r. flft (ι a) r)) (one_shr_laws (λ r. flft (ι a) r)) [] κ (meet_⊑_left [] κ)) $
            move ! (0 ∷ 4 ∷ 3 ∷ []) $ fjoin3 ! $ fpack ! Id (λ b. s.lent N k S P t b κ) a $ now ! $ keep ! (0 ∷ 2 ∷ []) $ done !

        by_token : (q : Share) → ⟦ fbor κ Owns ⟧ ∗ A.lft κ q ⊢ H.⇛ (⟦ Lent κ ⟧ ∗ A.lft κ q)
        by_token q = qed 𝓛 (‵ (fbor κ Owns) ∷ ‵ (flft κ q) ∷ []) ∵ updating ! $ bor_open ! tt $ move ! (1 ∷ []) $ fpick ! (λ a. fpick ! (λ y.
            use2 𝓛 (later (‵ (Lent κ) ⊛ ‵ (flft κ q))) (by_owner q a y) $ await ! tt $ split ! $ now ! $ done !))

      pub lends_shared : (l : Lft) → Lends 𝓛 Owns Lent l
      lends_shared l κ ts inc sp = qed 𝓛 (‵ (fbor κ Owns) ∷ raw (lfts 𝓛 ts) ∷ []) ∵ updating ! $ move ! (1 ∷ []) $
          use1 𝓛 (exists (λ (q : Share). ‵ (flft (span ts) q) ⊛ raw (wand 𝓤 (A.lft (span ts) q) (lfts 𝓛 ts)))) (one_token 𝓛 ts) $ pick ! (λ q. split ! $
          use1 𝓛 (‵ (flft κ (thinned κ q)) ⊛ raw (wand 𝓤 (A.lft κ (thinned κ q)) (A.lft (span ts) q))) (𝓛.lfts.lft-incl (span ts) κ q sp) $ split ! $ move ! (3 ∷ 0 ∷ []) $
          use2 𝓛 (later (‵ (Lent κ) ⊛ ‵ (flft κ (thinned κ q)))) (by_token κ (thinned κ q)) $ await ! tt $ split ! $ move ! (1 ∷ 2 ∷ []) $
          use2 𝓛 (‵ (flft (span ts) q)) (apply∗ 𝓤 (A.lft κ (thinned κ q)) (A.lft (span ts) q)) $ move ! (0 ∷ 2 ∷ []) $ use2 𝓛 (raw (lfts 𝓛 ts)) (apply∗ 𝓤 (A.lft (span ts) q) (lfts 𝓛 ts)) $
          now ! $ move ! (1 ∷ 0 ∷ []) $ done !)

-- the laws of what a `&` to an owner holds
pub shared_shr_laws : (N : ℕ) (k : Key) (S : ℕ → Fml) (P : Fml) (t : Lft → Fml) → ShrLaws t → ShrLaws (s.shared_lends N k S P t)
shared_shr_laws N k S P t L = some_shr_laws Id (s.lent N k S P t) (λ a. beside_shr_laws (one (λ q. flft (ι a) q)) (beside (kept k (s.Inv N k S P a)) (held (ι a) t)) (one_shr_laws (λ q. flft (ι a) q))
    (beside_shr_laws (kept k (s.Inv N k S P a)) (held (ι a) t) (kept_shr_laws k (s.Inv N k S P a)) (held_shr_laws (ι a) t L)))
