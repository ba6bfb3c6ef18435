-- What a run leaves says where a journal differs, and what it notes
use Rattle.std.proofs.Common.{◌≡◌, ℕ, List, [], ◌∷◌, ◌++◌, Option, Some, None, sym, ap, ap₂, ◌∙◌, subst}
use Rattle.std.specs.Prelude.{IsSome, IfOk, Result, Ok}
use Rattle.gr_topo.specs.Topology.{TopologyView}
use Rattle.gr_journal.specs.declared.arrival.Came.{Came}
use Rattle.gr_journal.specs.declared.journal.Journal.{Journal}
use Rattle.gr_journal.specs.Groups.{Behavior, journal_text}
use Rattle.gr_journal.specs.Lines.{rising}
use Rattle.gr_audit.specs.Audited.{arrivals, wrong_line, links_from, links_of}
use Rattle.gr_audit.specs.Coming.{AllComeTo}
use Rattle.gr_audit.specs.Compared.{ComparedView, told_of, text_of, wrong_by, wrong_in, IsOther}
use Rattle.gr_audit.specs.Noted.{Noted, with_links}
use Rattle.gr_audit.specs.Ran.{IsWhole, IsCut}
use Rattle.gr_audit.specs.Taken.{GivenView}
use Rattle.gr_audit.proofs.Comparing.{wrong_whole, wrong_cut, if_ok_is}

abbrev pub fresh : List ℕ → ComparedView
fresh text = record { same = []; left = text; wrong = None; faults = 0 }

abbrev pub start : List Came → Noted → GivenView
start came noted = record { left = came; noted = noted }

-- what is told of a fresh comparison, by the brokers and the arrivals of the journal
told_is : (b : Behavior) (t : TopologyView) (j : Journal) (brokers : List ℕ) (given : GivenView) (told : ComparedView) (links : Noted) → brokers ≡ rising t j.brokers → given ≡ start j.came links → told ≡ fresh j.text
    → told_of told ++ journal_text b t brokers (arrivals given.left) ≡ journal_text b t (rising t j.brokers) (arrivals j.came)
told_is b t j brokers given told links e g f =
    ap (λ (v : ComparedView). told_of v ++ journal_text b t brokers (arrivals given.left)) f
    ∙ ap₂ (λ (x : List ℕ) (v : GivenView). journal_text b t x (arrivals v.left)) e g

pub whole_line : {E : Type 0} (b : Behavior) (t : TopologyView) (j : Journal) (brokers : List ℕ) (given after : GivenView) (told now : ComparedView) (links : Noted) (r : Result (Option ℕ) E) → brokers ≡ rising t j.brokers → given ≡ start j.came links → told ≡ fresh j.text
    → IsWhole b t brokers given after told now → IsOther now.wrong now.left → IfOk r (λ line. line ≡ wrong_in j.first now) → IfOk r (λ line. line ≡ wrong_line b t j)
whole_line b t j brokers given after told now links r e g f w other h =
    if_ok_is r (wrong_in j.first now) (wrong_line b t j) h
    (wrong_whole j.first now.same now.left j.text (journal_text b t (rising t j.brokers) (arrivals j.came)) now.wrong other
    (w.text ∙ ap text_of f) (w.told ∙ told_is b t j brokers given told links e g f))

pub cut_line : {E : Type 0} (b : Behavior) (t : TopologyView) (j : Journal) (brokers : List ℕ) (given : GivenView) (told now : ComparedView) (links : Noted) (r : Result (Option ℕ) E) → brokers ≡ rising t j.brokers → given ≡ start j.came links → told ≡ fresh j.text
    → IsCut b t brokers given told now → IsOther now.wrong now.left → IfOk r (λ line. line ≡ wrong_in j.first now) → IfOk r (λ line. line ≡ wrong_line b t j)
cut_line b t j brokers given told now links r e g f w other h =
    if_ok_is r (wrong_in j.first now) (wrong_line b t j) h
    (wrong_cut j.first now.same now.left w.rest j.text (journal_text b t (rising t j.brokers) (arrivals j.came)) now.wrong other w.wrong
    (w.text ∙ ap text_of f) (w.told ∙ told_is b t j brokers given told links e g f))

-- a run that was cut never ends without a line
some_line : (first : ℕ) (same left : List ℕ) (wrong : Option ℕ) → IsSome wrong → None ≡ wrong_by first same left wrong → ⊥
some_line first same left None some e = absurd (cc)
some_line first same [] (Some byte) some e = cc
some_line first same (next ∷ left) (Some byte) some e = cc

pub not_none : {E : Type 0} (first : ℕ) (now : ComparedView) (r : Result (Option ℕ) E) → IsSome now.wrong → IfOk r (λ line. line ≡ wrong_in first now) → r ≡ Ok None → ⊥
not_none first now r some h e = some_line first now.same now.left now.wrong some (subst (λ x. IfOk x (λ line. line ≡ wrong_in first now)) e h)

pub whole_noted : (b : Behavior) (t : TopologyView) (j : Journal) (brokers : List ℕ) (given after : GivenView) (told now : ComparedView) (links noted : Noted) → brokers ≡ rising t j.brokers → given ≡ start j.came links
    → IsWhole b t brokers given after told now → noted ≡ after.noted → noted ≡ with_links links (links_of b t j)
whole_noted b t j brokers given after told now links noted e g w is =
    is ∙ (w.noted ∙ ap₂ (λ (x : List ℕ) (v : GivenView). with_links v.noted (links_from b x [] v.left)) e g)

pub come_is : (brokers all : List ℕ) (given : GivenView) (came : List Came) (noted : Noted) → brokers ≡ all → given ≡ start came noted → AllComeTo all came → AllComeTo brokers given.left
come_is brokers all given came noted e g h =
    subst (λ z. AllComeTo z given.left) (sym e) (subst (λ (v : GivenView). AllComeTo all v.left) (sym g) h)
