-- The entry that the script gave stands in the journal
use Rattle.std.proofs.Common.{◌≡◌, ℕ, List, ◌∷◌, [], ◌++◌, Bool, if◌then◌else◌, length, drop, map, min, ◌+◌, ap, ◌∙◌, arith}
use Rattle.gr_out.specs.contracts.mem_post.MemPost.{the_view}
use Rattle.gr_out.specs.declared.mem_post.Cue.{Cue}
use Rattle.gr_out.specs.Entry.{Entry}
use Rattle.gr_out.specs.Journal.{next_entries, hosted, offers}
use Rattle.gr_out.specs.Streams.{counted}
use Rattle.gr_out.specs.Script.{next_entry, next_of, after_next, scripted_of, offer_of}
use Rattle.gr_out.proofs.Posts.{one_on, fails_as_entry, arrived}
use Rattle.gr_out.proofs.mem_post.MemPostPost.next.Goals as goal

pub returns-clause-after : goal.returns-clause-after
returns-clause-after c =
    let p = c.self.inside in
    let j = p.journal.entries in
    let size = length c.args.into.now in
    let r = c.scripted_next-answer.result in
    let piece = c.scripted_next-answer.new.into in
    let e : next_entries piece r ≡ next_of size (the_view p) ∷ [] =
    c.scripted_next-answer.ensures.entries
    ∙ ap (λ (bs : List ℕ). next_entry size bs (map offer_of c.deref-3.result.now) (map scripted_of (drop p.at c.deref.result.now)) ∷ []) (c.deref-2.ensures.value ∙ c.self.invariant.brokers_are)
    ∙ ap (λ (os : List (ℕ × List ℕ)). next_entry size (hosted j) os (map scripted_of (drop p.at c.deref.result.now)) ∷ []) (ap (map offer_of) c.deref-3.ensures.value ∙ c.self.invariant.offers_are)
    ∙ ap (λ (cs : List Cue). next_entry size (hosted j) (offers j) (map scripted_of (drop p.at cs)) ∷ []) c.deref.ensures.value in
    let at : c.min-self-inside.result ≡ min (p.at + 1) (length p.script.items) = omega (arith, c.min-self-inside.ensures, c.len.ensures) in
    arrived size (the_view p) _ _ _ (one_on p.script.items p.at c.min-self-inside.result at)
    (c.then-self-inside.ensures ∙ ap (λ (es : List Entry). j ++ es) e)
    (c.raised-self-inside.ensures ∙ ap (λ (b : Bool). if b then counted p.faults else p.faults) (c.is_err.ensures.value ∙ fails_as_entry piece r (next_of size (the_view p)) e))
    ∙ ap (after_next size) c.self.view_is
