-- What passes the edge and was not acknowledged is what the machine forwards. Where the child wants none of it that is all of it.
use Rattle.std.proofs.Common.{not, ◌&&◌, subst}
use Rattle.std.specs.Prelude.{if◌then◌else◌}
use Rattle.gr_tick.specs.Stored.{RunsGive}
use Rattle.gr_know.specs.Values.{Known, known_at, is_Q}
use Rattle.gr_curio.specs.declared.values.Q3.TheVariants.{N, C}
use Rattle.gr_curio.specs.Values.{wanted_at, is_C}
use Rattle.gr_curio.specs.Wants.{runs_of, wants_of}
use Rattle.gr_broker_relay.specs.Held.{held_view}
use Rattle.gr_broker_relay.proofs.Forwarding.{forwarded, forwarded_whole, sends_forwarded}
use Rattle.gr_broker_walks.proofs.Untouched.{answers_none}
use Rattle.gr_broker_relay.proofs.learning.forward_to.Goals as goal

pub returns-then-is_untouched-clause-adds : goal.returns-then-is_untouched-clause-adds
returns-then-is_untouched-clause-adds c =
    sends_forwarded c.args.site.now c.args.held.now.joins c.args.i c.index-child.result.now c.in_ok-passed.passed _ c.args.into.now c.send_down.new.into c.requires.site c.requires.child c.index-child.ensures
    (forwarded_whole c.args.site.now (held_view c.args.held.now) c.args.i c.index-child.result.now (wants_of (runs_of c.args.held.now.wants) c.args.i) c.args.fresh.now c.in_ok-passed.passed c.requires.site c.requires.child c.index-child.ensures c.len.ensures.canonical c.len-2.ensures.canonical c.in_ok-passed.ensures (c.is_untouched.ensures c.if-is_untouched.true))
    c.in_ok-send_down.ensures

pub returns-then-is_untouched-clause-quenched : goal.returns-then-is_untouched-clause-quenched
returns-then-is_untouched-clause-quenched c =
    subst (λ (k : Known). RunsGive N c.new.result (λ t. if not (is_Q (known_at k t)) && is_C (wanted_at (wants_of (runs_of c.args.held.now.wants) c.args.i) t) then C else N))
    (forwarded_whole c.args.site.now (held_view c.args.held.now) c.args.i c.index-child.result.now (wants_of (runs_of c.args.held.now.wants) c.args.i) c.args.fresh.now c.in_ok-passed.passed c.requires.site c.requires.child c.index-child.ensures c.len.ensures.canonical c.len-2.ensures.canonical c.in_ok-passed.ensures (c.is_untouched.ensures c.if-is_untouched.true))
    (answers_none (wants_of (runs_of c.args.held.now.wants) c.args.i) c.in_ok-passed.passed c.new.result c.new.ensures (c.is_untouched.ensures c.if-is_untouched.true))

pub returns-clause-adds : goal.returns-clause-adds
returns-clause-adds c =
    sends_forwarded c.args.site.now c.args.held.now.joins c.args.i c.index-child.result.now c.in_ok-sent.sent _ c.args.into.now c.send_down-2.new.into c.requires.site c.requires.child c.index-child.ensures
    (forwarded c.args.site.now (held_view c.args.held.now) c.args.i c.index-child.result.now (wants_of (runs_of c.args.held.now.wants) c.args.i) c.args.fresh.now c.in_ok-passed.passed c.in_ok-sent.sent c.requires.site c.requires.child c.index-child.ensures c.len.ensures.canonical c.len-2.ensures.canonical c.in_ok-passed.ensures c.in_ok-sent.ensures)
    c.in_ok-send_down-2.ensures

pub returns-clause-quenched : goal.returns-clause-quenched
returns-clause-quenched c =
    subst (λ (k : Known). RunsGive N c.in_ok-answered.answered (λ t. if not (is_Q (known_at k t)) && is_C (wanted_at (wants_of (runs_of c.args.held.now.wants) c.args.i) t) then C else N))
    (forwarded c.args.site.now (held_view c.args.held.now) c.args.i c.index-child.result.now (wants_of (runs_of c.args.held.now.wants) c.args.i) c.args.fresh.now c.in_ok-passed.passed c.in_ok-sent.sent c.requires.site c.requires.child c.index-child.ensures c.len.ensures.canonical c.len-2.ensures.canonical c.in_ok-passed.ensures c.in_ok-sent.ensures)
    c.in_ok-answered.ensures
