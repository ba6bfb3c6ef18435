-- The joins below an event, and the event; behind the last one all joins that are left
use Rattle.std.proofs.Common.{◌≡◌, ◌+◌, ◌<◌, [], length, drop, arith}
use Rattle.std.proofs.lemmas.List.{drop_all}
use Rattle.gr_publog.proofs.Putting.{next_is, text_on, top_on, apart_on, rise_from, text_ends}
use Rattle.gr_publog.proofs.fill.put_records.Goals as goal

pub entries-preserved : goal.entries-preserved
entries-preserved c =
    let es = c.args.entries.now.items in
    let js = c.args.joins.now in
    let i = c.entries.i in
    let inside : i < length es = omega (arith, c.len.ensures, c.entries-test.true) in
    let is = next_is es i c.index-entry.result.now inside c.index-entry.ensures in
    record {
      within = omega (arith, inside);
      past = c.in_ok-next.ensures.within;
      rise = rise_from c.index-entry.result.now.tick (drop c.entries.next js) _ c.in_ok-next.ensures.rest c.entries.invariant.rise;
      apart = apart_on (drop i es) (drop (i + 1) es) c.index-entry.result.now (drop c.entries.next js) _ is c.in_ok-next.ensures.rest c.entries.invariant.apart;
      text = text_on c.entries.bytes.items c.put_joins.new.bytes.items c.put_event.new.bytes.items _ (drop i es) (drop (i + 1) es) c.index-entry.result.now (drop c.entries.next js) _ c.in_ok-next.ensures.text c.in_ok-put_event.ensures is
          c.in_ok-next.ensures.rest c.entries.invariant.apart c.entries.invariant.text;
      top = top_on c.entries.top _ (drop i es) (drop (i + 1) es) c.index-entry.result.now is c.entries.invariant.top;
    }

pub returns-clause-text : goal.returns-clause-text
returns-clause-text c =
    let es = c.args.entries.now.items in
    let js = c.args.joins.now in
    let none : drop c.entries.i es ≡ [] = drop_all c.entries.i es (omega (arith, c.len.ensures, c.entries-test.false)) in
    text_ends c.entries.bytes.items c.put_joins-2.new.bytes.items _ _ (drop c.entries.i es) (drop c.entries.next js) c.in_ok-put_joins.ensures.text none (omega arith) c.entries.invariant.rise c.entries.invariant.text
