use Rattle.std.proofs.Common.{◌≡◌, ◌∙◌, false, sym, subst, refl}
use Rattle.prefix6.specs.Prefix.{Prefix6, same_prefix}
use Rattle.prefix6.proofs.PrefixLaws.{same_prefix-itself, same_prefix-true}
use Rattle.fib.specs.Entries.{listed}
use Rattle.fib.proofs.EntryLists.{listed_order, listed_table}
use Rattle.fib.proofs.LongestMatch.{still_prefix, still_longest, still_holds, shorter, found_longest, no_match}
use Rattle.fib.proofs.fib.Fib.longest_match.Goals as goal

pub returns-then-eq : goal.returns-then-eq
returns-then-eq c =
    let last = c.in-Some.ensures.found in
    let same = same_prefix-true c.meet-common.result c.in-Some.entry.0 (sym c.eq.ensures ∙ c.if-eq.true) in
    found_longest (listed c.args.self.now) (listed_order c.args.self.now) c.args.self.now (listed_table c.args.self.now) c.args.addr c.loop-entry.bound c.loop-entry.invariant.is_prefix c.loop-entry.invariant.holds c.loop-entry.invariant.longest last.place c.in-Some.entry c.in-Some.entry last.last (last.there c.in-Some.entry) c.meet-common.result c.meet-common.ensures.first c.meet-common.ensures.meet same

pub loop-entry-smaller : goal.loop-entry-smaller
loop-entry-smaller c =
    let last = c.in-Some.ensures.found in
    shorter (listed c.args.self.now) (listed_order c.args.self.now) c.args.self.now (listed_table c.args.self.now) c.args.addr c.loop-entry.bound c.loop-entry.invariant.is_prefix c.loop-entry.invariant.holds c.loop-entry.invariant.longest last.place c.in-Some.entry c.in-Some.entry last.last (last.there c.in-Some.entry) c.meet-common.result c.meet-common.ensures.first c.meet-common.ensures.meet (λ same.
    let itself : same_prefix c.in-Some.entry.0 c.in-Some.entry.0 ≡ false = subst (λ (p : Prefix6). same_prefix p c.in-Some.entry.0 ≡ false) same (sym c.eq.ensures ∙ c.if-eq.false) in
    absurd (cc (same_prefix-itself c.in-Some.entry.0)))

pub loop-entry-preserved : goal.loop-entry-preserved
loop-entry-preserved c =
    let last = c.in-Some.ensures.found in
    record {
      is_prefix = still_prefix (listed c.args.self.now) (listed_order c.args.self.now) c.args.self.now (listed_table c.args.self.now) c.args.addr c.loop-entry.bound c.loop-entry.invariant.is_prefix c.loop-entry.invariant.holds c.loop-entry.invariant.longest last.place c.in-Some.entry c.in-Some.entry last.last (last.there c.in-Some.entry) c.meet-common.result c.meet-common.ensures.first c.meet-common.ensures.meet;
      holds = still_holds (listed c.args.self.now) (listed_order c.args.self.now) c.args.self.now (listed_table c.args.self.now) c.args.addr c.loop-entry.bound c.loop-entry.invariant.is_prefix c.loop-entry.invariant.holds c.loop-entry.invariant.longest last.place c.in-Some.entry c.in-Some.entry last.last (last.there c.in-Some.entry) c.meet-common.result c.meet-common.ensures.first c.meet-common.ensures.meet;
      longest = still_longest (listed c.args.self.now) (listed_order c.args.self.now) c.args.self.now (listed_table c.args.self.now) c.args.addr c.loop-entry.bound c.loop-entry.invariant.is_prefix c.loop-entry.invariant.holds c.loop-entry.invariant.longest last.place c.in-Some.entry c.in-Some.entry last.last (last.there c.in-Some.entry) c.meet-common.result c.meet-common.ensures.first c.meet-common.ensures.meet;
    }

pub returns : goal.returns
returns c =
    let past = c.in_default-last_up_to.ensures.none refl in
    no_match (listed c.args.self.now) (listed_order c.args.self.now) c.args.self.now (listed_table c.args.self.now) c.args.addr c.loop-entry.bound c.loop-entry.invariant.is_prefix c.loop-entry.invariant.holds c.loop-entry.invariant.longest past
