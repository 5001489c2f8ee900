use Rattle.std.proofs.Common.{rules, ◌≡◌, arith, length, refl}
use Rattle.ripngd_command_line.proofs.Ranges.{no_first, no_last, not_in_order, seeds_read}
use Rattle.ripngd_command_line.proofs.range.seeds_in.Goals as goal

pub returns-in-Some-Some : goal.returns-in-Some-Some
returns-in-Some-Some c =
    let empty : length c.split_at_dot-2.result.0.now ≡ 0 = search rules in
    seeds_read c.args.text.now _ _ _ _ c.in-Some-Some.first c.in-Some-Some.last c.split_at_dot.ensures.before c.split_at_dot.ensures.after
    c.split_at_dot-2.ensures.before c.split_at_dot-2.ensures.after empty
    ((c.in-Some-Some.ensures c.in-Some-Some.first).0 refl) ((c.in-Some-Some.ensures' c.in-Some-Some.last).0 refl) (search rules)

pub returns-in_default : goal.returns-in_default
returns-in_default c =
    not_in_order c.args.text.now _ _ _ c.in-Some-Some.first c.in-Some-Some.last c.split_at_dot.ensures.before c.split_at_dot.ensures.after
    c.split_at_dot-2.ensures.after ((c.in-Some-Some.ensures c.in-Some-Some.first).0 refl) ((c.in-Some-Some.ensures' c.in-Some-Some.last).0 refl)
    (λ order. let less = c.if-first-last.false in omega arith)

pub returns-in_default-2 : goal.returns-in_default-2
returns-in_default-2 c =
    no_last c.args.text.now _ _ c.split_at_dot.ensures.after c.split_at_dot-2.ensures.after
    (λ n is. let some = (c.seed_in-2.ensures n).1 is in let none = c.in_default.is-1 in cc)

pub returns-in_default-3 : goal.returns-in_default-3
returns-in_default-3 c =
    no_first c.args.text.now _ c.split_at_dot.ensures.before (λ n is. let some = (c.seed_in.ensures n).1 is in let none = c.in_default.is-0 in cc)
