use Rattle.std.proofs.Common.{◌≡◌, ℕ, false, List, codes, eqb, true≢false, sym, ◌∙◌, subst}
use Rattle.std.specs.Cmp.Lexicographic.{pointwise}
use Rattle.fib.specs.declared.change.Hop.TheVariants.{Direct, Via}
use Rattle.ripngd_daemon.proofs.Readings.{address_is_read, hop_parts, number_is_read}
use Rattle.ripngd_daemon.proofs.line.hop_in.Goals as goal

not_direct : (text : List ℕ) → text ≡ codes "direct" → ¬ (pointwise eqb text (codes "direct") ≡ false)
not_direct text e h = true≢false (subst (λ t. pointwise eqb t (codes "direct") ≡ false) e h)

pub returns-in_err-ok-clause-found : goal.returns-in_err-ok-clause-found
returns-in_err-ok-clause-found c Direct is e = absurd (not_direct c.args.text.now e (sym c.eq.ensures ∙ c.if-eq.false))
returns-in_err-ok-clause-found c (Via iface a) is e =
    let parts = hop_parts _ _ _ _ _ _ _ c.first_word.ensures c.first_word-2.ensures c.first_word-3.ensures iface a e in
    let read = c.ok.ensures.value ∙ number_is_read 64 iface _ c.parse.result is.0 is.0 parts.1 c.parse.ensures.value.0 in
    let none = c.in_err-ok.was in
    cc

pub returns-in_err-ok-2-clause-found : goal.returns-in_err-ok-2-clause-found
returns-in_err-ok-2-clause-found c Direct is e = absurd (not_direct c.args.text.now e (sym c.eq.ensures ∙ c.if-eq.false))
returns-in_err-ok-2-clause-found c (Via iface a) is e =
    let parts = hop_parts _ _ _ _ _ _ _ c.first_word.ensures c.first_word-2.ensures c.first_word-3.ensures iface a e in
    let read = c.ok-2.ensures.value ∙ address_is_read a _ c.parse_addr.result (c.written_texts_are_read_back.ensures.address a is.1) parts.0 c.parse_addr.ensures in
    let none = c.in_err-ok-2.was in
    cc

pub returns-clause-found : goal.returns-clause-found
returns-clause-found c Direct is e = absurd (not_direct c.args.text.now e (sym c.eq.ensures ∙ c.if-eq.false))
returns-clause-found c (Via iface a) is e =
    let parts = hop_parts _ _ _ _ _ _ _ c.first_word.ensures c.first_word-2.ensures c.first_word-3.ensures iface a e in
    let iface_is = c.ok.ensures.value ∙ number_is_read 64 iface _ c.parse.result is.0 is.0 parts.1 c.parse.ensures.value.0 in
    let addr_is = c.ok-2.ensures.value ∙ address_is_read a _ c.parse_addr.result (c.written_texts_are_read_back.ensures.address a is.1) parts.0 c.parse_addr.ensures in
    let first = c.in_ok-ok.was in
    let second = c.in_ok-ok-2.was in
    cc
