use Rattle.std.proofs.Common.{◌≡◌, ◌≢◌, ℕ, List, Some, None, Result, Ok, Err, Bor, MatchResult, codes, refl, sym, ap, arith, get_or, ◌∙◌, subst}
use Rattle.std.specs.Result.{result_ok}
use Rattle.std.specs.Str.{IsUtf8}
use Rattle.prefix6.specs.Written.{written_prefix}
use Rattle.fib.specs.declared.change.RouteChange.TheVariants.{Install, Withdraw}
use Rattle.ripngd_engine.specs.Log.{route_text}
use Rattle.ripngd_daemon.proofs.WordTexts.{change_utf8, literal_in_word}
use Rattle.ripngd_daemon.proofs.line.change_in.Goals as goal

-- the text of a line that is UTF-8 is the line
text_of : {E : Type 0} (Q : E → Type 0) (line : List ℕ) (r : Result (Bor (List ℕ)) E) (text : Bor (List ℕ)) → MatchResult r (λ s. (s.now ≡ line) × IsUtf8 line) (λ e. (¬ (IsUtf8 line)) × Q e) → result_ok r ≡ Some text → text.now ≡ line
text_of Q line (Ok s) text cases is = let same : s ≡ text = cc in subst (λ t. t.now ≡ line) same cases.0
text_of Q line (Err e) text cases is = absurd cc

has_text : {E : Type 0} (Q : E → Type 0) (line : List ℕ) (r : Result (Bor (List ℕ)) E) → MatchResult r (λ s. (s.now ≡ line) × IsUtf8 line) (λ e. (¬ (IsUtf8 line)) × Q e) → IsUtf8 line → result_ok r ≢ None
has_text Q line (Ok s) cases utf8 none = cc
has_text Q line (Err e) cases utf8 none = absurd (cases.0 utf8)

pub returns-in_err-line-clause-found : goal.returns-in_err-line-clause-found
returns-in_err-line-clause-found c change is e =
    absurd (has_text _ _ _ c.from_utf8.ensures.cases (subst IsUtf8 e (change_utf8 change is)) (sym c.ok.ensures.value ∙ c.in_err-line.was))

add_no_del : codes "add" ≢ codes "del"
add_no_del same = let first : ◌≡◌ {A = ℕ} 97 100 = ap (λ text. get_or text 0 0) same in omega (arith, first)

pub returns-in-add-clause-found : goal.returns-in-add-clause-found
returns-in-add-clause-found c (Install p hop metric) is e =
    let parts = c.first_word.ensures (codes "add") (route_text p hop metric) (literal_in_word (codes "add") refl) (text_of _ _ _ _ c.from_utf8.ensures.cases (sym c.ok.ensures.value ∙ c.in_ok-line.was) ∙ sym e) in
    c.install_in.ensures.found p hop metric is.0 is.1 is.2 parts.1
returns-in-add-clause-found c (Withdraw p) is e =
    let parts = c.first_word.ensures (codes "del") (written_prefix p) (literal_in_word (codes "del") refl) (text_of _ _ _ _ c.from_utf8.ensures.cases (sym c.ok.ensures.value ∙ c.in_ok-line.was) ∙ sym e) in
    absurd (add_no_del (sym c.in-add.is ∙ parts.0))

pub returns-in_err-prefix_in-in_default-clause-found : goal.returns-in_err-prefix_in-in_default-clause-found
returns-in_err-prefix_in-in_default-clause-found c (Install p hop metric) is e =
    let parts = c.first_word.ensures (codes "add") (route_text p hop metric) (literal_in_word (codes "add") refl) (text_of _ _ _ _ c.from_utf8.ensures.cases (sym c.ok.ensures.value ∙ c.in_ok-line.was) ∙ sym e) in
    absurd (c.in_default.not-add parts.0)
returns-in_err-prefix_in-in_default-clause-found c (Withdraw p) is e =
    let parts = c.first_word.ensures (codes "del") (written_prefix p) (literal_in_word (codes "del") refl) (text_of _ _ _ _ c.from_utf8.ensures.cases (sym c.ok.ensures.value ∙ c.in_ok-line.was) ∙ sym e) in
    let read = c.prefix_in.ensures.found p is parts.1 in
    let none = c.in_err-prefix_in-in_default.was in
    cc

pub returns-in_ok-prefix_in-in_default-clause-found : goal.returns-in_ok-prefix_in-in_default-clause-found
returns-in_ok-prefix_in-in_default-clause-found c (Install p hop metric) is e =
    let parts = c.first_word.ensures (codes "add") (route_text p hop metric) (literal_in_word (codes "add") refl) (text_of _ _ _ _ c.from_utf8.ensures.cases (sym c.ok.ensures.value ∙ c.in_ok-line.was) ∙ sym e) in
    absurd (c.in_default.not-add parts.0)
returns-in_ok-prefix_in-in_default-clause-found c (Withdraw p) is e =
    let parts = c.first_word.ensures (codes "del") (written_prefix p) (literal_in_word (codes "del") refl) (text_of _ _ _ _ c.from_utf8.ensures.cases (sym c.ok.ensures.value ∙ c.in_ok-line.was) ∙ sym e) in
    let read = c.prefix_in.ensures.found p is parts.1 in
    let same = c.in_ok-prefix_in-in_default.was in
    cc
