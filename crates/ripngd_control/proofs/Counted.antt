-- Counts, one telling after another.
use Rattle.std.proofs.Common.{◌≡◌, ◌∙◌, ℕ, ◌+◌, List, [], ◌∷◌, refl, sym, arith, subst}
use Rattle.ripngd_engine.specs.Run.{counted}
use Rattle.ripngd_engine.specs.Observer.{LinkReport, Begins, WasTold}
use Rattle.ripngd_engine.specs.declared.observer.Update.{Update}
use Rattle.ripngd_control.specs.Watching.{Counted, Refused}
use Rattle.ripngd_control.specs.declared.counts.Counts.{Counts}
use Rattle.ripngd_control.specs.declared.refusals.Refusals.{Refusals}

-- nothing was counted
pub counted-none : (n : ℕ) → n ≡ counted n 0
counted-none n = omega arith

-- some were counted, and then others
pub counted-more : (m n k a b : ℕ) → n ≡ counted m (a + 0) → k ≡ counted n b → k ≡ counted m (a + b)
counted-more m n k a b p q = omega (arith, p, q)

pub counted-zero : (m n a : ℕ) → n ≡ counted m a → n ≡ counted m (a + 0)
counted-zero m n a p = omega (arith, p)

pub Refused-one : (more : ℕ → ℕ) (r s : Refusals) → Refused more r s → Refused (λ n. more n + 0) r s
Refused-one more r s h = record { by_number_are = λ number lt. counted-zero _ _ _ (h.by_number_are number lt) }

pub Counted-none : (c : Counts) → Counted c [] c
Counted-none c = record {
  arrivals = counted-none c.arrivals;
  sends = counted-none c.sends;
  failed_sends = counted-none c.failed_sends;
  refusals = record { by_number_are = λ number h. counted-none _ };
  asked = refl;
}

-- an update is none of what is counted in all
pub Counted-begins : (c : Counts) (update : Update) → Counted c (Begins update ∷ []) c
Counted-begins c update = record {
  arrivals = counted-none c.arrivals;
  sends = counted-none c.sends;
  failed_sends = counted-none c.failed_sends;
  refusals = record { by_number_are = λ number h. counted-none _ };
  asked = refl;
}

pub Counted-more : (c d e : Counts) (t : LinkReport) (ts : List LinkReport) → Counted c (t ∷ []) d → Counted d ts e → Counted c (t ∷ ts) e
Counted-more c d e t ts p q = record {
  arrivals = counted-more _ _ _ _ _ p.arrivals q.arrivals;
  sends = counted-more _ _ _ _ _ p.sends q.sends;
  failed_sends = counted-more _ _ _ _ _ p.failed_sends q.failed_sends;
  refusals = record { by_number_are = λ number h. counted-more _ _ _ _ _ (p.refusals.by_number_are number h) (q.refusals.by_number_are number h) };
  asked = q.asked ∙ p.asked;
}

pub Counted-all : (c d : Counts) (ts : List LinkReport) → WasTold (λ v t w. Counted v (t ∷ []) w) c ts d → Counted c ts d
Counted-all c d [] h = subst (λ x. Counted c [] x) (sym h) (Counted-none c)
Counted-all c d (t ∷ ts) h = Counted-more c h.0 d t ts h.1 (Counted-all h.0 d ts h.2)
