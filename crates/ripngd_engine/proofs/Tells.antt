-- What links, clocks and logs tell, one call after another.
use Rattle.std.proofs.Common.{◌≡◌, ℕ, ◌+◌, List, [], ◌∷◌, ◌++◌, None, Some, refl, sym, ap, subst, ◌∙◌, append_assoc, append-nil, arith, cond, Bool}
use Rattle.std.specs.Prelude.{Option}
use Rattle.std.proofs.lemmas.List.{map-append}
use Rattle.router_core.specs.declared.answer.Outgoing.{Outgoing}
use Rattle.ripngd_engine.specs.Telling.{Gains}
use Rattle.ripngd_engine.specs.Link.{Call, Gave, Silent, RecvFailed, Handed, failed_sends}
use Rattle.ripngd_engine.specs.Observer.{LinkReport, Sent, WasTold}
use Rattle.ripngd_engine.specs.Run.{Sends, handed, sent, counted}
use Rattle.ripngd_engine.specs.Outlet.{HandsOver}

-- nothing was called
pub Gains-nil : {X : Type 0} (a : Option (List X)) → Gains a a []
Gains-nil None = refl
Gains-nil (Some x) = sym (append-nil x)

Gains-none : {X : Type 0} (b c : Option (List X)) (ys : List X) → b ≡ None → Gains b c ys → c ≡ None
Gains-none None c ys p q = q
Gains-none (Some b) c ys p q = absurd (cc)

-- some calls, and then others
pub Gains-trans : {X : Type 0} (a b c : Option (List X)) (xs ys : List X) → Gains a b xs → Gains b c ys → Gains a c (xs ++ ys)
Gains-trans None b c xs ys p q = Gains-none b c ys p q
Gains-trans (Some a) None None xs ys p q = tt
Gains-trans (Some a) None (Some c) xs ys p q = absurd (cc)
Gains-trans (Some a) (Some b) None xs ys p q = tt
Gains-trans (Some a) (Some b) (Some c) xs ys p q = q ∙ ap (λ l. l ++ ys) p ∙ append_assoc a xs ys

pub failed_sends-append : (xs ys : List Call) → failed_sends (xs ++ ys) ≡ failed_sends xs + failed_sends ys
failed_sends-append [] ys = omega arith
failed_sends-append (Handed s went ∷ xs) ys = omega (arith, failed_sends-append xs ys)
failed_sends-append (Gave d ∷ xs) ys = failed_sends-append xs ys
failed_sends-append (Silent ∷ xs) ys = failed_sends-append xs ys
failed_sends-append (RecvFailed ∷ xs) ys = failed_sends-append xs ys

-- a watcher was told some, and then others
pub WasTold-append : {V : Type 0} (takes : V → LinkReport → V → Type 0) (v : V) (ts : List LinkReport) (u : V) (us : List LinkReport) (w : V)
    → WasTold takes v ts u → WasTold takes u us w → WasTold takes v (ts ++ us) w
WasTold-append takes v [] u us w p q = subst (λ x. WasTold takes x us w) p q
WasTold-append takes v (t ∷ ts) u us w p q = (p.0, p.1, WasTold-append takes p.0 ts u us w p.2 q)

-- no datagram was handed over
pub HandsOver-nil : {V : Type 0} (takes : V → LinkReport → V → Type 0) (v : V) (a : Option (List Call)) (lost : ℕ) → HandsOver takes v v a a [] lost lost
HandsOver-nil takes v a lost = record { sends = []; all_sends = refl; calls = Gains-nil a; count = omega arith; told = refl }

-- some datagrams were handed over, and then another
pub HandsOver-more : {V : Type 0} (takes : V → LinkReport → V → Type 0) (u v w : V) (a b c : Option (List Call)) (datagrams : List Outgoing) (s : Outgoing) (went : Bool) (lost middle after : ℕ)
    → HandsOver takes u v a b datagrams lost middle → Gains b c (Handed s went ∷ []) → takes v (Sent s went) w → after ≡ counted middle (cond went 0 1)
    → HandsOver takes u w a c (datagrams ++ s ∷ []) lost after
HandsOver-more takes u v w a b c datagrams s went lost middle after h g t e =
    let more : Sends = h.sends ++ (s, went) ∷ [] in
    let calls : handed more ≡ handed h.sends ++ Handed s went ∷ [] = map-append (λ p. Handed p.0 p.1) h.sends ((s, went) ∷ []) in
    let tellings : sent more ≡ sent h.sends ++ Sent s went ∷ [] = map-append (λ p. Sent p.0 p.1) h.sends ((s, went) ∷ []) in
    let fails : failed_sends (handed more) ≡ failed_sends (handed h.sends) + cond went 0 1 =
    ap failed_sends calls ∙ failed_sends-append (handed h.sends) (Handed s went ∷ []) ∙ omega arith in
    record {
      sends = more;
      all_sends = map-append (λ p. p.0) h.sends ((s, went) ∷ []) ∙ ap (λ l. l ++ s ∷ []) h.all_sends;
      calls = rw calls (Gains-trans a b c (handed h.sends) (Handed s went ∷ []) h.calls g);
      count = omega (arith, fails, e, h.count);
      told = rw tellings (WasTold-append takes u (sent h.sends) v (Sent s went ∷ []) w h.told (w, t, refl));
    }
