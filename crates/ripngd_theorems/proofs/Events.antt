-- What the event of a deed says of the deed.
use Rattle.std.proofs.Common.{◌≡◌, ◌⊎◌, inl, inr, ℕ, ◌+◌, [], ◌∷◌, Option, Some, None, refl, ap, sym, subst, ◌∙◌}
use Rattle.router_core.specs.declared.answer.Answer.{Answer}
use Rattle.ripng_world.specs.Rounds.{moment_of, router_of}
use Rattle.ripng_world.specs.World as world
use Rattle.ripng_world.specs.World.{Event}
use Rattle.ripng_phases.specs.Phases.{IsOrdinary}
use Rattle.ripngd_engine.specs.Link.{Datagram, Gave, Silent, RecvFailed, Handed}
use Rattle.ripngd_engine.specs.Run.{Trace, arrival}
use Rattle.ripngd_theorems.specs.Daemons.{Act, Start, Listen, Tick, Reconfigure, Shutdown, LinkDown, LinkUp, Ask, Refuse}
use Rattle.ripngd_theorems.specs.OnTime.{IsPlain}
use Rattle.ripngd_theorems.proofs.Deeds.{IsEventOf, IsHeard}

-- the event of a plain deed is ordinary, of its router, and at its moment; and it noted nothing, or a watcher was told its notes
pub record IsPlainEvent (router : ℕ) (trace : Trace) (e : Event) (answer : Answer) : Type 0 where
  pub ordinary : IsOrdinary e
  pub router_is : router_of e ≡ router
  pub moments : trace.moments ≡ moment_of e ∷ []
  pub notes : (answer.notes ≡ []) ⊎ ((now : ℕ) × IsHeard trace now answer)

pub plain_event : (count router : ℕ) (act : Act) (number : Option ℕ) (trace : Trace) (e : Event) (answer : Answer) → IsPlain act → IsEventOf count router act number trace e answer
    → IsPlainEvent router trace e answer
plain_event count router Start number trace e answer plain is = absurd plain
plain_event count router (Listen (Gave d)) (Some number) trace e answer plain is =
    record {
      ordinary = subst IsOrdinary (sym is.1) tt;
      router_is = ap router_of is.1;
      moments = is.2.moments ∙ ap (λ n. n ∷ []) (sym (ap moment_of is.1));
      notes = inr (is.0, is.2);
    }
plain_event count router (Listen (Gave d)) None trace e answer plain is =
    record {
      ordinary = subst IsOrdinary (sym is.1) tt;
      router_is = ap router_of is.1;
      moments = is.2.moments ∙ ap (λ n. n ∷ []) (sym (ap moment_of is.1));
      notes = inr (is.0, is.2);
    }
plain_event count router (Listen Silent) number trace e answer plain is = absurd is
plain_event count router (Listen RecvFailed) number trace e answer plain is = absurd is
plain_event count router (Listen (Handed o went)) number trace e answer plain is = absurd is
plain_event count router Tick number trace e answer plain is =
    record {
      ordinary = subst IsOrdinary (sym is.2) tt;
      router_is = ap router_of is.2;
      moments = is.3.moments ∙ ap (λ n. n ∷ []) (sym (ap moment_of is.2));
      notes = inl is.3.notes;
    }
plain_event count router (Reconfigure c) number trace e answer plain is = absurd plain
plain_event count router Shutdown number trace e answer plain is = absurd plain
plain_event count router (LinkDown on) number trace e answer plain is = absurd plain
plain_event count router (LinkUp on) number trace e answer plain is =
    record {
      ordinary = subst IsOrdinary (sym is.1) tt;
      router_is = ap router_of is.1;
      moments = is.2.moments ∙ ap (λ n. n ∷ []) (sym (ap moment_of is.1));
      notes = inl is.2.notes;
    }
plain_event count router (Ask on) number trace e answer plain is =
    record {
      ordinary = subst IsOrdinary (sym is.1) tt;
      router_is = ap router_of is.1;
      moments = is.2.moments ∙ ap (λ n. n ∷ []) (sym (ap moment_of is.1));
      notes = inl is.2.notes;
    }
plain_event count router Refuse number trace e answer plain is = absurd is

-- a delivery is of what a link gave
pub record IsGift (count router : ℕ) (act : Act) (number : Option ℕ) (datagram other iface : ℕ) : Type 0 where
  pub received : Datagram
  pub place : ℕ
  pub gave : act ≡ Listen (Gave received)
  pub number_is : number ≡ Some place
  pub datagram_is : datagram ≡ count + place
  pub router_is : router ≡ other
  pub iface_is : received.iface ≡ iface

pub gift_of : (count router : ℕ) (act : Act) (number : Option ℕ) (trace : Trace) (e : Event) (answer : Answer) (datagram other iface now : ℕ)
    → IsEventOf count router act number trace e answer → e ≡ world.Deliver datagram other iface now → IsGift count router act number datagram other iface
gift_of count router Start number trace e answer datagram other iface now is same = absurd (no (sym is.1 ∙ same))
  where
    no : world.Restart router is.0 ≡ world.Deliver datagram other iface now → ⊥
    no e = cc
gift_of count router (Listen (Gave d)) (Some number) trace e answer datagram other iface now is same =
    let f : world.Deliver (count + number) router d.iface is.0 ≡ world.Deliver datagram other iface now = sym is.1 ∙ same in
    record {
      received = d;
      place = number;
      gave = refl;
      number_is = refl;
      datagram_is = first (count + number) router d.iface is.0 f;
      router_is = second (count + number) router d.iface is.0 f;
      iface_is = third (count + number) router d.iface is.0 f;
    }
  where
    first : (a b c n : ℕ) → world.Deliver a b c n ≡ world.Deliver datagram other iface now → datagram ≡ a
    first a b c n e = cc

    second : (a b c n : ℕ) → world.Deliver a b c n ≡ world.Deliver datagram other iface now → b ≡ other
    second a b c n e = cc

    third : (a b c n : ℕ) → world.Deliver a b c n ≡ world.Deliver datagram other iface now → c ≡ iface
    third a b c n e = cc
gift_of count router (Listen (Gave d)) None trace e answer datagram other iface now is same = absurd (no (sym is.1 ∙ same))
  where
    no : world.Stranger router (arrival is.0 d) ≡ world.Deliver datagram other iface now → ⊥
    no e = cc
gift_of count router (Listen Silent) number trace e answer datagram other iface now is same = absurd is
gift_of count router (Listen RecvFailed) number trace e answer datagram other iface now is same = absurd is
gift_of count router (Listen (Handed o went)) number trace e answer datagram other iface now is same = absurd is
gift_of count router Tick number trace e answer datagram other iface now is same = absurd (no (sym is.2 ∙ same))
  where
    no : world.Tick router is.0 is.1 ≡ world.Deliver datagram other iface now → ⊥
    no e = cc
gift_of count router (Reconfigure c) number trace e answer datagram other iface now is same = absurd (no (sym is.1 ∙ same))
  where
    no : world.Reconfigure router is.0 c ≡ world.Deliver datagram other iface now → ⊥
    no e = cc
gift_of count router Shutdown number trace e answer datagram other iface now is same = absurd (no (sym is.1 ∙ same))
  where
    no : world.Shutdown router is.0 ≡ world.Deliver datagram other iface now → ⊥
    no e = cc
gift_of count router (LinkDown on) number trace e answer datagram other iface now is same = absurd (no (sym is.1 ∙ same))
  where
    no : world.LinkDown router is.0 on ≡ world.Deliver datagram other iface now → ⊥
    no e = cc
gift_of count router (LinkUp on) number trace e answer datagram other iface now is same = absurd (no (sym is.1 ∙ same))
  where
    no : world.LinkUp router is.0 on ≡ world.Deliver datagram other iface now → ⊥
    no e = cc
gift_of count router (Ask on) number trace e answer datagram other iface now is same = absurd (no (sym is.1 ∙ same))
  where
    no : world.LinkUp router is.0 on ≡ world.Deliver datagram other iface now → ⊥
    no e = cc
gift_of count router Refuse number trace e answer datagram other iface now is same = absurd is

-- a tick is a tick
pub record IsOwnTick (router : ℕ) (act : Act) (trace : Trace) (other now : ℕ) : Type 0 where
  pub ticks : act ≡ Tick
  pub router_is : router ≡ other
  pub moment : trace.moments ≡ now ∷ []

pub tick_of : (count router : ℕ) (act : Act) (number : Option ℕ) (trace : Trace) (e : Event) (answer : Answer) (other now word : ℕ) → IsPlain act
    → IsEventOf count router act number trace e answer → e ≡ world.Tick other now word → IsOwnTick router act trace other now
tick_of count router Start number trace e answer other now word plain is same = absurd plain
tick_of count router (Listen (Gave d)) (Some number) trace e answer other now word plain is same = absurd (no (sym is.1 ∙ same))
  where
    no : world.Deliver (count + number) router d.iface is.0 ≡ world.Tick other now word → ⊥
    no e = cc
tick_of count router (Listen (Gave d)) None trace e answer other now word plain is same = absurd (no (sym is.1 ∙ same))
  where
    no : world.Stranger router (arrival is.0 d) ≡ world.Tick other now word → ⊥
    no e = cc
tick_of count router (Listen Silent) number trace e answer other now word plain is same = absurd is
tick_of count router (Listen RecvFailed) number trace e answer other now word plain is same = absurd is
tick_of count router (Listen (Handed o went)) number trace e answer other now word plain is same = absurd is
tick_of count router Tick number trace e answer other now word plain is same =
    record { ticks = refl; router_is = ap router_of (sym is.2 ∙ same); moment = is.3.moments ∙ ap (λ n. n ∷ []) (ap moment_of (sym is.2 ∙ same)) }
tick_of count router (Reconfigure c) number trace e answer other now word plain is same = absurd plain
tick_of count router Shutdown number trace e answer other now word plain is same = absurd plain
tick_of count router (LinkDown on) number trace e answer other now word plain is same = absurd plain
tick_of count router (LinkUp on) number trace e answer other now word plain is same = absurd (no (sym is.1 ∙ same))
  where
    no : world.LinkUp router is.0 on ≡ world.Tick other now word → ⊥
    no e = cc
tick_of count router (Ask on) number trace e answer other now word plain is same = absurd (no (sym is.1 ∙ same))
  where
    no : world.LinkUp router is.0 on ≡ world.Tick other now word → ⊥
    no e = cc
tick_of count router Refuse number trace e answer other now word plain is same = absurd is
