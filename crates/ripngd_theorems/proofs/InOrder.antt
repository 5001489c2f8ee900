-- Links that keep order keep it in the model.
use Rattle.std.proofs.Common.{◌≡◌, ℕ, ◌+◌, ◌<◌, ◌≤◌, List, [], ◌∷◌, ◌++◌, length, Option, Some, slice_get, ap, ap₂, sym, subst, ◌∙◌, append_assoc, append-nil, arith}
use Rattle.route_table.proofs.TableLaws.{Some-same}
use Rattle.router_core.specs.declared.reconfiguring.Change.{Change}
use Rattle.ripng_world.specs.declared.event.Sent.{Sent}
use Rattle.ripng_world.specs.Network.{Network, config_of}
use Rattle.ripng_world.specs.World as world
use Rattle.ripng_world.specs.World.{World, address_at}
use Rattle.ripng_world.proofs.Members.{get_left}
use Rattle.ripng_phases.specs.Minutes.{untimed}
use Rattle.ripng_phases.specs.Phases.{Step, IsCount, IsOvertaken, reached}
use Rattle.ripngd_engine.specs.Link.{Gave}
use Rattle.ripngd_engine.specs.Run.{Machine}
use Rattle.ripngd_theorems.specs.Daemons.{Listen, Happened}
use Rattle.ripngd_theorems.specs.Links.{all_handed}
use Rattle.ripngd_theorems.specs.OnTime.{AreOnTime, Dated, GoOn, IsNumbered, undated}
use Rattle.ripngd_theorems.proofs.Deeds.{Agrees, IsStepOf}
use Rattle.ripngd_theorems.proofs.Events.{IsGift, gift_of}
use Rattle.ripngd_theorems.proofs.Pairs.{IsHalved, Paired, all_handed_on, dated_of, dated_on, deeds_of, halve, history_of, split_filter, stepped, steps_are, undated_on}
use Rattle.ripngd_theorems.proofs.Places.{IsPlace, count_by_then, dated_split, pairs, place_at, sent_by_then}
use Rattle.ripngd_theorems.proofs.Sends.{get_behind}

module _ (net : Network) (before : List Happened) (daemons : ℕ → Option Machine) (history : List Dated) (start end : ℕ) (daemons' : ℕ → Option Machine)
    (go : GoOn net before daemons history start end daemons') (first : List Sent) (done : List (ℕ × Change)) (w : World) (agrees : Agrees net first daemons (all_handed before) done w) where
  abbrev all : List Paired
  all = (pairs net before daemons history start end daemons' go first done w agrees).pairs

  abbrev last : World
  last = reached w (untimed (history_of all))

  -- a delivery, what it delivers, and from where
  record IsDelivery (p : Paired) (s : Step) (datagram router iface : ℕ) : Type 0 where
    pub gift : IsGift (length first) p.dated.happened.router p.dated.happened.deed.act p.dated.number datagram router iface
    pub sent : Sent
    pub sent_is : slice_get (reached w (untimed (history_of all))).sent datagram ≡ Some sent
    pub source : gift.received.source ≡ address_at net sent.router sent.iface

  delivery : (xs : List Paired) (p : Paired) (ys : List Paired) → all ≡ xs ++ p ∷ ys
      → (s : Step) → p.step ≡ Some s → (datagram router iface now : ℕ) → s.event ≡ world.Deliver datagram router iface now → IsDelivery p s datagram router iface
  delivery xs p ys parts s is datagram router iface now event =
      by (place_at net before daemons history start end daemons' go first done w agrees xs p ys parts)
    where
      by : IsPlace net before daemons history start end daemons' go first done w agrees xs p ys → IsDelivery p s datagram router iface
      by k =
          let h = p.dated.happened in
          let step = subst (λ o. IsStepOf net (reached w (untimed (history_of xs))) (length first) h.router (k.now h.router) h.deed p.dated.number k.pair.after o) is k.pair.is in
          let g = gift_of (length first) h.router h.deed.act p.dated.number h.deed.trace s.event s.answer datagram router iface now step.1 event in
          let copy : IsNumbered net (all_handed before ++ all_handed (deeds_of xs)) h.router (config_of k.pair.node) (Listen (Gave g.received)) (Some g.place) =
          subst (λ o. IsNumbered net (all_handed before ++ all_handed (deeds_of xs)) h.router (config_of k.pair.node) (Listen (Gave g.received)) o) g.number_is
          (subst (λ a. IsNumbered net (all_handed before ++ all_handed (deeds_of xs)) h.router (config_of k.pair.node) a p.dated.number) g.gave k.pair.given) in
          let whole : (reached w (untimed (history_of all))).sent ≡ first ++ ((all_handed before ++ all_handed (deeds_of xs)) ++ all_handed (deeds_of (p ∷ ys))) =
          sent_by_then net before daemons history start end daemons' go first done w agrees all [] (sym (append-nil all))
          ∙ ap (λ ds. first ++ ds) (ap (λ ps. all_handed (before ++ deeds_of ps)) parts ∙ handed_parts xs (p ∷ ys)) in
          record {
            gift = g;
            sent = copy.0;
            sent_is = ap (slice_get (reached w (untimed (history_of all))).sent) g.datagram_is ∙ ap (λ ds. slice_get ds (length first + g.place)) whole
                ∙ get_behind first ((all_handed before ++ all_handed (deeds_of xs)) ++ all_handed (deeds_of (p ∷ ys))) g.place
                ∙ get_left (all_handed before ++ all_handed (deeds_of xs)) (all_handed (deeds_of (p ∷ ys))) g.place copy.0 copy.1;
            source = copy.2.source;
          }
        where
          handed_parts : (cs bs : List Paired) → all_handed (before ++ deeds_of (cs ++ bs)) ≡ (all_handed before ++ all_handed (deeds_of cs)) ++ all_handed (deeds_of bs)
          handed_parts cs bs =
              all_handed_on before (deeds_of (cs ++ bs)) ∙ ap (λ ds. all_handed before ++ ds) (ap all_handed (ap undated (dated_on cs bs) ∙ undated_on (dated_of cs) (dated_of bs)) ∙ all_handed_on (deeds_of cs) (deeds_of bs))
              ∙ sym (append_assoc (all_handed before) (all_handed (deeds_of cs)) (all_handed (deeds_of bs)))

  pub in_order : AreOnTime net before daemons history start end
      → IsOvertaken (IsCount w (untimed (history_of all))) w
      (untimed (history_of all)) → ⊥
  in_order on_time o =
      let qa = split_filter Paired Step stepped all o.before o.later (o.between ++ o.earlier ∷ o.after) (sym (steps_are all) ∙ o.parts ∙ append_assoc o.before (o.later ∷ o.between) (o.earlier ∷ o.after)) in
      let qb = split_filter Paired Step stepped qa.after o.between o.earlier o.after qa.after_is in
      both qa.before qa.here qb.before qb.here qb.after (qa.parts ∙ ap (λ zs. qa.before ++ qa.here ∷ zs) qb.parts)
      (delivery qa.before qa.here qa.after qa.parts o.later qa.here_is o.new o.router o.iface o.now o.first)
      (delivery (qa.before ++ qa.here ∷ qb.before) qb.here qb.after
      (qa.parts ∙ ap (λ zs. qa.before ++ qa.here ∷ zs) qb.parts ∙ sym (append_assoc qa.before (qa.here ∷ qb.before) (qb.here ∷ qb.after))) o.earlier qb.here_is o.old o.router o.iface o.moment o.second)
    where
      count : IsHalved Paired Step stepped all o.counted.before o.counted.after
      count = halve Paired Step stepped all o.counted.before o.counted.after (sym (steps_are all) ∙ o.counted.parts)

      count_is : o.count ≡ length first + length (all_handed (before ++ deeds_of count.before))
      count_is =
          o.counted.count_is ∙ ap (λ ss. length (reached w ss).sent) (sym count.before_is ∙ sym (steps_are count.before))
          ∙ count_by_then net before daemons history start end daemons' go first done w agrees count.before count.after count.parts

      earlier : (c n d k l : ℕ) → n ≡ c + l → d ≡ c + k → d < n → k < l
      earlier c n d k l e f g = omega arith

      no : (c n d k l : ℕ) → n ≡ c + l → d ≡ c + k → n ≤ d → k < l → ⊥
      no c n d k l e f g h = omega arith

      both : (xs : List Paired) (s : Paired) (ys : List Paired) (t : Paired) (zs : List Paired) → all ≡ xs ++ s ∷ (ys ++ t ∷ zs)
          → IsDelivery s o.later o.new o.router o.iface → IsDelivery t o.earlier o.old o.router o.iface → ⊥
      both xs s ys t zs parts a b =
          let one = Some-same a.sent o.new_sent (sym a.sent_is ∙ o.new_is) in
          let two = Some-same b.sent o.old_sent (sym b.sent_is ∙ o.old_is) in
          let source : a.gift.received.source ≡ b.gift.received.source =
          a.source ∙ ap₂ (address_at net) (ap (λ (d : Sent). d.router) one ∙ o.same_router ∙ sym (ap (λ (d : Sent). d.router) two)) (ap (λ (d : Sent). d.iface) one ∙ o.same_iface ∙ sym (ap (λ (d : Sent). d.iface) two)) ∙ sym b.source in
          let split : history ≡ dated_of xs ++ s.dated ∷ (dated_of ys ++ t.dated ∷ dated_of zs) =
          dated_split net before daemons history start end daemons' go first done w agrees xs s (ys ++ t ∷ zs) parts ∙ ap (λ ts. dated_of xs ++ s.dated ∷ ts) (dated_on ys (t ∷ zs)) in
          let deeds : undated history ≡ deeds_of count.before ++ deeds_of count.after =
          ap undated (sym (pairs net before daemons history start end daemons' go first done w agrees).dated_are ∙ ap dated_of count.parts ∙ dated_on count.before count.after) ∙ undated_on (dated_of count.before) (dated_of count.after) in
          no (length first) o.count o.new a.gift.place (length (all_handed (before ++ deeds_of count.before))) count_is a.gift.datagram_is o.new_after
          (on_time.in_order (dated_of xs) (dated_of ys) (dated_of zs) s.dated t.dated split o.router a.gift.received b.gift.received a.gift.place b.gift.place
          (a.gift.router_is, a.gift.gave, a.gift.number_is) (b.gift.router_is, b.gift.gave, b.gift.number_is) (a.gift.iface_is ∙ sym b.gift.iface_is) source
          (deeds_of count.before) (deeds_of count.after) deeds (earlier (length first) o.count o.old b.gift.place (length (all_handed (before ++ deeds_of count.before))) count_is b.gift.datagram_is o.old_before))
