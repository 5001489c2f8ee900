-- Datagrams set out, one after another.
use Rattle.std.proofs.Common.{◌≡◌, ◌⊎◌, inl, inr, ℕ, ◌+◌, ◌<◌, ◌≤◌, Bool, true, false, IsTrue, List, Some, slice_get, refl, ap, sym, subst, ◌∙◌, arith, le_refl, le_trans}
use Rattle.std.specs.Option.{option_map, unwrap_or}
use Rattle.std.specs.BTreeMap.{get}
use Rattle.std.specs.Ordering.{nat_cmp}
use Rattle.route_table.proofs.TableLaws.{Some-same}
use Rattle.ripng_world.specs.Labs.{LabValue, link_at}
use Rattle.ripng_world.specs.declared.event.Sent.{Sent}
use Rattle.ripng_clock.specs.Agenda.{Has, IsAdded}
use Rattle.ripng_clock.specs.Carrying.{Asked, carriage_of, is_carried, prompt}
use Rattle.ripng_clock.specs.Ending.{HaveSetOut}
use Rattle.ripng_clock.specs.declared.carrying.Carriage.{Carriage}
use Rattle.ripng_clock.specs.declared.timetable.Timetable.{Timetable}

same_links : (t u : Timetable) (lab : LabValue) (d : Sent) → t.links ≡ u.links → carriage_of t lab d ≡ carriage_of u lab d
same_links t u lab d links = ap (λ m. unwrap_or (option_map (λ link. unwrap_or (get nat_cmp m link) prompt) (link_at lab.network d.router d.iface)) prompt) links

next_of : (a b : ℕ) → a < b + 1 → (a < b) ⊎ (b ≡ a)
next_of a b lt = grind (arith, lt)

module _ (asked : Asked) (lab : LabValue) (moment : ℕ) (t : Timetable) (first : ℕ) where
  pub out_none : HaveSetOut asked lab moment t first first t
  out_none =
      record {
        links = refl;
        over = refl;
        kept = λ time n has. has;
        set = λ n d late early at out. absurd (omega (arith, late, early));
        only = λ time n has. inl has;
      }

  module _ (end : ℕ) (u : Timetable) (are : HaveSetOut asked lab moment t first end u) where
    -- one does not get on its way
    pub out_skipped : ((d : Sent) → slice_get lab.world.sent end ≡ Some d → is_carried asked lab end d ≡ false) → HaveSetOut asked lab moment t first (end + 1) u
    out_skipped never =
        record {
          links = are.links;
          over = are.over;
          kept = are.kept;
          set = λ n d late early at out. elim (next_of n end early) [
            | inl before ↦ are.set n d late before at out
            | inr this ↦ absurd (clash (sym out ∙ subst (λ k. is_carried asked lab k d ≡ false) this (never d (subst (λ k. slice_get lab.world.sent k ≡ Some d) (sym this) at))))
          ];
          only = λ time n has. elim (are.only time n has) [
            | inl old ↦ inl old
            | inr new ↦ inr (new.0, (let a = new.1 in omega (arith, a)), new.2)
          ];
        }
      where
        clash : true ≡ false → ⊥
        clash e = cc

    -- or it does
    pub out_added : first ≤ end → (d : Sent) → slice_get lab.world.sent end ≡ Some d → (time : ℕ) → time ≡ moment + (carriage_of u lab d).delay_ms → (v : Timetable) → v.links ≡ u.links → v.over ≡ u.over
        → IsAdded u.under_way time end v.under_way → HaveSetOut asked lab moment t first (end + 1) v
    out_added from d here time time_is v links over added =
        record {
          links = links ∙ are.links;
          over = over ∙ are.over;
          kept = λ time n has. added.kept time n (are.kept time n has);
          set = λ n e late early at out. elim (next_of n end early) [
            | inl before ↦ added.kept _ n (are.set n e late before at out)
            | inr this ↦ subst (λ k. Has v.under_way (moment + (carriage_of t lab e).delay_ms) k) this
                (subst (λ k. Has v.under_way k end) (when e (subst (λ k. slice_get lab.world.sent k ≡ Some e) (sym this) at)) added.has)
          ];
          only = λ time' n has. elim (added.only time' n has) [
            | inl this ↦ inr (
              subst (λ k. first ≤ k) (sym this.1) from,
              subst (λ k. k < end + 1) (sym this.1) (one end),
              λ e at. this.0 ∙ when e (subst (λ k. slice_get lab.world.sent k ≡ Some e) this.1 at),
            )
            | inr old ↦ elim (are.only time' n old) [
              | inl was ↦ inl was
              | inr new ↦ inr (new.0, (let a = new.1 in omega (arith, a)), new.2)
            ]
          ];
        }
      where
        one : (k : ℕ) → k < k + 1
        one k = omega arith

        when : (e : Sent) → slice_get lab.world.sent end ≡ Some e → time ≡ moment + (carriage_of t lab e).delay_ms
        when e at = time_is ∙ ap (λ (c : Carriage). moment + c.delay_ms) (ap (carriage_of u lab) (Some-same d e (sym here ∙ at)) ∙ same_links u t lab e are.links)
