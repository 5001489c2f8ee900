-- A Response heard up to a place, and one entry further: a next hop entry, one that is refused, or an offer that is met.
use Rattle.std.proofs.Common.{◌≡◌, ℕ, ◌+◌, ◌<◌, ◌≤◌, Bool, true, false, cond, not, ◌&&◌, List, [], ◌∷◌, ◌++◌, map, length, All, Contains, IsTrue, Option, Some, None, IfSome, is_none, is_some, unwrap_or, slice_get, refl, ap, ap₂, sym, subst, ◌∙◌, inl, inr, arith, add-zero, append-nil}
use Rattle.std.specs.Prelude.{nat_lt, nat_le, if◌then◌else◌, filter_map}
use Rattle.std.specs.List.{enumerate_from, cons_option}
use Rattle.std.specs.List.Sorted.{IsStrictlyIncreasing}
use Rattle.std.specs.FinMap as map_of
use Rattle.std.proofs.lemmas.Bool.{cases_lt}
use Rattle.std.proofs.lemmas.Bool.Decides.{nat_tests}
use Rattle.std.proofs.lemmas.List.{take_all, map-append}
use Rattle.std.proofs.lemmas.List.FromFn.{length-enumerate_from}
use Rattle.std.proofs.lemmas.List.Elements.{All-map, All-weaker, All-push}
use Rattle.std.proofs.lemmas.Option.{slice_get_within}
use Rattle.prefix6.specs.Prefix.{Prefix6, same_prefix}
use Rattle.prefix6.proofs.PrefixLaws.{same_prefix-true}
use Rattle.fib.specs.declared.change.RouteChange.{RouteChange}
use Rattle.ripng_wire.specs.declared.rte.Rte.{Rte}
use Rattle.ripng_wire.specs.Layout.{is_next_hop}
use Rattle.ripng_wire.specs.Wire.{first_reason}
use Rattle.route_table.specs.Route.{infinity}
use Rattle.route_table.specs.Table.{Table, table_limit}
use Rattle.route_table.proofs.TableSteps.{get-with_value}
use Rattle.router_core.specs.Config.{Config}
use Rattle.router_core.specs.Offers.{offer_at, is_offer, flaw, prefix_named, next_hop_at}
use Rattle.router_core.specs.Adoption.{Gateway, adopted}
use Rattle.router_core.specs.Filters.{is_accepted, is_by, is_limit_reached, limit_at, refusal}
use Rattle.router_core.specs.Hearing.{Hearing, Heard, is_refused, is_refusal, route_after, would_add, would_bring, held_by, brought_after, refusal_at, held_after, notes_by_refusal, notes_of_offer, allowed_notes, note_at}
use Rattle.router_core.specs.Changes.{change, change_at, changes_of_hearing}
use Rattle.router_core.specs.Meeting.{Meeting, entry_meeting, met, table_met, change_met, adds, brings, refusal_of_new}
use Rattle.router_core.specs.declared.answer.Note.{Note}
use Rattle.router_core.specs.declared.answer.NoteKind.{NoteKind}
use Rattle.router_core.specs.declared.answer.NoteKind.TheVariants.{TableFull, NoMemory, NotAccepted, LimitReached}
use Rattle.router_core.proofs.HearingSteps.{heard_one, before_all, after_one, brought_more, same_as_key, size_after}
use Rattle.router_core.proofs.NotesKept.{by, SameBelow, noted_at, noted_at-none, noted_at-push_other, noted_at-push_here, changes_before, changes_before-push, changes_before-same, route_after-same, brought_after-same, allowed_notes-same}
use Rattle.router_core.proofs.HearingCases.{if_counted, if_counted₂, if_any, some_same, increasing_push, change-same, first_route, none_allowed, refusal_allowed, refusal_is, reached-same, refuses}

-- the entries before a place are heard, and where the interface has a limit so many routes are held by way of it
pub record HeardBefore (h : Hearing) (after : Table) (changes : List RouteChange) (held place : ℕ) : Type 0 where
  pub routes : (p : Prefix6) → map_of.get after p ≡ route_after h place p
  pub noted : (k : ℕ) (e : Rte) → k < place → slice_get h.entries k ≡ Some e → Contains (allowed_notes h k e) (note_at h k)
  pub in_order : IsStrictlyIncreasing (map (λ n. n.entry) h.notes)
  pub placed : All (λ n. n.entry < place) h.notes
  pub changed : changes ≡ changes_before h place
  pub counted : IfSome (limit_at h.config h.gateway.iface) (λ n. held ≡ brought_after h place)

-- before the first entry
pub heard_none : (config : Config) (gateway : Gateway) (entries : List Rte) (before : Table) (held : ℕ)
    → IfSome (limit_at config gateway.iface) (λ n. held ≡ held_by gateway.iface before) → HeardBefore (by config gateway entries before []) before [] held 0
heard_none config gateway entries before held counted = record {
  routes = λ p. sym (before_all (by config gateway entries before []) p);
  noted = λ k e lt. absurd (omega arith);
  in_order = λ k lt. absurd (omega arith);
  placed = λ k d lt. absurd (omega arith);
  changed = refl;
  counted = if_counted (limit_at config gateway.iface) (λ is. is ∙ sym (add-zero (held_by gateway.iface before))) counted;
}

-- behind the last one
pub heard_all : (h : Hearing) (after : Table) (changes : List RouteChange) (held place : ℕ) → place ≡ length h.entries
    → HeardBefore h after changes held place → Heard h after × (changes ≡ changes_of_hearing h)
heard_all h after changes held place all heard = (
  record {
    routes = λ p. heard.routes p ∙ ap (λ k. route_after h k p) all;
    noted = λ k e is. heard.noted k e (subst (λ n. k < n) (sym all) (slice_get_within h.entries k e is)) is;
    in_order = heard.in_order;
    placed = subst (λ n. All (λ (m : Note). m.entry < n) h.notes) all heard.placed;
  },
  heard.changed ∙ ap (filter_of h) (take_all place (enumerate_from 0 h.entries) (omega (arith, length-enumerate_from 0 h.entries))),
)
  where
    filter_of : (h : Hearing) → List (ℕ × Rte) → List RouteChange
    filter_of h = λ ts. filter_map (λ t. change_at h t.0 t.1) ts

-- ---- one entry more, whatever it is
module _ (config : Config) (gateway : Gateway) (entries : List Rte) (before : Table) where
  abbrev heard_by : List Note → Hearing
  heard_by = by config gateway entries before

  -- the change that an entry makes between two tables
  abbrev change_here : Rte → Table → Table → Option RouteChange
  change_here e now new = if is_offer e then change (prefix_named e) (map_of.get now (prefix_named e)) (map_of.get new (prefix_named e)) else None

  -- what the entry at a place makes of the notes, the changes and the table
  record GoesOn (place : ℕ) (e : Rte) (notes more : List Note) (changes told : List RouteChange) (held holds : ℕ) (now new : Table) : Type 0 where
    kept : SameBelow config gateway entries before more notes place
    here : Contains (allowed_notes (heard_by more) place e) (noted_at more place)
    in_order : IsStrictlyIncreasing (map (λ n. n.entry) more)
    placed : All (λ n. n.entry < place + 1) more
    routes : (p : Prefix6) → map_of.get new p ≡ heard_one (heard_by more) place e p (map_of.get now p)
    changed : told ≡ changes ++ cons_option (change_here e now new) []
    counted : IfSome (limit_at config gateway.iface) (λ n. holds ≡ held + cond (would_bring (heard_by more) place e && not (is_refusal (noted_at more place))) 1 0)

  module _ (place : ℕ) (e : Rte) (is : slice_get entries place ≡ Some e) (notes : List Note) (changes : List RouteChange) (held : ℕ) (now : Table)
      (heard : HeardBefore (heard_by notes) now changes held place) where
    fits : place ≤ length entries
    fits = let within : place < length entries = slice_get_within entries place e is in omega arith

    on : (more : List Note) (told : List RouteChange) (holds : ℕ) (new : Table) → GoesOn place e notes more changes told held holds now new
        → HeardBefore (heard_by more) new told holds (place + 1)
    on more told holds new o = record {
      routes = after_is;
      noted = noted_more;
      in_order = o.in_order;
      placed = o.placed;
      changed =
          o.changed
          ∙ ap₂ (λ cs c. cs ++ cons_option c []) (heard.changed ∙ sym (changes_before-same config gateway entries before more notes place fits o.kept))
          (ap₂ (λ a b. if is_offer e then change (prefix_named e) a b else None) (before_is (prefix_named e)) (after_is (prefix_named e)))
          ∙ sym (changes_before-push (heard_by more) place e is);
      counted = if_counted₂ (limit_at config gateway.iface)
          (λ was grows. grows
          ∙ ap (λ k. k + cond (would_bring (heard_by more) place e && not (is_refusal (noted_at more place))) 1 0)
          (was ∙ sym (brought_after-same config gateway entries before more notes place fits o.kept))
          ∙ sym (brought_more (heard_by more) place e is))
          heard.counted o.counted;
    }
      where
        before_is : (p : Prefix6) → map_of.get now p ≡ route_after (heard_by more) place p
        before_is p = heard.routes p ∙ sym (route_after-same config gateway entries before more notes place o.kept p)

        after_is : (p : Prefix6) → map_of.get new p ≡ route_after (heard_by more) (place + 1) p
        after_is p = o.routes p ∙ ap (heard_one (heard_by more) place e p) (before_is p) ∙ sym (after_one (heard_by more) place e p is)

        noted_more : (k : ℕ) (f : Rte) → k < place + 1 → slice_get entries k ≡ Some f → Contains (allowed_notes (heard_by more) k f) (noted_at more k)
        noted_more k f lt at_k = elim (cases_lt k place) [
          | inl below ↦
              subst (λ l. Contains l (noted_at more k)) (sym (allowed_notes-same config gateway entries before more notes k f (omega (arith, fits)) (λ j l. o.kept j (omega arith))))
              (subst (λ n. Contains (allowed_notes (heard_by notes) k f) n) (sym (o.kept k below)) (heard.noted k f below at_k))
          | inr above ↦
              let k_is : place ≡ k = omega arith in
              let f_is : e ≡ f = some_same e f (sym is ∙ ap (slice_get entries) k_is ∙ at_k) in
              subst (λ j. Contains (allowed_notes (heard_by more) j f) (noted_at more j)) k_is
              (subst (λ x. Contains (allowed_notes (heard_by more) place x) (noted_at more place)) f_is o.here)
        ]

    -- ---- entries with no note
    no_note : noted_at notes place ≡ None
    no_note = noted_at-none notes place heard.placed

    placed_still : All (λ (n : Note). n.entry < place + 1) notes
    placed_still = All-weaker (λ (n : Note). n.entry < place) (λ (n : Note). n.entry < place + 1) (λ n h. omega arith) notes heard.placed

    -- the count stays where no route is brought
    count_stays : (brought : Bool) → brought ≡ false → IfSome (limit_at config gateway.iface) (λ n. held ≡ held + cond brought 1 0)
    count_stays brought none = if_any (limit_at config gateway.iface) (sym (ap (λ b. held + cond b 1 0) none ∙ add-zero held))

    pub next_hop_heard : is_next_hop e ≡ true → HeardBefore (heard_by notes) now changes held (place + 1)
    next_hop_heard hop = on notes changes held now (record {
      kept = λ k h. refl;
      here = subst (λ o. Contains (allowed_notes (heard_by notes) place e) o) (sym no_note)
          (subst (λ (b : Bool). Contains (if b then None ∷ [] else notes_of_offer (heard_by notes) place e (flaw e)) None) (sym hop) (0, omega arith, refl));
      in_order = heard.in_order;
      placed = placed_still;
      routes = λ p. ap (λ b. cond (((not b && is_none (flaw e)) && same_prefix (prefix_named e) p) && not (is_refused (heard_by notes) place))
          (adopted gateway (map_of.get now p) (offer_at config gateway.from entries place e)) (map_of.get now p)) (sym hop);
      changed = sym (append-nil changes)
          ∙ ap (λ b. changes ++ cons_option (if (not b && is_none (flaw e)) then change (prefix_named e) (map_of.get now (prefix_named e)) (map_of.get now (prefix_named e)) else None) []) (sym hop);
      counted = count_stays (would_bring (heard_by notes) place e && not (is_refusal (noted_at notes place)))
          (ap (λ b. ((not b && is_none (flaw e)) && not (is_by gateway.iface (route_after (heard_by notes) place (prefix_named e)))
          && is_by gateway.iface (adopted gateway (route_after (heard_by notes) place (prefix_named e)) (offer_at config gateway.from entries place e)))
          && not (is_refusal (noted_at notes place))) hop);
    })

    -- ---- offers and refused entries
    module _ (not_hop : is_next_hop e ≡ false) (hop : ℕ) (hop_is : hop ≡ next_hop_at config gateway.from entries place) where
      abbrev this_meeting : Meeting
      this_meeting = entry_meeting gateway e hop place now

      abbrev named : Prefix6
      named = prefix_named e

      offer_is : this_meeting.offer ≡ offer_at config gateway.from entries place e
      offer_is = ap (λ x. record { metric = e.metric; tag = e.tag; next_hop = x; place = place }) hop_is

      is_offer-by : (f : Option NoteKind) → flaw e ≡ f → is_offer e ≡ is_none f
      is_offer-by f flawed = ap₂ (λ b x. not b && is_none x) not_hop flawed

      would_bring-is : (more : List Note) → SameBelow config gateway entries before more notes place → flaw e ≡ None → would_bring (heard_by more) place e ≡ brings this_meeting
      would_bring-is more kept flawless =
          ap₂ (λ b r. b && not (is_by gateway.iface r) && is_by gateway.iface (adopted gateway r (offer_at config gateway.from entries place e)))
          (is_offer-by None flawless) (route_after-same config gateway entries before more notes place kept named ∙ sym (heard.routes named))
          ∙ ap (λ o. not (is_by gateway.iface (map_of.get now named)) && is_by gateway.iface (adopted gateway (map_of.get now named) o)) (sym offer_is)

      -- why the interface refuses the offer, if it does
      abbrev why : Option NoteKind
      why = refusal config gateway.iface e (brings this_meeting) held

      refusal-is : (more : List Note) → SameBelow config gateway entries before more notes place → flaw e ≡ None → refusal_at (heard_by more) place e ≡ why
      refusal-is more kept flawless =
          ap (λ b. refusal config gateway.iface e b (brought_after (heard_by more) place)) (would_bring-is more kept flawless)
          ∙ ap (λ full. first_reason ((nat_lt e.metric infinity && not (is_accepted config gateway.iface (prefix_named e)), NotAccepted) ∷ (brings this_meeting && full, LimitReached) ∷ []))
          (sym (reached-same (limit_at config gateway.iface) held (brought_after (heard_by more) place)
          (if_counted (limit_at config gateway.iface) (λ was. was ∙ sym (brought_after-same config gateway entries before more notes place fits kept)) heard.counted)))

      allowed-by : (more : List Note) (f : Option NoteKind) → flaw e ≡ f → allowed_notes (heard_by more) place e ≡ notes_of_offer (heard_by more) place e f
      allowed-by more f flawed = ap₂ (λ b x. if b then None ∷ [] else notes_of_offer (heard_by more) place e x) not_hop flawed

      would_add-is : (more : List Note) → SameBelow config gateway entries before more notes place → flaw e ≡ None → would_add (heard_by more) place e ≡ adds this_meeting
      would_add-is more kept flawless =
          ap₂ (λ b r. b && is_none r && is_some (adopted gateway None (offer_at config gateway.from entries place e)))
          (is_offer-by None flawless) (route_after-same config gateway entries before more notes place kept named ∙ sym (heard.routes named))
          ∙ first_route gateway (offer_at config gateway.from entries place e) (map_of.get now named)
          ∙ ap (λ o. is_none (map_of.get now named) && is_some (adopted gateway (map_of.get now named) o)) (sym offer_is)

      -- the notes that are allowed on a sound entry
      allowed-sound : (more : List Note) → SameBelow config gateway entries before more notes place → flaw e ≡ None → (r : Option NoteKind) → why ≡ r
          → allowed_notes (heard_by more) place e ≡ notes_by_refusal (heard_by more) place e r
      allowed-sound more kept flawless r is_why =
          allowed-by more None flawless ∙ ap (notes_by_refusal (heard_by more) place e) (refusal-is more kept flawless ∙ is_why)

      held-is : (more : List Note) → SameBelow config gateway entries before more notes place → held_after (heard_by more) place ≡ map_of.len now
      held-is more kept = sym (size_after (heard_by more) place fits now (λ p. heard.routes p ∙ sym (route_after-same config gateway entries before more notes place kept p)))

      -- the offer meets the table
      pub offer_heard : flaw e ≡ None → why ≡ None → (IsTrue (adds this_meeting) → map_of.len now < table_limit)
          → (made : Option RouteChange) → made ≡ change_met this_meeting
          → (new : Table) → new ≡ table_met this_meeting
          → (holds : ℕ) → IfSome (limit_at config gateway.iface) (λ n. holds ≡ held + (if brings this_meeting then 1 else 0))
          → HeardBefore (heard_by notes) new (changes ++ cons_option made []) holds (place + 1)
      offer_heard flawless taken room made made_is new new_is holds counted = on notes (changes ++ cons_option made []) holds new (record {
        kept = λ k h. refl;
        here = subst (λ o. Contains (allowed_notes (heard_by notes) place e) o) (sym no_note)
            (subst (λ l. Contains l None) (sym (allowed-sound notes (λ k h. refl) flawless None taken))
            (none_allowed (would_add (heard_by notes) place e) (held_after (heard_by notes) place) has_room));
        in_order = heard.in_order;
        placed = placed_still;
        routes = routes_at;
        changed = ap (λ c. changes ++ cons_option c []) (made_is
            ∙ ap (change named (map_of.get now named)) (sym new_here)
            ∙ ap (λ b. if b then change named (map_of.get now named) (map_of.get new named) else None) (sym (is_offer-by None flawless)));
        counted = if_counted (limit_at config gateway.iface)
            (λ grows. grows ∙ ap (λ b. held + cond b 1 0)
            (sym (ap₂ (λ b o. b && not (is_refusal o)) (would_bring-is notes (λ k h. refl) flawless) no_note ∙ and_true (brings this_meeting)))) counted;
      })
        where
          has_room : would_add (heard_by notes) place e ≡ true → held_after (heard_by notes) place < table_limit
          has_room adding = subst (λ n. n < table_limit) (sym (held-is notes (λ k h. refl))) (room (sym (would_add-is notes (λ k h. refl) flawless) ∙ adding))

          at_prefix : (p : Prefix6) (b : Bool) → same_prefix named p ≡ b
              → cond b (met this_meeting) (map_of.get now p) ≡ cond b (adopted gateway (map_of.get now p) (offer_at config gateway.from entries place e)) (map_of.get now p)
          at_prefix p true same = ap₂ (λ (q : Prefix6) o. adopted gateway (map_of.get now q) o) (same_prefix-true named p same) offer_is
          at_prefix p false same = refl

          and_true : (b : Bool) → (b && true) ≡ b
          and_true true = refl
          and_true false = refl

          routes_at : (p : Prefix6) → map_of.get new p ≡ heard_one (heard_by notes) place e p (map_of.get now p)
          routes_at p =
              ap (λ t. map_of.get t p) new_is
              ∙ get-with_value now named (met this_meeting) p
              ∙ ap (λ b. cond b (met this_meeting) (map_of.get now p)) (sym (same_as_key named p))
              ∙ at_prefix p (same_prefix named p) refl
              ∙ ap (λ b. cond b (adopted gateway (map_of.get now p) (offer_at config gateway.from entries place e)) (map_of.get now p))
              (sym (ap₂ (λ a o. (a && same_prefix named p) && not (is_refusal o)) (is_offer-by None flawless) no_note ∙ and_true (same_prefix named p)))

          itself : same_prefix named named ≡ true
          itself = grind (arith, nat_tests)

          new_here : map_of.get new named ≡ met this_meeting
          new_here =
              ap (λ t. map_of.get t named) new_is
              ∙ get-with_value now named (met this_meeting) named
              ∙ ap (λ b. cond b (met this_meeting) (map_of.get now named)) (sym (same_as_key named named) ∙ itself)

      -- the entry gets a note
      module _ (kind : NoteKind) (new : Table) (same : new ≡ now) where
        abbrev noted_more : List Note
        noted_more = notes ++ record { entry = place; kind = kind } ∷ []

        kept : SameBelow config gateway entries before noted_more notes place
        kept k lt = noted_at-push_other notes (record { entry = place; kind = kind }) k (omega arith)

        note_is : noted_at noted_more place ≡ Some kind
        note_is = noted_at-push_here notes (record { entry = place; kind = kind }) heard.placed

        -- an entry with a note changes nothing, whether it is an offer or not
        unchanged : Contains (allowed_notes (heard_by noted_more) place e) (Some kind) → (is_offer e && not (is_refusal (Some kind))) ≡ false
            → HeardBefore (heard_by noted_more) new changes held (place + 1)
        unchanged allowed unmet = on noted_more changes held new (record {
          kept = kept;
          here = subst (λ o. Contains (allowed_notes (heard_by noted_more) place e) o) (sym note_is) allowed;
          in_order = subst IsStrictlyIncreasing (sym (map-append (λ (n : Note). n.entry) notes (record { entry = place; kind = kind } ∷ [])))
              (increasing_push (map (λ (n : Note). n.entry) notes) place heard.in_order (All-map (λ x. x < place) (λ (n : Note). n.entry) notes heard.placed));
          placed = All-push (λ (n : Note). n.entry < place + 1) notes (record { entry = place; kind = kind }) placed_still (omega arith);
          routes = λ p.
              ap (λ t. map_of.get t p) same
              ∙ ap (λ b. cond b (adopted gateway (map_of.get now p) (offer_at config gateway.from entries place e)) (map_of.get now p))
              (sym (ap (λ o. (is_offer e && same_prefix named p) && not (is_refusal o)) note_is ∙ unmet_at (is_offer e) (same_prefix named p) (is_refusal (Some kind)) unmet));
          changed = sym (append-nil changes) ∙ ap (λ c. changes ++ cons_option c []) (sym (no_change (is_offer e)));
          counted = count_stays (would_bring (heard_by noted_more) place e && not (is_refusal (noted_at noted_more place)))
              (ap (λ o. would_bring (heard_by noted_more) place e && not (is_refusal o)) note_is
              ∙ brings_none (is_offer e) (not (is_by gateway.iface (route_after (heard_by noted_more) place named)))
              (is_by gateway.iface (adopted gateway (route_after (heard_by noted_more) place named) (offer_at config gateway.from entries place e)))
              (is_refusal (Some kind)) unmet);
        })
          where
            unmet_at : (a s r : Bool) → (a && not r) ≡ false → ((a && s) && not r) ≡ false
            unmet_at true true r none = none
            unmet_at true false r none = refl
            unmet_at false s r none = refl

            brings_none : (a s u r : Bool) → (a && not r) ≡ false → (a && s && u && not r) ≡ false
            brings_none true true true r none = none
            brings_none true true false r none = refl
            brings_none true false u r none = refl
            brings_none false s u r none = refl

            no_change : (b : Bool) → (if b then change named (map_of.get now named) (map_of.get new named) else None) ≡ None
            no_change true = ap (λ t. change named (map_of.get now named) (map_of.get t named)) same ∙ change-same named (map_of.get now named)
            no_change false = refl

        -- a sound entry, by the reason of the interface to refuse it
        refused_heard : flaw e ≡ None → (r : Option NoteKind) → why ≡ r → kind ≡ unwrap_or r (refusal_of_new now) → (r ≡ None → IsTrue (adds this_meeting))
            → HeardBefore (heard_by noted_more) new changes held (place + 1)
        refused_heard flawless (Some other) is_why kind_is adding = unchanged
            (subst (λ l. Contains l (Some kind)) (sym (allowed-sound noted_more kept flawless (Some other) is_why)) (0, omega arith, ap (λ k. Some k) (sym kind_is)))
            (ap₂ (λ b r. b && not r) (is_offer-by None flawless)
            (ap (λ k. is_refusal (Some k)) kind_is
            ∙ refuses (nat_lt e.metric infinity && not (is_accepted config gateway.iface (prefix_named e))) (brings this_meeting && is_limit_reached (limit_at config gateway.iface) held) other is_why))
        refused_heard flawless None is_why kind_is adding = unchanged
            (subst (λ l. Contains l (Some kind)) (sym (allowed-sound noted_more kept flawless None is_why
            ∙ ap₂ (λ b n. if b then (if nat_le table_limit n then Some TableFull ∷ [] else None ∷ Some NoMemory ∷ []) else None ∷ [])
            (would_add-is noted_more kept flawless ∙ adding refl) (held-is noted_more kept)))
            (subst (λ k. Contains (if nat_le table_limit (map_of.len now) then Some TableFull ∷ [] else None ∷ Some NoMemory ∷ []) (Some k)) (sym kind_is)
            (refusal_allowed (nat_le table_limit (map_of.len now)))))
            (ap₂ (λ b r. b && not r) (is_offer-by None flawless) (ap (λ k. is_refusal (Some k)) kind_is ∙ refusal_is (nat_le table_limit (map_of.len now))))

        flaw_heard : (f : Option NoteKind) → flaw e ≡ f → kind ≡ unwrap_or f (unwrap_or why (refusal_of_new now)) → (f ≡ None → why ≡ None → IsTrue (adds this_meeting))
            → HeardBefore (heard_by noted_more) new changes held (place + 1)
        flaw_heard (Some other) flawed kind_is adding = unchanged
            (subst (λ l. Contains l (Some kind)) (sym (allowed-by noted_more (Some other) flawed)) (0, omega arith, ap (λ k. Some k) (sym kind_is)))
            (ap (λ b. b && not (is_refusal (Some kind))) (is_offer-by (Some other) flawed))
        flaw_heard None flawless kind_is adding = refused_heard flawless why refl kind_is (adding refl)

        pub refusal_heard : kind ≡ unwrap_or (flaw e) (unwrap_or why (refusal_of_new now)) → (flaw e ≡ None → why ≡ None → IsTrue (adds this_meeting))
            → HeardBefore (heard_by noted_more) new changes held (place + 1)
        refusal_heard kind_is adding = flaw_heard (flaw e) refl kind_is adding
