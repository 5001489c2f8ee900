-- The next of the routes that an update advertises, from batches of those that it may advertise.
use Rattle.std.proofs.Common.{◌≡◌, ℕ, ◌+◌, ◌-◌, ◌<◌, ◌≤◌, Bool, true, false, cond, T, [], ◌∷◌, ◌++◌, length, filter, take, drop, length-take, length-append, length-drop, append_assoc, append-nil, Option, Some, None, option_map, slice_get, refl, ap, sym, ◌∙◌, inl, inr, arith}
use Rattle.std.specs.List.{cons_option}
use Rattle.std.specs.FinMap.{is_sorted}
use Rattle.std.proofs.lemmas.Bool.{cases_lt}
use Rattle.std.proofs.lemmas.List.{nil_from_length, take_all, take-append-drop}
use Rattle.std.proofs.lemmas.List.Elements.{filter-append, filter_map-append}
use Rattle.std.proofs.lemmas.Option.{slice_get_within}
use Rattle.std.proofs.Math.Seq.{take-append-add}
use Rattle.prefix6.specs.Prefix.{Prefix6, prefix_cmp}
use Rattle.route_table.specs.Route.{RouteValue}
use Rattle.route_table.specs.Place.{Entries}
use Rattle.route_table.specs.Summary.{meets}
use Rattle.route_table.specs.Table.{is_past, map_entries, past}
use Rattle.route_table.proofs.WantedEntries.{Entry, passing_rest}
use Rattle.route_table.proofs.TableLaws.{fewer}
use Rattle.route_table.proofs.Walks.{present_at}
use Rattle.router_core.specs.Announcing.{is_announced, announced_of}
use Rattle.router_core.specs.Config.{Config}
use Rattle.router_core.specs.Settling.{told_route, may_be_told}
use Rattle.router_core.specs.declared.tell.Selection.{Selection}
use Rattle.router_core.proofs.Announced.{filter_fewer}
use Rattle.router_core.proofs.DueRoutes.{not_told}

-- a list without a last element has none
pub no_last : (es : Entries) → slice_get es (length es - 1) ≡ None → es ≡ []
no_last es none = nil_from_length es (elim (cases_lt 0 (length es)) [ inl lt ↦ absurd (present_at es (length es - 1) (omega arith) none) | inr ge ↦ omega arith ])

module _ (config : Config) (iface now : ℕ) (which : Selection) where
  -- what is told of a list on an interface
  abbrev pub told : Entries → Entries
  told es = map_entries (told_route now which) (announced_of config iface es)

  -- those past a prefix that may be told
  abbrev pub found : Option Prefix6 → Entries → Entries
  found after es = filter (λ e. meets (may_be_told now which) e.1) (past after es)

  told_past : (after : Option Prefix6) (es : Entries) → past after (told es) ≡ told (past after es)
  told_past after [] = refl
  told_past after (e ∷ es) = by (told_past after es) (is_announced config iface e.0) (told_route now which e.1) (is_past after e.0) refl refl refl
    where
      by : past after (told es) ≡ told (past after es) → (b : Bool) (o : Option RouteValue) (a : Bool) → is_announced config iface e.0 ≡ b
          → told_route now which e.1 ≡ o → is_past after e.0 ≡ a → past after (told (e ∷ es)) ≡ told (past after (e ∷ es))
      by rest false o true let_out is at = rw (let_out, at, let_out) rest
      by rest false o false let_out is at = rw (let_out, at) rest
      by rest true None true let_out is at = rw (let_out, is, at, let_out, is) rest
      by rest true None false let_out is at = rw (let_out, is, at) rest
      by rest true (Some y) true let_out is at = rw (let_out, is, at, let_out, is) (ap (λ l. (e.0, y) ∷ l) rest)
      by rest true (Some y) false let_out is at = rw (let_out, is, at) rest

  -- what is told of two lists
  told-append : (es fs : Entries) → told (es ++ fs) ≡ told es ++ told fs
  told-append es fs =
      ap (map_entries (told_route now which)) (filter-append (λ (e : Entry). is_announced config iface e.0) es fs)
      ∙ filter_map-append _ (announced_of config iface es) (announced_of config iface fs)

  told_fewer : (es : Entries) → length (told es) ≤ length es
  told_fewer es = omega (arith, fewer (told_route now which) (announced_of config iface es), filter_fewer (λ (e : Entry). is_announced config iface e.0) es)

  -- those of a list that may be told
  abbrev wanted : Entries → Entries
  wanted es = filter (λ e. meets (may_be_told now which) e.1) es

  told_found : (es : Entries) → told es ≡ told (filter (λ e. meets (may_be_told now which) e.1) es)
  told_found [] = refl
  told_found (e ∷ es) = by (told_found es) (meets (may_be_told now which) e.1) refl
    where
      with_first : (b : Bool) → told es ≡ told (wanted es) → map_entries (told_route now which) (cond b (e ∷ announced_of config iface es) (announced_of config iface es))
          ≡ map_entries (told_route now which) (cond b (e ∷ announced_of config iface (wanted es)) (announced_of config iface (wanted es)))
      with_first true rest = ap (cons_option (option_map (λ y. (e.0, y)) (told_route now which e.1))) rest
      with_first false rest = rest

      without : (b : Bool) → told_route now which e.1 ≡ None → map_entries (told_route now which) (cond b (e ∷ announced_of config iface es) (announced_of config iface es)) ≡ told es
      without true none = ap (λ o. cons_option (option_map (λ y. (e.0, y)) o) (told es)) none
      without false none = refl

      by : told es ≡ told (wanted es) → (b : Bool) → meets (may_be_told now which) e.1 ≡ b → told (e ∷ es) ≡ told (cond b (e ∷ (wanted es)) (wanted es))
      by rest true is = with_first (is_announced config iface e.0) rest
      by rest false is = without (is_announced config iface e.0) (not_told now which e.1 is) ∙ rest

  module _ (after : Option Prefix6) (es : Entries) (sorted : T (is_sorted prefix_cmp es)) where
    told_are : past after (told es) ≡ told (found after es)
    told_are = told_past after es ∙ told_found (past after es)

    -- a batch is told, and those behind it are wanted
    pub run_grows : (run batch made : Entries) (most : ℕ) (e : Entry) → batch ≡ take (most - length run) (found after es) → slice_get batch (length batch - 1) ≡ Some e → made ≡ run ++ told batch
        → made ++ take (most - length made) (past (Some e.0) (told es)) ≡ run ++ take (most - length run) (past after (told es))
    run_grows run batch made most e is last grown =
        let n = most - length run in
        let rest = past (Some e.0) (told es) in
        let behind : rest ≡ told (drop n (found after es)) =
        told_past (Some e.0) es ∙ told_found (past (Some e.0) es) ∙ ap told (passing_rest (meets (may_be_told now which)) after es sorted n e batch is last) in
        let all : past after (told es) ≡ told batch ++ rest =
        told_are ∙ ap told (sym (take-append-drop n (found after es))) ∙ told-append (take n (found after es)) (drop n (found after es))
        ∙ ap (λ l. told l ++ told (drop n (found after es))) (sym is) ∙ ap (λ l. told batch ++ l) (sym behind) in
        let few : length (told batch) ≤ n = omega (arith, told_fewer batch, ap length is, length-take n (found after es)) in
        let left : length (told batch) + (most - length made) ≡ n = omega (arith, few, ap length grown, length-append run (told batch)) in
        ap (λ l. l ++ take (most - length made) rest) grown
        ∙ append_assoc run (told batch) (take (most - length made) rest)
        ∙ ap (λ l. run ++ l)
        (sym (take-append-add (told batch) rest (most - length made)) ∙ ap (λ m. take m (told batch ++ rest)) left ∙ ap (take n) (sym all))

    -- it is no longer than it was asked for
    pub run_fits : (run batch made : Entries) (most : ℕ) → length run ≤ most → batch ≡ take (most - length run) (found after es) → made ≡ run ++ told batch → length made ≤ most
    run_fits run batch made most fits is grown =
        omega (arith, fits, told_fewer batch, ap length is, length-take (most - length run) (found after es), ap length grown, length-append run (told batch))

    -- fewer are left to be found
    pub found_less : (n : ℕ) (batch : Entries) (e : Entry) → batch ≡ take n (found after es) → slice_get batch (length batch - 1) ≡ Some e → length (found (Some e.0) es) < length (found after es)
    found_less n batch e is last =
        omega (
          arith,
          slice_get_within batch (length batch - 1) e last,
          ap length is,
          length-take n (found after es),
          ap length (passing_rest (meets (may_be_told now which)) after es sorted n e batch is last),
          length-drop n (found after es),
        )

    -- where nothing is found, all is told
    pub run_ends : (run batch : Entries) (n : ℕ) → 0 < n → batch ≡ take n (found after es) → batch ≡ [] → run ++ take n (past after (told es)) ≡ run
    run_ends run batch n some is none =
        let nothing : found after es ≡ [] = nil_from_length (found after es) (omega (arith, some, ap length is, ap length none, length-take n (found after es))) in
        ap (λ l. run ++ take n l) (told_are ∙ ap told nothing) ∙ ap (λ l. run ++ l) (take_all n [] (omega arith)) ∙ append-nil run
