-- What a router announces: of a table no more than it has, and all where its interfaces are active and its filters let it out.
use Rattle.std.proofs.Common.{◌≡◌, ℕ, Bool, true, false, cond, List, [], ◌∷◌, ◌++◌, flat_map, Option, Some, None, refl, ap, ap₂, sym, ◌∙◌}
use Rattle.std.specs.List.{enumerate_from}
use Rattle.std.specs.FinMap as map_of
use Rattle.prefix6.specs.Prefix.{Prefix6}
use Rattle.prefix6.proofs.PrefixLaws.{prefixes_total, exact_prefixes}
use Rattle.route_table.specs.Route.{RouteValue}
use Rattle.route_table.specs.Table.{Table}
use Rattle.route_table.proofs.TableLaws.{None-Some}
use Rattle.router_core.specs.Announcing.{announced, is_announced, is_passive}
use Rattle.router_core.specs.Config.{Config}
use Rattle.router_core.specs.Output.{responses, told, update_messages, update_on}
use Rattle.router_core.specs.declared.answer.Destination.TheVariants.{Group}
use Rattle.router_core.proofs.Announced.{announced_has}

-- what is announced is held
pub announced_held : (config : Config) (iface : ℕ) (table : Table) (p : Prefix6) (r : RouteValue) → map_of.get (announced config iface table) p ≡ Some r → map_of.get table p ≡ Some r
announced_held config iface table p r is = by_test (is_announced config iface p) (sym (announced_has config iface table p) ∙ is)
  where
    by_test : (b : Bool) → cond b (map_of.get table p) None ≡ Some r → map_of.get table p ≡ Some r
    by_test true e = e
    by_test false e = absurd (None-Some r e)

-- the filters let out each prefix of the table
abbrev pub LetsOut : Config → Table → Type 0
LetsOut config table = (iface : ℕ) (p : Prefix6) (r : RouteValue) → map_of.get table p ≡ Some r → is_announced config iface p ≡ true

-- then it is announced whole
announced_whole : (config : Config) (table : Table) → LetsOut config table → (iface : ℕ) → announced config iface table ≡ table
announced_whole config table lets iface =
    map_of.same_map prefixes_total exact_prefixes (announced config iface table) table (λ p. announced_has config iface table p ∙ by_value p (map_of.get table p) refl)
  where
    either : (b : Bool) (o : Option RouteValue) → o ≡ None → cond b o None ≡ o
    either true o e = refl
    either false o e = sym e

    by_value : (p : Prefix6) (o : Option RouteValue) → map_of.get table p ≡ o → cond (is_announced config iface p) o None ≡ o
    by_value p None at = either (is_announced config iface p) None refl
    by_value p (Some r) at = ap (λ b. cond b (Some r) None) (lets iface p r at)

flat_same : {X Y : Type 0} (f g : X → List Y) → ((x : X) → f x ≡ g x) → (xs : List X) → flat_map f xs ≡ flat_map g xs
flat_same f g same [] = refl
flat_same f g same (x ∷ xs) = ap₂ (λ a b. a ++ b) (same x) (flat_same f g same xs)

-- and told on each interface, where none is passive
pub told_whole : (config : Config) (which : RouteValue → Bool) (table : Table) → ((iface : ℕ) → is_passive config iface ≡ false) → LetsOut config table
    → update_messages config which table ≡ flat_map (λ u. responses config u.0 Group (told u.0 which table)) (enumerate_from 0 config.interfaces)
told_whole config which table active lets = flat_same (λ u. update_on config which table u.0) (λ u. responses config u.0 Group (told u.0 which table)) (λ u. on_each u.0) (enumerate_from 0 config.interfaces)
  where
    on_each : (iface : ℕ) → update_on config which table iface ≡ responses config iface Group (told iface which table)
    on_each iface =
        ap (λ b. cond b [] (responses config iface Group (told iface which (announced config iface table)))) (active iface)
        ∙ ap (λ (t : Table). responses config iface Group (told iface which t)) (announced_whole config table lets iface)
