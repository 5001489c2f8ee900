-- A Response that a neighbor spelled has no fault.
use Rattle.std.proofs.Common.{◌≡◌, ℕ, suc, ◌+◌, ◌-◌, ◌*◌, ◌%◌, ◌≤◌, Bool, true, false, cond, not, ◌&&◌, ◌==◌, nat_lt, List, [], ◌∷◌, ◌++◌, map, flat_map, length, Some, None, refl, ap, sym, subst, ◌∙◌, arith}
use Rattle.std.specs.List.{AllByRecursion}
use Rattle.std.proofs.lemmas.Bool.{eq-eqb}
use Rattle.std.proofs.lemmas.Bool.Decides.{nat_tests}
use Rattle.prefix6.specs.Addr.{is_link_local}
use Rattle.ripng_wire.specs.declared.rte.Rte.{Rte}
use Rattle.ripng_wire.specs.declared.rte.Command.TheVariants.{Response}
use Rattle.ripng_wire.specs.Layout.{Spells, entry_bytes, most_entries}
use Rattle.ripng_wire.specs.Wire.{first_reason, wire_reasons, is_response}
use Rattle.router_core.specs.Config.{Config, is_own_address}
use Rattle.router_core.specs.Received.{Received}
use Rattle.router_core.specs.Faults.{fault, arrival_reasons, response_reasons, request_reasons}
use Rattle.router_core.specs.declared.arrival.Fault.{Fault}
use Rattle.router_core.specs.declared.arrival.Fault.TheVariants.{Wire}
use Rattle.ripng_wire.proofs.Entries.{length_entries}
use Rattle.ripng_world.proofs.Each.{each_append}

all_pass : {F : Type 0} (ts : List (Bool × F)) → AllByRecursion (λ t. t.0 ≡ false) ts → first_reason ts ≡ None
all_pass [] all = refl
all_pass (t ∷ ts) all = ap (λ b. cond b (Some t.1) (first_reason ts)) all.0 ∙ all_pass ts all.1

long_enough : (n : ℕ) → nat_lt (suc (suc (suc (suc n)))) 4 ≡ false
long_enough n = grind (arith, nat_tests)

short_enough : (n l : ℕ) → l ≡ 20 * n → n ≤ most_entries → nat_lt (4 + 20 * most_entries) (suc (suc (suc (suc l)))) ≡ false
short_enough n l e h = grind (arith, nat_tests)

whole : (n l : ℕ) → l ≡ 20 * n → not ((suc (suc (suc (suc l))) - 4) % 20 == 0) ≡ false
whole n l e = ap not (eq-eqb ((suc (suc (suc (suc l))) - 4) % 20) 0 (omega arith))

pub spelled_response : (es : List Rte) (bytes : List ℕ) → Spells Response es bytes → is_response bytes ≡ true
spelled_response es bytes s = ap is_response s.bytes_are

wire_passes : (es : List Rte) (bytes : List ℕ) → Spells Response es bytes → AllByRecursion (λ (t : Bool × Fault). t.0 ≡ false) (map (λ t. (t.0, Wire t.1)) (wire_reasons bytes))
wire_passes es bytes s =
    subst (λ (bs : List ℕ). AllByRecursion (λ (t : Bool × Fault). t.0 ≡ false) (map (λ t. (t.0, Wire t.1)) (wire_reasons bs))) (sym s.bytes_are) (
      long_enough (length (flat_map entry_bytes es)),
      (
        short_enough (length es) (length (flat_map entry_bytes es)) (length_entries es) s.few,
        (whole (length es) (length (flat_map entry_bytes es)) (length_entries es), (refl, (refl, (refl, tt)))),
      ),
    )

pub no_fault : (config : Config) (x : Received) (es : List Rte) → Spells Response es x.bytes → x.source_port ≡ 521 → is_link_local x.source ≡ true
    → is_own_address config x.iface x.source ≡ false → x.hop_limit ≡ 255 → fault config x ≡ None
no_fault config x es s port local own hops =
    all_pass (map (λ t. (t.0, Wire t.1)) (wire_reasons x.bytes) ++ arrival_reasons config x)
    (each_append (λ (t : Bool × Fault). t.0 ≡ false) (map (λ t. (t.0, Wire t.1)) (wire_reasons x.bytes)) (arrival_reasons config x) (wire_passes es x.bytes s)
    (subst (λ b. AllByRecursion (λ (t : Bool × Fault). t.0 ≡ false) (cond b (response_reasons config x) (request_reasons config x))) (sym (spelled_response es x.bytes s))
    (ap not (eq-eqb x.source_port 521 port), (ap not local, (own, (ap (λ b. x.to_group && not b) (eq-eqb x.hop_limit 255 hops) ∙ and_false x.to_group, tt))))))
  where
    and_false : (b : Bool) → (b && false) ≡ false
    and_false true = refl
    and_false false = refl
