use Rattle.std.proofs.Common.{◌≡◌, ℕ, ◌++◌, ◌∷◌, [], List, Vec, Global, option_map, unwrap_or, vec_len, ap, ◌∙◌, rules}
use Rattle.std.specs.BTreeMap.{BTreeMap, get}
use Rattle.std.specs.BTreeMap.Entry.{entry_value, map_with_value}
use Rattle.std.specs.Ordering.{nat_cmp}
use Rattle.ripng_world.proofs.Linking.{made_as, one_listed}
use Rattle.ripng_world.proofs.links.Links.add.Goals as goal

pub returns : goal.returns
returns c = λ other.
    let held = c.args.self.now.places in
    let before = get nat_cmp held c.args.link in
    let after = map_with_value c.in_ok-self.field-0 c.push.new.self in
    ap (λ (places : BTreeMap ℕ (Vec (ℕ × ℕ) Global)). unwrap_or (option_map (λ v. v.items) (get nat_cmp places other)) []) {x = c.self-3-1.given.0} {y = after} (search rules)
    ∙ one_listed (λ v. v.items) (get nat_cmp held other) (get nat_cmp after other) before c.args.link other c.args.place c.push.new.self ((c.in_ok-self.ensures.update.0 c.push.new.self).0 other) (λ same. ap (get nat_cmp held) same)
    (c.in_ok-push.ensures.items ∙ ap (λ (ps : List (ℕ × ℕ)). ps ++ c.args.place ∷ [])
    (made_as (λ v. v.items) (entry_value c.in_ok-self.field-0) c.or_default.result.now (λ (v : Vec (ℕ × ℕ) Global). (v.items ≡ []) × (vec_len v ≡ 0)) c.or_default.ensures.value (λ x made. made.0) ∙ ap (λ o. unwrap_or (option_map (λ v. v.items) o) []) c.in_ok-self.ensures.value))
