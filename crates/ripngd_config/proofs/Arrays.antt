-- Arrays of tables, member by member.
use Rattle.std.proofs.Common.{◌≡◌, ◌<◌, ℕ, false, zero, suc, List, [], ◌∷◌, ◌++◌, Some, length, get_or, inl, inr, refl, arith}
use Rattle.toml.specs.Data.{Data, Items, Members, as_array, as_table, get_member}
use Rattle.toml.specs.View.{items_view, view}
use Rattle.toml.specs.declared.value.Value.{Value}
use Rattle.ripngd_config.specs.Faults.{ItemHas, ItemsHave, KeyHas, KindHas}
use Rattle.ripngd_config.specs.Keys.{Kind, array}
use Rattle.ripngd_config.specs.Values.{AreItems, IsArray, IsReadAt}
use Rattle.ripngd_config.specs.declared.fault.ConfigFault.{ConfigFault}

pub items_more : {X : Type 0} (R : Data → X → Type 0) (vs : List Value) (xs : List X) (v : Value) (x : X) → AreItems R (items_view vs) xs → R (view v) x
    → AreItems R (items_view (vs ++ v ∷ [])) (xs ++ x ∷ [])
items_more R [] [] v x h is = (is, refl)
items_more R [] (y ∷ ys) v x h is = absurd (cc h)
items_more R (w ∷ vs) [] v x h is = absurd h
items_more R (w ∷ vs) (y ∷ ys) v x h is = (h.0, items_more R vs ys v x h.1 is)

-- the array at a key is read as the values
pub array_read : {X : Type 0} (R : Data → X → Type 0) (name : List ℕ) (ms : Members) (d : Data) (items : Items) (xs : List X) → get_member name ms ≡ Some d → as_array d ≡ Some items
    → AreItems R items xs → IsReadAt (IsArray R) name (Some []) ms xs
array_read R name ms d items xs got is read = rw (got, is) read

-- a member that is a table
pub table_has : (Has : Members → ConfigFault → Type 0) (d : Data) (ms : Members) (f : ConfigFault) → as_table d ≡ Some ms → Has ms f → ItemHas Has d f
table_has Has d ms f is h = rw is h

item_has : (Has : Data → ConfigFault → Type 0) (vs : List Value) (i : ℕ) (v : Value) (f : ConfigFault) → i < length vs → Has (view (get_or vs i v)) f → ItemsHave Has (items_view vs) f
item_has Has [] i v f lt h = absurd (omega arith)
item_has Has (w ∷ vs) zero v f lt h = inl h
item_has Has (w ∷ vs) (suc i) v f lt h = inr (item_has Has vs i v f (omega arith) h)

-- a member of the array at a key
pub member_has : (kind : Kind) (name : List ℕ) (ms : Members) (d : Data) (vs : List Value) (i : ℕ) (v : Value) (f : ConfigFault) → get_member name ms ≡ Some d → as_array d ≡ Some (items_view vs) → i < length vs
    → v ≡ get_or vs i v → KindHas kind (view v) f → KeyHas name false (array kind) ms f
member_has kind name ms d vs i v f got is lt at h = rw (got, is) (item_has (λ e g. KindHas kind e g) vs i v f lt (rw (← at) h))
