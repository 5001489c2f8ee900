-- What is asked of an entry by cases: its note, its change, and the limit of its interface.
use Rattle.std.proofs.Common.{◌≡◌, ℕ, zero, suc, ◌+◌, ◌<◌, Bool, true, false, ◌&&◌, List, [], ◌∷◌, ◌++◌, All, Contains, Option, Some, None, IfSome, is_none, is_some, refl, ap, sym, subst, arith}
use Rattle.std.specs.Prelude.{nat_le, if◌then◌else◌, slice_index, option_and_then}
use Rattle.std.specs.List.Sorted.{IsStrictlyIncreasing}
use Rattle.std.proofs.lemmas.Bool.{lt-leb}
use Rattle.std.proofs.lemmas.Bool.Decides.{nat_tests}
use Rattle.prefix6.specs.Prefix.{Prefix6}
use Rattle.fib.specs.declared.change.Hop.{Hop}
use Rattle.fib.specs.declared.change.Hop.TheVariants.{Direct, Via}
use Rattle.fib.specs.Forwarding.{Forward, same_hop, same_forward, change_to}
use Rattle.ripng_wire.specs.declared.rte.Rte.{Rte}
use Rattle.ripng_wire.specs.Wire.{first_reason}
use Rattle.route_table.specs.Route.{RouteValue}
use Rattle.route_table.specs.Table.{table_limit}
use Rattle.router_core.specs.Offers.{Offer}
use Rattle.router_core.specs.Adoption.{Gateway, adopted}
use Rattle.router_core.specs.Filters.{is_limit_reached}
use Rattle.router_core.specs.Hearing.{is_refusal}
use Rattle.router_core.specs.Changes.{forward, change}
use Rattle.router_core.specs.declared.answer.NoteKind.{NoteKind}
use Rattle.router_core.specs.declared.answer.NoteKind.TheVariants.{TableFull, NoMemory, NotAccepted, LimitReached}

-- what is so where there is a limit
pub if_counted : {A B : Type 0} (limit : Option ℕ) → (A → B) → IfSome limit (λ n. A) → IfSome limit (λ n. B)
if_counted None f a = tt
if_counted (Some n) f a = f a

pub if_counted₂ : {A B C : Type 0} (limit : Option ℕ) → (A → B → C) → IfSome limit (λ n. A) → IfSome limit (λ n. B) → IfSome limit (λ n. C)
if_counted₂ None f a b = tt
if_counted₂ (Some n) f a b = f a b

pub if_any : {A : Type 0} (limit : Option ℕ) → A → IfSome limit (λ n. A)
if_any None a = tt
if_any (Some n) a = a

pub some_same : (a b : Rte) → Some a ≡ Some b → a ≡ b
some_same a b q = cc

pub increasing_push : (xs : List ℕ) (y : ℕ) → IsStrictlyIncreasing xs → All (λ x. x < y) xs → IsStrictlyIncreasing (xs ++ y ∷ [])
increasing_push [] y up below k lt = absurd (omega arith)
increasing_push (x ∷ []) y up below zero lt = below 0 0 (omega arith)
increasing_push (x ∷ []) y up below (suc k) lt = absurd (omega arith)
increasing_push (x ∷ z ∷ xs) y up below zero lt = up 0 (omega arith)
increasing_push (x ∷ z ∷ xs) y up below (suc k) lt =
    let suc-one : (j : ℕ) → suc (j + 1) ≡ suc j + 1 = λ j. omega arith in
    subst (λ n. slice_index ((z ∷ xs) ++ y ∷ []) k < slice_index (x ∷ (z ∷ xs) ++ y ∷ []) n) (suc-one k)
    (increasing_push (z ∷ xs) y
    (λ j l. subst (λ n. slice_index (z ∷ xs) j < slice_index (x ∷ z ∷ xs) n) (sym (suc-one j)) (up (suc j) (omega arith)))
    (λ j d l. below (suc j) d (omega arith)) k (omega arith))

pub same_hop-refl : (h : Hop) → same_hop h h ≡ true
same_hop-refl Direct = refl
same_hop-refl (Via iface next_hop) = grind (arith, nat_tests)

pub same_forward-refl : (f : Option Forward) → same_forward f f ≡ true
same_forward-refl None = refl
same_forward-refl (Some f) = grind (arith, nat_tests, same_hop-refl f.hop)

-- nothing changes where the route stays
pub change-same : (p : Prefix6) (r : Option RouteValue) → change p r r ≡ None
change-same p r = ap (λ b. if b then None else Some (change_to p (option_and_then forward r))) (same_forward-refl (option_and_then forward r))

-- whether a first route comes does not hang on how that is asked
pub first_route : (g : Gateway) (o : Offer) (old : Option RouteValue) → (is_none old && is_some (adopted g None o)) ≡ (is_none old && is_some (adopted g old o))
first_route g o None = refl
first_route g o (Some r) = refl

-- the note that a first route gets, or that it gets none
pub none_allowed : (b : Bool) (held : ℕ) → (b ≡ true → held < table_limit)
    → Contains (if b then (if nat_le table_limit held then Some TableFull ∷ [] else None ∷ Some NoMemory ∷ []) else None ∷ []) None
none_allowed false held room = (0, omega arith, refl)
none_allowed true held room =
    subst (λ (c : Bool). Contains (if c then Some TableFull ∷ [] else None ∷ Some NoMemory ∷ []) None) (sym (lt-leb table_limit held (room refl)))
    (0, omega arith, refl)

pub refusal_allowed : (c : Bool) → Contains (if c then Some TableFull ∷ [] else None ∷ Some NoMemory ∷ []) (Some (if c then TableFull else NoMemory))
refusal_allowed true = (0, omega arith, refl)
refusal_allowed false = (1, omega arith, refl)

pub refusal_is : (c : Bool) → is_refusal (Some (if c then TableFull else NoMemory)) ≡ true
refusal_is true = refl
refusal_is false = refl

-- whether a limit is reached goes by the count, where there is one
pub reached-same : (limit : Option ℕ) (held count : ℕ) → IfSome limit (λ n. held ≡ count) → is_limit_reached limit held ≡ is_limit_reached limit count
reached-same None held count same = refl
reached-same (Some n) held count same = ap (nat_le n) same

-- what an interface refuses it says by one of two notes
pub refuses : (barred full : Bool) (kind : NoteKind) → first_reason ((barred, NotAccepted) ∷ (full, LimitReached) ∷ []) ≡ Some kind → is_refusal (Some kind) ≡ true
refuses true full kind is = ap is_refusal (sym is)
refuses false true kind is = ap is_refusal (sym is)
refuses false false kind is = absurd (cc)
