-- Messages and the datagrams that spell them, put together piece by piece.
use Rattle.std.proofs.Common.{◌≡◌, ℕ, zero, suc, ◌+◌, ◌-◌, ◌*◌, ◌/◌, ◌<◌, ◌≤◌, List, [], ◌∷◌, ◌++◌, map, min, take, drop, length, slice_range, slice_get, get_or, Some, add-one, refl, ap, ap₂, sym, subst, ◌∙◌, arith, inl, inr, append-nil, append_assoc, mul-suc}
use Rattle.std.specs.List.{enumerate_from, flat_map}
use Rattle.std.proofs.lemmas.Bool.{cases_lt}
use Rattle.std.proofs.lemmas.Grind.{flat_map-append}
use Rattle.std.proofs.lemmas.List.FromFn.{length-enumerate_from}
use Rattle.std.proofs.lemmas.Option.{slice_get-get_or}
use Rattle.std.proofs.lemmas.List.{length-drop, length-map, map-append, take_all, drop_all, take-map, drop-map}
use Rattle.std.proofs.lemmas.Nat.{le-div, div_below}
use Rattle.std.proofs.Math.Nat.{mul-zero, mul_comm, div-add-mod}
use Rattle.std.proofs.Math.Seq.{drop-drop}
use Rattle.ripng_wire.specs.declared.rte.Rte.{Rte}
use Rattle.ripng_wire.specs.declared.rte.Command.TheVariants.{Response}
use Rattle.ripng_wire.specs.Layout.{Spells, entries_for_mtu}
use Rattle.router_core.specs.declared.answer.Destination.{Destination}
use Rattle.router_core.specs.Output.{responses_at, Message, AreSpelled, AddsSpelled, IsSpelled, pieces, numbers_below}
use Rattle.router_core.specs.declared.answer.Outgoing.{Outgoing}
use Rattle.router_core.proofs.HearingSteps.{take_push, numbered_at}

-- what spells two lists spells both, one behind the other
pub AreSpelled-append : (ms ns : List Message) (os ps : List Outgoing) → AreSpelled ms os → AreSpelled ns ps → AreSpelled (ms ++ ns) (os ++ ps)
AreSpelled-append [] ns [] ps s t = t
AreSpelled-append (m ∷ ms) ns (o ∷ os) ps s t = (s.0, AreSpelled-append ms ns os ps s.1 t)
AreSpelled-append [] ns (o ∷ os) ps s t = absurd s
AreSpelled-append (m ∷ ms) ns [] ps s t = absurd s

-- there are as many datagrams as messages
pub AreSpelled-length : (ms : List Message) (os : List Outgoing) → AreSpelled ms os → length os ≡ length ms
AreSpelled-length [] [] s = refl
AreSpelled-length (m ∷ ms) (o ∷ os) s = ap suc (AreSpelled-length ms os s.1)
AreSpelled-length [] (o ∷ os) s = absurd s
AreSpelled-length (m ∷ ms) [] s = absurd s

-- new holds datagrams behind the old ones, and these spell all messages but the rest
pub record SpelledTo (all rest : List Message) (old new : List Outgoing) : Type 0 where
  pub added : List Outgoing
  pub behind : new ≡ old ++ added
  pub with_rest : (later : List Outgoing) → AreSpelled rest later → AreSpelled all (added ++ later)

pub SpelledTo-start : (all : List Message) (old : List Outgoing) → SpelledTo all all old old
SpelledTo-start all old = record { added = []; behind = sym (append-nil old); with_rest = λ later s. s }

pub SpelledTo-next : (all rest : List Message) (old new : List Outgoing) (m : Message) (o : Outgoing) → SpelledTo all (m ∷ rest) old new → IsSpelled m o
    → SpelledTo all rest old (new ++ o ∷ [])
SpelledTo-next all rest old new m o s is = record {
  added = s.added ++ o ∷ [];
  behind = ap (λ l. l ++ o ∷ []) s.behind ∙ append_assoc old s.added (o ∷ []);
  with_rest = λ later t. subst (AreSpelled all) (sym (append_assoc s.added (o ∷ []) later)) (s.with_rest (o ∷ later) (is, t));
}

pub SpelledTo-end : (all : List Message) (old new : List Outgoing) → SpelledTo all [] old new → AddsSpelled all old new
SpelledTo-end all old new s = record { added = s.added; behind = s.behind; spelled = subst (AreSpelled all) (append-nil s.added) (s.with_rest [] tt) }

-- no message is spelled by nothing
pub AddsSpelled-none : (messages : List Message) (old : List Outgoing) → messages ≡ [] → AddsSpelled messages old old
AddsSpelled-none messages old none = subst (λ (ms : List Message). AddsSpelled ms old old) (sym none) (record { added = []; behind = sym (append-nil old); spelled = tt })

-- one message, by one datagram
pub AddsSpelled-one : (m : Message) (o : Outgoing) (old new : List Outgoing) → new ≡ old ++ o ∷ [] → IsSpelled m o → AddsSpelled (m ∷ []) old new
AddsSpelled-one m o old new behind is = record { added = o ∷ []; behind = behind; spelled = (is, tt) }

-- all that spells the messages, behind no older datagrams
pub AddsSpelled-whole : (messages : List Message) (new : List Outgoing) → AddsSpelled messages [] new → AreSpelled messages new
AddsSpelled-whole messages new adds = subst (AreSpelled messages) (sym adds.behind) adds.spelled

added_one : (m : Message) (added : List Outgoing) → AreSpelled (m ∷ []) added → (o : Outgoing) × (added ≡ o ∷ []) × IsSpelled m o
added_one m [] s = absurd s
added_one m (o ∷ []) s = (o, refl, s.0)
added_one m (o ∷ (p ∷ os)) s = absurd s.1

-- ---- the pieces of a list, from its front
numbers_below-front : (m : ℕ) → numbers_below (suc m) ≡ 0 ∷ map suc (numbers_below m)
numbers_below-front zero = refl
numbers_below-front (suc m) =
    ap (λ l. l ++ suc m ∷ []) (numbers_below-front m) ∙ ap (λ l. 0 ∷ l) (sym (map-append suc (numbers_below m) (m ∷ [])))

-- one piece more for n elements more
count_next : (n k : ℕ) → 0 < n → 0 < k → (k + (n - 1)) / n ≡ suc (((k - n) + (n - 1)) / n)
count_next n k some more =
    let q = ((k - n) + (n - 1)) / n in
    let d = div-add-mod ((k - n) + (n - 1)) n in
    let one : suc q * n ≡ n * q + n = mul_comm (suc q) n ∙ mul-suc n q in
    let two : suc (suc q) * n ≡ n * q + n + n = mul_comm (suc (suc q)) n ∙ mul-suc n (suc q) ∙ ap (λ m. m + n) (mul-suc n q) in
    let fits : n * q + n ≤ k + (n - 1) =
    elim (cases_lt k n) [
      | inl below ↦ let none : q < 1 = div_below ((k - n) + (n - 1)) n 1 some (omega arith) in
          let zeroth : n * q ≡ 0 = ap (λ j. n * j) (omega arith) ∙ mul-zero n in
          omega arith
      | inr above ↦ omega arith
    ] in
    let low : suc q ≤ (k + (n - 1)) / n = le-div (suc q) (k + (n - 1)) n some (omega arith) in
    let high : (k + (n - 1)) / n < suc (suc q) = div_below (k + (n - 1)) n (suc (suc q)) some (omega arith) in
    omega arith

module _ {X : Type 0} (n : ℕ) (some : 0 < n) where
  pub pieces-nil : pieces {X = X} n [] ≡ []
  pieces-nil = ap (λ m. map (λ k. slice_range {X = X} [] (n * k) (n * k + n)) (numbers_below m)) none
    where
      none : (length {A = X} [] + (n - 1)) / n ≡ 0
      none = let below : (0 + (n - 1)) / n < 1 = div_below (0 + (n - 1)) n 1 some (omega arith) in omega arith

  piece : List X → ℕ → List X
  piece xs k = slice_range xs (n * k) (n * k + n)

  piece_next : (xs : List X) (k : ℕ) → piece xs (suc k) ≡ piece (drop n xs) k
  unfolding piece
  piece_next xs k =
      ap (λ m. take m (drop (n * suc k) xs)) (same_size (n * suc k) (n * k))
      ∙ ap (take (n * k + n - n * k)) (ap (λ m. drop m xs) (omega (arith, mul-suc n k)) ∙ sym (drop-drop (n * k) n xs))
    where
      same_size : (a b : ℕ) → a + n - a ≡ b + n - b
      same_size a b = omega arith

  pieces_next : (xs : List X) (ks : List ℕ) → map (piece xs) (map suc ks) ≡ map (piece (drop n xs)) ks
  pieces_next xs [] = refl
  pieces_next xs (k ∷ ks) = ap₂ (λ p ps. p ∷ ps) (piece_next xs k) (pieces_next xs ks)

  pub pieces-cons : (xs : List X) → 0 < length xs → pieces n xs ≡ take n xs ∷ pieces n (drop n xs)
  unfolding piece
  pieces-cons xs more =
      ap (λ m. map (piece xs) (numbers_below m)) (count_next n (length xs) some more ∙ ap (λ m. suc ((m + (n - 1)) / n)) (sym (length-drop n xs)))
      ∙ ap (map (piece xs)) (numbers_below-front ((length (drop n xs) + (n - 1)) / n))
      ∙ ap₂ (λ p ps. p ∷ ps) first_piece (pieces_next xs (numbers_below ((length (drop n xs) + (n - 1)) / n)))
    where
      first_piece : piece xs 0 ≡ take n xs
      first_piece = ap (λ z. take (z + n - z) (drop z xs)) (mul-zero n) ∙ ap (λ m. take m xs) (omega arith)

-- ---- a list as Responses, piece by piece
take_min : {X : Type 0} (n : ℕ) (xs : List X) → take (min n (length xs)) xs ≡ take n xs
take_min n xs = elim (cases_lt n (length xs)) [ inl lt ↦ ap (λ m. take m xs) (omega arith) | inr ge ↦ take_all (min n (length xs)) xs (omega arith) ∙ sym (take_all n xs ge) ]

drop_min : {X : Type 0} (n : ℕ) (xs : List X) → drop (min n (length xs)) xs ≡ drop n xs
drop_min n xs = elim (cases_lt n (length xs)) [ inl lt ↦ ap (λ m. drop m xs) (omega arith) | inr ge ↦ drop_all (min n (length xs)) xs (omega arith) ∙ sym (drop_all n xs ge) ]

module _ (mtu iface : ℕ) (to : Destination) (some : 0 < entries_for_mtu mtu) where
  abbrev response : List Rte → Message
  response piece = record { iface = iface; to = to; command = Response; entries = piece }

  pub responses-nil : responses_at mtu iface to [] ≡ []
  responses-nil = ap (map response) (pieces-nil (entries_for_mtu mtu) some)

  -- the first piece is sent
  pub response-next : (all : List Message) (rest piece after : List Rte) (old new : List Outgoing) (o : Outgoing)
      → 0 < length rest → SpelledTo all (responses_at mtu iface to rest) old new
      → piece ≡ take (min (entries_for_mtu mtu) (length rest)) rest → after ≡ drop (min (entries_for_mtu mtu) (length rest)) rest
      → o.iface ≡ iface → o.to ≡ to → Spells Response piece o.bytes
      → SpelledTo all (responses_at mtu iface to after) old (new ++ o ∷ [])
  response-next all rest piece after old new o more so_far front back on destined spells =
      let n = entries_for_mtu mtu in
      let cut : responses_at mtu iface to rest ≡ response piece ∷ responses_at mtu iface to after =
      ap (map response) (pieces-cons n some rest more)
      ∙ ap₂ (λ p ps. response p ∷ map response (pieces n ps)) (sym (front ∙ take_min n rest)) (sym (back ∙ drop_min n rest)) in
      SpelledTo-next all (responses_at mtu iface to after) old new (response piece) o
      (subst (λ (ms : List Message). SpelledTo all ms old new) cut so_far)
      (record { iface = on; to = destined; bytes = spells })

  -- the first piece of a list that is told is sent
  pub told-next : {X : Type 0} (tell : X → Rte) (all : List Message) (rest piece after : List X) (entries : List Rte) (old new : List Outgoing) (o : Outgoing)
      → 0 < length rest → SpelledTo all (responses_at mtu iface to (map tell rest)) old new
      → piece ≡ take (min (entries_for_mtu mtu) (length rest)) rest → after ≡ drop (min (entries_for_mtu mtu) (length rest)) rest
      → entries ≡ map tell piece → o.iface ≡ iface → o.to ≡ to → Spells Response entries o.bytes
      → SpelledTo all (responses_at mtu iface to (map tell after)) old (new ++ o ∷ [])
  told-next tell all rest piece after entries old new o more so_far front back told on destined spells =
      let n = entries_for_mtu mtu in
      let same : min n (length rest) ≡ min n (length (map tell rest)) = ap (min n) (sym (length-map rest tell)) in
      response-next all (map tell rest) entries (map tell after) old new o
      (subst (λ (k : ℕ). 0 < k) (sym (length-map rest tell)) more) so_far
      (told ∙ ap (map tell) front ∙ sym (take-map tell (min n (length rest)) rest) ∙ ap (λ k. take k (map tell rest)) same)
      (ap (map tell) back ∙ sym (drop-map tell (min n (length rest)) rest) ∙ ap (λ k. drop k (map tell rest)) same)
      on destined spells

  -- the same, where that piece was added
  pub told-added : {X : Type 0} (tell : X → Rte) (all : List Message) (rest piece after : List X) (old new newer : List Outgoing)
      → 0 < length rest → SpelledTo all (responses_at mtu iface to (map tell rest)) old new
      → piece ≡ take (min (entries_for_mtu mtu) (length rest)) rest → after ≡ drop (min (entries_for_mtu mtu) (length rest)) rest
      → AddsSpelled (response (map tell piece) ∷ []) new newer
      → SpelledTo all (responses_at mtu iface to (map tell after)) old newer
  told-added tell all rest piece after old new newer more so_far front back adds =
      let one = added_one (response (map tell piece)) adds.added adds.spelled in
      subst (SpelledTo all (responses_at mtu iface to (map tell after)) old) (sym (adds.behind ∙ ap (λ l. new ++ l) one.1))
      (told-next tell all rest piece after (map tell piece) old new one.0 more so_far front back refl one.2.iface one.2.to one.2.bytes)

-- ---- messages of each element of a list with its number
pub take_numbered : {X : Type 0} (xs : List X) (i : ℕ) (x : X) → slice_get xs i ≡ Some x
    → take (i + 1) (enumerate_from 0 xs) ≡ take i (enumerate_from 0 xs) ++ (i, x) ∷ []
take_numbered {X = X} xs i x is =
    ap (λ n. take n (enumerate_from 0 xs)) (add-one i)
    ∙ take_push (enumerate_from 0 xs) i (i, x) (numbered_at 0 xs i x is ∙ ap (λ (m : ℕ). Some (m, x)) (omega arith))

-- one message of each
pub AreSpelled-map : {X : Type 0} (f : ℕ × X → Message) (xs : List X) (i : ℕ) (x : X) (os : List Outgoing) (o : Outgoing) → slice_get xs i ≡ Some x
    → AreSpelled (map f (take i (enumerate_from 0 xs))) os → IsSpelled (f (i, x)) o
    → AreSpelled (map f (take (i + 1) (enumerate_from 0 xs))) (os ++ o ∷ [])
AreSpelled-map f xs i x os o is before spells =
    subst (λ (ms : List Message). AreSpelled ms (os ++ o ∷ []))
    (sym (ap (map f) (take_numbered xs i x is) ∙ map-append f (take i (enumerate_from 0 xs)) ((i, x) ∷ [])))
    (AreSpelled-append (map f (take i (enumerate_from 0 xs))) (f (i, x) ∷ []) os (o ∷ []) before (spells, tt))

-- some messages of each
pub AreSpelled-flat_map : {X : Type 0} (f : ℕ × X → List Message) (xs : List X) (i : ℕ) (x : X) (old new : List Outgoing) → slice_get xs i ≡ Some x
    → AreSpelled (flat_map f (take i (enumerate_from 0 xs))) old → AddsSpelled (f (i, x)) old new
    → AreSpelled (flat_map f (take (i + 1) (enumerate_from 0 xs))) new
AreSpelled-flat_map f xs i x old new is before adds =
    subst (λ (os : List Outgoing). AreSpelled (flat_map f (take (i + 1) (enumerate_from 0 xs))) os) (sym adds.behind)
    (subst (λ (ms : List Message). AreSpelled ms (old ++ adds.added))
    (sym (ap (flat_map f) (take_numbered xs i x is) ∙ flat_map-append f (take i (enumerate_from 0 xs)) ((i, x) ∷ [])
    ∙ ap (λ ms. flat_map f (take i (enumerate_from 0 xs)) ++ ms) (append-nil (f (i, x)))))
    (AreSpelled-append (flat_map f (take i (enumerate_from 0 xs))) (f (i, x)) old adds.added before adds.spelled))

-- the element that a loop over a list has come to
pub element_at : {X : Type 0} (xs : List X) (i : ℕ) (x : X) → i < length xs → x ≡ get_or xs i x → slice_get xs i ≡ Some x
element_at xs i x lt is = slice_get-get_or xs i x lt ∙ ap Some (sym is)

-- all of them, once a loop is over
pub take_all_numbered : {X : Type 0} (xs : List X) (i : ℕ) → length xs ≤ i → take i (enumerate_from 0 xs) ≡ enumerate_from 0 xs
take_all_numbered xs i le = take_all i (enumerate_from 0 xs) (omega (arith, length-enumerate_from 0 xs))
