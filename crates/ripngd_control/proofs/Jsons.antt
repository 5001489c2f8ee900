-- Texts of JSON that grow, token by token.
use Rattle.std.proofs.Common.{◌≡◌, ◌≢◌, ◌∙◌, ◌<◌, ◌+◌, ℕ, Bool, false, inl, inr, refl, sym, ap, subst, List, [], ◌∷◌, ◌++◌, map, flat_map, append_assoc, append-nil, cond, get_or, length, take}
use Rattle.std.specs.Prelude.{◌==◌, codes, IfSome, None, Option, Some}
use Rattle.std.specs.List.{enumerate_from}
use Rattle.std.proofs.lemmas.Bool.{eq-eqb}
use Rattle.std.proofs.lemmas.Bool.Decides.{eqb_tells}
use Rattle.std.proofs.lemmas.Grind.{flat_map-append}
use Rattle.std.proofs.lemmas.List.{take_more}
use Rattle.std.proofs.lemmas.List.Elements.{filter_more}
use Rattle.json.specs.Json.{Json}
use Rattle.json.specs.Print.{print}
use Rattle.json.specs.Token.{Token, begin_array, begin_object, end_array, end_object, key}
use Rattle.json.specs.Tree.{items_tokens, json_tokens, members_tokens}
use Rattle.router_core.specs.declared.config.Interface.{Interface}
use Rattle.router_core.proofs.Sending.{element_at, take_numbered}
use Rattle.ripngd_control.specs.Json.{Grows, IsWholeText, items_of, link_json, list_of, members_of, object_of, router_json, rows_at, status_json, tally_members, text_of}
use Rattle.ripngd_control.specs.Links.{LinksSeen}
use Rattle.ripngd_control.specs.declared.counts.Counts.{Counts}
use Rattle.ripngd_control.specs.declared.counts.Losses.{Losses}
use Rattle.ripngd_control.specs.declared.json_text.JsonText.{JsonText}
use Rattle.ripngd_control.specs.declared.neighbors.Neighbor.{Neighbor}
use Rattle.ripngd_control.specs.declared.neighbors.Neighbors.{Neighbors}
use Rattle.ripngd_control.specs.declared.neighbors.Tally.{Tally}

-- some tokens, and then others
pub Grows-then : {a b c : JsonText} {ts us : List Token} → Grows a b ts → Grows b c us → Grows a c (ts ++ us)
Grows-then {a} {b} {c} {ts} {us} first rest = record {
  before = rest.before ∙ first.before;
  written = λ not_refused.
      let last = rest.written not_refused in
      let early = first.written last.0 in
      (early.0, last.1 ∙ ap (λ (xs : List Token). xs ++ us) early.1 ∙ append_assoc a.writer.tokens ts us);
}

-- ---- of each of some values
module _ {X : Type 0} (tokens : X → List Token) where
  tokens_more : (xs : List X) (i : ℕ) (x : X) → i < length xs → x ≡ get_or xs i x → flat_map tokens (take (i + 1) xs) ≡ flat_map tokens (take i xs) ++ tokens x
  tokens_more xs i x lt is =
      ap (flat_map tokens) (take_more xs i x lt ∙ ap (λ (y : X). take i xs ++ y ∷ []) (sym is)) ∙ flat_map-append tokens (take i xs) (x ∷ [])
      ∙ ap (λ (t : List Token). flat_map tokens (take i xs) ++ t) (append-nil (tokens x))

  -- of one more
  pub Grows-more : {a b c : JsonText} (first : Token) (xs : List X) (i : ℕ) (x : X) → i < length xs → x ≡ get_or xs i x
      → Grows a b (first ∷ flat_map tokens (take i xs)) → Grows b c (tokens x) → Grows a c (first ∷ flat_map tokens (take (i + 1) xs))
  Grows-more {a} {b} {c} first xs i x lt is before more =
      subst (λ (ts : List Token). Grows a c (first ∷ ts)) (sym (tokens_more xs i x lt is)) (Grows-then before more)

-- those of all values between brackets are the list's
module _ {X : Type 0} (json : X → Json) where
  items_and_end : (xs : List X) → flat_map (λ x. json_tokens (json x)) xs ++ end_array ∷ [] ≡ items_tokens (items_of (map json xs))
  items_and_end [] = refl
  items_and_end (x ∷ xs) =
      append_assoc (json_tokens (json x)) (flat_map (λ y. json_tokens (json y)) xs) (end_array ∷ []) ∙ ap (λ (ts : List Token). json_tokens (json x) ++ ts) (items_and_end xs)

  pub list_tokens : (xs : List X) → begin_array ∷ (flat_map (λ x. json_tokens (json x)) xs ++ end_array ∷ []) ≡ json_tokens (list_of json xs)
  list_tokens xs = ap (λ (ts : List Token). begin_array ∷ ts) (items_and_end xs)

-- those of all members between braces are the object's
module _ {X : Type 0} (name : X → List ℕ) (json : X → Json) where
  members_and_end : (xs : List X) → flat_map (λ x. key (name x) ∷ json_tokens (json x)) xs ++ end_object ∷ [] ≡ members_tokens (members_of (map (λ x. (name x, json x)) xs))
  members_and_end [] = refl
  members_and_end (x ∷ xs) =
      ap (λ (ts : List Token). key (name x) ∷ ts) (append_assoc (json_tokens (json x)) (flat_map (λ y. key (name y) ∷ json_tokens (json y)) xs) (end_object ∷ [])
      ∙ ap (λ (ts : List Token). json_tokens (json x) ++ ts) (members_and_end xs))

  pub object_tokens : (xs : List X) → begin_object ∷ (flat_map (λ x. key (name x) ∷ json_tokens (json x)) xs ++ end_object ∷ []) ≡ json_tokens (object_of (map (λ x. (name x, json x)) xs))
  object_tokens xs = ap (λ (ts : List Token). begin_object ∷ ts) (members_and_end xs)

-- ---- interfaces by their numbers
pub Grows-numbered : (tokens : ℕ × Interface → List Token) {a b c : JsonText} (xs : List Interface) (i : ℕ) (x : Interface) → i < length xs → x ≡ get_or xs i x
    → Grows a b (begin_array ∷ flat_map tokens (take i (enumerate_from 0 xs))) → Grows b c (tokens (i, x))
    → Grows a c (begin_array ∷ flat_map tokens (take (i + 1) (enumerate_from 0 xs)))
Grows-numbered tokens {a} {b} {c} xs i x lt is before more =
    let front = take i (enumerate_from 0 xs) in
    subst (λ (ts : List Token). Grows a c (begin_array ∷ ts))
    (sym (ap (flat_map tokens) (take_numbered xs i x (element_at xs i x lt is)) ∙ flat_map-append tokens front ((i, x) ∷ [])
    ∙ ap (λ (ts : List Token). flat_map tokens front ++ ts) (append-nil (tokens (i, x)))))
    (Grows-then before more)

-- ---- rows of an interface
not_same : (a b : ℕ) → a ≢ b → (a == b) ≡ false
not_same a b other = elim (eqb_tells a b) [ inl same ↦ absurd (other same.1) | inr apart ↦ apart.0 ]

row_more : (iface : ℕ) (rows : List Neighbor) (i : ℕ) (row : Neighbor) → i < length rows → row ≡ get_or rows i row
    → rows_at iface (take (i + 1) rows) ≡ rows_at iface (take i rows) ++ cond (row.iface == iface) (row ∷ []) []
row_more iface rows i row lt is =
    filter_more (λ n. n.iface == iface) rows i row lt
    ∙ ap (λ (n : Neighbor). rows_at iface (take i rows) ++ cond (n.iface == iface) (n ∷ []) []) (sym is)

-- one that is not there
pub row_elsewhere : (iface : ℕ) (rows : List Neighbor) (i : ℕ) (row : Neighbor) → i < length rows → row ≡ get_or rows i row → row.iface ≢ iface
    → rows_at iface (take (i + 1) rows) ≡ rows_at iface (take i rows)
row_elsewhere iface rows i row lt is elsewhere =
    row_more iface rows i row lt is ∙ ap (λ (b : Bool). rows_at iface (take i rows) ++ cond b (row ∷ []) []) (not_same row.iface iface elsewhere) ∙ append-nil (rows_at iface (take i rows))

-- the tokens of one that is there behind those before
pub Grows-row : (tokens : Neighbor → List Token) {a b c : JsonText} (iface : ℕ) (rows : List Neighbor) (i : ℕ) (row : Neighbor) → i < length rows → row ≡ get_or rows i row
    → row.iface ≡ iface → Grows a b (begin_array ∷ flat_map tokens (rows_at iface (take i rows))) → Grows b c (tokens row)
    → Grows a c (begin_array ∷ flat_map tokens (rows_at iface (take (i + 1) rows)))
Grows-row tokens {a} {b} {c} iface rows i row lt is there before more =
    subst (λ (ts : List Token). Grows a c (begin_array ∷ ts))
    (sym (ap (flat_map tokens) (row_more iface rows i row lt is ∙ ap (λ (b : Bool). rows_at iface (take i rows) ++ cond b (row ∷ []) []) (eq-eqb row.iface iface there)) ∙ flat_map-append tokens (rows_at iface (take i rows)) (row ∷ [])
    ∙ ap (λ (ts : List Token). flat_map tokens (rows_at iface (take i rows)) ++ ts) (append-nil (tokens row))))
    (Grows-then before more)

-- ---- the whole
-- the object of a status, of what its parts are read from
abbrev pub status_parts : List Interface → ℕ → ℕ → Counts → Losses → List Neighbor → Tally → LinksSeen → Json
status_parts interfaces now routes counts lost rows others links =
    object_of
    ((codes "router", router_json now routes counts lost)
    ∷ (codes "links", list_of (link_json now rows links) (enumerate_from 0 interfaces))
    ∷ (codes "others", object_of (tally_members now others))
    ∷ [])

pub status_is : {interfaces xs : List Interface} {now n routes r : ℕ} {counts c : Counts} {rows : List Neighbor} {others : Tally} (lost : Losses) (heard : Neighbors) (links : LinksSeen)
    → interfaces ≡ xs → now ≡ n → routes ≡ r → counts ≡ c → rows ≡ heard.rows.items → others ≡ heard.others
    → status_parts interfaces now routes counts lost rows others links ≡ status_json xs n r c lost heard links
status_is lost heard links interfaces_are now_is routes_are counts_are rows_are others_are = rw (interfaces_are, now_is, routes_are, counts_are, rows_are, others_are) refl

-- a text that had nothing, and has a value's tokens, is the value's
pub whole_text : (a b : JsonText) (json : Json) (bytes : List ℕ) → a.writer.before ≡ [] → a.writer.tokens ≡ [] → Grows a b (json_tokens json) → IsWholeText b bytes
    → bytes ≡ text_of json
whole_text a b json bytes nothing none grows is =
    is.are ∙ ap (λ (old : List ℕ). old ++ print b.writer.tokens) (grows.before ∙ nothing)
    ∙ ap print ((grows.written is.unrefused).1 ∙ ap (λ (ts : List Token). ts ++ json_tokens json) none)

-- the same of a text that was taken whole, if it was
pub whole_of : {V : Type 0} (r : Option V) (items : V → List ℕ) (a b : JsonText) (json : Json) → a.writer.before ≡ [] → a.writer.tokens ≡ [] → Grows a b (json_tokens json)
    → IfSome r (λ text. IsWholeText b (items text)) → IfSome r (λ text. items text ≡ text_of json)
whole_of None items a b json nothing none grows whole = whole
whole_of (Some text) items a b json nothing none grows whole = whole_text a b json (items text) nothing none grows whole
