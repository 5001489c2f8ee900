-- Texts that grow, token by token.
use Rattle.std.proofs.Common.{◌≡◌, ◌∙◌, ℕ, false, refl, ap, List, [], ◌∷◌, ◌++◌, map, flat_map, append_assoc}
use Rattle.json.specs.Json.{Json}
use Rattle.json.specs.Print.{print}
use Rattle.json.specs.Token.{Token, begin_array, end_array}
use Rattle.json.specs.Tree.{items_tokens, json_tokens}
use Rattle.ripng_trace.specs.Growing.{Grows}
use Rattle.ripng_trace.specs.Json.{items_of, list_of, text_of}
use Rattle.ripng_trace.specs.declared.to_json.JsonText.{JsonText}

-- some tokens, and then others
pub Grows-then : {a b c : JsonText} {ts us : List Token} → Grows a b ts → Grows b c us → Grows a c (ts ++ us)
Grows-then {a} {b} {c} {ts} {us} first rest = record {
  before = rest.before ∙ first.before;
  written = λ not_refused.
      let last = rest.written not_refused in
      let early = first.written last.0 in
      (early.0, last.1 ∙ ap (λ (xs : List Token). xs ++ us) early.1 ∙ append_assoc a.writer.tokens ts us);
}

-- those of all values between brackets are the list's
module _ {X : Type 0} (json : X → Json) where
  items_and_end : (xs : List X) → flat_map (λ x. json_tokens (json x)) xs ++ end_array ∷ [] ≡ items_tokens (items_of (map json xs))
  items_and_end [] = refl
  items_and_end (x ∷ xs) =
      append_assoc (json_tokens (json x)) (flat_map (λ y. json_tokens (json y)) xs) (end_array ∷ []) ∙ ap (λ (ts : List Token). json_tokens (json x) ++ ts) (items_and_end xs)

  pub list_tokens : (xs : List X) → begin_array ∷ (flat_map (λ x. json_tokens (json x)) xs ++ end_array ∷ []) ≡ json_tokens (list_of json xs)
  list_tokens xs = ap (λ (ts : List Token). begin_array ∷ ts) (items_and_end xs)

-- a text that had nothing, and has a value's tokens, is the value's
pub whole_text : (a b : JsonText) (json : Json) (bytes : List ℕ) → a.writer.before ≡ [] → a.writer.tokens ≡ [] → Grows a b (json_tokens json)
    → (b.refused ≡ false) × (bytes ≡ b.writer.before ++ print b.writer.tokens) → bytes ≡ text_of json
whole_text a b json bytes nothing none grows is =
    is.1 ∙ ap (λ (old : List ℕ). old ++ print b.writer.tokens) (grows.before ∙ nothing)
    ∙ ap print ((grows.written is.0).1 ∙ ap (λ (ts : List Token). ts ++ json_tokens json) none)
