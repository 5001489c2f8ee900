-- The grammar of this crate beside std's: the same texts but for those with dots.
use Rattle.std.proofs.Common.{◌≡◌, ◌≢◌, ℕ, ◌<◌, ◌≤◌, Bool, true, false, List, [], ◌∷◌, ◌++◌, length, decimal, refl, sym, ap, ◌∙◌, subst, arith, inl, inr, append_assoc, append-nil}
use Rattle.std.specs.Char.{digit_value}
use Rattle.std.specs.Str.Parse.{AllDigits}
use Rattle.std.specs.Net.Grammar.{IsDotted, IsGroupsAfter, IsColonHex}
use Rattle.std.specs.Net.Text.{dotted_text}
use Rattle.prefix6.specs.Text.{AreGroups, ReadsAs}

-- no byte of the text is this one
abbrev pub Lacks : ℕ → List ℕ → Type 0
Lacks b [] = Unit {0}
Lacks b (c ∷ cs) = (c ≢ b) × Lacks b cs

pub Lacks-append : (b : ℕ) (xs ys : List ℕ) → Lacks b xs → Lacks b ys → Lacks b (xs ++ ys)
Lacks-append b [] ys h k = k
Lacks-append b (x ∷ xs) ys h k = (h.0, Lacks-append b xs ys h.1 k)

pub Lacks-left : (b : ℕ) (xs ys : List ℕ) → Lacks b (xs ++ ys) → Lacks b xs
Lacks-left b [] ys h = tt
Lacks-left b (x ∷ xs) ys h = (h.0, Lacks-left b xs ys h.1)

pub Lacks-right : (b : ℕ) (xs ys : List ℕ) → Lacks b (xs ++ ys) → Lacks b ys
Lacks-right b [] ys h = h
Lacks-right b (x ∷ xs) ys h = Lacks-right b xs ys h.1

-- a byte that is no digit stands in no numeral
pub Lacks-digits : (b radix : ℕ) (xs : List ℕ) → radix ≤ digit_value b → AllDigits radix xs → Lacks b xs
Lacks-digits b radix [] other h = tt
Lacks-digits b radix (x ∷ xs) other h =
    let differs : x ≢ b = λ same. let e = ap digit_value same in omega (arith, h.0) in
    (differs, Lacks-digits b radix xs other h.1)

-- groups hold a byte only if it is a colon or a hexadecimal digit
pub Lacks-groups : (b : ℕ) (groups text : List ℕ) → 58 ≢ b → 16 ≤ digit_value b → AreGroups text groups → Lacks b text
Lacks-groups b [] text colon other h = subst (Lacks b) (sym h) tt
Lacks-groups b (g ∷ []) text colon other h = Lacks-digits b 16 text other h.digits.1
Lacks-groups b (g ∷ n ∷ groups) text colon other h =
    let (first, rest, spelled, group, more) = h in
    let front : Lacks b (first ++ (58 ∷ [])) = Lacks-append b first _ (Lacks-digits b 16 first other group.digits.1) (colon, tt) in
    let whole = Lacks-append b _ rest front (Lacks-groups b (n ∷ groups) rest colon other more) in
    subst (Lacks b) (sym spelled) whole

pub Lacks-text : (b : ℕ) (text groups : List ℕ) → 58 ≢ b → 16 ≤ digit_value b → ReadsAs text groups → Lacks b text
Lacks-text b text groups colon other (inl h) = Lacks-groups b groups text colon other h.0
Lacks-text b text groups colon other (inr h) =
    let front = Lacks-append b h.front_text _ (Lacks-groups b h.front h.front_text colon other h.front_groups) (colon, (colon, tt)) in
    let whole = Lacks-append b _ h.back_text front (Lacks-groups b h.back h.back_text colon other h.back_groups) in
    subst (Lacks b) (sym h.spelled) whole

-- to std's grammar, whose groups stand after what leads them
to_groups_after : (ipv4 : Bool) (groups lead text : List ℕ) → 0 < length groups → AreGroups text groups → IsGroupsAfter ipv4 lead (lead ++ text) groups
to_groups_after ipv4 [] lead text some h = absurd (omega arith)
to_groups_after ipv4 (g ∷ []) lead text some h =
    inl (text, [], sym (append-nil (lead ++ text)), ((h.digits, h.value), h.short), refl)
to_groups_after ipv4 (g ∷ n ∷ groups) lead text some h =
    let (first, rest, spelled, group, more) = h in
    let later = to_groups_after ipv4 (n ∷ groups) (58 ∷ []) rest (omega arith) more in
    let split : lead ++ text ≡ lead ++ first ++ (58 ∷ rest) = ap (λ t. lead ++ t) spelled ∙ simp append_assoc in
    inl (first, 58 ∷ rest, split, ((group.digits, group.value), group.short), later)

to_groups : (ipv4 : Bool) (groups text : List ℕ) → AreGroups text groups → IsGroupsAfter ipv4 [] text groups
to_groups ipv4 [] text h = h
to_groups ipv4 (g ∷ groups) text h = to_groups_after ipv4 (g ∷ groups) [] text (omega arith) h

pub to_colon_hex : (text groups : List ℕ) → ReadsAs text groups → IsColonHex text groups
to_colon_hex text groups (inl h) = inl (to_groups true groups text h.0, h.1)
to_colon_hex text groups (inr h) = inr (record {
  head_text = h.front_text;
  tail_text = h.back_text;
  head = h.front;
  tail = h.back;
  spelled = h.spelled;
  head_groups = to_groups false h.front h.front_text h.front_groups;
  tail_groups = to_groups true h.back h.back_text h.back_groups;
  room = h.missing;
  value = h.value;
})

-- an IPv4 address has a dot
dotted_has_dot : (text octets : List ℕ) → IsDotted text octets → ¬ (Lacks 46 text)
dotted_has_dot text octets h lacks =
    let all : Lacks 46 (dotted_text h.a h.b h.c h.d) = subst (Lacks 46) h.spelled lacks in
    let dot = Lacks-right 46 (decimal h.a) _ (Lacks-left 46 _ (decimal h.b) (Lacks-left 46 _ (46 ∷ []) (Lacks-left 46 _ (decimal h.c) (Lacks-left 46 _ (46 ∷ []) (Lacks-left 46 _ (decimal h.d) all))))) in
    dot.0 refl

-- and back: without dots the groups after what leads them are groups
from_groups_after : (ipv4 : Bool) (g : ℕ) (groups lead text : List ℕ) → Lacks 46 text → IsGroupsAfter ipv4 lead text (g ∷ groups) → (own : List ℕ) × (text ≡ lead ++ own) × AreGroups own (g ∷ groups)
from_groups_after ipv4 g groups lead text lacks (inr h) =
    let (last, octets, allowed, split, dotted, value) = h in
    absurd (dotted_has_dot last octets dotted (Lacks-right 46 lead last (subst (Lacks 46) split lacks)))
from_groups_after ipv4 g [] lead text lacks (inl h) =
    let (group, rest, split, is_group, more) = h in
    let whole : text ≡ lead ++ group = split ∙ ap (λ t. lead ++ group ++ t) more ∙ append-nil (lead ++ group) in
    (group, whole, record { digits = is_group.0.0; short = is_group.1; value = is_group.0.1 })
from_groups_after ipv4 g (n ∷ groups) lead text lacks (inl h) =
    let (group, rest, split, is_group, more) = h in
    let (own, led, are) = from_groups_after ipv4 n groups (58 ∷ []) rest (Lacks-right 46 (lead ++ group) rest (subst (Lacks 46) split lacks)) more in
    let whole : text ≡ lead ++ (group ++ (58 ∷ []) ++ own) = split ∙ ap (λ t. lead ++ group ++ t) led ∙ simp append_assoc in (
      group ++ (58 ∷ []) ++ own,
      whole,
      (group, own, refl, record { digits = is_group.0.0; short = is_group.1; value = is_group.0.1 }, are),
    )

from_groups : (ipv4 : Bool) (groups text : List ℕ) → Lacks 46 text → IsGroupsAfter ipv4 [] text groups → AreGroups text groups
from_groups ipv4 [] text lacks h = h
from_groups ipv4 (g ∷ groups) text lacks h =
    let (own, whole, are) = from_groups_after ipv4 g groups [] text lacks h in
    subst (λ t. AreGroups t (g ∷ groups)) (sym whole) are

pub from_colon_hex : (text groups : List ℕ) → Lacks 46 text → IsColonHex text groups → ReadsAs text groups
from_colon_hex text groups lacks (inl h) = inl (from_groups true groups text lacks h.0, h.1)
from_colon_hex text groups lacks (inr h) =
    let whole = subst (Lacks 46) h.spelled lacks in
    inr (record {
      front_text = h.head_text;
      back_text = h.tail_text;
      front = h.head;
      back = h.tail;
      spelled = h.spelled;
      front_groups = from_groups false h.head h.head_text (Lacks-left 46 h.head_text _ (Lacks-left 46 (h.head_text ++ (58 ∷ 58 ∷ [])) h.tail_text whole)) h.head_groups;
      back_groups = from_groups true h.tail h.tail_text (Lacks-right 46 (h.head_text ++ (58 ∷ 58 ∷ [])) h.tail_text whole) h.tail_groups;
      missing = h.room;
      value = h.value;
    })
