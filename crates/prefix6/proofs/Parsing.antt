-- What the readers of texts answer, from what std's parser answers and from the parts of a text.
use Rattle.std.proofs.Common.{◌≡◌, ℕ, ◌+◌, ◌≤◌, ◌==◌, true, false, List, [], ◌∷◌, ◌++◌, length, get_or, drop, Result, Ok, Err, IsOk, IfOk, refl, sym, ap, ◌∙◌, ◌↔◌, subst, arith, inl, inr, append_assoc, eq-eqb, ne_eqb, true≢false, take_at, drop_at, length-append, length-drop}
use Rattle.std.proofs.lemmas.Bool.{cases_eq, cases_lt, eqb-true}
use Rattle.std.proofs.lemmas.List.Sums.{passes_at_first, split_at_first}
use Rattle.std.specs.List.{list_any, position_or_len}
use Rattle.std.specs.declared.net.ipv6_addr.Ipv6Addr.{Ipv6Addr}
use Rattle.std.specs.Net.Addr.{ipv6_segments, ipv6_bits}
use Rattle.std.specs.Net.Grammar.{IsIpv6Text}
use Rattle.prefix6.specs.declared.error.PrefixError.{PrefixError}
use Rattle.prefix6.specs.declared.error.PrefixError.TheVariants.{BadAddressText, BadLengthText}
use Rattle.prefix6.specs.Addr.{groups_of}
use Rattle.prefix6.specs.Prefix.{Prefix6, cleared}
use Rattle.prefix6.specs.Text.{ReadsAs, Reads, ReadsPrefix, IsLengthText, address_part, length_part, HasNoAddress, ParsesAddr, ParsesPrefix}
use Rattle.prefix6.proofs.Grammar.{Lacks, Lacks-text, to_colon_hex, from_colon_hex}
use Rattle.prefix6.proofs.Groups.{address_of, address_of-lt, groups_of-address_of, from_segments}
use Rattle.prefix6.proofs.Values.{Reads_unique, read_groups-eight, read_groups-fit}
use Rattle.prefix6.proofs.PrefixTexts.{no_slash, ReadsPrefix_unique}

-- the answer Ok of the one value with the property, or no Ok where none has it
module _ {A E : Type 0} (P : A → Type 0) where
  pub none_ok : (e : E) → ((a : A) → ¬ (P a)) → (a : A) → (let r : Result A E = Err e in r ≡ Ok a) ↔ P a
  none_ok e none a = (λ same. cc, λ h. absurd (none a h))

  pub one_ok : (b : A) → P b → ((x y : A) → P x → P y → x ≡ y) → (a : A) → (let r : Result A E = Ok b in r ≡ Ok a) ↔ P a
  one_ok b h unique a = (λ same. let e : b ≡ a = cc in subst P e h, λ k. ap Ok (unique b a h k))

  -- such an answer of Err says that none has it
  pub none_has : (e : E) → ((a : A) → (let r : Result A E = Err e in r ≡ Ok a) ↔ P a) → (a : A) → ¬ (P a)
  none_has e answers a h = let same = (answers a).1 h in cc

has_none : (b : ℕ) (xs : List ℕ) → Lacks b xs → list_any (λ y. y == b) xs ≡ false
has_none b [] h = refl
has_none b (x ∷ xs) h = rw (ne_eqb x b h.0) (has_none b xs h.1)

lacks : (b : ℕ) (xs : List ℕ) → list_any (λ y. y == b) xs ≡ false → Lacks b xs
lacks b [] h = tt
lacks b (x ∷ xs) h =
    elim (cases_eq x b) [
      | inl same ↦ absurd (true≢false (rw (eq-eqb x b same) at h))
      | inr other ↦ (other, lacks b xs (rw (ne_eqb x b other) at h))
    ]

-- where no address is read, refusal 2 is the answer
refuses : (text : List ℕ) → ((a : ℕ) → ¬ (Reads text a)) → ParsesAddr text (Err BadAddressText)
refuses text none = record { reads = none_ok (Reads text) _ none; refused = refl }

-- a text with a dot reads as no address
pub refuses_dots : (text : List ℕ) → list_any (λ y. y == 46) text ≡ true → ParsesAddr text (Err BadAddressText)
refuses_dots text dot =
    refuses text (λ a h. true≢false (sym dot ∙ has_none 46 text (Lacks-text 46 text _ (omega arith) (omega arith) h.groups)))

-- what std reads of a text without dots
reads_std : (text : List ℕ) (addr : Ipv6Addr) (n : ℕ) → list_any (λ y. y == 46) text ≡ false → IsIpv6Text text addr → n ≡ ipv6_bits addr → Reads text n
unfolding ipv6_bits
reads_std text addr n none h is =
    let groups : ReadsAs text (ipv6_segments addr) = from_colon_hex text (ipv6_segments addr) (lacks 46 text none) h in
    let eight = read_groups-eight text (ipv6_segments addr) groups in
    let fits = read_groups-fit text (ipv6_segments addr) groups in
    let number : n ≡ address_of (ipv6_segments addr) = is ∙ from_segments (ipv6_segments addr) eight in
    subst (Reads text) (sym number) (record {
      in_range = address_of-lt (ipv6_segments addr) fits;
      groups = subst (ReadsAs text) (sym (groups_of-address_of (ipv6_segments addr) eight fits)) groups;
    })

pub takes_std : (text : List ℕ) (addr : Ipv6Addr) (n : ℕ) → list_any (λ y. y == 46) text ≡ false → IsIpv6Text text addr → n ≡ ipv6_bits addr → ParsesAddr text (Ok n)
takes_std text addr n none h is = record { reads = one_ok (Reads text) n (reads_std text addr n none h is) (Reads_unique text); refused = tt }

-- where std reads no address there is none
pub refuses_std : (text : List ℕ) → ((addr : Ipv6Addr) → ¬ (IsIpv6Text text addr)) → ParsesAddr text (Err BadAddressText)
refuses_std text none =
    refuses text (λ a h. none (record { segments = groups_of a }) (to_colon_hex text (groups_of a) h.groups))

-- the first slash of a text is the one after the address
first_at : (b : ℕ) (xs ys : List ℕ) → Lacks b xs → position_or_len (λ c. c == b) (xs ++ (b ∷ ys)) ≡ length xs
first_at b [] ys h = rw (eq-eqb b b refl) refl
first_at b (x ∷ xs) ys h = rw (ne_eqb x b h.0) (omega (arith, first_at b xs ys h.1))

-- a prefix text has its parts round the first slash
pub prefix_parts : (text : List ℕ) (p : Prefix6) (h : ReadsPrefix text p) → Reads (address_part text) h.addr × IsLengthText (length_part text) p.len
prefix_parts text p h =
    let split : text ≡ h.addr_text ++ (47 ∷ h.len_text) = h.spelled ∙ append_assoc h.addr_text (47 ∷ []) h.len_text in
    let place = first_at 47 h.addr_text h.len_text (no_slash h.addr_text h.addr h.reads) in
    let front : address_part text ≡ h.addr_text = rw split (take_at h.addr_text (47 ∷ h.len_text) _ (sym place)) in
    let past : length (h.addr_text ++ (47 ∷ [])) ≡ position_or_len (λ c. c == 47) text + 1 = rw split (omega (arith, length-append h.addr_text (47 ∷ []), place)) in
    let back : length_part text ≡ h.len_text = ap (drop (position_or_len (λ c. c == 47) text + 1)) h.spelled ∙ drop_at (h.addr_text ++ (47 ∷ [])) h.len_text _ past in
    (subst (λ t. Reads t h.addr) (sym front) h.reads, subst (λ t. IsLengthText t p.len) (sym back) h.len)

pub no_address : (text : List ℕ) → HasNoAddress text → ParsesPrefix text (Err BadAddressText)
no_address text none = record {
  reads = none_ok (ReadsPrefix text) _ (λ p h. none h.addr (prefix_parts text p h).0);
  bad_address = (λ same. none, λ h. refl);
  bad_length = (λ same. cc, λ h. absurd (none h.0.0 h.0.1));
  no_other = λ same. cc;
}

pub no_length : (text : List ℕ) (a : ℕ) → Reads (address_part text) a → ((len : ℕ) → ¬ (IsLengthText (length_part text) len)) → ParsesPrefix text (Err BadLengthText)
no_length text a h none = record {
  reads = none_ok (ReadsPrefix text) _ (λ p k. none p.len (prefix_parts text p k).1);
  bad_address = (λ same. cc, λ k. absurd (k a h));
  bad_length = (λ same. ((a, h), none), λ k. refl);
  no_other = λ same. cc;
}

-- a length stands only after a slash
parted : (text : List ℕ) (len : ℕ) → IsLengthText (length_part text) len → text ≡ address_part text ++ (47 ∷ []) ++ length_part text
parted text len h =
    let first = position_or_len (λ c. c == 47) text in
    elim (cases_lt first (length text)) [
      | inl inside ↦
          let slash : get_or text first 0 ≡ 47 = eqb-true (get_or text first 0) 47 (passes_at_first (λ c. c == 47) text 0 inside) in
          split_at_first (λ c. c == 47) text 0 inside ∙ ap (λ c. address_part text ++ (c ∷ length_part text)) slash ∙ sym (append_assoc (address_part text) (47 ∷ []) (length_part text))
      | inr none ↦ absurd (omega (arith, h.digits, length-drop (first + 1) text))
    ]

pub a_prefix : (text : List ℕ) (a len : ℕ) → Reads (address_part text) a → IsLengthText (length_part text) len → ParsesPrefix text (Ok (cleared a len))
a_prefix text a len h k =
    let reads : ReadsPrefix text (cleared a len) = record {
      addr_text = address_part text;
      len_text = length_part text;
      addr = a;
      spelled = parted text len k;
      reads = h;
      len = k;
      value = refl;
    } in
    record {
      reads = one_ok (ReadsPrefix text) _ reads (ReadsPrefix_unique text);
      bad_address = (λ same. cc, λ none. absurd (none a h));
      bad_length = (λ same. cc, λ none. absurd (none.1 len k));
      no_other = λ same. cc;
    }

-- at a lawful length the prefix is made
pub is_made : (r : Result Prefix6 PrefixError) (a len : ℕ) → len ≤ 128 → IsOk r ↔ (len ≤ 128) → IfOk r (λ p. p ≡ cleared a len) → r ≡ Ok (cleared a len)
is_made (Ok p) a len short made is = ap Ok is
is_made (Err e) a len short made is = let ok : IsOk {T = Prefix6} {E = PrefixError} (Err e) = made.1 short in absurd (true≢false (sym ok))
