-- Texts of addresses and prefixes, as values of a table.
use Rattle.std.proofs.Common.{◌≡◌, ℕ, List, ◌∙◌, Option, Some, Ok, Err, Result, MatchOption, IsSomeAnd, Bor, option_map, ap, subst, sym}
use Rattle.toml.specs.Data.{Data, as_str}
use Rattle.toml.specs.View.{view}
use Rattle.toml.specs.declared.value.Value.{Value}
use Rattle.prefix6.specs.Prefix.{Prefix6}
use Rattle.prefix6.specs.Text.{ParsesAddr, ParsesPrefix, ReadsPrefix}
use Rattle.prefix6.specs.declared.error.PrefixError.{PrefixError}
use Rattle.ripngd_config.specs.Values.{IsAddress, IsPrefixValue}

pub address_read : (d : Data) (text : List ℕ) (r : Result ℕ PrefixError) (a : ℕ) → as_str d ≡ Some text → ParsesAddr text r → r ≡ Ok a → IsAddress d a
address_read d text r a got parses ok = rw got ((parses.reads a).0 ok)

pub prefix_read : (d : Data) (text : List ℕ) (r : Result Prefix6 PrefixError) (p : Prefix6) → as_str d ≡ Some text → ParsesPrefix text r → r ≡ Ok p → IsPrefixValue d p
prefix_read d text r p got parses ok = rw got ((parses.reads p).0 ok)

pub prefix_refused : (d : Data) (text : List ℕ) (r : Result Prefix6 PrefixError) (e : PrefixError) → as_str d ≡ Some text → ParsesPrefix text r → r ≡ Err e
    → IsSomeAnd (as_str d) (λ text. (p : Prefix6) → ¬ (ReadsPrefix text p))
prefix_refused d text r e got parses err = rw got (λ p reads. cc (sym err, (parses.reads p).1 reads))

-- what holds of the value that was found holds of the one at the key
pub match_at : (found : Option (Bor Value)) (value : Bor Value) (o : Option Data) (P : Type 0) (R : Data → Type 0) → option_map (λ v. view v.now) found ≡ o → found ≡ Some value → R (view value.now) → MatchOption o P R
match_at found value o P R seen is holds = subst (λ (o : Option Data). MatchOption o P R) (sym (ap (option_map (λ (v : Bor Value). view v.now)) is) ∙ seen) holds
