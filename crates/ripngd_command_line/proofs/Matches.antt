-- What the matches of a parse say of the subcommand that was met.
use Rattle.std.proofs.Common.{◌≡◌, ◌∙◌, [], inl, ap, ap₂, sym, refl, ℕ, Bool, true, false, List, Option, Some, None, Result, Ok, codes, subst, arith, slice_index}
use Rattle.std.specs.Prelude.{IsTrue, ◌↔◌, IfOk, IfSome, Box, option_map, unwrap_or}
use Rattle.std.specs.Str.Parse.{ParsesBool}
use Rattle.std.specs.Box.{box_value}
use Rattle.std.specs.Option.{ok_or}
use Rattle.clap.specs.Kinds.{FailsBy, Kinds}
use Rattle.clap.specs.Simple.{subcommand_rows, subcommand_rows_of}
use Rattle.clap.specs.Values.{kind_of}
use Rattle.clap.specs.declared.error.Error.{Error}
use Rattle.clap.specs.declared.error.kind.ErrorKind.TheVariants.{OutOfMemory}
use Rattle.clap.specs.declared.parser.matches.ArgMatches.{ArgMatches}
use Rattle.clap.specs.declared.parser.matches.ArgMatches.TheViews.{out-ArgMatches, out-SubCommand}
use Rattle.clap.specs.declared.parser.matches.SubCommand.{SubCommand}
use Rattle.clap.specs.Walk.{Row, Text, rows_of}
use Rattle.clap.specs.Matches.{ReadsOne, found_of, one_text, subcommand_name_of}
use Rattle.clap.specs.declared.parser.matches.Found.{Found}
use Rattle.clap.proofs.WalkLemmas.{one_text-rows}
use Rattle.ripngd_command_line.specs.Asked.{HasNumber, IsSet, decimal_value}

-- what a getter of numbers reads is the number of the argument's text
module _ {E : Type 0} (gives : List ℕ → Result ℕ E → Type 0) (reads : (t : List ℕ) (n : ℕ) → gives t (Ok n) → n ≡ decimal_value t) where
  number_at : (o : Option Text) (r : Option ℕ) → (o ≡ None → r ≡ None) → ((t : List ℕ) → o ≡ Some t → ReadsOne gives t r)
      → IfSome r (λ n. (t : Text) × (o ≡ Some t) × (decimal_value t ≡ n))
  number_at o None none value = tt
  number_at None (Some n) none value = absurd (let bad = none refl in cc bad)
  number_at (Some t) (Some n) none value = (t, refl, sym (reads t n (value t refl)))

  pub number_read : (f : Found) (id : Text) (r : Option ℕ) → (one_text f id ≡ None → r ≡ None) → ((t : List ℕ) → one_text f id ≡ Some t → ReadsOne gives t r)
      → IfSome r (HasNumber (rows_of f) id)
  number_read f id r none value =
      subst (λ (o : Option Text). IfSome r (λ n. (t : Text) × (o ≡ Some t) × (decimal_value t ≡ n))) (one_text-rows f id) (number_at (one_text f id) r none value)

-- what a getter of flags reads is whether the flag was given
flag_at : (E : Type 0) (o : Option Text) (r : Option Bool) → (o ≡ None → r ≡ None) → ((t : List ℕ) → o ≡ Some t → ReadsOne (ParsesBool {E = E}) t r)
    → IsTrue (unwrap_or r false) ↔ (o ≡ Some (codes "true"))
flag_at E None (Some b) none value = absurd (let bad = none refl in cc bad)
flag_at E None None none value = (λ h. absurd (cc h), λ h. absurd (cc h))
flag_at E (Some t) None none value = (λ h. absurd (cc h), λ h. absurd (let is : t ≡ codes "true" = cc h in (value t refl).1.0 is))
flag_at E (Some t) (Some true) none value = (λ h. ap (λ (x : Text). Some x) (value t refl), λ h. refl)
flag_at E (Some t) (Some false) none value =
    let is_false : t ≡ codes "false" = value t refl in (
      λ h. absurd (cc h),
      λ h. absurd (
          let is_true : t ≡ codes "true" = cc h in
          let heads : 102 ≡ 116 = ap (λ (x : Text). slice_index x 0) (sym is_false ∙ is_true) in
          omega arith
          ),
    )

pub flag_read : (E : Type 0) (f : Found) (id : Text) (r : Option Bool) → (one_text f id ≡ None → r ≡ None) → ((t : List ℕ) → one_text f id ≡ Some t → ReadsOne (ParsesBool {E = E}) t r)
    → IsTrue (unwrap_or r false) ↔ IsSet (rows_of f) id
flag_read E f id r none value =
    subst (λ (o : Option Text). IsTrue (unwrap_or r false) ↔ (o ≡ Some (codes "true"))) (one_text-rows f id) (flag_at E (one_text f id) r none value)

-- a subcommand by its name and by its rows is the pair of both
paired : {Z : Type 0} (sub : Option (Box SubCommand Z)) (name : Text) (rows : List Row) → Some name ≡ option_map (λ b. (out-SubCommand (box_value b)).name.now) sub
    → Some rows ≡ option_map (λ p. p.1) (subcommand_rows sub) → subcommand_rows sub ≡ Some (name, rows)
paired None name rows by_name by_rows = absurd (cc by_name)
paired (Some b) name rows by_name by_rows =
    let n : (out-SubCommand (box_value b)).name.now ≡ name = cc by_name in
    let r : rows_of (found_of (out-SubCommand (box_value b)).matches) ≡ rows = cc by_rows in
    ap₂ (λ (x : Text) (y : List Row). Some (x, y)) n r

-- the subcommand of the matches, by its name and by its rows
pub subcommand_met : (m : ArgMatches) (name : Text) (rows : List Row) → Some name ≡ subcommand_name_of m
    → Some rows ≡ option_map (λ p. p.1) (subcommand_rows (out-ArgMatches m).subcommand) → subcommand_rows_of m ≡ Some (name, rows)
subcommand_met m name rows by_name by_rows = paired (out-ArgMatches m).subcommand name rows by_name by_rows

-- what holds of a value holds where `ok_or` gives it
pub IfOk-ok_or : {X E : Type 0} (o : Option X) (e : E) (P Q : X → Type 0) → ((x : X) → P x → Q x) → IfSome o P → IfOk (ok_or o e) Q
IfOk-ok_or None e P Q then h = tt
IfOk-ok_or (Some x) e P Q then h = then x h

-- where the words have no fault, want of memory is the one error
pub fails_by_memory : {X : Type 0} (o : Option X) (e : Error) (kinds : Kinds) → kinds ≡ [] → kind_of e ≡ OutOfMemory → FailsBy kinds (ok_or o e)
fails_by_memory None e kinds none memory = inl memory
fails_by_memory (Some x) e kinds none memory = none

-- a value has what follows from what it has
pub IfSome-weaker : {X : Type 0} (o : Option X) (P Q : X → Type 0) → ((x : X) → P x → Q x) → IfSome o P → IfSome o Q
IfSome-weaker None P Q then h = tt
IfSome-weaker (Some x) P Q then h = then x h
