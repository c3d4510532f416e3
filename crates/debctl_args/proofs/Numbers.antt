-- Words that are numbers, by what `parse` reads of them.
use Rattle.std.proofs.Common.{◌≡◌, ℕ, ◌<◌, ◌^◌, ◌&&◌, Bool, true, false, List, Some, None, Result, Ok, refl, sym, ap, ap₂, ◌∙◌, subst}
use Rattle.std.specs.Prelude.{if◌then◌else◌, nat_lt, bytes_eq}
use Rattle.std.specs.Fmt.{decimal}
use Rattle.std.specs.Str.Parse.{digits_value, ParsesUnsigned}
use Rattle.std.proofs.lemmas.Bool.{lt-ltb, ltb-true}
use Rattle.std.proofs.lemmas.Fmt.{decimal_is_IsNumeral, parse-decimal}
use Rattle.std.proofs.lemmas.Slice.Eq.{bytes_eq-Decides}
use Rattle.debctl_args.specs.AskedWords.{number_named}

-- a word that is what is printed of a number
pub is_number : (word : List ℕ) (n : ℕ) → n < 2 ^ 64 → word ≡ decimal n → Some n ≡ number_named word
is_number word n small is =
    let value : digits_value 10 word ≡ n = ap (digits_value 10) is ∙ (decimal_is_IsNumeral n small).1 in
    let spelled : bytes_eq word (decimal (digits_value 10 word)) ≡ true = (bytes_eq-Decides word (decimal (digits_value 10 word))).1 (is ∙ ap decimal (sym value)) in
    let below : nat_lt (digits_value 10 word) (2 ^ 64) ≡ true = lt-ltb (digits_value 10 word) (2 ^ 64) (subst (λ v. v < 2 ^ 64) (sym value) small) in
    sym (ap (λ t. if t then Some (digits_value 10 word) else None) (ap₂ (λ a b. a && b) spelled below) ∙ ap Some value)

-- and any other
pub is_none : {E : Type 0} (word : List ℕ) (r : Result ℕ E) → ParsesUnsigned 64 10 word r → ((n : ℕ) → r ≡ Ok n → word ≡ decimal n → ⊥) → None ≡ number_named word
is_none word r parses other = go (bytes_eq word (decimal (digits_value 10 word))) (nat_lt (digits_value 10 word) (2 ^ 64)) refl refl
  where
    go : (a b : Bool) → bytes_eq word (decimal (digits_value 10 word)) ≡ a → nat_lt (digits_value 10 word) (2 ^ 64) ≡ b → None ≡ (if a && b then Some (digits_value 10 word) else None)
    go true true spelled below =
        let is = (bytes_eq-Decides word (decimal (digits_value 10 word))).0 spelled in
        let small = ltb-true (digits_value 10 word) (2 ^ 64) below in
        absurd (other (digits_value 10 word) (parse-decimal 64 (digits_value 10 word) word r small small is parses) is)
    go true false spelled below = refl
    go false true spelled below = refl
    go false false spelled below = refl
