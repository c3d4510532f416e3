-- What is cut of a body at its first opening parenthesis.
use Rattle.std.proofs.Common.{◌≡◌, ℕ, ◌+◌, ◌-◌, ◌^◌, ◌<◌, ◌≤◌, Bool, true, false, not, cond, List, [], ◌∷◌, ◌++◌, length, length-append, length-take, take, drop, Some, refl, sym, ap, ◌∙◌, subst, arith}
use Rattle.std.proofs.lemmas.List.{take_rest}
use Rattle.std.specs.List.{position_or_len, before_first, after_first}
use Rattle.deb_version.specs.Parts.{Meaning as VersionMeaning}
use Rattle.deb_version.specs.Grammar.{SpellsVersion}
use Rattle.deb_version.specs.Canonical.{version_text}
use Rattle.deb_version.proofs.CanonicalTexts.{canonical_text_is_short}
use Rattle.deb_base.proofs.Trims.{trailing_cut, trimmed_cut}
use Rattle.deb_field.specs.Sources.{SourceMeaning, source_of, SpellsSource, source_text, is_open, has_version, is_closed, without_last}
use Rattle.deb_field.specs.SourceNames.{ReadsAround}
use Rattle.deb_field.specs.SourceLaws.{spells_versioned}
use Rattle.deb_base.specs.Trimming.{without_trailing_blanks, trimmed}
use Rattle.deb_base.specs.PackageNames.{is_package_name}

none-step : (b : ℕ) (bs : List ℕ) (found : Bool) → is_open b ≡ found → (position_or_len is_open bs ≡ length bs → has_version bs ≡ false) → position_or_len is_open (b ∷ bs) ≡ length (b ∷ bs) → has_version (b ∷ bs) ≡ false
none-step b bs true h rest e = absurd (omega (arith, ap (λ t. cond (not t) (1 + position_or_len is_open bs) 0) h, e))
none-step b bs false h rest e =
    let at = ap (λ t. cond (not t) (1 + position_or_len is_open bs) 0) h in
    rw h (rest (omega (arith, at, e)))

pub open-none : (body : List ℕ) → position_or_len is_open body ≡ length body → has_version body ≡ false
open-none [] e = refl
open-none (b ∷ bs) e = none-step b bs (is_open b) refl (open-none bs) e

some-step : (b : ℕ) (bs : List ℕ) (found : Bool) → is_open b ≡ found → ((position_or_len is_open bs ≡ length bs → ⊥) → has_version bs ≡ true) → (position_or_len is_open (b ∷ bs) ≡ length (b ∷ bs) → ⊥) → has_version (b ∷ bs) ≡ true
some-step b bs true h rest e = rw h refl
some-step b bs false h rest e =
    let at = ap (λ t. cond (not t) (1 + position_or_len is_open bs) 0) h in
    rw h (rest (λ f. e (omega (arith, at, f))))

pub open-some : (body : List ℕ) → (position_or_len is_open body ≡ length body → ⊥) → has_version body ≡ true
open-some [] e = absurd (e refl)
open-some (b ∷ bs) e = some-step b bs (is_open b) refl (open-some bs) e

pub cut-before : (body : List ℕ) (at : ℕ) → at ≡ position_or_len is_open body → take at body ≡ before_first is_open body
cut-before body at e = ap (λ n. take n body) e

pub cut-behind : (body : List ℕ) (at : ℕ) → at ≡ position_or_len is_open body → take (length body - (at + 1)) (drop (at + 1) body) ≡ after_first is_open body
cut-behind body at e = take_rest body (at + 1) ∙ ap (λ n. drop (n + 1) body) e

-- what is read around the parenthesis is the body's
module _ (body before behind : List ℕ) (has : has_version body ≡ true) (before_is : before ≡ before_first is_open body) (behind_is : behind ≡ after_first is_open body) where
  pub spells-around : (m : SourceMeaning) → ReadsAround before behind m → SpellsSource body m
  spells-around m a =
      subst (SpellsSource body) (sym (a.is ∙ ap (λ t. source_of (without_trailing_blanks t) (Some a.version)) before_is))
      (spells_versioned body has
      (subst (λ t. is_package_name (without_trailing_blanks t) ≡ true) before_is a.named)
      (subst (λ t. is_closed t ≡ true) behind_is a.closed)
      a.version
      (subst (λ t. SpellsVersion (trimmed (without_last t)) a.version) behind_is a.versioned))

trailing-short : (text : List ℕ) → length (without_trailing_blanks text) ≤ length text
trailing-short text = let p = trailing_cut text in omega (arith, ap length p.is, length-append (without_trailing_blanks text) p.cut)

trimmed-short : (text : List ℕ) → length (trimmed text) ≤ length text
trimmed-short text =
    let p = trimmed_cut text in
    omega (arith, ap length p.is, length-append p.before (trimmed text ++ p.after), length-append (trimmed text) p.after)

closed-some : (text : List ℕ) → is_closed text ≡ true → 1 ≤ length text
closed-some [] h = cc
closed-some (b ∷ bs) h = omega arith

last-short : (text : List ℕ) → 1 ≤ length text → length (without_last text) + 1 ≡ length text
last-short text some = omega (arith, length-take (length text - 1) text)

-- the canonical text of a source that was read has a length that fits in 64 bits
pub source-short : (before behind name last text : List ℕ) (version : VersionMeaning) → length before + length behind < 2 ^ 63 → is_closed behind ≡ true → name ≡ without_trailing_blanks before → last ≡ without_last behind → text ≡ trimmed last → SpellsVersion text version
    → length (source_text (source_of name (Some version))) < 2 ^ 64
source-short before behind name last text version small closed name_is last_is text_is s =
    omega (
      arith,
      small,
      canonical_text_is_short text version s,
      trailing-short before,
      ap length name_is,
      trimmed-short last,
      ap length text_is,
      ap length last_is,
      closed-some behind closed,
      last-short behind (closed-some behind closed),
      length-append name (32 ∷ 40 ∷ (version_text version ++ 41 ∷ [])),
      length-append (version_text version) (41 ∷ []),
    )
