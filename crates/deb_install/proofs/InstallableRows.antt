-- A package is installable exactly if its number is in a set that is healthy by rows.
use Rattle.std.proofs.Common.{◌≡◌, ℕ, ◌+◌, ◌<◌, ◌≤◌, ltb, Bool, true, false, ◌&&◌, List, length, refl, sym, ◌∙◌, arith}
use Rattle.std.proofs.lemmas.Bool.{and_from, and_parts, lt-ltb, ltb-true}
use Rattle.deb_relation.specs.Applying.{Environment}
use Rattle.deb_control.specs.Documents.{Meaning}
use Rattle.deb_control.specs.Pairs.{Pairwise}
use Rattle.deb_control.specs.ValueFiles.{ValueEntries}
use Rattle.deb_field.specs.Values.{ValueMeaning}
use Rattle.deb_control.proofs.GivenValues.{pairwise-length}
use Rattle.deb_index.specs.Listed.{Listed}
use Rattle.deb_index.specs.Listing.{Lists}
use Rattle.deb_install.specs.Buildable.{IsBuildable, can_build, may_build}
use Rattle.deb_install.specs.Installable.{IsInstallable, is_healthy_by_terms, is_healthy_in}
use Rattle.deb_install.specs.Laws.{RowsDecide, StoredRowsDecide}
use Rattle.deb_install.specs.Members.{HasHealthySet, IsHealthyByRows, members_of}
use Rattle.deb_install.specs.Rows.{AreRowsOf}
use Rattle.deb_install.specs.Terms.{Terms, is_allowed}
use Rattle.deb_install.specs.declared.readings.Readings.{Readings}
use Rattle.deb_install.proofs.ListedNumbers.{exclusions-listed}
use Rattle.deb_install.proofs.StoredRows.{healthy-stored, stored-healthy}
use Rattle.deb_install.proofs.Sets.{members-same}
use Rattle.deb_install.proofs.TermRows.{terms_by_rows, terms_from_rows}

-- the numbers of a set that name one of so many packages
abbrev pub only : ℕ → (ℕ → Bool) → ℕ → Bool
only count set number = set number && (ltb 0 number && ltb number (count + 1))

and-true : (b v : Bool) → v ≡ true → b ≡ (b && v)
and-true true v is = sym is
and-true false v is = refl

only-same : (count : ℕ) (set : ℕ → Bool) (size : ℕ) → size ≡ count → (i : ℕ) → i < size → only count set (1 + i) ≡ set (1 + i)
only-same count set size are i within =
    let some : 0 < 1 + i = omega arith in
    let below : 1 + i < count + 1 = omega (arith, within, are) in
    sym (and-true (set (1 + i)) (ltb 0 (1 + i) && ltb (1 + i) (count + 1)) (and_from (ltb 0 (1 + i)) (ltb (1 + i) (count + 1)) (lt-ltb 0 (1 + i) some) (lt-ltb (1 + i) (count + 1) below)))

pub only-listed : (count : ℕ) (set : ℕ → Bool) (number : ℕ) → only count set number ≡ true → (1 ≤ number) × (number ≤ count)
only-listed count set number is =
    let bounds = and_parts (ltb 0 number) (ltb number (count + 1)) (and_parts (set number) (ltb 0 number && ltb number (count + 1)) is).1 in
    let some = ltb-true 0 number bounds.0 in
    let below = ltb-true number (count + 1) bounds.1 in
    (omega (arith, some), omega (arith, below))

-- sets with the same members are alike
terms-same : (readings : Readings) (t : Terms) (environment : Environment) (meaning : Meaning) {members others : List Listed} {values more : Meaning} → members ≡ others → values ≡ more
    → (is_allowed t environment.native meaning members && is_healthy_in readings t.strength environment members values) ≡ (is_allowed t environment.native meaning others && is_healthy_in readings t.strength environment others more)
terms-same readings t environment meaning same alike = λ i. is_allowed t environment.native meaning (same i) && is_healthy_in readings t.strength environment (same i) (alike i)

-- what builds a source package among the packages that are listed
module _ (readings : Readings) (t : Terms) (environment : Environment) (packages : List Listed) (meaning : Meaning) (values : ValueEntries ValueMeaning) (lists : Pairwise Lists meaning packages) (built : IsBuildable readings t environment packages meaning values) where
  abbrev listed_set : ℕ → Bool
  listed_set = only (length packages) built.set

  same : members_of listed_set packages ≡ members_of built.set packages
  same = members-same listed_set built.set 1 packages (only-same (length packages) built.set (length packages) refl)

  alike : members_of listed_set meaning ≡ members_of built.set meaning
  alike = members-same listed_set built.set 1 meaning (only-same (length packages) built.set (length meaning) (sym (pairwise-length Lists meaning packages lists)))

  pub only-healthy : is_healthy_by_terms readings t environment packages meaning listed_set ≡ true
  only-healthy = terms-same readings t environment meaning same alike ∙ built.healthy

  pub only-can : can_build readings environment (members_of listed_set packages) values ≡ true
  only-can = (λ i. can_build readings environment (same i) values) ∙ built.can

  pub only-may : may_build readings environment (members_of listed_set packages) values ≡ true
  only-may = (λ i. may_build readings environment (same i) values) ∙ built.may

module _ (readings : Readings) (t : Terms) (environment : Environment) (packages : List Listed) (meaning : Meaning) (needs : ℕ → List (List ℕ)) (excludes : ℕ → List ℕ) (lists : Pairwise Lists meaning packages) (rows : AreRowsOf readings t environment packages meaning needs excludes) where
  pub installable_by_rows : (number : ℕ) → IsInstallable readings t environment packages meaning number → HasHealthySet (length packages) needs excludes number
  installable_by_rows number installable =
      let count = length packages in
      let set = installable.set in
      let long : length meaning ≡ count = sym (pairwise-length Lists meaning packages lists) in
      let same = members-same (only count set) set 1 packages (only-same count set (length packages) refl) in
      let alike = members-same (only count set) set 1 meaning (only-same count set (length meaning) long) in
      let some : 0 < number = omega (arith, installable.listed.0) in
      let below : number < count + 1 = omega (arith, installable.listed.1) in
      record {
        set = only count set;
        contains = and_from (set number) (ltb 0 number && ltb number (count + 1)) installable.contains
            (and_from (ltb 0 number) (ltb number (count + 1)) (lt-ltb 0 number some) (lt-ltb number (count + 1) below));
        listed = only-listed count set;
        healthy = terms_by_rows readings t environment packages meaning needs excludes rows (only count set) lists
            (terms-same readings t environment meaning same alike ∙ installable.healthy);
      }

  pub installable_from_rows : (number : ℕ) → HasHealthySet (length packages) needs excludes number → IsInstallable readings t environment packages meaning number
  installable_from_rows number healthy =
      let listed = healthy.listed number healthy.contains in
      record {
        set = healthy.set;
        contains = healthy.contains;
        listed = listed;
        healthy = terms_from_rows readings t environment packages meaning needs excludes rows healthy.set lists healthy.healthy number listed.0 listed.1 healthy.contains;
      }

pub rows_decide : RowsDecide
rows_decide readings t environment packages meaning needs excludes lists rows = record {
  healthy = λ set. terms_by_rows readings t environment packages meaning needs excludes rows set lists;
  is_healthy = λ set number some most contains healthy. terms_from_rows readings t environment packages meaning needs excludes rows set lists healthy number some most contains;
  installable = installable_by_rows readings t environment packages meaning needs excludes lists rows;
  is_installable = installable_from_rows readings t environment packages meaning needs excludes lists rows;
}

module _ (count : ℕ) (needs : ℕ → List (List ℕ)) (excludes : ℕ → List ℕ) (rows : ℕ → List (List ℕ)) (both : ℕ → List ℕ) (number : ℕ) where
  healthy-set : ((set : ℕ → Bool) → IsHealthyByRows count needs excludes set → IsHealthyByRows count rows both set) → HasHealthySet count needs excludes number → HasHealthySet count rows both number
  healthy-set each has = record {
    set = has.set;
    contains = has.contains;
    listed = has.listed;
    healthy = each has.set has.healthy;
  }

pub stored_rows_decide : StoredRowsDecide
stored_rows_decide readings t environment packages meaning needs excludes lists are_rows rows both stored =
    let count = length packages in
    let decided = rows_decide readings t environment packages meaning needs excludes lists are_rows in
    let listed = exclusions-listed readings t environment packages meaning needs excludes are_rows (sym (pairwise-length Lists meaning packages lists)) in
    let to = stored-healthy count needs excludes rows both listed stored in
    let from = healthy-stored count needs excludes rows both listed stored in
    record {
      healthy = λ set healthy. to set (decided.healthy set healthy);
      is_healthy = λ set number some most contains healthy. decided.is_healthy set number some most contains (from set healthy);
      installable = λ number installable. healthy-set count needs excludes rows both number to (decided.installable number installable);
      is_installable = λ number has. decided.is_installable number (healthy-set count rows both needs excludes number from has);
    }
