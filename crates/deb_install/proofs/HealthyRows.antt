-- A set is healthy exactly if it is healthy by the rows of its packages.
use Rattle.std.proofs.Common.{◌≡◌, ℕ, ◌+◌, ◌-◌, ◌≤◌, ltb, Bool, true, false, cond, not, ◌&&◌, ◌||◌, List, [], ◌∷◌, ◌++◌, length, Some, append_assoc, refl, sym, ap, ◌∙◌, arith}
use Rattle.std.specs.List.{filter, list_all, list_any, slice_get}
use Rattle.std.specs.Option.{option_map_or}
use Rattle.std.proofs.lemmas.Bool.{and_from, and_parts, not-true, not_from_false}
use Rattle.std.proofs.lemmas.List.{length_push}
use Rattle.std.proofs.lemmas.List.Folds.{list_any-append}
use Rattle.deb_relation.specs.Applying.{Environment}
use Rattle.deb_field.specs.Values.{ValueMeaning}
use Rattle.deb_control.specs.Documents.{Meaning}
use Rattle.deb_control.specs.Pairs.{Pairwise}
use Rattle.deb_control.specs.ValueFiles.{ValueEntries}
use Rattle.deb_index.specs.Listed.{Listed}
use Rattle.deb_index.specs.Listing.{Lists}
use Rattle.deb_index.specs.Named.{numbers_from, numbers_of, package_at}
use Rattle.deb_index.proofs.Numbered.{at-front}
use Rattle.deb_unmet.specs.declared.asked.Strength.{Strength}
use Rattle.deb_health.specs.Health.{are_apart}
use Rattle.deb_health.specs.Together.{rules_out}
use Rattle.deb_health.proofs.NoLines.{later-from}
use Rattle.deb_install.specs.Installable.{is_healthy_in}
use Rattle.deb_install.specs.Members.{IsHealthyByRows, members_from, members_of}
use Rattle.deb_install.specs.Rows.{excluded_numbers, exclusion_row, later_duplicates, needed_rows}
use Rattle.deb_install.specs.declared.readings.Readings.{Readings}
use Rattle.deb_install.specs.declared.readings.Readings.TheVariants.{Every, One}
use Rattle.deb_install.proofs.PackageRows.{is_abundant_in, is_peaceful_in, needs-met, none-excluded}
use Rattle.deb_install.proofs.Sets.{any-members, each_member, member-passes, members-pass}

-- two functions of a number that give the rows of the groups of a package, and what it excludes
pub record AreFieldRows (readings : Readings) (strength : Strength) (environment : Environment) (packages : List Listed) (meaning : Meaning) (needs : ℕ → List (List ℕ)) (excludes : ℕ → List ℕ) : Type 0 where
  pub needed : (k : ℕ) (values : ValueEntries ValueMeaning) → slice_get meaning k ≡ Some values → needs (k + 1) ≡ needed_rows readings strength environment packages values
  pub excluded : (k : ℕ) (values : ValueEntries ValueMeaning) → slice_get meaning k ≡ Some values → excludes (k + 1) ≡ exclusion_row readings strength environment packages (k + 1) values

-- both readings in one form
pub by-parts : (readings : Readings) (strength : Strength) (environment : Environment) (packages : List Listed) (meaning : Meaning)
    → is_healthy_in readings strength environment packages meaning
    ≡ (list_all (λ values. is_abundant_in readings strength environment packages values && is_peaceful_in readings strength environment packages values) meaning && are_apart environment.native packages)
by-parts Every strength environment packages meaning = refl
by-parts One strength environment packages meaning = refl

at-place : {X : Type 0} (earlier : List X) (x : X) (later : List X) → slice_get (earlier ++ x ∷ later) (length earlier) ≡ Some x
at-place [] x later = refl
at-place (y ∷ earlier) x later = at-place earlier x later

regroup : (a e l d r : Bool) → (((a && not e) && l) && (not d && r)) ≡ ((a && not (e || d)) && (l && r))
regroup false e l d r = refl
regroup true true l d r = refl
regroup true false true d r = ending d r
  where
    ending : (d r : Bool) → (not d && r) ≡ (not d && (true && r))
    ending true r = refl
    ending false r = refl
regroup true false false true r = refl
regroup true false false false r = refl

module _ (readings : Readings) (strength : Strength) (environment : Environment) (packages : List Listed) (meaning : Meaning) (needs : ℕ → List (List ℕ)) (excludes : ℕ → List ℕ) (rows : AreFieldRows readings strength environment packages meaning needs excludes) (set : ℕ → Bool) where
  abbrev members : List Listed
  members = members_of set packages

  -- a package of the set, by the definitions and by its rows
  abbrev good : ValueEntries ValueMeaning → Bool
  good values = is_abundant_in readings strength environment members values && is_peaceful_in readings strength environment members values

  abbrev fits : ℕ → Bool
  fits number = list_all (list_any set) (needs number) && not (list_any set (excludes number))

  -- the later ones of its name
  later-numbers : (front rest : List Listed) (p : Listed) (n : ℕ) → n ≡ length front + 1 → packages ≡ front ++ p ∷ rest → later_duplicates environment.native packages n ≡ numbers_from (n + 1) (rules_out environment.native p) rest
  later-numbers front rest p n is whole =
      ap (λ o. option_map_or (λ q. filter (λ other. ltb n other) (numbers_of (rules_out environment.native q) packages)) o []) (ap (package_at n) whole ∙ at-front front p rest n is)
      ∙ ap (λ ps. filter (λ other. ltb n other) (numbers_of (rules_out environment.native p) ps)) whole
      ∙ later-from (rules_out environment.native p) front rest p 1 n (omega (arith, is))

  -- one member
  member : (front rest : List Listed) (p : Listed) (earlier later : Meaning) (values : ValueEntries ValueMeaning) (n : ℕ) (others alike : Bool) → n ≡ length front + 1 → length earlier ≡ length front → packages ≡ front ++ p ∷ rest → meaning ≡ earlier ++ values ∷ later
      → ((good values && others) && (not (list_any (rules_out environment.native p) (members_from set (n + 1) rest)) && alike)) ≡ (fits n && (others && alike))
  member front rest p earlier later values n others alike is same whole means =
      let a = list_all (list_any set) (needed_rows readings strength environment packages values) in
      let e = list_any set (excluded_numbers readings strength environment packages values) in
      let d = list_any set (numbers_from (n + 1) (rules_out environment.native p) rest) in
      let k = length earlier in
      let found : slice_get meaning k ≡ Some values = ap (λ m. slice_get m k) means ∙ at-place earlier values later in
      let number : n ≡ k + 1 = omega (arith, is, same) in
      let needed : list_all (list_any set) (needs n) ≡ a = ap (λ m. list_all (list_any set) (needs m)) number ∙ ap (list_all (list_any set)) (rows.needed k values found) in
      let excluded : list_any set (excludes n) ≡ (e || d) =
      ap (λ m. list_any set (excludes m)) number
      ∙ ap (list_any set) (rows.excluded k values found)
      ∙ ap (λ m. list_any set (exclusion_row readings strength environment packages m values)) (sym number)
      ∙ list_any-append set (excluded_numbers readings strength environment packages values) (later_duplicates environment.native packages n)
      ∙ ap (λ numbers. e || list_any set numbers) (later-numbers front rest p n is whole) in
      let abundant = needs-met readings strength environment set packages values in
      let peaceful = none-excluded readings strength environment set packages values in
      let apart = any-members set (rules_out environment.native p) (n + 1) rest in
      (λ i. ((abundant i && peaceful i) && others) && (not (apart i) && alike))
      ∙ regroup a e others d alike
      ∙ (λ i. (sym needed i && not (sym excluded i)) && (others && alike))

  walk : (front rest : List Listed) (earlier later : Meaning) (n : ℕ) → n ≡ length front + 1 → length earlier ≡ length front → packages ≡ front ++ rest → meaning ≡ earlier ++ later → Pairwise Lists later rest
      → (list_all good (members_from set n later) && are_apart environment.native (members_from set n rest)) ≡ each_member set fits n rest
  walk front [] earlier [] n is same whole means lists = refl
  walk front [] earlier (values ∷ later) n is same whole means lists = absurd lists
  walk front (p ∷ rest) earlier [] n is same whole means lists = absurd lists
  walk front (p ∷ rest) earlier (values ∷ later) n is same whole means lists =
      let long = length_push front p in
      let longer = length_push earlier values in
      let more = walk (front ++ p ∷ []) rest (earlier ++ values ∷ []) later (n + 1) (omega (arith, is, long)) (omega (arith, same, long, longer)) (whole ∙ sym (append_assoc front (p ∷ []) rest)) (means ∙ sym (append_assoc earlier (values ∷ []) later)) lists.1 in
      go (set n) more
    where
      go : (v : Bool) → (list_all good (members_from set (n + 1) later) && are_apart environment.native (members_from set (n + 1) rest)) ≡ each_member set fits (n + 1) rest
          → (list_all good (cond v (values ∷ members_from set (n + 1) later) (members_from set (n + 1) later)) && are_apart environment.native (cond v (p ∷ members_from set (n + 1) rest) (members_from set (n + 1) rest))) ≡ cond v (fits n && each_member set fits (n + 1) rest) (each_member set fits (n + 1) rest)
      go true more =
          member front rest p earlier later values n (list_all good (members_from set (n + 1) later)) (are_apart environment.native (members_from set (n + 1) rest)) is same whole means
          ∙ ap (λ b. fits n && b) more
      go false more = more

  -- The set is healthy exactly if each of its members fits.
  healthy-fits : Pairwise Lists meaning packages → is_healthy_in readings strength environment members (members_of set meaning) ≡ each_member set fits 1 packages
  healthy-fits lists =
      by-parts readings strength environment members (members_of set meaning)
      ∙ walk [] packages [] meaning 1 refl refl refl refl lists

  pub healthy_by_rows : Pairwise Lists meaning packages → is_healthy_in readings strength environment members (members_of set meaning) ≡ true → IsHealthyByRows (length packages) needs excludes set
  healthy_by_rows lists healthy = record {
    abundance = λ number some listed contains. (both number some listed contains).0;
    peace = λ number some listed contains. not-true (list_any set (excludes number)) (both number some listed contains).1;
  }
    where
      both : (number : ℕ) → 1 ≤ number → number ≤ length packages → set number ≡ true → (list_all (list_any set) (needs number) ≡ true) × (not (list_any set (excludes number)) ≡ true)
      both number some listed contains =
          let back : 1 + (number - 1) ≡ number = omega (arith, some) in
          and_parts (list_all (list_any set) (needs number)) (not (list_any set (excludes number)))
          (sym (ap fits back)
          ∙ member-passes set fits 1 packages (sym (healthy-fits lists) ∙ healthy) (number - 1) (omega (arith, some, listed)) (ap set back ∙ contains))

  pub healthy_from_rows : Pairwise Lists meaning packages → IsHealthyByRows (length packages) needs excludes set → is_healthy_in readings strength environment members (members_of set meaning) ≡ true
  healthy_from_rows lists healthy =
      healthy-fits lists
      ∙ members-pass set fits 1 packages (λ i within contains.
      let some : 1 ≤ 1 + i = omega arith in
      let listed : 1 + i ≤ length packages = omega (arith, within) in
      and_from (list_all (list_any set) (needs (1 + i))) (not (list_any set (excludes (1 + i))))
      (healthy.abundance (1 + i) some listed contains)
      (not_from_false (list_any set (excludes (1 + i))) (healthy.peace (1 + i) some listed contains)))
