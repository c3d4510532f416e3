-- A set is healthy exactly if it is in another order.
use Rattle.std.proofs.Common.{◌≡◌, ℕ, ◌+◌, ◌-◌, ◌<◌, ◌≤◌, Bool, true, false, cond, not, ◌&&◌, List, [], length, map, codes, sym, ap, ◌∙◌, subst, arith}
use Rattle.std.specs.List.{filter, list_all, list_any}
use Rattle.std.specs.List.Sorted.{IsPermutation}
use Rattle.std.proofs.lemmas.List.{length-map}
use Rattle.std.proofs.lemmas.List.Sorted.{IsPermutation-map, IsPermutation-refl, list_any-IsPermutation}
use Rattle.deb_relation.specs.Applying.{Environment}
use Rattle.deb_field.specs.Values.{ValueMeaning}
use Rattle.deb_control.specs.Documents.{Meaning}
use Rattle.deb_control.specs.FieldWords.{groups_of, value_under, word_under}
use Rattle.deb_control.specs.ValueFiles.{ValueEntries}
use Rattle.deb_index.specs.Listed.{Listed}
use Rattle.deb_index.specs.Named.{has_name}
use Rattle.deb_unmet.specs.Asked.{fields_with}
use Rattle.deb_unmet.specs.Fields.{environment_for}
use Rattle.deb_unmet.specs.Readings.{applies_by, surely}
use Rattle.deb_unmet.specs.declared.asked.Asked.TheVariants.{Packages}
use Rattle.deb_unmet.specs.declared.asked.Strength.{Strength}
use Rattle.deb_health.specs.Excluding.{excludes}
use Rattle.deb_health.specs.Health.{are_apart}
use Rattle.deb_health.specs.Lines.{negative_fields}
use Rattle.deb_health.proofs.Rearranged.{filter-permutation, list_all-permutation}
use Rattle.deb_health.proofs.SameReasons.{apart-rearranged, healthy-rearranged, otherwise-rearranged}
use Rattle.deb_install.specs.Installable.{can_be_abundant, can_be_healthy, can_be_peaceful, is_healthy_in}
use Rattle.deb_install.specs.Laws.{RearrangingKeepsInstallable}
use Rattle.deb_install.specs.Members.{members_from, members_of}
use Rattle.deb_install.specs.Terms.{Terms, essential_names, has_none, is_allowed, is_essential}
use Rattle.deb_install.specs.declared.readings.Readings.{Readings}
use Rattle.deb_install.specs.declared.readings.Readings.TheVariants.{Every, One}
use Rattle.deb_install.proofs.Renumbered.{members-map, renumbers}
use Rattle.deb_install.proofs.Sets.{members-shifted}

module _ (packages others : List Listed) (moved : IsPermutation packages others) (strength : Strength) (environment : Environment) where
  abundant-rearranged : (values : ValueEntries ValueMeaning) → can_be_abundant strength environment packages values ≡ can_be_abundant strength environment others values
  abundant-rearranged values = λ i. list_all (λ field. list_all
      (λ group. otherwise-rearranged packages others moved (environment_for (Packages strength) environment values) group i)
      (groups_of (value_under field values))) (fields_with strength)

  peaceful-rearranged : (values : ValueEntries ValueMeaning) → can_be_peaceful strength environment packages values ≡ can_be_peaceful strength environment others values
  peaceful-rearranged values = λ i. list_all (λ field. list_all (λ group. list_all
      (λ a. not (surely (applies_by (environment_for (Packages strength) environment values) a)
      && list_any-IsPermutation (excludes environment.native (word_under (codes "Package") values) a) packages others moved i)) group)
      (groups_of (value_under field values))) negative_fields

  one-rearranged : (meaning other : Meaning) → IsPermutation meaning other → can_be_healthy strength environment packages meaning ≡ can_be_healthy strength environment others other
  one-rearranged meaning other moved_too =
      let good : ValueEntries ValueMeaning → Bool = λ values. can_be_abundant strength environment packages values && can_be_peaceful strength environment packages values in
      ap (λ v. v && are_apart environment.native packages) (list_all-permutation good meaning other moved_too)
      ∙ (λ i. list_all (λ values. abundant-rearranged values i && peaceful-rearranged values i) other && apart-rearranged environment.native packages others moved i)

  in-rearranged : (readings : Readings) (meaning other : Meaning) → IsPermutation meaning other → is_healthy_in readings strength environment packages meaning ≡ is_healthy_in readings strength environment others other
  in-rearranged Every meaning other moved_too = healthy-rearranged packages others moved strength environment meaning other moved_too
  in-rearranged One meaning other moved_too = one-rearranged meaning other moved_too

-- a set is as terms ask exactly if it is in another order, and all packages are
names-rearranged : (t : Terms) (target : List ℕ) (meaning other : Meaning) → IsPermutation meaning other → IsPermutation (essential_names t target meaning) (essential_names t target other)
names-rearranged t target meaning other moved = go t.essential
  where
    name : ValueEntries ValueMeaning → List ℕ
    name = word_under (codes "Package")

    test : ValueEntries ValueMeaning → Bool
    test = is_essential t.without target

    go : (v : Bool) → IsPermutation (cond v (map name (filter test meaning)) []) (cond v (map name (filter test other)) [])
    go true = IsPermutation-map name (filter test meaning) (filter test other) (filter-permutation test meaning other moved)
    go false = IsPermutation-refl []

allowed-rearranged : (t : Terms) (target : List ℕ) (meaning other : Meaning) → IsPermutation meaning other → (members others : List Listed) → IsPermutation members others
    → is_allowed t target meaning members ≡ is_allowed t target other others
allowed-rearranged t target meaning other moved members others same =
    (λ i. list_all (λ name. not (list_any-IsPermutation (has_name name) members others same i)) t.without && list_all (λ name. list_any-IsPermutation (has_name name) members others same i) (essential_names t target meaning))
    ∙ ap (λ b. has_none t.without others && b) (list_all-permutation (λ name. list_any (has_name name) others) (essential_names t target meaning) (essential_names t target other) (names-rearranged t target meaning other moved))

pub rearranging : RearrangingKeepsInstallable
rearranging readings t environment pairs others k moved installable =
    let r = renumbers pairs others moved in
    let set = installable.set in
    let based : ℕ → Bool = λ i. set (1 + i) in
    let new : ℕ → Bool = λ number. set (1 + r.from (number - 1)) in
    let before = members-shifted set based 1 0 pairs (λ i within.
    let e : 1 + i ≡ 1 + (0 + i) = omega arith in
    ap set e) in
    let after = members-shifted new (λ j. based (r.from j)) 1 0 others (λ i within.
    let e : 1 + i - 1 ≡ 0 + i = omega arith in
    ap (λ j. set (1 + r.from j)) e) in
    let same : IsPermutation (members_of set pairs) (members_of new others) =
    subst (λ l. IsPermutation (members_of set pairs) l) (sym after) (subst (λ l. IsPermutation l (members_from (λ j. based (r.from j)) 0 others)) (sym before) (r.moved based)) in
    let listed : ValueEntries ValueMeaning × Listed → Listed = λ x. x.1 in
    let values : ValueEntries ValueMeaning × Listed → ValueEntries ValueMeaning = λ x. x.0 in
    let allowed = allowed-rearranged t environment.native (map values pairs) (map values others) (IsPermutation-map values pairs others moved)
    (map listed (members_of set pairs)) (map listed (members_of new others)) (IsPermutation-map listed _ _ same) in
    let ways = in-rearranged (map listed (members_of set pairs)) (map listed (members_of new others)) (IsPermutation-map listed _ _ same) t.strength environment readings
    (map values (members_of set pairs)) (map values (members_of new others)) (IsPermutation-map values _ _ same) in
    let long : length (map listed pairs) ≡ length pairs = length-map pairs listed in
    let other_long : length (map listed others) ≡ length others = length-map others listed in
    let within : k < length pairs = omega (arith, installable.listed.1, long) in
    let there = r.within k within in
    let some : 1 ≤ r.to k + 1 = omega arith in
    let most : r.to k + 1 ≤ length (map listed others) = omega (arith, there, other_long) in
    let less : r.to k + 1 - 1 ≡ r.to k = omega arith in
    let back : 1 + k ≡ k + 1 = omega arith in
    record {
      index = r.to k;
      same = r.same k within;
      installable = record {
        set = new;
        contains = ap (λ j. set (1 + r.from j)) less ∙ ap (λ j. set (1 + j)) (r.back k within) ∙ ap set back ∙ installable.contains;
        listed = (some, most);
        healthy =
            (λ i. is_allowed t environment.native (map values others) (members-map listed new 1 others i) && is_healthy_in readings t.strength environment (members-map listed new 1 others i) (members-map values new 1 others i))
            ∙ (λ i. sym allowed i && sym ways i)
            ∙ (λ i. is_allowed t environment.native (map values pairs) (sym (members-map listed set 1 pairs) i) && is_healthy_in readings t.strength environment (sym (members-map listed set 1 pairs) i) (sym (members-map values set 1 pairs) i))
            ∙ installable.healthy;
      };
    }
