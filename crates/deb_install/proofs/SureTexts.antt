-- The texts of the groups that have a row in one reading, group by group and field by field.
use Rattle.std.proofs.Common.{◌≡◌, ℕ, cond, List, [], ◌∷◌, ◌++◌, map, append-nil, append_assoc, codes, refl, sym, ap, ◌∙◌}
use Rattle.std.specs.List.{flat_map}
use Rattle.std.proofs.lemmas.List.{map-append}
use Rattle.std.proofs.lemmas.List.Elements.{filter-append}
use Rattle.deb_relation.specs.Applying.{Environment}
use Rattle.deb_relation.specs.Meaning.{Group}
use Rattle.deb_relation.specs.Texts.{group_text}
use Rattle.deb_unmet.specs.Asked.{fields_with}
use Rattle.deb_unmet.specs.declared.asked.Strength.{Strength}
use Rattle.deb_unmet.specs.declared.asked.Strength.TheVariants.{Depends, Recommends}
use Rattle.deb_install.specs.Explaining.{sure_groups}
use Rattle.deb_install.specs.Rows.{some_surely_applies}
use Rattle.deb_install.proofs.Contained.{kept-more}

module _ (environment : Environment) where
  abbrev pub texts_of : List Group → List (List ℕ)
  texts_of groups = map group_text (sure_groups environment groups)

  pub texts-append : (groups others : List Group) → texts_of (groups ++ others) ≡ texts_of groups ++ texts_of others
  texts-append groups others =
      ap (map group_text) (filter-append (some_surely_applies environment) groups others)
      ∙ map-append group_text (sure_groups environment groups) (sure_groups environment others)

  pub texts-more : (done : List Group) (group : Group) → texts_of (done ++ group ∷ []) ≡ texts_of done ++ cond (some_surely_applies environment group) (group_text group ∷ []) []
  texts-more done group = kept-more group_text (some_surely_applies environment) done group

  texts-flat : (groups : List ℕ → List Group) (fields : List (List ℕ)) → flat_map (λ field. texts_of (groups field)) fields ≡ texts_of (flat_map groups fields)
  texts-flat groups [] = refl
  texts-flat groups (field ∷ fields) =
      ap (λ l. texts_of (groups field) ++ l) (texts-flat groups fields)
      ∙ sym (texts-append (groups field) (flat_map groups fields))

  -- those of the fields that a package is asked
  pub texts-of-fields : (strength : Strength) (groups : List ℕ → List Group) (a b c : List (List ℕ)) → a ≡ texts_of (groups (codes "Pre-Depends")) → b ≡ a ++ texts_of (groups (codes "Depends"))
      → (strength ≡ Depends → c ≡ b) → (strength ≡ Recommends → c ≡ b ++ texts_of (groups (codes "Recommends"))) → c ≡ texts_of (flat_map groups (fields_with strength))
  texts-of-fields Depends groups a b c first second none some =
      let pre = texts_of (groups (codes "Pre-Depends")) in
      let dep = texts_of (groups (codes "Depends")) in
      none refl ∙ second ∙ ap (λ l. l ++ dep) first ∙ ap (λ l. pre ++ l) (sym (append-nil dep))
      ∙ texts-flat groups (fields_with Depends)
  texts-of-fields Recommends groups a b c first second none some =
      let pre = texts_of (groups (codes "Pre-Depends")) in
      let dep = texts_of (groups (codes "Depends")) in
      let rec = texts_of (groups (codes "Recommends")) in
      some refl ∙ ap (λ l. l ++ rec) (second ∙ ap (λ l. l ++ dep) first) ∙ append_assoc pre dep rec
      ∙ ap (λ l. pre ++ (dep ++ l)) (sym (append-nil rec))
      ∙ texts-flat groups (fields_with Recommends)
