-- The rows of the fields that a package is asked, field by field.
use Rattle.std.proofs.Common.{◌≡◌, ℕ, Bool, true, false, cond, ◌&&◌, List, [], ◌++◌, ◌∷◌, Some, None, get_or, codes, refl, sym, ap, ◌∙◌, subst}
use Rattle.std.specs.List.{flat_map}
use Rattle.deb_relation.specs.Applying.{Environment}
use Rattle.deb_relation.specs.Environments.{with_target}
use Rattle.deb_relation.specs.Targets.{is_target}
use Rattle.deb_relation.specs.Regular.{IsRegularRelation}
use Rattle.deb_relation.specs.Texts.{relation_text}
use Rattle.deb_field.specs.Values.{ValueMeaning}
use Rattle.deb_control.specs.FieldWords.{value_under}
use Rattle.deb_control.specs.ValueFiles.{ValueEntries}
use Rattle.deb_unmet.specs.Asked.{fields_with, is_binary}
use Rattle.deb_unmet.specs.Fields.{own_environment, own_or}
use Rattle.deb_unmet.specs.declared.asked.Asked.{Asked}
use Rattle.deb_unmet.specs.Paragraphs.{HaveRelations, IsRelationText}
use Rattle.deb_unmet.specs.declared.asked.Strength.{Strength}
use Rattle.deb_unmet.specs.declared.asked.Strength.TheVariants.{Depends, Recommends}
use Rattle.deb_install.specs.Building.{AppendsRows, AreNumbersOf}
use Rattle.deb_install.specs.Universes.{AppendsNeeds}
use Rattle.deb_install.specs.Known.{AppendsKnown, Knows}
use Rattle.deb_install.specs.declared.known.Known.{Known}
use Rattle.deb_install.specs.declared.needs.Needing.{Needing}
use Rattle.deb_install.specs.declared.universe.Building.{Building}
use Rattle.deb_install.proofs.Appended.{appends-then, grows-none, grows-then, numbers-grown}
use Rattle.deb_install.proofs.Noted.{known-last, known-then}

pub first-text : (strength : Strength) (texts : List (List ℕ)) (values : ValueEntries ValueMeaning) → HaveRelations (fields_with strength) texts values → IsRelationText (get_or texts 0 []) (value_under (codes "Pre-Depends") values)
first-text Depends [] values have = absurd have
first-text Depends (t ∷ texts) values have = have.0
first-text Recommends [] values have = absurd have
first-text Recommends (t ∷ texts) values have = have.0

pub second-text : (strength : Strength) (texts : List (List ℕ)) (values : ValueEntries ValueMeaning) → HaveRelations (fields_with strength) texts values → IsRelationText (get_or texts 1 []) (value_under (codes "Depends") values)
second-text Depends [] values have = absurd have
second-text Depends (t ∷ []) values have = absurd have.1
second-text Depends (t ∷ u ∷ texts) values have = have.1.0
second-text Recommends [] values have = absurd have
second-text Recommends (t ∷ []) values have = absurd have.1
second-text Recommends (t ∷ u ∷ texts) values have = have.1.0

pub third-text : (texts : List (List ℕ)) (values : ValueEntries ValueMeaning) → HaveRelations (fields_with Recommends) texts values → IsRelationText (get_or texts 2 []) (value_under (codes "Recommends") values)
third-text [] values have = absurd have
third-text (t ∷ []) values have = absurd have.1
third-text (t ∷ u ∷ []) values have = absurd have.1.1
third-text (t ∷ u ∷ v ∷ texts) values have = have.1.1.0

-- an environment of a package is the other, if its target is
pub usual-own : (asked : Asked) (environment : Environment) (architecture : List ℕ) (own : Environment) → own ≡ own_or (own_environment asked environment architecture) environment → own.target ≡ environment.target → own ≡ environment
usual-own asked environment architecture own is same =
    is ∙ go (is_binary asked && is_target architecture) (ap (λ (e : Environment). e.target) (sym is) ∙ same)
  where
    go : (b : Bool) → (own_or (cond b (Some (with_target architecture environment)) None) environment).target ≡ environment.target → own_or (cond b (Some (with_target architecture environment)) None) environment ≡ environment
    go true e = ap (λ t. with_target t environment) e
    go false e = refl

-- no group has the empty text
pub none-regular : IsRegularRelation []
none-regular = record { groups = tt; ascend = tt }

pub none-text : [] ≡ relation_text []
none-text = refl

pub all-fields : (needing : Needing) (environment : Environment) (strength : Strength) (rows : List ℕ → List (List ℕ)) (a b c d : List (List ℕ)) (first second third : Known) (x y z : List ℕ) → AppendsKnown needing environment a b first [] x (rows (codes "Pre-Depends")) → AppendsKnown needing environment b c second x y (rows (codes "Depends")) → (strength ≡ Depends → AppendsKnown needing environment c d third y z []) → (strength ≡ Recommends → AppendsKnown needing environment c d third y z (rows (codes "Recommends"))) → AppendsKnown needing environment a d third [] z (flat_map rows (fields_with strength))
all-fields needing environment Depends rows a b c d first second third x y z one two none some =
    known-then needing environment a b d first third [] x z (rows (codes "Pre-Depends")) (rows (codes "Depends") ++ []) one
    (known-then needing environment b c d second third x y z (rows (codes "Depends")) [] two (none refl))
all-fields needing environment Recommends rows a b c d first second third x y z one two none some =
    known-then needing environment a b d first third [] x z (rows (codes "Pre-Depends")) (rows (codes "Depends") ++ (rows (codes "Recommends") ++ [])) one
    (known-then needing environment b c d second third x y z (rows (codes "Depends")) (rows (codes "Recommends") ++ []) two
    (known-last needing environment c d third y z (rows (codes "Recommends")) (some refl)))

-- the numbers of the rows of fields, of one that is left out, and of those that each package needs
pub with-terms : (first second third : List (List ℕ)) (w x y shared : List ℕ) (rows left more : List (List ℕ)) → AppendsRows first second [] w rows → AppendsRows second third w x left → y ≡ x ++ shared → AreNumbersOf first shared more → AppendsRows first third [] y (rows ++ (left ++ more))
with-terms first second third w x y shared rows left more one two is are =
    let grows = grows-then first second third one.grows two.grows in
    appends-then first second third [] w y rows (left ++ more) one
    (appends-then second third third w x y left more two
    (record { grows = grows-none third; numbers = shared; appended = is; are = numbers-grown first third shared more grows are }))

pub needs-pushed : (needing : Needing) (environment : Environment) (old new : Building) (row : List ℕ) (rows : List (List ℕ)) → AppendsRows old.groups.rows new.groups.rows [] row rows → Knows needing environment new.groups.rows new.known → new.needs ≡ old.needs ++ row ∷ [] → AppendsNeeds needing environment old new rows
needs-pushed needing environment old new row rows appends knows is = record {
  grows = appends.grows;
  row = row;
  needs = is;
  are = subst (λ numbers. AreNumbersOf new.groups.rows numbers rows) (sym appends.appended) appends.are;
  knows = knows;
}
