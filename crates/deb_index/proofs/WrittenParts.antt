-- Writing one item after another, of those that an iterator has left.
use Rattle.std.proofs.Common.{◌≡◌, ℕ, List, [], ◌∷◌, ◌++◌, Option, append_assoc, append-nil, sym, ap, subst, ◌∙◌}
use Rattle.std.specs.List.{flat_map}
use Rattle.std.specs.Io.KnownBytes.{Appends}
use Rattle.std.proofs.lemmas.Grind.{flat_map-append}
use Rattle.std.proofs.KnownBytes.{Appends-trans}
use Rattle.deb_base.specs.Devices.{AppendsFront}
use Rattle.deb_base.proofs.Writes.{AppendsFront-more, AppendsFront-then}

-- The texts of the items before those that are left were written.
pub record WrittenBefore {X : Type 0} (text : X → List ℕ) (all left : List X) (old new : Option (List ℕ)) : Type 0 where
  pub before : List X
  pub are : all ≡ before ++ left
  pub written : Appends old new (flat_map text before)

module _ {X : Type 0} (text : X → List ℕ) (all : List X) (a b : Option (List ℕ)) where
  pub none_written : all ≡ all → Appends a a [] → WrittenBefore text all all a a
  none_written e none = record { before = []; are = e; written = none }

  pub one_written : (left : List X) (x : X) (rest : List X) (c : Option (List ℕ)) → WrittenBefore text all left a b → left ≡ x ∷ rest → Appends b c (text x) → WrittenBefore text all rest a c
  one_written left x rest c so_far are one =
      record {
        before = so_far.before ++ x ∷ [];
        are = so_far.are ∙ ap (λ l. so_far.before ++ l) are ∙ sym (append_assoc so_far.before (x ∷ []) rest);
        written = subst (Appends a c) (sym (flat_map-append text so_far.before (x ∷ []) ∙ ap (λ l. flat_map text so_far.before ++ l) (append-nil (text x)))) (Appends-trans a b c (flat_map text so_far.before) (text x) so_far.written one);
      }

  pub all_written : (left : List X) → WrittenBefore text all left a b → left ≡ [] → Appends a b (flat_map text all)
  all_written left so_far none =
      subst (λ l. Appends a b (flat_map text l)) (sym (so_far.are ∙ ap (λ l. so_far.before ++ l) none ∙ append-nil so_far.before)) so_far.written

  pub front_written : (left : List X) (x : X) (rest : List X) (c : Option (List ℕ)) → WrittenBefore text all left a b → left ≡ x ∷ rest → AppendsFront b c (text x) → AppendsFront a c (flat_map text all)
  front_written left x rest c so_far are front =
      subst (λ l. AppendsFront a c l) (sym (ap (flat_map text) (so_far.are ∙ ap (λ l. so_far.before ++ l) are) ∙ flat_map-append text so_far.before (x ∷ rest)))
      (AppendsFront-then a b c (flat_map text so_far.before) (text x ++ flat_map text rest) so_far.written (AppendsFront-more b c (text x) (flat_map text rest) front))
