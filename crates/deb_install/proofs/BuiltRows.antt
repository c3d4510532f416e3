-- The rows of the fields that a source package needs, and the relation that each one needs.
use Rattle.std.proofs.Common.{◌≡◌, ℕ, List, [], ◌++◌, codes, refl}
use Rattle.deb_relation.specs.Applying.{Environment}
use Rattle.deb_relation.specs.Regular.{IsRegularRelation}
use Rattle.deb_relation.specs.Texts.{group_text, relation_text}
use Rattle.deb_install.specs.Buildable.{implied_groups}
use Rattle.deb_install.specs.Known.{AppendsKnown}
use Rattle.deb_install.specs.declared.known.Known.{Known}
use Rattle.deb_install.specs.declared.needs.Needing.{Needing}
use Rattle.deb_install.proofs.Noted.{known-last, known-then}

module _ (needing : Needing) (environment : Environment) where
  pub built-rows : (a b c d e : List (List ℕ)) (first second third fourth : Known) (w x y z : List ℕ) (implied one two three : List (List ℕ)) → AppendsKnown needing environment a b first [] w implied → AppendsKnown needing environment b c second w x one → AppendsKnown needing environment c d third x y two → AppendsKnown needing environment d e fourth y z three → AppendsKnown needing environment a e fourth [] z (implied ++ (one ++ (two ++ (three ++ []))))
  built-rows a b c d e first second third fourth w x y z implied one two three is_implied is_one is_two is_three =
      known-then needing environment a b e first fourth [] w z implied (one ++ (two ++ (three ++ []))) is_implied
      (known-then needing environment b c e second fourth w x z one (two ++ (three ++ [])) is_one
      (known-then needing environment c d e third fourth x y z two (three ++ []) is_two
      (known-last needing environment d e fourth y z three is_three)))

pub implied-regular : IsRegularRelation implied_groups
implied-regular = record {
  groups = (
    record {
      some = λ e. absurd cc;
      each = (record { name = refl; qualifier = refl; bound = tt; architectures = tt; lists = tt; ascend = tt }, tt);
    },
    tt,
  );
  ascend = tt;
}

pub implied-text : codes "build-essential:native" ≡ relation_text implied_groups
unfolding group_text
implied-text = refl
