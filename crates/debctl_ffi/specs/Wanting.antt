-- What is asked by the numbers and the words of a call, as the code holds them.
use Rattle.std.specs.Prelude.{◌≡◌, [], ◌∷◌, codes, refl}
use Rattle.deb_base.specs.Literals.{lent}
use Rattle.deb_relation.specs.Views.{names_of}
use Rattle.debctl_ffi.specs.Options.{Wanted, wanted}
use Rattle.debctl_ffi.specs.declared.options.Wanted.{Wanted as Held}

abbrev pub wanted_of : Held → Wanted
wanted_of held =
    wanted held.kind held.options held.target.now held.all_for.now (names_of held.profiles.now)
    (names_of held.without.now) held.file.now

worked-wanted : wanted_of (record {
  kind = 1;
  options = 5;
  target = lent (codes "amd64");
  all_for = lent (codes "i386");
  profiles = lent (lent (codes "cross") ∷ []);
  without = lent (lent (codes "aa") ∷ []);
  file = lent (codes "x");
}) ≡ wanted 1 5 (codes "amd64") (codes "i386") (codes "cross" ∷ []) (codes "aa" ∷ []) (codes "x")
worked-wanted = refl
