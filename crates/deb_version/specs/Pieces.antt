-- What the pieces that a text is cut into are to their callers: the components that are in it.
use Rattle.std.specs.Prelude.{◌≡◌, Some, None, codes, refl}
use Rattle.std.specs.Option.{option_copied}
use Rattle.deb_version.specs.declared.components.Pieces.{Pieces}
use Rattle.deb_version.specs.Grammar.{Components, components_with}
use Rattle.deb_version.specs.Lent.{lent}

abbrev pub pieces_of : Pieces → Components
pieces_of p =
    record {
      epoch = option_copied p.epoch;
      upstream = p.upstream.now;
      revision = option_copied p.revision;
    }

worked-pieces : pieces_of
    (record {
      epoch = Some (lent (codes "1"));
      upstream = lent (codes "2");
      revision = Some (lent (codes "3"));
    }) ≡ components_with (Some (codes "1")) (codes "2") (Some (codes "3"))
worked-pieces = refl

worked-upstream : pieces_of
    (record { epoch = None; upstream = lent (codes "2"); revision = None })
    ≡ components_with None (codes "2") None
worked-upstream = refl
