-- What a `Cut` of the code represents: the text and the run of digits that its slices hold.
-- deb-version(7), "Sorting algorithm".
use Rattle.std.specs.Prelude.{◌≡◌, ℕ, List, [], ◌∷◌, codes, refl}
use Rattle.deb_version.specs.declared.cut.Cut.{Cut as Slices}
use Rattle.deb_version.specs.Lent.{lent}
use Rattle.deb_version.specs.Parts.{Cut, cuts_of}

-- the text and the run
abbrev pub cut_of : Slices → Cut
cut_of c = (c.text.now, c.run.now)

-- the cuts of what follows a cut: none at the end
abbrev pub cuts_after : List ℕ → List Cut
cuts_after [] = []
cuts_after (b ∷ bs) = cuts_of (b ∷ bs)

worked-cut_of : cut_of
    (record { text = lent (codes "rc"); run = lent (codes "01"); run_digits = refl })
    ≡ (codes "rc", codes "01")
worked-cut_of = refl

worked-none_after : cuts_after [] ≡ []
worked-none_after = refl

worked-cuts_after : cuts_after (codes "a1.") ≡ (codes "a", codes "1") ∷ (codes ".", []) ∷ []
worked-cuts_after = refl
