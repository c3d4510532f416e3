-- What the lists of a formula represent while they are ordered.
use Rattle.std.proofs.Common.{◌≡◌, ℕ, true, false, List, [], ◌∷◌, codes, refl}
use Rattle.deb_base.specs.Literals.{lent, vector}
use Rattle.deb_relation.specs.declared.profile_list.ProfileList.{ProfileList}
use Rattle.deb_relation.specs.Meaning.{Restrictions}
use Rattle.deb_relation.specs.Texts.{restrictions_text}
use Rattle.deb_relation.specs.Views.{items_of}

-- a list's meaning, and the text by which a formula is ordered
abbrev pub profiles_of : ProfileList → Restrictions
profiles_of list = items_of list.items.items

abbrev pub profiles_key : ProfileList → List ℕ
profiles_key list = restrictions_text (profiles_of list)

-- `<!b a>`, whose items keep their order here
abbrev a_list : ProfileList
a_list = record {
  items = vector ((true, lent (codes "b")) ∷ (false, lent (codes "a")) ∷ []) refl;
  profiles = refl;
}

worked-list : (profiles_of a_list ≡ (true, codes "b") ∷ (false, codes "a") ∷ [])
    × (profiles_key a_list ≡ codes "<!b a>")
worked-list = (refl, refl)
