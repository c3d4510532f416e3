-- What the values of the code represent: the meanings of a relation's parts.
use Rattle.std.proofs.Common.{◌≡◌, ℕ, Bool, true, false, List, [], ◌∷◌, Option, Some, None, map, codes, refl}
use Rattle.std.specs.Option.{option_copied, option_map}
use denote.Ref.{Bor}
use Rattle.std.specs.Prelude.{Box, Vec}
use Rattle.std.specs.declared.alloc.Global.{Global}
use Rattle.deb_relation.specs.declared.operator.Op.{Op}
use Rattle.deb_relation.specs.declared.alternative.Alternative.{Alternative as Parts}
use Rattle.deb_relation.specs.declared.asked.Asked.{Asked}
use Rattle.deb_relation.specs.declared.lists.Lists.{Lists}
use Rattle.deb_version.specs.declared.version.Version.{Version as Spelled}
use Rattle.deb_version.specs.Parts.{Meaning as Version, no_revision}
use Rattle.deb_version.specs.Version.{meaning_of}
use Rattle.deb_base.specs.Literals.{lent, boxed, vector}
use Rattle.deb_relation.specs.declared.operator.Op.TheVariants.{LaterEqual}
use Rattle.deb_relation.specs.Meaning.{Item, Restrictions, Alternative}
use Rattle.std.proofs.Math.Dec.{lit≤}

-- the operator and the version's meaning
abbrev pub bound_of : Op × Spelled → Op × Version
bound_of bound = (bound.0, meaning_of bound.1)

-- the names that slices hold, and those of items
abbrev pub names_of : List (Bor (List ℕ)) → List (List ℕ)
names_of names = map (λ name. name.now) names

abbrev pub list_of : Bool × Vec (Bor (List ℕ)) Global → Bool × List (List ℕ)
list_of list = (list.0, names_of list.1.items)

abbrev pub item_of : Bool × Bor (List ℕ) → Item
item_of item = (item.0, item.1.now)

abbrev pub items_of : List (Bool × Bor (List ℕ)) → Restrictions
items_of items = map item_of items

-- the name that a slice holds
abbrev pub name_key : Bor (List ℕ) → List ℕ
name_key name = name.now

-- a restriction list's meaning
abbrev pub restrictions_of : Vec (Bool × Bor (List ℕ)) Global → Restrictions
restrictions_of list = items_of list.items

-- what was read, and the text after it
abbrev pub text_behind : Bor (List ℕ) × Bor (List ℕ) → List ℕ × List ℕ
text_behind p = (p.0.now, p.1.now)

abbrev pub item_behind : (Bool × Bor (List ℕ)) × Bor (List ℕ) → Item × List ℕ
item_behind p = (item_of p.0, p.1.now)

-- the bound and the architecture list that are borrowed
abbrev pub lent_bound_of : Op × Bor Spelled → Op × Version
lent_bound_of bound = (bound.0, meaning_of bound.1.now)

abbrev pub lent_list_of : Bool × Bor (List (Bor (List ℕ))) → Bool × List (List ℕ)
lent_list_of list = (list.0, names_of list.1.now)

-- the qualifier and the bound, where something is asked
abbrev pub asked_qualifier : Option (Box Asked Global) → Option (List ℕ)
asked_qualifier None = None
asked_qualifier (Some asked) = option_copied asked.value.qualifier

abbrev pub asked_bound : Option (Box Asked Global) → Option (Op × Version)
asked_bound None = None
asked_bound (Some asked) = option_map bound_of asked.value.bound

-- the architecture list and the formula, where there is a list
abbrev pub listed_names : Option (Box Lists Global) → Option (Bool × List (List ℕ))
listed_names None = None
listed_names (Some lists) = option_map list_of lists.value.architectures

abbrev pub listed_formula : Option (Box Lists Global) → List Restrictions
listed_formula None = []
listed_formula (Some lists) = map restrictions_of lists.value.formula.items

-- an alternative's meaning
abbrev pub alternative_of : Parts → Alternative
alternative_of a = record {
  name = a.name.now;
  qualifier = asked_qualifier a.asked;
  bound = asked_bound a.asked;
  architectures = listed_names a.lists;
  formula = listed_formula a.lists;
}

-- Worked cases: slices that show these bytes, and vectors of these items.
worked-names : (names_of (lent (codes "b") ∷ lent (codes "a") ∷ []) ≡ codes "b" ∷ codes "a" ∷ [])
    × (name_key (lent (codes "b")) ≡ codes "b")
worked-names = (refl, refl)

worked-items : items_of ((true, lent (codes "b")) ∷ (false, lent (codes "a")) ∷ [])
    ≡ (true, codes "b") ∷ (false, codes "a") ∷ []
worked-items = refl

worked-behind : (text_behind (lent (codes "aa"), lent (codes ":any")) ≡ (codes "aa", codes ":any"))
    × (item_behind ((true, lent (codes "a")), lent (codes " b>"))
    ≡ ((true, codes "a"), codes " b>"))
worked-behind = (refl, refl)

worked-lent_list : lent_list_of
    (false, record { ref_ptr = (0, 0); now = lent (codes "b") ∷ lent (codes "a") ∷ [] })
    ≡ (false, codes "b" ∷ codes "a" ∷ [])
worked-lent_list = refl

worked-bare : alternative_of (record { name = lent (codes "aa"); asked = None; lists = None })
    ≡ record {
      name = codes "aa";
      qualifier = None;
      bound = None;
      architectures = None;
      formula = [];
    }
worked-bare = refl

-- each part of `aa:any (>= 1) [!b a] <!b>`
abbrev one : Spelled
one = record {
  epoch = None;
  upstream = lent (codes "1");
  revision = None;
  well_formed = refl;
  short = lit≤ tt;
}

abbrev whole : Parts
whole = record {
  name = lent (codes "aa");
  asked = Some (boxed (record {
    qualifier = Some (lent (codes "any"));
    bound = Some (LaterEqual, one);
  }));
  lists = Some (boxed (record {
    architectures = Some (true, vector (lent (codes "b") ∷ lent (codes "a") ∷ []) refl);
    formula = vector (vector ((true, lent (codes "b")) ∷ []) refl ∷ []) refl;
  }));
}

worked-alternative : alternative_of whole ≡ record {
  name = codes "aa";
  qualifier = Some (codes "any");
  bound = Some (LaterEqual, meaning_of one);
  architectures = Some (true, codes "b" ∷ codes "a" ∷ []);
  formula = ((true, codes "b") ∷ []) ∷ [];
}
worked-alternative = refl

worked-lent_bound : lent_bound_of (LaterEqual, lent one)
    ≡ (LaterEqual, record { epoch = 0; upstream = ([], 1) ∷ []; revision = no_revision })
worked-lent_bound = refl
