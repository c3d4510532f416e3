-- Worked cases of the grammar: texts and what they spell. Debian Policy 7.1.
use Rattle.std.specs.Prelude.{List, [], ◌∷◌, ◌++◌, ℕ, true, false, Some, None, IsTrue}
use Rattle.std.specs.Prelude.{codes, refl}
use Rattle.std.proofs.Common.{inl, inr}
use Rattle.deb_base.specs.PackageNames.{is_package_name}
use Rattle.deb_version.specs.Faults.{first_fault}
use Rattle.deb_version.specs.Grammar.{components_with, meaning_of_components}
use Rattle.deb_version.proofs.FaultLemmas.{spells-from_no_fault}
use Rattle.deb_relation.specs.declared.operator.Op.TheVariants.{EarlierEqual, LaterEqual}
use Rattle.deb_relation.specs.Grammar.{IsWhite, SpellsOperator, SpellsAlternative, SpellsRelation}
use Rattle.deb_relation.specs.Meaning.{Alternative}
use Rattle.deb_relation.specs.Reading.{alternative_with}
use Rattle.deb_relation.specs.Texts.{group_text}
use Rattle.deb_version.specs.PartsLemmas.{cons_not_nil}

-- a name alone
bare : List ℕ → Alternative
bare name = alternative_with name None None None []

bare_spelled :
    (before name behind : List ℕ) → IsWhite before → IsTrue (is_package_name name) → IsWhite behind
    → SpellsAlternative (before ++ (name ++ behind)) (bare name)
unfolding bare
bare_spelled before name behind w is w' = record {
  before = before;
  qualifier = [];
  bound = [];
  architectures = [];
  formula = [];
  lists = [];
  behind = behind;
  spelt = refl;
  before_white = w;
  is_name = is;
  spells_qualifier = refl;
  spells_bound = refl;
  spells_architectures = refl;
  spell_lists = refl;
  set = refl;
  behind_white = w';
}

worked-nothing : SpellsRelation [] []
worked-nothing = record { pieces = None ∷ []; spell_pieces = tt; set = refl }

-- pieces of white space alone
worked-commas : SpellsRelation (codes "\t,\n ") []
worked-commas = record {
  pieces = None ∷ None ∷ [];
  spell_pieces = (codes "\t", codes "\n ", refl, (refl, tt), (refl, (refl, tt)));
  set = refl;
}

-- groups are a set: neither their order nor a repeat matters
worked-groups :
    SpellsRelation (codes "bb,aa,bb ") ((bare (codes "aa") ∷ []) ∷ (bare (codes "bb") ∷ []) ∷ [])
unfolding bare group_text
worked-groups = record {
  pieces =
      Some (bare (codes "bb") ∷ []) ∷ Some (bare (codes "aa") ∷ []) ∷ Some (bare (codes "bb") ∷ [])
      ∷ [];
  spell_pieces = (
    codes "bb",
    codes "aa,bb ",
    refl,
    bare_spelled [] (codes "bb") [] tt refl tt,
    (
      codes "aa",
      codes "bb ",
      refl,
      bare_spelled [] (codes "aa") [] tt refl tt,
      bare_spelled [] (codes "bb") (codes " ") tt refl (refl, tt),
    ),
  );
  set = refl;
}

-- alternatives are in their order, repeats kept
worked-alternatives :
    SpellsRelation (codes "bb |aa|bb")
    ((bare (codes "bb") ∷ bare (codes "aa") ∷ bare (codes "bb") ∷ []) ∷ [])
unfolding bare group_text
worked-alternatives = record {
  pieces = Some (bare (codes "bb") ∷ bare (codes "aa") ∷ bare (codes "bb") ∷ []) ∷ [];
  spell_pieces = (
    codes "bb ",
    codes "aa|bb",
    refl,
    bare_spelled [] (codes "bb") (codes " ") tt refl (refl, tt),
    (
      codes "aa",
      codes "bb",
      refl,
      bare_spelled [] (codes "aa") [] tt refl tt,
      bare_spelled [] (codes "bb") [] tt refl tt,
    ),
  );
  set = refl;
}

-- the former operators spell what `<=` and `>=` spell
worked-operators :
    SpellsOperator (codes "<") EarlierEqual × SpellsOperator (codes "<=") EarlierEqual
    × SpellsOperator (codes ">") LaterEqual × SpellsOperator (codes ">=") LaterEqual
worked-operators = (inr refl, inl refl, inr refl, inl refl)

-- a qualifier, a bound, an architecture list and two restriction lists; the sets ascend
worked-alternative :
    SpellsAlternative (codes " aa:any(>= 1. ) [!x !b]<b><!a b>")
    (alternative_with (codes "aa") (Some (codes "any"))
    (Some (LaterEqual, meaning_of_components (components_with None (codes "1.") None)))
    (Some (true, codes "b" ∷ codes "x" ∷ []))
    (((true, codes "a") ∷ (false, codes "b") ∷ []) ∷ ((false, codes "b") ∷ []) ∷ []))
unfolding first_fault
worked-alternative = record {
  before = codes " ";
  qualifier = codes ":any";
  bound = codes "(>= 1. )";
  architectures = codes " [!x !b]";
  formula = codes "<b><!a b>";
  lists = ((false, codes "b") ∷ []) ∷ ((true, codes "a") ∷ (false, codes "b") ∷ []) ∷ [];
  behind = [];
  spelt = refl;
  before_white = (refl, tt);
  is_name = refl;
  spells_qualifier = (refl, refl);
  spells_bound = record {
    before = [];
    within = [];
    operator = codes ">=";
    between = codes " ";
    version = codes "1.";
    behind = codes " ";
    spelt = refl;
    before_white = tt;
    within_white = tt;
    between_white = (refl, tt);
    behind_white = (refl, tt);
    spells_operator = inl refl;
    spells = spells-from_no_fault (codes "1.") refl;
  };
  spells_architectures = record {
    before = codes " ";
    inner = codes "!x !b";
    names = codes "x" ∷ codes "b" ∷ [];
    spelt = refl;
    before_white = (refl, tt);
    items = ([], codes " !b", refl, tt, refl, (codes " ", [], refl, (refl, tt), tt, tt));
    some = cons_not_nil (codes "x") (codes "b" ∷ []);
    are_names = (refl, (refl, tt));
    set = refl;
  };
  spell_lists = (
    codes "<b>",
    codes "<!a b>",
    refl,
    record {
      before = [];
      inner = codes "b";
      members = (false, codes "b") ∷ [];
      spelt = refl;
      before_white = tt;
      items = ([], [], refl, tt, tt, tt);
      some = cons_not_nil (false, codes "b") [];
      are_profiles = (refl, tt);
      set = refl;
    },
    (
      codes "<!a b>",
      [],
      refl,
      record {
        before = [];
        inner = codes "!a b";
        members = (true, codes "a") ∷ (false, codes "b") ∷ [];
        spelt = refl;
        before_white = tt;
        items = ([], codes " b", refl, tt, refl, (codes " ", [], refl, (refl, tt), tt, tt));
        some = cons_not_nil (true, codes "a") ((false, codes "b") ∷ []);
        are_profiles = (refl, (refl, tt));
        set = refl;
      },
      refl,
    ),
  );
  set = refl;
  behind_white = tt;
}
