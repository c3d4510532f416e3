-- Alternatives for the worked cases of the other files: a name and one thing that is asked. Debian
-- Policy 7.1.
use Rattle.std.specs.Prelude.{ℕ, Bool, false, List, [], ◌∷◌, Some, None}
use Rattle.deb_relation.specs.Meaning.{Alternative}
use Rattle.deb_relation.specs.declared.operator.Op.{Op}
use Rattle.deb_version.specs.Places.{version_in}

-- a name alone
abbrev pub alone : List ℕ → Alternative
alone name =
    record { name = name; qualifier = None; bound = None; architectures = None; formula = [] }

-- `name (operator version)`
abbrev pub with_bound : List ℕ → Op → List ℕ → Alternative
with_bound name operator version =
    record {
      name = name;
      qualifier = None;
      bound = Some
          (operator, version_in version);
      architectures = None;
      formula = [];
    }

-- `name:qualifier`
abbrev pub with_qualifier : List ℕ → List ℕ → Alternative
with_qualifier name qualifier =
    record {
      name = name;
      qualifier = Some qualifier;
      bound = None;
      architectures = None;
      formula = [];
    }

-- `name [architecture]`, or `name [!architecture]`
abbrev pub with_list : List ℕ → Bool → List ℕ → Alternative
with_list name negated architecture =
    record {
      name = name;
      qualifier = None;
      bound = None;
      architectures = Some
          (negated, architecture ∷ []);
      formula = [];
    }

-- `name <profile>`
abbrev pub with_formula : List ℕ → List ℕ → Alternative
with_formula name profile =
    record {
      name = name;
      qualifier = None;
      bound = None;
      architectures = None;
      formula = ((false, profile) ∷ []) ∷ [];
    }
