-- What the entries of Provides are that an index keeps: offsets in a text, and the number of the
-- package.
-- Debian Policy 7.5.
use Rattle.std.specs.Prelude.{◌≡◌, ◌≤◌, ℕ, ◌==◌, ◌&&◌, cond, length, List, [], ◌∷◌, ◌++◌, map, Option, None, Some, IfSome, codes, refl}
use Rattle.std.specs.List.{All}
use Rattle.std.specs.Option.{option_map}
use Rattle.deb_version.specs.Faults.{first_fault}
use Rattle.deb_version.specs.declared.fault.BadVersion.{BadVersion}
use Rattle.deb_version.specs.Parts.{Meaning as Version}
use Rattle.deb_version.specs.Places.{version_in}
use Rattle.deb_relation.specs.Meaning.{Alternative, Group}
use Rattle.deb_relation.specs.Texts.{alternative_text, architectures_text, bound_text, formula_text, qualifier_text, separated}
use Rattle.deb_index.specs.Listed.{Provision, bound_version, is_plain}
use Rattle.deb_index.specs.Spans.{part}
use Rattle.deb_index.specs.declared.entry.Entry.{Entry}

abbrev pub Places : Type 0
Places = Entry

-- the version that a text is, where an empty text is none
abbrev pub version_kept : List ℕ → Option Version
version_kept [] = None
version_kept (b ∷ bs) = Some (version_in (b ∷ bs))

abbrev pub entry_name : List ℕ → Entry → List ℕ
entry_name text e = part e.start e.name_end text

abbrev pub entry_version : List ℕ → Entry → List ℕ
entry_version text e = part e.version e.end text

-- what an entry in a text provides
abbrev pub provision_at : List ℕ → Entry → Provision
provision_at text e =
    record { name = entry_name text e; version = version_kept (entry_version text e) }

abbrev pub provisions_at : List ℕ → Option Entry → List Provision
provisions_at text None = []
provisions_at text (Some e) = provision_at text e ∷ []

-- the fault of the text of a version, where an empty text is that of none
abbrev pub fault_kept : List ℕ → Option BadVersion
fault_kept [] = None
fault_kept (b ∷ bs) = first_fault (b ∷ bs)

-- A text is empty, or a version.
abbrev pub HasNoFault : List ℕ → Type 0
HasNoFault text = fault_kept text ≡ None

abbrev pub IsFaultless : List ℕ → Entry → Type 0
IsFaultless text e = HasNoFault (entry_version text e)

-- An entry is one in a text.
pub record IsIn (text : List ℕ) (e : Entry) : Type 0 where
  pub name_end : e.name_end ≤ length text
  pub end : e.end ≤ length text
  pub faultless : IsFaultless text e

-- What follows the name of an alternative in the text of a group, where these alternatives follow.
abbrev pub BehindName : Alternative → Group → List ℕ → Type 0
BehindName a others text = text ≡ qualifier_text a.qualifier ++ (bound_text a.bound ++
    ((architectures_text a.architectures ++ formula_text a.formula) ++
    separated (codes " | ") (map alternative_text others)))

-- The offsets are those of the version of an alternative, or of nothing if it has none; there are
-- offsets only if the alternative is plain and no other follows.
abbrev pub IsVersionPlace : Alternative → Group → List ℕ → Option (ℕ × ℕ) → Type 0
IsVersionPlace a others text place =
    option_map (λ p. version_kept (part p.0 p.1 text)) place
    ≡ cond (is_plain a && (length others == 0)) (Some (option_map bound_version a.bound)) None

abbrev pub HasNumber : ℕ → Entry → Type 0
HasNumber number e = e.number ≡ number

-- An entry in a text with the number of its package, or none, provides this.
pub record IsEntry (text : List ℕ) (number : ℕ) (entry : Option Entry) (provided : List Provision)
    : Type 0 where
  pub is_in : IfSome entry (IsIn text)
  pub numbered : IfSome entry (HasNumber number)
  pub provides : provisions_at text entry ≡ provided

-- Entries in a text with the number of their package were appended, and provide this.
pub record AppendsEntries (text : List ℕ) (number : ℕ) (old new : List Entry)
    (provided : List Provision) : Type 0 where
  pub more : List Entry
  pub appended : new ≡ old ++ more
  pub are_in : All (IsIn text) more
  pub numbered : All (HasNumber number) more
  pub provides : map (provision_at text) more ≡ provided

-- `aa, bb (= 2)`: aa, and bb with its version
worked-entries : map (provision_at (codes "aa, bb (= 2)"))
    (record { start = 0; name_end = 2; version = 2; end = 2; number = 1 }
    ∷ record { start = 4; name_end = 6; version = 10; end = 11; number = 1 } ∷ [])
    ≡ record { name = codes "aa"; version = None }
    ∷ record { name = codes "bb"; version = Some (version_in (codes "2")) } ∷ []
worked-entries = refl

worked-provisions : (provisions_at (codes "aa") None ≡ [])
    × (provisions_at (codes "aa")
    (Some (record { start = 0; name_end = 2; version = 2; end = 2; number = 1 }))
    ≡ record { name = codes "aa"; version = None } ∷ [])
worked-provisions = (refl, refl)

-- no version, and what is none
worked-kept : (version_kept [] ≡ None) × (version_kept (codes "2") ≡ Some (version_in (codes "2")))
    × (fault_kept [] ≡ None) × (fault_kept (codes "2") ≡ None)
    × (fault_kept (codes ":2") ≡ first_fault (codes ":2"))
unfolding first_fault
worked-kept = (refl, refl, refl, refl, refl)
