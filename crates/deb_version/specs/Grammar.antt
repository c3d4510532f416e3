-- What spells a version, and which one. Debian Policy 5.6.12; deb-version(7).
use Rattle.std.specs.Prelude.{◌≡◌, ℕ, ◌+◌, ◌==◌, ◌&&◌, ◌||◌, not, Bool, true, false, List, [], ◌∷◌, ◌++◌, length, Option, Some, None, is_some, IsTrue, if◌then◌else◌, codes, refl}
use Rattle.std.specs.List.{list_any, list_all, filter, position, range_with_len}
use Rattle.std.specs.Option.{is_none, option_and_then, option_map, option_map_or, option_or}
use Rattle.std.specs.Char.{is_ascii_digit, is_ascii_alphanumeric}
use Rattle.deb_version.specs.declared.fault.BadVersion.{BadVersion}
use Rattle.deb_version.specs.declared.fault.BadVersion.TheVariants.{Empty, EpochEmpty, EpochNotNumber, RevisionEmpty, UpstreamEmpty, UpstreamByte, RevisionByte}
use Rattle.deb_version.specs.Parts.{value_of, Part, parts_of, Meaning, no_revision}

-- letters, digits, `+`, `.` and `~`
abbrev pub is_revision_byte : ℕ → Bool
is_revision_byte b = is_ascii_alphanumeric b || (b == 43) || (b == 46) || (b == 126)

-- the same and `-`, and `:` where there is an epoch
abbrev pub is_upstream_byte : Bool → ℕ → Bool
is_upstream_byte has_epoch b = is_revision_byte b || (b == 45) || (has_epoch && (b == 58))

-- the texts of a version: the epoch's digits, if any, the upstream version, and the revision, if
-- any
pub record Components : Type 0 where
  pub epoch : Option (List ℕ)
  pub upstream : List ℕ
  pub revision : Option (List ℕ)

abbrev pub components_with : Option (List ℕ) → List ℕ → Option (List ℕ) → Components
components_with epoch upstream revision =
    record { epoch = epoch; upstream = upstream; revision = revision }

abbrev pub epoch_text : Option (List ℕ) → List ℕ
epoch_text None = []
epoch_text (Some digits) = digits ++ 58 ∷ []

abbrev pub revision_text : Option (List ℕ) → List ℕ
revision_text None = []
revision_text (Some revision) = 45 ∷ revision

-- `[epoch:]upstream[-revision]`
abbrev pub spelling : Components → List ℕ
spelling c = epoch_text c.epoch ++ (c.upstream ++ revision_text c.revision)

-- Components without fault are those of a version. One list of tests says so, in the order in which
-- they are judged, and with the fault that each of them gives: those of an epoch, which may be
-- absent, and then those of the rest. The tests are Debian Policy's 5.6.12; their order and the
-- offsets are this project's.

abbrev pub is_empty : List ℕ → Bool
is_empty text = length text == 0

-- the bytes that aren't allowed in an epoch, in an upstream version and in a revision
abbrev pub is_no_digit : ℕ → Bool
is_no_digit b = not (is_ascii_digit b)

abbrev pub is_bad_in_upstream : Bool → ℕ → Bool
is_bad_in_upstream has_epoch b = not (is_upstream_byte has_epoch b)

abbrev pub is_bad_in_revision : ℕ → Bool
is_bad_in_revision b = not (is_revision_byte b)

-- where the upstream version and the revision begin in the whole text
abbrev pub upstream_at : Components → ℕ
upstream_at c = length (epoch_text c.epoch)

abbrev pub revision_at : Components → ℕ
revision_at c = upstream_at c + length c.upstream + 1

abbrev pub fault_if : Bool → BadVersion → Option BadVersion
fault_if stands fault = if stands then Some fault else None

-- a component that may be absent is there, and passes the test
abbrev pub some_passes : (List ℕ → Bool) → Option (List ℕ) → Bool
some_passes test component = option_map_or test component false

-- the first of some faults
abbrev pub first_of : List (Option BadVersion) → Option BadVersion
first_of [] = None
first_of (fault ∷ faults) = option_or fault (first_of faults)

-- the faults that an epoch may have, and those of the other components
abbrev pub epoch_faults : Option (List ℕ) → List (Option BadVersion)
epoch_faults epoch =
    fault_if (some_passes is_empty epoch) EpochEmpty
    ∷ fault_if (some_passes (list_any is_no_digit) epoch) EpochNotNumber
    ∷ []

abbrev pub rest_faults : Components → List (Option BadVersion)
rest_faults c =
    fault_if (some_passes is_empty c.revision) RevisionEmpty
    ∷ fault_if (is_empty c.upstream) UpstreamEmpty
    ∷ option_map (λ at. UpstreamByte (upstream_at c + at))
    (position (is_bad_in_upstream (is_some c.epoch)) c.upstream)
    ∷ option_map (λ at. RevisionByte (revision_at c + at))
    (option_and_then (position is_bad_in_revision) c.revision)
    ∷ []

-- the first fault of components, if they have one
abbrev pub fault_of : Components → Option BadVersion
fault_of c =
    option_or (fault_if (is_empty (spelling c)) Empty)
    (option_or (first_of (epoch_faults c.epoch)) (first_of (rest_faults c)))

-- the upstream version has no hyphen where there is no revision, which is after the last one
abbrev pub is_cut_at_hyphen : Components → Bool
is_cut_at_hyphen c = is_some c.revision || not (list_any (λ b. b == 45) c.upstream)

-- whether these are the components of a version
abbrev pub are_components : Components → Bool
are_components c = is_none (fault_of c) && is_cut_at_hyphen c

-- what the components mean: an absent epoch is 0, an absent revision is the revision 0
abbrev pub epoch_value : Option (List ℕ) → ℕ
epoch_value None = 0
epoch_value (Some digits) = value_of digits

abbrev pub revision_parts : Option (List ℕ) → List Part
revision_parts None = no_revision
revision_parts (Some revision) = parts_of revision

abbrev pub meaning_of_components : Components → Meaning
meaning_of_components c =
    record {
      epoch = epoch_value c.epoch;
      upstream = parts_of c.upstream;
      revision = revision_parts c.revision;
    }

-- The text spells the version.
pub record SpellsVersion (text : List ℕ) (m : Meaning) : Type 0 where
  pub components : Components
  pub spelt : text ≡ spelling components
  pub allowed : IsTrue (are_components components)
  pub means : m ≡ meaning_of_components components

-- 00:1:02-0 and 1.0
worked-epoch : meaning_of_components
    (components_with (Some (codes "00")) (codes "1:02") (Some (codes "0")))
    ≡ record { epoch = 0; upstream = ([], 1) ∷ (codes ":", 2) ∷ []; revision = no_revision }
worked-epoch = refl

worked-absent : meaning_of_components (components_with None (codes "1.0") None)
    ≡ record { epoch = 0; upstream = ([], 1) ∷ (codes ".", 0) ∷ []; revision = no_revision }
worked-absent = refl

worked-allowed : are_components
    (components_with (Some (codes "2147483647")) (codes "1:2-") (Some (codes "a~"))) ≡ true
worked-allowed = refl

-- an epoch may have any size
worked-long_epoch : are_components
    (components_with (Some (codes "99999999999999999999")) (codes "1") None) ≡ true
worked-long_epoch = refl

worked-hyphen : are_components (components_with None (codes "1-0") None) ≡ false
worked-hyphen = refl

worked-colon : are_components (components_with None (codes "1:0") None) ≡ false
worked-colon = refl

-- a-z, A-Z, 0-9 and `+ . ~` are allowed in a revision, and no other byte; `-` in an upstream
-- version, `:` after an epoch
worked-revision_bytes : list_all is_revision_byte (codes "09AZaz+.~") ≡ true
worked-revision_bytes = refl

worked-other_bytes : list_any is_revision_byte
    (codes " !,-/:@[\\]^_`{|}" ++ 0 ∷ 9 ∷ 10 ∷ 127 ∷ 128 ∷ 255 ∷ []) ≡ false
worked-other_bytes = refl

worked-upstream_bytes : list_all (is_upstream_byte true) (codes "09AZaz+.~-:") ≡ true
worked-upstream_bytes = refl

worked-no_upstream_bytes : list_any (is_upstream_byte true)
    (codes " !,/@[\\]^_`{|}" ++ 0 ∷ 9 ∷ 10 ∷ 127 ∷ 128 ∷ 255 ∷ []) ≡ false
worked-no_upstream_bytes = refl

-- of all bytes those that are allowed in a revision, and in an upstream version without an epoch
-- and with one
worked-all_revision_bytes : filter is_revision_byte (range_with_len 0 256)
    ≡ codes "+.0123456789ABCDEFGHIJKLMNOPQRSTUVWXYZabcdefghijklmnopqrstuvwxyz~"
worked-all_revision_bytes = refl

worked-all_upstream_bytes : filter (is_upstream_byte false) (range_with_len 0 256)
    ≡ codes "+-.0123456789ABCDEFGHIJKLMNOPQRSTUVWXYZabcdefghijklmnopqrstuvwxyz~"
worked-all_upstream_bytes = refl

worked-all_upstream_bytes_with_epoch : filter (is_upstream_byte true) (range_with_len 0 256)
    ≡ codes "+-.0123456789:ABCDEFGHIJKLMNOPQRSTUVWXYZabcdefghijklmnopqrstuvwxyz~"
worked-all_upstream_bytes_with_epoch = refl

worked-all_digits : filter (λ b. not (is_no_digit b)) (range_with_len 0 256) ≡ codes "0123456789"
worked-all_digits = refl

-- an empty epoch, one that isn't digits, an empty upstream version, an empty revision, and one with
-- a hyphen
worked-empty_epoch : are_components (components_with (Some []) (codes "1") None) ≡ false
worked-empty_epoch = refl

worked-no_number : are_components (components_with (Some (codes "1a")) (codes "1") None) ≡ false
worked-no_number = refl

worked-empty_upstream : are_components (components_with None [] None) ≡ false
worked-empty_upstream = refl

worked-empty_revision : are_components (components_with None (codes "1") (Some [])) ≡ false
worked-empty_revision = refl

worked-hyphen_in_revision : are_components (components_with None (codes "1") (Some (codes "1-1")))
    ≡ false
worked-hyphen_in_revision = refl

-- each component that is there is spelled, empty or not
worked-spelling : spelling (components_with (Some (codes "1")) (codes "2:3-4") (Some (codes "5")))
    ≡ codes "1:2:3-4-5"
worked-spelling = refl

worked-spelling_alone : spelling (components_with None (codes "2") None) ≡ codes "2"
worked-spelling_alone = refl

worked-spelling_of_empty : spelling (components_with (Some []) [] (Some [])) ≡ codes ":-"
worked-spelling_of_empty = refl

-- 1-2 and 1-0
worked-revision : meaning_of_components (components_with None (codes "1") (Some (codes "2")))
    ≡ record { epoch = 0; upstream = ([], 1) ∷ []; revision = ([], 2) ∷ [] }
worked-revision = refl

worked-revision_zero : meaning_of_components (components_with None (codes "1") (Some (codes "0")))
    ≡ meaning_of_components (components_with None (codes "1") None)
worked-revision_zero = refl
