-- Which fault of a text is answered, and at which byte: the first one of the components that are
-- in it. Debian Policy 5.6.12; the order and the offsets are this project's.
use Rattle.std.specs.Prelude.{◌≡◌, ℕ, List, [], ◌∷◌, Option, Some, None, codes, refl}
use Rattle.std.specs.List.{filter, range_with_len}
use Rattle.std.specs.Option.{is_none}
use Rattle.deb_version.specs.declared.fault.BadVersion.{BadVersion}
use Rattle.deb_version.specs.declared.fault.BadVersion.TheVariants.{Empty, EpochEmpty, EpochNotNumber, RevisionEmpty, UpstreamEmpty, UpstreamByte, RevisionByte}
use Rattle.deb_version.specs.Grammar.{fault_of}
use Rattle.deb_version.specs.Places.{components_in}

-- the first fault of a text, if it has one
unfoldable pub first_fault : List ℕ → Option BadVersion
first_fault text = fault_of (components_in text)

worked-empty : first_fault (codes "") ≡ Some Empty
unfolding first_fault
worked-empty = refl

worked-epoch_empty : first_fault (codes ":1") ≡ Some EpochEmpty
unfolding first_fault
worked-epoch_empty = refl

worked-epoch_not_number : first_fault (codes "a:1") ≡ Some EpochNotNumber
unfolding first_fault
worked-epoch_not_number = refl

-- An epoch may have any size.
worked-long_epoch : first_fault (codes "99999999999999999999:1") ≡ None
unfolding first_fault
worked-long_epoch = refl

worked-long_epoch_alone : first_fault (codes "2147483648:") ≡ Some UpstreamEmpty
unfolding first_fault
worked-long_epoch_alone = refl

worked-behind_long_epoch : first_fault (codes "2147483648:1_") ≡ Some (UpstreamByte 12)
unfolding first_fault
worked-behind_long_epoch = refl

worked-revision_empty : first_fault (codes "1-") ≡ Some RevisionEmpty
unfolding first_fault
worked-revision_empty = refl

-- also where the upstream version has a byte that isn't allowed
worked-revision_before_byte : first_fault (codes "1_-") ≡ Some RevisionEmpty
unfolding first_fault
worked-revision_before_byte = refl

worked-upstream_empty : first_fault (codes "1:") ≡ Some UpstreamEmpty
unfolding first_fault
worked-upstream_empty = refl

worked-upstream_byte : first_fault (codes "1.0_2") ≡ Some (UpstreamByte 3)
unfolding first_fault
worked-upstream_byte = refl

worked-revision_byte : first_fault (codes "1.0-a_b") ≡ Some (RevisionByte 5)
unfolding first_fault
worked-revision_byte = refl

worked-revision_colon : first_fault (codes "1:2-3:4") ≡ Some (RevisionByte 5)
unfolding first_fault
worked-revision_colon = refl

-- The epoch ends at the first colon, whatever comes before it.
worked-hyphen_in_epoch : first_fault (codes "1-2:3") ≡ Some EpochNotNumber
unfolding first_fault
worked-hyphen_in_epoch = refl

worked-digit_in_epoch : first_fault (codes "1a:3") ≡ Some EpochNotNumber
unfolding first_fault
worked-digit_in_epoch = refl

-- If several bytes aren't allowed, the first one is reported.
worked-first_upstream_byte : first_fault (codes "1_2/3_") ≡ Some (UpstreamByte 1)
unfolding first_fault
worked-first_upstream_byte = refl

worked-first_revision_byte : first_fault (codes "1-2/3_4") ≡ Some (RevisionByte 3)
unfolding first_fault
worked-first_revision_byte = refl

worked-first_revision_colon : first_fault (codes "1:2-3:4_") ≡ Some (RevisionByte 5)
unfolding first_fault
worked-first_revision_colon = refl

-- Of two faults the one that is judged first is answered.
worked-epoch_then_revision : first_fault (codes ":-") ≡ Some EpochEmpty
unfolding first_fault
worked-epoch_then_revision = refl

worked-no_number_then_revision : first_fault (codes "a:1-") ≡ Some EpochNotNumber
unfolding first_fault
worked-no_number_then_revision = refl

worked-revision_then_upstream : first_fault (codes "1:-") ≡ Some RevisionEmpty
unfolding first_fault
worked-revision_then_upstream = refl

worked-upstream_then_revision : first_fault (codes "-_") ≡ Some UpstreamEmpty
unfolding first_fault
worked-upstream_then_revision = refl

worked-upstream_byte_first : first_fault (codes "1_-_") ≡ Some (UpstreamByte 1)
unfolding first_fault
worked-upstream_byte_first = refl

-- Places count the epoch and its colon; and a text without fault.
worked-place_behind_epoch : first_fault (codes "12:1_2-3") ≡ Some (UpstreamByte 4)
unfolding first_fault
worked-place_behind_epoch = refl

worked-place_in_revision : first_fault (codes "12:1-3_4") ≡ Some (RevisionByte 6)
unfolding first_fault
worked-place_in_revision = refl

worked-absent_upstream : first_fault (codes "-1") ≡ Some UpstreamEmpty
unfolding first_fault
worked-absent_upstream = refl

worked-no_fault : first_fault (codes "1:2-3") ≡ None
unfolding first_fault
worked-no_fault = refl

-- Of all bytes those that are a version by themselves, and that may begin one: no digit is asked.
worked-single_bytes : filter (λ b. is_none (first_fault (b ∷ []))) (range_with_len 0 256)
    ≡ codes "+.0123456789ABCDEFGHIJKLMNOPQRSTUVWXYZabcdefghijklmnopqrstuvwxyz~"
unfolding first_fault
worked-single_bytes = refl

worked-first_bytes : filter (λ b. is_none (first_fault (b ∷ codes "-1"))) (range_with_len 0 256)
    ≡ codes "+-.0123456789ABCDEFGHIJKLMNOPQRSTUVWXYZabcdefghijklmnopqrstuvwxyz~"
unfolding first_fault
worked-first_bytes = refl

worked-first_hyphen : first_fault (codes "-1-1") ≡ None
unfolding first_fault
worked-first_hyphen = refl

-- The last byte of a revision is any that a revision may have, and so is its first one.
worked-revision_bytes : filter (λ b. is_none (first_fault (49 ∷ 45 ∷ b ∷ [])))
    (range_with_len 0 256)
    ≡ codes "+.0123456789ABCDEFGHIJKLMNOPQRSTUVWXYZabcdefghijklmnopqrstuvwxyz~"
unfolding first_fault
worked-revision_bytes = refl

-- An epoch may be zero, have leading zeros, and have digits alone.
worked-zero_epochs : (first_fault (codes "0:1") ≡ None) × (first_fault (codes "000:1") ≡ None)
    × (first_fault (codes "007:1-1") ≡ None) × (first_fault (codes "0:") ≡ Some UpstreamEmpty)
unfolding first_fault
worked-zero_epochs = (refl, refl, refl, refl)

worked-epoch_bytes : filter (λ b. is_none (first_fault (b ∷ codes ":1"))) (range_with_len 0 256)
    ≡ codes "0123456789"
unfolding first_fault
worked-epoch_bytes = refl

worked-last_epoch_byte : (first_fault (codes "1+:1") ≡ Some EpochNotNumber)
    × (first_fault (codes "1~:1") ≡ Some EpochNotNumber)
    × (first_fault (codes " 1:1") ≡ Some EpochNotNumber)
unfolding first_fault
worked-last_epoch_byte = (refl, refl, refl)
