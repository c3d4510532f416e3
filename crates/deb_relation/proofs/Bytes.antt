-- The bytes of names, items and versions: none of them ends a run that they are in.
use Rattle.std.proofs.Common.{◌≡◌, ◌≢◌, ℕ, ◌==◌, ◌||◌, ◌&&◌, Bool, true, false, not, List, [], ◌∷◌, ◌++◌, length, nat_le, IsTrue, None, Some, refl, ap, subst, rules, tests}
use Rattle.std.specs.List.{AllByRecursion, list_all}
use Rattle.std.proofs.lemmas.Bool.Decides.{Decides-eqb}
use Rattle.std.proofs.lemmas.Bool.{and_parts, ne_eqb, false≢true}
use Rattle.deb_base.specs.PackageNames.{is_small_or_digit, is_package_byte, is_arch_byte, is_package_name, is_arch_name, is_profile_name}
use Rattle.deb_version.specs.Parts.{Meaning as Version}
use Rattle.deb_version.specs.Grammar.{SpellsVersion}
use Rattle.deb_version.proofs.ByteLemmas.{differs, all_pass-fact, empty-test}
use Rattle.deb_base.proofs.AllElements.{All-weaker}
use Rattle.deb_base.proofs.GraphicBodies.{IsGraphic}
use Rattle.deb_version.proofs.VersionBytes.{is_version_byte, version_bytes}
use Rattle.deb_version.specs.PartsLemmas.{cons_not_nil}
use Rattle.deb_version.specs.Faults.{first_fault}
use Rattle.deb_version.specs.declared.fault.BadVersion.TheVariants.{Empty}
use Rattle.deb_version.proofs.FaultLemmas.{no_fault-from_spells}
use Rattle.deb_relation.specs.Reading.{begins, is_at_end, is_before, is_in_name, is_in_operator, is_white}
use Rattle.deb_relation.specs.Texts.{signed_text}
use Rattle.deb_relation.proofs.Runs.{Passes, Stops, stops-append, stops-each}

-- a byte that passes a test isn't one that fails it
pub other : (test : ℕ → Bool) (n : ℕ) → test n ≡ false → (b : ℕ) → test b ≡ true → (b == n) ≡ false
other test n fails b passes = ne_eqb b n (differs test n fails b passes)

not_white : (test : ℕ → Bool) → test 32 ≡ false → test 9 ≡ false → test 10 ≡ false → (b : ℕ) → test b ≡ true → is_white b ≡ false
not_white test s t l b p = rw (other test 32 s b p, other test 9 t b p, other test 10 l b p) refl

pub package_white : (b : ℕ) → IsTrue (is_package_byte b) → is_white b ≡ false
package_white b p = not_white is_package_byte refl refl refl b p

pub in_name : (b : ℕ) → IsTrue (is_package_byte b) → IsTrue (is_in_name b)
in_name b p =
    let is = other is_package_byte in
    rw (package_white b p, is 44 refl b p, is 124 refl b p, is 40 refl b p, is 41 refl b p, is 91 refl b p, is 93 refl b p, is 60 refl b p, is 62 refl b p, is 58 refl b p) refl

pub before_close : (close : ℕ) → is_package_byte close ≡ false → (b : ℕ) → IsTrue (is_package_byte b) → IsTrue (is_before close b)
before_close close c b p = rw (package_white b p, other is_package_byte close c b p) refl

-- the bytes of an architecture's name are those of a package's
arch_byte : (b : ℕ) → IsTrue (is_arch_byte b) → IsTrue (is_package_byte b)
arch_byte b p = by_sides (is_small_or_digit b) (b == 43) (b == 45) (b == 46) p
  where
    by_sides : (small plus hyphen dot : Bool) → (small || hyphen) ≡ true → (small || plus || hyphen || dot) ≡ true
    by_sides true plus hyphen dot e = refl
    by_sides false true hyphen dot e = refl
    by_sides false false true dot e = refl
    by_sides false false false dot e = cc

pub arch_bytes : (name : List ℕ) → IsTrue (is_arch_name name) → Passes is_package_byte name
arch_bytes [] is = tt
arch_bytes (b ∷ bs) is = All-weaker _ _ arch_byte (b ∷ bs) (all_pass-fact is_arch_byte (b ∷ bs) (and_parts (is_small_or_digit b) (list_all is_arch_byte (b ∷ bs)) is).1)

pub profile_bytes : (name : List ℕ) → IsTrue (is_profile_name name) → Passes is_package_byte name
profile_bytes [] is = tt
profile_bytes (b ∷ bs) is = all_pass-fact is_package_byte (b ∷ bs) (and_parts (is_small_or_digit b) (list_all is_package_byte (b ∷ bs)) is).1

pub package_bytes : (name : List ℕ) → IsTrue (is_package_name name) → Passes is_package_byte name
package_bytes [] is = tt
package_bytes (b ∷ bs) is =
    let sides = and_parts (nat_le 2 (length (b ∷ bs)) && is_small_or_digit b) (list_all is_package_byte (b ∷ bs)) is in
    all_pass-fact is_package_byte (b ∷ bs) sides.1

-- the run of a name, and of an item
pub name_run : (name : List ℕ) → Passes is_package_byte name → Passes is_in_name name
name_run name all = All-weaker _ _ in_name name all

-- an item's `!` is no white space and ends no item
pub signed_run : (negated : Bool) (name : List ℕ) (close : ℕ) → is_package_byte close ≡ false → is_before close 33 ≡ true → Passes is_package_byte name → Passes (is_before close) (signed_text negated name)
signed_run true name close c mark all = (mark, All-weaker _ _ (before_close close c) name all)
signed_run false name close c mark all = All-weaker _ _ (before_close close c) name all

pub signed_stops : (negated : Bool) (name rest : List ℕ) → name ≢ [] → Passes is_package_byte name → Stops is_white (signed_text negated name ++ rest)
signed_stops true name rest some all = refl
signed_stops false [] rest some all = absurd (some refl)
signed_stops false (b ∷ bs) rest some all = package_white b all.0

-- the sign and the name of an item
pub begins-signed : (negated : Bool) (name : List ℕ) → Passes is_package_byte name → begins 33 (signed_text negated name) ≡ negated
begins-signed true name all = refl
begins-signed false [] all = refl
begins-signed false (b ∷ bs) all = other is_package_byte 33 refl b all.0

pub at_end-some : (text : List ℕ) → text ≢ [] → is_at_end text ≡ false
at_end-some text some = empty-test text some

pub arch_some : (name : List ℕ) → IsTrue (is_arch_name name) → name ≢ []
arch_some name is e = let no : is_arch_name [] ≡ true = subst (λ n. is_arch_name n ≡ true) e is in false≢true no

pub profile_some : (name : List ℕ) → IsTrue (is_profile_name name) → name ≢ []
profile_some name is e = let no : is_profile_name [] ≡ true = subst (λ n. is_profile_name n ≡ true) e is in false≢true no

pub package_some : (name : List ℕ) → IsTrue (is_package_name name) → name ≢ []
package_some name is e = let no : is_package_name [] ≡ true = subst (λ n. is_package_name n ≡ true) e is in false≢true no

graphic_version : (b : ℕ) → IsTrue (is_version_byte b) → IsGraphic b
graphic_version b h = search (rules, tests)

-- the bytes of a version are graphic
pub version_graphic : (text : List ℕ) (m : Version) → SpellsVersion text m → AllByRecursion IsGraphic text
version_graphic text m spells = All-weaker _ IsGraphic graphic_version text (version_bytes text m spells)

version_white : (b : ℕ) → IsTrue (is_version_byte b) → is_white b ≡ false
version_white b p = not_white is_version_byte refl refl refl b p

version_before : (b : ℕ) → IsTrue (is_version_byte b) → IsTrue (is_before 41 b)
version_before b p = rw (version_white b p, other is_version_byte 41 refl b p) refl

version_operator : (b : ℕ) → IsTrue (is_version_byte b) → is_in_operator b ≡ false
version_operator b p = let is = other is_version_byte in rw (is 60 refl b p, is 61 refl b p, is 62 refl b p) refl

pub version_run : (text : List ℕ) → Passes is_version_byte text → Passes (is_before 41) text
version_run text all = All-weaker _ _ version_before text all

pub version_stops_operator : (text rest : List ℕ) → Passes is_version_byte text → Stops is_in_operator rest → Stops is_in_operator (text ++ rest)
version_stops_operator text rest all stops = stops-append is_in_operator text rest (stops-each _ is_in_operator version_operator text all) stops

white_operator : (b : ℕ) → IsTrue (is_white b) → is_in_operator b ≡ false
white_operator b p = let is = other is_white in rw (is 60 refl b p, is 61 refl b p, is 62 refl b p) refl

pub white_stops_operator : (white rest : List ℕ) → Passes is_white white → Stops is_in_operator rest → Stops is_in_operator (white ++ rest)
white_stops_operator white rest all stops = stops-append is_in_operator white rest (stops-each _ is_in_operator white_operator white all) stops

pub version_some : (text : List ℕ) (m : Version) → SpellsVersion text m → text ≢ []
unfolding first_fault
version_some text m spells e =
    let none : first_fault [] ≡ None = no_fault-from_spells [] m (subst (λ t. SpellsVersion t m) e spells) in
    let some : first_fault [] ≡ Some Empty = refl in
    absurd cc

-- white space ends the run of a version and of an item, and so does the closing byte
white_before : (close b : ℕ) → IsTrue (is_white b) → is_before close b ≡ false
white_before close b p = ap (λ v. not (v || (b == close))) p

close_before : (close : ℕ) → is_white close ≡ false → is_before close close ≡ false
close_before close w = let same : (close == close) ≡ true = (Decides-eqb close close).1 refl in rw (w, same) refl

pub white_stops_close : (close : ℕ) (white more : List ℕ) → is_white close ≡ false → Passes is_white white → Stops (is_before close) (white ++ close ∷ more)
white_stops_close close white more c all = stops-append (is_before close) white (close ∷ more) (stops-each _ (is_before close) (white_before close) white all) (close_before close c)

pub version_first : (text rest : List ℕ) → text ≢ [] → Passes is_version_byte text → Stops is_white (text ++ rest)
version_first [] rest some all = absurd (some refl)
version_first (b ∷ bs) rest some all = version_white b all.0

-- a signed name has a byte
pub signed-some : (negated : Bool) (name : List ℕ) → name ≢ [] → signed_text negated name ≢ []
signed-some true name some e = cons_not_nil 33 name e
signed-some false name some e = some e
