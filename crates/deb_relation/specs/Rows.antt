-- Worked cases of the reading of relations: the first step that fails, or the canonical text of
-- what is meant. Debian Policy 7.1.
use Rattle.std.specs.Prelude.{◌≡◌, ℕ, not, List, Some, Result, Ok, Err, filter}
use Rattle.std.specs.Prelude.{codes, refl}
use Rattle.std.specs.List.{range_with_len}
use Rattle.deb_version.specs.declared.fault.BadVersion.TheVariants.{Empty, UpstreamByte, UpstreamEmpty}
use Rattle.deb_version.specs.Faults.{first_fault as version_fault}
use Rattle.deb_relation.specs.declared.fault.Reason.{Reason}
use Rattle.deb_relation.specs.declared.fault.Reason.TheVariants.{NameExpected, NameBad}
use Rattle.deb_relation.specs.declared.fault.Reason.TheVariants.{QualifierBad, OperatorBad}
use Rattle.deb_relation.specs.declared.fault.Reason.TheVariants.{Version as VersionBad, Unclosed}
use Rattle.deb_relation.specs.declared.fault.Reason.TheVariants.{ItemBad}
use Rattle.deb_relation.specs.declared.fault.Reason.TheVariants.{MixedSigns, ListEmpty, Trailing}
use Rattle.deb_relation.specs.Faults.{first_fault}
use Rattle.deb_relation.specs.Meaning.{Relation}
use Rattle.deb_relation.specs.Reading.{is_white, is_in_name, is_in_operator, is_before}
use Rattle.deb_relation.specs.Reading.{gather, read_name, read_qualifier, read_operator}
use Rattle.deb_relation.specs.Reading.{read_version}
use Rattle.deb_relation.specs.Reading.{read_bound_behind, read_bound, next_architecture}
use Rattle.deb_relation.specs.Reading.{next_restriction}
use Rattle.deb_relation.specs.Reading.{read_list_end, read_names, read_architectures}
use Rattle.deb_relation.specs.Reading.{read_restrictions}
use Rattle.deb_relation.specs.Reading.{next_restrictions, read_formula, read_alternative}
use Rattle.deb_relation.specs.Reading.{next_alternative}
use Rattle.deb_relation.specs.Reading.{read_group, next_piece, read_relation, relation_in}
use Rattle.deb_relation.specs.Texts.{group_text, relation_text}

-- the reading with its steps laid open, so that cases compute: whoever unfolds `steps` has them
names : List ℕ → Result Relation (Reason × ℕ)
unfolding gather read_name read_qualifier
names text = relation_in text

bounds : List ℕ → Result Relation (Reason × ℕ)
unfolding names read_operator read_version version_fault read_bound_behind read_bound
bounds text = relation_in text

lists : List ℕ → Result Relation (Reason × ℕ)
unfolding bounds next_architecture next_restriction read_list_end read_names read_architectures
lists text = relation_in text

formulas : List ℕ → Result Relation (Reason × ℕ)
unfolding lists read_restrictions next_restrictions read_formula
formulas text = relation_in text

unfoldable pub steps : List ℕ → Result Relation (Reason × ℕ)
unfolding formulas read_alternative next_alternative read_group next_piece read_relation
steps text = relation_in text

abbrev text_of : Result Relation (Reason × ℕ) → Result (List ℕ) (Reason × ℕ)
text_of (Ok relation) = Ok (relation_text relation)
text_of (Err stopped) = Err stopped

-- Of all bytes those of white space, those of an operator's run, and those at which the other runs
-- end: a name, and a version, an architecture and a profile, each with its closing byte.
white_bytes : filter is_white (range_with_len 0 256) ≡ codes "\t\n "
white_bytes = refl

operator_bytes : filter is_in_operator (range_with_len 0 256) ≡ codes "<=>"
operator_bytes = refl

ends_of_names : filter (λ b. not (is_in_name b)) (range_with_len 0 256) ≡ codes "\t\n (),:<>[]|"
ends_of_names = refl

ends_of_versions : filter (λ b. not (is_before 41 b)) (range_with_len 0 256) ≡ codes "\t\n )"
ends_of_versions = refl

ends_of_architectures : filter (λ b. not (is_before 93 b)) (range_with_len 0 256) ≡ codes "\t\n ]"
ends_of_architectures = refl

ends_of_profiles : filter (λ b. not (is_before 62 b)) (range_with_len 0 256) ≡ codes "\t\n >"
ends_of_profiles = refl

-- The first step that fails, and its offset.
refused-1 : first_fault (codes "a") ≡ Some (NameBad, 0)
unfolding steps relation_in group_text
refused-1 = refl

refused-2 : first_fault (codes "${misc:Depends}") ≡ Some (NameBad, 0)
unfolding steps relation_in group_text
refused-2 = refl

refused-3 : first_fault (codes "aa | , bb") ≡ Some (NameExpected, 5)
unfolding steps relation_in group_text
refused-3 = refl

refused-4 : first_fault (codes "| aa") ≡ Some (NameExpected, 0)
unfolding steps relation_in group_text
refused-4 = refl

refused-5 : first_fault (codes "aa |") ≡ Some (NameExpected, 4)
unfolding steps relation_in group_text
refused-5 = refl

refused-6 : first_fault (codes "aa:") ≡ Some (QualifierBad, 3)
unfolding steps relation_in group_text
refused-6 = refl

refused-7 : first_fault (codes "aa:Any") ≡ Some (QualifierBad, 3)
unfolding steps relation_in group_text
refused-7 = refl

refused-8 : first_fault (codes "aa bb") ≡ Some (Trailing, 3)
unfolding steps relation_in group_text
refused-8 = refl

refused-9 : first_fault (codes "aa [x] (= 1)") ≡ Some (Trailing, 7)
unfolding steps relation_in group_text
refused-9 = refl

refused-10 : first_fault (codes "aa (1.0)") ≡ Some (OperatorBad, 4)
unfolding steps relation_in group_text
refused-10 = refl

refused-11 : first_fault (codes "aa (== 1)") ≡ Some (OperatorBad, 4)
unfolding steps relation_in group_text
refused-11 = refl

refused-12 : first_fault (codes "aa (=< 1)") ≡ Some (OperatorBad, 4)
unfolding steps relation_in group_text
refused-12 = refl

refused-13 : first_fault (codes "aa (<> 1)") ≡ Some (OperatorBad, 4)
unfolding steps relation_in group_text
refused-13 = refl

refused-14 : first_fault (codes "aa (") ≡ Some (OperatorBad, 4)
unfolding steps relation_in group_text
refused-14 = refl

refused-15 : first_fault (codes "aa (>= 1_0)") ≡ Some (VersionBad (UpstreamByte 1), 7)
unfolding steps relation_in group_text
refused-15 = refl

refused-16 : first_fault (codes "aa (>= 1") ≡ Some (Unclosed, 8)
unfolding steps relation_in group_text
refused-16 = refl

refused-17 : first_fault (codes "aa (>= )") ≡ Some (VersionBad Empty, 7)
unfolding steps relation_in group_text
refused-17 = refl

refused-18 : first_fault (codes "aa [amd64 !i386]") ≡ Some (MixedSigns, 10)
unfolding steps relation_in group_text
refused-18 = refl

refused-19 : first_fault (codes "aa [!amd64 i386]") ≡ Some (MixedSigns, 11)
unfolding steps relation_in group_text
refused-19 = refl

refused-20 : first_fault (codes "aa [amd64 I386]") ≡ Some (ItemBad, 10)
unfolding steps relation_in group_text
refused-20 = refl

refused-21 : first_fault (codes "aa []") ≡ Some (ListEmpty, 4)
unfolding steps relation_in group_text
refused-21 = refl

refused-22 : first_fault (codes "aa [") ≡ Some (Unclosed, 4)
unfolding steps relation_in group_text
refused-22 = refl

refused-23 : first_fault (codes "aa <!>") ≡ Some (ItemBad, 4)
unfolding steps relation_in group_text
refused-23 = refl

refused-24 : first_fault (codes "aa <x") ≡ Some (Unclosed, 5)
unfolding steps relation_in group_text
refused-24 = refl

refused-25 : first_fault (codes "aa < >") ≡ Some (ListEmpty, 5)
unfolding steps relation_in group_text
refused-25 = refl

refused-26 : first_fault (codes "A") ≡ Some (NameBad, 0)
unfolding steps relation_in group_text
refused-26 = refl

refused-27 : first_fault (codes "a [x] bb") ≡ Some (NameBad, 0)
unfolding steps relation_in group_text
refused-27 = refl

refused-28 : first_fault (codes "aa [I386 !i386") ≡ Some (ItemBad, 4)
unfolding steps relation_in group_text
refused-28 = refl

refused-29 : first_fault (codes "aa (<") ≡ Some (VersionBad Empty, 5)
unfolding steps relation_in group_text
refused-29 = refl

refused-30 : first_fault (codes "aa (=> 1)") ≡ Some (OperatorBad, 4)
unfolding steps relation_in group_text
refused-30 = refl

-- A run goes on over the bytes that end others, so the fault is that of the run, at its start.
run-1 : first_fault (codes "aa=1") ≡ Some (NameBad, 0)
unfolding steps relation_in group_text
run-1 = refl

run-2 : first_fault (codes "aa\r") ≡ Some (NameBad, 0)
unfolding steps relation_in group_text
run-2 = refl

run-3 : first_fault (codes "aa!") ≡ Some (NameBad, 0)
unfolding steps relation_in group_text
run-3 = refl

run-4 : first_fault (codes "aa:x=") ≡ Some (QualifierBad, 3)
unfolding steps relation_in group_text
run-4 = refl

run-5 : first_fault (codes "aa (<<< 1)") ≡ Some (OperatorBad, 4)
unfolding steps relation_in group_text
run-5 = refl

run-6 : first_fault (codes "aa (>== 1)") ≡ Some (OperatorBad, 4)
unfolding steps relation_in group_text
run-6 = refl

run-7 : first_fault (codes "aa (= = 1)") ≡ Some (VersionBad (UpstreamByte 0), 6)
unfolding steps relation_in group_text
run-7 = refl

run-8 : first_fault (codes "aa (>= 1|2)") ≡ Some (VersionBad (UpstreamByte 1), 7)
unfolding steps relation_in group_text
run-8 = refl

run-9 : first_fault (codes "aa (>= 1(2)") ≡ Some (VersionBad (UpstreamByte 1), 7)
unfolding steps relation_in group_text
run-9 = refl

run-10 : first_fault (codes "aa (>= 1]") ≡ Some (VersionBad (UpstreamByte 1), 7)
unfolding steps relation_in group_text
run-10 = refl

run-11 : first_fault (codes "aa (>= 1>") ≡ Some (VersionBad (UpstreamByte 1), 7)
unfolding steps relation_in group_text
run-11 = refl

run-12 : first_fault (codes "aa (>= 1\r)") ≡ Some (VersionBad (UpstreamByte 1), 7)
unfolding steps relation_in group_text
run-12 = refl

run-13 : first_fault (codes "aa [x>]") ≡ Some (ItemBad, 4)
unfolding steps relation_in group_text
run-13 = refl

run-14 : first_fault (codes "aa [x,y]") ≡ Some (ItemBad, 4)
unfolding steps relation_in group_text
run-14 = refl

run-15 : first_fault (codes "aa [x|y]") ≡ Some (ItemBad, 4)
unfolding steps relation_in group_text
run-15 = refl

run-16 : first_fault (codes "aa [x )]") ≡ Some (ItemBad, 6)
unfolding steps relation_in group_text
run-16 = refl

run-17 : first_fault (codes "aa [!!x]") ≡ Some (ItemBad, 4)
unfolding steps relation_in group_text
run-17 = refl

run-18 : first_fault (codes "aa <x]>") ≡ Some (ItemBad, 4)
unfolding steps relation_in group_text
run-18 = refl

run-19 : first_fault (codes "aa <x y,z>") ≡ Some (ItemBad, 6)
unfolding steps relation_in group_text
run-19 = refl

run-20 : first_fault (codes "aa <x (y>") ≡ Some (ItemBad, 6)
unfolding steps relation_in group_text
run-20 = refl

-- Each thing comes once, and in its order.
order-1 : first_fault (codes "aa (= 1) (= 2)") ≡ Some (Trailing, 9)
unfolding steps relation_in group_text
order-1 = refl

order-2 : first_fault (codes "aa <x> [y]") ≡ Some (Trailing, 7)
unfolding steps relation_in group_text
order-2 = refl

order-3 : first_fault (codes "aa <x> (= 1)") ≡ Some (Trailing, 7)
unfolding steps relation_in group_text
order-3 = refl

order-4 : first_fault (codes "aa (= 1):any") ≡ Some (Trailing, 8)
unfolding steps relation_in group_text
order-4 = refl

order-5 : first_fault (codes "aa \r") ≡ Some (Trailing, 3)
unfolding steps relation_in group_text
order-5 = refl

-- If two steps fail at one offset, the earlier one is reported.
earlier-1 : first_fault (codes ":any") ≡ Some (NameExpected, 0)
unfolding steps relation_in group_text
earlier-1 = refl

earlier-2 : first_fault (codes "aa :any") ≡ Some (Trailing, 3)
unfolding steps relation_in group_text
earlier-2 = refl

earlier-3 : first_fault (codes "aa: any") ≡ Some (QualifierBad, 3)
unfolding steps relation_in group_text
earlier-3 = refl

earlier-4 : first_fault (codes "aa:any:any") ≡ Some (Trailing, 6)
unfolding steps relation_in group_text
earlier-4 = refl

earlier-5 : first_fault (codes "aa ()") ≡ Some (OperatorBad, 4)
unfolding steps relation_in group_text
earlier-5 = refl

earlier-6 : first_fault (codes "aa (>=") ≡ Some (VersionBad Empty, 6)
unfolding steps relation_in group_text
earlier-6 = refl

earlier-7 : first_fault (codes "aa (>= 1,2)") ≡ Some (VersionBad (UpstreamByte 1), 7)
unfolding steps relation_in group_text
earlier-7 = refl

earlier-8 : first_fault (codes "aa (>= 1 2)") ≡ Some (Unclosed, 9)
unfolding steps relation_in group_text
earlier-8 = refl

earlier-9 : first_fault (codes "aa [amd64 !I386]") ≡ Some (ItemBad, 10)
unfolding steps relation_in group_text
earlier-9 = refl

earlier-10 : first_fault (codes "aa [!]") ≡ Some (ItemBad, 4)
unfolding steps relation_in group_text
earlier-10 = refl

earlier-11 : first_fault (codes "aa [x !y") ≡ Some (MixedSigns, 6)
unfolding steps relation_in group_text
earlier-11 = refl

earlier-12 : first_fault (codes "aa [ ") ≡ Some (Unclosed, 5)
unfolding steps relation_in group_text
earlier-12 = refl

earlier-13 : first_fault (codes "aa)") ≡ Some (Trailing, 2)
unfolding steps relation_in group_text
earlier-13 = refl

earlier-14 : first_fault (codes "aa]") ≡ Some (Trailing, 2)
unfolding steps relation_in group_text
earlier-14 = refl

earlier-15 : first_fault (codes "aa>") ≡ Some (Trailing, 2)
unfolding steps relation_in group_text
earlier-15 = refl

earlier-16 : first_fault (codes "aa |, bb") ≡ Some (NameExpected, 4)
unfolding steps relation_in group_text
earlier-16 = refl

-- The canonical text of what a text means.
accepted-1 : text_of (relation_in (codes "")) ≡ Ok (codes "")
unfolding steps relation_in group_text
accepted-1 = refl

accepted-2 : text_of (relation_in (codes " , ,")) ≡ Ok (codes "")
unfolding steps relation_in group_text
accepted-2 = refl

accepted-3 : text_of (relation_in (codes "\taa\n")) ≡ Ok (codes "aa")
unfolding steps relation_in group_text
accepted-3 = refl

accepted-4 : text_of (relation_in (codes "bb,aa")) ≡ Ok (codes "aa, bb")
unfolding steps relation_in group_text
accepted-4 = refl

accepted-5 : text_of (relation_in (codes "aa,aa")) ≡ Ok (codes "aa")
unfolding steps relation_in group_text
accepted-5 = refl

accepted-6 : text_of (relation_in (codes "bb|aa|bb")) ≡ Ok (codes "bb | aa | bb")
unfolding steps relation_in group_text
accepted-6 = refl

accepted-7 : text_of (relation_in (codes "aa:any(>=1.)[x]<y>"))
    ≡ Ok (codes "aa:any (>= 1.0) [x] <y>")
unfolding steps relation_in group_text
accepted-7 = refl

accepted-8 : text_of (relation_in (codes "aa <b> <a> <a b>")) ≡ Ok (codes "aa <a b> <a> <b>")
unfolding steps relation_in group_text
accepted-8 = refl

accepted-9 : text_of (relation_in (codes "aa [i386 amd64 i386]")) ≡ Ok (codes "aa [amd64 i386]")
unfolding steps relation_in group_text
accepted-9 = refl

accepted-10 : text_of (relation_in (codes "aa [!i386 !amd64]")) ≡ Ok (codes "aa [!amd64 !i386]")
unfolding steps relation_in group_text
accepted-10 = refl

accepted-11 : text_of (relation_in (codes "aa <b !a b>")) ≡ Ok (codes "aa <!a b>")
unfolding steps relation_in group_text
accepted-11 = refl

accepted-12 : text_of (relation_in (codes "aa (= 1.0-0), aa (= 0:1.00)")) ≡ Ok (codes "aa (= 1.0)")
unfolding steps relation_in group_text
accepted-12 = refl

accepted-13 : text_of (relation_in (codes "aa(<<1),aa(<=1),aa(=1),aa(>=1),aa(>>1)"))
    ≡ Ok (codes "aa (<< 1), aa (<= 1), aa (= 1), aa (>= 1), aa (>> 1)")
unfolding steps relation_in group_text
accepted-13 = refl

-- The former `<` and `>` are `<=` and `>=`.
former-1 : text_of (relation_in (codes "aa (< 1), aa (<= 01)")) ≡ Ok (codes "aa (<= 1)")
unfolding steps relation_in group_text
former-1 = refl

former-2 : text_of (relation_in (codes "aa(>1.)")) ≡ Ok (codes "aa (>= 1.0)")
unfolding steps relation_in group_text
former-2 = refl

-- Qualifiers: any name of an architecture, and nothing else.
qualifier-1 : text_of (relation_in (codes "aa:any, bb:native, cc:linux-any, dd:all"))
    ≡ Ok (codes "aa:any, bb:native, cc:linux-any, dd:all")
unfolding steps relation_in group_text
qualifier-1 = refl

qualifier-2 : text_of (relation_in (codes "aa:3-,aa:x(=1)")) ≡ Ok (codes "aa:3-, aa:x (= 1)")
unfolding steps relation_in group_text
qualifier-2 = refl

qualifier-3 : first_fault (codes "aa:-a") ≡ Some (QualifierBad, 3)
unfolding steps relation_in group_text
qualifier-3 = refl

qualifier-4 : first_fault (codes "aa:a+") ≡ Some (QualifierBad, 3)
unfolding steps relation_in group_text
qualifier-4 = refl

qualifier-5 : first_fault (codes "bb, aa:[x]") ≡ Some (QualifierBad, 7)
unfolding steps relation_in group_text
qualifier-5 = refl

-- Repeats: a group's alternatives keep theirs, and lists, formulas and relations lose them.
repeats-1 : text_of (relation_in (codes "aa|aa,aa|aa,bb")) ≡ Ok (codes "aa | aa, bb")
unfolding steps relation_in group_text
repeats-1 = refl

repeats-2 : text_of (relation_in (codes "aa[x x y]<b><b><a a>")) ≡ Ok (codes "aa [x y] <a> <b>")
unfolding steps relation_in group_text
repeats-2 = refl

-- Names of one byte: of an architecture and of a profile, and not of a package.
short-1 : text_of (relation_in (codes "aa [x] <y>")) ≡ Ok (codes "aa [x] <y>")
unfolding steps relation_in group_text
short-1 = refl

-- An offset counts bytes from the text's begin, white space and earlier groups among them.
place-1 : first_fault (codes "\n aa,\n bb (>> 1:)") ≡ Some (VersionBad UpstreamEmpty, 14)
unfolding steps relation_in group_text
place-1 = refl

place-2 : first_fault (codes "aa | bb [x !y], cc") ≡ Some (MixedSigns, 11)
unfolding steps relation_in group_text
place-2 = refl
