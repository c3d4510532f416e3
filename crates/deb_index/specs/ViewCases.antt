-- Worked cases of what the contracts see of the code's values, which are written out here: each
-- field under its own name, and lists in their order.
use Rattle.std.specs.Prelude.{◌≡◌, ℕ, ◌+◌, ◌==◌, ◌&&◌, true, false, cond, List, [], ◌∷◌, map, Option, None, Some, codes, refl, zero, suc, ◌<◌}
use Rattle.std.specs.Option.{option_map}
use Rattle.std.specs.List.{All, AllPairs}
use Rattle.std.specs.Map.{lookup}
use Rattle.std.specs.Ordering.{is_lt}
use Rattle.std.specs.Str.{bytes_eq}
use Rattle.std.specs.declared.cmp.Ordering.TheVariants.{Less, Equal as Same, Greater}
use Rattle.std.proofs.Common.{ap, ◌∙◌, arith}
use Rattle.deb_version.specs.Canonical.{version_text}
use Rattle.deb_version.specs.Faults.{first_fault}
use Rattle.deb_version.specs.Order.{version_cmp}
use Rattle.deb_version.specs.Places.{version_in}
use Rattle.deb_relation.specs.declared.operator.Op.TheVariants.{Equal}
use Rattle.deb_field.specs.declared.flag.MultiArch.TheVariants.{Foreign}
use Rattle.deb_index.specs.AnswerStores.{answers_in, numbered, span_of}
use Rattle.deb_index.specs.Crowds.{comes_first, passes}
use Rattle.deb_index.specs.Entries.{IsFaultless, Places, entry_name}
use Rattle.deb_index.specs.Files.{file_shown}
use Rattle.deb_index.specs.Indexes.{counts_of, lines_of, number_in, packages_of, spellings_of}
use Rattle.deb_index.specs.Kept.{line_of, listed_of, spelling_of}
use Rattle.deb_index.specs.Laws.{two_newlines}
use Rattle.deb_index.specs.Listed.{Listed, Provision}
use Rattle.deb_index.specs.Named.{AreNumbers}
use Rattle.deb_index.specs.Offers.{number_of, offer_cmp, offered, standing}
use Rattle.deb_index.specs.ProvidedNames.{IsNotAfter}
use Rattle.deb_index.specs.Maps.{list_under, numbers_under, numbers_with}
use Rattle.deb_index.specs.Reported.{found_of}
use Rattle.deb_index.specs.Stores.{line_by, listed_by, spelling_by, lines_in, listed_in, spellings_in}
use Rattle.deb_index.specs.VersionSpellings.{spelling_or}
use Rattle.deb_index.specs.declared.answer_store.AnswerStore.{AnswerStore}
use Rattle.deb_index.specs.declared.index.Index.{Index}
use Rattle.deb_index.specs.declared.names.Names.{Names}
use Rattle.deb_index.specs.declared.package.Package.{Package}
use Rattle.deb_index.specs.declared.store.Record.{Record}
use Rattle.deb_index.specs.declared.store.Store.{Store}
use Rattle.deb_index.specs.declared.verdict.Verdict.TheVariants.{Ignored, Met, Unmet}
use Rattle.deb_base.specs.Literals.{lent, vector}
use Rattle.deb_base.specs.declared.version_text.VersionText.TheVariants.{Canonical, Spelled}
use Rattle.deb_index.specs.Detailed.{detailed_of, details_cut, details_left, details_of}
use Rattle.deb_index.specs.ReportText.{VersionShown, version_shown, with_files}
use Rattle.deb_index.specs.Reports.{Answer}
use Rattle.deb_index.specs.ShownVersions.{counts_detailed, files_by, shown_by, spellings_detailed, version_by}
use Rattle.deb_index.specs.declared.answer_store.AnswerSpan.{AnswerSpan}

-- aa in version 1, which provides vv in version 3 and ww without one; and bb in version 2, which
-- provides vv in version 4
abbrev record_of : ℕ → ℕ → ℕ → ℕ → ℕ → Record
record_of start architecture_end first entries_end line =
    record {
      start = start;
      name_end = start + 2;
      version_end = start + 3;
      besides_end = start + 3;
      architecture_end = architecture_end;
      first = first;
      entries_end = entries_end;
      line = line;
      multi_arch = None;
    }

abbrev two_packages : Store
two_packages =
    record {
      bytes = vector (codes "aa1allvv (= 3), wwbb2i386vv (= 4)") refl;
      entries = vector
          (record { start = 6; name_end = 8; version = 12; end = 13; number = 1 }
          ∷ record { start = 16; name_end = 18; version = 18; end = 18; number = 1 }
          ∷ record { start = 25; name_end = 27; version = 31; end = 32; number = 2 } ∷ [])
          refl;
      records = vector (record_of 0 6 0 2 1 ∷ record_of 18 25 2 3 7 ∷ []) refl;
      files = vector (1 ∷ 1 ∷ []) refl;
    }

-- the own versions of aa and bb, vv in version 3, ww, vv in version 4, and what is no offer
worked-offered : map (offered two_packages) (0 ∷ 1 ∷ 2 ∷ 3 ∷ 4 ∷ 5 ∷ [])
    ≡ Some (version_in (codes "1")) ∷ Some (version_in (codes "2"))
    ∷ Some (version_in (codes "3")) ∷ None ∷ Some (version_in (codes "4")) ∷ None ∷ []
worked-offered = refl

worked-number_of : map (number_of two_packages) (0 ∷ 1 ∷ 2 ∷ 3 ∷ 4 ∷ 5 ∷ [])
    ≡ 1 ∷ 2 ∷ 1 ∷ 1 ∷ 2 ∷ 0 ∷ []
worked-number_of = refl

-- two versions, each with itself and with the other, and ww with one
worked-offer_cmp : map (λ o. map (offer_cmp two_packages o) (2 ∷ 3 ∷ 4 ∷ [])) (2 ∷ 3 ∷ 4 ∷ [])
    ≡ (Same ∷ Greater ∷ Less ∷ []) ∷ (Less ∷ Same ∷ Less ∷ [])
    ∷ (Greater ∷ Greater ∷ Same ∷ []) ∷ []
worked-offer_cmp = refl

worked-comes_first : map (comes_first two_packages 2) (2 ∷ 3 ∷ 4 ∷ []) ≡ false ∷ false ∷ true ∷ []
worked-comes_first = refl

-- to `= 3`: versions 1 and 2, 3, ww and 4
worked-standing : map (standing two_packages (Equal, version_in (codes "3")))
    (0 ∷ 1 ∷ 2 ∷ 3 ∷ 4 ∷ [])
    ≡ Less ∷ Less ∷ Same ∷ Less ∷ Greater ∷ []
worked-standing = refl

-- the second package in version 2, in version 4, and in another
worked-passes : map (passes
    (λ n version. (n == 2) && is_lt (version_cmp version (version_in (codes "5"))))
    two_packages) (0 ∷ 1 ∷ 2 ∷ 3 ∷ 4 ∷ [])
    ≡ false ∷ true ∷ false ∷ false ∷ true ∷ []
worked-passes = refl

abbrev provided_from : ℕ → List Places
provided_from n = record { start = n; name_end = n + 2; version = n + 2; end = n + 2; number = 2 }
    ∷ record { start = n + 4; name_end = n + 6; version = n + 10; end = n + 11; number = 2 } ∷ []

abbrev provided : List Places
provided = provided_from 0

abbrev provides : List ℕ
provides = codes "vv, ww (= 2)"

ascend : AllPairs IsNotAfter (map (entry_name provides) provided)
ascend zero zero d before within = absurd (omega (arith, before))
ascend zero (suc zero) d before within = refl
ascend zero (suc (suc j)) d before within =
    let short : suc (suc j) < 2 = within in
    absurd (omega (arith, short))
ascend (suc i) j d before within =
    let short : j < 2 = within in
    absurd (omega (arith, before, short))

faultless : All (IsFaultless provides) provided
unfolding first_fault
faultless zero d within = refl
faultless (suc zero) d within = refl
faultless (suc (suc k)) d within =
    let short : suc (suc k) < 2 = within in
    absurd (omega (arith, short))

-- aa for all with Multi-Arch `foreign`, which provides vv, and ww in a version; its version is
-- spelled canonically, or by another text
abbrev package_by : (besides : List ℕ) → first_fault (spelling_or (codes "1.0") besides) ≡ None
    → version_text (version_in (spelling_or (codes "1.0") besides)) ≡ codes "1.0" → Package
unfolding first_fault
package_by besides is_version equal =
    record {
      name = lent (codes "aa");
      version = lent (codes "1.0");
      besides = lent besides;
      architecture = lent (codes "all");
      line = 7;
      multi_arch = Some Foreign;
      provisions = record {
        text = lent provides;
        entries = lent provided;
        ascend = ascend;
        faultless = faultless;
      };
      faultless = refl;
      canonical = refl;
      is_version = is_version;
      equal = equal;
    }

abbrev a_package : Package
unfolding package_by first_fault
a_package = package_by [] refl refl

abbrev spelled_package : Package
unfolding package_by first_fault
spelled_package = package_by (codes "01.0") refl refl

abbrev foreign : List Provision → Listed
foreign provisions =
    record {
      name = codes "aa";
      version = version_in (codes "1.0");
      architecture = codes "all";
      multi_arch = Some Foreign;
      provisions = provisions;
    }

abbrev two : List Provision
two = record { name = codes "vv"; version = None }
    ∷ record { name = codes "ww"; version = Some (version_in (codes "2")) } ∷ []

worked-package : (listed_of a_package ≡ foreign two) × (line_of a_package ≡ 7)
    × (map spelling_of (a_package ∷ spelled_package ∷ []) ≡ codes "1.0" ∷ codes "01.0" ∷ [])
    × (found_of (record { number = 2; «package» = a_package }) ≡ (2, foreign two))
unfolding a_package spelled_package package_by
worked-package = (refl, refl, refl, refl)

-- the same package after another one in a store
abbrev second : Record
second =
    record {
      start = 2;
      name_end = 4;
      version_end = 7;
      besides_end = 7;
      architecture_end = 10;
      first = 0;
      entries_end = 2;
      line = 5;
      multi_arch = Some Foreign;
    }

worked-second :
    (listed_by (codes "xxaa1.0allvv, ww (= 2)yy") (provided_from 10) second ≡ foreign two)
    × (line_by second ≡ 5)
    × (spelling_by (codes "xxaa1.0allvv, ww (= 2)yy") second ≡ codes "1.0")
worked-second = (refl, refl, refl)

-- and the same where the text of its version is kept too
abbrev other : Record
other =
    record {
      start = 2;
      name_end = 4;
      version_end = 7;
      besides_end = 12;
      architecture_end = 15;
      first = 0;
      entries_end = 2;
      line = 5;
      multi_arch = Some Foreign;
    }

worked-other :
    (listed_by (codes "xxaa1.00:1.0allvv, ww (= 2)yy") (provided_from 15) other ≡ foreign two)
    × (spelling_by (codes "xxaa1.00:1.0allvv, ww (= 2)yy") other ≡ codes "0:1.0")
worked-other = (refl, refl)

-- aa under 1 and 3, and vv under 2: names that are there, a prefix of one, and another one
worked-numbers : (names : Names)
    → names.last.entries
    ≡ (vector (codes "aa") refl, 3) ∷ (vector (codes "vv") refl, 2) ∷ []
    → names.lists.entries ≡ (vector (codes "aa") refl, vector (1 ∷ 3 ∷ []) refl) ∷ []
    → map (numbers_under names) (codes "aa" ∷ codes "vv" ∷ codes "a" ∷ codes "ww" ∷ [])
    ≡ (1 ∷ 3 ∷ []) ∷ (2 ∷ []) ∷ [] ∷ [] ∷ []
worked-numbers names last lists =
    ap (λ entries. map
    (λ name. numbers_with (list_under names.lists name)
    (lookup (λ k. bytes_eq name k.items) entries))
    (codes "aa" ∷ codes "vv" ∷ codes "a" ∷ codes "ww" ∷ [])) last
    ∙ ap (λ entries. map
    (λ name. numbers_with
    (option_map (λ v. v.items) (lookup (λ k. bytes_eq name k.items) entries))
    (lookup (λ k. bytes_eq name k.items)
    ((vector (codes "aa") refl, 3) ∷ (vector (codes "vv") refl, 2) ∷ [])))
    (codes "aa" ∷ codes "vv" ∷ codes "a" ∷ codes "ww" ∷ [])) lists

-- ---- of an index with these packages

abbrev aa : Listed
aa = record {
  name = codes "aa";
  version = version_in (codes "1");
  architecture = codes "all";
  multi_arch = None;
  provisions = record { name = codes "vv"; version = Some (version_in (codes "3")) }
      ∷ record { name = codes "ww"; version = None } ∷ [];
}

abbrev bb : Listed
bb = record {
  name = codes "bb";
  version = version_in (codes "2");
  architecture = codes "i386";
  multi_arch = None;
  provisions = record { name = codes "vv"; version = Some (version_in (codes "4")) } ∷ [];
}

-- the packages, their lines and spelled versions, how many each file has, and the packages of two
-- offers
worked-packages : (index : Index) → index.store ≡ two_packages
    → ◌≡◌ {A = List Listed × List ℕ × List (List ℕ) × List ℕ × List ℕ} (
      packages_of index,
      lines_of index,
      spellings_of index,
      counts_of index,
      map (number_in index) (0 ∷ 4 ∷ []),
    ) (aa ∷ bb ∷ [], 1 ∷ 7 ∷ [], codes "1" ∷ codes "2" ∷ [], 1 ∷ 1 ∷ [], 1 ∷ 2 ∷ [])
worked-packages index =
    ap (λ store. (
      listed_in store,
      lines_in store,
      spellings_in store,
      store.files.items,
      map (number_of store) (0 ∷ 4 ∷ []),
    ))

-- the canonical version of a package, and that of a number as the file spells it
worked-versions : (index : Index) → index.store ≡ two_packages
    → map
    (λ chosen. (shown_by (record { index = lent index; chosen = chosen; files = true })).version
    (1, bb)) (Canonical ∷ Spelled ∷ [])
    ≡ codes "2" ∷ codes "1" ∷ []
worked-versions index =
    ap (λ store. map (λ chosen. (version_shown chosen (spellings_in store)).version (1, bb))
    (Canonical ∷ Spelled ∷ []))

-- the file of a number, if files are named
worked-files : (index : Index) → index.store ≡ two_packages
    → map
    (λ files. (shown_by (record { index = lent index; chosen = Spelled; files = files })).file
    (2, bb)) (true ∷ false ∷ [])
    ≡ Some 2 ∷ None ∷ []
worked-files index =
    ap (λ store. map (λ files. cond files (file_shown store.files.items 2) None)
    (true ∷ false ∷ []))

-- the version of the first number, and the files of the two numbers and of one without a package
abbrev seen : VersionShown → List ℕ × List (Option ℕ)
seen shown = (shown.version (1, bb), map (λ n. shown.file (n, bb)) (1 ∷ 2 ∷ 3 ∷ []))

-- of an index alone, where no file is named, and where files are
worked-version_by : (index : Index) → index.store ≡ two_packages
    → map (λ chosen. seen (version_by chosen index)) (Canonical ∷ Spelled ∷ [])
    ≡ (codes "2", None ∷ None ∷ None ∷ []) ∷ (codes "1", None ∷ None ∷ None ∷ []) ∷ []
worked-version_by index =
    ap (λ store. map (λ chosen. seen (version_shown chosen (spellings_in store)))
    (Canonical ∷ Spelled ∷ []))

worked-files_by : (index : Index) → index.store ≡ two_packages
    → map (λ chosen. seen (files_by chosen index)) (Canonical ∷ Spelled ∷ [])
    ≡ (codes "2", Some 1 ∷ Some 2 ∷ None ∷ []) ∷ (codes "1", Some 1 ∷ Some 2 ∷ None ∷ []) ∷ []
worked-files_by index =
    ap (λ store. map
    (λ chosen. seen
    (with_files store.files.items (version_shown chosen (spellings_in store))))
    (Canonical ∷ Spelled ∷ []))

-- what is kept of three answers: none meets the first group, both meet the second, and the third is
-- ignored
abbrev three_spans : List AnswerSpan
three_spans = span_of (codes "dd") Unmet [] ∷ span_of (codes "aa | bb") Met (1 ∷ 2 ∷ [])
    ∷ span_of (codes "cc [i386]") Ignored [] ∷ []

abbrev store : AnswerStore
store = record {
  texts = vector (codes "ddaa | bbcc [i386]") refl;
  numbers = vector (1 ∷ 2 ∷ []) refl;
  spans = vector three_spans refl;
}

abbrev three_answers : List Answer
three_answers = record { text = codes "dd"; verdict = Unmet; packages = [] }
    ∷ record { text = codes "aa | bb"; verdict = Met; packages = (1, aa) ∷ (2, bb) ∷ [] }
    ∷ record { text = codes "cc [i386]"; verdict = Ignored; packages = [] } ∷ []

worked-store : answers_in (aa ∷ bb ∷ []) store ≡ three_answers
worked-store = refl

-- the answers of a report with their lines, all of them and those that are left
worked-report : (index : Index) (listed : AreNumbers (packages_of index) (1 ∷ 2 ∷ []))
    → index.store ≡ two_packages
    → details_of (record {
      report = record { index = lent index; answers = store; listed = listed };
      reasons = vector (codes "xxy") refl;
      lens = vector (2 ∷ 1 ∷ 0 ∷ []) refl;
    }) ≡ details_cut three_answers (codes "xxy") (2 ∷ 1 ∷ 0 ∷ [])
worked-report index listed =
    ap (λ kept. details_cut (answers_in (listed_in kept) store) (codes "xxy") (2 ∷ 1 ∷ 0 ∷ []))

worked-left : (index : Index) (listed : AreNumbers (packages_of index) (1 ∷ 2 ∷ []))
    → index.store ≡ two_packages
    → details_left (record {
      answers = record {
        index = lent index;
        texts = lent (codes "ddaa | bbcc [i386]");
        numbers = lent (1 ∷ 2 ∷ []);
        spans = lent three_spans;
        listed = listed;
      };
      reasons = lent (codes "xxy");
      lens = lent (2 ∷ 1 ∷ 0 ∷ []);
    }) ≡ details_cut three_answers (codes "xxy") (2 ∷ 1 ∷ 0 ∷ [])
worked-left index listed =
    ap (λ kept. details_cut (answers_in (listed_in kept) store) (codes "xxy") (2 ∷ 1 ∷ 0 ∷ []))

-- an answer with its lines, and its packages
worked-answer : (index : Index) (listed : AreNumbers (packages_of index) (2 ∷ []))
    → index.store ≡ two_packages
    → detailed_of (record {
      answer = record {
        text = lent (codes "bb");
        verdict = Met;
        packages = record { index = lent index; numbers = lent (2 ∷ []); listed = listed };
      };
      reasons = lent (codes "x");
    }) ≡ record {
      answer = record { text = codes "bb"; verdict = Met; packages = (2, bb) ∷ [] };
      reasons = codes "x";
    }
worked-answer index listed = ap (λ kept. record {
  answer =
      record { text = codes "bb"; verdict = Met; packages = numbered (listed_in kept) (2 ∷ []) };
  reasons = codes "x";
})

worked-counts : (index : Index) (listed : AreNumbers (packages_of index) (1 ∷ 2 ∷ []))
    → index.store ≡ two_packages
    → counts_detailed (record {
      report = record { index = lent index; answers = store; listed = listed };
      reasons = vector [] refl;
      lens = vector [] refl;
    }) ≡ 1 ∷ 1 ∷ []
worked-counts index listed = ap (λ kept. kept.files.items)

worked-reported : (index : Index) (listed : AreNumbers (packages_of index) (1 ∷ 2 ∷ []))
    → index.store ≡ two_packages
    → spellings_detailed (record {
      report = record { index = lent index; answers = store; listed = listed };
      reasons = vector [] refl;
      lens = vector [] refl;
    }) ≡ codes "1" ∷ codes "2" ∷ []
worked-reported index listed = ap spellings_in

-- what separates a file from a further one
worked-two_newlines : two_newlines ≡ 10 ∷ 10 ∷ []
worked-two_newlines = refl
