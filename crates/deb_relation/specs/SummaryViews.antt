-- What the summaries of the code represent.
use Rattle.std.specs.Prelude.{◌≡◌, ℕ, true, false, List, Option, Some, None, codes, refl}
use Rattle.std.specs.Option.{option_map}
use denote.Ref.{Bor}
use Rattle.deb_relation.specs.declared.group_summary.GroupSummary.{GroupSummary}
use Rattle.deb_relation.specs.declared.kept_text.KeptText.TheVariants.{Lent}
use Rattle.deb_relation.specs.KeptTexts.{bytes_of}
use Rattle.deb_relation.specs.Summaries.{Summary, summary_with}
use Rattle.deb_base.specs.Literals.{lent}

abbrev pub told_of : GroupSummary → Summary
told_of group = summary_with (bytes_of group.text) group.has_two group.only_equals

-- the text by which groups are ordered
abbrev pub told_key : GroupSummary → List ℕ
told_key group = bytes_of group.text

-- a piece's summary and the text after it
abbrev pub told_behind : Option GroupSummary × Bor (List ℕ) → Option Summary × List ℕ
told_behind p = (option_map told_of p.0, p.1.now)

-- a group of one name and a bound
abbrev bounded : GroupSummary
bounded = record {
  text = Lent (lent (codes "aa (>= 1)"));
  has_two = false;
  only_equals = false;
}

worked-told : told_of bounded ≡ summary_with (codes "aa (>= 1)") false false
worked-told = refl

-- the tests aren't taken for each other
worked-tests : told_of
    (record { text = Lent (lent (codes "aa | bb")); has_two = true; only_equals = false })
    ≡ record { text = codes "aa | bb"; has_two = true; only_equals = false }
worked-tests = refl

worked-key : told_key bounded ≡ codes "aa (>= 1)"
worked-key = refl

worked-behind : (told_behind (Some bounded, lent (codes ",cc"))
    ≡ (Some (summary_with (codes "aa (>= 1)") false false), codes ",cc"))
    × (told_behind (None, lent (codes ",cc")) ≡ (None, codes ",cc"))
worked-behind = (refl, refl)
